-- What a loan of a value leaves, and what is absent past the last number.
use Rattle.std.proofs.Common.{◌≡◌, ℕ, ◌+◌, ◌<◌, ◌≤◌, Bool, true, false, cond, ◌||◌, ◌==◌, ◌⊎◌, inl, inr, List, [], ◌∷◌, Option, Some, None, refl, sym, ◌∙◌, ap, arith, tests}
use Rattle.std.specs.Prelude.{OnErr, OnOk, Result, Ok, Err}
use Rattle.std.specs.Option.{option_map}
use Rattle.kernel_values.specs.declared.state.Body.{Body}
use Rattle.kernel_types.specs.Objects.{is_there}
use Rattle.object_store.specs.Stock.{Held, IsSoundFrom, changed, held_at, value_at, with_value}
use Rattle.counted_core.specs.Held.{changed_if, lists, lists_at, objects_of, on_value}
use Rattle.counted_core.proofs.Drops.{changed_value, unchanged}

absent_is : (items : List (Held Body)) (o : ℕ) → value_at items o ≡ None → is_there (objects_of items) o ≡ false
absent_is [] o is = refl
absent_is (h ∷ rest) o is =
    let P : Bool → Type 0 = λ b. option_map (λ (k : Held Body). k.value) (cond b (Some h) (held_at rest o)) ≡ None → (b || is_there (objects_of rest) o) ≡ false in
    let go : (b : Bool) → P b = λ b. elim b as (λ v. P v) [ true ↦ (λ e. absurd (cc)) | false ↦ (λ e. absent_is rest o e) ] in
    go (h.serial == o) is

pub absent_value : (items : List (Held Body)) (o : ℕ) → is_there (objects_of items) o ≡ false → value_at items o ≡ None
absent_value [] o is = refl
absent_value (h ∷ rest) o is =
    let P : Bool → Type 0 = λ b. (b || is_there (objects_of rest) o) ≡ false → option_map (λ (k : Held Body). k.value) (cond b (Some h) (held_at rest o)) ≡ None in
    let go : (b : Bool) → P b = λ b. elim b as (λ v. P v) [ true ↦ (λ e. absurd (cc)) | false ↦ (λ e. absent_value rest o e) ] in
    go (h.serial == o) is

pub lent : (f : Body → Body) (items : List (Held Body)) (next serial n : ℕ) (arg : Option ℕ) (new v : Body) → IsSoundFrom 0 items next → arg ≡ Some n → serial ≡ n → new ≡ f v
    → value_at items serial ≡ Some v → changed items serial (with_value new) ≡ changed_if f arg items
lent f items next serial n arg new v sound is same new_is value =
    ap (λ b. changed items serial (with_value b)) new_is
    ∙ (changed_value f 0 next serial v items sound value ∙ (ap (λ m. changed items m (on_value f)) same ∙ sym (ap (λ o. changed_if f o items) is)))

pub lent_none : (f : Body → Body) (items : List (Held Body)) (serial n : ℕ) (arg : Option ℕ) → arg ≡ Some n → serial ≡ n → value_at items serial ≡ None → items ≡ changed_if f arg items
lent_none f items serial n arg is same value =
    sym (ap (λ o. changed_if f o items) is ∙ (ap (λ m. changed items m (on_value f)) (sym same) ∙ unchanged items serial (on_value f) (absent_is items serial value)))

pub above_absent : (low next : ℕ) (items : List (Held Body)) (o : ℕ) → IsSoundFrom low items next → next ≤ o → is_there (objects_of items) o ≡ false
above_absent low next [] o sound le = refl
above_absent low next (h ∷ rest) o sound le =
    let below : h.serial < next = sound.1 in
    let other : (h.serial == o) ≡ false = grind (arith, tests) in
    ap (λ b. b || is_there (objects_of rest) o) other ∙ above_absent (h.serial + 1) next rest o sound.3 le

pub none_lists : (items : List (Held Body)) (next x server : ℕ) → IsSoundFrom 0 items next → ((o : ℕ) → o < x → lists_at items o server ≡ false) → next ≤ x → (o : ℕ) → lists_at items o server ≡ false
none_lists items next x server sound none le o =
    let split : (o < x) ⊎ (x ≤ o) = grind arith in
    elim split [
      | inl lt ↦ none o lt
      | inr ge ↦ ap (λ v. lists v server) (absent_value items o (above_absent 0 next items o sound (omega (arith, ge, le))))
    ]

pub on_ok : {X Y : Type 0} (r : Result X Y) (P Q : Type 0) → OnOk r P → (P → Q) → OnOk r Q
on_ok (Ok x) P Q h f = f h
on_ok (Err e) P Q h f = tt

pub on_err : {X Y : Type 0} (r : Result X Y) (P Q : Type 0) → OnErr r P → (P → Q) → OnErr r Q
on_err (Ok x) P Q h f = tt
on_err (Err e) P Q h f = f h
