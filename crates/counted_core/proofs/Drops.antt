-- What the code does to drop a dead object is what the model's `dropped` is, and keeps counts exact.
use Rattle.std.proofs.Common.{◌≡◌, ℕ, ◌+◌, ◌≤◌, Bool, true, false, cond, ◌&&◌, ◌||◌, ◌==◌, inl, inr, List, [], ◌∷◌, ◌++◌, map, not, Option, Some, None, refl, sym, ◌∙◌, ap, subst, arith, tests}
use Rattle.std.specs.List.{filter}
use Rattle.std.specs.Option.{option_map, option_map_or, option_and_then}
use Rattle.std.proofs.lemmas.List.Sums.{sum_by-cons}
use Rattle.kernel_values.specs.declared.state.Body.{Body}
use Rattle.kernel_values.specs.declared.state.Body.TheVariants as body
use Rattle.kernel_values.specs.declared.state.ChannelEnd.{ChannelEnd}
use Rattle.kernel_values.specs.declared.state.CoreState.{CoreState}
use Rattle.kernel_values.specs.declared.state.EndState.TheVariants as end_state
use Rattle.kernel_values.specs.declared.state.Object.{Object}
use Rattle.kernel_values.specs.declared.state.Port.{Port}
use Rattle.kernel_laws.proofs.Found.{found, found_is}
use Rattle.kernel_types.specs.Connects.{peer_of}
use Rattle.kernel_types.specs.Messages.{has_id}
use Rattle.kernel_types.specs.Names.{named_in}
use Rattle.kernel_types.specs.Objects.{as_end, end_in, end_of, is_there, on_body, on_end, on_port}
use Rattle.kernel_types.specs.Reach.{is_in}
use Rattle.kernel_types.specs.Sweep.{is_live}
use Rattle.object_store.specs.Stock.{Held, IsSoundFrom, changed, held_at, last_at, last_named, names_at, unnamed, value_at, with_value}
use Rattle.count_laws.specs.Dropping.{all_cut, all_unlisted, cut_from, dropped, is_other, others, unlisted}
use Rattle.count_laws.specs.Thinning.{Fit, In, IsPending}
use Rattle.count_laws.proofs.Holding.{in_there, of_filter, of_map}
use Rattle.counted_core.specs.Held.{IsLister, IsOwed, changed_if, dropped_items, listed_by, lists, lists_at, object_of_held, objects_of, on_value, peer_in, pending_in, tally, times}
use Rattle.counted_core.proofs.Owing.{Settled, Taken, absent_names, below_absent, settles, takes}

-- Values by their numbers.

pub held_found : (items : List (Held Body)) (o : ℕ) → found (objects_of items) o ≡ option_map object_of_held (held_at items o)
held_found [] o = refl
held_found (h ∷ rest) o =
    elim (h.serial == o) as (λ b. cond b (Some (object_of_held h)) (found (objects_of rest) o) ≡ option_map object_of_held (cond b (Some h) (held_at rest o))) [
      | true ↦ refl
      | false ↦ held_found rest o
    ]

peer_body : (b : Body) → peer_of (end_in b) ≡ peer_in b
peer_body (body.Port port) = refl
peer_body (body.End end) = refl
peer_body (body.Set set) = refl
peer_body (body.Memory memory) = refl

last_peer : (o : Option (Held Body)) (b : Body) → option_and_then last_named o ≡ Some b → peer_of (as_end (option_map object_of_held o)) ≡ peer_in b
last_peer None b is = absurd (cc)
last_peer (Some h) b is =
    let P : Bool → Type 0 = λ t. cond t (Some h.value) None ≡ Some b → peer_of (end_in h.value) ≡ peer_in b in
    let go : (t : Bool) → P t = λ t. elim t as (λ v. P v) [ true ↦ (λ e. let same : h.value ≡ b = cc in peer_body h.value ∙ ap peer_in same) | false ↦ (λ e. absurd (cc)) ] in
    go (h.names == 1) is

last_names : (o : Option (Held Body)) (b : Body) → option_and_then last_named o ≡ Some b → option_map_or (λ (h : Held Body). h.names) o 0 ≡ 1
last_names None b is = absurd (cc)
last_names (Some h) b is =
    let P : Bool → Type 0 = λ t. (h.names == 1) ≡ t → cond t (Some h.value) None ≡ Some b → h.names ≡ 1 in
    let go : (t : Bool) → P t = λ t. elim t as (λ v. P v) [ true ↦ (λ k e. grind (arith, tests)) | false ↦ (λ k e. absurd (cc)) ] in
    go (h.names == 1) refl is

last_there : (items : List (Held Body)) (x : ℕ) (b : Body) → last_at items x ≡ Some b → is_there (objects_of items) x ≡ true
last_there items x b is =
    let P : Bool → Type 0 = λ t. is_there (objects_of items) x ≡ t → t ≡ true in
    let go : (t : Bool) → P t = λ t. elim t as (λ v. P v) [
      | true ↦ (λ e. refl)
      | false ↦ (λ e. let none : names_at items x ≡ 0 = absent_names items x e in let one : names_at items x ≡ 1 = last_names (held_at items x) b is in absurd (omega (arith, none, one)))
    ] in
    go (is_there (objects_of items) x) refl

-- A change of one value.

pub changed_sound : (f : Body → Body) (low next at : ℕ) (items : List (Held Body)) → IsSoundFrom low items next → IsSoundFrom low (changed items at (on_value f)) next
changed_sound f low next at [] sound = tt
changed_sound f low next at (h ∷ rest) sound =
    let more : IsSoundFrom (h.serial + 1) (changed rest at (on_value f)) next = changed_sound f (h.serial + 1) next at rest sound.3 in
    elim (h.serial == at) as (λ b. IsSoundFrom low (cond b (on_value f h) h ∷ changed rest at (on_value f)) next) [
      | true ↦ (sound.0, sound.1, sound.2, more)
      | false ↦ (sound.0, sound.1, sound.2, more)
    ]

pub changed_names : (f : Body → Body) (at : ℕ) (items : List (Held Body)) (o : ℕ) → names_at (changed items at (on_value f)) o ≡ names_at items o
changed_names f at [] o = refl
changed_names f at (h ∷ rest) o =
    let names : Option (Held Body) → ℕ = λ k. option_map_or (λ (x : Held Body). x.names) k 0 in
    let more : names (held_at (changed rest at (on_value f)) o) ≡ names (held_at rest o) = changed_names f at rest o in
    let P : Bool → Type 0 = λ a. names (cond ((cond a (on_value f h) h).serial == o) (Some (cond a (on_value f h) h)) (held_at (changed rest at (on_value f)) o)) ≡ names (cond (h.serial == o) (Some h) (held_at rest o)) in
    elim (h.serial == at) as (λ a. P a) [
      | true ↦ elim (h.serial == o) as (λ b. names (cond b (Some (on_value f h)) (held_at (changed rest at (on_value f)) o)) ≡ names (cond b (Some h) (held_at rest o))) [ true ↦ refl | false ↦ more ]
      | false ↦ elim (h.serial == o) as (λ b. names (cond b (Some h) (held_at (changed rest at (on_value f)) o)) ≡ names (cond b (Some h) (held_at rest o))) [ true ↦ refl | false ↦ more ]
    ]

pub changed_there : (f : Body → Body) (at : ℕ) (items : List (Held Body)) (o : ℕ) → is_there (objects_of (changed items at (on_value f))) o ≡ is_there (objects_of items) o
changed_there f at [] o = refl
changed_there f at (h ∷ rest) o =
    let more : is_there (objects_of (changed rest at (on_value f))) o ≡ is_there (objects_of rest) o = changed_there f at rest o in
    elim (h.serial == at) as (λ a. ((cond a (on_value f h) h).serial == o) || is_there (objects_of (changed rest at (on_value f))) o ≡ (h.serial == o) || is_there (objects_of rest) o) [
      | true ↦ ap (λ t. (h.serial == o) || t) more
      | false ↦ ap (λ t. (h.serial == o) || t) more
    ]

pub unchanged : (items : List (Held Body)) (at : ℕ) (f : Held Body → Held Body) → is_there (objects_of items) at ≡ false → changed items at f ≡ items
unchanged [] at f is = refl
unchanged (h ∷ rest) at f is =
    let P : Bool → Type 0 = λ a. (a || is_there (objects_of rest) at) ≡ false → cond a (f h) h ∷ changed rest at f ≡ h ∷ rest in
    let go : (a : Bool) → P a = λ a. elim a as (λ w. P w) [ true ↦ (λ e. absurd (cc)) | false ↦ (λ e. ap (λ l. h ∷ l) (unchanged rest at f e)) ] in
    go (h.serial == at) is

-- the value that a store hands out, changed, is the value changed in its place
pub changed_value : (f : Body → Body) (low next at : ℕ) (v : Body) (items : List (Held Body)) → IsSoundFrom low items next → value_at items at ≡ Some v
    → changed items at (with_value (f v)) ≡ changed items at (on_value f)
changed_value f low next at v [] sound is = refl
changed_value f low next at v (h ∷ rest) sound is =
    let P : Bool → Type 0 = λ a. (h.serial == at) ≡ a → option_map (λ (k : Held Body). k.value) (cond a (Some h) (held_at rest at)) ≡ Some v
    → cond a (with_value (f v) h) h ∷ changed rest at (with_value (f v)) ≡ cond a (on_value f h) h ∷ changed rest at (on_value f) in
    let go : (a : Bool) → P a = λ a. elim a as (λ w. P w) [
      | true ↦ (λ e k.
          let same : h.value ≡ v = cc in
          let eq : h.serial ≡ at = grind (arith, tests) in
          let gone : is_there (objects_of rest) at ≡ false = below_absent (h.serial + 1) next rest at sound.3 (omega arith) in
          ap (λ (z : Body). record h { value = f z } ∷ changed rest at (with_value (f v))) (sym same)
          ∙ ap (λ l. on_value f h ∷ l) (unchanged rest at (with_value (f v)) gone ∙ sym (unchanged rest at (on_value f) gone)))
      | false ↦ (λ e k. ap (λ l. h ∷ l) (changed_value f (h.serial + 1) next at v rest sound.3 k))
    ] in
    go (h.serial == at) refl is

-- what a change makes of the tally
pub tally_changed : (f : Body → Body) (d : ℕ) (o low next at : ℕ) (v : Body) (items : List (Held Body)) → IsSoundFrom low items next → value_at items at ≡ Some v
    → times (named_in v) o ≡ times (named_in (f v)) o + d → tally (objects_of items) o ≡ tally (objects_of (changed items at (on_value f))) o + d
tally_changed f d o low next at v [] sound is less = absurd (cc)
tally_changed f d o low next at v (h ∷ rest) sound is less =
    let P : Bool → Type 0 = λ a. (h.serial == at) ≡ a → option_map (λ (k : Held Body). k.value) (cond a (Some h) (held_at rest at)) ≡ Some v
    → times (named_in h.value) o + tally (objects_of rest) o ≡ times (named_in (cond a (on_value f h) h).value) o + tally (objects_of (changed rest at (on_value f))) o + d in
    let go : (a : Bool) → P a = λ a. elim a as (λ w. P w) [
      | true ↦ (λ e k.
          let same : h.value ≡ v = cc in
          let eq : h.serial ≡ at = grind (arith, tests) in
          let gone : is_there (objects_of rest) at ≡ false = below_absent (h.serial + 1) next rest at sound.3 (omega arith) in
          let here : times (named_in h.value) o ≡ times (named_in (f h.value)) o + d = subst (λ (z : Body). times (named_in z) o ≡ times (named_in (f z)) o + d) (sym same) less in
          let stays : tally (objects_of (changed rest at (on_value f))) o ≡ tally (objects_of rest) o = ap (λ l. tally (objects_of l) o) (unchanged rest at (on_value f) gone) in
          omega (arith, here, stays))
      | false ↦ (λ e k. let more : tally (objects_of rest) o ≡ tally (objects_of (changed rest at (on_value f))) o + d = tally_changed f d o (h.serial + 1) next at v rest sound.3 k less in omega (arith, more))
    ] in
    go (h.serial == at) refl is

-- a change of one value is a change of all, where it leaves the others
pub changed_all : (f : Body → Body) (at : Option ℕ) (items : List (Held Body)) → ((y : Object) → In y (objects_of items) → (at ≡ Some y.id → ⊥) → f y.body ≡ y.body)
    → objects_of (changed_if f at items) ≡ map (on_body f) (objects_of items)
changed_all f None [] same = refl
changed_all f (Some at) [] same = refl
changed_all f None (h ∷ rest) same =
    ap (λ (b : Body). record { id = h.serial; body = b } ∷ objects_of rest) (sym (same (object_of_held h) (inl refl) (λ bad. cc)))
    ∙ ap (λ l. record { id = h.serial; body = f h.value } ∷ l) (changed_all f None rest (λ y i. same y (inr i)))
changed_all f (Some at) (h ∷ rest) same =
    let more : objects_of (changed rest at (on_value f)) ≡ map (on_body f) (objects_of rest) = changed_all f (Some at) rest (λ y i. same y (inr i)) in
    let P : Bool → Type 0 = λ a. (h.serial == at) ≡ a → object_of_held (cond a (on_value f h) h) ≡ on_body f (object_of_held h) in
    let go : (a : Bool) → P a = λ a. elim a as (λ w. P w) [
      | true ↦ (λ e. refl)
      | false ↦ (λ e. ap (λ (b : Body). record { id = h.serial; body = b }) (sym (same (object_of_held h) (inl refl)
          (λ is. let eq : at ≡ h.serial = cc in let yes : (h.serial == at) ≡ true = grind (arith, tests) in cc))))
    ] in
    ap (λ z. z ∷ objects_of (changed rest at (on_value f))) (go (h.serial == at) refl) ∙ ap (λ l. on_body f (object_of_held h) ∷ l) more

-- Objects and values.

pub in_value : (low next : ℕ) (items : List (Held Body)) (y : Object) → IsSoundFrom low items next → In y (objects_of items) → value_at items y.id ≡ Some y.body
in_value low next [] y sound i = absurd i
in_value low next (h ∷ rest) y sound (inl e) =
    let here : (y.id == y.id) ≡ true = grind (arith, tests) in
    let test : (h.serial == y.id) ≡ true = ap (λ (z : Object). z.id == y.id) e ∙ here in
    ap (λ (b : Bool). option_map (λ (k : Held Body). k.value) (cond b (Some h) (held_at rest y.id))) test ∙ ap (λ (z : Object). Some z.body) e
in_value low next (h ∷ rest) y sound (inr i) =
    let more : value_at rest y.id ≡ Some y.body = in_value (h.serial + 1) next rest y sound.3 i in
    let P : Bool → Type 0 = λ b. (h.serial == y.id) ≡ b → option_map (λ (k : Held Body). k.value) (cond b (Some h) (held_at rest y.id)) ≡ Some y.body in
    let go : (b : Bool) → P b = λ b. elim b as (λ v. P v) [
      | true ↦ (λ e.
          let eq : h.serial ≡ y.id = grind (arith, tests) in
          let gone : is_there (objects_of rest) y.id ≡ false = below_absent (h.serial + 1) next rest y.id sound.3 (omega arith) in
          let there : is_there (objects_of rest) y.id ≡ true = in_there (objects_of rest) y i in
          let bad : true ≡ false = sym there ∙ gone in absurd (cc))
      | false ↦ (λ e. more)
    ] in
    go (h.serial == y.id) refl

record Valued (items : List (Held Body)) (at : ℕ) (v : Body) : Type 0 where
  y : Object
  within : In y (objects_of items)
  id : y.id ≡ at
  is : y.body ≡ v

value_in : (items : List (Held Body)) (at : ℕ) (v : Body) → value_at items at ≡ Some v → Valued items at v
value_in [] at v is = absurd (cc)
value_in (h ∷ rest) at v is =
    let P : Bool → Type 0 = λ b. (h.serial == at) ≡ b → option_map (λ (k : Held Body). k.value) (cond b (Some h) (held_at rest at)) ≡ Some v → Valued (h ∷ rest) at v in
    let go : (b : Bool) → P b = λ b. elim b as (λ w. P w) [
      | true ↦ (λ e k. let eq : h.serial ≡ at = grind (arith, tests) in let same : h.value ≡ v = cc in record { y = object_of_held h; within = inl refl; id = eq; is = same })
      | false ↦ (λ e k. let more : Valued rest at v = value_in rest at v k in record { y = more.y; within = inr more.within; id = more.id; is = more.is })
    ] in
    go (h.serial == at) refl is

-- Lists of numbers.

times_first : (x : ℕ) (xs : List ℕ) (o : ℕ) → times (x ∷ xs) o ≡ cond (x == o) 1 0 + times xs o
times_first x xs o = sum_by-cons (λ y. cond (y == o) 1 0) x xs

pub times_in : (xs : List ℕ) (o : ℕ) → is_in xs o ≡ true → 1 ≤ times xs o
times_in [] o is = absurd (cc)
times_in (x ∷ xs) o is =
    let P : Bool → Type 0 = λ b. (b || is_in xs o) ≡ true → 1 ≤ cond b 1 0 + times xs o in
    let go : (b : Bool) → P b = λ b. elim b as (λ v. P v) [ true ↦ (λ e. omega arith) | false ↦ (λ e. omega (arith, times_in xs o e)) ] in
    subst (λ k. 1 ≤ k) (sym (times_first x xs o)) (go (x == o) is)

times_without : (s o : ℕ) (xs : List ℕ) → times xs o ≡ times (filter (λ x. not (s == x)) xs) o + cond (s == o) (times xs s) 0
times_without s o [] = elim (s == o) as (λ b. 0 ≡ 0 + cond b 0 0) [ true ↦ refl | false ↦ refl ]
times_without s o (x ∷ xs) =
    let left : List ℕ = filter (λ y. not (s == y)) xs in
    let more : times xs o ≡ times left o + cond (s == o) (times xs s) 0 = times_without s o xs in
    let one : times (x ∷ xs) o ≡ cond (x == o) 1 0 + times xs o = times_first x xs o in
    let two : times (x ∷ xs) s ≡ cond (x == s) 1 0 + times xs s = times_first x xs s in
    let three : times (x ∷ left) o ≡ cond (x == o) 1 0 + times left o = times_first x left o in
    let P : Bool → Bool → Bool → Bool → Type 0 = λ sx so xo xs_. (s == x) ≡ sx → (s == o) ≡ so → (x == o) ≡ xo → (x == s) ≡ xs_
    → cond xo 1 0 + times xs o ≡ times (cond (not sx) (x ∷ left) left) o + cond so (cond xs_ 1 0 + times xs s) 0 in
    let base : times xs o ≡ times left o + cond (s == o) (times xs s) 0 = more in
    let go : (sx : Bool) → P sx (s == o) (x == o) (x == s) = λ sx. elim sx as (λ v. P v (s == o) (x == o) (x == s)) [
      | true ↦ (λ a b c d.
          let eq : s ≡ x = grind (arith, tests) in
          let same : (x == o) ≡ (s == o) = ap (λ k. k == o) (sym eq) in
          let yes : (x == s) ≡ true = grind (arith, tests) in
          let Q : Bool → Type 0 = λ t. times xs o ≡ times left o + cond t (times xs s) 0 → cond t 1 0 + times xs o ≡ times left o + cond t (1 + times xs s) 0 in
          let run : (t : Bool) → Q t = λ t. elim t as (λ v. Q v) [ true ↦ (λ k. omega (arith, k)) | false ↦ (λ k. omega (arith, k)) ] in
          ap (λ (t : Bool). cond t 1 0 + times xs o) same ∙ (run (s == o) more ∙ ap (λ (t : Bool). times left o + cond (s == o) (cond t 1 0 + times xs s) 0) (sym yes)))
      | false ↦ (λ a b c d.
          let no_x : (x == s) ≡ false = grind (arith, tests) in
          let Q : Bool → Type 0 = λ t. times xs o ≡ times left o + cond t (times xs s) 0 → cond (x == o) 1 0 + times xs o ≡ times (x ∷ left) o + cond t (0 + times xs s) 0 in
          let run : (t : Bool) → Q t = λ t. elim t as (λ v. Q v) [ true ↦ (λ k. omega (arith, k, three)) | false ↦ (λ k. omega (arith, k, three)) ] in
          run (s == o) more ∙ ap (λ (t : Bool). times (x ∷ left) o + cond (s == o) (cond t 1 0 + times xs s) 0) (sym no_x))
    ] in
    one ∙ (go (s == x) refl refl refl refl ∙ ap (λ k. times (cond (not (s == x)) (x ∷ left) left) o + cond (s == o) k 0) (sym two))

keep_all : (p : ℕ → Bool) (xs : List ℕ) → ((x : ℕ) → is_in xs x ≡ true → p x ≡ true) → filter p xs ≡ xs
keep_all p [] all = refl
keep_all p (x ∷ xs) all =
    let here : (x == x) ≡ true = grind (arith, tests) in
    ap (λ (b : Bool). cond b (x ∷ filter p xs) (filter p xs)) (all x (ap (λ b. b || is_in xs x) here))
    ∙ ap (λ l. x ∷ l) (keep_all p xs (λ y h. all y (elim (x == y) as (λ b. (b || is_in xs y) ≡ true) [ true ↦ refl | false ↦ h ])))

end_was_at : (p : Option ℕ) (b : Body) (q : ChannelEnd) → on_port (unlisted p) b ≡ body.End q → b ≡ body.End q
end_was_at p (body.Port port) q e = absurd (cc e)
end_was_at p (body.End end) q e = e
end_was_at p (body.Set set) q e = absurd (cc e)
end_was_at p (body.Memory memory) q e = absurd (cc e)

cut_same_names : (x : ℕ) (b : Body) → named_in (on_end (cut_from x) b) ≡ named_in b
cut_same_names x (body.Port port) = refl
cut_same_names x (body.End end) = refl
cut_same_names x (body.Set set) = refl
cut_same_names x (body.Memory memory) = refl

tally_cut : (x : ℕ) (os : List Object) (o : ℕ) → tally (all_cut x os) o ≡ tally os o
tally_cut x [] o = refl
tally_cut x (y ∷ os) o = ap (λ l. times l o + tally (all_cut x os) o) (cut_same_names x y.body) ∙ ap (λ k. times (named_in y.body) o + k) (tally_cut x os o)

-- The whole drop.

pub record Dropped (roots : ℕ → ℕ) (next x : ℕ) (k : CoreState) (items out : List (Held Body)) : Type 0 where
  pub sound : IsSoundFrom 0 out next
  pub same : record k { objects = objects_of out } ≡ dropped x (record k { objects = objects_of items })
  pub owed : IsOwed roots out []

module _ (roots : ℕ → ℕ) (k : CoreState) (items : List (Held Body)) (next x : ℕ) (b : Body) (port : Option ℕ)
    (fit : Fit (record k { objects = objects_of items })) (sound : IsSoundFrom 0 items next) (owed : IsOwed roots items []) (last : last_at items x ≡ Some b)
    (lister : IsLister (unnamed items x) (peer_in b) port) where
  abbrev items1 : List (Held Body)
  items1 = unnamed items x

  abbrev items2 : List (Held Body)
  items2 = changed_if (on_port (unlisted (peer_in b))) port items1

  abbrev items3 : List (Held Body)
  items3 = changed_if (on_end (cut_from x)) (peer_in b) items2

  taken : Taken 0 next x items items1 b
  taken = takes 0 next x items b sound last

  peer_is : peer_of (end_of (objects_of items) x) ≡ peer_in b
  peer_is = ap (λ o. peer_of (as_end o)) (found_is (objects_of items) x ∙ held_found items x) ∙ last_peer (held_at items x) b last

  was_in : (y : Object) → In y (objects_of items1) → In y (objects_of items)
  was_in y i = (of_filter (λ o. is_other x o.id) (objects_of items) y (subst (λ l. In y l) taken.same i)).0

  owed1 : IsOwed roots items1 (named_in b)
  owed1 = record {
    counts = λ o.
        let was : names_at items o ≡ roots o + tally (objects_of items) o + 0 + cond (is_there (objects_of items) o) 1 0 = owed.counts o in
        let less : tally (objects_of items) o ≡ tally (objects_of items1) o + times (named_in b) o = taken.less o in
        let P : Bool → Type 0 = λ t. (x == o) ≡ t → cond t 0 (names_at items o) ≡ roots o + tally (objects_of items1) o + times (named_in b) o + cond (not t && is_there (objects_of items) o) 1 0 in
        let go : (t : Bool) → P t = λ t. elim t as (λ v. P v) [
          | true ↦ (λ e.
              let same : x ≡ o = grind (arith, tests) in
              let one : names_at items o ≡ 1 = subst (λ n. names_at items n ≡ 1) same (last_names (held_at items x) b last) in
              let there : is_there (objects_of items) o ≡ true = subst (λ n. is_there (objects_of items) n ≡ true) same (last_there items x b last) in
              let full : names_at items o ≡ roots o + tally (objects_of items) o + 0 + 1 = was ∙ ap (λ (t : Bool). roots o + tally (objects_of items) o + 0 + cond t 1 0) there in
              omega (arith, one, full, less))
          | false ↦ (λ e. omega (arith, was, less))
        ] in
        taken.names o ∙ (go (x == o) refl ∙ ap (λ (t : Bool). roots o + tally (objects_of items1) o + times (named_in b) o + cond t 1 0) (sym (taken.there o)));
  }

  -- the pending entry
  is_pending : (at server : ℕ) (v : Body) → value_at items1 at ≡ Some v → is_in (pending_in v) server ≡ true
      → (p : IsPending (objects_of items) server) × (p.at.id ≡ at) × (v ≡ body.Port p.port)
  is_pending at server (body.Port q) is lists =
      let found : Valued items1 at (body.Port q) = value_in items1 at (body.Port q) is in
      (record { at = found.y; port = q; within = was_in found.y found.within; is = found.is; lists = lists }, found.id, refl)
  is_pending at server (body.End q) is lists = absurd (cc lists)
  is_pending at server (body.Set q) is lists = absurd (cc lists)
  is_pending at server (body.Memory q) is lists = absurd (cc lists)

  pending_at : (at server : ℕ) (o : Option Body) → value_at items1 at ≡ o → lists o server ≡ true → (p : IsPending (objects_of items) server) × (p.at.id ≡ at) × (value_at items1 at ≡ Some (body.Port p.port))
  pending_at at server None is l = absurd (cc l)
  pending_at at server (Some v) is l = let got : (p : IsPending (objects_of items) server) × (p.at.id ≡ at) × (v ≡ body.Port p.port) = is_pending at server v is l in
      (got.0, got.1, is ∙ ap Some got.2)

  not_listed : (y : Object) (q : Port) → In y (objects_of items1) → y.body ≡ body.Port q → (server : ℕ) (p : Option ℕ) → IsLister items1 (Some server) p → (p ≡ Some y.id → ⊥) → is_in q.pending server ≡ false
  not_listed y q i is server p lister other =
      let value : value_at items1 y.id ≡ Some y.body = in_value 0 next items1 y taken.sound i in
      let here : lists_at items1 y.id server ≡ is_in q.pending server = ap (λ o. lists o server) (value ∙ ap Some is) in
      let P : Bool → Type 0 = λ t. is_in q.pending server ≡ t → t ≡ false in
      let go : (t : Bool) → P t = λ t. elim t as (λ v. P v) [
        | true ↦ (λ e.
            let mine : IsPending (objects_of items) server = record { at = y; port = q; within = was_in y i; is = is; lists = e } in
            let Q : Option ℕ → Type 0 = λ o. IsLister items1 (Some server) o → (o ≡ Some y.id → ⊥) → true ≡ false in
            let run : (o : Option ℕ) → Q o = λ o. elim o as (λ w. Q w) [
              | None ↦ (λ none no_other. sym e ∙ (sym here ∙ none y.id))
              | Some at ↦ (λ l no_other.
                  let got : (p : IsPending (objects_of items) server) × (p.at.id ≡ at) × (value_at items1 at ≡ Some (body.Port p.port)) = pending_at at server (value_at items1 at) refl l in
                  let eq : at ≡ y.id = sym got.1 ∙ fit.once server got.0 mine in
                  absurd (no_other (ap Some eq)))
            ] in
            run p lister other)
        | false ↦ (λ e. refl)
      ] in
      go (is_in q.pending server) refl

  unlisted_same : (y : Object) → In y (objects_of items1) → (port ≡ Some y.id → ⊥) → (z : Body) → y.body ≡ z → on_port (unlisted (peer_in b)) z ≡ z
  unlisted_same y i other (body.Port q) is =
      let P : Option ℕ → Type 0 = λ o. IsLister items1 o port → filter (λ server. not (has_id server o)) q.pending ≡ q.pending in
      let go : (o : Option ℕ) → P o = λ o. elim o as (λ v. P v) [
        | None ↦ (λ l. keep_all (λ server. true) q.pending (λ s h. refl))
        | Some sv ↦ (λ l. keep_all (λ server. not (sv == server)) q.pending (λ s h.
            let absent : is_in q.pending sv ≡ false = not_listed y q i is sv port l other in
            let R : Bool → Type 0 = λ t. (sv == s) ≡ t → not t ≡ true in
            let run : (t : Bool) → R t = λ t. elim t as (λ v. R v) [
              | true ↦ (λ e. let same : sv ≡ s = grind (arith, tests) in let bad : true ≡ false = sym h ∙ (ap (is_in q.pending) (sym same) ∙ absent) in absurd (cc))
              | false ↦ (λ e. refl)
            ] in
            run (sv == s) refl))
      ] in
      ap (λ l. body.Port (record q { pending = l })) (go (peer_in b) lister)
  unlisted_same y i other (body.End q) is = refl
  unlisted_same y i other (body.Set q) is = refl
  unlisted_same y i other (body.Memory q) is = refl

  objects2 : objects_of items2 ≡ all_unlisted (peer_in b) (objects_of items1)
  objects2 = changed_all (on_port (unlisted (peer_in b))) port items1 (λ y i other. unlisted_same y i other y.body refl)

  sound_if : (f : Body → Body) (at : Option ℕ) (l : List (Held Body)) → IsSoundFrom 0 l next → IsSoundFrom 0 (changed_if f at l) next
  sound_if f None l s = s
  sound_if f (Some at) l s = changed_sound f 0 next at l s

  names_if : (f : Body → Body) (at : Option ℕ) (l : List (Held Body)) (o : ℕ) → names_at (changed_if f at l) o ≡ names_at l o
  names_if f None l o = refl
  names_if f (Some at) l o = changed_names f at l o

  there_if : (f : Body → Body) (at : Option ℕ) (l : List (Held Body)) (o : ℕ) → is_there (objects_of (changed_if f at l)) o ≡ is_there (objects_of l) o
  there_if f None l o = refl
  there_if f (Some at) l o = changed_there f at l o

  less_listed : (p : Option ℕ) (at : Option ℕ) → peer_in b ≡ p → IsLister items1 p at → (o : ℕ)
      → tally (objects_of items1) o + times (named_in b) o ≡ tally (objects_of (changed_if (on_port (unlisted p)) at items1)) o + times (listed_by p at ++ named_in b) o
  less_listed None at e l o = subst (λ (a : Option ℕ). tally (objects_of items1) o + times (named_in b) o ≡ tally (objects_of (changed_if (on_port (unlisted None)) a items1)) o + times (listed_by None a ++ named_in b) o) (sym l) refl
  less_listed (Some sv) None e l o = refl
  less_listed (Some sv) (Some at) e l o =
      let got : (p : IsPending (objects_of items) sv) × (p.at.id ≡ at) × (value_at items1 at ≡ Some (body.Port p.port)) = pending_at at sv (value_at items1 at) refl l in
      let pending : List ℕ = got.0.port.pending in
      let least : 1 ≤ times pending sv = times_in pending sv got.0.lists in
      let most : times pending sv ≤ 1 = fit.single sv got.0 in
      let one : times pending sv ≡ 1 = omega (arith, least, most) in
      let split : times pending o ≡ times (filter (λ s. not (sv == s)) pending) o + cond (sv == o) 1 0 =
      times_without sv o pending ∙ ap (λ n. times (filter (λ s. not (sv == s)) pending) o + cond (sv == o) n 0) one in
      let less : tally (objects_of items1) o ≡ tally (objects_of (changed items1 at (on_value (on_port (unlisted (Some sv)))))) o + cond (sv == o) 1 0 =
      tally_changed (on_port (unlisted (Some sv))) (cond (sv == o) 1 0) o 0 next at (body.Port got.0.port) items1 taken.sound got.2 split in
      let debts : times (sv ∷ named_in b) o ≡ cond (sv == o) 1 0 + times (named_in b) o = times_first sv (named_in b) o in
      omega (arith, less, debts)

  owed2 : IsOwed roots items2 (listed_by (peer_in b) port ++ named_in b)
  owed2 = record {
    counts = λ o.
        let was : names_at items1 o ≡ roots o + tally (objects_of items1) o + times (named_in b) o + cond (is_there (objects_of items1) o) 1 0 = owed1.counts o in
        let less : tally (objects_of items1) o + times (named_in b) o ≡ tally (objects_of items2) o + times (listed_by (peer_in b) port ++ named_in b) o = less_listed (peer_in b) port refl lister o in
        let sum : names_at items1 o ≡ roots o + tally (objects_of items2) o + times (listed_by (peer_in b) port ++ named_in b) o + cond (is_there (objects_of items1) o) 1 0 = omega (arith, was, less) in
        names_if (on_port (unlisted (peer_in b))) port items1 o
        ∙ (sum ∙ ap (λ (t : Bool). roots o + tally (objects_of items2) o + times (listed_by (peer_in b) port ++ named_in b) o + cond t 1 0) (sym (there_if (on_port (unlisted (peer_in b))) port items1 o)));
  }

  -- the peer
  cut_same : (y : Object) → In y (objects_of items2) → (peer_in b ≡ Some y.id → ⊥) → (z : Body) → y.body ≡ z → on_end (cut_from x) z ≡ z
  cut_same y i other (body.Port q) is = refl
  cut_same y i other (body.End q) is =
      let from : (z : Object) × In z (objects_of items1) × (on_body (on_port (unlisted (peer_in b))) z ≡ y) = of_map (on_body (on_port (unlisted (peer_in b)))) (objects_of items1) y (subst (λ l. In y l) objects2 i) in
      let was : from.0.body ≡ body.End q = end_was_at (peer_in b) from.0.body q (ap (λ o. o.body) from.2 ∙ is) in
      let by_peer : is_live q.state ≡ true → (o : Option ℕ) → q.peer ≡ o → has_id x o ≡ false = λ live o.
      elim o as (λ v. q.peer ≡ v → has_id x v ≡ false) [
        | None ↦ (λ e. refl)
        | Some p ↦ (λ e.
            let P : Bool → Type 0 = λ t. (p == x) ≡ t → t ≡ false in
            let go : (t : Bool) → P t = λ t. elim t as (λ v. P v) [
              | true ↦ (λ f.
                  let same : p ≡ x = grind (arith, tests) in
                  let back : peer_of (end_of (objects_of items) x) ≡ Some from.0.id = fit.peers from.0 q x (was_in from.0 from.1) was live (e ∙ ap Some same) in
                  absurd (other (sym peer_is ∙ (back ∙ ap (λ (o : Object). Some o.id) from.2))))
              | false ↦ (λ f. refl)
            ] in
            go (p == x) refl)
      ] in
      let P : Bool → Type 0 = λ t. is_live q.state ≡ t → (is_live q.state && has_id x q.peer) ≡ false in
      let go : (t : Bool) → P t = λ t. elim t as (λ v. P v) [
        | true ↦ (λ live. ap (λ z. z && has_id x q.peer) live ∙ by_peer live q.peer refl)
        | false ↦ (λ live. ap (λ z. z && has_id x q.peer) live)
      ] in
      ap (λ (t : Bool). body.End (record q { state = cond t end_state.Disconnected q.state })) (go (is_live q.state) refl)
  cut_same y i other (body.Set q) is = refl
  cut_same y i other (body.Memory q) is = refl

  objects3 : objects_of items3 ≡ all_cut x (objects_of items2)
  objects3 = changed_all (on_end (cut_from x)) (peer_in b) items2 (λ y i other. cut_same y i other y.body refl)

  owed3 : IsOwed roots items3 (listed_by (peer_in b) port ++ named_in b)
  owed3 = record {
    counts = λ o.
        let was : names_at items2 o ≡ roots o + tally (objects_of items2) o + times (listed_by (peer_in b) port ++ named_in b) o + cond (is_there (objects_of items2) o) 1 0 = owed2.counts o in
        let same : tally (objects_of items3) o ≡ tally (objects_of items2) o = ap (λ l. tally l o) objects3 ∙ tally_cut x (objects_of items2) o in
        let sum : names_at items2 o ≡ roots o + tally (objects_of items3) o + times (listed_by (peer_in b) port ++ named_in b) o + cond (is_there (objects_of items2) o) 1 0 = omega (arith, was, same) in
        names_if (on_end (cut_from x)) (peer_in b) items2 o
        ∙ (sum ∙ ap (λ (t : Bool). roots o + tally (objects_of items3) o + times (listed_by (peer_in b) port ++ named_in b) o + cond t 1 0) (sym (there_if (on_end (cut_from x)) (peer_in b) items2 o)));
  }

  settled : Settled roots next items3 (dropped_items x port b items)
  settled = settles roots next (listed_by (peer_in b) port ++ named_in b) items3 (sound_if (on_end (cut_from x)) (peer_in b) items2 (sound_if (on_port (unlisted (peer_in b))) port items1 taken.sound)) owed3

  same_drop : record k { objects = objects_of items3 } ≡ dropped x (record k { objects = objects_of items })
  unfolding dropped
  same_drop =
      ap (λ l. record k { objects = l })
      (objects3 ∙ ap (all_cut x) (objects2 ∙ (ap (all_unlisted (peer_in b)) taken.same ∙ ap (λ p. all_unlisted p (others x (objects_of items))) (sym peer_is))))

  pub drops : Dropped roots next x k items (dropped_items x port b items)
  drops = record {
    sound = settled.sound;
    same = ap (λ l. record k { objects = l }) settled.same ∙ same_drop;
    owed = settled.owed;
  }
