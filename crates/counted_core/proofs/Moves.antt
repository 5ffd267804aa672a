-- A value that comes to name others, with the names that go: what that makes of the counts.
use Rattle.std.proofs.Common.{◌≡◌, ℕ, ◌+◌, Bool, true, false, cond, ◌==◌, List, [], ◌∷◌, Option, Some, None, refl, sym, ◌∙◌, ap, arith}
use Rattle.std.specs.List.{fold}
use Rattle.std.specs.Option.{option_map}
use Rattle.kernel_values.specs.declared.state.Body.{Body}
use Rattle.kernel_values.specs.declared.state.CoreState.{CoreState}
use Rattle.kernel_values.specs.declared.state.Object.{Object}
use Rattle.kernel_laws.proofs.Found.{found}
use Rattle.kernel_types.specs.Names.{named_in}
use Rattle.kernel_types.specs.Objects.{changed as placed, is_there}
use Rattle.kernel_types.specs.Reach.{is_in}
use Rattle.object_store.specs.Stock.{Held, IsSoundFrom, changed, held_at, names_at, on_serial, unnamed, value_at, with_value}
use Rattle.counted_core.specs.Held.{IsOwed, object_of_held, objects_of, on_value, tally, times}
use Rattle.counted_core.specs.Sending.{named_more}
use Rattle.counted_core.specs.Sweeping.{IsCounted, rooted}
use Rattle.counted_core.proofs.Drops.{changed_names, changed_sound, changed_there, changed_value, held_found}
use Rattle.counted_core.proofs.Loans.{lent_none}
use Rattle.counted_core.proofs.Naming.{AllNamed, IsLacking, Pushed, changed_same, names_all, placed_changed, tally_moved}
use Rattle.counted_core.proofs.Owing.{Settled, settles}

abbrev same_count : ℕ → ℕ → Type 0
same_count a b = a ≡ b

abbrev body_of : Object → Body
body_of x = x.body

held_body : (o : Option (Held Body)) → option_map body_of (option_map object_of_held o) ≡ option_map (λ (h : Held Body). h.value) o
held_body None = refl
held_body (Some h) = refl

value_objects : (items : List (Held Body)) (id : ℕ) → value_at items id ≡ option_map body_of (found (objects_of items) id)
value_objects items id = sym (ap (option_map body_of) (held_found items id) ∙ held_body (held_at items id))

pub value_changed : (f : Body → Body) (id : ℕ) (v : Body) (items : List (Held Body)) → value_at items id ≡ Some v → value_at (changed items id (on_value f)) id ≡ Some (f v)
value_changed f id v [] is = absurd (cc)
value_changed f id v (h ∷ rest) is =
    let value : Option (Held Body) → Option Body = λ o. option_map (λ (k : Held Body). k.value) o in
    let left : List (Held Body) = changed rest id (on_value f) in
    let P : Bool → Type 0 = λ b. (h.serial == id) ≡ b → value (cond b (Some h) (held_at rest id)) ≡ Some v
    → value (cond ((cond b (on_value f h) h).serial == id) (Some (cond b (on_value f h) h)) (held_at left id)) ≡ Some (f v) in
    let go : (b : Bool) → P b = λ b. elim b as (λ w. P w) [
      | true ↦ (λ e k. let same : h.value ≡ v = cc in ap (λ (t : Bool). value (cond t (Some (on_value f h)) (held_at left id))) e ∙ ap (λ z. Some (f z)) same)
      | false ↦ (λ e k. ap (λ (t : Bool). value (cond t (Some h) (held_at left id))) e ∙ value_changed f id v rest k)
    ] in
    go (h.serial == id) refl is

-- the last write stays
overwrites : (f : Body → Body) (w : Body) (id : ℕ) (items : List (Held Body)) → changed (changed items id (on_value f)) id (with_value w) ≡ changed items id (with_value w)
overwrites f w id [] = refl
overwrites f w id (h ∷ rest) =
    let P : Bool → Type 0 = λ b. (h.serial == id) ≡ b → on_serial id (with_value w) (cond b (on_value f h) h) ≡ cond b (with_value w h) h in
    let go : (b : Bool) → P b = λ b. elim b as (λ v. P v) [
      | true ↦ (λ e. ap (λ (t : Bool). cond t (with_value w h) (on_value f h)) e)
      | false ↦ (λ e. ap (λ (t : Bool). cond t (with_value w h) h) e)
    ] in
    ap (λ z. z ∷ changed (changed rest id (on_value f)) id (with_value w)) (go (h.serial == id) refl) ∙ ap (λ l. on_serial id (with_value w) h ∷ l) (overwrites f w id rest)

-- two changes of one value are one
pub changes_twice : (f g h : Body → Body) (next id : ℕ) (v : Body) (items : List (Held Body)) → IsSoundFrom 0 items next → value_at items id ≡ Some v → h (f v) ≡ g v
    → changed (changed items id (on_value f)) id (on_value h) ≡ changed items id (on_value g)
changes_twice f g h next id v items sound is same =
    sym (changed_value h 0 next id (f v) (changed items id (on_value f)) (changed_sound f 0 next id items sound) (value_changed f id v items is))
    ∙ (ap (λ w. changed (changed items id (on_value f)) id (with_value w)) same
    ∙ (overwrites f (g v) id items ∙ changed_value g 0 next id v items sound is))

-- a change of what is not there
pub pushed_none : (k : CoreState) (g : Body → Body) (next id : ℕ) (items : List (Held Body)) → IsSoundFrom 0 items next → IsCounted k items → value_at items id ≡ None → Pushed k g next id items items
pushed_none k g next id items sound counted none = record {
  same = ap objects_of (lent_none g items id id (Some id) refl refl none) ∙ placed_changed g 0 next id items sound;
  counted = counted;
}

-- A value is changed, names go, and it is changed again: `kept` counts what it names by the second change.
pub relists : (k : CoreState) (f g h : Body → Body) (kept : ℕ → ℕ) (debts : List ℕ) (next id : ℕ) (v : Body) (items : List (Held Body)) → IsSoundFrom 0 items next → IsCounted k items
    → value_at items id ≡ Some v
    → ((o : ℕ) → times (named_in v) o ≡ times (named_in (f v)) o + kept o + times debts o)
    → ((o : ℕ) → times (named_in (h (f v))) o ≡ times (named_in (f v)) o + kept o)
    → h (f v) ≡ g v
    → Pushed k g next id items (changed (fold unnamed (changed items id (on_value f)) debts) id (on_value h))
relists k f g h kept debts next id v items sound counted is before after same =
    let one : List (Held Body) = changed items id (on_value f) in
    let two : List (Held Body) = fold unnamed one debts in
    let out : List (Held Body) = changed two id (on_value h) in
    let keeps : ℕ → ℕ = λ o. rooted k o + kept o in
    let one_sound : IsSoundFrom 0 one next = changed_sound f 0 next id items sound in
    let owed : IsOwed keeps one debts = record {
      counts = λ o.
          let was : names_at items o ≡ rooted k o + tally (objects_of items) o + 0 + cond (is_there (objects_of items) o) 1 0 = counted.counts o in
          let names_split : times (named_in v) o ≡ times (named_in (f v)) o + kept o + times debts o = before o in
          let less : tally (objects_of one) o + (kept o + times debts o) ≡ tally (objects_of items) o + 0 =
          tally_moved f (kept o + times debts o) 0 o 0 next id v items sound is (omega (arith, names_split)) in
          let names : names_at one o ≡ names_at items o = changed_names f id items o in
          let there : same_count (cond (is_there (objects_of one) o) 1 0) (cond (is_there (objects_of items) o) 1 0) = ap (λ (b : Bool). cond b 1 0) (changed_there f id items o) in
          omega (arith, was, less, names, there);
    } in
    let done : Settled keeps next one two = settles keeps next debts one one_sound owed in
    let value : value_at two id ≡ Some (f v) =
    value_objects two id ∙ (ap (λ l. option_map body_of (found l id)) done.same ∙ (sym (value_objects one id) ∙ value_changed f id v items is)) in
    record {
      same = placed_changed h 0 next id two done.sound ∙ (ap (λ l. placed h l id) done.same ∙ (sym (placed_changed h 0 next id one one_sound)
          ∙ (ap objects_of (changes_twice f g h next id v items sound is same) ∙ placed_changed g 0 next id items sound)));
      counted = record {
        counts = λ o.
            let was : names_at two o ≡ rooted k o + kept o + tally (objects_of two) o + 0 + cond (is_there (objects_of two) o) 1 0 = done.owed.counts o in
            let names_back : times (named_in (h (f v))) o ≡ times (named_in (f v)) o + kept o = after o in
            let more : tally (objects_of out) o + 0 ≡ tally (objects_of two) o + kept o = tally_moved h 0 (kept o) o 0 next id (f v) two done.sound value (omega (arith, names_back)) in
            let names : names_at out o ≡ names_at two o = changed_names h id two o in
            let there : same_count (cond (is_there (objects_of out) o) 1 0) (cond (is_there (objects_of two) o) 1 0) = ap (λ (b : Bool). cond b 1 0) (changed_there h id two o) in
            omega (arith, was, more, names, there);
      };
    }

-- a change that leaves the value that is there
pub pushed_else : (k : CoreState) (g : Body → Body) (next id : ℕ) (items : List (Held Body)) → IsSoundFrom 0 items next → IsCounted k items → ((v : Body) → value_at items id ≡ Some v → g v ≡ v) → Pushed k g next id items items
pushed_else k g next id items sound counted leaves =
    let P : Option Body → Type 0 = λ v. value_at items id ≡ v → Pushed k g next id items items in
    let go : (v : Option Body) → P v = λ v. elim v as (λ w. P w) [
      | None ↦ (λ e. pushed_none k g next id items sound counted e)
      | Some b ↦ (λ e.
          let same : changed items id (on_value g) ≡ items =
          sym (changed_value g 0 next id b items sound e) ∙ (ap (λ w. changed items id (with_value w)) (leaves b e) ∙ (changed_value (λ w. w) 0 next id b items sound e ∙ changed_same id items)) in
          record { same = ap objects_of (sym same) ∙ placed_changed g 0 next id items sound; counted = counted })
    ] in
    go (value_at items id) refl

-- a value comes to name more
pub moves_more : (k : CoreState) (f : Body → Body) (lacks : List ℕ) (next id : ℕ) (v : Body) (items : List (Held Body)) → IsSoundFrom 0 items next → IsCounted k items → value_at items id ≡ Some v
    → ((o : ℕ) → times (named_in (f v)) o + 0 ≡ times (named_in v) o + times lacks o)
    → ((o : ℕ) → is_in lacks o ≡ true → is_there (objects_of items) o ≡ true)
    → Pushed k f next id items (fold named_more (changed items id (on_value f)) lacks)
moves_more k f lacks next id v items sound counted is names there =
    let left : List (Held Body) = changed items id (on_value f) in
    let lacking : IsLacking (rooted k) left lacks = record {
      counts = λ o.
          let was : names_at items o ≡ rooted k o + tally (objects_of items) o + 0 + cond (is_there (objects_of items) o) 1 0 = counted.counts o in
          let more : tally (objects_of left) o + 0 ≡ tally (objects_of items) o + times lacks o = tally_moved f 0 (times lacks o) o 0 next id v items sound is (names o) in
          let same_names : names_at left o ≡ names_at items o = changed_names f id items o in
          let same_there : same_count (cond (is_there (objects_of left) o) 1 0) (cond (is_there (objects_of items) o) 1 0) = ap (λ (b : Bool). cond b 1 0) (changed_there f id items o) in
          omega (arith, was, more, same_names, same_there);
    } in
    let all : AllNamed (rooted k) next left (fold named_more left lacks) =
    names_all (rooted k) next lacks left (changed_sound f 0 next id items sound) lacking (λ o h. changed_there f id items o ∙ there o h) in
    record { same = all.same ∙ placed_changed f 0 next id items sound; counted = all.owed }

-- a value comes to name fewer
pub moves_less : (k : CoreState) (f : Body → Body) (debts : List ℕ) (next id : ℕ) (v : Body) (items : List (Held Body)) → IsSoundFrom 0 items next → IsCounted k items → value_at items id ≡ Some v
    → ((o : ℕ) → times (named_in (f v)) o + times debts o ≡ times (named_in v) o + 0)
    → Pushed k f next id items (fold unnamed (changed items id (on_value f)) debts)
moves_less k f debts next id v items sound counted is names =
    let left : List (Held Body) = changed items id (on_value f) in
    let owed : IsOwed (rooted k) left debts = record {
      counts = λ o.
          let was : names_at items o ≡ rooted k o + tally (objects_of items) o + 0 + cond (is_there (objects_of items) o) 1 0 = counted.counts o in
          let less : tally (objects_of left) o + times debts o ≡ tally (objects_of items) o + 0 = tally_moved f (times debts o) 0 o 0 next id v items sound is (names o) in
          let same_names : names_at left o ≡ names_at items o = changed_names f id items o in
          let same_there : same_count (cond (is_there (objects_of left) o) 1 0) (cond (is_there (objects_of items) o) 1 0) = ap (λ (b : Bool). cond b 1 0) (changed_there f id items o) in
          omega (arith, was, less, same_names, same_there);
    } in
    let done : Settled (rooted k) next left (fold unnamed left debts) = settles (rooted k) next debts left (changed_sound f 0 next id items sound) owed in
    record { same = done.same ∙ placed_changed f 0 next id items sound; counted = done.owed }
