-- Names that are added, and values changed in their places.
use Rattle.std.proofs.Common.{◌≡◌, ℕ, ◌+◌, ◌≤◌, Bool, true, false, cond, ◌||◌, ◌==◌, List, [], ◌∷◌, ◌++◌, Option, Some, None, refl, sym, ◌∙◌, ap, subst, arith, tests}
use Rattle.std.specs.List.{fold}
use Rattle.std.specs.Option.{option_map, option_map_or}
use Rattle.std.proofs.lemmas.List.Sums.{sum_by-append, sum_by-cons}
use Rattle.kernel_values.specs.declared.state.Body.{Body}
use Rattle.kernel_values.specs.declared.state.Body.TheVariants as body
use Rattle.kernel_values.specs.declared.state.CoreState.{CoreState}
use Rattle.kernel_values.specs.declared.state.Message.{Message}
use Rattle.kernel_values.specs.declared.state.Object.{Object}
use Rattle.kernel_laws.proofs.Found.{changed_cons, found_is}
use Rattle.std.specs.Prelude.{IsSome}
use Rattle.counted_core.specs.Sweeping.{IsCounted, rooted}
use Rattle.kernel_types.specs.Messages.{new_message, with_message}
use Rattle.kernel_types.specs.Names.{message_objects, named_in}
use Rattle.kernel_types.specs.Objects.{as_end, as_memory, as_port, as_set, changed as placed, memory_of, end_of, port_of, set_of, is_there, on_body, on_end}
use Rattle.kernel_types.specs.Reach.{is_in}
use Rattle.object_store.specs.Stock.{Held, IsSoundFrom, changed, held_at, names_at, one_more, total_names, value_at}
use Rattle.counted_core.specs.Held.{IsOwed, object_of_held, objects_of, on_value, tally, times}
use Rattle.counted_core.specs.Found.{end_if, memory_if, port_if, set_if}
use Rattle.counted_core.specs.Sending.{named_more}
use Rattle.counted_core.proofs.Owing.{absent_names, below_absent}
use Rattle.counted_core.proofs.Drops.{changed_names, changed_sound, changed_there, held_found, unchanged}

-- a change in a value's place, as the model has it
pub placed_changed : (f : Body → Body) (low next at : ℕ) (items : List (Held Body)) → IsSoundFrom low items next → objects_of (changed items at (on_value f)) ≡ placed f (objects_of items) at
placed_changed f low next at [] sound = refl
placed_changed f low next at (h ∷ rest) sound =
    let P : Bool → Type 0 = λ b. (h.serial == at) ≡ b → object_of_held (cond b (on_value f h) h) ∷ objects_of (changed rest at (on_value f))
    ≡ cond b (on_body f (object_of_held h) ∷ objects_of rest) (object_of_held h ∷ placed f (objects_of rest) at) in
    let go : (b : Bool) → P b = λ b. elim b as (λ v. P v) [
      | true ↦ (λ e.
          let eq : h.serial ≡ at = grind (arith, tests) in
          let gone : is_there (objects_of rest) at ≡ false = below_absent (h.serial + 1) next rest at sound.3 (omega arith) in
          ap (λ l. on_body f (object_of_held h) ∷ objects_of l) (unchanged rest at (on_value f) gone))
      | false ↦ (λ e. ap (λ l. object_of_held h ∷ l) (placed_changed f (h.serial + 1) next at rest sound.3))
    ] in
    go (h.serial == at) refl ∙ sym (changed_cons f (object_of_held h) (objects_of rest) at)

end_held : (o : Option (Held Body)) → as_end (option_map object_of_held o) ≡ end_if (option_map (λ (h : Held Body). h.value) o)
end_held None = refl
end_held (Some h) = refl

pub end_value : (items : List (Held Body)) (id : ℕ) → end_of (objects_of items) id ≡ end_if (value_at items id)
end_value items id = ap as_end (found_is (objects_of items) id ∙ held_found items id) ∙ end_held (held_at items id)

-- what a change makes of the tally, up or down
pub tally_moved : (f : Body → Body) (x y o low next at : ℕ) (v : Body) (items : List (Held Body)) → IsSoundFrom low items next → value_at items at ≡ Some v
    → times (named_in (f v)) o + x ≡ times (named_in v) o + y → tally (objects_of (changed items at (on_value f))) o + x ≡ tally (objects_of items) o + y
tally_moved f x y o low next at v [] sound is more = absurd (cc)
tally_moved f x y o low next at v (h ∷ rest) sound is more =
    let P : Bool → Type 0 = λ a. (h.serial == at) ≡ a → option_map (λ (k : Held Body). k.value) (cond a (Some h) (held_at rest at)) ≡ Some v
    → times (named_in (cond a (on_value f h) h).value) o + tally (objects_of (changed rest at (on_value f))) o + x ≡ times (named_in h.value) o + tally (objects_of rest) o + y in
    let go : (a : Bool) → P a = λ a. elim a as (λ w. P w) [
      | true ↦ (λ e k.
          let same : h.value ≡ v = cc in
          let eq : h.serial ≡ at = grind (arith, tests) in
          let gone : is_there (objects_of rest) at ≡ false = below_absent (h.serial + 1) next rest at sound.3 (omega arith) in
          let here : times (named_in (f h.value)) o + x ≡ times (named_in h.value) o + y = subst (λ (z : Body). times (named_in (f z)) o + x ≡ times (named_in z) o + y) (sym same) more in
          let stays : tally (objects_of (changed rest at (on_value f))) o ≡ tally (objects_of rest) o = ap (λ l. tally (objects_of l) o) (unchanged rest at (on_value f) gone) in
          omega (arith, here, stays))
      | false ↦ (λ e k. let later : tally (objects_of (changed rest at (on_value f))) o + x ≡ tally (objects_of rest) o + y = tally_moved f x y o (h.serial + 1) next at v rest sound.3 k more in omega (arith, later))
    ] in
    go (h.serial == at) refl is

times_append : (o : ℕ) (xs ys : List ℕ) → times (xs ++ ys) o ≡ times xs o + times ys o
times_append o xs ys = sum_by-append (λ y. cond (y == o) 1 0) xs ys

pub message_times : (o : ℕ) (ms : List Message) (m : Message) → times (message_objects (ms ++ m ∷ [])) o + 0 ≡ times (message_objects ms) o + times m.parts o
message_times o [] m = let e : times (m.parts ++ []) o ≡ times m.parts o + 0 = times_append o m.parts [] in omega (arith, e)
message_times o (x ∷ ms) m =
    let more : times (message_objects (ms ++ m ∷ [])) o + 0 ≡ times (message_objects ms) o + times m.parts o = message_times o ms m in
    let one : times (x.parts ++ message_objects (ms ++ m ∷ [])) o ≡ times x.parts o + times (message_objects (ms ++ m ∷ [])) o = times_append o x.parts (message_objects (ms ++ m ∷ [])) in
    let two : times (x.parts ++ message_objects ms) o ≡ times x.parts o + times (message_objects ms) o = times_append o x.parts (message_objects ms) in
    omega (arith, more, one, two)

kept_tally : (f : Body → Body) → ((b : Body) → named_in (f b) ≡ named_in b) → (at : ℕ) (items : List (Held Body)) (o : ℕ) → tally (objects_of (changed items at (on_value f))) o ≡ tally (objects_of items) o
kept_tally f keeps at [] o = refl
kept_tally f keeps at (h ∷ rest) o =
    let more : tally (objects_of (changed rest at (on_value f))) o ≡ tally (objects_of rest) o = kept_tally f keeps at rest o in
    elim (h.serial == at) as (λ b. times (named_in (cond b (on_value f h) h).value) o + tally (objects_of (changed rest at (on_value f))) o ≡ times (named_in h.value) o + tally (objects_of rest) o) [
      | true ↦ ap (λ l. times l o + tally (objects_of (changed rest at (on_value f))) o) (keeps h.value) ∙ ap (λ n. times (named_in h.value) o + n) more
      | false ↦ ap (λ n. times (named_in h.value) o + n) more
    ]

memory_held : (o : Option (Held Body)) → as_memory (option_map object_of_held o) ≡ memory_if (option_map (λ (h : Held Body). h.value) o)
memory_held None = refl
memory_held (Some h) = refl

pub memory_value : (items : List (Held Body)) (id : ℕ) → memory_of (objects_of items) id ≡ memory_if (value_at items id)
memory_value items id = ap as_memory (found_is (objects_of items) id ∙ held_found items id) ∙ memory_held (held_at items id)

port_held : (o : Option (Held Body)) → as_port (option_map object_of_held o) ≡ port_if (option_map (λ (h : Held Body). h.value) o)
port_held None = refl
port_held (Some h) = refl

pub port_value : (items : List (Held Body)) (id : ℕ) → port_of (objects_of items) id ≡ port_if (value_at items id)
port_value items id = ap as_port (found_is (objects_of items) id ∙ held_found items id) ∙ port_held (held_at items id)

set_held : (o : Option (Held Body)) → as_set (option_map object_of_held o) ≡ set_if (option_map (λ (h : Held Body). h.value) o)
set_held None = refl
set_held (Some h) = refl

pub set_value : (items : List (Held Body)) (id : ℕ) → set_of (objects_of items) id ≡ set_if (value_at items id)
set_value items id = ap as_set (found_is (objects_of items) id ∙ held_found items id) ∙ set_held (held_at items id)

-- One name more.

names_first : (h : Held Body) (rest : List (Held Body)) (o : ℕ) → names_at (h ∷ rest) o ≡ cond (h.serial == o) h.names (names_at rest o)
names_first h rest o = elim (h.serial == o) as (λ b. option_map_or (λ (k : Held Body). k.names) (cond b (Some h) (held_at rest o)) 0 ≡ cond b h.names (names_at rest o)) [ true ↦ refl | false ↦ refl ]

total_first : (h : Held Body) (rest : List (Held Body)) → total_names (h ∷ rest) ≡ h.names + total_names rest
total_first h rest = sum_by-cons (λ (k : Held Body). k.names) h rest

pub record More (low next s : ℕ) (items : List (Held Body)) : Type 0 where
  pub sound : IsSoundFrom low (named_more items s) next
  pub same : objects_of (named_more items s) ≡ objects_of items
  pub names : (o : ℕ) → names_at (named_more items s) o ≡ names_at items o + cond (s == o) (cond (is_there (objects_of items) o) 1 0) 0
  pub total : total_names (named_more items s) ≤ total_names items + 1

pub name_one : (low next s : ℕ) (items : List (Held Body)) → IsSoundFrom low items next → More low next s items
name_one low next s [] sound = record { sound = tt; same = refl; names = λ o. (elim (s == o) as (λ b. 0 ≡ 0 + cond b 0 0) [ true ↦ refl | false ↦ refl ]); total = omega arith }
name_one low next s (h ∷ rest) sound =
    let P : Bool → Type 0 = λ b. (h.serial == s) ≡ b → (IsSoundFrom low (cond b (one_more h) h ∷ named_more rest s) next)
    × (objects_of (cond b (one_more h) h ∷ named_more rest s) ≡ objects_of (h ∷ rest))
    × ((o : ℕ) → names_at (cond b (one_more h) h ∷ named_more rest s) o ≡ names_at (h ∷ rest) o + cond (s == o) (cond (is_there (objects_of (h ∷ rest)) o) 1 0) 0)
    × (total_names (cond b (one_more h) h ∷ named_more rest s) ≤ total_names (h ∷ rest) + 1) in
    let here : P true = λ e.
    let eq : h.serial ≡ s = grind (arith, tests) in
    let gone : is_there (objects_of rest) s ≡ false = below_absent (h.serial + 1) next rest s sound.3 (omega arith) in
    let same : named_more rest s ≡ rest = unchanged rest s one_more gone in
    let one : 1 ≤ h.names = sound.2 in
    let few : 1 ≤ h.names + 1 = omega arith in
    subst (λ (l : List (Held Body)). (IsSoundFrom low (one_more h ∷ l) next) × (objects_of (one_more h ∷ l) ≡ objects_of (h ∷ rest))
    × ((o : ℕ) → names_at (one_more h ∷ l) o ≡ names_at (h ∷ rest) o + cond (s == o) (cond (is_there (objects_of (h ∷ rest)) o) 1 0) 0)
    × (total_names (one_more h ∷ l) ≤ total_names (h ∷ rest) + 1)) (sym same) (
      (sound.0, sound.1, few, sound.3),
      refl,
      (λ o.
          let none : (s == o) ≡ true → names_at rest o ≡ 0 = λ f. let same_o : s ≡ o = grind (arith, tests) in subst (λ k. names_at rest k ≡ 0) same_o (absent_names rest s gone) in
          let test : (h.serial == o) ≡ (s == o) = ap (λ k. k == o) eq in
          let Q : Bool → Type 0 = λ b. cond b (h.names + 1) (names_at rest o) ≡ cond b h.names (names_at rest o) + cond b (cond (b || is_there (objects_of rest) o) 1 0) 0 in
          let run : (b : Bool) → Q b = λ b. elim b as (λ v. Q v) [ true ↦ refl | false ↦ omega arith ] in
          names_first (one_more h) rest o ∙ (ap (λ (b : Bool). cond b (h.names + 1) (names_at rest o)) test ∙ (run (s == o)
          ∙ (ap (λ (b : Bool). cond b h.names (names_at rest o) + cond (s == o) (cond (b || is_there (objects_of rest) o) 1 0) 0) (sym test) ∙ ap (λ k. k + cond (s == o) (cond ((h.serial == o) || is_there (objects_of rest) o) 1 0) 0) (sym (names_first h rest o)))))),
      omega (arith, total_first (one_more h) rest, total_first h rest),
    ) in
    let later : P false = λ e.
    let more : More (h.serial + 1) next s rest = name_one (h.serial + 1) next s rest sound.3 in (
      (sound.0, sound.1, sound.2, more.sound),
      ap (λ l. object_of_held h ∷ l) more.same,
      (λ o.
          let other : (h.serial == o) ≡ true → (s == o) ≡ false = λ f. grind (arith, tests) in
          let Q : Bool → Type 0 = λ b. (h.serial == o) ≡ b → cond b h.names (names_at (named_more rest s) o) ≡ cond b h.names (names_at rest o) + cond (s == o) (cond (b || is_there (objects_of rest) o) 1 0) 0 in
          let run : (b : Bool) → Q b = λ b. elim b as (λ v. Q v) [
            | true ↦ (λ f. let plus : h.names ≡ h.names + 0 = omega arith in plus ∙ sym (ap (λ (b : Bool). h.names + cond b 1 0) (other f)))
            | false ↦ (λ f. more.names o)
          ] in
          names_first h (named_more rest s) o ∙ (run (h.serial == o) refl ∙ ap (λ k. k + cond (s == o) (cond ((h.serial == o) || is_there (objects_of rest) o) 1 0) 0) (sym (names_first h rest o)))),
      omega (arith, total_first h (named_more rest s), total_first h rest, more.total),
    ) in
    let go : (b : Bool) → P b = λ b. elim b as (λ v. P v) [ true ↦ here | false ↦ later ] in
    let done : P (h.serial == s) = go (h.serial == s) in
    let out = done refl in
    record { sound = out.0; same = out.1; names = out.2; total = out.3 }

-- All parts are named: what was counted less than named is exact.

abbrev same_count : ℕ → ℕ → Type 0
same_count a b = a ≡ b

-- counts that lack these names
pub record IsLacking (roots : ℕ → ℕ) (items : List (Held Body)) (lacks : List ℕ) : Type 0 where
  pub counts : (o : ℕ) → names_at items o + times lacks o ≡ roots o + tally (objects_of items) o + cond (is_there (objects_of items) o) 1 0

pub record AllNamed (roots : ℕ → ℕ) (next : ℕ) (items out : List (Held Body)) : Type 0 where
  pub sound : IsSoundFrom 0 out next
  pub same : objects_of out ≡ objects_of items
  pub owed : IsOwed roots out []

pub names_all : (roots : ℕ → ℕ) (next : ℕ) (lacks : List ℕ) (items : List (Held Body)) → IsSoundFrom 0 items next → IsLacking roots items lacks
    → ((o : ℕ) → is_in lacks o ≡ true → is_there (objects_of items) o ≡ true) → AllNamed roots next items (fold named_more items lacks)
names_all roots next [] items sound lacking there = record { sound = sound; same = refl; owed = record { counts = λ o. let was : names_at items o + 0 ≡ roots o + tally (objects_of items) o + cond (is_there (objects_of items) o) 1 0 = lacking.counts o in omega (arith, was) } }
names_all roots next (d ∷ lacks) items sound lacking there =
    let more : More 0 next d items = name_one 0 next d items sound in
    let here : (d == d) ≡ true = grind (arith, tests) in
    let is : is_there (objects_of items) d ≡ true = there d (ap (λ b. b || is_in lacks d) here) in
    let left : IsLacking roots (named_more items d) lacks = record {
      counts = λ o.
          let was : names_at items o + times (d ∷ lacks) o ≡ roots o + tally (objects_of items) o + cond (is_there (objects_of items) o) 1 0 = lacking.counts o in
          let one : times (d ∷ lacks) o ≡ cond (d == o) 1 0 + times lacks o = sum_by-cons (λ y. cond (y == o) 1 0) d lacks in
          let P : Bool → Type 0 = λ b. (d == o) ≡ b → same_count (cond b (cond (is_there (objects_of items) o) 1 0) 0) (cond b 1 0) in
          let go : (b : Bool) → P b = λ b. elim b as (λ v. P v) [
            | true ↦ (λ e. let same : d ≡ o = grind (arith, tests) in ap (λ (t : Bool). cond t 1 0) (sym (ap (λ n. is_there (objects_of items) n) same) ∙ is))
            | false ↦ (λ e. refl)
          ] in
          let names : names_at (named_more items d) o ≡ names_at items o + cond (d == o) (cond (is_there (objects_of items) o) 1 0) 0 = more.names o in
          let step : same_count (cond (d == o) (cond (is_there (objects_of items) o) 1 0) 0) (cond (d == o) 1 0) = go (d == o) refl in
          subst (λ (l : List Object). names_at (named_more items d) o + times lacks o ≡ roots o + tally l o + cond (is_there l o) 1 0) (sym more.same) (omega (arith, was, one, names, step));
    } in
    let rest : AllNamed roots next (named_more items d) (fold named_more (named_more items d) lacks) =
    names_all roots next lacks (named_more items d) more.sound left
    (λ o h. subst (λ (l : List Object). is_there l o ≡ true) (sym more.same) (there o (elim (d == o) as (λ b. (b || is_in lacks o) ≡ true) [ true ↦ refl | false ↦ h ]))) in
    record { sound = rest.sound; same = rest.same ∙ more.same; owed = rest.owed }

-- A message comes with its parts.

pub changed_total : (f : Body → Body) (at : ℕ) (items : List (Held Body)) → total_names (changed items at (on_value f)) ≡ total_names items
changed_total f at [] = refl
changed_total f at (h ∷ rest) =
    let more : total_names (changed rest at (on_value f)) ≡ total_names rest = changed_total f at rest in
    elim (h.serial == at) as (λ b. total_names (cond b (on_value f h) h ∷ changed rest at (on_value f)) ≡ total_names (h ∷ rest)) [
      | true ↦ omega (arith, more, total_first (on_value f h) (changed rest at (on_value f)), total_first h rest)
      | false ↦ omega (arith, more, total_first h (changed rest at (on_value f)), total_first h rest)
    ]

pub changed_same : (at : ℕ) (items : List (Held Body)) → changed items at (on_value (λ b. b)) ≡ items
changed_same at [] = refl
changed_same at (h ∷ rest) = elim (h.serial == at) as (λ b. cond b (on_value (λ z. z) h) h ∷ changed rest at (on_value (λ z. z)) ≡ h ∷ rest) [ true ↦ ap (λ l. h ∷ l) (changed_same at rest) | false ↦ ap (λ l. h ∷ l) (changed_same at rest) ]

pub record Pushed (k : CoreState) (f : Body → Body) (next id : ℕ) (items out : List (Held Body)) : Type 0 where
  pub same : objects_of out ≡ placed f (objects_of items) id
  pub counted : IsOwed (rooted k) out []

push_times : (bytes parts : List ℕ) (o : ℕ) (v : Option Body) (b : Body) → v ≡ Some b → IsSome (end_if v) → times (named_in (on_end (with_message bytes parts) b)) o + 0 ≡ times (named_in b) o + times parts o
push_times bytes parts o v (body.End end) is some = message_times o end.messages (new_message end.sent bytes parts)
push_times bytes parts o v (body.Port q) is some = let bad : IsSome (end_if (Some (body.Port q))) = subst (λ w. IsSome (end_if w)) is some in absurd (cc bad)
push_times bytes parts o v (body.Set q) is some = let bad : IsSome (end_if (Some (body.Set q))) = subst (λ w. IsSome (end_if w)) is some in absurd (cc bad)
push_times bytes parts o v (body.Memory q) is some = let bad : IsSome (end_if (Some (body.Memory q))) = subst (λ w. IsSome (end_if w)) is some in absurd (cc bad)

pub pushes : (k : CoreState) (bytes parts : List ℕ) (next id : ℕ) (items : List (Held Body)) → IsSoundFrom 0 items next → IsCounted k items → IsSome (end_of (objects_of items) id)
    → ((o : ℕ) → is_in parts o ≡ true → is_there (objects_of items) o ≡ true)
    → Pushed k (on_end (with_message bytes parts)) next id items (fold named_more (changed items id (on_value (on_end (with_message bytes parts)))) parts)
pushes k bytes parts next id items sound counted some there =
    let f : Body → Body = on_end (with_message bytes parts) in
    let left : List (Held Body) = changed items id (on_value f) in
    let is_end : IsSome (end_if (value_at items id)) = subst (λ v. IsSome v) (end_value items id) some in
    let P : Option Body → Type 0 = λ v. value_at items id ≡ v → (o : ℕ) → tally (objects_of left) o + 0 ≡ tally (objects_of items) o + times parts o in
    let moved : (v : Option Body) → P v = λ v. elim v as (λ w. P w) [
      | None ↦ (λ e. let none : Option Body = None in let bad : IsSome (end_if none) = subst (λ w. IsSome (end_if w)) e is_end in absurd (cc bad))
      | Some b ↦ (λ e o. tally_moved f 0 (times parts o) o 0 next id b items sound e (push_times bytes parts o (value_at items id) b e is_end))
    ] in
    let lacking : IsLacking (rooted k) left parts = record {
      counts = λ o.
          let was : names_at items o ≡ rooted k o + tally (objects_of items) o + 0 + cond (is_there (objects_of items) o) 1 0 = counted.counts o in
          let more : tally (objects_of left) o + 0 ≡ tally (objects_of items) o + times parts o = moved (value_at items id) refl o in
          let names : names_at left o ≡ names_at items o = changed_names f id items o in
          let same_there : same_count (cond (is_there (objects_of left) o) 1 0) (cond (is_there (objects_of items) o) 1 0) = ap (λ (b : Bool). cond b 1 0) (changed_there f id items o) in
          omega (arith, was, more, names, same_there);
    } in
    let all : AllNamed (rooted k) next left (fold named_more left parts) =
    names_all (rooted k) next parts left (changed_sound f 0 next id items sound) lacking (λ o h. changed_there f id items o ∙ there o h) in
    record { same = all.same ∙ placed_changed f 0 next id items sound; counted = all.owed }

-- A change that names the same.

pub keeps_counts : (k : CoreState) (f : Body → Body) (next id : ℕ) (items : List (Held Body)) → ((b : Body) → named_in (f b) ≡ named_in b) → IsSoundFrom 0 items next → IsCounted k items
    → Pushed k f next id items (changed items id (on_value f))
keeps_counts k f next id items keeps sound counted =
    let left : List (Held Body) = changed items id (on_value f) in
    record {
      same = placed_changed f 0 next id items sound;
      counted = record {
        counts = λ o.
            let was : names_at items o ≡ rooted k o + tally (objects_of items) o + 0 + cond (is_there (objects_of items) o) 1 0 = counted.counts o in
            let names : names_at left o ≡ names_at items o = changed_names f id items o in
            let same_there : same_count (cond (is_there (objects_of left) o) 1 0) (cond (is_there (objects_of items) o) 1 0) = ap (λ (b : Bool). cond b 1 0) (changed_there f id items o) in
            let same_tally : tally (objects_of left) o ≡ tally (objects_of items) o = kept_tally f keeps id items o in
            omega (arith, was, names, same_there, same_tally);
      };
    }
