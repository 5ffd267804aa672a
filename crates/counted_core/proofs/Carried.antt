-- What an opened message carries is there.
use Rattle.std.proofs.Common.{◌≡◌, ℕ, zero, suc, ◌+◌, ◌≤◌, Bool, true, false, cond, ◌||◌, ◌==◌, List, [], ◌∷◌, ◌++◌, length, take, min, Some, refl, sym, subst, arith, tests}
use Rattle.std.proofs.lemmas.List.Sums.{sum_by-append, sum_by-cons}
use Rattle.std.specs.List.{find}
use Rattle.std.specs.Option.{option_map}
use Rattle.kernel_values.specs.declared.state.Body.{Body}
use Rattle.kernel_values.specs.declared.state.Body.TheVariants as body
use Rattle.kernel_values.specs.declared.state.CoreState.{CoreState}
use Rattle.kernel_values.specs.declared.state.Message.{Message}
use Rattle.kernel_values.specs.declared.state.TableEntry.{TableEntry}
use Rattle.core_changes.specs.Looks.{message_parts, messages_in}
use Rattle.kernel_types.specs.Messages.{is_opened_as}
use Rattle.kernel_types.specs.Names.{message_objects, named_in}
use Rattle.kernel_types.specs.Objects.{end_in, end_of, is_there}
use Rattle.kernel_types.specs.Reach.{is_in}
use Rattle.kernel_types.specs.Tables.{has_room}
use Rattle.object_store.specs.Stock.{Held, held_at, value_at}
use Rattle.counted_core.specs.Found.{end_if}
use Rattle.counted_core.specs.Held.{objects_of, tally, times}
use Rattle.counted_core.specs.Sweeping.{IsCounted}
use Rattle.counted_core.proofs.Naming.{end_value}
use Rattle.counted_core.proofs.Sweeps.{named_there, naming_tally}

taken_in : (n : ℕ) (xs : List ℕ) (o : ℕ) → is_in (take n xs) o ≡ true → is_in xs o ≡ true
taken_in zero xs o is = absurd (cc)
taken_in (suc n) [] o is = absurd (cc)
taken_in (suc n) (x ∷ xs) o is =
    let P : Bool → Type 0 = λ b. (b || is_in (take n xs) o) ≡ true → (b || is_in xs o) ≡ true in
    let go : (b : Bool) → P b = λ b. elim b as (λ v. P v) [ true ↦ (λ e. refl) | false ↦ (λ e. taken_in n xs o e) ] in
    go (x == o) is

in_times : (xs : List ℕ) (o : ℕ) → is_in xs o ≡ true → 1 ≤ times xs o
in_times [] o is = absurd (cc)
in_times (x ∷ xs) o is =
    let P : Bool → Type 0 = λ b. (b || is_in xs o) ≡ true → 1 ≤ cond b 1 0 + times xs o in
    let go : (b : Bool) → P b = λ b. elim b as (λ v. P v) [ true ↦ (λ e. omega arith) | false ↦ (λ e. omega (arith, in_times xs o e)) ] in
    subst (λ k. 1 ≤ k) (sym (sum_by-cons (λ y. cond (y == o) 1 0) x xs)) (go (x == o) is)

carried_times : (test : Message → Bool) (messages : List Message) (o : ℕ) → is_in (message_parts (find test messages)) o ≡ true → 1 ≤ times (message_objects messages) o
carried_times test [] o is = absurd (cc)
carried_times test (message ∷ messages) o is =
    let split : times (message.parts ++ message_objects messages) o ≡ times message.parts o + times (message_objects messages) o = sum_by-append (λ y. cond (y == o) 1 0) message.parts (message_objects messages) in
    let P : Bool → Type 0 = λ b. is_in (message_parts (cond b (Some message) (find test messages))) o ≡ true → 1 ≤ times (message_objects (message ∷ messages)) o in
    let go : (b : Bool) → P b = λ b. elim b as (λ v. P v) [
      | true ↦ (λ e. omega (arith, split, in_times message.parts o e))
      | false ↦ (λ e. omega (arith, split, carried_times test messages o e))
    ] in
    go (test message) is

body_times : (b : Body) (o : ℕ) → 1 ≤ times (message_objects (messages_in (end_in b))) o → 1 ≤ times (named_in b) o
body_times (body.End end) o some = some
body_times (body.Port port) o some = absurd (omega (arith, some))
body_times (body.Set set) o some = absurd (omega (arith, some))
body_times (body.Memory memory) o some = absurd (omega (arith, some))

carried_tally : (items : List (Held Body)) (id o : ℕ) → 1 ≤ times (message_objects (messages_in (end_if (value_at items id)))) o → 1 ≤ tally (objects_of items) o
carried_tally [] id o some = absurd (omega (arith, some))
carried_tally (h ∷ items) id o some =
    let P : Bool → Type 0 = λ b. 1 ≤ times (message_objects (messages_in (end_if (option_map (λ (k : Held Body). k.value) (cond b (Some h) (held_at items id)))))) o → 1 ≤ tally (objects_of (h ∷ items)) o in
    let go : (b : Bool) → P b = λ b. elim b as (λ v. P v) [
      | true ↦ (λ e. let here : 1 ≤ times (named_in h.value) o = body_times h.value o e in omega (arith, here))
      | false ↦ (λ e. let more : 1 ≤ tally (objects_of items) o = carried_tally items id o e in omega (arith, more))
    ] in
    go (h.serial == id) some

pub carried_there : (k : CoreState) (items : List (Held Body)) (id number count : ℕ) → IsCounted k items
    → (o : ℕ) → is_in (take count (message_parts (find (is_opened_as number) (messages_in (end_of (objects_of items) id))))) o ≡ true → is_there (objects_of items) o ≡ true
carried_there k items id number count counted o is =
    let within = taken_in count (message_parts (find (is_opened_as number) (messages_in (end_of (objects_of items) id)))) o is in
    let some : 1 ≤ times (message_objects (messages_in (end_of (objects_of items) id))) o = carried_times (is_opened_as number) (messages_in (end_of (objects_of items) id)) o within in
    let held : 1 ≤ tally (objects_of items) o = carried_tally items id o (subst (λ e. 1 ≤ times (message_objects (messages_in e)) o) (end_value items id) some) in
    named_there k items counted o (omega (arith, held, naming_tally k o, naming_tally (record k { objects = objects_of items }) o))

take_length : (n : ℕ) (xs : List ℕ) → length (take n xs) ≤ n
take_length zero xs = omega arith
take_length (suc n) [] = omega arith
take_length (suc n) (x ∷ xs) = omega (arith, take_length n xs)

take_within : (n : ℕ) (xs : List ℕ) → length (take n xs) ≤ length xs
take_within zero xs = omega arith
take_within (suc n) [] = omega arith
take_within (suc n) (x ∷ xs) = omega (arith, take_within n xs)

-- the first parts fit into the table
pub parts_fit : (count : ℕ) (parts : List ℕ) (table : List TableEntry) → has_room (min count (length parts)) table ≡ true → length table + length (take count parts) ≤ 64
unfolding has_room
parts_fit count parts table room =
    let all : length table + min count (length parts) ≤ 64 = grind (arith, tests) in
    omega (arith, all, take_length count parts, take_within count parts)
