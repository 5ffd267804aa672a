-- An end has a filled message exactly where there are bytes to peek at.
use Rattle.std.proofs.Common.{◌≡◌, ◌<◌, ℕ, ◌+◌, Bool, true, false, cond, List, [], ◌∷◌, Option, Some, None, refl, arith}
use Rattle.std.specs.List.{find, count_by}
use Rattle.std.specs.Option.{unwrap_or}
use Rattle.std.proofs.lemmas.List.Sums.{sum_by-cons}
use Rattle.kernel_values.specs.declared.state.ChannelEnd.{ChannelEnd}
use Rattle.kernel_values.specs.declared.state.CoreState.{CoreState}
use Rattle.kernel_values.specs.declared.state.Message.{Message}
use Rattle.kernel_types.specs.Bridge.{bytes_of, ns_peek, ns_view, peek_in, view_of}
use Rattle.kernel_types.specs.Events.{is_filled}
use Rattle.kernel_types.specs.Objects.{end_of}
use Rattle.ns_device.specs.Owing.{oldest}

abbrev bytes_found : List Message → Option (List ℕ)
bytes_found messages = bytes_of (find is_filled messages)

counted : (message : Message) (messages : List Message) → count_by is_filled (message ∷ messages) ≡ cond (is_filled message) 1 0 + count_by is_filled messages
counted message messages = sum_by-cons (λ m. cond (is_filled m) 1 0) message messages

found_filled : (messages : List Message) → 0 < count_by is_filled messages → bytes_found messages ≡ Some (unwrap_or (bytes_found messages) [])
found_filled [] some = absurd (omega (arith, some))
found_filled (message ∷ messages) some =
    let P : Bool → Type 0 = λ b. 0 < cond b 1 0 + count_by is_filled messages
    → bytes_of (cond b (Some message) (find is_filled messages)) ≡ Some (unwrap_or (bytes_of (cond b (Some message) (find is_filled messages))) []) in
    let later : P false = λ h. found_filled messages (omega (arith, h)) in
    let go : (b : Bool) → P b = λ b. elim b as (λ v. P v) [ true ↦ (λ h. refl) | false ↦ later ] in
    go (is_filled message) (omega (arith, some, counted message messages))

found_empty : (messages : List Message) → count_by is_filled messages ≡ 0 → bytes_found messages ≡ None
found_empty [] none = refl
found_empty (message ∷ messages) none =
    let P : Bool → Type 0 = λ b. cond b 1 0 + count_by is_filled messages ≡ 0 → bytes_of (cond b (Some message) (find is_filled messages)) ≡ None in
    let first : P true = λ h. absurd (omega (arith, h)) in
    let later : P false = λ h. found_empty messages (omega (arith, h)) in
    let go : (b : Bool) → P b = λ b. elim b as (λ v. P v) [ true ↦ first | false ↦ later ] in
    go (is_filled message) (omega (arith, none, counted message messages))

filled_in : (c : CoreState) (end : Option ChannelEnd) → 0 < (view_of c end).filled → peek_in end ≡ Some (unwrap_or (peek_in end) [])
filled_in c None some = absurd (omega (arith, some))
filled_in c (Some end) some = found_filled end.messages some

empty_in : (c : CoreState) (end : Option ChannelEnd) → (view_of c end).filled ≡ 0 → peek_in end ≡ None
empty_in c None none = refl
empty_in c (Some end) none = found_empty end.messages none

pub peek_filled : (c : CoreState) (end : ℕ) → 0 < (ns_view c end).filled → ns_peek c end ≡ Some (oldest c end)
unfolding ns_view ns_peek
peek_filled c end some = filled_in c (end_of c.objects end) some

pub peek_empty : (c : CoreState) (end : ℕ) → (ns_view c end).filled ≡ 0 → ns_peek c end ≡ None
unfolding ns_view ns_peek
peek_empty c end none = empty_in c (end_of c.objects end) none
