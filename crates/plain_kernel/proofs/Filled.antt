-- Where a message is filled, there is an end, and a first such message.
use Rattle.std.proofs.Common.{◌≡◌, ◌≤◌, ◌<◌, ℕ, ◌+◌, Bool, true, false, cond, List, [], ◌∷◌, length, Option, Some, None, refl, ap, arith}
use Rattle.std.specs.List.{All, count_by, find}
use Rattle.std.proofs.lemmas.List.Elements.{recursion_from_All}
use Rattle.std.proofs.lemmas.List.Sums.{sum_by-cons}
use Rattle.kernel_values.specs.declared.state.ChannelEnd.{ChannelEnd}
use Rattle.kernel_values.specs.declared.state.CoreState.{CoreState}
use Rattle.kernel_values.specs.declared.state.Message.{Message}
use Rattle.kernel_values.specs.declared.state.Object.{Object}
use Rattle.kernel_types.specs.Bridge.{bytes_of, ns_peek, ns_view, peek_in, view_of}
use Rattle.kernel_types.specs.Events.{is_filled}
use Rattle.kernel_types.specs.Limits.{IsBodyWithin, IsEndWithin}
use Rattle.kernel_types.specs.Objects.{end_of}
use Rattle.kernel_laws.proofs.Within.{end_within}
use Rattle.plain_kernel.specs.Bridged.{filled_at, filled_in}

abbrev one_if : Bool → ℕ
one_if b = cond b 1 0

none_counted : (messages : List Message) → find is_filled messages ≡ None → count_by is_filled messages ≡ 0
none_counted [] is = refl
none_counted (message ∷ messages) is =
    let Q : Bool → Type 0 = λ b. cond b (Some message) (find is_filled messages) ≡ None → one_if b + count_by is_filled messages ≡ 0 in
    let go : (b : Bool) → Q b = λ b. elim b as (λ v. Q v) [ true ↦ (λ e. absurd (cc)) | false ↦ (λ e. omega (arith, none_counted messages e)) ] in
    omega (arith, sum_by-cons (λ (m : Message). one_if (is_filled m)) message messages, go (is_filled message) is)

filled_none : (c : CoreState) (o : Option ChannelEnd) → filled_in o ≡ None → (view_of c o).filled ≡ 0
filled_none c None is = refl
filled_none c (Some end) is = none_counted end.messages is

pub none_filled : (c : CoreState) (id : ℕ) → filled_at c id ≡ None → 0 < (ns_view c id).filled → ⊥
unfolding ns_view
none_filled c id none filled = omega (arith, filled, filled_none c (end_of c.objects id) none)

peeked_in : (o : Option ChannelEnd) (message : Message) → filled_in o ≡ Some message → peek_in o ≡ Some message.bytes
peeked_in None message is = absurd (cc)
peeked_in (Some end) message is = ap bytes_of is

pub peeked : (c : CoreState) (id : ℕ) (message : Message) → filled_at c id ≡ Some message → ns_peek c id ≡ Some message.bytes
unfolding ns_peek
peeked c id message is = peeked_in (end_of c.objects id) message is

pub few_messages : (objects : List Object) (id : ℕ) (end : ChannelEnd) → All (λ object. IsBodyWithin object.body) objects → end_of objects id ≡ Some end → length end.messages ≤ 32
few_messages objects id end within is =
    let e : IsEndWithin end = end_within objects (recursion_from_All (λ (object : Object). IsBodyWithin object.body) objects within) id end is in
    omega (arith, e.few, e.slots)
