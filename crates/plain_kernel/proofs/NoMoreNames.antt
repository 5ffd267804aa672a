-- No more names are there after what the bridge takes away.
use Rattle.std.proofs.Common.{◌≡◌, ◌≤◌, ℕ, zero, suc, ◌+◌, ◌==◌, Bool, true, false, cond, not, List, [], ◌∷◌, ◌++◌, map, length, Option, Some, None, refl, ap, ◌∙◌, arith, length-append}
use Rattle.std.specs.List.{filter, position_or_len}
use Rattle.kernel_values.specs.declared.state.ChannelEnd.{ChannelEnd}
use Rattle.kernel_values.specs.declared.state.CoreState.{CoreState}
use Rattle.kernel_values.specs.declared.state.Message.{Message}
use Rattle.kernel_types.specs.Bridge.{marked_if, peer_marked, unbridged, with_error}
use Rattle.kernel_types.specs.Connects.{peer_of}
use Rattle.kernel_types.specs.Events.{is_filled}
use Rattle.kernel_types.specs.Messages.{is_opened_as, opened_as, peer_unblocked, unblocked_end, with_opened, without_opened}
use Rattle.kernel_types.specs.Names.{message_objects, naming}
use Rattle.kernel_types.specs.Objects.{end_changed, end_of, map_at, on_body, on_end, place_of}
use Rattle.plain_kernel.specs.Bridged.{first_retired, id_at}
use Rattle.plain_objects.proofs.Changing.{later_changed}
use Rattle.plain_objects.proofs.Fewer.{by_parts, by_objects, fewer_changed, filter_less, end_less}

-- What the bridge takes away.

parts_opened : (number : ℕ) (messages : List Message) (at : ℕ) → message_objects (map_at (opened_as number) messages at) ≡ message_objects messages
parts_opened number [] at = refl
parts_opened number (message ∷ messages) zero = refl
parts_opened number (message ∷ messages) (suc at) = ap message_objects (later_changed (opened_as number) message messages at) ∙ ap (λ objects. message.parts ++ objects) (parts_opened number messages at)

parts_filtered : (p : Message → Bool) (messages : List Message) → length (message_objects (filter p messages)) ≤ length (message_objects messages)
parts_filtered p [] = omega arith
parts_filtered p (message ∷ messages) =
    elim (p message) as (λ b. length (message_objects (cond b (message ∷ filter p messages) (filter p messages))) ≤ length (message_objects (message ∷ messages))) [
      | true ↦ omega (arith, length-append message.parts (message_objects messages), length-append message.parts (message_objects (filter p messages)), parts_filtered p messages)
      | false ↦ omega (arith, length-append message.parts (message_objects messages), parts_filtered p messages)
    ]

fewer_at_end : (f : ChannelEnd → ChannelEnd) → ((end : ChannelEnd) → length (message_objects (f end).messages) ≤ length (message_objects end.messages))
    → (id : ℕ) (c : CoreState) → length (naming (end_changed f id c)) ≤ length (naming c)
fewer_at_end f less id c = by_objects c _ (fewer_changed (on_body (on_end f)) (end_less f less) c.objects (place_of c.objects id))

unblocked_less : (peer : Option ℕ) (c : CoreState) → length (naming (peer_unblocked peer c)) ≤ length (naming c)
unblocked_less None c = omega arith
unblocked_less (Some peer) c = fewer_at_end unblocked_end (λ end. omega arith) peer c

fewer_retired : (peer : Option ℕ) (number id : ℕ) (c : CoreState)
    → length (naming (peer_unblocked peer (end_changed (without_opened number) id (end_changed (with_opened number) id c)))) ≤ length (naming c)
fewer_retired peer number id c =
    let opened : CoreState = end_changed (with_opened number) id c in
    let first : length (naming opened) ≤ length (naming c) =
    fewer_at_end (with_opened number) (λ end. omega (arith, ap length (parts_opened number end.messages (position_or_len is_filled end.messages)))) id c in
    let retired : CoreState = end_changed (without_opened number) id opened in
    let second : length (naming retired) ≤ length (naming opened) =
    fewer_at_end (without_opened number) (λ end. parts_filtered (λ message. not (is_opened_as number message)) end.messages) id opened in
    omega (arith, first, second, unblocked_less peer retired)

pub fewer_taken : (id : ℕ) (c : CoreState) → length (naming (first_retired id c)) ≤ length (naming c)
unfolding first_retired
fewer_taken id c = fewer_retired (peer_of (end_of c.objects id)) (id_at c id) id c

marked_less : (peer : Option ℕ) (c : CoreState) → length (naming (peer_marked peer c)) ≤ length (naming c)
marked_less None c = omega arith
marked_less (Some peer) c = fewer_at_end with_error (λ end. omega arith) peer c

marked_if_less : (broken : Bool) (end : ℕ) (c : CoreState) → length (naming (marked_if broken end c)) ≤ length (naming c)
marked_if_less true end c = marked_less (peer_of (end_of c.objects end)) c
marked_if_less false end c = omega arith

pub fewer_dropped : (broken : Bool) (end : ℕ) (c : CoreState) → length (naming (unbridged end (marked_if broken end c))) ≤ length (naming c)
fewer_dropped broken end c =
    let marked : CoreState = marked_if broken end c in
    let cut : length (filter (λ other. not (other == end)) marked.bridged) ≤ length marked.bridged = filter_less (λ other. not (other == end)) marked.bridged in
    omega (arith, cut, by_parts marked, by_parts (unbridged end marked), marked_if_less broken end c)
