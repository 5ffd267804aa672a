-- What threads answer: at most 65,536 bytes and 8 handles, lists only for the calls that read, and what is listed fits in its room.
use Rattle.std.proofs.Common.{◌≡◌, ◌≤◌, ℕ, suc, Bool, true, false, List, [], ◌∷◌, length, take, drop, Option, Some, refl, sym, subst, ap, arith, length-take, length-drop}
use Rattle.std.proofs.lemmas.List.Elements.{recursion_from_All}
use Rattle.kernel_values.specs.declared.call.Call.{Call}
use Rattle.kernel_values.specs.declared.call.Call.TheVariants as call
use Rattle.kernel_values.specs.declared.reply.Answer.{Answer}
use Rattle.kernel_values.specs.declared.reply.Answer.TheVariants as answer
use Rattle.kernel_values.specs.declared.reply.Reply.{Reply}
use Rattle.kernel_values.specs.declared.reply.Reply.TheVariants as reply
use Rattle.kernel_values.specs.declared.state.CoreState.{CoreState}
use Rattle.kernel_values.specs.declared.state.TableEntry.{TableEntry}
use Rattle.kernel_types.specs.CoreStep.{core_begin, core_resume}
use Rattle.kernel_types.specs.Limits.{FitsIn, IsEndWithin, IsMessageWithin, IsSmallAnswer, Room, full_room, no_room, room_of_call}
use Rattle.kernel_types.specs.Messages.{all_handles, is_opened_as}
use Rattle.kernel_types.specs.Outcome.{Outcome}
use Rattle.kernel_types.specs.Tables.{installed, table_of}
use Rattle.kernel_laws.proofs.Within.{WithinCore, all_find, end_within, memory_within}
use Rattle.kernel_laws.proofs.WithinChanges.{row_within}
use Rattle.step_laws.proofs.Outcomes.{Said, lists, may_list}
use Rattle.step_laws.proofs.Outcomes.Said.{says_memory, says_message, says_no_list}
use Rattle.step_laws.proofs.Turns.{Begun, Resumed, begun_by, resumed_by}

-- an answer is small, and fits in the room
pub record AnswerFits (room : Room) (said : Answer) : Type 0 where
  pub small : IsSmallAnswer said
  pub fits : FitsIn room said

given_fits : (room : Room) (given : Reply) → lists (answer.Gives given) ≡ false → AnswerFits room (answer.Gives given)
given_fits room (reply.Bytes bytes parts) none = absurd (cc)
given_fits room (reply.Handle handle) none = record { small = record { bytes = omega arith; handles = omega arith }; fits = record { bytes = omega arith; handles = omega arith } }
given_fits room _ none = record { small = record { bytes = omega arith; handles = omega arith }; fits = record { bytes = omega arith; handles = omega arith } }

-- what lists nothing fits anywhere
unlisted_fits : (room : Room) (said : Answer) → lists said ≡ false → AnswerFits room said
unlisted_fits room (answer.Gives given) none = given_fits room given none
unlisted_fits room (answer.Device reply) none = absurd (cc)
unlisted_fits room _ none = record { small = record { bytes = omega arith; handles = omega arith }; fits = record { bytes = omega arith; handles = omega arith } }

-- an answer that lists bytes and handles
listed_fits : (bytes handles : List ℕ) → length bytes ≤ 65536 → length handles ≤ 8 → AnswerFits full_room (answer.Gives (reply.Bytes bytes handles))
listed_fits bytes handles few some = record { small = record { bytes = few; handles = some }; fits = record { bytes = few; handles = some } }

-- a message's parts get a number each
handles_length : (table : List TableEntry) (objects : List ℕ) → length (all_handles table objects) ≡ length objects
handles_length table [] = refl
handles_length table (object ∷ objects) = ap suc (handles_length (installed table object) objects)

module _ (by : Option ℕ) (reads : Bool) (s : CoreState) (w : WithinCore s) (room : Room) (enough : reads ≡ true → room ≡ full_room) where
  said_fits : (said : Answer) → Said by reads s said → AnswerFits room said
  said_fits said (says_no_list none) = unlisted_fits room said none
  said_fits said (says_message may c row id number end message there is_open app offset some parts is) =
      let e : IsEndWithin end = end_within c.objects (row_within by s c w row) id end there in
      let m : IsMessageWithin message = all_find IsMessageWithin (is_opened_as number) end.messages (recursion_from_All IsMessageWithin end.messages e.messages) message is_open in
      let table : List TableEntry = table_of c app in
      let bytes : List ℕ = take some (drop offset message.bytes) in
      let handles : List ℕ = all_handles table (take parts message.parts) in
      let few : length bytes ≤ 65536 = omega (arith, m.bytes, length-take some (drop offset message.bytes), length-drop offset message.bytes) in
      let handles_few : length handles ≤ 8 = omega (arith, m.parts, handles_length table (take parts message.parts), length-take parts message.parts) in
      subst (λ (r : Room). AnswerFits r said) (sym (enough may)) (subst (λ (a : Answer). AnswerFits full_room a) (sym is) (listed_fits bytes handles few handles_few))
  said_fits said (says_memory may c row id memory there offset len is) =
      let few : length memory.bytes ≤ 65536 = memory_within c.objects (row_within by s c w row) id memory there in
      let bytes : List ℕ = take len (drop offset memory.bytes) in
      let bytes_few : length bytes ≤ 65536 = omega (arith, few, length-take len (drop offset memory.bytes), length-drop offset memory.bytes) in
      subst (λ (r : Room). AnswerFits r said) (sym (enough may)) (subst (λ (a : Answer). AnswerFits full_room a) (sym is) (listed_fits bytes [] bytes_few (omega arith)))

room_to_read : (asked : Call) → may_list asked ≡ true → room_of_call asked ≡ full_room
room_to_read (call.Read chan id offset room parts) may = refl
room_to_read (call.MemRead handle offset len) may = refl
room_to_read (call.NsRecv conn timeout) may = refl
room_to_read _ may = absurd (cc)

pub begin_fits : (c : CoreState) → WithinCore c → (thread start : ℕ) (asked : Call) (outcome : Outcome) → core_begin c thread start asked ≡ Some outcome
    → AnswerFits (room_of_call asked) outcome.answer
begin_fits c w thread start asked outcome is =
    let begun : Begun c thread start asked outcome = begun_by c thread start asked outcome is in
    let fits : AnswerFits (room_of_call asked) begun.inner.answer =
    said_fits (Some begun.found.app) (may_list asked) c w (room_of_call asked) (room_to_read asked) begun.inner.answer begun.acts.says in
    subst (λ (o : Outcome). AnswerFits (room_of_call asked) o.answer) (sym begun.ends) (record { small = fits.small; fits = fits.fits })

pub resume_fits : (c : CoreState) → WithinCore c → (thread start : ℕ) (outcome : Outcome) → core_resume c thread start ≡ Some outcome → AnswerFits no_room outcome.answer
resume_fits c w thread start outcome is =
    let over : Resumed c thread start outcome = resumed_by c thread start outcome is in
    let fits : AnswerFits no_room over.inner.answer = said_fits (Some over.found.app) false c w no_room (λ may. absurd (cc)) over.inner.answer over.comes.says in
    subst (λ (o : Outcome). AnswerFits no_room o.answer) (sym over.ends) (record { small = fits.small; fits = fits.fits })
