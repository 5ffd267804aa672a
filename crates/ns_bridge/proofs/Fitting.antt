-- What a client is answered fits, and inboxes stay short.
use Rattle.std.proofs.Common.{◌≡◌, ℕ, List, [], Option, Some, None, ◌∙◌, ap, subst}
use Rattle.std.specs.List.{All, AllByRecursion}
use Rattle.std.specs.Option.{option_map}
use Rattle.std.proofs.lemmas.List.Elements.{All-from_recursion, recursion_from_All}
use Rattle.kernel_values.specs.declared.call.Call.{Call}
use Rattle.kernel_values.specs.declared.reply.Answer.{Answer}
use Rattle.kernel_values.specs.declared.state.CoreState.{CoreState}
use Rattle.kernel_values.specs.declared.state.State.{State}
use Rattle.kernel_values.specs.declared.world.Connection.{Connection}
use Rattle.kernel_types.specs.Clients.{Acted}
use Rattle.kernel_types.specs.Limits.{FitsIn, IsInboxWithin, Room, full_room, room_of_call}
use Rattle.kernel_types.specs.Opening.{opening_device}
use Rattle.kernel_types.specs.Step.{Stepped, beside_core, client_begin, client_resume}
use Rattle.kernel_laws.proofs.Worlds.{ActsIf, begin_acts, resume_acts}
use Rattle.ns_bridge.specs.Acts.{Answered, beside, client_called, client_resumed}
use Rattle.ns_bridge.specs.Parts.{Normal, state_of}
use Rattle.ns_bridge.proofs.Lifting.{begin_lifts, resume_lifts}

-- a core with nothing but a clock
abbrev bare_core : ℕ → CoreState
bare_core clock = record { apps = []; threads = []; objects = []; next = 0; clock = clock; bridged = [] }

abbrev bare_state : ℕ → Normal → State
bare_state clock n = state_of (bare_core clock) (opening_device n.driver.size) n

pub record FitsRoom (room : Room) (a : Answered) : Type 0 where
  pub fits : FitsIn room a.answer
  pub inboxes : All IsInboxWithin a.normal.driver.connections

come_fits : (room : Room) (clock : ℕ) (n : Normal) (o : Option Acted) (a : Answered) → All IsInboxWithin n.driver.connections → ActsIf room (bare_state clock n).world o
    → option_map (beside_core (bare_core clock)) o ≡ Some (beside (bare_core clock) (opening_device n.driver.size) a) → FitsRoom room a
come_fits room clock n None a inboxes acts is = absurd (cc)
come_fits room clock n (Some acted) a inboxes acts is =
    let short : AllByRecursion IsInboxWithin n.driver.connections = recursion_from_All IsInboxWithin n.driver.connections inboxes in
    let same : beside_core (bare_core clock) acted ≡ beside (bare_core clock) (opening_device n.driver.size) a = cc in
    let answers : acted.answer ≡ a.answer = ap (λ (x : Stepped). x.answer) same in
    let drivers : acted.world.driver.connections ≡ a.normal.driver.connections = ap (λ (x : Stepped). x.state.world.driver.connections) same in
    record {
      fits = subst (λ (x : Answer). FitsIn room x) answers (acts.fits short);
      inboxes = subst (λ (cs : List Connection). All IsInboxWithin cs) drivers (All-from_recursion IsInboxWithin acted.world.driver.connections (acts.world.inboxes short));
    }

pub called_fits : (clock client start : ℕ) (asked : Call) (n : Normal) (a : Answered) → All IsInboxWithin n.driver.connections
    → client_called clock client start asked n ≡ Some a → FitsRoom (room_of_call asked) a
called_fits clock client start asked n a inboxes is =
    let s : State = bare_state clock n in
    come_fits (room_of_call asked) clock n (client_begin s client start asked) a inboxes (begin_acts s client start asked)
    (begin_lifts s client start asked ∙ ap (option_map (beside s.core s.world.device)) is)

pub resumed_fits : (clock client start : ℕ) (n : Normal) (a : Answered) → All IsInboxWithin n.driver.connections → client_resumed clock client start n ≡ Some a → FitsRoom full_room a
resumed_fits clock client start n a inboxes is =
    let s : State = bare_state clock n in
    come_fits full_room clock n (client_resume s client start) a inboxes (resume_acts s client start)
    (resume_lifts s client start ∙ ap (option_map (beside s.core s.world.device)) is)
