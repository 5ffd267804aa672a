-- What is known of all that tables, waits, sets and messages name is known so after a change, where it is known of what comes to be held.
-- Of what the bridge and the ports keep nothing need be known.
use Rattle.std.proofs.Common.{ℕ, ◌+◌, List, [], ◌∷◌, map, Option}
use Rattle.std.specs.List.{AllByRecursion}
use Rattle.kernel_values.specs.declared.call.Call.{Call}
use Rattle.kernel_values.specs.declared.reply.Answer.{Answer}
use Rattle.kernel_values.specs.declared.state.Body.{Body}
use Rattle.kernel_values.specs.declared.state.Body.TheVariants as body
use Rattle.kernel_values.specs.declared.state.CoreState.{CoreState}
use Rattle.kernel_values.specs.declared.state.Object.{Object}
use Rattle.kernel_types.specs.Applications.{started}
use Rattle.kernel_types.specs.CoreStep.{core_idle}
use Rattle.kernel_types.specs.Ports.{admitted, new_port, server_of}
use Rattle.kernel_types.specs.Threads.{running_activity, with_activity}
use Rattle.set_laws.proofs.Known.{BodyApart, KnownApart, Knows, acted}
use Rattle.set_laws.proofs.KnownChanges.{NewApart, NewCalled, call_apart, idled_apart, running_known, small_apart, started_apart}
use Rattle.set_laws.proofs.Lists.{all_weaker}
use Rattle.step_laws.specs.SmallChanges.{IsMade, SmallChange, after, is_of_app}
use Rattle.step_laws.specs.SmallChanges.SmallChange.{end_accepted, port_made}
use Rattle.step_laws.specs.Walks.{ThreadChange, after_thread}
use Rattle.break_laws.specs.Held.{HeldAre, held_in}

abbrev Any : ℕ → Type 0
Any n = Unit {0}

all_any : (xs : List ℕ) → Knows Any xs
all_any [] = tt
all_any (x ∷ xs) = (tt, all_any xs)

module _ (P : ℕ → Type 0) where
  abbrev Holds : Object → Type 0
  Holds o = AllByRecursion P (held_in o.body)

  held_body : (b : Body) → AllByRecursion P (held_in b) → BodyApart P Any b
  held_body (body.Port port) held = all_any port.pending
  held_body (body.End end) held = held
  held_body (body.Set set) held = held
  held_body (body.Memory memory) held = held

  body_held : (b : Body) → BodyApart P Any b → AllByRecursion P (held_in b)
  body_held (body.Port port) known = tt
  body_held (body.End end) known = known
  body_held (body.Set set) known = known
  body_held (body.Memory memory) known = known

  known_of : (c : CoreState) → HeldAre P c → KnownApart P Any c
  known_of c k = record {
    tables = k.tables;
    bridged = all_any c.bridged;
    waits = k.waits;
    objects = all_weaker Holds (λ o. BodyApart P Any o.body) (λ o held. held_body o.body held) c.objects k.objects;
  }

  held_of : (c : CoreState) → KnownApart P Any c → HeldAre P c
  held_of c k = record { tables = k.tables; waits = k.waits; objects = all_weaker (λ o. BodyApart P Any o.body) Holds (λ o known. body_held o.body known) c.objects k.objects }

  module _ (c : CoreState) (k : HeldAre P c) where
    pub started_held : (place : ℕ) → HeldAre P (started place c)
    started_held place = held_of (started place c) (started_apart P Any place c (known_of c k))

    pub idled_held : (deadline : Option ℕ) → HeldAre P (core_idle deadline c)
    idled_held deadline = held_of (core_idle deadline c) (idled_apart P Any c (known_of c k) deadline)

    pub resumed_held : (thread : ℕ) → HeldAre P (with_activity running_activity thread c)
    resumed_held thread = held_of (with_activity running_activity thread c) (acted P Any c (known_of c k) running_activity (running_known P) thread)

  -- What comes to be held was held, or an application made it.

  module _ (c : CoreState) (k : HeldAre P c) (made : (object : ℕ) → IsMade is_of_app c object → P object) where
    abbrev Accepts : (by : Option ℕ) → SmallChange by c → Type 0
    Accepts by (end_accepted app of_app id server rest port there first room) = P server
    Accepts by _ = Unit {0}

    new_held : (by : Option ℕ) (change : SmallChange by c) → Accepts by change → NewApart P Any by c change
    new_held by (port_made path bufs size flags lawful free) new =
        all_any (map (server_of (c.next + 1) (admitted (new_port path bufs size flags) c.objects)) (admitted (new_port path bufs size flags) c.objects))
    new_held by (end_accepted app of_app id server rest port there first room) new = new
    new_held by _ new = tt

    pub small_held : (by : Option ℕ) (change : SmallChange by c) → Accepts by change → HeldAre P (after by c change)
    small_held by change new = held_of (after by c change) (small_apart P Any c (known_of c k) made by change (new_held by change new))

    pub call_held : (app thread : ℕ) (asked : Call) (said : Answer) (change : ThreadChange app thread asked said c) → NewCalled P app thread asked said c change
        → HeldAre P (after_thread app thread asked said c change)
    call_held app thread asked said change new =
        held_of (after_thread app thread asked said c change) (call_apart P Any c (known_of c k) made app thread asked said change new)
