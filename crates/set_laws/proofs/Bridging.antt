-- What the bridge asks of the core, and time that passes, keep a state sound.
use Rattle.std.proofs.Common.{◌≡◌, ◌≤◌, ℕ, Bool, List, length, Option, None}
use Rattle.std.specs.Prelude.{Ok}
use Rattle.kernel_values.specs.declared.call.Call.{Call}
use Rattle.kernel_values.specs.declared.entry.Seqs.{Seqs}
use Rattle.kernel_values.specs.declared.state.CoreState.{CoreState}
use Rattle.kernel_values.specs.declared.state.State.{State}
use Rattle.kernel_types.specs.Bridge.{ns_connect, ns_drop, ns_push, ns_take, ns_view}
use Rattle.kernel_types.specs.Bridging.{with_core}
use Rattle.kernel_types.specs.CoreStep.{core_idle}
use Rattle.kernel_types.specs.Sweep.{sweep}
use Rattle.kernel_laws.proofs.Rising.{walk_rises}
use Rattle.set_laws.specs.Soundness.{IsSound}
use Rattle.set_laws.proofs.Deepening.{walk_short}
use Rattle.set_laws.proofs.Naming.{Given}
use Rattle.set_laws.proofs.NamingChanges.{walk_names}
use Rattle.set_laws.proofs.Soundness.{apart, given_numbers, together}
use Rattle.step_laws.specs.Walks.{IsWalk}
use Rattle.step_laws.proofs.Steps.{from_here, idled_walks, made_walks, ns_connect_walks, ns_drop_walks, ns_push_walks, ns_take_walks}

walk_sound : {asked : Option Call} {seqs : Seqs} (s : State) (d : CoreState) → IsWalk asked s.core seqs d → IsSound s → IsSound (with_core d s)
walk_sound s d walked sound =
    let given : Given s.core = apart s.core sound.given in
    record {
      rising = walk_rises s.core d walked sound.rising;
      given = together d (walk_names s.core d walked given);
      chains = walk_short s.core d walked (record { short = sound.chains; given = (given_numbers s.core given).members });
    }

pub connected_sound : (s : State) (made : CoreState) (path : List ℕ) → IsSound s → ns_connect s.core path ≡ Ok made → IsSound (with_core made s)
connected_sound s made path sound is = walk_sound s made (made_walks s.core (ns_connect s.core path) made (ns_connect_walks s.core path) is) sound

pub pushed_sound : (s : State) (end : ℕ) (bytes : List ℕ) → length bytes ≤ (ns_view s.core end).size → IsSound s → IsSound (with_core (ns_push s.core end bytes).core s)
pushed_sound s end bytes few sound = walk_sound s (ns_push s.core end bytes).core (ns_push_walks s.core end bytes few) sound

pub taken_sound : (s : State) (end : ℕ) → IsSound s → IsSound (with_core (ns_take s.core end).core s)
taken_sound s end sound = walk_sound s (ns_take s.core end).core (ns_take_walks s.core end) sound

pub dropped_sound : (s : State) (broken : Bool) (end : ℕ) → IsSound s → IsSound (with_core (ns_drop broken end s.core) s)
dropped_sound s broken end sound = walk_sound s (ns_drop broken end s.core) (ns_drop_walks s.core s.core (from_here None s.core) broken end) sound

pub idled_sound : (s : State) (clock : Option ℕ) → IsSound s → IsSound (with_core (sweep (core_idle clock s.core)) s)
idled_sound s clock sound = walk_sound s (sweep (core_idle clock s.core)) (idled_walks s.core clock) sound
