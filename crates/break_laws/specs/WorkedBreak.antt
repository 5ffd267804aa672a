-- A state before a break and after it, written out. The bridge names end 1, whose peer application 0 holds, and end 3, whose server end is pending at port 0.
-- So 1 and 3 go, and with 3 the server end 4; 2 is Disconnected and has the error mark; and the channel between 5 and 6 stays.
use Rattle.std.specs.Prelude.{ℕ, Bool, true, false, List, [], ◌∷◌, Option, Some, None}
use Rattle.kernel_values.specs.declared.flags.PortFlags.{PortFlags}
use Rattle.kernel_values.specs.declared.scene.Manifest.{Manifest}
use Rattle.kernel_values.specs.declared.state.Body.TheVariants as body
use Rattle.kernel_values.specs.declared.state.Connector.{Connector}
use Rattle.kernel_values.specs.declared.state.Connector.TheVariants as connector
use Rattle.kernel_values.specs.declared.state.CoreState.{CoreState}
use Rattle.kernel_values.specs.declared.state.EndState.{EndState}
use Rattle.kernel_values.specs.declared.state.EndState.TheVariants as end_state
use Rattle.kernel_values.specs.declared.state.Object.{Object}
use Rattle.kernel_values.specs.declared.state.TableEntry.{TableEntry}
use Rattle.kernel_values.specs.declared.world.BridgeEntry.{BridgeEntry}
use Rattle.kernel_types.specs.Objects.{new_end}

abbrev held : ℕ → ℕ → TableEntry
held handle object = record { handle = handle; object = object; cookie = 0 }

abbrev port_at : List ℕ → PortFlags → List ℕ → Object
port_at path flags pending = record { id = 0; body = body.Port (record { path = path; bufs = 1; size = 8; flags = flags; pending = pending }) }

abbrev end_at : ℕ → ℕ → EndState → Option Connector → Bool → Object
end_at id peer state client error = record { id = id; body = body.End (record (new_end (Some peer) state None client 1 8) { error = error }) }

abbrev state_of : Manifest → List Object → List ℕ → CoreState
state_of manifest objects bridged = record {
  apps = (record { manifest = manifest; starts = 1; running = true; table = held 0 0 ∷ held 1 2 ∷ held 2 5 ∷ held 3 6 ∷ []; last = None }) ∷ [];
  threads = [];
  objects = objects;
  next = 7;
  clock = 0;
  bridged = bridged;
}

abbrev pub before_break : Manifest → List ℕ → PortFlags → CoreState
before_break manifest path flags = state_of manifest (
    port_at path flags (4 ∷ [])
    ∷ end_at 1 2 end_state.Connected (Some connector.NormalWorld) false
    ∷ end_at 2 1 end_state.Connected None false
    ∷ end_at 3 4 end_state.Connecting (Some connector.NormalWorld) false
    ∷ end_at 4 3 end_state.Connecting None false
    ∷ end_at 5 6 end_state.Connected (Some (connector.App 0)) false
    ∷ end_at 6 5 end_state.Connected None false
    ∷ []) (1 ∷ 3 ∷ [])

abbrev pub broken_entries : List BridgeEntry
broken_entries = (record { secure = 1000; normal = 1024; end = 1; answered = true }) ∷ (record { secure = 1001; normal = 1025; end = 3; answered = false }) ∷ []

abbrev pub after_break : Manifest → List ℕ → PortFlags → CoreState
after_break manifest path flags = state_of manifest (
    port_at path flags []
    ∷ end_at 2 1 end_state.Disconnected None true
    ∷ end_at 5 6 end_state.Connected (Some (connector.App 0)) false
    ∷ end_at 6 5 end_state.Connected None false
    ∷ []) []
