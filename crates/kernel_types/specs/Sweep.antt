-- What becomes of the objects that nothing reaches. It is taken at the end of every step.
use Rattle.std.specs.Prelude.{ℕ, Bool, true, false, List, ◌&&◌, not, map, Option, Some, None, if◌then◌else◌}
use Rattle.std.specs.List.{filter}
use Rattle.kernel_values.specs.declared.state.Object.{Object}
use Rattle.kernel_values.specs.declared.state.Port.{Port}
use Rattle.kernel_values.specs.declared.state.ChannelEnd.{ChannelEnd}
use Rattle.kernel_values.specs.declared.state.EndState.{EndState}
use Rattle.kernel_values.specs.declared.state.EndState.TheVariants as end_state
use Rattle.kernel_values.specs.declared.state.CoreState.{CoreState}
use Rattle.kernel_types.specs.Objects.{end_of, on_body, on_port, on_end, with_objects}
use Rattle.kernel_types.specs.Names.{naming}
use Rattle.kernel_types.specs.Reach.{is_in, reached_by}

abbrev pub is_live : EndState → Bool
is_live end_state.Connecting = true
is_live end_state.Connected = true
is_live _ = false

abbrev pub is_marked : List ℕ → Option ℕ → Bool
is_marked marked None = false
is_marked marked (Some id) = is_in marked id

abbrev pub has_marked_peer : List ℕ → Option ChannelEnd → Bool
has_marked_peer marked None = false
has_marked_peer marked (Some end) = is_marked marked end.peer

-- a port's pending server ends, less those whose client ends are not marked
abbrev pub pruned_port : List ℕ → List Object → Port → Port
pruned_port marked objects port = record port { pending = filter (λ server. has_marked_peer marked (end_of objects server)) port.pending }

unfoldable pub pruned : List ℕ → CoreState → CoreState
pruned marked c = with_objects (map (on_body (on_port (pruned_port marked c.objects))) c.objects) c

-- an end that is Connecting or Connected, and whose peer is not marked, becomes Disconnected; its messages and marks stay
abbrev pub cut_end : List ℕ → ChannelEnd → ChannelEnd
cut_end marked end = record end { state = (if is_live end.state && not (is_marked marked end.peer) then end_state.Disconnected else end.state) }

-- the marked objects and no others; with a port its path goes
unfoldable pub kept : List ℕ → CoreState → CoreState
kept marked c = with_objects (map (on_body (on_end (cut_end marked))) (filter (λ object. is_in marked object.id) c.objects)) c

abbrev pub reached : CoreState → List ℕ
reached c = reached_by (naming c)

abbrev pub keep_reached : CoreState → CoreState
keep_reached c = kept (reached c) c

unfoldable pub sweep : CoreState → CoreState
sweep c = keep_reached (pruned (reached c) c)
