-- One object that nobody names is dropped.
use Rattle.std.specs.Prelude.{◌≡◌, ◌≤◌, ◌<◌, ◌==◌, ◌&&◌, ℕ, Bool, not, true, List, Option, map, if◌then◌else◌}
use Rattle.std.specs.List.{filter}
use Rattle.kernel_values.specs.declared.state.ChannelEnd.{ChannelEnd}
use Rattle.kernel_values.specs.declared.state.CoreState.{CoreState}
use Rattle.kernel_values.specs.declared.state.EndState.TheVariants as end_state
use Rattle.kernel_values.specs.declared.state.Object.{Object}
use Rattle.kernel_values.specs.declared.state.Port.{Port}
use Rattle.kernel_types.specs.Connects.{peer_of}
use Rattle.kernel_types.specs.Messages.{has_id}
use Rattle.kernel_types.specs.Names.{named_in, names_of, naming}
use Rattle.kernel_types.specs.Objects.{end_of, is_there, on_body, on_end, on_port, with_objects}
use Rattle.kernel_types.specs.Reach.{is_in}
use Rattle.kernel_types.specs.Sweep.{is_live}
use Rattle.count_laws.specs.Thinning.{In, ids, thinned}

-- an end whose peer is dropped becomes Disconnected, where it is live
abbrev pub cut_from : ℕ → ChannelEnd → ChannelEnd
cut_from x end = record end { state = (if is_live end.state && has_id x end.peer then end_state.Disconnected else end.state) }

-- a port's pending server ends less the dropped end's peer
abbrev pub unlisted : Option ℕ → Port → Port
unlisted peer port = record port { pending = filter (λ server. not (has_id server peer)) port.pending }

abbrev pub is_other : ℕ → ℕ → Bool
is_other x id = not (id == x)

abbrev pub others : ℕ → List Object → List Object
others x objects = filter (λ object. is_other x object.id) objects

abbrev pub all_cut : ℕ → List Object → List Object
all_cut x objects = map (on_body (on_end (cut_from x))) objects

abbrev pub all_unlisted : Option ℕ → List Object → List Object
all_unlisted peer objects = map (on_body (on_port (unlisted peer))) objects

unfoldable pub dropped : ℕ → CoreState → CoreState
dropped x c = with_objects (all_cut x (all_unlisted (peer_of (end_of c.objects x)) (others x c.objects))) c

-- what is left of a state that is being swept
abbrev pub IsLeft : CoreState → CoreState → Type 0
IsLeft s c = c ≡ thinned (ids c.objects) s

-- each object names what ranks lower
pub record Ranked (c : CoreState) : Type 0 where
  pub rank : ℕ → ℕ
  pub top : ℕ
  pub falls : (x : Object) (object : ℕ) → In x c.objects → is_in (named_in x.body) object ≡ true → rank object < rank x.id
  pub low : (object : ℕ) → rank object ≤ top

-- each object that is there is named
abbrev pub AllNamed : CoreState → Type 0
AllNamed c = (object : ℕ) → is_there c.objects object ≡ true → 0 < names_of (naming c) object

-- objects are dropped one after the other, each while no entry names it, in whatever order
pub data Drops (s : CoreState) : CoreState → Type 0 where
  none_yet : (c : CoreState) → c ≡ s → Drops s c
  one_more : (c b : CoreState) (x : ℕ) → Drops s b → names_of (naming b) x ≡ 0 → c ≡ dropped x b → Drops s c
