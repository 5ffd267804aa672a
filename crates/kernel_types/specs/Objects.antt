-- The objects of a state, by their numbers. An object that is not there is no port, no end, no set and
-- no memory reference, and a change of it changes nothing.
use Rattle.std.specs.Prelude.{ℕ, Bool, false, List, [], ◌∷◌, ◌++◌, ◌+◌, ◌==◌, Option, Some, None, slice_get, slice_set}
use Rattle.std.specs.List.{position_or_len, find, list_any}
use Rattle.std.specs.Option.{option_map}
use Rattle.std.specs.Prelude.{bytes_eq}
use Rattle.kernel_values.specs.declared.state.Object.{Object}
use Rattle.kernel_values.specs.declared.state.Body.{Body}
use Rattle.kernel_values.specs.declared.state.Body.TheVariants as body
use Rattle.kernel_values.specs.declared.state.Port.{Port}
use Rattle.kernel_values.specs.declared.state.ChannelEnd.{ChannelEnd}
use Rattle.kernel_values.specs.declared.state.HandleSet.{HandleSet}
use Rattle.kernel_values.specs.declared.state.MemoryRef.{MemoryRef}
use Rattle.kernel_values.specs.declared.state.EndState.{EndState}
use Rattle.kernel_values.specs.declared.state.Connector.{Connector}
use Rattle.kernel_values.specs.declared.state.CoreState.{CoreState}

abbrev pub set_if : {X : Type 0} → List X → ℕ → Option X → List X
set_if xs at None = xs
set_if xs at (Some x) = slice_set xs at x

-- the list with its item at a place changed; past the end, the list itself
abbrev pub map_at : {X : Type 0} → (X → X) → List X → ℕ → List X
map_at change xs at = set_if xs at (option_map change (slice_get xs at))

-- the place of the object with this number
abbrev pub place_of : List Object → ℕ → ℕ
place_of objects id = position_or_len (λ object. object.id == id) objects

abbrev pub object_of : List Object → ℕ → Option Object
object_of objects id = slice_get objects (place_of objects id)

abbrev pub is_there : List Object → ℕ → Bool
is_there objects id = list_any (λ object. object.id == id) objects

abbrev pub port_in : Body → Option Port
port_in (body.Port port) = Some port
port_in _ = None

abbrev pub end_in : Body → Option ChannelEnd
end_in (body.End end) = Some end
end_in _ = None

abbrev pub set_in : Body → Option HandleSet
set_in (body.Set set) = Some set
set_in _ = None

abbrev pub memory_in : Body → Option MemoryRef
memory_in (body.Memory memory) = Some memory
memory_in _ = None

abbrev pub as_port : Option Object → Option Port
as_port None = None
as_port (Some object) = port_in object.body

abbrev pub as_end : Option Object → Option ChannelEnd
as_end None = None
as_end (Some object) = end_in object.body

abbrev pub as_set : Option Object → Option HandleSet
as_set None = None
as_set (Some object) = set_in object.body

abbrev pub as_memory : Option Object → Option MemoryRef
as_memory None = None
as_memory (Some object) = memory_in object.body

abbrev pub port_of : List Object → ℕ → Option Port
port_of objects id = as_port (object_of objects id)

abbrev pub end_of : List Object → ℕ → Option ChannelEnd
end_of objects id = as_end (object_of objects id)

abbrev pub set_of : List Object → ℕ → Option HandleSet
set_of objects id = as_set (object_of objects id)

abbrev pub memory_of : List Object → ℕ → Option MemoryRef
memory_of objects id = as_memory (object_of objects id)

-- changes of one kind of object, which leave the others

abbrev pub on_port : (Port → Port) → Body → Body
on_port change (body.Port port) = body.Port (change port)
on_port change other = other

abbrev pub on_end : (ChannelEnd → ChannelEnd) → Body → Body
on_end change (body.End end) = body.End (change end)
on_end change other = other

abbrev pub on_set : (HandleSet → HandleSet) → Body → Body
on_set change (body.Set set) = body.Set (change set)
on_set change other = other

abbrev pub on_memory : (MemoryRef → MemoryRef) → Body → Body
on_memory change (body.Memory memory) = body.Memory (change memory)
on_memory change other = other

abbrev pub on_body : (Body → Body) → Object → Object
on_body change object = record object { body = change object.body }

-- the objects with the one of this number changed
abbrev pub changed : (Body → Body) → List Object → ℕ → List Object
changed change objects id = map_at (on_body change) objects (place_of objects id)

abbrev pub with_objects : List Object → CoreState → CoreState
with_objects objects c = record c { objects = objects }

abbrev pub port_changed : (Port → Port) → ℕ → CoreState → CoreState
port_changed change id c = with_objects (changed (on_port change) c.objects id) c

abbrev pub end_changed : (ChannelEnd → ChannelEnd) → ℕ → CoreState → CoreState
end_changed change id c = with_objects (changed (on_end change) c.objects id) c

abbrev pub set_changed : (HandleSet → HandleSet) → ℕ → CoreState → CoreState
set_changed change id c = with_objects (changed (on_set change) c.objects id) c

abbrev pub memory_changed : (MemoryRef → MemoryRef) → ℕ → CoreState → CoreState
memory_changed change id c = with_objects (changed (on_memory change) c.objects id) c

-- the state with one more object, which gets the next number
abbrev pub added : Body → CoreState → CoreState
added body c = record c { objects = c.objects ++ (record { id = c.next; body = body }) ∷ []; next = c.next + 1 }

-- a new end of a channel, without messages and marks
abbrev pub new_end : Option ℕ → EndState → Option (List ℕ) → Option Connector → ℕ → ℕ → ChannelEnd
new_end peer state path client slots size = record {
  peer = peer;
  state = state;
  path = path;
  client = client;
  slots = slots;
  size = size;
  messages = [];
  sent = 0;
  accepted = false;
  ready = false;
  blocked = false;
  unblocked = false;
  error = false;
}

abbrev pub is_port_at : List ℕ → Option Port → Bool
is_port_at path None = false
is_port_at path (Some port) = bytes_eq port.path path

abbrev pub has_path : List ℕ → Object → Bool
has_path path object = is_port_at path (port_in object.body)

-- the port that is published under a path; a path stays taken as long as its port is there
abbrev pub published : List Object → List ℕ → Option Object
published objects path = find (has_path path) objects
