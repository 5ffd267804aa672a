-- The entries that name objects. A table entry, an entry of the bridge and a wait name an object; a port
-- names its pending server ends, a set its members, and an end the objects in its messages. A peer and a
-- path name nothing. Every entry counts, also where one holder has two of them.
use Rattle.std.specs.Prelude.{ℕ, List, [], ◌∷◌, ◌++◌, ◌==◌, Option, Some, None, map}
use Rattle.std.specs.List.{flat_map, count_by}
use Rattle.kernel_values.specs.declared.state.Object.{Object}
use Rattle.kernel_values.specs.declared.state.Body.{Body}
use Rattle.kernel_values.specs.declared.state.Body.TheVariants as body
use Rattle.kernel_values.specs.declared.state.Message.{Message}
use Rattle.kernel_values.specs.declared.state.Application.{Application}
use Rattle.kernel_values.specs.declared.state.Thread.{Thread}
use Rattle.kernel_values.specs.declared.state.Activity.{Activity}
use Rattle.kernel_values.specs.declared.state.Activity.TheVariants as activity
use Rattle.kernel_values.specs.declared.state.WaitOn.{WaitOn}
use Rattle.kernel_values.specs.declared.state.WaitOn.TheVariants as wait_on
use Rattle.kernel_values.specs.declared.state.CoreState.{CoreState}

-- one entry that names an object; it is held by an object, or by none: a table, the bridge or a wait
pub record Name : Type 0 where
  pub holder : Option ℕ
  pub object : ℕ

abbrev pub root : ℕ → Name
root object = record { holder = None; object = object }

abbrev pub held_by : ℕ → ℕ → Name
held_by holder object = record { holder = Some holder; object = object }

abbrev pub table_names : Application → List Name
table_names app = map (λ entry. root entry.object) app.table

-- a wait for an object's events names it, one for a connect names its end, and a `waitany` names nothing
abbrev pub waited_names : WaitOn → List Name
waited_names (wait_on.Object object handle cookie) = root object ∷ []
waited_names (wait_on.Connect end handle) = root end ∷ []
waited_names wait_on.Any = []

abbrev pub activity_names : Activity → List Name
activity_names (activity.Waiting start wait) = waited_names wait.on
activity_names _ = []

abbrev pub wait_names : Thread → List Name
wait_names thread = activity_names thread.activity

abbrev pub message_objects : List Message → List ℕ
message_objects messages = flat_map (λ message. message.parts) messages

-- what an object names
abbrev pub named_in : Body → List ℕ
named_in (body.Port port) = port.pending
named_in (body.End end) = message_objects end.messages
named_in (body.Set set) = map (λ member. member.object) set.members
named_in (body.Memory memory) = []

abbrev pub object_names : Object → List Name
object_names object = map (held_by object.id) (named_in object.body)

unfoldable pub naming : CoreState → List Name
naming c = flat_map table_names c.apps ++ map root c.bridged ++ flat_map wait_names c.threads ++ flat_map object_names c.objects

-- how many entries name an object
abbrev pub names_of : List Name → ℕ → ℕ
names_of entries object = count_by (λ name. name.object == object) entries
