-- What tables, waits, sets and messages name: what threads can come to, other than through the bridge and the pending lists of ports.
use Rattle.std.specs.Prelude.{◌≡◌, ℕ, true, false, List, [], Some, map}
use Rattle.std.specs.List.{AllByRecursion}
use Rattle.kernel_values.specs.declared.state.Body.{Body}
use Rattle.kernel_values.specs.declared.state.Body.TheVariants as body
use Rattle.kernel_values.specs.declared.state.ChannelEnd.{ChannelEnd}
use Rattle.kernel_values.specs.declared.state.CoreState.{CoreState}
use Rattle.kernel_types.specs.Names.{activity_names, message_objects}
use Rattle.kernel_types.specs.Objects.{end_of}
use Rattle.kernel_types.specs.Reach.{is_in}
use Rattle.break_laws.specs.Breaks.{is_pending}

-- the members of a set, and what the messages of an end carry
abbrev pub held_in : Body → List ℕ
held_in (body.Set set) = map (λ member. member.object) set.members
held_in (body.End end) = message_objects end.messages
held_in _ = []

-- it is known of every number that a table, a wait, a set or a message names
pub record HeldAre (P : ℕ → Type 0) (c : CoreState) : Type 0 where
  pub tables : AllByRecursion (λ app. AllByRecursion (λ entry. P entry.object) app.table) c.apps
  pub waits : AllByRecursion (λ thread. AllByRecursion (λ name. P name.object) (activity_names thread.activity)) c.threads
  pub objects : AllByRecursion (λ object. AllByRecursion P (held_in object.body)) c.objects

-- neither an end of the bridge nor a pending server end
abbrev pub IsOpen : CoreState → ℕ → Type 0
IsOpen c n = (is_in c.bridged n ≡ false) × (is_pending c.objects n ≡ false)

-- an end, whose messages carry nothing
pub record IsMuteEnd (c : CoreState) (n : ℕ) : Type 0 where
  pub end : ChannelEnd
  pub there : end_of c.objects n ≡ Some end
  pub mute : message_objects end.messages ≡ []

-- What the kernel keeps to itself: the bridge's ends are named by the bridge alone, and pending server ends by their ports alone; and no message at an
-- end of the bridge carries anything.
pub record KeepsApart (c : CoreState) : Type 0 where
  pub held : HeldAre (IsOpen c) c
  pub apart : (n : ℕ) → is_in c.bridged n ≡ true → is_pending c.objects n ≡ false
  pub ends : (n : ℕ) → is_in c.bridged n ≡ true → IsMuteEnd c n
