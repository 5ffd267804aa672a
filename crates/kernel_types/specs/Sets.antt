-- `set`, `add`, `del` and `mod`: handle sets.
use Rattle.std.specs.Prelude.{ℕ, Bool, zero, suc, List, [], ◌∷◌, ◌++◌, ◌+◌, ◌==◌, not, nat_lt, nat_le, length, map, max, Option, Some, None, if◌then◌else◌}
use Rattle.std.specs.List.{filter, flat_map, list_any, position_or_len}
use Rattle.std.specs.Option.{is_some}
use Rattle.kernel_values.specs.declared.flags.Events.{Events}
use Rattle.kernel_values.specs.declared.reply.Reply.TheVariants as reply
use Rattle.kernel_values.specs.declared.errno.Errno.TheVariants as errno
use Rattle.kernel_values.specs.declared.state.Object.{Object}
use Rattle.kernel_values.specs.declared.state.Body.{Body}
use Rattle.kernel_values.specs.declared.state.Body.TheVariants as body
use Rattle.kernel_values.specs.declared.state.HandleSet.{HandleSet}
use Rattle.kernel_values.specs.declared.state.Member.{Member}
use Rattle.kernel_values.specs.declared.state.TableEntry.{TableEntry}
use Rattle.kernel_values.specs.declared.state.CoreState.{CoreState}
use Rattle.kernel_types.specs.Objects.{map_at, set_of, memory_of, added, set_changed}
use Rattle.kernel_types.specs.Names.{Name, root, held_by}
use Rattle.kernel_types.specs.Reach.{is_in, reached_by}
use Rattle.kernel_types.specs.Events.{chain_limit}
use Rattle.kernel_types.specs.Tables.{table_of, entry_at, is_full, free_handle, install}
use Rattle.kernel_types.specs.Outcome.{Outcome, gives, refuses}

unfoldable pub set_create : CoreState → ℕ → Outcome
set_create c app =
    (if is_full (table_of c app) then refuses errno.NoResources c
    else gives (reply.Handle (free_handle (table_of c app))) (install app c.next (added (body.Set (record { members = [] })) c)))

-- what sets name, and nothing else

abbrev pub member_objects : Body → List ℕ
member_objects (body.Set set) = map (λ member. member.object) set.members
member_objects other = []

abbrev pub membership_names : Object → List Name
membership_names object = map (held_by object.id) (member_objects object.body)

abbrev pub memberships : List Object → List Name
memberships objects = flat_map membership_names objects

-- whether `inner` is `outer` itself, or is in it at any depth: it is reached from `outer` over memberships alone
unfoldable pub is_or_contains : List Object → ℕ → ℕ → Bool
is_or_contains objects outer inner = is_in (reached_by (root outer ∷ memberships objects)) inner

abbrev pub greatest : List ℕ → ℕ
greatest [] = 0
greatest (n ∷ ns) = max n (greatest ns)

abbrev pub members_of : Option HandleSet → List ℕ
members_of None = []
members_of (Some set) = map (λ member. member.object) set.members

abbrev pub one_more_if_set : Option HandleSet → ℕ → ℕ
one_more_if_set None n = 0
one_more_if_set (Some set) n = n + 1

-- the number of sets on the longest chain from an object down, each a member of the one before, up to a limit
abbrev pub depth_below : ℕ → List Object → ℕ → ℕ
depth_below zero objects id = 0
depth_below (suc limit) objects id = one_more_if_set (set_of objects id) (greatest (map (depth_below limit objects) (members_of (set_of objects id))))

abbrev pub has_member : ℕ → Object → Bool
has_member id object = list_any (λ member. member == id) (member_objects object.body)

abbrev pub holders_of : List Object → ℕ → List ℕ
holders_of objects id = map (λ object. object.id) (filter (has_member id) objects)

-- the number of sets on the longest chain down to a set, itself included, up to a limit
abbrev pub depth_above : ℕ → List Object → ℕ → ℕ
depth_above zero objects id = 0
depth_above (suc limit) objects id = greatest (map (depth_above limit objects) (holders_of objects id)) + 1

-- the number of sets on the longest chain through a new membership
unfoldable pub chain_through : List Object → ℕ → ℕ → ℕ
chain_through objects set object = depth_above chain_limit objects set + depth_below chain_limit objects object

abbrev pub has_label : ℕ → Member → Bool
has_label label member = member.label == label

abbrev pub is_label_in : List Member → ℕ → Bool
is_label_in members label = list_any (has_label label) members

abbrev pub member_limit : ℕ
member_limit = 64

abbrev pub new_member : ℕ → ℕ → Events → ℕ → Member
new_member label object mask cookie = record { label = label; object = object; mask = mask; cookie = cookie }

abbrev pub with_member : Member → HandleSet → HandleSet
with_member member set = record set { members = set.members ++ member ∷ [] }

abbrev pub set_add_member : CoreState → ℕ → HandleSet → Member → Outcome
set_add_member c id set member =
    (if is_or_contains c.objects member.object id then refuses errno.InvalidArgs c
    else if is_some (memory_of c.objects member.object) then refuses errno.NotSupported c
    else if is_label_in set.members member.label then refuses errno.AlreadyExists c
    else if nat_lt chain_limit (chain_through c.objects id member.object) then refuses errno.RecurseTooDeep c
    else if nat_le member_limit (length set.members) then refuses errno.NoResources c
    else gives reply.Done (set_changed (with_member member) id c))

abbrev pub set_add_to : CoreState → ℕ → Option HandleSet → Member → Outcome
set_add_to c id None member = refuses errno.InvalidArgs c
set_add_to c id (Some set) member = set_add_member c id set member

abbrev pub set_add_entries : CoreState → ℕ → Events → ℕ → Option TableEntry → Option TableEntry → Outcome
set_add_entries c label mask cookie (Some set) (Some entry) =
    set_add_to c set.object (set_of c.objects set.object) (new_member label entry.object mask cookie)
set_add_entries c label mask cookie _ _ = refuses errno.BadHandle c

unfoldable pub set_add : CoreState → ℕ → ℕ → ℕ → Events → ℕ → Outcome
set_add c app set handle mask cookie =
    set_add_entries c handle mask cookie (entry_at (table_of c app) set) (entry_at (table_of c app) handle)

-- `del` and `mod` look for the label among the members, whether or not the number is still in the table

abbrev pub without_label : ℕ → HandleSet → HandleSet
without_label label set = record set { members = filter (λ member. not (has_label label member)) set.members }

abbrev pub with_mask : Events → ℕ → Member → Member
with_mask mask cookie member = record member { mask = mask; cookie = cookie }

abbrev pub remasked : ℕ → Events → ℕ → HandleSet → HandleSet
remasked label mask cookie set = record set { members = map_at (with_mask mask cookie) set.members (position_or_len (has_label label) set.members) }

abbrev pub labelled : CoreState → ℕ → ℕ → (HandleSet → HandleSet) → Option HandleSet → Outcome
labelled c id label change None = refuses errno.InvalidArgs c
labelled c id label change (Some set) =
    (if is_label_in set.members label then gives reply.Done (set_changed change id c) else refuses errno.NotFound c)

abbrev pub labelled_entry : CoreState → ℕ → (HandleSet → HandleSet) → Option TableEntry → Outcome
labelled_entry c label change None = refuses errno.BadHandle c
labelled_entry c label change (Some entry) = labelled c entry.object label change (set_of c.objects entry.object)

unfoldable pub set_del : CoreState → ℕ → ℕ → ℕ → Outcome
set_del c app set label = labelled_entry c label (without_label label) (entry_at (table_of c app) set)

unfoldable pub set_mod : CoreState → ℕ → ℕ → ℕ → Events → ℕ → Outcome
set_mod c app set label mask cookie = labelled_entry c label (remasked label mask cookie) (entry_at (table_of c app) set)
