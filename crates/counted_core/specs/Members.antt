-- Members that go from a set.
use Rattle.std.specs.Prelude.{ℕ, Bool, List, [], ◌∷◌, Some, not, if◌then◌else◌}
use Rattle.std.specs.List.{filter, flat_map, fold}
use Rattle.kernel_values.specs.declared.state.Body.{Body}
use Rattle.kernel_values.specs.declared.state.HandleSet.{HandleSet}
use Rattle.kernel_values.specs.declared.state.Member.{Member}
use Rattle.kernel_types.specs.Objects.{on_set}
use Rattle.kernel_types.specs.Sets.{has_label}
use Rattle.object_store.specs.Stock.{Held, unnamed}
use Rattle.counted_core.specs.Held.{changed_if}

-- a set with these members
abbrev pub having : List Member → HandleSet → HandleSet
having members set = record set { members = members }

-- what a member with this label names
unfoldable pub labelled_objects : ℕ → Member → List ℕ
labelled_objects label member = (if has_label label member then member.object ∷ [] else [])

unfoldable pub is_labelled_else : ℕ → Member → Bool
is_labelled_else label member = not (has_label label member)

-- the values after the members of a set with this label went: these are its members
abbrev pub removed_items : ℕ → ℕ → List Member → List (Held Body) → List (Held Body)
removed_items label id members items =
    changed_if (on_set (having (filter (is_labelled_else label) members))) (Some id)
    (fold unnamed (changed_if (on_set (having [])) (Some id) items) (flat_map (labelled_objects label) members))
