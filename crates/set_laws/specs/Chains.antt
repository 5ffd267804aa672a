-- Chains of sets, each a member of the one before.
use Rattle.std.specs.Prelude.{◌≡◌, ◌≤◌, ◌<◌, ℕ, true, List, [], ◌∷◌, length, Some}
use Rattle.std.specs.Option.{is_some}
use Rattle.kernel_values.specs.declared.state.Object.{Object}
use Rattle.kernel_values.specs.declared.state.TableEntry.{TableEntry}
use Rattle.kernel_values.specs.declared.state.CoreState.{CoreState}
use Rattle.kernel_types.specs.Objects.{set_of}
use Rattle.kernel_types.specs.Reach.{is_in}
use Rattle.kernel_types.specs.Sets.{members_of}
use Rattle.kernel_types.specs.Tables.{entry_at, table_of}

-- the number is a set's
abbrev pub IsSet : List Object → ℕ → Type 0
IsSet objects id = is_some (set_of objects id) ≡ true

-- the number is a set's that has the other as a member's object
abbrev pub HasMember : List Object → ℕ → ℕ → Type 0
HasMember objects set member = is_in (members_of (set_of objects set)) member ≡ true

-- a chain of sets by their numbers: the first, and those after it, each a member of the one before
abbrev pub ChainFrom : List Object → ℕ → List ℕ → Type 0
ChainFrom objects set [] = IsSet objects set
ChainFrom objects set (next ∷ sets) = HasMember objects set next × ChainFrom objects next sets

-- No chain of sets has more than 8. So no set stands in itself at any depth: round such a circle there are chains of any length.
abbrev pub HasShortChains : List Object → Type 0
HasShortChains objects = (first : ℕ) (sets : List ℕ) → ChainFrom objects first sets → length (first ∷ sets) ≤ 8

-- what tables and sets name has a number that was given
pub record NamesGivenNumbers (c : CoreState) : Type 0 where
  pub entries : (app handle : ℕ) (entry : TableEntry) → entry_at (table_of c app) handle ≡ Some entry → entry.object < c.next
  pub members : (set member : ℕ) → HasMember c.objects set member → member < c.next
