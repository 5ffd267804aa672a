-- What a membership that is refused as too deep would have made.
use Rattle.std.specs.Prelude.{◌≡◌, ◌<◌, ℕ, List, ◌∷◌, length, Some}
use Rattle.kernel_values.specs.declared.flags.Events.{Events}
use Rattle.kernel_values.specs.declared.state.CoreState.{CoreState}
use Rattle.kernel_values.specs.declared.state.Member.{Member}
use Rattle.kernel_values.specs.declared.state.Object.{Object}
use Rattle.kernel_values.specs.declared.state.TableEntry.{TableEntry}
use Rattle.kernel_types.specs.Objects.{changed, on_set}
use Rattle.kernel_types.specs.Sets.{new_member, with_member}
use Rattle.kernel_types.specs.Tables.{entry_at, table_of}
use Rattle.set_laws.specs.Chains.{ChainFrom}

-- the objects, once the set has one more member
abbrev pub with_membership : List Object → ℕ → Member → List Object
with_membership objects set member = changed (on_set (with_member member)) objects set

-- Both numbers are in the application's table, and once the first one's set has the other's object as a member, some chain of
-- sets, each a member of the one before, has more than 8.
pub record MakesLongChain (c : CoreState) (app set handle : ℕ) (mask : Events) (cookie : ℕ) : Type 0 where
  pub holder : TableEntry
  pub entry : TableEntry
  pub holder_is : entry_at (table_of c app) set ≡ Some holder
  pub entry_is : entry_at (table_of c app) handle ≡ Some entry
  pub first : ℕ
  pub sets : List ℕ
  pub chain : ChainFrom (with_membership c.objects holder.object (new_member handle entry.object mask cookie)) first sets
  pub long : 8 < length (first ∷ sets)
