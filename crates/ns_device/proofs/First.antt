-- The first of the entries that has something due.
use Rattle.std.proofs.Common.{◌≡◌, List, [], ◌∷◌, Some, None, refl}
use Rattle.std.specs.Prelude.{slice_get}
use Rattle.std.specs.List.{cons_option, filter_map}
use Rattle.std.specs.Option.{option_or}
use Rattle.kernel_values.specs.declared.state.CoreState.{CoreState}
use Rattle.kernel_values.specs.declared.world.BridgeEntry.{BridgeEntry}
use Rattle.kernel_types.specs.Device.{entry_due}
use Rattle.ns_device.specs.Owing.{first_due}

pub first_is : (c : CoreState) (entries : List BridgeEntry) → first_due c entries ≡ slice_get (filter_map (entry_due c) entries) 0
first_is c [] = refl
first_is c (entry ∷ entries) =
    elim (entry_due c entry) as (λ o. option_or o (first_due c entries) ≡ slice_get (cons_option o (filter_map (entry_due c) entries)) 0) [
      | None ↦ first_is c entries
      | Some due ↦ refl
    ]
