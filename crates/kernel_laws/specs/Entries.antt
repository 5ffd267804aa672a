-- The entries of the bridge.
use Rattle.std.specs.Prelude.{◌≡◌, ◌⊎◌, List, [], ◌∷◌}
use Rattle.kernel_values.specs.declared.world.BridgeEntry.{BridgeEntry}

-- the entry is one of these
abbrev pub IsAmong : BridgeEntry → List BridgeEntry → Type 0
IsAmong entry [] = ⊥
IsAmong entry (other ∷ others) = (other ≡ entry) ⊎ IsAmong entry others
