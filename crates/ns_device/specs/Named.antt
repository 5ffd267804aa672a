-- The entries of the bridge, by the ends that the core's list of bridged ends names.
use Rattle.std.specs.Prelude.{◌≡◌, ◌⊎◌, ℕ, Bool, false, ◌==◌, List, [], ◌∷◌, IsTrue}
use Rattle.std.specs.List.{list_any}
use Rattle.kernel_values.specs.declared.world.BridgeEntry.{BridgeEntry}

abbrev pub is_named : List ℕ → ℕ → Bool
is_named bridged end = list_any (λ other. other == end) bridged

abbrev pub has_end : ℕ → List BridgeEntry → Bool
has_end end entries = list_any (λ other. other.end == end) entries

-- each entry's end is named, and no two entries have one end
abbrev pub AreNamed : List ℕ → List BridgeEntry → Type 0
AreNamed bridged [] = Unit {0}
AreNamed bridged (entry ∷ entries) = IsTrue (is_named bridged entry.end) × (has_end entry.end entries ≡ false) × AreNamed bridged entries
