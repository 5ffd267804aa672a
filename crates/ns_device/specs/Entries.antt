-- Which secure addresses are free.
use Rattle.std.specs.Prelude.{ℕ, Bool, not, List}
use Rattle.kernel_values.specs.declared.world.BridgeEntry.{BridgeEntry}
use Rattle.kernel_types.specs.Device.{has_secure}

abbrev pub is_free : List BridgeEntry → ℕ → Bool
is_free entries secure = not (has_secure entries secure)
