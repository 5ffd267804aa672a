-- The ends that the bridge names, and the entries of its device.
use Rattle.std.specs.Prelude.{◌≡◌, ◌≤◌, ◌==◌, ℕ}
use Rattle.std.specs.List.{count_by}
use Rattle.kernel_values.specs.declared.state.State.{State}

-- the core's list of bridged ends has each end as often as an entry of the device keeps it, and none twice
pub record NamesItsEntries (s : State) : Type 0 where
  pub same : (end : ℕ) → count_by (λ other. other == end) s.core.bridged ≡ count_by (λ entry. entry.end == end) s.world.device.entries
  pub once : (end : ℕ) → count_by (λ other. other == end) s.core.bridged ≤ 1
