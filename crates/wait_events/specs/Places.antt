-- How the places of a table are laid out. No public clause cites this file.
use Rattle.std.specs.Prelude.{◌≡◌, ℕ, List, length, map}
use lib.Lanes.{mask_l}
use Rattle.wait_events.specs.declared.watch.Watch.{Watch}
use Rattle.wait_events.specs.Watches.{is_told}

-- 64 places, a bit for each whose object has an event
pub record IsTableWatch (places : List Watch) (told : ℕ) : Type 0 where
  pub size : length places ≡ 64
  pub marked : told ≡ mask_l (map is_told places)
