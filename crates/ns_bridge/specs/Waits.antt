-- What the driver keeps of the clients: for each that waits what it waits for, and few connections.
use Rattle.std.specs.Prelude.{◌≡◌, ◌≤◌, ℕ, List, [], ◌∷◌, length, Option, Some}
use Rattle.std.specs.List.{All}
use Rattle.kernel_values.specs.declared.world.ClientActivity.{ClientActivity}
use Rattle.kernel_values.specs.declared.world.ClientActivity.TheVariants as activity
use Rattle.kernel_values.specs.declared.world.ClientState.{ClientState}
use Rattle.kernel_values.specs.declared.world.ClientWaitOn.{ClientWaitOn}
use Rattle.kernel_values.specs.declared.world.Driver.{Driver}
use Rattle.kernel_types.specs.Limits.{IsInboxWithin}

-- a client that waits is one for which the driver waits for the same
abbrev pub IsAwaited : ClientActivity → Option ClientWaitOn → Type 0
IsAwaited (activity.Waiting start wait) on = on ≡ Some wait.on
IsAwaited other on = Unit {0}

abbrev pub AreAwaited : List ClientState → List (Option ClientWaitOn) → Type 0
AreAwaited [] [] = Unit {0}
AreAwaited [] (on ∷ waits) = ⊥
AreAwaited (client ∷ clients) [] = ⊥
AreAwaited (client ∷ clients) (on ∷ waits) = IsAwaited client.activity on × AreAwaited clients waits

-- what the normal world keeps: a whole guest memory, the driver's waits, so few clients that each has a number, no more connections than were asked for, and short inboxes
pub record IsKept (bytes : List ℕ) (driver : Driver) (ons : List (Option ClientWaitOn)) (clients : List ClientState) (asked : ℕ) : Type 0 where
  pub memory : length bytes ≡ 1048576
  pub waits : AreAwaited clients ons
  pub many : length ons ≤ 4294967295
  pub few : length driver.connections ≤ asked
  pub inboxes : All IsInboxWithin driver.connections
