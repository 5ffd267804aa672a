-- What a refused split leaves.
use Rattle.std.specs.Prelude.{◌≡◌}
use Rattle.turnstile.specs.declared.view.View.{View}
use Rattle.turnstile.specs.declared.split.SplitRefused.{SplitRefused}
use Rattle.turnstile.specs.declared.split.SplitRefused.TheVariants.{NoneLeft, NoMemory}
use Rattle.turnstile.specs.Views.{found_none}

-- of the reason, and the caller's view before and after: where none was left, it found that every number was drawn
abbrev pub Refuses : SplitRefused → View → View → Type 0
Refuses NoneLeft before after = after ≡ found_none before
Refuses NoMemory before after = after ≡ before
