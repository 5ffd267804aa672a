-- Several words written one behind the other: `r` answers the last write, which left `new`.
use Rattle.std.proofs.Common.{◌≡◌, ℕ, List, [], ◌++◌, Result, sym, ap, ◌∙◌, append_assoc, append-nil}
use Rattle.std.specs.Prelude.{OnOk}
use Rattle.std.proofs.lemmas.Result.{IfOk-equal}

module _ {E : Type 0} (r : Result (Unit {0}) E) (new : List ℕ) where
  -- one part in front of what is known
  pub before : (line next a b : List ℕ) → next ≡ line ++ a → OnOk r (new ≡ next ++ b) → OnOk r (new ≡ line ++ (a ++ b))
  before line next a b is later =
      IfOk-equal r new (next ++ b) (line ++ (a ++ b)) later (ap (λ l. l ++ b) is ∙ append_assoc line a b)

  -- nothing comes behind the last one
  pub last : (line a : List ℕ) → OnOk r (new ≡ line ++ a) → OnOk r (new ≡ line ++ (a ++ []))
  last line a is = IfOk-equal r new (line ++ a) (line ++ (a ++ [])) is (ap (λ l. line ++ l) (sym (append-nil a)))
