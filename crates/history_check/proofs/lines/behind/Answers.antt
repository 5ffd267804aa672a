use Rattle.std.proofs.Common.{◌≡◌, ◌≢◌, ◌++◌, ℕ, List, sym}
use Rattle.std.proofs.lemmas.Bool.Decides.{Decides-eqb}
use Rattle.std.proofs.lemmas.Slice.Eq.{strip_prefix_is}
use mathlib.Core.List.{IsPrefix}
use Rattle.history_check.proofs.Lined.{match_some, match_none}
use Rattle.history_check.proofs.lines.behind.Goals as goal

pub returns-clause-some : goal.returns-clause-some
returns-clause-some c = match_some ((rest : List ℕ) → c.args.text.now ≢ c.args.front.now ++ rest) (λ x. c.args.text.now ≡ c.args.front.now ++ x.now) c.strip_prefix.result
    (strip_prefix_is Decides-eqb c.args.text.now c.args.front.now c.strip_prefix.result c.strip_prefix.ensures.cases)

pub returns-clause-none : goal.returns-clause-none
returns-clause-none c = match_none ((rest : List ℕ) → c.args.text.now ≢ c.args.front.now ++ rest) (IsPrefix c.args.front.now c.args.text.now → ⊥) (λ x. c.args.text.now ≡ c.args.front.now ++ x.now) c.strip_prefix.result
    (λ none front. none front.0 (sym front.1)) (strip_prefix_is Decides-eqb c.args.text.now c.args.front.now c.strip_prefix.result c.strip_prefix.ensures.cases)
