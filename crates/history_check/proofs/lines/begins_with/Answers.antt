use Rattle.std.proofs.Common.{Bor, List, ℕ, sym, ◌∙◌}
use Rattle.history_check.proofs.Lined.{begins_no, begins_yes}
use Rattle.history_check.proofs.lines.begins_with.Goals as goal

pub returns-in-Some-clause-yes : goal.returns-in-Some-clause-yes
returns-in-Some-clause-yes c = λ is. begins_yes {X = Bor (List ℕ)} (λ x. x.now) c.args.text.now c.args.word.now c.in-Some.rest.now c.behind-in-Some.result c.in-Some.ensures.some c.behind-in-Some.ensures.some (sym c.is_some.ensures ∙ is)

pub returns-in-Some-clause-no : goal.returns-in-Some-clause-no
returns-in-Some-clause-no c = λ is. begins_no c.args.text.now c.args.word.now c.in-Some.rest.now c.behind-in-Some.result c.in-Some.ensures.some c.behind-in-Some.ensures.none (sym c.is_some.ensures ∙ is)
