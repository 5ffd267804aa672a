use Rattle.std.proofs.Common.{map, ap, sym, ◌++◌}
use Rattle.report_text.specs.Forms.{actor_words, answered_call_words}
use Rattle.report_text.specs.Lines.{lined, text_of}
use Rattle.report_text.specs.OwnCalls.{calls_of}
use Rattle.report_text.proofs.Printed.{begun, went_on, went_to_end, stopped}
use Rattle.report_text.proofs.actors.print_one_actor.Goals as goal

pub returns-in_err-print_actor : goal.returns-in_err-print_actor
returns-in_err-print_actor g c =
    stopped (lined (actor_words c.args.name.now c.count_calls.result)) (text_of (map answered_call_words (calls_of c.args.actor c.args.entries.now)))
    (ap (λ n. lined (actor_words c.args.name.now n) ++ text_of (map answered_call_words (calls_of c.args.actor c.args.entries.now))) (sym c.count_calls.ensures))
    (begun _ _ _ _) c.in_err-print_actor.ensures c.from_residual.ensures.1

pub returns : goal.returns
returns g c =
    went_to_end (went_on (lined (actor_words c.args.name.now c.count_calls.result)) (text_of (map answered_call_words (calls_of c.args.actor c.args.entries.now)))
    (ap (λ n. lined (actor_words c.args.name.now n) ++ text_of (map answered_call_words (calls_of c.args.actor c.args.entries.now))) (sym c.count_calls.ensures))
    (begun _ _ _ _) c.in_ok-print_actor.ensures) c.print_own_calls.ensures
