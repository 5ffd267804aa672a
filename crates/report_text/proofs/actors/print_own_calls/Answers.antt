use Rattle.std.proofs.Common.{drop, ◌+◌, arith, map}
use Rattle.std.proofs.lemmas.List.{at_drop_all}
use Rattle.report_text.specs.Forms.{answered_call_words}
use Rattle.report_text.specs.Lines.{text_of}
use Rattle.report_text.specs.OwnCalls.{calls_of}
use Rattle.report_text.proofs.OwnCalls.{calls_left_at}
use Rattle.report_text.proofs.Printed.{begun, went_on, stopped, all_printed}
use Rattle.report_text.proofs.actors.print_own_calls.Goals as goal

pub loop-k-init : goal.loop-k-init
loop-k-init g c = begun _ _ _ _

pub loop-k-preserved : goal.loop-k-preserved
loop-k-preserved g c =
    went_on _ (text_of (map answered_call_words (calls_of c.args.actor (drop (c.loop-k.k + 1) c.args.entries.now))))
    (calls_left_at c.args.actor c.args.entries.now c.loop-k.k c.index-entries-k.result c.split_at.result.1.now (omega arith) c.index-entries-k.is c.split_at.ensures.back)
    c.loop-k.invariant c.in_ok-print_own_call.ensures

pub returns-in_err-print_own_call : goal.returns-in_err-print_own_call
returns-in_err-print_own_call g c =
    stopped _ (text_of (map answered_call_words (calls_of c.args.actor (drop (c.loop-k.k + 1) c.args.entries.now))))
    (calls_left_at c.args.actor c.args.entries.now c.loop-k.k c.index-entries-k.result c.split_at.result.1.now (omega arith) c.index-entries-k.is c.split_at.ensures.back)
    c.loop-k.invariant c.in_err-print_own_call.ensures c.from_residual.ensures.1

pub returns : goal.returns
returns g c =
    all_printed (at_drop_all (λ entries. text_of (map answered_call_words (calls_of c.args.actor entries))) c.args.entries.now c.loop-k.k (omega arith)) c.loop-k.invariant
