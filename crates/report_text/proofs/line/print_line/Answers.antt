use Rattle.std.proofs.Common.{subst, ap, length, arith}
use Rattle.std.specs.Io.KnownBytes.{Appends}
use Rattle.report_text.proofs.Printed.{not_begun, ended_line_some, shown_is, refused_there}
use Rattle.report_text.proofs.line.print_line.Goals as goal

pub returns-in_err-end : goal.returns-in_err-end
returns-in_err-end g c = not_begun (ended_line_some _) c.from_residual.ensures.1

pub returns-in_err-write_all : goal.returns-in_err-write_all
returns-in_err-write_all g c =
    refused_there (shown_is c.args.line.now c.end.new.self c.as_slice.result.now c.after_blank.result.now c.in_ok-end.ensures c.as_slice.ensures c.after_blank.ensures)
    c.in_err-write_all.ensures.front c.in_err-write_all.ensures.cause.later c.in_err-write_all.ensures.cause.failed c.in_err-write_all.ensures.turns c.from_residual-in_err-write_all.ensures.1

pub returns : goal.returns
returns g c = record {
  whole = subst (Appends (g.K.Sink.written c.args.sink.now) (g.K.Sink.written c.write_all.new.sink))
      (shown_is c.args.line.now c.end.new.self c.as_slice.result.now c.after_blank.result.now c.in_ok-end.ensures c.as_slice.ensures c.after_blank.ensures)
      c.in_ok-write_all.ensures.whole;
  front = tt;
  later = c.in_ok-write_all.ensures.cause.later;
  cause = c.in_ok-write_all.ensures.cause.kept;
  turns = omega (
    arith,
    c.in_ok-write_all.ensures.turns,
    ap length (shown_is c.args.line.now c.end.new.self c.as_slice.result.now c.after_blank.result.now c.in_ok-end.ensures c.as_slice.ensures c.after_blank.ensures),
  );
}
