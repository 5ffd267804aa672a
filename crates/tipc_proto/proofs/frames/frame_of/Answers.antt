use Rattle.std.proofs.Common.{◌∙◌, arith}
use Rattle.tipc_proto.proofs.FrameLaws.{frame_found, frame_again}
use Rattle.tipc_proto.proofs.frames.frame_of.Goals as goal

pub returns : goal.returns
returns c = record {
  exact = c.read_frame.ensures;
  found = frame_found c.args.bytes.now c.read_frame.result (λ i. omega (arith, c.type_inv.bytes i)) c.read_frame.ensures;
  only = λ f payload h. c.read_frame.ensures ∙ frame_again c.args.bytes.now f payload h;
}
