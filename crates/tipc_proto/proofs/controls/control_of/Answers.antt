use Rattle.std.proofs.Common.{◌∙◌, sym, arith}
use Rattle.tipc_proto.proofs.ControlLaws.{control_found, control_again, control_breaks}
use Rattle.tipc_proto.proofs.controls.control_of.Goals as goal

pub returns : goal.returns
returns c = record {
  exact = c.read_control.ensures;
  found = control_found c.args.payload.now c.read_control.result (λ i. omega (arith, c.type_inv.payload i)) c.read_control.ensures;
  only = λ control h. c.read_control.ensures ∙ control_again c.args.payload.now control h;
  place = λ i h. control_breaks c.args.payload.now i (sym c.read_control.ensures ∙ h);
}
