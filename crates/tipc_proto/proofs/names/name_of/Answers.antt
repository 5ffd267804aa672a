use Rattle.std.proofs.Common.{◌≡◌, ◌∙◌, true, ap, arith, take, ℕ}
use Rattle.std.specs.List.{prefix_len}
use Rattle.kernel_values.specs.Words.{is_path, is_printable}
use Rattle.tipc_proto.proofs.NameLaws.{front_is_path}
use Rattle.tipc_proto.proofs.names.name_of.Goals as goal

pub unreachable-requires : goal.unreachable-requires
unreachable-requires c =
    let long = c.printable_len-long.ensures.len in
    let lawful : is_path (take (prefix_len is_printable c.args.field.now) c.args.field.now) ≡ true = front_is_path c.args.field.now (omega arith) (omega arith) in
    let here : is_path (take c.printable_len-long.result c.args.field.now) ≡ true = ap (λ (n : ℕ). is_path (take n c.args.field.now)) long ∙ lawful in
    let some = rw here at c.of.ensures in
    cc
