use Rattle.std.proofs.Common.{subst, sym}
use Rattle.kernel_values.specs.SceneLaw.{IsLawfulScene}
use Rattle.scene_generator.specs.Generated.{generated}
use Rattle.scene_generator.proofs.Lawful.{is_lawful}
use Rattle.scene_generator.proofs.scenes.generated.Goals as goal

-- src/scenes.rt:54:5
pub invariant_of-result : goal.invariant_of-result
invariant_of-result c =
    let told : IsLawfulScene (generated c.args.seed c.args.count) = is_lawful c.args.seed c.args.count c.requires in
    let clients : IsLawfulScene (record (generated c.args.seed c.args.count) { clients = c.new.result }) =
    subst (λ xs. IsLawfulScene (record (generated c.args.seed c.args.count) { clients = xs })) (sym c.new.ensures) told in
    let turns : IsLawfulScene (record (generated c.args.seed c.args.count) { clients = c.new.result; turns = c.new-2.result }) =
    subst (λ xs. IsLawfulScene (record (generated c.args.seed c.args.count) { clients = c.new.result; turns = xs })) (sym c.new-2.ensures) clients in
    subst (λ xs. IsLawfulScene (record { apps = xs; clients = c.new.result; queue = 16; turns = c.new-2.result })) (sym c.in_ok-apps_of.ensures) turns
