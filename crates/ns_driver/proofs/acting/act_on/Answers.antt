-- proofs/acting/act_on/Answers.antt
use Rattle.std.proofs.Common.{◌≡◌, rules, ◌∙◌, ap, Option, Some}
use Rattle.std.specs.Option.{option_map}
use Rattle.kernel_values.specs.declared.call.Call.{Call}
use Rattle.ns_driver.specs.Acts.{acted, bare, told}
use Rattle.ns_driver.proofs.acting.act_on.Goals as goal

pub returns-in-Some-clause-told : goal.returns-in-Some-clause-told
returns-in-Some-clause-told c =
    let asked : c.args.call ≡ Some c.in-Some.call = search rules in
    ap (λ (o : Option Call). option_map told (acted c.args.client c.args.before o (bare c.args.mem.now c.args.driver.now))) asked
    ∙ c.act_directly-answer.ensures c.args.client c.args.before
