use Rattle.std.proofs.Common.{◌≡◌, ◌≤◌, List, length, subst, sym, rules}
use Rattle.kernel_values.specs.declared.script.Command.{Command}
use Rattle.kernel_values.specs.SceneLaw.{scripts_of}
use Rattle.runners.specs.Places.{most_actors}
use Rattle.runners.proofs.Starting.{few_scripts}
use Rattle.runners.proofs.scripts.scripts_of.Goals as goal

pub returns-clause-few : goal.returns-clause-few
returns-clause-few c =
    let all : c.add_clients.new.scripts ≡ scripts_of (record { apps = c.scene.inside.apps; clients = c.scene.inside.clients; queue = c.scene.inside.queue; turns = c.scene.inside.turns }) = search rules in
    subst (λ (ss : List (List Command)). length ss ≤ most_actors) (sym all) (few_scripts _ c.scene.invariant)
