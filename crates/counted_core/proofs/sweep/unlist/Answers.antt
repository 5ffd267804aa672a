use Rattle.std.proofs.Common.{rules, ◌≡◌, ◌==◌, not, refl}
use Rattle.std.specs.List.{filter}
use Rattle.std.proofs.lemmas.Fn.{filter_same}
use Rattle.counted_core.proofs.sweep.unlist.Goals as goal

pub returns-in-Port : goal.returns-in-Port
returns-in-Port c =
    let left : c.retain.new.self ≡ filter (λ other. not (c.args.server == other)) c.in-Port.port.pending = filter_same _ _ _ (λ x b f' k. search rules) _ _ c.retain.ensures in
    rw (c.in-Port.is, left) refl
