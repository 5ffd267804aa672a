use Rattle.std.proofs.Common.{sym, ◌∙◌}
use Rattle.run_laws.proofs.Ordering.{Asks, asks, turn_after, turn_up_to, turn_of_none, kernel_device, kernel_idle, kernel_none, whole_by}
use Rattle.runners.specs.Runs.{state_told}
use Rattle.runners.proofs.serial_order.next_turn.Goals as goal

pub returns-in-Some-clause-turn : goal.returns-in-Some-clause-turn
returns-in-Some-clause-turn g c =
    let all : Asks (state_told c.args.shared.now) c.args.last c.first_after-first.result c.actors-count.result =
    asks _ c.args.last _ _ _ c.first_after-first.ensures c.actors-count.ensures.statuses c.actors-count.ensures.scripts c.requires in
    turn_after (state_told c.args.shared.now) c.args.last c.first_after-first.result c.actors-count.result c.in-Some.actor all c.in-Some.ensures.first

pub returns-in-Some-first_from-clause-turn : goal.returns-in-Some-first_from-clause-turn
returns-in-Some-first_from-clause-turn g c =
    let all : Asks (state_told c.args.shared.now) c.args.last c.first_after-first.result c.actors-count.result =
    asks _ c.args.last _ _ _ c.first_after-first.ensures c.actors-count.ensures.statuses c.actors-count.ensures.scripts c.requires in
    turn_up_to (state_told c.args.shared.now) c.args.last c.first_after-first.result c.actors-count.result c.in-Some-first_from.actor all
    (sym c.first_from.ensures.first ∙ c.in_default.is) c.in-Some-first_from.ensures.first

pub returns-then-device_has_work-clause-turn : goal.returns-then-device_has_work-clause-turn
returns-then-device_has_work-clause-turn g c =
    let all : Asks (state_told c.args.shared.now) c.args.last c.first_after-first.result c.actors-count.result =
    asks _ c.args.last _ _ _ c.first_after-first.ensures c.actors-count.ensures.statuses c.actors-count.ensures.scripts c.requires in
    sym (turn_of_none (state_told c.args.shared.now) c.args.last c.first_after-first.result c.actors-count.result all (sym c.first_from.ensures.first ∙ c.in_default.is) (sym c.first_from-2.ensures.first ∙ c.in_default-first_from.is)
    ∙ kernel_device (state_told c.args.shared.now) (sym c.if-device_has_work.ensures))

pub returns-then-idle_lawful-clause-turn : goal.returns-then-idle_lawful-clause-turn
returns-then-idle_lawful-clause-turn g c =
    let all : Asks (state_told c.args.shared.now) c.args.last c.first_after-first.result c.actors-count.result =
    asks _ c.args.last _ _ _ c.first_after-first.ensures c.actors-count.ensures.statuses c.actors-count.ensures.scripts c.requires in
    sym (turn_of_none (state_told c.args.shared.now) c.args.last c.first_after-first.result c.actors-count.result all (sym c.first_from.ensures.first ∙ c.in_default.is) (sym c.first_from-2.ensures.first ∙ c.in_default-first_from.is)
    ∙ kernel_idle (state_told c.args.shared.now) (sym c.if-device_has_work.ensures) (sym c.if-idle_lawful.ensures))

pub returns-clause-turn : goal.returns-clause-turn
returns-clause-turn g c =
    let all : Asks (state_told c.args.shared.now) c.args.last c.first_after-first.result c.actors-count.result =
    asks _ c.args.last _ _ _ c.first_after-first.ensures c.actors-count.ensures.statuses c.actors-count.ensures.scripts c.requires in
    sym (turn_of_none (state_told c.args.shared.now) c.args.last c.first_after-first.result c.actors-count.result all (sym c.first_from.ensures.first ∙ c.in_default.is) (sym c.first_from-2.ensures.first ∙ c.in_default-first_from.is)
    ∙ kernel_none (state_told c.args.shared.now) (sym c.if-device_has_work.ensures) (sym c.if-idle_lawful.ensures))

pub returns-clause-end : goal.returns-clause-end
returns-clause-end g c =
    let all : Asks (state_told c.args.shared.now) c.args.last c.first_after-first.result c.actors-count.result =
    asks _ c.args.last _ _ _ c.first_after-first.ensures c.actors-count.ensures.statuses c.actors-count.ensures.scripts c.requires in
    whole_by (state_told c.args.shared.now) c.args.last c.first_after-first.result c.actors-count.result all
    (turn_of_none (state_told c.args.shared.now) c.args.last c.first_after-first.result c.actors-count.result all (sym c.first_from.ensures.first ∙ c.in_default.is) (sym c.first_from-2.ensures.first ∙ c.in_default-first_from.is)
    ∙ kernel_none (state_told c.args.shared.now) (sym c.if-device_has_work.ensures) (sym c.if-idle_lawful.ensures))
