use Rattle.std.proofs.Common.{sym, ◌<◌, ℕ, subst, arith}
use Rattle.std.proofs.lemmas.Option.{slice_get_within}
use Rattle.history_check.proofs.Moved.{caught_up_there, renewed, renewed_none}
use Rattle.history_check.proofs.actors.Actors.start_anew.Goals as goal

pub index-requires : goal.index-requires
index-requires c = omega (arith, c.args.self.now.places.ok.0, slice_get_within c.args.self.now.scripts c.args.actor c.in-Some.script.now (sym c.in-Some.ensures), c.requires.many)

pub index_mut-requires : goal.index_mut-requires
index_mut-requires c = omega (arith, c.args.self.now.places.ok.0, slice_get_within c.args.self.now.scripts c.args.actor c.in-Some.script.now (sym c.in-Some.ensures), c.requires.many)

pub returns-in_ok-self : goal.returns-in_ok-self
returns-in_ok-self c = renewed c.args.self.now c.args.actor c.args.start c.in-Some.script.now c.index.result.now c.in_ok-self.field-0 c.requires.many (sym c.in-Some.ensures) c.index.ensures
    (subst (λ (n : ℕ). n < c.args.start) c.start.ensures c.if-start.true) c.in_ok-self.ensures

pub returns-else-start : goal.returns-else-start
returns-else-start c = renewed_none c.args.self.now c.args.actor c.args.start
    (caught_up_there c.args.self.now c.args.actor c.args.start c.index.result.now c.requires.many c.requires.within c.index.ensures
    (λ late. absurd (omega (arith, late, c.start.ensures, c.if-start.false))))
