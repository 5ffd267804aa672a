use Rattle.std.proofs.Common.{◌≡◌, ◌++◌, [], ◌∷◌, List, Option, length, ap, sym, subst, arith, length-append, option_to_list}
use Rattle.std.specs.Prelude.{All, IfSome}
use Rattle.std.proofs.lemmas.List.Elements.{All-pop, All-push}
use Rattle.turnstile.specs.declared.pass.Pass.{Pass}
use Rattle.runners.specs.declared.by_turns.Worker.{Worker}
use Rattle.runners.specs.Workers.{Rests, Serves}
use Rattle.runners.proofs.running.passes_of.Goals as goal

pub loop-worker-preserved : goal.loop-worker-preserved
loop-worker-preserved g c =
    let popped : All (Serves c.args.turnstile.now) c.pop.new.self.items × IfSome c.pop.result (Serves c.args.turnstile.now) =
    All-pop (Serves c.args.turnstile.now) c.loop-worker.workers.items c.pop.new.self.items c.pop.result c.pop.ensures.items c.loop-worker.invariant.workers in
    let serves : Serves c.args.turnstile.now c.in-Some.worker = subst (λ (r : Option Worker). IfSome r (Serves c.args.turnstile.now)) c.in-Some.is popped.1 in
    let before : c.loop-worker.workers.items ≡ c.pop.new.self.items ++ c.in-Some.worker ∷ [] =
    subst (λ (r : Option Worker). c.loop-worker.workers.items ≡ c.pop.new.self.items ++ option_to_list r) c.in-Some.is c.pop.ensures.items in
    record {
      workers = popped.0;
      passes = subst (All (Rests c.args.turnstile.now)) (sym c.in_ok-push-2.ensures.items)
          (All-push (Rests c.args.turnstile.now) c.loop-worker.passes.items c.in-Some.worker.pass c.loop-worker.invariant.passes serves.0);
      len = omega (
        arith,
        ap (λ (ws : List Worker). length ws) before,
        length-append c.pop.new.self.items (c.in-Some.worker ∷ []),
        ap (λ (ps : List Pass). length ps) c.in_ok-push-2.ensures.items,
        length-append c.loop-worker.passes.items (c.in-Some.worker.pass ∷ []),
        c.loop-worker.invariant.len,
      );
    }
