use Rattle.std.proofs.Common.{◌≡◌, ◌++◌, List, Option, Some, ap, sym, subst, ◌∙◌, option_to_list}
use Rattle.std.specs.Prelude.{All, IfSome}
use Rattle.std.proofs.lemmas.List.Elements.{All-pop, All-push}
use Rattle.turnstile.specs.declared.lock.Turnstile.{Turnstile}
use Rattle.runners.specs.declared.by_turns.Worker.{Worker}
use Rattle.runners.specs.Runs.{ScriptedRun}
use denote.Param.{param}
use denote.Param.Send.{param_send}
use Rattle.runners.specs.contracts.shared.Shared.{the_row as shared_row}
use Rattle.runners.specs.contracts.shared.SharedRecorded.TheImpl.{ghosts}
use Rattle.runners.proofs.running.+start_all.Lts-start_all.{arg-4-2}
use Rattle.runners.proofs.by_turns.Worker.TheSendSync as worker
use Rattle.runners.proofs.bell.Bell.TheSendSync as bell
use Rattle.turnstile.proofs.lock.Turnstile.TheSendSync as turnstile
use Rattle.runners.specs.Workers.{Serves}
use Rattle.runners.proofs.Crossing.{shared_send}
use Rattle.runners.proofs.running.+start_all.Goals as goal

-- of the worker that was taken out, and of those that are left

popped : (t : Turnstile ScriptedRun) (before rest : List Worker) (r : Option Worker) (worker : Worker) → before ≡ rest ++ option_to_list r → r ≡ Some worker → All (Serves t) before
    → All (Serves t) rest × Serves t worker
popped t before rest r worker are is all =
    let both : All (Serves t) rest × IfSome r (Serves t) = All-pop (Serves t) before rest r are all in
    (both.0, subst (λ (o : Option Worker). IfSome o (Serves t)) is both.1)

pub spawn_with-requires-clause-runs : goal.spawn_with-requires-clause-runs
spawn_with-requires-clause-runs g n c κs within =
    (popped c.args.turnstile.now c.args.waiting.items c.pop.new.self.items c.pop.result c.in-Some.worker c.pop.ensures.items c.in-Some.is c.requires.waiting).1

pub start_all-requires-clause-waiting : goal.start_all-requires-clause-waiting
start_all-requires-clause-waiting g n c κs within =
    (popped c.args.turnstile.now c.args.waiting.items c.pop.new.self.items c.pop.result c.in-Some.worker c.pop.ensures.items c.in-Some.is c.requires.waiting).0

pub start_all-requires-in-Ok-push-2-clause-waiting : goal.start_all-requires-in-Ok-push-2-clause-waiting
start_all-requires-in-Ok-push-2-clause-waiting g n c κs within =
    (popped c.args.turnstile.now c.args.waiting.items c.pop.new.self.items c.pop.result c.in-Some.worker c.pop.ensures.items c.in-Some.is c.requires.waiting).0

pub returns-in-Ok-push-clause-all : goal.returns-in-Ok-push-clause-all
returns-in-Ok-push-clause-all g n c =
    subst (All (Serves c.args.turnstile.now)) (sym c.in-Ok-push.ensures.items)
    (All-push (Serves c.args.turnstile.now) c.in_ok-workers-in-Ok.workers.items c.join.result c.in_ok-workers-in-Ok.ensures.all
    (subst (λ (t : Turnstile ScriptedRun). Serves t c.join.result) (ap (λ p. p.turnstile.value) c.in-Ok.ensures.ok ∙ c.of.ensures) c.join.ensures))

-- of the closure that came back

pub spawn_with-requires-in-Err : goal.spawn_with-requires-in-Err
spawn_with-requires-in-Err g n c κs within = (
  within.0,
  (
    within.1.0,
    (
      within.1.1,
      subst (λ v. Serves v.1.now v.2) (sym c.in-Err.ensures.err)
          (popped c.args.turnstile.now c.args.waiting.items c.pop.new.self.items c.pop.result c.in-Some.worker c.pop.ensures.items c.in-Some.is c.requires.waiting).1,
    ),
  ),
)

pub start_all-requires-in-Ok-push-2-clause-refused : goal.start_all-requires-in-Ok-push-2-clause-refused
start_all-requires-in-Ok-push-2-clause-refused g n c κs within =
    subst (All (Serves c.args.turnstile.now)) (sym c.in-Ok-push-2.ensures.items)
    (All-push (Serves c.args.turnstile.now) c.args.refused.items c.spawn_with-in-Err.result c.requires.refused
    (subst (λ v. Serves v.1.now c.spawn_with-in-Err.result) c.in-Err.ensures.err c.spawn_with-in-Err.ensures))

pub spawn_with-requires-send-F : goal.spawn_with-requires-send-F
spawn_with-requires-send-F g n c κs within =
    param_send 2 (arg-4-2 g.row.R g.row.K g.row.H g.R.laws g.K.laws g.H.laws g.R.Threads g.R.Threads-dict g.R.Wait g.R.Wait-dict g.K.IpcKernel g.K.IpcKernel-dict g.H.Hook g.H.Hook-dict g.K.Destruct-dict κs)
    (record {
      owned = λ x vs vss. (
        tt,
        (
          (tt, c.requires.crosses.0.shared x.0.now x.0.ref_ptr.0 x.0.ref_ptr.1 _),
          (
            (
              tt,
              (turnstile.the_sync (shared_row (param 1 g.row.K) g.K.IpcKernel) (ghosts (param 1 g.row.K) g.K.IpcKernel g.K.IpcKernel-dict g.K.Destruct-dict) (shared_send (param 1 g.row.K) g.K.IpcKernel c.requires.crosses.1)).shared x.1.now x.1.ref_ptr.0 x.1.ref_ptr.1 _,
            ),
            (
              worker.the_send.owned x.2 vss.1.1.0,
              ((tt, bell.the_sync.shared x.3.now x.3.ref_ptr.0 x.3.ref_ptr.1 κs.1.1.1.1.1.1.1.1.0), ((tt, c.requires.crosses.2.shared x.4.now x.4.ref_ptr.0 x.4.ref_ptr.1 _), tt)),
            ),
          ),
        ),
      );
      leaving = λ k x w. (tt, (tt, (((tt, tt), tt), tt)));
    })
