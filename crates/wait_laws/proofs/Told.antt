-- Where nobody denies a connection by the number of CANCELLED, no answer from the other side tells it.
use Rattle.std.proofs.Common.{◌≡◌, ℕ, zero, suc, ◌-◌, ◌≤◌, Bool, true, false, cond, not, List, [], ◌∷◌, ◌++◌, length, Option, Some, None, refl, ap, sym, ◌∙◌, subst, arith}
use Rattle.std.specs.Prelude.{◌&&◌, slice_get}
use Rattle.std.specs.List.{list_all, list_any}
use Rattle.std.specs.Option.{is_some, unwrap_or}
use Rattle.kernel_values.specs.SceneLaw.{IsLawfulScene, SceneValue, scripts_of}
use Rattle.kernel_values.specs.declared.entry.Entry.{Entry}
use Rattle.kernel_values.specs.declared.entry.Event.{Event}
use Rattle.kernel_values.specs.declared.entry.Event.TheVariants as event
use Rattle.kernel_values.specs.declared.errno.Errno.{Errno}
use Rattle.kernel_values.specs.declared.errno.Errno.TheVariants as errno
use Rattle.kernel_values.specs.declared.reply.Answer.TheVariants as answer
use Rattle.kernel_values.specs.declared.state.State.{State}
use Rattle.kernel_values.specs.declared.world.ClientWait.{ClientWait}
use Rattle.kernel_values.specs.declared.world.ClientWaitOn.{ClientWaitOn}
use Rattle.kernel_values.specs.declared.world.ClientWaitOn.TheVariants as wait_on
use Rattle.kernel_values.specs.declared.world.Connection.{Connection}
use Rattle.kernel_values.specs.declared.world.ConnectionStatus.{ConnectionStatus}
use Rattle.kernel_values.specs.declared.world.ConnectionStatus.TheVariants as connection_status
use Rattle.kernel_values.specs.declared.world.World.{World}
use Rattle.kernel_types.specs.Carried.{drained_in, is_honest, where_done}
use Rattle.kernel_types.specs.Clients.{Acted, answer_of_wait, connect_answer, connect_answer_of, end_by_answer, end_of_ns_wait, is_closed, ns_refuses, receive_answer, receive_from}
use Rattle.kernel_types.specs.Drains.{connection_of, connection_place, drained, drained_frames}
use Rattle.kernel_types.specs.Errors.{error_of}
use Rattle.kernel_types.specs.History.{Legal, state_after}
use Rattle.kernel_types.specs.Opening.{opening}
use Rattle.kernel_types.specs.Step.{client_number, client_resume, is_thread}
use Rattle.kernel_types.specs.Turns.{history_limit}
use Rattle.kernel_types.specs.Whole.{FollowsScripts}
use Rattle.carry_laws.proofs.Histories.{carried}
use Rattle.carry_laws.proofs.Lists.{AllOf}
use Rattle.wait_laws.proofs.Denied.{IsUndenied, NoneDenied, drained_undenied, none_denied}
use Rattle.wait_laws.proofs.Histories.{client_ends_cancelled, client_resumed_at, client_told_of}
use Rattle.wait_laws.proofs.Refusals.{IsHarmless, IsOther}
use Rattle.wait_laws.proofs.Turning.{ClientWoken, client_woken}
use Rattle.wait_laws.specs.Cancelling.{BegunWait, cancels, is_cancelled, is_client_told}

-- The error with another number is another one.

abbrev is_it : Errno → Bool
is_it e = is_cancelled (answer.Refuses e)

others : (xs : List Errno) (k : ℕ) → AllOf (λ e. is_it e ≡ false) xs → (k ≡ length xs → ⊥) → is_it (unwrap_or (slice_get (xs ++ errno.Cancelled ∷ []) k) errno.InvalidArgs) ≡ false
others [] zero all apart = absurd (apart refl)
others [] (suc k) all apart = refl
others (x ∷ xs) zero all apart = all.0
others (x ∷ xs) (suc k) all apart = others xs k all.1 (λ same. apart (ap (λ n. suc n) same))

first_errors : List Errno
first_errors = errno.BadHandle ∷ errno.InvalidArgs ∷ errno.NotFound ∷ errno.AccessDenied ∷ errno.AlreadyExists ∷ errno.NoResources ∷ errno.NoMsg
    ∷ errno.NotReady ∷ errno.ChannelClosed ∷ errno.TooBig ∷ errno.NotEnoughBuffer ∷ errno.NotSupported ∷ errno.RecurseTooDeep ∷ errno.TimedOut ∷ []

error_other : (status : ℕ) → IsOther status → is_it (error_of status) ≡ false
unfolding error_of first_errors
error_other status other =
    others first_errors (status - 1) (refl, (refl, (refl, (refl, (refl, (refl, (refl, (refl, (refl, (refl, (refl, (refl, (refl, (refl, tt)))))))))))))) (λ same. let fourteen : status - 1 ≡ 14 = same in other (omega (arith, fourteen)))

-- What an answer from the other side tells.

abbrev NotIt : Option Acted → Type 0
NotIt None = Unit {0}
NotIt (Some acted) = is_cancelled acted.answer ≡ false

connect_tells : (w : World) (c : Connection) (status : ConnectionStatus) → IsUndenied status → NotIt (connect_answer_of c status w)
connect_tells w c connection_status.Asked is = tt
connect_tells w c (connection_status.Established remote size) is = refl
connect_tells w c (connection_status.Denied status) is = error_other status is
connect_tells w c connection_status.Shut is = refl

abbrev IfUndenied : Option Connection → Type 0
IfUndenied None = Unit {0}
IfUndenied (Some c) = IsUndenied c.status

at_place : (cs : List Connection) (place : ℕ) → AllOf (λ c. IsUndenied c.status) cs → IfUndenied (slice_get cs place)
at_place [] place all = tt
at_place (c ∷ cs) zero all = all.0
at_place (c ∷ cs) (suc place) all = at_place cs place all.1

connect_answer_tells : (w : World) (o : Option Connection) → IfUndenied o → NotIt (connect_answer o w)
connect_answer_tells w None is = tt
connect_answer_tells w (Some c) is = connect_tells w c c.status is

receive_tells : (w : World) (c : Connection) (inbox : List (List ℕ)) → NotIt (receive_from c inbox w)
receive_tells w c (bytes ∷ rest) = refl
receive_tells w c [] = elim (is_closed c.status) as (λ b. NotIt (cond b (Some (ns_refuses errno.ChannelClosed w)) None)) [ true ↦ refl | false ↦ tt ]

receive_answer_tells : (w : World) (o : Option Connection) → NotIt (receive_answer o w)
receive_answer_tells w None = tt
receive_answer_tells w (Some c) = receive_tells w c c.inbox

answer_tells : (w : World) (on : ClientWaitOn) → NoneDenied w → NotIt (answer_of_wait on w)
unfolding answer_of_wait
answer_tells w (wait_on.Connect conn) none =
    connect_answer_tells w (connection_of w.driver.connections conn) (at_place w.driver.connections (connection_place w.driver.connections conn) none)
answer_tells w (wait_on.Receive conn) none = receive_answer_tells w (connection_of w.driver.connections conn)

told_by : (clock : ℕ) (wait : ClientWait) (got : Option Acted) (w : World) (acted : Acted) → is_some got ≡ true → NotIt got → end_by_answer clock wait got w ≡ Some acted
    → is_cancelled acted.answer ≡ false
told_by clock wait (Some found) w acted some other is = subst (λ (x : Acted). is_cancelled x.answer ≡ false) (let same : found ≡ acted = cc in same) other
told_by clock wait None w acted some other is = absurd (cc)

told_end : (s : State) (k start : ℕ) (acted : Acted) (b : ClientWoken s (client_number s k) start acted) → NoneDenied (drained s.world) → is_client_told s k ≡ true
    → is_cancelled acted.answer ≡ false
unfolding end_of_ns_wait
told_end s k start acted b none told =
    ap (λ (x : Acted). is_cancelled x.answer) b.ends
    ∙ told_by s.core.clock b.wait (answer_of_wait b.wait.on (drained s.world)) (drained s.world) b.inner (sym (client_told_of s k start acted b) ∙ told)
    (answer_tells (drained s.world) b.wait.on none) b.done

-- The frames that the driver reads where a wait of a client ends.
frames_read : (s : State) (k start : ℕ) (acted : Acted) → is_thread s k ≡ false → client_resume s (client_number s k) start ≡ Some acted
    → AllOf IsHarmless (drained_in s (event.Resume (record { 0 = k }) start)) → AllOf IsHarmless (drained_frames s.world)
unfolding drained_in
frames_read s k start acted none is harmless =
    subst (λ o. AllOf IsHarmless (where_done (drained_frames s.world) o)) (ap (λ b. cond b None (client_resume s (client_number s k) start)) none ∙ is) harmless

by_told : (told said mark : Bool) → (told ≡ false → said ≡ mark) → (told ≡ true → said ≡ false) → said ≡ (not told && mark)
by_told true said mark untold is = is refl
by_told false said mark untold is = untold refl

module _ (scene : SceneValue) (before : List Entry) (entry : Entry) (after : List Entry) (lawful : IsLawfulScene scene) (honest : list_all is_honest scene.clients ≡ true)
    (short : length (before ++ entry ∷ after) ≤ history_limit) (legal : Legal (opening scene) (before ++ entry ∷ after)) (follows : FollowsScripts (scripts_of scene) (before ++ entry ∷ after)) where
  clear : NoneDenied (state_after (opening scene) before).world × AllOf IsHarmless (drained_in (state_after (opening scene) before) entry.event)
  unfolding history_limit
  clear = none_denied scene before entry after (omega (arith, short)) legal (carried scene (before ++ entry ∷ after) lawful.queue honest legal follows)

  pub honest_ends : (k start : ℕ) → is_thread (state_after (opening scene) before) k ≡ false → entry.event ≡ event.Resume (record { 0 = k }) start
      → (begun : BegunWait k start before) × (is_cancelled entry.answer ≡ (not (is_client_told (state_after (opening scene) before) k) && list_any cancels begun.since))
  honest_ends k start none is =
      let s : State = state_after (opening scene) before in
      let ends : (begun : BegunWait k start before) × (is_client_told s k ≡ false → is_cancelled entry.answer ≡ list_any cancels begun.since) = client_ends_cancelled scene before entry after legal k start none is in
      let out : (o : Acted) × (client_resume s (client_number s k) start ≡ Some o) × (entry.answer ≡ o.answer) = client_resumed_at scene before entry after legal k start none is in
      let b : ClientWoken s (client_number s k) start out.0 = client_woken s (client_number s k) start out.0 out.1 in
      let read : AllOf IsHarmless (drained_frames s.world) =
      frames_read s k start out.0 none out.1 (subst (λ (e : Event). AllOf IsHarmless (drained_in s e)) is clear.1) in (
        ends.0,
        by_told (is_client_told s k) (is_cancelled entry.answer) (list_any cancels ends.0.since) ends.1
            (λ told. ap is_cancelled out.2 ∙ told_end s k start out.0 b (drained_undenied s.world read clear.0) told),
      )
