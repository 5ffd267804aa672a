-- In a history in which all is carried in order no connection is ever denied by the number of CANCELLED.
use Rattle.std.proofs.Common.{◌≡◌, ℕ, ◌+◌, ◌^◌, ◌<◌, ◌≤◌, Bool, true, false, cond, List, [], ◌∷◌, ◌++◌, length, Option, Some, None, refl, ap, sym, ◌∙◌, subst, arith}
use Rattle.std.specs.Prelude.{◌==◌, ◌||◌, nat_lt}
use Rattle.std.specs.List.{fold}
use Rattle.std.specs.Option.{option_map}
use mathlib.Core.List.{IsPrefix}
use Rattle.kernel_values.specs.Calls.{drains}
use Rattle.kernel_values.specs.SceneLaw.{SceneValue}
use Rattle.kernel_values.specs.declared.call.Call.{Call}
use Rattle.kernel_values.specs.declared.call.Call.TheVariants as call
use Rattle.kernel_values.specs.declared.entry.Entry.{Entry}
use Rattle.kernel_values.specs.declared.entry.Event.{Event}
use Rattle.kernel_values.specs.declared.entry.Event.TheVariants as event
use Rattle.kernel_values.specs.declared.errno.Errno.TheVariants as errno
use Rattle.kernel_values.specs.declared.state.State.{State}
use Rattle.kernel_values.specs.declared.world.Connection.{Connection}
use Rattle.kernel_values.specs.declared.world.ConnectionStatus.{ConnectionStatus}
use Rattle.kernel_values.specs.declared.world.ConnectionStatus.TheVariants as connection_status
use Rattle.kernel_values.specs.declared.world.Driver.{Driver}
use Rattle.kernel_values.specs.declared.world.World.{World}
use Rattle.kernel_types.specs.Carried.{IsCarried, client_frame, drained_in, given_frame, given_in, given_out, offered, offered_in, one_if, read_back, taken, taken_frame, taken_in, where_done}
use Rattle.kernel_types.specs.Clients.{Acted, asked_connection, closed_connection, end_of_ns_wait, greatest_head, next_address, ns_act, ns_kick_call, ns_poke_call, ns_refuses, with_inbox}
use Rattle.kernel_types.specs.CoreStep.{core_begin, core_resume}
use Rattle.kernel_types.specs.Device.{DeviceStep, device_step}
use Rattle.kernel_types.specs.Drains.{answered_status, delivered, drained, drained_frames, from_normal_drained, left_status, to_normal_drained}
use Rattle.kernel_types.specs.GuestMemory.{memory_size}
use Rattle.kernel_types.specs.History.{Legal, entry_of, next_state, state_after, state_or, step_entry}
use Rattle.kernel_types.specs.Opening.{opening}
use Rattle.kernel_types.specs.Outcome.{Outcome}
use Rattle.kernel_types.specs.Sending.{frame, leave_frame, request_frame}
use Rattle.kernel_types.specs.Step.{Stepped, beside_core, client_begin, client_number, client_resume, device_stepped, idle, idle_lawful, in_world, is_thread, next_deadline, step, world_idle}
use Rattle.kernel_laws.proofs.Worlds.{Acts, ActsIf, begin_acts, resume_acts}
use Rattle.kernel_types.specs.Limits.{Room, full_room, room_of_call}
use Rattle.step_laws.proofs.Bridged.{DeviceKeeps, DeviceKeepsIf, any_change, device_keeps}
use Rattle.carry_laws.proofs.Lists.{AllOf, of_append, of_mapped}
use Rattle.wait_laws.proofs.Connections.{IfFrame, Keeps, close_keeps, connect_keeps, recv_keeps, send_keeps, wait_keeps}
use Rattle.wait_laws.proofs.Frames.{IsFine, all_delivered, length_delivered, src_of}
use Rattle.wait_laws.proofs.Refusals.{IsAddress, IsClean, IsHarmless, IsOther, IsPolite, StaysClean, device_stays}
use Rattle.wait_laws.proofs.Turning.{ClientCalled, ClientWoken, client_called, client_woken}

-- A drain.

abbrev connections : World → List Connection
connections w = w.driver.connections

drained_connections : (w : World) → connections (drained w) ≡ fold delivered (connections w) (drained_frames w)
unfolding from_normal_drained to_normal_drained
drained_connections w = refl

drained_many : (w : World) → length (connections (drained w)) ≡ length (connections w)
drained_many w = ap length (drained_connections w) ∙ length_delivered (connections w) (drained_frames w)

-- A call, where the driver may have drained.

module _ (P : Connection → Type 0) (Q : List ℕ → Type 0) (w : World) (closed : (c : Connection) → P c → P (closed_connection c))
    (took : (inbox : List (List ℕ)) (c : Connection) → P c → P (with_inbox inbox c)) (asked : (client : ℕ) → P (asked_connection (next_address (drained w)) client))
    (sends : (c : Connection) → P c → (remote : ℕ) (bytes : List ℕ) → Q (frame c.address remote bytes)) (goes : (c : Connection) → P c → (remote : ℕ) → Q (leave_frame c.address remote))
    (requests : (path : List ℕ) → Q (request_frame (next_address (drained w)) path)) (all : AllOf P (connections w)) where
  abbrev CallIf : Bool → Option Acted → Type 0
  CallIf b None = Unit {0}
  CallIf true (Some acted) = AllOf P (connections (drained w)) → Keeps P Q (drained w) acted
  CallIf false (Some acted) = Keeps P Q w acted

  quiet : (acted : Acted) → connections acted.world ≡ connections w → acted.frame ≡ None → Keeps P Q w acted
  quiet acted same none = record {
    fine = subst (λ cs. AllOf P cs) (sym same) all;
    few = omega (arith, ap length same);
    frame_is = subst (λ o. IfFrame Q o) (sym none) tt;
  }

  quiet_if : (b : Bool) (one other : Acted) → Keeps P Q w one → Keeps P Q w other → Keeps P Q w (cond b one other)
  quiet_if true one other p q = p
  quiet_if false one other p q = q

  poke_quiet : (addr : ℕ) (bytes : List ℕ) → Keeps P Q w (ns_poke_call addr bytes w)
  unfolding ns_poke_call
  poke_quiet addr bytes = quiet_if (nat_lt memory_size (addr + length bytes)) (ns_refuses errno.InvalidArgs w) _ (quiet _ refl refl) (quiet _ refl refl)

  kick_quiet : (queue head : ℕ) → Keeps P Q w (ns_kick_call queue head w)
  unfolding ns_kick_call
  kick_quiet queue head = quiet_if (nat_lt 1 queue || nat_lt greatest_head head) (ns_refuses errno.InvalidArgs w) _ (quiet _ refl refl) (quiet _ refl refl)

  call_if : (clock k : ℕ) (said : Call) → CallIf (drains said) (ns_act clock k said w)
  unfolding ns_act
  call_if clock k (call.NsConnect path) = λ now. connect_keeps P Q (drained w) closed took asked sends goes requests now k path
  call_if clock k (call.NsSend conn bytes) = λ now. send_keeps P Q (drained w) closed took asked sends goes requests now k conn bytes
  call_if clock k (call.NsRecv conn timeout) = λ now. recv_keeps P Q (drained w) closed took asked sends goes requests now clock k conn timeout
  call_if clock k (call.NsClose conn) = λ now. close_keeps P Q (drained w) closed took asked sends goes requests now k conn
  call_if clock k (call.NsPoke addr bytes) = poke_quiet addr bytes
  call_if clock k (call.NsKick queue head) = kick_quiet queue head
  call_if clock k call.Finish = quiet _ refl refl
  call_if clock k _ = tt

  from_drained : (acted : Acted) → Keeps P Q (drained w) acted → Keeps P Q w acted
  from_drained acted kept = record { fine = kept.fine; few = omega (arith, kept.few, drained_many w); frame_is = kept.frame_is }

  call_by : (b : Bool) (o : Option Acted) (acted : Acted) → o ≡ Some acted → (b ≡ true → AllOf P (connections (drained w))) → CallIf b o → Keeps P Q w acted
  call_by true o acted is now kept = from_drained acted ((subst (λ (x : Option Acted). CallIf true x) is kept) (now refl))
  call_by false o acted is now kept = subst (λ (x : Option Acted). CallIf false x) is kept

  pub call_keeps : (clock k : ℕ) (said : Call) (acted : Acted) → ns_act clock k said w ≡ Some acted → (drains said ≡ true → AllOf P (connections (drained w))) → Keeps P Q w acted
  call_keeps clock k said acted is now = call_by (drains said) (ns_act clock k said w) acted is now (call_if clock k said)

  pub begin_keeps : (s : State) (k start : ℕ) (said : Call) (acted : Acted) → s.world ≡ w → client_begin s k start said ≡ Some acted → (drains said ≡ true → AllOf P (connections (drained w))) → Keeps P Q w acted
  begin_keeps s k start said acted same is now =
      let b : ClientCalled s k start said acted = client_called s k start said acted is in
      call_keeps s.core.clock k said acted (ap (λ (u : World). ns_act s.core.clock k said u) (sym same) ∙ b.done) now

  pub end_keeps : (s : State) (k start : ℕ) (acted : Acted) → s.world ≡ w → client_resume s k start ≡ Some acted → AllOf P (connections (drained w)) → Keeps P Q w acted
  end_keeps s k start acted same is now =
      let b : ClientWoken s k start acted = client_woken s k start acted is in
      let kept : Keeps P Q (drained w) b.inner = wait_keeps P Q (drained w) closed took asked sends goes requests now s.core.clock b.wait b.inner
      (ap (λ (u : World). end_of_ns_wait s.core.clock b.wait (drained u)) (sym same) ∙ b.done) in
      subst (λ (x : Acted). Keeps P Q w x) (sym b.ends) (record { fine = kept.fine; few = omega (arith, kept.few, drained_many w); frame_is = kept.frame_is })

-- A step of an actor.

actor_step : (R : World → Option Acted → Type 0) (s : State) (b : Bool) (outcome : Option Outcome) (acted : Option Acted) (r : Stepped)
    → cond b (option_map (in_world s.world) outcome) (option_map (beside_core s.core) acted) ≡ Some r → R s.world None → ((a : Acted) → acted ≡ Some a → R a.world (Some a))
    → R r.state.world (cond b None acted)
actor_step R s true None acted r is still acts = absurd (cc)
actor_step R s true (Some o) acted r is still acts = subst (λ (x : Stepped). R x.state.world None) (let same : in_world s.world o ≡ r = cc in same) still
actor_step R s false outcome None r is still acts = absurd (cc)
actor_step R s false outcome (Some a) r is still acts = subst (λ (x : Stepped). R x.state.world (Some a)) (let same : beside_core s.core a ≡ r = cc in same) (acts a refl)

idle_by : (R : World → Type 0) (s : State) (b : Bool) (r : Stepped) → cond b (Some (idle s)) None ≡ Some r → R (world_idle (next_deadline s) s.world) → R r.state.world
idle_by R s true r is kept = subst (λ (x : Stepped). R x.state.world) (let same : idle s ≡ r = cc in same) kept
idle_by R s false r is kept = absurd (cc)

device_by : (R : DeviceStep → Type 0) (o : Option DeviceStep) (r : Stepped) → option_map device_stepped o ≡ Some r → ((done : DeviceStep) → o ≡ Some done → R done)
    → (done : DeviceStep) × (o ≡ Some done) × (r.state ≡ done.state) × R done
device_by R None r is kept = absurd (cc)
device_by R (Some done) r is kept = (done, refl, (let same : device_stepped done ≡ r = cc in ap (λ (x : Stepped). x.state) (sym same)), kept done refl)

idle_driver : (deadline : Option ℕ) (w : World) → connections (world_idle deadline w) ≡ connections w
unfolding world_idle
idle_driver (Some deadline) w = refl
idle_driver None w = refl

idle_device : (deadline : Option ℕ) (w : World) → (world_idle deadline w).device ≡ w.device
unfolding world_idle
idle_device (Some deadline) w = refl
idle_device None w = refl

device_driver_if : (s : State) (o : Option DeviceStep) (done : DeviceStep) → o ≡ Some done → DeviceKeepsIf s (any_change s.core) o → connections done.state.world ≡ connections s.world
device_driver_if s o done is keeps =
    let kept : DeviceKeeps s (any_change s.core) done = subst (λ (x : Option DeviceStep). DeviceKeepsIf s (any_change s.core) x) is keeps in
    ap (λ (d : Driver). d.connections) kept.driver

device_driver : (s : State) (done : DeviceStep) → device_step s ≡ Some done → connections done.state.world ≡ connections s.world
device_driver s done is = device_driver_if s (device_step s) done is (device_keeps s (any_change s.core))

-- First, the addresses of connections: so many connections were asked for, and each frame that was offered is of one.

abbrev Spot : ℕ → Connection → Type 0
Spot n c = (1024 ≤ c.address) × (c.address < 1024 + n)

abbrev AreNamed : ℕ → World → Type 0
AreNamed n w = AllOf (Spot n) (connections w) × (length (connections w) ≤ n)

spot_more : (n : ℕ) (c : Connection) → Spot n c → Spot (n + 1) c
spot_more n c spot = (spot.0, omega (arith, spot.1))

more_named : (n : ℕ) (w : World) → AreNamed n w → AreNamed (n + 1) w
more_named n w named = (of_mapped (Spot n) (Spot (n + 1)) (λ c spot. spot_more n c spot) (connections w) named.0, omega (arith, named.1))

drained_named : (n : ℕ) (w : World) → AllOf (Spot n) (connections w) → AllOf (Spot n) (connections (drained w))
drained_named n w named =
    subst (λ cs. AllOf (Spot n) cs) (sym (drained_connections w))
    (all_delivered (Spot n) (λ status. Unit {0}) (λ c spot. spot) (λ bytes c spot. spot) (λ status remote size c fine spot. spot) (connections w) (drained_frames w)
    (any_frames (drained_frames w)) named)
  where
    any_frames : (frames : List (List ℕ)) → AllOf (IsFine (λ status. Unit {0})) frames
    any_frames [] = tt
    any_frames (bytes ∷ frames) = ((λ dst kind. tt), any_frames frames)

module _ (n : ℕ) (s : State) (small : n + 1025 < 2 ^ 32) (named : AreNamed n s.world) where
  abbrev named_now : AreNamed (n + 1) s.world
  named_now = more_named n s.world named

  polite : (c : Connection) → Spot (n + 1) c → (dst : ℕ) (payload : List ℕ) → IsPolite (frame c.address dst payload)
  polite c spot dst payload =
      let src : IsAddress c.address = (spot.0, omega (arith, spot.1, small)) in
      subst (λ a. IsAddress a) (sym (src_of c.address dst payload src.1)) src

  next_spot : (client : ℕ) → Spot (n + 1) (asked_connection (next_address (drained s.world)) client)
  next_spot client = (omega arith, omega (arith, drained_many s.world, named.1))

  abbrev Named : World → Option Acted → Type 0
  Named w o = AreNamed (n + 1) w × AllOf IsPolite (client_frame o)

  acted_named : (acted : Acted) → Keeps (Spot (n + 1)) IsPolite s.world acted → Named acted.world (Some acted)
  acted_named acted kept = ((kept.fine, omega (arith, kept.few, named.1)), by acted.frame kept.frame_is)
    where
      by : (o : Option (List ℕ)) → IfFrame IsPolite o → AllOf IsPolite (one_if o)
      by None is = tt
      by (Some bytes) is = (is, tt)

  named_step : (e : Event) (r : Stepped) → step s e ≡ Some r → AreNamed (n + 1) r.state.world × AllOf IsPolite (offered_in s e)
  unfolding step offered_in
  named_step (event.Begin actor start said) r is =
      actor_step Named s (is_thread s actor.0) (core_begin s.core actor.0 start said) (client_begin s (client_number s actor.0) start said) r is (named_now, tt)
      (λ a begun. acted_named a (begin_keeps (Spot (n + 1)) IsPolite s.world (λ c spot. spot) (λ inbox c spot. spot) next_spot (λ c spot remote bytes. polite c spot remote bytes)
      (λ c spot remote. polite c spot _ _) (λ path. polite (asked_connection (next_address (drained s.world)) 0) (next_spot 0) _ _) named_now.0
      s (client_number s actor.0) start said a refl begun (λ now. drained_named (n + 1) s.world named_now.0)))
  named_step (event.Resume actor start) r is =
      actor_step Named s (is_thread s actor.0) (core_resume s.core actor.0 start) (client_resume s (client_number s actor.0) start) r is (named_now, tt)
      (λ a ended. acted_named a (end_keeps (Spot (n + 1)) IsPolite s.world (λ c spot. spot) (λ inbox c spot. spot) next_spot (λ c spot remote bytes. polite c spot remote bytes)
      (λ c spot remote. polite c spot _ _) (λ path. polite (asked_connection (next_address (drained s.world)) 0) (next_spot 0) _ _) named_now.0
      s (client_number s actor.0) start a refl ended (drained_named (n + 1) s.world named_now.0)))
  named_step event.Device r is =
      let d : (done : DeviceStep) × (device_step s ≡ Some done) × (r.state ≡ done.state) × (connections done.state.world ≡ connections s.world) =
      device_by (λ done. connections done.state.world ≡ connections s.world) (device_step s) r is (λ done found. device_driver s done found) in
      (subst (λ cs. AllOf (Spot (n + 1)) cs × (length cs ≤ n + 1)) (sym (ap (λ (t : State). connections t.world) d.2 ∙ d.3)) named_now, tt)
  named_step event.Idle r is = (
    idle_by (λ w. AreNamed (n + 1) w) s (idle_lawful s) r is
        (subst (λ cs. AllOf (Spot (n + 1)) cs × (length cs ≤ n + 1)) (sym (idle_driver (next_deadline s) s.world)) named_now),
    tt,
  )

-- Each step of a legal history.
legal_step : (s : State) (entry : Entry) (o : Option Stepped) → step s entry.event ≡ o → option_map (entry_of entry.event) o ≡ Some entry
    → (r : Stepped) × (step s entry.event ≡ Some r) × (next_state s entry.event ≡ r.state)
legal_step s entry None is found = absurd (cc)
legal_step s entry (Some r) is found = (r, is, ap (λ (o : Option Stepped). state_or s o) is)

one_step : (s : State) (entry : Entry) → step_entry s entry.event ≡ Some entry → (r : Stepped) × (step s entry.event ≡ Some r) × (next_state s entry.event ≡ r.state)
one_step s entry found = legal_step s entry (step s entry.event) refl found

all_polite : (n : ℕ) (s : State) (entries : List Entry) → n + (1025 + length entries) < 2 ^ 32 → AreNamed n s.world → Legal s entries → AllOf IsPolite (offered s entries)
all_polite n s [] small named legal = tt
all_polite n s (entry ∷ entries) small named legal =
    let one : (r : Stepped) × (step s entry.event ≡ Some r) × (next_state s entry.event ≡ r.state) = one_step s entry legal.0 in
    let now : AreNamed (n + 1) one.0.state.world × AllOf IsPolite (offered_in s entry.event) = named_step n s (omega (arith, small)) named entry.event one.0 one.1 in
    of_append IsPolite (offered_in s entry.event) (offered (next_state s entry.event) entries) now.1
    (all_polite (n + 1) (next_state s entry.event) entries (omega (arith, small)) (subst (λ (t : State). AreNamed (n + 1) t.world) (sym one.2) now.0) legal.1)

-- Then the frames that the device gives, where those that it takes are polite.

one_of : {X : Type 0} (R : X → Type 0) (xs ys : List X) → AllOf R (xs ++ ys) → AllOf R xs × AllOf R ys
one_of R [] ys all = (tt, all)
one_of R (x ∷ xs) ys all = let rest : AllOf R xs × AllOf R ys = one_of R xs ys all.1 in ((all.0, rest.0), rest.1)

acts_device : (room : Room) (w : World) (o : Option Acted) (acted : Acted) → o ≡ Some acted → ActsIf room w o → acted.world.device ≡ w.device
acts_device room w o acted is acts = let kept : Acts room w acted = subst (λ (x : Option Acted). ActsIf room w x) is acts in kept.world.device

same_device : (s : State) (acted : Acted) (k start : ℕ) (said : Call) → client_begin s k start said ≡ Some acted → acted.world.device ≡ s.world.device
same_device s acted k start said is = acts_device (room_of_call said) s.world (client_begin s k start said) acted is (begin_acts s k start said)

end_device_same : (s : State) (acted : Acted) (k start : ℕ) → client_resume s k start ≡ Some acted → acted.world.device ≡ s.world.device
end_device_same s acted k start is = acts_device full_room s.world (client_resume s k start) acted is (resume_acts s k start)

module _ (s : State) (clean : IsClean s.world.device) where
  abbrev Clean : World → Option Acted → Type 0
  Clean w o = IsClean w.device

  if_frame : (o : Option (List ℕ)) → AllOf IsPolite (one_if o) → IfFrame IsPolite o
  if_frame None all = tt
  if_frame (Some bytes) all = all.0

  gave_frame : (o : Option (List ℕ)) → IfFrame IsHarmless o → AllOf IsHarmless (one_if o)
  gave_frame None is = tt
  gave_frame (Some bytes) is = (is, tt)

  clean_device : (o : Option DeviceStep) (r : Stepped) → device_step s ≡ o → option_map device_stepped o ≡ Some r → AllOf IsPolite (taken_frame o)
      → IsClean r.state.world.device × AllOf IsHarmless (given_frame o)
  clean_device None r found is polite = absurd (cc)
  clean_device (Some done) r found is polite =
      let kept : StaysClean done = device_stays s clean done found (if_frame done.took polite) in
      (subst (λ (x : Stepped). IsClean x.state.world.device) (let same : device_stepped done ≡ r = cc in same) kept.clean, gave_frame done.gave kept.gave)

  clean_step : (e : Event) (r : Stepped) → step s e ≡ Some r → AllOf IsPolite (taken_in s e) → IsClean r.state.world.device × AllOf IsHarmless (given_in s e)
  unfolding step taken_in given_in
  clean_step (event.Begin actor start said) r is polite = (
    actor_step Clean s (is_thread s actor.0) (core_begin s.core actor.0 start said) (client_begin s (client_number s actor.0) start said) r is clean
        (λ a begun. subst (λ d. IsClean d) (sym (same_device s a (client_number s actor.0) start said begun)) clean),
    tt,
  )
  clean_step (event.Resume actor start) r is polite = (
    actor_step Clean s (is_thread s actor.0) (core_resume s.core actor.0 start) (client_resume s (client_number s actor.0) start) r is clean
        (λ a ended. subst (λ d. IsClean d) (sym (end_device_same s a (client_number s actor.0) start ended)) clean),
    tt,
  )
  clean_step event.Device r is polite = clean_device (device_step s) r refl is polite
  clean_step event.Idle r is polite =
      (idle_by (λ w. IsClean w.device) s (idle_lawful s) r is (subst (λ d. IsClean d) (sym (idle_device (next_deadline s) s.world)) clean), tt)

all_harmless : (s : State) (entries : List Entry) → IsClean s.world.device → Legal s entries → AllOf IsPolite (taken s entries) → AllOf IsHarmless (given_out s entries)
all_harmless s [] clean legal polite = tt
all_harmless s (entry ∷ entries) clean legal polite =
    let one : (r : Stepped) × (step s entry.event ≡ Some r) × (next_state s entry.event ≡ r.state) = one_step s entry legal.0 in
    let both : AllOf IsPolite (taken_in s entry.event) × AllOf IsPolite (taken (next_state s entry.event) entries) = one_of IsPolite (taken_in s entry.event) (taken (next_state s entry.event) entries) polite in
    let now : IsClean one.0.state.world.device × AllOf IsHarmless (given_in s entry.event) = clean_step s clean entry.event one.0 one.1 both.0 in
    of_append IsHarmless (given_in s entry.event) (given_out (next_state s entry.event) entries) now.1
    (all_harmless (next_state s entry.event) entries (subst (λ (t : State). IsClean t.world.device) (sym one.2) now.0) legal.1 both.1)

-- Then the connections, where the frames that the driver reads are harmless.

abbrev pub IsUndenied : ConnectionStatus → Type 0
IsUndenied (connection_status.Denied status) = IsOther status
IsUndenied other = Unit {0}

abbrev pub NoneDenied : World → Type 0
NoneDenied w = AllOf (λ c. IsUndenied c.status) (connections w)

left_undenied : (status : ConnectionStatus) → IsUndenied status → IsUndenied (left_status status)
left_undenied connection_status.Asked is = tt
left_undenied (connection_status.Established remote size) is = tt
left_undenied (connection_status.Denied status) is = is
left_undenied connection_status.Shut is = tt

answered_undenied : (status remote size : ℕ) → IsOther status → (was : ConnectionStatus) → IsUndenied was → IsUndenied (answered_status status remote size was)
answered_undenied status remote size other connection_status.Asked is =
    elim (status == 0) as (λ b. IsUndenied (cond b (connection_status.Established remote size) (connection_status.Denied status))) [ true ↦ tt | false ↦ other ]
answered_undenied status remote size other (connection_status.Established remote2 size2) is = tt
answered_undenied status remote size other (connection_status.Denied status2) is = is
answered_undenied status remote size other connection_status.Shut is = tt

pub drained_undenied : (w : World) → AllOf IsHarmless (drained_frames w) → NoneDenied w → NoneDenied (drained w)
drained_undenied w harmless none =
    subst (λ cs. AllOf (λ c. IsUndenied c.status) cs) (sym (drained_connections w))
    (all_delivered (λ c. IsUndenied c.status) IsOther (λ c is. left_undenied c.status is) (λ bytes c is. is) (λ status remote size c other is. answered_undenied status remote size other c.status is)
    (connections w) (drained_frames w) harmless none)

module _ (s : State) (none : NoneDenied s.world) where
  -- after a step whose frames are harmless
  abbrev Undone : Bool → World → Option Acted → Type 0
  Undone b w o = AllOf IsHarmless (cond b (where_done (drained_frames s.world) o) []) → NoneDenied w

  harmless_now : (b : Bool) → b ≡ true → (a : Acted) → AllOf IsHarmless (cond b (where_done (drained_frames s.world) (Some a)) []) → AllOf IsHarmless (drained_frames s.world)
  harmless_now true is a harmless = harmless
  harmless_now false is a harmless = absurd (cc)

  undenied_step : (e : Event) (r : Stepped) → step s e ≡ Some r → AllOf IsHarmless (drained_in s e) → NoneDenied r.state.world
  unfolding step drained_in
  undenied_step (event.Begin actor start said) r is =
      actor_step (Undone (drains said)) s (is_thread s actor.0) (core_begin s.core actor.0 start said) (client_begin s (client_number s actor.0) start said) r is (λ harmless. none)
      (λ a begun harmless. (begin_keeps (λ c. IsUndenied c.status) (λ bytes. Unit {0}) s.world (λ c is. tt) (λ inbox c is. is) (λ client. tt) (λ c is remote bytes. tt) (λ c is remote. tt) (λ path. tt) none
      s (client_number s actor.0) start said a refl begun (λ now. drained_undenied s.world (harmless_now (drains said) now a harmless) none)).fine)
  undenied_step (event.Resume actor start) r is =
      actor_step (Undone true) s (is_thread s actor.0) (core_resume s.core actor.0 start) (client_resume s (client_number s actor.0) start) r is (λ harmless. none)
      (λ a ended harmless. (end_keeps (λ c. IsUndenied c.status) (λ bytes. Unit {0}) s.world (λ c is. tt) (λ inbox c is. is) (λ client. tt) (λ c is remote bytes. tt) (λ c is remote. tt) (λ path. tt) none
      s (client_number s actor.0) start a refl ended (drained_undenied s.world harmless none)).fine)
  undenied_step event.Device r is = λ harmless.
      let d : (done : DeviceStep) × (device_step s ≡ Some done) × (r.state ≡ done.state) × (connections done.state.world ≡ connections s.world) =
      device_by (λ done. connections done.state.world ≡ connections s.world) (device_step s) r is (λ done found. device_driver s done found) in
      subst (λ cs. AllOf (λ c. IsUndenied c.status) cs) (sym (ap (λ (t : State). connections t.world) d.2 ∙ d.3)) none
  undenied_step event.Idle r is = λ harmless.
      idle_by (λ w. NoneDenied w) s (idle_lawful s) r is (subst (λ cs. AllOf (λ c. IsUndenied c.status) cs) (sym (idle_driver (next_deadline s) s.world)) none)

-- at a point of the history
undenied_at : (s : State) (before : List Entry) (entry : Entry) (after : List Entry) → NoneDenied s.world → Legal s (before ++ entry ∷ after) → AllOf IsHarmless (read_back s (before ++ entry ∷ after))
    → NoneDenied (state_after s before).world × AllOf IsHarmless (drained_in (state_after s before) entry.event)
undenied_at s [] entry after none legal harmless = (none, (one_of IsHarmless (drained_in s entry.event) (read_back (next_state s entry.event) after) harmless).0)
undenied_at s (first ∷ before) entry after none legal harmless =
    let one : (r : Stepped) × (step s first.event ≡ Some r) × (next_state s first.event ≡ r.state) = one_step s first legal.0 in
    let both : AllOf IsHarmless (drained_in s first.event) × AllOf IsHarmless (read_back (next_state s first.event) (before ++ entry ∷ after)) =
    one_of IsHarmless (drained_in s first.event) (read_back (next_state s first.event) (before ++ entry ∷ after)) harmless in
    undenied_at (next_state s first.event) before entry after
    (subst (λ (t : State). NoneDenied t.world) (sym one.2) (undenied_step s none first.event one.0 one.1 both.0)) legal.1 both.1

front_of : {X : Type 0} (R : X → Type 0) (xs ys : List X) → IsPrefix xs ys → AllOf R ys → AllOf R xs
front_of R xs ys begins all = (one_of R xs begins.0 (subst (λ zs. AllOf R zs) (sym begins.1) all)).0

pub none_denied : (scene : SceneValue) (before : List Entry) (entry : Entry) (after : List Entry) → length (before ++ entry ∷ after) + 1025 < 2 ^ 32 → Legal (opening scene) (before ++ entry ∷ after)
    → IsCarried (opening scene) (before ++ entry ∷ after)
    → NoneDenied (state_after (opening scene) before).world × AllOf IsHarmless (drained_in (state_after (opening scene) before) entry.event)
unfolding opening
none_denied scene before entry after short legal carried =
    let entries : List Entry = before ++ entry ∷ after in
    let s : State = opening scene in
    let polite : AllOf IsPolite (taken s entries) =
    front_of IsPolite (taken s entries) (offered s entries) carried.to_device (all_polite 0 s entries (omega (arith, short)) (tt, omega arith) legal) in
    let harmless : AllOf IsHarmless (read_back s entries) =
    front_of IsHarmless (read_back s entries) (given_out s entries) carried.to_driver (all_harmless s entries (record { refusals = tt; entries = tt }) legal polite) in
    undenied_at s before entry after tt legal harmless
