-- What one step carries, in either direction.
use Rattle.std.proofs.Common.{◌≡◌, ℕ, ◌+◌, ◌<◌, ◌≤◌, true, false, not, ◌&&◌, cond, ltb, List, [], ◌∷◌, ◌++◌, Option, Some, None, length, refl, sym, ap, subst, ◌∙◌, arith}
use Rattle.std.specs.Option.{option_map}
use Rattle.std.proofs.lemmas.List.{append-nil, map_push}
use Rattle.kernel_values.specs.declared.reply.BreakCause.TheVariants as broken
use Rattle.kernel_values.specs.declared.reply.DeviceReply.TheVariants as device
use Rattle.kernel_values.specs.declared.state.State.{State}
use Rattle.kernel_values.specs.declared.world.Device.{Device}
use Rattle.kernel_values.specs.declared.world.World.{World}
use Rattle.kernel_types.specs.Carried.{one_if}
use Rattle.kernel_types.specs.Device.{DeviceStep, Due, due_of, due_frame, due_device, Taken, broke, has_device, queue_after, sent_by_device, send_due, step_by_due, take_chain, take_frame, take_next, take_step, taken_by_device, device_step}
use Rattle.kernel_types.specs.GuestMemory.{buffer_size, buffer_start}
use Rattle.virtqueue.specs.declared.chain.Chain.{Chain}
use Rattle.virtqueue.specs.declared.queue.Queue.{Queue}
use Rattle.virtqueue.specs.Bytes.{room, bytes_at, stored}
use Rattle.virtqueue.specs.Chains.{chain}
use Rattle.virtqueue.specs.Layout.{used_pushed, written_at}
use Rattle.carry_laws.proofs.Carrying.{Carrying, frames_of}
use Rattle.carry_laws.proofs.Chains.{buffer_part, not_below, one_room, one_stored}
use Rattle.carry_laws.proofs.Dues.{AreWithin, IfFits, IfTaken, SameQueues, due_fits, due_keeps, frame_keeps}
use Rattle.carry_laws.proofs.Incoming.{Incoming, given_to, gives_frame, gave_elsewhere, incoming_kept, next_ready, nothing_ready}
use Rattle.carry_laws.proofs.Outgoing.{Flight, Outgoing, outgoing_kept}
use Rattle.carry_laws.proofs.Taking.{LeavesOther, next_bytes, next_out, nothing_out, taken_elsewhere, takes}

-- of what was on its way and what is added, what was taken off came first, and the rest is on its way
pub record Moved (sent gave offered taken given read : List (List ℕ)) (after : World) : Type 0 where
  pub sent_on : List (List ℕ)
  pub gave_on : List (List ℕ)
  pub carries : Carrying after sent_on gave_on
  pub to_device : sent ++ offered ≡ taken ++ sent_on
  pub to_driver : gave ++ given ≡ read ++ gave_on

-- The device takes the next frame.

abbrev pub IfDevice : List (List ℕ) → List (List ℕ) → Option DeviceStep → Type 0
IfDevice sent gave None = Unit {0}
IfDevice sent gave (Some done) = Moved sent gave [] (one_if done.took) (one_if done.gave) [] done.state.world

abbrev chain_out : Flight → Chain
chain_out flight = record { head = flight.place; parts = buffer_part 1 flight.place (length flight.bytes) ∷ [] }

taken_moves : (sent gave : List (List ℕ)) (s : State) (c : Carrying s.world sent gave) (flight : Flight) (flights : List Flight) → c.out ≡ flight ∷ flights
    → (taken : Taken) → SameQueues s.world.device taken.device → Moved sent gave [] (flight.bytes ∷ []) [] [] (taken_by_device s (chain_out flight) flight.bytes taken).state.world
taken_moves sent gave s c flight flights out taken same =
    let w : World = s.world in
    let size : ℕ = w.driver.size in
    let going : Outgoing size w.memory w.device.from_normal w.driver.seen_from_normal w.driver.free (flight ∷ flights) =
    subst (λ fs. Outgoing size w.memory w.device.from_normal w.driver.seen_from_normal w.driver.free fs) out c.going in
    let after : List ℕ = used_pushed w.memory w.device.from_normal flight.place 0 in
    let other : LeavesOther 0 w.memory after = taken_elsewhere size w.memory w.device.from_normal w.driver.seen_from_normal w.driver.free flight flights c.sized c.coming.ready_are.long going in
    let coming : Incoming size after w.device.to_normal w.driver.seen_to_normal c.ready c.back =
    incoming_kept size w.memory after w.device.to_normal w.driver.seen_to_normal c.ready c.back c.sized other.long other.same c.coming in
    record {
      sent_on = frames_of flights;
      gave_on = gave;
      carries = record {
        out = flights;
        back = c.back;
        ready = c.ready;
        sized = c.sized;
        unbroken = same.broken ∙ c.unbroken;
        going = takes size w.memory w.device.from_normal w.driver.seen_from_normal w.driver.free flight flights c.sized c.coming.ready_are.long going;
        coming = subst (λ (q : Queue). Incoming size after q w.driver.seen_to_normal c.ready c.back) (sym same.to_normal) coming;
        sent_are = refl;
        gave_are = c.gave_are;
      };
      to_device = append-nil sent ∙ sym c.sent_are ∙ ap frames_of out;
      to_driver = append-nil gave;
    }

take_moves : (sent gave : List (List ℕ)) (s : State) (c : Carrying s.world sent gave) (out : List Flight) → c.out ≡ out
    → IfDevice sent gave (take_next s (chain s.world.memory s.world.device.from_normal))
take_moves sent gave s c [] is =
    let w : World = s.world in
    let going : Outgoing w.driver.size w.memory w.device.from_normal w.driver.seen_from_normal w.driver.free [] =
    subst (λ fs. Outgoing w.driver.size w.memory w.device.from_normal w.driver.seen_from_normal w.driver.free fs) is c.going in
    subst (λ r. IfDevice sent gave (take_next s r)) (sym (nothing_out w.driver.size w.memory w.device.from_normal w.driver.seen_from_normal w.driver.free going)) tt
take_moves sent gave s c (flight ∷ flights) is =
    let w : World = s.world in
    let going : Outgoing w.driver.size w.memory w.device.from_normal w.driver.seen_from_normal w.driver.free (flight ∷ flights) =
    subst (λ fs. Outgoing w.driver.size w.memory w.device.from_normal w.driver.seen_from_normal w.driver.free fs) is c.going in
    let bytes : bytes_at (buffer_part 1 flight.place (length flight.bytes) ∷ []) w.memory ≡ flight.bytes =
    next_bytes w.driver.size (going.seen + length going.back) w.memory flight c.coming.ready_are.long going.flying.0 in
    let go : (o : Option Taken) → IfTaken w.device o → IfDevice sent gave (option_map (taken_by_device s (chain_out flight) flight.bytes) o) =
    λ o. elim o as (λ (x : Option Taken). IfTaken w.device x → IfDevice sent gave (option_map (taken_by_device s (chain_out flight) flight.bytes) x)) [
      | None ↦ (λ same. tt)
      | Some taken ↦ (λ same. taken_moves sent gave s c flight flights is taken same)
    ] in
    subst (λ r. IfDevice sent gave (take_next s r)) (sym (next_out w.driver.size w.memory w.device.from_normal w.driver.seen_from_normal w.driver.free flight flights c.sized going))
    (subst (λ bs. IfDevice sent gave (take_chain s (chain_out flight) bs)) (sym bytes) (go (take_frame s.core w.device flight.bytes) (frame_keeps s.core w.device flight.bytes)))

takes_next : (sent gave : List (List ℕ)) (s : State) → Carrying s.world sent gave → IfDevice sent gave (take_step s)
unfolding take_step
takes_next sent gave s c = take_moves sent gave s c c.out refl

-- The device gives the frame that is due.

abbrev chain_in : ℕ → Chain
chain_in place = record { head = place; parts = buffer_part 0 place buffer_size ∷ [] }

given_moves : (sent gave : List (List ℕ)) (s : State) (c : Carrying s.world sent gave) (place : ℕ) (rest : List ℕ) → c.ready ≡ place ∷ rest → (due : Due) → length (due_frame due) ≤ buffer_size
    → Moved sent gave [] [] (due_frame due ∷ []) [] (sent_by_device s due (chain_in place)).state.world
given_moves sent gave s c place rest ready due short =
    let w : World = s.world in
    let size : ℕ = w.driver.size in
    let bytes : List ℕ = due_frame due in
    let flight : Flight = record { place = place; bytes = bytes } in
    let d : Device = due_device due w.device in
    let same : SameQueues w.device d = due_keeps due w.device in
    let coming : Incoming size w.memory w.device.to_normal w.driver.seen_to_normal (place ∷ rest) c.back =
    subst (λ ps. Incoming size w.memory w.device.to_normal w.driver.seen_to_normal ps c.back) ready c.coming in
    let low : place < 32 = omega (arith, coming.ready_are.buffers.0.below) in
    let stored_is : stored (buffer_part 0 place buffer_size ∷ []) bytes w.memory ≡ written_at (buffer_start 0 place) bytes w.memory =
    one_stored (buffer_part 0 place buffer_size) bytes w.memory (omega (arith, coming.ready_are.long)) short in
    let after : List ℕ = given_to place w.memory w.device.to_normal bytes in
    let other : LeavesOther 1 w.memory after = gave_elsewhere size w.memory w.device.to_normal w.driver.seen_to_normal place bytes rest c.back c.sized short coming in
    let going : Outgoing size after w.device.from_normal w.driver.seen_from_normal w.driver.free c.out =
    outgoing_kept size w.memory after w.device.from_normal w.driver.seen_from_normal w.driver.free c.out c.sized other.same c.going in
    let moved : Moved sent gave [] [] (bytes ∷ []) [] (record w { memory = after; device = record d { to_normal = queue_after w.device.to_normal } }) = record {
      sent_on = sent;
      gave_on = gave ++ bytes ∷ [];
      carries = record {
        out = c.out;
        back = c.back ++ flight ∷ [];
        ready = rest;
        sized = c.sized;
        unbroken = same.broken ∙ c.unbroken;
        going = subst (λ (q : Queue). Outgoing size after q w.driver.seen_from_normal w.driver.free c.out) (sym same.from_normal) going;
        coming = gives_frame size w.memory w.device.to_normal w.driver.seen_to_normal place bytes rest c.back c.sized short coming;
        sent_are = c.sent_are;
        gave_are = map_push (λ (x : Flight). x.bytes) c.back flight ∙ ap (λ fs. fs ++ bytes ∷ []) c.gave_are;
      };
      to_device = append-nil sent;
      to_driver = refl;
    } in
    subst (λ m. Moved sent gave [] [] (bytes ∷ []) [] (record w { memory = used_pushed m w.device.to_normal place (length bytes); device = record d { to_normal = queue_after w.device.to_normal } }))
    (sym stored_is) moved

give_moves : (sent gave : List (List ℕ)) (s : State) (c : Carrying s.world sent gave) (ready : List ℕ) → c.ready ≡ ready → (due : Due) → length (due_frame due) ≤ buffer_size
    → IfDevice sent gave (send_due s due (chain s.world.memory s.world.device.to_normal))
give_moves sent gave s c [] is due short =
    let w : World = s.world in
    let coming : Incoming w.driver.size w.memory w.device.to_normal w.driver.seen_to_normal [] c.back =
    subst (λ ps. Incoming w.driver.size w.memory w.device.to_normal w.driver.seen_to_normal ps c.back) is c.coming in
    subst (λ r. IfDevice sent gave (send_due s due r)) (sym (nothing_ready w.driver.size w.memory w.device.to_normal w.driver.seen_to_normal c.back coming)) (takes_next sent gave s c)
give_moves sent gave s c (place ∷ rest) is due short =
    let w : World = s.world in
    let coming : Incoming w.driver.size w.memory w.device.to_normal w.driver.seen_to_normal (place ∷ rest) c.back =
    subst (λ ps. Incoming w.driver.size w.memory w.device.to_normal w.driver.seen_to_normal ps c.back) is c.coming in
    let fits : ltb (room (buffer_part 0 place buffer_size ∷ [])) (length (due_frame due)) ≡ false =
    not_below (length (due_frame due)) (room (buffer_part 0 place buffer_size ∷ [])) (omega (arith, one_room (buffer_part 0 place buffer_size))) in
    subst (λ r. IfDevice sent gave (send_due s due r)) (sym (next_ready w.driver.size w.memory w.device.to_normal w.driver.seen_to_normal place rest c.back c.sized coming))
    (subst (λ b. IfDevice sent gave (cond b (Some (broke s (device.Broke 0 broken.SmallBuffer place))) (Some (sent_by_device s due (chain_in place))))) (sym fits)
    (given_moves sent gave s c place rest is due short))

due_moves : (sent gave : List (List ℕ)) (s : State) → Carrying s.world sent gave → (o : Option Due) → IfFits o → IfDevice sent gave (step_by_due s o)
due_moves sent gave s c None fits = takes_next sent gave s c
due_moves sent gave s c (Some due) fits = give_moves sent gave s c c.ready refl due fits

pub device_moves : (sent gave : List (List ℕ)) (s : State) → Carrying s.world sent gave → AreWithin s.core → IfDevice sent gave (device_step s)
unfolding device_step
device_moves sent gave s c w =
    elim (has_device s.world.clients && not s.world.device.broken) as (λ b. IfDevice sent gave (cond b (step_by_due s (due_of s.core s.world.device)) None)) [
      | true ↦ due_moves sent gave s c (due_of s.core s.world.device) (due_fits s.core s.world.device w)
      | false ↦ tt
    ]
