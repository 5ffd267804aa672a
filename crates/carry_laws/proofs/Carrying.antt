-- The normal world, with what is on its way in either direction.
use Rattle.std.proofs.Common.{◌≡◌, ℕ, false, List, [], ◌++◌, map, refl, sym, ap, subst, ◌∙◌}
use Rattle.std.specs.List.{fold}
use Rattle.kernel_values.specs.declared.world.World.{World}
use Rattle.kernel_types.specs.Drains.{frame_at, readable_elements, drained_frames, to_normal_drained, from_normal_drained, drained}
use Rattle.kernel_types.specs.GuestMemory.{UsedElement, used_idx, given}
use Rattle.carry_laws.proofs.Incoming.{Incoming, Drained, drains, element_of, read_are}
use Rattle.carry_laws.proofs.Outgoing.{Flight, Outgoing, outgoing_kept, places_of}
use Rattle.carry_laws.proofs.Rings.{IsRingSize, SameQueue}
use Rattle.carry_laws.proofs.Taking.{sees}

abbrev pub frames_of : List Flight → List (List ℕ)
frames_of flights = map (λ flight. flight.bytes) flights

-- these frames are on their way to the device, and these to the driver
pub record Carrying (w : World) (sent gave : List (List ℕ)) : Type 0 where
  pub out : List Flight
  pub back : List Flight
  pub ready : List ℕ
  pub sized : IsRingSize w.driver.size
  pub unbroken : w.device.broken ≡ false
  pub going : Outgoing w.driver.size w.memory w.device.from_normal w.driver.seen_from_normal w.driver.free out
  pub coming : Incoming w.driver.size w.memory w.device.to_normal w.driver.seen_to_normal ready back
  pub sent_are : frames_of out ≡ sent
  pub gave_are : frames_of back ≡ gave

-- The driver looks at both queues.

to_normal_carries : (w : World) (sent gave : List (List ℕ)) → Carrying w sent gave → (drained_frames w ≡ gave) × Carrying (to_normal_drained w) sent []
unfolding drained_frames to_normal_drained
to_normal_carries w sent gave c =
    let size : ℕ = w.driver.size in
    let read : readable_elements w ≡ map element_of c.back = read_are size w.memory w.device.to_normal w.driver.seen_to_normal c.ready c.back c.sized c.coming in
    let d : Drained size w.memory (fold (given size) w.memory (map (λ element. element.id) (map element_of c.back))) w.device.to_normal c.ready c.back =
    drains size w.memory w.device.to_normal w.driver.seen_to_normal c.ready c.back c.sized c.coming in
    let memory : List ℕ = fold (given size) w.memory (map (λ (element : UsedElement). element.id) (readable_elements w)) in
    let same : fold (given size) w.memory (map (λ (element : UsedElement). element.id) (map element_of c.back)) ≡ memory =
    ap (λ es. fold (given size) w.memory (map (λ (element : UsedElement). element.id) es)) (sym read) in
    let other : SameQueue 1 w.memory memory = subst (λ m. SameQueue 1 w.memory m) same d.other_queue in (
      ap (map (frame_at w.memory)) read ∙ d.frames ∙ c.gave_are,
      record {
        out = c.out;
        back = [];
        ready = c.ready ++ places_of c.back;
        sized = c.sized;
        unbroken = c.unbroken;
        going = outgoing_kept size w.memory memory w.device.from_normal w.driver.seen_from_normal w.driver.free c.out c.sized other c.going;
        coming = subst (λ m. Incoming size m w.device.to_normal (used_idx w.memory 0) (c.ready ++ places_of c.back) []) same d.left;
        sent_are = c.sent_are;
        gave_are = refl;
      },
    )

from_normal_carries : (w : World) (sent gave : List (List ℕ)) → Carrying w sent gave → Carrying (from_normal_drained w) sent gave
unfolding from_normal_drained
from_normal_carries w sent gave c = record {
  out = c.out;
  back = c.back;
  ready = c.ready;
  sized = c.sized;
  unbroken = c.unbroken;
  going = sees w.driver.size w.memory w.device.from_normal w.driver.seen_from_normal w.driver.free c.out c.sized c.going;
  coming = c.coming;
  sent_are = c.sent_are;
  gave_are = c.gave_are;
}

-- a drain reads all that is on its way to the driver
pub drained_carries : (w : World) (sent gave : List (List ℕ)) → Carrying w sent gave → (drained_frames w ≡ gave) × Carrying (drained w) sent []
drained_carries w sent gave c =
    let first : (drained_frames w ≡ gave) × Carrying (to_normal_drained w) sent [] = to_normal_carries w sent gave c in
    (first.0, from_normal_carries (to_normal_drained w) sent [] first.1)
