use Rattle.std.proofs.Common.{◌≡◌, ◌+◌, ◌-◌, ◌≤◌, ◌<◌, ◌∙◌, ℕ, List, length, sym, ap, arith, get_or, min, take, drop, ◌++◌}
use Rattle.std.proofs.lemmas.List.{take_more, take-take, length-take, length-drop}
use Rattle.virtqueue.specs.declared.parts.Part.{Part}
use Rattle.virtqueue.specs.Bytes.{bytes_at}
use Rattle.virtqueue.proofs.Bytes.{bytes_long, bytes_more, read_none, read_more}
use Rattle.virtqueue.proofs.Writes.{put_there}
use Rattle.virtqueue.proofs.chain.read_chain.Goals as goal

pub loop-part-init : goal.loop-part-init
loop-part-init c = let e = read_none (length c.args.out.now) c.args.mem.now c.args.out.now in record { count = e.0; bytes = e.1 }

pub loop-part-preserved : goal.loop-part-preserved
loop-part-preserved c =
    let d : Part = record { addr = 0; len = 0 } in
    let i = c.loop-part.part-index in
    let parts = c.as_slice-parts.result.now in
    let lt : c.loop-part.part-index < length c.as_slice-parts.result.now = omega arith in
    let within : (get_or parts i d).addr + (get_or parts i d).len ≤ length c.args.mem.now = omega (arith, rw (← c.as_slice-parts.ensures.parts) at c.requires.parts i d lt) in
    let part = take (get_or parts i d).len (drop (get_or parts i d).addr c.args.mem.now) in
    let more : bytes_at (take (i + 1) parts) c.args.mem.now ≡ bytes_at (take i parts) c.args.mem.now ++ part =
    ap (λ (ps : List Part). bytes_at ps c.args.mem.now) (take_more parts i d lt) ∙ bytes_more (take i parts) (get_or parts i d) c.args.mem.now within in
    let len = c.min-len.result in
    let long : length part ≡ (get_or parts i d).len = omega (arith, length-take (get_or parts i d).len (drop (get_or parts i d).addr c.args.mem.now), length-drop (get_or parts i d).addr c.args.mem.now) in
    let len-is : len ≡ min (length c.args.out.now - c.loop-part.done) (length part) = omega (arith, c.min-len.ensures) in
    let step = read_more (bytes_at (take i parts) c.args.mem.now) part c.args.out.now c.loop-part.out (length c.args.out.now) c.loop-part.done len c.loop-part.invariant.count c.loop-part.invariant.bytes len-is in
    let at = (get_or parts i d).addr in
    let span : at + len - at ≡ len = omega arith in
    let copied : c.copy_from_slice.new.self ≡ take len part =
    c.copy_from_slice.ensures.after ∙ ap (λ (n : ℕ). take n (drop at c.args.mem.now)) span ∙ sym (take-take len (get_or parts i d).len (drop at c.args.mem.now) (omega (arith, c.min-len.ensures))) in
    let put = put_there c.loop-part.done (c.loop-part.done + len - c.loop-part.done) c.loop-part.out c.copy_from_slice.new.self (take len part) copied (omega (arith, length-take len part)) in
    record {
      count = rw more step.0;
      bytes = rw (put, more) step.1;
    }

pub returns-clause-whole : goal.returns-clause-whole
returns-clause-whole c = bytes_long c.args.chain.now.parts c.args.mem.now
