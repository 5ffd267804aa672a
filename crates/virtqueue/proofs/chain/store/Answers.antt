use Rattle.std.proofs.Common.{◌≡◌, ◌+◌, ◌-◌, ◌≤◌, ◌<◌, ◌∙◌, ℕ, List, length, sym, ap, arith, get_or, take, drop}
use Rattle.std.proofs.lemmas.List.{take_min, drop_min, drop_all}
use Rattle.virtqueue.specs.declared.parts.Part.{Part}
use Rattle.virtqueue.specs.Bytes.{stored}
use Rattle.virtqueue.proofs.Bytes.{store_more, stored_none}
use Rattle.virtqueue.proofs.Writes.{put_there}
use Rattle.virtqueue.proofs.chain.store.Goals as goal

pub loop-part-preserved : goal.loop-part-preserved
loop-part-preserved c =
    let d : Part = record { addr = 0; len = 0 } in
    let i = c.loop-part.part-index in
    let lt : c.loop-part.part-index < length c.args.parts.now = omega arith in
    let within : (get_or c.args.parts.now i d).addr + (get_or c.args.parts.now i d).len ≤ length c.loop-part.mem = omega (arith, c.requires.parts i d lt) in
    let front : c.split_at.result.0.now ≡ take (get_or c.args.parts.now i d).len c.loop-part.rest.now = c.split_at.ensures.front ∙ ap (λ (n : ℕ). take n c.loop-part.rest.now) c.min-len.ensures ∙ take_min (get_or c.args.parts.now i d).len c.loop-part.rest.now in
    let back : c.split_at.result.1.now ≡ drop (get_or c.args.parts.now i d).len c.loop-part.rest.now = c.split_at.ensures.back ∙ ap (λ (n : ℕ). drop n c.loop-part.rest.now) c.min-len.ensures ∙ drop_min (get_or c.args.parts.now i d).len c.loop-part.rest.now in
    let put = put_there (get_or c.args.parts.now i d).addr ((get_or c.args.parts.now i d).addr + c.min-len.result - (get_or c.args.parts.now i d).addr) c.loop-part.mem c.copy_from_slice.new.self (take (get_or c.args.parts.now i d).len c.loop-part.rest.now) (c.copy_from_slice.ensures.after ∙ front) (omega (arith, c.split_at.ensures.front_len, ap length front)) in
    rw (put, back) (store_more c.args.parts.now i d c.loop-part.rest.now c.loop-part.mem _ lt within c.loop-part.invariant)

pub returns : goal.returns
returns c =
    sym (stored_none c.loop-part.rest.now c.loop-part.mem)
    ∙ ap (λ (ps : List Part). stored ps c.loop-part.rest.now c.loop-part.mem) (sym (drop_all c.loop-part.part-index c.args.parts.now (omega arith)))
    ∙ c.loop-part.invariant
