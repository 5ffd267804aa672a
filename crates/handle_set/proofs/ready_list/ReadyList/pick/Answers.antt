use Rattle.std.proofs.Common.{refl, ◌-◌, ◌≡◌, ◌<◌, ◌∙◌, sym, ap, length, map, arith, ℕ}
use Rattle.std.specs.Int.{trailing_zeros, w64}
use Rattle.std.specs.List.{remove}
use Rattle.std.proofs.lemmas.List.{length-map}
use Rattle.std.proofs.lemmas.Simd.{mask_l-lt}
use Rattle.handle_set.specs.Members.{is_ready, is_inner}
use Rattle.handle_set.proofs.Masks.{none_set}
use Rattle.handle_set.proofs.ReadyLists.{at_within, found_told, moved_is, moved_length, moved_list, marks_left}
use Rattle.handle_set.proofs.ready_list.ReadyList.pick.Goals as goal

pub returns-then-self-eq0-clause-picked : goal.returns-then-self-eq0-clause-picked
returns-then-self-eq0-clause-picked g c =
    let none = none_set is_ready c.self.inside.records (sym c.self.invariant.marked ∙ c.if-self-eq0.true) in
    rw (← c.self.view_is, none) refl

pub returns-then-self-eq0-clause-members : goal.returns-then-self-eq0-clause-members
returns-then-self-eq0-clause-members g c =
    let none = none_set is_ready c.self.inside.records (sym c.self.invariant.marked ∙ c.if-self-eq0.true) in
    rw (← c.self.view_is, none) refl

some : (n : ℕ) → (n ≡ 0 → ⊥) → 0 < n
some n other = omega arith

pub look-told-requires-clause-within : goal.look-told-requires-clause-within
look-told-requires-clause-within g c = at_within _ _ _ c.self.invariant (some _ c.if-self-eq0.false)

pub move_last-requires : goal.move_last-requires
move_last-requires g c = at_within _ _ _ c.self.invariant (some _ c.if-self-eq0.false)

pub with_bit_above-self-inside-requires-clause-room : goal.with_bit_above-self-inside-requires-clause-room
with_bit_above-self-inside-requires-clause-room g c =
    let more = some _ c.if-self-eq0.false in
    let within = at_within _ _ _ c.self.invariant more in
    let same = moved_length _ _ _ c.self.invariant more c.look-told.result c.look-told.ensures.record in
    let is = c.len-last.ensures ∙ ap length c.move_last.ensures ∙ same in
    let few = c.self.invariant.few in
    omega arith

pub with_bit_above-self-inside-requires-clause-below : goal.with_bit_above-self-inside-requires-clause-below
with_bit_above-self-inside-requires-clause-below g c =
    let more = some _ c.if-self-eq0.false in
    let marks = map is_ready c.self.inside.records in
    let within = at_within _ _ _ c.self.invariant more in
    let long = length-map c.self.inside.records is_ready in
    let rest = c.without_bit-ready.ensures marks (omega arith) c.self.invariant.marked in
    let same = moved_length _ _ _ c.self.invariant more c.look-told.result c.look-told.ensures.record in
    let is : c.len-last.result ≡ length c.self.inside.records = c.len-last.ensures ∙ ap length c.move_last.ensures ∙ same in
    let left = marks_left _ _ _ c.self.invariant more c.look-told.result c.look-told.ensures.record is_ready in
    let fewer : c.len-last.result - 1 ≡ length (remove marks (trailing_zeros w64 c.self.inside.ready)) = omega arith in
    rw (rest, fewer) (mask_l-lt (remove marks (trailing_zeros w64 c.self.inside.ready)))

pub with_bit_above-self-inside-requires-2-clause-room : goal.with_bit_above-self-inside-requires-2-clause-room
with_bit_above-self-inside-requires-2-clause-room g c =
    let more = some _ c.if-self-eq0.false in
    let within = at_within _ _ _ c.self.invariant more in
    let same = moved_length _ _ _ c.self.invariant more c.look-told.result c.look-told.ensures.record in
    let is = c.len-last.ensures ∙ ap length c.move_last.ensures ∙ same in
    let few = c.self.invariant.few in
    omega arith

pub with_bit_above-self-inside-requires-2-clause-below : goal.with_bit_above-self-inside-requires-2-clause-below
with_bit_above-self-inside-requires-2-clause-below g c =
    let more = some _ c.if-self-eq0.false in
    let marks = map is_inner c.self.inside.records in
    let within = at_within _ _ _ c.self.invariant more in
    let long = length-map c.self.inside.records is_inner in
    let rest = c.without_bit-inner.ensures marks (omega arith) c.self.invariant.nested in
    let same = moved_length _ _ _ c.self.invariant more c.look-told.result c.look-told.ensures.record in
    let is : c.len-last.result ≡ length c.self.inside.records = c.len-last.ensures ∙ ap length c.move_last.ensures ∙ same in
    let left = marks_left _ _ _ c.self.invariant more c.look-told.result c.look-told.ensures.record is_inner in
    let fewer : c.len-last.result - 1 ≡ length (remove marks (trailing_zeros w64 c.self.inside.ready)) = omega arith in
    rw (rest, fewer) (mask_l-lt (remove marks (trailing_zeros w64 c.self.inside.ready)))

pub invariant_of-self : goal.invariant_of-self
invariant_of-self g c =
    let more = some _ c.if-self-eq0.false in
    let members = c.self.inside.records in
    let marks = map is_ready members in
    let inners = map is_inner members in
    let at = trailing_zeros w64 c.self.inside.ready in
    let within = at_within _ _ _ c.self.invariant more in
    let long = length-map c.self.inside.records is_ready in
    let wide = length-map c.self.inside.records is_inner in
    let rest = c.without_bit-ready.ensures marks (omega arith) c.self.invariant.marked in
    let rest_in = c.without_bit-inner.ensures inners (omega arith) c.self.invariant.nested in
    let same = moved_length _ _ _ c.self.invariant more c.look-told.result c.look-told.ensures.record in
    let is : c.len-last.result ≡ length c.self.inside.records = c.len-last.ensures ∙ ap length c.move_last.ensures ∙ same in
    let left = marks_left _ _ _ c.self.invariant more c.look-told.result c.look-told.ensures.record is_ready in
    let left_in = marks_left _ _ _ c.self.invariant more c.look-told.result c.look-told.ensures.record is_inner in
    let all = c.with_bit_above-self-inside.ensures (remove marks (trailing_zeros w64 c.self.inside.ready)) (omega arith) rest in
    let all_in = c.with_bit_above-self-inside-2.ensures (remove inners (trailing_zeros w64 c.self.inside.ready)) (omega arith) rest_in in
    rw c.move_last.ensures (moved_list _ _ _ c.self.invariant more c.look-told.result c.look-told.ensures.record _ _ all all_in)

pub returns-clause-picked : goal.returns-clause-picked
returns-clause-picked g c =
    let found = found_told _ _ _ c.self.invariant (some _ c.if-self-eq0.false) c.look-told.result c.look-told.ensures.record in
    rw (← c.self.view_is, found) refl

pub returns-clause-members : goal.returns-clause-members
returns-clause-members g c =
    let more = some _ c.if-self-eq0.false in
    let found = found_told _ _ _ c.self.invariant more c.look-told.result c.look-told.ensures.record in
    let is = moved_is _ _ _ c.self.invariant more c.look-told.result c.look-told.ensures.record in
    rw (← c.self.view_is, found, c.move_last.ensures) is
