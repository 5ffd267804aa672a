use Rattle.std.proofs.Common.{◌≡◌, ◌<◌, ◌^◌, ◌∙◌, ◌++◌, ◌∷◌, [], sym, ap, map, ℕ}
use Rattle.std.proofs.lemmas.List.{length-map}
use Rattle.std.proofs.lemmas.Simd.{mask_l-lt}
use lib.Lanes.{mask_l}
use Rattle.handle_set.specs.Members.{is_ready, is_inner}
use Rattle.handle_set.proofs.ReadyLists.{push_list}
use Rattle.handle_set.proofs.ready_list.ReadyList.push.Goals as goal

below : (bits len n : ℕ) → (m : ℕ) → bits ≡ m → m < 2 ^ n → n ≡ len → bits < 2 ^ len
below bits len n m is less same = rw (is, ← same) less

pub with_bit_above-self-inside-requires-clause-below : goal.with_bit_above-self-inside-requires-clause-below
with_bit_above-self-inside-requires-clause-below c =
    below _ _ _ _ c.self.invariant.marked (mask_l-lt (map is_ready c.self.inside.records)) (length-map c.self.inside.records is_ready ∙ sym c.len-len.ensures)

pub with_bit_above-self-inside-requires-2-clause-below : goal.with_bit_above-self-inside-requires-2-clause-below
with_bit_above-self-inside-requires-2-clause-below c =
    below _ _ _ _ c.self.invariant.nested (mask_l-lt (map is_inner c.self.inside.records)) (length-map c.self.inside.records is_inner ∙ sym c.len-len.ensures)

pub invariant_of-self : goal.invariant_of-self
invariant_of-self c =
    let all = c.with_bit_above-self-inside.ensures (map is_ready c.self.inside.records) (length-map c.self.inside.records is_ready ∙ sym c.len-len.ensures) c.self.invariant.marked in
    let later = all ∙ ap (λ b. mask_l (map is_ready c.self.inside.records ++ b ∷ [])) c.is_ready.ensures in
    let deeper = c.with_bit_above-self-inside-2.ensures (map is_inner c.self.inside.records) (length-map c.self.inside.records is_inner ∙ sym c.len-len.ensures) c.self.invariant.nested in
    rw c.push.ensures (push_list _ _ _ c.self.invariant c.args.told (rw c.self.view_is c.requires.room) (rw c.self.view_is c.requires.new) _ _ later deeper)
