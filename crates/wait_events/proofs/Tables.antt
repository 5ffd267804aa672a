-- The bits of a table, after one place or all were told anew.
use Rattle.std.proofs.Common.{◌≡◌, ◌∙◌, ◌+◌, ◌*◌, ◌/◌, ◌^◌, ◌<◌, ◌≤◌, ◌==◌, not, ℕ, zero, suc, Bool, true, false, List, [], ◌∷◌, length, length-set, map, take, drop, set, arith, sym, ap}
use Rattle.std.specs.Int.{trailing_zeros, w64}
use Rattle.std.specs.List.{list_any, position_or_len}
use Rattle.std.proofs.lemmas.List.{drop-map, length-map, length-take-le, map-set, take-append-drop}
use Rattle.std.proofs.lemmas.Nat.{div-mul-add}
use Rattle.std.proofs.lemmas.Simd.{mask_l-lt, trailing_mask_l}
use Rattle.handle_set.proofs.Masks.{any_set, mask_append}
use Rattle.std.proofs.lemmas.Bool.Decides.{nat_tests}
use lib.Lanes.{mask_l}
use Rattle.wait_events.specs.declared.watch.Watch.{Watch}
use Rattle.wait_events.specs.Places.{IsTableWatch}
use Rattle.wait_events.specs.Watches.{is_told}

pub set_table : (places : List Watch) (told : ℕ) → IsTableWatch places told → (at : ℕ) (watch : Watch) (later : ℕ) → later ≡ mask_l (set (map is_told places) at (is_told watch)) → IsTableWatch (set places at watch) later
set_table places told table at watch later is = record {
  size = length-set places at watch ∙ table.size;
  marked = is ∙ ap mask_l (sym (map-set is_told places at watch));
}

-- the bits from a place on
mask_drop : (marks : List Bool) (at : ℕ) → at ≤ length marks → mask_l marks / 2 ^ at ≡ mask_l (drop at marks)
mask_drop marks at within =
    let long = length-take-le at marks within in
    let less = mask_l-lt (take at marks) in
    let whole = ap mask_l (sym (take-append-drop at marks)) ∙ mask_append (take at marks) (drop at marks) in
    let power = ap (λ n. mask_l (take at marks) + 2 ^ n * mask_l (drop at marks)) long in
    let joined : mask_l marks ≡ mask_l (take at marks) + 2 ^ at * mask_l (drop at marks) = whole ∙ power in
    let low : mask_l (take at marks) < 2 ^ at = rw long at less in
    let turned : mask_l marks ≡ mask_l (drop at marks) * 2 ^ at + mask_l (take at marks) = omega (arith, joined) in
    rw turned (div-mul-add (mask_l (drop at marks)) (2 ^ at) (mask_l (take at marks)) low)

pub rest_is : (places : List Watch) (told at : ℕ) → IsTableWatch places told → at < 64 → told / 2 ^ at ≡ mask_l (map is_told (drop at places))
rest_is places told at table within =
    let long = length-map places is_told in
    let size = table.size in
    ap (λ n. n / 2 ^ at) table.marked ∙ mask_drop (map is_told places) at (omega arith) ∙ ap mask_l (drop-map is_told at places)

pub none_rest : (places : List Watch) (told at : ℕ) → IsTableWatch places told → at < 64 → told / 2 ^ at ≡ 0 → list_any is_told (drop at places) ≡ false
none_rest places told at table within none =
    sym (any_set is_told (drop at places)) ∙ ap (λ n. not (n == 0)) (sym (rest_is places told at table within) ∙ none)

pub some_rest : (places : List Watch) (told at : ℕ) → IsTableWatch places told → at < 64 → (told / 2 ^ at ≡ 0 → ⊥) → list_any is_told (drop at places) ≡ true
some_rest places told at table within some =
    sym (any_set is_told (drop at places)) ∙ ap (λ n. not (n == 0)) (sym (rest_is places told at table within)) ∙ other (told / 2 ^ at) some
  where
    other : (n : ℕ) → (n ≡ 0 → ⊥) → not (n == 0) ≡ true
    other n differs = grind (arith, nat_tests)

length-drop-le : (at : ℕ) (places : List Watch) → length (drop at places) ≤ length places
length-drop-le zero places = omega arith
length-drop-le (suc at) [] = omega arith
length-drop-le (suc at) (p ∷ ps) = let less = length-drop-le at ps in omega arith

pub first_rest : (places : List Watch) (told at : ℕ) → IsTableWatch places told → at < 64 → (told / 2 ^ at ≡ 0 → ⊥) → trailing_zeros w64 (told / 2 ^ at) ≡ position_or_len is_told (drop at places)
first_rest places told at table within some =
    let is = rest_is places told at table within in
    let more : 0 < mask_l (map is_told (drop at places)) = omega arith in
    let few : length (drop at places) ≤ 64 = (let size = table.size in let less = length-drop-le at places in omega arith) in
    rw is (trailing_mask_l is_told 64 (drop at places) few more)
