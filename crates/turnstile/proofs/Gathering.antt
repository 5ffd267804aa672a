-- All passes joined into one.
use Rattle.std.proofs.Common.{◌≡◌, ℕ, zero, suc, ◌+◌, ◌<◌, max, false, List, [], ◌∷◌, ◌++◌, length, Option, Some, sym, refl, ap, ◌∙◌, subst, arith, length-append}
use Rattle.std.specs.List.{All}
use Rattle.std.specs.Option.{option_to_list}
use Rattle.std.proofs.lemmas.List.Elements.{All-append}
use mathlib.Core.List.{IsPrefix}
use Rattle.atomic_table.specs.Seated.{TableId}
use Rattle.kernel_values.specs.declared.entry.Entry.{Entry}
use Rattle.kernel_values.specs.Origin.{Origin}
use Rattle.turnstile.specs.declared.view.View.{View}
use Rattle.turnstile.specs.declared.pass.Pass.{Pass}
use Rattle.turnstile.specs.Numbers.{Rises, times}
use Rattle.turnstile.specs.Views.{both, numbers, own_number, entered}
use Rattle.turnstile.specs.Steps.{Continues}
use Rattle.turnstile.specs.Passes.{view, IsPassAt, IsSound}
use Rattle.turnstile.specs.Closing.{owners, AllSaw, Stands, IsWholeAt, Gathers}
use Rattle.turnstile.proofs.Begins.{begins_length, all_before, all_after}
use Rattle.turnstile.proofs.Sums.{total_more}
use Rattle.turnstile.proofs.Rising.{rises_wider, times_merged}

pub all_one : {A : Type 0} (P : A → Type 0) (x : A) → P x → All P (x ∷ [])
all_one P x h zero d low = h
all_one P x h (suc k) d low = absurd (omega arith)

-- what holds of all and the last holds of all before it, and of the last
pub all_last : {A : Type 0} (P : A → Type 0) (xs : List A) (x : A) → All P (xs ++ x ∷ []) → P x
all_last P xs x h = subst P (Rattle.std.proofs.Math.Seq.get_or-append_seam xs x [] x) (h (length xs) x (omega (arith, length-append xs (x ∷ []))))

pub all_front : {A : Type 0} (P : A → Type 0) (xs : List A) (x : A) → All P (xs ++ x ∷ []) → All P xs
all_front P xs x h k d low = subst P (Rattle.std.proofs.Math.ListN.get_or-append xs (x ∷ []) d k low) (h k d (omega (arith, length-append xs (x ∷ []))))

one_number : (v : View) (n : ℕ) → v.number ≡ Some n → 0 < length (numbers v)
one_number v n is = let e : length (numbers v) ≡ length (own_number (Some n) ++ v.joined) = ap (λ (o : Option ℕ). length (own_number o ++ v.joined)) is in omega arith

pub stands_of : (origin : Origin) (seats number drawn : ℕ) (v : View) → IsSound origin seats number drawn v → v.has_turn ≡ false → Stands origin seats number drawn v
stands_of origin seats number drawn v s idle = record { spent = s.spent; origin_is = s.origin_is; seats_is = s.seats_is; number_is = s.number_is; drawn_is = s.drawn_is; few = s.few; idle = idle; fresh = sym s.holds ∙ idle; shut = s.shut }

pub stands_both : (origin : Origin) (seats number drawn n d : ℕ) (v w : View) → Stands origin seats number drawn v → IsSound origin seats n d w → Stands origin seats number (max drawn d) (both v w)
stands_both origin seats number drawn n d v w s t = let a = s.few in let b = t.few in let e = s.drawn_is in let f = t.drawn_is in
    record { spent = s.spent; origin_is = s.origin_is; seats_is = s.seats_is; number_is = s.number_is; drawn_is = (λ i. max (e i) (f i)); few = omega arith; idle = s.idle; fresh = s.fresh; shut = s.shut }

-- the first of them
pub gathers_first : (passes rest : List Pass) (p : Pass) (n : ℕ) → passes ≡ rest ++ p ∷ [] → (view p).number ≡ Some n → Gathers passes rest (view p)
gathers_first passes rest p n is number = subst (λ ps. Gathers ps rest (view p)) (sym is) record {
  places = λ k. sym (total_more (λ (q : Pass). times k (view q).mine) rest p);
  many = (let one = one_number (view p) n number in let len = length-append rest (p ∷ []) in omega arith);
  saw = λ history seen olds all. All-append (λ (q : Pass). IsPrefix (view q).seen history) rest (p ∷ []) all (all_one (λ (q : Pass). IsPrefix (view q).seen history) p seen);
}

-- one more of them
pub gathers_more : (passes before rest : List Pass) (p : Pass) (v : View) (n : ℕ) → before ≡ rest ++ p ∷ [] → (view p).number ≡ Some n → Gathers passes before v → Gathers passes rest (both v (view p))
gathers_more passes before rest p v n is number g = let w = view p in record {
  places = λ k. let a = g.places k in let b : owners k before ≡ owners k rest + times k w.mine = ap (owners k) is ∙ total_more (λ (q : Pass). times k (view q).mine) rest p in let c = times_merged k v.mine w.mine in omega arith;
  many = (let one = one_number w n number in let len : length before ≡ length (rest ++ p ∷ []) = ap (λ (l : List Pass). length l) is in let more = length-append rest (p ∷ []) in let many = g.many in
      let all : length (numbers (both v w)) ≡ length (own_number v.number) + length (v.joined ++ numbers w) = length-append (own_number v.number) (v.joined ++ numbers w) in let joined = length-append v.joined (numbers w) in
      let own : length (numbers v) ≡ length (own_number v.number) + length v.joined = length-append (own_number v.number) v.joined in omega arith);
  saw = λ history seen olds all. let after = all_after v.olds (v.seen ∷ w.seen ∷ w.olds) history olds in
      g.saw history after.0 (all_before v.olds (v.seen ∷ w.seen ∷ w.olds) history olds)
      (subst (λ ps. AllSaw ps history) (sym is) (All-append (λ (q : Pass). IsPrefix (view q).seen history) rest (p ∷ []) all (all_one (λ (q : Pass). IsPrefix (view q).seen history) p after.1.0)));
}

-- the pass that all were joined into, once it has the value
pub sound_whole : (origin : Origin) (seats number drawn : ℕ) (v : View) (history : List Entry) → Stands origin seats number drawn v → Continues v history → Rises 0 (length v.seen) v.mine → IsSound origin seats number drawn (entered v history)
sound_whole origin seats number drawn v history s on rises = record {
  spent = s.spent;
  origin_is = s.origin_is;
  seats_is = s.seats_is;
  number_is = s.number_is;
  drawn_is = s.drawn_is;
  few = s.few;
  knows = omega arith;
  rises = rises_wider 0 (length v.seen) (length history) v.mine (begins_length v.seen history on.0) rises;
  holds = refl;
  shut = refl;
}

pub stands_at : (origin : Origin) (seats n n' d d' : ℕ) (v v' : View) → v' ≡ v → n' ≡ n → d' ≡ d → Stands origin seats n d v → Stands origin seats n' d' v'
stands_at origin seats n n' d d' v v' same number drawn s = subst (λ (z : View × (ℕ × ℕ)). Stands origin seats z.1.0 z.1.1 z.0) (λ i. (sym same i, (sym number i, sym drawn i))) s

-- the last of the passes, and those before it
pub rest_last : (table : TableId) (origin : Origin) (seats : ℕ) (ps rest : List Pass) (o : Option Pass) (p : Pass) → ps ≡ rest ++ option_to_list o → o ≡ Some p → All (λ q. IsPassAt table origin seats q × ((view q).has_turn ≡ false)) ps
    → (ps ≡ rest ++ p ∷ []) × All (λ q. IsPassAt table origin seats q × ((view q).has_turn ≡ false)) rest × (IsPassAt table origin seats p × ((view p).has_turn ≡ false))
rest_last table origin seats ps rest o p popped is all =
    let P : Pass → Type 0 = λ q. IsPassAt table origin seats q × ((view q).has_turn ≡ false) in
    let split : ps ≡ rest ++ p ∷ [] = popped ∙ ap (λ (r : Option Pass). rest ++ option_to_list r) is in
    let all' : All P (rest ++ p ∷ []) = subst (All P) split all in
    (split, all_front P rest p all', all_last P rest p all')

pub first_is_whole : (table : TableId) (origin : Origin) (seats : ℕ) (p : Pass) → IsPassAt table origin seats p → (view p).has_turn ≡ false → IsWholeAt table origin seats p
first_is_whole table origin seats p is idle = (is.0, is.1, stands_of origin seats p.number p.drawn (view p) is.2 idle)
