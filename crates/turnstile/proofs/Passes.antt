-- A pass stays a pass of its turnstile.
use Rattle.std.proofs.Common.{cond, eqb, eq-eqb, Result, Ok, Err, IfOk, IfErr, get_or, ◌≡◌, ◌≢◌, ℕ, suc, ◌+◌, ◌<◌, ◌≤◌, max, List, [], ◌∷◌, ◌++◌, length, Option, Some, sym, refl, ap, ◌∙◌, subst, arith, length-append}
use mathlib.Core.List.{append-nil}
use Rattle.atomic_table.specs.Seated.{TableId}
use Rattle.kernel_values.specs.declared.entry.Entry.{Entry}
use Rattle.kernel_values.specs.Origin.{Origin}
use Rattle.atomic_table.specs.declared.badge.Badge.{Badge}
use Rattle.turnstile.specs.declared.view.View.{View}
use Rattle.turnstile.specs.declared.lock.Busy.{Busy}
use Rattle.turnstile.specs.declared.pass.Pass.{Pass}
use Rattle.turnstile.specs.Numbers.{Rises, merged, times}
use Rattle.turnstile.specs.Views.{first_view, given_up, counted, tried, waited, found_none, both, missed, child, longer, numbers, own_number, entered, added, left}
use Rattle.turnstile.specs.Steps.{Continues, AddsOne, IsOfAnother}
use Rattle.turnstile.specs.Passes.{view, IsSound, IsPassAt}
use Rattle.turnstile.proofs.Begins.{begins_length, longer_first}
use Rattle.turnstile.proofs.Rising.{rises_wider, rises_more, rises_below, merged_none}

module _ (origin : Origin) (seats number drawn : ℕ) (v : View) (s : IsSound origin seats number drawn v) where
  pub sound_counted : (n : ℕ) → v.known ≤ n → IsSound origin seats number drawn (counted v n)
  sound_counted n more = let k = s.knows in record { spent = s.spent; origin_is = s.origin_is; seats_is = s.seats_is; number_is = s.number_is; drawn_is = s.drawn_is; few = s.few; knows = omega arith; rises = s.rises; holds = s.holds; shut = s.shut }

  pub sound_tried : (n : ℕ) → IsSound origin seats number drawn (tried v n)
  sound_tried n = record { spent = s.spent; origin_is = s.origin_is; seats_is = s.seats_is; number_is = s.number_is; drawn_is = s.drawn_is; few = s.few; knows = s.knows; rises = s.rises; holds = s.holds; shut = s.shut }

  pub sound_waited : (tries last : ℕ) → IsSound origin seats number drawn (waited v tries last)
  sound_waited tries last = record { spent = s.spent; origin_is = s.origin_is; seats_is = s.seats_is; number_is = s.number_is; drawn_is = s.drawn_is; few = s.few; knows = s.knows; rises = s.rises; holds = s.holds; shut = s.shut }

  pub sound_found_none : IsSound origin seats number seats (found_none v)
  sound_found_none = record { spent = s.spent; origin_is = s.origin_is; seats_is = s.seats_is; number_is = s.number_is; drawn_is = s.seats_is; few = omega arith; knows = s.knows; rises = s.rises; holds = s.holds; shut = s.shut }

  -- what is left of a new view that found no number
  pub nothing_new : both v (missed (child v) seats) ≡ found_none v
  nothing_new =
      let seen : longer v.seen v.seen ≡ v.seen = longer_first v.seen v.seen (omega arith) in let known : max v.known v.known ≡ v.known = omega arith in let mine : merged v.mine [] ≡ v.mine = merged_none 0 (length v.seen) v.mine s.rises in
      let few = s.few in let is = s.seats_is in let drawn_is = s.drawn_is in let drawn' : max v.drawn seats ≡ v.seats = omega arith in let joined : v.joined ++ [] ≡ v.joined = append-nil v.joined in
      λ i. record v { seen = seen i; known = known i; mine = mine i; drawn = drawn' i; joined = joined i; olds = v.olds ++ (v.seen ∷ v.seen ∷ []) }

  pub sound_entered : (history : List Entry) → Continues v history → IsSound origin seats number drawn (entered v history)
  sound_entered history on = record {
    spent = s.spent;
    origin_is = s.origin_is;
    seats_is = s.seats_is;
    number_is = s.number_is;
    drawn_is = s.drawn_is;
    few = s.few;
    knows = omega arith;
    rises = rises_wider 0 (length v.seen) (length history) v.mine (begins_length v.seen history on.0) s.rises;
    holds = refl;
    shut = refl;
  }

  pub sound_left : IsSound origin seats number drawn (left v)
  sound_left = record { spent = s.spent; origin_is = s.origin_is; seats_is = s.seats_is; number_is = s.number_is; drawn_is = s.drawn_is; few = s.few; knows = s.knows; rises = s.rises; holds = refl; shut = refl }

  pub sound_added : (history : List Entry) → AddsOne v.seen history → IsSound origin seats number drawn (added v history)
  sound_added history one = let len : length history ≡ suc (length v.seen) = ap (λ (l : List Entry). length l) one.1 ∙ (let a = length-append v.seen (one.0 ∷ []) in omega arith) in
      record {
        spent = s.spent;
        origin_is = s.origin_is;
        seats_is = s.seats_is;
        number_is = s.number_is;
        drawn_is = s.drawn_is;
        few = s.few;
        knows = omega arith;
        rises = subst (λ m. Rises 0 m (v.mine ++ length v.seen ∷ [])) (sym len) (rises_more 0 (length v.seen) v.mine (omega arith) s.rises);
        holds = s.holds;
        shut = s.shut;
      }

-- a pass from its parts
pub is_pass : (table : TableId) (origin : Origin) (seats number drawn : ℕ) (q : Pass) (w : View) → q.badge.table_id ≡ table → q.badge.views ≡ view q ∷ [] → view q ≡ w → q.number ≡ number → q.drawn ≡ drawn → IsSound origin seats number drawn w → IsPassAt table origin seats q
is_pass table origin seats number drawn q w at views same number_is drawn_is sound = (at, views, subst (λ (z : View × (ℕ × ℕ)). IsSound origin seats z.1.0 z.1.1 z.0) (λ i. (sym same i, (sym number_is i, sym drawn_is i))) sound)

-- the pass with another view
pub same_pass : (table : TableId) (origin : Origin) (seats : ℕ) (p q : Pass) (w : View) → IsPassAt table origin seats p → q.badge.table_id ≡ table → q.badge.views ≡ view q ∷ [] → view q ≡ w → q.number ≡ p.number → q.drawn ≡ p.drawn
    → IsSound origin seats p.number p.drawn w → IsPassAt table origin seats q
same_pass table origin seats p q w is at views same number drawn sound = (at, views, subst (λ (z : View × (ℕ × ℕ)). IsSound origin seats z.1.0 z.1.1 z.0) (λ i. (sym same i, (sym number i, sym drawn i))) sound)

-- after one try to enter
pub sound_outcome : {T : Type 0} (history : T → List Entry) (origin : T → Origin) (begun : Origin) (seats number drawn : ℕ) (v w : View) (r : Result T Busy) → IsSound begun seats number drawn v
    → IfOk r (λ value. (w ≡ entered v (history value)) × Continues v (history value) × (origin value ≡ v.origin)) → IfErr r (λ busy. (w ≡ tried v busy.word) × IsOfAnother v busy.word) → IsSound begun seats number drawn w
sound_outcome history origin begun seats number drawn v w (Ok value) s ok err = subst (IsSound begun seats number drawn) (sym ok.0) (sound_entered begun seats number drawn v s (history value) ok.1)
sound_outcome history origin begun seats number drawn v w (Err busy) s ok err = subst (IsSound begun seats number drawn) (sym err.0) (sound_tried begun seats number drawn v s busy.word)

sound_first : (history : List Entry) (origin : Origin) (seats : ℕ) → 0 < seats → IsSound origin seats 0 1 (first_view history origin seats)
sound_first history origin seats some = record { spent = refl; origin_is = refl; seats_is = refl; number_is = refl; drawn_is = refl; few = omega arith; knows = omega arith; rises = rises_below (length history); holds = refl; shut = refl }

pub first_pass : (table : TableId) (history : List Entry) (origin : Origin) (seats : ℕ) (b : Badge View) → 0 < seats → b.table_id ≡ table → b.views ≡ first_view history origin seats ∷ []
    → IsPassAt table origin seats record { badge = b; number = 0; drawn = 1 } × (view record { badge = b; number = 0; drawn = 1 } ≡ first_view history origin seats)
first_pass table history origin seats b some at views =
    let same : get_or b.views 0 given_up ≡ first_view history origin seats = ap (λ l. get_or l 0 given_up) views in
    ((at, views ∙ ap (λ v. v ∷ []) (sym same), subst (IsSound origin seats 0 1) (sym same) (sound_first history origin seats some)), same)

-- the word by which a seat finds the turn held
pub word_of_another : {T : Type 0} (begun : Origin) (seats number drawn : ℕ) (v w u : View) (r : Result T Busy) → IsSound begun seats number drawn w → v ≡ w → IfErr r (λ busy. (u ≡ tried v busy.word) × IsOfAnother v busy.word)
    → IfErr r (λ busy. (busy.word ≢ 0) × (busy.word ≢ number + 1))
word_of_another begun seats number drawn v w u (Ok value) s is err = tt
word_of_another begun seats number drawn v w u (Err busy) s is err =
    let other = err.1 in let n = other.0 in
    let own : v.number ≡ Some number = ap (λ (x : View). x.number) is ∙ s.number_is in (
      (λ e. let k = other.1 in omega arith),
      (λ e. let k = other.1 in let same : n ≡ number = omega arith in
          let one : ℕ = cond (eqb number n) 1 0 in let is_one : one ≡ 1 = ap (λ b. cond b 1 0) (eq-eqb number n (sym same)) in
          let here : times n (numbers v) ≡ one + times n v.joined = ap (λ (o : Option ℕ). times n (own_number o ++ v.joined)) own in let none = other.3 in absurd (omega arith)),
    )
