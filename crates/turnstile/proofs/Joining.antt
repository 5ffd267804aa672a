-- A new seat beside another, and a seat taken in by another.
use Rattle.std.proofs.Common.{◌≡◌, ◌≢◌, ℕ, ◌+◌, ◌≤◌, max, true, false, List, [], ◌∷◌, ◌++◌, length, set, Some, sym, refl, ap, ◌∙◌, subst, ⊎_elim, arith}
use mathlib.Core.Option.{some, some-injective}
use mathlib.Core.List.{IsPrefix}
use lib.ListN.{get_elem?}
use Rattle.atomic_table.specs.Table.{Splits, Joins}
use Rattle.atomic_table.proofs.Lists.{at_set, set_else, set_again, at_longer, at_snoc}
use Rattle.kernel_values.specs.declared.entry.Entry.{Entry}
use Rattle.kernel_values.specs.Origin.{Origin}
use Rattle.turnstile.specs.declared.view.View.{View}
use Rattle.turnstile.specs.Numbers.{times}
use Rattle.turnstile.specs.Views.{child, both, given_up, numbers, own_number, longer}
use Rattle.turnstile.specs.Rule.{About, Turn, free, taken, out, Turns, There, FitsView, Good, Kept}
use Rattle.turnstile.proofs.Begins.{begins_length, all_of_both, longer_begins, longer_length, longer_within, longer_first}
use Rattle.turnstile.proofs.Sums.{total_set, total_more, total_two, times_append, at_most_once}
use Rattle.turnstile.proofs.Rising.{rises_wider, rises_merged, times_merged}
use Rattle.turnstile.proofs.Changes.{is_not}
use Rattle.turnstile.proofs.Turning.{not_none, still}

module _ {T : Type 0} (history : T → List Entry) (origin : T → Origin) (about : About) where
  longer_there : (turn : Turn T) (views : List View) (w : View) → There turn views → There turn (views ++ w ∷ [])
  longer_there (free x) views w t = tt
  longer_there (taken id n x) views w t = (t.0, at_longer views (w ∷ []) id t.0 t.1)
  longer_there (out opens id n) views w t = (t.0, at_longer views (w ∷ []) id t.0 t.1)

  -- no holder's view is a new one
  not_holder : (views : List View) (v h u : View) (id j : ℕ) → get_elem? views id ≡ some h → h.has_turn ≡ true → get_elem? (views ++ child v ∷ []) j ≡ some u → child v ≡ u → j ≡ id → ⊥
  not_holder views v h u id j there has at is same =
      let e : get_elem? (views ++ child v ∷ []) id ≡ some u = subst (λ k. get_elem? (views ++ child v ∷ []) k ≡ some u) same at in
      let one : h ≡ u = some-injective h u (sym (at_longer views (child v ∷ []) id h there) ∙ e) in
      is_not h.has_turn has (ap (λ (z : View). z.has_turn) (one ∙ sym is))

  child_turns : (log : List Entry) (turn : Turn T) (given : ℕ) (views : List View) (v u : View) (j : ℕ) → Good history origin about log turn given views → get_elem? (views ++ child v ∷ []) j ≡ some u → child v ≡ u → Turns turn log j (child v)
  child_turns log turn given views v u j g at is =
      let P : Turn T → Type 0 = λ t. Good history origin about log t given views → Turns t log j (child v) in
      let go : (t : Turn T) → P t = elim [
        | free x ↦ (λ g. (refl, refl, refl))
        | taken id n x ↦ (λ g. ((λ e. absurd (not_holder views v g.there.0 u id j g.there.1 ((g.each id g.there.0 g.there.1).turns.0 refl).0 at is e)), λ _. (refl, refl, refl)))
        | out opens id n ↦ (λ g. ((λ e. absurd (not_holder views v g.there.0 u id j g.there.1 ((g.each id g.there.0 g.there.1).turns.0 refl).0 at is e)), λ _. (refl, refl, refl)))
      ] in go turn g

  grown : (log : List Entry) (turn : Turn T) (given : ℕ) (views : List View) (id : ℕ) (v : View) → Good history origin about log turn given views → get_elem? views id ≡ some v → v.spent ≡ false → Good history origin about log turn given (views ++ child v ∷ [])
  grown log turn given views id v g at live = let f = g.each id v at in record {
    inside = g.inside;
    there = longer_there turn views (child v) g.there;
    few = g.few;
    each = λ j u e. ⊎_elim (λ t. g.each j u t)
        (λ is. let fits : FitsView about log turn given j (child v) = record { born = λ _. f.born live; seen = f.seen; olds = tt; knows = f.knows; known = f.known; mine = tt; drawn = f.drawn; turns = child_turns log turn given views v u j g e is; fresh = λ _. (refl, refl, refl) } in subst (FitsView about log turn given j) is fits)
        (at_snoc views (child v) u j e);
    places = λ k. let s = total_more (λ (u : View). times k u.mine) views (child v) in let p = g.places k in omega arith;
    names = λ n. let s = total_more (λ (u : View). times n (numbers u)) views (child v) in let p = g.names n in omega arith;
  }

  -- A new seat beside another.
  pub parts : (id : ℕ) (v : View) → v.spent ≡ false → Splits (Kept history origin about) id v v (child v)
  parts id v live s k at = record {
    log = k.log;
    turn = k.turn;
    given = k.given;
    words = k.words;
    homes = k.homes;
    good = subst (λ views. Good history origin about k.log k.turn k.given (views ++ child v ∷ [])) (sym (set_again s.views id v at)) (grown k.log k.turn k.given s.views id v k.good at live);
  }

  both_turns : (log : List Entry) (turn : Turn T) (j : ℕ) (v w : View) → IsPrefix w.seen log → Turns turn log j v → Turns turn log j (both v w)
  both_turns log (free x) j v w on t = t
  both_turns log (taken id n x) j v w on t = t
  both_turns log (out opens id n) j v w on t = (
    (λ e. let h = t.0 e in let len = begins_length w.seen log on in let same : length v.seen ≡ length log = ap (λ (l : List Entry). length l) h.4 in (h.0, h.1, h.2, h.3, longer_first v.seen w.seen (omega arith) ∙ h.4)),
    t.1,
  )

  both_fits : (log : List Entry) (turn : Turn T) (given j k n : ℕ) (v w : View) → FitsView about log turn given j v → FitsView about log turn given k w → v.number ≡ Some n → ((p : ℕ) → times p v.mine + times p w.mine ≤ 1) → FitsView about log turn given j (both v w)
  both_fits log turn given j k n v w f g num apart = let len = longer_length v.seen w.seen in let a = f.knows in let b = g.knows in let c = f.known in let d = g.known in let p = f.drawn in let q = g.drawn in record {
    born = f.born;
    seen = longer_begins v.seen w.seen log f.seen g.seen;
    olds = all_of_both v.olds (v.seen ∷ w.seen ∷ w.olds) log f.olds (f.seen, (g.seen, g.olds));
    knows = longer_within v.seen w.seen (max v.known w.known) (omega arith) (omega arith);
    known = omega arith;
    mine = rises_merged 0 (length (longer v.seen w.seen)) v.mine w.mine apart (rises_wider 0 (length v.seen) (length (longer v.seen w.seen)) v.mine len.0 f.mine) (rises_wider 0 (length w.seen) (length (longer v.seen w.seen)) w.mine len.1 g.mine);
    drawn = omega arith;
    turns = both_turns log turn j v w g.seen f.turns;
    fresh = λ none'. absurd (not_none v.number n num none');
  }

  spent_turns : (log : List Entry) (turn : Turn T) (j : ℕ) (w : View) → w.has_turn ≡ false → Turns turn log j w → Turns turn log j given_up
  spent_turns log (free x) j w idle t = (refl, refl, refl)
  spent_turns log (taken id n x) j w idle t = ((λ e. absurd (is_not w.has_turn (t.0 e).0 idle)), λ _. (refl, refl, refl))
  spent_turns log (out opens id n) j w idle t = ((λ e. absurd (is_not w.has_turn (t.0 e).0 idle)), λ _. (refl, refl, refl))

  spent_fits : (log : List Entry) (turn : Turn T) (given j : ℕ) (w : View) → w.has_turn ≡ false → FitsView about log turn given j w → FitsView about log turn given j given_up
  spent_fits log turn given j w idle f = record {
    born = λ e. absurd (is_not true refl e);
    seen = (log, refl);
    olds = tt;
    knows = omega arith;
    known = omega arith;
    mine = tt;
    drawn = omega arith;
    turns = spent_turns log turn j w idle f.turns;
    fresh = λ _. (refl, refl, refl);
  }

  joined_there : (turn : Turn T) (views : List View) (id other : ℕ) (v b w : View) → get_elem? views id ≡ some v → get_elem? (set views id b) other ≡ some w → There turn views → There turn (set (set views id b) other given_up)
  joined_there (free x) views id other v b w at at' t = tt
  joined_there (taken j n x) views id other v b w at at' t = let h = still views id j v b t.0 at t.1 in still (set views id b) other j w given_up h.0 at' h.1
  joined_there (out opens j n) views id other v b w at at' t = let h = still views id j v b t.0 at t.1 in still (set views id b) other j w given_up h.0 at' h.1

  joined : (log : List Entry) (turn : Turn T) (given : ℕ) (views : List View) (id other n : ℕ) (v w : View) → Good history origin about log turn given views → get_elem? views id ≡ some v → other ≢ id → get_elem? (set views id (both v w)) other ≡ some w → v.number ≡ Some n → w.has_turn ≡ false
      → Good history origin about log turn given (set (set views id (both v w)) other given_up)
  joined log turn given views id other n v w g at ne at' num idle =
      let there : get_elem? views other ≡ some w = sym (set_else views id other (both v w) ne) ∙ at' in let fv = g.each id v at in let fw = g.each other w there in
      let apart : (k : ℕ) → times k v.mine + times k w.mine ≤ 1 = λ k. let a = total_two (λ (u : View). times k u.mine) views id other v w (λ e. ne (sym e)) at there in let b = g.places k in let c = at_most_once k (length log) in omega arith in record {
        inside = g.inside;
        there = joined_there turn views id other v (both v w) w at at' g.there;
        few = g.few;
        each = λ j u e. ⊎_elim (λ (t : (j ≡ other) × (given_up ≡ u)). subst (λ (z : ℕ × View). FitsView about log turn given z.0 z.1) (λ i. (sym t.0 i, t.1 i)) (spent_fits log turn given other w idle fw))
            (λ (t : (j ≢ other) × (get_elem? (set views id (both v w)) j ≡ some u)). ⊎_elim (λ (r : (j ≡ id) × (both v w ≡ u)). subst (λ (z : ℕ × View). FitsView about log turn given z.0 z.1) (λ i. (sym r.0 i, r.1 i)) (both_fits log turn given id other n v w fv fw num apart))
            (λ (r : (j ≢ id) × (get_elem? views j ≡ some u)). g.each j u r.1) (at_set views id j (both v w) u t.1))
            (at_set (set views id (both v w)) other j given_up u e);
        places = λ k. let a = total_set (λ (u : View). times k u.mine) views id v (both v w) at in let b = total_set (λ (u : View). times k u.mine) (set views id (both v w)) other w given_up at' in let c = g.places k in let d = times_merged k v.mine w.mine in omega arith;
        names = λ k. let a = total_set (λ (u : View). times k (numbers u)) views id v (both v w) at in let b = total_set (λ (u : View). times k (numbers u)) (set views id (both v w)) other w given_up at' in let c = g.names k in
            let d : times k (numbers (both v w)) ≡ times k (own_number v.number) + times k (v.joined ++ numbers w) = times_append k (own_number v.number) (v.joined ++ numbers w) in let e = times_append k v.joined (numbers w) in
            let f : times k (numbers v) ≡ times k (own_number v.number) + times k v.joined = times_append k (own_number v.number) v.joined in omega arith;
      }

  -- A seat taken in by another.
  pub gathers : (id other n : ℕ) (v w : View) → v.number ≡ Some n → w.has_turn ≡ false → Joins (Kept history origin about) id v other w (both v w) given_up
  gathers id other n v w num idle s k at ne at' = record {
    log = k.log;
    turn = k.turn;
    given = k.given;
    words = k.words;
    homes = k.homes;
    good = joined k.log k.turn k.given s.views id other n v w k.good at ne at' num idle;
  }
