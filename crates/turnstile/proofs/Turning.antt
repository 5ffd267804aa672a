-- The steps of a seat that has not the turn, or takes it.
use Rattle.std.proofs.Common.{◌≡◌, ◌≢◌, ℕ, zero, suc, ◌+◌, ◌<◌, ◌≤◌, eqb, true, false, cond, List, [], ◌∷◌, ◌++◌, length, set, Option, Some, None, sym, refl, ap, ◌∙◌, subst, arith, eq-eqb, ne_eqb}
use mathlib.Core.Option.{none, some, some-injective}
use mathlib.Core.Option as maybe
use mathlib.Core.List.{IsPrefix}
use mathlib.Core.Logic.{dite}
use native.Mathlib.Decide.{dec_le, ℕ_discrete}
use lib.ListN.{get_elem?}
use prog.Atomic.{either}
use Rattle.atomic_table.specs.Table.{keeps, takes, step, opening, Allows}
use Rattle.atomic_table.proofs.Lists.{set_else, exchanged}
use Rattle.kernel_values.specs.declared.entry.Entry.{Entry}
use Rattle.kernel_values.specs.Origin.{Origin}
use Rattle.turnstile.specs.declared.view.View.{View}
use Rattle.turnstile.specs.Numbers.{times, once_below, total}
use Rattle.turnstile.specs.Views.{first_view, won, tried, fetched, counted, drew, missed, numbers, own_number}
use Rattle.turnstile.specs.Rule.{About, Turn, free, taken, out, AllBegin, word_of, slot_of, Turns, There, FitsView, Good, Kept}
use Rattle.turnstile.specs.Steps.{Sat, HasAllIfAlone, Takes, Counts, Fetches, Draws}
use Rattle.turnstile.proofs.Begins.{same_begins, begins_length}
use Rattle.turnstile.proofs.Sums.{total_at, total_two, total_alone, once, once_more, once_next, once_within, at_most_once, not_below}
use Rattle.turnstile.proofs.Pigeons.{pigeons}
use Rattle.turnstile.proofs.Rising.{rises_wider, rises_below, times_below}
use Rattle.turnstile.proofs.Changes.{is_not, stays, changes, Goes, allows, allows_taken}

pub not_none : {A : Type 0} (o : Option A) (a : A) → o ≡ Some a → o ≡ None → ⊥
not_none o a e n = cc

pub placed_at : (views : List View) (id : ℕ) (v w : View) → get_elem? views id ≡ some v → get_elem? (set views id w) id ≡ some w
placed_at [] id v w e = absurd (maybe.some-ne-none v (sym e))
placed_at (x ∷ xs) zero v w e = refl
placed_at (x ∷ xs) (suc id) v w e = placed_at xs id v w e

-- the view is still there after a change of one view
pub still : (views : List View) (id j : ℕ) (v w h : View) → get_elem? views id ≡ some v → get_elem? views j ≡ some h → (u : View) × (get_elem? (set views id w) j ≡ some u)
still views id j v w h at e = dite (ℕ_discrete j id) (λ same. (w, subst (λ z. get_elem? (set views id w) z ≡ some w) (sym same) (placed_at views id v w at))) (λ ne. (h, set_else views id j w ne ∙ e))

module _ {T : Type 0} (history : T → List Entry) (origin : T → Origin) where
  first_fits : (about : About) (x value : T) (j : ℕ) → about ≡ record { origin = origin value; seats = about.seats } → FitsView about (history value) (free x) 1 j (first_view (history value) (origin value) about.seats)
  first_fits about x value j is = record {
    born = λ _. (ap (λ (a : About). a.origin) (sym is), refl);
    seen = same_begins (history value) (history value) refl;
    olds = tt;
    knows = omega arith;
    known = omega arith;
    mine = rises_below (length (history value));
    drawn = omega arith;
    turns = (refl, refl, refl);
    fresh = λ none'. absurd (not_none (Some 0) 0 refl none');
  }

  -- The rule holds at the start.
  pub starts : (n : ℕ) (x value : T) (seats : ℕ) → 0 < seats → n ≡ length (history x) → value ≡ x
      → Kept history origin (record { origin = origin value; seats = seats }) (opening (n ∷ 0 ∷ 1 ∷ []) (Some x ∷ []) (first_view (history value) (origin value) seats))
  starts n x value seats some_seat len same = let about : About = record { origin = origin value; seats = seats } in let v = first_view (history value) (origin value) seats in record {
    log = history value;
    turn = free x;
    given = 1;
    words = ap (λ m. m ∷ 0 ∷ 1 ∷ []) (len ∙ ap (λ y. length (history y)) (sym same));
    homes = refl;
    good = record {
      inside = (ap history (sym same), ap origin (sym same));
      there = tt;
      few = omega arith;
      each = (let go : (j : ℕ) (u : View) → get_elem? (v ∷ []) j ≡ some u → FitsView about (history value) (free x) 1 j u = elim [
        | zero ↦ (λ u e. subst (FitsView about (history value) (free x) 1 zero) (some-injective v u e) (first_fits about x value zero refl))
        | suc j ↦ (λ u e. absurd (maybe.some-ne-none u (sym e)))
      ] in go);
      places = λ k. let t = times_below k (length (history value)) in omega arith;
      names = λ k. let one : ℕ = cond (eqb 0 k) 1 0 in let a : once_below k 1 ≡ once_below k 0 + one = once_more k 0 in let b = not_below k 0 (omega arith) in let goal : (one + 0) + 0 ≡ once_below k 1 = omega arith in goal;
    };
  }

module _ {T : Type 0} (history : T → List Entry) (origin : T → Origin) (about : About) where
  -- the holder's number is neither the own number of another view nor one that was joined into it
  others_number : (log : List Entry) (turn : Turn T) (given : ℕ) (views : List View) (id j n : ℕ) (v h : View) → Good history origin about log turn given views → get_elem? views id ≡ some v → v.spent ≡ false → id ≢ j → get_elem? views j ≡ some h → h.number ≡ Some n
      → (n < v.seats) × (times n (numbers v) ≡ 0)
  others_number log turn given views id j n v h g at live ne e has =
      let one : ℕ = cond (eqb n n) 1 0 in let is : one ≡ 1 = once n in
      let here : times n (numbers h) ≡ one + times n h.joined = ap (λ (o : Option ℕ). times n (own_number o ++ h.joined)) has in
      let sum : times n (numbers v) + times n (numbers h) ≤ total (λ (u : View). times n (numbers u)) views = total_two (λ (u : View). times n (numbers u)) views id j v h ne at e in
      let all = g.names n in let most = at_most_once n given in let few = g.few in let seats : v.seats ≡ about.seats = ((g.each id v at).born live).1 in
      let low : n < given = dite (dec_le given n) (λ far. let z = not_below n given far in absurd (omega arith)) (λ near. omega arith) in (
        omega arith,
        omega arith,
      )

  counted_fits : (log : List Entry) (turn : Turn T) (given j : ℕ) (v : View) → FitsView about log turn given j v → FitsView about log turn given j (counted v (length log))
  counted_fits log turn given j v f = let p = begins_length v.seen log f.seen in record {
    born = f.born;
    seen = f.seen;
    olds = f.olds;
    knows = p;
    known = omega arith;
    mine = f.mine;
    drawn = f.drawn;
    turns = (let go : (t : Turn T) → Turns t log j v → Turns t log j (counted v (length log)) = elim [ free x ↦ (λ h. h) | taken id n x ↦ (λ h. h) | out opens id n ↦ (λ h. h) ] in go turn f.turns);
    fresh = f.fresh;
  }

  pub unmoved_there : (turn : Turn T) (views : List View) (id : ℕ) (v w : View) → get_elem? views id ≡ some v → There turn views → There turn (set views id w)
  unmoved_there (free x) views id v w at t = tt
  unmoved_there (taken id' n x) views id v w at t = still views id id' v w t.0 at t.1
  unmoved_there (out opens id' n) views id v w at t = still views id id' v w t.0 at t.1

  -- a step that changes no place, no number and nothing of the turn
  unmoved : (log : List Entry) (turn : Turn T) (given : ℕ) (views : List View) (id : ℕ) (v w : View) → Good history origin about log turn given views → get_elem? views id ≡ some v → FitsView about log turn given id w → w.mine ≡ v.mine → numbers w ≡ numbers v
      → Good history origin about log turn given (set views id w)
  unmoved log turn given views id v w g at fits mine names = changes history origin about log log turn turn given given views id v w g at g.inside (unmoved_there turn views id v w at g.there) g.few fits (λ j u ne f. f)
      (λ k. ap (λ m. times k m + once_below k (length log)) mine) (λ n. ap (λ m. times n m + once_below n given) names)

  -- A look at the number of entries.
  pub counts : (slots id : ℕ) (v : View) (carried : List (ℕ × Option T)) → Allows (Kept history origin about) slots id (v, carried) 0 (λ n. n) (Counts (step slots 0 0 0 none) (v, carried))
  counts slots id v carried = allows history origin about slots id (v, carried) 0 (λ n. n) (Counts (step slots 0 0 0 none) (v, carried))
      (λ log turn given views g at. let f = g.each id v at in (
        counted v (length log),
        keeps,
        tt,
        record { log = log; turn = turn; given = given; words = refl; homes = refl; good = unmoved log turn given views id v (counted v (length log)) g at (counted_fits log turn given id v f) refl refl },
        (refl, refl, f.known),
      ))

  tried_fits : (log : List Entry) (turn : Turn T) (given j word : ℕ) (v : View) → FitsView about log turn given j v → FitsView about log turn given j (tried v word)
  tried_fits log turn given j word v f = record {
    born = f.born;
    seen = f.seen;
    olds = f.olds;
    knows = f.knows;
    known = f.known;
    mine = f.mine;
    drawn = f.drawn;
    turns = (let go : (t : Turn T) → Turns t log j v → Turns t log j (tried v word) = elim [ free x ↦ (λ h. h) | taken id n x ↦ (λ h. h) | out opens id n ↦ (λ h. h) ] in go turn f.turns);
    fresh = f.fresh;
  }

  -- a view has no number twice, and none past the number of seats
  own_numbers : (log : List Entry) (turn : Turn T) (given : ℕ) (views : List View) (id n : ℕ) (v : View) → Good history origin about log turn given views → get_elem? views id ≡ some v → times n (numbers v) ≤ once_below n about.seats
  own_numbers log turn given views id n v g at = let a = total_at (λ (u : View). times n (numbers u)) views id v at in let b = g.names n in let c = once_within n given about.seats g.few in omega arith

  -- a view that has every number has every place
  has_all : (log : List Entry) (turn : Turn T) (given : ℕ) (views : List View) (id : ℕ) (v : View) → Good history origin about log turn given views → get_elem? views id ≡ some v → v.spent ≡ false → HasAllIfAlone v (length log)
  has_all log turn given views id v g at live all k =
      let seats : v.seats ≡ about.seats = ((g.each id v at).born live).1 in let few = g.few in
      let own : (n : ℕ) → times n (numbers v) ≤ once_below n about.seats = λ n. own_numbers log turn given views id n v g at in
      let none_left : (j : ℕ) (u : View) → j ≢ id → get_elem? views j ≡ some u → (n : ℕ) → times n (numbers u) ≡ 0 = λ j u ne e n.
      let a = total_two (λ (u : View). times n (numbers u)) views id j v u (λ q. ne (sym q)) at e in let b = g.names n in let c = at_most_once n given in let d = once_within n given about.seats few in
      dite (dec_le about.seats n) (λ far. let z = not_below n about.seats far in omega arith) (λ near. let one = pigeons (numbers v) about.seats n (omega arith) own (omega arith) in omega arith) in
      let blank : (j : ℕ) (u : View) → j ≢ id → get_elem? views j ≡ some u → times k u.mine ≡ 0 = λ j u ne e.
      let h = none_left j u ne e in let f = g.each j u e in
      let go : (o : Option ℕ) → u.number ≡ o → times k u.mine ≡ 0 = elim [
        | None ↦ (λ is. ap (times k) (f.fresh is).0)
        | Some n ↦ (λ is. let one : ℕ = cond (eqb n n) 1 0 in let is_one : one ≡ 1 = once n in let here : times n (numbers u) ≡ one + times n u.joined = ap (λ (o : Option ℕ). times n (own_number o ++ u.joined)) is in let z = h n in absurd (omega arith))
      ] in go u.number refl in
      sym (total_alone (λ (u : View). times k u.mine) views id v at blank) ∙ g.places k

  -- A try to take the turn.
  misses : (slots id n m j : ℕ) (v h : View) (carried : List (ℕ × Option T)) (log : List Entry) (turn : Turn T) (given : ℕ) (views : List View) → Good history origin about log turn given views → get_elem? views id ≡ some v → v.spent ≡ false → word_of turn ≡ m + 1
      → id ≢ j → get_elem? views j ≡ some h → h.number ≡ Some m → Goes history origin about id (v, carried) 1 (λ w. either (eqb w 0) (n + 1) w) (Takes (step slots 1 0 (n + 1) none) (v, carried)) (length log ∷ word_of turn ∷ given ∷ []) (slot_of turn ∷ []) views
  misses slots id n m j v h carried log turn given views g at live is ne e has =
      let other = others_number log turn given views id j m v h g at live ne e has in
      let held : word_of turn ≢ 0 = λ z. omega arith in let seats : v.seats ≡ about.seats = ((g.each id v at).born live).1 in
      let not_all : length (numbers v) < v.seats = dite (dec_le v.seats (length (numbers v))) (λ all. let below_it = other.0 in let none = other.1 in let one = pigeons (numbers v) about.seats m (omega arith) (λ k. own_numbers log turn given views id k v g at) (omega arith) in absurd (omega arith)) (λ few. omega arith) in (
        tried v (word_of turn),
        keeps,
        tt,
        exchanged (word_of turn) 0 (n + 1) (λ w. Kept history origin about record { words = length log ∷ w ∷ given ∷ []; homes = slot_of turn ∷ []; views = set views id (tried v (word_of turn)) }) (λ z. absurd (held z))
            (λ _. record { log = log; turn = turn; given = given; words = refl; homes = refl; good = unmoved log turn given views id v (tried v (word_of turn)) g at (tried_fits log turn given id (word_of turn) v (g.each id v at)) refl refl }),
        (refl, (λ z. absurd (held z)), λ _. (refl, (m, is, other.0, other.1), not_all)),
      )

  wins : (slots id n : ℕ) (v : View) (carried : List (ℕ × Option T)) (log : List Entry) (x : T) (given : ℕ) (views : List View) → v.number ≡ Some n → Good history origin about log (free x) given views → get_elem? views id ≡ some v
      → Goes history origin about id (v, carried) 1 (λ w. either (eqb w 0) (n + 1) w) (Takes (step slots 1 0 (n + 1) none) (v, carried)) (length log ∷ 0 ∷ given ∷ []) (some (Some x) ∷ []) views
  wins slots id n v carried log x given views has g at = let f = g.each id v at in (
    won v,
    keeps,
    tt,
    record {
      log = log;
      turn = taken id n x;
      given = given;
      words = refl;
      homes = refl;
      good = changes history origin about log log (free x) (taken id n x) given given views id v (won v) g at g.inside (won v, placed_at views id v (won v) at) g.few
          record { born = f.born; seen = f.seen; olds = f.olds; knows = f.knows; known = f.known; mine = f.mine; drawn = f.drawn; turns = ((λ _. (refl, refl, f.turns.2, has)), λ ne. absurd (ne refl)); fresh = λ none'. absurd (not_none v.number n has none') }
          (λ j u ne o. stays about log log (free x) (taken id n x) given given j u o (same_begins log log refl) (omega arith) ((λ e. absurd (ne e)), λ _. o.turns)) (λ k. refl) (λ k. refl);
    },
    (refl, (λ _. refl), λ ne. absurd (ne refl)),
  )

  pub tries : (slots id n : ℕ) (v : View) (carried : List (ℕ × Option T)) → v.number ≡ Some n → v.has_turn ≡ false → v.spent ≡ false
      → Allows (Kept history origin about) slots id (v, carried) 1 (λ w. either (eqb w 0) (n + 1) w) (Takes (step slots 1 0 (n + 1) none) (v, carried))
  tries slots id n v carried has idle live = allows history origin about slots id (v, carried) 1 (λ w. either (eqb w 0) (n + 1) w) (Takes (step slots 1 0 (n + 1) none) (v, carried))
      (λ log turn given views.
      let P : Turn T → Type 0 = λ t. Good history origin about log t given views → get_elem? views id ≡ some v
      → Goes history origin about id (v, carried) 1 (λ w. either (eqb w 0) (n + 1) w) (Takes (step slots 1 0 (n + 1) none) (v, carried)) (length log ∷ word_of t ∷ given ∷ []) (slot_of t ∷ []) views in
      let go : (t : Turn T) → P t = elim [
        | free x ↦ (λ g at. wins slots id n v carried log x given views has g at)
        | taken j m x ↦ (λ g at. let w = (g.each j g.there.0 g.there.1).turns.0 refl in
            misses slots id n m j v g.there.0 carried log (taken j m x) given views g at live refl (λ e. is_not v.has_turn ((g.each id v at).turns.0 e).0 idle) g.there.1 w.3)
        | out opens j m ↦ (λ g at. let w = (g.each j g.there.0 g.there.1).turns.0 refl in
            misses slots id n m j v g.there.0 carried log (out opens j m) given views g at live refl (λ e. is_not v.has_turn ((g.each id v at).turns.0 e).0 idle) g.there.1 w.3)
      ] in go turn)

  -- A look at the number of entries that takes the slot.
  fetches_at : (slots id : ℕ) (v : View) → v.has_turn ≡ true → v.loaded ≡ false → v.spent ≡ false → Allows (Kept history origin about) slots id (v, []) 0 (λ n. n) (Fetches history origin (step slots 0 0 0 none) (v, []))
  fetches_at slots id v has fresh live = allows_taken history origin about slots id v [] 0 (λ n. n) (Fetches history origin (step slots 0 0 0 none) (v, [])) has fresh
      (λ log x n given views g at w.
      let f = g.each id v at in let e : history x ≡ log = g.inside.0 in let on = begins_length v.seen log f.seen in let len : length (history x) ≡ length log = ap (λ (l : List Entry). length l) e in let known = f.known in
      let born = f.born live in (
        fetched v (history x),
        takes 0 (Some x),
        refl,
        record {
          log = log;
          turn = out true id n;
          given = given;
          words = refl;
          homes = refl;
          good = changes history origin about log log (taken id n x) (out true id n) given given views id v (fetched v (history x)) g at tt (fetched v (history x), placed_at views id v (fetched v (history x)) at) g.few
              record {
                born = f.born;
                seen = same_begins (history x) log e;
                olds = f.olds;
                knows = omega arith;
                known = omega arith;
                mine = rises_wider 0 (length v.seen) (length (history x)) v.mine (omega arith) f.mine;
                drawn = f.drawn;
                turns = ((λ _. (w.0, refl, refl, w.3, e)), λ ne. absurd (ne refl));
                fresh = f.fresh;
              }
              (λ j u ne o. stays about log log (taken id n x) (out true id n) given given j u o (same_begins log log refl) (omega arith) ((λ q. absurd (ne q)), λ q. o.turns.1 ne)) (λ k. refl) (λ k. refl);
        },
        (
          x,
          refl,
          refl,
          (subst (IsPrefix v.seen) (sym e) f.seen, subst (AllBegin v.olds) (sym e) f.olds, omega arith),
          f.mine,
          (λ all k. has_all log (taken id n x) given views id v g at live all k ∙ ap (once_below k) (sym len)),
          g.inside.1 ∙ sym born.0,
        ),
      ))

  pub fetches : (slots id : ℕ) (m : Sat T) → m.1 ≡ [] → m.0.has_turn ≡ true → m.0.loaded ≡ false → m.0.spent ≡ false → Allows (Kept history origin about) slots id m 0 (λ n. n) (Fetches history origin (step slots 0 0 0 none) m)
  fetches slots id m none' has fresh live = subst (λ (c : List (ℕ × Option T)). Allows (Kept history origin about) slots id (m.0, c) 0 (λ n. n) (Fetches history origin (step slots 0 0 0 none) (m.0, c))) (sym none') (fetches_at slots id m.0 has fresh live)

  missed_fits : (log : List Entry) (turn : Turn T) (given j : ℕ) (v : View) → FitsView about log turn given j v → FitsView about log turn given j (missed v given)
  missed_fits log turn given j v f = record {
    born = f.born;
    seen = f.seen;
    olds = f.olds;
    knows = f.knows;
    known = f.known;
    mine = f.mine;
    drawn = omega arith;
    turns = (let go : (t : Turn T) → Turns t log j v → Turns t log j (missed v given) = elim [ free x ↦ (λ h. h) | taken id n x ↦ (λ h. h) | out opens id n ↦ (λ h. h) ] in go turn f.turns);
    fresh = f.fresh;
  }

  drew_fits : (log : List Entry) (turn : Turn T) (given j : ℕ) (v : View) → FitsView about log turn given j v → v.number ≡ None → FitsView about log turn (given + 1) j (drew v given)
  drew_fits log turn given j v f new = record {
    born = f.born;
    seen = f.seen;
    olds = f.olds;
    knows = f.knows;
    known = f.known;
    mine = f.mine;
    drawn = omega arith;
    turns = (let go : (t : Turn T) → Turns t log j v → Turns t log j (drew v given) = elim [
      | free x ↦ (λ h. h)
      | taken id n x ↦ (λ h. ((λ e. absurd (not_none v.number n (h.0 e).3 new)), h.1))
      | out opens id n ↦ (λ h. ((λ e. absurd (not_none v.number n (h.0 e).3 new)), h.1))
    ] in go turn f.turns);
    fresh = λ none'. absurd (not_none (Some given) given refl none');
  }

  -- A try to draw a number.
  pub draws : (slots id : ℕ) (v : View) (carried : List (ℕ × Option T)) → v.number ≡ None → v.spent ≡ false → v.drawn < v.seats
      → Allows (Kept history origin about) slots id (v, carried) 2 (λ n. either (eqb n v.drawn) (v.drawn + 1) n) (Draws (step slots 2 v.drawn (v.drawn + 1) none) (v, carried))
  draws slots id v carried new live room = allows history origin about slots id (v, carried) 2 (λ n. either (eqb n v.drawn) (v.drawn + 1) n) (Draws (step slots 2 v.drawn (v.drawn + 1) none) (v, carried))
      (λ log turn given views g at. let f = g.each id v at in let low = f.drawn in let few = g.few in let seats : v.seats ≡ about.seats = (f.born live).1 in
      dite (ℕ_discrete given v.drawn)
      (λ e. let w = drew v given in (
        w,
        keeps,
        tt,
        record {
          log = log;
          turn = turn;
          given = given + 1;
          words = ap (λ b. length log ∷ word_of turn ∷ either b (v.drawn + 1) given ∷ []) (eq-eqb given v.drawn e) ∙ ap (λ n. length log ∷ word_of turn ∷ (n + 1) ∷ []) (sym e);
          homes = refl;
          good = changes history origin about log log turn turn given (given + 1) views id v w g at g.inside (unmoved_there turn views id v w at g.there) (omega arith) (drew_fits log turn given id v f new)
              (λ j u ne o. stays about log log turn turn given (given + 1) j u o (same_begins log log refl) (omega arith) o.turns) (λ k. refl)
              (λ n. let one : ℕ = cond (eqb given n) 1 0 in let more : once_below n (given + 1) ≡ once_below n given + one = once_next n given in
              let was : times n (numbers v) ≡ times n v.joined = ap (λ (o : Option ℕ). times n (own_number o ++ v.joined)) new in let goal : (one + times n v.joined) + once_below n given ≡ times n (numbers v) + once_below n (given + 1) = omega arith in goal);
        },
        (refl, (λ _. refl), λ ne. absurd (ne e)),
      ))
      (λ ne. let w = missed v given in (
        w,
        keeps,
        tt,
        record {
          log = log;
          turn = turn;
          given = given;
          words = ap (λ b. length log ∷ word_of turn ∷ either b (v.drawn + 1) given ∷ []) (ne_eqb given v.drawn ne);
          homes = refl;
          good = unmoved log turn given views id v w g at (missed_fits log turn given id v f) refl refl;
        },
        (refl, (λ e. absurd (ne e)), λ _. (refl, omega arith, omega arith)),
      )))

  pub draws_from : (slots id d : ℕ) (m : Sat T) → m.0.drawn ≡ d → m.0.number ≡ None → m.0.spent ≡ false → d < m.0.seats → Allows (Kept history origin about) slots id m 2 (λ n. either (eqb n d) (d + 1) n) (Draws (step slots 2 d (d + 1) none) m)
  draws_from slots id d m is new live room = subst (λ k. Allows (Kept history origin about) slots id m 2 (λ n. either (eqb n k) (k + 1) n) (Draws (step slots 2 k (k + 1) none) m)) is (draws slots id m.0 m.1 new live (omega arith))
