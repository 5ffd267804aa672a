-- One view changes and the others stay.
use Rattle.std.proofs.Common.{◌≡◌, ◌≢◌, ℕ, ◌+◌, ◌≤◌, Bool, true, false, List, [], ◌∷◌, length, get_or, set, Option, Some, sym, ◌∙◌, subst, ⊎_elim, arith}
use mathlib.Core.Option.{some, some-injective}
use mathlib.Core.Option as maybe
use mathlib.Core.List.{IsPrefix}
use mathlib.Core.Logic.{dite}
use native.Mathlib.Decide.{ℕ_discrete}
use lib.ListN.{get_elem?}
use Rattle.atomic_table.specs.Table.{Act, Valid, homes_after, carried_after, Allows}
use Rattle.atomic_table.proofs.Lists.{at_set}
use Rattle.kernel_values.specs.declared.entry.Entry.{Entry}
use Rattle.kernel_values.specs.Origin.{Origin}
use Rattle.turnstile.specs.declared.view.View.{View}
use Rattle.turnstile.specs.Numbers.{times, once_below}
use Rattle.turnstile.specs.Views.{numbers}
use Rattle.turnstile.specs.Rule.{About, Turn, free, taken, out, Waits, word_of, slot_of, slot_out, Turns, There, FitsView, Inside, Good, Kept}
use Rattle.turnstile.specs.Steps.{Sat}
use Rattle.turnstile.proofs.Begins.{begins_on, begins_length, all_on}
use Rattle.turnstile.proofs.Sums.{total_set}

pub is_not : (b : Bool) → b ≡ true → b ≡ false → ⊥
is_not b t f = cc

module _ {T : Type 0} where
  pub stays : (about : About) (log log' : List Entry) (turn turn' : Turn T) (given given' j : ℕ) (u : View) → FitsView about log turn given j u → IsPrefix log log' → given ≤ given' → Turns turn' log' j u → FitsView about log' turn' given' j u
  stays about log log' turn turn' given given' j u f on more turns = let len = begins_length log log' on in record {
    born = f.born;
    seen = begins_on u.seen log log' f.seen on;
    olds = all_on u.olds log log' f.olds on;
    knows = f.knows;
    known = (let k = f.known in omega arith);
    mine = f.mine;
    drawn = (let d = f.drawn in omega arith);
    turns = turns;
    fresh = f.fresh;
  }

  pub changes : (history : T → List Entry) (origin : T → Origin) (about : About) (log log' : List Entry) (turn turn' : Turn T) (given given' : ℕ) (views : List View) (id : ℕ) (v w : View)
      → Good history origin about log turn given views → get_elem? views id ≡ some v → Inside history origin about turn' log' → There turn' (set views id w) → given' ≤ about.seats → FitsView about log' turn' given' id w
      → ((j : ℕ) (u : View) → j ≢ id → FitsView about log turn given j u → FitsView about log' turn' given' j u)
      → ((k : ℕ) → times k w.mine + once_below k (length log) ≡ times k v.mine + once_below k (length log'))
      → ((n : ℕ) → times n (numbers w) + once_below n given ≡ times n (numbers v) + once_below n given')
      → Good history origin about log' turn' given' (set views id w)
  changes history origin about log log' turn turn' given given' views id v w g at inside there few fits others places names = record {
    inside = inside;
    there = there;
    few = few;
    each = λ j u e. ⊎_elim (λ (t : (j ≡ id) × (w ≡ u)). subst (λ (z : ℕ × View). FitsView about log' turn' given' z.0 z.1) (λ i. (sym t.0 i, t.1 i)) fits) (λ (t : (j ≢ id) × (get_elem? views j ≡ some u)). others j u t.0 (g.each j u t.1)) (at_set views id j w u e);
    places = λ k. let s = total_set (λ (u : View). times k u.mine) views id v w at in let p = g.places k in let q = places k in omega arith;
    names = λ n. let s = total_set (λ (u : View). times n (numbers u)) views id v w at in let p = g.names n in let q = names n in omega arith;
  }

module _ {T : Type 0} (history : T → List Entry) (origin : T → Origin) (about : About) where
  abbrev pub words_at : List Entry → Turn T → ℕ → List ℕ
  words_at log turn given = length log ∷ word_of turn ∷ given ∷ []

  -- a step on the word i, from words and homes that are given as lists
  abbrev pub Goes : ℕ → Sat T → ℕ → (ℕ → ℕ) → (ℕ → Sat T → Type 0) → List ℕ → List (maybe.Option (Option T)) → List View → Type 0
  Goes id me i f then words homes views = (w : View) × (a : Act (Option T)) × Valid homes me.1 a
      × Kept history origin about record { words = set words i (f (get_or words i 0)); homes = homes_after homes me.1 a; views = set views id w }
      × then (get_or words i 0) (w, carried_after me.1 a)

  pub allows : (slots id : ℕ) (me : Sat T) (i : ℕ) (f : ℕ → ℕ) (then : ℕ → Sat T → Type 0)
      → ((log : List Entry) (turn : Turn T) (given : ℕ) (views : List View) → Good history origin about log turn given views → get_elem? views id ≡ some me.0 → Goes id me i f then (words_at log turn given) (slot_of turn ∷ []) views)
      → Allows (Kept history origin about) slots id me i f then
  allows slots id me i f then go s k deep at small =
      let Q : List ℕ × List (maybe.Option (Option T)) → Type 0 = λ z. Goes id me i f then z.0 z.1 s.views in
      subst Q (λ t. (sym k.words t, sym k.homes t)) (go k.log k.turn k.given s.views k.good at)

  -- the same where the seat has the turn and the value
  pub allows_out : (slots id : ℕ) (v : View) (carried : List (ℕ × Option T)) (opens : Bool) (i : ℕ) (f : ℕ → ℕ) (then : ℕ → Sat T → Type 0) → v.has_turn ≡ true → v.loaded ≡ true → v.opens ≡ opens
      → ((n given : ℕ) (views : List View) → Good history origin about v.seen (out opens id n) given views → get_elem? views id ≡ some v → v.number ≡ Some n → Goes id (v, carried) i f then (length v.seen ∷ (n + 1) ∷ given ∷ []) (slot_out opens ∷ []) views)
      → Allows (Kept history origin about) slots id (v, carried) i f then
  allows_out slots id v carried opens i f then has loaded is_open go = allows slots id (v, carried) i f then
      (λ log turn given views.
      let P : Turn T → Type 0 = λ t. Good history origin about log t given views → get_elem? views id ≡ some v → Goes id (v, carried) i f then (words_at log t given) (slot_of t ∷ []) views in
      let go' : (t : Turn T) → P t = elim [
        | free x ↦ (λ g at. absurd (is_not v.has_turn has (g.each id v at).turns.0))
        | taken id' n x ↦ (λ g at. absurd (dite (ℕ_discrete id id') (λ e. is_not v.loaded loaded ((g.each id v at).turns.0 e).1) (λ ne. is_not v.has_turn has ((g.each id v at).turns.1 ne).0)))
        | out opens' id' n ↦ (λ g at. dite (ℕ_discrete id id')
            (λ e. let w = (g.each id v at).turns.0 e in
            let R : (List Entry × Bool) × ℕ → Type 0 = λ z. Good history origin about z.0.0 (out z.0.1 z.1 n) given views → Goes id (v, carried) i f then (length z.0.0 ∷ (n + 1) ∷ given ∷ []) (slot_out z.0.1 ∷ []) views in
            subst R (λ t. ((w.4 t, (sym is_open ∙ w.2) t), e t)) (λ g'. go n given views g' at w.3) g)
            (λ ne. absurd (is_not v.has_turn has ((g.each id v at).turns.1 ne).0)))
      ] in go' turn)

  -- the same where it has the turn and the value is still in the slot
  pub allows_taken : (slots id : ℕ) (v : View) (carried : List (ℕ × Option T)) (i : ℕ) (f : ℕ → ℕ) (then : ℕ → Sat T → Type 0) → v.has_turn ≡ true → v.loaded ≡ false
      → ((log : List Entry) (x : T) (n given : ℕ) (views : List View) → Good history origin about log (taken id n x) given views → get_elem? views id ≡ some v → Waits n v → Goes id (v, carried) i f then (length log ∷ (n + 1) ∷ given ∷ []) (some (Some x) ∷ []) views)
      → Allows (Kept history origin about) slots id (v, carried) i f then
  allows_taken slots id v carried i f then has fresh go = allows slots id (v, carried) i f then
      (λ log turn given views.
      let P : Turn T → Type 0 = λ t. Good history origin about log t given views → get_elem? views id ≡ some v → Goes id (v, carried) i f then (words_at log t given) (slot_of t ∷ []) views in
      let go' : (t : Turn T) → P t = elim [
        | free x ↦ (λ g at. absurd (is_not v.has_turn has (g.each id v at).turns.0))
        | taken id' n x ↦ (λ g at. dite (ℕ_discrete id id')
            (λ e. let w = (g.each id v at).turns.0 e in
            let R : ℕ → Type 0 = λ z. Good history origin about log (taken z n x) given views → Goes id (v, carried) i f then (length log ∷ (n + 1) ∷ given ∷ []) (some (Some x) ∷ []) views in
            subst R e (λ g'. go log x n given views g' at w) g)
            (λ ne. absurd (is_not v.has_turn has ((g.each id v at).turns.1 ne).0)))
        | out opens' id' n ↦ (λ g at. absurd (dite (ℕ_discrete id id') (λ e. is_not v.loaded ((g.each id v at).turns.0 e).1 fresh) (λ ne. is_not v.has_turn has ((g.each id v at).turns.1 ne).0)))
      ] in go' turn)
