-- The steps of a seat that has the turn and the value.
use Rattle.std.proofs.Common.{◌≡◌, ℕ, suc, ◌+◌, ◌%◌, ◌^◌, ◌<◌, eqb, true, false, cond, List, [], ◌∷◌, ◌++◌, length, Option, Some, None, sym, refl, ap, ◌∙◌, subst, arith, length-append, get_or}
use mathlib.Core.Option.{none}
use mathlib.Core.List.{IsPrefix}
use Rattle.atomic_table.specs.Table.{keeps, takes, gives, step, Allows}
use Rattle.kernel_values.specs.declared.entry.Entry.{Entry}
use Rattle.kernel_values.specs.Origin.{Origin}
use Rattle.turnstile.specs.declared.view.View.{View}
use Rattle.turnstile.specs.Numbers.{times, once_below, Rises}
use Rattle.turnstile.specs.Views.{shut, opened, added, left}
use Rattle.turnstile.specs.Rule.{About, free, out, Kept}
use Rattle.turnstile.specs.Steps.{Sat, AddsOne, Shuts, Opens, Adds, Leaves}
use Rattle.turnstile.proofs.Begins.{same_begins, all_on}
use Rattle.turnstile.proofs.Sums.{once_more, times_append}
use Rattle.turnstile.proofs.Rising.{rises_more}
use Rattle.turnstile.proofs.Changes.{stays, changes, allows_out}
use Rattle.turnstile.proofs.Turning.{placed_at}

module _ {T : Type 0} where
  abbrev only : T → List (ℕ × Option T)
  only x = (0, Some x) ∷ []

  abbrev empty : List (ℕ × Option T)
  empty = (0, None) ∷ []

  held_is : (x y : T) → only x ≡ only y → x ≡ y
  held_is x y e = let same : ◌≡◌ {A = Option T} (Some x) (Some y) = ap (λ (l : List (ℕ × Option T)). (get_or l 0 (0, Some x)).1) e in cc

module _ {T : Type 0} (history : T → List Entry) (origin : T → Origin) (about : About) where
  abbrev Rule : Rattle.atomic_table.specs.Table.State (Option T) View → Type 0
  Rule = Kept history origin about

  shuts_at : (slots id : ℕ) (v : View) → v.has_turn ≡ true → v.loaded ≡ true → v.opens ≡ true → Allows Rule slots id (v, empty) 0 (λ n. n) (Shuts (step slots 0 0 0 none) (v, empty))
  shuts_at slots id v has loaded is_open = allows_out history origin about slots id v empty true 0 (λ n. n) (Shuts (step slots 0 0 0 none) (v, empty)) has loaded is_open
      (λ n given views g at num. let f = g.each id v at in (
        shut v,
        gives,
        tt,
        record {
          log = v.seen;
          turn = out false id n;
          given = given;
          words = refl;
          homes = refl;
          good = changes history origin about v.seen v.seen (out true id n) (out false id n) given given views id v (shut v) g at tt (shut v, placed_at views id v (shut v) at) g.few
              record { born = f.born; seen = f.seen; olds = f.olds; knows = f.knows; known = f.known; mine = f.mine; drawn = f.drawn; turns = ((λ _. (has, loaded, refl, num, refl)), λ ne. absurd (ne refl)); fresh = f.fresh }
              (λ j u ne o. stays about v.seen v.seen (out true id n) (out false id n) given given j u o (same_begins v.seen v.seen refl) (omega arith) ((λ e. absurd (ne e)), λ _. o.turns.1 ne)) (λ k. refl) (λ k. refl);
        },
        (refl, refl),
      ))

  opens_at : (slots id : ℕ) (v : View) → v.has_turn ≡ true → v.loaded ≡ true → v.opens ≡ false → Allows Rule slots id (v, []) 0 (λ n. n) (Opens (step slots 0 0 0 none) (v, []))
  opens_at slots id v has loaded is_shut = allows_out history origin about slots id v [] false 0 (λ n. n) (Opens (step slots 0 0 0 none) (v, [])) has loaded is_shut
      (λ n given views g at num. let f = g.each id v at in (
        opened v,
        takes 0 None,
        refl,
        record {
          log = v.seen;
          turn = out true id n;
          given = given;
          words = refl;
          homes = refl;
          good = changes history origin about v.seen v.seen (out false id n) (out true id n) given given views id v (opened v) g at tt (opened v, placed_at views id v (opened v) at) g.few
              record { born = f.born; seen = f.seen; olds = f.olds; knows = f.knows; known = f.known; mine = f.mine; drawn = f.drawn; turns = ((λ _. (has, loaded, refl, num, refl)), λ ne. absurd (ne refl)); fresh = f.fresh }
              (λ j u ne o. stays about v.seen v.seen (out false id n) (out true id n) given given j u o (same_begins v.seen v.seen refl) (omega arith) ((λ e. absurd (ne e)), λ _. o.turns.1 ne)) (λ k. refl) (λ k. refl);
        },
        (refl, refl),
      ))

  adds_at : (slots id : ℕ) (v : View) (x : T) → v.has_turn ≡ true → v.loaded ≡ true → v.opens ≡ true → AddsOne v.seen (history x) → length (history x) < 2 ^ 64
      → Allows Rule slots id (v, only x) 0 (λ n. (n + 1) % 2 ^ 64) (Adds history (step slots 0 1 0 none) (v, only x))
  adds_at slots id v x has loaded is_open one_more room = allows_out history origin about slots id v (only x) true 0 (λ n. (n + 1) % 2 ^ 64) (Adds history (step slots 0 1 0 none) (v, only x)) has loaded is_open
      (λ n given views g at num.
      let f = g.each id v at in let log = history x in let w = added v log in
      let len : length log ≡ suc (length v.seen) = ap (λ (l : List Entry). length l) one_more.1 ∙ (let a = length-append v.seen (one_more.0 ∷ []) in omega arith) in
      let on : IsPrefix v.seen log = (one_more.0 ∷ [], sym one_more.1) in (
        w,
        keeps,
        tt,
        record {
          log = log;
          turn = out true id n;
          given = given;
          words = ap (λ m. m ∷ (n + 1) ∷ given ∷ []) (omega arith);
          homes = refl;
          good = changes history origin about v.seen log (out true id n) (out true id n) given given views id v w g at tt (w, placed_at views id v w at) g.few
              record {
                born = f.born;
                seen = same_begins log log refl;
                olds = all_on v.olds v.seen log f.olds on;
                knows = omega arith;
                known = omega arith;
                mine = subst (λ m. Rises 0 m w.mine) (sym len) (rises_more 0 (length v.seen) v.mine (omega arith) f.mine);
                drawn = f.drawn;
                turns = ((λ _. (has, loaded, is_open, num, refl)), λ ne. absurd (ne refl));
                fresh = λ none'. absurd (Rattle.turnstile.proofs.Turning.not_none v.number n num none');
              }
              (λ j u ne o. stays about v.seen log (out true id n) (out true id n) given given j u o on (omega arith) ((λ e. absurd (ne e)), λ _. o.turns.1 ne))
              (λ k. let one : ℕ = cond (eqb (length v.seen) k) 1 0 in let a : times k (v.mine ++ length v.seen ∷ []) ≡ times k v.mine + (one + 0) = times_append k v.mine (length v.seen ∷ []) in
              let b : once_below k (length log) ≡ once_below k (length v.seen) + one = ap (once_below k) len ∙ once_more k (length v.seen) in
              let goal : times k (v.mine ++ length v.seen ∷ []) + once_below k (length v.seen) ≡ times k v.mine + once_below k (length log) = omega arith in goal)
              (λ k. refl);
        },
        (λ y e. (refl, ap (λ z. added v (history z)) (held_is x y e))),
      ))

  leaves_at : (slots id : ℕ) (v : View) (x : T) → v.has_turn ≡ true → v.loaded ≡ true → v.opens ≡ true → v.spent ≡ false → history x ≡ v.seen → origin x ≡ v.origin
      → Allows Rule slots id (v, only x) 1 (λ _. 0) (Leaves (step slots 1 0 0 none) (v, only x))
  leaves_at slots id v x has loaded is_open live same born = allows_out history origin about slots id v (only x) true 1 (λ _. 0) (Leaves (step slots 1 0 0 none) (v, only x)) has loaded is_open
      (λ n given views g at num. let f = g.each id v at in (
        left v,
        gives,
        tt,
        record {
          log = v.seen;
          turn = free x;
          given = given;
          words = refl;
          homes = refl;
          good = changes history origin about v.seen v.seen (out true id n) (free x) given given views id v (left v) g at (same, born ∙ (f.born live).0) tt g.few
              record { born = f.born; seen = f.seen; olds = f.olds; knows = f.knows; known = f.known; mine = f.mine; drawn = f.drawn; turns = (refl, refl, refl); fresh = λ none'. absurd (Rattle.turnstile.proofs.Turning.not_none v.number n num none') }
              (λ j u ne o. stays about v.seen v.seen (out true id n) (free x) given given j u o (same_begins v.seen v.seen refl) (omega arith) (o.turns.1 ne)) (λ k. refl) (λ k. refl);
        },
        (refl, refl),
      ))

  -- the same for a seat as it is found
  pub shuts : (slots id : ℕ) (m : Sat T) (v : View) → m ≡ (v, empty) → v.has_turn ≡ true → v.loaded ≡ true → v.opens ≡ true → Allows Rule slots id m 0 (λ n. n) (Shuts (step slots 0 0 0 none) m)
  shuts slots id m v is has loaded is_open = subst (λ (s : Sat T). Allows Rule slots id s 0 (λ n. n) (Shuts (step slots 0 0 0 none) s)) (sym is) (shuts_at slots id v has loaded is_open)

  pub opens : (slots id : ℕ) (m : Sat T) (v : View) → m ≡ (v, []) → v.has_turn ≡ true → v.loaded ≡ true → v.opens ≡ false → Allows Rule slots id m 0 (λ n. n) (Opens (step slots 0 0 0 none) m)
  opens slots id m v is has loaded is_shut = subst (λ (s : Sat T). Allows Rule slots id s 0 (λ n. n) (Opens (step slots 0 0 0 none) s)) (sym is) (opens_at slots id v has loaded is_shut)

  pub adds : (slots id : ℕ) (m : Sat T) (v : View) (x : T) → m ≡ (v, only x) → v.has_turn ≡ true → v.loaded ≡ true → v.opens ≡ true → AddsOne v.seen (history x) → length (history x) < 2 ^ 64
      → Allows Rule slots id m 0 (λ n. (n + 1) % 2 ^ 64) (Adds history (step slots 0 1 0 none) m)
  adds slots id m v x is has loaded is_open one_more room = subst (λ (s : Sat T). Allows Rule slots id s 0 (λ n. (n + 1) % 2 ^ 64) (Adds history (step slots 0 1 0 none) s)) (sym is) (adds_at slots id v x has loaded is_open one_more room)

  pub leaves : (slots id : ℕ) (m : Sat T) (v : View) (x : T) → m ≡ (v, only x) → v.has_turn ≡ true → v.loaded ≡ true → v.opens ≡ true → v.spent ≡ false → history x ≡ v.seen → origin x ≡ v.origin
      → Allows Rule slots id m 1 (λ _. 0) (Leaves (step slots 1 0 0 none) m)
  leaves slots id m v x is has loaded is_open live same born = subst (λ (s : Sat T). Allows Rule slots id s 1 (λ _. 0) (Leaves (step slots 1 0 0 none) s)) (sym is) (leaves_at slots id v x has loaded is_open live same born)
