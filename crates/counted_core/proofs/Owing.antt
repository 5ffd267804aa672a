-- Counts with debts: what a name less, an object less and a change do to them.
use Rattle.std.proofs.Common.{◌≡◌, ℕ, ◌+◌, ◌-◌, ◌<◌, ◌≤◌, Bool, true, false, cond, ◌&&◌, ◌||◌, ◌==◌, List, [], ◌∷◌, not, Some, None, refl, sym, ◌∙◌, ap, subst, arith, tests}
use Rattle.std.specs.List.{fold, cons_option}
use Rattle.std.specs.Option.{option_map_or, option_and_then}
use Rattle.std.proofs.lemmas.List.Sums.{sum_by-cons}
use Rattle.kernel_values.specs.declared.state.Body.{Body}
use Rattle.kernel_values.specs.declared.state.Object.{Object}
use Rattle.kernel_types.specs.Names.{named_in}
use Rattle.kernel_types.specs.Objects.{is_there}
use Rattle.object_store.specs.Stock.{Held, IsSoundFrom, held_at, last_at, last_named, names_at, one_fewer, one_less, unnamed}
use Rattle.count_laws.specs.Dropping.{others}
use Rattle.counted_core.specs.Held.{IsOwed, object_of_held, objects_of, tally, times}

names_first : (h : Held Body) (rest : List (Held Body)) (o : ℕ) → names_at (h ∷ rest) o ≡ cond (h.serial == o) h.names (names_at rest o)
names_first h rest o = elim (h.serial == o) as (λ b. option_map_or (λ (k : Held Body). k.names) (cond b (Some h) (held_at rest o)) 0 ≡ cond b h.names (names_at rest o)) [ true ↦ refl | false ↦ refl ]

times_first : (x : ℕ) (xs : List ℕ) (o : ℕ) → times (x ∷ xs) o ≡ cond (x == o) 1 0 + times xs o
times_first x xs o = sum_by-cons (λ y. cond (y == o) 1 0) x xs

-- what is not there has no names
pub absent_names : (items : List (Held Body)) (o : ℕ) → is_there (objects_of items) o ≡ false → names_at items o ≡ 0
absent_names [] o is = refl
absent_names (h ∷ rest) o is =
    let P : Bool → Type 0 = λ b. (b || is_there (objects_of rest) o) ≡ false → cond b h.names (names_at rest o) ≡ 0 in
    let go : (b : Bool) → P b = λ b. elim b as (λ v. P v) [ true ↦ (λ e. absurd (cc)) | false ↦ (λ e. absent_names rest o e) ] in
    names_first h rest o ∙ go (h.serial == o) is

-- below the first number nothing is there
pub below_absent : (low next : ℕ) (items : List (Held Body)) (o : ℕ) → IsSoundFrom low items next → o < low → is_there (objects_of items) o ≡ false
below_absent low next [] o sound is = refl
below_absent low next (h ∷ rest) o sound is =
    let at : low ≤ h.serial = sound.0 in
    let other : (h.serial == o) ≡ false = grind (arith, tests) in
    let more : is_there (objects_of rest) o ≡ false = below_absent (h.serial + 1) next rest o sound.3 (omega arith) in
    ap (λ b. b || is_there (objects_of rest) o) other ∙ more

absent_unnamed : (items : List (Held Body)) (s : ℕ) → is_there (objects_of items) s ≡ false → unnamed items s ≡ items
absent_unnamed [] s is = refl
absent_unnamed (h ∷ rest) s is =
    let P : Bool → Type 0 = λ b. (h.serial == s) ≡ b → (b || is_there (objects_of rest) s) ≡ false → cons_option (cond b (one_less h) (Some h)) (unnamed rest s) ≡ h ∷ rest in
    let go : (b : Bool) → P b = λ b. elim b as (λ v. P v) [ true ↦ (λ k e. absurd (cc)) | false ↦ (λ k e. ap (λ l. h ∷ l) (absent_unnamed rest s e)) ] in
    go (h.serial == s) refl is

pub lower : (low high next : ℕ) (items : List (Held Body)) → IsSoundFrom high items next → low ≤ high → IsSoundFrom low items next
lower low high next [] sound le = tt
lower low high next (h ∷ rest) sound le = let at : high ≤ h.serial = sound.0 in let less : low ≤ h.serial = omega (arith, at, le) in (less, sound.1, sound.2, sound.3)

-- One name less, where it was not the last.

record Lessened (low next s : ℕ) (items less : List (Held Body)) : Type 0 where
  sound : IsSoundFrom low less next
  same : objects_of less ≡ objects_of items
  names : (o : ℕ) → names_at less o + cond (s == o) 1 0 ≡ names_at items o

unname_one : (low next s : ℕ) (items : List (Held Body)) → IsSoundFrom low items next → 2 ≤ names_at items s → Lessened low next s items (unnamed items s)
unname_one low next s [] sound many = absurd (omega (arith, many))
unname_one low next s (h ∷ rest) sound many =
    let first : 2 ≤ cond (h.serial == s) h.names (names_at rest s) = subst (λ k. 2 ≤ k) (names_first h rest s) many in
    let P : Bool → Type 0 = λ b. (h.serial == s) ≡ b → 2 ≤ cond b h.names (names_at rest s) → Lessened low next s (h ∷ rest) (cons_option (cond b (one_less h) (Some h)) (unnamed rest s)) in
    let here : P true = λ is two.
    let eq : h.serial ≡ s = grind (arith, tests) in
    let at : low ≤ h.serial = sound.0 in
    let gone : is_there (objects_of rest) s ≡ false = below_absent (h.serial + 1) next rest s sound.3 (omega arith) in
    let one : (h.names == 1) ≡ false = grind (arith, tests) in
    let form : one_fewer h ∷ rest ≡ cons_option (one_less h) (unnamed rest s) =
    ap (λ l. one_fewer h ∷ l) (sym (absent_unnamed rest s gone)) ∙ sym (ap (λ (b : Bool). cons_option (cond b None (Some (one_fewer h))) (unnamed rest s)) one) in
    let few : 1 ≤ h.names - 1 = omega (arith, two) in
    let names : (o : ℕ) → names_at (one_fewer h ∷ rest) o + cond (s == o) 1 0 ≡ names_at (h ∷ rest) o = λ o.
    let none : (s == o) ≡ true → names_at rest o ≡ 0 = λ e. let same : s ≡ o = grind (arith, tests) in subst (λ k. names_at rest k ≡ 0) same (absent_names rest s gone) in
    let test : (h.serial == o) ≡ (s == o) = ap (λ k. k == o) eq in
    let Q : Bool → Type 0 = λ b. cond b (h.names - 1) (names_at rest o) + cond b 1 0 ≡ cond b h.names (names_at rest o) in
    let run : (b : Bool) → Q b = λ b. elim b as (λ v. Q v) [ true ↦ omega (arith, two) | false ↦ omega arith ] in
    ap (λ k. k + cond (s == o) 1 0) (names_first (one_fewer h) rest o)
    ∙ (ap (λ (b : Bool). cond b (h.names - 1) (names_at rest o) + cond (s == o) 1 0) test ∙ (run (s == o) ∙ (sym (ap (λ (b : Bool). cond b h.names (names_at rest o)) test) ∙ sym (names_first h rest o)))) in
    subst (λ (l : List (Held Body)). Lessened low next s (h ∷ rest) l) form (record { sound = (sound.0, sound.1, few, sound.3); same = refl; names = names }) in
    let later : P false = λ is two.
    let more : Lessened (h.serial + 1) next s rest (unnamed rest s) = unname_one (h.serial + 1) next s rest sound.3 two in
    record {
      sound = (sound.0, sound.1, sound.2, more.sound);
      same = ap (λ l. object_of_held h ∷ l) more.same;
      names = λ o.
          let other : (h.serial == o) ≡ true → (s == o) ≡ false = λ e. grind (arith, tests) in
          let Q : Bool → Type 0 = λ b. (h.serial == o) ≡ b → cond b h.names (names_at (unnamed rest s) o) + cond (s == o) 1 0 ≡ cond b h.names (names_at rest o) in
          let run : (b : Bool) → Q b = λ b. elim b as (λ v. Q v) [
            | true ↦ (λ e. ap (λ (b : Bool). h.names + cond b 1 0) (other e) ∙ omega arith)
            | false ↦ (λ e. more.names o)
          ] in
          ap (λ k. k + cond (s == o) 1 0) (names_first h (unnamed rest s) o) ∙ (run (h.serial == o) refl ∙ sym (names_first h rest o));
    } in
    let go : (b : Bool) → P b = λ b. elim b as (λ v. P v) [ true ↦ here | false ↦ later ] in
    go (h.serial == s) refl first

-- All debts are settled: no object goes.

pub record Settled (roots : ℕ → ℕ) (next : ℕ) (items less : List (Held Body)) : Type 0 where
  pub sound : IsSoundFrom 0 less next
  pub same : objects_of less ≡ objects_of items
  pub owed : IsOwed roots less []

pub settles : (roots : ℕ → ℕ) (next : ℕ) (debts : List ℕ) (items : List (Held Body)) → IsSoundFrom 0 items next → IsOwed roots items debts
    → Settled roots next items (fold unnamed items debts)
settles roots next [] items sound owed = record { sound = sound; same = refl; owed = owed }
settles roots next (d ∷ debts) items sound owed =
    let here : (d == d) ≡ true = grind (arith, tests) in
    let is : names_at items d ≡ roots d + tally (objects_of items) d + times (d ∷ debts) d + cond (is_there (objects_of items) d) 1 0 = owed.counts d in
    let one : times (d ∷ debts) d ≡ 1 + times debts d = times_first d debts d ∙ ap (λ (b : Bool). cond b 1 0 + times debts d) here in
    let P : Bool → Type 0 = λ b. is_there (objects_of items) d ≡ b → names_at items d ≡ roots d + tally (objects_of items) d + times (d ∷ debts) d + cond b 1 0 → 2 ≤ names_at items d in
    let go : (b : Bool) → P b = λ b. elim b as (λ v. P v) [
      | true ↦ (λ e f. omega (arith, f, one))
      | false ↦ (λ e f. let none : names_at items d ≡ 0 = absent_names items d e in absurd (omega (arith, f, one, none)))
    ] in
    let less : Lessened 0 next d items (unnamed items d) = unname_one 0 next d items sound (go (is_there (objects_of items) d) refl is) in
    let owes : IsOwed roots (unnamed items d) debts = record {
      counts = λ o.
          let was : names_at items o ≡ roots o + tally (objects_of items) o + times (d ∷ debts) o + cond (is_there (objects_of items) o) 1 0 = owed.counts o in
          let more : times (d ∷ debts) o ≡ cond (d == o) 1 0 + times debts o = times_first d debts o in
          let names : names_at (unnamed items d) o + cond (d == o) 1 0 ≡ names_at items o = less.names o in
          subst (λ (l : List Object). names_at (unnamed items d) o ≡ roots o + tally l o + times debts o + cond (is_there l o) 1 0) (sym less.same)
          (omega (arith, was, more, names));
    } in
    let rest : Settled roots next (unnamed items d) (fold unnamed (unnamed items d) debts) = settles roots next debts (unnamed items d) less.sound owes in
    record { sound = rest.sound; same = rest.same ∙ less.same; owed = rest.owed }

-- An object goes whose count is 1: what it named is owed.

pub record Taken (low next x : ℕ) (items left : List (Held Body)) (b : Body) : Type 0 where
  pub sound : IsSoundFrom low left next
  pub same : objects_of left ≡ others x (objects_of items)
  pub names : (o : ℕ) → names_at left o ≡ cond (x == o) 0 (names_at items o)
  pub less : (o : ℕ) → tally (objects_of items) o ≡ tally (objects_of left) o + times (named_in b) o
  pub there : (o : ℕ) → is_there (objects_of left) o ≡ (not (x == o) && is_there (objects_of items) o)

others_absent : (items : List (Held Body)) (x : ℕ) → is_there (objects_of items) x ≡ false → others x (objects_of items) ≡ objects_of items
others_absent [] x is = refl
others_absent (h ∷ rest) x is =
    let P : Bool → Type 0 = λ b. (b || is_there (objects_of rest) x) ≡ false → cond (not b) (object_of_held h ∷ others x (objects_of rest)) (others x (objects_of rest)) ≡ object_of_held h ∷ objects_of rest in
    let go : (b : Bool) → P b = λ b. elim b as (λ v. P v) [ true ↦ (λ e. absurd (cc)) | false ↦ (λ e. ap (λ l. object_of_held h ∷ l) (others_absent rest x e)) ] in
    go (h.serial == x) is

pub takes : (low next x : ℕ) (items : List (Held Body)) (b : Body) → IsSoundFrom low items next → last_at items x ≡ Some b → Taken low next x items (unnamed items x) b
takes low next x [] b sound is = absurd (cc)
takes low next x (h ∷ rest) b sound is =
    let P : Bool → Type 0 = λ t. (h.serial == x) ≡ t → option_and_then last_named (cond t (Some h) (held_at rest x)) ≡ Some b
    → Taken low next x (h ∷ rest) (cons_option (cond t (one_less h) (Some h)) (unnamed rest x)) b in
    let here : P true = λ e last.
    let eq : h.serial ≡ x = grind (arith, tests) in
    let at : low ≤ h.serial = sound.0 in
    let gone : is_there (objects_of rest) x ≡ false = below_absent (h.serial + 1) next rest x sound.3 (omega arith) in
    let Q : Bool → Type 0 = λ t. (h.names == 1) ≡ t → cond t (Some h.value) None ≡ Some b → Taken low next x (h ∷ rest) (cons_option (cond t None (Some (one_fewer h))) (unnamed rest x)) b in
    let only : Q true = λ one same.
    let value : h.value ≡ b = cc in
    let form : rest ≡ unnamed rest x = sym (absent_unnamed rest x gone) in
    let low2 : IsSoundFrom low rest next = lower low (h.serial + 1) next rest sound.3 (omega arith) in
    let test : (o : ℕ) → (h.serial == o) ≡ (x == o) = λ o. ap (λ k. k == o) eq in
    subst (λ (l : List (Held Body)). Taken low next x (h ∷ rest) l b) form (record {
      sound = low2;
      same = sym (ap (λ (t : Bool). cond (not t) (object_of_held h ∷ others x (objects_of rest)) (others x (objects_of rest))) e ∙ others_absent rest x gone);
      names = λ o.
          let none : (x == o) ≡ true → names_at rest o ≡ 0 = λ f. let same_o : x ≡ o = grind (arith, tests) in subst (λ k. names_at rest k ≡ 0) same_o (absent_names rest x gone) in
          let R : Bool → Type 0 = λ t. (x == o) ≡ t → names_at rest o ≡ cond t 0 (cond t h.names (names_at rest o)) in
          let run : (t : Bool) → R t = λ t. elim t as (λ v. R v) [ true ↦ (λ f. none f) | false ↦ (λ f. refl) ] in
          run (x == o) refl ∙ ap (λ k. cond (x == o) 0 k) (sym (names_first h rest o ∙ ap (λ (t : Bool). cond t h.names (names_at rest o)) (test o)));
      less = λ o. ap (λ (z : Body). times (named_in z) o + tally (objects_of rest) o) value ∙ omega arith;
      there = λ o.
          let none : (x == o) ≡ true → is_there (objects_of rest) o ≡ false = λ f. let same_o : x ≡ o = grind (arith, tests) in subst (λ k. is_there (objects_of rest) k ≡ false) same_o gone in
          let R : Bool → Type 0 = λ t. (x == o) ≡ t → is_there (objects_of rest) o ≡ (not t && (t || is_there (objects_of rest) o)) in
          let run : (t : Bool) → R t = λ t. elim t as (λ v. R v) [ true ↦ (λ f. none f) | false ↦ (λ f. refl) ] in
          run (x == o) refl ∙ ap (λ t. not (x == o) && (t || is_there (objects_of rest) o)) (sym (test o));
    }) in
    let go : (t : Bool) → Q t = λ t. elim t as (λ v. Q v) [ true ↦ only | false ↦ (λ one same. absurd (cc)) ] in
    go (h.names == 1) refl last in
    let later : P false = λ e last.
    let more : Taken (h.serial + 1) next x rest (unnamed rest x) b = takes (h.serial + 1) next x rest b sound.3 last in
    record {
      sound = (sound.0, sound.1, sound.2, more.sound);
      same = ap (λ l. object_of_held h ∷ l) more.same ∙ sym (ap (λ (t : Bool). cond (not t) (object_of_held h ∷ others x (objects_of rest)) (others x (objects_of rest))) e);
      names = λ o.
          let other : (h.serial == o) ≡ true → (x == o) ≡ false = λ f. grind (arith, tests) in
          let R : Bool → Type 0 = λ t. (h.serial == o) ≡ t → cond t h.names (names_at (unnamed rest x) o) ≡ cond (x == o) 0 (cond t h.names (names_at rest o)) in
          let run : (t : Bool) → R t = λ t. elim t as (λ v. R v) [
            | true ↦ (λ f. sym (ap (λ (t : Bool). cond t 0 h.names) (other f)))
            | false ↦ (λ f. more.names o)
          ] in
          names_first h (unnamed rest x) o ∙ (run (h.serial == o) refl ∙ ap (λ k. cond (x == o) 0 k) (sym (names_first h rest o)));
      less = λ o. let was : tally (objects_of rest) o ≡ tally (objects_of (unnamed rest x)) o + times (named_in b) o = more.less o in omega (arith, was);
      there = λ o.
          let other : (h.serial == o) ≡ true → (x == o) ≡ false = λ f. grind (arith, tests) in
          let R : Bool → Type 0 = λ t. (h.serial == o) ≡ t → (t || is_there (objects_of (unnamed rest x)) o) ≡ (not (x == o) && (t || is_there (objects_of rest) o)) in
          let run : (t : Bool) → R t = λ t. elim t as (λ v. R v) [
            | true ↦ (λ f. sym (ap (λ (t : Bool). not t && true) (other f)))
            | false ↦ (λ f. more.there o)
          ] in
          run (h.serial == o) refl;
    } in
    let go : (t : Bool) → P t = λ t. elim t as (λ v. P v) [ true ↦ here | false ↦ later ] in
    go (h.serial == x) refl is
