-- The names of distinct objects are no more than all names.
use Rattle.std.proofs.Common.{◌≡◌, ◌≤◌, ◌<◌, ℕ, ◌+◌, ◌==◌, Bool, true, false, cond, not, List, [], ◌∷◌, length, refl, ap, ◌∙◌, arith, tests}
use Rattle.std.specs.List.{filter, sum_by}
use Rattle.std.proofs.lemmas.List.Filters.{length-filter_both}
use Rattle.std.proofs.lemmas.List.Sums.{length-filter, sum_by-cons}
use Rattle.kernel_values.specs.declared.state.Object.{Object}
use Rattle.kernel_types.specs.Names.{Name, names_of}
use Rattle.kernel_laws.specs.Numbers.{RisesFrom}
use Rattle.plain_objects.specs.Predicates.{names_on}

-- the names of other objects
abbrev others : ℕ → List Name → List Name
others id names = filter (λ name. not (name.object == id)) names

abbrev one_if : Bool → ℕ
one_if b = cond b 1 0

counted : (name : Name) (id : ℕ) (names : List Name) → names_of (name ∷ names) id ≡ one_if (name.object == id) + names_of names id
counted name id names = sum_by-cons (λ (n : Name). one_if (n.object == id)) name names

apart : (id : ℕ) (names : List Name) → names_of names id + length (others id names) ≡ length names
apart id names =
    omega (
      arith,
      length-filter (λ (name : Name). name.object == id) names,
      length-filter_both (λ (name : Name). name.object == id) (λ (name : Name). not (name.object == id)) (λ name. refl) names,
    )

one_elsewhere : (id other : ℕ) (name : Name) (n m : List Name) → (id == other) ≡ false → names_of n other ≡ names_of m other
    → names_of (cond (not (name.object == id)) (name ∷ n) n) other ≡ names_of (name ∷ m) other
one_elsewhere id other name n m differ same =
    let Q : Bool → Type 0 = λ b. (name.object == id) ≡ b → names_of (cond (not b) (name ∷ n) n) other ≡ names_of (name ∷ m) other in
    let gone : Q true = λ is.
    let one : name.object ≡ id = grind (arith, tests) in
    let no : (name.object == other) ≡ false = ap (λ x. x == other) one ∙ differ in
    let less : names_of n other ≡ names_of (name ∷ m) other = omega (arith, same, ap one_if no, counted name other m) in
    less in
    let both : names_of (name ∷ n) other ≡ names_of (name ∷ m) other = omega (arith, same, counted name other n, counted name other m) in
    let go : (b : Bool) → Q b = λ b. elim b as (λ v. Q v) [ true ↦ gone | false ↦ (λ is. both) ] in
    go (name.object == id) refl

elsewhere : (id other : ℕ) (names : List Name) → (id == other) ≡ false → names_of (others id names) other ≡ names_of names other
elsewhere id other [] differ = refl
elsewhere id other (name ∷ names) differ = one_elsewhere id other name (others id names) names differ (elsewhere id other names differ)

summed : (names : List Name) (object : Object) (objects : List Object) → sum_by (names_on names) (object ∷ objects) ≡ names_of names object.id + sum_by (names_on names) objects
unfolding names_on
summed names object objects = sum_by-cons (names_on names) object objects

all_elsewhere : (id low high : ℕ) (objects : List Object) (names : List Name) → id < low → RisesFrom low objects high
    → sum_by (names_on (others id names)) objects ≡ sum_by (names_on names) objects
unfolding names_on
all_elsewhere id low high [] names below rises = refl
all_elsewhere id low high (object ∷ objects) names below rises =
    let differ : (id == object.id) ≡ false = let apart : id < object.id = omega (arith, below, rises.0) in grind (arith, tests) in
    omega (
      arith,
      summed names object objects,
      summed (others id names) object objects,
      elsewhere id object.id names differ,
      all_elsewhere id (object.id + 1) high objects names (omega (arith, below, rises.0)) rises.1,
    )

pub sum_fits : (low high : ℕ) (objects : List Object) (names : List Name) → RisesFrom low objects high → sum_by (names_on names) objects ≤ length names
unfolding names_on
sum_fits low high [] names rises = omega arith
sum_fits low high (object ∷ objects) names rises =
    omega (
      arith,
      summed names object objects,
      apart object.id names,
      all_elsewhere object.id (object.id + 1) high objects names (omega arith) rises.1,
      sum_fits (object.id + 1) high objects (others object.id names) rises.1,
    )
