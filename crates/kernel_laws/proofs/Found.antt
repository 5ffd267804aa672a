-- The object of a number, after each kind of change of the objects.
use Rattle.std.proofs.Common.{◌≡◌, ℕ, suc, ◌+◌, ◌==◌, Bool, true, false, cond, not, List, [], ◌∷◌, ◌++◌, map, Option, Some, None, refl, sym, ◌∙◌, ap, subst, arith, tests}
use Rattle.std.specs.List.{filter, find}
use Rattle.std.specs.Option.{option_map, option_or}
use Rattle.std.specs.Prelude.{slice_get}
use Rattle.std.proofs.lemmas.List.Folds.{find_at, find-append}
use Rattle.kernel_values.specs.declared.state.Object.{Object}
use Rattle.kernel_values.specs.declared.state.Body.{Body}
use Rattle.kernel_types.specs.Objects.{set_if, object_of, place_of, on_body, changed}

abbrev pub found : List Object → ℕ → Option Object
found objects e = find (λ object. object.id == e) objects

pub found_is : (objects : List Object) (e : ℕ) → object_of objects e ≡ found objects e
found_is objects e = sym (find_at (λ object. object.id == e) objects)

-- a change at a place, one object further
pub changed_cons : (f : Body → Body) (object : Object) (objects : List Object) (id : ℕ)
    → changed f (object ∷ objects) id ≡ cond (object.id == id) (on_body f object ∷ objects) (object ∷ changed f objects id)
changed_cons f object objects id =
    let n : ℕ = place_of objects id in
    let later : (next : ℕ) → next ≡ suc n → set_if (object ∷ objects) next (option_map (on_body f) (slice_get (object ∷ objects) next)) ≡ object ∷ changed f objects id =
    λ next is. subst (λ (k : ℕ). set_if (object ∷ objects) k (option_map (on_body f) (slice_get (object ∷ objects) k)) ≡ object ∷ changed f objects id) (sym is)
    (elim (option_map (on_body f) (slice_get objects n)) as (λ o. set_if (object ∷ objects) (suc n) o ≡ object ∷ set_if objects n o) [ None ↦ refl | Some x ↦ refl ]) in
    elim (object.id == id) as (λ b. set_if (object ∷ objects) (cond (not b) (1 + n) 0) (option_map (on_body f) (slice_get (object ∷ objects) (cond (not b) (1 + n) 0)))
    ≡ cond b (on_body f object ∷ objects) (object ∷ changed f objects id)) [ true ↦ refl | false ↦ later (1 + n) (omega arith) ]

-- three tests of numbers that agree
agree : (x id e : ℕ) (a b d : Bool) → (x == id) ≡ a → (x == e) ≡ b → (id == e) ≡ d → a ≡ true → b ≡ d
agree x id e a b d ha hb hd here =
    let same : x ≡ id = grind (arith, tests) in
    sym hb ∙ (ap (λ n. n == e) same ∙ hd)

differ : (x id e : ℕ) → (x == id) ≡ false → (x == e) ≡ true → (id == e) ≡ true → ⊥
differ x id e ha hb hd =
    let one : x ≡ e = grind (arith, tests) in
    let two : id ≡ e = grind (arith, tests) in
    let same : x ≡ id = one ∙ sym two in
    grind (arith, tests)

pub found_changed : (f : Body → Body) (objects : List Object) (id e : ℕ)
    → found (changed f objects id) e ≡ cond (id == e) (option_map (on_body f) (found objects e)) (found objects e)
found_changed f [] id e = let none : Option Object = None in elim (id == e) as (λ b. none ≡ cond b none none) [ true ↦ refl | false ↦ refl ]
found_changed f (object ∷ objects) id e =
    let os : List Object = changed f objects id in
    let first : Option Object = Some (on_body f object) in
    let P : Bool → Bool → Bool → Type 0 = λ a b d. (object.id == id) ≡ a → (object.id == e) ≡ b → (id == e) ≡ d
    → cond a (cond b first (found objects e)) (cond b (Some object) (found os e))
    ≡ cond d (option_map (on_body f) (cond b (Some object) (found objects e))) (cond b (Some object) (found objects e)) in
    let more : (d : Bool) → (id == e) ≡ d → found os e ≡ cond d (option_map (on_body f) (found objects e)) (found objects e) =
    λ d is. subst (λ (v : Bool). found os e ≡ cond v (option_map (on_body f) (found objects e)) (found objects e)) is (found_changed f objects id e) in
    let go : (a b d : Bool) → P a b d = λ a b d. elim a as (λ v. P v b d) [
      | true ↦ elim b as (λ v. P true v d) [
        | true ↦ elim d as (λ v. P true true v) [ true ↦ (λ ha hb hd. refl) | false ↦ (λ ha hb hd. let bad : true ≡ false = agree object.id id e true true false ha hb hd refl in absurd (cc)) ]
        | false ↦ elim d as (λ v. P true false v) [ true ↦ (λ ha hb hd. let bad : false ≡ true = agree object.id id e true false true ha hb hd refl in absurd (cc)) | false ↦ (λ ha hb hd. refl) ]
      ]
      | false ↦ elim b as (λ v. P false v d) [
        | true ↦ elim d as (λ v. P false true v) [ true ↦ (λ ha hb hd. absurd (differ object.id id e ha hb hd)) | false ↦ (λ ha hb hd. refl) ]
        | false ↦ (λ ha hb hd. more d hd)
      ]
    ] in
    let split : found (cond (object.id == id) (on_body f object ∷ objects) (object ∷ os)) e
    ≡ cond (object.id == id) (cond (object.id == e) first (found objects e)) (cond (object.id == e) (Some object) (found os e)) =
    elim (object.id == id) as (λ b. found (cond b (on_body f object ∷ objects) (object ∷ os)) e ≡ cond b (cond (object.id == e) first (found objects e)) (cond (object.id == e) (Some object) (found os e)))
    [ true ↦ refl | false ↦ refl ] in
    ap (λ l. found l e) (changed_cons f object objects id) ∙ (split ∙ go (object.id == id) (object.id == e) (id == e) refl refl refl)

-- a change of every object that keeps its number
pub found_map : (h : Object → Object) → ((object : Object) → (h object).id ≡ object.id) → (objects : List Object) (e : ℕ)
    → found (map h objects) e ≡ option_map h (found objects e)
found_map h keeps [] e = refl
found_map h keeps (object ∷ objects) e =
    let here : ((h object).id == e) ≡ (object.id == e) = ap (λ n. n == e) (keeps object) in
    ap (λ b. cond b (Some (h object)) (found (map h objects) e)) here
    ∙ (elim (object.id == e) as (λ b. cond b (Some (h object)) (found (map h objects) e) ≡ option_map h (cond b (Some object) (found objects e)))
    [ true ↦ refl | false ↦ found_map h keeps objects e ])

-- the objects whose numbers pass a test
pub found_filter : (p : ℕ → Bool) (objects : List Object) (e : ℕ)
    → found (filter (λ object. p object.id) objects) e ≡ cond (p e) (found objects e) None
found_filter p [] e = let none : Option Object = None in elim (p e) as (λ b. none ≡ cond b none none) [ true ↦ refl | false ↦ refl ]
found_filter p (object ∷ objects) e =
    let rest : List Object = filter (λ o. p o.id) objects in
    let P : Bool → Bool → Bool → Type 0 = λ a b d. p object.id ≡ a → (object.id == e) ≡ b → p e ≡ d
    → found (cond a (object ∷ rest) rest) e ≡ cond d (cond b (Some object) (found objects e)) None in
    let same : (object.id == e) ≡ true → p object.id ≡ p e = λ is. let eq : object.id ≡ e = grind (arith, tests) in ap p eq in
    let more : (d : Bool) → p e ≡ d → found rest e ≡ cond d (found objects e) None =
    λ d is. subst (λ (v : Bool). found rest e ≡ cond v (found objects e) None) is (found_filter p objects e) in
    let kept : (b d : Bool) → p object.id ≡ true → (object.id == e) ≡ b → p e ≡ d → cond b (Some object) (found rest e) ≡ cond d (cond b (Some object) (found objects e)) None =
    λ b d. elim b as (λ v. p object.id ≡ true → (object.id == e) ≡ v → p e ≡ d → cond v (Some object) (found rest e) ≡ cond d (cond v (Some object) (found objects e)) None) [
      | true ↦ (λ ha hb hd. let yes : d ≡ true = sym hd ∙ (sym (same hb) ∙ ha) in subst (λ (v : Bool). Some object ≡ cond v (Some object) None) (sym yes) refl)
      | false ↦ (λ ha hb hd. more d hd)
    ] in
    let lost : (b d : Bool) → p object.id ≡ false → (object.id == e) ≡ b → p e ≡ d → found rest e ≡ cond d (cond b (Some object) (found objects e)) None =
    λ b d. elim b as (λ v. p object.id ≡ false → (object.id == e) ≡ v → p e ≡ d → found rest e ≡ cond d (cond v (Some object) (found objects e)) None) [
      | true ↦ (λ ha hb hd. let no : d ≡ false = sym hd ∙ (sym (same hb) ∙ ha) in
          let none : found rest e ≡ cond d (found objects e) None = more d hd in
          subst (λ (v : Bool). found rest e ≡ cond v (Some object) None) (sym no) (none ∙ ap (λ v. cond v (found objects e) None) no))
      | false ↦ (λ ha hb hd. more d hd)
    ] in
    let first : (a : Bool) → p object.id ≡ a → found (cond a (object ∷ rest) rest) e ≡ cond (p e) (cond (object.id == e) (Some object) (found objects e)) None =
    λ a. elim a as (λ v. p object.id ≡ v → found (cond v (object ∷ rest) rest) e ≡ cond (p e) (cond (object.id == e) (Some object) (found objects e)) None) [
      | true ↦ (λ ha. elim (object.id == e) as (λ b. cond b (Some object) (found rest e) ≡ cond b (Some object) (found rest e)) [ true ↦ refl | false ↦ refl ] ∙ kept (object.id == e) (p e) ha refl refl)
      | false ↦ (λ ha. lost (object.id == e) (p e) ha refl refl)
    ] in
    first (p object.id) refl

pub found_append : (xs ys : List Object) (e : ℕ) → found (xs ++ ys) e ≡ option_or (found xs e) (found ys e)
found_append xs ys e = find-append (λ object. object.id == e) xs ys
