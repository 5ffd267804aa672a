-- What the rounds mark is what is reached.
use Rattle.std.proofs.Common.{◌≡◌, ℕ, zero, suc, ◌+◌, ◌<◌, ◌≤◌, Bool, true, false, cond, ◌&&◌, ◌||◌, ◌==◌, ◌⊎◌, inl, inr, List, [], ◌∷◌, length, map, Option, Some, None, refl, sym, ◌∙◌, ap, subst, arith, ◌↔◌, tests}
use Rattle.std.specs.List.{filter, list_any}
use Rattle.kernel_types.specs.Names.{Name, root, held_by}
use Rattle.kernel_types.specs.Reach.{Among, Reached, is_in, is_marked_holder, spread, rounds, is_held, reached_by}
use Rattle.kernel_types.specs.Reach.Reached.{by_root, by_holder}

-- an entry that spreads the marks to this object
abbrev spreads_to : List ℕ → ℕ → Name → Bool
spreads_to marked object name = is_marked_holder marked name.holder && (name.object == object)

is_in-spread : (entries : List Name) (marked : List ℕ) (object : ℕ) → is_in (spread entries marked) object ≡ list_any (spreads_to marked object) entries
is_in-spread [] marked object = refl
is_in-spread (name ∷ entries) marked object =
    let rest : List Name = filter (λ n. is_marked_holder marked n.holder) entries in
    let more : is_in (map (λ n. n.object) rest) object ≡ list_any (spreads_to marked object) entries = is_in-spread entries marked object in
    elim (is_marked_holder marked name.holder) as (λ b. is_in (map (λ n. n.object) (cond b (name ∷ rest) rest)) object ≡ ((b && (name.object == object)) || list_any (spreads_to marked object) entries)) [
      | true ↦ ap (λ b. (name.object == object) || b) more
      | false ↦ more
    ]

-- what a test finds
found : (test : Name → Bool) (entries : List Name) → list_any test entries ≡ true → (name : Name) × Among name entries × (test name ≡ true)
found test [] h = absurd (cc)
found test (name ∷ entries) h =
    let P : Bool → Type 0 = λ b. test name ≡ b → (b || list_any test entries) ≡ true → (found : Name) × Among found (name ∷ entries) × (test found ≡ true) in
    let go : (b : Bool) → P b = λ b. elim b as (λ v. P v) [
      | true ↦ (λ e k. (name, inl refl, e))
      | false ↦ (λ e k. let more : (found : Name) × Among found entries × (test found ≡ true) = found test entries k in (more.0, inr more.1, more.2))
    ]
    in go (test name) refl h

finds : (test : Name → Bool) (entries : List Name) (name : Name) → Among name entries → test name ≡ true → list_any test entries ≡ true
finds test [] name h e = absurd h
finds test (other ∷ entries) name (inl same) e =
    let P : Name → Type 0 = λ n. test n ≡ true in
    let here : test other ≡ true = subst P (sym same) e in
    rw here refl
finds test (other ∷ entries) name (inr more) e =
    let rest : list_any test entries ≡ true = finds test entries name more e in
    elim (test other) as (λ b. (b || list_any test entries) ≡ true) [ true ↦ refl | false ↦ rest ]

-- each mark of a round is reached

sound_name : (entries : List Name) (marked : List ℕ) (object : ℕ) → ((holder : ℕ) → is_in marked holder ≡ true → Reached entries holder)
    → (holder : Option ℕ) (named : ℕ) → Among (record { holder = holder; object = named }) entries → (is_marked_holder marked holder && (named == object)) ≡ true → Reached entries object
sound_name entries marked object known None named among h =
    let same : named ≡ object = grind (arith, tests) in
    let P : ℕ → Type 0 = λ n. Reached entries n in
    subst P same (by_root named among)
sound_name entries marked object known (Some holder) named among h =
    let both : (is_in marked holder ≡ true) × (named ≡ object) = grind (arith, tests) in
    let P : ℕ → Type 0 = λ n. Reached entries n in
    subst P both.1 (by_holder holder named (known holder both.0) among)

sound : (n : ℕ) (entries : List Name) (object : ℕ) → is_in (rounds n entries) object ≡ true → Reached entries object
sound zero entries object h = absurd (cc)
sound (suc n) entries object h =
    let some : (name : Name) × Among name entries × (spreads_to (rounds n entries) object name ≡ true) =
    found (spreads_to (rounds n entries) object) entries (sym (is_in-spread entries (rounds n entries) object) ∙ h) in
    sound_name entries (rounds n entries) object (sound n entries) some.0.holder some.0.object some.1 some.2

-- more marks spread to more

Grows : List ℕ → List ℕ → Type 0
Grows marked more = (object : ℕ) → is_in marked object ≡ true → is_in more object ≡ true

grown_holder : (marked more : List ℕ) → ((object : ℕ) → is_in marked object ≡ true → is_in more object ≡ true)
    → (holder : Option ℕ) (test : Bool) → (is_marked_holder marked holder && test) ≡ true → (is_marked_holder more holder && test) ≡ true
grown_holder marked more grows None test h = h
grown_holder marked more grows (Some holder) test h =
    let both : (is_in marked holder ≡ true) × (test ≡ true) = grind (arith, tests) in
    rw (grows holder both.0, both.1) refl

spread_grows : (entries : List Name) (marked more : List ℕ) → ((object : ℕ) → is_in marked object ≡ true → is_in more object ≡ true)
    → (object : ℕ) → is_in (spread entries marked) object ≡ true → is_in (spread entries more) object ≡ true
spread_grows entries marked more grows object h =
    let some : (name : Name) × Among name entries × (spreads_to marked object name ≡ true) =
    found (spreads_to marked object) entries (sym (is_in-spread entries marked object) ∙ h) in
    is_in-spread entries more object
    ∙ finds (spreads_to more object) entries some.0 some.1 (grown_holder marked more grows some.0.holder (some.0.object == object) some.2)

rounds_grow : (n : ℕ) (entries : List Name) (object : ℕ) → is_in (rounds n entries) object ≡ true → is_in (rounds (suc n) entries) object ≡ true
rounds_grow zero entries object h = absurd (cc)
rounds_grow (suc n) entries object h = spread_grows entries (rounds n entries) (rounds (suc n) entries) (rounds_grow n entries) object h

-- how many held entries have a marked holder

abbrev one_for : List ℕ → Option ℕ → ℕ
one_for marked None = 0
one_for marked (Some holder) = cond (is_in marked holder) 1 0

abbrev held_marks : List ℕ → List Name → ℕ
held_marks marked [] = 0
held_marks marked (name ∷ entries) = one_for marked name.holder + held_marks marked entries

none_marked : (holder : Option ℕ) → one_for [] holder ≡ 0
none_marked None = refl
none_marked (Some holder) = refl

one_grows : (marked more : List ℕ) → ((object : ℕ) → is_in marked object ≡ true → is_in more object ≡ true) → (holder : Option ℕ) → one_for marked holder ≤ one_for more holder
one_grows marked more grows None = omega arith
one_grows marked more grows (Some holder) =
    let P : Bool → Type 0 = λ b. is_in marked holder ≡ b → cond b 1 0 ≤ cond (is_in more holder) 1 0 in
    let go : (b : Bool) → P b = λ b. elim b as (λ v. P v) [ true ↦ (λ e. rw (grows holder e) (omega arith)) | false ↦ (λ e. omega arith) ] in
    go (is_in marked holder) refl

marks_grow : (marked more : List ℕ) → ((object : ℕ) → is_in marked object ≡ true → is_in more object ≡ true) → (entries : List Name) → held_marks marked entries ≤ held_marks more entries
marks_grow marked more grows [] = omega arith
marks_grow marked more grows (name ∷ entries) = omega (arith, one_grows marked more grows name.holder, marks_grow marked more grows entries)

one_few : (marked : List ℕ) (name : Name) (rest : List Name) (holder : Option ℕ) → name.holder ≡ holder → one_for marked holder + length rest ≤ length (cond (is_held (record { holder = holder; object = name.object })) (name ∷ rest) rest)
one_few marked name rest None e = omega arith
one_few marked name rest (Some holder) e = elim (is_in marked holder) as (λ b. cond b 1 0 + length rest ≤ length (name ∷ rest)) [ true ↦ grind arith | false ↦ grind arith ]

marks_few : (marked : List ℕ) (entries : List Name) → held_marks marked entries ≤ length (filter is_held entries)
marks_few marked [] = omega arith
marks_few marked (name ∷ entries) = omega (arith, one_few marked name (filter is_held entries) name.holder refl, marks_few marked entries)

-- where as many holders are marked, the same spreads

same_cons : (marked more : List ℕ) (name : Name) (rest other : List Name) (a b : ℕ) (holder : Option ℕ) → ((object : ℕ) → is_in marked object ≡ true → is_in more object ≡ true)
    → a ≤ b → one_for marked holder + a ≡ one_for more holder + b → (a ≡ b → map (λ n. n.object) rest ≡ map (λ n. n.object) other)
    → map (λ n. n.object) (cond (is_marked_holder marked holder) (name ∷ rest) rest) ≡ map (λ n. n.object) (cond (is_marked_holder more holder) (name ∷ other) other)
same_cons marked more name rest other a b None grows le e same = ap (λ os. name.object ∷ os) (same (omega arith))
same_cons marked more name rest other a b (Some holder) grows le e same =
    let P : Bool → Bool → Type 0 = λ m n. is_in marked holder ≡ m → is_in more holder ≡ n → cond m 1 0 + a ≡ cond n 1 0 + b
    → map (λ n. n.object) (cond m (name ∷ rest) rest) ≡ map (λ n. n.object) (cond n (name ∷ other) other) in
    let go : (m n : Bool) → P m n = λ m n. elim m as (λ v. P v n) [
      | true ↦ elim n as (λ w. P true w) [
        | true ↦ (λ h k f. ap (λ os. name.object ∷ os) (same (omega arith)))
        | false ↦ (λ h k f. let bad : is_in more holder ≡ true = grows holder h in absurd (cc))
      ]
      | false ↦ elim n as (λ w. P false w) [
        | true ↦ (λ h k f. absurd (omega arith))
        | false ↦ (λ h k f. same (omega arith))
      ]
    ]
    in go (is_in marked holder) (is_in more holder) refl refl e

same_spread : (marked more : List ℕ) → ((object : ℕ) → is_in marked object ≡ true → is_in more object ≡ true) → (entries : List Name)
    → held_marks marked entries ≡ held_marks more entries → spread entries marked ≡ spread entries more
same_spread marked more grows [] e = refl
same_spread marked more grows (name ∷ entries) e =
    same_cons marked more name (filter (λ n. is_marked_holder marked n.holder) entries) (filter (λ n. is_marked_holder more n.holder) entries)
    (held_marks marked entries) (held_marks more entries) name.holder grows (marks_grow marked more grows entries) e (same_spread marked more grows entries)

-- each round marks one holder more, until nothing changes
settles : (n : ℕ) (entries : List Name) → (n ≤ held_marks (rounds n entries) entries) ⊎ (rounds n entries ≡ rounds (suc n) entries)
settles zero entries = inl (omega arith)
settles (suc n) entries =
    elim (settles n entries) [
      | inr same ↦ inr (ap (spread entries) same)
      | inl le ↦
          let grows : held_marks (rounds n entries) entries ≤ held_marks (rounds (suc n) entries) entries = marks_grow (rounds n entries) (rounds (suc n) entries) (rounds_grow n entries) entries in
          let split : (held_marks (rounds n entries) entries ≡ held_marks (rounds (suc n) entries) entries) ⊎ (held_marks (rounds n entries) entries < held_marks (rounds (suc n) entries) entries) = grind arith in
          elim split [
            | inl e ↦ inr (same_spread (rounds n entries) (rounds (suc n) entries) (rounds_grow n entries) entries e)
            | inr lt ↦ inl (grind arith)
          ]
    ]

settled : (entries : List Name) → rounds (length (filter is_held entries) + 1) entries ≡ rounds (suc (length (filter is_held entries) + 1)) entries
settled entries =
    elim (settles (length (filter is_held entries) + 1) entries) [
      | inr same ↦ same
      | inl le ↦ absurd (omega (arith, marks_few (rounds (length (filter is_held entries) + 1) entries) entries))
    ]

rooted : (n : ℕ) (entries : List Name) (object : ℕ) → Among (root object) entries → is_in (rounds (n + 1) entries) object ≡ true
rooted n entries object among =
    let P : ℕ → Type 0 = λ k. is_in (rounds k entries) object ≡ true in
    let e : suc n ≡ n + 1 = omega arith in
    let here : (object == object) ≡ true = grind (arith, tests) in
    subst P e (is_in-spread entries (rounds n entries) object ∙ finds (spreads_to (rounds n entries) object) entries (root object) among here)

complete : (entries : List Name) (object : ℕ) → Reached entries object → is_in (rounds (length (filter is_held entries) + 1) entries) object ≡ true
complete entries object (by_root _ among) = rooted (length (filter is_held entries)) entries object among
complete entries object (by_holder holder _ reached among) =
    let count : ℕ = length (filter is_held entries) + 1 in
    let known : is_in (rounds count entries) holder ≡ true = complete entries holder reached in
    let here : (is_in (rounds count entries) holder && (object == object)) ≡ true = grind (arith, tests) in
    let next : is_in (rounds (suc count) entries) object ≡ true =
    is_in-spread entries (rounds count entries) object ∙ finds (spreads_to (rounds count entries) object) entries (held_by holder object) among here in
    let P : List ℕ → Type 0 = λ marks. is_in marks object ≡ true in
    subst P (sym (settled entries)) next

pub marked_is_reached : (entries : List Name) (object : ℕ) → (is_in (reached_by entries) object ≡ true) ↔ Reached entries object
unfolding reached_by
marked_is_reached entries object = (sound (length (filter is_held entries) + 1) entries object, complete entries object)
