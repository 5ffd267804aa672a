-- One command more in all.
use Rattle.std.proofs.Common.{◌≡◌, ◌≤◌, ◌<◌, ◌+◌, ◌-◌, ◌%◌, ◌==◌, ◌++◌, ℕ, suc, true, false, cond, [], ◌∷◌, map, refl, ap, ◌∙◌, subst, sym, arith, tests}
use Rattle.std.proofs.lemmas.List.Elements.{filter-append}
use Rattle.std.proofs.lemmas.List.FromFn.{map-range_with_len_more}
use Rattle.std.proofs.lemmas.List.{append-nil, map-append, map-id}
use Rattle.std.specs.List.{filter, range_with_len}
use Rattle.scene_generator.specs.Generated.{command_at, is_of, number_after, script_of, stepped}

range_more : (n : ℕ) → range_with_len 0 (n + 1) ≡ range_with_len 0 n ++ n ∷ []
range_more n =
    let told : map (λ k. k) (range_with_len 0 (n + 1)) ≡ map (λ k. k) (range_with_len 0 n) ++ n ∷ [] = map-range_with_len_more (λ k. k) 0 n n (omega arith) in
    sym (map-id (range_with_len 0 (n + 1))) ∙ told ∙ ap (λ xs. xs ++ n ∷ []) (map-id (range_with_len 0 n))

pub one_more : (seed n app : ℕ) → script_of seed (n + 1) app ≡ script_of seed n app ++ map (command_at seed) (cond (is_of app n) (n ∷ []) [])
one_more seed n app =
    let all : filter (is_of app) (range_with_len 0 (n + 1)) ≡ filter (is_of app) (range_with_len 0 n) ++ filter (is_of app) (n ∷ []) =
    ap (filter (is_of app)) (range_more n) ∙ filter-append (is_of app) (range_with_len 0 n) (n ∷ []) in
    ap (map (command_at seed)) all ∙ map-append (command_at seed) (filter (is_of app) (range_with_len 0 n)) (filter (is_of app) (n ∷ []))

-- the next command is this application's
pub taken : (seed n app : ℕ) → n % 4 ≡ app → script_of seed (n + 1) app ≡ script_of seed n app ++ command_at seed n ∷ []
unfolding is_of
taken seed n app own =
    let is : (n % 4 == app) ≡ true = grind (arith, own, tests) in
    subst (λ b. script_of seed (n + 1) app ≡ script_of seed n app ++ map (command_at seed) (cond b (n ∷ []) [])) is (one_more seed n app)

-- or another's
pub passed : (seed n app : ℕ) → (n % 4 ≡ app → ⊥) → script_of seed (n + 1) app ≡ script_of seed n app
unfolding is_of
passed seed n app other =
    let is : (n % 4 == app) ≡ false = grind (arith, other, tests) in
    subst (λ b. script_of seed (n + 1) app ≡ script_of seed n app ++ map (command_at seed) (cond b (n ∷ []) [])) is (one_more seed n app) ∙ append-nil (script_of seed n app)

-- the sequence begins with the seed
pub begins : (seed : ℕ) → seed ≡ number_after seed 0
unfolding number_after
begins seed = refl

-- and takes a step before each command but the first twelve
pub steps_on : (seed at x : ℕ) → 12 ≤ at → x ≡ number_after seed (at - 12) → stepped x ≡ number_after seed (at + 1 - 12)
unfolding number_after
steps_on seed at x later is =
    let next : suc (at - 12) ≡ at + 1 - 12 = omega (arith, later) in
    ap stepped is ∙ ap (number_after seed) next

pub stands : (seed at : ℕ) → at < 12 → number_after seed (at - 12) ≡ number_after seed (at + 1 - 12)
stands seed at early =
    let same : at - 12 ≡ at + 1 - 12 = omega (arith, early) in
    ap (number_after seed) same
