-- What is counted down from an object and up from a set is no less than any chain there.
use Rattle.std.proofs.Common.{◌≡◌, ◌≤◌, ◌<◌, ℕ, zero, suc, ◌+◌, ◌==◌, ◌||◌, Bool, true, false, cond, List, [], ◌∷◌, length, map, max, Option, Some, None, refl, sym, ap, subst, arith, tests}
use Rattle.std.specs.List.{filter, list_any}
use Rattle.std.specs.Option.{is_some}
use Rattle.kernel_values.specs.declared.state.Object.{Object}
use Rattle.kernel_values.specs.declared.state.Body.{Body}
use Rattle.kernel_values.specs.declared.state.Body.TheVariants as body
use Rattle.kernel_values.specs.declared.state.HandleSet.{HandleSet}
use Rattle.kernel_types.specs.Objects.{as_set, set_in, set_of}
use Rattle.kernel_types.specs.Reach.{is_in}
use Rattle.kernel_types.specs.Sets.{depth_above, depth_below, greatest, has_member, holders_of, member_objects, members_of, one_more_if_set}
use Rattle.kernel_laws.proofs.Found.{found, found_is}
use Rattle.set_laws.specs.Chains.{ChainFrom, HasMember, HasShortChains, IsSet}

-- in a list with a first number
pub first_or_later : (y : ℕ) (ys : List ℕ) (x : ℕ) (P : Type 0) → is_in (y ∷ ys) x ≡ true → (y ≡ x → P) → (is_in ys x ≡ true → P) → P
first_or_later y ys x P is here later =
    let Q : Bool → Type 0 = λ b. (y == x) ≡ b → (b || is_in ys x) ≡ true → P in
    let go : (b : Bool) → Q b = λ b. elim b as (λ v. Q v) [
      | true ↦ (λ e k. let same : y ≡ x = grind (arith, tests) in here same)
      | false ↦ (λ e k. later k)
    ] in
    go (y == x) refl is

pub among_later : (y : ℕ) (ys : List ℕ) (x : ℕ) → is_in ys x ≡ true → is_in (y ∷ ys) x ≡ true
among_later y ys x is = elim (y == x) as (λ b. (b || is_in ys x) ≡ true) [ true ↦ refl | false ↦ is ]

pub among_first : (y : ℕ) (ys : List ℕ) (x : ℕ) → (y == x) ≡ true → is_in (y ∷ ys) x ≡ true
among_first y ys x is = ap (λ b. b || is_in ys x) is

greatest_is_above : (f : ℕ → ℕ) (xs : List ℕ) (x : ℕ) → is_in xs x ≡ true → f x ≤ greatest (map f xs)
greatest_is_above f [] x is = absurd (cc)
greatest_is_above f (y ∷ ys) x is =
    first_or_later y ys x (f x ≤ max (f y) (greatest (map f ys))) is
    (λ same. let equal : f y ≡ f x = ap f same in omega (arith, equal))
    (λ more. omega (arith, greatest_is_above f ys x more))

has_set : (o : Option HandleSet) (x : ℕ) → is_in (members_of o) x ≡ true → is_some o ≡ true
has_set None x is = absurd (cc)
has_set (Some set) x is = refl

pub holder_is_set : (objects : List Object) (a b : ℕ) → HasMember objects a b → IsSet objects a
holder_is_set objects a b holds = has_set (set_of objects a) b holds

one_more : (o : Option HandleSet) (n m : ℕ) → is_some o ≡ true → m ≤ n → m < one_more_if_set o n
one_more None n m is le = absurd (cc)
one_more (Some set) n m is le = omega (arith, le)

pub counted_below : (objects : List Object) (limit id : ℕ) (sets : List ℕ) → ChainFrom objects id sets → length sets < limit → length sets < depth_below limit objects id
counted_below objects zero id sets chain less = absurd (omega (arith, less))
counted_below objects (suc limit) id [] chain less =
    one_more (set_of objects id) (greatest (map (depth_below limit objects) (members_of (set_of objects id)))) 0 chain (omega arith)
counted_below objects (suc limit) id (next ∷ sets) chain less =
    let deep : length sets < depth_below limit objects next = counted_below objects limit next sets chain.1 (omega (arith, less)) in
    let over : depth_below limit objects next ≤ greatest (map (depth_below limit objects) (members_of (set_of objects id))) =
    greatest_is_above (depth_below limit objects) (members_of (set_of objects id)) next chain.0 in
    one_more (set_of objects id) (greatest (map (depth_below limit objects) (members_of (set_of objects id)))) (length (next ∷ sets)) (holder_is_set objects id next chain.0) (omega (arith, deep, over))

-- the sets above one, each with the one before as a member's object
abbrev pub Climb : List Object → ℕ → List ℕ → Type 0
Climb objects id [] = Unit {0}
Climb objects id (holder ∷ holders) = HasMember objects holder id × Climb objects holder holders

member_in : (b : Body) (x : ℕ) → is_in (members_of (set_in b)) x ≡ true → is_in (member_objects b) x ≡ true
member_in (body.Set set) x is = is
member_in (body.Port port) x is = absurd (cc)
member_in (body.End end) x is = absurd (cc)
member_in (body.Memory memory) x is = absurd (cc)

mapped_any : (b : Body) (x : ℕ) → is_in (members_of (set_in b)) x ≡ true → list_any (λ n. n == x) (member_objects b) ≡ true
mapped_any b x is = member_in b x is

found_holder : (objects : List Object) (holder x : ℕ) → is_in (members_of (as_set (found objects holder))) x ≡ true → is_in (holders_of objects x) holder ≡ true
found_holder [] holder x is = absurd (cc)
found_holder (object ∷ objects) holder x is =
    let P : Bool → Type 0 = λ b. (object.id == holder) ≡ b → is_in (members_of (as_set (cond b (Some object) (found objects holder)))) x ≡ true
    → is_in (holders_of (object ∷ objects) x) holder ≡ true in
    let go : (b : Bool) → P b = λ b. elim b as (λ v. P v) [
      | true ↦ (λ e k.
          let has : has_member x object ≡ true = mapped_any object.body x k in
          subst (λ (v : Bool). is_in (map (λ o. o.id) (cond v (object ∷ filter (has_member x) objects) (filter (has_member x) objects))) holder ≡ true) (sym has)
          (among_first object.id (map (λ o. o.id) (filter (has_member x) objects)) holder e))
      | false ↦ (λ e k.
          let rest : is_in (holders_of objects x) holder ≡ true = found_holder objects holder x k in
          elim (has_member x object) as (λ v. is_in (map (λ o. o.id) (cond v (object ∷ filter (has_member x) objects) (filter (has_member x) objects))) holder ≡ true) [
            | true ↦ among_later object.id (holders_of objects x) holder rest
            | false ↦ rest
          ])
    ] in
    go (object.id == holder) refl is

is_holder : (objects : List Object) (holder x : ℕ) → HasMember objects holder x → is_in (holders_of objects x) holder ≡ true
is_holder objects holder x holds = found_holder objects holder x (subst (λ (o : Option Object). is_in (members_of (as_set o)) x ≡ true) (found_is objects holder) holds)

pub counted_above : (objects : List Object) (limit id : ℕ) (holders : List ℕ) → Climb objects id holders → length holders < limit → length holders < depth_above limit objects id
counted_above objects zero id holders climb less = absurd (omega (arith, less))
counted_above objects (suc limit) id [] climb less = omega arith
counted_above objects (suc limit) id (holder ∷ holders) climb less =
    let high : length holders < depth_above limit objects holder = counted_above objects limit holder holders climb.1 (omega (arith, less)) in
    let over : depth_above limit objects holder ≤ greatest (map (depth_above limit objects) (holders_of objects id)) =
    greatest_is_above (depth_above limit objects) (holders_of objects id) holder (is_holder objects holder id climb.0) in
    omega (arith, high, over)

-- the sets above one and a chain from it are a chain
pub joined : (objects : List Object) → HasShortChains objects → (id : ℕ) (holders sets : List ℕ) → Climb objects id holders → ChainFrom objects id sets → length holders + length (id ∷ sets) ≤ 8
joined objects short id [] sets climb chain = omega (arith, short id sets chain)
joined objects short id (holder ∷ holders) sets climb chain =
    omega (arith, joined objects short holder holders (id ∷ sets) climb.1 (climb.0, chain))
