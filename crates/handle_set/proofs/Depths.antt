-- How many sets are in one another: what the code counts, and what a new membership makes of it.
use Rattle.std.proofs.Common.{◌≡◌, ◌⊎◌, ℕ, zero, suc, ◌+◌, ◌-◌, ◌<◌, ◌≤◌, ◌==◌, ◌||◌, Bool, true, false, cond, List, [], ◌∷◌, length, map, max, set, drop, slice_get, Option, Some, None, refl, sym, ap, ◌∙◌, inl, inr, arith, lit<, eq-eqb, subst, tests}
use Rattle.std.specs.Prelude.{nat_lt, nat_le}
use Rattle.std.specs.List.{find, filter, list_any, position_or_len}
use Rattle.std.specs.Option.{is_some, option_map}
use Rattle.std.proofs.lemmas.Bool.{cases_lt}
use Rattle.std.proofs.lemmas.List.{drop_all}
use Rattle.std.proofs.lemmas.Bool.Decides.{nat_tests}
use Rattle.kernel_values.specs.declared.state.Object.{Object}
use Rattle.kernel_values.specs.declared.state.HandleSet.{HandleSet}
use Rattle.kernel_values.specs.declared.state.TableEntry.{TableEntry}
use Rattle.kernel_values.specs.declared.state.CoreState.{CoreState}
use Rattle.kernel_types.specs.Events.{chain_limit}
use Rattle.kernel_types.specs.Objects.{changed, on_set, set_of}
use Rattle.kernel_types.specs.Reach.{is_in}
use Rattle.kernel_types.specs.Sets.{chain_through, depth_above, depth_below, greatest, holders_of, is_label_in, is_or_contains, member_limit, member_objects, members_of, new_member, one_more_if_set, set_add, set_add_entries, set_add_to, with_member}
use Rattle.kernel_types.specs.Tables.{entry_at, table_of}
use Rattle.set_laws.specs.Chains.{HasShortChains, ChainFrom, IsSet, HasMember}
use Rattle.set_laws.proofs.Counting.{counted_below}
use Rattle.handle_set.specs.declared.adding.Member.{Member}
use Rattle.handle_set.specs.declared.records.TrackedMember.{TrackedMember}
use Rattle.handle_set.specs.declared.settle.OpenSet.{OpenSet}
use Rattle.handle_set.specs.Adding.{with_pushed}
use Rattle.handle_set.specs.Chains.{member_of, object_value, objects_in, objects_of, set_value}
use Rattle.handle_set.specs.Members.{has_object}
use Rattle.handle_set.specs.Sets.{id_of, has_id, has_member, with_changed, Each, IsRanked}
use Rattle.handle_set.proofs.Standing.{no_memory, objects_added, set_found, told_member}

-- one set further

pub below_less : (limit : ℕ) (objects : List Object) (id : ℕ) → 0 < limit → depth_below limit objects id ≡ one_more_if_set (set_of objects id) (greatest (map (depth_below (limit - 1) objects) (members_of (set_of objects id))))
below_less zero objects id some = absurd (omega arith)
below_less (suc limit) objects id some = let e : suc limit - 1 ≡ limit = omega arith in rw e refl

pub above_less : (limit : ℕ) (objects : List Object) (id : ℕ) → 0 < limit → depth_above limit objects id ≡ greatest (map (depth_above (limit - 1) objects) (holders_of objects id)) + 1
above_less zero objects id some = absurd (omega arith)
above_less (suc limit) objects id some = let e : suc limit - 1 ≡ limit = omega arith in rw e refl

pub below_none : (limit : ℕ) (objects : List Object) (id : ℕ) → set_of objects id ≡ None → depth_below limit objects id ≡ 0
below_none zero objects id none = refl
below_none (suc limit) objects id none = rw none refl

greatest_most : (f : ℕ → ℕ) (most : ℕ) → ((x : ℕ) → f x ≤ most) → (xs : List ℕ) → greatest (map f xs) ≤ most
greatest_most f most each [] = omega arith
greatest_most f most each (x ∷ xs) = let first = each x in let rest = greatest_most f most each xs in omega arith

pub above_most : (limit : ℕ) (objects : List Object) (id : ℕ) → depth_above limit objects id ≤ limit
above_most zero objects id = omega arith
above_most (suc limit) objects id = let rest = greatest_most (depth_above limit objects) limit (above_most limit objects) (holders_of objects id) in omega arith

-- the sets that hold an object
member_same : (members : List TrackedMember) (object : ℕ) → list_any (λ m. m == object) (objects_in members) ≡ list_any (has_object object) members
member_same [] object = refl
member_same (x ∷ xs) object = ap (λ b. (x.object.serial == object) || b) (member_same xs object)

abbrev kernel_has : ℕ → Object → Bool
kernel_has object o = list_any (λ m. m == object) (member_objects o.body)

pub holders_is : (sets : List OpenSet) (object : ℕ) → holders_of (objects_of sets) object ≡ map id_of (filter (has_member object) sets)
holders_is [] object = refl
holders_is (x ∷ xs) object = by_test (list_any (λ m. m == object) (objects_in x.members)) (has_member object x) (member_same x.members object) (holders_is xs object)
  where
    by_test : (a b : Bool) → a ≡ b → holders_of (objects_of xs) object ≡ map id_of (filter (has_member object) xs) → map (λ o. o.id) (cond a (object_value x ∷ filter (kernel_has object) (objects_of xs)) (filter (kernel_has object) (objects_of xs))) ≡ map id_of (cond b (x ∷ filter (has_member object) xs) (filter (has_member object) xs))
    by_test a true is rest = rw is (ap (λ ns. x.id ∷ ns) rest)
    by_test a false is rest = rw is rest

-- short chains are ranks

greatest_at : (f : ℕ → ℕ) (ms : List ℕ) → 0 < greatest (map f ms) → (m : ℕ) × (is_in ms m ≡ true) × (f m ≡ greatest (map f ms))
greatest_at f [] some = absurd (omega arith)
greatest_at f (x ∷ xs) some = by_size (cases_lt (f x) (greatest (map f xs))) (greatest_at f xs)
  where
    by_size : (f x < greatest (map f xs)) ⊎ (greatest (map f xs) ≤ f x) → (0 < greatest (map f xs) → (m : ℕ) × (is_in xs m ≡ true) × (f m ≡ greatest (map f xs))) → (m : ℕ) × (((x == m) || is_in xs m) ≡ true) × (f m ≡ max (f x) (greatest (map f xs)))
    by_size (inl less) rest =
        let found = rest (omega arith) in
        (found.0, either (x == found.0) (is_in xs found.0) found.1, found.2 ∙ omega arith)
      where
        either : (b c : Bool) → c ≡ true → (b || c) ≡ true
        either true c is = refl
        either false c is = is
    by_size (inr more) rest = (x, rw (eq-eqb x x refl) refl, omega arith)

-- a chain as long as the depth
chain_of : (objects : List Object) (limit id : ℕ) → 0 < depth_below limit objects id → (sets : List ℕ) × ChainFrom objects id sets × (length sets + 1 ≡ depth_below limit objects id)
chain_of objects zero id some = absurd (omega arith)
chain_of objects (suc limit) id some = by_set (set_of objects id) refl some (chain_of objects limit)
  where
    by_set : (o : Option HandleSet) → set_of objects id ≡ o → 0 < one_more_if_set o (greatest (map (depth_below limit objects) (members_of o))) → ((m : ℕ) → 0 < depth_below limit objects m → (sets : List ℕ) × ChainFrom objects m sets × (length sets + 1 ≡ depth_below limit objects m)) → (sets : List ℕ) × ChainFrom objects id sets × (length sets + 1 ≡ one_more_if_set o (greatest (map (depth_below limit objects) (members_of o))))
    by_set None is more rest = absurd (omega arith)
    by_set (Some set) is more rest = by_size (cases_lt 0 (greatest (map (depth_below limit objects) (members_of (Some set)))))
      where
        by_size : (0 < greatest (map (depth_below limit objects) (members_of (Some set)))) ⊎ (greatest (map (depth_below limit objects) (members_of (Some set))) ≤ 0) → (sets : List ℕ) × ChainFrom objects id sets × (length sets + 1 ≡ greatest (map (depth_below limit objects) (members_of (Some set))) + 1)
        by_size (inl deep) =
            let found = greatest_at (depth_below limit objects) (members_of (Some set)) deep in
            let below = rest found.0 (omega (arith, found.2)) in
            let has : HasMember objects id found.0 = ap (λ o. is_in (members_of o) found.0) is ∙ found.1 in
            (found.0 ∷ below.0, (has, below.1), omega (arith, below.2, found.2))
        by_size (inr none) = ([], ap is_some is, omega arith)

few : (objects : List Object) (id : ℕ) → HasShortChains objects → depth_below 9 objects id ≤ 8
few objects id short = elim (cases_lt 0 (depth_below 9 objects id)) [
  | inl some ↦
      let chain = chain_of objects 9 id some in
      let most = short id chain.0 chain.1 in
      omega (arith, chain.2, most)
  | inr none ↦ omega arith
]

falls : (objects : List Object) (id member : ℕ) → HasShortChains objects → IsSet objects id → HasMember objects id member → depth_below 9 objects member < depth_below 9 objects id
falls objects id member short set has = elim (cases_lt 0 (depth_below 9 objects member)) [
  | inl some ↦
      let chain = chain_of objects 9 member some in
      let most = short id (member ∷ chain.0) (has, chain.1) in
      let deep = counted_below objects 9 id (member ∷ chain.0) (has, chain.1) (omega (arith, most)) in
      omega (arith, chain.2, deep)
  | inr none ↦
      let deep = counted_below objects 9 id [] set (lit< tt) in
      omega (arith, deep)
]

pub short_ranked : (objects : List Object) (sets : List OpenSet) → HasShortChains objects → Each sets (λ s. set_of objects s.id ≡ Some (set_value s)) → IsRanked sets
short_ranked objects sets short stands = (
  depth_below 9 objects,
  λ k s at.
      let set = stands k s at in (
        (counted_below objects 9 s.id [] (ap is_some set) (lit< tt), few objects s.id short),
        λ j told there. falls objects s.id told.object.serial short (ap is_some set) (ap (λ o. is_in (members_of o) told.object.serial) set ∙ told_member s.members j told there),
      ),
)

-- the kernel's own law of `add` says that chains stay short

module _ (sets : List OpenSet) (id place : ℕ) (s : OpenSet) (member : Member) (told : TrackedMember) (same : member_of told ≡ new_member member.label member.object.serial member.mask member.cookie) (here : slice_get sets place ≡ Some s) (place_is : place ≡ position_or_len (has_id id) sets) (value : set_of (objects_of sets) id ≡ Some (set_value s))
    (outside : is_or_contains (objects_of sets) member.object.serial id ≡ false) (new_label : is_label_in (map member_of s.members) member.label ≡ false) (shallow : nat_lt chain_limit (chain_through (objects_of sets) id member.object.serial) ≡ false) (room : nat_le member_limit (length (map member_of s.members)) ≡ false) where
  abbrev entry : TableEntry
  entry = record { handle = member.label; object = member.object.serial; cookie = 0 }

  abbrev set_entry : TableEntry
  set_entry = record { handle = member.label + 1; object = id; cookie = 0 }

  -- a state whose objects are the open sets, with one table that has both
  abbrev state : CoreState
  state = record {
    apps = record { manifest = record { uuid = 0; restart = false; deferred = false; ports = [] }; starts = 1; running = true; table = entry ∷ set_entry ∷ []; last = None } ∷ [];
    threads = [];
    objects = objects_of sets;
    next = 0;
    clock = 0;
    bridged = [];
  }

  first_entry : entry_at (table_of state 0) member.label ≡ Some entry
  first_entry = rw (eq-eqb member.label member.label refl) refl

  other_label : (n : ℕ) → (n == n + 1) ≡ false
  other_label n = grind (arith, nat_tests)

  second_entry : entry_at (table_of state 0) (member.label + 1) ≡ Some set_entry
  second_entry = rw (other_label member.label, eq-eqb (member.label + 1) (member.label + 1) refl) refl

  abbrev add_with : Option TableEntry → Option TableEntry → Option HandleSet → Type 0
  add_with a b v = HasShortChains (set_add_entries state member.label member.mask member.cookie a b).core.objects

  kept : (law : HasShortChains (set_add state 0 (member.label + 1) member.label member.mask member.cookie).core.objects) → HasShortChains (set_add_entries state member.label member.mask member.cookie (entry_at (table_of state 0) (member.label + 1)) (entry_at (table_of state 0) member.label)).core.objects
  unfolding set_add
  kept law = law

  pub stays_short : (law : HasShortChains (set_add state 0 (member.label + 1) member.label member.mask member.cookie).core.objects) → HasShortChains (objects_of (set sets place (with_changed (with_pushed told) s)))
  stays_short law =
      let P : Option TableEntry → Type 0 = λ a. HasShortChains (set_add_entries state member.label member.mask member.cookie a (entry_at (table_of state 0) member.label)).core.objects in
      let Q : Option TableEntry → Type 0 = λ b. HasShortChains (set_add_entries state member.label member.mask member.cookie (Some set_entry) b).core.objects in
      let one = subst Q first_entry (subst P second_entry (kept law)) in
      let R : Option HandleSet → Type 0 = λ v. HasShortChains (set_add_to state id v (new_member member.label member.object.serial member.mask member.cookie)).core.objects in
      let two = subst R value one in
      let three = rw (outside, no_memory sets member.object.serial, new_label, shallow, room) at two in
      let four = subst (λ m. HasShortChains (changed (on_set (with_member m)) (objects_of sets) id)) (sym same) three in
      subst HasShortChains (objects_added sets id place s told place_is here) four

-- what the loops of the code count

pub first_of : {X : Type 0} (xs : List X) (at : ℕ) (x : X) → slice_get xs at ≡ Some x → drop at xs ≡ x ∷ drop (suc at) xs
first_of [] at x here = absurd (cc)
first_of (y ∷ ys) zero x here = let is : y ≡ x = cc in ap (λ z. z ∷ ys) is
first_of (y ∷ ys) (suc at) x here = first_of ys at x here

pub any_object : (p : ℕ → Bool) (members : List TrackedMember) (at : ℕ) (told : TrackedMember) → slice_get members at ≡ Some told → list_any p (objects_in (drop at members)) ≡ (p told.object.serial || list_any p (objects_in (drop (suc at) members)))
any_object p members at told here = ap (λ ms. list_any p (objects_in ms)) (first_of members at told here)

pub greatest_object : (f : ℕ → ℕ) (members : List TrackedMember) (at : ℕ) (told : TrackedMember) → slice_get members at ≡ Some told → greatest (map f (objects_in (drop at members))) ≡ max (f told.object.serial) (greatest (map f (objects_in (drop (suc at) members))))
greatest_object f members at told here = ap (λ ms. greatest (map f (objects_in ms))) (first_of members at told here)

abbrev pub holder_ids : ℕ → List OpenSet → List ℕ
holder_ids object sets = map id_of (filter (has_member object) sets)

pub holder_step : (f : ℕ → ℕ) (object : ℕ) (sets : List OpenSet) (at : ℕ) (s : OpenSet) → slice_get sets at ≡ Some s → greatest (map f (holder_ids object (drop at sets))) ≡ max (cond (has_member object s) (f s.id) 0) (greatest (map f (holder_ids object (drop (suc at) sets))))
holder_step f object sets at s here = ap (λ xs. greatest (map f (holder_ids object xs))) (first_of sets at s here) ∙ by_test (has_member object s)
  where
    by_test : (b : Bool) → greatest (map f (map id_of (cond b (s ∷ filter (has_member object) (drop (suc at) sets)) (filter (has_member object) (drop (suc at) sets))))) ≡ max (cond b (f s.id) 0) (greatest (map f (holder_ids object (drop (suc at) sets))))
    by_test true = refl
    by_test false = omega arith

pub no_holders : (f : ℕ → ℕ) (object : ℕ) (sets : List OpenSet) (at : ℕ) → length sets ≤ at → greatest (map f (holder_ids object (drop at sets))) ≡ 0
no_holders f object sets at past = ap (λ xs. greatest (map f (holder_ids object xs))) (drop_all at sets past)

-- an object that is no open set has nothing below it
pub none_below : (sets : List OpenSet) (id : ℕ) → find (has_id id) sets ≡ None → set_of (objects_of sets) id ≡ None
none_below sets id none = set_found sets id ∙ ap (option_map set_value) none

pub not_deep : (sets : List OpenSet) (id object : ℕ) → find (has_id object) sets ≡ None → nat_lt chain_limit (chain_through (objects_of sets) id object) ≡ false
unfolding chain_limit chain_through
not_deep sets id object none =
    let below = below_none 8 (objects_of sets) object (none_below sets object none) in
    let above = above_most 8 (objects_of sets) id in
    let few : depth_above 8 (objects_of sets) id + depth_below 8 (objects_of sets) object ≤ 8 = omega arith in
    grind (arith, nat_tests, tests)
