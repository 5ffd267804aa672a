-- What is counted down from an object and up from a set is the length of a chain there; so where `add` measures more than 8
-- sets through a new membership, there is a chain of as many.
use Rattle.std.proofs.Common.{◌≡◌, ◌≤◌, ◌<◌, ℕ, zero, suc, ◌+◌, ◌==◌, ◌⊎◌, inl, inr, Bool, true, false, cond, List, [], ◌∷◌, ◌++◌, length, map, max, Option, Some, None, refl, sym, ◌∙◌, ap, subst, arith, tests}
use Rattle.std.specs.List.{filter, list_any}
use Rattle.std.specs.Option.{is_some, option_map}
use Rattle.std.specs.Prelude.{nat_lt, nat_le}
use Rattle.kernel_values.specs.declared.errno.Errno.{Errno}
use Rattle.kernel_values.specs.declared.errno.Errno.TheVariants as errno
use Rattle.kernel_values.specs.declared.flags.Events.{Events}
use Rattle.kernel_values.specs.declared.reply.Answer.TheVariants as answer
use Rattle.kernel_values.specs.declared.state.Body.{Body}
use Rattle.kernel_values.specs.declared.state.Body.TheVariants as body
use Rattle.kernel_values.specs.declared.state.CoreState.{CoreState}
use Rattle.kernel_values.specs.declared.state.HandleSet.{HandleSet}
use Rattle.kernel_values.specs.declared.state.Member.{Member}
use Rattle.kernel_values.specs.declared.state.Object.{Object}
use Rattle.kernel_values.specs.declared.state.TableEntry.{TableEntry}
use Rattle.kernel_types.specs.Events.{chain_limit}
use Rattle.kernel_types.specs.Objects.{as_set, memory_of, on_body, on_set, set_in, set_of}
use Rattle.kernel_types.specs.Outcome.{Outcome, refuses}
use Rattle.kernel_types.specs.Reach.{is_in}
use Rattle.kernel_types.specs.Sets.{chain_through, depth_above, depth_below, greatest, has_member, holders_of, is_label_in, is_or_contains, member_limit, member_objects, members_of, new_member, one_more_if_set, set_add, set_add_entries, set_add_member, set_add_to, with_member}
use Rattle.kernel_types.specs.Tables.{entry_at, table_of}
use Rattle.kernel_laws.proofs.Found.{found, found_changed, found_is}
use Rattle.kernel_laws.specs.Numbers.{RisesFrom}
use Rattle.set_laws.specs.Chains.{ChainFrom, HasMember, IsSet}
use Rattle.set_laws.proofs.Counting.{among_first, among_later, first_or_later}
use Rattle.depth_laws.specs.LongChains.{MakesLongChain, with_membership}

-- the greatest of some numbers is one of them, or 0

record Attained (f : ℕ → ℕ) (xs : List ℕ) : Type 0 where
  x : ℕ
  among : is_in xs x ≡ true
  is : f x ≡ greatest (map f xs)

same_number : (n : ℕ) → (n == n) ≡ true
same_number n = grind (arith, tests)

max_is : (a b : ℕ) → (max a b ≡ a) ⊎ (max a b ≡ b)
max_is a b = elim (le_or a b) [ inl less ↦ inr (omega (arith, less)) | inr more ↦ inl (omega (arith, more)) ]
  where
    le_or : (m n : ℕ) → (m ≤ n) ⊎ (n ≤ m)
    le_or zero n = inl (omega arith)
    le_or (suc m) zero = inr (omega arith)
    le_or (suc m) (suc n) = elim (le_or m n) [ inl p ↦ inl (omega (arith, p)) | inr p ↦ inr (omega (arith, p)) ]

attained : (f : ℕ → ℕ) (xs : List ℕ) → (greatest (map f xs) ≡ 0) ⊎ Attained f xs
attained f [] = inl refl
attained f (y ∷ ys) = elim (max_is (f y) (greatest (map f ys))) [
  | inl here ↦ inr (record { x = y; among = among_first y ys y (same_number y); is = sym here })
  | inr later ↦ elim (attained f ys) [
    | inl none ↦ inl (later ∙ none)
    | inr found_later ↦ inr (record { x = found_later.x; among = among_later y ys found_later.x found_later.among; is = found_later.is ∙ sym later })
  ]
]

-- Down from an object.

module _ (objects : List Object) where
  record Below (limit id : ℕ) : Type 0 where
    sets : List ℕ
    chain : ChainFrom objects id sets
    many : length sets + 1 ≡ depth_below limit objects id

  set_alone : (limit id : ℕ) (set : HandleSet) → set_of objects id ≡ Some set → greatest (map (depth_below limit objects) (members_of (Some set))) ≡ 0 → Below (suc limit) id
  set_alone limit id set is none = record {
    sets = [];
    chain = ap (λ (o : Option HandleSet). is_some o) is;
    many =
        let measured : depth_below (suc limit) objects id ≡ greatest (map (depth_below limit objects) (members_of (Some set))) + 1 =
        ap (λ (o : Option HandleSet). one_more_if_set o (greatest (map (depth_below limit objects) (members_of o)))) is in
        omega (arith, measured, none);
  }

  set_with : (limit id : ℕ) (set : HandleSet) → set_of objects id ≡ Some set → (at : Attained (depth_below limit objects) (members_of (Some set))) → Below limit at.x → Below (suc limit) id
  set_with limit id set is at below = record {
    sets = at.x ∷ below.sets;
    chain = (subst (λ (o : Option HandleSet). is_in (members_of o) at.x ≡ true) (sym is) at.among, below.chain);
    many =
        let measured : depth_below (suc limit) objects id ≡ greatest (map (depth_below limit objects) (members_of (Some set))) + 1 =
        ap (λ (o : Option HandleSet). one_more_if_set o (greatest (map (depth_below limit objects) (members_of o)))) is in
        omega (arith, measured, at.is, below.many);
  }

  below_by : (limit id : ℕ) → ((x : ℕ) → (depth_below limit objects x ≡ 0) ⊎ Below limit x) → (o : Option HandleSet) → set_of objects id ≡ o
      → (depth_below (suc limit) objects id ≡ 0) ⊎ Below (suc limit) id
  below_by limit id deeper None is = inl (ap (λ (o : Option HandleSet). one_more_if_set o (greatest (map (depth_below limit objects) (members_of o)))) is)
  below_by limit id deeper (Some set) is = elim (attained (depth_below limit objects) (members_of (Some set))) [
    | inl none ↦ inr (set_alone limit id set is none)
    | inr at ↦ elim (deeper at.x) [
      | inl none ↦ inr (set_alone limit id set is (sym at.is ∙ none))
      | inr down ↦ inr (set_with limit id set is at down)
    ]
  ]

  below : (limit id : ℕ) → (depth_below limit objects id ≡ 0) ⊎ Below limit id
  below zero id = inl refl
  below (suc limit) id = below_by limit id (λ x. below limit x) (set_of objects id) refl

-- Up from a set: those that hold an object are sets, by their numbers, since no number stands twice.

holder_from : (low : ℕ) (objects : List Object) (high x holder : ℕ) → RisesFrom low objects high → is_in (holders_of objects x) holder ≡ true → low ≤ holder
holder_from low [] high x holder rises is = absurd (cc)
holder_from low (object ∷ objects) high x holder rises is =
    let later : is_in (holders_of objects x) holder ≡ true → low ≤ holder = λ more. omega (arith, rises.0, holder_from (object.id + 1) objects high x holder rises.1 more) in
    let P : Bool → Type 0 = λ b. is_in (map (λ o. o.id) (cond b (object ∷ filter (has_member x) objects) (filter (has_member x) objects))) holder ≡ true → low ≤ holder in
    let go : (b : Bool) → P b = λ b. elim b as (λ v. P v) [
      | true ↦ (λ k. first_or_later object.id (holders_of objects x) holder (low ≤ holder) k (λ same. omega (arith, rises.0, same)) later)
      | false ↦ later
    ] in
    go (has_member x object) is

in_members : (b : Body) (x : ℕ) → list_any (λ n. n == x) (member_objects b) ≡ true → is_in (members_of (set_in b)) x ≡ true
in_members (body.Set set) x is = is
in_members (body.Port port) x is = absurd (cc)
in_members (body.End end) x is = absurd (cc)
in_members (body.Memory memory) x is = absurd (cc)

found_of_holder : (low : ℕ) (objects : List Object) (high x holder : ℕ) → RisesFrom low objects high → is_in (holders_of objects x) holder ≡ true
    → is_in (members_of (as_set (found objects holder))) x ≡ true
found_of_holder low [] high x holder rises is = absurd (cc)
found_of_holder low (object ∷ objects) high x holder rises is =
    let Goal : Bool → Type 0 = λ b. is_in (members_of (as_set (cond b (Some object) (found objects holder)))) x ≡ true in
    let later : is_in (holders_of objects x) holder ≡ true → Goal (object.id == holder) = λ more.
    let past : object.id + 1 ≤ holder = holder_from (object.id + 1) objects high x holder rises.1 more in
    let other : (object.id == holder) ≡ false = grind (arith, tests) in
    subst (λ b. Goal b) (sym other) (found_of_holder (object.id + 1) objects high x holder rises.1 more) in
    let P : Bool → Type 0 = λ b. has_member x object ≡ b
    → is_in (map (λ o. o.id) (cond b (object ∷ filter (has_member x) objects) (filter (has_member x) objects))) holder ≡ true → Goal (object.id == holder) in
    let go : (b : Bool) → P b = λ b. elim b as (λ v. P v) [
      | true ↦ (λ has k. first_or_later object.id (holders_of objects x) holder (Goal (object.id == holder)) k
          (λ same. let own : (object.id == holder) ≡ true = grind (arith, tests) in subst (λ b. Goal b) (sym own) (in_members object.body x has))
          later)
      | false ↦ (λ has k. later k)
    ] in
    go (has_member x object) refl is

holder_has : (objects : List Object) (high x holder : ℕ) → RisesFrom 0 objects high → is_in (holders_of objects x) holder ≡ true → HasMember objects holder x
holder_has objects high x holder rises is =
    subst (λ (o : Option Object). is_in (members_of (as_set o)) x ≡ true) (sym (found_is objects holder)) (found_of_holder 0 objects high x holder rises is)

-- With one more membership, all are there that were, and the new one.

still_in : (ms : List Member) (m : Member) (b : ℕ) → is_in (map (λ member. member.object) ms) b ≡ true → is_in (map (λ member. member.object) (ms ++ m ∷ [])) b ≡ true
still_in [] m b is = absurd (cc)
still_in (x ∷ xs) m b is =
    let rest : List ℕ = map (λ member. member.object) xs in
    first_or_later x.object rest b (is_in (map (λ member. member.object) ((x ∷ xs) ++ m ∷ [])) b ≡ true) is
    (λ same. let own : (x.object == b) ≡ true = grind (arith, tests) in among_first x.object (map (λ member. member.object) (xs ++ m ∷ [])) b own)
    (λ more. among_later x.object (map (λ member. member.object) (xs ++ m ∷ [])) b (still_in xs m b more))

now_in : (ms : List Member) (m : Member) → is_in (map (λ member. member.object) (ms ++ m ∷ [])) m.object ≡ true
now_in [] m = among_first m.object [] m.object (same_number m.object)
now_in (x ∷ xs) m = among_later x.object (map (λ member. member.object) (xs ++ m ∷ [])) m.object (now_in xs m)

module _ (m : Member) where
  in_body : (y : Body) (b : ℕ) → is_in (members_of (set_in y)) b ≡ true → is_in (members_of (set_in (on_set (with_member m) y))) b ≡ true
  in_body (body.Set set) b is = still_in set.members m b is
  in_body (body.Port port) b is = absurd (cc)
  in_body (body.End end) b is = absurd (cc)
  in_body (body.Memory memory) b is = absurd (cc)

  in_object : (o : Option Object) (b : ℕ) → is_in (members_of (as_set o)) b ≡ true → is_in (members_of (as_set (option_map (on_body (on_set (with_member m))) o))) b ≡ true
  in_object None b is = absurd (cc)
  in_object (Some object) b is = in_body object.body b is

  set_body : (y : Body) → is_some (set_in y) ≡ true → is_some (set_in (on_set (with_member m) y)) ≡ true
  set_body (body.Set set) is = refl
  set_body (body.Port port) is = absurd (cc)
  set_body (body.End end) is = absurd (cc)
  set_body (body.Memory memory) is = absurd (cc)

  set_object : (o : Option Object) → is_some (as_set o) ≡ true → is_some (as_set (option_map (on_body (on_set (with_member m))) o)) ≡ true
  set_object None is = absurd (cc)
  set_object (Some object) is = set_body object.body is

  new_body : (y : Body) → is_some (set_in y) ≡ true → is_in (members_of (set_in (on_set (with_member m) y))) m.object ≡ true
  new_body (body.Set set) is = now_in set.members m
  new_body (body.Port port) is = absurd (cc)
  new_body (body.End end) is = absurd (cc)
  new_body (body.Memory memory) is = absurd (cc)

  new_object : (o : Option Object) → is_some (as_set o) ≡ true → is_in (members_of (as_set (option_map (on_body (on_set (with_member m))) o))) m.object ≡ true
  new_object None is = absurd (cc)
  new_object (Some object) is = new_body object.body is

module _ (objects : List Object) (set : ℕ) (m : Member) where
  abbrev after : List Object
  after = with_membership objects set m

  -- the object of a number, after the change
  now_of : (a : ℕ) (P : Option Object → Type 0) → P (cond (set == a) (option_map (on_body (on_set (with_member m))) (found objects a)) (found objects a)) → P (found after a)
  now_of a P p = subst P (sym (found_changed (on_set (with_member m)) objects set a)) p

  still_member : (a b : ℕ) → HasMember objects a b → HasMember after a b
  still_member a b holds =
      let P : Option Object → Type 0 = λ o. is_in (members_of (as_set o)) b ≡ true in
      let was : P (found objects a) = subst P (found_is objects a) holds in
      subst P (sym (found_is after a)) (now_of a P
      (elim (set == a) as (λ v. P (cond v (option_map (on_body (on_set (with_member m))) (found objects a)) (found objects a))) [ true ↦ in_object m (found objects a) b was | false ↦ was ]))

  still_set : (a : ℕ) → IsSet objects a → IsSet after a
  still_set a holds =
      let P : Option Object → Type 0 = λ o. is_some (as_set o) ≡ true in
      let was : P (found objects a) = subst P (found_is objects a) holds in
      subst P (sym (found_is after a)) (now_of a P
      (elim (set == a) as (λ v. P (cond v (option_map (on_body (on_set (with_member m))) (found objects a)) (found objects a))) [ true ↦ set_object m (found objects a) was | false ↦ was ]))

  new_membership : IsSet objects set → HasMember after set m.object
  new_membership holds =
      let P : Option Object → Type 0 = λ o. is_in (members_of (as_set o)) m.object ≡ true in
      let was : is_some (as_set (found objects set)) ≡ true = subst (λ (o : Option Object). is_some (as_set o) ≡ true) (found_is objects set) holds in
      subst P (sym (found_is after set)) (now_of set P
      (subst (λ v. P (cond v (option_map (on_body (on_set (with_member m))) (found objects set)) (found objects set))) (sym (same_number set)) (new_object m (found objects set) was)))

  still_chain : (id : ℕ) (sets : List ℕ) → ChainFrom objects id sets → ChainFrom after id sets
  still_chain id [] chain = still_set id chain
  still_chain id (next ∷ sets) chain = (still_member id next chain.0, still_chain next sets chain.1)

  -- a chain that ends in these sets, as long as what is counted up and these
  record Above (limit id : ℕ) (sets : List ℕ) : Type 0 where
    first : ℕ
    more : List ℕ
    chain : ChainFrom after first more
    long : depth_above limit objects id + length sets ≤ length more + 1

  above : (high : ℕ) → RisesFrom 0 objects high → (limit id : ℕ) (sets : List ℕ) → ChainFrom after id sets → Above limit id sets
  above high rises zero id sets chain = record { first = id; more = sets; chain = chain; long = omega arith }
  above high rises (suc limit) id sets chain = elim (attained (depth_above limit objects) (holders_of objects id)) [
    | inl none ↦ record { first = id; more = sets; chain = chain; long = omega (arith, none) }
    | inr at ↦
        let up : Above limit at.x (id ∷ sets) = above high rises limit at.x (id ∷ sets) (still_member at.x id (holder_has objects high id at.x rises at.among), chain) in
        record { first = up.first; more = up.more; chain = up.chain; long = omega (arith, up.long, at.is) }
  ]

  record Long : Type 0 where
    first : ℕ
    sets : List ℕ
    chain : ChainFrom after first sets
    long : 8 < length (first ∷ sets)

  long_by : (high : ℕ) → RisesFrom 0 objects high → IsSet objects set → 8 < depth_above 8 objects set + depth_below 8 objects m.object → Long
  long_by high rises is deep = elim (below objects 8 m.object) [
    | inl none ↦
        let up : Above 8 set [] = above high rises 8 set [] (still_set set is) in
        record { first = up.first; sets = up.more; chain = up.chain; long = omega (arith, up.long, deep, none) }
    | inr down ↦
        let up : Above 8 set (m.object ∷ down.sets) = above high rises 8 set (m.object ∷ down.sets) (new_membership is, still_chain m.object down.sets down.chain) in
        record { first = up.first; sets = up.more; chain = up.chain; long = omega (arith, up.long, deep, down.many) }
  ]

-- The call.

deep_test : (objects : List Object) (set object : ℕ) → nat_lt chain_limit (chain_through objects set object) ≡ true → 8 < depth_above 8 objects set + depth_below 8 objects object
unfolding chain_limit chain_through
deep_test objects set object is = grind (arith, tests)

abbrev IsTooDeep : Outcome → Type 0
IsTooDeep outcome = outcome.answer ≡ answer.Refuses errno.RecurseTooDeep

-- another refusal is none of these
other_refusal : (b : Bool) (e : Errno) (c : CoreState) (y : Outcome) (P : Type 0) → (e ≡ errno.RecurseTooDeep → ⊥) → (IsTooDeep y → P) → IsTooDeep (cond b (refuses e c) y) → P
other_refusal true e c y P never next is = absurd (never (let same : answer.Refuses e ≡ answer.Refuses errno.RecurseTooDeep = is in cc))
other_refusal false e c y P never next is = next is

this_refusal : (b : Bool) (c : CoreState) (y : Outcome) (P : Type 0) → (b ≡ true → P) → (IsTooDeep y → P) → IsTooDeep (cond b (refuses errno.RecurseTooDeep c) y) → P
this_refusal true c y P here next is = here refl
this_refusal false c y P here next is = next is

member_deep : (c : CoreState) (id : ℕ) (set : HandleSet) (m : Member) → IsTooDeep (set_add_member c id set m) → nat_lt chain_limit (chain_through c.objects id m.object) ≡ true
member_deep c id set m is =
    let P : Type 0 = nat_lt chain_limit (chain_through c.objects id m.object) ≡ true in
    other_refusal (is_or_contains c.objects m.object id) errno.InvalidArgs c _ P (λ e. absurd (cc))
    (other_refusal (is_some (memory_of c.objects m.object)) errno.NotSupported c _ P (λ e. absurd (cc))
    (other_refusal (is_label_in set.members m.label) errno.AlreadyExists c _ P (λ e. absurd (cc))
    (this_refusal (nat_lt chain_limit (chain_through c.objects id m.object)) c _ P (λ deep. deep)
    (other_refusal (nat_le member_limit (length set.members)) errno.NoResources c _ P (λ e. absurd (cc))
    (λ gives. absurd (cc)))))) is

to_deep : (c : CoreState) → RisesFrom 0 c.objects c.next → (id : ℕ) (m : Member) (o : Option HandleSet) → set_of c.objects id ≡ o → IsTooDeep (set_add_to c id o m) → Long c.objects id m
to_deep c rises id m None set_is is = absurd (cc)
to_deep c rises id m (Some set) set_is is =
    long_by c.objects id m c.next rises (ap (λ (o : Option HandleSet). is_some o) set_is) (deep_test c.objects id m.object (member_deep c id set m is))

pub makes_long_chain : (c : CoreState) (app set handle : ℕ) (mask : Events) (cookie : ℕ) → RisesFrom 0 c.objects c.next
    → (set_add c app set handle mask cookie).answer ≡ answer.Refuses errno.RecurseTooDeep → MakesLongChain c app set handle mask cookie
unfolding set_add
makes_long_chain c app set handle mask cookie rises is = by (entry_at (table_of c app) set) (entry_at (table_of c app) handle) refl refl is
  where
    by : (s e : Option TableEntry) → entry_at (table_of c app) set ≡ s → entry_at (table_of c app) handle ≡ e → IsTooDeep (set_add_entries c handle mask cookie s e)
        → MakesLongChain c app set handle mask cookie
    by None e s_is e_is deep = absurd (cc)
    by (Some holder) None s_is e_is deep = absurd (cc)
    by (Some holder) (Some entry) s_is e_is deep =
        let long : Long c.objects holder.object (new_member handle entry.object mask cookie) = to_deep c rises holder.object (new_member handle entry.object mask cookie) (set_of c.objects holder.object) refl deep in
        record {
          holder = holder;
          entry = entry;
          holder_is = s_is;
          entry_is = e_is;
          first = long.first;
          sets = long.sets;
          chain = long.chain;
          long = long.long;
        }
