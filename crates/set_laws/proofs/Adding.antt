-- A new membership: a chain through it has no more sets than what was counted, and none goes through it twice.
use Rattle.std.proofs.Common.{◌≡◌, ◌≤◌, ◌<◌, ℕ, ◌+◌, ◌==◌, ◌⊎◌, inl, inr, Bool, true, false, cond, List, [], ◌∷◌, ◌++◌, length, map, Option, Some, None, refl, sym, ◌∙◌, ap, subst, arith, tests}
use Rattle.std.specs.Prelude.{if◌then◌else◌, nat_lt, nat_le}
use Rattle.std.specs.Option.{is_some, option_map}
use Rattle.kernel_values.specs.declared.errno.Errno.{Errno}
use Rattle.kernel_values.specs.declared.errno.Errno.TheVariants as errno
use Rattle.kernel_values.specs.declared.flags.Events.{Events}
use Rattle.kernel_values.specs.declared.state.Object.{Object}
use Rattle.kernel_values.specs.declared.state.Body.{Body}
use Rattle.kernel_values.specs.declared.state.Body.TheVariants as body
use Rattle.kernel_values.specs.declared.state.CoreState.{CoreState}
use Rattle.kernel_values.specs.declared.state.HandleSet.{HandleSet}
use Rattle.kernel_values.specs.declared.state.Member.{Member}
use Rattle.kernel_types.specs.Events.{chain_limit}
use Rattle.kernel_types.specs.Names.{Name, root, held_by}
use Rattle.kernel_types.specs.Objects.{as_set, changed, memory_of, on_body, on_set, set_in, set_of}
use Rattle.kernel_types.specs.Outcome.{Outcome, refuses}
use Rattle.kernel_types.specs.Reach.{Among, Reached, is_in, reached_by}
use Rattle.kernel_types.specs.Reach.Reached.{by_root, by_holder}
use Rattle.kernel_types.specs.Sets.{chain_through, depth_above, depth_below, is_label_in, is_or_contains, member_limit, member_objects, members_of, membership_names, memberships, new_member, set_add, set_add_entries, set_add_member, set_add_to, with_member}
use Rattle.kernel_types.specs.Tables.{entry_at, table_of}
use Rattle.kernel_types.proofs.Reaching.{marked_is_reached}
use Rattle.kernel_laws.proofs.Found.{found, found_changed, found_is}
use Rattle.set_laws.specs.Chains.{ChainFrom, HasMember, HasShortChains, IsSet}
use Rattle.set_laws.proofs.Counting.{Climb, among_first, among_later, counted_above, counted_below, first_or_later, joined}
use Rattle.set_laws.proofs.Joined.{among_left, among_right}

-- What the memberships name.

named : (holder : ℕ) (xs : List ℕ) (b : ℕ) → is_in xs b ≡ true → Among (held_by holder b) (map (held_by holder) xs)
named holder [] b is = absurd (cc)
named holder (x ∷ xs) b is =
    first_or_later x xs b (Among (held_by holder b) (map (held_by holder) (x ∷ xs))) is
    (λ same. inl (ap (λ (n : ℕ). held_by holder n) same)) (λ more. inr (named holder xs b more))

named_by_body : (holder : ℕ) (y : Body) (b : ℕ) → is_in (members_of (set_in y)) b ≡ true → Among (held_by holder b) (map (held_by holder) (member_objects y))
named_by_body holder (body.Set set) b is = named holder (map (λ member. member.object) set.members) b is
named_by_body holder (body.Port port) b is = absurd (cc)
named_by_body holder (body.End end) b is = absurd (cc)
named_by_body holder (body.Memory memory) b is = absurd (cc)

found_name : (objects : List Object) (a b : ℕ) → is_in (members_of (as_set (found objects a))) b ≡ true → Among (held_by a b) (memberships objects)
found_name [] a b is = absurd (cc)
found_name (object ∷ objects) a b is =
    let P : Bool → Type 0 = λ v. (object.id == a) ≡ v → is_in (members_of (as_set (cond v (Some object) (found objects a)))) b ≡ true
    → Among (held_by a b) (membership_names object ++ memberships objects) in
    let go : (v : Bool) → P v = λ v. elim v as (λ w. P w) [
      | true ↦ (λ e k.
          let same : object.id ≡ a = grind (arith, tests) in
          let here : Among (held_by object.id b) (membership_names object) = named_by_body object.id object.body b k in
          among_left (held_by a b) (membership_names object) (memberships objects) (subst (λ (n : ℕ). Among (held_by n b) (membership_names object)) same here))
      | false ↦ (λ e k. among_right (held_by a b) (membership_names object) (memberships objects) (found_name objects a b k))
    ] in
    go (object.id == a) refl is

member_name : (objects : List Object) (a b : ℕ) → HasMember objects a b → Among (held_by a b) (memberships objects)
member_name objects a b holds = found_name objects a b (subst (λ (o : Option Object). is_in (members_of (as_set o)) b ≡ true) (found_is objects a) holds)

unreached : (objects : List Object) (outer inner : ℕ) → is_or_contains objects outer inner ≡ false → Reached (root outer ∷ memberships objects) inner → ⊥
unfolding is_or_contains
unreached objects outer inner not_in reached =
    let is : is_in (reached_by (root outer ∷ memberships objects)) inner ≡ true = (marked_is_reached (root outer ∷ memberships objects) inner).1 reached in
    let bad : true ≡ false = sym is ∙ not_in in
    absurd (cc)

-- The members of a set, and one more.

module _ (m : Member) (b : ℕ) where
  abbrev OldOrNew : Type 0 → Type 0
  OldOrNew old = old ⊎ (m.object ≡ b)

  in_list : (ms : List Member) → is_in (map (λ member. member.object) (ms ++ m ∷ [])) b ≡ true → OldOrNew (is_in (map (λ member. member.object) ms) b ≡ true)
  in_list [] is = first_or_later m.object [] b (OldOrNew (is_in [] b ≡ true)) is (λ same. inr same) (λ more. inl more)
  in_list (x ∷ xs) is =
      let old : List ℕ = map (λ member. member.object) xs in
      first_or_later x.object (map (λ member. member.object) (xs ++ m ∷ [])) b (OldOrNew (is_in (x.object ∷ old) b ≡ true)) is
      (λ same. let test : (x.object == b) ≡ true = grind (arith, tests) in inl (among_first x.object old b test))
      (λ more. elim (in_list xs more) [ inl was ↦ inl (among_later x.object old b was) | inr new ↦ inr new ])

  in_body : (y : Body) → is_in (members_of (set_in (on_set (with_member m) y))) b ≡ true → OldOrNew (is_in (members_of (set_in y)) b ≡ true)
  in_body (body.Set set) is = in_list set.members is
  in_body (body.Port port) is = absurd (cc)
  in_body (body.End end) is = absurd (cc)
  in_body (body.Memory memory) is = absurd (cc)

  in_object : (o : Option Object) → is_in (members_of (as_set (option_map (on_body (on_set (with_member m))) o))) b ≡ true → OldOrNew (is_in (members_of (as_set o)) b ≡ true)
  in_object None is = absurd (cc)
  in_object (Some object) is = in_body object.body is

set_body : (m : Member) (y : Body) → is_some (set_in (on_set (with_member m) y)) ≡ true → is_some (set_in y) ≡ true
set_body m (body.Set set) is = refl
set_body m (body.Port port) is = absurd (cc)
set_body m (body.End end) is = absurd (cc)
set_body m (body.Memory memory) is = absurd (cc)

set_object : (m : Member) (o : Option Object) → is_some (as_set (option_map (on_body (on_set (with_member m))) o)) ≡ true → is_some (as_set o) ≡ true
set_object m None is = absurd (cc)
set_object m (Some object) is = set_body m object.body is

-- A set and what becomes its member.
module _ (objects : List Object) (set : ℕ) (m : Member) where
  abbrev after : List Object
  after = changed (on_set (with_member m)) objects set

  abbrev entries : List Name
  entries = root m.object ∷ memberships objects

  pub membership_before : (a b : ℕ) → HasMember after a b → HasMember objects a b ⊎ ((set ≡ a) × (m.object ≡ b))
  membership_before a b holds =
      let o : Option Object = found objects a in
      let G : Type 0 = HasMember objects a b ⊎ ((set ≡ a) × (m.object ≡ b)) in
      let back : is_in (members_of (as_set o)) b ≡ true → HasMember objects a b =
      λ is. subst (λ (v : Option Object). is_in (members_of (as_set v)) b ≡ true) (sym (found_is objects a)) is in
      let P : Bool → Type 0 = λ v. (set == a) ≡ v → is_in (members_of (as_set (cond v (option_map (on_body (on_set (with_member m))) o) o))) b ≡ true → G in
      let go : (v : Bool) → P v = λ v. elim v as (λ w. P w) [
        | true ↦ (λ e k.
            let same : set ≡ a = grind (arith, tests) in
            elim (in_object m b o k) [ inl was ↦ inl (back was) | inr new ↦ inr (same, new) ])
        | false ↦ (λ e k. inl (back k))
      ] in
      go (set == a) refl (subst (λ (v : Option Object). is_in (members_of (as_set v)) b ≡ true) (found_is after a ∙ found_changed (on_set (with_member m)) objects set a) holds)

  set_before : (a : ℕ) → IsSet after a → IsSet objects a
  set_before a holds =
      let o : Option Object = found objects a in
      let back : is_some (as_set o) ≡ true → IsSet objects a = λ is. subst (λ (v : Option Object). is_some (as_set v) ≡ true) (sym (found_is objects a)) is in
      let P : Bool → Type 0 = λ v. is_some (as_set (cond v (option_map (on_body (on_set (with_member m))) o) o)) ≡ true → IsSet objects a in
      let go : (v : Bool) → P v = λ v. elim v as (λ w. P w) [ true ↦ (λ k. back (set_object m o k)) | false ↦ (λ k. back k) ] in
      go (set == a) (subst (λ (v : Option Object). is_some (as_set v) ≡ true) (found_is after a ∙ found_changed (on_set (with_member m)) objects set a) holds)

  -- from the new member on, a chain was there before: the set is not reached from its member
  chain_before : is_or_contains objects m.object set ≡ false → (id : ℕ) (sets : List ℕ) → Reached entries id → ChainFrom after id sets → ChainFrom objects id sets
  chain_before outside id [] reached chain = set_before id chain
  chain_before outside id (next ∷ sets) reached chain =
      elim (membership_before id next chain.0) [
        | inl was ↦ (was, chain_before outside next sets (by_holder id next reached (inr (member_name objects id next was))) chain.1)
        | inr new ↦ absurd (unreached objects m.object set outside (subst (λ (n : ℕ). Reached entries n) (sym new.0) reached))
      ]

  chain_is_short : HasShortChains objects → IsSet objects set → is_or_contains objects m.object set ≡ false → depth_above 8 objects set + depth_below 8 objects m.object ≤ 8
      → (id : ℕ) (holders sets : List ℕ) → Climb objects id holders → ChainFrom after id sets → length holders + length (id ∷ sets) ≤ 8
  chain_is_short short is outside few id holders [] climb chain = joined objects short id holders [] climb (set_before id chain)
  chain_is_short short is outside few id holders (next ∷ sets) climb chain =
      elim (membership_before id next chain.0) [
        | inl was ↦ omega (arith, chain_is_short short is outside few next (id ∷ holders) sets (was, climb) chain.1)
        | inr new ↦
            let up : Climb objects set holders = subst (λ (n : ℕ). Climb objects n holders) (sym new.0) climb in
            let first : length holders + 1 ≤ 8 = joined objects short set holders [] up is in
            let above : length holders < depth_above 8 objects set = counted_above objects 8 set holders up (omega (arith, first)) in
            let reached : Reached entries m.object = by_root m.object (inl refl) in
            let down : ChainFrom objects m.object sets = chain_before outside m.object sets reached (subst (λ (n : ℕ). ChainFrom after n sets) (sym new.1) chain.1) in
            let second : length (m.object ∷ sets) ≤ 8 = short m.object sets down in
            let below : length sets < depth_below 8 objects m.object = counted_below objects 8 m.object sets down (omega (arith, second)) in
            omega (arith, above, below, few)
      ]

measured : (objects : List Object) (set object : ℕ) → nat_lt chain_limit (chain_through objects set object) ≡ false → depth_above 8 objects set + depth_below 8 objects object ≤ 8
unfolding chain_limit chain_through
measured objects set object is = grind (arith, tests)

-- The call.

unless : (b : Bool) (e : Errno) (c : CoreState) (y : Outcome) → HasShortChains c.objects → (b ≡ false → HasShortChains y.core.objects)
    → HasShortChains (if b then refuses e c else y).core.objects
unless b e c y short other =
    let P : Bool → Type 0 = λ v. b ≡ v → HasShortChains (cond v (refuses e c) y).core.objects in
    let go : (v : Bool) → P v = λ v. elim v as (λ w. P w) [ true ↦ (λ is. short) | false ↦ (λ is. other is) ] in
    go b refl

-- a member that `add` lets in leaves chains short
pub added_keeps_short : (objects : List Object) (id : ℕ) (m : Member) → HasShortChains objects → IsSet objects id → is_or_contains objects m.object id ≡ false
    → nat_lt chain_limit (chain_through objects id m.object) ≡ false → HasShortChains (changed (on_set (with_member m)) objects id)
added_keeps_short objects id m short is outside not_deep first sets chain =
    omega (arith, chain_is_short objects id m short is outside (measured objects id m.object not_deep) first [] sets tt chain)

member_keeps_short : (c : CoreState) → HasShortChains c.objects → (id : ℕ) (s : HandleSet) (m : Member) → IsSet c.objects id → HasShortChains (set_add_member c id s m).core.objects
member_keeps_short c short id s m is =
    unless (is_or_contains c.objects m.object id) errno.InvalidArgs c _ short (λ outside.
    unless (is_some (memory_of c.objects m.object)) errno.NotSupported c _ short (λ no_memory.
    unless (is_label_in s.members m.label) errno.AlreadyExists c _ short (λ new_label.
    unless (nat_lt chain_limit (chain_through c.objects id m.object)) errno.RecurseTooDeep c _ short (λ not_deep.
    unless (nat_le member_limit (length s.members)) errno.NoResources c _ short (λ room.
    added_keeps_short c.objects id m short is outside not_deep)))))

to_keeps_short : (c : CoreState) → HasShortChains c.objects → (id : ℕ) (m : Member) (s : Option HandleSet) → set_of c.objects id ≡ s → HasShortChains (set_add_to c id s m).core.objects
to_keeps_short c short id m None is = short
to_keeps_short c short id m (Some s) is = member_keeps_short c short id s m (ap (λ (o : Option HandleSet). is_some o) is)

pub adding_keeps_short : (c : CoreState) (app set handle : ℕ) (mask : Events) (cookie : ℕ) → HasShortChains c.objects → HasShortChains (set_add c app set handle mask cookie).core.objects
unfolding set_add
adding_keeps_short c app set handle mask cookie short =
    elim (entry_at (table_of c app) set) as (λ o. HasShortChains (set_add_entries c handle mask cookie o (entry_at (table_of c app) handle)).core.objects) [
      | None ↦ short
      | Some s ↦ elim (entry_at (table_of c app) handle) as (λ o. HasShortChains (set_add_entries c handle mask cookie (Some s) o).core.objects) [
        | None ↦ short
        | Some entry ↦ to_keeps_short c short s.object (new_member handle entry.object mask cookie) (set_of c.objects s.object) refl
      ]
    ]
