-- A member is added that nothing speaks against.
use Rattle.std.proofs.Common.{◌≡◌, ℕ, suc, ◌+◌, ◌<◌, ◌==◌, ◌||◌, Bool, true, false, not, cond, List, [], ◌∷◌, length, map, set, get_or, slice_get, Option, Some, None, refl, sym, ap, ◌∙◌, arith, subst, tests}
use Rattle.std.specs.Prelude.{nat_lt, nat_le}
use Rattle.std.specs.Global.{Vec}
use Rattle.std.specs.BTreeMap.{BTreeMap}
use Rattle.std.specs.Option.{IfSome}
use Rattle.std.specs.List.{find, position_or_len}
use Rattle.std.proofs.lemmas.Bool.Decides.{nat_tests}
use Rattle.std.proofs.lemmas.List.{length-map}
use Rattle.kernel_values.specs.declared.flags.Events.{Events}
use Rattle.kernel_values.specs.declared.state.CoreState.{CoreState}
use Rattle.kernel_types.specs.Events.{chain_limit}
use Rattle.kernel_types.specs.Objects.{set_of}
use Rattle.kernel_types.specs.Sets.{chain_through, is_label_in, is_or_contains, member_limit, set_add}
use Rattle.set_laws.specs.Chains.{HasShortChains}
use Rattle.handle_set.specs.declared.adding.Member.{Member}
use Rattle.handle_set.specs.declared.adding.SetRefused.TheVariants as refused
use Rattle.handle_set.specs.declared.records.TrackedMember.{TrackedMember}
use Rattle.handle_set.specs.declared.settle.OpenSet.{OpenSet}
use Rattle.handle_set.specs.Adding.{add_refusal, members_in, told_as, with_added, with_pushed}
use Rattle.handle_set.specs.Chains.{member_of, objects_of, set_value}
use Rattle.handle_set.specs.Holders.{IsHeld, is_holder}
use Rattle.handle_set.specs.Spreading.{IsExactBut}
use Rattle.handle_set.specs.Sets.{AreOnce, CanHave, Each, IsExact, IsKnown, IsRanked, IsSettled, IsUpToDate, are_of, has_id, has_labelled, has_ready, id_of, is_open, ready_in, settled_in, with_changed, with_members}
use Rattle.handle_set.proofs.Places.{get_set, got}
use Rattle.handle_set.proofs.Levels.{get_mapped}
use Rattle.handle_set.proofs.Changing.{brought_up, changed_but, changed_exact, changed_ids, changed_is, changed_known, each_push, each_set_at, found, found_id, ready_kept, told_of}
use Rattle.handle_set.proofs.Depths.{short_ranked, stays_short}
use Rattle.handle_set.proofs.Standing.{ranked_short, set_at}

-- where the set is open, its place is in the list
pub open_within : (sets : List OpenSet) (id : ℕ) → is_open sets id ≡ true → position_or_len (has_id id) sets < length sets
open_within [] id is = absurd (cc)
open_within (x ∷ xs) id is = by_test (x.id == id) is (open_within xs id)
  where
    by_test : (b : Bool) → (b || is_open xs id) ≡ true → (is_open xs id ≡ true → position_or_len (has_id id) xs < length xs) → cond (not b) (1 + position_or_len (has_id id) xs) 0 < suc (length xs)
    by_test true here rest = omega arith
    by_test false more rest = let less = rest more in omega arith

-- what speaks for a member that is not refused
pub record Allowed (sets : List OpenSet) (id : ℕ) (member : Member) : Type 0 where
  pub outside : is_or_contains (objects_of sets) member.object.serial id ≡ false
  pub label : has_labelled member.label (find (has_id id) sets) ≡ false
  pub shallow : nat_lt chain_limit (chain_through (objects_of sets) id member.object.serial) ≡ false
  pub room : nat_le member_limit (length (members_in (find (has_id id) sets))) ≡ false

pub allowed : (sets : List OpenSet) (id : ℕ) (member : Member) → add_refusal sets id member ≡ None → Allowed sets id member
allowed sets id member none =
    by_tests (is_or_contains (objects_of sets) member.object.serial id) (has_labelled member.label (find (has_id id) sets)) (nat_lt chain_limit (chain_through (objects_of sets) id member.object.serial)) (nat_le member_limit (length (members_in (find (has_id id) sets)))) refl refl refl refl none
  where
    by_tests : (a b d e : Bool) → is_or_contains (objects_of sets) member.object.serial id ≡ a → has_labelled member.label (find (has_id id) sets) ≡ b → nat_lt chain_limit (chain_through (objects_of sets) id member.object.serial) ≡ d → nat_le member_limit (length (members_in (find (has_id id) sets))) ≡ e → cond a (Some refused.Circle) (cond b (Some refused.Exists) (cond d (Some refused.TooDeep) (cond e (Some refused.Full) None))) ≡ None → Allowed sets id member
    by_tests true b d e is_a is_b is_d is_e is_none = absurd (cc)
    by_tests false true d e is_a is_b is_d is_e is_none = absurd (cc)
    by_tests false false true e is_a is_b is_d is_e is_none = absurd (cc)
    by_tests false false false true is_a is_b is_d is_e is_none = absurd (cc)
    by_tests false false false false is_a is_b is_d is_e is_none = record { outside = is_a; label = is_b; shallow = is_d; room = is_e }

labels_same : (members : List TrackedMember) (label : ℕ) → is_label_in (map member_of members) label ≡ has_labelled label (Some (record { id = 0; members = members }))
labels_same [] label = refl
labels_same (x ∷ xs) label = ap (λ b. (x.label == label) || b) (labels_same xs label)

module _ (sets : List OpenSet) (id place : ℕ) (s : OpenSet) (member : Member) (events : Events) (place_is : place ≡ position_or_len (has_id id) sets) (within : place < length sets) (s_is : s ≡ get_or sets place s) (settled : IsSettled sets) (none : add_refusal sets id member ≡ None) (can : CanHave sets member.object.serial events) where
  here : slice_get sets place ≡ Some s
  here = got sets place s within s_is

  some : find (has_id id) sets ≡ Some s
  some = found (λ ms. ms) sets id place place_is s here

  s_id : s.id ≡ id
  s_id = found_id (λ ms. ms) sets id place place_is s here

  abbrev told : TrackedMember
  told = told_as sets member events

  free : Allowed sets id member
  free = allowed sets id member none

  pub new_label : has_labelled member.label (Some s) ≡ false
  new_label = ap (has_labelled member.label) (sym some) ∙ free.label

  room : nat_le member_limit (length s.members) ≡ false
  room = ap (λ o. nat_le member_limit (length (members_in o))) (sym some) ∙ free.room

  pub has_room : length s.members < 64
  has_room = below (length s.members) room
    where
      below : (n : ℕ) → nat_le 64 n ≡ false → n < 64
      below n is = grind (arith, nat_tests, tests)

  abbrev IsLaw : Type 0
  IsLaw = (c : CoreState) (app set handle : ℕ) (mask : Events) (cookie : ℕ) → HasShortChains c.objects → HasShortChains (set_add c app set handle mask cookie).core.objects

  abbrev after : List OpenSet
  after = set sets place (with_changed (with_pushed told) s)

  pub short_after : IsLaw → HasShortChains (objects_of after)
  short_after law =
      let value = subst (λ n. set_of (objects_of sets) n ≡ Some (set_value s)) s_id (set_at sets settled.once place s here) in
      let label = labels_same s.members member.label ∙ new_label in
      let long = ap (λ n. nat_le member_limit n) (length-map s.members member_of) ∙ room in
      stays_short sets id place s member told refl here place_is value free.outside label free.shallow long (law _ 0 (member.label + 1) member.label member.mask member.cookie (ranked_short settled.ranked.0 sets settled.ranked.1))

  once_after : AreOnce (map id_of after)
  once_after = subst AreOnce (sym (changed_ids (with_pushed told) sets place s here)) settled.once

  ranked_after : IsLaw → IsRanked after
  ranked_after law = short_ranked (objects_of after) after (short_after law) (λ k t at. set_at after once_after k t at)

  known_after : IsKnown after
  known_after = changed_known (with_pushed told) sets place s here settled.known (each_push (λ t. t.inner ≡ is_open sets t.object.serial) s.members told (settled.known place s here) refl)

  told_after : Each (with_pushed told s.members) (λ t. are_of (ready_in sets t.object.serial) t.events)
  told_after = each_push (λ t. are_of (ready_in sets t.object.serial) t.events) s.members told (λ j v in_s. told_of (ready_in sets v.object.serial) v (get_mapped (settled_in sets) s.members j v in_s (settled.exact place s here))) can

  exact_but : IsExactBut s.id after
  exact_but = changed_but (with_pushed told) sets place s here settled.exact told_after

  exact_after : has_ready (with_changed (with_pushed told) s) ≡ has_ready s → IsExact after
  exact_after same = changed_exact (with_pushed told) sets place s here (λ k t at j u there. ready_kept sets place s (with_changed (with_pushed told) s) u.object.serial here refl same) settled.exact
      told_after

  -- the sets as the code leaves them
  module _ (members : List TrackedMember) (is : members ≡ with_pushed told s.members) where
    written : set sets place (with_members members (get_or sets place s)) ≡ after
    written = ap (λ ms. set sets place (with_members ms (get_or sets place s))) is ∙ ap (λ (x : OpenSet). set sets place (with_members (with_pushed told s.members) x)) (sym s_is)

    pub pushed_whole : set sets place (with_members members (get_or sets place s)) ≡ with_added id member events sets
    pushed_whole = written ∙ sym (changed_is (with_pushed told) sets id place place_is s here)

    pub pushed_ranked : IsLaw → IsRanked (set sets place (with_members members (get_or sets place s)))
    pushed_ranked law = subst IsRanked (sym written) (ranked_after law)

    pub pushed_known : IsKnown (set sets place (with_members members (get_or sets place s)))
    pushed_known = subst IsKnown (sym written) known_after

    pub pushed_others : (was : Bool) → IfSome (slice_get sets place) (λ t. was ≡ has_ready t) → IfSome (slice_get (set sets place (with_members members (get_or sets place s))) place) (λ t. has_ready t ≡ was → IsExact (set sets place (with_members members (get_or sets place s))))
    pushed_others was ready =
        let known : was ≡ has_ready s = rw here at ready in
        let P : List OpenSet → Type 0 = λ xs. IfSome (slice_get xs place) (λ t. has_ready t ≡ was → IsExact xs) in
        let Q : Option OpenSet → Type 0 = λ o. IfSome o (λ t. has_ready t ≡ was → IsExact after) in
        subst P (sym written) (subst Q (sym (get_set sets place (with_changed (with_pushed told) s) s here)) (λ same. exact_after (same ∙ known)))

    pub pushed_rest : IfSome (slice_get (set sets place (with_members members (get_or sets place s))) place) (λ t. IsExactBut t.id (set sets place (with_members members (get_or sets place s))))
    pushed_rest =
        let P : List OpenSet → Type 0 = λ xs. IfSome (slice_get xs place) (λ t. IsExactBut t.id xs) in
        let Q : Option OpenSet → Type 0 = λ o. IfSome o (λ t. IsExactBut t.id after) in
        subst P (sym written) (subst Q (sym (get_set sets place (with_changed (with_pushed told) s) s here)) exact_but)

    pub pushed_once : AreOnce (map id_of (set sets place (with_members members (get_or sets place s))))
    pushed_once = subst (λ xs. AreOnce (map id_of xs)) (sym written) once_after

    pub pushed_held : (holders : BTreeMap ℕ (Vec ℕ)) → IsHeld holders sets → is_holder holders member.object.serial id ≡ true → IsHeld holders (set sets place (with_members members (get_or sets place s)))
    pushed_held holders held holder =
        subst (IsHeld holders) (sym written)
        (each_set_at (with_pushed told) sets place s here (λ t. Each t.members (λ told. is_holder holders told.object.serial t.id ≡ true)) held
        (each_push (λ t. is_holder holders t.object.serial s.id ≡ true) s.members told (held place s here) (subst (λ n. is_holder holders member.object.serial n ≡ true) (sym s_id) holder)))

    pub pushed_settled : (now : List OpenSet) → IsUpToDate (set sets place (with_members members (get_or sets place s))) now → IsRanked now → IsSettled now
    pushed_settled now up ranked = brought_up (set sets place (with_members members (get_or sets place s))) now up pushed_once pushed_known ranked
