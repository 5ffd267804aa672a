-- One set's members are changed: what holds of all sets then.
use Rattle.std.proofs.Common.{◌≡◌, ◌⊎◌, ℕ, zero, suc, ◌<◌, ◌≤◌, ◌==◌, Bool, true, false, not, cond, List, [], ◌∷◌, ◌++◌, length, map, drop, set, get_or, slice_get, Option, Some, None, refl, sym, ap, ◌∙◌, inl, inr, arith, subst}
use Rattle.std.specs.Global.{Vec}
use Rattle.std.specs.BTreeMap.{BTreeMap}
use Rattle.std.specs.Option.{option_map, IfSome}
use Rattle.std.specs.List.{find, filter, position_or_len}
use Rattle.std.proofs.lemmas.Bool.{cases_eq}
use Rattle.std.proofs.lemmas.Bool.Decides.{nat_tests}
use Rattle.std.proofs.lemmas.List.{map-set}
use Rattle.std.proofs.lemmas.List.Folds.{find_at}
use Rattle.kernel_values.specs.declared.flags.Events.{Events}
use Rattle.object_store.specs.declared.key.ObjKey.{ObjKey}
use Rattle.handle_set.specs.declared.records.TrackedMember.{TrackedMember}
use Rattle.handle_set.specs.declared.settle.OpenSet.{OpenSet}
use Rattle.handle_set.specs.Holders.{IsHeld, is_holder}
use Rattle.handle_set.specs.Spreading.{IsExactBut}
use Rattle.handle_set.specs.Members.{is_ready, is_other, has_object, with_events, with_mask, after_pick, remasked, map_at, set_if}
use Rattle.handle_set.specs.Sets.{has_id, has_member, is_member, id_of, has_ready, ready_in, settled_told, settled_in, with_members, with_changed, members_changed, without_label, reported, is_open, Each, IsExact, IsKnown, IsRankedIn, IsRankedBy, IsRanked, IsSettled, IsUpToDate, AreOnce, are_of}
use Rattle.handle_set.proofs.Places.{get_set, get_other, set_same, some_same, got, get_map, get_past, map_at_is, none_passes}
use Rattle.handle_set.proofs.Levels.{flipped, now_at, open_kept, ready_other, same_ids, same_known, all_fixed, get_mapped}

-- what a change of the members leaves of each: its object, and what is told of it
abbrev pub IsFewer : (List TrackedMember → List TrackedMember) → Type 1
IsFewer change = (P : ObjKey → Bool → Events → Type 0) (ms : List TrackedMember) → Each ms (λ t. P t.object t.inner t.events) → Each (change ms) (λ t. P t.object t.inner t.events)

pub each_filter : (q : TrackedMember → Bool) (P : TrackedMember → Type 0) (xs : List TrackedMember) → Each xs P → Each (filter q xs) P
each_filter q P [] each k x here = absurd (cc)
each_filter q P (y ∷ ys) each k x here = by_test (q y) (each_filter q P ys (λ j z at. each (suc j) z at)) k x here
  where
    by_test : (b : Bool) → Each (filter q ys) P → Each (cond b (y ∷ filter q ys) (filter q ys)) P
    by_test true rest zero x here = let is = some_same y x here in subst P is (each zero y refl)
    by_test true rest (suc k) x here = rest k x here
    by_test false rest k x here = rest k x here

pub each_push : (P : TrackedMember → Type 0) (xs : List TrackedMember) (t : TrackedMember) → Each xs P → P t → Each (xs ++ t ∷ []) P
each_push P [] t each one zero x here = let is = some_same t x here in subst P is one
each_push P [] t each one (suc k) x here = absurd (cc)
each_push P (y ∷ ys) t each one zero x here = let is = some_same y x here in subst P is (each zero y refl)
each_push P (y ∷ ys) t each one (suc k) x here = each_push P ys t (λ j z at. each (suc j) z at) one k x here

each_pick : (P : TrackedMember → Type 0) (xs : List TrackedMember) → Each xs P → Each (reported xs) P
each_pick P xs each = by_found (find is_ready xs) refl
  where
    by_found : (o : Option TrackedMember) → find is_ready xs ≡ o → Each (after_pick xs o) P
    by_found None is = each
    by_found (Some t) is = each_push P (filter (λ other. not (other.label == t.label)) xs) t (each_filter (λ other. not (other.label == t.label)) P xs each) (each (position_or_len is_ready xs) t (sym (find_at is_ready xs) ∙ is))

each_set : (P : TrackedMember → Type 0) (xs : List TrackedMember) (k : ℕ) (x : TrackedMember) → Each xs P → P x → Each (set xs k x) P
each_set P [] k x each one j y here = absurd (cc)
each_set P (z ∷ zs) zero x each one zero y here = subst P (some_same x y here) one
each_set P (z ∷ zs) zero x each one (suc j) y here = each (suc j) y here
each_set P (z ∷ zs) (suc k) x each one zero y here = each zero y here
each_set P (z ∷ zs) (suc k) x each one (suc j) y here = each_set P zs k x (λ i t at. each (suc i) t at) one j y here

pub picking_fewer : IsFewer reported
picking_fewer P ms each = each_pick (λ t. P t.object t.inner t.events) ms each

pub deleting_fewer : (label : ℕ) → IsFewer (without_label label)
deleting_fewer label P ms each = each_filter (is_other label) (λ t. P t.object t.inner t.events) ms each

pub dropping_fewer : IsFewer (drop 1)
dropping_fewer P [] each k x here = absurd (cc)
dropping_fewer P (y ∷ ys) each k x here = each (suc k) x here

pub masking_fewer : (label : ℕ) (mask : Events) (cookie : ℕ) → IsFewer (remasked label mask cookie)
masking_fewer label mask cookie P ms each = by_place (slice_get ms (position_or_len (λ t. t.label == label) ms)) refl
  where
    by_place : (o : Option TrackedMember) → slice_get ms (position_or_len (λ t. t.label == label) ms) ≡ o → Each (set_if ms (position_or_len (λ t. t.label == label) ms) (option_map (with_mask mask cookie) o)) (λ t. P t.object t.inner t.events)
    by_place None is = each
    by_place (Some t) is = each_set (λ u. P u.object u.inner u.events) ms (position_or_len (λ u. u.label == label) ms) (with_mask mask cookie t) each (each (position_or_len (λ u. u.label == label) ms) t is)

-- a member is settled where it has been told what its object has
pub told_of : (ready : Option Bool) (told : TrackedMember) → settled_told ready told ≡ told → are_of ready told.events
told_of None told is = tt
told_of (Some ready) told is = sym (ap (λ (t : TrackedMember). t.events) is)

pub of_told : (ready : Option Bool) (told : TrackedMember) → are_of ready told.events → settled_told ready told ≡ told
of_told None told is = refl
of_told (Some ready) told is = ap (λ e. with_events e told) (sym is)

-- readiness of the others

pub ready_kept : (sets : List OpenSet) (k : ℕ) (s new : OpenSet) (id : ℕ) → slice_get sets k ≡ Some s → new.id ≡ s.id → has_ready new ≡ has_ready s → ready_in (set sets k new) id ≡ ready_in sets id
ready_kept [] k s new id here same ready = refl
ready_kept (x ∷ xs) zero s new id here same ready =
    let is = some_same x s here in
    ap (λ n. option_map has_ready (cond (n == id) (Some new) (find (has_id id) xs))) same
    ∙ by_test (s.id == id)
    ∙ ap (λ (y : OpenSet). option_map has_ready (cond (y.id == id) (Some y) (find (has_id id) xs))) (sym is)
  where
    by_test : (b : Bool) → option_map has_ready (cond b (Some new) (find (has_id id) xs)) ≡ option_map has_ready (cond b (Some s) (find (has_id id) xs))
    by_test true = ap Some ready
    by_test false = refl
ready_kept (x ∷ xs) (suc k) s new id here same ready = by_test (x.id == id) (ready_kept xs k s new id here same ready)
  where
    by_test : (b : Bool) → ready_in (set xs k new) id ≡ ready_in xs id → option_map has_ready (cond b (Some x) (find (has_id id) (set xs k new))) ≡ option_map has_ready (cond b (Some x) (find (has_id id) xs))
    by_test true rest = refl
    by_test false rest = rest

module _ (change : List TrackedMember → List TrackedMember) (sets : List OpenSet) (place : ℕ) (s : OpenSet) (here : slice_get sets place ≡ Some s) where
  pub changed_ids : map id_of (set sets place (with_changed change s)) ≡ map id_of sets
  changed_ids = map-set id_of sets place (with_changed change s) ∙ set_same (map id_of sets) place s.id (get_map id_of sets place s here)

  -- what each set has, the changed one too
  pub each_set_at : (P : OpenSet → Type 0) → Each sets P → P (with_changed change s) → Each (set sets place (with_changed change s)) P
  each_set_at P each one k t at = by_place (cases_eq k place)
    where
      by_place : (k ≡ place) ⊎ (k ≡ place → ⊥) → P t
      by_place (inr other) = each k t (sym (get_other sets k place (with_changed change s) other) ∙ at)
      by_place (inl same) = subst P (now_at sets place s (with_changed change s) t k here at same) one

  pub changed_ranked : (rank : ℕ → ℕ) → IsRankedBy rank sets → Each (change s.members) (λ t. rank t.object.serial < rank s.id) → IsRankedBy rank (set sets place (with_changed change s))
  changed_ranked rank ranked each = each_set_at (IsRankedIn rank) ranked ((ranked place s here).0, each)

  pub changed_known : IsKnown sets → Each (change s.members) (λ t. t.inner ≡ is_open sets t.object.serial) → IsKnown (set sets place (with_changed change s))
  changed_known known each k t at j told there =
      each_set_at (λ u. Each u.members (λ v. v.inner ≡ is_open sets v.object.serial)) known each k t at j told there
      ∙ sym (open_kept sets place s (with_changed change s) told.object.serial here refl)

  -- where the readiness that members are told of is as before
  pub changed_exact : (Each (set sets place (with_changed change s)) (λ t. Each t.members (λ told. ready_in (set sets place (with_changed change s)) told.object.serial ≡ ready_in sets told.object.serial))) → IsExact sets → Each (change s.members) (λ t. are_of (ready_in sets t.object.serial) t.events) → IsExact (set sets place (with_changed change s))
  changed_exact same exact each k t at =
      all_fixed (settled_in (set sets place (with_changed change s))) t.members (λ j told there.
      ap (λ ready. settled_told ready told) (same k t at j told there)
      ∙ of_told (ready_in sets told.object.serial) told (all_told k t at j told there))
    where
      all_told : Each (set sets place (with_changed change s)) (λ u. Each u.members (λ v. are_of (ready_in sets v.object.serial) v.events))
      all_told = each_set_at (λ u. Each u.members (λ v. are_of (ready_in sets v.object.serial) v.events)) (λ i u at_i j v in_u. told_of (ready_in sets v.object.serial) v (get_mapped (settled_in sets) u.members j v in_u (exact i u at_i))) each

  -- all but what is told of the set itself
  pub changed_but : IsExact sets → Each (change s.members) (λ t. are_of (ready_in sets t.object.serial) t.events) → IsExactBut s.id (set sets place (with_changed change s))
  changed_but exact each k t at j told there other =
      subst (λ ready. are_of ready told.events) (sym (ready_other sets place s (with_changed change s) told.object.serial here refl (flipped told.object.serial s.id other)))
      (each_set_at (λ u. Each u.members (λ v. are_of (ready_in sets v.object.serial) v.events)) (λ i u at_i j v in_u. told_of (ready_in sets v.object.serial) v (get_mapped (settled_in sets) u.members j v in_u (exact i u at_i))) each k t at j told there)

  -- a change that adds nothing
  module _ (fewer : IsFewer change) (settled : IsSettled sets) where
    pub fewer_ranked : IsRanked (set sets place (with_changed change s))
    fewer_ranked = (settled.ranked.0, changed_ranked settled.ranked.0 settled.ranked.1 (fewer (λ o i e. settled.ranked.0 o.serial < settled.ranked.0 s.id) s.members (settled.ranked.1 place s here).1))

    pub fewer_known : IsKnown (set sets place (with_changed change s))
    fewer_known = changed_known settled.known (fewer (λ o i e. i ≡ is_open sets o.serial) s.members (settled.known place s here))

    fewer_told : Each (change s.members) (λ t. are_of (ready_in sets t.object.serial) t.events)
    fewer_told = fewer (λ o i e. are_of (ready_in sets o.serial) e) s.members (λ j v in_s. told_of (ready_in sets v.object.serial) v (get_mapped (settled_in sets) s.members j v in_s (settled.exact place s here)))

    pub fewer_exact : has_ready (with_changed change s) ≡ has_ready s → IsExact (set sets place (with_changed change s))
    fewer_exact same = changed_exact (λ k t at j told there. ready_kept sets place s (with_changed change s) told.object.serial here refl same) settled.exact fewer_told

    pub fewer_but : IsExactBut s.id (set sets place (with_changed change s))
    fewer_but = changed_but settled.exact fewer_told

    pub fewer_once : AreOnce (map id_of (set sets place (with_changed change s)))
    fewer_once = subst AreOnce (sym changed_ids) settled.once

    pub fewer_settled : has_ready (with_changed change s) ≡ has_ready s → IsSettled (set sets place (with_changed change s))
    fewer_settled same = record { once = fewer_once; ranked = fewer_ranked; known = fewer_known; exact = fewer_exact same }

    -- a set that is a member of none says nothing of others
    module _ (alone : is_member sets s.id ≡ false) where
      pub alone_settled : IsSettled (set sets place (with_changed change s))
      alone_settled = record { once = fewer_once; ranked = fewer_ranked; known = fewer_known; exact = changed_exact (λ k t at j told there. ready_other sets place s (with_changed change s) told.object.serial here refl (others k t at j told there)) settled.exact fewer_told }
        where
          flip : (a b : ℕ) → (a == b) ≡ false → (b == a) ≡ false
          flip a b is = grind (arith, nat_tests)

          unheld : (xs : List OpenSet) (id : ℕ) → is_member xs id ≡ false → Each xs (λ t. Each t.members (λ told. (id == told.object.serial) ≡ false))
          unheld xs id none k t at j told there = flip told.object.serial id (none_passes (has_object id) t.members (none_passes (has_member id) xs none k t at) j told there)

          others : Each (set sets place (with_changed change s)) (λ t. Each t.members (λ told. (s.id == told.object.serial) ≡ false))
          others = each_set_at (λ t. Each t.members (λ told. (s.id == told.object.serial) ≡ false)) (unheld sets s.id alone) (fewer (λ o i e. (s.id == o.serial) ≡ false) s.members (unheld sets s.id alone place s here))

-- where the set stands, as the code finds it
module _ (change : List TrackedMember → List TrackedMember) (sets : List OpenSet) (id place : ℕ) (place_is : place ≡ position_or_len (has_id id) sets) where
  pub past : length sets ≤ place → find (has_id id) sets ≡ None
  past high = find_at (has_id id) sets ∙ ap (slice_get sets) (sym place_is) ∙ get_past sets place high

  pub unchanged : length sets ≤ place → members_changed change id sets ≡ sets
  unchanged high =
      ap (λ k. map_at (with_changed change) k sets) (sym place_is)
      ∙ ap (λ o. set_if sets place (option_map (with_changed change) o)) (get_past sets place high)

  module _ (s : OpenSet) (here : slice_get sets place ≡ Some s) where
    pub found : find (has_id id) sets ≡ Some s
    found = find_at (has_id id) sets ∙ ap (slice_get sets) (sym place_is) ∙ here

    pub found_id : s.id ≡ id
    found_id = passes sets found
      where
        equal : (a b : ℕ) → (a == b) ≡ true → a ≡ b
        equal a b is = grind (arith, nat_tests)

        passes : (xs : List OpenSet) → find (has_id id) xs ≡ Some s → s.id ≡ id
        passes [] some = absurd (cc)
        passes (x ∷ xs) some = by_test (x.id == id) refl some (passes xs)
          where
            by_test : (b : Bool) → (x.id == id) ≡ b → cond b (Some x) (find (has_id id) xs) ≡ Some s → (find (has_id id) xs ≡ Some s → s.id ≡ id) → s.id ≡ id
            by_test true is first rest = ap (λ (y : OpenSet). y.id) (sym (some_same x s first)) ∙ equal x.id id is
            by_test false is more rest = rest more

    pub changed_is : members_changed change id sets ≡ set sets place (with_changed change s)
    changed_is = ap (λ k. map_at (with_changed change) k sets) (sym place_is) ∙ map_at_is (with_changed change) sets place s here

pub brought_up : (changed now : List OpenSet) → IsUpToDate changed now → AreOnce (map id_of changed) → IsKnown changed → IsRanked now → IsSettled now
brought_up changed now up once known ranked = record {
  once = subst AreOnce (sym (same_ids now changed up.shape)) once;
  ranked = ranked;
  known = same_known now changed up.shape known;
  exact = up.exact;
}

pub rests : (sets : List OpenSet) → IsSettled sets → (changed : List OpenSet) → changed ≡ sets → IsUpToDate changed sets
rests sets settled changed is = subst (λ xs. IsUpToDate xs sets) (sym is) (record { shape = refl; leaves = λ events follow. follow; exact = settled.exact })

-- the sets as the code leaves them when it has changed the members at a place, before they are brought up to date
module _ (change : List TrackedMember → List TrackedMember) (sets : List OpenSet) (id place : ℕ) (s : OpenSet) (place_is : place ≡ position_or_len (has_id id) sets) (within : place < length sets) (s_is : s ≡ get_or sets place s) (members : List TrackedMember) (is : members ≡ change s.members) where
  here : slice_get sets place ≡ Some s
  here = got sets place s within s_is

  pub written : set sets place (with_members members (get_or sets place s)) ≡ set sets place (with_changed change s)
  written = ap (λ ms. set sets place (with_members ms (get_or sets place s))) is ∙ ap (λ (x : OpenSet). set sets place (with_members (change s.members) x)) (sym s_is)

  pub whole : set sets place (with_members members (get_or sets place s)) ≡ members_changed change id sets
  whole = written ∙ sym (changed_is change sets id place place_is s here)

  module _ (fewer : IsFewer change) (settled : IsSettled sets) where
    pub left_ranked : IsRanked (set sets place (with_members members (get_or sets place s)))
    left_ranked = subst IsRanked (sym written) (fewer_ranked change sets place s here fewer settled)

    pub left_known : IsKnown (set sets place (with_members members (get_or sets place s)))
    left_known = subst IsKnown (sym written) (fewer_known change sets place s here fewer settled)

    pub left_others : (was : Bool) → IfSome (slice_get sets place) (λ t. was ≡ has_ready t) → IfSome (slice_get (set sets place (with_members members (get_or sets place s))) place) (λ t. has_ready t ≡ was → IsExact (set sets place (with_members members (get_or sets place s))))
    left_others was ready =
        let known : was ≡ has_ready s = rw here at ready in
        let P : List OpenSet → Type 0 = λ xs. IfSome (slice_get xs place) (λ t. has_ready t ≡ was → IsExact xs) in
        let Q : Option OpenSet → Type 0 = λ o. IfSome o (λ t. has_ready t ≡ was → IsExact (set sets place (with_changed change s))) in
        subst P (sym written) (subst Q (sym (get_set sets place (with_changed change s) s here)) (λ same. fewer_exact change sets place s here fewer settled (same ∙ known)))

    pub left_rest : IfSome (slice_get (set sets place (with_members members (get_or sets place s))) place) (λ t. IsExactBut t.id (set sets place (with_members members (get_or sets place s))))
    left_rest =
        let P : List OpenSet → Type 0 = λ xs. IfSome (slice_get xs place) (λ t. IsExactBut t.id xs) in
        let Q : Option OpenSet → Type 0 = λ o. IfSome o (λ t. IsExactBut t.id (set sets place (with_changed change s))) in
        subst P (sym written) (subst Q (sym (get_set sets place (with_changed change s) s here)) (fewer_but change sets place s here fewer settled))

    pub left_once : AreOnce (map id_of (set sets place (with_members members (get_or sets place s))))
    left_once = subst (λ xs. AreOnce (map id_of xs)) (sym written) (fewer_once change sets place s here fewer settled)

    pub left_held : (holders : BTreeMap ℕ (Vec ℕ)) → IsHeld holders sets → IsHeld holders (set sets place (with_members members (get_or sets place s)))
    left_held holders held =
        subst (IsHeld holders) (sym written)
        (each_set_at change sets place s here (λ t. Each t.members (λ told. is_holder holders told.object.serial t.id ≡ true)) held
        (fewer (λ o i e. is_holder holders o.serial s.id ≡ true) s.members (held place s here)))

    pub left_settled : (now : List OpenSet) → IsUpToDate (set sets place (with_members members (get_or sets place s))) now → IsRanked now → IsSettled now
    left_settled now up ranked = brought_up (set sets place (with_members members (get_or sets place s))) now up left_once left_known ranked
