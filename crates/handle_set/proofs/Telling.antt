-- An object is told in all sets: what holds of all sets then.
use Rattle.std.proofs.Common.{◌≡◌, ℕ, ◌==◌, Bool, true, false, cond, List, [], ◌∷◌, map, slice_get, Some, refl, sym, ap, ◌∙◌, subst}
use Rattle.std.specs.Option.{option_map}
use Rattle.std.proofs.lemmas.Bool.{false≢true}
use Rattle.kernel_values.specs.declared.flags.Events.{Events}
use Rattle.handle_set.specs.declared.records.TrackedMember.{TrackedMember}
use Rattle.handle_set.specs.declared.settle.OpenSet.{OpenSet}
use Rattle.handle_set.specs.Members.{with_events, with_told}
use Rattle.handle_set.specs.Sets.{has_ready, ready_events, ready_in, settled_in, id_of, is_open, Each, IsKnown, IsSettled, IsUpToDate, AreOnce, LeavesFollow, set_told, are_of, CanHave}
use Rattle.handle_set.specs.Spreading.{IsExactBut, IsSpread, everyone}
use Rattle.handle_set.proofs.Places.{get_map, map_each}
use Rattle.handle_set.proofs.Levels.{equal_ids, get_mapped, told_object, told_open, told_ranked, told_shape, same_ranked}
use Rattle.handle_set.proofs.Changing.{told_of, brought_up}
use Rattle.handle_set.proofs.Spreading.{find_once, is_open_at, spread_exact, spread_leaves}

pub told_ids : (object : ℕ) (events : Events) (sets : List OpenSet) → map id_of (map (set_told object events) sets) ≡ map id_of sets
told_ids object events [] = refl
told_ids object events (x ∷ xs) = ap (λ ns. x.id ∷ ns) (told_ids object events xs)

kept_inner : (events : Events) (told : TrackedMember) (b : Bool) → (cond b (with_events events told) told).inner ≡ told.inner
kept_inner events told true = refl
kept_inner events told false = refl

pub told_known : (object : ℕ) (events : Events) (sets : List OpenSet) → IsKnown sets → IsKnown (map (set_told object events) sets)
told_known object events sets known = map_each (set_told object events) (λ s. Each s.members (λ told. told.inner ≡ is_open (map (set_told object events) sets) told.object.serial)) sets (λ k s at.
    map_each (with_told object events) (λ told. told.inner ≡ is_open (map (set_told object events) sets) told.object.serial) s.members (λ j told there.
    kept_inner events told (told.object.serial == object) ∙ known k s at j told there ∙ sym (told_open object events sets told.object.serial) ∙ ap (λ o. is_open (map (set_told object events) sets) o.serial) (sym (told_object object events told))))

pub told_settled : (object : ℕ) (events : Events) (sets now : List OpenSet) → IsSettled sets → IsUpToDate (map (set_told object events) sets) now → IsSettled now
told_settled object events sets now settled up =
    brought_up (map (set_told object events) sets) now up (subst AreOnce (sym (told_ids object events sets)) settled.once) (told_known object events sets settled.known)
    (settled.ranked.0, same_ranked settled.ranked.0 now (map (set_told object events) sets) up.shape (told_ranked object events settled.ranked.0 sets settled.ranked.1))

-- the object was told in all sets, and what is above them

module _ (object : ℕ) (events : Events) (sets now : List OpenSet) (settled : IsSettled sets) (can : CanHave sets object events) (spread : IsSpread everyone object events sets now) where
  but : IsExactBut object sets
  but k s at j t there other = told_of (ready_in sets t.object.serial) t (get_mapped (settled_in sets) s.members j t there (settled.exact k s at))

  -- what the sets with the object told say of a member
  told_at : (f : ℕ → ℕ) → LeavesFollow f (map (set_told object events) sets) → (k : ℕ) (s : OpenSet) → slice_get sets k ≡ Some s → (j : ℕ) (t : TrackedMember) → slice_get s.members j ≡ Some t → (b : Bool) → (t.object.serial == object) ≡ b → is_open sets t.object.serial ≡ false → (cond b (with_events events t) t).events.0 ≡ f t.object.serial
  told_at f follow k s at j t there b is closed =
      let told = follow k (set_told object events s) (get_map (set_told object events) sets k s at) j (with_told object events t) (get_map (with_told object events) s.members j t there) in
      let P : TrackedMember → Type 0 = λ u. is_open (map (set_told object events) sets) u.object.serial ≡ false → u.events.0 ≡ f u.object.serial in
      by_test b (subst P (ap (λ c. cond c (with_events events t) t) is) told) (told_open object events sets t.object.serial ∙ closed)
    where
      by_test : (c : Bool) → (is_open (map (set_told object events) sets) (cond c (with_events events t) t).object.serial ≡ false → (cond c (with_events events t) t).events.0 ≡ f (cond c (with_events events t) t).object.serial) → is_open (map (set_told object events) sets) t.object.serial ≡ false → (cond c (with_events events t) t).events.0 ≡ f t.object.serial
      by_test true told shut = told shut
      by_test false told shut = told shut

  pub spread_told : IsUpToDate (map (set_told object events) sets) now
  spread_told = record {
    shape = spread.shape ∙ sym (told_shape object events sets);
    leaves = λ f follow. spread_leaves object events sets now spread can f
        (λ k s at j t there other closed. told_at f follow k s at j t there false other closed)
        (λ k s at j t there own closed. told_at f follow k s at j t there true own closed);
    exact = spread_exact object events sets now spread can but;
  }

-- a set's readiness was told
pub spread_after : (sets now : List OpenSet) (place : ℕ) (s : OpenSet) → slice_get sets place ≡ Some s → AreOnce (map id_of sets) → IsExactBut s.id sets → IsSpread everyone s.id (ready_events (has_ready s)) sets now → IsUpToDate sets now
spread_after sets now place s here once but spread = record {
  shape = spread.shape;
  leaves = λ f follow. spread_leaves s.id (ready_events (has_ready s)) sets now spread can f
      (λ k t at j u there other closed. follow k t at j u there closed)
      (λ k t at j u there own closed. absurd (false≢true (sym closed ∙ ap (is_open sets) (equal_ids u.object.serial s.id own) ∙ is_open_at sets place s here)));
  exact = spread_exact s.id (ready_events (has_ready s)) sets now spread can but;
}
  where
    can : CanHave sets s.id (ready_events (has_ready s))
    can = subst (λ o. are_of (option_map has_ready o) (ready_events (has_ready s))) (sym (find_once sets place s once here)) refl
