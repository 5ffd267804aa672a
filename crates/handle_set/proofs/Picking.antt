-- A report leaves a set as ready as it was.
use Rattle.std.proofs.Common.{◌≡◌, ◌||◌, Bool, true, false, not, cond, ◌==◌, List, [], ◌∷◌, ◌++◌, Option, Some, None, refl, sym, ◌∙◌}
use Rattle.std.specs.List.{find, filter, list_any}
use Rattle.handle_set.specs.declared.records.TrackedMember.{TrackedMember}
use Rattle.handle_set.specs.Members.{is_ready, after_pick}
use Rattle.handle_set.proofs.Places.{some_same}

found_any : (p : TrackedMember → Bool) (xs : List TrackedMember) (t : TrackedMember) → find p xs ≡ Some t → (list_any p xs ≡ true) × (p t ≡ true)
found_any p [] t found = absurd (cc)
found_any p (x ∷ xs) t found = by_test (p x) refl found (found_any p xs t)
  where
    by_test : (b : Bool) → p x ≡ b → cond b (Some x) (find p xs) ≡ Some t → (find p xs ≡ Some t → (list_any p xs ≡ true) × (p t ≡ true)) → ((b || list_any p xs) ≡ true) × (p t ≡ true)
    by_test true is here rest = let same = some_same x t here in (refl, rw (← same) is)
    by_test false is here rest = rest here

any_last : (p : TrackedMember → Bool) (xs : List TrackedMember) (t : TrackedMember) → p t ≡ true → list_any p (xs ++ t ∷ []) ≡ true
any_last p [] t is = rw is refl
any_last p (x ∷ xs) t is = by_test (p x) (any_last p xs t is)
  where
    by_test : (b : Bool) → list_any p (xs ++ t ∷ []) ≡ true → (b || list_any p (xs ++ t ∷ [])) ≡ true
    by_test true rest = refl
    by_test false rest = rest

pub any_pick : (xs : List TrackedMember) → list_any is_ready (after_pick xs (find is_ready xs)) ≡ list_any is_ready xs
any_pick xs = by_found (find is_ready xs) refl
  where
    by_found : (o : Option TrackedMember) → find is_ready xs ≡ o → list_any is_ready (after_pick xs o) ≡ list_any is_ready xs
    by_found None is = refl
    by_found (Some t) is = let found = found_any is_ready xs t is in any_last is_ready (filter (λ other. not (other.label == t.label)) xs) t found.1 ∙ sym found.0
