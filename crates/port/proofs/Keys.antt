-- Lists of keys and of their serial numbers.
use Rattle.std.proofs.Common.{◌≡◌, ◌==◌, ◌++◌, ◌||◌, ℕ, Bool, true, false, cond, List, [], ◌∷◌, length, filter, drop, slice_get, Option, Some, None, option_map, refl, sym, ap, ◌∙◌, arith}
use Rattle.std.specs.Option.{option_to_list}
use Rattle.kernel_types.specs.Reach.{is_in}
use Rattle.object_store.specs.declared.key.ObjKey.{ObjKey}
use Rattle.object_store.specs.Keys.{serial_of, serials}
use Rattle.port.specs.Pending.{is_other, is_other_key}

pub rest_serials : (keys : List ObjKey) → serials (drop 1 keys) ≡ drop 1 (serials keys)
rest_serials [] = refl
rest_serials (key ∷ keys) = refl

pub first_popped : (r : Option ObjKey) (old new : List ObjKey) → old ≡ option_to_list r ++ new → new ≡ drop 1 old → option_map serial_of r ≡ slice_get (serials old) 0
first_popped None [] new e rest = refl
first_popped None (key ∷ keys) new e rest = let more = ap length (e ∙ rest) in absurd (omega (arith, more))
first_popped (Some key) old new e rest = ap (λ keys. slice_get (serials keys) 0) (sym e)

pub kept_serials : (server : ℕ) (keys : List ObjKey) → serials (filter (is_other_key server) keys) ≡ filter (is_other server) (serials keys)
kept_serials server [] = refl
kept_serials server (key ∷ keys) = by_test (is_other server key.serial) (kept_serials server keys)
  where
    by_test : (b : Bool) → serials (filter (is_other_key server) keys) ≡ filter (is_other server) (serials keys) → serials (cond b (key ∷ filter (is_other_key server) keys) (filter (is_other_key server) keys)) ≡ cond b (key.serial ∷ filter (is_other server) (serials keys)) (filter (is_other server) (serials keys))
    by_test true rest = ap (λ xs. key.serial ∷ xs) rest
    by_test false rest = rest

pub pushed_serials : (keys : List ObjKey) (key : ObjKey) → serials (keys ++ key ∷ []) ≡ serials keys ++ key.serial ∷ []
pushed_serials [] key = refl
pushed_serials (first ∷ keys) key = ap (λ xs. first.serial ∷ xs) (pushed_serials keys key)

pub in_either : (first second keys : List ObjKey) (n : ℕ) → first ++ second ≡ keys → is_in (serials keys) n ≡ (is_in (serials first) n || is_in (serials second) n)
in_either [] second keys n e = ap (λ xs. is_in (serials xs) n) (sym e)
in_either (key ∷ first) second keys n e = ap (λ xs. is_in (serials xs) n) (sym e) ∙ by_test (key.serial == n) (in_either first second (first ++ second) n refl)
  where
    by_test : (b : Bool) → is_in (serials (first ++ second)) n ≡ (is_in (serials first) n || is_in (serials second) n) → (b || is_in (serials (first ++ second)) n) ≡ ((b || is_in (serials first) n) || is_in (serials second) n)
    by_test true rest = refl
    by_test false rest = rest
