-- Items of lists by their places.
use Rattle.std.proofs.Common.{◌≡◌, ℕ, zero, suc, ◌<◌, ◌≤◌, ◌||◌, Bool, true, false, List, [], ◌∷◌, ◌++◌, length, map, take, drop, set, get_or, slice_get, Some, None, refl, sym, ap, ◌∙◌, arith, subst}
use Rattle.std.specs.Option.{option_map}
use Rattle.std.specs.List.{list_any}
use Rattle.std.proofs.lemmas.List.{take_at}
use Rattle.handle_set.specs.Members.{map_at, set_if}
use Rattle.handle_set.specs.Sets.{Each}

pub get_within : {X : Type 0} (xs : List X) (k : ℕ) (x : X) → slice_get xs k ≡ Some x → k < length xs
get_within [] k x here = absurd (cc)
get_within (y ∷ ys) zero x here = omega arith
get_within (y ∷ ys) (suc k) x here = let less = get_within ys k x here in omega arith

pub get_set : {X : Type 0} (xs : List X) (k : ℕ) (x y : X) → slice_get xs k ≡ Some y → slice_get (set xs k x) k ≡ Some x
get_set [] k x y here = absurd (cc)
get_set (z ∷ zs) zero x y here = refl
get_set (z ∷ zs) (suc k) x y here = get_set zs k x y here

pub get_other : {X : Type 0} (xs : List X) (k n : ℕ) (x : X) → (k ≡ n → ⊥) → slice_get (set xs n x) k ≡ slice_get xs k
get_other [] k n x differs = refl
get_other (y ∷ ys) zero zero x differs = absurd (differs refl)
get_other (y ∷ ys) zero (suc n) x differs = refl
get_other (y ∷ ys) (suc k) zero x differs = refl
get_other (y ∷ ys) (suc k) (suc n) x differs = get_other ys k n x (λ e. differs (ap suc e))

pub set_same : {X : Type 0} (xs : List X) (k : ℕ) (x : X) → slice_get xs k ≡ Some x → set xs k x ≡ xs
set_same [] k x here = refl
set_same (y ∷ ys) zero x here = let is : y ≡ x = cc in ap (λ z. z ∷ ys) (sym is)
set_same (y ∷ ys) (suc k) x here = ap (λ zs. y ∷ zs) (set_same ys k x here)

pub map_same : {X : Type 0} (f g : X → X) (xs : List X) → Each xs (λ x. f x ≡ g x) → map f xs ≡ map g xs
map_same f g [] same = refl
map_same f g (x ∷ xs) same = rw (same zero x refl, map_same f g xs (λ k y here. same (suc k) y here)) refl

pub map_map : {X : Type 0} (f g : X → X) (xs : List X) → map f (map g xs) ≡ map (λ x. f (g x)) xs
map_map f g [] = refl
map_map f g (x ∷ xs) = ap (λ ys. f (g x) ∷ ys) (map_map f g xs)

-- an item of a mapped list
pub map_each : {X : Type 0} (f : X → X) (P : X → Type 0) (xs : List X) → Each xs (λ x. P (f x)) → Each (map f xs) P
map_each f P [] each k x here = absurd (cc)
map_each {X} f P (y ∷ ys) each zero x here = let is : f y ≡ x = cc in subst P is (each zero y refl)
map_each f P (y ∷ ys) each (suc k) x here = map_each f P ys (λ j z at. each (suc j) z at) k x here

pub some_same : {X : Type 0} (x y : X) → Some x ≡ Some y → x ≡ y
some_same x y e = cc

pub get_some : {X : Type 0} (xs : List X) (k : ℕ) → k < length xs → (x : X) × (slice_get xs k ≡ Some x)
get_some [] k within = absurd (omega arith)
get_some (y ∷ ys) zero within = (y, refl)
get_some (y ∷ ys) (suc k) within = get_some ys k (omega arith)

pub got : {X : Type 0} (xs : List X) (k : ℕ) (x : X) → k < length xs → x ≡ get_or xs k x → slice_get xs k ≡ Some x
got [] k x within is = absurd (omega arith)
got (y ∷ ys) zero x within is = ap Some (sym is)
got (y ∷ ys) (suc k) x within is = got ys k x (omega arith) is

pub map_at_is : {X : Type 0} (f : X → X) (xs : List X) (k : ℕ) (x : X) → slice_get xs k ≡ Some x → map_at f k xs ≡ set xs k (f x)
map_at_is f xs k x here = ap (λ o. set_if xs k (option_map f o)) here

pub map_at_same : {X : Type 0} (f : X → X) (xs : List X) (k : ℕ) (x : X) → slice_get xs k ≡ Some x → f x ≡ x → map_at f k xs ≡ xs
map_at_same f xs k x here same = map_at_is f xs k x here ∙ ap (λ y. set xs k y) same ∙ set_same xs k x here

pub get_map : {X Y : Type 0} (f : X → Y) (xs : List X) (k : ℕ) (x : X) → slice_get xs k ≡ Some x → slice_get (map f xs) k ≡ Some (f x)
get_map f [] k x here = absurd (cc)
get_map f (y ∷ ys) zero x here = ap (λ z. Some (f z)) (some_same y x here)
get_map f (y ∷ ys) (suc k) x here = get_map f ys k x here

pub any_same : {X : Type 0} (p q : X → Bool) (xs : List X) → Each xs (λ x. p x ≡ q x) → list_any p xs ≡ list_any q xs
any_same p q [] same = refl
any_same p q (x ∷ xs) same = rw (same zero x refl, any_same p q xs (λ k y there. same (suc k) y there)) refl

pub written : {X : Type 0} (xs ys : List X) → length ys ≡ length xs → take (length xs) (ys ++ drop (length ys) xs) ≡ ys
written xs ys same = take_at ys (drop (length ys) xs) (length xs) same

pub got_or : {X : Type 0} (xs : List X) (k : ℕ) (d : X) → k < length xs → slice_get xs k ≡ Some (get_or xs k d)
got_or [] k d within = absurd (omega arith)
got_or (y ∷ ys) zero d within = refl
got_or (y ∷ ys) (suc k) d within = got_or ys k d (omega arith)

pub get_past : {X : Type 0} (xs : List X) (k : ℕ) → length xs ≤ k → slice_get xs k ≡ None
get_past [] k past = refl
get_past (x ∷ xs) zero past = absurd (omega arith)
get_past (x ∷ xs) (suc k) past = get_past xs k (omega arith)

-- where no item passes a test
pub none_passes : {X : Type 0} (p : X → Bool) (xs : List X) → list_any p xs ≡ false → (k : ℕ) (x : X) → slice_get xs k ≡ Some x → p x ≡ false
none_passes p [] none k x here = absurd (cc)
none_passes p (y ∷ ys) none zero x here = let is = some_same y x here in rw (← is) (first (p y) (list_any p ys) none)
  where
    first : (a b : Bool) → (a || b) ≡ false → a ≡ false
    first true b is = absurd (cc)
    first false b is = refl
none_passes p (y ∷ ys) none (suc k) x here = none_passes p ys (later (p y) (list_any p ys) none) k x here
  where
    later : (a b : Bool) → (a || b) ≡ false → b ≡ false
    later true b is = absurd (cc)
    later false b is = is
