-- What a table finds at a number, before and after a bit and a place change.
use Rattle.std.proofs.Common.{◌≡◌, ◌≢◌, ℕ, zero, suc, ◌*◌, ◌%◌, ◌^◌, ◌<◌, ◌≤◌, ◌==◌, Bool, true, false, cond, List, [], ◌∷◌, length, get_or, set, slice_get, Option, Some, None, bit_and, bit_or, refl, sym, ap, ◌∙◌, inl, inr, arith}
use Rattle.std.proofs.lemmas.Bool.{cases_lt}
use Rattle.std.proofs.lemmas.Bool.Decides.{nat_tests}
use Rattle.std.specs.Int.{bit_at, bit_not, w64}
use Rattle.std.specs.Option.{option_map}
use Rattle.std.proofs.lemmas.Nat.Bits.{bit_at_set_same, bit_at_set_other, bit_at_clear_same, bit_at_clear_other, bit_at_above, bit_at-lt}
use Rattle.kernel_values.specs.declared.state.TableEntry.{TableEntry}
use Rattle.handle_table.specs.declared.table.Slot.{Slot}
use Rattle.handle_table.specs.Places.{slot_entry, place_entry}

-- reading a list of places
get_past : (places : List Slot) (k : ℕ) → length places ≤ k → slice_get places k ≡ None
get_past [] k past = refl
get_past (x ∷ xs) zero past = absurd (omega arith)
get_past (x ∷ xs) (suc k) past = get_past xs k (omega arith)

get_here : (places : List Slot) (k : ℕ) (d : Slot) → k < length places → slice_get places k ≡ Some (get_or places k d)
get_here [] k d within = absurd (omega arith)
get_here (x ∷ xs) zero d within = refl
get_here (x ∷ xs) (suc k) d within = get_here xs k d (omega arith)

get_set : (places : List Slot) (k : ℕ) (x : Slot) → k < length places → slice_get (set places k x) k ≡ Some x
get_set [] k x within = absurd (omega arith)
get_set (y ∷ ys) zero x within = refl
get_set (y ∷ ys) (suc k) x within = get_set ys k x (omega arith)

get_other : (places : List Slot) (k n : ℕ) (x : Slot) → k ≢ n → slice_get (set places n x) k ≡ slice_get places k
get_other [] k n x differs = refl
get_other (y ∷ ys) zero zero x differs = absurd (differs refl)
get_other (y ∷ ys) zero (suc n) x differs = refl
get_other (y ∷ ys) (suc k) zero x differs = refl
get_other (y ∷ ys) (suc k) (suc n) x differs = get_other ys k n x (λ e. differs (ap suc e))

-- an entry has the number of its place
pub place_keyed : (used : ℕ) (places : List Slot) (k : ℕ) (e : TableEntry) → place_entry used places k ≡ Some e → e.handle ≡ k
place_keyed used places k e is = by_bit (bit_at used k == 1) is
  where
    by_place : (o : Option Slot) → option_map (slot_entry k) o ≡ Some e → e.handle ≡ k
    by_place None found = absurd (cc)
    by_place (Some s) found = let same : slot_entry k s ≡ e = cc in sym (ap (λ x. x.handle) same)

    by_bit : (b : Bool) → cond b (option_map (slot_entry k) (slice_get places k)) None ≡ Some e → e.handle ≡ k
    by_bit false found = absurd (cc)
    by_bit true found = by_place (slice_get places k) found

-- past the places there is nothing
pub place_past : (used : ℕ) (places : List Slot) (k : ℕ) → length places ≤ k → place_entry used places k ≡ None
place_past used places k past = rw (get_past places k past) (either (bit_at used k == 1))
  where
    either : (b : Bool) → cond b (option_map (slot_entry k) None) None ≡ None
    either true = refl
    either false = refl

pub place_set : (used : ℕ) (places : List Slot) (k : ℕ) (d : Slot) → k < length places → bit_at used k ≡ 1 → place_entry used places k ≡ Some (slot_entry k (get_or places k d))
place_set used places k d within bit =
    let yes : (bit_at used k == 1) ≡ true = grind (arith, nat_tests) in
    rw (yes, get_here places k d within) refl

pub place_clear : (used : ℕ) (places : List Slot) (k : ℕ) → bit_at used k ≡ 0 → place_entry used places k ≡ None
place_clear used places k bit =
    let none : (bit_at used k == 1) ≡ false = grind (arith, nat_tests) in
    rw none refl

-- where the bit and the place are the same, so is the entry
place_same : (used later : ℕ) (places after : List Slot) (k : ℕ) → bit_at later k ≡ bit_at used k → slice_get after k ≡ slice_get places k → place_entry used places k ≡ place_entry later after k
place_same used later places after k bit place = rw (bit, place) refl

pub bit_set : (used k : ℕ) → (bit_at used k == 1) ≡ true → bit_at used k ≡ 1
bit_set used k is = grind (arith, nat_tests)

pub bit_unset : (used k : ℕ) → (bit_at used k == 1) ≡ false → bit_at used k ≡ 0
bit_unset used k is = let low = bit_at-lt used k in grind (arith, nat_tests)

-- a bit that is set is one of the 64
pub bit_within : (used k : ℕ) → used < 2 ^ 64 → bit_at used k ≡ 1 → k < 64
bit_within used k fits bit = elim (cases_lt k 64) [
  | inl low ↦ low
  | inr high ↦ let none = bit_at_above used 64 k fits high in absurd (omega arith)
]

module _ (used : ℕ) (places : List Slot) (size : length places ≡ 64) (n : ℕ) (within : n < 64) where
  -- a number comes into use
  pub come_here : (x : Slot) → place_entry (bit_or used (1 * 2 ^ n % 2 ^ 64)) (set places n x) n ≡ Some (slot_entry n x)
  come_here x =
      let yes : (bit_at (bit_or used (1 * 2 ^ n % 2 ^ 64)) n == 1) ≡ true = ap (λ b. b == 1) (bit_at_set_same w64 used n within) in
      rw (yes, get_set places n x (omega arith)) refl

  pub come_other : (x : Slot) (k : ℕ) → k ≢ n → place_entry used places k ≡ place_entry (bit_or used (1 * 2 ^ n % 2 ^ 64)) (set places n x) k
  come_other x k differs = place_same used _ places _ k (bit_at_set_other w64 used n within k differs) (get_other places k n x differs)

  -- a number goes out of use
  pub gone_here : place_entry (bit_and used (bit_not w64 (1 * 2 ^ n % 2 ^ 64))) places n ≡ None
  gone_here = place_clear _ places n (bit_at_clear_same w64 used n within)

  pub gone_other : (k : ℕ) → k ≢ n → place_entry used places k ≡ place_entry (bit_and used (bit_not w64 (1 * 2 ^ n % 2 ^ 64))) places k
  gone_other k differs = elim (cases_lt k 64) [
    | inl low ↦ place_same used _ places places k (bit_at_clear_other w64 used n within k low differs) refl
    | inr high ↦ place_past used places k (omega arith) ∙ sym (place_past _ places k (omega arith))
  ]

  -- a place changes
  pub write_here : (x : Slot) → bit_at used n ≡ 1 → place_entry used (set places n x) n ≡ Some (slot_entry n x)
  write_here x bit =
      let yes : (bit_at used n == 1) ≡ true = grind (arith, nat_tests) in
      rw (yes, get_set places n x (omega arith)) refl

  pub write_other : (x : Slot) (k : ℕ) → k ≢ n → place_entry used places k ≡ place_entry used (set places n x) k
  write_other x k differs = place_same used used places _ k refl (get_other places k n x differs)
