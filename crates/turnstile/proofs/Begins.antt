-- Beginnings of a history.
use Rattle.std.proofs.Common.{◌≡◌, ℕ, ◌≤◌, leb, Bool, true, false, cond, List, [], ◌∷◌, ◌++◌, length, sym, refl, ap, ◌∙◌, arith, append_assoc, length-append}
use mathlib.Core.List.{IsPrefix, append-nil}
use Rattle.kernel_values.specs.declared.entry.Entry.{Entry}
use Rattle.turnstile.specs.Views.{longer}
use Rattle.turnstile.specs.Rule.{AllBegin}

pub same_begins : (xs ys : List Entry) → xs ≡ ys → IsPrefix xs ys
same_begins xs ys e = ([], append-nil xs ∙ e)

pub begins_on : (xs ys zs : List Entry) → IsPrefix xs ys → IsPrefix ys zs → IsPrefix xs zs
begins_on xs ys zs p q = (p.0 ++ q.0, sym (append_assoc xs p.0 q.0) ∙ (ap (λ l. l ++ q.0) p.1 ∙ q.1))

pub begins_length : (xs ys : List Entry) → IsPrefix xs ys → length xs ≤ length ys
begins_length xs ys p = let e : length (xs ++ p.0) ≡ length ys = ap (λ (l : List Entry). length l) p.1 in omega (arith, length-append xs p.0)

pub all_on : (olds : List (List Entry)) (log log' : List Entry) → AllBegin olds log → IsPrefix log log' → AllBegin olds log'
all_on [] log log' all p = tt
all_on (old ∷ olds) log log' all p = (begins_on old log log' all.0 p, all_on olds log log' all.1 p)

pub all_of_both : (olds more : List (List Entry)) (log : List Entry) → AllBegin olds log → AllBegin more log → AllBegin (olds ++ more) log
all_of_both [] more log a b = b
all_of_both (old ∷ olds) more log a b = (a.0, all_of_both olds more log a.1 b)

pub all_before : (olds more : List (List Entry)) (log : List Entry) → AllBegin (olds ++ more) log → AllBegin olds log
all_before [] more log a = tt
all_before (old ∷ olds) more log a = (a.0, all_before olds more log a.1)

pub all_after : (olds more : List (List Entry)) (log : List Entry) → AllBegin (olds ++ more) log → AllBegin more log
all_after [] more log a = a
all_after (old ∷ olds) more log a = all_after olds more log a.1

pub longer_begins : (a b log : List Entry) → IsPrefix a log → IsPrefix b log → IsPrefix (longer a b) log
longer_begins a b log p q = let go : (t : Bool) → IsPrefix (cond t a b) log = elim [ true ↦ p | false ↦ q ] in go (leb (length b) (length a))

within : (x y : ℕ) → leb x y ≡ true → x ≤ y
within x y e = grind arith

beyond : (x y : ℕ) → leb x y ≡ false → y ≤ x
beyond x y e = grind arith

pub longer_length : (a b : List Entry) → (length a ≤ length (longer a b)) × (length b ≤ length (longer a b))
longer_length a b = let go : (t : Bool) → leb (length b) (length a) ≡ t → (length a ≤ length (cond t a b)) × (length b ≤ length (cond t a b)) = elim [
  | true ↦ (λ e. (omega arith, within (length b) (length a) e))
  | false ↦ (λ e. (beyond (length b) (length a) e, omega arith))
] in go (leb (length b) (length a)) refl

is_within : (x y : ℕ) → x ≤ y → leb x y ≡ true
is_within x y h = grind arith

pub longer_first : (a b : List Entry) → length b ≤ length a → longer a b ≡ a
longer_first a b h = ap (λ t. cond t a b) (is_within (length b) (length a) h)

pub longer_within : (a b : List Entry) (n : ℕ) → length a ≤ n → length b ≤ n → length (longer a b) ≤ n
longer_within a b n p q = let go : (t : Bool) → length (cond t a b) ≤ n = elim [ true ↦ p | false ↦ q ] in go (leb (length b) (length a))
