-- A name that is read fills its field, and a field that is written is read again.
use Rattle.std.proofs.Common.{◌≡◌, ℕ, zero, suc, ◌+◌, ◌-◌, ◌<◌, ◌≤◌, Bool, true, false, cond, eqb, ltb, ◌&&◌, List, [], ◌∷◌, ◌++◌, length, take, drop, Ok, Err, refl, sym, ap, ◌∙◌, arith}
use Rattle.std.specs.Prelude.{IsTrue}
use Rattle.std.specs.List.{prefix_len, list_all}
use Rattle.std.proofs.Math.ListN.{replicate}
use Rattle.std.proofs.lemmas.Bool.{and_parts, and_from, eqb-true, ltb-true, ltb-false, lt-ltb, le-ltb, ne_eqb, eq-eqb}
use Rattle.std.proofs.lemmas.List.{length-append, length-replicate, length-drop, take_at, drop_at, take-append-drop}
use Rattle.std.proofs.lemmas.List.Folds.{length-prefix_len, prefix_len-append, prefix_len-replicate}
use Rattle.std.proofs.lemmas.List.Sums.{prefix_len-le-length}
use Rattle.kernel_values.specs.Words.{is_path, is_printable}
use Rattle.tipc_proto.specs.declared.faults.FrameFault.TheVariants.{Name}
use Rattle.tipc_proto.specs.Names.{name_field, is_zero, name_in}
use Rattle.tipc_proto.proofs.Cases.{passed, same_value}

-- ---- what stands in front

pub some_pass : (p : ℕ → Bool) (xs : List ℕ) (n : ℕ) → n ≤ prefix_len p xs → list_all p (take n xs) ≡ true
some_pass p xs zero le = refl
some_pass p [] (suc n) le = absurd (omega arith)
some_pass p (x ∷ xs) (suc n) le = by (p x) refl le (some_pass p xs n)
  where
    by : (b : Bool) → p x ≡ b → suc n ≤ cond b (1 + prefix_len p xs) 0 → (n ≤ prefix_len p xs → list_all p (take n xs) ≡ true) → (p x && list_all p (take n xs)) ≡ true
    by true e le rest = and_from (p x) (list_all p (take n xs)) e (rest (omega arith))
    by false e le rest = absurd (omega arith)

front_passes : (p : ℕ → Bool) (xs : List ℕ) → list_all p (take (prefix_len p xs) xs) ≡ true
front_passes p xs = some_pass p xs (prefix_len p xs) (omega arith)

all_pass_len : (p : ℕ → Bool) (xs : List ℕ) → list_all p xs ≡ true → prefix_len p xs ≡ length xs
all_pass_len p [] e = refl
all_pass_len p (x ∷ xs) e =
    let parts = and_parts (p x) (list_all p xs) e in
    rw parts.0 (omega (arith, all_pass_len p xs parts.1))

zeros_only : (xs : List ℕ) → prefix_len is_zero xs ≡ length xs → xs ≡ replicate (length xs) 0
zeros_only [] e = refl
zeros_only (x ∷ xs) e = by (eqb x 0) refl e (zeros_only xs)
  where
    by : (b : Bool) → eqb x 0 ≡ b → cond b (1 + prefix_len is_zero xs) 0 ≡ suc (length xs) → (prefix_len is_zero xs ≡ length xs → xs ≡ replicate (length xs) 0) → x ∷ xs ≡ 0 ∷ replicate (length xs) 0
    by true e l rest = let head : x ≡ 0 = eqb-true x 0 e in let tail : xs ≡ replicate (length xs) 0 = rest (omega arith) in cc
    by false e l rest = absurd (omega arith)

no_printable_zero : (m : ℕ) → prefix_len is_printable (replicate m 0) ≡ 0
no_printable_zero zero = refl
no_printable_zero (suc m) = refl

-- ---- paths

pub path_from : (path : List ℕ) → 0 < length path → length path < 64 → list_all is_printable path ≡ true → is_path path ≡ true
path_from [] some few e = absurd (omega arith)
path_from (b ∷ bytes) some few e = and_from (list_all is_printable (b ∷ bytes)) (ltb (length (b ∷ bytes)) 64) e (lt-ltb (length (b ∷ bytes)) 64 few)

pub path_parts : (path : List ℕ) → is_path path ≡ true → (0 < length path) × (length path < 64) × (list_all is_printable path ≡ true)
path_parts [] e = absurd cc
path_parts (b ∷ bytes) e =
    let parts = and_parts (list_all is_printable (b ∷ bytes)) (ltb (length (b ∷ bytes)) 64) e in
    (omega arith, ltb-true (length (b ∷ bytes)) 64 parts.1, parts.0)

-- the printable bytes in front are a path, where there are 1 to 63
pub front_is_path : (field : List ℕ) → 0 < prefix_len is_printable field → prefix_len is_printable field ≤ 63 → is_path (take (prefix_len is_printable field) field) ≡ true
front_is_path field some few =
    let long = length-prefix_len is_printable field in
    path_from (take (prefix_len is_printable field) field) (omega arith) (omega arith) (front_passes is_printable field)

-- ---- fields

pub name_takes : (field path : List ℕ) → length field ≡ 256 → name_in field ≡ Ok path → (field ≡ name_field path) × IsTrue (is_path path)
unfolding name_in name_field
name_takes field path full e =
    let long = prefix_len is_printable field in
    let rest = drop long field in
    let end = long + prefix_len is_zero rest in
    let first = passed (eqb long 0) (Name 0) (cond (ltb 63 long) (Err (Name 63)) (cond (ltb end (length field)) (Err (Name end)) (Ok (take long field)))) path e in
    let second = passed (ltb 63 long) (Name 63) (cond (ltb end (length field)) (Err (Name end)) (Ok (take long field))) path first.1 in
    let third = passed (ltb end (length field)) (Name end) (Ok (take long field)) path second.1 in
    let path_is : take long field ≡ path = same_value (take long field) path third.1 in
    let few : long ≤ 63 = ltb-false 63 long second.0 in
    let past : length field ≤ end = ltb-false end (length field) third.0 in
    let some : 0 < long = positive long first.0 in
    let path_long : length (take long field) ≡ long = length-prefix_len is_printable field in
    let rest_long : length rest ≡ 256 - long = omega (arith, length-drop long field) in
    let rest_is : rest ≡ replicate (length rest) 0 = zeros_only rest (omega (arith, prefix_len-le-length is_zero rest)) in
    let lawful : is_path (take long field) ≡ true = front_is_path field some few in
    let zeros : rest ≡ replicate (256 - length (take long field)) 0 = rest_is ∙ ap (λ (n : ℕ). replicate n 0) (rest_long ∙ ap (λ (n : ℕ). 256 - n) (sym path_long)) in (
      sym (take-append-drop long field)
          ∙ ap (λ (ys : List ℕ). take long field ++ ys) zeros
          ∙ ap (λ (p : List ℕ). p ++ replicate (256 - length p) 0) path_is,
      ap is_path (sym path_is) ∙ lawful,
    )
  where
    positive : (n : ℕ) → eqb n 0 ≡ false → 0 < n
    positive zero e = absurd cc
    positive (suc n) e = omega arith

pub field_long : (path : List ℕ) → is_path path ≡ true → length (name_field path) ≡ 256
unfolding name_field
field_long path e =
    let parts = path_parts path e in
    omega (arith, length-append path (replicate (256 - length path) 0), length-replicate {A = ℕ} (256 - length path) 0)

front_of_field : (path : List ℕ) → is_path path ≡ true → prefix_len is_printable (name_field path) ≡ length path
unfolding name_field
front_of_field path e =
    let zeros = replicate (256 - length path) 0 in
    let all : prefix_len is_printable path ≡ length path = all_pass_len is_printable path (path_parts path e).2 in
    let here : eqb (prefix_len is_printable path) (length path) ≡ true = eq-eqb _ _ all in
    prefix_len-append is_printable path zeros ∙ rw here (omega (arith, no_printable_zero (256 - length path)))

rest_of_field : (path : List ℕ) → drop (length path) (name_field path) ≡ replicate (256 - length path) 0
unfolding name_field
rest_of_field path = drop_at path (replicate (256 - length path) 0) (length path) refl

path_of_field : (path : List ℕ) → take (length path) (name_field path) ≡ path
unfolding name_field
path_of_field path = take_at path (replicate (256 - length path) 0) (length path) refl

pub name_again : (path : List ℕ) → is_path path ≡ true → name_in (name_field path) ≡ Ok path
unfolding name_in
name_again path e =
    let parts = path_parts path e in
    let long = front_of_field path e in
    let zeros : prefix_len is_zero (replicate (256 - length path) 0) ≡ 256 - length path = prefix_len-replicate is_zero (256 - length path) 0 refl in
    let some : eqb (length path) 0 ≡ false = ne_eqb (length path) 0 (λ n. omega arith) in
    let few : ltb 63 (length path) ≡ false = le-ltb 63 (length path) (omega arith) in
    let full : ltb (length path + (256 - length path)) 256 ≡ false = le-ltb (length path + (256 - length path)) 256 (omega arith) in
    rw (long, rest_of_field path, zeros, field_long path e, some, few, full, path_of_field path) refl
