-- The place at which a name is broken is the first at which no path goes on.
use Rattle.std.proofs.Common.{◌≡◌, ℕ, zero, suc, ◌+◌, ◌-◌, ◌<◌, ◌≤◌, Bool, true, false, cond, eqb, ltb, List, [], ◌∷◌, ◌++◌, length, get_or, take, drop, Result, Ok, Err, ◌⊎◌, inl, inr, refl, sym, ap, subst, ◌∙◌, append_assoc, arith}
use Rattle.std.specs.List.{prefix_len}
use Rattle.std.proofs.Math.ListN.{replicate}
use Rattle.std.proofs.Math.Seq.{take-add}
use Rattle.std.proofs.lemmas.Bool.{eqb-true, eqb-false, ltb-true, ltb-false, cases_lt, true≢false, false≢true}
use Rattle.std.proofs.lemmas.List.{length-replicate, length-take, length-drop, get_or-take, get_or-drop, get_or_append_left, get_or-append_right, get_or-replicate, get_or_past, replicate-append-replicate}
use Rattle.std.proofs.lemmas.List.Folds.{length-prefix_len}
use Rattle.std.proofs.lemmas.List.Sums.{prefix_len_passes, prefix_len_stops, prefix_len-le-length, AllPass-from_list_all}
use Rattle.kernel_values.specs.Words.{is_path, is_printable}
use Rattle.tipc_proto.specs.declared.faults.FrameFault.{FrameFault}
use Rattle.tipc_proto.specs.declared.faults.FrameFault.TheVariants.{Name}
use Rattle.tipc_proto.specs.Names.{name_field, GoesOn, BreaksAt, is_zero, name_in}
use Rattle.tipc_proto.proofs.NameLaws.{path_from, path_parts, front_is_path, some_pass}

-- ---- a field that begins so

zeros_front : (xs : List ℕ) → take (prefix_len is_zero xs) xs ≡ replicate (prefix_len is_zero xs) 0
zeros_front [] = refl
zeros_front (x ∷ xs) = by (eqb x 0) refl (zeros_front xs)
  where
    by : (b : Bool) → eqb x 0 ≡ b → take (prefix_len is_zero xs) xs ≡ replicate (prefix_len is_zero xs) 0
        → take (cond b (1 + prefix_len is_zero xs) 0) (x ∷ xs) ≡ replicate (cond b (1 + prefix_len is_zero xs) 0) 0
    by true e rest = let one : 1 + prefix_len is_zero xs ≡ suc (prefix_len is_zero xs) = omega arith in let head : x ≡ 0 = eqb-true x 0 e in rw one cc
    by false e rest = refl

nothing_goes_on : GoesOn []
nothing_goes_on = record { path = 33 ∷ []; lawful = refl; rest = name_field (33 ∷ []); begins = refl }

path_goes_on : (path : List ℕ) → is_path path ≡ true → GoesOn path
unfolding name_field
path_goes_on path e = record { path = path; lawful = e; rest = replicate (256 - length path) 0; begins = refl }

joined : (front path zeros more whole : List ℕ) → front ≡ path ++ zeros → zeros ++ more ≡ whole → front ++ more ≡ path ++ whole
joined front path zeros more whole e f = ap (λ (xs : List ℕ). xs ++ more) e ∙ append_assoc path zeros more ∙ ap (λ (xs : List ℕ). path ++ xs) f

zeros_go_on : (field : List ℕ) → length field ≡ 256 → 0 < prefix_len is_printable field → prefix_len is_printable field ≤ 63
    → GoesOn (take (prefix_len is_printable field + prefix_len is_zero (drop (prefix_len is_printable field) field)) field)
unfolding name_field
zeros_go_on field full some few =
    let long = prefix_len is_printable field in
    let zeros = prefix_len is_zero (drop long field) in
    let path = take long field in
    let path_long : length path ≡ long = length-prefix_len is_printable field in
    let within : zeros ≤ 256 - long = omega (arith, prefix_len-le-length is_zero (drop long field), length-drop long field) in
    let all : zeros + (256 - (long + zeros)) ≡ 256 - length path = omega arith in
    let more = 256 - (long + zeros) in
    let front : take (long + zeros) field ≡ path ++ replicate zeros 0 = take-add long zeros field ∙ ap (λ (ys : List ℕ). path ++ ys) (zeros_front (drop long field)) in
    let filled : replicate zeros 0 ++ replicate more 0 ≡ replicate (256 - length path) 0 = replicate-append-replicate zeros more 0 ∙ ap (λ (n : ℕ). replicate n 0) all in
    record {
      path = path;
      lawful = front_is_path field some few;
      rest = replicate more 0;
      begins = joined (take (long + zeros) field) path (replicate zeros 0) (replicate more 0) (replicate (256 - length path) 0) front filled;
    }

-- ---- a field that can't begin so

read_same : (field rest whole : List ℕ) (i k : ℕ) → i < length field → k ≤ i → take (i + 1) field ++ rest ≡ whole → get_or field k 0 ≡ get_or whole k 0
read_same field rest whole i k inside le e =
    sym (get_or-take (i + 1) field k 0 (omega arith))
    ∙ sym (get_or_append_left (take (i + 1) field) rest 0 k (omega (arith, length-take (i + 1) field)))
    ∙ ap (λ (xs : List ℕ). get_or xs k 0) e

printable_in : (path : List ℕ) (k : ℕ) → is_path path ≡ true → k < length path → is_printable (get_or (name_field path) k 0) ≡ true
unfolding name_field
printable_in path k e lt =
    ap is_printable (get_or_append_left path (replicate (256 - length path) 0) 0 k lt) ∙ AllPass-from_list_all is_printable path (path_parts path e).2 k 0 lt

zero_behind : (path : List ℕ) (k : ℕ) → length path ≤ k → get_or (name_field path) k 0 ≡ 0
unfolding name_field
zero_behind path k le = get_or-append_right path (replicate (256 - length path) 0) (length path) k 0 refl le ∙ zeros (256 - length path) (k - length path)
  where
    zeros : (m j : ℕ) → get_or (replicate {A = ℕ} m 0) j 0 ≡ 0
    zeros m j = elim (cases_lt j m) [
      | inl lt ↦ get_or-replicate m j 0 0 lt
      | inr past ↦ get_or_past (replicate m 0) j 0 (omega (arith, length-replicate {A = ℕ} m 0))
    ]

-- a byte that is not printable is no first one
not_first : (field : List ℕ) → length field ≡ 256 → prefix_len is_printable field ≡ 0 → GoesOn (take 1 field) → ⊥
not_first field full none g =
    let same = read_same field g.rest (name_field g.path) 0 0 (omega arith) (omega arith) g.begins in
    let yes : is_printable (get_or field 0 0) ≡ true = ap is_printable same ∙ printable_in g.path 0 g.lawful (path_parts g.path g.lawful).0 in
    let no : is_printable (get_or field 0 0) ≡ false = ap (λ (n : ℕ). is_printable (get_or field n 0)) (sym none) ∙ prefix_len_stops is_printable field 0 (omega arith) in
    true≢false (sym yes ∙ no)

-- no path has 64 bytes
not_longer : (field : List ℕ) → length field ≡ 256 → 63 < prefix_len is_printable field → GoesOn (take 64 field) → ⊥
not_longer field full more g =
    let parts = path_parts g.path g.lawful in
    let same = read_same field g.rest (name_field g.path) 63 (length g.path) (omega arith) (omega arith) g.begins in
    let is_zero : get_or field (length g.path) 0 ≡ 0 = same ∙ zero_behind g.path (length g.path) (omega arith) in
    let yes : is_printable (get_or field (length g.path) 0) ≡ true = prefix_len_passes is_printable field (length g.path) 0 (omega arith) in
    false≢true (sym (ap is_printable is_zero) ∙ yes)

-- no byte but zeros behind the path
not_behind : (field : List ℕ) (end : ℕ) → length field ≡ 256 → end ≡ prefix_len is_printable field + prefix_len is_zero (drop (prefix_len is_printable field) field) → end < 256 → GoesOn (take (end + 1) field) → ⊥
not_behind field end full end_is inside g =
    let long = prefix_len is_printable field in
    let rest = drop long field in
    let here : get_or rest (prefix_len is_zero rest) 0 ≡ get_or field end 0 = get_or-drop long field (prefix_len is_zero rest) 0 ∙ ap (λ (n : ℕ). get_or field n 0) (sym end_is) in
    let stop : eqb (get_or field end 0) 0 ≡ false = ap (λ (b : ℕ). eqb b 0) (sym here) ∙ prefix_len_stops is_zero rest 0 (omega (arith, length-drop long field)) in
    let no : is_printable (get_or field long 0) ≡ false = prefix_len_stops is_printable field 0 (omega arith) in
    elim (cases_lt end (length g.path)) [
      | inl lt ↦ let same = read_same field g.rest (name_field g.path) end long (omega arith) (omega arith) g.begins in
          true≢false (sym (ap is_printable same ∙ printable_in g.path long g.lawful (omega arith)) ∙ no)
      | inr past ↦ eqb-false (get_or field end 0) 0 stop (read_same field g.rest (name_field g.path) end end (omega arith) (omega arith) g.begins ∙ zero_behind g.path end past)
    ]

-- ---- which test found the fault

either : (b : Bool) (here place : ℕ) (r : Result (List ℕ) FrameFault) → cond b (Err (Name here)) r ≡ Err (Name place) → ((b ≡ true) × (here ≡ place)) ⊎ ((b ≡ false) × (r ≡ Err (Name place)))
either true here place r e = inl (refl, cc)
either false here place r e = inr (refl, e)

last : (b : Bool) (here place : ℕ) (path : List ℕ) → cond b (Err (Name here)) (Ok path) ≡ Err (Name place) → (b ≡ true) × (here ≡ place)
last true here place path e = (refl, cc)
last false here place path e = absurd cc

pub name_breaks : (field : List ℕ) (place : ℕ) → length field ≡ 256 → name_in field ≡ Err (Name place) → BreaksAt field place
unfolding name_in
name_breaks field place full e =
    let long = prefix_len is_printable field in
    let end = long + prefix_len is_zero (drop long field) in
    let third : Result (List ℕ) FrameFault = cond (ltb end (length field)) (Err (Name end)) (Ok (take long field)) in
    let second : Result (List ℕ) FrameFault = cond (ltb 63 long) (Err (Name 63)) third in
    elim (either (eqb long 0) 0 place second e) [
      | inl a ↦ subst (BreaksAt field) a.1 (record { before = nothing_goes_on; here = not_first field full (eqb-true long 0 a.0) })
      | inr a ↦ elim (either (ltb 63 long) 63 place third a.1) [
        | inl b ↦ let more : 63 < long = ltb-true 63 long b.0 in
            subst (BreaksAt field) b.1 (record {
              before = path_goes_on (take 63 field) (path_from (take 63 field) (omega (arith, length-take 63 field)) (omega (arith, length-take 63 field)) (some_pass is_printable field 63 (omega arith)));
              here = not_longer field full more;
            })
        | inr b ↦ let c = last (ltb end (length field)) end place (take long field) b.1 in
            let some : 0 < long = positive long a.0 in
            subst (BreaksAt field) c.1 (record {
              before = zeros_go_on field full some (ltb-false 63 long b.0);
              here = not_behind field end full refl (omega (arith, ltb-true end (length field) c.0));
            })
      ]
    ]
  where
    positive : (n : ℕ) → eqb n 0 ≡ false → 0 < n
    positive zero e = absurd cc
    positive (suc n) e = omega arith
