-- The list of bridged ends and the device's entries, through every change of them.
use Rattle.std.proofs.Common.{◌≡◌, ◌≤◌, ◌<◌, ℕ, ◌+◌, ◌==◌, ◌⊎◌, inl, inr, Bool, true, false, cond, not, List, [], ◌∷◌, ◌++◌, length, map, take, drop, refl, ap, ◌∙◌, subst, sym, arith, tests}
use Rattle.std.specs.Prelude.{nat_lt}
use Rattle.std.specs.List.{AllByRecursion, filter, insert, position_or_len}
use Rattle.std.proofs.lemmas.List.{take-append-drop}
use Rattle.kernel_values.specs.declared.world.BridgeEntry.{BridgeEntry}
use Rattle.kernel_types.specs.Device.{answered_entry, free_secure, has_secure, new_entry, with_entry, without_entry}
use Rattle.kernel_laws.specs.Entries.{IsAmong}
use Rattle.bridge_laws.proofs.Counts.{all_apart, one_if, times, times_append, times_apart, times_below, times_cons, times_fewer, times_gone, times_inserted, times_mapped}
use Rattle.bridge_laws.proofs.Free.{free_is_free, none_has}

abbrev secure_of : BridgeEntry → ℕ
secure_of entry = entry.secure

abbrev end_of_entry : BridgeEntry → ℕ
end_of_entry entry = entry.end

-- each end is bridged as often as an entry keeps it, and no end and no address stands twice
pub record Bridged (ends : List ℕ) (entries : List BridgeEntry) : Type 0 where
  pub same : (n : ℕ) → times (λ (x : ℕ). x) n ends ≡ times (λ (entry : BridgeEntry). entry.end) n entries
  pub once : (n : ℕ) → times (λ (x : ℕ). x) n ends ≤ 1
  pub addresses : (n : ℕ) → times (λ (entry : BridgeEntry). entry.secure) n entries ≤ 1

pub nothing_bridged : Bridged [] []
nothing_bridged = record { same = λ n. refl; once = λ n. omega arith; addresses = λ n. omega arith }

-- An entry goes, and its end with it.

one_times : (entry : BridgeEntry) (entries : List BridgeEntry) → IsAmong entry entries → 1 ≤ times secure_of entry.secure entries
one_times entry [] one = absurd one
one_times entry (first ∷ entries) (inl same) =
    let is : first.secure ≡ entry.secure = ap (λ (e : BridgeEntry). e.secure) same in
    let here : (first.secure == entry.secure) ≡ true = grind (arith, tests) in
    let counts : one_if (first.secure == entry.secure) ≡ 1 = ap one_if here in
    omega (arith, counts, times_cons secure_of entry.secure first entries)
one_times entry (first ∷ entries) (inr later) = omega (arith, one_times entry entries later, times_cons secure_of entry.secure first entries)

entry_goes : (entry : BridgeEntry) (entries : List BridgeEntry) → IsAmong entry entries → ((n : ℕ) → times secure_of n entries ≤ 1) → (n : ℕ)
    → times end_of_entry n entries ≡ one_if (entry.end == n) + times end_of_entry n (without_entry entry entries)
entry_goes entry [] one apart n = absurd one
entry_goes entry (first ∷ entries) (inl same) apart n =
    let is : first.secure ≡ entry.secure = ap (λ (e : BridgeEntry). e.secure) same in
    let here : (first.secure == entry.secure) ≡ true = grind (arith, tests) in
    let counts : one_if (first.secure == entry.secure) ≡ 1 = ap one_if here in
    let none : times secure_of entry.secure entries ≡ 0 = omega (arith, counts, apart entry.secure, times_cons secure_of entry.secure first entries) in
    let rest : filter (λ (other : BridgeEntry). not (other.secure == entry.secure)) entries ≡ entries = all_apart secure_of entry.secure entries none in
    let whole : without_entry entry (first ∷ entries) ≡ entries =
    ap (λ b. cond (not b) (first ∷ filter (λ (other : BridgeEntry). not (other.secure == entry.secure)) entries) (filter (λ (other : BridgeEntry). not (other.secure == entry.secure)) entries)) here
    ∙ rest in
    let end : one_if (first.end == n) ≡ one_if (entry.end == n) = ap (λ (e : BridgeEntry). one_if (e.end == n)) same in
    let left : times end_of_entry n (without_entry entry (first ∷ entries)) ≡ times end_of_entry n entries = ap (λ (l : List BridgeEntry). times end_of_entry n l) whole in
    omega (arith, end, left, times_cons end_of_entry n first entries)
entry_goes entry (first ∷ entries) (inr later) apart n =
    let fewer : (m : ℕ) → times secure_of m entries ≤ 1 = λ m. omega (arith, apart m, times_cons secure_of m first entries) in
    let rest : times end_of_entry n entries ≡ one_if (entry.end == n) + times end_of_entry n (without_entry entry entries) = entry_goes entry entries later fewer n in
    let P : Bool → Type 0 = λ b. (first.secure == entry.secure) ≡ b
    → times end_of_entry n (first ∷ entries) ≡ one_if (entry.end == n) + times end_of_entry n (cond (not b) (first ∷ without_entry entry entries) (without_entry entry entries)) in
    let go : (b : Bool) → P b = λ b. elim b as (λ v. P v) [
      | true ↦ (λ here.
          let counts : one_if (first.secure == entry.secure) ≡ 1 = ap one_if here in
          absurd (omega (arith, counts, apart entry.secure, times_cons secure_of entry.secure first entries, one_times entry entries later)))
      | false ↦ (λ other. omega (arith, rest, times_cons end_of_entry n first entries, times_cons end_of_entry n first (without_entry entry entries)))
    ] in
    go (first.secure == entry.secure) refl

pub bridged_less : (ends : List ℕ) (entries : List BridgeEntry) (entry : BridgeEntry) → Bridged ends entries → IsAmong entry entries
    → Bridged (filter (λ other. not (other == entry.end)) ends) (without_entry entry entries)
bridged_less ends entries entry k one =
    let left : List ℕ = filter (λ other. not (other == entry.end)) ends in
    let after : List BridgeEntry = without_entry entry entries in
    let same : (n : ℕ) → times (λ (x : ℕ). x) n left ≡ times end_of_entry n after = λ n.
    let P : Bool → Type 0 = λ b. (entry.end == n) ≡ b → times (λ (x : ℕ). x) n left ≡ times end_of_entry n after in
    let go : (b : Bool) → P b = λ b. elim b as (λ v. P v) [
      | true ↦ (λ here.
          let is : entry.end ≡ n = grind (arith, tests) in
          let counts : one_if (entry.end == n) ≡ 1 = ap one_if here in
          let none : times (λ (x : ℕ). x) n left ≡ 0 =
          ap (λ (m : ℕ). times (λ (x : ℕ). x) n (filter (λ other. not (other == m)) ends)) is ∙ times_gone (λ (x : ℕ). x) n ends in
          omega (arith, none, counts, k.same n, k.once n, entry_goes entry entries one k.addresses n))
      | false ↦ (λ other.
          let counts : one_if (entry.end == n) ≡ 0 = ap one_if other in
          let kept : times (λ (x : ℕ). x) n left ≡ times (λ (x : ℕ). x) n ends = times_apart (λ (x : ℕ). x) n entry.end ends other in
          omega (arith, kept, counts, k.same n, entry_goes entry entries one k.addresses n))
    ] in
    go (entry.end == n) refl in
    record {
      same = same;
      once = λ n. omega (arith, k.once n, times_fewer (λ (x : ℕ). x) (λ other. not (other == entry.end)) n ends);
      addresses = λ n. omega (arith, k.addresses n, times_fewer secure_of (λ (other : BridgeEntry). not (other.secure == entry.secure)) n entries);
    }

-- An entry is made, whose end gets the next number and whose address is free.

inserted_times : (f : BridgeEntry → ℕ) (n place : ℕ) (entry : BridgeEntry) (entries : List BridgeEntry) → times f n (insert entries place entry) ≡ one_if (f entry == n) + times f n entries
inserted_times f n place entry entries =
    let whole : times f n (take place entries ++ drop place entries) ≡ times f n entries = ap (λ (l : List BridgeEntry). times f n l) (take-append-drop place entries) in
    let split : times f n (take place entries ++ entry ∷ drop place entries) ≡ one_if (f entry == n) + times f n (take place entries ++ drop place entries) =
    times_inserted f n entry (take place entries) (drop place entries) in
    omega (arith, whole, split)

-- one more of a number that did not stand there
one_more : (m n old : ℕ) → ((m == n) ≡ true → old ≡ 0) → old ≤ 1 → one_if (m == n) + old ≤ 1
one_more m n old new few =
    let P : Bool → Type 0 = λ b. (b ≡ true → old ≡ 0) → one_if b + old ≤ 1 in
    let go : (b : Bool) → P b = λ b. elim b as (λ v. P v) [ true ↦ (λ none. omega (arith, none refl)) | false ↦ (λ none. omega (arith, few)) ] in
    go (m == n) new

pub bridged_more : (ends : List ℕ) (entries : List BridgeEntry) (src next : ℕ) → AllByRecursion (λ (x : ℕ). x < next) ends → length entries < 64 → Bridged ends entries
    → Bridged (ends ++ next ∷ []) (with_entry (new_entry (free_secure entries) src next) entries)
bridged_more ends entries src next below few k =
    let entry : BridgeEntry = new_entry (free_secure entries) src next in
    let place : ℕ = position_or_len (λ other. nat_lt entry.secure other.secure) entries in
    let last : (n : ℕ) → times (λ (x : ℕ). x) n (ends ++ next ∷ []) ≡ one_if (next == n) + times (λ (x : ℕ). x) n ends = λ n.
    omega (arith, times_append (λ (x : ℕ). x) n ends (next ∷ []), times_cons (λ (x : ℕ). x) n next []) in
    let new_end : (n : ℕ) → (next == n) ≡ true → times (λ (x : ℕ). x) n ends ≡ 0 = λ n here.
    let is : next ≡ n = grind (arith, tests) in
    ap (λ (m : ℕ). times (λ (x : ℕ). x) m ends) (sym is) ∙ times_below next ends below in
    let new_address : (n : ℕ) → (free_secure entries == n) ≡ true → times secure_of n entries ≡ 0 = λ n here.
    let is : free_secure entries ≡ n = grind (arith, tests) in
    ap (λ (m : ℕ). times secure_of m entries) (sym is) ∙ none_has entries (free_secure entries) (free_is_free entries few) in
    record {
      same = λ n. omega (arith, last n, k.same n, inserted_times end_of_entry n place entry entries);
      once = λ n. omega (arith, last n, one_more next n (times (λ (x : ℕ). x) n ends) (new_end n) (k.once n));
      addresses = λ n. omega (arith, inserted_times secure_of n place entry entries, one_more (free_secure entries) n (times secure_of n entries) (new_address n) (k.addresses n));
    }

-- An entry is answered.

answered_end : (secure : ℕ) (entry : BridgeEntry) → (answered_entry secure entry).end ≡ entry.end
answered_end secure entry = elim (entry.secure == secure) as (λ b. (cond b (record entry { answered = true }) entry).end ≡ entry.end) [ true ↦ refl | false ↦ refl ]

answered_secure : (secure : ℕ) (entry : BridgeEntry) → (answered_entry secure entry).secure ≡ entry.secure
answered_secure secure entry = elim (entry.secure == secure) as (λ b. (cond b (record entry { answered = true }) entry).secure ≡ entry.secure) [ true ↦ refl | false ↦ refl ]

pub bridged_answered : (ends : List ℕ) (entries : List BridgeEntry) (secure : ℕ) → Bridged ends entries → Bridged ends (map (answered_entry secure) entries)
bridged_answered ends entries secure k = record {
  same = λ n. k.same n ∙ sym (times_mapped end_of_entry (answered_entry secure) (answered_end secure) n entries);
  once = k.once;
  addresses = λ n. omega (arith, k.addresses n, times_mapped secure_of (answered_entry secure) (answered_secure secure) n entries);
}
