-- The numbers of the first entries are within their types, one entry more.
use Rattle.std.proofs.Common.{◌≡◌, ◌<◌, ◌≤◌, ℕ, zero, suc, ◌+◌, List, [], ◌∷◌, length, take, get_or, subst, arith}
use Rattle.kernel_values.specs.declared.entry.Entry.{Entry}
use Rattle.report_text.specs.Within.{IsEventWithin, AreWithin}

pub none_yet : (entries : List Entry) → AreWithin (take 0 entries)
none_yet entries = tt

more : (entries : List Entry) (k : ℕ) (entry : Entry) → k < length entries → entry ≡ get_or entries k entry → AreWithin (take k entries) → IsEventWithin entry.event → AreWithin (take (suc k) entries)
more [] k entry below is all one = absurd (omega arith)
more (first ∷ entries) zero entry below is all one = (subst (λ (e : Entry). IsEventWithin e.event) is one, tt)
more (first ∷ entries) (suc k) entry below is all one = (all.0, more entries k entry (omega arith) is all.1 one)

pub one_more : (entries : List Entry) (k : ℕ) (entry : Entry) → k < length entries → entry ≡ get_or entries k entry → AreWithin (take k entries) → IsEventWithin entry.event → AreWithin (take (k + 1) entries)
one_more entries k entry below is all one = let next : suc k ≡ k + 1 = omega arith in subst (λ n. AreWithin (take n entries)) next (more entries k entry below is all one)

pub all_within : (entries : List Entry) (k : ℕ) → length entries ≤ k → AreWithin (take k entries) → AreWithin entries
all_within [] k past all = tt
all_within (entry ∷ entries) zero past all = absurd (omega arith)
all_within (entry ∷ entries) (suc k) past all = (all.0, all_within entries k (omega arith) all.1)
