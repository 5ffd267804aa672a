-- The entries and the list of bridged ends, through every change of them.
use Rattle.std.proofs.Common.{◌≡◌, ◌<◌, ℕ, ◌==◌, ◌||◌, Bool, true, false, cond, not, List, [], ◌∷◌, ◌++◌, length, get_or, map, take, drop, refl, sym, ap, ◌∙◌, inl, inr, subst, arith, tests}
use Rattle.std.specs.Prelude.{IsTrue}
use Rattle.std.specs.List.{AllByRecursion, filter, fold, insert}
use Rattle.std.proofs.lemmas.List.{take-append-drop}
use Rattle.kernel_values.specs.declared.state.State.{State}
use Rattle.kernel_values.specs.declared.world.BridgeEntry.{BridgeEntry}
use Rattle.kernel_types.specs.Bridge.{ns_drop}
use Rattle.kernel_types.specs.Bridging.{IsBridged, with_core}
use Rattle.kernel_types.specs.Device.{answered_entry, entry_dropped, without_entry}
use Rattle.kernel_laws.specs.Entries.{IsAmong}
use Rattle.ns_device.specs.Named.{AreNamed, has_end, is_named}
use Rattle.ns_device.proofs.Bridging.{drop_names}

-- An entry's end is named.

pub named_among : (bridged : List ℕ) (entry : BridgeEntry) (entries : List BridgeEntry) → AreNamed bridged entries → IsAmong entry entries → IsTrue (is_named bridged entry.end)
named_among bridged entry [] named among = absurd among
named_among bridged entry (other ∷ others) named (inl same) = subst (λ (e : BridgeEntry). IsTrue (is_named bridged e.end)) same named.0
named_among bridged entry (other ∷ others) named (inr among) = named_among bridged entry others named.2 among

pub among_bridged : (s : State) (entry : BridgeEntry) (entries : List BridgeEntry) → AreNamed s.core.bridged entries → IsAmong entry entries → IsBridged entry.end s
among_bridged s entry entries named among = named_among s.core.bridged entry entries named among

-- One end is named no more.

abbrev without : ℕ → List ℕ → List ℕ
without end bridged = filter (λ other. not (other == end)) bridged

named_without : (bridged : List ℕ) (end other : ℕ) → (other == end) ≡ false → IsTrue (is_named bridged other) → IsTrue (is_named (without end bridged) other)
named_without [] end other differs named = named
named_without (first ∷ bridged) end other differs named =
    let rest : IsTrue (is_named bridged other) → IsTrue (is_named (without end bridged) other) = named_without bridged end other differs in
    let P : Bool → Type 0 = λ b. (first == end) ≡ b → IsTrue (is_named (cond (not b) (first ∷ without end bridged) (without end bridged)) other) in
    let gone : P true = λ is.
    let another : (first == other) ≡ false = grind (arith, tests) in
    rest (subst (λ b. IsTrue (b || is_named bridged other)) another named) in
    let Q : Bool → Type 0 = λ b. IsTrue (b || is_named bridged other) → IsTrue (b || is_named (without end bridged) other) in
    let stays : (b : Bool) → Q b = λ b. elim b as (λ v. Q v) [ true ↦ (λ h. refl) | false ↦ rest ] in
    let kept_first : P false = λ is. stays (first == other) named in
    let go : (b : Bool) → P b = λ b. elim b as (λ v. P v) [ true ↦ gone | false ↦ kept_first ] in
    go (first == end) refl

-- of two truth values neither of which holds
first_false : (b v : Bool) → (b || v) ≡ false → b ≡ false
first_false true v is = is
first_false false v is = refl

second_false : (b v : Bool) → (b || v) ≡ false → v ≡ false
second_false true v is = absurd (cc)
second_false false v is = is

both_false : (b v : Bool) → b ≡ false → v ≡ false → (b || v) ≡ false
both_false b v f g = ap (λ x. x || v) f ∙ g

all_named_without : (bridged : List ℕ) (end : ℕ) (entries : List BridgeEntry) → has_end end entries ≡ false → AreNamed bridged entries → AreNamed (without end bridged) entries
all_named_without bridged end [] apart named = tt
all_named_without bridged end (entry ∷ entries) apart named = (
  named_without bridged end entry.end (first_false (entry.end == end) (has_end end entries) apart) named.0,
  named.1,
  all_named_without bridged end entries (second_false (entry.end == end) (has_end end entries) apart) named.2,
)

has_no_end : (p : BridgeEntry → Bool) (end : ℕ) (entries : List BridgeEntry) → has_end end entries ≡ false → has_end end (filter p entries) ≡ false
has_no_end p end [] none = refl
has_no_end p end (entry ∷ entries) none =
    let rest : has_end end (filter p entries) ≡ false = has_no_end p end entries (second_false (entry.end == end) (has_end end entries) none) in
    elim (p entry) as (λ b. has_end end (cond b (entry ∷ filter p entries) (filter p entries)) ≡ false) [
      | true ↦ both_false (entry.end == end) (has_end end (filter p entries)) (first_false (entry.end == end) (has_end end entries) none) rest
      | false ↦ rest
    ]

fewer_named : (bridged : List ℕ) (p : BridgeEntry → Bool) (entries : List BridgeEntry) → AreNamed bridged entries → AreNamed bridged (filter p entries)
fewer_named bridged p [] named = tt
fewer_named bridged p (entry ∷ entries) named =
    let rest : AreNamed bridged (filter p entries) = fewer_named bridged p entries named.2 in
    elim (p entry) as (λ b. AreNamed bridged (cond b (entry ∷ filter p entries) (filter p entries))) [
      | true ↦ (named.0, has_no_end p entry.end entries named.1, rest)
      | false ↦ rest
    ]

another_end : (end : ℕ) (entry : BridgeEntry) (entries : List BridgeEntry) → has_end end entries ≡ false → IsAmong entry entries → (entry.end == end) ≡ false
another_end end entry [] none among = absurd among
another_end end entry (other ∷ others) none (inl same) =
    subst (λ (e : BridgeEntry). (e.end == end) ≡ false) same (first_false (other.end == end) (has_end end others) none)
another_end end entry (other ∷ others) none (inr among) = another_end end entry others (second_false (other.end == end) (has_end end others) none) among

-- an entry goes, and its end with it
pub named_less : (bridged : List ℕ) (entry : BridgeEntry) (entries : List BridgeEntry) → AreNamed bridged entries → IsAmong entry entries
    → AreNamed (without entry.end bridged) (without_entry entry entries)
named_less bridged entry [] named among = tt
named_less bridged entry (other ∷ others) named (inl same) =
    let p : BridgeEntry → Bool = λ o. not (o.secure == entry.secure) in
    let ends : other.end ≡ entry.end = ap (λ (e : BridgeEntry). e.end) same in
    let addresses : other.secure ≡ entry.secure = ap (λ (e : BridgeEntry). e.secure) same in
    let goes : (other.secure == entry.secure) ≡ true = grind (arith, tests) in
    let none : has_end entry.end others ≡ false = subst (λ (n : ℕ). has_end n others ≡ false) ends named.1 in
    subst (λ b. AreNamed (without entry.end bridged) (cond (not b) (other ∷ filter p others) (filter p others))) (sym goes)
    (fewer_named (without entry.end bridged) p others (all_named_without bridged entry.end others none named.2))
named_less bridged entry (other ∷ others) named (inr among) =
    let p : BridgeEntry → Bool = λ o. not (o.secure == entry.secure) in
    let differs : (entry.end == other.end) ≡ false = another_end other.end entry others named.1 among in
    let apart : (other.end == entry.end) ≡ false = grind (arith, tests) in
    let rest : AreNamed (without entry.end bridged) (filter p others) = named_less bridged entry others named.2 among in
    elim (p other) as (λ b. AreNamed (without entry.end bridged) (cond b (other ∷ filter p others) (filter p others))) [
      | true ↦ (named_without bridged entry.end other.end apart named.0, has_no_end p other.end others named.1, rest)
      | false ↦ rest
    ]

-- One end more is named.

named_more : (bridged more : List ℕ) (end : ℕ) → IsTrue (is_named bridged end) → IsTrue (is_named (bridged ++ more) end)
named_more [] more end named = let no : false ≡ true = named in absurd (cc)
named_more (first ∷ bridged) more end named =
    let P : Bool → Type 0 = λ b. IsTrue (b || is_named bridged end) → IsTrue (b || is_named (bridged ++ more) end) in
    let go : (b : Bool) → P b = λ b. elim b as (λ v. P v) [ true ↦ (λ h. refl) | false ↦ (λ h. named_more bridged more end h) ] in
    go (first == end) named

named_last : (bridged : List ℕ) (end : ℕ) → IsTrue (is_named (bridged ++ end ∷ []) end)
named_last [] end =
    let same : (end == end) ≡ true = grind (arith, tests) in
    ap (λ b. b || false) same
named_last (first ∷ bridged) end =
    elim (first == end) as (λ b. IsTrue (b || is_named (bridged ++ end ∷ []) end)) [ true ↦ refl | false ↦ named_last bridged end ]

all_named_more : (bridged more : List ℕ) (entries : List BridgeEntry) → AreNamed bridged entries → AreNamed (bridged ++ more) entries
all_named_more bridged more [] named = tt
all_named_more bridged more (entry ∷ entries) named = (named_more bridged more entry.end named.0, named.1, all_named_more bridged more entries named.2)

-- an end that is named was given
named_below : (n : ℕ) (bridged : List ℕ) (end : ℕ) → AllByRecursion (λ (x : ℕ). x < n) bridged → IsTrue (is_named bridged end) → end < n
named_below n [] end below named = let no : false ≡ true = named in absurd (cc)
named_below n (first ∷ bridged) end below named =
    let P : Bool → Type 0 = λ b. (first == end) ≡ b → IsTrue (b || is_named bridged end) → end < n in
    let here : P true = λ is h. let same : first ≡ end = grind (arith, tests) in omega (arith, same, below.0) in
    let go : (b : Bool) → P b = λ b. elim b as (λ v. P v) [ true ↦ here | false ↦ (λ is h. named_below n bridged end below.1 h) ] in
    go (first == end) refl named

new_end : (n : ℕ) (bridged : List ℕ) (entries : List BridgeEntry) → AllByRecursion (λ (x : ℕ). x < n) bridged → AreNamed bridged entries → has_end n entries ≡ false
new_end n bridged [] below named = refl
new_end n bridged (entry ∷ entries) below named =
    let given : entry.end < n = named_below n bridged entry.end below named.0 in
    let differs : (entry.end == n) ≡ false = grind (arith, tests) in
    both_false (entry.end == n) (has_end n entries) differs (new_end n bridged entries below named.2)

has_no_end_inserted : (end : ℕ) (entry : BridgeEntry) (front back : List BridgeEntry) → (entry.end == end) ≡ false → has_end end (front ++ back) ≡ false
    → has_end end (front ++ entry ∷ back) ≡ false
has_no_end_inserted end entry [] back differs none = both_false (entry.end == end) (has_end end back) differs none
has_no_end_inserted end entry (first ∷ front) back differs none =
    both_false (first.end == end) (has_end end (front ++ entry ∷ back)) (first_false (first.end == end) (has_end end (front ++ back)) none)
    (has_no_end_inserted end entry front back differs (second_false (first.end == end) (has_end end (front ++ back)) none))

named_between : (bridged : List ℕ) (entry : BridgeEntry) (front back : List BridgeEntry) → AreNamed bridged (front ++ back) → IsTrue (is_named bridged entry.end)
    → has_end entry.end (front ++ back) ≡ false → AreNamed bridged (front ++ entry ∷ back)
named_between bridged entry [] back named own none = (own, none, named)
named_between bridged entry (first ∷ front) back named own none =
    let differs : (first.end == entry.end) ≡ false = first_false (first.end == entry.end) (has_end entry.end (front ++ back)) none in
    let apart : (entry.end == first.end) ≡ false = grind (arith, tests) in (
      named.0,
      has_no_end_inserted first.end entry front back apart named.1,
      named_between bridged entry front back named.2 own (second_false (first.end == entry.end) (has_end entry.end (front ++ back)) none),
    )

-- an entry is made, whose end gets the next number
pub named_inserted : (n : ℕ) (bridged : List ℕ) (entries : List BridgeEntry) (place : ℕ) (entry : BridgeEntry) → AllByRecursion (λ (x : ℕ). x < n) bridged
    → AreNamed bridged entries → entry.end ≡ n → AreNamed (bridged ++ n ∷ []) (insert entries place entry)
named_inserted n bridged entries place entry below named is =
    let whole : take place entries ++ drop place entries ≡ entries = take-append-drop place entries in
    let own : IsTrue (is_named (bridged ++ n ∷ []) entry.end) = subst (λ (m : ℕ). IsTrue (is_named (bridged ++ n ∷ []) m)) (sym is) (named_last bridged n) in
    let none : has_end entry.end entries ≡ false = subst (λ (m : ℕ). has_end m entries ≡ false) (sym is) (new_end n bridged entries below named) in
    named_between (bridged ++ n ∷ []) entry (take place entries) (drop place entries)
    (subst (λ (es : List BridgeEntry). AreNamed (bridged ++ n ∷ []) es) (sym whole) (all_named_more bridged (n ∷ []) entries named)) own
    (subst (λ (es : List BridgeEntry). has_end entry.end es ≡ false) (sym whole) none)

-- An entry is answered.

answered_end : (secure : ℕ) (entry : BridgeEntry) → (answered_entry secure entry).end ≡ entry.end
answered_end secure entry = elim (entry.secure == secure) as (λ b. (cond b (record entry { answered = true }) entry).end ≡ entry.end) [ true ↦ refl | false ↦ refl ]

answered_ends : (secure end : ℕ) (entries : List BridgeEntry) → has_end end (map (answered_entry secure) entries) ≡ has_end end entries
answered_ends secure end [] = refl
answered_ends secure end (entry ∷ entries) =
    ap (λ (m : ℕ). (m == end) || has_end end (map (answered_entry secure) entries)) (answered_end secure entry)
    ∙ ap (λ b. (entry.end == end) || b) (answered_ends secure end entries)

pub named_answered : (bridged : List ℕ) (secure : ℕ) (entries : List BridgeEntry) → AreNamed bridged entries → AreNamed bridged (map (answered_entry secure) entries)
named_answered bridged secure [] named = tt
named_answered bridged secure (entry ∷ entries) named =
    let after : List BridgeEntry = map (answered_entry secure) entries in
    let end : (answered_entry secure entry).end ≡ entry.end = answered_end secure entry in (
      subst (λ (m : ℕ). IsTrue (is_named bridged m)) (sym end) named.0,
      subst (λ (m : ℕ). has_end m after ≡ false) (sym end) (answered_ends secure entry.end entries ∙ named.1),
      named_answered bridged secure entries named.2,
    )

-- A core that drops an end.

module _ (s t : State) (entry : BridgeEntry) (entries : List BridgeEntry) (is : t ≡ with_core (ns_drop true entry.end s.core) s) where
  named_rest : AreNamed s.core.bridged (entry ∷ entries) → AreNamed t.core.bridged entries
  named_rest named =
      let bridged : t.core.bridged ≡ without entry.end s.core.bridged = ap (λ (x : State). x.core.bridged) is ∙ drop_names true entry.end s.core in
      subst (λ (b : List ℕ). AreNamed b entries) (sym bridged) (all_named_without s.core.bridged entry.end entries named.1 named.2)

  dropped_rest : fold entry_dropped t.core entries ≡ fold entry_dropped s.core (entry ∷ entries)
  dropped_rest = ap (λ (x : State). fold entry_dropped x.core entries) is

-- the same where the first entry stands at the front of a list
pub named_after : (s t : State) (entries : List BridgeEntry) (d : BridgeEntry) → 0 < length entries → t ≡ with_core (ns_drop true (get_or entries 0 d).end s.core) s
    → AreNamed s.core.bridged entries → AreNamed t.core.bridged (drop 1 entries)
named_after s t [] d some is named = absurd (omega (arith, some))
named_after s t (entry ∷ entries) d some is named = named_rest s t entry entries is named

pub dropped_after : (s t : State) (entries : List BridgeEntry) (d : BridgeEntry) → 0 < length entries → t ≡ with_core (ns_drop true (get_or entries 0 d).end s.core) s
    → fold entry_dropped t.core (drop 1 entries) ≡ fold entry_dropped s.core entries
dropped_after s t [] d some is = absurd (omega (arith, some))
dropped_after s t (entry ∷ entries) d some is = dropped_rest s t entry entries is
