-- The places of an actor's entries, one place further.
use Rattle.std.proofs.Common.{◌≡◌, ℕ, suc, zero, ◌+◌, ◌<◌, Bool, true, false, List, [], ◌∷◌, ◌++◌, cond, ap, sym, ◌∙◌, arith, get_or, length, zero-add, append-nil}
use Rattle.std.specs.Prelude.{slice_get}
use Rattle.std.specs.List.{filter, range_with_len}
use Rattle.std.proofs.lemmas.List.Elements.{filter-append}
use Rattle.std.proofs.lemmas.Option.{slice_get-get_or}
use Rattle.kernel_values.specs.declared.entry.Entry.{Entry}
use Rattle.kernel_log.specs.Books.{is_own, is_of_actor, places_below}

range_more : (a n : ℕ) → range_with_len a (suc n) ≡ range_with_len a n ++ (a + n) ∷ []
range_more a zero = ap (λ k. k ∷ []) (omega arith)
range_more a (suc n) =
    let moved : (a + 1) + n ≡ a + suc n = omega arith in
    ap (λ ks. a ∷ ks) (range_more (a + 1) n ∙ ap (λ k. range_with_len (a + 1) n ++ k ∷ []) moved)

places_more : (entries : List Entry) (actor n : ℕ)
    → places_below (n + 1) entries actor ≡ places_below n entries actor ++ cond (is_own actor (slice_get entries n)) (n ∷ []) []
places_more entries actor n =
    let p : ℕ → Bool = λ k. is_own actor (slice_get entries k) in
    let one : n + 1 ≡ suc n = omega arith in
    let ranges : range_with_len 0 (n + 1) ≡ range_with_len 0 n ++ n ∷ [] =
    (ap (λ m. range_with_len 0 m) one ∙ range_more 0 n) ∙ ap (λ k. range_with_len 0 n ++ k ∷ []) (zero-add n) in
    ap (λ ks. filter p ks) ranges ∙ filter-append p (range_with_len 0 n) (n ∷ [])

own_at : (entries : List Entry) (actor n : ℕ) (entry : Entry) → n < length entries → entry ≡ get_or entries n entry
    → is_own actor (slice_get entries n) ≡ is_of_actor actor entry.event
own_at entries actor n entry below is =
    ap (λ found. is_own actor found) (slice_get-get_or entries n entry below) ∙ ap (λ found. is_of_actor actor found.event) (sym is)

pub places_one : (entries : List Entry) (actor n : ℕ) (entry : Entry) → n < length entries → entry ≡ get_or entries n entry
    → is_of_actor actor entry.event ≡ true → places_below (n + 1) entries actor ≡ places_below n entries actor ++ n ∷ []
places_one entries actor n entry below is own =
    places_more entries actor n ∙ ap (λ b. places_below n entries actor ++ cond b (n ∷ []) []) (own_at entries actor n entry below is ∙ own)

pub places_same : (entries : List Entry) (actor n : ℕ) (entry : Entry) → n < length entries → entry ≡ get_or entries n entry
    → is_of_actor actor entry.event ≡ false → places_below (n + 1) entries actor ≡ places_below n entries actor
places_same entries actor n entry below is own =
    places_more entries actor n ∙ ap (λ b. places_below n entries actor ++ cond b (n ∷ []) []) (own_at entries actor n entry below is ∙ own) ∙ append-nil _
