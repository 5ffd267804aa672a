-- Lines of a text: what stands behind one, and how many there are.
use Rattle.std.proofs.Common.{◌≡◌, ◌<◌, ◌≤◌, ℕ, suc, ◌+◌, Bool, true, false, cond, List, [], ◌∷◌, ◌++◌, length, drop, get_or, refl, sym, ap, ◌∙◌, subst, arith, append_assoc, length-append, inl, inr}
use Rattle.std.specs.Prelude.{◌==◌, Option, Some, None, IfSome, IfNone, MatchOption, is_some, slice_get}
use Rattle.std.proofs.lemmas.Bool.Decides.{nat_tests}
use Rattle.std.proofs.lemmas.List.{at_drop_more, append_cancel_left, drop_all}
use Rattle.std.proofs.lemmas.List.Sums.{sum_by-cons, sum_by-append}
use Rattle.std.proofs.lemmas.Bool.{cases_eq}
use Rattle.std.proofs.lemmas.Option.{slice_get-get_or}
use mathlib.Core.List.{IsPrefix}
use Rattle.history_check.specs.Fronts.{IsNamed}
use Rattle.report_text.specs.Lines.{blank, line_end, lined, spelled}
use Rattle.history_check.specs.Verdicts.{behind_first_line, line_count}

-- The first line.

behind_end : (text : List ℕ) (at : ℕ) → at < length text → get_or {A = ℕ} text at 0 ≡ 10 → behind_first_line (drop at text) ≡ drop (at + 1) text
behind_end text at below is =
    let test : (get_or {A = ℕ} text at 0 == 10) ≡ true = grind (arith, nat_tests) in
    at_drop_more behind_first_line text at 0 below ∙ rw test refl

behind_on : (text : List ℕ) (at : ℕ) → at < length text → (get_or {A = ℕ} text at 0 ≡ 10 → ⊥) → behind_first_line (drop at text) ≡ behind_first_line (drop (at + 1) text)
behind_on text at below differs =
    let test : (get_or {A = ℕ} text at 0 == 10) ≡ false = grind (arith, nat_tests) in
    at_drop_more behind_first_line text at 0 below ∙ rw test refl

pub found_end : (text : List ℕ) (at : ℕ) → at < length text → get_or {A = ℕ} text at 0 ≡ 10 → behind_first_line text ≡ behind_first_line (drop at text) → behind_first_line text ≡ drop (at + 1) text
found_end text at below is so_far = so_far ∙ behind_end text at below is

pub no_end : (text : List ℕ) (at : ℕ) → at < length text → (get_or {A = ℕ} text at 0 ≡ 10 → ⊥) → behind_first_line text ≡ behind_first_line (drop at text) → behind_first_line text ≡ behind_first_line (drop (at + 1) text)
no_end text at below differs so_far = so_far ∙ behind_on text at below differs

-- How many lines there are.

abbrev one : ℕ → ℕ
one byte = cond (byte == line_end) 1 0

count_cons : (byte : ℕ) (text : List ℕ) → line_count (byte ∷ text) ≡ one byte + line_count text
count_cons byte text = sum_by-cons one byte text

count_append : (a b : List ℕ) → line_count (a ++ b) ≡ line_count a + line_count b
count_append a b = sum_by-append one a b

count_lined : (words : List (List ℕ)) → 1 ≤ line_count (lined words)
unfolding lined
count_lined words = omega (arith, count_append (drop 1 (spelled words)) (line_end ∷ []), count_cons line_end [])

-- a line is taken
pub fewer_lines : (text rest : List ℕ) (words : List (List ℕ)) → text ≡ lined words ++ rest → line_count rest + 1 ≤ line_count text
fewer_lines text rest words is = omega (arith, ap line_count is, count_append (lined words) rest, count_lined words)

few_by : (t : Bool) (n limit : ℕ) → n ≤ limit → cond t 1 0 + n ≤ suc limit
few_by true n limit few = omega (arith, few)
few_by false n limit few = omega (arith, few)

-- no more than bytes
pub few_lines : (text : List ℕ) → line_count text ≤ length text
few_lines [] = omega arith
few_lines (byte ∷ text) = subst (λ n. n ≤ suc (length text)) (sym (count_cons byte text)) (few_by (byte == line_end) (line_count text) (length text) (few_lines text))

behind_by : (t : Bool) (text : List ℕ) (limit : ℕ) → cond t 1 0 + line_count text ≤ limit → (line_count text ≤ limit → line_count (behind_first_line text) < limit)
    → line_count (cond t text (behind_first_line text)) < limit
behind_by true text limit few rest = omega (arith, few)
behind_by false text limit few rest = rest (omega (arith, few))

pub behind_fewer : (text : List ℕ) (limit : ℕ) → 0 < limit → line_count text ≤ limit → line_count (behind_first_line text) < limit
behind_fewer [] limit some few = some
behind_fewer (byte ∷ text) limit some few = behind_by (byte == line_end) text limit (omega (arith, few, count_cons byte text)) (behind_fewer text limit some)

-- the place is at the end
pub all_line : (text : List ℕ) (at : ℕ) → length text ≤ at → behind_first_line text ≡ behind_first_line (drop at text) → drop (length text) text ≡ behind_first_line text
all_line text at past so_far = drop_all (length text) text (omega arith) ∙ sym (so_far ∙ ap behind_first_line (drop_all at text past))

-- What stands behind a front.

pub match_some : {X : Type 0} (P : Type 0) (Q : X → Type 0) (r : Option X) → MatchOption r P Q → IfSome r Q
match_some P Q None m = tt
match_some P Q (Some x) m = m

pub match_none : {X : Type 0} (P R : Type 0) (Q : X → Type 0) (r : Option X) → (P → R) → MatchOption r P Q → IfNone r R
match_none P R Q None f m = f m
match_none P R Q (Some x) f m = tt

-- A word and a blank.

pub begins_yes : {X : Type 0} (view : X → List ℕ) (text word rest : List ℕ) (r : Option X) → text ≡ word ++ rest → IfSome r (λ x. rest ≡ (blank ∷ []) ++ view x) → is_some r ≡ true → IsPrefix (word ++ blank ∷ []) text
begins_yes view text word rest None is some h = absurd (cc)
begins_yes view text word rest (Some x) is some h = (view x, append_assoc word (blank ∷ []) (view x) ∙ (ap (λ more. word ++ more) (sym some) ∙ sym is))

pub begins_no : {X : Type 0} (text word rest : List ℕ) (r : Option X) → text ≡ word ++ rest → IfNone r (IsPrefix (blank ∷ []) rest → ⊥) → is_some r ≡ false → IsPrefix (word ++ blank ∷ []) text → ⊥
begins_no text word rest None is none h p = none (p.0, append_cancel_left word (blank ∷ p.0) rest (sym (append_assoc word (blank ∷ []) p.0) ∙ (p.1 ∙ is)))
begins_no text word rest (Some x) is none h p = absurd (cc)

pub no_word : (text word : List ℕ) → (IsPrefix word text → ⊥) → IsPrefix (word ++ blank ∷ []) text → ⊥
no_word text word none p = none (blank ∷ p.0, sym (append_assoc word (blank ∷ []) p.0) ∙ p.1)

-- a line has a byte
pub shorter : (text rest : List ℕ) (words : List (List ℕ)) → text ≡ lined words ++ rest → length rest < length text
unfolding lined
shorter text rest words is =
    omega (arith, ap length is, length-append (lined words) rest, length-append (drop 1 (spelled words)) (line_end ∷ []))

-- Names.

pub none_of : {X : Type 0} (P : Type 0) (r : Option X) → is_some r ≡ false → IfNone r P → P
none_of P None h p = p
none_of P (Some x) h p = absurd (cc)

pub named_more : (names : List (List ℕ)) (said : List ℕ) (at : ℕ) (name word : List ℕ) → name ≡ get_or names at name → at < length names → word ≡ name → (IsPrefix (word ++ blank ∷ []) said → ⊥)
    → ((n : ℕ) → n < at → IsNamed names said n → ⊥) → (n : ℕ) → n < at + 1 → IsNamed names said n → ⊥
named_more names said at name word is below word_is none so_far n before named = elim (cases_eq n at) [
  | inl same ↦ (let there : slice_get names at ≡ Some name = slice_get-get_or names at name below ∙ ap (λ x. Some x) (sym is) in
      let both : Some named.name ≡ Some name = sym named.name_is ∙ (ap (λ k. slice_get names k) same ∙ there) in
      let name_is : named.name ≡ name = cc in
      none (subst (λ w. IsPrefix (w ++ blank ∷ []) said) (name_is ∙ sym word_is) named.begins))
  | inr apart ↦ so_far n (omega (arith, before, apart)) named
]
