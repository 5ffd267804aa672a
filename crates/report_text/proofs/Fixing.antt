-- A text fixes its lines: what stands in front of the first byte that no word has is the first word, and so on.
use Rattle.std.proofs.Common.{◌≡◌, ◌≤◌, ℕ, List, [], ◌∷◌, ◌++◌, length, drop, get_or, refl, sym, ap, ◌∙◌, subst, append_assoc, arith, length-append, inl, inr}
use Rattle.std.specs.Prelude.{◌⊎◌}
use Rattle.std.specs.List.{AllByRecursion}
use Rattle.report_text.specs.Lines.{blank, line_end, spelled, lined, text_of}
use Rattle.report_text.specs.Plain.{IsInner, IsWord, IsLine}

pub head_is : (x y : ℕ) (xs ys : List ℕ) → x ∷ xs ≡ y ∷ ys → x ≡ y
head_is x y xs ys e = ap (λ l. get_or {A = ℕ} l 0 0) e

pub tail_is : (x y : ℕ) (xs ys : List ℕ) → x ∷ xs ≡ y ∷ ys → xs ≡ ys
tail_is x y xs ys e = ap (drop 1) e

-- a byte that parts words or lines
abbrev pub IsPart : ℕ → Type 0
IsPart byte = (byte ≡ blank) ⊎ (byte ≡ line_end)

not_inner : (byte : ℕ) → IsPart byte → IsInner byte → ⊥
not_inner byte (inl is) inner = inner.0 is
not_inner byte (inr is) inner = inner.1 is

pub word_ends : (v w a b : List ℕ) (x y : ℕ) → IsWord v → IsWord w → IsPart x → IsPart y → v ++ x ∷ a ≡ w ++ y ∷ b → (v ≡ w) × (x ∷ a ≡ y ∷ b)
word_ends [] [] a b x y p q l m e = (refl, e)
word_ends [] (c ∷ w) a b x y p q l m e = absurd (not_inner x l (subst IsInner (sym (head_is x c a (w ++ y ∷ b) e)) q.0))
word_ends (d ∷ v) [] a b x y p q l m e = absurd (not_inner y m (subst IsInner (head_is d y (v ++ x ∷ a) b e) p.0))
word_ends (d ∷ v) (c ∷ w) a b x y p q l m e =
    let later = word_ends v w a b x y p.1 q.1 l m (tail_is d c (v ++ x ∷ a) (w ++ y ∷ b) e) in
    (ap (λ z. z ∷ v) (head_is d c (v ++ x ∷ a) (w ++ y ∷ b) e) ∙ ap (λ l. c ∷ l) later.0, later.1)

-- what follows a word begins with a byte that no word has
record Parted (text : List ℕ) : Type 0 where
  first : ℕ
  rest : List ℕ
  parts : IsPart first
  is : text ≡ first ∷ rest

parted : (words : List (List ℕ)) (a : List ℕ) → Parted (spelled words ++ line_end ∷ a)
parted [] a = record { first = line_end; rest = a; parts = inr refl; is = refl }
parted (word ∷ words) a = record { first = blank; rest = (word ++ spelled words) ++ line_end ∷ a; parts = inl refl; is = refl }

-- two lines that begin with a word begin with the same one, and go on alike
pub word_first : (v w : List ℕ) (xs ys : List (List ℕ)) (a b : List ℕ) → IsWord v → IsWord w
    → spelled (v ∷ xs) ++ line_end ∷ a ≡ spelled (w ∷ ys) ++ line_end ∷ b → (v ≡ w) × (spelled xs ++ line_end ∷ a ≡ spelled ys ++ line_end ∷ b)
word_first v w xs ys a b p q e =
    let after_v = parted xs a in
    let after_w = parted ys b in
    let same = tail_is blank blank ((v ++ spelled xs) ++ line_end ∷ a) ((w ++ spelled ys) ++ line_end ∷ b) e in
    let one = word_ends v w after_v.rest after_w.rest after_v.first after_w.first p q after_v.parts after_w.parts
    (ap (λ l. v ++ l) (sym after_v.is) ∙ sym (append_assoc v (spelled xs) (line_end ∷ a)) ∙ same
    ∙ append_assoc w (spelled ys) (line_end ∷ b) ∙ ap (λ l. w ++ l) after_w.is) in
    (one.0, after_v.is ∙ one.1 ∙ sym after_w.is)

pub words_end : (xs ys : List (List ℕ)) (a b : List ℕ) → AllByRecursion IsWord xs → AllByRecursion IsWord ys
    → spelled xs ++ line_end ∷ a ≡ spelled ys ++ line_end ∷ b → (xs ≡ ys) × (a ≡ b)
words_end [] [] a b p q e = (refl, tail_is line_end line_end a b e)
words_end [] (y ∷ ys) a b p q e = absurd (omega (arith, head_is line_end blank a ((y ++ spelled ys) ++ line_end ∷ b) e))
words_end (x ∷ xs) [] a b p q e = absurd (omega (arith, head_is blank line_end ((x ++ spelled xs) ++ line_end ∷ a) b e))
words_end (x ∷ xs) (y ∷ ys) a b p q e =
    let one = word_first x y xs ys a b p.0 q.0 e in
    let later = words_end xs ys a b p.1 q.1 one.1 in
    (ap (λ z. z ∷ xs) one.0 ∙ ap (λ l. y ∷ l) later.0, later.1)

-- as many words on each side, and what follows them
pub words_off : (xs ys : List (List ℕ)) (more others : List (List ℕ)) (a b : List ℕ) → length xs ≡ length ys → AllByRecursion IsWord xs → AllByRecursion IsWord ys
    → spelled (xs ++ more) ++ line_end ∷ a ≡ spelled (ys ++ others) ++ line_end ∷ b → (xs ≡ ys) × (spelled more ++ line_end ∷ a ≡ spelled others ++ line_end ∷ b)
words_off [] [] more others a b same p q e = (refl, e)
words_off [] (y ∷ ys) more others a b same p q e = absurd (omega (arith, same))
words_off (x ∷ xs) [] more others a b same p q e = absurd (omega (arith, same))
words_off (x ∷ xs) (y ∷ ys) more others a b same p q e =
    let one = word_first x y (xs ++ more) (ys ++ others) a b p.0 q.0 e in
    let later = words_off xs ys more others a b (omega (arith, same)) p.1 q.1 one.1 in
    (ap (λ z. z ∷ xs) one.0 ∙ ap (λ l. y ∷ l) later.0, later.1)

-- the words in front of a word that is none of them
pub words_up_to : (mark : List ℕ) (xs ys : List (List ℕ)) (more others : List (List ℕ)) (a b : List ℕ) → IsWord mark → AllByRecursion IsWord xs → AllByRecursion IsWord ys
    → AllByRecursion (λ x. x ≡ mark → ⊥) xs → AllByRecursion (λ y. y ≡ mark → ⊥) ys
    → spelled (xs ++ mark ∷ more) ++ line_end ∷ a ≡ spelled (ys ++ mark ∷ others) ++ line_end ∷ b → xs ≡ ys
words_up_to mark [] [] more others a b m p q v w e = refl
words_up_to mark [] (y ∷ ys) more others a b m p q v w e = absurd (w.0 (sym (word_first mark y more (ys ++ mark ∷ others) a b m q.0 e).0))
words_up_to mark (x ∷ xs) [] more others a b m p q v w e = absurd (v.0 (word_first x mark (xs ++ mark ∷ more) others a b p.0 m e).0)
words_up_to mark (x ∷ xs) (y ∷ ys) more others a b m p q v w e =
    let one = word_first x y (xs ++ mark ∷ more) (ys ++ mark ∷ others) a b p.0 q.0 e in
    ap (λ z. z ∷ xs) one.0 ∙ ap (λ l. y ∷ l) (words_up_to mark xs ys more others a b m p.1 q.1 v.1 w.1 one.1)

-- a text with a blank in front of its first line
pub led : (word : List ℕ) (words : List (List ℕ)) (lines : List (List (List ℕ)))
    → blank ∷ text_of ((word ∷ words) ∷ lines) ≡ spelled (word ∷ words) ++ line_end ∷ text_of lines
unfolding lined
led word words lines = ap (λ l. blank ∷ l) (append_assoc (word ++ spelled words) (line_end ∷ []) (text_of lines))

some_text : (word : List ℕ) (words : List (List ℕ)) (lines : List (List (List ℕ))) → [] ≡ text_of ((word ∷ words) ∷ lines) → 1 ≤ 0
some_text word words lines e =
    let lengths = ap length (ap (λ l. blank ∷ l) e ∙ led word words lines) in
    omega (arith, lengths, length-append (spelled (word ∷ words)) (line_end ∷ text_of lines), length-append word (spelled words))

pub lines_fixed : (xs ys : List (List (List ℕ))) → AllByRecursion IsLine xs → AllByRecursion IsLine ys → text_of xs ≡ text_of ys → xs ≡ ys
lines_fixed [] [] p q e = refl
lines_fixed [] ([] ∷ ys) p q e = absurd q.0
lines_fixed ([] ∷ xs) ys p q e = absurd p.0
lines_fixed [] ((w ∷ ws) ∷ ys) p q e = absurd (omega (arith, some_text w ws ys e))
lines_fixed ((v ∷ vs) ∷ xs) [] p q e = absurd (omega (arith, some_text v vs xs (sym e)))
lines_fixed ((v ∷ vs) ∷ xs) ([] ∷ ys) p q e = absurd q.0
lines_fixed ((v ∷ vs) ∷ xs) ((w ∷ ws) ∷ ys) p q e =
    let one = words_end (v ∷ vs) (w ∷ ws) (text_of xs) (text_of ys) p.0 q.0 (sym (led v vs xs) ∙ ap (λ l. blank ∷ l) e ∙ led w ws ys) in
    ap (λ z. z ∷ xs) one.0 ∙ ap (λ l. (w ∷ ws) ∷ l) (lines_fixed xs ys p.1 q.1 one.1)
