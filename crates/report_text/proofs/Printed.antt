-- Printing a text in several steps.
use Rattle.std.proofs.Common.{◌≡◌, ◌<◌, ◌≤◌, ℕ, ◌+◌, List, [], ◌∷◌, ◌++◌, Result, Ok, Err, length, drop, refl, sym, ap, ◌∙◌, subst, append_assoc, append-nil, arith, length-append, get_or}
use Rattle.std.specs.Prelude.{Option}
use Rattle.std.specs.Result.{IsErrAnd}
use Rattle.std.specs.Io.KnownBytes.{Appends}
use Rattle.std.proofs.KnownBytes.{Appends-nil, Appends-trans}
use Rattle.std.proofs.lemmas.List.{at_drop_more}
use Rattle.std.proofs.lemmas.Result.{on_ok_weaker, on_err_weaker, err_from_is_err_and}
use Rattle.outside_io.specs.Faults.{Rose}
use Rattle.outside_io.specs.Writing.{AppendsFront}
use Rattle.report_text.specs.declared.refused.PrintRefused.{PrintRefused}
use Rattle.report_text.specs.declared.refused.PrintRefused.TheVariants.{Failed, NoMemory}
use Rattle.report_text.specs.Printing.{Prints, HasCause}
use Rattle.report_text.specs.Lines.{lined, spelled, line_end, text_of, behind_first}

-- what was printed so far of a text, what is left of it, and that no write failed
pub record Printed (old now : Option (List ℕ)) (before after : ℕ) (made_before made : ℕ) (whole rest : List ℕ) : Type 0 where
  pub done : List ℕ
  pub parts : whole ≡ done ++ rest
  pub appended : Appends old now done
  pub same : after ≡ before
  pub turns : made ≤ made_before + length done

some_more : (a b : List ℕ) → 0 < length a → 0 < length (a ++ b)
some_more a b some = omega (arith, length-append a b)

front_behind : {old mid new : Option (List ℕ)} {whole rest : List ℕ} (done : List ℕ) → whole ≡ done ++ rest → Appends old mid done
    → AppendsFront mid new rest → AppendsFront old new whole
front_behind {old} {mid} {new} done parts appended f = record {
  front = done ++ f.front;
  rest = f.rest;
  parts = parts ∙ ap (λ l. done ++ l) f.parts ∙ sym (append_assoc done f.front f.rest);
  unfinished = f.unfinished;
  appended = Appends-trans old mid new done f.front appended f.appended;
}

front_of_more : {old new : Option (List ℕ)} {rest : List ℕ} (text more : List ℕ) → rest ≡ text ++ more
    → AppendsFront old new text → AppendsFront old new rest
front_of_more text more parts f = record {
  front = f.front;
  rest = f.rest ++ more;
  parts = parts ∙ ap (λ l. l ++ more) f.parts ∙ append_assoc f.front f.rest more;
  unfinished = some_more f.rest more f.unfinished;
  appended = f.appended;
}

pub begun : (old : Option (List ℕ)) (n m : ℕ) (whole : List ℕ) → Printed old old n n m m whole whole
begun old n m whole = record { done = []; parts = refl; appended = Appends-nil old; same = refl; turns = omega arith }

-- one more part of the text
pub went_on : {old mid new : Option (List ℕ)} {before between now : ℕ} {made_before made_between made : ℕ} {whole rest : List ℕ} (text more : List ℕ)
    → rest ≡ text ++ more → Printed old mid before between made_before made_between whole rest → Prints mid new between now made_between made (Ok tt) text
    → Printed old new before now made_before made whole more
went_on {old} {mid} {new} text more is so_far one = record {
  done = so_far.done ++ text;
  parts = so_far.parts ∙ ap (λ l. so_far.done ++ l) is ∙ sym (append_assoc so_far.done text more);
  appended = Appends-trans old mid new so_far.done text so_far.appended one.whole;
  same = one.cause ∙ so_far.same;
  turns = omega (arith, one.turns, so_far.turns, length-append so_far.done text);
}

-- the last part of the text
pub went_to_end : {old mid new : Option (List ℕ)} {before between now : ℕ} {made_before made_between made : ℕ} {whole rest : List ℕ} {r : Result (Unit {0}) PrintRefused}
    → Printed old mid before between made_before made_between whole rest → Prints mid new between now made_between made r rest
    → Prints old new before now made_before made r whole
went_to_end {old} {mid} {new} {before} {between} {now} {whole = whole} {rest = rest} {r = r} so_far last = record {
  whole = on_ok_weaker r (λ p. subst (Appends old new) (sym so_far.parts) (Appends-trans old mid new so_far.done rest so_far.appended p)) last.whole;
  front = on_err_weaker r (λ f. front_behind so_far.done so_far.parts so_far.appended f) last.front;
  later = subst (λ n. n ≤ now) so_far.same last.later;
  cause = subst (λ n. HasCause n now r) so_far.same last.cause;
  turns = omega (arith, last.turns, so_far.turns, ap length so_far.parts, length-append so_far.done rest);
}

-- all of it
pub ended : {old now : Option (List ℕ)} {before after : ℕ} {made_before made : ℕ} {whole : List ℕ} → Printed old now before after made_before made whole []
    → Prints old now before after made_before made (Ok tt) whole
ended {old} {now} {before} {after} so_far = record {
  whole = subst (Appends old now) (sym (so_far.parts ∙ append-nil so_far.done)) so_far.appended;
  front = tt;
  later = omega (arith, so_far.same);
  cause = so_far.same;
  turns = omega (arith, so_far.turns, ap length (so_far.parts ∙ append-nil so_far.done));
}

pub all_printed : {old now : Option (List ℕ)} {before after : ℕ} {made_before made : ℕ} {whole rest : List ℕ} → rest ≡ [] → Printed old now before after made_before made whole rest
    → Prints old now before after made_before made (Ok tt) whole
all_printed {old} {now} {before} {after} {made_before} {made} {whole} none so_far = ended (subst (λ left. Printed old now before after made_before made whole left) none so_far)

-- refused in a part of the text
pub stopped : {old mid new : Option (List ℕ)} {before between now : ℕ} {made_before made_between made : ℕ} {whole rest : List ℕ} {r : Result (Unit {0}) PrintRefused} {e : PrintRefused}
    (text more : List ℕ) → rest ≡ text ++ more → Printed old mid before between made_before made_between whole rest → Prints mid new between now made_between made (Err e) text
    → IsErrAnd r (λ y. y ≡ e) → Prints old new before now made_before made r whole
stopped {old} {mid} {new} {before} {between} {now} {made_before} {made_between} {made} {whole} {rest} {r} {e} text more is so_far one refused =
    let p = err_from_is_err_and r refused in
    let here : Prints mid new between now made_between made (Err e) rest = record {
      whole = tt;
      front = front_of_more text more is one.front;
      later = one.later;
      cause = one.cause;
      turns = omega (arith, one.turns, ap length is, length-append text more);
    } in
    let r_is : r ≡ Err e = p.1 ∙ ap (λ y. Err y) p.2 in
    subst (λ x. Prints old new before now made_before made x whole) (sym r_is) (went_to_end so_far here)

-- memory was refused before anything was written
pub not_begun : {old : Option (List ℕ)} {n m : ℕ} {text : List ℕ} {r : Result (Unit {0}) PrintRefused} → 0 < length text
    → IsErrAnd r (λ y. y ≡ NoMemory) → Prints old old n n m m r text
not_begun {old} {n} {m} {text} {r} some refused =
    let p = err_from_is_err_and r refused in
    let here : Prints old old n n m m (Err NoMemory) text = record {
      whole = tt;
      front = record { front = []; rest = text; parts = refl; unfinished = some; appended = Appends-nil old };
      later = omega arith;
      cause = refl;
      turns = omega arith;
    } in
    let r_is : r ≡ Err NoMemory = p.1 ∙ ap (λ y. Err y) p.2 in
    subst (λ x. Prints old old n n m m x text) (sym r_is) here

-- a function of what is left of a list, at its next element
pub left_at : {X Y : Type 0} (F : List X → Y) (xs : List X) (i : ℕ) (x : X) → i < length xs → x ≡ get_or xs i x
    → F (drop i xs) ≡ F (x ∷ drop (i + 1) xs)
left_at F xs i x below is = at_drop_more F xs i x below ∙ ap (λ y. F (y ∷ drop (i + 1) xs)) (sym is)

-- Lines.

behind_first_is : (line : List ℕ) → behind_first (line ++ line_end ∷ []) ≡ drop 1 line ++ line_end ∷ []
behind_first_is [] = refl
behind_first_is (byte ∷ []) = refl
behind_first_is (byte ∷ next ∷ bytes) = refl

-- the text that was handed to `write_all` for the line
pub shown_is : (line longer text shown : List ℕ) → longer ≡ line ++ line_end ∷ [] → text ≡ longer → shown ≡ behind_first text
    → shown ≡ drop 1 line ++ line_end ∷ []
shown_is line longer text shown is text_is behind = behind ∙ ap behind_first (text_is ∙ is) ∙ behind_first_is line

-- a write failed
pub refused_there : {old new : Option (List ℕ)} {before now : ℕ} {made_before made : ℕ} {shown text : List ℕ} {r : Result (Unit {0}) PrintRefused}
    → shown ≡ text → AppendsFront old new shown → before ≤ now → Rose before now → made ≤ made_before + length shown → IsErrAnd r (λ y. y ≡ Failed)
    → Prints old new before now made_before made r text
refused_there {old} {new} {before} {now} {made_before} {made} {shown} {text} {r} is front later rose turns refused =
    let p = err_from_is_err_and r refused in
    let here : Prints old new before now made_before made (Err Failed) text = record {
      whole = tt;
      front = subst (AppendsFront old new) is front;
      later = later;
      cause = rose;
      turns = omega (arith, turns, ap length is);
    } in
    let r_is : r ≡ Err Failed = p.1 ∙ ap (λ y. Err y) p.2 in
    subst (λ x. Prints old new before now made_before made x text) (sym r_is) here

pub ended_line_some : (line : List ℕ) → 0 < length (line ++ line_end ∷ [])
ended_line_some line = omega (arith, length-append line (line_end ∷ []))

pub lined_some : (words : List (List ℕ)) → 0 < length (lined words)
unfolding lined
lined_some words = ended_line_some (drop 1 (spelled words))

pub line_not_begun : {old : Option (List ℕ)} {n m : ℕ} {r : Result (Unit {0}) PrintRefused} (words : List (List ℕ))
    → IsErrAnd r (λ y. y ≡ NoMemory) → Prints old old n n m m r (lined words)
line_not_begun words refused = not_begun (lined_some words) refused

lined_is : (line cleared : List ℕ) (words : List (List ℕ)) → line ≡ cleared ++ spelled words → cleared ≡ [] → drop 1 line ++ line_end ∷ [] ≡ lined words
unfolding lined
lined_is line cleared words is none = ap (λ l. drop 1 l ++ line_end ∷ []) (is ∙ ap (λ l. l ++ spelled words) none)

pub line_printed : {old new : Option (List ℕ)} {before now : ℕ} {made_before made : ℕ} {r : Result (Unit {0}) PrintRefused} {line cleared : List ℕ} (words : List (List ℕ))
    → Prints old new before now made_before made r (drop 1 line ++ line_end ∷ []) → line ≡ cleared ++ spelled words → cleared ≡ []
    → Prints old new before now made_before made r (lined words)
line_printed {old} {new} {before} {now} {made_before} {made} {r} {line} {cleared} words printed is none =
    subst (λ text. Prints old new before now made_before made r text) (lined_is line cleared words is none) printed

pub one_more : (first second : List (List ℕ)) → text_of (first ∷ second ∷ []) ≡ lined first ++ lined second
one_more first second = ap (λ text. lined first ++ text) (append-nil (lined second))
