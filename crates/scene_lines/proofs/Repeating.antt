-- Copies of a script behind another, one after the other.
use Rattle.std.proofs.Common.{◌≡◌, ℕ, suc, ◌+◌, ◌-◌, ◌<◌, ◌≤◌, List, [], ◌∷◌, ◌++◌, refl, sym, ap, ◌∙◌, append_assoc, arith}
use Rattle.std.proofs.lemmas.List.{append-nil}
use Rattle.kernel_values.specs.declared.script.Command.{Command}
use Rattle.scene_lines.specs.Reading.{repeated}

pub one_more : (script after body whole : List Command) (times counter : ℕ) → counter < times → after ≡ script ++ body → script ++ repeated (times - counter) body ≡ whole → after ++ repeated (times - (counter + 1)) body ≡ whole
unfolding repeated
one_more script after body whole times counter lt longer so_far =
    let k : times - counter ≡ suc (times - (counter + 1)) = omega arith in
    let one : repeated (times - counter) body ≡ body ++ repeated (times - (counter + 1)) body = rw k refl in
    rw longer (append_assoc script body (repeated (times - (counter + 1)) body)) ∙ ap (λ more. script ++ more) (sym one) ∙ so_far

pub none_left : (script body whole : List Command) (times counter : ℕ) → times ≤ counter → script ++ repeated (times - counter) body ≡ whole → script ≡ whole
unfolding repeated
none_left script body whole times counter le so_far =
    let k : times - counter ≡ 0 = omega arith in
    let one : script ++ repeated (times - counter) body ≡ script = rw k (append-nil script) in
    sym one ∙ so_far
