use Rattle.std.proofs.Common.{ap, ap₂, sym, ◌∙◌, inl, inr}
use Rattle.clap.specs.Words.{found_of, is_simple, is_simple_and_free}
use Rattle.command_line.specs.Commands.{judged}
use Rattle.command_line.proofs.ClapApp.{app_is_free, app_is_simple}
use Rattle.command_line.proofs.Parsed.{given_is, nothing_given}
use Rattle.command_line.proofs.words.command_of.Goals as goal

pub returns-in-Ok-clause-exact : goal.returns-in-Ok-clause-exact
returns-in-Ok-clause-exact c =
    let app_is = c.in_ok-program.ensures in
    c.judged.ensures.exact ∙ ap₂ judged c.get_str.ensures c.get_strs.ensures
    ∙ sym (given_is c.args.words.now _ app_is (found_of c.in-Ok.matches) (c.in-Ok.ensures.kinds (ap is_simple_and_free app_is ∙ app_is_free))
    (c.in-Ok.ensures.matches (ap is_simple app_is ∙ app_is_simple)).0)

pub returns-clause-exact : goal.returns-clause-exact
returns-clause-exact c =
    let app_is = c.in_ok-program.ensures in
    sym (elim (c.in-Err.ensures.kinds (ap is_simple_and_free app_is ∙ app_is_free)) [
      | inl memory ↦ absurd (c.in_default.not-OutOfMemory (c.kind.ensures ∙ memory))
      | inr among ↦ nothing_given c.args.words.now _ app_is _ among
    ])
