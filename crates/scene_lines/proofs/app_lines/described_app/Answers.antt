use Rattle.std.proofs.Common.{◌≡◌, Ok, length, rules, subst, sym}
use Rattle.script_lines.specs.Gives.{Gives}
use Rattle.scene_lines.specs.Lawful.{IsLawful}
use Rattle.scene_lines.specs.Reading.{manifest_act, with_app}
use Rattle.script_lines.specs.Texts.{after_two_words}
use Rattle.scene_lines.proofs.Acts.{app_kept, described_is, kept_by}
use Rattle.script_lines.proofs.Bytes.{rest_kept}
use Rattle.scene_lines.proofs.app_lines.described_app.Goals as goal

pub manifest_act-requires : goal.manifest_act-requires
manifest_act-requires c = rw c.after_two_words.ensures (rest_kept c.args.line.now c.requires.text)

pub returns-in-Ok-clause-exact : goal.returns-in-Ok-clause-exact
returns-in-Ok-clause-exact c =
    let read : manifest_act (length c.args.before.noted.names) (after_two_words c.args.line.now) ≡ Ok c.in-Ok.manifest = search rules in
    subst (λ rule. Gives (λ next. next) c.with_app.result rule) (sym (described_is c.args.before c.args.last c.args.line.now c.args.name.now c.in-Ok.manifest read)) c.with_app.ensures

pub returns-in-Ok-clause-kept : goal.returns-in-Ok-clause-kept
returns-in-Ok-clause-kept c = λ used h. kept_by (λ next. IsLawful next.0 next.1 used) c.with_app.result (with_app c.args.before c.args.last c.args.name.now c.in-Ok.manifest) c.with_app.ensures
    (λ next e. app_kept c.args.before c.args.last used c.args.name.now c.in-Ok.manifest next e h c.requires.name c.in-Ok.ensures.lawful)
