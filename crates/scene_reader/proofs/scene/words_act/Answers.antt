use Rattle.std.proofs.Common.{◌≡◌, ℕ, List, refl, subst, map}
use Rattle.kernel_values.specs.declared.scene.Turn.{Turn}
use Rattle.scene_lines.specs.declared.reading.Place.{Place}
use Rattle.scene_lines.specs.declared.reading.Place.TheVariants as place
use Rattle.scene_lines.specs.declared.reading.Reading.{Reading}
use Rattle.script_lines.specs.Gives.{Gives}
use Rattle.scene_lines.specs.Reading.{words_act, first_word}
use Rattle.scene_reader.proofs.scene.words_act.Goals as goal

between : (r : Reading) (last : Place) (at : ℕ) (text : List ℕ) (words : List (List ℕ)) → (last ≡ place.Start → ⊥) → ((turns : List Turn) → last ≡ place.Turns turns → ⊥) → first_word r at text words ≡ words_act r last at text words
unfolding words_act
between r place.Start at text words n m = absurd (n refl)
between r place.Outside at text words n m = refl
between r (place.App app) at text words n m = refl
between r (place.Repeat app repeat) at text words n m = refl
between r (place.Client client) at text words n m = refl
between r (place.ClientRepeat client repeat) at text words n m = refl
between r (place.Turns turns) at text words n m = absurd (m turns refl)

pub returns-in_default : goal.returns-in_default
returns-in_default c = record {
  exact = subst (λ rule. Gives (λ next. next) c.first_word.result rule) (between c.args.reading c.args.reading.place c.args.at c.args.text.now (map (λ word. word.now) c.args.words.now) c.in_default.not-Start c.in_default.not-Turns) c.first_word.ensures.exact;
  kept = c.first_word.ensures.kept;
}
