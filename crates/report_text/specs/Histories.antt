-- What a report tells: one history, and no other.
use Rattle.std.specs.Prelude.{◌≡◌, ℕ, List}
use Rattle.kernel_values.specs.SceneLaw.{SceneValue}
use Rattle.kernel_values.specs.declared.entry.Entry.{Entry}
use Rattle.kernel_types.specs.History.{Legal}
use Rattle.kernel_types.specs.Opening.{opening}
use Rattle.kernel_types.specs.Whole.{IsWholeHistory}
use Rattle.report_text.specs.declared.form.Form.TheVariants.{History}
use Rattle.report_text.specs.Forms.{report}

-- a history of the scene from its beginning to its end
pub record IsHistoryOf (scene : SceneValue) (entries : List Entry) : Type 0 where
  pub legal : Legal (opening scene) entries
  pub whole : IsWholeHistory scene entries

-- where these entries are a history of the scene, the text is the report of no other one
abbrev pub TellsOnly : SceneValue → List Entry → List ℕ → Type 0
TellsOnly scene entries text = IsHistoryOf scene entries → (other : List Entry) → IsHistoryOf scene other → text ≡ report scene other History → entries ≡ other
