-- Whether a text is the report of a history of a scene, and if not, how far it goes along with one. Nothing here speaks of
-- kernels: only of histories, and of the text.
use Rattle.std.specs.Prelude.{◌≡◌, ◌≤◌, ◌==◌, ℕ, List, [], ◌∷◌, length, count_by, if◌then◌else◌}
use mathlib.Core.List.{IsPrefix}
use Rattle.kernel_values.specs.SceneLaw.{SceneValue, scripts_of}
use Rattle.kernel_values.specs.declared.entry.Entry.{Entry}
use Rattle.kernel_types.specs.History.{Legal}
use Rattle.kernel_types.specs.Opening.{opening}
use Rattle.kernel_types.specs.Whole.{FollowsScripts}
use Rattle.report_text.specs.Forms.{entry_lines, report}
use Rattle.report_text.specs.Histories.{IsHistoryOf}
use Rattle.report_text.specs.Lines.{line_end, text_of}
use Rattle.report_text.specs.Names.{actor_names}
use Rattle.report_text.specs.declared.form.Form.TheVariants.{History}
use Rattle.history_check.specs.declared.verdict.Verdict.{Verdict}
use Rattle.history_check.specs.declared.verdict.Verdict.TheVariants.{Yes, No}

-- the text is the report of these entries, and they are a history of the scene: legal, each actor's calls its script's,
-- to the end of each
pub record IsReportOf (scene : SceneValue) (entries : List Entry) (text : List ℕ) : Type 0 where
  pub history : IsHistoryOf scene entries
  pub report_is : text ≡ report scene entries History

-- what stands behind the first line of a text
abbrev pub behind_first_line : List ℕ → List ℕ
behind_first_line [] = []
behind_first_line (byte ∷ text) = if byte == line_end then text else behind_first_line text

-- Behind its first line the text begins with the lines of these entries; and they are legal from the scene's beginning, and
-- each actor's calls in them are its script's, as far as they go. Each line ends with its line feed, so that what stands behind
-- the last line feed of a text is no line.
pub record BeginsWith (scene : SceneValue) (entries : List Entry) (text : List ℕ) : Type 0 where
  pub legal : Legal (opening scene) entries
  pub follows : FollowsScripts (scripts_of scene) entries
  pub lines : IsPrefix (text_of (entry_lines (actor_names scene) 0 entries)) (behind_first_line text)

-- the text is the report of one history of the scene, with so many entries, and of no other
pub record IsYes (scene : SceneValue) (text : List ℕ) (count : ℕ) : Type 0 where
  pub entries : List Entry
  pub report_of : IsReportOf scene entries text
  pub count_is : length entries ≡ count
  pub only : (other : List Entry) → IsReportOf scene other text → other ≡ entries

-- it is the report of none; and this is the greatest number of entries with which it begins
pub record IsNo (scene : SceneValue) (text : List ℕ) (count : ℕ) : Type 0 where
  pub none : (entries : List Entry) → IsReportOf scene entries text → ⊥
  pub entries : List Entry
  pub begins : BeginsWith scene entries text
  pub count_is : length entries ≡ count
  pub greatest : (other : List Entry) → BeginsWith scene other text → length other ≤ count

abbrev pub IsVerdict : SceneValue → List ℕ → Verdict → Type 0
IsVerdict scene text (Yes count) = IsYes scene text count
IsVerdict scene text (No count) = IsNo scene text count

-- how many lines a text has
abbrev pub line_count : List ℕ → ℕ
line_count text = count_by (λ byte. byte == line_end) text
