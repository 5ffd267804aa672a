-- What the next line of a text comes to, and its end.
use Rattle.std.specs.Prelude.{◌≡◌, ◌⊎◌, ℕ, ◌+◌, Bool, true, false, List, [], ◌∷◌, ◌++◌, Option, Some, None, codes, decimal}
use mathlib.Core.List.{IsPrefix}
use Rattle.kernel_values.specs.SceneLaw.{SceneValue, IsLawfulScene}
use Rattle.kernel_values.specs.declared.entry.Entry.{Entry}
use Rattle.kernel_values.specs.declared.state.State.{State}
use Rattle.kernel_types.specs.Facts.{end_facts, is_at_end}
use Rattle.kernel_types.specs.History.{step_entry, next_state, state_after}
use Rattle.kernel_types.specs.Opening.{opening}
use Rattle.kernel_types.specs.Whole.{FollowsScripts}
use Rattle.report_text.specs.Forms.{end_words, entry_words}
use Rattle.report_text.specs.Lines.{blank, lined}
use Rattle.report_text.specs.Names.{actor_names}
use Rattle.runners.specs.Places.{AllRan, PlacesFit}
use Rattle.history_check.specs.declared.actors.Actors.{Actors}
use Rattle.history_check.specs.declared.verdict.Verdict.{Verdict}
use Rattle.history_check.specs.Matching.{AreAtTheBeginning, SameActors}
use Rattle.history_check.specs.Verdicts.{IsVerdict, behind_first_line}

-- the text goes on with the line of this entry, which can come next
pub record CanFollow (actors : Actors) (s : State) (entries : List Entry) (k : ℕ) (text : List ℕ) (entry : Entry) : Type 0 where
  pub step_is : step_entry s entry.event ≡ Some entry
  pub later : List Entry
  pub follows : FollowsScripts actors.scripts (entries ++ entry ∷ later)
  pub line : IsPrefix (lined (entry_words actors.names k entry)) text

-- these are the actors of the scene, and their places are those after the entries
pub record StandAt (scene : SceneValue) (actors : Actors) (entries : List Entry) : Type 0 where
  pub lawful : IsLawfulScene scene
  pub names_are : actors.names ≡ actor_names scene
  pub kept : PlacesFit actors.scripts actors.places.items entries

-- the line of an entry was taken, and no other can come
pub record TookLine (k : ℕ) (text rest : List ℕ) (old new : Actors) (s t : State) (made remade : ℕ) : Type 0 where
  pub entry : Entry
  pub line_is : text ≡ lined (entry_words old.names k entry) ++ rest
  pub same : SameActors old new
  pub step_is : step_entry s entry.event ≡ Some entry
  pub state_is : t ≡ next_state s entry.event
  pub made_is : remade ≡ made + 1
  pub kept : (entries : List Entry) → PlacesFit old.scripts old.places.items entries → PlacesFit old.scripts new.places.items (entries ++ entry ∷ [])
  pub ran : (first : State) (entries : List Entry) → s ≡ state_after first entries → AllRan old.places.items first entries → AllRan new.places.items first (entries ++ entry ∷ [])
  pub only : (scene : SceneValue) (entries : List Entry) → StandAt scene old entries → (other : Entry) → CanFollow old s entries k text other → other ≡ entry

-- nothing that can come next has the next line
abbrev pub NoLine : ℕ → List ℕ → Actors → State → Type 0
NoLine k text old s = (scene : SceneValue) (entries : List Entry) → StandAt scene old entries → (other : Entry) → CanFollow old s entries k text other → ⊥

-- A step may have been made that has another line; then the text goes on with a number, and not with its end.
abbrev pub TookEntry : ℕ → List ℕ → Actors → Actors → State → State → ℕ → ℕ → Option (List ℕ) → Type 0
TookEntry k text old new s t made remade (Some rest) = TookLine k text rest old new s t made remade
TookEntry k text old new s t made remade None = NoLine k text old s × ((t ≡ s) ⊎ IsPrefix (decimal k ++ blank ∷ []) text)

-- the first line counts the entries, the last one tells what is left, and all is over
pub record IsEnd (s : State) (k : ℕ) (first last : List ℕ) : Type 0 where
  pub first_is : first ≡ lined (codes "history" ∷ decimal k ∷ [])
  pub last_is : last ≡ lined (end_words (end_facts s))
  pub over : is_at_end s ≡ true

abbrev pub Ends : State → ℕ → List ℕ → List ℕ → Bool → Type 0
Ends s k first last true = IsEnd s k first last
Ends s k first last false = IsEnd s k first last → ⊥

-- the actors of a lawful scene at its beginning
pub record Opens (scene : SceneValue) (actors : Actors) (s : State) : Type 0 where
  pub lawful : IsLawfulScene scene
  pub actors_are : AreAtTheBeginning scene actors
  pub state_is : s ≡ opening scene

-- the verdict on the text that has this first line and these bytes behind it
abbrev pub Checks : Actors → State → List ℕ → List ℕ → Verdict → Type 0
Checks actors s first behind verdict = (scene : SceneValue) → Opens scene actors s → (text : List ℕ) → text ≡ first ++ behind → behind ≡ behind_first_line text → IsVerdict scene text verdict
