-- Reading line by line.
use Rattle.std.proofs.Common.{◌≡◌, ℕ, ◌+◌, ◌≤◌, true, false, List, [], ◌∷◌, length, Result, Ok, Err, refl, sym, ap, ◌∙◌, arith}
use Rattle.std.specs.List.{list_any}
use Rattle.kernel_values.specs.SceneLaw.{SceneValue}
use Rattle.script_lines.specs.declared.fault.SceneKind.{SceneKind}
use Rattle.script_lines.specs.declared.fault.SceneFault.{SceneFault}
use Rattle.scene_lines.specs.declared.reading.Reading.{Reading}
use Rattle.script_lines.specs.Texts.{lines_of}
use Rattle.scene_lines.specs.Reading.{line_act}
use Rattle.scene_reader.specs.Whole.{lines_act, ended, open_line, fault_in, closes}

-- a text without a byte has no line
pub no_lines : (bytes : List ℕ) → length bytes ≤ 0 → lines_of bytes ≡ []
unfolding lines_of
no_lines [] h = refl
no_lines (b ∷ bs) h = absurd (omega (arith, h))

pub goes_on : (whole : Result SceneValue SceneFault) (bytes line after : List ℕ) (r next : Reading) (at : ℕ) → lines_of bytes ≡ line ∷ lines_of after → line_act r at line ≡ Ok next
    → lines_act (lines_of bytes) r at ≡ whole → lines_act (lines_of after) next (at + 1) ≡ whole
unfolding lines_act
goes_on whole bytes line after r next at first step so_far =
    let from : Result Reading SceneKind → Result SceneValue SceneFault = λ x. elim x as (λ _. Result SceneValue SceneFault) [
      | Ok next ↦ lines_act (lines_of after) next (at + 1)
      | Err kind ↦ Err (fault_in (open_line r.place) at kind (lines_of after))
    ] in
    let one : lines_act (lines_of bytes) r at ≡ lines_act (lines_of after) next (at + 1) = ap (λ lines. lines_act lines r at) first ∙ ap from step in
    sym one ∙ so_far

pub stops : (whole : Result SceneValue SceneFault) (bytes line after : List ℕ) (r : Reading) (at : ℕ) (kind : SceneKind) → lines_of bytes ≡ line ∷ lines_of after → line_act r at line ≡ Err kind
    → lines_act (lines_of bytes) r at ≡ whole → whole ≡ Err (fault_in (open_line r.place) at kind (lines_of after))
unfolding lines_act
stops whole bytes line after r at kind first step so_far =
    let from : Result Reading SceneKind → Result SceneValue SceneFault = λ x. elim x as (λ _. Result SceneValue SceneFault) [
      | Ok next ↦ lines_act (lines_of after) next (at + 1)
      | Err kind ↦ Err (fault_in (open_line r.place) at kind (lines_of after))
    ] in
    let one : lines_act (lines_of bytes) r at ≡ Err (fault_in (open_line r.place) at kind (lines_of after)) = ap (λ lines. lines_act lines r at) first ∙ ap from step in
    sym so_far ∙ one

pub is_over : (whole : Result SceneValue SceneFault) (bytes : List ℕ) (r : Reading) (at : ℕ) → length bytes ≤ 0 → lines_act (lines_of bytes) r at ≡ whole → whole ≡ ended r r.place
unfolding lines_act
is_over whole bytes r at none so_far =
    let one : lines_act (lines_of bytes) r at ≡ ended r r.place = rw (no_lines bytes none) refl in
    sym so_far ∙ one

-- the search for a line that closes
pub found_closing : (bytes line after : List ℕ) → lines_of bytes ≡ line ∷ lines_of after → closes line ≡ true → list_any closes (lines_of bytes) ≡ true
found_closing bytes line after first closed = rw (first, closed) refl

pub goes_on_closing : (bytes line after : List ℕ) → lines_of bytes ≡ line ∷ lines_of after → closes line ≡ false → list_any closes (lines_of bytes) ≡ list_any closes (lines_of after)
goes_on_closing bytes line after first open_yet = rw (first, open_yet) refl

pub none_closes : (bytes rest : List ℕ) → length rest ≤ 0 → list_any closes (lines_of rest) ≡ list_any closes (lines_of bytes) → false ≡ list_any closes (lines_of bytes)
none_closes bytes rest none so_far = sym (ap (list_any closes) (no_lines rest none)) ∙ so_far
