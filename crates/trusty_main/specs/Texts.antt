-- What the program writes besides reports.
use Rattle.std.specs.Prelude.{ℕ, List, ◌++◌, codes, decimal}
use Rattle.script_lines.specs.declared.fault.SceneFault.{SceneFault}
use Rattle.script_lines.specs.Kinds.{kind_text}

unfoldable pub usage_text : List ℕ
usage_text = codes "usage: trusty COMMAND [--form FORM]\n"

unfoldable pub fault_text : SceneFault → List ℕ
fault_text fault = codes "refused line " ++ decimal fault.line ++ codes ": " ++ kind_text fault.kind ++ codes "\n"

unfoldable pub turn_text : ℕ → List ℕ
turn_text k = codes "turn " ++ decimal k ++ codes " refused\n"

unfoldable pub too_long_text : List ℕ
too_long_text = codes "run too long\n"

-- the report is that of a history with so many entries
unfoldable pub yes_text : ℕ → List ℕ
yes_text count = codes "yes " ++ decimal count ++ codes "\n"

-- it is that of none; so many of its entries are those of one
unfoldable pub no_text : ℕ → List ℕ
no_text count = codes "no entry " ++ decimal count ++ codes "\n"
