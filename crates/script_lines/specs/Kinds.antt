-- The words in which a fault is told.
use Rattle.std.specs.Prelude.{ℕ, List, codes}
use Rattle.script_lines.specs.declared.fault.SceneKind.{SceneKind}
use Rattle.script_lines.specs.declared.fault.SceneKind.TheVariants as kind

abbrev pub kind_text : SceneKind → List ℕ
kind_text kind.BadByte = codes "bad byte"
kind_text kind.NoHeader = codes "no header"
kind_text kind.UnknownWord = codes "unknown word"
kind_text kind.OutOfPlace = codes "out of place"
kind_text kind.BadWords = codes "bad words"
kind_text kind.BadManifest = codes "bad manifest"
kind_text kind.NameTaken = codes "name taken"
kind_text kind.TooMany = codes "too many"
kind_text kind.OpenRepeat = codes "open repeat"
