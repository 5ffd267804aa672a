-- Keys as contracts see them: by their serial numbers.
use Rattle.std.specs.Prelude.{ℕ, List, map}
use Rattle.object_store.specs.declared.key.ObjKey.{ObjKey}

abbrev pub serial_of : ObjKey → ℕ
serial_of key = key.serial

abbrev pub serials : List ObjKey → List ℕ
serials keys = map serial_of keys
