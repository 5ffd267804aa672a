-- Reading that ends at the first fault, and what the code's readers say of it.
use Rattle.std.specs.Prelude.{◌≡◌, Result, Ok, Err}
use Rattle.script_lines.specs.declared.fault.SceneKind.{SceneKind}
use Rattle.script_lines.specs.declared.fault.LineRefused.{LineRefused}
use Rattle.script_lines.specs.declared.fault.LineRefused.TheVariants as line

infixl 10 ◌>>=◌
abbrev pub ◌>>=◌ : {A B : Type 0} → Result A SceneKind → (A → Result B SceneKind) → Result B SceneKind
(Ok x) >>= f = f x
(Err kind) >>= f = Err kind

-- a refused reading is the rule's refusal; that memory ran out says nothing
abbrev pub Fails : {Y : Type 0} → LineRefused → Result Y SceneKind → Type 0
Fails line.NoMemory rule = Unit {0}
Fails (line.Fault kind) rule = rule ≡ Err kind

-- what was read, seen by `view`, is what the rule says; so is what was refused
abbrev pub Gives : {X Y : Type 0} → (X → Y) → Result X LineRefused → Result Y SceneKind → Type 0
Gives view (Ok x) rule = rule ≡ Ok (view x)
Gives view (Err refused) rule = Fails refused rule
