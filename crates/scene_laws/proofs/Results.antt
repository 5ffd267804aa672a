-- What holds of a rule's value, where it gives one, step by step.
use Rattle.std.proofs.Common.{Bool, true, false, cond, Result, Ok, Err}
use Rattle.std.specs.Prelude.{IfOk}
use Rattle.script_lines.specs.declared.fault.SceneKind.{SceneKind}
use Rattle.script_lines.specs.Gives.{◌>>=◌}

-- after a first step, of which nothing need be known
pub after : {A B : Type 0} (P : B → Type 0) (rule : Result A SceneKind) (next : A → Result B SceneKind) → ((x : A) → IfOk (next x) P) → IfOk (rule >>= next) P
after P (Ok x) next h = h x
after P (Err kind) next h = tt

-- after a first step whose value is known to have Q
pub after_that : {A B : Type 0} (Q : A → Type 0) (P : B → Type 0) (rule : Result A SceneKind) (next : A → Result B SceneKind) → IfOk rule Q → ((x : A) → Q x → IfOk (next x) P) → IfOk (rule >>= next) P
after_that Q P (Ok x) next q h = h x q
after_that Q P (Err kind) next q h = tt

pub either : {A : Type 0} (P : A → Type 0) (test : Bool) (held other : Result A SceneKind) → IfOk held P → IfOk other P → IfOk (cond test held other) P
either P true held other h k = h
either P false held other h k = k
