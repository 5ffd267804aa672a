-- An actor: its script, the number of its start, and where it stands.
use Rattle.std.specs.Prelude.{ℕ, Bool, true, false, List}
use Rattle.kernel_values.specs.declared.script.Command.{Command}
use Rattle.kernel_values.specs.declared.reply.Answer.{Answer}
use Rattle.kernel_values.specs.declared.reply.Answer.TheVariants as answer
use Rattle.kernel_types.specs.Scripts.{Stand, script_begin}

pub record Acting : Type 0 where
  pub script : List Command
  pub start : ℕ
  pub stand : Stand

-- at the beginning of its script
abbrev pub acting : List Command → ℕ → Acting
acting script start = record { script = script; start = start; stand = script_begin }

-- an answer to a call gives or refuses
abbrev pub answers_call : Answer → Bool
answers_call (answer.Gives reply) = true
answers_call (answer.Refuses errno) = true
answers_call _ = false
