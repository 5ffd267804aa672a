-- What a line of a script may hold.
use Rattle.std.specs.Prelude.{ℕ, Bool, ◌&&◌, nat_lt}
use Rattle.std.specs.List.{list_all}
use Rattle.kernel_values.specs.declared.script.Command.{Command}
use Rattle.kernel_values.specs.declared.script.RegRead.{RegRead}
use Rattle.kernel_values.specs.Calls.{handle_count}

-- a script has 64 registers
abbrev pub is_register : ℕ → Bool
is_register reg = nat_lt reg 64

abbrev pub is_lawful_read : ℕ → RegRead → Bool
is_lawful_read count read = nat_lt read.place count && is_register read.reg

-- each register is one of the 64, and each place is one of the call's handles and ids
abbrev pub has_lawful_registers : Command → Bool
has_lawful_registers command = list_all (is_lawful_read (handle_count command.call)) command.reads && list_all is_register command.sets
