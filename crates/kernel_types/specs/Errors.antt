-- The numbers of the errors, in which the two sides tell them to each other.
use Rattle.std.specs.Prelude.{ℕ, List, [], ◌∷◌, ◌-◌, slice_get}
use Rattle.std.specs.Option.{unwrap_or}
use Rattle.kernel_values.specs.declared.errno.Errno.{Errno}
use Rattle.kernel_values.specs.declared.errno.Errno.TheVariants as errno

abbrev pub number_of : Errno → ℕ
number_of errno.BadHandle = 1
number_of errno.InvalidArgs = 2
number_of errno.NotFound = 3
number_of errno.AccessDenied = 4
number_of errno.AlreadyExists = 5
number_of errno.NoResources = 6
number_of errno.NoMsg = 7
number_of errno.NotReady = 8
number_of errno.ChannelClosed = 9
number_of errno.TooBig = 10
number_of errno.NotEnoughBuffer = 11
number_of errno.NotSupported = 12
number_of errno.RecurseTooDeep = 13
number_of errno.TimedOut = 14
number_of errno.Cancelled = 15

-- the errors in the order of their numbers, from 1
abbrev pub errors : List Errno
errors = errno.BadHandle ∷ errno.InvalidArgs ∷ errno.NotFound ∷ errno.AccessDenied ∷ errno.AlreadyExists ∷ errno.NoResources ∷ errno.NoMsg
    ∷ errno.NotReady ∷ errno.ChannelClosed ∷ errno.TooBig ∷ errno.NotEnoughBuffer ∷ errno.NotSupported ∷ errno.RecurseTooDeep
    ∷ errno.TimedOut ∷ errno.Cancelled ∷ []

-- the error with a number from 1 on; a number of none is an invalid argument
unfoldable pub error_of : ℕ → Errno
error_of number = unwrap_or (slice_get errors (number - 1)) errno.InvalidArgs
