-- Whether a wait may end, and which entry a `waitany` reports.
use Rattle.std.proofs.Common.{◌≡◌, ℕ, Bool, true, false, ◌||◌, List, Option, Some, None, refl}
use Rattle.std.specs.Prelude.{if◌then◌else◌}
use Rattle.std.specs.List.{find, filter}
use Rattle.std.specs.Option.{is_some, option_or}
use Rattle.std.proofs.lemmas.List.Folds.{find-append}
use Rattle.kernel_values.specs.declared.errno.Errno.TheVariants as errno
use Rattle.kernel_values.specs.declared.state.CoreState.{CoreState}
use Rattle.kernel_values.specs.declared.state.Object.{Object}
use Rattle.kernel_values.specs.declared.state.TableEntry.{TableEntry}
use Rattle.kernel_values.specs.declared.state.Wait.{Wait}
use Rattle.kernel_types.specs.Reports.{Reported, has_events, in_turn}
use Rattle.kernel_types.specs.Waits.{end_by_report, is_due}
use Rattle.kernel_types.specs.Outcome.{refuses}
use Rattle.plain_objects.specs.Predicates.{is_later_entry, is_earlier_entry}

one_of_two : {X : Type 0} (x y : X) (b d : Bool) → is_some (if b then Some x else if d then Some y else None) ≡ (b || d)
one_of_two x y true d = refl
one_of_two x y false true = refl
one_of_two x y false false = refl

pub may_end_by_report : (c : CoreState) (wait : Wait) (r : Option Reported) → is_some (end_by_report c wait r) ≡ (is_some r || (wait.cancelled || is_due c.clock wait.deadline))
may_end_by_report c wait (Some r) = refl
may_end_by_report c wait None = one_of_two (refuses errno.Cancelled c) (refuses errno.TimedOut c) wait.cancelled (is_due c.clock wait.deadline)

pub first_in_turn : (objects : List Object) (last : Option ℕ) (table : List TableEntry)
    → find (has_events objects) (in_turn last table) ≡ option_or (find (has_events objects) (filter (is_later_entry last) table)) (find (has_events objects) (filter (is_earlier_entry last) table))
unfolding is_later_entry is_earlier_entry
first_in_turn objects last table = find-append (has_events objects) _ _
