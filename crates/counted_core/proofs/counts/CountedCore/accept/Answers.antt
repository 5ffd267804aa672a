use Rattle.std.proofs.Common.{◌≡◌, ℕ, true, sym, ◌∙◌, ap, subst, List, Some}
use Rattle.std.specs.Prelude.{option_copied, slice_index_or}
use Rattle.core_changes.specs.Looks.{pending_in}
use Rattle.kernel_types.specs.Objects.{port_of}
use Rattle.kernel_types.specs.Reach.{is_in}
use Rattle.counted_core.proofs.Pending.{first_listed}
use Rattle.counted_core.proofs.counts.CountedCore.accept.Goals as goal

pub hand_out-requires-clause-there : goal.hand_out-requires-clause-there
hand_out-requires-clause-there c =
    let port : port_of c.args.self.now.objects c.args.port ≡ Some c.in-Some.found.now = sym c.find_port.ensures ∙ ap option_copied c.in-Some.is in
    let listed : pending_in (port_of c.args.self.now.objects c.args.port) ≡ c.as_slice.result.now = ap pending_in port ∙ sym c.as_slice.ensures in
    c.sound_ports.ensures c.args.port (slice_index_or c.as_slice.result.now 0 0)
    (subst (λ (l : List ℕ). is_in l (slice_index_or c.as_slice.result.now 0 0) ≡ true) (sym listed) (first_listed c.as_slice.result.now c.in-len1-up.len_at_least))
