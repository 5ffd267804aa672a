use Rattle.std.proofs.Common.{◌≡◌, ◌<◌, Some, None, OnOk, ap, sym, ◌∙◌, arith}
use Rattle.app_manifest.specs.Manifests.{ports_in}
use Rattle.app_manifest.proofs.PortsRead.{behind, all_read, one_too_many, bad_one, one_more}
use Rattle.app_manifest.proofs.ports.ports_of.Goals as goal

pub returns-then-number-ge-MOST_PORTS : goal.returns-then-number-ge-MOST_PORTS
returns-then-number-ge-MOST_PORTS c =
    one_too_many _ _ _ _ _ c.index-values-number.is c.loop-number-test.true c.loop-number.invariant c.if-number-ge-MOST_PORTS.true

pub returns-in_default : goal.returns-in_default
returns-in_default c =
    bad_one _ _ _ _ _ c.index-values-number.is c.loop-number-test.true c.loop-number.invariant (omega arith) (sym c.in_ok-port.ensures ∙ c.in_default.is)

pub loop-number-preserved : goal.loop-number-preserved
loop-number-preserved c =
    let more = one_more _ _ _ _ _ c.index-values-number.is c.loop-number-test.true c.loop-number.invariant c.in-Some.port (omega arith) (sym c.in_ok-port.ensures ∙ c.in-Some.is) in
    rw c.in_ok-push.ensures.ok more

pub returns : goal.returns
returns c = all_read _ _ _ _ c.loop-number-test.false c.loop-number.invariant
