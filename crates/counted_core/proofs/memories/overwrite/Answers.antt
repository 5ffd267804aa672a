use Rattle.std.proofs.Common.{arith, ap, ◌∙◌, sym}
use Rattle.std.specs.Option.{option_copied_mut}
use Rattle.counted_core.proofs.Overwrites.{has_item, writes_more}
use Rattle.counted_core.proofs.memories.overwrite.Goals.{in-Some, in_default}
use Rattle.counted_core.proofs.memories.overwrite.Goals as goal

pub loop-byte-preserved : goal.loop-byte-preserved
loop-byte-preserved c =
    let i = c.loop-byte.invariant in
    elim c.match-get_mut.branch [
      | in-Some w ↦ rw w.bytes-is (writes_more c.loop-byte.bytes c.args.bytes.now c.args.new.now c.args.offset c.loop-byte.at c.loop-byte.byte-index i.3 c.loop-byte-test.true c.requires i.2 i.0 i.1)
      | in_default w ↦
          (let none = sym c.get_mut.follows ∙ ap option_copied_mut w.in_default.is in
          absurd (has_item c.loop-byte.bytes c.loop-byte.at (omega (arith, i.3, i.2, c.loop-byte-test.true, c.requires)) none))
    ]
