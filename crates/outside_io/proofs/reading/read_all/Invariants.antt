-- What is kept so far is what left the source, and no read failed.
use Rattle.std.proofs.Common.{◌≡◌, ◌+◌, ◌-◌, ◌≤◌, max, vec_len}
use Rattle.std.specs.Io.KnownBytes.{Consumes}
use Rattle.outside_io.proofs.reading.read_all.Given as goal

abbrev pub invariant-reads : goal.invariant-reads
invariant-reads g l = record {
  taken : Consumes (g.S.Source.left l.initial.source) (g.S.Source.left l.source) l.bytes.items;
  within : vec_len l.bytes ≤ 4194304;
  room : vec_len l.buffer ≡ 65536;
  same : g.S.Source.faults l.source ≡ g.S.Source.faults l.initial.source;
  turns : g.S.Source.calls l.source ≤ g.S.Source.calls l.initial.source + vec_len l.bytes;
  asked : g.S.Source.asked l.source ≤ max (g.S.Source.asked l.initial.source) 65536;
}

abbrev pub decreases-reads : goal.decreases-reads
decreases-reads g l = 4194305 - vec_len l.bytes
