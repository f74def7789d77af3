use Rattle.std.proofs.Common.{◌≡◌, ℕ, List, length}
use Rattle.oe_filelines.specs.Lines.{Standing}
use Rattle.oe_filelines.proofs.LineFacts.{ReadSoFar}
use Rattle.oe_filelines.proofs.lines.run.Given as goal

-- what was read so far is taken
abbrev pub invariant-loop : goal.invariant-loop
invariant-loop g l = record {
  room : length l.buf ≡ 65536;
  read : (read : List ℕ) × ReadSoFar (g.S.Read.remaining l.initial.source) (g.S.Read.remaining l.source) read
      × Standing 65_536 (g.T.LineTaker.taken l.initial.taker) read l.held l.taker;
}
