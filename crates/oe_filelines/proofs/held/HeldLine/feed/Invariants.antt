use Rattle.std.proofs.Common.{◌≡◌, ℕ, ◌≤◌, List, ◌++◌, length}
use Rattle.oe_filelines.specs.Lines.{Standing}
use Rattle.oe_filelines.proofs.held.HeldLine.feed.Given as goal

-- a front of the piece was taken
abbrev pub invariant-loop-n : goal.invariant-loop-n
invariant-loop-n g l = record {
  short : length l.rest ≤ length l.piece;
  taken : (front : List ℕ) × (front ++ l.rest ≡ l.piece)
      × ((start : g.row.T.Denot) (input : List ℕ) →
      Standing g.row.LONGEST (g.T.LineTaker.taken start) input l.initial.self l.initial.taker →
      Standing g.row.LONGEST (g.T.LineTaker.taken start) (input ++ front) l.self l.taker);
}

abbrev pub decreases-loop-n : goal.decreases-loop-n
decreases-loop-n g l = length l.rest
