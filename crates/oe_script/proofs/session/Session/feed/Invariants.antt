use Rattle.std.proofs.Common.{◌≡◌, ℕ, ◌+◌, ◌≤◌, List, ◌++◌, length}
use Rattle.oe_script.specs.Session.{state_of, Dialogue, StandsIn}
use Rattle.oe_admission.specs.Programs.{IsLive}
use Rattle.oe_script.proofs.session.Session.feed.Given as goal

-- a front of the piece was taken
abbrev pub invariant-loop-n : goal.invariant-loop-n
invariant-loop-n g l = record {
  taken : (front : List ℕ) × (front ++ l.rest ≡ l.piece) × (l.self.count ≤ l.initial.self.count + length front)
      × ((d : Dialogue g.row.H.Denot) (input : List ℕ)
      → StandsIn d g.M.Machine.world g.H.Listener.hears input l.initial.listener (g.W.Outlet.sink l.initial.to)
      l.initial.self
      → StandsIn d g.M.Machine.world g.H.Listener.hears (input ++ front) l.listener (g.W.Outlet.sink l.to) l.self);
  live : IsLive (state_of g.M.Machine.world l.self.core);
}

abbrev pub decreases-loop-n : goal.decreases-loop-n
decreases-loop-n g l = length l.rest
