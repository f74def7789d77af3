use Rattle.std.proofs.Common.{◌≡◌, ℕ, ◌*◌, ◌≤◌, List, [], length}
use Rattle.oe_script.specs.Session.{state_of, Standing, ReadSoFar}
use Rattle.oe_admission.specs.Programs.{IsLive}
use Rattle.oe_script.proofs.session.Session.run.Given as goal

abbrev pub invariant-loop : goal.invariant-loop
invariant-loop g l = record {
  room : length l.buf ≡ 65536;
  count : l.self.count ≤ l.counter * 65536;
  written : l.self.out.items ≡ [];
  live : IsLive (state_of g.M.Machine.world l.self.core);
  read : (read : List ℕ) × ReadSoFar (g.R.Intake.source l.initial.reader) (g.R.Intake.source l.reader) read l.counter
      × Standing (state_of g.M.Machine.world l.initial.self.core) g.H.Listener.hears l.initial.listener l.listener
      (g.W.Outlet.sink
      l.initial.writer) read
      (g.W.Outlet.sink l.writer) l.self.out.items (state_of g.M.Machine.world l.self.core) l.self.count l.self.line;
}
