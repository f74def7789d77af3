use Rattle.std.proofs.Common.{◌≡◌, ℕ, ◌+◌, ◌≤◌, List, ◌++◌, length}
use Rattle.std.specs.Prelude.{All}
use Rattle.oe_model.specs.System.{system}
use Rattle.oe_file_serial.specs.Files.{IsTold, lines_of}
use Rattle.oe_file_serial.specs.InOrder.{between}
use Rattle.oe_file_serial.specs.Worlds.{IsFree}
use Rattle.oe_file_serial.specs.Verdicts.{AreSerial}
use Rattle.oe_file_serial.proofs.verdicts.compared.Given as goal

-- the lines so far agree
abbrev pub invariant-loop-line : goal.invariant-loop-line
invariant-loop-line g l = record {
  free : IsFree (g.M.Machine.world l.core);
  told : All IsTold (lines_of l.left);
  done : (done : List (List ℕ)) × (lines_of l.initial.left ≡ done ++ lines_of l.left)
      × AreSerial (between system (g.M.Machine.world l.initial.core)) done (between system (g.M.Machine.world l.core))
      × (l.count ≡ length done);
  small : l.count + length l.left ≤ length l.initial.left;
}

abbrev pub decreases-loop-line : goal.decreases-loop-line
decreases-loop-line g l = length l.left
