use Rattle.std.proofs.Common.{◌≡◌, drop}
use Rattle.oe_file_audit.specs.Earlier.{any_fault}
use Rattle.oe_file_audit.proofs.earlier.any_fault.Given as goal

-- the sources that are left tell whether a line has a fault
abbrev pub invariant-loop-told : goal.invariant-loop-told
invariant-loop-told l = any_fault (drop l.told-index l.faults) ≡ any_fault l.faults
