use Rattle.oe_core.specs.Core.{world_of}
use Rattle.oe_script.specs.Session.{state_of}
use Rattle.oe_admission.specs.Programs.{IsLive}
use Rattle.oe_core_tests.proofs.sessions.goes_on.Given as goal

abbrev pub invariant-loop : goal.invariant-loop
invariant-loop l = IsLive (state_of world_of l.session.core)
