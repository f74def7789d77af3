use Rattle.std.proofs.Common.{◌≡◌, []}
use Rattle.oe_numbers.specs.declared.forms.Form.TheVariants.{Script}
use Rattle.oe_load.specs.Loads.{opening_text}
use Rattle.oe_load.specs.Scripts.{first_state, IsScript}
use Rattle.oe_load.specs.declared.origins.Origin.{Origin}
use Rattle.oe_load.specs.Turns.{counts_of, state_of}
use Rattle.oe_load.proofs.EndFacts.{Standing}
use Rattle.oe_load.proofs.loads.told.Given as goal

-- the lines so far are written or wait
abbrev pub invariant-loop : goal.invariant-loop
invariant-loop g l = (o : Origin) → IsScript l.plan o [] (first_state l.plan (g.M.Machine.world l.initial.core))
    → l.initial.out.items ≡ opening_text l.plan o Script
    → Standing l.plan o (g.W.Outlet.sink l.initial.to) (g.W.Outlet.sink l.to) l.out.items
    (state_of (g.M.Machine.world l.core) (counts_of l.served) l.drawing)
