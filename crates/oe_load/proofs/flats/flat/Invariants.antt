use Rattle.std.proofs.Common.{◌≡◌}
use Rattle.oe_numbers.specs.declared.forms.Form.TheVariants.{Flat}
use Rattle.oe_load.specs.Loads.{opening_text}
use Rattle.oe_load.specs.declared.origins.Origin.{Origin}
use Rattle.oe_load.specs.Turns.{counts_of}
use Rattle.oe_load.proofs.FlatFacts.{Told}
use Rattle.oe_load.proofs.flats.flat.Given as goal

-- the requests so far are written or wait
abbrev pub invariant-loop : goal.invariant-loop
invariant-loop g l = (o : Origin) → l.initial.out.items ≡ opening_text l.plan o Flat
    → Told l.plan o (g.W.Outlet.sink l.initial.to) (g.W.Outlet.sink l.to) l.out.items (counts_of l.served) l.words
