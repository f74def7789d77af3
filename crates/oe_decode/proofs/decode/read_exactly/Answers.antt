-- What is read is read exactly.
use Rattle.std.proofs.Common.{ℕ, List, Option, sym, subst, arith}
use Rattle.oe_decode.specs.Fronts.{Reads}
use Rattle.oe_decode.specs.FrontFacts.{exact}
use Rattle.oe_decode.proofs.decode.read_exactly.Goals as goal

pub returns : goal.returns
returns g c =
    subst (λ (r : Option (g.row.T.Denot × List ℕ)). Reads g.T.Decode.fits g.T.Decode.image c.args.bytes.now r)
    (sym c.decode.ensures)
    (exact (g.met.T.Decode.exact c.requires) c.args.bytes.now (λ i. omega (arith, c.type_inv.bytes i)))
