-- What stands at the front is read exactly.
use Rattle.std.proofs.Common.{ℕ, List, Option, sym, subst, arith}
use Rattle.oe_rows.specs.declared.keys.Key.{Key}
use Rattle.oe_decode.specs.Fronts.{Reads}
use Rattle.oe_image.specs.Keys.{key_image}
use Rattle.oe_decode.specs.KeyFronts.{IsKeyOf}
use Rattle.oe_decode.proofs.KeyFacts.{key_exact}
use Rattle.oe_decode.proofs.keys.read_key.Goals as goal

pub returns : goal.returns
returns c =
    subst (λ (r : Option (Key × List ℕ)). Reads (IsKeyOf c.args.table) key_image c.args.bytes.now r)
    (sym c.front_key.ensures)
    (key_exact c.args.table c.args.bytes.now (λ i. omega (arith, c.type_inv.bytes i)))
