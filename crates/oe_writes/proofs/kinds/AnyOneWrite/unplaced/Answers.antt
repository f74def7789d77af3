use Rattle.std.proofs.Common.{sym, subst}
use Rattle.oe_rows.specs.declared.keys.Key.{Key}
use Rattle.oe_requests.specs.declared.refusals.Refusal.TheVariants.{NoSuchRow}
use Rattle.oe_writes.specs.Made.{RefusesWrite}
use Rattle.oe_writes.proofs.UnplacedFacts.{plain_unplaced}
use Rattle.oe_writes.proofs.kinds.AnyOneWrite.unplaced.Goals as goal

pub returns : goal.returns
returns g c =
    let w = g.P.PlainWrite.plain c.args.self.now in
    subst (λ (k : Key). RefusesWrite w c.args._tables.now (NoSuchRow k)) (sym c.key.ensures)
    (plain_unplaced w c.args._tables.now (g.met.P.PlainWrite.is_plain c.args.self.now)
    c.requires.there c.requires.unplaced)
