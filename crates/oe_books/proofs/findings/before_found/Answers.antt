use Rattle.oe_ledgers.specs.Keys.{same_stock, stock_cmp}
use Rattle.oe_earlier.specs.Changes.{residue_apart}
use Rattle.oe_books.proofs.findings.before_found.Goals as goal

pub returns-in-Gone : goal.returns-in-Gone
returns-in-Gone c b n k = rw c.in-Gone.is (c.gone_found.ensures b n k)

pub returns-in-Changed : goal.returns-in-Changed
returns-in-Changed c b n k = rw c.in-Changed.is (c.changed_found.ensures b n k)

pub returns-in-Moved : goal.returns-in-Moved
returns-in-Moved c b n k =
    rw c.in-Moved.is (c.listed.ensures stock_cmp same_stock (residue_apart b.residues n.residues)
    (c.moved.ensures b.residues n.residues k.before.residues k.now.residues))
