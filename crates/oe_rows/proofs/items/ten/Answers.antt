use Rattle.oe_rows.proofs.ListFacts.{ten_items}
use Rattle.oe_rows.proofs.items.ten.Goals as goal

pub returns : goal.returns
returns c =
    ten_items c.args.infos.now _ _ _ _ _ _ _ _ _ _ c.type_inv.infos
    c.copied.ensures c.copied-2.ensures c.copied-3.ensures c.copied-4.ensures c.copied-5.ensures
    c.copied-6.ensures c.copied-7.ensures c.copied-8.ensures c.copied-9.ensures c.copied-10.ensures
