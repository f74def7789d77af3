use Rattle.oe_rows.proofs.ListFacts.{ten_before}
use Rattle.oe_rows.proofs.columns_before.ten_before.Goals as goal

pub returns : goal.returns
returns c =
    ten_before c.args.before.now c.args.after.now _ _ _ _ _ _ _ _ _ _ _ _ _ _ _ _ _ _ _ _ c.type_inv.before
    c.type_inv.after c.text_before.ensures c.text_before-2.ensures c.text_before-3.ensures c.text_before-4.ensures
    c.text_before-5.ensures c.text_before-6.ensures c.text_before-7.ensures c.text_before-8.ensures
    c.text_before-9.ensures c.text_before-10.ensures
