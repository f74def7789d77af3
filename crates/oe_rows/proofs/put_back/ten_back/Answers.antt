use Rattle.oe_rows.proofs.ListFacts.{ten_back}
use Rattle.oe_rows.proofs.put_back.ten_back.Goals as goal

pub returns : goal.returns
returns c =
    ten_back c.args.before.now c.args.now.now _ _ _ _ _ _ _ _ _ _ _ _ _ _ _ _ _ _ _ _ c.type_inv.before c.type_inv.now
    c.text_back.ensures c.text_back-2.ensures c.text_back-3.ensures c.text_back-4.ensures c.text_back-5.ensures
    c.text_back-6.ensures c.text_back-7.ensures c.text_back-8.ensures c.text_back-9.ensures c.text_back-10.ensures
