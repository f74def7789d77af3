use Rattle.std.proofs.Common.{◌≡◌, ◌∙◌, ap, sym, length}
use Rattle.oe_index.proofs.ListFacts.{lists-same, cut-padded}
use Rattle.oe_index.proofs.lists.Lists.add.Goals as goal

pub returns-clause-lists : goal.returns-clause-lists
returns-clause-lists g c =
    let long : length c.args.self.now ≡ c.len-count.result =
    ap length (sym c.self.view_is) ∙ sym c.self.inside.lists.ok.0 ∙ sym c.len-count.ensures in
    lists-same g.K.Ord.cmp c.args.self.now c.truncate.new.self.items c.args.number c.args.key
    (cut-padded c.args.self.now c.self-2.inside.lists.items c.truncate.new.self.items _ c.len-count.result
    (c.self-2.view_is ∙ c.in-Err.ensures.padded.1) long c.truncate.ensures.items)
