use Rattle.std.proofs.Common.{◌∙◌, ap, sym}
use Rattle.oe_tally.proofs.TotalFacts.{tested}
use Rattle.oe_tally.proofs.tally.find_entry.Goals as goal

pub returns-then-eq : goal.returns-then-eq
returns-then-eq g c =
    tested g.K.PartialEq.eq c.args.entries.now c.args.key.now c.place_of-at.result c.index-entries-at.result
    c.place_of-at.ensures c.index-entries-at.is
    (c.if-eq.ensures ∙ ap (λ e. g.K.PartialEq.eq e.0 c.args.key.now) (sym c.index-entries-at.is))
