use Rattle.std.proofs.Common.{◌∙◌, ap}
use Rattle.oe_books.specs.Found.{finding_of}
use Rattle.oe_books.proofs.FoundFacts.{map_more}
use Rattle.oe_books.proofs.findings.shown.Goals as goal

pub loop-entry-preserved : goal.loop-entry-preserved
loop-entry-preserved g c =
    c.in_default.ensures.items
    ∙ map_more (finding_of g.K.RowKey.numbers) c.args.entries.now c.loop-entry.found.items c.loop-entry.entry-index
    c.entry-item.result (record { key = c.key.result; apart = c.entry-item.result.1 }) c.loop-entry-test.true
    c.loop-entry.invariant (λ i. record {
      key = (c.key.ensures ∙ ap (λ e. g.K.RowKey.numbers e.0) c.entry-item.is) i;
      apart = ap (λ e. e.1) c.entry-item.is i;
    })
