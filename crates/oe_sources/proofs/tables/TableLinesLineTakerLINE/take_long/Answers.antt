use Rattle.std.proofs.Common.{sym, ap, ◌∙◌}
use Rattle.std.proofs.lemmas.Result.{on_ok_weaker}
use Rattle.oe_sources.specs.declared.readings.Reading.{Reading}
use Rattle.oe_sources.specs.Reading.{Says, says}
use Rattle.oe_sources.specs.Tables.{file_step}
use Rattle.oe_sources.proofs.SourceFacts.{line_stands, long_step}
use Rattle.oe_sources.proofs.tables.TableLinesLineTakerLINE.take_long.Goals as goal

pub returns : goal.returns
returns g c = on_ok_weaker c.add.result
    (λ takes start ls line long stands.
    let n = c.saturating_add-self.result in
    let old = c.args.self.now.so_far in
    let same = long_step n old.reading line long in
    line_stands file_step g.L.Ledger.holds start.so_far ls line old c.add.new.self old.reading.table n
    (says c.take_long-said.result) (sym (ap (λ (r : Reading). r.table) c.add.ensures.reading))
    c.saturating_add-self.ensures (c.add.ensures.reading ∙ sym (ap (λ (p : Reading × Says). p.0) same))
    c.add.ensures.count
    (c.take_long-said.ensures ∙ sym (ap (λ (p : Reading × Says). p.1) same)) takes stands) c.add.ensures.taken
