use Rattle.std.proofs.Common.{sym, ap, ◌∙◌}
use Rattle.std.proofs.lemmas.Result.{on_ok_weaker}
use Rattle.oe_sources.specs.declared.readings.Reading.{Reading}
use Rattle.oe_sources.specs.Reading.{Says, says, step}
use Rattle.oe_sources.specs.Tables.{file_step}
use Rattle.oe_sources.proofs.SourceFacts.{line_stands, short_step}
use Rattle.oe_sources.proofs.tables.TableLinesLineTakerLINE.take_line.Goals as goal

pub returns : goal.returns
returns g c = on_ok_weaker c.add.result
    (λ takes start ls stands.
    let n = c.saturating_add-self.result in
    let old = c.args.self.now.so_far in
    let same = short_step n old.reading c.args.line.now c.requires
    ∙ ap (step old.reading) (sym c.text_of-text.ensures) in
    line_stands file_step g.L.Ledger.holds start.so_far ls c.args.line.now old c.add.new.self
    c.take-said.new.self.table n (says c.take-said.result)
    (sym (ap (λ (r : Reading). r.table) c.add.ensures.reading)) c.saturating_add-self.ensures
    (c.add.ensures.reading ∙ c.take-said.ensures.now ∙ sym (ap (λ (p : Reading × Says). p.0) same))
    c.add.ensures.count
    (c.take-said.ensures.said ∙ sym (ap (λ (p : Reading × Says). p.1) same)) takes stands) c.add.ensures.taken
