use Rattle.std.proofs.Common.{Bool, List, ℕ, sym, ap, subst, ◌∙◌, refl}
use Rattle.std.proofs.lemmas.Result.{on_ok_weaker}
use Rattle.oe_file_tables.specs.declared.faults.Wrong.TheVariants as wrong
use Rattle.oe_file_tables.specs.Format.{heads, is_returned}
use Rattle.oe_file_tables.specs.Lines.{said_of, Stands}
use Rattle.oe_file_tables.specs.Reading.{TakesOne}
use Rattle.oe_file_tables.proofs.ReadFacts.{fault_stands, heading_stands, count_stands, one_stands, stands_as}
use Rattle.oe_file_tables.proofs.lines.Lot.take_line.Goals as goal

pub returns-then-self : goal.returns-then-self
returns-then-self g c = λ start ls s.
    fault_stands c.args.format g.R.RowLine.spells g.R.RowLine.own_table start ls c.args.line.now c.args.self.now.count
    c.saturating_add-self.result c.saturating_add-self.ensures c.args.self.now.is_counted c.args.self.now.is_headed
    c.args.self.now.rows c.args.faults.now c.tell.new.faults wrong.PastCount s c.if-self.true c.tell.ensures

pub returns-in-Some : goal.returns-in-Some
returns-in-Some g c = λ start ls s.
    let old = subst
    (λ (b : Bool). Stands c.args.format g.R.RowLine.spells g.R.RowLine.own_table start ls b c.args.self.now.is_headed
    c.args.self.now.count c.args.self.now.rows c.args.faults.now) c.if-self.false s in
    stands_as c.take_count.ensures.counted c.take_count.ensures.headed c.take_count.ensures.count
    (count_stands c.args.format g.R.RowLine.spells g.R.RowLine.own_table start ls c.args.line.now
    c.args.self.now.count c.saturating_add-self.result c.saturating_add-self.ensures c.args.self.now.is_headed
    c.args.self.now.rows c.take_count.new.self.rows c.args.faults.now c.take_count.new.faults
    c.in-Some.said old
    (sym (ap said_of c.text_in-text.ensures) ∙ sym c.count_said.ensures.value ∙ c.in-Some.is)
    c.take_count.ensures.rows c.take_count.ensures.faults)

pub returns-then-heads : goal.returns-then-heads
returns-then-heads g c = λ start ls s.
    let old = subst
    (λ (b : Bool). Stands c.args.format g.R.RowLine.spells g.R.RowLine.own_table start ls b c.args.self.now.is_headed
    c.args.self.now.count c.args.self.now.rows c.args.faults.now) c.if-self.false s in
    stands_as c.if-self.false refl refl
    (heading_stands c.args.format g.R.RowLine.spells g.R.RowLine.own_table start ls c.args.line.now
    c.args.self.now.count c.saturating_add-self.result c.saturating_add-self.ensures c.args.self.now.is_headed
    c.args.self.now.rows c.args.faults.now old
    (sym (ap (heads c.args.format c.saturating_add-self.result) c.text_in-text.ensures) ∙ sym c.heads.ensures
    ∙ c.if-heads.true))

pub returns-then-ends_in_return : goal.returns-then-ends_in_return
returns-then-ends_in_return g c = λ start ls s.
    fault_stands c.args.format g.R.RowLine.spells g.R.RowLine.own_table start ls c.args.line.now c.args.self.now.count
    c.saturating_add-self.result c.saturating_add-self.ensures c.args.self.now.is_counted c.args.self.now.is_headed
    c.args.self.now.rows c.args.faults.now c.tell-then-ends_in_return.new.faults wrong.CarriageReturn s
    (sym (ap is_returned c.text_in-text.ensures) ∙ sym c.ends_in_return.ensures ∙ c.if-ends_in_return.true)
    c.tell-then-ends_in_return.ensures

pub returns : goal.returns
returns g c = on_ok_weaker c.take_text.result
    (λ t start ls s.
    let old = subst
    (λ (b : Bool). Stands c.args.format g.R.RowLine.spells g.R.RowLine.own_table start ls b c.args.self.now.is_headed
    c.args.self.now.count c.args.self.now.rows c.args.faults.now) c.if-self.false s in
    stands_as (c.take_text.ensures.counted ∙ c.if-self.false) c.take_text.ensures.headed c.take_text.ensures.count
    (one_stands c.args.format g.R.RowLine.spells g.R.RowLine.own_table start ls c.args.line.now c.args.self.now.count
    c.saturating_add-self.result c.saturating_add-self.ensures c.args.self.now.is_headed c.args.self.now.rows
    c.take_text.new.self.rows c.args.faults.now c.take_text.new.faults
    (sym (ap (heads c.args.format c.saturating_add-self.result) c.text_in-text.ensures) ∙ sym c.heads.ensures
    ∙ c.if-heads.false) old
    (subst
    (λ (text : List ℕ). TakesOne c.args.format g.R.RowLine.spells g.R.RowLine.own_table c.saturating_add-self.result
    text c.args.self.now.rows c.args.faults.now c.take_text.new.self.rows c.take_text.new.faults)
    c.text_in-text.ensures t)))
    c.take_text.ensures.taken
