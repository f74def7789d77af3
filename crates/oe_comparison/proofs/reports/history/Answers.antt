use Rattle.std.proofs.Common.{◌++◌, List, ℕ, codes, ap, ◌∙◌}
use Rattle.oe_rows.specs.Credit.{money_text}
use Rattle.oe_texts.specs.Dump.{reference_columns}
use Rattle.oe_texts.specs.Stamp.{stamp_text}
use Rattle.oe_comparison.specs.Histories.{with_blanks}
use Rattle.oe_reply_words.proofs.PartFacts.{and_then}
use Rattle.oe_comparison.proofs.reports.history.Goals as goal

pub returns-clause-items : goal.returns-clause-items
returns-clause-items c =
    let h = c.args.row.now in
    let old = c.args.out.now.items in
    let one = and_then old (codes "history ") (with_blanks (reference_columns h.customer h.district)) _
    c.references.new.out.items c.text.ensures.items c.references.ensures.items in
    let two = and_then old (codes "history " ++ with_blanks (reference_columns h.customer h.district))
    (stamp_text h.date) _
    c.nullable_stamp.new.out.items one c.nullable_stamp.ensures.items in
    let three = and_then old _ (codes " ") _ c.push.new.self.items two c.push.ensures.items in
    let four = and_then old _ (money_text h.amount) _ c.money.new.out.items three
    (c.money.ensures.items ∙ ap (λ n. c.push.new.self.items ++ money_text n) c.cents.ensures.value) in
    let five = and_then old _ (codes " ") _ c.push-2.new.self.items four c.push-2.ensures.items in
    and_then old _ h.data _ c.text-2.new.out.items five
    (c.text-2.ensures.items
    ∙ ap (λ (t : List ℕ). c.push-2.new.self.items ++ t) (c.as_bytes.ensures.value ∙ c.as_str.ensures.value))
