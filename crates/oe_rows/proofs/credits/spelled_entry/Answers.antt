use Rattle.std.proofs.Common.{◌≡◌, arith}
use Rattle.std.proofs.lemmas.List.Elements.{All-same}
use Rattle.oe_values.specs.Text.{IsPrintable}
use Rattle.oe_rows.specs.Credit.{credit_entry}
use Rattle.oe_rows.proofs.CreditFacts.{entry_pieces, printable_entry}
use Rattle.oe_rows.proofs.credits.spelled_entry.Goals as goal

spelled : (c : goal.After-push_str) → c.push_str.new.self.bytes ≡ credit_entry c.args.ids c.args.amount
spelled c =
    rw (
      c.push_str.ensures.bytes,
      c.push_money.ensures.bytes,
      c.push_column-5.ensures.bytes,
      c.push_column-4.ensures.bytes,
      c.push_column-3.ensures.bytes,
      c.push_column-2.ensures.bytes,
      c.push_column.ensures.bytes,
      c.new-text.ensures,
    )
    (rw (
      c.get.ensures.value,
      c.get-2.ensures.value,
      c.get-3.ensures.value,
      c.get-4.ensures.value,
      c.get-5.ensures.value,
      c.get-6.ensures.value,
    ) (entry_pieces _ _ _ _ _ _))

pub returns-clause-value : goal.returns-clause-value
returns-clause-value c = spelled c

pub returns-clause-printable : goal.returns-clause-printable
returns-clause-printable c =
    let paid = c.args.ids.customer in
    let at = c.args.ids.district in
    All-same IsPrintable _ _ (spelled c)
    (printable_entry paid.customer paid.district paid.warehouse at.district at.warehouse c.args.amount (omega arith)
    (omega arith) (omega arith) (omega arith) (omega arith) (omega arith))
