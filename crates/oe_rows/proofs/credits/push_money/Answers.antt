use Rattle.oe_rows.proofs.CreditFacts.{money_pieces}
use Rattle.oe_rows.proofs.credits.push_money.Goals as goal

pub returns-clause-bytes : goal.returns-clause-bytes
returns-clause-bytes c =
    rw (
      c.push_number-3.ensures.bytes,
      c.push_number-2.ensures.bytes,
      c.push_str.ensures.bytes,
      c.push_number.ensures.bytes,
    ) (money_pieces _ c.args.cents)
