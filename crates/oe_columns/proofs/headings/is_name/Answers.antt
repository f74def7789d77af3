use Rattle.oe_columns.proofs.HeadingFacts.{name_is}
use Rattle.oe_columns.proofs.headings.is_name.Goals as goal

pub returns : goal.returns
returns c =
    name_is c.args.name.now c.args.text.now c.eq_ignore_ascii_case.result
    (rw (← c.bare.ensures, ← c.as_bytes.ensures.value) c.eq_ignore_ascii_case.ensures.test)
