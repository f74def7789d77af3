use Rattle.std.proofs.Common.{arith}
use Rattle.oe_formulas.proofs.TextFacts.{joined_text}
use Rattle.oe_formulas.proofs.payments.history_data.Goals as goal

pub joined-requires : goal.joined-requires
joined-requires c =
    let fits = joined_text _ _ c.as_str-warehouse.ensures.fits c.as_str-district.ensures.fits in
    (omega arith, (omega arith, (omega arith, fits)))
