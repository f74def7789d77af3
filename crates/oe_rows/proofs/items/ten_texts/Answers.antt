use Rattle.oe_values.specs.Text.{IsText}
use Rattle.oe_rows.proofs.ListFacts.{ten_items, ten_all}
use Rattle.oe_rows.proofs.items.ten_texts.Goals as goal

pub returns-clause-value : goal.returns-clause-value
returns-clause-value c =
    ten_items c.args.infos.now _ _ _ _ _ _ _ _ _ _ c.type_inv.infos
    c.as_str.ensures.value c.as_str-2.ensures.value c.as_str-3.ensures.value c.as_str-4.ensures.value
    c.as_str-5.ensures.value
    c.as_str-6.ensures.value c.as_str-7.ensures.value c.as_str-8.ensures.value c.as_str-9.ensures.value
    c.as_str-10.ensures.value

pub returns-clause-ranges : goal.returns-clause-ranges
returns-clause-ranges c =
    ten_all (IsText 24 24) c.args.infos.now _ _ _ _ _ _ _ _ _ _ c.type_inv.infos
    c.as_str.ensures.fits c.as_str-2.ensures.fits c.as_str-3.ensures.fits c.as_str-4.ensures.fits
    c.as_str-5.ensures.fits
    c.as_str-6.ensures.fits c.as_str-7.ensures.fits c.as_str-8.ensures.fits c.as_str-9.ensures.fits
    c.as_str-10.ensures.fits
