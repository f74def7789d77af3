use Rattle.std.proofs.Common.{◌≡◌, ◌∙◌, sym, subst}
use Rattle.oe_values.specs.Text.{IsText}
use Rattle.oe_values.proofs.HeldFacts.{held_text, held_zeros}
use Rattle.oe_values.proofs.texts.ShortText.of.Goals.{After-put}
use Rattle.oe_values.proofs.texts.ShortText.of.Goals as goal

bytes_are : (c : After-put) → c.as_bytes.result.now ≡ c.args.text.now
bytes_are c = c.as_bytes.ensures.value ∙ c.as_str.ensures.value

pub invariant_of-result : goal.invariant_of-result
invariant_of-result c =
    let text = c.args.text.now in
    let is : IsText 0 16 text = c.as_str.ensures.fits in
    rw (c.put.ensures, bytes_are (goal.at.invariant_of-result c).After-put)
    (subst (λ t. IsText 0 16 t) (sym (held_text 16 text is.printable)) is, held_zeros 16 text is.printable)

pub returns : goal.returns
returns c =
    rw (c.put.ensures, bytes_are (goal.at.returns c).After-put)
    (held_text 16 c.args.text.now c.as_str.ensures.fits.printable)
