use Rattle.std.proofs.Common.{◌≡◌, sym, ap, ◌∙◌, rules, arith}
use Rattle.std.specs.Fmt.{decimal}
use Rattle.oe_numbers.proofs.NumberFacts.{is_read, is_that, out_of_range}
use Rattle.oe_numbers.proofs.drives.number_of.Goals as goal

pub returns-in_default-clause-none : goal.returns-in_default-clause-none
returns-in_default-clause-none g c = λ n low high is.
    let fits = g.HIGH.fits in
    is_read c.args.word.now n c.parse.result _ (omega (arith, high, fits)) is c.parse.ensures.value.0 c.in_default.is

pub returns-then-ne-clause-none : goal.returns-then-ne-clause-none
returns-then-ne-clause-none g c = λ n low high is.
    let fits = g.HIGH.fits in
    let same = is_that c.args.word.now n c.in-Ok.number c.parse.result (omega (arith, high, fits)) is
    c.parse.ensures.value.0 c.in-Ok.is in
    let text : c.format.result.now ≡ c.args.word.now = c.format.ensures.text ∙ ap decimal same ∙ sym is in
    search (rules, text)

pub returns-clause-none : goal.returns-clause-none
returns-clause-none g c =
    let fits = g.HIGH.fits in
    out_of_range g.row.LOW g.row.HIGH c.in-Ok.number c.args.word.now c.new.result c.new.ensures.variant
    (λ n high is. is_that c.args.word.now n c.in-Ok.number c.parse.result (omega (arith, high, fits)) is
    c.parse.ensures.value.0 c.in-Ok.is)
