use Rattle.std.proofs.Common.{◌<◌, ◌≡◌, [], sym, ap, ◌∙◌, add-one, length, codes, false, arith}
use Rattle.std.proofs.lemmas.List.{drop_all}
use Rattle.oe_values.specs.Text.{occurs_in}
use Rattle.oe_values.proofs.BrandFacts.{stands_later, stands_here}
use Rattle.oe_values.proofs.brands.has_original.Goals as goal

pub loop-start-preserved : goal.loop-start-preserved
loop-start-preserved c =
    let within : c.loop-start.start < length c.as_bytes-bytes.result.now = omega arith in
    rw add-one (sym (stands_later c.as_bytes-bytes.result.now c.loop-start.start within
    (sym c.if-stands_at.false ∙ c.stands_at.ensures)) ∙ c.loop-start.invariant)

pub returns-then-stands_at : goal.returns-then-stands_at
returns-then-stands_at c =
    let within : c.loop-start.start < length c.as_bytes-bytes.result.now = omega arith in
    sym (stands_here c.as_bytes-bytes.result.now c.loop-start.start within
    (sym c.if-stands_at.true ∙ c.stands_at.ensures)) ∙ c.loop-start.invariant

pub returns : goal.returns
returns c =
    sym (ap (occurs_in (codes "ORIGINAL")) (drop_all c.loop-start.start c.as_bytes-bytes.result.now (omega arith)))
    ∙ c.loop-start.invariant
