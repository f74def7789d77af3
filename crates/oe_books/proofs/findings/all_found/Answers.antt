use Rattle.std.proofs.Common.{◌≡◌, refl, subst}
use Rattle.oe_books.specs.Found.{ArePartsFound, initial_of}
use Rattle.oe_books.specs.Parts.{parts_of}
use Rattle.oe_books.proofs.FoundFacts.{zip_more, zip_whole}
use Rattle.oe_books.proofs.findings.all_found.Goals as goal

pub loop-check-preserved : goal.loop-check-preserved
loop-check-preserved c given t h b n k =
    let s = c.args.settled.now in
    rw c.in_default.ensures.items
    (zip_more
    (λ check f. (f.check ≡ check) × ArePartsFound (initial_of s) s.each t b n (parts_of check) f.parts.items)
    c.args.checks.now c.loop-check.all.items c.loop-check.check-index _ _ c.loop-check-test.true
    (c.loop-check.invariant given t h b n k) (
      refl,
      subst (λ parts. ArePartsFound (initial_of s) s.each t b n parts c.in-Ok.parts.items) c.parts.ensures
          (c.in-Ok.ensures given t h b n k),
    ))

pub returns : goal.returns
returns c given t h b n k =
    let s = c.args.settled.now in
    zip_whole
    (λ check f. (f.check ≡ check) × ArePartsFound (initial_of s) s.each t b n (parts_of check) f.parts.items)
    c.args.checks.now c.loop-check.all.items c.loop-check.check-index c.loop-check-test.false
    (c.loop-check.invariant given t h b n k)
