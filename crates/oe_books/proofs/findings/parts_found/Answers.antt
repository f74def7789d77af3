use Rattle.std.proofs.Common.{◌≡◌, refl}
use Rattle.oe_books.specs.Found.{IsFound, initial_of}
use Rattle.oe_books.proofs.FoundFacts.{zip_more, zip_whole}
use Rattle.oe_books.proofs.findings.parts_found.Goals as goal

pub loop-part-preserved : goal.loop-part-preserved
loop-part-preserved c given t h b n k =
    let s = c.args.settled.now in
    rw c.in_default.ensures.items
    (zip_more (λ part f. (f.part ≡ part) × IsFound (initial_of s) s.each t b n part f.found.items) c.args.parts.now
    c.loop-part.all.items c.loop-part.part-index _ _ c.loop-part-test.true (c.loop-part.invariant given t h b n k)
    (refl, c.in-Ok.ensures given t h b n k))

pub returns : goal.returns
returns c given t h b n k =
    let s = c.args.settled.now in
    zip_whole (λ part f. (f.part ≡ part) × IsFound (initial_of s) s.each t b n part f.found.items) c.args.parts.now
    c.loop-part.all.items c.loop-part.part-index c.loop-part-test.false (c.loop-part.invariant given t h b n k)
