use Rattle.std.proofs.Common.{subst}
use Rattle.oe_books.specs.Found.{AreChecksFound, initial_of}
use Rattle.oe_books.proofs.closing.Settled.results.Goals as goal

pub returns-in-Ok : goal.returns-in-Ok
returns-in-Ok c given t h b n k =
    let s = c.args.self.now in (
      c.rows.ensures given t h,
      subst (λ checks. AreChecksFound (initial_of s) s.each t b n checks c.in-Ok.checks.items)
          c.asked_checks.ensures (c.in-Ok.ensures given t h b n k),
    )
