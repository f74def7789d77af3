use Rattle.std.proofs.Common.{length, ◌+◌, ◌<◌, ◌≤◌, ℕ, List, Option, Some, None, arith}
use Rattle.std.specs.Prelude.{pos}
use Rattle.std.specs.Borrow.{Bor}
use Rattle.std.specs.Option.{option_copied, IfSome}
use Rattle.oe_fields.specs.Spelling.{amount_of}
use Rattle.oe_fields.proofs.FrontFacts.{taken_value}
use Rattle.oe_fields.proofs.fields.Fields.take_cents.Goals as goal

left_short : (place n most : ℕ) (left : Option (Bor (List ℕ))) → place + n ≤ most
    → IfSome (option_copied left) (λ t. length t < n) → IfSome left (λ s. place + 1 + length s.now ≤ most)
left_short place n most None h short = tt
left_short place n most (Some t) h short = omega (arith, h, short)

pub invariant_of-self : goal.invariant_of-self
invariant_of-self c =
    let i = c.self.invariant in
    record {
      from = (taken_value amount_of c.self.inside.format c.self.inside.line.now c.self.inside.place (pos c.in_ok-n.n)
          c.in_ok-rest.rest.now (option_copied c.in_ok-n.left) (rw c.in_ok-rest.was at i.from)
          c.in_ok-n.ensures.value).1;
      short = left_short c.self.inside.place (length c.in_ok-rest.rest.now) (length c.self.inside.line.now)
          c.in_ok-n.left (rw c.in_ok-rest.was at i.short) c.in_ok-n.ensures.value.short;
    }

pub returns-clause-value : goal.returns-clause-value
returns-clause-value c =
    rw (← c.self.view_is)
    ((taken_value amount_of c.self.inside.format c.self.inside.line.now c.self.inside.place (pos c.in_ok-n.n)
    c.in_ok-rest.rest.now (option_copied c.in_ok-n.left) (rw c.in_ok-rest.was at c.self.invariant.from)
    c.in_ok-n.ensures.value).0)
