use Rattle.std.proofs.Common.{◌-◌, sym, ◌∙◌, arith}
use Rattle.std.specs.Prelude.{◌&&◌}
use Rattle.std.proofs.lemmas.Bool.{and_right, not_from_true}
use Rattle.oe_waits.specs.Reaching.{is_in}
use Rattle.oe_waits.proofs.KnotFacts.{any_from}
use Rattle.oe_waits.proofs.shows.is_least.Goals as goal

pub returns-then-is_in_both : goal.returns-then-is_in_both
returns-then-is_in_both c =
    sym (and_right (is_in c.args.ahead.now c.args.terminal) _ (not_from_true _
    (any_from (λ u. is_in c.args.ahead.now u && is_in c.args.back.now u) (c.args.terminal - 1)
    c.terminal_after-lower.result
    (omega arith) (omega arith) (sym c.is_in_both.ensures ∙ c.if-is_in_both.true))))
