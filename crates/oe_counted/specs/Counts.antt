-- How often each kind of step was asked for, as far as the counts reach.
use Rattle.std.specs.Prelude.{ℕ, ◌+◌, ◌-◌, ◌^◌, min}
use Rattle.oe_requests.specs.declared.steps.Step.{Step}
use Rattle.oe_requests.specs.declared.steps.Step.TheVariants as step
use Rattle.oe_counted.specs.declared.counts.Counts.{Counts}

-- one more, at most the greatest number
abbrev pub one_more : ℕ → ℕ
one_more n = min (n + 1) (2 ^ 64 - 1)

abbrev pub no_counts : Counts
no_counts = record { begins = 0; advances = 0; saves = 0; backs = 0; rollbacks = 0; purges = 0; rewinds = 0 }

-- the counts with one step more; an audit and a read are not counted
abbrev pub counts_with : Step → Counts → Counts
counts_with (step.Begin t q) c = record c { begins = one_more c.begins }
counts_with (step.Advance t) c = record c { advances = one_more c.advances }
counts_with (step.Save t) c = record c { saves = one_more c.saves }
counts_with (step.Back t) c = record c { backs = one_more c.backs }
counts_with (step.Rollback t) c = record c { rollbacks = one_more c.rollbacks }
counts_with (step.Purge m) c = record c { purges = one_more c.purges }
counts_with (step.Rewind m) c = record c { rewinds = one_more c.rewinds }
counts_with (step.Audit k m) c = c
counts_with (step.Read m q) c = c
