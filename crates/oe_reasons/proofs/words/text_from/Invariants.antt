use Rattle.std.proofs.Common.{◌≡◌, ◌≤◌, length, Some}
use Rattle.oe_reasons.specs.Columns.{text_from}
use Rattle.oe_reasons.proofs.words.text_from.Given as goal

-- that many blanks are passed
abbrev pub invariant-loop : goal.invariant-loop
invariant-loop l = (Some l.rest ≡ text_from l.line l.counter) × (length l.rest ≤ length l.line)
