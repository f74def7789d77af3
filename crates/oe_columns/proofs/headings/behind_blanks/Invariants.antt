use Rattle.std.proofs.Common.{◌≡◌, drop}
use Rattle.oe_columns.specs.Headings.{behind_blanks}
use Rattle.oe_columns.proofs.headings.behind_blanks.Given as goal

-- blanks stand before here
abbrev pub invariant-loop-i : goal.invariant-loop-i
invariant-loop-i l = behind_blanks l.text ≡ behind_blanks (drop l.i l.text)
