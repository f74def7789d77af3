use Rattle.std.proofs.Common.{◌≡◌, true, map, take}
use Rattle.oe_answers.proofs.folders.open_sources.Given as goal

-- while no file was missing, those of all tables so far are open
abbrev pub invariant-loop-table : goal.invariant-loop-table
invariant-loop-table g l = l.is_whole ≡ true → map (λ s. s.table) l.sources.items ≡ take l.table-index l.wanted
