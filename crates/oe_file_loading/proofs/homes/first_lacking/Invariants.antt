use Rattle.std.proofs.Common.{◌≡◌, ◌-◌}
use Rattle.oe_file_loading.specs.Homes.{districts_from, home_rows}
use Rattle.oe_file_loading.specs.Placing.{missing_of}
use Rattle.oe_file_loading.proofs.homes.first_lacking.Given as goal

-- the first that lacks a row is among those left
abbrev pub invariant-loop-number : goal.invariant-loop-number
invariant-loop-number l =
    missing_of (districts_from l.fn.key l.number (11 - l.number)) (home_rows l.homes)
    ≡ missing_of (districts_from l.fn.key 1 10) (home_rows l.homes)
