use Rattle.std.proofs.Common.{map}
use Rattle.oe_rows.specs.Key.{district_cmp}
use Rattle.oe_table.specs.Table.{rows_of}
use Rattle.oe_file_loading.specs.Homes.{AreDistricts}
use Rattle.oe_file_loading.proofs.putting.all_districts.Given as goal

-- the districts so far have rows
abbrev pub invariant-loop-numbered : goal.invariant-loop-numbered
invariant-loop-numbered l = AreDistricts (map (λ b. b.now) l.yielded) (rows_of district_cmp l.table)
