use Rattle.std.proofs.Common.{◌+◌, ◌*◌, length}
use Rattle.oe_file_audit.proofs.reading.+read_tables.Given as goal

-- the sources that are left
abbrev pub decreases-read_tables : goal.decreases-read_tables
decreases-read_tables g l = 2 * length l.sources.items

abbrev pub decreases-before : goal.decreases-before
decreases-before g l = 2 * length l.sources.items + 1
