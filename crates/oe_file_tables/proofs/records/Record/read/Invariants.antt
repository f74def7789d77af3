use Rattle.std.proofs.Common.{◌≡◌, drop}
use Rattle.oe_file_tables.specs.Record.{line_of}
use Rattle.oe_file_tables.proofs.RecordFacts.{whole}
use Rattle.oe_file_tables.proofs.records.Record.read.Given as goal

-- what is left makes the line of the record
abbrev pub invariant-loop-byte : goal.invariant-loop-byte
invariant-loop-byte l =
    whole l.self.line.items (drop l.byte-index l.bytes) l.self.within l.self.before_null
    ≡ line_of l.fn.before_null l.bytes
