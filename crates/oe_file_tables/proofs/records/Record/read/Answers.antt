use Rattle.std.proofs.Common.{drop, ◌+◌, sym, ap, ◌∙◌, arith}
use Rattle.std.proofs.lemmas.List.{drop_more}
use Rattle.oe_file_tables.proofs.RecordFacts.{whole, next_byte}
use Rattle.oe_file_tables.proofs.records.Record.read.Goals as goal

pub loop-byte-preserved : goal.loop-byte-preserved
loop-byte-preserved c =
    let l = c.loop-byte in
    sym
    (next_byte _ (drop (l.byte-index + 1) c.args.bytes.now) l.self.line.items c.take.new.self.line.items l.self.within
    c.take.new.self.within l.self.before_null c.take.new.self.before_null c.in_default.ensures)
    ∙ ap (λ s. whole l.self.line.items s l.self.within l.self.before_null)
    (sym (drop_more c.args.bytes.now l.byte-index 0 (omega arith)))
    ∙ l.invariant
