use Rattle.std.proofs.Common.{refl, rules, arith}
use Rattle.oe_file_tables.proofs.ReadFacts.{table_read_as}
use Rattle.oe_file_loading.proofs.loading.load_table.Goals as goal

pub returns-then-count-gt0 : goal.returns-then-count-gt0
returns-then-count-gt0 g c = record {
  lot = c.in-Ok.file_rows;
  read = c.in-Ok.ensures;
  put = λ none. absurd (omega (arith, none, c.if-count-gt0.true, c.count.ensures.value));
  left = λ some. (refl, refl);
  counted = search rules;
}

pub put_rows-requires-clause-ascending : goal.put_rows-requires-clause-ascending
put_rows-requires-clause-ascending g c =
    (table_read_as _ _ g.met.K.Ord.total _ _ _ _ _ _ _ _ c.in-Ok.ensures
    (omega (arith, c.if-count-gt0.false, c.count.ensures.value))).0.1

pub returns-in-Ok-put_rows : goal.returns-in-Ok-put_rows
returns-in-Ok-put_rows g c = record {
  lot = c.in-Ok.file_rows;
  read = c.in-Ok.ensures;
  put = λ none. c.in-Ok-put_rows.ensures.put;
  left = λ some. absurd (omega (arith, some, c.if-count-gt0.false, c.count.ensures.value));
  counted = search rules;
}
