use Rattle.std.proofs.Common.{◌+◌, sym, ◌∙◌, ap, refl}
use Rattle.oe_fields.specs.Parting.{fields_of}
use Rattle.oe_columns.proofs.HeadingFacts.{placed_first, placed_more, placed_fault, placed_all}
use Rattle.oe_columns.proofs.headings.heading_places.Goals as goal

pub loop-column-init : goal.loop-column-init
loop-column-init c = record {
  counted = rw c.new-at.ensures refl;
  so_far = rw c.new-at.ensures
      (placed_first c.args.table c.fact_columns-wanted-items.result.now (fields_of c.args.format c.args.line.now)
      c.fact_columns-wanted-items.ensures.value);
}

pub returns-in-Err : goal.returns-in-Err
returns-in-Err c =
    let l = c.loop-column in
    sym (placed_fault c.args.table c.fact_columns-wanted-items.result.now (fields_of c.args.format c.args.line.now)
    l.at.items l.column c.in-Err.fault _ c.find_name.result c.loop-column-test.true c.find_name.ensures
    (sym c.placed.ensures ∙ c.in-Err.is) l.invariant.so_far)

pub loop-column-preserved : goal.loop-column-preserved
loop-column-preserved c =
    let l = c.loop-column in
    record {
      counted = c.push.ensures.len ∙ ap (λ n. n + 1) l.invariant.counted;
      so_far = rw c.push.ensures.items
          (placed_more c.args.table c.fact_columns-wanted-items.result.now
          (fields_of c.args.format c.args.line.now) l.at.items l.column c.in-Ok.place _ c.find_name.result
          c.loop-column-test.true c.find_name.ensures (sym c.placed.ensures ∙ c.in-Ok.is) l.invariant.so_far);
    }

pub returns : goal.returns
returns c =
    let l = c.loop-column in
    sym (placed_all c.args.table c.fact_columns-wanted-items.result.now (fields_of c.args.format c.args.line.now)
    l.at.items l.column c.loop-column-test.false l.invariant.so_far)
