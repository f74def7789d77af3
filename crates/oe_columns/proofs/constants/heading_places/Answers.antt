use Rattle.std.proofs.Common.{◌+◌, sym, ◌∙◌, ap, refl, length}
use Rattle.std.proofs.lemmas.List.{length-map}
use Rattle.oe_fields.specs.Parting.{fields_of}
use Rattle.oe_columns.specs.Columns.{column_of, columns_of}
use Rattle.oe_columns.specs.Constants.{constants_of, heading_constants}
use Rattle.oe_columns.proofs.ConstantFacts.{placed_first, placed_more, placed_fault, placed_all, places_are}
use Rattle.oe_columns.proofs.constants.heading_places.Goals as goal

pub loop-column-init : goal.loop-column-init
loop-column-init c = record {
  counted = rw c.new-at.ensures refl;
  so_far = rw c.new-at.ensures
      (placed_first _ c.constant_columns-wanted-items.result.now (fields_of c.args.format c.args.line.now));
}

pub returns-in-Err : goal.returns-in-Err
unfolding heading_constants
returns-in-Err c =
    let l = c.loop-column in
    let columns = c.fact_columns-before.result.now in
    let fields = fields_of c.args.format c.args.line.now in
    sym (places_are c.constant_columns-wanted-items.result.now (constants_of c.args.table) (length columns)
    (length (columns_of c.args.table)) fields c.constant_columns-wanted-items.ensures.value
    (sym (length-map columns column_of) ∙ ap length c.fact_columns-before.ensures.value)
    ∙ placed_fault _ c.constant_columns-wanted-items.result.now fields l.at.items l.column c.in-Err.fault _
    c.find_name.result c.loop-column-test.true c.find_name.ensures (sym c.placed.ensures ∙ c.in-Err.is)
    l.invariant.so_far)

pub loop-column-preserved : goal.loop-column-preserved
loop-column-preserved c =
    let l = c.loop-column in
    record {
      counted = c.push.ensures.len ∙ ap (λ n. n + 1) l.invariant.counted;
      so_far = rw c.push.ensures.items
          (placed_more _ c.constant_columns-wanted-items.result.now
          (fields_of c.args.format c.args.line.now) l.at.items l.column c.in-Ok.place _ c.find_name.result
          c.loop-column-test.true c.find_name.ensures (sym c.placed.ensures ∙ c.in-Ok.is) l.invariant.so_far);
    }

pub returns : goal.returns
unfolding heading_constants
returns c =
    let l = c.loop-column in
    let columns = c.fact_columns-before.result.now in
    let fields = fields_of c.args.format c.args.line.now in
    sym (places_are c.constant_columns-wanted-items.result.now (constants_of c.args.table) (length columns)
    (length (columns_of c.args.table)) fields c.constant_columns-wanted-items.ensures.value
    (sym (length-map columns column_of) ∙ ap length c.fact_columns-before.ensures.value)
    ∙ placed_all _ c.constant_columns-wanted-items.result.now fields l.at.items l.column c.loop-column-test.false
    l.invariant.so_far)
