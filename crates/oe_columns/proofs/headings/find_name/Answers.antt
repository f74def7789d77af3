use Rattle.std.proofs.Common.{◌∙◌, ap, refl}
use Rattle.oe_fields.specs.Parting.{Line, fields_of}
use Rattle.oe_columns.specs.Headings.{column_place}
use Rattle.oe_columns.proofs.HeadingFacts.{named_first, named_last, stepped, shorter}
use Rattle.oe_columns.proofs.headings.find_name.Goals as goal

pub loop-text-init : goal.loop-text-init
loop-text-init c =
    rw c.new-fields.ensures (record {
      format = refl;
      text = refl;
      so_far = named_first c.args.name.now (fields_of c.args.format c.args.line.now);
    })

pub loop-text-smaller : goal.loop-text-smaller
loop-text-smaller c =
    let e = c.in-Some.ensures in
    shorter c.loop-text.fields c.next.new.self c.in-Some.text.now e.format e.text e.value e.place

pub loop-text-preserved : goal.loop-text-preserved
loop-text-preserved c =
    let e = c.in-Some.ensures in
    let i = c.loop-text.invariant in
    record {
      format = e.format ∙ i.format;
      text = e.text ∙ i.text;
      so_far = stepped c.args.name.now c.loop-text.fields c.next.new.self c.loop-text.seen c.look_at-seen.result
          c.place-place.result c.in-Some.text.now e.format e.text e.value e.place c.place-place.ensures
          c.look_at-seen.ensures i.so_far;
    }

pub returns-in-None : goal.returns-in-None
returns-in-None c =
    let i = c.loop-text.invariant in
    let text = i.text ∙ ap (λ (l : Line). l.text) c.new-fields.ensures in
    named_last c.args.name.now (fields_of c.loop-text.fields.format c.loop-text.fields.text) c.loop-text.seen
    c.loop-text.fields.place c.in-None.ensures.value i.so_far
    ∙ ap (λ f. column_place c.args.name.now (fields_of f c.loop-text.fields.text)) i.format
    ∙ ap (λ t. column_place c.args.name.now (fields_of c.args.format t)) text
