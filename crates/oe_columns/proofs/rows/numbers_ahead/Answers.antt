use Rattle.std.proofs.Common.{◌≡◌, ◌+◌, ◌∙◌, ap, refl, sym, arith, length, get_or}
use Rattle.oe_fields.specs.Parting.{fields_of}
use Rattle.oe_columns.proofs.RowFacts.{first_more}
use Rattle.oe_columns.proofs.rows.numbers_ahead.Goals as goal

pub loop-place-init : goal.loop-place-init
loop-place-init c = record {
  format = refl;
  text = refl;
  counted = rw c.requires refl;
  so_far = rw c.requires tt;
}

pub loop-place-preserved : goal.loop-place-preserved
loop-place-preserved c =
    let l = c.loop-place in
    let at : l.fields.place ≡ get_or c.args.places.now (length l.ahead.items) 0 =
    sym c.place.ensures ∙ sym c.if-place.false ∙ ap (λ k. get_or c.args.places.now k 0) (sym l.invariant.counted) in
    record {
      format = c.take_digits.ensures.format ∙ l.invariant.format;
      text = c.take_digits.ensures.text ∙ l.invariant.text;
      counted = c.push.ensures.len ∙ ap (λ n. n + 1) l.invariant.counted;
      so_far = rw c.push.ensures.items
          (first_more (fields_of c.args.fields.now.format c.args.fields.now.text) c.args.places.now l.ahead.items
          c.in-Some.n 0 l.invariant.so_far (omega (arith, c.loop-place-test.true, l.invariant.counted))
          (rw (← l.invariant.format, ← l.invariant.text, ← at) c.in-Some.ensures.value));
    }
