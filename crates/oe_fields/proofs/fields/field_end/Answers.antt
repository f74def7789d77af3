use Rattle.std.proofs.Common.{◌+◌, ◌-◌, ◌∙◌, refl, sym, arith, length-take, length-drop, drop}
use Rattle.oe_fields.specs.Parting.{separator, mark}
use Rattle.oe_fields.proofs.PartFacts.{none_near, first_near}
use Rattle.oe_fields.proofs.fields.field_end.Goals as goal

pub end_at-requires : goal.end_at-requires
end_at-requires c =
    let l = c.loop-start in
    omega (
      arith,
      c.in-Some.ensures.0.high,
      length-take (l.start + 32 - l.start) (drop l.start c.args.text.now),
      length-drop l.start c.args.text.now,
      l.invariant.within,
    )

pub returns-in-Some-clause-value : goal.returns-in-Some-clause-value
returns-in-Some-clause-value c =
    let l = c.loop-start in
    c.end_at.ensures.value
    ∙ sym (first_near c.args.format (separator c.args.format) (mark c.args.format) c.args.text.now l.start _ c.in-Some.i
    refl refl l.invariant.so_far c.in-Some.ensures.0)

pub returns-clause-value : goal.returns-clause-value
returns-clause-value c = c.end_behind.ensures.value ∙ sym c.loop-start.invariant.so_far

pub loop-start-preserved : goal.loop-start-preserved
loop-start-preserved c =
    let l = c.loop-start in
    record {
      within = omega (arith, l.invariant.within, c.loop-start-test.true);
      so_far = none_near c.args.format (separator c.args.format) (mark c.args.format) c.args.text.now l.start _
          (l.start + 32)
          refl refl l.invariant.so_far c.in-None.ensures (omega arith)
          (omega (arith, l.invariant.within, c.loop-start-test.true));
    }
