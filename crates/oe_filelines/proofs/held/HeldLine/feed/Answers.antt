use Rattle.std.proofs.Common.{◌+◌, ◌++◌, ◌∷◌, [], take, drop, length, append_assoc, append-nil, ap, sym, ◌∙◌, refl}
use Rattle.std.proofs.Common.{subst, ℕ, List, arith}
use Rattle.std.proofs.lemmas.List.{take_rest, length-drop}
use Rattle.oe_filelines.specs.Lines.{Standing}
use Rattle.oe_filelines.proofs.LineFacts.{no_end, before_end, with_end, standing_bytes, standing_line}
use Rattle.oe_filelines.proofs.held.HeldLine.feed.Goals as goal

pub loop-n-init : goal.loop-n-init
loop-n-init g c = record {
  short = omega arith;
  taken = (
    [],
    refl,
    λ start input s.
        subst
        (λ (i : List ℕ). Standing g.row.LONGEST (g.T.LineTaker.taken start) i c.args.self.now c.args.taker.now)
        (sym (append-nil input)) s,
  );
}

pub loop-n-preserved : goal.loop-n-preserved
loop-n-preserved g c =
    let l = c.loop-n in
    let t = l.invariant.taken in
    let n = c.in-Some.n in
    let last = take n l.rest.now in
    let more = drop (n + 1) l.rest.now in
    let first = c.in-Some.ensures in
    let new = c.end_line.new.self in
    let parts = with_end l.rest.now n first in
    record {
      short =
          let len = ap length (take_rest l.rest.now (n + 1)) in
          omega (arith, l.invariant.short, len, length-drop (n + 1) l.rest.now);
      taken = (
        (t.0 ++ last) ++ 10 ∷ [],
        ap (λ z. ((t.0 ++ last) ++ 10 ∷ []) ++ z) (take_rest l.rest.now (n + 1))
            ∙ append_assoc (t.0 ++ last) (10 ∷ []) more ∙ append_assoc t.0 last (10 ∷ more)
            ∙ ap (λ z. t.0 ++ z) (sym parts) ∙ t.1,
        λ start input s.
            subst
            (λ (i : List ℕ). Standing g.row.LONGEST (g.T.LineTaker.taken start) i new c.end_line.new.taker)
            (ap (λ z. z ++ 10 ∷ []) (append_assoc input t.0 last) ∙ append_assoc input (t.0 ++ last) (10 ∷ []))
            (standing_line g.row.LONGEST (g.T.LineTaker.taken start) (input ++ t.0) last l.self new l.taker
            c.end_line.new.taker (before_end l.rest.now n first)
            (λ line h. c.in_default-end_line.ensures.taken line h start) c.end_line.ensures.held (t.2 start input s)),
      );
    }

pub returns : goal.returns
returns g c = λ start input s.
    let l = c.loop-n in
    let t = l.invariant.taken in
    subst
    (λ (i : List ℕ). Standing g.row.LONGEST (g.T.LineTaker.taken start) i c.keep.new.self l.taker)
    (append_assoc input t.0 l.rest.now ∙ ap (λ z. input ++ z) t.1)
    (standing_bytes g.row.LONGEST (g.T.LineTaker.taken start) (input ++ t.0) l.rest.now l.self c.keep.new.self l.taker
    (no_end l.rest.now c.in_default.ensures) c.keep.ensures (t.2 start input s))
