use Rattle.std.proofs.Common.{◌≡◌, ◌+◌, ◌<◌, ◌≤◌, inl, inr, Bool, true, false, set, if◌then◌else◌, ◌==◌, length}
use Rattle.std.proofs.Common.{arith, refl, sym, ap, ◌∙◌}
use Rattle.std.proofs.lemmas.Bool.{cases_eq, cases_lt}
use Rattle.std.proofs.lemmas.List.{length-set}
use Rattle.oe_locks.specs.Marks.{may_hold}
use Rattle.oe_locks.proofs.NotedFacts.{set-here, set-there, read-here, nobody-behind}
use Rattle.oe_locks.proofs.marks.Holders.forget.Goals as goal

never : (b : Bool) → (if b then false else false) ≡ false
never true = refl
never false = refl

pub loop-place-init : goal.loop-place-init
loop-place-init c = record {
  size = c.self.invariant;
  done = λ k u l. absurd (omega (arith, l));
  left = λ k u l. ap (λ s. may_hold s k u) c.self.view_is;
}

pub loop-place-preserved : goal.loop-place-preserved
loop-place-preserved c =
    let sets = c.loop-place.self-inside.sets.items in
    let place = c.loop-place.place in
    let within : place < length sets =
    omega (arith, c.loop-place-test.true, c.len-place-end.ensures, c.self.invariant, c.loop-place.invariant.size) in
    record {
      size = length-set sets place c.without.result ∙ c.loop-place.invariant.size;
      done = λ k u l. elim (cases_eq k place) [
        | inl e ↦ ap (λ j. may_hold (set sets place c.without.result) j u) e
            ∙ (set-here sets place c.without.result within u ∙ (c.without.ensures u
            ∙ ap (λ b. if u == c.args.terminal then false else b)
            (read-here sets place c.index.result.now within c.index.ensures u
            ∙ (c.loop-place.invariant.left place u (omega arith) ∙ ap (λ j. may_hold c.args.self.now j u) (sym e)))))
        | inr ne ↦ set-there sets place c.without.result within k u ne
            ∙ c.loop-place.invariant.done k u (omega (arith, l, ne))
      ];
      left = λ k u l. set-there sets place c.without.result within k u (λ e. absurd (omega (arith, l, e)))
          ∙ c.loop-place.invariant.left k u (omega (arith, l));
    }

pub returns : goal.returns
returns c k u = elim (cases_lt k 64) [
  | inl l ↦ c.loop-place.invariant.done k u
      (omega (arith, l, c.loop-place-test.false, c.len-place-end.ensures, c.self.invariant))
  | inr g ↦
      let past : length c.loop-place.self-inside.sets.items ≤ k = omega (arith, g, c.loop-place.invariant.size) in
      let was : length c.self.inside.sets.items ≤ k = omega (arith, g, c.self.invariant) in
      nobody-behind c.loop-place.self-inside.sets.items k u past
      ∙ sym (ap (λ b. if u == c.args.terminal then false else b)
      (ap (λ s. may_hold s k u) (sym c.self.view_is) ∙ nobody-behind c.self.inside.sets.items k u was)
      ∙ never (u == c.args.terminal))
]
