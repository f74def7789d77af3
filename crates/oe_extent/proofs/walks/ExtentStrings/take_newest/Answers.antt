-- The newest string, and those before it.
use Rattle.std.proofs.Common.{◌<◌, ◌∷◌, List, ℕ, length, ap, sym, ◌∙◌, ◌-◌, arith, take}
use Rattle.std.proofs.lemmas.List.{take_rest}
use Rattle.oe_extent.specs.Strings.{last_strings}
use Rattle.oe_extent.proofs.PackedFacts.{taken_off, long_walk, none_left}
use Rattle.oe_extent.proofs.walks.ExtentStrings.take_newest.Goals as goal

pub returns-then-self-eq0 : goal.returns-then-self-eq0
returns-then-self-eq0 c =
    let none = none_left c.self.inside.count c.self.inside.bytes.now c.if-self-eq0.true in
    (sym c.self.view_is ∙ none, sym c.self.view_is ∙ none)

pub last_size-requires : goal.last_size-requires
last_size-requires c =
    let some : 0 < c.self.inside.count = omega (arith, c.if-self-eq0.false) in
    long_walk c.self.inside.count c.self.inside.bytes.now c.self.invariant some

pub overflow_sub-start : goal.overflow_sub-start
overflow_sub-start c =
    let some : 0 < c.self.inside.count = omega (arith, c.if-self-eq0.false) in
    (taken_off c.self.inside.count c.self.inside.bytes.now c.last_size.result c.self.invariant some
    c.last_size.ensures).fits

pub invariant_of-self : goal.invariant_of-self
invariant_of-self c =
    let some : 0 < c.self.inside.count = omega (arith, c.if-self-eq0.false) in
    (taken_off c.self.inside.count c.self.inside.bytes.now c.last_size.result c.self.invariant some
    c.last_size.ensures).others

pub returns : goal.returns
returns c =
    let some : 0 < c.self.inside.count = omega (arith, c.if-self-eq0.false) in
    let t = taken_off c.self.inside.count c.self.inside.bytes.now c.last_size.result c.self.invariant some
    c.last_size.ensures in
    let start = length c.self.inside.bytes.now - c.last_size.result in
    sym c.self.view_is ∙ t.cuts
    ∙ ap (λ (x : List ℕ). x ∷ last_strings (c.self.inside.count - 1) (take start c.self.inside.bytes.now))
    (sym (take_rest c.self.inside.bytes.now start))
