-- The string of this extent, or of one before it; behind the oldest extent there is none.
use Rattle.std.proofs.Common.{ℕ, List, sym, ap, ◌∙◌, subst}
use Rattle.std.proofs.lemmas.Bool.{eqb-true, eqb-false}
use Rattle.oe_extent.specs.Strings.{BeginsAt}
use Rattle.oe_extent.specs.Extents.{contents_in, contents_of, strings_at}
use Rattle.oe_extent.proofs.ExtentFacts.{strings_here, strings_before, none_before}
use Rattle.oe_extent.proofs.extents.Extent.+at.Goals as goal

pub unreachable-requires : goal.unreachable-requires
unreachable-requires t c =
    none_before c.args.self.now c.args.address.extent c.args.address.offset c.in-None.is
    (eqb-false _ _ (sym c.eq.ensures ∙ c.if-eq.false)) c.requires

pub returns-then-eq : goal.returns-then-eq
returns-then-eq t c s b =
    let here = strings_here c.args.self.now c.args.address.extent (eqb-true _ _ (sym c.eq.ensures ∙ c.if-eq.true)) in
    c.at.ensures s (rw c.get.ensures.value
    (subst (λ (ss : List (List ℕ)). BeginsAt ss c.args.address.offset s) here b))

pub returns : goal.returns
returns t c s b =
    let before = strings_before c.args.self.now c.args.address.extent
    (eqb-false _ _ (sym c.eq.ensures ∙ c.if-eq.false))
    ∙ ap (λ o. strings_at c.args.address.extent (contents_of o)) c.in-Some.is
    ∙ ap (λ e. strings_at c.args.address.extent (contents_in e)) (sym c.deref.ensures) in
    c.at-in-Some.ensures s (subst (λ (ss : List (List ℕ)). BeginsAt ss c.args.address.offset s) before b)
