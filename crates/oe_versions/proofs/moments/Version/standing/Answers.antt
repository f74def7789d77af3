use Rattle.std.proofs.Common.{◌≤◌, ◌∙◌, sym, ap, subst}
use Rattle.oe_rows.specs.Key.{district_cmp}
use Rattle.oe_model.specs.Choice.{comes_before}
use Rattle.oe_model.specs.Keys.{district_of_customer}
use Rattle.oe_store.specs.Places.{rows, entries_of}
use Rattle.oe_versions.proofs.NameFacts.{Counts, count_starts, count_passes}
use Rattle.oe_versions.proofs.moments.Version.standing.Goals as goal

pub loop-key-init : goal.loop-key-init
loop-key-init c =
    subst (Counts c.args.self.now.tables c.args.self.now.log c.args.self.now.moment c.args.district.now c.args.last.now
    (λ y. comes_before y (c.args.first.now, c.args.own)) 0 0)
    (sym (c.into_iter-key-iterator.ensures.into_iter_gives ∙ c.customers_of-key-items.ensures
    ∙ ap (λ ts. entries_of district_cmp district_of_customer c.args.district.now (rows ts).customers) c.tables.ensures))
    (count_starts c.args.self.now.tables c.args.self.now.log c.args.self.now.moment c.args.district.now c.args.last.now
    (λ y. comes_before y (c.args.first.now, c.args.own)) c.requires)

pub loop-key-preserved : goal.loop-key-preserved
loop-key-preserved c =
    count_passes c.args.self.now.tables c.args.self.now.log c.args.self.now.moment c.args.district.now c.args.last.now
    (λ y. comes_before y (c.args.first.now, c.args.own)) c.loop-key.count c.loop-key.before _ c.next.new.self
    (subst (Counts c.args.self.now.tables c.args.self.now.log c.args.self.now.moment c.args.district.now
    c.args.last.now (λ y. comes_before y (c.args.first.now, c.args.own)) c.loop-key.count c.loop-key.before)
    c.in-Some.ensures.steps c.loop-key.invariant) (sym c.first_at-found.ensures ∙ c.in_default.is)
    (subst (λ n. 1 ≤ n) c.get-number.ensures.value c.get-number.ensures.low)
    (subst (λ n. n ≤ 3_000) c.get-number.ensures.value c.get-number.ensures.high)
