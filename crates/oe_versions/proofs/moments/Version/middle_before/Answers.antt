use Rattle.std.proofs.Common.{◌∙◌, sym, ap, subst}
use Rattle.oe_rows.specs.Key.{district_cmp}
use Rattle.oe_model.specs.Keys.{district_of_customer}
use Rattle.oe_store.specs.Places.{rows, entries_of}
use Rattle.oe_versions.proofs.NameFacts.{Seeks, seek_starts}
use Rattle.oe_versions.proofs.moments.Version.middle_before.Goals as goal

pub loop-key-init : goal.loop-key-init
loop-key-init c =
    subst (Seeks c.args.self.now.tables c.args.self.now.log c.args.self.now.moment c.args.district.now c.args.last.now)
    (sym (c.into_iter-key-iterator.ensures.into_iter_gives ∙ c.customers_of-key-items.ensures
    ∙ ap (λ ts. entries_of district_cmp district_of_customer c.args.district.now (rows ts).customers) c.tables.ensures))
    (seek_starts c.args.self.now.tables c.args.self.now.log c.args.self.now.moment c.args.district.now c.args.last.now
    c.requires)
