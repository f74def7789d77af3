use Rattle.std.proofs.Common.{◌+◌, drop, get_or, subst, rules}
use Rattle.std.proofs.lemmas.List.{drop_more, drop_all}
use Rattle.oe_rows.specs.declared.keys.Table.TheVariants as table
use Rattle.oe_engine.specs.declared.opening.TheConstants.{CHANGED}
use Rattle.oe_engine.specs.Opened.{IsLinked}
use Rattle.oe_engine.proofs.OpenFacts.{IsLinking, changed_tables, tables_still, one_linked, all_linked, are_linked}
use Rattle.oe_engine.proofs.opening.link_all.Goals as goal

pub loop-table-preserved : goal.loop-table-preserved
loop-table-preserved c =
    one_linked (IsLinked c.args.tables.now) (tables_still c.args.tables.now) c.args.undo.now c.loop-table.undo
    c.link_table.new.undo (get_or CHANGED c.loop-table.table-index table.Warehouse)
    (drop (c.loop-table.table-index + 1) CHANGED) CHANGED
    c.link_table.ensures.log c.link_table.ensures.kept c.in_ok-link_table.ensures.linked
    (subst (λ ts. IsLinking (IsLinked c.args.tables.now) c.args.undo.now c.loop-table.undo ts CHANGED)
    (drop_more CHANGED c.loop-table.table-index table.Warehouse (search rules)) c.loop-table.invariant)

pub returns-clause-linked : goal.returns-clause-linked
returns-clause-linked c =
    are_linked c.args.tables.now c.loop-table.undo.links
    (all_linked (IsLinked c.args.tables.now) c.args.undo.now c.loop-table.undo changed_tables
    (subst (λ ts. IsLinking (IsLinked c.args.tables.now) c.args.undo.now c.loop-table.undo ts changed_tables)
    (drop_all c.loop-table.table-index changed_tables (search rules)) c.loop-table.invariant))
