use Rattle.std.proofs.Common.{◌≡◌, ◌+◌, ◌/◌, length}
use Rattle.std.specs.Prelude.{◌==◌, count_by, find, option_map}
use Rattle.std.specs.List.{filter_map}
use Rattle.oe_model.specs.Choice.{first_name_of, namesakes, comes_before, middle}
use Rattle.oe_store.specs.Places.{rows}
use Rattle.oe_store.proofs.tables.Tables.middle.Given as goal

abbrev pub invariant-loop-key : goal.invariant-loop-key
invariant-loop-key l =
    middle (namesakes l.district l.last (rows l.self).customers)
    ≡ option_map (λ x. x.1)
    (find (λ x. count_by (λ y. comes_before y x) (namesakes l.district l.last (rows l.self).customers) + 1 ==
    (length (namesakes l.district l.last (rows l.self).customers) + 1) / 2)
    (filter_map (λ e. first_name_of l.district l.last e.0 e.1) l.key-iterator))
