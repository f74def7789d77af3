use Rattle.std.proofs.Common.{◌≡◌, ◌+◌, ◌≤◌, length}
use Rattle.std.specs.Prelude.{count_by}
use Rattle.std.specs.List.{filter_map}
use Rattle.oe_model.specs.Choice.{first_name_of, namesakes, comes_before}
use Rattle.oe_store.specs.Places.{rows}
use Rattle.oe_store.proofs.tables.Tables.standing.Given as goal

abbrev pub invariant-loop-key : goal.invariant-loop-key
invariant-loop-key l =
    (l.count + length (filter_map (λ e. first_name_of l.district l.last e.0 e.1) l.key-iterator) ≡ length
    (namesakes l.district l.last (rows l.self).customers))
    × (l.before + count_by (λ y. comes_before y (l.first, l.own))
    (filter_map (λ e. first_name_of l.district l.last e.0 e.1) l.key-iterator)
    ≡ count_by (λ y. comes_before y (l.first, l.own))
    (namesakes l.district l.last (rows l.self).customers))
    × (length (namesakes l.district l.last (rows l.self).customers) ≤ 3_000)
    × (count_by (λ y. comes_before y (l.first, l.own)) (namesakes l.district l.last (rows l.self).customers) ≤ 3_000)
