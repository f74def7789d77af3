use Rattle.oe_model.proofs.RowFacts.{key_true, key_refl, at_changed, same_rows}
use Rattle.oe_model.proofs.tables_are_a_map.Goals as goal

pub returns : goal.returns
returns c = record { key_true = key_true; key_refl = key_refl; at_changed = at_changed; same_rows = same_rows }
