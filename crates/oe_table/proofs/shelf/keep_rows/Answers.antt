use Rattle.std.proofs.Common.{rules}
use Rattle.std.proofs.lemmas.Fn.{filter_same}
use Rattle.oe_table.proofs.shelf.keep_rows.Goals as goal

pub returns : goal.returns
returns g c = filter_same _ _ _ (λ e b f k. search rules) _ _ c.retain.ensures
