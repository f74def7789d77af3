use Rattle.oe_store.proofs.tables.Tables.history_has_place.Goals as goal

pub returns : goal.returns
returns c = rw (← c.self.view_is) c.has_place.ensures
