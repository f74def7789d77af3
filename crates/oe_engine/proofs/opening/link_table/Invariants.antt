use Rattle.oe_store.specs.KeyWalk.{placed_keys}
use Rattle.oe_engine.proofs.OpenFacts.{IsLinkingKeys}
use Rattle.oe_engine.proofs.opening.link_table.Given as goal

abbrev pub invariant-loop-key : goal.invariant-loop-key
invariant-loop-key l = IsLinkingKeys l.fn.undo l.undo l.waiting l.key-iterator (placed_keys l.fn.table l.fn.tables)
