use Rattle.std.proofs.Common.{rules}
use Rattle.std.proofs.lemmas.Fn.{always_returns_same}
use Rattle.oe_table.proofs.ShelfFacts.{found}
use Rattle.oe_index.proofs.ListFacts.{is-found}
use Rattle.oe_index.proofs.key_lists.is_among.Goals as goal

pub returns : goal.returns
returns g c =
    rw c.is_ok.ensures.value
    (is-found g.K.Ord.cmp g.met.K.Ord.total c.args.slots.now c.args.key.now c.binary_search_by-found.result c.requires
    (found g.K.Ord.cmp g.met.K.Ord.total c.args.slots.now c.args.key.now c.binary_search_by-found.result c.requires
    c.binary_search_by-found.ensures.bound
    (c.binary_search_by-found.ensures.position (λ e. g.K.Ord.cmp e.0 c.args.key.now)
    (always_returns_same _ _ _ (λ a r h t. search rules)))))
