-- That keys have places for their links each call keeps.
use Rattle.std.proofs.Common.{◌≡◌, sym, subst}
use Rattle.oe_rows.specs.declared.keys.Key.{Key}
use Rattle.oe_store.specs.Places.{Places}
use Rattle.oe_undo.specs.Links.{LinkMaps, HasPlace}
use Rattle.oe_journal.specs.GivesUp.{GivesUpThose}
use Rattle.oe_journal.specs.Linked.{AreLinked}

-- places of the tables went
pub linked_less : (ts ts' : Places) (m m' : LinkMaps) (P : Key → Type 0) → GivesUpThose ts ts' P → m' ≡ m
    → AreLinked ts m → AreLinked ts' m'
linked_less ts ts' m m' P gone same linked k may h = subst (λ z. HasPlace z k) (sym same)
    (linked k may ((gone k).0 h).0)
