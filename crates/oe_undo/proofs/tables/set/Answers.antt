use Rattle.std.proofs.Common.{ap, ◌∙◌}
use Rattle.oe_undo.specs.Tables.{key_place}
use Rattle.oe_undo.proofs.NumberFacts.{sets_number}
use Rattle.oe_undo.proofs.tables.set.Goals as goal

pub returns : goal.returns
returns g c k =
    ap (λ t. key_place g.K.ShelvedKey.shelf_of g.K.NumberedKey.number_of t k) (c.place_in.follows.holds c.args.link)
    ∙ sets_number g.met.K.Ord.total g.met.K.TableKey.exact g.K.ShelvedKey.shelf_of g.K.NumberedKey.number_of
    g.met.K.NumberedKey.numbered
    c.args.links.now c.args.key.now c.args.link c.requires k
