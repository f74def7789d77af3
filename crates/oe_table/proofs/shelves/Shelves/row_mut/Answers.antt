use Rattle.std.proofs.Common.{rules, refl, sym, Some}
use Rattle.std.specs.BTreeMap.{is_at}
use Rattle.oe_table.specs.Table.{SetsPlace}
use Rattle.oe_table.proofs.TableFacts.{get-rows_of, rows_of-set_place}
use Rattle.oe_table.proofs.WalkFacts.{on_some, rewritten_same}
use Rattle.oe_table.proofs.ShelvesFacts.{sets_place-written}
use Rattle.oe_table.proofs.shelves.Shelves.row_mut.Goals as goal

pub returns-in_err-slot_mut : goal.returns-in_err-slot_mut
returns-in_err-slot_mut g c = (
  (rw c.from_residual.ensures refl, (λ row. rw c.from_residual.ensures tt), c.slot_mut.follows.holds-at-none),
  record { writes_back = tt; row = rw (get-rows_of g.met.K.Ord.total c.args.self.now c.args.key.now) (search rules) },
)

pub returns : goal.returns
returns g c =
    let there = c.in_ok-slot_mut.ensures.value in
    let places : (row : _) → SetsPlace g.K.Ord.cmp c.args.self.now (c.slot_mut.follows.lender (Some row)) c.args.key.now
    (Some row) =
    λ row. sets_place-written g.met.K.Ord.total c.args.self.now (c.slot_mut.follows.lender (Some row)) c.args.key.now
    (Some row) (Some row) (c.slot_mut.follows.holds (Some row)) refl (rw (← there) refl) in (
      (
        refl,
        (λ row. on_some c.as_mut.result _
            (record {
              places = places row;
              rows = rows_of-set_place g.met.K.Ord.total g.met.K.TableKey.exact
                  c.args.self.now (c.slot_mut.follows.lender (Some row)) c.args.key.now (Some row) (places row);
            })),
        rewritten_same (is_at (g.K.Ord.cmp c.args.key.now)) c.args.self.now
            (c.slot_mut.follows.lender c.in_ok-slot_mut.field-0.now) c.in_ok-slot_mut.field-0.now (sym there)
            (c.slot_mut.follows.holds c.in_ok-slot_mut.field-0.now),
      ),
      record {
        writes_back = tt;
        row = rw (get-rows_of g.met.K.Ord.total c.args.self.now c.args.key.now) (search rules);
      },
    )
