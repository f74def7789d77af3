use Rattle.std.proofs.Common.{[], ◌∙◌, ◌≡◌, ◌<◌, Some, List, Option, get_or, length, arith}
use Rattle.std.proofs.lemmas.List.{get_or_read}
use Rattle.oe_table.specs.Shelf.{whole_list, AreShelves}
use Rattle.oe_table.proofs.ShelvesFacts.{shelves-after, joined-after, past-shelves, shelf-ascends, put-kept, put-places}
use Rattle.oe_table.proofs.ShelvesFacts.{put-same, put-no_place, put-rows}
use Rattle.oe_table.proofs.shelves.Shelves.put_new.Goals as goal

pub invariant_of-self : goal.invariant_of-self
invariant_of-self g c =
    let cmp = g.K.Ord.cmp in
    let by = g.K.ShelvedKey.shelf_of in
    let shelves = c.reach.new.shelves.items in
    let n = c.reach.ensures.padded.0 in
    let after : AreShelves cmp by 0 shelves = shelves-after cmp by c.self.inside.shelves.items shelves n
    c.self.invariant c.reach.ensures.padded.1 in
    after

pub returns-in-Err-clause-err : goal.returns-in-Err-clause-err
returns-in-Err-clause-err g c =
    let cmp = g.K.Ord.cmp in
    let by = g.K.ShelvedKey.shelf_of in
    let shelves = c.reach.new.shelves.items in
    let n = c.reach.ensures.padded.0 in
    let after : AreShelves cmp by 0 shelves = shelves-after cmp by c.self.inside.shelves.items shelves n
    c.self.invariant c.reach.ensures.padded.1 in
    let same : whole_list shelves ≡ c.args.self.now = joined-after c.self.inside.shelves.items shelves n
    c.reach.ensures.padded.1 ∙ c.self.view_is in
    same

pub returns-in-Err-clause-no_place : goal.returns-in-Err-clause-no_place
returns-in-Err-clause-no_place g c =
    rw (← c.self.view_is)
    (past-shelves g.K.Ord.cmp g.K.ShelvedKey.shelf_of g.met.K.TableKey.exact c.self.inside.shelves.items c.args.key
    c.self.invariant (omega
    (arith, c.in-Err.ensures.short, c.shelf-number.ensures.number, c.self.inside.shelves.ok.0)))

pub put-requires : goal.put-requires
put-requires g c =
    let cmp = g.K.Ord.cmp in
    let by = g.K.ShelvedKey.shelf_of in
    let shelves = c.reach.new.shelves.items in
    let n = c.reach.ensures.padded.0 in
    let after : AreShelves cmp by 0 shelves = shelves-after cmp by c.self.inside.shelves.items shelves n
    c.self.invariant c.reach.ensures.padded.1 in
    let within : by c.args.key < length shelves =
    omega (arith, c.in_default.ensures.reached, c.shelf-number.ensures.number, c.reach.new.shelves.ok.0) in
    let there : (d : List (g.row.K.Denot × Option g.row.R.Denot))
    → c.index_mut.result.now ≡ get_or shelves (by c.args.key) d =
    get_or_read shelves (by c.args.key) c.index_mut.result.now within
    (rw (← c.shelf-number.ensures.number) c.index_mut.ensures.value) in
    rw (there []) (shelf-ascends cmp by 0 shelves (by c.args.key) after)

pub invariant_of-self-2 : goal.invariant_of-self-2
invariant_of-self-2 g c =
    let cmp = g.K.Ord.cmp in
    let by = g.K.ShelvedKey.shelf_of in
    let shelves = c.reach.new.shelves.items in
    let n = c.reach.ensures.padded.0 in
    let after : AreShelves cmp by 0 shelves = shelves-after cmp by c.self.inside.shelves.items shelves n
    c.self.invariant c.reach.ensures.padded.1 in
    let within : by c.args.key < length shelves =
    omega (arith, c.in_default.ensures.reached, c.shelf-number.ensures.number, c.reach.new.shelves.ok.0) in
    let there : (d : List (g.row.K.Denot × Option g.row.R.Denot))
    → c.index_mut.result.now ≡ get_or shelves (by c.args.key) d =
    get_or_read shelves (by c.args.key) c.index_mut.result.now within
    (rw (← c.shelf-number.ensures.number) c.index_mut.ensures.value) in
    rw c.shelf-number.ensures.number
    (put-kept g.met.K.Ord.total g.met.K.TableKey.exact by c.put.result shelves c.index_mut.result.now c.put.new.self
    c.args.key (Some c.args.row) after there c.put.ensures.ok c.put.ensures.err)

pub returns-clause-ok : goal.returns-clause-ok
returns-clause-ok g c =
    let cmp = g.K.Ord.cmp in
    let by = g.K.ShelvedKey.shelf_of in
    let shelves = c.reach.new.shelves.items in
    let n = c.reach.ensures.padded.0 in
    let after : AreShelves cmp by 0 shelves = shelves-after cmp by c.self.inside.shelves.items shelves n
    c.self.invariant c.reach.ensures.padded.1 in
    let same : whole_list shelves ≡ c.args.self.now = joined-after c.self.inside.shelves.items shelves n
    c.reach.ensures.padded.1 ∙ c.self.view_is in
    let within : by c.args.key < length shelves =
    omega (arith, c.in_default.ensures.reached, c.shelf-number.ensures.number, c.reach.new.shelves.ok.0) in
    let there : (d : List (g.row.K.Denot × Option g.row.R.Denot))
    → c.index_mut.result.now ≡ get_or shelves (by c.args.key) d =
    get_or_read shelves (by c.args.key) c.index_mut.result.now within
    (rw (← c.shelf-number.ensures.number) c.index_mut.ensures.value) in
    rw (← same, c.shelf-number.ensures.number)
    (put-places g.met.K.Ord.total g.met.K.TableKey.exact by c.put.result shelves c.index_mut.result.now
    c.put.new.self c.args.key (Some c.args.row) after within there c.put.ensures.ok)

pub returns-clause-rows : goal.returns-clause-rows
returns-clause-rows g c =
    put-rows g.met.K.Ord.total g.met.K.TableKey.exact c.put.result c.args.self.now _ c.args.key c.args.row
    (returns-clause-ok g c)

pub returns-clause-err : goal.returns-clause-err
returns-clause-err g c =
    let cmp = g.K.Ord.cmp in
    let by = g.K.ShelvedKey.shelf_of in
    let shelves = c.reach.new.shelves.items in
    let n = c.reach.ensures.padded.0 in
    let after : AreShelves cmp by 0 shelves = shelves-after cmp by c.self.inside.shelves.items shelves n
    c.self.invariant c.reach.ensures.padded.1 in
    let same : whole_list shelves ≡ c.args.self.now = joined-after c.self.inside.shelves.items shelves n
    c.reach.ensures.padded.1 ∙ c.self.view_is in
    let within : by c.args.key < length shelves =
    omega (arith, c.in_default.ensures.reached, c.shelf-number.ensures.number, c.reach.new.shelves.ok.0) in
    let there : (d : List (g.row.K.Denot × Option g.row.R.Denot))
    → c.index_mut.result.now ≡ get_or shelves (by c.args.key) d =
    get_or_read shelves (by c.args.key) c.index_mut.result.now within
    (rw (← c.shelf-number.ensures.number) c.index_mut.ensures.value) in
    rw (← same, c.shelf-number.ensures.number)
    (put-same g.met.K.Ord.total g.met.K.TableKey.exact by c.put.result shelves c.index_mut.result.now c.put.new.self
    c.args.key there c.put.ensures.err)

pub returns-clause-no_place : goal.returns-clause-no_place
returns-clause-no_place g c =
    let cmp = g.K.Ord.cmp in
    let by = g.K.ShelvedKey.shelf_of in
    let shelves = c.reach.new.shelves.items in
    let n = c.reach.ensures.padded.0 in
    let after : AreShelves cmp by 0 shelves = shelves-after cmp by c.self.inside.shelves.items shelves n
    c.self.invariant c.reach.ensures.padded.1 in
    let same : whole_list shelves ≡ c.args.self.now = joined-after c.self.inside.shelves.items shelves n
    c.reach.ensures.padded.1 ∙ c.self.view_is in
    let within : by c.args.key < length shelves =
    omega (arith, c.in_default.ensures.reached, c.shelf-number.ensures.number, c.reach.new.shelves.ok.0) in
    let there : (d : List (g.row.K.Denot × Option g.row.R.Denot))
    → c.index_mut.result.now ≡ get_or shelves (by c.args.key) d =
    get_or_read shelves (by c.args.key) c.index_mut.result.now within
    (rw (← c.shelf-number.ensures.number) c.index_mut.ensures.value) in
    rw (← same) (put-no_place g.met.K.Ord.total g.met.K.TableKey.exact by c.put.result shelves c.index_mut.result.now
    c.args.key after there c.put.ensures.no_place)
