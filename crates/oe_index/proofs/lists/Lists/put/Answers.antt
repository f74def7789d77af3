use Rattle.std.proofs.Common.{[], ◌≡◌, ◌<◌, get_or, length, arith, inl}
use Rattle.std.proofs.lemmas.List.{get_or_read}
use Rattle.oe_index.specs.Listed.{Keys, AreLists}
use Rattle.oe_index.proofs.ListFacts.{lists-padded, listed-padded, list-ascends, lists-put, listed-put, listed-own}
use Rattle.oe_index.proofs.ListFacts.{not-listed, only-padded, less-before, only-put, padded-still}
use Rattle.oe_index.proofs.lists.Lists.put.Goals as goal

pub invariant_of-self : goal.invariant_of-self
invariant_of-self g c = lists-padded g.K.Ord.cmp c.self.inside.lists.items c.reach.new.lists.items
    c.reach.ensures.padded.0 c.reach.ensures.padded.1 c.self.invariant

pub returns-in-Err-clause-lists : goal.returns-in-Err-clause-lists
returns-in-Err-clause-lists g c =
    rw (← c.self.view_is)
    record {
      kept = listed-padded g.K.Ord.cmp c.self.inside.lists.items c.reach.new.lists.items c.reach.ensures.padded.0
          c.reach.ensures.padded.1;
      only = λ n k h. inl (only-padded g.K.Ord.cmp c.self.inside.lists.items c.reach.new.lists.items
          c.reach.ensures.padded.0 c.reach.ensures.padded.1 n k h);
    }

pub put-requires : goal.put-requires
put-requires g c =
    let cmp = g.K.Ord.cmp in
    let lists = c.reach.new.lists.items in
    let after : AreLists cmp lists = lists-padded cmp c.self.inside.lists.items lists c.reach.ensures.padded.0
    c.reach.ensures.padded.1 c.self.invariant in
    let within : c.args.number < length lists = omega (arith, c.in_default.ensures.reached, c.reach.new.lists.ok.0) in
    let there : (d : Keys g.row.K.Denot) → c.index_mut.result.now ≡ get_or lists c.args.number d =
    get_or_read lists c.args.number c.index_mut.result.now within c.index_mut.ensures.value in
    rw (there []) (list-ascends cmp lists c.args.number after)

pub invariant_of-self-2 : goal.invariant_of-self-2
invariant_of-self-2 g c =
    let cmp = g.K.Ord.cmp in
    let lists = c.reach.new.lists.items in
    let after : AreLists cmp lists = lists-padded cmp c.self.inside.lists.items lists c.reach.ensures.padded.0
    c.reach.ensures.padded.1 c.self.invariant in
    let within : c.args.number < length lists = omega (arith, c.in_default.ensures.reached, c.reach.new.lists.ok.0) in
    let there : (d : Keys g.row.K.Denot) → c.index_mut.result.now ≡ get_or lists c.args.number d =
    get_or_read lists c.args.number c.index_mut.result.now within c.index_mut.ensures.value in
    lists-put cmp g.met.K.Ord.total c.put.result lists c.index_mut.result.now c.put.new.self c.args.number c.args.key _
    there c.put.ensures.ok c.put.ensures.err after

pub returns-clause-lists : goal.returns-clause-lists
returns-clause-lists g c =
    let cmp = g.K.Ord.cmp in
    let lists = c.reach.new.lists.items in
    let within : c.args.number < length lists = omega (arith, c.in_default.ensures.reached, c.reach.new.lists.ok.0) in
    let there : (d : Keys g.row.K.Denot) → c.index_mut.result.now ≡ get_or lists c.args.number d =
    get_or_read lists c.args.number c.index_mut.result.now within c.index_mut.ensures.value in
    rw (← c.self.view_is)
    record {
      kept = λ n k h. listed-put cmp g.met.K.Ord.total c.put.result lists c.index_mut.result.now c.put.new.self
          c.args.number c.args.key _ there c.put.ensures.ok c.put.ensures.err within n k
          (listed-padded cmp c.self.inside.lists.items lists c.reach.ensures.padded.0 c.reach.ensures.padded.1 n k h);
      only = λ n k h. less-before cmp c.self.inside.lists.items lists c.reach.ensures.padded.0
          c.reach.ensures.padded.1 c.args.number c.args.key n k
          (only-put cmp g.met.K.Ord.total c.put.result lists c.index_mut.result.now c.put.new.self
          c.args.number c.args.key _ there c.put.ensures.ok c.put.ensures.err g.met.K.TableKey.exact within n k h);
    }

pub returns-clause-listed : goal.returns-clause-listed
returns-clause-listed g c =
    let cmp = g.K.Ord.cmp in
    let lists = c.reach.new.lists.items in
    let within : c.args.number < length lists = omega (arith, c.in_default.ensures.reached, c.reach.new.lists.ok.0) in
    let there : (d : Keys g.row.K.Denot) → c.index_mut.result.now ≡ get_or lists c.args.number d =
    get_or_read lists c.args.number c.index_mut.result.now within c.index_mut.ensures.value in
    listed-own cmp g.met.K.Ord.total c.put.result lists c.index_mut.result.now c.put.new.self c.args.number c.args.key _
    there c.put.ensures.ok c.put.ensures.err within

pub returns-clause-unlisted : goal.returns-clause-unlisted
returns-clause-unlisted g c =
    let cmp = g.K.Ord.cmp in
    let lists = c.reach.new.lists.items in
    let within : c.args.number < length lists = omega (arith, c.in_default.ensures.reached, c.reach.new.lists.ok.0) in
    let there : (d : Keys g.row.K.Denot) → c.index_mut.result.now ≡ get_or lists c.args.number d =
    get_or_read lists c.args.number c.index_mut.result.now within c.index_mut.ensures.value in
    rw (← c.self.view_is)
    (not-listed cmp c.put.result c.self.inside.lists.items lists c.index_mut.result.now c.args.number c.args.key there
    c.put.ensures.no_place
    (listed-padded cmp c.self.inside.lists.items lists c.reach.ensures.padded.0 c.reach.ensures.padded.1 c.args.number
    c.args.key))

pub returns-clause-padded : goal.returns-clause-padded
returns-clause-padded g c =
    let lists = c.reach.new.lists.items in
    let within : c.args.number < length lists = omega (arith, c.in_default.ensures.reached, c.reach.new.lists.ok.0) in
    let there : (d : Keys g.row.K.Denot) → c.index_mut.result.now ≡ get_or lists c.args.number d =
    get_or_read lists c.args.number c.index_mut.result.now within c.index_mut.ensures.value in
    rw (← c.self.view_is)
    (padded-still c.put.result c.self.inside.lists.items lists c.index_mut.result.now c.put.new.self c.args.number
    c.reach.ensures.padded.0 c.reach.ensures.padded.1 there c.put.ensures.err)
