use Rattle.std.proofs.Common.{map, subst, sym, ◌∙◌, rules}
use Rattle.std.proofs.lemmas.List.{map-id}
use Rattle.std.specs.List.{flat_map}
use Rattle.std.specs.List.Sorted.{IsStrictlySortedBy}
use Rattle.std.proofs.lemmas.Iterator.Adapters.{YieldsList-from_vec, YieldsList-from_flatten}
use Rattle.std.proofs.lemmas.Iterator.Consumers.{YieldsList-turn, YieldsList-so_far, YieldsList-at}
use Rattle.oe_file_loading.specs.Placing.{HasRow, IsKeyOf}
use Rattle.oe_file_loading.proofs.PlaceFacts.{puts_none, puts_more, only_none, only_more, new_row}
use Rattle.oe_file_loading.proofs.putting.put_rows.Goals as goal

pub loop-numbered-init : goal.loop-numbered-init
loop-numbered-init g c = record {
  put =
      puts_none g.R.RowLine.key_of g.T.Placing.refers g.T.Placing.with_row (g.T.Placing.rows_in c.args.into.now)
      c.args.apart.now.items;
  only =
      only_none g.R.RowLine.key_of g.T.Placing.refers g.T.Placing.with_row (g.T.Placing.rows_in c.args.into.now);
}

pub put_row-requires : goal.put_row-requires
put_row-requires g c =
    let l = c.loop-numbered in
    let source =
    YieldsList-from_vec {s = c.into_iter.result} c.into_vecs.result.items c.into_iter.ensures.rest (search rules) in
    let turn =
    YieldsList-turn
    (YieldsList-at c.into_iter-numbered-iterator.ensures.into_iter_gives
    (YieldsList-from_flatten {s = c.flatten-numbered-items.result} _ _ (λ y. y) (λ v. v.items)
    (λ x j b. YieldsList-from_vec x.items b.0 (b.1 ∙ x.ok.0))
    (YieldsList-at c.flatten-numbered-items.ensures.source source) c.flatten-numbered-items.ensures.front
    c.flatten-numbered-items.ensures.back c.flatten-numbered-items.ensures.done))
    l.yielded l.numbered-iterator l.yielded_by c.next.result c.next.new.self c.in-Some.numbered c.in-Some.is
    c.next.ensures.steps in
    let front =
    YieldsList-so_far
    (YieldsList-at c.into_iter-numbered-iterator.ensures.into_iter_gives
    (YieldsList-from_flatten {s = c.flatten-numbered-items.result} _ _ (λ y. y) (λ v. v.items)
    (λ x j b. YieldsList-from_vec x.items b.0 (b.1 ∙ x.ok.0))
    (YieldsList-at c.flatten-numbered-items.ensures.source source) c.flatten-numbered-items.ensures.front
    c.flatten-numbered-items.ensures.back c.flatten-numbered-items.ensures.done))
    l.yielded l.numbered-iterator l.yielded_by in
    let all = flat_map (λ v. v.items) c.into_vecs.result.items in
    new_row g.met.K.Ord.total g.R.RowLine.key_of all l.yielded c.in-Some.numbered
    (g.T.Placing.rows_in c.args.into.now) (g.T.Placing.rows_in l.into)
    (subst (λ ns. IsStrictlySortedBy g.K.Ord.cmp (map (λ n. n.key) ns)) (sym c.into_vecs.ensures) c.requires.ascending)
    (subst (λ ns. (k : g.row.K.Denot) → IsKeyOf ns k → HasRow (g.T.Placing.rows_in c.args.into.now)
    (g.R.RowLine.key_of k) → ⊥) (sym c.into_vecs.ensures) c.requires.new)
    (sym (map-id l.yielded) ∙ front) turn.0 turn.1 l.invariant.only

pub loop-numbered-preserved : goal.loop-numbered-preserved
loop-numbered-preserved g c =
    let l = c.loop-numbered in
    record {
      put =
          puts_more g.R.RowLine.key_of g.T.Placing.refers g.T.Placing.with_row l.yielded
          (g.T.Placing.rows_in c.args.into.now) (g.T.Placing.rows_in l.into)
          (g.T.Placing.rows_in c.put_row.new.into) c.args.apart.now.items l.apart.items c.put_row.new.apart.items
          c.in-Some.numbered l.invariant.put c.in_default.ensures.put;
      only =
          only_more g.R.RowLine.key_of g.T.Placing.refers g.T.Placing.with_row l.yielded
          (g.T.Placing.rows_in c.args.into.now) (g.T.Placing.rows_in l.into) (g.T.Placing.rows_in c.put_row.new.into)
          c.in-Some.numbered l.invariant.only c.in_default.ensures.only;
    }
