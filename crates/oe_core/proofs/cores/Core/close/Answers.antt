use Rattle.std.proofs.Common.{◌≡◌, ◌∙◌, arith, []}
use Rattle.std.proofs.lemmas.List.{nil_from_length}
use Rattle.oe_core.proofs.CloseFacts.{before_closing, newest_is_latest, endable, popped, none_open, closed_rows}
use Rattle.oe_core.proofs.cores.Core.close.Goals as goal

pub loop-tx-init : goal.loop-tx-init
loop-tx-init c = (
  c.self.inside.works,
  rw (← c.self.view_is, c.into_items-txs.ensures.items)
      (before_closing _ c.self.invariant),
)

pub end-requires : goal.end-requires
end-requires c = endable c.loop-tx.invariant.1 _ _ c.in-Some.ensures.items

pub loop-tx-preserved : goal.loop-tx-preserved
loop-tx-preserved c =
    (c.loop-tx.invariant.0, popped c.loop-tx.invariant.1 c.end.new.engine _ _ c.in-Some.ensures.items c.end.ensures)

pub close-requires : goal.close-requires
close-requires c =
    let none : c.loop-tx.txs.items ≡ [] = nil_from_length _
    (omega (arith, c.in_default.ensures.cases, c.loop-tx.txs.ok.0)) in
    none_open c.loop-tx.invariant.1 none

pub returns : goal.returns
returns c =
    let none : c.loop-tx.txs.items ≡ [] = nil_from_length _
    (omega (arith, c.in_default.ensures.cases, c.loop-tx.txs.ok.0)) in
    let rows = c.close.ensures ∙ closed_rows c.loop-tx.invariant.1 none in
    rw (← c.self.view_is) ((rw (← c.self.view_is) at rows) ∙ newest_is_latest _ c.self.invariant)
