-- Each whole effect keeps conditions 5 to 10 and 12.
use Rattle.std.proofs.Common.{◌≡◌, ℕ, suc, ◌<◌, Some, None, arith}
use Rattle.std.specs.FinMap.{get}
use Rattle.oe_theory.specs.Machine.{Tx}
use Rattle.oe_theory.specs.Laws.{IsGood}
use Rattle.oe_theory.specs.World.{World}
use Rattle.oe_theory.specs.Next as theory
use Rattle.oe_theory.specs.Next.{Next, purges}
use Rattle.oe_theory.specs.Theorems.{IsKept, IsReached}
use Rattle.oe_theory.proofs.Theorems.{holds_from_base}
use Rattle.oe_requests.specs.declared.requests.Request.{Request}
use Rattle.oe_requests.specs.declared.requests.Request.TheVariants as request
use Rattle.oe_requests.specs.declared.replies.Reply.{Reply}
use Rattle.oe_model.specs.Rows.{Rows}
use Rattle.oe_model.specs.Payment.{history_key}
use Rattle.oe_model.specs.FurtherConditions.{More}
use Rattle.oe_model.specs.System.{system, effect_of}
use Rattle.oe_model.proofs.SystemLaws.{laws}
use Rattle.oe_consistency.proofs.PaymentMore.{payment_more}
use Rattle.oe_consistency.proofs.NewOrderMore.{new_order_more}
use Rattle.oe_consistency.proofs.DeliveryMore.{delivery_more, deliveries_more}
use Rattle.oe_consistency.proofs.RenameMore.{rename_more}

-- by the request, of tables on which its HISTORY row is new
by_request : (f : ℕ → ℕ) (x : Tx Request) (r after : Rows) (y : Reply) → IsGood system f x r → More r
    → get r.histories (history_key x.terminal x.number) ≡ None
    → (q : Request) → effect_of x.terminal x.number q r ≡ Some (after, y) → More after
by_request f x r after y g more new (request.Payment q) e = payment_more x.terminal x.number q r after y new more e
by_request f x r after y g more new (request.NewOrder q) e = new_order_more q r after y g.good.meets g.good.condition_2
    more e
by_request f x r after y g more new (request.Delivery q) e = delivery_more q r after y more e
by_request f x r after y g more new (request.Deliveries q) e = deliveries_more q r after y more e
by_request f x r after y g more new (request.Rename q) e = rename_more q r after y more e

pub kept : IsKept system More
kept f x r after y g e more = by_request f x r after y g more
    (g.good.unused (history_key x.terminal x.number) g.terminal.0 later) x.request e
  where
    later : f x.terminal < x.number
    later = let n : x.number ≡ suc (f x.terminal) = g.number in omega arith

-- a step leaves a base of which they hold: the one before, or the version of the moment that it purges
pub base_more : (w v : World system) (i : theory.Step system) (a : theory.Answer system) → IsReached system w
    → More w.base → Next system w i a v → More v.base
base_more w _ _ _ r more (purges m l u) = holds_from_base system laws More kept w r more m
base_more w _ _ _ r more n = more
