-- Each whole effect keeps the seven movements.
use Rattle.std.proofs.Common.{◌≡◌, ℕ, suc, ◌<◌, Some, None, arith}
use Rattle.std.specs.FinMap.{get}
use Rattle.oe_theory.specs.Machine.{Tx}
use Rattle.oe_theory.specs.Laws.{IsGood}
use Rattle.oe_theory.specs.World.{World}
use Rattle.oe_theory.specs.Next as theory
use Rattle.oe_theory.specs.Next.{Next, purges}
use Rattle.oe_theory.specs.Theorems.{IsKept, IsReached}
use Rattle.oe_theory.proofs.Theorems.{holds_from_base}
use Rattle.oe_requests.specs.declared.requests.Request.{Request}
use Rattle.oe_requests.specs.declared.requests.Request.TheVariants as request
use Rattle.oe_requests.specs.declared.replies.Reply.{Reply}
use Rattle.oe_model.specs.Rows.{Rows}
use Rattle.oe_model.specs.Requests.{IsRequest}
use Rattle.oe_model.specs.Payment.{history_key}
use Rattle.oe_model.specs.FurtherConditions.{More}
use Rattle.oe_model.specs.System.{system, effect_of}
use Rattle.oe_model.proofs.SystemLaws.{laws}
use Rattle.oe_consistency.proofs.KeptMore as more
use Rattle.oe_movements.specs.Kept.{HasMovements}
use Rattle.oe_movements.proofs.PaymentMoves.{payment_moves, rename_moves}
use Rattle.oe_movements.proofs.NewOrderMoves.{new_order_moves}
use Rattle.oe_movements.proofs.DeliveryMoves.{delivery_moves, deliveries_moves}

-- by the request, of tables on which its HISTORY row is new
by_request : (initial : ℕ) (f : ℕ → ℕ) (x : Tx Request) (r after : Rows) (y : Reply) → IsGood system f x r
    → HasMovements initial r → More after → get r.histories (history_key x.terminal x.number) ≡ None
    → (q : Request) → IsRequest q → effect_of x.terminal x.number q r ≡ Some (after, y)
    → HasMovements initial after
by_request initial f x r after y g h more new (request.Payment q) valid e =
    let now = payment_moves initial x.terminal x.number q r after y new h.first h.movements e in
    record { more = more; first = now.0; movements = now.1 }
by_request initial f x r after y g h more new (request.NewOrder q) valid e =
    let now = new_order_moves initial q r after y g.good.meets g.good.condition_2 valid h.first h.movements e in
    record { more = more; first = now.0; movements = now.1 }
by_request initial f x r after y g h more new (request.Delivery q) valid e = delivery_moves initial q r after y h e
by_request initial f x r after y g h more new (request.Deliveries q) valid e = deliveries_moves initial q r after y h e
by_request initial f x r after y g h more new (request.Rename q) valid e =
    let now = rename_moves initial q r after y h.first h.movements e in
    record { more = more; first = now.0; movements = now.1 }

pub kept : (initial : ℕ) → IsKept system (HasMovements initial)
kept initial f x r after y g e h =
    by_request initial f x r after y g h (more.kept f x r after y g e h.more)
    (g.good.unused (history_key x.terminal x.number) g.terminal.0 later) x.request g.valid e
  where
    later : f x.terminal < x.number
    later = let n : x.number ≡ suc (f x.terminal) = g.number in omega arith

-- a step leaves a base of which they hold: the one before, or the version of the moment that it purges
pub base_moves : (initial : ℕ) (w v : World system) (i : theory.Step system) (a : theory.Answer system)
    → IsReached system w → HasMovements initial w.base → Next system w i a v → HasMovements initial v.base
base_moves initial w _ _ _ r h (purges m l u) =
    holds_from_base system laws (HasMovements initial) (kept initial) w r h m
base_moves initial w _ _ _ r h n = h
