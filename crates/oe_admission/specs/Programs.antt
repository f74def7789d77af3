-- Which positions and worlds steps lead to.
use Rattle.std.specs.Prelude.{ℕ, ◌<◌, length, Option, None, Some}
use Rattle.oe_theory.specs.World.{Open, World}
use Rattle.oe_theory.specs.Theorems.{IsReached}
use Rattle.oe_model.specs.Positions.{Position, InPayment, InNewOrder, InDelivery, InDeliveries, DeliveriesEnd}
use Rattle.oe_model.specs.Positions.{InRename}
use Rattle.oe_model.specs.System.{system}

-- a position that steps lead to: while a district of ten is at hand, others are not done
abbrev pub IsServed : Position → Type 0
IsServed (InPayment q p) = Unit {0}
IsServed (InNewOrder q p) = Unit {0}
IsServed (InDelivery q p) = Unit {0}
IsServed (InDeliveries q done p) = length done < 10
IsServed (DeliveriesEnd done) = Unit {0}
IsServed (InRename q p) = Unit {0}

-- an open transaction stands at one of them, and so does its mark
abbrev pub IsServing : Option (Open system) → Type 0
IsServing None = Unit {0}
IsServing (Some o) = IsServed o.now.position × IsServed o.mark.position

-- each of them does
abbrev pub AreServing : World system → Type 0
AreServing w = (t : ℕ) → IsServing (w.active t)

-- nothing is open, or a world that steps led to
abbrev pub IsLive : Option (World system) → Type 0
IsLive None = Unit {0}
IsLive (Some w) = IsReached system w × AreServing w
