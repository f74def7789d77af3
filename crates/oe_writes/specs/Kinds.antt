-- What tells the kinds of writes apart.
use Rattle.std.specs.Prelude.{Bool, true, false}
use Rattle.oe_change.specs.declared.writes.Write.{Write}
use Rattle.oe_change.specs.declared.writes.Write.TheVariants.{CustomerNames, InsertHistory, InsertNewOrder}
use Rattle.oe_change.specs.declared.writes.Write.TheVariants.{InsertOrder, InsertOrderLine}

-- a write gives a customer other names
abbrev pub is_rename : Write → Bool
is_rename (CustomerNames k last first) = true
is_rename _ = false

-- it inserts no row, and leaves customers their names
abbrev pub IsPlain : Write → Type 0
IsPlain (CustomerNames k last first) = ⊥
IsPlain (InsertHistory k x) = ⊥
IsPlain (InsertNewOrder k) = ⊥
IsPlain (InsertOrder k x) = ⊥
IsPlain (InsertOrderLine k x) = ⊥
IsPlain _ = Unit {0}
