-- What room the transactions of a drive need in its undo extents.
use Rattle.std.specs.Prelude.{ℕ, suc, ◌*◌, ◌/◌, ◌<◌}
use Rattle.oe_theory.specs.World.{total}
use Rattle.oe_terms.specs.declared.errands.Kind.{Kind}
use Rattle.oe_terms.specs.declared.errands.Kind.TheVariants as kind
use Rattle.oe_terms.specs.Errands.{kind_of}
use Rattle.oe_numbers.specs.declared.drives.DriveNumbers.{DriveNumbers}

-- an errand is one transaction, or a query
abbrev pub transactions_of : Kind → ℕ
transactions_of kind.NewOrder = 1
transactions_of kind.Payment = 1
transactions_of kind.OrderStatus = 0
transactions_of kind.Delivery = 1
transactions_of kind.StockLevel = 0

-- how many extents it fills at most, where undo records keep changed columns: a delivery is of ten districts
abbrev pub most_extents_of : Kind → ℕ
most_extents_of kind.NewOrder = 1
most_extents_of kind.Payment = 1
most_extents_of kind.OrderStatus = 0
most_extents_of kind.Delivery = 2
most_extents_of kind.StockLevel = 0

-- of a terminal's first errands
abbrev pub transactions_by : ℕ → ℕ
transactions_by n = total n (λ r. transactions_of (kind_of (suc r)))

abbrev pub most_extents_by : ℕ → ℕ
most_extents_by n = total n (λ r. most_extents_of (kind_of (suc r)))

-- of all terminals
abbrev pub asked_in : DriveNumbers → ℕ
asked_in d = d.terminals * transactions_by d.requests

abbrev pub most_extents_in : DriveNumbers → ℕ
most_extents_in d = d.terminals * most_extents_by d.requests

-- the transactions may fill more extents than there are
abbrev pub MayOverfill : DriveNumbers → Type 0
MayOverfill d = d.extents < most_extents_in d

-- how many then have room, where all fill as many as they may
abbrev pub kept_in : DriveNumbers → ℕ
kept_in d = d.extents * asked_in d / most_extents_in d
