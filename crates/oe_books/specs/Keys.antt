-- The numbers of a key, from the left.
use Rattle.std.specs.Prelude.{ℕ, ◌*◌, List, [], ◌∷◌}
use Rattle.oe_facts.specs.declared.keys.DistrictId.{DistrictId}
use Rattle.oe_facts.specs.declared.keys.CustomerId.{CustomerId}
use Rattle.oe_facts.specs.declared.keys.OrderId.{OrderId}
use Rattle.oe_facts.specs.declared.keys.StockId.{StockId}
use Rattle.oe_line_numbers.specs.declared.numbers.LineBlock.{LineBlock}

abbrev pub of_number : ℕ → List ℕ
of_number n = n ∷ []

abbrev pub of_district : DistrictId → List ℕ
of_district k = k.warehouse ∷ k.district ∷ []

abbrev pub of_customer : CustomerId → List ℕ
of_customer k = k.warehouse ∷ k.district ∷ k.customer ∷ []

abbrev pub of_order : OrderId → List ℕ
of_order k = k.warehouse ∷ k.district ∷ k.order ∷ []

abbrev pub of_stock : StockId → List ℕ
of_stock k = k.warehouse ∷ k.item ∷ []

-- an order, and the first of 64 OL_NUMBERs
abbrev pub of_block : LineBlock → List ℕ
of_block k = k.order.warehouse ∷ k.order.district ∷ k.order.order ∷ k.block * 64 ∷ []
