-- The table's ranges are the grammar's.
use Rattle.std.proofs.Common.{arith}
use Rattle.oe_reasons.specs.Laws.{Ranges_are_the_grammars}

pub ranges_are_the_grammars : Ranges_are_the_grammars
ranges_are_the_grammars = record {
  opening = λ s ring. (
    λ h. (h.0.warehouses, h.0.customers, h.0.items, h.1),
    λ h. (record { warehouses = h.0; customers = h.1; items = h.2 }, h.3),
  );
  terminal = λ t. (λ h. h, λ h. h);
  payment = λ q. (
    λ h. (h.district, h.customer_district, h.customer, h.amount, h.stamp),
    λ h. record { district = h.0; customer_district = h.1; customer = h.2; amount = h.3; stamp = h.4 },
  );
  customer = λ n. (λ h. h, λ h. h);
  order = λ q. (
    λ h. (
      h.district,
      h.customer,
      h.stamp,
      omega (arith, h.count.0),
      omega (arith, h.count.1),
      λ k d below. let l = h.lines k d below in (l.supply, l.item, l.quantity),
    ),
    λ h. record {
      district = h.0;
      customer = h.1;
      stamp = h.2;
      count = (omega (arith, h.3), omega (arith, h.4));
      lines = λ k d below. let l = h.5 k d below in record { supply = l.0; item = l.1; quantity = l.2 };
    },
  );
  delivery = λ q. (
    λ h. (h.district, h.carrier, h.stamp),
    λ h. record { district = h.0; carrier = h.1; stamp = h.2 },
  );
  deliveries = λ q. (
    λ h. (h.warehouse, h.carrier, h.stamp),
    λ h. record { warehouse = h.0; carrier = h.1; stamp = h.2 },
  );
  rename = λ q. (
    λ h. (h.district, h.customer, h.last, h.first),
    λ h. record { district = h.0; customer = h.1; last = h.2; first = h.3 },
  );
  level = λ q. (λ h. h, λ h. h);
  at_moment = λ m. (λ h. (omega arith, h), λ h. h.1);
}
