-- The record of a write is one of its log's layout.
use Rattle.std.proofs.Common.{◌≡◌, subst, Some}
use Rattle.oe_theory.proofs.Sets.{some_inj}
use Rattle.oe_rows.specs.declared.layouts.Layout.{Layout}
use Rattle.oe_rows.specs.declared.layouts.Layout.TheVariants.{WholeRows, ChangedColumns}
use Rattle.oe_model.specs.Changes.{Record}
use Rattle.oe_layout.specs.Records.{IsOfLayout}

-- of an insert or a delete it is the same in both
own_of : (l : Layout) (a b : Record) → IsOfLayout WholeRows a → IsOfLayout ChangedColumns a → Some a ≡ Some b
    → IsOfLayout l b
own_of WholeRows a b w c e = subst (λ (z : Record). IsOfLayout WholeRows z) (some_inj a b e) w
own_of ChangedColumns a b w c e = subst (λ (z : Record). IsOfLayout ChangedColumns z) (some_inj a b e) c
