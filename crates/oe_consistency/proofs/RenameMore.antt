-- A rename keeps conditions 5 to 10 and 12.
use Rattle.std.proofs.Common.{◌≡◌, subst, ap, ◌∙◌, false, Some, inl, inr}
use Rattle.std.specs.Prelude.{◌⊎◌}
use Rattle.std.specs.Ordering.{eq_by_cmp}
use Rattle.std.specs.FinMap.{get, insert}
use Rattle.oe_rows.specs.Key.{customer_cmp}
use Rattle.oe_rows.specs.declared.customers.Customer.{Customer}
use Rattle.oe_requests.specs.declared.requests.RenameRequest.{RenameRequest}
use Rattle.oe_requests.specs.declared.replies.Reply.{Reply}
use Rattle.oe_rows.proofs.KeyFacts.{customer_total, exact_customer}
use Rattle.oe_model.specs.Rows.{Rows}
use Rattle.oe_model.specs.Rename.{with_new_name, rename_effect}
use Rattle.oe_model.specs.FurtherConditions.{Condition_10, Condition_12, Condition_10_at, Condition_12_at, More}
use Rattle.oe_model.proofs.EffectFacts.{there, made_by}
use Rattle.oe_model.proofs.PresenceFacts.{own_or_old}

module _ (q : RenameRequest) (r : Rows) (more : More r) (u : Customer)
    (u_at : get r.customers q.customer ≡ Some u) where
  abbrev made : Rows
  made = record r { customers = insert r.customers q.customer (with_new_name q u) }

  made_10 : Condition_10 made
  made_10 j x e = go (own_or_old customer_total exact_customer r.customers q.customer (with_new_name q u) j x e)
    where
      go : ((j ≡ q.customer) × (with_new_name q u ≡ x))
          ⊎ ((eq_by_cmp customer_cmp j q.customer ≡ false) × (get r.customers j ≡ Some x)) → Condition_10_at made j x
      go (inl h) = subst (λ (y : Customer). Condition_10_at made j y) h.1
          (more.condition_10 j u (ap (get r.customers) h.0 ∙ u_at))
      go (inr h) = more.condition_10 j x h.1

  made_12 : Condition_12 made
  made_12 j x e = go (own_or_old customer_total exact_customer r.customers q.customer (with_new_name q u) j x e)
    where
      go : ((j ≡ q.customer) × (with_new_name q u ≡ x))
          ⊎ ((eq_by_cmp customer_cmp j q.customer ≡ false) × (get r.customers j ≡ Some x)) → Condition_12_at made j x
      go (inl h) = subst (λ (y : Customer). Condition_12_at made j y) h.1
          (more.condition_12 j u (ap (get r.customers) h.0 ∙ u_at))
      go (inr h) = more.condition_12 j x h.1

  pub made_more : More made
  made_more = record {
    condition_5 = more.condition_5;
    condition_6 = more.condition_6;
    condition_7 = more.condition_7;
    condition_8 = more.condition_8;
    condition_9 = more.condition_9;
    condition_10 = made_10;
    condition_12 = made_12;
  }

pub rename_more : (q : RenameRequest) (r after : Rows) (y : Reply) → More r → rename_effect q r ≡ Some (after, y)
    → More after
rename_more q r after y more e = there (More after) (get r.customers q.customer) _ _ e (λ u u_at e.
    subst More (made_by (made q r more u u_at) after _ y e) (made_more q r more u u_at))
