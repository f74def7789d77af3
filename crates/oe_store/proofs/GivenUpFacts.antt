-- Which keys have places where one of them gives up its own.
use Rattle.std.proofs.Common.{◌≡◌, refl, sym, ◌∙◌, ap, subst, true, false, Bool, cond, List, Option, Some, None}
use Rattle.std.specs.Prelude.{◌↔◌, IsSome}
use Rattle.std.specs.Ordering.{is_eq}
use Rattle.std.specs.declared.cmp.Ordering.{Ordering}
use Rattle.std.specs.Cmp.{IsTotalOrder, eq_by_cmp_equiv}
use Rattle.std.specs.FinMap.{IsAntisymmetric, get}
use Rattle.oe_rows.specs.Key.{new_order_cmp}
use Rattle.oe_rows.specs.declared.keys.NewOrderKey.{NewOrderKey}
use Rattle.oe_rows.specs.declared.keys.Key.TheVariants as key
use Rattle.oe_rows.specs.declared.orders.NewOrder.{NewOrder}
use Rattle.oe_rows.specs.declared.rows.Row.TheVariants as row
use Rattle.oe_rows.proofs.KeyFacts.{new_order_total, exact_new_order}
use Rattle.oe_table.specs.Table.{place, rows_of, left_of, GivesUpPlace}
use Rattle.oe_table.proofs.TableFacts.{row_in, get-rows_of, tied}
use Rattle.oe_model.proofs.PresenceFacts.{some-map}
use Rattle.oe_store.specs.Places.{Places, GivesUp}

-- a place is left where there is a row in it
pub row_is_left : {R : Type 0} (p : Option (Option R)) → IsSome (row_in p) → IsSome (left_of p)
row_is_left None h = h
row_is_left (Some None) h = h
row_is_left (Some (Some x)) h = refl

pub left_is_row : {R : Type 0} (p : Option (Option R)) → IsSome (left_of p) → IsSome p × IsSome (row_in p)
left_is_row None h = (h, h)
left_is_row (Some None) h = (refl, h)
left_is_row (Some (Some x)) h = (refl, refl)

module _ {K R : Type 0} {cmp : K → K → Ordering} (total : IsTotalOrder cmp) (exact : IsAntisymmetric cmp) where
  less_at : (old new : List (K × Option R)) (k q : K) (b : Bool) → is_eq (cmp k q) ≡ b
      → place cmp new q ≡ cond b (left_of (place cmp old k)) (place cmp old q)
      → IsSome (place cmp new q) ↔ (IsSome (place cmp old q) × (q ≡ k → IsSome (get (rows_of cmp old) q)))
  less_at old new k q true at is =
      let own : k ≡ q = exact k q (tied (cmp k q) at) in
      let left : place cmp new q ≡ left_of (place cmp old q) = is ∙ ap (λ (y : K). left_of (place cmp old y)) own in (
        (λ h. let kept = left_is_row (place cmp old q) (subst IsSome left h) in
            (kept.0, λ e. subst IsSome (sym (get-rows_of total old q)) kept.1)),
        (λ h. subst IsSome (sym left)
            (row_is_left (place cmp old q) (subst IsSome (get-rows_of total old q) (h.1 (sym own))))),
      )
  less_at old new k q false at is =
      let apart : q ≡ k → ⊥ =
      λ e. let same : is_eq (cmp k q) ≡ true = ap (λ (y : K). is_eq (cmp k y)) e ∙ (eq_by_cmp_equiv total).refl k in
      (let no : ⊥ = cc in no) in
      ((λ h. (subst IsSome is h, λ e. absurd (apart e))), (λ h. subst IsSome (sym is) h.0))

  -- one key less may have a place
  one_less : (old new : List (K × Option R)) (k : K) → GivesUpPlace cmp old new k → (q : K)
      → IsSome (place cmp new q) ↔ (IsSome (place cmp old q) × (q ≡ k → IsSome (get (rows_of cmp old) q)))
  one_less old new k gives q = less_at old new k q (is_eq (cmp k q)) refl (gives q)

pub gave_up_new_order : (s : Places) (new : List (NewOrderKey × Option NewOrder)) (k : NewOrderKey)
    → GivesUpPlace new_order_cmp s.new_orders new k → GivesUp s (record s { new_orders = new }) (key.NewOrder k)
gave_up_new_order s new k gives (key.NewOrder q) =
    let less = one_less new_order_total exact_new_order s.new_orders new k gives q in
    let mapped = some-map row.NewOrder (get (rows_of new_order_cmp s.new_orders) q) in (
      (λ h. let kept = less.0 h in (kept.0, λ e. mapped ∙ kept.1 (let own : q ≡ k = cc in own))),
      (λ h. less.1 (h.0, λ e. sym mapped ∙ h.1 (ap key.NewOrder e))),
    )
gave_up_new_order s new k gives _ = ((λ h. (h, λ e. absurd (let no : ⊥ = cc in no))), (λ h. h.0))
