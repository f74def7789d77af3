-- A rename's program, run alone, has the whole effect, which keeps what holds between transactions.
use Rattle.std.proofs.Common.{◌≡◌, ℕ, refl, sym, ap, subst, Some, None}
use Rattle.std.specs.Prelude.{is_some}
use Rattle.std.specs.FinMap.{get, insert}
use Rattle.oe_theory.specs.Machine.{Exclusive, Go, Tx}
use Rattle.oe_theory.specs.World.{bump}
use Rattle.oe_theory.specs.Laws.{ends_here, goes_here}
use Rattle.oe_rows.specs.declared.customers.Customer.{Customer}
use Rattle.oe_rows.specs.declared.locks.Name.TheVariants as name
use Rattle.oe_requests.specs.declared.requests.RenameRequest.{RenameRequest}
use Rattle.oe_requests.specs.declared.requests.Request.{Request}
use Rattle.oe_requests.specs.declared.replies.Reply.{Reply}
use Rattle.oe_requests.specs.declared.replies.Reply.TheVariants as reply
use Rattle.oe_requests.specs.declared.refusals.Refusal.TheVariants.{NoCustomer}
use Rattle.oe_model.specs.Rows.{Rows}
use Rattle.oe_model.specs.Changes.{UpdateCustomer}
use Rattle.oe_model.specs.Meets.{Meets}
use Rattle.oe_model.specs.Conditions.{Good, IsStocked}
use Rattle.oe_model.specs.Effects.{with_value, Doing}
use Rattle.oe_model.specs.Positions.{Position, InRename, RenameCustomer, RenameOld, RenameNew, RenameEnd}
use Rattle.oe_model.specs.Requests.{RenameMayRefuse}
use Rattle.oe_model.specs.Rename.{with_new_name, rename_reply, rename_effect}
use Rattle.oe_model.proofs.EffectFacts.{there, made_by}
use Rattle.oe_model.proofs.StepFacts.{EndsSo, ends_found}
use Rattle.oe_model.proofs.DeliveryGood.{good_bump}

pub rename_ends : (x : Tx Request) (q : RenameRequest) (r : Rows)
    → EndsSo RenameMayRefuse x (InRename q RenameCustomer) r (rename_effect q r)
rename_ends x q r =
    let p0 : Position = InRename q RenameCustomer in
    ends_found RenameMayRefuse x p0 r NoCustomer NoCustomer (get r.customers q.customer) (λ _. name.Customer q.customer)
    Exclusive _ _ tt refl refl (λ u u_at k a.
    let p1 : Position = InRename q (RenameOld u.name.last) in
    let p2 : Position = InRename q (RenameNew u.name.last) in
    let p3 : Position = InRename q (RenameEnd u.name.last) in
    let r1 : Rows = record r { customers = insert r.customers q.customer (with_new_name q u) } in
    goes_here p0 r None p1 _ k a tt (
    goes_here p1 r None p2 _ tt refl tt (
    goes_here p2 r (Some (UpdateCustomer q.customer (with_new_name q u))) p3 _ tt
    (ap (λ o. with_value NoCustomer o (λ (y : Customer).
    let done : Doing = Go (Some (UpdateCustomer q.customer (with_new_name q y))) p3 in done)) u_at) (ap is_some u_at) (
    ends_here p3 r1 (reply.Rename (rename_reply q)) tt refl))))

pub rename_good : (f : ℕ → ℕ) (t : ℕ) (q : RenameRequest) (r after : Rows) (y : Reply) → Good f r → Meets after
    → IsStocked after → rename_effect q r ≡ Some (after, y) → Good (bump t f) after
rename_good f t q r after y g meets stocked e =
    there (Good (bump t f) after) (get r.customers q.customer) _ _ e (λ u _ e.
    let made : Rows = record r { customers = insert r.customers q.customer (with_new_name q u) } in
    let same : made ≡ after = made_by made after _ y e in
    good_bump f t after (subst (λ (v : Rows). Good f v) same (record {
      meets = subst (λ (v : Rows). Meets v) (sym same) meets;
      condition_1 = g.condition_1;
      condition_2 = λ h x e. let old = g.condition_2 h x e in
          record { orders = old.orders; new_orders = old.new_orders };
      condition_3 = g.condition_3;
      condition_4 = g.condition_4;
      stocked = subst (λ (v : Rows). IsStocked v) (sym same) stocked;
      unused = g.unused;
    })))
