-- A query of a moment is answered as by a step of the world, which stays as it is.
use Rattle.std.proofs.Common.{◌≡◌, ℕ, ◌≤◌, ◌<◌, cond, Bool, true, false, List, [], ◌∷◌, Option, Some, None}
use Rattle.std.proofs.Common.{refl, sym, ap, subst, ◌∙◌}
use Rattle.std.specs.Prelude.{is_some, count_by}
use Rattle.std.specs.FinMap.{get, entries}
use Rattle.oe_theory.specs.Machine.{Outcome, Here, Missing}
use Rattle.oe_theory.specs.Next.{Read, Answer, Replied, Rejected, Too_old, Future}
use Rattle.oe_theory.specs.Store.{version_of, horizon_of, newest_of}
use Rattle.oe_rows.specs.declared.keys.Key.TheVariants as key
use Rattle.oe_rows.specs.declared.customers.Customer.{Customer}
use Rattle.oe_rows.specs.declared.districts.District.{District}
use Rattle.oe_requests.specs.declared.requests.Query.{Query}
use Rattle.oe_requests.specs.declared.requests.Query.TheVariants.{Status, Level}
use Rattle.oe_requests.specs.declared.replies.QueryReply.{QueryReply}
use Rattle.oe_requests.specs.declared.replies.QueryReply.TheVariants as told
use Rattle.oe_requests.specs.declared.refusals.Refusal.{Refusal}
use Rattle.oe_requests.specs.declared.refusals.Refusal.TheVariants as refusal
use Rattle.oe_requests.specs.declared.steps.Step.TheVariants as step
use Rattle.oe_model.specs.Rows.{Rows, row_at}
use Rattle.oe_model.specs.Requests.{warehouse_no, first_absent, query_rejection}
use Rattle.oe_model.specs.Keys.{customer_in}
use Rattle.oe_model.specs.Choice.{customer_meant}
use Rattle.oe_model.specs.Queries.{reply_with, last_order, status_of, recent_lines, is_low, answer_of}
use Rattle.oe_model.specs.System.{system}
use Rattle.oe_engine.specs.View.{view_of, view_from}
use Rattle.oe_log.specs.Moments.{IsKeptMoment, IsUnkept, horizon, newest}
use Rattle.oe_versions.specs.Versions.{VersionState, rows_of}
use Rattle.oe_core.specs.Core.{CoreState, store_of, IsOrderly, Moves}
use Rattle.oe_machine.specs.Steps.{refusal_in}
use Rattle.oe_core.proofs.MoveFacts.{standing, stays, the_steps}
use Rattle.oe_core.proofs.LentFacts.{IsLent}

found_here : (s : CoreState) (m : ℕ) (q : Query) (v : VersionState) → IsLent s m v → (a : Outcome QueryReply Refusal)
    → answer_of q (rows_of v) ≡ a → answer_of q (version_of system (store_of s) m) ≡ a
unfolding view_of view_from
found_here s m q v is a h = ap (λ (x : VersionState). answer_of q (rows_of x)) (sym is) ∙ h

-- what is said of the version that the engine lends is said of the store
module _ (s : CoreState) (o : IsOrderly s) (m : ℕ) (q : Query) where
  module _ (there : query_rejection q (view_of s.engine).rows ≡ None) where
    pub replied_here : (v : VersionState) → IsLent s m v → IsKeptMoment s.engine.undo m → (f : QueryReply)
        → answer_of q (rows_of v) ≡ Here f → Moves s (Read m q) (Replied f) s
    unfolding view_of view_from
    replied_here v is kept f h =
        stays s o (Read m q) (Replied f)
        (the_steps.reads (store_of s) m q f (standing s o) there kept.old kept.new (found_here s m q v is (Here f) h))

    missed : (v : VersionState) → IsLent s m v → IsKeptMoment s.engine.undo m → (e : Refusal)
        → answer_of q (rows_of v) ≡ Missing e → Moves s (Read m q) (Rejected e) s
    unfolding view_of view_from
    missed v is kept e h =
        stays s o (Read m q) (Rejected e)
        (the_steps.misses (store_of s) m q e (standing s o) there kept.old kept.new
        (found_here s m q v is (Missing e) h))

    too_old : (h : ℕ) → h ≡ horizon s.engine.undo → m < h → Moves s (Read m q) (Too_old h) s
    unfolding view_of view_from
    too_old h at less =
        subst (λ (n : ℕ). Moves s (Read m q) (Too_old n) s) (sym at)
        (stays s o (Read m q) (Too_old (horizon_of system (store_of s)))
        (the_steps.is_too_old (store_of s) (Read m q) m (standing s o) refl there
        (subst (λ (n : ℕ). m < n) at less)))

    future : (n : ℕ) → n ≡ newest s.engine.undo → n < m → Moves s (Read m q) (Future n) s
    unfolding view_of view_from
    future n at less =
        subst (λ (z : ℕ). Moves s (Read m q) (Future z) s) (sym at)
        (stays s o (Read m q) (Future (newest_of system (store_of s)))
        (the_steps.is_future (store_of s) (Read m q) m (standing s o) refl there
        (subst (λ (z : ℕ). z < m) at less)))

    pub outside_here : (e : Refusal) → IsUnkept s.engine.undo m e
        → Moves s (Read m q) (refusal_in (step.Read m q) e) s
    outside_here (refusal.TooOld h) i = too_old h i.0 i.1
    outside_here (refusal.Future n) i = future n i.0 i.1
    outside_here _ i = absurd i

  turned_away : (e : Refusal) → query_rejection q (view_of s.engine).rows ≡ Some e → Moves s (Read m q) (Rejected e) s
  unfolding view_of view_from
  turned_away e h = stays s o (Read m q) (Rejected e)
      (the_steps.query_is_rejected (store_of s) m q e (standing s o) h)

  abbrev AsRejected : Refusal → Type 0
  AsRejected e = refusal_in (step.Read m q) e ≡ Rejected e

  absent_is : (ws : List ℕ) (r : Rows) (e : Refusal) → first_absent ws r ≡ Some e → AsRejected e
  absent_is [] r e h = let no : ⊥ = cc in absurd no
  absent_is (w ∷ ws) r e h = go (is_some (row_at r (key.Warehouse (warehouse_no w)))) (absent_is ws r e) h
    where
      go : (b : Bool) → (first_absent ws r ≡ Some e → AsRejected e)
          → cond b (first_absent ws r) (Some (refusal.NoSuchRow (key.Warehouse (warehouse_no w)))) ≡ Some e
          → AsRejected e
      go true f g = f g
      go false f g = let it : refusal.NoSuchRow (key.Warehouse (warehouse_no w)) ≡ e = cc in subst AsRejected it refl

  rejection_is : (p : Query) (r : Rows) (e : Refusal) → query_rejection p r ≡ Some e → AsRejected e
  rejection_is (Status p) r e h = absent_is (p.district.warehouse ∷ []) r e h
  rejection_is (Level p) r e h = absent_is (p.district.warehouse ∷ []) r e h

  told_is : {A : Type 0} (d : Refusal) (o : Option A) (k : A → QueryReply) (e : Refusal) → AsRejected d
      → reply_with d o (λ x. Here (k x)) ≡ Missing e → AsRejected e
  told_is d None k e t h = let it : d ≡ e = cc in subst AsRejected it t
  told_is d (Some x) k e t h = let no : ⊥ = cc in absurd no

  chosen_is : (o : Option ℕ) (at : ℕ → Option Customer) (k : ℕ → Customer → QueryReply) (e : Refusal)
      → reply_with refusal.NoCustomer o (λ c. reply_with refusal.NoCustomer (at c) (λ x. Here (k c x))) ≡ Missing e
      → AsRejected e
  chosen_is None at k e h = let it : refusal.NoCustomer ≡ e = cc in subst AsRejected it refl
  chosen_is (Some c) at k e h = told_is {A = Customer} refusal.NoCustomer (at c) (k c) e refl h

  nothing_is : (p : Query) (r : Rows) (e : Refusal) → answer_of p r ≡ Missing e → AsRejected e
  nothing_is (Status p) r e h =
      chosen_is (customer_meant p.district p.customer r.customers) (λ c. get r.customers (customer_in p.district c))
      (λ c x. told.Status (record {
        customer = c;
        balance = x.account.balance;
        order = status_of r.order_lines (last_order (customer_in p.district c) r.orders);
      })) e h
  nothing_is (Level p) r e h =
      told_is {A = District} (refusal.NoSuchRow (key.District p.district)) (get r.districts p.district)
      (λ x. told.Level (count_by (is_low p (recent_lines p.district x.next_order r.order_lines)) (entries r.stocks))) e
      refl h

  pub rejected_here : (e : Refusal) → query_rejection q (view_of s.engine).rows ≡ Some e
      → Moves s (Read m q) (refusal_in (step.Read m q) e) s
  rejected_here e h = subst (λ (a : Answer system). Moves s (Read m q) a s) (sym (rejection_is q _ e h))
      (turned_away e h)

  pub missing_here : query_rejection q (view_of s.engine).rows ≡ None → (v : VersionState) → IsLent s m v
      → IsKeptMoment s.engine.undo m → (e : Refusal) → answer_of q (rows_of v) ≡ Missing e
      → Moves s (Read m q) (refusal_in (step.Read m q) e) s
  missing_here there v is kept e h = subst (λ (a : Answer system). Moves s (Read m q) a s) (sym (nothing_is q _ e h))
      (missed there v is kept e h)
