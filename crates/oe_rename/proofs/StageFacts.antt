-- What the stages of a rename ask for and do, of the rows as they are.
use Rattle.std.proofs.Common.{◌≡◌, ℕ, suc, refl, sym, ap, subst, ◌∙◌, inl, inr, cond, List, Option, None, Some}
use Rattle.std.specs.Prelude.{option_map}
use Rattle.std.specs.FinMap.{get}
use Rattle.oe_theory.specs.Machine.{Ask, Stop, Take, Go, Exclusive}
use Rattle.oe_theory.specs.Machine as theory
use Rattle.oe_theory.specs.Next.{held_after}
use Rattle.oe_theory.proofs.Sets.{some_inj}
use Rattle.oe_rows.specs.declared.locks.Name.{Name}
use Rattle.oe_rows.specs.declared.locks.Name.TheVariants as name
use Rattle.oe_rows.specs.declared.customers.Customer.{Customer}
use Rattle.oe_requests.specs.declared.requests.RenameRequest.{RenameRequest}
use Rattle.oe_requests.specs.declared.requests.Request.TheVariants as request
use Rattle.oe_requests.specs.declared.replies.Reply.{Reply}
use Rattle.oe_requests.specs.declared.replies.Reply.TheVariants as reply
use Rattle.oe_requests.specs.declared.refusals.Refusal.{Refusal}
use Rattle.oe_requests.specs.declared.refusals.Refusal.TheVariants.{NoCustomer}
use Rattle.oe_model.specs.Changes.{UpdateCustomer}
use Rattle.oe_model.specs.Effects.{Doing, with_value}
use Rattle.oe_model.specs.Positions.{RenameCustomer, RenameOld, RenameNew, RenameEnd, InRename}
use Rattle.oe_model.specs.Rename.{HasLast, with_new_name, rename_reply, rename_taken, names_of}
use Rattle.oe_model.specs.System.{system}
use Rattle.oe_model.proofs.SystemLaws.{name_refl}
use Rattle.oe_change.specs.declared.writes.Write.TheVariants as write
use Rattle.oe_engine.specs.View.{EngineState, View, view_of, Handle, IsOpen}
use Rattle.oe_engine.specs.Stages.{HoldsAll}
use Rattle.oe_engine.specs.Writes.{change_written, MayWrite}
use Rattle.oe_engine.specs.Programs.{ask_here, act_here, IsReady}
use Rattle.oe_engine.proofs.SafeFacts.{still_exclusive}
use Rattle.oe_rename.specs.Program.{position_of, HasEnded}
use Rattle.oe_rename.specs.declared.programs.Program.{Program}
use Rattle.oe_rename.specs.declared.programs.Program.TheVariants as program
use Rattle.oe_engine.proofs.HeldFacts.{alone}

-- the customer's name and the old last name are held alone before the names are set, and the new name once its lock is
-- taken
pub may_set : (v : View) (t : ℕ) (q : RenameRequest) (last : List ℕ) → HasLast q.customer last v.rows
    → HoldsAll v t (rename_taken q (RenameNew last))
    → MayWrite v.rows (held_after system (Take (names_of q.customer q.last) Exclusive) (v.held t)) t (suc (v.counts t))
    (write.CustomerNames q.customer q.last q.first)
may_set v t q last stands h = (
  alone (v.held t (name.Customer q.customer)) (h (name.Customer q.customer) theory.Exclusive (inr (inl (refl, tt)))),
  (
    ap (λ b. cond b (Some theory.Exclusive) (v.held t (names_of q.customer q.last)))
        (name_refl (names_of q.customer q.last)),
    λ x there.
        let same : stands.0 ≡ x = some_inj _ _ (sym stands.1 ∙ there) in
        let is : last ≡ x.name.last = sym stands.2 ∙ ap (λ (z : Customer). z.name.last) same in
        still_exclusive (v.held t) (names_of q.customer q.last) theory.Exclusive (names_of q.customer x.name.last)
        (subst (λ l. v.held t (names_of q.customer l) ≡ Some theory.Exclusive) is
        (alone (v.held t (names_of q.customer last)) (h (names_of q.customer last) theory.Exclusive (inl (refl, tt))))),
  ),
)

pub is_ready : (s : EngineState) (x : Handle) (q : RenameRequest) (p : Program) → IsOpen s x → HasEnded p
    → (y : Reply) × IsReady s x (request.Rename q) (InRename q (position_of p)) y
is_ready s x q (program.End last) o h =
    (reply.Rename (rename_reply q), record { is_open = o; free = tt; does = refl })
is_ready s x q program.Customer o h = absurd h
is_ready s x q (program.OldName last) o h = absurd h
is_ready s x q (program.NewName last) o h = absurd h

module _ (q : RenameRequest) (x : Handle) (s : EngineState) where
  -- the lock of a customer who is there
  abbrev lock_of : Option Customer → Ask Name Refusal
  lock_of o = elim o [ None ↦ Stop NoCustomer | Some y ↦ Take (name.Customer q.customer) Exclusive ]

  abbrev read_name : Customer → Doing
  read_name y = Go None (InRename q (RenameOld y.name.last))

  abbrev set_name : List ℕ → Customer → Doing
  set_name last y = Go (Some (UpdateCustomer q.customer (with_new_name q y))) (InRename q (RenameEnd last))

  pub absent_stops : get (view_of s).rows.customers q.customer ≡ None
      → ask_here s x (request.Rename q) (InRename q RenameCustomer) ≡ Stop NoCustomer
  absent_stops e = ap lock_of e

  module _ (y : Customer) (here : get (view_of s).rows.customers q.customer ≡ Some y) where
    pub customer_asks : ask_here s x (request.Rename q) (InRename q RenameCustomer) ≡ Take (name.Customer q.customer)
        Exclusive
    customer_asks = ap lock_of here

    pub customer_reads : act_here s x (request.Rename q) (InRename q RenameCustomer) ≡ Go None
        (InRename q (RenameOld y.name.last))
    customer_reads = ap (λ o. with_value NoCustomer o read_name) here

    pub names_written : (last first : List ℕ) → last ≡ q.last → first ≡ q.first
        → change_written (write.CustomerNames q.customer last first) (view_of s)
        ≡ Some (UpdateCustomer q.customer (with_new_name q y))
    names_written last first same_last same_first =
        ap (λ (l : List ℕ). change_written (write.CustomerNames q.customer l first) (view_of s)) same_last
        ∙ ap (λ (f : List ℕ). change_written (write.CustomerNames q.customer q.last f) (view_of s)) same_first
        ∙ ap (option_map (λ z. UpdateCustomer q.customer (with_new_name q z))) here

    pub names_set : (last : List ℕ) → act_here s x (request.Rename q) (InRename q (RenameNew last)) ≡ Go
        (Some (UpdateCustomer q.customer (with_new_name q y))) (InRename q (RenameEnd last))
    names_set last = ap (λ o. with_value NoCustomer o (set_name last)) here
