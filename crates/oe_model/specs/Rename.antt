-- A rename: a customer gets another last and first name. It is none of the standard's transactions.
use Rattle.std.specs.Prelude.{◌≡◌, ℕ, List, [], ◌∷◌, Option, None, Some}
use Rattle.std.specs.FinMap.{get, insert}
use Rattle.oe_theory.specs.Machine.{Exclusive, Ask, Stop, Plain, Take, Go, Ready, Hold}
use Rattle.oe_rows.specs.declared.keys.CustomerKey.{CustomerKey}
use Rattle.oe_rows.specs.declared.customers.Customer.{Customer}
use Rattle.oe_rows.specs.declared.locks.Name.{Name}
use Rattle.oe_rows.specs.declared.locks.Name.TheVariants as name
use Rattle.oe_requests.specs.declared.requests.RenameRequest.{RenameRequest}
use Rattle.oe_requests.specs.declared.replies.RenameReply.{RenameReply}
use Rattle.oe_requests.specs.declared.replies.Reply.{Reply}
use Rattle.oe_requests.specs.declared.replies.Reply.TheVariants as reply
use Rattle.oe_requests.specs.declared.refusals.Refusal.{Refusal}
use Rattle.oe_requests.specs.declared.refusals.Refusal.TheVariants.{NoCustomer}
use Rattle.oe_model.specs.Keys.{district_of_customer}
use Rattle.oe_model.specs.Rows.{Rows}
use Rattle.oe_model.specs.Changes.{UpdateCustomer}
use Rattle.oe_model.specs.Locks.{hold}
use Rattle.oe_model.specs.Positions.{RenamePosition, RenameCustomer, RenameOld, RenameNew, RenameEnd, InRename}
use Rattle.oe_model.specs.Effects.{◌>>=◌, Doing, with_value}

-- the customer with other names: C_LAST and C_FIRST
abbrev pub with_names : List ℕ → List ℕ → Customer → Customer
with_names last first x = record x { name = record x.name { last = last; first = first } }

abbrev pub with_new_name : RenameRequest → Customer → Customer
with_new_name q x = with_names q.last q.first x

abbrev pub rename_reply : RenameRequest → RenameReply
rename_reply q = record { customer = q.customer.customer; last = q.last; first = q.first }

-- the whole effect
abbrev pub rename_effect : RenameRequest → Rows → Option (Rows × Reply)
rename_effect q r = do
  x ← get r.customers q.customer
  Some (
    record r { customers = insert r.customers q.customer (with_new_name q x) },
    reply.Rename (rename_reply q),
  )

-- the customer is there, with that C_LAST
abbrev pub HasLast : CustomerKey → List ℕ → Rows → Type 0
HasLast k last r = (x : Customer) × (get r.customers k ≡ Some x) × (x.name.last ≡ last)

-- who of the customer's district has a last name lies under this lock
abbrev pub names_of : CustomerKey → List ℕ → Name
names_of k last = name.Names (district_of_customer k) last

-- the program: the lock of each stage
abbrev pub rename_ask : RenameRequest → RenamePosition → Rows → Ask Name Refusal
rename_ask q RenameCustomer r =
    elim (get r.customers q.customer) [ None ↦ Stop NoCustomer | Some x ↦ Take (name.Customer q.customer) Exclusive ]
rename_ask q (RenameOld last) r = Take (names_of q.customer last) Exclusive
rename_ask q (RenameNew last) r = Take (names_of q.customer q.last) Exclusive
rename_ask q (RenameEnd last) r = Plain

-- the work of each stage
abbrev pub rename_act : RenameRequest → RenamePosition → Rows → Doing
rename_act q RenameCustomer r = with_value NoCustomer (get r.customers q.customer) (λ x.
    Go None (InRename q (RenameOld x.name.last)))
rename_act q (RenameOld last) r = Go None (InRename q (RenameNew last))
rename_act q (RenameNew last) r = with_value NoCustomer (get r.customers q.customer) (λ x.
    Go (Some (UpdateCustomer q.customer (with_new_name q x))) (InRename q (RenameEnd last)))
rename_act q (RenameEnd last) r = Ready (reply.Rename (rename_reply q))

-- the locks that were taken before each stage, the last one first
abbrev pub rename_taken : RenameRequest → RenamePosition → List (Hold Name)
rename_taken q position =
    let one = hold (name.Customer q.customer) Exclusive ∷ [] in
    let two = λ (last : List ℕ). hold (names_of q.customer last) Exclusive ∷ one in
    elim position [
      | RenameCustomer ↦ []
      | RenameOld last ↦ one
      | RenameNew last ↦ two last
      | RenameEnd last ↦ hold (names_of q.customer q.last) Exclusive ∷ two last
    ]
