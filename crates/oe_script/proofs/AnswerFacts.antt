-- Each step of today is answered, and so is each run of them.
use Rattle.std.proofs.Common.{◌≡◌, ℕ, zero, suc, ◌<◌, ◌≤◌, cond, Bool, true, false, Option, None, Some, List, [], ◌∷◌}
use Rattle.std.proofs.Common.{refl, sym, subst, inl, inr, arith}
use Rattle.std.specs.Prelude.{◌⊎◌, ◌≢◌, is_some, nat_le, count_by}
use Rattle.std.specs.FinMap.{get, entries}
use Rattle.std.proofs.lemmas.Bool.{cases_order}
use Rattle.oe_theory.specs.Machine.{Outcome, Here, Missing}
use Rattle.oe_theory.specs.World.{World, Open, at, horizon, newest, tables, number}
use Rattle.oe_theory.specs.Next as theory
use Rattle.oe_theory.specs.Next.{Next, Begin, Advance, Save, Back, Rollback, Read, Audit, Purge, Rewind, begins}
use Rattle.oe_theory.specs.Next.{goes_on, commits, saves, goes_back, rolls_back, reads, audits, purges, rewinds, stops}
use Rattle.oe_theory.specs.Next.{fails, is_busy, is_full, is_rejected, is_open, number_is_rejected, query_is_rejected}
use Rattle.oe_theory.specs.Next.{misses, not_open, too_old, future, not_quiet, lacks_memory}
use Rattle.oe_theory.specs.Theorems.{IsReached}
use Rattle.oe_theory.proofs.Theorems.{each_is_answered, abort_is_its_own}
use Rattle.oe_rows.specs.declared.keys.Key.TheVariants as key
use Rattle.oe_rows.specs.declared.customers.Customer.{Customer}
use Rattle.oe_rows.specs.declared.districts.District.{District}
use Rattle.oe_requests.specs.declared.refusals.Column.TheVariants as column
use Rattle.oe_requests.specs.declared.requests.Request.{Request}
use Rattle.oe_requests.specs.declared.requests.Request.TheVariants as request
use Rattle.oe_requests.specs.declared.requests.Query.{Query}
use Rattle.oe_requests.specs.declared.requests.Query.TheVariants as query
use Rattle.oe_requests.specs.declared.replies.QueryReply.{QueryReply}
use Rattle.oe_requests.specs.declared.replies.QueryReply.TheVariants as told
use Rattle.oe_requests.specs.declared.refusals.Refusal.{Refusal}
use Rattle.oe_requests.specs.declared.refusals.Refusal.TheVariants as refusal
use Rattle.oe_requests.specs.declared.steps.Step.{Step}
use Rattle.oe_requests.specs.declared.steps.Step.TheVariants as step
use Rattle.oe_requests.specs.declared.answers.Answer.{Answer}
use Rattle.oe_requests.specs.declared.answers.Answer.TheVariants as answer
use Rattle.oe_requests.specs.declared.audits.Condition.{Condition}
use Rattle.oe_requests.specs.declared.audits.Verdict.{Verdict}
use Rattle.oe_requests.specs.declared.audits.Verdict.TheVariants as verdict
use Rattle.oe_model.specs.Audits as model
use Rattle.oe_model.specs.Rows.{Rows, row_at}
use Rattle.oe_model.specs.Requests.{MayRefuse, PaymentMayRefuse, NewOrderMayRefuse, DeliveryMayRefuse, RenameMayRefuse}
use Rattle.oe_model.specs.Requests.{first_absent}
use Rattle.oe_model.specs.Requests.{rejection, query_rejection, number_rejection, warehouse_no, warehouses_of}
use Rattle.oe_model.specs.Keys.{customer_in}
use Rattle.oe_model.specs.Choice.{customer_meant}
use Rattle.oe_model.specs.Queries.{reply_with, last_order, status_of, recent_lines, is_low, answer_of}
use Rattle.oe_model.specs.System.{system, terminal_limit}
use Rattle.oe_model.proofs.SystemLaws.{laws}
use Rattle.oe_machine.specs.Verdict.{condition_of, verdict_of}
use Rattle.oe_machine.specs.Steps.{step_in, answer_in}
use Rattle.oe_script.specs.Script.{RunsIn}
use Rattle.oe_admission.specs.Programs.{IsLive}
use Rattle.oe_admission.proofs.LiveFacts.{left, falls, next_live}

-- the refusals that programs and requests come to
abbrev IsOwn : Refusal → Type 0
IsOwn (refusal.NoSuchRow k) = Unit {0}
IsOwn (refusal.Overflow c) = Unit {0}
IsOwn refusal.InvalidItem = Unit {0}
IsOwn refusal.NoCustomer = Unit {0}
IsOwn e = ⊥

own_abort : (t : ℕ) (e : Refusal) → IsOwn e → answer_in (step.Advance t) (answer.Refused e) ≡ theory.Aborted e
own_abort t (refusal.NoSuchRow k) h = refl
own_abort t (refusal.Overflow c) h = refl
own_abort t refusal.InvalidItem h = refl
own_abort t refusal.NoCustomer h = refl
own_abort t _ h = absurd h

own_rejection : (t : ℕ) (q : Request) (e : Refusal) → IsOwn e
    → answer_in (step.Begin t q) (answer.Refused e) ≡ theory.Rejected e
own_rejection t q (refusal.NoSuchRow k) h = refl
own_rejection t q (refusal.Overflow c) h = refl
own_rejection t q refusal.InvalidItem h = refl
own_rejection t q refusal.NoCustomer h = refl
own_rejection t q _ h = absurd h

of_payment : (e : Refusal) → PaymentMayRefuse e → IsOwn e
of_payment (refusal.Overflow c) h = tt
of_payment refusal.NoCustomer h = tt
of_payment _ h = absurd h

of_new_order : (e : Refusal) → NewOrderMayRefuse e → IsOwn e
of_new_order (refusal.Overflow c) h = tt
of_new_order refusal.InvalidItem h = tt
of_new_order refusal.NoCustomer h = tt
of_new_order _ h = absurd h

of_delivery : (e : Refusal) → DeliveryMayRefuse e → IsOwn e
of_delivery (refusal.Overflow c) h = tt
of_delivery _ h = absurd h

of_rename : (e : Refusal) → RenameMayRefuse e → IsOwn e
of_rename refusal.NoCustomer h = tt
of_rename _ h = absurd h

own_cause : (q : Request) (e : Refusal) → MayRefuse q e → IsOwn e
own_cause (request.Payment q) e h = of_payment e h
own_cause (request.NewOrder q) e h = of_new_order e h
own_cause (request.Delivery q) e h = of_delivery e h
own_cause (request.Deliveries q) e h = of_delivery e h
own_cause (request.Rename q) e h = of_rename e h

own_absent : (ws : List ℕ) (r : Rows) (e : Refusal) → first_absent ws r ≡ Some e → IsOwn e
own_absent [] r e h = let no : ⊥ = cc in absurd no
own_absent (w ∷ ws) r e h = by_test (is_some (row_at r (key.Warehouse (warehouse_no w)))) h (own_absent ws r e)
  where
    by_test : (b : Bool) → cond b (first_absent ws r) (Some (refusal.NoSuchRow (key.Warehouse (warehouse_no w)))) ≡ Some
        e → (first_absent ws r ≡ Some e → IsOwn e) → IsOwn e
    by_test true h rest = rest h
    by_test false h rest = let same : refusal.NoSuchRow (key.Warehouse (warehouse_no w)) ≡ e = cc in subst IsOwn same tt

own_number : (n : ℕ) (e : Refusal) → number_rejection n ≡ Some e → IsOwn e
own_number n e h = by_test (nat_le n 4294967295) h
  where
    by_test : (b : Bool) → cond b None (Some (refusal.Overflow column.HistoryNumber)) ≡ Some e → IsOwn e
    by_test true h = let no : ⊥ = cc in absurd no
    by_test false h = let same : refusal.Overflow column.HistoryNumber ≡ e = cc in subst IsOwn same tt

-- a step has an answer, and leaves a world
abbrev pub IsTold : World system → Step → Type 0
IsTold w i = (x : Answer) × (w' : World system) × Next system w (step_in i) (answer_in i x) w'

-- the answer of an advance, as it is told
abbrev Named : Step → theory.Answer system → Type 0
Named i a = (x : Answer) × (answer_in i x ≡ a)

named_advance : (w : World system) (i : theory.Step system) (a : theory.Answer system) (w' : World system) (t : ℕ)
    → IsReached system w → Next system w i a w' → i ≡ Advance t → Named (step.Advance t) a
named_advance w _ _ _ t l (goes_on u o c p e g r room) i = (answer.More, refl)
named_advance w _ _ _ t l (commits u o y e g r) i = (answer.Committed (suc (newest system w)) y, refl)
named_advance w _ _ _ t l (stops u o x e r) i =
    let cause = abort_is_its_own system laws w _ u x l (stops u o x e r) in
    (answer.Refused x, own_abort t x (own_cause cause.was.request x cause.cause))
named_advance w _ _ _ t l (fails u o x e g r) i =
    let cause = abort_is_its_own system laws w _ u x l (fails u o x e g r) in
    (answer.Refused x, own_abort t x (own_cause cause.was.request x cause.cause))
named_advance w _ _ _ t l (is_busy u o n m v e r g) i = (answer.Refused (refusal.Busy n v), refl)
named_advance w _ _ _ t l (is_full u o c p e g r f) i = (answer.Refused refusal.UndoFull, refl)
named_advance w _ _ _ t l (not_open s u e f) i = (answer.Refused refusal.NotOpen, refl)
named_advance w _ _ _ t l (lacks_memory u o e m) i = (answer.Refused refusal.NoMemory, refl)
named_advance w _ _ _ t l (too_old s m e p b) i = (answer.Refused (refusal.TooOld _), refl)
named_advance w _ _ _ t l (future s m e p b) i = (answer.Refused (refusal.Future _), refl)
named_advance w _ _ _ t l n i = let no : ⊥ = cc in absurd no

pub told_advance : (w : World system) (t : ℕ) → IsReached system w → IsTold w (step.Advance t)
told_advance w t l =
    let a = each_is_answered system laws w (Advance t) l tt in
    let x = named_advance w (Advance t) a.answer a.after t l a.next refl in
    (x.0, a.after, subst (λ (z : theory.Answer system). Next system w (Advance t) z a.after) (sym x.1) a.next)

pub told_save : (w : World system) (t : ℕ) → IsTold w (step.Save t)
told_save w t = by_slot (w.active t) refl
  where
    by_slot : (v : Option (Open system)) → w.active t ≡ v → IsTold w (step.Save t)
    by_slot None e = (answer.Refused refusal.NotOpen, w, not_open (Save t) t refl e)
    by_slot (Some o) e = (answer.Saved, _, saves t o e)

pub told_back : (w : World system) (t : ℕ) → IsTold w (step.Back t)
told_back w t = by_slot (w.active t) refl
  where
    by_slot : (v : Option (Open system)) → w.active t ≡ v → IsTold w (step.Back t)
    by_slot None e = (answer.Refused refusal.NotOpen, w, not_open (Back t) t refl e)
    by_slot (Some o) e = (answer.Back, _, goes_back t o e)

pub told_rollback : (w : World system) (t : ℕ) → IsTold w (step.Rollback t)
told_rollback w t = by_slot (w.active t) refl
  where
    by_slot : (v : Option (Open system)) → w.active t ≡ v → IsTold w (step.Rollback t)
    by_slot None e = (answer.Refused refusal.NotOpen, w, not_open (Rollback t) t refl e)
    by_slot (Some o) e = (answer.RolledBack, _, rolls_back t o e)

in_limit : (t : ℕ) → t ≤ 64 → t < terminal_limit
unfolding terminal_limit
in_limit t h = omega (arith, h)

-- a request that its tables turn away, or that is of a terminal with an open transaction, or that begins
pub told_begin : (w : World system) (t : ℕ) (q : Request) → 1 ≤ t → t ≤ 64 → system.IsRequest q
    → IsTold w (step.Begin t q)
told_begin w t q low high b = by_case (rejection q (tables system w)) refl (w.active t) refl
    (number_rejection (number system w t)) refl
  where
    rejected : (e : Refusal) → IsOwn e → Next system w (Begin t q) (theory.Rejected e) w → IsTold w (step.Begin t q)
    rejected e h n = (
      answer.Refused e,
      w,
      subst (λ (z : theory.Answer system). Next system w (Begin t q) z w)
          (sym (own_rejection t q e h)) n,
    )

    by_case : (x : Option Refusal) → rejection q (tables system w) ≡ x → (v : Option (Open system)) → w.active t ≡ v
        → (n : Option Refusal) → number_rejection (number system w t) ≡ n → IsTold w (step.Begin t q)
    by_case (Some e) r v f n g = rejected e (own_absent (warehouses_of q) (tables system w) e r) (is_rejected t q e r)
    by_case None r (Some o) f n g = (answer.Refused refusal.AlreadyOpen, w, is_open t q o r f)
    by_case None r None f (Some e) g = rejected e (own_number (number system w t) e g) (number_is_rejected t q e r f g)
    by_case None r None f None g = (
      answer.Begun,
      _,
      begins t q (record { terminal = (low, in_limit t high); valid = b; known = r; closed = f; counted = g }),
    )

-- MOMENTS

-- a moment that is asked for is kept, or it is before the horizon, or after the newest
by_moment : {A : Type 0} (w : World system) (m : ℕ) → (horizon system w ≤ m → m ≤ newest system w → A)
    → (m < horizon system w → A) → (newest system w < m → A) → A
by_moment {A} w m kept early late = by_case (cases_order m (horizon system w)) (cases_order m (newest system w))
  where
    by_case : (m ≡ horizon system w) ⊎ ((m < horizon system w) ⊎ (horizon system w < m))
        → (m ≡ newest system w) ⊎ ((m < newest system w) ⊎ (newest system w < m)) → A
    by_case (inl h) (inl n) = kept (omega arith) (omega arith)
    by_case (inl h) (inr (inl n)) = kept (omega arith) (omega arith)
    by_case (inl h) (inr (inr n)) = late n
    by_case (inr (inl h)) n = early h
    by_case (inr (inr h)) (inl n) = kept (omega arith) (omega arith)
    by_case (inr (inr h)) (inr (inl n)) = kept (omega arith) (omega arith)
    by_case (inr (inr h)) (inr (inr n)) = late n

-- AUDITS

verdict_out : model.Verdict → Verdict
verdict_out model.Holds = verdict.Holds
verdict_out (model.Fails k) = verdict.Fails k

in_out : (v : model.Verdict) → verdict_of (verdict_out v) ≡ v
unfolding verdict_out
in_out model.Holds = refl
in_out (model.Fails k) = refl

pub told_audit : (w : World system) (c : Condition) (m : ℕ) → IsTold w (step.Audit c m)
told_audit w c m = by_moment {A = IsTold w (step.Audit c m)} w m kept early late
  where
    kept : horizon system w ≤ m → m ≤ newest system w → IsTold w (step.Audit c m)
    kept low high =
        let v = model.verdict (condition_of c) (at system w m) in (
          answer.Audited (verdict_out v),
          w,
          subst (λ (z : model.Verdict). Next system w (Audit m (condition_of c)) (theory.Audited z) w) (sym (in_out v))
              (audits m (condition_of c) low high),
        )

    early : m < horizon system w → IsTold w (step.Audit c m)
    early b = (answer.Refused (refusal.TooOld (horizon system w)), w, too_old (Audit m (condition_of c)) m refl tt b)

    late : newest system w < m → IsTold w (step.Audit c m)
    late b = (answer.Refused (refusal.Future (newest system w)), w, future (Audit m (condition_of c)) m refl tt b)

-- QUERIES

own_query : (m : ℕ) (q : Query) (e : Refusal) → IsOwn e
    → answer_in (step.Read m q) (answer.Refused e) ≡ theory.Rejected e
own_query m q (refusal.NoSuchRow k) h = refl
own_query m q (refusal.Overflow c) h = refl
own_query m q refusal.InvalidItem h = refl
own_query m q refusal.NoCustomer h = refl
own_query m q _ h = absurd h

own_turned_away : (q : Query) (r : Rows) (e : Refusal) → query_rejection q r ≡ Some e → IsOwn e
own_turned_away (query.Status q) r e h = own_absent (q.district.warehouse ∷ []) r e h
own_turned_away (query.Level q) r e h = own_absent (q.district.warehouse ∷ []) r e h

-- what is told of what is found, or the refusal where nothing is
own_told : {A : Type 0} (d : Refusal) (o : Option A) (k : A → QueryReply) (e : Refusal) → IsOwn d
    → reply_with d o (λ x. Here (k x)) ≡ Missing e → IsOwn e
own_told d None k e own h = let same : d ≡ e = cc in subst IsOwn same own
own_told d (Some x) k e own h = let no : ⊥ = cc in absurd no

own_chosen : (o : Option ℕ) (at : ℕ → Option Customer) (k : ℕ → Customer → QueryReply) (e : Refusal)
    → reply_with refusal.NoCustomer o (λ c. reply_with refusal.NoCustomer (at c) (λ x. Here (k c x))) ≡ Missing e
    → IsOwn e
own_chosen None at k e h = let same : refusal.NoCustomer ≡ e = cc in subst IsOwn same tt
own_chosen (Some c) at k e h = own_told {A = Customer} refusal.NoCustomer (at c) (k c) e tt h

own_missing : (q : Query) (r : Rows) (e : Refusal) → answer_of q r ≡ Missing e → IsOwn e
own_missing (query.Status q) r e h =
    own_chosen (customer_meant q.district q.customer r.customers) (λ c. get r.customers (customer_in q.district c))
    (λ c x. told.Status (record {
      customer = c;
      balance = x.account.balance;
      order = status_of r.order_lines (last_order (customer_in q.district c) r.orders);
    })) e h
own_missing (query.Level q) r e h =
    own_told {A = District} (refusal.NoSuchRow (key.District q.district)) (get r.districts q.district)
    (λ x. told.Level (count_by (is_low q (recent_lines q.district x.next_order r.order_lines)) (entries r.stocks))) e tt
    h

-- a query whose warehouse is not there, or of a moment that is not kept, or that finds nothing or its reply
pub told_read : (w : World system) (m : ℕ) (q : Query) → IsTold w (step.Read m q)
told_read w m q = by_rejection (query_rejection q (tables system w)) refl
  where
    rejected : (e : Refusal) → IsOwn e → Next system w (Read m q) (theory.Rejected e) w → IsTold w (step.Read m q)
    rejected e h n = (
      answer.Refused e,
      w,
      subst (λ (z : theory.Answer system). Next system w (Read m q) z w)
          (sym (own_query m q e h)) n,
    )

    by_answer : query_rejection q (tables system w) ≡ None → horizon system w ≤ m → m ≤ newest system w
        → (o : Outcome QueryReply Refusal) → answer_of q (at system w m) ≡ o → IsTold w (step.Read m q)
    by_answer k low high (Here y) a = (answer.Replied y, w, reads m q y k low high a)
    by_answer k low high (Missing e) a = rejected e (own_missing q (at system w m) e a) (misses m q e k low high a)

    by_rejection : (x : Option Refusal) → query_rejection q (tables system w) ≡ x → IsTold w (step.Read m q)
    by_rejection (Some e) r = rejected e (own_turned_away q (tables system w) e r) (query_is_rejected m q e r)
    by_rejection None r =
        by_moment {A = IsTold w (step.Read m q)} w m
        (λ low high. by_answer r low high (answer_of q (at system w m)) refl)
        (λ b. (answer.Refused (refusal.TooOld (horizon system w)), w, too_old (Read m q) m refl r b))
        (λ b. (answer.Refused (refusal.Future (newest system w)), w, future (Read m q) m refl r b))

-- PURGES AND REWINDS

pub told_purge : (w : World system) (m : ℕ) → IsTold w (step.Purge m)
told_purge w m =
    by_moment {A = IsTold w (step.Purge m)} w m (λ low high. (answer.Purged m, _, purges m low high))
    (λ b. (answer.Refused (refusal.TooOld (horizon system w)), w, too_old (Purge m) m refl tt b))
    (λ b. (answer.Refused (refusal.Future (newest system w)), w, future (Purge m) m refl tt b))

named_rewind : (w : World system) (i : theory.Step system) (a : theory.Answer system) (w' : World system) (m : ℕ)
    → Next system w i a w' → i ≡ Rewind m → Named (step.Rewind m) a
named_rewind w _ _ _ m (rewinds n q l u) i = (answer.Rewound _, refl)
named_rewind w _ _ _ m (not_quiet n k e) i = (answer.Refused (refusal.NotQuiet (suc k)), refl)
named_rewind w _ _ _ m (not_open s u e f) i = (answer.Refused refusal.NotOpen, refl)
named_rewind w _ _ _ m (too_old s n e p b) i = (answer.Refused (refusal.TooOld _), refl)
named_rewind w _ _ _ m (future s n e p b) i = (answer.Refused (refusal.Future _), refl)
named_rewind w _ _ _ m n i = let no : ⊥ = cc in absurd no

pub told_rewind : (w : World system) (m : ℕ) → IsReached system w → IsTold w (step.Rewind m)
told_rewind w m l =
    let a = each_is_answered system laws w (Rewind m) l tt in
    let x = named_rewind w (Rewind m) a.answer a.after m a.next refl in
    (x.0, a.after, subst (λ (z : theory.Answer system). Next system w (Rewind m) z a.after) (sym x.1) a.next)

-- RUNS

is_more : (x : Answer) → (x ≡ answer.More) ⊎ (x ≢ answer.More)
is_more answer.More = inl refl
is_more answer.Begun = inr (λ e. cc)
is_more (answer.Committed m y) = inr (λ e. cc)
is_more answer.Saved = inr (λ e. cc)
is_more answer.Back = inr (λ e. cc)
is_more answer.RolledBack = inr (λ e. cc)
is_more (answer.Replied f) = inr (λ e. cc)
is_more (answer.Purged m) = inr (λ e. cc)
is_more (answer.Rewound m) = inr (λ e. cc)
is_more (answer.Audited v) = inr (λ e. cc)
is_more (answer.Refused e) = inr (λ e. cc)

told_run_within : (k : ℕ) (w : World system) (t : ℕ) → left w t < k → IsLive (Some w)
    → (n : ℕ) × (x : Answer) × (w' : World system) × RunsIn n w t x w'
told_run_within zero w t h l = absurd (omega (arith, h))
told_run_within (suc k) w t h l = by_answer (told_advance w t l.0) (told_run_within k)
  where
    by_answer : IsTold w (step.Advance t)
        → ((v : World system) (u : ℕ) → left v u < k → IsLive (Some v)
        → (n : ℕ) × (x : Answer) × (w' : World system) × RunsIn n v u x w')
        → (n : ℕ) × (x : Answer) × (w' : World system) × RunsIn n w t x w'
    by_answer (x, v, s) rest = by_test (is_more x)
      where
        by_test : (x ≡ answer.More) ⊎ (x ≢ answer.More) → (n : ℕ) × (y : Answer) × (w' : World system)
            × RunsIn n w t y w'
        by_test (inr other) = (0, x, v, (other, s))
        by_test (inl e) =
            let more : Next system w (Advance t) theory.More v =
            subst (λ (z : Answer). Next system w (Advance t) (answer_in (step.Advance t) z) v) e s in
            let less = falls w v t l more in
            let fewer : left v t < k = omega (arith, less, h) in
            let r = rest v t fewer (next_live w _ _ v l more) in
            (suc r.0, r.1, r.2, (v, more, r.3))

pub told_run : (w : World system) (t : ℕ) → IsLive (Some w) → (n : ℕ) × (x : Answer) × (w' : World system)
    × RunsIn n w t x w'
told_run w t l = told_run_within (suc (left w t)) w t (omega arith) l
