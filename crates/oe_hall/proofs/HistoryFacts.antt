-- Histories that grow by an entry, and what they say of a terminal's transaction.
use Rattle.std.proofs.Common.{◌≡◌, ◌≢◌, ℕ, ◌==◌, Bool, true, false, true≢false, cond, Option, None, Some, is_some, List}
use Rattle.std.proofs.Common.{[], ◌∷◌, ◌++◌, Result, Ok, Err, inl, inr, refl, sym, ap, ◌∙◌, subst, arith}
use Rattle.std.proofs.lemmas.Bool.Decides.{nat_tests}
use Rattle.oe_theory.specs.World.{World, Open}
use Rattle.oe_theory.specs.Next as theory
use Rattle.oe_theory.specs.Next.{Next, Runs, IsQuiet, begins, commits, rolls_back, stops, fails}
use Rattle.oe_model.specs.System.{system}
use Rattle.oe_requests.specs.declared.requests.Request.{Request}
use Rattle.oe_requests.specs.declared.requests.Query.{Query}
use Rattle.oe_requests.specs.declared.replies.Reply.{Reply}
use Rattle.oe_requests.specs.declared.refusals.Refusal.{Refusal}
use Rattle.oe_requests.specs.declared.refusals.Refusal.TheVariants as refusal
use Rattle.oe_requests.specs.declared.steps.Step.{Step}
use Rattle.oe_requests.specs.declared.steps.Step.TheVariants as step
use Rattle.oe_requests.specs.declared.answers.Answer.{Answer}
use Rattle.oe_machine.specs.Steps.{step_in, answer_in, refusal_in, Carries, Advances, begin_answer}
use Rattle.oe_machine.specs.declared.advances.Advanced.{Advanced}
use Rattle.oe_machine.specs.declared.advances.Advanced.TheVariants as advanced
use Rattle.oe_history.specs.declared.views.Entry.{Entry}
use Rattle.oe_history.specs.Views.{entry, calls_by}
use Rattle.oe_history.specs.Calls.{TheHistory, TheCaller, Knows, with_entry, with_call}
use Rattle.oe_history.specs.Slots.{terminal_of, after}
use Rattle.oe_history.proofs.Lists.{calls-own}
use Rattle.oe_history.proofs.Active.{other, own, nobodys}
use Rattle.oe_hall.specs.Histories.{steps_in, answers_in, IsStepOf, IsOwnStep, AreOwnSteps, IsHistory, HasHappened}
use Rattle.oe_hall.specs.Histories.{opens}
use Rattle.oe_hall.specs.Histories.{is_open}
use Rattle.oe_hall.specs.Turns.{advance_answer, end_answer, read_answer, BeginLeaves, AdvanceLeaves, EndLeaves}
use Rattle.oe_hall.specs.Turns.{ReadCall}
use Rattle.oe_requests.specs.declared.replies.QueryReply.{QueryReply}
use Rattle.atomic_table.specs.Seated.{TableId}
use Rattle.oe_moments.specs.Pins.{ThePin}
use Rattle.oe_hall.proofs.TurnFacts.{fits, none_open}

-- A HISTORY AND AN ENTRY MORE

run-snoc : (w : World system) (log : List Entry) (v v' : World system) (e : Entry)
    → Runs system w (steps_in log) (answers_in log) v
    → Next system v (step_in e.step) (answer_in e.step e.answer) v'
    → Runs system w (steps_in (log ++ e ∷ [])) (answers_in (log ++ e ∷ [])) v'
run-snoc w [] v v' e r n =
    (v', subst (λ (x : World system). Next system x (step_in e.step) (answer_in e.step e.answer) v') (sym r) n, refl)
run-snoc w (d ∷ es) v v' e r n = (r.0, r.1, run-snoc r.0 es v v' e r.2 n)

own-snoc : (log : List Entry) (e : Entry) → AreOwnSteps log → IsOwnStep e → AreOwnSteps (log ++ e ∷ [])
own-snoc [] e a h = (h, tt)
own-snoc (d ∷ es) e a h = (a.0, own-snoc es e a.1 h)

-- an entry that is another's equal is written
pub went : (w v v' : World system) (h h' : TheHistory) (e d : Entry) → e ≡ d → IsHistory w h.log v
    → h' ≡ with_entry e h → Next system v (step_in d.step) (answer_in d.step d.answer) v' → IsOwnStep d
    → IsHistory w h'.log v'
went w v v' h h' e d same is wrote n o =
    subst (λ (l : List Entry). IsHistory w l v')
    (sym (ap (λ (x : TheHistory). x.log) wrote ∙ ap (λ (x : Entry). h.log ++ x ∷ []) same))
    (record { run = run-snoc w h.log v v' d is.run n; own = own-snoc h.log d is.own o })

-- its caller has seen all of it
pub seen_all : (h h' : TheHistory) (c c' : TheCaller) (e : Entry) → h' ≡ with_entry e h → c' ≡ with_call e h.log c
    → c'.seen ≡ h'.log
seen_all h h' c c' e wrote called = ap (λ (x : TheCaller). x.seen) called
    ∙ sym (ap (λ (x : TheHistory). x.log) wrote)

pub happened : (w v : World system) (log seen : List Entry) → seen ≡ log → IsHistory w log v → HasHappened w seen
happened w v log seen same is = (v, subst (λ (l : List Entry). IsHistory w l v) (sym same) is)

-- who has seen nothing has seen a run
pub none_yet : (w : World system) (seen : List Entry) → seen ≡ [] → HasHappened w seen
none_yet w seen none = happened w w [] seen none (record { run = refl; own = tt })

-- WHOSE A STEP IS

pub own_begin : (t : ℕ) (q : Request) (a : Answer) → IsOwnStep (entry t (step.Begin t q) a)
own_begin t q a = refl

pub own_advance : (t : ℕ) (a : Answer) → IsOwnStep (entry t (step.Advance t) a)
own_advance t a = refl

pub own_rollback : (t : ℕ) (a : Answer) → IsOwnStep (entry t (step.Rollback t) a)
own_rollback t a = refl

pub own_read : (n m : ℕ) (q : Query) (a : Answer) → IsOwnStep (entry n (step.Read m q) a)
own_read n m q a = tt

pub own_purge : (n m : ℕ) (a : Answer) → n ≡ 0 → IsOwnStep (entry n (step.Purge m) a)
own_purge n m a is = is

-- a terminal's step is asked for under its number
whose : (n t : ℕ) (i : Step) → IsStepOf n i → terminal_of system (step_in i) ≡ Some t → t ≡ n
whose n t (step.Begin u q) o is = let same : u ≡ t = cc in sym same ∙ o
whose n t (step.Advance u) o is = let same : u ≡ t = cc in sym same ∙ o
whose n t (step.Rollback u) o is = let same : u ≡ t = cc in sym same ∙ o
whose n t (step.Read m q) o is = let no : ⊥ = cc in absurd no
whose n t (step.Purge m) o is = let no : ⊥ = cc in absurd no
whose n t (step.Save u) o is = absurd o
whose n t (step.Back u) o is = absurd o
whose n t (step.Rewind m) o is = absurd o
whose n t (step.Audit k m) o is = absurd o

-- WHETHER A TERMINAL'S TRANSACTION IS OPEN

-- a step of its own, or of nobody, makes it what its answer says
by_own : (t : ℕ) (w v : World system) (s : theory.Step system) (a : theory.Answer system) (k : Option ℕ)
    → terminal_of system s ≡ k → ((u : ℕ) → terminal_of system s ≡ Some u → u ≡ t) → Next system w s a v
    → is_some (v.active t) ≡ after system (is_some (w.active t)) a
by_own t w v s a None is o n =
    ap is_some (other system w v s a t (λ q. let no : None ≡ Some t = sym is ∙ q in let not : ⊥ = cc in not) n)
    ∙ sym (nobodys system w v s a (is_some (w.active t)) is n)
by_own t w v s a (Some u) is o n = own system w v s a t (is ∙ ap Some (o u is)) n

-- it is what its terminal's entries have made of it
open_after : (t : ℕ) (w : World system) (log : List Entry) (w' : World system)
    → Runs system w (steps_in log) (answers_in log) w' → AreOwnSteps log
    → is_some (w'.active t) ≡ opens (is_some (w.active t)) (calls_by t log)
open_after t w [] w' r o = ap (λ (x : World system). is_some (x.active t)) (sym r)
open_after t w (e ∷ es) w' r o = go (e.by == t) refl (open_after t r.0 es w' r.2 o.1)
  where
    go : (b : Bool) → (e.by == t) ≡ b → is_some (w'.active t) ≡ opens (is_some (r.0.active t)) (calls_by t es)
        → is_some (w'.active t) ≡ opens (is_some (w.active t)) (cond b (e ∷ calls_by t es) (calls_by t es))
    go true is rest =
        let same : e.by ≡ t = grind (arith, nat_tests) in
        rest ∙ ap (λ (b : Bool). opens b (calls_by t es))
        (by_own t w r.0 (step_in e.step) (answer_in e.step e.answer) (terminal_of system (step_in e.step)) refl
        (λ u q. whose e.by u e.step o.0 q ∙ same) r.1)
    go false is rest =
        let ne : e.by ≢ t = λ q. true≢false (sym (let h : (e.by == t) ≡ true = grind (arith, nat_tests) in h) ∙ is) in
        rest ∙ ap (λ (b : Bool). opens b (calls_by t es))
        (ap is_some (other system w r.0 (step_in e.step) (answer_in e.step e.answer) t (λ q. ne (sym (whose e.by t
        e.step o.0 q))) r.1))

open_now : (t : ℕ) (w : World system) (log : List Entry) (v : World system) → IsQuiet system w → IsHistory w log v
    → is_open (calls_by t log) ≡ is_some (v.active t)
open_now t w log v quiet is =
    sym (open_after t w log v is.run is.own
    ∙ ap (λ (o : Option (Open system)). opens (is_some o) (calls_by t log)) (quiet t))

-- a caller's transaction before and after its call
pub turned : (t : ℕ) (w v v' : World system) (h h' : TheHistory) (c c' : TheCaller) (e : Entry) → IsQuiet system w
    → IsHistory w h.log v → IsHistory w h'.log v' → Knows h.log c → h' ≡ with_entry e h → c' ≡ with_call e h.log c
    → e.by ≡ c.by → c.by ≡ t
    → (is_open c.mine ≡ is_some (v.active t)) × (is_open c'.mine ≡ is_some (v'.active t))
turned t w v v' h h' c c' e quiet is is' knows wrote called own_entry own_caller = (
  (λ i. is_open (sym knows.1 i)) ∙ (ap (λ (n : ℕ). is_open (calls_by n h.log)) own_caller
      ∙ open_now t w h.log v quiet is),
  ap (λ (x : TheCaller). is_open x.mine) called
      ∙ (ap (λ (m : List Entry). is_open (m ++ e ∷ [])) (sym knows.1)
      ∙ (ap is_open (sym (calls-own c.by h.log e own_entry))
      ∙ (ap (λ (x : TheHistory). is_open (calls_by c.by x.log)) (sym wrote)
      ∙ (ap (λ (n : ℕ). is_open (calls_by n h'.log)) own_caller ∙ open_now t w h'.log v' quiet is')))),
)

-- a refused begin leaves it
after_refused : (b : Bool) (t : ℕ) (q : Request) (e : Refusal)
    → after system b (refusal_in (step.Begin t q) e) ≡ b
after_refused b t q (refusal.NoSuchRow x) = refl
after_refused b t q (refusal.RowExists x) = refl
after_refused b t q (refusal.Overflow x) = refl
after_refused b t q (refusal.Reference x) = refl
after_refused b t q refusal.KeyColumn = refl
after_refused b t q (refusal.Busy x u) = refl
after_refused b t q refusal.UndoFull = refl
after_refused b t q refusal.NoMemory = refl
after_refused b t q refusal.NotOpen = refl
after_refused b t q refusal.AlreadyOpen = refl
after_refused b t q refusal.InvalidItem = refl
after_refused b t q refusal.NoCustomer = refl
after_refused b t q (refusal.TooOld m) = refl
after_refused b t q (refusal.Future m) = refl
after_refused b t q (refusal.NotQuiet m) = refl
after_refused b t q (refusal.NotPinned m) = refl

-- what is begun was closed, and what ends was open
was_closed : (v v' : World system) (s : theory.Step system) (a : theory.Answer system) (t : ℕ) (q : Request)
    → Next system v s a v' → s ≡ theory.Begin t q → a ≡ theory.Begun → v.active t ≡ None
was_closed v _ _ _ t q (begins u p m) is answer =
    let same : u ≡ t = cc in
    ap v.active (sym same) ∙ m.closed
was_closed v _ _ _ t q n is answer = cc

was_open : (v v' : World system) (s : theory.Step system) (a : theory.Answer system) (t : ℕ) → Next system v s a v'
    → terminal_of system s ≡ Some t → after system true a ≡ false → is_some (v.active t) ≡ true
was_open v _ _ _ t (commits u o y e g r) is ends =
    let same : u ≡ t = cc in
    ap (λ (k : ℕ). is_some (v.active k)) (sym same) ∙ ap is_some e
was_open v _ _ _ t (rolls_back u o e) is ends =
    let same : u ≡ t = cc in
    ap (λ (k : ℕ). is_some (v.active k)) (sym same) ∙ ap is_some e
was_open v _ _ _ t (stops u o x e f) is ends =
    let same : u ≡ t = cc in
    ap (λ (k : ℕ). is_some (v.active k)) (sym same) ∙ ap is_some e
was_open v _ _ _ t (fails u o x e g f) is ends =
    let same : u ≡ t = cc in
    ap (λ (k : ℕ). is_some (v.active k)) (sym same) ∙ ap is_some e
was_open v _ _ _ t n is ends = cc

pub begin_leaves : (r : Result (Unit {0}) Refusal) (t : ℕ) (q : Request) (v v' : World system) (b b' : Bool)
    → (b ≡ is_some (v.active t)) × (b' ≡ is_some (v'.active t))
    → Next system v (theory.Begin t q) (answer_in (step.Begin t q) (begin_answer r)) v' → BeginLeaves r b b'
begin_leaves (Ok u) t q v v' b b' is n = (
  is.0 ∙ ap is_some (was_closed v v' (theory.Begin t q) theory.Begun t q n refl refl),
  is.1 ∙ own system v v' (theory.Begin t q) theory.Begun t refl n,
)
begin_leaves (Err e) t q v v' b b' is n =
    is.1 ∙ (own system v v' (theory.Begin t q) (refusal_in (step.Begin t q) e) t refl n
    ∙ (after_refused (is_some (v.active t)) t q e ∙ sym is.0))

pub advance_leaves : (r : Advanced) (y : Option Reply) (t : ℕ) (v v' : World system) (b b' : Bool)
    → (b ≡ is_some (v.active t)) × (b' ≡ is_some (v'.active t)) → Advances v t r v' y → AdvanceLeaves r b b'
advance_leaves advanced.More y t v v' b b' is x =
    is.1 ∙ (own system v v' (theory.Advance t) theory.More t refl x.0 ∙ sym is.0)
advance_leaves (advanced.Kept e) y t v v' b b' is x =
    is.1 ∙ (ap (λ (z : World system). is_some (z.active t)) x.1 ∙ sym is.0)
advance_leaves (advanced.Committed m) y t v v' b b' is x = (
  is.0 ∙ was_open v v' (theory.Advance t) (theory.Committed m x.0) t x.2.0 refl refl,
  is.1 ∙ own system v v' (theory.Advance t) (theory.Committed m x.0) t refl x.2.0,
)
advance_leaves (advanced.RolledBack e) y t v v' b b' is x = (
  is.0 ∙ was_open v v' (theory.Advance t) (refusal_in (step.Advance t) e) t x.0.0 refl
      (ap (after system true) x.1),
  is.1 ∙ (own system v v' (theory.Advance t) (refusal_in (step.Advance t) e) t refl x.0.0
      ∙ ap (after system (is_some (v.active t))) x.1),
)

-- a refused end has found none
refused_end : (v v' : World system) (t : ℕ) (e : Refusal)
    → Next system v (theory.Rollback t) (refusal_in (step.Rollback t) e) v'
    → (v.active t ≡ None) × (refusal_in (step.Rollback t) e ≡ theory.Not_open)
refused_end v v' t (refusal.NoSuchRow x) n = absurd (fits v _ _ v' n)
refused_end v v' t (refusal.RowExists x) n = absurd (fits v _ _ v' n)
refused_end v v' t (refusal.Overflow x) n = absurd (fits v _ _ v' n)
refused_end v v' t (refusal.Reference x) n = absurd (fits v _ _ v' n)
refused_end v v' t refusal.KeyColumn n = absurd (fits v _ _ v' n)
refused_end v v' t (refusal.Busy x u) n = absurd (fits v _ _ v' n)
refused_end v v' t refusal.UndoFull n = absurd (fits v _ _ v' n)
refused_end v v' t refusal.NoMemory n = absurd (fits v _ _ v' n)
refused_end v v' t refusal.NotOpen n = (none_open v _ _ v' n, refl)
refused_end v v' t refusal.AlreadyOpen n = absurd (fits v _ _ v' n)
refused_end v v' t refusal.InvalidItem n = absurd (fits v _ _ v' n)
refused_end v v' t refusal.NoCustomer n = absurd (fits v _ _ v' n)
refused_end v v' t (refusal.TooOld m) n = absurd (fits v _ _ v' n)
refused_end v v' t (refusal.Future m) n = absurd (fits v _ _ v' n)
refused_end v v' t (refusal.NotQuiet m) n = absurd (fits v _ _ v' n)
refused_end v v' t (refusal.NotPinned m) n = absurd (fits v _ _ v' n)

pub end_leaves : (r : Result (Unit {0}) Refusal) (t : ℕ) (v v' : World system) (b b' : Bool)
    → (b ≡ is_some (v.active t)) × (b' ≡ is_some (v'.active t))
    → Next system v (theory.Rollback t) (answer_in (step.Rollback t) (end_answer r)) v' → EndLeaves r b b'
end_leaves (Ok u) t v v' b b' is n = (
  is.0 ∙ was_open v v' (theory.Rollback t) theory.Rolled_back t n refl refl,
  is.1 ∙ own system v v' (theory.Rollback t) theory.Rolled_back t refl n,
)
end_leaves (Err e) t v v' b b' is n =
    let none = refused_end v v' t e n in
    let was : b ≡ false = is.0 ∙ ap is_some none.0 in (
      was,
      is.1 ∙ (own system v v' (theory.Rollback t) (refusal_in (step.Rollback t) e) t refl n
          ∙ (ap (after system (is_some (v.active t))) none.1 ∙ (sym is.0 ∙ was))),
    )

-- a read leaves it
opens_snoc : (b : Bool) (log : List Entry) (e : Entry)
    → opens b (log ++ e ∷ []) ≡ after system (opens b log) (answer_in e.step e.answer)
opens_snoc b [] e = refl
opens_snoc b (d ∷ es) e = opens_snoc (after system b (answer_in d.step d.answer)) es e

after_read : (b : Bool) (m : ℕ) (q : Query) (r : Result QueryReply Refusal)
    → after system b (answer_in (step.Read m q) (read_answer r)) ≡ b
after_read b m q (Ok f) = refl
after_read b m q (Err (refusal.NoSuchRow x)) = refl
after_read b m q (Err (refusal.RowExists x)) = refl
after_read b m q (Err (refusal.Overflow x)) = refl
after_read b m q (Err (refusal.Reference x)) = refl
after_read b m q (Err refusal.KeyColumn) = refl
after_read b m q (Err (refusal.Busy x u)) = refl
after_read b m q (Err refusal.UndoFull) = refl
after_read b m q (Err refusal.NoMemory) = refl
after_read b m q (Err refusal.NotOpen) = refl
after_read b m q (Err refusal.AlreadyOpen) = refl
after_read b m q (Err refusal.InvalidItem) = refl
after_read b m q (Err refusal.NoCustomer) = refl
after_read b m q (Err (refusal.TooOld x)) = refl
after_read b m q (Err (refusal.Future x)) = refl
after_read b m q (Err (refusal.NotQuiet x)) = refl
after_read b m q (Err (refusal.NotPinned x)) = refl

pub read_leaves : {C : Type 0} (world : C → World system) (words : TableId) (c c' : TheCaller) (t : ℕ) (p : ThePin)
    (q : Query) (r : Result QueryReply Refusal) → ReadCall world words c t p q r c' → is_open c'.mine ≡ is_open c.mine
read_leaves world words c c' t p q r (inl x) =
    ap is_open x.mine
    ∙ (opens_snoc false c.mine (entry t (step.Read p.moment q) (read_answer r))
    ∙ after_read (is_open c.mine) p.moment q r)
read_leaves world words c c' t p q r (inr x) = ap (λ (y : TheCaller). is_open y.mine) x.1

-- an advance is answered as its entry says
pub carried : (v v' : World system) (t : ℕ) (r : Advanced) (y : Option Reply) → Advances v t r v' y
    → Carries v (step.Advance t) (advance_answer r y) v'
carried v v' t advanced.More y x = x
carried v v' t (advanced.Kept e) y x = x.0
carried v v' t (advanced.Committed m) y x =
    subst (λ (z : Option Reply). Carries v (step.Advance t) (advance_answer (advanced.Committed m) z) v') (sym x.1) x.2
carried v v' t (advanced.RolledBack e) y x = x.0
