-- Of a transaction that runs alone in the server's machine.
use Rattle.std.proofs.Common.{◌≡◌, ℕ, List, Option, None, Result, Ok, Err, IfOk, refl, sym, ap, subst, ◌∙◌, inl, inr}
use Rattle.oe_theory.specs.World.{World, Open, newest, latest}
use Rattle.oe_theory.specs.Next as theory
use Rattle.oe_theory.specs.Next.{Next, Begin, Advance, Purge, Read, Answer}
use Rattle.oe_theory.specs.Theorems.{world_at_opening}
use Rattle.oe_theory.proofs.Theorems.{opening_is_reached}
use Rattle.oe_requests.specs.declared.requests.Query.{Query}
use Rattle.oe_requests.specs.declared.requests.Request.{Request}
use Rattle.oe_requests.specs.declared.answers.Answer as given
use Rattle.oe_requests.specs.declared.answers.Answer.TheVariants as answer
use Rattle.oe_requests.specs.declared.replies.Reply.{Reply}
use Rattle.oe_requests.specs.declared.refusals.Refusal.{Refusal}
use Rattle.oe_requests.specs.declared.refusals.Refusal.TheVariants as refusal
use Rattle.oe_requests.specs.declared.steps.Step.TheVariants as step
use Rattle.oe_rows.specs.declared.scales.Scale.{Scale}
use Rattle.oe_model.specs.Rows.{Rows}
use Rattle.oe_rows.specs.declared.layouts.Layout.TheVariants.{WholeRows}
use Rattle.oe_model.specs.Conditions.{IsPopulation}
use Rattle.oe_model.specs.Population.{IsPopulated}
use Rattle.oe_store.specs.Places.{Places, rows}
use Rattle.oe_model.specs.System.{system}
use Rattle.oe_model.proofs.SystemLaws.{laws, population_is_good}
use Rattle.oe_texts.specs.Answer.{answer_text}
use Rattle.oe_machine.specs.Steps.{refusal_in, answer_in, Advances}
use Rattle.oe_machine.specs.declared.advances.Advanced.{Advanced}
use Rattle.oe_machine.specs.declared.advances.Advanced.TheVariants as advanced
use Rattle.oe_admission.proofs.LiveFacts.{next_live}
use Rattle.oe_file_serial.specs.declared.lines.Asked.TheVariants as asked
use Rattle.oe_file_serial.specs.InOrder.{Between, at_first, Refuses, Misses, between}
use Rattle.oe_file_serial.specs.Answers.{Answers}
use Rattle.oe_file_serial.specs.Files.{Opens, OpensRing}
use Rattle.oe_file_serial.specs.Verdicts.{Begins}
use Rattle.oe_file_serial.specs.declared.origins.Origin.{Origin}
use Rattle.oe_file_serial.specs.declared.origins.Origin.TheVariants as origin
use Rattle.oe_file_serial.specs.Worlds.{IsFree, IsAtWork, Ends, shortage_of}
use Rattle.oe_file_serial.proofs.AloneFacts.{begun_alone, more_alone, commits_alone, aborts_alone, of_advance, of_begin}
use Rattle.oe_file_serial.proofs.AloneFacts.{Stays, purge_stays, Leaves, aborted_leaves, rejected_stays, of_read}

pub begins_work : (w v : World system) (t : ℕ) (q : Request) → IsFree w
    → Next system w (Begin t q) theory.Begun v → IsAtWork (between system w) t q v
begins_work w v t q f n = record {
  live = next_live w (Begin t q) theory.Begun v f.live n;
  open_alone = begun_alone system laws w v t q f.quiet n;
}

pub goes_on_at_work : (b : Between system) (t : ℕ) (q : Request) (w v : World system) → IsAtWork b t q w
    → Next system w (Advance t) theory.More v → IsAtWork b t q v
goes_on_at_work b t q w v h n = record {
  live = next_live w (Advance t) theory.More v h.live n;
  open_alone = more_alone system laws b t q w v h.open_alone n;
}

-- a refusal of its own
abbrev pub IsRefused : Between system → ℕ → Request → Refusal → World system → Type 0
IsRefused b t q e v = Refuses system b t q e × (between system v ≡ b) × IsFree v

aborted : (b : Between system) (t : ℕ) (q : Request) (w v : World system) (e : Refusal) → IsAtWork b t q w
    → Next system w (Advance t) (theory.Aborted e) v → IsRefused b t q e v
aborted b t q w v e h n =
    let l : Leaves system laws b v = aborted_leaves system laws b t q w v e h.open_alone n in (
      inr (inr (aborts_alone system laws b t q w v e h.live.0 h.open_alone n)),
      l.same,
      record { live = next_live w (Advance t) (theory.Aborted e) v h.live n; quiet = l.quiet },
    )

refused : (b : Between system) (t : ℕ) (q : Request) (w v : World system) (e : Refusal) → IsAtWork b t q w
    → Next system w (Advance t) (refusal_in (step.Advance t) e) v → shortage_of e ≡ None → IsRefused b t q e v
refused b t q w v (refusal.NoSuchRow x) h n s = aborted b t q w v _ h n
refused b t q w v (refusal.RowExists x) h n s = aborted b t q w v _ h n
refused b t q w v (refusal.Overflow x) h n s = aborted b t q w v _ h n
refused b t q w v (refusal.Reference x) h n s = aborted b t q w v _ h n
refused b t q w v refusal.KeyColumn h n s = aborted b t q w v _ h n
refused b t q w v (refusal.Busy x u) h n s = absurd (of_advance system laws b t q w _ _ v h.open_alone n refl)
refused b t q w v refusal.UndoFull h n s = let not : ⊥ = cc in absurd not
refused b t q w v refusal.NoMemory h n s = let not : ⊥ = cc in absurd not
refused b t q w v refusal.NotOpen h n s = absurd (of_advance system laws b t q w _ _ v h.open_alone n refl)
refused b t q w v refusal.AlreadyOpen h n s = absurd (of_advance system laws b t q w _ _ v h.open_alone n refl)
refused b t q w v refusal.InvalidItem h n s = aborted b t q w v _ h n
refused b t q w v refusal.NoCustomer h n s = aborted b t q w v _ h n
refused b t q w v (refusal.TooOld m) h n s = absurd (of_advance system laws b t q w _ _ v h.open_alone n refl)
refused b t q w v (refusal.Future m) h n s = absurd (of_advance system laws b t q w _ _ v h.open_alone n refl)
refused b t q w v (refusal.NotQuiet m) h n s = absurd (of_advance system laws b t q w _ _ v h.open_alone n refl)
refused b t q w v (refusal.NotPinned m) h n s = aborted b t q w v _ h n

rejected : (w v : World system) (t : ℕ) (q : Request) (e : Refusal) → IsFree w
    → Next system w (Begin t q) (theory.Rejected e) v → IsRefused (between system w) t q e v
rejected w v t q e f n =
    let same : v ≡ w = rejected_stays system laws w v t q e n in (
      of_begin system laws w _ _ v t q f.quiet n refl,
      ap (λ (z : World system). between system z) same,
      subst IsFree (sym same) f,
    )

pub begin_refused : (w v : World system) (t : ℕ) (q : Request) (e : Refusal) → IsFree w
    → Next system w (Begin t q) (refusal_in (step.Begin t q) e) v → shortage_of e ≡ None
    → IsRefused (between system w) t q e v
begin_refused w v t q (refusal.NoSuchRow x) f n s = rejected w v t q _ f n
begin_refused w v t q (refusal.RowExists x) f n s = rejected w v t q _ f n
begin_refused w v t q (refusal.Overflow x) f n s = rejected w v t q _ f n
begin_refused w v t q (refusal.Reference x) f n s = rejected w v t q _ f n
begin_refused w v t q refusal.KeyColumn f n s = rejected w v t q _ f n
begin_refused w v t q (refusal.Busy x u) f n s = absurd (of_begin system laws w _ _ v t q f.quiet n refl)
begin_refused w v t q refusal.UndoFull f n s = let not : ⊥ = cc in absurd not
begin_refused w v t q refusal.NoMemory f n s = let not : ⊥ = cc in absurd not
begin_refused w v t q refusal.NotOpen f n s = absurd (of_begin system laws w _ _ v t q f.quiet n refl)
begin_refused w v t q refusal.AlreadyOpen f n s = absurd (of_begin system laws w _ _ v t q f.quiet n refl)
begin_refused w v t q refusal.InvalidItem f n s = rejected w v t q _ f n
begin_refused w v t q refusal.NoCustomer f n s = rejected w v t q _ f n
begin_refused w v t q (refusal.TooOld m) f n s = absurd (of_begin system laws w _ _ v t q f.quiet n refl)
begin_refused w v t q (refusal.Future m) f n s = absurd (of_begin system laws w _ _ v t q f.quiet n refl)
begin_refused w v t q (refusal.NotQuiet m) f n s = absurd (of_begin system laws w _ _ v t q f.quiet n refl)
begin_refused w v t q (refusal.NotPinned m) f n s = rejected w v t q _ f n

-- WHAT A QUERY IS ANSWERED

abbrev pub IsFound : Between system → Query → given.Answer → Type 0
IsFound b q x = Answers b (asked.Query q) (answer_text x) b

-- a refusal of a query
missed : (w v : World system) (m : ℕ) (q : Query) (e : Refusal) → IsFree w
    → Next system w (Read m q) (refusal_in (step.Read m q) e) v → m ≡ newest system w
    → Misses system (latest system w) q e
missed w v m q (refusal.NoSuchRow x) f n is = of_read system laws w v m q _ f.quiet n is
missed w v m q (refusal.RowExists x) f n is = of_read system laws w v m q _ f.quiet n is
missed w v m q (refusal.Overflow x) f n is = of_read system laws w v m q _ f.quiet n is
missed w v m q (refusal.Reference x) f n is = of_read system laws w v m q _ f.quiet n is
missed w v m q refusal.KeyColumn f n is = of_read system laws w v m q _ f.quiet n is
missed w v m q (refusal.Busy x u) f n is = absurd (of_read system laws w v m q _ f.quiet n is)
missed w v m q refusal.UndoFull f n is = absurd (of_read system laws w v m q _ f.quiet n is)
missed w v m q refusal.NoMemory f n is = absurd (of_read system laws w v m q _ f.quiet n is)
missed w v m q refusal.NotOpen f n is = absurd (of_read system laws w v m q _ f.quiet n is)
missed w v m q refusal.AlreadyOpen f n is = absurd (of_read system laws w v m q _ f.quiet n is)
missed w v m q refusal.InvalidItem f n is = of_read system laws w v m q _ f.quiet n is
missed w v m q refusal.NoCustomer f n is = of_read system laws w v m q _ f.quiet n is
missed w v m q (refusal.TooOld k) f n is = absurd (of_read system laws w v m q _ f.quiet n is)
missed w v m q (refusal.Future k) f n is = absurd (of_read system laws w v m q _ f.quiet n is)
missed w v m q (refusal.NotQuiet k) f n is = absurd (of_read system laws w v m q _ f.quiet n is)
missed w v m q (refusal.NotPinned k) f n is = of_read system laws w v m q _ f.quiet n is

pub is_found : (w v : World system) (m : ℕ) (q : Query) (x : given.Answer) → IsFree w
    → Next system w (Read m q) (answer_in (step.Read m q) x) v → m ≡ newest system w
    → IsFound (between system w) q x
is_found w v m q (answer.Replied y) f n is = (inl (y, of_read system laws w v m q _ f.quiet n is, refl), refl)
is_found w v m q (answer.Refused e) f n is = (inr (e, missed w v m q e f n is, refl), refl)
is_found w v m q answer.Begun f n is = absurd (of_read system laws w v m q _ f.quiet n is)
is_found w v m q answer.More f n is = absurd (of_read system laws w v m q _ f.quiet n is)
is_found w v m q (answer.Committed k y) f n is = absurd (of_read system laws w v m q _ f.quiet n is)
is_found w v m q answer.Saved f n is = absurd (of_read system laws w v m q _ f.quiet n is)
is_found w v m q answer.Back f n is = absurd (of_read system laws w v m q _ f.quiet n is)
is_found w v m q answer.RolledBack f n is = absurd (of_read system laws w v m q _ f.quiet n is)
is_found w v m q (answer.Purged k) f n is = absurd (of_read system laws w v m q _ f.quiet n is)
is_found w v m q (answer.Rewound k) f n is = absurd (of_read system laws w v m q _ f.quiet n is)
is_found w v m q (answer.Audited y) f n is = absurd (of_read system laws w v m q _ f.quiet n is)

-- HOW A RUN ENDS

pub ends_work : (b : Between system) (t : ℕ) (q : Request) (w v : World system) (r : Advanced) (last : Option Reply)
    → IsAtWork b t q w → Advances w t r v last → (r ≡ advanced.More → ⊥) → Ends b t q r last v
ends_work b t q w v advanced.More last h n other = other refl
ends_work b t q w v (advanced.Committed m) last h (y, is, n) other =
    let k = commits_alone system laws b t q w v m y h.live.0 h.open_alone n.0 in (
      y,
      is,
      k.0,
      record { live = next_live w (Advance t) (theory.Committed m y) v h.live n.0; quiet = k.1 },
    )
ends_work b t q w v (advanced.Kept e) last h (n, same) other = λ s. refused b t q w v e h n.0 s
ends_work b t q w v (advanced.RolledBack e) last h (n, is) other = λ s. refused b t q w v e h n.0 s

-- WHAT A PURGE LEAVES

pub purge_keeps : (w v : World system) (m : ℕ) (a : Answer system) → IsFree w → Next system w (Purge m) a v
    → IsFree v × (between system v ≡ between system w)
purge_keeps w v m a f n =
    let s : Stays system laws w v = purge_stays system laws w v m a n in (
      record {
        live = next_live w (Purge m) a v f.live n;
        quiet = λ u. ap (λ (g : ℕ → Option (Open system)). g u) s.active ∙ f.quiet u;
      },
      s.same,
    )

-- WHERE THE FIRST TRANSACTION BEGINS

opened_free : (x : Rows) (n : ℕ) → IsPopulation x → IsFree (world_at_opening system x n WholeRows)
opened_free x n p = record {
  live = (opening_is_reached system laws x n WholeRows (population_is_good x p), λ t. tt);
  quiet = λ t. refl;
}

module _ {A E : Type 0} (w : A → World system) where
  pub opened_so : (x : Rows) (n : ℕ) → IsPopulation x → (r : Result A E)
      → IfOk r (λ c. w c ≡ world_at_opening system x n WholeRows)
      → IfOk r (λ c. IsFree (w c) × (between system (w c) ≡ at_first system x))
  opened_so x n p (Ok c) e =
      (subst IsFree (sym e) (opened_free x n p), ap (λ (z : World system). between system z) e)
  opened_so x n p (Err e) u = u

  pub populated_so : (s : Scale) (x : Rows) → IsPopulated s x → (r : Result A E)
      → IfOk r (λ c. IsFree (w c) × (between system (w c) ≡ at_first system x))
      → IfOk r (λ c. IsFree (w c) × ((y : Rows) × IsPopulated s y × (between system (w c) ≡ at_first system y)))
  populated_so s x p (Ok c) (f, e) = (f, (x, p, e))
  populated_so s x p (Err e) u = u

  -- what a first line opens
  pub begun_of : (o : Origin) (line : List ℕ) (s : Scale) → o ≡ origin.Population → Opens line s → (r : Result A E)
      → IfOk r (λ c. IsFree (w c) × ((y : Rows) × IsPopulated s y × (between system (w c) ≡ at_first system y)))
      → IfOk r (λ c. IsFree (w c) × ((y : Rows) × Begins o line y × (between system (w c) ≡ at_first system y)))
  begun_of o line s is opens (Ok c) (f, (y, p, e)) =
      (f, (y, subst (λ (z : Origin). Begins z line y) (sym is) (s, opens, p), e))
  begun_of o line s is opens (Err e) u = u

  pub begun_on : (o : Origin) (line : List ℕ) (t : Places) → o ≡ origin.Tables t → OpensRing line → (r : Result A E)
      → IfOk r (λ c. IsFree (w c) × (between system (w c) ≡ at_first system (rows t)))
      → IfOk r (λ c. IsFree (w c) × ((y : Rows) × Begins o line y × (between system (w c) ≡ at_first system y)))
  begun_on o line t is opens (Ok c) (f, e) =
      (f, (rows t, subst (λ (z : Origin). Begins z line (rows t)) (sym is) (opens, refl), e))
  begun_on o line t is opens (Err e) u = u
