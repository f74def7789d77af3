-- Calls one after another, until a transaction has come to its end.
use Rattle.std.proofs.Common.{◌≡◌, ◌⊎◌, ℕ, zero, suc, ◌-◌, ◌≤◌, true, false, List, [], ◌∷◌, ◌++◌, sym, ap, subst}
use Rattle.std.proofs.Common.{◌∙◌, refl, arith, inl, inr, true≢false, Option, Some, None, IsSome, Result}
use Rattle.std.proofs.lemmas.List.{append_assoc, append-nil}
use Rattle.oe_theory.specs.World.{World}
use Rattle.oe_model.specs.System.{system}
use Rattle.oe_moments.specs.Pins.{ThePin}
use Rattle.oe_requests.specs.declared.requests.Query.{Query}
use Rattle.oe_requests.specs.declared.replies.QueryReply.{QueryReply}
use Rattle.oe_requests.specs.declared.refusals.Refusal.{Refusal}
use Rattle.oe_requests.specs.declared.replies.Reply.{Reply}
use Rattle.oe_requests.specs.declared.steps.Step.TheVariants as step
use Rattle.oe_requests.specs.declared.answers.Answer.TheVariants as answer
use Rattle.oe_history.specs.Views.{entry}
use Rattle.oe_history.specs.Calls.{TheCaller}
use Rattle.oe_history.specs.declared.views.Entry.{Entry}
use Rattle.oe_machine.specs.declared.advances.Advanced.TheVariants as advanced
use Rattle.oe_hall.specs.declared.shop.Open.{Open}
use Rattle.oe_hall.specs.declared.shop.Turn.{Turn}
use Rattle.oe_hall.specs.Turns.{advance_answer, read_answer}
use Rattle.oe_hall.specs.Desks.{TheDesk, IsOwn, AnAdvance, ARead, advances}
use Rattle.oe_drive.specs.Errands.{IsEnded, HasCalled, most_busy, is_busy, rollback, goes_on, waits, commits}
use Rattle.oe_drive.specs.Errands.{is_rolled_back, gives_up, IsRead}

-- What was called so far leads to an end, whatever leads there from here on with so many more answers `Busy`.
abbrev pub LeadsOn : ℕ → ℕ → List Entry → Type 0
LeadsOn t n before = (es : List Entry) → IsEnded t n es → IsEnded t most_busy (before ++ es)

-- so do the calls behind the old ones
abbrev pub LeadsFrom : ℕ → ℕ → List Entry → List Entry → Type 0
LeadsFrom t n old new = (before : List Entry) × (new ≡ old ++ before) × LeadsOn t n before

-- nothing was called yet
pub starts : (t : ℕ) (old : List Entry) → LeadsFrom t most_busy old old
starts t old = ([], sym (append-nil old), λ es h. h)

-- a call more
snoc : (xs : List Entry) (x : Entry) (ys : List Entry) → (xs ++ x ∷ []) ++ ys ≡ xs ++ x ∷ ys
snoc xs x ys = append_assoc xs (x ∷ []) ys

-- calls behind calls
behind : (old mid new before es : List Entry) → mid ≡ old ++ before → new ≡ mid ++ es → new ≡ old ++ (before ++ es)
behind old mid new before es is more =
    more ∙ (ap (λ (x : List Entry). x ++ es) is ∙ append_assoc old before es)

-- what the desk's own advance adds to its calls
pub adds : (d d' : TheDesk) (o : Open) (r : Turn) (t : ℕ) → d.seat.terminal ≡ t → IsOwn d.seat o → AnAdvance d o r d'
    → d'.calls.mine ≡ d.calls.mine ++ entry t (step.Advance t) (advance_answer (advances r) d'.reply) ∷ []
adds d d' o r t same own (inl h) =
    subst (λ (k : ℕ). d'.calls.mine
    ≡ d.calls.mine ++ entry k (step.Advance k) (advance_answer (advances r) d'.reply) ∷ []) same (h.1).mine
adds d d' o r t same own (inr h) = absurd (h.1 own)

-- a stage is carried out
pub goes_further : (t n : ℕ) (old mid new : List Entry) → LeadsFrom t n old mid
    → new ≡ mid ++ entry t (step.Advance t) answer.More ∷ [] → LeadsFrom t n old new
goes_further t n old mid new (before, is, leads) more =
    let it = entry t (step.Advance t) answer.More in (
      before ++ it ∷ [],
      behind old mid new before (it ∷ []) is more,
      λ es h. subst (IsEnded t most_busy) (sym (snoc before it es)) (leads (it ∷ es) (goes_on n es h)),
    )

-- another holds the lock
pub waits_further : (t n m : ℕ) (e : Refusal) (old mid new : List Entry) → is_busy e ≡ true → 2 ≤ n → m ≡ n - 1
    → LeadsFrom t n old mid → new ≡ mid ++ entry t (step.Advance t) (answer.Refused e) ∷ [] → LeadsFrom t m old new
waits_further t zero m e old mid new busy two is h more = absurd (omega (arith, two))
waits_further t (suc zero) m e old mid new busy two is h more = absurd (omega (arith, two))
waits_further t (suc (suc n)) m e old mid new busy two is (before, at, leads) more =
    let it = entry t (step.Advance t) (answer.Refused e) in
    let same : m ≡ suc n = omega (arith, is) in (
      before ++ it ∷ [],
      behind old mid new before (it ∷ []) at more,
      λ es h. subst (IsEnded t most_busy) (sym (snoc before it es))
          (leads (it ∷ es) (waits n e es busy (subst (λ (k : ℕ). IsEnded t k es) same h))),
    )

-- the last calls end it
pub has_ended : (t n : ℕ) (old mid new es : List Entry) → LeadsFrom t n old mid → new ≡ mid ++ es → IsEnded t n es
    → HasCalled old new (IsEnded t most_busy)
has_ended t n old mid new es (before, is, leads) more h =
    (before ++ es, behind old mid new before es is more, leads es h)

-- a commit has left its reply
pub has_committed : (t n m : ℕ) (y : Option Reply) (old mid new : List Entry) → IsSome y → LeadsFrom t n old mid
    → new ≡ mid ++ entry t (step.Advance t) (advance_answer (advanced.Committed m) y) ∷ []
    → HasCalled old new (IsEnded t most_busy)
has_committed t n m (Some y) old mid new is h more = has_ended t n old mid new _ h more (commits n m y)
has_committed t n m None old mid new is h more = absurd (true≢false (sym is))

-- the core has rolled it back
pub has_rolled_back : (t n : ℕ) (e : Refusal) (old mid new : List Entry) → LeadsFrom t n old mid
    → new ≡ mid ++ entry t (step.Advance t) (answer.Refused e) ∷ [] → HasCalled old new (IsEnded t most_busy)
has_rolled_back t n e old mid new h more = has_ended t n old mid new _ h more (is_rolled_back n e)

-- the terminal rolls it back
pub has_given_up : (t n : ℕ) (e : Refusal) (old mid kept new : List Entry) → is_busy e ≡ false ⊎ (n ≡ 1)
    → LeadsFrom t n old mid → kept ≡ mid ++ entry t (step.Advance t) (answer.Refused e) ∷ []
    → new ≡ kept ++ rollback t ∷ [] → HasCalled old new (IsEnded t most_busy)
has_given_up t n e old mid kept new why h more last =
    let it = entry t (step.Advance t) (answer.Refused e) in
    has_ended t n old mid new (it ∷ rollback t ∷ []) h
    (last ∙ (ap (λ (x : List Entry). x ++ rollback t ∷ []) more ∙ snoc mid it (rollback t ∷ []))) (gives_up n e why)

-- a read is one call, or none
pub has_read : {C : Type 0} (world : C → World system) (d d' : TheDesk) (p : ThePin) (q : Query)
    (r : Result QueryReply Refusal) (t : ℕ) (old new : List Entry) → d.seat.terminal ≡ t → d.calls.mine ≡ old
    → new ≡ d'.calls.mine → ARead world d p q r d' → HasCalled old new (IsRead t q)
has_read world d d' p q r t old new same before after (inl (holds, inl call)) =
    let it : ℕ → List Entry = λ k. entry k (step.Read p.moment q) (read_answer r) ∷ [] in
    let more = call.mine ∙ ap (λ (x : List Entry). x ++ it d.seat.terminal) before in (
      it t,
      subst (λ (k : ℕ). new ≡ old ++ it k) same (after ∙ more),
      inl (p.moment, read_answer r, refl),
    )
has_read world d d' p q r t old new same before after (inl (holds, inr (found, is))) =
    ([], after ∙ (ap (λ (k : TheCaller). k.mine) is ∙ (before ∙ sym (append-nil old))), inr refl)
has_read world d d' p q r t old new same before after (inr (e, other, is)) =
    ([], after ∙ (ap (λ (k : TheCaller). k.mine) is ∙ (before ∙ sym (append-nil old))), inr refl)
