-- What a terminal calls for each errand of its plan, as its own entries of the history show it.
use Rattle.std.specs.Prelude.{◌≡◌, ◌⊎◌, ℕ, suc, Bool, true, false, List, [], ◌∷◌, ◌++◌}
use Rattle.oe_requests.specs.declared.requests.Request.{Request}
use Rattle.oe_requests.specs.declared.requests.Query.{Query}
use Rattle.oe_requests.specs.declared.requests.Errand.{Errand}
use Rattle.oe_requests.specs.declared.requests.Errand.TheVariants as errand
use Rattle.oe_requests.specs.declared.refusals.Refusal.{Refusal}
use Rattle.oe_requests.specs.declared.refusals.Refusal.TheVariants as refusal
use Rattle.oe_requests.specs.declared.replies.Reply.{Reply}
use Rattle.oe_requests.specs.declared.steps.Step.TheVariants as step
use Rattle.oe_requests.specs.declared.answers.Answer.{Answer}
use Rattle.oe_requests.specs.declared.answers.Answer.TheVariants as answer
use Rattle.oe_history.specs.Views.{entry}
use Rattle.oe_history.specs.declared.views.Entry.{Entry}

-- another transaction holds the lock that the stage wants
abbrev pub is_busy : Refusal → Bool
is_busy (refusal.Busy name terminal) = true
is_busy _ = false

-- how often a transaction is answered `Busy` before it is given up
abbrev pub most_busy : ℕ
most_busy = 100

-- a terminal rolls its transaction back
abbrev pub rollback : ℕ → Entry
rollback t = entry t (step.Rollback t) answer.RolledBack

-- The open transaction of terminal t comes to its end by these calls, where it bears so many more answers `Busy`: it is
-- advanced until it commits or the core rolls it back; or the terminal rolls it back, behind the last `Busy` that it
-- bears, or another refusal.
pub data IsEnded (t : ℕ) : ℕ → List Entry → Type 0 where
  goes_on : (n : ℕ) (es : List Entry) → IsEnded t n es → IsEnded t n (entry t (step.Advance t) answer.More ∷ es)
  waits : (n : ℕ) (e : Refusal) (es : List Entry) → is_busy e ≡ true → IsEnded t (suc n) es
      → IsEnded t (suc (suc n)) (entry t (step.Advance t) (answer.Refused e) ∷ es)
  commits : (n m : ℕ) (y : Reply) → IsEnded t n (entry t (step.Advance t) (answer.Committed m y) ∷ [])
  is_rolled_back : (n : ℕ) (e : Refusal) → IsEnded t n (entry t (step.Advance t) (answer.Refused e) ∷ [])
  gives_up : (n : ℕ) (e : Refusal) → is_busy e ≡ false ⊎ (n ≡ 1)
      → IsEnded t n (entry t (step.Advance t) (answer.Refused e) ∷ rollback t ∷ [])

-- a transaction is begun and comes to its end, or its begin is refused
abbrev pub IsTransaction : ℕ → Request → List Entry → Type 0
IsTransaction t q es =
    ((e : Refusal) × (es ≡ entry t (step.Begin t q) (answer.Refused e) ∷ []))
    ⊎ ((rest : List Entry) × (es ≡ entry t (step.Begin t q) answer.Begun ∷ rest) × IsEnded t most_busy rest)

-- a query is read at some moment; or the keeper has found another pin
abbrev pub IsRead : ℕ → Query → List Entry → Type 0
IsRead t q es = ((m : ℕ) × (a : Answer) × (es ≡ entry t (step.Read m q) a ∷ [])) ⊎ (es ≡ [])

-- a delivery that is left in the queue is no call
abbrev pub IsCarriedOut : ℕ → Errand → List Entry → Type 0
IsCarriedOut t (errand.Begin q) es = IsTransaction t q es
IsCarriedOut t (errand.Read q) es = IsRead t q es
IsCarriedOut t (errand.Deliver d) es = es ≡ []

-- the errands one after another, each carried out
abbrev pub AreCarriedOut : ℕ → List Errand → List Entry → Type 0
AreCarriedOut t [] es = es ≡ []
AreCarriedOut t (x ∷ xs) es =
    (first : List Entry) × (rest : List Entry) × (es ≡ first ++ rest) × IsCarriedOut t x first
    × AreCarriedOut t xs rest

-- the calls of a caller have such new ones
abbrev pub HasCalled : List Entry → List Entry → (List Entry → Type 0) → Type 0
HasCalled old new what = (es : List Entry) × (new ≡ old ++ es) × what es
