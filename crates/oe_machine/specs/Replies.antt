-- How calls change the last replies of terminals.
use Rattle.std.specs.Prelude.{◌≡◌, ℕ, Option, None, Some, Result, Ok, Err}
use Rattle.oe_theory.specs.World.{set}
use Rattle.oe_requests.specs.declared.refusals.Refusal.{Refusal}
use Rattle.oe_requests.specs.declared.replies.Reply.{Reply}
use Rattle.oe_requests.specs.declared.steps.Step.{Step}
use Rattle.oe_requests.specs.declared.steps.Step.TheVariants as step
use Rattle.oe_requests.specs.declared.answers.Answer.{Answer}
use Rattle.oe_requests.specs.declared.answers.Answer.TheVariants as answer
use Rattle.oe_machine.specs.declared.advances.Advanced.{Advanced}
use Rattle.oe_machine.specs.declared.advances.Advanced.TheVariants as advanced

-- what an Advance of terminal t makes of the last replies: a commit brings its own
abbrev pub RepliesAfter : ℕ → Advanced → (ℕ → Option Reply) → (ℕ → Option Reply) → Type 0
RepliesAfter t (advanced.Committed m) old new = new ≡ set t (new t) old
RepliesAfter t r old new = new ≡ old

-- what a Begin makes of them
abbrev pub RepliesBegun : ℕ → Result (Unit {0}) Refusal → (ℕ → Option Reply) → (ℕ → Option Reply) → Type 0
RepliesBegun t (Ok x) old new = new ≡ set t None old
RepliesBegun t (Err e) old new = new ≡ old

-- what a Rollback makes of them
abbrev pub RepliesWithout : ℕ → Answer → (ℕ → Option Reply) → (ℕ → Option Reply) → Type 0
RepliesWithout t answer.RolledBack old new = new ≡ set t None old
RepliesWithout t x old new = new ≡ old

-- What a step that is answered so makes of them: a Begin and a Rollback leave their terminal none, a commit its own
-- reply, and each other step and answer leaves all as they were.
abbrev pub RepliesStepped : Step → Answer → (ℕ → Option Reply) → (ℕ → Option Reply) → Type 0
RepliesStepped (step.Begin t q) answer.Begun old new = new ≡ set t None old
RepliesStepped (step.Advance t) (answer.Committed m y) old new = new ≡ set t (Some y) old
RepliesStepped (step.Rollback t) answer.RolledBack old new = new ≡ set t None old
RepliesStepped i a old new = new ≡ old
