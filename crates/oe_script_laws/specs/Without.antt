-- A script without the lines of a transaction that was rolled back.
use Rattle.std.specs.Prelude.{◌≡◌, ℕ, zero, suc, ◌-◌, Bool, true, false, cond, Option, Some, List, [], ◌∷◌, ◌++◌}
use Rattle.std.specs.List.{join_with_byte}
use Rattle.oe_theory.specs.World.{Open, World}
use Rattle.oe_theory.specs.Erase.{is_of, is_rollback, is_commit}
use Rattle.oe_model.specs.System.{system}
use Rattle.oe_requests.specs.declared.refusals.Refusal.TheVariants as refusal
use Rattle.oe_requests.specs.declared.answers.Answer.{Answer}
use Rattle.oe_requests.specs.declared.answers.Answer.TheVariants as answer
use Rattle.oe_requests.specs.declared.steps.Step.TheVariants as step
use Rattle.oe_lines.specs.Grammar.{words_of}
use Rattle.oe_lines.specs.declared.commands.Command.TheVariants as command
use Rattle.oe_machine.specs.Steps.{step_in, answer_in}
use Rattle.oe_script_laws.specs.Beside.{gives_way}
use Rattle.oe_script_laws.specs.Deeds.{Deed, No_form, Opening, Shown, Steps, Entry, Was}

-- the line is of the transaction that the terminal has open
abbrev pub is_own : ℕ → Deed → Bool
is_own t No_form = false
is_own t (Opening text) = false
is_own t (Shown text) = false
is_own t (Steps n i x) = is_of system t (step_in i)

-- the deed's answer says that a transaction was rolled back
abbrev pub is_undone : Deed → Bool
is_undone No_form = false
is_undone (Opening text) = false
is_undone (Shown text) = false
is_undone (Steps n i x) = is_rollback system (answer_in i x)

-- or that one has committed
abbrev pub is_done : Deed → Bool
is_done No_form = false
is_done (Opening text) = false
is_done (Shown text) = false
is_done (Steps n i x) = is_commit system (answer_in i x)

-- the deed's last step was refused, and only since the terminal has this transaction open
abbrev pub gave_way : ℕ → Option (Open system) → Deed → Bool
gave_way t v No_form = false
gave_way t v (Opening text) = false
gave_way t v (Shown text) = false
gave_way t v (Steps n i x) = gives_way system t v (step_in i) (answer_in i x)

-- the deed without the transaction: the refusal of a rewind counts one fewer that are open
abbrev pub line_answer_without : Answer → Answer
line_answer_without (answer.Refused (refusal.NotQuiet n)) = answer.Refused (refusal.NotQuiet (n - 1))
line_answer_without x = x

abbrev pub deed_without : Deed → Deed
deed_without No_form = No_form
deed_without (Opening text) = Opening text
deed_without (Shown text) = Shown text
deed_without (Steps n i x) = Steps n i (line_answer_without x)

-- the terminal's open transaction is rolled back in these lines
abbrev pub is_rolled_back : ℕ → List Entry → Bool
is_rolled_back t [] = false
is_rolled_back t (e ∷ es) = cond (is_own t e.deed)
    (cond (is_undone e.deed) true (cond (is_done e.deed) false (is_rolled_back t es))) (is_rolled_back t es)

-- the line `next T`
abbrev pub next_line : ℕ → List ℕ
next_line t = join_with_byte 32 (words_of (command.Next t))

-- n lines `next T` that are answered `more`
abbrev pub nexts : ℕ → ℕ → List Entry
nexts zero t = []
nexts (suc n) t = record { line = next_line t; deed = Steps 0 (step.Advance t) answer.More } ∷ nexts n t

-- what a line had done before its last step, a step a line: all but the last of a `run`
abbrev pub before_last : Deed → List Entry
before_last (Steps n (step.Advance t) x) = nexts n t
before_last d = []

-- Of these lines, which follow a transaction's begin at terminal t and are taken from that world on, what is left
-- without it. Its own are left out, up to the one that rolls it back, and all that follow stay. In between a line that
-- gave way to it is left out, but for what it had done before; a line that shows something may show something else; and
-- each other line stays, with its answer, but that a rewind which is refused counts one open transaction fewer
pub data Without (t : ℕ) : World system → List Entry → List Entry → Type 0 where
  ends : (w : World system) (e : Entry) (es : List Entry) → is_own t e.deed ≡ true → is_undone e.deed ≡ true
      → Without t w (e ∷ es) es
  was_own : (w v : World system) (e : Entry) (es left : List Entry) → is_own t e.deed ≡ true → is_undone e.deed ≡ false
      → Was (Some w) e.line e.deed (Some v) → Without t v es left
      → Without t w (e ∷ es) left
  went_away : (w v : World system) (e : Entry) (es left : List Entry) → is_own t e.deed ≡ false
      → gave_way t (w.active t) e.deed ≡ true
      → Was (Some w) e.line e.deed (Some v) → Without t v es left
      → Without t w (e ∷ es) (before_last e.deed ++ left)
  shows : (w : World system) (line text other : List ℕ) (es left : List Entry) → Without t w es left
      → Without t w (record { line = line; deed = Shown text } ∷ es) (record { line = line; deed = Shown other } ∷ left)
  stays : (w v : World system) (e : Entry) (es left : List Entry) → is_own t e.deed ≡ false
      → gave_way t (w.active t) e.deed ≡ false
      → Was (Some w) e.line e.deed (Some v) → Without t v es left
      → Without t w (e ∷ es) (record { line = e.line; deed = deed_without e.deed } ∷ left)
