-- The commits that steps and their answers tell of.
use Rattle.std.specs.Prelude.{ℕ, suc, ◌-◌, ◌==◌, cond, Option, None, Some, List, [], ◌∷◌, length, drop}
use Rattle.oe_theory.specs.Machine.{Tx}
use Rattle.oe_theory.specs.World.{Commit, set}
use Rattle.oe_theory.specs.Next.{Step, Begin, Advance, Rewind, Answer, Begun, Committed, Rewound}
use Rattle.oe_requests.specs.declared.replies.Reply.{Reply}
use Rattle.oe_requests.specs.declared.requests.Request.{Request}
use Rattle.oe_model.specs.System.{system}

-- a transaction that has committed, as its steps and their answers tell it
pub record Transaction : Type 0 where
  -- its terminal, its number and its request
  pub tx : Tx Request
  pub reply : Reply

-- the same of a commit of a world, which has the lengths of its undo records besides
abbrev pub transaction_of : Commit system → Transaction
transaction_of c = record { tx = c.tx; reply = c.reply }

-- how many of them are the terminal's
abbrev pub count_of : ℕ → List Transaction → ℕ
count_of t [] = 0
count_of t (c ∷ cs) = cond (t == c.tx.terminal) (suc (count_of t cs)) (count_of t cs)

-- what steps and answers have told so far
pub record CommitLog : Type 0 where
  -- the transactions that have committed and that no rewind has taken back, the newest first
  pub commits : List Transaction
  -- with what request each terminal has begun last
  pub requests : ℕ → Option Request

-- one more has committed: the request of its terminal's last begin, whose number is the next of that terminal
abbrev pub with_commit : ℕ → Option Request → Reply → List Transaction → List Transaction
with_commit t None y cs = cs
with_commit t (Some q) y cs =
    record { tx = record { terminal = t; number = suc (count_of t cs); request = q }; reply = y } ∷ cs

-- A begin tells a request, and an advance that commits one more transaction. A rewind takes back all but as many as its
-- moment says, the newest first. Any other step, a purge too, leaves all as it was
abbrev pub log_after_step : CommitLog → Answer system → Step system → CommitLog
log_after_step h Begun (Begin t q) = record { commits = h.commits; requests = set t (Some q) h.requests }
log_after_step h (Committed m y) (Advance t) =
    record { commits = with_commit t (h.requests t) y h.commits; requests = h.requests }
log_after_step h (Rewound m) (Rewind k) =
    record { commits = drop (length h.commits - m) h.commits; requests = h.requests }
log_after_step h a i = h

-- and so on, one step after another
abbrev pub log_of_steps : CommitLog → List (Step system) → List (Answer system) → CommitLog
log_of_steps h (i ∷ is) (a ∷ ys) = log_of_steps (log_after_step h a i) is ys
log_of_steps h [] ys = h
log_of_steps h (i ∷ is) [] = h

-- where nothing has committed yet
abbrev pub empty_log : CommitLog
empty_log = record { commits = []; requests = λ _. None }

-- the commits of these steps and answers, from the first on, the newest first
abbrev pub commits_of_steps : List (Step system) → List (Answer system) → List Transaction
commits_of_steps is ys = (log_of_steps empty_log is ys).commits
