-- A transaction of which no other is beside it, from its begin to its end.
use Rattle.std.specs.Prelude.{◌≡◌, ℕ, zero, suc}
use Rattle.oe_theory.specs.World.{World}
use Rattle.oe_theory.specs.Next.{Next, Begin, Advance, Begun, More, Committed, Aborted, IsQuiet}
use Rattle.oe_theory.specs.Theorems.{IsReached}
use Rattle.oe_requests.specs.declared.requests.Request.{Request}
use Rattle.oe_requests.specs.declared.replies.Reply.{Reply}
use Rattle.oe_requests.specs.declared.refusals.Refusal.{Refusal}
use Rattle.oe_model.specs.System.{system}
use Rattle.oe_file_serial.specs.InOrder.{Commits, RollsBack, between}

-- so many stages of terminal t, one after another, each followed by more
abbrev pub AreStages : World system → ℕ → ℕ → World system → Type 0
AreStages w t zero v = w ≡ v
AreStages w t (suc n) v = (mid : World system) × Next system w (Advance t) More mid × AreStages mid t n v

-- terminal t begins this request where nothing is open, and comes to its last stage
pub record IsAlone (w : World system) (t : ℕ) (q : Request) (last : World system) : Type 0 where
  pub reached : IsReached system w
  pub quiet : IsQuiet system w
  pub begun : World system
  pub begins : Next system w (Begin t q) Begun begun
  pub number : ℕ
  pub stages : AreStages begun t number last

-- it commits its whole effect on what commits had left, or is rolled back where there is none, with the program's own
-- refusal
pub record Alone_is_whole : Type 0 where
  pub commits : (w last v : World system) (t m : ℕ) (q : Request) (y : Reply) → IsAlone w t q last
      → Next system last (Advance t) (Committed m y) v
      → Commits system (between system w) t q y (between system v) × IsQuiet system v
  pub aborts : (w last v : World system) (t : ℕ) (q : Request) (e : Refusal) → IsAlone w t q last
      → Next system last (Advance t) (Aborted e) v → RollsBack system (between system w) t q e
