-- What a clause sees of a station, and what its desk has called.
use Rattle.std.specs.Prelude.{◌≡◌, ℕ, ◌≤◌, List, [], ◌∷◌, take}
use Rattle.oe_requests.specs.declared.requests.Errand.{Errand}
use Rattle.oe_hall.specs.Desks.{TheDesk, most_begun}
use Rattle.oe_history.specs.Views.{calls_by}
use Rattle.oe_history.specs.declared.views.Entry.{Entry}
use Rattle.oe_drive.specs.Errands.{AreCarriedOut}

-- a station: its desk, the errands of its plan, and how many of them were carried out
pub record TheStation : Type 0 where
  pub desk : TheDesk
  pub errands : List Errand
  pub carried : ℕ

-- The desk has called what its first errands call, one after another, and nothing else; no begin is refused by the desk
-- itself where the errands are no more than it may begin.
abbrev pub IsOnPlan : TheStation → Type 0
IsOnPlan s =
    s.carried ≤ most_begun → AreCarriedOut s.desk.seat.terminal (take s.carried s.errands) s.desk.calls.mine

-- it has called under its terminal's number what all its errands call, and nothing else
abbrev pub IsWhole : TheStation → Type 0
IsWhole s =
    (s.desk.calls.by ≡ s.desk.seat.terminal) × AreCarriedOut s.desk.seat.terminal s.errands s.desk.calls.mine

-- a station that comes back has the errands and the terminal that it had
abbrev pub KeepsPlan : TheStation → TheStation → Type 0
KeepsPlan s r = (r.errands ≡ s.errands) × (r.desk.seat.terminal ≡ s.desk.seat.terminal)

-- in the history the entries of its terminal are what its errands call
abbrev pub HasCarriedOut : List Entry → TheStation → Type 0
HasCarriedOut log s = AreCarriedOut s.desk.seat.terminal s.errands (calls_by s.desk.seat.terminal log)

-- so it is for each
abbrev pub HaveCarriedOut : List Entry → List TheStation → Type 0
HaveCarriedOut log [] = Unit {0}
HaveCarriedOut log (s ∷ ss) = HasCarriedOut log s × HaveCarriedOut log ss
