-- What the terminals of a drive are to do.
use Rattle.std.specs.Prelude.{◌≡◌, ℕ, zero, suc, List, [], ◌∷◌, ◌++◌, Some, slice_get}
use Rattle.oe_rows.specs.declared.scales.Scale.{Scale}
use Rattle.oe_requests.specs.declared.requests.Errand.{Errand}
use Rattle.oe_terms.specs.Errands.{request_of}
use Rattle.oe_history.specs.Views.{calls_by}
use Rattle.oe_history.specs.declared.views.Entry.{Entry}
use Rattle.oe_drive.specs.Errands.{AreCarriedOut}
use Rattle.oe_drive.specs.declared.stations.Plan.{Plan}
use Rattle.oe_numbers.specs.declared.drives.DriveNumbers.{DriveNumbers}

-- the first errands of a terminal
abbrev pub errands_of : Scale → ℕ → ℕ → ℕ → List Errand
errands_of s seed terminal zero = []
errands_of s seed terminal (suc n) = errands_of s seed terminal n ++ request_of s seed terminal (suc n) ∷ []

-- the errands of the first terminals, each with its own
abbrev pub errands_by : Scale → ℕ → ℕ → ℕ → List (List Errand)
errands_by s seed requests zero = []
errands_by s seed requests (suc t) = errands_by s seed requests t ++ errands_of s seed (suc t) requests ∷ []

abbrev pub plans_of : DriveNumbers → List (List Errand)
plans_of d = errands_by d.scale d.seed d.requests d.terminals

-- the errands of a plan
abbrev pub errands_in : Plan → List Errand
errands_in p = p.errands.items

-- In the history the entries of each terminal are what its plan's errands call, one after another, and no others; the
-- first plan is terminal 1's.
abbrev pub ArePlansCarriedOut : List Entry → List (List Errand) → Type 0
ArePlansCarriedOut log plans =
    (k : ℕ) (errands : List Errand) → slice_get plans k ≡ Some errands
    → AreCarriedOut (suc k) errands (calls_by (suc k) log)
