-- Slots of seats from which the last is taken.
use Rattle.std.proofs.Common.{◌≡◌, ◌≢◌, ℕ, ◌+◌, ◌-◌, ◌<◌, ◌≤◌, Option, Some, None, List}
use Rattle.std.proofs.Common.{slice_get, slice_set, sym, ap, ◌∙◌, arith, IfOk, OnOk}
use Rattle.std.specs.Prelude.{Result, Ok, Err}
use Rattle.oe_hall.specs.Seats.{ThePlace}
use Rattle.oe_hall.proofs.SeatFacts.{get_other}
use Rattle.oe_drive.specs.Ends.{AreFree}

pub still_free : (seats : List (Option ThePlace)) (n : ℕ) → AreFree seats (n + 1) → AreFree (slice_set seats n None) n
still_free seats n free k lt is =
    let le : k < n + 1 = omega (arith, lt) in
    free k le (sym (get_other seats n k None (λ e. omega (arith, lt, e))) ∙ is)

-- the first slots are free behind the one that is taken
pub free_before : (seats taken : List (Option ThePlace)) (n slot : ℕ) → ((t : ℕ) → slice_get seats (t - 1) ≢ Some None)
    → n ≤ slot → taken ≡ slice_set seats slot None → AreFree taken n
free_before seats taken n slot free le is k lt there =
    let same : k + 1 - 1 ≡ k = omega arith in
    free (k + 1) (ap (slice_get seats) same
    ∙ (sym (get_other seats slot k None (λ e. omega (arith, lt, le, e)))
    ∙ (ap (λ (s : List (Option ThePlace)). slice_get s k) (sym is) ∙ there)))

-- what follows of an answer follows where there is one
pub if_ok : {A E : Type 0} {P Q : A → Type 0} (r : Result A E) → IfOk r P → ((x : A) → P x → Q x) → IfOk r Q
if_ok (Ok x) h f = f x h
if_ok (Err e) h f = tt

pub if_ok_so : {A E W : Type 0} {P Q : A → Type 0} (r : Result A E) → IfOk r P → OnOk r W
    → ((x : A) → P x → W → Q x) → IfOk r Q
if_ok_so (Ok x) h w f = f x h w
if_ok_so (Err e) h w f = tt
