-- Where nothing has to be put back, the version is the tables as they stand.
use Rattle.std.proofs.Common.{◌≡◌, ℕ, ◌-◌, refl, ◌∙◌, ap, List, [], ◌∷◌, take, arith}
use Rattle.oe_theory.specs.Undo.{unwind_open, unwind_commits}
use Rattle.oe_theory.specs.Store.{all_below}
use Rattle.oe_model.specs.System.{system, terminal_limit}
use Rattle.oe_store.specs.Places.{rows}
use Rattle.oe_store.specs.Places as tables
use Rattle.oe_log.specs.Stands.{undo_of, model_records}
use Rattle.oe_log.specs.Log.{SegmentLog, open_total, records_in}
use Rattle.oe_log.specs.Moments.{newest}
use Rattle.oe_versions.specs.Versions.{version}
use Rattle.oe_versions.proofs.FoundFacts.{none_put_back, shut}

none_taken : {A : Type 0} (xs : List A) → take 0 xs ≡ []
none_taken [] = refl
none_taken (x ∷ xs) = refl

pub nothing_since : (ts : tables.Places) (u : SegmentLog) (m : ℕ) → newest u ≡ m → open_total u ≡ 0
    → version ts u m ≡ rows ts
nothing_since ts u m last quiet =
    let none : newest u - m ≡ 0 = omega (arith, last) in
    ap (λ k. unwind_commits system (take k (undo_of u).history)
    (unwind_open system (undo_of u).active (all_below system terminal_limit) (rows ts))) none
    ∙ ap (λ ss. unwind_commits system ss
    (unwind_open system (undo_of u).active (all_below system terminal_limit) (rows ts))) (none_taken
    (undo_of u).history)
    ∙ none_put_back (undo_of u).active (λ t. ap (λ o. model_records (records_in o)) (shut u.terminals quiet t))
    (all_below system terminal_limit) (rows ts)
