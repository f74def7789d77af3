-- What follows of every run of terminals' steps, from any population: the theory's theorems at this machine, by their
-- subjects.
use Rattle.std.specs.Prelude.{◌≡◌, ℕ, None, List, [], ◌∷◌}
use Rattle.std.specs.FinMap.{get}
use Rattle.oe_theory.specs.Machine.{Tx}
use Rattle.oe_theory.specs.World.{World, at, tables}
use Rattle.oe_theory.specs.Next.{IsQuiet}
use Rattle.oe_theory.specs.Laws.{Laws, Ends}
use Rattle.oe_theory.specs.Undo.{Undo, Keeps, commit_records}
use Rattle.oe_theory.specs.Theorems.{IsReached, Opening_is_reached, Run_is_reached, Rollback_leaves_no_trace}
use Rattle.oe_theory.specs.Theorems.{Commit_is_whole, Abort_has_no_effect, Open_is_known, Abort_is_its_own}
use Rattle.oe_theory.specs.Theorems.{Changes_are_accepted, History_is_serial, Nothing_is_recorded, Records_follow}
use Rattle.oe_theory.specs.Theorems.{World_has_records, Tables_follow, Undo_forgets, Undo_goes_back, Base_is_unwound}
use Rattle.oe_theory.specs.Theorems.{Version_is_unwound, Row_is_unwound, Holds_of_tables, Holds_while_undone}
use Rattle.oe_theory.specs.Theorems.{Holds_while_rewound, Used_is_of_records, Extents_suffice, Full_is_full}
use Rattle.oe_theory.specs.Theorems.{Quiet_tables, Rewind_restores, Purge_leaves_later, Tests_hold_from_base}
use Rattle.oe_theory.specs.Theorems.{Versions_are_good, Want_stands_for, Each_is_answered, Answers_are_determined}
use Rattle.oe_theory.specs.Theorems.{Scripts_are_answered}
use Rattle.oe_theory.specs.RecordTheorems.{Row_without_record, Records_are_apart, Each_goes_back}
use Rattle.oe_theory.specs.StepTheorems.{Steps_are_counted, IsEnding, Endings_are_whole, Runs_pass}
use Rattle.oe_theory.specs.StoreTheorems.{World_is_stored, Store_follows, Opening_stands, Steps_of_the_store}
use Rattle.oe_theory.specs.StoreTheorems.{Facts_of_the_store, Each_goes_back_here}
use Rattle.oe_requests.specs.declared.requests.Request.{Request}
use Rattle.oe_model.specs.Rows.{Rows}
use Rattle.oe_model.specs.Changes.{Record, IsRecord}
use Rattle.oe_model.specs.Meets.{Meets, Accepts}
use Rattle.oe_model.specs.Payment.{history_key}
use Rattle.oe_model.specs.Requests.{IsRequest, MayRefuse, rejection}
use Rattle.oe_model.specs.Conditions.{IsPopulation, IsStocked, Good, Condition_1, Condition_2, Condition_3, Condition_4}
use Rattle.oe_model.specs.System.{system, start_of, effect_of}

-- the machine meets the local laws of the theory; so each program, run alone, is its whole effect, a row at a time
abbrev pub System_is_lawful : Type 0
System_is_lawful = Laws system

-- conditions 1 to 4
pub record Conditions (r : Rows) : Type 0 where
  pub condition_1 : Condition_1 r
  pub condition_2 : Condition_2 r
  pub condition_3 : Condition_3 r
  pub condition_4 : Condition_4 r

-- what a program alone needs of the tables: the schema, conditions 1 to 4, a STOCK row for each ITEM row of each
-- warehouse, and no HISTORY row of its own transaction
pub record IsReadyFor (x : Tx Request) (r : Rows) : Type 0 where
  pub meets : Meets r
  pub conditions : Conditions r
  pub stocked : IsStocked r
  pub unused : get r.histories (history_key x.terminal x.number) ≡ None

-- a program alone, of a request that is within its ranges and not rejected, ends with exactly its whole effect, or with
-- none and a refusal that it may end with; and the tables accept each of its changes
abbrev pub Programs_end : Type 0
Programs_end =
    (x : Tx Request) (r : Rows) → IsReadyFor x r → IsRequest x.request → rejection x.request r ≡ None
    → Ends system x (MayRefuse x.request) Accepts (start_of x.request) r (effect_of x.terminal x.number x.request r)

-- a population is a base that a run may begin from, and each run goes on from where another has come to
pub record Runs_begin : Type 0 where
  pub population_is_good : (r : Rows) → IsPopulation r → Good (λ _. 0) r
  pub opening_is_reached : Opening_is_reached system
  pub run_is_reached : Run_is_reached system

-- transactions are whole or leave nothing
pub record Transactions_are_atomic : Type 0 where
  pub rollback_leaves_no_trace : Rollback_leaves_no_trace system
  pub commit_is_whole : Commit_is_whole system
  pub abort_has_no_effect : Abort_has_no_effect system
  pub abort_is_its_own : Abort_is_its_own system
  pub open_is_known : Open_is_known system
  pub changes_are_accepted : Changes_are_accepted system
  pub endings_are_whole : Endings_are_whole system

-- and stand in one order
pub record Versions_are_serial : Type 0 where
  pub history_is_serial : History_is_serial system
  pub versions_are_good : Versions_are_good system
  pub quiet_tables : Quiet_tables system
  pub rewind_restores : Rewind_restores system
  pub purge_leaves_later : Purge_leaves_later system
  pub steps_are_counted : Steps_are_counted system
  pub tests_hold_from_base : Tests_hold_from_base system

-- P holds of each record of a list
abbrev pub EachRecord : (Record → Type 0) → List Record → Type 0
EachRecord P [] = Unit {0}
EachRecord P (b ∷ bs) = P b × EachRecord P bs

-- each stored record is one that an accepted change makes
abbrev pub Records_are_made : Type 0
Records_are_made =
    (w : World system) (u : Undo system) → IsReached system w → Keeps system w u
    → ((t : ℕ) → EachRecord IsRecord (u.active t)) × EachRecord IsRecord (commit_records system u.history)

-- undo records bring each row, the tables and each version back, in place
pub record Records_bring_back : Type 0 where
  pub nothing_is_recorded : Nothing_is_recorded system
  pub records_follow : Records_follow system
  pub world_has_records : World_has_records system
  pub tables_follow : Tables_follow system
  pub undo_forgets : Undo_forgets system
  pub undo_goes_back : Undo_goes_back system
  pub base_is_unwound : Base_is_unwound system
  pub version_is_unwound : Version_is_unwound system
  pub row_is_unwound : Row_is_unwound system
  pub row_without_record : Row_without_record system
  pub records_are_apart : Records_are_apart system
  pub records_are_made : Records_are_made
  pub used_is_of_records : Used_is_of_records system
  pub extents_suffice : Extents_suffice system
  pub full_is_full : Full_is_full system

-- what a server stores follows each step
pub record Store_is_exact : Type 0 where
  pub world_is_stored : World_is_stored system
  pub store_follows : Store_follows system
  pub opening_stands : Opening_stands system
  pub steps : Steps_of_the_store system
  pub facts : Facts_of_the_store system

-- each step is answered, and but for a want of memory in one way
pub record Answers_are_known : Type 0 where
  pub want_stands_for : Want_stands_for system
  pub each_is_answered : Each_is_answered system
  pub answers_are_determined : Answers_are_determined system
  pub scripts_are_answered : Scripts_are_answered system

-- the schema holds of the tables as they stand, with open work, and at each moment of an undo, a rollback or a rewind
pub record Schema_always_holds : Type 0 where
  pub of_tables : Holds_of_tables system Meets
  pub while_undone : Holds_while_undone system Meets
  pub while_rewound : Holds_while_rewound system Meets
  -- and between any two of all stored records that are put back in turn; each finds the row that its change left
  pub in_turn : Each_goes_back system Meets
  pub in_turn_here : Each_goes_back_here system Meets

-- conditions 1 to 4 hold of the version of each moment, and of the tables when no transaction is open
pub record Is_consistent (w : World system) : Type 0 where
  pub of_versions : (m : ℕ) → Conditions (at system w m)
  pub when_quiet : IsQuiet system w → Conditions (tables system w)

-- they hold so of every world that steps lead to
pub record Conditions_hold : Type 0 where
  pub of_versions : (w : World system) → IsReached system w → (m : ℕ) → Conditions (at system w m)
  pub when_quiet : (w : World system) → IsReached system w → IsQuiet system w → Conditions (tables system w)
  -- and of each world that a run passes; each row of the run that ends a transaction ends it whole
  pub along_runs : Runs_pass system Is_consistent (IsEnding system)
