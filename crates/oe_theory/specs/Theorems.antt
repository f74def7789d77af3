-- What is proved of a machine that meets the local laws: of every world that steps can lead to from one that was just
-- opened.
use Rattle.std.specs.Prelude.{◌≡◌, ℕ, suc, ◌-◌, ◌≤◌, ◌<◌, Bool, true, None, Some, List, [], ◌∷◌, ◌++◌, length, take}
use Rattle.std.specs.Prelude.{get_or, ◌≢◌, ◌⊎◌}
use Rattle.oe_theory.specs.Machine.{Machine, Tx, Stop, Fail, Go}
use Rattle.oe_theory.specs.World.{Open, World, IsTerminal, tx_of, overlay, counts_now, counts_at, horizon, newest, at}
use Rattle.oe_theory.specs.World.{latest, IsSerial, tables}
use Rattle.oe_theory.specs.Next.{record_on, fill_of, extents_used, put_active, Begin, Advance, Save, Back, Rollback}
use Rattle.oe_theory.specs.Next.{Read, Audit}
use Rattle.oe_theory.specs.Next.{Purge, Rewind, Begun, More, Committed, Aborted, Purged, Rewound, Undo_full, No_memory}
use Rattle.oe_theory.specs.Next.{IsGranted, IsQuiet, Next, Runs, events, steps_of, answers_of, Step, Answer}
use Rattle.oe_theory.specs.Laws.{IsGood, IsAsked, all_held, Alone}
use Rattle.oe_theory.specs.Erase.{is_rolled_back, without}
use Rattle.oe_theory.specs.Undo.{Undo, unwind, unwind_open, unwind_commits, row_before_open, row_before_commits, AreAll}
use Rattle.oe_theory.specs.Undo.{Keeps, used_of, no_records, undo_after, tables_after}

module _ (M : Machine) where
  -- nothing committed, nothing open
  abbrev pub world_at_opening : M.Map → ℕ → M.Layout → World M
  world_at_opening b n l = record {
    base = b;
    counts = λ _. 0;
    history =
        [];
    active = λ _. None;
    extents = n;
    layout = l;
  }

  -- a world that steps led to
  pub record IsReached (w : World M) : Type 0 where
    pub base : M.Map
    pub extents : ℕ
    pub layout : M.Layout
    pub good : M.Good (λ _. 0) base
    pub steps : List (Step M)
    pub answers : List (Answer M)
    pub run : Runs M (world_at_opening base extents layout) steps answers w

  -- each good base is one to begin from
  abbrev pub Opening_is_reached : Type 0
  Opening_is_reached = (b : M.Map) (n : ℕ) (l : M.Layout) → M.Good (λ _. 0) b → IsReached (world_at_opening b n l)

  -- each run goes on from a world that was reached
  abbrev pub Run_is_reached : Type 0
  Run_is_reached = (w w' : World M) (is : List (Step M)) (ys : List (Answer M)) → IsReached w → Runs M w is ys w'
      → IsReached w'

  -- a run without a transaction that was rolled back is a run between the same worlds, with the same answers
  abbrev pub Rollback_leaves_no_trace : Type 0
  Rollback_leaves_no_trace =
      (w w' : World M) (is is' : List (Step M)) (ys ys' : List (Answer M)) (t : ℕ) (q : M.Request) → IsReached w
      → length is ≡ length ys
      → Runs M w (is ++ Begin t q ∷ is') (ys ++ Begun ∷ ys') w'
      → is_rolled_back M t (events M is' ys') ≡ true
      → Runs M w (steps_of M (without M (events M is ys) t (events M is' ys')))
      (answers_of M (without M (events M is ys) t (events M is' ys'))) w'

  -- the transaction that an answer has ended
  pub record Is_whole (w : World M) (t : ℕ) (reply : M.Reply) (w' : World M) : Type 0 where
    pub was : Open M
    pub is_open : w.active t ≡ Some was
    -- the changes made step by step are the whole effect on the newest version, and make the next
    pub effect : M.whole (tx_of M t was) (latest M w) ≡ Some (overlay M was.now.changes (latest M w), reply)
    pub next : latest M w' ≡ overlay M was.now.changes (latest M w)

  -- each commit is whole, although others committed since its begin
  abbrev pub Commit_is_whole : Type 0
  Commit_is_whole =
      (w w' : World M) (t m : ℕ) (reply : M.Reply) → IsReached w
      → Next M w (Advance t) (Committed m reply) w' → Is_whole w t reply w' × (m ≡ newest M w')
      × (newest M w' ≡ suc (newest M w))

  -- the transaction that a refusal has ended
  pub record Is_none (w : World M) (t : ℕ) : Type 0 where
    pub was : Open M
    pub is_open : w.active t ≡ Some was
    pub effect : M.whole (tx_of M t was) (latest M w) ≡ None

  -- where a row is refused with a rollback there is no whole effect
  abbrev pub Abort_has_no_effect : Type 0
  Abort_has_no_effect = (w w' : World M) (t : ℕ) (e : M.Refusal) → IsReached w → Next M w (Advance t) (Aborted e) w'
      → Is_none w t

  -- what an open transaction asks for is not turned away on the newest version
  abbrev pub Open_is_known : Type 0
  Open_is_known = (w : World M) (t : ℕ) (o : Open M) → IsReached w → w.active t ≡ Some o
      → M.rejection o.request (latest M w) ≡ None

  -- the transaction that a refusal has ended: its program alone, from the newest version, comes to that refusal, which
  -- it may end with
  pub record Is_refused (w : World M) (t : ℕ) (e : M.Refusal) : Type 0 where
    pub was : Open M
    pub is_open : w.active t ≡ Some was
    pub known : M.rejection was.request (latest M w) ≡ None
    pub good : IsGood M (counts_now M w) (tx_of M t was) (latest M w)
    pub alone : Alone M (tx_of M t was) (latest M w) was.now
    pub cause : M.MayRefuse was.request e
    pub refuses : (M.ask (tx_of M t was) was.now.position (overlay M was.now.changes (latest M w)) ≡ Stop e)
        ⊎ (IsAsked M (all_held M) (M.ask (tx_of M t was) was.now.position (overlay M was.now.changes (latest M w)))
        × (M.act (tx_of M t was) was.now.position (overlay M was.now.changes (latest M w)) ≡ Fail e))

  -- each refusal that ends a transaction is its program's own
  abbrev pub Abort_is_its_own : Type 0
  Abort_is_its_own = (w w' : World M) (t : ℕ) (e : M.Refusal) → IsReached w → Next M w (Advance t) (Aborted e) w'
      → Is_refused w t e

  -- the tables accept each change that a row makes, beside others' open work
  abbrev pub Changes_are_accepted : Type 0
  Changes_are_accepted =
      (w : World M) (t : ℕ) (o : Open M) (c : M.Change) (p : M.Position) → IsReached w → w.active t ≡ Some o
      → IsGranted M w t (M.ask (tx_of M t o) o.now.position (tables M w))
      → M.act (tx_of M t o) o.now.position (tables M w) ≡ Go (Some c) p
      → M.Accepts c (tables M w)

  -- the same transactions, run one at a time, make the history, each on the version before it, with its reply
  abbrev pub History_is_serial : Type 0
  History_is_serial = (w : World M) → IsReached w → IsSerial M w.counts w.base w.history

  -- the stored records are the world's transactions', and the lengths in the world are theirs
  abbrev pub Nothing_is_recorded : Type 0
  Nothing_is_recorded = (b : M.Map) (n : ℕ) (l : M.Layout) → Keeps M (world_at_opening b n l) (no_records M)

  -- what a step does to the store keeps it so
  abbrev pub Records_follow : Type 0
  Records_follow =
      (w v : World M) (u : Undo M) (i : Step M) (a : Answer M) → IsReached w → Keeps M w u → Next M w i a v
      → Keeps M v (undo_after M w u a i)

  -- each world has such records
  abbrev pub World_has_records : Type 0
  World_has_records = (w : World M) → IsReached w → (u : Undo M) × Keeps M w u

  -- the tables are what changes and records put back in place make of them
  abbrev pub Tables_follow : Type 0
  Tables_follow =
      (w v : World M) (u : Undo M) (i : Step M) (a : Answer M) → IsReached w → Keeps M w u → Next M w i a v
      → tables M v ≡ tables_after M w u a i

  -- putting an open transaction's records back, whatever others have done since, gives the tables in which it is
  -- forgotten
  abbrev pub Undo_forgets : Type 0
  Undo_forgets =
      (w : World M) (u : Undo M) (t : ℕ) → IsReached w → Keeps M w u
      → unwind M (u.active t) (tables M w) ≡ tables M (put_active M t None w)

  -- and putting its records since its mark back gives the tables in which it is back at the mark
  abbrev pub Undo_goes_back : Type 0
  Undo_goes_back =
      (w : World M) (u : Undo M) (t : ℕ) (o : Open M) → IsReached w → Keeps M w u → w.active t ≡ Some o
      → unwind M (take (length (u.active t) - length o.mark.changes) (u.active t)) (tables M w)
      ≡ tables M (put_active M t (Some (record o { now = o.mark; lengths = o.mark_lengths })) w)

  -- the tables with all records put back, open transactions' first, are the base
  abbrev pub Base_is_unwound : Type 0
  Base_is_unwound =
      (w : World M) (u : Undo M) (ts : List ℕ) → IsReached w → Keeps M w u → AreAll M w ts
      → unwind_commits M u.history (unwind_open M u.active ts (tables M w)) ≡ w.base

  -- and with the records of open transactions and of commits after a moment put back, they are its version
  abbrev pub Version_is_unwound : Type 0
  Version_is_unwound =
      (w : World M) (u : Undo M) (ts : List ℕ) (m : ℕ) → IsReached w → Keeps M w u → AreAll M w ts
      → unwind_commits M (take (newest M w - m) u.history) (unwind_open M u.active ts (tables M w)) ≡ at M w m

  -- one row of a version is found so, by the records of its key
  abbrev pub Row_is_unwound : Type 0
  Row_is_unwound =
      (w : World M) (u : Undo M) (ts : List ℕ) (m : ℕ) (k : M.Key) → IsReached w → Keeps M w u → AreAll M w ts
      → row_before_commits M k (take (newest M w - m) u.history)
      (row_before_open M k u.active ts (M.row_at (tables M w) k))
      ≡ M.row_at (at M w m) k

  -- what holds between transactions, and is kept by each change that the tables accept, as that each reference finds
  -- its row
  pub record IsKeptByChanges (P : M.Map → Type 0) : Type 0 where
    pub between : (f : ℕ → ℕ) (r : M.Map) → M.Good f r → P r
    pub kept : (c : M.Change) (r : M.Map) → M.Accepts c r → P r → P (M.put c r)

  -- what each change keeps so holds of the tables as they stand
  abbrev pub Holds_of_tables : (M.Map → Type 0) → Type 0
  Holds_of_tables P = (w : World M) → IsReached w → P (tables M w)

  -- also while an open transaction is undone, a record at a time, whatever others have done since
  abbrev pub Holds_while_undone : (M.Map → Type 0) → Type 0
  Holds_while_undone P = (w : World M) (u : Undo M) (t n : ℕ) → IsReached w → Keeps M w u
      → P (unwind M (take n (u.active t)) (tables M w))

  -- it holds while commits are undone too, the newest first
  abbrev pub Holds_while_rewound : (M.Map → Type 0) → Type 0
  Holds_while_rewound P =
      (w : World M) (u : Undo M) (j n : ℕ) → IsReached w → IsQuiet M w → Keeps M w u
      → P (unwind M (take n (get_or u.history j [])) (unwind_commits M (take j u.history) (tables M w)))

  -- what is used of the ring is what the records fill
  abbrev pub Used_is_of_records : Type 0
  Used_is_of_records = (w : World M) (u : Undo M) → Keeps M w u → extents_used M w ≡ used_of M u

  -- no more extents are used than there are
  abbrev pub Extents_suffice : Type 0
  Extents_suffice = (w : World M) → IsReached w → extents_used M w ≤ w.extents

  -- the record of its row doesn't fit the rest of its last extent, and every extent is used
  pub record Is_full (w : World M) (t : ℕ) : Type 0 where
    pub was : Open M
    pub is_open : w.active t ≡ Some was
    pub change : M.Change
    pub position : M.Position
    pub makes : M.act (tx_of M t was) was.now.position (tables M w) ≡ Go (Some change) position
    pub too_long : (fill_of M was.lengths).1 < M.size_of (record_on M w.layout change (tables M w))
    pub all_used : extents_used M w ≡ w.extents

  -- a full ring is answered exactly then
  abbrev pub Full_is_full : Type 0
  Full_is_full = (w w' : World M) (t : ℕ) → IsReached w → Next M w (Advance t) Undo_full w' → Is_full w t

  -- with nothing open the tables are the newest version
  abbrev pub Quiet_tables : Type 0
  Quiet_tables = (w : World M) → IsQuiet M w → tables M w ≡ at M w (newest M w)

  -- a rewind gives the version of its moment, and leaves those before it
  abbrev pub Rewind_restores : Type 0
  Rewind_restores =
      (w w' : World M) (m : ℕ) → Next M w (Rewind m) (Rewound m) w'
      → (tables M w' ≡ at M w m) × (newest M w' ≡ m) × (horizon M w' ≡ horizon M w)
      × ((k : ℕ) → k ≤ m → at M w' k ≡ at M w k)

  -- a purge leaves the tables and all versions from its moment on
  abbrev pub Purge_leaves_later : Type 0
  Purge_leaves_later =
      (w w' : World M) (m : ℕ) → IsReached w → Next M w (Purge m) (Purged m) w'
      → (horizon M w' ≡ m) × (newest M w' ≡ newest M w) × (tables M w' ≡ tables M w)
      × ((k : ℕ) → m ≤ k → k ≤ newest M w → at M w' k ≡ at M w k)

  -- what each whole effect keeps holds of every version
  abbrev pub IsKept : (M.Map → Type 0) → Type 0
  IsKept P = (f : ℕ → ℕ) (x : Tx M.Request) (r after : M.Map) (reply : M.Reply) → IsGood M f x r
      → M.whole x r ≡ Some (after, reply) → P r → P after

  -- a test that whole effects keep holds of each version where it held of the first base
  abbrev pub Holds_of_versions : (M.Map → Type 0) → Type 0
  Holds_of_versions P = (w : World M) (r : IsReached w) → P r.base → (m : ℕ) → P (at M w m)

  -- a test that whole effects keep holds of each version where it holds of the base as it is now
  abbrev pub Holds_from_base : (M.Map → Type 0) → Type 0
  Holds_from_base P = (w : World M) → IsReached w → P w.base → (m : ℕ) → P (at M w m)

  -- as each test that whole effects keep
  abbrev pub Tests_hold_from_base : Type 0
  Tests_hold_from_base = (p : M.Map → Bool) → IsKept (λ r. p r ≡ true) → Holds_from_base (λ r. p r ≡ true)

  -- what holds between transactions holds of each version
  abbrev pub Versions_are_good : Type 0
  Versions_are_good = (w : World M) → IsReached w → (m : ℕ) → M.Good (counts_at M w m) (at M w m)

  -- where a step may be answered by a want of memory, it changes nothing, and could also be answered so
  pub data Stands_for (w : World M) : Step M → Type 0 where
    begins_else : (t : ℕ) (q : M.Request) (v : World M) → Next M w (Begin t q) Begun v → Stands_for w (Begin t q)
    goes_else : (t : ℕ) (v : World M) → Next M w (Advance t) More v → Stands_for w (Advance t)
    full_else : (t : ℕ) → Next M w (Advance t) Undo_full w → Stands_for w (Advance t)
    stops_else : (t : ℕ) (o : Open M) (e : M.Refusal) (v : World M) → w.active t ≡ Some o
        → M.yields (tx_of M t o) o.now.position e ≡ true
        → Next M w (Advance t) (Aborted e) v → Stands_for w (Advance t)

  -- a want of memory is answered only so
  abbrev pub Want_stands_for : Type 0
  Want_stands_for = (w w' : World M) (i : Step M) → Next M w i No_memory w' → (w' ≡ w) × Stands_for w i

  -- a step of a terminal that there is, of a request within its ranges
  abbrev pub IsStep : Step M → Type 0
  IsStep (Begin t q) = IsTerminal M t × M.IsRequest q
  IsStep (Advance t) = Unit {0}
  IsStep (Save t) = Unit {0}
  IsStep (Back t) = Unit {0}
  IsStep (Rollback t) = Unit {0}
  IsStep (Read m q) = Unit {0}
  IsStep (Audit m c) = Unit {0}
  IsStep (Purge m) = Unit {0}
  IsStep (Rewind m) = Unit {0}

  -- there is such an answer
  pub record IsAnswered (w : World M) (i : Step M) : Type 0 where
    pub answer : Answer M
    pub after : World M
    pub next : Next M w i answer after
    pub other : answer ≢ No_memory

  -- there is such an answer for each step
  abbrev pub Each_is_answered : Type 0
  Each_is_answered = (w : World M) (i : Step M) → IsReached w → IsStep i → IsAnswered w i

  -- but for a want of memory, a world and a script determine the answers and the world after it
  abbrev pub IsWithout : Answer M → List (Answer M) → Type 0
  IsWithout b [] = Unit {0}
  IsWithout b (a ∷ ys) = (a ≢ b) × IsWithout b ys

  -- two runs of one script without it are the same
  abbrev pub Answers_are_determined : Type 0
  Answers_are_determined =
      (w v v' : World M) (is : List (Step M)) (ys ys' : List (Answer M)) → Runs M w is ys v → Runs M w is ys' v'
      → IsWithout No_memory ys → IsWithout No_memory ys' → (ys ≡ ys') × (v ≡ v')

  -- the answers of a script without it, and the world that it leaves: there are such, and no others
  pub record Is_only_run (w : World M) (is : List (Step M)) : Type 0 where
    pub answers : List (Answer M)
    pub last : World M
    pub run : Runs M w is answers last
    pub memory : IsWithout No_memory answers
    pub only : (ys : List (Answer M)) (v : World M) → Runs M w is ys v → IsWithout No_memory ys
        → (ys ≡ answers) × (v ≡ last)

  abbrev pub AreSteps : List (Step M) → Type 0
  AreSteps [] = Unit {0}
  AreSteps (i ∷ is) = IsStep i × AreSteps is

  -- but for wants of memory, a script's answers and the last world are a function of the world and the script
  abbrev pub Scripts_are_answered : Type 0
  Scripts_are_answered = (w : World M) (is : List (Step M)) → IsReached w → AreSteps is → Is_only_run w is
