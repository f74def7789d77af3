-- Of a transaction that runs alone, in any machine: its beginning, its stages and its end.
use Rattle.std.proofs.Common.{◌≡◌, ℕ, suc, Option, None, Some, refl, sym, ap, subst, ◌∙◌, inl, inr, arith}
use Rattle.std.specs.Prelude.{◌≢◌, ◌⊎◌}
use Rattle.std.proofs.lemmas.Bool.{cases_eq}
use Rattle.oe_theory.specs.Machine.{Machine, Tx, Outcome, Here, Missing}
use Rattle.oe_theory.specs.World.{World, Open, set, bump, tx_of, at, newest, latest, counts_now, tables}
use Rattle.oe_theory.specs.Laws.{Laws}
use Rattle.oe_theory.specs.Next.{Next, Step, Answer, Begin, Advance, Purge, Read}
use Rattle.oe_theory.specs.Next.{Begun, More, Committed, Aborted, Rejected, Replied, Undo_full, No_memory}
use Rattle.oe_theory.specs.Next.{IsQuiet, open_at_begin, open_after, put_active, after_commit, begins, goes_on, commits}
use Rattle.oe_theory.specs.Next.{purges, stops, fails, is_busy, is_full, reads, misses, query_is_rejected}
use Rattle.oe_theory.specs.Next.{is_rejected, is_open, number_is_rejected, not_open, too_old}
use Rattle.oe_theory.specs.Next.{future, lacks_memory_at_begin, lacks_memory}
use Rattle.oe_theory.specs.Theorems.{IsReached, Is_whole, Is_none, Is_refused}
use Rattle.oe_theory.proofs.Sets.{set_same, set_other, some_inj, some_none}
use Rattle.oe_theory.proofs.Steps.{purged_latest, purged_counts}
use Rattle.oe_theory.proofs.Past.{quiet_tables, latest_at}
use Rattle.oe_theory.proofs.Theorems.{commit_is_whole, abort_has_no_effect, abort_is_its_own}
use Rattle.oe_file_serial.specs.InOrder.{Between, next_of, Commits, Stops, RollsBack, Refuses, Finds, Misses, between}
use Rattle.oe_file_serial.specs.InOrder.{HasOpen}

module _ (M : Machine) (L : Laws M) where
  open M use {Map, Request, Reply, Refusal}

  -- ITS BEGINNING

  begun_by : (w : World M) (i : Step M) (a : Answer M) (v : World M) (t : ℕ) (q : Request) → IsQuiet M w
      → Next M w i a v → i ≡ Begin t q → a ≡ Begun → HasOpen M (between M w) t q v
  begun_by w _ _ _ t q quiet (begins u r m) i a =
      let same_t : u ≡ t = cc in
      let same_q : r ≡ q = cc in
      let v : World M = put_active M u (Some (open_at_begin M w u r)) w in
      subst (λ (z : ℕ). HasOpen M (between M w) z q v) same_t
      (subst (λ (z : Request). HasOpen M (between M w) u z v) same_q
      (record {
        begins = record {
          known = subst (λ (z : Map). M.rejection r z ≡ None) (quiet_tables M L w quiet) m.known;
          numbered = m.counted;
        };
        who = open_at_begin M w u r;
        is_open = set_same u (Some (open_at_begin M w u r)) w.active u refl;
        asked = refl;
        number = refl;
        alone = λ x ne. set_other u (Some (open_at_begin M w u r)) w.active x ne ∙ quiet x;
        same = refl;
      }))
  begun_by w _ _ _ t q quiet n i a = cc

  pub begun_alone : (w v : World M) (t : ℕ) (q : Request) → IsQuiet M w → Next M w (Begin t q) Begun v
      → HasOpen M (between M w) t q v
  begun_alone w v t q quiet n = begun_by w _ _ v t q quiet n refl refl

  -- A STAGE

  more_by : (b : Between M) (t : ℕ) (q : Request) (w : World M) (i : Step M) (a : Answer M) (v : World M)
      → HasOpen M b t q w → Next M w i a v → i ≡ Advance t → a ≡ More → HasOpen M b t q v
  more_by b t q w _ _ _ h (goes_on u o c p e g r room) i a =
      let same : u ≡ t = cc in
      let k : HasOpen M b u q w = subst (λ (z : ℕ). HasOpen M b z q w) (sym same) h in
      let own : o ≡ k.who = some_inj _ _ (sym e ∙ k.is_open) in
      let next : Open M = open_after M w.layout o (M.ask (tx_of M u o) o.now.position (tables M w)) c p (tables M w) in
      let v : World M = put_active M u (Some next) w in
      subst (λ (z : ℕ). HasOpen M b z q v) same
      (record {
        begins = k.begins;
        who = next;
        is_open = set_same u (Some next) w.active u refl;
        asked = ap (λ (x : Open M). x.request) own ∙ k.asked;
        number = ap (λ (x : Open M). x.number) own ∙ k.number;
        alone = λ x ne. set_other u (Some next) w.active x ne ∙ k.alone x ne;
        same = k.same;
      })
  more_by b t q w _ _ _ h n i a = cc

  pub more_alone : (b : Between M) (t : ℕ) (q : Request) (w v : World M) → HasOpen M b t q w
      → Next M w (Advance t) More v → HasOpen M b t q v
  more_alone b t q w v h n = more_by b t q w _ _ v h n refl refl

  -- WHO IS OPEN IS THE NEXT TRANSACTION

  is_next : (b : Between M) (t : ℕ) (q : Request) (w : World M) → HasOpen M b t q w → (o : Open M)
      → w.active t ≡ Some o → tx_of M t o ≡ next_of M b t q
  is_next b t q w h o e =
      let own : o ≡ h.who = some_inj _ _ (sym e ∙ h.is_open) in
      let number : o.number ≡ suc (b.counts t) = ap (λ (x : Open M). x.number) own ∙ h.number in
      let asked : o.request ≡ q = ap (λ (x : Open M). x.request) own ∙ h.asked in
      λ i. record { terminal = t; number = number i; request = asked i }

  rows_are : (b : Between M) (t : ℕ) (q : Request) (w : World M) → HasOpen M b t q w → latest M w ≡ b.rows
  rows_are b t q w h = ap (λ (z : Between M). z.rows) h.same

  -- ITS COMMIT

  record Left (w : World M) (t : ℕ) (v : World M) : Type 0 where
    counts : counts_now M v ≡ bump t (counts_now M w)
    active : v.active ≡ set t None w.active

  left_by : (w : World M) (i : Step M) (a : Answer M) (v : World M) (t m : ℕ) (y : Reply) → Next M w i a v
      → i ≡ Advance t → a ≡ Committed m y → Left w t v
  left_by w _ _ _ t m y (commits u o reply e g r) i a =
      let same : u ≡ t = cc in
      let v : World M = after_commit M w u o reply in
      subst (λ (z : ℕ). Left w z v) same (record { counts = refl; active = refl })
  left_by w _ _ _ t m y n i a = cc

  quiet_without : (b : Between M) (t : ℕ) (q : Request) (w : World M) → HasOpen M b t q w
      → (u : ℕ) → set t None w.active u ≡ None
  quiet_without b t q w h u = go (cases_eq u t)
    where
      go : (u ≡ t) ⊎ (u ≢ t) → set t None w.active u ≡ None
      go (inl same) = set_same t None w.active u same
      go (inr ne) = set_other t None w.active u ne ∙ h.alone u ne

  pub commits_alone : (b : Between M) (t : ℕ) (q : Request) (w v : World M) (m : ℕ) (y : Reply) → IsReached M w
      → HasOpen M b t q w → Next M w (Advance t) (Committed m y) v
      → Commits M b t q y (between M v) × IsQuiet M v
  commits_alone b t q w v m y reached h n =
      let whole : Is_whole M w t y v = (commit_is_whole M L w v t m y reached n).0 in
      let left : Left w t v = left_by w _ _ v t m y n refl refl in
      let next = is_next b t q w h whole.was whole.is_open in
      let rows = rows_are b t q w h in (
        record {
          begins = h.begins;
          effect = ap (λ (x : Tx Request). M.whole x b.rows) (sym next)
              ∙ (ap (M.whole (tx_of M t whole.was)) (sym rows)
              ∙ (whole.effect ∙ ap (λ (r : Map). Some (r, y)) (sym whole.next)));
          counts = left.counts ∙ ap (λ (z : Between M). bump t z.counts) h.same;
        },
        λ u. ap (λ (f : ℕ → Option (Open M)). f u) left.active ∙ quiet_without b t q w h u,
      )

  -- ITS ROLLBACK

  pub aborts_alone : (b : Between M) (t : ℕ) (q : Request) (w v : World M) (e : Refusal) → IsReached M w
      → HasOpen M b t q w → Next M w (Advance t) (Aborted e) v → RollsBack M b t q e
  aborts_alone b t q w v e reached h n =
      let none : Is_none M w t = abort_has_no_effect M L w v t e reached n in
      let own : Is_refused M w t e = abort_is_its_own M L w v t e reached n in
      let rows = rows_are b t q w h in
      let stops : Stops M (tx_of M t own.was) (latest M w) e =
      record { at = own.was.now; alone = own.alone; refuses = own.refuses } in
      record {
        begins = h.begins;
        effect = ap (λ (x : Tx Request). M.whole x b.rows) (sym (is_next b t q w h none.was none.is_open))
            ∙ (ap (M.whole (tx_of M t none.was)) (sym rows) ∙ none.effect);
        stops = subst (λ (x : Tx Request). Stops M x b.rows e) (is_next b t q w h own.was own.is_open)
            (subst (λ (r : Map). Stops M (tx_of M t own.was) r e) rows stops);
      }

  -- WHAT A REFUSAL LEAVES

  -- nothing is open, and commits have left the same
  pub record Leaves (b : Between M) (v : World M) : Type 0 where
    pub same : between M v ≡ b
    pub quiet : IsQuiet M v

  aborted_by : (b : Between M) (t : ℕ) (q : Request) (w : World M) (i : Step M) (a : Answer M) (v : World M)
      (e : Refusal) → HasOpen M b t q w → Next M w i a v → i ≡ Advance t → a ≡ Aborted e → Leaves b v
  aborted_by b t q w _ _ _ e h (stops u o x f r) i a =
      let same : u ≡ t = cc in
      let k : HasOpen M b u q w = subst (λ (z : ℕ). HasOpen M b z q w) (sym same) h in
      record { same = k.same; quiet = quiet_without b u q w k }
  aborted_by b t q w _ _ _ e h (fails u o x f g r) i a =
      let same : u ≡ t = cc in
      let k : HasOpen M b u q w = subst (λ (z : ℕ). HasOpen M b z q w) (sym same) h in
      record { same = k.same; quiet = quiet_without b u q w k }
  aborted_by b t q w _ _ _ e h n i a = cc

  pub aborted_leaves : (b : Between M) (t : ℕ) (q : Request) (w v : World M) (e : Refusal) → HasOpen M b t q w
      → Next M w (Advance t) (Aborted e) v → Leaves b v
  aborted_leaves b t q w v e h n = aborted_by b t q w _ _ v e h n refl refl

  rejected_by : (w : World M) (i : Step M) (a : Answer M) (v : World M) (t : ℕ) (q : Request) (e : Refusal)
      → Next M w i a v → i ≡ Begin t q → a ≡ Rejected e → v ≡ w
  rejected_by w _ _ _ t q e (is_rejected u r x h) i a = refl
  rejected_by w _ _ _ t q e (number_is_rejected u r x h none g) i a = refl
  rejected_by w _ _ _ t q e n i a = cc

  pub rejected_stays : (w v : World M) (t : ℕ) (q : Request) (e : Refusal) → Next M w (Begin t q) (Rejected e) v
      → v ≡ w
  rejected_stays w v t q e n = rejected_by w _ _ v t q e n refl refl

  -- WHAT A QUERY OF THE NEWEST MOMENT IS ANSWERED WHERE NOTHING IS OPEN

  abbrev pub OfRead : Map → M.Query → Answer M → Type 0
  OfRead r q (Replied f) = Finds M r q f
  OfRead r q (Rejected e) = Misses M r q e
  OfRead r q a = ⊥

  known_here : (w : World M) (q : M.Query) (o : Option Refusal) → IsQuiet M w
      → M.query_rejection q (tables M w) ≡ o → M.query_rejection q (latest M w) ≡ o
  known_here w q o quiet e = subst (λ (z : Map). M.query_rejection q z ≡ o) (quiet_tables M L w quiet) e

  found_here : (w : World M) (q : M.Query) (m : ℕ) (o : Outcome M.Found Refusal) → m ≡ newest M w
      → M.find q (at M w m) ≡ o → M.find q (latest M w) ≡ o
  found_here w q m o is e =
      ap (M.find q) (latest_at M L w) ∙ (ap (λ (n : ℕ). M.find q (at M w n)) (sym is) ∙ e)

  of_read_by : (w : World M) (i : Step M) (a : Answer M) (v : World M) (m : ℕ) (q : M.Query) → IsQuiet M w
      → Next M w i a v → i ≡ Read m q → m ≡ newest M w → OfRead (latest M w) q a
  of_read_by w _ _ _ m q quiet (reads k r f none l u h) i is =
      let same_m : k ≡ m = cc in
      let same_q : r ≡ q = cc in
      subst (λ (z : M.Query). Finds M (latest M w) z f) same_q
      (known_here w r None quiet none, found_here w r k (Here f) (same_m ∙ is) h)
  of_read_by w _ _ _ m q quiet (query_is_rejected k r e h) i is =
      let same_q : r ≡ q = cc in
      subst (λ (z : M.Query). Misses M (latest M w) z e) same_q (inl (known_here w r (Some e) quiet h))
  of_read_by w _ _ _ m q quiet (misses k r e none l u h) i is =
      let same_m : k ≡ m = cc in
      let same_q : r ≡ q = cc in
      subst (λ (z : M.Query). Misses M (latest M w) z e) same_q
      (inr (known_here w r None quiet none, found_here w r k (Missing e) (same_m ∙ is) h))
  of_read_by w _ _ _ m q quiet (not_open (Read k r) t e none) i is = let no : ⊥ = cc in no
  of_read_by w _ _ _ m q quiet (too_old (Read k r) n e p l) i is =
      let same : k ≡ m = cc in
      let named : k ≡ n = some_inj _ _ e in
      omega (arith, l, is, same, named)
  of_read_by w _ _ _ m q quiet (future (Read k r) n e p l) i is =
      let same : k ≡ m = cc in
      let named : k ≡ n = some_inj _ _ e in
      omega (arith, l, is, same, named)
  of_read_by w _ _ _ m q quiet n i is = cc

  pub of_read : (w v : World M) (m : ℕ) (q : M.Query) (a : Answer M) → IsQuiet M w → Next M w (Read m q) a v
      → m ≡ newest M w → OfRead (latest M w) q a
  of_read w v m q a quiet n is = of_read_by w _ a v m q quiet n refl is

  -- WHAT AN ADVANCE IS ANSWERED WHERE ITS TRANSACTION IS ALONE

  abbrev pub OfAdvance : Answer M → Type 0
  OfAdvance More = Unit {0}
  OfAdvance (Committed m y) = Unit {0}
  OfAdvance (Aborted e) = Unit {0}
  OfAdvance Undo_full = Unit {0}
  OfAdvance No_memory = Unit {0}
  OfAdvance a = ⊥

  pub of_advance : (b : Between M) (t : ℕ) (q : Request) (w : World M) (i : Step M) (a : Answer M) (v : World M)
      → HasOpen M b t q w → Next M w i a v → i ≡ Advance t → OfAdvance a
  of_advance b t q w _ _ _ h (goes_on u o c p e g r room) i = tt
  of_advance b t q w _ _ _ h (commits u o y e g r) i = tt
  of_advance b t q w _ _ _ h (stops u o x e r) i = tt
  of_advance b t q w _ _ _ h (fails u o x e g r) i = tt
  of_advance b t q w _ _ _ h (is_busy u o n m other e asks way) i =
      let same : u ≡ t = cc in
      let free : w.active other ≡ None = h.alone other (λ z. way.other (z ∙ sym same)) in
      some_none way.who (sym way.is_open ∙ free)
  of_advance b t q w _ _ _ h (is_full u o c p e g r f) i = tt
  of_advance b t q w _ _ _ h (lacks_memory u o e m) i = tt
  of_advance b t q w _ _ _ h (not_open (Advance x) u e none) i =
      let named : x ≡ t = cc in
      let same : x ≡ u = cc in
      some_none h.who (sym h.is_open ∙ (ap w.active (sym named ∙ same) ∙ none))
  of_advance b t q w _ _ _ h (too_old (Advance x) m e p l) i = let no : ⊥ = cc in no
  of_advance b t q w _ _ _ h (future (Advance x) m e p l) i = let no : ⊥ = cc in no
  of_advance b t q w _ _ _ h n i = cc

  -- WHAT A BEGIN IS ANSWERED WHERE NOTHING IS OPEN

  abbrev pub OfBegin : Between M → ℕ → Request → Answer M → Type 0
  OfBegin b t q Begun = Unit {0}
  OfBegin b t q (Rejected e) = Refuses M b t q e
  OfBegin b t q No_memory = Unit {0}
  OfBegin b t q a = ⊥

  pub of_begin : (w : World M) (i : Step M) (a : Answer M) (v : World M) (t : ℕ) (q : Request) → IsQuiet M w
      → Next M w i a v → i ≡ Begin t q → OfBegin (between M w) t q a
  of_begin w _ _ _ t q quiet (begins u r m) i = tt
  of_begin w _ _ _ t q quiet (is_rejected u r e h) i =
      let same_q : r ≡ q = cc in
      let known : M.rejection r (latest M w) ≡ Some e =
      subst (λ (z : Map). M.rejection r z ≡ Some e) (quiet_tables M L w quiet) h in
      inl (subst (λ (z : Request). M.rejection z (latest M w) ≡ Some e) same_q known)
  of_begin w _ _ _ t q quiet (number_is_rejected u r e h none g) i =
      let same_t : u ≡ t = cc in
      let same_q : r ≡ q = cc in
      let known : M.rejection r (latest M w) ≡ None =
      subst (λ (z : Map). M.rejection r z ≡ None) (quiet_tables M L w quiet) h in
      inr (inl (
        subst (λ (z : Request). M.rejection z (latest M w) ≡ None) same_q known,
        subst (λ (z : ℕ). M.number_rejection (suc (counts_now M w z)) ≡ Some e) same_t g,
      ))
  of_begin w _ _ _ t q quiet (is_open u r o h e) i = some_none o (sym e ∙ quiet u)
  of_begin w _ _ _ t q quiet (lacks_memory_at_begin u r m) i = tt
  of_begin w _ _ _ t q quiet (not_open (Begin u r) x e none) i = let no : ⊥ = cc in no
  of_begin w _ _ _ t q quiet (too_old (Begin u r) m e p l) i = let no : ⊥ = cc in no
  of_begin w _ _ _ t q quiet (future (Begin u r) m e p l) i = let no : ⊥ = cc in no
  of_begin w _ _ _ t q quiet n i = cc

  -- A PURGE

  pub record Stays (w v : World M) : Type 0 where
    pub same : between M v ≡ between M w
    pub active : v.active ≡ w.active

  stays_by : (w : World M) (i : Step M) (a : Answer M) (v : World M) (m : ℕ) → Next M w i a v → i ≡ Purge m
      → Stays w v
  stays_by w _ _ _ m (purges k l u) i = record {
    same = λ j. record { rows = purged_latest M L w k j; counts = purged_counts M L w k j };
    active = refl;
  }
  stays_by w _ _ _ m (not_open s t e h) i = record { same = refl; active = refl }
  stays_by w _ _ _ m (too_old s k e p h) i = record { same = refl; active = refl }
  stays_by w _ _ _ m (future s k e p h) i = record { same = refl; active = refl }
  stays_by w _ _ _ m n i = cc

  pub purge_stays : (w v : World M) (m : ℕ) (a : Answer M) → Next M w (Purge m) a v → Stays w v
  purge_stays w v m a n = stays_by w _ a v m n refl
