-- The records that are stored follow each step, and putting them back gives the versions.
use Rattle.std.proofs.Common.{◌≡◌, ℕ, suc, zero, ◌-◌, ◌==◌, Bool, true, false, cond, Option, None, Some, List, [], ◌∷◌}
use Rattle.std.proofs.Common.{◌++◌, take, drop, length, length-append, refl, sym, ap, ◌∙◌, subst, inl, inr, arith}
use Rattle.std.specs.Prelude.{◌⊎◌, ◌≢◌}
use Rattle.std.proofs.lemmas.List.{take-append-drop}
use Rattle.oe_theory.specs.Machine.{Machine, Mode, Exclusive, Guard, Free, Under, Own, Tx, Act, Go, Ready}
use Rattle.oe_theory.specs.World.{set, State, Open, Commit, World, tx_of, overlay, add, net, map_after, version, newest}
use Rattle.oe_theory.specs.World.{latest, tables}
use Rattle.oe_theory.specs.Next.{record_on, add_length, put_active, open_at_begin, open_after, IsGranted}
use Rattle.oe_theory.specs.Next.{after_commit, Step, Answer}
use Rattle.oe_theory.specs.Next.{Next, begins, goes_on, commits, saves, goes_back, rolls_back, purges, rewinds, stops}
use Rattle.oe_theory.specs.Next.{fails}
use Rattle.oe_theory.specs.Laws.{MayRead, MayWrite, Alike, held_of, Reached, at_start, one_more, Sound, Laws}
use Rattle.oe_theory.specs.Undo.{Undo, records_of, lengths_of, unwind, unwind_open, unwind_commits, row_before}
use Rattle.oe_theory.specs.Undo.{row_before_open, row_before_commits, IsAmong, AreAll, IsOfCommit, AreOfCommits}
use Rattle.oe_theory.specs.Undo.{IsOfOpen}
use Rattle.oe_theory.specs.Undo.{Keeps, no_records, with_record, records_after, records_at_mark, put_records}
use Rattle.oe_theory.specs.Undo.{undo_after}
use Rattle.oe_theory.specs.Theorems.{world_at_opening}
use Rattle.oe_theory.proofs.Sets.{set_same, set_other, set_idle, set_cases, some_none, some_inj, enough_shared}
use Rattle.oe_theory.proofs.Replay.{alike_overlay, reached_writes}
use Rattle.oe_theory.proofs.Tables.{alike_other}
use Rattle.oe_theory.proofs.Steps.{row_alone, acts_alone, to_alone, commit_whole, sound_drop, version-append}
use Rattle.oe_theory.proofs.Steps.{purged_latest}
use Rattle.oe_theory.proofs.Past.{quiet_tables}
use Rattle.oe_theory.proofs.Undo.{undo_whole, undo_forgets, undo_goes_back}

module _ (M : Machine) (L : Laws M) where
  open M use {
    Map,
    Key,
    Row,
    Change,
    Record,
    Name,
    Position,
    Reply,
    Refusal,
    is_key,
    row_at,
    key_of,
    row_of,
    record_of,
    record_key,
    restore,
    size_of,
    governs,
    ask,
    act,
    marks,
    whole,
  }
  open L use {key_refl, at_put_back}

  readable : (held : Name → Option Mode) (x : Tx M.Request) (g : Guard Name) → MayWrite M (held_of M held) x g
      → MayRead M (held_of M held) x g
  readable held x Free h = h
  readable held x (Under n) h = enough_shared (held n) Exclusive h
  readable held x (Own i j) h = h

  -- the records are the same on a map that is alike
  records_alike : (l : M.Layout) (held : Name → Option Mode) (x : Tx M.Request) (r r' : Map)
      → Alike M (held_of M held) x r r'
      → (s : State M) → Reached M held x r s
      → records_of M l r s.changes ≡ records_of M l r' s.changes
  records_alike l held x r r' a _ at_start = refl
  records_alike l held x r r' a _ (one_more s None p w i e) = records_alike l held x r r' a s w
  records_alike l held x r r' a _ (one_more s (Some c) p w i e) =
      ap (λ z. record_of l c z ∷ records_of M l r s.changes)
      ((alike_overlay M L (held_of M held) x s.changes r r' a).rows (key_of c)
      (readable held x (governs (key_of c))
      (reached_writes M L held x r (record { position = p; changes = c ∷ s.changes }) (one_more s (Some c) p w i e)
      (key_of c) (row_of c)
      (ap (λ z. cond z (Some (row_of c)) (net M s.changes (key_of c))) (key_refl (key_of c))))))
      ∙ ap (λ z. record_on M l c (overlay M s.changes r') ∷ z) (records_alike l held x r r' a s w)

  of_open_alike : (w : World M) → Sound M w → (r' : Map) (t : ℕ) (o : Open M) → w.active t ≡ Some o → (bs : List Record)
      → Alike M (held_of M o.held) (tx_of M t o) (latest M w) r' → IsOfOpen M w.layout (latest M w) o bs
      → IsOfOpen M w.layout r' o bs
  of_open_alike w s r' t o e bs a k =
      record {
        records = k.records ∙ records_alike w.layout o.held (tx_of M t o) (latest M w) r' a o.now (s.each t o e).now;
        lengths = k.lengths;
        mark_lengths = k.mark_lengths ∙ ap (lengths_of M)
            (records_alike w.layout o.held (tx_of M t o) (latest M w) r' a o.mark (s.each t o e).mark);
      }

  -- a transaction that changes, and one that ends
  keeps_put : (w : World M) (u : Undo M) → Keeps M w u → (t : ℕ) (o : Open M) (bs : List Record)
      → IsOfOpen M w.layout (latest M w) o bs
      → Keeps M (put_active M t (Some o) w) (put_records M t bs u)
  keeps_put w u k t o bs h =
      record {
        commits = k.commits;
        opens = λ i x p. one i x (set_cases t (Some o) w.active i x p);
        others = λ i p. none i p;
      }
    where
      one : (i : ℕ) (x : Open M) → ((i ≡ t) × (Some o ≡ Some x)) ⊎ ((i ≢ t) × (w.active i ≡ Some x))
          → IsOfOpen M w.layout (latest M w) x (set t bs u.active i)
      one i x (inl q) =
          subst (λ (z : Open M). IsOfOpen M w.layout (latest M w) z (set t bs u.active i)) (some_inj o x q.1)
          (subst (IsOfOpen M w.layout (latest M w) o) (sym (set_same t bs u.active i q.0)) h)
      one i x (inr q) = subst (IsOfOpen M w.layout (latest M w) x) (sym (set_other t bs u.active i q.0))
          (k.opens i x q.1)

      none : (i : ℕ) → set t (Some o) w.active i ≡ None → set t bs u.active i ≡ []
      none i p = set_other t bs u.active i apart ∙ k.others i (sym (set_other t (Some o) w.active i apart) ∙ p)
        where
          apart : i ≢ t
          apart q = some_none o (sym (set_same t (Some o) w.active i q) ∙ p)

  -- where its records stay
  keeps_same : (w : World M) (u : Undo M) → Keeps M w u → (t : ℕ) (o : Open M)
      → IsOfOpen M w.layout (latest M w) o (u.active t)
      → Keeps M (put_active M t (Some o) w) u
  keeps_same w u k t o h =
      subst (λ (f : ℕ → List Record). Keeps M (put_active M t (Some o) w) (record { active = f; history = u.history }))
      (set_idle t (u.active t) u.active refl)
      (keeps_put w u k t o (u.active t) h)

  still_open : (t : ℕ) (active : ℕ → Option (Open M)) (i : ℕ) (x : Open M) → set t None active i ≡ Some x
      → (i ≢ t) × (active i ≡ Some x)
  still_open t active i x p = go (set_cases t None active i x p)
    where
      go : ((i ≡ t) × (None ≡ Some x)) ⊎ ((i ≢ t) × (active i ≡ Some x)) → (i ≢ t) × (active i ≡ Some x)
      go (inl h) = absurd (some_none x (sym h.1))
      go (inr h) = h

  none_left : (w : World M) (u : Undo M) → Keeps M w u → (t i : ℕ) → set t None w.active i ≡ None
      → set t [] u.active i ≡ []
  none_left w u k t i p = go (i == t) p
    where
      go : (b : Bool) → cond b None (w.active i) ≡ None → cond b [] (u.active i) ≡ []
      go true p = refl
      go false p = k.others i p

  pub keeps_drop : (w : World M) (u : Undo M) → Keeps M w u → (t : ℕ)
      → Keeps M (put_active M t None w) (put_records M t [] u)
  keeps_drop w u k t =
      record {
        commits = k.commits;
        opens = λ i x p. let h = still_open t w.active i x p in
            subst (IsOfOpen M w.layout (latest M w) x) (sym (set_other t [] u.active i h.0)) (k.opens i x h.1);
        others = none_left w u k t;
      }

  -- a row that goes on
  keeps_goes : (w : World M) → Sound M w → (u : Undo M) → Keeps M w u
      → (t : ℕ) (o : Open M) (c : Option Change) (p : Position) → w.active t ≡ Some o
      → IsGranted M w t (ask (tx_of M t o) o.now.position (tables M w))
      → act (tx_of M t o) o.now.position (tables M w) ≡ Go c p
      → IsOfOpen M w.layout (latest M w)
      (open_after M w.layout o (ask (tx_of M t o) o.now.position (tables M w)) c p (tables M w))
      (with_record M w.layout (Go c p) (tables M w) (u.active t))
  keeps_goes w s u k t o c p e g r =
      record {
        records = pushes c r;
        lengths = longer c;
        mark_lengths = marked (marks o.now.position);
      }
    where
      pushes : (c : Option Change) → act (tx_of M t o) o.now.position (tables M w) ≡ Go c p
          → with_record M w.layout (Go c p) (tables M w) (u.active t)
          ≡ records_of M w.layout (latest M w) (add M c o.now.changes)
      pushes None r = (k.opens t o e).records
      pushes (Some c) r =
          ap (λ z. record_of w.layout c z ∷ u.active t) (row_alone M L w s t o c p e g r)
          ∙ ap (λ z. record_on M w.layout c (overlay M o.now.changes (latest M w)) ∷ z) (k.opens t o e).records

      longer : (c : Option Change) → add_length M w.layout c (tables M w) o.lengths ≡ lengths_of M
          (with_record M w.layout (Go c p) (tables M w) (u.active t))
      longer None = (k.opens t o e).lengths
      longer (Some c) = ap (λ z. size_of (record_on M w.layout c (tables M w)) ∷ z) (k.opens t o e).lengths

      marked : (b : Bool) → cond b o.lengths o.mark_lengths ≡ lengths_of M
          (records_of M w.layout (latest M w) (cond b o.now o.mark).changes)
      marked true = (k.opens t o e).lengths ∙ ap (lengths_of M) (k.opens t o e).records
      marked false = (k.opens t o e).mark_lengths

  overlay-append : (xs ys : List Change) (r : Map) → overlay M xs (overlay M ys r) ≡ overlay M (xs ++ ys) r
  overlay-append [] ys r = refl
  overlay-append (x ∷ xs) ys r = ap (M.put x) (overlay-append xs ys r)

  pub records-append : (l : M.Layout) (xs ys : List Change) (r : Map) → records_of M l r (xs ++ ys)
      ≡ records_of M l (overlay M ys r) xs
      ++ records_of M l r ys
  records-append l [] ys r = refl
  records-append l (x ∷ xs) ys r =
      ap (λ z. record_of l x (row_at z (key_of x)) ∷ records_of M l r (xs ++ ys)) (sym (overlay-append xs ys r))
      ∙ ap (λ z. record_on M l x (overlay M xs (overlay M ys r)) ∷ z) (records-append l xs ys r)

  pub lengths-append : (xs ys : List Record) → lengths_of M (xs ++ ys) ≡ lengths_of M xs ++ lengths_of M ys
  lengths-append [] ys = refl
  lengths-append (x ∷ xs) ys = ap (λ z. size_of x ∷ z) (lengths-append xs ys)

  pub length-records : (l : M.Layout) (cs : List Change) (r : Map) → length (records_of M l r cs) ≡ length cs
  length-records l [] r = refl
  length-records l (c ∷ cs) r = ap suc (length-records l cs r)

  pub drop_front : (xs ys : List Record) (n : ℕ) → n ≡ length xs → drop n (xs ++ ys) ≡ ys
  drop_front [] ys n e = ap (λ (z : ℕ). drop z ys) e
  drop_front (x ∷ xs) ys n e = ap (λ (z : ℕ). drop z (x ∷ xs ++ ys)) e ∙ drop_front xs ys (length xs) refl

  take_front : (xs ys : List Record) (n : ℕ) → n ≡ length xs → take n (xs ++ ys) ≡ xs
  take_front [] ys n e = ap (λ (z : ℕ). take z ys) e
  take_front (x ∷ xs) ys n e = ap (λ (z : ℕ). take z (x ∷ xs ++ ys)) e
      ∙ ap (λ z. x ∷ z) (take_front xs ys (length xs) refl)

  -- an open transaction's records are those since the mark and those at the mark
  pub parted : (w : World M) (s : Sound M w) (u : Undo M) → Keeps M w u → (t : ℕ) (o : Open M) (e : w.active t ≡ Some o)
      → u.active t ≡ records_of M w.layout (overlay M o.mark.changes (latest M w)) (s.each t o e).since
      ++ records_of M w.layout (latest M w) o.mark.changes
  parted w s u k t o e =
      (k.opens t o e).records
      ∙ (ap (records_of M w.layout (latest M w)) (s.each t o e).split
      ∙ records-append w.layout (s.each t o e).since o.mark.changes
      (latest M w))

  pub since_mark : (w : World M) (s : Sound M w) (u : Undo M) → Keeps M w u
      → (t : ℕ) (o : Open M) (e : w.active t ≡ Some o)
      → length (u.active t) - length o.mark.changes ≡ length
      (records_of M w.layout (overlay M o.mark.changes (latest M w)) (s.each t o e).since)
  since_mark w s u k t o e =
      let front = records_of M w.layout (overlay M o.mark.changes (latest M w)) (s.each t o e).since in
      let back = records_of M w.layout (latest M w) o.mark.changes in
      let a : length (u.active t) ≡ length (front ++ back) = ap length (parted w s u k t o e) in
      let b : length back ≡ length o.mark.changes = length-records w.layout o.mark.changes (latest M w) in
      omega (arith, length-append front back, a, b)

  cut_mark : (w : World M) → Sound M w → (u : Undo M) → Keeps M w u → (t : ℕ) (o : Open M) → w.active t ≡ Some o
      → records_at_mark M (Some o) (u.active t) ≡ records_of M w.layout (latest M w) o.mark.changes
  cut_mark w s u k t o e =
      ap (drop (length (u.active t) - length o.mark.changes)) (parted w s u k t o e)
      ∙ drop_front _ _ _ (since_mark w s u k t o e)

  -- commits
  commits_take : (l : M.Layout) (b : Map) (j : ℕ) (cs : List (Commit M)) (ss : List (List Record))
      → AreOfCommits M l b cs ss
      → AreOfCommits M l (version M b (drop j cs)) (take j cs) (take j ss)
  commits_take l b zero cs ss h = tt
  commits_take l b (suc j) [] [] h = tt
  commits_take l b (suc j) [] (s ∷ ss) h = absurd h
  commits_take l b (suc j) (c ∷ cs) [] h = absurd h
  commits_take l b (suc j) (c ∷ cs) (s ∷ ss) h = (
    subst (λ (r : Map). IsOfCommit M l r c s)
        (sym (version-append M L b (take j cs) (drop j cs) ∙ ap (version M b) (take-append-drop j cs))) h.0,
    commits_take l b j cs ss h.1,
  )

  commits_drop : (l : M.Layout) (b : Map) (j : ℕ) (cs : List (Commit M)) (ss : List (List Record))
      → AreOfCommits M l b cs ss
      → AreOfCommits M l b (drop j cs) (drop j ss)
  commits_drop l b zero cs ss h = h
  commits_drop l b (suc j) [] [] h = tt
  commits_drop l b (suc j) [] (s ∷ ss) h = absurd h
  commits_drop l b (suc j) (c ∷ cs) [] h = absurd h
  commits_drop l b (suc j) (c ∷ cs) (s ∷ ss) h = commits_drop l b j cs ss h.1

  keeps_commits : (w : World M) → Sound M w → (u : Undo M) → Keeps M w u → (t : ℕ) (o : Open M) (y : Reply)
      → w.active t ≡ Some o
      → IsGranted M w t (ask (tx_of M t o) o.now.position (tables M w))
      → act (tx_of M t o) o.now.position (tables M w) ≡ Ready y
      → Keeps M (after_commit M w t o y) (record { active = set t [] u.active; history = u.active t ∷ u.history })
  keeps_commits w s u k t o y e g r =
      record {
        commits = (
          record {
            last = o.now;
            alone = to_alone M L w s t o e;
            ready = sym (acts_alone M L w s t o e g) ∙ r;
            effect = commit_whole M L w s t o y e g r;
            records = (k.opens t o e).records;
            lengths = (k.opens t o e).lengths;
          },
          k.commits,
        );
        opens = λ i x p. let h = still_open t w.active i x p in
            subst (IsOfOpen M w.layout (map_after M (whole (tx_of M t o) (latest M w)) (latest M w)) x)
            (sym (set_other t [] u.active i h.0))
            (subst (λ (z : Option (Map × Reply)). IsOfOpen M w.layout (map_after M z (latest M w)) x (u.active i))
            (sym (commit_whole M L w s t o y e g r))
            (of_open_alike w s (overlay M o.now.changes (latest M w)) i x h.1 (u.active i)
            (alike_other M L w s i t x o h.0 h.1 e) (k.opens i x h.1)));
        others = none_left w u k t;
      }

  -- the store follows each step
  pub keeps_next : (w : World M) → Sound M w → (u : Undo M) → Keeps M w u → (i : Step M) (a : Answer M) (v : World M)
      → Next M w i a v → Keeps M v (undo_after M w u a i)
  keeps_next w s u k _ _ _ (begins t q b) =
      keeps_same w u k t (open_at_begin M w t q)
      (record {
        records = k.others t b.closed;
        lengths = ap (lengths_of M) (sym (k.others t b.closed));
        mark_lengths = refl;
      })
  keeps_next w s u k _ _ _ (goes_on t o c p e g r room) =
      subst (λ (z : Option (Open M)). Keeps M
      (put_active M t (Some (open_after M w.layout o (ask (tx_of M t o) o.now.position (tables M w)) c p
      (tables M w))) w)
      (put_records M t (records_after M w t z (u.active t)) u)) (sym e)
      (subst (λ (z : Act Change Position Reply Refusal). Keeps M
      (put_active M t (Some (open_after M w.layout o (ask (tx_of M t o) o.now.position (tables M w)) c p
      (tables M w))) w)
      (put_records M t (with_record M w.layout z (tables M w) (u.active t)) u)) (sym r)
      (keeps_put w u k t (open_after M w.layout o (ask (tx_of M t o) o.now.position (tables M w)) c p (tables M w))
      (with_record M w.layout (Go c p) (tables M w) (u.active t)) (keeps_goes w s u k t o c p e g r)))
  keeps_next w s u k _ _ _ (commits t o y e g r) = keeps_commits w s u k t o y e g r
  keeps_next w s u k _ _ _ (saves t o e) =
      let h = k.opens t o e in
      keeps_same w u k t (record o { mark = o.now; mark_lengths = o.lengths })
      (record { records = h.records; lengths = h.lengths; mark_lengths = h.lengths ∙ ap (lengths_of M) h.records })
  keeps_next w s u k _ _ _ (goes_back t o e) =
      subst (λ (z : Option (Open M)). Keeps M
      (put_active M t (Some (record o { now = o.mark; lengths = o.mark_lengths })) w)
      (put_records M t (records_at_mark M z (u.active t)) u)) (sym e)
      (keeps_put w u k t (record o { now = o.mark; lengths = o.mark_lengths }) (records_at_mark M (Some o) (u.active t))
      (record {
        records = cut_mark w s u k t o e;
        lengths = (k.opens t o e).mark_lengths ∙ ap (lengths_of M) (sym (cut_mark w s u k t o e));
        mark_lengths = (k.opens t o e).mark_lengths;
      }))
  keeps_next w s u k _ _ _ (rolls_back t o e) = keeps_drop w u k t
  keeps_next w s u k _ _ _ (purges m l h) =
      record {
        commits = commits_take w.layout w.base (newest M w - m) w.history u.history k.commits;
        opens = λ t o e. subst (λ (r : Map). IsOfOpen M w.layout r o (u.active t)) (sym (purged_latest M L w m))
            (k.opens t o e);
        others = k.others;
      }
  keeps_next w s u k _ _ _ (rewinds m quiet l h) =
      record {
        commits = commits_drop w.layout w.base (newest M w - m) w.history u.history k.commits;
        opens = λ t o e. absurd (some_none o (sym e ∙ quiet t));
        others = k.others;
      }
  keeps_next w s u k _ _ _ (stops t o x e r) = keeps_drop w u k t
  keeps_next w s u k _ _ _ (fails t o x e g r) = keeps_drop w u k t
  keeps_next w s u k _ _ _ n = k

  pub keeps_opened : (b : Map) (n : ℕ) (l : M.Layout) → Keeps M (world_at_opening M b n l) (no_records M)
  keeps_opened b n l = record { commits = tt; opens = λ t o e. absurd (some_none o (sym e)); others = λ t e. refl }

  -- one transaction's records put back
  pub forgets : (w : World M) → Sound M w → (u : Undo M) → Keeps M w u → (t : ℕ)
      → unwind M (u.active t) (tables M w) ≡ tables M (put_active M t None w)
  forgets w s u k t = go (w.active t) refl
    where
      go : (v : Option (Open M)) → w.active t ≡ v
          → unwind M (u.active t) (tables M w) ≡ tables M (put_active M t None w)
      go None e =
          ap (λ z. unwind M z (tables M w)) (k.others t e)
          ∙ ap (λ (f : ℕ → Option (Open M)). tables M
          (record {
            base = w.base;
            counts = w.counts;
            history = w.history;
            active = f;
            extents = w.extents;
            layout = w.layout;
          })) (sym
          (set_idle t None w.active e))
      go (Some o) e = ap (λ z. unwind M z (tables M w)) (k.opens t o e).records ∙ undo_forgets M L w s t o e

  pub goes_to_mark : (w : World M) → Sound M w → (u : Undo M) → Keeps M w u → (t : ℕ) (o : Open M) → w.active t ≡ Some o
      → unwind M (take (length (u.active t) - length o.mark.changes) (u.active t)) (tables M w)
      ≡ tables M (put_active M t (Some (record o { now = o.mark; lengths = o.mark_lengths })) w)
  goes_to_mark w s u k t o e =
      ap (λ z. unwind M z (tables M w))
      (ap (take (length (u.active t) - length o.mark.changes)) (parted w s u k t o e)
      ∙ take_front _ _ _ (since_mark w s u k t o e))
      ∙ undo_goes_back M L w s t o e (s.each t o e).since (s.each t o e).split

  -- those of all open transactions, in any order
  pub open_unwound : (ts : List ℕ) (w : World M) → Sound M w → (u : Undo M) → Keeps M w u → AreAll M w ts
      → unwind_open M u.active ts (tables M w) ≡ latest M w
  open_unwound [] w s u k all = quiet_tables M L w (λ t. go t (w.active t) refl)
    where
      go : (t : ℕ) (v : Option (Open M)) → w.active t ≡ v → v ≡ None
      go t None e = refl
      go t (Some o) e = absurd (all t o e)
  open_unwound (t ∷ ts) w s u k all =
      ap (unwind_open M (set t [] u.active) ts) (forgets w s u k t)
      ∙ open_unwound ts (put_active M t None w) (sound_drop M L w s t) (put_records M t [] u) (keeps_drop w u k t)
      (λ i o p. let h = still_open t w.active i o p in rest i h.0 (all i o h.1))
    where
      rest : (i : ℕ) → i ≢ t → (i ≡ t) ⊎ IsAmong M i ts → IsAmong M i ts
      rest i ne (inl e) = absurd (ne e)
      rest i ne (inr h) = h

  -- those of commits
  pub one_unwound : (l : M.Layout) (r : Map) (c : Commit M) (bs : List Record) → IsOfCommit M l r c bs
      → unwind M bs (map_after M (whole c.tx r) r) ≡ r
  one_unwound l r c bs h =
      ap (λ z. unwind M bs (map_after M z r)) h.effect
      ∙ (ap (λ z. unwind M z (overlay M h.last.changes r)) h.records ∙ undo_whole M L l r h.last.changes)

  pub commits_unwound : (l : M.Layout) (b : Map) (j : ℕ) (cs : List (Commit M)) (ss : List (List Record))
      → AreOfCommits M l b cs ss
      → unwind_commits M (take j ss) (version M b cs) ≡ version M b (drop j cs)
  commits_unwound l b zero cs ss h = refl
  commits_unwound l b (suc j) [] [] h = refl
  commits_unwound l b (suc j) [] (s ∷ ss) h = absurd h
  commits_unwound l b (suc j) (c ∷ cs) [] h = absurd h
  commits_unwound l b (suc j) (c ∷ cs) (s ∷ ss) h = ap (unwind_commits M (take j ss))
      (one_unwound l (version M b cs) c s h.0) ∙ commits_unwound l b j cs ss h.1

  pub all_unwound : (l : M.Layout) (b : Map) (cs : List (Commit M)) (ss : List (List Record)) → AreOfCommits M l b cs ss
      → unwind_commits M ss (version M b cs) ≡ b
  all_unwound l b [] [] h = refl
  all_unwound l b [] (s ∷ ss) h = absurd h
  all_unwound l b (c ∷ cs) [] h = absurd h
  all_unwound l b (c ∷ cs) (s ∷ ss) h = ap (unwind_commits M ss) (one_unwound l (version M b cs) c s h.0)
      ∙ all_unwound l b cs ss h.1

  -- one key's row
  at_restored : (bs : List Record) (r : Map) (k : Key) → row_at (unwind M bs r) k ≡ row_before M k bs (row_at r k)
  at_restored [] r k = refl
  at_restored (b ∷ bs) r k = at_restored bs (M.put_back b r) k ∙ ap (row_before M k bs) (at_put_back b r k)

  pub at_restored_open : (active : ℕ → List Record) (ts : List ℕ) (r : Map) (k : Key)
      → row_at (unwind_open M active ts r) k ≡ row_before_open M k active ts (row_at r k)
  at_restored_open active [] r k = refl
  at_restored_open active (t ∷ ts) r k = at_restored_open (set t [] active) ts (unwind M (active t) r) k
      ∙ ap (row_before_open M k (set t [] active) ts) (at_restored (active t) r k)

  pub at_restored_commits : (ss : List (List Record)) (r : Map) (k : Key)
      → row_at (unwind_commits M ss r) k ≡ row_before_commits M k ss (row_at r k)
  at_restored_commits [] r k = refl
  at_restored_commits (bs ∷ ss) r k = at_restored_commits ss (unwind M bs r) k
      ∙ ap (row_before_commits M k ss) (at_restored bs r k)
