-- A world is the one that what is stored of it stands for.
use Rattle.std.proofs.Common.{◌≡◌, ℕ, suc, zero, ◌+◌, ◌-◌, ◌<◌, ◌==◌, cond, Option, None, Some, List, [], ◌∷◌, ◌++◌}
use Rattle.std.proofs.Common.{drop, length, refl, sym, ap, ◌∙◌, inl, inr, arith}
use Rattle.std.specs.Prelude.{◌⊎◌, ◌≢◌}
use Rattle.std.proofs.lemmas.Bool.{cases_eq, eq-eqb, cond-true, cond-false, ne_eqb}
use mathlib.Core.Path.{fun_ext}
use Rattle.oe_theory.specs.Machine.{Machine}
use Rattle.oe_theory.specs.World.{bump, Open, Commit, World, overlay, add, net, counts_after, counts_now, latest}
use Rattle.oe_theory.specs.World.{tables}
use Rattle.oe_theory.specs.Next.{record_on}
use Rattle.oe_theory.specs.Laws.{Sound, Laws}
use Rattle.oe_theory.specs.Undo.{Undo, records_of, lengths_of, unwind_open, unwind_commits, IsAmong, AreOfCommits}
use Rattle.oe_theory.specs.Undo.{Keeps}
use Rattle.oe_theory.specs.Store.{changes_of, open_of, history_of, commit_count, counts_before, all_below, slot_of}
use Rattle.oe_theory.specs.Store.{seals_of, world_of, store_of}
use Rattle.oe_theory.proofs.Sets.{set_same, set_other}
use Rattle.oe_theory.proofs.Undo.{Stand, stand_below, tables_stand}
use Rattle.oe_theory.proofs.Records.{length-records, lengths-append, parted, since_mark, open_unwound, all_unwound}

drop_first : {A : Type 0} (xs ys : List A) (n : ℕ) → n ≡ length xs → drop n (xs ++ ys) ≡ ys
drop_first [] ys n e = ap (λ (z : ℕ). drop z ys) e
drop_first (x ∷ xs) ys n e = ap (λ (z : ℕ). drop z (x ∷ xs ++ ys)) e ∙ drop_first xs ys (length xs) refl

module _ (M : Machine) (L : Laws M) where
  open M use {Map, Change, Record, row_at, key_of, row_of, put_back, terminal_limit}
  open L use {key_refl, redoes}

  -- the changes of an open transaction, from its records
  changes_same : (l : M.Layout) (r : Map) (cs : List Change) (m : Map) → Stand M L m cs
      → changes_of M (records_of M l r cs) m ≡ cs
  changes_same l r [] m s = refl
  changes_same l r (c ∷ cs) m s =
      ap (λ z. add M z (changes_of M (records_of M l r cs) (put_back (record_on M l c (overlay M cs r)) m)))
      (redoes l c (row_at (overlay M cs r) (key_of c)) m
      (s (key_of c) (row_of c) (ap (λ z. cond z (Some (row_of c)) (net M cs (key_of c))) (key_refl (key_of c)))))
      ∙ ap (λ z. c ∷ z)
      (changes_same l r cs (put_back (record_on M l c (overlay M cs r)) m) (stand_below M L l r c cs m s))

  length-lengths : (bs : List Record) → length (lengths_of M bs) ≡ length bs
  length-lengths [] = refl
  length-lengths (b ∷ bs) = ap suc (length-lengths bs)

  open_same : (w : World M) → Sound M w → (u : Undo M) → Keeps M w u → (t : ℕ) (v : Option (Open M)) → w.active t ≡ v
      → open_of M (u.active t) (tables M w) (slot_of M v) ≡ v
  open_same w s u k t None e = refl
  open_same w s u k t (Some o) e =
      λ i. Some (record {
        number = o.number;
        request = o.request;
        now = record { position = o.now.position; changes = now i };
        mark = record { position = o.mark.position; changes = mark i };
        held = o.held;
        lengths = lengths i;
        mark_lengths = mark_lengths i;
      })
    where
      now : changes_of M (u.active t) (tables M w) ≡ o.now.changes
      now = ap (λ z. changes_of M z (tables M w)) (k.opens t o e).records
          ∙ changes_same w.layout (latest M w) o.now.changes (tables M w) (tables_stand M L w s t o e)

      mark : drop (length (u.active t) - length o.mark.changes) (changes_of M (u.active t) (tables M w))
          ≡ o.mark.changes
      mark =
          ap (drop (length (u.active t) - length o.mark.changes)) (now ∙ (s.each t o e).split)
          ∙ drop_first (s.each t o e).since o.mark.changes (length (u.active t) - length o.mark.changes)
          (since_mark M L w s u k t o e ∙ length-records M L w.layout (s.each t o e).since
          (overlay M o.mark.changes (latest M w)))

      lengths : lengths_of M (u.active t) ≡ o.lengths
      lengths = sym (k.opens t o e).lengths

      mark_lengths : drop (length (u.active t) - length o.mark.changes) (lengths_of M (u.active t)) ≡ o.mark_lengths
      mark_lengths =
          ap (drop (length (u.active t) - length o.mark.changes))
          (ap (lengths_of M) (parted M L w s u k t o e) ∙ lengths-append M L
          (records_of M w.layout (overlay M o.mark.changes (latest M w)) (s.each t o e).since)
          (records_of M w.layout (latest M w) o.mark.changes))
          ∙ (drop_first
          (lengths_of M (records_of M w.layout (overlay M o.mark.changes (latest M w)) (s.each t o e).since))
          (lengths_of M (records_of M w.layout (latest M w) o.mark.changes))
          (length (u.active t) - length o.mark.changes)
          (since_mark M L w s u k t o e
          ∙ sym (length-lengths (records_of M w.layout (overlay M o.mark.changes (latest M w)) (s.each t o e).since)))
          ∙ sym (k.opens t o e).mark_lengths)

  history_same : (l : M.Layout) (b : Map) (cs : List (Commit M)) (ss : List (List Record)) → AreOfCommits M l b cs ss
      → history_of M (seals_of M cs) ss ≡ cs
  history_same l b [] ss h = refl
  history_same l b (c ∷ cs) [] h = absurd h
  history_same l b (c ∷ cs) (s ∷ ss) h =
      ap (λ (z : List ℕ). record { tx = c.tx; reply = c.reply; lengths = z } ∷ history_of M (seals_of M cs) ss)
      (sym h.0.lengths)
      ∙ ap (λ z. c ∷ z) (history_same l b cs ss h.1)

  -- counts are those before the commits and the commits
  counts_sum : (f : ℕ → ℕ) (cs : List (Commit M)) (t : ℕ)
      → counts_after M f cs t ≡ f t + commit_count M t (seals_of M cs)
  counts_sum f [] t = omega arith
  counts_sum f (c ∷ cs) t = go (cases_eq t c.tx.terminal) (counts_sum f cs t)
    where
      n : ℕ
      n = commit_count M t (seals_of M cs)

      go : (t ≡ c.tx.terminal) ⊎ (t ≢ c.tx.terminal) → counts_after M f cs t ≡ f t + n
          → bump c.tx.terminal (counts_after M f cs) t ≡ f t + cond (t == c.tx.terminal) (suc n) n
      go (inl e) i =
          omega (
            arith,
            i,
            set_same c.tx.terminal (suc (counts_after M f cs c.tx.terminal)) (counts_after M f cs) t e,
            ap (counts_after M f cs) e,
            cond-true (t == c.tx.terminal) (suc n) n (eq-eqb t c.tx.terminal e),
          )
      go (inr ne) i =
          omega (
            arith,
            i,
            set_other c.tx.terminal (suc (counts_after M f cs c.tx.terminal)) (counts_after M f cs) t ne,
            cond-false (t == c.tx.terminal) (suc n) n (ne_eqb t c.tx.terminal ne),
          )

  pub counts_same : (f : ℕ → ℕ) (cs : List (Commit M)) → counts_before M (counts_after M f cs) (seals_of M cs) ≡ f
  counts_same f cs = fun_ext (λ t. omega (arith, counts_sum f cs t))

  pub below : (n t : ℕ) → t < n → IsAmong M t (all_below M n)
  below zero t h = absurd (omega (arith, h))
  below (suc n) t h = go (cases_eq t n) (below n t)
    where
      go : (t ≡ n) ⊎ (t ≢ n) → (t < n → IsAmong M t (all_below M n)) → (t ≡ n) ⊎ IsAmong M t (all_below M n)
      go (inl e) f = inl e
      go (inr ne) f = inr (f (omega (arith, h, ne)))

  -- the newest version
  pub latest_same : (w : World M) → Sound M w → (u : Undo M) → Keeps M w u
      → unwind_open M u.active (all_below M terminal_limit) (tables M w) ≡ latest M w
  latest_same w s u k = open_unwound M L (all_below M terminal_limit) w s u k
      (λ t o e. below terminal_limit t (s.each t o e).terminal.1)

  pub world_same : (w : World M) → Sound M w → (u : Undo M) → Keeps M w u → world_of M (store_of M w u) ≡ w
  world_same w s u k =
      λ i. record {
        base = base i;
        counts = counts i;
        history = history i;
        active = active i;
        extents = w.extents;
        layout = w.layout;
      }
    where
      base : unwind_commits M u.history (unwind_open M u.active (all_below M terminal_limit) (tables M w)) ≡ w.base
      base = ap (unwind_commits M u.history) (latest_same w s u k) ∙ all_unwound M L w.layout w.base w.history
          u.history k.commits

      counts : counts_before M (counts_now M w) (seals_of M w.history) ≡ w.counts
      counts = counts_same w.counts w.history

      history : history_of M (seals_of M w.history) u.history ≡ w.history
      history = history_same w.layout w.base w.history u.history k.commits

      active : (λ t. open_of M (u.active t) (tables M w) (slot_of M (w.active t))) ≡ w.active
      active = fun_ext (λ t. open_same w s u k t (w.active t) refl)
