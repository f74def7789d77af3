-- A log is full, and an address fresh, where the ring is.
use Rattle.std.proofs.Common.{◌≡◌, ℕ, refl, sym, ap, ◌∙◌, subst, arith, List, [], ◌∷◌, map, get_or}
use Rattle.std.specs.List.{sum_by}
use Rattle.std.proofs.lemmas.List.Sums.{sum_by-cons}
use Rattle.oe_extent.specs.declared.extents.Address.{Address}
use Rattle.oe_extent.specs.Ring as ring
use Rattle.oe_rows.specs.declared.layouts.Layout.{Layout}
use Rattle.oe_log.specs.Records.{Logged, lengths, StandElsewhere}
use Rattle.oe_log.specs.Strings.{records_in}
use Rattle.oe_log.specs.Log.{TerminalState, records_in as seen_in, records_of, records_at, IsFull, IsFresh}
use Rattle.oe_log.specs.declared.heads.TerminalHead.{TerminalHead}
use Rattle.oe_log.specs.Kept.{Head, states, commits, log_from, IsKept}
use Rattle.oe_log.proofs.RecordFacts.{at_slot, are_at, lengths_are, all_elsewhere}
use Rattle.oe_log.proofs.RoomFacts.{same_used}
use Rattle.oe_log.proofs.ZipFacts.{states-records, commits-records}
use Rattle.oe_log.proofs.CallFacts.{inside, as_many, records_are, seen_committed}

abbrev extents_of : List Logged → ℕ
extents_of rs = (ring.fill_of (lengths rs)).0

abbrev recs : TerminalState → List Logged
recs s = seen_in s.active

-- a sum over what is seen of each
sum_seen : {A : Type 0} (see : A → List Logged) (xs : List A)
    → sum_by (λ rs. extents_of rs) (map see xs) ≡ sum_by (λ x. extents_of (see x)) xs
sum_seen see [] = refl
sum_seen see (x ∷ xs) =
    omega (
      arith,
      sum_seen see xs,
      sum_by-cons (λ rs. extents_of rs) (see x) (map see xs),
      sum_by-cons (λ x. extents_of (see x)) x xs,
    )

module _ (y : Layout) {hs : List TerminalHead} {cs : List Head} {capacity : ℕ} {r : ring.RingStrings}
    {opens newest : ℕ} (K : IsKept hs cs capacity r opens newest) where
  same_active : sum_by (λ ss. (ring.fill_of (ring.lengths_of ss)).0) r.active ≡ sum_by (λ s. extents_of (recs s))
      (states hs (map records_in r.active))
  same_active =
      sym (same_used r.active K.lie.active_are)
      ∙ ap (λ rss. sum_by (λ (rs : List Logged). extents_of rs) rss)
      (sym (states-records hs (map records_in r.active) (as_many y (inside K)) K.empty))
      ∙ sum_seen recs (states hs (map records_in r.active))

  same_committed : sum_by (λ ss. (ring.fill_of (ring.lengths_of ss)).0) r.committed ≡ sum_by
      (λ c. extents_of (records_of c)) (commits cs (map records_in r.committed))
  same_committed =
      sym (same_used r.committed K.lie.committed_are)
      ∙ ap (λ rss. sum_by (λ (rs : List Logged). extents_of rs) rss)
      (sym (commits-records cs (map records_in r.committed) (inside K).records.one_by_one))
      ∙ sum_seen records_of (commits cs (map records_in r.committed))

  same_rest : (t : ℕ) → (ring.fill_of (lengths (records_at (log_from y hs cs r) t))).1
      ≡ (ring.fill_of (ring.lengths_of (get_or r.active t []))).1
  same_rest t =
      ap (λ (rs : List Logged). (ring.fill_of (lengths rs)).1) (records_are y (inside K) t ∙ at_slot r.active t)
      ∙ ap (λ (ls : List ℕ). (ring.fill_of ls).1)
      (lengths_are (get_or r.active t []) (are_at r.active t K.lie.active_are))

  pub full_here : (t n : ℕ) → ring.IsFull r t n → IsFull (log_from y hs cs r) t n
  full_here t n f = (omega (arith, f.0, same_rest t), omega (arith, f.1, same_active, same_committed))

  pub full_there : (t n : ℕ) → IsFull (log_from y hs cs r) t n → ring.IsFull r t n
  full_there t n f = (omega (arith, f.0, same_rest t), omega (arith, f.1, same_active, same_committed))

  pub fresh : (a : Address) → ring.IsFresh r a → IsFresh (log_from y hs cs r) a
  fresh a f = record {
    active = λ t. subst (StandElsewhere a) (sym (records_are y (inside K) t))
        (all_elsewhere a r.active K.lie.active_are f.active t);
    committed = λ later.
        subst (λ (rss : List (List Logged)). StandElsewhere a (get_or rss later []))
        (sym (seen_committed y (inside K)))
        (all_elsewhere a r.committed K.lie.committed_are f.committed later);
  }
