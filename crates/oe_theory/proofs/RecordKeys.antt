-- Keys of records: what no record is of stays, and no key is of two open transactions.
use Rattle.std.proofs.Common.{◌≡◌, ℕ, ◌-◌, Bool, true, false, cond, Option, None, Some, List, [], ◌∷◌, take, refl, sym}
use Rattle.std.proofs.Common.{ap, ◌∙◌, subst, inl, inr}
use Rattle.std.specs.Prelude.{◌⊎◌, ◌≢◌}
use Rattle.std.proofs.lemmas.Bool.{cases_eq}
use Rattle.oe_theory.specs.Machine.{Machine}
use Rattle.oe_theory.specs.World.{set, Open, World, tx_of, overlay, net, newest, latest, tables}
use Rattle.oe_theory.specs.Laws.{Laws}
use Rattle.oe_theory.specs.Undo.{Undo, records_of, row_before, row_before_open, row_before_commits, HasRecord}
use Rattle.oe_theory.specs.Undo.{HasRecordIn}
use Rattle.oe_theory.specs.Undo.{Keeps}
use Rattle.oe_theory.specs.Store.{all_below}
use Rattle.oe_theory.specs.RecordTheorems.{Row_without_record, Records_are_apart}
use Rattle.oe_theory.proofs.Sets.{set_same, set_other, some_none}
use Rattle.oe_theory.proofs.Replay.{reached_writes}
use Rattle.oe_theory.proofs.Tables.{net_of, unseen}
use Rattle.oe_theory.proofs.Undo.{readable}
use Rattle.oe_theory.proofs.StoreFacts.{below}
use Rattle.oe_theory.proofs.Theorems.{reached_sound, row_is_unwound}

module _ (M : Machine) (L : Laws M) where
  open M use {
    Map,
    Key,
    Row,
    Change,
    Record,
    is_key,
    row_at,
    key_of,
    row_of,
    record_key,
    restore,
    governs,
    terminal_limit,
  }
  open L use {key_true, key_refl, record_key_of}

  -- a key that no record is of keeps its row
  restored_idle : (k : Key) (bs : List Record) (v : Option Row) → (HasRecord M k bs → ⊥) → row_before M k bs v ≡ v
  restored_idle k [] v lacks = refl
  restored_idle k (b ∷ bs) v lacks = go (is_key k (record_key b)) refl (restored_idle k bs v (λ h. lacks (inr h)))
    where
      go : (c : Bool) → is_key k (record_key b) ≡ c → row_before M k bs v ≡ v
          → row_before M k bs (cond c (restore b v) v) ≡ v
      go true e rest = absurd (lacks (inl (sym (key_true k (record_key b) e))))
      go false e rest = rest

  none_set : (k : Key) (active : ℕ → List Record) (t u : ℕ) → (HasRecord M k (active u) → ⊥)
      → HasRecord M k (set t [] active u) → ⊥
  none_set k active t u lacks h = go (cases_eq u t)
    where
      go : (u ≡ t) ⊎ (u ≢ t) → ⊥
      go (inl e) = subst (λ (z : List Record). HasRecord M k z) (set_same t [] active u e) h
      go (inr ne) = lacks (subst (λ (z : List Record). HasRecord M k z) (set_other t [] active u ne) h)

  open_idle : (k : Key) (active : ℕ → List Record) (ts : List ℕ) (v : Option Row)
      → ((t : ℕ) → HasRecord M k (active t) → ⊥) → row_before_open M k active ts v ≡ v
  open_idle k active [] v lacks = refl
  open_idle k active (t ∷ ts) v lacks =
      ap (row_before_open M k (set t [] active) ts) (restored_idle k (active t) v (lacks t))
      ∙ open_idle k (set t [] active) ts v (λ u. none_set k active t u (lacks u))

  commits_idle : (k : Key) (ss : List (List Record)) (v : Option Row) → (HasRecordIn M k ss → ⊥)
      → row_before_commits M k ss v ≡ v
  commits_idle k [] v lacks = refl
  commits_idle k (bs ∷ ss) v lacks = ap (row_before_commits M k ss) (restored_idle k bs v (λ h. lacks (inl h)))
      ∙ commits_idle k ss v (λ h. lacks (inr h))

  pub row_without_record : Row_without_record M
  row_without_record w u m k r h no_open no_commit =
      sym (row_is_unwound M L w u (all_below M terminal_limit) m k r h
      (λ t o e. below M L terminal_limit t ((reached_sound M L w r).each t o e).terminal.1))
      ∙ (ap (row_before_commits M k (take (newest M w - m) u.history))
      (open_idle k u.active (all_below M terminal_limit) (row_at (tables M w) k) no_open)
      ∙ commits_idle k (take (newest M w - m) u.history) (row_at (tables M w) k) no_commit)

  -- a key with a record of changes is one that they have changed
  changed_at : (l : M.Layout) (r : Map) (cs : List Change) (k : Key) → HasRecord M k (records_of M l r cs)
      → (v : Option Row) × (net M cs k ≡ Some v)
  changed_at l r [] k h = absurd h
  changed_at l r (c ∷ cs) k (inl e) =
      let own : key_of c ≡ k = sym (record_key_of l c (row_at (overlay M cs r) (key_of c))) ∙ e in
      (row_of c, ap (λ z. cond z (Some (row_of c)) (net M cs k)) (ap (is_key k) own ∙ key_refl k))
  changed_at l r (c ∷ cs) k (inr h) = go (is_key k (key_of c)) (changed_at l r cs k h)
    where
      go : (b : Bool) → (v : Option Row) × (net M cs k ≡ Some v) → (v : Option Row)
          × (cond b (Some (row_of c)) (net M cs k) ≡ Some v)
      go true f = (row_of c, refl)
      go false f = f

  of_record : (w : World M) (u : Undo M) → Keeps M w u → (t : ℕ) (k : Key) → HasRecord M k (u.active t)
      → (o : Open M) × (w.active t ≡ Some o) × ((v : Option Row) × (net M o.now.changes k ≡ Some v))
  of_record w u kept t k h = go (w.active t) refl
    where
      go : (v : Option (Open M)) → w.active t ≡ v → (o : Open M) × (w.active t ≡ Some o)
          × ((v : Option Row) × (net M o.now.changes k ≡ Some v))
      go None e = absurd (subst (λ (z : List Record). HasRecord M k z) (kept.others t e) h)
      go (Some o) e = (
        o,
        e,
        changed_at w.layout (latest M w) o.now.changes k
            (subst (λ (z : List Record). HasRecord M k z) (kept.opens t o e).records h),
      )

  pub records_are_apart : Records_are_apart M
  records_are_apart w u t i k r kept h h' = go (cases_eq t i)
    where
      go : (t ≡ i) ⊎ (t ≢ i) → t ≡ i
      go (inl e) = e
      go (inr ne) =
          let s = reached_sound M L w r in
          let a = of_record w u kept t k h in
          let b = of_record w u kept i k h' in
          let o : Open M = a.0 in
          let may = reached_writes M L o.held (tx_of M t o) (latest M w) o.now (s.each t o a.1).now k a.2.0 a.2.1 in
          let none : net_of M L (w.active i) k ≡ None =
          unseen M L w s t o o.held (λ j p d q. s.apart t j o p d a.1 q) k
          (readable M L o.held (tx_of M t o) (governs k) may) i ne in
          absurd (some_none b.2.0 (sym (ap (λ z. net_of M L z k) b.1 ∙ b.2.1) ∙ none))
