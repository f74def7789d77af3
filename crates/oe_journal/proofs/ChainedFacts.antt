-- A key that has a record in an open segment has a place for its link, since the link leads to one of its records.
use Rattle.std.proofs.Common.{◌≡◌, ℕ, zero, suc, ◌<◌, true, refl, sym, ap, ◌∙◌, subst, inl, inr, arith, List, [], ◌∷◌}
use Rattle.std.proofs.Common.{◌++◌, length, Option, None, Some, is_some}
use Rattle.std.specs.Prelude.{◌≢◌}
use Rattle.std.proofs.lemmas.Bool.{cases_eq, cases_lt, cond-true}
use Rattle.std.proofs.lemmas.List.{get_or_past}
use Rattle.oe_rows.specs.declared.keys.Key.{Key}
use Rattle.oe_theory.specs.Store.{all_below}
use Rattle.oe_model.specs.Rows.{is_key}
use Rattle.oe_model.specs.Changes.{record_key}
use Rattle.oe_model.specs.System.{system, terminal_limit}
use Rattle.oe_model.proofs.RowFacts.{key_refl}
use Rattle.oe_log.specs.Records.{Logged}
use Rattle.oe_log.specs.Log.{SegmentLog, idle, records_in, records_at, total_count}
use Rattle.oe_undo.specs.declared.holders.Link.{Link}
use Rattle.oe_undo.specs.declared.holders.Holder.TheVariants.{Open}
use Rattle.oe_undo.specs.Held.{Held, held_by, held_open, held_commits, all_held, of_key, horizon}
use Rattle.oe_undo.specs.Chains.{IsChain, AreChained}
use Rattle.oe_undo.specs.Laws.{IsWhole}
use Rattle.oe_undo.proofs.ChainWalkFacts.{of_key-append}
use Rattle.oe_undo.specs.declared.links.OwnedLink.{OwnedLink}
use Rattle.oe_undo.specs.Links.{place_of, link_in, HasPlace, SamePlaces}
use Rattle.oe_undo.specs.Owners.{link_by_now}
use Rattle.oe_undo.specs.Undo.{UndoState, link_seen, GivesBack}
use Rattle.oe_undo.proofs.LeadFacts.{set_leads}
use Rattle.oe_journal.proofs.LinkedFacts.{no_links_set}

-- a list that begins with nothing
pub none_first : (xs ys : List Held) → xs ++ ys ≡ [] → xs ≡ []
none_first [] ys e = refl
none_first (x ∷ xs) ys e = cc

pub none_after : (xs ys : List Held) → xs ++ ys ≡ [] → ys ≡ []
none_after [] ys e = e
none_after (x ∷ xs) ys e = cc

module _ (k : Key) where
  -- where no record of a terminal below n is of the key
  pub none_open : (f : ℕ → List Logged) (t n : ℕ) → t < n → of_key k (held_open f (all_below system n)) ≡ []
      → of_key k (held_by (Open t) (f t)) ≡ []
  none_open f t zero less e = absurd (omega (arith, less))
  none_open f t (suc m) less e =
      let parts = sym (of_key-append k (held_by (Open m) (f m)) (held_open f (all_below system m))) ∙ e in
      elim (cases_eq t m) [
        | inl same ↦ subst (λ s. of_key k (held_by (Open s) (f s)) ≡ []) (sym same) (none_first _ _ parts)
        | inr ne ↦ none_open f t m (lower ne) (none_after _ _ parts)
      ]
    where
      lower : t ≢ m → t < m
      lower ne = elim (cases_lt t m) [ inl h ↦ h | inr h ↦ absurd (ne (omega (arith, h, less))) ]

  -- a chain of some records begins with a link
  some_link : (h : ℕ) (l : Option Link) (rs : List Held) → (rs ≡ [] → ⊥) → IsChain h l rs → is_some l ≡ true
  some_link h l [] some c = absurd (some refl)
  some_link h l (r ∷ rs) some c = ap is_some c.0.leads

has_link : (u : SegmentLog) (p : Option (Option OwnedLink)) → is_some (link_by_now u (link_in p)) ≡ true → is_some p
    ≡ true
has_link u None h = h
has_link u (Some l) h = refl

pub known_by_record : (u : SegmentLog) (t : ℕ) (r : Logged) (rs : List Logged) → records_at u t ≡ r ∷ rs
    → t < length u.terminals
known_by_record u t r rs e =
    elim (cases_lt t (length u.terminals)) [
      | inl within ↦ within
      | inr past ↦ let none : ◌≡◌ {A = List Logged} [] (r ∷ rs) = ap (λ z. records_in z.active)
          (sym (get_or_past u.terminals t idle past)) ∙ e in cc
    ]

pub linked_place : (s : UndoState) (t : ℕ) (r : Logged) (rs : List Logged) → IsWhole s.log
    → AreChained s.log (link_seen s)
    → records_at s.log t ≡ r ∷ rs
    → HasPlace s.links (record_key r.before)
linked_place s t r rs whole chained e =
    let u : SegmentLog = s.log in
    let k : Key = record_key r.before in
    let less : t < terminal_limit = subst (λ n. t < n) whole.terminals (known_by_record u t r rs e) in
    has_link u (place_of s.links k) (some_link k (horizon u) (link_seen s k) (of_key k (all_held u)) (λ none.
    let open_none = none_first _ _
    (sym (of_key-append k (held_open (records_at u) (all_below system terminal_limit))
    (held_commits (total_count u) u.committed)) ∙ none) in
    let own_none = none_open k (records_at u) t terminal_limit less open_none in
    let own : of_key k (held_by (Open t) (records_at u t)) ≡ record { logged = r; holder = Open t } ∷ of_key k
    (held_by (Open t) rs) =
    ap (λ z. of_key k (held_by (Open t) z)) e ∙ cond-true (is_key k k) _ _ (key_refl k) in
    let no : ◌≡◌ {A = List Held} [] (record { logged = r; holder = Open t } ∷ of_key k (held_by (Open t) rs)) =
    sym own_none ∙ own in
    cc) (chained k))

-- so the newest record that is taken off leaves the places
pub same_given_back : (old new : UndoState) (t : ℕ) → IsWhole old.log → AreChained old.log (link_seen old)
    → GivesBack old new t (records_at old.log t)
    → SamePlaces old.links new.links
same_given_back old new t whole chained back = go (records_at old.log t) refl back
  where
    go : (rs : List Logged) → records_at old.log t ≡ rs → GivesBack old new t rs → SamePlaces old.links new.links
    go [] e back = no_links_set old.links new.links back
    go (r ∷ rs) e back = (set_leads old.links new.links (record_key r.before) back.link back.set).same
        (linked_place old t r rs whole chained e)
