-- A walk along a customer's records tells whether one of the later ones tells a last name of a list.
use Rattle.std.proofs.Common.{◌≡◌, ℕ, ◌≤◌, Bool, true, false, cond, refl, sym, ap, ◌∙◌, subst, List, [], ◌∷◌, Option}
use Rattle.std.proofs.Common.{Some}
use Rattle.std.proofs.lemmas.Bool.{true≢false}
use Rattle.oe_theory.proofs.Sets.{some_inj}
use Rattle.oe_rows.specs.declared.keys.Key.{Key}
use Rattle.oe_model.specs.Changes.{Record}
use Rattle.oe_layout.specs.declared.links.Previous.{Previous}
use Rattle.oe_log.specs.Records.{log_entry, IsAmong, IsRecordAt}
use Rattle.oe_log.specs.Log.{SegmentLog}
use Rattle.oe_undo.specs.declared.holders.Link.{Link}
use Rattle.oe_undo.specs.declared.holders.Holder.{Holder}
use Rattle.oe_undo.specs.Chains.{IsChain, AreChained, records_after, link_to, link_from}
use Rattle.oe_undo.specs.Held.{Held, all_held, of_key, horizon, is_later}
use Rattle.oe_undo.specs.Laws.{IsWhole}
use Rattle.oe_undo.specs.Restored.{later_of}
use Rattle.oe_undo.specs.Walks.{records_by, leads_later}
use Rattle.oe_undo.proofs.ChainWalkFacts.{walk_reads}
use Rattle.oe_undo.proofs.ChainedLinkFacts.{AllStand, all_stand, stand_of_key, end_not_later}
use Rattle.oe_journal.specs.Forgetting.{tells_name, one_tells}

-- what is left of a walk that answers whether one of a list's names is told: from this link on
pub record Asks (u : SegmentLog) (m number : ℕ) (answer : Bool) (l : Option Link) : Type 0 where
  pub left : List Held
  pub stand : AllStand u left
  pub chain : IsChain (horizon u) l left
  pub tells : answer ≡ one_tells number (records_after m left)

module _ (u : SegmentLog) (m number : ℕ) where
  pub asks_first : (links : Key → Option Link) (k : Key) (l : Option Link) → IsWhole u → AreChained u links
      → l ≡ links k → Asks u m number (one_tells number (later_of m (of_key k (all_held u)))) l
  asks_first links k l whole chained is = record {
    left = of_key k (all_held u);
    stand = stand_of_key u k (all_held u) (all_stand u whole);
    chain = subst (λ (o : Option Link). IsChain (horizon u) o (of_key k (all_held u))) (sym is) (chained k);
    tells = ap (one_tells number) (sym (walk_reads k u m));
  }

  module _ (kept : horizon u ≤ m) where
    -- where the link leads to a later record, it is read, and what is left is behind it
    record Behind (l : Link) (p : Previous) (b : Record) (left : List Held) : Type 0 where
      pub rest : List Held
      pub stand : AllStand u rest
      pub chain : IsChain (horizon u) (link_from l.holder p) rest
      pub tells : one_tells number (records_after m left)
          ≡ cond (tells_name number b) true (one_tells number (records_after m rest))

    reads : (l : Link) (p : Previous) (b : Record) (left : List Held) → AllStand u left
        → IsChain (horizon u) (Some l) left → is_later m l.holder ≡ true
        → IsRecordAt (records_by u l.holder) l.address (p, b) → Behind l p b left
    reads l p b [] stand chain later at =
        absurd (true≢false (sym later ∙ end_not_later (horizon u) m (Some l) kept chain))
    reads l p b (r ∷ rest) stand chain later at =
        let same : l ≡ link_to r = some_inj l (link_to r) chain.0.leads in
        let told : (p, b) ≡ (r.logged.previous, r.logged.before) = at r.logged.previous r.logged.before
        (subst (λ (x : Link). IsAmong (log_entry x.address r.logged.previous r.logged.before) (records_by u x.holder))
        (sym same) stand.0) in
        record {
          rest = rest;
          stand = stand.1;
          chain = subst (λ (x : Holder × Previous). IsChain (horizon u) (link_from x.0 x.1) rest)
              (λ i. ((sym same i).holder, (sym told i).0)) chain.1;
          tells = ap (λ z. one_tells number (cond z (r.logged.before ∷ records_after m rest) []))
              (sym (ap (λ (x : Link). is_later m x.holder) same) ∙ later)
              ∙ ap (λ (x : Previous × Record). cond (tells_name number x.1) true
              (one_tells number (records_after m rest)))
              (sym told);
        }

    read_of : (answer : Bool) (o : Option Link) (l : Link) (p : Previous) (b : Record) → o ≡ Some l
        → is_later m l.holder ≡ true → (g : Asks u m number answer o)
        → IsRecordAt (records_by u l.holder) l.address (p, b) → Behind l p b g.left
    read_of answer o l p b is later g at =
        reads l p b g.left g.stand (subst (λ (x : Option Link). IsChain (horizon u) x g.left) is g.chain) later at

    -- it tells such a name
    pub asks_true : (answer : Bool) (o : Option Link) (l : Link) (p : Previous) (b : Record) → o ≡ Some l
        → is_later m l.holder ≡ true → Asks u m number answer o
        → IsRecordAt (records_by u l.holder) l.address (p, b) → tells_name number b ≡ true → answer ≡ true
    asks_true answer o l p b is later g at told =
        let read = read_of answer o l p b is later g at in
        g.tells ∙ read.tells ∙ ap (λ z. cond z true (one_tells number (records_after m read.rest))) told

    -- or the walk goes on
    pub asks_on : (answer : Bool) (o : Option Link) (l : Link) (p : Previous) (b : Record) (after : Option Link)
        → o ≡ Some l → is_later m l.holder ≡ true → Asks u m number answer o
        → IsRecordAt (records_by u l.holder) l.address (p, b) → tells_name number b ≡ false
        → after ≡ link_from l.holder p → Asks u m number answer after
    asks_on answer o l p b after is later g at told leads =
        let read = read_of answer o l p b is later g at in
        record {
          left = read.rest;
          stand = read.stand;
          chain = subst (λ (x : Option Link). IsChain (horizon u) x read.rest) (sym leads) read.chain;
          tells = g.tells ∙ read.tells ∙ ap (λ z. cond z true (one_tells number (records_after m read.rest))) told;
        }

  -- a link to no later record ends it
  ends : (o : Option Link) (left : List Held) → IsChain (horizon u) o left → leads_later m o ≡ false
      → one_tells number (records_after m left) ≡ false
  ends o [] chain past = refl
  ends o (r ∷ rest) chain past =
      ap (λ z. one_tells number (cond z (r.logged.before ∷ records_after m rest) []))
      (sym (ap (leads_later m) chain.0.leads) ∙ past)

  pub asks_end : (answer : Bool) (o : Option Link) → Asks u m number answer o → leads_later m o ≡ false
      → answer ≡ false
  asks_end answer o g past = g.tells ∙ ends o g.left g.chain past
