-- Each program reads and writes only what its locks allow.
use Rattle.std.proofs.Common.{◌≡◌, ℕ, ◌==◌, Bool, true, false, cond, Option, None, Some, List, [], ◌∷◌, refl, sym, ap}
use Rattle.std.proofs.Common.{◌∙◌, subst, inl, inr}
use Rattle.std.proofs.lemmas.Bool.{cases_eq, ne_eqb}
use Rattle.std.specs.Prelude.{◌⊎◌, ◌≢◌, nat_le}
use Rattle.std.specs.FinMap.{get, entries}
use Rattle.std.specs.FinSet.{items}
use Rattle.oe_theory.specs.Machine.{Tx, Mode, Shared, Exclusive, Hold, Ask, Stop, Take, Go}
use Rattle.oe_theory.specs.World.{State, overlay, add}
use Rattle.oe_theory.specs.Laws.{Holds, with_asked, MayWrite, Alike, IsAsked, all_held, after, Alone, at_start}
use Rattle.oe_theory.specs.Laws.{one_more}
use Rattle.oe_theory_example.specs.Rows.{Account, Entry, Tables, Key, AccountKey, EntryKey, SlipKey, AccountRow}
use Rattle.oe_theory_example.specs.Rows.{Change, SetAccount}
use Rattle.oe_theory_example.specs.Rows.{SetEntry, SetSlip, Accepts, Facet, IsThere, IsOwned, under, row_at}
use Rattle.oe_theory_example.specs.Rows.{account_in, is_there}
use Rattle.oe_theory_example.specs.Rows.{is_owned, facet_key, part, governs, governs_part, key_of, row_of, head}
use Rattle.oe_theory_example.specs.Rows.{least, first_owned}
use Rattle.oe_theory_example.specs.declared.Name.{Name}
use Rattle.oe_theory_example.specs.declared.Name.TheVariants.{OfAccount, OfQueue, OfOwner}
use Rattle.oe_theory_example.specs.Programs.{Payment, Request, Pay, Serve, Rename, Visit, Refusal, NoAccount}
use Rattle.oe_theory_example.specs.Programs.{PayPosition}
use Rattle.oe_theory_example.specs.Programs.{ServePosition, RenamePosition, VisitPosition, AtAccount, AtEntry}
use Rattle.oe_theory_example.specs.Programs.{AtSlip, AtEnd}
use Rattle.oe_theory_example.specs.Programs.{AtQueue, AtTarget, AtServed, AtSkip, ToRead, ToLeave, ToSet}
use Rattle.oe_theory_example.specs.Programs.{ToClose, ToFind}
use Rattle.oe_theory_example.specs.Programs.{ToVisit, ToEnd, Program, Paying, Serving, Renaming, Visiting}
use Rattle.oe_theory_example.specs.Programs.{program_of, Action}
use Rattle.oe_theory_example.specs.Programs.{with_value, if_absent, if_within, alone, with_owner, take_least, ask}
use Rattle.oe_theory_example.specs.Programs.{act, locks_before}
use Rattle.oe_theory_example.specs.Bank.{bank}
use Rattle.oe_theory.proofs.Sets.{enough_shared}
use Rattle.oe_theory_example.proofs.Rows.{account_inj, entry_inj, slip_inj, same_owned, same_queue, same_accepts}

-- rows that alike tables have in common
module _ (P : Name → Mode → Type 0) (x : Tx Request) (r s : Tables) (h : Alike bank P x r s) where
  account_same : (k : ℕ) → P (OfAccount k) Shared → get r.accounts k ≡ get s.accounts k
  account_same k p = account_inj (get r.accounts k) (get s.accounts k) (h.rows (AccountKey k) p)

  entry_same : (k : ℕ × ℕ) → P (OfQueue k.0) Shared → get r.queues k ≡ get s.queues k
  entry_same k p = entry_inj (get r.queues k) (get s.queues k) (h.rows (EntryKey k) p)

  slip_same : get r.journal (x.terminal, x.number) ≡ get s.journal (x.terminal, x.number)
  slip_same = slip_inj _ _ (h.rows (SlipKey (x.terminal, x.number)) (refl, refl))

  first_same : (n : ℕ) → P (OfOwner n) Shared → first_owned n r ≡ first_owned n s
  first_same n p = ap (λ z. head (items z)) (same_owned n r s (λ k. h.parts (IsOwned k n) p))

  least_same : (d : ℕ) → P (OfQueue d) Shared → least d r ≡ least d s
  least_same d p = ap (λ m. head (entries m))
      (same_queue d r s (λ k e. h.rows (EntryKey k) (subst (λ z. P (OfQueue z) Shared) e p)))

abbrev take_if : ℕ → Bool → Ask Name Refusal
take_if k b = cond b (Take (OfAccount k) Exclusive) (Stop NoAccount)

pub ask_same : (x : Tx Request) (p : Program) (r s : Tables) → Alike bank (Holds bank (locks_before x p)) x r s
    → ask x p r ≡ ask x p s
ask_same x (Paying q AtAccount) r s h = ap (take_if q.account) (h.parts (IsThere q.account) tt)
ask_same x (Paying q _) r s h = refl
ask_same x (Serving d AtQueue) r s h = refl
ask_same x (Serving d _) r s h = refl
ask_same x (Renaming k n ToRead) r s h = ap (take_if k) (h.parts (IsThere k) tt)
ask_same x (Renaming k n _) r s h = refl
ask_same x (Visiting n ToFind) r s h = refl
ask_same x (Visiting n _) r s h = refl

-- the lock is asked for where a program goes on, and the names are held that are held then
abbrev pub AskedAt : Tx Request → Program → Tables → Type 0
AskedAt x p r = IsAsked bank (all_held bank) (ask x p r)

abbrev pub HeldAt : Tx Request → Program → Tables → Name → Mode → Type 0
HeldAt x p r = Holds bank (with_asked bank (ask x p r) (locks_before x p))

-- an account's name is held where it was asked for
takes_account : (k : ℕ) (b : Bool) (n : Name) (m : Mode) → IsAsked bank (all_held bank) (take_if k b)
    → Holds bank (alone (OfAccount k) ∷ []) n m → Holds bank (with_asked bank (take_if k b) []) n m
takes_account k true n m i h = h
takes_account k false n m i h = absurd i

pub given_same : {A : Type 0} (e : Refusal) (v w : Option A) (f : A → Action) → v ≡ w → with_value e v f
    ≡ with_value e w f
given_same e v w f h = ap (λ o. with_value e o f) h

pub absent_same : {A : Type 0} (v w : Option A) (d : Action) → v ≡ w → if_absent v d ≡ if_absent w d
absent_same v w d h = ap (λ o. if_absent o d) h

pub act_same : (x : Tx Request) (p : Program) (r s : Tables) → AskedAt x p r → Alike bank (HeldAt x p r) x r s
    → act x p r ≡ act x p s
act_same x (Paying q AtAccount) r s i h =
    given_same _ _ _ _ (account_same _ x r s h q.account (takes_account _ _ _ Shared i (inl (refl, tt))))
act_same x (Paying q (AtEntry b)) r s i h = absent_same _ _ _ (entry_same _ x r s h q.entry (inl (refl, tt)))
act_same x (Paying q (AtSlip b)) r s i h = absent_same _ _ _ (slip_same _ x r s h)
act_same x (Serving d AtQueue) r s i h = ap (take_least d) (least_same _ x r s h d (inl (refl, tt)))
act_same x (Serving d (AtTarget k e)) r s i h = given_same _ _ _ _ (account_same _ x r s h e.account (inl (refl, tt)))
act_same x (Renaming k n ToRead) r s i h =
    given_same _ _ _ _ (account_same _ x r s h k (takes_account _ _ _ Shared i (inl (refl, tt))))
act_same x (Renaming k n (ToSet old)) r s i h = given_same _ _ _ _
    (account_same _ x r s h k (inr (inr (inl (refl, tt)))))
act_same x (Visiting n ToFind) r s i h = given_same _ _ _ _ (first_same _ x r s h n (inl (refl, tt)))
act_same x (Visiting n (ToVisit k)) r s i h = given_same _ _ _ _ (account_same _ x r s h k (inl (refl, tt)))
act_same x _ r s i h = refl

-- what a renaming has read of its account still stands
abbrev HasOwner : ℕ → ℕ → Tables → Type 0
HasOwner k old r = (a : Account) × (get r.accounts k ≡ Some a) × (a.owner ≡ old)

abbrev Knows : Program → Tables → Type 0
Knows (Renaming k n (ToLeave old)) r = HasOwner k old r
Knows (Renaming k n (ToSet old)) r = HasOwner k old r
Knows _ r = Unit {0}

-- a change writes a row that may be written, and facets of it that stay or may be written
pub record Writes (x : Tx Request) (p : Program) (r : Tables) (d : Change) : Type 0 where
  pub row : MayWrite bank (HeldAt x p r) x (governs (key_of d))
  pub parts : Knows p r → (f : Facet) → facet_key f ≡ key_of d → (part f (row_of d) ≡ part f (row_at r (key_of d)))
      ⊎ MayWrite bank (HeldAt x p r) x (governs_part f)

-- where a program goes on it writes what it may, and holds and knows what the next position needs
pub record IsLawful (x : Tx Request) (p : Program) (r : Tables) (c : Option Change) (z : Program) : Type 0 where
  pub takes : (n : Name) (m : Mode) → Holds bank (locks_before x z) n m → HeldAt x p r n m
  pub knows : Knows p r → Knows z (after bank c r)
  pub writes : (d : Change) → c ≡ Some d → Writes x p r d

module _ (x : Tx Request) (p : Program) (r : Tables) where
  -- of an action that is written out
  lawful : (c d : Option Change) (z y : Program) → (let a : Action = Go d y in a) ≡ Go c z
      → ((n : Name) (m : Mode) → Holds bank (locks_before x y) n m → HeldAt x p r n m)
      → (Knows p r → Knows y (after bank d r))
      → ((e : Change) → d ≡ Some e → Writes x p r e) → IsLawful x p r c z
  lawful c d z y e h k w =
      let one : d ≡ c = cc in
      let two : y ≡ z = cc in
      subst (λ (v : Option Change). IsLawful x p r v z) one
      (subst (λ (v : Program). IsLawful x p r d v) two (record { takes = h; knows = k; writes = w }))

  writes_none : (e : Change) → None ≡ Some e → Writes x p r e
  writes_none e h = let no : ⊥ = cc in absurd no

  writes_one : (d e : Change) → Some d ≡ Some e → Writes x p r d → Writes x p r e
  writes_one d e h w = let one : d ≡ e = cc in subst (λ (v : Change). Writes x p r v) one w

  -- an account whose owner stays, an entry, and a slip of its own
  writes_account : (k : ℕ) (a b : Account) → HeldAt x p r (OfAccount k) Exclusive → get r.accounts k ≡ Some a
      → b.owner ≡ a.owner → (e : Change) → Some (SetAccount k (Some b)) ≡ Some e → Writes x p r e
  writes_account k a b h g o e q = writes_one _ e q (record { row = h; parts = λ t f _. inl (stays f) })
    where
      stays : (f : Facet) → part f (Some (AccountRow b)) ≡ part f (row_at r (AccountKey k))
      stays (IsThere j) = ap (λ v. is_there (account_in (under AccountRow v))) (sym g)
      stays (IsOwned j n) = ap (λ z. z == n) o ∙ ap (λ v. is_owned n (account_in (under AccountRow v))) (sym g)

  no_facet : (d : Change) (f : Facet) (k : ℕ × ℕ) → (EntryKey k ≡ key_of d) ⊎ (SlipKey k ≡ key_of d)
      → facet_key f ≡ key_of d
      → (part f (row_of d) ≡ part f (row_at r (key_of d))) ⊎ MayWrite bank (HeldAt x p r) x (governs_part f)
  no_facet d (IsThere j) k (inl h) e = let no : ⊥ = cc in absurd no
  no_facet d (IsThere j) k (inr h) e = let no : ⊥ = cc in absurd no
  no_facet d (IsOwned j n) k (inl h) e = let no : ⊥ = cc in absurd no
  no_facet d (IsOwned j n) k (inr h) e = let no : ⊥ = cc in absurd no

  writes_entry : (k : ℕ × ℕ) (v : Option Entry) → HeldAt x p r (OfQueue k.0) Exclusive → (e : Change)
      → Some (SetEntry k v) ≡ Some e → Writes x p r e
  writes_entry k v h e q = writes_one _ e q (record { row = h; parts = λ t f. no_facet (SetEntry k v) f k (inl refl) })

  writes_slip : (v : Option ℕ) → (e : Change) → Some (SetSlip (x.terminal, x.number) v) ≡ Some e → Writes x p r e
  writes_slip v e q = writes_one _ e q
      (record {
        row = (refl, refl);
        parts = λ t f. no_facet (SetSlip (x.terminal, x.number) v) f (x.terminal, x.number)
            (inr refl);
      })

given_goes : {A : Type 0} (e : Refusal) (o : Option A) (f : A → Action) (c : Option Change) (z : Program)
    → with_value e o f ≡ Go c z → (a : A) × (o ≡ Some a) × (f a ≡ Go c z)
given_goes e None f c z h = let no : ⊥ = cc in absurd no
given_goes e (Some a) f c z h = (a, refl, h)

absent_goes : {A : Type 0} (o : Option A) (d : Action) (c : Option Change) (z : Program) → if_absent o d ≡ Go c z
    → d ≡ Go c z
absent_goes None d c z h = h
absent_goes (Some a) d c z h = let no : ⊥ = cc in absurd no

within_goes : (b : Bool) (d : Action) (c : Option Change) (z : Program) → if_within b d ≡ Go c z → d ≡ Go c z
within_goes true d c z h = h
within_goes false d c z h = let no : ⊥ = cc in absurd no

pay_lawful : (x : Tx Request) (q : Payment) (p : PayPosition) (r : Tables) (c : Option Change) (z : Program)
    → AskedAt x (Paying q p) r → act x (Paying q p) r ≡ Go c z → IsLawful x (Paying q p) r c z
pay_lawful x q AtAccount r c z i e =
    let (a, here, e1) = given_goes _ (get r.accounts q.account) _ c z e in
    lawful _ _ _ _ _ _ _ (within_goes (nat_le q.amount a.balance) _ c z e1) (λ n m h. takes_account _ _ n m i h)
    (λ t. tt)
    (writes_account _ _ _ _ a _ (takes_account _ _ _ Exclusive i (inl (refl, tt))) here refl)
pay_lawful x q (AtEntry b) r c z i e = lawful _ _ _ _ _ _ _ (absent_goes (get r.queues q.entry) _ c z e) (λ n m h. h)
    (λ t. tt) (writes_entry _ _ _ _ _ (inl (refl, tt)))
pay_lawful x q (AtSlip b) r c z i e = lawful _ _ _ _ _ _ _ (absent_goes (get r.journal (x.terminal, x.number)) _ c z e)
    (λ n m h. h) (λ t. tt) (writes_slip _ _ _ _)
pay_lawful x q (AtEnd b) r c z i e = let no : ⊥ = cc in absurd no

serve_lawful : (x : Tx Request) (d : ℕ) (p : ServePosition) (r : Tables) (c : Option Change) (z : Program)
    → act x (Serving d p) r ≡ Go c z → IsLawful x (Serving d p) r c z
serve_lawful x d AtQueue r c z e = by_least (least d r) e
  where
    by_least : (o : Option ((ℕ × ℕ) × Entry)) → take_least d o ≡ Go c z → IsLawful x (Serving d AtQueue) r c z
    by_least None g = lawful _ _ _ _ _ _ _ g (λ n m h. absurd h) (λ t. tt) (writes_none _ _ _)
    by_least (Some y) g = lawful _ _ _ _ _ _ _ g (λ n m h. h) (λ t. tt) (writes_entry _ _ _ _ _ (inl (refl, tt)))
serve_lawful x d (AtTarget k y) r c z e =
    let (a, here, e1) = given_goes _ (get r.accounts y.account) _ c z e in
    lawful _ _ _ _ _ _ _ e1 (λ n m h. absurd h) (λ t. tt) (writes_account _ _ _ _ a _ (inl (refl, tt)) here refl)
serve_lawful x d (AtServed k) r c z e = let no : ⊥ = cc in absurd no
serve_lawful x d AtSkip r c z e = let no : ⊥ = cc in absurd no

-- a new owner: each facet stands but for the old and the new owner's, which may be written
writes_owner : (x : Tx Request) (k n old : ℕ) (r : Tables) (a : Account) → get r.accounts k ≡ Some a → (e : Change)
    → Some (SetAccount k (Some (with_owner n a))) ≡ Some e → Writes x (Renaming k n (ToSet old)) r e
writes_owner x k n old r a here e q = writes_one _ _ _ _ e q
    (record { row = inr (inr (inl (refl, tt))); parts = λ t f _. by_facet (was t) f })
  where
    was : HasOwner k old r → a.owner ≡ old
    was t = let one : Some a ≡ Some t.0 = sym here ∙ t.1 in let two : a ≡ t.0 = cc in
        ap (λ (b : Account). b.owner) two ∙ t.2

    by_facet : a.owner ≡ old → (f : Facet)
        → (part f (Some (AccountRow (with_owner n a))) ≡ part f (row_at r (AccountKey k)))
        ⊎ MayWrite bank (HeldAt x (Renaming k n (ToSet old)) r) x (governs_part f)
    by_facet o (IsThere j) = inl (ap (λ v. is_there (account_in (under AccountRow v))) (sym here))
    by_facet o (IsOwned j m) = by_owner (cases_eq n m) (cases_eq old m)
      where
        by_owner : (n ≡ m) ⊎ (n ≢ m) → (old ≡ m) ⊎ (old ≢ m) → ((n == m) ≡ part (IsOwned j m) (row_at r (AccountKey k)))
            ⊎ HeldAt x (Renaming k n (ToSet old)) r (OfOwner m) Exclusive
        by_owner (inl i) h = inr (inl (ap OfOwner i, tt))
        by_owner (inr i) (inl h) = inr (inr (inl (ap OfOwner h, tt)))
        by_owner (inr i) (inr h) =
            inl (ne_eqb n m i ∙ sym (ne_eqb old m h) ∙ ap (λ z. z == m) (sym o)
            ∙ ap (λ v. is_owned m (account_in (under AccountRow v))) (sym here))

rename_lawful : (x : Tx Request) (k n : ℕ) (p : RenamePosition) (r : Tables) (c : Option Change) (z : Program)
    → AskedAt x (Renaming k n p) r → act x (Renaming k n p) r ≡ Go c z
    → IsLawful x (Renaming k n p) r c z
rename_lawful x k n ToRead r c z i e =
    let (a, here, e1) = given_goes _ (get r.accounts k) _ c z e in
    lawful _ _ _ _ _ _ _ e1 (λ o m h. takes_account _ _ o m i h) (λ t. (a, here, refl)) (writes_none _ _ _)
rename_lawful x k n (ToLeave old) r c z i e = lawful _ _ _ _ _ _ _ e (λ o m h. h) (λ t. t) (writes_none _ _ _)
rename_lawful x k n (ToSet old) r c z i e =
    let (a, here, e1) = given_goes _ (get r.accounts k) _ c z e in
    lawful _ _ _ _ _ _ _ e1 (λ o m h. absurd h) (λ t. tt) (writes_owner _ _ _ _ _ a here)
rename_lawful x k n ToClose r c z i e = let no : ⊥ = cc in absurd no

visit_lawful : (x : Tx Request) (n : ℕ) (p : VisitPosition) (r : Tables) (c : Option Change) (z : Program)
    → act x (Visiting n p) r ≡ Go c z → IsLawful x (Visiting n p) r c z
visit_lawful x n ToFind r c z e =
    let (k, here, e1) = given_goes _ (first_owned n r) _ c z e in
    lawful _ _ _ _ _ _ _ e1 (λ o m h. h) (λ t. tt) (writes_none _ _ _)
visit_lawful x n (ToVisit k) r c z e =
    let (a, here, e1) = given_goes _ (get r.accounts k) _ c z e in
    lawful _ _ _ _ _ _ _ e1 (λ o m h. absurd h) (λ t. tt) (writes_account _ _ _ _ a _ (inl (refl, tt)) here refl)
visit_lawful x n (ToEnd k) r c z e = let no : ⊥ = cc in absurd no

pub is_lawful : (x : Tx Request) (p : Program) (r : Tables) (c : Option Change) (z : Program) → AskedAt x p r
    → act x p r ≡ Go c z → IsLawful x p r c z
is_lawful x (Paying q p) r c z i e = pay_lawful x q p r c z i e
is_lawful x (Serving d p) r c z i e = serve_lawful x d p r c z e
is_lawful x (Renaming k n p) r c z i e = rename_lawful x k n p r c z i e
is_lawful x (Visiting n p) r c z i e = visit_lawful x n p r c z e

-- what a program that runs alone knows
knows_first : (q : Request) (r : Tables) → Knows (program_of q) r
knows_first (Pay q) r = tt
knows_first (Serve d) r = tt
knows_first (Rename k n) r = tt
knows_first (Visit n) r = tt

overlay-add : (c : Option Change) (cs : List Change) (r : Tables)
    → after bank c (overlay bank cs r) ≡ overlay bank (add bank c cs) r
overlay-add None cs r = refl
overlay-add (Some c) cs r = refl

pub knows_alone : (x : Tx Request) (r : Tables) (s : State bank) → Alone bank x r s
    → Knows s.position (overlay bank s.changes r)
knows_alone x r _ at_start = knows_first x.request r
knows_alone x r _ (one_more s c p before i e) =
    subst (λ t. Knows p t) (overlay-add c s.changes r)
    ((is_lawful x s.position (overlay bank s.changes r) c p i e).knows (knows_alone x r s before))

-- who may write a row may read it, so whether its change is accepted is told by what may be read
holds_shared : (hs : List (Hold Name)) (n : Name) → Holds bank hs n Exclusive → Holds bank hs n Shared
holds_shared [] n h = h
holds_shared (y ∷ hs) n (inl h) = inl (h.0, enough_shared (Some y.mode) Exclusive h.1)
holds_shared (y ∷ hs) n (inr h) = inr (holds_shared hs n h)

written_same : (hs : List (Hold Name)) (x : Tx Request) (r s : Tables) → Alike bank (Holds bank hs) x r s → (k : Key)
    → MayWrite bank (Holds bank hs) x (governs k) → row_at r k ≡ row_at s k
written_same hs x r s h (AccountKey k) w = h.rows (AccountKey k) (holds_shared hs (OfAccount k) w)
written_same hs x r s h (EntryKey k) w = h.rows (EntryKey k) (holds_shared hs (OfQueue k.0) w)
written_same hs x r s h (SlipKey k) w = h.rows (SlipKey k) w

pub accepts_same : (x : Tx Request) (p : Program) (r s : Tables) (c : Change) (z : Program) → AskedAt x p r
    → Alike bank (HeldAt x p r) x r s → act x p r ≡ Go (Some c) z → Accepts c r → Accepts c s
accepts_same x p r s c z i h e =
    same_accepts c r s (written_same (with_asked bank (ask x p r) (locks_before x p)) x r s h (key_of c)
    ((is_lawful x p r (Some c) z i e).writes c refl).row)
