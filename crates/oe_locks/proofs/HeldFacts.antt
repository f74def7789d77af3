-- What is held, by the lists of all terminals.
use Rattle.std.proofs.Common.{◌≡◌, ◌≢◌, ℕ, ◌<◌, ◌==◌, ◌&&◌, inl, inr, Bool, true, false, not, cond, if◌then◌else◌}
use Rattle.std.proofs.Common.{List, [], length, get_or, set, replicate, ◌≤◌, ◌⊎◌, Option, None, Some, IsSome, is_some}
use Rattle.std.proofs.Common.{refl, sym, ap, ◌∙◌, eq-eqb, subst}
use Rattle.std.proofs.lemmas.Bool.{cases_eq, cases_lt, cond-true, cond-false, ne_eqb, false≢true}
use Rattle.std.proofs.lemmas.List.{get_or_default, get_or-set_same, get_or-set_other, get_or-replicate}
use Rattle.std.proofs.lemmas.List.{length-replicate}
use Rattle.std.proofs.Math.ListN.{get_or-eq_default}
use Rattle.std.specs.Prelude.{MatchOption, IfSome, OnOk, OnErr}
use Rattle.std.specs.declared.result.Result.{Result}
use Rattle.std.specs.declared.result.Result.TheVariants.{Ok, Err}
use Rattle.std.specs.Map.{lookup, keys_of}
use Rattle.oe_rows.specs.declared.locks.Name.{Name}
use Rattle.oe_rows.specs.declared.locks.Mode.{Mode}
use Rattle.oe_rows.specs.declared.locks.Mode.TheVariants.{Shared, Exclusive}
use Rattle.oe_rows.specs.contracts.locks.NamePartialEq.TheImpl.{ghosts}
use Rattle.oe_locks.specs.Held.{Holdings, entries_of, mode_held, is_name, go_together, greater_mode, IsBelow, IsIdle}
use Rattle.oe_locks.specs.Held.{IsFreeFor}
use Rattle.oe_locks.specs.Held.{IsInTheWay, IsFirstAmong, Takes, GivesBack, HoldsNothing, OthersKeep, AreBusy}
use Rattle.oe_locks.specs.Terminals.{has}
use Rattle.oe_locks.specs.Listed.{IsListed}
use Rattle.oe_locks.specs.Marks.{mark, may_hold, AreNoted, Changes}
use Rattle.oe_locks.proofs.NameFacts.{eq_is_name, name_true, name_sym, same_true}
use Rattle.oe_locks.proofs.EntryFacts.{stands-found}

abbrev Entries : Type 0
Entries = List (Name × Mode)

-- a terminal's list
module _ (ls : Holdings) (t : ℕ) (es : Entries) (within : t < length ls) (is : es ≡ get_or ls t es) where
  pub entries-at : entries_of ls t ≡ es
  entries-at = get_or_default ls t [] es within ∙ sym is

  pub held-at : (q : Name) → mode_held ls t q ≡ lookup (ghosts.eq q) es
  unfolding mode_held
  held-at q = ap (lookup (ghosts.eq q)) entries-at

  pub listed-at : IsListed ls t (keys_of es)
  listed-at q = stands-found es q ∙ sym (ap (λ o. is_some o) (held-at q))

-- a terminal that is not in the set holds nothing
pub idle-held : (ls : Holdings) (b t : ℕ) → AreBusy b ls → has b t ≡ false → HoldsNothing ls t
unfolding mode_held
idle-held ls b t all none q = ap (lookup (ghosts.eq q)) (all t none)

-- where every list is empty nothing is held
pub idle-empty : (ls : Holdings) → ((t : ℕ) → entries_of ls t ≡ []) → IsIdle ls
unfolding mode_held
idle-empty ls e t q = ap (lookup (ghosts.eq q)) (e t)

pub entries-replicate : (n t : ℕ) → entries_of (replicate n []) t ≡ []
entries-replicate n t = go (cases_lt t n)
  where
    go : (t < n) ⊎ (n ≤ t) → entries_of (replicate n []) t ≡ []
    go (inl l) = get_or-replicate n t [] [] l
    go (inr g) = get_or-eq_default (replicate n []) [] (subst (λ k. k ≤ t) (sym (length-replicate n [])) g)

pub idle-replicate : (n : ℕ) → IsIdle (replicate n [])
idle-replicate n = idle-empty (replicate n []) (entries-replicate n)

-- one terminal's list has become another
module _ (ls : Holdings) (t : ℕ) (es : Entries) (within : t < length ls) where
  pub entries-set : entries_of (set ls t es) t ≡ es
  entries-set = get_or-set_same ls t es [] within

  others-set : (u : ℕ) → u ≢ t → entries_of (set ls t es) u ≡ entries_of ls u
  others-set u ne = get_or-set_other ls t u es [] ne

  pub keeps-set : OthersKeep ls (set ls t es) t
  unfolding mode_held
  keeps-set u ne q = ap (lookup (ghosts.eq q)) (others-set u ne)

  held-set : (q : Name) → mode_held (set ls t es) t q ≡ lookup (ghosts.eq q) es
  unfolding mode_held
  held-set q = ap (lookup (ghosts.eq q)) entries-set

  -- the list was changed at one name
  module _ (old : Entries) (was : (q : Name) → mode_held ls t q ≡ lookup (ghosts.eq q) old) (n : Name) where
    pub gives-back : (o : Option Mode) → Changes old es n o → GivesBack ls (set ls t es) t n o
    gives-back o changed q =
        held-set q ∙ (changed q
        ∙ (ap (λ b. cond b o (lookup (ghosts.eq q) old)) (eq_is_name n q ∙ name_sym n q)
        ∙ ap (λ z. cond (is_name q n) o z) (sym (was q))))

    pub takes : (m : Mode) → Changes old es n (Some (greater_mode m (lookup (ghosts.eq n) old)))
        → Takes ls (set ls t es) t n m
    takes m changed q =
        gives-back (Some (greater_mode m (lookup (ghosts.eq n) old))) changed q
        ∙ elim (is_name q n) as (λ b. is_name q n ≡ b
        → (if b then Some (greater_mode m (lookup (ghosts.eq n) old)) else mode_held ls t q)
        ≡ (if b then Some (greater_mode m (mode_held ls t q)) else mode_held ls t q)) [
          | true ↦ λ e. ap (λ o. Some (greater_mode m o)) (sym (was n) ∙ ap (mode_held ls t) (sym (name_true q n e)))
          | false ↦ λ e. refl
        ] refl

  pub nothing-set : es ≡ [] → HoldsNothing (set ls t es) t
  nothing-set e q = held-set q ∙ ap (lookup (ghosts.eq q)) e

  -- the set of those that may hold something
  module _ (old new : ℕ) (all : AreBusy old ls) where
    other-busy : (u : ℕ) → u ≢ t → has old u ≡ false → entries_of (set ls t es) u ≡ []
    other-busy u ne none = others-set u ne ∙ all u none

    pub busy-with : ((u : ℕ) → has new u ≡ (if u == t then true else has old u)) → AreBusy new (set ls t es)
    busy-with is u none = elim (cases_eq u t) [
      | inl e ↦ absurd (false≢true (sym none
          ∙ (is u ∙ cond-true (u == t) true (has old u) (eq-eqb u t e))))
      | inr ne ↦ other-busy u ne (sym (cond-false (u == t) true (has old u) (ne_eqb u t ne)) ∙ (sym (is u) ∙ none))
    ]

    pub busy-without : es ≡ [] → ((u : ℕ) → has new u ≡ (if u == t then false else has old u))
        → AreBusy new (set ls t es)
    busy-without empty is u none = elim (cases_eq u t) [
      | inl e ↦ ap (entries_of (set ls t es)) e ∙ (entries-set ∙ empty)
      | inr ne ↦ other-busy u ne (sym (cond-false (u == t) false (has old u) (ne_eqb u t ne)) ∙ (sym (is u) ∙ none))
    ]

  -- the sets of those who may hold a name with a mark
  module _ (old new : List ℕ) (all : AreNoted old ls) where
    pub noted-set : ((k u : ℕ) → u ≢ t → may_hold new k u ≡ may_hold old k u)
        → ((q : Name) → may_hold new (mark q) t ≡ false → lookup (ghosts.eq q) es ≡ None) → AreNoted new (set ls t es)
    noted-set same own u q none = elim (cases_eq u t) [
      | inl e ↦ ap (λ v. mode_held (set ls t es) v q) e
          ∙ (held-set q ∙ own q (ap (may_hold new (mark q)) (sym e) ∙ none))
      | inr ne ↦ keeps-set u ne q ∙ all u q (sym (same (mark q) u ne) ∙ none)
    ]

    pub noted-empty : es ≡ [] → ((k u : ℕ) → u ≢ t → may_hold new k u ≡ may_hold old k u) → AreNoted new (set ls t es)
    noted-empty empty same = noted-set same (λ q none. ap (lookup (ghosts.eq q)) empty)

    -- the list was changed at one name
    module _ (before : Entries) (was : (q : Name) → mode_held ls t q ≡ lookup (ghosts.eq q) before) (n : Name) where
      found-before : (q : Name) → may_hold old (mark q) t ≡ false → lookup (ghosts.eq q) before ≡ None
      found-before q none = sym (was q) ∙ all t q none

      -- it was taken, and noted before
      module _ (k : ℕ) (at : k ≡ mark n)
          (is : (j u : ℕ) → may_hold new j u ≡ (if (j == k) && (u == t) then true else may_hold old j u)) where
        others-noted : (j u : ℕ) → u ≢ t → may_hold new j u ≡ may_hold old j u
        others-noted j u ne =
            is j u ∙ ap (λ c. if (j == k) && c then true else may_hold old j u) (ne_eqb u t ne) ∙ go (j == k)
          where
            go : (c : Bool) → (if c && false then true else may_hold old j u) ≡ may_hold old j u
            go true = refl
            go false = refl

        own-noted : (q : Name) → may_hold new (mark q) t ≡ false
            → (mark q ≡ mark n → ⊥) × (may_hold old (mark q) t ≡ false)
        own-noted q none = go (mark q == k) refl
            (sym (ap (λ c. if (mark q == k) && c then true else may_hold old (mark q) t)
            (eq-eqb t t refl)) ∙ (sym (is (mark q) t) ∙ none))
          where
            go : (c : Bool) → (mark q == k) ≡ c → (if c && true then true else may_hold old (mark q) t) ≡ false
                → (mark q ≡ mark n → ⊥) × (may_hold old (mark q) t ≡ false)
            go true e h = absurd (false≢true (sym h))
            go false e h = ((λ s. false≢true (sym e ∙ eq-eqb (mark q) k (s ∙ sym at))), h)

        pub noted-taken : {T E : Type 0} (r : Result T E) (o : Option Mode) → OnOk r (Changes before es n o)
            → OnErr r (es ≡ before) → AreNoted new (set ls t es)
        noted-taken (Ok x) o is_ok is_err = noted-set others-noted own
          where
            own : (q : Name) → may_hold new (mark q) t ≡ false → lookup (ghosts.eq q) es ≡ None
            own q none = is_ok q ∙ go (ghosts.eq n q) refl
              where
                go : (c : Bool) → ghosts.eq n q ≡ c → cond c o (lookup (ghosts.eq q) before) ≡ None
                go true s = absurd ((own-noted q none).0 (sym (ap mark (same_true n q s))))
                go false s = found-before q (own-noted q none).1
        noted-taken (Err x) o is_ok is_err =
            noted-set others-noted (λ q none. ap (lookup (ghosts.eq q)) is_err ∙ found-before q (own-noted q none).1)

      -- a name that is held was lowered or let go of
      pub noted-given : (o : Option Mode) → Changes before es n o → IfSome o (λ m. IsSome (lookup (ghosts.eq n) before))
          → ((k u : ℕ) → may_hold new k u ≡ may_hold old k u) → AreNoted new (set ls t es)
      noted-given o changed there same =
          noted-set (λ k u ne. same k u) (λ q none. changed q ∙ go q (found-before q (sym (same (mark q) t) ∙ none))
          (ghosts.eq n q) refl o there)
        where
          go : (q : Name) → lookup (ghosts.eq q) before ≡ None → (c : Bool) → ghosts.eq n q ≡ c → (o : Option Mode)
              → IfSome o (λ m. IsSome (lookup (ghosts.eq n) before)) → cond c o (lookup (ghosts.eq q) before) ≡ None
          go q gone true s None h = refl
          go q gone true s (Some m) h = absurd (some_none (lookup (ghosts.eq n) before) h
              (ap (λ k. lookup (ghosts.eq k) before) (same_true n q s) ∙ gone))
            where
              some_none : (x : Option Mode) → IsSome x → x ≡ None → ⊥
              some_none None h e = false≢true h
              some_none (Some y) h e = false≢true (sym (ap (λ o. is_some o) e))
          go q gone false s o h = gone

  pub busy-kept : (b : ℕ) → AreBusy b ls → has b t ≡ true → AreBusy b (set ls t es)
  busy-kept b all in_set u none = elim (cases_eq u t) [
    | inl e ↦ absurd (false≢true (sym none ∙ (ap (has b) e ∙ in_set)))
    | inr ne ↦ other-busy b b all u ne none
  ]

-- a terminal that holds a name is in the set
pub busy-below : (ls : Holdings) (b t : ℕ) (n : Name) (m : Option Mode) → AreBusy b ls → IsBelow m (mode_held ls t n)
    → has b t ≡ true
busy-below ls b t n m all below = go (has b t) refl
  where
    never : (o : Option Mode) → IsBelow o None → ⊥
    never None h = h
    never (Some Shared) h = h
    never (Some Exclusive) h = h

    go : (c : Bool) → has b t ≡ c → c ≡ true
    go true e = refl
    go false e = absurd (never m (subst (IsBelow m) (idle-held ls b t all e n) below))

pub below-some : (o m : Option Mode) → IsBelow m o → IfSome m (λ k. IsSome o)
below-some o None h = tt
below-some (Some k) (Some m) h = refl
below-some None (Some Shared) h = absurd h
below-some None (Some Exclusive) h = absurd h

-- who is in the way is among those others that may hold the name
module _ (ls : Holdings) (others t : ℕ) (n : Name) (m : Mode) (own : has others t ≡ false)
    (none : (u : ℕ) → u ≢ t → has others u ≡ false → mode_held ls u n ≡ None) where
  free-for : ((u : ℕ) → has others u ≡ true → go_together m (mode_held ls u n) ≡ true) → IsFreeFor ls t n m
  free-for free u ne = go (has others u) refl
    where
      go : (c : Bool) → has others u ≡ c → go_together m (mode_held ls u n) ≡ true
      go true e = free u e
      go false e = ap (go_together m) (none u ne e)

  not_own : (u : ℕ) → has others u ≡ true → u ≢ t
  not_own u e s = false≢true (sym own ∙ (ap (has others) (sym s) ∙ e))

  first-in-the-way : (u : ℕ) → IsFirstAmong ls others n m u → IsInTheWay ls t n m u
  first-in-the-way u h = record {
    other = not_own u h.other;
    conflicts = h.conflicts;
    least = λ v less ne. go v less ne (has others v) refl;
  }
    where
      go : (v : ℕ) → v < u → v ≢ t → (c : Bool) → has others v ≡ c → go_together m (mode_held ls v n) ≡ true
      go v less ne true e = h.least v less e
      go v less ne false e = ap (go_together m) (none v ne e)

  pub in-the-way : (r : Option ℕ)
      → MatchOption r ((u : ℕ) → has others u ≡ true → go_together m (mode_held ls u n) ≡ true)
      (IsFirstAmong ls others n m)
      → MatchOption r (IsFreeFor ls t n m) (IsInTheWay ls t n m)
  in-the-way None h = free-for h
  in-the-way (Some u) h = first-in-the-way u h

  pub nobody-else : ((u : ℕ) → has others u ≡ false) → IsFreeFor ls t n m
  nobody-else all = free-for (λ u e. absurd (false≢true (sym (all u) ∙ e)))

-- those others that may hold something
module _ (ls : Holdings) (b others t : ℕ) (all : AreBusy b ls)
    (is : (u : ℕ) → has others u ≡ (if u == t then false else has b u)) where
  pub own-out : has others t ≡ false
  own-out = is t ∙ cond-true (t == t) false (has b t) (eq-eqb t t refl)

  pub none-out : (n : Name) (u : ℕ) → u ≢ t → has others u ≡ false → mode_held ls u n ≡ None
  none-out n u ne e =
      idle-held ls b u all (sym (is u ∙ cond-false (u == t) false (has b u) (ne_eqb u t ne)) ∙ e) n

  -- and may hold a name with that mark
  module _ (sets : List ℕ) (noted : AreNoted sets ls) (n : Name) (k asked those : ℕ) (at : k ≡ mark n)
      (of : (u : ℕ) → has those u ≡ may_hold sets k u) (both : (u : ℕ) → has asked u ≡ (has others u && has those u))
    where
      pub own-unasked : has asked t ≡ false
      own-unasked = both t ∙ ap (λ c. c && has those t) own-out

      pub none-unasked : (u : ℕ) → u ≢ t → has asked u ≡ false → mode_held ls u n ≡ None
      none-unasked u ne e = go (has others u) refl (sym (both u) ∙ e)
        where
          go : (c : Bool) → has others u ≡ c → (c && has those u) ≡ false → mode_held ls u n ≡ None
          go true h f = noted u n (ap (λ j. may_hold sets j u) (sym at) ∙ (sym (of u) ∙ f))
          go false h f = none-out n u ne h

pub not_true : (b : Bool) → true ≡ not b → b ≡ false
not_true false e = refl
not_true true e = absurd (false≢true (sym e))

pub not_false : (b : Bool) → false ≡ not b → b ≡ true
not_false true e = refl
not_false false e = absurd (false≢true e)

-- one of those that may hold the name was looked at
module _ (ls : Holdings) (others left rest t : ℕ) (n : Name) (m : Mode)
    (is : (u : ℕ) → has rest u ≡ (if u == t then false else has left u)) where
  pub within-rest : ((u : ℕ) → has left u ≡ true → has others u ≡ true) → (u : ℕ) → has rest u ≡ true
      → has others u ≡ true
  within-rest within u e = within u (go (u == t) (sym (is u) ∙ e))
    where
      go : (c : Bool) → (if c then false else has left u) ≡ true → has left u ≡ true
      go true h = absurd (false≢true h)
      go false h = h

  pub free-rest : go_together m (mode_held ls t n) ≡ true
      → ((u : ℕ) → has others u ≡ true → has left u ≡ false → go_together m (mode_held ls u n) ≡ true)
      → (u : ℕ) → has others u ≡ true → has rest u ≡ false → go_together m (mode_held ls u n) ≡ true
  free-rest own free u e none = elim (cases_eq u t) [
    | inl s ↦ ap (λ v. go_together m (mode_held ls v n)) s ∙ own
    | inr ne ↦ free u e (sym (cond-false (u == t) false (has left u) (ne_eqb u t ne)) ∙ (sym (is u) ∙ none))
  ]
