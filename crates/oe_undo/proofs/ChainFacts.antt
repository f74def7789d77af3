-- What the calls of a log make of a key's chain, as lists of records.
use Rattle.std.proofs.Common.{◌≡◌, ℕ, zero, suc, ◌+◌, ◌-◌, ◌<◌, ◌≤◌, ◌==◌, Bool, true, false, cond, List, [], ◌∷◌, ◌++◌}
use Rattle.std.proofs.Common.{length, take, drop, Option, None, Some, refl, sym, ap, ◌∙◌, subst, inl, inr, arith}
use Rattle.std.specs.Prelude.{◌≢◌}
use Rattle.std.specs.List.{AllByRecursion}
use Rattle.std.proofs.lemmas.Bool.{cases_eq, cases_lt, eq-eqb, ne_eqb, cond-true, cond-false}
use Rattle.std.proofs.lemmas.List.{append_assoc}
use Rattle.oe_rows.specs.declared.keys.Key.{Key}
use Rattle.oe_model.specs.Rows.{is_key}
use Rattle.oe_model.specs.Changes.{record_key}
use Rattle.oe_model.specs.System.{system}
use Rattle.oe_theory.specs.Store.{all_below}
use Rattle.oe_extent.specs.declared.extents.Address.{Address}
use Rattle.oe_layout.specs.declared.links.Previous.{Previous}
use Rattle.oe_layout.specs.declared.links.Previous.TheVariants.{Nothing, Own, Committed}
use Rattle.oe_log.specs.Records.{Logged}
use Rattle.oe_log.specs.Log.{Committed as CommitSegment}
use Rattle.oe_undo.specs.declared.holders.Link.{Link}
use Rattle.oe_undo.specs.declared.holders.Holder.{Holder}
use Rattle.oe_undo.specs.declared.holders.Holder.TheVariants.{Open, At}
use Rattle.oe_undo.specs.Held.{Held, held_by, held_open, held_commits, of_key}
use Rattle.oe_undo.specs.Chains.{link_from, IsForgotten, IsEnd, IsEarlier, IsChain, holder_after_seal}
use Rattle.oe_undo.specs.Chains.{holder_after_reopening}
use Rattle.oe_undo.specs.Chains.{with_holder, previous_by, previous_of, IsOwnOrDone, IsSeenBy}
use Rattle.oe_undo.proofs.ChainWalkFacts.{of_key-append}

-- 0 where no segment is open, and else one more than its terminal
abbrev open_number : Holder → ℕ
open_number (Open t) = suc t
open_number (At m) = 0

abbrev holder_in : Option Link → Holder
holder_in None = Open 0
holder_in (Some l) = l.holder

abbrev number : Option Link → ℕ
number None = 0
number (Some l) = open_number l.holder

-- whose commits are not after the moment
abbrev pub AreUpTo : ℕ → List Held → Type 0
AreUpTo m xs = AllByRecursion (λ r. IsForgotten m r.holder) xs

-- none of them is forgotten
abbrev AreKept : ℕ → List Held → Type 0
AreKept h xs = AllByRecursion (λ r. IsForgotten h r.holder → ⊥) xs

not_open : (h : ℕ) (x : Holder) → IsForgotten h x → open_number x ≡ 0
not_open h (Open t) f = absurd f
not_open h (At m) f = refl

end_number : (h : ℕ) (l : Option Link) → IsEnd h l → number l ≡ 0
end_number h None e = refl
end_number h (Some l) e = not_open h l.holder e

weaker : (h g : ℕ) (x : Holder) → h ≤ g → IsForgotten h x → IsForgotten g x
weaker h g (Open t) le f = f
weaker h g (At m) le f = omega (arith, le, f)

end_weaker : (h g : ℕ) (l : Option Link) → h ≤ g → IsEnd h l → IsEnd g l
end_weaker h g None le e = e
end_weaker h g (Some l) le e = weaker h g l.holder le e

lower : (t m : ℕ) → t < suc m → t ≢ m → t < m
lower t m lt ne = elim (cases_lt t m) [ inl q ↦ q | inr q ↦ absurd (ne (omega (arith, q, lt))) ]

module _ (k : Key) where
  abbrev pub own : Holder → List Logged → List Held
  own h rs = of_key k (held_by h rs)

  -- those of the terminals below n, before others
  abbrev pub chain_open : (ℕ → List Logged) → ℕ → List Held → List Held
  chain_open f zero rest = rest
  chain_open f (suc m) rest = own (Open m) (f m) ++ chain_open f m rest

  pub chain-open : (f : ℕ → List Logged) (n : ℕ) (rest : List Held)
      → of_key k (held_open f (all_below system n) ++ rest) ≡ chain_open f n (of_key k rest)
  chain-open f zero rest = refl
  chain-open f (suc m) rest =
      ap (of_key k) (append_assoc (held_by (Open m) (f m)) (held_open f (all_below system m)) rest)
      ∙ of_key-append k (held_by (Open m) (f m)) (held_open f (all_below system m) ++ rest)
      ∙ ap (λ xs. own (Open m) (f m) ++ xs) (chain-open f m rest)

  pub chain-same : (f g : ℕ → List Logged) (n : ℕ) (rest : List Held)
      → ((s : ℕ) → s < n → own (Open s) (f s) ≡ own (Open s) (g s))
      → chain_open f n rest ≡ chain_open g n rest
  chain-same f g zero rest same = refl
  chain-same f g (suc m) rest same =
      ap (λ xs. xs ++ chain_open f m rest) (same m (omega arith))
      ∙ ap (λ xs. own (Open m) (g m) ++ xs) (chain-same f g m rest (λ s h. same s (omega (arith, h))))

  -- where no terminal has records of the key
  pub nobody : (f : ℕ → List Logged) (n : ℕ) (rest : List Held) → ((s : ℕ) → s < n → own (Open s) (f s) ≡ [])
      → chain_open f n rest ≡ rest
  nobody f zero rest none = refl
  nobody f (suc m) rest none = ap (λ xs. xs ++ chain_open f m rest) (none m (omega arith))
      ∙ nobody f m rest (λ s h. none s (omega (arith, h)))

  -- where one terminal alone has
  pub only : (f : ℕ → List Logged) (t n : ℕ) (rest : List Held) → t < n
      → ((s : ℕ) → s < n → s ≢ t → own (Open s) (f s) ≡ [])
      → chain_open f n rest ≡ own (Open t) (f t) ++ rest
  only f t zero rest lt none = absurd (omega (arith, lt))
  only f t (suc m) rest lt none =
      elim (cases_eq m t) [
        | inl e ↦
            ap (λ xs. own (Open m) (f m) ++ xs)
            (nobody f m rest (λ s h. none s (omega (arith, h)) (λ q. omega (arith, h, q, e))))
            ∙ ap (λ x. own (Open x) (f x) ++ rest) e
        | inr ne ↦
            ap (λ xs. xs ++ chain_open f m rest) (none m (omega arith) ne)
            ∙ only f t m rest (lower t m lt (λ q. ne (sym q))) (λ s h. none s (omega (arith, h)))
      ]

  first_holder : (h : Holder) (rs : List Logged) (x : Held) (xs : List Held) → own h rs ≡ x ∷ xs → x.holder ≡ h
  first_holder h [] x xs e = cc
  first_holder h (r ∷ rs) x xs e = go (is_key k (record_key r.before)) e (first_holder h rs x xs)
    where
      go : (c : Bool) → cond c (record { logged = r; holder = h } ∷ own h rs) (own h rs) ≡ x ∷ xs
          → (own h rs ≡ x ∷ xs → x.holder ≡ h) → x.holder ≡ h
      go true e i = let q : record { logged = r; holder = h } ≡ x = cc in ap (λ (z : Held). z.holder) (sym q)
      go false e i = i e

  none_for : (h g : Holder) (rs : List Logged) → own h rs ≡ [] → own g rs ≡ []
  none_for h g [] e = refl
  none_for h g (r ∷ rs) e = go (is_key k (record_key r.before)) e (none_for h g rs)
    where
      go : (c : Bool) → cond c (record { logged = r; holder = h } ∷ own h rs) (own h rs) ≡ []
          → (own h rs ≡ [] → own g rs ≡ [])
          → cond c (record { logged = r; holder = g } ∷ own g rs) (own g rs) ≡ []
      go true e i = cc
      go false e i = i e

  -- a link to the first of a terminal's own records
  first_number : (h m : ℕ) (rs : List Logged) (ys : List Held) (l : Option Link) (x : Held) (xs : List Held)
      → own (Open m) rs ≡ x ∷ xs
      → IsChain h l (own (Open m) rs ++ ys) → number l ≡ suc m
  first_number h m rs ys l x xs e c =
      let d : IsChain h l ((x ∷ xs) ++ ys) = subst (λ zs. IsChain h l (zs ++ ys)) e c in
      ap number d.0.leads ∙ ap open_number (first_holder (Open m) rs x xs e)

  -- a link that leads to no record of the terminal passes it by
  own_empty : (h m : ℕ) (rs : List Logged) (ys : List Held) (l : Option Link) → number l ≢ suc m
      → IsChain h l (own (Open m) rs ++ ys) → own (Open m) rs ≡ []
  own_empty h m rs ys l ne c = go (own (Open m) rs) refl
    where
      go : (xs : List Held) → own (Open m) rs ≡ xs → xs ≡ []
      go [] e = refl
      go (x ∷ xs) e = absurd (ne (first_number h m rs ys l x xs e c))

  own_number : (t : ℕ) (p : Previous) → (number (link_from (Open t) p) ≡ 0 → ⊥) → number (link_from (Open t) p) ≡ suc t
  own_number t Nothing ne = absurd (ne refl)
  own_number t (Own a) ne = refl
  own_number t (Committed a m) ne = absurd (ne refl)

  -- no record of a terminal leads to one of another terminal
  none_before : (h m : ℕ) (ys : List Held) → ((l : Option Link) → IsChain h l ys → (0 < number l) × (number l ≤ m))
      → (rs : List Logged) (l : Option Link) → IsChain h l (own (Open m) rs ++ ys) → own (Open m) rs ≡ []
  none_before h m ys leads [] l c = refl
  none_before h m ys leads (r ∷ rs) l c = go (is_key k (record_key r.before)) c (none_before h m ys leads rs)
    where
      go : (b : Bool) → IsChain h l (cond b (record { logged = r; holder = Open m } ∷ own (Open m) rs) (own (Open m) rs)
          ++ ys)
          → ((x : Option Link) → IsChain h x (own (Open m) rs ++ ys) → own (Open m) rs ≡ [])
          → cond b (record { logged = r; holder = Open m } ∷ own (Open m) rs) (own (Open m) rs) ≡ []
      go true c i =
          let p : Option Link = link_from (Open m) r.previous in
          let at = leads p (subst (λ zs. IsChain h p (zs ++ ys)) (i p c.1) c.1) in
          let is = own_number m r.previous (λ z. omega (arith, z, at.0)) in
          absurd (omega (arith, is, at.1))
      go false c i = i l c

  -- where a terminal has records of the key, a link leads to one that is open
  leads_below : (h : ℕ) (f : ℕ → List Logged) (t : ℕ) (rest : List Held) (x : Held) (xs : List Held)
      → own (Open t) (f t) ≡ x ∷ xs
      → (n : ℕ) → t < n → (l : Option Link) → IsChain h l (chain_open f n rest) → (0 < number l) × (number l ≤ n)
  leads_below h f t rest x xs some zero lt l c = absurd (omega (arith, lt))
  leads_below h f t rest x xs some (suc m) lt l c =
      elim (cases_eq m t) [
        | inl e ↦
            let here : own (Open m) (f m) ≡ x ∷ xs = subst (λ z. own (Open z) (f z) ≡ x ∷ xs) (sym e) some in
            let is = first_number h m (f m) (chain_open f m rest) l x xs here c in
            (omega (arith, is), omega (arith, is))
        | inr ne ↦
            let before : t < m = lower t m lt (λ q. ne (sym q)) in
            let none = none_before h m (chain_open f m rest) (leads_below h f t rest x xs some m before) (f m) l c in
            let deeper = leads_below h f t rest x xs some m before l
            (subst (λ zs. IsChain h l (zs ++ chain_open f m rest)) none c) in
            (deeper.0, omega (arith, deeper.1))
      ]

  -- a link past some terminals leads to none of them
  none_below : (h : ℕ) (f : ℕ → List Logged) (rest : List Held) (n : ℕ) (l : Option Link)
      → (0 < number l → n < number l) → IsChain h l (chain_open f n rest)
      → (s : ℕ) → s < n → own (Open s) (f s) ≡ []
  none_below h f rest zero l past c s lt = absurd (omega (arith, lt))
  none_below h f rest (suc m) l past c s lt =
      let none : own (Open m) (f m) ≡ [] = own_empty h m (f m) (chain_open f m rest) l
      (λ e. let q = past (omega (arith, e)) in omega (arith, q, e)) c in
      elim (cases_eq s m) [
        | inl e ↦ subst (λ z. own (Open z) (f z) ≡ []) (sym e) none
        | inr ne ↦
            none_below h f rest m l (λ q. let z = past q in omega (arith, z))
            (subst (λ zs. IsChain h l (zs ++ chain_open f m rest)) none c) s (lower s m lt ne)
      ]

  -- behind a terminal's own records
  behind : (h t : ℕ) (ys : List Held) (rs : List Logged) (l : Option Link) → (0 < number l → t < number l)
      → IsChain h l (own (Open t) rs ++ ys)
      → (p : Option Link) × (0 < number p → t < number p) × IsChain h p ys
  behind h t ys [] l past c = (l, past, c)
  behind h t ys (r ∷ rs) l past c = go (is_key k (record_key r.before)) c (behind h t ys rs)
    where
      next : (p : Previous) → 0 < number (link_from (Open t) p) → t < number (link_from (Open t) p)
      next Nothing q = absurd (omega (arith, q))
      next (Own a) q = omega arith
      next (Committed a m) q = absurd (omega (arith, q))

      go : (b : Bool) → IsChain h l (cond b (record { logged = r; holder = Open t } ∷ own (Open t) rs) (own (Open t) rs)
          ++ ys)
          → ((x : Option Link) → (0 < number x → t < number x) → IsChain h x (own (Open t) rs ++ ys)
          → (p : Option Link) × (0 < number p → t < number p) × IsChain h p ys)
          → (p : Option Link) × (0 < number p → t < number p) × IsChain h p ys
      go true c i = i (link_from (Open t) r.previous) (next r.previous) c.1
      go false c i = i l past c

  -- one open transaction alone has records of the key
  pub alone : (h : ℕ) (f : ℕ → List Logged) (t : ℕ) (rest : List Held) (x : Held) (xs : List Held)
      → own (Open t) (f t) ≡ x ∷ xs
      → (n : ℕ) → t < n → (l : Option Link) → IsChain h l (chain_open f n rest) → (s : ℕ) → s < n → s ≢ t
      → own (Open s) (f s) ≡ []
  alone h f t rest x xs some zero lt l c s less ne = absurd (omega (arith, lt))
  alone h f t rest x xs some (suc m) lt l c s less ne =
      elim (cases_eq m t) [
        | inl e ↦
            let here : own (Open m) (f m) ≡ x ∷ xs = subst (λ z. own (Open z) (f z) ≡ x ∷ xs) (sym e) some in
            let is = first_number h m (f m) (chain_open f m rest) l x xs here c in
            let last = behind h m (chain_open f m rest) (f m) l (λ q. omega (arith, is)) c in
            none_below h f rest m last.0 last.1 last.2 s (lower s m less (λ q. ne (q ∙ e)))
        | inr other ↦
            let before : t < m = lower t m lt (λ q. other (sym q)) in
            let none = none_before h m (chain_open f m rest) (leads_below h f t rest x xs some m before) (f m) l c in
            elim (cases_eq s m) [
              | inl e ↦ subst (λ z. own (Open z) (f z) ≡ []) (sym e) none
              | inr differs ↦
                  alone h f t rest x xs some m before l (subst (λ zs. IsChain h l (zs ++ chain_open f m rest)) none c) s
                  (lower s m less differs) ne
            ]
      ]

  -- ---- what the calls do

  -- a record pushed, whose previous link is the key's link
  pub pushed : (h : ℕ) (f g : ℕ → List Logged) (t : ℕ) (r : Logged) (rest : List Held)
      → is_key k (record_key r.before) ≡ true
      → g t ≡ r ∷ f t → ((s : ℕ) → s ≢ t → g s ≡ f s)
      → (n : ℕ) → t < n → IsChain h (link_from (Open t) r.previous) (chain_open f n rest)
      → IsChain h (Some (record { address = r.address; holder = Open t })) (chain_open g n rest)
  pushed h f g t r rest key more others zero lt c = absurd (omega (arith, lt))
  pushed h f g t r rest key more others (suc m) lt c =
      elim (cases_eq m t) [
        | inl e ↦
            let these : g m ≡ r ∷ f m = ap g e ∙ more ∙ ap (λ z. r ∷ f z) (sym e) in
            let first : own (Open m) (g m) ≡ record { logged = r; holder = Open m } ∷ own (Open m) (f m) =
            ap (own (Open m)) these ∙ cond-true (is_key k (record_key r.before)) _ _ key in
            let after : chain_open f m rest ≡ chain_open g m rest = chain-same f g m rest
            (λ s q. ap (own (Open s)) (sym (others s (λ z. omega (arith, q, z, e))))) in
            subst (λ z. IsChain h (Some (record { address = r.address; holder = Open z })) (chain_open g (suc m) rest))
            e
            (subst (λ zs. IsChain h (Some (record { address = r.address; holder = Open m }))
            (zs ++ chain_open g m rest)) (sym first) (
              record { leads = refl; earlier = own_earlier r.previous },
              subst (λ zs. IsChain h (link_from (Open m) r.previous) (own (Open m) (f m) ++ zs)) after
                  (subst (λ z. IsChain h (link_from (Open z) r.previous) (chain_open f (suc m) rest)) (sym e) c),
            ))
        | inr ne ↦
            let none : own (Open m) (f m) ≡ [] = own_empty h m (f m) (chain_open f m rest)
            (link_from (Open t) r.previous) (elsewhere r.previous ne) c in
            let none_now : own (Open m) (g m) ≡ [] = ap (own (Open m)) (others m ne) ∙ none in
            subst (λ zs. IsChain h (Some (record { address = r.address; holder = Open t })) (zs ++ chain_open g m rest))
            (sym none_now)
            (pushed h f g t r rest key more others m (lower t m lt (λ q. ne (sym q)))
            (subst (λ zs. IsChain h (link_from (Open t) r.previous) (zs ++ chain_open f m rest)) none c))
      ]
    where
      own_earlier : (p : Previous) → IsEarlier p (Open m)
      own_earlier Nothing = tt
      own_earlier (Own a) = tt
      own_earlier (Committed a n) = tt

      elsewhere : (p : Previous) → m ≢ t → number (link_from (Open t) p) ≢ suc m
      elsewhere Nothing ne = λ q. omega (arith, q)
      elsewhere (Own a) ne = λ q. ne (omega (arith, q))
      elsewhere (Committed a n) ne = λ q. omega (arith, q)

  -- the newest record taken off, and its previous link is the key's again
  pub popped : (h : ℕ) (f g : ℕ → List Logged) (t : ℕ) (r : Logged) (rs : List Logged) (rest : List Held)
      (l : Option Link)
      → is_key k (record_key r.before) ≡ true → f t ≡ r ∷ rs → g t ≡ rs → ((s : ℕ) → s ≢ t → g s ≡ f s)
      → (n : ℕ) → t < n → IsChain h l (chain_open f n rest)
      → IsChain h (link_from (Open t) r.previous) (chain_open g n rest)
  popped h f g t r rs rest l key had has others n lt c =
      let first : own (Open t) (f t) ≡ record { logged = r; holder = Open t } ∷ own (Open t) rs = ap (own (Open t)) had
      ∙ cond-true (is_key k (record_key r.before)) _ _ key in
      let none = alone h f t rest (record { logged = r; holder = Open t }) (own (Open t) rs) first n lt l c in
      let before : chain_open f n rest ≡ (record { logged = r; holder = Open t } ∷ own (Open t) rs) ++ rest =
      only f t n rest lt none ∙ ap (λ xs. xs ++ rest) first in
      let after : chain_open g n rest ≡ own (Open t) rs ++ rest =
      only g t n rest lt (λ s less ne. ap (own (Open s)) (others s ne) ∙ none s less ne)
      ∙ ap (λ z. own (Open t) z ++ rest) has in
      let d : IsChain h l ((record { logged = r; holder = Open t } ∷ own (Open t) rs) ++ rest) =
      subst (IsChain h l) before c in
      subst (IsChain h (link_from (Open t) r.previous)) (sym after) d.1

  -- ---- a commit

  -- these are not of the terminal's open segment
  same_sealed : (t m : ℕ) (x : Holder) → open_number x ≢ suc t → holder_after_seal t m x ≡ x
  same_sealed t m (Open s) ne = cond-false (s == t) (At m) (Open s) (ne_eqb s t (λ e. ne (ap suc e)))
  same_sealed t m (At n) ne = refl

  link_same : (f : Holder → Holder) (l : Option Link) → ((x : Link) → l ≡ Some x → f x.holder ≡ x.holder)
      → with_holder f l ≡ l
  link_same f None same = refl
  link_same f (Some x) same = ap (λ (h : Holder). Some (record { address = x.address; holder = h })) (same x refl)

  unsealed : (t m : ℕ) (l : Option Link) → number l ≢ suc t → with_holder (holder_after_seal t m) l ≡ l
  unsealed t m l ne = link_same (holder_after_seal t m) l (λ x e. same_sealed t m x.holder (λ q. ne (ap number e ∙ q)))

  -- a link to no open record
  closed_number : (h n : ℕ) (l : Option Link) (ys : List Held) → AreUpTo n ys → IsChain h l ys → number l ≡ 0
  closed_number h n l [] up c = end_number h l c
  closed_number h n l (y ∷ ys) up c = ap number c.0.leads ∙ not_open n y.holder up.0

  -- where a terminal has no records of the key, the link leads to none of its
  leads_elsewhere : (h b : ℕ) (f : ℕ → List Logged) (t : ℕ) (ys : List Held) → AreUpTo b ys → own (Open t) (f t) ≡ []
      → (n : ℕ) (l : Option Link) → IsChain h l (chain_open f n ys) → number l ≢ suc t
  leads_elsewhere h b f t ys up none zero l c = λ e. let z = closed_number h b l ys up c in omega (arith, e, z)
  leads_elsewhere h b f t ys up none (suc m) l c = go (own (Open m) (f m)) refl (leads_elsewhere h b f t ys up none m l)
    where
      go : (xs : List Held) → own (Open m) (f m) ≡ xs → (IsChain h l (chain_open f m ys) → number l ≢ suc t)
          → number l ≢ suc t
      go [] e i = i (subst (λ zs. IsChain h l (zs ++ chain_open f m ys)) e c)
      go (x ∷ xs) e i = λ q.
          let is = first_number h m (f m) (chain_open f m ys) l x xs e c in
          let same : m ≡ t = omega (arith, is, q) in
          let empty : own (Open m) (f m) ≡ [] = subst (λ z. own (Open z) (f z) ≡ []) (sym same) none in
          cc

  -- a previous link to a commit that is not later than this moment
  up_to : (h n t : ℕ) (rs : List Logged) (ys : List Held) (a : Address) (m : ℕ) → h ≤ n → AreUpTo n ys
      → IsChain h (Some (record { address = a; holder = At m })) (own (Open t) rs ++ ys) → m ≤ n
  up_to h n t rs ys a m le up c = go (own (Open t) rs) refl
    where
      at : (ys : List Held) → AreUpTo n ys → IsChain h (Some (record { address = a; holder = At m })) ys → m ≤ n
      at [] up c = omega (arith, le, c)
      at (y ∷ ys) up c =
          let holds : At m ≡ y.holder = ap holder_in c.0.leads in
          subst (λ (x : Holder). IsForgotten n x) (sym holds) up.0

      go : (xs : List Held) → own (Open t) rs ≡ xs → m ≤ n
      go [] e = at ys up (subst (λ zs. IsChain h (Some (record { address = a; holder = At m })) (zs ++ ys)) e c)
      go (x ∷ xs) e = let is = first_number h t rs ys (Some (record { address = a; holder = At m })) x xs e c in
          absurd (omega (arith, is))

  from_sealed : (t n : ℕ) (p : Previous) → with_holder (holder_after_seal t n) (link_from (Open t) p)
      ≡ link_from (At n) p
  from_sealed t n Nothing = refl
  from_sealed t n (Own a) = ap (λ (h : Holder). Some (record { address = a; holder = h }))
      (cond-true (t == t) (At n) (Open t) (eq-eqb t t refl))
  from_sealed t n (Committed a m) = refl

  -- its own records are those of the commit at the moment after n
  sealed_own : (h n t : ℕ) (ys : List Held) → h ≤ n → AreUpTo n ys → (rs : List Logged) (l : Option Link)
      → IsChain h l (own (Open t) rs ++ ys)
      → IsChain h (with_holder (holder_after_seal t (suc n)) l) (own (At (suc n)) rs ++ ys)
  sealed_own h n t ys le up [] l c =
      let closed = closed_number h n l ys up c in
      subst (λ x. IsChain h x ys) (sym (unsealed t (suc n) l (λ e. omega (arith, e, closed)))) c
  sealed_own h n t ys le up (r ∷ rs) l c = go (is_key k (record_key r.before)) c (sealed_own h n t ys le up rs)
    where
      earlier : (p : Previous) → IsChain h (link_from (Open t) p) (own (Open t) rs ++ ys) → IsEarlier p (At (suc n))
      earlier Nothing c = tt
      earlier (Own a) c = tt
      earlier (Committed a m) c = let z = up_to h n t rs ys a m le up c in omega (arith, z)

      go : (b : Bool) → IsChain h l (cond b (record { logged = r; holder = Open t } ∷ own (Open t) rs) (own (Open t) rs)
          ++ ys)
          → ((x : Option Link) → IsChain h x (own (Open t) rs ++ ys)
          → IsChain h (with_holder (holder_after_seal t (suc n)) x) (own (At (suc n)) rs ++ ys))
          → IsChain h (with_holder (holder_after_seal t (suc n)) l)
          (cond b (record { logged = r; holder = At (suc n) } ∷ own (At (suc n)) rs) (own (At (suc n)) rs) ++ ys)
      go true c i =
          let leads = ap (with_holder (holder_after_seal t (suc n))) c.0.leads
          ∙ ap (λ (h : Holder). Some (record { address = r.address; holder = h }))
          (cond-true (t == t) (At (suc n)) (Open t) (eq-eqb t t refl)) in (
            record { leads = leads; earlier = earlier r.previous c.1 },
            subst (λ x. IsChain h x (own (At (suc n)) rs ++ ys)) (from_sealed t (suc n) r.previous)
                (i (link_from (Open t) r.previous) c.1),
          )
      go false c i = i l c

  pub sealed : (h m : ℕ) (f g : ℕ → List Logged) (t : ℕ) (ys : List Held) (l : Option Link) → h ≤ m → AreUpTo m ys
      → g t ≡ [] → ((s : ℕ) → s ≢ t → g s ≡ f s) → (n : ℕ) → t < n → IsChain h l (chain_open f n ys)
      → IsChain h (with_holder (holder_after_seal t (suc m)) l) (chain_open g n (own (At (suc m)) (f t) ++ ys))
  sealed h m f g t ys l le up gone others n lt c = go (own (Open t) (f t)) refl
    where
      go : (xs : List Held) → own (Open t) (f t) ≡ xs
          → IsChain h (with_holder (holder_after_seal t (suc m)) l) (chain_open g n (own (At (suc m)) (f t) ++ ys))
      go [] e =
          let moved : own (At (suc m)) (f t) ≡ [] = none_for (Open t) (At (suc m)) (f t) e in
          let here : (s : ℕ) → own (Open s) (f s) ≡ own (Open s) (g s) =
          λ s. elim (cases_eq s t) [
            | inl q ↦ subst (λ z. own (Open z) (f z) ≡ own (Open z) (g z)) (sym q) (e ∙ sym (ap (own (Open t)) gone))
            | inr ne ↦ ap (own (Open s)) (sym (others s ne))
          ] in
          let lists : chain_open f n ys ≡ chain_open g n (own (At (suc m)) (f t) ++ ys) =
          chain-same f g n ys (λ s less. here s) ∙ ap (λ xs. chain_open g n (xs ++ ys)) (sym moved) in
          let links : l ≡ with_holder (holder_after_seal t (suc m)) l = sym
          (unsealed t (suc m) l (leads_elsewhere h m f t ys up e n l c)) in
          subst (λ x. IsChain h x (chain_open g n (own (At (suc m)) (f t) ++ ys))) links (subst (IsChain h l) lists c)
      go (x ∷ xs) e =
          let none = alone h f t ys x xs e n lt l c in
          let one : IsChain h l (own (Open t) (f t) ++ ys) = subst (IsChain h l) (only f t n ys lt none) c in
          let after : chain_open g n (own (At (suc m)) (f t) ++ ys) ≡ own (At (suc m)) (f t) ++ ys =
          only g t n (own (At (suc m)) (f t) ++ ys) lt (λ s less ne. ap (own (Open s)) (others s ne) ∙ none s less ne)
          ∙ ap (λ zs. own (Open t) zs ++ (own (At (suc m)) (f t) ++ ys)) gone in
          subst (IsChain h (with_holder (holder_after_seal t (suc m)) l)) (sym after)
          (sealed_own h m t ys le up (f t) l one)

  -- ---- a rewind opens the newest commit again

  same_reopened : (t m n : ℕ) (x : Holder) → n < m → IsForgotten n x → holder_after_reopening t m x ≡ x
  same_reopened t m n (Open s) lt up = absurd up
  same_reopened t m n (At q) lt up = cond-false (q == m) (Open t) (At q) (ne_eqb q m (λ e. omega (arith, e, lt, up)))

  unopened : (h n t m : ℕ) (l : Option Link) (ys : List Held) → h < m → n < m → AreUpTo n ys → IsChain h l ys
      → with_holder (holder_after_reopening t m) l ≡ l
  unopened h n t m None [] lh ln up c = refl
  unopened h n t m (Some x) [] lh ln up c = ap (λ (z : Holder). Some (record { address = x.address; holder = z }))
      (same_reopened t m h x.holder lh c)
  unopened h n t m l (y ∷ ys) lh ln up c =
      subst (λ x. with_holder (holder_after_reopening t m) x ≡ x) (sym c.0.leads)
      (ap (λ (z : Holder). Some (record { address = y.logged.address; holder = z }))
      (same_reopened t m n y.holder ln up.0))

  from_reopened : (t m : ℕ) (p : Previous) → IsEarlier p (At m)
      → with_holder (holder_after_reopening t m) (link_from (At m) p) ≡ link_from (Open t) p
  from_reopened t m Nothing e = refl
  from_reopened t m (Own a) e = ap (λ (h : Holder). Some (record { address = a; holder = h }))
      (cond-true (m == m) (Open t) (At m) (eq-eqb m m refl))
  from_reopened t m (Committed a q) e = ap (λ (h : Holder). Some (record { address = a; holder = h }))
      (cond-false (q == m) (Open t) (At q) (ne_eqb q m (λ z. omega (arith, z, e))))

  reopened_own : (h n t m : ℕ) (ys : List Held) → h < m → n < m → AreUpTo n ys → (rs : List Logged) (l : Option Link)
      → IsChain h l (own (At m) rs ++ ys)
      → IsChain h (with_holder (holder_after_reopening t m) l) (own (Open t) rs ++ ys)
  reopened_own h n t m ys lh ln up [] l c = subst (λ x. IsChain h x ys) (sym (unopened h n t m l ys lh ln up c)) c
  reopened_own h n t m ys lh ln up (r ∷ rs) l c = go (is_key k (record_key r.before)) c
      (reopened_own h n t m ys lh ln up rs)
    where
      own_earlier : (p : Previous) → IsEarlier p (Open t)
      own_earlier Nothing = tt
      own_earlier (Own a) = tt
      own_earlier (Committed a q) = tt

      go : (b : Bool) → IsChain h l (cond b (record { logged = r; holder = At m } ∷ own (At m) rs) (own (At m) rs)
          ++ ys)
          → ((x : Option Link) → IsChain h x (own (At m) rs ++ ys)
          → IsChain h (with_holder (holder_after_reopening t m) x) (own (Open t) rs ++ ys))
          → IsChain h (with_holder (holder_after_reopening t m) l)
          (cond b (record { logged = r; holder = Open t } ∷ own (Open t) rs) (own (Open t) rs) ++ ys)
      go true c i =
          let leads = ap (with_holder (holder_after_reopening t m)) c.0.leads
          ∙ ap (λ (h : Holder). Some (record { address = r.address; holder = h }))
          (cond-true (m == m) (Open t) (At m) (eq-eqb m m refl)) in (
            record { leads = leads; earlier = own_earlier r.previous },
            subst (λ x. IsChain h x (own (Open t) rs ++ ys)) (from_reopened t m r.previous c.0.earlier)
                (i (link_from (At m) r.previous) c.1),
          )
      go false c i = i l c

  pub reopened : (h b m : ℕ) (f g : ℕ → List Logged) (t : ℕ) (ys : List Held) (l : Option Link) → h < m → b < m
      → AreUpTo b ys
      → ((s : ℕ) → f s ≡ []) → ((s : ℕ) → s ≢ t → g s ≡ []) → (n : ℕ) → t < n
      → IsChain h l (chain_open f n (own (At m) (g t) ++ ys))
      → IsChain h (with_holder (holder_after_reopening t m) l) (chain_open g n ys)
  reopened h b m f g t ys l lh lb up closed others n lt c =
      let before : chain_open f n (own (At m) (g t) ++ ys) ≡ own (At m) (g t) ++ ys =
      only f t n (own (At m) (g t) ++ ys) lt (λ s less ne. ap (own (Open s)) (closed s))
      ∙ ap (λ zs. own (Open t) zs ++ (own (At m) (g t) ++ ys)) (closed t) in
      let after : chain_open g n ys ≡ own (Open t) (g t) ++ ys = only g t n ys lt
      (λ s less ne. ap (own (Open s)) (others s ne)) in
      subst (IsChain h (with_holder (holder_after_reopening t m) l)) (sym after)
      (reopened_own h b t m ys lh lb up (g t) l (subst (IsChain h l) before c))

  -- ---- a purge

  -- a chain ends where the horizon comes to lie
  pub cut_at : (h g : ℕ) (l : Option Link) (xs ys : List Held) → h ≤ g → AreUpTo g ys → IsChain h l (xs ++ ys)
      → IsChain g l xs
  cut_at h g l [] [] le up c = end_weaker h g l le c
  cut_at h g l [] (y ∷ ys) le up c = subst (IsEnd g) (sym c.0.leads) up.0
  cut_at h g l (x ∷ xs) ys le up c = (c.0, cut_at h g (link_from x.holder x.logged.previous) xs ys le up c.1)

  own-up : (m n : ℕ) (rs : List Logged) (ys : List Held) → n ≤ m → AreUpTo m ys → AreUpTo m (own (At n) rs ++ ys)
  own-up m n [] ys le up = up
  own-up m n (r ∷ rs) ys le up = go (is_key k (record_key r.before)) (own-up m n rs ys le up)
    where
      go : (b : Bool) → AreUpTo m (own (At n) rs ++ ys)
          → AreUpTo m (cond b (record { logged = r; holder = At n } ∷ own (At n) rs) (own (At n) rs) ++ ys)
      go true i = (le, i)
      go false i = i

  pub commits-append : (n : ℕ) (c : CommitSegment) (cs : List CommitSegment)
      → of_key k (held_commits n (c ∷ cs)) ≡ own (At n) c.records ++ of_key k (held_commits (n - 1) cs)
  commits-append n c cs = of_key-append k (held_by (At n) c.records) (held_commits (n - 1) cs)

  pub commits-up : (m n : ℕ) (cs : List CommitSegment) → n ≤ m → AreUpTo m (of_key k (held_commits n cs))
  commits-up m n [] le = tt
  commits-up m n (c ∷ cs) le =
      subst (AreUpTo m) (sym (commits-append n c cs))
      (own-up m n c.records (of_key k (held_commits (n - 1) cs)) le (commits-up m (n - 1) cs (omega (arith, le))))

  pub commits-split : (n j : ℕ) (cs : List CommitSegment)
      → of_key k (held_commits n cs) ≡ of_key k (held_commits n (take j cs))
      ++ of_key k (held_commits (n - j) (drop j cs))
  commits-split n zero cs = let same : n ≡ n - 0 = omega arith in ap (λ m. of_key k (held_commits m cs)) same
  commits-split n (suc j) [] = refl
  commits-split n (suc j) (c ∷ cs) =
      let less : n - 1 - j ≡ n - suc j = omega arith in
      commits-append n c cs
      ∙ ap (λ xs. own (At n) c.records ++ xs) (commits-split (n - 1) j cs)
      ∙ sym (append_assoc (own (At n) c.records) (of_key k (held_commits (n - 1) (take j cs)))
      (of_key k (held_commits (n - 1 - j) (drop j cs))))
      ∙ ap (λ xs. xs ++ of_key k (held_commits (n - 1 - j) (drop j cs))) (sym (commits-append n c (take j cs)))
      ∙ ap (λ m. of_key k (held_commits n (c ∷ take j cs)) ++ of_key k (held_commits m (drop j cs))) less

  open-append : (f : ℕ → List Logged) (n : ℕ) (xs ys : List Held) → chain_open f n (xs ++ ys) ≡ chain_open f n xs ++ ys
  open-append f zero xs ys = refl
  open-append f (suc m) xs ys =
      ap (λ zs. own (Open m) (f m) ++ zs) (open-append f m xs ys) ∙ sym
      (append_assoc (own (Open m) (f m)) (chain_open f m xs) ys)

  pub purged : (h m j : ℕ) (f : ℕ → List Logged) (n : ℕ) (cs : List CommitSegment) (l : Option Link) → h ≤ m - j
      → IsChain h l (chain_open f n (of_key k (held_commits m cs)))
      → IsChain (m - j) l (chain_open f n (of_key k (held_commits m (take j cs))))
  purged h m j f n cs l le c =
      let older : List Held = of_key k (held_commits (m - j) (drop j cs)) in
      let parts : chain_open f n (of_key k (held_commits m cs)) ≡ chain_open f n (of_key k (held_commits m (take j cs)))
      ++ older =
      ap (chain_open f n) (commits-split m j cs) ∙ open-append f n (of_key k (held_commits m (take j cs))) older in
      cut_at h (m - j) l (chain_open f n (of_key k (held_commits m (take j cs)))) older le
      (commits-up (m - j) (m - j) (drop j cs) (omega arith)) (subst (IsChain h l) parts c)

  -- ---- a key whose link is an end has no record

  own-kept : (h n : ℕ) (x : Holder) (rs : List Logged) (ys : List Held) → (IsForgotten h x → ⊥) → AreKept h ys
      → AreKept h (own x rs ++ ys)
  own-kept h n x [] ys never kept = kept
  own-kept h n x (r ∷ rs) ys never kept = go (is_key k (record_key r.before)) (own-kept h n x rs ys never kept)
    where
      go : (b : Bool) → AreKept h (own x rs ++ ys)
          → AreKept h (cond b (record { logged = r; holder = x } ∷ own x rs) (own x rs) ++ ys)
      go true i = (never, i)
      go false i = i

  commits-kept : (h n : ℕ) (cs : List CommitSegment) → h + length cs ≤ n → AreKept h (of_key k (held_commits n cs))
  commits-kept h n [] le = tt
  commits-kept h n (c ∷ cs) le =
      subst (AreKept h) (sym (commits-append n c cs))
      (own-kept h n (At n) c.records (of_key k (held_commits (n - 1) cs)) (λ q. omega (arith, le, q))
      (commits-kept h (n - 1) cs (omega (arith, le))))

  open-kept : (h : ℕ) (f : ℕ → List Logged) (n : ℕ) (ys : List Held) → AreKept h ys → AreKept h (chain_open f n ys)
  open-kept h f zero ys kept = kept
  open-kept h f (suc m) ys kept = own-kept h 0 (Open m) (f m) (chain_open f m ys) (λ q. q) (open-kept h f m ys kept)

  pub no_record : (h m : ℕ) (f : ℕ → List Logged) (n : ℕ) (cs : List CommitSegment) (l : Option Link)
      → h + length cs ≤ m
      → IsEnd h l → IsChain h l (chain_open f n (of_key k (held_commits m cs)))
      → chain_open f n (of_key k (held_commits m cs)) ≡ []
  no_record h m f n cs l le end c = go (chain_open f n (of_key k (held_commits m cs)))
      (open-kept h f n (of_key k (held_commits m cs)) (commits-kept h m cs le)) c
    where
      go : (xs : List Held) → AreKept h xs → IsChain h l xs → xs ≡ []
      go [] kept c = refl
      go (x ∷ xs) kept c = absurd (kept.0 (subst (IsEnd h) c.0.leads end))

-- ---- the link of a key as the previous one of a record

pub seen_again : (t : ℕ) (l : Option Link) → IsSeenBy t l → link_from (Open t) (previous_of l) ≡ l
seen_again t None s = refl
seen_again t (Some l) s = go l.holder s
  where
    go : (h : Holder) → IsOwnOrDone t h → link_from (Open t) (previous_by h l.address) ≡ Some
        (record { address = l.address; holder = h })
    go (Open q) e = ap (λ z. Some (record { address = l.address; holder = Open z })) (sym e)
    go (At m) e = refl
