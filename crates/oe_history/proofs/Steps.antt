-- Each step keeps the rule of the history.
use Rattle.std.proofs.Common.{◌≡◌, ◌≢◌, ◌⊎◌, ℕ, zero, suc, ◌≤◌, true, false, true≢false, List, [], ◌∷◌, ◌++◌, length}
use Rattle.std.proofs.Common.{set, refl, sym, ap, ◌∙◌, subst, inl, inr, ⊎_elim, arith}
use mathlib.Core.Option.{none, some, some-ne-none, some-injective}
use lib.ListN.{get_elem?}
use Rattle.atomic_table.specs.Table.{Me, step, Allows, Splits, Joins, keeps, opening}
use Rattle.atomic_table.proofs.Lists.{at_set, set_again}
use Rattle.oe_history.specs.declared.views.Entry.{Entry}
use Rattle.oe_history.specs.declared.views.View.{View}
use Rattle.oe_history.specs.Views.{calls_by, keeper, both, nobody, keeper_of, caller_of, dealt_on, next_caller}
use Rattle.oe_history.specs.Views.{IsCaller, IsKeeper, Fits, Kept, IsKept, with_entry, Appended, Looked}
use Rattle.oe_history.proofs.Lists.{calls-own, calls-other, prefix-longer, append-nothing}

off : false ≡ true → ⊥
off e = true≢false (sym e)

-- what the rule says but for one seat
record Beside (seat : ℕ) (log : List Entry) (dealt : ℕ) (id : ℕ) (views : List View) : Type 0 where
  pub each : (i : ℕ) (v : View) → i ≢ id → get_elem? views i ≡ some v → Fits seat log dealt i v
  pub apart : (i j : ℕ) (v w : View) → i ≢ id → j ≢ id → get_elem? views i ≡ some v → get_elem? views j ≡ some w
      → v.calls ≡ true → w.calls ≡ true → v.by ≡ w.by → i ≡ j
  pub others : (by : ℕ) → dealt ≤ by → calls_by by log ≡ []

-- the view has a number that no other has
abbrev IsFresh : ℕ → List View → View → Type 0
IsFresh id views w = (j : ℕ) (u : View) → j ≢ id → get_elem? views j ≡ some u → w.calls ≡ true → u.calls ≡ true
    → w.by ≡ u.by → ⊥

kept_set : (seat : ℕ) (log : List Entry) (dealt id : ℕ) (views : List View) (w : View) → Beside seat log dealt id views
    → Fits seat log dealt id w → IsFresh id views w → Kept (set views id w)
kept_set seat log dealt id views w b fits fresh = record {
  seat = seat;
  log = log;
  dealt = dealt;
  each = λ j u e. ⊎_elim
      (λ (x : (j ≡ id) × (w ≡ u)). subst (λ (y : ℕ × View). Fits seat log dealt y.0 y.1) (λ i. (sym x.0 i, x.1 i)) fits)
      (λ (x : (j ≢ id) × (get_elem? views j ≡ some u)). b.each j u x.0 x.1)
      (at_set views id j w u e);
  apart = λ i j v u ev eu cv cu same. ⊎_elim
      (λ (x : (i ≡ id) × (w ≡ v)). ⊎_elim
      (λ (y : (j ≡ id) × (w ≡ u)). x.0 ∙ sym y.0)
      (λ (y : (j ≢ id) × (get_elem? views j ≡ some u)). absurd (fresh j u y.0 y.1 (ap (λ (z : View). z.calls) x.1
      ∙ cv) cu
      (ap (λ (z : View). z.by) x.1 ∙ same)))
      (at_set views id j w u eu))
      (λ (x : (i ≢ id) × (get_elem? views i ≡ some v)). ⊎_elim
      (λ (y : (j ≡ id) × (w ≡ u)). absurd (fresh i v x.0 x.1 (ap (λ (z : View). z.calls) y.1 ∙ cu) cv
      (ap (λ (z : View). z.by) y.1 ∙ sym same)))
      (λ (y : (j ≢ id) × (get_elem? views j ≡ some u)). b.apart i j v u x.0 y.0 x.1 y.1 cv cu same)
      (at_set views id j w u eu))
      (at_set views id i w v ev);
  others = b.others;
}

beside : (views : List View) (k : Kept views) (id : ℕ) → Beside k.seat k.log k.dealt id views
beside views k id = record {
  each = λ i v _ e. k.each i v e;
  apart = λ i j v w _ _ ev ew cv cw same. k.apart i j v w ev ew cv cw same;
  others = k.others;
}

at_push : (l : List View) (a b : View) (j : ℕ) → get_elem? (l ++ a ∷ []) j ≡ some b
    → (get_elem? l j ≡ some b) ⊎ ((j ≡ length l) × (a ≡ b))
at_push [] a b zero e = inr (refl, some-injective a b e)
at_push [] a b (suc j) e = absurd (some-ne-none b (sym e))
at_push (x ∷ xs) a b zero e = inl e
at_push (x ∷ xs) a b (suc j) e = ⊎_elim (λ h. inl h) (λ (t : (j ≡ length xs) × (a ≡ b)). inr (ap suc t.0, t.1))
    (at_push xs a b j e)

kept_push : (views : List View) (k : Kept views) (w : View) → w.keeps ≡ false → (w.calls ≡ true
    → IsCaller k.log k.dealt w)
    → ((j : ℕ) (u : View) → get_elem? views j ≡ some u → w.calls ≡ true → u.calls ≡ true → w.by ≡ u.by → ⊥)
    → Kept (views ++ w ∷ [])
kept_push views k w silent fits fresh = record {
  seat = k.seat;
  log = k.log;
  dealt = k.dealt;
  each = λ j u e. ⊎_elim
      (λ was. k.each j u was)
      (λ (x : (j ≡ length views) × (w ≡ u)). subst (Fits k.seat k.log k.dealt j) x.1
      ((λ on. absurd (off (sym silent ∙ on))), fits))
      (at_push views w u j e);
  apart = λ i j v u ev eu cv cu same. ⊎_elim
      (λ (was : get_elem? views i ≡ some v). ⊎_elim
      (λ (is : get_elem? views j ≡ some u). k.apart i j v u was is cv cu same)
      (λ (y : (j ≡ length views) × (w ≡ u)). absurd (fresh i v was (ap (λ (z : View). z.calls) y.1 ∙ cu) cv
      (ap (λ (z : View). z.by) y.1 ∙ sym same)))
      (at_push views w u j eu))
      (λ (x : (i ≡ length views) × (w ≡ v)). ⊎_elim
      (λ (is : get_elem? views j ≡ some u). absurd (fresh j u is (ap (λ (z : View). z.calls) x.1 ∙ cv) cu
      (ap (λ (z : View). z.by) x.1 ∙ same)))
      (λ (y : (j ≡ length views) × (w ≡ u)). x.0 ∙ sym y.0)
      (at_push views w u j eu))
      (at_push views w v i ev);
  others = k.others;
}

-- the first seat keeps a history with no entry
pub begins : (key : ℕ) (words : List ℕ) → IsKept key (opening words [] (keeper [] 0))
begins key words = record {
  seat = 0;
  log = [];
  dealt = 0;
  each = one;
  apart = λ i j v w ev ew cv cw same. absurd (no_caller i v ev cv);
  others = λ by le. refl;
}
  where
    one : (i : ℕ) (v : View) → get_elem? (keeper [] 0 ∷ []) i ≡ some v → Fits 0 [] 0 i v
    one zero v e = subst (Fits 0 [] 0 0) (some-injective _ _ e)
        ((λ _. record { here = refl; all = refl; callers = refl }), (λ c. absurd (off c)))
    one (suc i) v e = absurd (some-ne-none v (sym e))

    no_caller : (i : ℕ) (v : View) → get_elem? (keeper [] 0 ∷ []) i ≡ some v → v.calls ≡ true → ⊥
    no_caller zero v e c = off (ap (λ (z : View). z.calls) (some-injective _ _ e) ∙ c)
    no_caller (suc i) v e c = some-ne-none v (sym e)

-- a caller comes
pub comes : (key id : ℕ) (v : View) (other : ℕ) (w : View) → Joins (IsKept key) id v other w (both v w) nobody
comes key id v other w s k at ne at' =
    let was : get_elem? s.views other ≡ some w = ⊎_elim
    (λ (x : (other ≡ id) × (both v w ≡ w)). absurd (ne x.0))
    (λ (x : (other ≢ id) × (get_elem? s.views other ≡ some w)). x.1)
    (at_set s.views id other (both v w) w at') in
    let fits : Fits k.seat k.log k.dealt id (both v w) = (
      (λ on. let f = (k.each id v at).0 on in record { here = f.here; all = f.all; callers = f.callers }),
      (λ on. let f = (k.each other w was).1 on in record { seen = f.seen; mine = f.mine; known = f.known }),
    ) in
    let lone : (j : ℕ) (u : View) → j ≢ other → get_elem? s.views j ≡ some u → w.calls ≡ true → u.calls ≡ true
    → w.by ≡ u.by → ⊥ = λ j u not e cw cu same. not (k.apart j other u w e was cu cw (sym same)) in
    kept_set k.seat k.log k.dealt other (set s.views id (both v w)) nobody
    (record {
      each = λ j u not e. ⊎_elim
          (λ (x : (j ≡ id) × (both v w ≡ u)). subst (λ (y : ℕ × View). Fits k.seat k.log k.dealt y.0 y.1)
          (λ i. (sym x.0 i, x.1 i)) fits)
          (λ (x : (j ≢ id) × (get_elem? s.views j ≡ some u)). k.each j u x.1)
          (at_set s.views id j (both v w) u e);
      apart = λ i j a b ni nj ea eb ca cb same. ⊎_elim
          (λ (x : (i ≡ id) × (both v w ≡ a)). ⊎_elim
          (λ (y : (j ≡ id) × (both v w ≡ b)). x.0 ∙ sym y.0)
          (λ (y : (j ≢ id) × (get_elem? s.views j ≡ some b)). absurd (lone j b nj y.1
          (ap (λ (z : View). z.calls) x.1 ∙ ca) cb (ap (λ (z : View). z.by) x.1 ∙ same)))
          (at_set s.views id j (both v w) b eb))
          (λ (x : (i ≢ id) × (get_elem? s.views i ≡ some a)). ⊎_elim
          (λ (y : (j ≡ id) × (both v w ≡ b)). absurd (lone i a ni x.1
          (ap (λ (z : View). z.calls) y.1 ∙ cb) ca (ap (λ (z : View). z.by) y.1 ∙ sym same)))
          (λ (y : (j ≢ id) × (get_elem? s.views j ≡ some b)). k.apart i j a b x.1 y.1 ca cb same)
          (at_set s.views id j (both v w) b eb))
          (at_set s.views id i (both v w) a ea);
      others = k.others;
    })
    ((λ on. absurd (off on)), (λ on. absurd (off on)))
    (λ j u _ _ on _ _. off on)

-- and goes
pub goes : (key id : ℕ) (v : View) → Splits (IsKept key) id v (keeper_of v) (caller_of v)
unfolding kept_set
goes key id v s k at =
    let half : Kept (set s.views id (keeper_of v)) = kept_set k.seat k.log k.dealt id s.views (keeper_of v)
    (beside s.views k id) (
      (λ on. let f = (k.each id v at).0 on in record {
        here = f.here;
        all = f.all;
        callers =
            f.callers;
      }),
      (λ on. absurd (off on)),
    ) (λ j u _ _ on _ _. off on) in
    kept_push (set s.views id (keeper_of v)) half (caller_of v) refl
    (λ on. let f = (k.each id v at).1 on in record { seen = f.seen; mine = f.mine; known = f.known })
    (λ j u e cv cu same. ⊎_elim
    (λ (x : (j ≡ id) × (keeper_of v ≡ u)). off (ap (λ (z : View). z.calls) x.1 ∙ cu))
    (λ (x : (j ≢ id) × (get_elem? s.views j ≡ some u)). x.0 (k.apart j id u v x.1 at cu cv (sym same)))
    (at_set s.views id j (keeper_of v) u e))

-- one caller more
pub deals : (key id : ℕ) (v : View) → v.keeps ≡ true → Splits (IsKept key) id v (dealt_on v) (next_caller v)
unfolding kept_set
deals key id v on s k at =
    let me : IsKeeper k.seat k.log k.dealt id v = (k.each id v at).0 on in
    let more : Beside k.seat k.log (suc k.dealt) id s.views = record {
      each = λ i u ne e. (
        (λ (is : u.keeps ≡ true). absurd (ne (((k.each i u e).0 is).here ∙ sym me.here))),
        (λ (is : u.calls ≡ true). let f = (k.each i u e).1 is in let n = f.known in record {
          seen = f.seen;
          mine =
              f.mine;
          known = omega (arith, n);
        }),
      );
      apart = λ i j a b _ _ ea eb ca cb same. k.apart i j a b ea eb ca cb same;
      others = λ by le. k.others by (omega arith);
    } in
    let half : Kept (set s.views id (dealt_on v)) = kept_set k.seat k.log (suc k.dealt) id s.views (dealt_on v) more
    ((λ _. record { here = me.here; all = me.all; callers = ap suc me.callers }), (λ is. absurd (off is)))
    (λ j u _ _ is _ _. off is) in
    kept_push (set s.views id (dealt_on v)) half (next_caller v) refl
    (λ _. let n = me.callers in record {
      seen = (k.log, refl);
      mine = k.others v.dealt (omega (arith, n));
      known =
          omega (arith, n);
    })
    (λ j u e _ cu same. ⊎_elim
    (λ (x : (j ≡ id) × (dealt_on v ≡ u)). off (ap (λ (z : View). z.calls) x.1 ∙ cu))
    (λ (x : (j ≢ id) × (get_elem? s.views j ≡ some u)). let n = ((k.each j u x.1).1 cu).known in let m = me.callers
    in omega (arith, n, m, same))
    (at_set s.views id j (dealt_on v) u e))

-- what one view knows, by the view in place of the log
caller_at : (log : List Entry) (dealt : ℕ) (v : View) → v.log ≡ log → v.dealt ≡ dealt → IsCaller log dealt v
    → IsCaller v.log v.dealt v
caller_at log dealt v a b c = subst (λ (y : List Entry × ℕ). IsCaller y.0 y.1 v) (λ i. (sym a i, sym b i)) c

-- an entry of the caller that is there
pub appends : (key slots id : ℕ) (me : Me ℕ View) (e : Entry) → me.0.keeps ≡ true → me.0.calls ≡ true → e.by ≡ me.0.by
    → Allows (IsKept key) slots id me 0 (λ n. n) (Appended e (step slots 0 0 0 none) me)
appends key slots id me e on is by s k _ at _ =
    let v : View = me.0 in
    let keeps_it : IsKeeper k.seat k.log k.dealt id v = (k.each id v at).0 on in
    let calls : IsCaller k.log k.dealt v = (k.each id v at).1 is in
    let log : List Entry = k.log ++ e ∷ [] in
    let same : v.log ++ e ∷ [] ≡ log = ap (λ (w : List Entry). w ++ e ∷ []) keeps_it.all in
    let kept : Kept (set s.views id (with_entry e v)) = kept_set k.seat log k.dealt id s.views (with_entry e v)
    (record {
      each = λ j u ne eu. (
        (λ (c : u.keeps ≡ true). absurd (ne (((k.each j u eu).0 c).here ∙ sym keeps_it.here))),
        (λ (c : u.calls ≡ true). let g = (k.each j u eu).1 c in record {
          seen = prefix-longer u.seen k.log (e ∷ []) g.seen;
          mine = calls-other u.by k.log e (λ q. ne (k.apart j id u v eu at c is (sym q ∙ by))) ∙ g.mine;
          known = g.known;
        }),
      );
      apart = λ i j a b _ _ ea eb ca cb q. k.apart i j a b ea eb ca cb q;
      others = λ n le. let m = calls.known in calls-other n k.log e (λ q. omega (arith, m, q, by, le)) ∙ k.others n le;
    }) (
      (λ _. record { here = keeps_it.here; all = same; callers = keeps_it.callers }),
      (λ _. record {
        seen = ([], append-nothing (v.log ++ e ∷ []) ∙ same);
        mine = calls-own v.by k.log e by ∙ ap (λ (w : List Entry). w ++ e ∷ []) calls.mine;
        known = calls.known;
      }),
    )
    (λ j u ne eu _ cu q. ne (k.apart j id u v eu at cu is (sym q))) in (
      with_entry e v,
      keeps,
      tt,
      kept,
      (
        refl,
        caller_at k.log k.dealt v keeps_it.all keeps_it.callers calls,
      ),
    )

pub only : (v w : View) → v ∷ [] ≡ w ∷ [] → v ≡ w
only v w e = cc e

-- the keeper looks
pub looks : (key slots id : ℕ) (me : Me ℕ View) → me.0.keeps ≡ true
    → Allows (IsKept key) slots id me 0 (λ n. n) (Looked (step slots 0 0 0 none) me)
looks key slots id me on s k _ at _ =
    let v : View = me.0 in
    let keeps_it : IsKeeper k.seat k.log k.dealt id v = (k.each id v at).0 on in (
      v,
      keeps,
      tt,
      subst Kept (sym (set_again s.views id v at)) k,
      (
        refl,
        (λ is. caller_at k.log k.dealt v keeps_it.all keeps_it.callers ((k.each id v at).1 is)),
        (λ by le. ap (calls_by by) keeps_it.all ∙ k.others by (subst (λ (n : ℕ). n ≤ by) keeps_it.callers le)),
      ),
    )
