-- The sums of a district's customers, and how great they can be.
use Rattle.std.proofs.Common.{◌≡◌, ℕ, ◌+◌, ◌*◌, ◌-◌, ◌<◌, ◌≤◌, refl, sym, ◌∙◌, subst, Bool, true, false, cond}
use Rattle.std.proofs.Common.{List, [], ◌∷◌, arith}
use Rattle.std.specs.Prelude.{T, ◌≢◌, ◌&&◌, ◌==◌}
use Rattle.std.specs.declared.cmp.Ordering.{Ordering}
use Rattle.std.specs.declared.cmp.Ordering.TheVariants.{Less, Equal, Greater}
use Rattle.std.specs.Cmp.{ranked}
use Rattle.std.specs.Ordering.{is_lt, nat_cmp, ordering_then}
use Rattle.std.specs.FinMap.Entries.{is_sorted, below_all}
use Rattle.oe_rows.specs.Key.{history_cmp}
use Rattle.oe_rows.specs.declared.keys.HistoryKey.{HistoryKey}
use Rattle.oe_rows.specs.declared.histories.History.{History}
use Rattle.oe_model.proofs.EntryFacts.{EachOf}
use Rattle.oe_audit.specs.Ledgers.{sum_for, most, HaveGrown, IsPayment}

-- what counts or not is no more than what it is
pub no_more : (b : Bool) (n : ℕ) → cond b n 0 ≤ n
no_more true n = omega arith
no_more false n = omega arith

-- a C_ID
abbrev pub IsNumber : ℕ → Type 0
IsNumber c = (1 ≤ c) × (c ≤ 3_000)

-- the place of a HISTORY key among all keys that there can be
abbrev pub place_of : HistoryKey → ℕ
place_of k = (k.terminal * 4_294_967_296 + k.number) * 2 + k.ordinal

less_place : (a b : HistoryKey) → a.number ≤ 4_294_967_295 → a.ordinal ≤ 1 → T (is_lt (history_cmp a b))
    → place_of a + 1 ≤ place_of b
less_place a b n o l = by_terminal (nat_cmp a.terminal b.terminal) refl l
  where
    by_ordinal : (r : Ordering) → nat_cmp a.ordinal b.ordinal ≡ r → a.terminal ≡ b.terminal → a.number ≡ b.number
        → T (is_lt r) → place_of a + 1 ≤ place_of b
    by_ordinal Less e t m p = let s : a.ordinal < b.ordinal = ranked a.ordinal b.ordinal Less (sym e) in omega arith
    by_ordinal Equal e t m p = absurd p
    by_ordinal Greater e t m p = absurd p

    by_number : (r : Ordering) → nat_cmp a.number b.number ≡ r → a.terminal ≡ b.terminal
        → T (is_lt (ordering_then r (nat_cmp a.ordinal b.ordinal))) → place_of a + 1 ≤ place_of b
    by_number Less e t p = let s : a.number < b.number = ranked a.number b.number Less (sym e) in omega arith
    by_number Equal e t p = by_ordinal (nat_cmp a.ordinal b.ordinal) refl t (ranked a.number b.number Equal (sym e)) p
    by_number Greater e t p = absurd p

    by_terminal : (r : Ordering) → nat_cmp a.terminal b.terminal ≡ r
        → T (is_lt (ordering_then r (ordering_then (nat_cmp a.number b.number) (nat_cmp a.ordinal b.ordinal))))
        → place_of a + 1 ≤ place_of b
    by_terminal Less e p = let s : a.terminal < b.terminal = ranked a.terminal b.terminal Less (sym e) in omega arith
    by_terminal Equal e p = by_number (nat_cmp a.number b.number) refl (ranked a.terminal b.terminal Equal (sym e)) p
    by_terminal Greater e p = absurd p

left : (a b : Bool) → T (a && b) → T a
left true b p = tt
left false b p = p

right : (a b : Bool) → T (a && b) → T b
right true b p = p
right false b p = absurd p

-- payments of keys from a place on, and sums of no more than those before it can be
pub record AreFew (sums : List ℕ) (es : List (HistoryKey × History)) : Type 0 where
  pub from : ℕ
  pub below : from ≤ 600_000_000_000
  pub few : (c : ℕ) → 1 ≤ c → c ≤ 3_000 → sum_for sums c ≤ 999_999 * from
  pub later : EachOf (λ e. from ≤ place_of e.0) es
  pub sorted : T (is_sorted history_cmp es)

pub few_first : (sums : List ℕ) (es : List (HistoryKey × History)) → ((c : ℕ) → 1 ≤ c → c ≤ 3_000 → sum_for sums c ≡ 0)
    → T (is_sorted history_cmp es) → AreFew sums es
few_first sums es zero sorted = record {
  from = 0;
  below = omega arith;
  few = λ c low high. let z = zero c low high in omega arith;
  later = each es;
  sorted = sorted;
}
  where
    each : (ds : List (HistoryKey × History)) → EachOf (λ e. 0 ≤ place_of e.0) ds
    each [] = tt
    each (d ∷ ds) = ((let z : 0 ≤ place_of d.0 = omega arith in z), each ds)

pub few_on : (before after : List ℕ) (all es : List (HistoryKey × History)) (e : HistoryKey × History) (more : ℕ → ℕ)
    → all ≡ e ∷ es → AreFew before all → IsPayment e.0 e.1
    → ((c : ℕ) → more c ≤ e.1.amount) → ((c : ℕ) → 1 ≤ c → c ≤ 3_000 → sum_for before c ≤ most)
    → HaveGrown more before after → AreFew after es
few_on before after all es e more split f p small fits grown = go (subst (AreFew before) split f)
  where
    each_later : (ds : List (HistoryKey × History)) → T (below_all history_cmp e.0 ds)
        → EachOf (λ d. place_of e.0 + 1 ≤ place_of d.0) ds
    each_later [] b = tt
    each_later (d ∷ ds) b =
        (less_place e.0 d.0 p.number p.ordinal (left _ _ b), each_later ds (right (is_lt (history_cmp e.0 d.0)) _ b))

    go : AreFew before (e ∷ es) → AreFew after es
    go f = record {
      from = place_of e.0 + 1;
      below = (let t = p.terminal in let n = p.number in let o = p.ordinal in omega arith);
      few = λ c low high.
          let g = grown c low high (fits c low high) in
          let old = f.few c low high in
          let here : f.from ≤ place_of e.0 = f.later.0 in
          let one = small c in
          let amount = p.amount in
          omega arith;
      later = each_later es (left _ _ f.sorted);
      sorted = right (below_all history_cmp e.0 es) _ f.sorted;
    }
