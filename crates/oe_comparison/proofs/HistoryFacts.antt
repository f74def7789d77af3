-- HISTORY rows in the order of their columns.
use Rattle.std.proofs.Common.{◌≡◌, ◌-◌, List, Bor, ap, refl, ◌∙◌}
use Rattle.std.specs.Prelude.{cond}
use Rattle.std.specs.Cmp.{IsTotalOrder}
use Rattle.std.specs.Cmp.Lexicographic.{slice_cmp}
use Rattle.std.specs.FinMap.{IsAntisymmetric, nat_cmp-IsAntisymmetric, slice_cmp-IsAntisymmetric}
use Rattle.std.specs.List.{count_by}
use Rattle.std.specs.Fn.{Mut, Called}
use Rattle.std.specs.List.Sorted.{IsSortedByKey, IsSortedByClosure}
use Rattle.std.specs.Ordering.{nat_cmp, is_lt, eq_by_cmp, ordering_then}
use Rattle.std.specs.declared.cmp.Ordering.{Ordering}
use Rattle.std.specs.declared.cmp.Ordering.TheVariants.{Less, Equal, Greater}
use Rattle.std.proofs.lemmas.Cmp.{on_total, then_total, nat_cmp_total, nat_list_cmp_total}
use Rattle.std.proofs.lemmas.Fn.{always_returns_same}
use Rattle.std.proofs.lemmas.List.MinMax.{ranks_by}
use Rattle.std.proofs.lemmas.List.Sorted.{sum_by-IsPermutation}
use Rattle.oe_rows.specs.ExactKeys.{exact_customer, exact_district}
use Rattle.oe_rows.specs.Key.{customer_cmp, district_cmp}
use Rattle.oe_rows.specs.declared.histories.History.{History}
use Rattle.oe_comparison.specs.Differences.{differences, keyless}
use Rattle.oe_comparison.specs.Histories.{history_order, AreSorted}
use Rattle.oe_comparison.specs.Often.{times, is_extra, is_missing}
use Rattle.oe_comparison.proofs.OftenFacts.{all_told}

history_total : IsTotalOrder history_order
history_total =
    then_total
    (on_total (λ h. h.customer)
    (then_total (on_total (λ k. k.warehouse) nat_cmp_total)
    (then_total (on_total (λ k. k.district) nat_cmp_total) (on_total (λ k. k.customer) nat_cmp_total))))
    (then_total
    (on_total (λ h. h.district)
    (then_total (on_total (λ k. k.warehouse) nat_cmp_total) (on_total (λ k. k.district) nat_cmp_total)))
    (then_total (on_total (λ h. h.date) nat_cmp_total)
    (then_total (on_total (λ h. h.amount) nat_cmp_total) (on_total (λ h. h.data) nat_list_cmp_total))))

-- from what a sort by their columns ensures
pub now_sorted : {F : Type 0} {g : Mut F (Bor History × (Bor History × Unit {0})) Ordering} {f : F}
    (hs : List History) → IsSortedByClosure g f hs
    → ((a : Bor History × (Bor History × Unit {0})) (r : Ordering) (f' : F) → Called g f a r f'
    → (r ≡ history_order a.0.now a.1.0.now) × (f' ≡ f))
    → IsSortedByKey (λ h. h) history_order hs
now_sorted {g = g} {f = f} hs sorts calls =
    sorts (λ x y. is_lt (history_order x y)) (ranks_by history_total (λ h. h))
    (always_returns_same g (λ a r. is_lt r ≡ is_lt (history_order a.0.now a.1.0.now)) f
    (λ a r f' k. (ap is_lt (calls a r f' k).0, (calls a r f' k).1)))

-- the order tells any two rows apart
no_less : Less ≡ Equal → ⊥
no_less e = cc

no_greater : Greater ≡ Equal → ⊥
no_greater e = cc

first_tie : (a b : Ordering) → ordering_then a b ≡ Equal → (a ≡ Equal) × (b ≡ Equal)
first_tie Less b e = absurd (no_less e)
first_tie Equal b e = (refl, e)
first_tie Greater b e = absurd (no_greater e)

pub history_exact : IsAntisymmetric history_order
history_exact a b e =
    let amounts = ordering_then (nat_cmp a.amount b.amount) (slice_cmp nat_cmp a.data b.data) in
    let dates = ordering_then (nat_cmp a.date b.date) amounts in
    let districts = ordering_then (district_cmp a.district b.district) dates in
    let customer = first_tie (customer_cmp a.customer b.customer) districts e in
    let district = first_tie (district_cmp a.district b.district) dates customer.1 in
    let date = first_tie (nat_cmp a.date b.date) amounts district.1 in
    let amount = first_tie (nat_cmp a.amount b.amount) (slice_cmp nat_cmp a.data b.data) date.1 in
    let one = exact_customer a.customer b.customer customer.0 in
    let two = exact_district a.district b.district district.0 in
    let three = nat_cmp-IsAntisymmetric a.date b.date date.0 in
    let four = nat_cmp-IsAntisymmetric a.amount b.amount amount.0 in
    let five = slice_cmp-IsAntisymmetric nat_cmp-IsAntisymmetric a.data b.data amount.1 in
    λ i. record { date = three i; amount = four i; customer = one i; district = two i; «data» = five i }

-- how often a row is told, by the rows before they were sorted
pub told_often : (theirs ours file order : List History) (h : History) → AreSorted theirs file → AreSorted ours order
    → (count_by (is_extra history_order h) (differences history_order (keyless file) (keyless order))
    ≡ times history_order h theirs - times history_order h ours)
    × (count_by (is_missing history_order h) (differences history_order (keyless file) (keyless order))
    ≡ times history_order h ours - times history_order h theirs)
told_often theirs ours file order h p q =
    let told = all_told history_order history_total h file order p.ordered q.ordered in
    let one : times history_order h file ≡ times history_order h theirs =
    sum_by-IsPermutation (λ x. cond (eq_by_cmp history_order h x) 1 0) theirs file p.moved in
    let two : times history_order h order ≡ times history_order h ours =
    sum_by-IsPermutation (λ x. cond (eq_by_cmp history_order h x) 1 0) ours order q.moved in
    (told.0 ∙ (λ i. one i - two i), told.1 ∙ (λ i. two i - one i))
