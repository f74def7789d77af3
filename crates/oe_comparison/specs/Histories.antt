-- HISTORY rows, which have no key in the standard: in an order of their own columns.
use Rattle.std.specs.Prelude.{ℕ, List, ◌∷◌, [], ◌++◌, codes}
use Rattle.std.specs.List.Sorted.{IsPermutation, IsSortedByKey}
use Rattle.std.specs.Cmp.Lexicographic.{slice_cmp}
use Rattle.std.specs.Ordering.{nat_cmp, ordering_then}
use Rattle.std.specs.declared.cmp.Ordering.{Ordering}
use Rattle.oe_rows.specs.Key.{customer_cmp, district_cmp}
use Rattle.oe_rows.specs.Credit.{money_text}
use Rattle.oe_rows.specs.declared.histories.History.{History}
use Rattle.oe_texts.specs.Dump.{reference_columns}
use Rattle.oe_texts.specs.Stamp.{stamp_text}

-- by the customer, the district, H_DATE, H_AMOUNT and H_DATA
abbrev pub history_order : History → History → Ordering
history_order a b =
    ordering_then (customer_cmp a.customer b.customer)
    (ordering_then (district_cmp a.district b.district)
    (ordering_then (nat_cmp a.date b.date)
    (ordering_then (nat_cmp a.amount b.amount) (slice_cmp nat_cmp a.data b.data))))

-- these rows in that order, each as often as it stands there
pub record AreSorted (rows sorted : List History) : Type 0 where
  pub moved : IsPermutation rows sorted
  pub ordered : IsSortedByKey (λ h. h) history_order sorted

-- columns with a blank behind each
abbrev pub with_blanks : List (List ℕ) → List ℕ
with_blanks [] = []
with_blanks (c ∷ cs) = c ++ 32 ∷ with_blanks cs

-- history H_C_ID H_C_D_ID H_C_W_ID H_D_ID H_W_ID H_DATE H_AMOUNT H_DATA
abbrev pub history_text : History → List ℕ
history_text h =
    codes "history " ++ with_blanks (reference_columns h.customer h.district) ++ stamp_text h.date ++ codes " "
    ++ money_text h.amount ++ codes " " ++ h.data
