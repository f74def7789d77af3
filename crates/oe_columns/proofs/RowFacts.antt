-- A column of a number or an amount is read by that of its field.
use Rattle.std.proofs.Common.{◌≡◌, ℕ, zero, suc, ◌<◌, List, [], ◌∷◌, ◌++◌, length, get_or, Option, Some, None, sym, ap}
use Rattle.std.proofs.Common.{◌∙◌, refl, arith}
use Rattle.std.specs.Prelude.{slice_get}
use Rattle.oe_columns.specs.Ahead.{AreFirst}
use Rattle.std.specs.Prelude.{ℤ, pos, ◌≤◌, ◌^◌, Ok}
use Rattle.std.specs.Option.{option_map}
use Rattle.oe_fields.specs.Spelling.{◌>>=◌, number_in, amount_in}
use Rattle.oe_fields.proofs.AmountFacts.{number_quantity}
use Rattle.oe_columns.specs.declared.columns.Kind.TheVariants as kind
use Rattle.oe_columns.specs.Values.{Money, Quantity, Placed, value_of, found_at, field_at, column, number_found}

by_field : (low high k : ℕ) (f : Option (List ℕ))
    → found_at k (f >>= value_of (kind.Number low high)) ≡ number_found low high k (number_in f)
unfolding value_of
by_field low high k None = refl
by_field low high k (Some s) = refl

pub number_column : (low high k : ℕ) (r : Placed) (n : Option ℕ) → n ≡ number_in (field_at r k)
    → number_found low high k n ≡ column (kind.Number low high) k r
unfolding column
number_column low high k r n e = ap (number_found low high k) e ∙ sym (by_field low high k (field_at r k))

by_amount : (k : ℕ) (f : Option (List ℕ))
    → found_at k (f >>= value_of kind.Amount) ≡ found_at k (option_map (λ z. Money z) (amount_in f))
unfolding value_of
by_amount k None = refl
by_amount k (Some s) = refl

pub amount_column : (k : ℕ) (r : Placed) (z : Option ℤ) → z ≡ amount_in (field_at r k)
    → found_at k (option_map (λ z. Money z) z) ≡ column kind.Amount k r
unfolding column
amount_column k r z e = ap (λ z. found_at k (option_map (λ z. Money z) z)) e ∙ sym (by_amount k (field_at r k))

-- ---- numbers that are read with a row

pub first_more : (fields : List (List ℕ)) (places ns : List ℕ) (n d : ℕ) → AreFirst fields places ns
    → length ns < length places → Some n ≡ number_in (slice_get fields (get_or places (length ns) d))
    → AreFirst fields places (ns ++ n ∷ [])
first_more fields [] ns n d first h e = absurd (omega (arith, h))
first_more fields (p ∷ places) [] n d first h e = (e, tt)
first_more fields (p ∷ places) (m ∷ ns) n d first h e =
    (first.0, first_more fields places ns n d first.1 (omega (arith, h)) e)

pub first_at : (fields : List (List ℕ)) (places ns : List ℕ) (k n d : ℕ) → AreFirst fields places ns → k < length ns
    → n ≡ get_or ns k d → Some n ≡ number_in (field_at (record { places = places; fields = fields }) k)
unfolding field_at
first_at fields places [] k n d first h e = absurd (omega (arith, h))
first_at fields [] (m ∷ ns) k n d first h e = absurd first
first_at fields (p ∷ places) (m ∷ ns) zero n d first h e = ap Some e ∙ first.0
first_at fields (p ∷ places) (m ∷ ns) (suc k) n d first h e =
    first_at fields places ns k n d first.1 (omega (arith, h)) e

by_quantity : (k n : ℕ) (f : Option (List ℕ)) → Some n ≡ number_in f → n ≤ 10 ^ 15
    → Ok (Quantity (pos n)) ≡ found_at k (f >>= value_of kind.Quantity)
unfolding value_of
by_quantity k n None e small = absurd (cc)
by_quantity k n (Some s) e small = rw (number_quantity s n (sym e) small) refl

pub quantity_column : (k n : ℕ) (r : Placed) → Some n ≡ number_in (field_at r k) → n ≤ 10 ^ 15
    → Ok (Quantity (pos n)) ≡ column kind.Quantity k r
unfolding column
quantity_column k n r e small = by_quantity k n (field_at r k) e small

pub amount_some : (k : ℕ) (r : Placed) (z : ℤ) → Some z ≡ amount_in (field_at r k)
    → Ok (Money z) ≡ column kind.Amount k r
amount_some k r z e = amount_column k r (Some z) e
