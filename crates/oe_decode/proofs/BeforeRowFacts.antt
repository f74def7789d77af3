-- The columns that an update changed are read exactly.
use Rattle.std.proofs.Common.{◌≡◌, ℕ, ◌+◌, ◌*◌, ◌≤◌, Bool, false, List, [], ◌∷◌, ◌++◌, length, get_or, Option, Some}
use Rattle.std.proofs.Common.{None, refl, sym, ap, subst, ◌∙◌, arith, append_assoc}
use Rattle.std.specs.Prelude.{IfSome}
use Rattle.std.specs.List.{All}
use Rattle.oe_values.specs.Number.{IsWithin}
use Rattle.oe_values.specs.Text.{IsText}
use Rattle.oe_rows.specs.declared.before.AddressBefore.{AddressBefore}
use Rattle.oe_rows.specs.declared.before.CustomerNameBefore.{CustomerNameBefore}
use Rattle.oe_rows.specs.declared.before.AccountBefore.{AccountBefore}
use Rattle.oe_image.specs.Before.{mask, address_columns, name_columns, account_columns, ten_columns, warehouse_bits}
use Rattle.oe_image.specs.Before.{warehouse_columns, warehouse_before, district_bits, district_columns, district_before}
use Rattle.oe_image.specs.Before.{customer_bits, customer_columns, customer_before, order_bits, order_columns}
use Rattle.oe_image.specs.Before.{order_before, order_line_bits, order_line_columns, order_line_before, stock_bits}
use Rattle.oe_image.specs.Before.{stock_columns, stock_before}
use Rattle.oe_decode.specs.Fronts.{◌>>=◌}
use Rattle.oe_decode.specs.BeforeFronts.{mask_at, bit, address_columns_at, name_columns_at, account_columns_at}
use Rattle.oe_decode.specs.BeforeFronts.{ten_columns_at, warehouse_columns_at, district_columns_at, customer_columns_at}
use Rattle.oe_decode.specs.BeforeFronts.{order_columns_at, order_line_columns_at, stock_columns_at, warehouse_before_at}
use Rattle.oe_decode.specs.BeforeFronts.{district_before_at, customer_before_at, order_before_at, order_line_before_at}
use Rattle.oe_decode.specs.BeforeFronts.{stock_before_at}
use Rattle.oe_decode.specs.BeforeRanges.{IsWarehouseBefore, IsDistrictBefore, IsCustomerBefore, IsOrderBefore}
use Rattle.oe_decode.specs.BeforeRanges.{IsOrderLineBefore, IsStockBefore}
use Rattle.oe_decode.specs.Codec.{Takes, IsCodec}
use Rattle.oe_decode.specs.FrontFacts.{Takes-then, bind_some, ranged_law, seen_law, record_law}
use Rattle.oe_decode.specs.FrontFacts.{pair_law}
use Rattle.oe_decode.specs.ColumnFacts.{upto_law, stamp_law, balance_law, text_law, optional_law, flag_law, credit_law}
use Rattle.oe_decode.specs.ColumnFacts.{cells, cells-all, all_ten}
use Rattle.oe_decode.proofs.BeforeFacts.{IsKept, kept_column, mask_law}

-- ---- a mask, and columns by it

pub masked_law : {X : Type 0} (width count : ℕ) (Fits : X → Type 0) (bits : X → List Bool) (columns : X → List ℕ)
    (at : List Bool → List ℕ → Option (X × List ℕ)) → count ≤ 8 * width → width ≤ 3
    → ((x : X) → length (bits x) ≡ count)
    → ((bs : List Bool) → length bs ≡ count → IsCodec (λ x. Fits x × (bits x ≡ bs)) columns (at bs))
    → IsCodec Fits (λ x. mask width (bits x) ++ columns x) (λ bytes. mask_at width count bytes >>= λ m. at m.0 m.1)
masked_law {X = X} width count Fits bits columns at few short long law = record {
  takes = λ bytes x fits e.
      let m = bind_some (mask_at width count bytes) (λ m. at m.0 m.1) x e in
      let first = (mask_law width count few short).takes bytes m.0 fits m.1 in
      let second = (law m.0.0 first.0).takes m.0.1 x first.1.rest_fits m.2 in (
        second.0.0,
        subst (λ (b : List Bool). Takes bytes (mask width b ++ columns x.0) x.1) (sym second.0.1)
            (Takes-then bytes (mask width m.0.0) m.0.1 (columns x.0) x.1 first.1 second.1),
      );
  again = λ v rest fits.
      let a = (mask_law width count few short).again (bits v) (columns v ++ rest) (long v) in
      let b = (law (bits v) (long v)).again v rest (fits, refl) in
      ap (λ (l : List ℕ). mask_at width count l >>= λ m. at m.0 m.1)
      (append_assoc (mask width (bits v)) (columns v) rest)
      ∙ (ap (λ (r : Option (List Bool × List ℕ)). r >>= λ m. at m.0 m.1) a ∙ b);
}

-- ---- groups of columns

anything : {X : Type 0} (o : Option X) → IfSome o (λ x. Unit {0})
anything None = tt
anything (Some x) = tt

abbrev KeptAddress : List Bool → ℕ → AddressBefore → Type 0
KeptAddress bits i a =
    IsKept (IsText 0 20) (bit bits i) a.street_1
    × (IsKept (IsText 0 20) (bit bits (i + 1)) a.street_2
    × (IsKept (IsText 0 20) (bit bits (i + 2)) a.city
    × (IsKept (IsText 2 2) (bit bits (i + 3)) a.state
    × (IsKept (IsText 9 9) (bit bits (i + 4)) a.zip))))

pub address_columns_law : (bits : List Bool) (i : ℕ) → IsCodec (KeptAddress bits i) address_columns
    (address_columns_at bits i)
unfolding address_columns address_columns_at
address_columns_law bits i =
    record_law _ (λ v. (v.street_1, (v.street_2, (v.city, (v.state, v.zip))))) (KeptAddress bits i)
    (λ _. refl) (λ _. refl) (λ y h. h) (λ x h. h)
    (pair_law (kept_column (bit bits i) (text_law 0 20 (omega arith)))
    (pair_law (kept_column (bit bits (i + 1)) (text_law 0 20 (omega arith)))
    (pair_law (kept_column (bit bits (i + 2)) (text_law 0 20 (omega arith)))
    (pair_law (kept_column (bit bits (i + 3)) (text_law 2 2 (omega arith)))
    (kept_column (bit bits (i + 4)) (text_law 9 9 (omega arith)))))))

abbrev KeptName : List Bool → ℕ → CustomerNameBefore → Type 0
KeptName bits i n =
    IsKept (IsText 0 16) (bit bits i) n.first
    × (IsKept (IsText 2 2) (bit bits (i + 1)) n.middle
    × (IsKept (IsText 0 16) (bit bits (i + 2)) n.last))

pub name_columns_law : (bits : List Bool) (i : ℕ) → IsCodec (KeptName bits i) name_columns (name_columns_at bits i)
unfolding name_columns name_columns_at
name_columns_law bits i =
    record_law _ (λ v. (v.first, (v.middle, v.last))) (KeptName bits i) (λ _. refl) (λ _. refl) (λ y h. h) (λ x h. h)
    (pair_law (kept_column (bit bits i) (text_law 0 16 (omega arith)))
    (pair_law (kept_column (bit bits (i + 1)) (text_law 2 2 (omega arith)))
    (kept_column (bit bits (i + 2)) (text_law 0 16 (omega arith)))))

abbrev KeptAccount : List Bool → ℕ → AccountBefore → Type 0
KeptAccount bits i a =
    IsKept (λ n. n ≤ 999_999_999_999) (bit bits i) a.credit_limit
    × (IsKept (λ n. n ≤ 9_999) (bit bits (i + 1)) a.discount
    × (IsKept (IsWithin 999_999_999_999) (bit bits (i + 2)) a.balance
    × (IsKept (λ n. n ≤ 999_999_999_999) (bit bits (i + 3)) a.ytd_payment
    × (IsKept (λ n. n ≤ 9_999) (bit bits (i + 4)) a.payment_count
    × (IsKept (λ n. n ≤ 9_999) (bit bits (i + 5)) a.delivery_count)))))

pub account_columns_law : (bits : List Bool) (i : ℕ) → IsCodec (KeptAccount bits i) account_columns
    (account_columns_at bits i)
unfolding account_columns account_columns_at
account_columns_law bits i =
    record_law _
    (λ v. (v.credit_limit, (v.discount, (v.balance, (v.ytd_payment, (v.payment_count, v.delivery_count))))))
    (KeptAccount bits i) (λ _. refl) (λ _. refl) (λ y h. h) (λ x h. h)
    (pair_law (kept_column (bit bits i) (upto_law 8 999_999_999_999 (omega arith)))
    (pair_law (kept_column (bit bits (i + 1)) (upto_law 2 9_999 (omega arith)))
    (pair_law (kept_column (bit bits (i + 2)) (balance_law))
    (pair_law (kept_column (bit bits (i + 3)) (upto_law 8 999_999_999_999 (omega arith)))
    (pair_law (kept_column (bit bits (i + 4)) (upto_law 2 9_999 (omega arith)))
    (kept_column (bit bits (i + 5)) (upto_law 2 9_999 (omega arith))))))))

abbrev KeptTen : List Bool → ℕ → List (Option (List ℕ)) → Type 0
KeptTen bits i ds =
    IsKept (IsText 24 24) (bit bits i) (get_or ds 0 None)
    × (IsKept (IsText 24 24) (bit bits (i + 1)) (get_or ds 1 None)
    × (IsKept (IsText 24 24) (bit bits (i + 2)) (get_or ds 2 None)
    × (IsKept (IsText 24 24) (bit bits (i + 3)) (get_or ds 3 None)
    × (IsKept (IsText 24 24) (bit bits (i + 4)) (get_or ds 4 None)
    × (IsKept (IsText 24 24) (bit bits (i + 5)) (get_or ds 5 None)
    × (IsKept (IsText 24 24) (bit bits (i + 6)) (get_or ds 6 None)
    × (IsKept (IsText 24 24) (bit bits (i + 7)) (get_or ds 7 None)
    × (IsKept (IsText 24 24) (bit bits (i + 8)) (get_or ds 8 None)
    × (IsKept (IsText 24 24) (bit bits (i + 9)) (get_or ds 9 None))))))))))

pub ten_columns_law : (bits : List Bool) (i : ℕ)
    → IsCodec (λ ds. (length ds ≡ 10) × KeptTen bits i ds) ten_columns (ten_columns_at bits i)
unfolding ten_columns ten_columns_at cells
ten_columns_law bits i =
    seen_law (λ p. p.0 ∷ p.1.0 ∷ p.1.1.0 ∷ p.1.1.1.0 ∷ p.1.1.1.1.0 ∷ p.1.1.1.1.1.0 ∷ p.1.1.1.1.1.1.0
    ∷ p.1.1.1.1.1.1.1.0 ∷ p.1.1.1.1.1.1.1.1.0 ∷ p.1.1.1.1.1.1.1.1.1 ∷ [])
    (λ ds. (
      get_or ds 0 None,
      (
        get_or ds 1 None,
        (
          get_or ds 2 None,
          (
            get_or ds 3 None,
            (
              get_or ds 4 None,
              (
                get_or ds 5 None,
                (get_or ds 6 None, (get_or ds 7 None, (get_or ds 8 None, get_or ds 9 None))),
              ),
            ),
          ),
        ),
      ),
    ))
    (λ ds. (length ds ≡ 10) × KeptTen bits i ds) (λ ds h. (h.1, cells-all None 10 ds h.0)) (λ p h. ((refl, h), refl))
    (pair_law (kept_column (bit bits i) (text_law 24 24 (omega arith)))
    (pair_law (kept_column (bit bits (i + 1)) (text_law 24 24 (omega arith)))
    (pair_law (kept_column (bit bits (i + 2)) (text_law 24 24 (omega arith)))
    (pair_law (kept_column (bit bits (i + 3)) (text_law 24 24 (omega arith)))
    (pair_law (kept_column (bit bits (i + 4)) (text_law 24 24 (omega arith)))
    (pair_law (kept_column (bit bits (i + 5)) (text_law 24 24 (omega arith)))
    (pair_law (kept_column (bit bits (i + 6)) (text_law 24 24 (omega arith)))
    (pair_law (kept_column (bit bits (i + 7)) (text_law 24 24 (omega arith)))
    (pair_law (kept_column (bit bits (i + 8)) (text_law 24 24 (omega arith)))
    (kept_column (bit bits (i + 9)) (text_law 24 24 (omega arith))))))))))))

-- ---- rows

pub warehouse_columns_law : (bits : List Bool) → length bits ≡ 8
    → IsCodec (λ w. IsWarehouseBefore w × (warehouse_bits w ≡ bits)) warehouse_columns (warehouse_columns_at bits)
unfolding warehouse_columns warehouse_columns_at bit cells
warehouse_columns_law bits long =
    record_law _ (λ v. (v.name, (v.address, (v.tax, v.ytd)))) (λ v. IsWarehouseBefore v × (warehouse_bits v ≡ bits))
    (λ _. refl) (λ _. refl)
    (λ y h.
    let at : (k : ℕ) → get_or (warehouse_bits y) k false ≡ get_or bits k false = λ k. ap
    (λ (l : List Bool). get_or l k false) h.1 in (
      (at 0, h.0.name),
      (
        (
          (at 1, h.0.address.street_1),
          (
            (at 2, h.0.address.street_2),
            ((at 3, h.0.address.city), ((at 4, h.0.address.state), (at 5, h.0.address.zip))),
          ),
        ),
        ((at 6, h.0.tax), (at 7, h.0.ytd)),
      ),
    ))
    (λ x h. (
      record {
        name = h.0.1;
        address = record {
          street_1 = h.1.0.0.1;
          street_2 = h.1.0.1.0.1;
          city = h.1.0.1.1.0.1;
          state = h.1.0.1.1.1.0.1;
          zip = h.1.0.1.1.1.1.1;
        };
        tax = h.1.1.0.1;
        ytd = h.1.1.1.1;
      },
      (λ z. h.0.0 z ∷ h.1.0.0.0 z ∷ h.1.0.1.0.0 z ∷ h.1.0.1.1.0.0 z ∷ h.1.0.1.1.1.0.0 z ∷ h.1.0.1.1.1.1.0 z
          ∷ h.1.1.0.0 z ∷ h.1.1.1.0 z ∷ []) ∙ cells-all false 8 bits long,
    ))
    (pair_law (kept_column (bit bits 0) (text_law 0 10 (omega arith)))
    (pair_law (address_columns_law bits 1) (pair_law (kept_column (bit bits 6) (upto_law 2 9_999 (omega arith)))
    (kept_column (bit bits 7) (upto_law 8 999_999_999_999 (omega arith))))))

pub district_columns_law : (bits : List Bool) → length bits ≡ 9
    → IsCodec (λ d. IsDistrictBefore d × (district_bits d ≡ bits)) district_columns (district_columns_at bits)
unfolding district_columns district_columns_at bit cells
district_columns_law bits long =
    record_law _ (λ v. (v.name, (v.address, (v.tax, (v.ytd, v.next_order)))))
    (λ v. IsDistrictBefore v × (district_bits v ≡ bits)) (λ _. refl) (λ _. refl)
    (λ y h.
    let at : (k : ℕ) → get_or (district_bits y) k false ≡ get_or bits k false = λ k. ap
    (λ (l : List Bool). get_or l k false) h.1 in (
      (at 0, h.0.name),
      (
        (
          (at 1, h.0.address.street_1),
          (
            (at 2, h.0.address.street_2),
            ((at 3, h.0.address.city), ((at 4, h.0.address.state), (at 5, h.0.address.zip))),
          ),
        ),
        ((at 6, h.0.tax), ((at 7, h.0.ytd), (at 8, h.0.next_order))),
      ),
    ))
    (λ x h. (
      record {
        name = h.0.1;
        address = record {
          street_1 = h.1.0.0.1;
          street_2 = h.1.0.1.0.1;
          city = h.1.0.1.1.0.1;
          state = h.1.0.1.1.1.0.1;
          zip = h.1.0.1.1.1.1.1;
        };
        tax = h.1.1.0.1;
        ytd = h.1.1.1.0.1;
        next_order = h.1.1.1.1.1;
      },
      (λ z. h.0.0 z ∷ h.1.0.0.0 z ∷ h.1.0.1.0.0 z ∷ h.1.0.1.1.0.0 z ∷ h.1.0.1.1.1.0.0 z ∷ h.1.0.1.1.1.1.0 z
          ∷ h.1.1.0.0 z ∷ h.1.1.1.0.0 z ∷ h.1.1.1.1.0 z ∷ []) ∙ cells-all false 9 bits long,
    ))
    (pair_law (kept_column (bit bits 0) (text_law 0 10 (omega arith)))
    (pair_law (address_columns_law bits 1) (pair_law (kept_column (bit bits 6) (upto_law 2 9_999 (omega arith)))
    (pair_law (kept_column (bit bits 7) (upto_law 8 999_999_999_999 (omega arith)))
    (kept_column (bit bits 8) (ranged_law 4 1 10_000_000 (omega arith)))))))

pub customer_columns_law : (bits : List Bool) → length bits ≡ 18
    → IsCodec (λ c. IsCustomerBefore c × (customer_bits c ≡ bits)) customer_columns (customer_columns_at bits)
unfolding customer_columns customer_columns_at bit cells
customer_columns_law bits long =
    record_law _ (λ v. (v.name, (v.address, (v.phone, (v.since, (v.credit, (v.account, v.data)))))))
    (λ v. IsCustomerBefore v × (customer_bits v ≡ bits)) (λ _. refl) (λ _. refl)
    (λ y h.
    let at : (k : ℕ) → get_or (customer_bits y) k false ≡ get_or bits k false = λ k. ap
    (λ (l : List Bool). get_or l k false) h.1 in (
      ((at 0, h.0.name.first), ((at 1, h.0.name.middle), (at 2, h.0.name.last))),
      (
        (
          (at 3, h.0.address.street_1),
          (
            (at 4, h.0.address.street_2),
            ((at 5, h.0.address.city), ((at 6, h.0.address.state), (at 7, h.0.address.zip))),
          ),
        ),
        (
          (at 8, h.0.phone),
          (
            (at 9, h.0.since),
            (
              (at 10, anything y.credit),
              (
                (
                  (at 11, h.0.account.credit_limit),
                  (
                    (at 12, h.0.account.discount),
                    (
                      (at 13, h.0.account.balance),
                      (
                        (at 14, h.0.account.ytd_payment),
                        ((at 15, h.0.account.payment_count), (at 16, h.0.account.delivery_count)),
                      ),
                    ),
                  ),
                ),
                (at 17, h.0.text),
              ),
            ),
          ),
        ),
      ),
    ))
    (λ x h. (
      record {
        name = record { first = h.0.0.1; middle = h.0.1.0.1; last = h.0.1.1.1 };
        address = record {
          street_1 = h.1.0.0.1;
          street_2 = h.1.0.1.0.1;
          city = h.1.0.1.1.0.1;
          state = h.1.0.1.1.1.0.1;
          zip = h.1.0.1.1.1.1.1;
        };
        phone = h.1.1.0.1;
        since = h.1.1.1.0.1;
        account = record {
          credit_limit = h.1.1.1.1.1.0.0.1;
          discount = h.1.1.1.1.1.0.1.0.1;
          balance = h.1.1.1.1.1.0.1.1.0.1;
          ytd_payment = h.1.1.1.1.1.0.1.1.1.0.1;
          payment_count = h.1.1.1.1.1.0.1.1.1.1.0.1;
          delivery_count = h.1.1.1.1.1.0.1.1.1.1.1.1;
        };
        text = h.1.1.1.1.1.1.1;
      },
      (λ z. h.0.0.0 z ∷ h.0.1.0.0 z ∷ h.0.1.1.0 z ∷ h.1.0.0.0 z ∷ h.1.0.1.0.0 z ∷ h.1.0.1.1.0.0 z
          ∷ h.1.0.1.1.1.0.0 z ∷ h.1.0.1.1.1.1.0 z ∷ h.1.1.0.0 z ∷ h.1.1.1.0.0 z ∷ h.1.1.1.1.0.0 z ∷ h.1.1.1.1.1.0.0.0 z
          ∷ h.1.1.1.1.1.0.1.0.0 z ∷ h.1.1.1.1.1.0.1.1.0.0 z ∷ h.1.1.1.1.1.0.1.1.1.0.0 z ∷ h.1.1.1.1.1.0.1.1.1.1.0.0 z
          ∷ h.1.1.1.1.1.0.1.1.1.1.1.0 z ∷ h.1.1.1.1.1.1.0 z ∷ []) ∙ cells-all false 18 bits long,
    ))
    (pair_law (name_columns_law bits 0) (pair_law (address_columns_law bits 3)
    (pair_law (kept_column (bit bits 8) (text_law 16 16 (omega arith)))
    (pair_law (kept_column (bit bits 9) (stamp_law)) (pair_law (kept_column (bit bits 10) (credit_law))
    (pair_law (account_columns_law bits 11) (kept_column (bit bits 17) (text_law 0 500 (omega arith)))))))))

pub order_columns_law : (bits : List Bool) → length bits ≡ 5
    → IsCodec (λ o. IsOrderBefore o × (order_bits o ≡ bits)) order_columns (order_columns_at bits)
unfolding order_columns order_columns_at bit cells
order_columns_law bits long =
    record_law _ (λ v. (v.customer, (v.entry, (v.carrier, (v.line_count, v.all_local)))))
    (λ v. IsOrderBefore v × (order_bits v ≡ bits)) (λ _. refl) (λ _. refl)
    (λ y h.
    let at : (k : ℕ) → get_or (order_bits y) k false ≡ get_or bits k false = λ k. ap
    (λ (l : List Bool). get_or l k false) h.1 in (
      (at 0, h.0.customer),
      (
        (at 1, h.0.entry),
        (
          (at 2, h.0.carrier),
          ((at 3, h.0.line_count), (at 4, anything y.all_local)),
        ),
      ),
    ))
    (λ x h. (
      record { customer = h.0.1; entry = h.1.0.1; carrier = h.1.1.0.1; line_count = h.1.1.1.0.1 },
      (λ z. h.0.0 z ∷ h.1.0.0 z ∷ h.1.1.0.0 z ∷ h.1.1.1.0.0 z ∷ h.1.1.1.1.0 z ∷ []) ∙ cells-all false 5 bits long,
    ))
    (pair_law (kept_column (bit bits 0) (ranged_law 2 1 3_000 (omega arith)))
    (pair_law (kept_column (bit bits 1) (stamp_law)) (pair_law
    (kept_column (bit bits 2) (optional_law (ranged_law 1 1 10 (omega arith))))
    (pair_law (kept_column (bit bits 3) (ranged_law 1 5 15 (omega arith))) (kept_column (bit bits 4) (flag_law))))))

pub order_line_columns_law : (bits : List Bool) → length bits ≡ 6
    → IsCodec (λ l. IsOrderLineBefore l × (order_line_bits l ≡ bits)) order_line_columns (order_line_columns_at bits)
unfolding order_line_columns order_line_columns_at bit cells
order_line_columns_law bits long =
    record_law _ (λ v. (v.item, (v.supply, (v.delivery, (v.quantity, (v.amount, v.dist_info))))))
    (λ v. IsOrderLineBefore v × (order_line_bits v ≡ bits)) (λ _. refl) (λ _. refl)
    (λ y h.
    let at : (k : ℕ) → get_or (order_line_bits y) k false ≡ get_or bits k false = λ k. ap
    (λ (l : List Bool). get_or l k false) h.1 in (
      (at 0, h.0.item),
      (
        (at 1, h.0.supply),
        (
          (at 2, h.0.delivery),
          ((at 3, h.0.quantity), ((at 4, h.0.amount), (at 5, h.0.dist_info))),
        ),
      ),
    ))
    (λ x h. (
      record {
        item = h.0.1;
        supply = h.1.0.1;
        delivery = h.1.1.0.1;
        quantity = h.1.1.1.0.1;
        amount = h.1.1.1.1.0.1;
        dist_info = h.1.1.1.1.1.1;
      },
      (λ z. h.0.0 z ∷ h.1.0.0 z ∷ h.1.1.0.0 z ∷ h.1.1.1.0.0 z ∷ h.1.1.1.1.0.0 z ∷ h.1.1.1.1.1.0 z ∷ [])
          ∙ cells-all false 6 bits long,
    ))
    (pair_law (kept_column (bit bits 0) (ranged_law 4 1 100_000 (omega arith)))
    (pair_law (kept_column (bit bits 1) (ranged_law 2 1 16 (omega arith)))
    (pair_law (kept_column (bit bits 2) (optional_law stamp_law))
    (pair_law (kept_column (bit bits 3) (upto_law 1 99 (omega arith)))
    (pair_law (kept_column (bit bits 4) (upto_law 8 999_999 (omega arith)))
    (kept_column (bit bits 5) (text_law 24 24 (omega arith))))))))

pub stock_columns_law : (bits : List Bool) → length bits ≡ 15
    → IsCodec (λ s. IsStockBefore s × (stock_bits s ≡ bits)) stock_columns (stock_columns_at bits)
unfolding stock_columns stock_columns_at bit cells
stock_columns_law bits long =
    record_law _ (λ v. (v.quantity, (v.dist_info, (v.ytd, (v.order_count, (v.remote_count, v.data))))))
    (λ v. IsStockBefore v × (stock_bits v ≡ bits)) (λ _. refl) (λ _. refl)
    (λ y h.
    let at : (k : ℕ) → get_or (stock_bits y) k false ≡ get_or bits k false = λ k. ap
    (λ (l : List Bool). get_or l k false) h.1 in (
      (at 0, h.0.quantity),
      (
        (
          h.0.ten_infos,
          (
            (at 1, h.0.dist_info 0 None (omega (arith, h.0.ten_infos))),
            (
              (at 2, h.0.dist_info 1 None (omega (arith, h.0.ten_infos))),
              (
                (at 3, h.0.dist_info 2 None (omega (arith, h.0.ten_infos))),
                (
                  (at 4, h.0.dist_info 3 None (omega (arith, h.0.ten_infos))),
                  (
                    (at 5, h.0.dist_info 4 None (omega (arith, h.0.ten_infos))),
                    (
                      (at 6, h.0.dist_info 5 None (omega (arith, h.0.ten_infos))),
                      (
                        (at 7, h.0.dist_info 6 None (omega (arith, h.0.ten_infos))),
                        (
                          (at 8, h.0.dist_info 7 None (omega (arith, h.0.ten_infos))),
                          (
                            (at 9, h.0.dist_info 8 None (omega (arith, h.0.ten_infos))),
                            (at 10, h.0.dist_info 9 None (omega (arith, h.0.ten_infos))),
                          ),
                        ),
                      ),
                    ),
                  ),
                ),
              ),
            ),
          ),
        ),
        ((at 11, h.0.ytd), ((at 12, h.0.order_count), ((at 13, h.0.remote_count), (at 14, h.0.text)))),
      ),
    ))
    (λ x h. (
      record {
        quantity = h.0.1;
        ten_infos = h.1.0.0;
        dist_info = subst (All (λ d. IfSome d (IsText 24 24)))
            (cells-all None 10 x.1.0 h.1.0.0) (all_ten (λ d. IfSome d (IsText 24 24)) (get_or x.1.0 0 None)
            (get_or x.1.0 1 None) (get_or x.1.0 2 None) (get_or x.1.0 3 None) (get_or x.1.0 4 None)
            (get_or x.1.0 5 None) (get_or x.1.0 6 None) (get_or x.1.0 7 None) (get_or x.1.0 8 None)
            (get_or x.1.0 9 None) h.1.0.1.0.1 h.1.0.1.1.0.1 h.1.0.1.1.1.0.1 h.1.0.1.1.1.1.0.1 h.1.0.1.1.1.1.1.0.1
            h.1.0.1.1.1.1.1.1.0.1 h.1.0.1.1.1.1.1.1.1.0.1 h.1.0.1.1.1.1.1.1.1.1.0.1 h.1.0.1.1.1.1.1.1.1.1.1.0.1
            h.1.0.1.1.1.1.1.1.1.1.1.1.1);
        ytd = h.1.1.0.1;
        order_count = h.1.1.1.0.1;
        remote_count = h.1.1.1.1.0.1;
        text = h.1.1.1.1.1.1;
      },
      (λ z. h.0.0 z ∷ h.1.0.1.0.0 z ∷ h.1.0.1.1.0.0 z ∷ h.1.0.1.1.1.0.0 z ∷ h.1.0.1.1.1.1.0.0 z
          ∷ h.1.0.1.1.1.1.1.0.0 z ∷ h.1.0.1.1.1.1.1.1.0.0 z ∷ h.1.0.1.1.1.1.1.1.1.0.0 z ∷ h.1.0.1.1.1.1.1.1.1.1.0.0 z
          ∷ h.1.0.1.1.1.1.1.1.1.1.1.0.0 z ∷ h.1.0.1.1.1.1.1.1.1.1.1.1.0 z ∷ h.1.1.0.0 z ∷ h.1.1.1.0.0 z
          ∷ h.1.1.1.1.0.0 z ∷ h.1.1.1.1.1.0 z ∷ []) ∙ cells-all false 15 bits long,
    ))
    (pair_law (kept_column (bit bits 0) (upto_law 2 9_999 (omega arith)))
    (pair_law (ten_columns_law bits 1) (pair_law (kept_column (bit bits 11) (upto_law 4 99_999_999 (omega arith)))
    (pair_law (kept_column (bit bits 12) (upto_law 2 9_999 (omega arith)))
    (pair_law (kept_column (bit bits 13) (upto_law 2 9_999 (omega arith)))
    (kept_column (bit bits 14) (text_law 0 50 (omega arith))))))))

pub warehouse_before_law : IsCodec IsWarehouseBefore warehouse_before warehouse_before_at
warehouse_before_law =
    masked_law 1 8 IsWarehouseBefore warehouse_bits warehouse_columns warehouse_columns_at (omega arith)
    (omega arith) (λ x. refl)
    (λ bits long. warehouse_columns_law bits long)

pub district_before_law : IsCodec IsDistrictBefore district_before district_before_at
district_before_law =
    masked_law 2 9 IsDistrictBefore district_bits district_columns district_columns_at (omega arith) (omega arith)
    (λ x. refl)
    (λ bits long. district_columns_law bits long)

pub customer_before_law : IsCodec IsCustomerBefore customer_before customer_before_at
customer_before_law =
    masked_law 3 18 IsCustomerBefore customer_bits customer_columns customer_columns_at (omega arith) (omega arith)
    (λ x. refl)
    (λ bits long. customer_columns_law bits long)

pub order_before_law : IsCodec IsOrderBefore order_before order_before_at
order_before_law =
    masked_law 1 5 IsOrderBefore order_bits order_columns order_columns_at (omega arith) (omega arith) (λ x. refl)
    (λ bits long. order_columns_law bits long)

pub order_line_before_law : IsCodec IsOrderLineBefore order_line_before order_line_before_at
order_line_before_law =
    masked_law 1 6 IsOrderLineBefore order_line_bits order_line_columns order_line_columns_at (omega arith)
    (omega arith) (λ x. refl)
    (λ bits long. order_line_columns_law bits long)

pub stock_before_law : IsCodec IsStockBefore stock_before stock_before_at
stock_before_law =
    masked_law 2 15 IsStockBefore stock_bits stock_columns stock_columns_at (omega arith) (omega arith) (λ x. refl)
    (λ bits long. stock_columns_law bits long)
