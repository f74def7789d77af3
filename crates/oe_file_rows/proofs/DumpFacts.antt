-- A dumped row is spelled by its line.
use Rattle.std.proofs.Common.{◌≡◌, ℕ, suc, ◌+◌, ◌/◌, ◌%◌, ◌^◌, ◌<◌, ◌≤◌, inl, List, [], ◌∷◌, ◌++◌, Bool}
use Rattle.std.proofs.Common.{true, false}
use Rattle.std.proofs.Common.{Option, Some, None, eqb, map, decimal, sym, ap, subst, ◌∙◌, refl}
use Rattle.std.proofs.Common.{append_assoc, arith, length}
use Rattle.std.specs.Prelude.{ℤ, pos, negsuc}
use Rattle.std.specs.List.{All, list_all, join_with_byte}
use Rattle.std.proofs.lemmas.Bool.{ltb-true}
use Rattle.std.proofs.lemmas.Bool.Decides.{nat_tests}
use Rattle.std.proofs.lemmas.Int.{ints}
use Rattle.std.proofs.lemmas.Fmt.{decimal_by_steps}
use Rattle.std.proofs.lemmas.List.{append-nil, append_cancel_right}
use Rattle.std.proofs.lemmas.List.Elements.{All-head, All-tail}
use Rattle.oe_values.specs.Text.{IsPrintable}
use Rattle.oe_values.specs.Stamp.{two_digits, date_text, time_text}
use Rattle.oe_values.proofs.FrontFacts.{both}
use Rattle.oe_rows.specs.Credit.{money_text}
use Rattle.oe_rows.specs.declared.customers.Credit.{Credit}
use Rattle.oe_rows.specs.declared.customers.Credit.TheVariants.{Good, Bad}
use Rattle.oe_rows.specs.declared.histories.History.{History}
use Rattle.oe_rows.specs.declared.items.Stock.{Stock}
use Rattle.oe_rows.specs.declared.keys.HistoryKey.{HistoryKey}
use Rattle.oe_rows.specs.declared.keys.OrderKey.{OrderKey}
use Rattle.oe_rows.specs.declared.keys.OrderLineKey.{OrderLineKey}
use Rattle.oe_rows.specs.declared.keys.StockKey.{StockKey}
use Rattle.oe_rows.specs.declared.orders.Order.{Order}
use Rattle.oe_rows.specs.declared.orders.OrderLine.{OrderLine}
use Rattle.oe_texts.specs.Column.{balance_text, credit_text, flag_text, line_of}
use Rattle.oe_texts.specs.Dump.{order_columns, order_line_columns, stock_columns}
use Rattle.oe_texts.specs.Stamp.{stamp_text}
use Rattle.oe_texts.proofs.StampFacts.{stamp_text_says}
use Rattle.oe_file_rows.specs.declared.forms.Form.{Form}
use Rattle.oe_file_rows.specs.declared.forms.Form.TheVariants as form
use Rattle.oe_file_rows.specs.Value.{Value, Null, Number, Text, Money, Balance, Rate, Standing, Flag, Stamp, IsOf}
use Rattle.oe_file_rows.specs.Value.{Spells}
use Rattle.oe_file_rows.specs.Line.{Left, all_forms, fields_of, past, AreSpelled}
use Rattle.oe_file_rows.specs.Rows.{history_forms, history_values, history_row_forms, history_row_values, behind_key}
use Rattle.oe_file_rows.specs.Rows.{order_values, order_line_values, stock_values}
use Rattle.oe_file_rows.specs.Dumped.{text_of, AreOf, AreReadBack}
use Rattle.oe_file_rows.proofs.WordFacts.{is_small}

-- ---- no column has a tab

abbrev pub IsFree : List ℕ → Type 0
IsFree [] = Unit {0}
IsFree (b ∷ s) = (eqb b 9 ≡ false) × IsFree s

free_append : (s t : List ℕ) → IsFree s → IsFree t → IsFree (s ++ t)
free_append [] t h g = g
free_append (b ∷ s) t h g = (h.0, free_append s t h.1 g)

digit : (n : ℕ) → eqb (48 + n) 9 ≡ false
digit n = grind (arith, nat_tests)

other : (b : ℕ) → 10 ≤ b → eqb b 9 ≡ false
other b h = grind (arith, nat_tests)

two_free : (n : ℕ) → IsFree (two_digits n)
two_free n = (digit (n / 10), (digit (n % 10), tt))

pub decimal_free : (n : ℕ) → n < 2 ^ 64 → IsFree (decimal n)
decimal_free n h =
    decimal_by_steps (λ n ds. IsFree ds) (λ n l. (digit n, tt))
    (λ n ds l front. free_append ds ((48 + n % 10) ∷ []) front (digit (n % 10), tt)) n h

pub money_free : (n : ℕ) → n < 10 ^ 17 → IsFree (money_text n)
money_free n h = free_append (decimal (n / 100)) (46 ∷ two_digits (n % 100)) (decimal_free (n / 100) (omega arith))
    (refl, two_free (n % 100))

printable_free : (s : List ℕ) → All IsPrintable s → IsFree s
printable_free [] h = tt
printable_free (b ∷ s) h =
    let first = All-head IsPrintable b s h in
    (other b (omega (arith, first.0)), printable_free s (All-tail IsPrintable b s h))

balance_free : (z : ℤ) → IsOf form.Balance (Balance z) → IsFree (balance_text z)
balance_free (pos n) h = money_free n (omega (arith, ints))
balance_free (negsuc n) h = (refl, money_free (suc n) (omega (arith, ints)))

date_free : (y m d : ℕ) → IsFree (date_text y m d)
date_free y m d = (
  digit _,
  (digit _, (digit _, (digit _, (refl, (digit _, (digit _, (refl, (digit _, (digit _, tt))))))))),
)

time_free : (h m s : ℕ) → IsFree (time_text h m s)
time_free h m s = (digit _, (digit _, (refl, (digit _, (digit _, (refl, (digit _, (digit _, tt))))))))

stamp_free : (n : ℕ) → n < 6_342_969_600 → IsFree (stamp_text n)
stamp_free n h =
    let r = stamp_text_says n h in
    subst IsFree (sym r.spelled)
    (free_append (date_text r.year r.month r.day) (84 ∷ time_text r.hour r.minute r.second)
    (date_free r.year r.month r.day) (refl, time_free r.hour r.minute r.second))

credit_free : (c : Credit) → IsFree (credit_text c)
credit_free Good = (refl, (refl, tt))
credit_free Bad = (refl, (refl, tt))

flag_free : (b : Bool) → IsFree (flag_text b)
flag_free true = (refl, tt)
flag_free false = (refl, tt)

-- ---- each value is spelled by its text

shown : (f : Form) (v : Value) → is_small f ≡ true → IsOf f v → Spells v (text_of v) × IsFree (text_of v)
shown (form.Number low high) (Number n) small h =
    let most = ltb-true high 1_000_000_000_000_000 small in
    (refl, decimal_free n (omega (arith, h.1, most)))
shown (form.NullableNumber low high) (Number n) small h =
    let most = ltb-true high 1_000_000_000_000_000 small in
    (refl, decimal_free n (omega (arith, h.1, most)))
shown (form.NullableNumber low high) Null small h = (inl refl, (refl, tt))
shown (form.Text least most) (Text t) small h = (refl, printable_free t h.printable)
shown (form.Money most) (Money n) small h =
    let less = ltb-true most 100_000_000_000_000_000 small in
    (refl, money_free n (omega (arith, h, less)))
shown form.Balance (Balance z) small h = (refl, balance_free z h)
shown form.Rate (Rate n) small h = (
  refl,
  (
    refl,
    (
      refl,
      free_append (two_digits (n / 100)) (two_digits (n % 100)) (two_free (n / 100))
          (two_free (n % 100)),
    ),
  ),
)
shown form.Credit (Standing c) small h = (refl, credit_free c)
shown form.Flag (Flag b) small h = (refl, flag_free b)
shown form.Stamp (Stamp n) small h = (
  record {
    front = stamp_text n;
    fraction = [];
    whole = sym (append-nil (stamp_text n));
    parted = inl refl;
    zeros = tt;
  },
  stamp_free n h,
)
shown form.NullableStamp (Stamp n) small h = (
  record {
    front = stamp_text n;
    fraction = [];
    whole = sym (append-nil (stamp_text n));
    parted = inl refl;
    zeros = tt;
  },
  stamp_free n h,
)
shown form.NullableStamp Null small h = (inl refl, (refl, tt))
shown _ _ small h = absurd h

abbrev AreFree : List (List ℕ) → Type 0
AreFree [] = Unit {0}
AreFree (s ∷ ss) = IsFree s × AreFree ss

all_shown : (fs : List Form) (vs : List Value) → list_all is_small fs ≡ true → AreOf fs vs
    → AreSpelled fs vs (map text_of vs) × AreFree (map text_of vs)
all_shown [] [] small h = (tt, tt)
all_shown (f ∷ fs) (v ∷ vs) small h =
    let sizes : (is_small f ≡ true) × (list_all is_small fs ≡ true) = both (is_small f) (list_all is_small fs) small in
    let first = shown f v sizes.0 h.0 in
    let rest = all_shown fs vs sizes.1 h.1 in
    ((h.0, first.0, rest.0), (first.1, rest.1))
all_shown [] (v ∷ vs) small h = absurd h
all_shown (f ∷ fs) [] small h = absurd h

-- ---- the fields of a line of columns

pub alone : (s : List ℕ) → IsFree s → fields_of s ≡ s ∷ []
alone [] h = refl
alone (b ∷ s) h = rw (h.0, alone s h.1) refl

pub before_tab : (s t : List ℕ) → IsFree s → fields_of (s ++ 9 ∷ t) ≡ s ∷ fields_of t
before_tab [] t h = refl
before_tab (b ∷ s) t h = rw (h.0, before_tab s t h.1) refl

fields_join : (c : List ℕ) (cs : List (List ℕ)) → AreFree (c ∷ cs) → fields_of (join_with_byte 9 (c ∷ cs)) ≡ c ∷ cs
fields_join c [] h = alone c h.0
fields_join c (d ∷ cs) h =
    before_tab c (join_with_byte 9 (d ∷ cs)) h.0 ∙ ap (λ fs. c ∷ fs) (fields_join d cs h.1)

line_join : (cs : List (List ℕ)) → line_of cs ≡ join_with_byte 9 cs ++ 10 ∷ []
line_join [] = refl
line_join (c ∷ []) = refl
line_join (c ∷ d ∷ cs) =
    ap (λ z. c ++ 9 ∷ z) (line_join (d ∷ cs)) ∙ sym (append_assoc c (9 ∷ join_with_byte 9 (d ∷ cs)) (10 ∷ []))

pub read_back : {R : Type 0} (forms : List (List Form)) (values : R → List Value) (columns : R → List (List ℕ))
    → list_all is_small (all_forms forms) ≡ true → ((r : R) → map text_of (values r) ≡ columns r)
    → ((r : R) → (c : List ℕ) × (cs : List (List ℕ)) × (columns r ≡ c ∷ cs))
    → AreReadBack forms values columns
read_back forms values columns small same some r line h e =
    let all = all_shown (all_forms forms) (values r) small h in
    let first = some r in
    let is = same r ∙ first.2 in
    let fields : fields_of line ≡ map text_of (values r) =
    ap fields_of (sym (append_cancel_right (join_with_byte 9 (columns r)) line (10 ∷ [])
    (sym (line_join (columns r)) ∙ e)))
    ∙ ap (λ cs. fields_of (join_with_byte 9 cs)) first.2
    ∙ fields_join first.0 first.1 (subst AreFree is all.1) ∙ sym is in
    subst (AreSpelled (all_forms forms) (values r)) (sym fields) all.0

-- ---- columns that may be null, and ten of a kind

pub orders_shown : (r : OrderKey × Order) → map text_of (order_values r) ≡ order_columns r.0 r.1
orders_shown r = carried r.1.carrier
  where
    carried : (c : Option ℕ)
        → map text_of (order_values (r.0, record r.1 { carrier = c })) ≡ order_columns r.0 (record r.1 { carrier = c })
    carried None = refl
    carried (Some n) = refl

pub order_lines_shown : (r : OrderLineKey × OrderLine) → map text_of (order_line_values r) ≡ order_line_columns r.0 r.1
order_lines_shown r = delivered r.1.delivery
  where
    delivered : (d : Option ℕ)
        → map text_of (order_line_values (r.0, record r.1 { delivery = d }))
        ≡ order_line_columns r.0 (record r.1 { delivery = d })
    delivered None = refl
    delivered (Some n) = refl

texts_shown : (ts : List (List ℕ)) (vs : List Value) → map text_of (map (λ t. Text t) ts ++ vs) ≡ ts ++ map text_of vs
texts_shown [] vs = refl
texts_shown (t ∷ ts) vs = ap (λ z. t ∷ z) (texts_shown ts vs)

pub stocks_shown : (r : StockKey × Stock) → map text_of (stock_values r) ≡ stock_columns r.0 r.1
stocks_shown r =
    let s = r.1 in
    ap (λ z. decimal r.0.warehouse ∷ decimal r.0.item ∷ decimal s.quantity ∷ z)
    (texts_shown s.dist_info (Number s.ytd ∷ Number s.order_count ∷ Number s.remote_count ∷ Text s.data ∷ []))

-- ---- a HISTORY row behind its key

spelled_length : (fs : List Form) (vs : List Value) (ss : List (List ℕ)) → AreSpelled fs vs ss → length ss ≡ length fs
spelled_length [] [] [] h = refl
spelled_length (f ∷ fs) (v ∷ vs) (s ∷ ss) h = ap suc (spelled_length fs vs ss h.2)
spelled_length [] [] (s ∷ ss) h = absurd h
spelled_length [] (v ∷ vs) ss h = absurd h
spelled_length (f ∷ fs) [] ss h = absurd h
spelled_length (f ∷ fs) (v ∷ vs) [] h = absurd h

not_eight : (fs : List (List ℕ)) → length fs ≡ 11
    → behind_key fs ≡ past (past (past (record { column = 0; fields = fs })))
not_eight fs e = rw e refl

too_short : (n : ℕ) → n ≡ 11 → n < 11 → ⊥
too_short n e h = omega (arith, e, h)

pub behind_ours : (r : HistoryKey × History) (ss : List (List ℕ))
    → AreSpelled (all_forms history_forms) (history_values r) ss
    → AreSpelled (all_forms history_row_forms) (history_row_values r.1) (behind_key ss).fields
behind_ours r (a ∷ b ∷ c ∷ ss) h =
    let eleven = spelled_length (all_forms history_forms) (history_values r) (a ∷ b ∷ c ∷ ss) h in
    subst (λ (l : Left). AreSpelled (all_forms history_row_forms) (history_row_values r.1) l.fields)
    (sym (not_eight (a ∷ b ∷ c ∷ ss) eleven))
    h.2.2.2
behind_ours r (a ∷ b ∷ []) h =
    absurd (too_short 2 (spelled_length (all_forms history_forms) (history_values r) (a ∷ b ∷ []) h) (omega arith))
behind_ours r (a ∷ []) h =
    absurd (too_short 1 (spelled_length (all_forms history_forms) (history_values r) (a ∷ []) h) (omega arith))
behind_ours r [] h = absurd h
