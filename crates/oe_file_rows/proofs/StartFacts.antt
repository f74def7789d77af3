-- Values at the front of what is left of a line.
use Rattle.std.proofs.Common.{◌≡◌, ℕ, ◌+◌, ◌*◌, ◌/◌, ◌%◌, ◌^◌, ◌<◌, ◌≤◌, List, [], ◌∷◌, ◌++◌, Option, Some, None, Ok}
use Rattle.std.proofs.Common.{◌-◌, codes, decimal, length, take, drop, get_or, append-nil, append_assoc, sym, ap}
use Rattle.std.proofs.Common.{◌∙◌, refl, arith}
use Rattle.std.proofs.lemmas.List.{take_rest}
use Rattle.oe_values.specs.Front.{after_of, pair_of, decimal_of}
use Rattle.oe_values.specs.Stamp.{two_digits}
use Rattle.oe_values.proofs.FrontFacts.{after_found, pair_found, decimal_found}
use Rattle.oe_rows.specs.Credit.{money_text}
use Rattle.oe_lines.specs.Words.{within}
use Rattle.oe_lines.proofs.WordFacts.{within_found, within_only}
use Rattle.oe_file_rows.specs.declared.forms.Form.{Form}
use Rattle.oe_file_rows.specs.declared.forms.Form.TheVariants as form
use Rattle.oe_file_rows.specs.Line.{Left, left_of, fields_of, ended_by, column, BeginsWith}
use Rattle.oe_file_rows.specs.Value.{Value, Number, Money}
use Rattle.oe_file_rows.specs.Word.{value_of}
use Rattle.oe_file_rows.proofs.DumpFacts.{IsFree, decimal_free, money_free, alone, before_tab}
use Rattle.oe_file_rows.proofs.WordFacts.{number_only, cents_only}

-- a field without a tab, and its end
parted_front : (f : List ℕ) (left : Option (List ℕ)) → IsFree f → fields_of (f ++ ended_by left) ≡ f ∷ left_of left
parted_front f None free = ap fields_of (append-nil f) ∙ alone f free
parted_front f (Some s) free = before_tab f s free

pub number_begins : (low high : ℕ) (s : List ℕ) (n m : ℕ) (r : List ℕ) (left : Option (List ℕ))
    → decimal_of s ≡ Some (n, r) → Some m ≡ within low high n → r ≡ ended_by left
    → BeginsWith (form.Number low high) (Number m) s left
unfolding value_of
number_begins low high s n m r left e i end =
    let d = decimal_found s n r e in
    let w = within_found low high n m (sym i) in
    let small : m < 10 ^ 15 = omega (arith, d.1, w.0) in
    let whole : s ≡ decimal m ++ ended_by left =
    d.0 ∙ ap (λ k. decimal k ++ r) w.0 ∙ ap (λ z. decimal m ++ z) end in
    record {
      field = decimal m;
      whole = whole;
      parted = ap fields_of whole ∙ parted_front (decimal m) left (decimal_free m (omega (arith, small)));
      spelled = rw (number_only m small, within_only low high m w.1 w.2) refl;
    }

money_parts : (n whole cents : ℕ) → cents < 100 → whole * 100 + cents ≡ n → (whole ≡ n / 100) × (cents ≡ n % 100)
money_parts n whole cents h e = (omega arith, omega arith)

pub money_begins : (most : ℕ) (s : List ℕ) (whole : ℕ) (r a : List ℕ) (cents m : ℕ) (t : List ℕ)
    (left : Option (List ℕ))
    → decimal_of s ≡ Some (whole, r) → after_of (codes ".") r ≡ Some a → pair_of a ≡ Some (cents, t)
    → m ≡ whole * 100 + cents → m ≤ most → t ≡ ended_by left
    → BeginsWith (form.Money most) (Money m) s left
unfolding value_of
money_begins most s whole r a cents m t left e p d i high end =
    let front = decimal_found s whole r e in
    let point : r ≡ 46 ∷ a = after_found (codes ".") r a p in
    let back = pair_found a cents t d in
    let parts = money_parts m whole cents back.1 (sym i) in
    let small : m < 10 ^ 17 = omega (arith, front.1, back.1, i) in
    let digits : a ≡ two_digits (m % 100) ++ ended_by left =
    back.0 ∙ ap (λ k. two_digits k ++ t) parts.1 ∙ ap (λ z. two_digits (m % 100) ++ z) end in
    let all : s ≡ money_text m ++ ended_by left =
    front.0 ∙ ap (λ z. decimal whole ++ z) point ∙ ap (λ z. decimal whole ++ 46 ∷ z) digits
    ∙ ap (λ k. decimal k ++ 46 ∷ (two_digits (m % 100) ++ ended_by left)) parts.0
    ∙ sym (append_assoc (decimal (m / 100)) (46 ∷ two_digits (m % 100)) (ended_by left)) in
    record {
      field = money_text m;
      whole = all;
      parted = ap fields_of all ∙ parted_front (money_text m) left (money_free m small);
      spelled = rw (cents_only m small, within_only 0 most m (omega arith) high) refl;
    }

-- ---- where a field ends

pub at_end : (s : List ℕ) → length s < 1 → s ≡ []
at_end [] h = refl
at_end (b ∷ s) h = absurd (omega (arith, h))

front_is : (s : List ℕ) (b d : ℕ) → 1 ≤ length s → get_or s 0 d ≡ b → s ≡ b ∷ drop 1 s
front_is [] b d h e = absurd (omega (arith, h))
front_is (c ∷ s) b d h e = ap (λ x. x ∷ s) e

pub at_tab : (s : List ℕ) (d : ℕ) → 1 ≤ length s → get_or s 0 d ≡ 9 → s ≡ 9 ∷ take (length s - 1) (drop 1 s)
at_tab s d h e = front_is s 9 d h e ∙ ap (λ z. 9 ∷ z) (sym (take_rest s 1))

-- ---- the column is taken

pub column_begins : (f : Form) (v : Value) (l : Left) (n : ℕ) (s : List ℕ) (left : Option (List ℕ))
    → l ≡ record { column = n; fields = fields_of s } → BeginsWith f v s left
    → column f l ≡ Ok (v, record { column = n + 1; fields = left_of left })
unfolding column
column_begins f v l n s left e b = rw (e, b.parted, b.spelled) refl
