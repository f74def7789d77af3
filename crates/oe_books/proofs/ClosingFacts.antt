-- What books lack, by what they keep.
use Rattle.std.proofs.Common.{◌≡◌, ℕ, ◌-◌, ◌<◌, ◌^◌, Bool, true, false, cond, List, [], ◌∷◌}
use Rattle.std.proofs.Common.{Option, Some, None, sym, ap, subst, ◌∙◌, refl, arith, ltb}
use Rattle.std.proofs.lemmas.Bool.{ltb-true, ltb-false}
use Rattle.std.specs.List.{fold}
use Rattle.std.specs.Option.{option_or}
use Rattle.oe_facts.specs.declared.tables.Table.{Table}
use Rattle.oe_facts.specs.declared.tables.Table.TheVariants as table
use Rattle.oe_books.specs.declared.books.Books.{Books}
use Rattle.oe_books.specs.declared.closing.Lack.{Lack}
use Rattle.oe_books.specs.declared.closing.Lack.TheVariants as lack
use Rattle.oe_books.specs.Facts.{Facts, rows_of}
use Rattle.oe_books.specs.Keeping.{KeepsRows, in_64_bits}
use Rattle.oe_books.specs.Closing.{count_of, lack_at, first_lack, without_rows, tables, IsLacking, AreFewEach}

some_same : {A : Type 0} (x y : A) → Some x ≡ Some y → x ≡ y
some_same x y e = cc

counted : (t : Facts) (b : Books) → KeepsRows t b → (name : Table) → count_of b name ≡ in_64_bits (rows_of t name)
counted t b h table.Warehouse = h.warehouses.counted
counted t b h table.District = h.districts.counted
counted t b h table.Customer = h.customers.counted
counted t b h table.History = h.histories.counted
counted t b h table.NewOrder = h.new_orders.counted
counted t b h table.Order = h.orders.counted
counted t b h table.OrderLine = h.lines.counted
counted t b h table.Item = h.items.counted
counted t b h table.Stock = h.stocks.counted

-- ---- what is lacking

no_rows : (g : Option ℕ) (t : Facts) (name : Table) (l : Lack) → rows_of t name ≡ 0 → without_rows name ≡ Some l →
    IsLacking g t l
no_rows g t table.Warehouse l h e = subst (IsLacking g t) (some_same (lack.Rows table.Warehouse) l e) (h, refl)
no_rows g t table.District l h e = subst (IsLacking g t) (some_same (lack.Rows table.District) l e) (h, refl)
no_rows g t table.Customer l h e = subst (IsLacking g t) (some_same (lack.Rows table.Customer) l e) (h, refl)
no_rows g t table.History l h e = subst (IsLacking g t) (some_same (lack.Rows table.History) l e) (h, refl)
no_rows g t table.NewOrder l h e = absurd (cc)
no_rows g t table.Order l h e = subst (IsLacking g t) (some_same (lack.Rows table.Order) l e) (h, refl)
no_rows g t table.OrderLine l h e = subst (IsLacking g t) (some_same (lack.Rows table.OrderLine) l e) (h, refl)
no_rows g t table.Item l h e = subst (IsLacking g t) (some_same (lack.Rows table.Item) l e) (h, refl)
no_rows g t table.Stock l h e = subst (IsLacking g t) (some_same (lack.Rows table.Stock) l e) (h, refl)

none_there : (g : Option ℕ) (t : Facts) (name : Table) (n : ℕ) (l : Lack) (some : Bool) → ltb 0 n ≡ some → n
    ≡ in_64_bits
    (rows_of t name)
    → cond some None (without_rows name) ≡ Some l → IsLacking g t l
none_there g t name n l true e c h = absurd (cc)
none_there g t name n l false e c h = no_rows g t name l (omega (arith, ltb-false 0 n e, c)) h

lacks : (g : Option ℕ) (t : Facts) (name : Table) (n : ℕ) (l : Lack) (many : Bool) → ltb (2 ^ 32 - 1) n ≡ many
    → n ≡ in_64_bits (rows_of t name)
    → cond many (Some (lack.Room name)) (cond (ltb 0 n) None (without_rows name)) ≡ Some l → IsLacking g t l
lacks g t name n l true e c h =
    subst (IsLacking g t) (some_same (lack.Room name) l h) (omega (arith, ltb-true (2 ^ 32 - 1) n e, c))
lacks g t name n l false e c h = none_there g t name n l (ltb 0 n) refl c h

lacks_at : (g : Option ℕ) (t : Facts) (b : Books) (l : Lack) → KeepsRows t b → (name : Table)
    → lack_at b name ≡ Some l →
    IsLacking g t l
lacks_at g t b l h name e =
    lacks g t name (count_of b name) l (ltb (2 ^ 32 - 1) (count_of b name)) refl (counted t b h name) e

found_by : (F : Table → Option Lack) (P : Lack → Type 0) → ((name : Table) (l : Lack) → F name ≡ Some l → P l)
    → (start : Option Lack) → ((l : Lack) → start ≡ Some l → P l) → (names : List Table) (l : Lack)
    → fold (λ found t. option_or found (F t)) start names ≡ Some l → P l
found_by F P each start before [] l e = before l e
found_by F P each None before (name ∷ names) l e = found_by F P each (F name) (each name) names l e
found_by F P each (Some k) before (name ∷ names) l e = found_by F P each (Some k) before names l e

pub lack_is : (g : Option ℕ) (t : Facts) (b : Books) (l : Lack) → first_lack b ≡ Some l → KeepsRows t b
    → IsLacking g t l
lack_is g t b l e h =
    found_by (lack_at b) (IsLacking g t) (λ name l. lacks_at g t b l h name) None (λ l e. absurd (cc)) tables l e

-- ---- nothing is lacking

few : (t : Facts) (name : Table) (n : ℕ) (many : Bool) → ltb (2 ^ 32 - 1) n ≡ many → n ≡ in_64_bits (rows_of t name)
    → cond many (Some (lack.Room name)) (cond (ltb 0 n) None (without_rows name)) ≡ None → rows_of t name < 2 ^ 32
few t name n true e c h = absurd (cc)
few t name n false e c h = omega (arith, ltb-false (2 ^ 32 - 1) n e, c)

few_at : (t : Facts) (b : Books) → KeepsRows t b → (name : Table) → lack_at b name ≡ None → rows_of t name < 2 ^ 32
few_at t b h name e =
    few t name (count_of b name) (ltb (2 ^ 32 - 1) (count_of b name)) refl (counted t b h name) e

none_before : (F : Table → Option Lack) (start : Option Lack) (names : List Table)
    → fold (λ found t. option_or found (F t)) start names ≡ None → start ≡ None
none_before F start [] e = e
none_before F None (name ∷ names) e = refl
none_before F (Some k) (name ∷ names) e = absurd (let f : Some k ≡ None = none_before F (Some k) names e in cc)

none_next : (F : Table → Option Lack) (name : Table) (names : List Table)
    → fold (λ found t. option_or found (F t)) None (name ∷ names) ≡ None
    → (F name ≡ None) × (fold (λ found t. option_or found (F t)) None names ≡ None)
none_next F name names e =
    let first : F name ≡ None = none_before F (F name) names e in
    (first, ap (λ s. fold (λ found t. option_or found (F t)) s names) (sym first) ∙ e)

pub each_few : (t : Facts) (b : Books) → first_lack b ≡ None → KeepsRows t b → AreFewEach t
each_few t b e h =
    let F = lack_at b in
    let n1 = none_next F table.Warehouse (table.District ∷ table.Customer ∷ table.History ∷ table.NewOrder ∷
    table.Order ∷ table.OrderLine ∷ table.Item ∷ table.Stock ∷ []) e in
    let n2 = none_next F table.District (table.Customer ∷ table.History ∷ table.NewOrder ∷ table.Order ∷
    table.OrderLine ∷ table.Item ∷ table.Stock ∷ []) n1.1 in
    let n3 = none_next F table.Customer (table.History ∷ table.NewOrder ∷ table.Order ∷ table.OrderLine ∷ table.Item
    ∷ table.Stock ∷ []) n2.1 in
    let n4 = none_next F table.History (table.NewOrder ∷ table.Order ∷ table.OrderLine ∷ table.Item ∷ table.Stock ∷
    []) n3.1 in
    let n5 = none_next F table.NewOrder (table.Order ∷ table.OrderLine ∷ table.Item ∷ table.Stock ∷ []) n4.1 in
    let n6 = none_next F table.Order (table.OrderLine ∷ table.Item ∷ table.Stock ∷ []) n5.1 in
    let n7 = none_next F table.OrderLine (table.Item ∷ table.Stock ∷ []) n6.1 in
    let n8 = none_next F table.Item (table.Stock ∷ []) n7.1 in
    let n9 = none_next F table.Stock [] n8.1 in
    record {
      warehouses = few_at t b h table.Warehouse n1.0;
      districts = few_at t b h table.District n2.0;
      customers = few_at t b h table.Customer n3.0;
      histories = few_at t b h table.History n4.0;
      new_orders = few_at t b h table.NewOrder n5.0;
      orders = few_at t b h table.Order n6.0;
      lines = few_at t b h table.OrderLine n7.0;
      items = few_at t b h table.Item n8.0;
      stocks = few_at t b h table.Stock n9.0;
    }
