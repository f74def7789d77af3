-- Rows of tables that stand apart, taken in behind others.
use Rattle.std.proofs.Common.{◌≡◌, refl, sym, ap, subst, ◌∙◌, ℕ, true, List, [], ◌∷◌, ◌++◌, append_assoc, append-nil}
use Rattle.std.proofs.Common.{Option, None, Some, inl, inr, arith}
use Rattle.std.specs.Prelude.{◌⊎◌, ◌<◌, IfNone, OnSome, IsNone}
use Rattle.std.specs.Option.{option_and}
use Rattle.std.proofs.lemmas.Bool.{false≢true}
use Rattle.std.proofs.lemmas.List.Sums.{fold-append}
use Rattle.std.specs.List.{fold}
use Rattle.oe_facts.specs.Table.{table_of}
use Rattle.oe_facts.specs.declared.tables.Table.{Table}
use Rattle.oe_facts.specs.declared.tables.Table.TheVariants as table
use Rattle.oe_facts.specs.declared.tables.Fact.{Fact}
use Rattle.oe_facts.specs.declared.tables.Fact.TheVariants as fact
use Rattle.oe_books.specs.declared.books.Books.{Books}
use Rattle.oe_books.specs.declared.books.Initial.{Initial}
use Rattle.oe_books.specs.declared.books.Initial.TheVariants as initial
use Rattle.oe_books.specs.Facts.{Facts, no_facts, with_fact, facts_by_table, stands_apart, with_apart}
use Rattle.oe_books.specs.Keeping.{IsInitial}
use Rattle.oe_books.specs.Closing.{count_of, HaveBoth}

-- what is known of the number of first orders stays
pub initial_apart : (g : Option ℕ) (t u : Facts) (i : Initial) (n : ℕ) → IsInitial g t i n
    → IsInitial g (with_apart t u) i n
initial_apart g t u initial.Given n h = h
initial_apart g t u initial.Open n h = h
initial_apart g t u initial.Counted n h = h
initial_apart g t u initial.Late n h = h

-- one row more
one_apart : (t u : Facts) (f : Fact) → stands_apart (table_of f) ≡ true
    → with_fact (with_apart t u) f ≡ with_apart t (with_fact u f)
one_apart t u (fact.Warehouse f) h =
    ap (λ xs. record (with_apart t u) { warehouses = xs }) (append_assoc t.warehouses u.warehouses (f ∷ []))
one_apart t u (fact.District f) h =
    ap (λ xs. record (with_apart t u) { districts = xs }) (append_assoc t.districts u.districts (f ∷ []))
one_apart t u (fact.Customer f) h = absurd (false≢true h)
one_apart t u (fact.History f) h =
    ap (λ xs. record (with_apart t u) { histories = xs }) (append_assoc t.histories u.histories (f ∷ []))
one_apart t u (fact.NewOrder f) h =
    ap (λ xs. record (with_apart t u) { new_orders = xs }) (append_assoc t.new_orders u.new_orders (f ∷ []))
one_apart t u (fact.Order f) h = absurd (false≢true h)
one_apart t u (fact.OrderLine f) h = absurd (false≢true h)
one_apart t u (fact.Item f) h =
    ap (λ xs. record (with_apart t u) { items = xs }) (append_assoc t.items u.items (f ∷ []))
one_apart t u (fact.Stock f) h =
    ap (λ xs. record (with_apart t u) { stocks = xs }) (append_assoc t.stocks u.stocks (f ∷ []))

none_apart : (t : Facts) → t ≡ with_apart t no_facts
none_apart t = λ i. record {
  warehouses = sym (append-nil t.warehouses) i;
  districts = sym (append-nil t.districts) i;
  customers = t.customers;
  histories = sym (append-nil t.histories) i;
  new_orders = sym (append-nil t.new_orders) i;
  orders = t.orders;
  lines = t.lines;
  items = sym (append-nil t.items) i;
  stocks = sym (append-nil t.stocks) i;
  early = t.early;
}

-- all these facts are of tables that stand apart
abbrev pub StandApart : List Fact → Type 0
StandApart [] = Unit {0}
StandApart (f ∷ fs) = (stands_apart (table_of f) ≡ true) × StandApart fs

all_apart : (t u : Facts) (fs : List Fact) → StandApart fs
    → fold with_fact (with_apart t u) fs ≡ with_apart t (fold with_fact u fs)
all_apart t u [] h = refl
all_apart t u (f ∷ fs) h =
    ap (λ v. fold with_fact v fs) (one_apart t u f h.0) ∙ all_apart t (with_fact u f) fs h.1

pub parted_apart : (facts more : List Fact) → StandApart more
    → facts_by_table (facts ++ more) ≡ with_apart (facts_by_table facts) (facts_by_table more)
parted_apart facts more h =
    fold-append with_fact no_facts facts more
    ∙ ap (λ v. fold with_fact v more) (none_apart (facts_by_table facts))
    ∙ all_apart (facts_by_table facts) no_facts more h

-- ---- what is not taken in

pub none_of_both : {T U : Type 0} (A : Type 0) (p : Option T) (q r : Option U) → r ≡ option_and p q → IfNone p A
    → IfNone q A → IfNone r A
none_of_both A p q r is h g = subst (λ (x : Option _). IfNone x A) (sym is) (either p q h g)
  where
    either : {T U : Type 0} (p : Option T) (q : Option U) → IfNone p A → IfNone q A → IfNone (option_and p q) A
    either None q h g = h
    either (Some x) q h g = g

none_so : {T A B : Type 0} (p : Option T) → (A → B) → IfNone p A → IfNone p B
none_so None f h = f h
none_so (Some x) f h = tt

-- a ledger took nothing in, as both have rows of its table
pub found_in : {T : Type 0} (a b : Books) (t : Table) → stands_apart t ≡ true → (p : Option T)
    → IfNone p ((0 < count_of a t) × (0 < count_of b t)) → IfNone p (HaveBoth a b)
found_in a b t apart p h = none_so {B = HaveBoth a b} p (λ both. (t, apart, both.0, both.1)) h

pub not_both : {T P : Type 0} (p : Option T) → (P → ⊥) → OnSome p P → IsNone p
not_both None f h = refl
not_both (Some x) f h = absurd (f h)

-- one of two numbers of rows is none
pub apart_of : {P Q : Type 0} {m n : ℕ} → (P × (n ≡ 0)) ⊎ (Q × (m ≡ 0)) → (m ≡ 0) ⊎ (n ≡ 0)
apart_of (inl h) = inr h.1
apart_of (inr h) = inl h.1

-- no books have rows of one table, if of each table that stands apart one has none
pub no_longer : (a b : Books) → ((t : Table) → stands_apart t ≡ true → (count_of a t ≡ 0) ⊎ (count_of b t ≡ 0))
    → HaveBoth a b → ⊥
no_longer a b none (t, apart, here, there) = elim (none t apart) [
  | inl e ↦ omega (arith, e, here)
  | inr e ↦ omega (arith, e, there)
]

pub by_table : (a b : Books) → (a.warehouses.count ≡ 0) ⊎ (b.warehouses.count ≡ 0)
    → (a.districts.count ≡ 0) ⊎ (b.districts.count ≡ 0) → (a.histories.count ≡ 0) ⊎ (b.histories.count ≡ 0)
    → (a.new_orders.count ≡ 0) ⊎ (b.new_orders.count ≡ 0) → (a.items.count ≡ 0) ⊎ (b.items.count ≡ 0)
    → (a.stocks.count ≡ 0) ⊎ (b.stocks.count ≡ 0) → (t : Table) → stands_apart t ≡ true
    → (count_of a t ≡ 0) ⊎ (count_of b t ≡ 0)
by_table a b w d h n i s table.Warehouse e = w
by_table a b w d h n i s table.District e = d
by_table a b w d h n i s table.Customer e = absurd (false≢true e)
by_table a b w d h n i s table.History e = h
by_table a b w d h n i s table.NewOrder e = n
by_table a b w d h n i s table.Order e = absurd (false≢true e)
by_table a b w d h n i s table.OrderLine e = absurd (false≢true e)
by_table a b w d h n i s table.Item e = i
by_table a b w d h n i s table.Stock e = s
