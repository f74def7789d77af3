-- Among the rows of a list are all customers of a last name.
use Rattle.std.proofs.Common.{◌≡◌, refl, sym, ◌∙◌, ap, subst, Bool, true, false, cond, ℕ, List, [], get_or, Option}
use Rattle.std.proofs.Common.{Some, None, inl, inr, rules}
use Rattle.std.specs.Prelude.{◌&&◌, ◌⊎◌, ◌↔◌, ◌==◌, IfSome, IsSome}
use Rattle.std.specs.Option.{unwrap_or}
use Rattle.std.specs.Ordering.{eq_by_cmp, nat_cmp}
use Rattle.std.specs.Cmp.{eq_by_cmp_equiv}
use Rattle.std.specs.Cmp.Lexicographic.{slice_cmp, nat_list_cmp_total}
use Rattle.std.specs.FinMap.{FinMap, IsAntisymmetric, get, slice_cmp-IsAntisymmetric, nat_cmp-IsAntisymmetric}
use Rattle.oe_rows.specs.Key.{district_cmp, customer_cmp}
use Rattle.oe_rows.specs.declared.keys.DistrictKey.{DistrictKey}
use Rattle.oe_rows.specs.declared.keys.CustomerKey.{CustomerKey}
use Rattle.oe_rows.proofs.KeyFacts.{district_total, exact_district, customer_total, exact_customer}
use Rattle.oe_rows.specs.declared.customers.Customer.{Customer}
use Rattle.oe_table.specs.Shelf.{IsAscending}
use Rattle.oe_model.specs.Keys.{district_of_customer}
use Rattle.oe_model.specs.Choice.{first_name_of, namesakes}
use Rattle.oe_model.proofs.MapFacts.{is_same}
use Rattle.oe_index.specs.Listed.{Keys, rows_at_keys, IsListed, ListsMore, Unlists, AreListed, is_name, HasOtherName}
use Rattle.oe_index.specs.Numbers.{list_number, list_of_name, is_list_of, ForgetsName}
use Rattle.oe_index.specs.Own.{named_of}
use Rattle.oe_index.proofs.FoundFacts.{never, both_true, all-found}

exact_text : IsAntisymmetric (slice_cmp nat_cmp)
exact_text = slice_cmp-IsAntisymmetric nat_cmp-IsAntisymmetric

named-none : (h : DistrictKey) (last : List ℕ) (k : CustomerKey) (x : Customer) (b : Bool)
    → (eq_by_cmp district_cmp (district_of_customer k) h && eq_by_cmp (slice_cmp nat_cmp) x.name.last last) ≡ b
    → (b ≡ true → ⊥) → first_name_of h last k x ≡ None
named-none h last k x true e out = absurd (out refl)
named-none h last k x false e out = ap (λ c. cond {A = Option (List ℕ × ℕ)} c (Some (x.name.first, k.customer)) None) e

pub all-met : (h : DistrictKey) (last : List ℕ) (m : FinMap customer_cmp Customer) (ls : List (Keys CustomerKey))
    (es : Keys CustomerKey) → AreListed customer_cmp list_of_name true ls m
    → es ≡ get_or ls (list_number h last) [] → IsAscending customer_cmp es
    → named_of h last (rows_at_keys customer_cmp m es) ≡ namesakes h last m
all-met h last m ls es listed is up =
    all-found customer_total exact_customer list_of_name (λ e. first_name_of h last e.0 e.1)
    (list_number h last) m ls es listed
    is up (λ k x other.
    named-none h last k x _ refl (λ t.
    let parts = both_true (eq_by_cmp district_cmp (district_of_customer k) h)
    (eq_by_cmp (slice_cmp nat_cmp) x.name.last last) t in
    let own : district_of_customer k ≡ h = is_same district_total exact_district (district_of_customer k) h parts.0 in
    let name : x.name.last ≡ last = is_same nat_list_cmp_total exact_text x.name.last last parts.1 in
    other (λ i. list_number (own i) (name i))))

-- a customer of that name is listed under it
pub listed-name : (ls : List (Keys CustomerKey)) (m : FinMap customer_cmp Customer) (key : CustomerKey) (last : List ℕ)
    (b : Bool) → b ≡ is_name last (get m key)
    → AreListed customer_cmp list_of_name true ls m → b ≡ true
    → IsListed customer_cmp ls (list_number (district_of_customer key) last) key
listed-name ls m key last b is h on = by (get m key) refl (sym is ∙ on)
  where
    by : (o : Option Customer) → get m key ≡ o → is_name last o ≡ true
        → IsListed customer_cmp ls (list_number (district_of_customer key) last) key
    by None at t = never (sym t)
    by (Some x) at t = subst (λ l. IsListed customer_cmp ls (list_number (district_of_customer key) l) key)
        (is_same nat_list_cmp_total exact_text x.name.last last t) (h refl key x at)

-- also where it was not, but is listed under it
pub listed-under : (ls : List (Keys CustomerKey)) (m : FinMap customer_cmp Customer) (key : CustomerKey) (last : List ℕ)
    → ((is_name last (get m key) ≡ true)
    ⊎ IsListed customer_cmp ls (list_number (district_of_customer key) last) key)
    → AreListed customer_cmp list_of_name true ls m
    → IsListed customer_cmp ls (list_number (district_of_customer key) last) key
listed-under ls m key last (inl first_name_of) h = listed-name ls m key last true (sym first_name_of) h refl
listed-under ls m key last (inr there) h = there

-- of one that has another, the list under it tells
pub told-under : (ls : List (Keys CustomerKey)) (key : CustomerKey) (first_name_of there : Bool) (n m : ℕ) → n ≡ m
    → false ≡ first_name_of → ((there ≡ true) ↔ IsListed customer_cmp ls n key)
    → (there ≡ true) ↔ ((first_name_of ≡ true) ⊎ IsListed customer_cmp ls m key)
told-under ls key first_name_of there n m same other told = (
  (λ t. inr (subst (λ i. IsListed customer_cmp ls i key) same (told.0 t))),
  λ h. elim h [
    | inl is ↦ never (sym is ∙ sym other)
    | inr l ↦ told.1 (subst (λ i. IsListed customer_cmp ls i key) (sym same) l)
  ],
)

-- and where it was listed under it, if it had another
pub listed-renamed : (b : Bool) (old new : List (Keys CustomerKey)) (m : FinMap customer_cmp Customer)
    (key : CustomerKey) (last : List ℕ) → ListsMore customer_cmp old new
    → (is_name last (get m key) ≡ false → IsListed customer_cmp new (list_number (district_of_customer key) last) key)
    → AreListed customer_cmp list_of_name b old m → b ≡ true
    → IsListed customer_cmp new (list_number (district_of_customer key) last) key
listed-renamed b old new m key last more renamed h on = by (is_name last (get m key)) refl
  where
    by : (c : Bool) → is_name last (get m key) ≡ c
        → IsListed customer_cmp new (list_number (district_of_customer key) last) key
    by true e =
        more (list_number (district_of_customer key) last) key
        (listed-name old m key last true (sym e) (λ t k x at. h on k x at) refl)
    by false e = renamed e

-- and under the C_LAST that is put back, if one is
pub listed-before : (last : Option (List ℕ)) (ls : List (Keys CustomerKey)) (m : FinMap customer_cmp Customer)
    (key : CustomerKey) (x : Customer)
    → IfSome last (λ l. IsListed customer_cmp ls (list_number (district_of_customer key) l) key) → get m key ≡ Some x
    → AreListed customer_cmp list_of_name true ls m
    → IsListed customer_cmp ls (list_number (district_of_customer key) (unwrap_or last x.name.last)) key
listed-before None ls m key x there at h = h refl key x at
listed-before (Some l) ls m key x there at h = there

pub other-name : (last : List ℕ) (o : Option Customer) → IsSome o → is_name last o ≡ false → HasOtherName last o
other-name last None there other = never (sym there)
other-name last (Some x) there other = (
  x,
  refl,
  λ e. never
      (sym ((eq_by_cmp_equiv nat_list_cmp_total).refl last) ∙ ap (λ l. eq_by_cmp (slice_cmp nat_cmp) l last) e
      ∙ other),
)

-- a customer is off a list, unless that is its own
pub forgets-none : (m : FinMap customer_cmp Customer) (ls : List (Keys CustomerKey)) (number other : ℕ)
    (key : CustomerKey) → number ≡ other → true ≡ is_list_of number key (get m key)
    → ForgetsName m ls ls other key
forgets-none m ls number other key same own n k =
    ((λ h. (h, λ e. sym (own ∙ ap (λ i. is_list_of i key (get m key)) same))), (λ h. h.0))

pub forgets-it : (m : FinMap customer_cmp Customer) (old new : List (Keys CustomerKey)) (number other : ℕ)
    (key : CustomerKey) → number ≡ other → Unlists customer_cmp old new number key
    → false ≡ is_list_of number key (get m key) → ForgetsName m old new other key
forgets-it m old new number other key same off not_own n k = (
  (λ h. let t = (off n k).0 h in (t.0, λ e. absurd (t.1 (e.0 ∙ sym same, e.1)))),
  (λ h.
      (off n k).1 (
        h.0,
        λ e.
            never (sym (h.1 (e.0 ∙ same, e.1))
            ∙ sym (not_own ∙ ap (λ i. is_list_of i key (get m key)) same)),
      )),
)

same_number : (a b : ℕ) → a ≡ b → (a == b) ≡ true
same_number a b e = search rules

-- off another list than that of its C_LAST, a customer stays listed
pub listed-forgotten : (b : Bool) (old new : List (Keys CustomerKey)) (m : FinMap customer_cmp Customer) (number : ℕ)
    (key : CustomerKey) → Unlists customer_cmp old new number key → is_list_of number key (get m key) ≡ false
    → AreListed customer_cmp list_of_name b old m → AreListed customer_cmp list_of_name b new m
listed-forgotten b old new m number key off other h on k x at =
    (off (list_of_name k x) k).1 (
      h on k x at,
      λ e.
          let there : get m key ≡ Some x = ap (get m) (sym e.1) ∙ at in
          let own : list_of_name key x ≡ number = ap (λ j. list_of_name j x) (sym e.1) ∙ e.0 in
          never (sym (same_number (list_of_name key x) number own) ∙ sym (ap (is_list_of number key) there) ∙ other),
    )
