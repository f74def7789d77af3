-- Who has a last name in a district is told by which customers there are, and by C_FIRST of those there with that name.
use Rattle.std.proofs.Common.{◌≡◌, ℕ, refl, sym, ◌∙◌, ap, Bool, true, false, cond, List, [], ◌∷◌, Option, Some, None}
use Rattle.std.proofs.Common.{inl, inr}
use Rattle.std.specs.Prelude.{◌⊎◌, ◌&&◌, is_some, option_map}
use Rattle.std.specs.List.{filter_map, cons_option}
use Rattle.std.specs.Ordering.{eq_by_cmp, nat_cmp}
use Rattle.std.specs.Cmp.Lexicographic.{slice_cmp}
use Rattle.std.specs.FinMap.{FinMap, get, entries}
use Rattle.oe_rows.specs.Key.{district_cmp, customer_cmp}
use Rattle.oe_rows.specs.declared.keys.DistrictKey.{DistrictKey}
use Rattle.oe_rows.specs.declared.keys.CustomerKey.{CustomerKey}
use Rattle.oe_rows.specs.declared.customers.Customer.{Customer}
use Rattle.oe_rows.specs.declared.customers.CustomerName.{CustomerName}
use Rattle.oe_rows.specs.declared.rows.Row.TheVariants as row
use Rattle.oe_rows.proofs.KeyFacts.{district_total, exact_district, customer_total, exact_customer}
use Rattle.oe_model.specs.Keys.{district_of_customer}
use Rattle.oe_model.specs.Choice.{first_name_of, namesakes, name_in, HaveSameNames}
use Rattle.oe_model.specs.Rows.{Rows}
use Rattle.oe_model.specs.Locks.{first_if_named}
use Rattle.oe_model.proofs.MapFacts.{is_self, mapped, same_mapped}
use Rattle.oe_model.proofs.PresenceFacts.{key_cases}

module _ (h : DistrictKey) (last : List ℕ) where
  abbrev found : CustomerKey → Option Customer → Option (List ℕ × ℕ)
  found k v = option_map (λ first. (first, k.customer)) (first_if_named last v)

  in_district : (k : CustomerKey) (x : Customer) → eq_by_cmp district_cmp (district_of_customer k) h ≡ true
      → first_name_of h last k x ≡ found k (Some x)
  in_district k x e =
      ap (λ b. cond {A = Option (List ℕ × ℕ)} (b && eq_by_cmp (slice_cmp nat_cmp) x.name.last last)
      (Some (x.name.first, k.customer)) None) e ∙ by_name (eq_by_cmp (slice_cmp nat_cmp) x.name.last last)
    where
      by_name : (b : Bool) → cond {A = Option (List ℕ × ℕ)} b (Some (x.name.first, k.customer)) None ≡ option_map
          (λ first. (first, k.customer)) (cond b (Some x.name.first) None)
      by_name true = refl
      by_name false = refl

  elsewhere : (k : CustomerKey) (x : Customer) → eq_by_cmp district_cmp (district_of_customer k) h ≡ false
      → first_name_of h last k x ≡ None
  elsewhere k x e = ap (λ b. cond {A = Option (List ℕ × ℕ)} (b && eq_by_cmp (slice_cmp nat_cmp) x.name.last last)
      (Some (x.name.first, k.customer)) None) e

  by_rows : (k : CustomerKey) (u v : Option Customer) → is_some u ≡ is_some v
      → (district_of_customer k ≡ h → first_if_named last u ≡ first_if_named last v)
      → (district_of_customer k ≡ h) ⊎ (eq_by_cmp district_cmp (district_of_customer k) h ≡ false)
      → option_map (first_name_of h last k) u ≡ option_map (first_name_of h last k) v
  by_rows k None None p n c = refl
  by_rows k None (Some y) p n c = let no : ⊥ = cc in absurd no
  by_rows k (Some x) None p n c = let no : ⊥ = cc in absurd no
  by_rows k (Some x) (Some y) p n (inl s) =
      let e : eq_by_cmp district_cmp (district_of_customer k) h ≡ true =
      ap (λ (d : DistrictKey). eq_by_cmp district_cmp d h) s ∙ is_self district_total exact_district h in
      ap Some (in_district k x e ∙ ap (option_map (λ first. (first, k.customer))) (n s) ∙ sym (in_district k y e))
  by_rows k (Some x) (Some y) p n (inr t) = ap Some (elsewhere k x t ∙ sym (elsewhere k y t))

  taken_from : (es : List (CustomerKey × Customer))
      → filter_map (λ e. first_name_of h last e.0 e.1) es
      ≡ filter_map (λ e. e.1) (mapped customer_cmp (first_name_of h last) es)
  taken_from [] = refl
  taken_from (e ∷ es) = ap (cons_option (first_name_of h last e.0 e.1)) (taken_from es)

  pub same_namesakes : (a b : FinMap customer_cmp Customer)
      → ((k : CustomerKey) → is_some (get a k) ≡ is_some (get b k))
      → ((k : CustomerKey) → district_of_customer k ≡ h
      → first_if_named last (get a k) ≡ first_if_named last (get b k))
      → namesakes h last a ≡ namesakes h last b
  same_namesakes a b p n =
      taken_from (entries a)
      ∙ ap (λ (es : List (CustomerKey × Option (List ℕ × ℕ))). filter_map (λ e. e.1) es)
      (same_mapped customer_total exact_customer (first_name_of h last) a b
      (λ k. by_rows k (get a k) (get b k) (p k) (n k)
      (key_cases district_total exact_district (district_of_customer k) h)))
      ∙ sym (taken_from (entries b))

-- what a row's names alone tell
abbrev name_of : Option Customer → Option CustomerName
name_of v = name_in (option_map row.Customer v)

abbrev first_in : List ℕ → Option CustomerName → Option (List ℕ)
first_in last None = None
first_in last (Some n) = cond (eq_by_cmp (slice_cmp nat_cmp) n.last last) (Some n.first) None

first_by_name : (last : List ℕ) (v : Option Customer) → first_if_named last v ≡ first_in last (name_of v)
first_by_name last None = refl
first_by_name last (Some x) = refl

there_by_name : (v : Option Customer) → is_some v ≡ is_some (name_of v)
there_by_name None = refl
there_by_name (Some x) = refl

-- who has a last name is told by all customers' names
pub named_alike : (h : DistrictKey) (last : List ℕ) (r s : Rows) → HaveSameNames r s
    → namesakes h last r.customers ≡ namesakes h last s.customers
named_alike h last r s e =
    same_namesakes h last r.customers s.customers
    (λ k. there_by_name (get r.customers k) ∙ ap is_some (e k) ∙ sym (there_by_name (get s.customers k)))
    (λ k own. first_by_name last (get r.customers k) ∙ ap (first_in last) (e k)
    ∙ sym (first_by_name last (get s.customers k)))
