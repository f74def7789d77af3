-- The tallies of DISTRICT rows have the figures of the facts.
use Rattle.std.proofs.Common.{◌≡◌, refl, ◌∙◌, ap, ℕ, arith, nat_eq, List}
use Rattle.std.specs.Prelude.{pos}
use Rattle.std.specs.Int.{int_max}
use Rattle.std.specs.Option.{option_map}
use Rattle.oe_tally.specs.Tallies.{total}
use Rattle.oe_facts.specs.declared.keys.DistrictId.{DistrictId}
use Rattle.oe_facts.specs.declared.facts.DistrictFact.{DistrictFact}
use Rattle.oe_ledgers.specs.declared.districts.DistrictSums.{DistrictSums}
use Rattle.oe_ledgers.specs.declared.takings.Takings.{Takings}
use Rattle.oe_ledgers.specs.declared.districts.Districts.{Districts}
use Rattle.oe_ledgers.specs.Keys.{same_district}
use Rattle.oe_ledgers.specs.Sums.{districts_joined, takings_joined}
use Rattle.oe_ledgers.specs.Keeping.{KeepsDistricts, district_entry, district_ytd_entry}
use Rattle.oe_ledgers.specs.Figures.{AreFew, AreAmounts}
use Rattle.oe_ledgers.specs.Figures.{d_ytd}
use Rattle.oe_ledgers.specs.Figures.{d_next_order}
use Rattle.oe_ledgers.specs.Figures.{district_rows}
use Rattle.oe_ledgers.specs.Figures.{d_ytd_of_warehouse}
use Rattle.oe_ledgers.specs.Figures.{districts_of_warehouse}
use Rattle.oe_ledgers.proofs.SumFacts.{projected, pos_max, counted, money}

pub d_ytd-kept : (facts : List DistrictFact) (kept : Districts) → KeepsDistricts facts kept → (k : DistrictId)
    → option_map (λ (s : DistrictSums). s.ytd) (total same_district districts_joined kept.by_district k) ≡ d_ytd facts k
d_ytd-kept facts kept is k =
    ap (option_map (λ (s : DistrictSums). s.ytd)) (is.by_district k)
    ∙ projected same_district districts_joined int_max district_entry (λ (s : DistrictSums). s.ytd) (λ a b. refl)
    facts k

pub d_next_order-kept : (facts : List DistrictFact) (kept : Districts) → KeepsDistricts facts kept → (k : DistrictId)
    → option_map (λ (s : DistrictSums). pos s.next_order) (total same_district districts_joined kept.by_district k)
    ≡ d_next_order facts k
d_next_order-kept facts kept is k =
    ap (option_map (λ (s : DistrictSums). pos s.next_order)) (is.by_district k)
    ∙ projected same_district districts_joined int_max district_entry (λ (s : DistrictSums). pos s.next_order)
    (λ a b. pos_max a.next_order b.next_order) facts k

pub district_rows-kept : (facts : List DistrictFact) (kept : Districts) → KeepsDistricts facts kept → AreFew facts
    → (k : DistrictId)
    → option_map (λ (s : DistrictSums). pos s.rows) (total same_district districts_joined kept.by_district k)
    ≡ district_rows facts k
district_rows-kept facts kept is few k =
    ap (option_map (λ (s : DistrictSums). pos s.rows)) (is.by_district k)
    ∙ counted same_district districts_joined district_entry (λ (s : DistrictSums). s.rows) (λ a b. refl)
    (λ f. omega arith) facts few k

pub d_ytd_of_warehouse-kept : (facts : List DistrictFact) (kept : Districts) → KeepsDistricts facts kept
    → AreFew facts → AreAmounts (λ (f : DistrictFact). f.ytd) facts → (k : ℕ)
    → option_map (λ (s : Takings). s.amount) (total nat_eq takings_joined kept.by_warehouse k)
    ≡ d_ytd_of_warehouse facts k
d_ytd_of_warehouse-kept facts kept is few amounts k =
    ap (option_map (λ (s : Takings). s.amount)) (is.by_warehouse k)
    ∙ money nat_eq takings_joined district_ytd_entry (λ (s : Takings). s.amount) (λ a b. refl)
    (λ (f : DistrictFact). f.ytd) (λ f. omega arith) facts few amounts k

pub districts_of_warehouse-kept : (facts : List DistrictFact) (kept : Districts) → KeepsDistricts facts kept
    → AreFew facts → (k : ℕ)
    → option_map (λ (s : Takings). pos s.rows) (total nat_eq takings_joined kept.by_warehouse k)
    ≡ districts_of_warehouse facts k
districts_of_warehouse-kept facts kept is few k =
    ap (option_map (λ (s : Takings). pos s.rows)) (is.by_warehouse k)
    ∙ counted nat_eq takings_joined district_ytd_entry (λ (s : Takings). s.rows) (λ a b. refl) (λ f. omega arith)
    facts few k
