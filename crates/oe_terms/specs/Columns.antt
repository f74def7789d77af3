-- The parts of requests, each with the generator after it. At another scale than the standard's, numbers are drawn
-- evenly.
use Rattle.std.specs.Prelude.{ℕ, ◌+◌, ◌-◌, ◌%◌, ◌==◌, nat_le, if◌then◌else◌, min, List}
use Rattle.rand_pcg.specs.Lcg.{Lcg}
use Rattle.oe_rows.specs.declared.scales.Scale.{Scale}
use Rattle.oe_rows.specs.declared.keys.DistrictKey.{DistrictKey}
use Rattle.oe_requests.specs.declared.requests.CustomerChoice.{CustomerChoice}
use Rattle.oe_requests.specs.declared.requests.CustomerChoice.TheVariants.{Number, LastName}
use Rattle.oe_model.specs.Population.{last_name}
use Rattle.oe_terms.specs.Draws.{random, nurand}

-- the terminal's warehouse, which stays the same (clause 2.4.1.1)
abbrev pub home : Scale → ℕ → ℕ
home s terminal = 1 + (terminal - 1) % s.warehouses

-- the terminal's district for its stock levels (clause 2.8.1.1)
abbrev pub own_district : Scale → ℕ → DistrictKey
own_district s terminal = record { warehouse = home s terminal; district = 1 + (terminal - 1) % 10 }

-- the one warehouse that stands for all others: the next, or the same where there is one alone
abbrev pub other : Scale → ℕ → ℕ
other s warehouse = 1 + warehouse % s.warehouses

-- the stamp of request r: r seconds after 2001-01-01T00:00:00, in seconds since 1900-01-01T00:00:00
abbrev pub stamp_of : ℕ → ℕ
stamp_of r = 3_187_296_000 + r

-- one of a warehouse's ten districts (clause 2.4.1.2)
abbrev pub district_in : ℕ → Lcg → DistrictKey × Lcg
district_in warehouse g =
    let d = random 1 10 g in
    (record { warehouse = warehouse; district = d.0 }, d.1)

-- C_ID (clause 2.4.1.2)
abbrev pub customer_number : ℕ → Lcg → ℕ × Lcg
customer_number customers g = if customers == 3_000 then nurand 1_023 987 1 3_000 g else random 1 customers g

-- C_LAST, and its number, which some customer's name has (clause 4.3.2.3)
abbrev pub name_number : ℕ → Lcg → ℕ × Lcg
name_number customers g = if customers == 3_000 then nurand 255 157 0 999 g else random 0 (min customers 1_000 - 1) g

abbrev pub name_drawn : ℕ → Lcg → List ℕ × Lcg
name_drawn customers g =
    let n = name_number customers g in
    (last_name n.0, n.1)

-- I_ID (clause 2.4.1.5)
abbrev pub item_number : ℕ → Lcg → ℕ × Lcg
item_number items g = if items == 100_000 then nurand 8_191 5_987 1 100_000 g else random 1 items g

-- a customer, 60 in 100 by last name and the others by number (clauses 2.5.1.2 and 2.6.1.2)
abbrev pub choice : ℕ → Lcg → CustomerChoice × Lcg
choice customers g =
    let u = random 1 100 g in
    let name = name_drawn customers u.1 in
    let number = customer_number customers u.1 in
    if nat_le u.0 60 then (LastName name.0, name.1) else (Number number.0, number.1)

-- the customer's district: in 85 of 100 the payment's, else one of the other warehouse (clause 2.5.1.2)
abbrev pub residence : Scale → DistrictKey → Lcg → DistrictKey × Lcg
residence s at g =
    let v = random 1 100 g in
    if nat_le v.0 85 then (at, v.1) else district_in (other s at.warehouse) v.1
