-- The ranges of the columns of histories (clause 1.3.1).
use Rattle.std.specs.Prelude.{◌≤◌, ◌<◌}
use Rattle.oe_rows.specs.Key.{IsCustomerKey, IsDistrictKey}
use Rattle.oe_values.specs.Text.{IsText}
use Rattle.oe_values.specs.declared.stamps.TheConstants.{SECONDS}
use Rattle.oe_rows.specs.declared.histories.History.{History}

pub record IsHistory (h : History) : Type 0 where
  pub customer : IsCustomerKey h.customer
  pub district : IsDistrictKey h.district
  pub date : h.date < SECONDS
  pub amount : h.amount ≤ 999_999
  pub text : IsText 0 24 h.data
