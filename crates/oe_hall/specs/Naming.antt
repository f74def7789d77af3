-- What names a shop: the words that its desks share, its history, its ledgers of begins, commits and rollbacks, the
-- layout of its undo records, and the world from which it opened.
use Rattle.std.specs.Prelude.{ℕ, []}
use Rattle.atomic_table.specs.Seated.{TableId}
use Rattle.oe_theory.specs.World.{World}
use Rattle.oe_theory.specs.Theorems.{world_at_opening}
use Rattle.oe_rows.specs.declared.layouts.Layout.{Layout}
use Rattle.oe_rows.specs.declared.layouts.Layout.TheVariants.{WholeRows}
use Rattle.oe_model.specs.System.{system}
use Rattle.oe_store.specs.Places.{no_rows}

-- before it opens
pub record TheMarks : Type 0 where
  pub words : TableId
  pub history : TableId
  pub begun : ℕ
  pub committed : ℕ
  pub rolled_back : ℕ
  pub layout : Layout

pub record TheNames : Type 0 where
  pub words : TableId
  pub history : TableId
  pub begun : ℕ
  pub committed : ℕ
  pub rolled_back : ℕ
  pub layout : Layout
  pub opened : World system

-- a shop with these marks that opens in this world
abbrev pub names_at_opening : TheMarks → World system → TheNames
names_at_opening m w = record {
  words = m.words;
  history = m.history;
  begun = m.begun;
  committed = m.committed;
  rolled_back = m.rolled_back;
  layout = m.layout;
  opened = w;
}

abbrev pub no_table : TableId
no_table = record { words = 0; slots = 0; views_name = 0; atom = 0; block = 0; offset = 0; slot_names = [] }

-- what a brand names until its caller picks
abbrev pub nameless : TheNames
nameless = record {
  words = no_table;
  history = no_table;
  begun = 0;
  committed = 0;
  rolled_back = 0;
  layout = WholeRows;
  opened = world_at_opening system no_rows 0 WholeRows;
}
