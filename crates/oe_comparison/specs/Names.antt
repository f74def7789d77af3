-- The names of the columns of each table, in the order in which a dump prints them (clause 1.3.1).
use Rattle.std.specs.Prelude.{ℕ, List, [], ◌∷◌, get_or, codes}
use Rattle.oe_rows.specs.declared.keys.Table.{Table}
use Rattle.oe_rows.specs.declared.keys.Table.TheVariants as table

abbrev pub column_names : Table → List (List ℕ)
column_names table.Warehouse =
    codes "W_ID" ∷ codes "W_NAME" ∷ codes "W_STREET_1" ∷ codes "W_STREET_2" ∷ codes "W_CITY" ∷ codes "W_STATE"
    ∷ codes "W_ZIP" ∷ codes "W_TAX" ∷ codes "W_YTD" ∷ []
column_names table.District =
    codes "D_W_ID" ∷ codes "D_ID" ∷ codes "D_NAME" ∷ codes "D_STREET_1" ∷ codes "D_STREET_2" ∷ codes "D_CITY"
    ∷ codes "D_STATE" ∷ codes "D_ZIP" ∷ codes "D_TAX" ∷ codes "D_YTD" ∷ codes "D_NEXT_O_ID" ∷ []
column_names table.Customer =
    codes "C_W_ID" ∷ codes "C_D_ID" ∷ codes "C_ID" ∷ codes "C_FIRST" ∷ codes "C_MIDDLE" ∷ codes "C_LAST"
    ∷ codes "C_STREET_1" ∷ codes "C_STREET_2" ∷ codes "C_CITY" ∷ codes "C_STATE" ∷ codes "C_ZIP" ∷ codes "C_PHONE"
    ∷ codes "C_SINCE" ∷ codes "C_CREDIT" ∷ codes "C_CREDIT_LIM" ∷ codes "C_DISCOUNT" ∷ codes "C_BALANCE"
    ∷ codes "C_YTD_PAYMENT" ∷ codes "C_PAYMENT_CNT" ∷ codes "C_DELIVERY_CNT" ∷ codes "C_DATA" ∷ []
column_names table.History =
    codes "terminal" ∷ codes "number" ∷ codes "ordinal" ∷ codes "H_C_ID" ∷ codes "H_C_D_ID" ∷ codes "H_C_W_ID"
    ∷ codes "H_D_ID" ∷ codes "H_W_ID" ∷ codes "H_DATE" ∷ codes "H_AMOUNT" ∷ codes "H_DATA" ∷ []
column_names table.NewOrder = codes "NO_W_ID" ∷ codes "NO_D_ID" ∷ codes "NO_O_ID" ∷ []
column_names table.Order =
    codes "O_W_ID" ∷ codes "O_D_ID" ∷ codes "O_ID" ∷ codes "O_C_ID" ∷ codes "O_ENTRY_D" ∷ codes "O_CARRIER_ID"
    ∷ codes "O_OL_CNT" ∷ codes "O_ALL_LOCAL" ∷ []
column_names table.OrderLine =
    codes "OL_W_ID" ∷ codes "OL_D_ID" ∷ codes "OL_O_ID" ∷ codes "OL_NUMBER" ∷ codes "OL_I_ID" ∷ codes "OL_SUPPLY_W_ID"
    ∷ codes "OL_DELIVERY_D" ∷ codes "OL_QUANTITY" ∷ codes "OL_AMOUNT" ∷ codes "OL_DIST_INFO" ∷ []
column_names table.Item = codes "I_ID" ∷ codes "I_IM_ID" ∷ codes "I_NAME" ∷ codes "I_PRICE" ∷ codes "I_DATA" ∷ []
column_names table.Stock =
    codes "S_W_ID" ∷ codes "S_I_ID" ∷ codes "S_QUANTITY" ∷ codes "S_DIST_01" ∷ codes "S_DIST_02" ∷ codes "S_DIST_03"
    ∷ codes "S_DIST_04" ∷ codes "S_DIST_05" ∷ codes "S_DIST_06" ∷ codes "S_DIST_07" ∷ codes "S_DIST_08"
    ∷ codes "S_DIST_09" ∷ codes "S_DIST_10" ∷ codes "S_YTD" ∷ codes "S_ORDER_CNT" ∷ codes "S_REMOTE_CNT"
    ∷ codes "S_DATA" ∷ []

-- the column at that place, counted from 0
abbrev pub column_name : Table → ℕ → List ℕ
column_name t place = get_or (column_names t) place (codes "?")
