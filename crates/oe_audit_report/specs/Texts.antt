-- Figures, keys and strings as text.
use Rattle.std.specs.Prelude.{ℕ, suc, ◌+◌, ◌/◌, ◌%◌, ◌==◌, ◌||◌, Bool, true, false, ℤ, pos, negsuc}
use Rattle.std.specs.Prelude.{List, [], ◌∷◌, ◌++◌, if◌then◌else◌, nat_lt, decimal, codes}
use Rattle.std.specs.List.{flat_map}
use Rattle.oe_rows.specs.Credit.{money_text}

-- an amount of money with two decimals, or a number
abbrev pub size_text : (money : Bool) → ℕ → List ℕ
size_text true n = money_text n
size_text false n = decimal n

-- with a minus sign where it is negative
abbrev pub figure_text : (money : Bool) → ℤ → List ℕ
figure_text money (pos n) = size_text money n
figure_text money (negsuc n) = codes "-" ++ size_text money (suc n)

-- a number behind a byte
abbrev pub number_text : (before : ℕ) → ℕ → List ℕ
number_text before n = before ∷ decimal n

-- the texts of items, with a comma between two of them
abbrev pub comma_list : {X : Type 0} → (X → List ℕ) → List X → List ℕ
comma_list f [] = []
comma_list f (x ∷ xs) = f x ++ flat_map (λ y. codes "," ++ f y) xs

abbrev pub hex_digit : ℕ → ℕ
hex_digit n = if nat_lt n 10 then 48 + n else 87 + n

-- a byte of a JSON string (RFC 8259): control characters, quotes and backslashes are escaped
abbrev pub json_bytes : ℕ → List ℕ
json_bytes b =
    if nat_lt b 32 then codes "\\u00" ++ hex_digit (b / 16) ∷ hex_digit (b % 16) ∷ []
    else if b == 34 || b == 92 then 92 ∷ b ∷ []
    else b ∷ []

-- a JSON string
abbrev pub string_text : List ℕ → List ℕ
string_text bytes = codes "\"" ++ flat_map json_bytes bytes ++ codes "\""
