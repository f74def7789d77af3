-- The line that tells what is lacking.
use Rattle.std.specs.Prelude.{ℕ, List, ◌++◌, codes, decimal}
use Rattle.std.specs.List.{join_with_byte}
use Rattle.oe_requests.specs.Condition.{condition_number}
use Rattle.oe_rows.specs.declared.keys.Key.TheVariants as key
use Rattle.oe_texts.specs.Key.{key_text, key_texts}
use Rattle.oe_origin.specs.declared.lacks.Lack.{Lack}
use Rattle.oe_origin.specs.declared.lacks.Lack.TheVariants as lack

-- <row>: no <row>, condition <number> fails <key columns>, or no stock <key columns>
abbrev pub lack_text : Lack → List ℕ
lack_text (lack.Row a) = key_text a.key ++ codes ": no " ++ key_text a.missing
lack_text (lack.Condition c k) =
    codes "condition " ++ decimal (condition_number c) ++ codes " fails " ++ join_with_byte 32 (key_texts k)
lack_text (lack.Stock k) = codes "no " ++ key_text (key.Stock k)

abbrev pub lack_line : Lack → List ℕ
lack_line l = codes "no population: " ++ lack_text l ++ codes "\n"
