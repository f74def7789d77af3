-- The line that tells what tables lack of a load.
use Rattle.std.specs.Prelude.{ℕ, List, ◌++◌, codes}
use Rattle.oe_model.specs.Population.{last_name}
use Rattle.oe_rows.specs.declared.keys.DistrictKey.{DistrictKey}
use Rattle.oe_rows.specs.declared.keys.Key.TheVariants as key
use Rattle.oe_texts.specs.Key.{key_text}
use Rattle.oe_from.specs.declared.scales.Gap.{Gap}
use Rattle.oe_from.specs.declared.scales.Gap.TheVariants as gap

-- <district>: no customer <last name>
abbrev pub name_text : DistrictKey → ℕ → List ℕ
name_text d n = key_text (key.District d) ++ codes ": no customer " ++ last_name n

-- no <row>, or that
abbrev pub gap_text : Gap → List ℕ
gap_text (gap.Row k) = codes "no " ++ key_text k
gap_text (gap.Name d n) = name_text d n

abbrev pub gap_line : Gap → List ℕ
gap_line g = codes "no load: " ++ gap_text g ++ codes "\n"
