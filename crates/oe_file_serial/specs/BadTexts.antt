-- What is told of lines that have no form.
use Rattle.std.specs.Prelude.{ℕ, ◌-◌, ◌==◌, List, [], ◌++◌, length, take, codes, decimal, if◌then◌else◌}
use Rattle.std.specs.List.{flat_map}
use Rattle.oe_reasons.specs.Texts.{reason_text}
use Rattle.oe_file_serial.specs.Files.{front_text}
use Rattle.oe_file_serial.specs.declared.lines.BadLines.{BadLines}
use Rattle.oe_file_serial.specs.declared.reasons.BadLine.{BadLine}
use Rattle.oe_file_serial.specs.declared.reasons.Why.{Why}
use Rattle.oe_file_serial.specs.declared.reasons.Why.TheVariants as why

-- words that are read have at most 1,024 bytes
abbrev pub why_text : Why → List ℕ
why_text why.Long = codes "it has more than 1024 bytes"
why_text why.NoReply = codes "no \" => \" between a request and its reply"
why_text (why.Of b words r) = reason_text (front_text b ++ take 1_024 words.now) r
why_text (why.NoRequest b words) = codes "neither a request nor a query"
why_text why.NoRing = codes "not of the form open EXTENTS or open EXTENTS LAYOUT"
why_text why.Unended = codes "no newline at the end"

-- line <number>: <why>
abbrev pub bad_line_text : BadLine → List ℕ
bad_line_text b = codes "line " ++ decimal b.number ++ codes ": " ++ why_text b.why ++ codes "\n"

-- <count> more, where there are more
abbrev pub more_text : ℕ → List ℕ
more_text n = if n == 0 then [] else decimal n ++ codes " more\n"

-- a line for each that is shown, and how many there are besides
abbrev pub bad_lines_text : BadLines → List ℕ
bad_lines_text shown = flat_map bad_line_text shown.first.items ++ more_text (shown.count - length shown.first.items)
