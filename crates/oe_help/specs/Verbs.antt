-- The verbs of a command line.
use Rattle.std.specs.Prelude.{ℕ, List, codes}
use Rattle.oe_help.specs.declared.Verb.{Verb}
use Rattle.oe_help.specs.declared.Verb.TheVariants as verb

abbrev pub verb_name : Verb → List ℕ
verb_name verb.Script = codes "script"
verb_name verb.Serial = codes "serial"
verb_name verb.Drive = codes "drive"
verb_name verb.Audit = codes "audit"
verb_name verb.Load = codes "load"
