-- Which words of a command line ask for which task.
use Rattle.std.specs.Prelude.{◌≡◌, ◌≢◌, ℕ, ◌+◌, ◌≤◌, Bool, true, false, Option, None, Some, List, [], ◌∷◌, ◌++◌, ◌⊎◌}
use Rattle.std.specs.Prelude.{codes, decimal, slice_index, unwrap_or, if◌then◌else◌}
use Rattle.std.specs.Borrow.{Bor}
use Rattle.std.specs.Int.{IsInRange}
use Rattle.oe_numbers.specs.Words.{AreInRange, words_of, AreOfLoad, load_words_of, AreFollowing, following_words_of}
use Rattle.oe_numbers.specs.declared.forms.Form.{Form}
use Rattle.oe_numbers.specs.declared.forms.Form.TheVariants as form
use Rattle.oe_numbers.specs.declared.forms.Items.{Items}
use Rattle.oe_numbers.specs.declared.forms.Items.TheVariants as items
use Rattle.oe_numbers.specs.Kinds.{Names as NamesKinds, none_named}
use Rattle.oe_numbers.specs.declared.kinds.Kinds.{Kinds}
use Rattle.oe_rows.specs.declared.layouts.Layout.{Layout}
use Rattle.oe_rows.specs.declared.layouts.Layout.TheVariants.{WholeRows, ChangedColumns}
use Rattle.oe_command_line.specs.declared.options.AuditOptions.{AuditOptions}
use Rattle.oe_command_line.specs.declared.options.Flag.{Flag}
use Rattle.oe_command_line.specs.declared.options.Flag.TheVariants as flag
use Rattle.oe_command_line.specs.declared.options.LoadOptions.{LoadOptions}
use Rattle.oe_command_line.specs.declared.options.Mark.{Mark}
use Rattle.oe_command_line.specs.declared.options.Mark.TheVariants as mark
use Rattle.oe_command_line.specs.declared.options.Options.{Options}
use Rattle.oe_command_line.specs.declared.options.Separator.{Separator}
use Rattle.oe_command_line.specs.declared.options.Separator.TheVariants as separator
use Rattle.oe_command_line.specs.declared.Numbered.{Numbered}
use Rattle.oe_command_line.specs.declared.Task.{Task}
use Rattle.oe_command_line.specs.declared.Task.TheVariants as task

-- a name that is not taken for an option: it begins with no hyphen
abbrev pub IsPlain : List ℕ → Type 0
IsPlain name = slice_index name 0 ≢ 45

-- words name this file: alone, or behind `--`
abbrev pub Names : List (List ℕ) → List ℕ → Type 0
Names words file = ((words ≡ file ∷ []) × IsPlain file) ⊎ (words ≡ codes "--" ∷ file ∷ [])

-- the words behind a verb name this file
abbrev pub NamesFile : List (List ℕ) → List ℕ → Type 0
NamesFile (program ∷ verb ∷ rest) file = Names rest file
NamesFile words file = ⊥

-- the program's name, `script`, and no more for standard input, or a file
abbrev pub AsksScript : List (List ℕ) → Task → Type 0
AsksScript (program ∷ verb ∷ rest) task.Script = (verb ≡ codes "script") × (rest ≡ [])
AsksScript (program ∷ verb ∷ rest) (task.File file) = (verb ≡ codes "script") × Names rest file.now
AsksScript words task = ⊥

-- the program's name, `script`, `--explain`, and no more for standard input, or a file
abbrev pub AsksExplain : List (List ℕ) → Task → Type 0
AsksExplain (program ∷ verb ∷ mark ∷ rest) (task.Explain None) =
    (verb ≡ codes "script") × (mark ≡ codes "--explain") × (rest ≡ [])
AsksExplain (program ∷ verb ∷ mark ∷ rest) (task.Explain (Some file)) =
    (verb ≡ codes "script") × (mark ≡ codes "--explain") × Names rest file.now
AsksExplain words task = ⊥

-- the word that says that files are comma-separated values, if they are
abbrev pub csv_words : Separator → List (List ℕ)
csv_words separator.Commas = codes "--csv" ∷ []
csv_words separator.Tabs = []

-- the words that name a directory or a file behind a mark, if any, which is not taken for an option
abbrev pub directory_words : List ℕ → Option (Bor (List ℕ)) → List (List ℕ)
directory_words mark None = []
directory_words mark (Some directory) = mark ∷ directory.now ∷ []

abbrev pub IsDirectory : Option (Bor (List ℕ)) → Type 0
IsDirectory None = Unit {0}
IsDirectory (Some directory) = IsPlain directory.now

-- the words name the directory of tables, if any, and say whether its files are comma-separated values
abbrev pub AreTablesOptions : List (List ℕ) → Option (Bor (List ℕ)) → Separator → Type 0
AreTablesOptions words tables between =
    IsDirectory tables × (words ≡ directory_words (codes "--tables") tables ++ csv_words between)

-- the same behind the directory that a file of replies begins from, if any
abbrev pub AreSerialOptions : List (List ℕ) → Option (Bor (List ℕ)) → Option (Bor (List ℕ)) → Separator → Type 0
AreSerialOptions words from tables between =
    IsDirectory from × IsDirectory tables
    × (words ≡ directory_words (codes "--from") from ++ directory_words (codes "--tables") tables ++ csv_words between)

-- the program's name, `serial`, and a file with its options, or behind `--` without any
abbrev pub AsksSerial : List (List ℕ) → Task → Type 0
AsksSerial (program ∷ verb ∷ rest) (task.Serial file from tables between) =
    (verb ≡ codes "serial")
    × (((options : List (List ℕ)) × (rest ≡ file.now ∷ options) × IsPlain file.now
    × AreSerialOptions options from tables between)
    ⊎ ((rest ≡ codes "--" ∷ file.now ∷ []) × (from ≡ None) × (tables ≡ None) × (between ≡ separator.Tabs)))
AsksSerial words task = ⊥

-- the words name this file, or are none where there is none
abbrev pub NamesMaybe : List (List ℕ) → Option (Bor (List ℕ)) → Type 0
NamesMaybe words None = words ≡ []
NamesMaybe words (Some file) = Names words file.now

-- the number of a layout
abbrev pub layout_word : Layout → List ℕ
layout_word WholeRows = codes "1"
layout_word ChangedColumns = codes "2"

-- the words that say how many extents there are, and the layout, if any do
abbrev pub extents_words : Option ℕ → List (List ℕ)
extents_words None = []
extents_words (Some n) = codes "--extents" ∷ decimal n ∷ []

abbrev pub layout_words : Option Layout → List (List ℕ)
layout_words None = []
layout_words (Some l) = codes "--layout" ∷ layout_word l ∷ []

abbrev pub AreExtents : Option ℕ → Type 0
AreExtents None = Unit {0}
AreExtents (Some n) = IsInRange 2 4_096 n

-- A script that begins with the population of a directory, with an undo ring. The words behind these name a file, or
-- none for standard input; before it they say the layout, where it is not of whole rows, and before that how many
-- extents there are, where these are not 4,096.
abbrev pub AsksFile : List ℕ → ℕ → Layout → List (List ℕ) → Task → Type 0
AsksFile directory extents layout words (task.Opened d e l file) =
    (d.now ≡ directory) × (e ≡ extents) × (l ≡ layout) × NamesMaybe words file
AsksFile directory extents layout words task = ⊥

abbrev pub AsksLayout : List ℕ → ℕ → List (List ℕ) → Task → Type 0
AsksLayout directory extents words t =
    (l : Option Layout) × (rest : List (List ℕ)) × (words ≡ layout_words l ++ rest)
    × AsksFile directory extents (unwrap_or l WholeRows) rest t

abbrev pub AsksExtents : List ℕ → List (List ℕ) → Task → Type 0
AsksExtents directory words t =
    (e : Option ℕ) × (rest : List (List ℕ)) × AreExtents e × (words ≡ extents_words e ++ rest)
    × AsksLayout directory (unwrap_or e 4_096) rest t

-- the program's name, `script`, and `--from` with a directory that is not taken for an option
abbrev pub AsksOpened : List (List ℕ) → Task → Type 0
AsksOpened (program ∷ verb ∷ rest) t =
    (verb ≡ codes "script")
    × ((directory : List ℕ) × (options : List (List ℕ)) × IsPlain directory
    × (rest ≡ codes "--from" ∷ directory ∷ options) × AsksExtents directory options t)
AsksOpened words t = ⊥

-- the word that asks for a table of locks that were in the way, if one is asked for
abbrev pub busy_words : Bool → List (List ℕ)
busy_words true = codes "--busy" ∷ []
busy_words false = []

-- the words name the file of commits, if any, and say whether the table is asked for
abbrev pub AreDriveOptions : List (List ℕ) → Option (Bor (List ℕ)) → Bool → Type 0
AreDriveOptions words commits is_busy =
    IsDirectory commits × (words ≡ directory_words (codes "--commits") commits ++ busy_words is_busy)

-- the program's name, `drive`, its seven numbers in order, each in its range, and the options
abbrev pub AsksDrive : List (List ℕ) → Task → Type 0
AsksDrive (program ∷ verb ∷ rest) (task.Drive d commits is_busy) = (verb ≡ codes "drive") × AreInRange d
    × ((options : List (List ℕ)) × (rest ≡ words_of d ++ options)
    × AreDriveOptions options commits is_busy)
AsksDrive words task = ⊥

-- no option
abbrev pub no_options : Options
no_options = record {
  first = None;
  initial = None;
  kinds = None;
  is_csv = false;
  is_json = false;
  is_flat = false;
  is_mix = false;
  is_busy = false;
}

-- the name of an option that is a word alone
abbrev pub flag_word : Flag → List ℕ
flag_word flag.Csv = codes "--csv"
flag_word flag.Json = codes "--json"
flag_word flag.Flat = codes "--flat"
flag_word flag.Mix = codes "--mix"
flag_word flag.Busy = codes "--busy"

-- whether it was said
abbrev pub has_flag : Flag → Options → Bool
has_flag flag.Csv o = o.is_csv
has_flag flag.Json o = o.is_json
has_flag flag.Flat o = o.is_flat
has_flag flag.Mix o = o.is_mix
has_flag flag.Busy o = o.is_busy

abbrev pub with_flag : Flag → Options → Options
with_flag flag.Csv o = record o { is_csv = true }
with_flag flag.Json o = record o { is_json = true }
with_flag flag.Flat o = record o { is_flat = true }
with_flag flag.Mix o = record o { is_mix = true }
with_flag flag.Busy o = record o { is_busy = true }

-- an option that is a word alone is added, which was not said yet
abbrev pub AddsFlag : Options → List ℕ → Options → Type 0
AddsFlag o word p = (f : Flag) × (word ≡ flag_word f) × (has_flag f o ≡ false) × (p ≡ with_flag f o)

-- the name of an option with a word behind it
abbrev pub mark_word : Mark → List ℕ
mark_word mark.First = codes "--first"
mark_word mark.Initial = codes "--initial"
mark_word mark.Kinds = codes "--kinds"

-- it is added with that word, and was not said yet
abbrev pub AddsWord : Mark → Options → List ℕ → Options → Type 0
AddsWord mark.First o word p =
    (n : ℕ) × IsInRange 1 4_294_967_295 n × (word ≡ decimal n) × (o.first ≡ None) × (p ≡ record o { first = Some n })
AddsWord mark.Initial o word p =
    (n : ℕ) × IsInRange 0 4_294_967_295 n × (word ≡ decimal n) × (o.initial ≡ None)
    × (p ≡ record o { initial = Some n })
AddsWord mark.Kinds o word p =
    (k : Kinds) × NamesKinds word k × (o.kinds ≡ None) × (p ≡ record o { kinds = Some k })

abbrev pub Adds : Options → List ℕ → List ℕ → Options → Type 0
Adds o name word p = (m : Mark) × (name ≡ mark_word m) × AddsWord m o word p

-- the words say options besides those so far, in any order, each at most once
abbrev pub Says : Options → List (List ℕ) → Options → Type 0
Says o [] p = p ≡ o
Says o (mark ∷ []) p = AddsFlag o mark p
Says o (mark ∷ word ∷ rest) p =
    ((q : Options) × AddsFlag o mark q × Says q (word ∷ rest) p)
    ⊎ ((q : Options) × Adds o mark word q × Says q rest p)

-- files are comma-separated values where `--csv` is said
abbrev pub separator_of : Bool → Separator
separator_of true = separator.Commas
separator_of false = separator.Tabs

-- the options of an audit, which has no `--kinds`, `--flat`, `--mix` or `--busy`
abbrev pub AreForAudit : Options → AuditOptions → Type 0
AreForAudit o a =
    (o.kinds ≡ None) × (o.is_flat ≡ false) × (o.is_mix ≡ false) × (o.is_busy ≡ false)
    × (a ≡ record { initial = o.initial; first = o.first; separator = separator_of o.is_csv; is_json = o.is_json })

-- the words say the options of an audit
abbrev pub AreAudited : List (List ℕ) → AuditOptions → Type 0
AreAudited words a = (o : Options) × Says no_options words o × AreForAudit o a

-- behind an audit's source: the directory of the files as they were before, if any, and the options
abbrev pub AreBehindSource : List (List ℕ) → Option (Bor (List ℕ)) → AuditOptions → Type 0
AreBehindSource words before a =
    (options : List (List ℕ)) × IsDirectory before
    × (words ≡ directory_words (codes "--before") before ++ options) × AreAudited options a

-- the program's name, `audit`, and a source that is not taken for an option
abbrev pub AsksAudit : List (List ℕ) → Task → Type 0
AsksAudit (program ∷ verb ∷ name ∷ rest) (task.Audit source before options) =
    (verb ≡ codes "audit") × (name ≡ source.now) × (IsPlain name ⊎ (name ≡ codes "-"))
    × AreBehindSource rest before options
AsksAudit words task = ⊥

-- `--mix` has unused items asked for as they are drawn; no kind is named beside it
abbrev pub IsOfItems : Options → Items → Type 0
IsOfItems o items.Used = o.is_mix ≡ false
IsOfItems o items.AsDrawn = (o.is_mix ≡ true) × (o.kinds ≡ None)

-- What is written: a script, unless `--flat` or `--busy` is said; not both are.
abbrev pub IsOfForm : Options → Form → Type 0
IsOfForm o form.Busy = (o.is_busy ≡ true) × (o.is_flat ≡ false)
IsOfForm o form.Flat = (o.is_busy ≡ false) × (o.is_flat ≡ true)
IsOfForm o form.Script = (o.is_busy ≡ false) × (o.is_flat ≡ false)

-- The options of a load, which has no option of an audit alone. Its first request is 1, where none is said; its last is
-- at most 1,000,000,000.
abbrev pub AreForLoad : Options → ℕ → LoadOptions → Type 0
AreForLoad o requests l =
    (o.initial ≡ None) × (o.is_csv ≡ false) × (o.is_json ≡ false)
    × (l.first ≡ unwrap_or o.first 1) × (l.first + requests ≤ 1_000_000_001)
    × (l.kinds ≡ unwrap_or o.kinds none_named) × IsOfItems o l.items × IsOfForm o l.form

-- the words say the options of a load of that number of requests a terminal
abbrev pub AreLoaded : List (List ℕ) → ℕ → LoadOptions → Type 0
AreLoaded words requests l = (o : Options) × Says no_options words o × AreForLoad o requests l

-- the program's name, `load`, its seven numbers in order, each in its range, and the options
abbrev pub AsksLoad : List (List ℕ) → Task → Type 0
AsksLoad (program ∷ verb ∷ rest) (task.Load d load) = (verb ≡ codes "load") × AreOfLoad d
    × ((options : List (List ℕ)) × (rest ≡ load_words_of d ++ options)
    × AreLoaded options d.requests load)
AsksLoad words task = ⊥

-- four numbers in order, each in its range, and the options
abbrev pub AreNumbered : List (List ℕ) → Numbered → Type 0
AreNumbered words n = AreFollowing n.numbers
    × ((options : List (List ℕ)) × (words ≡ following_words_of n.numbers ++ options)
    × AreLoaded options n.numbers.requests n.options)

-- the same where `--from` and a directory that is not taken for an option stand in the place of the scale
abbrev pub AsksFollowing : List (List ℕ) → Task → Type 0
AsksFollowing (program ∷ verb ∷ rest) (task.Following directory d load) =
    (verb ≡ codes "load") × IsPlain directory.now
    × ((numbers : List (List ℕ)) × (rest ≡ codes "--from" ∷ directory.now ∷ numbers)
    × AreNumbered numbers (record { numbers = d; options = load }))
AsksFollowing words task = ⊥

abbrev pub Asks : List (List ℕ) → Task → Type 0
Asks words task = AsksScript words task ⊎ AsksSerial words task ⊎ AsksDrive words task ⊎ AsksAudit words task
    ⊎ AsksLoad words task ⊎ AsksFollowing words task ⊎ AsksExplain words task ⊎ AsksOpened words task
