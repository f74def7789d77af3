-- The texts of refusals.
use Rattle.std.specs.Prelude.{ℕ, List, ◌++◌, decimal, codes}
use Rattle.oe_requests.specs.Refusal.{refusal_number, column_name}
use Rattle.oe_requests.specs.declared.refusals.Refusal.{Refusal}
use Rattle.oe_requests.specs.declared.refusals.Refusal.TheVariants as refusal
use Rattle.oe_texts.specs.Key.{key_text, name_text}

-- a refusal's name, and what it tells
abbrev pub refusal_text : Refusal → List ℕ
refusal_text (refusal.NoSuchRow key) = codes "NoSuchRow " ++ key_text key
refusal_text (refusal.RowExists key) = codes "RowExists " ++ key_text key
refusal_text (refusal.Overflow column) = codes "Overflow " ++ column_name column
refusal_text (refusal.Reference key) = codes "Reference " ++ key_text key
refusal_text refusal.KeyColumn = codes "KeyColumn"
refusal_text (refusal.Busy name terminal) = codes "Busy " ++ name_text name ++ codes " " ++ decimal terminal
refusal_text refusal.UndoFull = codes "UndoFull"
refusal_text refusal.NoMemory = codes "NoMemory"
refusal_text refusal.NotOpen = codes "NotOpen"
refusal_text refusal.AlreadyOpen = codes "AlreadyOpen"
refusal_text refusal.InvalidItem = codes "Item number is not valid"
refusal_text refusal.NoCustomer = codes "NoCustomer"
refusal_text (refusal.TooOld horizon) = codes "TooOld " ++ decimal horizon
refusal_text (refusal.Future newest) = codes "Future " ++ decimal newest
refusal_text (refusal.NotQuiet terminals) = codes "NotQuiet " ++ decimal terminals
refusal_text (refusal.NotPinned word) = codes "NotPinned " ++ decimal word

-- error <number> <text>
abbrev pub error_text : Refusal → List ℕ
error_text r = codes "error " ++ decimal (refusal_number r) ++ codes " " ++ refusal_text r
