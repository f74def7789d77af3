-- Strings that are walked over are the records that are kept.
use Rattle.std.proofs.Common.{◌≡◌, ℕ, List, [], ◌∷◌, map, get_or, refl, sym, ap, ◌∙◌}
use Rattle.std.specs.List.{AllByRecursion}
use Rattle.oe_model.specs.Changes.{Record}
use Rattle.oe_extent.specs.Ring as ring
use Rattle.oe_layout.specs.Records.{record_of_own}
use Rattle.oe_layout.specs.Stored.{record_in_bytes, IsStoredRecord}
use Rattle.oe_layout.proofs.StoredFacts.{told_is}
use Rattle.oe_log.specs.Records.{befores}
use Rattle.oe_log.specs.Strings.{records_in, AreRecords}
use Rattle.oe_log.proofs.RecordFacts.{seen, at_slot, are_at}

pub all_stored : (ss : List (ring.Addressed)) → AreRecords ss → AllByRecursion IsStoredRecord (ring.strings_of ss)
all_stored [] h = tt
all_stored (s ∷ ss) h = (h.0, all_stored ss h.1)

all_told : (ss : List (ring.Addressed)) → AreRecords ss → map record_in_bytes (ring.strings_of ss)
    ≡ befores (records_in ss)
all_told [] h = refl
all_told (s ∷ ss) h =
    ap (λ (b : Record). b ∷ map record_in_bytes (ring.strings_of ss)) (told_is s.bytes h.0)
    ∙ ap (λ (bs : List Record). record_of_own h.0.before ∷ bs) (all_told ss h.1)
    ∙ sym (ap befores (seen s ss h.0))

-- those of one of several segments
pub stored_here : (xs : List (List (ring.Addressed))) (i : ℕ) → AllByRecursion AreRecords xs
    → AllByRecursion IsStoredRecord (ring.strings_of (get_or xs i []))
stored_here xs i h = all_stored (get_or xs i []) (are_at xs i h)

pub told_here : (xs : List (List (ring.Addressed))) (i : ℕ) → AllByRecursion AreRecords xs
    → map record_in_bytes (ring.strings_of (get_or xs i [])) ≡ befores (get_or (map records_in xs) i [])
told_here xs i h = all_told (get_or xs i []) (are_at xs i h) ∙ ap befores (sym (at_slot xs i))
