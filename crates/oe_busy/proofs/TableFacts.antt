-- One happening more, and the table.
use Rattle.std.proofs.Common.{◌≡◌, ℕ, List, ◌∷◌, ◌++◌, append_assoc, refl, ap, subst, ◌∙◌}
use Rattle.std.specs.Prelude.{None}
use Rattle.std.specs.List.{flat_map}
use Rattle.oe_busy.specs.declared.happenings.Happening.{Happening}
use Rattle.oe_busy.specs.declared.tables.Busyness.{Busyness}
use Rattle.oe_busy.specs.Happenings.{busy_count, count_in, counts_with, counts, longest, met_more, name_in_way}
use Rattle.oe_busy.specs.Happenings.{AreWaits}
use Rattle.oe_busy.specs.Firsts.{name_line, AreMostBusy}
use Rattle.oe_busy.specs.Tables.{kind_lines, wait_line, AreCounted, IsTable}
use Rattle.oe_busy.proofs.FirstFacts.{AreShown}

pub counted_more : (b b' : Busyness) (x : Happening) (hs : List Happening) → AreCounted b hs
    → b'.counts ≡ counts_with x b.counts → AreWaits b'.waits (x ∷ hs)
    → count_in b'.names ≡ met_more (name_in_way x) (count_in b.names) → AreCounted b' (x ∷ hs)
counted_more b b' x hs h counts_are waits_are names_are = record {
  counts_are = counts_are ∙ ap (counts_with x) h.counts_are;
  names_are = names_are ∙ ap (met_more (name_in_way x)) h.names_are;
  waits_are = waits_are;
}

pub tabled : (b : Busyness) (hs : List Happening) (old kinds names new : List ℕ) → AreCounted b hs
    → kinds ≡ old ++ kind_lines b.counts → AreShown (count_in b.names) 10 kinds names
    → new ≡ names ++ wait_line b.waits.longest
    → (text : List ℕ) × IsTable hs text × (new ≡ old ++ text)
tabled b hs old kinds names new h kinds_are (ns, first, names_are) new_is = (
  text,
  record { names = ns; are_first = subst (λ f. AreMostBusy f None 10 ns) h.names_are first; text_is = refl },
  new_is ∙ (λ i. names_are i ++ wait_line (h.waits_are.longest_is i))
      ∙ (λ i. (kinds_are i ++ flat_map (name_line (h.names_are i)) ns) ++ wait_line (longest hs))
      ∙ (λ i. ((old ++ kind_lines (h.counts_are i)) ++ shown) ++ wait_line (longest hs))
      ∙ (ap (λ z. z ++ wait_line (longest hs)) (append_assoc old (kind_lines (counts hs)) shown)
      ∙ append_assoc old (kind_lines (counts hs) ++ shown) (wait_line (longest hs))),
)
  where
    shown : List ℕ
    shown = flat_map (name_line (busy_count hs)) ns

    text : List ℕ
    text = kind_lines (counts hs) ++ shown ++ wait_line (longest hs)
