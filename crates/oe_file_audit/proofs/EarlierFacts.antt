-- Whether a line of sources has a fault.
use Rattle.std.proofs.Common.{◌≡◌, ℕ, ◌+◌, ◌<◌, ◌≤◌, Bool, true, false, List, ◌∷◌, length, get_or, drop, sym, ap, ◌∙◌}
use Rattle.std.proofs.Common.{eqb, arith, refl}
use Rattle.std.proofs.lemmas.List.{at_drop_more, drop_all}
use Rattle.std.proofs.lemmas.Bool.{eqb-true, eqb-false, le-ltb, lt-ltb}
use Rattle.std.proofs.Common.{Option, Some, subst}
use Rattle.oe_fields.specs.declared.fields.Format.{Format}
use Rattle.oe_columns.specs.declared.constants.Wanted.TheVariants as wanted
use Rattle.oe_columns.specs.declared.prints.RowFact.{RowFact}
use Rattle.oe_sources.specs.Fault.{Told}
use Rattle.oe_file_audit.specs.declared.earlier.EarlierRead.{EarlierRead}
use Rattle.oe_file_audit.specs.declared.earlier.EarlierRead.TheVariants as read
use Rattle.oe_file_audit.specs.declared.reading.TableSource.{TableSource}
use Rattle.oe_file_audit.specs.Reading.{TablesSpell}
use Rattle.oe_file_audit.specs.Earlier.{has_fault, any_fault, EarlierBy, EarlierIsRead}

pub has_none : (t : Told) (is_empty : Bool) → is_empty ≡ eqb (length t.kept) 0 → is_empty ≡ true → has_fault t ≡ false
has_none t is_empty e empty =
    let none = eqb-true (length t.kept) 0 (sym e ∙ empty) in le-ltb 0 (length t.kept) (omega arith)

pub has_some : (t : Told) (is_empty : Bool) → is_empty ≡ eqb (length t.kept) 0 → is_empty ≡ false → has_fault t ≡ true
has_some t is_empty e full =
    let some = eqb-false (length t.kept) 0 (sym e ∙ full) in lt-ltb 0 (length t.kept) (omega arith)

one_more : (t : Told) (ts : List Told) → has_fault t ≡ false → any_fault (t ∷ ts) ≡ any_fault ts
one_more t ts e = rw e refl

here : (t : Told) (ts : List Told) → has_fault t ≡ true → any_fault (t ∷ ts) ≡ true
here t ts e = rw e refl

module _ (ts : List Told) (i : ℕ) (t : Told) (within : i < length ts) (is : t ≡ get_or ts i t) where
  front : any_fault (drop i ts) ≡ any_fault (t ∷ drop (i + 1) ts)
  front = at_drop_more any_fault ts i t within ∙ ap (λ q. any_fault (q ∷ drop (i + 1) ts)) (sym is)

  pub any_more : has_fault t ≡ false → any_fault (drop i ts) ≡ any_fault (drop (i + 1) ts)
  any_more e = front ∙ one_more t (drop (i + 1) ts) e

  pub any_here : has_fault t ≡ true → any_fault (drop i ts) ≡ true
  any_here e = front ∙ here t (drop (i + 1) ts) e

pub any_none : (ts : List Told) (i : ℕ) → length ts ≤ i → any_fault (drop i ts) ≡ false
any_none ts i all = ap any_fault (drop_all i ts all)

-- ---- earlier sources that were read

module _ {S : Type 0} (remaining : S → Option (List ℕ)) (format : Format) (sources : List (TableSource S))
    (rows : List RowFact) (told : List Told)
    (spell : TablesSpell remaining wanted.Prints format sources rows told) where
  read_by : (r : EarlierRead) → EarlierBy rows told r → EarlierIsRead remaining format (Some sources) r
  read_by (read.Sound e) by = (Some rows, told, spell, by.0, by.1)
  read_by (read.Faulty faults) by = (
    Some rows,
    subst (λ (t : List Told). TablesSpell remaining wanted.Prints format sources rows t) (sym by.1) spell,
    ap any_fault by.1 ∙ by.0,
  )

  pub earlier_read : (before : Option (List (TableSource S))) (r : EarlierRead) → before ≡ Some sources
      → EarlierBy rows told r → EarlierIsRead remaining format before r
  earlier_read before r is by =
      subst (λ (b : Option (List (TableSource S))). EarlierIsRead remaining format b r) (sym is) (read_by r by)
