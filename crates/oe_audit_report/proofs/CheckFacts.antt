-- The checks that fail, from the front of their list.
use Rattle.std.proofs.Common.{◌≡◌, ℕ, ◌+◌, ◌<◌, ◌≤◌, Bool, true, false, cond, List, [], ◌∷◌, ◌++◌, length, get_or}
use Rattle.std.proofs.Common.{drop, refl, sym, ap, ◌∙◌, append_assoc, eqb, vec_len, arith}
use Rattle.std.proofs.lemmas.List.{at_drop_more, append-nil, drop_more, drop_all}
use Rattle.std.proofs.lemmas.Bool.{eqb-true, eqb-false, le-ltb, lt-ltb}
use Rattle.oe_books.specs.declared.findings.CheckFound.{CheckFound}
use Rattle.oe_books.specs.declared.findings.PartFound.{PartFound}
use Rattle.oe_audit_report.specs.Labels.{name_of}
use Rattle.oe_audit_report.specs.Report.{finds, any_finds, fails, failing, before_name, names_text}

-- a part whose list is empty finds nothing
pub finds_none : (p : PartFound) (is_empty : Bool) → is_empty ≡ eqb (vec_len p.found) 0 → is_empty ≡ true
    → finds p ≡ false
finds_none p is_empty e t =
    let none = eqb-true (vec_len p.found) 0 (sym e ∙ t) in
    let long = p.found.ok.0 in
    le-ltb 0 (length p.found.items) (omega arith)

pub finds_some : (p : PartFound) (is_empty : Bool) → is_empty ≡ eqb (vec_len p.found) 0 → is_empty ≡ false
    → finds p ≡ true
finds_some p is_empty e t =
    let some = eqb-false (vec_len p.found) 0 (sym e ∙ t) in
    let long = p.found.ok.0 in
    lt-ltb 0 (length p.found.items) (omega arith)

one_more : (p : PartFound) (ps : List PartFound) → finds p ≡ false → any_finds (p ∷ ps) ≡ any_finds ps
one_more p ps e = rw e refl

here : (p : PartFound) (ps : List PartFound) → finds p ≡ true → any_finds (p ∷ ps) ≡ true
here p ps e = rw e refl

module _ (ps : List PartFound) (i : ℕ) (p : PartFound) (within : i < length ps) (is : p ≡ get_or ps i p) where
  front : any_finds (drop i ps) ≡ any_finds (p ∷ drop (i + 1) ps)
  front = at_drop_more any_finds ps i p within ∙ ap (λ q. any_finds (q ∷ drop (i + 1) ps)) (sym is)

  pub any_more : finds p ≡ false → any_finds (drop i ps) ≡ any_finds (drop (i + 1) ps)
  any_more e = front ∙ one_more p (drop (i + 1) ps) e

  pub any_here : finds p ≡ true → any_finds (drop i ps) ≡ true
  any_here e = front ∙ here p (drop (i + 1) ps) e

pub any_none : (ps : List PartFound) (i : ℕ) → length ps ≤ i → any_finds (drop i ps) ≡ false
any_none ps i all = ap any_finds (drop_all i ps all)

-- whether the next name is the first
abbrev pub next_first : Bool → Bool → Bool
next_first failed first = cond failed false first

abbrev pub name_if : Bool → Bool → CheckFound → List ℕ
name_if failed first check = cond failed (before_name first ++ name_of check.check) []

names_step : (failed first : Bool) (c : CheckFound) (cs : List CheckFound) → fails c ≡ failed
    → name_if failed first c ++ names_text (next_first failed first) (failing cs) ≡ names_text first (failing (c ∷ cs))
names_step true first c cs e = rw e refl
names_step false first c cs e = rw e refl

module _ (xs : List CheckFound) (i : ℕ) (gone : List ℕ) (first : Bool) (total : List ℕ)
    (stands : gone ++ names_text first (failing (drop i xs)) ≡ total) where
  -- the name of one check more
  pub names_more : (c : CheckFound) → c ≡ get_or xs i c → i < length xs
      → (gone ++ name_if (fails c) first c) ++ names_text (next_first (fails c) first) (failing (drop (i + 1) xs))
      ≡ total
  names_more c is within =
      append_assoc gone (name_if (fails c) first c) _
      ∙ ap (λ t. gone ++ t) (names_step (fails c) first c (drop (i + 1) xs) refl)
      ∙ ap (λ d. gone ++ names_text first (failing (d ∷ drop (i + 1) xs))) is
      ∙ ap (λ cs. gone ++ names_text first (failing cs)) (sym (drop_more xs i c within)) ∙ stands

  pub names_all : length xs ≤ i → gone ≡ total
  names_all all =
      sym (append-nil gone) ∙ ap (λ cs. gone ++ names_text first (failing cs)) (sym (drop_all i xs all)) ∙ stands
