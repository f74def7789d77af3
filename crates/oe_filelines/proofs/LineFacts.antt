-- A source's lines go on by one byte or one line.
use Rattle.std.proofs.Common.{◌≡◌, ◌≢◌, ℕ, ◌+◌, ◌<◌, ◌≤◌, List, [], ◌∷◌, ◌++◌, length, take, drop}
use Rattle.std.proofs.Common.{get_or, Option, Some, None, sym, ap, subst, ◌∙◌, refl, append_assoc, arith}
use Rattle.std.specs.Prelude.{All, ⊤, Ok}
use Rattle.std.specs.Io.KnownBytes.{ReadConsumes}
use Rattle.std.specs.List.{flat_map}
use Rattle.std.proofs.lemmas.List.{append-nil, drop_more, get_or-take, get_or_default, length-take-le, take-append-drop}
use Rattle.std.proofs.lemmas.List.Elements.{All-push, All-append}
use Rattle.std.proofs.lemmas.Grind.{flat_map-append}
use Rattle.std.proofs.lemmas.Bool.{eqb-true, eq-eqb}
use Rattle.memchr.specs.Find.{IsFirstByte, Nowhere, Passes, is_byte}
use Rattle.oe_filelines.specs.Lines.{IsInLine, with_line_end, with_last, AreAll, Held, Holds, Standing, Finished}

-- ---- what is held

-- a line that was begun has a byte
pub not_begun : (longest : ℕ) (held : Held) → Holds longest held [] → (held ≡ Some [] → ⊥) → ⊥
not_begun longest (Some bytes) h begun = begun (ap Some h.0)
not_begun longest None h begun = omega (arith, h)

-- ---- where a line ends in a piece

front_in_line : (p : List ℕ) (n : ℕ) → n ≤ length p → Nowhere (Passes (is_byte 10) p) 0 n → IsInLine (take n p)
front_in_line p n fits none = λ k d h e.
    let len : length (take n p) ≡ n = length-take-le n p fits in
    let below : k < n = omega (arith, h, len) in
    let inside : k < length p = omega (arith, below, fits) in
    none k (omega arith) below
    (eq-eqb (get_or p k 0) 10 (get_or_default p k 0 d inside ∙ sym (get_or-take n p k d below) ∙ e))

pub no_end : (p : List ℕ) → IsFirstByte (is_byte 10) p None → IsInLine p
no_end p none = λ k d h e. none k (omega arith) h (eq-eqb (get_or p k 0) 10 (get_or_default p k 0 d h ∙ e))

pub before_end : (p : List ℕ) (n : ℕ) → IsFirstByte (is_byte 10) p (Some n) → IsInLine (take n p)
before_end p n first = front_in_line p n (omega (arith, first.0.high)) first.0.before

pub with_end : (p : List ℕ) (n : ℕ) → IsFirstByte (is_byte 10) p (Some n) → p ≡ take n p ++ 10 ∷ drop (n + 1) p
with_end p n first =
    sym (take-append-drop n p) ∙ ap (λ z. take n p ++ z) (drop_more p n 0 first.0.high)
    ∙ ap (λ b. take n p ++ b ∷ drop (n + 1) p) (eqb-true (get_or p n 0) 10 first.1)

-- ---- the input so far

pub all_none : {A : Type 0} (P : A → Type 0) → All P []
all_none P k d h = absurd (omega (arith, h))

module _ {T : Type 0} (longest : ℕ) (taken : List (List ℕ) → T → Type 0) where
  pub standing_start : (held : Held) (now : T) → held ≡ Some [] → taken [] now → Standing longest taken [] held now
  standing_start held now none begins = record {
    lines = [];
    line = [];
    whole = refl;
    each = all_none IsInLine;
    tail = all_none (λ b. b ≢ 10);
    stands = begins;
    holds = subst (λ h. Holds longest h []) (sym none) (refl, omega arith);
  }

  pub standing_bytes : (input more : List ℕ) (held held' : Held) (now : T) → IsInLine more
      → ((line : List ℕ) → Holds longest held line → Holds longest held' (line ++ more))
      → Standing longest taken input held now → Standing longest taken (input ++ more) held' now
  standing_bytes input more held held' now free keeps s = record {
    lines = s.lines;
    line = s.line ++ more;
    whole = ap (λ z. z ++ more) s.whole ∙ append_assoc (flat_map with_line_end s.lines) s.line more;
    each = s.each;
    tail = All-append (λ b. b ≢ 10) s.line more s.tail free;
    stands = s.stands;
    holds = keeps s.line s.holds;
  }

  pub standing_line : (input last : List ℕ) (held held' : Held) (now now' : T) → IsInLine last
      → ((line : List ℕ) → Holds longest held line → (ls : List (List ℕ)) → taken ls now
      → taken (ls ++ (line ++ last) ∷ []) now')
      → held' ≡ Some []
      → Standing longest taken input held now
      → Standing longest taken ((input ++ last) ++ 10 ∷ []) held' now'
  standing_line input last held held' now now' free takes e s =
      let line = s.line ++ last in
      record {
        lines = s.lines ++ line ∷ [];
        line = [];
        whole = ap (λ z. (z ++ last) ++ 10 ∷ []) s.whole
            ∙ ap (λ z. z ++ 10 ∷ []) (append_assoc (flat_map with_line_end s.lines) s.line last)
            ∙ append_assoc (flat_map with_line_end s.lines) line (10 ∷ [])
            ∙ ap (λ z. flat_map with_line_end s.lines ++ z) (sym (append-nil (line ++ 10 ∷ [])))
            ∙ sym (flat_map-append with_line_end s.lines (line ∷ [])) ∙ sym (append-nil _);
        each = All-push IsInLine s.lines line s.each (All-append (λ b. b ≢ 10) s.line last s.tail free);
        tail = all_none (λ b. b ≢ 10);
        stands = takes s.line s.holds s.lines s.stands;
        holds = subst (λ h. Holds longest h []) (sym e) (refl, omega arith);
      }

  -- the end of the input

  pub finished_none : (input : List ℕ) (held : Held) (now : T) → held ≡ Some []
      → Standing longest taken input held now → Finished taken input now
  finished_none input held now e s =
      let empty : s.line ≡ [] = sym (subst (λ h. Holds longest h s.line) e s.holds).0 in (
        s.lines,
        record {
          whole = s.lines;
          last = s.line;
          bytes_are = s.whole;
          each = s.each;
          tail = s.tail;
          lines_are = ap (with_last s.lines) (sym empty);
        },
        s.stands,
      )

  pub finished_line : (input : List ℕ) (held : Held) (now now' : T) → (held ≡ Some [] → ⊥)
      → ((line : List ℕ) → Holds longest held line → (ls : List (List ℕ)) → taken ls now
      → taken (ls ++ line ∷ []) now')
      → Standing longest taken input held now → Finished taken input now'
  finished_line input held now now' begun takes s = by_line s.line refl
    where
      by_line : (line : List ℕ) → s.line ≡ line → Finished taken input now'
      by_line [] e = absurd (not_begun longest held (subst (Holds longest held) e s.holds) begun)
      by_line (b ∷ line) e = (
        s.lines ++ s.line ∷ [],
        record {
          whole = s.lines;
          last = s.line;
          bytes_are = s.whole;
          each = s.each;
          tail = s.tail;
          lines_are = ap (λ z. s.lines ++ z ∷ []) e ∙ sym (ap (with_last s.lines) e);
        },
        takes s.line s.holds s.lines s.stands,
      )

-- ---- what calls of the reader gave

abbrev pub ReadSoFar : Option (List ℕ) → Option (List ℕ) → List ℕ → Type 0
ReadSoFar None now read = ⊤
ReadSoFar (Some a) None read = ⊥
ReadSoFar (Some a) (Some b) read = a ≡ read ++ b

pub read_none : (s : Option (List ℕ)) → ReadSoFar s s []
read_none None = tt
read_none (Some a) = refl

pub read_more : (E : Type 0) (s now new : Option (List ℕ)) (read buf : List ℕ) (n : ℕ) → ReadSoFar s now read
    → ReadConsumes {E = E} now new (Ok n) buf → ReadSoFar s new (read ++ take n buf)
read_more E None now new read buf n h g = tt
read_more E (Some a) None new read buf n h g = absurd h
read_more E (Some a) (Some b) None read buf n h g = absurd g.0
read_more E (Some a) (Some b) (Some d) read buf n h g =
    h ∙ ap (λ z. read ++ z) g.0 ∙ sym (append_assoc read (take n buf) d)

pub read_all : (E : Type 0) (s now new : Option (List ℕ)) (read buf : List ℕ) → ReadSoFar s now read
    → ReadConsumes {E = E} now new (Ok 0) buf → 0 < length buf → AreAll s new read
read_all E None now new read buf h g room = tt
read_all E (Some a) None new read buf h g room = absurd h
read_all E (Some a) (Some b) None read buf h g room = absurd g.0
read_all E (Some a) (Some b) (Some d) read buf h g room =
    let end : d ≡ [] = g.1 refl room in
    (h ∙ ap (λ z. read ++ z) (g.0 ∙ end) ∙ append-nil read, end)
