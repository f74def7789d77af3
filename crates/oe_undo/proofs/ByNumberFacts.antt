-- Places that a function gives by their numbers.
use Rattle.std.proofs.Common.{◌≡◌, sym, ◌∙◌, ap, ℕ, ◌-◌, ◌<◌, ◌≤◌, List, length, set, map, get_or}
use Rattle.std.proofs.Common.{replicate, inl, inr, arith, Option, Some, None}
use Rattle.std.specs.Prelude.{slice_get}
use Rattle.std.specs.List.{range_with_len}
use Rattle.std.proofs.lemmas.Bool.{cases_lt, cases_eq}
use Rattle.std.proofs.lemmas.List.{length-set, get_or-set_same, get_or-set_other, get_or-replicate}
use Rattle.std.proofs.lemmas.List.{get_or_append_left, get_or-append_right}
use Rattle.std.proofs.lemmas.List.FromFn.{length-map-range_with_len, get_or-map-range_with_len, fill_by_all}
use Rattle.std.proofs.lemmas.Option.{slice_get-get_or, slice_get_past}
use Rattle.oe_undo.specs.Shelf.{spread, content_in}
use Rattle.oe_undo.proofs.SpreadFacts.{length-spread}

module _ {X : Type 0} where
  abbrev by_number : (ℕ → Option X) → ℕ → List (Option X)
  by_number f n = map f (range_with_len 0 n)

  pub length-by_number : (f : ℕ → Option X) (n : ℕ) → length (by_number f n) ≡ n
  length-by_number f n = length-map-range_with_len f 0 n

  pub by_number_at : (f : ℕ → Option X) (n i : ℕ) → i < n → slice_get (by_number f n) i ≡ Some (f i)
  by_number_at f n i h =
      let long = length-by_number f n in
      let there : i < length (by_number f n) = omega (arith, long, h) in
      slice_get-get_or (by_number f n) i None there
      ∙ ap (λ x. Some x) (get_or-map-range_with_len f 0 n i i None h (omega arith))

  -- what is in one, where all from their number on are empty
  pub by_number_in : (f : ℕ → Option X) (n i : ℕ) → ((k : ℕ) → n ≤ k → f k ≡ None)
      → f i ≡ content_in (slice_get (by_number f n) i)
  by_number_in f n i bare =
      elim (cases_lt i n) [
        | inl there ↦ sym (ap (λ p. content_in p) (by_number_at f n i there))
        | inr past ↦
            let long = length-by_number f n in
            let beyond : length (by_number f n) ≤ i = omega (arith, long, past) in
            bare i past ∙ sym (ap (λ p. content_in p) (slice_get_past (by_number f n) i beyond))
      ]

  -- one is set
  pub by_number_set : (f g : ℕ → Option X) (n i : ℕ) (w : Option X) → i < n → g i ≡ w
      → ((k : ℕ) → (k ≡ i → ⊥) → g k ≡ f k) → by_number g n ≡ set (by_number f n) i w
  by_number_set f g n i w h here others =
      sym (fill_by_all g (set (by_number f n) i w) n None (length-set (by_number f n) i w ∙ length-by_number f n) each)
    where
      each : (k : ℕ) → k < n → get_or (set (by_number f n) i w) k None ≡ g k
      each k below =
          elim (cases_eq k i) [
            | inl same ↦
                let long = length-by_number f n in
                let there : i < length (by_number f n) = omega (arith, long, h) in
                ap (λ j. get_or (set (by_number f n) i w) j None) same
                ∙ get_or-set_same (by_number f n) i w None there ∙ sym (ap g same ∙ here)
            | inr apart ↦
                get_or-set_other (by_number f n) i k w None apart
                ∙ get_or-map-range_with_len f 0 n k k None below (omega arith) ∙ sym (others k apart)
          ]

  -- there are more, and those are empty
  pub by_number_more : (f g : ℕ → Option X) (n m : ℕ) → n ≤ m → ((k : ℕ) → g k ≡ f k)
      → ((k : ℕ) → n ≤ k → f k ≡ None) → by_number g m ≡ spread m (by_number f n)
  by_number_more f g n m up same bare =
      let long = length-by_number f n in
      let fewer : length (by_number f n) ≤ m = omega (arith, long, up) in
      sym (fill_by_all g (spread m (by_number f n)) m None (length-spread m (by_number f n) fewer) each)
    where
      each : (k : ℕ) → k < m → get_or (spread m (by_number f n)) k None ≡ g k
      each k below =
          let long = length-by_number f n in
          let fill : List (Option X) = replicate (m - length (by_number f n)) None in
          elim (cases_lt k n) [
            | inl there ↦
                let inside : k < length (by_number f n) = omega (arith, long, there) in
                get_or_append_left (by_number f n) fill None k inside
                ∙ get_or-map-range_with_len f 0 n k k None there (omega arith) ∙ sym (same k)
            | inr past ↦
                let left : k - n < m - length (by_number f n) = omega (arith, long, past, below) in
                get_or-append_right (by_number f n) fill n k None long past
                ∙ get_or-replicate (m - length (by_number f n)) (k - n) None None left ∙ sym (same k ∙ bare k past)
          ]
