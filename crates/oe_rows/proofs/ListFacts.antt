-- Lemmas on lists.
use Rattle.std.proofs.Common.{◌≡◌, ℕ, List, [], ◌∷◌, length, get_or, arith, refl, sym, ap, cond, None, Some, Option}
use Rattle.std.specs.List.{All}
use Rattle.std.proofs.lemmas.List.Elements.{All-from_recursion}
use Rattle.std.specs.Cmp.Lexicographic.{pointwise, pointwise_decides, bytes_decides}
use Rattle.std.specs.Prelude.{nat_eq, true}
use Rattle.std.specs.Option.{unwrap_or}
use Rattle.oe_rows.specs.Before.{text_before, texts_before, with_texts}

-- a list of ten is what stands at its indices
pub ten_items : {A : Type 0} (xs : List A) {a b c d e f g h i j : A} (a' b' c' d' e' f' g' h' i' j' : A)
    → length xs ≡ 10
    → a ≡ get_or xs 0 a' → b ≡ get_or xs 1 b' → c ≡ get_or xs 2 c' → d ≡ get_or xs 3 d' → e ≡ get_or xs 4 e'
    → f ≡ get_or xs 5 f' → g ≡ get_or xs 6 g' → h ≡ get_or xs 7 h' → i ≡ get_or xs 8 i' → j ≡ get_or xs 9 j'
    → a ∷ b ∷ c ∷ d ∷ e ∷ f ∷ g ∷ h ∷ i ∷ j ∷ [] ≡ xs
ten_items (p ∷ q ∷ r ∷ s ∷ t ∷ u ∷ v ∷ w ∷ x ∷ y ∷ []) a' b' c' d' e' f' g' h' i' j' len e0 e1 e2 e3 e4 e5 e6 e7 e8 e9 =
    cc
ten_items _ a' b' c' d' e' f' g' h' i' j' len e0 e1 e2 e3 e4 e5 e6 e7 e8 e9 = absurd (omega arith)

-- what holds at each of ten indices holds of all
pub ten_all : {A : Type 0} (P : A → Type 0) (xs : List A) (a' b' c' d' e' f' g' h' i' j' : A) → length xs ≡ 10
    → P (get_or xs 0 a') → P (get_or xs 1 b') → P (get_or xs 2 c') → P (get_or xs 3 d') → P (get_or xs 4 e')
    → P (get_or xs 5 f') → P (get_or xs 6 g') → P (get_or xs 7 h') → P (get_or xs 8 i') → P (get_or xs 9 j')
    → All P xs
ten_all P (p ∷ q ∷ r ∷ s ∷ t ∷ u ∷ v ∷ w ∷ x ∷ y ∷ []) a' b' c' d' e' f' g' h' i' j' len e0 e1 e2 e3 e4 e5 e6 e7 e8 e9 =
    All-from_recursion P (p ∷ q ∷ r ∷ s ∷ t ∷ u ∷ v ∷ w ∷ x ∷ y ∷ [])
    (e0, (e1, (e2, (e3, (e4, (e5, (e6, (e7, (e8, (e9, tt))))))))))
ten_all P _ a' b' c' d' e' f' g' h' i' j' len e0 e1 e2 e3 e4 e5 e6 e7 e8 e9 = absurd (omega arith)

-- lists of texts are compared text by text
pub texts_decides : (xs ys : List (List ℕ)) → (pointwise (pointwise nat_eq) xs ys ≡ true → xs ≡ ys)
    × (xs ≡ ys → pointwise (pointwise nat_eq) xs ys ≡ true)
texts_decides = pointwise_decides bytes_decides

-- ten columns, each by the text before and the text after
pub ten_before : (xs ys : List (List ℕ)) {a b c d e f g h i j : Option (List ℕ)}
    (a' b' c' d' e' f' g' h' i' j' a'' b'' c'' d'' e'' f'' g'' h'' i'' j'' : List ℕ) → length xs ≡ 10 → length ys ≡ 10
    → a ≡ text_before (get_or xs 0 a') (get_or ys 0 a'') → b ≡ text_before (get_or xs 1 b') (get_or ys 1 b'')
    → c ≡ text_before (get_or xs 2 c') (get_or ys 2 c'') → d ≡ text_before (get_or xs 3 d') (get_or ys 3 d'')
    → e ≡ text_before (get_or xs 4 e') (get_or ys 4 e'') → f ≡ text_before (get_or xs 5 f') (get_or ys 5 f'')
    → g ≡ text_before (get_or xs 6 g') (get_or ys 6 g'') → h ≡ text_before (get_or xs 7 h') (get_or ys 7 h'')
    → i ≡ text_before (get_or xs 8 i') (get_or ys 8 i'') → j ≡ text_before (get_or xs 9 j') (get_or ys 9 j'')
    → a ∷ b ∷ c ∷ d ∷ e ∷ f ∷ g ∷ h ∷ i ∷ j ∷ [] ≡ texts_before xs ys
ten_before (p ∷ q ∷ r ∷ s ∷ t ∷ u ∷ v ∷ w ∷ x ∷ y ∷ []) (p' ∷ q' ∷ r' ∷ s' ∷ t' ∷ u' ∷ v' ∷ w' ∷ x' ∷ y' ∷ [])
    _ _ _ _ _ _ _ _ _ _ _ _ _ _ _ _ _ _ _ _ l m e0 e1 e2 e3 e4 e5 e6 e7 e8 e9 =
    λ k. e0 k ∷ e1 k ∷ e2 k ∷ e3 k ∷ e4 k ∷ e5 k ∷ e6 k ∷ e7 k ∷ e8 k ∷ e9 k ∷ []
ten_before _ _ _ _ _ _ _ _ _ _ _ _ _ _ _ _ _ _ _ _ _ _ l m e0 e1 e2 e3 e4 e5 e6 e7 e8 e9 = absurd (omega arith)

same_text : (x : List ℕ) → None ≡ text_before x x
same_text x = sym (ap (λ b. cond b None (Some x)) ((bytes_decides x x).1 refl))

-- ten columns of one row are not others
pub ten_same : (xs : List (List ℕ)) → length xs ≡ 10
    → None ∷ None ∷ None ∷ None ∷ None ∷ None ∷ None ∷ None ∷ None ∷ None ∷ [] ≡ texts_before xs xs
ten_same xs l = ten_before xs xs [] [] [] [] [] [] [] [] [] [] [] [] [] [] [] [] [] [] [] [] l l
    (same_text (get_or xs 0 [])) (same_text (get_or xs 1 [])) (same_text (get_or xs 2 [])) (same_text (get_or xs 3 []))
    (same_text (get_or xs 4 [])) (same_text (get_or xs 5 [])) (same_text (get_or xs 6 [])) (same_text (get_or xs 7 []))
    (same_text (get_or xs 8 [])) (same_text (get_or xs 9 []))

one_back : (b : Option (List ℕ)) (bs : List (Option (List ℕ))) (u : List ℕ) (us : List (List ℕ)) {a : List ℕ}
    {as' : List (List ℕ)} → a ≡ unwrap_or b u → as' ≡ with_texts bs us → a ∷ as' ≡ with_texts (b ∷ bs) (u ∷ us)
one_back None bs u us e es = λ k. e k ∷ es k
one_back (Some t) bs u us e es = λ k. e k ∷ es k

-- ten columns, each by the text before where it is there, and else by the text that stands
pub ten_back : (bs : List (Option (List ℕ))) (xs : List (List ℕ)) {a b c d e f g h i j : List ℕ}
    (b0 b1 b2 b3 b4 b5 b6 b7 b8 b9 : Option (List ℕ)) (x0 x1 x2 x3 x4 x5 x6 x7 x8 x9 : List ℕ) → length bs ≡ 10
    → length xs ≡ 10
    → a ≡ unwrap_or (get_or bs 0 b0) (get_or xs 0 x0) → b ≡ unwrap_or (get_or bs 1 b1) (get_or xs 1 x1)
    → c ≡ unwrap_or (get_or bs 2 b2) (get_or xs 2 x2) → d ≡ unwrap_or (get_or bs 3 b3) (get_or xs 3 x3)
    → e ≡ unwrap_or (get_or bs 4 b4) (get_or xs 4 x4) → f ≡ unwrap_or (get_or bs 5 b5) (get_or xs 5 x5)
    → g ≡ unwrap_or (get_or bs 6 b6) (get_or xs 6 x6) → h ≡ unwrap_or (get_or bs 7 b7) (get_or xs 7 x7)
    → i ≡ unwrap_or (get_or bs 8 b8) (get_or xs 8 x8) → j ≡ unwrap_or (get_or bs 9 b9) (get_or xs 9 x9)
    → a ∷ b ∷ c ∷ d ∷ e ∷ f ∷ g ∷ h ∷ i ∷ j ∷ [] ≡ with_texts bs xs
ten_back (p ∷ q ∷ r ∷ s ∷ t ∷ u ∷ v ∷ w ∷ x ∷ y ∷ []) (p' ∷ q' ∷ r' ∷ s' ∷ t' ∷ u' ∷ v' ∷ w' ∷ x' ∷ y' ∷ [])
    _ _ _ _ _ _ _ _ _ _ _ _ _ _ _ _ _ _ _ _ l m e0 e1 e2 e3 e4 e5 e6 e7 e8 e9 =
    one_back p _ p' _ e0 (one_back q _ q' _ e1 (one_back r _ r' _ e2 (one_back s _ s' _ e3 (one_back t _ t' _ e4
    (one_back u _ u' _ e5 (one_back v _ v' _ e6 (one_back w _ w' _ e7 (one_back x _ x' _ e8
    (one_back y _ y' _ e9 refl)))))))))
ten_back _ _ _ _ _ _ _ _ _ _ _ _ _ _ _ _ _ _ _ _ _ _ l m e0 e1 e2 e3 e4 e5 e6 e7 e8 e9 = absurd (omega arith)
