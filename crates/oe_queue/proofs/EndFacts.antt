-- A beginning that has the end mark is the whole.
use Rattle.std.proofs.Common.{◌≡◌, ℕ, zero, suc, ◌<◌, ◌==◌, Bool, true, false, cond, List, [], ◌∷◌, ◌++◌, length, refl}
use Rattle.std.proofs.Common.{sym, ap, ◌∙◌, arith}
use Rattle.std.proofs.lemmas.Bool.Decides.{nat_tests}
use Rattle.std.specs.Prelude.{slice_index_or}
use Rattle.std.specs.List.{Contains}
use Rattle.oe_queue.specs.Order.{IsBeginning, sender_of, messages_of, has_end, IsEnded}
use Rattle.oe_queue.specs.declared.messages.Message.{Message}
use Rattle.oe_queue.specs.declared.messages.Message.TheVariants.{Delivery, End}
use Rattle.oe_requests.specs.declared.requests.DeliveriesRequest.{DeliveriesRequest}

pub no_end_more : (xs : List Message) (t : ℕ) (d : DeliveriesRequest) → has_end xs ≡ false
    → has_end (xs ++ Delivery t d ∷ []) ≡ false
no_end_more [] t d h = refl
no_end_more (Delivery a b ∷ xs) t d h = no_end_more xs t d h
no_end_more (End a ∷ xs) t d h = let no : ⊥ = cc in absurd no

pub ended : (xs : List Message) (t : ℕ) → has_end xs ≡ false → IsEnded t (xs ++ End t ∷ [])
ended xs t n = (xs, n, refl)

no_more : (ys rest : List Message) → ys ++ rest ≡ [] → ys ≡ []
no_more [] rest e = refl
no_more (y ∷ ys) rest e = let no : ⊥ = cc in absurd no

whole_at : (xs ys rest : List Message) (t : ℕ) → has_end xs ≡ false → has_end ys ≡ true → ys ++ rest ≡ xs ++ End t ∷ []
    → ys ≡ xs ++ End t ∷ []
whole_at xs [] rest t n h e = let no : ⊥ = cc in absurd no
whole_at [] (y ∷ ys) rest t n h e =
    let tail : ys ++ rest ≡ [] = cc in
    let head : y ≡ End t = cc in
    ap (λ l. y ∷ l) (no_more ys rest tail) ∙ ap (λ x. x ∷ []) head
whole_at (x ∷ xs) (y ∷ ys) rest t n h e =
    let tail : ys ++ rest ≡ xs ++ End t ∷ [] = cc in
    let head : y ≡ x = cc in
    go x y head n h (λ a b. whole_at xs ys rest t a b tail)
  where
    go : (x y : Message) → y ≡ x → has_end (x ∷ xs) ≡ false → has_end (y ∷ ys) ≡ true
        → (has_end xs ≡ false → has_end ys ≡ true → ys ≡ xs ++ End t ∷ []) → y ∷ ys ≡ x ∷ (xs ++ End t ∷ [])
    go (Delivery a b) (Delivery c d) head n h f = ap (λ l. Delivery c d ∷ l) (f n h)
        ∙ ap (λ z. z ∷ (xs ++ End t ∷ [])) head
    go (Delivery a b) (End c) head n h f = let no : ⊥ = cc in absurd no
    go (End a) y head n h f = let no : ⊥ = cc in absurd no

-- an end mark among messages is among those of its terminal
same_number : (t : ℕ) → (t == t) ≡ true
same_number t = grind (arith, nat_tests)

found_behind : (b : Bool) (x : Message) (l : List Message) → has_end l ≡ true → has_end (cond b (x ∷ l) l) ≡ true
found_behind true (Delivery a d) l h = h
found_behind true (End a) l h = refl
found_behind false x l h = h

found_first : (x : Message) (t : ℕ) (l : List Message) → x ≡ End t → has_end (cond (sender_of x == t) (x ∷ l) l) ≡ true
found_first x t l e = ap (λ m. has_end (cond (sender_of m == t) (m ∷ l) l)) e
    ∙ ap (λ b. has_end (cond b (End t ∷ l) l)) (same_number t)

found_at : (xs : List Message) (t k : ℕ) → k < length xs → slice_index_or xs k (End t) ≡ End t
    → has_end (messages_of t xs) ≡ true
found_at [] t k lt e = absurd (omega arith)
found_at (x ∷ xs) t zero lt e = found_first x t (messages_of t xs) e
found_at (x ∷ xs) t (suc k) lt e = found_behind (sender_of x == t) x (messages_of t xs)
    (found_at xs t k (omega arith) e)

pub is_whole : (taken sent : List Message) (t : ℕ) → IsBeginning (messages_of t taken) sent → IsEnded t sent
    → Contains taken (End t) → messages_of t taken ≡ sent
is_whole taken sent t p w h = whole_at w.0 (messages_of t taken) p.0 t w.1 (found_at taken t h.0 h.1 h.2) (p.1 ∙ w.2)
    ∙ sym w.2
