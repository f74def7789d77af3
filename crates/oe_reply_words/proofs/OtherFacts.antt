-- The first part that differs.
use Rattle.std.proofs.Common.{◌≡◌, ℕ, ◌+◌, true, cond, List, [], ◌∷◌, ap, ◌∙◌, refl}
use Rattle.oe_reply_words.specs.Parts.{parts_of, is_same, first_word}
use Rattle.oe_reply_words.specs.Others.{first_other}

-- what is compared next
module _ (m k : ℕ) (theirs ours w v : List ℕ) (ws vs : List (List ℕ)) (t : parts_of m theirs ≡ w ∷ ws)
    (o : parts_of m ours ≡ v ∷ vs) where
  both : first_other k (parts_of m theirs) (parts_of m ours) ≡ first_other k (w ∷ ws) (v ∷ vs)
  both = ap (λ z. first_other k z (parts_of m ours)) t ∙ ap (first_other k (w ∷ ws)) o

  pub same_first : is_same w v ≡ true
      → first_other k (parts_of m theirs) (parts_of m ours) ≡ first_other (k + 1) ws vs
  same_first e =
      both ∙ ap (λ b. cond b (first_other (k + 1) ws vs) (record { place = k; theirs = w; ours = v })) e

-- nothing is left of one of the two
pub none_left : (k : ℕ) (vs : List (List ℕ))
    → first_other k [] vs ≡ record { place = k; theirs = []; ours = first_word vs }
none_left k [] = refl
none_left k (v ∷ vs) = refl

pub none_right : (k : ℕ) (w : List ℕ) (ws : List (List ℕ))
    → first_other k (w ∷ ws) [] ≡ record { place = k; theirs = w; ours = [] }
none_right k w ws = refl
