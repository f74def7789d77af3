-- Texts that stand behind others.
use Rattle.std.proofs.Common.{◌≡◌, ℕ, List, ◌++◌, append_assoc, ap, ◌∙◌}

two : (old a b x y : List ℕ) → x ≡ old ++ a → y ≡ x ++ b → y ≡ old ++ (a ++ b)
two old a b x y e f = f ∙ (ap (λ u. u ++ b) e ∙ append_assoc old a b)

-- three behind another
pub three : (old a b c x y z : List ℕ) → x ≡ old ++ a → y ≡ x ++ b → z ≡ y ++ c → z ≡ old ++ (a ++ b ++ c)
three old a b c x y z e f g = two old (a ++ b) c y z (two old a b x y e f) g

-- and seven
pub seven : (old a b c d e f g t u v w x y z : List ℕ) → t ≡ old ++ a → u ≡ t ++ b → v ≡ u ++ c → w ≡ v ++ d
    → x ≡ w ++ e → y ≡ x ++ f → z ≡ y ++ g → z ≡ old ++ (a ++ b ++ c ++ d ++ e ++ f ++ g)
seven old a b c d e f g t u v w x y z h i j k l m n =
    let five = two old (a ++ b ++ c ++ d) e w x (two old (a ++ b ++ c) d v w (three old a b c t u v h i j) k) l in
    two old (a ++ b ++ c ++ d ++ e ++ f) g y z (two old (a ++ b ++ c ++ d ++ e) f x y five m) n
