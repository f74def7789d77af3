-- Texts that are appended one behind another.
use Rattle.std.proofs.Common.{◌≡◌, ℕ, List, ◌++◌, ap, ◌∙◌, append_assoc}

pub two : (o a b x y : List ℕ) → x ≡ o ++ a → y ≡ x ++ b → y ≡ o ++ (a ++ b)
two o a b x y e f = f ∙ (ap (λ t. t ++ b) e ∙ append_assoc o a b)

pub three : (o a b c x y z : List ℕ) → x ≡ o ++ a → y ≡ x ++ b → z ≡ y ++ c → z ≡ o ++ (a ++ b ++ c)
three o a b c x y z e f g =
    g ∙ (ap (λ t. t ++ c) f ∙ (ap (λ t. t ++ b ++ c) e
    ∙ (ap (λ t. t ++ c) (append_assoc o a b) ∙ append_assoc o (a ++ b) c)))

pub four : (o a b c d w x y z : List ℕ) → w ≡ o ++ a → x ≡ w ++ b → y ≡ x ++ c → z ≡ y ++ d
    → z ≡ o ++ (a ++ b ++ c ++ d)
four o a b c d w x y z e f g h =
    h ∙ (ap (λ t. t ++ d) (three o a b c w x y e f g) ∙ append_assoc o (a ++ b ++ c) d)
