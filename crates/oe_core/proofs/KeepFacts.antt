-- Refusals of an advance that change nothing.
use Rattle.std.proofs.Common.{◌≡◌, ℕ, refl}
use Rattle.oe_theory.specs.World.{World}
use Rattle.oe_theory.specs.Next.{Next, Step, Answer, Busy, Undo_full, No_memory}
use Rattle.oe_theory.specs.Next.{begins, goes_on, commits, saves, goes_back, rolls_back, reads, audits, purges, rewinds}
use Rattle.oe_theory.specs.Next.{stops, fails, is_busy, is_full, is_rejected, is_open, number_is_rejected}
use Rattle.oe_theory.specs.Next.{query_is_rejected, misses, not_open, too_old, future, not_quiet}
use Rattle.oe_theory.specs.Next.{lacks_memory_at_begin, lacks_memory}
use Rattle.oe_model.specs.System.{system}

-- the answers of an advance that changes nothing, but for a terminal without a transaction
abbrev pub IsKept : Answer system → Type 0
IsKept (Busy n u) = Unit {0}
IsKept Undo_full = Unit {0}
IsKept No_memory = Unit {0}
IsKept _ = ⊥

pub unchanged : (w v : World system) (i : Step system) (a : Answer system) → Next system w i a v → IsKept a → v ≡ w
unchanged w _ _ _ (begins t q b) k = absurd k
unchanged w _ _ _ (goes_on t o c p e g r room) k = absurd k
unchanged w _ _ _ (commits t o y e g r) k = absurd k
unchanged w _ _ _ (saves t o e) k = absurd k
unchanged w _ _ _ (goes_back t o e) k = absurd k
unchanged w _ _ _ (rolls_back t o e) k = absurd k
unchanged w _ _ _ (reads m q f a b c d) k = absurd k
unchanged w _ _ _ (audits m c a b) k = absurd k
unchanged w _ _ _ (purges m l h) k = absurd k
unchanged w _ _ _ (rewinds m q l h) k = absurd k
unchanged w _ _ _ (stops t o x e r) k = absurd k
unchanged w _ _ _ (fails t o x e g r) k = absurd k
unchanged w _ _ _ (is_busy t o n m u a b c) k = refl
unchanged w _ _ _ (is_full t o c p a b d e) k = refl
unchanged w _ _ _ (is_rejected t q e h) k = refl
unchanged w _ _ _ (is_open t q o a b) k = refl
unchanged w _ _ _ (number_is_rejected t q e a b c) k = refl
unchanged w _ _ _ (query_is_rejected m q e a) k = refl
unchanged w _ _ _ (misses m q e a b c d) k = refl
unchanged w _ _ _ (not_open i t e h) k = refl
unchanged w _ _ _ (too_old i m e p h) k = refl
unchanged w _ _ _ (future i m e p h) k = refl
unchanged w _ _ _ (not_quiet m n e) k = refl
unchanged w _ _ _ (lacks_memory_at_begin t q b) k = refl
unchanged w _ _ _ (lacks_memory t o e h) k = refl
