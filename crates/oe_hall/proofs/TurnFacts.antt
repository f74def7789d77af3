-- What a step of the machine counts, and which answers it may have.
use Rattle.std.proofs.Common.{◌≡◌, ℕ, ◌<◌, ◌≤◌, None, refl, sym, ap, subst, ◌∙◌, arith}
use Rattle.oe_theory.specs.World.{World, newest, horizon}
use Rattle.oe_theory.specs.Next.{Next, Step, Begin, Advance, Save, Back, Rollback, Read, Audit, Purge, Rewind, Answer}
use Rattle.oe_theory.specs.Next.{Begun, More, Committed, Rolled_back, Replied, Purged, Aborted, Rejected, Busy}
use Rattle.oe_theory.specs.Next.{Undo_full, Not_open, Too_old, Future, No_memory, begins, goes_on, commits, saves}
use Rattle.oe_theory.specs.Next.{goes_back, rolls_back, reads, audits, purges, rewinds, stops, fails, is_busy, is_full}
use Rattle.oe_theory.specs.Next.{is_rejected, is_open, number_is_rejected, query_is_rejected, misses, not_open, too_old}
use Rattle.oe_theory.specs.Next.{future, not_quiet, lacks_memory_at_begin, lacks_memory}
use Rattle.oe_theory.specs.Theorems.{IsReached}
use Rattle.oe_theory.specs.StepTheorems.{Is_counted}
use Rattle.oe_theory.proofs.StepTheorems.{steps_are_counted}
use Rattle.oe_model.specs.System.{system}
use Rattle.oe_model.proofs.SystemLaws.{laws}
use Rattle.oe_machine.specs.Steps.{refusal_in}
use Rattle.oe_requests.specs.declared.refusals.Refusal.{Refusal}
use Rattle.oe_requests.specs.declared.refusals.Refusal.TheVariants as refusal
use Rattle.oe_requests.specs.declared.steps.Step.TheVariants as step
use Rattle.oe_requests.specs.declared.requests.Request.{Request}
use Rattle.oe_requests.specs.declared.requests.Query.{Query}
use Rattle.oe_hall.specs.Turns.{open_count, HasSame, HasBegun, HasCommitted, HasEnded, HasPurged}

-- what a step may be answered
abbrev OfAdvance : Answer system → Type 0
OfAdvance More = Unit {0}
OfAdvance (Committed m y) = Unit {0}
OfAdvance (Aborted e) = Unit {0}
OfAdvance (Busy n u) = Unit {0}
OfAdvance Undo_full = Unit {0}
OfAdvance Not_open = Unit {0}
OfAdvance No_memory = Unit {0}
OfAdvance a = ⊥

abbrev OfRollback : Answer system → Type 0
OfRollback Rolled_back = Unit {0}
OfRollback Not_open = Unit {0}
OfRollback a = ⊥

abbrev OfRead : World system → ℕ → Answer system → Type 0
OfRead w m (Replied f) = Unit {0}
OfRead w m (Rejected e) = Unit {0}
OfRead w m (Too_old h) = m < horizon system w
OfRead w m (Future n) = Unit {0}
OfRead w m a = ⊥

abbrev OfPurge : World system → ℕ → Answer system → Type 0
OfPurge w m (Purged k) = k ≡ m
OfPurge w m (Too_old h) = m < horizon system w
OfPurge w m (Future n) = newest system w < m
OfPurge w m a = ⊥

abbrev pub Fits : World system → Step system → Answer system → Type 0
Fits w (Advance t) a = OfAdvance a
Fits w (Rollback t) a = OfRollback a
Fits w (Read m q) a = OfRead w m a
Fits w (Purge m) a = OfPurge w m a
Fits w i a = Unit {0}

pub fits : (w : World system) (i : Step system) (a : Answer system) (v : World system) → Next system w i a v
    → Fits w i a
fits w _ _ _ (begins t q b) = tt
fits w _ _ _ (goes_on t o c p e g r room) = tt
fits w _ _ _ (commits t o y e g r) = tt
fits w _ _ _ (saves t o e) = tt
fits w _ _ _ (goes_back t o e) = tt
fits w _ _ _ (rolls_back t o e) = tt
fits w _ _ _ (reads m q f a b c d) = tt
fits w _ _ _ (audits m c a b) = tt
fits w _ _ _ (purges m l h) = refl
fits w _ _ _ (rewinds m q l h) = tt
fits w _ _ _ (stops t o x e r) = tt
fits w _ _ _ (fails t o x e g r) = tt
fits w _ _ _ (is_busy t o n m u a b c) = tt
fits w _ _ _ (is_full t o c p a b d e) = tt
fits w _ _ _ (is_rejected t q e h) = tt
fits w _ _ _ (is_open t q o a b) = tt
fits w _ _ _ (number_is_rejected t q e a b c) = tt
fits w _ _ _ (query_is_rejected m q e a) = tt
fits w _ _ _ (misses m q e a b c d) = tt
fits w _ _ _ (not_open (Begin t q) u e h) = tt
fits w _ _ _ (not_open (Advance t) u e h) = tt
fits w _ _ _ (not_open (Save t) u e h) = tt
fits w _ _ _ (not_open (Back t) u e h) = tt
fits w _ _ _ (not_open (Rollback t) u e h) = tt
fits w _ _ _ (not_open (Read m q) u e h) = let no : ⊥ = cc in no
fits w _ _ _ (not_open (Audit m c) u e h) = tt
fits w _ _ _ (not_open (Purge m) u e h) = let no : ⊥ = cc in no
fits w _ _ _ (not_open (Rewind m) u e h) = tt
fits w _ _ _ (too_old (Begin t q) m e p h) = tt
fits w _ _ _ (too_old (Advance t) m e p h) = let no : ⊥ = cc in no
fits w _ _ _ (too_old (Save t) m e p h) = tt
fits w _ _ _ (too_old (Back t) m e p h) = tt
fits w _ _ _ (too_old (Rollback t) m e p h) = let no : ⊥ = cc in no
fits w _ _ _ (too_old (Read k q) m e p h) = let same : k ≡ m = cc in omega (arith, same, h)
fits w _ _ _ (too_old (Audit k c) m e p h) = tt
fits w _ _ _ (too_old (Purge k) m e p h) = let same : k ≡ m = cc in omega (arith, same, h)
fits w _ _ _ (too_old (Rewind k) m e p h) = tt
fits w _ _ _ (future (Begin t q) m e p h) = tt
fits w _ _ _ (future (Advance t) m e p h) = let no : ⊥ = cc in no
fits w _ _ _ (future (Save t) m e p h) = tt
fits w _ _ _ (future (Back t) m e p h) = tt
fits w _ _ _ (future (Rollback t) m e p h) = let no : ⊥ = cc in no
fits w _ _ _ (future (Read k q) m e p h) = tt
fits w _ _ _ (future (Audit k c) m e p h) = tt
fits w _ _ _ (future (Purge k) m e p h) = let same : k ≡ m = cc in omega (arith, same, h)
fits w _ _ _ (future (Rewind k) m e p h) = tt
fits w _ _ _ (not_quiet m n e) = tt
fits w _ _ _ (lacks_memory_at_begin t q b) = tt
fits w _ _ _ (lacks_memory t o e h) = tt

-- where a rollback finds nothing open, nothing is
abbrev AtRollback : World system → Step system → Type 0
AtRollback w (Rollback t) = w.active t ≡ None
AtRollback w i = Unit {0}

abbrev HasNone : World system → Step system → Answer system → Type 0
HasNone w i Not_open = AtRollback w i
HasNone w i a = Unit {0}

pub none_open : (w : World system) (i : Step system) (a : Answer system) (v : World system) → Next system w i a v
    → HasNone w i a
none_open w _ _ _ (begins t q b) = tt
none_open w _ _ _ (goes_on t o c p e g r room) = tt
none_open w _ _ _ (commits t o y e g r) = tt
none_open w _ _ _ (saves t o e) = tt
none_open w _ _ _ (goes_back t o e) = tt
none_open w _ _ _ (rolls_back t o e) = tt
none_open w _ _ _ (reads m q f a b c d) = tt
none_open w _ _ _ (audits m c a b) = tt
none_open w _ _ _ (purges m l h) = tt
none_open w _ _ _ (rewinds m q l h) = tt
none_open w _ _ _ (stops t o x e r) = tt
none_open w _ _ _ (fails t o x e g r) = tt
none_open w _ _ _ (is_busy t o n m u a b c) = tt
none_open w _ _ _ (is_full t o c p a b d e) = tt
none_open w _ _ _ (is_rejected t q e h) = tt
none_open w _ _ _ (is_open t q o a b) = tt
none_open w _ _ _ (number_is_rejected t q e a b c) = tt
none_open w _ _ _ (query_is_rejected m q e a) = tt
none_open w _ _ _ (misses m q e a b c d) = tt
none_open w _ _ _ (not_open (Begin t q) u e h) = tt
none_open w _ _ _ (not_open (Advance t) u e h) = tt
none_open w _ _ _ (not_open (Save t) u e h) = tt
none_open w _ _ _ (not_open (Back t) u e h) = tt
none_open w _ _ _ (not_open (Rollback t) u e h) =
    let same : u ≡ t = cc in
    subst (λ (n : ℕ). w.active n ≡ None) same h
none_open w _ _ _ (not_open (Read m q) u e h) = tt
none_open w _ _ _ (not_open (Audit m c) u e h) = tt
none_open w _ _ _ (not_open (Purge m) u e h) = tt
none_open w _ _ _ (not_open (Rewind m) u e h) = tt
none_open w _ _ _ (too_old i m e p h) = tt
none_open w _ _ _ (future i m e p h) = tt
none_open w _ _ _ (not_quiet m n e) = tt
none_open w _ _ _ (lacks_memory_at_begin t q b) = tt
none_open w _ _ _ (lacks_memory t o e h) = tt

-- a step keeps the layout of undo records
layout_stays : (w v : World system) (i : Step system) (a : Answer system) → Next system w i a v
    → v.layout ≡ w.layout
layout_stays w _ _ _ (begins t q b) = refl
layout_stays w _ _ _ (goes_on t o c p e g r room) = refl
layout_stays w _ _ _ (commits t o y e g r) = refl
layout_stays w _ _ _ (saves t o e) = refl
layout_stays w _ _ _ (goes_back t o e) = refl
layout_stays w _ _ _ (rolls_back t o e) = refl
layout_stays w _ _ _ (reads m q f a b c d) = refl
layout_stays w _ _ _ (audits m c a b) = refl
layout_stays w _ _ _ (purges m l h) = refl
layout_stays w _ _ _ (rewinds m q l h) = refl
layout_stays w _ _ _ (stops t o x e r) = refl
layout_stays w _ _ _ (fails t o x e g r) = refl
layout_stays w _ _ _ (is_busy t o n m u a b c) = refl
layout_stays w _ _ _ (is_full t o c p a b d e) = refl
layout_stays w _ _ _ (is_rejected t q e h) = refl
layout_stays w _ _ _ (is_open t q o a b) = refl
layout_stays w _ _ _ (number_is_rejected t q e a b c) = refl
layout_stays w _ _ _ (query_is_rejected m q e a) = refl
layout_stays w _ _ _ (misses m q e a b c d) = refl
layout_stays w _ _ _ (not_open i t e h) = refl
layout_stays w _ _ _ (too_old i m e p h) = refl
layout_stays w _ _ _ (future i m e p h) = refl
layout_stays w _ _ _ (not_quiet m n e) = refl
layout_stays w _ _ _ (lacks_memory_at_begin t q b) = refl
layout_stays w _ _ _ (lacks_memory t o e h) = refl

-- a begin, an advance that goes on, a commit, a rollback, and a refusal that ended its transaction
pub after_begin : (w v : World system) (t : ℕ) (q : system.Request) → IsReached system w
    → Next system w (Begin t q) Begun v → HasBegun w v
after_begin w v t q r n = let s = steps_are_counted system laws w v (Begin t q) Begun r n in
    (s.newest, s.open_count, s.horizon, layout_stays w v _ _ n)

pub after_more : (w v : World system) (t : ℕ) → IsReached system w → Next system w (Advance t) More v → HasSame w v
after_more w v t r n = let s = steps_are_counted system laws w v (Advance t) More r n in
    (s.newest, s.open_count, s.horizon, layout_stays w v _ _ n)

pub after_commit : (w v : World system) (t m : ℕ) (y : system.Reply) → IsReached system w
    → Next system w (Advance t) (Committed m y) v → HasCommitted w v
after_commit w v t m y r n = let s = steps_are_counted system laws w v (Advance t) (Committed m y) r n in
    (s.newest.0, sym s.open_count, s.horizon, layout_stays w v _ _ n)

pub after_rollback : (w v : World system) (t : ℕ) → IsReached system w → Next system w (Rollback t) Rolled_back v
    → HasEnded w v
after_rollback w v t r n = let s = steps_are_counted system laws w v (Rollback t) Rolled_back r n in
    (s.newest, sym s.open_count, s.horizon, layout_stays w v _ _ n)

after_abort : (w v : World system) (t : ℕ) (e : system.Refusal) → IsReached system w
    → Next system w (Advance t) (Aborted e) v → HasEnded w v
after_abort w v t e r n = let s = steps_are_counted system laws w v (Advance t) (Aborted e) r n in
    (s.newest, sym s.open_count, s.horizon, layout_stays w v _ _ n)

-- an answer that counts nothing
abbrev IsIdle : Answer system → Type 0
IsIdle a = (w v : World system) → Is_counted system w a v → (newest system v ≡ newest system w)
    × (open_count v ≡ open_count w) × (horizon system v ≡ horizon system w)

idle : (a : Answer system) → IsIdle a → (w v : World system) (i : Step system) → IsReached system w
    → Next system w i a v → HasSame w v
idle a f w v i r n =
    let s = f w v (steps_are_counted system laws w v i a r n) in
    (s.0, s.1, s.2, layout_stays w v i a n)

-- a refusal that has changed nothing
pub after_kept : (w v : World system) → v ≡ w → HasSame w v
after_kept w v same = (
  ap (λ z. newest system z) same,
  ap open_count same,
  ap (λ z. horizon system z) same,
  ap (λ (z : World system). z.layout) same,
)

-- one that has ended the transaction
pub after_ended : (w v : World system) (t : ℕ) (e : Refusal) → IsReached system w
    → refusal_in (step.Advance t) e ≡ Aborted e → Next system w (Advance t) (refusal_in (step.Advance t) e) v
    → HasEnded w v
after_ended w v t e r is n = after_abort w v t e r (subst (λ a. Next system w (Advance t) a v) is n)

-- a refused begin, a refused rollback
pub after_refused_begin : (w v : World system) (t : ℕ) (q : Request) (e : Refusal) → IsReached system w
    → Next system w (Begin t q) (refusal_in (step.Begin t q) e) v → HasSame w v
after_refused_begin w v t q (refusal.NoSuchRow x) r n = idle _ (λ w v s. (s.newest, s.open_count, s.horizon)) w v _ r n
after_refused_begin w v t q (refusal.RowExists x) r n = idle _ (λ w v s. (s.newest, s.open_count, s.horizon)) w v _ r n
after_refused_begin w v t q (refusal.Overflow x) r n = idle _ (λ w v s. (s.newest, s.open_count, s.horizon)) w v _ r n
after_refused_begin w v t q (refusal.Reference x) r n = idle _ (λ w v s. (s.newest, s.open_count, s.horizon)) w v _ r n
after_refused_begin w v t q refusal.KeyColumn r n = idle _ (λ w v s. (s.newest, s.open_count, s.horizon)) w v _ r n
after_refused_begin w v t q (refusal.Busy x u) r n = idle _ (λ w v s. (s.newest, s.open_count, s.horizon)) w v _ r n
after_refused_begin w v t q refusal.UndoFull r n = idle _ (λ w v s. (s.newest, s.open_count, s.horizon)) w v _ r n
after_refused_begin w v t q refusal.NoMemory r n = idle _ (λ w v s. (s.newest, s.open_count, s.horizon)) w v _ r n
after_refused_begin w v t q refusal.NotOpen r n = idle _ (λ w v s. (s.newest, s.open_count, s.horizon)) w v _ r n
after_refused_begin w v t q refusal.AlreadyOpen r n = idle _ (λ w v s. (s.newest, s.open_count, s.horizon)) w v _ r n
after_refused_begin w v t q refusal.InvalidItem r n = idle _ (λ w v s. (s.newest, s.open_count, s.horizon)) w v _ r n
after_refused_begin w v t q refusal.NoCustomer r n = idle _ (λ w v s. (s.newest, s.open_count, s.horizon)) w v _ r n
after_refused_begin w v t q (refusal.TooOld m) r n = idle _ (λ w v s. (s.newest, s.open_count, s.horizon)) w v _ r n
after_refused_begin w v t q (refusal.Future m) r n = idle _ (λ w v s. (s.newest, s.open_count, s.horizon)) w v _ r n
after_refused_begin w v t q (refusal.NotQuiet m) r n = idle _ (λ w v s. (s.newest, s.open_count, s.horizon)) w v _ r n
after_refused_begin w v t q (refusal.NotPinned m) r n = idle _ (λ w v s. (s.newest, s.open_count, s.horizon)) w v _ r n

pub after_refused_rollback : (w v : World system) (t : ℕ) (e : Refusal) → IsReached system w
    → Next system w (Rollback t) (refusal_in (step.Rollback t) e) v → HasSame w v
after_refused_rollback w v t (refusal.NoSuchRow x) r n = absurd (fits w _ _ v n)
after_refused_rollback w v t (refusal.RowExists x) r n = absurd (fits w _ _ v n)
after_refused_rollback w v t (refusal.Overflow x) r n = absurd (fits w _ _ v n)
after_refused_rollback w v t (refusal.Reference x) r n = absurd (fits w _ _ v n)
after_refused_rollback w v t refusal.KeyColumn r n = absurd (fits w _ _ v n)
after_refused_rollback w v t (refusal.Busy x u) r n = absurd (fits w _ _ v n)
after_refused_rollback w v t refusal.UndoFull r n = absurd (fits w _ _ v n)
after_refused_rollback w v t refusal.NoMemory r n = absurd (fits w _ _ v n)
after_refused_rollback w v t refusal.NotOpen r n = idle _ (λ w v s. (s.newest, s.open_count, s.horizon)) w v _ r n
after_refused_rollback w v t refusal.AlreadyOpen r n = absurd (fits w _ _ v n)
after_refused_rollback w v t refusal.InvalidItem r n = absurd (fits w _ _ v n)
after_refused_rollback w v t refusal.NoCustomer r n = absurd (fits w _ _ v n)
after_refused_rollback w v t (refusal.TooOld m) r n = absurd (fits w _ _ v n)
after_refused_rollback w v t (refusal.Future m) r n = absurd (fits w _ _ v n)
after_refused_rollback w v t (refusal.NotQuiet m) r n = absurd (fits w _ _ v n)
after_refused_rollback w v t (refusal.NotPinned m) r n = absurd (fits w _ _ v n)

-- a purge
pub after_purge : (w v : World system) (m k : ℕ) → IsReached system w → Next system w (Purge m) (Purged k) v
    → HasPurged m w v
after_purge w v m k r n =
    let s = steps_are_counted system laws w v (Purge m) (Purged k) r n in
    let same : k ≡ m = fits w _ _ v n in
    (s.newest, s.open_count, s.horizon.0 ∙ same, layout_stays w v _ _ n)

-- of a moment that is kept it is not refused
pub purge_is_not_refused : (w v : World system) (m : ℕ) (e : Refusal) → horizon system w ≤ m → m ≤ newest system w
    → Next system w (Purge m) (refusal_in (step.Purge m) e) v → ⊥
purge_is_not_refused w v m (refusal.NoSuchRow x) l h n = fits w _ _ v n
purge_is_not_refused w v m (refusal.RowExists x) l h n = fits w _ _ v n
purge_is_not_refused w v m (refusal.Overflow x) l h n = fits w _ _ v n
purge_is_not_refused w v m (refusal.Reference x) l h n = fits w _ _ v n
purge_is_not_refused w v m refusal.KeyColumn l h n = fits w _ _ v n
purge_is_not_refused w v m (refusal.Busy x u) l h n = fits w _ _ v n
purge_is_not_refused w v m refusal.UndoFull l h n = fits w _ _ v n
purge_is_not_refused w v m refusal.NoMemory l h n = fits w _ _ v n
purge_is_not_refused w v m refusal.NotOpen l h n = fits w _ _ v n
purge_is_not_refused w v m refusal.AlreadyOpen l h n = fits w _ _ v n
purge_is_not_refused w v m refusal.InvalidItem l h n = fits w _ _ v n
purge_is_not_refused w v m refusal.NoCustomer l h n = fits w _ _ v n
purge_is_not_refused w v m (refusal.TooOld k) l h n = let x : m < horizon system w = fits w _ _ v n in
    omega (arith, x, l)
purge_is_not_refused w v m (refusal.Future k) l h n = let x : newest system w < m = fits w _ _ v n in
    omega (arith, x, h)
purge_is_not_refused w v m (refusal.NotQuiet k) l h n = fits w _ _ v n
purge_is_not_refused w v m (refusal.NotPinned k) l h n = fits w _ _ v n

-- a read of a moment that is kept is not too old
pub is_not_too_old : (w v : World system) (m : ℕ) (q : Query) (k : ℕ) → horizon system w ≤ m
    → Next system w (Read m q) (Too_old k) v → ⊥
is_not_too_old w v m q k l n = let x : m < horizon system w = fits w _ _ v n in omega (arith, x, l)
