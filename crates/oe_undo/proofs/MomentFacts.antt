-- No key's link leads to a commit of moment 0.
use Rattle.std.proofs.Common.{◌≡◌, ℕ, zero, suc, ◌<◌, ◌≤◌, ◌==◌, ◌-◌, Bool, true, false, cond, refl, sym, ap, ◌∙◌}
use Rattle.std.proofs.Common.{arith, List, [], ◌∷◌, length, Option, None, Some}
use Rattle.std.specs.Prelude.{nat_lt, option_map, slice_get, IfSome}
use Rattle.std.proofs.lemmas.Bool.{lt-ltb, le-ltb}
use Rattle.oe_theory.proofs.Sets.{some_inj}
use Rattle.oe_extent.specs.declared.extents.Address.{Address}
use Rattle.oe_layout.specs.declared.links.Previous.TheVariants.{Committed}
use Rattle.oe_log.specs.Log.{SegmentLog, Committed as CommitSegment, count_at, total_count}
use Rattle.oe_undo.specs.declared.holders.Holder.{Holder}
use Rattle.oe_undo.specs.declared.holders.Holder.TheVariants.{Open, At}
use Rattle.oe_undo.specs.declared.holders.Link.{Link}
use Rattle.oe_undo.specs.declared.links.OwnedLink.{OwnedLink}
use Rattle.oe_undo.specs.Chains.{link_from}
use Rattle.oe_undo.specs.Held.{is_later}
use Rattle.oe_undo.specs.Laws.{IsWhole, Moments_begin_at_one}
use Rattle.oe_undo.specs.Owners.{moments_of, holder_of, link_by_now}
use Rattle.oe_undo.specs.Undo.{link_above}

-- the moments of kept commits
some_moment : (t m : ℕ) (cs : List CommitSegment) (i x : ℕ) → length cs ≤ m → slice_get (moments_of t m cs) i ≡ Some x
    → 0 < x
some_moment t m [] i x within e = cc
some_moment t m (c ∷ cs) i x within e = go (t == c.terminal) i e
    (λ j f. some_moment t (m - 1) cs j x (omega (arith, within)) f)
  where
    go : (b : Bool) (i : ℕ) → slice_get (cond b (m ∷ moments_of t (m - 1) cs) (moments_of t (m - 1) cs)) i ≡ Some x
        → ((j : ℕ) → slice_get (moments_of t (m - 1) cs) j ≡ Some x → 0 < x) → 0 < x
    go true zero e rest = let same : m ≡ x = some_inj _ _ e in omega (arith, within)
    go true (suc j) e rest = rest j e
    go false i e rest = rest i e

later_holder : (u : SegmentLog) (l : OwnedLink) (h : Holder) → length u.committed ≤ total_count u
    → holder_of u l.owner ≡ Some h → is_later 0 h ≡ true
later_holder u l h within e = go (nat_lt (count_at u l.owner.terminal) l.owner.number) e
  where
    made : (o : Option ℕ) → ((x : ℕ) → o ≡ Some x → 0 < x) → option_map At o ≡ Some h → is_later 0 h ≡ true
    made None past e = cc
    made (Some x) past e = ap (is_later 0) (sym (some_inj _ _ e)) ∙ lt-ltb 0 x (past x refl)

    go : (b : Bool) → cond b (Some (Open l.owner.terminal))
        (option_map At (slice_get (moments_of l.owner.terminal (total_count u) u.committed)
        (count_at u l.owner.terminal - l.owner.number))) ≡ Some h
        → is_later 0 h ≡ true
    go true e = ap (is_later 0) (sym (some_inj _ _ e))
    go false e = made _ (λ x f. some_moment l.owner.terminal (total_count u) u.committed
        (count_at u l.owner.terminal - l.owner.number) x within f) e

later_link : (u : SegmentLog) (l : Option OwnedLink) (x : Link) → IsWhole u → link_by_now u l ≡ Some x
    → is_later 0 x.holder ≡ true
later_link u None x whole e = cc
later_link u (Some l) x whole e = go (holder_of u l.owner) refl e
  where
    go : (o : Option Holder) → holder_of u l.owner ≡ o
        → option_map (λ h. record { address = l.address; holder = h }) o ≡ Some x → is_later 0 x.holder ≡ true
    go None f e = cc
    go (Some h) f e = ap (λ (z : Link). is_later 0 z.holder) (sym (some_inj _ _ e)) ∙ later_holder u l h whole.commits f

none_at_zero : (h t : ℕ) (a : Address) → link_above h (link_from (Open t) (Committed a 0)) ≡ None
none_at_zero h t a = ap (λ b. cond b (link_from (Open t) (Committed a 0)) None) (le-ltb h 0 (omega arith))

-- and so is what it follows to
pub none_first : (u : SegmentLog) (l : Option OwnedLink) (o : Option Link) → IsWhole u → o ≡ link_by_now u l
    → IfSome o (λ x. is_later 0 x.holder ≡ true)
none_first u l None whole e = tt
none_first u l (Some x) whole e = later_link u l x whole (sym e)

pub moments_begin_at_one : Moments_begin_at_one
moments_begin_at_one = record { none = none_at_zero; later = later_link }
