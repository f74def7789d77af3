-- A ring that is new, and the oldest commit's strings that are given up.
use Rattle.std.proofs.Common.{◌≡◌, ℕ, ◌-◌, ◌<◌, Bool, true, List, [], ◌∷◌, ◌++◌, length, map, take, get_or, set}
use Rattle.std.proofs.Common.{replicate, refl, sym, ap, ◌∙◌, subst, arith}
use Rattle.std.specs.List.{AllByRecursion}
use Rattle.std.proofs.lemmas.List.{length-append, map-append, take_at, get_or_at, set-set}
use Rattle.oe_extent.specs.Free.{FreeExtents, with_free, with_all_free}
use Rattle.oe_extent.specs.Extents.{Contents, numbers_of, rest_of}
use Rattle.oe_extent.specs.Ring.{Addressed, no_strings, without_last, oldest_of, extents_of, without_oldest}
use Rattle.oe_extent.specs.Kept.{addressed_in, addressed_of, FillsUp, ArePacked, IsRing}
use Rattle.oe_extent.proofs.ChangeFacts.{ring_view, last_dropped, new_shown}
use Rattle.oe_extent.proofs.SlotFacts.{Stands}

-- an extent given back for each of its strings is given back once
of_extent : (n : ℕ) (x : List ℕ) (xs : List (List ℕ)) (ps : List Addressed) (free : List Bool)
    → with_free (extents_of (addressed_in n (x ∷ xs) ++ ps)) free ≡ with_free (n ∷ extents_of ps) free
of_extent n x [] ps free = refl
of_extent n x (y ∷ ys) ps free =
    ap (with_free (extents_of (addressed_in n ys ++ ps))) (set-set free n true true) ∙ of_extent n y ys ps free

of_list : (cs : List Contents) (free : List Bool) → ArePacked cs
    → with_free (extents_of (addressed_of cs)) free ≡ with_free (numbers_of cs) free
of_list [] free h = refl
of_list (c ∷ cs) free h = first c.strings h.0 ∙ of_list cs (set free c.number true) h.1
  where
    first : (xs : List (List ℕ)) → FillsUp (rest_of cs) xs
        → with_free (extents_of (addressed_in c.number xs ++ addressed_of cs)) free ≡ with_free
        (c.number ∷ extents_of (addressed_of cs)) free
    first [] f = absurd f
    first (x ∷ xs) f = of_extent c.number x xs (addressed_of cs) free

module _ (pool : FreeExtents) (os cs : List (List Contents)) (room : ℕ) (r : IsRing pool.is_free os cs) where
  pub last_within : (x : List Contents) (ds : List (List Contents)) → cs ≡ ds ++ x ∷ []
      → AllByRecursion (λ e. e < length pool.is_free) (numbers_of x)
  last_within x ds e = (last_dropped pool.is_free os ds x
      (subst (λ (l : List (List Contents)). IsRing pool.is_free os l) e r)).1

  -- all but the last, and the last
  ends : (x : List Contents) (ds : List (List Contents)) → cs ≡ ds ++ x ∷ []
      → (map addressed_of ds ≡ without_last (map addressed_of cs)) × (oldest_of (map addressed_of cs) ≡ addressed_of x)
  ends x ds e =
      let front = map addressed_of ds in
      let parts : map addressed_of cs ≡ front ++ addressed_of x ∷ [] = ap (map addressed_of) e
      ∙ map-append addressed_of ds (x ∷ []) in
      let size : length front ≡ length (map addressed_of cs) - 1 = omega
      (arith, ap length parts, length-append front (addressed_of x ∷ [])) in
      let last = length (map addressed_of cs) - 1 in (
        sym (ap (take last) parts ∙ take_at front (addressed_of x ∷ []) last size),
        ap (λ (l : List (List Addressed)). get_or l last []) parts ∙ get_or_at front (addressed_of x) [] [] last size,
      )

  packed_last : (x : List Contents) (ds : List (List Contents)) → cs ≡ ds ++ x ∷ [] → ArePacked x
  packed_last x ds e =
      subst ArePacked (ap (λ (l : List (List Contents)). get_or l (length ds) []) e
      ∙ get_or_at ds x [] [] (length ds) refl) (r.committed_packed (length ds))

  pub last_gone : (more : ℕ) (x : List Contents) (ds : List (List Contents)) (new : FreeExtents) → cs ≡ ds ++ x ∷ []
      → new ≡ with_all_free pool (numbers_of x)
      → Stands new os ds more (without_oldest (ring_view pool os cs room) more)
  last_gone more x ds new e n =
      let d = last_dropped pool.is_free os ds x (subst (λ (l : List (List Contents)). IsRing pool.is_free os l) e r) in
      let now : new.is_free ≡ with_free (numbers_of x) pool.is_free = ap (λ (f : FreeExtents). f.is_free) n in
      let both = ends x ds e in
      let given : with_free (extents_of (oldest_of (map addressed_of cs))) pool.is_free ≡ with_free (numbers_of x)
      pool.is_free =
      ap (λ (ps : List Addressed). with_free (extents_of ps) pool.is_free) both.1
      ∙ of_list x pool.is_free (packed_last x ds e) in
      record {
        ring = subst (λ (f : List Bool). IsRing f os ds) (sym now) d.0;
        view = λ i. record {
          extents = (ap length now ∙ d.2) i;
          active = map addressed_of os;
          committed = both.0 i;
          room = more;
          pool = (n ∙ ap (λ (f : List Bool). record pool { is_free = f }) (sym given)) i;
        };
      }

pub new_is : (pool : FreeExtents) (os cs : List (List Contents)) (room extents slots : ℕ)
    → pool.is_free ≡ replicate extents true → pool.cursor ≡ 0
    → os ≡ replicate slots [] → cs ≡ [] → ring_view pool os cs room ≡ record (no_strings extents slots) { room = room }
new_is pool os cs room extents slots f z o c =
    let n = new_shown extents slots in
    λ i. record {
      extents = (ap length f ∙ n.1) i;
      active = (ap (map addressed_of) o ∙ n.0) i;
      committed = map addressed_of (c i);
      room = room;
      pool = record { is_free = f i; cursor = z i };
    }
