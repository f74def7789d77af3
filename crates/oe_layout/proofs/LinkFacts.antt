-- Kinds and links are read exactly.
use Rattle.std.proofs.Common.{◌≡◌, ◌==◌, ◌&&◌, ℕ, ◌^◌, ◌<◌, ◌≤◌, Bool, true, false, cond, List, Option, Some}
use Rattle.std.proofs.Common.{None, refl, sym, ap, subst, ◌∙◌, arith}
use Rattle.std.specs.Prelude.{nat_le}
use Rattle.std.proofs.lemmas.Bool.{leb-true, le-leb, eqb-true}
use Rattle.std.proofs.lemmas.Bool.Decides.{nat_tests}
use Rattle.oe_decode.specs.Codec.{Takes, IsCodec}
use Rattle.oe_decode.specs.FrontFacts.{some_is, both, number_law, pair_law}
use Rattle.oe_layout.specs.Links.{LinkNumbers, link_numbers, previous_image, IsAddress, IsPrevious}
use Rattle.oe_layout.specs.Links.{with_rest, read_as, at_address, nothing_at, previous_of, previous_at}
use Rattle.oe_layout.specs.Kinds.{kind_numbers, kind_image, inserted_in, updated_in, deleted_in, changed_in}
use Rattle.oe_layout.specs.Kinds.{kind_of_numbers, kind_at}
use Rattle.oe_extent.specs.declared.extents.Address.{Address}
use Rattle.oe_layout.specs.declared.links.Previous.{Previous}
use Rattle.oe_layout.specs.declared.links.Previous.TheVariants.{Nothing, Own, Committed}
use Rattle.oe_layout.specs.declared.kinds.RecordKind.{RecordKind}
use Rattle.oe_layout.specs.declared.kinds.RecordKind.TheVariants.{InsertedHistory, InsertedNewOrder, InsertedOrder}
use Rattle.oe_layout.specs.declared.kinds.RecordKind.TheVariants.{InsertedOrderLine, UpdatedWarehouse, UpdatedDistrict}
use Rattle.oe_layout.specs.declared.kinds.RecordKind.TheVariants.{UpdatedCustomer, UpdatedOrder, UpdatedOrderLine}
use Rattle.oe_layout.specs.declared.kinds.RecordKind.TheVariants.{UpdatedStock, DeletedNewOrder, ChangedWarehouse}
use Rattle.oe_layout.specs.declared.kinds.RecordKind.TheVariants.{ChangedDistrict, ChangedCustomer, ChangedOrder}
use Rattle.oe_layout.specs.declared.kinds.RecordKind.TheVariants.{ChangedOrderLine, ChangedStock}

-- ---- the values that some others stand for

with_rest_some : {Y : Type 0} (rest : List ℕ) (v : Option Y) (y : Y × List ℕ) → with_rest rest v ≡ Some y
    → (v ≡ Some y.0) × (rest ≡ y.1)
with_rest_some rest None y e = absurd cc
with_rest_some {Y = Y} rest (Some v) y e =
    let g = some_is (v, rest) y e in
    (ap (λ (p : Y × List ℕ). Some p.0) g, ap (λ (p : Y × List ℕ). p.1) g)

read_as_some : {X Y : Type 0} (f : X → Option Y) (r : Option (X × List ℕ)) (y : Y × List ℕ) → read_as f r ≡ Some y
    → (x : X × List ℕ) × (r ≡ Some x) × (f x.0 ≡ Some y.0) × (x.1 ≡ y.1)
read_as_some f None y e = absurd cc
read_as_some f (Some x) y e =
    let g = with_rest_some x.1 (f x.0) y e in
    (x, refl, g.0, g.1)

as_law : {X Y : Type 0} {Fits : X → Type 0} {image : X → List ℕ} {at : List ℕ → Option (X × List ℕ)} (f : X → Option Y)
    (g : Y → X) (Shown : Y → Type 0)
    → ((y : Y) → Shown y → Fits (g y) × (f (g y) ≡ Some y)) → ((x : X) (y : Y) → f x ≡ Some y → Shown y × (g y ≡ x))
    → IsCodec Fits image at → IsCodec Shown (λ y. image (g y)) (λ bytes. read_as f (at bytes))
as_law {X = X} {Y = Y} {image = image} {at = at} f g Shown there back law = record {
  takes = λ bytes y fits e.
      let s = read_as_some f (at bytes) y e in
      let t = law.takes bytes s.0 fits s.1 in
      let b = back s.0.0 y.0 s.2 in (
        b.0,
        subst (λ (r : List ℕ). Takes bytes (image (g y.0)) r) s.3
            (subst (λ (x : X). Takes bytes (image x) s.0.1) (sym b.1) t.1),
      );
  again = λ v rest shown.
      let t = there v shown in
      let r = law.again (g v) rest t.0 in
      rw (r, t.1) refl;
}

-- ---- what a choice answers

pub chosen : {Y : Type 0} (P : Y → Type 0) (b : Bool) (u v : Option Y) → (b ≡ true → (y : Y) → u ≡ Some y → P y)
    → (b ≡ false → (y : Y) → v ≡ Some y → P y)
    → (y : Y) → cond b u v ≡ Some y → P y
chosen P true u v f g y e = f refl y e
chosen P false u v f g y e = g refl y e

only : {Y : Type 0} (P : Y → Type 0) (u y : Y) → P u → ◌≡◌ {A = Option Y} (Some u) (Some y) → P y
only P u y p e = subst P (some_is u y e) p

none : {Y : Type 0} (P : Y → Type 0) (y : Y) → ◌≡◌ {A = Option Y} None (Some y) → P y
none P y e = absurd cc

-- ---- kinds

inserted_back : (t : ℕ) (k : RecordKind) → inserted_in t ≡ Some k → kind_numbers k ≡ (1, t)
inserted_back t =
    let P : RecordKind → Type 0 = λ k. kind_numbers k ≡ (1, t) in
    chosen P (t == 4) _ _ (λ b y e. only P InsertedHistory y (ap (λ (n : ℕ). (1, n)) (sym (eqb-true t 4 b))) e)
    (λ _. chosen P (t == 5) _ _ (λ b y e. only P InsertedNewOrder y (ap (λ (n : ℕ). (1, n)) (sym (eqb-true t 5 b))) e)
    (λ _. chosen P (t == 6) _ _ (λ b y e. only P InsertedOrder y (ap (λ (n : ℕ). (1, n)) (sym (eqb-true t 6 b))) e)
    (λ _. chosen P (t == 7) _ _ (λ b y e. only P InsertedOrderLine y (ap (λ (n : ℕ). (1, n)) (sym (eqb-true t 7 b))) e)
    (λ _ y e. none P y e))))

updated_back : (t : ℕ) (k : RecordKind) → updated_in t ≡ Some k → kind_numbers k ≡ (2, t)
updated_back t =
    let P : RecordKind → Type 0 = λ k. kind_numbers k ≡ (2, t) in
    chosen P (t == 1) _ _ (λ b y e. only P UpdatedWarehouse y (ap (λ (n : ℕ). (2, n)) (sym (eqb-true t 1 b))) e)
    (λ _. chosen P (t == 2) _ _ (λ b y e. only P UpdatedDistrict y (ap (λ (n : ℕ). (2, n)) (sym (eqb-true t 2 b))) e)
    (λ _. chosen P (t == 3) _ _ (λ b y e. only P UpdatedCustomer y (ap (λ (n : ℕ). (2, n)) (sym (eqb-true t 3 b))) e)
    (λ _. chosen P (t == 6) _ _ (λ b y e. only P UpdatedOrder y (ap (λ (n : ℕ). (2, n)) (sym (eqb-true t 6 b))) e)
    (λ _. chosen P (t == 7) _ _ (λ b y e. only P UpdatedOrderLine y (ap (λ (n : ℕ). (2, n)) (sym (eqb-true t 7 b))) e)
    (λ _. chosen P (t == 9) _ _ (λ b y e. only P UpdatedStock y (ap (λ (n : ℕ). (2, n)) (sym (eqb-true t 9 b))) e)
    (λ _ y e. none P y e))))))

deleted_back : (t : ℕ) (k : RecordKind) → deleted_in t ≡ Some k → kind_numbers k ≡ (3, t)
deleted_back t =
    let P : RecordKind → Type 0 = λ k. kind_numbers k ≡ (3, t) in
    chosen P (t == 5) _ _ (λ b y e. only P DeletedNewOrder y (ap (λ (n : ℕ). (3, n)) (sym (eqb-true t 5 b))) e)
    (λ _ y e. none P y e)

changed_back : (t : ℕ) (k : RecordKind) → changed_in t ≡ Some k → kind_numbers k ≡ (4, t)
changed_back t =
    let P : RecordKind → Type 0 = λ k. kind_numbers k ≡ (4, t) in
    chosen P (t == 1) _ _ (λ b y e. only P ChangedWarehouse y (ap (λ (n : ℕ). (4, n)) (sym (eqb-true t 1 b))) e)
    (λ _. chosen P (t == 2) _ _ (λ b y e. only P ChangedDistrict y (ap (λ (n : ℕ). (4, n)) (sym (eqb-true t 2 b))) e)
    (λ _. chosen P (t == 3) _ _ (λ b y e. only P ChangedCustomer y (ap (λ (n : ℕ). (4, n)) (sym (eqb-true t 3 b))) e)
    (λ _. chosen P (t == 6) _ _ (λ b y e. only P ChangedOrder y (ap (λ (n : ℕ). (4, n)) (sym (eqb-true t 6 b))) e)
    (λ _. chosen P (t == 7) _ _ (λ b y e. only P ChangedOrderLine y (ap (λ (n : ℕ). (4, n)) (sym (eqb-true t 7 b))) e)
    (λ _. chosen P (t == 9) _ _ (λ b y e. only P ChangedStock y (ap (λ (n : ℕ). (4, n)) (sym (eqb-true t 9 b))) e)
    (λ _ y e. none P y e))))))

kind_back : (n : ℕ × ℕ) (k : RecordKind) → kind_of_numbers n ≡ Some k → kind_numbers k ≡ n
kind_back n =
    let P : RecordKind → Type 0 = λ k. kind_numbers k ≡ n in
    chosen P (n.0 == 1) _ _ (λ b y e. inserted_back n.1 y e ∙ ap (λ (d : ℕ). (d, n.1)) (sym (eqb-true n.0 1 b)))
    (λ _. chosen P (n.0 == 2) _ _ (λ b y e. updated_back n.1 y e ∙ ap (λ (d : ℕ). (d, n.1)) (sym (eqb-true n.0 2 b)))
    (λ _. chosen P (n.0 == 3) _ _ (λ b y e. deleted_back n.1 y e ∙ ap (λ (d : ℕ). (d, n.1)) (sym (eqb-true n.0 3 b)))
    (λ _. chosen P (n.0 == 4) _ _ (λ b y e. changed_back n.1 y e ∙ ap (λ (d : ℕ). (d, n.1)) (sym (eqb-true n.0 4 b)))
    (λ _ y e. none P y e))))

AreSmall : ℕ × ℕ → Type 0
AreSmall n = (n.0 < 256 ^ 1) × (n.1 < 256 ^ 1)

kind_there : (k : RecordKind) → AreSmall (kind_numbers k) × (kind_of_numbers (kind_numbers k) ≡ Some k)
unfolding AreSmall
kind_there InsertedHistory = ((omega arith, omega arith), refl)
kind_there InsertedNewOrder = ((omega arith, omega arith), refl)
kind_there InsertedOrder = ((omega arith, omega arith), refl)
kind_there InsertedOrderLine = ((omega arith, omega arith), refl)
kind_there UpdatedWarehouse = ((omega arith, omega arith), refl)
kind_there UpdatedDistrict = ((omega arith, omega arith), refl)
kind_there UpdatedCustomer = ((omega arith, omega arith), refl)
kind_there UpdatedOrder = ((omega arith, omega arith), refl)
kind_there UpdatedOrderLine = ((omega arith, omega arith), refl)
kind_there UpdatedStock = ((omega arith, omega arith), refl)
kind_there DeletedNewOrder = ((omega arith, omega arith), refl)
kind_there ChangedWarehouse = ((omega arith, omega arith), refl)
kind_there ChangedDistrict = ((omega arith, omega arith), refl)
kind_there ChangedCustomer = ((omega arith, omega arith), refl)
kind_there ChangedOrder = ((omega arith, omega arith), refl)
kind_there ChangedOrderLine = ((omega arith, omega arith), refl)
kind_there ChangedStock = ((omega arith, omega arith), refl)

pub kind_law : IsCodec (λ (k : RecordKind). Unit {0}) (λ k. kind_image k) kind_at
unfolding kind_at AreSmall
kind_law =
    as_law kind_of_numbers kind_numbers (λ k. Unit {0}) (λ k h. kind_there k) (λ n k e. (tt, kind_back n k e))
    (pair_law (number_law 1) (number_law 1))

-- ---- links

unlike : (a b : ℕ) → a < b → (a == b) ≡ false
unlike a b lt = grind (arith, nat_tests)

at_address_there : (a : Address) → IsAddress a → (moment : ℕ) (p : Previous) → at_address a moment ≡ Some p
    → previous_of (a.extent, (a.offset, moment)) ≡ Some p
at_address_there a h moment p e =
    let lt = unlike a.extent 65_535 (omega (arith, h.extent)) in
    rw (lt, le-leb _ _ h.extent, le-leb _ _ h.offset) e

committed_there : (a : Address) (moment : ℕ) → 1 ≤ moment → moment ≤ 999_999_999_999
    → at_address a moment ≡ Some (Committed a moment)
committed_there a moment l h =
    rw (unlike moment 18_446_744_073_709_551_615 (omega arith), le-leb _ _ l, le-leb _ _ h) refl

AreNumbers : LinkNumbers → Type 0
AreNumbers n = (n.0 < 256 ^ 2) × ((n.1.0 < 256 ^ 2) × (n.1.1 < 256 ^ 8))

previous_there : (p : Previous) → IsPrevious p → AreNumbers (link_numbers p) × (previous_of (link_numbers p) ≡ Some p)
unfolding AreNumbers
previous_there Nothing h = ((omega arith, (omega arith, omega arith)), refl)
previous_there (Own a) h = (
  (omega (arith, h.extent), (omega (arith, h.offset), omega arith)),
  at_address_there a h 18_446_744_073_709_551_615
      (Own a) refl,
)
previous_there (Committed a moment) h = (
  (omega (arith, h.0.extent), (omega (arith, h.0.offset), omega (arith, h.1.1))),
  at_address_there a h.0 moment (Committed a moment) (committed_there a moment h.1.0 h.1.1),
)

-- that a link stands for these numbers, and is in its ranges
abbrev IsLinkOf : LinkNumbers → Previous → Type 0
IsLinkOf n p = IsPrevious p × (link_numbers p ≡ n)

at_address_back : (a : Address) (moment : ℕ) → IsAddress a → (p : Previous) → at_address a moment ≡ Some p
    → IsLinkOf (a.extent, (a.offset, moment)) p
at_address_back a moment h =
    let P : Previous → Type 0 = λ p. IsLinkOf (a.extent, (a.offset, moment)) p in
    chosen P (moment == 18_446_744_073_709_551_615) _ _
    (λ b y e. only P (Own a) y
    (h, ap (λ (m : ℕ). (a.extent, (a.offset, m))) (sym (eqb-true moment 18_446_744_073_709_551_615 b))) e)
    (λ _. chosen P (nat_le 1 moment && nat_le moment 999_999_999_999) _ _
    (λ b y e.
    let t = both (nat_le 1 moment) (nat_le moment 999_999_999_999) b in
    only P (Committed a moment) y ((h, (leb-true _ _ t.0, leb-true _ _ t.1)), refl) e)
    (λ _ y e. none P y e))

nothing_back : (extent offset moment : ℕ) → extent ≡ 65_535 → (p : Previous) → nothing_at offset moment ≡ Some p
    → IsLinkOf (extent, (offset, moment)) p
nothing_back extent offset moment x =
    let P : Previous → Type 0 = λ p. IsLinkOf (extent, (offset, moment)) p in
    chosen P (offset == 65_535 && moment == 0) _ _
    (λ b y e.
    let t = both (offset == 65_535) (moment == 0) b in
    let o = eqb-true offset 65_535 t.0 in
    let m = eqb-true moment 0 t.1 in
    let same : ◌≡◌ {A = LinkNumbers} (65_535, (65_535, 0)) (extent, (offset, moment)) =
    ap (λ (n : ℕ). (n, (65_535, 0))) (sym x) ∙ ap (λ (n : ℕ). (extent, (n, 0))) (sym o)
    ∙ ap (λ (n : ℕ). (extent, (offset, n))) (sym m) in
    only P Nothing y (tt, same) e)
    (λ _ y e. none P y e)

previous_back : (n : LinkNumbers) (p : Previous) → previous_of n ≡ Some p → IsLinkOf n p
previous_back n =
    let P : Previous → Type 0 = λ p. IsLinkOf n p in
    chosen P (n.0 == 65_535) _ _ (λ b y e. nothing_back n.0 n.1.0 n.1.1 (eqb-true n.0 65_535 b) y e)
    (λ _. chosen P (nat_le n.0 4_095 && nat_le n.1.0 4_095) _ _
    (λ b y e.
    let t = both (nat_le n.0 4_095) (nat_le n.1.0 4_095) b in
    at_address_back (record { extent = n.0; offset = n.1.0 }) n.1.1
    (record { extent = leb-true _ _ t.0; offset = leb-true _ _ t.1 }) y e)
    (λ _ y e. none P y e))

pub previous_law : IsCodec IsPrevious (λ p. previous_image p) previous_at
unfolding previous_at AreNumbers
previous_law =
    as_law previous_of link_numbers IsPrevious (λ p h. previous_there p h) (λ n p e. previous_back n p e)
    (pair_law (number_law 2) (pair_law (number_law 2) (number_law 8)))
