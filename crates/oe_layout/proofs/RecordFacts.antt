-- Records are read exactly.
use Rattle.std.proofs.Common.{◌≡◌, ◌==◌, ◌&&◌, ℕ, ◌^◌, ◌<◌, Bool, true, false, cond, List, [], ◌∷◌, ◌++◌}
use Rattle.std.proofs.Common.{length, drop, Option, Some, None, refl, sym, ap, subst, ◌∙◌, arith, append_assoc}
use Rattle.std.proofs.lemmas.Bool.{eqb-true}
use Rattle.std.proofs.lemmas.Bool.Decides.{nat_tests}
use Rattle.std.proofs.lemmas.List.{append-nil, drop_at}
use Rattle.oe_extent.specs.Images.{number, number_at}
use Rattle.oe_decode.specs.Fronts.{IsBytes, ◌>>=◌, pair_at}
use Rattle.oe_image.specs.Keys.{new_order_key}
use Rattle.oe_decode.specs.Codec.{Takes, IsCodec}
use Rattle.oe_decode.specs.FrontFacts.{some_is, bind_some, both, IsBytes-drop, Takes-then, number_law}
use Rattle.oe_decode.specs.FrontFacts.{pair_law, found_as, finds_as}
use Rattle.oe_decode.proofs.KeyFacts.{warehouse_key_law, district_key_law, customer_key_law, history_key_law}
use Rattle.oe_decode.proofs.KeyFacts.{new_order_key_law, order_key_law, order_line_key_law, stock_key_law}
use Rattle.oe_decode.proofs.RowFacts.{warehouse_law, district_law, customer_law, order_law, order_line_law, stock_law}
use Rattle.oe_decode.proofs.BeforeRowFacts.{warehouse_before_law, district_before_law, customer_before_law}
use Rattle.oe_decode.proofs.BeforeRowFacts.{order_before_law, order_line_before_law, stock_before_law}
use Rattle.oe_model.specs.Lengths.{record_length}
use Rattle.oe_layout.specs.Links.{previous_image, IsPrevious, previous_at}
use Rattle.oe_layout.specs.Kinds.{kind_image, kind_of, is_kind_of, kind_at}
use Rattle.oe_layout.specs.Records.{contents, body_image, record_image, IsInRanges, IsOfLayout}
use Rattle.oe_layout.specs.Records.{record_of_own}
use Rattle.oe_layout.specs.RecordFronts.{contents_at, body_at, framed_by, record_at, ReadsRecord}
use Rattle.oe_rows.specs.declared.layouts.Layout.{Layout}
use Rattle.oe_layout.specs.declared.links.Previous.{Previous}
use Rattle.oe_layout.specs.declared.kinds.RecordKind.{RecordKind}
use Rattle.oe_layout.specs.declared.kinds.RecordKind.TheVariants as kind
use Rattle.oe_layout.specs.declared.records.OwnRecord.{OwnRecord}
use Rattle.oe_layout.specs.declared.records.OwnRecord.TheVariants as own
use Rattle.oe_layout.proofs.LengthFacts.{joined_long, number_long, body_long, record_long}
use Rattle.oe_layout.proofs.LinkFacts.{kind_law, previous_law}
use Rattle.oe_layout.proofs.ShortFacts.{record_short}

abbrev own_contents : OwnRecord → List ℕ
own_contents b = contents (record_of_own b)

-- a record of that kind, in its ranges
abbrev IsOf : RecordKind → OwnRecord → Type 0
IsOf k b = (kind_of (record_of_own b) ≡ k) × IsInRanges (record_of_own b)

contents_found : (k : RecordKind) (bytes : List ℕ) → IsBytes bytes → (b : OwnRecord) (rest : List ℕ)
    → contents_at k bytes ≡ Some (b, rest)
    → IsOf k b × (bytes ≡ own_contents b ++ rest)
contents_found kind.InsertedHistory bytes fits b rest e = found_as (λ x. own.InsertedHistory x)
    (IsOf kind.InsertedHistory) own_contents (λ x h. (refl, (h, tt))) (λ x. refl) history_key_law bytes fits b rest e
contents_found kind.InsertedNewOrder bytes fits b rest e = found_as (λ x. own.InsertedNewOrder x)
    (IsOf kind.InsertedNewOrder) own_contents (λ x h. (refl, (h, tt))) (λ x. refl) new_order_key_law bytes fits b rest e
contents_found kind.InsertedOrder bytes fits b rest e = found_as (λ x. own.InsertedOrder x) (IsOf kind.InsertedOrder)
    own_contents (λ x h. (refl, (h, tt))) (λ x. refl) order_key_law bytes fits b rest e
contents_found kind.InsertedOrderLine bytes fits b rest e = found_as (λ x. own.InsertedOrderLine x)
    (IsOf kind.InsertedOrderLine) own_contents (λ x h. (refl, (h, tt))) (λ x. refl) order_line_key_law bytes fits b rest
    e
contents_found kind.UpdatedWarehouse bytes fits b rest e = found_as (λ x. own.UpdatedWarehouse x.0 x.1)
    (IsOf kind.UpdatedWarehouse) own_contents (λ x h. (refl, (h.0, h.1))) (λ x. refl)
    (pair_law warehouse_key_law warehouse_law) bytes fits b rest e
contents_found kind.UpdatedDistrict bytes fits b rest e = found_as (λ x. own.UpdatedDistrict x.0 x.1)
    (IsOf kind.UpdatedDistrict) own_contents (λ x h. (refl, (h.0, h.1))) (λ x. refl)
    (pair_law district_key_law district_law) bytes fits b rest e
contents_found kind.UpdatedCustomer bytes fits b rest e = found_as (λ x. own.UpdatedCustomer x.0 x.1)
    (IsOf kind.UpdatedCustomer) own_contents (λ x h. (refl, (h.0, h.1))) (λ x. refl)
    (pair_law customer_key_law customer_law) bytes fits b rest e
contents_found kind.UpdatedOrder bytes fits b rest e = found_as (λ x. own.UpdatedOrder x.0 x.1) (IsOf kind.UpdatedOrder)
    own_contents (λ x h. (refl, (h.0, h.1))) (λ x. refl) (pair_law order_key_law order_law) bytes fits b rest e
contents_found kind.UpdatedOrderLine bytes fits b rest e = found_as (λ x. own.UpdatedOrderLine x.0 x.1)
    (IsOf kind.UpdatedOrderLine) own_contents (λ x h. (refl, (h.0, h.1))) (λ x. refl)
    (pair_law order_line_key_law order_line_law) bytes fits b rest e
contents_found kind.UpdatedStock bytes fits b rest e = found_as (λ x. own.UpdatedStock x.0 x.1) (IsOf kind.UpdatedStock)
    own_contents (λ x h. (refl, (h.0, h.1))) (λ x. refl) (pair_law stock_key_law stock_law) bytes fits b rest e
contents_found kind.DeletedNewOrder bytes fits b rest e = found_as (λ x. own.DeletedNewOrder x)
    (IsOf kind.DeletedNewOrder) own_contents (λ x h. (refl, (h, tt))) (λ x. append-nil (new_order_key x))
    new_order_key_law bytes fits b rest e
contents_found kind.ChangedWarehouse bytes fits b rest e = found_as (λ x. own.ChangedWarehouse x.0 x.1)
    (IsOf kind.ChangedWarehouse) own_contents (λ x h. (refl, (h.0, h.1))) (λ x. refl)
    (pair_law warehouse_key_law warehouse_before_law) bytes fits b rest e
contents_found kind.ChangedDistrict bytes fits b rest e = found_as (λ x. own.ChangedDistrict x.0 x.1)
    (IsOf kind.ChangedDistrict) own_contents (λ x h. (refl, (h.0, h.1))) (λ x. refl)
    (pair_law district_key_law district_before_law) bytes fits b rest e
contents_found kind.ChangedCustomer bytes fits b rest e = found_as (λ x. own.ChangedCustomer x.0 x.1)
    (IsOf kind.ChangedCustomer) own_contents (λ x h. (refl, (h.0, h.1))) (λ x. refl)
    (pair_law customer_key_law customer_before_law) bytes fits b rest e
contents_found kind.ChangedOrder bytes fits b rest e = found_as (λ x. own.ChangedOrder x.0 x.1)
    (IsOf kind.ChangedOrder) own_contents (λ x h. (refl, (h.0, h.1))) (λ x. refl)
    (pair_law order_key_law order_before_law) bytes fits b rest e
contents_found kind.ChangedOrderLine bytes fits b rest e = found_as (λ x. own.ChangedOrderLine x.0 x.1)
    (IsOf kind.ChangedOrderLine) own_contents (λ x h. (refl, (h.0, h.1))) (λ x. refl)
    (pair_law order_line_key_law order_line_before_law) bytes fits b rest e
contents_found kind.ChangedStock bytes fits b rest e = found_as (λ x. own.ChangedStock x.0 x.1)
    (IsOf kind.ChangedStock) own_contents (λ x h. (refl, (h.0, h.1))) (λ x. refl)
    (pair_law stock_key_law stock_before_law) bytes fits b rest e

contents_again : (b : OwnRecord) (rest : List ℕ) → IsInRanges (record_of_own b)
    → contents_at (kind_of (record_of_own b)) (own_contents b ++ rest) ≡ Some (b, rest)
contents_again (own.InsertedHistory k) rest h = finds_as (λ x. own.InsertedHistory x) history_key_law k
    (own_contents (own.InsertedHistory k) ++ rest) rest h.0 refl
contents_again (own.InsertedNewOrder k) rest h = finds_as (λ x. own.InsertedNewOrder x) new_order_key_law k
    (own_contents (own.InsertedNewOrder k) ++ rest) rest h.0 refl
contents_again (own.InsertedOrder k) rest h = finds_as (λ x. own.InsertedOrder x) order_key_law k
    (own_contents (own.InsertedOrder k) ++ rest) rest h.0 refl
contents_again (own.InsertedOrderLine k) rest h = finds_as (λ x. own.InsertedOrderLine x) order_line_key_law k
    (own_contents (own.InsertedOrderLine k) ++ rest) rest h.0 refl
contents_again (own.UpdatedWarehouse k r) rest h = finds_as (λ x. own.UpdatedWarehouse x.0 x.1)
    (pair_law warehouse_key_law warehouse_law) (k, r) (own_contents (own.UpdatedWarehouse k r) ++ rest) rest (h.0, h.1)
    refl
contents_again (own.UpdatedDistrict k r) rest h = finds_as (λ x. own.UpdatedDistrict x.0 x.1)
    (pair_law district_key_law district_law) (k, r) (own_contents (own.UpdatedDistrict k r) ++ rest) rest (h.0, h.1)
    refl
contents_again (own.UpdatedCustomer k r) rest h = finds_as (λ x. own.UpdatedCustomer x.0 x.1)
    (pair_law customer_key_law customer_law) (k, r) (own_contents (own.UpdatedCustomer k r) ++ rest) rest (h.0, h.1)
    refl
contents_again (own.UpdatedOrder k r) rest h = finds_as (λ x. own.UpdatedOrder x.0 x.1)
    (pair_law order_key_law order_law) (k, r) (own_contents (own.UpdatedOrder k r) ++ rest) rest (h.0, h.1) refl
contents_again (own.UpdatedOrderLine k r) rest h = finds_as (λ x. own.UpdatedOrderLine x.0 x.1)
    (pair_law order_line_key_law order_line_law) (k, r) (own_contents (own.UpdatedOrderLine k r) ++ rest) rest
    (h.0, h.1) refl
contents_again (own.UpdatedStock k r) rest h = finds_as (λ x. own.UpdatedStock x.0 x.1)
    (pair_law stock_key_law stock_law) (k, r) (own_contents (own.UpdatedStock k r) ++ rest) rest (h.0, h.1) refl
contents_again (own.DeletedNewOrder k) rest h = finds_as (λ x. own.DeletedNewOrder x) new_order_key_law k
    (own_contents (own.DeletedNewOrder k) ++ rest) rest h.0
    (ap (λ (l : List ℕ). l ++ rest) (append-nil (new_order_key k)))
contents_again (own.ChangedWarehouse k c) rest h = finds_as (λ x. own.ChangedWarehouse x.0 x.1)
    (pair_law warehouse_key_law warehouse_before_law) (k, c) (own_contents (own.ChangedWarehouse k c) ++ rest) rest
    (h.0, h.1) refl
contents_again (own.ChangedDistrict k c) rest h = finds_as (λ x. own.ChangedDistrict x.0 x.1)
    (pair_law district_key_law district_before_law) (k, c) (own_contents (own.ChangedDistrict k c) ++ rest) rest
    (h.0, h.1) refl
contents_again (own.ChangedCustomer k c) rest h = finds_as (λ x. own.ChangedCustomer x.0 x.1)
    (pair_law customer_key_law customer_before_law) (k, c) (own_contents (own.ChangedCustomer k c) ++ rest) rest
    (h.0, h.1) refl
contents_again (own.ChangedOrder k c) rest h = finds_as (λ x. own.ChangedOrder x.0 x.1)
    (pair_law order_key_law order_before_law) (k, c) (own_contents (own.ChangedOrder k c) ++ rest) rest
    (h.0, h.1) refl
contents_again (own.ChangedOrderLine k c) rest h = finds_as (λ x. own.ChangedOrderLine x.0 x.1)
    (pair_law order_line_key_law order_line_before_law) (k, c) (own_contents (own.ChangedOrderLine k c) ++ rest) rest
    (h.0, h.1) refl
contents_again (own.ChangedStock k c) rest h = finds_as (λ x. own.ChangedStock x.0 x.1)
    (pair_law stock_key_law stock_before_law) (k, c) (own_contents (own.ChangedStock k c) ++ rest) rest
    (h.0, h.1) refl

-- what is behind a text is bytes, as the whole is
behind_fits : (bytes front rest : List ℕ) → IsBytes bytes → bytes ≡ front ++ rest → IsBytes rest
behind_fits bytes front rest fits e =
    let same : drop (length front) bytes ≡ rest = ap (drop (length front)) e ∙ drop_at front rest (length front) refl in
    subst IsBytes same (IsBytes-drop (length front) bytes fits)

contents_law : (k : RecordKind) → IsCodec (IsOf k) own_contents (contents_at k)
contents_law k = record {
  takes = λ bytes x fits e.
      let f = contents_found k bytes fits x.0 x.1 e in
      (f.0, record { parts = f.1; rest_fits = behind_fits bytes (own_contents x.0) x.1 fits f.1 });
  again = λ b rest h. subst (λ (j : RecordKind). contents_at j (own_contents b ++ rest) ≡ Some (b, rest)) h.0
      (contents_again b rest h.1);
}

-- ---- what stands between the lengths

abbrev IsBody : Previous × OwnRecord → Type 0
IsBody v = IsPrevious v.0 × IsInRanges (record_of_own v.1)

abbrev own_body : Previous × OwnRecord → List ℕ
own_body v = body_image v.0 (record_of_own v.1)

body_takes : (bytes : List ℕ) (v : (Previous × OwnRecord) × List ℕ) → IsBytes bytes → body_at bytes ≡ Some v
    → IsBody v.0 × Takes bytes (own_body v.0) v.1
unfolding body_at
body_takes bytes v fits e =
    let k = bind_some (kind_at bytes)
    (λ k. previous_at k.1 >>= λ p. contents_at k.0 p.1 >>= λ b. Some ((p.0, b.0), b.1)) v e in
    let p = bind_some (previous_at k.0.1) (λ p. contents_at k.0.0 p.1 >>= λ b. Some ((p.0, b.0), b.1)) v k.2 in
    let b = bind_some (contents_at k.0.0 p.0.1) (λ b. Some ((p.0.0, b.0), b.1)) v p.2 in
    let tk = kind_law.takes bytes k.0 fits k.1 in
    let tp = previous_law.takes k.0.1 p.0 tk.1.rest_fits p.1 in
    let tb = (contents_law k.0.0).takes p.0.1 b.0 tp.1.rest_fits b.1 in
    let whole = Takes-then bytes (kind_image k.0.0) k.0.1 (previous_image p.0.0 ++ own_contents b.0.0) b.0.1 tk.1
    (Takes-then k.0.1 (previous_image p.0.0) p.0.1 (own_contents b.0.0) b.0.1 tp.1 tb.1) in
    let same = some_is ((p.0.0, b.0.0), b.0.1) v b.2 in
    let named = subst (λ (j : RecordKind). Takes bytes (kind_image j ++ (previous_image p.0.0 ++ own_contents b.0.0))
    b.0.1) (sym tb.0.0) whole in
    subst (λ (w : (Previous × OwnRecord) × List ℕ). IsBody w.0 × Takes bytes (own_body w.0) w.1) same
    ((tp.0, tb.0.1), named)

body_again : (v : Previous × OwnRecord) (rest : List ℕ) → IsBody v → body_at (own_body v ++ rest) ≡ Some (v, rest)
unfolding body_at
body_again v rest h =
    let k = kind_of (record_of_own v.1) in
    let first = append_assoc (kind_image k) (previous_image v.0 ++ own_contents v.1) rest in
    let second = append_assoc (previous_image v.0) (own_contents v.1) rest in
    let a = kind_law.again k (previous_image v.0 ++ (own_contents v.1 ++ rest)) tt in
    let b = previous_law.again v.0 (own_contents v.1 ++ rest) h.0 in
    let c = contents_again v.1 rest h.1 in
    rw (first, second, a, b, c) refl

body_law : IsCodec IsBody own_body body_at
body_law = record { takes = λ bytes v fits e. body_takes bytes v fits e; again = λ v rest h. body_again v rest h }

-- ---- the whole

-- the two lengths, and what stands between them
abbrev Whole : Type 0
Whole = ℕ × ((Previous × OwnRecord) × ℕ)

abbrev IsWhole : Whole → Type 0
IsWhole x = (x.0 < 256 ^ 2) × (IsBody x.1.0 × (x.1.1 < 256 ^ 2))

abbrev whole_image : Whole → List ℕ
whole_image x = number 2 x.0 ++ (own_body x.1.0 ++ number 2 x.1.1)

abbrev whole_at : List ℕ → Option (Whole × List ℕ)
whole_at bytes = pair_at (number_at 2) (pair_at body_at (number_at 2)) bytes

whole_law : IsCodec IsWhole whole_image whole_at
whole_law = pair_law (number_law 2) (pair_law body_law (number_law 2))

-- what is framed by that length
pub record IsFramedBy (size : ℕ) (x : Whole × List ℕ) (v : Previous × OwnRecord) : Type 0 where
  pub first : x.0.0 ≡ size
  pub last : x.0.1.1 ≡ size
  pub end : length x.1 ≡ 0
  pub value : x.0.1.0 ≡ v

test_some : (size : ℕ) (x : Whole × List ℕ) (b : Bool) (v : Previous × OwnRecord)
    → (b ≡ true → ((x.0.0 == size && x.0.1.1 == size) && length x.1 == 0) ≡ true)
    → cond b (Some x.0.1.0) None ≡ Some v → IsFramedBy size x v
test_some size x true v f e =
    let t = both (x.0.0 == size && x.0.1.1 == size) (length x.1 == 0) (f refl) in
    let u = both (x.0.0 == size) (x.0.1.1 == size) t.0 in
    record { first = eqb-true _ _ u.0; last = eqb-true _ _ u.1; end = eqb-true _ _ t.1; value = some_is x.0.1.0 v e }
test_some size x false v f e = absurd cc

framed_some : (size : ℕ) (r : Option (Whole × List ℕ)) (v : Previous × OwnRecord) → framed_by size r ≡ Some v
    → (x : Whole × List ℕ) × (r ≡ Some x) × IsFramedBy size x v
framed_some size None v e = absurd cc
framed_some size (Some x) v e =
    (x, refl, test_some size x ((x.0.0 == size && x.0.1.1 == size) && length x.1 == 0) v (λ h. h) e)

whole_is : (bytes : List ℕ) (n m : ℕ) (v : Previous × OwnRecord) (rest : List ℕ) → n ≡ length bytes → m ≡ length bytes
    → length rest ≡ 0 → IsBody v
    → bytes ≡ whole_image (n, (v, m)) ++ rest → bytes ≡ record_image v.0 (record_of_own v.1)
whole_is bytes n m v (c ∷ rest) a b z h e = absurd (omega arith)
whole_is bytes n m v [] a b z h e =
    let alone : bytes ≡ whole_image (n, (v, m)) = e ∙ append-nil (whole_image (n, (v, m))) in
    let long = joined_long (number_long 2 n) (joined_long (body_long v.0 (record_of_own v.1) h.1) (number_long 2 m)) in
    let size : length bytes ≡ record_length (record_of_own v.1) = ap length alone ∙ long.is ∙ omega arith in
    alone ∙ ap (λ (i : ℕ). number 2 i ++ (own_body v ++ number 2 m)) (a ∙ size)
    ∙ ap (λ (i : ℕ). number 2 (record_length (record_of_own v.1)) ++ (own_body v ++ number 2 i)) (b ∙ size)

record_found : (bytes : List ℕ) → IsBytes bytes → (v : Previous × OwnRecord) → record_at bytes ≡ Some v
    → IsBody v × (bytes ≡ record_image v.0 (record_of_own v.1))
unfolding record_at
record_found bytes fits v e =
    let f = framed_some (length bytes) (whole_at bytes) v e in
    let t = whole_law.takes bytes f.0 fits f.1 in
    subst (λ (w : Previous × OwnRecord). IsBody w × (bytes ≡ record_image w.0 (record_of_own w.1))) f.2.value
    (t.0.1.0, whole_is bytes f.0.0.0 f.0.0.1.1 f.0.0.1.0 f.0.1 f.2.first f.2.last f.2.end t.0.1.0 t.1.parts)

-- ---- and back

same_number : (n : ℕ) → (n == n) ≡ true
same_number n = grind (arith, nat_tests)

framed_again : (n : ℕ) (v : Previous × OwnRecord) → framed_by n (Some ((n, (v, n)), [])) ≡ Some v
framed_again n v = rw (same_number n) refl

pub record_finds : (v : Previous × OwnRecord) (bytes : List ℕ) → IsBody v → bytes ≡ record_image v.0 (record_of_own v.1)
    → record_at bytes ≡ Some v
unfolding record_at
record_finds v bytes h e =
    let n = record_length (record_of_own v.1) in
    let small = record_short (record_of_own v.1) h.1 in
    let alone : bytes ≡ whole_image (n, (v, n)) ++ [] = e ∙ sym (append-nil (whole_image (n, (v, n)))) in
    let read : whole_at bytes ≡ Some ((n, (v, n)), []) = ap whole_at alone
    ∙ whole_law.again (n, (v, n)) [] (omega (arith, small), (h, omega (arith, small))) in
    let size : length bytes ≡ n = ap length e ∙ (record_long v.0 (record_of_own v.1) h.1).is in
    ap (λ (r : Option (Whole × List ℕ)). framed_by (length bytes) r) read
    ∙ ap (λ (i : ℕ). framed_by i (Some ((n, (v, n)), []))) size ∙ framed_again n v

-- what reading without a layout answers, where it is of the layout
pub record_of_layout : (layout : Layout) (bytes : List ℕ) (v : Previous × OwnRecord) → IsBytes bytes
    → record_at bytes ≡ Some v → IsOfLayout layout (record_of_own v.1)
    → ReadsRecord layout bytes (Some v)
record_of_layout layout bytes v fits read of = record {
  found = λ p b e.
      let same : ◌≡◌ {A = Previous × OwnRecord} v (p, b) = some_is v (p, b) e in
      let f = record_found bytes fits (p, b) (read ∙ ap (λ (w : Previous × OwnRecord). Some w) same) in (
        f.0.0,
        f.0.1,
        f.1,
        subst (λ (w : Previous × OwnRecord). IsOfLayout layout (record_of_own w.1)) same of,
      );
  finds = λ p b hp hb ho e. sym read ∙ record_finds (p, b) bytes (hp, hb) e;
}

-- where it answers none, or one of the other layout, there is none
pub no_record : (layout : Layout) (bytes : List ℕ) → record_at bytes ≡ None → ReadsRecord layout bytes None
no_record layout bytes none = record {
  found = λ p b e. absurd cc;
  finds = λ p b hp hb ho e. sym none ∙ record_finds (p, b) bytes (hp, hb) e;
}

pub record_of_other : (layout : Layout) (bytes : List ℕ) (v : Previous × OwnRecord) → record_at bytes ≡ Some v
    → is_kind_of layout (kind_of (record_of_own v.1)) ≡ false → ReadsRecord layout bytes None
record_of_other layout bytes v read other = record {
  found = λ p b e. absurd cc;
  finds = λ p b hp hb ho e.
      let same : v ≡ (p, b) = some_is v (p, b) (sym read ∙ record_finds (p, b) bytes (hp, hb) e) in
      let of : IsOfLayout layout (record_of_own v.1) =
      subst (λ (w : Previous × OwnRecord). IsOfLayout layout (record_of_own w.1)) (sym same) ho in
      absurd cc;
}
