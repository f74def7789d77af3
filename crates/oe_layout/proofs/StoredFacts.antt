-- What stored bytes tell, and where its parts stand.
use Rattle.std.proofs.Common.{◌≡◌, ℕ, ◌-◌, List, ◌++◌, length, take, drop, Option, Some, None, Bor, refl, sym, ap}
use Rattle.std.proofs.Common.{subst, ◌∙◌, append_assoc}
use Rattle.std.specs.Option.{option_map, IsSome}
use Rattle.std.proofs.lemmas.List.{drop_at, take_rest}
use Rattle.oe_extent.specs.Images.{number}
use Rattle.oe_rows.specs.declared.keys.Key.{Key}
use Rattle.oe_rows.specs.declared.keys.Table.{Table}
use Rattle.oe_rows.specs.Key.{table_of}
use Rattle.oe_decode.specs.Fronts.{Reads}
use Rattle.oe_image.specs.Keys.{key_image, IsKey}
use Rattle.oe_decode.specs.KeyFronts.{IsKeyOf}
use Rattle.oe_decode.specs.FrontFacts.{some_is}
use Rattle.oe_model.specs.Changes as model
use Rattle.oe_model.specs.Changes.{Record, record_key}
use Rattle.oe_model.specs.Lengths.{record_length}
use Rattle.oe_layout.specs.Links.{previous_image, previous_at, IsPrevious, link_numbers}
use Rattle.oe_layout.specs.Kinds.{kind_image, kind_of, kind_at}
use Rattle.oe_layout.specs.Records.{before_image, key_and_before, contents, record_image, IsInRanges}
use Rattle.oe_layout.specs.Records.{record_of_own}
use Rattle.oe_layout.specs.RecordFronts.{record_at}
use Rattle.oe_layout.specs.Stored.{IsStoredRecord, record_stored, record_in_bytes, table_changed}
use Rattle.oe_layout.specs.declared.links.Previous.{Previous}
use Rattle.oe_layout.specs.declared.records.OwnRecord.{OwnRecord}
use Rattle.oe_layout.proofs.LengthFacts.{joined_long, number_long, kind_long, link_long}
use Rattle.oe_layout.proofs.LinkFacts.{kind_law, previous_law}
use Rattle.oe_layout.proofs.RecordFacts.{record_finds}

-- ---- which record it is

pub told_by : (bytes : List ℕ) (p : Previous) (b : OwnRecord) → IsPrevious p → IsInRanges (record_of_own b)
    → bytes ≡ record_image p (record_of_own b)
    → record_in_bytes bytes ≡ record_of_own b
told_by bytes p b hp hb e = ap record_stored (record_finds (p, b) bytes (hp, hb) e)

pub told_is : (bytes : List ℕ) (h : IsStoredRecord bytes) → record_in_bytes bytes ≡ record_of_own h.before
told_is bytes h = told_by bytes h.previous h.before h.link h.ranges h.image

pub IsStored-told : (bytes : List ℕ) → IsStoredRecord bytes → (p : Previous)
    × (bytes ≡ record_image p (record_in_bytes bytes))
    × IsInRanges (record_in_bytes bytes)
IsStored-told bytes h =
    let same = sym (told_is bytes h) in
    (h.previous, h.image ∙ ap (record_image h.previous) same, subst IsInRanges same h.ranges)

-- it is read whole
pub read_is : (bytes : List ℕ) (r : Option (Previous × OwnRecord)) → IsStoredRecord bytes → r ≡ record_at bytes
    → (v : Previous × OwnRecord) × (r ≡ Some v) × (record_of_own v.1 ≡ record_in_bytes bytes)
read_is bytes r h e =
    let v : Previous × OwnRecord = (h.previous, h.before) in
    (v, e ∙ record_finds v bytes (h.link, h.ranges) h.image, sym (told_is bytes h))

-- ---- where its parts stand

abbrev length_image : Record → List ℕ
length_image b = number 2 (record_length b)

parts : (p : Previous) (b : Record) → record_image p b ≡ length_image b
    ++ (kind_image (kind_of b) ++ ((previous_image p ++ contents b) ++ length_image b))
parts p b = ap (λ (l : List ℕ). length_image b ++ l)
    (append_assoc (kind_image (kind_of b)) (previous_image p ++ contents b) (length_image b))

front : (p : Previous) (b : Record)
    → record_image p b ≡ (length_image b ++ (kind_image (kind_of b) ++ previous_image p))
    ++ (contents b ++ length_image b)
front p b =
    let k = kind_image (kind_of b) in
    let rest = contents b ++ length_image b in
    let second : (previous_image p ++ contents b) ++ length_image b ≡ previous_image p ++ rest =
    append_assoc (previous_image p) (contents b) (length_image b) in
    let third : k ++ (previous_image p ++ rest) ≡ (k ++ previous_image p) ++ rest =
    sym (append_assoc k (previous_image p) rest) in
    parts p b ∙ ap (λ (l : List ℕ). length_image b ++ (k ++ l)) second ∙ ap (λ (l : List ℕ). length_image b ++ l) third
    ∙ sym (append_assoc (length_image b) (k ++ previous_image p) rest)

front_length : (p : Previous) (b : Record)
    → length (length_image b ++ (kind_image (kind_of b) ++ previous_image p)) ≡ 16
front_length p b = (joined_long (number_long 2 (record_length b))
    (joined_long (kind_long (kind_of b)) (link_long (link_numbers p)))).is

-- the kind stands behind the length
pub kind_there : (bytes : List ℕ) → IsStoredRecord bytes
    → (rest : List ℕ) × (kind_at (take (length bytes - 2) (drop 2 bytes))
    ≡ Some (kind_of (record_in_bytes bytes), rest))
kind_there bytes h =
    let s = IsStored-told bytes h in
    let b = record_in_bytes bytes in
    let rest = (previous_image s.0 ++ contents b) ++ length_image b in
    let here : take (length bytes - 2) (drop 2 bytes) ≡ kind_image (kind_of b) ++ rest =
    take_rest bytes 2 ∙ ap (drop 2) (s.1 ∙ parts s.0 b)
    ∙ drop_at (length_image b) (kind_image (kind_of b) ++ rest) 2 (number_long 2 (record_length b)).is in
    (rest, ap kind_at here ∙ kind_law.again (kind_of b) rest tt)

-- the link stands behind the kind
pub link_there : (bytes : List ℕ) (p : Previous) (b : Record) → IsPrevious p → bytes ≡ record_image p b
    → (rest : List ℕ) × (previous_at (take (length bytes - 4) (drop 4 bytes)) ≡ Some (p, rest))
link_there bytes p b hp e =
    let k = kind_image (kind_of b) in
    let rest = contents b ++ length_image b in
    let here : record_image p b ≡ (length_image b ++ k) ++ (previous_image p ++ rest) =
    parts p b ∙ ap (λ (l : List ℕ). length_image b ++ (k ++ l))
    (append_assoc (previous_image p) (contents b) (length_image b))
    ∙ sym (append_assoc (length_image b) k (previous_image p ++ rest)) in
    let behind : take (length bytes - 4) (drop 4 bytes) ≡ previous_image p ++ rest =
    take_rest bytes 4 ∙ ap (drop 4) (e ∙ here)
    ∙ drop_at (length_image b ++ k) (previous_image p ++ rest) 4
    (joined_long (number_long 2 (record_length b)) (kind_long (kind_of b))).is in
    (rest, ap previous_at behind ∙ previous_law.again p rest hp)

-- the key stands behind the link
pub contents_there : (bytes : List ℕ) → IsStoredRecord bytes
    → take (length bytes - 16) (drop 16 bytes) ≡ contents (record_in_bytes bytes)
    ++ number 2 (record_length (record_in_bytes bytes))
contents_there bytes h =
    let s = IsStored-told bytes h in
    let b = record_in_bytes bytes in
    take_rest bytes 16 ∙ ap (drop 16) (s.1 ∙ front s.0 b)
    ∙ drop_at (length_image b ++ (kind_image (kind_of b) ++ previous_image s.0)) (contents b ++ length_image b) 16
    (front_length s.0 b)

key_first : (k : List ℕ) (r : Option (List ℕ)) (tail : List ℕ)
    → (rest : List ℕ) × (key_and_before k r ++ tail ≡ k ++ rest)
key_first k None tail = (tail, refl)
key_first k (Some r) tail = (r ++ tail, append_assoc k r tail)

pub key_there : (b : Record) → (rest : List ℕ)
    × (contents b ++ number 2 (record_length b) ≡ key_image (record_key b) ++ rest)
key_there b = key_first (key_image (record_key b)) (before_image b) (number 2 (record_length b))

pub table_is : (b : Record) → table_of (record_key b) ≡ table_changed (kind_of b)
table_is (model.InsertedHistory k v) = refl
table_is (model.InsertedNewOrder k v) = refl
table_is (model.InsertedOrder k v) = refl
table_is (model.InsertedOrderLine k v) = refl
table_is (model.UpdatedWarehouse k v) = refl
table_is (model.UpdatedDistrict k v) = refl
table_is (model.UpdatedCustomer k v) = refl
table_is (model.UpdatedOrder k v) = refl
table_is (model.UpdatedOrderLine k v) = refl
table_is (model.UpdatedStock k v) = refl
table_is (model.DeletedNewOrder k v) = refl
table_is (model.ChangedWarehouse k v) = refl
table_is (model.ChangedDistrict k v) = refl
table_is (model.ChangedCustomer k v) = refl
table_is (model.ChangedOrder k v) = refl
table_is (model.ChangedOrderLine k v) = refl
table_is (model.ChangedStock k v) = refl

-- ---- what was read of the front of bytes

pub seen_first : {X : Type 0} (r : Option (X × Bor (List ℕ))) (u : X × Bor (List ℕ)) (x : X) (rest : List ℕ)
    → r ≡ Some u
    → option_map {U = X × List ℕ} (λ x. (x.0, x.1.now)) r ≡ Some (x, rest) → u.0 ≡ x
seen_first None u x rest e f = absurd cc
seen_first {X = X} (Some v) u x rest e f =
    let one : v ≡ u = some_is v u e in
    let two : ◌≡◌ {A = X × List ℕ} (v.0, v.1.now) (x, rest) = some_is (v.0, v.1.now) (x, rest) f in
    ap (λ (p : X × Bor (List ℕ)). p.0) (sym one) ∙ ap (λ (p : X × List ℕ). p.0) two

pub some_front : {X : Type 0} (r : Option (X × Bor (List ℕ))) (v : X × List ℕ)
    → option_map {U = X × List ℕ} (λ x. (x.0, x.1.now)) r ≡ Some v → IsSome r
some_front None v e = absurd cc
some_front (Some u) v e = refl

pub none_front : {X : Type 0} (r : Option (X × Bor (List ℕ))) (v : X × List ℕ) → r ≡ None
    → option_map {U = X × List ℕ} (λ x. (x.0, x.1.now)) r ≡ Some v → ⊥
none_front None v n e = absurd cc
none_front (Some u) v n e = absurd cc

-- ---- the key

pub key_read : (b : Record) (t : Table) (bytes : List ℕ) (r : Option (Key × List ℕ)) → IsKey (record_key b)
    → t ≡ table_changed (kind_of b)
    → bytes ≡ contents b ++ number 2 (record_length b) → Reads (IsKeyOf t) key_image bytes r
    → (rest : List ℕ) × (r ≡ Some (record_key b, rest))
key_read b t bytes r fits et e reads =
    let k = key_there b in
    (k.0, reads.finds (record_key b) k.0 (table_is b ∙ sym et, fits) (e ∙ k.1))

pub key_fits : (bytes : List ℕ) → IsStoredRecord bytes → IsKey (record_key (record_in_bytes bytes))
key_fits bytes h = (IsStored-told bytes h).2.0
