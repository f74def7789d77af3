-- Warehouses with their ten districts.
use Rattle.std.proofs.Common.{◌≡◌, ℕ, zero, suc, ◌+◌, ◌-◌, ◌<◌, ◌≤◌, ◌⊎◌, inl, inr, false, List, [], ◌∷◌, ◌++◌}
use Rattle.std.proofs.Common.{Option, Some, None, sym, ap, subst, ◌∙◌, refl, arith}
use Rattle.std.specs.Prelude.{IsSome, is_some, option_map, if◌then◌else◌}
use Rattle.std.specs.Int.{IsInRange}
use Rattle.std.proofs.lemmas.Bool.{cases_eq}
use Rattle.std.specs.FinMap.{FinMap, get, insert, empty}
use Rattle.oe_rows.specs.Key.{warehouse_cmp, district_cmp}
use Rattle.oe_rows.proofs.KeyFacts.{warehouse_total, exact_warehouse, district_total, exact_district}
use Rattle.oe_rows.specs.declared.keys.Key.TheVariants as key
use Rattle.oe_rows.specs.declared.keys.WarehouseKey.{WarehouseKey}
use Rattle.oe_rows.specs.declared.keys.DistrictKey.{DistrictKey}
use Rattle.oe_rows.specs.declared.rows.Row.TheVariants as row
use Rattle.oe_rows.specs.declared.warehouses.Warehouse.{Warehouse}
use Rattle.oe_rows.specs.declared.districts.District.{District}
use Rattle.oe_model.specs.Keys.{warehouse_of_district}
use Rattle.oe_model.specs.Rows.{Rows, row_at}
use Rattle.oe_model.proofs.PresenceFacts.{some-map, present_some}
use Rattle.oe_store.specs.Places.{no_rows}
use Rattle.oe_file_tables.specs.declared.lines.Numbered.{Numbered}
use Rattle.oe_file_loading.specs.declared.loading.Apart as apart
use Rattle.oe_table.specs.Table.{rows_of}
use Rattle.oe_file_loading.specs.declared.homes.Homes.{Homes}
use Rattle.oe_file_loading.specs.Homes.{home_rows, districts_from, HasTen, AreHomes, PutsDistrict, AreDistricts}
use Rattle.oe_file_loading.specs.Loaded.{HomesPut, PutsWarehouses, PutsDistricts}
use Rattle.oe_file_loading.specs.Placing.{HasRow, missing_of, IsRowOf, Put}
use Rattle.oe_file_loading.proofs.BaseFacts.{grown, own_row, only_row, only_value, no_row, no_such, present}
use Rattle.oe_file_loading.proofs.PlaceFacts.{none_missing, met_next, met_first, lacks_first}
use Rattle.oe_file_loading.proofs.PlaceFacts.{row_before, row_last, row_cases, put_keeps}
use Rattle.oe_file_loading.proofs.PlaceFacts.{put_kept, put_met, only_put}

-- ---- one district more

pub put_one_district : (old new : FinMap district_cmp District) (key : DistrictKey) (x : District)
    → IsInRange 1 10 key.district → new ≡ insert old key x → PutsDistrict old new key x
put_one_district old new key x range e = record {
  grows = λ k h. subst (λ m. IsSome (get m k)) (sym e) (grown district_total exact_district old key x k h);
  put = subst (λ m. IsSome (get m key)) (sym e) (own_row district_total exact_district old key x);
  only = λ k h. here k (only_row district_total exact_district old key x k (subst (λ m. IsSome (get m k)) e h));
  rows = λ k y h. only_value district_total exact_district old key x k y (ap (λ m. get m k) (sym e) ∙ h);
}
  where
    here : (k : DistrictKey) → (k ≡ key) ⊎ IsSome (get old k)
        → IsSome (get old k) ⊎ ((k ≡ key) × IsInRange 1 10 k.district)
    here k (inl is) = inr (is, subst (λ (k : DistrictKey). IsInRange 1 10 k.district) (sym is) range)
    here k (inr h) = inl h

pub no_districts : (m : FinMap district_cmp District) → m ≡ empty → AreDistricts [] m
unfolding IsRowOf
no_districts m e = record {
  found = λ k x h. no_such m k e (present _ x h);
  whole = λ k x h. absurd h;
  numbered = λ k h. no_such m k e h;
}

pub one_district : (ns : List (Numbered DistrictKey District)) (n : Numbered DistrictKey District)
    (old new : FinMap district_cmp District) → AreDistricts ns old → PutsDistrict old new n.key n.row
    → AreDistricts (ns ++ n ∷ []) new
one_district ns n old new before p = record {
  found = λ k x e. found_of k x (p.rows k x e);
  whole = λ k x h. whole_of k x (row_cases ns n k x h);
  numbered = λ k h. numbered_of k (p.only k h);
}
  where
    found_of : (k : DistrictKey) (x : District) → (get old k ≡ Some x) ⊎ ((k ≡ n.key) × (x ≡ n.row))
        → IsRowOf (ns ++ n ∷ []) k x
    found_of k x (inl e) = row_before ns n k x (before.found k x e)
    found_of k x (inr is) = row_last ns n k x (sym is.0, sym is.1)

    whole_of : (k : DistrictKey) (x : District) → IsRowOf ns k x ⊎ ((n.key ≡ k) × (n.row ≡ x)) → IsSome (get new k)
    whole_of k x (inl h) = p.grows k (before.whole k x h)
    whole_of k x (inr is) = subst (λ k. IsSome (get new k)) is.0 p.put

    numbered_of : (k : DistrictKey) → IsSome (get old k) ⊎ ((k ≡ n.key) × IsInRange 1 10 k.district)
        → IsInRange 1 10 k.district
    numbered_of k (inl h) = before.numbered k h
    numbered_of k (inr h) = h.1

-- ---- ten districts

module _ (w : WarehouseKey) where
  abbrev numbered : ℕ → DistrictKey
  numbered n = record { warehouse = w.warehouse; district = n }

  all_there : (n count : ℕ) (r : Rows) → missing_of (districts_from w n count) r ≡ None → (m : ℕ) → n ≤ m
      → m < n + count → HasRow r (key.District (numbered m))
  unfolding districts_from
  all_there n zero r none m low high = absurd (omega (arith, low, high))
  all_there n (suc count) r none m low high =
      let h = met_first (key.District (numbered n)) (districts_from w (n + 1) count) r none in
      by h.0 (λ more. all_there (n + 1) count r h.1 m more (omega (arith, high))) (cases_eq m n)
    where
      by : HasRow r (key.District (numbered n)) → (n + 1 ≤ m → HasRow r (key.District (numbered m)))
          → (m ≡ n) ⊎ (m ≡ n → ⊥) → HasRow r (key.District (numbered m))
      by here rest (inl is) = subst (λ (z : ℕ). HasRow r (key.District (numbered z))) (sym is) here
      by here rest (inr other) = rest (omega (arith, low, other))

  pub same_missing : (n count : ℕ) (r s : Rows) → s.districts ≡ r.districts
      → missing_of (districts_from w n count) s ≡ missing_of (districts_from w n count) r
  unfolding districts_from missing_of
  same_missing n zero r s e = refl
  same_missing n (suc count) r s e =
      let here : is_some (row_at s (key.District (numbered n))) ≡ is_some (row_at r (key.District (numbered n))) =
      ap (λ (m : FinMap district_cmp District). is_some (option_map row.District (get m (numbered n)))) e in
      let rest = same_missing (n + 1) count r s e in
      λ i. if here i then rest i else Some (key.District (numbered n))

  from_next : (n : ℕ) → n < 11
      → districts_from w n (11 - n) ≡ key.District (numbered n) ∷ districts_from w (n + 1) (10 - n)
  unfolding districts_from
  from_next n low = let e : 11 - n ≡ suc (10 - n) = omega (arith, low) in rw e

  after_next : (n : ℕ) → n < 11 → districts_from w (n + 1) (10 - n) ≡ districts_from w (n + 1) (11 - (n + 1))
  after_next n low = let e : 10 - n ≡ 11 - (n + 1) = omega (arith, low) in ap (districts_from w (n + 1)) e

  pub passes : (n : ℕ) (r : Rows) → n < 11 → HasRow r (key.District (numbered n))
      → missing_of (districts_from w n (11 - n)) r ≡ missing_of (districts_from w (n + 1) (11 - (n + 1))) r
  passes n r low h =
      ap (λ ks. missing_of ks r) (from_next n low) ∙ met_next _ _ r h ∙ ap (λ ks. missing_of ks r) (after_next n low)

  pub stops : (n : ℕ) (r : Rows) → n < 11 → is_some (row_at r (key.District (numbered n))) ≡ false
      → missing_of (districts_from w n (11 - n)) r ≡ Some (key.District (numbered n))
  stops n r low e = ap (λ ks. missing_of ks r) (from_next n low) ∙ lacks_first _ _ r e

  pub none_left : (r : Rows) → missing_of (districts_from w 11 (11 - 11)) r ≡ None
  unfolding districts_from missing_of
  none_left r = refl

-- ---- what is kept

there_w : (r : Rows) (k : WarehouseKey) → HasRow r (key.Warehouse k) → IsSome (get r.warehouses k)
there_w r k h = sym (some-map row.Warehouse (get r.warehouses k)) ∙ h

row_w : (r : Rows) (k : WarehouseKey) → IsSome (get r.warehouses k) → HasRow r (key.Warehouse k)
row_w r k h = some-map row.Warehouse (get r.warehouses k) ∙ h

there_d : (r : Rows) (k : DistrictKey) → HasRow r (key.District k) → IsSome (get r.districts k)
there_d r k h = sym (some-map row.District (get r.districts k)) ∙ h

row_d : (r : Rows) (k : DistrictKey) → IsSome (get r.districts k) → HasRow r (key.District k)
row_d r k h = some-map row.District (get r.districts k) ∙ h

or_there_w : (r : Rows) (k : WarehouseKey) (x : Warehouse) (q : WarehouseKey)
    → HasRow (record r { warehouses = insert r.warehouses k x }) (key.Warehouse q)
    → (q ≡ k) ⊎ HasRow r (key.Warehouse q)
or_there_w r k x = only_put warehouse_total exact_warehouse row.Warehouse r.warehouses _ k x refl

or_there_d : (r : Rows) (k : DistrictKey) (x : District) (q : DistrictKey)
    → HasRow (record r { districts = insert r.districts k x }) (key.District q)
    → (q ≡ k) ⊎ HasRow r (key.District q)
or_there_d r k x = only_put district_total exact_district row.District r.districts _ k x refl

pub same_by_warehouses : (d : DistrictKey) (r s : Rows) → s.warehouses ≡ r.warehouses
    → missing_of (key.Warehouse (warehouse_of_district d) ∷ []) s
    ≡ missing_of (key.Warehouse (warehouse_of_district d) ∷ []) r
unfolding missing_of
same_by_warehouses d r s e = rw e

module _ (ws : List (Numbered WarehouseKey Warehouse)) (ds : List (Numbered DistrictKey District))
    (all : FinMap district_cmp District) (are : AreDistricts ds all) (s t : Rows) (a b : List apart.Apart)
    (w : Put (λ k. key.Warehouse k) (λ k x. districts_from k 1 10)
    (λ k x r. record r { warehouses = insert r.warehouses k x }) ws (record no_rows { districts = all }) s a)
    (d : Put (λ k. key.District k) (λ k x. key.Warehouse (warehouse_of_district k) ∷ [])
    (λ k x r. record r { districts = insert r.districts k x }) ds (record no_rows { warehouses = s.warehouses }) t b)
  where
    warehouses_stay : t.warehouses ≡ s.warehouses
    warehouses_stay = put_keeps _ _ _ (λ (r : Rows). r.warehouses) (λ k x r. refl) ds _ t b d

    district_kept : (k : DistrictKey) (x : District) → IsRowOf ds k x
        → IsSome (get s.warehouses (warehouse_of_district k)) → IsSome (get t.districts k)
    district_kept k x is home =
        there_d t k
        (put_kept (λ k. key.District k) (λ k x. key.Warehouse (warehouse_of_district k) ∷ [])
        (λ k x r. record r { districts = insert r.districts k x })
        (λ q y k x r. same_by_warehouses q r (record r { districts = insert r.districts k x }) refl)
        (λ k x r. row_d (record r { districts = insert r.districts k x }) k
        (own_row district_total exact_district r.districts k x))
        (λ k x r q h. row_d (record r { districts = insert r.districts k x }) q
        (grown district_total exact_district r.districts k x q (there_d r q h)))
        ds _ t b d k x is
        (met_next (key.Warehouse (warehouse_of_district k)) [] (record no_rows { warehouses = s.warehouses })
        (row_w (record no_rows { warehouses = s.warehouses }) (warehouse_of_district k) home)
        ∙ none_missing (record no_rows { warehouses = s.warehouses })))

    ten_found : (v : WarehouseKey) → IsSome (get s.warehouses v) → HasTen v all
    ten_found v h =
        by (put_met (λ k. key.Warehouse k) (λ k x. districts_from k 1 10)
        (λ k x r. record r { warehouses = insert r.warehouses k x })
        (λ q y k x r. same_missing q 1 10 r (record r { warehouses = insert r.warehouses k x }) refl)
        (λ k x r q. or_there_w r k x q) ws _ s a w v (row_w s v h))
      where
        by : HasRow (record no_rows { districts = all }) (key.Warehouse v)
            ⊎ ((x : Warehouse) × IsRowOf ws v x
            × (missing_of (districts_from v 1 10) (record no_rows { districts = all }) ≡ None)) → HasTen v all
        by (inl h) = λ k is low high.
            no_row Warehouse warehouse_cmp v (there_w (record no_rows { districts = all }) v h)
        by (inr h) = λ k is low high.
            let there =
            all_there v 1 10 (record no_rows { districts = all }) h.2 k.district low (omega (arith, high)) in
            subst (λ k. IsSome (get all k)) (named k is)
            (there_d (record no_rows { districts = all })
            (record { warehouse = v.warehouse; district = k.district }) there)
          where
            named : (k : DistrictKey) → warehouse_of_district k ≡ v
                → ◌≡◌ {A = DistrictKey} (record { warehouse = v.warehouse; district = k.district }) k
            named k is = ap (λ (w : WarehouseKey). record { warehouse = w.warehouse; district = k.district }) (sym is)

    pub are_homes : AreHomes t.warehouses t.districts
    are_homes = record {
      ten = λ v h k is low high.
          let at : IsSome (get s.warehouses v) = subst (λ m. IsSome (get m v)) warehouses_stay h in
          let found = present_some (get all k) (ten_found v at k is low high) in
          district_kept k found.0 (are.found k found.0 found.1)
          (subst (λ w. IsSome (get s.warehouses w)) (sym is) at);
      home = λ k h.
          home_of k
          (put_met (λ k. key.District k) (λ k x. key.Warehouse (warehouse_of_district k) ∷ [])
          (λ k x r. record r { districts = insert r.districts k x })
          (λ q y k x r. same_by_warehouses q r (record r { districts = insert r.districts k x }) refl)
          (λ k x r q. or_there_d r k x q) ds _ t b d k (row_d t k h));
    }
      where
        home_of : (k : DistrictKey) → HasRow (record no_rows { warehouses = s.warehouses }) (key.District k)
            ⊎ ((x : District) × IsRowOf ds k x
            × (missing_of (key.Warehouse (warehouse_of_district k) ∷ []) (record no_rows { warehouses = s.warehouses })
            ≡ None))
            → IsSome (get t.warehouses (warehouse_of_district k)) × IsInRange 1 10 k.district
        home_of k (inl h) =
            no_row District district_cmp k (there_d (record no_rows { warehouses = s.warehouses }) k h)
        home_of k (inr h) =
            let met = met_first _ _ (record no_rows { warehouses = s.warehouses }) h.2 in (
              subst (λ m. IsSome (get m (warehouse_of_district k))) (sym warehouses_stay)
                  (there_w (record no_rows { warehouses = s.warehouses }) (warehouse_of_district k) met.0),
              are.numbered k (are.whole k h.0 h.1),
            )

module _ (ws : List (Numbered WarehouseKey Warehouse)) (ds : List (Numbered DistrictKey District)) where
  -- what is kept, from what was put by the two files
  pub homes_put : (all : List (DistrictKey × Option District)) (no_ws : List (WarehouseKey × Option Warehouse))
      (no_ds : List (DistrictKey × Option District)) (found kept : Homes) (a b c : List apart.Apart)
      → rows_of warehouse_cmp no_ws ≡ empty → rows_of district_cmp no_ds ≡ empty
      → AreDistricts ds (rows_of district_cmp all)
      → PutsWarehouses ws (home_rows (record { warehouses = no_ws; districts = all })) (home_rows found) a b
      → PutsDistricts ds (home_rows (record { warehouses = found.warehouses; districts = no_ds })) (home_rows kept) b c
      → HomesPut ws ds (home_rows kept) a c
  homes_put all no_ws no_ds found kept a b c e f are w d = record {
    all = rows_of district_cmp all;
    are_all = are;
    with_warehouses = home_rows found;
    parted_warehouses = b;
    warehouses =
        subst
        (λ (m : FinMap warehouse_cmp Warehouse). PutsWarehouses ws
        (record no_rows { warehouses = m; districts = rows_of district_cmp all }) (home_rows found) a b) e w;
    districts =
        subst
        (λ (m : FinMap district_cmp District). PutsDistricts ds
        (record no_rows { warehouses = rows_of warehouse_cmp found.warehouses; districts = m }) (home_rows kept) b c)
        f d;
  }

  pub homes_are : (r : Rows) (a c : List apart.Apart) → HomesPut ws ds r a c → AreHomes r.warehouses r.districts
  homes_are r a c h =
      are_homes ws ds h.all h.are_all h.with_warehouses r h.warehouses.0 h.districts.0 h.warehouses.1 h.districts.1
