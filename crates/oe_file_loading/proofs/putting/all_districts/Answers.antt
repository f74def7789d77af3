use Rattle.std.proofs.Common.{◌∷◌, [], map, subst, sym}
use Rattle.std.proofs.lemmas.List.{map-append}
use Rattle.oe_rows.specs.Key.{district_cmp}
use Rattle.oe_rows.specs.declared.districts.District.{District}
use Rattle.oe_table.specs.Table.{rows_of}
use Rattle.oe_file_loading.specs.Homes.{AreDistricts, PutsDistrict}
use Rattle.oe_file_loading.proofs.HomeFacts.{no_districts, one_district}
use Rattle.oe_file_loading.proofs.putting.all_districts.Goals as goal

pub loop-numbered-init : goal.loop-numbered-init
loop-numbered-init c = no_districts _ c.new-table.ensures.rows

pub loop-numbered-preserved : goal.loop-numbered-preserved
loop-numbered-preserved c =
    let l = c.loop-numbered in
    let n = c.in-Some.numbered.now in
    let old = rows_of district_cmp l.table in
    let new = rows_of district_cmp c.put_district.new.districts in
    subst (λ ns. AreDistricts ns new) (sym (map-append (λ b. b.now) l.yielded (c.in-Some.numbered ∷ [])))
    (one_district (map (λ b. b.now) l.yielded) n old new l.invariant
    (subst (λ (x : District). PutsDistrict old new n.key x) c.copied.ensures c.in_default.ensures))
