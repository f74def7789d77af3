-- A print goes on column by column, and a number's decimals byte by byte.
use Rattle.std.proofs.Common.{◌≡◌, ℕ, ◌+◌, ◌<◌, ◌≤◌, false, cond, List, [], ◌∷◌, ◌++◌, length, map, take, drop, get_or}
use Rattle.std.proofs.Common.{sym, ap, ◌∙◌, append_assoc}
use Rattle.std.proofs.lemmas.List.{drop_more, drop_all, take_more}
use Rattle.oe_columns.specs.declared.constants.Constant.{Constant}
use Rattle.oe_columns.specs.Constants.{constant_of}
use Rattle.oe_columns.specs.Prints.{are_zeros, before_zeros, column_mixed, row_mixed}
use Rattle.oe_columns.specs.Values.{Placed, field_at}

pub print_more : (cs : List Constant) (k : ℕ) (d : Constant) (row : Placed) (print : ℕ) → k < length cs
    → row_mixed (map constant_of (drop k cs)) k row print
    ≡ row_mixed (map constant_of (drop (k + 1) cs)) (k + 1) row
    (column_mixed (get_or cs k d).form print (field_at row k))
print_more cs k d row print h = ap (λ (rest : List Constant). row_mixed (map constant_of rest) k row print)
    (drop_more cs k d h)

pub print_all : (cs : List Constant) (k : ℕ) (row : Placed) (print : ℕ) → length cs ≤ k
    → row_mixed (map constant_of (drop k cs)) k row print ≡ print
print_all cs k row print h = ap (λ (rest : List Constant). row_mixed (map constant_of rest) k row print)
    (drop_all k cs h)

one_more : (x : ℕ) (r : List ℕ) → are_zeros (x ∷ r) ≡ false → before_zeros (x ∷ r) ≡ x ∷ before_zeros r
one_more x r e = ap (λ t. cond t [] (x ∷ before_zeros r)) e

pub before_more : (s : List ℕ) (i : ℕ) → i < length s → are_zeros (drop i s) ≡ false
    → before_zeros s ≡ take i s ++ before_zeros (drop i s)
    → before_zeros s ≡ take (i + 1) s ++ before_zeros (drop (i + 1) s)
before_more s i h z so =
    let x = get_or s i 0 in
    let r = drop (i + 1) s in
    let e : drop i s ≡ x ∷ r = drop_more s i 0 h in
    let b : before_zeros (drop i s) ≡ x ∷ before_zeros r =
    ap before_zeros e ∙ one_more x r (sym (ap are_zeros e) ∙ z) in
    so ∙ ap (λ t. take i s ++ t) b ∙ sym (append_assoc (take i s) (x ∷ []) (before_zeros r))
    ∙ ap (λ t. t ++ before_zeros r) (sym (take_more s i 0 h))
