-- Counts by name.
use Rattle.std.proofs.Common.{◌≡◌, ℕ, suc, Bool, true, false, cond, List, [], ◌∷◌, Option, Some, refl, ap, ◌∙◌}
use Rattle.std.specs.Prelude.{unwrap_or, Result, Ok, Err, OnOk}
use Rattle.std.specs.Map.{keys_of, lookup}
use Rattle.std.proofs.lemmas.Bool.{or_parts, cond-true, eq-eqb}
use mathlib.Core.Path.{fun_ext}
use Rattle.oe_rows.specs.declared.locks.Name.{Name}
use Rattle.oe_rows.specs.contracts.locks.NamePartialEq.TheImpl.{ghosts}
use Rattle.oe_locks.specs.Held.{is_name}
use Rattle.oe_locks.specs.Listed.{stands}
use Rattle.oe_locks.proofs.NameFacts.{eq_is_name, same_true}
use Rattle.oe_busy.specs.Happenings.{count_in, met_more}
use Rattle.oe_busy.specs.Firsts.{is_left}

-- one more of a name
pub met_is : (old new : List (Name × ℕ)) (n : Name) (m : ℕ) → m ≡ suc (count_in old n)
    → ((q : Name) → lookup (ghosts.eq q) new ≡ cond (ghosts.eq n q) (Some m) (lookup (ghosts.eq q) old))
    → count_in new ≡ met_more (Some n) (count_in old)
met_is old new n m e h = fun_ext (λ q. ap (λ (o : Option ℕ). unwrap_or o 0) (h q) ∙ by q (ghosts.eq n q) refl)
  where
    by : (q : Name) (b : Bool) → ghosts.eq n q ≡ b
        → unwrap_or (cond b (Some m) (lookup (ghosts.eq q) old)) 0 ≡ cond b (suc (count_in old q)) (count_in old q)
    by q true s = e ∙ ap (λ z. suc (count_in old z)) (same_true n q s)
    by q false s = refl

-- a name that stands on no list of the counts was never counted
absent : (es : List (Name × ℕ)) (q : Name) → stands (keys_of es) q ≡ false → count_in es q ≡ 0
absent [] q h = refl
absent (e ∷ es) q h =
    let p = or_parts (is_name q e.0) (stands (keys_of es) q) h in
    ap (λ b. unwrap_or (cond b (Some e.1) (lookup (ghosts.eq q) es)) 0) (eq_is_name q e.0 ∙ p.0) ∙ absent es q p.1

pub not_left : (es : List (Name × ℕ)) (behind : Option Name) (q : Name) → stands (keys_of es) q ≡ false
    → is_left (count_in es) behind q ≡ false
not_left es behind q h = cond-true _ _ _ (eq-eqb (count_in es q) 0 (absent es q h))

-- what follows where something went well
pub on_ok : {T E : Type 0} {P Q : Type 0} (r : Result T E) → (P → Q) → OnOk r P → OnOk r Q
on_ok (Ok x) f p = f p
on_ok (Err e) f p = tt
