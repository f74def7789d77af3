-- What a world counts that was just opened: nothing.
use Rattle.std.proofs.Common.{◌≡◌, ℕ, zero, suc, None, refl, ap, ◌∙◌, arith}
use Rattle.oe_theory.specs.World.{World, total, newest, horizon}
use Rattle.oe_theory.specs.Next.{count_open}
use Rattle.oe_theory.specs.Theorems.{world_at_opening}
use Rattle.oe_model.specs.Rows.{Rows}
use Rattle.oe_rows.specs.declared.layouts.Layout.{Layout}
use Rattle.oe_model.specs.System.{system, terminal_limit}
use Rattle.oe_hall.specs.Turns.{open_count}

none_counted : (n : ℕ) → total n (λ _. 0) ≡ 0
none_counted zero = refl
none_counted (suc n) = let h : total n (λ _. 0) ≡ 0 = none_counted n in omega (arith, h)

none_open : (n : ℕ) → count_open system (λ _. None) n ≡ 0
none_open zero = refl
none_open (suc n) = none_open n

pub horizon_opened : (w : World system) (r : Rows) (e : ℕ) (l : Layout) → w ≡ world_at_opening system r e l
    → horizon system w ≡ 0
horizon_opened w r e l is = ap (λ (v : World system). horizon system v) is ∙ none_counted terminal_limit

pub newest_opened : (w : World system) (r : Rows) (e : ℕ) (l : Layout) → w ≡ world_at_opening system r e l
    → newest system w ≡ 0
newest_opened w r e l is =
    let none : total terminal_limit (λ _. 0) ≡ 0 = none_counted terminal_limit in
    ap (λ (v : World system). newest system v) is ∙ omega (arith, none)

pub open_count_opened : (w : World system) (r : Rows) (e : ℕ) (l : Layout) → w ≡ world_at_opening system r e l
    → open_count w ≡ 0
open_count_opened w r e l is = ap open_count is ∙ none_open terminal_limit

pub layout_opened : (w : World system) (r : Rows) (e : ℕ) (l : Layout) → w ≡ world_at_opening system r e l → w.layout
    ≡ l
layout_opened w r e l is = ap (λ (v : World system). v.layout) is
