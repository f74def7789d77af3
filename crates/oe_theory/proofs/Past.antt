-- Rewind gives an earlier version back, purge leaves the later ones, and what whole effects keep holds of every
-- version.
use Rattle.std.proofs.Common.{◌≡◌, ℕ, suc, zero, ◌+◌, ◌-◌, ◌<◌, ◌≤◌, Option, Some, List, [], ◌∷◌, ◌++◌, take, drop}
use Rattle.std.proofs.Common.{length, length-drop, length-take, refl, sym, ap, ◌∙◌, subst, inl, inr, arith}
use Rattle.std.specs.Prelude.{◌⊎◌, ◌≢◌}
use Rattle.std.proofs.lemmas.List.{take-append-drop}
use Rattle.std.proofs.lemmas.Bool.{cases_eq}
use Rattle.oe_theory.specs.Machine.{Machine, Tx}
use Rattle.oe_theory.specs.World.{set, bump, total, Open, Commit, World, map_after, version, counts_after, counts_at}
use Rattle.oe_theory.specs.World.{horizon, newest, at, latest, IsSerial, layer, layers, tables}
use Rattle.oe_theory.specs.Next.{after_purge, after_rewind, IsQuiet}
use Rattle.oe_theory.specs.Laws.{IsGood, Sound, Laws}
use Rattle.oe_theory.proofs.Sets.{set_same, set_other}
use Rattle.oe_theory.proofs.Steps.{good_version, version-append}

drop-none : {A : Type 0} (i : ℕ) → drop {A = A} i [] ≡ []
drop-none zero = refl
drop-none (suc i) = refl

drop-drop : {A : Type 0} (i j : ℕ) (xs : List A) → drop i (drop j xs) ≡ drop (j + i) xs
drop-drop i zero xs = ap (λ (n : ℕ). drop n xs) (omega arith)
drop-drop i (suc j) [] = drop-none i ∙ sym (drop-none (suc j + i))
drop-drop i (suc j) (x ∷ xs) = drop-drop i j xs ∙ ap (λ (n : ℕ). drop n (x ∷ xs)) step
  where
    step : suc (j + i) ≡ suc j + i
    step = omega arith

-- of a front, what is left and the rest
drop-take_back : {A : Type 0} (i j : ℕ) (xs : List A) → i ≤ j → drop i (take j xs) ++ drop j xs ≡ drop i xs
drop-take_back zero j xs h = take-append-drop j xs
drop-take_back (suc i) zero xs h = absurd (omega (arith, h))
drop-take_back (suc i) (suc j) [] h = refl
drop-take_back (suc i) (suc j) (x ∷ xs) h = drop-take_back i j xs (omega (arith, h))

total_set : (n t : ℕ) (v : ℕ) (f : ℕ → ℕ) → n ≤ t → total n (set t v f) ≡ total n f
total_set zero t v f h = refl
total_set (suc n) t v f h =
    omega (arith, total_set n t v f (omega (arith, h)), set_other t v f n (λ e. omega (arith, e, h)))

pub total_bump : (n t : ℕ) (f : ℕ → ℕ) → t < n → total n (bump t f) ≡ suc (total n f)
total_bump zero t f h = absurd (omega (arith, h))
total_bump (suc n) t f h = go (cases_eq n t) (total_bump n t f)
  where
    go : (n ≡ t) ⊎ (n ≢ t) → (t < n → total n (bump t f) ≡ suc (total n f))
        → total n (bump t f) + bump t f n ≡ suc (total n f + f n)
    go (inl e) i = omega (arith, total_set n t (suc (f t)) f (omega (arith, e)), set_same t (suc (f t)) f n e, ap f e)
    go (inr ne) i = omega (arith, i (omega (arith, h, ne)), set_other t (suc (f t)) f n ne)

module _ (M : Machine) (L : Laws M) where
  open M use {Map, Good, whole, terminal_limit}
  open L use {stays_good}

  total_after : (f : ℕ → ℕ) (b : Map) (cs : List (Commit M)) → IsSerial M f b cs
      → total terminal_limit (counts_after M f cs) ≡ total terminal_limit f + length cs
  total_after f b [] s = omega arith
  total_after f b (c ∷ cs) s =
      omega (
        arith,
        total_bump terminal_limit c.tx.terminal (counts_after M f cs) s.0.terminal.1,
        total_after f b cs
            s.1,
      )

  serial_drop : (f : ℕ → ℕ) (b : Map) (j : ℕ) (cs : List (Commit M)) → IsSerial M f b cs → IsSerial M f b (drop j cs)
  serial_drop f b zero cs s = s
  serial_drop f b (suc j) [] s = s
  serial_drop f b (suc j) (c ∷ cs) s = serial_drop f b j cs s.1

  -- with nothing open the tables are the newest version
  pub quiet_tables : (w : World M) → IsQuiet M w → tables M w ≡ latest M w
  quiet_tables w q = go terminal_limit
    where
      go : (n : ℕ) → layers M w.active n (latest M w) ≡ latest M w
      go zero = refl
      go (suc n) = ap (λ (v : Option (Open M)). layer M v (layers M w.active n (latest M w))) (q n) ∙ go n

  pub latest_at : (w : World M) → latest M w ≡ at M w (newest M w)
  latest_at w = ap (λ (n : ℕ). version M w.base (drop n w.history)) here
    where
      here : 0 ≡ newest M w - newest M w
      here = omega arith

  pub rewound_newest : (w : World M) (m : ℕ) → horizon M w ≤ m → m ≤ newest M w → newest M (after_rewind M w m) ≡ m
  rewound_newest w m l h = omega (arith, length-drop (newest M w - m) w.history)

  -- after a rewind the moments up to it are as they were, and the tables are those of its moment
  pub rewound_at : (w : World M) (m k : ℕ) → horizon M w ≤ m → m ≤ newest M w → k ≤ m
      → at M (after_rewind M w m) k ≡ at M w k
  rewound_at w m k l h b =
      ap (version M w.base)
      (drop-drop (newest M (after_rewind M w m) - k) (newest M w - m) w.history
      ∙ ap (λ (n : ℕ). drop n w.history) (omega (arith, rewound_newest w m l h)))

  pub purged_horizon : (w : World M) → Sound M w → (m : ℕ) → horizon M w ≤ m → m ≤ newest M w
      → horizon M (after_purge M w m) ≡ m
  purged_horizon w s m l h =
      omega (
        arith,
        total_after w.counts w.base (drop (newest M w - m) w.history)
            (serial_drop w.counts w.base (newest M w - m) w.history s.serial),
        length-drop (newest M w - m) w.history,
      )

  pub purged_newest : (w : World M) → Sound M w → (m : ℕ) → horizon M w ≤ m → m ≤ newest M w
      → newest M (after_purge M w m) ≡ newest M w
  purged_newest w s m l h = omega (arith, purged_horizon w s m l h, length-take (newest M w - m) w.history)

  -- after a purge the moments from it on are as they were
  pub purged_at : (w : World M) → Sound M w → (m k : ℕ) → horizon M w ≤ m → m ≤ k → k ≤ newest M w
      → at M (after_purge M w m) k ≡ at M w k
  purged_at w s m k l b h =
      let j = newest M w - m in
      let i = newest M w - k in
      ap (λ (n : ℕ). version M (at M w m) (drop (n - k) (take j w.history)))
      (purged_newest w s m l (omega (arith, b, h)))
      ∙ (version-append M L w.base (drop i (take j w.history)) (drop j w.history)
      ∙ ap (version M w.base) (drop-take_back i j w.history (omega (arith, b))))

  -- every version is good
  pub good_at : (w : World M) → Sound M w → (m : ℕ) → Good (counts_at M w m) (at M w m)
  good_at w s m = good_version M L w.counts w.base (drop (newest M w - m) w.history) s.good
      (serial_drop w.counts w.base (newest M w - m) w.history s.serial)

  -- and what holds of the base, and is kept by every whole effect, holds of every version
  module _ (P : Map → Type 0) (keeps : (f : ℕ → ℕ) (x : Tx (M.Request)) (r after : Map) (reply : M.Reply)
      → IsGood M f x r → whole x r ≡ Some (after, reply) → P r → P after) where
    kept_version : (f : ℕ → ℕ) (b : Map) (cs : List (Commit M)) → Good f b → IsSerial M f b cs → P b
        → P (version M b cs)
    kept_version f b [] g s p = p
    kept_version f b (c ∷ cs) g s p =
        let e = s.0.effect in
        subst (λ z. P (map_after M z (version M b cs))) (sym e)
        (keeps (counts_after M f cs) c.tx (version M b cs) s.0.after c.reply
        (record {
          good = good_version M L f b cs g s.1;
          valid = s.0.valid;
          known = s.0.known;
          terminal = s.0.terminal;
          number = s.0.number;
        }) e (kept_version f b cs g s.1 p))

    pub kept_at : (w : World M) → Sound M w → P w.base → (m : ℕ) → P (at M w m)
    kept_at w s p m = kept_version w.counts w.base (drop (newest M w - m) w.history) s.good
        (serial_drop w.counts w.base (newest M w - m) w.history s.serial) p
