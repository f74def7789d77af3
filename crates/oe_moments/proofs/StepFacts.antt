-- Each step keeps the rule of the words, and tells what its play says.
use Rattle.std.proofs.Common.{◌≡◌, ◌≢◌, ◌⊎◌, ℕ, ◌+◌, ◌-◌, ◌*◌, ◌/◌, ◌<◌, ◌≤◌, ◌^◌, ◌==◌, true, false}
use Rattle.std.proofs.Common.{true≢false, List, [], ◌∷◌, ◌++◌, length, zero, suc, replicate, sym, refl, ap}
use Rattle.std.proofs.Common.{◌∙◌, subst, ⊎_elim, arith, le_trans, le_refl, length-set, get_or-set_same}
use Rattle.std.proofs.Common.{get_or-set_other}
use Rattle.std.specs.Prelude.{slice_index, slice_set, max}
use Rattle.std.proofs.lemmas.List.{set-get_or}
use Rattle.std.proofs.lemmas.Bool.Decides.{nat_tests}
use mathlib.Core.Logic.{dite}
use mathlib.Core.Option.{none, some, some-ne-none, some-injective}
use native.Mathlib.Decide.{ℕ_discrete}
use lib.ListN.{get_elem?, length-replicate}
use Rattle.atomic_table.specs.Table.{State, Me, step, Allows, Splits, keeps, opening}
use Rattle.oe_moments.specs.declared.notes.PinState.{PinState}
use Rattle.oe_moments.specs.declared.notes.PinState.TheVariants.{Free, Announced, Looked, Sure}
use Rattle.oe_moments.specs.declared.notes.DeskNotes.{DeskNotes}
use Rattle.oe_moments.specs.declared.notes.KeeperNotes.{KeeperNotes}
use Rattle.oe_moments.specs.declared.notes.DealerNotes.{DealerNotes}
use Rattle.oe_moments.specs.declared.notes.Notes.{Notes}
use Rattle.oe_moments.specs.declared.notes.Notes.TheVariants.{Gone, Dealer, Desk, Keeper}
use Rattle.oe_moments.specs.Rule.{most, newest, claim, purge_word, pin_at, pin_word, Guards, IsMoment, FitsDesk}
use Rattle.oe_moments.specs.Rule.{FitsKeeper}
use Rattle.oe_moments.specs.Rule.{FitsDealer, Fits, Apart, AreWords, Kept, notes_after_sight, with_pin}
use Rattle.oe_moments.specs.Rule.{pin_after_look, notes_after_look}
use Rattle.oe_moments.specs.Rule.{sees_newest, tells, announces, looks, makes_sure, clears, reads_purged}
use Rattle.oe_moments.specs.Rule.{word_after_claim}
use Rattle.oe_moments.specs.Rule.{after_claim, least_with, after_desk, after_purge, claims, scans, settles, finds}
use Rattle.oe_moments.specs.Rule.{dealer_first}
use Rattle.oe_moments.specs.Rule.{saw_pin, dealt_on, next_desk, keeper_out, first_keeper}
use Rattle.oe_moments.specs.Pins.{is_pinned, is_sure}
use Rattle.oe_moments.proofs.KeepFacts.{kept_split, DeskMove, DeskTurn, desk_turn, KeeperTurn, keeper_turn}

abbrev desk_or : DeskNotes → Notes → DeskNotes
desk_or d (Desk p) = p
desk_or d Gone = d
desk_or d (Dealer o) = d
desk_or d (Keeper k) = d

abbrev keeper_or : KeeperNotes → Notes → KeeperNotes
keeper_or d (Keeper k) = k
keeper_or d Gone = d
keeper_or d (Dealer o) = d
keeper_or d (Desk p) = d

-- what holds of the notes that a holder has, holds of any that it has
for_desk : (v : Notes) (p : DeskNotes) → v ≡ Desk p → (Q : DeskNotes → Type 0) → Q p → (q : DeskNotes) → v ≡ Desk q
    → Q q
for_desk v p is Q x q is' = subst Q (ap (desk_or p) (sym is ∙ is')) x

for_keeper : (v : Notes) (k : KeeperNotes) → v ≡ Keeper k → (Q : KeeperNotes → Type 0) → Q k → (l : KeeperNotes)
    → v ≡ Keeper l → Q l
for_keeper v k is Q x l is' = subst Q (ap (keeper_or k) (sym is ∙ is')) x

-- a load leaves the words
still : (ws : List ℕ) (i : ℕ) → slice_set ws i (slice_index ws i) ≡ ws
still ws i = set-get_or ws i 0

unmoved : (desks : ℕ) (ws : List ℕ) (d : ℕ) → AreWords desks ws → DeskMove ws ws d
unmoved desks ws d words =
    record {
      size = refl;
      newest_up = le_refl _;
      newest_fits = words.newest_fits;
      claim_is = refl;
      purged_is = refl;
      pins = λ e ne. refl;
    }

-- a load of the word i by a desk
desk_load : (desks : ℕ) (s : State ℕ Notes) (id i : ℕ) (p p' : DeskNotes) → Kept desks s
    → get_elem? s.views id ≡ some (Desk p) → DeskTurn s.words s.words p p'
    → Kept desks (record {
      words = slice_set s.words i (slice_index s.words i);
      homes = s.homes;
      views = slice_set s.views id (Desk p');
    })
desk_load desks s id i p p' k at t = desk_turn desks s id p p' (slice_set s.words i (slice_index s.words i)) k at
    (subst (λ (ws : List ℕ). DeskTurn s.words ws p p') (sym (still s.words i)) t)

pub loads_newest : (desks slots id : ℕ) (me : Me ℕ Notes) (p : DeskNotes) → me.0 ≡ Desk p
    → Allows (Kept desks) slots id me 0 (λ n. n) (sees_newest (step 0 0 0 0 none) me)
loads_newest desks slots id me p is s k _ at _ =
    let at' : get_elem? s.views id ≡ some (Desk p) = at ∙ ap some is in
    let f : FitsDesk desks s.words p = k.fits id (Desk p) at' in
    let n : ℕ = newest s.words in (
      Desk (notes_after_sight n p),
      keeps,
      tt,
      desk_load desks s id 0 p (notes_after_sight n p) k at' (record {
        move = unmoved desks s.words p.number k.words;
        number = refl;
        seen = le_refl _;
        claimed = f.claimed;
        word = f.word;
        moment = f.moment;
        carry = λ limit _ g. g;
      }),
      for_desk me.0 p is (λ (q : DeskNotes). (Desk (notes_after_sight n p) ≡ Desk (notes_after_sight n q))
          × (q.seen ≤ n) × (n ≤ most))
          (refl, f.seen, k.words.newest_fits),
    )

pub loads_claim : (desks slots id : ℕ) (me : Me ℕ Notes) (p : DeskNotes) → me.0 ≡ Desk p
    → Allows (Kept desks) slots id me 1 (λ n. n) (looks (step 0 0 0 0 none) me)
loads_claim desks slots id me p is s k _ at _ =
    let at' : get_elem? s.views id ≡ some (Desk p) = at ∙ ap some is in
    let f : FitsDesk desks s.words p = k.fits id (Desk p) at' in
    let c : ℕ = claim s.words in (
      Desk (notes_after_look c p),
      keeps,
      tt,
      desk_load desks s id 1 p (notes_after_look c p) k at' (record {
        move = unmoved desks s.words p.number k.words;
        number = refl;
        seen = f.seen;
        claimed = le_refl _;
        word = f.word ∙ same p.pin;
        moment = moment p.pin f.moment;
        carry = λ limit below g. carry limit c p.claim below p.pin g;
      }),
      for_desk me.0 p is (λ (q : DeskNotes). (Desk (notes_after_look c p) ≡ Desk (notes_after_look c q)) × (c ≤ most))
          (refl, k.words.claim_fits),
    )
  where
    same : (t : PinState) → pin_word t ≡ pin_word (pin_after_look t)
    same Free = refl
    same (Announced n) = refl
    same (Looked n) = refl
    same (Sure n) = refl

    moment : (t : PinState) → IsMoment t → IsMoment (pin_after_look t)
    moment Free m = m
    moment (Announced n) m = m
    moment (Looked n) m = m
    moment (Sure n) m = m

    carry : (limit c old : ℕ) → limit ≤ c → (t : PinState) → Guards limit old t → Guards limit c (pin_after_look t)
    carry limit c old below Free g = g
    carry limit c old below (Announced n) g = λ le. le_trans below le
    carry limit c old below (Looked n) g = λ le. le_trans below le
    carry limit c old below (Sure n) g = g

-- under a sure pin what is purged is not above it
pub loads_purged : (desks slots id : ℕ) (me : Me ℕ Notes) (p : DeskNotes) → me.0 ≡ Desk p
    → Allows (Kept desks) slots id me 2 (λ n. n) (reads_purged (step 0 0 0 0 none) me)
loads_purged desks slots id me p is s k _ at _ =
    let at' : get_elem? s.views id ≡ some (Desk p) = at ∙ ap some is in
    let f : FitsDesk desks s.words p = k.fits id (Desk p) at' in (
      Desk p,
      keeps,
      tt,
      desk_load desks s id 2 p p k at' (record {
        move = unmoved desks s.words p.number k.words;
        number = refl;
        seen = f.seen;
        claimed = f.claimed;
        word = f.word;
        moment = f.moment;
        carry = λ limit _ g. g;
      }),
      (
        sym is,
        le_trans k.words.purged_fits k.words.claim_fits,
        for_desk me.0 p is (λ (q : DeskNotes). (n : ℕ) → q.pin ≡ Sure n → purge_word s.words ≤ n)
            (λ n sure. subst (λ (t : PinState). Guards (purge_word s.words) p.claim t) sure f.guards),
      ),
    )

-- a write to a word below the pins, or to a pin
word_same : (ws : List ℕ) (i x : ℕ) → i < length ws → slice_index (slice_set ws i x) i ≡ x
word_same ws i x lt = get_or-set_same ws i x 0 lt

word_other : (ws : List ℕ) (i j x : ℕ) → j ≢ i → slice_index (slice_set ws i x) j ≡ slice_index ws j
word_other ws i j x ne = get_or-set_other ws i j x 0 ne

pin_write : (desks : ℕ) (ws : List ℕ) (d x : ℕ) → AreWords desks ws → DeskMove ws (slice_set ws (d + 3) x) d
pin_write desks ws d x words = record {
  size = length-set ws (d + 3) x;
  newest_up = subst (λ (n : ℕ). newest ws ≤ n) (sym (word_other ws (d + 3) 0 x (λ e. omega arith))) (le_refl _);
  newest_fits = subst (λ (n : ℕ). n ≤ most) (sym (word_other ws (d + 3) 0 x (λ e. omega arith))) words.newest_fits;
  claim_is = word_other ws (d + 3) 1 x (λ e. omega arith);
  purged_is = word_other ws (d + 3) 2 x (λ e. omega arith);
  pins = λ e ne. word_other ws (d + 3) (e + 3) x (λ q. ne (omega arith));
}

-- a desk stores its pin for the stage t
stores : (desks : ℕ) (s : State ℕ Notes) (id : ℕ) (p : DeskNotes) (t : PinState) (x : ℕ) → Kept desks s
    → get_elem? s.views id ≡ some (Desk p) → x ≡ pin_word t → IsMoment t
    → ((limit : ℕ) → Guards limit p.claim p.pin → Guards limit p.claim t)
    → Kept desks (record {
      words = slice_set s.words (p.number + 3) x;
      homes = s.homes;
      views = slice_set s.views id (Desk (with_pin t p));
    })
stores desks s id p t x k at is moment carry =
    let f : FitsDesk desks s.words p = k.fits id (Desk p) at in
    let m = pin_write desks s.words p.number x k.words in
    desk_turn desks s id p (with_pin t p) (slice_set s.words (p.number + 3) x) k at (record {
      move = m;
      number = refl;
      seen = le_trans f.seen m.newest_up;
      claimed = f.claimed;
      word = word_same s.words (p.number + 3) x (let size = k.words.size in let lt = f.number in omega arith) ∙ is;
      moment = moment;
      carry = λ limit _ g. carry limit g;
    })

pub stores_announced : (desks slots id : ℕ) (me : Me ℕ Notes) (p : DeskNotes) (word x : ℕ) → me.0 ≡ Desk p
    → word ≡ p.number + 3 → x ≡ 2 * p.seen + 1 → p.seen ≤ most
    → Allows (Kept desks) slots id me word (λ _. x) (λ _. announces (step 0 0 0 0 none) me x)
stores_announced desks slots id me p word x is where_is what fits s k _ at _ =
    let at' : get_elem? s.views id ≡ some (Desk p) = at ∙ ap some is in
    let w : Notes = Desk (with_pin (Announced p.seen) p) in (
      w,
      keeps,
      tt,
      subst (λ (i : ℕ). Kept desks
          (record { words = slice_set s.words i x; homes = s.homes; views = slice_set s.views id w })) (sym where_is)
          (stores desks s id p (Announced p.seen) x k at' what fits (λ _ _. tt)),
      for_desk me.0 p is (λ (q : DeskNotes). w ≡ Desk (with_pin (Announced q.seen) q)) refl,
    )

pub stores_sure : (desks slots id : ℕ) (me : Me ℕ Notes) (p : DeskNotes) (n word x : ℕ) → me.0 ≡ Desk p
    → p.pin ≡ Looked n → p.claim ≤ n → word ≡ p.number + 3 → x ≡ 2 * n + 2
    → Allows (Kept desks) slots id me word (λ _. x) (λ _. makes_sure (step 0 0 0 0 none) me x)
stores_sure desks slots id me p n word x is looked_is below where_is what s k _ at _ =
    let at' : get_elem? s.views id ≡ some (Desk p) = at ∙ ap some is in
    let f : FitsDesk desks s.words p = k.fits id (Desk p) at' in
    let moment : n ≤ most = subst IsMoment looked_is f.moment in
    let w : Notes = Desk (with_pin (Sure n) p) in (
      w,
      keeps,
      tt,
      subst (λ (i : ℕ). Kept desks
          (record { words = slice_set s.words i x; homes = s.homes; views = slice_set s.views id w })) (sym where_is)
          (stores desks s id p (Sure n) x k at' what moment
          (λ limit g. (subst (Guards limit p.claim) looked_is g) below)),
      for_desk me.0 p is (λ (q : DeskNotes). (m : ℕ) → q.pin ≡ Looked m → w ≡ Desk (with_pin (Sure m) q))
          (λ m e. ap (λ (t : PinState). Desk (with_pin (Sure (moment_or t)) p)) (sym looked_is ∙ e)),
    )
  where
    moment_or : PinState → ℕ
    moment_or Free = 0
    moment_or (Announced m) = m
    moment_or (Looked m) = m
    moment_or (Sure m) = m

pub stores_free : (desks slots id : ℕ) (me : Me ℕ Notes) (p : DeskNotes) (word x : ℕ) → me.0 ≡ Desk p
    → word ≡ p.number + 3 → x ≡ 0 → Allows (Kept desks) slots id me word (λ _. x) (λ _. clears (step 0 0 0 0 none) me x)
stores_free desks slots id me p word x is where_is what s k _ at _ =
    let at' : get_elem? s.views id ≡ some (Desk p) = at ∙ ap some is in
    let w : Notes = Desk (with_pin Free p) in (
      w,
      keeps,
      tt,
      subst (λ (i : ℕ). Kept desks
          (record { words = slice_set s.words i x; homes = s.homes; views = slice_set s.views id w })) (sym where_is)
          (stores desks s id p Free x k at' what tt (λ _ _. tt)),
      for_desk me.0 p is (λ (q : DeskNotes). w ≡ Desk (with_pin Free q)) refl,
    )

pub raises_newest : (desks slots id : ℕ) (me : Me ℕ Notes) (p : DeskNotes) (m : ℕ) → me.0 ≡ Desk p → m ≤ most
    → Allows (Kept desks) slots id me 0 (λ n. max n m) (tells (step 0 0 m 0 none) me)
raises_newest desks slots id me p m is fits s k _ at _ =
    let at' : get_elem? s.views id ≡ some (Desk p) = at ∙ ap some is in
    let f : FitsDesk desks s.words p = k.fits id (Desk p) at' in
    let n : ℕ = newest s.words in
    let n_fits : n ≤ most = k.words.newest_fits in
    let x : ℕ = max n m in
    let ws : List ℕ = slice_set s.words 0 x in
    let size : length s.words ≡ desks + 3 = k.words.size in
    let now : newest ws ≡ x = word_same s.words 0 x (omega arith) in
    let p' : DeskNotes = notes_after_sight x p in (
      Desk p',
      keeps,
      tt,
      desk_turn desks s id p p' ws k at' (record {
        move = record {
          size = length-set s.words 0 x;
          newest_up = subst (λ (y : ℕ). n ≤ y) (sym now) (omega arith);
          newest_fits = subst (λ (y : ℕ). y ≤ most) (sym now) (omega arith);
          claim_is = word_other s.words 0 1 x (λ e. omega arith);
          purged_is = word_other s.words 0 2 x (λ e. omega arith);
          pins = λ e ne. word_other s.words 0 (e + 3) x (λ q. omega arith);
        };
        number = refl;
        seen = subst (λ (y : ℕ). x ≤ y) (sym now) (le_refl x);
        claimed = f.claimed;
        word = word_other s.words 0 (p.number + 3) x (λ q. omega arith) ∙ f.word;
        moment = f.moment;
        carry = λ limit _ g. g;
      }),
      for_desk me.0 p is (λ (q : DeskNotes). (Desk p' ≡ Desk (notes_after_sight (max n m) q)) × (q.seen ≤ n)
          × (n ≤ most))
          (refl, f.seen, n_fits),
    )

-- the keeper
guards_less : (a b c : ℕ) (t : PinState) → b ≤ a → Guards a c t → Guards b c t
guards_less a b c Free le g = g
guards_less a b c (Announced n) le g = g
guards_less a b c (Looked n) le g = λ h. le_trans le (g h)
guards_less a b c (Sure n) le g = le_trans le g

guards_max : (a b c : ℕ) (t : PinState) → Guards a c t → Guards b c t → Guards (max a b) c t
guards_max a b c Free g h = g
guards_max a b c (Announced n) g h = g
guards_max a b c (Looked n) g h = λ le. let x = g le in let y = h le in omega arith
guards_max a b c (Sure n) g h = omega arith

lowered_less : (least x : ℕ) → least_with least x ≤ least
lowered_less least x = grind (arith, nat_tests)

lowered_at : (least n x : ℕ) → (x ≡ 2 * n + 1) ⊎ (x ≡ 2 * n + 2) → least_with least x ≤ n
lowered_at least n x is = grind (arith, nat_tests)

lowered_guards : (least c : ℕ) (t : PinState) → Guards (least_with least (pin_word t)) c t
lowered_guards least c Free = tt
lowered_guards least c (Announced n) = tt
lowered_guards least c (Looked n) = λ _. lowered_at least n (2 * n + 1) (Rattle.std.proofs.Common.inl refl)
lowered_guards least c (Sure n) = lowered_at least n (2 * n + 2) (Rattle.std.proofs.Common.inr refl)

pub raises_claim : (desks slots id : ℕ) (me : Me ℕ Notes) (k : KeeperNotes) (m : ℕ) → me.0 ≡ Keeper k → m ≤ most
    → Allows (Kept desks) slots id me 1 (word_after_claim m) (claims (step 0 0 m 0 none) me)
raises_claim desks slots id me k m is fits s r _ at _ =
    let at' : get_elem? s.views id ≡ some (Keeper k) = at ∙ ap some is in
    let f : FitsKeeper desks s.words k = r.fits id (Keeper k) at' in
    let c : ℕ = claim s.words in
    let c_fits : c ≤ most = r.words.claim_fits in
    let x : ℕ = word_after_claim m c in
    let ws : List ℕ = slice_set s.words 1 x in
    let size : length s.words ≡ desks + 3 = r.words.size in
    let now : claim ws ≡ x = word_same s.words 1 x (omega arith) in
    let purged_is : purge_word ws ≡ purge_word s.words = word_other s.words 1 2 x (λ e. omega arith) in
    let below : purge_word s.words ≤ c = r.words.purged_fits in
    let k' : KeeperNotes = after_claim m k in (
      Keeper k',
      keeps,
      tt,
      keeper_turn desks s id k k' ws r at' (record {
        size = length-set s.words 1 x;
        newest_is = word_other s.words 1 0 x (λ e. omega arith);
        claim_up = subst (λ (y : ℕ). c ≤ y) (sym now) (omega arith);
        claim_fits = subst (λ (y : ℕ). y ≤ most) (sym now) (omega arith);
        purged_fits = subst (λ (y : ℕ). purge_word ws ≤ y) (sym now)
            (subst (λ (y : ℕ). y ≤ x) (sym purged_is) (omega arith));
        pins = λ d. word_other s.words 1 (d + 3) x (λ q. omega arith);
        horizon = f.horizon ∙ sym purged_is;
        scan = λ _. (subst (λ (y : ℕ). m ≤ y) (sym now) (omega arith), omega arith);
        least = λ _ d q t lt none word old. absurd (omega arith);
        purges = λ d q t lt g old. subst (λ (y : ℕ). Guards y q t) (sym purged_is) g;
      }),
      for_keeper me.0 k is (λ (l : KeeperNotes). Keeper k' ≡ Keeper (after_claim m l)) refl,
    )

-- a load by the keeper
keeper_load : (desks : ℕ) (s : State ℕ Notes) (id i : ℕ) (k k' : KeeperNotes) → Kept desks s
    → get_elem? s.views id ≡ some (Keeper k) → KeeperTurn desks s.words s.words k k'
    → Kept desks (record {
      words = slice_set s.words i (slice_index s.words i);
      homes = s.homes;
      views = slice_set s.views id (Keeper k');
    })
keeper_load desks s id i k k' r at t = keeper_turn desks s id k k' (slice_set s.words i (slice_index s.words i)) r at
    (subst (λ (ws : List ℕ). KeeperTurn desks s.words ws k k') (sym (still s.words i)) t)

pub scans_pin : (desks slots id : ℕ) (me : Me ℕ Notes) (k : KeeperNotes) (word : ℕ) → me.0 ≡ Keeper k
    → k.scanning ≡ true → k.passed < desks → word ≡ k.passed + 3
    → Allows (Kept desks) slots id me word (λ n. n) (scans (step 0 0 0 0 none) me)
scans_pin desks slots id me k word is on more where_is s r _ at _ =
    let at' : get_elem? s.views id ≡ some (Keeper k) = at ∙ ap some is in
    let f : FitsKeeper desks s.words k = r.fits id (Keeper k) at' in
    let x : ℕ = slice_index s.words word in
    let x_is : x ≡ pin_at s.words k.passed = ap (λ (i : ℕ). slice_index s.words i) where_is in
    let k' : KeeperNotes = after_desk x k in
    let less : least_with k.least x ≤ k.least = lowered_less k.least x in
    let kept : (d q : ℕ) (t : PinState) → d < k.passed + 1 → pin_at s.words d ≡ pin_word t
    → (k.scanning ≡ true → d < k.passed → Guards k.least q t) → Guards (least_with k.least x) q t
    = λ d q t lt is_word old. dite (ℕ_discrete d k.passed)
    (λ (same : d ≡ k.passed). subst (λ (y : ℕ). Guards (least_with k.least y) q t)
    (sym (x_is ∙ (ap (λ (e : ℕ). pin_at s.words e) (sym same) ∙ is_word))) (lowered_guards k.least q t))
    (λ ne. guards_less k.least (least_with k.least x) q t less (old on (omega arith))) in (
      Keeper k',
      keeps,
      tt,
      keeper_load desks s id word k k' r at' (record {
        size = refl;
        newest_is = refl;
        claim_up = le_refl _;
        claim_fits = r.words.claim_fits;
        purged_fits = r.words.purged_fits;
        pins = λ d. refl;
        horizon = f.horizon;
        scan = λ _. (le_trans less (f.scan on).least, omega arith);
        least = λ _ d q t lt below is_word old. kept d q t below is_word old;
        purges = λ d q t lt g old. g;
      }),
      for_keeper me.0 k is (λ (l : KeeperNotes). Keeper k' ≡ Keeper (after_desk x l)) refl,
    )

pub stores_purged : (desks slots id : ℕ) (me : Me ℕ Notes) (k : KeeperNotes) (x : ℕ) → me.0 ≡ Keeper k
    → k.scanning ≡ true → k.passed ≡ desks → x ≡ max k.horizon k.least
    → Allows (Kept desks) slots id me 2 (λ _. x) (λ _. settles (step 0 0 0 0 none) me x)
stores_purged desks slots id me k x is on all what s r _ at _ =
    let at' : get_elem? s.views id ≡ some (Keeper k) = at ∙ ap some is in
    let f : FitsKeeper desks s.words k = r.fits id (Keeper k) at' in
    let ws : List ℕ = slice_set s.words 2 x in
    let size : length s.words ≡ desks + 3 = r.words.size in
    let now : purge_word ws ≡ x = word_same s.words 2 x (omega arith) in
    let claim_is : claim ws ≡ claim s.words = word_other s.words 2 1 x (λ e. omega arith) in
    let old : purge_word s.words ≤ claim s.words = r.words.purged_fits in
    let least : k.least ≤ claim s.words = (f.scan on).least in
    let horizon : k.horizon ≡ purge_word s.words = f.horizon in
    let fits : x ≤ claim s.words = omega arith in
    let x_is : x ≡ max (purge_word s.words) k.least = what ∙ ap (λ (y : ℕ). max y k.least) horizon in
    let k' : KeeperNotes = after_purge k in (
      Keeper k',
      keeps,
      tt,
      keeper_turn desks s id k k' ws r at' (record {
        size = length-set s.words 2 x;
        newest_is = word_other s.words 2 0 x (λ e. omega arith);
        claim_up = subst (λ (y : ℕ). claim s.words ≤ y) (sym claim_is) (le_refl _);
        claim_fits = subst (λ (y : ℕ). y ≤ most) (sym claim_is) r.words.claim_fits;
        purged_fits = subst (λ (y : ℕ). y ≤ claim ws) (sym now) (subst (λ (y : ℕ). x ≤ y) (sym claim_is) fits);
        pins = λ d. word_other s.words 2 (d + 3) x (λ q. omega arith);
        horizon = sym what ∙ sym now;
        scan = λ off. absurd (true≢false (sym off));
        least = λ off. absurd (true≢false (sym off));
        purges = λ d q t lt g watched. subst (λ (y : ℕ). Guards y q t) (sym (now ∙ x_is))
            (guards_max (purge_word s.words) k.least q t g (watched on (omega arith)));
      }),
      for_keeper me.0 k is (λ (l : KeeperNotes). Keeper k' ≡ Keeper (after_purge l)) refl,
    )

pub finds_pin : (desks slots id : ℕ) (me : Me ℕ Notes) (k : KeeperNotes) (d word : ℕ) → me.0 ≡ Keeper k → d < desks
    → word ≡ d + 3 → Allows (Kept desks) slots id me word (λ n. n) (finds (step 0 word 0 0 none) me)
finds_pin desks slots id me k d word is lt where_is s r _ at _ =
    let at' : get_elem? s.views id ≡ some (Keeper k) = at ∙ ap some is in
    let f : FitsKeeper desks s.words k = r.fits id (Keeper k) at' in
    let x : ℕ = slice_index s.words word in
    let k' : KeeperNotes = saw_pin (word - 3) x k in (
      Keeper k',
      keeps,
      tt,
      keeper_load desks s id word k k' r at' (record {
        size = refl;
        newest_is = refl;
        claim_up = le_refl _;
        claim_fits = r.words.claim_fits;
        purged_fits = r.words.purged_fits;
        pins = λ d. refl;
        horizon = f.horizon;
        scan = λ on. ((f.scan on).least, (f.scan on).passed);
        least = λ on d q t lt below is_word old. old on below;
        purges = λ d q t lt g old. g;
      }),
      for_keeper me.0 k is (λ (l : KeeperNotes). (Keeper k' ≡ Keeper (saw_pin (word - 3) x l))
          × ((n : ℕ) → x ≡ 2 * n + 2 → l.horizon ≤ n)) (
            refl,
            λ n e. subst (λ (y : ℕ). y ≤ n) (sym f.horizon)
                (r.words.sure d n lt (ap (λ (i : ℕ). slice_index s.words i) (sym where_is) ∙ e)),
          ),
    )

-- the opening seat
zeros : (n i : ℕ) → slice_index (replicate n 0) i ≡ 0
zeros zero i = refl
zeros (suc n) zero = refl
zeros (suc n) (suc i) = zeros n i

one_view : (v : Notes) (i : ℕ) (w : Notes) → get_elem? (v ∷ []) i ≡ some w → (i ≡ 0) × (v ≡ w)
one_view v zero w e = (refl, some-injective v w e)
one_view v (suc i) w e = absurd (some-ne-none w (sym e))

pub opens : (desks : ℕ) → Kept desks (opening (replicate (desks + 3) 0) [] dealer_first)
opens desks =
    let ws : List ℕ = replicate (desks + 3) 0 in
    let at : (i : ℕ) → slice_index ws i ≡ 0 = zeros (desks + 3) in
    record {
      words = record {
        size = length-replicate (desks + 3) 0;
        newest_fits = subst (λ (x : ℕ). x ≤ most) (sym (at 0)) (omega arith);
        claim_fits = subst (λ (x : ℕ). x ≤ most) (sym (at 1)) (omega arith);
        purged_fits = subst (λ (x : ℕ). x ≤ claim ws) (sym (at 2)) (omega arith);
        sure = λ d n lt e. subst (λ (x : ℕ). x ≤ n) (sym (at 2)) (omega arith);
      };
      fits = λ i v e. subst (Fits desks ws) (one_view dealer_first i v e).1
          (record { dealt = omega arith; free = λ d _ _. at (d + 3); unpurged = λ _. at 2 });
      apart = λ i j v w ei ej ne. absurd (ne ((one_view dealer_first i v ei).0 ∙ sym (one_view dealer_first j w ej).0));
    }

deals_at : (desks id : ℕ) (o : DealerNotes) → o.dealt < desks
    → Splits (Kept desks) id (Dealer o) (dealt_on (Dealer o)) (next_desk (Dealer o))
deals_at desks id o more s k at =
    let f : FitsDealer desks s.words o = k.fits id (Dealer o) at in
    kept_split desks s id (Dealer o) (dealt_on (Dealer o)) (next_desk (Dealer o)) k at
    (record { dealt = omega arith; free = λ d le lt. f.free d (omega arith) lt; unpurged = f.unpurged })
    (record {
      number = more;
      seen = omega arith;
      claimed = omega arith;
      word = f.free o.dealt (le_refl _) more;
      moment = tt;
      guards = tt;
    })
    (omega arith) tt others
  where
    others : (u : Notes) → Fits desks s.words u → Apart (Dealer o) u → Apart u (Dealer o)
        → (Apart (dealt_on (Dealer o)) u × Apart u (dealt_on (Dealer o)))
        × (Apart (next_desk (Dealer o)) u × Apart u (next_desk (Dealer o)))
    others Gone f a b = ((tt, tt), (tt, tt))
    others (Dealer r) f a b = absurd a
    others (Desk q) f a b = ((omega arith, tt), ((λ e. omega arith), (λ e. omega arith)))
    others (Keeper l) f a b = ((a, tt), ((λ _ _. tt), tt))

pub deals_desk : (desks id : ℕ) (v : Notes) (o : DealerNotes) → v ≡ Dealer o → o.dealt < desks
    → Splits (Kept desks) id v (dealt_on v) (next_desk v)
deals_desk desks id v o is more = subst (λ (x : Notes). Splits (Kept desks) id x (dealt_on x) (next_desk x)) (sym is)
    (deals_at desks id o more)

deals_keeper_at : (desks id : ℕ) (o : DealerNotes) → o.keeper ≡ false
    → Splits (Kept desks) id (Dealer o) (keeper_out (Dealer o)) (first_keeper (Dealer o))
deals_keeper_at desks id o off s k at =
    let f : FitsDealer desks s.words o = k.fits id (Dealer o) at in
    kept_split desks s id (Dealer o) (keeper_out (Dealer o)) (first_keeper (Dealer o)) k at
    (record { dealt = f.dealt; free = f.free; unpurged = λ bad. absurd (true≢false bad) })
    (record { horizon = sym (f.unpurged off); scan = λ on. absurd (true≢false (sym on)) })
    refl tt others
  where
    others : (u : Notes) → Fits desks s.words u → Apart (Dealer o) u → Apart u (Dealer o)
        → (Apart (keeper_out (Dealer o)) u × Apart u (keeper_out (Dealer o)))
        × (Apart (first_keeper (Dealer o)) u × Apart u (first_keeper (Dealer o)))
    others Gone f a b = ((tt, tt), (tt, tt))
    others (Dealer r) f a b = absurd a
    others (Desk q) f a b = ((a, tt), (tt, (λ on _. absurd (true≢false (sym on)))))
    others (Keeper l) f a b = absurd (true≢false (sym a ∙ off))

pub deals_keeper : (desks id : ℕ) (v : Notes) (o : DealerNotes) → v ≡ Dealer o → o.keeper ≡ false
    → Splits (Kept desks) id v (keeper_out v) (first_keeper v)
deals_keeper desks id v o is off = subst (λ (x : Notes). Splits (Kept desks) id x (keeper_out x) (first_keeper x))
    (sym is) (deals_keeper_at desks id o off)

-- a desk without a pin has none that is sure
pub free_is_unsure : (t : PinState) → is_pinned t ≡ false → is_sure t ≡ false
free_is_unsure Free e = refl
free_is_unsure (Announced n) e = refl
free_is_unsure (Looked n) e = refl
free_is_unsure (Sure n) e = absurd (true≢false e)
