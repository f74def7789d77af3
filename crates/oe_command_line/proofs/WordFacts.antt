-- Words in their order.
use Rattle.std.proofs.Common.{◌≡◌, ◌==◌, ℕ, ◌-◌, ◌<◌, ◌≤◌, false, List, [], ◌∷◌, length, take, drop, map, get_or}
use Rattle.std.proofs.Common.{slice_index, codes, Bor, refl, sym, ap, subst, ◌∙◌, inl, inr, ◌⊎◌, arith}
use Rattle.std.proofs.Common.{Bool, Option, None, Some}
use Rattle.std.proofs.lemmas.Bool.{eq-eqb, both_ways}
use Rattle.std.proofs.lemmas.List.{take_all}
use Rattle.std.proofs.Common.{◌++◌}
use Rattle.std.proofs.lemmas.List.{length-drop, take-append-drop, map-append}
use Rattle.std.proofs.lemmas.Fmt.{decimal_injective}
use Rattle.std.specs.Fmt.{decimal}
use Rattle.std.specs.Int.{IsInRange}
use Rattle.std.specs.Prelude.{MatchOption}
use Rattle.oe_rows.specs.declared.layouts.Layout.{Layout}
use Rattle.oe_rows.specs.declared.layouts.Layout.TheVariants.{WholeRows}
use Rattle.oe_command_line.specs.Words.{AsksScript, AsksExplain, AsksSerial, AsksDrive, AsksAudit, Names, NamesFile}
use Rattle.oe_command_line.specs.Words.{IsPlain, Says, no_options, AsksLoad, AsksFollowing, AreForAudit, AreForLoad}
use Rattle.oe_command_line.specs.Words.{csv_words}
use Rattle.oe_command_line.specs.Words.{AreAudited, AreBehindSource, AreLoaded, AreNumbered}
use Rattle.oe_command_line.specs.declared.BehindSource.{BehindSource}
use Rattle.oe_command_line.specs.declared.Numbered.{Numbered}
use Rattle.oe_command_line.specs.declared.options.LoadOptions.{LoadOptions}
use Rattle.oe_command_line.specs.Words.{AreTablesOptions, AreSerialOptions, AsksFile}
use Rattle.oe_command_line.specs.Words.{AsksLayout}
use Rattle.oe_command_line.specs.Words.{AsksExtents, AsksOpened, AreDriveOptions}
use Rattle.oe_command_line.specs.declared.SerialOptions.{SerialOptions}
use Rattle.oe_command_line.specs.declared.DriveOptions.{DriveOptions}
use Rattle.oe_command_line.specs.declared.options.AuditOptions.{AuditOptions}
use Rattle.oe_command_line.specs.declared.options.Options.{Options}
use Rattle.oe_command_line.specs.declared.options.Separator.{Separator}
use Rattle.oe_command_line.specs.declared.options.Separator.TheVariants as separator
use Rattle.oe_command_line.specs.declared.Task.{Task}
use Rattle.oe_numbers.specs.declared.drives.DriveNumbers.{DriveNumbers}
use Rattle.oe_numbers.specs.declared.drives.LoadNumbers.{LoadNumbers}
use Rattle.oe_numbers.specs.declared.drives.FollowingNumbers.{FollowingNumbers}
use Rattle.oe_numbers.specs.Words.{AreInRange, words_of, AreOfLoad, load_words_of, AreFollowing, following_words_of}
use Rattle.oe_command_line.proofs.OptionFacts.{says_one, no_before}
use Rattle.oe_command_line.specs.declared.Task.TheVariants as task

pub plain : (word : List ℕ) → (slice_index word 0 == 45) ≡ false → IsPlain word
plain word other = λ e. both_ways (slice_index word 0 == 45) other (eq-eqb (slice_index word 0) 45 e)

pub two : {X : Type 0} (f : X → List ℕ) (ws : List X) (b : X) → length ws ≡ 2 → b ≡ get_or ws 1 b → f b ≡ codes "script"
    → AsksScript (map f ws) task.Script
two f [] b h i e = absurd (omega (arith, h))
two f (x ∷ []) b h i e = absurd (omega (arith, h))
two f (x ∷ y ∷ []) b h i e = (ap f (sym i) ∙ e, refl)
two f (x ∷ y ∷ z ∷ r) b h i e = absurd (omega (arith, h))

-- the words behind a verb
behind_verb : {X : Type 0} (ws : List X) → 2 ≤ length ws → take (length ws - 2) (drop 2 ws) ≡ drop 2 ws
behind_verb [] h = absurd (omega (arith, h))
behind_verb (x ∷ []) h = absurd (omega (arith, h))
behind_verb (x ∷ y ∷ r) h = take_all (length (x ∷ y ∷ r) - 2) r (omega arith)

pub file_named : {X : Type 0} (f : X → List ℕ) (ws : List X) (r : Option (Bor (List ℕ))) → 2 ≤ length ws
    → MatchOption r ((file : List ℕ) → Names (map f (take (length ws - 2) (drop 2 ws))) file → ⊥)
    (λ file. Names (map f (take (length ws - 2) (drop 2 ws))) file.now)
    → MatchOption r ((file : List ℕ) → NamesFile (map f ws) file → ⊥) (λ file. NamesFile (map f ws) file.now)
file_named f [] r h m = absurd (omega (arith, h))
file_named f (x ∷ []) r h m = absurd (omega (arith, h))
file_named {X = X} f (x ∷ y ∷ ws) r h m =
    subst (λ (ts : List X). MatchOption r ((file : List ℕ) → Names (map f ts) file → ⊥)
    (λ file. Names (map f ts) file.now)) (behind_verb (x ∷ y ∷ ws) h) m

-- a verb before a file's name
pub named : {X : Type 0} (f : X → List ℕ) (ws : List X) (b : X) (name : Bor (List ℕ)) → 2 ≤ length ws
    → b ≡ get_or ws 1 b → f b ≡ codes "script" → NamesFile (map f ws) name.now
    → AsksScript (map f ws) (task.File name)
named f [] b name h i e n = absurd (omega (arith, h))
named f (x ∷ []) b name h i e n = absurd (omega (arith, h))
named f (x ∷ y ∷ r) b name h i e n = (ap f (sym i) ∙ e, n)

-- and no name behind it
pub no_script : {X : Type 0} (f : X → List ℕ) (ws : List X) → (length ws ≡ 2 → ⊥)
    → ((file : List ℕ) → NamesFile (map f ws) file → ⊥) → (t : Task) → AsksScript (map f ws) t → ⊥
no_script f [] h n t a = a
no_script f (x ∷ []) h n t a = a
no_script f (x ∷ y ∷ []) h n task.Script a = h refl
no_script f (x ∷ y ∷ z ∷ r) h n task.Script a = cc
no_script f (x ∷ y ∷ r) h n (task.File name) a = n name.now a.1
no_script f (x ∷ y ∷ r) h n (task.Explain name) a = a
no_script f (x ∷ y ∷ r) h n (task.Serial name from tables between) a = a
no_script f (x ∷ y ∷ r) h n (task.Drive d commits is_busy) a = a
no_script f (x ∷ y ∷ r) h n (task.Opened d e l file) a = a
no_script f (x ∷ y ∷ r) h n (task.Audit name before options) a = a
no_script f (x ∷ y ∷ r) h n (task.Load d load) a = a
no_script f (x ∷ y ∷ r) h n (task.Following directory d load) a = a

-- the mark behind the verb, and a file's name behind it or none
pub explains : {X : Type 0} (f : X → List ℕ) (ws : List X) (b d : X) → length ws ≡ 3 → b ≡ get_or ws 1 b
    → f b ≡ codes "script" → d ≡ get_or ws 2 d → f d ≡ codes "--explain" → AsksExplain (map f ws) (task.Explain None)
explains f [] b d h i e j k = absurd (omega (arith, h))
explains f (x ∷ []) b d h i e j k = absurd (omega (arith, h))
explains f (x ∷ y ∷ []) b d h i e j k = absurd (omega (arith, h))
explains f (x ∷ y ∷ z ∷ []) b d h i e j k = (ap f (sym i) ∙ e, ap f (sym j) ∙ k, refl)
explains f (x ∷ y ∷ z ∷ w ∷ r) b d h i e j k = absurd (omega (arith, h))

-- the words from the verb on
from_verb : {X : Type 0} (ws : List X) → 1 ≤ length ws → take (length ws - 1) (drop 1 ws) ≡ drop 1 ws
from_verb [] h = absurd (omega (arith, h))
from_verb (x ∷ r) h = take_all (length (x ∷ r) - 1) r (omega arith)

pub explains_file : {X : Type 0} (f : X → List ℕ) (ws : List X) (b d : X) (name : Bor (List ℕ)) → 3 ≤ length ws
    → b ≡ get_or ws 1 b → f b ≡ codes "script" → d ≡ get_or ws 2 d → f d ≡ codes "--explain"
    → NamesFile (map f (take (length ws - 1) (drop 1 ws))) name.now
    → AsksExplain (map f ws) (task.Explain (Some name))
explains_file f [] b d name h i e j k n = absurd (omega (arith, h))
explains_file f (x ∷ []) b d name h i e j k n = absurd (omega (arith, h))
explains_file f (x ∷ y ∷ []) b d name h i e j k n = absurd (omega (arith, h))
explains_file {X = X} f (x ∷ y ∷ z ∷ r) b d name h i e j k n = (
  ap f (sym i) ∙ e,
  ap f (sym j) ∙ k,
  subst (λ (ts : List X). NamesFile (map f ts) name.now) (from_verb (x ∷ y ∷ z ∷ r) (omega arith)) n,
)

pub no_explain : {X : Type 0} (f : X → List ℕ) (ws : List X) → (length ws ≡ 3 → ⊥)
    → ((file : List ℕ) → NamesFile (map f (take (length ws - 1) (drop 1 ws))) file → ⊥) → (t : Task)
    → AsksExplain (map f ws) t → ⊥
no_explain f [] h n t a = a
no_explain f (x ∷ []) h n t a = a
no_explain f (x ∷ y ∷ []) h n t a = a
no_explain f (x ∷ y ∷ z ∷ []) h n (task.Explain None) a = h refl
no_explain f (x ∷ y ∷ z ∷ w ∷ r) h n (task.Explain None) a = let words = a.2 in cc
no_explain {X = X} f (x ∷ y ∷ z ∷ r) h n (task.Explain (Some name)) a =
    n name.now (subst (λ (ts : List X). NamesFile (map f ts) name.now)
    (sym (from_verb (x ∷ y ∷ z ∷ r) (omega arith))) a.2)
no_explain f (x ∷ y ∷ z ∷ r) h n task.Script a = a
no_explain f (x ∷ y ∷ z ∷ r) h n (task.File name) a = a
no_explain f (x ∷ y ∷ z ∷ r) h n (task.Serial name from tables between) a = a
no_explain f (x ∷ y ∷ z ∷ r) h n (task.Drive d commits is_busy) a = a
no_explain f (x ∷ y ∷ z ∷ r) h n (task.Opened d e l file) a = a
no_explain f (x ∷ y ∷ z ∷ r) h n (task.Audit name before options) a = a
no_explain f (x ∷ y ∷ z ∷ r) h n (task.Load d load) a = a
no_explain f (x ∷ y ∷ z ∷ r) h n (task.Following directory d load) a = a

-- what stands behind the first word
second : (a b : List ℕ) (x y : List (List ℕ)) {m n : List ℕ} → m ∷ a ∷ x ≡ n ∷ b ∷ y → a ≡ b
second a b x y e = cc

third : (a b : List ℕ) (x y : List (List ℕ)) {m n : List ℕ} → m ∷ a ∷ x ≡ n ∷ b ∷ y → x ≡ y
third a b x y e = cc

pub audits : {X : Type 0} (f : X → List ℕ) (ws : List X) (b d : X) (name : Bor (List ℕ))
    (before : Option (Bor (List ℕ))) (options : AuditOptions)
    → 3 ≤ length ws → b ≡ get_or ws 1 b → f b ≡ codes "audit" → d ≡ get_or ws 2 d
    → name.now ≡ f d → (IsPlain name.now ⊎ (name.now ≡ codes "-"))
    → AreBehindSource (map f (take (length ws - 3) (drop 3 ws))) before options
    → AsksAudit (map f ws) (task.Audit name before options)
audits f [] b d name before options h i e j n p said = absurd (omega (arith, h))
audits f (x ∷ []) b d name before options h i e j n p said = absurd (omega (arith, h))
audits f (x ∷ y ∷ []) b d name before options h i e j n p said = absurd (omega (arith, h))
audits {X = X} f (x ∷ y ∷ z ∷ r) b d name before options h i e j n p said =
    let whole : take (length (x ∷ y ∷ z ∷ r) - 3) r ≡ r = take_all (length (x ∷ y ∷ z ∷ r) - 3) r (omega arith) in
    let named : name.now ≡ f z = n ∙ ap f j in (
      ap f (sym i) ∙ e,
      sym named,
      subst (λ word. IsPlain word ⊎ (word ≡ codes "-")) named p,
      subst (λ (ts : List X). AreBehindSource (map f ts) before options) whole said,
    )

pub no_audit : {X : Type 0} (f : X → List ℕ) (ws : List X)
    → ((b : BehindSource) → AreBehindSource (map f (take (length ws - 3) (drop 3 ws))) b.before b.options → ⊥)
    → (t : Task) → AsksAudit (map f ws) t → ⊥
no_audit f [] n t a = a
no_audit f (x ∷ []) n t a = a
no_audit f (x ∷ y ∷ []) n t a = a
no_audit f (x ∷ y ∷ z ∷ r) n task.Script a = a
no_audit f (x ∷ y ∷ z ∷ r) n (task.File name) a = a
no_audit f (x ∷ y ∷ z ∷ r) n (task.Explain name) a = a
no_audit f (x ∷ y ∷ z ∷ r) n (task.Serial name from tables between) a = a
no_audit f (x ∷ y ∷ z ∷ r) n (task.Drive d commits is_busy) a = a
no_audit f (x ∷ y ∷ z ∷ r) n (task.Opened d e l file) a = a
no_audit {X = X} f (x ∷ y ∷ z ∷ r) n (task.Audit name before options) (verb, named, source, said) =
    let whole : take (length (x ∷ y ∷ z ∷ r) - 3) r ≡ r = take_all (length (x ∷ y ∷ z ∷ r) - 3) r (omega arith) in
    n (record { before = before; options = options })
    (subst (λ (ts : List X). AreBehindSource (map f ts) before options) (sym whole) said)
no_audit f (x ∷ y ∷ z ∷ r) n (task.Load d load) a = a
no_audit f (x ∷ y ∷ z ∷ r) n (task.Following directory d load) a = a

-- what the words say is one set of options, and these are no audit's
no_audit_options : (words : List (List ℕ)) (o : Options) → Says no_options words o
    → ((a : AuditOptions) → AreForAudit o a → ⊥) → (a : AuditOptions) → AreAudited words a → ⊥
no_audit_options words o said none a (p, other, own) =
    none a (subst (λ (q : Options). AreForAudit q a) (says_one no_options words p o other said) own)

pub audited_of : (words : List (List ℕ)) (o : Options) (r : Option AuditOptions) → Says no_options words o
    → MatchOption r ((a : AuditOptions) → AreForAudit o a → ⊥) (AreForAudit o)
    → MatchOption r ((a : AuditOptions) → AreAudited words a → ⊥) (AreAudited words)
audited_of words o None said m = no_audit_options words o said m
audited_of words o (Some a) said m = (o, said, m)

-- the words behind a source, where the first is the mark
pub before_named : (ws rest : List (List ℕ)) (d : Bor (List ℕ)) → IsPlain d.now
    → ws ≡ codes "--before" ∷ d.now ∷ rest → ((a : AuditOptions) → AreAudited rest a → ⊥) → (b : BehindSource)
    → AreBehindSource ws b.before b.options → ⊥
before_named ws rest d plain is none b h = by b.before h
  where
    by : (before : Option (Bor (List ℕ))) → AreBehindSource ws before b.options → ⊥
    by None (options, own, e, (o, said, a)) =
        no_before no_options o d.now rest (subst (λ (ts : List (List ℕ)). Says no_options ts o) (sym e ∙ is) said)
    by (Some c) (options, own, e, a) =
        none b.options (subst (λ (ts : List (List ℕ)). AreAudited ts b.options) (third _ _ _ _ (sym e ∙ is)) a)

-- and where it is not
pub no_before_named : (ws : List (List ℕ))
    → ((d : List ℕ) (rest : List (List ℕ)) → IsPlain d → ws ≡ codes "--before" ∷ d ∷ rest → ⊥)
    → ((a : AuditOptions) → AreAudited ws a → ⊥) → (b : BehindSource) → AreBehindSource ws b.before b.options → ⊥
no_before_named ws other none b h = by b.before h
  where
    by : (before : Option (Bor (List ℕ))) → AreBehindSource ws before b.options → ⊥
    by None (options, own, e, a) =
        none b.options (subst (λ (ts : List (List ℕ)). AreAudited ts b.options) (sym e) a)
    by (Some c) (options, own, e, a) = other c.now options own e

-- LOADS

-- what the words say is one set of options, and these are no load's
no_load_options : (words : List (List ℕ)) (requests : ℕ) (o : Options) → Says no_options words o
    → ((l : LoadOptions) → AreForLoad o requests l → ⊥) → (l : LoadOptions) → AreLoaded words requests l → ⊥
no_load_options words requests o said none l (p, other, own) =
    none l (subst (λ (q : Options). AreForLoad q requests l) (says_one no_options words p o other said) own)

pub loaded_of : (words : List (List ℕ)) (requests : ℕ) (o : Options) (r : Option LoadOptions) → Says no_options words o
    → MatchOption r ((l : LoadOptions) → AreForLoad o requests l → ⊥) (AreForLoad o requests)
    → MatchOption r ((l : LoadOptions) → AreLoaded words requests l → ⊥) (AreLoaded words requests)
loaded_of words requests o None said m = no_load_options words requests o said m
loaded_of words requests o (Some l) said m = (o, said, m)

-- the seven numbers, and what stands behind them
seven : {X : Type 0} (f : X → List ℕ) (r : List X) (a b c d e g h : List ℕ) (options : List (List ℕ))
    → map f r ≡ a ∷ b ∷ c ∷ d ∷ e ∷ g ∷ h ∷ options
    → (map f (take 7 r) ≡ a ∷ b ∷ c ∷ d ∷ e ∷ g ∷ h ∷ []) × (map f (drop 7 r) ≡ options) × (7 ≤ length r)
seven f [] a b c d e g h options is = cc
seven f (x1 ∷ []) a b c d e g h options is = cc
seven f (x1 ∷ x2 ∷ []) a b c d e g h options is = cc
seven f (x1 ∷ x2 ∷ x3 ∷ []) a b c d e g h options is = cc
seven f (x1 ∷ x2 ∷ x3 ∷ x4 ∷ []) a b c d e g h options is = cc
seven f (x1 ∷ x2 ∷ x3 ∷ x4 ∷ x5 ∷ []) a b c d e g h options is = cc
seven f (x1 ∷ x2 ∷ x3 ∷ x4 ∷ x5 ∷ x6 ∷ []) a b c d e g h options is = cc
seven f (x1 ∷ x2 ∷ x3 ∷ x4 ∷ x5 ∷ x6 ∷ x7 ∷ r) a b c d e g h options is = (cc, cc, omega arith)

pub drive_parts : {X : Type 0} (f : X → List ℕ) (ws : List X) (d : DriveNumbers) (commits : Option (Bor (List ℕ)))
    (is_busy : Bool) → AsksDrive (map f ws) (task.Drive d commits is_busy)
    → (9 ≤ length ws) × AreInRange d × (map f (take 7 (drop 2 ws)) ≡ words_of d)
    × AreDriveOptions (map f (take (length ws - 9) (drop 9 ws))) commits is_busy
drive_parts f [] d commits is_busy a = absurd a
drive_parts f (x ∷ []) d commits is_busy a = absurd a
drive_parts f (x ∷ y ∷ r) d commits is_busy (verb, ranges, (options, is, said)) =
    let parts = seven f r (decimal d.scale.warehouses) (decimal d.scale.customers) (decimal d.scale.items)
    (decimal d.extents) (decimal d.terminals) (decimal d.requests) (decimal d.seed) options is in
    let long : length (drop 7 r) ≡ length r - 7 = length-drop 7 r in
    let whole : take (length (x ∷ y ∷ r) - 9) (drop 7 r) ≡ drop 7 r =
    take_all (length (x ∷ y ∷ r) - 9) (drop 7 r) (omega (arith, long)) in (
      omega (arith, parts.2),
      ranges,
      parts.0,
      subst (λ (ts : List (List ℕ)). AreDriveOptions ts commits is_busy) (sym (ap (map f) whole ∙ parts.1)) said,
    )

pub drives : {X : Type 0} (f : X → List ℕ) (ws : List X) (b : X) (d : DriveNumbers) (commits : Option (Bor (List ℕ)))
    (is_busy : Bool) → 9 ≤ length ws → b ≡ get_or ws 1 b → f b ≡ codes "drive" → AreInRange d
    → map f (take 7 (drop 2 ws)) ≡ words_of d
    → AreDriveOptions (map f (take (length ws - 9) (drop 9 ws))) commits is_busy
    → AsksDrive (map f ws) (task.Drive d commits is_busy)
drives f [] b d commits is_busy h i e ranges words said = absurd (omega (arith, h))
drives f (x ∷ []) b d commits is_busy h i e ranges words said = absurd (omega (arith, h))
drives {X = X} f (x ∷ y ∷ r) b d commits is_busy h i e ranges words said =
    let long : length (drop 7 r) ≡ length r - 7 = length-drop 7 r in
    let whole : take (length (x ∷ y ∷ r) - 9) (drop 7 r) ≡ drop 7 r =
    take_all (length (x ∷ y ∷ r) - 9) (drop 7 r) (omega (arith, long)) in (
      ap f (sym i) ∙ e,
      ranges,
      (
        map f (drop 7 r),
        ap (map f) (sym (take-append-drop 7 r))
            ∙ (map-append f (take 7 r) (drop 7 r) ∙ ap (λ z. z ++ map f (drop 7 r)) words),
        subst (λ (ts : List X). AreDriveOptions (map f ts) commits is_busy) whole said,
      ),
    )

pub no_drive : {X : Type 0} (f : X → List ℕ) (ws : List X)
    → ((o : DriveOptions)
    → AreDriveOptions (map f (take (length ws - 9) (drop 9 ws))) o.commits o.is_busy → ⊥)
    → (t : Task) → AsksDrive (map f ws) t → ⊥
no_drive f [] n t a = a
no_drive f (x ∷ []) n t a = a
no_drive f (x ∷ y ∷ r) n task.Script a = a
no_drive f (x ∷ y ∷ r) n (task.File name) a = a
no_drive f (x ∷ y ∷ r) n (task.Explain name) a = a
no_drive f (x ∷ y ∷ r) n (task.Serial name from tables between) a = a
no_drive f (x ∷ y ∷ r) n (task.Opened d g l file) a = a
no_drive f (x ∷ y ∷ r) n (task.Audit name before options) a = a
no_drive f (x ∷ y ∷ r) n (task.Following directory d load) a = a
no_drive f (x ∷ y ∷ r) n (task.Load d load) a = a
no_drive f (x ∷ y ∷ r) n (task.Drive d commits is_busy) a =
    n (record { commits = commits; is_busy = is_busy }) (drive_parts f (x ∷ y ∷ r) d commits is_busy a).3

pub load_parts : {X : Type 0} (f : X → List ℕ) (ws : List X) (d : LoadNumbers) (load : LoadOptions)
    → AsksLoad (map f ws) (task.Load d load)
    → (9 ≤ length ws) × AreOfLoad d × (map f (take 7 (drop 2 ws)) ≡ load_words_of d)
    × AreLoaded (map f (take (length ws - 9) (drop 9 ws))) d.requests load
load_parts f [] d load a = absurd a
load_parts f (x ∷ []) d load a = absurd a
load_parts f (x ∷ y ∷ r) d load (verb, ranges, (options, is, said)) =
    let parts = seven f r (decimal d.scale.warehouses) (decimal d.scale.customers) (decimal d.scale.items)
    (decimal d.extents) (decimal d.terminals) (decimal d.requests) (decimal d.seed) options is in
    let long : length (drop 7 r) ≡ length r - 7 = length-drop 7 r in
    let whole : take (length (x ∷ y ∷ r) - 9) (drop 7 r) ≡ drop 7 r =
    take_all (length (x ∷ y ∷ r) - 9) (drop 7 r) (omega (arith, long)) in (
      omega (arith, parts.2),
      ranges,
      parts.0,
      subst (λ (ts : List (List ℕ)). AreLoaded ts d.requests load) (sym (ap (map f) whole ∙ parts.1)) said,
    )

pub loads : {X : Type 0} (f : X → List ℕ) (ws : List X) (b : X) (d : LoadNumbers) (load : LoadOptions)
    → 9 ≤ length ws → b ≡ get_or ws 1 b → f b ≡ codes "load" → AreOfLoad d
    → map f (take 7 (drop 2 ws)) ≡ load_words_of d
    → AreLoaded (map f (take (length ws - 9) (drop 9 ws))) d.requests load
    → AsksLoad (map f ws) (task.Load d load)
loads f [] b d load h i e ranges words said = absurd (omega (arith, h))
loads f (x ∷ []) b d load h i e ranges words said = absurd (omega (arith, h))
loads {X = X} f (x ∷ y ∷ r) b d load h i e ranges words said =
    let long : length (drop 7 r) ≡ length r - 7 = length-drop 7 r in
    let whole : take (length (x ∷ y ∷ r) - 9) (drop 7 r) ≡ drop 7 r =
    take_all (length (x ∷ y ∷ r) - 9) (drop 7 r) (omega (arith, long)) in (
      ap f (sym i) ∙ e,
      ranges,
      (
        map f (drop 7 r),
        ap (map f) (sym (take-append-drop 7 r))
            ∙ (map-append f (take 7 r) (drop 7 r) ∙ ap (λ z. z ++ map f (drop 7 r)) words),
        subst (λ (ts : List X). AreLoaded (map f ts) d.requests load) whole said,
      ),
    )

-- the seven numbers are one load's
one_load : (d e : LoadNumbers) → AreOfLoad d → AreOfLoad e → load_words_of d ≡ load_words_of e → d.requests ≡ e.requests
one_load d e a b same =
    let word : decimal d.requests ≡ decimal e.requests = cc in
    decimal_injective d.requests e.requests (omega (arith, a.5.1)) (omega (arith, b.5.1)) word

pub no_load : {X : Type 0} (f : X → List ℕ) (ws : List X) (e : LoadNumbers)
    → AreOfLoad e → map f (take 7 (drop 2 ws)) ≡ load_words_of e
    → ((l : LoadOptions) → AreLoaded (map f (take (length ws - 9) (drop 9 ws))) e.requests l → ⊥)
    → (t : Task) → AsksLoad (map f ws) t → ⊥
no_load f [] e ranges words n t a = a
no_load f (x ∷ []) e ranges words n t a = a
no_load f (x ∷ y ∷ r) e ranges words n task.Script a = a
no_load f (x ∷ y ∷ r) e ranges words n (task.File name) a = a
no_load f (x ∷ y ∷ r) e ranges words n (task.Explain name) a = a
no_load f (x ∷ y ∷ r) e ranges words n (task.Serial name from tables between) a = a
no_load f (x ∷ y ∷ r) e ranges words n (task.Drive d commits is_busy) a = a
no_load f (x ∷ y ∷ r) e ranges words n (task.Opened d g l file) a = a
no_load f (x ∷ y ∷ r) e ranges words n (task.Audit name before options) a = a
no_load f (x ∷ y ∷ r) e ranges words n (task.Following directory d load) a = a
no_load f (x ∷ y ∷ r) e ranges words n (task.Load d load) a =
    let h = load_parts f (x ∷ y ∷ r) d load a in
    n load
    (subst (λ (k : ℕ). AreLoaded (map f (take (length (x ∷ y ∷ r) - 9) (drop 9 (x ∷ y ∷ r)))) k load)
    (one_load d e h.1 ranges (sym h.2 ∙ words)) h.3)

-- LOADS ON TABLES THAT ARE THERE

-- the four numbers, and what stands behind them
four : {X : Type 0} (f : X → List ℕ) (r : List X) (a b c d : List ℕ) (options : List (List ℕ))
    → map f r ≡ a ∷ b ∷ c ∷ d ∷ options
    → (map f (take 4 r) ≡ a ∷ b ∷ c ∷ d ∷ []) × (map f (drop 4 r) ≡ options) × (4 ≤ length r)
four f [] a b c d options is = cc
four f (x1 ∷ []) a b c d options is = cc
four f (x1 ∷ x2 ∷ []) a b c d options is = cc
four f (x1 ∷ x2 ∷ x3 ∷ []) a b c d options is = cc
four f (x1 ∷ x2 ∷ x3 ∷ x4 ∷ r) a b c d options is = (cc, cc, omega arith)

behind_four : {X : Type 0} (r : List X) → take (length r - 4) (drop 4 r) ≡ drop 4 r
behind_four r = let long : length (drop 4 r) ≡ length r - 4 = length-drop 4 r in
    take_all (length r - 4) (drop 4 r) (omega (arith, long))

module _ {X : Type 0} (f : X → List ℕ) (ws : List X) where
  pub numbered_parts : (n : Numbered) → AreNumbered (map f ws) n
      → (4 ≤ length ws) × (map f (take 4 ws) ≡ following_words_of n.numbers)
      × AreLoaded (map f (take (length ws - 4) (drop 4 ws))) n.numbers.requests n.options
  numbered_parts n (ranges, (options, is, said)) =
      let d = n.numbers in
      let parts =
      four f ws (decimal d.extents) (decimal d.terminals) (decimal d.requests) (decimal d.seed) options is in (
        parts.2,
        parts.0,
        subst (λ (ts : List (List ℕ)). AreLoaded ts d.requests n.options)
            (sym (ap (map f) (behind_four ws) ∙ parts.1)) said,
      )

  pub numbered : (d : FollowingNumbers) (load : LoadOptions) → AreFollowing d
      → map f (take 4 ws) ≡ following_words_of d
      → AreLoaded (map f (take (length ws - 4) (drop 4 ws))) d.requests load
      → AreNumbered (map f ws) (record { numbers = d; options = load })
  numbered d load ranges words said = (
    ranges,
    (
      map f (drop 4 ws),
      ap (map f) (sym (take-append-drop 4 ws))
          ∙ (map-append f (take 4 ws) (drop 4 ws) ∙ ap (λ z. z ++ map f (drop 4 ws)) words),
      subst (λ (ts : List X). AreLoaded (map f ts) d.requests load) (behind_four ws) said,
    ),
  )

  -- the four numbers are one load's
  one_following : (d e : FollowingNumbers) → AreFollowing d → AreFollowing e
      → following_words_of d ≡ following_words_of e → d.requests ≡ e.requests
  one_following d e a b same =
      let word : decimal d.requests ≡ decimal e.requests = cc in
      decimal_injective d.requests e.requests (omega (arith, a.2.1)) (omega (arith, b.2.1)) word

  pub no_numbered : (e : FollowingNumbers) → AreFollowing e → map f (take 4 ws) ≡ following_words_of e
      → ((l : LoadOptions) → AreLoaded (map f (take (length ws - 4) (drop 4 ws))) e.requests l → ⊥)
      → (n : Numbered) → AreNumbered (map f ws) n → ⊥
  no_numbered e ranges words none n a =
      let h = numbered_parts n a in
      none n.options
      (subst (λ (k : ℕ). AreLoaded (map f (take (length ws - 4) (drop 4 ws))) k n.options)
      (one_following n.numbers e a.0 ranges (sym h.1 ∙ words)) h.2)

pub follows_on : {X : Type 0} (f : X → List ℕ) (ws : List X) (b : X) (directory : Bor (List ℕ)) (rest : List (List ℕ))
    (n : Numbered) → 2 ≤ length ws → b ≡ get_or ws 1 b → f b ≡ codes "load" → IsPlain directory.now
    → map f (take (length ws - 2) (drop 2 ws)) ≡ codes "--from" ∷ directory.now ∷ rest → AreNumbered rest n
    → AsksFollowing (map f ws) (task.Following directory n.numbers n.options)
follows_on f [] b directory rest n h i e plain is m = absurd (omega (arith, h))
follows_on f (x ∷ []) b directory rest n h i e plain is m = absurd (omega (arith, h))
follows_on f (x ∷ y ∷ ws) b directory rest n h i e plain is m =
    (ap f (sym i) ∙ e, plain, (rest, ap (map f) (sym (behind_verb (x ∷ y ∷ ws) h)) ∙ is, m))

-- the words behind the verb begin otherwise, or no numbers of a load stand behind the directory
pub no_following : {X : Type 0} (f : X → List ℕ) (ws : List X)
    → ((directory : List ℕ) (rest : List (List ℕ)) (n : Numbered) → IsPlain directory
    → map f (take (length ws - 2) (drop 2 ws)) ≡ codes "--from" ∷ directory ∷ rest → AreNumbered rest n → ⊥)
    → (t : Task) → AsksFollowing (map f ws) t → ⊥
no_following f [] none t a = a
no_following f (x ∷ []) none t a = a
no_following f (x ∷ y ∷ r) none task.Script a = a
no_following f (x ∷ y ∷ r) none (task.File name) a = a
no_following f (x ∷ y ∷ r) none (task.Explain name) a = a
no_following f (x ∷ y ∷ r) none (task.Serial name from tables between) a = a
no_following f (x ∷ y ∷ r) none (task.Drive d commits is_busy) a = a
no_following f (x ∷ y ∷ r) none (task.Opened d g l file) a = a
no_following f (x ∷ y ∷ r) none (task.Audit name before options) a = a
no_following f (x ∷ y ∷ r) none (task.Load d load) a = a
no_following f (x ∷ y ∷ r) none (task.Following directory d load) (verb, plain, (numbers, is, a)) =
    none directory.now numbers (record { numbers = d; options = load }) plain
    (ap (map f) (behind_verb (x ∷ y ∷ r) (omega arith)) ∙ is) a

pub other_numbers : (ws rest : List (List ℕ)) (d : List ℕ) → ws ≡ codes "--from" ∷ d ∷ rest
    → ((n : Numbered) → AreNumbered rest n → ⊥) → (directory : List ℕ) (more : List (List ℕ)) (n : Numbered)
    → IsPlain directory → ws ≡ codes "--from" ∷ directory ∷ more → AreNumbered more n → ⊥
other_numbers ws rest d is none directory more n plain e a =
    none n (subst (λ (ts : List (List ℕ)). AreNumbered ts n) (third _ _ _ _ (sym e ∙ is)) a)

pub single : {X : Type 0} (f : X → List ℕ) (ws : List X) (b : X) → length ws ≡ 1 → b ≡ get_or ws 0 b
    → map f ws ≡ f b ∷ []
single f [] b h i = absurd (omega (arith, h))
single f (x ∷ []) b h i = ap (λ t. t ∷ []) (ap f (sym i))
single f (x ∷ y ∷ r) b h i = absurd (omega (arith, h))

pub pair : {X : Type 0} (f : X → List ℕ) (ws : List X) (b d : X) → length ws ≡ 2 → b ≡ get_or ws 0 b
    → d ≡ get_or ws 1 d → map f ws ≡ f b ∷ f d ∷ []
pair f [] b d h i j = absurd (omega (arith, h))
pair f (x ∷ []) b d h i j = absurd (omega (arith, h))
pair f (x ∷ y ∷ []) b d h i j = ap (λ t. t ∷ f y ∷ []) (ap f (sym i)) ∙ ap (λ t. f b ∷ t ∷ []) (ap f (sym j))
pair f (x ∷ y ∷ z ∷ r) b d h i j = absurd (omega (arith, h))

-- a file's name alone, or behind the mark
pub one_name : {X : Type 0} (f : X → List ℕ) (ws : List X) (b : X) (name : Bor (List ℕ)) → length ws ≡ 1
    → b ≡ get_or ws 0 b → name.now ≡ f b → IsPlain name.now → Names (map f ws) name.now
one_name f ws b name h i n p = inl (single f ws b h i ∙ ap (λ t. t ∷ []) (sym n), p)

-- OPTIONS

-- two words, and what stands behind them
pub two_first : {X : Type 0} (f : X → List ℕ) (ws : List X) (b d : X) (mark : List ℕ) (word : Bor (List ℕ))
    → 2 ≤ length ws → b ≡ get_or ws 0 b → f b ≡ mark → d ≡ get_or ws 1 d → word.now ≡ f d
    → map f ws ≡ mark ∷ word.now ∷ map f (take (length ws - 2) (drop 2 ws))
two_first f [] b d mark word h i m j n = absurd (omega (arith, h))
two_first f (x ∷ []) b d mark word h i m j n = absurd (omega (arith, h))
two_first f (x ∷ y ∷ r) b d mark word h i m j n =
    ap (λ t. t ∷ f y ∷ map f r) (ap f (sym i) ∙ m) ∙ ap (λ t. mark ∷ t ∷ map f r) (ap f (sym j) ∙ sym n)
    ∙ ap (λ ts. mark ∷ word.now ∷ map f ts) (sym (take_all (length (x ∷ y ∷ r) - 2) r (omega arith)))

pub not_first : {X : Type 0} (f : X → List ℕ) (ws : List X) (b : X) (mark word : List ℕ) (rest : List (List ℕ))
    → b ≡ get_or ws 0 b → (f b ≡ mark → ⊥) → map f ws ≡ mark ∷ word ∷ rest → ⊥
not_first f [] b mark word rest i other e = cc
not_first f (x ∷ r) b mark word rest i other e = other (ap f i ∙ head)
  where
    head : f x ≡ mark
    head = cc

pub not_two : {X : Type 0} (f : X → List ℕ) (ws : List X) (mark word : List ℕ) (rest : List (List ℕ)) → length ws < 2
    → map f ws ≡ mark ∷ word ∷ rest → ⊥
not_two f [] mark word rest h e = cc
not_two f (x ∷ []) mark word rest h e = cc
not_two f (x ∷ y ∷ r) mark word rest h e = omega (arith, h)

pub not_none : {X : Type 0} (f : X → List ℕ) (ws : List X) → (length ws ≡ 0 → ⊥) → map f ws ≡ [] → ⊥
not_none f [] some e = some refl
not_none f (x ∷ r) some e = cc

-- words that begin with a mark name no file
module _ (d : List ℕ) (n : ℕ) where
  not_file : (l : Layout) (mark w : List ℕ) (ws : List (List ℕ)) → (codes "--" ≡ mark → ⊥) → (t : Task)
      → AsksFile d n l (mark ∷ w ∷ ws) t → ⊥
  not_file l mark w ws other (task.Opened e k m None) a = let no = a.3 in cc
  not_file l mark w ws other (task.Opened e k m (Some file)) a = by a.3
    where
      by : Names (mark ∷ w ∷ ws) file.now → ⊥
      by (inl h) = let no = h.0 in cc
      by (inr h) = let same : codes "--" ≡ mark = cc in other same
  not_file l mark w ws other task.Script a = a
  not_file l mark w ws other (task.File name) a = a
  not_file l mark w ws other (task.Explain name) a = a
  not_file l mark w ws other (task.Serial name from tables between) a = a
  not_file l mark w ws other (task.Drive e commits is_busy) a = a
  not_file l mark w ws other (task.Audit name before options) a = a
  not_file l mark w ws other (task.Load e load) a = a
  not_file l mark w ws other (task.Following directory e load) a = a

  -- words that are some, and name no file
  pub no_file : (l : Layout) (ws : List (List ℕ)) → (ws ≡ [] → ⊥) → ((file : List ℕ) → Names ws file → ⊥)
      → (t : Task) → AsksFile d n l ws t → ⊥
  no_file l ws some none (task.Opened e k m None) a = some a.3
  no_file l ws some none (task.Opened e k m (Some file)) a = none file.now a.3
  no_file l ws some none task.Script a = a
  no_file l ws some none (task.File name) a = a
  no_file l ws some none (task.Explain name) a = a
  no_file l ws some none (task.Serial name from tables between) a = a
  no_file l ws some none (task.Drive e commits is_busy) a = a
  no_file l ws some none (task.Audit name before options) a = a
  no_file l ws some none (task.Load e load) a = a
  no_file l ws some none (task.Following directory e load) a = a

  not_layout : (w : List ℕ) (ws : List (List ℕ)) (t : Task) → AsksLayout d n (codes "--extents" ∷ w ∷ ws) t → ⊥
  not_layout w ws t (None, rest, e, a) =
      not_file WholeRows (codes "--extents") w ws (λ same. cc) t
      (subst (λ (ts : List (List ℕ)). AsksFile d n WholeRows ts t) (sym e) a)
  not_layout w ws t (Some l, rest, e, a) = let first : codes "--extents" ≡ codes "--layout" = cc in cc

module _ (d : List ℕ) where
  -- the words behind the directory, where none says how many extents there are
  pub without_extents : (ws : List (List ℕ)) (n : ℕ) (r : Option Task) → n ≡ 4_096
      → ((word : List ℕ) (rest : List (List ℕ)) → ws ≡ codes "--extents" ∷ word ∷ rest → ⊥)
      → MatchOption r ((t : Task) → AsksLayout d n ws t → ⊥) (AsksLayout d n ws)
      → MatchOption r ((t : Task) → AsksExtents d ws t → ⊥) (AsksExtents d ws)
  without_extents ws n None all none m = λ t a. by t a
    where
      by : (t : Task) → AsksExtents d ws t → ⊥
      by t (None, rest, range, e, a) =
          m t (subst (λ (n : ℕ). AsksLayout d n ws t) (sym all)
          (subst (λ (ts : List (List ℕ)). AsksLayout d 4_096 ts t) (sym e) a))
      by t (Some k, rest, range, e, a) = none (decimal k) rest e
  without_extents ws n (Some t) all none m =
      (None, ws, tt, refl, subst (λ (n : ℕ). AsksLayout d n ws t) all m)

  -- where a word says it
  pub with_extents : (ws : List (List ℕ)) (word : List ℕ) (rest : List (List ℕ)) (n : ℕ) (r : Option Task)
      → ws ≡ codes "--extents" ∷ word ∷ rest → IsInRange 2 4_096 n → word ≡ decimal n
      → MatchOption r ((t : Task) → AsksLayout d n rest t → ⊥) (AsksLayout d n rest)
      → MatchOption r ((t : Task) → AsksExtents d ws t → ⊥) (AsksExtents d ws)
  with_extents ws word rest n None is range named m = λ t a. by t a
    where
      by : (t : Task) → AsksExtents d ws t → ⊥
      by t (None, more, own, e, a) =
          not_layout d 4_096 word rest t (subst (λ (ts : List (List ℕ)). AsksLayout d 4_096 ts t) (sym e ∙ is) a)
      by t (Some k, more, own, e, a) =
          let both : codes "--extents" ∷ decimal k ∷ more ≡ codes "--extents" ∷ word ∷ rest = sym e ∙ is in
          let same : k ≡ n =
          decimal_injective k n (omega (arith, own.1)) (omega (arith, range.1)) (second _ _ _ _ both ∙ named) in
          let behind : more ≡ rest = third _ _ _ _ both in
          m t (subst (λ (ts : List (List ℕ)). AsksLayout d n ts t) behind
          (subst (λ (n : ℕ). AsksLayout d n more t) same a))
  with_extents ws word rest n (Some t) is range named m =
      (Some n, rest, range, is ∙ ap (λ z. codes "--extents" ∷ z ∷ rest) named, m)

-- the words behind the verb
pub opens : {X : Type 0} (f : X → List ℕ) (ws : List X) (b : X) (directory : List ℕ) (options : List (List ℕ))
    (r : Option Task) → 2 ≤ length ws → b ≡ get_or ws 1 b → f b ≡ codes "script" → IsPlain directory
    → map f (take (length ws - 2) (drop 2 ws)) ≡ codes "--from" ∷ directory ∷ options
    → MatchOption r ((t : Task) → AsksExtents directory options t → ⊥) (AsksExtents directory options)
    → MatchOption r ((t : Task) → AsksOpened (map f ws) t → ⊥) (AsksOpened (map f ws))
opens f [] b directory options r h i e plain is m = absurd (omega (arith, h))
opens f (x ∷ []) b directory options r h i e plain is m = absurd (omega (arith, h))
opens {X = X} f (x ∷ y ∷ ws) b directory options None h i e plain is m = λ t a. by t a
  where
    words : map f ws ≡ codes "--from" ∷ directory ∷ options
    words = ap (map f) (sym (behind_verb (x ∷ y ∷ ws) h)) ∙ is

    by : (t : Task) → AsksOpened (map f (x ∷ y ∷ ws)) t → ⊥
    by t (verb, (d, more, own, g, a)) =
        let both : codes "--from" ∷ d ∷ more ≡ codes "--from" ∷ directory ∷ options = sym g ∙ words in
        m t (subst (λ (d : List ℕ). AsksExtents d options t) (second _ _ _ _ both)
        (subst (λ (ts : List (List ℕ)). AsksExtents d ts t) (third _ _ _ _ both) a))
opens {X = X} f (x ∷ y ∷ ws) b directory options (Some t) h i e plain is m =
    (ap f (sym i) ∙ e, (directory, options, plain, ap (map f) (sym (behind_verb (x ∷ y ∷ ws) h)) ∙ is, m))

-- FILES OF REPLIES

pub no_tables : (ws : List (List ℕ)) → ((d : List ℕ) (rest : List (List ℕ)) → IsPlain d
    → ws ≡ codes "--tables" ∷ d ∷ rest → ⊥)
    → ((between : Separator) → ws ≡ csv_words between → ⊥) → (tables : Option (Bor (List ℕ))) (between : Separator)
    → AreTablesOptions ws tables between → ⊥
no_tables ws none bad None between a = bad between a.1
no_tables ws none bad (Some d) between a = none d.now (csv_words between) a.0 a.1

-- the verb, a file, and no options
pub serial_file : {X : Type 0} (f : X → List ℕ) (ws : List X) (b : X) (file : Bor (List ℕ)) → 3 ≤ length ws
    → b ≡ get_or ws 1 b → f b ≡ codes "serial" → NamesFile (map f ws) file.now
    → AsksSerial (map f ws) (task.Serial file None None separator.Tabs)
serial_file f [] b file h i e n = absurd (omega (arith, h))
serial_file f (x ∷ []) b file h i e n = absurd (omega (arith, h))
serial_file f (x ∷ y ∷ r) b file h i e (inl n) = (ap f (sym i) ∙ e, inl ([], n.0, n.1, (tt, tt, refl)))
serial_file f (x ∷ y ∷ r) b file h i e (inr n) = (ap f (sym i) ∙ e, inr (n, refl, refl, refl))

-- with options
pub serial_options : {X : Type 0} (f : X → List ℕ) (ws : List X) (b c : X) (file : Bor (List ℕ))
    (from tables : Option (Bor (List ℕ))) (between : Separator)
    → 3 ≤ length ws → b ≡ get_or ws 1 b → f b ≡ codes "serial"
    → c ≡ get_or ws 2 c → file.now ≡ f c → IsPlain file.now
    → AreSerialOptions (map f (take (length ws - 3) (drop 3 ws))) from tables between
    → AsksSerial (map f ws) (task.Serial file from tables between)
serial_options f [] b c file from tables between h i e j n p o = absurd (omega (arith, h))
serial_options f (x ∷ []) b c file from tables between h i e j n p o = absurd (omega (arith, h))
serial_options f (x ∷ y ∷ []) b c file from tables between h i e j n p o = absurd (omega (arith, h))
serial_options {X = X} f (x ∷ y ∷ z ∷ r) b c file from tables between h i e j n p o =
    let whole : take (length (x ∷ y ∷ z ∷ r) - 3) r ≡ r = take_all (length (x ∷ y ∷ z ∷ r) - 3) r (omega arith) in (
      ap f (sym i) ∙ e,
      inl (
        map f r,
        ap (λ t. t ∷ map f r) (ap f (sym j) ∙ sym n),
        p,
        subst (λ (ts : List X). AreSerialOptions (map f ts) from tables between) whole o,
      ),
    )

pub no_serial : {X : Type 0} (f : X → List ℕ) (ws : List X) → ((file : List ℕ) → NamesFile (map f ws) file → ⊥)
    → ((o : SerialOptions)
    → AreSerialOptions (map f (take (length ws - 3) (drop 3 ws))) o.from o.tables o.separator → ⊥)
    → (t : Task) → AsksSerial (map f ws) t → ⊥
no_serial f [] n m t a = a
no_serial f (x ∷ []) n m t a = a
no_serial f (x ∷ y ∷ r) n m task.Script a = a
no_serial f (x ∷ y ∷ r) n m (task.File name) a = a
no_serial f (x ∷ y ∷ r) n m (task.Explain name) a = a
no_serial f (x ∷ y ∷ r) n m (task.Opened d e l file) a = a
no_serial f (x ∷ y ∷ r) n m (task.Drive d commits is_busy) a = a
no_serial f (x ∷ y ∷ r) n m (task.Audit name before options) a = a
no_serial f (x ∷ y ∷ r) n m (task.Load d load) a = a
no_serial f (x ∷ y ∷ r) n m (task.Following directory d load) a = a
no_serial f (x ∷ y ∷ []) n m (task.Serial name from tables between) (verb, inl (options, e, plain, o)) = cc
no_serial {X = X} f (x ∷ y ∷ z ∷ r) n m (task.Serial name from tables between) (verb, inl (options, e, plain, o)) =
    let whole : take (length (x ∷ y ∷ z ∷ r) - 3) r ≡ r = take_all (length (x ∷ y ∷ z ∷ r) - 3) r (omega arith) in
    let rest : map f r ≡ options = cc in
    m (record { from = from; tables = tables; separator = between })
    (subst (λ (ts : List X). AreSerialOptions (map f ts) from tables between) (sym whole)
    (subst (λ (ts : List (List ℕ)). AreSerialOptions ts from tables between) (sym rest) o))
no_serial f (x ∷ y ∷ r) n m (task.Serial name from tables between) (verb, inr h) = n name.now (inr h.0)

-- a file's name that is an option stands only behind the mark
pub no_option : {X : Type 0} (f : X → List ℕ) (ws : List X) (c : X) (file : Bor (List ℕ)) → 3 ≤ length ws
    → ((file : List ℕ) → NamesFile (map f ws) file → ⊥) → c ≡ get_or ws 2 c → file.now ≡ f c
    → slice_index file.now 0 ≡ 45 → (t : Task) → AsksSerial (map f ws) t → ⊥
no_option f [] c file h n j is o t a = a
no_option f (x ∷ []) c file h n j is o t a = a
no_option f (x ∷ y ∷ []) c file h n j is o t a = absurd (omega (arith, h))
no_option f (x ∷ y ∷ z ∷ r) c file h n j is o task.Script a = a
no_option f (x ∷ y ∷ z ∷ r) c file h n j is o (task.File name) a = a
no_option f (x ∷ y ∷ z ∷ r) c file h n j is o (task.Explain name) a = a
no_option f (x ∷ y ∷ z ∷ r) c file h n j is o (task.Opened d e l name) a = a
no_option f (x ∷ y ∷ z ∷ r) c file h n j is o (task.Drive d commits is_busy) a = a
no_option f (x ∷ y ∷ z ∷ r) c file h n j is o (task.Audit name before options) a = a
no_option f (x ∷ y ∷ z ∷ r) c file h n j is o (task.Load d load) a = a
no_option f (x ∷ y ∷ z ∷ r) c file h n j is o (task.Following directory d load) a = a
no_option f (x ∷ y ∷ z ∷ r) c file h n j is o (task.Serial name a b s) (verb, inl (options, e, plain, m)) =
    let first : f z ≡ name.now = cc in plain (ap (λ t. slice_index t 0) (sym first ∙ ap f (sym j) ∙ sym is) ∙ o)
no_option f (x ∷ y ∷ z ∷ r) c file h n j is o (task.Serial name a b s) (verb, inr m) = n name.now (inr m.0)
