-- The last line so far that changed a row.
use Rattle.std.proofs.Common.{◌≡◌, ℕ, ◌+◌, ◌≤◌, inl, inr, Bool, List, [], ◌∷◌, ◌++◌, length, take, codes}
use Rattle.std.proofs.Common.{Option, None, Some, refl, sym, ap, subst, ◌∙◌, append_assoc, arith}
use Rattle.std.specs.Prelude.{IsTrue}
use Rattle.std.proofs.lemmas.List.{append-nil, take_all, take-append-le}
use Rattle.std.proofs.lemmas.List.Elements.{All-nil, All-push}
use Rattle.oe_rows.specs.declared.keys.Key.{Key}
use Rattle.oe_requests.specs.declared.requests.Request.{Request}
use Rattle.oe_lines.specs.Grammar.{Says}
use Rattle.oe_lines.specs.declared.commands.Command.TheVariants as command
use Rattle.oe_lines.proofs.GrammarFacts.{said_is_read}
use Rattle.oe_reply_words.specs.Rows.{changes}
use Rattle.oe_reply_words.specs.Told.{row_told}
use Rattle.oe_reply_words.specs.declared.rows.Change.{Change}
use Rattle.oe_file_serial.specs.declared.lines.Asked.TheVariants as asked
use Rattle.oe_file_serial.specs.Files.{Parts, IsTold}
use Rattle.oe_file_serial.specs.Changes.{TellsTransaction, ChangesRow, KeepsRow, IsLater, IsLast, IsLastOf, IsHint}
use Rattle.oe_file_serial.proofs.LineFacts.{parts_once}

-- ONE TRANSACTION

one_request : (t u : ℕ) (q p : Request) → Some (command.Begin t q) ≡ Some (command.Begin u p) → p ≡ q
one_request t u q p e = cc

-- a line tells of one transaction
pub told_once : (line : List ℕ) (q p : Request) (text other : List ℕ) → TellsTransaction line q text
    → TellsTransaction line p other → (p ≡ q) × (other ≡ text)
told_once line q p text other h k =
    let same = parts_once line h.1.words k.1.words text other h.1.parts k.1.parts in
    let begun = codes "begin " ++ h.1.words in
    let said : Says begun (command.Begin k.0 p) =
    subst (λ (w : List ℕ). Says (codes "begin " ++ w) (command.Begin k.0 p)) (sym same.0) k.1.asks in (
      one_request h.0 k.0 q p
          (sym (said_is_read begun (command.Begin h.0 q) h.1.asks)
          ∙ said_is_read begun (command.Begin k.0 p) said),
      sym same.1,
    )

-- words that ask for no transaction
pub untold_by : (line words text : List ℕ) → Parts line words text
    → ((t : ℕ) (q : Request) → Says (codes "begin " ++ words) (command.Begin t q) → ⊥) → (q : Request)
    → (other : List ℕ) → TellsTransaction line q other → ⊥
untold_by line words text parts none q other h =
    let same = parts_once line h.1.words words other text h.1.parts parts in
    none h.0 q (subst (λ (w : List ℕ). Says (codes "begin " ++ w) (command.Begin h.0 q)) same.0 h.1.asks)

pub told_by : (line words text : List ℕ) (t : ℕ) (q : Request) → length line ≤ 1_024 → Parts line words text
    → Says (codes "begin " ++ words) (command.Begin t q) → TellsTransaction line q text
told_by line words text t q short parts asks =
    (t, record { short = short; words = words; parts = parts; asks = asks })

-- whether it changed a row
pub changed_so : (line : List ℕ) (k : Key) (q : Request) (text : List ℕ) (b : Bool) → TellsTransaction line q text
    → b ≡ changes q text k → (IsTrue b → ChangesRow line k) × (ChangesRow line k → IsTrue b)
changed_so line k q text b tells is = (
  λ yes. (q, text, tells, subst IsTrue is yes),
  λ c.
      let same = told_once line q c.0 text c.1 tells c.2 in
      subst IsTrue (sym is)
      (subst (λ (z : Request). IsTrue (changes z text k)) same.0
      (subst (λ (z : List ℕ). IsTrue (changes c.0 z k)) same.1 c.3)),
)

-- THE LAST CHANGE

pub last_more : (done : List (List ℕ)) (line : List ℕ) (k : Key) (n : ℕ) (last next : Option Change)
    → n ≡ length done → IsLast done k last → IsLater line k (n + 2) last next → IsLast (done ++ line ∷ []) k next
last_more done line k n None next is none (inl (keeps, same)) =
    subst (IsLast (done ++ line ∷ []) k) (sym same) (All-push (λ l. KeepsRow l k) done line none keeps)
last_more done line k n (Some c) next is h (inl (keeps, same)) =
    subst (IsLast (done ++ line ∷ []) k) (sym same)
    (record {
      before = h.before;
      line = h.line;
      behind = h.behind ++ line ∷ [];
      lines_are =
          ap (λ (z : List (List ℕ)). z ++ line ∷ []) h.lines_are
          ∙ append_assoc h.before (h.line ∷ h.behind) (line ∷ []);
      change_is = h.change_is;
      changed = h.changed;
      none_behind = All-push (λ l. KeepsRow l k) h.behind line h.none_behind keeps;
    })
last_more done line k n last next is h (inr (changed, found)) =
    subst (IsLast (done ++ line ∷ []) k) (sym found)
    (record {
      before = done;
      line = line;
      behind = [];
      lines_are = refl;
      change_is = ap (λ (m : ℕ). record { row = k; line = m + 2 }) is;
      changed = changed;
      none_behind = All-nil (λ l. KeepsRow l k);
    })

-- the first lines of all
pub first_are : (all done rest : List (List ℕ)) (count n : ℕ) → all ≡ done ++ rest → n ≡ length done → count ≡ n
    → take count all ≡ done
first_are all done rest count n whole is same =
    ap (take count) whole
    ∙ (take-append-le count done rest (omega (arith, is, same)) ∙ take_all count done (omega (arith, is, same)))

pub all_are : (all done rest : List (List ℕ)) (count n : ℕ) → all ≡ done ++ rest → rest ≡ [] → n ≡ length done
    → n ≤ count → take count all ≡ done
all_are all done rest count n whole none is within =
    ap (take count) (whole ∙ (ap (λ (z : List (List ℕ)). done ++ z) none ∙ append-nil done))
    ∙ take_all count done (omega (arith, is, within))

-- WHAT IS TOLD OF A LINE

pub hint_query : (before : List (List ℕ)) (line ours : List ℕ) (last : Option Change) → IsTold line
    → ((q : Request) (text : List ℕ) → TellsTransaction line q text → ⊥) → last ≡ None → IsHint before line ours last
hint_query before line ours last (asked.Query q, text, tells) none is = (asked.Query q, text, tells, is)
hint_query before line ours last (asked.Transaction t q, text, tells) none is = absurd (none q text (t, tells))

pub hint_of : (before : List (List ℕ)) (line ours : List ℕ) (last : Option Change) (q : Request) (text : List ℕ)
    (k : Option Key) → TellsTransaction line q text → k ≡ row_told q text ours → IsLastOf before k last
    → IsHint before line ours last
hint_of before line ours last q text k tells is h = (
  asked.Transaction tells.0 q,
  text,
  tells.1,
  subst (λ (z : Option Key). IsLastOf before z last) is h,
)
