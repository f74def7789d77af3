-- One text after another behind what is written and what waits.
use Rattle.std.proofs.Math.Nat.{suc-add}
use Rattle.std.proofs.Common.{◌≡◌, ℕ, zero, suc, ◌+◌, List, [], ◌∷◌, ◌++◌, take, drop, Option, Some, None, Result, Ok}
use Rattle.std.proofs.Common.{Err, append_assoc, sym, ap, ◌∙◌, refl, zero-add}
use Rattle.std.proofs.lemmas.List.{append-nil}
use Rattle.oe_io.specs.declared.ports.Failed.{Failed}
use Rattle.oe_io.specs.Ports.{Sink, Writes, Sent, Cut, Streams}

pub sent_none : (a : Option Sink) (h : List ℕ) → Sent a h a h []
sent_none None h = tt
sent_none (Some a) h = (sym (append-nil _), refl)

pub sent_then : (a b c : Option Sink) (h i j t u : List ℕ) → Sent a h b i t → Sent b i c j u → Sent a h c j (t ++ u)
sent_then None b c h i j t u p q = tt
sent_then (Some a) None c h i j t u p q = absurd p
sent_then (Some a) (Some b) None h i j t u p q = absurd q
sent_then (Some a) (Some b) (Some c) h i j t u p q =
    (q.0 ∙ ap (λ z. z ++ u) p.0 ∙ append_assoc (a.contents ++ h) t u, q.1 ∙ p.1)

pub sent_cut : (a b c : Option Sink) (h i t u : List ℕ) → Sent a h b i t → Cut b i c u → Cut a h c (t ++ u)
sent_cut None b c h i t u p q = tt
sent_cut (Some a) None c h i t u p q = absurd p
sent_cut (Some a) (Some b) None h i t u p q = absurd q
sent_cut (Some a) (Some b) (Some c) h i t u p q =
    ((q.0.0, q.0.1 ∙ ap (λ z. z ++ u) p.0 ∙ append_assoc (a.contents ++ h) t u), q.1 ∙ ap (λ n. n + 1) p.1)

pub cut_more : (a b : Option Sink) (h t u : List ℕ) → Cut a h b t → Cut a h b (t ++ u)
cut_more None b h t u p = tt
cut_more (Some a) None h t u p = absurd p
cut_more (Some a) (Some b) h t u p = (
  (p.0.0 ++ u, sym (append_assoc b.contents p.0.0 u) ∙ ap (λ z. z ++ u) p.0.1 ∙ append_assoc (a.contents ++ h) t u),
  p.1,
)

-- a text whose front was sent, where the rest failed
pub cut_as : (a b : Option Sink) (h t u : List ℕ) → t ≡ u → Cut a h b t → Cut a h b u
cut_as a b h t u e p = rw (← e) p

pub sent_as : (a b : Option Sink) (h i t u : List ℕ) → t ≡ u → Sent a h b i t → Sent a h b i u
sent_as a b h i t u e p = rw (← e) p

-- a write that took n bytes, or none
pub sent_wrote : (a b : Option Sink) (bytes : List ℕ) (n : ℕ) → Writes {E = Failed} a b (Ok n) bytes
    → Sent a [] b [] (take n bytes)
sent_wrote None b bytes n w = tt
sent_wrote (Some a) None bytes n w = absurd w
sent_wrote (Some a) (Some b) bytes n w =
    (append-nil _ ∙ w.0 ∙ ap (λ z. z ++ take n bytes) (sym (append-nil a.contents)), w.1)

pub cut_failed : {E : Type 0} (a b : Option Sink) (bytes : List ℕ) (e : E) → Writes a b (Err e) bytes → Cut a [] b bytes
cut_failed None b bytes e w = tt
cut_failed (Some a) None bytes e w = absurd w
cut_failed (Some a) (Some b) bytes e w = ((bytes, ap (λ z. z ++ bytes) (w.0 ∙ sym (append-nil a.contents))), w.1)

-- a text that only waits
pub sent_waits : (a : Option Sink) (h i t : List ℕ) → i ≡ h ++ t → Sent a h a i t
sent_waits None h i t e = tt
sent_waits (Some a) h i t e = (ap (λ z. a.contents ++ z) e ∙ sym (append_assoc a.contents h t), refl)

take_nil : (X : Type 0) (k : ℕ) → take {A = X} k [] ≡ []
take_nil X zero = refl
take_nil X (suc k) = refl

pub take_on : (X : Type 0) (n m : ℕ) (xs : List X) → take n xs ++ take m (drop n xs) ≡ take (n + m) xs
take_on X zero m xs = rw zero-add refl
take_on X (suc n) m [] = take_nil X m ∙ sym (rw suc-add refl)
take_on X (suc n) m (x ∷ xs) = rw suc-add (ap (λ z. x ∷ z) (take_on X n m xs))

pub streams_as : {T E : Type 0} (a b : Option Sink) (h k i t u : List ℕ) (r : Result T E) → h ≡ k → t ≡ u
    → Streams a h b i t r → Streams a k b i u r
streams_as a b h k i t u r e f s = rw (← e, ← f) s

-- ---- where nothing waits

as_text : (before waited text : List ℕ) → waited ≡ text → before ++ waited ++ [] ≡ before ++ [] ++ text
as_text before waited text same =
    append-nil (before ++ waited)
    ∙ (ap (λ (x : List ℕ). before ++ x) same ∙ sym (ap (λ (x : List ℕ). x ++ text) (append-nil before)))

-- what waited has gone out
pub all_sent : (old new : Option Sink) (waited waits text : List ℕ) → waits ≡ [] → waited ≡ text
    → Sent old waited new waits [] → Sent old [] new [] text
all_sent None new waited waits text none same s = tt
all_sent (Some a) None waited waits text none same s = s
all_sent (Some a) (Some b) waited waits text none same s =
    (ap (λ (x : List ℕ). b.contents ++ x) (sym none) ∙ (s.0 ∙ as_text a.contents waited text same), s.1)

pub front_sent : (old new : Option Sink) (waited text : List ℕ) → waited ≡ text → Cut old waited new []
    → Cut old [] new text
front_sent None new waited text same s = tt
front_sent (Some a) None waited text same s = s
front_sent (Some a) (Some b) waited text same s = ((s.0.0, s.0.1 ∙ as_text a.contents waited text same), s.1)

-- one text behind another that was sent
pub streams_then : {T E : Type 0} (a b c : Option Sink) (h i j t u : List ℕ) (r : Result T E) → Sent a h b i t
    → Streams b i c j u r → Streams a h c j (t ++ u) r
streams_then a b c h i j t u (Ok x) p q = sent_then a b c h i j t u p q
streams_then a b c h i j t u (Err e) p q = sent_cut a b c h i t u p q
