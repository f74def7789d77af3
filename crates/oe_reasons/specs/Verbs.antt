-- The words with which forms begin, and those that tell which form is meant.
use Rattle.std.specs.Prelude.{ℕ, Bool, false, ◌||◌, is_some, List, [], ◌∷◌, Option, codes}
use Rattle.std.specs.List.{find}
use Rattle.std.specs.Str.{bytes_eq}
use Rattle.oe_values.specs.Front.{after_of}
use Rattle.oe_reasons.specs.declared.verbs.Verb.{Verb}
use Rattle.oe_reasons.specs.declared.verbs.Verb.TheVariants as verb
use Rattle.oe_reasons.specs.declared.verbs.Kind.{Kind}
use Rattle.oe_reasons.specs.declared.verbs.Kind.TheVariants as kind

abbrev pub verb_word : Verb → List ℕ
verb_word verb.Open = codes "open"
verb_word verb.Begin = codes "begin"
verb_word verb.Next = codes "next"
verb_word verb.Run = codes "run"
verb_word verb.Save = codes "save"
verb_word verb.Back = codes "back"
verb_word verb.Rollback = codes "rollback"
verb_word verb.Read = codes "read"
verb_word verb.Audit = codes "audit"
verb_word verb.Purge = codes "purge"
verb_word verb.Rewind = codes "rewind"
verb_word verb.Dump = codes "dump"
verb_word verb.Waits = codes "waits"
verb_word verb.Locks = codes "locks"

-- all verbs, in the order in which one is guessed
abbrev pub verbs : List Verb
verbs =
    verb.Open ∷ verb.Begin ∷ verb.Next ∷ verb.Run ∷ verb.Save ∷ verb.Back ∷ verb.Rollback ∷ verb.Read ∷
    verb.Audit ∷ verb.Purge ∷ verb.Rewind ∷ verb.Dump ∷ verb.Waits ∷ verb.Locks ∷ []

abbrev pub kind_word : Kind → List ℕ
kind_word kind.Payment = codes "payment"
kind_word kind.NewOrder = codes "neworder"
kind_word kind.Delivery = codes "delivery"
kind_word kind.Rename = codes "rename"
kind_word kind.Status = codes "status"
kind_word kind.Level = codes "level"

abbrev pub kinds : List Kind
kinds = kind.Payment ∷ kind.NewOrder ∷ kind.Delivery ∷ kind.Rename ∷ kind.Status ∷ kind.Level ∷ []

-- two texts are one; it stays closed in the dispatch on a word
unfoldable pub is_word : List ℕ → List ℕ → Bool
is_word a b = bytes_eq a b

-- one begins with the other, which has a letter at least
unfoldable pub is_near : List ℕ → List ℕ → Bool
is_near [] verb = false
is_near (b ∷ bs) verb = is_some (after_of (b ∷ bs) verb) || is_some (after_of verb (b ∷ bs))

-- the verb that a word is, and the first that is near it
unfoldable pub verb_of : List ℕ → Option Verb
verb_of word = find (λ v. is_word word (verb_word v)) verbs

unfoldable pub near_of : List ℕ → Option Verb
near_of word = find (λ v. is_near word (verb_word v)) verbs

-- the kind that a word is
unfoldable pub kind_of : List ℕ → Option Kind
kind_of word = find (λ k. is_word word (kind_word k)) kinds
