-- Which word of a reply differs, and what that word is.
use Rattle.std.specs.Prelude.{ℕ, ◌+◌, ◌-◌, ◌==◌, Bool, false, List, [], ◌∷◌, ◌++◌, codes, decimal, nat_lt}
use Rattle.std.specs.Prelude.{Option, if◌then◌else◌}
use Rattle.oe_reply_words.specs.declared.others.Other.{Other}
use Rattle.oe_reply_words.specs.declared.others.Answered.{Answered}
use Rattle.oe_reply_words.specs.declared.others.Answered.TheVariants as answered
use Rattle.oe_reply_words.specs.declared.rows.Change.{Change}
use Rattle.oe_reply_words.specs.Parts.{is_same, parts_of, first_word}
use Rattle.oe_reply_words.specs.Rows.{last_text}

-- a part that differs, by its place from 0; it is empty in a text that has no such part
pub record Differing : Type 0 where
  pub place : ℕ
  pub theirs : List ℕ
  pub ours : List ℕ

abbrev pub seen_of : Other → Differing
seen_of o = record { place = o.place; theirs = o.theirs.now; ours = o.ours.now }

-- the first part that differs
abbrev pub first_other : ℕ → List (List ℕ) → List (List ℕ) → Differing
first_other k [] [] = record { place = k; theirs = []; ours = [] }
first_other k (w ∷ ws) [] = record { place = k; theirs = w; ours = [] }
first_other k [] (v ∷ vs) = record { place = k; theirs = []; ours = v }
first_other k (w ∷ ws) (v ∷ vs) =
    if is_same w v then first_other (k + 1) ws vs else record { place = k; theirs = w; ours = v }

abbrev pub other_part : ℕ → List ℕ → List ℕ → Differing
other_part m theirs ours = first_other 0 (parts_of m theirs) (parts_of m ours)

-- what is answered, by the first word
abbrev pub answered_by : List ℕ → Answered
answered_by w =
    if is_same w (codes "payment") then answered.Payment else
    if is_same w (codes "neworder") then answered.NewOrder else
    if is_same w (codes "delivery") then answered.Delivery else
    if is_same w (codes "deliveries") then answered.Deliveries else
    if is_same w (codes "rename") then answered.Rename else
    if is_same w (codes "status") then answered.Status else answered.Other

-- WHAT WORDS ARE

-- what each word of a reply is, by its place from 0: the words of an answer that is repeated have one name
abbrev pub payment_word : ℕ → List ℕ
payment_word n =
    if n == 0 then codes "reply" else if n == 1 then codes "customer" else if n == 2 then codes "last name" else
    if n == 3 then codes "credit" else if n == 4 then codes "balance" else codes "word"

abbrev pub order_word : ℕ → List ℕ
order_word n =
    if n == 0 then codes "reply" else if n == 1 then codes "order" else if n == 2 then codes "last name" else
    if n == 3 then codes "credit" else if n == 4 then codes "total" else codes "item"

abbrev pub delivery_word : ℕ → List ℕ
delivery_word n =
    if n == 0 then codes "reply" else if n == 1 then codes "order" else if n == 2 then codes "customer" else
    if n == 3 then codes "amount" else codes "word"

abbrev pub deliveries_word : ℕ → List ℕ
deliveries_word n = if n == 0 then codes "reply" else codes "district"

abbrev pub rename_word : ℕ → List ℕ
rename_word n =
    if n == 0 then codes "reply" else if n == 1 then codes "customer" else if n == 2 then codes "last name" else
    if n == 3 then codes "first name" else codes "word"

abbrev pub status_word : ℕ → List ℕ
status_word n =
    if n == 0 then codes "reply" else if n == 1 then codes "customer" else if n == 2 then codes "balance" else
    if n == 3 then codes "order" else if n == 4 then codes "entry date" else if n == 5 then codes "carrier" else
    codes "order line"

abbrev pub other_word : ℕ → List ℕ
other_word n = if n == 0 then codes "reply" else if n == 1 then codes "number" else codes "word"

abbrev pub word_name : Answered → ℕ → List ℕ
word_name answered.Payment n = payment_word n
word_name answered.NewOrder n = order_word n
word_name answered.Delivery n = delivery_word n
word_name answered.Deliveries n = deliveries_word n
word_name answered.Rename n = rename_word n
word_name answered.Status n = status_word n
word_name answered.Other n = other_word n

-- the place from which on words have numbers
abbrev pub numbered_from : Answered → ℕ
numbered_from answered.Payment = 5
numbered_from answered.NewOrder = 5
numbered_from answered.Delivery = 4
numbered_from answered.Deliveries = 1
numbered_from answered.Rename = 4
numbered_from answered.Status = 6
numbered_from answered.Other = 2

abbrev pub place_text : Answered → ℕ → List ℕ
place_text k n =
    word_name k n
    ++ (if nat_lt n (numbered_from k) then [] else codes " " ++ decimal (n + 1 - numbered_from k))

-- the parts of an item (clause 2.4.3) and of a district's delivery (clause 2.7.4), which colons part
abbrev pub part_name : Answered → ℕ → List ℕ
part_name answered.NewOrder n =
    if n == 0 then codes " brand" else if n == 1 then codes " stock" else codes " amount"
part_name k n =
    if n == 0 then codes " number" else if n == 1 then codes " order" else if n == 2 then codes " customer" else
    codes " amount"

-- such a word has parts
abbrev pub has_parts : Answered → ℕ → Bool
has_parts answered.NewOrder n = nat_lt 4 n
has_parts answered.Deliveries n = nat_lt 0 n
has_parts k n = false

abbrev pub both_text : List ℕ → List ℕ → List ℕ
both_text theirs ours = codes " " ++ theirs ++ codes ", in this order " ++ ours

abbrev pub word_text : Answered → Differing → List ℕ
word_text k d =
    if has_parts k d.place
    then (let e = other_part 58 d.theirs d.ours in part_name k e.place ++ both_text e.theirs e.ours)
    else both_text d.theirs d.ours

-- line <number>: <the word's meaning> <theirs>, in this order <ours>; and which line changed its row last, where one
-- did
abbrev pub other_line : ℕ → List ℕ → List ℕ → Option Change → List ℕ
other_line number theirs ours last =
    let k = answered_by (first_word (parts_of 32 ours)) in
    let d = other_part 32 theirs ours in
    codes "line " ++ decimal number ++ codes ": " ++ place_text k d.place ++ word_text k d
    ++ last_text last ++ codes "\n"
