-- What is read is said, and what is said is read.
use Rattle.std.proofs.Common.{◌≡◌, ℕ, zero, suc, ◌+◌, ◌==◌, ◌^◌, ◌<◌, ◌≤◌, ◌⊎◌, inl, inr, List, [], ◌∷◌, ◌++◌, map}
use Rattle.std.proofs.Common.{length, Bool, true, false, cond, Option, Some, None, IfSome, decimal, codes, nat_le, sym}
use Rattle.std.proofs.Common.{subst, ap, ◌∙◌, refl, append-nil, append_assoc, le-leb, arith, lit<}
use Rattle.std.specs.Option.{option_map}
use Rattle.std.specs.Int.{IsInRange}
use Rattle.std.specs.List.{All, join_with_byte}
use Rattle.std.proofs.lemmas.Bool.{leb-true, eqb-true}
use Rattle.std.proofs.lemmas.List.Elements.{All-nil, All-cons, All-head, All-tail}
use Rattle.oe_rows.specs.Credit.{money_text}
use Rattle.oe_rows.specs.Key.{table_name}
use Rattle.oe_rows.specs.declared.keys.DistrictKey.{DistrictKey}
use Rattle.oe_rows.specs.declared.keys.Table.{Table}
use Rattle.oe_rows.specs.declared.keys.Table.TheVariants as table
use Rattle.oe_requests.specs.declared.requests.CustomerChoice.{CustomerChoice}
use Rattle.oe_requests.specs.declared.requests.CustomerChoice.TheVariants as choice
use Rattle.oe_requests.specs.declared.requests.PaymentRequest.{PaymentRequest}
use Rattle.oe_requests.specs.declared.requests.RequestLine.{RequestLine}
use Rattle.oe_requests.specs.declared.requests.NewOrderRequest.{NewOrderRequest}
use Rattle.oe_requests.specs.declared.requests.DeliveryRequest.{DeliveryRequest}
use Rattle.oe_requests.specs.declared.requests.DeliveriesRequest.{DeliveriesRequest}
use Rattle.oe_requests.specs.declared.requests.RenameRequest.{RenameRequest}
use Rattle.oe_requests.specs.declared.requests.Request.{Request}
use Rattle.oe_requests.specs.declared.requests.Request.TheVariants as request
use Rattle.oe_requests.specs.declared.requests.StatusQuery.{StatusQuery}
use Rattle.oe_requests.specs.declared.requests.LevelQuery.{LevelQuery}
use Rattle.oe_requests.specs.declared.requests.Query.{Query}
use Rattle.oe_requests.specs.declared.requests.Query.TheVariants as query
use Rattle.oe_requests.specs.Condition.{condition_number}
use Rattle.oe_requests.specs.declared.audits.Condition.{Condition}
use Rattle.oe_requests.specs.declared.audits.Condition.TheVariants as condition
use Rattle.oe_texts.specs.Stamp.{stamp_text}
use Rattle.oe_lines.specs.declared.commands.Command.{Command}
use Rattle.oe_lines.specs.declared.commands.Command.TheVariants as command
use Rattle.oe_lines.specs.declared.commands.Display.TheVariants as display
use Rattle.oe_lines.specs.declared.commands.MomentChoice.{MomentChoice}
use Rattle.oe_lines.specs.declared.commands.MomentChoice.TheVariants as moment
use Rattle.oe_lines.specs.declared.commands.RingChoice.{RingChoice}
use Rattle.oe_rows.specs.declared.layouts.Layout.{Layout}
use Rattle.oe_rows.specs.declared.layouts.Layout.TheVariants.{WholeRows, ChangedColumns}
use Rattle.oe_rows.specs.declared.scales.Scale.{Scale}
use Rattle.oe_model.specs.Keys.{customer_in, district_of_customer}
use Rattle.oe_model.specs.Population.{IsScale}
use Rattle.oe_model.specs.Requests.{IsDistrict, IsChoice, IsPayment, IsRequestLine, IsNewOrder, IsDelivery}
use Rattle.oe_model.specs.Requests.{IsDeliveries, IsRename, IsRequest}
use Rattle.oe_lines.specs.Grammar.{Says, HasForm, IsQuery, IsMoment, words_of, request_words, query_words}
use Rattle.oe_lines.specs.Grammar.{customer_word, line_word, moment_word}
use Rattle.oe_lines.specs.Reading.{behind_word, number_or_name, last_number_or_name, table_of, moment_of, moment_before}
use Rattle.oe_lines.specs.Rings.{layout_word}
use Rattle.oe_lines.specs.Reading.{layout_at, ring_of}
use Rattle.oe_lines.specs.Reading.{condition_of, audit_of, opening_of, district_of, customer_of, last_customer_of}
use Rattle.oe_lines.specs.Reading.{status_of, level_of, query_of, reading_of, payment_of, line_of, line_and}
use Rattle.oe_lines.specs.Reading.{lines_within, lines_of, new_order_of, delivery_of, deliveries_of, all_or_one}
use Rattle.oe_lines.specs.Reading.{rename_of, request_of, beginning_of, terminal_of, rare_command_of, command_of}
use Rattle.oe_lines.specs.Reading.{run_of, begun_payment_of, at_end}
use Rattle.oe_lines.specs.Words.{is_word, within, number_of, number_then, number_before, last_number, amount_before}
use Rattle.oe_lines.specs.Words.{stamp_of, stamp_before, last_name_of, first_name_of, name_before}
use Rattle.oe_lines.proofs.StampFacts.{stamp_found, stamp_only, stamp_of-longer, stamp_before_found, stamp_before_only}
use Rattle.oe_lines.proofs.NameFacts.{last_name_found, last_name_only, name_found, name_only, name_no_number}
use Rattle.oe_lines.proofs.NameFacts.{name_no_last, first_name_found, first_name_only}
use Rattle.oe_values.specs.Text.{IsLastName, IsFirstName}
use Rattle.oe_values.specs.Front.{after_of, decimal_of, alone}
use Rattle.oe_values.proofs.FrontFacts.{bind_some, some_same, chosen, guarded, ends, alone_found, after_found}
use Rattle.oe_values.proofs.FrontFacts.{decimal_found, decimal_only}
use Rattle.oe_lines.proofs.WordFacts.{map_some, word_is, within_found, within_only, number_found, number_only}
use Rattle.oe_lines.proofs.WordFacts.{then_found, then_only, before_found, before_only, last_found, last_only}
use Rattle.oe_lines.proofs.WordFacts.{amount_found, amount_only}

-- the next link of a chain of tests on a word
named : {A : Type 0} (s w : List ℕ) (x z : A) (rest : Option A) → cond (is_word s w) (Some x) rest ≡ Some z
    → ((s ≡ w) × (x ≡ z)) ⊎ (rest ≡ Some z)
named s w x z rest e = elim (chosen (is_word s w) (Some x) rest (Some z) e) [
  | inl h ↦ inl (word_is s w h.0, some_same x z h.1)
  | inr h ↦ inr h.1
]

-- tables

named_table : (s : List ℕ) (x t : Table) (rest : Option Table) → cond (is_word s (table_name x)) (Some x) rest ≡ Some t
    → (rest ≡ Some t → s ≡ table_name t) → s ≡ table_name t
named_table s x t rest e later = elim (named s (table_name x) x t rest e) [
  | inl h ↦ h.0 ∙ ap table_name h.1
  | inr h ↦ later h
]

table_found : (s : List ℕ) (t : Table) → table_of s ≡ Some t → s ≡ table_name t
unfolding table_of
table_found s t e =
    named_table s table.Warehouse t _ e
    (λ e. named_table s table.District t _ e
    (λ e. named_table s table.Customer t _ e
    (λ e. named_table s table.History t _ e
    (λ e. named_table s table.NewOrder t _ e
    (λ e. named_table s table.Order t _ e
    (λ e. named_table s table.OrderLine t _ e
    (λ e. named_table s table.Item t _ e
    (λ e. named_table s table.Stock t None e (λ e. cc)))))))))

table_only : (t : Table) → table_of (table_name t) ≡ Some t
unfolding table_of is_word
table_only table.Warehouse = refl
table_only table.District = refl
table_only table.Customer = refl
table_only table.History = refl
table_only table.NewOrder = refl
table_only table.Order = refl
table_only table.OrderLine = refl
table_only table.Item = refl
table_only table.Stock = refl

-- words at the front of a line

begun_some : {A : Type 0} (o : Option (List ℕ)) (read : List ℕ → Option A) (other : Option A) (x : A)
    → behind_word o read other ≡ Some x
    → ((r : List ℕ) × (o ≡ Some r) × (read r ≡ Some x)) ⊎ (other ≡ Some x)
begun_some None read other x e = inr e
begun_some (Some r) read other x e = inl (r, refl, e)

says_at : (s t : List ℕ) (c d : Command) → s ≡ t → d ≡ c → Says t d → Says s c
says_at s t c d e f h = rw (e, ← f) h

-- audits

moment_found : (s : List ℕ) (m : MomentChoice) → moment_of s ≡ Some m → (s ≡ moment_word m) × IsMoment m
unfolding moment_of
moment_found s m e = elim (chosen (is_word s (codes "now")) _ _ (Some m) e) [
  | inl h ↦
      let same = some_same moment.Now m h.1 in
      (word_is s _ h.0 ∙ ap moment_word same, rw (← same) tt)
  | inr h ↦
      let p = bind_some (decimal_of s) _ m h.1 in
      let a = bind_some (alone p.0.0 p.0.1) _ m p.2 in
      let w = bind_some (within 0 999_999_999_999 a.0) _ m a.2 in
      let f = decimal_found s p.0.0 p.0.1 p.1 in
      let end = alone_found p.0.0 a.0 p.0.1 a.1 in
      let range = within_found 0 999_999_999_999 a.0 w.0 w.1 in
      let same = some_same (moment.At w.0) m w.2 in (
        f.0 ∙ ap (λ z. decimal p.0.0 ++ z) end.0 ∙ append-nil (decimal p.0.0) ∙ ap decimal (end.1 ∙ range.0)
            ∙ ap moment_word same,
        rw (← same) range.2,
      )
]

no_word : (n : ℕ) → n < 10 ^ 15 → (b : Bool) → is_word (decimal n) (codes "now") ≡ b → b ≡ false
unfolding decimal_of
no_word n h false e = refl
no_word n h true e =
    let read : decimal_of (codes "now" ++ []) ≡ Some (n, []) = rw (word_is (decimal n) (codes "now") e) at
    (decimal_only n [] h refl) in
    cc

moment_only : (m : MomentChoice) → IsMoment m → moment_of (moment_word m) ≡ Some m
unfolding moment_of
moment_only moment.Now h = unfold is_word in refl
moment_only (moment.At n) h =
    rw (
      no_word n (omega arith) _ refl,
      ← append-nil (decimal n),
      decimal_only n [] (omega arith) refl,
      within_only 0
          999_999_999_999 n (omega arith) h,
    )
    refl

-- a number is not `now` before a space
no_now : (n : ℕ) (s : List ℕ) (o : Option (List ℕ)) → n < 10 ^ 15 → after_of (codes "now ") (decimal n ++ 32 ∷ s) ≡ o
    → o ≡ None
unfolding decimal_of
no_now n s None h e = refl
no_now n s (Some r) h e =
    let read : decimal_of (codes "now " ++ r) ≡ Some (n, 32 ∷ s) =
    rw (after_found (codes "now ") (decimal n ++ 32 ∷ s) r e) at (decimal_only n (32 ∷ s) h refl) in
    cc

moment_before_found : (s : List ℕ) (p : MomentChoice × List ℕ) → moment_before s ≡ Some p
    → (s ≡ moment_word p.0 ++ 32 ∷ p.1) × IsMoment p.0
unfolding moment_before
moment_before_found s p e = elim (begun_some (after_of (codes "now ") s) _ _ p e) [
  | inl h ↦ rw (← some_same (moment.Now, h.0) p h.2) (after_found (codes "now ") s h.0 h.1, tt)
  | inr e ↦
      let n = bind_some (decimal_of s) _ p e in
      let w = bind_some (within 0 999_999_999_999 n.0.0) _ p n.2 in
      let a = bind_some (after_of (codes " ") n.0.1) _ p w.2 in
      let f = decimal_found s n.0.0 n.0.1 n.1 in
      let range = within_found 0 999_999_999_999 n.0.0 w.0 w.1 in
      rw (← some_same (moment.At w.0, a.0) p a.2) (
        f.0 ∙ ap (λ z. decimal n.0.0 ++ z) (after_found (codes " ") n.0.1 a.0 a.1)
            ∙ ap (λ z. decimal z ++ 32 ∷ a.0) range.0,
        range.2,
      )
]

moment_before_only : (m : MomentChoice) (r : List ℕ) → IsMoment m
    → moment_before (moment_word m ++ 32 ∷ r) ≡ Some (m, r)
unfolding moment_before
moment_before_only moment.Now r h = refl
moment_before_only (moment.At n) r h =
    rw (
      no_now n r _ (omega arith) refl,
      decimal_only n (32 ∷ r) (omega arith) refl,
      within_only 0 999_999_999_999 n
          (omega arith) h,
    ) refl

-- a line of a word and a moment
of_moment_found : (made : MomentChoice → Command) (word s : List ℕ) (c : Command)
    → ((m : MomentChoice) → IsMoment m → Says (word ++ 32 ∷ moment_word m) (made m))
    → option_map made (moment_of s) ≡ Some c → Says (word ++ 32 ∷ s) c
of_moment_found made word s c says e =
    let m = map_some made (moment_of s) c e in
    let g = moment_found s m.0 m.1 in
    says_at _ _ c (made m.0) (ap (λ z. word ++ 32 ∷ z) g.0) m.2 (says m.0 g.1)

-- the next link of a chain of tests on a number
numbered : (n k : ℕ) (x c : Condition) (rest : Option Condition) → condition_number x ≡ k
    → cond (n == k) (Some x) rest ≡ Some c
    → (rest ≡ Some c → n ≡ condition_number c) → n ≡ condition_number c
numbered n k x c rest is e later = elim (chosen (n == k) (Some x) rest (Some c) e) [
  | inl h ↦ eqb-true n k h.0 ∙ sym is ∙ ap condition_number (some_same x c h.1)
  | inr h ↦ later h.1
]

condition_found : (n : ℕ) (c : Condition) → condition_of n ≡ Some c → n ≡ condition_number c
unfolding condition_of
condition_found n c e =
    numbered n 1 condition.First c _ refl e
    (λ e. numbered n 2 condition.Second c _ refl e
    (λ e. numbered n 3 condition.Third c _ refl e
    (λ e. numbered n 4 condition.Fourth c _ refl e
    (λ e. numbered n 5 condition.Fifth c _ refl e
    (λ e. numbered n 6 condition.Sixth c _ refl e
    (λ e. numbered n 7 condition.Seventh c _ refl e
    (λ e. numbered n 8 condition.Eighth c _ refl e
    (λ e. numbered n 9 condition.Ninth c _ refl e
    (λ e. numbered n 10 condition.Tenth c _ refl e
    (λ e. numbered n 12 condition.Twelfth c None refl e (λ e. cc)))))))))))

condition_only : (c : Condition) → condition_of (condition_number c) ≡ Some c
unfolding condition_of
condition_only condition.First = refl
condition_only condition.Second = refl
condition_only condition.Third = refl
condition_only condition.Fourth = refl
condition_only condition.Fifth = refl
condition_only condition.Sixth = refl
condition_only condition.Seventh = refl
condition_only condition.Eighth = refl
condition_only condition.Ninth = refl
condition_only condition.Tenth = refl
condition_only condition.Twelfth = refl

number_small : (c : Condition) → IsInRange 1 12 (condition_number c)
number_small condition.First = (omega arith, omega arith)
number_small condition.Second = (omega arith, omega arith)
number_small condition.Third = (omega arith, omega arith)
number_small condition.Fourth = (omega arith, omega arith)
number_small condition.Fifth = (omega arith, omega arith)
number_small condition.Sixth = (omega arith, omega arith)
number_small condition.Seventh = (omega arith, omega arith)
number_small condition.Eighth = (omega arith, omega arith)
number_small condition.Ninth = (omega arith, omega arith)
number_small condition.Tenth = (omega arith, omega arith)
number_small condition.Twelfth = (omega arith, omega arith)

audit_found : (s : List ℕ) (d : Command) → audit_of s ≡ Some d → Says (codes "audit" ++ 32 ∷ s) d
unfolding audit_of
audit_found s d e =
    let n = bind_some (number_before 1 12 s) _ d e in
    let c = bind_some (condition_of n.0.0) _ d n.2 in
    let m = bind_some (moment_of n.0.1) _ d c.2 in
    let f = before_found 1 12 s n.0.0 n.0.1 n.1 in
    let g = moment_found n.0.1 m.0 m.1 in
    let number = condition_found n.0.0 c.0 c.1 in
    let spelled = f.0 ∙ ap (λ z. decimal z ++ 32 ∷ n.0.1) number ∙ ap (λ z. decimal (condition_number c.0) ++ 32 ∷ z)
    g.0 in
    says_at _ _ d (command.Audit c.0 m.0) (ap (λ z. codes "audit" ++ 32 ∷ z) spelled) (some_same _ d m.2)
    (record { form = g.1; spelled = refl })

audit_only : (c : Condition) (m : MomentChoice) → IsMoment m
    → audit_of (decimal (condition_number c) ++ 32 ∷ moment_word m) ≡ Some (command.Audit c m)
unfolding audit_of
audit_only c m k =
    rw (
      before_only 1 12 (condition_number c) (moment_word m) (omega arith) (number_small c),
      condition_only c,
      moment_only m k,
    ) refl

-- openings

abbrev scale_words : Scale → List ℕ → List ℕ
scale_words s rest = decimal s.warehouses ++ 32 ∷ (decimal s.customers ++ 32 ∷ (decimal s.items ++ 32 ∷ rest))

-- what stands behind the number of extents
abbrev layout_text : Option Layout → List ℕ
layout_text None = []
layout_text (Some l) = 32 ∷ layout_word l

empty_is : (s : List ℕ) → length s ≡ 0 → s ≡ []
empty_is [] e = refl
empty_is (x ∷ xs) e = cc

layout_found : (s : List ℕ) (l : Option Layout) → layout_at s ≡ Some l → s ≡ layout_text l
unfolding layout_at
layout_found s l e = elim (chosen (length s == 0) _ _ (Some l) e) [
  | inl h ↦ empty_is s (eqb-true (length s) 0 h.0) ∙ ap layout_text (some_same _ l h.1)
  | inr h ↦ elim (chosen (is_word s (codes " 1")) _ _ (Some l) h.1) [
    | inl w ↦ word_is s (codes " 1") w.0 ∙ ap layout_text (some_same _ l w.1)
    | inr w ↦ elim (chosen (is_word s (codes " 2")) _ _ (Some l) w.1) [
      | inl v ↦ word_is s (codes " 2") v.0 ∙ ap layout_text (some_same _ l v.1)
      | inr v ↦ cc
    ]
  ]
]

layout_only : (l : Option Layout) → layout_at (layout_text l) ≡ Some l
unfolding layout_at is_word
layout_only None = refl
layout_only (Some WholeRows) = refl
layout_only (Some ChangedColumns) = refl

layout_ends : (l : Option Layout) → ends (layout_text l) ≡ true
layout_ends None = refl
layout_ends (Some l) = refl

ring_found : (s : List ℕ) (r : RingChoice) → ring_of s ≡ Some r
    → (s ≡ decimal r.extents ++ layout_text r.layout) × IsInRange 2 4_096 r.extents
unfolding ring_of
ring_found s r e =
    let n = bind_some (number_of 2 4_096 s) _ r e in
    let l = bind_some (layout_at n.0.1) _ r n.2 in
    let f = number_found 2 4_096 s n.0.0 n.0.1 n.1 in
    rw (← some_same (record { extents = n.0.0; layout = l.0 }) r l.2)
    (f.0 ∙ ap (λ z. decimal n.0.0 ++ z) (layout_found n.0.1 l.0 l.1), (f.1, f.2))

ring_only : (x : ℕ) (l : Option Layout) → IsInRange 2 4_096 x
    → ring_of (decimal x ++ layout_text l) ≡ Some (record { extents = x; layout = l })
unfolding ring_of
ring_only x l k = rw (number_only 2 4_096 x (layout_text l) (omega arith) k (layout_ends l), layout_only l) refl

-- the words of an opening
opening_words : (s : Scale) (x : ℕ) (l : Option Layout)
    → join_with_byte 32 (words_of (command.Open s (record { extents = x; layout = l })))
    ≡ codes "open" ++ 32 ∷ scale_words s (decimal x ++ layout_text l)
opening_words s x None = ap (λ z. codes "open" ++ 32 ∷ scale_words s z) (sym (append-nil (decimal x)))
opening_words s x (Some l) = refl

opening_found : (s : List ℕ) (c : Command) → opening_of s ≡ Some c → Says (codes "open" ++ 32 ∷ s) c
unfolding opening_of
opening_found s c e =
    let a = bind_some (number_before 1 16 s) _ c e in
    let b = bind_some (number_before 1 3_000 a.0.1) _ c a.2 in
    let d = bind_some (number_before 1 100_000 b.0.1) _ c b.2 in
    let x = bind_some (ring_of d.0.1) _ c d.2 in
    let f = before_found 1 16 s a.0.0 a.0.1 a.1 in
    let g = before_found 1 3_000 a.0.1 b.0.0 b.0.1 b.1 in
    let h = before_found 1 100_000 b.0.1 d.0.0 d.0.1 d.1 in
    let i = ring_found d.0.1 x.0 x.1 in
    let scale : Scale = record { warehouses = a.0.0; customers = b.0.0; items = d.0.0 } in
    let spelled =
    f.0 ∙ ap (λ z. decimal a.0.0 ++ 32 ∷ z)
    (g.0 ∙ ap (λ z. decimal b.0.0 ++ 32 ∷ z) (h.0 ∙ ap (λ z. decimal d.0.0 ++ 32 ∷ z) i.0)) in
    says_at _ _ c (command.Open scale x.0)
    (ap (λ z. codes "open" ++ 32 ∷ z) spelled) (some_same _ c x.2)
    (record {
      form = (record { warehouses = (f.1, f.2); customers = (g.1, g.2); items = (h.1, h.2) }, i.1);
      spelled = sym (opening_words scale x.0.extents x.0.layout);
    })

opening_only : (s : Scale) (x : ℕ) (l : Option Layout) → IsScale s → IsInRange 2 4_096 x
    → opening_of (scale_words s (decimal x ++ layout_text l))
    ≡ Some (command.Open s (record { extents = x; layout = l }))
unfolding opening_of
opening_only s x l h k =
    rw (
      before_only 1 16 s.warehouses _ (omega arith) h.warehouses,
      before_only 1 3_000 s.customers _ (omega arith) h.customers,
      before_only 1 100_000 s.items _ (omega arith) h.items,
      ring_only x l k,
    )
    refl

-- payments

abbrev district_words : DistrictKey → List ℕ → List ℕ
district_words d rest = decimal d.warehouse ++ 32 ∷ (decimal d.district ++ 32 ∷ rest)

district_found : (s : List ℕ) (p : DistrictKey × List ℕ) → district_of s ≡ Some p
    → (s ≡ district_words p.0 p.1) × IsDistrict p.0
unfolding district_of
district_found s p e =
    let a = bind_some (number_before 1 16 s) _ p e in
    let b = bind_some (number_before 1 10 a.0.1) _ p a.2 in
    let f = before_found 1 16 s a.0.0 a.0.1 a.1 in
    let g = before_found 1 10 a.0.1 b.0.0 b.0.1 b.1 in
    rw (← some_same (record { warehouse = a.0.0; district = b.0.0 }, b.0.1) p b.2)
    (f.0 ∙ ap (λ z. decimal a.0.0 ++ 32 ∷ z) g.0, ((f.1, f.2), (g.1, g.2)))

district_only : (d : DistrictKey) (rest : List ℕ) → IsDistrict d → district_of (district_words d rest) ≡ Some (d, rest)
unfolding district_of
district_only d rest h =
    rw (before_only 1 16 d.warehouse _ (omega arith) h.0, before_only 1 10 d.district rest (omega arith) h.1) refl

abbrev payment_words : PaymentRequest → List ℕ
payment_words p =
    district_words p.district (district_words p.customer_district
    (customer_word p.customer ++ 32 ∷ (money_text p.amount ++ 32 ∷ stamp_text p.stamp)))

customer_found : (s : List ℕ) (p : CustomerChoice × List ℕ) → customer_of s ≡ Some p
    → (s ≡ customer_word p.0 ++ 32 ∷ p.1) × IsChoice p.0
unfolding customer_of
customer_found s p e = go (number_before 1 3_000 s) refl e
  where
    go : (o : Option (ℕ × List ℕ)) → number_before 1 3_000 s ≡ o → number_or_name o (name_before s) ≡ Some p
        → (s ≡ customer_word p.0 ++ 32 ∷ p.1) × IsChoice p.0
    go (Some c) f e =
        let g = before_found 1 3_000 s c.0 c.1 f in
        rw (← some_same (choice.Number c.0, c.1) p e) (g.0, (g.1, g.2))
    go None f e =
        let n = map_some (λ n. (choice.LastName n.0, n.1)) (name_before s) p e in
        let g = name_found s n.0.0 n.0.1 n.1 in
        rw (← n.2) g

customer_only : (c : CustomerChoice) (r : List ℕ) → IsChoice c → customer_of (customer_word c ++ 32 ∷ r) ≡ Some (c, r)
unfolding customer_of
customer_only (choice.Number n) r h = rw (before_only 1 3_000 n r (omega arith) h) refl
customer_only (choice.LastName name) r h = rw (name_no_number 1 3_000 name r h, name_only name r h) refl

payment_found : (s : List ℕ) (p : PaymentRequest) → payment_of s ≡ Some p → (s ≡ payment_words p) × IsPayment p
unfolding payment_of
payment_found s p e =
    let a = bind_some (district_of s) _ p e in
    let b = bind_some (district_of a.0.1) _ p a.2 in
    let c = bind_some (customer_of b.0.1) _ p b.2 in
    let d = bind_some (amount_before 100 500_000 c.0.1) _ p c.2 in
    let t = bind_some (stamp_of d.0.1) _ p d.2 in
    let f = district_found s a.0 a.1 in
    let g = district_found a.0.1 b.0 b.1 in
    let h = customer_found b.0.1 c.0 c.1 in
    let i = amount_found 100 500_000 c.0.1 d.0.0 d.0.1 d.1 in
    let j = stamp_found d.0.1 t.0 t.1 in
    let last = h.0 ∙ ap (λ z. customer_word c.0.0 ++ 32 ∷ z) (i.0 ∙ ap (λ z. money_text d.0.0 ++ 32 ∷ z) j.0) in
    let same = some_same (record {
      district = a.0.0;
      customer_district = b.0.0;
      customer = c.0.0;
      amount = d.0.0;
      stamp = t.0;
    }) p t.2 in
    rw (← same) (
      f.0 ∙ ap (district_words a.0.0) (g.0 ∙ ap (district_words b.0.0) last),
      record { district = f.1; customer_district = g.1; customer = h.1; amount = (i.1, i.2); stamp = j.1 },
    )

payment_only : (at home : DistrictKey) (c : CustomerChoice) (amount stamp : ℕ) → IsDistrict at → IsDistrict home
    → IsChoice c → IsInRange 100 500_000 amount → stamp < 6_342_969_600
    → payment_of (district_words at
    (district_words home (customer_word c ++ 32 ∷ (money_text amount ++ 32 ∷ stamp_text stamp))))
    ≡ Some (record { district = at; customer_district = home; customer = c; amount = amount; stamp = stamp })
unfolding payment_of
payment_only at home c amount stamp p q r s t =
    rw (
      district_only at _ p,
      district_only home _ q,
      customer_only c _ r,
      amount_only 100 500_000 amount _ (omega arith) s,
      stamp_only stamp t,
    )
    refl

-- queries

last_customer_found : (s : List ℕ) (c : CustomerChoice) → last_customer_of s ≡ Some c
    → (s ≡ customer_word c) × IsChoice c
unfolding last_customer_of
last_customer_found s c e = go (last_number 1 3_000 s) refl e
  where
    go : (o : Option ℕ) → last_number 1 3_000 s ≡ o → last_number_or_name o (last_name_of s) ≡ Some c
        → (s ≡ customer_word c) × IsChoice c
    go (Some n) f e =
        let g = last_found 1 3_000 s n f in
        rw (← some_same (choice.Number n) c e) (g.0, (g.1, g.2))
    go None f e =
        let n = map_some (λ n. choice.LastName n) (last_name_of s) c e in
        let g = last_name_found s n.0 n.1 in
        let own : IsLastName n.0 = rw (← g.0) g.1 in
        rw (← n.2) (g.0, own)

last_customer_only : (c : CustomerChoice) → IsChoice c → last_customer_of (customer_word c) ≡ Some c
unfolding last_customer_of
last_customer_only (choice.Number n) h = rw (last_only 1 3_000 n (omega arith) h) refl
last_customer_only (choice.LastName name) h = rw (name_no_last 1 3_000 name h, last_name_only name h) refl

status_found : (s : List ℕ) (q : StatusQuery) → status_of s ≡ Some q
    → (s ≡ district_words q.district (customer_word q.customer)) × (IsDistrict q.district × IsChoice q.customer)
unfolding status_of
status_found s q e =
    let a = bind_some (district_of s) _ q e in
    let c = bind_some (last_customer_of a.0.1) _ q a.2 in
    let f = district_found s a.0 a.1 in
    let g = last_customer_found a.0.1 c.0 c.1 in
    rw (← some_same (record { district = a.0.0; customer = c.0 }) q c.2)
    (f.0 ∙ ap (district_words a.0.0) g.0, (f.1, g.1))

level_found : (s : List ℕ) (q : LevelQuery) → level_of s ≡ Some q
    → (s ≡ district_words q.district (decimal q.threshold)) × (IsDistrict q.district × IsInRange 10 20 q.threshold)
unfolding level_of
level_found s q e =
    let a = bind_some (district_of s) _ q e in
    let t = bind_some (last_number 10 20 a.0.1) _ q a.2 in
    let f = district_found s a.0 a.1 in
    let g = last_found 10 20 a.0.1 t.0 t.1 in
    rw (← some_same (record { district = a.0.0; threshold = t.0 }) q t.2)
    (f.0 ∙ ap (district_words a.0.0) g.0, (f.1, (g.1, g.2)))

query_found : (s : List ℕ) (q : Query) → query_of s ≡ Some q → (s ≡ join_with_byte 32 (query_words q)) × IsQuery q
unfolding query_of
query_found s q e = elim (begun_some (after_of (codes "status ") s) _ _ q e) [
  | inl h ↦
      let p = map_some (λ p. query.Status p) (status_of h.0) q h.2 in
      let f = status_found h.0 p.0 p.1 in
      rw (← p.2) (after_found (codes "status ") s h.0 h.1 ∙ ap (λ z. codes "status" ++ 32 ∷ z) f.0, f.1)
  | inr e ↦ elim (begun_some (after_of (codes "level ") s) _ None q e) [
    | inl h ↦
        let p = map_some (λ p. query.Level p) (level_of h.0) q h.2 in
        let f = level_found h.0 p.0 p.1 in
        rw (← p.2) (after_found (codes "level ") s h.0 h.1 ∙ ap (λ z. codes "level" ++ 32 ∷ z) f.0, f.1)
    | inr e ↦ cc
  ]
]

query_only : (q : Query) → IsQuery q → query_of (join_with_byte 32 (query_words q)) ≡ Some q
unfolding query_of status_of level_of
query_only (query.Status q) h =
    rw (district_only q.district (customer_word q.customer) h.0, last_customer_only q.customer h.1) refl
query_only (query.Level q) h =
    rw (district_only q.district (decimal q.threshold) h.0, last_only 10 20 q.threshold (omega arith) h.1) refl

-- a query's words stand behind the moment
read_words : (m : MomentChoice) (q : Query) → join_with_byte 32 (words_of (command.Read m q)) ≡ codes "read"
    ++ 32 ∷ (moment_word m ++ 32 ∷ join_with_byte 32 (query_words q))
read_words m (query.Status q) = refl
read_words m (query.Level q) = refl

reading_found : (s : List ℕ) (c : Command) → reading_of s ≡ Some c → Says (codes "read" ++ 32 ∷ s) c
unfolding reading_of
reading_found s c e =
    let m = bind_some (moment_before s) _ c e in
    let q = bind_some (query_of m.0.1) _ c m.2 in
    let f = moment_before_found s m.0 m.1 in
    let g = query_found m.0.1 q.0 q.1 in
    let spelled = f.0 ∙ ap (λ z. moment_word m.0.0 ++ 32 ∷ z) g.0 in
    says_at _ _ c (command.Read m.0.0 q.0) (ap (λ z. codes "read" ++ 32 ∷ z) spelled ∙ sym (read_words m.0.0 q.0))
    (some_same _ c q.2)
    (record { form = (f.1, g.1); spelled = refl })

reading_only : (m : MomentChoice) (q : Query) → IsMoment m → IsQuery q
    → reading_of (moment_word m ++ 32 ∷ join_with_byte 32 (query_words q)) ≡ Some (command.Read m q)
unfolding reading_of
reading_only m q h k = rw (moment_before_only m _ h, query_only q k) refl

-- orders

line_found : (s : List ℕ) (p : RequestLine × List ℕ) → line_of s ≡ Some p
    → (s ≡ line_word p.0 ++ p.1) × IsRequestLine p.0
unfolding line_of
line_found s p e =
    let a = bind_some (number_then 58 1 16 s) _ p e in
    let b = bind_some (number_then 58 1 999_999 a.0.1) _ p a.2 in
    let c = bind_some (number_of 1 10 b.0.1) _ p b.2 in
    let f = then_found 58 1 16 s a.0.0 a.0.1 a.1 in
    let g = then_found 58 1 999_999 a.0.1 b.0.0 b.0.1 b.1 in
    let h = number_found 1 10 b.0.1 c.0.0 c.0.1 c.1 in
    let item : a.0.1 ≡ (decimal b.0.0 ++ 58 ∷ decimal c.0.0) ++ c.0.1 =
    g.0 ∙ ap (λ z. decimal b.0.0 ++ 58 ∷ z) h.0 ∙ sym (append_assoc (decimal b.0.0) (58 ∷ decimal c.0.0) c.0.1) in
    rw (← some_same (record { supply = a.0.0; item = b.0.0; quantity = c.0.0 }, c.0.1) p c.2) (
      f.0 ∙ ap (λ z. decimal a.0.0 ++ 58 ∷ z) item
          ∙ sym (append_assoc (decimal a.0.0) (58 ∷ (decimal b.0.0 ++ 58 ∷ decimal c.0.0)) c.0.1),
      record { supply = (f.1, f.2); item = (g.1, g.2); quantity = (h.1, h.2) },
    )

line_only : (l : RequestLine) (rest : List ℕ) → IsRequestLine l → ends rest ≡ true
    → line_of (line_word l ++ rest) ≡ Some (l, rest)
unfolding line_of
line_only l rest h e =
    rw (
      append_assoc (decimal l.supply) (58 ∷ (decimal l.item ++ 58 ∷ decimal l.quantity)) rest,
      append_assoc (decimal l.item) (58 ∷ decimal l.quantity) rest,
      then_only 58 1 16 l.supply _ (omega arith) h.supply refl,
      then_only 58 1 999_999 l.item _ (omega arith) h.item refl,
      number_only 1 10 l.quantity rest (omega arith) h.quantity e,
    )
    refl

abbrev lines_text : List RequestLine → List ℕ
lines_text ls = join_with_byte 32 (map line_word ls)

-- the lines that were found
abbrev AreLines : List ℕ → ℕ → List RequestLine → Type 0
AreLines s n ls = (s ≡ lines_text ls) × All IsRequestLine ls × (length ls ≤ n) × (0 < length ls)

and_found : (n : ℕ) (l : RequestLine) (s : List ℕ) (ls : List RequestLine) → IsRequestLine l
    → ((t : List ℕ) (ks : List RequestLine) → lines_within n t ≡ Some ks → AreLines t n ks)
    → line_and l (lines_within n) s ≡ Some ls → AreLines (line_word l ++ s) (suc n) ls
and_found n l [] ls h more e =
    rw (← some_same (l ∷ []) ls e)
    (append-nil (line_word l), All-cons IsRequestLine l [] h (All-nil IsRequestLine), omega arith, omega arith)
and_found n l (b ∷ s) ls h more e =
    let a = bind_some (after_of (codes " ") (b ∷ s)) _ ls e in
    let m = bind_some (lines_within n a.0) _ ls a.2 in
    let f = more a.0 m.0 m.1 in
    let spaced : b ∷ s ≡ 32 ∷ a.0 = after_found (codes " ") (b ∷ s) a.0 a.1 in
    let one : line_word l ++ b ∷ s ≡ lines_text (l ∷ m.0) = ap (λ z. line_word l ++ z) spaced
    ∙ joined l m.0 a.0 f.0 f.3 in
    rw (← some_same (l ∷ m.0) ls m.2) (one, All-cons IsRequestLine l m.0 h f.1, omega (arith, f.2), omega arith)
  where
    joined : (l : RequestLine) (ks : List RequestLine) (t : List ℕ) → t ≡ lines_text ks → 0 < length ks
        → line_word l ++ 32 ∷ t ≡ lines_text (l ∷ ks)
    joined l [] t e h = absurd (omega (arith, h))
    joined l (k ∷ ks) t e h = ap (λ z. line_word l ++ 32 ∷ z) e

within_lines_found : (n : ℕ) (s : List ℕ) (ls : List RequestLine) → lines_within n s ≡ Some ls → AreLines s n ls
within_lines_found zero s ls e = cc
within_lines_found (suc n) s ls e =
    let a = bind_some (line_of s) _ ls e in
    let f = line_found s a.0 a.1 in
    let g = and_found n a.0.0 a.0.1 ls f.1 (within_lines_found n) a.2 in
    (f.0 ∙ g.0, g.1, g.2, g.3)

within_lines_only : (n : ℕ) (l : RequestLine) (ls : List RequestLine) → length (l ∷ ls) ≤ n → All IsRequestLine (l ∷ ls)
    → lines_within n (lines_text (l ∷ ls)) ≡ Some (l ∷ ls)
within_lines_only zero l ls h k = absurd (omega (arith, h))
within_lines_only (suc n) l [] h k =
    rw (← append-nil (line_word l), line_only l [] (All-head IsRequestLine l [] k) refl) refl
within_lines_only (suc n) l (m ∷ ms) h k =
    rw (
      line_only l (32 ∷ lines_text (m ∷ ms)) (All-head IsRequestLine l (m ∷ ms) k) refl,
      within_lines_only n m ms
          (omega (arith, h)) (All-tail IsRequestLine l (m ∷ ms) k),
    ) refl

lines_found : (s : List ℕ) (ls : List RequestLine) → lines_of s ≡ Some ls
    → (s ≡ lines_text ls) × All IsRequestLine ls × IsInRange 5 15 (length ls)
unfolding lines_of
lines_found s ls e =
    let a = bind_some (lines_within 15 s) _ ls e in
    let g = guarded (nat_le 5 (length a.0)) (Some a.0) ls a.2 in
    let f = within_lines_found 15 s a.0 a.1 in
    rw (← some_same a.0 ls g.1) (f.0, f.1, (leb-true 5 (length a.0) g.0, f.2))

lines_only : (ls : List RequestLine) → All IsRequestLine ls → IsInRange 5 15 (length ls)
    → lines_of (lines_text ls) ≡ Some ls
unfolding lines_of
lines_only [] h k = absurd (omega (arith, k.0))
lines_only (l ∷ ls) h k = rw (within_lines_only 15 l ls k.1 h, le-leb 5 (length (l ∷ ls)) k.0) refl

abbrev new_order_words : NewOrderRequest → List ℕ
new_order_words q = district_words q.district
    (decimal q.customer ++ 32 ∷ (stamp_text q.stamp ++ 32 ∷ lines_text q.lines))

new_order_found : (s : List ℕ) (q : NewOrderRequest) → new_order_of s ≡ Some q → (s ≡ new_order_words q) × IsNewOrder q
unfolding new_order_of
new_order_found s q e =
    let a = bind_some (district_of s) _ q e in
    let b = bind_some (number_before 1 3_000 a.0.1) _ q a.2 in
    let c = bind_some (stamp_before b.0.1) _ q b.2 in
    let d = bind_some (lines_of c.0.1) _ q c.2 in
    let f = district_found s a.0 a.1 in
    let g = before_found 1 3_000 a.0.1 b.0.0 b.0.1 b.1 in
    let h = stamp_before_found b.0.1 c.0.0 c.0.1 c.1 in
    let i = lines_found c.0.1 d.0 d.1 in
    let last = g.0 ∙ ap (λ z. decimal b.0.0 ++ 32 ∷ z) (h.0 ∙ ap (λ z. stamp_text c.0.0 ++ 32 ∷ z) i.0) in
    let same = some_same (record { district = a.0.0; customer = b.0.0; stamp = c.0.0; lines = d.0 }) q d.2 in
    rw (← same) (
      f.0 ∙ ap (district_words a.0.0) last,
      record { district = f.1; customer = (g.1, g.2); stamp = h.1; count = i.2; lines = i.1 },
    )

new_order_only : (q : NewOrderRequest) → IsNewOrder q → new_order_of (new_order_words q) ≡ Some q
unfolding new_order_of
new_order_only q h =
    rw (
      district_only q.district _ h.district,
      before_only 1 3_000 q.customer _ (omega arith) h.customer,
      stamp_before_only q.stamp _ h.stamp,
      lines_only q.lines h.lines h.count,
    )
    refl

-- deliveries

abbrev delivery_words : DeliveryRequest → List ℕ
delivery_words q = district_words q.district (decimal q.carrier ++ 32 ∷ stamp_text q.stamp)

delivery_found : (s : List ℕ) (q : DeliveryRequest) → delivery_of s ≡ Some q → (s ≡ delivery_words q) × IsDelivery q
unfolding delivery_of
delivery_found s q e =
    let a = bind_some (district_of s) _ q e in
    let b = bind_some (number_before 1 10 a.0.1) _ q a.2 in
    let t = bind_some (stamp_of b.0.1) _ q b.2 in
    let f = district_found s a.0 a.1 in
    let g = before_found 1 10 a.0.1 b.0.0 b.0.1 b.1 in
    let h = stamp_found b.0.1 t.0 t.1 in
    let last = g.0 ∙ ap (λ z. decimal b.0.0 ++ 32 ∷ z) h.0 in
    let same = some_same (record { district = a.0.0; carrier = b.0.0; stamp = t.0 }) q t.2 in
    rw (← same) (f.0 ∙ ap (district_words a.0.0) last, record { district = f.1; carrier = (g.1, g.2); stamp = h.1 })

delivery_only : (q : DeliveryRequest) → IsDelivery q → delivery_of (delivery_words q) ≡ Some q
unfolding delivery_of
delivery_only q h =
    rw (
      district_only q.district _ h.district,
      before_only 1 10 q.carrier _ (omega arith) h.carrier,
      stamp_only q.stamp
          h.stamp,
    ) refl

-- deliveries of all ten districts

abbrev deliveries_words : DeliveriesRequest → List ℕ
deliveries_words q = decimal q.warehouse.warehouse ++ 32 ∷ (decimal q.carrier ++ 32 ∷ stamp_text q.stamp)

deliveries_found : (s : List ℕ) (q : DeliveriesRequest) → deliveries_of s ≡ Some q
    → (s ≡ deliveries_words q) × IsDeliveries q
unfolding deliveries_of
deliveries_found s q e =
    let a = bind_some (number_before 1 16 s) _ q e in
    let b = bind_some (number_before 1 10 a.0.1) _ q a.2 in
    let t = bind_some (stamp_of b.0.1) _ q b.2 in
    let f = before_found 1 16 s a.0.0 a.0.1 a.1 in
    let g = before_found 1 10 a.0.1 b.0.0 b.0.1 b.1 in
    let h = stamp_found b.0.1 t.0 t.1 in
    let last = g.0 ∙ ap (λ z. decimal b.0.0 ++ 32 ∷ z) h.0 in
    let same = some_same (record { warehouse = record { warehouse = a.0.0 }; carrier = b.0.0; stamp = t.0 }) q t.2 in
    rw (← same) (
      f.0 ∙ ap (λ z. decimal a.0.0 ++ 32 ∷ z) last,
      record { warehouse = (f.1, f.2); carrier = (g.1, g.2); stamp = h.1 },
    )

deliveries_only : (q : DeliveriesRequest) → IsDeliveries q → deliveries_of (deliveries_words q) ≡ Some q
unfolding deliveries_of
deliveries_only q h =
    rw (
      before_only 1 16 q.warehouse.warehouse _ (omega arith) h.warehouse,
      before_only 1 10 q.carrier _ (omega arith)
          h.carrier,
      stamp_only q.stamp h.stamp,
    ) refl

-- where one district is named, a carrier stands before the stamp
no_deliveries : (q : DeliveryRequest) → IsDelivery q → deliveries_of (delivery_words q) ≡ None
unfolding deliveries_of
no_deliveries q h =
    rw (
      before_only 1 16 q.district.warehouse _ (omega arith) h.district.0,
      before_only 1 10 q.district.district _ (omega arith) h.district.1,
      stamp_of-longer (decimal q.carrier) q.stamp h.stamp,
    )
    refl

-- renames

abbrev rename_words : RenameRequest → List ℕ
rename_words q = district_words (district_of_customer q.customer)
    (decimal q.customer.customer ++ 32 ∷ (q.last ++ 32 ∷ q.first))

rename_found : (s : List ℕ) (q : RenameRequest) → rename_of s ≡ Some q → (s ≡ rename_words q) × IsRename q
unfolding rename_of
rename_found s q e =
    let a = bind_some (district_of s) _ q e in
    let b = bind_some (number_before 1 3_000 a.0.1) _ q a.2 in
    let c = bind_some (name_before b.0.1) _ q b.2 in
    let d = bind_some (first_name_of c.0.1) _ q c.2 in
    let f = district_found s a.0 a.1 in
    let g = before_found 1 3_000 a.0.1 b.0.0 b.0.1 b.1 in
    let h = name_found b.0.1 c.0.0 c.0.1 c.1 in
    let i = first_name_found c.0.1 d.0 d.1 in
    let last = g.0 ∙ ap (λ z. decimal b.0.0 ++ 32 ∷ z) (h.0 ∙ ap (λ z. c.0.0 ++ 32 ∷ z) i.0) in
    let first : IsFirstName d.0 = rw (← i.0) i.1 in
    let same = some_same (record { customer = customer_in a.0.0 b.0.0; last = c.0.0; first = d.0 }) q d.2 in
    rw (← same) (
      f.0 ∙ ap (district_words a.0.0) last,
      record { district = f.1; customer = (g.1, g.2); last = h.1; first = first },
    )

rename_only : (q : RenameRequest) → IsRename q → rename_of (rename_words q) ≡ Some q
unfolding rename_of
rename_only q h =
    rw (
      district_only (district_of_customer q.customer) _ h.district,
      before_only 1 3_000 q.customer.customer _ (omega arith) h.customer,
      name_only q.last _ h.last,
      first_name_only q.first h.first,
    )
    refl

-- requests

-- the words are spelled with a space between each two
spelled_order : (q : NewOrderRequest) → 0 < length q.lines
    → join_with_byte 32 (request_words (request.NewOrder q)) ≡ codes "neworder" ++ 32 ∷ new_order_words q
spelled_order q h = by_lines q.lines h
  where
    by_lines : (ls : List RequestLine) → 0 < length ls
        → join_with_byte 32 (request_words
        (request.NewOrder (record { district = q.district; customer = q.customer; stamp = q.stamp; lines = ls })))
        ≡ codes "neworder" ++ 32 ∷ district_words q.district
        (decimal q.customer ++ 32 ∷ (stamp_text q.stamp ++ 32 ∷ lines_text ls))
    by_lines [] h = absurd (omega (arith, h))
    by_lines (l ∷ ls) h = refl

-- a delivery, of all ten districts or of one
carried : (s t : List ℕ) (r : Request) → s ≡ codes "delivery" ++ 32 ∷ t → (o : Option DeliveriesRequest)
    → deliveries_of t ≡ o
    → all_or_one o (delivery_of t) ≡ Some r → (s ≡ join_with_byte 32 (request_words r)) × IsRequest r
carried s t r word (Some q) e h =
    let f = deliveries_found t q e in
    rw (← some_same (request.Deliveries q) r h) (word ∙ ap (λ z. codes "delivery" ++ 32 ∷ z) f.0, f.1)
carried s t r word None e h =
    let q = map_some (λ q. request.Delivery q) (delivery_of t) r h in
    let f = delivery_found t q.0 q.1 in
    rw (← q.2) (word ∙ ap (λ z. codes "delivery" ++ 32 ∷ z) f.0, f.1)

request_found : (s : List ℕ) (r : Request) → request_of s ≡ Some r
    → (s ≡ join_with_byte 32 (request_words r)) × IsRequest r
unfolding request_of
request_found s r e = elim (begun_some (after_of (codes "payment ") s) _ _ r e) [
  | inl h ↦
      let p = map_some (λ p. request.Payment p) (payment_of h.0) r h.2 in
      let f = payment_found h.0 p.0 p.1 in
      rw (← p.2) (after_found (codes "payment ") s h.0 h.1 ∙ ap (λ z. codes "payment" ++ 32 ∷ z) f.0, f.1)
  | inr e ↦ elim (begun_some (after_of (codes "neworder ") s) _ _ r e) [
    | inl h ↦
        let q = map_some (λ q. request.NewOrder q) (new_order_of h.0) r h.2 in
        let f = new_order_found h.0 q.0 q.1 in
        let count = f.1.count in
        rw (← q.2) (
          after_found (codes "neworder ") s h.0 h.1 ∙ ap (λ z. codes "neworder" ++ 32 ∷ z) f.0
              ∙ sym (spelled_order q.0 (omega (arith, count.0))),
          f.1,
        )
    | inr e ↦ elim (begun_some (after_of (codes "delivery ") s) _ _ r e) [
      | inl h ↦ carried s h.0 r (after_found (codes "delivery ") s h.0 h.1) (deliveries_of h.0) refl h.2
      | inr e ↦ elim (begun_some (after_of (codes "rename ") s) _ None r e) [
        | inl h ↦
            let q = map_some (λ q. request.Rename q) (rename_of h.0) r h.2 in
            let f = rename_found h.0 q.0 q.1 in
            rw (← q.2) (after_found (codes "rename ") s h.0 h.1 ∙ ap (λ z. codes "rename" ++ 32 ∷ z) f.0, f.1)
        | inr e ↦ cc
      ]
    ]
  ]
]

request_only : (r : Request) → IsRequest r → request_of (join_with_byte 32 (request_words r)) ≡ Some r
unfolding request_of
request_only (request.Payment p) h =
    rw (payment_only p.district p.customer_district p.customer p.amount p.stamp h.district h.customer_district
    h.customer h.amount h.stamp) refl
request_only (request.NewOrder q) h =
    let count = h.count in
    ap request_of (spelled_order q (omega (arith, count.0))) ∙ rw (new_order_only q h) refl
request_only (request.Delivery q) h = rw (no_deliveries q h, delivery_only q h) refl
request_only (request.Deliveries q) h = rw (deliveries_only q h) refl
request_only (request.Rename q) h = rw (rename_only q h) refl

-- a request's words stand behind the terminal
begun_words : (t : ℕ) (r : Request) → join_with_byte 32 (words_of (command.Begin t r)) ≡ codes "begin"
    ++ 32 ∷ (decimal t ++ 32 ∷ join_with_byte 32 (request_words r))
begun_words t (request.Payment p) = refl
begun_words t (request.NewOrder q) = refl
begun_words t (request.Delivery q) = refl
begun_words t (request.Deliveries q) = refl
begun_words t (request.Rename q) = refl

beginning_found : (s : List ℕ) (c : Command) → beginning_of s ≡ Some c → Says (codes "begin" ++ 32 ∷ s) c
unfolding beginning_of
beginning_found s c e =
    let t = bind_some (number_before 1 64 s) _ c e in
    let r = bind_some (request_of t.0.1) _ c t.2 in
    let f = before_found 1 64 s t.0.0 t.0.1 t.1 in
    let g = request_found t.0.1 r.0 r.1 in
    let spelled = f.0 ∙ ap (λ z. decimal t.0.0 ++ 32 ∷ z) g.0 in
    says_at _ _ c (command.Begin t.0.0 r.0) (ap (λ z. codes "begin" ++ 32 ∷ z) spelled
    ∙ sym (begun_words t.0.0 r.0)) (some_same _ c r.2)
    (record { form = ((f.1, f.2), g.1); spelled = refl })

beginning_only : (t : ℕ) (r : Request) → IsInRange 1 64 t → IsRequest r
    → beginning_of (decimal t ++ 32 ∷ join_with_byte 32 (request_words r)) ≡ Some (command.Begin t r)
unfolding beginning_of
beginning_only t r h k = rw (before_only 1 64 t _ (omega arith) h, request_only r k) refl

-- lines

-- a line of a word and a terminal
terminal_found : (made : ℕ → Command) (word line rest : List ℕ) (c : Command) → line ≡ word ++ 32 ∷ rest
    → ((t : ℕ) → IsInRange 1 64 t → Says (word ++ 32 ∷ decimal t) (made t))
    → terminal_of made rest ≡ Some c → Says line c
terminal_found made word line rest c e says f =
    let t = map_some made (last_number 1 64 rest) c f in
    let g = last_found 1 64 rest t.0 t.1 in
    says_at line _ c (made t.0) (e ∙ ap (λ z. word ++ 32 ∷ z) g.0) t.2 (says t.0 (g.1, g.2))

dumped_found : (s : List ℕ) (c : Command) → option_map (λ t. command.Show (display.Rows t)) (table_of s) ≡ Some c
    → Says (codes "dump" ++ 32 ∷ s) c
dumped_found s c e =
    let t = map_some (λ t. command.Show (display.Rows t)) (table_of s) c e in
    says_at _ _ c (command.Show (display.Rows t.0)) (ap (λ z. codes "dump" ++ 32 ∷ z) (table_found s t.0 t.1)) t.2
    (record { form = tt; spelled = refl })

waits_found : (s : List ℕ) (c : Command) → at_end (command.Show display.Waits) s ≡ Some c → Says (codes "waits" ++ s) c
unfolding at_end
waits_found [] c e = says_at _ _ c (command.Show display.Waits) refl (some_same _ c e)
    (record { form = tt; spelled = refl })
waits_found (b ∷ bs) c e = let none : ⊥ = cc in absurd none

locks_found : (s : List ℕ) (c : Command) → at_end (command.Show display.Locks) s ≡ Some c → Says (codes "locks" ++ s) c
unfolding at_end
locks_found [] c e = says_at _ _ c (command.Show display.Locks) refl (some_same _ c e)
    (record { form = tt; spelled = refl })
locks_found (b ∷ bs) c e = let none : ⊥ = cc in absurd none

rare_found : (s : List ℕ) (c : Command) → rare_command_of s ≡ Some c → Says s c
unfolding rare_command_of
rare_found s c e = elim (begun_some (after_of (codes "save ") s) _ _ c e) [
  | inl h ↦ terminal_found (λ t. command.Save t) (codes "save") s h.0 c (after_found (codes "save ") s h.0 h.1)
      (λ t r. record { form = r; spelled = refl }) h.2
  | inr e ↦ elim (begun_some (after_of (codes "back ") s) _ _ c e) [
    | inl h ↦ terminal_found (λ t. command.Back t) (codes "back") s h.0 c (after_found (codes "back ") s h.0 h.1)
        (λ t r. record { form = r; spelled = refl }) h.2
    | inr e ↦ elim (begun_some (after_of (codes "rollback ") s) _ _ c e) [
      | inl h ↦ terminal_found (λ t. command.Rollback t) (codes "rollback") s h.0 c
          (after_found (codes "rollback ") s h.0 h.1) (λ t r. record { form = r; spelled = refl }) h.2
      | inr e ↦ elim (begun_some (after_of (codes "open ") s) _ _ c e) [
        | inl h ↦ rw (after_found (codes "open ") s h.0 h.1) (opening_found h.0 c h.2)
        | inr e ↦ elim (begun_some (after_of (codes "dump ") s) _ _ c e) [
          | inl h ↦ rw (after_found (codes "dump ") s h.0 h.1) (dumped_found h.0 c h.2)
          | inr e ↦ elim (begun_some (after_of (codes "audit ") s) _ _ c e) [
            | inl h ↦ rw (after_found (codes "audit ") s h.0 h.1) (audit_found h.0 c h.2)
            | inr e ↦ elim (begun_some (after_of (codes "read ") s) _ _ c e) [
              | inl h ↦ rw (after_found (codes "read ") s h.0 h.1) (reading_found h.0 c h.2)
              | inr e ↦ elim (begun_some (after_of (codes "waits") s) _ _ c e) [
                | inl h ↦ rw (after_found (codes "waits") s h.0 h.1) (waits_found h.0 c h.2)
                | inr e ↦ elim (begun_some (after_of (codes "locks") s) _ _ c e) [
                  | inl h ↦ rw (after_found (codes "locks") s h.0 h.1) (locks_found h.0 c h.2)
                  | inr e ↦ elim (begun_some (after_of (codes "purge ") s) _ _ c e) [
                    | inl h ↦ rw (after_found (codes "purge ") s h.0 h.1)
                        (of_moment_found (λ m. command.Purge m) (codes "purge") h.0 c
                        (λ m r. record { form = r; spelled = refl }) h.2)
                    | inr e ↦ elim (begun_some (after_of (codes "rewind ") s) _ None c e) [
                      | inl h ↦ rw (after_found (codes "rewind ") s h.0 h.1)
                          (of_moment_found (λ m. command.Rewind m) (codes "rewind") h.0 c
                          (λ m r. record { form = r; spelled = refl }) h.2)
                      | inr e ↦ cc
                    ]
                  ]
                ]
              ]
            ]
          ]
        ]
      ]
    ]
  ]
]

found : (s : List ℕ) (c : Command) → command_of s ≡ Some c → Says s c
unfolding command_of
found s c e = elim (begun_some (after_of (codes "begin ") s) _ _ c e) [
  | inl h ↦ rw (after_found (codes "begin ") s h.0 h.1) (beginning_found h.0 c h.2)
  | inr e ↦ elim (begun_some (after_of (codes "run ") s) _ _ c e) [
    | inl h ↦ terminal_found (λ t. command.Run t) (codes "run") s h.0 c (after_found (codes "run ") s h.0 h.1)
        (λ t r. record { form = r; spelled = refl }) h.2
    | inr e ↦ elim (begun_some (after_of (codes "next ") s) _ _ c e) [
      | inl h ↦ terminal_found (λ t. command.Next t) (codes "next") s h.0 c (after_found (codes "next ") s h.0 h.1)
          (λ t r. record { form = r; spelled = refl }) h.2
      | inr e ↦ rare_found s c e
    ]
  ]
]

terminal : (t : ℕ) → IsInRange 1 64 t → last_number 1 64 (decimal t) ≡ Some t
terminal t h = last_only 1 64 t (omega arith) h

begin_only : (t : ℕ) (r : Request) → IsInRange 1 64 t → IsRequest r
    → command_of (join_with_byte 32 (words_of (command.Begin t r))) ≡ Some (command.Begin t r)
unfolding command_of
begin_only t r h k = ap command_of (begun_words t r) ∙ rw (beginning_only t r h k) refl

read_only : (m : MomentChoice) (q : Query) → IsMoment m → IsQuery q
    → command_of (join_with_byte 32 (words_of (command.Read m q))) ≡ Some (command.Read m q)
unfolding command_of rare_command_of
read_only m q h k = ap command_of (read_words m q) ∙ rw (reading_only m q h k) refl

spelled : (c : Command) → HasForm c → command_of (join_with_byte 32 (words_of c)) ≡ Some c
unfolding command_of rare_command_of at_end
spelled (command.Open s x) h = ap command_of (opening_words s x.extents x.layout)
    ∙ opening_only s x.extents x.layout h.0 h.1
spelled (command.Begin t r) h = begin_only t r h.0 h.1
spelled (command.Next t) h = rw (terminal t h) refl
spelled (command.Run t) h = rw (terminal t h) refl
spelled (command.Save t) h = rw (terminal t h) refl
spelled (command.Back t) h = rw (terminal t h) refl
spelled (command.Rollback t) h = rw (terminal t h) refl
spelled (command.Show (display.Rows t)) h = rw (table_only t) refl
spelled (command.Show display.Waits) h = refl
spelled (command.Show display.Locks) h = refl
spelled (command.Audit c m) h = audit_only c m h
spelled (command.Read m q) h = read_only m q h.0 h.1
spelled (command.Purge m) h = rw (moment_only m h) refl
spelled (command.Rewind m) h = rw (moment_only m h) refl

-- a reading is what a line says
pub read_is_said : (o : Option Command) (s : List ℕ) → o ≡ command_of s → IfSome o (λ c. Says s c)
read_is_said None s e = tt
read_is_said (Some c) s e = found s c (sym e)

-- what a line says is its reading
pub said_is_read : (s : List ℕ) (c : Command) → Says s c → command_of s ≡ Some c
said_is_read s c h = rw h.spelled (spelled c h.form)

-- the two lines that are read without a command

run_found : (s : List ℕ) (t : ℕ) → run_of s ≡ Some t → Says s (command.Run t)
unfolding run_of
run_found s t e =
    let r = bind_some (after_of (codes "run ") s) _ t e in
    let g = last_found 1 64 r.0 t r.2 in
    record { form = (g.1, g.2); spelled = after_found (codes "run ") s r.0 r.1 ∙ ap (λ z. codes "run" ++ 32 ∷ z) g.0 }

run_spelled : (t : ℕ) → IsInRange 1 64 t → run_of (join_with_byte 32 (words_of (command.Run t))) ≡ Some t
unfolding run_of
run_spelled t h = rw (terminal t h) refl

pub run_is_said : (o : Option ℕ) (s : List ℕ) → o ≡ run_of s → IfSome o (λ t. Says s (command.Run t))
run_is_said None s e = tt
run_is_said (Some t) s e = run_found s t (sym e)

pub said_is_run : (s : List ℕ) (t : ℕ) → Says s (command.Run t) → run_of s ≡ Some t
said_is_run s t h = rw h.spelled (run_spelled t h.form)

-- a line begins that payment
abbrev pub SaysPayment : List ℕ → ℕ × PaymentRequest → Type 0
SaysPayment s b = Says s (command.Begin b.0 (request.Payment b.1))

payment_begun_found : (s : List ℕ) (b : ℕ × PaymentRequest) → begun_payment_of s ≡ Some b → SaysPayment s b
unfolding begun_payment_of
payment_begun_found s b e =
    let r = bind_some (after_of (codes "begin ") s) _ b e in
    let t = bind_some (number_before 1 64 r.0) _ b r.2 in
    let q = bind_some (after_of (codes "payment ") t.0.1) _ b t.2 in
    let p = bind_some (payment_of q.0) _ b q.2 in
    let f = before_found 1 64 r.0 t.0.0 t.0.1 t.1 in
    let g = payment_found q.0 p.0 p.1 in
    let words = after_found (codes "payment ") t.0.1 q.0 q.1 ∙ ap (λ z. codes "payment" ++ 32 ∷ z) g.0 in
    let spelled = after_found (codes "begin ") s r.0 r.1 ∙ ap (λ z. codes "begin" ++ 32 ∷ z)
    (f.0 ∙ ap (λ z. decimal t.0.0 ++ 32 ∷ z) words) in
    let says : SaysPayment s (t.0.0, p.0) = record { form = ((f.1, f.2), g.1); spelled = spelled } in
    subst (SaysPayment s) (some_same (t.0.0, p.0) b p.2) says

payment_spelled : (t : ℕ) (p : PaymentRequest) → IsInRange 1 64 t → IsPayment p
    → begun_payment_of (join_with_byte 32 (words_of (command.Begin t (request.Payment p)))) ≡ Some (t, p)
unfolding begun_payment_of
payment_spelled t p h k =
    rw (
      before_only 1 64 t _ (omega arith) h,
      payment_only p.district p.customer_district p.customer p.amount p.stamp k.district k.customer_district k.customer
          k.amount k.stamp,
    )
    refl

pub payment_is_said : (o : Option (ℕ × PaymentRequest)) (s : List ℕ) → o ≡ begun_payment_of s → IfSome o (SaysPayment s)
payment_is_said None s e = tt
payment_is_said (Some b) s e = payment_begun_found s b (sym e)

pub said_is_payment : (s : List ℕ) (t : ℕ) (p : PaymentRequest) → Says s (command.Begin t (request.Payment p))
    → begun_payment_of s ≡ Some (t, p)
said_is_payment s t p h = rw h.spelled (payment_spelled t p h.form.0 h.form.1)
