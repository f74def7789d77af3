-- Words behind others.
use Rattle.std.proofs.Common.{◌≡◌, ℕ, List, [], ◌∷◌, ◌++◌, refl, ap, sym, ◌∙◌, append_assoc}
use Rattle.std.specs.Prelude.{map, decimal, codes}
use Rattle.std.specs.List.{flat_map}
use Rattle.std.proofs.lemmas.List.{append-nil}
use Rattle.oe_requests.specs.declared.requests.RequestLine.{RequestLine}
use Rattle.oe_requests.specs.declared.requests.NewOrderRequest.{NewOrderRequest}
use Rattle.oe_requests.specs.declared.requests.Request.{Request}
use Rattle.oe_requests.specs.declared.requests.Request.TheVariants as request
use Rattle.oe_requests.specs.declared.requests.Query.{Query}
use Rattle.oe_requests.specs.declared.requests.Query.TheVariants as query
use Rattle.oe_texts.specs.Stamp.{stamp_text}
use Rattle.oe_lines.specs.Grammar.{line_word, request_words, query_words}
use Rattle.oe_lines.specs.Texts.{line_of_words, item_text, head_text}

-- items behind a word
pub items_joined : (word : List ℕ) (ls : List RequestLine)
    → line_of_words (word ∷ map line_word ls) ≡ word ++ flat_map item_text ls
items_joined word [] = sym (append-nil word)
items_joined word (l ∷ ls) = ap (λ z. word ++ 32 ∷ z) (items_joined (line_word l) ls)

-- the words of an order, taken together otherwise
together : (a b c s f : List ℕ)
    → a ++ 32 ∷ (b ++ 32 ∷ (c ++ 32 ∷ (s ++ f))) ≡ ((a ++ 32 ∷ b) ++ 32 ∷ (c ++ 32 ∷ s)) ++ f
together a b c s f =
    sym (append_assoc (a ++ 32 ∷ b) (32 ∷ (c ++ 32 ∷ s)) f
    ∙ (append_assoc a (32 ∷ b) (32 ∷ ((c ++ 32 ∷ s) ++ f))
    ∙ ap (λ z. a ++ 32 ∷ (b ++ 32 ∷ z)) (append_assoc c (32 ∷ s) f)))

pub order_joined : (q : NewOrderRequest) → line_of_words (request_words (request.NewOrder q))
    ≡ codes "neworder " ++ (head_text q ++ flat_map item_text q.lines)
order_joined q =
    let w = decimal q.district.warehouse in
    let d = decimal q.district.district in
    let c = decimal q.customer in
    ap (λ z. codes "neworder " ++ z)
    (ap (λ z. w ++ 32 ∷ (d ++ 32 ∷ (c ++ 32 ∷ z))) (items_joined (stamp_text q.stamp) q.lines)
    ∙ together w d c (stamp_text q.stamp) (flat_map item_text q.lines))

-- a word before those of a request or a query
pub request_behind : (word : List ℕ) (q : Request)
    → line_of_words (word ∷ request_words q) ≡ word ++ 32 ∷ line_of_words (request_words q)
request_behind word (request.Payment q) = refl
request_behind word (request.NewOrder q) = refl
request_behind word (request.Delivery q) = refl
request_behind word (request.Deliveries q) = refl
request_behind word (request.Rename q) = refl

pub query_behind : (word : List ℕ) (q : Query)
    → line_of_words (word ∷ query_words q) ≡ word ++ 32 ∷ line_of_words (query_words q)
query_behind word (query.Status q) = refl
query_behind word (query.Level q) = refl
