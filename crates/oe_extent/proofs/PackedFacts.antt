-- Strings that fill the front of an extent.
use Rattle.std.proofs.Common.{◌≡◌, ℕ, zero, suc, ◌+◌, ◌-◌, ◌*◌, ◌<◌, ◌≤◌, List, [], ◌∷◌, ◌++◌, length, take, drop, refl}
use Rattle.std.proofs.Common.{sym, ap, subst, ◌∙◌, arith, append_assoc}
use Rattle.std.proofs.lemmas.List.{length-append, append-nil, drop-take, take_at, drop_at, take_rest, take-append-drop}
use Rattle.std.proofs.lemmas.List.{length-take, drop-drop, take-take}
use Rattle.std.specs.List.{AllByRecursion}
use Rattle.byteorder.specs.Endian.{big_number}
use Rattle.byteorder.specs.Numbers.{big_from-append}
use Rattle.oe_extent.specs.Images.{Writes}
use Rattle.oe_extent.specs.Strings.{last_length, IsFramed, bytes_of_strings, last_strings, AreStrings, IsPacked}

pub last_is : (bytes : List ℕ) (size : ℕ)
    → size ≡ big_number 2 (take (length bytes - (length bytes - 2)) (drop (length bytes - 2) bytes))
    → size ≡ last_length bytes
unfolding last_length
last_is bytes size e = e ∙ ap (big_number 2) (take_rest bytes (length bytes - 2))

pub length-joined : (s : List ℕ) (ss : List (List ℕ)) → length (bytes_of_strings (s ∷ ss))
    ≡ length (bytes_of_strings ss) + length s
unfolding bytes_of_strings
length-joined s ss = length-append (bytes_of_strings ss) s

drop_behind : (p s : List ℕ) (n : ℕ) → drop (length p + n) (p ++ s) ≡ drop n s
drop_behind p s n = sym (drop-drop n (length p) (p ++ s)) ∙ ap (drop n) (drop_at p s (length p) refl)

-- the last two bytes of what ends in a string are the string's
last-behind : (p s : List ℕ) → IsFramed s → last_length (p ++ s) ≡ length s
unfolding last_length
last-behind p s h =
    let size : length (p ++ s) - 2 ≡ length p + (length s - 2) = omega (arith, length-append p s, h.long) in
    let tail : drop (length p + (length s - 2)) (p ++ s) ≡ drop (length s - 2) s = drop_behind p s (length s - 2) in
    ap (λ (n : ℕ). big_number 2 (drop n (p ++ s))) size ∙ ap (big_number 2) tail ∙ h.last

-- a string more
cut-push : (k : ℕ) (p s : List ℕ) → IsFramed s → last_strings (suc k) (p ++ s) ≡ s ∷ last_strings k p
unfolding last_strings
cut-push k p s h =
    let size = last-behind p s h in
    let at : length (p ++ s) - last_length (p ++ s) ≡ length p = omega (arith, size, length-append p s) in
    ap (λ (n : ℕ). drop n (p ++ s) ∷ last_strings k (take n (p ++ s))) at
    ∙ ap (λ (x : List ℕ). x ∷ last_strings k (take (length p) (p ++ s))) (drop_at p s (length p) refl)
    ∙ ap (λ (x : List ℕ). s ∷ last_strings k x) (take_at p s (length p) refl)

AreStrings-push : (k : ℕ) (p s : List ℕ) → IsFramed s → AreStrings k p → AreStrings (suc k) (p ++ s)
unfolding bytes_of_strings
AreStrings-push k p s h a =
    let e = cut-push k p s h in
    record {
      framed = subst (λ (l : List (List ℕ)). AllByRecursion IsFramed l) (sym e) (h, a.framed);
      whole = ap bytes_of_strings e ∙ ap (λ (l : List ℕ). l ++ s) a.whole;
      counted = omega (arith, a.counted, h.long, length-append p s);
    }

pub AreStrings-none : AreStrings 0 []
unfolding bytes_of_strings last_strings
AreStrings-none = record { framed = tt; whole = refl; counted = omega arith }

pub length-cut : (k : ℕ) (p : List ℕ) → length (last_strings k p) ≡ k
unfolding last_strings
length-cut zero p = refl
length-cut (suc k) p = ap suc (length-cut k (take (length p - last_length p) p))

-- the newest string, and what stands before it
record Newest (k : ℕ) (p : List ℕ) : Type 0 where
  pub less : ℕ
  pub one : k ≡ suc less
  pub size : last_length p ≤ length p
  pub long : 4 ≤ last_length p
  pub cuts : last_strings k p ≡ drop (length p - last_length p) p
      ∷ last_strings less (take (length p - last_length p) p)
  pub others : AreStrings less (take (length p - last_length p) p)

count-long : (k : ℕ) (p : List ℕ) → AllByRecursion IsFramed (last_strings k p)
    → 4 * k ≤ length (bytes_of_strings (last_strings k p))
unfolding last_strings bytes_of_strings
count-long zero p h = omega arith
count-long (suc k) p h =
    let s = drop (length p - last_length p) p in
    let rest = take (length p - last_length p) p in
    omega (arith, count-long k rest h.1, length-append (bytes_of_strings (last_strings k rest)) s, h.0.long)

newest_of : (k : ℕ) (p : List ℕ) → AreStrings k p → 0 < k → Newest k p
unfolding last_strings bytes_of_strings
newest_of zero p a h = absurd (omega arith)
newest_of (suc k) p a h =
    let cutting = length p - last_length p in
    let s = drop cutting p in
    let rest = last_strings k (take cutting p) in
    let framed : IsFramed s = a.framed.0 in
    let whole : bytes_of_strings rest ++ s ≡ p = a.whole in
    let size : last_length p ≡ length s = ap last_length (sym whole) ∙ last-behind (bytes_of_strings rest) s framed in
    let fits : last_length p ≤ length p = omega
    (arith, size, ap length whole, length-append (bytes_of_strings rest) s) in
    let front : bytes_of_strings rest ≡ take cutting p =
    sym (take_at (bytes_of_strings rest) s cutting
    (omega (arith, size, ap length whole, length-append (bytes_of_strings rest) s)))
    ∙ ap (take cutting) whole in
    record {
      less = k;
      one = refl;
      size = fits;
      long = omega (arith, size, framed.long);
      cuts = refl;
      others = record {
        framed = a.framed.1;
        whole = front;
        counted = omega (arith, a.counted, count-long k (take cutting p) a.framed.1, ap length front);
      };
    }

-- after one string more, which was written behind the others
pub IsPacked-push : (count fill : ℕ) (bytes s new : List ℕ) (end : ℕ) → IsPacked count fill bytes → IsFramed s
    → Writes bytes fill s new end
    → IsPacked (suc count) end new × (last_strings (suc count) (take end new) ≡ s
    ∷ last_strings count (take fill bytes))
IsPacked-push count fill bytes s new end h framed w =
    let front : take end new ≡ take fill bytes ++ s = w.front in
    let filled : length (take fill bytes) ≡ fill = omega (arith, length-take fill bytes, h.small) in (
      record {
        small =
            omega (arith, ap length front, length-append (take fill bytes) s, filled, w.end_is, length-take end new);
        size = w.same_length ∙ h.size;
        strings = subst (λ (l : List ℕ). AreStrings (suc count) l) (sym front)
            (AreStrings-push count (take fill bytes) s framed h.strings);
      },
      ap (last_strings (suc count)) front ∙ cut-push count (take fill bytes) s framed,
    )

-- the same where the bytes of a vector were lent to the write as a slice
pub IsPacked-written : (count fill len : ℕ) (bytes lent s new : List ℕ) (end : ℕ) → IsPacked count fill bytes
    → IsFramed s → lent ≡ bytes → length lent ≡ len → Writes lent fill s new end
    → IsPacked (count + 1) end (take len (new ++ drop (length new) bytes))
    × (last_strings (count + 1) (take end (take len (new ++ drop (length new) bytes))) ≡ s
    ∷ last_strings count (take fill bytes))
IsPacked-written count fill len bytes lent s new end h framed e l w =
    let whole : take len (new ++ drop (length new) bytes) ≡ new =
    take_at new (drop (length new) bytes) len (w.same_length ∙ l) in
    let n : count + 1 ≡ suc count = omega arith in
    rw (n, whole)
    (IsPacked-push count fill bytes s new end h framed (subst (λ (b : List ℕ). Writes b fill s new end) e w))

-- after the newest string was taken off
pub record Popped (count fill : ℕ) (bytes : List ℕ) (size : ℕ) : Type 0 where
  pub some : 0 < count
  pub fits : size ≤ fill
  pub is_packed : IsPacked (count - 1) (fill - size) bytes
  pub cuts : last_strings count (take fill bytes) ≡ take size (drop (fill - size) bytes) ∷ last_strings (count - 1)
      (take (fill - size) bytes)

pub popped : (count fill : ℕ) (bytes : List ℕ) (size : ℕ) → IsPacked count fill bytes
    → 0 < length (last_strings count (take fill bytes))
    → size ≡ last_length (take fill bytes) → Popped count fill bytes size
popped count fill bytes size h some e =
    let page = take fill bytes in
    let long : length page ≡ fill = omega (arith, length-take fill bytes, h.small, h.size) in
    let n = newest_of count page h.strings (omega (arith, length-cut count page)) in
    let less : count - 1 ≡ n.less = omega (arith, n.one) in
    let fits : size ≤ fill = omega (arith, e, n.size, long) in
    let at : length page - last_length page ≡ fill - size = omega (arith, e, long) in
    let front : take (fill - size) page ≡ take (fill - size) bytes = take-take (fill - size) fill bytes (omega arith) in
    let cutting : take (length page - last_length page) page ≡ take (fill - size) bytes = ap (λ (k : ℕ). take k page) at
    ∙ front in
    let whole : fill ≡ fill - size + size = omega (arith, fits) in
    let newest : drop (length page - last_length page) page ≡ take size (drop (fill - size) bytes) =
    ap (λ (k : ℕ). drop k page) at ∙ ap (λ (k : ℕ). drop (fill - size) (take k bytes)) whole
    ∙ drop-take (fill - size) size bytes in
    record {
      some = omega (arith, n.one);
      fits = fits;
      is_packed = record {
        small = omega (arith, h.small);
        size = h.size;
        strings = rw less (subst (λ (l : List ℕ). AreStrings n.less l) cutting n.others);
      };
      cuts = n.cuts ∙ ap (λ (x : List ℕ). x ∷ last_strings n.less (take (length page - last_length page) page)) newest
          ∙ ap (λ (l : List ℕ). take size (drop (fill - size) bytes) ∷ last_strings n.less l) cutting
          ∙ ap (λ (k : ℕ). take size (drop (fill - size) bytes) ∷ last_strings k (take (fill - size) bytes)) (sym less);
    }

pub long_enough : (count fill : ℕ) (bytes : List ℕ) → IsPacked count fill bytes
    → 0 < length (last_strings count (take fill bytes))
    → 2 ≤ length (take fill bytes)
long_enough count fill bytes h some =
    let n = newest_of count (take fill bytes) h.strings (omega (arith, length-cut count (take fill bytes))) in
    omega (arith, n.size, n.long)

pub end_is : (count fill : ℕ) (bytes : List ℕ) → IsPacked count fill bytes
    → fill ≡ length (bytes_of_strings (last_strings count (take fill bytes)))
end_is count fill bytes h = omega (arith, ap length h.strings.whole, length-take fill bytes, h.small, h.size)

-- what a walk leaves of so many strings when it took the newest off
pub record TakenOff (count : ℕ) (bytes : List ℕ) (size : ℕ) : Type 0 where
  pub fits : size ≤ length bytes
  pub others : AreStrings (count - 1) (take (length bytes - size) bytes)
  pub cuts : last_strings count bytes ≡ drop (length bytes - size) bytes
      ∷ last_strings (count - 1) (take (length bytes - size) bytes)

pub taken_off : (count : ℕ) (bytes : List ℕ) (size : ℕ) → AreStrings count bytes → 0 < count → size ≡ last_length bytes
    → TakenOff count bytes size
taken_off count bytes size h some e =
    let n = newest_of count bytes h some in
    let less : n.less ≡ count - 1 = omega (arith, n.one) in
    rw e record {
      fits = n.size;
      others = subst (λ (k : ℕ). AreStrings k (take (length bytes - last_length bytes) bytes)) less n.others;
      cuts = n.cuts ∙ ap (λ (k : ℕ). drop (length bytes - last_length bytes) bytes ∷ last_strings k
          (take (length bytes - last_length bytes) bytes)) less;
    }

pub none_left : (count : ℕ) (bytes : List ℕ) → count ≡ 0 → last_strings count bytes ≡ []
unfolding last_strings
none_left zero bytes e = refl
none_left (suc k) bytes e = absurd (omega (arith, e))

pub long_walk : (count : ℕ) (bytes : List ℕ) → AreStrings count bytes → 0 < count → 2 ≤ length bytes
long_walk count bytes h some = let n = newest_of count bytes h some in omega (arith, n.size, n.long)

-- ---- a string among others

joined-append : (xs ys : List (List ℕ)) → bytes_of_strings (xs ++ ys) ≡ bytes_of_strings ys ++ bytes_of_strings xs
unfolding bytes_of_strings
joined-append [] ys = sym (append-nil (bytes_of_strings ys))
joined-append (x ∷ xs) ys = ap (λ (l : List ℕ). l ++ x) (joined-append xs ys)
    ∙ append_assoc (bytes_of_strings ys) (bytes_of_strings xs) x

framed-amid : (xs : List (List ℕ)) (s : List ℕ) (ys : List (List ℕ)) → AllByRecursion IsFramed (xs ++ s ∷ ys)
    → IsFramed s
framed-amid [] s ys h = h.0
framed-amid (x ∷ xs) s ys h = framed-amid xs s ys h.1

-- from an offset on stand a string and other bytes
pub record Amid (bytes s : List ℕ) (offset : ℕ) : Type 0 where
  pub rest : List ℕ
  pub framed : IsFramed s
  pub within : offset + length s ≤ length bytes
  pub parts : drop offset bytes ≡ s ++ rest

pub amid : (count fill : ℕ) (bytes : List ℕ) (newer : List (List ℕ)) (s : List ℕ) (older : List (List ℕ)) (offset : ℕ)
    → IsPacked count fill bytes
    → last_strings count (take fill bytes) ≡ newer ++ s ∷ older → length (bytes_of_strings older) ≡ offset
    → Amid bytes s offset
unfolding bytes_of_strings
amid count fill bytes newer s older offset h e at =
    let front = bytes_of_strings older in
    let behind = bytes_of_strings newer ++ drop fill bytes in
    let packed : take fill bytes ≡ (front ++ s) ++ bytes_of_strings newer = sym h.strings.whole ∙ ap bytes_of_strings e
    ∙ joined-append newer (s ∷ older) in
    let whole : bytes ≡ front ++ (s ++ behind) =
    sym (take-append-drop fill bytes) ∙ ap (λ (l : List ℕ). l ++ drop fill bytes) packed
    ∙ append_assoc (front ++ s) (bytes_of_strings newer) (drop fill bytes) ∙ append_assoc front s behind in
    record {
      rest = behind;
      framed = framed-amid newer s older (subst (λ (l : List (List ℕ)). AllByRecursion IsFramed l) e h.strings.framed);
      within = omega (arith, at, ap length whole, length-append front (s ++ behind), length-append s behind);
      parts = ap (drop offset) whole ∙ drop_at front (s ++ behind) offset at;
    }

pub size_amid : (bytes s : List ℕ) (offset size : ℕ) → Amid bytes s offset
    → size ≡ big_number 2 (take (length bytes - offset) (drop offset bytes)) → size ≡ length s
size_amid bytes s offset size a e =
    e ∙ ap (big_number 2) (take_rest bytes offset) ∙ ap (big_number 2) a.parts
    ∙ big_from-append 2 s a.rest (omega (arith, a.framed.long))
    ∙ a.framed.first

pub string_amid : (bytes s : List ℕ) (offset size : ℕ) → Amid bytes s offset → size ≡ length s
    → take (offset + size - offset) (drop offset bytes) ≡ s
string_amid bytes s offset size a e =
    let n : offset + size - offset ≡ length s = omega (arith, e) in
    ap (λ (k : ℕ). take k (drop offset bytes)) n ∙ ap (take (length s)) a.parts ∙ take_at s a.rest (length s) refl
