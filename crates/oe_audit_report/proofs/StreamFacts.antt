-- One text behind another; the last may not go out.
use Rattle.std.proofs.Common.{◌≡◌, List, ℕ, ◌++◌, Option, Result, refl}
use Rattle.oe_io.specs.Ports.{Sink, Sent, Cut, Streams}
use Rattle.oe_io.proofs.Streaming.{sent_then, sent_cut, streams_then, cut_more, streams_as}

-- the same text, told in another way
pub streams_from : {T E : Type 0} (a b : Option Sink) (h i t u : List ℕ) (r : Result T E) → t ≡ u
    → Streams a h b i t r → Streams a h b i u r
streams_from a b h i t u r e p = streams_as a b h h i t u r refl e p

-- three texts: the first or the second does not go out whole, or the third may not
module _ (a b : Option Sink) (h t u v : List ℕ) where
  pub cut_first : Cut a h b t → Cut a h b (t ++ u ++ v)
  cut_first p = cut_more a b h (t ++ u) v (cut_more a b h t u p)

  module _ (c : Option Sink) (i : List ℕ) (first : Sent a h b i t) where
    pub cut_second : Cut b i c u → Cut a h c (t ++ u ++ v)
    cut_second p = cut_more a c h (t ++ u) v (sent_cut a b c h i t u first p)

    pub streams_third : {T E : Type 0} (d : Option Sink) (j k : List ℕ) (r : Result T E) → Sent b i c j u
        → Streams c j d k v r → Streams a h d k (t ++ u ++ v) r
    streams_third d j k r second p = streams_then a c d h j k (t ++ u) v r (sent_then a b c h i j t u first second) p
