-- How a script starts, goes on by a piece, and ends.
use Rattle.std.proofs.Common.{◌≡◌, ℕ, ◌+◌, ◌^◌, ◌<◌, ◌≤◌, List, [], ◌++◌, length, take, Option, Some, None}
use Rattle.std.proofs.Common.{Result, Ok, Err, inl, inr, append_assoc, sym, ap, ◌∙◌, refl, subst, arith}
use Rattle.std.proofs.lemmas.List.{append-nil, length-append, length-take}
use Rattle.oe_io.specs.declared.ports.Failed.{Failed}
use Rattle.oe_script.specs.declared.session.ScriptFault.TheVariants.{Read, Write}
use Rattle.oe_filelines.specs.Lines.{Held}
use Rattle.oe_io.specs.Ports.{Source, Sink, Reads, Sent, Cut}
use Rattle.oe_script.specs.declared.session.ScriptFault.{ScriptFault}
use Rattle.oe_admission.specs.Programs.{IsLive}
use Rattle.oe_script.specs.Script.{State, Output, Reached}
use Rattle.oe_script.specs.Hearing.{Heard, HearsAll, HearsEach, HeardFront}
use Rattle.oe_script.specs.Session.{Standing, Broken, ReadSoFar, Began, Answered, ScriptHeard, ScriptRan}
use Rattle.oe_io.proofs.Streaming.{sent_none}
use Rattle.oe_script.proofs.Reaching.{reach_start, hears_start}

pub read_none : (a : Option Source) → ReadSoFar a a [] 0
read_none None = tt
read_none (Some a) = (refl, refl, omega arith)

pub read_more : (a b c : Option Source) (read buf : List ℕ) (calls n : ℕ) → ReadSoFar a b read calls
    → Reads {E = Failed} b c (Ok n) buf → n ≤ length buf → 0 < n →
    ReadSoFar a c (read ++ take n buf) (calls + 1)
read_more None b c read buf calls n p q h k = tt
read_more (Some a) None c read buf calls n p q h k = absurd p
read_more (Some a) (Some b) None read buf calls n p q h k = absurd q
read_more (Some a) (Some b) (Some c) read buf calls n p q h k = (
  p.0 ∙ ap (λ z. read ++ z) q.0 ∙ sym (append_assoc read (take n buf) c.remaining),
  q.1 ∙ p.1,
  omega (arith, p.2, length-append read (take n buf), length-take n buf),
)

-- a read that gives nothing is at the end
pub read_end : (a b c : Option Source) (read buf : List ℕ) (calls : ℕ) → ReadSoFar a b read calls
    → Reads {E = Failed} b c (Ok 0) buf → ReadSoFar a c read calls
read_end None b c read buf calls p q = tt
read_end (Some a) None c read buf calls p q = absurd p
read_end (Some a) (Some b) None read buf calls p q = absurd q
read_end (Some a) (Some b) (Some c) read buf calls p q = (p.0 ∙ ap (λ z. read ++ z) q.0, q.1 ∙ p.1, p.2)

-- a state may be said in other words
pub heard_from : (s t : State) → s ≡ t → (IsKnown : List Heard → Type 0) (a b : Option Source) (c d : Option Sink)
    (r : Result (Unit {0}) ScriptFault) → ScriptHeard s IsKnown a b c d r → ScriptHeard t IsKnown a b c d r
heard_from s t e IsKnown a b c d r h = subst (λ (z : State). ScriptHeard z IsKnown a b c d r) e h

-- of a script that begins in this state
module _ (begun : State) (live : IsLive begun) where
  heard_as : (input other out : List ℕ) (told : List Heard) → input ≡ other
      → (o : Output begun input out) × HearsAll begun input out o told → (o : Output begun other out)
      × HearsAll begun other out o told
  heard_as input other out told e o = subst (λ z. (q : Output begun z out) × HearsAll begun z out q told) e o

  output_as : (input other out : List ℕ) → input ≡ other → Output begun input out → Output begun other out
  output_as input other out e o = rw (← e) o

  pub standing_start : {L : Type 0} (hears : L → Heard → L → Type 0) (l : L) (now : Option Sink) (waits : List ℕ)
      (core : State) (count : ℕ) (held : Held) →
      core ≡ begun → held ≡ Some [] → count ≡ 0 → waits ≡ []
      → Standing begun hears l l now [] now waits core count held
  standing_start hears l now waits core count held e f h i = rw (e, f, h, i)
      ([], [], reach_start begun live, (refl, omega arith), sent_none now [], [], hears_start begun live, refl)

  -- where nothing waits, all whole lines are answered
  answered_reached : (a b : Source) (c d : Sink) (read out waits : List ℕ) (core : State) (count : ℕ) (line : List ℕ)
      → a.remaining ≡ read ++ b.remaining → waits ≡ [] → Sent (Some c) [] (Some d) waits out
      → Reached begun read out core count line → Answered begun a b c d
  answered_reached a b c d read out waits core count line e none sent r = record {
    read = read;
    answers = out;
    state = core;
    count = count;
    line = line;
    were_read = e;
    reached = r;
    written = sym (ap (λ z. d.contents ++ z) none ∙ append-nil d.contents) ∙ sent.0
        ∙ ap (λ z. z ++ out) (append-nil c.contents);
  }

  begun_cut : (a b : Source) (c d : Sink) (read out : List ℕ) → a.remaining ≡ read ++ b.remaining
      → Output begun read out
      → Cut (Some c) [] (Some d) out → Began begun a b c d
  begun_cut a b c d read out e o cut = record {
    read = read;
    out = out;
    more = cut.0.0;
    were_read = e;
    output = o;
    written = cut.0.1 ∙ ap (λ z. z ++ out) (append-nil c.contents);
  }

  module _ {L : Type 0} (hears : L → Heard → L → Type 0) (before after : L) where
    pub ran_unread : (a b z : Option Source) (c d : Option Sink) (read buf waits : List ℕ) (calls : ℕ) (core : State)
        (count : ℕ) (held : Held) (x : Failed) →
        ReadSoFar a b read calls → Reads b z (Err x) buf → waits ≡ []
        → Standing begun hears before after c read d waits core count held
        → ScriptHeard begun (λ told. HearsEach hears before told after) a z c d (Err Read)
    unfolding answered_reached
    ran_unread None b z c d read buf waits calls core count held x p q e s = tt
    ran_unread (Some a) None z c d read buf waits calls core count held x p q e s = absurd p
    ran_unread (Some a) (Some b) None c d read buf waits calls core count held x p q e s = absurd q
    ran_unread (Some a) (Some b) (Some z) None d read buf waits calls core count held x p q e s = tt
    ran_unread (Some a) (Some b) (Some z) (Some c) None read buf waits calls core count held x p q e s =
        absurd s.4
    ran_unread (Some a) (Some b) (Some z) (Some c) (Some d) read buf waits calls core count held x p q e s = (
      inl (q.1 ∙ ap (λ n. n + 1) p.1),
      s.4.1,
      answered_reached a z c d read s.1 waits core count s.0 (p.0 ∙ ap (λ r. read ++ r) (sym q.0)) e s.4 s.2,
      s.5,
      s.6,
      s.7,
    )

    pub ran_long : (a b : Option Source) (c d : Option Sink) (read waits : List ℕ) (calls : ℕ) (core : State)
        (count : ℕ) (held : Held) →
        2 ^ 64 ≤ calls + 1 → ReadSoFar a b read calls → waits ≡ []
        → Standing begun hears before after c read d waits core count held
        → ScriptHeard begun (λ told. HearsEach hears before told after) a b c d (Err Read)
    unfolding answered_reached
    ran_long None b c d read waits calls core count held h p e s = tt
    ran_long (Some a) None c d read waits calls core count held h p e s = absurd p
    ran_long (Some a) (Some b) None d read waits calls core count held h p e s = tt
    ran_long (Some a) (Some b) (Some c) None read waits calls core count held h p e s = absurd s.4
    ran_long (Some a) (Some b) (Some c) (Some d) read waits calls core count held h p e s = (
      inr (p.1, omega (arith, p.2, ap length p.0, length-append read b.remaining)),
      s.4.1,
      answered_reached a b c d read s.1 waits core count s.0 p.0 e s.4 s.2,
      s.5,
      s.6,
      s.7,
    )

  pub ran_cut : (IsKnown : List Heard → Type 0) (a b : Option Source) (c d : Option Sink) (read : List ℕ) (calls : ℕ)
      → ReadSoFar a b read calls → ((out : List ℕ) × Output begun read out × Cut c [] d out
      × HeardFront begun read IsKnown)
      → ScriptHeard begun IsKnown a b c d (Err Write)
  unfolding begun_cut
  ran_cut IsKnown None b c d read calls p s = tt
  ran_cut IsKnown (Some a) None c d read calls p s = absurd p
  ran_cut IsKnown (Some a) (Some b) None d read calls p s = tt
  ran_cut IsKnown (Some a) (Some b) (Some c) None read calls p s = absurd s.2
  ran_cut IsKnown (Some a) (Some b) (Some c) (Some d) read calls p s =
      (p.1, s.2.1, begun_cut a b c d read s.0 p.0 s.1 s.2, s.3)

  -- a failure before the end of the input
  pub broken_here : (IsKnown : List Heard → Type 0) (c d : Option Sink) (read : List ℕ)
      → Broken begun c read d × HeardFront begun read IsKnown
      → (out : List ℕ) × Output begun read out × Cut c [] d out × HeardFront begun read IsKnown
  broken_here IsKnown c d read b = let o = b.0 [] in
      (o.0, output_as (read ++ []) read o.0 (append-nil read) o.1, o.2, b.1)

  pub ran_whole : (IsKnown : List Heard → Type 0) (a b z : Option Source) (c d : Option Sink) (read buf : List ℕ)
      (calls : ℕ) → ReadSoFar a b read calls → Reads {E = Failed} b z (Ok 0) buf → 0 < length buf →
      ((out : List ℕ) × (o : Output begun read out) × Sent c [] d [] out
      × (told : List Heard) × HearsAll begun read out o told × IsKnown told) → ScriptHeard begun IsKnown a z c d (Ok tt)
  ran_whole IsKnown None b z c d read buf calls p q h s = tt
  ran_whole IsKnown (Some a) None z c d read buf calls p q h s = absurd p
  ran_whole IsKnown (Some a) (Some b) None c d read buf calls p q h s = absurd q
  ran_whole IsKnown (Some a) (Some b) (Some z) None d read buf calls p q h s = tt
  ran_whole IsKnown (Some a) (Some b) (Some z) (Some c) None read buf calls p q h s = absurd s.2
  ran_whole IsKnown (Some a) (Some b) (Some z) (Some c) (Some d) read buf calls p q h s =
      let end = q.2 refl h in
      let all : read ≡ a.remaining = sym (p.0 ∙ ap (λ r. read ++ r) (q.0 ∙ end) ∙ append-nil read) in
      let o = heard_as read a.remaining s.0 s.3 all (s.1, s.4) in (
        q.1 ∙ p.1,
        s.2.1,
        end,
        s.0,
        o.0,
        sym (append-nil d.contents) ∙ s.2.0 ∙ ap (λ r. r ++ s.0) (append-nil c.contents),
        s.3,
        o.1,
        s.5,
      )

  -- a script ends so whoever hears of it
  pub heard_ran : (IsKnown : List Heard → Type 0) (a b : Option Source) (c d : Option Sink)
      (r : Result (Unit {0}) ScriptFault) → ScriptHeard begun IsKnown a b c d r → ScriptRan begun a b c d r
  heard_ran IsKnown None b c d r h = tt
  heard_ran IsKnown (Some a) b None d r h = by_source b d r
    where
      by_source : (b : Option Source) (d : Option Sink) (r : Result (Unit {0}) ScriptFault)
          → ScriptRan begun (Some a) b None d r
      by_source None d r = tt
      by_source (Some b) d r = tt
  heard_ran IsKnown (Some a) None (Some c) d r h = absurd h
  heard_ran IsKnown (Some a) (Some b) (Some c) None r h = absurd h
  heard_ran IsKnown (Some a) (Some b) (Some c) (Some d) (Ok x) h = (h.0, h.1, h.2, h.3, h.4, h.5)
  heard_ran IsKnown (Some a) (Some b) (Some c) (Some d) (Err Read) h = (h.0, h.1, h.2)
  heard_ran IsKnown (Some a) (Some b) (Some c) (Some d) (Err Write) h = (h.0, h.1, h.2)

  -- what is known of what is heard may be said in other words
  pub heard_map : (IsKnown IsSaid : List Heard → Type 0) → ((told : List Heard) → IsKnown told → IsSaid told)
      → (a b : Option Source) (c d : Option Sink) (r : Result (Unit {0}) ScriptFault)
      → ScriptHeard begun IsKnown a b c d r
      → ScriptHeard begun IsSaid a b c d r
  heard_map IsKnown IsSaid says None b c d r h = tt
  heard_map IsKnown IsSaid says (Some a) b None d r h = by_source b d r
    where
      by_source : (b : Option Source) (d : Option Sink) (r : Result (Unit {0}) ScriptFault)
          → ScriptHeard begun IsSaid (Some a) b None d r
      by_source None d r = tt
      by_source (Some b) d r = tt
  heard_map IsKnown IsSaid says (Some a) None (Some c) d r h = absurd h
  heard_map IsKnown IsSaid says (Some a) (Some b) (Some c) None r h = absurd h
  heard_map IsKnown IsSaid says (Some a) (Some b) (Some c) (Some d) (Ok x) h =
      (h.0, h.1, h.2, h.3, h.4, h.5, h.6, h.7, says h.6 h.8)
  heard_map IsKnown IsSaid says (Some a) (Some b) (Some c) (Some d) (Err Read) h =
      (h.0, h.1, h.2, h.3, h.4, says h.3 h.5)
  heard_map IsKnown IsSaid says (Some a) (Some b) (Some c) (Some d) (Err Write) h = (
    h.0,
    h.1,
    h.2,
    record {
      front = h.3.front;
      rest = h.3.rest;
      out = h.3.out;
      state = h.3.state;
      count = h.3.count;
      line = h.3.line;
      told = h.3.told;
      whole = h.3.whole;
      reached = h.3.reached;
      heard = h.3.heard;
      known = says h.3.told h.3.known;
    },
  )
