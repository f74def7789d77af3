-- A session goes on by one byte or one line.
use Rattle.std.proofs.Common.{◌≡◌, ◌≢◌, ℕ, suc, ◌+◌, List, [], ◌∷◌, ◌++◌, length, Option, Some, Result, Ok}
use Rattle.std.proofs.Common.{Err, append_assoc, sym, ap, ◌∙◌, refl, subst, inl, inr, arith}
use Rattle.std.specs.Prelude.{All, ◌⊎◌}
use Rattle.std.specs.List.{flat_map}
use Rattle.std.proofs.lemmas.List.{append-nil, length_push}
use Rattle.std.proofs.lemmas.List.Elements.{All-push, All-append}
use Rattle.std.proofs.lemmas.Grind.{flat_map-append}
use Rattle.std.proofs.lemmas.Bool.{cases_eq}
use Rattle.oe_io.specs.Ports.{Sink, Sent, Cut, Streams}
use Rattle.oe_script.specs.Outcome.{Replies}
use Rattle.oe_filelines.specs.Lines.{IsInLine, with_line_end, Held}
use Rattle.oe_script.specs.Script.{State, LineAnswer, RunOfLines, last_text, Output, Holds}
use Rattle.oe_script.specs.Script.{Reached}
use Rattle.oe_script.specs.Hearing.{Heard, HearsLine, HearsRun, HearsReached, HearsAll, HearsEach, HeardFront, Attends}
use Rattle.oe_script.specs.Hearing.{last_heard}
use Rattle.oe_script.specs.Session.{Standing, Broken, Fed}
use Rattle.oe_admission.specs.Programs.{IsLive}
use Rattle.oe_io.proofs.Streaming.{sent_then, sent_cut, sent_as, cut_as, cut_more}
use Rattle.oe_script.proofs.LineFacts.{live_lines, line_answered}
use Rattle.oe_script.proofs.HearingFacts.{each_append}

run_more : (s : State) (n : ℕ) (lines : List (List ℕ)) (text : List ℕ) (v u : State) (line last : List ℕ) →
    RunOfLines s n lines text v → LineAnswer v (n + length lines + 1) line last u
    → RunOfLines s n (lines ++ line ∷ []) (text ++ last) u
run_more s n [] text v u line last r a =
    let here : LineAnswer s (n + 1) line last u =
    rw (← r.1) (let same : n + 0 + 1 ≡ n + 1 = omega arith in rw same at a) in
    (u, last, [], here, (refl, refl), rw r.0 (sym (append-nil last)))
run_more s n (x ∷ xs) text v u line last r a =
    let count : n + suc (length xs) + 1 ≡ n + 1 + length xs + 1 = omega arith in (
      r.0,
      r.1,
      r.2 ++ last,
      r.3,
      run_more r.0 (n + 1) xs r.2 v u line last r.4 (rw count at a),
      rw r.5
          (append_assoc r.1 r.2 last),
    )

hears_more : (s : State) (n : ℕ) (lines : List (List ℕ)) (text : List ℕ) (v u : State) (line last : List ℕ)
    (r : RunOfLines s n lines text v) (a : LineAnswer v (n + length lines + 1) line last u) (told more : List Heard)
    → HearsRun s n lines text v r told → HearsLine v (n + length lines + 1) line more
    → HearsRun s n (lines ++ line ∷ []) (text ++ last) u (run_more s n lines text v u line last r a) (told ++ more)
unfolding run_more
hears_more s n [] text v u line last r a told more h k =
    let here : HearsLine s (n + 1) line more =
    rw (← r.1) (let same : n + 0 + 1 ≡ n + 1 = omega arith in rw same at k) in
    (more, [], here, refl, ap (λ z. z ++ more) h ∙ sym (append-nil more))
hears_more s n (x ∷ xs) text v u line last r a told more h k =
    let count : n + suc (length xs) + 1 ≡ n + 1 + length xs + 1 = omega arith in (
      h.0,
      h.1 ++ more,
      h.2,
      hears_more r.0 (n + 1) xs r.2 v u line last r.4 (rw count at a) h.1 more h.3 (rw count at k),
      ap (λ z. z ++ more) h.4 ∙ append_assoc h.0 h.1 more,
    )

all_none : {X : Type 0} (P : X → Type 0) → All P []
all_none P k d h = absurd (omega (arith, h))

-- of a script that begins in this state
module _ (begun : State) (live : IsLive begun) where
  pub reach_start : Reached begun [] [] begun 0 []
  reach_start = record {
    lines = [];
    whole = refl;
    each = all_none IsInLine;
    tail = all_none (λ b. b ≢ 10);
    counted = refl;
    run = (refl, refl);
  }

  pub hears_start : HearsReached begun [] [] begun 0 [] reach_start []
  unfolding reach_start
  hears_start = refl

  reach_byte : (input out : List ℕ) (s : State) (n : ℕ) (line : List ℕ) (b : ℕ) → b ≢ 10
      → Reached begun input out s n line
      → Reached begun (input ++ b ∷ []) out s n (line ++ b ∷ [])
  reach_byte input out s n line b h r = record {
    lines = r.lines;
    whole = ap (λ z. z ++ b ∷ []) r.whole ∙ append_assoc (flat_map with_line_end r.lines) line (b ∷ []);
    each = r.each;
    tail = All-push (λ x. x ≢ 10) line b r.tail h;
    counted = r.counted;
    run = r.run;
  }

  reach_bytes : (input out : List ℕ) (s : State) (n : ℕ) (line more : List ℕ) → IsInLine more
      → Reached begun input out s n line
      → Reached begun (input ++ more) out s n (line ++ more)
  reach_bytes input out s n line more h r = record {
    lines = r.lines;
    whole = ap (λ z. z ++ more) r.whole ∙ append_assoc (flat_map with_line_end r.lines) line more;
    each = r.each;
    tail = All-append (λ b. b ≢ 10) line more r.tail h;
    counted = r.counted;
    run = r.run;
  }

  reach_line : (input out : List ℕ) (s v : State) (n : ℕ) (line text : List ℕ) → Reached begun input out s n line
      → LineAnswer s (n + 1) line text v →
      Reached begun (input ++ 10 ∷ []) (out ++ text) v (n + 1) []
  reach_line input out s v n line text r a = record {
    lines = r.lines ++ line ∷ [];
    whole = ap (λ z. z ++ 10 ∷ []) r.whole ∙ append_assoc (flat_map with_line_end r.lines) line (10 ∷ [])
        ∙ ap (λ z. flat_map with_line_end r.lines ++ z) (sym (append-nil (line ++ 10 ∷ [])))
        ∙ sym (flat_map-append with_line_end r.lines (line ∷ [])) ∙ sym (append-nil _);
    each = All-push IsInLine r.lines line r.each r.tail;
    tail = all_none (λ b. b ≢ 10);
    counted = ap (λ z. z + 1) r.counted ∙ sym (length_push r.lines line);
    run = run_more begun 0 r.lines out s v line text r.run
        (let same : n + 1 ≡ 0 + length r.lines + 1 = omega (arith, r.counted) in rw same at a);
  }

  hears_bytes : (input out : List ℕ) (s : State) (n : ℕ) (line more : List ℕ) (h : IsInLine more)
      (r : Reached begun input out s n line) (told : List Heard) → HearsReached begun input out s n line r told
      → HearsReached begun (input ++ more) out s n (line ++ more) (reach_bytes input out s n line more h r) told
  unfolding reach_bytes
  hears_bytes input out s n line more h r told k = k

  hears_line : (input out : List ℕ) (s v : State) (n : ℕ) (line text : List ℕ) (r : Reached begun input out s n line)
      (a : LineAnswer s (n + 1) line text v) (told more : List Heard) → HearsReached begun input out s n line r told
      → HearsLine s (n + 1) line more
      → HearsReached begun (input ++ 10 ∷ []) (out ++ text) v (n + 1) [] (reach_line input out s v n line text r a)
      (told ++ more)
  unfolding reach_line
  hears_line input out s v n line text r a told more h k =
      let same : n + 1 ≡ 0 + length r.lines + 1 = omega (arith, r.counted) in
      hears_more begun 0 r.lines out s v line text r.run (rw same at a) told more h (rw same at k)

  pub reach_output : (input out : List ℕ) (s : State) (n : ℕ) (line : List ℕ) → Reached begun input out s n line
      → Output begun input (out ++ last_text (n + 1) line)
  reach_output input out s n line r = record {
    lines = r.lines;
    last = line;
    answers = out;
    state = s;
    whole = r.whole;
    each = r.each;
    tail = r.tail;
    run = r.run;
    text = ap (λ k. out ++ last_text (k + 1) line) r.counted;
  }

  hears_output : (input out : List ℕ) (s : State) (n : ℕ) (line : List ℕ) (r : Reached begun input out s n line)
      (told : List Heard) → HearsReached begun input out s n line r told
      → HearsAll begun input (out ++ last_text (n + 1) line) (reach_output input out s n line r)
      (told ++ last_heard (n + 1) line)
  unfolding reach_output
  hears_output input out s n line r told h = (told, h, ap (λ k. told ++ last_heard (k + 1) line) r.counted)

  reached_live : (input out : List ℕ) (s : State) (n : ℕ) (line : List ℕ) → Reached begun input out s n line → IsLive s
  reached_live input out s n line r = live_lines begun 0 r.lines out s live r.run

  reached_as : (input other out : List ℕ) (s : State) (n : ℕ) (line : List ℕ) → input ≡ other
      → Reached begun input out s n line
      → Reached begun other out s n line
  reached_as input other out s n line e r = rw (← e) r

  output_as : (input other out text : List ℕ) → input ≡ other → out ≡ text → Output begun input out
      → Output begun other text
  output_as input other out text e f o = rw (← e, ← f) o

  -- whatever input follows, there is an output that goes on with this one
  pub reach_rest : (more input out : List ℕ) (s : State) (n : ℕ) (line : List ℕ) → Reached begun input out s n line
      → (rest : List ℕ) × Output begun (input ++ more) (out ++ rest)
  reach_rest [] input out s n line r = (
    last_text (n + 1) line,
    output_as input (input ++ []) _ _ (sym (append-nil input)) refl
        (reach_output input out s n line r),
  )
  reach_rest (b ∷ bs) input out s n line r = by_byte (cases_eq b 10)
      (λ text v m l q. reach_rest bs (input ++ b ∷ []) text v m l q)
    where
      by_byte : (b ≡ 10) ⊎ (b ≢ 10)
          → ((text : List ℕ) (v : State) (m : ℕ) (l : List ℕ) → Reached begun (input ++ b ∷ []) text v m l
          → (rest : List ℕ) × Output begun ((input ++ b ∷ []) ++ bs) (text ++ rest))
          → (rest : List ℕ) × Output begun (input ++ b ∷ bs) (out ++ rest)
      by_byte (inr other) more =
          let o = more out s n (line ++ b ∷ []) (reach_byte input out s n line b other r) in
          (o.0, output_as _ (input ++ b ∷ bs) _ (out ++ o.0) (append_assoc input (b ∷ []) bs) refl o.1)
      by_byte (inl e) more =
          let a = line_answered s (n + 1) line (reached_live input out s n line r) in
          let next = reached_as (input ++ 10 ∷ []) (input ++ b ∷ []) (out ++ a.0) a.1 (n + 1) []
          (ap (λ z. input ++ z ∷ []) (sym e)) (reach_line input out s a.1 n line a.0 r a.2) in
          let o = more (out ++ a.0) a.1 (n + 1) [] next in (
            a.0 ++ o.0,
            output_as _ (input ++ b ∷ bs) _ (out ++ (a.0 ++ o.0)) (append_assoc input (b ∷ []) bs)
                (append_assoc out a.0 o.0) o.1,
          )

  -- a front of the input, where more of it follows
  front_more : (input more : List ℕ) (IsKnown : List Heard → Type 0) → HeardFront begun input IsKnown
      → HeardFront begun (input ++ more) IsKnown
  front_more input more IsKnown f = record {
    front = f.front;
    rest = f.rest ++ more;
    out = f.out;
    state = f.state;
    count = f.count;
    line = f.line;
    told = f.told;
    whole = ap (λ z. z ++ more) f.whole ∙ append_assoc f.front f.rest more;
    reached = f.reached;
    heard = f.heard;
    known = f.known;
  }

  module _ {L : Type 0} (hears : L → Heard → L → Type 0) (before : L) where
    -- all of the input is a front of it
    front_here : (l l' : L) (start now : Option Sink) (input waits : List ℕ) (core : State) (count : ℕ)
        (held : Held) → l' ≡ l → Standing begun hears before l start input now waits core count held
        → HeardFront begun input (λ told. HearsEach hears before told l')
    front_here l l' start now input waits core count held e s = record {
      front = input;
      rest = [];
      out = s.1;
      state = core;
      count = count;
      line = s.0;
      told = s.5;
      whole = sym (append-nil input);
      reached = s.2;
      heard = s.6;
      known = subst (λ z. HearsEach hears before s.5 z) (sym e) s.7;
    }

    -- bytes within a line
    pub stand_bytes : (l : L) (start now : Option Sink) (input waits : List ℕ) (core : State) (count : ℕ)
        (held held' : Held) (more : List ℕ) → IsInLine more →
        ((line : List ℕ) → Holds held line → Holds held' (line ++ more)) →
        Standing begun hears before l start input now waits core count held
        → Standing begun hears before l start (input ++ more) now waits core count held'
    stand_bytes l start now input waits core count held held' more h grows s = (
      s.0 ++ more,
      s.1,
      reach_bytes input s.1 core count s.0 more h s.2,
      grows s.0 s.3,
      s.4,
      s.5,
      hears_bytes input s.1 core count s.0 more h s.2 s.5 s.6,
      s.7,
    )

    -- the end of a line, whose last bytes come with it
    pub stand_line : {T E : Type 0} (l l' : L) (start now after : Option Sink) (input waits waits' : List ℕ)
        (core core' : State) (count : ℕ) (held : Held) (last : List ℕ) (r : Result T E) →
        IsInLine last →
        ((line : List ℕ) → Holds held line
        → Replies core (count + 1) (line ++ last) core' now waits after waits' r) →
        ((line : List ℕ) → Holds held line → Attends hears core (count + 1) (line ++ last) l l' r) →
        Standing begun hears before l start input now waits core count held
        → Fed begun hears before l' start ((input ++ last) ++ 10 ∷ []) after waits' core' (count + 1) (Some []) r
    stand_line l l' start now after input waits waits' core core' count held last (Ok x) h answer hear s =
        let a = answer s.0 s.3 in
        let t = hear s.0 s.3 in
        let r = reach_bytes input s.1 core count s.0 last h s.2 in (
          [],
          s.1 ++ a.0,
          reach_line (input ++ last) s.1 core core' count (s.0 ++ last) a.0 r a.1,
          (refl, omega arith),
          sent_then start now after [] waits waits' s.1 a.0 s.4 a.2,
          s.5 ++ t.0,
          hears_line (input ++ last) s.1 core core' count (s.0 ++ last) a.0 r a.1 s.5 t.0
              (hears_bytes input s.1 core count s.0 last h s.2 s.5 s.6) t.1,
          each_append hears before s.5 l t.0 l' s.7 t.2,
        )
    stand_line l l' start now after input waits waits' core core' count held last (Err x) h answer hear s = (
      λ more.
          let a = answer s.0 s.3 in
          let end = (input ++ last) ++ 10 ∷ [] in
          let o = reach_rest more end (s.1 ++ a.1) a.2 (count + 1) []
          (reach_line (input ++ last) s.1 core a.2 count (s.0 ++ last) a.1
          (reach_bytes input s.1 core count s.0 last h s.2) a.3) in (
            (s.1 ++ a.1) ++ o.0,
            o.1,
            cut_more start after [] (s.1 ++ a.1) o.0 (sent_cut start now after [] waits s.1 a.1 s.4 a.4),
          ),
      front_more (input ++ last) (10 ∷ []) (λ told. HearsEach hears before told l')
          (front_more input last (λ told. HearsEach hears before told l')
          (front_here l l' start now input waits core count held (hear s.0 s.3) s)),
    )

    -- what waits is written
    pub stand_flush : {T E : Type 0} (l : L) (start now after : Option Sink) (input waits waits' : List ℕ)
        (core : State) (count : ℕ) (held : Held) (r : Result T E) →
        Streams now waits after waits' [] r → Standing begun hears before l start input now waits core count held
        → Fed begun hears before l start input after waits' core count held r
    stand_flush l start now after input waits waits' core count held (Ok x) a s = (
      s.0,
      s.1,
      s.2,
      s.3,
      sent_as start after [] waits' (s.1 ++ []) s.1 (append-nil s.1)
          (sent_then start now after [] waits waits' s.1 [] s.4 a),
      s.5,
      s.6,
      s.7,
    )
    stand_flush l start now after input waits waits' core count held (Err x) a s = (
      λ more.
          let o = reach_rest more input s.1 core count s.0 s.2 in (
            s.1 ++ o.0,
            o.1,
            cut_more start after [] s.1 o.0
                (cut_as start after [] (s.1 ++ []) s.1 (append-nil s.1)
                (sent_cut start now after [] waits s.1 [] s.4 a)),
          ),
      front_here l l start now input waits core count held refl s,
    )

    -- the end of the input
    pub end_cut : (l : L) (start now after : Option Sink) (input waits : List ℕ) (core : State) (count : ℕ)
        (held : Held) →
        ((line : List ℕ) → Holds held line → Cut now waits after (last_text (count + 1) line)) →
        Standing begun hears before l start input now waits core count held
        → (out : List ℕ) × Output begun input out × Cut start [] after out
        × HeardFront begun input (λ told. HearsEach hears before told l)
    end_cut l start now after input waits core count held last s = (
      s.1 ++ last_text (count + 1) s.0,
      reach_output input s.1 core count s.0 s.2,
      sent_cut start now after [] waits s.1 (last_text (count + 1) s.0) s.4 (last s.0 s.3),
      front_here l l start now input waits core count held refl s,
    )

    pub end_flush : (l : L) (start now mid after : Option Sink) (input waits waits' : List ℕ) (core : State)
        (count : ℕ) (held : Held) →
        ((line : List ℕ) → Holds held line → Sent now waits mid waits' (last_text (count + 1) line))
        → Cut mid waits' after [] → Standing begun hears before l start input now waits core count held
        → (out : List ℕ) × Output begun input out × Cut start [] after out
        × HeardFront begun input (λ told. HearsEach hears before told l)
    end_flush l start now mid after input waits waits' core count held last flushed s =
        let out = s.1 ++ last_text (count + 1) s.0 in
        let sent = sent_then start now mid [] waits waits' s.1 (last_text (count + 1) s.0) s.4 (last s.0 s.3) in (
          out,
          reach_output input s.1 core count s.0 s.2,
          cut_nil start after out (sent_cut start mid after [] waits' out [] sent flushed),
          front_here l l start now input waits core count held refl s,
        )
      where
        cut_nil : (a b : Option Sink) (t : List ℕ) → Cut a [] b (t ++ []) → Cut a [] b t
        cut_nil a b t p = rw append-nil at p

    pub end_sent : (l l' : L) (start now mid after : Option Sink) (input waits waits' end : List ℕ) (core : State)
        (count : ℕ) (held : Held) →
        end ≡ [] → ((line : List ℕ) → Holds held line → Sent now waits mid waits' (last_text (count + 1) line))
        → Sent mid waits' after end []
        → ((line : List ℕ) → Holds held line → HearsEach hears l (last_heard (count + 1) line) l')
        → Standing begun hears before l start input now waits core count held
        → (out : List ℕ) × (o : Output begun input out) × Sent start [] after [] out
        × (told : List Heard) × HearsAll begun input out o told × HearsEach hears before told l'
    end_sent l l' start now mid after input waits waits' end core count held e last flushed hear s =
        let out = s.1 ++ last_text (count + 1) s.0 in
        let sent = sent_then start now mid [] waits waits' s.1 (last_text (count + 1) s.0) s.4 (last s.0 s.3) in (
          out,
          reach_output input s.1 core count s.0 s.2,
          sent_nil start after out (rw e at (sent_then start mid after [] waits' end out [] sent flushed)),
          s.5 ++ last_heard (count + 1) s.0,
          hears_output input s.1 core count s.0 s.2 s.5 s.6,
          each_append hears before s.5 l (last_heard (count + 1) s.0) l' s.7 (hear s.0 s.3),
        )
      where
        sent_nil : (a b : Option Sink) (t : List ℕ) → Sent a [] b [] (t ++ []) → Sent a [] b [] t
        sent_nil a b t p = rw append-nil at p

    pub standing_as : (l : L) (start now : Option Sink) (input other waits : List ℕ) (core : State) (count : ℕ)
        (held : Held) → input ≡ other →
        Standing begun hears before l start input now waits core count held
        → Standing begun hears before l start other now waits core count held
    standing_as l start now input other waits core count held e s =
        subst (λ z. Standing begun hears before l start z now waits core count held) e s

    -- the same session, where its parts are told in other words
    pub standing_same : (l : L) (start now : Option Sink) (input waits waits' : List ℕ) (core core' : State)
        (count count' : ℕ) (held held' : Held) → waits ≡ waits' → core ≡ core' → count ≡ count' → held ≡ held'
        → Standing begun hears before l start input now waits core count held
        → Standing begun hears before l start input now waits' core' count' held'
    standing_same l start now input waits waits' core core' count count' held held' e f g h s =
        subst (λ z. Standing begun hears before l start input now waits' core' count' z) h
        (subst (λ z. Standing begun hears before l start input now waits' core' z held) g
        (subst (λ z. Standing begun hears before l start input now waits' z count held) f
        (subst (λ z. Standing begun hears before l start input now z core count held) e s)))

  -- more input behind a failure
  pub broken_more : (start now : Option Sink) (input more : List ℕ) (IsKnown : List Heard → Type 0)
      → Broken begun start input now × HeardFront begun input IsKnown
      → Broken begun start (input ++ more) now × HeardFront begun (input ++ more) IsKnown
  broken_more start now input more IsKnown b = (
    λ rest.
        let o = b.0 (more ++ rest) in (
          o.0,
          output_as (input ++ (more ++ rest)) ((input ++ more) ++ rest) o.0 o.0 (sym (append_assoc input more rest))
              refl o.1,
          o.2,
        ),
    front_more input more IsKnown b.1,
  )

  pub broken_as : (start now : Option Sink) (input other : List ℕ) (IsKnown : List Heard → Type 0) → input ≡ other
      → Broken begun start input now × HeardFront begun input IsKnown → Broken begun start other now
      × HeardFront begun other IsKnown
  broken_as start now input other IsKnown e b = rw (← e) b

-- the bytes of a piece up to a line's end, and behind it
pub to_end : (input front last : List ℕ) → ((input ++ front) ++ last) ++ 10 ∷ [] ≡ input ++ ((front ++ last) ++ 10 ∷ [])
to_end input front last = ap (λ z. z ++ 10 ∷ []) (append_assoc input front last)
    ∙ append_assoc input (front ++ last) (10 ∷ [])

pub past_end : (front last more rest : List ℕ) → rest ≡ last ++ 10 ∷ more
    → ((front ++ last) ++ 10 ∷ []) ++ more ≡ front ++ rest
past_end front last more rest e =
    append_assoc (front ++ last) (10 ∷ []) more ∙ append_assoc front last (10 ∷ more) ∙ ap (λ z. front ++ z) (sym e)
