-- The demo's log is cut into tokens that spell its time-points.
use Rattle.std.proofs.Common.{◌≡◌, ℕ, ◌<◌, ◌^◌, true, List, [], ◌∷◌, ◌++◌, length, map, codes, refl, arith}
use Rattle.std.proofs.Common.{append_assoc}
use Rattle.std.specs.{Fmt.decimal, List.flat_map, List.AllByRecursion}
use Rattle.mfotl_lex.specs.declared.kind.Kind.TheVariants.{OpenParen, CloseParen, Comma, At, Semicolon}
use Rattle.log_reader.specs.declared.{demo_event.DemoEvent.DemoEvent, demo_event.Person.Person}
use Rattle.log_reader.specs.declared.demo_event.DemoEvent.TheVariants.{Request, Grant, Drop}
use Rattle.log_reader.specs.DemoEvents.{Moment, name_of, written, line_of}
use Rattle.log_reader.specs.Grammar.{Mention, PointText, spell_mentions, spell_point, spell_log}
use Rattle.log_reader.specs.Symbols.{Symbol, Says, Bare, Opening, Closing, Separator, Terminator}
use Rattle.log_reader.proofs.DecimalWords.{decimal_in_word, decimal_short, decimal_some}
use Rattle.log_reader.proofs.DemoMoments.{IsSmall, IsSound, AreSound}
use Rattle.log_reader.proofs.WordLexing.{CutsInto, nothing_cut, blank_cut, mark_cut, word_cut, begins_apart}

-- ---- an event

-- an event as the grammar sees it
abbrev pub mention_of : DemoEvent → Mention
mention_of (Request id who) =
    record { name = codes "req"; first = Bare (decimal id) ∷ Bare (name_of who) ∷ []; more = [] }
mention_of (Grant id) = record { name = codes "grant"; first = Bare (decimal id) ∷ []; more = [] }
mention_of (Drop id) = record { name = codes "drop"; first = Bare (decimal id) ∷ []; more = [] }

number_cut : (n : ℕ) (more : List ℕ) (symbols : List Symbol) → n < 2 ^ 64 → begins_apart more ≡ true
    → CutsInto more symbols → CutsInto (decimal n ++ more) (Says (Bare (decimal n)) ∷ symbols)
number_cut n more symbols small apart cuts =
    word_cut (decimal n) more symbols (decimal_in_word n small) (decimal_some n small)
    (omega (arith, decimal_short n small)) apart cuts

-- a number in brackets
numbered_cut : (id : ℕ) (more : List ℕ) (symbols : List Symbol) → id < 100 → CutsInto more symbols
    → CutsInto (40 ∷ ((decimal id ++ codes ")") ++ more)) (Opening ∷ Says (Bare (decimal id)) ∷ Closing ∷ symbols)
numbered_cut id more symbols small cuts =
    let end = mark_cut 41 CloseParen more symbols refl cuts in
    let number = number_cut id (41 ∷ more) _ (omega (arith, small)) refl end in
    mark_cut 40 OpenParen _ _ refl
    (rw (append_assoc (decimal id) (codes ")") more) number)

pub length-name : (who : Person) → length (name_of who) ≡ 3
length-name who = grind arith

regrouped : (a b c d more : List ℕ) → ((((a ++ b) ++ c) ++ d) ++ more) ≡ a ++ (b ++ (c ++ (d ++ more)))
regrouped a b c d more = simp (append_assoc)

-- a number and a name in brackets
named_cut : (id : ℕ) (who : Person) (more : List ℕ) (symbols : List Symbol) → id < 100 → CutsInto more symbols
    → CutsInto (40 ∷ ((((decimal id ++ codes ",") ++ name_of who) ++ codes ")") ++ more))
    (Opening ∷ Says (Bare (decimal id)) ∷ Separator ∷ Says (Bare (name_of who)) ∷ Closing ∷ symbols)
named_cut id who more symbols small cuts =
    let end = mark_cut 41 CloseParen more symbols refl cuts in
    let name = word_cut (name_of who) (41 ∷ more) _ (grind arith) (omega (arith, length-name who))
    (omega (arith, length-name who)) refl end in
    let comma = mark_cut 44 Comma _ _ refl name in
    let number = number_cut id (44 ∷ (name_of who ++ (41 ∷ more))) _ (omega (arith, small)) refl comma in
    mark_cut 40 OpenParen _ _ refl
    (rw (regrouped (decimal id) (codes ",") (name_of who) (codes ")") more) number)

event_cut : (e : DemoEvent) (more : List ℕ) (mentions : List Mention) (symbols : List Symbol) → IsSmall e
    → CutsInto more (spell_mentions mentions symbols)
    → CutsInto (written e ++ more) (spell_mentions (mention_of e ∷ mentions) symbols)
event_cut (Request id who) more mentions symbols small cuts =
    blank_cut 32 _ _ refl (word_cut (codes "req") _ _ refl (omega arith) (omega arith) refl
    (named_cut id who more _ small cuts))
event_cut (Grant id) more mentions symbols small cuts =
    blank_cut 32 _ _ refl (word_cut (codes "grant") _ _ refl (omega arith) (omega arith) refl
    (numbered_cut id more _ small cuts))
event_cut (Drop id) more mentions symbols small cuts =
    blank_cut 32 _ _ refl (word_cut (codes "drop") _ _ refl (omega arith) (omega arith) refl
    (numbered_cut id more _ small cuts))

-- ---- a time-point

events_cut : (events : List DemoEvent) (more : List ℕ) (symbols : List Symbol) → AllByRecursion IsSmall events
    → CutsInto more symbols
    → CutsInto (flat_map written events ++ more) (spell_mentions (map mention_of events) symbols)
events_cut [] more symbols small cuts = cuts
events_cut (e ∷ events) more symbols small cuts =
    search (append_assoc, event_cut, events_cut events more symbols small.1 cuts)

event_apart : (e : DemoEvent) (more : List ℕ) → begins_apart (written e ++ more) ≡ true
event_apart e more = grind arith

events_apart : (events : List DemoEvent) (more : List ℕ) → begins_apart more ≡ true
    → begins_apart (flat_map written events ++ more) ≡ true
events_apart [] more apart = apart
events_apart (e ∷ events) more apart = simp (begins_apart, append_assoc, event_apart)

-- a time-point as the grammar sees it
abbrev pub point_text : Moment → PointText
point_text m = record { stamp = decimal m.time; mentions = map mention_of m.events; is_closed = true }

line_cut : (earliest last : ℕ) (m : Moment) (more : List ℕ) (symbols : List Symbol) → last < 2 ^ 64
    → IsSound earliest last m → CutsInto more symbols
    → CutsInto (line_of m ++ more) (spell_point (point_text m) symbols)
line_cut earliest last m more symbols small sound cuts =
    let feed = blank_cut 10 more symbols refl cuts in
    let end = mark_cut 59 Semicolon (10 ∷ more) symbols refl feed in
    let events = events_cut m.events (59 ∷ 10 ∷ more) (Terminator ∷ symbols) sound.small end in
    let time = number_cut m.time (flat_map written m.events ++ (59 ∷ 10 ∷ more)) _ (omega (arith, small, sound.within))
    (events_apart m.events (59 ∷ 10 ∷ more) refl) events in
    mark_cut 64 At _ _ refl
    (rw (
      append_assoc (decimal m.time ++ flat_map written m.events) (codes ";\n") more,
      append_assoc (decimal m.time) (flat_map written m.events) (59 ∷ 10 ∷ more),
    ) time)

-- ---- the log

pub log_cut : (ms : List Moment) (earliest last : ℕ) → last < 2 ^ 64 → AreSound earliest last ms
    → CutsInto (flat_map line_of ms) (spell_log (map point_text ms))
log_cut [] earliest last small sound = nothing_cut
log_cut (m ∷ ms) earliest last small sound = search (line_cut, log_cut ms m.time last small sound.1)
