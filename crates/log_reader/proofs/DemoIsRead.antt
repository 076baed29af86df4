-- The demo's log is read to its end.
use Rattle.std.proofs.Common.{◌≡◌, ℕ, ◌*◌, ◌<◌, ◌≤◌, ◌^◌, true, List, length, map, [], ◌∷◌, ap, ◌∙◌, arith}
use Rattle.std.proofs.{lemmas.Bool.le-ltb, lemmas.List.take_all}
use Rattle.std.specs.List.{flat_map, AllByRecursion}
use Rattle.mfotl_lex.specs.{Lexemes.tokens, Places.Place}
use Rattle.log_reader.specs.declared.limits.Limits.{Limits}
use Rattle.log_reader.specs.{DemoEvents.Moment, DemoEvents.line_of, Grammar.HasStamp, Grammar.symbols_of}
use Rattle.log_reader.specs.{LogTexts.place_at, Readings.NoFault, Readings.accepted}
use Rattle.log_reader.proofs.{LogLaws.spelled_read, DecimalWords.decimal_digits, DemoLexing.point_text}
use Rattle.log_reader.proofs.{DemoLexing.log_cut, DemoValues.moments_value, DemoValues.moments_short}
use Rattle.log_reader.proofs.{WordLexing.place_of}
use Rattle.log_reader.specs.DemoPoints.{DemoLogIsAccepted, demo_preds, point_of}
use Rattle.log_reader.proofs.DemoMoments.{AreSound, moments_sound, length-moments}

stamps : (ms : List Moment) (earliest last : ℕ) → last < 2 ^ 64 → AreSound earliest last ms
    → AllByRecursion HasStamp (map point_text ms)
stamps [] earliest last small sound = tt
stamps (m ∷ ms) earliest last small sound = grind (arith, decimal_digits, stamps ms m.time last small sound.1)

-- all bytes are looked at
whole_place : (limits : Limits) (bytes : List ℕ) → length bytes ≤ limits.bytes
    → place_at limits bytes true 0 ≡ place_of 0 bytes
whole_place limits bytes short = cc (take_all limits.bytes bytes short, le-ltb limits.bytes (length bytes) short)

moments_read : (ms : List Moment) (limits : Limits) (last : ℕ) → last ≤ 2 ^ 62 → AreSound 0 last ms
    → 5 ≤ limits.events → length ms ≤ limits.points → 300 * length ms ≤ limits.bytes
    → accepted demo_preds limits (flat_map line_of ms) ≡ record { points = map point_of ms; ending = NoFault }
moments_read ms limits last small sound events points bytes =
    let text = flat_map line_of ms in
    let short : length text ≤ limits.bytes =
    omega (arith, bytes, moments_short ms 0 last (omega (arith, small)) sound) in
    let cut = log_cut ms 0 last (omega (arith, small)) sound 0 in
    let place = whole_place limits text short in
    spelled_read demo_preds limits text (map point_of ms) (record {
      log = map point_text ms;
      short = short;
      whole = ap (λ (p : Place). (tokens p).fault) place ∙ cut.whole;
      spells = record {
        spelled = ap (λ (p : Place). symbols_of (tokens p).list) place ∙ cut.seen;
        stamps = stamps ms 0 last (omega (arith, small)) sound;
      };
      value = moments_value limits events ms 0 last limits.points small sound points;
    })

pub demo_log_is_read : DemoLogIsAccepted
demo_log_is_read seed = grind (arith, length-moments, moments_read, moments_sound)
