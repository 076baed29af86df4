-- The bounds of what the demo draws.
use Rattle.std.proofs.Common.{◌≡◌, ℕ, zero, suc, ◌+◌, ◌*◌, ◌<◌, ◌≤◌, List, [], ◌∷◌, length, refl, arith}
use Rattle.std.proofs.Math.Nat.{mod-lt}
use Rattle.std.specs.List.{AllByRecursion}
use Rattle.log_reader.specs.declared.demo_event.DemoEvent.{DemoEvent}
use Rattle.log_reader.specs.declared.demo_event.DemoEvent.TheVariants.{Request, Grant, Drop}
use Rattle.log_reader.specs.DemoDraws.{drawn, moved_on}
use Rattle.log_reader.specs.DemoEvents.{Moment, state_behind, events_behind, state_behind_all, moments}

-- an event's identity is small
abbrev pub IsSmall : DemoEvent → Type 0
IsSmall (Request id who) = id < 100
IsSmall (Grant id) = id < 100
IsSmall (Drop id) = id < 100

-- a time-point isn't before the earliest time and not past the last, and has few events
pub record IsSound (earliest last : ℕ) (m : Moment) : Type 0 where
  pub later : earliest ≤ m.time
  pub within : m.time ≤ last
  pub few : length m.events ≤ 5
  pub small : AllByRecursion IsSmall m.events

-- none of them is before the one before it
abbrev pub AreSound : ℕ → ℕ → List Moment → Type 0
AreSound earliest last [] = Unit {0}
AreSound earliest last (m ∷ ms) = IsSound earliest last m × AreSound m.time last ms

drawn_below : (m s : ℕ) → 0 < m → drawn m s < m
drawn_below m s some = mod-lt _ some

events_small : (count s : ℕ) → AllByRecursion IsSmall (events_behind count s)
unfolding events_behind
events_small zero s = tt
events_small (suc count) s = (grind arith, events_small count (state_behind s))

length-events_behind : (count s : ℕ) → length (events_behind count s) ≡ count
unfolding events_behind
length-events_behind zero s = refl
length-events_behind (suc count) s = let rest = length-events_behind count (state_behind s) in omega (arith, rest)

pub length-moments : (count time s : ℕ) → length (moments count time s) ≡ count
unfolding moments
length-moments zero time s = refl
length-moments (suc count) time s =
    cc (length-moments count (time + drawn 4 s) (state_behind_all (drawn 6 (moved_on s)) (moved_on (moved_on s))))

pub moments_sound : (count time s last : ℕ) → time + 3 * count ≤ last → AreSound time last (moments count time s)
unfolding moments
moments_sound zero time s last room = tt
moments_sound (suc count) time s last room =
    let wait : drawn 4 s < 4 = drawn_below 4 s (omega arith) in
    let many : drawn 6 (moved_on s) < 6 = drawn_below 6 (moved_on s) (omega arith) in
    let behind = moved_on (moved_on s) in (
      record {
        later = omega arith;
        within = omega (arith, wait, room);
        few = omega (arith, many, length-events_behind (drawn 6 (moved_on s)) behind);
        small = events_small (drawn 6 (moved_on s)) behind;
      },
      moments_sound count (time + drawn 4 s) (state_behind_all (drawn 6 (moved_on s)) behind) last
          (omega (arith, wait, room)),
    )
