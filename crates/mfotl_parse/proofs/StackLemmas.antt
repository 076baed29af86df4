-- The frames in memory and the stack that clauses see.
use Rattle.std.proofs.Common.{◌≡◌, ℕ, suc, ◌+◌, ◌<◌, ◌≤◌, true, false, cond, List, [], ◌∷◌, ◌++◌, length, map, reverse}
use Rattle.std.proofs.Common.{Option, None, option_to_list, IsSome, MatchOption, refl, ap, ◌∙◌, arith}
use Rattle.std.proofs.{lemmas.Bool.le-ltb, lemmas.Bool.lt-ltb, lemmas.Grind.common_steps}
use Rattle.std.proofs.lemmas.List.{map-append, reverse-append, length-append}
use Rattle.mfotl_model.specs.Formulas.{Form}
use Rattle.mfotl_parse.specs.declared.frame.Frame.{Frame as FrameValue}
use Rattle.mfotl_model.specs.declared.interval.Interval.{Interval}
use Rattle.mfotl_parse.specs.{Intervals.with_interval, Operators.around, Reading.is_closed, Views.frame_of}
use Rattle.mfotl_parse.specs.{Views.stack_of}
use Rattle.mfotl_parse.specs.SymbolTable.{bound_as, inner_or, binder_of}
use Rattle.mfotl_parse.specs.Reduction.{reduce, hold, closed}
use Rattle.mfotl_parse.specs.States.{Frame, opens_level, depth}

-- the newest frame stands first on the stack
pub stack_of_push : (xs : List FrameValue) (x : FrameValue) → stack_of (xs ++ x ∷ []) ≡ frame_of x ∷ stack_of xs
unfolding stack_of
stack_of_push xs x = ap reverse (map-append frame_of xs (x ∷ [])) ∙ reverse-append (map frame_of xs) (frame_of x ∷ [])

-- the levels of a stack with one frame more
pub depth_of_frame : (frame : Frame) (stack : List Frame) → depth (frame ∷ stack)
    ≡ cond (opens_level frame) (suc (depth stack)) (depth stack)
unfolding depth
depth_of_frame frame stack = refl

pub depth_of_empty : (xs : List FrameValue) → length xs ≡ 0 → depth (stack_of xs) ≡ 0
unfolding depth stack_of
depth_of_empty xs none = grind (arith, common_steps)

-- nothing is open
pub reduce_nothing : (rule : ℕ) (xs : List FrameValue) → length xs ≡ 0 → (f : Form) → reduce rule f (stack_of xs)
    ≡ record { form = f; stack = stack_of xs }
unfolding reduce stack_of
reduce_nothing rule xs none f = grind (arith, common_steps)

-- the innermost frame doesn't hold more tightly than the rule
pub reduce_loose : (rule : ℕ) (frame : Frame) (stack : List Frame) → hold frame ≤ rule → (f : Form)
    → reduce rule f (frame ∷ stack) ≡ record { form = f; stack = frame ∷ stack }
unfolding reduce
reduce_loose rule frame stack loose f = cc (le-ltb _ _ loose)

-- the innermost frame does
pub reduce_tight : (rule : ℕ) (frame : Frame) (stack : List Frame) → rule < hold frame → (f : Form)
    → reduce rule f (frame ∷ stack) ≡ reduce rule (closed frame f) stack
unfolding reduce
reduce_tight rule frame stack tight f = cc (lt-ltb _ _ tight)

-- the newest frame, and those below
pub stack_of_last : (xs front : List FrameValue) (x : FrameValue) → xs ≡ front ++ x ∷ [] → stack_of xs
    ≡ frame_of x ∷ stack_of front
stack_of_last xs front x cut = ap stack_of cut ∙ stack_of_push front x

pub depth_more : (xs front : List FrameValue) (x : FrameValue) → xs ≡ front ++ x ∷ [] → opens_level (frame_of x)
    ≡ true → depth (stack_of xs) ≡ depth (stack_of front) + 1
depth_more xs front x cut opens = grind (arith, stack_of_last, depth_of_frame)

pub depth_same : (xs front : List FrameValue) (x : FrameValue) → xs ≡ front ++ x ∷ [] → opens_level (frame_of x)
    ≡ false → depth (stack_of xs) ≡ depth (stack_of front)
depth_same xs front x cut opens = cc (stack_of_last xs front x cut, depth_of_frame (frame_of x) (stack_of front))

-- the variable of the newest frame, or of those below
pub binder_of_last : (name : List ℕ) (xs front : List FrameValue) (x : FrameValue) → xs ≡ front ++ x ∷ []
    → binder_of name (stack_of xs) ≡ inner_or (bound_as name (frame_of x)) (binder_of name (stack_of front))
unfolding binder_of
binder_of_last name xs front x cut = ap (binder_of name) (stack_of_last xs front x cut)

pub binder_of_nothing : (name : List ℕ) (xs : List FrameValue) → length xs ≡ 0 → binder_of name (stack_of xs) ≡ None
unfolding binder_of stack_of
binder_of_nothing name xs none = grind (arith, common_steps)

-- nothing was popped: nothing is open
pub with_interval_nothing : (interval : Interval) (old new : List FrameValue) → old ≡ new ++ [] → length new ≡ 0
    → stack_of new ≡ with_interval interval (stack_of old)
unfolding stack_of
with_interval_nothing interval old new same none = grind (arith, common_steps)

none_is_some : IsSome {T = FrameValue} None → ⊥
none_is_some h = absurd cc

-- a newest frame that holds tightly was popped
pub closes_popped : (rule : ℕ) (old front new : List FrameValue) (last : FrameValue) (popped : Option FrameValue)
    → old ≡ front ++ last ∷ [] → rule < hold (frame_of last) → old ≡ new ++ option_to_list popped
    → (0 < length old → IsSome popped)
    → MatchOption popped ((f : Form) → reduce rule f (stack_of old) ≡ record { form = f; stack = stack_of new })
    (λ frame. (f : Form) → reduce rule f (stack_of old) ≡ reduce rule (closed (frame_of frame) f) (stack_of new))
closes_popped rule old front new last popped cut tight taken there =
    grind (arith, common_steps, none_is_some, length-append, stack_of_last, reduce_tight)

-- a newest frame that doesn't
pub keeps_loose : (rule : ℕ) (xs front : List FrameValue) (last : FrameValue) → xs ≡ front ++ last ∷ []
    → hold (frame_of last) ≤ rule
    → (f : Form) → reduce rule f (stack_of xs) ≡ record { form = f; stack = stack_of xs }
keeps_loose rule xs front last cut loose f =
    cc (stack_of_last xs front last cut, reduce_loose rule (frame_of last) (stack_of front) loose f)

pub around_nothing : (xs : List FrameValue) → length xs ≡ 0 → around (stack_of xs) ≡ None
unfolding stack_of
around_nothing xs none = grind (arith, common_steps)

pub closed_nothing : (xs : List FrameValue) → length xs ≡ 0 → true ≡ is_closed (stack_of xs)
unfolding stack_of
closed_nothing xs none = grind (arith, common_steps)
