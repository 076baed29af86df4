-- A core as it is evaluated: what it denies is asked for few rows, and the windows of each conjunction stand at its
-- end, where they are asked for the rows of the others.
use Rattle.std.specs.Prelude.{ℕ, Bool, true, false, not, ◌&&◌, ◌||◌, cond, nat_eq}
use Rattle.std.specs.Cmp.Lexicographic.{pointwise}
use Rattle.std.specs.List.{list_any}
use Rattle.mfotl_model.specs.FreeVariables.{among, fv}
use Rattle.mfotl_model.specs.Tables.{all_among}
use Rattle.monitorable.specs.CoreForms.{CoreForm, meaning, Atom, Not, And, Or, Exists, Previous, Next, Since, Until}
use Rattle.core_arranging.specs.Windows.{is_window, left_operand}

-- whether a core is an atom
abbrev pub is_atom : CoreForm → Bool
is_atom (Atom atom) = true
is_atom f = false

-- the first conjunct of a core
abbrev pub first_conjunct : CoreForm → CoreForm
first_conjunct (And f g) = first_conjunct f
first_conjunct f = f

-- a core with one more conjunct, which stands before its own
abbrev pub led : CoreForm → CoreForm → CoreForm
led a (And g h) = And (led a g) h
led a g = And a g

-- whether the first conjunct of g is a window that shares variables with a
abbrev pub shares_window : CoreForm → CoreForm → Bool
shares_window a g =
    is_window (first_conjunct g) && list_any (λ y. among y (fv (meaning a))) (fv (meaning (first_conjunct g)))

-- whether EXISTS of x over g is better asked for the rows of a alone: a is an atom, x none of its variables, and g
-- begins with a window that shares some with it
abbrev pub leads : CoreForm → ℕ → CoreForm → Bool
leads a x g = is_atom a && (not (among x (fv (meaning a))) && shares_window a g)

-- a core whose denied EXISTS is asked for fewer rows: where a conjunction denies one, its first conjunct may stand
-- under that too, which changes nothing of what it means
abbrev pub narrowed : CoreForm → CoreForm
narrowed (And f (Not (Exists x g))) =
    And f (Not (Exists x (cond (leads (first_conjunct f) x.number g) (led (first_conjunct f) g) g)))
narrowed f = f

-- whether a conjunct is a window or the NOT of one
abbrev pub windowed : CoreForm → Bool
windowed g = is_window (left_operand g)

-- the last conjunct of conjuncts that stand in a chain
abbrev pub last_conjunct : CoreForm → CoreForm
last_conjunct (And f g) = g
last_conjunct f = f

-- a chain of conjuncts without the windows at its end, but for the first conjunct, which stays
abbrev pub without_windows : CoreForm → CoreForm
without_windows (And f g) = cond (windowed g) (without_windows f) (And f g)
without_windows f = f

-- a chain of conjuncts with one more, which stands before the windows at its end
abbrev pub before_windows : CoreForm → CoreForm → CoreForm
before_windows (And f g) h = cond (windowed g) (And (before_windows f h) g) (And (And f g) h)
before_windows f h = cond (windowed f) (And h f) (And f h)

-- whether g has no variables but those of f, or shares one with it: joined they have not every row of the one with
-- every row of the other
abbrev pub connects : CoreForm → CoreForm → Bool
connects f g =
    all_among (fv (meaning g)) (fv (meaning f)) || list_any (λ y. among y (fv (meaning f))) (fv (meaning g))

-- whether a further conjunct stands before the windows at the end of a chain: it is none itself, has no variables but
-- those of what stands before them, or none, or shares one with that, and the columns keep their order
abbrev pub goes_before : CoreForm → CoreForm → Bool
goes_before f h =
    windowed (last_conjunct f)
    && (not (windowed h)
    && (connects (without_windows f) h
    && pointwise nat_eq (fv (meaning (before_windows f h))) (fv (meaning (And f h)))))

-- a chain of conjuncts with one more
abbrev pub with_conjunct : CoreForm → CoreForm → CoreForm
with_conjunct f h = cond (goes_before f h) (before_windows f h) (And f h)

-- a chain of conjuncts with those of another core
abbrev pub with_conjuncts : CoreForm → CoreForm → CoreForm
with_conjuncts f (And g h) = with_conjuncts (with_conjuncts f g) h
with_conjuncts f g = with_conjunct f g

-- a core with each of its conjunctions as a chain, the windows at its end as far as may be, where they can be asked for
-- the rows of the others; it means what the core means
abbrev pub arranged : CoreForm → CoreForm
arranged (Not f) = Not (arranged f)
arranged (And f g) = with_conjuncts (arranged f) (arranged g)
arranged (Or f g) = Or (arranged f) (arranged g)
arranged (Exists x f) = Exists x (arranged f)
arranged (Previous i f) = Previous i (arranged f)
arranged (Next i f) = Next i (arranged f)
arranged (Since i f g) = Since i (arranged f) (arranged g)
arranged (Until i f g) = Until i (arranged f) (arranged g)
arranged f = f

-- a core as it is evaluated
abbrev pub posed : CoreForm → CoreForm
posed f = arranged (narrowed f)
