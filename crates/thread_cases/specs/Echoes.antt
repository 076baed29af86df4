-- What is known of a work that gives back what it takes.
use Rattle.std.specs.Prelude.{◌≡◌, ℕ, List, [], ◌++◌}
use Rattle.thread_cases.specs.declared.echo.Echo.{Echo}

-- it gave what it took, and has the name that it began with
abbrev pub StandsFor : ℕ → List ℕ → List ℕ → Echo → Type 0
StandsFor name took gave w = (gave ≡ took) × (w.name ≡ name)

-- so is it known
abbrev pub Told : ℕ → List ℕ → List ℕ → Type 0
Told name took gave = gave ≡ took

-- anything may be handed over
abbrev pub May : ℕ → List ℕ → Type 0
May name items = Unit {0}

-- of one to which memory was refused nothing more is known
abbrev pub Refused : Echo → Type 0
Refused w = Unit {0}

-- what stands is told
pub tells : (name : ℕ) (took gave : List ℕ) (w : Echo) → StandsFor name took gave w → Told name took gave
tells name took gave w s = s.0

-- nothing may be handed over
pub none : (name : ℕ) → May name []
none name = tt

-- a front of what may be handed over may be
pub less : (name : ℕ) (a b : List ℕ) → May name (a ++ b) → May name a
less name a b m = tt
