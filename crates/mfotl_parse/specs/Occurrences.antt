-- The variables of a written policy, as they stand in its text.
use Rattle.std.specs.Prelude.{ℕ, suc, ◌+◌, Bool, false, ◌||◌, List, [], ◌∷◌, ◌++◌, is_some, position, if◌then◌else◌}
use Rattle.std.specs.Str.{bytes_eq}
use Rattle.mfotl_parse.specs.Grammar.{WrittenVariable, Bare, Asked, WrittenTerm, Named, Number, Quoted}
use Rattle.mfotl_parse.specs.Grammar.{WrittenArgument, Given, Hidden, WrittenArguments, LastArgument, MoreArguments}
use Rattle.mfotl_parse.specs.Grammar.{WrittenVariables, LastVariable, MoreVariables, Tree, Truth, BareAtom, AtomOf}
use Rattle.mfotl_parse.specs.Grammar.{Comparison, Enclosed, Denied, Timed, Quantified, Joined}

-- the name of a variable, without `?`
abbrev pub name_of : WrittenVariable → List ℕ
name_of (Bare name) = name.text
name_of (Asked mark name) = name.text

-- where a variable stands: at its `?`, if it has one
abbrev pub place_of_variable : WrittenVariable → ℕ
place_of_variable (Bare name) = name.at
place_of_variable (Asked mark name) = mark.at

-- where a term stands
abbrev pub place_of : WrittenTerm → ℕ
place_of (Named variable) = place_of_variable variable
place_of (Number token value) = token.at
place_of (Quoted token) = token.at

-- a name and where it stands
abbrev pub Occurrence : Type 0
Occurrence = List ℕ × ℕ

-- one of the names is this one
abbrev pub is_among : List ℕ → List (List ℕ) → Bool
is_among name [] = false
is_among name (other ∷ others) = bytes_eq name other || is_among name others

-- a variable's occurrence, unless a quantifier around it binds the name
abbrev pub free_of : WrittenVariable → List (List ℕ) → List Occurrence
free_of v bound = if is_among (name_of v) bound then [] else (name_of v, place_of_variable v) ∷ []

-- the same of a term
abbrev pub free_of_term : WrittenTerm → List (List ℕ) → List Occurrence
free_of_term (Named variable) bound = free_of variable bound
free_of_term (Number token value) bound = []
free_of_term (Quoted token) bound = []

-- of an argument
abbrev pub free_of_argument : WrittenArgument → List (List ℕ) → List Occurrence
free_of_argument (Given term) bound = free_of_term term bound
free_of_argument (Hidden token) bound = []

-- of arguments, in the order of the text
abbrev pub free_of_arguments : WrittenArguments → List (List ℕ) → List Occurrence
free_of_arguments (LastArgument a) bound = free_of_argument a bound
free_of_arguments (MoreArguments a comma rest) bound = free_of_argument a bound ++ free_of_arguments rest bound

-- the names that quantified variables bind, and those bound around them
abbrev pub names_bound : WrittenVariables → List (List ℕ) → List (List ℕ)
names_bound (LastVariable v) bound = name_of v ∷ bound
names_bound (MoreVariables v comma rest) bound = names_bound rest (name_of v ∷ bound)

-- of a formula inside quantifiers that bind these names
abbrev pub free_in : Tree → List (List ℕ) → List Occurrence
free_in (Truth token value) bound = []
free_in (BareAtom name opening closing) bound = []
free_in (AtomOf name opening arguments closing) bound = free_of_arguments arguments bound
free_in (Comparison left token sign right) bound = free_of_term left bound ++ free_of_term right bound
free_in (Enclosed opening body closing) bound = free_in body bound
free_in (Denied token body) bound = free_in body bound
free_in (Timed token operator interval body) bound = free_in body bound
free_in (Quantified token quantifier variables dot body) bound = free_in body (names_bound variables bound)
free_in (Joined left token operator interval right) bound = free_in left bound ++ free_in right bound

-- one of the occurrences has this name
abbrev pub has_name : List ℕ → List Occurrence → Bool
has_name name before = is_some (position (λ one. bytes_eq name one.0) before)

-- one more, unless its name stands before
abbrev pub with_first : List Occurrence → Occurrence → List Occurrence
with_first before one = if has_name one.0 before then before else before ++ one ∷ []

-- behind these, the first occurrence of each name
abbrev pub first_ones : List Occurrence → List Occurrence → List Occurrence
first_ones before [] = before
first_ones before (one ∷ rest) = first_ones (with_first before one) rest

-- the free variables of a policy, each by its first occurrence, in the order of the text
abbrev pub free_variables : Tree → List Occurrence
free_variables tree = first_ones [] (free_in tree [])

-- ---- quantified variables, and `_`

-- whether the argument is `_`
abbrev pub hidden_count : WrittenArgument → ℕ
hidden_count (Given term) = 0
hidden_count (Hidden token) = 1

-- how many of the arguments are `_`
abbrev pub blank_count : WrittenArguments → ℕ
blank_count (LastArgument a) = hidden_count a
blank_count (MoreArguments a comma rest) = hidden_count a + blank_count rest

-- how many variables there are
abbrev pub variable_count : WrittenVariables → ℕ
variable_count (LastVariable v) = 1
variable_count (MoreVariables v comma rest) = suc (variable_count rest)
