-- The names of variables as the code keeps them while it goes down a formula.
use Rattle.monitorable.specs.declared.scope.Scope.{Scope}
use Rattle.monitorable.specs.declared.scope.Scope.TheVariants.{Free, Under'}
use Rattle.monitorable.specs.Fragment.{Names, free_names, with_name}

-- the name of each variable in the scope
abbrev pub scope_names : Scope → Names
scope_names (Free vars) = free_names vars.now
scope_names (Under' bound p outer) = with_name (scope_names outer) bound.now
