-- The new numbers of variables as the code keeps them while it goes down a formula.
use Rattle.monitorable.specs.declared.renaming.Renaming.{Renaming}
use Rattle.monitorable.specs.declared.renaming.Renaming.TheVariants.{Same, To'}
use Rattle.monitorable.specs.Renaming.{Numbers, with_number}

-- the new number of each variable
abbrev pub numbers_of : Renaming → Numbers
numbers_of Same y = y
numbers_of (To' x n p outer) y = with_number (numbers_of outer) x n y
