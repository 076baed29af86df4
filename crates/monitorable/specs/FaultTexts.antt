-- How a fault is printed: `TooLarge`, `Unguarded x`.
use Rattle.std.specs.Prelude.{ℕ, cond, List, [], ◌++◌, codes}
use Rattle.std.specs.Str.{is_utf8}
use Rattle.monitorable.specs.declared.fault.FragmentFault.{FragmentFault}
use Rattle.monitorable.specs.declared.fault.FragmentFault.TheVariants.{TooLarge, UnboundedFuture, Unguarded, Uneven}
use Rattle.monitorable.specs.declared.fault.FragmentFault.TheVariants.{LooseLeft, UnusedBound, Memory}

-- the bytes of a fault's text, the variable's name as it stands in the policy
abbrev pub fault_text : FragmentFault → List ℕ
fault_text TooLarge = codes "TooLarge"
fault_text UnboundedFuture = codes "UnboundedFuture"
fault_text (Unguarded x) = codes "Unguarded " ++ x.name
fault_text Uneven = codes "Uneven"
fault_text (LooseLeft x) = codes "LooseLeft " ++ x.name
fault_text (UnusedBound x) = codes "UnusedBound " ++ x.name
fault_text Memory = codes "Memory"

-- a name as `Display` writes it, which writes UTF-8 alone
abbrev pub shown_name : List ℕ → List ℕ
shown_name name = cond (is_utf8 name) name []

-- a fault as `Display` writes it
abbrev pub shown_fault : FragmentFault → List ℕ
shown_fault (Unguarded x) = codes "Unguarded " ++ shown_name x.name
shown_fault (LooseLeft x) = codes "LooseLeft " ++ shown_name x.name
shown_fault (UnusedBound x) = codes "UnusedBound " ++ shown_name x.name
shown_fault TooLarge = fault_text TooLarge
shown_fault UnboundedFuture = fault_text UnboundedFuture
shown_fault Uneven = fault_text Uneven
shown_fault Memory = fault_text Memory
