-- How a loop of main's ends.
use Rattle.std.specs.Prelude.{Bool, true, false, Option, Some, None, Result, Ok, Err}
use Rattle.lone_worker.specs.declared.stop.Stop.{Stop}

-- how a loop ended whose body answered whether it is over, if it is
abbrev pub end_of : {T : Type 0} → Result Bool Stop → T → Option (Result T Stop)
end_of (Ok true) answer = Some (Ok answer)
end_of (Ok false) answer = None
end_of (Err stop) answer = Some (Err stop)
