-- What holds where memory was refused.
use Rattle.std.proofs.Common.{Result, Ok, Err, OnErr}

-- what holds anyway holds in that case, too
pub on_err : {X E : Type 0} {P : Type 0} → (r : Result X E) → P → OnErr r P
on_err (Ok x) holds = tt
on_err (Err e) holds = holds
