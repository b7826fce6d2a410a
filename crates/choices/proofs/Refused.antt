-- What holds where a call was refused, and where it was not.
use Rattle.std.proofs.Common.{Result, Ok, Err, OnOk, OnErr}

-- what holds in any case holds where a call was refused
pub on_err : {X E : Type 0} {P : Type 0} → (r : Result X E) → P → OnErr r P
on_err (Ok x) holds = tt
on_err (Err e) holds = holds

-- what follows from what holds where a call was not refused holds there too
pub ok_from : {X E : Type 0} {P Q : Type 0} → (r : Result X E) → (P → Q) → OnOk r P → OnOk r Q
ok_from (Ok x) f holds = f holds
ok_from (Err e) f holds = tt

pub err_from : {X E : Type 0} {P Q : Type 0} → (r : Result X E) → (P → Q) → OnErr r P → OnErr r Q
err_from (Ok x) f holds = tt
err_from (Err e) f holds = f holds
