use Rattle.std.proofs.Common.{◌++◌, ◌∷◌, [], codes, decimal, refl, arith}
use Rattle.records.proofs.written.put_exited.Goals as goal

pub returns-in-Some : goal.returns-in-Some
returns-in-Some g c =
    let line = codes "exited " ++ decimal c.in-Some.status in
    rw c.in-Some.is (line ++ 10 ∷ [], (line, (omega arith, refl), refl), c.put_number.ensures)

pub returns-in-None : goal.returns-in-None
returns-in-None g c =
    rw c.in-None.is (codes "exited -\n", (codes "exited -", refl, refl), c.put_all.ensures)
