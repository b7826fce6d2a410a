-- Courses up to texts that are read, one after the other.
use Rattle.std.proofs.Common.{◌≡◌, subst}
use Rattle.state.specs.Dialogue.{Course}
use Rattle.state.specs.Reaches.{Reaches, here, reads}

pub same_reaches : {p q : Course} → p ≡ q → Reaches p q
same_reaches {p = p} is = subst (λ q. Reaches p q) is here

pub then_reaches : {p q r : Course} → Reaches p q → Reaches q r → Reaches p r
then_reaches here more = more
then_reaches (reads tree is first) more = reads tree is (then_reaches first more)
