-- Silent steps, one after the other.
use Rattle.std.proofs.Common.{◌≡◌, subst}
use Rattle.state.specs.Prelude.{Dialogue}
use Rattle.steps.specs.Goes.{Goes, here, calls, reads}

module _ {X : Type 0} where
  -- equal dialogues continue alike
  pub same_goes : {p q : Dialogue X} → p ≡ q → Goes p q
  same_goes {p = p} is = subst (λ r. Goes p r) is here

  -- some steps, and then some more
  pub then_goes : {p q r : Dialogue X} → Goes p q → Goes q r → Goes p r
  then_goes here more = more
  then_goes (calls a) more = calls (then_goes a more)
  then_goes (reads tree is a) more = reads tree is (then_goes a more)
