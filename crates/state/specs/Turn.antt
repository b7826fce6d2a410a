-- What follows the body of a loop.
use Rattle.std.specs.Prelude.{[]}
use Rattle.state.specs.Dialogue.{Course, gives, leaves, stops}
use Rattle.state.specs.Outcome.{Outcome, Gives, Leaves, Stops, Break, Continue}
use Rattle.state.specs.Status.{Status}

-- after a value, and after continue, the loop goes on with its next turn; break ends it, and its
-- value is empty; all else passes (continue(n); break(n); for(n))
abbrev pub on_turn : (Status → Course) → Status → Outcome → Course
on_turn next s (Gives value) = next s
on_turn next s (Leaves Continue value) = next s
on_turn next s (Leaves Break value) = gives [] s
on_turn next s (Leaves code value) = leaves code value s
on_turn next s (Stops stop) = stops stop s
