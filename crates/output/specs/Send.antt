-- What send does.
use Rattle.std.specs.Prelude.{ℕ, List, [], ◌∷◌, codes, Option, Result, Ok}
use Rattle.state.specs.Prelude.{Id, Deed, Reply, Flaw, bind, Course, Status}
use Rattle.acts.specs.Deed as said
use Rattle.acts.specs.Flaw as flaw
use Rattle.kinds.specs.Exchange.{Exchange, Performs, gives, fails, course}
use Rattle.kinds.specs.Ids.{chosen_id}
use Rattle.kinds.specs.Usage.{after_pair, text_in}
use Rattle.output.specs.declared.send.Waits.{Waits}
use Rattle.output.specs.declared.send.Waits.TheVariants as waits

-- what follows the answer to a send (expect(1), send)
abbrev pub sent : Id → Reply → Exchange 3
sent i (said.Failed n) = fails (flaw.SendFailed i n)
sent i _ = gives []

-- a text is sent to an id; where there are no bytes, nothing is (this project's own rule)
abbrev pub sends : List ℕ → Id → Exchange 4
sends [] i = gives []
sends (b ∷ bs) i = Performs (said.Send i (b ∷ bs)) tt (λ s reply. sent i reply)

-- the text after the flag is sent to the id of a name, or else to the id in force (expect(1),
-- send)
abbrev pub by_name : Option (List ℕ) × List (List ℕ) → Status → Result (Exchange 4) Flaw
by_name (name, words) s =
    bind (text_in (codes "-i" ∷ codes "--" ∷ []) (codes "send") words) (λ text.
    bind (chosen_id name s) (λ i. Ok (sends text i)))

-- send ?-i id? ?--? t (expect(1), send)
abbrev pub send : List (List ℕ) → Status → Result (Exchange 4) Flaw
send args s = by_name (after_pair (codes "-i") args) s

-- what follows the answer to the act of send (expect(1), send)
abbrev pub follows : Waits → Reply → Exchange 3
follows (waits.Sent id) = sent id

-- the same, as a part of a run
abbrev pub next_of : Waits → Deed → Status → Reply → Course
next_of waits deed s reply = course (follows waits reply) s
