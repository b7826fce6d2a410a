-- The channels that texts are written to.
use Rattle.std.specs.Prelude.{ℕ, suc, List, [], ◌∷◌, if◌then◌else◌}
use Rattle.state.specs.Prelude.{Deed, Reply, Course, Status}
use Rattle.acts.specs.Deed as said
use Rattle.kinds.specs.Exchange.{Exchange, Performs, gives, written, course}
use Rattle.state.specs.Rows.{Holds}
use Rattle.output.specs.declared.channel.Channel.{Channel}
use Rattle.output.specs.declared.channel.Channel.TheVariants as channel
use Rattle.output.specs.declared.channel.Waits.{Waits}
use Rattle.output.specs.declared.channel.Waits.TheVariants as waits

-- the write of bytes to a channel (puts(n); expect(1), send_log)
abbrev pub write_to : Channel → List ℕ → Deed
write_to channel.Output bytes = said.Out bytes
write_to channel.Errors bytes = said.Err bytes
write_to channel.Log bytes = said.Log bytes

-- a write is no wait, so that no rows have to hold (this project's own rule)
abbrev pub holds : (to : Channel) (bytes : List ℕ) → Holds (write_to to bytes)
holds channel.Output bytes = tt
holds channel.Errors bytes = tt
holds channel.Log bytes = tt

-- bytes are written to a channel; where there are none, nothing is (this project's own rule)
abbrev pub put : {n : ℕ} → Channel → List ℕ → Exchange (suc n)
put to [] = gives []
put to (b ∷ bs) =
    Performs (write_to to (b ∷ bs)) (holds to (b ∷ bs)) (λ s reply. written (gives []) reply)

-- bytes are written to the log where one is open, whatever log_user is (expect(1), send_log)
abbrev pub note : {n : ℕ} → List ℕ → Status → Exchange (suc n)
note bytes s = if s.log.logging then put channel.Log bytes else gives []

-- bytes are written to standard output, and then to the log where one is open (expect(1),
-- send_user)
abbrev pub tell : List ℕ → Exchange 4
tell [] = gives []
tell (b ∷ bs) = Performs (said.Out (b ∷ bs)) tt (λ s reply. written (note (b ∷ bs) s) reply)

-- the bytes that an act writes to standard output (puts(n))
abbrev pub bytes_told : Deed → List ℕ
bytes_told (said.Out bytes) = bytes
bytes_told _ = []

-- what follows the answer to a write: nothing, or the write to the log (puts(n); expect(1),
-- send_user)
abbrev pub follows : Waits → Deed → Status → Reply → Exchange 3
follows waits.Written deed s reply = written (gives []) reply
follows waits.Told deed s reply = written (note (bytes_told deed) s) reply

-- the same, as a part of a run
abbrev pub next_of : Waits → Deed → Status → Reply → Course
next_of waits deed s reply = course (follows waits deed s reply) s
