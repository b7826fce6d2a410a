-- The steps of a system that answers by a list.
use Rattle.std.specs.Prelude.{◌≡◌, ◌+◌, ◌++◌, Bool, false, List, [], ◌∷◌, option_map}
use Rattle.std.specs.Duration.{as_nanos}
use Rattle.std.specs.Time.{instant_nanos}
use Rattle.std.specs.declared.time.Instant.{Instant}
use Rattle.live.specs.Calls.{Call, Failed, Gave}
use Rattle.live.specs.Calls as call
use Rattle.live_tests.specs.declared.call.Listed.{Listed}
use Rattle.live_tests.specs.declared.call.Listed.TheVariants as listed

-- the call that is listed, and its answer; times are counted from the start (this project's own)
abbrev pub call_of : Instant → Listed → Call
call_of start (listed.Command name) = call.Command name.now
call_of start (listed.Arg word) = call.Arg word.now
call_of start (listed.Pipes id) = call.Pipes id
call_of start (listed.Start id pid) = call.Start id pid
call_of start (listed.Wait id code) = call.Wait id code
call_of start (listed.Connect id host port) = call.Connect id host.now port
call_of start (listed.OpenLog name mode) = call.OpenLog name.now mode
call_of start (listed.Read id bytes) = call.Read id (Gave bytes.now)
call_of start (listed.Unread id kind) = call.Read id (Failed kind)
call_of start (listed.Write id bytes) = call.Write id bytes.now
call_of start (listed.Unwritten id kind) = call.Write id []
call_of start (listed.Now time) = call.Now (instant_nanos start + as_nanos time)
call_of start (listed.Pause time) = call.Pause (option_map as_nanos time)
call_of start (listed.Sleep seconds) = call.Sleep seconds
call_of start (listed.Watch id) = call.Poll id
call_of start (listed.Await id) = call.Poll id
call_of start (listed.Peek id found) = call.Poll id
call_of start (listed.Soon id is) = call.Poll id
call_of start (listed.Refused kind) = call.Refused kind

-- unless it has strayed from the list, the system took exactly this call off its end (this
-- project's own)
abbrev pub Follows : (start : Instant) → (left : List Listed) → Call → (strayed : Bool) →
    (after : List Listed) → Type 0
Follows start left call strayed after =
    strayed ≡ false →
    (next : Listed) × (left ≡ after ++ next ∷ []) × (call ≡ call_of start next)
