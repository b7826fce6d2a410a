-- Timers of waits.
use Rattle.std.specs.Prelude.{◌≡◌, ◌⊎◌, ℕ, ◌+◌, ◌*◌, ◌≤◌, ◌++◌, List, [], ◌∷◌, Option, Some, None, MatchOption, ⊤}
use Rattle.std.specs.List.{AllByRecursion}
use Rattle.std.specs.Duration.{as_nanos}
use Rattle.std.specs.Time.{FitsClock, instant_nanos}
use Rattle.std.specs.declared.time.Instant.{Instant}
use Rattle.acts.specs.declared.act.Timer.{Timer}
use Rattle.acts.specs.declared.act.Timer.TheVariants as timer
use Rattle.live.specs.Calls.{Call, Made, Now, Pause}
use Rattle.live.specs.Early.{IsIdle}
use Rattle.live.specs.declared.waiting.Left.{Left}
use Rattle.live.specs.declared.waiting.Left.TheVariants as time

-- a timer that starts at this time runs out so many seconds after it, or never where that lies
-- beyond what the clock can show (expect(1), timeout; clock_gettime(2))
abbrev pub RunsOut : (nanos seconds : ℕ) → Option Instant → Type 0
RunsOut nanos seconds deadline =
    MatchOption deadline (¬ FitsClock (nanos + seconds * 1000000000))
    (λ d. instant_nanos d ≡ nanos + seconds * 1000000000)

-- the first of these calls shows the time at which the timer starts, where it starts, and an
-- earlier timer goes on else (expect(1), expect)
abbrev pub Starts : Timer → (earlier deadline : Option Instant) → List Call → Type 0
Starts (timer.Start seconds) earlier deadline calls =
    (nanos : ℕ) × (rest : List Call) × (calls ≡ Now nanos ∷ rest) × RunsOut nanos seconds deadline
Starts timer.Running earlier deadline calls = deadline ≡ earlier
Starts timer.Endless earlier deadline calls = deadline ≡ earlier

-- the last of these calls shows that the timer has run out (clock_gettime(2))
abbrev pub IsUp : Option Instant → List Call → Type 0
IsUp deadline calls =
    (d : Instant) × (front : List Call) × (nanos : ℕ) × (deadline ≡ Some d)
    × (calls ≡ front ++ Now nanos ∷ []) × (instant_nanos d ≤ nanos)

-- the clock shows that the timer has run out
abbrev pub ShowsUp : {S : Type 0} → (S → Call → S → Type 0) → S → Option Instant → S → Type 0
ShowsUp step before deadline after =
    (d : Instant) × (nanos : ℕ) × (deadline ≡ Some d) × step before (Now nanos) after
    × (instant_nanos d ≤ nanos)

-- a reading of the clock
abbrev pub IsNow : Call → Type 0
IsNow call = (nanos : ℕ) × (call ≡ Now nanos)

-- readings of the clock led the system from before to after
abbrev pub Asks : {S : Type 0} → (S → Call → S → Type 0) → S → S → Type 0
Asks step before after =
    (calls : List Call) × Made step before calls after × AllByRecursion IsNow calls

-- what the clock shows after a call, where nothing but readings came since it was last asked: a
-- pause takes time
abbrev pub shown_after : Option ℕ → Call → Option ℕ
shown_after shown (Now nanos) = Some nanos
shown_after shown (Pause nanos) = None
shown_after shown _ = shown

-- a pause begins where the clock was asked, and lasts until the timer runs out at most; it is
-- without an end only where no timer runs (expect(1), timeout; poll(2))
abbrev pub IsPause : Timer → Option Instant → (shown : Option ℕ) → (nanos : Option ℕ) → Type 0
IsPause which deadline (Some shown) (Some nanos) =
    (d : Instant) × (deadline ≡ Some d) × (shown + nanos ≡ instant_nanos d)
IsPause which deadline None (Some nanos) = ⊥
IsPause which deadline shown None = (which ≡ timer.Endless) ⊎ (deadline ≡ None)

-- a call that is a pause is one of these
abbrev pub MayPause : Timer → Option Instant → (shown : Option ℕ) → Call → Type 0
MayPause which deadline shown (Pause nanos) = IsPause which deadline shown nanos
MayPause which deadline shown _ = ⊤

-- and so each of these calls
abbrev pub Pauses : Timer → Option Instant → (shown : Option ℕ) → List Call → Type 0
Pauses which deadline shown [] = ⊤
Pauses which deadline shown (call ∷ calls) =
    MayPause which deadline shown call × Pauses which deadline (shown_after shown call) calls

-- a pause, after which nothing was read or written
abbrev pub Paused : {S : Type 0} → (S → Call → S → Type 0) → Timer → S → Option Instant → S →
    Type 0
Paused step which before deadline after =
    (calls : List Call) × Made step before calls after × AllByRecursion IsIdle calls
    × ((shown : Option ℕ) → Pauses which deadline shown calls)

-- how much time the clock leaves, where it is asked: what is left until the timer runs out, or
-- nothing where it has run out; a wait without a timer does not ask
abbrev pub Leaves : {S : Type 0} → (S → Call → S → Type 0) → S → Timer → Option Instant → Left →
    S → Type 0
Leaves step before which deadline time.Nothing after = ShowsUp step before deadline after
Leaves step before which deadline (time.For left) after =
    (d : Instant) × (nanos : ℕ) × (deadline ≡ Some d) × step before (Now nanos) after
    × (nanos + as_nanos left ≡ instant_nanos d)
Leaves step before which deadline time.Endless after =
    (before ≡ after) × ((which ≡ timer.Endless) ⊎ (deadline ≡ None))
