-- What the turns of a wait come to.
use Rattle.std.proofs.Common.{◌≡◌, ℕ, List, [], ◌∷◌, ◌++◌, Option, Some, None, refl, sym, ap, subst, ◌∙◌, append_assoc, inl, inr}
use Rattle.std.specs.List.{AllByRecursion}
use Rattle.std.specs.Duration.{as_nanos}
use Rattle.std.specs.Time.{FitsClock, instant_nanos}
use Rattle.std.specs.Prelude.{IsSome, IfSome, ◌↔◌, ◌*◌, ◌+◌, ◌⊎◌}
use Rattle.std.proofs.lemmas.Bool.{false≢true}
use Rattle.std.specs.declared.time.Instant.{Instant}
use Rattle.acts.specs.declared.id.Id.{Id}
use Rattle.acts.specs.declared.row.Row.{Row}
use Rattle.acts.specs.declared.act.Timer.{Timer}
use Rattle.acts.specs.declared.act.Timer.TheVariants as timer
use Rattle.acts.specs.Deed.{Reply}
use Rattle.acts.specs.Deed as said
use Rattle.live.specs.Arriving.{Hears, IsDue, IsLate, IsQuiet, Rests, Sees, Waits, handed}
use Rattle.live.specs.Calls.{Call, Made, Now, Pause}
use Rattle.live.specs.Early.{IfAnswered}
use Rattle.live.specs.Waiting.{Asks, IsNow, Leaves, MayPause, Paused, Pauses, RunsOut, ShowsUp, Starts}
use Rattle.live.specs.declared.waiting.Left.{Left}
use Rattle.live.specs.declared.waiting.Left.TheVariants as time
use Rattle.live.proofs.Chains.{made_one, made_then}
use Rattle.live.proofs.Hearing.{ends_then, idle_trades, trades_then}
use Rattle.live.proofs.Exchanging.{all_then}
use Rattle.live.proofs.Silence.{now_idle, now_pauses, now_quiet, pauses_then, read_pauses, silent_still}

-- to ask how much time is left is to ask the clock
pub leaves_asks : {S : Type 0} (step : S → Call → S → Type 0) (a b : S) (which : Timer)
    (deadline : Option Instant) (left : Left) → Leaves step a which deadline left b → Asks step a b
leaves_asks step a b which deadline time.Nothing (d, nanos, due, made, late) =
    (Now nanos ∷ [], (b, made, refl), ((nanos, refl), tt))
leaves_asks step a b which deadline (time.For more) (d, nanos, due, made, until) =
    (Now nanos ∷ [], (b, made, refl), ((nanos, refl), tt))
leaves_asks step a b which deadline time.Endless (same, never) = ([], same, tt)

-- a pause until the timer runs out
pub paused_for : {S : Type 0} (step : S → Call → S → Type 0) (a b c : S) (which : Timer)
    (deadline : Option Instant) (more : _) → Leaves step a which deadline (time.For more) b →
    step b (Pause (Some (as_nanos more))) c → Paused step which a deadline c
paused_for step a b c which deadline more (d, nanos, due, made, until) paused = (
  Now nanos ∷ Pause (Some (as_nanos more)) ∷ [],
  (b, made, (c, paused, refl)),
  (λ id. (refl, refl), (λ id. (refl, refl), tt)),
  λ shown. (tt, ((d, due, until), tt)),
)

-- a pause may be without an end where no timer runs
may_rest : (which : Timer) (deadline : Option Instant) (shown : Option ℕ) →
    ((which ≡ timer.Endless) ⊎ (deadline ≡ None)) → MayPause which deadline shown (Pause None)
may_rest which deadline None never = never
may_rest which deadline (Some nanos) never = never

-- a pause without an end
pub paused_endless : {S : Type 0} (step : S → Call → S → Type 0) (a b c : S) (which : Timer)
    (deadline : Option Instant) → Leaves step a which deadline time.Endless b →
    step b (Pause None) c → Paused step which a deadline c
paused_endless step a b c which deadline (same, never) paused = (
  Pause None ∷ [],
  (c, subst (λ s. step s (Pause None) c) (sym same) paused, refl),
  (λ id. (refl, refl), tt),
  λ shown. (may_rest which deadline shown never, tt),
)

-- the first of some calls is that of all of them
starts_then : (timer : Timer) (earlier deadline : Option Instant) (first more : List Call) →
    Starts timer earlier deadline first → Starts timer earlier deadline (first ++ more)
starts_then (timer.Start seconds) earlier deadline first more (nanos, rest, is, out) =
    (nanos, rest ++ more, ap (λ calls. calls ++ more) is, out)
starts_then timer.Running earlier deadline first more same = same
starts_then timer.Endless earlier deadline first more same = same

-- readings of the clock by which the timer starts
abbrev pub Begins : {S : Type 0} → (S → Call → S → Type 0) → S → Timer →
    (earlier deadline : Option Instant) → S → Type 0
Begins step before timer earlier deadline after =
    (calls : List Call) × Made step before calls after × AllByRecursion IsNow calls
    × Starts timer earlier deadline calls

-- more readings after it has started
pub begins_then : {S : Type 0} (step : S → Call → S → Type 0) (a b c : S) (timer : Timer)
    (earlier deadline : Option Instant) → Begins step a timer earlier deadline b →
    Asks step b c → Begins step a timer earlier deadline c
begins_then step a b c timer earlier deadline (first, led, nows, starts) (more, on, still) = (
  first ++ more,
  made_then step a b c first more led on,
  all_then IsNow first more nows still,
  starts_then timer earlier deadline first more starts,
)

-- nothing has come yet
pub hears_none : {S : Type 0} (step : S → Call → S → Type 0) (which : Timer)
    (deadline : Option Instant) (a : S) (kept : Id → List ℕ) →
    Hears step which deadline a kept None kept a
hears_none step which deadline a kept = ([], refl, idle_trades kept [] tt, tt, λ shown. tt)

-- what a look finds is heard, after silence
pub hears_seen : {S : Type 0} (step : S → Call → S → Type 0) (which : Timer)
    (deadline : Option Instant) (a b c : S) (ids : List Id) (rows : List Row)
    (kept mid left : Id → List ℕ) (reply : Option Reply) →
    Hears step which deadline a kept None mid b → Sees step b ids rows mid reply left c →
    Hears step which deadline a kept reply left c
hears_seen step which deadline a b c ids rows kept mid left reply
    (first, led, before, none, may) (more, on, after, ends, reads, silent) = (
      first ++ more,
      made_then step a b c first more led on,
      trades_then kept mid left first more (handed reply) before after,
      ends_then reply first more left ends,
      λ shown. pauses_then which deadline shown first more (may shown)
          (read_pauses which deadline more reads),
    )

-- after a pause nothing more has come
pub hears_paused : {S : Type 0} (step : S → Call → S → Type 0) (which : Timer)
    (deadline now : Option Instant) (a b c : S) (kept left : Id → List ℕ) → now ≡ deadline →
    Hears step which deadline a kept None left b → Paused step which b now c →
    Hears step which deadline a kept None left c
hears_paused step which deadline now a b c kept left same (first, led, before, none, may) paused =
    let (more, on, idle, pause) = subst (λ d. Paused step which b d c) same paused in (
      first ++ more,
      made_then step a b c first more led on,
      trades_then kept left left first more (λ id. []) before (idle_trades left more idle),
      tt,
      λ shown. pauses_then which deadline shown first more (may shown) pause,
    )

-- what holds, holds where there is an answer
pub if_so : (reply : Reply) (P : Type 0) → P → IfAnswered reply P
if_so said.Done P holds = holds
if_so (said.Failed sent) P holds = holds
if_so (said.Started pid) P holds = holds
if_so said.Refused P holds = holds
if_so (said.Exited status) P holds = holds
if_so (said.Arrive id bytes) P holds = holds
if_so (said.Ended id) P holds = holds
if_so said.TimedOut P holds = holds
if_so said.NoMore P holds = tt

-- each of two holds where there is an answer
pub both_so : (reply : Reply) (P Q : Type 0) → IfAnswered reply P → IfAnswered reply Q →
    IfAnswered reply (P × Q)
both_so said.Done P Q one other = (one, other)
both_so (said.Failed sent) P Q one other = (one, other)
both_so (said.Started pid) P Q one other = (one, other)
both_so said.Refused P Q one other = (one, other)
both_so (said.Exited status) P Q one other = (one, other)
both_so (said.Arrive id bytes) P Q one other = (one, other)
both_so (said.Ended id) P Q one other = (one, other)
both_so said.TimedOut P Q one other = (one, other)
both_so said.NoMore P Q one other = tt

-- the timer starts, nothing comes for a while, and then an answer that tells of no time
pub waits_so : {S : Type 0} (step : S → Call → S → Type 0) (a b c d : S) (ids : List Id)
    (rows : List Row) (kept mid left : Id → List ℕ) (timer : Timer)
    (earlier begun deadline : Option Instant) (reply : Reply) →
    Begins step a timer earlier begun b → deadline ≡ begun →
    ((calls : List Call) → IsDue deadline reply calls × IsLate timer ids rows reply calls left) →
    Hears step timer begun b kept None mid c → Sees step c ids rows mid (Some reply) left d →
    IfAnswered reply (Waits step a ids rows kept timer earlier deadline reply left d)
waits_so step a b c d ids rows kept mid left timer earlier begun deadline reply
    (first, led, nows, starts) same told silent seen =
    let (more, on, trades, ends, may) =
    hears_seen step timer begun b c d ids rows kept mid left (Some reply) silent seen in
    let all = first ++ more in
    if_so reply (Waits step a ids rows kept timer earlier deadline reply left d) (
      all,
      made_then step a b d first more led on,
      trades_then kept kept left first more (handed (Some reply))
          (idle_trades kept first (now_idle first nows)) trades,
      ends_then (Some reply) first more left ends,
      (told all).0,
      subst (λ at. Starts timer earlier at all) (sym same)
          (starts_then timer earlier begun first more starts),
      subst (λ at. Pauses timer at None all) (sym same)
          (pauses_then timer begun None first more (now_pauses timer begun first nows None) may),
      (told all).1,
    )

-- an earlier timer has run out already
pub waits_over : {S : Type 0} (step : S → Call → S → Type 0) (a b c : S) (ids : List Id)
    (rows : List Row) (kept : Id → List ℕ) (which : Timer)
    (earlier deadline : Option Instant) → which ≡ timer.Running →
    Begins step a which earlier deadline b → ShowsUp step b deadline c →
    Waits step a ids rows kept which earlier deadline said.TimedOut kept c
waits_over step a b c ids rows kept which earlier deadline runs (first, led, nows, starts)
    (due, nanos, is, shows, late) =
    let all = first ++ Now nanos ∷ [] in
    let every = all_then IsNow first (Now nanos ∷ []) nows ((nanos, refl), tt) in (
      all,
      made_one step a b c first (Now nanos) led shows,
      idle_trades kept all (now_idle all every),
      tt,
      (due, first, nanos, is, refl, late),
      starts_then which earlier deadline first (Now nanos ∷ []) starts,
      now_pauses which deadline all every None,
      inl (runs, every),
    )

-- the timer starts, nothing comes, also at the last look, and the time is up
pub waits_up : {S : Type 0} (step : S → Call → S → Type 0) (a b c d e : S) (ids : List Id)
    (rows : List Row) (kept mid left : Id → List ℕ) (timer : Timer)
    (earlier begun deadline : Option Instant) → Begins step a timer earlier begun b →
    deadline ≡ begun → Hears step timer begun b kept None mid c →
    Sees step c ids rows mid None left d → ShowsUp step d deadline e →
    Waits step a ids rows kept timer earlier deadline said.TimedOut left e
waits_up step a b c d e ids rows kept mid left timer earlier begun deadline
    (first, led, nows, starts) same (more, on, heard, none, may)
    (last, seen, trades, ends, reads, (quiet, silent)) (due, nanos, is, shows, late) =
    let now = Now nanos ∷ [] in
    let only_now : AllByRecursion IsNow now = ((nanos, refl), tt) in
    let end = last ++ now in
    let rest = more ++ end in
    let ended = made_then step c d e last now seen (e, shows, refl) in
    let idle = idle_trades left now (now_idle now only_now) in
    let stay = silent_still ids last now left left rows (λ id. refl) silent in
    let ends_quiet = all_then IsQuiet last now quiet (now_quiet now only_now) in (
      first ++ rest,
      made_then step a b e first rest led (made_then step b c e more end on ended),
      trades_then kept kept left first rest (λ id. [])
          (idle_trades kept first (now_idle first nows))
          (trades_then kept mid left more end (λ id. []) heard
          (trades_then mid left left last now (λ id. []) trades idle)),
      tt,
      (
        due,
        first ++ (more ++ last),
        nanos,
        is,
        ap (λ calls. first ++ calls) (sym (append_assoc more last now))
            ∙ sym (append_assoc first (more ++ last) now),
        late,
      ),
      subst (λ at. Starts timer earlier at (first ++ rest)) (sym same)
          (starts_then timer earlier begun first rest starts),
      subst (λ at. Pauses timer at None (first ++ rest)) (sym same)
          (pauses_then timer begun None first rest (now_pauses timer begun first nows None)
          (λ at. pauses_then timer begun at more end (may at)
          (λ later. pauses_then timer begun later last now
          (read_pauses timer begun last reads later) (now_pauses timer begun now only_now)))),
      inr (first ++ more, end, sym (append_assoc first more end), (ends_quiet, stay)),
    )

-- silence, and then a rest that ends the wait
pub waits_rest : {S : Type 0} (step : S → Call → S → Type 0) (a b c d e : S) (now ids : List Id)
    (rows : List Row) (kept mid left : Id → List ℕ) (timer : Timer)
    (earlier begun deadline : Option Instant) (reply : Reply) →
    now ≡ ids →
    Begins step a timer earlier begun b → deadline ≡ begun →
    Hears step timer begun b kept None mid c → Sees step c now rows mid None left d →
    Rests step timer d deadline (Some reply) e →
    IfAnswered reply (Waits step a ids rows kept timer earlier deadline reply left e)
waits_rest step a b c d e now ids rows kept mid left timer earlier begun deadline said.TimedOut
    are begins same heard seen rests =
    waits_up step a b c d e ids rows kept mid left timer earlier begun deadline begins same heard
    (subst (λ open_ids. Sees step c open_ids rows mid None left d) are seen) rests
waits_rest step a b c d e now ids rows kept mid left timer earlier begun deadline said.NoMore
    are begins same heard seen rests = tt
waits_rest step a b c d e now ids rows kept mid left timer earlier begun deadline said.Done
    are begins same heard seen rests = absurd rests
waits_rest step a b c d e now ids rows kept mid left timer earlier begun deadline (said.Failed n)
    are begins same heard seen rests = absurd rests
waits_rest step a b c d e now ids rows kept mid left timer earlier begun deadline (said.Started n)
    are begins same heard seen rests = absurd rests
waits_rest step a b c d e now ids rows kept mid left timer earlier begun deadline said.Refused
    are begins same heard seen rests = absurd rests
waits_rest step a b c d e now ids rows kept mid left timer earlier begun deadline (said.Exited s)
    are begins same heard seen rests = absurd rests
waits_rest step a b c d e now ids rows kept mid left timer earlier begun deadline (said.Arrive i s)
    are begins same heard seen rests = absurd rests
waits_rest step a b c d e now ids rows kept mid left timer earlier begun deadline (said.Ended i)
    are begins same heard seen rests = absurd rests

-- when a timer runs out that starts now
pub runs_out_so : (nanos seconds more : ℕ) (deadline : Option Instant) →
    more ≡ seconds * 1000000000 → (IsSome deadline ↔ FitsClock (nanos + more)) →
    IfSome deadline (λ d. instant_nanos d ≡ nanos + more) → RunsOut nanos seconds deadline
runs_out_so nanos seconds more (Some d) is fits sum = sum ∙ ap (λ n. nanos + n) is
runs_out_so nanos seconds more None is fits sum = λ within.
    false≢true (fits.1 (subst (λ n. FitsClock (nanos + n)) (sym is) within))
