-- Looks that found nothing, and calls that only read or ask the clock.
use Rattle.std.proofs.Common.{◌≡◌, ◌==◌, ◌||◌, ℕ, true, false, Bool, List, [], ◌∷◌, ◌++◌, Option, Some, None, map, refl, sym, ap, subst, ◌∙◌, append-nil, if◌then◌else◌}
use Rattle.std.proofs.lemmas.Bool.{false≢true}
use Rattle.std.proofs.lemmas.List.Folds.{list_any-append}
use Rattle.std.specs.List.{AllByRecursion}
use Rattle.std.specs.declared.time.Instant.{Instant}
use Rattle.acts.specs.declared.id.Id.{Id}
use Rattle.acts.specs.declared.row.Row.{Row}
use Rattle.acts.specs.declared.act.Timer.{Timer}
use Rattle.acts.specs.Deed.{Reply}
use Rattle.live.specs.Arriving.{IsQuiet, IsRead, IsSilence, IsSilent, Sees, handed}
use Rattle.live.specs.Calls.{Call, Got, Gave, Failed, Read, bytes_of, heard, heard_by, is_read, reads_from, sent_by}
use Rattle.live.specs.Early.{IsIdle}
use Rattle.live.specs.Kept.{Trades, is_open}
use Rattle.live.specs.Look.{IsNothing}
use Rattle.live.specs.Waiting.{IsNow, MayPause, Pauses, shown_after}
use Rattle.live.proofs.Chains.{made_then}
use Rattle.live.proofs.Exchanging.{all_then, is_same}
use Rattle.live.proofs.Hearing.{ends_then, trades_then}

-- what holds of each of two joined lists holds of each of the first, and of the second
pub all_parts : {A : Type 0} (P : A → Type 0) (xs ys : List A) → AllByRecursion P (xs ++ ys) →
    AllByRecursion P xs × AllByRecursion P ys
all_parts P [] ys all = (tt, all)
all_parts P (x ∷ xs) ys (one, all) =
    let (first, more) = all_parts P xs ys all in ((one, first), more)

pub either_first : (a b : Bool) → a ≡ true → (a || b) ≡ true
either_first a b is = ap (λ one. one || b) is

pub either_second : (a b : Bool) → b ≡ true → (a || b) ≡ true
either_second true b is = refl
either_second false b is = is

-- what the first of some calls read from, all of them did
read_first : (id : Id) (first more : List Call) → is_read id first ≡ true →
    is_read id (first ++ more) ≡ true
read_first id first more is =
    list_any-append (reads_from id) first more ∙ either_first _ _ is

read_later : (id : Id) (first more : List Call) → is_read id more ≡ true →
    is_read id (first ++ more) ≡ true
read_later id first more is =
    list_any-append (reads_from id) first more
    ∙ either_second (is_read id first) (is_read id more) is

-- reads of a link read from it, and do nothing else
pub reads_all : (id : Id) (gots : List Got) → AllByRecursion IsRead (map (Read id) gots)
reads_all id [] = tt
reads_all id (got ∷ gots) = ((id, got, refl), reads_all id gots)

pub reads_some : (id : Id) (gots : List Got) → (gots ≡ [] → ⊥) →
    is_read id (map (Read id) gots) ≡ true
reads_some id [] some = absurd (some refl)
reads_some id (got ∷ gots) some = either_first _ _ (is_same id.0)

pub reads_quiet : (id : Id) (gots : List Got) → AllByRecursion IsNothing gots →
    AllByRecursion IsQuiet (map (Read id) gots)
reads_quiet id [] nothing = tt
reads_quiet id (got ∷ gots) (none, nothing) = (none, reads_quiet id gots nothing)

-- a read that found nothing gave no bytes
nothing_if : (here : Bool) (got : Got) → IsNothing got →
    (if here then bytes_of got else []) ≡ []
nothing_if here (Gave bytes) nothing = absurd nothing
nothing_if true (Failed kind) nothing = refl
nothing_if false (Failed kind) nothing = refl

quiet_one : (id from : Id) (got : Got) (call : Call) → call ≡ Read from got → IsQuiet call →
    heard_by id call ≡ []
quiet_one id from got call is quiet =
    ap (heard_by id) is ∙ nothing_if (from.0 == id.0) got (subst IsQuiet is quiet)

quiet_heard : (id : Id) (calls : List Call) → AllByRecursion IsRead calls →
    AllByRecursion IsQuiet calls → heard id calls ≡ []
quiet_heard id [] reads quiet = refl
quiet_heard id (call ∷ calls) ((from, got, is), reads) (one, quiet) =
    ap (λ bytes. bytes ++ heard id calls) (quiet_one id from got call is one)
    ∙ quiet_heard id calls reads quiet

-- so what is kept stays
still_kept : (kept left : Id → List ℕ) (calls : List Call) →
    Trades kept calls (λ id. []) (λ id. []) left → AllByRecursion IsRead calls →
    AllByRecursion IsQuiet calls → (id : Id) → left id ≡ kept id
still_kept kept left calls trades reads quiet id =
    sym (trades id).0 ∙ ap (λ bytes. kept id ++ bytes) (quiet_heard id calls reads quiet)
    ∙ append-nil (kept id)

-- rows that were silent are so after more calls that gave nothing
pub silent_still : (ids : List Id) (first more : List Call) (mid left : Id → List ℕ)
    (rows : List Row) → ((id : Id) → left id ≡ mid id) →
    AllByRecursion (IsSilent ids first mid) rows →
    AllByRecursion (IsSilent ids (first ++ more) left) rows
silent_still ids first more mid left [] same silent = tt
silent_still ids first more mid left (row ∷ rows) same (one, silent) = (
  λ among wants. let (none, read) = one among wants in
      (same row.id ∙ none, read_first row.id first more read),
  silent_still ids first more mid left rows same silent,
)

silent_later : (ids : List Id) (first more : List Call) (left : Id → List ℕ) (rows : List Row) →
    AllByRecursion (IsSilent ids more left) rows →
    AllByRecursion (IsSilent ids (first ++ more) left) rows
silent_later ids first more left [] silent = tt
silent_later ids first more left (row ∷ rows) (one, silent) = (
  λ among wants. let (none, read) = one among wants in (none, read_later row.id first more read),
  silent_later ids first more left rows silent,
)

-- two looks that found nothing, at some rows and at others
silence_then : (ids : List Id) (rows others : List Row) (first more : List Call)
    (mid left : Id → List ℕ) (reply : Option Reply) → AllByRecursion IsRead more →
    IsSilence ids rows None first mid → Trades mid more (λ id. []) (handed reply) left →
    IsSilence ids others reply more left → IsSilence ids (rows ++ others) reply (first ++ more) left
silence_then ids rows others first more mid left (Some reply) reads before trades after = tt
silence_then ids rows others first more mid left None reads (quiet, silent) trades (still, later) = (
  all_then IsQuiet first more quiet still,
  all_then (IsSilent ids (first ++ more) left) rows others
      (silent_still ids first more mid left rows (still_kept mid left more trades reads still) silent)
      (silent_later ids first more left others later),
)

-- silence, and then this answer
pub sees_then : {S : Type 0} (step : S → Call → S → Type 0) (a b c : S) (ids now : List Id)
    (rows others : List Row) (kept mid left : Id → List ℕ) (reply : Option Reply) →
    Sees step a ids rows kept None mid b → now ≡ ids →
    Sees step b now others mid reply left c → Sees step a ids (rows ++ others) kept reply left c
sees_then step a b c ids now rows others kept mid left reply
    (first, led, before, none, reads, silent) same seen =
    let (more, on, after, ends, other_reads, later) =
    subst (λ open_ids. Sees step b open_ids others mid reply left c) same seen in (
      first ++ more,
      made_then step a b c first more led on,
      trades_then kept mid left first more (handed reply) before after,
      ends_then reply first more left ends,
      all_then IsRead first more reads other_reads,
      silence_then ids rows others first more mid left reply other_reads silent after later,
    )

-- an answer is one, whichever rows are looked at
pub sees_any : {S : Type 0} (step : S → Call → S → Type 0) (a b : S) (ids : List Id)
    (rows others : List Row) (kept left : Id → List ℕ) (reply : Reply) →
    Sees step a ids rows kept (Some reply) left b → Sees step a ids others kept (Some reply) left b
sees_any step a b ids rows others kept left reply (calls, made, trades, ends, reads, silent) =
    (calls, made, trades, ends, reads, tt)

-- the rows may be looked at in another order
pub sees_turned : {S : Type 0} (step : S → Call → S → Type 0) (a b : S) (ids : List Id)
    (rows front back : List Row) (kept left : Id → List ℕ) (reply : Option Reply) →
    rows ≡ front ++ back → Sees step a ids (back ++ front) kept reply left b →
    Sees step a ids rows kept reply left b
sees_turned step a b ids rows front back kept left (Some reply) is sees =
    sees_any step a b ids (back ++ front) rows kept left reply sees
sees_turned step a b ids rows front back kept left None is
    (calls, made, trades, ends, reads, (quiet, silent)) =
    let (of_back, of_front) = all_parts (IsSilent ids calls left) back front silent in (
      calls,
      made,
      trades,
      ends,
      reads,
      (
        quiet,
        subst (AllByRecursion (IsSilent ids calls left)) (sym is)
            (all_then (IsSilent ids calls left) front back of_front of_back),
      ),
    )

-- no rows
pub sees_none : {S : Type 0} (step : S → Call → S → Type 0) (a : S) (ids : List Id)
    (kept : Id → List ℕ) → Sees step a ids [] kept None kept a
sees_none step a ids kept =
    ([], refl, λ id. (append-nil (kept id), refl), tt, tt, (tt, tt))

-- a row whose id is not open
pub sees_closed : {S : Type 0} (step : S → Call → S → Type 0) (a : S) (ids : List Id) (row : Row)
    (kept : Id → List ℕ) → is_open ids row.id ≡ false →
    Sees step a ids (row ∷ []) kept None kept a
sees_closed step a ids row kept closed = (
  [],
  refl,
  λ id. (append-nil (kept id), refl),
  tt,
  tt,
  (tt, (λ among. absurd (false≢true (sym closed ∙ among)), tt)),
)

-- a reading of the clock is idle
pub now_idle : (calls : List Call) → AllByRecursion IsNow calls → AllByRecursion IsIdle calls
now_idle [] nows = tt
now_idle (call ∷ calls) ((nanos, is), nows) = (
  λ id. (ap (heard_by id) is, ap (sent_by id) is),
  now_idle calls nows,
)

-- and gives nothing
pub now_quiet : (calls : List Call) → AllByRecursion IsNow calls → AllByRecursion IsQuiet calls
now_quiet [] nows = tt
now_quiet (call ∷ calls) ((nanos, is), nows) =
    (subst IsQuiet (sym is) tt, now_quiet calls nows)

-- pauses that are allowed, one after the other
pub pauses_then : (which : Timer) (deadline : Option Instant) (shown : Option ℕ)
    (first more : List Call) → Pauses which deadline shown first →
    ((at : Option ℕ) → Pauses which deadline at more) →
    Pauses which deadline shown (first ++ more)
pauses_then which deadline shown [] more before after = after shown
pauses_then which deadline shown (call ∷ first) more (may, before) after =
    (may, pauses_then which deadline (shown_after shown call) first more before after)

-- reads are no pauses
pub read_pauses : (which : Timer) (deadline : Option Instant) (calls : List Call) →
    AllByRecursion IsRead calls → (shown : Option ℕ) → Pauses which deadline shown calls
read_pauses which deadline [] reads shown = tt
read_pauses which deadline (call ∷ calls) ((id, got, is), reads) shown = (
  subst (MayPause which deadline shown) (sym is) tt,
  read_pauses which deadline calls reads (shown_after shown call),
)

-- nor are readings of the clock
pub now_pauses : (which : Timer) (deadline : Option Instant) (calls : List Call) →
    AllByRecursion IsNow calls → (shown : Option ℕ) → Pauses which deadline shown calls
now_pauses which deadline [] nows shown = tt
now_pauses which deadline (call ∷ calls) ((nanos, is), nows) shown = (
  subst (MayPause which deadline shown) (sym is) tt,
  now_pauses which deadline calls nows (shown_after shown call),
)
