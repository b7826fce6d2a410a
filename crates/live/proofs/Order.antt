-- Whose turn it is in a wait.
use Rattle.std.proofs.Common.{◌≡◌, true, ℕ, refl, List, [], ◌∷◌, ◌++◌, Option, Some, None, sym, ap, subst, ◌∙◌, append_assoc, drop, take}
use Rattle.std.specs.declared.time.Instant.{Instant}
use Rattle.acts.specs.declared.id.Id.{Id}
use Rattle.acts.specs.declared.row.Row.{Row}
use Rattle.acts.specs.declared.act.Timer.{Timer}
use Rattle.acts.specs.Deed.{Reply}
use Rattle.acts.specs.Deed as said
use Rattle.live.specs.Arriving.{Hears, Rests, Sees, is_of}
use Rattle.live.specs.Calls.{Call}
use Rattle.live.specs.Early.{IfAnswered}
use Rattle.live.specs.Turns.{IfHeard, IsFirst, KeepsTurns, in_turn, last_of, turn_of}
use Rattle.live.proofs.Chains.{made_then}
use Rattle.live.proofs.Silence.{sees_then}
use Rattle.live.proofs.Turns.{Begins, if_so}

-- some rows were silent, and then this one is answered
pub first_here : {S : Type 0} (step : S → Call → S → Type 0) (a b c : S) (ids now : List Id)
    (rows front rest : List Row) (row : Row) (kept mid left : Id → List ℕ) (reply : Reply) →
    rows ≡ front ++ row ∷ rest → is_of row reply ≡ true → Sees step a ids front kept None mid b →
    now ≡ ids → Sees step b now (row ∷ []) mid (Some reply) left c →
    IsFirst step a ids rows kept reply left c
first_here step a b c ids now rows front rest row kept mid left reply is of_row silent same seen = (
  front,
  row,
  rest,
  is,
  of_row,
  (
    b,
    mid,
    silent,
    subst (λ open_ids. Sees step b open_ids (row ∷ []) mid (Some reply) left c) same seen,
  ),
)

-- whatever rows come behind them
pub first_before : {S : Type 0} (step : S → Call → S → Type 0) (a b : S) (ids : List Id)
    (rows others : List Row) (kept left : Id → List ℕ) (reply : Reply) →
    IsFirst step a ids rows kept reply left b → IsFirst step a ids (rows ++ others) kept reply left b
first_before step a b ids rows others kept left reply (front, row, rest, is, of_row, seen) = (
  front,
  row,
  rest ++ others,
  ap (λ all. all ++ others) is ∙ append_assoc front (row ∷ rest) others,
  of_row,
  seen,
)

-- some rows were silent, and then one of the others is answered first
pub first_behind : {S : Type 0} (step : S → Call → S → Type 0) (a b c : S) (ids now : List Id)
    (rows others : List Row) (kept mid left : Id → List ℕ) (reply : Reply) →
    Sees step a ids rows kept None mid b → now ≡ ids →
    IsFirst step b now others mid reply left c → IsFirst step a ids (rows ++ others) kept reply left c
first_behind step a b c ids now rows others kept mid left reply silent same first =
    let (front, row, rest, is, of_row, (between, held, seen, found)) =
    subst (λ open_ids. IsFirst step b open_ids others mid reply left c) same first in (
      rows ++ front,
      row,
      rest,
      ap (λ all. rows ++ all) is ∙ sym (append_assoc rows front (row ∷ rest)),
      of_row,
      (
        between,
        held,
        sees_then step a b between ids ids rows front kept mid held None silent refl seen,
        found,
      ),
    )

-- the rows where they are cut before the one whose turn is first
cut_so : (rows before behind : List Row) (last : Option Id) (place : ℕ) →
    place ≡ turn_of rows last → before ≡ take place rows → behind ≡ drop place rows →
    behind ++ before ≡ in_turn rows last
cut_so rows before behind last place is front back =
    ap (λ all. all ++ before) back ∙ ap (λ all. drop place rows ++ all) front
    ∙ ap (λ at. drop at rows ++ take at rows) is

-- one of those that come first in turn is answered
pub turns_first : {S : Type 0} (step : S → Call → S → Type 0) (a b : S) (ids : List Id)
    (rows before behind : List Row) (last : Option Id) (place : ℕ) (kept left : Id → List ℕ)
    (reply : Reply) → place ≡ turn_of rows last → before ≡ take place rows →
    behind ≡ drop place rows → IsFirst step a ids behind kept reply left b →
    IsFirst step a ids (in_turn rows last) kept reply left b
turns_first step a b ids rows before behind last place kept left reply is front back first =
    subst (λ all. IsFirst step a ids all kept reply left b)
    (cut_so rows before behind last place is front back)
    (first_before step a b ids behind before kept left reply first)

-- these were silent, and one of the others is answered
pub turns_later : {S : Type 0} (step : S → Call → S → Type 0) (a b c : S) (ids now : List Id)
    (rows before behind : List Row) (last : Option Id) (place : ℕ) (kept mid left : Id → List ℕ)
    (reply : Reply) → place ≡ turn_of rows last → before ≡ take place rows →
    behind ≡ drop place rows → Sees step a ids behind kept None mid b → now ≡ ids →
    IsFirst step b now before mid reply left c →
    IsFirst step a ids (in_turn rows last) kept reply left c
turns_later step a b c ids now rows before behind last place kept mid left reply is front back
    silent same first =
    subst (λ all. IsFirst step a ids all kept reply left c)
    (cut_so rows before behind last place is front back)
    (first_behind step a b c ids now behind before kept mid left reply silent same first)

-- what holds, holds where an id is answered
if_heard : (reply : Reply) (P : Type 0) → P → IfHeard reply P
if_heard said.Done P holds = tt
if_heard (said.Failed sent) P holds = tt
if_heard (said.Started pid) P holds = tt
if_heard said.Refused P holds = tt
if_heard (said.Exited status) P holds = tt
if_heard (said.Arrive id bytes) P holds = holds
if_heard (said.Ended id) P holds = holds
if_heard said.TimedOut P holds = tt
if_heard said.NoMore P holds = tt

-- the timer starts, nothing comes for a while, and then a look answers the first row in turn
pub turns_so : {S : Type 0} (step : S → Call → S → Type 0) (a b c d : S) (ids now : List Id)
    (rows : List Row) (earlier mid_last last : Option Id) (kept mid left : Id → List ℕ)
    (timer : Timer) (before begun : Option Instant) (reply : Reply) →
    Begins step a timer before begun b → Hears step timer begun b kept None mid c → now ≡ ids →
    mid_last ≡ earlier → IsFirst step c now (in_turn rows mid_last) mid reply left d →
    last ≡ last_of (Some reply) mid_last →
    IfAnswered reply (KeepsTurns step a ids rows earlier last reply left d)
turns_so step a b c d ids now rows earlier mid_last last kept mid left timer before begun reply
    (first, led, nows, starts) (more, on, heard, none, may) are same found is =
    if_so reply (KeepsTurns step a ids rows earlier last reply left d) (record {
      first = if_heard reply _ (
        first ++ more,
        c,
        made_then step a b c first more led on,
        (
          mid,
          subst (λ at. IsFirst step c ids (in_turn rows at) mid reply left d) same
              (subst (λ open_ids. IsFirst step c open_ids (in_turn rows mid_last) mid reply left d)
              are found),
        ),
      );
      next = is ∙ ap (λ at. last_of (Some reply) at) same;
    })

-- the time is up, and no id is answered
pub turns_up : {S : Type 0} (step : S → Call → S → Type 0) (a b : S) (ids : List Id)
    (rows : List Row) (earlier last : Option Id) (left : Id → List ℕ) → last ≡ earlier →
    KeepsTurns step a ids rows earlier last said.TimedOut left b
turns_up step a b ids rows earlier last left same = record { first = tt; next = same }

-- a rest that ends the wait answers no id
pub turns_rest : {S : Type 0} (step : S → Call → S → Type 0) (a b c : S) (ids : List Id)
    (rows : List Row) (earlier last : Option Id) (left : Id → List ℕ) (timer : Timer)
    (deadline : Option Instant) (reply : Reply) → Rests step timer b deadline (Some reply) c →
    last ≡ earlier → IfAnswered reply (KeepsTurns step a ids rows earlier last reply left c)
turns_rest step a b c ids rows earlier last left timer deadline said.TimedOut rests same =
    turns_up step a c ids rows earlier last left same
turns_rest step a b c ids rows earlier last left timer deadline said.NoMore rests same = tt
turns_rest step a b c ids rows earlier last left timer deadline said.Done rests same = absurd rests
turns_rest step a b c ids rows earlier last left timer deadline (said.Failed n) rests same =
    absurd rests
turns_rest step a b c ids rows earlier last left timer deadline (said.Started n) rests same =
    absurd rests
turns_rest step a b c ids rows earlier last left timer deadline said.Refused rests same =
    absurd rests
turns_rest step a b c ids rows earlier last left timer deadline (said.Exited s) rests same =
    absurd rests
turns_rest step a b c ids rows earlier last left timer deadline (said.Arrive i s) rests same =
    absurd rests
turns_rest step a b c ids rows earlier last left timer deadline (said.Ended i) rests same =
    absurd rests
