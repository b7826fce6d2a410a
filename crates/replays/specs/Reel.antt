-- A recorded run that is read as it is replayed, and which act gets which answer of it.
use Rattle.std.specs.Prelude.{◌≡◌, ◌+◌, ◌⊎◌, ℕ, List, [], Option, Some, None, MatchOption}
use Rattle.acts.specs.Deed.{Deed, Reply}
use Rattle.acts.specs.Deed as said
use Rattle.records.specs.declared.reader.ReadFault.{ReadFault}
use Rattle.records.specs.declared.reader.ReadFault.TheVariants.{GivenUp, Unfit}
use Rattle.records.specs.declared.record.RecordFault.TheVariants as fault
use Rattle.records.specs.Entry.{AreLinesOf, Note}
use Rattle.records.specs.Fault.{IsNoteFault}
use Rattle.records.specs.Reading.{IsGivenUp, ReadsOn, place_of}
use Rattle.replays.specs.Due.{IsDue}
use Rattle.replays.specs.declared.halt.Halt.{Halt}
use Rattle.replays.specs.declared.halt.Halt.TheVariants.{Differs, Unread, NoMemory}
use Rattle.replays.specs.declared.reel.Reel.{Reel}

-- how far a recorded run was read and replayed: its source with what was read and not used yet, how
-- many entries are left, how many acts were answered, and why no more are answered, though entries
-- are left, where that is so
pub record Reeled (S : Type 0) : Type 0 where
  pub place : S × List ℕ
  pub left : ℕ
  pub answered : ℕ
  pub halt : Option Halt

-- what a reel of the program says
abbrev pub reeled_in : {A S : Type 0} → Reel A S → Reeled S
reeled_in reel = record {
  place = place_of reel.entries;
  left = reel.left;
  answered = reel.answered;
  halt = reel.halt;
}

-- a recorded run of so many entries, of which nothing was replayed yet
abbrev pub begun : {S : Type 0} → S × List ℕ → ℕ → Reeled S
begun place count = record { place = place; left = count; answered = 0; halt = None }

-- why no more acts are answered, where an entry was not read for this reason
abbrev pub halt_of : ReadFault → Halt
halt_of (Unfit (fault.NoMemory refusal)) = NoMemory refusal
halt_of (Unfit fault.Header) = Unread
halt_of (Unfit (fault.Line n)) = Unread
halt_of GivenUp = Unread

-- the entry that was read answers the act, or the act differs from it
abbrev pub GivesOne : {S : Type 0} → Note → ℕ → Deed → Reply → Reeled S → Type 0
GivesOne note answered act reply after =
    (IsDue note.rows act × (reply ≡ note.reply)
    × (after.answered ≡ answered + 1) × (after.halt ≡ None))
    ⊎ ((¬ IsDue note.rows act) × (reply ≡ said.NoMore)
    × (after.answered ≡ answered) × (after.halt ≡ Some (Differs (answered + 1))))

-- `gives` says whether a read may give some bytes and lead from one state of a source to another,
-- `up` whether reading may be given up by a read that leads from one state to another, `most` how
-- many bytes the source gives at most.
module _ {S : Type 0} (gives : S → List ℕ → S → Type 0) (up : S → S → Type 0) (most : S → ℕ) where
  -- nothing is left, or what is left begins no entry
  abbrev pub BeginsNone : List ℕ → Type 0
  BeginsNone left = (left ≡ []) ⊎ ((n : ℕ) × IsNoteFault 0 left (fault.Line n))

  -- why the next entry can't be read
  abbrev pub IsHalt : S × List ℕ → S × List ℕ → Halt → Type 0
  IsHalt before after Unread =
      (ReadsOn gives most before [] after × BeginsNone after.1)
      ⊎ IsGivenUp gives up before.0 after.0
  IsHalt before after (NoMemory refusal) = Unit {0}
  IsHalt before after (Differs number) = ⊥

  -- no entry is left
  abbrev pub IsOver : Reeled S → Reply → Reeled S → Type 0
  IsOver before reply after = (before.left ≡ 0) × (reply ≡ said.NoMore) × (after ≡ before)

  -- the next entry can't be read
  abbrev pub Halts : Reeled S → Reply → Reeled S → Type 0
  Halts before reply after =
      (reply ≡ said.NoMore) × (after.left ≡ before.left) × (after.answered ≡ before.answered)
      × ((halt : Halt) × (after.halt ≡ Some halt) × IsHalt before.place after.place halt)

  -- the next entry is read, and answers the act, or the act differs from it
  abbrev pub Unrolls : Reeled S → Deed → Reply → Reeled S → Type 0
  Unrolls before act reply after =
      (before.left ≡ after.left + 1)
      × ((note : Note) × (front : List ℕ) × AreLinesOf note.rows note.reply front
      × ReadsOn gives most before.place front after.place
      × GivesOne note before.answered act reply after)

  -- one of the three
  abbrev pub GoesOn : Reeled S → Deed → Reply → Reeled S → Type 0
  GoesOn before act reply after =
      IsOver before reply after ⊎ (Halts before reply after ⊎ Unrolls before act reply after)

  -- from the act on that had no answer though entries were left, there are no more answers
  abbrev pub Reels : Reeled S → Deed → Reply → Reeled S → Type 0
  Reels before act reply after =
      MatchOption before.halt (GoesOn before act reply after)
      (λ halt. (reply ≡ said.NoMore) × (after ≡ before))
