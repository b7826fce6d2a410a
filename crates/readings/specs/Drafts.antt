-- What the words of an expect have said so far.
use Rattle.std.specs.Prelude.{◌≡◌, ℕ, true, List, [], ℤ, Option, Some, None, Err, Vec}
use Rattle.acts.specs.declared.id.Id.{Id}
use Rattle.choices.specs.Branches.{Branches, branches}
use Rattle.readings.specs.Parts.{Part, Wanted, Seeks, Names}
use Rattle.readings.specs.Reads.{Place, Outcome, Flaw, Reads, beside, branch_at, in_front, no_flags}
use Rattle.readings.specs.Signs.{style_of, named_by_keyword}
use Rattle.choices.specs.declared.branch.Flags.{Flags}
use Rattle.readings.specs.declared.draft.Wanted as coded
use Rattle.readings.specs.declared.draft.Wanted.TheVariants as wanted
use Rattle.readings.specs.declared.sign.Mark as marks
use Rattle.readings.specs.declared.sign.Mark.TheVariants as mark

-- what the words so far say, the ids of the last -i, and the flags before the next branch
pub record Draft : Type 0 where
  pub said : Branches
  pub ids : Option (List Id)
  pub flags : Flags

-- a draft by its parts
abbrev pub draft : Branches → Option (List Id) → Flags → Draft
draft said ids flags = record { said = said; ids = ids; flags = flags }

-- the ids of the code's list
abbrev pub listed : {A : Type 0} → Option (Vec Id A) → Option (List Id)
listed None = None
listed (Some ids) = Some ids.items

-- the draft before any word, where nothing is said
abbrev pub blank : Draft
blank = draft (branches [] [] None) None no_flags

-- the draft after a list of ids was read
abbrev pub with_ids : List Id → Draft → Draft
with_ids ids d = draft (beside d.said (branches ids [] None)) (Some ids) d.flags

-- the draft after seconds were read
abbrev pub with_seconds : ℤ → Draft → Draft
with_seconds n d = draft (beside d.said (branches [] [] (Some n))) d.ids d.flags

-- the flags, with one more that stands before the next branch
abbrev pub flagged : marks.Mark → Flags → Flags
flagged mark.Stays flags = record flags { stays = true }
flagged mark.TellsPlaces flags = record flags { tells_places = true }
flagged mark.Folds flags = record flags { folds = true }

-- the draft after a flag of the next branch was read
abbrev pub with_flag : marks.Mark → Draft → Draft
with_flag m d = draft d.said d.ids (flagged m d.flags)

-- what a branch waits for, as the code says it
abbrev pub wanted_of : coded.Wanted → Wanted
wanted_of (wanted.Seeks style text) = Seeks (style_of style) text.now
wanted_of (wanted.Names keyword) = Names (named_by_keyword keyword)

-- the draft after a branch was read
abbrev pub with_branch : Option Id → Wanted → List ℕ → Draft → Draft
with_branch current wanted body d =
    draft (beside d.said (branch_at current d.ids d.flags wanted body)) d.ids no_flags

-- reading goes on from a draft and parts to a later draft and later parts: whatever outcome the
-- later parts have, with what the later draft says in front it is the outcome of all the parts,
-- with what the first draft says in front
abbrev pub GoesOn : Place → Draft → List Part → Draft → List Part → Type 0
GoesOn at d parts e behind = (out : Outcome) → Reads at e.ids e.flags behind out →
    (o : Outcome) × Reads at d.ids d.flags parts o × (in_front d.said o ≡ in_front e.said out)

-- the parts from here on give that error
abbrev pub Fails : Place → Draft → List Part → Flaw → Type 0
Fails at d parts flaw = Reads at d.ids d.flags parts (Err flaw)
