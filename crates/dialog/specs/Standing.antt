-- The pairs that stand before and after those of each expect, and what an expect chooses among.
use Rattle.std.specs.Prelude.{◌==◌, ◌<◌, not, Bool, List, [], ◌∷◌, ◌++◌, map, filter, if◌then◌else◌}
use Rattle.std.specs.List.{list_any}
use Rattle.acts.specs.declared.id.Id.{Id}
use Rattle.choices.specs.Branches.{Pair, Branches}
use Rattle.choices.specs.Lines.{Line}
use Rattle.readings.specs.Reads.{is_open_in}
use Rattle.dialog.specs.declared.standing.Side.{Side}
use Rattle.dialog.specs.declared.standing.Side.TheVariants.{Before, After}

-- the pairs before and after those of each expect, each in the order in which they were put
-- (expect(1), expect_before and expect_after)
pub record Standing : Type 0 where
  pub before : List Pair
  pub after : List Pair

-- the pairs of both sides, by their parts
abbrev pub standing : List Pair → List Pair → Standing
standing before after = record { before = before; after = after }

-- the id is one of these
abbrev pub is_among : List Id → Id → Bool
is_among ids i = list_any (λ j. j.0 == i.0) ids

-- the pairs of ids that are not among these
abbrev pub others : List Id → List Pair → List Pair
others ids pairs = filter (λ p. not (is_among ids p.id)) pairs

-- the pairs of the ids that the branches name are removed, and the pairs of the branches are put at
-- the end (expect(1), expect_before and expect_after)
abbrev pub replaced : Branches → List Pair → List Pair
replaced b pairs = others b.named pairs ++ b.pairs

-- the same for the pairs of one of the sides
abbrev pub put_at : Side → Branches → Standing → Standing
put_at Before b s = standing (replaced b s.before) s.after
put_at After b s = standing s.before (replaced b s.after)

-- the pairs of other ids than this one
abbrev pub other_than : Id → List Pair → List Pair
other_than i pairs = filter (λ p. not (p.id.0 == i.0)) pairs

-- no pair of this id is left (expect(1), close)
abbrev pub unpaired : Id → Standing → Standing
unpaired i s = standing (other_than i s.before) (other_than i s.after)

-- what an expect chooses among: pairs, and the ids that it waits for (expect(1), expect)
pub record Effective : Type 0 where
  pub pairs : List Pair
  pub ids : List Id

-- what an expect chooses among, by its parts
abbrev pub effective_of : List Pair → List Id → Effective
effective_of pairs ids = record { pairs = pairs; ids = ids }

-- of these ids those that were not mentioned before, each where it is mentioned first
abbrev pub first_mentions : List Id → List Id → List Id
first_mentions before [] = []
first_mentions before (i ∷ is) =
    if is_among before i then first_mentions before is
    else i ∷ first_mentions (before ++ i ∷ []) is

-- the numbers of ids rise, the first of them above that of this id (this project's own rule)
abbrev pub RiseAfter : Id → List Id → Type 0
RiseAfter i [] = Unit {0}
RiseAfter i (j ∷ js) = (i.0 < j.0) × RiseAfter j js

-- the ids of pairs, in order
abbrev pub ids_of : List Pair → List Id
ids_of pairs = map (λ p. p.id) pairs

-- the ids that are waited for: those of the pairs before, those that the expect names, and those of
-- the pairs after, each once (expect(1), expect and expect_before; the order is this project's own)
abbrev pub waited : Standing → Branches → List Id
waited s b = first_mentions [] (ids_of s.before ++ (b.named ++ ids_of s.after))

-- the pairs that stand before, those of the expect itself, and those that stand after
-- (expect(1), expect_before and expect_after)
abbrev pub all_of : Standing → Branches → Effective
all_of s b = effective_of (s.before ++ (b.pairs ++ s.after)) (waited s b)

-- ids that are no longer open are dropped, with their pairs (expect(1), exp_continue and close)
abbrev pub pruned : List Line → Effective → Effective
pruned lines e =
    effective_of (filter (λ p. is_open_in lines p.id) e.pairs) (filter (is_open_in lines) e.ids)
