-- What remove_nulls does.
use Rattle.std.specs.Prelude.{ℕ, Bool, true, false, List, [], codes, Option, Some, None, option_map, Result, Ok, Err, if◌then◌else◌}
use Rattle.state.specs.Prelude.{Id, Flaw, bind, Status, lines}
use Rattle.std.specs.Str.{bytes_eq}
use Rattle.acts.specs.Flaw as flaw
use Rattle.choices.specs.Lines.{line_of}
use Rattle.kinds.specs.Edits.{DropsNulls, DropsNullsLater}
use Rattle.kinds.specs.Exchange.{Exchange, Edits, gives}
use Rattle.kinds.specs.Ids.{chosen_id}
use Rattle.processes.specs.Requests.{Whose, Later, Of, request}

-- whether nulls are removed, as a word says (expect(1), remove_nulls)
abbrev pub drops_said : List ℕ → Result Bool Flaw
drops_said word =
    if bytes_eq word (codes "0") then Ok false
    else if bytes_eq word (codes "1") then Ok true
    else Err (flaw.BadArgument word (codes "remove_nulls"))

-- the text that reports whether nulls are removed (expect(1), remove_nulls)
abbrev pub told : Bool → List ℕ
told true = codes "1"
told false = codes "0"

-- whether nulls are removed from what arrives at an id, where it is open (expect(1), remove_nulls)
abbrev pub drops_at : Id → Status → Option Bool
drops_at i s = option_map (λ l. l.drops_nulls) (line_of (lines s) i)

-- the text that reports the same of an id (expect(1), remove_nulls)
abbrev pub told_of : Option Bool → List ℕ
told_of (Some drops) = told drops
told_of None = []

-- whether nulls are removed is given, or set as a word says: an id that is named is looked up
-- before the word is read, the id in force after that (expect(1), remove_nulls)
abbrev pub asked : Whose → Option (List ℕ) → Status → Result (Exchange 0) Flaw
asked Later None s = Ok (gives (told s.ids.drops_nulls))
asked Later (Some w) s =
    bind (drops_said w) (λ drops. Ok (Edits (DropsNullsLater drops) (gives [])))
asked (Of name) None s = bind (chosen_id name s) (λ i. Ok (gives (told_of (drops_at i s))))
asked (Of (Some name)) (Some w) s =
    bind (chosen_id (Some name) s) (λ i.
    bind (drops_said w) (λ drops. Ok (Edits (DropsNulls i drops) (gives []))))
asked (Of None) (Some w) s =
    bind (drops_said w) (λ drops.
    bind (chosen_id None s) (λ i. Ok (Edits (DropsNulls i drops) (gives []))))

-- remove_nulls ?-d? ?-i id? ?0|1? (expect(1), remove_nulls)
abbrev pub remove_nulls : List (List ℕ) → Status → Result (Exchange 0) Flaw
remove_nulls args s =
    bind (request (codes "remove_nulls") args) (λ r. asked r.whose r.value s)
