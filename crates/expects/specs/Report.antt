-- The variables that a choice sets (expect(1), expect_out).
use Rattle.std.specs.Prelude.{ℕ, pos, Bool, true, false, List, codes, decimal, Option, Some, None, Result, Ok, Err, ◌-ℤ◌, drop}
use Rattle.state.specs.Prelude.{Id, Flaw, Course, raises, Status, Scopes}
use Rattle.std.specs.Fmt.{signed_decimal}
use Rattle.acts.specs.Id.{id_text}
use Rattle.choices.specs.Choice.{Taken}
use Rattle.kinds.specs.Variables as variables
use Rattle.patterns.specs.declared.search.Found.{Found}

-- the variables that writes leave, and the error of the first that could not be made, if there was
-- one; those before it stay
abbrev pub Written : Type 0
Written = Scopes × Option Flaw

-- the next write follows, where there was no error
abbrev pub and_then : Written → (Scopes → Written) → Written
and_then (v, None) next = next v
and_then (v, Some flaw) next = (v, Some flaw)

-- one write that was made, or was not
abbrev pub one_written : Scopes → Result Scopes Flaw → Written
one_written old (Ok new) = (new, None)
one_written old (Err flaw) = (old, Some flaw)

-- an element of expect_out is written (expect(1), expect_out)
abbrev pub sets : List ℕ → List ℕ → Scopes → Written
sets index value v =
    one_written v (variables.put (codes "expect_out") (Some index) value v)

-- the place of the first byte of a match, counted from the beginning of the window (expect(1),
-- -indices)
abbrev pub tells_start : Found → Scopes → Written
tells_start f v = sets (codes "0,start") (decimal f.start) v

-- the place of the last byte of a match; an empty match ends before it begins (expect(1), -indices)
abbrev pub tells_end : Found → Scopes → Written
tells_end f v = sets (codes "0,end") (signed_decimal (pos f.end -ℤ pos 1)) v

-- both places (expect(1), -indices)
abbrev pub tells_both_places : Found → Scopes → Written
tells_both_places f v = and_then (tells_start f v) (tells_end f)

-- the places, where the branch reports them (expect(1), -indices)
abbrev pub tells_places : Bool → Found → Scopes → Written
tells_places false f v = (v, None)
tells_places true f v = tells_both_places f v

-- the elements of a match: its places, and its bytes, which end the buffer; a keyword has none
-- (expect(1), expect_out(0,string))
abbrev pub tells_match : Bool → Option Found → List ℕ → Scopes → Written
tells_match tells None buffer v = (v, None)
tells_match tells (Some f) buffer v =
    and_then (tells_places tells f v) (sets (codes "0,string") (drop f.start buffer))

-- the id (expect(1), expect_out(spawn_id))
abbrev pub tells_id : Id → Scopes → Written
tells_id i v = sets (codes "spawn_id") (id_text i.0) v

-- all that a choice sets, in this order: the match, the id, the buffer (expect(1), expect_out; the
-- order is this project's own)
abbrev pub tells : Taken → Scopes → Written
tells t v =
    and_then (tells_match t.tells_places t.found t.buffer v)
    (λ w. and_then (tells_id t.id w) (sets (codes "buffer") t.buffer))

-- what a choice has for expect_out; after a timeout it has nothing
abbrev pub reported : Option Taken → Scopes → Written
reported None v = (v, None)
reported (Some t) v = tells t v

-- what follows once variables are written, or the error where one was not
abbrev pub on_written : Written → Status → (Status → Course) → Course
on_written (v, None) s next = next (record s { scopes = v })
on_written (v, Some flaw) s next = raises flaw (record s { scopes = v })

-- what a choice has for expect_out is set, and then the next course follows (expect(1), expect_out)
abbrev pub reports : Option Taken → Status → (Status → Course) → Course
reports taken s next = on_written (reported taken s.scopes) s next
