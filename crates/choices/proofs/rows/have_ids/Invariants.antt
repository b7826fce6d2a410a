use Rattle.std.proofs.Common.{◌≡◌, map, take}
use Rattle.choices.proofs.rows.have_ids.Given as goal

-- the ids so far are those of the rows so far
abbrev pub invariant-loop-place : goal.invariant-loop-place
invariant-loop-place l = take l.place l.ids ≡ take l.place (map (λ r. r.id) l.rows)
