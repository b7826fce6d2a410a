use Rattle.expects.proofs.Telling.{match_written, places_written}
use Rattle.expects.proofs.report.tell.Goals as goal
use Rattle.expects.specs.Parts.{taken_of}

pub returns-then-taken : goal.returns-then-taken
returns-then-taken g c =
    places_written (taken_of c.args.taken) c.in_ok-id.id c.args.scopes.now
    c.tell_places.new.scopes c.tell_places.result c.in-Some.found c.in-Some.is c.if-taken.true
    c.in_ok-id.ensures c.tell_places.ensures

pub returns-else-taken : goal.returns-else-taken
returns-else-taken g c =
    match_written (taken_of c.args.taken) c.in_ok-id.id c.args.scopes.now
    c.tell_match.new.scopes c.tell_match.result c.in-Some.found c.in-Some.is c.if-taken.false
    c.in_ok-id.ensures c.tell_match.ensures
