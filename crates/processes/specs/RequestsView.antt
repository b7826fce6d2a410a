-- How the requests of the code correspond to those of the definition.
use Rattle.std.specs.Prelude.{option_map}
use Rattle.processes.specs.Requests.{Whose, Later, Of, Request, request_by}
use Rattle.processes.specs.declared.requests.Request as asked
use Rattle.processes.specs.declared.requests.Whose as coded
use Rattle.processes.specs.declared.requests.Whose.TheVariants as whose

-- the definition's form of whose setting it is, from that of the code
abbrev pub whose_of : coded.Whose → Whose
whose_of whose.Later = Later
whose_of (whose.Of name) = Of (option_map (λ n. n.now) name)

-- the definition's form of a request, from that of the code
abbrev pub request_of : asked.Request → Request
request_of r = request_by (whose_of r.whose) (option_map (λ v. v.now) r.value)
