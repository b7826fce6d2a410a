-- What the words of log_file ask for, in the code and in the definition.
use Rattle.std.specs.Prelude.{ℕ, Bool, List, Option, option_map}
use Rattle.acts.specs.declared.act.LogMode.{LogMode}
use Rattle.output.specs.declared.log_file.Request as asked

-- whether the log gets what arrives whatever log_user is, what becomes of the bytes that the file
-- already has, and the name of the file, where one is to be opened (expect(1), log_file)
pub record Request : Type 0 where
  pub all : Bool
  pub mode : LogMode
  pub name : Option (List ℕ)

-- a request by its parts
abbrev pub request_by : Bool → LogMode → Option (List ℕ) → Request
request_by all mode name = record { all = all; mode = mode; name = name }

-- what a request of the code asks for
abbrev pub request_of : {A : Type 0} → asked.Request A → Request
request_of r = request_by r.all r.mode (option_map (λ n. n.items) r.name)
