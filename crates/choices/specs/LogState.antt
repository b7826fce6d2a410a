-- Where what arrives is written.
use Rattle.std.specs.Prelude.{Bool, ◌&&◌, ◌||◌}
use Rattle.choices.specs.declared.log_state.LogState.{LogState}

-- an arrival goes to standard output where log_user is 1 (expect(1), log_user)
abbrev pub goes_out : LogState → Bool
goes_out s = s.user

-- an arrival goes to the log where one is open, and log_user is 1 or the log gets everything
-- (expect(1), log_file -a; that the log gets nothing otherwise is this project's own rule)
abbrev pub is_logged : LogState → Bool
is_logged s = s.logging && (s.user || s.all)
