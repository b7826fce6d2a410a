-- The commands that read or change settings, and ask for no act.
use Rattle.std.specs.Prelude.{ℕ, List, Result}
use Rattle.state.specs.Prelude.{Flaw, Status}
use Rattle.commands.specs.declared.settings.Setting.{Setting}
use Rattle.commands.specs.declared.settings.Setting.TheVariants as setting
use Rattle.kinds.specs.Exchange.{Exchange}
use Rattle.output.specs.LogUser.{log_user}
use Rattle.processes.specs.MatchMax.{match_max}
use Rattle.processes.specs.RemoveNulls.{remove_nulls}

-- what each does with the words after its name (expect(1), the commands of these names)
abbrev pub does : Setting → List (List ℕ) → Status → Result (Exchange 0) Flaw
does setting.MatchMax args s = match_max args s
does setting.RemoveNulls args s = remove_nulls args s
does setting.LogUser args s = log_user args
