-- What send_log does.
use Rattle.std.specs.Prelude.{ℕ, List, [], ◌∷◌, codes, Result, Ok}
use Rattle.state.specs.Prelude.{Flaw, bind, Status}
use Rattle.kinds.specs.Exchange.{Exchange}
use Rattle.kinds.specs.Usage.{text_in}
use Rattle.output.specs.Channel.{note}

-- send_log ?--? t: to the log, where one is open (expect(1), send_log)
abbrev pub send_log : List (List ℕ) → Status → Result (Exchange 4) Flaw
send_log args s =
    bind (text_in (codes "--" ∷ []) (codes "send_log") args) (λ text. Ok (note text s))
