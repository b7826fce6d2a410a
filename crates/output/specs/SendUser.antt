-- What send_user does.
use Rattle.std.specs.Prelude.{ℕ, List, [], ◌∷◌, codes, Result, Ok}
use Rattle.state.specs.Prelude.{Flaw, bind}
use Rattle.kinds.specs.Exchange.{Exchange}
use Rattle.kinds.specs.Usage.{text_in}
use Rattle.output.specs.Channel.{tell}

-- send_user ?--? t: to standard output, and to the log where one is open (expect(1), send_user)
abbrev pub send_user : List (List ℕ) → Result (Exchange 4) Flaw
send_user args =
    bind (text_in (codes "--" ∷ []) (codes "send_user") args) (λ text. Ok (tell text))
