-- What send_error does.
use Rattle.std.specs.Prelude.{ℕ, List, [], ◌∷◌, codes, Result, Ok}
use Rattle.state.specs.Prelude.{Flaw, bind}
use Rattle.kinds.specs.Exchange.{Exchange}
use Rattle.kinds.specs.Usage.{text_in}
use Rattle.output.specs.Channel.{put}
use Rattle.output.specs.declared.channel.Channel.TheVariants as channel

-- send_error ?--? t: to standard error (expect(1), send_error)
abbrev pub send_error : List (List ℕ) → Result (Exchange 4) Flaw
send_error args =
    bind (text_in (codes "--" ∷ []) (codes "send_error") args) (λ text.
    Ok (put channel.Errors text))
