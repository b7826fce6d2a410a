-- What log_user does.
use Rattle.std.specs.Prelude.{ℕ, Bool, true, false, List, [], ◌∷◌, codes, Result, Ok, Err, if◌then◌else◌}
use Rattle.state.specs.Prelude.{Flaw, bind}
use Rattle.std.specs.Str.{bytes_eq}
use Rattle.acts.specs.Flaw as flaw
use Rattle.kinds.specs.Edits.{ShowsArrivals}
use Rattle.kinds.specs.Exchange.{Exchange, Edits, gives}

-- the setting that a word spells (expect(1), log_user)
abbrev pub setting_of : List ℕ → Result Bool Flaw
setting_of w =
    if bytes_eq w (codes "0") then Ok false
    else if bytes_eq w (codes "1") then Ok true
    else Err (flaw.BadArgument w (codes "log_user"))

-- log_user 0|1: sets whether what arrives is shown (expect(1), log_user)
abbrev pub log_user : List (List ℕ) → Result (Exchange 0) Flaw
log_user (w ∷ []) = bind (setting_of w) (λ shows. Ok (Edits (ShowsArrivals shows) (gives [])))
log_user _ = Err (flaw.WrongArgs (codes "log_user"))
