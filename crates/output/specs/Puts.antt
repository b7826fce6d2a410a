-- What puts does.
use Rattle.std.specs.Prelude.{ℕ, Bool, List, [], ◌∷◌, ◌++◌, codes, Result, Ok, Err, if◌then◌else◌}
use Rattle.state.specs.Prelude.{Flaw, bind}
use Rattle.std.specs.Str.{bytes_eq}
use Rattle.acts.specs.Flaw as flaw
use Rattle.kinds.specs.Exchange.{Exchange}
use Rattle.output.specs.Channel.{put}
use Rattle.output.specs.declared.channel.Channel.{Channel}
use Rattle.output.specs.declared.channel.Channel.TheVariants as channel

-- the flag that omits the newline (puts(n))
abbrev pub is_nonewline : List ℕ → Bool
is_nonewline w = bytes_eq w (codes "-nonewline")

-- the error of a word that puts does not take (this project's own rule)
abbrev pub bad_word : List ℕ → Flaw
bad_word word = flaw.BadArgument word (codes "puts")

-- the channel of a name (puts(n))
abbrev pub channel_of : List ℕ → Result Channel Flaw
channel_of word =
    if bytes_eq word (codes "stdout") then Ok channel.Output
    else if bytes_eq word (codes "stderr") then Ok channel.Errors
    else Err (bad_word word)

-- a text and its newline (puts(n))
abbrev pub line_of : List ℕ → List ℕ
line_of text = text ++ 10 ∷ []

-- bytes for the channel that a word names, where it names one (puts(n))
abbrev pub to_channel : List ℕ → List ℕ → Result (Channel × List ℕ) Flaw
to_channel word bytes = bind (channel_of word) (λ to. Ok (to, bytes))

-- ?-nonewline? ?stdout|stderr? t: a channel, and the bytes for it (puts(n))
abbrev pub request : List (List ℕ) → Result (Channel × List ℕ) Flaw
request (t ∷ []) = Ok (channel.Output, line_of t)
request (w ∷ t ∷ []) =
    if is_nonewline w then Ok (channel.Output, t) else to_channel w (line_of t)
request (w ∷ c ∷ t ∷ []) = if is_nonewline w then to_channel c t else Err (bad_word w)
request _ = Err (flaw.WrongArgs (codes "puts"))

-- puts ?-nonewline? ?stdout|stderr? t (puts(n))
abbrev pub puts : List (List ℕ) → Result (Exchange 4) Flaw
puts args = bind (request args) (λ r. Ok (put r.0 r.1))
