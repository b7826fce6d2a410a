-- What the signs of the code stand for.
use Rattle.std.specs.Prelude.{ℕ, List}
use Rattle.choices.specs.Branches as awaited
use Rattle.readings.specs.Parts as part
use Rattle.readings.specs.Parts.{Part, AList, ANumber, APattern, ABody, Sign, Alone, Leaves, Seeks, Names}
use Rattle.readings.specs.declared.sign.Keyword as keywords
use Rattle.readings.specs.declared.sign.Keyword.TheVariants as keyword
use Rattle.readings.specs.declared.sign.Mark as marks
use Rattle.readings.specs.declared.sign.Mark.TheVariants as mark
use Rattle.readings.specs.declared.sign.Sign as signs
use Rattle.readings.specs.declared.sign.Sign.TheVariants as sign
use Rattle.searches.specs.declared.style.Style as styles
use Rattle.searches.specs.declared.style.Style.TheVariants as style

-- how a text is sought
abbrev pub style_of : styles.Style → part.Style
style_of style.Glob = part.Glob
style_of style.Exact = part.Exact

-- a flag of the next branch
abbrev pub part_of : marks.Mark → Part
part_of mark.Stays = part.Stays
part_of mark.TellsPlaces = part.TellsPlaces
part_of mark.Folds = part.Folds

-- what a keyword names
abbrev pub named_by_keyword : keywords.Keyword → awaited.Awaited
named_by_keyword keyword.FullBuffer = awaited.FullBuffer
named_by_keyword keyword.Eof = awaited.Eof
named_by_keyword keyword.Timeout = awaited.Timeout
named_by_keyword keyword.Default = awaited.Default

-- what a word says, as a sign of the code says it
abbrev pub sign_by : List ℕ → signs.Sign → Sign
sign_by w (sign.Mark m) = Alone (part_of m)
sign_by w sign.Regex = Alone part.Regex
sign_by w sign.Bad = Alone (part.Bad w)
sign_by w sign.Ids = Leaves AList
sign_by w sign.Seconds = Leaves ANumber
sign_by w (sign.Pattern s) = Leaves (APattern (style_of s))
sign_by w (sign.Keyword k) = Leaves (ABody (Names (named_by_keyword k)))
sign_by w sign.Plain = Leaves (ABody (Seeks part.Glob w))
