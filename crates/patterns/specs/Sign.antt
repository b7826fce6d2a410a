-- What a sign of the code stands for.
use Rattle.patterns.specs.Glob.{Sign as GlobSign, bare, quoted, a_set}
use Rattle.patterns.specs.declared.read.Sign.{Sign}
use Rattle.patterns.specs.declared.read.Sign.TheVariants.{Bare, Quoted, Set}

-- The sign that a value of the code stands for (this project's own rule).
abbrev pub sign_of : Sign → GlobSign
sign_of (Bare b) = bare b
sign_of (Quoted b) = quoted b
sign_of (Set text) = a_set text.now
