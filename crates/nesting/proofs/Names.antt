-- What a word of variables leads to, where it is known what its names are.
use Rattle.std.proofs.Common.{◌≡◌, ℕ, ◌<◌, List, [], ◌∷◌, length, true, false, is_some, refl, arith}
use Rattle.std.specs.List.{list_all}
use Rattle.std.specs.Prelude.{codes}
use Rattle.acts.specs.Flaw as flaw
use Rattle.nesting.specs.Foreach.{on_names}
use Rattle.state.specs.Prelude.{Course, raises, Status}
use Rattle.tclparse.specs.Variable.{named}

pub names_none : (word : List ℕ) (names : List (List ℕ)) (s : Status)
    (next : List (List ℕ) → Course) → length names ≡ 0 →
    on_names word names s next ≡ raises (flaw.BadArgument word (codes "foreach")) s
names_none word [] s next none = refl
names_none word (n ∷ ns) s next none = absurd (omega arith)

pub names_good : (word : List ℕ) (names : List (List ℕ)) (s : Status)
    (next : List (List ℕ) → Course) → 0 < length names →
    list_all (λ w. is_some (named w)) names ≡ true → on_names word names s next ≡ next names
names_good word [] s next some good = absurd (omega arith)
names_good word (n ∷ ns) s next some good = rw good refl

pub names_bad : (word : List ℕ) (names : List (List ℕ)) (s : Status)
    (next : List (List ℕ) → Course) → 0 < length names →
    list_all (λ w. is_some (named w)) names ≡ false →
    on_names word names s next ≡ raises flaw.BadVariable s
names_bad word [] s next some bad = absurd (omega arith)
names_bad word (n ∷ ns) s next some bad = rw bad refl
