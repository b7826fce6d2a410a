-- What is known of a window in which a text was sought and not found.
use Rattle.std.specs.Prelude.{ℕ, ◌≤◌, List, ◌++◌}
use Rattle.patterns.specs.Item.{Reading}
use Rattle.patterns.specs.Glob.{exact}
use Rattle.patterns.specs.Match.{Sits, SitsNowhere}

-- Whatever follows the window, the pattern sits nowhere before this place (this project's own
-- rule).
abbrev pub Passed : Reading → List ℕ → ℕ → Type 0
Passed p window from = (rest : List ℕ) (s e : ℕ) → Sits p (window ++ rest) s e → from ≤ s

-- Where the text stands nowhere, the pattern sits nowhere (this project's own rule).
abbrev pub Needs : Reading → List ℕ → Type 0
Needs p text = (window : List ℕ) → SitsNowhere (exact text) window → SitsNowhere p window
