-- What a search for a pattern seeks first: a run, which takes as many bytes wherever it stands.
use Rattle.std.specs.Prelude.{◌≡◌, ℕ, Bool, true, false, List, length, if◌then◌else◌}
use Rattle.patterns.specs.Glob.{glob, plain, exact, folded}
use Rattle.patterns.specs.Item.{Reading}
use Rattle.patterns.specs.Match.{SitsNowhere}
use Rattle.patterns.specs.Runs.{IsFixed}
use Rattle.searches.specs.declared.lead.Key.{Key}
use Rattle.searches.specs.declared.lead.Lead.{Lead}
use Rattle.searches.specs.declared.lead.Seeker.{Seeker}
use Rattle.searches.specs.declared.lead.Seeker.TheVariants as seeker
use Rattle.searches.specs.declared.style.Style.{Style}
use Rattle.searches.specs.declared.style.Style.TheVariants as style

-- a pattern, for which the letters of a window are folded where the branch asks for it; the pattern
-- itself stays (expect(1), -nocase)
abbrev pub sought_by : Bool → Reading → Reading
sought_by folds pattern = if folds then folded pattern else pattern

-- the pattern of a branch that seeks this text (expect(1), -gl and -ex)
abbrev pub pattern_by : Style → List ℕ → Reading
pattern_by style.Glob text = glob text
pattern_by style.Exact text = exact text

-- the run of this text, which is tied nowhere (this project's own rule)
abbrev pub run_by : Style → List ℕ → Reading
run_by style.Glob text = plain text
run_by style.Exact text = exact text

-- the run that a key stands for (this project's own rule)
abbrev pub run_of : {A : Type 0} → Key A → Reading
run_of key = sought_by key.folds (run_by key.style key.text)

-- the pattern is tied nowhere, and takes so many bytes wherever it sits (this project's own rule)
pub record IsRun (p : Reading) (size : ℕ) : Type 0 where
  pub at_start : p.at_start ≡ false
  pub at_end : p.at_end ≡ false
  pub fixed : IsFixed p.items
  pub long : length p.items ≡ size

-- where the run sits nowhere, the pattern sits nowhere (this project's own rule)
abbrev pub IsNeeded : Reading → Reading → Type 0
IsNeeded run p = (window : List ℕ) → SitsNowhere run window → SitsNowhere p window

-- the run of the key is sought as a text, as the pattern itself, which is the run or is found
-- where the run is, or as a pattern of its own (this project's own rule)
abbrev pub Seeks : {A : Type 0} → Key A → Reading → Seeker A → Type 0
Seeks key p seeker.Text = (run_of key ≡ exact key.text) × IsNeeded (run_of key) p
Seeks key p seeker.Itself = p ≡ run_of key
Seeks key p seeker.Around = IsNeeded (run_of key) p × IsNeeded p (run_of key)
Seeks key p (seeker.Part part) = (part.value ≡ run_of key) × IsNeeded (run_of key) p

-- the run is the whole pattern (this project's own rule)
abbrev pub is_all : {A : Type 0} → Seeker A → Bool
is_all seeker.Text = false
is_all seeker.Itself = true
is_all seeker.Around = false
is_all (seeker.Part part) = false

-- what is sought first of this pattern (this project's own rule)
pub record IsLead {A : Type 0} (p : Reading) (lead : Lead A) : Type 0 where
  pub run : IsRun (run_of lead.key) lead.size
  pub seeks : Seeks lead.key p lead.seeker
