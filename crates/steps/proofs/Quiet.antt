-- What happens before a tick is taken, at a place from which one is taken before a command begins.
use Rattle.std.proofs.Common.{◌≡◌, ℕ, zero, suc, ◌+◌, ◌-◌, ◌<◌, ◌⊎◌, List, [], ◌∷◌, ◌++◌, Bool, true, false, Option, Some, None, Result, Ok, Err, refl, sym, subst, arith, inl, inr}
use Rattle.std.proofs.lemmas.Option.{slice_get_past}
use Rattle.std.specs.Prelude.{drop, if◌then◌else◌, length, nat_le, reverse, slice_get, take}
use Rattle.acts.specs.Flaw as flaw
use Rattle.code.specs.Made.{IsCodeOfEntry, IsCodeOfMade}
use Rattle.code.specs.declared.made.Entry.{Entry}
use Rattle.code.specs.declared.made.Entry.TheVariants as entry
use Rattle.code.specs.declared.made.Made.{Made}
use Rattle.code.specs.declared.made.Made.TheVariants as made
use Rattle.code.specs.Code.{ArgumentsAt, At, CommandsAt, FaultAt, FormulaAt, JoinsAt, LinksAt, PartsAt, ScriptAt, WordsAt}
use Rattle.code.specs.Code as laid
use Rattle.code.specs.declared.instruction.Instruction.{Instruction}
use Rattle.code.specs.declared.instruction.Instruction.TheVariants as i
use Rattle.state.specs.Evaluated.{told}
use Rattle.meanings.specs.Meaning.{Meaning, Gives, Raises, Splits, Matches, flaw_of_list}
use Rattle.operators.specs.Binary.{binary}
use Rattle.operators.specs.Function as function
use Rattle.operators.specs.Truth.{truth_of}
use Rattle.operators.specs.Unary.{unary}
use Rattle.operators.specs.Value.{result, written}
use Rattle.state.specs.Budget.{again_of}
use Rattle.state.specs.Piece.{ListText, Tree}
use Rattle.state.specs.Prelude.{Flaw, Status}
use Rattle.state.specs.Variables.{flaw_of_trouble, spelled}
use Rattle.steps.specs.Does.{Does}
use Rattle.steps.specs.Does as it_does
use Rattle.steps.specs.Formulas.{choosing, deciding, gives, on_meaning, on_split, on_truth, unless}
use Rattle.steps.specs.Handling.{fails}
use Rattle.steps.specs.Machine.{ahead, does, entering, machine, reading, spread, with_value}
use Rattle.steps.specs.Moves.{jumping, on_top, ticked, with_operands}
use Rattle.steps.specs.Run.{Forks, IsBegun, IsIdle, IsPlain, IsQuiet}
use Rattle.steps.specs.Run as run
use Rattle.steps.specs.Spot.{Spot, Did, Went, Reads, Begins, Says, Runs, Evaluates, Over, Stuck, with_top}
use Rattle.steps.specs.View.{did_of, spot_of}
use Rattle.steps.specs.declared.progress.Progress.{Progress}
use Rattle.steps.specs.declared.progress.Progress.TheVariants as went
use Rattle.steps.specs.declared.run.Run.{Run}
use Rattle.steps.specs.declared.spot.Spot as coded
use Rattle.tclparse.specs.Formula.{Formula, Formulas, Links}
use Rattle.tclparse.specs.Fault.{Fault}
use Rattle.tclparse.specs.Tree.{Commands, Parts, Words}
use Rattle.tcltext.specs.Flaw as list
use Rattle.tclstate.specs.Scopes.{Trouble, read}

-- whatever texts are read, nothing begins: with as many ticks left something goes on at such a
-- place, outside of what a handler covers, or the code is over, and that not by exp_continue
abbrev pub Calm : (ℕ → Type 0) → ℕ → Did → Type 0
Calm At left (Went spot s) = At spot.place × (spot.handlers ≡ []) × (s.left ≡ left)
Calm At left (Reads text next) = (tree : Tree text) → Calm At left (next tree)
Calm At left (Begins words spot s) = ⊥
Calm At left (Says words spot s) = ⊥
Calm At left (Runs text levels spot s) = ⊥
Calm At left (Evaluates text spot s) = ⊥
Calm At left (Over outcome s) = again_of outcome ≡ 0
Calm At left Stuck = Unit {0}

module _ (P : ℕ → Type 0) where
  calm_fails : (flaw : Flaw) (spot : Spot) (s : Status) → spot.handlers ≡ [] →
      Calm P s.left (fails flaw spot s)
  calm_fails flaw spot s none = rw none refl

  calm_top : {X : Type 0} (left : ℕ) (xs : List X) (next : X → List X → Did) →
      ((x : X) (below : List X) → Calm P left (next x below)) → Calm P left (on_top xs next)
  calm_top left [] next calm = tt
  calm_top left (x ∷ below) next calm = calm x below

  calm_if : (left : ℕ) (b : Bool) (one other : Did) → Calm P left one → Calm P left other →
      Calm P left (if b then one else other)
  calm_if left true one other first second = first
  calm_if left false one other first second = second

  calm_jump : (place : ℕ) (spot : Spot) (s : Status) → spot.handlers ≡ [] → P place →
      Calm P s.left (jumping place spot s)
  calm_jump place spot s none at =
      calm_if s.left (nat_le spot.place place) (Went (record spot { place = place }) s) Stuck
      (at, none, refl) tt

  calm_value : (read : Result (List ℕ) Trouble) (name : List ℕ) (spot : Spot) (s : Status)
      (next : List ℕ → Did) → spot.handlers ≡ [] →
      ((value : List ℕ) → Calm P s.left (next value)) →
      Calm P s.left (with_value read name spot s next)
  calm_value (Ok value) name spot s next none calm = calm value
  calm_value (Err trouble) name spot s next none calm =
      calm_fails (flaw_of_trouble trouble name) spot s none

  calm_split : (read : Result (List (List ℕ)) list.Flaw) (spot : Spot) (s : Status)
      (next : List (List ℕ) → Did) → spot.handlers ≡ [] →
      ((elements : List (List ℕ)) → Calm P s.left (next elements)) →
      Calm P s.left (on_split spot s next read)
  calm_split (Ok elements) spot s next none calm = calm elements
  calm_split (Err why) spot s next none calm = calm_fails (flaw_of_list why) spot s none

  calm_spread : (read : Result (List (List ℕ)) list.Flaw) (spot : Spot) (s : Status) →
      spot.handlers ≡ [] → P spot.place → Calm P s.left (spread spot s read)
  calm_spread (Ok elements) spot s none at = (at, none, refl)
  calm_spread (Err why) spot s none at = calm_fails (flaw_of_list why) spot s none

  calm_meaning : (meaning : Meaning) (spot : Spot) (s : Status) (next : List ℕ → Did) →
      spot.handlers ≡ [] → ((value : List ℕ) → Calm P s.left (next value)) →
      Calm P s.left (on_meaning meaning spot s next)
  calm_meaning (Gives value) spot s next none calm = calm value
  calm_meaning (Raises flaw) spot s next none calm = calm_fails flaw spot s none
  calm_meaning (Splits text more) spot s next none calm =
      λ read. calm_split read spot s (λ elements. on_meaning (more elements) spot s next) none
      (λ elements. calm_meaning (more elements) spot s next none calm)
  calm_meaning (Matches pattern text more) spot s next none calm =
      λ takes. calm_meaning (more takes) spot s next none calm

  calm_truth : (read : Result Bool Flaw) (spot : Spot) (s : Status) (next : Bool → Did) →
      spot.handlers ≡ [] → ((holds : Bool) → Calm P s.left (next holds)) →
      Calm P s.left (on_truth read spot s next)
  calm_truth (Ok holds) spot s next none calm = calm holds
  calm_truth (Err flaw) spot s next none calm = calm_fails flaw spot s none

  calm_entering : (levels : ℕ) (spot : Spot) (s : Status) → spot.handlers ≡ [] →
      P spot.place → Calm P s.left (entering levels spot s)
  calm_entering zero spot s none at = calm_fails flaw.TooManyNested spot s none
  calm_entering (suc levels) spot s none at = (at, none, refl)

  calm_deciding : (known holds : Bool) (place : ℕ) (spot : Spot) (s : Status) →
      spot.handlers ≡ [] → P spot.place → P place →
      Calm P s.left (deciding known holds place spot s)
  calm_deciding true true place spot s none at other = calm_jump place _ s none other
  calm_deciding true false place spot s none at other = (at, none, refl)
  calm_deciding false true place spot s none at other = (at, none, refl)
  calm_deciding false false place spot s none at other = calm_jump place _ s none other

  reading_calm : (name : List ℕ) (index : Option (List ℕ)) (spot : Spot) (s : Status) →
      spot.handlers ≡ [] → P spot.place → Calm P s.left (reading name index spot s)
  reading_calm name index spot s none at =
      calm_value (read s.scopes name index) (spelled name index) spot s
      (λ value. Went (with_top value spot) s) none (λ value. (at, none, refl))

  gives_calm : (meaning : Meaning) (spot : Spot) (s : Status) → spot.handlers ≡ [] →
      P spot.place → Calm P s.left (gives meaning spot s)
  gives_calm meaning spot s none at =
      calm_meaning meaning spot s (λ value. Went (with_top value spot) s) none
      (λ value. (at, none, refl))

  -- a plain instruction goes on at the next place
  calm_plain : {A : Type 0} {it : Instruction A} (spot : Spot) (s : Status) → IsPlain it →
      spot.handlers ≡ [] → P spot.place → Calm P s.left (does it spot s)
  calm_plain spot s (run.text {bytes = bytes}) none at = (at, none, refl)
  calm_plain spot s (run.variable {name = name}) none at =
      reading_calm name None spot s none at
  calm_plain spot s (run.element {name = name}) none at =
      calm_top s.left spot.operands
      (λ index below. reading name (Some index) (with_operands below spot) s)
      (λ index below. reading_calm name (Some index) (with_operands below spot) s none at)
  calm_plain spot s run.joins none at =
      calm_top s.left spot.operands
      (λ value more. on_top more (λ bytes below.
      Went (with_operands ((bytes ++ value) ∷ below) spot) s))
      (λ value more. calm_top s.left more
      (λ bytes below. Went (with_operands ((bytes ++ value) ∷ below) spot) s)
      (λ bytes below. (at, none, refl)))
  calm_plain spot s run.enters none at = calm_entering spot.levels spot s none at
  calm_plain spot s run.leaves none at =
      calm_if s.left (nat_le 255 spot.levels) Stuck
      (Went (record spot { levels = suc spot.levels }) s) tt (at, none, refl)
  calm_plain spot s (run.counts {n = n}) none at = (at, none, refl)
  calm_plain spot s run.spreads none at =
      calm_top s.left spot.operands
      (λ text below. Reads (ListText text) (spread (with_operands below spot) s))
      (λ text below. λ read. calm_spread read (with_operands below spot) s none at)
  calm_plain spot s (run.numeral {digits = digits}) none at =
      gives_calm (written digits) spot s none at
  calm_plain spot s (run.prefixed {operator = operator}) none at =
      calm_top s.left spot.operands
      (λ value below. gives (unary operator value) (with_operands below spot) s)
      (λ value below. gives_calm (unary operator value) (with_operands below spot) s none at)
  calm_plain spot s (run.both {operator = operator}) none at =
      calm_top s.left spot.operands
      (λ right more. on_top more (λ left below.
      gives (binary operator left right) (with_operands below spot) s))
      (λ right more. calm_top s.left more
      (λ left below. gives (binary operator left right) (with_operands below spot) s)
      (λ left below. gives_calm (binary operator left right) (with_operands below spot) s none at))
  calm_plain spot s (run.called {function = f} {n = n}) none at =
      let all = reverse spot.operands in
      let below = length spot.operands - n in
      gives_calm (function.call f (drop below all)) (with_operands (reverse (take below all)) spot)
      s none at
  calm_plain spot s run.truth none at =
      calm_top s.left spot.operands
      (λ value below. gives (told (truth_of value)) (with_operands below spot) s)
      (λ value below. gives_calm (told (truth_of value)) (with_operands below spot) s none at)
  calm_plain spot s run.result none at =
      calm_top s.left spot.operands
      (λ value below. Went (with_operands (result value ∷ below) spot) s)
      (λ value below. (at, none, refl))
  calm_plain spot s run.drops none at =
      calm_top s.left spot.operands (λ value below. Went (with_operands below spot) s)
      (λ value below. (at, none, refl))

  choosing_calm : (place : ℕ) (known : Bool) (spot : Spot) (s : Status) → spot.handlers ≡ [] →
      P spot.place → P place → Calm P s.left (choosing place known spot s)
  choosing_calm place known spot s none at other =
      calm_top s.left spot.operands
      (λ value below. on_truth (truth_of value) (with_operands below spot) s (λ holds.
      deciding known holds place (with_operands below spot) s))
      (λ value below. calm_truth (truth_of value) (with_operands below spot) s
      (λ holds. deciding known holds place (with_operands below spot) s) none
      (λ holds. calm_deciding known holds place (with_operands below spot) s none at other))

  unless_calm : (place : ℕ) (spot : Spot) (s : Status) → spot.handlers ≡ [] →
      P spot.place → P place → Calm P s.left (unless place spot s)
  unless_calm place spot s none at other =
      calm_top s.left spot.operands
      (λ value below. on_truth (truth_of value) (with_operands below spot) s (λ holds.
      if holds then Went (with_operands below spot) s
      else jumping place (with_operands below spot) s))
      (λ value below. calm_truth (truth_of value) (with_operands below spot) s
      (λ holds. if holds then Went (with_operands below spot) s
      else jumping place (with_operands below spot) s) none
      (λ holds. calm_if s.left holds (Went (with_operands below spot) s)
      (jumping place (with_operands below spot) s) (at, none, refl)
      (calm_jump place (with_operands below spot) s none other)))

  -- one that forks goes on at the next place, or at the other one
  calm_forks : {A : Type 0} {it : Instruction A} {other : ℕ} (spot : Spot) (s : Status) →
      Forks it other → spot.handlers ≡ [] → P spot.place → P other →
      Calm P s.left (does it spot s)
  calm_forks spot s (run.and_also {place = place}) none at other =
      choosing_calm place false spot s none at other
  calm_forks spot s (run.or_else {place = place}) none at other =
      choosing_calm place true spot s none at other
  calm_forks spot s (run.unless {place = place}) none at other =
      unless_calm place spot s none at other

-- a tick was taken, or all is as above
abbrev pub Passed : {A : Type 0} → ℕ → List (Instruction A) → ℕ → Did → Type 0
Passed said code left (Went spot s) =
    (s.left < left) ⊎ (IsQuiet said code spot.place × (spot.handlers ≡ []) × (s.left ≡ left))
Passed said code left (Reads text next) = (tree : Tree text) → Passed said code left (next tree)
Passed said code left (Begins words spot s) = ⊥
Passed said code left (Says words spot s) =
    (0 < said) × (slice_get code spot.place ≡ None)
Passed said code left (Runs text levels spot s) = ⊥
Passed said code left (Evaluates text spot s) = ⊥
Passed said code left (Over outcome s) = again_of outcome ≡ 0
Passed said code left Stuck = Unit {0}

module _ {A : Type 0} (said : ℕ) (code : List (Instruction A)) where
  calm_passed : (left : ℕ) (did : Did) → Calm (IsQuiet said code) left did → Passed said code left did
  calm_passed left (Went spot s) calm = inr calm
  calm_passed left (Reads text next) calm = λ tree. calm_passed left (next tree) (calm tree)
  calm_passed left (Begins words spot s) calm = calm
  calm_passed left (Says words spot s) calm = absurd calm
  calm_passed left (Runs text levels spot s) calm = calm
  calm_passed left (Evaluates text spot s) calm = calm
  calm_passed left (Over outcome s) calm = calm
  calm_passed left Stuck calm = tt

  next_passed : (left : ℕ) (below : List (List ℕ)) (spot : Spot) (s : Status) → s.left ≡ left →
      Passed said code s.left (ticked left s (λ t. Went (with_operands below spot) t))
  next_passed zero below spot s is = refl
  next_passed (suc left) below spot s is = inl (omega (arith, is))

  top_passed : {X : Type 0} (left : ℕ) (xs : List X) (rest : X → List X → Did) →
      ((x : X) (below : List X) → Passed said code left (rest x below)) →
      Passed said code left (on_top xs rest)
  top_passed left [] rest passed = tt
  top_passed left (x ∷ below) rest passed = passed x below

  said_passed : (b : Bool) (left : ℕ) (words : List (List ℕ)) (spot : Spot) (s : Status) →
      0 < said → slice_get code spot.place ≡ None →
      Passed said code left (if b then Says words spot s else Stuck)
  said_passed true left words spot s may over = (may, over)
  said_passed false left words spot s may over = tt

  -- what the instruction at a quiet place does
  quiet_passed : (spot : Spot) (s : Status) {place : ℕ} → IsQuiet said code place →
      spot.place ≡ place → spot.handlers ≡ [] →
      Passed said code s.left (machine (slice_get code place) spot s)
  quiet_passed spot s (run.past over) is none =
      subst (λ it. Passed said code s.left (machine it spot s)) (sym over)
      (top_passed s.left spot.operands _ (λ value below. refl))
  quiet_passed spot s (run.ticks at) is none =
      subst (λ it. Passed said code s.left (machine it spot s)) (sym at)
      (top_passed s.left spot.operands _
      (λ value below. next_passed s.left below (ahead spot) s refl))
  quiet_passed spot s (run.faulty at) is none =
      subst (λ it. Passed said code s.left (machine it spot s)) (sym at) (rw none refl)
  quiet_passed spot s (run.says may at over) is none =
      subst (λ it. Passed said code s.left (machine it spot s)) (sym at)
      (top_passed s.left spot.marks _ (λ below marks.
      said_passed (nat_le below (length spot.operands)) s.left _ _ s may
      (subst (λ n. slice_get code (n + 1) ≡ None) (sym is) over)))
  quiet_passed spot s (run.goes {place = place} {it = it} at plain rest) is none =
      subst (λ it. Passed said code s.left (machine it spot s)) (sym at)
      (calm_passed s.left (does it (ahead spot) s)
      (calm_plain (IsQuiet said code) (ahead spot) s plain none
      (subst (λ n. IsQuiet said code (n + 1)) (sym is) rest)))
  quiet_passed spot s (run.forks {place = place} {it = it} at fork rest other) is none =
      subst (λ it. Passed said code s.left (machine it spot s)) (sym at)
      (calm_passed s.left (does it (ahead spot) s)
      (calm_forks (IsQuiet said code) (ahead spot) s fork none
      (subst (λ n. IsQuiet said code (n + 1)) (sym is) rest) other))
  quiet_passed spot s (run.jumps {other = other} at rest) is none =
      subst (λ it. Passed said code s.left (machine it spot s)) (sym at)
      (calm_passed s.left (jumping other (ahead spot) s)
      (calm_jump (IsQuiet said code) other (ahead spot) s none rest))

  -- so did what it came to, once texts are read
  did_passed : (left : ℕ) (did other : Did) → Passed said code left did → Does did other →
      Passed said code left other
  did_passed left did other passed it_does.same = passed
  did_passed left (Reads text next) other passed (it_does.reads tree is does) =
      did_passed left (next tree) other (passed tree) does

  pub quiet_took : (spot : Spot) (s : Status) (did : Did) → IsQuiet said code spot.place →
      spot.handlers ≡ [] → Does (machine (slice_get code spot.place) spot s) did →
      Passed said code s.left did
  quiet_took spot s did quiet none does =
      did_passed s.left (machine (slice_get code spot.place) spot s) did
      (quiet_passed spot s quiet refl none) does

  -- where no tick was taken, no command begins, branches are given last, and exp_continue has not
  -- ended the code
  pub idle : (progress : Progress) (spot : coded.Spot A) (s : Status) (left : ℕ) →
      Passed said code left (did_of progress spot s) → IsIdle said code progress spot
  idle went.GoesOn spot s left passed = tt
  idle went.Begins spot s left passed = passed
  idle went.Says spot s left passed = passed
  idle went.Runs spot s left passed = passed
  idle went.Evaluates spot s left passed = passed
  idle went.Over spot s left passed = passed
  idle went.Stuck spot s left passed = tt

module _ {A : Type 0} (said : ℕ) (code : List (Instruction A)) where
  -- a script in brackets takes a tick, or has no command
  commands_quiet : {place mid : ℕ} {cs : Commands} → CommandsAt code place cs mid →
      IsQuiet said code mid → IsQuiet said code place
  commands_quiet laid.done rest = rest
  commands_quiet (laid.next at it more) rest = run.ticks at

  fault_quiet : {place end : ℕ} {f : Option Fault} → FaultAt code f place end →
      IsQuiet said code end → IsQuiet said code place
  fault_quiet laid.none rest = rest
  fault_quiet (laid.fault at) rest = run.faulty at

  joins_quiet : {more : Bool} {place mid : ℕ} → JoinsAt code more place mid →
      IsQuiet said code mid → IsQuiet said code place
  joins_quiet laid.first rest = rest
  joins_quiet (laid.joined at) rest = run.goes at run.joins rest

  -- the parts of a word, before such a place
  parts_quiet : {more : Bool} {place end : ℕ} {ps : Parts} → PartsAt code more place ps end →
      IsQuiet said code end → IsQuiet said code place
  parts_quiet laid.over rest = rest
  parts_quiet (laid.empty at) rest = run.goes at run.text rest
  parts_quiet (laid.text bytes at joins more) rest =
      run.goes at run.text (joins_quiet joins (parts_quiet more rest))
  parts_quiet (laid.value at joins more) rest =
      run.goes at run.variable (joins_quiet joins (parts_quiet more rest))
  parts_quiet (laid.item inside at joins more) rest =
      parts_quiet inside (run.goes at run.element (joins_quiet joins (parts_quiet more rest)))
  parts_quiet (laid.bracket enters commands leaves joins more) rest =
      run.goes enters run.enters (commands_quiet commands
      (run.goes leaves run.leaves (joins_quiet joins (parts_quiet more rest))))

  -- a formula, before such a place
  mutual
    formula_before : {place end : ℕ} {f : Formula} → FormulaAt code place f end →
        IsQuiet said code end → IsQuiet said code place
    formula_before (laid.number at) rest = run.goes at run.numeral rest
    formula_before (laid.parts parts) rest = parts_quiet parts rest
    formula_before (laid.called arguments at) rest =
        arguments_before arguments (run.goes at run.called rest)
    formula_before (laid.prefixed inner at) rest =
        formula_before inner (run.goes at run.prefixed rest)
    formula_before (laid.in_row first links) rest = formula_before first (links_before links rest)
    formula_before (laid.chosen test unless first jump second) rest =
        let other = formula_before second rest in
        formula_before test (run.forks unless run.unless
        (formula_before first (run.jumps jump rest)) other)

    links_before : {place end : ℕ} {ls : Links} → LinksAt code place ls end →
        IsQuiet said code end → IsQuiet said code place
    links_before laid.no_more rest = rest
    links_before (laid.both right at links) rest =
        formula_before right (run.goes at run.both (links_before links rest))
    links_before (laid.and_also at right truth links) rest =
        let after = links_before links rest in
        run.forks at run.and_also (formula_before right (run.goes truth run.truth after)) after
    links_before (laid.or_else at right truth links) rest =
        let after = links_before links rest in
        run.forks at run.or_else (formula_before right (run.goes truth run.truth after)) after

    arguments_before : {place end count : ℕ} {fs : Formulas} →
        ArgumentsAt code place fs count end → IsQuiet said code end → IsQuiet said code place
    arguments_before laid.no_argument rest = rest
    arguments_before (laid.argument first more) rest =
        formula_before first (arguments_before more rest)

  -- nothing stands after the code
  all_past : IsQuiet said code (length code)
  all_past = run.past (slice_get_past code (length code) (omega arith))

  -- a script of which nothing is done yet
  script_quiet : (cs : Commands) (f : Option Fault) →
      ScriptAt code 0 cs f (length code) → IsQuiet said code 0
  script_quiet cs f at = commands_quiet at.commands (fault_quiet at.ends all_past)

  -- a formula of which nothing is done yet, after the value at hand is dropped
  formula_quiet : (f : Formula) → At code 0 i.Discard → FormulaAt code 1 f (length code) →
      IsQuiet said code 0
  formula_quiet f drops at = run.goes drops run.drops (formula_before at all_past)

  -- words that give branches last
  words_quiet : 0 < said → {counted : Bool} {count place end : ℕ} {ws : Words} →
      WordsAt code true counted count place ws end → slice_get code end ≡ None →
      IsQuiet said code place
  words_quiet may (laid.says at) over = run.says may at over
  words_quiet may (laid.one parts rest) over = parts_quiet parts (words_quiet may rest over)
  words_quiet may (laid.counts at rest) over = run.goes at run.counts (words_quiet may rest over)
  words_quiet may (laid.spread parts at rest) over =
      parts_quiet parts (run.goes at run.spreads (words_quiet may rest over))

-- a script or a formula
made_quiet : {A : Type 0} (code : List (Instruction A)) (it : Made A) →
    IsCodeOfMade code it → IsQuiet 0 code 0
made_quiet code (made.Script tree) at = script_quiet 0 code tree.commands tree.fault at
made_quiet code (made.Formula f) at = formula_quiet 0 code f at.0 at.1

-- each entry
pub entry_begun : {A : Type 0} (it : Entry A) (run : Run A) →
    IsCodeOfEntry run.code.value.items it → run.spot.place ≡ 0 →
    (spot_of run.spot).handlers ≡ [] → IsBegun it run
entry_begun (entry.Made it) run at start none = record {
  quiet = subst (λ n. IsQuiet 0 run.code.value.items n) (sym start)
      (made_quiet run.code.value.items it at);
  handlers = none;
}
entry_begun (entry.Argument ws) run at start none =
    let code = run.code.value.items in
    record {
      quiet = subst (λ n. IsQuiet 1 code n) (sym start)
          (words_quiet 1 code (omega arith) at (slice_get_past code (length code) (omega arith)));
      handlers = none;
    }
entry_begun (entry.Does doing) run at start none =
    record { still = at.still; short = at.short }
