-- Where the code of a tree stands.
use Rattle.std.specs.Prelude.{◌≡◌, ℕ, ◌+◌, ◌<◌, Bool, true, false, List, [], ◌∷◌, codes, length, Option, Some, None, Ok, Err, Vec, is_some, slice_get}
use Rattle.std.specs.List.{list_all}
use Rattle.std.specs.Str.{bytes_eq}
use Rattle.code.specs.Argument.{is_braced, takes_branches}
use Rattle.code.specs.Branches.{Branch, Branches, branches}
use Rattle.code.specs.declared.instruction.Instruction.{Instruction}
use Rattle.code.specs.declared.instruction.Instruction.TheVariants as i
use Rattle.code.specs.declared.options.Options.{Options}
use Rattle.code.specs.Switch.{AreArms, IsShort, are_globs, is_default, words_before}
use Rattle.pure.specs.Concat.{concatenated}
use Rattle.tclparse.specs.Fault.{Fault}
use Rattle.tclparse.specs.Formula.{Formula, Formulas, Links}
use Rattle.tclparse.specs.Formula as tree
use Rattle.tclparse.specs.FormulaFault.{FormulaFault}
use Rattle.tclparse.specs.FormulaGrammar.{IsFormula}
use Rattle.tclparse.specs.Grammar.{IsArgument, IsScript}
use Rattle.tclparse.specs.Seen.{fault_of}
use Rattle.tclparse.specs.Tree.{Parts, no_parts, variable, element, script, Words, no_words, word, Commands, no_commands, command, bytes_then, literals, texts_then}
use Rattle.tclparse.specs.declared.fault.Fault as read
use Rattle.tclparse.specs.declared.operator.Binary.{Binary}
use Rattle.tclparse.specs.declared.operator.Function.{Function}
use Rattle.tclparse.specs.declared.operator.Infix.TheVariants.{Both, AndAlso, OrElse}
use Rattle.tclparse.specs.declared.operator.Unary.{Unary}
use Rattle.tclparse.specs.Variable.{named}
use Rattle.tcltext.specs.Elements.{IsList}
use Rattle.patterns.specs.Glob.{plain}

-- this instruction stands at this place
abbrev pub At : {A : Type 0} → List (Instruction A) → ℕ → Instruction A → Type 0
At code place it = slice_get code place ≡ Some it

-- a value that has just been put on top is the word so far, or is joined to the word so far, which
-- stands below it (Tcl(n), rule 11)
pub data JoinsAt {A : Type 0} (code : List (Instruction A)) : Bool → ℕ → ℕ → Type 0 where
  first : {place : ℕ} → JoinsAt code false place place
  joined : {place : ℕ} → At code place i.Join → JoinsAt code true place (place + 1)

-- a fault that ends a script, where it has one
pub data FaultAt {A : Type 0} (code : List (Instruction A)) : Option Fault → ℕ → ℕ → Type 0 where
  none : {place : ℕ} → FaultAt code None place place
  fault : {place : ℕ} {fault : read.Fault} → At code place (i.Fault fault) →
      FaultAt code (Some (fault_of fault)) place (place + 1)

-- a word of variables is this list, of at least one, each of which names a variable (foreach(n);
-- set(n))
pub record AreNames (word : List ℕ) (names : List (List ℕ)) : Type 0 where
  pub list : IsList names word
  pub some : 0 < length names
  pub each : list_all (λ w. is_some (named w)) names ≡ true

-- the words of foreach with these variables, this word of their elements and this body (foreach(n))
abbrev pub foreach_words : List ℕ → Parts → List ℕ → Words
foreach_words variables list body =
    word false (bytes_then (codes "foreach") no_parts)
    (word false (bytes_then variables no_parts) (word false list (literals (body ∷ []))))

-- the words of switch with these options, this word of its string, and these words after it
-- (switch(n))
abbrev pub switch_words : Options → Parts → List (List ℕ) → Words
switch_words options string after =
    texts_then (words_before options) (word false string (literals after))

-- the words after the script of a catch: none, or a word that names the variable which takes the
-- value that the script ends with (catch(n); set(n))
pub data IsTaker : Option (List ℕ) → List (List ℕ) → Type 0 where
  no_taker : IsTaker None []
  taker : {word : List ℕ} → is_some (named word) ≡ true → IsTaker (Some word) (word ∷ [])

-- the value that the script of a catch ended with is dropped, or a variable takes it (catch(n))
pub data TakenAt {A : Type 0} (code : List (Instruction A)) :
    ℕ → Option (List ℕ) → ℕ → Type 0 where
  dropped : {place : ℕ} → At code place i.Discard → TakenAt code place None (place + 1)
  taken : {place : ℕ} {word : List ℕ} → At code place (i.Store word) →
      TakenAt code place (Some word) (place + 1)

-- each of these variables takes the next element (foreach(n))
pub data AssignsAt {A : Type 0} (code : List (Instruction A)) :
    ℕ → List (List ℕ) → ℕ → Type 0 where
  all_set : {place : ℕ} → AssignsAt code place [] place
  sets : {place end : ℕ} {name : List ℕ} {names : List (List ℕ)} →
      At code place (i.Assign name) → AssignsAt code (place + 1) names end →
      AssignsAt code place (name ∷ names) end

-- the next turn of foreach, whose body stands at this place and ends at that one: where no element
-- is left the loop is over, else each variable takes one, and the body is next (foreach(n))
pub data NextAt {A : Type 0} (code : List (Instruction A)) :
    ℕ → List (List ℕ) → ℕ → ℕ → ℕ → Type 0 where
  next_turn : {place turn body ends : ℕ} {names : List (List ℕ)} →
      At code place (i.More (turn + 1)) → AssignsAt code (place + 1) names turn →
      At code turn (i.Begin body ends) → At code (turn + 1) i.Done →
      NextAt code place names body ends (turn + 2)

-- what compares the string with a pattern, as a glob or byte by byte: where that takes it, the
-- first place is next, else the second (switch(n))
abbrev pub test_of : {A : Type 0} → Bool → List ℕ → ℕ → ℕ → Instruction A
test_of false pattern here other = i.Equals pattern here other
test_of true pattern here other = i.Matches (plain pattern) here other

-- a pattern, which is not too long, is compared here (switch(n))
pub record TestAt {A : Type 0} (code : List (Instruction A)) (globs : Bool) (place : ℕ)
    (pattern : List ℕ) (here other : ℕ) : Type 0 where
  pub short : IsShort globs pattern
  pub test : At code place (test_of globs pattern here other)

-- an instruction that is a command with these words before its last one, whose value is on top
-- (set(n); append(n); incr(n); return(n))
pub data IsDirect {A : Type 0} : Instruction A → List (List ℕ) → Type 0 where
  sets_last : {name : List ℕ} → IsDirect (i.Set name) (codes "set" ∷ name ∷ [])
  appends_last : {name : List ℕ} → IsDirect (i.Append name) (codes "append" ∷ name ∷ [])
  adds_last : {name : List ℕ} → IsDirect (i.Add name) (codes "incr" ∷ name ∷ [])
  increments_last : IsDirect i.Increment (codes "incr" ∷ [])
  returns_last : IsDirect i.Return (codes "return" ∷ [])

-- a text is a formula (expr(n))
abbrev pub HasFormula : List ℕ → Type 0
HasFormula text = (f : Formula) × IsFormula (Ok f) text

-- a text is no formula, for this reason (expr(n))
abbrev pub LacksFormula : List ℕ → Type 0
LacksFormula text = (why : FormulaFault) × IsFormula (Err why) text

-- The code of the tree stands from the first place up to the second.
mutual
  -- parts of a word, before which there is something of the word or nothing: their values are put
  -- on top and joined; a word without parts is the empty text (Tcl(n), rules 7, 8 and 11)
  pub data PartsAt {A : Type 0} (code : List (Instruction A)) :
      Bool → ℕ → Parts → ℕ → Type 0 where
    over : {place : ℕ} → PartsAt code true place no_parts place
    empty : {place : ℕ} → At code place (i.Text []) → PartsAt code false place no_parts (place + 1)
    text : {more : Bool} {place mid end : ℕ} (bytes : List ℕ) {ps : Parts} →
        At code place (i.Text bytes) → JoinsAt code more (place + 1) mid →
        PartsAt code true mid ps end → PartsAt code more place (bytes_then bytes ps) end
    value : {more : Bool} {place mid end : ℕ} {name : List ℕ} {ps : Parts} →
        At code place (i.Variable name) → JoinsAt code more (place + 1) mid →
        PartsAt code true mid ps end → PartsAt code more place (variable name ps) end
    item : {more : Bool} {place at mid end : ℕ} {name : List ℕ} {is ps : Parts} →
        PartsAt code false place is at → At code at (i.Element name) →
        JoinsAt code more (at + 1) mid → PartsAt code true mid ps end →
        PartsAt code more place (element name is ps) end
    bracket : {more : Bool} {place at mid end : ℕ} {cs : Commands} {ps : Parts} →
        At code place i.Enter → CommandsAt code (place + 1) cs at → At code at i.Leave →
        JoinsAt code more (at + 1) mid → PartsAt code true mid ps end →
        PartsAt code more place (script cs ps) end

  -- words of a command, or of an argument in braces, after this many, which are counted or are not:
  -- each value is put on top, and then what they begin begins (Tcl(n), rules 2 and 5; expect(1),
  -- expect)
  pub data WordsAt {A : Type 0} (code : List (Instruction A)) :
      Bool → Bool → ℕ → ℕ → Words → ℕ → Type 0 where
    begins : {count place : ℕ} → At code place (i.Command count) →
        WordsAt code false false count place no_words (place + 1)
    begins_counted : {count place : ℕ} → At code place i.Counted →
        WordsAt code false true count place no_words (place + 1)
    says : {count place : ℕ} → At code place i.Say →
        WordsAt code true true count place no_words (place + 1)
    one : {braced counted : Bool} {count place mid end : ℕ} {ps : Parts} {ws : Words} →
        PartsAt code false place ps mid → WordsAt code braced counted (count + 1) mid ws end →
        WordsAt code braced counted count place (word false ps ws) end
    counts : {braced : Bool} {count other place end : ℕ} {ws : Words} →
        At code place (i.Count count) → WordsAt code braced true other (place + 1) ws end →
        WordsAt code braced false count place ws end
    spread : {braced : Bool} {count place mid end : ℕ} {ps : Parts} {ws : Words} →
        PartsAt code false place ps mid → At code mid i.Spread →
        WordsAt code braced true (count + 1) (mid + 1) ws end →
        WordsAt code braced true count place (word true ps ws) end

  -- a command begins by its words; or it has code of its own, which stands after that of its words
  -- and is done where no procedure hides the command; or it is foreach, whose list is put on top
  -- before; or it is switch, whose string is; or one instruction is the command, and the value of
  -- its last word is (Tcl(n), rule 2; proc(n); foreach(n); switch(n))
  pub data CommandAt {A : Type 0} (code : List (Instruction A)) : ℕ → Words → ℕ → Type 0 where
    by_words : {place end : ℕ} {ws : Words} → WordsAt code false false 0 place ws end →
        CommandAt code place ws end
    own : {place mid end : ℕ} {name : List ℕ} {args : List (List ℕ)} →
        At code place (i.Unhidden name (mid + 1)) →
        WordsAt code false false 0 (place + 1) (literals (name ∷ args)) mid →
        At code mid (i.Jump end) → OwnAt code name (mid + 1) args end →
        CommandAt code place (literals (name ∷ args)) end
    foreach_loop : {place mid end : ℕ} {variables body : List ℕ} {list : Parts} →
        PartsAt code false place list mid → ForeachAt code mid variables body end →
        CommandAt code place (foreach_words variables list body) end
    switched : {place mid end : ℕ} {options : Options} {string : Parts} {after : List (List ℕ)} →
        PartsAt code false place string mid → SwitchAt code mid options after end →
        CommandAt code place (switch_words options string after) end
    direct : {place mid : ℕ} {it : Instruction A} {before : List (List ℕ)} {last : Parts} →
        IsDirect it before → PartsAt code false place last mid → At code mid it →
        CommandAt code place (texts_then before (word false last no_words)) (mid + 1)

  -- commands one after the other, before which there is a value on top (Tcl(n), rule 1)
  pub data CommandsAt {A : Type 0} (code : List (Instruction A)) : ℕ → Commands → ℕ → Type 0 where
    done : {place : ℕ} → CommandsAt code place no_commands place
    next : {place mid end from_end : ℕ} {ws : Words} {cs : Commands} →
        At code place (i.Next from_end) → CommandAt code (place + 1) ws mid →
        CommandsAt code mid cs end →
        CommandsAt code place (command ws cs) end

  -- what the command of this name does with the words after it: if; while; for, whose start runs
  -- before its turns, and has its value dropped; eval, whose only word is a script once there is no
  -- white space at its ends; catch, whose script may have its value taken by a variable; expr,
  -- whose only word is an expression in the same way; or a command that takes branches, whose only
  -- word is an argument in braces, with its name before the words of that (if(n); while(n);
  -- for(n); eval(n); concat(n); catch(n); expr(n); expect(1), expect)
  pub data OwnAt {A : Type 0} (code : List (Instruction A)) :
      List ℕ → ℕ → List (List ℕ) → ℕ → Type 0 where
    conditional : {place end : ℕ} {args : List (List ℕ)} {found : Branches} →
        branches args ≡ Some found → BranchesAt code place found.tests found.otherwise end →
        OwnAt code (codes "if") place args end
    while_loop : {place end : ℕ} {test body : List ℕ} → TurnsAt code place test None body end →
        OwnAt code (codes "while") place (test ∷ body ∷ []) end
    for_loop : {place mid end : ℕ} {start test step body : List ℕ} →
        BodyAt code place start mid → At code mid i.Discard →
        TurnsAt code (mid + 1) test (Some step) body end →
        OwnAt code (codes "for") place (start ∷ test ∷ step ∷ body ∷ []) end
    evaluated : {place end : ℕ} {text : List ℕ} →
        BodyAt code place (concatenated (text ∷ [])) end →
        OwnAt code (codes "eval") place (text ∷ []) end
    caught : {place mid end : ℕ} {text : List ℕ} {variable : Option (List ℕ)}
        {more : List (List ℕ)} → IsTaker variable more → At code place (i.Catch (mid + 1)) →
        BodyAt code (place + 1) text mid → At code mid i.EndCatch →
        TakenAt code (mid + 1) variable end → OwnAt code (codes "catch") place (text ∷ more) end
    valued : {place mid : ℕ} {text : List ℕ} →
        ExpressionAt code place (concatenated (text ∷ [])) mid →
        At code mid i.Result → OwnAt code (codes "expr") place (text ∷ []) (mid + 1)
    argued : {place end : ℕ} {name text : List ℕ} {ws : Words} → takes_branches name ≡ true →
        is_braced text ≡ true → IsArgument ws None text → At code place (i.Text name) →
        WordsAt code true false 1 (place + 1) ws end → OwnAt code name place (text ∷ []) end

  -- the turns of a loop with this test, this script after each turn, if there is one, and this
  -- body: the body stands before the test, with which the loop begins, and after both of them the
  -- empty value; where the test is no formula, it stands alone, and has no value (while(n);
  -- for(n))
  pub data TurnsAt {A : Type 0} (code : List (Instruction A)) :
      ℕ → List ℕ → Option (List ℕ) → List ℕ → ℕ → Type 0 where
    turns : {place mid again turn : ℕ} {test body : List ℕ} {step : Option (List ℕ)} →
        HasFormula test → At code place (i.Jump again) → BodyAt code (place + 1) body mid →
        StepAt code mid step again → ExpressionAt code again test turn →
        At code turn (i.Turn (place + 1) mid) →
        At code (turn + 1) (i.Text []) → TurnsAt code place test step body (turn + 2)
    no_turns : {place : ℕ} {test body : List ℕ} {step : Option (List ℕ)} → LacksFormula test →
        At code place (i.Evaluate test) → TurnsAt code place test step body (place + 1)

  -- what stands after the body of a turn: the end of the turn, and before that the script that runs
  -- after each turn, if there is one (for(n))
  pub data StepAt {A : Type 0} (code : List (Instruction A)) :
      ℕ → Option (List ℕ) → ℕ → Type 0 where
    no_step : {place : ℕ} → At code place i.EndTurn → StepAt code place None (place + 1)
    steps : {place mid : ℕ} {text : List ℕ} → At code place i.Step →
        BodyAt code (place + 1) text mid → At code mid i.EndTurn →
        StepAt code place (Some text) (mid + 1)

  -- foreach with these variables and this body, after the value of its list: where a procedure
  -- hides it, it begins by its words, else its turns follow (foreach(n); proc(n))
  pub data ForeachAt {A : Type 0} (code : List (Instruction A)) :
      ℕ → List ℕ → List ℕ → ℕ → Type 0 where
    with_names : {place end : ℕ} {variables body : List ℕ} {names : List (List ℕ)} →
        AreNames variables names → At code place (i.Foreach variables body end) →
        DealAt code (place + 1) names body end → ForeachAt code place variables body end

  -- the turns of foreach with these variables and this body, after the value of its list: its
  -- elements, with which it goes on at the next turn, and before that the body (foreach(n))
  pub data DealAt {A : Type 0} (code : List (Instruction A)) :
      ℕ → List (List ℕ) → List ℕ → ℕ → Type 0 where
    deals : {place mid end : ℕ} {names : List (List ℕ)} {body : List ℕ} →
        At code place (i.Deal (mid + 1)) → BodyAt code (place + 1) body mid →
        At code mid i.EndTurn → NextAt code (mid + 1) names (place + 1) mid end →
        DealAt code place names body end

  -- switch with these options and these words after its string, once that is on top: where a
  -- procedure hides it, it begins by its words, else its patterns follow (switch(n); proc(n))
  pub data SwitchAt {A : Type 0} (code : List (Instruction A)) :
      ℕ → Options → List (List ℕ) → ℕ → Type 0 where
    with_arms : {place end : ℕ} {options : Options} {after arms : List (List ℕ)}
        (held : Vec (List ℕ) A) → held.items ≡ after → AreArms arms after →
        At code place (i.Switch options held end) →
        RestAt code (are_globs options.flag) (place + 1) arms end →
        SwitchAt code place options after end

  -- the patterns that are left, globs or not, with their bodies; where none is left the string is
  -- dropped, and the value is empty (switch(n))
  pub data RestAt {A : Type 0} (code : List (Instruction A)) :
      Bool → ℕ → List (List ℕ) → ℕ → Type 0 where
    no_match : {globs : Bool} {place : ℕ} → At code place i.Discard →
        At code (place + 1) (i.Text []) → RestAt code globs place [] (place + 1 + 1)
    some_arms : {globs : Bool} {place taken end : ℕ} {arms : List (List ℕ)} →
        ArmsAt code globs place taken arms end → RestAt code globs place arms end

  -- patterns, globs or not, with their bodies, of which the one of the first pattern stands at the
  -- second place, where the string is dropped first: a last `default`; or a pattern that shares the
  -- body of the next one; or one with its own body, and a jump behind those that are left
  -- (switch(n))
  pub data ArmsAt {A : Type 0} (code : List (Instruction A)) :
      Bool → ℕ → ℕ → List (List ℕ) → ℕ → Type 0 where
    otherwise : {globs : Bool} {place end : ℕ} {body : List ℕ} → At code place i.Discard →
        bytes_eq body (codes "-") ≡ false → BodyAt code (place + 1) body end →
        ArmsAt code globs place place (codes "default" ∷ body ∷ []) end
    shares : {globs : Bool} {place taken end : ℕ} {pattern : List ℕ} {more : List (List ℕ)} →
        is_default pattern more ≡ false → TestAt code globs place pattern taken (place + 1) →
        ArmsAt code globs (place + 1) taken more end →
        ArmsAt code globs place taken (pattern ∷ codes "-" ∷ more) end
    takes : {globs : Bool} {place jump end : ℕ} {pattern body : List ℕ} {more : List (List ℕ)} →
        is_default pattern more ≡ false → bytes_eq body (codes "-") ≡ false →
        TestAt code globs place pattern (place + 1) (jump + 1) → At code (place + 1) i.Discard →
        BodyAt code (place + 1 + 1) body jump → At code jump (i.Jump end) →
        RestAt code globs (jump + 1) more end →
        ArmsAt code globs place (place + 1) (pattern ∷ body ∷ more) end

  -- the branches that are left: a test, its body, which runs where it holds, a jump past all of them,
  -- and what is left where it does not hold; and then the last body, or the empty value where there
  -- is none (if(n))
  pub data BranchesAt {A : Type 0} (code : List (Instruction A)) :
      ℕ → List Branch → Option (List ℕ) → ℕ → Type 0 where
    no_else : {place : ℕ} → At code place (i.Text []) → BranchesAt code place [] None (place + 1)
    at_last : {place end : ℕ} {body : List ℕ} → BodyAt code place body end →
        BranchesAt code place [] (Some body) end
    branch : {place unless jump end : ℕ} {it : Branch} {more : List Branch}
        {otherwise : Option (List ℕ)} → ExpressionAt code place it.test unless →
        At code unless (i.Unless (jump + 1)) → BodyAt code (unless + 1) it.body jump →
        At code jump (i.Jump end) → BranchesAt code (jump + 1) more otherwise end →
        BranchesAt code place (it ∷ more) otherwise end

  -- a text that runs as a script, one level deeper: what it is read as stands here, or the text
  -- itself, which is read when it runs (Tcl(n), rule 7)
  pub data BodyAt {A : Type 0} (code : List (Instruction A)) : ℕ → List ℕ → ℕ → Type 0 where
    deeper : {place mid leave after : ℕ} {body : List ℕ} {cs : Commands} {f : Option Fault} →
        IsScript cs f body → At code place (i.Body after) → CommandsAt code (place + 1) cs mid →
        FaultAt code f mid leave → At code leave i.Leave → BodyAt code place body (leave + 1)
    by_text : {place after : ℕ} {body : List ℕ} → At code place (i.Run body after) →
        BodyAt code place body (place + 1)

  -- a text whose value as a formula is put on top: the formula that it is read as stands here, or
  -- the text itself, which is read when its value is wanted (expr(n))
  pub data ExpressionAt {A : Type 0} (code : List (Instruction A)) :
      ℕ → List ℕ → ℕ → Type 0 where
    by_formula : {place end : ℕ} {text : List ℕ} {f : Formula} → IsFormula (Ok f) text →
        FormulaAt code place f end → ExpressionAt code place text end
    from_text : {place : ℕ} {text : List ℕ} → At code place (i.Evaluate text) →
        ExpressionAt code place text (place + 1)

  -- a formula: its value is put on top (expr(n))
  pub data FormulaAt {A : Type 0} (code : List (Instruction A)) : ℕ → Formula → ℕ → Type 0 where
    number : {place : ℕ} {digits : List ℕ} → At code place (i.Numeral digits) →
        FormulaAt code place (tree.numeral digits) (place + 1)
    parts : {place end : ℕ} {ps : Parts} → PartsAt code false place ps end →
        FormulaAt code place (tree.text ps) end
    called : {place mid count : ℕ} {function : Function} {fs : Formulas} →
        ArgumentsAt code place fs count mid → At code mid (i.Call function count) →
        FormulaAt code place (tree.call function fs) (mid + 1)
    prefixed : {place mid : ℕ} {operator : Unary} {f : Formula} → FormulaAt code place f mid →
        At code mid (i.Prefix operator) → FormulaAt code place (tree.prefix operator f) (mid + 1)
    in_row : {place mid end : ℕ} {f : Formula} {ls : Links} → FormulaAt code place f mid →
        LinksAt code mid ls end → FormulaAt code place (tree.row f ls) end
    chosen : {place unless jump end : ℕ} {test yes no : Formula} →
        FormulaAt code place test unless → At code unless (i.Unless (jump + 1)) →
        FormulaAt code (unless + 1) yes jump → At code jump (i.Jump end) →
        FormulaAt code (jump + 1) no end → FormulaAt code place (tree.choice test yes no) end

  -- operators in a row, after the value of what stands before them: the value of the row takes its
  -- place (expr(n), operators)
  pub data LinksAt {A : Type 0} (code : List (Instruction A)) : ℕ → Links → ℕ → Type 0 where
    no_more : {place : ℕ} → LinksAt code place tree.no_links place
    both : {place mid end : ℕ} {operator : Binary} {f : Formula} {ls : Links} →
        FormulaAt code place f mid → At code mid (i.Binary operator) →
        LinksAt code (mid + 1) ls end → LinksAt code place (tree.link (Both operator) f ls) end
    and_also : {place mid end : ℕ} {f : Formula} {ls : Links} →
        At code place (i.AndAlso (mid + 1)) → FormulaAt code (place + 1) f mid →
        At code mid i.Truth → LinksAt code (mid + 1) ls end →
        LinksAt code place (tree.link AndAlso f ls) end
    or_else : {place mid end : ℕ} {f : Formula} {ls : Links} →
        At code place (i.OrElse (mid + 1)) → FormulaAt code (place + 1) f mid →
        At code mid i.Truth → LinksAt code (mid + 1) ls end →
        LinksAt code place (tree.link OrElse f ls) end

  -- this many arguments of a function: their values are put on top, one after the other
  -- (mathfunc(n))
  pub data ArgumentsAt {A : Type 0} (code : List (Instruction A)) :
      ℕ → Formulas → ℕ → ℕ → Type 0 where
    no_argument : {place : ℕ} → ArgumentsAt code place tree.no_formulas 0 place
    argument : {place mid end count : ℕ} {f : Formula} {fs : Formulas} →
        FormulaAt code place f mid → ArgumentsAt code mid fs count end →
        ArgumentsAt code place (tree.formula f fs) (count + 1) end

-- a script: its commands, and its fault (Tcl(n))
pub record ScriptAt {A : Type 0} (code : List (Instruction A)) (place : ℕ) (cs : Commands)
    (f : Option Fault) (end : ℕ) : Type 0 where
  pub mid : ℕ
  pub commands : CommandsAt code place cs mid
  pub ends : FaultAt code f mid end
