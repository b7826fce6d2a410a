-- The code of words and of commands.
use Rattle.std.proofs.Common.{◌≡◌, ℕ, ◌+◌, Bool, true, false, List, [], ◌∷◌, ◌++◌, length, sym, subst}
use Rattle.code.specs.Blocks.{ArgumentBlock, Block, CommandBlock, CommandsBlock, IsReal, Keeps, OwnBlock, PartsBlock, ValuesBlock, WordBlock, WordsBlock}
use Rattle.code.specs.Code.{At, WordsAt, CommandAt, CommandsAt, by_words, begins, begins_counted, one, counts, says, spread, next, done}
use Rattle.code.specs.declared.instruction.Instruction.{Instruction}
use Rattle.code.specs.declared.instruction.Instruction.TheVariants as i
use Rattle.code.proofs.Built.{extended, kept_on, longer, onward, same, stands}
use Rattle.tclparse.specs.Tree.{Parts, Words, no_words, word, Commands, no_commands, command}

-- the beginning of a command whose words are counted, or are not
abbrev pub begins_by : {A : Type 0} → Bool → ℕ → Instruction A
begins_by false count = i.Command count
begins_by true count = i.Counted

begins_really : (A : Type 0) (counted : Bool) (count : ℕ) → IsReal {A = A} (begins_by counted count)
begins_really A false count = tt
begins_really A true count = tt

module _ {A : Type 0} where
  -- a word that is no list of words
  pub plain_block : (counted : Bool) (count : ℕ) (old new : List (Instruction A)) (ps : Parts)
      (front : Words → Words) → PartsBlock old new ps →
      ((t : Words) → front t ≡ word false ps t) → WordBlock counted counted count old new front
  plain_block counted count old new ps front block is = record {
    extends = block.extends;
    lies = λ later kept braced t end rest.
        subst (λ w. WordsAt later braced counted count (length old) w end) (sym (is t))
        (one (block.lies later kept) rest);
  }

  -- a word whose elements are words, where words are counted already
  pub spread_block : (count : ℕ) (old between new : List (Instruction A)) (ps : Parts)
      (front : Words → Words) → PartsBlock old between ps → new ≡ between ++ i.Spread ∷ [] →
      ((t : Words) → front t ≡ word true ps t) → WordBlock true true count old new front
  spread_block count old between new ps front block put is = record {
    extends = onward block.extends (extended between new i.Spread put);
    lies = λ later kept braced t end rest.
        subst (λ w. WordsAt later braced true count (length old) w end) (sym (is t))
        (spread (block.lies later (kept_on (extended between new i.Spread put) kept))
        (stands between new later i.Spread tt put kept)
        (subst (λ n. WordsAt later braced true (count + 1) n t end)
        (longer between new i.Spread put) rest));
  }

  -- the first such word of a command
  pub counting_block : (count : ℕ) (old counting new : List (Instruction A))
      (front : Words → Words) → counting ≡ old ++ i.Count count ∷ [] →
      WordBlock true true count counting new front → WordBlock false true count old new front
  counting_block count old counting new front put block = record {
    extends = onward (extended old counting (i.Count count) put) block.extends;
    lies = λ later kept braced t end rest.
        counts (stands old counting later (i.Count count) tt put (kept_on block.extends kept))
        (subst (λ n. WordsAt later braced true count n (front t) end)
        (longer old counting (i.Count count) put) (block.lies later kept braced t end rest));
  }

  -- The words that are left: where they lie, all of them lie.
  abbrev pub WordsLeft : Bool → Bool → ℕ → List (Instruction A) → List (Instruction A) → Words →
      Words → Type 0
  WordsLeft counted counting count old new rest whole = Block old new (λ later.
      (braced : Bool) (end : ℕ) → WordsAt later braced counting count (length new) rest end →
      WordsAt later braced counted 0 (length old) whole end)

  -- all words are left
  pub all_left : (counted : Bool) (code : List (Instruction A)) (ws : Words) →
      WordsLeft counted counted 0 code code ws ws
  all_left counted code ws = record {
    extends = same code;
    lies = λ later kept braced end lies. lies;
  }

  -- after one more word
  pub word_left : (first counted counting : Bool) (count : ℕ) (old before new : List (Instruction A))
      (front : Words → Words) (some rest whole : Words) →
      WordsLeft first counted count old before some whole →
      WordBlock counted counting count before new front → some ≡ front rest →
      WordsLeft first counting (count + 1) old new rest whole
  word_left first counted counting count old before new front some rest whole left block is =
      record {
        extends = onward left.extends block.extends;
        lies = λ later kept braced end lies.
            left.lies later (kept_on block.extends kept) braced end
            (subst (λ w. WordsAt later braced counted count (length before) w end) (sym is)
            (block.lies later kept braced rest end lies));
      }

  -- all words, once none is left
  pub values_block : (first counted : Bool) (count : ℕ) (old new : List (Instruction A))
      (rest whole : Words) → WordsLeft first counted count old new rest whole → rest ≡ no_words →
      ValuesBlock first counted count old new whole
  values_block first counted count old new rest whole left is = record {
    extends = left.extends;
    lies = λ later kept braced end lies. left.lies later kept braced end
        (subst (λ w. WordsAt later braced counted count (length new) w end) (sym is) lies);
  }

  begins_at : (counted : Bool) (count place : ℕ) (code : List (Instruction A)) →
      At code place (begins_by counted count) →
      WordsAt code false counted count place no_words (place + 1)
  begins_at false count place code at = begins at
  begins_at true count place code at = begins_counted at

  -- the words of a command
  pub words_block : (counted : Bool) (count : ℕ) (old between new : List (Instruction A))
      (ws : Words) → ValuesBlock false counted count old between ws →
      new ≡ between ++ begins_by counted count ∷ [] → WordsBlock old new ws
  words_block counted count old between new ws values ends =
      let last = begins_by counted count in record {
        extends = onward values.extends (extended between new last ends);
        lies = λ later kept.
            values.lies later (kept_on (extended between new last ends) kept) false (length new)
            (subst (λ n. WordsAt later false counted count (length between) no_words n)
            (sym (longer between new last ends))
            (begins_at counted count (length between) later
            (stands between new later last (begins_really A counted count) ends kept)));
      }

  -- the words of an argument in braces
  pub argument_block : (count : ℕ) (old counting between new : List (Instruction A)) (ws : Words) →
      counting ≡ old ++ i.Count 1 ∷ [] → ValuesBlock true true count counting between ws →
      new ≡ between ++ i.Say ∷ [] → ArgumentBlock old new ws
  argument_block count old counting between new ws put values ends =
      let last : Instruction A = i.Say in
      let first : Instruction A = i.Count 1 in
      let on : (later : List (Instruction A)) → Keeps new later → Keeps between later =
      λ later kept. kept_on (extended between new last ends) kept in record {
        extends = onward (extended old counting first put)
            (onward values.extends (extended between new last ends));
        lies = λ later kept.
            counts (stands old counting later first tt put (kept_on values.extends (on later kept)))
            (subst (λ n. WordsAt later true true 0 n ws (length new))
            (longer old counting first put)
            (values.lies later (on later kept) true (length new)
            (subst (λ n. WordsAt later true true count (length between) no_words n)
            (sym (longer between new last ends))
            (says (stands between new later last tt ends kept)))));
      }

  -- where nothing was put, what is put after that was put there
  pub own_after : (old between new : List (Instruction A)) (ws : Words) (first second : Bool) →
      OwnBlock first old between ws → first ≡ false → OwnBlock second between new ws →
      OwnBlock second old new ws
  own_after old between new ws first second block none put =
      subst (λ code. OwnBlock second code new ws)
      (subst (λ b. OwnBlock b old between ws) none block) put

  -- a command that has code of its own
  pub own_command_block : (old first new : List (Instruction A)) (from_end : ℕ) (ws : Words) →
      first ≡ old ++ i.Next from_end ∷ [] → OwnBlock true first new ws → CommandBlock old new ws
  own_command_block old first new from_end ws put block =
      let it : Instruction A = i.Next from_end in record {
        extends = onward (extended old first it put) block.extends;
        lies = λ later kept. (
          from_end,
          stands old first later it tt put (kept_on block.extends kept),
          subst (λ n. CommandAt later n ws (length new)) (longer old first it put)
              (block.lies later kept),
        );
      }

  -- a command that has none
  pub command_block : (old first new : List (Instruction A)) (from_end : ℕ) (ws : Words) →
      first ≡ old ++ i.Next from_end ∷ [] → WordsBlock first new ws → CommandBlock old new ws
  command_block old first new from_end ws put block =
      own_command_block old first new from_end ws put (record {
        extends = block.extends;
        lies = λ later kept. by_words (block.lies later kept);
      })

  -- The commands that are left: where they lie, all of them lie.
  abbrev pub CommandsLeft : List (Instruction A) → List (Instruction A) → Commands → Commands →
      Type 0
  CommandsLeft old new rest whole = Block old new (λ later.
      (end : ℕ) → CommandsAt later (length new) rest end →
      CommandsAt later (length old) whole end)

  -- all commands are left
  pub no_command : (code : List (Instruction A)) (cs : Commands) → CommandsLeft code code cs cs
  no_command code cs = record { extends = same code; lies = λ later kept end lies. lies }

  -- after one more command
  pub command_left : (old before new : List (Instruction A)) (ws : Words)
      (some rest whole : Commands) → CommandsLeft old before some whole →
      CommandBlock before new ws → some ≡ command ws rest → CommandsLeft old new rest whole
  command_left old before new ws some rest whole left block is = record {
    extends = onward left.extends block.extends;
    lies = λ later kept end lies.
        let lain = block.lies later kept in
        left.lies later (kept_on block.extends kept) end
        (subst (λ c. CommandsAt later (length before) c end) (sym is)
        (next lain.1 lain.2 lies));
  }

  -- no command is left
  pub commands_block : (old new : List (Instruction A)) (rest whole : Commands) →
      CommandsLeft old new rest whole → rest ≡ no_commands → CommandsBlock old new whole
  commands_block old new rest whole left is = record {
    extends = left.extends;
    lies = λ later kept. left.lies later kept (length new)
        (subst (λ c. CommandsAt later (length new) c (length new)) (sym is) done);
  }
