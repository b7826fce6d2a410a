-- The code of the parts of a word.
use Rattle.std.proofs.Common.{◌≡◌, ℕ, true, false, List, [], ◌∷◌, ◌++◌, length, sym, subst}
use Rattle.code.specs.Blocks.{Block, CommandsBlock, PartsBlock, ValueBlock}
use Rattle.code.specs.Code.{JoinsAt, PartsAt, CommandsAt, first, joined, over, empty, text, value, item, bracket}
use Rattle.code.specs.declared.instruction.Instruction.{Instruction}
use Rattle.code.specs.declared.instruction.Instruction.TheVariants as i
use Rattle.code.proofs.Built.{extended, kept_on, longer, onward, stands}
use Rattle.tclparse.specs.Tree.{Parts, no_parts, variable, element, script, Commands, bytes_then}

module _ {A : Type 0} where
  -- a literal text
  pub text_block : (old new : List (Instruction A)) (bytes : List ℕ) (front : Parts → Parts) →
      new ≡ old ++ i.Text bytes ∷ [] → ((t : Parts) → front t ≡ bytes_then bytes t) →
      ValueBlock old new front
  text_block old new bytes front put is = record {
    extends = extended old new (i.Text bytes) put;
    lies = λ later kept more mid t end joins rest.
        subst (λ p. PartsAt later more (length old) p end) (sym (is t))
        (text bytes (stands old new later (i.Text bytes) tt put kept)
        (subst (λ n. JoinsAt later more n mid) (longer old new (i.Text bytes) put) joins) rest);
  }

  -- a variable
  pub variable_block : (old new : List (Instruction A)) (name : List ℕ) (front : Parts → Parts) →
      new ≡ old ++ i.Variable name ∷ [] → ((t : Parts) → front t ≡ variable name t) →
      ValueBlock old new front
  variable_block old new name front put is = record {
    extends = extended old new (i.Variable name) put;
    lies = λ later kept more mid t end joins rest.
        subst (λ p. PartsAt later more (length old) p end) (sym (is t))
        (value (stands old new later (i.Variable name) tt put kept)
        (subst (λ n. JoinsAt later more n mid) (longer old new (i.Variable name) put) joins)
        rest);
  }

  -- an element of an array, after the parts of its index
  pub element_block : (old between new : List (Instruction A)) (name : List ℕ) (index : Parts)
      (front : Parts → Parts) → PartsBlock old between index →
      new ≡ between ++ i.Element name ∷ [] → ((t : Parts) → front t ≡ element name index t) →
      ValueBlock old new front
  element_block old between new name index front inside put is = record {
    extends = onward inside.extends (extended between new (i.Element name) put);
    lies = λ later kept more mid t end joins rest.
        subst (λ p. PartsAt later more (length old) p end) (sym (is t))
        (item (inside.lies later (kept_on (extended between new (i.Element name) put) kept))
        (stands between new later (i.Element name) tt put kept)
        (subst (λ n. JoinsAt later more n mid) (longer between new (i.Element name) put) joins) rest);
  }

  -- a script in brackets, between the instructions that enter and leave it
  pub bracket_block : (old entered between new : List (Instruction A)) (commands : Commands)
      (front : Parts → Parts) → entered ≡ old ++ i.Enter ∷ [] →
      CommandsBlock entered between commands → new ≡ between ++ i.Leave ∷ [] →
      ((t : Parts) → front t ≡ script commands t) → ValueBlock old new front
  bracket_block old entered between new commands front enters inside put is = record {
    extends = onward (extended old entered i.Enter enters)
        (onward inside.extends (extended between new i.Leave put));
    lies = λ later kept more mid t end joins rest.
        let on = kept_on (extended between new i.Leave put) kept in
        subst (λ p. PartsAt later more (length old) p end) (sym (is t))
        (bracket (stands old entered later i.Enter tt enters (kept_on inside.extends on))
        (subst (λ n. CommandsAt later n commands (length between))
        (longer old entered i.Enter enters) (inside.lies later on))
        (stands between new later i.Leave tt put kept)
        (subst (λ n. JoinsAt later more n mid) (longer between new i.Leave put) joins) rest);
  }

  -- a word without parts is the empty text
  pub empty_block : (old new : List (Instruction A)) → new ≡ old ++ i.Text [] ∷ [] →
      PartsBlock old new no_parts
  empty_block old new put = record {
    extends = extended old new (i.Text []) put;
    lies = λ later kept. subst (λ n. PartsAt later false (length old) no_parts n)
        (sym (longer old new (i.Text []) put))
        (empty (stands old new later (i.Text []) tt put kept));
  }

  -- The parts of a word that are left: where they lie, the whole word lies.
  abbrev pub PartsLeft : List (Instruction A) → List (Instruction A) → Parts → Parts → Type 0
  PartsLeft old new rest whole = Block old new (λ later.
      (end : ℕ) → PartsAt later true (length new) rest end →
      PartsAt later false (length old) whole end)

  -- after the first part of a word
  pub first_left : (old new : List (Instruction A)) (front : Parts → Parts) (rest whole : Parts) →
      ValueBlock old new front → whole ≡ front rest → PartsLeft old new rest whole
  first_left old new front rest whole block is = record {
    extends = block.extends;
    lies = λ later kept end lies.
        subst (λ p. PartsAt later false (length old) p end) (sym is)
        (block.lies later kept false (length new) rest end first lies);
  }

  -- after one more part, which is joined to those before it
  pub next_left : (old before between new : List (Instruction A)) (front : Parts → Parts)
      (some rest whole : Parts) → PartsLeft old before some whole →
      ValueBlock before between front → some ≡ front rest → new ≡ between ++ i.Join ∷ [] →
      PartsLeft old new rest whole
  next_left old before between new front some rest whole left block is put = record {
    extends = onward left.extends (onward block.extends (extended between new i.Join put));
    lies = λ later kept end lies.
        let on = kept_on (extended between new i.Join put) kept in
        left.lies later (kept_on block.extends on) end
        (subst (λ p. PartsAt later true (length before) p end) (sym is)
        (block.lies later on true (length new) rest end
        (subst (λ n. JoinsAt later true (length between) n)
        (sym (longer between new i.Join put))
        (joined (stands between new later i.Join tt put kept))) lies));
  }

  -- no part is left
  pub word_block : (old new : List (Instruction A)) (rest whole : Parts) →
      PartsLeft old new rest whole → rest ≡ no_parts → PartsBlock old new whole
  word_block old new rest whole left is = record {
    extends = left.extends;
    lies = λ later kept. left.lies later kept (length new)
        (subst (λ p. PartsAt later true (length new) p (length new)) (sym is) over);
  }
