-- A command that has code of its own.
use Rattle.std.proofs.Common.{◌≡◌, ◌∙◌, ℕ, ◌+◌, false, true, List, [], ◌∷◌, ◌++◌, codes, length, Option, Some, None, IfSome, sym, ap, subst}
use Rattle.std.proofs.lemmas.Slice.Eq.{bytes_eq-Decides}
use Rattle.std.specs.Prelude.{IsSomeAnd, MatchOption, slice_set}
use Rattle.std.specs.Str.{bytes_eq}
use Rattle.code.specs.Blocks.{BranchesBlock, ItsBlock, OwnBlock, TurnsBlock, WordsBlock}
use Rattle.code.specs.Code.{At, CommandAt, HasFormula, OwnAt, TurnsAt, WordsAt, conditional, own, while_loop}
use Rattle.code.specs.Branching.{branches_of}
use Rattle.code.specs.Literals.{Are}
use Rattle.code.specs.Own.{IsOwn, name_of}
use Rattle.code.specs.Repeat.{for_args}
use Rattle.code.specs.declared.branches.Branches.{Branches}
use Rattle.code.specs.declared.instruction.Instruction.{Instruction}
use Rattle.code.specs.declared.instruction.Instruction.TheVariants as i
use Rattle.code.specs.declared.own.Own.{Own}
use Rattle.code.specs.declared.own.Own.TheVariants as read
use Rattle.code.specs.declared.repeat.For.{For}
use Rattle.code.specs.declared.repeat.Turns.{Turns}
use Rattle.code.proofs.Built.{longer}
use Rattle.code.proofs.Forks.{filled_length, forked, second_begins}
use Rattle.tclparse.specs.Tree.{Words, literals}
use Rattle.tclparse.specs.declared.tree.Word.{Word}

module _ {A : Type 0} where
  -- a command of this name, by what the words after that are read as
  pub read_by_name : {X : Type 0} (make : X → Own A) (known name : List ℕ)
      (texts args : List (List ℕ)) (read : Option X) (made : Option (Own A)) →
      ((it : X) → name_of (make it) ≡ known) → bytes_eq name known ≡ true → texts ≡ name ∷ args →
      IfSome read (λ it. IsOwn (make it) args) →
      MatchOption read (made ≡ None) (λ it. IsSomeAnd made (λ o. o ≡ make it)) →
      IfSome made (λ it. (args : List (List ℕ)) × (texts ≡ name_of it ∷ args) × IsOwn it args)
  read_by_name make known name texts args read None named same are is made = tt
  read_by_name make known name texts args None (Some known_it) named same are is made = absurd cc
  read_by_name make known name texts args (Some it) (Some known_it) named same are is made = (
    args,
    are ∙ ap (λ n. n ∷ args) ((bytes_eq-Decides name known).0 same ∙ sym (named it)
        ∙ ap (λ o. name_of o) (sym made)),
    subst (λ o. IsOwn o args) (sym made) is,
  )

  -- words that are these texts
  pub read_of_literals : (ws : List (Word A)) (texts : List (List ℕ)) (read : Option (Own A)) →
      Are ws texts →
      IfSome read (λ it. (args : List (List ℕ)) × (texts ≡ name_of it ∷ args) × IsOwn it args) →
      IfSome read (λ it. (args : List (List ℕ)) × Are ws (name_of it ∷ args) × IsOwn it args)
  read_of_literals ws texts None are is = is
  read_of_literals ws texts (Some known_it) are is =
      (is.0, subst (λ them. Are ws them) is.1 are, is.2)

  -- the words of a command, for where a procedure hides it, and then its own code
  pub own_block : (old hole one two filled_one all new : List (Instruction A))
      (name known : List ℕ) (args : List (List ℕ)) (ws : Words) → name ≡ known →
      ws ≡ literals (known ∷ args) → hole ≡ old ++ i.Hole ∷ [] → WordsBlock hole one ws →
      two ≡ one ++ i.Hole ∷ [] →
      filled_one ≡ slice_set two (length old) (i.Unhidden name (length two)) →
      ItsBlock known filled_one all args →
      new ≡ slice_set all (length one) (i.Jump (length all)) → OwnBlock true old new ws
  own_block old hole one two filled_one all new name known args ws named are put_one worded put_two
      fill_one second fill_two =
      let fork = forked old hole one two filled_one all new (λ n. i.Unhidden name n) (λ n. tt)
      (λ later. WordsAt later false false 0 (length hole) ws (length one))
      (λ later. OwnAt later known (length filled_one) args (length all))
      put_one worded put_two fill_one second fill_two in
      record {
        extends = fork.extends;
        lies = λ later kept.
            let lies = fork.lies later kept in
            subst (λ w. CommandAt later (length old) w (length new)) (sym are)
            (own
            (subst (λ n. At later (length old) (i.Unhidden n (length one + 1))) named lies.0)
            (subst (λ k. WordsAt later false false 0 k (literals (known ∷ args)) (length one))
            (longer old hole i.Hole put_one)
            (subst (λ w. WordsAt later false false 0 (length hole) w (length one)) are lies.1))
            lies.2
            (subst (λ k. OwnAt later known (length one + 1) args k)
            (sym (filled_length all new (length one) (i.Jump (length all)) fill_two))
            (subst (λ k. OwnAt later known k args (length all))
            (second_begins one two filled_one (length old) (i.Unhidden name (length two)) put_two
            fill_one)
            lies.3)));
      }

  -- what if does
  pub if_block : (old new : List (Instruction A)) (known : Own A) (it : Branches A) →
      known ≡ read.If it → BranchesBlock old new (branches_of it).tests it.otherwise →
      (args : List (List ℕ)) → IsOwn known args → ItsBlock (name_of known) old new args
  if_block old new known it is put args read_as =
      subst (λ o. IsOwn o args → ItsBlock (name_of o) old new args) (sym is)
      (λ r. record {
        extends = put.extends;
        lies = λ later kept. conditional {found = branches_of it} r (put.lies later kept);
      }) read_as

  -- what while does
  pub while_block : (old new : List (Instruction A)) (known : Own A) (it : Turns A) →
      known ≡ read.While it → (HasFormula it.test → TurnsBlock old new it.test it.step it.body) →
      (args : List (List ℕ)) → IsOwn known args → ItsBlock (name_of known) old new args
  while_block old new known it is block args read_as =
      subst (λ o. IsOwn o args → ItsBlock (name_of o) old new args) (sym is)
      (λ r. let put = block r.1 in
      subst (λ texts. ItsBlock (codes "while") old new texts) (sym r.2)
      (record {
        extends = put.extends;
        lies = λ later kept. while_loop
            (subst (λ s. TurnsAt later (length old) it.test s it.body (length new)) r.0
            (put.lies later kept));
      }))
      read_as

  -- what for does
  pub for_block : (old new : List (Instruction A)) (known : Own A) (it : For A) →
      known ≡ read.For it →
      ((step : List ℕ) → it.turns.step ≡ Some step → HasFormula it.turns.test →
      ItsBlock (codes "for") old new (for_args it step)) →
      (args : List (List ℕ)) → IsOwn known args → ItsBlock (name_of known) old new args
  for_block old new known it is block args read_as =
      subst (λ o. IsOwn o args → ItsBlock (name_of o) old new args) (sym is)
      (λ r. subst (λ texts. ItsBlock (codes "for") old new texts) (sym r.3)
      (block r.0 r.1 r.2))
      read_as
