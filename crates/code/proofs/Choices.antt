-- The code of switch.
use Rattle.std.proofs.Common.{◌≡◌, ◌∙◌, ℕ, ◌+◌, ◌<◌, Bool, true, false, List, [], ◌∷◌, ◌++◌, codes, length, refl, sym, ap, subst, arith}
use Rattle.std.specs.Prelude.{◌==◌, ◌&&◌, Vec, slice_set}
use Rattle.std.proofs.lemmas.Bool.{ne_eqb}
use Rattle.std.proofs.lemmas.Slice.Eq.{bytes_eq-Decides}
use Rattle.std.specs.Str.{bytes_eq}
use Rattle.code.specs.Blocks.{ArmsBlock, Block, BodyBlock, ChosenBlock, IsReal, OwnBlock, PartsBlock, RestBlock, SwitchBlock}
use Rattle.code.specs.Code.{ArmsAt, At, BodyAt, RestAt, no_match, otherwise, shares, some_arms, switch_words, switched, takes, test_of, with_arms}
use Rattle.code.specs.Switch.{AreArms, AreWhole, IsShort, are_globs, is_default, last_arm, no_arm, one_arm}
use Rattle.code.specs.declared.instruction.Instruction.{Instruction}
use Rattle.code.specs.declared.instruction.Instruction.TheVariants as i
use Rattle.code.specs.declared.options.Options.{Options}
use Rattle.code.proofs.Built.{extended, kept_on, longer, onward, stands}
use Rattle.code.proofs.Forks.{filled_length, forked, second_begins}
use Rattle.code.proofs.Sequences.{filled_then}
use Rattle.tclparse.specs.Tree.{Parts}

-- two tests that hold
both : (a b : Bool) → (a && b) ≡ true → (a ≡ true) × (b ≡ true)
both true b is = (refl, is)
both false b is = absurd cc

-- what a last default is
default_parts : (pattern : List ℕ) (more : List (List ℕ)) → is_default pattern more ≡ true →
    (pattern ≡ codes "default") × (more ≡ [])
default_parts pattern [] is =
    let named = (both (bytes_eq pattern (codes "default")) true is).0 in
    ((bytes_eq-Decides pattern (codes "default")).0 named, refl)
default_parts pattern (m ∷ ms) is =
    let none : (length (m ∷ ms) == 0) ≡ false =
    ne_eqb (length (m ∷ ms)) 0 (λ e. omega (arith, e)) in
    let some = (both (bytes_eq pattern (codes "default")) (length (m ∷ ms) == 0) is).1 in
    absurd cc

module _ (globs : Bool) where
  -- where none is left, none lacks its body
  pub none_whole : (arms : List (List ℕ)) → length arms ≡ 0 → AreWhole globs arms
  none_whole [] none = no_arm
  none_whole (a ∷ arms) none = absurd (omega arith)

  -- the first pattern is not too long
  pub first_short : (pattern body : List ℕ) (more : List (List ℕ)) →
      AreWhole globs (pattern ∷ body ∷ more) → IsShort globs pattern
  first_short pattern body more (last_arm short own) = short
  first_short pattern body more (one_arm short rest) = short

  -- those that are left are whole
  pub rest_whole : (pattern body : List ℕ) (more : List (List ℕ)) →
      AreWhole globs (pattern ∷ body ∷ more) → AreWhole globs more
  rest_whole pattern body more (last_arm short own) = no_arm
  rest_whole pattern body more (one_arm short rest) = rest

  -- the last body is none that is shared
  pub last_own : (pattern body : List ℕ) → AreWhole globs (pattern ∷ body ∷ []) →
      bytes_eq body (codes "-") ≡ false
  last_own pattern body (last_arm short own) = own

  -- after a body that is shared a pattern is left
  pub shared_more : (pattern : List ℕ) (more : List (List ℕ)) →
      AreWhole globs (pattern ∷ codes "-" ∷ more) → 0 < length more
  shared_more pattern more (last_arm short own) = absurd cc
  shared_more pattern more (one_arm {next = next} {more = rest} short whole) = omega arith

  -- one more pattern with its body
  pub one_whole : (pattern body : List ℕ) (more : List (List ℕ)) → IsShort globs pattern →
      (length more ≡ 0 → bytes_eq body (codes "-") ≡ false) → AreWhole globs more →
      AreWhole globs (pattern ∷ body ∷ more)
  one_whole pattern body [] short own rest = last_arm short (own refl)
  one_whole pattern body (next ∷ more) short own rest = one_arm short rest

-- what compares the string stands for good
test_real : (A : Type 0) (globs : Bool) (pattern : List ℕ) (here other : ℕ) →
    IsReal (test_of {A = A} globs pattern here other)
test_real A false pattern here other = tt
test_real A true pattern here other = tt

module _ {A : Type 0} where
  -- an instruction, and then a block
  put_then : (old mid new : List (Instruction A)) (it : Instruction A)
      (Lies : List (Instruction A) → Type 0) → IsReal it → mid ≡ old ++ it ∷ [] →
      Block mid new Lies → Block old new (λ later. At later (length old) it × Lies later)
  put_then old mid new it Lies real put block = record {
    extends = onward (extended old mid it put) block.extends;
    lies = λ later kept. (
      stands old mid later it real put (kept_on block.extends kept),
      block.lies later kept,
    );
  }

  -- a body, before which the string is dropped
  pub chosen_block : (old dropped new : List (Instruction A)) (body : List ℕ) →
      dropped ≡ old ++ i.Discard ∷ [] → BodyBlock dropped new body → ChosenBlock old new body
  chosen_block old dropped new body put bodies =
      let all = put_then old dropped new i.Discard
      (λ later. BodyAt later (length dropped) body (length new)) tt put bodies in record {
        extends = all.extends;
        lies = λ later kept.
            let lies = all.lies later kept in (
              lies.0,
              subst (λ n. BodyAt later n body (length new)) (longer old dropped i.Discard put)
                  lies.1,
            );
      }

  -- a last default
  pub otherwise_block : (old new : List (Instruction A)) (globs : Bool) (body : List ℕ) →
      bytes_eq body (codes "-") ≡ false → ChosenBlock old new body →
      ArmsBlock globs (length old) old new (codes "default" ∷ body ∷ [])
  otherwise_block old new globs body own chosen = record {
    extends = chosen.extends;
    lies = λ later kept.
        let lies = chosen.lies later kept in otherwise lies.0 own lies.1;
  }

  -- a pattern that shares the body of the next one
  pub shared_block : (old hole all new : List (Instruction A)) (globs : Bool) (pattern : List ℕ)
      (more : List (List ℕ)) (taken : ℕ) → is_default pattern more ≡ false →
      IsShort globs pattern → hole ≡ old ++ i.Hole ∷ [] → ArmsBlock globs taken hole all more →
      new ≡ slice_set all (length old) (test_of globs pattern taken (length hole)) →
      ArmsBlock globs taken old new (pattern ∷ codes "-" ∷ more)
  shared_block old hole all new globs pattern more taken other short put arms fill =
      let n = length old in
      let it : Instruction A = test_of globs pattern taken (length hole) in
      let at_next : length hole ≡ n + 1 = longer old hole i.Hole put in
      let at_end : length all ≡ length new = sym (filled_length all new n it fill) in
      let block = filled_then old hole all new it
      (λ later. ArmsAt later globs (length hole) taken more (length all))
      (test_real A globs pattern taken (length hole)) put arms fill in
      record {
        extends = block.extends;
        lies = λ later kept.
            let lies = block.lies later kept in
            shares other (record {
              short = short;
              test = subst (λ k. At later n (test_of globs pattern taken k)) at_next lies.0;
            })
            (subst (λ k. ArmsAt later globs (n + 1) taken more k) at_end
            (subst (λ k. ArmsAt later globs k taken more (length all)) at_next lies.1));
      }

  -- a pattern with its own body
  pub arm_block : (old hole one two filled_one all new : List (Instruction A)) (globs : Bool)
      (pattern body : List ℕ) (more : List (List ℕ)) → is_default pattern more ≡ false →
      IsShort globs pattern → bytes_eq body (codes "-") ≡ false → hole ≡ old ++ i.Hole ∷ [] →
      ChosenBlock hole one body → two ≡ one ++ i.Hole ∷ [] →
      filled_one ≡ slice_set two (length old) (test_of globs pattern (length hole) (length two)) →
      RestBlock globs filled_one all more →
      new ≡ slice_set all (length one) (i.Jump (length all)) →
      ArmsBlock globs (length hole) old new (pattern ∷ body ∷ more)
  arm_block old hole one two filled_one all new globs pattern body more other short own put_one
      chosen put_two fill_one rest fill_two =
      let n = length old in
      let taken = length hole in
      let at_body : taken ≡ n + 1 = longer old hole i.Hole put_one in
      let fork = forked old hole one two filled_one all new (λ k. test_of globs pattern taken k)
      (λ k. test_real A globs pattern taken k)
      (λ later. At later taken i.Discard × BodyAt later (taken + 1) body (length one))
      (λ later. RestAt later globs (length filled_one) more (length all)) put_one chosen put_two
      fill_one rest fill_two in
      record {
        extends = fork.extends;
        lies = λ later kept.
            let lies = fork.lies later kept in
            subst (λ k. ArmsAt later globs n k (pattern ∷ body ∷ more) (length new)) (sym at_body)
            (takes other own (record {
              short = short;
              test = subst (λ k. At later n (test_of globs pattern k (length one + 1))) at_body
                  lies.0;
            })
            (subst (λ k. At later k i.Discard) at_body lies.1.0)
            (subst (λ k. BodyAt later (k + 1) body (length one)) at_body lies.1.1)
            lies.2
            (subst (λ k. RestAt later globs (length one + 1) more k)
            (sym (filled_length all new (length one) (i.Jump (length all)) fill_two))
            (subst (λ k. RestAt later globs k more (length all))
            (second_begins one two filled_one n (test_of globs pattern taken (length two)) put_two
            fill_one)
            lies.3)));
      }

  -- the first pattern that is left is a last default
  pub default_arms : (old new : List (Instruction A)) (globs : Bool) (arms : List (List ℕ))
      (pattern body : List ℕ) (more : List (List ℕ)) → arms ≡ pattern ∷ body ∷ more →
      is_default pattern more ≡ true → AreWhole globs arms → ChosenBlock old new body →
      ArmsBlock globs (length old) old new arms
  default_arms old new globs arms pattern body more split is whole chosen =
      let parts = default_parts pattern more is in
      let known : arms ≡ codes "default" ∷ body ∷ [] =
      split ∙ ap (λ p. p ∷ body ∷ more) parts.0
      ∙ ap (λ rest. codes "default" ∷ body ∷ rest) parts.1 in
      subst (λ ws. ArmsBlock globs (length old) old new ws) (sym known)
      (otherwise_block old new globs body
      (last_own globs (codes "default") body (subst (λ ws. AreWhole globs ws) known whole)) chosen)

  -- it shares the body of the next one
  pub shared_arms : (old new : List (Instruction A)) (globs : Bool) (arms : List (List ℕ))
      (pattern body : List ℕ) (more : List (List ℕ)) (taken : ℕ) →
      arms ≡ pattern ∷ body ∷ more → bytes_eq body (codes "-") ≡ true → AreWhole globs arms →
      (IsShort globs pattern → 0 < length more → AreWhole globs more →
      ArmsBlock globs taken old new (pattern ∷ codes "-" ∷ more)) →
      ArmsBlock globs taken old new arms
  shared_arms old new globs arms pattern body more taken split same whole block =
      let known : arms ≡ pattern ∷ codes "-" ∷ more =
      split ∙ ap (λ b. pattern ∷ b ∷ more) ((bytes_eq-Decides body (codes "-")).0 same) in
      let all = subst (λ ws. AreWhole globs ws) known whole in
      subst (λ ws. ArmsBlock globs taken old new ws) (sym known)
      (block (first_short globs pattern (codes "-") more all) (shared_more globs pattern more all)
      (rest_whole globs pattern (codes "-") more all))

  -- it has its own body
  pub own_arms : (old new : List (Instruction A)) (globs : Bool) (arms : List (List ℕ))
      (pattern body : List ℕ) (more : List (List ℕ)) (taken : ℕ) →
      arms ≡ pattern ∷ body ∷ more → AreWhole globs arms →
      (IsShort globs pattern → AreWhole globs more →
      ArmsBlock globs taken old new (pattern ∷ body ∷ more)) →
      ArmsBlock globs taken old new arms
  own_arms old new globs arms pattern body more taken split whole block =
      let all = subst (λ ws. AreWhole globs ws) split whole in
      subst (λ ws. ArmsBlock globs taken old new ws) (sym split)
      (block (first_short globs pattern body more all) (rest_whole globs pattern body more all))

  -- some patterns are left
  pub some_block : (old new : List (Instruction A)) (globs : Bool) (taken : ℕ)
      (arms : List (List ℕ)) → ArmsBlock globs taken old new arms → RestBlock globs old new arms
  some_block old new globs taken arms block = record {
    extends = block.extends;
    lies = λ later kept. some_arms (block.lies later kept);
  }

  -- none is left
  pub none_block : (old dropped new : List (Instruction A)) (globs : Bool)
      (arms : List (List ℕ)) → length arms ≡ 0 → dropped ≡ old ++ i.Discard ∷ [] →
      new ≡ dropped ++ i.Text [] ∷ [] → RestBlock globs old new arms
  none_block old dropped new globs (a ∷ arms) none drops put = absurd (omega arith)
  none_block old dropped new globs [] none drops put =
      let it : Instruction A = i.Text [] in
      let at_value : length dropped ≡ length old + 1 = longer old dropped i.Discard drops in
      let at_end : length new ≡ length old + 1 + 1 =
      longer dropped new it put ∙ ap (λ n. n + 1) at_value in
      record {
        extends = onward (extended old dropped i.Discard drops) (extended dropped new it put);
        lies = λ later kept.
            subst (λ n. RestAt later globs (length old) [] n) (sym at_end)
            (no_match
            (stands old dropped later i.Discard tt drops (kept_on (extended dropped new it put)
            kept))
            (subst (λ n. At later n it) at_value (stands dropped new later it tt put kept)));
      }

  -- the patterns with their bodies, where no procedure hides the command
  pub switch_block : (old hole dealt new : List (Instruction A)) (options : Options)
      (after : Vec (List ℕ) A) (arms : List (List ℕ)) → AreArms arms after.items →
      hole ≡ old ++ i.Hole ∷ [] → RestBlock (are_globs options.flag) hole dealt arms →
      new ≡ slice_set dealt (length old) (i.Switch options after (length dealt)) →
      SwitchBlock old new options after.items
  switch_block old hole dealt new options after arms are put_hole rest fill =
      let n = length old in
      let globs = are_globs options.flag in
      let it : Instruction A = i.Switch options after (length dealt) in
      let at_rest : length hole ≡ n + 1 = longer old hole i.Hole put_hole in
      let at_end : length dealt ≡ length new = sym (filled_length dealt new n it fill) in
      let all = filled_then old hole dealt new it
      (λ later. RestAt later globs (length hole) arms (length dealt)) tt put_hole rest fill in
      record {
        extends = all.extends;
        lies = λ later kept.
            let lies = all.lies later kept in
            with_arms after refl are
            (subst (λ k. At later n (i.Switch options after k)) at_end lies.0)
            (subst (λ k. RestAt later globs (n + 1) arms k) at_end
            (subst (λ k. RestAt later globs k arms (length dealt)) at_rest lies.1));
      }

  -- the string before that
  pub string_block : (old listed new : List (Instruction A)) (options : Options)
      (string : Parts) (after : List (List ℕ)) → PartsBlock old listed string →
      SwitchBlock listed new options after →
      OwnBlock true old new (switch_words options string after)
  string_block old listed new options string after strings choice = record {
    extends = onward strings.extends choice.extends;
    lies = λ later kept. switched (strings.lies later (kept_on choice.extends kept))
        (choice.lies later kept);
  }
