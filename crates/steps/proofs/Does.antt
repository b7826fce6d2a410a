-- The results of taking operands off, of reading variables and of reading lists.
use Rattle.std.proofs.Common.{◌≡◌, ◌∙◌, ℕ, zero, suc, ◌-◌, ◌<◌, List, [], ◌∷◌, ◌++◌, Option, Some, Result, Ok, Err, MatchResult, sym, ap, subst, option_to_list, arith}
use Rattle.std.specs.Prelude.{reverse}
use Rattle.std.proofs.lemmas.List.{reverse-append}
use Rattle.acts.specs.Flaw as acts
use Rattle.code.specs.declared.instruction.Instruction.{Instruction}
use Rattle.acts.specs.declared.raise.Raise.TheVariants as raise
use Rattle.meanings.specs.Meaning.{Answer, Comes, Gives, IsSplit, flaw_of_list}
use Rattle.meanings.specs.View.{IsNoList}
use Rattle.state.specs.Prelude.{Fault, flaw_of, Scopes, Status}
use Rattle.state.specs.Piece.{ListText}
use Rattle.state.specs.Stores.{IsTold}
use Rattle.state.specs.Variables.{flaw_of_trouble, spelled}
use Rattle.steps.specs.Does.{Does, same, reads}
use Rattle.steps.specs.Machine.{does, reading, running, with_value}
use Rattle.steps.specs.Handling.{fails}
use Rattle.steps.specs.Spot.{Spot, Did, Reads, Runs, Went, with_top}
use Rattle.tclstate.specs.Scopes.{Trouble, read}
use Rattle.tclstate.specs.ScopeError.{HasTrouble}
use Rattle.tclstate.specs.declared.error.ScopeError.{ScopeError}
use Rattle.tclstate.specs.declared.error.ScopeError.TheVariants as error
use Rattle.tcltext.specs.Flaw.{Flaw}

-- results that are the same
pub same_does : {a b : Did} → b ≡ a → Does a b
same_does {a = a} is = subst (λ d. Does a d) (sym is) same

-- an instruction does what its kind does
pub does_so : {A : Type 0} (it known : Instruction A) (spot : Spot) (s : Status) {did : Did} →
    it ≡ known → Does (does known spot s) did → Does (does it spot s) did
does_so it known spot s {did = did} is d = subst (λ i. Does (does i spot s) did) (sym is) d

-- the script of a text runs where a level is left
pub runs_so : (levels : ℕ) (text : List ℕ) (spot : Spot) (s : Status) → 0 < levels →
    Runs text (levels - 1) spot s ≡ running levels text spot s
runs_so zero text spot s some = absurd (omega (arith, some))
runs_so (suc levels) text spot s some =
    let one_less : suc levels - 1 ≡ levels = omega arith in ap (λ n. Runs text n spot s) one_less

-- an operand was taken off
pub one_on_top : {V : Type 0} (old new : List V) (taken : Option V) (v : V) →
    old ≡ new ++ option_to_list taken → taken ≡ Some v → reverse old ≡ v ∷ reverse new
one_on_top old new taken v is some =
    ap reverse (is ∙ ap (λ o. new ++ option_to_list o) some) ∙ reverse-append new (v ∷ [])

-- two operands were taken off
pub two_on_top : {V : Type 0} (old more new : List V) (first second : Option V) (v w : V) →
    old ≡ more ++ option_to_list first → first ≡ Some v → more ≡ new ++ option_to_list second →
    second ≡ Some w → reverse old ≡ v ∷ w ∷ reverse new
two_on_top old more new first second v w one some two other =
    one_on_top old more first v one some
    ∙ ap (λ os. v ∷ os) (one_on_top more new second w two other)

troubled : (s : Status) (scopes : Scopes) (name : List ℕ) (index : Option (List ℕ))
    (trouble : Trouble) (flaw : acts.Flaw) (spot : Spot) → s.scopes ≡ scopes →
    read scopes name index ≡ Err trouble → flaw ≡ flaw_of_trouble trouble (spelled name index) →
    fails flaw spot s ≡ reading name index spot s
troubled s scopes name index trouble flaw spot same_scopes is told =
    ap (λ f. fails f spot s) told
    ∙ sym (ap (λ r. with_value r (spelled name index) spot s (λ value. Went (with_top value spot) s))
    (ap (λ x. read x name index) same_scopes ∙ is))

-- a variable that could not be read
pub unread : {A : Type 0} (s : Status) (scopes : Scopes) (name : List ℕ) (index : Option (List ℕ))
    (why : ScopeError) (fault : Fault A) (spot : Spot) → s.scopes ≡ scopes →
    HasTrouble why (read scopes name index) → IsTold fault why name index →
    fails (flaw_of fault) spot s ≡ reading name index spot s
unread s scopes name index error.NoVariable fault spot same_scopes is told =
    troubled s scopes name index _ (flaw_of fault) spot same_scopes is told
unread s scopes name index error.IsArray fault spot same_scopes is told =
    troubled s scopes name index _ (flaw_of fault) spot same_scopes is told
unread s scopes name index error.NotArray fault spot same_scopes is told =
    troubled s scopes name index _ (flaw_of fault) spot same_scopes is told
unread s scopes name index error.NoElement fault spot same_scopes is told =
    troubled s scopes name index _ (flaw_of fault) spot same_scopes is told
unread s scopes name index (error.NoMemory e) fault spot same_scopes is told = absurd told

unsplit : (text : List ℕ) (flaw : acts.Flaw) (next : Result (List (List ℕ)) Flaw → Did)
    (did : Did) (split : Result (List (List ℕ)) Flaw) → IsSplit text split →
    (let answer : Answer = Err flaw in
    MatchResult split (λ elements. Comes (Gives []) answer)
    (λ why. answer ≡ Err (flaw_of_list why))) →
    ((why : Flaw) → flaw ≡ flaw_of_list why → did ≡ next (Err why)) → Does (Reads (ListText text) next) did
unsplit text flaw next did (Ok elements) is differs f = absurd (cc)
unsplit text flaw next did (Err why) is told f =
    let same_flaw : flaw ≡ flaw_of_list why = cc in
    reads {text = ListText text} (Err why) is (same_does (f why same_flaw))

-- a text that is no list
pub no_list_does : {A : Type 0} (text : List ℕ) (fault : Fault A)
    (next : Result (List (List ℕ)) Flaw → Did) (did : Did) → IsNoList text (raise.Fault fault) →
    ((why : Flaw) → flaw_of fault ≡ flaw_of_list why → did ≡ next (Err why)) →
    Does (Reads (ListText text) next) did
no_list_does text fault next did is f =
    let none = is (λ elements. Gives []) in
    unsplit text (flaw_of fault) next did none.0 none.1 none.2 f
