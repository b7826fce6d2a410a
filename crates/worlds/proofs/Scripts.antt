-- What a call runs.
use Rattle.std.proofs.Common.{◌≡◌, ◌≢◌, Bool, List, [], ◌∷◌, ℕ, refl, sym, ap, subst, ◌∙◌, Vec, length}
use Rattle.std.specs.Prelude.{◌==◌, codes, IsErrAnd, IsErrOf, Option, Result, Ok, Err, Some, false, true}
use Rattle.std.specs.declared.io.Error.{Error}
use Rattle.std.specs.Borrow.{Bor}
use Rattle.std.specs.List.{slice_get}
use Rattle.std.specs.Option.{option_copied}
use Rattle.acts.specs.History.{History}
use Rattle.arguments.specs.declared.arguments.Arguments.{Arguments}
use Rattle.arguments.specs.Arguments.{Call, Holds, texts}
use Rattle.worlds.specs.Lacking.{IsOtherScript}
use Rattle.worlds.specs.Program.{IsLack, Runs, argv_of}
use Rattle.worlds.specs.Status.{file_outcome}
use Rattle.worlds.specs.Texts.{IsFirst}
use Rattle.worlds.specs.declared.input.Unread.{Unread}
use Rattle.worlds.specs.declared.input.Unread.TheVariants.{Refused}
use Rattle.worlds.specs.declared.status.Outcome.{Outcome}
use Rattle.arguments.proofs.Readings.{no_words, some_words}

-- a script's words are its name and its arguments
named : (words : List (List ℕ)) → words ≢ [] → argv_of words ≡ words
named [] some = absurd (some refl)
named (name ∷ args) some = refl

pub argv_named : {A : Type 0} (script : List (Vec ℕ A)) (said : List (List ℕ)) →
    (length script == 0) ≡ false → texts script ≡ said → texts script ≡ argv_of said
argv_named script said some is = is ∙ sym (named said (λ none. some_words script some (is ∙ none)))

-- the text of the file of the first word is the text of the first file
pub text_first : {A : Type 0} (is_of : List ℕ → List ℕ → Type 0) (words : List (Vec ℕ A))
    (name : Vec ℕ A) (said : List (List ℕ)) (text : List ℕ) → Some name ≡ slice_get words 0 →
    texts words ≡ said → is_of name.items text → IsFirst is_of said text
text_first is_of [] name said text first is holds = cc first
text_first is_of (word ∷ words) name said text first is holds =
    let same : name.items ≡ word.items = cc first in
    subst (λ names. IsFirst is_of names text) is (subst (λ one. is_of one text) same holds)

-- an error that is handed on is the one that was met
pub still_refused : {A : Type 0} (r : Result A Unread) (was why : Unread) →
    IsErrAnd r (λ error. error ≡ was) → IsErrOf r why → IsErrOf {T = A} {E = Unread} (Err was) why
still_refused (Ok answer) was why is refused = absurd is
still_refused (Err error) was why is refused =
    let same : error ≡ why = cc refused in ap Err (sym is ∙ same)

-- where the file of the first word is another one, that of the script is
pub other_first : {A : Type 0} (same : List ℕ → List ℕ → Bool → Type 0) (words : List (Vec ℕ A))
    (word : Vec ℕ A) (name : List ℕ) → Some word ≡ slice_get words 0 →
    (word.items ≢ codes "-" → same word.items name false) → IsOtherScript same (texts words) name
other_first same [] word name first other = tt
other_first same (one ∷ words) word name first other =
    let is : word.items ≡ one.items = cc first in
    subst (λ read. read ≢ codes "-" → same read name false) is other

-- where the file of the first word is not had, it is lacking
pub lacks_first : {A : Type 0} (missing : List ℕ → Type 0) (words : List (Vec ℕ A)) (name : Vec ℕ A)
    (lent : Bor (List ℕ)) (fault : Unread) (outcome : Outcome) → Some name ≡ slice_get words 0 →
    lent.now ≡ name.items → outcome ≡ file_outcome lent fault →
    (fault ≡ Refused → missing name.items) → IsLack missing (texts words) outcome
lacks_first missing [] name lent fault outcome first is tells lacks = cc first
lacks_first missing (word ∷ words) name lent fault outcome first is tells lacks =
    let same : name.items ≡ word.items = cc first in (
      lent,
      is ∙ same,
      fault,
      tells,
      λ refused. subst missing same (lacks refused),
    )

-- without a script file, the name is the program's
pub argv_own : {A : Type 0} (script : List (Vec ℕ A)) (said args : List (List ℕ)) →
    (length script == 0) ≡ true → texts script ≡ said → args ≡ argv_of [] → args ≡ argv_of said
argv_own script said args none is own = rw (sym is ∙ no_words script none) own

-- what the words of a call hold is what the call asks for
module _ {F I M O E A : Type 0} (opens : List ℕ → Result F Error → Type 0)
    (left : F → Option (List ℕ)) (reads : F → Result ℕ Error → F → Type 0)
    (rest : I → Option (List ℕ)) (takes : I → Result ℕ Error → I → Type 0)
    (makes : List ℕ → Result M Error → Type 0) (same : List ℕ → List ℕ → Bool → Type 0)
    (out : O → List ℕ → O → Type 0) (out_failed : O → Bool)
    (err : E → List ℕ → E → Type 0) (err_failed : E → Bool) (heard : History → Type 0)
    (text : List ℕ) (args : List (Vec ℕ A)) (before after : O × E) (status : ℕ) where
  -- it runs with so many ticks, under this record, and makes that one
  abbrev pub RunsBy : ℕ → (replay made : Option (List ℕ)) → Type 0
  RunsBy ticks replay made =
      Runs opens left reads rest takes makes same out out_failed err err_failed heard text args
      ticks replay made before after status

  pub runs_asked : {B : Type 0} (call : Arguments B) (asked : Call) → Holds call asked →
      RunsBy call.limits.ticks (option_copied call.replay) (option_copied call.made) →
      RunsBy asked.ticks asked.replay asked.made
  runs_asked call asked holds runs =
      subst (λ ticks. RunsBy ticks asked.replay asked.made) holds.ticks
      (subst (λ replay. RunsBy call.limits.ticks replay asked.made) holds.replay
      (subst (λ made. RunsBy call.limits.ticks (option_copied call.replay) made) holds.made runs))
