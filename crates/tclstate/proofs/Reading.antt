-- How formals are read, one by one.
use Rattle.std.proofs.Common.{◌≡◌, ℕ, zero, suc, ◌+◌, ◌-◌, ◌<◌, ◌≤◌, List, [], ◌∷◌, ◌++◌, length, get_or, take, drop, Bool, true, false, Option, Some, None, if◌then◌else◌, refl, sym, ap, subst, ◌∙◌, append_assoc, add-one, drop-cons, arith}
use Rattle.std.proofs.lemmas.List.{append-nil}
use Rattle.std.proofs.Math.ListN.{drop_of_length-le}
use Rattle.std.specs.Str.{bytes_eq}
use Rattle.std.specs.Prelude.{IfSome}
use Rattle.memory.specs.declared.NoMemory.{NoMemory}
use Rattle.tcltext.specs.Flaw.{open_brace, open_quote, after_brace, after_quote, escape_not_here}
use Rattle.tcltext.specs.Elements.{IsList, HasFlaw}
use Rattle.tcltext.specs.Seen.{flaw_of}
use Rattle.tcltext.specs.declared.list.fault.ListFault.{ListFault}
use Rattle.tcltext.specs.declared.list.fault.ListFault.TheVariants as fault
use Rattle.tcltext.proofs.Unique.{one_list, no_list_with_flaw}
use Rattle.tclstate.specs.declared.formals.FormalsError.{FormalsError}
use Rattle.tclstate.specs.declared.formals.FormalsError.TheVariants as error
use Rattle.tclstate.specs.Formals.{Formal, parts, IsFormal, AreFormals, args, takes_rest, single}
use Rattle.tclstate.specs.FormalsError.{HasFault, IsNoFormal}

-- a text with a flaw is no formal
pub flaw_no_formal : (f : ListFault) (text : List ℕ) → ((r : NoMemory) → f ≡ fault.NoMemory r → ⊥) →
    IfSome (flaw_of f) (λ flaw. HasFlaw flaw text) → (x : Formal) → IsFormal x text → ⊥
flaw_no_formal fault.OpenBrace text never h x is =
    no_list_with_flaw text (parts x.name x.default) open_brace is h
flaw_no_formal fault.OpenQuote text never h x is =
    no_list_with_flaw text (parts x.name x.default) open_quote is h
flaw_no_formal fault.AfterBrace text never h x is =
    no_list_with_flaw text (parts x.name x.default) after_brace is h
flaw_no_formal fault.AfterQuote text never h x is =
    no_list_with_flaw text (parts x.name x.default) after_quote is h
flaw_no_formal (fault.NoMemory r) text never h x is = never r refl
flaw_no_formal fault.EscapeNotHere text never h x is =
    no_list_with_flaw text (parts x.name x.default) escape_not_here is h

count_of : (name : List ℕ) (default : Option (List ℕ)) → (length (parts name default) ≡ 1 → ⊥) →
    (length (parts name default) ≡ 2 → ⊥) → ⊥
count_of name None one two = one refl
count_of name (Some d) one two = two refl

-- a list of another length is no formal
pub wrong_count : (v : List (List ℕ)) (text : List ℕ) → IsList v text → (length v ≡ 1 → ⊥) →
    (length v ≡ 2 → ⊥) → (x : Formal) → IsFormal x text → ⊥
wrong_count v text list one two x is =
    let same : length (parts x.name x.default) ≡ length v =
    ap length (one_list text (parts x.name x.default) v is list) in
    count_of x.name x.default (λ e. one (sym same ∙ e)) (λ e. two (sym same ∙ e))

-- each text in a list of formals is a formal
formal_at : (fs : List Formal) (ts : List (List ℕ)) (i : ℕ) (t : List ℕ) → AreFormals fs ts →
    i < length ts → t ≡ get_or ts i t → (f : Formal) × IsFormal f t
formal_at [] [] i t h lt is = absurd (omega arith)
formal_at [] (u ∷ ts) i t h lt is = absurd h
formal_at (f ∷ fs) [] i t h lt is = absurd h
formal_at (f ∷ fs) (u ∷ ts) zero t h lt is = (f, subst (IsFormal f) (sym is) h.0)
formal_at (f ∷ fs) (u ∷ ts) (suc i) t h lt is = formal_at fs ts i t h.1 (omega arith) is

-- a text that is no formal is the list's fault
pub bad_formal : (e : FormalsError) (text : List ℕ) (ts : List (List ℕ)) (i : ℕ) (t : List ℕ) →
    IsList ts text → i < length ts → t ≡ get_or ts i t → IsNoFormal e t → HasFault e text
bad_formal (error.NotAList f) text ts i t list lt at never = absurd never
bad_formal error.BadFormal text ts i t list lt at never =
    (ts, list, λ fs h. let formal = formal_at fs ts i t h lt at in never formal.0 formal.1)
bad_formal (error.NoMemory r) text ts i t list lt at never = tt

-- whatever formals the remaining words are, with those read so far before them they are all
abbrev pub FormalsSoFar : List (List ℕ) → List (List ℕ) → List Formal → Type 0
FormalsSoFar words rest so_far = (fs : List Formal) → AreFormals fs rest →
    AreFormals (so_far ++ fs) words

pub formals_begin : (words : List (List ℕ)) (so_far : List Formal) → so_far ≡ [] →
    FormalsSoFar words words so_far
formals_begin words so_far empty = λ fs h. subst (λ l. AreFormals (l ++ fs) words) (sym empty) h

pub after_formal : (words : List (List ℕ)) (i : ℕ) (t : List ℕ) (so_far now : List Formal)
    (f : Formal) → FormalsSoFar words (drop i words) so_far
    → i < length words → t ≡ get_or words i t → IsFormal f t → now ≡ so_far ++ f ∷ [] →
    FormalsSoFar words (drop (i + 1) words) now
after_formal words i t so_far now f h lt at is pushed = λ fs more.
    let rest : drop i words ≡ t ∷ drop (i + 1) words =
    drop-cons words i t lt ∙ (λ j. sym at j ∷ drop (sym (add-one i) j) words) in
    let all : AreFormals (so_far ++ f ∷ fs) words =
    h (f ∷ fs) (subst (AreFormals (f ∷ fs)) (sym rest) (is, more)) in
    let same : now ++ fs ≡ so_far ++ f ∷ fs = ap (λ l. l ++ fs) pushed
    ∙ append_assoc so_far (f ∷ []) fs in
    subst (λ l. AreFormals l words) (sym same) all

-- the last formal decides whether the remaining words are taken
pub last_decides : (fs : List Formal) (k : ℕ) (d x : Formal) → suc k ≡ length fs → get_or fs k d ≡ x
    → takes_rest fs ≡ bytes_eq x.name args
last_decides [] k d x e h = absurd (omega arith)
last_decides (f ∷ []) zero d x e h = ap (λ y. bytes_eq y.name args) h
last_decides (f ∷ []) (suc k) d x e h = absurd (omega arith)
last_decides (f ∷ (g ∷ fs)) zero d x e h = absurd (omega arith)
last_decides (f ∷ (g ∷ fs)) (suc k) d x e h = last_decides (g ∷ fs) k d x (omega arith) h

-- all but a last `args`
pub single_is : (fs : List Formal) (k : ℕ) → suc k ≡ length fs → single fs
    ≡ if takes_rest fs then take k fs else fs
single_is [] k e = absurd (omega arith)
single_is (f ∷ []) zero e = by (bytes_eq f.name args)
  where
    by : (b : Bool) → (if b then [] else f ∷ []) ≡ (if b then [] else f ∷ [])
    by b = refl
single_is (f ∷ []) (suc k) e = absurd (omega arith)
single_is (f ∷ (g ∷ fs)) zero e = absurd (omega arith)
single_is (f ∷ (g ∷ fs)) (suc k) e = ap (λ l. f ∷ l) (single_is (g ∷ fs) k (omega arith))
    ∙ by (takes_rest (g ∷ fs))
  where
    by : (b : Bool) → f ∷ (if b then take k (g ∷ fs) else g ∷ fs)
        ≡ (if b then f ∷ take k (g ∷ fs) else f ∷ (g ∷ fs))
    by true = refl
    by false = refl

-- the formals but a last `args`, as they are split off
pub rest_split : (all self : List Formal) (b : Bool) → all ≡ self → b ≡ takes_rest all → b ≡ true →
    take (length all - 1) all ≡ single self
rest_split [] self b same is all_so = absurd (cc)
rest_split (f ∷ fs) self b same is all_so =
    sym (single_is (f ∷ fs) (length (f ∷ fs) - 1) (omega arith)
    ∙ ap (λ t. if t then take (length (f ∷ fs) - 1) (f ∷ fs) else f ∷ fs) (sym is ∙ all_so))
    ∙ ap single same

pub all_single : (all self : List Formal) (b : Bool) → all ≡ self → b ≡ takes_rest all → b ≡ false →
    all ≡ single self
all_single [] self b same is out = ap single same
all_single (f ∷ fs) self b same is out =
    sym (single_is (f ∷ fs) (length (f ∷ fs) - 1) (omega arith)
    ∙ ap (λ t. if t then take (length (f ∷ fs) - 1) (f ∷ fs) else f ∷ fs) (sym is ∙ out))
    ∙ ap single same

-- after the last word all formals are read
pub formals_end : (words : List (List ℕ)) (i : ℕ) (so_far : List Formal) →
    FormalsSoFar words (drop i words) so_far → length words ≤ i → AreFormals so_far words
formals_end words i so_far h le =
    subst (λ l. AreFormals l words) (append-nil so_far)
    (h [] (subst (AreFormals []) (sym (drop_of_length-le words {i = i} le)) tt))
