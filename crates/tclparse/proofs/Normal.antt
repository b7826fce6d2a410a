-- Normal form, level by level, and lists that grow at their end.
use Rattle.std.proofs.Common.{append-nil, append_assoc, inl, inr, ◌≡◌, ℕ, List, [], ◌∷◌, ◌++◌, Bool, true, false, map, refl, sym, ap, ◌∙◌, rules, Vec}
use Rattle.std.specs.declared.rc.Rc.{Rc}
use Rattle.tclparse.specs.Normal.{Form, literal, other, literal_form, other_form, all_yes, some_yes, are_apart, form_of, is_normal_word, is_normal_command, EndsLiteral}
use Rattle.tclparse.specs.declared.tree.Part.{Part, Literal, Variable, Bracket, Element, the_lemmas}
use Rattle.tclparse.specs.declared.tree.Word.{Word}
use Rattle.tclparse.specs.declared.tree.Command.{Command}
use Rattle.tclparse.specs.declared.tree.Part.TheViews.{roll-Word, roll-Command}

pub form_Literal : (A : Type 0) (v : List ℕ) → form_of {A = A} (Literal v) ≡ literal_form v
form_Literal A v = search (rules, the_lemmas)

pub form_Variable : (A : Type 0) (v : List ℕ) → form_of {A = A} (Variable v) ≡ other
form_Variable A v = search (rules, the_lemmas)

pub form_Element : {A : Type 0} → (v : List ℕ) (ps : Rc (Vec (Part A) A) A)
    → form_of (Element v ps) ≡ other_form (are_apart false (map form_of ps.value.items))
form_Element v ps = search (rules, the_lemmas)

pub form_Bracket : {A : Type 0} → (cs : Rc (Vec (Command A) A) A)
    → form_of (Bracket cs) ≡ other_form (all_yes (map is_normal_command cs.value.items))
form_Bracket cs = search (rules, the_lemmas)

pub normal_word : {A : Type 0} → (e : Bool) (ps : Rc (Vec (Part A) A) A)
    → is_normal_word (roll-Word A (record { expands = e; parts = ps }))
    ≡ are_apart false (map form_of ps.value.items)
normal_word e ps = search (rules, the_lemmas)

pub normal_command : {A : Type 0} → (n : ℕ) (ws : Rc (Vec (Word A) A) A)
    → is_normal_command (roll-Command A (record { from_end = n; words = ws }))
    ≡ some_yes (map is_normal_word ws.value.items)
normal_command n ws = search (rules, the_lemmas)

map_push : {X Y : Type 0} (f : X → Y) (xs : List X) (x : X) → map f (xs ++ x ∷ []) ≡ map f xs ++ f x
    ∷ []
map_push f [] x = refl
map_push f (y ∷ xs) x = ap (λ l. f y ∷ l) (map_push f xs x)

yes_push : (bs : List Bool) → all_yes bs ≡ true → all_yes (bs ++ true ∷ []) ≡ true
yes_push [] h = refl
yes_push (true ∷ bs) h = yes_push bs h
yes_push (false ∷ bs) h = absurd (cc)

-- all words or commands are normal, with one more at the end too
pub all_push : {X : Type 0} (f : X → Bool) (xs ys : List X) (x : X) → all_yes (map f xs) ≡ true →
    f x ≡ true → ys ≡ xs ++ x ∷ [] → all_yes (map f ys) ≡ true
all_push f xs ys x h k e =
    ap (λ l. all_yes (map f l)) e ∙ ap all_yes (map_push f xs x)
    ∙ ap (λ b. all_yes (map f xs ++ b ∷ [])) k ∙ yes_push (map f xs) h

-- a command is normal whose words all are, where there is at least one
pub some_all : {X : Type 0} (f : X → Bool) (xs : List X) → all_yes (map f xs) ≡ true → (xs ≡ [] → ⊥)
    → some_yes (map f xs) ≡ true
some_all f [] h n = absurd (n refl)
some_all f (x ∷ xs) h n = h

-- Whatever parts come after ps, the whole is normal if they are.
abbrev pub IsOpen : {A : Type 0} → List (Part A) → Type 0
IsOpen ps = (fs : List Form) → are_apart false fs ≡ true → are_apart false (map form_of ps ++ fs)
    ≡ true

-- open parts are normal with at most one literal added at the end
pub open_end : {A : Type 0} (ps qs : List (Part A)) → IsOpen ps → EndsLiteral ps qs →
    are_apart false (map form_of qs) ≡ true
open_end ps qs o (inl e) = ap (are_apart false) (e ∙ sym (append-nil (map form_of ps))) ∙ o [] refl
open_end ps qs o (inr e) = ap (are_apart false) e ∙ o (literal ∷ []) refl

-- open parts stay open with at most one literal and then another part added at the end
pub open_push : {A : Type 0} (ps qs rs : List (Part A)) (p : Part A) → IsOpen ps → EndsLiteral ps qs
    → form_of p ≡ other → rs ≡ qs ++ p ∷ [] → IsOpen rs
open_push ps qs rs p o (inl e) k is fs h =
    let joined : map form_of rs ++ fs ≡ map form_of ps ++ other ∷ fs =
    ap (λ l. map form_of l ++ fs) is ∙ ap (λ l. l ++ fs) (map_push form_of qs p)
    ∙ append_assoc (map form_of qs) (form_of p ∷ []) fs
    ∙ ap (λ l. l ++ form_of p ∷ fs) e ∙ ap (λ f. map form_of ps ++ f ∷ fs) k in
    ap (are_apart false) joined ∙ o (other ∷ fs) h
open_push ps qs rs p o (inr e) k is fs h =
    let joined : map form_of rs ++ fs ≡ map form_of ps ++ literal ∷ other ∷ fs =
    ap (λ l. map form_of l ++ fs) is ∙ ap (λ l. l ++ fs) (map_push form_of qs p)
    ∙ append_assoc (map form_of qs) (form_of p ∷ []) fs
    ∙ ap (λ l. l ++ form_of p ∷ fs) e ∙ append_assoc (map form_of ps) (literal ∷ []) (form_of p
    ∷ fs)
    ∙ ap (λ f. map form_of ps ++ literal ∷ f ∷ fs) k in
    ap (are_apart false) joined ∙ o (literal ∷ other ∷ fs) h

pub push_some : {X : Type 0} (xs ys : List X) (x : X) → ys ≡ xs ++ x ∷ [] → ys ≡ [] → ⊥
push_some [] ys x e n = cc
push_some (y ∷ xs) ys x e n = cc
