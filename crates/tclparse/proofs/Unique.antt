-- Each text has one tree.
use Rattle.std.proofs.Common.{◌≡◌, ℕ, ◌-◌, List, [], false, Option, Some, None, Ok, Err, inl, inr, refl, sym, ap, subst, ◌∙◌, arith}
use Rattle.tclparse.specs.Fault.{Fault, after_brace}
use Rattle.tclparse.specs.Context.{Context, whole_script, bracketed, argument}
use Rattle.tclparse.specs.Tree.{Parts, no_parts, byte, variable, element, script, Words, no_words, word, Commands, no_commands, command, bytes_then, with_last}
use Rattle.tclparse.specs.Gap.{skip_white, skip_gap, between}
use Rattle.tclparse.specs.Piece.{Place, in_word, within_quotes, within_index, Next, end, fault, a_byte, a_name, an_index, an_element, a_bracket, next}
use Rattle.tclparse.specs.Grammar.{Outcome, Then, EndsAs, bracket_closed, index_closed, quotes_closed, word_ended, Kind, in_braces, in_quotes, bare, kind, unprefixed, IsBraced, IsWord, IsParts, IsWords, IsCommands, IsScript, IsArgument}
use Rattle.tcltext.proofs.Pairing.{one_pair}
use Rattle.tclparse.proofs.Braced.{one_value}

-- the next piece of a text says which constructor its tree begins with
abbrev piece_tag : Next → ℕ
piece_tag end = 0
piece_tag (fault f) = 0
piece_tag (a_byte b z) = 1
piece_tag (a_name n z) = 2
piece_tag (an_index n z) = 3
piece_tag (an_element n i z) = 3
piece_tag (a_bracket z) = 4

abbrev tree_tag : Parts → ℕ
tree_tag no_parts = 0
tree_tag (byte b ps) = 1
tree_tag (variable n ps) = 2
tree_tag (element n is ps) = 3
tree_tag (script cs ps) = 4

ends_tag : (n : Next) (x : List ℕ) (o : Outcome) → EndsAs n x o → piece_tag n ≡ 0
ends_tag end x o h = refl
ends_tag (fault f) x o h = refl
ends_tag (a_byte b z) x o h = absurd h
ends_tag (a_name n z) x o h = absurd h
ends_tag (an_index n z) x o h = absurd h
ends_tag (an_element n i z) x o h = absurd h
ends_tag (a_bracket z) x o h = absurd h

tag_is : (ps : Parts) (place : Place) (d : ℕ) (x : List ℕ) (o : Outcome) → IsParts place d ps x o →
    piece_tag (next place d x) ≡ tree_tag ps
tag_is no_parts place d x o h = ends_tag (next place d x) x o h
tag_is (byte b ps) place d x o h = ap piece_tag h.1
tag_is (variable n ps) place d x o h = ap piece_tag h.1
tag_is (element n is ps) place d x o (inl h) = ap piece_tag h.1
tag_is (element n is ps) place d x o (inr h) = ap piece_tag h.2
tag_is (script cs ps) place d x o h = ap piece_tag h.1

ends_unique : (n : Next) (x : List ℕ) (o p : Outcome) → EndsAs n x o → EndsAs n x p → o ≡ p
ends_unique end x o p h k = h ∙ sym k
ends_unique (fault f) x o p h k = h ∙ sym k
ends_unique (a_byte b z) x o p h k = absurd h
ends_unique (a_name n z) x o p h k = absurd h
ends_unique (an_index n z) x o p h k = absurd h
ends_unique (an_element n i z) x o p h k = absurd h
ends_unique (a_bracket z) x o p h k = absurd h

then_unique : {T : Type 0} (nil t u : T) (K : T → List ℕ → Outcome → Type 0) (r o p : Outcome) →
    Then r (t ≡ nil) (λ w. K t w o) o → Then r (u ≡ nil) (λ w. K u w p) p
    → ((w : List ℕ) → K t w o → K u w p → (t ≡ u) × (o ≡ p)) → (t ≡ u) × (o ≡ p)
then_unique nil t u K (Ok w) o p h k same = same w h k
then_unique nil t u K (Err f) o p h k same = (h.0 ∙ sym k.0, h.1 ∙ sym k.1)

braced_unique : (n : Context) (ps qs : Parts) (x : List ℕ) (r s : Outcome) → IsBraced n ps x r →
    IsBraced n qs x s → (ps ≡ qs) × (r ≡ s)
braced_unique n ps qs x r s (inl h) (inl k) =
    let pair = one_pair x h.0 h.1 k.0 k.1 h.3 k.3 in
    let value = one_value h.2 h.0 k.2 k.0 h.4 k.4 pair.0 in (
      h.5 ∙ ap (λ v. bytes_then v no_parts) value ∙ sym k.5,
      h.6
          ∙ ap (word_ended n after_brace) pair.1 ∙ sym k.6,
    )
braced_unique n ps qs x r s (inl h) (inr k) = absurd (k.0 h.0 h.1 h.3)
braced_unique n ps qs x r s (inr h) (inl k) = absurd (h.0 k.0 k.1 k.3)
braced_unique n ps qs x r s (inr h) (inr k) = (h.1 ∙ sym k.1, h.2 ∙ sym k.2)

word_unique : (n : Context) (d : ℕ) (ps qs : Parts) (w : Kind) (x : List ℕ) (r s : Outcome)
    → IsWord n ps (λ place z o. IsParts place d ps z o) w x r →
    IsWord n qs (λ place z o. IsParts place d qs z o) w x s
    → ((place : Place) (z : List ℕ) (o p : Outcome) → IsParts place d ps z o →
    IsParts place d qs z p → (ps ≡ qs) × (o ≡ p)) → (ps ≡ qs) × (r ≡ s)
word_unique n d ps qs (in_braces z) x r s h k same = braced_unique n ps qs z r s h k
word_unique n d ps qs (in_quotes z) x r s h k same =
    let one = same within_quotes z h.0 k.0 h.1 k.1 in
    (one.0, h.2 ∙ ap (quotes_closed n) one.1 ∙ sym k.2)
word_unique n d ps qs bare x r s h k same = same (in_word n) x r s h k

-- an element, by what its index and the parts after it give
element_unique : (m n : List ℕ) (is js ps qs : Parts) (place : Place) (d : ℕ) (x : List ℕ)
    (o p : Outcome)
    → IsParts place d (element m is ps) x o → IsParts place d (element n js qs) x p
    → ((z : List ℕ) (r s : Outcome) → IsParts within_index (d - 1) is z r →
    IsParts within_index (d - 1) js z s → (is ≡ js) × (r ≡ s))
    → ((w : List ℕ) → IsParts place d ps w o → IsParts place d qs w p → (ps ≡ qs) × (o ≡ p))
    → (element m is ps ≡ element n js qs) × (o ≡ p)
element_unique m n is js ps qs place d x o p (inl h) (inl k) index after =
    let same : (m ≡ n) × (k.0 ≡ h.0) = (cc, cc) in
    let inner = index h.0 h.2 k.2 h.3 (subst (λ z. IsParts within_index (d - 1) js z k.2) same.1
    k.3) in
    let rest = then_unique no_parts ps qs (λ t w r. IsParts place d t w r) (index_closed h.2) o p
    h.4
    (subst (λ r. Then (index_closed r) (qs ≡ no_parts) (λ w. IsParts place d qs w p) p)
    (sym inner.1) k.4) after in
    (cc (same.0, inner.0, rest.0), rest.1)
element_unique m n is js ps qs place d x o p (inl h) (inr k) index after = absurd (cc)
element_unique m n is js ps qs place d x o p (inr h) (inl k) index after = absurd (cc)
element_unique m n is js ps qs place d x o p (inr h) (inr k) index after =
    let same : (m ≡ n) × (h.0 ≡ k.0) × (k.1 ≡ h.1) = (cc, cc, cc) in
    let rest = after h.1 h.4 (subst (λ z. IsParts place d qs z p) same.2 k.4) in
    (cc (same.0, same.1, rest.0, h.3, k.3), rest.1)

mutual
  pub parts_unique : (ps qs : Parts) (place : Place) (d : ℕ) (x : List ℕ) (o p : Outcome) →
      IsParts place d ps x o → IsParts place d qs x p → (ps ≡ qs) × (o ≡ p)
  parts_unique no_parts no_parts place d x o p h k = (refl, ends_unique (next place d x) x o p h k)
  parts_unique (byte a ps) (byte b qs) place d x o p h k =
      let same : (a ≡ b) × (k.0 ≡ h.0) = (cc, cc) in
      let rest = parts_unique ps qs place d h.0 o p h.2
      (subst (λ z. IsParts place d qs z p) same.1 k.2) in
      (cc (same.0, rest.0), rest.1)
  parts_unique (variable m ps) (variable n qs) place d x o p h k =
      let same : (m ≡ n) × (k.0 ≡ h.0) = (cc, cc) in
      let rest = parts_unique ps qs place d h.0 o p h.2
      (subst (λ z. IsParts place d qs z p) same.1 k.2) in
      (cc (same.0, rest.0), rest.1)
  parts_unique (element m is ps) (element n js qs) place d x o p h k =
      element_unique m n is js ps qs place d x o p h k
      (λ z r s a b. parts_unique is js within_index (d - 1) z r s a b)
      (λ w a b. parts_unique ps qs place d w o p a b)
  parts_unique (script bs ps) (script cs qs) place d x o p h k =
      let same : k.0 ≡ h.0 = cc in
      let inner = commands_unique bs cs bracketed (d - 1) h.0 h.2 k.2 h.3
      (subst (λ z. IsCommands bracketed (d - 1) cs z k.2) same k.3) in
      let rest = then_unique no_parts ps qs (λ t w r. IsParts place d t w r) (bracket_closed h.2) o
      p h.4
      (subst (λ r. Then (bracket_closed r) (qs ≡ no_parts) (λ w. IsParts place d qs w p) p)
      (sym inner.1) k.4)
      (λ w a b. parts_unique ps qs place d w o p a b) in
      (cc (inner.0, rest.0), rest.1)
  parts_unique ps qs place d x o p h k =
      let one = tag_is ps place d x o h in
      let other = tag_is qs place d x p k in
      absurd (omega arith)

  pub words_unique : (vs ws : Words) (n : Context) (d : ℕ) (x : List ℕ) (o p : Outcome) →
      IsWords n d vs x o → IsWords n d ws x p → (vs ≡ ws) × (o ≡ p)
  words_unique no_words no_words n d x o p h k = (refl, h.1 ∙ sym k.1)
  words_unique no_words (word f qs ws) n d x o p h k = absurd (cc (h.0, k.0))
  words_unique (word e ps vs) no_words n d x o p h k = absurd (cc (h.0, k.0))
  words_unique (word e ps vs) (word f qs ws) n d x o p h k =
      let prefix : e ≡ f = h.1 ∙ sym k.1 in
      let first = word_unique n d ps qs (kind (unprefixed n x)) (unprefixed n x) h.2 k.2 h.3 k.3
      (λ place z r s a b. parts_unique ps qs place d z r s a b) in
      let rest = then_unique no_words vs ws (λ t w r. IsWords n d t (skip_white n false w) r) h.2 o
      p h.4
      (subst (λ r. Then r (ws ≡ no_words) (λ w. IsWords n d ws (skip_white n false w) p) p)
      (sym first.1) k.4)
      (λ w a b. words_unique vs ws n d (skip_white n false w) o p a b) in
      (cc (prefix, first.0, rest.0), rest.1)

  pub commands_unique : (bs cs : Commands) (n : Context) (d : ℕ) (x : List ℕ) (o p : Outcome) →
      IsCommands n d bs x o → IsCommands n d cs x p → (bs ≡ cs) × (o ≡ p)
  commands_unique no_commands no_commands n d x o p h k = (refl, h.1 ∙ sym k.1)
  commands_unique no_commands (command ws cs) n d x o p h k = absurd (cc (h.0, k.0))
  commands_unique (command vs bs) no_commands n d x o p h k = absurd (cc (h.0, k.0))
  commands_unique (command vs bs) (command ws cs) n d x o p h k =
      let start = skip_gap n between x in
      let first = words_unique vs ws n d start h.1 k.1 h.2 k.2 in
      let rest = then_unique no_commands bs cs (λ t w r. IsCommands n d t w r) h.1 o p h.3
      (subst (λ r. Then r (cs ≡ no_commands) (λ w. IsCommands n d cs w p) p) (sym first.1) k.3)
      (λ w a b. commands_unique bs cs n d w o p a b) in
      (cc (first.0, rest.0), rest.1)

abbrev without_last : Commands → Commands
without_last no_commands = no_commands
without_last (command ws no_commands) = no_commands
without_last (command ws (command vs cs)) = command ws (without_last (command vs cs))

before_last : (cs : Commands) (ws : Words) → without_last (with_last cs ws) ≡ cs
before_last no_commands ws = refl
before_last (command vs no_commands) ws = refl
before_last (command vs (command us cs)) ws = ap (command vs) (before_last (command us cs) ws)

pub one_script : (x : List ℕ) (bs cs : Commands) (f g : Option Fault) → IsScript bs f x →
    IsScript cs g x → (bs ≡ cs) × (f ≡ g)
one_script x bs cs None None h k =
    ((commands_unique bs cs whole_script 100 x (Ok []) (Ok []) h k).0, refl)
one_script x bs cs None (Some g) h k = let clash : Ok [] ≡ Err g =
    (commands_unique bs (with_last cs k.0) whole_script 100 x (Ok []) (Err g) h k.1).1 in
    absurd (cc)
one_script x bs cs (Some f) None h k = let clash : Err f ≡ Ok [] =
    (commands_unique (with_last bs h.0) cs whole_script 100 x (Err f) (Ok []) h.1 k).1 in
    absurd (cc)
one_script x bs cs (Some f) (Some g) h k =
    let one = commands_unique (with_last bs h.0) (with_last cs k.0) whole_script 100 x (Err f)
    (Err g) h.1 k.1 in
    let same : f ≡ g = cc (one.1) in
    (sym (before_last bs h.0) ∙ ap without_last one.0 ∙ before_last cs k.0, ap Some same)

pub one_argument : (x : List ℕ) (vs ws : Words) (f g : Option Fault) → IsArgument vs f x →
    IsArgument ws g x → (vs ≡ ws) × (f ≡ g)
one_argument x vs ws None None h k =
    ((words_unique vs ws argument 100 (skip_white argument false x) (Ok []) (Ok []) h k).0, refl)
one_argument x vs ws None (Some g) h k = let clash : Ok [] ≡ Err g =
    (words_unique vs k.1 argument 100 (skip_white argument false x) (Ok []) (Err g) h k.2).1 in
    absurd (cc)
one_argument x vs ws (Some f) None h k = let clash : Err f ≡ Ok [] =
    (words_unique h.1 ws argument 100 (skip_white argument false x) (Err f) (Ok []) h.2 k).1 in
    absurd (cc)
one_argument x vs ws (Some f) (Some g) h k =
    let one = words_unique h.1 k.1 argument 100 (skip_white argument false x) (Err f) (Err g) h.2
    k.2 in
    let same : f ≡ g = cc (one.1) in
    (h.0 ∙ sym k.0, ap Some same)
