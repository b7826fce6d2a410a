-- A property that is closed under the steps of which courses are made holds of foreach.
use Rattle.std.proofs.Common.{ℕ, List, [], ◌∷◌, ◌++◌, length, Bool, true, false, is_some, refl}
use Rattle.std.specs.List.{list_all}
use Rattle.std.specs.Prelude.{codes, if◌then◌else◌}
use Rattle.acts.specs.Flaw as flaw
use Rattle.nesting.specs.Foreach.{Pair, assigns, begins, foreach, is_taken, most_asked, on_names, rows, turns, with_pair, with_pairs, wrong_words}
use Rattle.state.specs.Turn.{on_turn}
use Rattle.state.proofs.Closed.{Closed, Ticks, inside_closed, listed_closed, named_closed, raises_closed, tick_closed, turn_closed, writes_closed}
use Rattle.state.specs.Prelude.{Course, raises, Gives, ScriptText, ScriptTree, Status}
use Rattle.tclparse.specs.Variable.{named}

module _ (P : Status → Course → Type 0) (closed : Closed P) (ticks : Ticks P P) where
  good_closed : (good : Bool) (ns : List (List ℕ)) (s : Status)
      (next : List (List ℕ) → Course) → P s (next ns) →
      P s (if good then next ns else raises flaw.BadVariable s)
  good_closed true ns s next each = each
  good_closed false ns s next each = raises_closed P closed flaw.BadVariable s

  names_closed : (word : List ℕ) (ns : List (List ℕ)) (s : Status)
      (next : List (List ℕ) → Course) → P s (next ns) → P s (on_names word ns s next)
  names_closed word [] s next each = raises_closed P closed (flaw.BadArgument word (codes "foreach")) s
  names_closed word (n ∷ ns) s next each =
      good_closed (list_all (λ w. is_some (named w)) (n ∷ ns)) (n ∷ ns) s next each

  pair_closed : (variables elements : List ℕ) (s : Status) (next : Pair → Course) →
      ((p : Pair) → P s (next p)) → P s (with_pair variables elements s next)
  pair_closed variables elements s next each =
      listed_closed P closed variables s _ (λ ns.
      names_closed variables ns s _
      (listed_closed P closed elements s _ (λ es. each (record { names = ns; elements = es }))))

  pairs_closed : (words : List (List ℕ)) (pairs : List Pair) (s : Status)
      (next : List Pair → List ℕ → Course) →
      ((ps : List Pair) (body : List ℕ) → P s (next ps body)) →
      P s (with_pairs words pairs s next)
  pairs_closed [] pairs s next each = raises_closed P closed (flaw.WrongArgs (codes "foreach")) s
  pairs_closed (body ∷ []) pairs s next each = each pairs body
  pairs_closed (variables ∷ elements ∷ more) pairs s next each =
      pair_closed variables elements s _ (λ p. pairs_closed more (pairs ++ p ∷ []) s next each)

  assigns_closed : (row : List (List ℕ × List ℕ)) (s : Status) (next : Status → Course) →
      ((u : Status) → P u (next u)) → P s (assigns row s next)
  assigns_closed [] s next each = each s
  assigns_closed (first ∷ more) s next each =
      named_closed P closed first.0 s _ (λ name index.
      writes_closed P closed name index first.1 s _ (λ t. assigns_closed more t next each))

  turns_closed : (levels : ℕ) (body : ScriptTree) (all : List (List (List ℕ × List ℕ)))
      (s : Status) → P s (turns levels body all s)
  turns_closed levels body [] s = closed.over s (Gives [])
  turns_closed levels body (first ∷ more) s =
      assigns_closed first s _ (λ t. tick_closed P P closed.over ticks t _ (λ u.
      inside_closed P closed levels body u (on_turn (turns levels body more)) (λ u stop. (u, refl))
      (turn_closed P closed (turns levels body more) (turns_closed levels body more))))

  begins_closed : (levels : ℕ) (s : Status) (pairs : List Pair) (body : List ℕ) →
      P s (begins levels s pairs body)
  begins_closed levels s pairs body =
      closed.reading (ScriptText body) s _
      (λ tree. turns_closed levels tree (rows (most_asked pairs) pairs) s)

  taken_closed : (taken : Bool) (levels : ℕ) (args : List (List ℕ)) (s : Status) →
      P s (if taken then with_pairs args [] s (begins levels s) else wrong_words s)
  taken_closed true levels args s = pairs_closed args [] s _ (begins_closed levels s)
  taken_closed false levels args s = raises_closed P closed (flaw.WrongArgs (codes "foreach")) s

  pub foreach_closed : (levels : ℕ) (args : List (List ℕ)) (s : Status) →
      P s (foreach levels args s)
  foreach_closed levels args s = taken_closed (is_taken (length args)) levels args s
