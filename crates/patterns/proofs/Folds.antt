-- The bytes as they compare, and what a search of them says of the bytes as they came.
use Rattle.std.proofs.Common.{◌≡◌, ℕ, ◌-◌, Bool, true, false, List, length, take, drop, refl, sym, ◌∙◌, ap, subst, arith, Option, Some, None, MatchOption}
use Rattle.std.specs.Prelude.{slice_range}
use Rattle.std.specs.Char.{to_ascii_lowercase}
use Rattle.std.proofs.lemmas.List.{length-map, take-map, drop-map}
use Rattle.patterns.specs.Item.{Item, Reading}
use Rattle.patterns.specs.Match.{Whole, Sits, SitsNowhere, IsFound, compared}
use Rattle.patterns.specs.declared.search.Found.{Found}
use Rattle.patterns.proofs.Finds.{with_ties}

pub compared-length : (folds : Bool) (t : List ℕ) → length (compared folds t) ≡ length t
compared-length true t = length-map t to_ascii_lowercase
compared-length false t = refl

pub compared-drop : (folds : Bool) (n : ℕ) (t : List ℕ) → drop n (compared folds t)
    ≡ compared folds (drop n t)
compared-drop true n t = drop-map to_ascii_lowercase n t
compared-drop false n t = refl

pub compared-range : (folds : Bool) (t : List ℕ) (s e : ℕ) → slice_range (compared folds t) s e
    ≡ compared folds (slice_range t s e)
compared-range true t s e = ap (take (e - s)) (drop-map to_ascii_lowercase s t)
    ∙ take-map to_ascii_lowercase (e - s) (drop s t)
compared-range false t s e = refl

-- a pattern with these items and ties, which folds letters or not
abbrev pub folding : List Item → Bool → Bool → Bool → Reading
folding items at_start at_end folds =
    record { items = items; at_start = at_start; at_end = at_end; folds = folds }

-- where the pattern sits in the bytes as they compare, it sits in the window
pub Sits-came : (items : List Item) (at_start at_end folds : Bool) (w : List ℕ) (s e : ℕ) →
    Sits (with_ties items at_start at_end) (compared folds w) s e →
    Sits (folding items at_start at_end folds) w s e
Sits-came items at_start at_end folds w s e sits = record {
  ordered = sits.ordered;
  within = omega (arith, sits.within, compared-length folds w);
  whole = subst (λ (x : List ℕ). Whole items x) (compared-range folds w s e) sits.whole;
  at_start = sits.at_start;
  at_end = λ t. sits.at_end t ∙ compared-length folds w;
}

pub Sits-compared : (items : List Item) (at_start at_end folds : Bool) (w : List ℕ) (s e : ℕ) →
    Sits (folding items at_start at_end folds) w s e →
    Sits (with_ties items at_start at_end) (compared folds w) s e
Sits-compared items at_start at_end folds w s e sits = record {
  ordered = sits.ordered;
  within = omega (arith, sits.within, compared-length folds w);
  whole = subst (λ (x : List ℕ). Whole items x) (sym (compared-range folds w s e)) sits.whole;
  at_start = sits.at_start;
  at_end = λ t. sits.at_end t ∙ sym (compared-length folds w);
}

-- what a search of the bytes as they compare finds
pub found_came : (items : List Item) (at_start at_end folds : Bool) (w : List ℕ)
    (found : Option Found) →
    MatchOption found
    (SitsNowhere (with_ties items at_start at_end) (compared folds w))
    (λ f. IsFound (with_ties items at_start at_end) (compared folds w) f.start f.end) →
    MatchOption found
    (SitsNowhere (folding items at_start at_end folds) w)
    (λ f. IsFound (folding items at_start at_end folds) w f.start f.end)
found_came items at_start at_end folds w None nowhere =
    λ s e sits. nowhere s e (Sits-compared items at_start at_end folds w s e sits)
found_came items at_start at_end folds w (Some f) found = record {
  sits = Sits-came items at_start at_end folds w f.start f.end found.sits;
  least_start = λ s e sits. found.least_start s e
      (Sits-compared items at_start at_end folds w s e sits);
  greatest_end = λ e sits. found.greatest_end e
      (Sits-compared items at_start at_end folds w f.start e sits);
}
