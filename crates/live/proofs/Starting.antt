-- The calls that name a program and its arguments.
use Rattle.std.proofs.Common.{◌≡◌, ℕ, suc, arith, ◌+◌, ◌<◌, ◌≤◌, List, [], ◌∷◌, ◌++◌, length, drop, map, refl, sym, ap, subst, ◌∙◌, append_assoc, append-nil, drop-cons, slice_index_or}
use Rattle.std.proofs.Math.ListN.{drop_of_length-le}
use Rattle.live.specs.Calls.{Arg, Call, Command, Made}
use Rattle.live.specs.Live.{IsNamed}

-- one more of a list is done
pub done_more : {A : Type 0} (all done : List A) (i : ℕ) (x : A) → i < length all →
    x ≡ slice_index_or all i x → done ++ drop i all ≡ all →
    (done ++ x ∷ []) ++ drop (i + 1) all ≡ all
done_more all done i x within is whole =
    let next : i + 1 ≡ suc i = omega arith in
    append_assoc done (x ∷ []) (drop (i + 1) all)
    ∙ ap (λ rest. done ++ rest)
    (ap (λ y. y ∷ drop (i + 1) all) is
    ∙ ap (λ n. slice_index_or all i x ∷ drop n all) next ∙ sym (drop-cons all i x within))
    ∙ whole

pub map_twice : {A B C : Type 0} (f : B → C) (g : A → B) (xs : List A) →
    map (λ x. f (g x)) xs ≡ map f (map g xs)
map_twice f g [] = refl
map_twice f g (x ∷ xs) = ap (λ rest. f (g x) ∷ rest) (map_twice f g xs)

-- a program is named, and all its arguments are added
pub named_so : {S W : Type 0} (step : S → Call → S → Type 0) (items : W → List ℕ) (a b c : S)
    (words args done : List W) (name : W) (i : ℕ) → words ≡ name ∷ args → length args ≤ i →
    done ++ drop i args ≡ args → step a (Command (items name)) b →
    Made step b (map (λ word. Arg (items word)) done) c →
    IsNamed step a (map items words) c
named_so step items a b c words args done name i is past whole named added =
    let all = sym (append-nil done) ∙ ap (λ rest. done ++ rest) (sym (drop_of_length-le args past))
    ∙ whole in
    subst (λ ws. IsNamed step a (map items ws) c) (sym is) (
      b,
      named,
      subst (λ calls. Made step b calls c)
          (ap (map (λ word. Arg (items word))) all ∙ map_twice Arg items args) added,
    )
