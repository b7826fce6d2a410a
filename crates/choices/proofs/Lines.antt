-- How a change at one place of the table changes the line of an id.
use Rattle.std.proofs.Common.{◌≡◌, ℕ, zero, suc, ◌+◌, ◌==◌, cond, Bool, true, false, List, [], ◌∷◌, get_or, Option, Some, None, if◌then◌else◌, refl, sym, ap, ◌∙◌, arith, is_some}
use Rattle.std.proofs.Math.ListN.{set}
use Rattle.std.specs.List.{position, position_from, remove}
use Rattle.std.specs.Option.{option_map}
use Rattle.std.proofs.lemmas.Iterator.Adapters.{position_from-zero}
use Rattle.acts.specs.declared.id.Id.{Id}
use Rattle.choices.specs.Lines.{Line, line_of, at_line, without}

shifted : (o : Option ℕ) (n : ℕ) → option_map (λ k. n + 1 + k) o
    ≡ option_map (λ k. n + k) (option_map (λ k. k + 1) o)
shifted None n = refl
shifted (Some k) n = ap Some (omega arith)

same : (o : Option ℕ) → option_map (λ k. 0 + k) o ≡ o
same None = refl
same (Some k) = ap Some (omega arith)

-- one place further in a longer list
abbrev Further : Option ℕ → ℕ → Type 0
Further o k = (m : ℕ) × (o ≡ Some m) × (k ≡ suc m)

further : (o : Option ℕ) (k : ℕ) → option_map (λ n. n + 1) o ≡ Some k → Further o k
further None k e = absurd (cc)
further (Some m) k e = let same_k : m + 1 ≡ k = cc in (m, refl, omega arith)

none-further : (o : Option ℕ) → option_map (λ n. n + 1) o ≡ None → o ≡ None
none-further None e = refl
none-further (Some m) e = absurd (cc)

-- the first of a list or further on
abbrev Where : Bool → Option ℕ → ℕ → Type 0
Where true o k = k ≡ 0
Where false o k = Further o k

where_is : (b : Bool) (o : Option ℕ) (k : ℕ) → cond b (Some 0) (option_map (λ n. n + 1) o) ≡ Some k
    → Where b o k
where_is true o k e = cc
where_is false o k e = further o k e

-- where the line of an id stands first
abbrev pub place : Id → List Line → Option ℕ
place i [] = None
place i (l ∷ ls) = cond (l.id.0 == i.0) (Some 0) (option_map (λ k. k + 1) (place i ls))

place-by : (i : Id) (n : ℕ) (ls : List Line) (b : Bool) →
    position_from (λ l. l.id.0 == i.0) (n + 1) ls ≡ option_map (λ k. n + 1 + k) (place i ls)
    → cond b (Some n) (position_from (λ l. l.id.0 == i.0) (n + 1) ls)
    ≡ option_map (λ k. n + k) (cond b (Some 0) (option_map (λ k. k + 1) (place i ls)))
place-by i n ls true rest = ap Some (omega arith)
place-by i n ls false rest = rest ∙ shifted (place i ls) n

place-from : (i : Id) (n : ℕ) (ls : List Line) → position_from (λ l. l.id.0 == i.0) n ls
    ≡ option_map (λ k. n + k) (place i ls)
place-from i n [] = refl
place-from i n (l ∷ ls) = place-by i n ls (l.id.0 == i.0) (place-from i (n + 1) ls)

pub place-position : (i : Id) (ls : List Line) → position (λ l. l.id.0 == i.0) ls ≡ place i ls
place-position i ls = position_from-zero (λ l. l.id.0 == i.0) ls ∙ place-from i 0 ls
    ∙ same (place i ls)

-- the line at the place of an id is the id's
at-by : (i : Id) (l : Line) (ls : List Line) (k : ℕ) (x : Line) (b : Bool) → (l.id.0 == i.0) ≡ b →
    Where b (place i ls) k → x ≡ get_or (l ∷ ls) k x →
    ((m : ℕ) → place i ls ≡ Some m → x ≡ get_or ls m x → line_of ls i ≡ Some x) →
    line_of (l ∷ ls) i ≡ Some x
at-by i l ls k x true hit is has rest =
    let first : x ≡ l = has ∙ ap (λ n. get_or (l ∷ ls) n x) is in
    rw hit (ap Some (sym first))
at-by i l ls k x false miss f has rest =
    rw miss (rest f.0 f.1 (has ∙ ap (λ n. get_or (l ∷ ls) n x) f.2))

pub at : (i : Id) (ls : List Line) (k : ℕ) (x : Line) → place i ls ≡ Some k → x ≡ get_or ls k x →
    line_of ls i ≡ Some x
at i [] k x is has = absurd (cc)
at i (l ∷ ls) k x is has = at-by i l ls k x (l.id.0 == i.0) refl
    (where_is (l.id.0 == i.0) (place i ls) k is) has (λ m found got. at i ls m x found got)

-- an id without a place has no line, and nothing changes or goes
pub record IsAbsent (i : Id) (ls : List Line) (change : Line → Line) : Type 0 where
  pub no_line : line_of ls i ≡ None
  pub unchanged : at_line change i ls ≡ ls
  pub all_left : without i ls ≡ ls

absent-by : (i : Id) (l : Line) (ls : List Line) (change : Line → Line) (b : Bool) →
    (l.id.0 == i.0) ≡ b → cond b (Some 0) (option_map (λ n. n + 1) (place i ls)) ≡ None →
    (place i ls ≡ None → IsAbsent i ls change) → IsAbsent i (l ∷ ls) change
absent-by i l ls change true hit e rest = absurd (cc)
absent-by i l ls change false miss e rest =
    let more = rest (none-further (place i ls) e) in
    record {
      no_line = rw miss more.no_line;
      unchanged = rw miss (ap (λ ms. l ∷ ms) more.unchanged);
      all_left = rw miss (ap (λ ms. l ∷ ms) more.all_left);
    }

pub absent : (i : Id) (ls : List Line) (change : Line → Line) → place i ls ≡ None →
    IsAbsent i ls change
absent i [] change is = record { no_line = refl; unchanged = refl; all_left = refl }
absent i (l ∷ ls) change is = absent-by i l ls change (l.id.0 == i.0) refl is
    (λ none. absent i ls change none)

-- another line is put at that place
put-by : (i : Id) (l : Line) (ls : List Line) (k : ℕ) (x : Line) (change : Line → Line) (b : Bool) →
    (l.id.0 == i.0) ≡ b → Where b (place i ls) k → x ≡ get_or (l ∷ ls) k x →
    ((m : ℕ) → place i ls ≡ Some m → x ≡ get_or ls m x →
    set ls m (change x) ≡ at_line change i ls) →
    set (l ∷ ls) k (change x) ≡ at_line change i (l ∷ ls)
put-by i l ls k x change true hit is has rest =
    let first : x ≡ l = has ∙ ap (λ n. get_or (l ∷ ls) n x) is in
    rw (is, hit) (ap (λ y. change y ∷ ls) first)
put-by i l ls k x change false miss f has rest =
    let more = rest f.0 f.1 (has ∙ ap (λ n. get_or (l ∷ ls) n x) f.2) in
    rw (f.2, miss) (ap (λ ms. l ∷ ms) more)

pub put : (i : Id) (ls : List Line) (k : ℕ) (x : Line) (change : Line → Line) → place i ls ≡ Some k
    → x ≡ get_or ls k x → set ls k (change x) ≡ at_line change i ls
put i [] k x change is has = absurd (cc)
put i (l ∷ ls) k x change is has = put-by i l ls k x change (l.id.0 == i.0) refl
    (where_is (l.id.0 == i.0) (place i ls) k is) has
    (λ m found got. put i ls m x change found got)

-- the line at that place is taken out
gone-by : (i : Id) (l : Line) (ls : List Line) (k : ℕ) (b : Bool) → (l.id.0 == i.0) ≡ b →
    Where b (place i ls) k →
    ((m : ℕ) → place i ls ≡ Some m → remove ls m ≡ without i ls) →
    remove (l ∷ ls) k ≡ without i (l ∷ ls)
gone-by i l ls k true hit is rest = rw (is, hit) refl
gone-by i l ls k false miss f rest =
    let more = rest f.0 f.1 in
    rw (f.2, miss) (ap (λ ms. l ∷ ms) more)

pub gone : (i : Id) (ls : List Line) (k : ℕ) → place i ls ≡ Some k → remove ls k ≡ without i ls
gone i [] k is = absurd (cc)
gone i (l ∷ ls) k is = gone-by i l ls k (l.id.0 == i.0) refl
    (where_is (l.id.0 == i.0) (place i ls) k is) (λ m found. gone i ls m found)

-- an id is open where its line has a place
is_some-map : (o : Option ℕ) → is_some (option_map (λ k. k + 1) o) ≡ is_some o
is_some-map None = refl
is_some-map (Some k) = refl

opens-by : (i : Id) (l : Line) (ls : List Line) (b : Bool) → (l.id.0 == i.0) ≡ b →
    is_some (place i ls) ≡ is_some (line_of ls i) →
    is_some (cond b (Some 0) (option_map (λ k. k + 1) (place i ls))) ≡ is_some (line_of (l ∷ ls) i)
opens-by i l ls true hit rest = rw hit refl
opens-by i l ls false miss rest = rw miss (is_some-map (place i ls) ∙ rest)

pub opens : (i : Id) (ls : List Line) → is_some (place i ls) ≡ is_some (line_of ls i)
opens i [] = refl
opens i (l ∷ ls) = opens-by i l ls (l.id.0 == i.0) refl (opens i ls)

-- the same for a place that position gives, in a list that is the same
pub at_in : (i : Id) (ls ms : List Line) (k : ℕ) (x : Line) → ms ≡ ls →
    Some k ≡ position (λ l. l.id.0 == i.0) ls → x ≡ get_or ms k x → line_of ls i ≡ Some x
at_in i ls ms k x same is has =
    at i ls k x (sym (place-position i ls) ∙ sym is) (has ∙ ap (λ (l : List Line). get_or l k x) same)

pub put_in : (i : Id) (ls ms : List Line) (k : ℕ) (x y : Line) (change : Line → Line) → ms ≡ ls →
    Some k ≡ position (λ l. l.id.0 == i.0) ls → x ≡ get_or ms k x → y ≡ change x →
    set ms k y ≡ at_line change i ls
put_in i ls ms k x y change same is has new =
    (λ j. set (same j) k (new j))
    ∙ put i ls k x change (sym (place-position i ls) ∙ sym is)
    (has ∙ ap (λ (l : List Line). get_or l k x) same)

pub absent_in : (i : Id) (ls : List Line) (change : Line → Line) →
    None ≡ position (λ l. l.id.0 == i.0) ls → IsAbsent i ls change
absent_in i ls change is = absent i ls change (sym (place-position i ls) ∙ sym is)

pub gone_in : (i : Id) (ls ms : List Line) (k : ℕ) → ms ≡ ls →
    Some k ≡ position (λ l. l.id.0 == i.0) ls → remove ms k ≡ without i ls
gone_in i ls ms k same is =
    ap (λ (l : List Line). remove l k) same ∙ gone i ls k (sym (place-position i ls) ∙ sym is)

-- a line that is put where it stands changes nothing
pub put_back : (ls : List Line) (k : ℕ) (x y : Line) → x ≡ get_or ls k x → y ≡ x → set ls k y ≡ ls
put_back ls k x y has new = ap (λ z. set ls k z) new ∙ back ls k x has
  where
    back : (ls : List Line) (k : ℕ) (x : Line) → x ≡ get_or ls k x → set ls k x ≡ ls
    back [] k x has = refl
    back (l ∷ ls) zero x has = ap (λ z. z ∷ ls) has
    back (l ∷ ls) (suc k) x has = ap (λ ms. l ∷ ms) (back ls k x has)

-- a change that changes nothing
pub none_changed : (i : Id) (ls : List Line) → at_line (λ l. l) i ls ≡ ls
none_changed i [] = refl
none_changed i (l ∷ ls) = by (l.id.0 == i.0) (none_changed i ls)
  where
    by : (b : Bool) → at_line (λ l. l) i ls ≡ ls →
        (if b then l ∷ ls else l ∷ at_line (λ l. l) i ls) ≡ l ∷ ls
    by true rest = refl
    by false rest = ap (λ ms. l ∷ ms) rest
