-- The elements that a choice sets, one after the other, and as a list.
use Rattle.std.proofs.Common.{◌≡◌, ℕ, List, [], ◌∷◌, codes, Some, None, Result, Ok, Err, Bool, false, true, drop, refl, sym, ap, ◌∙◌, subst}
use Rattle.acts.specs.Id.{id_text}
use Rattle.acts.specs.Raise.{bind}
use Rattle.acts.specs.declared.raise.Raise.{Raise}
use Rattle.acts.specs.declared.raise.Raise.TheVariants as raise
use Rattle.choices.specs.Choice.{Taken}
use Rattle.expects.specs.Parts.{Writes}
use Rattle.expects.specs.Report.{Written, and_then, one_written, sets, tells, tells_start, tells_end, tells_id}
use Rattle.expects.specs.Told.{sets_all, buffer_told, match_told, places_told}
use Rattle.kinds.specs.Answers.{PutsAll}
use Rattle.kinds.specs.Variables.{put, put_all}
use Rattle.kinds.proofs.PutAll.{only_first}
use Rattle.patterns.specs.declared.search.Found.{Found}
use Rattle.state.specs.Prelude.{Flaw, flaw_of, Id, Scopes}

-- nothing more is written
last : (w : Written) → and_then w (λ v. (v, None)) ≡ w
last (v, None) = refl
last (v, Some flaw) = refl

-- what follows may be put in another form
same : (w : Written) (f g : Scopes → Written) → ((v : Scopes) → f v ≡ g v) →
    and_then w f ≡ and_then w g
same (v, None) f g is = is v
same (v, Some flaw) f g is = refl

-- what follows what follows
nested : (w : Written) (f g : Scopes → Written) →
    and_then (and_then w f) g ≡ and_then w (λ v. and_then (f v) g)
nested (v, None) f g = refl
nested (v, Some flaw) f g = refl

module _ (id : Id) (buffer : List ℕ) where
  -- the id and the buffer are set
  abbrev rest : Scopes → Written
  rest v = and_then (tells_id id v) (sets (codes "buffer") buffer)

  rest_told : (v : Scopes) → rest v ≡ sets_all (buffer_told (id_text id.0) buffer) v
  rest_told v =
      same (tells_id id v) (sets (codes "buffer") buffer) _
      (λ u. sym (last (sets (codes "buffer") buffer u)))

  -- a choice without a match sets these
  tells_buffer : (tells_places : Bool) (v : Scopes) →
      tells (record { id = id; buffer = buffer; found = None; tells_places = tells_places }) v
      ≡ sets_all (buffer_told (id_text id.0) buffer) v
  tells_buffer tells_places v = rest_told v

  module _ (f : Found) where
    abbrev matched : Scopes → Written
    matched v = sets (codes "0,string") (drop f.start buffer) v

    -- a choice with a match sets these
    tells_match_too : (v : Scopes) →
        tells (record { id = id; buffer = buffer; found = Some f; tells_places = false }) v
        ≡ sets_all (match_told f (id_text id.0) buffer) v
    tells_match_too v = same (matched v) rest _ rest_told

    -- and with its places these
    tells_places_too : (v : Scopes) →
        tells (record { id = id; buffer = buffer; found = Some f; tells_places = true }) v
        ≡ sets_all (places_told f (id_text id.0) buffer) v
    tells_places_too v =
        nested (and_then (tells_start f v) (tells_end f)) matched rest
        ∙ nested (tells_start f v) (tells_end f) (λ u. and_then (matched u) rest)
        ∙ same (tells_start f v) _ _ (λ u. same (tells_end f u) _ _
        (λ t. same (matched t) rest _ rest_told))

module _ {A T : Type 0} (t : Taken) (id : List ℕ) (v new : Scopes) (r : Result T (Raise A)) where
  -- what is written is what a choice without a match sets
  pub buffer_written : t.found ≡ None → id ≡ id_text t.id.0 →
      Writes (sets_all (buffer_told id t.buffer) v) r new → Writes (tells t v) r new
  buffer_written none named written =
      subst (λ o. Writes (tells (record t { found = o }) v) r new) (sym none)
      (subst (λ w. Writes w r new) (sym (tells_buffer t.id t.buffer t.tells_places v))
      (subst (λ text. Writes (sets_all (buffer_told text t.buffer) v) r new) named written))

  -- what is written is what a choice with a match sets
  pub match_written : (f : Found) → t.found ≡ Some f → t.tells_places ≡ false →
      id ≡ id_text t.id.0 → Writes (sets_all (match_told f id t.buffer) v) r new →
      Writes (tells t v) r new
  match_written f found none named written =
      subst (λ o. Writes (tells (record t { found = o }) v) r new) (sym found)
      (subst (λ b. Writes (tells (record t { found = Some f; tells_places = b }) v) r new)
      (sym none)
      (subst (λ w. Writes w r new) (sym (tells_match_too t.id t.buffer f v))
      (subst (λ text. Writes (sets_all (match_told f text t.buffer) v) r new) named written)))

  -- what is written is what a choice with a match sets that tells its places
  pub places_written : (f : Found) → t.found ≡ Some f → t.tells_places ≡ true →
      id ≡ id_text t.id.0 → Writes (sets_all (places_told f id t.buffer) v) r new →
      Writes (tells t v) r new
  places_written f found tells_them named written =
      subst (λ o. Writes (tells (record t { found = o }) v) r new) (sym found)
      (subst (λ b. Writes (tells (record t { found = Some f; tells_places = b }) v) r new)
      (sym tells_them)
      (subst (λ w. Writes w r new) (sym (tells_places_too t.id t.buffer f v))
      (subst (λ text. Writes (sets_all (places_told f text t.buffer) v) r new) named written)))

-- all elements are set
all_set : (es : List (List ℕ × List ℕ)) (v new : Scopes) →
    put_all (codes "expect_out") es v ≡ Ok new → sets_all es v ≡ (new, None)
all_set [] v new is = let at : v ≡ new = cc in ap (λ u. (u, None)) at
all_set (e ∷ es) v new is =
    by (λ t h. all_set es t new h) (put (codes "expect_out") (Some e.0) e.1 v) is
  where
    by : ((t : Scopes) → put_all (codes "expect_out") es t ≡ Ok new → sets_all es t ≡ (new, None)) →
        (r : Result Scopes Flaw) → bind r (put_all (codes "expect_out") es) ≡ Ok new →
        and_then (one_written v r) (sets_all es) ≡ (new, None)
    by others (Ok t) is = others t is
    by others (Err flaw) is = cc

-- none of the elements is set
none_set : (es : List (List ℕ × List ℕ)) (v : Scopes) (flaw : Flaw) →
    put_all (codes "expect_out") es v ≡ Err flaw → sets_all es v ≡ (v, Some flaw)
none_set [] v flaw is = cc
none_set (e ∷ es) v flaw is =
    ap (λ r. and_then (one_written v r) (sets_all es))
    (only_first (codes "expect_out") e es v flaw is)

-- the elements are written as far as the definition writes them
pub writes_all : {A T : Type 0} (es : List (List ℕ × List ℕ)) (v new : Scopes)
    (r : Result T (Raise A)) → PutsAll (put_all (codes "expect_out") es v) v r new →
    Writes (sets_all es v) r new
writes_all es v new (Ok done) is = all_set es v new is
writes_all es v new (Err (raise.Fault why)) is =
    none_set es v (flaw_of why) is.0 ∙ ap (λ u. (u, Some (flaw_of why))) (sym is.1)
writes_all es v new (Err (raise.NoMemory refusal)) is = tt
