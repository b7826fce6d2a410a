-- How a story tells the acts of a run (this project's own), and the laws of it that the story shows
-- where it says what it keeps (a law of a type can cite definitions alone).
use Rattle.std.specs.Prelude.{◌≡◌, ℕ, Bool, true, false, List, [], ◌∷◌, ◌++◌, length}
use Rattle.std.proofs.Common.{◌∙◌, refl, sym, subst, append_assoc}
use Rattle.acts.specs.Deed.{Deed, Reply}
use Rattle.acts.specs.History.{History}
use Rattle.records.specs.Sink.{Takes}
use Rattle.records.proofs.Sinks.{Takes-none, Takes-then}
use Rattle.teller.specs.Told.{IsLineOf, may_be_unasked}
use Rattle.teller.specs.declared.telling.Detail.{Detail}
use Rattle.teller.specs.declared.telling.Detail.TheVariants.{Whole}
use Rattle.explain.specs.Counts.{CountsOn, goes_on, stands_still}

-- a text tells the acts of a history with their answers, each by its line and in their order, with
-- other lines before, between and after them; of an act that may be unasked it may tell nothing
pub data Tells : History → List ℕ → Type 0 where
  Ends : Tells [] []
  Other : {history : History} {text : List ℕ} (more : List ℕ) → Tells history text →
      Tells history (more ++ text)
  Line : {deed : Deed} {reply : Reply} {history : History} {text : List ℕ} (line : List ℕ) →
      IsLineOf deed reply line → Tells history text →
      Tells ((deed, reply) ∷ history) (line ++ text)
  Unasked : {deed : Deed} {reply : Reply} {history : History} {text : List ℕ} →
      may_be_unasked deed ≡ true → Tells history text → Tells ((deed, reply) ∷ history) text

-- what a story is that is told to a sink
pub record Told (S : Type 0) : Type 0 where
  pub acts : ℕ
  pub detail : Detail
  pub is_lost : Bool
  pub sink : S

-- a story of which nothing is told yet
abbrev pub untold : {S : Type 0} → Detail → S → Told S
untold detail sink = record { acts = 0; detail = detail; is_lost = false; sink = sink }

-- `adds` says whether a put may lead from one state of the sink to another and add these bytes,
-- `failed` whether the sink has failed.
module _ {S : Type 0} (adds : S → List ℕ → S → Type 0) (failed : S → Bool) where
  -- a story goes on by being told these acts with their answers: it counts them, its sink takes a
  -- text, and that tells them where the whole is told and no memory was refused
  pub record GoesOn (before : Told S) (history : History) (after : Told S) : Type 0 where
    pub counts : CountsOn before.acts (length history) after.acts
    pub detail : after.detail ≡ before.detail
    pub lost : before.is_lost ≡ true → after.is_lost ≡ true
    pub text : List ℕ
    pub takes : Takes adds failed before.sink text after.sink
    pub tells : after.detail ≡ Whole → after.is_lost ≡ false → Tells history text

pub tells_both : {h k : History} {x y : List ℕ} → Tells h x → Tells k y → Tells (h ++ k) (x ++ y)
tells_both Ends second = second
tells_both {h} {k} {y = y} (Other {text = text} more first) second =
    subst (Tells (h ++ k)) (sym (append_assoc more text y)) (Other more (tells_both first second))
tells_both {k = k} {y = y} (Line {deed} {reply} {history} {text} line is first) second =
    subst (Tells ((deed, reply) ∷ (history ++ k))) (sym (append_assoc line text y))
    (Line line is (tells_both first second))
tells_both (Unasked may first) second = Unasked may (tells_both first second)

was_kept : (before after : Bool) → (before ≡ true → after ≡ true) → after ≡ false → before ≡ false
was_kept true after lost kept = sym (lost refl) ∙ kept
was_kept false after lost kept = refl

pub rests : {S : Type 0} (adds : S → List ℕ → S → Type 0) (failed : S → Bool) (story : Told S) →
    GoesOn adds failed story [] story
rests adds failed story = record {
  counts = stands_still story.acts;
  detail = refl;
  lost = λ lost. lost;
  text = [];
  takes = Takes-none adds failed story.sink;
  tells = λ whole kept. Ends;
}

pub joined : {S : Type 0} (adds : S → List ℕ → S → Type 0) (failed : S → Bool)
    (x y z : Told S) (h k : History) →
    GoesOn adds failed x h y → GoesOn adds failed y k z → GoesOn adds failed x (h ++ k) z
joined adds failed x y z h k first second = record {
  counts = goes_on x.acts y.acts z.acts h k first.counts second.counts;
  detail = second.detail ∙ first.detail;
  lost = λ lost. second.lost (first.lost lost);
  text = first.text ++ second.text;
  takes = Takes-then adds failed x.sink y.sink z.sink first.text second.text first.takes
      second.takes;
  tells = λ whole kept. tells_both
      (first.tells (sym second.detail ∙ whole) (was_kept y.is_lost z.is_lost second.lost kept))
      (second.tells whole kept);
}
