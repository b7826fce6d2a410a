-- Texts that are put into a sink as far as it takes them.
use Rattle.std.proofs.Common.{◌≡◌, ◌+◌, ◌-◌, ◌++◌, ℕ, false, List, length, take, drop, max, sym, ap, ◌∙◌, subst, append_assoc, arith}
use Rattle.std.proofs.Math.Seq.{take-add, take-append-add}
use Rattle.std.proofs.lemmas.List.{drop-take}
use Rattle.records.specs.Sink.{Gets}
use Rattle.records.proofs.Sinks.{Gets-more, Takes-then}
use Rattle.recorders.specs.RecordFile.{Gathers}

module _ {S : Type 0} (adds : S → List ℕ → S → Type 0) where
  -- one more put of what is left of a text
  pub Gets-next : (before mid after : S) (text : List ℕ) (done n : ℕ) →
      Gets adds before (take done text) mid → adds mid (take n (drop done text)) after →
      Gets adds before (take (done + n) text) after
  Gets-next before mid after text done n gets put =
      subst (λ bytes. Gets adds before bytes after) (sym (take-add done n text))
      (Gets-more adds before mid after (take done text) (take n (drop done text)) gets put)

  -- a put that takes nothing adds nothing to what was taken
  pub Gets-last : (before mid after : S) (text : List ℕ) (done n : ℕ) → n ≡ 0 →
      Gets adds before (take done text) mid → adds mid (take n (drop done text)) after →
      Gets adds before (take done text) after
  Gets-last before mid after text done n none gets put =
      let same : done + n ≡ done = omega (arith, none) in
      subst (λ count. Gets adds before (take count text) after) same
      (Gets-next before mid after text done n gets put)

  -- a sink gets a text, and then another, and so both joined
  pub Gets-both : (before mid after : S) (x y : List ℕ) → Gets adds before x mid →
      Gets adds mid y after → Gets adds before (x ++ y) after
  Gets-both before mid after x y first second =
      Takes-then adds (λ sink. false) before mid after x y first second

  -- what goes to the file at once, and then what is gathered and goes later
  pub Gathers-then : (first mid last : S) (gathered x between y left : List ℕ) →
      Gathers adds first gathered x between mid → Gathers adds mid between y left last →
      Gathers adds first gathered (x ++ y) left last
  Gathers-then first mid last gathered x between y left (gone, gets, whole) (more, next, rest) = (
    gone ++ more,
    Gets-both first mid last gone more gets next,
    sym (append_assoc gathered x y) ∙ ap (λ bytes. bytes ++ y) whole
        ∙ append_assoc gone between y ∙ ap (λ bytes. gone ++ bytes) rest
        ∙ sym (append_assoc gone more left),
  )

-- the first bytes of two texts have gone: with what was taken of the second one, the first one is
-- what has gone and what is left
pub parted : (x y : List ℕ) (gone : ℕ) → x ++ take (gone - length x) y
    ≡ take gone (x ++ y) ++ drop gone (take (max gone (length x)) (x ++ y))
parted x y gone =
    let more = length x - gone in
    let both : length x + (gone - length x) ≡ gone + more = omega arith in
    let most : max gone (length x) ≡ gone + more = omega arith in
    let whole = x ++ y in
    rw most (sym (take-append-add x y (gone - length x)) ∙ ap (λ n. take n whole) both
    ∙ take-add gone more whole
    ∙ ap (λ bytes. take gone whole ++ bytes) (sym (drop-take gone more whole)))
