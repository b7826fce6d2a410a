-- A program that is taken out of those that were started.
use Rattle.std.proofs.Common.{◌≡◌, ◌==◌, ℕ, suc, List, ◌∷◌, ◌++◌, Some, drop, take, refl, sym, ap, ◌∙◌, slice_index_or}
use Rattle.std.proofs.Math.Seq.{drop-cons}
use Rattle.std.proofs.lemmas.List.{take-append-drop}
use Rattle.std.proofs.lemmas.List.Quantifiers.{position-Some}
use Rattle.std.specs.List.{position, remove}
use Rattle.acts.specs.declared.id.Id.{Id}
use Rattle.live.specs.Live.{LosesProgram}
use Rattle.live.proofs.Table.{same_id, told_same}

-- the program at the place of an id is one of the id
pub whose_found : {P : Type 0} (whose : P → Id) (id : Id) (list : List P) (place : ℕ)
    (program : P) → position (λ p. (whose p).0 == id.0) list ≡ Some place →
    program ≡ slice_index_or list place program → whose program ≡ id
whose_found whose id list place program found value =
    let (within, told, before) = position-Some _ list place program found in
    same_id (whose program) id
    (told_same _ _ (ap (λ p. (whose p).0 == id.0) value ∙ told))

-- and all the others stay where it is taken out
pub taken_out : {P : Type 0} (whose : P → Id) (id : Id) (list : List P) (place : ℕ)
    (program : P) → position (λ p. (whose p).0 == id.0) list ≡ Some place →
    program ≡ slice_index_or list place program →
    LosesProgram whose id list (remove list place)
taken_out whose id list place program found value =
    let (within, told, before) = position-Some _ list place program found in
    let rest = drop (suc place) list in (
      take place list,
      program,
      rest,
      ap (λ whom. whom.0) (whose_found whose id list place program found value),
      sym (take-append-drop place list)
          ∙ ap (λ more. take place list ++ more) (drop-cons list place program within
          ∙ ap (λ p. p ∷ rest) (sym value)),
      refl,
    )
