-- The states fit again where an open id was changed and may be waited for as before.
use Rattle.std.proofs.Common.{◌≡◌, ◌==◌, ℕ, Bool, true, false, List, [], ◌∷◌, Some, is_some, if◌then◌else◌, refl, ap}
use Rattle.state.specs.Prelude.{Id, Status, FitsState}
use Rattle.choices.proofs.Changes.{fits_size}
use Rattle.choices.specs.Lines.{Line, Listing, at_line, line_of, resized}
use Rattle.choices.specs.Peers.{FitsPeers, at_peer, set_nulls, sized}
use Rattle.kinds.specs.Edits.{DropsNulls, Sizes, edited}
use Rattle.state.proofs.FitIds.{peers_fit}
use Rattle.state.proofs.Fits.{ids_fit}
use Rattle.state.specs.declared.state.State.{State}

-- a change of an id that is not open changes no line
not_first : (change : Line → Line) (i : Id) (l : Line) (ls : List Line) (b : Bool) →
    (is_some (line_of ls i) ≡ false → ls ≡ at_line change i ls) →
    is_some (if b then Some l else line_of ls i) ≡ false →
    l ∷ ls ≡ (if b then change l ∷ ls else l ∷ at_line change i ls)
not_first change i l ls true rest none = absurd (cc)
not_first change i l ls false rest none = ap (λ ms. l ∷ ms) (rest none)

not_there : (change : Line → Line) (i : Id) (ls : List Line) →
    is_some (line_of ls i) ≡ false → ls ≡ at_line change i ls
not_there change i [] none = refl
not_there change i (l ∷ ls) none =
    not_first change i l ls (l.id.0 == i.0) (not_there change i ls) none

module _ {A : Type 0} (state : State A) (s : Status) (fits : FitsState state s) (i : Id) where
  module _ (table : Listing) (next : table.next ≡ state.ids.table.next) where
    -- nulls are removed from what arrives, or are not
    pub nulls_fit : (drops : Bool) →
        FitsPeers table.lines (at_peer (set_nulls drops) i s.ids.peers) →
        FitsState (record state { ids = record state.ids { table = table } })
        (edited (DropsNulls i drops) s)
    nulls_fit drops peers =
        ids_fit state s fits _ _
        (peers_fit state.ids s.ids fits.ids table (set_nulls drops) i
        (record { is_reaped = λ p. refl; id = λ p. refl; kind = λ p. refl }) peers next)

    -- a buffer is of another size
    pub size_fits : (bytes : ℕ) →
        FitsPeers table.lines (at_peer (sized bytes) i s.ids.peers) →
        FitsState (record state { ids = record state.ids { table = table } })
        (edited (Sizes i bytes) s)
    size_fits bytes peers =
        ids_fit state s fits _ _
        (peers_fit state.ids s.ids fits.ids table (sized bytes) i
        (record { is_reaped = λ p. refl; id = λ p. refl; kind = λ p. refl }) peers next)

  -- the id is not open, and its buffer stays
  pub no_size_fits : (bytes : ℕ) → is_some (line_of state.ids.table.lines i) ≡ false →
      FitsState state (edited (Sizes i bytes) s)
  no_size_fits bytes none =
      let lines = state.ids.table.lines in
      size_fits state.ids.table refl bytes
      (fits_size bytes i lines lines (not_there (resized bytes) i lines none) s.ids.peers
      fits.ids.peers)
