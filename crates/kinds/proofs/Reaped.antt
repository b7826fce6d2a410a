-- What becomes of the ids where one was waited for.
use Rattle.std.proofs.Common.{◌≡◌, ◌==◌, ◌||◌, not, suc, Bool, true, false, List, [], ◌∷◌, length, map, filter, if◌then◌else◌, refl, sym, ap, ◌∙◌}
use Rattle.acts.specs.declared.id.Id.{Id}
use Rattle.choices.proofs.Peers.{have}
use Rattle.choices.specs.Lines.{Line}
use Rattle.choices.specs.Peers.{Peer, opened, line, HaveJournals, FitsPeers}
use Rattle.kinds.specs.Edits.{reaped}
use Rattle.state.specs.Ids.{Unreaped, unreaped}
use Rattle.state.specs.View.{unreaped_of}
use Rattle.state.specs.declared.ids.Unreaped as reapable

module _ (i : Id) where
  by_open : (p : Peer) (ps : List Peer) (b : Bool) →
      opened (map (reaped i) ps) ≡ map (reaped i) (opened ps) →
      (if b then reaped i p ∷ opened (map (reaped i) ps) else opened (map (reaped i) ps))
      ≡ map (reaped i) (if b then p ∷ opened ps else opened ps)
  by_open p ps true rest = ap (λ qs. reaped i p ∷ qs) rest
  by_open p ps false rest = rest

  -- the same ids are open
  opened_same : (ps : List Peer) → opened (map (reaped i) ps) ≡ map (reaped i) (opened ps)
  opened_same [] = refl
  opened_same (p ∷ ps) = by_open p ps p.is_open (opened_same ps)

  -- the open ids have the same lines and journals, and are as many
  lines_same : (ps : List Peer) → map line (map (reaped i) ps) ≡ map line ps
  lines_same [] = refl
  lines_same (p ∷ ps) = ap (λ ls. line p ∷ ls) (lines_same ps)

  journals_same : (ps : List Peer) → HaveJournals ps → HaveJournals (map (reaped i) ps)
  journals_same [] had = tt
  journals_same (p ∷ ps) had = (had.0, journals_same ps had.1)

  length_same : (ps : List Peer) → length (map (reaped i) ps) ≡ length ps
  length_same [] = refl
  length_same (p ∷ ps) = ap suc (length_same ps)

  pub count_reaped : (ps : List Peer) →
      length (opened (map (reaped i) ps)) ≡ length (opened ps)
  count_reaped ps = ap length (opened_same ps) ∙ length_same (opened ps)

  pub peers_fit : (ls : List Line) (ps : List Peer) → FitsPeers ls ps →
      FitsPeers ls (map (reaped i) ps)
  peers_fit ls ps fits = record {
    journals = have _ _ (opened_same ps) (journals_same (opened ps) fits.journals);
    lines = ap (map line) (opened_same ps) ∙ lines_same (opened ps) ∙ fits.lines;
  }

  -- the id is another one
  abbrev pub is_other : Unreaped → Bool
  is_other u = not (u.id.0 == i.0)

  abbrev as_unreaped : Peer → Unreaped
  as_unreaped p = record { id = p.id; kind = p.kind }

  by_reaped : (p : Peer) (ps : List Peer) (r b : Bool) →
      unreaped (map (reaped i) ps) ≡ filter is_other (unreaped ps) →
      (if r || b then unreaped (map (reaped i) ps)
      else as_unreaped p ∷ unreaped (map (reaped i) ps))
      ≡ (if r then filter is_other (unreaped ps)
      else if not b then as_unreaped p ∷ filter is_other (unreaped ps)
      else filter is_other (unreaped ps))
  by_reaped p ps true b rest = rest
  by_reaped p ps false true rest = rest
  by_reaped p ps false false rest = ap (λ us. as_unreaped p ∷ us) rest

  filtered : (p : Peer) (ps : List Peer) (r : Bool) →
      filter is_other (if r then unreaped ps else as_unreaped p ∷ unreaped ps)
      ≡ (if r then filter is_other (unreaped ps)
      else if is_other (as_unreaped p) then as_unreaped p ∷ filter is_other (unreaped ps)
      else filter is_other (unreaped ps))
  filtered p ps true = refl
  filtered p ps false = refl

  -- the id goes from those that may be waited for
  pub unreaped_gone : (ps : List Peer) →
      unreaped (map (reaped i) ps) ≡ filter is_other (unreaped ps)
  unreaped_gone [] = refl
  unreaped_gone (p ∷ ps) =
      by_reaped p ps p.is_reaped (p.id.0 == i.0) (unreaped_gone ps)
      ∙ sym (filtered p ps p.is_reaped)

  abbrev is_other_in : reapable.Unreaped → Bool
  is_other_in u = not (u.id.0 == i.0)

  by_kept : (u : reapable.Unreaped) (us : List reapable.Unreaped) (b : Bool) →
      map unreaped_of (filter is_other_in us) ≡ filter is_other (map unreaped_of us) →
      map unreaped_of (if b then u ∷ filter is_other_in us else filter is_other_in us)
      ≡ (if b then unreaped_of u ∷ filter is_other (map unreaped_of us)
      else filter is_other (map unreaped_of us))
  by_kept u us true rest = ap (λ vs. unreaped_of u ∷ vs) rest
  by_kept u us false rest = rest

  -- the id is removed in the code as in the definition
  pub map_filtered : (us : List reapable.Unreaped) →
      map unreaped_of (filter is_other_in us) ≡ filter is_other (map unreaped_of us)
  map_filtered [] = refl
  map_filtered (u ∷ us) = by_kept u us (is_other_in u) (map_filtered us)
