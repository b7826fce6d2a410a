-- How the calls of the table change the ids of the definition.
use Rattle.std.proofs.Common.{◌≡◌, ℕ, ◌==◌, ◌&&◌, Bool, true, false, List, [], ◌∷◌, ◌++◌, map, if◌then◌else◌, refl, sym, ap, ◌∙◌}
use Rattle.std.proofs.lemmas.Bool.{eqb-true}
use Rattle.acts.specs.declared.id.Id.{Id}
use Rattle.matchbuf.specs.Held.{held}
use Rattle.matchbuf.specs.Journal.{Record, Sized, IsJournal, window, size_of}
use Rattle.matchbuf.proofs.Windows.{fits_arrived, fits_sized}
use Rattle.choices.specs.Lines.{Line, at_line, without, reaching, reached, resized, dropping, fresh_line, IsFirstOut}
use Rattle.choices.specs.Kinds.{Kind}
use Rattle.choices.specs.Peers.{Peer, opened, at_peer, fresh, fresh_journal, shut, arrived, sized, set_nulls, line, HaveJournals, FitsPeers}
use Rattle.choices.specs.Views.{line_by}
use Rattle.choices.proofs.Chosen.{own_fits}
use Rattle.choices.proofs.Opened.{same_number}
use Rattle.choices.proofs.Peers.{Keeps, changes, opened-first, have}

arrives : (bytes : List ℕ) (p : Peer) → IsJournal p.journal → Keeps (arrived bytes) (reached bytes) p
arrives bytes p is =
    let fits = fits_arrived p.journal (held (window p.journal) (size_of p.journal))
    (reaching p.drops_nulls bytes) (own_fits p is) in
    record {
      as_open = refl;
      journal = fits.is_journal;
      same = ap (λ (w : List ℕ). line_by p.id p.kind (held w (size_of p.journal)) p.drops_nulls)
          fits.bytes;
    }

sizes : (max : ℕ) (p : Peer) → IsJournal p.journal → Keeps (sized max) (resized max) p
sizes max p is =
    let fits = fits_sized p.journal (held (window p.journal) (size_of p.journal)) max
    (own_fits p is) in
    record {
      as_open = refl;
      journal = fits.is_journal;
      same = ap (λ (w : List ℕ). line_by p.id p.kind (held w max) p.drops_nulls) fits.bytes;
    }

-- ids and lines fit after an arrival, after a new size, and after a new setting of nulls
pub fits_arrival : (bytes : List ℕ) (i : Id) (ls new : List Line) → new ≡ at_line (reached bytes) i ls
    → (ps : List Peer) → FitsPeers ls ps → FitsPeers new (at_peer (arrived bytes) i ps)
fits_arrival bytes i ls new is ps fits =
    rw is (changes (arrived bytes) (reached bytes) i ps ls (λ p at j. arrives bytes p j) fits)

pub fits_size : (max : ℕ) (i : Id) (ls new : List Line) → new ≡ at_line (resized max) i ls
    → (ps : List Peer) → FitsPeers ls ps → FitsPeers new (at_peer (sized max) i ps)
fits_size max i ls new is ps fits =
    rw is (changes (sized max) (resized max) i ps ls (λ p at j. sizes max p j) fits)

pub fits_setting : (drops : Bool) (i : Id) (ls new : List Line) → new ≡ at_line (dropping drops) i ls
    → (ps : List Peer) → FitsPeers ls ps → FitsPeers new (at_peer (set_nulls drops) i ps)
fits_setting drops i ls new is ps fits =
    rw is (changes (set_nulls drops) (dropping drops) i ps ls
    (λ p at j. record { as_open = refl; journal = j; same = refl }) fits)

-- the open ids have journals, and these are their lines
record Left (ps : List Peer) (ls : List Line) : Type 0 where
  journals : HaveJournals (opened ps)
  lines : map line (opened ps) ≡ ls

-- an open id is closed
module _ (i : Id) where
  abbrev Goal : List Peer → Type 0
  Goal ps = HaveJournals (opened ps) → Left (at_peer shut i ps) (without i (map line (opened ps)))

  at-first : (p : Peer) (ps : List Peer) (a b : Bool) → p.is_open ≡ a → (p.id.0 == i.0) ≡ b →
      at_peer shut i (p ∷ ps) ≡ (if a && b then shut p ∷ ps else p ∷ at_peer shut i ps)
  at-first p ps a b is hit = λ k. if is k && hit k then shut p ∷ ps else p ∷ at_peer shut i ps

  out-first : (l : Line) (ls : List Line) (b : Bool) → (l.id.0 == i.0) ≡ b →
      without i (l ∷ ls) ≡ (if b then ls else l ∷ without i ls)
  out-first l ls b hit = ap (λ (c : Bool). if c then ls else l ∷ without i ls) hit

  by : (p : Peer) (ps : List Peer) (a b : Bool) → p.is_open ≡ a → (p.id.0 == i.0) ≡ b → Goal ps →
      Goal (p ∷ ps)
  by p ps false b closed is rest = λ journals.
      let e : opened (p ∷ ps) ≡ opened ps = opened-first p ps false closed in
      let more : Left (at_peer shut i ps) (without i (map line (opened ps))) =
      rest (have _ _ (sym e) journals) in
      let after : opened (at_peer shut i (p ∷ ps)) ≡ opened (at_peer shut i ps) =
      ap opened (at-first p ps false b closed is)
      ∙ opened-first p (at_peer shut i ps) false closed in
      record {
        journals = have _ _ after more.journals;
        lines = ap (map line) after ∙ more.lines ∙ ap (λ os. without i (map line os)) (sym e);
      }
  by p ps true false is miss rest = λ journals.
      let e : opened (p ∷ ps) ≡ p ∷ opened ps = opened-first p ps true is in
      let had : HaveJournals (p ∷ opened ps) = have _ _ (sym e) journals in
      let more : Left (at_peer shut i ps) (without i (map line (opened ps))) = rest had.1 in
      let after : opened (at_peer shut i (p ∷ ps)) ≡ p ∷ opened (at_peer shut i ps) =
      ap opened (at-first p ps true false is miss)
      ∙ opened-first p (at_peer shut i ps) true is in
      record {
        journals = have _ _ after (had.0, more.journals);
        lines = ap (map line) after ∙ ap (λ ls. line p ∷ ls) more.lines
            ∙ sym (out-first (line p) (map line (opened ps)) false miss)
            ∙ ap (λ os. without i (map line os)) (sym e);
      }
  by p ps true true is hit rest = λ journals.
      let e : opened (p ∷ ps) ≡ p ∷ opened ps = opened-first p ps true is in
      let had : HaveJournals (p ∷ opened ps) = have _ _ (sym e) journals in
      let after : opened (at_peer shut i (p ∷ ps)) ≡ opened ps =
      ap opened (at-first p ps true true is hit) in
      record {
        journals = have _ _ after had.1;
        lines = ap (map line) after ∙ sym (out-first (line p) (map line (opened ps)) true hit)
            ∙ ap (λ os. without i (map line os)) (sym e);
      }

  all : (ps : List Peer) → Goal ps
  all [] = λ journals. record { journals = tt; lines = refl }
  all (p ∷ ps) = by p ps p.is_open (p.id.0 == i.0) refl refl (all ps)

  pub fits_closed : (ls new : List Line) → new ≡ without i ls → (ps : List Peer) →
      FitsPeers ls ps → FitsPeers new (at_peer shut i ps)
  fits_closed ls new is ps fits =
      let left = all ps fits.journals in
      let lines : map line (opened (at_peer shut i ps)) ≡ new =
      left.lines ∙ ap (without i) fits.lines ∙ sym is in
      record { journals = left.journals; lines = lines }

-- taking out the line of the id that was opened first leaves the other lines
out_first : (l : Line) (ls : List Line) → without l.id (l ∷ ls) ≡ ls
out_first l ls = ap (λ (c : Bool). if c then ls else l ∷ without l.id ls) (same_number l.id.0)

pub fits_first_out : (i : Id) (ls new : List Line) → IsFirstOut i ls new → (ps : List Peer) →
    FitsPeers ls ps → FitsPeers new (at_peer shut i ps)
fits_first_out i ls new out =
    fits_closed i ls new
    (sym (ap (without i) out.split ∙ ap (λ j. without j (out.line ∷ new)) (sym out.same)
    ∙ out_first out.line new))

-- an id just opened has a journal, and the line of a fresh id
record IsFresh (i : Id) (kind : Kind) (max : ℕ) (drops : Bool) : Type 0 where
  journal : IsJournal (fresh_journal max)
  same : line (fresh i kind max drops) ≡ fresh_line i kind max drops

is-fresh : (i : Id) (kind : Kind) (max : ℕ) (drops : Bool) → IsFresh i kind max drops
is-fresh i kind max drops = by (max == 2000) refl
  where
    chosen : Bool → List Record
    chosen b = if b then Sized 2000 ∷ [] else Sized max ∷ Sized 2000 ∷ []

    by : (b : Bool) → (max == 2000) ≡ b → IsFresh i kind max drops
    by true is =
        let e : fresh_journal max ≡ Sized 2000 ∷ [] = ap chosen is in
        let two : max ≡ 2000 = eqb-true max 2000 is in
        record {
          journal = rw e tt;
          same = ap (λ j. line_by i kind (held (window j) (size_of j)) drops) e
              ∙ ap (λ m. line_by i kind (held [] m) drops) (sym two);
        }
    by false is =
        let e : fresh_journal max ≡ Sized max ∷ Sized 2000 ∷ [] = ap chosen is in
        record {
          journal = rw e tt;
          same = ap (λ j. line_by i kind (held (window j) (size_of j)) drops) e;
        }

-- an open id put at the end of the ids is the last of the open ones
opened-more : (p : Peer) (ps : List Peer) → p.is_open ≡ true →
    opened (ps ++ p ∷ []) ≡ opened ps ++ p ∷ []
opened-more p [] is = opened-first p [] true is
opened-more p (q ∷ ps) is = by q.is_open (opened-more p ps is)
  where
    by : (a : Bool) → opened (ps ++ p ∷ []) ≡ opened ps ++ p ∷ [] →
        (if a then q ∷ opened (ps ++ p ∷ []) else opened (ps ++ p ∷ []))
        ≡ (if a then q ∷ opened ps else opened ps) ++ p ∷ []
    by true rest = ap (λ qs. q ∷ qs) rest
    by false rest = rest

have-more : (ps : List Peer) (p : Peer) → HaveJournals ps → IsJournal p.journal →
    HaveJournals (ps ++ p ∷ [])
have-more [] p had is = (is, tt)
have-more (q ∷ ps) p had is = (had.0, have-more ps p had.1 is)

map-more : (ps : List Peer) (p : Peer) → map line (ps ++ p ∷ []) ≡ map line ps ++ line p ∷ []
map-more [] p = refl
map-more (q ∷ ps) p = ap (λ ls. line q ∷ ls) (map-more ps p)

pub fits_opened : (i : Id) (kind : Kind) (max : ℕ) (drops : Bool) (ls new : List Line) →
    new ≡ ls ++ fresh_line i kind max drops ∷ [] → (ps : List Peer) →
    FitsPeers ls ps → FitsPeers new (ps ++ fresh i kind max drops ∷ [])
fits_opened i kind max drops ls new is ps fits =
    let p = fresh i kind max drops in
    let fresh = is-fresh i kind max drops in
    record {
      journals = have _ _ (opened-more p ps refl)
          (have-more (opened ps) p fits.journals fresh.journal);
      lines = ap (map line) (opened-more p ps refl) ∙ map-more (opened ps) p
          ∙ ap (λ l. map line (opened ps) ++ l ∷ []) fresh.same
          ∙ ap (λ ms. ms ++ fresh_line i kind max drops ∷ []) fits.lines ∙ sym is;
    }
