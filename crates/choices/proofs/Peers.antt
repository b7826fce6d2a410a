-- How a change of an open id of the definition changes its line.
use Rattle.std.proofs.Common.{◌≡◌, ◌==◌, ◌&&◌, Bool, true, false, List, [], ◌∷◌, map, Option, Some, if◌then◌else◌, refl, sym, ap, ◌∙◌}
use Rattle.acts.specs.declared.id.Id.{Id}
use Rattle.matchbuf.specs.Journal.{IsJournal}
use Rattle.choices.specs.Lines.{Line, line_of, at_line}
use Rattle.choices.specs.Peers.{Peer, opened, at_peer, line, HaveJournals, FitsPeers}

-- a change leaves an id as open as it was, and with a journal, and is that change of its line
pub record Keeps (g : Peer → Peer) (f : Line → Line) (p : Peer) : Type 0 where
  pub as_open : (g p).is_open ≡ p.is_open
  pub journal : IsJournal (g p).journal
  pub same : line (g p) ≡ f (line p)

-- a change has these properties where the id has that line
abbrev pub KeepsAt : (Peer → Peer) → (Line → Line) → Option Line → Type 0
KeepsAt g f o = (p : Peer) → o ≡ Some (line p) → IsJournal p.journal → Keeps g f p

-- the open ids have journals, and these are their lines
record Fit (ps : List Peer) (ls : List Line) : Type 0 where
  journals : HaveJournals (opened ps)
  lines : map line (opened ps) ≡ ls

pub have : (ps qs : List Peer) → ps ≡ qs → HaveJournals qs → HaveJournals ps
have ps qs e h = rw e h

-- an id in front, open or closed
pub opened-first : (p : Peer) (ps : List Peer) (b : Bool) → p.is_open ≡ b →
    opened (p ∷ ps) ≡ (if b then p ∷ opened ps else opened ps)
opened-first p ps b is = ap (λ (a : Bool). if a then p ∷ opened ps else opened ps) is

-- what changes one of the open ids
module _ (g : Peer → Peer) (f : Line → Line) (i : Id) where
  -- the lines of the changed ids are the changed lines
  abbrev Goal : List Peer → Type 0
  Goal ps = HaveJournals (opened ps) → KeepsAt g f (line_of (map line (opened ps)) i)
      → Fit (at_peer g i ps) (at_line f i (map line (opened ps)))

  at-first : (p : Peer) (ps : List Peer) (a b : Bool) → p.is_open ≡ a → (p.id.0 == i.0) ≡ b →
      at_peer g i (p ∷ ps) ≡ (if a && b then g p ∷ ps else p ∷ at_peer g i ps)
  at-first p ps a b is hit = λ k. if is k && hit k then g p ∷ ps else p ∷ at_peer g i ps

  line-first : (l : Line) (ls : List Line) (b : Bool) → (l.id.0 == i.0) ≡ b →
      at_line f i (l ∷ ls) ≡ (if b then f l ∷ ls else l ∷ at_line f i ls)
  line-first l ls b hit = ap (λ (c : Bool). if c then f l ∷ ls else l ∷ at_line f i ls) hit

  of-first : (l : Line) (ls : List Line) (b : Bool) → (l.id.0 == i.0) ≡ b →
      line_of (l ∷ ls) i ≡ (if b then Some l else line_of ls i)
  of-first l ls b hit = ap (λ (c : Bool). if c then Some l else line_of ls i) hit

  by : (p : Peer) (ps : List Peer) (a b : Bool) → p.is_open ≡ a → (p.id.0 == i.0) ≡ b → Goal ps →
      Goal (p ∷ ps)
  by p ps false b closed is rest = λ journals keeps.
      let e : opened (p ∷ ps) ≡ opened ps = opened-first p ps false closed in
      let more : Fit (at_peer g i ps) (at_line f i (map line (opened ps))) =
      rest (have _ _ (sym e) journals)
      (λ q at j. keeps q (ap (λ os. line_of (map line os) i) e ∙ at) j) in
      let after : opened (at_peer g i (p ∷ ps)) ≡ opened (at_peer g i ps) =
      ap opened (at-first p ps false b closed is) ∙ opened-first p (at_peer g i ps) false closed in
      record {
        journals = have _ _ after more.journals;
        lines = ap (map line) after ∙ more.lines
            ∙ ap (λ os. at_line f i (map line os)) (sym e);
      }
  by p ps true false is miss rest = λ journals keeps.
      let e : opened (p ∷ ps) ≡ p ∷ opened ps = opened-first p ps true is in
      let had : HaveJournals (p ∷ opened ps) = have _ _ (sym e) journals in
      let further : line_of (map line (opened (p ∷ ps))) i ≡ line_of (map line (opened ps)) i =
      ap (λ os. line_of (map line os) i) e ∙ of-first (line p) (map line (opened ps)) false miss in
      let more : Fit (at_peer g i ps) (at_line f i (map line (opened ps))) =
      rest had.1 (λ q at j. keeps q (further ∙ at) j) in
      let after : opened (at_peer g i (p ∷ ps)) ≡ p ∷ opened (at_peer g i ps) =
      ap opened (at-first p ps true false is miss) ∙ opened-first p (at_peer g i ps) true is in
      record {
        journals = have _ _ after (had.0, more.journals);
        lines = ap (map line) after ∙ ap (λ ls. line p ∷ ls) more.lines
            ∙ sym (line-first (line p) (map line (opened ps)) false miss)
            ∙ ap (λ os. at_line f i (map line os)) (sym e);
      }
  by p ps true true is hit rest = λ journals keeps.
      let e : opened (p ∷ ps) ≡ p ∷ opened ps = opened-first p ps true is in
      let had : HaveJournals (p ∷ opened ps) = have _ _ (sym e) journals in
      let here : line_of (map line (opened (p ∷ ps))) i ≡ Some (line p) =
      ap (λ os. line_of (map line os) i) e ∙ of-first (line p) (map line (opened ps)) true hit in
      let kept : Keeps g f p = keeps p here had.0 in
      let after : opened (at_peer g i (p ∷ ps)) ≡ g p ∷ opened ps =
      ap opened (at-first p ps true true is hit)
      ∙ opened-first (g p) ps true (kept.as_open ∙ is) in
      record {
        journals = have _ _ after (kept.journal, had.1);
        lines = ap (map line) after ∙ ap (λ l. l ∷ map line (opened ps)) kept.same
            ∙ sym (line-first (line p) (map line (opened ps)) true hit)
            ∙ ap (λ os. at_line f i (map line os)) (sym e);
      }

  all : (ps : List Peer) → Goal ps
  all [] = λ journals keeps. record { journals = tt; lines = refl }
  all (p ∷ ps) = by p ps p.is_open (p.id.0 == i.0) refl refl (all ps)

  -- the line of the id is changed as the id is
  pub changes : (ps : List Peer) (ls : List Line) → KeepsAt g f (line_of ls i) → FitsPeers ls ps →
      FitsPeers (at_line f i ls) (at_peer g i ps)
  changes ps ls keeps fits =
      let fit = all ps fits.journals
      (λ q at j. keeps q (ap (λ ms. line_of ms i) (sym fits.lines) ∙ at) j) in
      record { journals = fit.journals; lines = fit.lines ∙ ap (at_line f i) fits.lines }
