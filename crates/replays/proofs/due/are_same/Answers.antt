use Rattle.std.proofs.Common.{◌≡◌, ℕ, ap, ◌∙◌}
use Rattle.std.specs.Bool.{Decides}
use Rattle.std.proofs.lemmas.Bool.Decides.{Decides-and, Decides-eqb}
use Rattle.std.proofs.lemmas.Slice.Eq.{slice_eq-Decides}
use Rattle.acts.specs.contracts.row.RowPartialEq.TheImpl.{eq-value}
use Rattle.acts.specs.declared.row.Row.{Row}
use Rattle.replays.proofs.due.are_same.Goals as goal

-- a row of these parts
abbrev row_of : ℕ → ℕ → ℕ → ℕ → Row
row_of id held max want =
    record { id = record { 0 = id }; held = held; max = max; want = want }

same_parts : (a b : Row) → a.id.0 ≡ b.id.0 → a.held ≡ b.held → a.max ≡ b.max → a.want ≡ b.want →
    a ≡ b
same_parts a b e f g h =
    ap (λ n. row_of n a.held a.max a.want) e ∙ ap (λ n. row_of b.id.0 n a.max a.want) f
    ∙ ap (λ n. row_of b.id.0 b.held n a.want) g ∙ ap (λ n. row_of b.id.0 b.held b.max n) h

row_decides : (a b : Row) → Decides (eq-value.it a b) (a ≡ b)
row_decides a b =
    let (there, back) = Decides-and _ _ (Decides-eqb a.id.0 b.id.0)
    (Decides-and _ _ (Decides-eqb a.held b.held) (Decides-and _ _ (Decides-eqb a.max b.max)
    (Decides-eqb a.want b.want))) in (
      λ yes. let (id, (held, (max, want))) = there yes in same_parts a b id held max want,
      λ same. back (
        ap (λ (r : Row). r.id.0) same,
        (
          ap (λ (r : Row). r.held) same,
          (ap (λ (r : Row). r.max) same, ap (λ (r : Row). r.want) same),
        ),
      ),
    )

pub returns : goal.returns
returns c = slice_eq-Decides row_decides c.args.some.now c.args.others.now c.eq.result c.eq.ensures
