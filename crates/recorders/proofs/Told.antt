-- Which rows records can state.
use Rattle.std.proofs.Common.{◌≡◌, ◌<◌, ◌≤◌, ◌^◌, ◌⊎◌, ℕ, true, false, List, [], ◌∷◌, refl, sym, ◌∙◌, inl, inr, arith}
use Rattle.std.specs.Prelude.{nat_le}
use Rattle.std.specs.Bool.{Decides}
use Rattle.std.specs.List.{AllByRecursion, list_all}
use Rattle.std.proofs.lemmas.Bool.{false≢true}
use Rattle.std.proofs.lemmas.Bool.Decides.{Decides-and, Decides-eqb, Decides-ltb, leb_tells}
use Rattle.acts.specs.declared.row.Row.{Row}
use Rattle.lines.specs.Rows.{IsRow, greatest_size, wanted}
use Rattle.recorders.specs.Recorder.{is_row}

le_by : (a b : ℕ) → ((nat_le a b ≡ true) × (a ≤ b)) ⊎ ((nat_le a b ≡ false) × (b < a)) →
    Decides (nat_le a b) (a ≤ b)
le_by a b (inl (holds, le)) = (λ is. le, λ is. holds)
le_by a b (inr (fails, above)) =
    (λ holds. absurd (false≢true (sym fails ∙ holds)), λ le. absurd (omega (arith, above, le)))

le_decides : (a b : ℕ) → Decides (nat_le a b) (a ≤ b)
le_decides a b = le_by a b (leb_tells a b)

row_decides : (row : Row) → Decides (is_row row) (IsRow row)
row_decides row =
    let (there, back) = Decides-and _ _ (Decides-ltb row.id.0 (2 ^ 64))
    (Decides-and _ _ (le_decides 1 row.max) (Decides-and _ _ (le_decides row.max greatest_size)
    (Decides-and _ _ (le_decides row.held row.max)
    (Decides-eqb row.want (wanted row.held row.max))))) in (
      λ holds.
          let (id, (some, (most, (fits, want)))) = there holds in (id, some, most, fits, want),
      λ (id, some, most, fits, want). back (id, (some, (most, (fits, want)))),
    )

-- records can state each row, exactly where the test says so
pub rows_decide : (rows : List Row) → Decides (list_all is_row rows) (AllByRecursion IsRow rows)
rows_decide [] = (λ holds. tt, λ all. refl)
rows_decide (row ∷ rows) = Decides-and _ _ (row_decides row) (rows_decide rows)
