-- Which row of the table a kind has.
use Prim.Native.Nat.{ℕ}
use mathlib.Core.Path.{◌≡◌}
use mathlib.Core.List.{List}
use borrow.Author.Tests.{ne_eqb}
use Rattle.sheet.specs.declared.refusal.Refusal.TheVariants.{Kind}
use Rattle.record.specs.Layout.{kind_place, line_row, circle_row, ellipse_row, curve_row, cubic_row, table}
use Rattle.record.specs.Reading.{refused, row_found, kind_found}

module _ (kind : ℕ) (p : List ℕ) (at next : ℕ) where
  pub kind_1 : kind ≡ 1 → kind_found kind p at next ≡ row_found line_row p at next
  unfolding kind_found table line_row
  kind_1 e = rw e

  pub kind_2 : kind ≡ 2 → kind_found kind p at next ≡ row_found circle_row p at next
  unfolding kind_found table line_row circle_row
  kind_2 e = rw e

  pub kind_3 : kind ≡ 3 → kind_found kind p at next ≡ row_found ellipse_row p at next
  unfolding kind_found table line_row circle_row ellipse_row
  kind_3 e = rw e

  pub kind_4 : kind ≡ 4 → kind_found kind p at next ≡ row_found curve_row p at next
  unfolding kind_found table line_row circle_row ellipse_row curve_row
  kind_4 e = rw e

  pub kind_5 : kind ≡ 5 → kind_found kind p at next ≡ row_found cubic_row p at next
  unfolding kind_found table line_row circle_row ellipse_row curve_row cubic_row
  kind_5 e = rw e

  pub no_kind : (kind ≡ 1 → ⊥) → (kind ≡ 2 → ⊥) → (kind ≡ 3 → ⊥) → (kind ≡ 4 → ⊥) → (kind ≡ 5 → ⊥) → kind_found kind p at next ≡ refused Kind (kind_place at)
  unfolding kind_found table line_row circle_row ellipse_row curve_row cubic_row
  no_kind a b c d e = simp (ne_eqb kind 1 a, ne_eqb kind 2 b, ne_eqb kind 3 c, ne_eqb kind 4 d, ne_eqb kind 5 e)
