-- Document 01, "Circles and ellipses", with K4 and K10 of document 02: the ellipse, of which the circle is that of equal axes.
use Rattle.std.specs.Prelude.{ℕ, Bool, ◌&&◌, ◌||◌, eqb, ℤ, pos, ◌+ℤ◌, ◌-ℤ◌, ◌*ℤ◌}
use Rattle.std.specs.Int.Signed.{le_z, lt_z}
use Rattle.laws.specs.Equal.{eq_z}
use Rattle.sheet.specs.Chain.{wide, tall}
use Rattle.sheet.specs.declared.Cell.{Cell}

-- all cells (±x, ±y) from the centre, 0 ≤ x and 0 ≤ y, for which the rule holds
unfoldable pub around : Cell → (ℕ → ℕ → Bool) → Cell → Bool
around c rule d = rule (wide c d) (tall c d)

-- z²
abbrev pub sq : ℤ → ℤ
sq z = z *ℤ z

-- column rule: 4b²(a² − x²) < a²(2y + 1)², and y = 0 or a²(2y − 1)² ≤ 4b²(a² − x²): the cell is nearest in its column
unfoldable pub nearest : ℤ → ℤ → ℤ → ℤ → Bool
nearest a b x y =
    lt_z (pos 4 *ℤ sq b *ℤ (sq a -ℤ sq x)) (sq a *ℤ sq (pos 2 *ℤ y +ℤ pos 1))
    && (eq_z y (pos 0)
    || le_z (sq a *ℤ sq (pos 2 *ℤ y -ℤ pos 1)) (pos 4 *ℤ sq b *ℤ (sq a -ℤ sq x)))

-- x ≤ a and y ≤ b, and both axes are 0, or the cell is nearest in its column or in its row: the column rule with the axes exchanged
unfoldable pub ellipse_rule : ℕ → ℕ → ℕ → ℕ → Bool
ellipse_rule a b x y =
    le_z (pos x) (pos a)
    && le_z (pos y) (pos b)
    && ((eqb a 0 && eqb b 0) || nearest (pos a) (pos b) (pos x) (pos y) || nearest (pos b) (pos a) (pos y) (pos x))

-- Ellipse of semi-axes a, b.
abbrev pub on_ellipse : Cell → ℕ → ℕ → Cell → Bool
on_ellipse c a b = around c (ellipse_rule a b)
