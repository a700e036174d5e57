-- Document 01's circle, and document 02, K10: it is the ellipse of equal axes. No code stands on this rule.
use Rattle.std.specs.Prelude.{ℕ, ◌≡◌, Bool, ◌&&◌, ◌||◌, ℤ, pos, ◌+ℤ◌, ◌-ℤ◌, ◌*ℤ◌}
use Rattle.std.specs.Int.Signed.{le_z, lt_z}
use Rattle.laws.specs.Equal.{eq_z}
use Rattle.sheet.specs.declared.Cell.{Cell}
use Rattle.ring.specs.Ring.{around, sq, on_ellipse}

-- x ≤ y and either y ≥ 1 and y(y − 1) < r² − x² ≤ y(y + 1), or y = 0 and r = 0
unfoldable pub in_eighth : ℤ → ℤ → ℤ → Bool
in_eighth r x y =
    le_z x y
    && ((le_z (pos 1) y
    && lt_z (y *ℤ (y -ℤ pos 1)) (sq r -ℤ sq x)
    && le_z (sq r -ℤ sq x) (y *ℤ (y +ℤ pos 1)))
    || (eq_z y (pos 0) && eq_z r (pos 0)))

-- (x, y) or (y, x) is such
unfoldable pub circle_rule : ℕ → ℕ → ℕ → Bool
circle_rule r x y = in_eighth (pos r) (pos x) (pos y) || in_eighth (pos r) (pos y) (pos x)

-- Circle of radius r.
abbrev pub on_circle : Cell → ℕ → Cell → Bool
on_circle c r = around c (circle_rule r)

-- Equal axes mark the circle's cells, for every radius.
abbrev pub CircleIsEllipse : Type 0
CircleIsEllipse = (c : Cell) (r : ℕ) (d : Cell) → on_ellipse c r r d ≡ on_circle c r d
