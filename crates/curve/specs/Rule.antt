-- Document 01, "Quadratic Béziers": the points and the curve, for any list of control points.
use Rattle.std.specs.Prelude.{ℕ, zero, suc, ◌+◌, ◌-◌, ◌*◌, ◌/◌, ◌^◌, Bool, List, map, length, ℤ, pos, negsuc, ◌+ℤ◌, ◌*ℤ◌, slice_index_or}
use Rattle.laws.specs.Below.{any}
use Rattle.sheet.specs.declared.Cell.{Cell}
use Rattle.line.specs.Rule.{on_line}

-- n^d times the mean of the values P 0, .., P d with the weights of Bernstein: that of the first d times n − i, and that of the last d times i.
-- For three values it is (n − i)²P0 + 2i(n − i)P1 + i²P2 (proofs/Formula).
unfoldable pub blend : ℕ → ℕ → ℕ → (ℕ → ℤ) → ℤ
blend zero n i P = P 0
blend (suc d) n i P = pos (n - i) *ℤ blend d n i P +ℤ pos i *ℤ blend d n i (λ (j : ℕ). P (suc j))

-- a quotient rounded down, the floor going towards the lower number also below zero
abbrev pub floor : ℤ → ℕ → ℤ
floor (pos a) d = pos (a / d)
floor (negsuc a) d = negsuc (a / d)

-- N over m, rounded to floor((2N + m) / (2m))
abbrev pub rounded : ℤ → ℕ → ℤ
rounded N m = floor (pos 2 *ℤ N +ℤ pos m) (2 * m)

-- the degree of a curve with these control values, and one coordinate of its ith point of n
abbrev pub degree : List ℤ → ℕ
degree ps = length ps - 1

unfoldable pub coordinate_at : List ℤ → ℕ → ℕ → ℤ
coordinate_at ps n i = rounded (blend (degree ps) n i (λ (j : ℕ). slice_index_or ps j (pos 0))) (n ^ degree ps)

-- the ith point
unfoldable pub point_at : List Cell → ℕ → ℕ → Cell
point_at ps n i = record { x = coordinate_at (map (λ (c : Cell). c.x) ps) n i; y = coordinate_at (map (λ (c : Cell). c.y) ps) n i }

-- A curve is split into n = 2^s pieces; it is the union of the lines between each point and the next.
unfoldable pub on_curve : List Cell → ℕ → Cell → Bool
on_curve ps s c = any (2 ^ s) (λ (i : ℕ). on_line (point_at ps (2 ^ s) i) (point_at ps (2 ^ s) (i + 1)) c)
