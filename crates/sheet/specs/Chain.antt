-- Cells of the unlimited grid: how far apart two are, and chains of cells that touch.
use Rattle.std.specs.Prelude.{ℕ, max, ◌≡◌, List, [], ◌∷◌, nat_abs, ◌-ℤ◌}
use Rattle.sheet.specs.declared.Cell.{Cell}

-- the two extents |x1 − x0| and |y1 − y0|
abbrev pub wide : Cell → Cell → ℕ
wide a b = nat_abs (b.x -ℤ a.x)

abbrev pub tall : Cell → Cell → ℕ
tall a b = nat_abs (b.y -ℤ a.y)

-- two cells touch by side or corner: the longer of their two extents is 1
abbrev pub Touch : Cell → Cell → Type 0
Touch c d = max (wide c d) (tall c d) ≡ 1

-- the cells lead from a to b, each touching the next
pub data Chain : Cell → Cell → List Cell → Type 0 where
  end : {a : Cell} → Chain a a (a ∷ [])
  step : {a c b : Cell} {cells : List Cell} → Touch a c → Chain c b cells → Chain a b (a ∷ cells)
