-- What the search for a cell is promised and promises.
use Rattle.std.specs.Prelude.{ℕ, ◌≤◌, ◌<◌, T, Float}
use Rattle.std.specs.Float.{binary64}
use Rattle.std.specs.Float.Ieee.{of_int, le, lt}
use Rattle.survey.specs.Cell.{coordinate_from_least}

-- q is at or above the float of one whole number and below that of another, both counted up from the least coordinate
pub record Between (low high : ℕ) (q : Float) : Type 0 where
  pub apart : low < high
  pub within : high ≤ 32768
  pub above : T (le (of_int binary64 (coordinate_from_least low)) q)
  pub below : T (lt q (of_int binary64 (coordinate_from_least high)))
