-- Drawing a curve.
use Rattle.std.specs.Prelude.{ℕ, Bool, true, ◌&&◌, List, [], ◌∷◌}
use Rattle.sheet.specs.Sheet.{within_limits, split}
use Rattle.sheet.specs.Reply.{Answer, done, unless}
use Rattle.sheet.specs.Drawing.{Drawing, only, if_sheet}
use Rattle.sheet.specs.declared.Cell.{Cell}
use Rattle.sheet.specs.declared.Shape.{Shape}
use Rattle.sheet.specs.declared.refusal.Refusal.TheVariants.{Coordinate, Pieces}
use Rattle.curve.specs.Rule.{on_curve}

-- all control points are within the limits
unfoldable pub all_within_limits : List Cell → Bool
all_within_limits [] = true
all_within_limits (c ∷ cs) = within_limits c && all_within_limits cs

-- 1, 15, 2 for a control point, 4, else 0, for a slice of n bytes
unfoldable pub curve_answer : Shape → List Cell → ℕ → ℕ → Answer
curve_answer k ps s n =
    if_sheet k n
    (unless (all_within_limits ps) Coordinate
    (unless (split s) Pieces
    (done [])))

abbrev pub curve_drawing : Shape → ℕ → List Cell → ℕ → Drawing
curve_drawing k ink ps s = record { shape = k; answer = curve_answer k ps s; figures = only ink (on_curve ps s) }
