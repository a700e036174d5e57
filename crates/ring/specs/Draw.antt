-- Drawing an ellipse; a circle is drawn as that of equal axes.
use Rattle.std.specs.Prelude.{ℕ, []}
use Rattle.sheet.specs.Sheet.{within_limits, axes}
use Rattle.sheet.specs.Reply.{Answer, done, unless}
use Rattle.sheet.specs.Drawing.{Drawing, only, if_sheet}
use Rattle.sheet.specs.declared.Cell.{Cell}
use Rattle.sheet.specs.declared.Shape.{Shape}
use Rattle.sheet.specs.declared.refusal.Refusal.TheVariants.{Coordinate, Radius}
use Rattle.ring.specs.Ring.{on_ellipse}

-- 1, 15, 2, 3, else 0, for a slice of n bytes
unfoldable pub ellipse_answer : Shape → Cell → ℕ → ℕ → ℕ → Answer
ellipse_answer k c a b n = if_sheet k n (unless (within_limits c) Coordinate (unless (axes a b) Radius (done [])))

abbrev pub ellipse_drawing : Shape → ℕ → Cell → ℕ → ℕ → Drawing
ellipse_drawing k ink c a b = record { shape = k; answer = ellipse_answer k c a b; figures = only ink (on_ellipse c a b) }
