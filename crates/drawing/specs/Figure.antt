-- A figure of any kind: its cells, and drawing it.
use Rattle.std.specs.Prelude.{ℕ, [], ◌∷◌, Bool}
use Rattle.sheet.specs.Drawing.{Drawing}
use Rattle.sheet.specs.declared.Cell.{Cell}
use Rattle.sheet.specs.declared.Shape.{Shape}
use Rattle.sheet.specs.declared.Figure.{Figure}
use Rattle.sheet.specs.declared.Figure.TheVariants.{Line, Circle, Ellipse, Curve, Cubic}
use Rattle.line.specs.Rule.{on_line}
use Rattle.line.specs.Draw.{line_drawing}
use Rattle.ring.specs.Ring.{on_ellipse}
use Rattle.ring.specs.Draw.{ellipse_drawing}
use Rattle.curve.specs.Rule.{on_curve}
use Rattle.curve.specs.Draw.{curve_drawing}

-- the cells of a figure, by the rule of its kind; a circle's is that of equal axes
abbrev pub on_figure : Figure → Cell → Bool
on_figure (Line a b) = on_line a b
on_figure (Circle c r) = on_ellipse c r r
on_figure (Ellipse c a b) = on_ellipse c a b
on_figure (Curve p0 p1 p2 s) = on_curve (p0 ∷ p1 ∷ p2 ∷ []) s
on_figure (Cubic p0 p1 p2 p3 s) = on_curve (p0 ∷ p1 ∷ p2 ∷ p3 ∷ []) s

-- drawing a figure is the drawing of its kind
abbrev pub figure_drawing : Shape → ℕ → Figure → Drawing
figure_drawing k ink (Line a b) = line_drawing k ink a b
figure_drawing k ink (Circle c r) = ellipse_drawing k ink c r r
figure_drawing k ink (Ellipse c a b) = ellipse_drawing k ink c a b
figure_drawing k ink (Curve p0 p1 p2 s) = curve_drawing k ink (p0 ∷ p1 ∷ p2 ∷ []) s
figure_drawing k ink (Cubic p0 p1 p2 p3 s) = curve_drawing k ink (p0 ∷ p1 ∷ p2 ∷ p3 ∷ []) s
