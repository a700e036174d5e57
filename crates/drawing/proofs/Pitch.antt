-- The pitch does not matter to any drawing.
use Prim.Native.Nat.{ℕ}
use mathlib.Core.Path.{refl, ap}
use mathlib.Core.List.{List, [], ◌∷◌}
use mathlib.Core.Bool.{◌&&◌}
use lib.IntN.{pos}
use Rattle.std.specs.Prelude.{Result, Ok, Err}
use Rattle.sheet.specs.Sheet.{within_limits}
use Rattle.sheet.specs.Reply.{done, unless}
use Rattle.sheet.specs.Drawing.{only}
use Rattle.sheet.specs.Pitch.{with_pitch, AnyPitch}
use Rattle.sheet.specs.declared.Shape.{Shape}
use Rattle.sheet.specs.declared.Figure.{Figure}
use Rattle.sheet.specs.declared.Figure.TheVariants.{Line, Circle, Ellipse, Curve, Cubic}
use Rattle.sheet.specs.declared.refusal.Refusal.{Refusal}
use Rattle.sheet.specs.declared.refusal.Refusal.TheVariants.{Coordinate}
use Rattle.sheet.proofs.Count.{cells_pitch}
use Rattle.sheet.proofs.Limits.{fits_disjoint}
use Rattle.sheet.proofs.Pitch.{any_pitch, on_sheets, any_sheet}
use Rattle.line.specs.Rule.{on_line}
use Rattle.line.specs.Draw.{line_answer}
use Rattle.ring.specs.Draw.{ellipse_answer}
use Rattle.curve.specs.Draw.{curve_answer}
use Rattle.record.specs.File.{file_answer}
use Rattle.survey.specs.Metres.{in_cells}
use Rattle.survey.specs.declared.Survey.{Survey}
use Rattle.survey.specs.declared.Metres.{Metres}
use Rattle.drawing.specs.Figure.{figure_drawing}
use Rattle.drawing.specs.File.{figures_in, file_form, draw_file_answer, file_drawing}
use Rattle.drawing.specs.Metres.{cells_drawing, metres_drawing}

-- a figure of any kind; the number that a line tells is of cells
pub figure_any_pitch : (ink : ℕ) (f : Figure) → AnyPitch (λ (k : Shape). figure_drawing k ink f)
unfolding line_answer ellipse_answer curve_answer
figure_any_pitch ink (Line a b) =
    any_pitch (λ k. line_answer k a b) (only ink (on_line a b)) (λ k pitch n m e f.
    on_sheets k (with_pitch k pitch) n m _ _ e f
    (ap (λ (c : ℕ). unless (within_limits a && within_limits b) Coordinate (done (pos c ∷ [])))
    (cells_pitch (on_line a b) k pitch (fits_disjoint k n e) (fits_disjoint (with_pitch k pitch) m f))))
figure_any_pitch ink (Circle c r) = any_sheet _ _
figure_any_pitch ink (Ellipse c a b) = any_sheet _ _
figure_any_pitch ink (Curve p0 p1 p2 s) = any_sheet _ _
figure_any_pitch ink (Cubic p0 p1 p2 p3 s) = any_sheet _ _

-- a figure in metres
cells_any_pitch : (ink : ℕ) (i : Result Figure Refusal) → AnyPitch (λ (k : Shape). cells_drawing k ink i)
cells_any_pitch ink (Ok f) = figure_any_pitch ink f
cells_any_pitch ink (Err r) = any_sheet _ _

pub metres_any_pitch : (ink : ℕ) (s : Survey) (f : Metres) → AnyPitch (λ (k : Shape). metres_drawing k ink s f)
metres_any_pitch ink s f = cells_any_pitch ink (in_cells s f)

-- a whole file
pub file_any_pitch : (file : List ℕ) → AnyPitch (λ (k : Shape). file_drawing k file)
unfolding draw_file_answer
file_any_pitch file =
    any_pitch (λ k. draw_file_answer k file) (figures_in file) (λ k pitch n m e f.
    ap file_form (on_sheets k (with_pitch k pitch) n m (file_answer file) (file_answer file) e f refl))
