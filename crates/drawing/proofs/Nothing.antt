-- A program that draws nothing breaks the statement of every drawing: on a sheet of one cell, lent as 0, a figure in ink 1 that holds this cell leaves 1.
use Prim.Native.Nat.{ℕ}
use mathlib.Core.Path.{◌≡◌, refl, sym, ap}
use mathlib.Core.List.{List, [], ◌∷◌}
use mathlib.Core.Bool.{true}
use native.Mathlib.Omega.{arith}
use lib.ListN.{get_or}
use lib.IntN.{ℤ, pos, nat_abs}
use lib.Ieee.{Float, binary64, of_int, sub, div, le, lt}
use Rattle.std.specs.Prelude.{Ok}
use Rattle.laws.specs.Below.{any}
use Rattle.sheet.specs.Sheet.{on_sheet, cell_at, held, by_place, paint, coordinate, within_limits, is_cell, cell_of, semi_axis}
use Rattle.sheet.specs.Reply.{Answer}
use Rattle.sheet.specs.Drawing.{if_sheet, Draws}
use Rattle.sheet.specs.declared.Shape.{Shape}
use Rattle.sheet.specs.declared.Figure.{Figure}
use Rattle.sheet.specs.declared.Figure.TheVariants.{Line, Circle, Ellipse, Curve, Cubic}
use Rattle.sheet.proofs.Draws.{draws_as}
use Rattle.line.specs.Rule.{lesser, rise, from_lesser, nth, on_line}
use Rattle.line.specs.Draw.{line_answer}
use Rattle.line.specs.Listing.{listed, list_answer, ListsInto}
use Rattle.ring.specs.Ring.{around, nearest, ellipse_rule}
use Rattle.ring.specs.Draw.{ellipse_answer}
use Rattle.curve.specs.Rule.{blend, coordinate_at, point_at, on_curve}
use Rattle.curve.specs.Draw.{all_within_limits, curve_answer}
use Rattle.survey.specs.Cell.{is_cell_of, found_cell}
use Rattle.survey.specs.Metres.{sound, are_semi_axes, in_cells}
use Rattle.survey.specs.declared.Survey.{Survey}
use Rattle.survey.specs.declared.Metres.{Metres}
use Rattle.survey.specs.declared.Metres.TheVariants as metres
use Rattle.survey.proofs.Cells.{cell_is}
use Rattle.record.specs.Layout.{signed, line_row, table}
use Rattle.record.specs.Reading.{values_from, limited_from, row_found, kind_found, found_at, read_at}
use Rattle.record.specs.File.{read_in, read_from, read_all, file_answer}
use Rattle.drawing.specs.Figure.{figure_drawing}
use Rattle.drawing.specs.File.{draw_file_answer, file_drawing}
use Rattle.drawing.specs.Metres.{cells_drawing, metres_drawing}

abbrev pub small : Shape
small = record { width = 1; height = 1; pitch = 1 }

abbrev lent : List ℕ
lent = 0 ∷ []

nothing : lent ≡ 1 ∷ [] → ⊥
nothing e = let z : ◌≡◌ {A = ℕ} 0 1 = ap (λ (s : List ℕ). get_or s 0 0) e in omega arith

-- a drawing of figures in ink 1
abbrev DrawsNothing : Figure → Type 0
DrawsNothing f = (a : Answer) → Draws (figure_drawing small 1 f) lent a lent → ⊥

pub line_draws : DrawsNothing (Line (cell_of 0 0) (cell_of 0 0))
unfolding paint by_place held on_sheet cell_at line_answer if_sheet within_limits coordinate on_line nth from_lesser lesser rise is_cell any
line_draws a h = nothing h.leaves

pub circle_draws : DrawsNothing (Circle (cell_of 0 0) 0)
unfolding paint by_place held on_sheet cell_at ellipse_answer semi_axis if_sheet within_limits coordinate around ellipse_rule
circle_draws a h = nothing h.leaves

pub ellipse_draws : DrawsNothing (Ellipse (cell_of 1 0) 1 1)
unfolding paint by_place held on_sheet cell_at ellipse_answer semi_axis if_sheet within_limits coordinate around ellipse_rule nearest
ellipse_draws a h = nothing h.leaves

pub curve_draws : DrawsNothing (Curve (cell_of 0 0) (cell_of 0 0) (cell_of 0 0) 0)
unfolding paint by_place held on_sheet cell_at curve_answer all_within_limits if_sheet within_limits coordinate on_curve point_at coordinate_at blend on_line nth from_lesser lesser rise is_cell any
curve_draws a h = nothing h.leaves

pub cubic_draws : DrawsNothing (Cubic (cell_of 0 0) (cell_of 0 0) (cell_of 0 0) (cell_of 0 0) 0)
unfolding paint by_place held on_sheet cell_at curve_answer all_within_limits if_sheet within_limits coordinate on_curve point_at coordinate_at blend on_line nth from_lesser lesser rise is_cell any
cubic_draws a h = nothing h.leaves

-- and the listing of its one cell (0,0) leaves 0 in a list that was lent as 1
pub list_draws : (a : Answer) (ys : List ℤ) → ListsInto (cell_of 0 0) (cell_of 0 0) (pos 1 ∷ []) (pos 1 ∷ []) a (pos 1 ∷ []) ys → ⊥
unfolding list_answer within_limits coordinate listed nth from_lesser lesser rise
list_draws a ys h = let z : ◌≡◌ {A = ℤ} (pos 1) (pos 0) = ap (λ (s : List ℤ). get_or s 0 (pos 0)) h.leaves_x in nothing (λ i. nat_abs (sym z i) ∷ [])

-- a file of one line: (0,0) to (0,0) in ink 1
abbrev one_line : List ℕ
one_line = 11 ∷ 0 ∷ 1 ∷ 0 ∷ 1 ∷ 0 ∷ 0 ∷ 0 ∷ 0 ∷ 0 ∷ 0 ∷ 0 ∷ 0 ∷ []

pub file_draws : (a : Answer) → Draws (file_drawing small one_line) lent a lent → ⊥
unfolding draw_file_answer file_answer read_all read_from read_in read_at found_at kind_found row_found limited_from values_from table line_row signed paint by_place held on_sheet cell_at if_sheet within_limits coordinate on_line nth from_lesser lesser rise is_cell any
file_draws a h = nothing h.leaves

-- in metres: a survey with its origins at 0.0 and cells of 1.0
abbrev pub whole : ℕ → Float
whole n = of_int binary64 (pos n)

abbrev pub home : Survey
home = record { east = whole 0; north = whole 0; size = whole 1 }

sound_home : sound home ≡ true
unfolding sound of_int lt
sound_home = refl

-- 0.0 and 1.0, as positions and as lengths
pub zero_at : found_cell (div binary64 (sub binary64 (whole 0) (whole 0)) (whole 1)) ≡ Ok (pos 0)
unfolding coordinate is_cell_of sub div of_int le lt
zero_at = cell_is _ (pos 0) tt tt

one_at : found_cell (div binary64 (sub binary64 (whole 1) (whole 0)) (whole 1)) ≡ Ok (pos 1)
unfolding coordinate is_cell_of sub div of_int le lt
one_at = cell_is _ (pos 1) tt tt

pub zero_long : found_cell (div binary64 (whole 0) (whole 1)) ≡ Ok (pos 0)
unfolding coordinate is_cell_of div of_int le lt
zero_long = cell_is _ (pos 0) tt tt

one_long : found_cell (div binary64 (whole 1) (whole 1)) ≡ Ok (pos 1)
unfolding coordinate is_cell_of div of_int le lt
one_long = cell_is _ (pos 1) tt tt

pub line_cells : in_cells home (metres.Line (whole 0) (whole 0) (whole 0) (whole 0)) ≡ Ok (Line (cell_of 0 0) (cell_of 0 0))
unfolding in_cells
line_cells = simp (sound_home, zero_at)

pub circle_cells : in_cells home (metres.Circle (whole 0) (whole 0) (whole 0)) ≡ Ok (Ellipse (cell_of 0 0) 0 0)
unfolding in_cells are_semi_axes semi_axis
circle_cells = simp (sound_home, zero_at, zero_long)

pub ellipse_cells : in_cells home (metres.Ellipse (whole 1) (whole 0) (whole 1) (whole 1)) ≡ Ok (Ellipse (cell_of 1 0) 1 1)
unfolding in_cells are_semi_axes semi_axis
ellipse_cells = simp (sound_home, one_at, zero_at, one_long)

-- where the figure in cells is known, the drawing is that of the figure in cells
by_cells : (f : Metres) (g : Figure) → in_cells home f ≡ Ok g → DrawsNothing g → (a : Answer) → Draws (metres_drawing small 1 home f) lent a lent → ⊥
by_cells f g e n a h = n a (draws_as _ lent _ a lent (ap (cells_drawing small 1) e) h)

pub line_metres_draws : (a : Answer) → Draws (metres_drawing small 1 home (metres.Line (whole 0) (whole 0) (whole 0) (whole 0))) lent a lent → ⊥
line_metres_draws = by_cells _ _ line_cells line_draws

pub circle_metres_draws : (a : Answer) → Draws (metres_drawing small 1 home (metres.Circle (whole 0) (whole 0) (whole 0))) lent a lent → ⊥
circle_metres_draws = by_cells _ _ circle_cells circle_draws

pub ellipse_metres_draws : (a : Answer) → Draws (metres_drawing small 1 home (metres.Ellipse (whole 1) (whole 0) (whole 1) (whole 1))) lent a lent → ⊥
ellipse_metres_draws = by_cells _ _ ellipse_cells ellipse_draws
