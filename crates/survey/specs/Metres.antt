-- Document 01, "Metres": a survey, and a figure in metres as one in cells.
use Rattle.std.specs.Prelude.{◌∷◌, Bool, cond, ◌&&◌, ℤ, pos, nat_abs, Float, Result, Ok, Err}
use Rattle.std.specs.Float.{binary64}
use Rattle.std.specs.Float.Ieee.{of_int, lt, sub, div}
use Rattle.std.specs.Float.Ieee.Scale.{finite}
use Rattle.std.specs.Int.Signed.{le_z}
use Rattle.sheet.specs.Sheet.{cell, axes}
use Rattle.sheet.specs.Reply.{Answer, done}
use Rattle.sheet.specs.Figure.{kind_of, values_of}
use Rattle.sheet.specs.declared.Cell.{Cell}
use Rattle.sheet.specs.declared.Figure.{Figure}
use Rattle.sheet.specs.declared.Figure.TheVariants as figure
use Rattle.sheet.specs.declared.refusal.Refusal.{Refusal}
use Rattle.sheet.specs.declared.refusal.Refusal.TheVariants as refusal
use Rattle.survey.specs.Cell.{found_cell}
use Rattle.survey.specs.declared.Survey.{Survey}
use Rattle.survey.specs.declared.Metres.{Metres}
use Rattle.survey.specs.declared.Metres.TheVariants as metres

-- 6 is given exactly when this fails: both origins are finite, and the cell size is finite and above zero.
unfoldable pub sound : Survey → Bool
sound s = finite s.east && finite s.north && finite s.size && lt (of_int binary64 (pos 0)) s.size

-- A coordinate is found by one subtraction and one division, each rounded once: (position − origin) / size ..
abbrev pub found_coordinate : Float → Float → Float → Result ℤ Refusal
found_coordinate position origin size = found_cell (div binary64 (sub binary64 position origin) size)

-- .. x with the east origin and y with the north; ..
abbrev pub eastward : Survey → Float → Result ℤ Refusal
eastward s x = found_coordinate x s.east s.size

abbrev pub northward : Survey → Float → Result ℤ Refusal
northward s y = found_coordinate y s.north s.size

-- .. a length by the division alone.
abbrev pub found_length : Float → Float → Result ℤ Refusal
found_length length size = found_cell (div binary64 length size)

-- 7 for a field that has no cell, and then what follows: fields in their written order
abbrev pub with_cell : {A B : Type 0} → Result A Refusal → (A → Result B Refusal) → Result B Refusal
with_cell (Ok a) next = next a
with_cell (Err r) next = Err r

-- 3 unless the lengths are within their limits
abbrev pub within : Bool → Figure → Result Figure Refusal
within limits f = cond limits (Ok f) (Err refusal.Radius)

-- two lengths in cells, which may be below 0, are the semi-axes of an ellipse
unfoldable pub are_semi_axes : ℤ → ℤ → Bool
are_semi_axes a b = le_z (pos 0) a && le_z (pos 0) b && axes (nat_abs a) (nat_abs b)

-- the cell, the line and the ellipse of the cells of their fields
abbrev pub cell_in_cells : Result ℤ Refusal → Result ℤ Refusal → Result Cell Refusal
cell_in_cells x y = with_cell x (λ x. with_cell y (λ y. Ok (cell x y)))

abbrev pub line_in_cells : Result ℤ Refusal → Result ℤ Refusal → Result ℤ Refusal → Result ℤ Refusal → Result Figure Refusal
line_in_cells x0 y0 x1 y1 = with_cell (cell_in_cells x0 y0) (λ p. with_cell (cell_in_cells x1 y1) (λ q. Ok (figure.Line p q)))

abbrev pub ellipse_in_cells : Result ℤ Refusal → Result ℤ Refusal → Result ℤ Refusal → Result ℤ Refusal → Result Figure Refusal
ellipse_in_cells x y a b =
    with_cell (cell_in_cells x y) (λ c. with_cell a (λ a. with_cell b (λ b. within (are_semi_axes a b) (figure.Ellipse c (nat_abs a) (nat_abs b)))))

-- A figure in metres is a line, a circle or an ellipse with its float fields in the order of the record; a circle is read as equal axes.
abbrev pub figure_in : Survey → Metres → Result Figure Refusal
figure_in s (metres.Line x0 y0 x1 y1) = line_in_cells (eastward s x0) (northward s y0) (eastward s x1) (northward s y1)
figure_in s (metres.Circle x y r) = ellipse_in_cells (eastward s x) (northward s y) (found_length r s.size) (found_length r s.size)
figure_in s (metres.Ellipse x y a b) = ellipse_in_cells (eastward s x) (northward s y) (found_length a s.size) (found_length b s.size)

-- 6, then 7 for each field in its written order, then 3, else the figure in cells
unfoldable pub in_cells : Survey → Metres → Result Figure Refusal
in_cells s f = cond (sound s) (figure_in s f) (Err refusal.Survey)

-- what is told of a figure in cells: 0 with its kind and its values
abbrev pub figure_answer : Figure → Answer
figure_answer f = done (pos (kind_of f) ∷ values_of f)
