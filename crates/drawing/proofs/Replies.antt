-- A program that refuses all, and one that always replies the same, break the statement of every function that replies.
-- For each function here are an input that is answered with 0 and one that is refused; or, where none is refused, two that are answered differently.
-- By `refuses_all` and `replies_same` (crates/sheet, proofs/Empty) these two inputs rule out every such program.
use Prim.Native.Nat.{ℕ}
use mathlib.Core.Path.{◌≡◌, refl, ap, ◌∙◌}
use mathlib.Core.List.{List, [], ◌∷◌}
use mathlib.Core.Bool.{true, false, true≢false}
use native.Mathlib.Omega.{arith}
use lib.ListN.{length}
use lib.IntN.{pos, nat_abs}
use lib.Ieee.{Float, nan, of_int, sub, div, le, lt}
use Rattle.sheet.specs.Sheet.{on_sheet, coordinate, within_limits, cell_of, semi_axis, axes, split}
use Rattle.std.specs.Prelude.{Result, Ok, Err, None}
use Rattle.sheet.specs.Reply.{Answer, number, done, told, told_file, test_answer, count_answer, drawn_answer, with_box, is_done, value_of}
use Rattle.sheet.specs.Repaint.{nothing, alone, join}
use Rattle.sheet.specs.Drawing.{if_sheet, mark_answer}
use Rattle.sheet.specs.Inner.{moved, lowered, moved_cell, lowered_cell, joined_at}
use Rattle.sheet.specs.declared.Cell.{Cell}
use Rattle.sheet.specs.declared.Spot.{Spot}
use Rattle.sheet.specs.declared.Drawn.{Drawn}
use Rattle.sheet.specs.declared.Figure.{Figure}
use Rattle.sheet.specs.declared.Figure.TheVariants.{Line}
use Rattle.sheet.specs.declared.refusal.Refusal.{Refusal}
use Rattle.sheet.specs.declared.refusal.Refusal.TheVariants.{Size, Coordinate}
use Rattle.sheet.specs.declared.refusal.Refusal.TheVariants as refusal
use Rattle.sheet.specs.declared.repaint.Rectangle.{Rectangle}
use Rattle.sheet.specs.declared.refusal.FileRefusal.{FileRefusal}
use Rattle.sheet.proofs.Empty.{Both, Differ}
use Rattle.sheet.proofs.Unique.{told_one, told_file_one, test_one, count_one, drawn_one}
use Rattle.line.specs.Draw.{line_answer, short_on}
use Rattle.line.specs.Listing.{list_answer}
use Rattle.line.specs.Pen.{fresh, moved_on, begin_answer, has_cell, next_answer, ask_answer}
use Rattle.ring.specs.Draw.{ellipse_answer, ellipse_drawing}
use Rattle.curve.specs.Draw.{all_within_limits, curve_answer}
use Rattle.survey.specs.Cell.{is_cell_of, found_cell, coordinate_answer}
use Rattle.survey.specs.Metres.{found_coordinate, found_length, sound, in_cells, figure_answer}
use Rattle.survey.specs.declared.Survey.{Survey}
use Rattle.survey.specs.declared.Metres.{Metres}
use Rattle.survey.specs.declared.Metres.TheVariants as metres
use Rattle.survey.proofs.Cells.{cell_is, nan_none}
use Rattle.record.specs.Reading.{found_at, read_at, read_answer}
use Rattle.record.specs.File.{read_in, read_from, read_all, file_answer}
use Rattle.drawing.specs.Figure.{figure_drawing}
use Rattle.drawing.specs.File.{file_form, draw_file_answer}
use Rattle.drawing.specs.Metres.{cells_drawing, metres_drawing}
use Rattle.drawing.proofs.Nothing.{small, whole, home, zero_at, zero_long, line_cells, circle_cells, ellipse_cells}

-- a cell, and one outside the limits
abbrev origin : Cell
origin = cell_of 0 0

abbrev far : Cell
far = cell_of 16384 0

-- of sheet: a table, replies, limits, a sheet of one byte, a coordinate
pub number_differs : Differ number Size Coordinate
number_differs e = let z : ◌≡◌ {A = ℕ} 1 2 = e in omega arith

pub reply_number_differs : Differ (λ (r : Result (Unit {0}) Refusal). (told test_answer r).number) (Ok tt) (Err Coordinate)
reply_number_differs e = let z : ◌≡◌ {A = ℕ} 0 2 = e in omega arith

pub value_differs : Differ (λ (r : Result ℕ Refusal). value_of (told count_answer r)) (Ok 0) (Ok 1)
value_differs e = let z : ◌≡◌ {A = ℕ} 0 1 = e in omega arith

pub is_done_differs : Differ (λ (r : Result (Unit {0}) Refusal). is_done (told test_answer r)) (Ok tt) (Err Coordinate)
is_done_differs e = true≢false e

pub coordinate_differs : Differ coordinate (pos 0) (pos 16384)
unfolding coordinate
coordinate_differs e = true≢false e

pub semi_axis_differs : Differ (λ (n : ℕ). semi_axis n 1) 1 0
unfolding semi_axis
semi_axis_differs e = true≢false e

pub axes_differs : Differ (axes 1) 1 0
unfolding semi_axis
axes_differs e = true≢false e

pub split_differs : Differ split 0 7
split_differs e = true≢false e

pub sheet_both : Both (λ (n : ℕ). if_sheet small n (done [])) 1 0
unfolding if_sheet
sheet_both = record { done = refl; refused = refl }

pub lift_differs : Differ moved (pos 0) (pos 16384)
unfolding moved coordinate
lift_differs e = let z : ◌≡◌ {A = ℕ} 65536 0 = e in omega arith

pub lower_differs : Differ lowered 65537 0
unfolding lowered coordinate
lower_differs e = let z : ◌≡◌ {A = ℕ} 1 0 = ap nat_abs e in omega arith

pub undrawn_differs : Differ (λ (r : Result Drawn Refusal). (with_box (told drawn_answer r) nothing).number) (Ok (record { count = None; rectangle = nothing })) (Err Coordinate)
undrawn_differs e = let z : ◌≡◌ {A = ℕ} 0 2 = e in omega arith

pub join_differs : Differ (join nothing) nothing (alone 0 0)
unfolding join
join_differs e = let z : ◌≡◌ {A = ℕ} 0 1 = ap (λ (r : Rectangle). r.right) e in omega arith

pub join_at_differs : Differ (λ (c : Cell). joined_at small c nothing) origin far
unfolding joined_at on_sheet join
join_at_differs e = let z : ◌≡◌ {A = ℕ} 1 0 = ap (λ (r : Rectangle). r.right) e in omega arith

pub lift_cell_differs : Differ moved_cell origin far
lift_cell_differs e = lift_differs (ap (λ (p : Spot). p.x) e)

pub lower_cell_differs : Differ lowered_cell (record { x = 65537; y = 0 }) (record { x = 0; y = 0 })
lower_cell_differs e = lower_differs (ap (λ (c : Cell). c.x) e)

pub in_limits_differs : Differ within_limits origin far
unfolding within_limits coordinate
in_limits_differs e = true≢false e

pub mark_both : Both (λ (c : Cell). mark_answer small c 1) origin far
unfolding mark_answer if_sheet within_limits coordinate
mark_both = record { done = refl; refused = refl }

-- of line: a second end outside the limits; a pen before its only cell and after it
pub line_both : Both (λ (b : Cell). line_answer small origin b 1) origin far
unfolding line_answer if_sheet within_limits coordinate
line_both = record { done = refl; refused = refl }

-- two cells side by side on a sheet of two, and the same of one byte
pub short_differs : Differ (short_on (record { width = 2; height = 1; pitch = 2 }) origin (cell_of 1 0)) 2 1
unfolding short_on on_sheet
short_differs e = true≢false e

pub list_both : Both (list_answer 1 1 origin) origin far
unfolding list_answer within_limits coordinate
list_both = record { done = refl; refused = refl }

pub begin_both : Both (begin_answer origin) origin far
unfolding begin_answer within_limits coordinate
begin_both = record { done = refl; refused = refl }

pub next_differs : Differ next_answer (fresh origin origin) (moved_on (fresh origin origin))
unfolding next_answer has_cell within_limits coordinate
next_differs e = let z : ◌≡◌ {A = ℕ} 7 0 = ap (λ (a : Answer). length a.values) e in omega arith

pub ask_differs : Differ ask_answer (fresh origin origin) (moved_on (fresh origin origin))
unfolding ask_answer has_cell within_limits coordinate
ask_differs e = let z : ◌≡◌ {A = ℕ} 2 0 = ap (λ (a : Answer). length a.values) e in omega arith

-- and whether it has a cell left, which is what C is told by 1 and 0
pub has_cell_differs : Differ has_cell (fresh origin origin) (moved_on (fresh origin origin))
unfolding has_cell within_limits coordinate
has_cell_differs e = true≢false e

-- of ring: a single semi-axis of 0
pub ellipse_both : Both (λ (b : ℕ). (ellipse_drawing small 1 origin 1 b).answer 1) 1 0
unfolding ellipse_answer semi_axis if_sheet within_limits coordinate
ellipse_both = record { done = refl; refused = refl }

-- of curve: s above 6
pub curve_both : Both (λ (s : ℕ). curve_answer small (origin ∷ origin ∷ origin ∷ []) s 1) 0 7
unfolding curve_answer all_within_limits if_sheet within_limits coordinate
curve_both = record { done = refl; refused = refl }

pub cubic_both : Both (λ (s : ℕ). curve_answer small (origin ∷ origin ∷ origin ∷ origin ∷ []) s 1) 0 7
unfolding curve_answer all_within_limits if_sheet within_limits coordinate
cubic_both = record { done = refl; refused = refl }

-- of survey: a survey whose cell size is 0.0; what is divided by it is not a number
abbrev flat : Survey
flat = record { east = whole 0; north = whole 0; size = whole 0 }

pub sound_differs : Differ sound home flat
unfolding sound of_int lt
sound_differs e = true≢false e

-- where what is found at each of the two inputs is known, and one is told as 0 and the other as a refusal
both_told : {I R : Type 0} (told : R → Answer) (find : I → R) (i j : I) (r s : R) → find i ≡ r → find j ≡ s
    → is_done (told r) ≡ true → is_done (told s) ≡ false → Both (λ (k : I). told (find k)) i j
both_told {I} {R} told find i j r s at none zero above =
    record { done = ap (λ (q : R). is_done (told q)) at ∙ zero; refused = ap (λ (q : R). is_done (told q)) none ∙ above }

pub find_cell_both : Both (λ (q : Float). told coordinate_answer (found_cell q)) (whole 0) nan
unfolding coordinate is_cell_of of_int le lt
find_cell_both = both_told (told coordinate_answer) found_cell (whole 0) nan (Ok (pos 0)) (Err refusal.NoCell) (cell_is (whole 0) (pos 0) tt tt) nan_none refl refl

no_coordinate : found_coordinate (whole 0) (whole 0) (whole 0) ≡ Err refusal.NoCell
unfolding sub div of_int
no_coordinate = nan_none

pub find_coordinate_both : Both (λ (size : Float). told coordinate_answer (found_coordinate (whole 0) (whole 0) size)) (whole 1) (whole 0)
find_coordinate_both = both_told (told coordinate_answer) (found_coordinate (whole 0) (whole 0)) (whole 1) (whole 0) (Ok (pos 0)) (Err refusal.NoCell) zero_at no_coordinate refl refl

no_length : found_length (whole 0) (whole 0) ≡ Err refusal.NoCell
unfolding div of_int
no_length = nan_none

pub find_length_both : Both (λ (size : Float). told coordinate_answer (found_length (whole 0) size)) (whole 1) (whole 0)
find_length_both = both_told (told coordinate_answer) (found_length (whole 0)) (whole 1) (whole 0) (Ok (pos 0)) (Err refusal.NoCell) zero_long no_length refl refl

flat_refused : (f : Metres) → in_cells flat f ≡ Err refusal.Survey
unfolding in_cells sound of_int lt
flat_refused f = refl

-- of a figure in metres, by any telling of what it is in cells
in_cells_both : (told : Result Figure Refusal → Answer) (f : Metres) (c : Result Figure Refusal) → in_cells home f ≡ c
    → is_done (told c) ≡ true → is_done (told (Err refusal.Survey)) ≡ false → Both (λ (s : Survey). told (in_cells s f)) home flat
in_cells_both told f c e = both_told told (λ (s : Survey). in_cells s f) home flat c (Err refusal.Survey) e (flat_refused f)

pub to_cells_both : Both (λ (s : Survey). told figure_answer (in_cells s (metres.Circle (whole 0) (whole 0) (whole 0)))) home flat
to_cells_both = in_cells_both (told figure_answer) _ _ circle_cells refl refl

-- of record: a lone byte, read at its end and at its beginning; the empty file and a lone byte
abbrev lone : List ℕ
lone = 0 ∷ []

pub read_both : Both (read_answer lone) 1 0
unfolding read_answer found_at
read_both = record { done = refl; refused = refl }

pub check_both : Both file_answer [] lone
unfolding file_answer read_all read_from read_in read_at found_at
check_both = record { done = refl; refused = refl }

-- of drawing: a line of one cell and one with an end outside the limits; the same two files; the same two surveys
pub figure_both : Both (λ (f : Figure). (figure_drawing small 1 f).answer 1) (Line origin origin) (Line origin far)
unfolding line_answer if_sheet within_limits coordinate
figure_both = record { done = refl; refused = refl }

pub of_file_differs : Differ (λ (r : Result (Unit {0}) Refusal). (file_form (told test_answer r)).number) (Ok tt) (Err Coordinate)
of_file_differs e = let z : ◌≡◌ {A = ℕ} 0 2 = e in omega arith

pub file_both : Both (λ (file : List ℕ). draw_file_answer small file 1) [] lone
unfolding draw_file_answer file_answer read_all read_from read_in read_at found_at if_sheet
file_both = record { done = refl; refused = refl }

abbrev answer_of : Result Figure Refusal → Answer
answer_of c = (cells_drawing small 1 c).answer 1

abbrev answer_in : Metres → Survey → Answer
answer_in f s = (metres_drawing small 1 s f).answer 1

pub line_metres_both : Both (answer_in (metres.Line (whole 0) (whole 0) (whole 0) (whole 0))) home flat
unfolding line_answer if_sheet within_limits coordinate
line_metres_both = in_cells_both answer_of _ _ line_cells refl refl

pub ellipse_metres_both : Both (answer_in (metres.Ellipse (whole 1) (whole 0) (whole 1) (whole 1))) home flat
unfolding ellipse_answer semi_axis if_sheet within_limits coordinate
ellipse_metres_both = in_cells_both answer_of _ _ ellipse_cells refl refl

-- Two replies told alike are equal: of a test, of a number and of a drawing, and of a file that is only read and of one that is drawn.
pub test_reply_one : (r q : Result (Unit {0}) Refusal) → told test_answer r ≡ told test_answer q → r ≡ q
test_reply_one = told_one test_answer (λ a. refl) test_one

pub count_reply_one : (r q : Result ℕ Refusal) → told count_answer r ≡ told count_answer q → r ≡ q
count_reply_one = told_one count_answer (λ n. refl) count_one

pub drawn_reply_one : (r q : Result Drawn Refusal) → told drawn_answer r ≡ told drawn_answer q → r ≡ q
drawn_reply_one = told_one drawn_answer (λ d. refl) drawn_one

pub count_file_one : (r q : Result ℕ FileRefusal) → told_file count_answer r ≡ told_file count_answer q → r ≡ q
count_file_one = told_file_one count_answer (λ n. refl) count_one

pub drawn_file_one : (r q : Result Drawn FileRefusal) → told_file drawn_answer r ≡ told_file drawn_answer q → r ≡ q
drawn_file_one = told_file_one drawn_answer (λ d. refl) drawn_one
