-- The forms of the answers: what C is told of each.
use Prim.Native.Nat.{ℕ, ◌+◌, ◌-◌, ◌*◌}
use mathlib.Core.Path.{refl}
use mathlib.Core.List.{List, []}
use mathlib.Core.Bool.{Bool, true, false, cond, ◌&&◌}
use native.Mathlib.Omega.{arith}
use lib.Dec.{leb}
use lib.IntN.{ℤ}
use lib.Ieee.{Float}
use Rattle.std.specs.Prelude.{Result, Ok, Err}
use Rattle.sheet.specs.Sheet.{on_sheet, cell, within_limits, axes, split, cells_on}
use Rattle.sheet.specs.declared.Cell.{Cell}
use Rattle.sheet.specs.declared.Shape.{Shape}
use Rattle.sheet.specs.declared.Figure.{Figure}
use Rattle.sheet.specs.declared.refusal.Refusal.{Refusal}
use Rattle.sheet.specs.declared.refusal.Refusal.TheVariants.{Coordinate, Radius, Pieces, Room, Full, Work, Start}
use Rattle.sheet.specs.declared.refusal.Refusal.TheVariants as refusal
use Rattle.sheet.proofs.Count.{cells_most}
use Rattle.sheet.proofs.Figures.{figure_cases}
use Rattle.line.specs.Rule.{long, on_line}
use Rattle.line.specs.Draw.{line_answer}
use Rattle.line.specs.Listing.{list_answer}
use Rattle.line.proofs.Bridge.{long_limit, ends_lifted}
use Rattle.ring.specs.Draw.{ellipse_answer}
use Rattle.curve.specs.Draw.{all_within_limits, curve_answer}
use Rattle.survey.specs.Metres.{sound, eastward, northward, found_length, are_semi_axes, with_cell, within, cell_in_cells, figure_in, in_cells}
use Rattle.survey.specs.declared.Survey.{Survey}
use Rattle.survey.specs.declared.Metres.{Metres}
use Rattle.survey.specs.declared.Metres.TheVariants as metres
use Rattle.fill.specs.Fill.{fill_answer}
use Rattle.record.specs.Writing.{record_size, write_answer}
use Rattle.drawing.specs.Metres.{cells_drawing, metres_drawing}
use Rattle.pistonwool.proofs.Told.{Tells, unless_tells, sheet_tells, None, Value, One}

-- a line, a fill and a listing count cells
pub line_tells : (k : Shape) (a b : Cell) (n : ℕ) → Tells One (line_answer k a b n)
unfolding line_answer
line_tells k a b n =
    sheet_tells k n _
    (λ e. unless_tells (within_limits a && within_limits b) Coordinate _
    (λ l. Tells.done _ (record { n = cells_on k (on_line a b); is = refl; small = omega (arith, cells_most (on_line a b) k n e) })))

pub fill_tells : (k : Shape) (a : Cell) (places : ℕ) (territory : Cell → Bool) (n : ℕ) → Tells One (fill_answer k a places territory n)
unfolding fill_answer
fill_tells k a places territory n =
    sheet_tells k n _
    (λ e. unless_tells (leb (k.width * k.height) places) Work _
    (λ f. unless_tells (on_sheet k a) Start _
    (λ g. Tells.done _ (record { n = cells_on k territory; is = refl; small = omega (arith, cells_most territory k n e) }))))

pub list_tells : (n m : ℕ) (a b : Cell) → Tells One (list_answer n m a b)
unfolding list_answer
list_tells n m a b =
    unless_tells (within_limits a && within_limits b) Coordinate _
    (λ l. unless_tells (leb (long a b + 1) n && leb (long a b + 1) m) Room _
    (λ r.
    let e = ends_lifted a b l _ _ refl refl in
    Tells.done _ (record { n = long a b + 1; is = refl; small = omega (arith, long_limit a b _ _ e.0 e.1) })))

-- a record that is written tells the new count
pub write_tells : (filled : ℕ) (f : Figure) (n : ℕ) → Tells Value (write_answer filled f n)
unfolding write_answer
write_tells filled f n =
    figure_cases (Tells Value) Tells.refused f _
    (λ l. unless_tells (leb (record_size f) (n - filled)) Full _ (λ r. Tells.done _ (record { n = filled + record_size f; is = refl })))

-- an ellipse and a curve tell their number alone
pub ellipse_tells : (k : Shape) (c : Cell) (a b n : ℕ) → Tells None (ellipse_answer k c a b n)
unfolding ellipse_answer
ellipse_tells k c a b n =
    sheet_tells k n _ (λ e. unless_tells (within_limits c) Coordinate _ (λ f. unless_tells (axes a b) Radius _ (λ g. Tells.done [] refl)))

pub curve_tells : (k : Shape) (ps : List Cell) (s n : ℕ) → Tells None (curve_answer k ps s n)
unfolding curve_answer
curve_tells k ps s n =
    sheet_tells k n _ (λ e. unless_tells (all_within_limits ps) Coordinate _ (λ f. unless_tells (split s) Pieces _ (λ g. Tells.done [] refl)))

-- in metres they tell what they do in cells, or a refusal
module _ (k : Shape) (ink n : ℕ) (P : List ℤ → Type 0) where
  record TellsIn (c : Result Figure Refusal) : Type 0 where
    tells : Tells P ((cells_drawing k ink c).answer n)

  refuses : (r : Refusal) → TellsIn (Err r)
  refuses r = record { tells = sheet_tells k n _ (λ e. Tells.refused r) }

  field : (f : Result ℤ Refusal) (next : ℤ → Result Figure Refusal) → ((z : ℤ) → TellsIn (next z)) → TellsIn (with_cell f next)
  field (Ok z) next h = h z
  field (Err r) next h = refuses r

  place : (x y : Result ℤ Refusal) (next : Cell → Result Figure Refusal) → ((c : Cell) → TellsIn (next c)) → TellsIn (with_cell (cell_in_cells x y) next)
  place (Ok i) (Ok j) next h = h (cell i j)
  place (Ok i) (Err r) next h = refuses r
  place (Err r) y next h = refuses r

  limited : (t : Bool) (f : Figure) → TellsIn (Ok f) → TellsIn (within t f)
  limited true f h = h
  limited false f h = refuses Radius

  in_metres : (s : Survey) (f : Metres) → TellsIn (figure_in s f) → Tells P ((metres_drawing k ink s f).answer n)
  unfolding in_cells
  in_metres s f h = (by (sound s)).tells
    where
      by : (t : Bool) → TellsIn (cond t (figure_in s f) (Err refusal.Survey))
      by true = h
      by false = refuses refusal.Survey

module _ (k : Shape) (ink n : ℕ) (s : Survey) where
  pub line_metres_tells : (x0 y0 x1 y1 : Float) → Tells One ((metres_drawing k ink s (metres.Line x0 y0 x1 y1)).answer n)
  line_metres_tells x0 y0 x1 y1 =
      in_metres k ink n One s (metres.Line x0 y0 x1 y1)
      (place k ink n One (eastward s x0) (northward s y0) _ (λ a. place k ink n One (eastward s x1) (northward s y1) _ (λ b. record { tells = line_tells k a b n })))

  pub ellipse_metres_tells : (x y a b : Float) → Tells None ((metres_drawing k ink s (metres.Ellipse x y a b)).answer n)
  ellipse_metres_tells x y a b =
      let length = field k ink n None in
      in_metres k ink n None s (metres.Ellipse x y a b)
      (place k ink n None (eastward s x) (northward s y) _ (λ c. length (found_length a s.size) _ (λ d. length (found_length b s.size) _ (λ e.
      limited k ink n None (are_semi_axes d e) _ (record { tells = ellipse_tells k c _ _ n })))))
