-- What comes out of metres is within the limits: a figure in metres is refused with 1, 6, 7 or 3, and else it is drawn.
use mathlib.Core.Path.{◌≡◌, refl}
use mathlib.Core.Bool.{Bool, true, false, cond}
use lib.IntN.{ℤ}
use lib.Ieee.{Float}
use Rattle.std.specs.Prelude.{Result, Ok, Err}
use Rattle.laws.proofs.Tests.{is_true}
use Rattle.sheet.specs.Sheet.{coordinate, within_limits, cell}
use Rattle.sheet.specs.declared.Cell.{Cell}
use Rattle.sheet.specs.declared.Figure.{Figure}
use Rattle.sheet.specs.declared.refusal.Refusal.{Refusal}
use Rattle.sheet.specs.declared.refusal.Refusal.TheVariants as refusal
use Rattle.sheet.proofs.Figures.{Sound, cell_in_lem}
use Rattle.survey.specs.Cell.{found_cell}
use Rattle.survey.specs.Metres.{sound, with_cell, within, are_semi_axes, cell_in_cells, ellipse_in_cells, figure_in, in_cells}
use Rattle.survey.specs.declared.Survey.{Survey}
use Rattle.survey.specs.declared.Metres.{Metres}
use Rattle.survey.specs.declared.Metres.TheVariants as metres
use Rattle.survey.proofs.Cells.{CellOf, cell_right}
use Rattle.survey.proofs.Lengths.{axes_within}

abbrev pub Within : Result Figure Refusal → Type 0
Within (Ok f) = Sound f
Within (Err r) = Unit {0}

length : (q : Float) (next : ℤ → Result Figure Refusal) → ((k : ℤ) → Within (next k)) → Within (with_cell (found_cell q) next)
length q next h = by (found_cell q)
  where
    by : (r : Result ℤ Refusal) → Within (with_cell r next)
    by (Ok k) = h k
    by (Err r) = tt

position : (p q : Float) (next : Cell → Result Figure Refusal) → ((c : Cell) → within_limits c ≡ true → Within (next c))
    → Within (with_cell (cell_in_cells (found_cell p) (found_cell q)) next)
position p q next h = by (found_cell p) (found_cell q) (cell_right p) (cell_right q)
  where
    by : (r s : Result ℤ Refusal) → CellOf p r → CellOf q s → Within (with_cell (cell_in_cells r s) next)
    by (Ok i) (Ok j) c d = h (cell i j) (cell_in_lem i j (is_true (coordinate i) c.0) (is_true (coordinate j) d.0))
    by (Ok i) (Err r) c d = tt
    by (Err r) s c d = tt

limited : (t : Bool) (f : Figure) → (t ≡ true → Sound f) → Within (within t f)
limited true f h = h refl
limited false f h = tt

ellipse : (x y a b : Float) → Within (ellipse_in_cells (found_cell x) (found_cell y) (found_cell a) (found_cell b))
ellipse x y a b =
    position x y _ (λ c p. length a _ (λ k. length b _ (λ l. limited (are_semi_axes k l) _ (λ e. (p, axes_within k l e)))))

figure : (s : Survey) (f : Metres) → Within (figure_in s f)
figure s (metres.Line x0 y0 x1 y1) = position _ _ _ (λ a p. position _ _ _ (λ b q. (p, q)))
figure s (metres.Circle x y r) = ellipse _ _ _ _
figure s (metres.Ellipse x y m n) = ellipse _ _ _ _

pub in_cells_within : (s : Survey) (f : Metres) → Within (in_cells s f)
unfolding in_cells
in_cells_within s f = by (sound s)
  where
    by : (t : Bool) → Within (cond t (figure_in s f) (Err refusal.Survey))
    by true = figure s f
    by false = tt
