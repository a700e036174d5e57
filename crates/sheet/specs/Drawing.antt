-- A drawing, what every drawing promises, and the smallest one: marking a cell.
use Rattle.std.specs.Prelude.{ℕ, ◌≡◌, List, [], ◌∷◌, Bool, length}
use Rattle.sheet.specs.Sheet.{sized, sliced, within_limits, paint, is_cell}
use Rattle.sheet.specs.Repaint.{nothing, join, box_of}
use Rattle.sheet.specs.Reply.{Answer, done, with_box, unless, settled}
use Rattle.sheet.specs.declared.Cell.{Cell}
use Rattle.sheet.specs.declared.Shape.{Shape}
use Rattle.sheet.specs.declared.refusal.Refusal.TheVariants.{Size, Coordinate, Slice}
use Rattle.sheet.specs.declared.repaint.Rectangle.{Rectangle}

-- a figure in an ink
pub record Inked : Type 0 where
  pub ink : ℕ
  pub figure : Cell → Bool

-- one alone
abbrev pub only : ℕ → (Cell → Bool) → List Inked
only ink figure = record { ink = ink; figure = figure } ∷ []

-- Figures are drawn in order, later over earlier.
abbrev pub paint_all : Shape → List Inked → List ℕ → List ℕ
paint_all k [] s = s
paint_all k (f ∷ fs) s = paint_all k fs (paint k f.ink f.figure s)

-- The rectangle over all of them.
unfoldable pub box_all : Shape → List Inked → Rectangle
box_all k [] = nothing
box_all k (f ∷ fs) = join (box_of k f.figure) (box_all k fs)

-- a sheet's shape, the answer for a slice of n bytes, and the figures
pub record Drawing : Type 0 where
  pub shape : Shape
  pub answer : ℕ → Answer
  pub figures : List Inked

-- 1 for the sizes, then 15 for a slice of n bytes, and then what follows: with this every drawing's answer begins
unfoldable pub if_sheet : Shape → ℕ → Answer → Answer
if_sheet k n next = unless (sized k) Size (unless (sliced k n) Slice next)

-- On lent bytes: the reply is the answer, and the bytes afterwards are painted, or untouched by a refusal.
pub record Paints (d : Drawing) (lent : List ℕ) (reply : Answer) (bytes : List ℕ) : Type 0 where
  pub tells : reply ≡ d.answer (length lent)
  pub leaves : bytes ≡ settled (d.answer (length lent)) (paint_all d.shape d.figures lent) lent

-- the drawing whose answer also tells the smallest rectangle that holds the cells it sets; nothing, where it is refused
abbrev pub telling : Drawing → Drawing
telling d =
    record {
      shape = d.shape;
      answer = λ (n : ℕ). with_box (d.answer n) (settled (d.answer n) (box_all d.shape d.figures) nothing);
      figures = d.figures;
    }

-- What every drawing promises: it paints, and tells that rectangle.
abbrev pub Draws : Drawing → List ℕ → Answer → List ℕ → Type 0
Draws d lent reply bytes = Paints (telling d) lent reply bytes

-- Marking one cell: 1, 15, 2, else 0.
unfoldable pub mark_answer : Shape → Cell → ℕ → Answer
mark_answer k c n = if_sheet k n (unless (within_limits c) Coordinate (done []))

abbrev pub mark_drawing : Shape → ℕ → Cell → Drawing
mark_drawing k ink c = record { shape = k; answer = mark_answer k c; figures = only ink (is_cell c) }
