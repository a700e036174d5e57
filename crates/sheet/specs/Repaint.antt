-- Document 02, K7: what to repaint. The smallest rectangle that holds the cells of a figure on the sheet.
use Rattle.std.specs.Prelude.{ℕ, zero, suc, ◌+◌, ◌≤◌, ◌<◌, min, max, ◌≡◌, Bool, true, cond, ◌||◌}
use Rattle.sheet.specs.Sheet.{cell_of}
use Rattle.sheet.specs.declared.Cell.{Cell}
use Rattle.sheet.specs.declared.Shape.{Shape}
use Rattle.sheet.specs.declared.repaint.Rectangle.{Rectangle}

-- the rectangle of no cell, which begins at 4,096, where no sheet has a column or a row; and that of one
abbrev pub nothing : Rectangle
nothing = record { left = 4096; top = 4096; right = 0; bottom = 0 }

abbrev pub alone : ℕ → ℕ → Rectangle
alone x y = record { left = x; top = y; right = x + 1; bottom = y + 1 }

-- the smallest that holds both
unfoldable pub join : Rectangle → Rectangle → Rectangle
join p q =
    record {
      left = min p.left q.left;
      top = min p.top q.top;
      right = max p.right q.right;
      bottom = max p.bottom q.bottom;
    }

-- the smallest that holds the first n
unfoldable pub join_below : ℕ → (ℕ → Rectangle) → Rectangle
join_below zero f = nothing
join_below (suc n) f = join (join_below n f) (f n)

-- The smallest that holds the figure's cells on the sheet: of each row, that of each of its cells.
unfoldable pub box_of : Shape → (Cell → Bool) → Rectangle
box_of k figure =
    join_below k.height (λ (y : ℕ). join_below k.width (λ (x : ℕ). cond (figure (cell_of x y)) (alone x y) nothing))

-- a rectangle holds the cell (x, y); one lies within another
abbrev pub Holds : Rectangle → ℕ → ℕ → Type 0
Holds r x y = (r.left ≤ x) × (x < r.right) × (r.top ≤ y) × (y < r.bottom)

abbrev pub Within : Rectangle → Rectangle → Type 0
Within p q = (q.left ≤ p.left) × (p.right ≤ q.right) × (q.top ≤ p.top) × (p.bottom ≤ q.bottom)

-- (x, y) is a cell of the figure on the sheet; a rectangle holds each of these
pub record Set (k : Shape) (figure : Cell → Bool) (x y : ℕ) : Type 0 where
  pub column : x < k.width
  pub row : y < k.height
  pub marked : figure (cell_of x y) ≡ true

abbrev pub HoldsAll : Shape → (Cell → Bool) → Rectangle → Type 0
HoldsAll k figure r = (x y : ℕ) → Set k figure x y → Holds r x y

-- a cell of the figure on the sheet that its rectangle ends with at a side
pub record Reaches (k : Shape) (figure : Cell → Bool) (side : Rectangle → ℕ) : Type 0 where
  pub x : ℕ
  pub y : ℕ
  pub set : Set k figure x y
  pub ends : side (box_of k figure) ≡ side (alone x y)

-- What is shown of it, on every sheet within the limits.
pub record Smallest (k : Shape) (figure : Cell → Bool) : Type 0 where
  -- none exactly where no cell of the figure is on the sheet
  pub none : ((x y : ℕ) → Set k figure x y → ⊥) → box_of k figure ≡ nothing
  pub some : (x y : ℕ) → Set k figure x y → box_of k figure ≡ nothing → ⊥
  -- otherwise it holds each of them, and lies within every rectangle that does: no other does so
  pub holds : HoldsAll k figure (box_of k figure)
  pub least : (r : Rectangle) → HoldsAll k figure r → (x y : ℕ) → Set k figure x y → Within (box_of k figure) r
  pub only : (r : Rectangle) → HoldsAll k figure r → ((q : Rectangle) → HoldsAll k figure q → Within r q)
      → (x y : ℕ) → Set k figure x y → r ≡ box_of k figure
  -- and it has one of them at each side
  pub touches : (x y : ℕ) → Set k figure x y → Reaches k figure (λ (r : Rectangle). r.left) × Reaches k figure (λ (r : Rectangle). r.top)
      × Reaches k figure (λ (r : Rectangle). r.right) × Reaches k figure (λ (r : Rectangle). r.bottom)
  -- two figures together have the join of their rectangles, of which that of no cell is the unit
  pub together : (other : Cell → Bool) → box_of k (λ (c : Cell). figure c || other c) ≡ join (box_of k figure) (box_of k other)
  pub unit : (join (box_of k figure) nothing ≡ box_of k figure) × (join nothing (box_of k figure) ≡ box_of k figure)
