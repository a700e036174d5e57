-- Document 02, K12, the regulator's second letter: can a territory leak through a boundary? Nobody crosses by a side step.
use Rattle.std.specs.Prelude.{ℕ, ◌≤◌, ◌<◌, ◌≡◌, List, [], ◌∷◌, ◌⊎◌, ◌↔◌, Bool, true, false, ◌&&◌, ◌||◌, eqb, ℤ, pos, ◌-ℤ◌, get_or}
use Rattle.std.specs.Int.Signed.{le_z, lt_z}
use Rattle.sheet.specs.Chain.{wide, tall}
use Rattle.sheet.specs.Sheet.{on_sheet, place, cell}
use Rattle.sheet.specs.Reply.{Answer}
use Rattle.sheet.specs.declared.Cell.{Cell}
use Rattle.sheet.specs.declared.Shape.{Shape}
use Rattle.line.specs.Rule.{on_line}
use Rattle.ring.specs.Ring.{on_ellipse}
use Rattle.fill.specs.Territory.{Side, Reach}
use Rattle.fill.specs.Fill.{Fills}

-- the cells lead from a to b on the sheet, each a side neighbour of the next
pub data SidePath (k : Shape) : Cell → Cell → List Cell → Type 0 where
  end : {a : Cell} → on_sheet k a ≡ true → SidePath k a a (a ∷ [])
  side : {a c b : Cell} {cells : List Cell} → on_sheet k a ≡ true → Side a c → SidePath k c b cells → SidePath k a b (a ∷ cells)

-- whether one of them is a cell of the boundary
unfoldable pub meets : (Cell → Bool) → List Cell → Bool
meets boundary [] = false
meets boundary (c ∷ cells) = boundary c || meets boundary cells

-- all the boundary's cells on the sheet have the boundary ink
abbrev pub AllInked : Shape → ℕ → (Cell → Bool) → List ℕ → Type 0
AllInked k ink boundary s = (c : Cell) → on_sheet k c ≡ true → boundary c ≡ true → get_or s (place k c) 0 ≡ ink

-- Nobody gets from one side to the other:
pub record Parts (k : Shape) (boundary : Cell → Bool) (one other : Cell → Type 0) : Type 0 where
  -- any path on the sheet by side neighbours that begins on the one and ends on the other contains a cell of the boundary;
  pub path : (a b : Cell) (cells : List Cell) → one a → other b → SidePath k a b cells → meets boundary cells ≡ true
  -- so where all the boundary's cells on the sheet have the boundary ink, no cell of the other can be reached from the one,
  pub reach : (ink : ℕ) (s : List ℕ) (start c : Cell) → AllInked k ink boundary s → one start → other c → Reach k ink s start c → ⊥
  -- and a fill started on the one never sets a cell of the other, nor of the boundary
  pub fill : (start : Cell) (b ink places : ℕ) (lent : List ℕ) (reply : Answer) (bytes : List ℕ)
      → Fills k start b ink places lent reply bytes → AllInked k b boundary lent → one start
      → (c : Cell) → on_sheet k c ≡ true → other c ⊎ (boundary c ≡ true) → get_or bytes (place k c) 0 ≡ get_or lent (place k c) 0

-- A boundary divides the sheet: each cell is on one side, on the other, or the boundary's, and no two of these; nobody crosses.
pub record Divides (k : Shape) (boundary : Cell → Bool) (one other : Cell → Type 0) : Type 0 where
  pub each : (c : Cell) → on_sheet k c ≡ true → one c ⊎ other c ⊎ (boundary c ≡ true)
  pub not_both : (c : Cell) → one c → other c → ⊥
  pub not_one : (c : Cell) → one c → boundary c ≡ false
  pub not_other : (c : Cell) → other c → boundary c ≡ false
  pub there : Parts k boundary one other
  pub back : Parts k boundary other one

-- columns for rows
abbrev pub exchange : Cell → Cell
exchange c = cell c.y c.x

abbrev pub exchanged : (Cell → Bool) → Cell → Bool
exchanged figure c = figure (exchange c)

-- on a row above the figure's cell of that column, and on a row below it; above is smaller y
abbrev pub Above : (Cell → Bool) → Cell → Type 0
Above figure c = (y : ℤ) × (figure (cell c.x y) ≡ true) × (lt_z c.y y ≡ true)

abbrev pub Below : (Cell → Bool) → Cell → Type 0
Below figure c = (y : ℤ) × (figure (cell c.x y) ≡ true) × (lt_z y c.y ≡ true)

-- in a column left of the figure's cell of that row, and in one right of it
abbrev pub LeftOf : (Cell → Bool) → Cell → Type 0
LeftOf figure c = Above (exchanged figure) (exchange c)

abbrev pub RightOf : (Cell → Bool) → Cell → Type 0
RightOf figure c = Below (exchanged figure) (exchange c)

-- within a figure about m: in the row of c it has a cell, and each is further than c from the column of m; outside it: each
-- that it has there is nearer
pub record Within (figure : Cell → Bool) (m c : Cell) : Type 0 where
  pub some : (x : ℤ) × (figure (cell x c.y) ≡ true)
  pub all : (x : ℤ) → figure (cell x c.y) ≡ true → wide m c < wide m (cell x c.y)

abbrev pub Outside : (Cell → Bool) → Cell → Cell → Type 0
Outside figure m c = (x : ℤ) → figure (cell x c.y) ≡ true → wide m (cell x c.y) < wide m c

-- one end at 0 or before it, the other at n − 1 or after it
abbrev pub spans : ℕ → ℤ → ℤ → Bool
spans n z w = (le_z z (pos 0) && le_z (pos n -ℤ pos 1) w) || (le_z w (pos 0) && le_z (pos n -ℤ pos 1) z)

-- For all lines, however far away their ends, and all ellipses with semi-axes from 1 up, or both 0:
pub record NobodyCrosses : Type 0 where
  -- a line whose horizontal extent is no shorter than its vertical one, with one end at x ≤ 0 and the other at x ≥ width − 1,
  pub level : (k : Shape) (a b : Cell) → tall a b ≤ wide a b → spans k.width a.x b.x ≡ true
      → Divides k (on_line a b) (Above (on_line a b)) (Below (on_line a b))
  -- the same with columns for rows,
  pub upright : (k : Shape) (a b : Cell) → wide a b ≤ tall a b → spans k.height a.y b.y ≡ true
      → Divides k (on_line a b) (LeftOf (on_line a b)) (RightOf (on_line a b))
  -- and an ellipse divide the sheet; within it are the same cells by columns, and so are those outside it
  pub ring : (k : Shape) (m : Cell) (a b : ℕ) → eqb a 0 ≡ eqb b 0
      → Divides k (on_ellipse m a b) (Within (on_ellipse m a b) m) (Outside (on_ellipse m a b) m)
  pub by_columns : (m : Cell) (a b : ℕ) (c : Cell) → eqb a 0 ≡ eqb b 0
      → (Within (on_ellipse m a b) m c ↔ Within (exchanged (on_ellipse m a b)) (exchange m) (exchange c))
      × (Outside (on_ellipse m a b) m c ↔ Outside (exchanged (on_ellipse m a b)) (exchange m) (exchange c))
