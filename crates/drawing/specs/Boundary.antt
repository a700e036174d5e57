-- The regulator's question: two who draw one agreed boundary, each from its own end and in its own order, mark the same cells.
use Rattle.std.specs.Prelude.{ℕ, ◌≡◌, List, [], ◌∷◌}
use Rattle.sheet.specs.declared.Cell.{Cell}
use Rattle.sheet.specs.declared.Figure.{Figure}
use Rattle.sheet.specs.declared.Figure.TheVariants.{Line, Circle, Ellipse, Curve, Cubic}
use Rattle.record.specs.declared.types.Record.{Record}

-- one figure, named by two: alike, from its other end, or a circle as the ellipse of equal axes
pub data SameFigure : (f g : Figure) → Type 0 where
  alike : (f : Figure) → SameFigure f f
  line : (a b : Cell) → SameFigure (Line a b) (Line b a)
  curve : (p q r : Cell) (s : ℕ) → SameFigure (Curve p q r s) (Curve r q p s)
  cubic : (p q r t : Cell) (s : ℕ) → SameFigure (Cubic p q r t s) (Cubic t r q p s)
  circle : (c : Cell) (r : ℕ) → SameFigure (Circle c r) (Ellipse c r r)
  ellipse : (c : Cell) (r : ℕ) → SameFigure (Ellipse c r r) (Circle c r)

-- some record of a list names the figure
pub data Named (f : Figure) : (rs : List Record) → Type 0 where
  here : (r : Record) (rs : List Record) → SameFigure f r.figure → Named f (r ∷ rs)
  later : (r : Record) (rs : List Record) → Named f rs → Named f (r ∷ rs)

-- every record of a list is in one ink, and the other list names its figure
pub data AllNamed (ink : ℕ) (qs : List Record) : (rs : List Record) → Type 0 where
  none : AllNamed ink qs []
  also : (r : Record) (rs : List Record) → r.ink ≡ ink → Named r.figure qs → AllNamed ink qs rs → AllNamed ink qs (r ∷ rs)

-- one boundary in one ink: each list names every figure of the other, in any order and from either end
pub record SameBoundary (ink : ℕ) (rs qs : List Record) : Type 0 where
  pub there : AllNamed ink qs rs
  pub back : AllNamed ink rs qs

-- one boundary in any inks: the same figures in the same order, each from either end
pub data InTurn : (rs qs : List Record) → Type 0 where
  none : InTurn [] []
  also : (r q : Record) (rs qs : List Record) → r.ink ≡ q.ink → SameFigure r.figure q.figure → InTurn rs qs → InTurn (r ∷ rs) (q ∷ qs)
