-- What the inner functions promise each other, over the natural numbers that the code works in.
use Rattle.std.specs.Prelude.{ℕ, ◌+◌, ◌-◌, ◌*◌, ◌≤◌, ◌<◌, min, ◌≡◌, ◌⊎◌, Bool, true, false, cond, ◌&&◌, leb, ltb, eqb, nat_abs}
use Rattle.sheet.specs.Inner.{Moved}
use Rattle.sheet.specs.declared.Cell.{Cell}
use Rattle.sheet.specs.declared.Shape.{Shape}
use Rattle.sheet.specs.declared.Spot.{Spot}
use Rattle.sheet.specs.declared.repaint.Rectangle.{Rectangle}
use Rattle.ring.specs.Ring.{ellipse_rule}
use Rattle.ring.specs.declared.Ring.{Ring}

-- a centre within the limits
pub record Centred (p : Spot) : Type 0 where
  pub column : Moved p.x
  pub row : Moved p.y

-- a semi-axis within the limits
abbrev pub Axis : ℕ → Type 0
Axis n = (1 ≤ n) × (n ≤ 16383)

-- (2ab)² < (bu)² + (av)²: the point (u / 2, v / 2) from the centre is outside the ellipse
unfoldable pub outside : ℕ → ℕ → ℕ → ℕ → Bool
outside a b u v = ltb (2 * (a * b) * (2 * (a * b))) (b * u * (b * u) + a * v * (a * v))

-- small enough for a search among the columns from l to before r
pub record Sized (a b v l r : ℕ) : Type 0 where
  pub across : a ≤ 16383
  pub down : b ≤ 16383
  pub height : v ≤ 32767
  pub order : l ≤ r
  pub most : r ≤ 16384

-- the front at the height v / 2: of the columns from l to before r the first whose middle is outside there; r, where none is
pub record Front (a b v l r x : ℕ) : Type 0 where
  pub low : l ≤ x
  pub high : x ≤ r
  pub before : (n : ℕ) → l ≤ n → n < x → outside a b (2 * n) v ≡ false
  pub at : x < r → outside a b (2 * x) v ≡ true

-- the front of a ring among the columns that may be its on the sheet
abbrev pub FrontOf : Ring → ℕ → ℕ → Type 0
FrontOf g v x = Front g.a g.b v g.least g.past x

-- where the cells of row y end at a front x: a column before it, where the boundary between the two is outside
unfoldable pub end_of_row : ℕ → ℕ → ℕ → ℕ → ℕ
end_of_row a b y x = x - cond (outside a b (2 * (x - 1) + 1) (2 * y)) 1 0

-- the cells of the sheet of which a test of column and row holds
abbrev pub cells : (ℕ → ℕ → Bool) → Cell → Bool
cells test d = test (nat_abs d.x) (nat_abs d.y)

-- how far a column or a row of the sheet is from a moved coordinate
abbrev pub off : ℕ → ℕ → ℕ
off m i = (i + 65536 - m) + (m - (i + 65536))

-- in one row: the columns from l to before r, those of the moved plane from l to r, those that are l to h off a moved coordinate
unfoldable pub run : ℕ → ℕ → ℕ → ℕ → ℕ → Bool
run row l r i j = eqb j row && (leb l i && ltb i r)

unfoldable pub part : ℕ → ℕ → ℕ → ℕ → ℕ → Bool
part row l r i j = eqb j row && (leb l (i + 65536) && leb (i + 65536) r)

unfoldable pub band : ℕ → ℕ → ℕ → ℕ → ℕ → ℕ → Bool
band row m l h i j = eqb j row && (leb l (off m i) && leb (off m i) h)

-- the cells of a ring, and those in the rows from l to before r
abbrev pub in_ring : Ring → ℕ → ℕ → Bool
in_ring g i j = ellipse_rule g.a g.b (off g.x i) (off g.y j)

unfoldable pub in_rows : Ring → ℕ → ℕ → ℕ → ℕ → Bool
in_rows g l r i j = (leb l j && ltb j r) && in_ring g i j

-- a cell c columns and y rows from the middle: nearer to it than the ring, since neither of its outer sides is outside, or not; and
-- further than the ring, since both its inner sides are outside, or not
abbrev pub Nearer : ℕ → ℕ → ℕ → ℕ → Type 0
Nearer a b c y = (outside a b (2 * c + 1) (2 * y) ≡ false) × (outside a b (2 * c) (2 * y + 1) ≡ false)

abbrev pub NotNearer : ℕ → ℕ → ℕ → ℕ → Type 0
NotNearer a b c y = (outside a b (2 * c + 1) (2 * y) ≡ true) ⊎ (outside a b (2 * c) (2 * y + 1) ≡ true)

abbrev pub Further : ℕ → ℕ → ℕ → ℕ → Type 0
Further a b c y = (outside a b (2 * c - 1) (2 * y) ≡ true) × (outside a b (2 * c) (2 * y - 1) ≡ true)

abbrev pub NotFurther : ℕ → ℕ → ℕ → ℕ → Type 0
NotFurther a b c y = (outside a b (2 * c - 1) (2 * y) ≡ false) ⊎ (outside a b (2 * c) (2 * y - 1) ≡ false)

-- of the rows from l to before r off the middle: from n on, the last of a ring's columns on the sheet is not nearer than the ring; and
-- from n on, the first of them is further than the ring
pub record NearRow (g : Ring) (l r n : ℕ) : Type 0 where
  pub low : l ≤ n
  pub high : n ≤ r
  pub before : (y : ℕ) → l ≤ y → y < n → Nearer g.a g.b (g.past - 1) y
  pub after : (y : ℕ) → n ≤ y → y < r → NotNearer g.a g.b (g.past - 1) y

pub record FarRow (g : Ring) (l r n : ℕ) : Type 0 where
  pub low : l ≤ n
  pub high : n ≤ r
  pub before : (y : ℕ) → l ≤ y → y < n → NotFurther g.a g.b g.least y
  pub after : (y : ℕ) → n ≤ y → y < r → Further g.a g.b g.least y

-- the rectangle of the rows from l to before r with the columns of a sheet of width w that are n to m off a moved coordinate x
abbrev pub spread : ℕ → ℕ → ℕ → ℕ → ℕ → ℕ → Rectangle
spread w x n m l r =
    record {
      left = cond (leb (65536 + n) x) (x - (65536 + m)) (x + n - 65536);
      top = l;
      right = cond (leb (x + n) (65535 + w)) (min (x + m) (65535 + w) - 65535) (x - (n + 65535));
      bottom = r;
    }

-- a ring with axes within the limits and some of its columns on a sheet
abbrev pub Columned : Ring → Type 0
Columned g = Axis g.a × Axis g.b × (g.least < g.past) × (g.past ≤ g.a + 1)

-- a ring as it lies on a sheet, with some of its columns on it
pub record Placed (k : Shape) (g : Ring) : Type 0 where
  pub axis_a : Axis g.a
  pub axis_b : Axis g.b
  pub column : Moved g.x
  pub row : Moved g.y
  -- a column of the sheet is no nearer to the middle than the least, and nearer than past or beyond the axis
  pub near : (i : ℕ) → i < k.width → g.least ≤ off g.x i
  pub far : (i : ℕ) → i < k.width → (off g.x i < g.past) ⊎ (g.a < off g.x i)
  -- each distance from the least to before past is that of a column of the sheet
  pub each : (c : ℕ) → g.least ≤ c → c < g.past → (i : ℕ) × (i < k.width) × (off g.x i ≡ c)
  pub some : g.least < g.past
  pub most : g.past ≤ g.a + 1
  -- where it is whole, all its columns are on the sheet
  pub whole : g.whole ≡ true → (65536 + g.a ≤ g.x) × (g.x + g.a < 65536 + k.width)

-- how a ring lies on a sheet, before it is known whether any of its columns does
pub record Placing (k : Shape) (p : Spot) (a b : ℕ) (g : Ring) : Type 0 where
  pub at_x : g.x ≡ p.x
  pub at_y : g.y ≡ p.y
  pub of_a : g.a ≡ a
  pub of_b : g.b ≡ b
  pub lies : g.least ≤ g.a → Placed k g
  pub misses : g.a < g.least → (i : ℕ) → i < k.width → g.a < off g.x i
