-- The points on the moved plane, as the code finds them: by a sum of powers of i, and its differences.
use Rattle.std.specs.Prelude.{◌≡◌, ℕ, ◌+◌, ◌-◌, ◌*◌, ◌/◌, ◌%◌, ◌^◌, ◌<◌, ◌≤◌, Bool, true, ◌||◌, List, map, length, ℤ}
use Rattle.sheet.specs.Sheet.{paint}
use Rattle.sheet.specs.Repaint.{box_of}
use Rattle.sheet.specs.Inner.{unmoved}
use Rattle.sheet.specs.declared.Cell.{Cell}
use Rattle.sheet.specs.declared.Shape.{Shape}
use Rattle.sheet.specs.declared.Spot.{Spot}
use Rattle.sheet.specs.declared.repaint.Rectangle.{Rectangle}
use Rattle.curve.specs.Rule.{coordinate_at}
use Rattle.curve.specs.declared.Powers.{Powers}
use Rattle.curve.specs.declared.Terms.{Terms}
use Rattle.curve.specs.declared.Walk.{Walk}
use Rattle.curve.specs.declared.Way.{Way}

-- as many control points as a quadratic or a cubic curve has
abbrev pub ThreeOrFour : List Cell → Type 0
ThreeOrFour ps = (3 ≤ length ps) × (length ps ≤ 4)

-- a sum at i, and its differences there: how much it grows to the next i, how much that growth does, and how much that one's
abbrev pub sum_at : Powers → ℕ → ℕ
sum_at a i = a.one * i + a.two * (i * i) + a.three * (i * i * i)

unfoldable pub changes_at : Powers → ℕ → Powers
changes_at a i =
    record {
      one = a.one + a.two * (2 * i + 1) + a.three * (3 * (i * i) + 3 * i + 1);
      two = 2 * a.two + 6 * (a.three * (i + 1));
      three = 6 * a.three;
    }

-- numbers that are far from the limit of their type: of a sum, and of terms
pub record Little (a : Powers) : Type 0 where
  pub one_low : a.one ≤ 2 ^ 40
  pub two_low : a.two ≤ 2 ^ 40
  pub three_low : a.three ≤ 2 ^ 40

pub record Small (t : Terms) : Type 0 where
  pub start_low : t.start ≤ 2 ^ 40
  pub gains_low : Little t.gains
  pub losses_low : Little t.losses

-- the shift that divides by 2 × n^d, of a curve with this many control points and n = 2^s pieces
abbrev pub shift_of : ℕ → ℕ → ℕ
shift_of controls s = (controls - 1) * s + 1

-- what the terms come to at i; divided, it stands for a coordinate of the ith point, of control values ps
pub record Joint (ps : List ℤ) (s i : ℕ) (t : Terms) : Type 0 where
  pub value : ℕ
  pub made : t.start + sum_at t.gains i ≡ sum_at t.losses i + value
  pub stands : unmoved (value / 2 ^ shift_of (length ps) s) ≡ coordinate_at ps (2 ^ s) i

-- terms that give that of each point
pub record Gives (ps : List ℤ) (s : ℕ) (t : Terms) : Type 0 where
  pub small : Small t
  pub joint : (i : ℕ) → i ≤ 2 ^ s → Joint ps s i t

-- a number that is a less b, modulo 2^64
abbrev pub Less : ℕ → ℕ → ℕ → Type 0
Less a b w = (w + b) % 2 ^ 64 ≡ a % 2 ^ 64

-- a walk that is at i
pub record Walks (t : Terms) (i : ℕ) (w : Walk) : Type 0 where
  pub value_is : Less (t.start + sum_at t.gains i) (sum_at t.losses i) w.value
  pub first_is : Less (changes_at t.gains i).one (changes_at t.losses i).one w.first
  pub second_is : Less (changes_at t.gains i).two (changes_at t.losses i).two w.second
  pub third_is : Less (changes_at t.gains i).three (changes_at t.losses i).three w.third
  pub held : w.value < 2 ^ 64

-- the walk one further, and the way
unfoldable pub next_walk : Walk → Walk
next_walk w =
    record {
      value = (w.value + w.first) % 2 ^ 64;
      first = (w.first + w.second) % 2 ^ 64;
      second = (w.second + w.third) % 2 ^ 64;
      third = w.third;
    }

abbrev pub next_way : Way → Way
next_way w = record { x = next_walk w.x; y = next_walk w.y; shift = w.shift }

-- a walk along one coordinate of a curve with control values ps, at i
pub record Follows (ps : List ℤ) (s i : ℕ) (w : Walk) : Type 0 where
  pub terms : Terms
  pub gives : Gives ps s terms
  pub walks : Walks terms i w

-- a way along the curve
pub record Leads (ps : List Cell) (s i : ℕ) (w : Way) : Type 0 where
  pub along_x : Follows (map (λ (c : Cell). c.x) ps) s i w.x
  pub along_y : Follows (map (λ (c : Cell). c.y) ps) s i w.y
  pub shift_is : w.shift ≡ shift_of (length ps) s

-- the spot that it is at, and that there is one
abbrev pub spot_of_way : Way → Spot
spot_of_way w = record { x = w.x.value / 2 ^ w.shift; y = w.y.value / 2 ^ w.shift }

pub record Divides (w : Walk) (shift : ℕ) : Type 0 where
  pub whole : shift < 64
  pub fits : w.value / 2 ^ shift < 2 ^ 32

-- what a line adds to what is drawn in one ink, the line's first point included, and to its rectangle
pub record Adds (k : Shape) (ink : ℕ) (from : Cell) (line : Cell → Bool) (s t : List ℕ) (q r : Rectangle) : Type 0 where
  pub painted : (f : Cell → Bool) (before : List ℕ) → f from ≡ true
      → s ≡ paint k ink f before → t ≡ paint k ink (λ (c : Cell). f c || line c) before
  pub boxed : (f : Cell → Bool) → f from ≡ true → q ≡ box_of k f → r ≡ box_of k (λ (c : Cell). f c || line c)
