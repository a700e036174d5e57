-- Document 01, "Lines": how far a cell lies from the ideal straight line between two ends.
use Rattle.std.specs.Prelude.{ℕ, Bool, cond, ℤ, pos, ◌-ℤ◌, ◌*ℤ◌, int_le, unsigned_abs}
use Rattle.sheet.specs.declared.Cell.{Cell}
use Rattle.line.specs.Rule.{long, short, steep}

-- the steps from z to v, counted towards w: below 0 for a v on the other side of z
abbrev pub steps : ℤ → ℤ → ℤ → ℤ
steps z w v = cond (int_le z w) (v -ℤ z) (z -ℤ v)

-- n along and m across, counted from a towards b, where `up` says whether y is called the longer extent
abbrev pub along_by : Bool → Cell → Cell → Cell → ℤ
along_by up a b c = cond up (steps a.y b.y c.y) (steps a.x b.x c.x)

abbrev pub across_by : Bool → Cell → Cell → Cell → ℤ
across_by up a b c = cond up (steps a.x b.x c.x) (steps a.y b.y c.y)

-- |m × L − n × S|
abbrev pub distance_by : Bool → Cell → Cell → Cell → ℕ
distance_by up a b c = unsigned_abs (across_by up a b c *ℤ pos (long a b) -ℤ along_by up a b c *ℤ pos (short a b))

-- y is called the longer extent where it is
abbrev pub along : Cell → Cell → Cell → ℤ
along a b c = along_by (steep a b) a b c

unfoldable pub distance : Cell → Cell → Cell → ℕ
distance a b c = distance_by (steep a b) a b c
