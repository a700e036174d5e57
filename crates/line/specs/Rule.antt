-- Document 01, "Lines": the rule.
use Rattle.std.specs.Prelude.{ℕ, ◌+◌, ◌*◌, ◌/◌, Bool, cond, ◌&&◌, ◌||◌, ℤ, pos, ◌+ℤ◌, ◌-ℤ◌, int_le, int_lt, nat_lt}
use Rattle.laws.specs.Below.{any}
use Rattle.laws.specs.Equal.{eq_z}
use Rattle.sheet.specs.Chain.{wide, tall}
use Rattle.sheet.specs.Sheet.{is_cell}
use Rattle.sheet.specs.declared.Cell.{Cell}

-- The lesser end is the one with the smaller y; with equal y, the smaller x.
unfoldable pub lesser : Cell → Cell → Bool
lesser a b = int_lt a.y b.y || (eq_z a.y b.y && int_le a.x b.x)

-- the longer and the shorter of two extents
abbrev pub longer : ℕ → ℕ → ℕ
longer w t = cond (nat_lt w t) t w

abbrev pub shorter : ℕ → ℕ → ℕ
shorter w t = cond (nat_lt w t) w t

-- L is the longer, S the shorter; whether the longer is that of y
abbrev pub long : Cell → Cell → ℕ
long a b = longer (wide a b) (tall a b)

abbrev pub short : Cell → Cell → ℕ
short a b = shorter (wide a b) (tall a b)

abbrev pub steep : Cell → Cell → Bool
steep a b = nat_lt (wide a b) (tall a b)

-- floor((2nS + L) / (2L)). Where L is 0, n is 0 too, and so are the steps.
unfoldable pub rise : ℕ → ℕ → ℕ → ℕ
rise L S n = (2 * (n * S) + L) / (2 * L)

-- k steps from z towards w
abbrev pub toward : ℤ → ℤ → ℕ → ℤ
toward z w k = cond (int_le z w) (z +ℤ pos k) (z -ℤ pos k)

-- the nth cell counted from the lesser end a: n steps along the longer extent and that floor along the shorter, both towards the greater end b
unfoldable pub from_lesser : Cell → Cell → ℕ → Cell
from_lesser a b n =
    let across = rise (long a b) (short a b) n in
    record {
      x = toward a.x b.x (cond (steep a b) across n);
      y = toward a.y b.y (cond (steep a b) n across);
    }

-- the nth cell of the line with the ends a and b, counted from the lesser
unfoldable pub nth : Cell → Cell → ℕ → Cell
nth a b n = cond (lesser a b) (from_lesser a b n) (from_lesser b a n)

-- the line has L + 1 cells, and they are these
unfoldable pub on_line : Cell → Cell → Cell → Bool
on_line a b c = any (long a b + 1) (λ (n : ℕ). is_cell (nth a b n) c)
