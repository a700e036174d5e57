-- The record of each figure as the code puts it: how many bytes it takes, and which.
use Prim.Native.Nat.{ℕ}
use mathlib.Core.Path.{◌≡◌, refl}
use mathlib.Core.List.{◌++◌}
use lib.ListN.{length}
use Rattle.sheet.specs.declared.Cell.{Cell}
use Rattle.sheet.specs.declared.Figure.{Figure}
use Rattle.sheet.specs.declared.Figure.TheVariants.{Line, Circle, Ellipse, Curve, Cubic}
use Rattle.record.specs.Layout.{bytes_of, line_row, circle_row, ellipse_row, curve_row, cubic_row, table}
use Rattle.record.specs.Writing.{fields_bytes, record_bytes, record_length, record_size}
use Rattle.record.specs.Inner.{head_bytes, cell_bytes}

pub line_bytes : (i : ℕ) (a b : Cell) → head_bytes 11 1 i ++ cell_bytes a ++ cell_bytes b ≡ record_bytes i (Line a b)
unfolding record_bytes fields_bytes table line_row
line_bytes i a b = refl

pub circle_bytes : (i : ℕ) (c : Cell) (r : ℕ) → head_bytes 9 2 i ++ cell_bytes c ++ bytes_of 2 r ≡ record_bytes i (Circle c r)
unfolding record_bytes fields_bytes table line_row circle_row
circle_bytes i c r = refl

pub ellipse_bytes : (i : ℕ) (c : Cell) (a b : ℕ) → head_bytes 11 3 i ++ cell_bytes c ++ bytes_of 2 a ++ bytes_of 2 b ≡ record_bytes i (Ellipse c a b)
unfolding record_bytes fields_bytes table line_row circle_row ellipse_row
ellipse_bytes i c a b = refl

pub curve_bytes : (i : ℕ) (p q r : Cell) (s : ℕ) → head_bytes 16 4 i ++ (cell_bytes p ++ cell_bytes q ++ cell_bytes r) ++ bytes_of 1 s ≡ record_bytes i (Curve p q r s)
unfolding record_bytes fields_bytes table line_row circle_row ellipse_row curve_row
curve_bytes i p q r s = refl

pub cubic_bytes : (i : ℕ) (p q r t : Cell) (s : ℕ)
    → head_bytes 20 5 i ++ (cell_bytes p ++ cell_bytes q ++ cell_bytes r) ++ cell_bytes t ++ bytes_of 1 s ≡ record_bytes i (Cubic p q r t s)
unfolding record_bytes fields_bytes table line_row circle_row ellipse_row curve_row cubic_row
cubic_bytes i p q r t s = refl

pub line_size : (a b : Cell) → 13 ≡ record_size (Line a b)
unfolding record_length table line_row
line_size a b = refl

pub circle_size : (c : Cell) (r : ℕ) → 11 ≡ record_size (Circle c r)
unfolding record_length table line_row circle_row
circle_size c r = refl

pub ellipse_size : (c : Cell) (a b : ℕ) → 13 ≡ record_size (Ellipse c a b)
unfolding record_length table line_row circle_row ellipse_row
ellipse_size c a b = refl

pub curve_size : (p q r : Cell) (s : ℕ) → 18 ≡ record_size (Curve p q r s)
unfolding record_length table line_row circle_row ellipse_row curve_row
curve_size p q r s = refl

pub cubic_size : (p q r t : Cell) (s : ℕ) → 22 ≡ record_size (Cubic p q r t s)
unfolding record_length table line_row circle_row ellipse_row curve_row cubic_row
cubic_size p q r t s = refl

-- a record has as many bytes as it takes
pub record_size_lem : (i : ℕ) (f : Figure) → length (record_bytes i f) ≡ record_size f
unfolding record_bytes record_length fields_bytes table line_row circle_row ellipse_row curve_row cubic_row
record_size_lem i (Line a b) = refl
record_size_lem i (Circle c r) = refl
record_size_lem i (Ellipse c a b) = refl
record_size_lem i (Curve p q r s) = refl
record_size_lem i (Cubic p q r t s) = refl
