-- What a decoder reads of each kind's payload is what the table's row finds there.
use Prim.Native.Nat.{ℕ, ◌+◌}
use mathlib.Core.Path.{◌≡◌, refl}
use mathlib.Core.List.{List}
use mathlib.Core.Bool.{Bool, true, false, cond}
use native.Mathlib.Omega.{arith}
use borrow.Author.Tests.{eqb-true, eqb-false, eq-eqb, ne_eqb}
use lib.Dec.{eqb}
use lib.ListN.{length}
use Rattle.std.specs.Prelude.{Result}
use Rattle.sheet.specs.declared.Figure.{Figure}
use Rattle.sheet.specs.declared.refusal.FileRefusal.{FileRefusal}
use Rattle.sheet.specs.declared.refusal.Refusal.{Refusal}
use Rattle.record.specs.Layout.{line_row, circle_row, ellipse_row, curve_row, cubic_row}
use Rattle.record.specs.Inner.{refused_at, then_read, line_read, circle_read, ellipse_read, curve_read, cubic_read, read_decoded}
use Rattle.record.specs.Reading.{Found, unless_at, values_from, limited_from, row_found, read_of}
use Rattle.record.specs.declared.types.Read.TheVariants.{Refused}

-- a record's length counts the 2 bytes of its kind before the payload
counted : (m n : ℕ) → eqb (2 + m) (2 + n) ≡ eqb m n
counted m n = by (eqb m n) refl
  where
    by : (t : Bool) → eqb m n ≡ t → eqb (2 + m) (2 + n) ≡ t
    by true e = eq-eqb (2 + m) (2 + n) (omega (arith, eqb-true m n e))
    by false e = ne_eqb (2 + m) (2 + n) (λ q. eqb-false m n e (omega arith))

-- what a test leaves: of a table's field, of a decoder's step, and of its answer
read_unless : (t : Bool) (r : Refusal) (at : ℕ) (f : Found) → read_of (unless_at t r at f) ≡ cond t (read_of f) (Refused r at)
read_unless true r at f = refl
read_unless false r at f = refl

then_tested : {A B : Type 0} (t : Bool) (r : Refusal) (at : ℕ) (f : Result A FileRefusal) (next : A → Result B FileRefusal)
    → then_read (cond t f (refused_at r at)) next ≡ cond t (then_read f next) (refused_at r at)
then_tested true r at f next = refl
then_tested false r at f next = refl

module _ (p : List ℕ) (at next : ℕ) where
  decoded_tested : (t : Bool) (f g : Result Figure FileRefusal)
      → read_decoded at next p (cond t f g) ≡ cond t (read_decoded at next p f) (read_decoded at next p g)
  decoded_tested true f g = refl
  decoded_tested false f g = refl

  pub line_decoded : read_decoded at next p (line_read p at) ≡ read_of (row_found line_row p at next)
  unfolding row_found limited_from values_from line_row
  line_decoded = simp (counted (length p) 9, then_tested, decoded_tested, read_unless)

  pub circle_decoded : read_decoded at next p (circle_read p at) ≡ read_of (row_found circle_row p at next)
  unfolding row_found limited_from values_from circle_row
  circle_decoded = simp (counted (length p) 7, then_tested, decoded_tested, read_unless)

  pub ellipse_decoded : read_decoded at next p (ellipse_read p at) ≡ read_of (row_found ellipse_row p at next)
  unfolding row_found limited_from values_from ellipse_row
  ellipse_decoded = simp (counted (length p) 9, then_tested, decoded_tested, read_unless)

  pub curve_decoded : read_decoded at next p (curve_read p at) ≡ read_of (row_found curve_row p at next)
  unfolding row_found limited_from values_from curve_row
  curve_decoded = simp (counted (length p) 14, then_tested, decoded_tested, read_unless)

  pub cubic_decoded : read_decoded at next p (cubic_read p at) ≡ read_of (row_found cubic_row p at next)
  unfolding row_found limited_from values_from cubic_row
  cubic_decoded = simp (counted (length p) 18, then_tested, decoded_tested, read_unless)
