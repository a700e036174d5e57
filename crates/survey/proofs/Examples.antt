-- Document 01, "Checked examples": those in metres, in one table, with a cell too far, a semi-axis below zero, both 0 and one.
use mathlib.Core.Path.{◌≡◌, refl, sym}
use mathlib.Core.List.{List, [], ◌∷◌}
use mathlib.Core.Bool.{true, false}
use lib.Dec.{T}
use lib.IntN.{ℤ, pos, negsuc, neg_ℤ, nat_abs}
use lib.Ieee.{Float, binary64, of_int, neg, sub, div, le, lt}
use Rattle.std.specs.Prelude.{Ok, Err}
use Rattle.sheet.specs.Sheet.{coordinate, semi_axis}
use Rattle.sheet.specs.Reply.{Answer, done, refuse, told}
use Rattle.sheet.specs.declared.refusal.Refusal.TheVariants as refusal
use Rattle.survey.specs.Cell.{is_cell_of, found_cell}
use Rattle.survey.specs.Metres.{sound, eastward, northward, found_length, are_semi_axes, in_cells, figure_answer}
use Rattle.survey.specs.declared.Survey.{Survey}
use Rattle.survey.specs.declared.Metres.{Metres}
use Rattle.survey.specs.declared.Metres.TheVariants.{Line, Circle, Ellipse}
use Rattle.survey.proofs.Search.{none_high}
use Rattle.survey.proofs.Cells.{cell_is, found_none}

-- the floats of the table: whole numbers, 1062.5 and −0.0
abbrev metres : ℤ → Float
metres z = of_int binary64 z

abbrev half : ℤ → Float
half z = div binary64 (metres z) (metres (pos 2))

abbrev minus_zero : Float
minus_zero = neg (metres (pos 0))

-- a survey with both origins alike
abbrev square : Float → Float → Survey
square origin size = record { east = origin; north = origin; size = size }

pub record Row : Type 0 where
  pub survey : Survey
  pub figure : Metres
  pub answer : Answer

abbrev row : Survey → Metres → Answer → Row
row s f a = record { survey = s; figure = f; answer = a }

-- origin 1000.0, size 25.0: 1062.5 is cell 2, 1000.0 is 0, 999.0 is −1; position −0.0, origin 0.0: cell 0; size 0.0 is refused with 6
abbrev pub table : List Row
table =
    row (square (metres (pos 1000)) (metres (pos 25))) (Line (half (pos 2125)) (metres (pos 1000)) (metres (pos 999)) (metres (pos 1000)))
    (done (pos 1 ∷ pos 2 ∷ pos 0 ∷ neg_ℤ (pos 1) ∷ pos 0 ∷ []))
    ∷ row (square (metres (pos 0)) (metres (pos 25))) (Circle minus_zero minus_zero (metres (pos 60))) (done (pos 3 ∷ pos 0 ∷ pos 0 ∷ pos 2 ∷ pos 2 ∷ []))
    ∷ row (square (metres (pos 0)) (metres (pos 25))) (Ellipse minus_zero minus_zero (metres (pos 75)) (metres (neg_ℤ (pos 1))))
    (refuse refusal.Radius)
    ∷ row (square (metres (pos 0)) (metres (pos 25))) (Ellipse minus_zero minus_zero (metres (pos 0)) (metres (pos 0)))
    (done (pos 3 ∷ pos 0 ∷ pos 0 ∷ pos 0 ∷ pos 0 ∷ []))
    ∷ row (square (metres (pos 0)) (metres (pos 25))) (Ellipse minus_zero minus_zero (metres (pos 0)) (metres (pos 75)))
    (refuse refusal.Radius)
    ∷ row (square (metres (pos 0)) (metres (pos 25))) (Circle (metres (pos 409600)) minus_zero (metres (pos 60))) (refuse refusal.NoCell)
    ∷ row (square (metres (pos 0)) (metres (pos 0))) (Circle minus_zero minus_zero (metres (pos 60))) (refuse refusal.Survey)
    ∷ []

-- each row's reply is the one that the table gives
abbrev pub Hold : List Row → Type 0
Hold [] = T true
Hold (r ∷ rows) = (told figure_answer (in_cells r.survey r.figure) ≡ r.answer) × Hold rows

-- and there is none, where q is not below 16,384
far : (q : Float) → lt q (of_int binary64 (pos 16384)) ≡ false → found_cell q ≡ Err refusal.NoCell
far q e = sym (found_none q (none_high q (of_int binary64 (pos 16384)) refl e))

-- a sound survey's reply, from the cells of the fields
module _ (s : Survey) (ok : sound s ≡ true) where
  line_told : (x0 y0 x1 y1 : Float) (i j k l : ℤ) → eastward s x0 ≡ Ok i → northward s y0 ≡ Ok j → eastward s x1 ≡ Ok k → northward s y1 ≡ Ok l
      → told figure_answer (in_cells s (Line x0 y0 x1 y1)) ≡ done (pos 1 ∷ i ∷ j ∷ k ∷ l ∷ [])
  unfolding in_cells
  line_told x0 y0 x1 y1 i j k l a b c d = simp (ok, a, b, c, d)

  ellipse_told : (x y m n : Float) (i j k l : ℤ) → eastward s x ≡ Ok i → northward s y ≡ Ok j → found_length m s.size ≡ Ok k → found_length n s.size ≡ Ok l
      → are_semi_axes k l ≡ true → told figure_answer (in_cells s (Ellipse x y m n)) ≡ done (pos 3 ∷ i ∷ j ∷ pos (nat_abs k) ∷ pos (nat_abs l) ∷ [])
  unfolding in_cells
  ellipse_told x y m n i j k l a b c d e = simp (ok, a, b, c, d, e)

  ellipse_refused : (x y m n : Float) (i j k l : ℤ) → eastward s x ≡ Ok i → northward s y ≡ Ok j → found_length m s.size ≡ Ok k → found_length n s.size ≡ Ok l
      → are_semi_axes k l ≡ false → told figure_answer (in_cells s (Ellipse x y m n)) ≡ refuse refusal.Radius
  unfolding in_cells
  ellipse_refused x y m n i j k l a b c d e = simp (ok, a, b, c, d, e)

  circle_told : (x y r : Float) (i j k : ℤ) → eastward s x ≡ Ok i → northward s y ≡ Ok j → found_length r s.size ≡ Ok k
      → are_semi_axes k k ≡ true → told figure_answer (in_cells s (Circle x y r)) ≡ done (pos 3 ∷ i ∷ j ∷ pos (nat_abs k) ∷ pos (nat_abs k) ∷ [])
  unfolding in_cells
  circle_told x y r i j k a b c e = simp (ok, a, b, c, e)

  circle_refused : (x y r : Float) → eastward s x ≡ Err refusal.NoCell → told figure_answer (in_cells s (Circle x y r)) ≡ refuse refusal.NoCell
  unfolding in_cells
  circle_refused x y r a = simp (ok, a)

pub examples : Hold table
unfolding in_cells sound are_semi_axes semi_axis coordinate is_cell_of neg sub div of_int le lt
examples =
    let km = metres (pos 1000) in
    let zero = metres (pos 0) in
    let size = metres (pos 25) in
    let home = square zero size in
    let over : Float → Float → Float = λ position origin. div binary64 (sub binary64 position origin) size in
    let origin = cell_is (over minus_zero zero) (pos 0) tt tt in
    let own = cell_is (over km km) (pos 0) tt tt in
    let right = cell_is (over (half (pos 2125)) km) (pos 2) tt tt in
    let left = cell_is (over (metres (pos 999)) km) (negsuc 0) tt tt in
    let line = line_told (square km size) refl (half (pos 2125)) km (metres (pos 999)) km (pos 2) (pos 0) (negsuc 0) (pos 0) right own left own in
    let two = cell_is (div binary64 (metres (pos 60)) size) (pos 2) tt tt in
    let circle = circle_told home refl minus_zero minus_zero (metres (pos 60)) (pos 0) (pos 0) (pos 2) origin origin two refl in
    let three = cell_is (div binary64 (metres (pos 75)) size) (pos 3) tt tt in
    let below = cell_is (div binary64 (metres (negsuc 0)) size) (negsuc 0) tt tt in
    let ellipse = ellipse_refused home refl minus_zero minus_zero (metres (pos 75)) (metres (negsuc 0)) (pos 0) (pos 0) (pos 3) (negsuc 0) origin origin three below refl in
    let none = cell_is (div binary64 (metres (pos 0)) size) (pos 0) tt tt in
    let centre = ellipse_told home refl minus_zero minus_zero zero zero (pos 0) (pos 0) (pos 0) (pos 0) origin origin none none refl in
    let single = ellipse_refused home refl minus_zero minus_zero zero (metres (pos 75)) (pos 0) (pos 0) (pos 0) (pos 3) origin origin none three refl in
    let outside = circle_refused home refl (metres (pos 409600)) minus_zero (metres (pos 60)) (far (over (metres (pos 409600)) zero) refl) in
    (line, (circle, (ellipse, (centre, (single, (outside, (refl, tt)))))))
