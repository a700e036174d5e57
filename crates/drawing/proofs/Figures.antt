-- Drawing a figure of any kind.
use Prim.Native.Nat.{ℕ}
use mathlib.Core.Path.{◌≡◌, refl, sym, ap, ◌∙◌}
use mathlib.Core.List.{List, []}
use mathlib.Core.Bool.{Bool, true, false, ◌&&◌}
use lib.IntN.{ℤ}
use lib.ListN.{length}
use Rattle.sheet.specs.Sheet.{within_limits, paint}
use Rattle.sheet.specs.Repaint.{box_of}
use Rattle.sheet.specs.Reply.{Answer, done, unless, is_done}
use Rattle.sheet.specs.Figure.{if_figure}
use Rattle.sheet.specs.Drawing.{if_sheet, telling, Draws}
use Rattle.sheet.specs.Inner.{fits}
use Rattle.sheet.specs.declared.Shape.{Shape}
use Rattle.sheet.specs.declared.Figure.{Figure}
use Rattle.sheet.specs.declared.refusal.Refusal.TheVariants.{Coordinate}
use Rattle.sheet.specs.declared.Figure.TheVariants.{Line, Circle, Ellipse, Curve, Cubic}
use Rattle.sheet.proofs.Boxes.{box_only}
use Rattle.sheet.proofs.Draws.{drawn, box_told}
use Rattle.sheet.proofs.Figures.{Sound}
use Rattle.sheet.proofs.Lent.{if_sheet_lem, sheet_again}
use Rattle.line.specs.Draw.{line_answer}
use Rattle.ring.specs.Draw.{ellipse_answer}
use Rattle.curve.specs.Draw.{all_within_limits, curve_answer}
use Rattle.drawing.specs.Figure.{on_figure, figure_drawing}

-- a count does not change the number, and tests in turn do not mind their brackets
counted : (t : Bool) (v : List ℤ) → (unless t Coordinate (done v)).number ≡ (unless t Coordinate (done [])).number
counted true v = refl
counted false v = refl

three_tests : (p q r : Bool) → (p && (q && (r && true))) ≡ (p && q && r)
three_tests false q r = refl
three_tests true q true = refl
three_tests true false false = refl
three_tests true true false = refl

four_tests : (p q r t : Bool) → (p && (q && (r && (t && true)))) ≡ (p && q && r && t)
four_tests false q r t = refl
four_tests true q r t = three_tests q r t

module _ (k : Shape) (ink : ℕ) where
  -- it begins with the test of the sheet
  pub figure_begins : (f : Figure) (n : ℕ) → (figure_drawing k ink f).answer n ≡ if_sheet k n ((figure_drawing k ink f).answer n)
  unfolding line_answer ellipse_answer curve_answer
  figure_begins (Line a b) n = sym (sheet_again k n _)
  figure_begins (Circle c r) n = sym (sheet_again k n _)
  figure_begins (Ellipse c a b) n = sym (sheet_again k n _)
  figure_begins (Curve p0 p1 p2 s) n = sym (sheet_again k n _)
  figure_begins (Cubic p0 p1 p2 p3 s) n = sym (sheet_again k n _)

  -- on a sheet it is done, where it is within the limits
  pub figure_done : (f : Figure) (n : ℕ) → fits k n ≡ true → Sound f → is_done ((figure_drawing k ink f).answer n) ≡ true
  unfolding line_answer ellipse_answer curve_answer all_within_limits
  figure_done (Line a b) n e l = simp (if_sheet_lem k n e, l.0, l.1)
  figure_done (Circle c r) n e l = simp (if_sheet_lem k n e, l.0, l.1)
  figure_done (Ellipse c a b) n e l = simp (if_sheet_lem k n e, l.0, l.1)
  figure_done (Curve p0 p1 p2 s) n e l = simp (if_sheet_lem k n e, l.0, l.1, l.2, l.3)
  figure_done (Cubic p0 p1 p2 p3 s) n e l = simp (if_sheet_lem k n e, l.0, l.1, l.2, l.3, l.4)

  -- and else refused as writing it is, with 2, 3 or 4
  pub figure_refused : (f : Figure) (n : ℕ) → fits k n ≡ true → ((figure_drawing k ink f).answer n).number ≡ (if_figure f (done [])).number
  unfolding line_answer ellipse_answer curve_answer all_within_limits
  figure_refused (Line a b) n e = simp (if_sheet_lem k n e) (counted (within_limits a && within_limits b) _)
  figure_refused (Circle c r) n e = simp (if_sheet_lem k n e)
  figure_refused (Ellipse c a b) n e = simp (if_sheet_lem k n e)
  figure_refused (Curve p0 p1 p2 s) n e = simp (if_sheet_lem k n e, three_tests (within_limits p0) (within_limits p1) (within_limits p2))
  figure_refused (Cubic p0 p1 p2 p3 s) n e = simp (if_sheet_lem k n e, four_tests (within_limits p0) (within_limits p1) (within_limits p2) (within_limits p3))

  -- so a reply that tells its drawing is no refusal
  pub figure_told : (f : Figure) (s t : List ℕ) (r : Answer) → fits k (length s) ≡ true → Sound f
      → Draws (figure_drawing k ink f) s r t → is_done r ≡ true
  figure_told f s t r e l h = ap is_done h.tells ∙ figure_done f (length s) e l

  pub figure_painted : (f : Figure) (s t : List ℕ) (r : Answer) → fits k (length s) ≡ true → Sound f
      → Draws (figure_drawing k ink f) s r t → t ≡ paint k ink (on_figure f) s
  figure_painted (Line a b) s t r e l h = drawn (telling (figure_drawing k ink (Line a b))) s r t h (figure_done (Line a b) (length s) e l)
  figure_painted (Circle c m) s t r e l h = drawn (telling (figure_drawing k ink (Circle c m))) s r t h (figure_done (Circle c m) (length s) e l)
  figure_painted (Ellipse c a b) s t r e l h = drawn (telling (figure_drawing k ink (Ellipse c a b))) s r t h (figure_done (Ellipse c a b) (length s) e l)
  figure_painted (Curve p0 p1 p2 m) s t r e l h = drawn (telling (figure_drawing k ink (Curve p0 p1 p2 m))) s r t h (figure_done (Curve p0 p1 p2 m) (length s) e l)
  figure_painted (Cubic p0 p1 p2 p3 m) s t r e l h = drawn (telling (figure_drawing k ink (Cubic p0 p1 p2 p3 m))) s r t h (figure_done (Cubic p0 p1 p2 p3 m) (length s) e l)

  pub figure_boxed : (f : Figure) (s t : List ℕ) (r : Answer) → fits k (length s) ≡ true → Sound f
      → Draws (figure_drawing k ink f) s r t → r.box ≡ box_of k (on_figure f)
  figure_boxed (Line a b) s t r e l h = box_told (figure_drawing k ink (Line a b)) s r t h (figure_done (Line a b) (length s) e l) ∙ box_only k ink (on_figure (Line a b))
  figure_boxed (Circle c m) s t r e l h = box_told (figure_drawing k ink (Circle c m)) s r t h (figure_done (Circle c m) (length s) e l) ∙ box_only k ink (on_figure (Circle c m))
  figure_boxed (Ellipse c a b) s t r e l h = box_told (figure_drawing k ink (Ellipse c a b)) s r t h (figure_done (Ellipse c a b) (length s) e l) ∙ box_only k ink (on_figure (Ellipse c a b))
  figure_boxed (Curve p0 p1 p2 m) s t r e l h = box_told (figure_drawing k ink (Curve p0 p1 p2 m)) s r t h (figure_done (Curve p0 p1 p2 m) (length s) e l) ∙ box_only k ink (on_figure (Curve p0 p1 p2 m))
  figure_boxed (Cubic p0 p1 p2 p3 m) s t r e l h = box_told (figure_drawing k ink (Cubic p0 p1 p2 p3 m)) s r t h (figure_done (Cubic p0 p1 p2 p3 m) (length s) e l) ∙ box_only k ink (on_figure (Cubic p0 p1 p2 p3 m))
