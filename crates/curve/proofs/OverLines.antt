-- The rectangle of a curve is that over its lines.
use Rattle.std.proofs.Common.{◌≡◌, ℕ, zero, suc, ◌+◌, ◌^◌, Bool, List, refl, ap, ◌∙◌}
use Rattle.laws.specs.Below.{any}
use Rattle.sheet.specs.Repaint.{join, join_below, box_of}
use Rattle.sheet.specs.declared.Cell.{Cell}
use Rattle.sheet.specs.declared.Shape.{Shape}
use Rattle.sheet.specs.declared.repaint.Rectangle.{Rectangle}
use Rattle.sheet.proofs.Boxes.{box_none, box_then}
use Rattle.line.specs.Rule.{on_line}
use Rattle.curve.specs.Rule.{point_at, on_curve}

-- of the first n of some figures together
box_any : (k : Shape) (n : ℕ) (f : ℕ → Cell → Bool) → box_of k (λ (c : Cell). any n (λ (i : ℕ). f i c)) ≡ join_below n (λ (i : ℕ). box_of k (f i))
unfolding any join_below
box_any k zero f = box_none k _ (λ x y a b. refl)
box_any k (suc n) f =
    box_then k (λ (c : Cell). any n (λ (i : ℕ). f i c)) (f n) ∙ ap (λ (r : Rectangle). join r (box_of k (f n))) (box_any k n f)

pub curve_over_lines : (k : Shape) (ps : List Cell) (s : ℕ)
    → box_of k (on_curve ps s) ≡ join_below (2 ^ s) (λ (i : ℕ). box_of k (on_line (point_at ps (2 ^ s) i) (point_at ps (2 ^ s) (i + 1))))
unfolding on_curve
curve_over_lines k ps s = box_any k (2 ^ s) (λ (i : ℕ). on_line (point_at ps (2 ^ s) i) (point_at ps (2 ^ s) (i + 1)))
