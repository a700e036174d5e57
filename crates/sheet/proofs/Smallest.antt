-- What is shown of the rectangle that a drawing tells.
use Prim.Native.Nat.{ℕ, ◌≤◌}
use mathlib.Core.Path.{subst}
use mathlib.Core.Bool.{Bool}
use native.Mathlib.Omega.{arith}
use Rattle.laws.proofs.Tests.{is_true, is_false}
use Rattle.sheet.specs.Repaint.{nothing, box_of, Holds, Within, Set, HoldsAll, Smallest}
use Rattle.sheet.specs.declared.Cell.{Cell}
use Rattle.sheet.specs.declared.Shape.{Shape}
use Rattle.sheet.specs.declared.repaint.Rectangle.{Rectangle}
use Rattle.sheet.proofs.Boxes.{within_both, join_nothing, nothing_join, box_low, box_holds, box_within, box_none, box_then}
use Rattle.sheet.proofs.Sides.{left_side, top_side, right_side, bottom_side}

module _ (k : Shape) (f : Cell → Bool) (w : k.width ≤ 4096) (h : k.height ≤ 4096) where
  least : (r : Rectangle) → HoldsAll k f r → (x y : ℕ) → Set k f x y → Within (box_of k f) r
  least r g x y m =
      let o = g x y m in
      box_within k f r (record { left_low = omega (arith, o.0, m.column); top_low = omega (arith, o.2, m.row) }) g

  pub smallest : Smallest k f
  smallest =
      record {
        none = λ g. box_none k f (λ x y a b. is_false _ (λ t. g x y (record { column = a; row = b; marked = is_true _ t })));
        some = λ x y m e. let o : Holds nothing x y = subst (λ (r : Rectangle). Holds r x y) e (box_holds k f x y m) in omega (arith, o.1);
        holds = box_holds k f;
        least = least;
        only = λ r g l x y m. within_both r (box_of k f) (l (box_of k f) (box_holds k f)) (least r g x y m);
        touches = λ x y m. (left_side k f w h x y m, top_side k f w h x y m, right_side k f w h x y m, bottom_side k f w h x y m);
        together = box_then k f;
        unit = (join_nothing (box_of k f) nothing (box_low k f), nothing_join (box_of k f) (box_low k f));
      }
