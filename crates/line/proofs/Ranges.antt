-- The range of n whose cells are on the sheet.
use Rattle.std.proofs.Common.{ℕ, ◌+◌, ◌<◌, ◌≤◌, Bool, true, false, ⊎_elim, arith}
use Rattle.sheet.specs.declared.Shape.{Shape}
use Rattle.line.specs.Inner.Course.{stepped, spot_at}
use Rattle.line.specs.Inner.Span.{enters, leaves, steps_x, steps_y, Enters, Leaves, Spans}
use Rattle.line.specs.declared.Path.{Path}

-- along one axis: k steps from m are on the sheet just where they are in the range
axis_low : (up : Bool) (m k size : ℕ) → enters up m size ≤ k → k < leaves up m size → 65536 ≤ stepped up m k
axis_low true m k size p q = omega arith
axis_low false m k size p q = omega arith

axis_high : (up : Bool) (m k size : ℕ) → enters up m size ≤ k → k < leaves up m size → stepped up m k < 65536 + size
axis_high true m k size p q = omega arith
axis_high false m k size p q = omega arith

axis_before : (up : Bool) (m k size : ℕ) → k < enters up m size → 65536 ≤ stepped up m k → stepped up m k < 65536 + size → ⊥
axis_before true m k size p a b = omega arith
axis_before false m k size p a b = omega arith

axis_after : (up : Bool) (m k size : ℕ) → leaves up m size ≤ k → 65536 ≤ stepped up m k → stepped up m k < 65536 + size → ⊥
axis_after true m k size p a b = omega arith
axis_after false m k size p a b = omega arith

-- both bounds make the range
pub spans : (k : Shape) (c : Path) (first past : ℕ) → Enters k c first → Leaves k c past → Spans k c first past
unfolding spot_at
spans k c first past a b =
    record {
      low = b.low;
      on = λ n p q.
          let u : n ≤ c.long = omega (arith, b.low) in
          record {
            left = axis_low c.right c.x (steps_x c n) k.width (a.x_in n u p) (b.x_in n u q);
            top = axis_low true c.y (steps_y c n) k.height (a.y_in n u p) (b.y_in n u q);
            right = axis_high c.right c.x (steps_x c n) k.width (a.x_in n u p) (b.x_in n u q);
            bottom = axis_high true c.y (steps_y c n) k.height (a.y_in n u p) (b.y_in n u q);
          };
      before = λ n u p o.
          ⊎_elim
          (λ e. axis_before c.right c.x (steps_x c n) k.width e o.left o.right)
          (λ e. axis_before true c.y (steps_y c n) k.height e o.top o.bottom)
          (a.out n u p);
      after = λ n u p o.
          ⊎_elim
          (λ e. axis_after c.right c.x (steps_x c n) k.width e o.left o.right)
          (λ e. axis_after true c.y (steps_y c n) k.height e o.top o.bottom)
          (b.out n u p);
    }
