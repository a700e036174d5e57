-- `ring::ring_on` meets its contract.
use Rattle.ring.proofs.Answers.{centre_alone, axes_zero, axes_from_one}
use Rattle.ring.specs.Ring.{around, ellipse_rule}
use Rattle.sheet.proofs.Boxes.{box_as}
use Rattle.sheet.proofs.Paint.{paint_as}
use Rattle.sheet.proofs.Marks.{inked_paints, alone_box}
use Rattle.sheet.specs.Inner.{unmoved_cell}
use Rattle.sheet.specs.Sheet.{cell_of, is_cell}
use native.Mathlib.Omega.{arith}
use mathlib.Core.Path.{◌≡◌, sym, ◌∙◌}
use Prim.Native.Nat.{ℕ}
use Rattle.ring.proofs.ring_on.Goals as goal
use Rattle.ring.proofs.ring_on.Goals.{Then-a-eq0}

-- where both axes are 0, the ellipse is its centre
is_centre : (c : Then-a-eq0) →
    let a = c.args in
    (i j : ℕ) → is_cell (unmoved_cell a.centre) (cell_of i j) ≡ around (unmoved_cell a.centre) (ellipse_rule a.a a.b) (cell_of i j)
is_centre c i j =
    let centre = unmoved_cell c.args.centre in
    let e = c.if-a-eq0.true in
    let f = axes_zero c.args.a c.args.b c.requires.2 e in
    centre_alone centre (cell_of i j) ∙ (λ k. around centre (ellipse_rule (sym e k) (sym f k)) (cell_of i j))

pub returns-then-a-eq0 : goal.returns-then-a-eq0
returns-then-a-eq0 c =
    let a = c.args in
    let S = c.requires.0 in
    let centre = unmoved_cell a.centre in
    let ellipse = around centre (ellipse_rule a.a a.b) in record {
      sheet_after = c.ink_at.ensures
          ∙ inked_paints a.shape a.ink centre a.sheet.now S.disjoint
          ∙ paint_as a.shape a.ink (is_cell centre) ellipse a.sheet.now (λ i j _ _. is_centre (goal.at.returns-then-a-eq0 c).Then-a-eq0 i j);
      value = alone_box a.shape centre _ _ S.wide S.high c.none.ensures c.join_at.ensures
          ∙ box_as a.shape (is_cell centre) ellipse (λ i j _ _. is_centre (goal.at.returns-then-a-eq0 c).Then-a-eq0 i j);
    }

pub ellipse_on-requires : goal.ellipse_on-requires
ellipse_on-requires c =
    let l = axes_from_one c.args.a c.args.b c.requires.2 (omega (arith, c.if-a-eq0.false)) in
    (c.requires.0, c.requires.1, l.0, l.1)
