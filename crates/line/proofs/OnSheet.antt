-- A spot on the sheet, and the code's test of two.
use Rattle.std.proofs.Common.{◌≡◌, ℕ, ◌+◌, min, max, Bool, true, ◌&&◌, T, ltb, leb, subst, arith, le→leb, ltb→lt, lt→ltb, leb→le}
use Rattle.laws.proofs.Tests.{and_l, and_r, and_i, same, is_true, from_true}
use Rattle.sheet.specs.Sheet.{on_sheet, is_cell}
use Rattle.sheet.specs.Inner.{unmoved_cell}
use Rattle.sheet.specs.declared.Cell.{Cell}
use Rattle.sheet.specs.declared.Shape.{Shape}
use Rattle.sheet.specs.declared.Spot.{Spot}
use Rattle.sheet.proofs.Cells.{sheet_cell, is_cell_refl}
use Rattle.sheet.proofs.Marks.{spot→, spot_on}
use Rattle.line.specs.Inner.Span.{On}

module _ (k : Shape) (p : Spot) where
  -- one that stands for a cell of the sheet is on it
  pub on_of : on_sheet k (unmoved_cell p) ≡ true → On k p
  on_of e =
      let o = sheet_cell k (unmoved_cell p) e in
      let f = spot→ p o.column o.row (subst (λ (c : Cell). T (is_cell (unmoved_cell p) c)) o.is_cell (is_cell_refl (unmoved_cell p))) in
      record {
        left = omega (arith, f.0);
        top = omega (arith, f.1);
        right = omega (arith, f.0, o.in_width);
        bottom = omega (arith, f.1, o.in_height);
      }

-- two spots, by the sides of the rectangle between them
module _ (k : Shape) (p q : Spot) (l r t b : ℕ) (el : l ≡ min p.x q.x) (er : r ≡ max p.x q.x) (et : t ≡ min p.y q.y) (eb : b ≡ max p.y q.y) where
  abbrev Tested : Bool
  Tested = (leb 65536 l && ltb r (65536 + k.width)) && (leb 65536 t && ltb b (65536 + k.height))

  pub on_test : Tested ≡ (on_sheet k (unmoved_cell p) && on_sheet k (unmoved_cell q))
  on_test = same _ _ to from
    where
      to : T Tested → T (on_sheet k (unmoved_cell p) && on_sheet k (unmoved_cell q))
      to h =
          let left = leb→le 65536 l (search (and_l, and_r)) in
          let right = ltb→lt r (65536 + k.width) (search (and_l, and_r)) in
          let top = leb→le 65536 t (search (and_l, and_r)) in
          let bottom = ltb→lt b (65536 + k.height) (search (and_l, and_r)) in
          and_i (on_sheet k (unmoved_cell p)) (on_sheet k (unmoved_cell q))
          (from_true _ (spot_on k p (omega arith) (omega arith) (omega arith) (omega arith)))
          (from_true _ (spot_on k q (omega arith) (omega arith) (omega arith) (omega arith)))

      from : T (on_sheet k (unmoved_cell p) && on_sheet k (unmoved_cell q)) → T Tested
      from h =
          let u = on_of k p (is_true _ (and_l (on_sheet k (unmoved_cell p)) (on_sheet k (unmoved_cell q)) h)) in
          let v = on_of k q (is_true _ (and_r (on_sheet k (unmoved_cell p)) (on_sheet k (unmoved_cell q)) h)) in
          let left : T (leb 65536 l) = le→leb 65536 l (omega (arith, u.left, v.left)) in
          let right : T (ltb r (65536 + k.width)) = lt→ltb r (65536 + k.width) (omega (arith, u.right, v.right)) in
          let top : T (leb 65536 t) = le→leb 65536 t (omega (arith, u.top, v.top)) in
          let bottom : T (ltb b (65536 + k.height)) = lt→ltb b (65536 + k.height) (omega (arith, u.bottom, v.bottom)) in
          search and_i
