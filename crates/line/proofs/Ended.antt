-- The rectangle of a line whose ends are on the sheet: that of its two ends.
use Rattle.std.proofs.Common.{◌≡◌, ◌-◌, ◌≤◌, true, sym, refl, ap, ◌∙◌, ap₂, arith}
use Rattle.sheet.specs.Sheet.{on_sheet, is_cell}
use Rattle.sheet.specs.Repaint.{alone, join, box_of}
use Rattle.sheet.specs.Inner.{unmoved_cell}
use Rattle.sheet.specs.declared.Cell.{Cell}
use Rattle.sheet.specs.declared.Shape.{Shape}
use Rattle.sheet.specs.declared.Spot.{Spot}
use Rattle.sheet.proofs.Boxes.{rectangle_is}
use Rattle.sheet.proofs.Limits.{unmoved_cell_lem}
use Rattle.sheet.proofs.Marks.{box_one}
use Rattle.line.specs.Rule.{on_line}
use Rattle.line.specs.Inner.Course.{path_between}
use Rattle.line.specs.Inner.Span.{On, spanning}
use Rattle.line.proofs.Answers.{spot_lifted, on_limits, line_runs, line_boxed}
use Rattle.line.proofs.OnSheet.{on_of}
use Rattle.line.proofs.Whole.{whole_box}

module _ (k : Shape) (w : k.width ≤ 4096) (h : k.height ≤ 4096) where
  spot_box : (p : Spot) → On k p → box_of k (is_cell (unmoved_cell p)) ≡ alone (p.x - 65536) (p.y - 65536)
  spot_box p o =
      ap (λ (c : Cell). box_of k (is_cell c)) (unmoved_cell_lem p o.left o.top)
      ∙ box_one k w h (p.x - 65536) (p.y - 65536) (omega (arith, o.left, o.right)) (omega (arith, o.top, o.bottom))

  both_spots : (p q : Spot) → On k p → On k q → spanning p q ≡ join (alone (p.x - 65536) (p.y - 65536)) (alone (q.x - 65536) (q.y - 65536))
  unfolding spanning join
  both_spots p q o u =
      rectangle_is _ _ (omega (arith, o.left, u.left)) (omega (arith, o.top, u.top)) (omega (arith, o.left, u.left)) (omega (arith, o.top, u.top))

  pub line_box : (p q : Spot) → on_sheet k (unmoved_cell p) ≡ true → on_sheet k (unmoved_cell q) ≡ true
      → box_of k (on_line (unmoved_cell p) (unmoved_cell q)) ≡ join (box_of k (is_cell (unmoved_cell p))) (box_of k (is_cell (unmoved_cell q)))
  line_box p q e f =
      let o = on_of k p e in
      let u = on_of k q f in
      let P = spot_lifted p (on_limits k p w h o) in
      let Q = spot_lifted q (on_limits k q w h u) in
      let c = path_between p q in
      sym (line_boxed k _ _ p q c P Q refl)
      ∙ whole_box k w h c p q refl (line_runs k _ _ p q c P Q refl) o u
      ∙ both_spots p q o u
      ∙ sym (ap₂ join (spot_box p o) (spot_box q u))
