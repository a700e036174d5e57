-- The rectangle of a line: that between its first cell on the sheet and its last.
use Rattle.std.proofs.Common.{◌≡◌, ℕ, zero, suc, ◌+◌, ◌-◌, ◌*◌, ◌<◌, ◌≤◌, min, max, Bool, true, false, cond, T, [], ◌∷◌, pos, subst, inl, inr, mul-le-mul_right, arith}
use Rattle.laws.proofs.Below.{any→, any_at}
use Rattle.laws.proofs.Products.{lt_or_ge, mul_lt_back}
use Rattle.laws.proofs.Tests.{is_true, is_false, from_true}
use Rattle.sheet.specs.Sheet.{cell_of, is_cell, cells_on}
use Rattle.sheet.specs.Repaint.{nothing, box_of, Holds, Set}
use Rattle.sheet.specs.Reply.{done, with_box}
use Rattle.sheet.specs.Inner.{unmoved_cell}
use Rattle.sheet.specs.declared.Cell.{Cell}
use Rattle.sheet.specs.declared.Shape.{Shape}
use Rattle.sheet.specs.declared.Spot.{Spot}
use Rattle.sheet.specs.declared.repaint.Rectangle.{Rectangle}
use Rattle.sheet.proofs.Boxes.{rectangle_is, box_holds, box_is, box_none}
use Rattle.sheet.proofs.Cells.{is_cell_refl}
use Rattle.sheet.proofs.Limits.{unmoved_cell_lem}
use Rattle.sheet.proofs.Marks.{spot→}
use Rattle.line.specs.Rule.{rise}
use Rattle.line.specs.Inner.Course.{stepped, spot_at, first_cells}
use Rattle.line.specs.Inner.Span.{steps_x, On, Spans, spanning, told_cells}
use Rattle.line.specs.declared.Path.{Path}
use Rattle.line.proofs.Marked.{is_on}
use Rattle.line.proofs.Rise.{rise_low, rise_high, rise_none}

-- the later cell is no fewer steps along either axis
rise_up : (L S i j : ℕ) → i ≤ j → rise L S i ≤ rise L S j
rise_up zero S i j l = omega (arith, rise_none S i, rise_none S j)
rise_up (suc L) S i j l =
    let p : rise (suc L) S i < rise (suc L) S j + 1 = mul_lt_back (2 * suc L) (rise (suc L) S i) (rise (suc L) S j + 1)
    (omega (arith, rise_low (suc L) S i, rise_high (suc L) S j (omega arith), mul-le-mul_right S l)) in
    omega arith

steps_up : (steep : Bool) (L S i j : ℕ) → i ≤ j
    → (cond steep (rise L S i) i ≤ cond steep (rise L S j) j) × (cond steep i (rise L S i) ≤ cond steep j (rise L S j))
steps_up true L S i j l = (rise_up L S i j l, l)
steps_up false L S i j l = (l, rise_up L S i j l)

-- so one between two others lies between them
stepped_between : (up : Bool) (m i k j : ℕ) → i ≤ k → k ≤ j
    → (min (stepped up m i) (stepped up m j) ≤ stepped up m k) × (stepped up m k ≤ max (stepped up m i) (stepped up m j))
stepped_between true m i k j a b = (omega arith, omega arith)
stepped_between false m i k j a b = (omega arith, omega arith)

pub record Between (p q r : Spot) : Type 0 where
  pub least_x : min p.x r.x ≤ q.x
  pub most_x : q.x ≤ max p.x r.x
  pub least_y : p.y ≤ q.y
  pub most_y : q.y ≤ r.y

pub spot_between : (c : Path) (i k j : ℕ) → i ≤ k → k ≤ j → Between (spot_at c i) (spot_at c k) (spot_at c j)
unfolding spot_at
spot_between c i k j a b =
    let u = steps_up c.steep c.long c.short i k a in
    let v = steps_up c.steep c.long c.short k j b in
    let x = stepped_between c.right c.x (steps_x c i) (steps_x c k) (steps_x c j) u.0 v.0 in
    record { least_x = x.0; most_x = x.1; least_y = omega (arith, u.1); most_y = omega (arith, v.1) }

-- either may be named first
pub spanning_turned : (p q : Spot) → spanning p q ≡ spanning q p
unfolding spanning
spanning_turned p q = rectangle_is _ _ (omega arith) (omega arith) (omega arith) (omega arith)

-- what is told, by its parts
pub told_cells_lem : (k : Shape) (f : Cell → Bool) (n : ℕ) (r : Rectangle) → n ≡ cells_on k f → r ≡ box_of k f → with_box (done (pos n ∷ [])) r ≡ told_cells k f
told_cells_lem k f n r e g = λ i. with_box (done (pos (e i) ∷ [])) (g i)

-- of a line with no cell on the sheet
pub range_none : (k : Shape) (c : Path) (first past : ℕ) → past ≤ first → Spans k c first past → box_of k (first_cells c (c.long + 1)) ≡ nothing
unfolding first_cells
range_none k c first past l s =
    box_none k (first_cells c (c.long + 1)) (λ x y a b.
    is_false _ (λ t.
    let hit : ℕ → Bool = λ (i : ℕ). is_cell (unmoved_cell (spot_at c i)) (cell_of x y) in
    let f = any→ (c.long + 1) hit t in
    let o = is_on k c (spot_at c f.at) x y a b f.passes in
    elim (lt_or_ge f.at first) [
      | inl g ↦ s.before f.at (omega (arith, f.below)) g o
      | inr g ↦ s.after f.at (omega (arith, f.below)) (omega arith) o
    ]))

module _ (k : Shape) (w : k.width ≤ 4096) (h : k.height ≤ 4096) (c : Path) where
  -- a spot on the sheet is one of the cells
  spot_set : (n : ℕ) → n ≤ c.long → On k (spot_at c n) → Set k (first_cells c (c.long + 1)) ((spot_at c n).x - 65536) ((spot_at c n).y - 65536)
  unfolding first_cells
  spot_set n l o =
      let p = spot_at c n in
      let e = unmoved_cell_lem p o.left o.top in
      let hit : ℕ → Bool = λ (i : ℕ). is_cell (unmoved_cell (spot_at c i)) (cell_of (p.x - 65536) (p.y - 65536)) in
      let own : T (hit n) = subst (λ (d : Cell). T (is_cell (unmoved_cell p) d)) e (is_cell_refl (unmoved_cell p)) in
      record {
        column = omega (arith, o.left, o.right);
        row = omega (arith, o.top, o.bottom);
        marked = is_true _ (any_at (c.long + 1) hit n (omega arith) own);
      }

  pub range_box : (first past : ℕ) → first < past → Spans k c first past
      → box_of k (first_cells c (c.long + 1)) ≡ spanning (spot_at c first) (spot_at c (past - 1))
  unfolding spanning first_cells
  range_box first past l s =
      let F = first_cells c (c.long + 1) in
      let p = spot_at c first in
      let q = spot_at c (past - 1) in
      let o = s.on first (omega arith) l in
      let u = s.on (past - 1) (omega arith) (omega arith) in
      let a = box_holds k F _ _ (spot_set first (omega (arith, s.low)) o) in
      let b = box_holds k F _ _ (spot_set (past - 1) (omega (arith, s.low)) u) in
      box_is k F (spanning p q)
      (record { left_low = omega (arith, o.right); top_low = omega (arith, o.bottom) })
      held (
        omega (arith, a.0, b.0, o.left, u.left),
        omega (arith, a.1, b.1, o.left, u.left),
        omega (arith, a.2, b.2, o.top, u.top),
        omega (arith, a.3, b.3, o.top, u.top),
      )
    where
      held : (x y : ℕ) → Set k (first_cells c (c.long + 1)) x y → Holds (spanning (spot_at c first) (spot_at c (past - 1))) x y
      held x y m =
          let hit : ℕ → Bool = λ (i : ℕ). is_cell (unmoved_cell (spot_at c i)) (cell_of x y) in
          let f = any→ (c.long + 1) hit (from_true _ m.marked) in
          let e = spot→ (spot_at c f.at) x y f.passes in
          let o = is_on k c (spot_at c f.at) x y m.column m.row f.passes in
          let below : first ≤ f.at = elim (lt_or_ge f.at first) [ inl g ↦ absurd (s.before f.at (omega (arith, f.below)) g o) | inr g ↦ g ] in
          let above : f.at < past = elim (lt_or_ge f.at past) [ inl g ↦ g | inr g ↦ absurd (s.after f.at (omega (arith, f.below)) g o) ] in
          let z = spot_between c first f.at (past - 1) below (omega arith) in
          (omega (arith, z.least_x), omega (arith, z.most_x), omega (arith, z.least_y, z.most_y), omega (arith, z.least_y, z.most_y))
