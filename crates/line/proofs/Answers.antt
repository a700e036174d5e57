-- Drawing a line, by the course that the code walks.
use Rattle.std.proofs.Common.{◌≡◌, ℕ, ◌+◌, ◌≤◌, Bool, true, false, cond, ◌&&◌, leb, List, [], ◌∷◌, length, ℤ, pos, sym, refl, ap, ◌∙◌, subst, ap₂, arith, leb-false, leb-true}
use Rattle.laws.specs.Below.{any}
use Rattle.laws.proofs.Below.{any_as}
use Rattle.laws.proofs.Ints.{parts, one_zero}
use Rattle.sheet.specs.Sheet.{sized, sliced, coordinate, within_limits, cell_of, is_cell, paint, cells_on}
use Rattle.sheet.specs.Repaint.{nothing, box_of}
use Rattle.sheet.specs.Reply.{Answer, done, refuse, with_box, unless, is_done, settled}
use Rattle.sheet.specs.Drawing.{box_all, telling, Draws, if_sheet}
use Rattle.sheet.specs.Inner.{Moved, moved, unmoved, moved_cell, unmoved_cell, fits}
use Rattle.sheet.specs.declared.Cell.{Cell}
use Rattle.sheet.specs.declared.Shape.{Shape}
use Rattle.sheet.specs.declared.Spot.{Spot}
use Rattle.sheet.specs.declared.refusal.Refusal.TheVariants.{Size, Slice, Coordinate}
use Rattle.sheet.proofs.Boxes.{box_as, box_only}
use Rattle.sheet.proofs.Count.{cells_as}
use Rattle.sheet.proofs.Draws.{draws, drawn, kept, box_told, draws_as}
use Rattle.sheet.proofs.Lent.{if_sheet_lem}
use Rattle.sheet.proofs.Limits.{LiftedCell, lift_in, limit_low, limit_high, limit_below, limit_above, limits_x, limits_y, moved_in, moved_out, stands_parts}
use Rattle.sheet.proofs.Paint.{paint_as}
use Rattle.line.specs.Rule.{nth, on_line}
use Rattle.line.specs.Draw.{line_answer, line_drawing}
use Rattle.line.specs.Inner.Course.{path_between, IsMoved, Runs, first_cells}
use Rattle.line.specs.Inner.Span.{On, told_cells}
use Rattle.line.specs.declared.Path.{Path}
use Rattle.line.proofs.Bridge.{ends_lifted, course_runs, course_cell_lem, course_long}

-- the cells of the course of two lifted ends are the line's
line_cells : (a b : Cell) (p q : Spot) → LiftedCell a p → LiftedCell b q → (d : Cell)
    → first_cells (path_between p q) ((path_between p q).long + 1) d ≡ on_line a b d
unfolding first_cells on_line
line_cells a b p q P Q d =
    any_as ((path_between p q).long + 1) _ _ (λ n l. ap (λ (c : Cell). is_cell c d) (course_cell_lem a b p q P Q n (omega (arith, (course_runs a b p q P Q).limit))))
    ∙ ap (λ (l : ℕ). any (l + 1) (λ (n : ℕ). is_cell (nth a b n) d)) (course_long a b p q P Q)

-- a line with ends within the limits, on a sheet that fits
module _ (k : Shape) (a b : Cell) where
  line_inside : (n : ℕ) → fits k n ≡ true → (within_limits a && within_limits b) ≡ true → line_answer k a b n ≡ done (pos (cells_on k (on_line a b)) ∷ [])
  unfolding line_answer
  line_inside n e f = simp (if_sheet_lem k n e, f)

  pub line_drawn : (ink : ℕ) (s t : List ℕ) (r : Answer) → fits k (length s) ≡ true → within_limits a ≡ true → within_limits b ≡ true
      → Draws (line_drawing k ink a b) s r t → t ≡ paint k ink (on_line a b) s
  line_drawn ink s t r e f g h =
      drawn (telling (line_drawing k ink a b)) s r t h (ap is_done (line_inside (length s) e (ap₂ ◌&&◌ f g)))

  pub line_told_box : (ink : ℕ) (s t : List ℕ) (r : Answer) → fits k (length s) ≡ true → within_limits a ≡ true → within_limits b ≡ true
      → Draws (line_drawing k ink a b) s r t → r.box ≡ box_of k (on_line a b)
  line_told_box ink s t r e f g h =
      box_told (line_drawing k ink a b) s r t h (ap is_done (line_inside (length s) e (ap₂ ◌&&◌ f g))) ∙ box_only k ink (on_line a b)

  module _ (p q : Spot) (c : Path) (P : LiftedCell a p) (Q : LiftedCell b q) (ec : c ≡ path_between p q) where
    pub line_runs : Runs c
    line_runs = rw ec (course_runs a b p q P Q)

    cells : (d : Cell) → first_cells c (c.long + 1) d ≡ on_line a b d
    cells d = ap (λ (c : Path). first_cells c (c.long + 1) d) ec ∙ line_cells a b p q P Q d

    pub line_painted : (ink : ℕ) (s t : List ℕ) → t ≡ paint k ink (first_cells c (c.long + 1)) s → t ≡ paint k ink (on_line a b) s
    line_painted ink s t e = e ∙ paint_as k ink _ _ s (λ x y u v. cells (cell_of x y))

    pub line_boxed : box_of k (first_cells c (c.long + 1)) ≡ box_of k (on_line a b)
    line_boxed = box_as k _ (on_line a b) (λ x y u v. cells (cell_of x y))

    -- what is told of its cells, and what is painted
    pub line_done : (ink : ℕ) (r : Answer) (s t : List ℕ) → fits k (length s) ≡ true → (within_limits a && within_limits b) ≡ true
        → r ≡ told_cells k (first_cells c (c.long + 1)) → t ≡ paint k ink (first_cells c (c.long + 1)) s → Draws (line_drawing k ink a b) s r t
    line_done ink r s t e f er et =
        let n = cells_as k _ (on_line a b) (λ x y u v. cells (cell_of x y)) in
        let told : r ≡ told_cells k (on_line a b) = er ∙ (λ i. with_box (done (pos (n i) ∷ [])) (line_boxed i)) in
        subst (λ (r : Answer). Draws (line_drawing k ink a b) s r t) (sym told)
        (draws (line_drawing k ink a b) s (done (pos (cells_on k (on_line a b)) ∷ [])) (box_of k (on_line a b)) t refl (line_inside (length s) e f)
        (line_painted ink s t et) (sym (box_only k ink (on_line a b))))

-- a spot that stands for a cell within the limits is that cell, lifted
moved_of : (m : ℕ) → coordinate (unmoved m) ≡ true → Moved m
moved_of m e =
    let z = unmoved m in
    let s = stands_parts m z refl in
    record { least = omega (arith, limit_low z e, one_zero z); most = omega (arith, limit_high z e, one_zero z) }

pub spot_lifted : (p : Spot) → within_limits (unmoved_cell p) ≡ true → LiftedCell (unmoved_cell p) p
spot_lifted p e = record { inside_x = moved_of p.x (limits_x _ e); inside_y = moved_of p.y (limits_y _ e); stands = refl }

-- one on the sheet is within the limits
pub on_limits : (k : Shape) (p : Spot) → k.width ≤ 4096 → k.height ≤ 4096 → On k p → within_limits (unmoved_cell p) ≡ true
unfolding within_limits
on_limits k p w h o =
    ap₂ ◌&&◌ (moved_in p.x (record { least = omega (arith, o.left); most = omega (arith, o.right) })) (moved_in p.y (record { least = omega (arith, o.top); most = omega (arith, o.bottom) }))

pub on_moved : (k : Shape) (p : Spot) → k.width ≤ 4096 → k.height ≤ 4096 → On k p → IsMoved p
on_moved k p w h o = record { x = record { least = omega (arith, o.left); most = omega (arith, o.right) }; y = record { least = omega (arith, o.top); most = omega (arith, o.bottom) } }

-- the code's test of the limits
moved_test : (m : ℕ) → (leb 49152 m && leb m 81919) ≡ coordinate (unmoved m)
moved_test m = by (leb 49152 m) (leb m 81919) refl refl
  where
    by : (t u : Bool) → leb 49152 m ≡ t → leb m 81919 ≡ u → (t && u) ≡ coordinate (unmoved m)
    by true true e f = sym (moved_in m (record { least = leb-true 49152 m e; most = leb-true m 81919 f }))
    by true false e f = sym (limit_above (unmoved m) (simp parts (omega (arith, leb-false m 81919 f))))
    by false u e f = sym (limit_below (unmoved m) (simp parts (omega (arith, leb-false 49152 m e))))

pub spot_test : (p : Spot) → ((leb 49152 p.x && leb p.x 81919) && (leb 49152 p.y && leb p.y 81919)) ≡ within_limits (unmoved_cell p)
unfolding within_limits
spot_test p = λ i. moved_test p.x i && moved_test p.y i

-- a line between the lifted ends is the line between the ends; outside the limits both are refused
lifted_limit : (z : ℤ) → coordinate (unmoved (moved z)) ≡ coordinate z
lifted_limit z = by (coordinate z) refl
  where
    by : (t : Bool) → coordinate z ≡ t → coordinate (unmoved (moved z)) ≡ coordinate z
    by true e = ap coordinate (lift_in z (moved z) e refl).stands
    by false e = ap (λ (m : ℕ). coordinate (unmoved m)) (moved_out z e) ∙ limit_below (unmoved 0) (omega arith) ∙ sym e

lifted_limits : (c : Cell) → within_limits (unmoved_cell (moved_cell c)) ≡ within_limits c
unfolding within_limits
lifted_limits c = λ i. lifted_limit c.x i && lifted_limit c.y i

outside : (k : Shape) (a b : Cell) (n : ℕ) → (within_limits a && within_limits b) ≡ false → line_answer k a b n ≡ if_sheet k n (refuse Coordinate)
unfolding line_answer
outside k a b n e = simp e

not_done : (k : Shape) (n : ℕ) → is_done (if_sheet k n (refuse Coordinate)) ≡ false
unfolding if_sheet
not_done k n = by (sized k) (sliced k n)
  where
    by : (t u : Bool) → is_done (unless t Size (unless u Slice (refuse Coordinate))) ≡ false
    by true true = refl
    by true false = refl
    by false u = refl

pub line_lifted : (k : Shape) (ink : ℕ) (a b : Cell) (p q : Spot) (s t : List ℕ) (r : Answer) → p ≡ moved_cell a → q ≡ moved_cell b
    → Draws (line_drawing k ink (unmoved_cell p) (unmoved_cell q)) s r t → Draws (line_drawing k ink a b) s r t
line_lifted k ink a b p q s t r e f h = by (within_limits a && within_limits b) refl
  where
    by : (u : Bool) → (within_limits a && within_limits b) ≡ u → Draws (line_drawing k ink a b) s r t
    by true g = let l = ends_lifted a b g p q e f in draws_as (line_drawing k ink (unmoved_cell p) (unmoved_cell q)) s (line_drawing k ink a b) r t (λ i. line_drawing k ink (l.0.stands i) (l.1.stands i)) h
    by false g =
        let n = length s in
        let X = if_sheet k n (refuse Coordinate) in
        let u = outside k (unmoved_cell p) (unmoved_cell q) n ((λ i. within_limits (unmoved_cell (e i)) && within_limits (unmoved_cell (f i))) ∙ (λ i. lifted_limits a i && lifted_limits b i) ∙ g) in
        let o = not_done k n in
        let box = box_all k (line_drawing k ink (unmoved_cell p) (unmoved_cell q)).figures in
        let told : r ≡ with_box X nothing = h.tells ∙ ap (λ (a : Answer). with_box a (settled a box nothing)) u ∙ ap (λ (t : Bool). with_box X (cond t box nothing)) o in
        let same : s ≡ t = sym (h.leaves ∙ simp (u, o)) in
        subst (λ (t : List ℕ). Draws (line_drawing k ink a b) s r t) same (kept (line_drawing k ink a b) s X r told o (outside k a b n g))
