-- A line whose two ends are on the sheet is on it whole, and one of one cell or two is its ends.
use Rattle.std.proofs.Common.{◌≡◌, ℕ, zero, suc, ◌+◌, ◌-◌, ◌<◌, ◌≤◌, Bool, true, false, cond, ◌||◌, ltb, leb, List, sym, refl, ap, ◌∙◌, subst, ap₂, arith, leb-false, leb-true}
use mathlib.Core.Bool.{or_self}
use Rattle.laws.specs.Below.{any}
use Rattle.sheet.specs.Sheet.{cell_of, is_cell, paint}
use Rattle.sheet.specs.Repaint.{box_of}
use Rattle.sheet.specs.Inner.{unmoved_cell, inked_at, Disjoint}
use Rattle.sheet.specs.declared.Cell.{Cell}
use Rattle.sheet.specs.declared.Shape.{Shape}
use Rattle.sheet.specs.declared.Spot.{Spot}
use Rattle.sheet.proofs.Marks.{inked_paints}
use Rattle.sheet.proofs.Paint.{paint_as, paint_then}
use Rattle.line.specs.Rule.{longer, shorter, rise}
use Rattle.line.specs.Inner.Course.{gap, stepped, spot_at, lesser_spot, path_from, path_between, Runs, first_cells}
use Rattle.line.specs.Inner.Span.{steps_x, steps_y, On, Spans, spanning}
use Rattle.line.specs.declared.Path.{Path}
use Rattle.line.proofs.Bridge.{shorter_le, lesser_y, not_lesser_y}
use Rattle.line.proofs.Rise.{rise_start, rise_short, rise_end}
use Rattle.line.proofs.Spanned.{range_box, spanning_turned}

-- the steps to the nth cell are between those to the first and those to the last, along either axis
across : (steep : Bool) (L S n : ℕ) → S ≤ L → n ≤ L
    → (cond steep (rise L S 0) 0 ≤ cond steep (rise L S n) n) × (cond steep (rise L S n) n ≤ cond steep (rise L S L) L)
across true L S n a l = (omega (arith, rise_start L S), omega (arith, rise_short L S n l, rise_end L S a))
across false L S n a l = (omega arith, l)

along : (steep : Bool) (L S n : ℕ) → S ≤ L → n ≤ L
    → (cond steep 0 (rise L S 0) ≤ cond steep n (rise L S n)) × (cond steep n (rise L S n) ≤ cond steep L (rise L S L))
along true L S n a l = across false L S n a l
along false L S n a l = across true L S n a l

-- and so are the places that they lead to
between_low : (up : Bool) (m least i k j : ℕ) → (i ≤ k) × (k ≤ j) → least ≤ stepped up m i → least ≤ stepped up m j → least ≤ stepped up m k
between_low true m least i k j b p q = omega arith
between_low false m least i k j b p q = omega arith

between_high : (up : Bool) (m most i k j : ℕ) → (i ≤ k) × (k ≤ j) → stepped up m i < most → stepped up m j < most → stepped up m k < most
between_high true m most i k j b p q = omega arith
between_high false m most i k j b p q = omega arith

whole : (k : Shape) (c : Path) → Runs c → On k (spot_at c 0) → On k (spot_at c c.long) → Spans k c 0 (c.long + 1)
unfolding spot_at
whole k c r a b =
    record {
      low = omega arith;
      on = λ n p q.
          let x = across c.steep c.long c.short n r.shorter (omega arith) in
          let y = along c.steep c.long c.short n r.shorter (omega arith) in
          record {
            left = between_low c.right c.x 65536 (steps_x c 0) (steps_x c n) (steps_x c c.long) x a.left b.left;
            top = between_low true c.y 65536 (steps_y c 0) (steps_y c n) (steps_y c c.long) y a.top b.top;
            right = between_high c.right c.x (65536 + k.width) (steps_x c 0) (steps_x c n) (steps_x c c.long) x a.right b.right;
            bottom = between_high true c.y (65536 + k.height) (steps_y c 0) (steps_y c n) (steps_y c c.long) y a.bottom b.bottom;
          };
      before = λ n u p o. absurd (omega arith);
      after = λ n u p o. absurd (omega arith);
    }

-- a course's first spot and its last are the ends that it was found from
steps_end : (w t : ℕ) → (cond (ltb w t) (rise (longer w t) (shorter w t) (longer w t)) (longer w t) ≡ w)
    × (cond (ltb w t) (longer w t) (rise (longer w t) (shorter w t) (longer w t)) ≡ t)
steps_end w t = rw (rise_end (longer w t) (shorter w t) (shorter_le w t)) (by (ltb w t))
  where
    by : (u : Bool) → (cond u (cond u w t) (cond u t w) ≡ w) × (cond u (cond u t w) (cond u w t) ≡ t)
    by true = (refl, refl)
    by false = (refl, refl)

no_steps : (t : Bool) (m n : ℕ) → m ≡ 0 → n ≡ 0 → cond t m n ≡ 0
no_steps true m n e f = e
no_steps false m n e f = f

stepped_none : (up : Bool) (m k : ℕ) → k ≡ 0 → stepped up m k ≡ m
stepped_none true m k e = omega arith
stepped_none false m k e = omega arith

stepped_to : (m n : ℕ) → stepped (leb m n) m (gap m n) ≡ n
stepped_to m n = by (leb m n) refl
  where
    by : (t : Bool) → leb m n ≡ t → stepped t m (gap m n) ≡ n
    by true e = omega (arith, leb-true m n e)
    by false e = omega (arith, leb-false m n e)

module _ (p q : Spot) where
  first_spot : spot_at (path_from p q) 0 ≡ p
  unfolding spot_at
  first_spot =
      let w = gap p.x q.x in
      let t = gap p.y q.y in
      let none = rise_start (longer w t) (shorter w t) in
      λ i. record { x = stepped_none (leb p.x q.x) p.x _ (no_steps (ltb w t) _ 0 none refl) i; y = stepped_none true p.y _ (no_steps (ltb w t) 0 _ refl none) i }

  last_spot : p.y ≤ q.y → spot_at (path_from p q) (path_from p q).long ≡ q
  unfolding spot_at
  last_spot h =
      let s = steps_end (gap p.x q.x) (gap p.y q.y) in
      let ex = ap (stepped (leb p.x q.x) p.x) s.0 ∙ stepped_to p.x q.x in
      let g : p.y + gap p.y q.y ≡ q.y = omega arith in
      let ey = ap (λ (k : ℕ). p.y + k) s.1 ∙ g in
      λ i. record { x = ex i; y = ey i }

-- so one whose ends are on the sheet is on it whole
pub course_whole : (k : Shape) (c : Path) (p q : Spot) → c ≡ path_between p q → Runs c → On k p → On k q → Spans k c 0 (c.long + 1)
unfolding path_between
course_whole k c p q e r a b = whole k c r at_ends.0 at_ends.1
  where
    either : (t : Bool) → lesser_spot p q ≡ t → let d = cond t (path_from p q) (path_from q p) in On k (spot_at d 0) × On k (spot_at d d.long)
    either true f = (subst (On k) (sym (first_spot p q)) a, subst (On k) (sym (last_spot p q (lesser_y p q f))) b)
    either false f = (subst (On k) (sym (first_spot q p)) b, subst (On k) (sym (last_spot q p (not_lesser_y p q f))) a)

    at_ends : On k (spot_at c 0) × On k (spot_at c c.long)
    at_ends = rw e (either (lesser_spot p q) refl)

-- and its rectangle is that between them
pub whole_box : (k : Shape) → k.width ≤ 4096 → k.height ≤ 4096 → (c : Path) (p q : Spot) → c ≡ path_between p q → Runs c → On k p → On k q
    → box_of k (first_cells c (c.long + 1)) ≡ spanning p q
unfolding path_between
whole_box k w h c p q e r a b =
    range_box k w h c 0 (c.long + 1) (omega arith) (course_whole k c p q e r a b)
    ∙ ap (λ (n : ℕ). spanning (spot_at c 0) (spot_at c n)) (last c.long)
    ∙ (λ i. spanning (spot_at (e i) 0) (spot_at (e i) (e i).long))
    ∙ either (lesser_spot p q) refl
  where
    last : (n : ℕ) → n + 1 - 1 ≡ n
    last n = omega arith

    either : (t : Bool) → lesser_spot p q ≡ t → let d = cond t (path_from p q) (path_from q p) in spanning (spot_at d 0) (spot_at d d.long) ≡ spanning p q
    either true f = ap₂ spanning (first_spot p q) (last_spot p q (lesser_y p q f))
    either false f = ap₂ spanning (first_spot q p) (last_spot q p (not_lesser_y p q f)) ∙ spanning_turned q p

-- the cells of a line of one or two
end_cells : (c : Path) → c.long ≤ 1 → (d : Cell)
    → first_cells c (c.long + 1) d ≡ (is_cell (unmoved_cell (spot_at c 0)) d || is_cell (unmoved_cell (spot_at c c.long)) d)
unfolding first_cells any
end_cells c l d = by (λ (i : ℕ). is_cell (unmoved_cell (spot_at c i)) d) c.long l
  where
    by : (hit : ℕ → Bool) (n : ℕ) → n ≤ 1 → any (n + 1) hit ≡ (hit 0 || hit n)
    by hit zero m = sym (or_self (hit 0))
    by hit (suc zero) m = refl
    by hit (suc (suc n)) m = absurd (omega arith)

pub ends_inked : (k : Shape) (ink : ℕ) (c : Path) → Disjoint k → c.long ≤ 1 → (p q : Spot) → p ≡ spot_at c 0 → q ≡ spot_at c c.long
    → (s : List ℕ) → inked_at k ink (unmoved_cell q) (inked_at k ink (unmoved_cell p) s) ≡ paint k ink (first_cells c (c.long + 1)) s
ends_inked k ink c w l p q e f s =
    inked_paints k ink (unmoved_cell q) (inked_at k ink (unmoved_cell p) s) w
    ∙ ap (paint k ink (is_cell (unmoved_cell q))) (inked_paints k ink (unmoved_cell p) s w)
    ∙ (λ i. paint k ink (is_cell (unmoved_cell (f i))) (paint k ink (is_cell (unmoved_cell (e i))) s))
    ∙ paint_then k ink _ _ s
    ∙ sym (paint_as k ink _ _ s (λ x y a b. end_cells c l (cell_of x y)))
