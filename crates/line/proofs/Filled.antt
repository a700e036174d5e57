-- What the listing leaves in the two lists: the coordinates of a course's cells, and those are the listing's.
use Rattle.std.proofs.Common.{◌≡◌, ℕ, ◌+◌, ◌/◌, ◌<◌, ◌≤◌, Bool, true, false, cond, not, List, length, ℤ, sym, ap, ◌∙◌, arith}
use Rattle.sheet.specs.Inner.{unmoved, Moved}
use Rattle.sheet.specs.declared.Cell.{Cell}
use Rattle.sheet.specs.declared.Spot.{Spot}
use Rattle.sheet.proofs.Limits.{LiftedCell}
use Rattle.line.specs.Rule.{rise, long, nth}
use Rattle.line.specs.Listing.{listed, listed_over}
use Rattle.line.specs.Inner.Course.{stepped, spot_at, lesser_spot, path_between, Runs}
use Rattle.line.specs.Inner.Fixed.{gradient, gone, tally}
use Rattle.line.specs.Inner.Along.{over, number_at, ith_along, course_cell}
use Rattle.line.specs.declared.Path.{Path}
use Rattle.line.proofs.Bridge.{lesser_is, course_cell_lem, course_long, course_runs}
use Rattle.line.proofs.Hops.{exchanged}
use Rattle.line.proofs.Fixed.{tally_rise}
use Rattle.line.proofs.Along.{over_as, over_cells}
use Rattle.line.proofs.Rise.{from_either}

-- the steps along an extent: by the gradient those of the rule, by a whole one for each cell
gone_steps : (t : Bool) (l s n : ℕ) → s ≤ l → l ≤ 32767 → n ≤ l → gone l (cond t (gradient l s) 4294967296) n / 4294967296 ≡ cond t (rise l s n) n
unfolding tally
gone_steps true l s n a b c = tally_rise l s n a b c
gone_steps false l s n a b c = omega arith

-- along one axis of a course, on which the shorter extent lies or not
module _ (shorter : Bool) (m l s g : ℕ) (start : Moved m) (small : s ≤ l) (limit : l ≤ 32767) (e : g ≡ cond shorter (gradient l s) 4294967296) where
  axis_over : (first up : Bool) (z : List ℤ)
      → over (ith_along first up m l g) (l + 1) z
      ≡ over (λ (i : ℕ). unmoved (stepped up m (cond shorter (rise l s (number_at first l i)) (number_at first l i)))) (l + 1) z
  unfolding ith_along
  axis_over first up z =
      over_as (ith_along first up m l g) (λ (i : ℕ). unmoved (stepped up m (cond shorter (rise l s (number_at first l i)) (number_at first l i)))) (l + 1) z
      (λ i p.
      ap (λ (k : ℕ). unmoved (stepped up m k))
      (ap (λ (f : ℕ). gone l f (number_at first l i) / 4294967296) e
      ∙ gone_steps shorter l s (number_at first l i) small limit (from_either first i l (omega arith))))

-- along a course with the gradient f: x, and y
module _ (c : Path) (r : Runs c) (f : ℕ) (e : f ≡ gradient c.long c.short) where
  module _ (g : ℕ) (h : g ≡ cond c.steep f 4294967296) where
    x_slope : g ≡ cond c.steep (gradient c.long c.short) 4294967296
    x_slope = h ∙ ap (λ (z : ℕ). cond c.steep z 4294967296) e

    pub x_over : (first : Bool) (s : List ℤ) → over (ith_along first c.right c.x c.long g) (c.long + 1) s ≡ over (λ (i : ℕ). (course_cell first c i).x) (c.long + 1) s
    unfolding course_cell spot_at
    x_over first s = axis_over c.steep c.x c.long c.short g r.start_x r.shorter r.limit x_slope first c.right s

  module _ (g : ℕ) (h : g ≡ cond c.steep 4294967296 f) where
    y_slope : g ≡ cond (not c.steep) (gradient c.long c.short) 4294967296
    y_slope = h ∙ ap (cond c.steep 4294967296) e ∙ exchanged c.steep 4294967296 (gradient c.long c.short)

    pub y_over : (first : Bool) (s : List ℤ) → over (ith_along first true c.y c.long g) (c.long + 1) s ≡ over (λ (i : ℕ). (course_cell first c i).y) (c.long + 1) s
    unfolding course_cell spot_at
    y_over first s =
        axis_over (not c.steep) c.y c.long c.short g r.start_y r.shorter r.limit y_slope first true s
        ∙ (λ j. over (λ (i : ℕ). unmoved (c.y + sym (exchanged c.steep (number_at first c.long i) (rise c.long c.short (number_at first c.long i))) j)) (c.long + 1) s)

-- the course of two lifted ends, listed from the first named
module _ (a b : Cell) (p q : Spot) (P : LiftedCell a p) (Q : LiftedCell b q) where
  listed_is : (i : ℕ) → i < (path_between p q).long + 1 → course_cell (lesser_spot p q) (path_between p q) i ≡ listed a b i
  unfolding course_cell listed
  listed_is i l =
      course_cell_lem a b p q P Q (number_at (lesser_spot p q) (path_between p q).long i) (omega (arith, from_either (lesser_spot p q) i (path_between p q).long (omega arith), (course_runs a b p q P Q).limit))
      ∙ (λ j. nth a b (number_at (lesser_is a b p q P Q j) (course_long a b p q P Q j) i))

  pub course_listed : (coordinate : Cell → ℤ) (s : List ℤ) → long a b < length s
      → over (λ (i : ℕ). coordinate (course_cell (lesser_spot p q) (path_between p q) i)) ((path_between p q).long + 1) s ≡ listed_over coordinate a b s
  course_listed coordinate s room =
      over_as (λ (i : ℕ). coordinate (course_cell (lesser_spot p q) (path_between p q) i)) (λ (i : ℕ). coordinate (listed a b i)) ((path_between p q).long + 1) s (λ i l. ap coordinate (listed_is i l))
      ∙ ap (λ (n : ℕ). over (λ (i : ℕ). coordinate (listed a b i)) (n + 1) s) (course_long a b p q P Q)
      ∙ over_cells coordinate (listed a b) (long a b + 1) s (omega arith)
