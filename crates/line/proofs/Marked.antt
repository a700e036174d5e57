-- Painting and counting along a course: spots off the sheet add nothing, a spot on it adds one byte and one cell.
use Rattle.std.proofs.Common.{◌≡◌, ℕ, zero, suc, ◌+◌, ◌-◌, ◌<◌, ◌≤◌, Bool, true, false, cond, ◌||◌, T, List, set, sym, refl, ap, ◌∙◌, ⊎_elim, add-zero, arith}
use Rattle.laws.specs.Below.{any}
use Rattle.laws.proofs.Below.{any→, any_at, any_more}
use Rattle.laws.proofs.Products.{lt_or_ge}
use Rattle.laws.proofs.Tests.{same, is_false}
use Rattle.sheet.specs.Sheet.{cell_of, is_cell, paint, cells_on}
use Rattle.sheet.specs.Inner.{unmoved_cell, Disjoint}
use Rattle.sheet.specs.declared.Cell.{Cell}
use Rattle.sheet.specs.declared.Shape.{Shape}
use Rattle.sheet.specs.declared.Spot.{Spot}
use Rattle.sheet.proofs.Limits.{unmoved_cell_lem}
use Rattle.sheet.proofs.Paint.{paint_as, paint_none, paint_then}
use Rattle.sheet.proofs.Count.{cells_as, cells_none, cells_more}
use Rattle.sheet.proofs.Marks.{spot→, mark_on, inked_paints}
use Rattle.line.specs.Rule.{rise}
use Rattle.line.specs.Inner.Course.{stepped, spot_at, Runs, first_cells}
use Rattle.line.specs.Inner.Span.{On, byte_of}
use Rattle.line.specs.declared.Path.{Path}

module _ (k : Shape) (c : Path) where
  -- a spot that is a cell of the sheet is on it
  pub is_on : (p : Spot) (x y : ℕ) → x < k.width → y < k.height → T (is_cell (unmoved_cell p) (cell_of x y)) → On k p
  is_on p x y a b t =
      let e = spot→ p x y t in
      record { left = omega arith; top = omega arith; right = omega arith; bottom = omega arith }

  -- spots off the sheet add no cell
  pub same_cells : (n m : ℕ) → n ≤ m → ((i : ℕ) → n ≤ i → i < m → On k (spot_at c i) → ⊥)
      → (x y : ℕ) → x < k.width → y < k.height → first_cells c n (cell_of x y) ≡ first_cells c m (cell_of x y)
  unfolding first_cells
  same_cells n m l off x y a b =
      let hit : ℕ → Bool = λ (i : ℕ). is_cell (unmoved_cell (spot_at c i)) (cell_of x y) in
      same (any n hit) (any m hit)
      (λ t. let f = any→ n hit t in any_at m hit f.at (omega (arith, f.below)) f.passes)
      (λ t.
      let f = any→ m hit t in
      ⊎_elim
      (λ (u : f.at < n). any_at n hit f.at u f.passes)
      (λ (u : n ≤ f.at). absurd (off f.at u f.below (is_on (spot_at c f.at) x y a b f.passes)))
      (lt_or_ge f.at n))

  -- one spot more
  more_cells : (n : ℕ) (d : Cell) → first_cells c (n + 1) d ≡ (first_cells c n d || is_cell (unmoved_cell (spot_at c n)) d)
  unfolding first_cells
  more_cells n d = any_more n (λ (i : ℕ). is_cell (unmoved_cell (spot_at c i)) d)

  no_cells : (d : Cell) → first_cells c 0 d ≡ false
  unfolding first_cells any
  no_cells d = refl

  pub paint_more : Disjoint k → (ink : ℕ) (s : List ℕ) (n : ℕ) → On k (spot_at c n)
      → set (paint k ink (first_cells c n) s) (byte_of k (spot_at c n)) ink ≡ paint k ink (first_cells c (n + 1)) s
  paint_more w ink s n o =
      mark_on k (spot_at c n) ink (paint k ink (first_cells c n) s) o.left o.top (omega (arith, o.left, o.right)) (omega (arith, o.top, o.bottom))
      ∙ inked_paints k ink (unmoved_cell (spot_at c n)) (paint k ink (first_cells c n) s) w
      ∙ paint_then k ink (first_cells c n) (is_cell (unmoved_cell (spot_at c n))) s
      ∙ sym (paint_as k ink _ _ s (λ x y a b. more_cells n (cell_of x y)))

  pub paint_before : (ink : ℕ) (s : List ℕ) (n : ℕ) → ((i : ℕ) → i < n → On k (spot_at c i) → ⊥) → s ≡ paint k ink (first_cells c n) s
  paint_before ink s n off =
      sym
      (paint_none k ink (first_cells c n) s (λ x y a b.
      sym (same_cells 0 n (omega arith) (λ i u v. off i v) x y a b) ∙ no_cells (cell_of x y)))

  pub paint_after : (ink : ℕ) (s : List ℕ) (n m : ℕ) → n ≤ m → ((i : ℕ) → n ≤ i → i < m → On k (spot_at c i) → ⊥)
      → paint k ink (first_cells c n) s ≡ paint k ink (first_cells c m) s
  paint_after ink s n m l off = paint_as k ink _ _ s (same_cells n m l off)

-- no spot of a course comes twice
spot_once : (c : Path) → Runs c → (i j : ℕ) → i ≤ c.long → j ≤ c.long → (spot_at c i).x ≡ (spot_at c j).x → (spot_at c i).y ≡ (spot_at c j).y → i ≡ j
unfolding spot_at
spot_once c r i j a b p q = by c.steep c.right p q
  where
    by : (steep right : Bool)
        → stepped right c.x (cond steep (rise c.long c.short i) i) ≡ stepped right c.x (cond steep (rise c.long c.short j) j)
        → c.y + cond steep i (rise c.long c.short i) ≡ c.y + cond steep j (rise c.long c.short j)
        → i ≡ j
    by true right p q = omega arith
    by false true p q = omega arith
    by false false p q = omega (arith, r.limit, r.start_x.least)

module _ (k : Shape) (w : Disjoint k) (c : Path) (r : Runs c) where
  cells_one : (n : ℕ) → n ≤ c.long → On k (spot_at c n) → cells_on k (first_cells c (n + 1)) ≡ cells_on k (first_cells c n) + 1
  unfolding first_cells
  cells_one n l o =
      let p = spot_at c n in
      let e = unmoved_cell_lem p o.left o.top in
      let hit : ℕ → Bool = λ (i : ℕ). is_cell (unmoved_cell (spot_at c i)) (cell_of (p.x - 65536) (p.y - 65536)) in
      let u : p.x - 65536 < k.width = omega (arith, o.left, o.right) in
      let v : p.y - 65536 < k.height = omega (arith, o.top, o.bottom) in
      cells_as k _ (λ (d : Cell). first_cells c n d || is_cell (cell_of (p.x - 65536) (p.y - 65536)) d)
      (λ x y a b. more_cells k c n (cell_of x y) ∙ ap (λ (d : Cell). first_cells c n (cell_of x y) || is_cell d (cell_of x y)) e)
      ∙ cells_more k w (first_cells c n) (p.x - 65536) (p.y - 65536) u v
      (is_false (any n hit) (λ t.
      let f = any→ n hit t in
      let g = spot→ (spot_at c f.at) (p.x - 65536) (p.y - 65536) f.passes in
      let a : f.at ≡ n = spot_once c r f.at n (omega (arith, f.below)) l (omega (arith, o.left)) (omega (arith, o.top)) in
      omega (arith, f.below)))

  -- as many cells as there are spots on the sheet
  pub cells_range : (first d : ℕ) → first + d ≤ c.long + 1 → ((i : ℕ) → i < first → On k (spot_at c i) → ⊥)
      → ((i : ℕ) → first ≤ i → i < first + d → On k (spot_at c i)) → cells_on k (first_cells c (first + d)) ≡ d
  cells_range first zero l off on =
      ap (λ (n : ℕ). cells_on k (first_cells c n)) (add-zero first)
      ∙ cells_none k (first_cells c first) (λ x y a b. sym (same_cells k c 0 first (omega arith) (λ i u v. off i v) x y a b) ∙ no_cells k c (cell_of x y))
  cells_range first (suc d) l off on =
      let e : first + suc d ≡ first + d + 1 = omega arith in
      let h = cells_range first d (omega arith) off (λ i u v. on i u (omega arith)) in
      ap (λ (n : ℕ). cells_on k (first_cells c n)) e
      ∙ cells_one (first + d) (omega arith) (on (first + d) (omega arith) (omega arith))
      ∙ omega arith
