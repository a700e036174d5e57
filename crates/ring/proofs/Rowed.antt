-- Painting a ring row by row, and the rectangle of its rows together.
use Prim.Native.Nat.{ℕ, zero, suc, ◌+◌, ◌-◌, ◌*◌, ◌≤◌, ◌<◌, min}
use mathlib.Core.Path.{◌≡◌, sym, subst, ap₂, ◌∙◌}
use mathlib.Core.Logic.{◌⊎◌, inl, inr, ⊎_elim}
use mathlib.Core.List.{List}
use mathlib.Core.Bool.{Bool, false, ◌&&◌, ◌||◌}
use native.Mathlib.Omega.{arith}
use lib.Dec.{T, leb, ltb, leb→le, le→leb, ltb→lt, lt→ltb}
use lib.IntN.{pos}
use Rattle.laws.proofs.Apart.{apart}
use Rattle.laws.proofs.Ints.{parts}
use Rattle.laws.proofs.Products.{lt_or_ge}
use Rattle.laws.proofs.Tests.{and_l, and_r, and_i, same, is_false}
use Rattle.sheet.specs.Sheet.{paint, cell_of}
use Rattle.sheet.specs.Repaint.{nothing, join, box_of}
use Rattle.sheet.specs.Inner.{unmoved, unmoved_cell}
use Rattle.sheet.specs.declared.Cell.{Cell}
use Rattle.sheet.specs.declared.Shape.{Shape}
use Rattle.sheet.specs.declared.Spot.{Spot}
use Rattle.sheet.specs.declared.repaint.Rectangle.{Rectangle}
use Rattle.sheet.proofs.Boxes.{box_as, box_none, box_then}
use Rattle.sheet.proofs.Paint.{paint_as, paint_none}
use Rattle.ring.specs.Ring.{around, ellipse_rule}
use Rattle.ring.specs.Inner.{Front, FrontOf, end_of_row, cells, off, band, in_ring, in_rows, Placed, Placing}
use Rattle.ring.specs.declared.Ring.{Ring}
use Rattle.ring.proofs.Columns.{ellipse_within}
use Rattle.ring.proofs.Fronts.{Bounds, row_bounds, middle_row, front_risen, front_fallen}
use Rattle.ring.proofs.Tested.{is_either, cells_none, cells_then, band→, →band}

-- the test of a ring's rows, both ways
module _ (g : Ring) (l r i j : ℕ) where
  pub rows→ : T (in_rows g l r i j) → (l ≤ j) × (j < r) × T (in_ring g i j)
  unfolding in_rows
  rows→ t =
      let u = and_l (leb l j && ltb j r) (in_ring g i j) t in
      (leb→le l j (and_l (leb l j) (ltb j r) u), ltb→lt j r (and_r (leb l j) (ltb j r) u), and_r (leb l j && ltb j r) (in_ring g i j) t)

  pub →rows : l ≤ j → j < r → T (in_ring g i j) → T (in_rows g l r i j)
  unfolding in_rows
  →rows p q t = and_i (leb l j && ltb j r) (in_ring g i j) (and_i (leb l j) (ltb j r) (le→leb l j p) (lt→ltb j r q)) t

-- a row is bounded by its two fronts
pub bounds_at : (a b y l r x z : ℕ) → 1 ≤ a → 1 ≤ b → y ≤ b → l ≤ a → r ≤ a + 1
    → Front a b (2 * y + 1) l r x → Front a b (2 * y - 1) l r z → Bounds a b y l r (end_of_row a b y x) (end_of_row a b y z)
bounds_at a b zero l r x z p q k m n F G = middle_row a b l r x z p q m n F G
bounds_at a b (suc j) l r x z p q k m n F G =
    let e : 2 * suc j - 1 ≡ 2 * j + 1 = omega arith in
    row_bounds a b j l r x z p q k m n F (rw e at G)

-- the rows of a ring from `from` on are inked as far as before `row`, where its front at the height v / 2 is x
pub record Inking (k : Shape) (ink : ℕ) (g : Ring) (from to v : ℕ) (s t : List ℕ) (x row : ℕ) : Type 0 where
  pub order : from ≤ row
  pub within : row ≤ to
  pub front : FrontOf g v x
  pub painted : t ≡ paint k ink (cells (in_rows g from row)) s

-- what is sought from one front finds the next, and the two bound the row between them
pub record Bounded (g : Ring) (row low high v x : ℕ) : Type 0 where
  pub bounds : Bounds g.a g.b (off g.y row) g.least g.past low high
  pub next : FrontOf g v x

module _ (k : Shape) (g : Ring) (P : Placed k g) (row x z low high : ℕ) where
  pub rises : row + 65536 < g.y → g.y ≤ row + 65536 + g.b
      → FrontOf g (2 * (g.y - 65536 - row) + 1) x
      → Front g.a g.b (2 * (g.y - 65536 - row) - 1) x g.past z
      → low ≡ end_of_row g.a g.b (g.y - 65536 - row) x → high ≡ end_of_row g.a g.b (g.y - 65536 - row) z
      → Bounded g row low high (2 * (g.y - 65536 - (row + 1)) + 1) z
  rises p q F G d e =
      let y = g.y - 65536 - row in
      let m : off g.y row ≡ y = omega arith in
      let n : 2 * (g.y - 65536 - (row + 1)) + 1 ≡ 2 * y - 1 = omega arith in
      let H : FrontOf g (2 * y - 1) z = front_risen (omega arith) F G in
      record {
        bounds = rw (m, d, e) (bounds_at g.a g.b y g.least g.past x z P.axis_a.0 P.axis_b.0 (omega arith) (omega (arith, P.some, P.most)) P.most F H);
        next = rw n H;
      }

  pub falls : g.y ≤ row + 65536 → row + 65536 ≤ g.y + g.b
      → FrontOf g (2 * (row + 65536 - g.y) - 1) x
      → Front g.a g.b (2 * (row + 65536 - g.y) + 1) g.least x z
      → low ≡ end_of_row g.a g.b (row + 65536 - g.y) z → high ≡ end_of_row g.a g.b (row + 65536 - g.y) x
      → Bounded g row low high (2 * (row + 1 + 65536 - g.y) - 1) z
  falls p q F G d e =
      let y = row + 65536 - g.y in
      let m : off g.y row ≡ y = omega arith in
      let n : 2 * (row + 1 + 65536 - g.y) - 1 ≡ 2 * y + 1 = omega arith in
      let H : FrontOf g (2 * y + 1) z = front_fallen (omega arith) F G in
      record {
        bounds = rw (m, d, e) (bounds_at g.a g.b y g.least g.past z x P.axis_a.0 P.axis_b.0 (omega arith) (omega (arith, P.some, P.most)) P.most H F);
        next = rw n H;
      }

-- no row yet
pub rows_none : (k : Shape) (ink : ℕ) (g : Ring) (l : ℕ) (s : List ℕ) → s ≡ paint k ink (cells (in_rows g l l)) s
rows_none k ink g l s = cells_none k ink (in_rows g l l) s (λ i j a b t. let z = rows→ g l l i j t in omega arith)

-- of no rows nothing is painted, and the rectangle is none
pub no_rows : (k : Shape) (ink : ℕ) (g : Ring) (l r : ℕ) → r ≤ l → (s : List ℕ) (q : Rectangle) → q ≡ nothing
    → (s ≡ paint k ink (cells (in_rows g l r)) s) × (q ≡ box_of k (cells (in_rows g l r)))
no_rows k ink g l r o s q e =
    let none : (i j : ℕ) → i < k.width → j < k.height → in_rows g l r i j ≡ false =
    λ i j _ _. is_false (in_rows g l r i j) (λ t. let z = rows→ g l r i j t in omega arith) in
    (sym (paint_none k ink (cells (in_rows g l r)) s none), e ∙ sym (box_none k (cells (in_rows g l r)) none))

-- one row more, and two parts
module _ (k : Shape) (ink : ℕ) (g : Ring) where
  row_more : Placed k g → (l row low high : ℕ) (s t u : List ℕ) → l ≤ row
      → Bounds g.a g.b (off g.y row) g.least g.past low high
      → t ≡ paint k ink (cells (in_rows g l row)) s → u ≡ paint k ink (cells (band row g.x low high)) t
      → u ≡ paint k ink (cells (in_rows g l (row + 1))) s
  row_more P l row low high s t u o B =
      cells_then k ink (in_rows g l row) (band row g.x low high) (in_rows g l (row + 1)) s t u
      (λ i j a b w. let z = rows→ g l row i j w in →rows g l (row + 1) i j z.0 (omega arith) z.2)
      (λ i j a b w. let z = band→ row g.x low high i j w in →rows g l (row + 1) i j (omega arith) (omega arith) (in_row i j a z.0 z.1 z.2))
      (λ i j a b w.
      let z = rows→ g l (row + 1) i j w in
      elim (lt_or_ge j row) [
        | inl m ↦ inl (→rows g l row i j z.0 m z.2)
        | inr m ↦ inr (of_row i j a (omega arith) z.2)
      ])
    where
      in_row : (i j : ℕ) → i < k.width → j ≡ row → low ≤ off g.x i → off g.x i ≤ high → T (in_ring g i j)
      in_row i j a e p q =
          let h : off g.x i < g.past = ⊎_elim (λ n. n) (λ n. absurd (omega (arith, B.within))) (P.far i a) in
          subst (λ (n : ℕ). T (ellipse_rule g.a g.b (off g.x i) (off g.y n))) (sym e)
          (B.from (off g.x i) (P.near i a) h p q)

      of_row : (i j : ℕ) → i < k.width → j ≡ row → T (in_ring g i j) → T (band row g.x low high i j)
      of_row i j a e t =
          let w = ellipse_within g.a g.b (off g.x i) (off g.y j) t in
          let h : off g.x i < g.past = ⊎_elim (λ n. n) (λ n. absurd (omega (arith, w.0))) (P.far i a) in
          let z = B.to (off g.x i) (P.near i a) h (subst (λ (n : ℕ). T (ellipse_rule g.a g.b (off g.x i) (off g.y n))) e t) in
          →band row g.x low high i j e z.0 z.1

  pub inked_more : Placed k g → {from to v w : ℕ} {s t u : List ℕ} {x z row low high : ℕ} → row < to → Bounded g row low high w z
      → Inking k ink g from to v s t x row → u ≡ paint k ink (cells (band row g.x low high)) t → Inking k ink g from to w s u z (row + 1)
  inked_more P o N D e =
      record {
        order = omega (arith, D.order);
        within = omega arith;
        front = N.next;
        painted = row_more P _ _ _ _ _ _ _ D.order N.bounds D.painted e;
      }

  module _ (l m r : ℕ) (o : l ≤ m) (p : m ≤ r) where
    to_all : (i j : ℕ) → i < k.width → j < k.height → T (in_rows g l m i j) → T (in_rows g l r i j)
    to_all i j a b w = let z = rows→ g l m i j w in →rows g l r i j z.0 (omega arith) z.2

    from_all : (i j : ℕ) → i < k.width → j < k.height → T (in_rows g m r i j) → T (in_rows g l r i j)
    from_all i j a b w = let z = rows→ g m r i j w in →rows g l r i j (omega arith) z.1 z.2

    one_part : (i j : ℕ) → i < k.width → j < k.height → T (in_rows g l r i j) → T (in_rows g l m i j) ⊎ T (in_rows g m r i j)
    one_part i j a b w =
        let z = rows→ g l r i j w in
        elim (lt_or_ge j m) [
          | inl n ↦ inl (→rows g l m i j z.0 n z.2)
          | inr n ↦ inr (→rows g m r i j n z.1 z.2)
        ]

    pub rows_then : (s t u : List ℕ) → t ≡ paint k ink (cells (in_rows g l m)) s → u ≡ paint k ink (cells (in_rows g m r)) t
        → u ≡ paint k ink (cells (in_rows g l r)) s
    rows_then s t u = cells_then k ink (in_rows g l m) (in_rows g m r) (in_rows g l r) s t u to_all from_all one_part

    pub rows_join : box_of k (cells (in_rows g l r)) ≡ join (box_of k (cells (in_rows g l m))) (box_of k (cells (in_rows g m r)))
    rows_join =
        sym (box_as k (λ (c : Cell). cells (in_rows g l m) c || cells (in_rows g m r) c) (cells (in_rows g l r))
        (is_either k (in_rows g l m) (in_rows g m r) (in_rows g l r) to_all from_all one_part))
        ∙ box_then k (cells (in_rows g l m)) (cells (in_rows g m r))

-- a ring on a sheet, and its rows
module _ (k : Shape) (ink : ℕ) (p : Spot) (a b : ℕ) (g : Ring) (N : Placing k p a b g) (s t : List ℕ) (r : Rectangle) where
  away_is : (m i : ℕ) → apart (unmoved m) (pos i) ≡ off m i
  away_is m i = simp parts (omega arith)

  abbrev figure : Cell → Bool
  figure = around (unmoved_cell p) (ellipse_rule a b)

  ring_at : (i j : ℕ) → in_ring g i j ≡ figure (cell_of i j)
  unfolding around
  ring_at i j = rw (N.of_a, N.of_b, N.at_x, N.at_y) (ap₂ (ellipse_rule a b) (sym (away_is p.x i)) (sym (away_is p.y j)))

  -- it is painted, and the rectangle is its
  abbrev Shown : Type 0
  Shown = (t ≡ paint k ink figure s) × (r ≡ box_of k figure)

  -- none of it is on the sheet
  ring_none : ((i j : ℕ) → i < k.width → j < k.height → T (in_ring g i j) → ⊥) → t ≡ s → r ≡ nothing → Shown
  ring_none f d q = (d ∙ sym (paint_none k ink figure s off_it), q ∙ sym (box_none k figure off_it))
    where
      off_it : (i j : ℕ) → i < k.width → j < k.height → figure (cell_of i j) ≡ false
      off_it i j x y = sym (ring_at i j) ∙ is_false (in_ring g i j) (f i j x y)

  -- a cell's row is no further from the middle than the ring's first and last
  near_middle : (i j : ℕ) → T (in_ring g i j) → (g.y ≤ j + 65536 + b) × (j + 65536 ≤ g.y + b)
  near_middle i j u =
      let w : off g.y j ≤ b = rw (sym N.of_b) (ellipse_within g.a g.b (off g.x i) (off g.y j) u).1 in
      (omega arith, omega arith)

  module _ (from to : ℕ) (e : from ≡ g.y - b - 65536) (f : to ≡ min (g.y + b + 1 - 65536) k.height) where
    in_rows_lem : (i j : ℕ) → j < k.height → T (in_ring g i j) → (from ≤ j) × (j < to)
    in_rows_lem i j h u = let w = near_middle i j u in (omega arith, omega arith)

    all_rows : (i j : ℕ) → i < k.width → j < k.height → in_rows g from to i j ≡ figure (cell_of i j)
    all_rows i j _ h =
        same (in_rows g from to i j) (in_ring g i j) (λ u. (rows→ g from to i j u).2)
        (λ u. let w = in_rows_lem i j h u in →rows g from to i j w.0 w.1 u)
        ∙ ring_at i j

    pub rows_are : t ≡ paint k ink (cells (in_rows g from to)) s → r ≡ box_of k (cells (in_rows g from to)) → Shown
    rows_are d q = (
      d ∙ paint_as k ink (cells (in_rows g from to)) figure s all_rows,
      q ∙ box_as k (cells (in_rows g from to)) figure all_rows,
    )

  -- no column of it is on the sheet, or no row
  pub no_column : t ≡ s → r ≡ nothing → a < g.least → Shown
  no_column d q h =
      ring_none
      (λ i j l _ u.
      omega (arith, N.of_a, N.misses (omega (arith, N.of_a)) i l, (ellipse_within g.a g.b (off g.x i) (off g.y j) u).0))
      d q

  pub no_row : (from to : ℕ) → from ≡ g.y - b - 65536 → to ≡ min (g.y + b + 1 - 65536) k.height → t ≡ s → r ≡ nothing → to ≤ from
      → Shown
  no_row from to e f d q h = ring_none (λ i j _ l u. omega (arith, in_rows_lem from to e f i j l u)) d q
