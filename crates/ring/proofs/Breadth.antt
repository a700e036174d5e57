-- How far from its middle the cells of a ring are in some rows, and the rectangle of these rows.
use Prim.Native.Nat.{ℕ, ◌+◌, ◌-◌, ◌*◌, ◌≤◌, ◌<◌, min, max}
use mathlib.Core.Path.{◌≡◌, refl, sym, subst}
use mathlib.Core.Logic.{inl, inr, ⊎_elim}
use mathlib.Core.List.{List}
use mathlib.Core.Bool.{Bool, true, false, cond}
use native.Mathlib.Omega.{arith}
use borrow.Author.Tests.{leb-true, leb-false}
use lib.Dec.{T, leb}
use Rattle.laws.proofs.Products.{lt_or_ge}
use Rattle.laws.proofs.Tests.{is_true, from_true}
use Rattle.sheet.specs.Repaint.{box_of, Holds, Set}
use Rattle.sheet.specs.Inner.{Sheet}
use Rattle.sheet.specs.declared.Shape.{Shape}
use Rattle.sheet.specs.declared.repaint.Rectangle.{Rectangle}
use Rattle.sheet.proofs.Boxes.{box_holds, box_is}
use Rattle.ring.specs.Ring.{ellipse_rule}
use Rattle.ring.specs.Inner.{FrontOf, end_of_row, cells, off, in_rows, spread, Placed}
use Rattle.ring.specs.declared.Ring.{Ring}
use Rattle.ring.proofs.Columns.{ellipse_within}
use Rattle.ring.proofs.Downward.{stairs_from_one}
use Rattle.ring.proofs.Fronts.{Bounds, front_some}
use Rattle.ring.proofs.Rowed.{rows→, →rows, bounds_at}
use Rattle.ring.proofs.Stairs.{Stairs, exchanged, first}

-- a ring has a cell c columns and y rows from its middle
abbrev pub Has : Ring → ℕ → ℕ → Type 0
Has g c y = T (ellipse_rule g.a g.b c y)

-- among its columns on the sheet it has a cell y rows from its middle
abbrev pub Seen : Ring → ℕ → Type 0
Seen g y = (c : ℕ) × (g.least ≤ c) × (c < g.past) × Has g c y

-- in the rows from l to before r, each of which it is seen in, its cells among these columns are n to m off the middle, none left out
pub record Breadth (g : Ring) (l r n m : ℕ) : Type 0 where
  pub seen : (j : ℕ) → l ≤ j → j < r → Seen g (off g.y j)
  pub between : (c j : ℕ) → l ≤ j → j < r → g.least ≤ c → c < g.past → Has g c (off g.y j) → (n ≤ c) × (c ≤ m)
  pub order : n ≤ m
  pub from : g.least ≤ n
  pub to : m < g.past
  pub each : (c : ℕ) → n ≤ c → c ≤ m → (j : ℕ) × (l ≤ j) × (j < r) × Has g c (off g.y j)

stairs : {k : Shape} {g : Ring} → Placed k g → Stairs g.a g.b (ellipse_rule g.a g.b)
stairs {k} {g} P = stairs_from_one g.a g.b P.axis_a.0 P.axis_b.0

-- the columns that are n to m off a middle, where each such distance is that of a column of the sheet
module _ (w x n m : ℕ) (o : n ≤ m) where
  abbrev box : Rectangle
  box = spread w x n m 0 0

  left_held : (i : ℕ) → n ≤ off x i → off x i ≤ m → box.left ≤ i
  left_held i p q = by (leb (65536 + n) x) refl
    where
      by : (t : Bool) → leb (65536 + n) x ≡ t → cond t (x - (65536 + m)) (x + n - 65536) ≤ i
      by true e = omega (arith, leb-true (65536 + n) x e)
      by false e = omega (arith, leb-false (65536 + n) x e)

  right_held : (i : ℕ) → i < w → n ≤ off x i → off x i ≤ m → i < box.right
  right_held i h p q = by (leb (x + n) (65535 + w)) refl
    where
      by : (t : Bool) → leb (x + n) (65535 + w) ≡ t → i < cond t (min (x + m) (65535 + w) - 65535) (x - (n + 65535))
      by true e = omega (arith, leb-true (x + n) (65535 + w) e)
      by false e = omega (arith, leb-false (x + n) (65535 + w) e)

  -- a side of them is that of a column of the sheet, n to m off
  abbrev On : ℕ → Type 0
  On i = (i < w) × (n ≤ off x i) × (off x i ≤ m)

  module _ (each : (c : ℕ) → n ≤ c → c ≤ m → (i : ℕ) × (i < w) × (off x i ≡ c)) where
    left_on : On box.left
    left_on = by (leb (65536 + n) x) refl
      where
        by : (t : Bool) → leb (65536 + n) x ≡ t → On (cond t (x - (65536 + m)) (x + n - 65536))
        by true e =
            let l = leb-true (65536 + n) x e in
            elim (lt_or_ge (x - 65536) m) [
              | inl h ↦ let z = each (x - 65536) (omega arith) (omega arith) in (omega arith, omega arith, omega arith)
              | inr h ↦ let z = each m o (omega arith) in (omega arith, omega arith, omega arith)
            ]
        by false e =
            let l = leb-false (65536 + n) x e in
            let z = each n (omega arith) o in (omega arith, omega arith, omega arith)

    abbrev Last : ℕ → Type 0
    Last i = (1 ≤ i) × On (i - 1)

    right_of : (c : ℕ) → n ≤ c → c ≤ m → x + c ≤ 65535 + w → Last (x + c - 65535)
    right_of c p q h = let z = each c p q in (omega arith, (omega arith, omega arith, omega arith))

    right_on : Last box.right
    right_on = by (leb (x + n) (65535 + w)) refl
      where
        by : (t : Bool) → leb (x + n) (65535 + w) ≡ t → Last (cond t (min (x + m) (65535 + w) - 65535) (x - (n + 65535)))
        by true e =
            let l = leb-true (x + n) (65535 + w) e in
            elim (lt_or_ge (65535 + w - x) m) [
              | inl h ↦
                  let f : min (x + m) (65535 + w) ≡ x + (65535 + w - x) = omega arith in
                  rw f (right_of (65535 + w - x) (omega arith) (omega arith) (omega arith))
              | inr h ↦ let f : min (x + m) (65535 + w) ≡ x + m = omega arith in rw f (right_of m o (omega arith) (omega arith))
            ]
        by false e =
            let l = leb-false (x + n) (65535 + w) e in
            let z = each n (omega arith) o in
            (omega arith, (omega arith, omega arith, omega arith))

-- a column of the sheet has in a row what the ring has there at its distance
module _ (k : Shape) (g : Ring) (l r : ℕ) (b : r ≤ k.height) where
  abbrev rows : Rectangle
  rows = box_of k (cells (in_rows g l r))

  held_at : (i c j : ℕ) → off g.x i ≡ c → i < k.width → l ≤ j → j < r → Has g c (off g.y j) → Holds rows i j
  held_at i c j e w p q t =
      let u = →rows g l r i j p q (subst (λ (d : ℕ). Has g d (off g.y j)) (sym e) t) in
      box_holds k (cells (in_rows g l r)) i j (record { column = w; row = omega arith; marked = is_true _ u })

-- the rectangle of rows by how far from the middle their cells are
module _ (k : Shape) (g : Ring) (P : Placed k g) {s : List ℕ} (S : Sheet k s) (l r n m : ℕ) (o : l < r) (b : r ≤ k.height)
    (B : Breadth g l r n m) where
  -- so each row is held, and each column that is n to m off the middle
  abbrev rows_box : Rectangle
  rows_box = rows k g l r b

  row_held : (j : ℕ) → l ≤ j → j < r → (rows_box.top ≤ j) × (j < rows_box.bottom)
  row_held j p q =
      let c = B.seen j p q in
      let i = P.each c.0 c.1 c.2 in
      let h = held_at k g l r b i.0 c.0 j i.2 i.1 p q c.3 in
      (h.2, h.3)

  column_held : (i : ℕ) → On k.width g.x n m B.order i → (rows_box.left ≤ i) × (i < rows_box.right)
  column_held i h =
      let j = B.each (off g.x i) h.1 h.2 in
      let z = held_at k g l r b i (off g.x i) j.0 refl h.0 j.1 j.2 j.3 in
      (z.0, z.1)

  all_held : (i j : ℕ) → Set k (cells (in_rows g l r)) i j → Holds (spread k.width g.x n m l r) i j
  all_held i j u =
      let z = rows→ g l r i j (from_true _ u.marked) in
      let w = ellipse_within g.a g.b (off g.x i) (off g.y j) z.2 in
      let h : off g.x i < g.past = ⊎_elim (λ d. d) (λ d. absurd (omega (arith, w.0))) (P.far i u.column) in
      let c = B.between (off g.x i) j z.0 z.1 (P.near i u.column) h z.2 in
      let left = left_held k.width g.x n m B.order i c.0 c.1 in
      let right = right_held k.width g.x n m B.order i u.column c.0 c.1 in
      (left, right, z.0, z.1)

  pub breadth_box : rows_box ≡ spread k.width g.x n m l r
  breadth_box =
      let each : (c : ℕ) → n ≤ c → c ≤ m → (i : ℕ) × (i < k.width) × (off g.x i ≡ c) =
      λ c u v. P.each c (omega (arith, B.from)) (omega (arith, B.to)) in
      let i = left_on k.width g.x n m B.order each in
      let j = right_on k.width g.x n m B.order each in
      let left = column_held (spread k.width g.x n m l r).left i in
      let right = column_held ((spread k.width g.x n m l r).right - 1) j.1 in
      let top = row_held l (omega arith) o in
      let bottom = row_held (r - 1) (omega arith) (omega arith) in
      box_is k (cells (in_rows g l r)) (spread k.width g.x n m l r)
      (record { left_low = omega (arith, i.0, S.wide); top_low = omega (arith, S.high) })
      all_held
      (left.0, omega (arith, right.1, j.0), top.0, omega (arith, bottom.1))

-- that of a ring with all its columns, and its middle row, on the sheet
module _ (k : Shape) (g : Ring) (P : Placed k g) {s : List ℕ} (S : Sheet k s) (e : g.whole ≡ true) (l r : ℕ) (b : r ≤ k.height)
    (p : l + 65536 ≤ g.y) (q : g.y < r + 65536) (u : g.y ≤ l + 65536 + g.b) (v : r + 65536 ≤ g.y + g.b + 1) where
  abbrev round : Rectangle
  round = record { left = g.x - 65536 - g.a; top = l; right = g.x - 65536 + g.a + 1; bottom = r }

  both_held : (c j : ℕ) → l ≤ j → j < r → Has g c (off g.y j)
      → Holds (rows k g l r b) (g.x - 65536 - c) j × Holds (rows k g l r b) (g.x - 65536 + c) j
  both_held c j p q t =
      let w = P.whole e in
      let h = (ellipse_within g.a g.b c (off g.y j) t).0 in (
        held_at k g l r b (g.x - 65536 - c) c j (omega arith) (omega arith) p q t,
        held_at k g l r b (g.x - 65536 + c) c j (omega arith) (omega arith) p q t,
      )

  round_row : (j : ℕ) → l ≤ j → j < r → ((rows k g l r b).top ≤ j) × (j < (rows k g l r b).bottom)
  round_row j p q =
      let c = (stairs P).row (off g.y j) (omega arith) in
      let h = (both_held c.0 j p q c.1).0 in
      (h.2, h.3)

  round_holds : (i j : ℕ) → Set k (cells (in_rows g l r)) i j → Holds round i j
  round_holds i j u =
      let w = P.whole e in
      let z = rows→ g l r i j (from_true _ u.marked) in
      let h = (ellipse_within g.a g.b (off g.x i) (off g.y j) z.2).0 in
      (omega arith, omega arith, z.0, z.1)

  pub round_box : rows k g l r b ≡ round
  round_box =
      let w = P.whole e in
      let z : 0 ≡ off g.y (g.y - 65536) = omega arith in
      let tips = both_held g.a (g.y - 65536) (omega arith) (omega arith) (subst (Has g g.a) z (first (stairs P))) in
      let top = round_row l (omega arith) (omega arith) in
      let bottom = round_row (r - 1) (omega arith) (omega arith) in
      box_is k (cells (in_rows g l r)) round (record { left_low = omega (arith, S.wide); top_low = omega (arith, S.high) })
      round_holds (tips.0.0, omega (arith, tips.1.1), top.0, omega (arith, bottom.1))

-- the rows from l to before r are those from y to before z off a middle
pub record Off (m l r y z : ℕ) : Type 0 where
  pub off_in : (j : ℕ) → l ≤ j → j < r → (y ≤ off m j) × (off m j < z)
  pub row_of : (v : ℕ) → y ≤ v → v < z → (j : ℕ) × (l ≤ j) × (j < r) × (off m j ≡ v)

-- an arc: the ring is seen in all these rows, and its fronts beyond the furthest and before the nearest of them are known
module _ (k : Shape) (g : Ring) (P : Placed k g) (l r y z x w : ℕ) (D : Off g.y l r y z) (o : y < z) (t : z ≤ g.b + 1)
    (seen : (v : ℕ) → y ≤ v → v < z → Seen g v) (F : FrontOf g (2 * (z - 1) + 1) x) (G : FrontOf g (2 * y - 1) w) where
  abbrev low : ℕ
  low = end_of_row g.a g.b (z - 1) x

  abbrev high : ℕ
  high = end_of_row g.a g.b y w

  abbrev n : ℕ
  n = max low g.least

  abbrev m : ℕ
  m = min high (g.past - 1)

  first_row : (v : ℕ) × Bounds g.a g.b (z - 1) g.least g.past low (end_of_row g.a g.b (z - 1) v)
  first_row =
      let H = front_some g.a g.b (2 * (z - 1) - 1) g.least g.past (omega (arith, P.some)) in (
        H.0,
        bounds_at g.a g.b (z - 1) g.least g.past x H.0 P.axis_a.0 P.axis_b.0 (omega arith)
            (omega (arith, P.some, P.most)) P.most F H.1,
      )

  last_row : (v : ℕ) × Bounds g.a g.b y g.least g.past (end_of_row g.a g.b y v) high
  last_row =
      let H = front_some g.a g.b (2 * y + 1) g.least g.past (omega (arith, P.some)) in (
        H.0,
        bounds_at g.a g.b y g.least g.past H.0 w P.axis_a.0 P.axis_b.0 (omega arith)
            (omega (arith, P.some, P.most)) P.most H.1 G,
      )

  -- its first cell in the furthest row, and its last in the nearest
  near_cell : (n < g.past) × Has g n (z - 1)
  near_cell =
      let c = seen (z - 1) (omega arith) (omega arith) in
      let B = first_row.1 in
      let u = B.to c.0 c.1 c.2 c.3 in
      let before : n < g.past = omega (arith, c.1, c.2, u.0) in
      (before, B.from n (omega arith) before (omega arith) (omega (arith, c.1, u.0, u.1)))

  far_cell : (g.least ≤ m) × Has g m y
  far_cell =
      let c = seen y (omega arith) o in
      let B = last_row.1 in
      let u = B.to c.0 c.1 c.2 c.3 in
      let after : g.least ≤ m = omega (arith, c.1, c.2, u.1) in
      (after, B.from m after (omega (arith, P.some)) (omega (arith, c.2, u.0, u.1)) (omega arith))

  -- no cell of a row between is before the one or after the other
  in_arc : (c v : ℕ) → y ≤ v → v < z → g.least ≤ c → c < g.past → Has g c v → (n ≤ c) × (c ≤ m)
  in_arc c v p q a b h = (
    elim (lt_or_ge v (z - 1)) [
      | inl u ↦ (exchanged (stairs P)).falls v c (z - 1) n h near_cell.1 u
      | inr u ↦
          let e : v ≡ z - 1 = omega arith in
          let d = first_row.1.to c a b (subst (Has g c) e h) in omega (arith, d.0)
    ],
    elim (lt_or_ge y v) [
      | inl u ↦ (exchanged (stairs P)).falls y m v c far_cell.1 h u
      | inr u ↦
          let e : v ≡ y = omega arith in
          let d = last_row.1.to c a b (subst (Has g c) e h) in omega (arith, d.1)
    ],
  )

  -- and a column between has one: its cell is in none but these rows
  column_in : (c : ℕ) → n ≤ c → c ≤ m → (v : ℕ) × (y ≤ v) × (v < z) × Has g c v
  column_in c p q =
      elim (lt_or_ge n c) [
        | inl u ↦ elim (lt_or_ge c m) [
          | inl h ↦
              let d = (stairs P).column c (omega (arith, P.most)) in
              let e = (stairs P).falls n (z - 1) c d.0 near_cell.1 d.1 u in
              let f = (stairs P).falls c d.0 m y d.1 far_cell.1 h in
              (d.0, f, omega arith, d.1)
          | inr h ↦ let e : m ≡ c = omega arith in (y, omega arith, o, subst (λ (d : ℕ). Has g d y) e far_cell.1)
        ]
        | inr u ↦ let e : n ≡ c = omega arith in (z - 1, omega arith, omega arith, subst (λ (d : ℕ). Has g d (z - 1)) e near_cell.1)
      ]

  pub arc : Breadth g l r n m
  arc =
      record {
        seen = λ j p q. let d = D.off_in j p q in seen (off g.y j) d.0 d.1;
        between = λ c j p q a b h. let d = D.off_in j p q in in_arc c (off g.y j) d.0 d.1 a b h;
        order = omega (arith, in_arc n (z - 1) (omega arith) (omega arith) (omega arith) near_cell.0 near_cell.1);
        from = omega arith;
        to = omega (arith, P.some);
        each = λ c p q.
            let d = column_in c p q in
            let j = D.row_of d.0 d.1 d.2 in
            (j.0, j.1, j.2, subst (Has g c) (sym j.3) d.3);
      }
