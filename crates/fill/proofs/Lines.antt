-- A figure with a cell in every column of the sheet, and no two cells further apart in their rows than in their columns,
-- divides the sheet between above and below; with the coordinates exchanged, between left and right. A line is such.
use Prim.Native.Nat.{ℕ, ◌+◌, ◌≤◌, ◌<◌}
use mathlib.Core.Path.{◌≡◌, sym, subst, ap}
use mathlib.Core.Logic.{◌⊎◌, inl, inr}
use mathlib.Core.Bool.{Bool, true, false, ◌&&◌}
use native.Mathlib.Omega.{arith}
use lib.Dec.{T}
use lib.IntN.{ℤ, pos, ◌-ℤ◌}
use lib.Signed.{le_z, lt_z}
use Rattle.laws.proofs.Apart.{apart, apart_is, apart_same, apart_sym, apart_between}
use Rattle.laws.proofs.Parts.{up, dn}
use Rattle.laws.proofs.Ints.{parts, lt_z_true, to_lt_z, le_parts, to_≡ℤ}
use Rattle.laws.proofs.Products.{lt_or_ge}
use Rattle.laws.proofs.Tests.{and_l, and_r, or_e, is_true, is_false, from_true}
use Rattle.sheet.specs.Chain.{wide, tall}
use Rattle.sheet.specs.Sheet.{on_sheet, cell}
use Rattle.sheet.specs.declared.Cell.{Cell}
use Rattle.sheet.specs.declared.Shape.{Shape}
use Rattle.sheet.proofs.Cells.{sheet_cell, on_sheet_lem}
use Rattle.line.specs.Rule.{on_line}
use Rattle.line.proofs.Gentle.{has_cell_at, gentle}
use Rattle.fill.specs.Crossing.{exchange, exchanged, Above, Below, LeftOf, RightOf, spans}
use Rattle.fill.proofs.Sides.{Sides}

record Level (width : ℕ) (figure : Cell → Bool) : Type 0 where
  column : (x : ℕ) → x < width → (y : ℤ) × T (figure (cell (pos x) y))
  gentle : (p q : Cell) → T (figure p) → T (figure q) → tall p q ≤ wide p q

module _ (k : Shape) (figure : Cell → Bool) (l : Level k.width figure) where
  -- from a cell above to one below it is two rows down, less the columns between them
  far : (c d : Cell) → Above figure c → Below figure d → up c.y + dn d.y + 2 ≤ up d.y + dn c.y + wide c d
  far c d p q =
      let h = lt_z_true c.y p.0 p.2 in
      let g = lt_z_true q.0 d.y q.2 in
      let p' = cell c.x p.0 in
      let q' = cell d.x q.0 in
      let n = l.gentle p' q' (from_true (figure p') p.1) (from_true (figure q') q.1) in
      omega (arith, apart_is p.0 q.0)

  -- in one column no two cells are the figure's
  one_row : (c : Cell) (y : ℤ) → T (figure (cell c.x y)) → T (figure c) → apart c.y y ≡ 0
  one_row c y t u = omega (arith, l.gentle c (cell c.x y) u t, apart_same c.x)

  by_column : (c : Cell) → on_sheet k c ≡ true → Above figure c ⊎ Below figure c ⊎ (figure c ≡ true)
  by_column c o =
      let z = sheet_cell k c o in
      let x : pos z.column ≡ c.x = ap (λ (c : Cell). c.x) (sym z.is_cell) in
      let f = l.column z.column z.in_width in
      let y = f.0 in
      let t : figure (cell c.x y) ≡ true = subst (λ (x : ℤ). figure (cell x y) ≡ true) x (is_true _ f.1) in
      elim (lt_or_ge (up c.y + dn y) (up y + dn c.y)) [
        | inl a ↦ inl (y, t, is_true (lt_z c.y y) (to_lt_z c.y y a))
        | inr a ↦
            elim (lt_or_ge (up y + dn c.y) (up c.y + dn y)) [
              | inl b ↦ inr (inl (y, t, is_true (lt_z y c.y) (to_lt_z y c.y b)))
              | inr b ↦ inr (inr (subst (λ (y : ℤ). figure (cell c.x y) ≡ true) (to_≡ℤ y c.y (omega arith)) t))
            ]
      ]

  level_sides : Sides k figure (Above figure) (Below figure)
  level_sides =
      record {
        each = by_column;
        not_both = λ c p q. omega (arith, far c c p q, apart_same c.x);
        not_one = λ c p.
            let h = lt_z_true c.y p.0 p.2 in
            is_false (figure c) (λ u. omega (arith, one_row c p.0 (from_true _ p.1) u, apart_is c.y p.0));
        not_other = λ c q.
            let h = lt_z_true q.0 c.y q.2 in
            is_false (figure c) (λ u. omega (arith, one_row c q.0 (from_true _ q.1) u, apart_is c.y q.0));
        not_beside = λ c d p q n. omega (arith, far c d p q, apart_is c.y d.y);
      }

-- the sheet with the coordinates exchanged
abbrev lying : Shape → Shape
lying k = record { width = k.height; height = k.width; pitch = k.pitch }

lying_on : (k : Shape) (c : Cell) → on_sheet k c ≡ true → on_sheet (lying k) (exchange c) ≡ true
lying_on k c o =
    let z = sheet_cell k c o in
    subst (λ (c : Cell). on_sheet (lying k) (exchange c) ≡ true) (sym z.is_cell)
    (on_sheet_lem (lying k) z.row z.column z.in_height z.in_width)

-- what divides it divides the sheet
upright_sides : (k : Shape) (figure : Cell → Bool)
    → Sides (lying k) (exchanged figure) (Above (exchanged figure)) (Below (exchanged figure))
    → Sides k figure (LeftOf figure) (RightOf figure)
upright_sides k figure s =
    record {
      each = λ c o. s.each (exchange c) (lying_on k c o);
      not_both = λ c. s.not_both (exchange c);
      not_one = λ c. s.not_one (exchange c);
      not_other = λ c. s.not_other (exchange c);
      not_beside = λ c d p q n. s.not_beside (exchange c) (exchange d) p q (omega arith);
    }

-- a place of the sheet is between ends that span it
between : (n : ℕ) (z w : ℤ) → spans n z w ≡ true → (x : ℕ) → x < n → apart z (pos x) + apart (pos x) w ≡ apart z w
between n z w e x l =
    elim (or_e (le_z z (pos 0) && le_z (pos n -ℤ pos 1) w) (le_z w (pos 0) && le_z (pos n -ℤ pos 1) z) (from_true (spans n z w) e)) [
      | inl t ↦ by z w t
      | inr t ↦ omega (arith, by w z t, apart_sym z (pos x), apart_sym (pos x) w, apart_sym z w)
    ]
  where
    by : (z w : ℤ) → T (le_z z (pos 0) && le_z (pos n -ℤ pos 1) w) → apart z (pos x) + apart (pos x) w ≡ apart z w
    by z w t =
        let a = le_parts z (pos 0) (and_l (le_z z (pos 0)) (le_z (pos n -ℤ pos 1) w) t) in
        let b = simp parts at (le_parts (pos n -ℤ pos 1) w (and_r (le_z z (pos 0)) (le_z (pos n -ℤ pos 1) w) t)) in
        apart_between z (pos x) w (omega arith) (omega arith)

-- A line from one side of the sheet to the other, read along an extent that is no shorter than the other.
module _ (k : Shape) (a b : Cell) where
  pub level_line : tall a b ≤ wide a b → spans k.width a.x b.x ≡ true
      → Sides k (on_line a b) (Above (on_line a b)) (Below (on_line a b))
  level_line h e =
      level_sides k (on_line a b)
      (record { column = λ x l. has_cell_at a b false h (pos x) (between k.width a.x b.x e x l); gentle = gentle a b false h })

  pub upright_line : wide a b ≤ tall a b → spans k.height a.y b.y ≡ true
      → Sides k (on_line a b) (LeftOf (on_line a b)) (RightOf (on_line a b))
  upright_line h e =
      upright_sides k (on_line a b)
      (level_sides (lying k) (exchanged (on_line a b))
      (record {
        column = λ y l. has_cell_at a b true h (pos y) (between k.height a.y b.y e y l);
        gentle = λ p q. gentle a b true h (exchange p) (exchange q);
      }))
