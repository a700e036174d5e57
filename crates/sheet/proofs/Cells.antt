-- The cells of a sheet and their bytes.
use Prim.Native.Nat.{ℕ, ◌+◌, ◌*◌, ◌<◌}
use mathlib.Core.Path.{◌≡◌, subst}
use mathlib.Core.Bool.{true, ◌&&◌}
use native.Mathlib.Omega.{arith}
use native.Mathlib.Nat.{div-add-mod', mul_comm}
use lib.Arith.{digits_lt, digits_div, digits_mod}
use lib.Dec.{T, leb, ltb, ltb→lt, lt→ltb, le→leb}
use lib.IntN.{pos}
use lib.Signed.{le_z, lt_z}
use Rattle.laws.specs.Equal.{eq_z}
use Rattle.laws.proofs.Parts.{up}
use Rattle.laws.proofs.Ints.{le_parts, lt_parts, to_≡ℤ, one_zero, eq_z→≡, eq_z_refl}
use Rattle.laws.proofs.Tests.{and_l, and_r, and_i, is_true, from_true}
use Rattle.sheet.specs.Sheet.{bytes, on_sheet, place, cell_of, cell_at, is_cell}
use Rattle.sheet.specs.declared.Cell.{Cell}
use Rattle.sheet.specs.declared.Shape.{Shape}

-- a column and a row of the sheet are a cell of it
pub on_sheet_lem : (k : Shape) (x y : ℕ) → x < k.width → y < k.height → on_sheet k (cell_of x y) ≡ true
unfolding on_sheet
on_sheet_lem k x y a b =
    let p : T (leb 0 x) = le→leb 0 x (omega arith) in
    let q : T (ltb x k.width) = lt→ltb x k.width a in
    let r : T (leb 0 y) = le→leb 0 y (omega arith) in
    let t : T (ltb y k.height) = lt→ltb y k.height b in
    is_true (leb 0 x && ltb x k.width && leb 0 y && ltb y k.height) (search and_i)

-- and each of its cells is such
pub record OnSheet (k : Shape) (c : Cell) : Type 0 where
  pub column : ℕ
  pub row : ℕ
  pub is_cell : c ≡ cell_of column row
  pub in_width : column < k.width
  pub in_height : row < k.height

pub sheet_cell : (k : Shape) (c : Cell) → on_sheet k c ≡ true → OnSheet k c
unfolding on_sheet
sheet_cell k c e =
    let t : T (le_z (pos 0) c.x && lt_z c.x (pos k.width) && le_z (pos 0) c.y && lt_z c.y (pos k.height)) = from_true (on_sheet k c) e in
    let a : T (le_z (pos 0) c.x) = search (and_l, and_r) in
    let b : T (lt_z c.x (pos k.width)) = search (and_l, and_r) in
    let l : T (le_z (pos 0) c.y) = search (and_l, and_r) in
    let h : T (lt_z c.y (pos k.height)) = search (and_l, and_r) in
    let p = le_parts (pos 0) c.x a in
    let q = le_parts (pos 0) c.y l in
    let u : c.x ≡ pos (up c.x) = to_≡ℤ c.x (pos (up c.x)) (omega (arith, one_zero c.x)) in
    let v : c.y ≡ pos (up c.y) = to_≡ℤ c.y (pos (up c.y)) (omega (arith, one_zero c.y)) in
    record {
      column = up c.x;
      row = up c.y;
      is_cell = λ i. record { x = u i; y = v i };
      in_width = omega (arith, lt_parts c.x (pos k.width) b, one_zero c.x);
      in_height = omega (arith, lt_parts c.y (pos k.height) h, one_zero c.y);
    }

-- a column and a row of a cell on the sheet
pub in_sheet : (k : Shape) (x y : ℕ) → on_sheet k (cell_of x y) ≡ true → (x < k.width) × (y < k.height)
unfolding on_sheet
in_sheet k x y e =
    let t : T (leb 0 x && ltb x k.width && leb 0 y && ltb y k.height) = from_true (on_sheet k (cell_of x y)) e in
    (search (ltb→lt, and_l, and_r), search (ltb→lt, and_l, and_r))

-- one cell is the other
pub is_cell→ : (c d : Cell) → T (is_cell c d) → d ≡ c
unfolding is_cell
is_cell→ c d t =
    let p = eq_z→≡ d.x c.x (and_l (eq_z d.x c.x) (eq_z d.y c.y) t) in
    let q = eq_z→≡ d.y c.y (and_r (eq_z d.x c.x) (eq_z d.y c.y) t) in
    λ i. record { x = p i; y = q i }

pub is_cell_refl : (c : Cell) → T (is_cell c c)
unfolding is_cell
is_cell_refl c = and_i (eq_z c.x c.x) (eq_z c.y c.y) (eq_z_refl c.x) (eq_z_refl c.y)

-- the byte of a cell is that cell's, and no byte but its own is a cell's
pub cell_at-place : (k : Shape) (x y : ℕ) → x < k.pitch → cell_at k (place k (cell_of x y)) ≡ cell_of x y
unfolding cell_at place
cell_at-place k x y l = λ i. record { x = pos (digits_mod y l i); y = pos (digits_div y l i) }

pub place-cell_at : (k : Shape) (n : ℕ) → place k (cell_at k n) ≡ n
unfolding cell_at place
place-cell_at k n = div-add-mod' n k.pitch

-- the byte of a cell of the sheet is one of the sheet's
pub place_below : (k : Shape) (x y : ℕ) → x < k.pitch → y < k.height → place k (cell_of x y) < bytes k
unfolding place
place_below k x y a b = subst (λ (n : ℕ). y * k.pitch + x < n) (mul_comm k.height k.pitch) (digits_lt b a)
