-- Document 01, "The sheet", with the pitch of document 02, K5.
use Rattle.std.specs.Prelude.{ℕ, suc, ◌+◌, ◌*◌, ◌/◌, ◌%◌, List, [], ◌∷◌, Bool, cond, ◌&&◌, ◌||◌, leb, eqb, ℤ, pos, neg_ℤ, nat_abs}
use Rattle.std.specs.Int.Signed.{le_z, lt_z}
use Rattle.laws.specs.Below.{count}
use Rattle.laws.specs.Equal.{eq_z}
use Rattle.sheet.specs.declared.Cell.{Cell}
use Rattle.sheet.specs.declared.Shape.{Shape}

-- Width and height are each 1 to 4,096; the pitch is from width to 8,192.
abbrev pub size : ℕ → Bool
size n = leb 1 n && leb n 4096

abbrev pub pitched : ℕ → ℕ → Bool
pitched width pitch = leb width pitch && leb pitch 8192

abbrev pub sized : Shape → Bool
sized k = size k.width && size k.height && pitched k.width k.pitch

-- The slice has exactly pitch × height bytes.
abbrev pub bytes : Shape → ℕ
bytes k = k.pitch * k.height

abbrev pub sliced : Shape → ℕ → Bool
sliced k n = eqb n (bytes k)

-- Cell (x, y) with 0 ≤ x < width and 0 ≤ y < height ..
unfoldable pub on_sheet : Shape → Cell → Bool
on_sheet k c = le_z (pos 0) c.x && lt_z c.x (pos k.width) && le_z (pos 0) c.y && lt_z c.y (pos k.height)

-- .. is byte y × pitch + x.
unfoldable pub place : Shape → Cell → ℕ
place k c = nat_abs c.y * k.pitch + nat_abs c.x

-- the cell of an x and a y; of a column and a row; the cell that byte n is, which is off the sheet where the byte is padding
abbrev pub cell : ℤ → ℤ → Cell
cell x y = record { x = x; y = y }

abbrev pub cell_of : ℕ → ℕ → Cell
cell_of x y = cell (pos x) (pos y)

unfoldable pub cell_at : Shape → ℕ → Cell
cell_at k n = cell_of (n % k.pitch) (n / k.pitch)

-- whether byte n is one of the figure's cells that lie on the sheet
unfoldable pub held : Shape → (Cell → Bool) → ℕ → Bool
held k figure n = on_sheet k (cell_at k n) && figure (cell_at k n)

-- each byte of a list, changed by its place and its value
unfoldable pub by_place : (ℕ → ℕ → ℕ) → List ℕ → List ℕ
by_place f [] = []
by_place f (v ∷ s) = f 0 v ∷ by_place (λ (n : ℕ). f (suc n)) s

-- Drawing a figure with an ink sets each of its cells that lies on the sheet to that ink. All other bytes keep their values.
unfoldable pub paint : Shape → ℕ → (Cell → Bool) → List ℕ → List ℕ
paint k ink figure s = by_place (λ (n v : ℕ). cond (held k figure n) ink v) s

-- the number of a figure's cells on the sheet
unfoldable pub cells_on : Shape → (Cell → Bool) → ℕ
cells_on k figure = count (bytes k) (held k figure)

-- Coordinates are −16,384 to 16,383.
unfoldable pub coordinate : ℤ → Bool
coordinate z = le_z (neg_ℤ (pos 16384)) z && le_z z (pos 16383)

unfoldable pub within_limits : Cell → Bool
within_limits c = coordinate c.x && coordinate c.y

-- A semi-axis is 0 to 16,383, and 0 only where the other is 0 too (document 02, K10); a circle's radius is both its semi-axes.
unfoldable pub semi_axis : ℕ → ℕ → Bool
semi_axis n other = leb n 16383 && (leb 1 n || eqb other 0)

abbrev pub axes : ℕ → ℕ → Bool
axes a b = semi_axis a b && semi_axis b a

-- A curve is split into n = 2^s pieces, s from 0 to 6.
abbrev pub split : ℕ → Bool
split s = leb s 6

-- the figure of one cell
unfoldable pub is_cell : Cell → Cell → Bool
is_cell c d = eq_z d.x c.x && eq_z d.y c.y
