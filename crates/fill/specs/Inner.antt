-- What the inner functions promise each other: of the sheet's bytes s, the work slice q and the number t of pieces that it holds, before and after.
use Rattle.std.specs.Prelude.{ℕ, zero, suc, ◌+◌, ◌-◌, ◌*◌, ◌/◌, ◌%◌, ◌<◌, ◌≤◌, ◌≡◌, List, Bool, true, false, cond, not, ◌&&◌, eqb, ℤ, pos, nat_abs, length, get_or, Option, Some, None, Result, Ok, Err}
use Rattle.std.specs.Int.Signed.{le_z, lt_z}
use Rattle.sheet.specs.Sheet.{place, cell_of, cells_on, paint}
use Rattle.sheet.specs.Repaint.{Set}
use Rattle.sheet.specs.Reply.{Answer, count_answer, is_done}
use Rattle.sheet.specs.Inner.{Sheet}
use Rattle.sheet.specs.declared.Cell.{Cell}
use Rattle.sheet.specs.declared.Shape.{Shape}
use Rattle.sheet.specs.declared.refusal.Refusal.{Refusal}
use Rattle.fill.specs.declared.Amount.{Amount}
use Rattle.fill.specs.Territory.{Reach, Territory}
use Rattle.fill.specs.Fill.{Fills}

-- a number as a column or a row of the sheet, where it is one
unfoldable pub index_of : ℤ → ℕ → Option ℕ
index_of z size = cond (le_z (pos 0) z && lt_z z (pos size)) (Some (nat_abs z)) None

-- a search ahead: the first place from `from` on that has the ink, where `has` is asked, or has it not; `to`, if there is none before it
pub record Ahead (has : Bool) (ink from to : ℕ) (s : List ℕ) (r : ℕ) : Type 0 where
  pub order : from ≤ r
  pub within : r ≤ to
  pub passed : (n : ℕ) → from ≤ n → n < r → eqb (get_or s n 0) ink ≡ not has
  pub stop : r < to → eqb (get_or s r 0) ink ≡ has

-- a search back: the first place of those up to `to` that do not have the ink; `from`, if they begin no later
pub record Back (ink from to : ℕ) (s : List ℕ) (l : ℕ) : Type 0 where
  pub order : l ≤ to
  pub within : from ≤ l
  pub passed : (n : ℕ) → l ≤ n → n < to → eqb (get_or s n 0) ink ≡ false
  pub stop : (n : ℕ) → from ≤ n → suc n ≡ l → eqb (get_or s n 0) ink ≡ true

-- the places from l to before r got the ink, and no other changed
pub record InkedRun (ink l r : ℕ) (s s' : List ℕ) : Type 0 where
  pub size : length s' ≡ length s
  pub inside : (n : ℕ) → l ≤ n → n < r → get_or s' n 0 ≡ ink
  pub outside : (n : ℕ) → ((l ≤ n) × (n < r) → ⊥) → get_or s' n 0 ≡ get_or s n 0

-- a piece of a row, at most 256 cells from column l to before r, as one number, and back
abbrev pub piece_of : ℕ → ℕ → ℕ → ℕ
piece_of row l r = row * 1048576 + l * 256 + (r - l - 1)

abbrev pub row_of : ℕ → ℕ
row_of e = e / 1048576

abbrev pub left_of : ℕ → ℕ
left_of e = e / 256 % 4096

abbrev pub right_of : ℕ → ℕ
right_of e = e / 256 % 4096 + e % 256 + 1

-- what holds of every column of a piece
abbrev pub Throughout : ℕ → (ℕ → Type 0) → Type 0
Throughout e P = (x : ℕ) → left_of e ≤ x → x < right_of e → P x

-- how many cells the first t pieces have
unfoldable pub total : List ℕ → ℕ → ℕ
total q zero = 0
total q (suc t) = total q t + (get_or q t 0 % 256 + 1)

-- a piece of the row y from l to r
pub record Within (y l r e : ℕ) : Type 0 where
  pub row : row_of e ≡ y
  pub low : l ≤ left_of e
  pub high : right_of e ≤ r

-- the cells of row y from l to r were queued
pub record Queued (y l r : ℕ) (q : List ℕ) (t : ℕ) (q' : List ℕ) (t' : ℕ) : Type 0 where
  pub size : length q' ≡ length q
  pub more : t ≤ t'
  pub few : t' + l ≤ t + r
  pub front : (j : ℕ) → j < t → get_or q' j 0 ≡ get_or q j 0
  pub within : (j : ℕ) → t ≤ j → j < t' → Within y l r (get_or q' j 0)
  pub covers : (x : ℕ) → l ≤ x → x < r → (j : ℕ) × (t ≤ j) × (j < t') × (left_of (get_or q' j 0) ≤ x) × (x < right_of (get_or q' j 0))
  pub number : total q' t' + l ≡ total q t + r

-- the place of column x in row y; whether it has the boundary ink b
abbrev pub spot : Shape → ℕ → ℕ → ℕ
spot k x y = y * k.pitch + x

abbrev pub Shut : Shape → ℕ → List ℕ → ℕ → ℕ → Type 0
Shut k b s x y = get_or s (spot k x y) 0 ≡ b

-- how many cells of the sheet do not have the boundary ink
unfoldable pub opens : Shape → ℕ → List ℕ → ℕ
opens k b s = cells_on k (λ (c : Cell). not (eqb (get_or s (place k c) 0) b))

-- a sheet, and a place for each piece that may come
pub record Ready (k : Shape) (b : ℕ) (s q : List ℕ) (t : ℕ) : Type 0 where
  pub sheet : Sheet k s
  pub room : t + opens k b s ≤ length q

-- cell (x, y) is reached from a on the sheet s0 as it was lent, has the boundary ink by now, and so have its neighbours in the row
pub record Reached (k : Shape) (b : ℕ) (a : Cell) (s0 s : List ℕ) (x y : ℕ) : Type 0 where
  pub reach : Reach k b s0 a (cell_of x y)
  pub marked : Shut k b s x y
  pub left : (u : ℕ) → suc u ≡ x → Shut k b s u y
  pub right : suc x < k.width → Shut k b s (suc x) y

-- the queue of a fill from the cell a: the bytes differ from those lent just where its pieces are, and there they have the boundary ink
pub record Queue (k : Shape) (b : ℕ) (a : Cell) (s0 s q : List ℕ) (t : ℕ) : Type 0 where
  pub kept : (n : ℕ) → get_or s0 n 0 ≡ b → get_or s n 0 ≡ b
  pub same : (n : ℕ) → (get_or s n 0 ≡ b → ⊥) → get_or s n 0 ≡ get_or s0 n 0
  pub into : (j : ℕ) → j < t → Throughout (get_or q j 0) (λ x. Reached k b a s0 s x (row_of (get_or q j 0)))
  pub from : (n : ℕ) → (get_or s0 n 0 ≡ b → ⊥) → get_or s n 0 ≡ b
      → (j : ℕ) × (x : ℕ) × (j < t) × (left_of (get_or q j 0) ≤ x) × (x < right_of (get_or q j 0)) × (n ≡ spot k x (row_of (get_or q j 0)))
  pub number : total q t + opens k b s ≡ opens k b s0

-- a piece that lies on the sheet
abbrev pub OnSheet : Shape → ℕ → Type 0
OnSheet k e = (row_of e < k.height) × (right_of e ≤ k.width)

-- Runs of open cells got the boundary ink and were queued, none or some; the queue of a fill of which H holds is so again.
pub record Grown (H : List ℕ → Cell → Type 0) (k : Shape) (b : ℕ) (s q : List ℕ) (t : ℕ) (s' q' : List ℕ) (t' : ℕ) : Type 0 where
  pub sheet_size : length s' ≡ length s
  pub queue_size : length q' ≡ length q
  pub rest : t' + opens k b s' ≤ t + opens k b s
  pub more : t ≤ t'
  pub keep : (n : ℕ) → get_or s n 0 ≡ b → get_or s' n 0 ≡ b
  pub front : (j : ℕ) → j < t → get_or q' j 0 ≡ get_or q j 0
  pub on : (j : ℕ) → t ≤ j → j < t' → OnSheet k (get_or q' j 0)
  pub law : (s0 : List ℕ) (a : Cell) → H s0 a → Queue k b a s0 s q t → Queue k b a s0 s' q' t'

-- where cell (x, y) is open, it is reached; and so each from column l to before r of a row of the sheet
abbrev pub IfOpen : Shape → ℕ → ℕ → ℕ → List ℕ → Cell → Type 0
IfOpen k b x y s0 a = (Shut k b s0 x y → ⊥) → Reach k b s0 a (cell_of x y)

abbrev pub AllIfOpen : Shape → ℕ → ℕ → ℕ → ℕ → List ℕ → Cell → Type 0
AllIfOpen k b y l r s0 a = y < k.height → (x : ℕ) → l ≤ x → x < r → IfOpen k b x y s0 a

-- the run of open cells at (x, y) was taken; it ends before column r
pub record Takes (k : Shape) (b x y : ℕ) (s q : List ℕ) (t : ℕ) (s' q' : List ℕ) (t' r : ℕ) : Type 0 where
  pub grown : Grown (IfOpen k b x y) k b s q t s' q' t'
  pub some : x < r
  pub shut : (u : ℕ) → x ≤ u → u < r → Shut k b s' u y

-- every open cell of row y from column l to before r was taken, with its run, where the sheet has that row
pub record Scanned (k : Shape) (b y l r : ℕ) (s q : List ℕ) (t : ℕ) (s' q' : List ℕ) (t' : ℕ) : Type 0 where
  pub grown : Grown (AllIfOpen k b y l r) k b s q t s' q' t'
  pub shut : y < k.height → (x : ℕ) → l ≤ x → x < r → Shut k b s' x y

-- the row above a row, 4,096 where there is none
unfoldable pub row_above : ℕ → ℕ
row_above y = cond (eqb y 0) 4096 (y - 1)

-- what is looked at in turn: the start at (x, y), and then the rows above and below piece after piece
pub data Strips (q : List ℕ) (x y turn row l r : ℕ) : Type 0 where
  start : turn ≡ 0 → row ≡ y → l ≡ x → r ≡ x + 1 → Strips q x y turn row l r
  above : (j : ℕ) → turn ≡ 2 * j + 1 → row ≡ row_above (row_of (get_or q j 0)) → l ≡ left_of (get_or q j 0) → r ≡ right_of (get_or q j 0)
      → Strips q x y turn row l r
  below : (j : ℕ) → turn ≡ 2 * j + 2 → row ≡ row_of (get_or q j 0) + 1 → l ≡ left_of (get_or q j 0) → r ≡ right_of (get_or q j 0)
      → Strips q x y turn row l r

-- the first t pieces lie on the sheet
abbrev pub AllOnSheet : Shape → List ℕ → ℕ → Type 0
AllOnSheet k q t = (j : ℕ) → j < t → OnSheet k (get_or q j 0)

-- from the start at (x, y), as many turns were taken: so much was looked at, and is shut
pub record Walked (k : Shape) (b x y turns : ℕ) (s q s' q' : List ℕ) (t' : ℕ) : Type 0 where
  pub grown : Grown (IfOpen k b x y) k b s q 0 s' q' t'
  pub on : AllOnSheet k q' t'
  pub due : turns ≤ 2 * t' + 1
  pub begun : 0 < turns → Shut k b s' x y
  pub above : (j : ℕ) → 2 * j + 1 < turns → (v : ℕ) → suc v ≡ row_of (get_or q' j 0)
      → Throughout (get_or q' j 0) (λ u. Shut k b s' u v)
  pub below : (j : ℕ) → 2 * j + 2 < turns → suc (row_of (get_or q' j 0)) < k.height
      → Throughout (get_or q' j 0) (λ u. Shut k b s' u (suc (row_of (get_or q' j 0))))

-- the first t pieces have the ink, and no other byte changed
pub record Settled (pitch ink : ℕ) (q : List ℕ) (t : ℕ) (s s' : List ℕ) : Type 0 where
  pub size : length s' ≡ length s
  pub inside : (j : ℕ) → j < t → Throughout (get_or q j 0) (λ x. get_or s' (row_of (get_or q j 0) * pitch + x) 0 ≡ ink)
  pub outside : (n : ℕ)
      → ((j : ℕ) → j < t → Throughout (get_or q j 0) (λ x. n ≡ row_of (get_or q j 0) * pitch + x → ⊥))
      → get_or s' n 0 ≡ get_or s n 0

-- the territory of cell (x, y) has its ink, and n cells: a test tells which
pub record Flooded (k : Shape) (b ink x y : ℕ) (s : List ℕ) (n : ℕ) (s' : List ℕ) : Type 0 where
  pub test : Cell → Bool
  pub decides : Territory k b s (cell_of x y) test
  pub number : n ≡ cells_on k test
  pub paints : s' ≡ paint k ink test s

-- each of the first t pieces has a cell of the figure in its row, and each of the figure's cells on the sheet is in the row of one
pub record InRows (k : Shape) (figure : Cell → Bool) (q : List ℕ) (t : ℕ) : Type 0 where
  pub some : (j : ℕ) → j < t → (x : ℕ) × Set k figure x (row_of (get_or q j 0))
  pub all : (x y : ℕ) → Set k figure x y → (j : ℕ) × (j < t) × (row_of (get_or q j 0) ≡ y)

-- the territory of cell (x, y) has its ink, and n cells, and is in the rows of t pieces
pub record FloodedIn (k : Shape) (b ink x y : ℕ) (s : List ℕ) (n : ℕ) (s' q' : List ℕ) (t' : ℕ) : Type 0 where
  pub flooded : Flooded k b ink x y s n s'
  pub rows : InRows k flooded.test q' t'

-- the rows of the first t pieces: from top to before bottom, and from 4,096 to 0 where there is none
pub record Spans (q : List ℕ) (t top bottom : ℕ) : Type 0 where
  pub none : t ≡ 0 → (top ≡ 4096) × (bottom ≡ 0)
  pub between : (j : ℕ) → j < t → (top ≤ row_of (get_or q j 0)) × (row_of (get_or q j 0) < bottom)
  pub first : 0 < t → (j : ℕ) × (j < t) × (row_of (get_or q j 0) ≡ top)
  pub last : 0 < t → (j : ℕ) × (j < t) × (row_of (get_or q j 0) + 1 ≡ bottom)

-- what is told of a territory, and its pieces: none, where it is refused
abbrev pub amount_answer : Amount → Answer
amount_answer a = count_answer a.cells

abbrev pub pieces_of : Result Amount Refusal → ℕ
pieces_of (Ok a) = a.pieces
pieces_of (Err r) = 0

-- a fill, and the pieces in whose rows it is
pub record FillsPieces (k : Shape) (start : Cell) (boundary ink places : ℕ)
    (lent : List ℕ) (reply : Answer) (bytes q : List ℕ) (t : ℕ) : Type 0 where
  pub fills : Fills k start boundary ink places lent reply bytes
  pub rows : InRows k fills.territory q t
  pub few : t ≤ length q
  pub high : 0 < t → k.height ≤ 4096
  pub refused : is_done reply ≡ false → t ≡ 0
