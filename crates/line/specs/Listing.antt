-- Document 01, "Lines": the listing, from the first named end to the second.
use Rattle.std.specs.Prelude.{◌≡◌, ℕ, zero, suc, ◌+◌, ◌-◌, cond, ◌&&◌, List, [], ◌∷◌, ◌++◌, map, length, drop, ℤ, pos, nat_le}
use Rattle.sheet.specs.Sheet.{within_limits}
use Rattle.sheet.specs.Reply.{Answer, done, unless, settled}
use Rattle.sheet.specs.declared.Cell.{Cell}
use Rattle.sheet.specs.declared.refusal.Refusal.TheVariants.{Coordinate, Room}
use Rattle.line.specs.Rule.{lesser, long, nth}

-- the nth cell counted from the first named end
unfoldable pub listed : Cell → Cell → ℕ → Cell
listed a b n = nth a b (cond (lesser a b) n (long a b - n))

-- f 0, .., f (n − 1)
abbrev pub cells_of : (ℕ → Cell) → ℕ → List Cell
cells_of f zero = []
cells_of f (suc n) = f 0 ∷ cells_of (λ (k : ℕ). f (suc k)) n

-- the cells of the line, from a to b
abbrev pub listing : Cell → Cell → List Cell
listing a b = cells_of (listed a b) (long a b + 1)

-- 2, then 5, else 0 and the number listed, for lists of n and m places
unfoldable pub list_answer : ℕ → ℕ → Cell → Cell → Answer
list_answer n m a b =
    unless (within_limits a && within_limits b) Coordinate
    (unless (nat_le (long a b + 1) n && nat_le (long a b + 1) m) Room
    (done (pos (long a b + 1) ∷ [])))

-- one coordinate of each cell, and after the last what stood there
abbrev pub listed_over : (Cell → ℤ) → Cell → Cell → List ℤ → List ℤ
listed_over coordinate a b s = map coordinate (listing a b) ++ drop (long a b + 1) s

-- Listing into two lent lists: the reply is the answer, and the lists afterwards hold the cells, or are untouched by a refusal.
pub record ListsInto (a b : Cell) (xs ys : List ℤ) (reply : Answer) (xs' ys' : List ℤ) : Type 0 where
  pub tells : reply ≡ list_answer (length xs) (length ys) a b
  pub leaves_x : xs' ≡ settled (list_answer (length xs) (length ys) a b) (listed_over (λ (c : Cell). c.x) a b xs) xs
  pub leaves_y : ys' ≡ settled (list_answer (length xs) (length ys) a b) (listed_over (λ (c : Cell). c.y) a b ys) ys
