-- What only the inner functions promise each other.
use Rattle.std.specs.Prelude.{ℕ, ◌+◌, ◌≡◌, List, cond, not, ◌&&◌, eqb, leb, ltb, length, get_or}
use Rattle.laws.specs.Below.{count}
use Rattle.sheet.specs.Sheet.{by_place}
use Rattle.sheet.specs.Inner.{Sheet}
use Rattle.sheet.specs.declared.Shape.{Shape}
use Rattle.tally.specs.Tally.{row_count}

-- how many of the n bytes from one on are nonzero
unfoldable pub inked : List ℕ → ℕ → ℕ → ℕ
inked s at n = count n (λ (i : ℕ). not (eqb (get_or s (at + i) 0) 0))

-- a sheet, and a list with one place for each row
pub record Beside (k : Shape) (s rows : List ℕ) : Type 0 where
  pub sheet : Sheet k s
  pub places : length rows ≡ k.height

-- the list with the numbers of the rows from one to before another
unfoldable pub counted_rows : Shape → List ℕ → ℕ → ℕ → List ℕ → List ℕ
counted_rows k s from to rows = by_place (λ (y v : ℕ). cond (leb from y && ltb y to) (row_count k s y) v) rows
