-- Document 01, "Metres": the cell of a float.
use Rattle.std.specs.Prelude.{ℕ, zero, suc, [], ◌∷◌, Bool, cond, ◌&&◌, ℤ, pos, ◌+ℤ◌, ◌-ℤ◌, Float, Result, Ok, Err}
use Rattle.std.specs.Float.{binary64}
use Rattle.std.specs.Float.Ieee.{of_int, le, lt}
use Rattle.sheet.specs.Reply.{Answer, done}
use Rattle.sheet.specs.declared.refusal.Refusal.{Refusal}
use Rattle.sheet.specs.declared.refusal.Refusal.TheVariants.{NoCell}

-- k ≤ q and q < k + 1 as float comparisons
unfoldable pub is_cell_of : Float → ℤ → Bool
is_cell_of q k = le (of_int binary64 k) q && lt q (of_int binary64 (k +ℤ pos 1))

-- the whole number j places up from the least coordinate, −16,384
abbrev pub coordinate_from_least : ℕ → ℤ
coordinate_from_least j = pos j -ℤ pos 16384

-- the one of the n least coordinates that passes a test; number 7 is given exactly if none does
unfoldable pub found_among : ℕ → (ℤ → Bool) → Result ℤ Refusal
found_among zero test = Err NoCell
found_among (suc n) test = cond (test (coordinate_from_least n)) (Ok (coordinate_from_least n)) (found_among n test)

-- The cell of the float q is the whole number k with k ≤ q and q < k + 1, in −16,384 to 16,383.
unfoldable pub found_cell : Float → Result ℤ Refusal
found_cell q = found_among 32768 (is_cell_of q)

-- what is told of a cell: 0 and k
abbrev pub coordinate_answer : ℤ → Answer
coordinate_answer k = done (k ∷ [])
