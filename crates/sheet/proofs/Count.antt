-- The laws of `cells_on`, the number of a figure's cells on the sheet.
use Prim.Native.Nat.{ℕ, zero, suc, ◌+◌, ◌-◌, ◌*◌, ◌≤◌, ◌<◌}
use mathlib.Core.Path.{◌≡◌, refl, sym, ap, ap₂, ◌∙◌}
use mathlib.Core.Bool.{Bool, true, false, ◌||◌}
use native.Mathlib.Omega.{arith}
use native.Mathlib.Nat.{add-zero, zero-mul, mul_comm}
use lib.Arith.{digits_mod}
use lib.Dec.{eqb}
use Rattle.laws.specs.Below.{count}
use Rattle.laws.proofs.Below.{count_as, count_most, count_none, count_add, count_more}
use Rattle.laws.proofs.Tests.{halves}
use Rattle.sheet.specs.Sheet.{sized, bytes, sliced, place, cell_of, held, is_cell, cells_on}
use Rattle.sheet.specs.Pitch.{with_pitch}
use Rattle.sheet.specs.Inner.{fits, Disjoint}
use Rattle.sheet.specs.declared.Cell.{Cell}
use Rattle.sheet.specs.declared.Shape.{Shape}
use Rattle.sheet.proofs.Cells.{place_below}
use Rattle.sheet.proofs.Limits.{sides_most, fits_disjoint}
use Rattle.sheet.proofs.Paint.{held_as, held_none, held_then, held_padding, held_cell, held_one}

module _ (k : Shape) where
  -- figures that agree on the sheet have as many cells
  pub cells_as : (f g : Cell → Bool) → ((x y : ℕ) → x < k.width → y < k.height → f (cell_of x y) ≡ g (cell_of x y)) → cells_on k f ≡ cells_on k g
  unfolding cells_on
  cells_as f g h = count_as (bytes k) (held k f) (held k g) (λ n l. held_as k f g h n)

  -- a figure with no cell on the sheet
  pub cells_none : (f : Cell → Bool) → ((x y : ℕ) → x < k.width → y < k.height → f (cell_of x y) ≡ false) → cells_on k f ≡ 0
  unfolding cells_on
  cells_none f h = count_none (bytes k) (held k f) (λ n l. held_none k f h n)

  -- one cell more
  pub cells_more : Disjoint k → (f : Cell → Bool) (x y : ℕ) → x < k.width → y < k.height → f (cell_of x y) ≡ false
      → cells_on k (λ (c : Cell). f c || is_cell (cell_of x y) c) ≡ cells_on k f + 1
  unfolding cells_on
  cells_more w f x y a b e =
      count_as (bytes k) _ (λ (n : ℕ). held k f n || eqb n (place k (cell_of x y)))
      (λ n l. sym (held_then k f (is_cell (cell_of x y)) n) ∙ ap (λ (t : Bool). held k f n || t) (held_one k w x y a b n))
      ∙ count_more (bytes k) (held k f) (place k (cell_of x y)) (place_below k x y (omega arith) b) (held_cell k w f x y a b ∙ e)

-- one row: as many of its bytes as of its cells, and so as many with any pitch
module _ (f : Cell → Bool) where
  row_cells : (k : Shape) → Disjoint k → (y : ℕ) → y < k.height
      → count k.pitch (λ (i : ℕ). held k f (y * k.pitch + i)) ≡ count k.width (λ (i : ℕ). f (cell_of i y))
  unfolding place
  row_cells k w y b =
      let row : ℕ → Bool = λ (i : ℕ). held k f (y * k.pitch + i) in
      let more = k.pitch - k.width in
      let e : k.pitch ≡ k.width + more = omega arith in
      ap (λ (n : ℕ). count n row) e
      ∙ count_add k.width more row
      ∙ ap₂ ◌+◌
      (count_as k.width row (λ (i : ℕ). f (cell_of i y)) (λ i l. held_cell k w f i y l b))
      (count_none more (λ (i : ℕ). row (k.width + i)) (λ i l.
      held_padding k f (y * k.pitch + (k.width + i)) (omega (arith, digits_mod y {m = k.pitch} {r = k.width + i} (omega arith)))))
      ∙ add-zero (count k.width (λ (i : ℕ). f (cell_of i y)))

  rows_cells : (k : Shape) (pitch : ℕ) → Disjoint k → Disjoint (with_pitch k pitch) → (m : ℕ) → m ≤ k.height
      → count (m * k.pitch) (held k f) ≡ count (m * pitch) (held (with_pitch k pitch) f)
  unfolding count
  rows_cells k pitch w v zero l = rw (zero-mul k.pitch, zero-mul pitch) refl
  rows_cells k pitch w v (suc m) l =
      let one : ℕ → ℕ = λ (n : ℕ). m * n + n in
      let a : suc m * k.pitch ≡ one k.pitch = omega arith in
      let b : suc m * pitch ≡ one pitch = omega arith in
      ap (λ (n : ℕ). count n (held k f)) a
      ∙ count_add (m * k.pitch) k.pitch (held k f)
      ∙ ap₂ ◌+◌ (rows_cells k pitch w v m (omega arith)) (row_cells k w m (omega arith) ∙ sym (row_cells (with_pitch k pitch) v m (omega arith)))
      ∙ sym (count_add (m * pitch) pitch (held (with_pitch k pitch) f))
      ∙ sym (ap (λ (n : ℕ). count n (held (with_pitch k pitch) f)) b)

  -- The pitch does not matter to the number of cells.
  pub cells_pitch : (k : Shape) (pitch : ℕ) → Disjoint k → Disjoint (with_pitch k pitch) → cells_on k f ≡ cells_on (with_pitch k pitch) f
  unfolding cells_on
  cells_pitch k pitch w v =
      ap (λ (n : ℕ). count n (held k f)) (mul_comm k.pitch k.height)
      ∙ rows_cells k pitch w v k.height (omega arith)
      ∙ sym (ap (λ (n : ℕ). count n (held (with_pitch k pitch) f)) (mul_comm pitch k.height))

  -- no more than the sheet has
  pub cells_area : (k : Shape) → Disjoint k → cells_on k f ≤ k.width * k.height
  unfolding cells_on
  cells_area k w = omega (arith, cells_pitch k k.width w (omega arith), count_most (bytes (with_pitch k k.width)) (held (with_pitch k k.width) f))

  -- and so no more than 4,096 × 4,096 on any
  pub cells_most : (k : Shape) (n : ℕ) → fits k n ≡ true → cells_on k f ≤ 16777216
  unfolding fits
  cells_most k n e = omega (arith, cells_area k (fits_disjoint k n e), sides_most k (halves (sized k) (sliced k n) e).0)
