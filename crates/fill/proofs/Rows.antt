-- The cells of a row: their places, their neighbours, reaching along it, and how many cells stay open when a run of it gets the boundary ink.
use Prim.Native.Nat.{ℕ, zero, suc, ◌+◌, ◌-◌, ◌*◌, ◌<◌, ◌≤◌}
use mathlib.Core.Path.{◌≡◌, refl, sym, ap, ap₂, ◌∙◌}
use mathlib.Core.List.{List}
use mathlib.Core.Bool.{Bool, not, ◌&&◌}
use native.Mathlib.Omega.{arith}
use native.Mathlib.Decide.{dec_le}
use native.Mathlib.Nat.{mul-le-mul_right, mul_comm}
use borrow.Author.Tests.{eq-eqb, ne_eqb}
use lib.Dec.{eqb}
use lib.ListN.{get_or}
use lib.IntN.{pos, nat_abs, ◌-ℤ◌}
use Rattle.laws.proofs.Below.{count_range}
use Rattle.laws.proofs.Ints.{parts}
use Rattle.sheet.specs.Sheet.{bytes, on_sheet, place, cell_of, cell_at, held, cells_on}
use Rattle.sheet.specs.Inner.{Disjoint}
use Rattle.sheet.specs.declared.Cell.{Cell}
use Rattle.sheet.specs.declared.Shape.{Shape}
use Rattle.sheet.proofs.Cells.{on_sheet_lem, place-cell_at}
use Rattle.sheet.proofs.Paint.{held_cell}
use Rattle.fill.specs.Territory.{Side, Open, Reach, step}
use Rattle.fill.specs.Inner.{InkedRun, spot, Shut, opens}

-- how far apart two columns are, or two rows
far : (u x : ℕ) → nat_abs (pos u -ℤ pos x) ≡ u - x + (x - u)
far u x = simp parts (omega arith)

-- cells one column or one row apart share a side
module _ (x y u v : ℕ) where
  pub side_of : u - x + (x - u) + (v - y + (y - v)) ≡ 1 → Side (cell_of x y) (cell_of u v)
  side_of e = ap₂ ◌+◌ (far u x) (far v y) ∙ e

  pub of_side : Side (cell_of x y) (cell_of u v) → u - x + (x - u) + (v - y + (y - v)) ≡ 1
  of_side e = sym (ap₂ ◌+◌ (far u x) (far v y)) ∙ e

module _ {k : Shape} {b : ℕ} {s : List ℕ} where
  pub open_cell : {x y : ℕ} → x < k.width → y < k.height → (Shut k b s x y → ⊥) → Open k b s (cell_of x y)
  unfolding place
  open_cell {x} {y} l m o = record { on = on_sheet_lem k x y l m; other = o }

  -- reaching along a run of open cells, either way
  module _ {a : Cell} {y l r : ℕ} (on : y < k.height) (inside : r ≤ k.width) (was : (x : ℕ) → l ≤ x → x < r → Shut k b s x y → ⊥) where
    rightward : (x m z : ℕ) → z ≡ x + m → l ≤ x → z < r → Reach k b s a (cell_of x y) → Reach k b s a (cell_of z y)
    rightward x zero z e f g h = let i : z ≡ x = omega arith in rw i h
    rightward x (suc m) z e f g h =
        step (rightward x m (x + m) refl f (omega arith) h) (side_of (x + m) y z y (omega arith)) (open_cell (omega arith) on (was z (omega arith) g))

    leftward : (x m z : ℕ) → z + m ≡ x → l ≤ z → x < r → Reach k b s a (cell_of x y) → Reach k b s a (cell_of z y)
    leftward x zero z e f g h = let i : z ≡ x = omega arith in rw i h
    leftward x (suc m) z e f g h =
        step (leftward x m (z + 1) (omega arith) (omega arith) g h) (side_of (z + 1) y z y (omega arith)) (open_cell (omega arith) on (was z f (omega arith)))

    pub along : (x z : ℕ) → l ≤ x → x < r → l ≤ z → z < r → Reach k b s a (cell_of x y) → Reach k b s a (cell_of z y)
    along x z f g h i R = by (dec_le x z)
      where
        by : Dec (x ≤ z) → Reach k b s a (cell_of z y)
        by (yes u) = rightward x (z - x) z (omega arith) f i R
        by (no u) = leftward x (x - z) z (omega arith) h g R

-- whether a byte is an open cell's
held_open : (k : Shape) (b : ℕ) (s : List ℕ) (n : ℕ)
    → held k (λ (c : Cell). not (eqb (get_or s (place k c) 0) b)) n ≡ (on_sheet k (cell_at k n) && not (eqb (get_or s n 0) b))
unfolding held
held_open k b s n = ap (λ (m : ℕ). on_sheet k (cell_at k n) && not (eqb (get_or s m 0) b)) (place-cell_at k n)

-- a run of open cells that gets the boundary ink: as many are open no more
pub opens_run : {k : Shape} {b y l r : ℕ} {s s' : List ℕ} → Disjoint k → y < k.height → r ≤ k.width → l ≤ r
    → InkedRun b (spot k l y) (spot k r y) s s' → ((x : ℕ) → l ≤ x → x < r → Shut k b s x y → ⊥) → opens k b s' + r ≡ opens k b s + l
unfolding opens cells_on place
opens_run {k} {b} {y} {l} {r} {s} {s'} d on inside order I was =
    omega (
      arith,
      count_range (bytes k) (spot k l y) (spot k r y) (held k (is_open s)) (held k (is_open s')) (omega arith)
          (omega (arith, mul-le-mul_right k.pitch on, mul_comm k.pitch k.height))
          (λ n m o. held_open k b s n ∙ ap (λ (v : ℕ). on_sheet k (cell_at k n) && not (eqb v b)) (sym (I.outside n o)) ∙ sym (held_open k b s' n))
          (λ n u v. at s n u v ∙ ap not (ne_eqb _ b (was' n u v)))
          (λ n u v. at s' n u v ∙ ap not (eq-eqb _ b (I.inside n u v))),
    )
  where
    is_open : List ℕ → Cell → Bool
    is_open t c = not (eqb (get_or t (place k c) 0) b)

    is : (n : ℕ) → spot k l y ≤ n → y * k.pitch + (n - y * k.pitch) ≡ n
    is n u = omega arith

    at : (t : List ℕ) (n : ℕ) → spot k l y ≤ n → n < spot k r y → held k (is_open t) n ≡ not (eqb (get_or t n 0) b)
    at t n u v =
        let e = is n u in
        let h = held_cell k d (is_open t) (n - y * k.pitch) y (omega arith) on in
        rw e at h

    was' : (n : ℕ) → spot k l y ≤ n → n < spot k r y → get_or s n 0 ≡ b → ⊥
    was' n u v e = was (n - y * k.pitch) (omega arith) (omega arith) (ap (λ (m : ℕ). get_or s m 0) (is n u) ∙ e)
