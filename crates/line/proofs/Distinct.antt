-- The cells of a line are distinct: no two numbers have one cell.
use Rattle.std.proofs.Common.{◌≡◌, ℕ, Bool, true, false, cond, ℤ, pos, ◌+ℤ◌, ◌-ℤ◌, ap, arith}
use lib.Signed.{le_z}
use Rattle.laws.proofs.Ints.{parts, one_zero, from_≡ℤ}
use Rattle.sheet.specs.declared.Cell.{Cell}
use Rattle.line.specs.Rule.{lesser, long, short, steep, rise, toward, from_lesser, nth}

-- as many steps towards w: the same number of steps
toward_inj : (z w : ℤ) (i j : ℕ) → toward z w i ≡ toward z w j → i ≡ j
toward_inj z w i j e = by (le_z z w) e
  where
    by : (t : Bool) → cond t (z +ℤ pos i) (z -ℤ pos i) ≡ cond t (z +ℤ pos j) (z -ℤ pos j) → i ≡ j
    by true e = let h = simp parts at (from_≡ℤ (z +ℤ pos i) (z +ℤ pos j) e) in omega (arith, one_zero z)
    by false e = let h = simp parts at (from_≡ℤ (z -ℤ pos i) (z -ℤ pos j) e) in omega (arith, one_zero z)

from_lesser_distinct : (a b : Cell) (i j : ℕ) → from_lesser a b i ≡ from_lesser a b j → i ≡ j
unfolding from_lesser
from_lesser_distinct a b i j e = by (steep a b) (ap (λ (c : Cell). c.x) e) (ap (λ (c : Cell). c.y) e)
  where
    across : ℕ → ℕ
    across n = rise (long a b) (short a b) n

    by : (t : Bool) → toward a.x b.x (cond t (across i) i) ≡ toward a.x b.x (cond t (across j) j)
        → toward a.y b.y (cond t i (across i)) ≡ toward a.y b.y (cond t j (across j)) → i ≡ j
    by true p q = toward_inj a.y b.y i j q
    by false p q = toward_inj a.x b.x i j p

pub nth_distinct : (a b : Cell) (i j : ℕ) → nth a b i ≡ nth a b j → i ≡ j
unfolding nth
nth_distinct a b i j e = by (lesser a b) e
  where
    by : (t : Bool) → cond t (from_lesser a b i) (from_lesser b a i) ≡ cond t (from_lesser a b j) (from_lesser b a j) → i ≡ j
    by true e = from_lesser_distinct a b i j e
    by false e = from_lesser_distinct b a i j e
