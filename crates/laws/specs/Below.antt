-- Of the numbers below n: whether one passes a test, how many do, and what a function gives for each.
use Rattle.std.specs.Prelude.{ℕ, zero, suc, ◌+◌, List, [], ◌∷◌, ◌++◌, Bool, false, cond, ◌||◌}

unfoldable pub any : ℕ → (ℕ → Bool) → Bool
any zero test = false
any (suc n) test = any n test || test n

unfoldable pub count : ℕ → (ℕ → Bool) → ℕ
count zero test = 0
count (suc n) test = count n test + cond (test n) 1 0

unfoldable pub each : ℕ → (ℕ → ℕ) → List ℕ
each zero f = []
each (suc n) f = each n f ++ (f n ∷ [])
