-- The steps along the shorter extent in parts of 2^32.
use Rattle.std.specs.Prelude.{◌≡◌, ℕ, ◌+◌, ◌*◌, ◌/◌, ◌<◌, ◌≤◌}
use Rattle.line.specs.Rule.{rise}

-- the shorter extent over the longer, rounded down
unfoldable pub gradient : ℕ → ℕ → ℕ
gradient l s = s * 4294967295 / l

-- what n steps of f come to, with a half and a little more
abbrev pub gone : ℕ → ℕ → ℕ → ℕ
gone l f n = n * f + (2147483648 + 2 * l)

-- of the gradient: the whole part is `rise l s n`
unfoldable pub tally : ℕ → ℕ → ℕ → ℕ
tally l s n = gone l (gradient l s) n

-- with `start` parts in hand at the cell `first`, k steps of f come to the rise of the kth cell after it
pub record Climbs (l s first start f : ℕ) : Type 0 where
  pub in_hand : start < 4294967296
  pub step : f < 4294967296
  pub rises : (k : ℕ) → first + k ≤ l → rise l s first + (start + k * f) / 4294967296 ≡ rise l s (first + k)
