-- One offset from a centre, as a rule.
use Prim.Native.Nat.{ℕ}
use mathlib.Core.Path.{◌≡◌}
use mathlib.Core.Bool.{Bool, ◌&&◌}
use lib.Dec.{T, eqb, eqb→eq}
use Rattle.laws.proofs.Tests.{and_l, and_r, and_i, eqb_of}

-- the offset (x, y) alone
unfoldable pub is_offset : ℕ → ℕ → ℕ → ℕ → Bool
is_offset x y u v = eqb u x && eqb v y

-- both ways
pub offset→ : (x y u v : ℕ) → T (is_offset x y u v) → (u ≡ x) × (v ≡ y)
unfolding is_offset
offset→ x y u v t = (search (eqb→eq, and_l), search (eqb→eq, and_r))

pub →offset : (x y u v : ℕ) → u ≡ x → v ≡ y → T (is_offset x y u v)
unfolding is_offset
→offset x y u v p q = search (and_i, eqb_of)
