-- How far apart two whole numbers are.
use Prim.Native.Nat.{ℕ, ◌+◌, ◌-◌, ◌≤◌}
use mathlib.Core.Path.{◌≡◌}
use native.Mathlib.Omega.{arith}
use lib.IntN.{ℤ, pos, nat_abs, ◌+ℤ◌, ◌-ℤ◌}
use Rattle.laws.proofs.Parts.{up, dn}
use Rattle.laws.proofs.Ints.{parts, one_zero, to_≡ℤ}

abbrev pub apart : ℤ → ℤ → ℕ
apart a b = nat_abs (b -ℤ a)

pub apart_is : (a b : ℤ) → apart a b ≡ (up b + dn a - (up a + dn b)) + (up a + dn b - (up b + dn a))
apart_is a b = simp parts (omega arith)

pub apart_sym : (a b : ℤ) → apart a b ≡ apart b a
apart_sym a b = omega (arith, apart_is a b, apart_is b a)

pub apart_same : (a : ℤ) → apart a a ≡ 0
apart_same a = omega (arith, apart_is a a)

pub apart_via : (a c b : ℤ) → apart a b ≤ apart a c + apart c b
apart_via a c b = omega (arith, apart_is a b, apart_is a c, apart_is c b)

-- and just so far where c stands between them
pub apart_between : (a c b : ℤ) → up a + dn c ≤ up c + dn a → up c + dn b ≤ up b + dn c → apart a c + apart c b ≡ apart a b
apart_between a c b h l = omega (arith, apart_is a b, apart_is a c, apart_is c b)

pub apart_zero : (a b : ℤ) → apart a b ≡ 0 → a ≡ b
apart_zero a b e = to_≡ℤ a b (omega (arith, apart_is a b))

-- v more is |v| away
pub apart_plus : (a v : ℤ) → apart a (a +ℤ v) ≡ nat_abs v
apart_plus a v = simp parts (omega (arith, one_zero a, one_zero v))

-- n more and n less, as `omega` reads them
pub plus_is : (a : ℤ) (n : ℕ) → up (a +ℤ pos n) + dn a ≡ up a + n + dn (a +ℤ pos n)
plus_is a n = simp parts (omega (arith, one_zero a))

pub minus_is : (a : ℤ) (n : ℕ) → up (a -ℤ pos n) + n + dn a ≡ up a + dn (a -ℤ pos n)
minus_is a n = simp parts (omega (arith, one_zero a))

-- how far apart m more and n more are, and m less and n less
pub plus_apart : (a : ℤ) (m n : ℕ) → apart (a +ℤ pos m) (a +ℤ pos n) ≡ (m - n) + (n - m)
plus_apart a m n = omega (arith, apart_is (a +ℤ pos m) (a +ℤ pos n), plus_is a m, plus_is a n)

pub minus_apart : (a : ℤ) (m n : ℕ) → apart (a -ℤ pos m) (a -ℤ pos n) ≡ (m - n) + (n - m)
minus_apart a m n = omega (arith, apart_is (a -ℤ pos m) (a -ℤ pos n), minus_is a m, minus_is a n)
