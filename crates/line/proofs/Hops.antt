-- From one cell of a course to the next: the byte's place, which moves by a number modulo 2^64.
use Rattle.std.proofs.Common.{◌≡◌, ℕ, ◌+◌, ◌-◌, ◌*◌, ◌%◌, ◌^◌, ◌<◌, ◌≤◌, Bool, true, false, cond, not, refl, ap, ◌∙◌, mod-eq_of_lt, mul-le-mul, arith}
use native.Mathlib.Nat.{add-mod_right}
use Rattle.sheet.specs.declared.Shape.{Shape}
use Rattle.line.specs.Rule.{rise}
use Rattle.line.specs.Inner.Course.{stepped, spot_at}
use Rattle.line.specs.Inner.Span.{On, byte_of, alone_by, both_by}
use Rattle.line.specs.declared.Path.{Path}
use Rattle.sheet.specs.Inner.{Disjoint}

-- a row of the sheet starts below 2^25
pub row_small : (pitch h y : ℕ) → pitch ≤ 8192 → h ≤ 4096 → y < h → y * pitch ≤ 33554432
row_small pitch h y a b l = mul-le-mul {n₁ = y} {m₁ = pitch} {n₂ = 4096} {m₂ = 8192} (omega arith) a

pub exchanged : (t : Bool) (m n : ℕ) → cond t m n ≡ cond (not t) n m
exchanged true m n = refl
exchanged false m n = refl

-- a sum that does not wrap, and one that wraps once
wrap_none : (a g b : ℕ) → a + g ≡ b → b < 2 ^ 64 → (a + g) % 2 ^ 64 ≡ b
wrap_none a g b e p = ap (λ (z : ℕ). z % 2 ^ 64) e ∙ mod-eq_of_lt p

wrap_once : (a g b : ℕ) → a + g ≡ b + 2 ^ 64 → b < 2 ^ 64 → (a + g) % 2 ^ 64 ≡ b
wrap_once a g b e p = ap (λ (z : ℕ). z % 2 ^ 64) e ∙ add-mod_right b (2 ^ 64) ∙ mod-eq_of_lt p

-- row u and column v, and those of the next cell; t: a step along both extents
module _ (p u v u' v' : ℕ) (far : p ≤ 8192) (column : v < p) (column' : v' < p) (small : u' * p ≤ 33554432) where
  hop : (right steep t : Bool)
      → cond right (v + cond steep (cond t 1 0) 1) v ≡ cond right v' (v' + cond steep (cond t 1 0) 1)
      → u + cond steep 1 (cond t 1 0) ≡ u'
      → (u * p + v + cond t (both_by right p) (alone_by right steep p)) % 2 ^ 64 ≡ u' * p + v'
  hop true true true a b = wrap_none (u * p + v) (p + 1) (u' * p + v') (omega (arith, ap (λ (z : ℕ). z * p) b)) (omega arith)
  hop true true false a b = wrap_none (u * p + v) p (u' * p + v') (omega (arith, ap (λ (z : ℕ). z * p) b)) (omega arith)
  hop true false true a b = wrap_none (u * p + v) (p + 1) (u' * p + v') (omega (arith, ap (λ (z : ℕ). z * p) b)) (omega arith)
  hop true false false a b = wrap_none (u * p + v) 1 (u' * p + v') (omega (arith, ap (λ (z : ℕ). z * p) b)) (omega arith)
  hop false true true a b = wrap_none (u * p + v) (p - 1) (u' * p + v') (omega (arith, ap (λ (z : ℕ). z * p) b)) (omega arith)
  hop false true false a b = wrap_none (u * p + v) p (u' * p + v') (omega (arith, ap (λ (z : ℕ). z * p) b)) (omega arith)
  hop false false true a b = wrap_none (u * p + v) (p - 1) (u' * p + v') (omega (arith, ap (λ (z : ℕ). z * p) b)) (omega arith)
  hop false false false a b = wrap_once (u * p + v) 18446744073709551615 (u' * p + v') (omega (arith, ap (λ (z : ℕ). z * p) b)) (omega arith)

-- the columns and the rows of two cells, one n after the other
columns : (right steep t : Bool) (m q q' n : ℕ) → cond t (q + 1) q ≡ q' → 65536 ≤ stepped right m (cond steep q n) → 65536 ≤ stepped right m (cond steep q' (n + 1))
    → cond right (stepped right m (cond steep q n) - 65536 + cond steep (cond t 1 0) 1) (stepped right m (cond steep q n) - 65536)
    ≡ cond right (stepped right m (cond steep q' (n + 1)) - 65536) (stepped right m (cond steep q' (n + 1)) - 65536 + cond steep (cond t 1 0) 1)
columns true true true m q q' n e a b = omega arith
columns true true false m q q' n e a b = omega arith
columns true false t m q q' n e a b = omega arith
columns false true true m q q' n e a b = omega arith
columns false true false m q q' n e a b = omega arith
columns false false t m q q' n e a b = omega arith

rows : (steep t : Bool) (m q q' n : ℕ) → cond t (q + 1) q ≡ q' → 65536 ≤ m + cond steep n q
    → m + cond steep n q - 65536 + cond steep 1 (cond t 1 0) ≡ m + cond steep (n + 1) q' - 65536
rows true t m q q' n e a = omega arith
rows false true m q q' n e a = omega arith
rows false false m q q' n e a = omega arith

module _ (k : Shape) (c : Path) (t : Bool) (n : ℕ) (disjoint : Disjoint k) (far : k.pitch ≤ 8192) (high : k.height ≤ 4096)
    (e : cond t (rise c.long c.short n + 1) (rise c.long c.short n) ≡ rise c.long c.short (n + 1))
    (o : On k (spot_at c n)) (o' : On k (spot_at c (n + 1))) where
  pub byte_hop : (byte_of k (spot_at c n) + cond t (both_by c.right k.pitch) (alone_by c.right c.steep k.pitch)) % 2 ^ 64 ≡ byte_of k (spot_at c (n + 1))
  unfolding spot_at
  byte_hop =
      let p = spot_at c n in
      let q = spot_at c (n + 1) in
      let a : 65536 ≤ p.x = o.left in
      let b : p.x < 65536 + k.width = o.right in
      let a' : 65536 ≤ q.x = o'.left in
      let b' : q.x < 65536 + k.width = o'.right in
      let f : 65536 ≤ p.y = o.top in
      let f' : 65536 ≤ q.y = o'.top in
      let g' : q.y < 65536 + k.height = o'.bottom in
      hop k.pitch (p.y - 65536) (p.x - 65536) (q.y - 65536) (q.x - 65536) far (omega arith) (omega arith)
      (row_small k.pitch k.height (q.y - 65536) far high (omega arith))
      c.right c.steep t
      (columns c.right c.steep t c.x (rise c.long c.short n) (rise c.long c.short (n + 1)) n e a a')
      (rows c.steep t c.y (rise c.long c.short n) (rise c.long c.short (n + 1)) n e f)
