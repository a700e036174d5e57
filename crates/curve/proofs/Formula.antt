-- For three and four control values the blend is the document's formula: (n − i)²P0 + 2i(n − i)P1 + i²P2, and
-- (n − i)³P0 + 3i(n − i)²P1 + 3i²(n − i)P2 + i³P3.
use Rattle.std.proofs.Common.{◌≡◌, ℕ, ◌+◌, ◌-◌, ◌*◌, [], ◌∷◌, get_or, ℤ, pos, ◌+ℤ◌, ◌*ℤ◌, ◌∙◌, ap₂, arith}
use Rattle.laws.proofs.Parts.{up, dn}
use Rattle.laws.proofs.Ints.{up-+, dn-+, up-*, dn-*, to_≡ℤ}
use Rattle.curve.specs.Rule.{blend}
use Rattle.curve.proofs.Blend.{mixed, weigh_three, weigh_more}

-- a sum of whole multiples, by its parts: two of them, and one more
two : (a b : ℕ) (p q : ℤ) → up (pos a *ℤ p +ℤ pos b *ℤ q) + (a * dn p + b * dn q) ≡ dn (pos a *ℤ p +ℤ pos b *ℤ q) + (a * up p + b * up q)
two a b p q = mixed a b p q (up p) (dn p) (up q) (dn q) (omega arith) (omega arith)

one_more : (z : ℤ) (c : ℕ) (r : ℤ) (u v : ℕ) → up z + v ≡ dn z + u → up (z +ℤ pos c *ℤ r) + (v + c * dn r) ≡ dn (z +ℤ pos c *ℤ r) + (u + c * up r)
one_more z c r u v e = omega (arith, up-+ z (pos c *ℤ r), dn-+ z (pos c *ℤ r), up-* (pos c) r, dn-* (pos c) r)

three : (a b c : ℕ) (p q r : ℤ)
    → up (pos a *ℤ p +ℤ pos b *ℤ q +ℤ pos c *ℤ r) + (a * dn p + b * dn q + c * dn r)
    ≡ dn (pos a *ℤ p +ℤ pos b *ℤ q +ℤ pos c *ℤ r) + (a * up p + b * up q + c * up r)
three a b c p q r = one_more (pos a *ℤ p +ℤ pos b *ℤ q) c r (a * up p + b * up q) (a * dn p + b * dn q) (two a b p q)

quadratic : (k i : ℕ) (p q r : ℤ)
    → pos k *ℤ (pos k *ℤ p +ℤ pos i *ℤ q) +ℤ pos i *ℤ (pos k *ℤ q +ℤ pos i *ℤ r)
    ≡ pos (k * k) *ℤ p +ℤ pos (2 * (i * k)) *ℤ q +ℤ pos (i * i) *ℤ r
quadratic k i p q r =
    let a = pos k *ℤ p +ℤ pos i *ℤ q in
    let b = pos k *ℤ q +ℤ pos i *ℤ r in
    let left = mixed k i a b (k * up p + i * up q) (k * dn p + i * dn q) (k * up q + i * up r) (k * dn q + i * dn r) (two k i p q) (two k i q r) in
    to_≡ℤ (pos k *ℤ a +ℤ pos i *ℤ b) (pos (k * k) *ℤ p +ℤ pos (2 * (i * k)) *ℤ q +ℤ pos (i * i) *ℤ r)
    (omega (arith, three (k * k) (2 * (i * k)) (i * i) p q r))

same_parts : (x y : ℤ) (u v u' v' : ℕ) → u ≡ u' → v ≡ v' → up x + v ≡ dn x + u → up y + v' ≡ dn y + u' → x ≡ y
same_parts x y u v u' v' e f g h = to_≡ℤ x y (omega arith)

cubic : (k i : ℕ) (p q r t : ℤ)
    → pos k *ℤ (pos (k * k) *ℤ p +ℤ pos (2 * (i * k)) *ℤ q +ℤ pos (i * i) *ℤ r)
    +ℤ pos i *ℤ (pos (k * k) *ℤ q +ℤ pos (2 * (i * k)) *ℤ r +ℤ pos (i * i) *ℤ t)
    ≡ pos (k * k * k) *ℤ p +ℤ pos (3 * (i * (k * k))) *ℤ q +ℤ pos (3 * (i * i * k)) *ℤ r +ℤ pos (i * i * i) *ℤ t
cubic k i p q r t =
    let a = pos (k * k) *ℤ p +ℤ pos (2 * (i * k)) *ℤ q +ℤ pos (i * i) *ℤ r in
    let b = pos (k * k) *ℤ q +ℤ pos (2 * (i * k)) *ℤ r +ℤ pos (i * i) *ℤ t in
    let c = pos (k * k * k) *ℤ p +ℤ pos (3 * (i * (k * k))) *ℤ q +ℤ pos (3 * (i * i * k)) *ℤ r in
    same_parts (pos k *ℤ a +ℤ pos i *ℤ b) (c +ℤ pos (i * i * i) *ℤ t) _ _ _ _
    (weigh_more k i (up p) (up q) (up r) (up t)) (weigh_more k i (dn p) (dn q) (dn r) (dn t))
    (mixed k i a b
    (weigh_three k i (up p) (up q) (up r)) (weigh_three k i (dn p) (dn q) (dn r)) (weigh_three k i (up q) (up r) (up t)) (weigh_three k i (dn q) (dn r) (dn t))
    (three (k * k) (2 * (i * k)) (i * i) p q r) (three (k * k) (2 * (i * k)) (i * i) q r t))
    (one_more c (i * i * i) t _ _ (three (k * k * k) (3 * (i * (k * k))) (3 * (i * i * k)) p q r))

pub blend_formula : (n i : ℕ) (p q r : ℤ)
    → blend 2 n i (λ (j : ℕ). get_or (p ∷ q ∷ r ∷ []) j (pos 0))
    ≡ pos ((n - i) * (n - i)) *ℤ p +ℤ pos (2 * (i * (n - i))) *ℤ q +ℤ pos (i * i) *ℤ r
unfolding blend
blend_formula n i p q r = quadratic (n - i) i p q r

pub cubic_formula : (n i : ℕ) (p q r t : ℤ)
    → blend 3 n i (λ (j : ℕ). get_or (p ∷ q ∷ r ∷ t ∷ []) j (pos 0))
    ≡ pos ((n - i) * (n - i) * (n - i)) *ℤ p +ℤ pos (3 * (i * ((n - i) * (n - i)))) *ℤ q +ℤ pos (3 * (i * i * (n - i))) *ℤ r +ℤ pos (i * i * i) *ℤ t
unfolding blend
cubic_formula n i p q r t =
    ap₂ (λ (x y : ℤ). pos (n - i) *ℤ x +ℤ pos i *ℤ y) (quadratic (n - i) i p q r) (quadratic (n - i) i q r t) ∙ cubic (n - i) i p q r t
