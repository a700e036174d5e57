-- The laws of `blend`, for any degree: what it is of moved values, of equal ones and of greater ones, at the ends, and backwards.
use Rattle.std.proofs.Common.{◌≡◌, ℕ, zero, suc, ◌+◌, ◌-◌, ◌*◌, ◌^◌, ◌≤◌, ℤ, pos, ◌+ℤ◌, ◌*ℤ◌, ◌≤ℤ◌, ap, ◌∙◌, ap₂, mul-le-mul_left, arith}
use native.Mathlib.Nat.{pow-zero, pow-succ'}
use lib.IntN.{+ℤ_comm}
use Rattle.laws.proofs.Parts.{up, dn}
use Rattle.laws.proofs.Ints.{up-+, dn-+, up-*, dn-*, from_≤ℤ, to_≤ℤ, to_≡ℤ}
use Rattle.curve.specs.Rule.{blend}

-- a × z + b × w, of z that is p less q and w that is r less t
pub mixed : (a b : ℕ) (z w : ℤ) (p q r t : ℕ) → up z + q ≡ dn z + p → up w + t ≡ dn w + r
    → up (pos a *ℤ z +ℤ pos b *ℤ w) + (a * q + b * t) ≡ dn (pos a *ℤ z +ℤ pos b *ℤ w) + (a * p + b * r)
mixed a b z w p q r t e f =
    omega
    (arith, up-+ (pos a *ℤ z) (pos b *ℤ w), dn-+ (pos a *ℤ z) (pos b *ℤ w), up-* (pos a) z, dn-* (pos a) z, up-* (pos b) w, dn-* (pos b) w, ap (λ (n : ℕ). a * n) e, ap (λ (n : ℕ). b * n) f)

-- the same blend of natural numbers
pub blendℕ : ℕ → ℕ → ℕ → (ℕ → ℕ) → ℕ
blendℕ zero n i Q = Q 0
blendℕ (suc d) n i Q = (n - i) * blendℕ d n i Q + i * blendℕ d n i (λ (j : ℕ). Q (suc j))

-- of one number at each place it is n^d times that
blend_same : (d n i c : ℕ) → i ≤ n → blendℕ d n i (λ (j : ℕ). c) ≡ c * n ^ d
unfolding blendℕ
blend_same zero n i c l = omega (arith, ap (λ (t : ℕ). c * t) (pow-zero n))
blend_same (suc d) n i c l =
    let h = blend_same d n i c l in
    ap₂ (λ (a b : ℕ). (n - i) * a + i * b) h h ∙ share (n - i) i n (c * n ^ d) (omega arith) ∙ last c n (n ^ d) (n ^ suc d) (pow-succ' n d)
  where
    share : (k i n x : ℕ) → k + i ≡ n → k * x + i * x ≡ n * x
    share k i n x e = omega (arith, ap (λ (t : ℕ). t * x) e)

    last : (c n m t : ℕ) → t ≡ n * m → n * (c * m) ≡ c * t
    last c n m t e = omega (arith, ap (λ (z : ℕ). c * z) e)

-- of values that are Q less c it is the blend of Q less c × n^d
blend_less : (d n i : ℕ) (P : ℕ → ℤ) (Q : ℕ → ℕ) (c : ℕ) → ((j : ℕ) → j ≤ d → up (P j) + c ≡ dn (P j) + Q j)
    → up (blend d n i P) + blendℕ d n i (λ (j : ℕ). c) ≡ dn (blend d n i P) + blendℕ d n i Q
unfolding blend blendℕ
blend_less zero n i P Q c h = h 0 (omega arith)
blend_less (suc d) n i P Q c h =
    mixed (n - i) i (blend d n i P) (blend d n i (λ (j : ℕ). P (suc j))) (blendℕ d n i Q) (blendℕ d n i (λ (j : ℕ). c)) (blendℕ d n i (λ (j : ℕ). Q (suc j))) (blendℕ d n i (λ (j : ℕ). c))
    (blend_less d n i P Q c (λ j l. h j (omega arith))) (blend_less d n i (λ (j : ℕ). P (suc j)) (λ (j : ℕ). Q (suc j)) c (λ j l. h (suc j) (omega arith)))

pub blend_moved : (d n i : ℕ) (P : ℕ → ℤ) (Q : ℕ → ℕ) (c : ℕ) → i ≤ n → ((j : ℕ) → j ≤ d → up (P j) + c ≡ dn (P j) + Q j)
    → up (blend d n i P) + c * n ^ d ≡ dn (blend d n i P) + blendℕ d n i Q
blend_moved d n i P Q c l h = omega (arith, blend_less d n i P Q c h, blend_same d n i c l)

-- the document's formulas, for three values and for four
abbrev pub weigh_three : ℕ → ℕ → ℕ → ℕ → ℕ → ℕ
weigh_three k i p q r = k * k * p + 2 * (i * k) * q + i * i * r

abbrev pub weigh_four : ℕ → ℕ → ℕ → ℕ → ℕ → ℕ → ℕ
weigh_four k i p q r t = k * k * k * p + 3 * (i * (k * k)) * q + 3 * (i * i * k) * r + i * i * i * t

pub weigh_more : (k i p q r t : ℕ) → k * weigh_three k i p q r + i * weigh_three k i q r t ≡ weigh_four k i p q r t
weigh_more k i p q r t = omega arith

pub blend_three : (n i : ℕ) (Q : ℕ → ℕ) → blendℕ 2 n i Q ≡ weigh_three (n - i) i (Q 0) (Q 1) (Q 2)
unfolding blendℕ
blend_three n i Q = formula (n - i) i (Q 0) (Q 1) (Q 2)
  where
    formula : (k i p q r : ℕ) → k * (k * p + i * q) + i * (k * q + i * r) ≡ weigh_three k i p q r
    formula k i p q r = omega arith

pub blend_four : (n i : ℕ) (Q : ℕ → ℕ) → blendℕ 3 n i Q ≡ weigh_four (n - i) i (Q 0) (Q 1) (Q 2) (Q 3)
unfolding blendℕ
blend_four n i Q =
    ap₂ (λ (a b : ℕ). (n - i) * a + i * b) (blend_three n i Q) (blend_three n i (λ (j : ℕ). Q (suc j)))
    ∙ weigh_more (n - i) i (Q 0) (Q 1) (Q 2) (Q 3)

-- a whole multiple, by its parts
up_of : (m : ℕ) (z : ℤ) → up (pos m *ℤ z) ≡ m * up z
up_of m z = omega (arith, up-* (pos m) z)

dn_of : (m : ℕ) (z : ℤ) → dn (pos m *ℤ z) ≡ m * dn z
dn_of m z = omega (arith, dn-* (pos m) z)

-- of one value at each place it is n^d times that
pub blend_one : (d n i : ℕ) (z : ℤ) → i ≤ n → blend d n i (λ (j : ℕ). z) ≡ pos (n ^ d) *ℤ z
blend_one d n i z l =
    to_≡ℤ (blend d n i (λ (j : ℕ). z)) (pos (n ^ d) *ℤ z)
    (omega (arith, blend_moved d n i (λ (j : ℕ). z) (λ (j : ℕ). up z) (dn z) l (λ j m. omega arith), blend_same d n i (up z) l, up_of (n ^ d) z, dn_of (n ^ d) z))

-- greater values make a greater blend
mix_grows : (a b : ℕ) (z w u v : ℤ) → z ≤ℤ u → w ≤ℤ v → (pos a *ℤ z +ℤ pos b *ℤ w) ≤ℤ (pos a *ℤ u +ℤ pos b *ℤ v)
mix_grows a b z w u v h k =
    let e = mixed a b z w (up z) (dn z) (up w) (dn w) (omega arith) (omega arith) in
    let f = mixed a b u v (up u) (dn u) (up v) (dn v) (omega arith) (omega arith) in
    to_≤ℤ (pos a *ℤ z +ℤ pos b *ℤ w) (pos a *ℤ u +ℤ pos b *ℤ v)
    (omega (arith, mul-le-mul_left a (from_≤ℤ z u h), mul-le-mul_left b (from_≤ℤ w v k)))

pub blend_grows : (d n i : ℕ) (P R : ℕ → ℤ) → ((j : ℕ) → j ≤ d → P j ≤ℤ R j) → blend d n i P ≤ℤ blend d n i R
unfolding blend
blend_grows zero n i P R h = h 0 (omega arith)
blend_grows (suc d) n i P R h =
    mix_grows (n - i) i (blend d n i P) (blend d n i (λ (j : ℕ). P (suc j))) (blend d n i R) (blend d n i (λ (j : ℕ). R (suc j)))
    (blend_grows d n i P R (λ j l. h j (omega arith)))
    (blend_grows d n i (λ (j : ℕ). P (suc j)) (λ (j : ℕ). R (suc j)) (λ j l. h (suc j) (omega arith)))

-- the first value at i = 0, the last at i = n
once : (n : ℕ) (z : ℤ) → z ≡ pos (n ^ 0) *ℤ z
once n z = to_≡ℤ z (pos (n ^ 0) *ℤ z) (omega (arith, up_of (n ^ 0) z, dn_of (n ^ 0) z, ap (λ (t : ℕ). t * up z) (pow-zero n), ap (λ (t : ℕ). t * dn z) (pow-zero n)))

times : (d n : ℕ) (z : ℤ) → pos n *ℤ (pos (n ^ d) *ℤ z) ≡ pos (n ^ suc d) *ℤ z
times d n z =
    to_≡ℤ (pos n *ℤ (pos (n ^ d) *ℤ z)) (pos (n ^ suc d) *ℤ z)
    (omega
    (arith, up_of n (pos (n ^ d) *ℤ z), dn_of n (pos (n ^ d) *ℤ z), ap (λ (t : ℕ). n * t) (up_of (n ^ d) z), ap (λ (t : ℕ). n * t) (dn_of (n ^ d) z), up_of (n ^ suc d) z, dn_of (n ^ suc d) z, ap (λ (t : ℕ). t * up z) (pow-succ' n d), ap (λ (t : ℕ). t * dn z) (pow-succ' n d)))

left : (n k : ℕ) (x y : ℤ) → k ≡ n → pos k *ℤ x +ℤ pos 0 *ℤ y ≡ pos n *ℤ x
left n k x y e = rw e (to_≡ℤ (pos n *ℤ x +ℤ pos 0 *ℤ y) (pos n *ℤ x) (omega (arith, up-+ (pos n *ℤ x) (pos 0 *ℤ y), dn-+ (pos n *ℤ x) (pos 0 *ℤ y), up_of 0 y, dn_of 0 y)))

right : (n k : ℕ) (x y : ℤ) → k ≡ 0 → pos k *ℤ x +ℤ pos n *ℤ y ≡ pos n *ℤ y
right n k x y e = rw e (to_≡ℤ (pos 0 *ℤ x +ℤ pos n *ℤ y) (pos n *ℤ y) (omega (arith, up-+ (pos 0 *ℤ x) (pos n *ℤ y), dn-+ (pos 0 *ℤ x) (pos n *ℤ y), up_of 0 x, dn_of 0 x)))

pub blend_first : (d n : ℕ) (P : ℕ → ℤ) → blend d n 0 P ≡ pos (n ^ d) *ℤ P 0
unfolding blend
blend_first zero n P = once n (P 0)
blend_first (suc d) n P =
    left n (n - 0) (blend d n 0 P) (blend d n 0 (λ (j : ℕ). P (suc j))) (omega arith) ∙ ap (λ (z : ℤ). pos n *ℤ z) (blend_first d n P) ∙ times d n (P 0)

pub blend_last : (d n : ℕ) (P : ℕ → ℤ) → blend d n n P ≡ pos (n ^ d) *ℤ P d
unfolding blend
blend_last zero n P = once n (P 0)
blend_last (suc d) n P =
    right n (n - n) (blend d n n P) (blend d n n (λ (j : ℕ). P (suc j))) (omega arith) ∙ ap (λ (z : ℤ). pos n *ℤ z) (blend_last d n (λ (j : ℕ). P (suc j))) ∙ times d n (P (suc d))

-- values that agree
pub blend_as : (d n i : ℕ) (P R : ℕ → ℤ) → ((j : ℕ) → j ≤ d → P j ≡ R j) → blend d n i P ≡ blend d n i R
unfolding blend
blend_as zero n i P R h = h 0 (omega arith)
blend_as (suc d) n i P R h =
    ap₂ (λ (x y : ℤ). pos (n - i) *ℤ x +ℤ pos i *ℤ y)
    (blend_as d n i P R (λ j l. h j (omega arith)))
    (blend_as d n i (λ (j : ℕ). P (suc j)) (λ (j : ℕ). R (suc j)) (λ j l. h (suc j) (omega arith)))

-- the values backwards, from the other end
pub blend_back : (d n i : ℕ) (P : ℕ → ℤ) → i ≤ n → blend d n (n - i) (λ (j : ℕ). P (d - j)) ≡ blend d n i P
unfolding blend
blend_back zero n i P l = let e : 0 - 0 ≡ 0 = omega arith in ap P e
blend_back (suc d) n i P l =
    let k : n - (n - i) ≡ i = omega arith in
    let a = blend_as d n (n - i) (λ (j : ℕ). P (suc d - j)) (λ (j : ℕ). P (suc (d - j))) (λ j m. let e : suc d - j ≡ suc (d - j) = omega arith in ap P e) ∙ blend_back d n i (λ (j : ℕ). P (suc j)) l in
    let b = blend_as d n (n - i) (λ (j : ℕ). P (suc d - suc j)) (λ (j : ℕ). P (d - j)) (λ j m. let e : suc d - suc j ≡ d - j = omega arith in ap P e) ∙ blend_back d n i P l in
    (λ t. pos (k t) *ℤ a t +ℤ pos (n - i) *ℤ b t) ∙ +ℤ_comm (pos i *ℤ blend d n i (λ (j : ℕ). P (suc j))) (pos (n - i) *ℤ blend d n i P)
