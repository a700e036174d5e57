-- Rounding: the floor is the one whole number between its bounds, also below zero, and greater for a greater number.
use Rattle.std.proofs.Common.{◌≡◌, ℕ, ◌+◌, ◌*◌, ◌/◌, ◌<◌, ◌≤◌, ℤ, pos, negsuc, ◌+ℤ◌, ◌-ℤ◌, ◌*ℤ◌, neg_ℤ, ◌≤ℤ◌, sym, ap, le-div_iff_mul-le, arith}
use Rattle.laws.proofs.Parts.{up, dn}
use Rattle.laws.proofs.Floor.{div_is, div_low, div_high}
use Rattle.laws.proofs.Ints.{up-+, dn-+, up-*, dn-*, up_neg, dn_neg, from_≤ℤ, to_≤ℤ}
use Rattle.curve.specs.Rule.{floor, rounded}

-- q × d ≤ z < (q + 1) × d makes the floor of z / d
pub floor_is : (z : ℤ) (d : ℕ) (q : ℤ) → up q * d + dn z ≤ up z + dn q * d → up z + dn q * d < up q * d + dn z + d → floor z d ≡ q
floor_is (pos a) d (pos b) l h = ap pos (sym (div_is a d b (omega arith) (omega arith)))
floor_is (pos a) d (negsuc b) l h = absurd (omega arith)
floor_is (negsuc a) d (pos b) l h = absurd (omega arith)
floor_is (negsuc a) d (negsuc b) l h = ap negsuc (sym (div_is a d b (omega arith) (omega arith)))

-- the parts of what is rounded
twice_parts : (N : ℤ) (m : ℕ) → up (pos 2 *ℤ N +ℤ pos m) + 2 * dn N ≡ dn (pos 2 *ℤ N +ℤ pos m) + (2 * up N + m)
twice_parts N m = omega (arith, up-+ (pos 2 *ℤ N) (pos m), dn-+ (pos 2 *ℤ N) (pos m), up-* (pos 2) N, dn-* (pos 2) N)

-- the same of q − c
less_parts : (q c : ℕ) → up (pos q -ℤ pos c) + c ≡ dn (pos q -ℤ pos c) + q
less_parts q c = omega (arith, up-+ (pos q) (neg_ℤ (pos c)), dn-+ (pos q) (neg_ℤ (pos c)), up_neg (pos c), dn_neg (pos c))

floor_less : (z : ℤ) (d q c : ℕ) → q * d + dn z ≤ up z + c * d → up z + c * d < q * d + dn z + d → floor z d ≡ pos q -ℤ pos c
floor_less z d q c l h =
    let u = ap (λ (n : ℕ). n * d) (less_parts q c) in
    floor_is z d (pos q -ℤ pos c) (omega arith) (omega arith)

-- a number that is p less c × m, over m
pub rounded_is : (N : ℤ) (m c p : ℕ) → 0 < m → up N + c * m ≡ dn N + p → rounded N m ≡ pos ((2 * p + m) / (2 * m)) -ℤ pos c
rounded_is N m c p l e =
    let low = div_low (2 * p + m) (2 * m) in
    let high = div_high (2 * p + m) (2 * m) (omega arith) in
    let t = twice_parts N m in
    floor_less (pos 2 *ℤ N +ℤ pos m) (2 * m) ((2 * p + m) / (2 * m)) c (omega arith) (omega arith)

-- a whole number is its own
pub rounded_whole : (z : ℤ) (m : ℕ) → 0 < m → rounded (pos m *ℤ z) m ≡ z
rounded_whole z m l =
    let t = twice_parts (pos m *ℤ z) m in
    floor_is (pos 2 *ℤ (pos m *ℤ z) +ℤ pos m) (2 * m) z
    (omega (arith, up-* (pos m) z, dn-* (pos m) z)) (omega (arith, up-* (pos m) z, dn-* (pos m) z))

-- a greater number is rounded to a greater one
div_grows : (a b d : ℕ) → 0 < d → a ≤ b → a / d ≤ b / d
div_grows a b d l h = (le-div_iff_mul-le {k = d} {x = a / d} {y = b} l).1 (omega (arith, div_low a d))

floor_grows : (z w : ℤ) (d : ℕ) → 0 < d → z ≤ℤ w → floor z d ≤ℤ floor w d
floor_grows (pos a) (pos b) d l h = to_≤ℤ (pos (a / d)) (pos (b / d)) (omega (arith, div_grows a b d l (omega (arith, from_≤ℤ (pos a) (pos b) h))))
floor_grows (pos a) (negsuc b) d l h = absurd h.le
floor_grows (negsuc a) (pos b) d l h = record { le = tt }
floor_grows (negsuc a) (negsuc b) d l h =
    to_≤ℤ (negsuc (a / d)) (negsuc (b / d)) (omega (arith, div_grows b a d l (omega (arith, from_≤ℤ (negsuc a) (negsuc b) h))))

pub rounded_grows : (N M : ℤ) (m : ℕ) → 0 < m → N ≤ℤ M → rounded N m ≤ℤ rounded M m
rounded_grows N M m l h =
    floor_grows (pos 2 *ℤ N +ℤ pos m) (pos 2 *ℤ M +ℤ pos m) (2 * m) (omega arith)
    (to_≤ℤ (pos 2 *ℤ N +ℤ pos m) (pos 2 *ℤ M +ℤ pos m) (omega (arith, twice_parts N m, twice_parts M m, from_≤ℤ N M h)))
