-- Whole numbers as `omega` reads them: an order or an equation of them is one of the natural numbers `up` and `dn` of each.
use mathlib.Core.Path.{◌≡◌, refl, sym, ap, subst}
use mathlib.Core.Bool.{Bool, true, false, cond, not}
use Prim.Native.Nat.{ℕ, zero, suc, ◌+◌, ◌*◌, ◌-◌, ◌^◌, ◌≤◌, ◌<◌, min, zero-le}
use native.Mathlib.Omega.{arith}
use lib.Dec.{T, eqb→eq, ltb, ltb→lt, nltb→le, leb→le, le→leb, lt→ltb}
use lib.IntN.{ℤ, pos, negsuc, neg_ℤ, nat_abs, sub_ℕ, ◌+ℤ◌, ◌-ℤ◌, ◌*ℤ◌}
use lib.Signed.{le_z, lt_z, non_neg, ◌≤ℤ◌, ◌<ℤ◌}
use mir.Syntax.{Width}
use mir.Val.{SFits, Fits, bits, hbits, to_z, of_z}
use mir.Facts.{to_z-of_z, to_z_pos}
use borrow.Author.Tests.{ltb-true, ltb-false, leb-true, leb-false, eqb-true, eqb-false}
use Rattle.laws.specs.Equal.{eq_z}
use Rattle.laws.proofs.Parts.{up, dn}
use Rattle.laws.proofs.Tests.{is_true, is_false, from_true, eqb_of}

-- from an order or an equation of whole numbers
pub le_parts : (a b : ℤ) → T (le_z a b) → up a + dn b ≤ up b + dn a
le_parts (pos a) (pos b) t = omega (arith, leb→le)
le_parts (pos a) (negsuc b) t = absurd t
le_parts (negsuc a) (pos b) t = omega arith
le_parts (negsuc a) (negsuc b) t = omega (arith, leb→le)

pub lt_parts : (a b : ℤ) → T (lt_z a b) → up a + dn b < up b + dn a
lt_parts (pos a) (pos b) t = omega (arith, ltb→lt)
lt_parts (pos a) (negsuc b) t = absurd t
lt_parts (negsuc a) (pos b) t = omega arith
lt_parts (negsuc a) (negsuc b) t = omega (arith, ltb→lt)

pub from_≤ℤ : (a b : ℤ) → a ≤ℤ b → up a + dn b ≤ up b + dn a
from_≤ℤ a b h = le_parts a b h.le

pub from_<ℤ : (a b : ℤ) → a <ℤ b → up a + dn b < up b + dn a
from_<ℤ a b h = lt_parts a b h.lt

pub from_≡ℤ : (a b : ℤ) → a ≡ b → up a + dn b ≡ up b + dn a
from_≡ℤ a b e = rw e

-- from a test of the code, as a condition leaves it
pub le_z_true : (a b : ℤ) → le_z a b ≡ true → up a + dn b ≤ up b + dn a
le_z_true a b e = le_parts a b (from_true (le_z a b) e)

pub lt_z_true : (a b : ℤ) → lt_z a b ≡ true → up a + dn b < up b + dn a
lt_z_true a b e = lt_parts a b (from_true (lt_z a b) e)

pub le_z_false : (a b : ℤ) → le_z a b ≡ false → up b + dn a < up a + dn b
le_z_false (pos a) (pos b) e = omega (arith, leb-false)
le_z_false (pos a) (negsuc b) e = omega arith
le_z_false (negsuc a) (pos b) e = absurd (subst T e tt)
le_z_false (negsuc a) (negsuc b) e = omega (arith, leb-false)

pub lt_z_false : (a b : ℤ) → lt_z a b ≡ false → up b + dn a ≤ up a + dn b
lt_z_false (pos a) (pos b) e = omega (arith, ltb-false)
lt_z_false (pos a) (negsuc b) e = omega arith
lt_z_false (negsuc a) (pos b) e = absurd (subst T e tt)
lt_z_false (negsuc a) (negsuc b) e = omega (arith, ltb-false)

-- against 0, where both parts are known: `omega` takes the first rule that fits a fact, so these stand first in `ints`
pub ≤ℤ_zero : (a : ℤ) → pos 0 ≤ℤ a → dn a ≡ 0
≤ℤ_zero (pos a) h = refl
≤ℤ_zero (negsuc a) h = absurd h.le

pub le_z_zero : (a : ℤ) → le_z (pos 0) a ≡ true → dn a ≡ 0
le_z_zero (pos a) e = refl
le_z_zero (negsuc a) e = absurd (from_true false e)

pub lt_z_zero : (a : ℤ) → lt_z a (pos 0) ≡ false → dn a ≡ 0
lt_z_zero (pos a) e = refl
lt_z_zero (negsuc a) e = absurd (subst T e tt)

-- to an order or an equation of whole numbers
pub to_le_z : (a b : ℤ) → up a + dn b ≤ up b + dn a → T (le_z a b)
to_le_z (pos a) (pos b) h = le→leb a b (omega arith)
to_le_z (pos a) (negsuc b) h = absurd (omega arith)
to_le_z (negsuc a) (pos b) h = tt
to_le_z (negsuc a) (negsuc b) h = le→leb b a (omega arith)

pub to_lt_z : (a b : ℤ) → up a + dn b < up b + dn a → T (lt_z a b)
to_lt_z (pos a) (pos b) h = lt→ltb a b (omega arith)
to_lt_z (pos a) (negsuc b) h = absurd (omega arith)
to_lt_z (negsuc a) (pos b) h = tt
to_lt_z (negsuc a) (negsuc b) h = lt→ltb b a (omega arith)

pub to_≤ℤ : (a b : ℤ) → up a + dn b ≤ up b + dn a → a ≤ℤ b
to_≤ℤ a b h = record { le = to_le_z a b h }

pub to_<ℤ : (a b : ℤ) → up a + dn b < up b + dn a → a <ℤ b
to_<ℤ a b h = record { lt = to_lt_z a b h }

pub to_≡ℤ : (a b : ℤ) → up a + dn b ≡ up b + dn a → a ≡ b
to_≡ℤ (pos a) (pos b) h = ap pos (omega arith)
to_≡ℤ (pos a) (negsuc b) h = absurd (omega arith)
to_≡ℤ (negsuc a) (pos b) h = absurd (omega arith)
to_≡ℤ (negsuc a) (negsuc b) h = ap negsuc (omega arith)

pub to_non_neg : (a : ℤ) → dn a ≤ up a → T (non_neg a)
to_non_neg (pos a) h = tt
to_non_neg (negsuc a) h = absurd (omega arith)

-- to the value of a test
pub is_le_z : (a b : ℤ) → up a + dn b ≤ up b + dn a → le_z a b ≡ true
is_le_z a b h = is_true (le_z a b) (to_le_z a b h)

pub no_le_z : (a b : ℤ) → up b + dn a < up a + dn b → le_z a b ≡ false
no_le_z a b h = is_false (le_z a b) (λ t. omega (arith, le_parts a b t))

-- a test of equality, both ways
pub eq_z→≡ : (a b : ℤ) → T (eq_z a b) → a ≡ b
eq_z→≡ (pos a) (pos b) t = ap pos (eqb→eq a b t)
eq_z→≡ (pos a) (negsuc b) t = absurd t
eq_z→≡ (negsuc a) (pos b) t = absurd t
eq_z→≡ (negsuc a) (negsuc b) t = ap negsuc (eqb→eq a b t)

pub eq_z_refl : (a : ℤ) → T (eq_z a a)
eq_z_refl (pos a) = eqb_of a a refl
eq_z_refl (negsuc a) = eqb_of a a refl

-- one of the two parts is 0
pub one_zero : (z : ℤ) → min (up z) (dn z) ≡ 0
one_zero (pos n) = omega arith
one_zero (negsuc n) = omega arith

-- the parts of a difference of natural numbers, of a sum, of the other sign, of a product, and the absolute value
cond_ind : (c : Bool) (x y : ℤ) (P : ℤ → Type 0) → (T c → P x) → (T (not c) → P y) → P (cond c x y)
cond_ind true x y P f g = f tt
cond_ind false x y P f g = g tt

pub up_sub : (a b : ℕ) → up (sub_ℕ a b) ≡ a - b
up_sub a b = cond_ind (ltb a b) (negsuc (b - suc a)) (pos (a - b)) (λ z. up z ≡ a - b) (λ t. omega (arith, ltb→lt)) (λ t. refl)

pub dn_sub : (a b : ℕ) → dn (sub_ℕ a b) ≡ b - a
dn_sub a b = cond_ind (ltb a b) (negsuc (b - suc a)) (pos (a - b)) (λ z. dn z ≡ b - a) (λ t. omega (arith, ltb→lt)) (λ t. omega (arith, nltb→le))

pub up-+ : (a b : ℤ) → up (a +ℤ b) ≡ up a + up b - (dn a + dn b)
up-+ (pos a) (pos b) = omega arith
up-+ (pos a) (negsuc b) = omega (arith, up_sub a (suc b))
up-+ (negsuc a) (pos b) = omega (arith, up_sub b (suc a))
up-+ (negsuc a) (negsuc b) = omega arith

pub dn-+ : (a b : ℤ) → dn (a +ℤ b) ≡ dn a + dn b - (up a + up b)
dn-+ (pos a) (pos b) = omega arith
dn-+ (pos a) (negsuc b) = omega (arith, dn_sub a (suc b))
dn-+ (negsuc a) (pos b) = omega (arith, dn_sub b (suc a))
dn-+ (negsuc a) (negsuc b) = omega arith

pub up_neg : (a : ℤ) → up (neg_ℤ a) ≡ dn a
up_neg (pos zero) = refl
up_neg (pos (suc n)) = refl
up_neg (negsuc n) = refl

pub dn_neg : (a : ℤ) → dn (neg_ℤ a) ≡ up a
dn_neg (pos zero) = refl
dn_neg (pos (suc n)) = refl
dn_neg (negsuc n) = refl

pub up-* : (a b : ℤ) → up (a *ℤ b) ≡ up a * up b + dn a * dn b
up-* (pos a) (pos b) = omega arith
up-* (pos a) (negsuc b) = omega (arith, up_neg (pos (a * suc b)))
up-* (negsuc a) (pos b) = omega (arith, up_neg (pos (suc a * b)))
up-* (negsuc a) (negsuc b) = omega arith

pub dn-* : (a b : ℤ) → dn (a *ℤ b) ≡ up a * dn b + dn a * up b
dn-* (pos a) (pos b) = omega arith
dn-* (pos a) (negsuc b) = omega (arith, dn_neg (pos (a * suc b)))
dn-* (negsuc a) (pos b) = omega (arith, dn_neg (pos (suc a * b)))
dn-* (negsuc a) (negsuc b) = omega arith

pub nat_abs_is : (a : ℤ) → nat_abs a ≡ up a + dn a
nat_abs_is (pos n) = omega arith
nat_abs_is (negsuc n) = omega arith

-- a difference of natural numbers that is not below 0
pub pos_sub : (m n : ℕ) → n ≤ m → pos m -ℤ pos n ≡ pos (m - n)
pos_sub m n h = to_≡ℤ (pos m -ℤ pos n) (pos (m - n)) (simp (up-+, dn-+, up_neg, dn_neg) (omega arith))

-- what is known of a signed number z of w bits: the bounds of its parts, and that what the machine reads back from its bits is z
sfits_up : (w : Width) (z : ℤ) → SFits w z → up z < 2 ^ hbits w
sfits_up w (pos n) f = f.sfits
sfits_up w (negsuc n) f = omega (arith, f.sfits)

sfits_dn : (w : Width) (z : ℤ) → SFits w z → dn z ≤ 2 ^ hbits w
sfits_dn w (pos n) f = zero-le
sfits_dn w (negsuc n) f = f.sfits

pub record Known (w : Width) (z : ℤ) : Type 0 where
  pub fits : SFits w z
  pub up_fits : up z < 2 ^ hbits w
  pub dn_fits : dn z ≤ 2 ^ hbits w
  pub up_back : up (to_z w (of_z w z)) ≡ up z
  pub dn_back : dn (to_z w (of_z w z)) ≡ dn z

pub known : {w : Width} {z : ℤ} → SFits w z → Known w z
known {w} {z} f =
    record { fits = f; up_fits = sfits_up w z f; dn_fits = sfits_dn w z f; up_back = ap up (to_z-of_z f); dn_back = ap dn (to_z-of_z f) }

-- a number fits by the bounds of its parts
pub to_sfits : (w : Width) (z : ℤ) → (up z < 2 ^ hbits w) × (dn z ≤ 2 ^ hbits w) → SFits w z
to_sfits w (pos n) h = record { sfits = h.0 }
to_sfits w (negsuc n) h = record { sfits = h.1 }

-- what `omega` and `simp` are handed
pub ruleset ints = (arith, ltb-true, ltb-false, leb-true, leb-false, eqb-true, eqb-false, ≤ℤ_zero, le_z_zero, lt_z_zero, from_≤ℤ, from_<ℤ, from_≡ℤ, le_z_true, le_z_false, lt_z_true, lt_z_false, to_≤ℤ, to_<ℤ, to_≡ℤ, to_non_neg)

pub ruleset back = (to_z-of_z, to_z_pos)

pub ruleset parts = (back, up-+, dn-+, up_sub, dn_sub, up_neg, dn_neg, up-*, dn-*, nat_abs_is)
