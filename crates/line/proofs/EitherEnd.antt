-- The two ends of a line: either may be named first, and the rule gives the same cells.
use Rattle.std.proofs.Common.{◌≡◌, ℕ, ◌+◌, ◌-◌, ◌≤◌, Bool, true, false, cond, ◌&&◌, ◌||◌, T, ltb, ℤ, sym, refl, subst, true≢false, arith}
use lib.Signed.{lt_z, le_z}
use Rattle.laws.specs.Equal.{eq_z}
use Rattle.laws.proofs.Apart.{apart_sym, apart_same}
use Rattle.laws.proofs.Parts.{up, dn}
use Rattle.laws.proofs.Ints.{le_parts, to_≡ℤ, from_≡ℤ, lt_z_true, lt_z_false, le_z_false, eq_z→≡, eq_z_refl}
use Rattle.laws.proofs.Tests.{and_l, and_r, is_true, from_true}
use Rattle.sheet.specs.Chain.{wide, tall}
use Rattle.sheet.specs.declared.Cell.{Cell}
use Rattle.line.specs.Rule.{lesser, longer, shorter, long, short, steep, from_lesser, nth}
use Rattle.line.proofs.Bridge.{shorter_le}

-- the extents are the same
pub wide_sym : (a b : Cell) → wide b a ≡ wide a b
wide_sym a b = apart_sym b.x a.x

pub tall_sym : (a b : Cell) → tall b a ≡ tall a b
tall_sym a b = apart_sym b.y a.y

pub long_sym : (a b : Cell) → long b a ≡ long a b
long_sym a b = λ i. longer (wide_sym a b i) (tall_sym a b i)

pub short_sym : (a b : Cell) → short b a ≡ short a b
short_sym a b = λ i. shorter (wide_sym a b i) (tall_sym a b i)

pub steep_sym : (a b : Cell) → steep b a ≡ steep a b
steep_sym a b = λ i. ltb (wide_sym a b i) (tall_sym a b i)

-- the shorter is no longer than the longer
pub short_long : (a b : Cell) → short a b ≤ long a b
short_long a b = shorter_le (wide a b) (tall a b)

-- and both are 0 where the ends are one cell
one_long : (a b : Cell) → a ≡ b → long a b ≡ 0
one_long a b e = subst (λ (c : Cell). long a c ≡ 0) e (λ i. longer (apart_same a.x i) (apart_same a.y i))

-- what the lesser end has, as `omega` reads it
record Lesser (a b : Cell) : Type 0 where
  above : up a.y + dn b.y ≤ up b.y + dn a.y
  level : up b.y + dn a.y ≤ up a.y + dn b.y → up a.x + dn b.x ≤ up b.x + dn a.x

lesser_is : (a b : Cell) → lesser a b ≡ true → Lesser a b
unfolding lesser
lesser_is a b e = by (lt_z a.y b.y) refl e
  where
    by : (t : Bool) → lt_z a.y b.y ≡ t → (t || (eq_z a.y b.y && le_z a.x b.x)) ≡ true → Lesser a b
    by true f e = let l = lt_z_true a.y b.y f in record { above = omega arith; level = λ h. absurd (omega arith) }
    by false f e =
        let t = from_true (eq_z a.y b.y && le_z a.x b.x) e in
        let l = from_≡ℤ a.y b.y (eq_z→≡ a.y b.y (and_l (eq_z a.y b.y) (le_z a.x b.x) t)) in
        let m = le_parts a.x b.x (and_r (eq_z a.y b.y) (le_z a.x b.x) t) in
        record { above = omega arith; level = λ h. m }

-- each end is the lesser: they are one cell
lesser_one : (a b : Cell) → lesser a b ≡ true → lesser b a ≡ true → a ≡ b
lesser_one a b e f =
    let p = lesser_is a b e in
    let q = lesser_is b a f in
    let u = to_≡ℤ a.x b.x (omega (arith, p.level q.above, q.level p.above)) in
    let v = to_≡ℤ a.y b.y (omega (arith, p.above, q.above)) in
    λ i. record { x = u i; y = v i }

-- and one of two always is
lesser_none : (a b : Cell) → lesser a b ≡ false → lesser b a ≡ false → ⊥
unfolding lesser
lesser_none a b e f = by (lt_z a.y b.y) (lt_z b.y a.y) refl refl e f
  where
    by : (t u : Bool) → lt_z a.y b.y ≡ t → lt_z b.y a.y ≡ u
        → (t || (eq_z a.y b.y && le_z a.x b.x)) ≡ false → (u || (eq_z b.y a.y && le_z b.x a.x)) ≡ false → ⊥
    by true u p q e f = true≢false e
    by false true p q e f = true≢false f
    by false false p q e f =
        let y = to_≡ℤ a.y b.y (omega (arith, lt_z_false a.y b.y p, lt_z_false b.y a.y q)) in
        let s : eq_z a.y b.y ≡ true = is_true (eq_z a.y b.y) (subst (λ (z : ℤ). T (eq_z a.y z)) y (eq_z_refl a.y)) in
        let r : eq_z b.y a.y ≡ true = is_true (eq_z b.y a.y) (subst (λ (z : ℤ). T (eq_z z a.y)) y (eq_z_refl a.y)) in
        omega (arith, le_z_false a.x b.x (rw s at e), le_z_false b.x a.x (rw r at f))

-- the rule gives the same nth cell
pub nth_either : (a b : Cell) (n : ℕ) → nth a b n ≡ nth b a n
unfolding nth
nth_either a b n = by (lesser a b) (lesser b a) refl refl
  where
    by : (t u : Bool) → lesser a b ≡ t → lesser b a ≡ u → cond t (from_lesser a b n) (from_lesser b a n) ≡ cond u (from_lesser b a n) (from_lesser a b n)
    by true true e f = let o = lesser_one a b e f in λ i. from_lesser (o i) (sym o i) n
    by true false e f = refl
    by false true e f = refl
    by false false e f = absurd (lesser_none a b e f)

-- n from one end is L − n from the other
pub count_back : (a b : Cell) (n : ℕ) → n ≤ long a b
    → cond (lesser b a) n (long a b - n) ≡ cond (lesser a b) (long a b - n) (long a b - (long a b - n))
count_back a b n l = by (lesser a b) (lesser b a) refl refl
  where
    by : (t u : Bool) → lesser a b ≡ t → lesser b a ≡ u → cond u n (long a b - n) ≡ cond t (long a b - n) (long a b - (long a b - n))
    by true true e f = let z = one_long a b (lesser_one a b e f) in omega arith
    by true false e f = refl
    by false true e f = omega arith
    by false false e f = absurd (lesser_none a b e f)
