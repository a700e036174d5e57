-- The distance from the ideal line: that our cell's is the least, and that it is the same from either end and, with equal extents, by either axis.
use Rattle.std.proofs.Common.{◌≡◌, ℕ, ◌+◌, ◌-◌, ◌*◌, ◌≤◌, Bool, true, false, cond, ℤ, pos, ◌-ℤ◌, ◌*ℤ◌, nat_abs, sym, ap, ◌∙◌, inl, inr, arith}
use Rattle.laws.proofs.Apart.{apart}
use Rattle.laws.proofs.Parts.{up, dn}
use Rattle.laws.proofs.Ints.{parts}
use Rattle.laws.proofs.Products.{lt_or_ge}
use Rattle.sheet.specs.Chain.{wide, tall}
use Rattle.sheet.specs.declared.Cell.{Cell}
use Rattle.line.specs.Inner.Course.{gap}
use Rattle.line.specs.Rule.{lesser, long, short, steep}
use Rattle.line.specs.Listing.{listed}
use Rattle.line.specs.Distance.{steps, along, along_by, across_by, distance_by, distance}
use Rattle.line.proofs.Axis.{steps_back, steps_same, steps_other}
use Rattle.line.proofs.EitherEnd.{short_long, wide_sym, tall_sym, long_sym, short_sym, steep_sym}
use Rattle.line.proofs.Across.{crossed, crossed_half, half_nearest}
use Rattle.line.proofs.Place.{at, at_along, at_across, listed_at}

-- |m L − n S|, m across and n along
abbrev off : ℤ → ℕ → ℤ → ℕ → ℕ
off m L n S = nat_abs (m *ℤ pos L -ℤ n *ℤ pos S)

off_is : (m n : ℤ) (L S : ℕ) → off m L n S ≡ gap (up m * L + dn n * S) (dn m * L + up n * S)
off_is m n L S = simp parts (omega arith)

-- the distance of a cell n along; of our nth
module _ (a b : Cell) (n : ℕ) where
  distance_at : (c : Cell) → along a b c ≡ pos n
      → distance a b c ≡ gap (up (across_by (steep a b) a b c) * long a b) (dn (across_by (steep a b) a b c) * long a b + n * short a b)
  unfolding distance
  distance_at c e =
      let m = across_by (steep a b) a b c in
      ap (λ (w : ℤ). off m (long a b) w (short a b)) e ∙ off_is m (pos n) (long a b) (short a b) ∙ omega arith

  listed_distance : n ≤ long a b → distance a b (listed a b n) ≡ gap (crossed (lesser a b) (long a b) (short a b) n * long a b) (n * short a b)
  listed_distance l =
      let m = crossed (lesser a b) (long a b) (short a b) n in
      ap (distance a b) (listed_at a b n l)
      ∙ distance_at (at a b n m) (at_along a b n m)
      ∙ ap (λ (m : ℤ). gap (up m * long a b) (dn m * long a b + n * short a b)) (at_across a b n m)
      ∙ omega arith

  -- no cell n along is nearer than our nth
  pub listed_nearest : n ≤ long a b → (c : Cell) → along a b c ≡ pos n → distance a b (listed a b n) ≤ distance a b c
  listed_nearest l c e =
      let m = across_by (steep a b) a b c in
      let k = crossed (lesser a b) (long a b) (short a b) n in
      let h = crossed_half (lesser a b) (long a b) (short a b) n (short_long a b) l in
      rw (listed_distance l, distance_at c e) (half_nearest (long a b) (n * short a b) k (up m) (dn m) h)

-- counted from the other end: m and v across, n and w along, from one end and from the other
off_back : (L S : ℕ) (m v n w : ℤ) → up v + up m ≡ S + (dn v + dn m) → up w + up n ≡ L + (dn w + dn n) → off v L w S ≡ off m L n S
off_back L S m v n w e f = off_is v w L S ∙ turned (up m) (dn m) (up v) (dn v) (up n) (dn n) (up w) (dn w) e f ∙ sym (off_is m n L S)
  where
    turned : (mu md vu vd nu nd wu wd : ℕ) → vu + mu ≡ S + (vd + md) → wu + nu ≡ L + (wd + nd)
        → gap (vu * L + wd * S) (vd * L + wu * S) ≡ gap (mu * L + nd * S) (md * L + nu * S)
    turned mu md vu vd nu nd wu wd e f = omega (arith, ap (λ (t : ℕ). t * L) e, ap (λ (t : ℕ). t * S) f)

-- with no shorter extent, what is along is of no account
off_flat : (L S : ℕ) (m n w : ℤ) → S ≡ 0 → off m L w S ≡ off m L n S
off_flat L S m n w e = rw e (off_is m w L 0 ∙ omega arith ∙ sym (off_is m n L 0))

-- a to b is the shorter extent, c to d the longer
off_either : (a b c d p q : ℤ) → apart a b ≤ apart c d
    → off (steps b a p) (apart c d) (steps d c q) (apart a b) ≡ off (steps a b p) (apart c d) (steps c d q) (apart a b)
off_either a b c d p q l = elim (lt_or_ge 0 (apart a b)) [
  | inl h ↦ off_back (apart c d) (apart a b) (steps a b p) (steps b a p) (steps c d q) (steps d c q) (steps_back a b p h) (steps_back c d q (omega arith))
  | inr h ↦
      let z : apart a b ≡ 0 = omega arith in
      ap (λ (m : ℤ). off m (apart c d) (steps d c q) (apart a b)) (steps_same a b p z)
      ∙ off_flat (apart c d) (apart a b) (steps a b p) (steps c d q) (steps d c q) z
]

pub distance_either : (a b c : Cell) → distance b a c ≡ distance a b c
unfolding distance
distance_either a b c =
    (λ i. off (across_by (steep_sym a b i) b a c) (long_sym a b i) (along_by (steep_sym a b i) b a c) (short_sym a b i))
    ∙ by (steep a b) (short_long a b)
  where
    by : (t : Bool) → cond t (wide a b) (tall a b) ≤ cond t (tall a b) (wide a b)
        → off (across_by t b a c) (cond t (tall a b) (wide a b)) (along_by t b a c) (cond t (wide a b) (tall a b))
        ≡ off (across_by t a b c) (cond t (tall a b) (wide a b)) (along_by t a b c) (cond t (wide a b) (tall a b))
    by true l = off_either a.x b.x a.y b.y c.x c.y l
    by false l = off_either a.y b.y a.x b.x c.y c.x l

pub along_either : (a b c : Cell) (n : ℕ) → n ≤ long a b → along a b c ≡ pos n → along b a c ≡ pos (long a b - n)
along_either a b c n l e =
    ap (λ (t : Bool). along_by t b a c) (steep_sym a b)
    ∙ by (steep a b) l e
    ∙ (λ i. pos (cond (steep a b) (tall_sym a b i) (wide_sym a b i) - n))
  where
    by : (t : Bool) → n ≤ cond t (tall a b) (wide a b) → along_by t a b c ≡ pos n → along_by t b a c ≡ pos (cond t (tall b a) (wide b a) - n)
    by true l e = steps_other b.y a.y c.y n (omega (arith, tall_sym a b)) e
    by false l e = steps_other b.x a.x c.x n (omega (arith, wide_sym a b)) e

-- equal extents: either axis may be called the longer
pub distance_square : (a b c : Cell) → wide a b ≡ tall a b → distance_by true a b c ≡ distance_by false a b c
distance_square a b c e = exchanged (long a b) (short a b) (across_by true a b c) (along_by true a b c) (by (steep a b))
  where
    by : (t : Bool) → cond t (tall a b) (wide a b) ≡ cond t (wide a b) (tall a b)
    by true = sym e
    by false = e

    exchanged : (L S : ℕ) (m n : ℤ) → L ≡ S → off m L n S ≡ off n L m S
    exchanged L S m n e = rw e (off_is m n S S ∙ omega arith ∙ sym (off_is n m S S))
