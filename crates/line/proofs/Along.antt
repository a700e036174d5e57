-- Listing one coordinate by a running sum: the lists, the sum, and the loop's invariant.
use Rattle.std.proofs.Common.{◌≡◌, ℕ, zero, suc, ◌+◌, ◌-◌, ◌/◌, ◌<◌, ◌≤◌, Bool, true, false, cond, List, [], ◌∷◌, ◌++◌, map, length, drop, set, ℤ, sym, refl, ap, ◌∙◌, subst, ap₂, mul-le-mul, add-one, arith}
use mathlib.Core.Bool.{beq}
use Rattle.sheet.specs.Inner.{unmoved}
use Rattle.sheet.specs.declared.Cell.{Cell}
use Rattle.line.specs.Listing.{cells_of}
use Rattle.line.specs.Inner.Course.{stepped}
use Rattle.line.specs.Inner.Fixed.{gone}
use Rattle.line.specs.Inner.Along.{over, number_at, reached, ith_along, Bounded}
use Rattle.line.proofs.Rise.{from_either}

-- one place more
over_more : (g : ℕ → ℤ) (n : ℕ) (s : List ℤ) → n < length s → set (over g n s) n (g n) ≡ over g (suc n) s
unfolding over
over_more g n [] l = absurd (omega arith)
over_more g zero (v ∷ s) l = refl
over_more g (suc n) (v ∷ s) l = ap (λ (t : List ℤ). g 0 ∷ t) (over_more (λ (k : ℕ). g (suc k)) n s (omega arith))

pub over_length : (g : ℕ → ℤ) (n : ℕ) (s : List ℤ) → length (over g n s) ≡ length s
unfolding over
over_length g zero s = refl
over_length g (suc n) [] = refl
over_length g (suc n) (v ∷ s) = ap suc (over_length (λ (k : ℕ). g (suc k)) n s)

-- the same numbers
pub over_as : (g h : ℕ → ℤ) (n : ℕ) (s : List ℤ) → ((k : ℕ) → k < n → g k ≡ h k) → over g n s ≡ over h n s
unfolding over
over_as g h zero s e = refl
over_as g h (suc n) [] e = refl
over_as g h (suc n) (v ∷ s) e = ap₂ ◌∷◌ (e 0 (omega arith)) (over_as (λ (k : ℕ). g (suc k)) (λ (k : ℕ). h (suc k)) n s (λ k l. e (suc k) (omega arith)))

-- a coordinate of each cell, and after the last what stood there
pub over_cells : (coordinate : Cell → ℤ) (f : ℕ → Cell) (n : ℕ) (s : List ℤ) → n ≤ length s
    → over (λ (k : ℕ). coordinate (f k)) n s ≡ map coordinate (cells_of f n) ++ drop n s
unfolding over
over_cells coordinate f zero s l = refl
over_cells coordinate f (suc n) [] l = absurd (omega arith)
over_cells coordinate f (suc n) (v ∷ s) l = ap (λ (t : List ℤ). coordinate (f 0) ∷ t) (over_cells coordinate (λ (k : ℕ). f (suc k)) n s (omega arith))

-- the cell at a place is one of the line
pub number_first : (t : Bool) (l n : ℕ) → n ≡ cond t 0 l → n ≡ number_at t l 0
number_first t l n e = e ∙ ap (cond t 0) (omega arith)

-- the whole part of a sum
reached_whole : (up : Bool) (m g : ℕ) → g / 4294967296 ≤ m → reached up m g / 4294967296 ≡ stepped up m (g / 4294967296)
reached_whole true m g l = omega arith
reached_whole false m g l = omega arith

-- what the sum gains from place to place; what it loses is the rest of f
abbrev pub gain : Bool → Bool → ℕ → ℕ
gain up first f = cond (beq up first) f 0

module _ (m l f : ℕ) (a : Bounded m l f) where
  -- no sum goes far
  pub gone_le : (n : ℕ) → n ≤ l → gone l f n ≤ 140737488355328
  gone_le n h =
      let k : l ≤ 32767 = a.limit in
      let u : n ≤ 32767 = omega arith in
      omega (arith, mul-le-mul {n₁ = n} {m₁ = f} {n₂ = 32767} {m₂ = 4294967296} u a.slow)

  whole_at : (up : Bool) (n : ℕ) → n ≤ l → reached up m (gone l f n) / 4294967296 ≡ stepped up m (gone l f n / 4294967296)
  whole_at up n h = reached_whole up m (gone l f n) (omega (arith, a.start.least, gone_le n h))

  reached_low : (up : Bool) (n : ℕ) → n ≤ l → 4294967296 ≤ reached up m (gone l f n)
  reached_low true n h = omega (arith, a.start.least)
  reached_low false n h = omega (arith, a.start.least, gone_le n h)

  reached_high : (up : Bool) (n : ℕ) → n ≤ l → reached up m (gone l f n) < 562949953421312
  reached_high true n h = omega (arith, a.start.most, gone_le n h)
  reached_high false n h = omega (arith, a.start.most)

  -- from place to place
  sum_next : (first up : Bool) (i : ℕ) → i + 1 ≤ l → reached up m (gone l f (number_at first l i)) + gain up first f - (f - gain up first f) ≡ reached up m (gone l f (number_at first l (i + 1)))
  sum_next true true i h = omega arith
  sum_next true false i h = omega (arith, a.start.least, gone_le (i + 1) h)
  sum_next false true i h =
      let k = l - (i + 1) in
      let e : l - i ≡ k + 1 = omega arith in
      subst (λ (j : ℕ). reached true m (gone l f j) + 0 - (f - 0) ≡ reached true m (gone l f k)) (sym e) (omega arith)
  sum_next false false i h =
      let k = l - (i + 1) in
      let e : l - i ≡ k + 1 = omega arith in
      subst (λ (j : ℕ). reached false m (gone l f j) + f - (f - f) ≡ reached false m (gone l f k)) (sym e) (omega (arith, a.start.least, gone_le (k + 1) (omega arith)))

-- what holds when i places are listed: the sum stands for the next of them
pub record Running (first up : Bool) (m l f : ℕ) (list₀ list : List ℤ) (t i : ℕ) : Type 0 where
  pub most : i ≤ l + 1
  pub sum : i ≤ l → t ≡ reached up m (gone l f (number_at first l i))
  pub listed : list ≡ over (ith_along first up m l f) i list₀

module _ (first up : Bool) (m l f : ℕ) where
  pub begins : (list : List ℤ) (t n : ℕ) → n ≡ cond first 0 l → t ≡ reached up m (gone l f n) → Running first up m l f list list t 0
  unfolding over
  begins list t n e h = record { most = omega arith; sum = λ p. h ∙ ap (λ (k : ℕ). reached up m (gone l f k)) (number_first first l n e); listed = refl }

  module _ (a : Bounded m l f) (list₀ list : List ℤ) (t i : ℕ) (room : l < length list₀) (r : Running first up m l f list₀ list t i) (more : i < l + 1) where
    sum_is : t ≡ reached up m (gone l f (number_at first l i))
    sum_is = r.sum (omega arith)

    -- the place is one of the list, and the sum far from its limits
    pub within : (i < length list) × (4294967296 ≤ t) × (t < 562949953421312)
    within =
        let h : number_at first l i ≤ l = from_either first i l (omega arith) in
        let e : length list ≡ length list₀ = ap length r.listed ∙ over_length (ith_along first up m l f) i list₀ in
        omega (arith, sum_is, reached_low m l f a up (number_at first l i) h, reached_high m l f a up (number_at first l i) h)

    pub turn : (gains : ℕ) (list' : List ℤ) → gains ≡ gain up first f → list' ≡ set list i (unmoved (t / 4294967296))
        → Running first up m l f list₀ list' (t + gains - (f - gains)) (i + 1)
    unfolding ith_along
    turn gains list' hg h =
        let e : t / 4294967296 ≡ stepped up m (gone l f (number_at first l i) / 4294967296) = ap (λ (z : ℕ). z / 4294967296) sum_is ∙ whole_at m l f a up (number_at first l i) (from_either first i l (omega arith)) in
        record {
          most = omega arith;
          sum = λ p. (λ j. sum_is j + hg j - (f - hg j)) ∙ sum_next m l f a first up i p;
          listed = h ∙ (λ j. set (r.listed j) i (unmoved (e j))) ∙ over_more (ith_along first up m l f) i list₀ (omega arith) ∙ ap (λ (n : ℕ). over (ith_along first up m l f) n list₀) (sym (add-one i));
        }
