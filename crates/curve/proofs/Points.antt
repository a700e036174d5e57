-- The points of a curve: the first and the last, backwards, and on the moved plane.
use Rattle.std.proofs.Common.{◌≡◌, ℕ, zero, suc, ◌+◌, ◌-◌, ◌*◌, ◌/◌, ◌^◌, ◌<◌, ◌≤◌, ◌⊎◌, List, [], ◌∷◌, map, reverse, length, get_or, ℤ, pos, sym, refl, ap, ◌∙◌, inl, inr, mul-le-mul, arith}
use mathlib.Core.List.{reverse_aux}
use native.Mathlib.Nat.{pow-zero, pow-succ'}
use lib.ListN.{length-map, length-reverse}
use Rattle.laws.proofs.Parts.{up, dn}
use Rattle.laws.proofs.Products.{lt_or_ge}
use Rattle.sheet.specs.Inner.{unmoved}
use Rattle.sheet.proofs.Limits.{stands_parts}
use Rattle.sheet.specs.declared.Cell.{Cell}
use Rattle.curve.specs.Rule.{blend, rounded, degree, coordinate_at, point_at}
use Rattle.curve.proofs.Blend.{blendℕ, blend_moved, blend_first, blend_last, blend_as, blend_back}
use Rattle.curve.proofs.Round.{rounded_is, rounded_whole}

-- a power of a positive number is positive
pub pow_above : (n d : ℕ) → 0 < n → 0 < n ^ d
pow_above n zero l = omega (arith, pow-zero n)
pow_above n (suc d) l = omega (arith, pow-succ' n d, mul_pos n (n ^ d) l (pow_above n d l))
  where
    mul_pos : (a b : ℕ) → 0 < a → 0 < b → 0 < a * b
    mul_pos a b p q = mul-le-mul {n₁ = 1} {m₁ = 1} {n₂ = a} {m₂ = b} p q

module _ (ps : List ℤ) (n : ℕ) (l : 0 < n) where
  -- The first and last points are the first and last control points exactly.
  pub coordinate_first : coordinate_at ps n 0 ≡ get_or ps 0 (pos 0)
  unfolding coordinate_at
  coordinate_first =
      ap (λ (z : ℤ). rounded z (n ^ degree ps)) (blend_first (degree ps) n (λ (j : ℕ). get_or ps j (pos 0)))
      ∙ rounded_whole (get_or ps 0 (pos 0)) (n ^ degree ps) (pow_above n (degree ps) l)

  pub coordinate_last : coordinate_at ps n n ≡ get_or ps (degree ps) (pos 0)
  unfolding coordinate_at
  coordinate_last =
      ap (λ (z : ℤ). rounded z (n ^ degree ps)) (blend_last (degree ps) n (λ (j : ℕ). get_or ps j (pos 0)))
      ∙ rounded_whole (get_or ps (degree ps) (pos 0)) (n ^ degree ps) (pow_above n (degree ps) l)

-- a list backwards
after : (l r : List ℤ) (k : ℕ) (d : ℤ) → get_or (reverse_aux l r) (length l + k) d ≡ get_or r k d
after [] r k d = let e : 0 + k ≡ k = omega arith in ap (λ (n : ℕ). get_or r n d) e
after (a ∷ l) r k d = let e : suc (length l) + k ≡ length l + suc k = omega arith in ap (λ (n : ℕ). get_or (reverse_aux l (a ∷ r)) n d) e ∙ after l (a ∷ r) (suc k) d

within : (l r : List ℤ) (j : ℕ) (d : ℤ) → j < length l → get_or (reverse_aux l r) j d ≡ get_or l (length l - suc j) d
within [] r j d m = absurd (omega arith)
within (a ∷ l) r j d m = by (λ h. within l (a ∷ r) j d h) (lt_or_ge j (length l))
  where
    by : (j < length l → get_or (reverse_aux l (a ∷ r)) j d ≡ get_or l (length l - suc j) d) → (j < length l) ⊎ (length l ≤ j)
        → get_or (reverse_aux l (a ∷ r)) j d ≡ get_or (a ∷ l) (suc (length l) - suc j) d
    by f (inl h) = let e : suc (length l) - suc j ≡ suc (length l - suc j) = omega arith in f h ∙ sym (ap (λ (n : ℕ). get_or (a ∷ l) n d) e)
    by f (inr h) =
        let e : j ≡ length l + 0 = omega arith in
        let g : suc (length l) - suc j ≡ 0 = omega arith in
        ap (λ (n : ℕ). get_or (reverse_aux l (a ∷ r)) n d) e ∙ after l (a ∷ r) 0 d ∙ sym (ap (λ (n : ℕ). get_or (a ∷ l) n d) g)

-- control values reversed give the points reversed
pub coordinate_reversed : (ps : List ℤ) (n i : ℕ) → 0 < length ps → i ≤ n → coordinate_at (reverse ps) n (n - i) ≡ coordinate_at ps n i
unfolding coordinate_at
coordinate_reversed ps n i l m =
    let d = degree ps in
    let e : degree (reverse ps) ≡ d = ap (λ (k : ℕ). k - 1) (length-reverse ps) in
    let b =
    blend_as d n (n - i) (λ (j : ℕ). get_or (reverse ps) j (pos 0)) (λ (j : ℕ). get_or ps (d - j) (pos 0))
    (λ j h. let f : length ps - suc j ≡ d - j = omega arith in within ps [] j (pos 0) (omega arith) ∙ ap (λ (k : ℕ). get_or ps k (pos 0)) f)
    ∙ blend_back d n i (λ (j : ℕ). get_or ps j (pos 0)) m in
    (λ t. rounded (blend (e t) n (n - i) (λ (j : ℕ). get_or (reverse ps) j (pos 0))) (n ^ e t)) ∙ ap (λ (z : ℤ). rounded z (n ^ d)) b

-- one coordinate of moved control values: what is divided, and the half with it
abbrev pub twice_at : List ℕ → ℕ → ℕ → ℕ
twice_at qs n i = 2 * blendℕ (length qs - 1) n i (λ (j : ℕ). get_or qs j 0) + n ^ (length qs - 1)

pub coordinate_moved : (qs : List ℕ) (n i : ℕ) → 0 < length qs → 0 < n → i ≤ n
    → coordinate_at (map unmoved qs) n i ≡ unmoved (twice_at qs n i / (2 * n ^ (length qs - 1)))
unfolding coordinate_at
coordinate_moved qs n i l above m =
    let d = length qs - 1 in
    let e : degree (map unmoved qs) ≡ d = ap (λ (k : ℕ). k - 1) (length-map qs unmoved) in
    let b = blend_moved d n i values places 65536 m (λ j h. each qs j (omega arith)) in
    (λ t. rounded (blend (e t) n i values) (n ^ e t))
    ∙ rounded_is (blend d n i values) (n ^ d) 65536 (blendℕ d n i places) (pow_above n d above) b
  where
    values : ℕ → ℤ
    values j = get_or (map unmoved qs) j (pos 0)

    places : ℕ → ℕ
    places j = get_or qs j 0

    each : (qs : List ℕ) (j : ℕ) → j < length qs → up (get_or (map unmoved qs) j (pos 0)) + 65536 ≡ dn (get_or (map unmoved qs) j (pos 0)) + get_or qs j 0
    each [] j h = absurd (omega arith)
    each (q ∷ qs) zero h = stands_parts q (unmoved q) refl
    each (q ∷ qs) (suc j) h = each qs j (omega arith)

-- the same of points, of one control point or more: the first and the last
pub map_at : (of : Cell → ℤ) (ps : List Cell) (c : Cell) (j : ℕ) → j < length ps → get_or (map of ps) j (pos 0) ≡ of (get_or ps j c)
map_at of [] c j h = absurd (omega arith)
map_at of (p ∷ ps) c zero h = refl
map_at of (p ∷ ps) c (suc j) h = map_at of ps c j (omega arith)

module _ (ps : List Cell) (n : ℕ) (some : 0 < length ps) (l : 0 < n) (c : Cell) where
  pub point_first : point_at ps n 0 ≡ get_or ps 0 c
  unfolding point_at
  point_first = λ t. record { x = by (λ c. c.x) t; y = by (λ c. c.y) t }
    where
      by : (of : Cell → ℤ) → coordinate_at (map of ps) n 0 ≡ of (get_or ps 0 c)
      by of = coordinate_first (map of ps) n l ∙ map_at of ps c 0 some

  pub point_last : point_at ps n n ≡ get_or ps (length ps - 1) c
  unfolding point_at
  point_last = λ t. record { x = by (λ c. c.x) t; y = by (λ c. c.y) t }
    where
      by : (of : Cell → ℤ) → coordinate_at (map of ps) n n ≡ of (get_or ps (length ps - 1) c)
      by of =
          coordinate_last (map of ps) n l
          ∙ ap (λ (k : ℕ). get_or (map of ps) (k - 1) (pos 0)) (length-map ps of)
          ∙ map_at of ps c (length ps - 1) (omega arith)

-- and those of the control points reversed
map_back : (of : Cell → ℤ) (l r : List Cell) → map of (reverse_aux l r) ≡ reverse_aux (map of l) (map of r)
map_back of [] r = refl
map_back of (c ∷ l) r = map_back of l (c ∷ r)

pub point_reversed : (ps : List Cell) (n i : ℕ) → 0 < length ps → i ≤ n → point_at (reverse ps) n (n - i) ≡ point_at ps n i
unfolding point_at
point_reversed ps n i l m = λ t. record { x = by (λ c. c.x) t; y = by (λ c. c.y) t }
  where
    by : (of : Cell → ℤ) → coordinate_at (map of (reverse ps)) n (n - i) ≡ coordinate_at (map of ps) n i
    by of =
        ap (λ (zs : List ℤ). coordinate_at zs n (n - i)) (map_back of ps [])
        ∙ coordinate_reversed (map of ps) n i (omega (arith, length-map ps of)) m
