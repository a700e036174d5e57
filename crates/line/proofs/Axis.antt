-- One axis: the steps from one place towards another.
use Rattle.std.proofs.Common.{◌≡◌, ℕ, ◌+◌, ◌-◌, ◌<◌, ◌≤◌, Bool, true, false, cond, ◌⊎◌, ℤ, pos, ◌+ℤ◌, ◌-ℤ◌, sym, refl, ap, ◌∙◌, inl, inr, arith}
use lib.Signed.{le_z}
use Rattle.laws.proofs.Apart.{apart, apart_is, apart_same, apart_zero, plus_is, minus_is, plus_apart, minus_apart}
use Rattle.laws.proofs.Parts.{up, dn}
use Rattle.laws.proofs.Ints.{parts, one_zero, to_≡ℤ, from_≡ℤ, le_z_true, le_z_false}
use Rattle.laws.proofs.Products.{lt_or_ge}
use Rattle.line.specs.Inner.Course.{gap}
use Rattle.line.specs.Rule.{toward}
use Rattle.line.specs.Distance.{steps}

-- z is the steps from a to p, counted towards b: sums on both sides of an equation, so that no `-` is left
record Steps (a b p z : ℤ) : Type 0 where
  rising : up a + dn b ≤ up b + dn a → up z + (up a + dn p) ≡ dn z + (up p + dn a)
  falling : up b + dn a < up a + dn b → up z + (up p + dn a) ≡ dn z + (up a + dn p)

steps_are : (a b p : ℤ) → Steps a b p (steps a b p)
steps_are a b p = by (le_z a b) refl
  where
    by : (t : Bool) → le_z a b ≡ t → Steps a b p (cond t (p -ℤ a) (a -ℤ p))
    by true e = record { rising = λ h. simp parts (omega arith); falling = λ h. absurd (omega (arith, le_z_true a b e)) }
    by false e = record { rising = λ h. absurd (omega (arith, le_z_false a b e)); falling = λ h. simp parts (omega arith) }

-- which way b lies
way : (a b : ℤ) → (up a + dn b ≤ up b + dn a) ⊎ (up b + dn a < up a + dn b)
way a b = elim (lt_or_ge (up b + dn a) (up a + dn b)) [ inl h ↦ inr h | inr h ↦ inl h ]

-- a place no further than n from a and no further than k from b, where n + k is all the way, is n steps on
pub steps_between : (a b p : ℤ) (n k : ℕ) → apart a p ≤ n → apart p b ≤ k → n + k ≡ apart a b → steps a b p ≡ pos n
steps_between a b p n k h l e =
    let s = steps_are a b p in
    to_≡ℤ (steps a b p) (pos n) (elim (way a b) [
      | inl w ↦ omega (arith, s.rising w, apart_is a p, apart_is p b, apart_is a b)
      | inr w ↦ omega (arith, s.falling w, apart_is a p, apart_is p b, apart_is a b)
    ])

-- n steps towards b are n steps
pub steps-toward : (a b : ℤ) (n : ℕ) → steps a b (toward a b n) ≡ pos n
steps-toward a b n = by (le_z a b)
  where
    by : (t : Bool) → cond t (cond t (a +ℤ pos n) (a -ℤ pos n) -ℤ a) (a -ℤ cond t (a +ℤ pos n) (a -ℤ pos n)) ≡ pos n
    by true = to_≡ℤ _ _ (simp parts (omega (arith, one_zero a)))
    by false = to_≡ℤ _ _ (simp parts (omega (arith, one_zero a)))

-- and lead to one place
toward_is : (a b p : ℤ) (n : ℕ) → steps a b p ≡ pos n → toward a b n ≡ p
toward_is a b p n e = by (le_z a b) e
  where
    by : (t : Bool) → cond t (p -ℤ a) (a -ℤ p) ≡ pos n → cond t (a +ℤ pos n) (a -ℤ pos n) ≡ p
    by true e = let u = simp parts at (from_≡ℤ (p -ℤ a) (pos n) e) in to_≡ℤ _ _ (omega (arith, plus_is a n))
    by false e = let u = simp parts at (from_≡ℤ (a -ℤ p) (pos n) e) in to_≡ℤ _ _ (omega (arith, minus_is a n))

-- a place between the ends is as many steps on as it is away
pub toward_between : (a b p : ℤ) → apart a p + apart p b ≡ apart a b → toward a b (apart a p) ≡ p
toward_between a b p e = toward_is a b p (apart a p) (steps_between a b p (apart a p) (apart p b) (omega arith) (omega arith) e)

-- the ends
pub toward_first : (a b : ℤ) → toward a b 0 ≡ a
toward_first a b = toward_is a b a 0 (steps_between a b a 0 (apart a b) (omega (arith, apart_same a)) (omega arith) (omega arith))

pub toward_last : (a b : ℤ) → toward a b (apart a b) ≡ b
toward_last a b = toward_is a b b (apart a b) (steps_between a b b (apart a b) 0 (omega arith) (omega (arith, apart_same b)) (omega arith))

-- how far apart two places are, by their steps
pub toward_apart : (a b : ℤ) (m n : ℕ) → apart (toward a b m) (toward a b n) ≡ gap m n
toward_apart a b m n = by (le_z a b)
  where
    by : (t : Bool) → apart (cond t (a +ℤ pos m) (a -ℤ pos m)) (cond t (a +ℤ pos n) (a -ℤ pos n)) ≡ gap m n
    by true = plus_apart a m n
    by false = minus_apart a m n

-- counted from the other end: where the ends are apart the steps make up the whole, and else they are the same
pub steps_back : (a b p : ℤ) → 0 < apart a b → up (steps b a p) + up (steps a b p) ≡ apart a b + (dn (steps b a p) + dn (steps a b p))
steps_back a b p h =
    let s = steps_are a b p in
    let t = steps_are b a p in
    let d = apart_is a b in
    elim (way a b) [
      | inl w ↦ omega (arith, s.rising w, t.falling (omega arith))
      | inr w ↦ omega (arith, s.falling w, t.rising (omega arith))
    ]

pub steps_same : (a b p : ℤ) → apart a b ≡ 0 → steps b a p ≡ steps a b p
steps_same a b p e = λ i. steps (sym (apart_zero a b e) i) (apart_zero a b e i) p

pub steps_other : (a b p : ℤ) (k : ℕ) → k ≤ apart a b → steps b a p ≡ pos k → steps a b p ≡ pos (apart a b - k)
steps_other a b p k l e = elim (lt_or_ge 0 (apart a b)) [
  | inl h ↦ to_≡ℤ _ _ (omega (arith, steps_back a b p h, ap up e, ap dn e, one_zero (steps a b p)))
  | inr h ↦ sym (steps_same a b p (omega arith)) ∙ e ∙ ap pos (omega arith)
]

-- and the places themselves
pub toward_back : (a b : ℤ) (k : ℕ) → k ≤ apart a b → toward b a k ≡ toward a b (apart a b - k)
toward_back a b k l =
    sym (toward_is a b (toward b a k) (apart a b - k) (steps_other a b (toward b a k) k l (steps-toward b a k)))

pub toward_rest : (a b : ℤ) (k : ℕ) → k ≤ apart a b → toward b a (apart a b - k) ≡ toward a b k
toward_rest a b k l =
    let e : apart a b - (apart a b - k) ≡ k = omega arith in toward_back a b (apart a b - k) (omega arith) ∙ ap (toward a b) e
