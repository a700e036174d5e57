-- A walk: one step further it is at the next i, and where it is it holds what the terms come to.
use Rattle.std.proofs.Common.{◌≡◌, ℕ, ◌+◌, ◌*◌, ◌/◌, ◌%◌, ◌^◌, ◌<◌, ◌≤◌, List, length, ℤ, sym, ap, ◌∙◌, mod-lt, mul-le-mul, arith}
use native.Mathlib.Nat.{mod-add-mod, add-mod}
use Rattle.sheet.specs.Inner.{unmoved}
use Rattle.curve.specs.Rule.{coordinate_at}
use Rattle.curve.specs.Inner.{sum_at, changes_at, Little, Small, shift_of, Less, Walks, Follows, next_walk}
use Rattle.curve.specs.declared.Powers.{Powers}
use Rattle.curve.specs.declared.Terms.{Terms}
use Rattle.curve.specs.declared.Walk.{Walk}
use Rattle.curve.proofs.Fits.{pieces_low}

-- what a sum and its differences grow to
sum_next : (a : Powers) (i : ℕ) → sum_at a (i + 1) ≡ sum_at a i + (changes_at a i).one
unfolding changes_at
sum_next a i = omega arith

one_next : (a : Powers) (i : ℕ) → (changes_at a (i + 1)).one ≡ (changes_at a i).one + (changes_at a i).two
unfolding changes_at
one_next a i = omega arith

two_next : (a : Powers) (i : ℕ) → (changes_at a (i + 1)).two ≡ (changes_at a i).two + (changes_at a i).three
unfolding changes_at
two_next a i = omega arith

-- differences add up, modulo 2^64
less_sum : (a b w c d v a' b' : ℕ) → Less a b w → Less c d v → a' ≡ a + c → b' ≡ b + d → Less a' b' ((w + v) % 2 ^ 64)
less_sum a b w c d v a' b' e f g h =
    let m = 2 ^ 64 in
    ap (λ (z : ℕ). ((w + v) % m + z) % m) h
    ∙ mod-add-mod (w + v) m (b + d)
    ∙ ap (λ (z : ℕ). z % m) (apart w v b d)
    ∙ add-mod (w + b) (v + d) m
    ∙ (λ i. (e i + f i) % m)
    ∙ sym (add-mod a c m)
    ∙ ap (λ (z : ℕ). z % m) (sym g)
  where
    apart : (w v b d : ℕ) → w + v + (b + d) ≡ w + b + (v + d)
    apart w v b d = omega arith

pub walk_next : (t : Terms) (i : ℕ) (w : Walk) → Walks t i w → Walks t (i + 1) (next_walk w)
unfolding next_walk changes_at
walk_next t i w h =
    record {
      value_is = less_sum _ _ _ _ _ _ _ _ h.value_is h.first_is (grown t.start _ _ _ (sum_next t.gains i)) (sum_next t.losses i);
      first_is = less_sum _ _ _ _ _ _ _ _ h.first_is h.second_is (one_next t.gains i) (one_next t.losses i);
      second_is = less_sum _ _ _ _ _ _ _ _ h.second_is h.third_is (two_next t.gains i) (two_next t.losses i);
      third_is = h.third_is;
      held = mod-lt (w.value + w.first) (omega arith);
    }
  where
    grown : (c x y z : ℕ) → x ≡ y + z → c + x ≡ c + y + z
    grown c x y z e = omega arith

-- a walk at i, of terms that give the coordinate
module _ (t : Terms) (i : ℕ) where
  -- the sums are below 2^64
  sum_low : (a : Powers) → Little a → i ≤ 64 → sum_at a i ≤ 2 ^ 59
  sum_low a l m =
      let ii = mul-le-mul {n₁ = i} {m₁ = i} {n₂ = 64} {m₂ = 64} m m in
      let iii = mul-le-mul {n₁ = i * i} {m₁ = i} {n₂ = 4096} {m₂ = 64} ii m in
      let x = mul-le-mul {n₁ = a.one} {m₁ = i} {n₂ = 2 ^ 40} {m₂ = 64} l.one_low m in
      let y = mul-le-mul {n₁ = a.two} {m₁ = i * i} {n₂ = 2 ^ 40} {m₂ = 4096} l.two_low ii in
      let z = mul-le-mul {n₁ = a.three} {m₁ = i * i * i} {n₂ = 2 ^ 40} {m₂ = 262144} l.three_low iii in
      omega arith

  pub walk_holds : (w : Walk) (value : ℕ) → Walks t i w → i ≤ 64 → Small t
      → t.start + sum_at t.gains i ≡ sum_at t.losses i + value → w.value ≡ value
  walk_holds w value h m z e =
      let g = sum_low t.gains z.gains_low m in
      unwrapped w.value value (t.start + sum_at t.gains i) (sum_at t.losses i) h.value_is e h.held (omega (arith, z.start_low))
    where
      unwrapped : (w v a b : ℕ) → Less a b w → a ≡ b + v → w < 2 ^ 64 → a < 2 ^ 64 → w ≡ v
      unwrapped w v a b e f l m = omega (arith, ap (λ (z : ℕ). z % 2 ^ 64) f)

-- a walk along the coordinate, one step further, and the coordinate where it is
pub follows_next : (ps : List ℤ) (s i : ℕ) (w : Walk) → Follows ps s i w → Follows ps s (i + 1) (next_walk w)
follows_next ps s i w f = record { terms = f.terms; gives = f.gives; walks = walk_next f.terms i w f.walks }

pub follows_stands : (ps : List ℤ) (s i : ℕ) (w : Walk) → Follows ps s i w → s ≤ 6 → i ≤ 2 ^ s
    → unmoved (w.value / 2 ^ shift_of (length ps) s) ≡ coordinate_at ps (2 ^ s) i
follows_stands ps s i w f l m =
    let g = f.gives in
    let j = g.joint i m in
    let e = walk_holds f.terms i w j.value f.walks (omega (arith, pieces_low s l)) g.small j.made in
    ap (λ (v : ℕ). unmoved (v / 2 ^ shift_of (length ps) s)) e ∙ j.stands
