-- The bytes of a file between two offsets.
use Prim.Native.Nat.{ℕ, ◌+◌, ◌-◌, ◌≤◌}
use mathlib.Core.Path.{◌≡◌, refl, sym, ap, ◌∙◌}
use mathlib.Core.List.{List, [], ◌++◌}
use native.Mathlib.Omega.{arith}
use lib.ListN.{length, take, drop, take-append-drop, length-drop}
use lib.Seq.{length-take-le, drop-drop, take-add}
use Rattle.record.specs.Rescue.{between}

module _ (s : List ℕ) (a : ℕ) where
  pub between_none : between s a a ≡ []
  between_none = let e : a - a ≡ 0 = omega arith in rw e refl

  module _ (b : ℕ) (h : a ≤ b) where
    -- from a on, what stands between is before what stands from b on
    past : drop (b - a) (drop a s) ≡ drop b s
    past = let e : a + (b - a) ≡ b = omega arith in drop-drop (b - a) a s ∙ ap (λ (n : ℕ). drop n s) e

    pub between_drop : between s a b ++ drop b s ≡ drop a s
    between_drop = ap (λ (r : List ℕ). between s a b ++ r) (sym past) ∙ take-append-drop (b - a) (drop a s)

    pub between_join : (c : ℕ) → b ≤ c → between s a b ++ between s b c ≡ between s a c
    between_join c g =
        let e : b - a + (c - b) ≡ c - a = omega arith in
        ap (λ (r : List ℕ). between s a b ++ take (c - b) r) (sym past) ∙ sym (take-add (b - a) (c - b) (drop a s))
        ∙ ap (λ (n : ℕ). take n (drop a s)) e

    pub length-between : b ≤ length s → length (between s a b) ≡ b - a
    length-between g = length-take-le (b - a) (drop a s) (rw (length-drop a s) (omega arith))
