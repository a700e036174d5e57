-- The nearest y of a column: each column of 0..a has exactly one, and it does not increase with x. For rows, with the axes exchanged.
use Prim.Native.Nat.{ℕ, zero, suc, ◌+◌, ◌-◌, ◌*◌, ◌≤◌}
use mathlib.Core.Path.{◌≡◌, sym, subst, ap}
use mathlib.Core.Bool.{true, ◌&&◌}
use native.Mathlib.Omega.{arith}
use borrow.Author.Tests.{le-ltb}
use lib.Dec.{T, leb, ltb, leb→le, le→leb, ltb→lt, lt→ltb, eqb-suc-zero}
use lib.IntN.{ℤ, pos, ◌-ℤ◌, ◌*ℤ◌}
use Rattle.laws.proofs.Ints.{pos_sub}
use Rattle.laws.proofs.Products.{sq_le}
use Rattle.laws.proofs.Tests.{and_l, and_r, and_i}
use Rattle.ring.specs.Ring.{sq, nearest}
use Rattle.ring.proofs.Least.{edge, Least, least_is, least_one, least_falls, least_after, least_zero}
use Rattle.ring.proofs.Reach.{reach, reach_falls, reach_below}

module _ (a b x : ℕ) (h : x ≤ a) where
  reach_is : pos 4 *ℤ sq (pos b) *ℤ (sq (pos a) -ℤ sq (pos x)) ≡ pos (reach a b x)
  unfolding reach
  reach_is = ap (λ (z : ℤ). pos (4 * (b * b)) *ℤ z) (pos_sub (a * a) (x * x) (sq_le h))

  nearest_zero : nearest (pos a) (pos b) (pos x) (pos 0) ≡ (ltb (reach a b x) (edge (a * a) 0) && true)
  unfolding nearest edge
  nearest_zero = simp reach_is

  nearest-suc : (j : ℕ) → nearest (pos a) (pos b) (pos x) (pos (suc j)) ≡ (ltb (reach a b x) (edge (a * a) (suc j)) && leb (edge (a * a) j) (reach a b x))
  unfolding nearest edge
  nearest-suc j =
      let e : 2 * suc j - 1 ≡ 2 * j + 1 = omega arith in
      simp (reach_is, le-ltb (2 * suc j) 1 (omega arith), e, eqb-suc-zero)

  -- the rule says of y that it is the least
  pub nearest→ : (y : ℕ) → T (nearest (pos a) (pos b) (pos x) (pos y)) → Least (a * a) (reach a b x) y
  nearest→ zero t =
      let u : T (ltb (reach a b x) (edge (a * a) 0) && true) = subst T nearest_zero t in
      least_zero (a * a) (reach a b x) 0 (omega arith) (search (ltb→lt, and_l))
  nearest→ (suc j) t =
      let u : T (ltb (reach a b x) (edge (a * a) (suc j)) && leb (edge (a * a) j) (reach a b x)) = subst T (nearest-suc j) t in
      let d : suc j - 1 ≡ j = omega arith in
      least_after (a * a) (reach a b x) (suc j) (omega arith) (rw d (search (leb→le, and_r))) (search (ltb→lt, and_l))

  pub →nearest : (y : ℕ) → Least (a * a) (reach a b x) y → T (nearest (pos a) (pos b) (pos x) (pos y))
  →nearest zero n =
      let l = lt→ltb (reach a b x) (edge (a * a) 0) n.high in
      subst T (sym nearest_zero) (and_i (ltb (reach a b x) (edge (a * a) 0)) true l tt)
  →nearest (suc j) n =
      let l = lt→ltb (reach a b x) (edge (a * a) (suc j)) n.high in
      let m = le→leb (edge (a * a) j) (reach a b x) (n.low j (omega arith)) in
      subst T (sym (nearest-suc j)) (and_i (ltb (reach a b x) (edge (a * a) (suc j))) (leb (edge (a * a) j) (reach a b x)) l m)

-- each column of 0..a has exactly one nearest y, and each row of 0..b exactly one nearest x: `column_has_one b a`
pub record One (P : ℕ → Type 0) : Type 0 where
  pub one : ℕ
  pub is : P one
  pub only : (z : ℕ) → P z → z ≡ one

pub column_has_one : (a b x : ℕ) → 1 ≤ a → x ≤ a → One (λ (y : ℕ). T (nearest (pos a) (pos b) (pos x) (pos y)))
column_has_one a b x p h =
    let e = least_is (a * a) (reach a b x) b (reach_below a b x p) in
    record {
      one = e.0;
      is = →nearest a b x h e.0 e.1;
      only = λ z t. least_one (a * a) (reach a b x) z e.0 (nearest→ a b x h z t) e.1;
    }

-- the nearest y does not increase with x
pub column_falls : (a b x z y v : ℕ) → x ≤ z → z ≤ a → T (nearest (pos a) (pos b) (pos x) (pos y)) → T (nearest (pos a) (pos b) (pos z) (pos v)) → v ≤ y
column_falls a b x z y v l h s t =
    least_falls (a * a) (reach a b z) (reach a b x) v y (reach_falls a b x z l) (nearest→ a b z h v t) (nearest→ a b x (omega arith) y s)
