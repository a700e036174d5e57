-- The column rule in the columns 0..a: its one cell in a column, and an ellipse as its columns and its rows.
use Prim.Native.Nat.{ℕ, ◌*◌, ◌≤◌}
use mathlib.Core.Path.{◌≡◌, sym, subst}
use mathlib.Core.Logic.{◌⊎◌, inl, inr}
use mathlib.Core.Bool.{Bool, false, ◌&&◌, ◌||◌}
use native.Mathlib.Omega.{arith}
use borrow.Author.Tests.{ne_eqb}
use lib.Dec.{T, leb, eqb, leb→le, le→leb}
use lib.IntN.{pos}
use Rattle.laws.proofs.Tests.{and_l, and_r, and_i, or_l, or_r, or_e, same}
use Rattle.ring.specs.Ring.{nearest, ellipse_rule}
use Rattle.ring.proofs.Least.{Least}
use Rattle.ring.proofs.Reach.{reach, at_most}
use Rattle.ring.proofs.Nearest.{nearest→, →nearest}

-- the column rule in the columns 0..a
unfoldable pub columns : ℕ → ℕ → ℕ → ℕ → Bool
columns a b x y = leb x a && nearest (pos a) (pos b) (pos x) (pos y)

-- what the rule says of an offset
pub record InColumns (a b x y : ℕ) : Type 0 where
  pub within : x ≤ a
  pub least : Least (a * a) (reach a b x) y

pub columns→ : (a b x y : ℕ) → T (columns a b x y) → InColumns a b x y
unfolding columns
columns→ a b x y t =
    let h = leb→le x a (and_l (leb x a) (nearest (pos a) (pos b) (pos x) (pos y)) t) in
    record { within = h; least = nearest→ a b x h y (and_r (leb x a) (nearest (pos a) (pos b) (pos x) (pos y)) t) }

pub →columns : (a b x y : ℕ) → InColumns a b x y → T (columns a b x y)
unfolding columns
→columns a b x y i =
    and_i (leb x a) (nearest (pos a) (pos b) (pos x) (pos y)) (le→leb x a i.within) (→nearest a b x i.within y i.least)

-- an ellipse of axes from 1 up is its columns, and its rows: the columns of the one with the axes exchanged
pub columns_and_rows : (a b : ℕ) → 1 ≤ a → 1 ≤ b → (u v : ℕ) → (columns a b u v || columns b a v u) ≡ ellipse_rule a b u v
unfolding ellipse_rule columns
columns_and_rows a b p q u v =
    let e : eqb a 0 ≡ false = ne_eqb a 0 (λ f. omega arith) in
    simp e (same (columns a b u v || columns b a v u) (leb u a && leb v b && (C || R)) to from)
  where
    C : Bool
    C = nearest (pos a) (pos b) (pos u) (pos v)

    R : Bool
    R = nearest (pos b) (pos a) (pos v) (pos u)

    to : T (columns a b u v || columns b a v u) → T (leb u a && leb v b && (C || R))
    to t =
        elim (or_e (columns a b u v) (columns b a v u) t) [
          | inl t ↦
              let i = columns→ a b u v t in
              let k = le→leb u a i.within in
              let l = le→leb v b (at_most a b u v p i.least) in
              let m : T C = and_r (leb u a) C t in
              search (and_i, or_l)
          | inr t ↦
              let i = columns→ b a v u t in
              let k = le→leb u a (at_most b a v u q i.least) in
              let l = le→leb v b i.within in
              let m : T R = and_r (leb v b) R t in
              search (and_i, or_r)
        ]

    from : T (leb u a && leb v b && (C || R)) → T (columns a b u v || columns b a v u)
    from t =
        let k : T (leb u a) = search (and_l, and_r) in
        let l : T (leb v b) = search (and_l, and_r) in
        let m : T (C || R) = search (and_l, and_r) in
        elim (or_e C R m) [
          | inl z ↦ or_l (columns a b u v) (columns b a v u) (and_i (leb u a) C k z)
          | inr z ↦ or_r (columns a b u v) (columns b a v u) (and_i (leb v b) R l z)
        ]

-- so a cell of it is of the column rule or of the row rule, and such a cell is its
module _ (a b : ℕ) (h : 1 ≤ a) (k : 1 ≤ b) (x y : ℕ) where
  pub nearest_in : T (ellipse_rule a b x y) → InColumns a b x y ⊎ InColumns b a y x
  nearest_in t =
      elim (or_e (columns a b x y) (columns b a y x) (subst T (sym (columns_and_rows a b h k x y)) t)) [
        | inl u ↦ inl (columns→ a b x y u)
        | inr u ↦ inr (columns→ b a y x u)
      ]

  pub in_column : InColumns a b x y → T (ellipse_rule a b x y)
  in_column i = subst T (columns_and_rows a b h k x y) (or_l (columns a b x y) (columns b a y x) (→columns a b x y i))

  pub in_row : InColumns b a y x → T (ellipse_rule a b x y)
  in_row i = subst T (columns_and_rows a b h k x y) (or_r (columns a b x y) (columns b a y x) (→columns b a y x i))

-- its cells are within its axes
pub ellipse_within : (a b x y : ℕ) → T (ellipse_rule a b x y) → (x ≤ a) × (y ≤ b)
unfolding ellipse_rule
ellipse_within a b x y t = (search (leb→le, and_l, and_r), search (leb→le, and_l, and_r))

-- with both axes 0 it has its centre
pub ellipse_zero : (x y : ℕ) → x ≡ 0 → y ≡ 0 → T (ellipse_rule 0 0 x y)
unfolding ellipse_rule
ellipse_zero x y e f = rw (e, f) tt
