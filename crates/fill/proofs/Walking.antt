-- A row scanned, the rows above and below a piece looked at, and the walk over the queue.
use Prim.Native.Nat.{ℕ, suc, ◌+◌, ◌-◌, ◌*◌, ◌<◌, ◌≤◌}
use mathlib.Core.Path.{◌≡◌, refl, subst, ap, ◌∙◌}
use mathlib.Core.List.{List}
use mathlib.Core.Bool.{Bool, true, false, cond}
use native.Mathlib.Omega.{arith}
use native.Mathlib.Decide.{dec_lt}
use borrow.Author.Tests.{eqb-true, eqb-false, ne_eqb}
use lib.Dec.{eqb}
use lib.ListN.{get_or}
use Rattle.sheet.specs.Sheet.{cell_of}
use Rattle.sheet.specs.declared.Cell.{Cell}
use Rattle.sheet.specs.declared.Shape.{Shape}
use Rattle.fill.specs.Territory.{Reach, step}
use Rattle.fill.specs.Inner.{Ahead, row_of, left_of, right_of, Throughout, spot, Shut, Queue, OnSheet, Grown, IfOpen, AllIfOpen, Takes, Scanned, row_above, Strips, start, above, below, Walked}
use Rattle.fill.proofs.Rows.{side_of, open_cell}
use Rattle.fill.proofs.Growing.{grown_as, grown_both}

-- a scan of row y from l to r that has come to column `at`, or past the end
pub record Scanning (k : Shape) (b y l r at : ℕ) (s q : List ℕ) (t : ℕ) (s' q' : List ℕ) (t' : ℕ) : Type 0 where
  pub grown : Grown (AllIfOpen k b y l r) k b s q t s' q' t'
  pub shut : (x : ℕ) → l ≤ x → x < at → Shut k b s' x y
  pub onward : l ≤ at

module _ {k : Shape} {b y l r at : ℕ} {s q : List ℕ} {t : ℕ} {s₁ q₁ : List ℕ} {t₁ : ℕ} (S : Scanning k b y l r at s q t s₁ q₁ t₁) where
  module _ {o : ℕ} (A : Ahead false b (spot k at y) (spot k r y) s₁ (spot k o y)) where
    passed : (x : ℕ) → l ≤ x → x < o → Dec (x < at) → Shut k b s₁ x y
    passed x u v (yes w) = S.shut x u w
    passed x u v (no w) = eqb-true _ b (A.passed (spot k x y) (omega arith) (omega arith))

    -- one more run
    pub scanning_more : {s₂ q₂ : List ℕ} {t₂ past : ℕ} → y < k.height → o < r → Takes k b o y s₁ q₁ t₁ s₂ q₂ t₂ past → Scanning k b y l r past s q t s₂ q₂ t₂
    scanning_more {s₂} {q₂} {t₂} {past} on m T =
        record {
          grown = grown_both S.grown (grown_as (λ s0 a h. h on o (omega (arith, S.onward, A.order)) m) T.grown);
          shut = λ x u v. shut x u v (dec_lt x o);
          onward = omega (arith, S.onward, A.order, T.some);
        }
      where
        shut : (x : ℕ) → l ≤ x → x < past → Dec (x < o) → Shut k b s₂ x y
        shut x u v (yes w) = T.grown.keep (spot k x y) (passed x u w (dec_lt x at))
        shut x u v (no w) = T.shut x (omega arith) v

-- the row above a row
above_is : (y v : ℕ) → v ≡ row_above y → v < 4096 → suc v ≡ y
unfolding row_above
above_is y v e l = by (eqb y 0) refl e
  where
    by : (t : Bool) → eqb y 0 ≡ t → v ≡ cond (eqb y 0) 4096 (y - 1) → suc v ≡ y
    by true f g = let h : v ≡ 4096 = g ∙ ap (λ (t : Bool). cond t 4096 (y - 1)) f in absurd (omega arith)
    by false f g = let h : v ≡ y - 1 = g ∙ ap (λ (t : Bool). cond t 4096 (y - 1)) f in omega (arith, eqb-false y 0 f)

is_above : (y v : ℕ) → suc v ≡ y → row_above y ≡ v
unfolding row_above
is_above y v e = simp (ne_eqb y 0 (λ z. omega arith)) (omega arith)

-- one turn more
module _ {k : Shape} {b x y turn : ℕ} {s q s₁ q₁ : List ℕ} {t₁ : ℕ} {s₂ q₂ : List ℕ} {t₂ row l r : ℕ}
    (W : Walked k b x y turn s q s₁ q₁ t₁) (now : turn ≤ 2 * t₁) (high : k.height ≤ 4096) (on : y < k.height)
    (P : Strips q₁ x y turn row l r) (S : Scanned k b row l r s₁ q₁ t₁ s₂ q₂ t₂) where
  -- what is open in the strip is reached: it is the start, or beside a piece
  reaches : (s0 : List ℕ) (a : Cell) → IfOpen k b x y s0 a → Queue k b a s0 s₁ q₁ t₁ → AllIfOpen k b row l r s0 a
  reaches s0 a h Q here u p n o = by P
    where
      beside : (j : ℕ) → j < t₁ → l ≡ left_of (get_or q₁ j 0) → r ≡ right_of (get_or q₁ j 0)
          → row - row_of (get_or q₁ j 0) + (row_of (get_or q₁ j 0) - row) ≡ 1 → Reach k b s0 a (cell_of u row)
      beside j m e f d =
          step (Q.into j m u (omega arith) (omega arith)).reach (side_of u (row_of (get_or q₁ j 0)) u row (omega arith))
          (open_cell (omega (arith, (W.on j m).1)) here o)

      by : Strips q₁ x y turn row l r → Reach k b s0 a (cell_of u row)
      by (start d e f g) = let i : u ≡ x = omega arith in rw (i, e) (h (rw (i, e) at o))
      by (above j d e f g) = let i = above_is (row_of (get_or q₁ j 0)) row e (omega arith) in beside j (omega arith) f g (omega arith)
      by (below j d e f g) = let i = e in beside j (omega arith) f g (omega arith)

  same : (j : ℕ) → j < t₁ → get_or q₂ j 0 ≡ get_or q₁ j 0
  same = S.grown.front

  all_on : (j : ℕ) → j < t₂ → Dec (j < t₁) → OnSheet k (get_or q₂ j 0)
  all_on j m (yes u) = rw (same j u) (W.on j u)
  all_on j m (no u) = S.grown.on j (omega arith) m

  begins : Strips q₁ x y turn row l r → Shut k b s₂ x y
  begins (start d e f g) = let h = S.shut (rw e on) x (omega arith) (omega arith) in rw e at h
  begins (above j d e f g) = S.grown.keep (spot k x y) (W.begun (omega arith))
  begins (below j d e f g) = S.grown.keep (spot k x y) (W.begun (omega arith))

  above_now : (j : ℕ) → turn ≡ 2 * j + 1 → (v : ℕ) → suc v ≡ row_of (get_or q₁ j 0) → (u : ℕ) → left_of (get_or q₁ j 0) ≤ u → u < right_of (get_or q₁ j 0)
      → Strips q₁ x y turn row l r → Shut k b s₂ u v
  above_now j d v e u m n (start d' e' f g) = absurd (omega arith)
  above_now j d v e u m n (below i d' e' f g) = absurd (omega arith)
  above_now j d v e u m n (above i d' e' f g) =
      let z : i ≡ j = omega arith in
      let w : row ≡ v = rw z at e' ∙ is_above (row_of (get_or q₁ j 0)) v e in
      let low : l ≡ left_of (get_or q₁ j 0) = rw z at f in
      let right : r ≡ right_of (get_or q₁ j 0) = rw z at g in
      subst (λ (v : ℕ). Shut k b s₂ u v) w (S.shut (omega (arith, (W.on j (omega arith)).0)) u (omega arith) (omega arith))

  below_now : (j : ℕ) → turn ≡ 2 * j + 2 → suc (row_of (get_or q₁ j 0)) < k.height → (u : ℕ) → left_of (get_or q₁ j 0) ≤ u → u < right_of (get_or q₁ j 0)
      → Strips q₁ x y turn row l r → Shut k b s₂ u (suc (row_of (get_or q₁ j 0)))
  below_now j d e u m n (start d' e' f g) = absurd (omega arith)
  below_now j d e u m n (above i d' e' f g) = absurd (omega arith)
  below_now j d e u m n (below i d' e' f g) =
      let z : i ≡ j = omega arith in
      let w : row ≡ suc (row_of (get_or q₁ j 0)) = omega (arith, rw z at e') in
      let low : l ≡ left_of (get_or q₁ j 0) = rw z at f in
      let right : r ≡ right_of (get_or q₁ j 0) = rw z at g in
      subst (λ (v : ℕ). Shut k b s₂ u v) w (S.shut (omega arith) u (omega arith) (omega arith))

  all_above : (j : ℕ) → 2 * j + 1 < turn + 1 → Dec (2 * j + 1 < turn) → (v : ℕ) → suc v ≡ row_of (get_or q₂ j 0)
      → Throughout (get_or q₂ j 0) (λ u. Shut k b s₂ u v)
  all_above j m (yes p) = rw (same j (omega arith)) (λ v e u n o. S.grown.keep (spot k u v) (W.above j p v e u n o))
  all_above j m (no p) = rw (same j (omega arith)) (λ v e u n o. above_now j (omega arith) v e u n o P)

  all_below : (j : ℕ) → 2 * j + 2 < turn + 1 → Dec (2 * j + 2 < turn) → suc (row_of (get_or q₂ j 0)) < k.height
      → Throughout (get_or q₂ j 0) (λ u. Shut k b s₂ u (suc (row_of (get_or q₂ j 0))))
  all_below j m (yes p) =
      rw (same j (omega arith)) (λ e u n o. S.grown.keep (spot k u (suc (row_of (get_or q₁ j 0)))) (W.below j p e u n o))
  all_below j m (no p) = rw (same j (omega arith)) (λ e u n o. below_now j (omega arith) e u n o P)

  pub walked_more : Walked k b x y (turn + 1) s q s₂ q₂ t₂
  walked_more =
      record {
        grown =
            record {
              sheet_size = S.grown.sheet_size ∙ W.grown.sheet_size;
              queue_size = S.grown.queue_size ∙ W.grown.queue_size;
              rest = omega (arith, S.grown.rest, W.grown.rest);
              more = omega arith;
              keep = λ n e. S.grown.keep n (W.grown.keep n e);
              front = λ j m. absurd (omega arith);
              on = λ j m n. all_on j n (dec_lt j t₁);
              law = λ s0 a h Q. let Q₁ = W.grown.law s0 a h Q in S.grown.law s0 a (reaches s0 a h Q₁) Q₁;
            };
        on = λ j m. all_on j m (dec_lt j t₁);
        due = omega (arith, S.grown.more);
        begun = λ m. begins P;
        above = λ j m. all_above j m (dec_lt (2 * j + 1) turn);
        below = λ j m. all_below j m (dec_lt (2 * j + 2) turn);
      }
