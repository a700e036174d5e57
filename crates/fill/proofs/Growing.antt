-- How a fill grows: runs are taken one after another, and each keeps what is known of the queue.
use Prim.Native.Nat.{ℕ, suc, ◌+◌, ◌-◌, ◌*◌, ◌<◌, ◌≤◌}
use mathlib.Core.Path.{◌≡◌, sym, subst, ◌∙◌}
use mathlib.Core.List.{List}
use mathlib.Core.Bool.{true}
use mathlib.Core.Logic.{◌⊎◌, inl, inr, ⊎_elim}
use native.Mathlib.Omega.{arith}
use native.Mathlib.Decide.{dec_le, dec_lt}
use borrow.Author.Tests.{eqb-true, eqb-false}
use lib.ListN.{length, get_or}
use Rattle.sheet.specs.declared.Cell.{Cell}
use Rattle.sheet.specs.declared.Shape.{Shape}
use Rattle.sheet.proofs.Limits.{still_sheet}
use Rattle.fill.specs.Inner.{Ahead, Back, InkedRun, row_of, left_of, right_of, Throughout, Queued, spot, Shut, opens, Ready, Reached, Queue, OnSheet, Grown, IfOpen, Takes}
use Rattle.fill.proofs.Rows.{along, opens_run}

module _ {k : Shape} {b : ℕ} {s q : List ℕ} {t : ℕ} {s₁ q₁ : List ℕ} {t₁ : ℕ} where
  pub grown_as : {H G : List ℕ → Cell → Type 0} → ((s0 : List ℕ) (a : Cell) → G s0 a → H s0 a) → Grown H k b s q t s₁ q₁ t₁ → Grown G k b s q t s₁ q₁ t₁
  grown_as f g =
      record {
        sheet_size = g.sheet_size;
        queue_size = g.queue_size;
        rest = g.rest;
        more = g.more;
        keep = g.keep;
        front = g.front;
        on = g.on;
        law = λ s0 a h Q. g.law s0 a (f s0 a h) Q;
      }

  pub grown_both : {H : List ℕ → Cell → Type 0} {s₂ q₂ : List ℕ} {t₂ : ℕ} → Grown H k b s q t s₁ q₁ t₁ → Grown H k b s₁ q₁ t₁ s₂ q₂ t₂
      → Grown H k b s q t s₂ q₂ t₂
  grown_both {H} {s₂} {q₂} {t₂} g h =
      record {
        sheet_size = h.sheet_size ∙ g.sheet_size;
        queue_size = h.queue_size ∙ g.queue_size;
        rest = omega (arith, g.rest, h.rest);
        more = omega (arith, g.more, h.more);
        keep = λ n e. h.keep n (g.keep n e);
        front = λ j l. h.front j (omega (arith, g.more)) ∙ g.front j l;
        on = λ j l m. on j l m (dec_lt j t₁);
        law = λ s0 a p Q. h.law s0 a p (g.law s0 a p Q);
      }
    where
      on : (j : ℕ) → t ≤ j → j < t₂ → Dec (j < t₁) → OnSheet k (get_or q₂ j 0)
      on j l m (yes u) = rw (h.front j u) (g.on j l u)
      on j l m (no u) = h.on j (omega arith) m

  pub ready_again : {H : List ℕ → Cell → Type 0} → Ready k b s q t → Grown H k b s q t s₁ q₁ t₁ → Ready k b s₁ q₁ t₁
  ready_again r g =
      record { sheet = still_sheet k s s₁ g.sheet_size r.sheet; room = omega (arith, g.rest, g.queue_size, r.room) }

-- The run of open cells at (x, y), from column l to before r, which ends at shut cells or at the sheet's sides, got the boundary ink.
module _ {k : Shape} {b x y : ℕ} (l r : ℕ) {s q : List ℕ} {t : ℕ} {s' : List ℕ} (ready : Ready k b s q t) (on : y < k.height) (inside : x < k.width)
    (some : Shut k b s x y → ⊥) (B : Back b (y * k.pitch) (spot k x y) s (spot k l y))
    (A : Ahead true b (spot k x y) (spot k k.width y) s (spot k r y)) (I : InkedRun b (spot k l y) (spot k r y) s s') where
  before : l ≤ x
  before = omega (arith, B.order)

  within : r ≤ k.width
  within = omega (arith, A.within)

  -- the run goes beyond the column that was open
  after : x < r
  after = by (dec_lt x r)
    where
      by : Dec (x < r) → x < r
      by (yes u) = u
      by (no u) =
          let e : spot k r y ≡ spot k x y = omega (arith, A.order) in
          absurd (some (eqb-true _ b (rw e at (A.stop (omega arith)))))

  was : (u : ℕ) → l ≤ u → u < r → Shut k b s u y → ⊥
  was u m n = by (dec_lt u x)
    where
      by : Dec (u < x) → Shut k b s u y → ⊥
      by (yes v) = eqb-false _ b (B.passed (spot k u y) (omega arith) (omega arith))
      by (no v) = eqb-false _ b (A.passed (spot k u y) (omega arith) (omega arith))

  run_cases : (n : ℕ) → ((spot k l y ≤ n) × (n < spot k r y)) ⊎ ((spot k l y ≤ n) × (n < spot k r y) → ⊥)
  run_cases n = by (dec_le (spot k l y) n) (dec_lt n (spot k r y))
    where
      by : Dec (spot k l y ≤ n) → Dec (n < spot k r y) → ((spot k l y ≤ n) × (n < spot k r y)) ⊎ ((spot k l y ≤ n) × (n < spot k r y) → ⊥)
      by (yes u) (yes v) = inl (u, v)
      by (yes u) (no v) = inr (λ z. v z.1)
      by (no u) v = inr (λ z. u z.0)

  keeps : (n : ℕ) → get_or s n 0 ≡ b → get_or s' n 0 ≡ b
  keeps n e = ⊎_elim (λ z. I.inside n z.0 z.1) (λ o. I.outside n o ∙ e) (run_cases n)

  inks : (u : ℕ) → l ≤ u → u < r → Shut k b s' u y
  inks u m n = I.inside (spot k u y) (omega arith) (omega arith)

  -- the cells to the left and to the right of each cell of the run
  left_shut : (u v : ℕ) → l ≤ u → u < r → suc v ≡ u → Shut k b s' v y
  left_shut u v m n e = by (dec_le l v)
    where
      by : Dec (l ≤ v) → Shut k b s' v y
      by (yes w) = inks v w (omega arith)
      by (no w) = keeps (spot k v y) (eqb-true _ b (B.stop (spot k v y) (omega arith) (omega arith)))

  right_shut : (u : ℕ) → l ≤ u → u < r → suc u < k.width → Shut k b s' (suc u) y
  right_shut u m n e = by (dec_lt (suc u) r)
    where
      by : Dec (suc u < r) → Shut k b s' (suc u) y
      by (yes w) = inks (suc u) (omega arith) w
      by (no w) =
          let z : suc u ≡ r = omega arith in
          rw z (keeps (spot k r y) (eqb-true _ b (A.stop (omega arith))))

  fewer : opens k b s' + r ≡ opens k b s + l
  fewer = opens_run ready.sheet.disjoint on within (omega (arith, before, after)) I was

  -- the work slice has a place for each of its cells
  room_left : t + r ≤ length q + l
  room_left = omega (arith, fewer, ready.room)

  -- and it was queued
  module _ {q' : List ℕ} {t' : ℕ} (Q : Queued y l r q t q' t') where
    module _ (s0 : List ℕ) (a : Cell) (R : IfOpen k b x y s0 a) (P : Queue k b a s0 s q t) where
      was0 : (u : ℕ) → l ≤ u → u < r → Shut k b s0 u y → ⊥
      was0 u m n e = was u m n (P.kept (spot k u y) e)

      reached : (u : ℕ) → l ≤ u → u < r → Reached k b a s0 s' u y
      reached u m n =
          record {
            reach = along on within was0 x u before after m n (R (was0 x before after));
            marked = inks u m n;
            left = λ v e. left_shut u v m n e;
            right = λ e. right_shut u m n e;
          }

      still : (u v : ℕ) → Reached k b a s0 s u v → Reached k b a s0 s' u v
      still u v p =
          record {
            reach = p.reach;
            marked = keeps (spot k u v) p.marked;
            left = λ w e. keeps (spot k w v) (p.left w e);
            right = λ e. keeps (spot k (suc u) v) (p.right e);
          }

      into : (j : ℕ) → j < t' → Dec (j < t) → Throughout (get_or q' j 0) (λ u. Reached k b a s0 s' u (row_of (get_or q' j 0)))
      into j m (yes w) = rw (Q.front j w) (λ u p z. still u (row_of (get_or q j 0)) (P.into j w u p z))
      into j m (no w) = λ u p z.
          let i = Q.within j (omega arith) m in
          rw i.row (reached u (omega (arith, i.low)) (omega (arith, i.high)))

      from : (n : ℕ) → (get_or s0 n 0 ≡ b → ⊥) → get_or s' n 0 ≡ b → ((spot k l y ≤ n) × (n < spot k r y)) ⊎ ((spot k l y ≤ n) × (n < spot k r y) → ⊥)
          → (j : ℕ) × (u : ℕ) × (j < t') × (left_of (get_or q' j 0) ≤ u) × (u < right_of (get_or q' j 0)) × (n ≡ spot k u (row_of (get_or q' j 0)))
      from n o e (inl z) =
          let u = n - y * k.pitch in
          let f = Q.covers u (omega (arith, z.0)) (omega (arith, z.0, z.1)) in
          let i = Q.within f.0 f.1 f.2 in
          (f.0, u, f.2, f.3, f.4, rw i.row (omega (arith, z.0)))
      from n o e (inr z) =
          let f = P.from n o (sym (I.outside n z) ∙ e) in
          let g = Q.front f.0 f.2 in
          (f.0, f.1, omega (arith, f.2, Q.more), rw g f.3, rw g f.4, rw g f.5)

      again : Queue k b a s0 s' q' t'
      again =
          record {
            kept = λ n e. keeps n (P.kept n e);
            same = λ n o. ⊎_elim (λ z. absurd (o (I.inside n z.0 z.1))) (λ z. I.outside n z ∙ P.same n (λ e. o (I.outside n z ∙ e))) (run_cases n);
            into = λ j m. into j m (dec_lt j t);
            from = λ n o e. from n o e (run_cases n);
            number = omega (arith, Q.number, P.number, fewer);
          }

    takes : Takes k b x y s q t s' q' t' r
    takes =
        record {
          grown =
              record {
                sheet_size = I.size;
                queue_size = Q.size;
                rest = omega (arith, Q.few, fewer);
                more = Q.more;
                keep = keeps;
                front = Q.front;
                on = λ j m n. let i = Q.within j m n in (rw i.row on, omega (arith, i.high, within));
                law = again;
              };
          some = after;
          shut = λ u m n. inks u (omega (arith, before)) n;
        }

-- the same, by the places that the searches found
module _ {k : Shape} {b x y from to : ℕ} {s q : List ℕ} {t : ℕ} {s' : List ℕ} (ready : Ready k b s q t) (on : y < k.height) (inside : x < k.width)
    (some : Shut k b s x y → ⊥) (B : Back b (y * k.pitch) (spot k x y) s from) (A : Ahead true b (spot k x y) (spot k k.width y) s to)
    (I : InkedRun b from to s s') where
  abbrev l : ℕ
  l = from - y * k.pitch

  abbrev r : ℕ
  r = to - y * k.pitch

  from_is : from ≡ spot k l y
  from_is = omega (arith, B.within)

  to_is : to ≡ spot k r y
  to_is = omega (arith, A.order)

  B' : Back b (y * k.pitch) (spot k x y) s (spot k l y)
  B' = subst (Back b (y * k.pitch) (spot k x y) s) from_is B

  A' : Ahead true b (spot k x y) (spot k k.width y) s (spot k r y)
  A' = subst (Ahead true b (spot k x y) (spot k k.width y) s) to_is A

  I' : InkedRun b (spot k l y) (spot k r y) s s'
  I' = subst (λ (n : ℕ). InkedRun b n (spot k r y) s s') from_is (subst (λ (n : ℕ). InkedRun b from n s s') to_is I)

  pub run_fits : t + r ≤ length q + l
  run_fits = room_left l r ready on inside some B' A' I'

  pub run_taken : {q' : List ℕ} {t' : ℕ} → Queued y l r q t q' t' → Takes k b x y s q t s' q' t' r
  run_taken Q = takes l r ready on inside some B' A' I' Q
