-- What a walk over the whole queue leaves: exactly the cells that can be reached have the boundary ink anew, and then the territory's.
use Prim.Native.Nat.{ℕ, suc, ◌+◌, ◌-◌, ◌*◌, ◌<◌, ◌≤◌}
use mathlib.Core.Path.{◌≡◌, refl, sym, subst, ap, ◌∙◌}
use mathlib.Core.List.{List}
use mathlib.Core.Bool.{Bool, true, false, cond, not, ◌&&◌, true≢false}
use native.Mathlib.Omega.{arith}
use native.Mathlib.Decide.{ℕ_discrete, dec_le, dec_lt}
use borrow.Author.Tests.{eq-eqb, ne_eqb, eqb-true, eqb-false}
use lib.Dec.{eqb}
use lib.IntN.{nat_abs}
use lib.ListN.{length, get_or}
use lib.Seq.{ext_get_or}
use Rattle.laws.proofs.Below.{count_sum}
use Rattle.laws.proofs.Tests.{halves}
use Rattle.sheet.specs.Sheet.{bytes, on_sheet, place, cell_of, cell_at, held, paint, cells_on}
use Rattle.sheet.specs.declared.Cell.{Cell}
use Rattle.sheet.specs.declared.Shape.{Shape}
use Rattle.sheet.proofs.Cells.{sheet_cell, cell_at-place, place-cell_at}
use Rattle.sheet.proofs.Count.{cells_most}
use Rattle.sheet.proofs.Limits.{sheet_fits}
use Rattle.sheet.proofs.Paint.{held_cell, paint_byte, paint_length}
use Rattle.fill.specs.Territory.{Side, Open, Reach, here, step, Territory}
use Rattle.fill.specs.Inner.{InkedRun, row_of, left_of, right_of, Throughout, total, spot, Shut, opens, Ready, Reached, Queue, Grown, Walked, Settled, Flooded, FloodedIn}
use Rattle.fill.proofs.Pieces.{total_none}
use Rattle.fill.proofs.Reaching.{reach_open}
use Rattle.fill.proofs.Rows.{of_side, open_cell}

-- the pieces in their ink: none yet, and one more
pub settled_none : (pitch ink : ℕ) (q s : List ℕ) → Settled pitch ink q 0 s s
settled_none pitch ink q s = record { size = refl; inside = λ j l. absurd (omega arith); outside = λ n o. refl }

pub settled_more : {pitch ink t : ℕ} {q s s₁ s₂ : List ℕ} → Settled pitch ink q t s s₁ → {from to : ℕ} → from ≡ row_of (get_or q t 0) * pitch + left_of (get_or q t 0)
    → to ≡ row_of (get_or q t 0) * pitch + right_of (get_or q t 0) → InkedRun ink from to s₁ s₂ → Settled pitch ink q (t + 1) s s₂
settled_more {pitch} {ink} {t} {q} {s} {s₁} {s₂} P {from} {to} f g I =
    record {
      size = I.size ∙ P.size;
      inside = λ j l x m n. inside j l x m n (ℕ_discrete j t);
      outside = λ n o.
          I.outside n (λ z. o t (omega arith) (n - row_of e * pitch) (omega (arith, z.0)) (omega (arith, z.0, z.1)) (omega (arith, z.0)))
          ∙ P.outside n (λ j l. o j (omega arith));
    }
  where
    e : ℕ
    e = get_or q t 0

    over : (n : ℕ) → get_or s₁ n 0 ≡ ink → Dec (from ≤ n) → Dec (n < to) → get_or s₂ n 0 ≡ ink
    over n h (yes u) (yes v) = I.inside n u v
    over n h (yes u) (no v) = I.outside n (λ z. v z.1) ∙ h
    over n h (no u) v = I.outside n (λ z. u z.0) ∙ h

    inside : (j : ℕ) → j < t + 1 → (x : ℕ) → left_of (get_or q j 0) ≤ x → x < right_of (get_or q j 0) → Dec (j ≡ t)
        → get_or s₂ (row_of (get_or q j 0) * pitch + x) 0 ≡ ink
    inside j l x m n (yes z) =
        let m' : left_of e ≤ x = rw z at m in
        let n' : x < right_of e = rw z at n in
        rw z (I.inside (row_of e * pitch + x) (omega arith) (omega arith))
    inside j l x m n (no z) = over _ (P.inside j (omega arith) x m n) (dec_le _ _) (dec_lt _ _)

-- no more pieces than a sheet has cells
pub pieces_most : {H : List ℕ → Cell → Type 0} {k : Shape} {b : ℕ} {s q s₂ q₂ : List ℕ} {t₂ : ℕ} → Ready k b s q 0 → Grown H k b s q 0 s₂ q₂ t₂ → t₂ ≤ 16777216
unfolding opens
pieces_most {k = k} {b} {s} r g =
    omega (arith, g.rest, cells_most (λ (c : Cell). not (eqb (get_or s (place k c) 0) b)) k (length s) (sheet_fits k s r.sheet))

-- a queue with no piece, and that of the start
queue_none : (k : Shape) (b : ℕ) (a : Cell) (s q : List ℕ) → Queue k b a s s q 0
queue_none k b a s q =
    record {
      kept = λ n e. e;
      same = λ n o. refl;
      into = λ j l. absurd (omega arith);
      from = λ n o e. absurd (o e);
      number = omega (arith, total_none q);
    }

-- whether a cell was open, and is so no more
abbrev newly : Shape → ℕ → List ℕ → List ℕ → Cell → Bool
newly k b s s₂ c = on_sheet k c && (not (eqb (get_or s (place k c) 0) b) && eqb (get_or s₂ (place k c) 0) b)

newly_parts : (o p q : Bool) → (o && (not p && q)) ≡ true → (o ≡ true) × (p ≡ false) × (q ≡ true)
newly_parts true true q e = absurd (true≢false (sym e))
newly_parts true false q e = (refl, refl, e)
newly_parts false p q e = absurd (true≢false (sym e))

newly_sum : (o p q : Bool) → (p ≡ true → q ≡ true) → cond (o && (o && (not p && q))) 1 0 + cond (o && not q) 1 0 ≡ cond (o && not p) 1 0
newly_sum true true true f = refl
newly_sum true true false f = absurd (true≢false (sym (f refl)))
newly_sum true false true f = refl
newly_sum true false false f = refl
newly_sum false p q f = refl

module _ {k : Shape} {b ink x y : ℕ} {s q s₂ q₂ : List ℕ} {t₂ : ℕ} {s₃ : List ℕ} (ready : Ready k b s q 0) (on : y < k.height) (inside : x < k.width)
    (W : Walked k b x y (2 * t₂ + 1) s q s₂ q₂ t₂) (P : Settled k.pitch ink q₂ t₂ s₂ s₃) where
  abbrev a : Cell
  a = cell_of x y

  Q : Queue k b a s s₂ q₂ t₂
  Q = W.grown.law s a (λ o. here (open_cell inside on o)) (queue_none k b a s q)

  abbrev test : Cell → Bool
  test = newly k b s s₂

  -- a cell that was open, and is so no more, is in a piece, and its neighbours are shut
  record Found (c : Cell) : Type 0 where
    piece : ℕ
    column : ℕ
    below : piece < t₂
    low : left_of (get_or q₂ piece 0) ≤ column
    high : column < right_of (get_or q₂ piece 0)
    is : c ≡ cell_of column (row_of (get_or q₂ piece 0))

  find : (c : Cell) → Open k b s c → get_or s₂ (place k c) 0 ≡ b → Found c
  unfolding place
  find c o e =
      let f = Q.from (place k c) o.other e in
      let z = sheet_cell k c o.on in
      let d = ready.sheet.disjoint in
      let w = W.on f.0 f.2 in
      let here : cell_at k (place k c) ≡ c = ap (λ (d : Cell). cell_at k (place k d)) z.is_cell ∙ cell_at-place k z.column z.row (omega (arith, z.in_width)) ∙ sym z.is_cell in
      record {
        piece = f.0;
        column = f.1;
        below = f.2;
        low = f.3;
        high = f.4;
        is = sym here ∙ ap (cell_at k) f.5 ∙ cell_at-place k f.1 (row_of (get_or q₂ f.0 0)) (omega (arith, f.4, w.1));
      }

  reached : {c : Cell} (F : Found c) → Reached k b a s s₂ F.column (row_of (get_or q₂ F.piece 0))
  reached F = Q.into F.piece F.below F.column F.low F.high

  -- a side neighbour of such a cell is shut
  beside : (u v w z : ℕ) → w < k.width → z < k.height → Reached k b a s s₂ u v → ((z : ℕ) → suc z ≡ v → Shut k b s₂ u z)
      → (suc v < k.height → Shut k b s₂ u (suc v)) → w - u + (u - w) + (z - v + (v - z)) ≡ 1 → Shut k b s₂ w z
  beside u v w z m n R up down e = by (dec_lt u w) (dec_lt w u) (dec_lt v z) (dec_lt z v)
    where
      by : Dec (u < w) → Dec (w < u) → Dec (v < z) → Dec (z < v) → Shut k b s₂ w z
      by (yes f) g h i = let p : w ≡ suc u = omega arith in let r : z ≡ v = omega arith in rw (p, r) (R.right (omega arith))
      by (no f) (yes g) h i = let r : z ≡ v = omega arith in rw r (R.left w (omega arith))
      by (no f) (no g) (yes h) i = let p : w ≡ u = omega arith in let r : z ≡ suc v = omega arith in rw (p, r) (down (omega arith))
      by (no f) (no g) (no h) (yes i) = let p : w ≡ u = omega arith in rw p (up z (omega arith))
      by (no f) (no g) (no h) (no i) = absurd (omega arith)

  next : (c d : Cell) → Found c → Side c d → on_sheet k d ≡ true → get_or s₂ (place k d) 0 ≡ b
  unfolding place
  next c d F n o =
      let z = sheet_cell k d o in
      let v = row_of (get_or q₂ F.piece 0) in
      let m = subst (λ (e : Cell). Side e (cell_of z.column z.row)) F.is (subst (Side c) z.is_cell n) in
      rw z.is_cell
      (beside F.column v z.column z.row z.in_width z.in_height (reached F)
      (λ u e. W.above F.piece (omega (arith, F.below)) u e F.column F.low F.high)
      (λ e. W.below F.piece (omega (arith, F.below)) e F.column F.low F.high)
      (of_side F.column v z.column z.row m))

  -- every cell that can be reached is shut by now
  complete : {c : Cell} → Reach k b s a c → get_or s₂ (place k c) 0 ≡ b
  unfolding place
  complete (here o) = W.begun (omega arith)
  complete (step {c} {d} r n o) = next c d (find c (reach_open r) (complete r)) n o.on

  -- the test, of a cell and of a byte
  is_newly : (c : Cell) → Open k b s c → get_or s₂ (place k c) 0 ≡ b → test c ≡ true
  is_newly c o e = simp (o.on, ne_eqb (get_or s (place k c) 0) b o.other, eq-eqb (get_or s₂ (place k c) 0) b e)

  found : (c : Cell) → test c ≡ true → Found c
  found c e =
      let p = newly_parts (on_sheet k c) (eqb (get_or s (place k c) 0) b) (eqb (get_or s₂ (place k c) 0) b) e in
      find c (record { on = p.0; other = eqb-false _ b p.1 }) (eqb-true _ b p.2)

  decides : Territory k b s a test
  decides =
      record {
        only = λ c e. let F = found c e in subst (Reach k b s a) (sym F.is) (reached F).reach;
        all = λ c r. is_newly c (reach_open r) (complete r);
      }

  number : total q₂ t₂ ≡ cells_on k test
  unfolding cells_on opens held
  number =
      omega (
        arith,
        Q.number,
        count_sum (bytes k) (held k test) (held k (λ (c : Cell). not (eqb (get_or s₂ (place k c) 0) b))) (held k (λ (c : Cell). not (eqb (get_or s (place k c) 0) b)))
            (λ n. let c = cell_at k n in
            newly_sum (on_sheet k c) (eqb (get_or s (place k c) 0) b) (eqb (get_or s₂ (place k c) 0) b)
            (λ e. eq-eqb (get_or s₂ (place k c) 0) b (Q.kept (place k c) (eqb-true _ b e)))),
      )

  -- the bytes of the pieces are those of the test, and no others
  held_piece : (j : ℕ) → j < t₂ → Throughout (get_or q₂ j 0) (λ u. held k test (spot k u (row_of (get_or q₂ j 0))) ≡ true)
  unfolding place
  held_piece j l u m n =
      let w = W.on j l in
      let R = Q.into j l u m n in
      held_cell k ready.sheet.disjoint test u (row_of (get_or q₂ j 0)) (omega (arith, w.1)) w.0
      ∙ is_newly (cell_of u (row_of (get_or q₂ j 0))) (reach_open R.reach) R.marked

  byte : (n : ℕ) → get_or s₃ n 0 ≡ cond (held k test n) ink (get_or s n 0)
  unfolding held place
  byte n = by (held k test n) refl
    where
      by : (t : Bool) → held k test n ≡ t → get_or s₃ n 0 ≡ cond t ink (get_or s n 0)
      by true e =
          let F = found (cell_at k n) (halves (on_sheet k (cell_at k n)) (test (cell_at k n)) e).1 in
          let at : spot k F.column (row_of (get_or q₂ F.piece 0)) ≡ n = sym (ap (place k) F.is) ∙ place-cell_at k n in
          subst (λ (m : ℕ). get_or s₃ m 0 ≡ ink) at (P.inside F.piece F.below F.column F.low F.high)
      by false e =
          let none : (j : ℕ) → j < t₂ → Throughout (get_or q₂ j 0) (λ u. n ≡ spot k u (row_of (get_or q₂ j 0)) → ⊥)
          = λ j l u p q f. true≢false (sym (held_piece j l u p q) ∙ ap (held k test) (sym f) ∙ e) in
          P.outside n none ∙ old none (ℕ_discrete (get_or s₂ n 0) b) (ℕ_discrete (get_or s n 0) b)
        where
          old : ((j : ℕ) → j < t₂ → Throughout (get_or q₂ j 0) (λ u. n ≡ spot k u (row_of (get_or q₂ j 0)) → ⊥))
              → Dec (get_or s₂ n 0 ≡ b) → Dec (get_or s n 0 ≡ b) → get_or s₂ n 0 ≡ get_or s n 0
          old none (yes f) (yes g) = f ∙ sym g
          old none (yes f) (no g) = let z = Q.from n g f in absurd (none z.0 z.2 z.1 z.3 z.4 z.5)
          old none (no f) g = Q.same n f

  flooded : Flooded k b ink x y s (total q₂ t₂) s₃
  flooded =
      record {
        test = test;
        decides = decides;
        number = number;
        paints =
            ext_get_or 0 s₃ (paint k ink test s) (P.size ∙ W.grown.sheet_size ∙ sym (paint_length k ink test s))
            (λ n l. byte n ∙ sym (paint_byte k ink test s n (omega (arith, P.size, W.grown.sheet_size))));
      }

  -- and it is in the rows of the pieces
  pub flooded_in : FloodedIn k b ink x y s (total q₂ t₂) s₃ q₂ t₂
  unfolding place flooded
  flooded_in =
      record {
        flooded = flooded;
        rows =
            record {
              some = λ j l.
                  let w = W.on j l in
                  let u = left_of (get_or q₂ j 0) in
                  let R = Q.into j l u (omega arith) (omega arith) in
                  (u, record { column = omega (arith, w.1); row = w.0; marked = is_newly (cell_of u (row_of (get_or q₂ j 0))) (reach_open R.reach) R.marked });
              all = λ u v m. let F = found (cell_of u v) m.marked in (F.piece, F.below, ap (λ (c : Cell). nat_abs c.y) (sym F.is));
            };
      }
