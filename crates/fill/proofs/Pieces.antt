-- Runs of places that got an ink, and pieces of rows that were queued.
use Prim.Native.Nat.{ℕ, zero, suc, ◌+◌, ◌*◌, ◌/◌, ◌%◌, ◌<◌, ◌≤◌}
use mathlib.Core.Path.{◌≡◌, refl, ap, ◌∙◌}
use mathlib.Core.List.{List}
use native.Mathlib.Omega.{arith}
use native.Mathlib.Numerals.{add-one}
use native.Mathlib.Decide.{dec_lt}
use lib.ListN.{length, get_or, set, length-set}
use lib.Seq.{get_or-set_same, get_or-set_other}
use Rattle.fill.specs.Inner.{piece_of, row_of, left_of, right_of, total, Within, Queued}

-- the cells of the first pieces
pub total_none : (q : List ℕ) → total q 0 ≡ 0
unfolding total
total_none q = refl

pub total_more : (q : List ℕ) (t : ℕ) → total q (t + 1) ≡ total q t + (get_or q t 0 % 256 + 1)
unfolding total
total_more q t = rw add-one refl

pub total_as : (q q' : List ℕ) (t : ℕ) → ((j : ℕ) → j < t → get_or q' j 0 ≡ get_or q j 0) → total q' t ≡ total q t
unfolding total
total_as q q' zero h = refl
total_as q q' (suc t) h = let e : get_or q' t 0 ≡ get_or q t 0 = h t (omega arith) in rw (e, total_as q q' t (λ j l. h j (omega arith)))

-- at most 256 each
pub total_most : (q : List ℕ) (t : ℕ) → total q t ≤ t * 256
unfolding total
total_most q zero = omega arith
total_most q (suc t) = omega (arith, total_most q t)

-- a piece read back
module _ (y x z : ℕ) (low : x < z) (high : z ≤ 4096) (short : z ≤ x + 256) where
  pub piece_row : row_of (piece_of y x z) ≡ y
  piece_row = omega arith

  pub piece_left : left_of (piece_of y x z) ≡ x
  piece_left = let e : piece_of y x z / 256 ≡ y * 4096 + x = omega arith in omega (arith, e)

  pub piece_cells : piece_of y x z % 256 + 1 + x ≡ z
  piece_cells = omega arith

  pub piece_right : right_of (piece_of y x z) ≡ z
  piece_right = omega (arith, piece_left, piece_cells)

-- one more
module _ {y l x z t t' : ℕ} {q q' : List ℕ} (Q : Queued y l x q t q' t') (from : l ≤ x) (low : x < z) (high : z ≤ 4096) (short : z ≤ x + 256)
    (fits : t' < length q') where
  abbrev one : ℕ
  one = piece_of y x z

  abbrev new : List ℕ
  new = set q' t' one

  old_same : (j : ℕ) → j < t' → get_or new j 0 ≡ get_or q' j 0
  old_same j m = get_or-set_other q' t' j one 0 (omega arith)

  new_same : get_or new t' 0 ≡ one
  new_same = get_or-set_same q' t' one 0 fits

  queued_within : (j : ℕ) → t ≤ j → j < t' + 1 → Dec (j < t') → Within y l z (get_or new j 0)
  queued_within j g m (yes u) =
      let w = Q.within j g u in
      rw (old_same j u) (record { row = w.row; low = w.low; high = omega (arith, w.high) })
  queued_within j g m (no u) =
      let e : j ≡ t' = omega arith in
      rw (e, new_same)
      (record { row = piece_row y x z low high short; low = omega (arith, piece_left y x z low high short); high = omega (arith, piece_right y x z low high short) })

  queued_covers : (c : ℕ) → l ≤ c → c < z → Dec (c < x)
      → (j : ℕ) × (t ≤ j) × (j < t' + 1) × (left_of (get_or new j 0) ≤ c) × (c < right_of (get_or new j 0))
  queued_covers c g m (yes u) =
      let w = Q.covers c g u in
      let e = old_same w.0 w.2 in
      (w.0, w.1, omega arith, rw e w.3, rw e w.4)
  queued_covers c g m (no u) = (
    t',
    Q.more,
    omega arith,
    rw new_same (omega (arith, piece_left y x z low high short)),
    rw new_same (omega (arith, piece_right y x z low high short)),
  )

  pub queued_more : Queued y l z q t new (t' + 1)
  queued_more =
      record {
        size = length-set q' t' one ∙ Q.size;
        more = omega (arith, Q.more);
        few = omega (arith, Q.few);
        front = λ j m. old_same j (omega (arith, Q.more)) ∙ Q.front j m;
        within = λ j g m. queued_within j g m (dec_lt j t');
        covers = λ c g m. queued_covers c g m (dec_lt c x);
        number = omega (
          arith,
          Q.number,
          total_more new t',
          total_as q' new t' old_same,
          ap (λ (e : ℕ). e % 256) new_same,
          piece_cells y x z low high short,
        );
      }
