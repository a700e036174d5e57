-- Painting the cells of which a test of column and row holds.
use Prim.Native.Nat.{ℕ, ◌+◌, ◌-◌, ◌*◌, ◌≤◌, ◌<◌, min}
use mathlib.Core.Path.{◌≡◌, refl, sym, ap, ◌∙◌}
use mathlib.Core.Logic.{◌⊎◌, inl, inr, ⊎_elim}
use mathlib.Core.List.{List}
use mathlib.Core.Bool.{Bool, ◌&&◌, ◌||◌}
use native.Mathlib.Omega.{arith}
use lib.ListN.{length, set, length-set}
use lib.Dec.{T, leb, ltb, eqb, leb→le, le→leb, ltb→lt, lt→ltb, eqb→eq}
use Rattle.laws.proofs.Products.{lt_or_ge}
use Rattle.laws.proofs.Tests.{and_l, and_r, and_i, or_l, or_r, or_e, same, is_false, eqb_of}
use Rattle.sheet.specs.Sheet.{paint, place, cell_of, is_cell}
use Rattle.sheet.specs.Inner.{Sheet}
use Rattle.sheet.specs.declared.Cell.{Cell}
use Rattle.sheet.specs.declared.Shape.{Shape}
use Rattle.sheet.proofs.Limits.{still_sheet}
use Rattle.sheet.proofs.Paint.{paint_none, paint_as, paint_then, paint_one, paint_length}
use Rattle.ring.specs.Inner.{cells, off, run, part, band}

-- on the sheet, a test is either of two
pub is_either : (k : Shape) (p q r : ℕ → ℕ → Bool)
    → ((i j : ℕ) → i < k.width → j < k.height → T (p i j) → T (r i j))
    → ((i j : ℕ) → i < k.width → j < k.height → T (q i j) → T (r i j))
    → ((i j : ℕ) → i < k.width → j < k.height → T (r i j) → T (p i j) ⊎ T (q i j))
    → (i j : ℕ) → i < k.width → j < k.height → (p i j || q i j) ≡ r i j
is_either k p q r f g h i j a b =
    same (p i j || q i j) (r i j)
    (λ w. ⊎_elim (f i j a b) (g i j a b) (or_e (p i j) (q i j) w))
    (λ w. ⊎_elim (or_l (p i j) (q i j)) (or_r (p i j) (q i j)) (h i j a b w))

module _ (k : Shape) (ink : ℕ) where
  -- on the sheet, one test is the other: they paint alike
  cells_as : (p q : ℕ → ℕ → Bool) (s t : List ℕ)
      → ((i j : ℕ) → i < k.width → j < k.height → T (p i j) → T (q i j)) → ((i j : ℕ) → i < k.width → j < k.height → T (q i j) → T (p i j))
      → t ≡ paint k ink (cells p) s → t ≡ paint k ink (cells q) s
  cells_as p q s t f g e = e ∙ paint_as k ink (cells p) (cells q) s (λ i j a b. same (p i j) (q i j) (f i j a b) (g i j a b))

  -- on the sheet it holds of no cell: nothing is painted
  pub cells_none : (p : ℕ → ℕ → Bool) (s : List ℕ) → ((i j : ℕ) → i < k.width → j < k.height → T (p i j) → ⊥) → s ≡ paint k ink (cells p) s
  cells_none p s f = sym (paint_none k ink (cells p) s (λ i j a b. is_false (p i j) (f i j a b)))

  -- the cells of one test and then those of another: those of either
  pub cells_then : (p q r : ℕ → ℕ → Bool) (s t u : List ℕ)
      → ((i j : ℕ) → i < k.width → j < k.height → T (p i j) → T (r i j))
      → ((i j : ℕ) → i < k.width → j < k.height → T (q i j) → T (r i j))
      → ((i j : ℕ) → i < k.width → j < k.height → T (r i j) → T (p i j) ⊎ T (q i j))
      → t ≡ paint k ink (cells p) s → u ≡ paint k ink (cells q) t → u ≡ paint k ink (cells r) s
  cells_then p q r s t u f g h d e =
      e ∙ ap (paint k ink (cells q)) d ∙ paint_then k ink (cells p) (cells q) s
      ∙ paint_as k ink (λ (c : Cell). cells p c || cells q c) (cells r) s (is_either k p q r f g h)

  -- what is painted is a sheet still
  pub sheet_still : (f : Cell → Bool) (s t : List ℕ) → t ≡ paint k ink f s → Sheet k s → Sheet k t
  sheet_still f s t e z = still_sheet k s t (ap length e ∙ paint_length k ink f s) z

-- the tests of one row, both ways
module _ (row l r i j : ℕ) where
  run→ : T (run row l r i j) → (j ≡ row) × (l ≤ i) × (i < r)
  unfolding run
  run→ t = (search (eqb→eq, and_l), search (leb→le, and_l, and_r), search (ltb→lt, and_r))

  →run : j ≡ row → l ≤ i → i < r → T (run row l r i j)
  unfolding run
  →run p q s = and_i (eqb j row) (leb l i && ltb i r) (eqb_of j row p) (and_i (leb l i) (ltb i r) (le→leb l i q) (lt→ltb i r s))

  part→ : T (part row l r i j) → (j ≡ row) × (l ≤ i + 65536) × (i + 65536 ≤ r)
  unfolding part
  part→ t = (search (eqb→eq, and_l), search (leb→le, and_l, and_r), search (leb→le, and_r))

  →part : j ≡ row → l ≤ i + 65536 → i + 65536 ≤ r → T (part row l r i j)
  unfolding part
  →part p q s = search (and_i, eqb_of, le→leb)

module _ (row m l h i j : ℕ) where
  pub band→ : T (band row m l h i j) → (j ≡ row) × (l ≤ off m i) × (off m i ≤ h)
  unfolding band
  band→ t = (search (eqb→eq, and_l), search (leb→le, and_l, and_r), search (leb→le, and_r))

  pub →band : j ≡ row → l ≤ off m i → off m i ≤ h → T (band row m l h i j)
  unfolding band
  →band p q s = search (and_i, eqb_of, le→leb)

module _ (k : Shape) (ink row : ℕ) where
  -- one byte set is a run of one column
  run_one : {s : List ℕ} → Sheet k s → (x : ℕ) (t : List ℕ) → x < k.width → row < k.height
      → set t (row * k.pitch + x) ink ≡ paint k ink (cells (run row x (x + 1))) t
  unfolding place is_cell
  run_one S x t a b =
      sym (paint_one k ink S.disjoint x row t a b)
      ∙ paint_as k ink (is_cell (cell_of x row)) (cells (run row x (x + 1))) t (λ i j c d.
      same (eqb i x && eqb j row) (run row x (x + 1) i j) (to i j) (from i j))
    where
      to : (i j : ℕ) → T (eqb i x && eqb j row) → T (run row x (x + 1) i j)
      to i j t =
          let e = eqb→eq i x (and_l (eqb i x) (eqb j row) t) in
          →run row x (x + 1) i j (eqb→eq j row (and_r (eqb i x) (eqb j row) t)) (omega arith) (omega arith)

      from : (i j : ℕ) → T (run row x (x + 1) i j) → T (eqb i x && eqb j row)
      from i j t =
          let w = run→ row x (x + 1) i j t in
          let e : i ≡ x = omega arith in
          and_i (eqb i x) (eqb j row) (eqb_of i x e) (eqb_of j row w.0)

-- a run of a row of bytes, as far as it has come: on each sheet of that pitch that has the row
pub record Running (pitch ink row from past : ℕ) (s t : List ℕ) (at : ℕ) : Type 0 where
  pub order : from ≤ at
  pub within : at ≤ past
  pub size : length t ≡ length s
  pub painted : (k : Shape) → Sheet k s → k.pitch ≡ pitch → row < k.height → past ≤ k.width → t ≡ paint k ink (cells (run row from at)) s

pub running : (pitch ink row from past : ℕ) (s : List ℕ) → from ≤ past → Running pitch ink row from past s s from
running pitch ink row from past s l =
    record {
      order = omega arith;
      within = l;
      size = refl;
      painted = λ k S e h w. cells_none k ink (run row from from) s (λ i j a b t. omega (arith, run→ row from from i j t));
    }

pub runs_on : {pitch ink row from past : ℕ} {s t : List ℕ} {at : ℕ} → at < past → Running pitch ink row from past s t at
    → Running pitch ink row from past s (set t (row * pitch + at) ink) (at + 1)
runs_on {pitch} {ink} {row} {from} {past} {s} {t} {at} l R =
    record {
      order = omega (arith, R.order);
      within = omega arith;
      size = length-set t (row * pitch + at) ink ∙ R.size;
      painted = λ k S e h w.
          cells_then k ink (run row from at) (run row at (at + 1)) (run row from (at + 1)) s t (set t (row * pitch + at) ink)
          (λ i j a b u. let z = run→ row from at i j u in →run row from (at + 1) i j z.0 z.1 (omega arith))
          (λ i j a b u. let z = run→ row at (at + 1) i j u in →run row from (at + 1) i j z.0 (omega (arith, R.order)) (omega arith))
          (λ i j a b u.
          let z = run→ row from (at + 1) i j u in
          elim (lt_or_ge i at) [
            | inl m ↦ inl (→run row from at i j z.0 z.1 m)
            | inr m ↦ inr (→run row at (at + 1) i j z.0 m z.2)
          ])
          (R.painted k S e h w)
          (ap (λ (n : ℕ). set t (row * n + at) ink) (sym e) ∙ run_one k ink row S at t (omega arith) h);
    }

-- a run by its ends and what is between them
module _ (k : Shape) (ink row first last : ℕ) (s : List ℕ) (S : Sheet k s) (h : row < k.height) (o : first ≤ last) (w : last < k.width) where
  abbrev pub ends : List ℕ
  ends = set (set s (row * k.pitch + first) ink) (row * k.pitch + last) ink

  at_ends : ℕ → ℕ → Bool
  at_ends i j = run row first (first + 1) i j || run row last (last + 1) i j

  ends_inked : ends ≡ paint k ink (cells at_ends) s
  unfolding at_ends
  ends_inked =
      cells_then k ink (run row first (first + 1)) (run row last (last + 1)) at_ends s (set s (row * k.pitch + first) ink) ends
      (λ i j a b t. or_l (run row first (first + 1) i j) (run row last (last + 1) i j) t)
      (λ i j a b t. or_r (run row first (first + 1) i j) (run row last (last + 1) i j) t)
      (λ i j a b t. or_e (run row first (first + 1) i j) (run row last (last + 1) i j) t)
      (run_one k ink row S first s (omega arith) h)
      (run_one k ink row S last (set s (row * k.pitch + first) ink) w h)

  pub run_filled : (t : List ℕ) → t ≡ paint k ink (cells (run row (first + 1) last)) ends → t ≡ paint k ink (cells (run row first (last + 1))) s
  unfolding at_ends
  run_filled t e =
      cells_then k ink at_ends (run row (first + 1) last) (run row first (last + 1)) s ends t
      (λ i j a b u. elim (or_e (run row first (first + 1) i j) (run row last (last + 1) i j) u) [
        | inl m ↦ let z = run→ row first (first + 1) i j m in →run row first (last + 1) i j z.0 z.1 (omega arith)
        | inr m ↦ let z = run→ row last (last + 1) i j m in →run row first (last + 1) i j z.0 (omega arith) z.2
      ])
      (λ i j a b u. let z = run→ row (first + 1) last i j u in →run row first (last + 1) i j z.0 (omega arith) (omega arith))
      (λ i j a b u.
      let z = run→ row first (last + 1) i j u in
      elim (lt_or_ge i (first + 1)) [
        | inl m ↦ inl (or_l (run row first (first + 1) i j) (run row last (last + 1) i j) (→run row first (first + 1) i j z.0 z.1 m))
        | inr m ↦ elim (lt_or_ge i last) [
          | inl n ↦ inr (→run row (first + 1) last i j z.0 m n)
          | inr n ↦ inl (or_r (run row first (first + 1) i j) (run row last (last + 1) i j) (→run row last (last + 1) i j z.0 n z.2))
        ]
      ])
      ends_inked e

  pub ends_alone : last ≤ first + 1 → ends ≡ paint k ink (cells (run row first (last + 1))) s
  ends_alone l = run_filled ends (cells_none k ink (run row (first + 1) last) ends (λ i j a b t. omega (arith, run→ row (first + 1) last i j t)))

  pub sheet_ends : Sheet k ends
  sheet_ends =
      still_sheet k s ends
      (length-set (set s (row * k.pitch + first) ink) (row * k.pitch + last) ink ∙ length-set s (row * k.pitch + first) ink) S

-- the columns of the moved plane that are on the sheet
module _ (k : Shape) (ink row first last l r : ℕ) (s t : List ℕ) (e : l ≡ first - 65536) (f : r ≡ min (last + 1 - 65536) k.width) where
  pub part_run : l < r → t ≡ paint k ink (cells (run row l (r - 1 + 1))) s → t ≡ paint k ink (cells (part row first last)) s
  part_run o =
      cells_as k ink (run row l (r - 1 + 1)) (part row first last) s t
      (λ i j a b u. let z = run→ row l (r - 1 + 1) i j u in →part row first last i j z.0 (omega arith) (omega arith))
      (λ i j a b u. let z = part→ row first last i j u in →run row l (r - 1 + 1) i j z.0 (omega arith) (omega arith))

  pub part_none : r ≤ l → s ≡ paint k ink (cells (part row first last)) s
  part_none o = cells_none k ink (part row first last) s (λ i j a b u. let z = part→ row first last i j u in omega arith)

-- what is low to high off a coordinate is on either side of it
module _ (k : Shape) (ink row m low high : ℕ) (s t u : List ℕ) (o : low ≤ high) where
  pub two_runs : (c : ℕ) → m ≡ c + 65536 → high ≤ c → t ≡ paint k ink (cells (run row (c - high) (c - low + 1))) s
      → u ≡ paint k ink (cells (run row (c + low) (c + high + 1))) t → u ≡ paint k ink (cells (band row m low high)) s
  two_runs c e h =
      cells_then k ink (run row (c - high) (c - low + 1)) (run row (c + low) (c + high + 1)) (band row m low high) s t u
      (λ i j a b w. let z = run→ row (c - high) (c - low + 1) i j w in →band row m low high i j z.0 (omega arith) (omega arith))
      (λ i j a b w. let z = run→ row (c + low) (c + high + 1) i j w in →band row m low high i j z.0 (omega arith) (omega arith))
      (λ i j a b w.
      let z = band→ row m low high i j w in
      elim (lt_or_ge m (i + 65536)) [
        | inl g ↦ inr (→run row (c + low) (c + high + 1) i j z.0 (omega arith) (omega arith))
        | inr g ↦ inl (→run row (c - high) (c - low + 1) i j z.0 (omega arith) (omega arith))
      ])

  pub two_parts : high ≤ m → t ≡ paint k ink (cells (part row (m - high) (m - low))) s
      → u ≡ paint k ink (cells (part row (m + low) (m + high))) t → u ≡ paint k ink (cells (band row m low high)) s
  two_parts h =
      cells_then k ink (part row (m - high) (m - low)) (part row (m + low) (m + high)) (band row m low high) s t u
      (λ i j a b w. let z = part→ row (m - high) (m - low) i j w in →band row m low high i j z.0 (omega arith) (omega arith))
      (λ i j a b w. let z = part→ row (m + low) (m + high) i j w in →band row m low high i j z.0 (omega arith) (omega arith))
      (λ i j a b w.
      let z = band→ row m low high i j w in
      elim (lt_or_ge m (i + 65536)) [
        | inl g ↦ inr (→part row (m + low) (m + high) i j z.0 (omega arith) (omega arith))
        | inr g ↦ inl (→part row (m - high) (m - low) i j z.0 (omega arith) (omega arith))
      ])
