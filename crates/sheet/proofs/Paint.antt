-- The laws of painting: what loops carry, and what a reader may conclude.
use Prim.Native.Nat.{ℕ, ◌<◌}
use mathlib.Core.Path.{◌≡◌, refl, sym, subst, ap, ◌∙◌}
use mathlib.Core.List.{List, [], ◌∷◌}
use mathlib.Core.Bool.{Bool, true, false, cond, ◌&&◌, ◌||◌, and-false, and-or_distrib_left, or_self}
use native.Mathlib.Omega.{arith}
use lib.ListN.{length, get_or, set}
use lib.Dec.{T, eqb, eqb→eq}
use Rattle.laws.proofs.Tests.{and_r, and_i, same, from_true, eqb_of}
use Rattle.sheet.specs.Sheet.{on_sheet, place, cell_of, cell_at, held, paint, is_cell}
use Rattle.sheet.specs.Pitch.{Padding}
use Rattle.sheet.specs.Drawing.{Inked, paint_all}
use Rattle.sheet.specs.Inner.{Disjoint}
use Rattle.sheet.specs.declared.Cell.{Cell}
use Rattle.sheet.specs.declared.Shape.{Shape}
use Rattle.sheet.proofs.Cells.{on_sheet_lem, sheet_cell, in_sheet, is_cell→, is_cell_refl, cell_at-place, place-cell_at}
use Rattle.sheet.proofs.Places.{length_by, get_or_by, by_as, by_none, by_then, by_one}

-- two inks of one place
twice : (ink : ℕ) (a b : Bool) (v : ℕ) → cond b ink (cond a ink v) ≡ cond (a || b) ink v
twice ink true true v = refl
twice ink true false v = refl
twice ink false true v = refl
twice ink false false v = refl

-- a byte is held by its cell: figures that agree on the sheet, a figure with no cell on it, one figure or another
module _ (k : Shape) where
  pub held_as : (f g : Cell → Bool) → ((x y : ℕ) → x < k.width → y < k.height → f (cell_of x y) ≡ g (cell_of x y)) → (n : ℕ) → held k f n ≡ held k g n
  unfolding held cell_at
  held_as f g h n = by (on_sheet k (cell_at k n)) refl
    where
      by : (t : Bool) → on_sheet k (cell_at k n) ≡ t → (t && f (cell_at k n)) ≡ (t && g (cell_at k n))
      by true e = let b = in_sheet k _ _ e in h _ _ b.0 b.1
      by false e = refl

  pub held_none : (f : Cell → Bool) → ((x y : ℕ) → x < k.width → y < k.height → f (cell_of x y) ≡ false) → (n : ℕ) → held k f n ≡ false
  unfolding held
  held_none f h n = held_as f (λ c. false) h n ∙ and-false (on_sheet k (cell_at k n))

  pub held_then : (f g : Cell → Bool) (n : ℕ) → (held k f n || held k g n) ≡ held k (λ (c : Cell). f c || g c) n
  unfolding held
  held_then f g n = sym (and-or_distrib_left (on_sheet k (cell_at k n)) (f (cell_at k n)) (g (cell_at k n)))

  -- padding is no cell's
  pub held_padding : (f : Cell → Bool) (n : ℕ) → Padding k n → held k f n ≡ false
  unfolding held cell_at
  held_padding f n l = by (on_sheet k (cell_at k n)) refl
    where
      by : (t : Bool) → on_sheet k (cell_at k n) ≡ t → (t && f (cell_at k n)) ≡ false
      by true e = absurd (omega (arith, (in_sheet k _ _ e).0))
      by false e = refl

  -- the byte of a cell on the sheet
  pub held_cell : Disjoint k → (f : Cell → Bool) (x y : ℕ) → x < k.width → y < k.height → held k f (place k (cell_of x y)) ≡ f (cell_of x y)
  unfolding held
  held_cell w f x y a b =
      ap (λ (c : Cell). on_sheet k c && f c) (cell_at-place k x y (omega arith)) ∙ ap (λ (t : Bool). t && f (cell_of x y)) (on_sheet_lem k x y a b)

-- the byte of one cell
module _ (k : Shape) (w : Disjoint k) (x y : ℕ) (a : x < k.width) (b : y < k.height) (n : ℕ) where
  at_cell : T (held k (is_cell (cell_of x y)) n) → T (eqb n (place k (cell_of x y)))
  unfolding held
  at_cell t =
      let e = is_cell→ (cell_of x y) (cell_at k n) (and_r (on_sheet k (cell_at k n)) (is_cell (cell_of x y) (cell_at k n)) t) in
      eqb_of n (place k (cell_of x y)) (sym (place-cell_at k n) ∙ ap (place k) e)

  cell_held : T (eqb n (place k (cell_of x y))) → T (held k (is_cell (cell_of x y)) n)
  unfolding held
  cell_held t =
      let e : cell_of x y ≡ cell_at k n = sym (ap (cell_at k) (eqb→eq n (place k (cell_of x y)) t) ∙ cell_at-place k x y (omega arith)) in
      let on = from_true (on_sheet k (cell_of x y)) (on_sheet_lem k x y a b) in
      let own : T (on_sheet k (cell_of x y) && is_cell (cell_of x y) (cell_of x y)) = and_i (on_sheet k (cell_of x y)) (is_cell (cell_of x y) (cell_of x y)) on (is_cell_refl (cell_of x y)) in
      subst (λ (c : Cell). T (on_sheet k c && is_cell (cell_of x y) c)) e own

  pub held_one : held k (is_cell (cell_of x y)) n ≡ eqb n (place k (cell_of x y))
  held_one = same (held k (is_cell (cell_of x y)) n) (eqb n (place k (cell_of x y))) at_cell cell_held

module _ (k : Shape) (ink : ℕ) where
  -- figures that agree on the sheet paint alike
  pub paint_as : (f g : Cell → Bool) (s : List ℕ) → ((x y : ℕ) → x < k.width → y < k.height → f (cell_of x y) ≡ g (cell_of x y))
      → paint k ink f s ≡ paint k ink g s
  unfolding paint
  paint_as f g s h = by_as _ _ s (λ n v l. ap (λ (t : Bool). cond t ink v) (held_as k f g h n))

  -- a figure with no cell on the sheet changes nothing
  pub paint_none : (f : Cell → Bool) (s : List ℕ) → ((x y : ℕ) → x < k.width → y < k.height → f (cell_of x y) ≡ false) → paint k ink f s ≡ s
  unfolding paint
  paint_none f s h = by_as _ (λ (n v : ℕ). v) s (λ n v l. rw (held_none k f h n)) ∙ by_none s

  -- one figure after another, in one ink, is both
  pub paint_then : (f g : Cell → Bool) (s : List ℕ) → paint k ink g (paint k ink f s) ≡ paint k ink (λ (c : Cell). f c || g c) s
  unfolding paint
  paint_then f g s =
      by_then _ _ s
      ∙ by_as _ _ s (λ n v l. twice ink (held k f n) (held k g n) v ∙ ap (λ (t : Bool). cond t ink v) (held_then k f g n))

  -- one cell of the sheet is one byte
  pub paint_one : Disjoint k → (x y : ℕ) (s : List ℕ) → x < k.width → y < k.height
      → paint k ink (is_cell (cell_of x y)) s ≡ set s (place k (cell_of x y)) ink
  unfolding paint
  paint_one w x y s a b =
      by_as _ (λ (n v : ℕ). cond (eqb n (place k (cell_of x y))) ink v) s (λ n v l. ap (λ (t : Bool). cond t ink v) (held_one k w x y a b n))
      ∙ by_one s (place k (cell_of x y)) ink

  -- the length is kept
  pub paint_length : (f : Cell → Bool) (s : List ℕ) → length (paint k ink f s) ≡ length s
  unfolding paint
  paint_length f s = length_by _ s

  -- each byte of the sheet: the ink where its cell is one of the figure's, and else as before
  pub paint_byte : (f : Cell → Bool) (s : List ℕ) (n : ℕ) → n < length s → get_or (paint k ink f s) n 0 ≡ cond (held k f n) ink (get_or s n 0)
  unfolding paint
  paint_byte f s n l = get_or_by _ s n l

  -- each cell of the sheet, by its place
  pub paint_cell : Disjoint k → (f : Cell → Bool) (s : List ℕ) (c : Cell) → on_sheet k c ≡ true → place k c < length s
      → get_or (paint k ink f s) (place k c) 0 ≡ cond (f c) ink (get_or s (place k c) 0)
  paint_cell w f s c e l =
      let o = sheet_cell k c e in
      let h : held k f (place k c) ≡ f c = rw o.is_cell (held_cell k w f o.column o.row o.in_width o.in_height) in
      paint_byte f s (place k c) l ∙ ap (λ (t : Bool). cond t ink (get_or s (place k c) 0)) h

  -- painting twice is painting once
  pub paint_twice : (f : Cell → Bool) (s : List ℕ) → paint k ink f (paint k ink f s) ≡ paint k ink f s
  paint_twice f s = paint_then f f s ∙ paint_as _ f s (λ x y a b. or_self (f (cell_of x y)))

-- Later over earlier: a figure drawn over one that it covers leaves nothing of it.
pub paint_over : (k : Shape) (f g : Inked) (s : List ℕ) → ((c : Cell) → T (f.figure c) → T (g.figure c))
    → paint_all k (f ∷ g ∷ []) s ≡ paint_all k (g ∷ []) s
unfolding paint held
paint_over k f g s h =
    by_then _ _ s ∙ by_as _ _ s (λ n v l. by (on_sheet k (cell_at k n)) (f.figure (cell_at k n)) (g.figure (cell_at k n)) v (h (cell_at k n)))
  where
    by : (t a b : Bool) (v : ℕ) → (T a → T b) → cond (t && b) g.ink (cond (t && a) f.ink v) ≡ cond (t && b) g.ink v
    by false a b v i = refl
    by true a true v i = refl
    by true false false v i = refl
    by true true false v i = absurd (i tt)

-- Neither over the other: figures with no cell in common may be drawn in either order.
pub paint_swap : (k : Shape) (f g : Inked) (s : List ℕ) → ((c : Cell) → T (f.figure c) → T (g.figure c) → ⊥)
    → paint_all k (f ∷ g ∷ []) s ≡ paint_all k (g ∷ f ∷ []) s
unfolding paint held
paint_swap k f g s h =
    by_then _ _ s
    ∙ by_as _ _ s (λ n v l. by (on_sheet k (cell_at k n)) (f.figure (cell_at k n)) (g.figure (cell_at k n)) v (h (cell_at k n)))
    ∙ sym (by_then _ _ s)
  where
    by : (t a b : Bool) (v : ℕ) → (T a → T b → ⊥) → cond (t && b) g.ink (cond (t && a) f.ink v) ≡ cond (t && a) f.ink (cond (t && b) g.ink v)
    by false a b v i = refl
    by true false b v i = refl
    by true true false v i = refl
    by true true true v i = absurd (i tt tt)
