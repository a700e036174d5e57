-- What the callee told, told on to C: the number, and the value.
use Prim.Native.Nat.{ℕ, ◌<◌}
use mathlib.Core.Path.{◌≡◌, refl, sym, subst, ap, ap₂, ◌∙◌}
use mathlib.Core.List.{List, [], ◌∷◌}
use mathlib.Core.Bool.{Bool, true, false}
use native.Mathlib.Omega.{arith}
use lib.Dec.{eqb}
use lib.IntN.{ℤ, pos}
use lib.ListN.{length}
use Rattle.std.specs.Prelude.{Result, Ok, Err}
use mir.Syntax.{w32}
use mir.Val.{SFits, to_z, of_z}
use mir.Facts.{to_z-of_z}
use Rattle.sheet.specs.Sheet.{cell}
use Rattle.sheet.specs.Reply as reply
use Rattle.sheet.specs.Reply.{Answer, number, refuse, told, test_answer, with_box, unless, is_done, value_of, settled}
use Rattle.sheet.specs.Repaint.{nothing}
use Rattle.sheet.specs.Drawing.{if_sheet, box_all, Drawing, Draws}
use Rattle.sheet.specs.Inner.{fits}
use Rattle.sheet.specs.declared.Cell.{Cell}
use Rattle.sheet.specs.declared.Shape.{Shape}
use Rattle.sheet.specs.declared.Figure.{Figure}
use Rattle.sheet.specs.declared.refusal.Refusal.{Refusal}
use Rattle.sheet.proofs.Lent.{sheet_cases}
use Rattle.sheet.proofs.Unique.{number_not_0}
use Rattle.line.specs.Listing.{list_answer, ListsInto}
use Rattle.fill.specs.Fill.{fill_drawing, FillsAs, Spares}
use Rattle.record.specs.Writing.{write_answer, Writes}
use Rattle.record.proofs.Written.{writes_as}
use Rattle.pistonwool.specs.Inner.{reply_number}
use Rattle.pistonwool.specs.Told.{numbered, counted, Keeps, box_numbers, DrawsInto}

-- a cell, as the machine reads its coordinates back from their bits
pub cell_back : (x y : ℤ) → SFits w32 x → SFits w32 y → cell (to_z w32 (of_z w32 x)) (to_z w32 (of_z w32 y)) ≡ cell x y
cell_back x y f g = ap₂ cell (to_z-of_z f) (to_z-of_z g)

-- the number of a test is that of its answer
pub test_number : (r : Result (Unit {0}) Refusal) → reply_number r ≡ (told test_answer r).number
test_number (Ok a) = refl
test_number (Err r) = refl

-- an answer that is a refusal, or done with values of a form
pub data Tells (P : List ℤ → Type 0) : (a : Answer) → Type 0 where
  refused : (r : Refusal) → Tells P (refuse r)
  done : (v : List ℤ) → P v → Tells P (reply.done v)

pub unless_tells : {P : List ℤ → Type 0} (t : Bool) (r : Refusal) (a : Answer) → (t ≡ true → Tells P a) → Tells P (unless t r a)
unless_tells true r a h = h refl
unless_tells false r a h = refused r

pub sheet_tells : {P : List ℤ → Type 0} (k : Shape) (n : ℕ) (a : Answer) → (fits k n ≡ true → Tells P a) → Tells P (if_sheet k n a)
sheet_tells {P} k n a h = sheet_cases k n (Tells P) a refused h

-- with none: C is told the number
abbrev pub None : List ℤ → Type 0
None v = v ≡ []

pub number_told : (a : Answer) → Tells None a → a ≡ numbered a.number
number_told _ (Tells.refused r) = refl
number_told _ (Tells.done v e) = ap reply.done e

-- a drawing's answer, told with its rectangle
module _ (d : Drawing) (s t : List ℕ) (a : Answer) (h : Draws d s a t) where
  told_with : (b : Answer) → d.answer (length s) ≡ b → a ≡ with_box b a.box
  told_with b e =
      let x = settled (d.answer (length s)) (box_all d.shape d.figures) nothing in
      let told : a ≡ with_box (d.answer (length s)) x = h.tells in
      let same : x ≡ a.box = sym (ap (λ (o : Answer). o.box) told) in
      told ∙ (λ i. with_box (e i) (same i))

  -- and its four numbers
  pub into : (b : Answer) (before after : List ℕ) → d.answer (length s) ≡ b → after ≡ settled a (box_numbers a.box) before → DrawsInto d s b t before after
  into b before after e f =
      let q = told_with b e in
      record {
        rectangle = a.box;
        draws = subst (λ (o : Answer). Draws d s o t) q h;
        boxes = f ∙ ap (λ (o : Answer). settled o (box_numbers a.box) before) q;
      }

  pub same_number : a.number ≡ (d.answer (length s)).number
  same_number = ap (λ (o : Answer). o.number) h.tells

  pub draws_number : (n : ℕ) (before after : List ℕ) → Tells None (d.answer (length s)) → n ≡ a.number
      → after ≡ settled a (box_numbers a.box) before → DrawsInto d s (numbered n) t before after
  draws_number n before after p e f = into (numbered n) before after (number_told (d.answer (length s)) p ∙ ap numbered (sym (e ∙ same_number))) f

-- with one: C is told the number and, where it is 0, the value
pub record Value (v : List ℤ) : Type 0 where
  pub n : ℕ
  pub is : v ≡ pos n ∷ []

pub value_told : (a : Answer) → Tells Value a → (n v before : ℕ) → n ≡ a.number → v ≡ settled a (value_of a) before → (a ≡ counted n v) × Keeps n before v
value_told _ (Tells.refused r) n v before e f =
    let no : eqb (number r) 0 ≡ false = number_not_0 r in
    (rw e (simp no), λ z. f ∙ simp no)
value_told _ (Tells.done w p) n v before e f = (rw (e, f) (ap reply.done p.is ∙ rw p.is), λ z. absurd (z e))

-- with one that fits 32 bits
pub record One (v : List ℤ) : Type 0 where
  pub n : ℕ
  pub is : v ≡ pos n ∷ []
  pub small : n < 4294967296

as_value : (a : Answer) → Tells One a → Tells Value a
as_value _ (Tells.refused r) = Tells.refused r
as_value _ (Tells.done v p) = Tells.done v (record { n = p.n; is = p.is })

one_small : (a : Answer) → Tells One a → value_of a < 4294967296
one_small _ (Tells.refused r) = omega arith
one_small _ (Tells.done v p) = subst (λ (n : ℕ). n < 4294967296) (sym (ap (λ (v : List ℤ). value_of (reply.done v)) p.is)) p.small

count_told : (a : Answer) → Tells One a → (n v before : ℕ) → n ≡ a.number → v ≡ settled a (value_of a) before → (a ≡ counted n v) × Keeps n before v
count_told a t = value_told a (as_value a t)

module _ (d : Drawing) (s t : List ℕ) (a : Answer) (h : Draws d s a t) (p : Tells One (d.answer (length s))) where
  pub draws_small : value_of a < 4294967296
  draws_small = subst (λ (n : ℕ). n < 4294967296) (sym (ap value_of h.tells)) (one_small (d.answer (length s)) p)

  pub draws_count : (n v cells : ℕ) (before after : List ℕ) → (n ≡ a.number) × (v ≡ settled a (value_of a) cells)
      → after ≡ settled a (box_numbers a.box) before → DrawsInto d s (counted n v) t before after × Keeps n cells v
  draws_count n v cells before after e f =
      let told : v ≡ settled (d.answer (length s)) (value_of (d.answer (length s))) cells = e.1 ∙ ap (λ (o : Answer). settled o (value_of o) cells) h.tells in
      let q = count_told (d.answer (length s)) p n v cells (e.0 ∙ same_number d s t a h) told in
      (into d s t a h (counted n v) before after q.0 f, q.1)

-- the same of a fill
module _ {made : Drawing → Drawing} {k : Shape} {a : Cell} {b i p : ℕ} {s t : List ℕ} {r : Answer} (h : FillsAs made k a b i p s r t)
    (q : Tells One ((made (fill_drawing k a i h.territory p)).answer (length s))) where
  fill_told : Tells One r
  fill_told = subst (Tells One) (sym h.draws.tells) q

  pub fills_small : value_of r < 4294967296
  fills_small = one_small r fill_told

  pub fills_count : {w w' : List ℕ} (n v before : ℕ) (c : Cell) → a ≡ c → Spares r w w' → (n ≡ r.number) × (v ≡ settled r (value_of r) before)
      → FillsAs made k c b i p s (counted n v) t × (Keeps n before v × Spares (counted n v) w w')
  fills_count {w} {w'} n v before c f spares e =
      let told = count_told r fill_told n v before e.0 e.1 in (
        subst (λ (d : Cell). FillsAs made k d b i p s (counted n v) t) f (subst (λ (o : Answer). FillsAs made k a b i p s o t) told.0 h),
        (told.1, subst (λ (o : Answer). Spares o w w') told.0 spares),
      )

-- the same of a listing
pub lists_as : (a b c d : Cell) (xs ys xs' ys' : List ℤ) (r : Answer) → a ≡ c → b ≡ d → ListsInto a b xs ys r xs' ys' → ListsInto c d xs ys r xs' ys'
lists_as a b c d xs ys xs' ys' r e f h = rw (← e, ← f) h

pub lists_small : (a b : Cell) (xs ys xs' ys' : List ℤ) (r : Answer) → ListsInto a b xs ys r xs' ys' → Tells One (list_answer (length xs) (length ys) a b) → value_of r < 4294967296
lists_small a b xs ys xs' ys' r h p = one_small r (subst (Tells One) (sym h.tells) p)

pub lists_count : (a b : Cell) (xs ys xs' ys' : List ℤ) (r : Answer) (n v before : ℕ) → ListsInto a b xs ys r xs' ys' → Tells One (list_answer (length xs) (length ys) a b)
    → (n ≡ r.number) × (v ≡ settled r (value_of r) before) → ListsInto a b xs ys (counted n v) xs' ys' × Keeps n before v
lists_count a b xs ys xs' ys' r n v before h p e =
    let q = count_told r (subst (Tells One) (sym h.tells) p) n v before e.0 e.1 in
    (subst (λ (c : Answer). ListsInto a b xs ys c xs' ys') q.0 h, q.1)

-- the same of writing a record, whose count may have 64 bits, and of an equal figure
pub writes_count : (filled ink : ℕ) (f g : Figure) (s t : List ℕ) (a : Answer) (n v : ℕ) → f ≡ g → Writes filled ink f s a t
    → Tells Value (write_answer filled f (length s)) → (n ≡ a.number) × (v ≡ settled a (value_of a) filled)
    → Writes filled ink g s (counted n v) t × Keeps n filled v
writes_count filled ink f g s t a n v same h p e =
    let q = value_told a (subst (Tells Value) (sym h.tells) p) n v filled e.0 e.1 in
    (writes_as filled ink f g s (counted n v) t same (subst (λ (b : Answer). Writes filled ink f s b t) q.0 h), q.1)
