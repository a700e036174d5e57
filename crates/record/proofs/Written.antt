-- What `Writes` asks at each return of a writer, of a figure and the number of bytes that its record takes.
use Prim.Native.Nat.{ℕ, ◌+◌, ◌-◌, ◌≤◌, ◌<◌}
use mathlib.Core.Path.{◌≡◌, refl, sym, subst, ap, ◌∙◌}
use mathlib.Core.List.{List, [], ◌∷◌}
use mathlib.Core.Bool.{Bool, true, false, true≢false}
use native.Mathlib.Omega.{arith}
use borrow.Author.Tests.{le-leb, lt-leb}
use lib.IntN.{pos}
use lib.ListN.{length}
use lib.Seq.{sets, sets-eq}
use Rattle.std.specs.Prelude.{Result, Ok, Err}
use Rattle.sheet.specs.Reply.{Answer, done, refuse, unless, told, count_answer, is_done}
use Rattle.sheet.specs.Figure.{if_figure}
use Rattle.sheet.specs.declared.Figure.{Figure}
use Rattle.sheet.specs.declared.Figure.TheVariants.{Line, Circle, Ellipse, Curve, Cubic}
use Rattle.sheet.specs.declared.refusal.Refusal.{Refusal}
use Rattle.sheet.specs.declared.refusal.Refusal.TheVariants.{Coordinate, Radius, Pieces, Full}
use Rattle.sheet.proofs.Figures.{Sound, figure_cases, figure_passes}
use Rattle.sheet.proofs.Unique.{number_not_0, one_value}
use Rattle.record.specs.Writing.{record_bytes, record_size, write_answer, Writes}
use Rattle.record.specs.Inner.{then_read, tested, figure_tested, Writable}
use Rattle.record.proofs.Records.{line_size, circle_size, ellipse_size, curve_size, cubic_size, record_size_lem}

-- the tests of a figure's fields before an answer are the figure's refusals before it
module _ (a : Answer) where
  before : Result (Unit {0}) Refusal → Answer
  before = told (λ _. a)

  told_tested : (t : Bool) (r : Refusal) → before (tested t r) ≡ unless t r a
  unfolding before
  told_tested true r = refl
  told_tested false r = refl

  told_both : (t u : Bool) (r q : Refusal) → before (then_read (tested t r) (λ _. tested u q)) ≡ unless t r (unless u q a)
  unfolding before
  told_both true true r q = refl
  told_both true false r q = refl
  told_both false u r q = refl

  told_figure : (f : Figure) → before (figure_tested f) ≡ if_figure f a
  told_figure (Line p q) = told_tested _ Coordinate
  told_figure (Circle c r) = told_both _ _ Coordinate Radius
  told_figure (Ellipse c m n) = told_both _ _ Coordinate Radius
  told_figure (Curve p q r s) = told_both _ _ Coordinate Pieces
  told_figure (Cubic p q r t s) = told_both _ _ Coordinate Pieces

-- a figure that passed them
pub passed_sound : (f : Figure) → Ok tt ≡ figure_tested f → Sound f
unfolding before
passed_sound f e =
    let a = done [] in
    let is : a ≡ if_figure f a = ap (before a) e ∙ told_figure a f in
    figure_cases (λ a. is_done a ≡ true → Sound f) (λ r d. absurd (true≢false (sym d ∙ number_not_0 r))) f a (λ l d. l) (sym (ap is_done is))

module _ (filled : ℕ) (f : Figure) (n : ℕ) where
  -- 2, 3 or 4
  pub not_passed : (q : Refusal) → Err q ≡ figure_tested f → refuse q ≡ write_answer filled f n
  unfolding write_answer before
  not_passed q e = ap (before _) e ∙ told_figure _ f

  module _ (l : Sound f) (size : ℕ) (e : size ≡ record_size f) where
    -- 11
    pub no_room : n - filled < size → refuse Full ≡ write_answer filled f n
    unfolding write_answer
    no_room h =
        let g : n - filled < record_size f = rw (← e) h in
        sym (figure_passes f _ l ∙ simp (lt-leb (record_size f) (n - filled) g))

    -- 0 with the new count
    pub has_room : size ≤ n - filled → done (pos (filled + size) ∷ []) ≡ write_answer filled f n
    unfolding write_answer
    has_room h =
        let g : record_size f ≤ n - filled = rw (← e) h in
        rw e (sym (figure_passes f _ l ∙ simp (le-leb (record_size f) (n - filled) g)))

-- and where it does, what a writer goes by
pub writable : (filled : ℕ) (f : Figure) (n : ℕ) → Sound f → (size : ℕ) → size ≡ record_size f → size ≤ n - filled → Writable f filled n
writable filled (Line p q) n l size e h = (omega (arith, line_size p q), l.0, l.1)
writable filled (Circle c r) n l size e h = (omega (arith, circle_size c r), l.0)
writable filled (Ellipse c a b) n l size e h = (omega (arith, ellipse_size c a b), l.0)
writable filled (Curve p q r s) n l size e h = (omega (arith, curve_size p q r s), l.0, l.1, l.2)
writable filled (Cubic p q r t s) n l size e h = (omega (arith, cubic_size p q r t s), l.0, l.1, l.2, l.3)

-- the record stands there
pub writes : (filled ink : ℕ) (f : Figure) (s : List ℕ) (size : ℕ) → size ≡ record_size f → filled + size ≤ length s
    → (after : ℕ) → count_answer after ≡ write_answer filled f (length s)
    → (t bytes : List ℕ) → bytes ≡ record_bytes ink f → t ≡ sets s filled bytes → Writes filled ink f s (count_answer after) t
writes filled ink f s size e h after a t bytes q p =
    let room : filled + length (record_bytes ink f) ≤ length s = rw (record_size_lem ink f) (omega (arith, e)) in
    record { tells = a; leaves = p ∙ ap (sets s filled) q ∙ rw (← a) (sets-eq (record_bytes ink f) s filled room) }

-- of an equal figure the same is written
pub writes_as : (filled ink : ℕ) (f g : Figure) (s : List ℕ) (r : Answer) (t : List ℕ) → f ≡ g
    → Writes filled ink f s r t → Writes filled ink g s r t
writes_as filled ink f g s r t e h = subst (λ (g : Figure). Writes filled ink g s r t) e h

-- two replies of one writing on the same bytes are equal, and so are the bytes they leave
pub writes_one : (filled ink : ℕ) (f : Figure) (s : List ℕ) (a b : Answer) (t u : List ℕ)
    → Writes filled ink f s a t → Writes filled ink f s b u → (a ≡ b) × (t ≡ u)
writes_one filled ink f s a b t u h g = (one_value a b _ h.tells g.tells, one_value t u _ h.leaves g.leaves)
