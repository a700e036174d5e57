-- The answer and both lists at each return of `list_line`.
use Rattle.std.proofs.Common.{◌≡◌, ℕ, ◌+◌, ◌<◌, ◌≤◌, Bool, true, false, ◌&&◌, T, leb, List, [], ◌∷◌, length, ℤ, pos, sym, ap, ◌∙◌, subst, arith, leb→le}
use Rattle.laws.proofs.Tests.{and_l, and_r, from_true}
use Rattle.sheet.specs.Sheet.{within_limits}
use Rattle.sheet.specs.Inner.{moved_cell}
use Rattle.sheet.specs.Reply.{done, refuse}
use Rattle.sheet.specs.declared.Cell.{Cell}
use Rattle.sheet.specs.declared.Spot.{Spot}
use Rattle.sheet.specs.declared.refusal.Refusal.{Refusal}
use Rattle.sheet.specs.declared.refusal.Refusal.TheVariants.{Coordinate, Room}
use Rattle.sheet.proofs.Limits.{LiftedCell}
use Rattle.sheet.proofs.Unique.{number_not_0}
use Rattle.line.specs.Rule.{long}
use Rattle.line.specs.Listing.{list_answer, listed_over, ListsInto}
use Rattle.line.specs.Inner.Course.{lesser_spot, path_between, Runs}
use Rattle.line.specs.Inner.Along.{over, course_cell}
use Rattle.line.specs.declared.Path.{Path}
use Rattle.line.proofs.Bridge.{ends_lifted, course_long, course_runs}
use Rattle.line.proofs.Filled.{course_listed}

-- lists of n and m places have one for each of l + 1 cells
abbrev roomy : ℕ → ℕ → ℕ → Bool
roomy l n m = leb (l + 1) n && leb (l + 1) m

pub rooms : (l n m : ℕ) → roomy l n m ≡ true → (l < n) × (l < m)
rooms l n m e =
    let t : T (leb (l + 1) n && leb (l + 1) m) = from_true (leb (l + 1) n && leb (l + 1) m) e in
    let u : l + 1 ≤ n = search (leb→le, and_l) in
    let v : l + 1 ≤ m = search (leb→le, and_l, and_r) in
    (omega arith, omega arith)

-- a refusal leaves the lists as they were lent
refuses : (a b : Cell) (xs ys : List ℤ) (r : Refusal) → list_answer (length xs) (length ys) a b ≡ refuse r → ListsInto a b xs ys (refuse r) xs ys
refuses a b xs ys r e = record { tells = sym e; leaves_x = simp (e, number_not_0 r); leaves_y = simp (e, number_not_0 r) }

pub list_coordinate : (a b : Cell) (xs ys : List ℤ) → (within_limits a && within_limits b) ≡ false → ListsInto a b xs ys (refuse Coordinate) xs ys
unfolding list_answer
list_coordinate a b xs ys e = refuses a b xs ys Coordinate (simp e)

module _ (a b : Cell) (p q : Spot) (c : Path) (e : (within_limits a && within_limits b) ≡ true) (hp : p ≡ moved_cell a) (hq : q ≡ moved_cell b) (hc : c ≡ path_between p q) where
  P : LiftedCell a p
  P = (ends_lifted a b e p q hp hq).0

  Q : LiftedCell b q
  Q = (ends_lifted a b e p q hp hq).1

  pub runs : Runs c
  runs = subst Runs (sym hc) (course_runs a b p q P Q)

  long_is : c.long ≡ long a b
  long_is = ap (λ (c : Path). c.long) hc ∙ course_long a b p q P Q

  room_is : (n m : ℕ) (t : Bool) → roomy c.long n m ≡ t → roomy (long a b) n m ≡ t
  room_is n m t r = (λ i. roomy (sym long_is i) n m) ∙ r

  course_over : (first : Bool) → first ≡ lesser_spot p q → (coordinate : Cell → ℤ) (s : List ℤ) → c.long < length s
      → over (λ (i : ℕ). coordinate (course_cell first c i)) (c.long + 1) s ≡ listed_over coordinate a b s
  course_over first hf coordinate s room =
      (λ j. over (λ (i : ℕ). coordinate (course_cell (hf j) (hc j) i)) ((hc j).long + 1) s)
      ∙ course_listed a b p q P Q coordinate s (omega (arith, long_is))

  pub list_room : (xs ys : List ℤ) → roomy c.long (length xs) (length ys) ≡ false → ListsInto a b xs ys (refuse Room) xs ys
  unfolding list_answer
  list_room xs ys r = refuses a b xs ys Room (simp (e, room_is (length xs) (length ys) false r))

  pub list_done : (xs ys xs' ys' : List ℤ) (first : Bool) → roomy c.long (length xs) (length ys) ≡ true → first ≡ lesser_spot p q
      → xs' ≡ over (λ (i : ℕ). (course_cell first c i).x) (c.long + 1) xs → ys' ≡ over (λ (i : ℕ). (course_cell first c i).y) (c.long + 1) ys
      → ListsInto a b xs ys (done (pos (c.long + 1) ∷ [])) xs' ys'
  unfolding list_answer
  list_done xs ys xs' ys' first r hf hx hy =
      let room = rooms c.long (length xs) (length ys) r in
      let done_is = room_is (length xs) (length ys) true r in
      record {
        tells = simp (e, done_is) (ap (λ (n : ℕ). done (pos (n + 1) ∷ [])) long_is);
        leaves_x = simp (e, done_is) (hx ∙ course_over first hf (λ (c : Cell). c.x) xs room.0);
        leaves_y = simp (e, done_is) (hy ∙ course_over first hf (λ (c : Cell). c.y) ys room.1);
      }
