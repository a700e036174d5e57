-- The lines of a picture: their lengths, and how they are written.
use Prim.Native.Nat.{ℕ, ◌+◌, ◌*◌, ◌≤◌}
use mathlib.Core.Path.{◌≡◌, refl, sym, ap, ◌∙◌}
use mathlib.Core.List.{List}
use native.Mathlib.Omega.{arith}
use lib.ListN.{length, get_or, set, length-append}
use lib.Seq.{sets}
use Rattle.sheet.specs.Sheet.{place}
use Rattle.print.specs.Text.{in_turn, character, newline, character_at, line, picture}
use Rattle.laws.proofs.Written.{sets_append}
use Rattle.print.proofs.Writing.{Turns, length-in_turn}

-- a cell is one byte, a line 17, a picture 136
pub cell_long : (s : List ℕ) (y x : ℕ) → length (character_at s y x) ≡ 1
unfolding character_at
cell_long s y x = refl

pub line_long : (s : List ℕ) (y : ℕ) → length (line s y) ≡ 17
unfolding line
line_long s y = omega (arith, length-append (in_turn 16 (character_at s y)) newline, length-in_turn 16 1 (character_at s y) (cell_long s y))

pub picture_long : (s : List ℕ) → length (picture s) ≡ 136
unfolding picture
picture_long s = omega (arith, length-in_turn 8 17 (line s) (line_long s))

-- a cell is written by one store
pub cell_put : (s out : List ℕ) (y x at v : ℕ) → v ≡ character (get_or s (y * 16 + x) 0) → set out at v ≡ sets out at (character_at s y x)
unfolding character_at place
cell_put s out y x at v e = ap (λ (b : ℕ). set out at b) e

-- and the newline closes a line
pub line_ends : (before : List ℕ) (at : ℕ) (s : List ℕ) (y : ℕ) (out : List ℕ) (x : ℕ) → Turns before at 16 1 (character_at s y) out x → 16 ≤ x
    → set out (at + 16) 10 ≡ sets before at (line s y)
unfolding line
line_ends before at s y out x inv l =
    let e : x ≡ 16 = omega (arith, inv.within) in
    let f : at + 16 ≡ at + length (in_turn 16 (character_at s y)) = omega (arith, length-in_turn 16 1 (character_at s y) (cell_long s y)) in
    ap (λ (o : List ℕ). set o (at + 16) 10) (inv.written ∙ ap (λ (k : ℕ). sets before at (in_turn k (character_at s y))) e)
    ∙ ap (λ (k : ℕ). set (sets before at (in_turn 16 (character_at s y))) k 10) f
    ∙ sym (sets_append (in_turn 16 (character_at s y)) newline before at)

-- the eighth line closes a picture
pub picture_ends : (before s out : List ℕ) (y : ℕ) → Turns before 0 8 17 (line s) out y → 8 ≤ y → out ≡ sets before 0 (picture s)
unfolding picture
picture_ends before s out y inv l =
    let e : y ≡ 8 = omega (arith, inv.within) in
    inv.written ∙ ap (λ (k : ℕ). sets before 0 (in_turn k (line s))) e
