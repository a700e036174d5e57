-- Zero, and a position that equals its origin.
use mathlib.Core.Path.{◌≡◌, refl, ◌∙◌}
use mathlib.Core.Bool.{Bool, true, false, not}
use Prim.Native.Nat.{ℕ, ◌+◌, ◌-◌, ◌*◌, ◌<◌}
use native.Mathlib.Nat.{mul-pos, zero-lt-suc}
use native.Mathlib.Omega.{arith}
use borrow.Author.Tests.{le-ltb, ne_eqb}
use lib.Dec.{T, ltb, ltb→lt}
use lib.IntN.{pos}
use lib.Ieee.{Float, nan, inf, fin, binary64, up, down, unlike, round, sum, sub, div, eq, le, lt, level, of_int, of_bits}
use lib.Ieee.Fits.{down_pos}
use lib.Ieee.Scale.{round_same, finite}
use lib.Ieee.Positive.{first_pos}
use Rattle.laws.proofs.Tests.{and_l, and_r}
use Rattle.std.specs.Prelude.{Ok}
use Rattle.std.specs.Float.{float_is_finite}
use Rattle.sheet.specs.Sheet.{coordinate}
use Rattle.survey.specs.Cell.{is_cell_of, found_cell}
use Rattle.survey.specs.Metres.{sound, found_coordinate, eastward, northward}
use Rattle.survey.specs.declared.Survey.{Survey}
use Rattle.survey.proofs.Order.{eq_to}
use Rattle.survey.proofs.Cells.{cell_is}

-- +0 or −0
data Zero : Float → Type 0 where
  zero : (s : Bool) → Zero (fin s 0 (pos 0))

round_zero : (s : Bool) (c : ℕ) → 0 < c → round binary64 s 0 c ≡ fin s 0 (pos 0)
round_zero s c h = round_same binary64 s 0 c 0 1 h (zero-lt-suc 0) (omega arith) ∙ by_one s
  where
    by_one : (s : Bool) → round binary64 s 0 1 ≡ fin s 0 (pos 0)
    by_one true = unfold round in refl
    by_one false = unfold round in refl

is_zero : (s : Bool) (n c : ℕ) → n ≡ 0 → 0 < c → Zero (round binary64 s n c)
is_zero s n c e h = rw (e, round_zero s c h) (zero s)

-- equal fractions leave zero
sum_zero : (s : Bool) (a : ℕ) (t : Bool) (b c : ℕ) → 0 < c → T (level s a t b) → Zero (sum binary64 s a (not t) b c)
unfolding sum
sum_zero false a false b c h l =
    let e = eq_to false a false b l in
    rw (le-ltb a b (omega arith)) (is_zero false (a - b) c (omega arith) h)
sum_zero true a true b c h l =
    let e = eq_to true a true b l in
    rw (le-ltb a b (omega arith)) (is_zero (ltb b a) (a - b) c (omega arith) h)
sum_zero false a true b c h l = is_zero false (a + b) c (omega (arith, eq_to false a true b l)) h
sum_zero true a false b c h l = is_zero true (a + b) c (omega (arith, eq_to true a false b l)) h

-- equal finite floats leave zero
sub_zero : (p o : Float) → T (eq p o) → T (finite o) → Zero (sub binary64 p o)
unfolding sub eq
sub_zero nan o t f = absurd t
sub_zero (inf s) nan t f = absurd t
sub_zero (inf s) (inf r) t f = absurd f
sub_zero (inf s) (fin r n d) t f = absurd t
sub_zero (fin s m e) nan t f = absurd t
sub_zero (fin s m e) (inf r) t f = absurd t
sub_zero (fin s m e) (fin r n d) t f = sum_zero s (m * up e * down d) r (n * up d * down e) (down e * down d) (mul-pos (down_pos e) (down_pos d)) t

-- and zero by a float above zero is zero
div_zero : (x size : Float) → Zero x → T (finite size) → T (lt (of_int binary64 (pos 0)) size) → Zero (div binary64 x size)
unfolding div lt of_int
div_zero x nan z f l = absurd f
div_zero x (inf s) z f l = absurd f
div_zero x (fin true n d) (zero s) f l = absurd l
div_zero x (fin false n d) (zero s) f l =
    let h : 0 < n * up d * 1 = omega (arith, ltb→lt (0 * 1 * down d) (n * up d * 1) l) in
    let p : 0 < n = first_pos n (up d) (first_pos (n * up d) 1 h) in
    rw (ne_eqb n 0 (λ e. omega arith)) (is_zero (unlike s false) (0 * 1 * down d) (n * up d * 1) (omega arith) h)

-- zero is in cell 0
zero_cell : (x : Float) → Zero x → found_cell x ≡ Ok (pos 0)
unfolding coordinate is_cell_of of_int le lt
zero_cell x (zero true) = cell_is (fin true 0 (pos 0)) (pos 0) tt tt
zero_cell x (zero false) = cell_is (fin false 0 (pos 0)) (pos 0) tt tt

-- std's test is that of the rule
pub finite_is : (x : Float) → float_is_finite x ≡ finite x
unfolding float_is_finite
finite_is nan = refl
finite_is (inf s) = refl
finite_is (fin s m e) = refl

-- and so is its zero
pub zero_is : of_bits binary64 0 ≡ of_int binary64 (pos 0)
unfolding of_bits of_int
zero_is = refl

-- a position that compares equal to a finite origin, −0.0 to 0.0 too, by a finite size above zero
origin_cell : (p o size : Float) → T (eq p o) → T (finite o) → T (finite size) → T (lt (of_int binary64 (pos 0)) size) → found_coordinate p o size ≡ Ok (pos 0)
origin_cell p o size t f g l = zero_cell (div binary64 (sub binary64 p o) size) (div_zero (sub binary64 p o) size (sub_zero p o t f) g l)

-- A position equal to its origin has cell 0, in every sound survey.
pub origin_east : (s : Survey) (p : Float) → T (sound s) → T (eq p s.east) → eastward s p ≡ Ok (pos 0)
unfolding sound
origin_east s p k t =
    let o : T (finite s.east) = search (and_l, and_r) in
    let f : T (finite s.size) = search (and_l, and_r) in
    let l : T (lt (of_int binary64 (pos 0)) s.size) = search (and_l, and_r) in
    origin_cell p s.east s.size t o f l

pub origin_north : (s : Survey) (p : Float) → T (sound s) → T (eq p s.north) → northward s p ≡ Ok (pos 0)
unfolding sound
origin_north s p k t =
    let o : T (finite s.north) = search (and_l, and_r) in
    let f : T (finite s.size) = search (and_l, and_r) in
    let l : T (lt (of_int binary64 (pos 0)) s.size) = search (and_l, and_r) in
    origin_cell p s.north s.size t o f l
