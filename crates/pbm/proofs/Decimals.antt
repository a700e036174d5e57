-- The decimal digits of a side of a sheet.
use Prim.Native.Nat.{ℕ, zero, suc, ◌+◌, ◌-◌, ◌/◌, ◌%◌, ◌≤◌, ◌<◌}
use mathlib.Core.Path.{◌≡◌, refl, sym, ap, ap₂, ◌∙◌}
use mathlib.Core.List.{List, [], ◌∷◌, ◌++◌}
use mathlib.Core.Bool.{Bool, true, false, cond}
use native.Mathlib.Omega.{arith}
use native.Mathlib.Decide.{dec_lt}
use borrow.Author.Tests.{ltb-false, lt-ltb, le-ltb}
use lib.Dec.{ltb}
use lib.ListN.{length, set, take, drop, length-append}
use lib.Seq.{take_all, length-sets}
use Rattle.laws.specs.Text.{decimal_in, decimal}
use Rattle.laws.proofs.Written.{Written, write_first, write_next}
use Rattle.pbm.specs.Picture.{header_bytes}

-- how many digits are allowed does not matter, where they are enough
fuel : (n m v : ℕ) → v < n → v < m → decimal_in n v ≡ decimal_in m v
unfolding decimal_in
fuel zero m v a b = absurd (omega arith)
fuel (suc n) zero v a b = absurd (omega arith)
fuel (suc n) (suc m) v a b = by (ltb v 10) refl (λ l r. fuel n m (v / 10) l r)
  where
    by : (t : Bool) → ltb v 10 ≡ t → (v / 10 < n → v / 10 < m → decimal_in n (v / 10) ≡ decimal_in m (v / 10))
        → cond t ((48 + v) ∷ []) (decimal_in n (v / 10) ++ ((48 + v % 10) ∷ [])) ≡ cond t ((48 + v) ∷ []) (decimal_in m (v / 10) ++ ((48 + v % 10) ∷ []))
    by true e h = refl
    by false e h =
        let g = ltb-false v 10 e in
        ap (λ (d : List ℕ). d ++ ((48 + v % 10) ∷ [])) (h (omega arith) (omega arith))

-- one digit; and any more: the digits of the tenths, and that of the ones
pub one_digit : (v : ℕ) → v < 10 → decimal v ≡ (48 + v) ∷ []
unfolding decimal decimal_in
one_digit v l = rw (lt-ltb v 10 l) refl

pub more_digits : (v : ℕ) → 10 ≤ v → decimal v ≡ decimal (v / 10) ++ ((48 + v % 10) ∷ [])
unfolding decimal decimal_in
more_digits v l = rw (le-ltb v 10 l) (ap (λ (d : List ℕ). d ++ ((48 + v % 10) ∷ [])) (fuel v (suc (v / 10)) (v / 10) (omega arith) (omega arith)))

-- by the digits of the number, of its tenths and so on
abbrev last : ℕ → ℕ
last v = 48 + v % 10

pub two_digits : (v : ℕ) → 10 ≤ v → v < 100 → decimal v ≡ last (v / 10) ∷ last v ∷ []
two_digits v l h =
    let e : 48 + v / 10 ≡ last (v / 10) = omega arith in
    more_digits v l ∙ ap (λ (d : List ℕ). d ++ (last v ∷ [])) (one_digit (v / 10) (omega arith)) ∙ ap (λ (c : ℕ). c ∷ last v ∷ []) e

pub three_digits : (v : ℕ) → 100 ≤ v → v < 1000 → decimal v ≡ last (v / 100) ∷ last (v / 10) ∷ last v ∷ []
three_digits v l h =
    let e : v / 10 / 10 ≡ v / 100 = omega arith in
    more_digits v (omega arith) ∙ ap (λ (d : List ℕ). d ++ (last v ∷ [])) (two_digits (v / 10) (omega arith) (omega arith))
    ∙ ap (λ (c : ℕ). last c ∷ last (v / 10) ∷ last v ∷ []) e

pub four_digits_lem : (v : ℕ) → 1000 ≤ v → v < 10000 → decimal v ≡ last (v / 1000) ∷ last (v / 100) ∷ last (v / 10) ∷ last v ∷ []
four_digits_lem v l h =
    let e : v / 10 / 100 ≡ v / 1000 = omega arith in
    let f : v / 10 / 10 ≡ v / 100 = omega arith in
    more_digits v (omega arith) ∙ ap (λ (d : List ℕ). d ++ (last v ∷ [])) (three_digits (v / 10) (omega arith) (omega arith))
    ∙ ap₂ (λ (c d : ℕ). last c ∷ last d ∷ last (v / 10) ∷ last v ∷ []) e f

-- of the four, as many as the number has
abbrev pub four_digits : ℕ → List ℕ
four_digits v = last (v / 1000) ∷ last (v / 100) ∷ last (v / 10) ∷ last v ∷ []

pub last_digits : (v n : ℕ) → v ≤ 4096 → n ≡ length (decimal v) → drop (4 - n) (four_digits v) ≡ decimal v
last_digits v n l e = by (dec_lt v 10) (dec_lt v 100) (dec_lt v 1000)
  where
    is : (d : List ℕ) → decimal v ≡ d → drop (4 - length d) (four_digits v) ≡ d → drop (4 - n) (four_digits v) ≡ decimal v
    is d f g = ap (λ (m : ℕ). drop (4 - m) (four_digits v)) (e ∙ ap length f) ∙ g ∙ sym f

    by : Dec (v < 10) → Dec (v < 100) → Dec (v < 1000) → drop (4 - n) (four_digits v) ≡ decimal v
    by (yes a) b c = let f : 48 + v % 10 ≡ 48 + v = omega arith in is ((48 + v) ∷ []) (one_digit v a) (ap (λ (d : ℕ). d ∷ []) f)
    by (no a) (yes b) c = is _ (two_digits v (omega arith) b) refl
    by (no a) (no b) (yes c) = is _ (three_digits v (omega arith) c) refl
    by (no a) (no b) (no c) = is _ (four_digits_lem v (omega arith) (omega arith)) refl

-- the header's length
pub header_long : (width height : ℕ) → length (header_bytes width height) ≡ 5 + length (decimal width) + length (decimal height)
unfolding header_bytes
header_long width height =
    let p = (80 ∷ 52 ∷ 10 ∷ []) ++ decimal width in
    let q = p ++ (32 ∷ []) ++ decimal height in
    omega (arith, length-append (80 ∷ 52 ∷ 10 ∷ []) (decimal width), length-append p (32 ∷ []), length-append (p ++ (32 ∷ [])) (decimal height), length-append q (10 ∷ []))

-- a header that is written part by part: the magic number, the width with a blank, and the height with a newline
abbrev pub magic : List ℕ
magic = 80 ∷ 52 ∷ 10 ∷ []

pub magic_put : (out : List ℕ) → Written out magic (set (set (set out 0 80) 1 52) 2 10) 3
magic_put out = write_first out magic (set (set (set out 0 80) 1 52) 2 10) 3 refl refl

pub byte_put : (before text out : List ℕ) (n v : ℕ) → Written before text out n → Written before (text ++ (v ∷ [])) (set out n v) (n + 1)
byte_put before text out n v w = write_next before text out n w (v ∷ []) (set out n v) (n + 1) refl refl

pub written_long : (before text out : List ℕ) (n : ℕ) → Written before text out n → length out ≡ length before
written_long before text out n w = ap length w.bytes ∙ length-sets before 0 text

pub header_put : (width height : ℕ) (before out : List ℕ) (n : ℕ)
    → Written before (magic ++ decimal width ++ (32 ∷ []) ++ decimal height) out n → Written before (header_bytes width height) (set out n 10) (n + 1)
unfolding header_bytes
header_put width height before out n w = byte_put before _ out n 10 w

-- at most four digits
pub few_digits : (v : ℕ) → v ≤ 4096 → length (decimal v) ≤ 4
few_digits v l = by (dec_lt v 10) (dec_lt v 100) (dec_lt v 1000)
  where
    by : Dec (v < 10) → Dec (v < 100) → Dec (v < 1000) → length (decimal v) ≤ 4
    by (yes a) b c = omega (arith, ap length (one_digit v a))
    by (no a) (yes b) c = omega (arith, ap length (two_digits v (omega arith) b))
    by (no a) (no b) (yes c) = omega (arith, ap length (three_digits v (omega arith) c))
    by (no a) (no b) (no c) = omega (arith, ap length (four_digits_lem v (omega arith) (omega arith)))

-- and as a part of an array of four
pub part_digits : (v n a b c d : ℕ) → v ≤ 4096 → n ≡ length (decimal v) → a ≡ last (v / 1000) → b ≡ last (v / 100) → c ≡ last (v / 10) → d ≡ last v
    → take (4 - (4 - n)) (drop (4 - n) (a ∷ b ∷ c ∷ d ∷ [])) ≡ decimal v
part_digits v n a b c d l e p q r t =
    let f : a ∷ b ∷ c ∷ d ∷ [] ≡ four_digits v = λ i. p i ∷ q i ∷ r i ∷ t i ∷ [] in
    let g = ap (drop (4 - n)) f ∙ last_digits v n l e in
    ap (take (4 - (4 - n))) g ∙ take_all (4 - (4 - n)) (decimal v) (omega (arith, few_digits v l))
