-- Eight flags as a byte, and a byte as eight cells.
use borrow.Rule.Slice.PartMut.{put_mid}
use lib.Seq.{take_at}
use lib.ListN.{take}
use mathlib.Core.Path.{subst}
use Rattle.laws.proofs.Each.{length-each, each_plus}
use Rattle.laws.proofs.Written.{put_part}
use Prim.Native.Nat.{ℕ, ◌+◌, ◌-◌, ◌*◌, ◌/◌, ◌%◌, ◌≤◌, ◌<◌}
use mathlib.Core.Path.{◌≡◌, refl, sym, ap, ◌∙◌}
use mathlib.Core.List.{List, [], ◌∷◌}
use mathlib.Core.Bool.{Bool, true, false, not, true≢false}
use native.Mathlib.Omega.{arith}
use native.Mathlib.Decide.{ℕ_discrete}
use borrow.Author.Tests.{eqb-true, leb-true}
use lib.Dec.{T, eqb, leb}
use lib.ListN.{length, get_or, set, length-set}
use lib.Seq.{sets, get_or-set_same, get_or-set_other}
use Rattle.laws.specs.Below.{any, each}
use Rattle.laws.proofs.Below.{any_at}
use Rattle.laws.proofs.Tests.{is_true, from_true}
use Rattle.pbm.specs.Picture.{packed}
use Rattle.pbm.specs.Reading.{bit_at}
use Rattle.pbm.specs.Inner.{Flags, four_of, packed_at, spread, byte_of}

-- what a test shows of all numbers below n that it is computed at
pub holds_below : (n : ℕ) (test : ℕ → Bool) → any n (λ (i : ℕ). not (test i)) ≡ false → (i : ℕ) → i < n → test i ≡ true
holds_below n test e i l = by (test i) refl
  where
    by : (t : Bool) → test i ≡ t → t ≡ true
    by true f = refl
    by false f =
        let t : T (any n (λ (j : ℕ). not (test j))) = any_at n (λ (j : ℕ). not (test j)) i l (from_true (not (test i)) (ap not f)) in
        absurd (true≢false (sym (is_true (any n (λ (j : ℕ). not (test j))) t) ∙ e))

-- the product's bytes: the fourth of them is the flags, the first the highest
abbrev low : (a b c d : ℕ) → ℕ
low a b c d = a + b * 256 + (c + d * 256) * 65536

quotient : (x l q : ℕ) → x ≡ l + q * 16777216 → l < 16777216 → x / 16777216 ≡ q
quotient x l q e h = omega arith

remainder : (q b r : ℕ) → q ≡ b + r * 256 → b < 256 → q % 256 ≡ b
remainder q b r e h = omega arith

product : (a b c d e f g h : ℕ) → a ≤ 1 → b ≤ 1 → c ≤ 1 → d ≤ 1 → e ≤ 1 → f ≤ 1 → g ≤ 1 → h ≤ 1
    → (low a b c d * 16 + low e f g h) * 134480385 / 16777216 % 256 ≡ 2 * (2 * (2 * (2 * (2 * (2 * (2 * (2 * 0 + a) + b) + c) + d) + e) + f) + g) + h
product a b c d e f g h la lb lc ld le lf lg lh =
    let w = 16 * a + e in
    let x = 16 * b + f in
    let y = 16 * c + g in
    let z = 16 * d + h in
    let byte = z + 2 * y + 4 * x + 8 * w in
    let above = 2 * z + 4 * y + 8 * x + (4 * z + 8 * y) * 256 + 8 * z * 65536 in
    let below = w + (x + 2 * w) * 256 + (y + 2 * x + 4 * w) * 65536 in
    let all : (low a b c d * 16 + low e f g h) * 134480385 ≡ below + (byte + above * 256) * 16777216 = omega arith in
    ap (λ (n : ℕ). n % 256) (quotient _ below (byte + above * 256) all (omega arith))
    ∙ remainder (byte + above * 256) byte above refl (omega arith)
    ∙ omega arith

pub pack_is : (f : List ℕ) (at : ℕ) → Flags f → (four_of f at * 16 + four_of f (at + 4)) * 134480385 / 16777216 % 256 ≡ packed_at f at
unfolding four_of packed_at packed
pack_is f at l =
    let e : at + 0 ≡ at = omega arith in
    let e5 : at + 4 + 1 ≡ at + 5 = omega arith in
    let e6 : at + 4 + 2 ≡ at + 6 = omega arith in
    let e7 : at + 4 + 3 ≡ at + 7 = omega arith in
    rw (e, e5, e6, e7)
    (product (get_or f at 0) (get_or f (at + 1) 0) (get_or f (at + 2) 0) (get_or f (at + 3) 0) (get_or f (at + 4) 0) (get_or f (at + 5) 0) (get_or f (at + 6) 0) (get_or f (at + 7) 0)
    (l at) (l (at + 1)) (l (at + 2)) (l (at + 3)) (l (at + 4)) (l (at + 5)) (l (at + 6)) (l (at + 7)))

-- a number of flags is small
pub four_small : (f : List ℕ) (at : ℕ) → Flags f → four_of f at ≤ 16843009
unfolding four_of
four_small f at l = omega (arith, l at, l (at + 1), l (at + 2), l (at + 3))

-- the cells of a byte are those of its half, one further, and its last bit: tested for every byte, and so that their bytes are its bits
halved : ℕ → Bool
halved b = eqb (spread 8 (b / 2) / 256 + b % 2 * 72057594037927936) (spread 8 b)

halved_all : any 256 (λ (b : ℕ). not (halved b)) ≡ false
unfolding halved spread any
halved_all = refl

pub halved_is : (b : ℕ) → b < 256 → spread 8 (b / 2) / 256 + b % 2 * 72057594037927936 ≡ spread 8 b
unfolding halved
halved_is b l = eqb-true _ _ (holds_below 256 halved halved_all b l)

small_all : any 256 (λ (b : ℕ). not (leb (spread 8 b) 72340172838076673)) ≡ false
unfolding spread any
small_all = refl

-- and the cells of a byte are eight flags
pub spread_small : (b : ℕ) → b < 256 → spread 8 b ≤ 72340172838076673
spread_small b l = leb-true _ _ (holds_below 256 (λ (b : ℕ). leb (spread 8 b) 72340172838076673) small_all b l)

spelt : ℕ → ℕ → Bool
spelt i b = eqb (byte_of (spread 8 b) i) (bit_at b i)

spelt_all : any 8 (λ (i : ℕ). not (not (any 256 (λ (b : ℕ). not (spelt i b))))) ≡ false
unfolding spelt spread byte_of any
spelt_all = refl

pub not_not : (t : Bool) → not t ≡ true → t ≡ false
not_not true e = absurd (true≢false (sym e))
not_not false e = refl

pub byte_bit : (b i : ℕ) → b < 256 → i < 8 → byte_of (spread 8 b) i ≡ bit_at b i
unfolding spelt
byte_bit b i l m =
    eqb-true _ _ (holds_below 256 (spelt i) (not_not (any 256 (λ (b : ℕ). not (spelt i b))) (holds_below 8 (λ (i : ℕ). not (any 256 (λ (b : ℕ). not (spelt i b)))) spelt_all i m)) b l)

-- a table that is made from the first place on
pub record Making (t : List ℕ) (n : ℕ) : Type 0 where
  pub long : length t ≡ 256
  pub made : (b : ℕ) → b < n → get_or t b 0 ≡ spread 8 b

pub making_first : (t : List ℕ) → length t ≡ 256 → Making (set t 0 0) 1
unfolding spread
making_first t e =
    record {
      long = length-set t 0 0 ∙ e;
      made = λ b l. let z : b ≡ 0 = omega arith in ap (λ (n : ℕ). get_or (set t 0 0) n 0) z ∙ get_or-set_same t 0 0 0 (omega arith) ∙ ap (spread 8) (sym z);
    }

pub making_next : {t : List ℕ} {n v : ℕ} → Making t n → 1 ≤ n → n < 256 → v ≡ get_or t (n / 2) 0 / 256 + n % 2 * 72057594037927936 → Making (set t n v) (n + 1)
making_next {t} {n} {v} h l m e = record { long = length-set t n v ∙ h.long; made = λ b k. by b k (ℕ_discrete b n) }
  where
    by : (b : ℕ) → b < n + 1 → Dec (b ≡ n) → get_or (set t n v) b 0 ≡ spread 8 b
    by b k (yes f) =
        ap (λ (i : ℕ). get_or (set t n v) i 0) f
        ∙ get_or-set_same t n v 0 (omega (arith, h.long))
        ∙ e ∙ ap (λ (w : ℕ). w / 256 + n % 2 * 72057594037927936) (h.made (n / 2) (omega arith)) ∙ halved_is n m
        ∙ ap (spread 8) (sym f)
    by b k (no f) = get_or-set_other t n b v 0 f ∙ h.made b (omega arith)

-- the bytes of a number, the lowest first
pub eight_bytes : (n : ℕ)
    → (n % 256 ∷ n / 256 % 256 ∷ n / 65536 % 256 ∷ n / 16777216 % 256 ∷ n / 4294967296 % 256 ∷ n / 1099511627776 % 256 ∷ n / 281474976710656 % 256 ∷ n / 72057594037927936 % 256 ∷ [])
    ≡ each 8 (byte_of n)
unfolding byte_of each
eight_bytes n = let a : n % 256 ≡ n / 1 % 256 = omega arith in rw a refl

pub few_bytes : (n few : ℕ) (bytes : List ℕ) → few ≤ 8 → bytes ≡ each 8 (byte_of n) → take few bytes ≡ each few (byte_of n)
few_bytes n few bytes l e =
    let m : few + (8 - few) ≡ 8 = omega arith in
    ap (take few) (e ∙ ap (λ (k : ℕ). each k (byte_of n)) (sym m) ∙ each_plus few (8 - few) (byte_of n))
    ∙ take_at (each few (byte_of n)) (each (8 - few) (λ (i : ℕ). byte_of n (few + i))) few (length-each few (byte_of n))

-- a part of a list that is written, as the code names it
pub part_put : (s part m : List ℕ) (at n : ℕ) → length part ≡ n → at + n ≤ length s → m ≡ part → put_mid at (at + n - at) s m ≡ sets s at part
part_put s part m at n e h f =
    subst (λ (k : ℕ). put_mid at (at + k - at) s m ≡ sets s at part) e (put_part s part m at (omega arith) f)
