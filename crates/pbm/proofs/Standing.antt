-- Places in a header: the laws of `Stands`, and of the loops that move a place on.
use Prim.Native.Nat.{ℕ, suc, ◌+◌, ◌*◌, ◌-◌, ◌≤◌, ◌<◌}
use mathlib.Core.Path.{◌≡◌, refl, sym, ap, ◌∙◌}
use mathlib.Core.List.{List, [], ◌∷◌}
use mathlib.Core.Bool.{Bool, true, false, cond, not, ◌&&◌, true≢false}
use native.Mathlib.Omega.{arith}
use native.Mathlib.Numerals.{add-one}
use native.Mathlib.Decide.{dec_le, dec_lt}
use borrow.Author.Tests.{ne_eqb, ltb-true, lt-ltb, le-ltb, leb-true, le-leb, lt-leb}
use lib.Dec.{eqb, ltb, leb}
use lib.ListN.{length, get_or, drop, drop_of_length-le}
use lib.Seq.{drop-cons}
use Rattle.laws.proofs.Tests.{halves}
use Rattle.pbm.specs.Page.{digit, ending, value_after}
use Rattle.pbm.specs.Header.{Letter, letters, first, next, after_first, run, past}
use Rattle.pbm.specs.Inner.{letters_at, Stands, capped}

-- a file that is read to its end has no letters
none : (within : Bool) → letters within [] ≡ []
unfolding letters
none true = refl
none false = refl

pub at_end : (s : List ℕ) (within : Bool) (at : ℕ) → length s ≤ at → letters within (drop at s) ≡ []
at_end s within at l = ap (letters within) (drop_of_length-le s {i = at} l) ∙ none within

-- the letter at a place, and the rest
abbrev letter_at : List ℕ → ℕ → Letter
letter_at s at = record { byte = get_or s at 0; after = drop (suc at) s }

pub at_letter : (s : List ℕ) (at : ℕ) → at < length s → eqb (get_or s at 0) 35 ≡ false → letters_at s at ≡ letter_at s at ∷ letters_at s (at + 1)
unfolding letters
at_letter s at l e =
    ap (letters false) (drop-cons s at 0 l)
    ∙ ap (λ (t : Bool). cond t (letters true (drop (suc at) s)) (letter_at s at ∷ letters false (drop (suc at) s))) e
    ∙ ap (λ (n : ℕ). letter_at s at ∷ letters_at s n) (sym (add-one at))

-- the loop that finds a letter: it goes on, or is at the end
module _ (s : List ℕ) (from : ℕ) (within : Bool) (at : ℕ) (same : letters within (drop at s) ≡ letters_at s from) where
  pub goes_on : (r : Bool) → at < length s → (not within && not (eqb (get_or s at 0) 35)) ≡ false → r ≡ ending (get_or s at 0)
      → letters (not (within && r)) (drop (at + 1) s) ≡ letters_at s from
  unfolding letters
  goes_on r l e f = by within same e (eqb (get_or s at 0) 35) refl
    where
      step : (w : Bool) → letters w (drop at s) ≡ letters_at s from → letters w (get_or s at 0 ∷ drop (suc at) s) ≡ letters_at s from
      step w m = ap (letters w) (sym (drop-cons s at 0 l)) ∙ m

      by : (w : Bool) → letters w (drop at s) ≡ letters_at s from → (not w && not (eqb (get_or s at 0) 35)) ≡ false → (t : Bool) → eqb (get_or s at 0) 35 ≡ t
          → letters (not (w && r)) (drop (at + 1) s) ≡ letters_at s from
      by true m e t g =
          ap (λ (n : ℕ). letters (not r) (drop n s)) (add-one at) ∙ ap (λ (b : Bool). letters (not b) (drop (suc at) s)) f ∙ step true m
      by false m e true g =
          ap (λ (n : ℕ). letters true (drop n s)) (add-one at)
          ∙ sym (ap (λ (t : Bool). cond t (letters true (drop (suc at) s)) (letter_at s at ∷ letters false (drop (suc at) s))) g) ∙ step false m
      by false m e false g = absurd (true≢false (sym (ap not g) ∙ e))

  pub at_last : length s ≤ at → Stands s (letters_at s from) (length s)
  at_last l =
      record {
        is = sym same ∙ at_end s within at l ∙ sym (at_end s false (length s) (omega arith));
        within = omega arith;
        outside = λ m e. absurd (omega arith);
      }

-- what stands at a place
module _ {s : List ℕ} {ls : List Letter} {at : ℕ} (h : Stands s ls at) where
  pub stands_at : (at < length s → ls ≡ letter_at s at ∷ letters_at s (at + 1)) × (length s ≤ at → ls ≡ [])
  stands_at = (λ l. h.is ∙ at_letter s at l (ne_eqb (get_or s at 0) 35 (h.outside l)), λ l. h.is ∙ at_end s false at l)

  pub stands_first : (test : ℕ → Bool) → first test ls ≡ (ltb at (length s) && test (get_or s at 0))
  stands_first test = by (dec_lt at (length s))
    where
      by : Dec (at < length s) → first test ls ≡ (ltb at (length s) && test (get_or s at 0))
      by (yes l) = ap (first test) (stands_at.0 l) ∙ sym (ap (λ (t : Bool). t && test (get_or s at 0)) (lt-ltb at (length s) l))
      by (no l) = ap (first test) (stands_at.1 (omega arith)) ∙ sym (ap (λ (t : Bool). t && test (get_or s at 0)) (le-ltb at (length s) (omega arith)))

  pub stands_next : next ls ≡ letters_at s (at + 1)
  stands_next = by (dec_lt at (length s))
    where
      by : Dec (at < length s) → next ls ≡ letters_at s (at + 1)
      by (yes l) = ap next (stands_at.0 l)
      by (no l) = ap next (stands_at.1 (omega arith)) ∙ sym (at_end s false (at + 1) (omega arith))

  pub stands_after : at < length s → after_first ls ≡ drop (at + 1) s
  stands_after l = ap after_first (stands_at.0 l) ∙ ap (λ (n : ℕ). drop n s) (sym (add-one at))

  -- a test that holds of the letter there, and one that does not
  pub run_more : (test : ℕ → Bool) → first test ls ≡ true → (run test ls ≡ get_or s at 0 ∷ run test (letters_at s (at + 1))) × (past test ls ≡ past test (letters_at s (at + 1))) × (at < length s) × (test (get_or s at 0) ≡ true)
  unfolding run past
  run_more test e =
      let p = halves (ltb at (length s)) (test (get_or s at 0)) (sym (stands_first test) ∙ e) in
      let l = ltb-true at (length s) p.0 in
      let q = stands_at.0 l in (
        ap (run test) q ∙ ap (λ (t : Bool). cond t (get_or s at 0 ∷ run test (letters_at s (at + 1))) []) p.1,
        ap (past test) q ∙ ap (λ (t : Bool). cond t (past test (letters_at s (at + 1))) (letter_at s at ∷ letters_at s (at + 1))) p.1,
        l,
        p.1,
      )

-- letters of which the first fails a test
pub run_ends : (test : ℕ → Bool) (ls : List Letter) → first test ls ≡ false → (run test ls ≡ []) × (past test ls ≡ ls)
unfolding run past
run_ends test [] e = (refl, refl)
run_ends test (l ∷ ls) e = (rw e refl, rw e refl)

-- a place that moves on as long as a test holds
pub record Skips (test : ℕ → Bool) (s : List ℕ) (from at : ℕ) : Type 0 where
  pub stands : Stands s (letters_at s at) at
  pub rest : past test (letters_at s at) ≡ past test (letters_at s from)

again : {s : List ℕ} {ls : List Letter} {at : ℕ} → Stands s ls at → Stands s (letters_at s at) at
again h = record { is = refl; within = h.within; outside = h.outside }

pub skips_more : {test : ℕ → Bool} {s : List ℕ} {from at n : ℕ} → Skips test s from at → (ltb at (length s) && test (get_or s at 0)) ≡ true
    → Stands s (letters_at s (at + 1)) n → Skips test s from n
skips_more {test} k e h =
    record {
      stands = again h;
      rest = ap (past test) (sym h.is) ∙ sym (run_more k.stands test (stands_first k.stands test ∙ e)).1 ∙ k.rest;
    }

pub skips_end : {test : ℕ → Bool} {s : List ℕ} {from at : ℕ} → Skips test s from at → (ltb at (length s) && test (get_or s at 0)) ≡ false
    → Stands s (past test (letters_at s from)) at
skips_end {test} {s} {from} {at} k e =
    record {
      is = sym k.rest ∙ (run_ends test (letters_at s at) (stands_first k.stands test ∙ e)).1;
      within = k.stands.within;
      outside = k.stands.outside;
    }

-- a number in its bound
pub capped_low : (v : ℕ) → v ≤ 4096 → capped v ≡ v
unfolding capped
capped_low v l = rw (le-leb v 4096 l) refl

pub capped_high : (v : ℕ) → 4096 < v → capped v ≡ 4097
unfolding capped
capped_high v l = rw (lt-leb v 4096 l) refl

value_grows : (v : ℕ) (ds : List ℕ) → v ≤ value_after v ds
unfolding value_after
value_grows v [] = omega arith
value_grows v (c ∷ ds) = omega (arith, value_grows (10 * v + (c - 48)) ds)

capped_after : (v : ℕ) (ds : List ℕ) → Dec (v ≤ 4096) → capped (value_after (capped v) ds) ≡ capped (value_after v ds)
capped_after v ds (yes l) = ap (λ (n : ℕ). capped (value_after n ds)) (capped_low v l)
capped_after v ds (no l) =
    ap (λ (n : ℕ). capped (value_after n ds)) (capped_high v (omega arith))
    ∙ capped_high (value_after 4097 ds) (omega (arith, value_grows 4097 ds))
    ∙ sym (capped_high (value_after v ds) (omega (arith, value_grows v ds)))

capped_small : (v : ℕ) → v ≤ 4097 → Dec (v ≤ 4096) → capped v ≡ v
capped_small v l (yes m) = capped_low v m
capped_small v l (no m) = capped_high v (omega arith) ∙ omega arith

pub capped_bound : (v : ℕ) → capped v ≤ 4097
capped_bound v = by (dec_le v 4096)
  where
    by : Dec (v ≤ 4096) → capped v ≤ 4097
    by (yes l) = omega (arith, capped_low v l)
    by (no l) = omega (arith, capped_high v (omega arith))

-- the digits that are read, as a number in its bound
pub record Counts (s : List ℕ) (from value at : ℕ) : Type 0 where
  pub small : value ≤ 4097
  pub all : capped (value_after value (run digit (letters_at s at))) ≡ capped (value_after 0 (run digit (letters_at s from)))

pub counts_more : {s : List ℕ} {from value at n v : ℕ} → Skips digit s from at → Counts s from value at → (ltb at (length s) && digit (get_or s at 0)) ≡ true
    → Stands s (letters_at s (at + 1)) n → v ≡ capped (10 * value + (get_or s at 0 - 48)) → Counts s from v n
unfolding value_after
counts_more {s} {from} {value} {at} {n} {v} k c e h f =
    let more = (run_more k.stands digit (stands_first k.stands digit ∙ e)).0 in
    let ds = run digit (letters_at s (at + 1)) in
    let w = 10 * value + (get_or s at 0 - 48) in
    record {
      small = omega (arith, capped_bound w);
      all = ap (λ (ls : List Letter). capped (value_after v (run digit ls))) (sym h.is)
          ∙ ap (λ (m : ℕ). capped (value_after m ds)) f
          ∙ capped_after w ds (dec_le w 4096)
          ∙ ap (λ (xs : List ℕ). capped (value_after value xs)) (sym more)
          ∙ c.all;
    }

pub counts_end : {s : List ℕ} {from value at : ℕ} → Skips digit s from at → Counts s from value at → (ltb at (length s) && digit (get_or s at 0)) ≡ false
    → value ≡ capped (value_after 0 (run digit (letters_at s from)))
unfolding value_after
counts_end {s} {from} {value} {at} k c e =
    sym (capped_small value c.small (dec_le value 4096))
    ∙ ap (λ (xs : List ℕ). capped (value_after value xs)) (sym (run_ends digit (letters_at s at) (stands_first k.stands digit ∙ e)).0)
    ∙ c.all

-- a digit has a value
pub digit_value : (c : ℕ) → digit c ≡ true → (48 ≤ c) × (c ≤ 57)
digit_value c e = let p = halves (leb 48 c) (leb c 57) e in (leb-true 48 c p.0, leb-true c 57 p.1)

-- and what such a test tells
pub inside : (at n : ℕ) (r b : Bool) → r ≡ (ltb at n && b) → r ≡ true → (at < n) × (b ≡ true)
inside at n r b e f = let p = halves (ltb at n) b (sym e ∙ f) in (ltb-true at n p.0, p.1)
