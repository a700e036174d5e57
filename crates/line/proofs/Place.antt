-- Where a line's nth cell stands, counted from the first named end.
use Rattle.std.proofs.Common.{◌≡◌, ℕ, ◌+◌, ◌-◌, ◌≤◌, Bool, true, false, cond, pos, refl, ap, ◌∙◌, arith}
use Rattle.sheet.specs.Chain.{wide, tall, Touch}
use Rattle.sheet.specs.declared.Cell.{Cell}
use Rattle.sheet.proofs.Chains.{touching}
use Rattle.line.specs.Rule.{lesser, long, short, steep, rise, toward, from_lesser, nth}
use Rattle.line.specs.Listing.{listed}
use Rattle.line.specs.Distance.{along_by, across_by, along}
use Rattle.line.proofs.Axis.{steps-toward, toward_first, toward_last, toward_apart, toward_back, toward_rest}
use Rattle.line.proofs.EitherEnd.{long_sym, short_sym, steep_sym}
use Rattle.line.proofs.Across.{crossed}
use Rattle.line.proofs.Rise.{rise_short}

-- the cell n along and m across, both from a towards b, where `up` says whether y is called the longer extent
abbrev pub at_by : Bool → Cell → Cell → ℕ → ℕ → Cell
at_by up a b n m = record { x = toward a.x b.x (cond up m n); y = toward a.y b.y (cond up n m) }

abbrev pub at : Cell → Cell → ℕ → ℕ → Cell
at a b n m = at_by (steep a b) a b n m

pub at_along : (a b : Cell) (n m : ℕ) → along a b (at a b n m) ≡ pos n
at_along a b n m = by (steep a b)
  where
    by : (t : Bool) → along_by t a b (at_by t a b n m) ≡ pos n
    by true = steps-toward a.y b.y n
    by false = steps-toward a.x b.x n

pub at_across : (a b : Cell) (n m : ℕ) → across_by (steep a b) a b (at a b n m) ≡ pos m
at_across a b n m = by (steep a b)
  where
    by : (t : Bool) → across_by t a b (at_by t a b n m) ≡ pos m
    by true = steps-toward a.x b.x m
    by false = steps-toward a.y b.y m

-- the ends
pub at_first : (a b : Cell) → at a b 0 0 ≡ a
at_first a b = by (steep a b)
  where
    by : (t : Bool) → at_by t a b 0 0 ≡ a
    by true = λ i. record { x = toward_first a.x b.x i; y = toward_first a.y b.y i }
    by false = λ i. record { x = toward_first a.x b.x i; y = toward_first a.y b.y i }

pub at_last : (a b : Cell) → at a b (long a b) (short a b) ≡ b
at_last a b = by (steep a b)
  where
    by : (t : Bool) → at_by t a b (cond t (tall a b) (wide a b)) (cond t (wide a b) (tall a b)) ≡ b
    by true = λ i. record { x = toward_last a.x b.x i; y = toward_last a.y b.y i }
    by false = λ i. record { x = toward_last a.x b.x i; y = toward_last a.y b.y i }

-- counted from the other end
at_back : (a b : Cell) (n r : ℕ) → n ≤ long a b → r ≤ short a b → at b a (long a b - n) r ≡ at a b n (short a b - r)
at_back a b n r l k = ap (λ (t : Bool). at_by t b a (long a b - n) r) (steep_sym a b) ∙ by (steep a b) l k
  where
    by : (t : Bool) → n ≤ cond t (tall a b) (wide a b) → r ≤ cond t (wide a b) (tall a b)
        → at_by t b a (cond t (tall a b) (wide a b) - n) r ≡ at_by t a b n (cond t (wide a b) (tall a b) - r)
    by true l k = λ i. record { x = toward_back a.x b.x r k i; y = toward_rest a.y b.y n l i }
    by false l k = λ i. record { x = toward_rest a.x b.x n l i; y = toward_back a.y b.y r k i }

-- one more along and at most one more across: they touch
pub at_touch : (a b : Cell) (n m k : ℕ) → m ≤ k → k ≤ m + 1 → Touch (at a b n m) (at a b (n + 1) k)
at_touch a b n m k p q = by (steep a b)
  where
    by : (t : Bool) → Touch (at_by t a b n m) (at_by t a b (n + 1) k)
    by true =
        let u = toward_apart a.x b.x m k in
        let v = toward_apart a.y b.y n (n + 1) in
        touching (at_by true a b n m) (at_by true a b (n + 1) k) (omega arith) (omega arith) (omega arith)
    by false =
        let u = toward_apart a.x b.x n (n + 1) in
        let v = toward_apart a.y b.y m k in
        touching (at_by false a b n m) (at_by false a b (n + 1) k) (omega arith) (omega arith) (omega arith)

-- the nth cell listed
pub listed_at : (a b : Cell) (n : ℕ) → n ≤ long a b → listed a b n ≡ at a b n (crossed (lesser a b) (long a b) (short a b) n)
unfolding listed nth from_lesser
listed_at a b n l = by (lesser a b)
  where
    by : (t : Bool) → cond t (from_lesser a b (cond t n (long a b - n))) (from_lesser b a (cond t n (long a b - n)))
        ≡ at a b n (crossed t (long a b) (short a b) n)
    by true = refl
    by false =
        let k = rise_short (long a b) (short a b) (long a b - n) (omega arith) in
        (λ i. at b a (long a b - n) (rise (long_sym a b i) (short_sym a b i) (long a b - n)))
        ∙ at_back a b n (rise (long a b) (short a b) (long a b - n)) l k
