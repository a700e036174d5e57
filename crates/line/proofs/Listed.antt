-- The listing: its ends, its reversal, that neighbours touch and that its cells are distinct.
use Rattle.std.proofs.Common.{◌≡◌, ℕ, suc, ◌+◌, ◌-◌, ◌<◌, ◌≤◌, Bool, true, false, cond, reverse, length, get_or, sym, ap, ◌∙◌, subst, add-one, arith}
use Rattle.sheet.specs.Chain.{Chain, Touch}
use Rattle.sheet.specs.declared.Cell.{Cell}
use Rattle.line.specs.Rule.{lesser, long, short, nth}
use Rattle.line.specs.Listing.{listed, cells_of, listing}
use Rattle.line.proofs.Distinct.{nth_distinct}
use Rattle.line.proofs.EitherEnd.{short_long, long_sym, nth_either, count_back}
use Rattle.line.proofs.Across.{crossed, crossed_first, crossed_last, crossed_grows}
use Rattle.line.proofs.Place.{at, at_first, at_last, at_touch, listed_at}
use Rattle.line.proofs.CellsOf.{cells_length, cells_nth, cells_as, cells_reverse, cells_chain}

-- from a to b
pub listed_first : (a b : Cell) → listed a b 0 ≡ a
listed_first a b =
    listed_at a b 0 (omega arith) ∙ ap (at a b 0) (crossed_first (lesser a b) (long a b) (short a b) (short_long a b)) ∙ at_first a b

pub listed_last : (a b : Cell) → listed a b (long a b) ≡ b
listed_last a b =
    listed_at a b (long a b) (omega arith) ∙ ap (at a b (long a b)) (crossed_last (lesser a b) (long a b) (short a b) (short_long a b)) ∙ at_last a b

-- each touches the next
pub listed_touch : (a b : Cell) (n : ℕ) → n < long a b → Touch (listed a b n) (listed a b (n + 1))
listed_touch a b n l =
    let g = crossed_grows (lesser a b) (long a b) (short a b) n (short_long a b) l in
    let m = crossed (lesser a b) (long a b) (short a b) in
    rw (listed_at a b n (omega arith), listed_at a b (n + 1) (omega arith)) (at_touch a b n (m n) (m (n + 1)) g.0 g.1)

-- no two numbers have one cell
pub listed_distinct : (a b : Cell) (i j : ℕ) → i ≤ long a b → j ≤ long a b → listed a b i ≡ listed a b j → i ≡ j
unfolding listed
listed_distinct a b i j p q e = by (lesser a b) (nth_distinct a b (cond (lesser a b) i (long a b - i)) (cond (lesser a b) j (long a b - j)) e)
  where
    by : (t : Bool) → cond t i (long a b - i) ≡ cond t j (long a b - j) → i ≡ j
    by true e = e
    by false e = omega arith

-- counted from the other end
pub listed_back : (a b : Cell) (n : ℕ) → n ≤ long a b → listed b a n ≡ listed a b (long a b - n)
unfolding listed
listed_back a b n l =
    nth_either b a (cond (lesser b a) n (long b a - n))
    ∙ ap (λ (k : ℕ). nth a b (cond (lesser b a) n (k - n))) (long_sym a b)
    ∙ ap (nth a b) (count_back a b n l)

-- the list of them
pub listing_length : (a b : Cell) → length (listing a b) ≡ long a b + 1
listing_length a b = cells_length (listed a b) (long a b + 1)

pub listing_nth : (a b : Cell) (n : ℕ) → n ≤ long a b → get_or (listing a b) n a ≡ listed a b n
listing_nth a b n l = cells_nth (listed a b) (long a b + 1) n a (omega arith)

pub listing_chain : (a b : Cell) → Chain a b (listing a b)
listing_chain a b =
    let h = cells_chain (listed a b) (long a b) (λ k l. subst (λ (n : ℕ). Touch (listed a b k) (listed a b n)) (add-one k) (listed_touch a b k l)) in
    subst (λ (c : Cell). Chain c b (listing a b)) (listed_first a b)
    (subst (λ (c : Cell). Chain (listed a b 0) c (listing a b)) (listed_last a b)
    (subst (λ (n : ℕ). Chain (listed a b 0) (listed a b (long a b)) (cells_of (listed a b) n)) (sym (add-one (long a b))) h))

pub listing_backwards : (a b : Cell) → listing b a ≡ reverse (listing a b)
listing_backwards a b =
    ap (λ (n : ℕ). cells_of (listed b a) (n + 1)) (long_sym a b)
    ∙ cells_as (listed b a) (λ (k : ℕ). listed a b (long a b + 1 - suc k)) (long a b + 1) (λ k l. listed_back a b k (omega arith) ∙ ap (listed a b) (omega arith))
    ∙ sym (cells_reverse (listed a b) (long a b + 1))
