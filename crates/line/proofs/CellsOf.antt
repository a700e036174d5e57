-- The list of the cells f 0, .., f (n − 1).
use Rattle.std.proofs.Common.{◌≡◌, ℕ, zero, suc, ◌-◌, ◌<◌, [], ◌∷◌, ◌++◌, reverse, length, get_or, refl, ap, ◌∙◌, arith}
use mathlib.Core.List.{reverse-append}
use Rattle.sheet.specs.Chain.{Chain, Touch}
use Rattle.sheet.specs.Chain.Chain.{end, step}
use Rattle.sheet.specs.declared.Cell.{Cell}
use Rattle.line.specs.Listing.{cells_of}

-- how many, and the kth
pub cells_length : (f : ℕ → Cell) (n : ℕ) → length (cells_of f n) ≡ n
cells_length f zero = refl
cells_length f (suc n) = ap suc (cells_length (λ (k : ℕ). f (suc k)) n)

pub cells_nth : (f : ℕ → Cell) (n k : ℕ) (d : Cell) → k < n → get_or (cells_of f n) k d ≡ f k
cells_nth f zero k d h = absurd (omega arith)
cells_nth f (suc n) zero d h = refl
cells_nth f (suc n) (suc k) d h = cells_nth (λ (k : ℕ). f (suc k)) n k d (omega arith)

-- of functions that agree below n
pub cells_as : (f g : ℕ → Cell) (n : ℕ) → ((k : ℕ) → k < n → f k ≡ g k) → cells_of f n ≡ cells_of g n
cells_as f g zero h = refl
cells_as f g (suc n) h =
    λ i. h 0 (omega arith) i ∷ cells_as (λ (k : ℕ). f (suc k)) (λ (k : ℕ). g (suc k)) n (λ k l. h (suc k) (omega arith)) i

-- backwards
cells_more : (f : ℕ → Cell) (n : ℕ) → cells_of f (suc n) ≡ cells_of f n ++ (f n ∷ [])
cells_more f zero = refl
cells_more f (suc n) = λ i. f 0 ∷ cells_more (λ (k : ℕ). f (suc k)) n i

pub cells_reverse : (f : ℕ → Cell) (n : ℕ) → reverse (cells_of f n) ≡ cells_of (λ (k : ℕ). f (n - suc k)) n
cells_reverse f zero = refl
cells_reverse f (suc n) =
    let e : n ≡ suc n - 1 = omega arith in
    let s = cells_as (λ (k : ℕ). f (n - suc k)) (λ (k : ℕ). f (suc n - suc (suc k))) n (λ k l. ap f (omega arith)) in
    ap reverse (cells_more f n) ∙ reverse-append (cells_of f n) (f n ∷ []) ∙ (λ i. f (e i) ∷ (cells_reverse f n ∙ s) i)

-- a chain, where each touches the next
pub cells_chain : (f : ℕ → Cell) (n : ℕ) → ((k : ℕ) → k < n → Touch (f k) (f (suc k))) → Chain (f 0) (f n) (cells_of f (suc n))
cells_chain f zero h = end
cells_chain f (suc n) h = step (h 0 (omega arith)) (cells_chain (λ (k : ℕ). f (suc k)) n (λ k l. h (suc k) (omega arith)))
