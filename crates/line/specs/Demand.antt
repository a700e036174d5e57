-- The mission's third demand, for two ends a and b.
use Rattle.std.specs.Prelude.{◌≡◌, ℕ, ◌+◌, ◌-◌, ◌<◌, ◌≤◌, true, false, List, reverse, length, pos, slice_index_or}
use Rattle.sheet.specs.Chain.{wide, tall, Chain}
use Rattle.sheet.specs.declared.Cell.{Cell}
use Rattle.line.specs.Rule.{long}
use Rattle.line.specs.Listing.{listed, listing}
use Rattle.line.specs.Distance.{along, distance_by, distance}

pub record ThirdDemand (a b : Cell) : Type 0 where
  -- our line is a chain from one end to the other, of L + 1 cells, all different, and they are those that the rule lists
  pub ours : Chain a b (listing a b)
  pub counted : length (listing a b) ≡ long a b + 1
  pub ruled : (n : ℕ) → n ≤ long a b → slice_index_or (listing a b) n a ≡ listed a b n
  pub distinct : (i j : ℕ) → i ≤ long a b → j ≤ long a b → listed a b i ≡ listed a b j → i ≡ j
  -- any chain from one to the other, each cell touching the next by side or corner, has no fewer cells than our line
  pub shortest : (cells : List Cell) → Chain a b cells → length (listing a b) ≤ length cells
  -- if it has as many, its nth cell stands n steps along, as ours does ..
  pub instep : (cells : List Cell) → Chain a b cells → length cells ≡ length (listing a b) → (n : ℕ) → n < length cells
      → along a b (slice_index_or cells n a) ≡ pos n
  -- .. and is no nearer the ideal straight line than our nth
  pub nearest : (cells : List Cell) → Chain a b cells → length cells ≡ length (listing a b) → (n : ℕ) → n < length cells
      → distance a b (slice_index_or (listing a b) n a) ≤ distance a b (slice_index_or cells n a)
  -- the distance is the same, whichever end is taken; n steps along from one end are L − n from the other
  pub either : (c : Cell) → distance b a c ≡ distance a b c
  pub counted_back : (c : Cell) (n : ℕ) → n ≤ long a b → along a b c ≡ pos n → along b a c ≡ pos (long a b - n)
  -- with equal extents either axis may be called the longer
  pub square : wide a b ≡ tall a b → (c : Cell) → distance_by true a b c ≡ distance_by false a b c
  -- exchanging the ends lists the same cells backwards
  pub backwards : listing b a ≡ reverse (listing a b)
