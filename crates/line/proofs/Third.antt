-- The mission's third demand is met, for any two ends.
use Rattle.std.proofs.Common.{◌≡◌, ℕ, ◌<◌, ◌≤◌, List, length, get_or, pos, ◌∙◌, arith}
use Rattle.sheet.specs.Chain.{Chain}
use Rattle.sheet.specs.declared.Cell.{Cell}
use Rattle.line.specs.Rule.{long}
use Rattle.line.specs.Listing.{listing}
use Rattle.line.specs.Distance.{along, distance}
use Rattle.line.specs.Demand.{ThirdDemand}
use Rattle.line.proofs.Listed.{listing_chain, listing_length, listing_nth, listing_backwards, listed_distinct}
use Rattle.line.proofs.Chains.{chain_least, chain_along}
use Rattle.line.proofs.Distances.{listed_nearest, along_either, distance_either, distance_square}

-- any chain from one to the other, and one of as many cells as our line
module _ (a b : Cell) (cells : List Cell) (chain : Chain a b cells) where
  chain_shortest : length (listing a b) ≤ length cells
  chain_shortest = omega (arith, chain_least chain, listing_length a b)

  module _ (e : length cells ≡ length (listing a b)) (n : ℕ) (l : n < length cells) where
    chain_instep : along a b (get_or cells n a) ≡ pos n
    chain_instep = chain_along chain (e ∙ listing_length a b) n a l

    chain_nearest : distance a b (get_or (listing a b) n a) ≤ distance a b (get_or cells n a)
    chain_nearest =
        let k : n ≤ long a b = omega (arith, listing_length a b) in
        rw (listing_nth a b n k) (listed_nearest a b n k (get_or cells n a) chain_instep)

pub third_demand : (a b : Cell) → ThirdDemand a b
third_demand a b =
    record {
      ours = listing_chain a b;
      counted = listing_length a b;
      ruled = listing_nth a b;
      distinct = listed_distinct a b;
      shortest = chain_shortest a b;
      instep = chain_instep a b;
      nearest = chain_nearest a b;
      either = distance_either a b;
      counted_back = along_either a b;
      square = λ e c. distance_square a b c e;
      backwards = listing_backwards a b;
    }
