-- What stands at an offset, at each return of `read`: w is the length that was read, and kind the kind.
use Prim.Native.Nat.{ℕ, ◌+◌, ◌-◌, ◌≤◌, ◌<◌}
use mathlib.Core.Path.{◌≡◌}
use mathlib.Core.List.{List}
use native.Mathlib.Omega.{arith}
use borrow.Author.Tests.{le-leb, lt-leb}
use lib.ListN.{length, take, drop}
use Rattle.sheet.specs.declared.refusal.Refusal.TheVariants.{Short, Kindless}
use Rattle.record.specs.Layout.{word_value_at}
use Rattle.record.specs.Reading.{kind_found, found_at, read_of, read_at}
use Rattle.record.specs.declared.types.Read.{Read}
use Rattle.record.specs.declared.types.Read.TheVariants.{End, Refused}

module _ (s : List ℕ) (at : ℕ) where
  pub at_end : length s ≤ at → End ≡ read_at s at
  unfolding read_at found_at
  at_end h = simp (le-leb _ _ h)

  pub one_left : at < length s → length s - at < 2 → Refused Short at ≡ read_at s at
  unfolding read_at found_at
  one_left h g = simp (lt-leb _ _ h, lt-leb _ _ g)

  module _ (w : ℕ) (e : w ≡ word_value_at s at) (h : at < length s) (g : 2 ≤ length s - at) where
    pub too_long : length s - at - 2 < w → Refused Short at ≡ read_at s at
    unfolding read_at found_at
    too_long i = simp (lt-leb _ _ h, le-leb _ _ g, lt-leb _ _ (rw e at i))

    pub under_2 : w ≤ length s - at - 2 → w < 2 → Refused Kindless at ≡ read_at s at
    unfolding read_at found_at
    under_2 i j = simp (lt-leb _ _ h, le-leb _ _ g, le-leb _ _ (rw e at i), lt-leb _ _ (rw e at j))

    pub framed : (kind : ℕ) (r : Read) → w ≤ length s - at - 2 → 2 ≤ w → kind ≡ word_value_at s (at + 2)
        → r ≡ read_of (kind_found kind (take (at + 2 + w - (at + 4)) (drop (at + 4) s)) at (at + 2 + w)) → r ≡ read_at s at
    unfolding read_at found_at
    framed kind r i j f k =
        let n : at + 2 + w - (at + 4) ≡ w - 2 = omega arith in
        rw (k, n, e, f) (simp (lt-leb _ _ h, le-leb _ _ g, le-leb _ _ (rw e at i), le-leb _ _ (rw e at j)))
