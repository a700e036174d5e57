-- Tests taken apart and put together: `T t` says that the test t holds.
use mathlib.Core.Path.{◌≡◌, refl, sym, subst}
use mathlib.Core.Logic.{◌⊎◌, inl, inr}
use mathlib.Core.Bool.{Bool, true, false, ◌&&◌, ◌||◌, not}
use Prim.Native.Nat.{ℕ}
use lib.Dec.{T, eqb, eqb_refl}

-- the halves of an `&&`
pub and_l : (a b : Bool) → T (a && b) → T a
and_l true b t = tt
and_l false b t = absurd t

pub and_r : (a b : Bool) → T (a && b) → T b
and_r true b t = t
and_r false b t = absurd t

-- an `&&` of its halves
pub and_i : (a b : Bool) → T a → T b → T (a && b)
and_i true b s t = t
and_i false b s t = absurd s

-- an `||` of either half
pub or_l : (a b : Bool) → T a → T (a || b)
or_l true b t = tt
or_l false b t = absurd t

pub or_r : (a b : Bool) → T b → T (a || b)
or_r true b t = tt
or_r false b t = t

-- one half of an `||`
pub or_e : (a b : Bool) → T (a || b) → T a ⊎ T b
or_e true b t = inl tt
or_e false b t = inr t

-- a test holds or it does not
pub holds_or_not : (a : Bool) → T a ⊎ (T a → ⊥)
holds_or_not true = inl tt
holds_or_not false = inr (λ t. t)

-- two tests that hold together are one
pub same : (a b : Bool) → (T a → T b) → (T b → T a) → a ≡ b
same true true f g = refl
same false false f g = refl
same true false f g = absurd (f tt)
same false true f g = absurd (g tt)

-- a test that holds, and one that does not, as the values of the code's conditions
pub is_true : (a : Bool) → T a → a ≡ true
is_true true t = refl
is_true false t = absurd t

pub is_false : (a : Bool) → (T a → ⊥) → a ≡ false
is_false true f = absurd (f tt)
is_false false f = refl

pub from_true : (a : Bool) → a ≡ true → T a
from_true a e = subst T (sym e) tt

-- two tests that are true together are one
pub same_true : (a b : Bool) → (a ≡ true → b ≡ true) → (b ≡ true → a ≡ true) → a ≡ b
same_true a b f g = same a b (λ t. from_true b (f (is_true a t))) (λ t. from_true a (g (is_true b t)))

-- both halves of an `&&`
pub halves : (a b : Bool) → (a && b) ≡ true → (a ≡ true) × (b ≡ true)
halves true b e = (refl, e)
halves false b e = absurd (from_true false e)

-- equal numbers pass the test of equality
pub eqb_of : (m n : ℕ) → m ≡ n → T (eqb m n)
eqb_of m n e = subst (λ (k : ℕ). T (eqb m k)) e (eqb_refl m)

-- what a call that answers a test says, after `if !call(..)`: taken, and left
pub no : (r t : Bool) → r ≡ t → not r ≡ true → t ≡ false
no true t e f = absurd (from_true false f)
no false t e f = sym e

pub yes : (r t : Bool) → r ≡ t → not r ≡ false → t ≡ true
yes true t e f = sym e
yes false t e f = absurd (from_true false (sym f))
