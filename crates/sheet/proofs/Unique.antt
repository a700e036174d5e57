-- Two replies that meet one statement are equal: the table is one-to-one, and so is the telling of a reply.
use Prim.Native.Nat.{ℕ}
use mathlib.Core.Path.{◌≡◌, refl, sym, ap, ◌∙◌}
use mathlib.Core.List.{List, [], ◌∷◌, map}
use mathlib.Core.Logic.{inl, inr}
use mathlib.Core.Bool.{Bool, true, false, cond, true≢false}
use native.Mathlib.Omega.{arith}
use borrow.Author.Tests.{eqb-true}
use denote.Enum.Declared.{Choice}
use denote.Struct.Field.{Field}
use lib.Dec.{eqb}
use lib.ListN.{length}
use lib.IntN.{ℤ, nat_abs}
use Rattle.std.specs.Prelude.{Option, unwrap_or, Some, None, Result, Ok, Err}
use Rattle.sheet.specs.Reply.{Answer, number, done, refuse, told, told_file, told_next, test_answer, count_answer, count_values, drawn_answer, is_done}
use Rattle.sheet.specs.declared.Drawn.{Drawn}
use Rattle.sheet.specs.declared.refusal.Refusal.{Refusal}
use Rattle.sheet.specs.declared.refusal.Refusal.TheVariants.{Size, Coordinate, Radius, Pieces, Room, Survey, NoCell, Short, Kind, Length, Full, Buffer, Header, Pixels, Slice, Kindless, Work, Start, Places, Tally}
use Rattle.sheet.specs.declared.refusal.FileRefusal.{FileRefusal}
use Rattle.sheet.specs.contracts.refusal.Refusal.{the_parts as parts, the_make as make}

-- the first case of an enum without fields that passes a test
first : (cases : List (List Field)) → (Choice cases → Bool) → List (Choice cases)
first [] test = []
first ([] ∷ rest) test = cond (test (inl tt)) (inl tt ∷ []) (map inr (first rest (λ c. test (inr c))))
first ((f ∷ fs) ∷ rest) test = []

-- the refusals of a number: one, or none
refusals : ℕ → List Refusal
refusals n = map make (first parts (λ c. eqb (number (make c)) n))

number_finds : (r : Refusal) → refusals (number r) ≡ r ∷ []
unfolding refusals first
number_finds Size = refl
number_finds Coordinate = refl
number_finds Radius = refl
number_finds Pieces = refl
number_finds Room = refl
number_finds Survey = refl
number_finds NoCell = refl
number_finds Short = refl
number_finds Kind = refl
number_finds Length = refl
number_finds Full = refl
number_finds Buffer = refl
number_finds Header = refl
number_finds Pixels = refl
number_finds Slice = refl
number_finds Kindless = refl
number_finds Work = refl
number_finds Start = refl
number_finds Places = refl
number_finds Tally = refl

-- no refusal has the number 0
pub number_not_0 : (r : Refusal) → eqb (number r) 0 ≡ false
unfolding refusals first
number_not_0 r = by (eqb (number r) 0) refl
  where
    by : (t : Bool) → eqb (number r) 0 ≡ t → t ≡ false
    by true e =
        let none : r ∷ [] ≡ [] = sym (number_finds r) ∙ ap refusals (eqb-true (number r) 0 e) in
        let z : ◌≡◌ {A = ℕ} 1 0 = ap length none in
        absurd (omega arith)
    by false e = refl

-- the refusal of a number, and no two have one
head_of : List Refusal → Refusal
head_of [] = Size
head_of (r ∷ rs) = r

pub refusal : ℕ → Refusal
refusal n = head_of (refusals n)

pub refusal-number : (r : Refusal) → refusal (number r) ≡ r
unfolding refusal head_of
refusal-number r = ap head_of (number_finds r)

pub number_one : (r q : Refusal) → number r ≡ number q → r ≡ q
number_one r q e = sym (refusal-number r) ∙ ap refusal e ∙ refusal-number q

-- the first value, where there is one
head_value : List ℤ → Option ℕ
head_value [] = None
head_value (v ∷ vs) = Some (nat_abs v)

first_value : List ℤ → ℕ
first_value vs = unwrap_or (head_value vs) 0

-- two replies told alike are equal, where what is told of a value is 0 and one-to-one
module _ {A : Type 0} (answer : A → Answer) (zero : (a : A) → is_done (answer a) ≡ true) (one : (a b : A) → answer a ≡ answer b → a ≡ b) where
  apart : (a : A) (r : Answer) → is_done r ≡ false → answer a ≡ r → ⊥
  apart a r n e = true≢false (sym (zero a) ∙ ap is_done e ∙ n)

  pub told_one : (r q : Result A Refusal) → told answer r ≡ told answer q → r ≡ q
  told_one (Ok a) (Ok b) e = ap Ok (one a b e)
  told_one (Ok a) (Err q) e = absurd (apart a (refuse q) (number_not_0 q) e)
  told_one (Err r) (Ok b) e = absurd (apart b (refuse r) (number_not_0 r) (sym e))
  told_one (Err r) (Err q) e = ap Err (number_one r q (ap (λ (a : Answer). a.number) e))

  pub told_file_one : (r q : Result A FileRefusal) → told_file answer r ≡ told_file answer q → r ≡ q
  unfolding first_value head_value
  told_file_one (Ok a) (Ok b) e = ap Ok (one a b e)
  told_file_one (Ok a) (Err g) e = absurd (apart a _ (number_not_0 g.refusal) e)
  told_file_one (Err f) (Ok b) e = absurd (apart b _ (number_not_0 f.refusal) (sym e))
  told_file_one (Err f) (Err g) e =
      let refusals = number_one f.refusal g.refusal (ap (λ (a : Answer). a.number) e) in
      let offsets : f.offset ≡ g.offset = ap (λ (a : Answer). first_value a.values) e in
      λ i. Err (record { refusal = refusals i; offset = offsets i })

-- so are two of an asking, where no value is told as "finished" is
pub told_next_one : {A : Type 0} (answer : A → Answer) → ((a : A) → answer a ≡ done [] → ⊥) → ((a b : A) → answer a ≡ answer b → a ≡ b)
    → (r q : Option A) → told_next answer r ≡ told_next answer q → r ≡ q
told_next_one answer some one (Some a) (Some b) e = ap Some (one a b e)
told_next_one answer some one (Some a) None e = absurd (some a e)
told_next_one answer some one None (Some b) e = absurd (some b (sym e))
told_next_one answer some one None None e = refl

-- what is told of each kind of value is so
pub test_one : (a b : Unit {0}) → test_answer a ≡ test_answer b → a ≡ b
test_one a b e = refl

pub count_one : (m n : ℕ) → count_answer m ≡ count_answer n → m ≡ n
unfolding first_value head_value
count_one m n e = ap (λ (a : Answer). first_value a.values) e

head_value-count : (c : Option ℕ) → head_value (count_values c) ≡ c
unfolding head_value
head_value-count (Some n) = refl
head_value-count None = refl

pub drawn_one : (d e : Drawn) → drawn_answer d ≡ drawn_answer e → d ≡ e
drawn_one d e p =
    let counts : d.count ≡ e.count = sym (head_value-count d.count) ∙ ap (λ (a : Answer). head_value a.values) p ∙ head_value-count e.count in
    let boxes : d.rectangle ≡ e.rectangle = ap (λ (a : Answer). a.box) p in
    λ i. record { count = counts i; rectangle = boxes i }

-- Two values that meet one equation are equal; so are two replies of one answer, where telling is one-to-one. These serve every public function.
pub one_value : {A : Type 0} (v w a : A) → v ≡ a → w ≡ a → v ≡ w
one_value v w a e f = e ∙ sym f

pub one_reply : {A B : Type 0} (told : A → B) → ((r q : A) → told r ≡ told q → r ≡ q) → (a : B) (r q : A) → told r ≡ a → told q ≡ a → r ≡ q
one_reply told one a r q e f = one r q (one_value (told r) (told q) a e f)
