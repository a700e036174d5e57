-- The header that a file has is the page's, both ways.
use Prim.Native.Nat.{ℕ}
use mathlib.Core.Path.{◌≡◌, refl, sym, subst, ap, ap₂, ◌∙◌}
use mathlib.Core.List.{List, [], ◌∷◌, ◌++◌}
use mathlib.Core.Bool.{Bool, true, false, cond, not, ◌&&◌, and-false, true≢false}
use native.Mathlib.Omega.{arith}
use borrow.Author.Tests.{eqb-true, eq-eqb, ne_eqb, lt-leb}
use lib.Dec.{eqb}
use Rattle.laws.proofs.Tests.{halves}
use Rattle.pbm.specs.Page.{blank, digit, ending, Some, Comment, Begins, value_after, Headed}
use Rattle.pbm.specs.Header.{Letter, letters, first, next, after_first, run, past, from_gap, from_width, from_space, from_height, from_last, names, rows_of}
use Rattle.pbm.proofs.Standing.{digit_value, run_ends}
use Rattle.pbm.proofs.Finding.{shuffle}

-- letters that begin with a text, and the file's bytes after the text's last byte
data Spells : (text : List ℕ) (ls : List Letter) (after : List ℕ) → Type 0 where
  last : (c : ℕ) (after : List ℕ) (ls : List Letter) → Spells (c ∷ []) (record { byte = c; after = after } ∷ ls) after
  more : (c d : ℕ) (text f : List ℕ) (ls : List Letter) (after : List ℕ) → Spells (d ∷ text) ls after
      → Spells (c ∷ d ∷ text) (record { byte = c; after = f } ∷ ls) after

-- a comment has no letters
skipped : (comment file : List ℕ) → Comment comment → letters true (comment ++ file) ≡ letters false file
unfolding letters
skipped _ file (Comment.ends c e) = ap (λ (t : Bool). letters (not t) file) e
skipped _ file (Comment.goes c s e h) = ap (λ (t : Bool). letters (not t) (s ++ file)) e ∙ skipped s file h

-- a file that begins with a text has letters that do
one_letter : (c : ℕ) (file after : List ℕ) → Begins [] file after → Spells (c ∷ []) (record { byte = c; after = file } ∷ letters false file) after
one_letter c _ _ (Begins.here after) = Spells.last c after (letters false after)

spelt : (c : ℕ) (text file after : List ℕ) → Begins (c ∷ text) file after → Spells (c ∷ text) (letters false file) after
unfolding letters
spelt c [] _ after (Begins.byte _ _ file _ e h) =
    subst (λ (t : Bool). Spells (c ∷ []) (cond t (letters true file) (record { byte = c; after = file } ∷ letters false file)) after) (sym e) (one_letter c file after h)
spelt c (d ∷ text) _ after (Begins.byte _ _ file _ e h) =
    subst (λ (t : Bool). Spells (c ∷ d ∷ text) (cond t (letters true file) (record { byte = c; after = file } ∷ letters false file)) after) (sym e)
    (Spells.more c d text file (letters false file) after (spelt d text file after h))
spelt c text _ after (Begins.skip comment _ _ file _ m h) =
    subst (λ (ls : List Letter). Spells (c ∷ text) ls after) (sym (skipped comment file m)) (spelt c text file after h)

-- as long as a test holds: what is run through, and what comes after
record Runs (test : ℕ → Bool) (part text : List ℕ) (ls : List Letter) (after : List ℕ) : Type 0 where
  begins : first test ls ≡ true
  is : run test ls ≡ part
  rest : Spells text (past test ls) after

stops : (test : ℕ → Bool) (d : ℕ) (text : List ℕ) (ls : List Letter) (after : List ℕ) → test d ≡ false → Spells (d ∷ text) ls after
    → (run test ls ≡ []) × (past test ls ≡ ls)
unfolding run past
stops test d _ _ after e (Spells.last _ _ ls) = (rw e refl, rw e refl)
stops test d _ _ after e (Spells.more _ _ text f ls _ h) = (rw e refl, rw e refl)

runs : (test : ℕ → Bool) (part : List ℕ) (d : ℕ) (text : List ℕ) (ls : List Letter) (after : List ℕ) → Some test part → test d ≡ false
    → Spells (part ++ (d ∷ text)) ls after → Runs test part (d ∷ text) ls after
unfolding run past
runs test _ d text _ after (Some.one c e) n (Spells.more _ _ _ f ls _ h) =
    let s = stops test d text ls after n h in
    record {
      begins = e;
      is = rw e (ap (λ (x : List ℕ). c ∷ x) s.0);
      rest = rw e (subst (λ (l : List Letter). Spells (d ∷ text) l after) (sym s.1) h);
    }
runs test _ d text _ after (Some.more c _ e (Some.one b g)) n (Spells.more _ _ _ f ls _ h) =
    let r = runs test (b ∷ []) d text ls after (Some.one b g) n h in
    record { begins = e; is = rw e (ap (λ (x : List ℕ). c ∷ x) r.is); rest = rw e r.rest }
runs test _ d text _ after (Some.more c _ e (Some.more b s g o)) n (Spells.more _ _ _ f ls _ h) =
    let r = runs test (b ∷ s) d text ls after (Some.more b s g o) n h in
    record { begins = e; is = rw e (ap (λ (x : List ℕ). c ∷ x) r.is); rest = rw e r.rest }

-- a digit is no blank, and a blank no digit
digit_not_blank : (c : ℕ) → digit c ≡ true → blank c ≡ false
digit_not_blank c e = let v = digit_value c e in rw (ne_eqb c 32 (λ f. omega (arith, v.0)), lt-leb c 13 (omega (arith, v.0)), and-false) refl

blank_not_digit : (c : ℕ) → blank c ≡ true → digit c ≡ false
blank_not_digit c e = by (digit c) refl
  where
    by : (t : Bool) → digit c ≡ t → t ≡ false
    by true f = absurd (true≢false (sym e ∙ digit_not_blank c f))
    by false f = refl

-- a part that is followed by one of another test; the letters after the first; and the last
runs_then : (test other : ℕ → Bool) → ((c : ℕ) → other c ≡ true → test c ≡ false) → (part next text : List ℕ) (ls : List Letter) (after : List ℕ)
    → Some test part → Some other next → Spells (part ++ (next ++ text)) ls after → Runs test part (next ++ text) ls after
runs_then test other apart part _ text ls after p (Some.one c e) h = runs test part c text ls after p (apart c e) h
runs_then test other apart part _ text ls after p (Some.more c s e o) h = runs test part c (s ++ text) ls after p (apart c e) h

first_is : (c : ℕ) (text : List ℕ) (ls : List Letter) (after : List ℕ) → Spells (c ∷ text) ls after → first (eqb c) ls ≡ true
first_is c _ _ after (Spells.last _ _ ls) = eq-eqb c c refl
first_is c _ _ after (Spells.more _ _ text f ls _ h) = eq-eqb c c refl

then_some : (test : ℕ → Bool) (c : ℕ) (part text : List ℕ) (ls : List Letter) (after : List ℕ) → Some test part → Spells (c ∷ (part ++ text)) ls after
    → Spells (part ++ text) (next ls) after
then_some test c _ text _ after (Some.one d e) (Spells.more _ _ _ f ls _ h) = h
then_some test c _ text _ after (Some.more d s e o) (Spells.more _ _ _ f ls _ h) = h

then_next : (c d : ℕ) (text : List ℕ) (ls : List Letter) (after : List ℕ) → Spells (c ∷ d ∷ text) ls after → Spells (d ∷ text) (next ls) after
then_next c d text _ after (Spells.more _ _ _ f ls _ h) = h

the_last : (test : ℕ → Bool) (c : ℕ) (ls : List Letter) (after : List ℕ) → test c ≡ true → Spells (c ∷ []) ls after → (first test ls ≡ true) × (after_first ls ≡ after)
the_last test c _ _ e (Spells.last _ after ls) = (e, refl)

-- The page's rules, kept by the file, are what the reading of it finds.
module _ {file : List ℕ} {width height : ℕ} {rows : List ℕ} (h : Headed file width height rows) where
  all : List Letter
  all = letters false file

  whole : Spells (80 ∷ 52 ∷ (h.gap ++ (h.across ++ (h.space ++ (h.down ++ (h.last ∷ [])))))) all rows
  unfolding all
  whole = spelt 80 _ file rows h.begins

  figure : Spells (52 ∷ (h.gap ++ (h.across ++ (h.space ++ (h.down ++ (h.last ∷ [])))))) (next all) rows
  figure = then_next 80 52 _ all rows whole

  gap : Runs blank h.gap (h.across ++ (h.space ++ (h.down ++ (h.last ∷ [])))) (from_gap all) rows
  gap = runs_then blank digit digit_not_blank _ _ _ _ rows h.gaps h.acrosses (then_some blank 52 h.gap _ (next all) rows h.gaps figure)

  across : Runs digit h.across (h.space ++ (h.down ++ (h.last ∷ []))) (from_width all) rows
  across = runs_then digit blank blank_not_digit _ _ _ _ rows h.acrosses h.spaces gap.rest

  space : Runs blank h.space (h.down ++ (h.last ∷ [])) (from_space all) rows
  space = runs_then blank digit digit_not_blank _ _ _ _ rows h.spaces h.downs across.rest

  down : Runs digit h.down (h.last ∷ []) (from_height all) rows
  down = runs digit h.down h.last [] (from_height all) rows h.downs (blank_not_digit h.last h.lasts) space.rest

  ended : (first blank (from_last all) ≡ true) × (after_first (from_last all) ≡ rows)
  ended = the_last blank h.last (from_last all) rows h.lasts down.rest

  pub page_size : (a b : ℕ) → names a b file ≡ (eqb width a && eqb height b)
  unfolding names all
  page_size a b =
      rw (first_is 80 _ all rows whole, first_is 52 _ (next all) rows figure, gap.begins, across.begins, space.begins, down.begins, ended.0, across.is, down.is, h.wide, h.high) refl

  pub page_rows : rows_of file ≡ rows
  unfolding rows_of all
  page_rows = ended.1

  pub page_names : (names width height file ≡ true) × (rows_of file ≡ rows)
  page_names = (page_size width height ∙ ap₂ (λ (s t : Bool). s && t) (eq-eqb width width refl) (eq-eqb height height refl), page_rows)

-- the other way: letters that pass a test are some bytes, and spell them
some_run : (test : ℕ → Bool) (ls : List Letter) → first test ls ≡ true → Some test (run test ls)
unfolding run
some_run test [] e = absurd (true≢false (sym e))
some_run test (l ∷ ls) e = rw e (by (first test ls) refl (some_run test ls))
  where
    by : (t : Bool) → first test ls ≡ t → (first test ls ≡ true → Some test (run test ls)) → Some test (l.byte ∷ run test ls)
    by true f h = Some.more l.byte (run test ls) e (h f)
    by false f h = subst (λ (s : List ℕ). Some test (l.byte ∷ s)) (sym (run_ends test ls f).0) (Some.one l.byte e)

more_any : (l : Letter) (text : List ℕ) (ls : List Letter) (after : List ℕ) → Spells text ls after → Spells (l.byte ∷ text) (l ∷ ls) after
more_any l _ _ _ (Spells.last c after ls) = Spells.more l.byte c [] l.after (record { byte = c; after = after } ∷ ls) after (Spells.last c after ls)
more_any l _ _ _ (Spells.more c d text f ls after h) =
    Spells.more l.byte c (d ∷ text) l.after (record { byte = c; after = f } ∷ ls) after (Spells.more c d text f ls after h)

spell_run : (test : ℕ → Bool) (ls : List Letter) (text after : List ℕ) → first test ls ≡ true → Spells text (past test ls) after → Spells (run test ls ++ text) ls after
unfolding run past
spell_run test [] text after e h = absurd (true≢false (sym e))
spell_run test (l ∷ ls) text after e h = rw e (more_any l (run test ls ++ text) ls after (by (first test ls) refl (λ f. spell_run test ls text after f) (subst (λ (t : Bool). Spells text (cond t (past test ls) (l ∷ ls)) after) e h)))
  where
    by : (t : Bool) → first test ls ≡ t → (first test ls ≡ true → Spells text (past test ls) after → Spells (run test ls ++ text) ls after) → Spells text (past test ls) after
        → Spells (run test ls ++ text) ls after
    by true f g h = g f h
    by false f g h =
        let r = run_ends test ls f in
        subst (λ (s : List ℕ). Spells (s ++ text) ls after) (sym r.0) (subst (λ (m : List Letter). Spells text m after) r.1 h)

spell_first : (c : ℕ) (ls : List Letter) (text after : List ℕ) → first (eqb c) ls ≡ true → Spells text (next ls) after → Spells (c ∷ text) ls after
spell_first c [] text after e h = absurd (true≢false (sym e))
spell_first c (l ∷ ls) text after e h = subst (λ (b : ℕ). Spells (b ∷ text) (l ∷ ls) after) (sym (eqb-true c l.byte e)) (more_any l text ls after h)

first_byte : List Letter → ℕ
first_byte [] = 0
first_byte (l ∷ ls) = l.byte

spell_last : (test : ℕ → Bool) (ls : List Letter) → first test ls ≡ true → (test (first_byte ls) ≡ true) × Spells (first_byte ls ∷ []) ls (after_first ls)
unfolding first_byte
spell_last test [] e = absurd (true≢false (sym e))
spell_last test (l ∷ ls) e = (e, Spells.last l.byte l.after ls)

-- and a file whose letters begin with a text begins with it
record Commented (text s after : List ℕ) : Type 0 where
  comment : List ℕ
  file : List ℕ
  splits : s ≡ comment ++ file
  comments : Comment comment
  begins : Begins text file after

abbrev Built : Bool → (text s after : List ℕ) → Type 0
Built true text s after = Commented text s after
Built false text s after = Begins text s after

-- (one that begins with a comment needs a text with a byte)
with_comment : (text s after : List ℕ) (ls : List Letter) → Spells text ls after → Commented text s after → Begins text (35 ∷ s) after
with_comment text s after ls h m = subst (λ (r : List ℕ). Begins text (35 ∷ r) after) (sym m.splits) (by text ls h m.begins)
  where
    by : (t : List ℕ) (ls : List Letter) → Spells t ls after → Begins t m.file after → Begins t (35 ∷ (m.comment ++ m.file)) after
    by _ _ (Spells.last c _ l) b = Begins.skip m.comment c [] m.file after m.comments b
    by _ _ (Spells.more c d u f l _ k) b = Begins.skip m.comment c (d ∷ u) m.file after m.comments b

abbrev Letters : List Letter → Type 0
Letters [] = ⊥
Letters (l ∷ ls) = Unit {0}

some_letters : (text after : List ℕ) (ls : List Letter) → Spells text ls after → Letters ls
some_letters _ _ _ (Spells.last c after ls) = tt
some_letters _ _ _ (Spells.more c d text f ls after h) = tt

by_letter : (c : ℕ) (s text after : List ℕ) → eqb c 35 ≡ false → ((t : List ℕ) → Spells t (letters false s) after → Begins t s after)
    → Spells text (record { byte = c; after = s } ∷ letters false s) after → Begins text (c ∷ s) after
by_letter c s _ _ e off (Spells.last _ _ _) = Begins.byte c [] s s e (Begins.here s)
by_letter c s _ after e off (Spells.more _ d text _ _ _ h) = Begins.byte c (d ∷ text) s after e (off (d ∷ text) h)

built : (w : Bool) (s text after : List ℕ) → Spells text (letters w s) after → Built w text s after
unfolding letters
built true [] text after h = absurd (some_letters text after [] h)
built false [] text after h = absurd (some_letters text after [] h)
built true (c ∷ s) text after h = ended (ending c) refl (λ k. built true s text after k) (λ k. built false s text after k) h
  where
    ended : (t : Bool) → ending c ≡ t → (Spells text (letters true s) after → Commented text s after) → (Spells text (letters false s) after → Begins text s after)
        → Spells text (letters (not (ending c)) s) after → Commented text (c ∷ s) after
    ended true e on off h =
        record { comment = c ∷ []; file = s; splits = refl; comments = Comment.ends c e; begins = off (subst (λ (t : Bool). Spells text (letters (not t) s) after) e h) }
    ended false e on off h =
        let m = on (subst (λ (t : Bool). Spells text (letters (not t) s) after) e h) in
        record {
          comment = c ∷ m.comment;
          file = m.file;
          splits = ap (λ (r : List ℕ). c ∷ r) m.splits;
          comments = Comment.goes c m.comment e m.comments;
          begins = m.begins;
        }
built false (c ∷ s) text after h = opened (eqb c 35) refl (λ k. built true s text after k) (λ t k. built false s t after k) h
  where
    opened : (t : Bool) → eqb c 35 ≡ t → (Spells text (letters true s) after → Commented text s after) → ((t : List ℕ) → Spells t (letters false s) after → Begins t s after)
        → Spells text (cond (eqb c 35) (letters true s) (record { byte = c; after = s } ∷ letters false s)) after → Begins text (c ∷ s) after
    opened true e on off h =
        let k : Spells text (letters true s) after = subst (λ (t : Bool). Spells text (cond t (letters true s) (record { byte = c; after = s } ∷ letters false s)) after) e h in
        subst (λ (b : ℕ). Begins text (b ∷ s) after) (sym (eqb-true c 35 e)) (with_comment text s after (letters true s) k (on k))
    opened false e on off h =
        let k : Spells text (record { byte = c; after = s } ∷ letters false s) after = subst (λ (t : Bool). Spells text (cond t (letters true s) (record { byte = c; after = s } ∷ letters false s)) after) e h in
        by_letter c s text after e (λ t. off t) k

-- What the reading of a file finds is a header by the page's rules.
module _ (file : List ℕ) (width height : ℕ) (e : names width height file ≡ true) where
  found : List Letter
  found = letters false file

  parts : (((first (eqb 80) found && first (eqb 52) (next found)) && ((first blank (from_gap found) && first blank (from_space found)) && first blank (from_last found)))
      && ((first digit (from_width found) && eqb (value_after 0 (run digit (from_width found))) width) && (first digit (from_height found) && eqb (value_after 0 (run digit (from_height found))) height))) ≡ true
  unfolding names found
  parts = sym (shuffle (first (eqb 80) found) (first (eqb 52) (next found)) (first blank (from_gap found)) (first digit (from_width found)) (first blank (from_space found)) (first digit (from_height found)) (first blank (from_last found))
      (eqb (value_after 0 (run digit (from_width found))) width) (eqb (value_after 0 (run digit (from_height found))) height)) ∙ e

  pub names_page : Headed file width height (rows_of file)
  unfolding rows_of found
  names_page =
      let sides = halves _ _ parts in
      let texts = halves _ _ sides.0 in
      let magic = halves _ _ texts.0 in
      let blanks = halves _ _ texts.1 in
      let inner = halves _ _ blanks.0 in
      let numbers = halves _ _ sides.1 in
      let wide = halves _ _ numbers.0 in
      let high = halves _ _ numbers.1 in
      let last = spell_last blank (from_last found) blanks.1 in
      let down = spell_run digit (from_height found) _ _ high.0 last.1 in
      let space = spell_run blank (from_space found) _ _ inner.1 down in
      let across = spell_run digit (from_width found) _ _ wide.0 space in
      let gap = spell_run blank (from_gap found) _ _ inner.0 across in
      record {
        gap = run blank (from_gap found);
        across = run digit (from_width found);
        space = run blank (from_space found);
        down = run digit (from_height found);
        last = first_byte (from_last found);
        gaps = some_run blank (from_gap found) inner.0;
        acrosses = some_run digit (from_width found) wide.0;
        spaces = some_run blank (from_space found) inner.1;
        downs = some_run digit (from_height found) high.0;
        lasts = last.0;
        wide = eqb-true _ width wide.1;
        high = eqb-true _ height high.1;
        begins = built false file _ _ (spell_first 80 found _ _ magic.0 (spell_first 52 (next found) _ _ magic.1 gap));
      }
