-- The walk's loop: what holds when the cells before the nth are inked, and that a turn keeps it.
use Rattle.std.proofs.Common.{◌≡◌, ℕ, ◌+◌, ◌-◌, ◌%◌, ◌^◌, ◌<◌, ◌≤◌, cond, ltb, List, length, set, sym, ap, ◌∙◌, ⊎_elim, arith}
use Rattle.laws.proofs.Products.{lt_or_ge}
use Rattle.sheet.specs.Sheet.{bytes, place, paint, cells_on}
use Rattle.sheet.specs.Inner.{Sheet, Disjoint}
use Rattle.sheet.specs.declared.Shape.{Shape}
use Rattle.sheet.proofs.Cells.{place_below}
use Rattle.sheet.proofs.Count.{cells_as}
use Rattle.sheet.proofs.Paint.{paint_length}
use Rattle.line.specs.Inner.Course.{spot_at, Runs, first_cells}
use Rattle.line.specs.Inner.Fixed.{Climbs}
use Rattle.line.specs.Inner.Span.{On, Spans, byte_of, alone_by, both_by}
use Rattle.line.specs.declared.Path.{Path}
use Rattle.line.proofs.Fixed.{climbs_on, rise_next}
use Rattle.line.proofs.Hops.{byte_hop}
use Rattle.line.proofs.Marked.{same_cells, paint_more, paint_before, paint_after, cells_range}

pub record Walking (k : Shape) (ink : ℕ) (c : Path) (first past f : ℕ) (sheet₀ sheet : List ℕ) (part at n : ℕ) : Type 0 where
  pub from : first ≤ n
  pub low : n ≤ past
  pub climbs : Climbs c.long c.short n part f
  pub at_is : n < past → at ≡ byte_of k (spot_at c n)
  pub inked : sheet ≡ paint k ink (first_cells c n) sheet₀
  pub kept : length sheet ≡ bytes k

-- a spot on the sheet is one of its bytes
on_below : (k : Shape) → Disjoint k → (c : Path) (n : ℕ) → On k (spot_at c n) → byte_of k (spot_at c n) < bytes k
unfolding place
on_below k w c n o =
    place_below k ((spot_at c n).x - 65536) ((spot_at c n).y - 65536) (omega (arith, o.left, o.right)) (omega (arith, o.top, o.bottom))

module _ (k : Shape) (ink : ℕ) (c : Path) (first past f : ℕ) (range : Spans k c first past) (more : first < past) where
  pub begins : (sheet : List ℕ) (part at : ℕ) → Sheet k sheet → Climbs c.long c.short first part f → at ≡ byte_of k (spot_at c first)
      → Walking k ink c first past f sheet sheet part at first
  begins sheet part at z e h =
      record {
        from = omega arith;
        low = omega arith;
        climbs = e;
        at_is = λ p. h;
        inked = paint_before k c ink sheet first (λ i u. range.before i (omega (arith, range.low)) u);
        kept = z.area;
      }

  pub ends : (sheet₀ sheet : List ℕ) (part at n : ℕ) → Walking k ink c first past f sheet₀ sheet part at n → past ≤ n
      → sheet ≡ paint k ink (first_cells c (c.long + 1)) sheet₀
  ends sheet₀ sheet part at n g p =
      let e : n ≡ past = omega (arith, g.low) in
      g.inked
      ∙ ap (λ (j : ℕ). paint k ink (first_cells c j) sheet₀) e
      ∙ paint_after k c ink sheet₀ past (c.long + 1) range.low (λ i u v. range.after i (omega arith) u)

  module _ (sheet₀ sheet : List ℕ) (part at n : ℕ) (g : Walking k ink c first past f sheet₀ sheet part at n) (lt : n < past) where
    pub at_below : Disjoint k → at < length sheet
    at_below w = omega (arith, g.at_is lt, g.kept, on_below k w c n (range.on n g.from lt))

    pub turn : (disjoint : Disjoint k) (far : k.pitch ≤ 8192) (high : k.height ≤ 4096) (by next at' : ℕ)
        → next ≡ (part + f) % 4294967296
        → by ≡ cond (ltb next part) (both_by c.right k.pitch) (alone_by c.right c.steep k.pitch)
        → at' ≡ (at + by) % 2 ^ 64
        → Walking k ink c first past f sheet₀ (set sheet at ink) next at' (n + 1)
    turn disjoint far high by next at' hn hb ha =
        let o = range.on n g.from lt in
        let m : set sheet at ink ≡ paint k ink (first_cells c (n + 1)) sheet₀ =
        (λ i. set (g.inked i) (g.at_is lt i) ink) ∙ paint_more k c disjoint ink sheet₀ n o in
        let z : first ≤ n = g.from in
        record {
          from = omega arith;
          low = omega arith;
          climbs = climbs_on c.long c.short n part f next g.climbs hn;
          at_is = λ p.
              let e = rise_next c.long c.short n part f next g.climbs (omega (arith, range.low)) hn in
              ha ∙ (λ i. (g.at_is lt i + hb i) % 2 ^ 64) ∙ byte_hop k c (ltb next part) n disjoint far high e o (range.on (n + 1) (omega arith) p);
          inked = m;
          kept = ap length m ∙ paint_length k ink (first_cells c (n + 1)) sheet₀ ∙ sym (ap length g.inked ∙ paint_length k ink (first_cells c n) sheet₀) ∙ g.kept;
        }

-- how many cells are on the sheet, and what is drawn where there is none
module _ (k : Shape) (disjoint : Disjoint k) (c : Path) (r : Runs c) (first past : ℕ) (range : Spans k c first past) where
  pub counted : first < past → past - first ≡ cells_on k (first_cells c (c.long + 1))
  counted p =
      let e : first + (past - first) ≡ past = omega arith in
      let l = range.low in
      sym (cells_range k disjoint c r first (past - first) (omega arith) (λ i u. range.before i (omega arith) u) (λ i u v. range.on i u (omega arith)))
      ∙ ap (λ (n : ℕ). cells_on k (first_cells c n)) e
      ∙ cells_as k _ _ (same_cells k c past (c.long + 1) l (λ i u v. range.after i (omega arith) u))

  all_off : past ≤ first → (i : ℕ) → i < c.long + 1 → On k (spot_at c i) → ⊥
  all_off p i u = ⊎_elim (λ (q : i < first). range.before i (omega arith) q) (λ (q : first ≤ i). range.after i (omega arith) (omega arith)) (lt_or_ge i first)

  pub nothing : past ≤ first → (ink : ℕ) (sheet : List ℕ) → (0 ≡ cells_on k (first_cells c (c.long + 1))) × (sheet ≡ paint k ink (first_cells c (c.long + 1)) sheet)
  nothing p ink sheet =
      let e : c.long + 1 + 0 ≡ c.long + 1 = omega arith in
      let n = cells_range k disjoint c r (c.long + 1) 0 (omega arith) (all_off p) (λ i u v. absurd (omega arith)) in
      (sym n ∙ ap (λ (n : ℕ). cells_on k (first_cells c n)) e, paint_before k c ink sheet (c.long + 1) (all_off p))
