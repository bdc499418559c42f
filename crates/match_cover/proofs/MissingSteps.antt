-- Steps of the walk to the missing pattern.
use Rattle.std.proofs.Common.{Vec, Global, ◌≡◌, ℕ, zero, suc, ◌+◌, ◌-◌, ◌<◌, ◌≤◌, List, [], ◌∷◌, ◌++◌, map, take, drop, length, get_or, Option, Some, None, Bool, true, false, refl, sym, ap, ◌∙◌, subst, arith}
use Rattle.std.specs.Prelude.{if◌then◌else◌, option_map, IfSome, MatchOption}
use Rattle.std.specs.List.{HoldsAt}
use Rattle.std.specs.Borrow.{Bor}
use Rattle.match_knowledge.specs.declared.heads.Head.{Head}
use Rattle.match_knowledge.specs.declared.rows.Row.{Row}
use Rattle.match_knowledge.specs.declared.rows.Row.TheVariants as R
use Rattle.match_knowledge.specs.declared.rows.Row.TheOpen as O
use Rattle.match_knowledge.specs.declared.rows.Row.TheFolds.{fold-roll-Row}
use Rattle.match_knowledge.specs.declared.knowledge.Knowledge.{Knowledge}
use Rattle.match_knowledge.specs.ValueHeads.{same_head}
use Rattle.match_knowledge.specs.Patterns.{Pattern, Any, Test, Patterns, NoPatterns, MorePatterns, nodes, nodes_all, row_nodes}
use Rattle.match_knowledge.specs.Known.{Known, Open, Knowns, NoKnowns, MoreKnowns}
use Rattle.match_knowledge.specs.View.{row, row_step, parts, known, knowns, before_knowns}
use Rattle.match_knowledge.proofs.Steps.{before_pushed, before_all}
use Rattle.match_cover.specs.declared.missing.Frame.{Frame}
use Rattle.match_cover.specs.Missing.{is_test, is_tested, part_at, part_below, put_part, rows_below, open_fields, inside, placed}
use Rattle.match_cover.specs.MissingView.{lent_rows, level, levels}

pub lent_next : (here : List (Bor Row)) (i : ℕ) (r : Bor Row) → i < length here → r ≡ get_or here i r → lent_rows (drop i here) ≡ row r.now ∷ lent_rows (drop (i + 1) here)
lent_next here i r h e = at here i h ∙ ap (λ z. row z.now ∷ lent_rows (drop (i + 1) here)) (sym e) where
  at : (xs : List (Bor Row)) (i : ℕ) → i < length xs → lent_rows (drop i xs) ≡ row (get_or xs i r).now ∷ lent_rows (drop (i + 1) xs)
  at [] i h = absurd (omega arith)
  at (x ∷ xs) zero h = refl
  at (x ∷ xs) (suc i) h = at xs i (omega arith) ∙ ap (λ z. row (get_or xs i r).now ∷ lent_rows z) (let e : suc i + 1 ≡ suc (i + 1) = omega arith in sym (ap (λ z. drop z (x ∷ xs)) e))

-- whether a position is tested
test_first : (p : Pattern) (ps : List Pattern) → is_test p ≡ true → true ≡ is_tested (p ∷ ps)
test_first Any ps e = cc
test_first (Test t h qs) ps e = refl

test_later : (p : Pattern) (ps : List Pattern) → is_test p ≡ false → is_tested ps ≡ is_tested (p ∷ ps)
test_later Any ps e = refl
test_later (Test t h qs) ps e = cc

pub tested_here : (here : List (Bor Row)) (i : ℕ) (r : Bor Row) (b : Bool) → i < length here → r ≡ get_or here i r → b ≡ is_test (row r.now) → b ≡ true → is_tested (lent_rows (drop i here)) ≡ is_tested (lent_rows here) → true ≡ is_tested (lent_rows here)
tested_here here i r b h e t y v = test_first (row r.now) (lent_rows (drop (i + 1) here)) (sym t ∙ y) ∙ ap is_tested (sym (lent_next here i r h e)) ∙ v

pub tested_next : (here : List (Bor Row)) (i : ℕ) (r : Bor Row) (b : Bool) → i < length here → r ≡ get_or here i r → b ≡ is_test (row r.now) → b ≡ false → is_tested (lent_rows (drop i here)) ≡ is_tested (lent_rows here) → is_tested (lent_rows (drop (i + 1) here)) ≡ is_tested (lent_rows here)
tested_next here i r b h e t y v = test_later (row r.now) (lent_rows (drop (i + 1) here)) (sym t ∙ y) ∙ ap is_tested (sym (lent_next here i r h e)) ∙ v

-- open fields
open_next : (ts : List ℕ) (i : ℕ) → i < length ts → open_fields (drop i ts) ≡ MoreKnowns (Open []) (open_fields (drop (i + 1) ts))
open_next [] i h = absurd (omega arith)
open_next (t ∷ ts) zero h = refl
open_next (t ∷ ts) (suc i) h = open_next ts i (omega arith) ∙ ap (λ z. MoreKnowns (Open []) (open_fields z)) (let e : suc i + 1 ≡ suc (i + 1) = omega arith in sym (ap (λ z. drop z (t ∷ ts)) e))

pub open_arm : (xs ys : List Knowledge) (x : Knowledge) (ts : List ℕ) (i : ℕ) (z : Knowns) → ys ≡ xs ++ x ∷ [] → known x ≡ Open [] → i < length ts → before_knowns (map known xs) (open_fields (drop i ts)) ≡ z → before_knowns (map known ys) (open_fields (drop (i + 1) ts)) ≡ z
open_arm xs ys x ts i z e k h v =
    let rest = open_fields (drop (i + 1) ts) in
    ap (λ w. before_knowns (map known w) rest) e ∙ before_pushed xs x rest ∙ ap (λ w. before_knowns (map known xs) (MoreKnowns w rest)) k ∙ ap (before_knowns (map known xs)) (sym (open_next ts i h)) ∙ v

open_end : (ts : List ℕ) (i : ℕ) → length ts ≤ i → open_fields (drop i ts) ≡ NoKnowns
open_end [] zero h = refl
open_end [] (suc i) h = refl
open_end (t ∷ ts) zero h = absurd (omega arith)
open_end (t ∷ ts) (suc i) h = open_end ts i (omega arith)

pub open_done : (xs : List Knowledge) (ts : List ℕ) (i : ℕ) (z : Knowns) → length ts ≤ i → before_knowns (map known xs) (open_fields (drop i ts)) ≡ z → knowns xs ≡ z
open_done xs ts i z h v = sym (before_all xs) ∙ sym (ap (before_knowns (map known xs)) (open_end ts i h)) ∙ v

-- what a clause has at a field
part_within : (ps : List Row) (j : ℕ) (d : Row) → j < length ps → Some (row (get_or ps j d)) ≡ part_at j (parts ps)
part_within [] j d h = absurd (omega arith)
part_within (p ∷ ps) zero d h = refl
part_within (p ∷ ps) (suc j) d h = part_within ps j d (omega arith)

part_past : (ps : List Row) (j : ℕ) → length ps ≤ j → None ≡ part_at j (parts ps)
part_past [] zero h = refl
part_past [] (suc j) h = refl
part_past (p ∷ ps) zero h = absurd (omega arith)
part_past (p ∷ ps) (suc j) h = part_past ps j (omega arith)

part_is : (ps : List Row) (j : ℕ) (o : Option (Bor Row)) → IfSome o (λ x. x.now ≡ get_or ps j x.now) → MatchOption o (length ps ≤ j) (λ x. (j < length ps) × HoldsAt (λ y. x.now ≡ y) ps j) → option_map (λ r. row r.now) o ≡ part_at j (parts ps)
part_is ps j None e m = part_past ps j m
part_is ps j (Some x) e m = ap (λ y. Some (row y)) e ∙ part_within ps j x.now m.0

pub row_test : (t : ℕ) (g : Head) (ps : Vec Row Global) → row (R.Test t g ps) ≡ Test t g (parts ps.items)
row_test t g ps = ap row (sym (R.rolls-Test t g ps)) ∙ fold-roll-Row Pattern row_step (O.Test t g ps)

pub part_arm : (h : Head) (j : ℕ) (p : Row) (t : ℕ) (g : Head) (ps qs : List Row) (o : Option (Bor Row)) → same_head g h ≡ true → row p ≡ Test t g (parts ps) → qs ≡ ps → IfSome o (λ x. x.now ≡ get_or qs j x.now) → MatchOption o (length qs ≤ j) (λ x. (j < length qs) × HoldsAt (λ y. x.now ≡ y) qs j) → option_map (λ r. row r.now) o ≡ part_below h j (row p)
part_arm h j p t g ps qs o s e d i m = part_is qs j o i m ∙ ap (λ z. part_at j (parts z)) d ∙ sym (ap (λ b. if b then part_at j (parts ps) else None) s) ∙ sym (ap (part_below h j) e)

-- what is below a tested position has fewer tests
abbrev part_nodes : Option Pattern → ℕ
part_nodes None = 0
part_nodes (Some p) = nodes p

at_nodes : (j : ℕ) (qs : Patterns) → part_nodes (part_at j qs) ≤ nodes_all qs
at_nodes zero NoPatterns = omega arith
at_nodes (suc j) NoPatterns = omega arith
at_nodes zero (MorePatterns q qs) = omega arith
at_nodes (suc j) (MorePatterns q qs) = let h = at_nodes j qs in omega arith

if_nodes : (b : Bool) (o : Option Pattern) (n : ℕ) → part_nodes o ≤ n → part_nodes (if b then o else None) ≤ n
if_nodes true o n h = h
if_nodes false o n h = omega arith

put_nodes : (o : Option Pattern) (ps : List Pattern) → row_nodes (put_part o ps) ≡ part_nodes o + row_nodes ps
put_nodes None ps = sym (zero_add (row_nodes ps)) where
  zero_add : (n : ℕ) → 0 + n ≡ n
  zero_add n = omega arith
put_nodes (Some p) ps = refl

below_most : (h : Head) (j : ℕ) (here : List Pattern) → row_nodes (rows_below h j here) ≤ row_nodes here
below_most h j [] = omega arith
below_most h j (Any ∷ here) = let r = below_most h j here in omega arith
below_most h j (Test t g qs ∷ here) =
    let r = below_most h j here in
    let m = if_nodes (same_head g h) (part_at j qs) (nodes_all qs) (at_nodes j qs) in
    let e = put_nodes (if same_head g h then part_at j qs else None) (rows_below h j here) in
    omega arith

pub below_less : (h : Head) (j : ℕ) (here : List Pattern) → is_tested here ≡ true → row_nodes (rows_below h j here) < row_nodes here
below_less h j [] e = cc
below_less h j (Any ∷ here) e = let r = below_less h j here e in omega arith
below_less h j (Test t g qs ∷ here) e =
    let r = below_most h j here in
    let m = if_nodes (same_head g h) (part_at j qs) (nodes_all qs) (at_nodes j qs) in
    let e = put_nodes (if same_head g h then part_at j qs else None) (rows_below h j here) in
    omega arith

pub fewer_below : (h : Head) (j : ℕ) (here below : List Pattern) → is_tested here ≡ true → below ≡ rows_below h j here → row_nodes below < row_nodes here
fewer_below h j here below t e = subst (λ z. row_nodes z < row_nodes here) (sym e) (below_less h j here t)

-- one node more, from the innermost outwards
last_placed : (fs : List Frame) (m : ℕ) (f : Frame) (k : Known) → m < length fs → f ≡ get_or fs m f → placed (levels (take (suc m) fs)) k ≡ placed (levels (take m fs)) (inside (level f) k)
last_placed [] m f k h e = absurd (omega arith)
last_placed (g ∷ fs) zero f k h e = ap (λ z. inside (level z) k) (sym e)
last_placed (g ∷ fs) (suc m) f k h e = ap (inside (level g)) (last_placed fs m f k (omega arith) e)

pub placed_arm : (fs : List Frame) (n : ℕ) (f : Frame) (k k' z : Known) → 0 < n → n ≤ length fs → f ≡ get_or fs (n - 1) f → k' ≡ inside (level f) k → placed (levels (take n fs)) k ≡ placed (levels fs) z → placed (levels (take (n - 1) fs)) k' ≡ placed (levels fs) z
placed_arm fs n f k k' z p h e i v =
    let s : suc (n - 1) ≡ n = omega arith in
    ap (placed (levels (take (n - 1) fs))) i ∙ sym (last_placed fs (n - 1) f k (omega arith) e) ∙ ap (λ m. placed (levels (take m fs)) k) s ∙ v
