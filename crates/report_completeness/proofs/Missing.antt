-- Where some value is matched by no row there is a missing pattern.
-- The idea: at a position that is tested some value that is left has a constructor or a number from 0 on there, and of
-- these there is a least; then the same is required of its fields, where fewer tests are left.
use Rattle.std.proofs.Common.{◌≡◌, ℕ, zero, suc, ◌+◌, ◌<◌, ◌≤◌, ◌^◌, Bool, true, false, List, [], ◌∷◌, length, refl, ap, ◌∙◌, arith}
use Rattle.std.specs.Prelude.{pos, negsuc, if◌then◌else◌}
use Rattle.source_report.specs.fip_language.Values.{Value, Int, Node}
use Rattle.source_report.specs.fip_language.Table.{Table, HasType}
use Rattle.source_report.specs.match_cover.MissingPattern.{is_tested, keep_if, fields_at, heads, tails, open_fields, CanStand, Before, MayBe, IsMissing, AreMissing, IsMissingOf}
use Rattle.source_report.specs.match_cover.MissingSearch.{IsPosition, AreFields}
use Rattle.source_report.specs.match_knowledge.Known.{Known, Open, Is, Knowns, MoreKnowns, is_in, agree_all}
use Rattle.source_report.specs.match_knowledge.Patterns.{Pattern, Any, Test, Patterns, NoPatterns, MorePatterns, nodes_all, row_nodes}
use Rattle.source_report.specs.match_knowledge.Unmatched.{Left, Missed, known_of}
use Rattle.source_report.specs.match_knowledge.ValueHeads.{IsTidy, IsHead, AllHaveValues, same_head}
use Rattle.source_report.specs.match_knowledge.declared.heads.Head.{Head}
use Rattle.source_report.specs.match_knowledge.declared.heads.Head.TheVariants.{Number, Tag}
use Rattle.source_report.proofs.separation_bounds.Solving.{IsLeast, least_one}
use Rattle.match_knowledge.proofs.Facts.{same_refl, both_and}
use Rattle.match_knowledge.proofs.Fresh.{fresh}
use Rattle.match_knowledge.proofs.Living.{head_values}
use Rattle.match_knowledge.proofs.Matches.{known_alive}
use Rattle.match_cover.proofs.MissingValue.{is_left, is_pattern}
use Rattle.match_cover.proofs.Positions.{root_position, node_fields, first_field, other_fields, is_named, unnamed_weaker, agree_open}
use Rattle.report_completeness.proofs.LeastOrNone.{Can}

-- ---- what the rows name at a position

abbrev named : List Pattern → List Head
named [] = []
named (Any ∷ ps) = named ps
named (Test u g qs ∷ ps) = g ∷ named ps

named_is : (h : Head) (here : List Pattern) → is_named h here ≡ is_in h (named here)
named_is h [] = refl
named_is h (Any ∷ ps) = named_is h ps
named_is h (Test u g qs ∷ ps) = ap (λ z. if same_head g h then true else z) (named_is h ps)

few_named : (here : List Pattern) → length (named here) ≤ row_nodes here
few_named [] = omega arith
few_named (Any ∷ ps) = let r = few_named ps in omega (arith, r)
few_named (Test u g qs ∷ ps) = let r = few_named ps in omega (arith, r)

-- ---- how many tests are left

abbrev fields_nodes : List Patterns → ℕ
fields_nodes [] = 0
fields_nodes (ps ∷ rows) = nodes_all ps + fields_nodes rows

kept_most : (b : Bool) (qs : Patterns) (rows : List Patterns) → fields_nodes (keep_if b qs rows) ≤ nodes_all qs + fields_nodes rows
kept_most true qs rows = omega arith
kept_most false qs rows = omega arith

fields_most : (h : Head) (here : List Pattern) → fields_nodes (fields_at h here) ≤ row_nodes here
fields_most h [] = omega arith
fields_most h (Any ∷ ps) = let r = fields_most h ps in omega (arith, r)
fields_most h (Test t g qs ∷ ps) =
    let r = fields_most h ps in
    let k = kept_most (same_head g h) qs (fields_at h ps) in
    omega (arith, r, k)

fields_less : (h : Head) (here : List Pattern) → is_tested here ≡ true → fields_nodes (fields_at h here) < row_nodes here
fields_less h [] e = absurd (cc)
fields_less h (Any ∷ ps) e = let r = fields_less h ps e in omega (arith, r)
fields_less h (Test t g qs ∷ ps) e =
    let r = fields_most h ps in
    let k = kept_most (same_head g h) qs (fields_at h ps) in
    omega (arith, r, k)

heads_most : (rows : List Patterns) → row_nodes (heads rows) ≤ fields_nodes rows
heads_most [] = omega arith
heads_most (NoPatterns ∷ rows) = let r = heads_most rows in omega (arith, r)
heads_most (MorePatterns p ps ∷ rows) = let r = heads_most rows in omega (arith, r)

tails_most : (rows : List Patterns) → fields_nodes (tails rows) ≤ fields_nodes rows
tails_most [] = omega arith
tails_most (NoPatterns ∷ rows) = let r = tails_most rows in omega (arith, r)
tails_most (MorePatterns p ps ∷ rows) = let r = tails_most rows in omega (arith, r)

module _ (tb : Table) (root : ℕ) (rows : List Pattern) (tidy : IsTidy tb) where
  -- ---- the least head that may occur

  -- it may occur, and none before it may
  record IsLeastHead (at : Known → Known) (t : ℕ) (h : Head) : Type 0 where
    can : CanStand h
    least : (g : Head) → Before g h → MayBe tb root rows at t g → ⊥
    may : MayBe tb root rows at t h

  number_least : (at : Known → Known) (n : ℕ) → IsLeast (λ m. MayBe tb root rows at zero (Number (pos m))) n → (g : Head) → Before g (Number (pos n)) → MayBe tb root rows at zero g → ⊥
  number_least at n l (Number (pos k)) b y = let le = l.least k y in omega (arith, le, b)
  number_least at n l (Number (negsuc k)) b y = b
  number_least at n l (Tag c) b y = b

  tag_least : (at : Known → Known) (t n : ℕ) → IsLeast (λ c. MayBe tb root rows at (suc t) (Tag c)) n → (g : Head) → Before g (Tag n) → MayBe tb root rows at (suc t) g → ⊥
  tag_least at t n l (Number (pos k)) b y = b
  tag_least at t n l (Number (negsuc k)) b y = b
  tag_least at t n l (Tag k) b y = let le = l.least k y in omega (arith, le, b)

  some_number : (at : Known → Known) (here : List Pattern) → row_nodes here < 2 ^ 63 → IsPosition tb root rows at zero here → Left tb root rows (at (Open [])) → (n : ℕ) × MayBe tb root rows at zero (Number (pos n))
  some_number at here few p u =
      let w = p.value (Open []) u in
      let n = fresh (row_nodes here) (named here) (few_named here) in
      let fits : IsHead tb zero (Number (pos n.0)) [] = (let a = n.1 in omega (arith, a, few), refl) in
      (n.0, ([], fits, p.weaker w.0 (Int (pos n.0)) w.1 fits.0 (unnamed_weaker here w.0 (Int (pos n.0)) (named_is (Number (pos n.0)) here ∙ n.2)) w.3))

  some_tag : (at : Known → Known) (t : ℕ) (here : List Pattern) → IsPosition tb root rows at (suc t) here → Left tb root rows (at (Open [])) → (c : ℕ) × MayBe tb root rows at (suc t) (Tag c)
  some_tag at t here p u = let w = p.value (Open []) u in by w.0 w.1 w.3
    where
      by : (v : Value) → HasType tb (suc t) v → Left tb root rows (at (Rattle.source_report.specs.match_cover.MissingSearch.full v)) → (c : ℕ) × MayBe tb root rows at (suc t) (Tag c)
      by (Int i) h k = absurd h
      by (Node d vs) h k =
          let s = h.0 in
          (d, (s.fields, (s, h.1, refl), p.among (Is (Tag d) (open_fields s.fields)) (Node d vs) h (both_and (same_head (Tag d) (Tag d)) (agree_all (open_fields s.fields) vs) (same_refl (Tag d)) (agree_open s.fields vs)) k))

  least_head : (at : Known → Known) (t : ℕ) (here : List Pattern) → row_nodes here < 2 ^ 63 → IsPosition tb root rows at t here → Left tb root rows (at (Open [])) → Can ((h : Head) × IsLeastHead at t h)
  least_head at zero here few p u none =
      let some = some_number at here few p u in
      least_one (λ m. MayBe tb root rows at zero (Number (pos m))) some.0 some.1 (λ l.
      none (Number (pos l.0), record { can = tt; least = number_least at l.0 l.1; may = l.1.has }))
  least_head at (suc t) here few p u none =
      let some = some_tag at t here p u in
      least_one (λ c. MayBe tb root rows at (suc t) (Tag c)) some.0 some.1 (λ l.
      none (Tag l.0, record { can = tt; least = tag_least at t l.0 l.1; may = l.1.has }))

  -- ---- the pattern at a position, and those of fields

  -- at positions with fewer tests than n there is one
  abbrev IsFoundBelow : ℕ → Type 0
  IsFoundBelow n = (at : Known → Known) (t : ℕ) (here : List Pattern) → row_nodes here < n → IsPosition tb root rows at t here → Left tb root rows (at (Open [])) → Can ((q : Pattern) × IsMissing tb root rows at t here q)

  fields_found : (n : ℕ) → IsFoundBelow n → (at : Knowns → Known) (fs : List ℕ) (here : List Patterns) → fields_nodes here < n → AreFields tb root rows at fs here → AllHaveValues tb fs → Left tb root rows (at (open_fields fs)) → Can ((ms : Patterns) × AreMissing tb root rows at fs here ms)
  fields_found n below at [] here less p v u none = none (NoPatterns, tt)
  fields_found n below at (f ∷ fs) here less p v u none =
      let first : Known → Known = λ k. at (MoreKnowns k (open_fields fs)) in
      let in_heads = heads_most here in
      let in_tails = tails_most here in
      below first f (heads here) (omega (arith, less, in_heads)) (first_field tb root rows at f fs here v.1 p) u (λ q.
      fields_found n below (λ ks. at (MoreKnowns (known_of q.0) ks)) fs (tails here) (omega (arith, less, in_tails))
      (other_fields tb root rows at f fs here (known_of q.0) (known_alive tb 0 f q.0 tidy v.0 (is_pattern tb root rows first f (heads here) q.0 q.1)) p) v.1
      (is_left tb root rows first f (heads here) q.0 q.1 u) (λ ms.
      none (MorePatterns q.0 ms.0, (q.1, ms.1))))

  found_at : (n : ℕ) → suc n ≤ 2 ^ 63 → IsFoundBelow n → IsFoundBelow (suc n)
  found_at n bound below at t here less p u none = by (is_tested here) refl
    where
      fewer : is_tested here ≡ true → (h : Head) → fields_nodes (fields_at h here) < n
      fewer e h = let k = fields_less h here e in omega (arith, k, less)

      by : (b : Bool) → is_tested here ≡ b → ⊥
      by false e = none (Any, e)
      by true e =
          least_head at t here (omega (arith, less, bound)) p u (λ l.
          fields_found n below (λ ks. at (Is l.0 ks)) l.1.may.0 (fields_at l.0 here) (fewer e l.0)
          (node_fields tb root rows at t here l.0 l.1.may.0 l.1.may.1 p) (head_values tb t l.0 l.1.may.0 tidy l.1.may.1) l.1.may.2 (λ ms.
          none (Test t l.0 ms.0, (e, refl, l.1.can, l.1.least, l.1.may.0, l.1.may.1, l.1.may.2, ms.1))))

  found_below : (n : ℕ) → n ≤ 2 ^ 63 → IsFoundBelow n
  found_below zero bound at t here less p u none = omega (arith, less)
  found_below (suc n) bound at t here less p u none = found_at n bound (found_below n (omega (arith, bound))) at t here less p u none

pub missing_found : (tb : Table) (t : ℕ) (rows : List Pattern) → IsTidy tb → row_nodes rows < 2 ^ 63 → Missed tb t rows → Can ((q : Pattern) × IsMissingOf tb t rows q)
missing_found tb t rows tidy few h = found_below tb t rows tidy (2 ^ 63) (omega arith) (λ k. k) t rows few (root_position tb t rows) (h.0, h.1, refl, h.2)
