-- Binders that are numbered in order are distinct: what is in the scope of some has higher numbers.
use Rattle.std.proofs.Common.{◌≡◌, ◌≤◌, ◌<◌, ◌+◌, ◌⊎◌, inl, inr, ℕ, List, [], ◌∷◌, ◌++◌, length, refl, sym, arith}
use Rattle.cell_lower.specs.fip_language.Every.{Among}
use Rattle.cell_lower.proofs.fip_language.Search.{every_from}
use Rattle.cell_lower.specs.fip_trees.declared.program.Binder.{Binder}
use Rattle.cell_lower.specs.fip_trees.Tree.{Pattern, BinderPattern, LiteralPattern, ConstructorPattern, Patterns, NoPatterns, MorePatterns, Expression, Give, Tuple, Operation, Call, Match, Nested, Block, Last, Let, Clauses, NoClauses, MoreClauses, Instance, Program}
use Rattle.static_params.proofs.GoodTypes.{among_either}
use Rattle.lowering_simulation.specs.Distinct.{numbers, in_pattern, in_patterns, in_expression, in_block, in_clauses, Apart, Differ, DistinctExpression, DistinctBlock, DistinctClauses, IsDistinct, AreDistinct}
use Rattle.source_report.specs.Report.{IsTyped}
use Rattle.source_report.specs.Order.{From, SpansPattern, SpansPatterns, Spans, SpansBlock, SpansClauses, IsOrdered}
use Rattle.source_report.proofs.TypedOrder.{typed_in_order}

-- ---- numbers from n on, below m

abbrev Between : ℕ → ℕ → List ℕ → Type 0
Between n m xs = (x : ℕ) → Among x xs → (n ≤ x) × (x < m)

abbrev IsRange : ℕ → ℕ → List ℕ → Type 0
IsRange n m xs = (n ≤ m) × Between n m xs

no_range : (n m : ℕ) → n ≡ m → IsRange n m []
no_range n m e = (omega (arith, e), λ x a. absurd a)

either_between : (n m : ℕ) (xs ys : List ℕ) → Between n m xs → Between n m ys → Between n m (xs ++ ys)
either_between n m xs ys f g x a = by (among_either x xs ys a)
  where
    by : Among x xs ⊎ Among x ys → (n ≤ x) × (x < m)
    by (inl b) = f x b
    by (inr b) = g x b

wider : (n m j k : ℕ) (xs : List ℕ) → j ≤ n → m ≤ k → Between n m xs → Between j k xs
wider n m j k xs low high f x a =
    let r = f x a in
    let r0 = r.0 in
    let r1 = r.1 in
    (omega (arith, low, r0), omega (arith, high, r1))

both_range : (n k m : ℕ) (xs ys : List ℕ) → IsRange n k xs → IsRange k m ys → IsRange n m (xs ++ ys)
both_range n k m xs ys f g =
    let f0 = f.0 in
    let g0 = g.0 in
    (omega (arith, f0, g0), either_between n m xs ys (wider n k n m xs (omega arith) g0 f.1) (wider k m n m ys f0 (omega arith) g.1))

apart : (n k m : ℕ) (xs ys : List ℕ) → Between n k xs → Between k m ys → Apart xs ys
apart n k m xs ys f g x a b =
    let below = (f x a).1 in
    let above = (g x b).0 in
    absurd (omega (arith, below, above))

differ_both : (xs ys : List ℕ) → Differ xs → Differ ys → Apart xs ys → Differ (xs ++ ys)
differ_both [] ys f g h = g
differ_both (x ∷ xs) ys f g h = ((λ a. by (among_either x xs ys a)), differ_both xs ys f.1 g (λ y a b. h y (inr a) b))
  where
    by : Among x xs ⊎ Among x ys → ⊥
    by (inl a) = f.0 a
    by (inr b) = h x (inl refl) b

-- ---- binders

one_more : (n m x : ℕ) (xs : List ℕ) → x ≡ n → IsRange (n + 1) m xs → IsRange n m (x ∷ xs)
one_more n m x xs e h = (omega (arith, low), by)
  where
    low : n + 1 ≤ m
    low = h.0

    by : (y : ℕ) → Among y (x ∷ xs) → (n ≤ y) × (y < m)
    by y (inl f) = (omega (arith, e, f), omega (arith, e, f, low))
    by y (inr a) =
        let r = h.1 y a in
        let above = r.0 in
        (omega (arith, above), r.1)

from_range : (n m : ℕ) (bs : List Binder) → From n m bs → IsRange n m (numbers bs)
from_range n m [] h = no_range n m h
from_range n m (b ∷ bs) h = one_more n m b.number (numbers bs) h.0 (from_range (n + 1) m bs h.1)

from_differ : (n m : ℕ) (bs : List Binder) → From n m bs → Differ (numbers bs)
from_differ n m [] h = tt
from_differ n m (b ∷ bs) h = (
  (λ a.
      let above = ((from_range (n + 1) m bs h.1).1 b.number a).0 in
      let e = h.0 in
      absurd (omega (arith, above, e))),
  from_differ (n + 1) m bs h.1,
)

mutual
  pattern_range : (n m : ℕ) (p : Pattern) → SpansPattern n m p → IsRange n m (in_pattern p)
  pattern_range n m (BinderPattern b) h = from_range n m (b ∷ []) h
  pattern_range n m (LiteralPattern i p) h = no_range n m h
  pattern_range n m (ConstructorPattern t d c x p ps) h = patterns_range n m ps h

  patterns_range : (n m : ℕ) (ps : Patterns) → SpansPatterns n m ps → IsRange n m (in_patterns ps)
  patterns_range n m NoPatterns h = no_range n m h
  patterns_range n m (MorePatterns p ps) h = both_range n h.0 m (in_pattern p) (in_patterns ps) (pattern_range n h.0 p h.1) (patterns_range h.0 m ps h.2)

mutual
  pattern_differ : (n m : ℕ) (p : Pattern) → SpansPattern n m p → Differ (in_pattern p)
  pattern_differ n m (BinderPattern b) h = ((λ a. a), tt)
  pattern_differ n m (LiteralPattern i p) h = tt
  pattern_differ n m (ConstructorPattern t d c x p ps) h = patterns_differ n m ps h

  patterns_differ : (n m : ℕ) (ps : Patterns) → SpansPatterns n m ps → Differ (in_patterns ps)
  patterns_differ n m NoPatterns h = tt
  patterns_differ n m (MorePatterns p ps) h =
      differ_both (in_pattern p) (in_patterns ps) (pattern_differ n h.0 p h.1) (patterns_differ h.0 m ps h.2)
      (apart n h.0 m (in_pattern p) (in_patterns ps) (pattern_range n h.0 p h.1).1 (patterns_range h.0 m ps h.2).1)

-- ---- bodies

mutual
  expression_range : (n m : ℕ) (e : Expression) → Spans n m e → IsRange n m (in_expression e)
  expression_range n m (Give a) h = no_range n m h
  expression_range n m (Tuple p as') h = no_range n m h
  expression_range n m (Operation o p a b) h = no_range n m h
  expression_range n m (Call g x p as') h = no_range n m h
  expression_range n m (Match d t p a q b cs) h =
      both_range n h.0 m (in_pattern q) (in_block b ++ in_clauses cs) (pattern_range n h.0 q h.2)
      (both_range h.0 h.1 m (in_block b) (in_clauses cs) (block_range h.0 h.1 b h.3) (clauses_range h.1 m cs h.4))
  expression_range n m (Nested b) h = block_range n m b h

  block_range : (n m : ℕ) (b : Block) → SpansBlock n m b → IsRange n m (in_block b)
  block_range n m (Last e) h = expression_range n m e h
  block_range n m (Let bs e rest) h =
      let first = expression_range n h.0 e h.3 in
      let own = from_range h.0 h.1 bs h.4 in
      let further = block_range h.1 m rest h.5 in
      let a = first.0 in
      let b = own.0 in
      let c = further.0 in (
        omega (arith, a, b, c),
        either_between n m (numbers bs) (in_expression e ++ in_block rest) (wider h.0 h.1 n m (numbers bs) a c own.1)
            (either_between n m (in_expression e) (in_block rest) (wider n h.0 n m (in_expression e) (omega arith) (omega (arith, b, c)) first.1)
            (wider h.1 m n m (in_block rest) (omega (arith, a, b)) (omega arith) further.1)),
      )

  clauses_range : (n m : ℕ) (cs : Clauses) → SpansClauses n m cs → IsRange n m (in_clauses cs)
  clauses_range n m NoClauses h = no_range n m h
  clauses_range n m (MoreClauses q b cs) h =
      both_range n h.0 m (in_pattern q) (in_block b ++ in_clauses cs) (pattern_range n h.0 q h.2)
      (both_range h.0 h.1 m (in_block b) (in_clauses cs) (block_range h.0 h.1 b h.3) (clauses_range h.1 m cs h.4))

mutual
  expression_distinct : (n m : ℕ) (e : Expression) → Spans n m e → DistinctExpression e
  expression_distinct n m (Give a) h = tt
  expression_distinct n m (Tuple p as') h = tt
  expression_distinct n m (Operation o p a b) h = tt
  expression_distinct n m (Call g x p as') h = tt
  expression_distinct n m (Match d t p a q b cs) h = (
    pattern_differ n h.0 q h.2,
    apart n h.0 h.1 (in_pattern q) (in_block b) (pattern_range n h.0 q h.2).1 (block_range h.0 h.1 b h.3).1,
    block_distinct h.0 h.1 b h.3,
    clauses_distinct h.1 m cs h.4,
  )
  expression_distinct n m (Nested b) h = block_distinct n m b h

  block_distinct : (n m : ℕ) (b : Block) → SpansBlock n m b → DistinctBlock b
  block_distinct n m (Last e) h = expression_distinct n m e h
  block_distinct n m (Let bs e rest) h = (
    from_differ h.0 h.1 bs h.4,
    apart h.0 h.1 m (numbers bs) (in_block rest) (from_range h.0 h.1 bs h.4).1 (block_range h.1 m rest h.5).1,
    expression_distinct n h.0 e h.3,
    block_distinct h.1 m rest h.5,
  )

  clauses_distinct : (n m : ℕ) (cs : Clauses) → SpansClauses n m cs → DistinctClauses cs
  clauses_distinct n m NoClauses h = tt
  clauses_distinct n m (MoreClauses q b cs) h = (
    pattern_differ n h.0 q h.2,
    apart n h.0 h.1 (in_pattern q) (in_block b) (pattern_range n h.0 q h.2).1 (block_range h.0 h.1 b h.3).1,
    block_distinct h.0 h.1 b h.3,
    clauses_distinct h.1 m cs h.4,
  )

instance_distinct : (d : Instance) → IsOrdered d → IsDistinct d
instance_distinct d h =
    record {
      as_many = sym h.as_many;
      params = from_differ 0 (length d.params) d.binders h.parameters;
      others = apart 0 (length d.params) h.next (numbers d.binders) (in_block d.body) (from_range 0 (length d.params) d.binders h.parameters).1 (block_range (length d.params) h.next d.body h.body).1;
      body = block_distinct (length d.params) h.next d.body h.body;
    }

pub typed_distinct : (source : List ℕ) (p : Program) → IsTyped source p → AreDistinct p
typed_distinct source p h = every_from IsDistinct p.instances (λ d a. instance_distinct d (typed_in_order source p h d a))
