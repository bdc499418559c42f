-- Where binders are numbered in order, and are few, they have the numbers that derivations require: how many binders
-- are in a part is the difference of the numbers around it.
use Rattle.std.proofs.Common.{◌≡◌, ◌≤◌, ◌+◌, ℕ, List, [], ◌∷◌, ◌++◌, length, sym, subst, arith}
use Rattle.source_report.specs.fip_trees.declared.program.Binder.{Binder}
use Rattle.source_report.specs.fip_trees.Tree.{Pattern, BinderPattern, LiteralPattern, ConstructorPattern, Patterns, NoPatterns, MorePatterns, Expression, Give, Tuple, Operation, Call, Match, Nested, Block, Last, Let, Clauses, NoClauses, MoreClauses, Program}
use Rattle.fip_proof.specs.fip_rules.Shapes.{binders, binders_all}
use Rattle.source_report.specs.WellFormed.{IsKnown, IsKnownBlock, AreKnownClauses}
use Rattle.fip_proof.specs.derivation_check.Scopes.{AreNumbered, within, within_block, within_clauses}
use Rattle.fip_proof.specs.derivation_making.Numbered.{Numbered, NumberedBlock, NumberedClauses}
use Rattle.source_report.specs.Order.{From, SpansPattern, SpansPatterns, Spans, SpansBlock, SpansClauses}

-- ---- binders

from_count : (n m : ℕ) (bs : List Binder) → From n m bs → m ≡ n + length bs
from_count n m [] h = omega (arith, h)
from_count n m (b ∷ bs) h = let r = from_count (n + 1) m bs h.1 in omega (arith, r)

from_both : (n k m : ℕ) (xs ys : List Binder) → From n k xs → From k m ys → From n m (xs ++ ys)
from_both n k m [] ys h g = subst (λ i. From i m ys) (sym h) g
from_both n k m (x ∷ xs) ys h g = (h.0, from_both (n + 1) k m xs ys h.1 g)

mutual
  pattern_from : (n m : ℕ) (p : Pattern) → SpansPattern n m p → From n m (binders p)
  pattern_from n m (BinderPattern b) h = h
  pattern_from n m (LiteralPattern i p) h = h
  pattern_from n m (ConstructorPattern t d c x p ps) h = patterns_from n m ps h

  patterns_from : (n m : ℕ) (ps : Patterns) → SpansPatterns n m ps → From n m (binders_all ps)
  patterns_from n m NoPatterns h = h
  patterns_from n m (MorePatterns p ps) h = from_both n h.0 m (binders p) (binders_all ps) (pattern_from n h.0 p h.1) (patterns_from h.0 m ps h.2)

pattern_count : (n m : ℕ) (p : Pattern) → SpansPattern n m p → m ≡ n + length (binders p)
pattern_count n m p h = from_count n m (binders p) (pattern_from n m p h)

-- ---- how many are in a part

mutual
  expression_count : (n m : ℕ) (e : Expression) → Spans n m e → m ≡ n + within e
  expression_count n m (Give a) h = omega (arith, h)
  expression_count n m (Tuple p as') h = omega (arith, h)
  expression_count n m (Operation o p l r) h = omega (arith, h)
  expression_count n m (Call g x p as') h = omega (arith, h)
  expression_count n m (Match d t p a q b cs) h =
      let x = pattern_count n h.0 q h.2 in
      let y = block_count h.0 h.1 b h.3 in
      let z = clauses_count h.1 m cs h.4 in
      omega (arith, x, y, z)
  expression_count n m (Nested b) h = block_count n m b h

  block_count : (n m : ℕ) (b : Block) → SpansBlock n m b → m ≡ n + within_block b
  block_count n m (Last e) h = expression_count n m e h
  block_count n m (Let bs e rest) h =
      let x = expression_count n h.0 e h.3 in
      let y = from_count h.0 h.1 bs h.4 in
      let z = block_count h.1 m rest h.5 in
      omega (arith, x, y, z)

  clauses_count : (n m : ℕ) (cs : Clauses) → SpansClauses n m cs → m ≡ n + within_clauses cs
  clauses_count n m NoClauses h = omega (arith, h)
  clauses_count n m (MoreClauses q b cs) h =
      let x = pattern_count n h.0 q h.2 in
      let y = block_count h.0 h.1 b h.3 in
      let z = clauses_count h.1 m cs h.4 in
      omega (arith, x, y, z)

-- ---- the numbers of the program and of the derivation

pub from_numbered : (c m d : ℕ) (bs : List Binder) → From c m bs → d + length bs ≤ 4294967296 → AreNumbered c d bs
from_numbered c m d [] h few = tt
from_numbered c m d (b ∷ bs) h few = (h.0, omega (arith, few), from_numbered (c + 1) m (d + 1) bs h.1 (omega (arith, few)))

module _ (p : Program) where
  mutual
    expression_numbered : (c m d : ℕ) (e : Expression) → Spans c m e → IsKnown p e → d + within e ≤ 4294967296 → Numbered p c d e
    expression_numbered c m d (Give a) h k few = tt
    expression_numbered c m d (Tuple q as') h k few = tt
    expression_numbered c m d (Operation o q l r) h k few = tt
    expression_numbered c m d (Call g x q as') h k few = k
    expression_numbered c m d (Match t u q a r body cs) h k few =
        let x : h.0 ≡ c + length (binders r) = pattern_count c h.0 r h.2 in
        let b = block_count h.0 h.1 body h.3 in
        let y : h.1 ≡ c + length (binders r) + within_block body = omega (arith, x, b) in (
          from_numbered c h.0 d (binders r) (pattern_from c h.0 r h.2) (omega (arith, few)),
          block_numbered (c + length (binders r)) h.1 (d + length (binders r)) body (subst (λ i. SpansBlock i h.1 body) x h.3) k.1 (omega (arith, few)),
          clauses_numbered (c + length (binders r) + within_block body) m (d + length (binders r) + within_block body) cs
              (subst (λ i. SpansClauses i m cs) y h.4) k.2 (omega (arith, few)),
        )
    expression_numbered c m d (Nested b) h k few = block_numbered c m d b h k few

    pub block_numbered : (c m d : ℕ) (b : Block) → SpansBlock c m b → IsKnownBlock p b → d + within_block b ≤ 4294967296 → NumberedBlock p c d b
    block_numbered c m d (Last e) h k few = expression_numbered c m d e h k few
    block_numbered c m d (Let bs e rest) h k few =
        let x : h.0 ≡ c + within e = expression_count c h.0 e h.3 in
        let b = from_count h.0 h.1 bs h.4 in
        let y : h.1 ≡ c + within e + length bs = omega (arith, x, b) in (
          h.2,
          from_numbered (c + within e) h.1 d bs (subst (λ i. From i h.1 bs) x h.4) (omega (arith, few)),
          expression_numbered c h.0 (d + length bs) e h.3 k.0 (omega (arith, few)),
          block_numbered (c + within e + length bs) m (d + within e + length bs) rest (subst (λ i. SpansBlock i m rest) y h.5) k.1 (omega (arith, few)),
        )

    clauses_numbered : (c m d : ℕ) (cs : Clauses) → SpansClauses c m cs → AreKnownClauses p cs → d + within_clauses cs ≤ 4294967296 → NumberedClauses p c d cs
    clauses_numbered c m d NoClauses h k few = tt
    clauses_numbered c m d (MoreClauses r body cs) h k few =
        let x : h.0 ≡ c + length (binders r) = pattern_count c h.0 r h.2 in
        let b = block_count h.0 h.1 body h.3 in
        let y : h.1 ≡ c + length (binders r) + within_block body = omega (arith, x, b) in (
          from_numbered c h.0 d (binders r) (pattern_from c h.0 r h.2) (omega (arith, few)),
          block_numbered (c + length (binders r)) h.1 (d + length (binders r)) body (subst (λ i. SpansBlock i h.1 body) x h.3) k.1 (omega (arith, few)),
          clauses_numbered (c + length (binders r) + within_block body) m (d + length (binders r) + within_block body) cs
              (subst (λ i. SpansClauses i m cs) y h.4) k.2 (omega (arith, few)),
        )
