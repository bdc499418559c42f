-- What is needed of credits is bounded by registers: each constructor has one, in expressions and in patterns, and so has
-- each let, of which each may have a call in what it binds.
use Rattle.std.proofs.Common.{ℕ, ◌≤◌, ◌+◌, ◌*◌, ◌-◌, Bool, true, false, arith}
use Rattle.std.specs.Prelude.{◌==◌}
use Rattle.std.proofs.lemmas.Bool.Decides.{nat_tests}
use Rattle.tail_groups.specs.fip_trees.Sizes.{greater}
use Rattle.tail_groups.specs.fip_trees.Tree.{Argument, Variable, Literal, Constructor, Arguments, NoArguments, MoreArguments, count, Pattern, BinderPattern, LiteralPattern, ConstructorPattern, Patterns, NoPatterns, MorePatterns, count_patterns, Expression, Give, Tuple, Operation, Call, Match, Nested, Block, Last, Let, Clauses, NoClauses, MoreClauses, Program}
use Rattle.derivation_walk.specs.credit_check.Needs.{made, made_all, nodes, nodes_all, given, takes, need, need_block, need_clauses}
use Rattle.tail_groups.specs.Registers.{in_argument, in_arguments, in_pattern, in_patterns, in_expression, in_block, in_clauses}
use Rattle.derivation_making.specs.Numbered.{Numbered, NumberedBlock, NumberedClauses}
use Rattle.derivation_agreement.proofs.Callees.{AsksFew, AsksFewBlock, AskFew, one_at_most}

mutual
  pub made_few : (k : ℕ) (a : Argument) → made k a ≤ in_argument a
  made_few k (Variable x n p) = omega arith
  made_few k (Literal i p) = omega arith
  made_few k (Constructor t d c n p as') =
      let a = one_at_most (count as' == k) in
      let b = made_all_few k as' in
      omega (arith, a, b)

  pub made_all_few : (k : ℕ) (as' : Arguments) → made_all k as' ≤ in_arguments as'
  made_all_few k NoArguments = omega arith
  made_all_few k (MoreArguments a as') =
      let x = made_few k a in
      let y = made_all_few k as' in
      omega (arith, x, y)

mutual
  nodes_few : (k : ℕ) (q : Pattern) → nodes k q ≤ in_pattern q
  nodes_few k (BinderPattern b) = omega arith
  nodes_few k (LiteralPattern i p) = omega arith
  nodes_few k (ConstructorPattern t d c n p ps) =
      let a = one_at_most (count_patterns ps == k) in
      let b = nodes_all_few k ps in
      omega (arith, a, b)

  nodes_all_few : (k : ℕ) (ps : Patterns) → nodes_all k ps ≤ in_patterns ps
  nodes_all_few k NoPatterns = omega arith
  nodes_all_few k (MorePatterns p ps) =
      let x = nodes_few k p in
      let y = nodes_all_few k ps in
      omega (arith, x, y)

pub given_few : (k : ℕ) (taken : Bool) (q : Pattern) → given k taken q ≤ in_pattern q
given_few k true q = nodes_few k q
given_few k false q = omega arith

pub pattern_some : (q : Pattern) → 1 ≤ in_pattern q
pattern_some (BinderPattern b) = omega arith
pattern_some (LiteralPattern i p) = omega arith
pattern_some (ConstructorPattern t d c n p ps) = omega arith

greater_most : (m n b : ℕ) → m ≤ b → n ≤ b → greater m n ≤ b
greater_most m n b h g = grind (arith, nat_tests)

mutual
  pub need_few : (p : Program) (k c d : ℕ) (e : Expression) → AsksFew p e → Numbered p c d e → need p k e ≤ 4097 * in_expression e + 4096
  need_few p k c d (Give a) h n = let x = made_few k a in omega (arith, x)
  need_few p k c d (Tuple q as') h n = let x = made_all_few k as' in omega (arith, x)
  need_few p k c d (Operation o q l r) h n =
      let x = made_few k l in
      let y = made_few k r in
      omega (arith, x, y)
  need_few p k c d (Call g x q as') h n =
      let y = made_all_few k as' in
      let z = h k in
      omega (arith, y, z)
  need_few p k c d (Match t u q a r body cs) h n =
      let x = need_block_few p k _ _ body h.0 n.1 in
      let y = need_clauses_few p k _ _ (takes p t u) cs h.1 n.2 in
      greater_most (need_block p k body - given k (takes p t u) r) (need_clauses p k (takes p t u) cs) (4097 * in_expression (Match t u q a r body cs) + 4096) (omega (arith, x)) (omega (arith, y))
  need_few p k c d (Nested b) h n = need_block_few p k c d b h n

  pub need_block_few : (p : Program) (k c d : ℕ) (b : Block) → AsksFewBlock p b → NumberedBlock p c d b → need_block p k b ≤ 4097 * in_block b + 4096
  need_block_few p k c d (Last e) h n = need_few p k c d e h n
  need_block_few p k c d (Let bs e rest) h n =
      let some = n.0 in
      let x = need_few p k _ _ e h.0 n.2 in
      let y = need_block_few p k _ _ rest h.1 n.3 in
      omega (arith, some, x, y)

  need_clauses_few : (p : Program) (k c d : ℕ) (taken : Bool) (cs : Clauses) → AskFew p cs → NumberedClauses p c d cs → need_clauses p k taken cs ≤ 4097 * in_clauses cs + 4096
  need_clauses_few p k c d taken NoClauses h n = omega arith
  need_clauses_few p k c d taken (MoreClauses q body cs) h n =
      let x = need_block_few p k _ _ body h.0 n.1 in
      let y = need_clauses_few p k _ _ taken cs h.1 n.2 in
      greater_most (need_block p k body - given k taken q) (need_clauses p k taken cs) (4097 * in_clauses (MoreClauses q body cs) + 4096) (omega (arith, x)) (omega (arith, y))
