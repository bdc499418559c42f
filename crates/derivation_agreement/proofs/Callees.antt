-- What the callees of a derived body require of credits: each is fip or fbip, so its header has few.
use Rattle.std.proofs.Common.{◌≡◌, ℕ, ◌≤◌, refl, List, [], ◌∷◌, length, Bool, true, false, Option, Some, None, arith}
use Rattle.std.specs.Prelude.{slice_get, ◌==◌}
use Rattle.tail_groups.specs.fip_language.declared.FunKind.{FunKind}
use Rattle.tail_groups.specs.fip_language.declared.FunKind.TheVariants.{Fip, Fbip, Fun}
use Rattle.tail_groups.specs.fip_trees.Sizes.{one_if}
use Rattle.tail_groups.specs.fip_trees.Tree.{Arguments, Pattern, Expression, Give, Tuple, Operation, Call, Match, Nested, Block, Last, Let, Clauses, NoClauses, MoreClauses, Instance, Program}
use Rattle.derivation_walk.specs.fip_rules.World.{world, is_ruled, is_weaker}
use Rattle.derivation_walk.specs.fip_rules.Shapes.{takes}
use Rattle.derivation_walk.specs.credit_check.Needs.{marked, asked}
use Rattle.derivation_making.specs.ownership_calculus.Terms.{Item}
use Rattle.derivation_walk.specs.derivation_trees.Trees.{Tree, Trees, NoTrees, MoreTrees}
use Rattle.derivation_making.specs.derivation_check.Owned.{owned}
use Rattle.derivation_making.specs.derivation_check.Scopes.{Scope}
use Rattle.derivation_making.specs.derivation_check.Calculus.{Calls, Derives, DerivesBlock, DerivesClauses}
use Rattle.derivation_agreement.specs.Limits.{KeepsLimits}
use Rattle.derivation_agreement.proofs.Spelt.{EachClause, match_node}

-- no call asks for more than 4,096 credits of a size
abbrev mutual
  pub AsksFew : Program → Expression → Type 0
  AsksFew p (Give a) = Unit {0}
  AsksFew p (Tuple q as') = Unit {0}
  AsksFew p (Operation o q l r) = Unit {0}
  AsksFew p (Call g n q as') = (k : ℕ) → asked k (slice_get p.instances g) ≤ 4096
  AsksFew p (Match t u q a r body cs) = AsksFewBlock p body × AskFew p cs
  AsksFew p (Nested b) = AsksFewBlock p b

  pub AsksFewBlock : Program → Block → Type 0
  AsksFewBlock p (Last e) = AsksFew p e
  AsksFewBlock p (Let bs e rest) = AsksFew p e × AsksFewBlock p rest

  pub AskFew : Program → Clauses → Type 0
  AskFew p NoClauses = Unit {0}
  AskFew p (MoreClauses q body cs) = AsksFewBlock p body × AskFew p cs

pub one_at_most : (b : Bool) → one_if b ≤ 1
one_at_most true = omega arith
one_at_most false = omega arith

pub marked_few : (k : ℕ) (js : List ℕ) → marked k js ≤ length js
marked_few k [] = omega arith
marked_few k (j ∷ js) =
    let a = one_at_most (j == k) in
    let b = marked_few k js in
    omega (arith, a, b)

no_weaker : (k j : FunKind) → is_ruled k ≡ true → is_weaker k j ≡ false → is_ruled j ≡ true
no_weaker Fip Fip r h = refl
no_weaker Fip Fbip r h = refl
no_weaker Fip Fun r h = absurd (cc)
no_weaker Fbip Fip r h = refl
no_weaker Fbip Fbip r h = refl
no_weaker Fbip Fun r h = absurd (cc)
no_weaker Fun j r h = absurd (cc)

callee_asks : (p : Program) (kind : FunKind) (s : Scope) (d g : ℕ) (as' : Arguments) (t : Tree) (o : Option Instance) → KeepsLimits p → is_ruled kind ≡ true → slice_get p.instances g ≡ o → Calls (world p kind) s d o as' t → (k : ℕ) → asked k o ≤ 4096
callee_asks p kind s d g as' t None l r at h k = absurd h
callee_asks p kind s d g as' t (Some e) l r at h k =
    let a = l.registers g e at (no_weaker kind e.kind r h.0) in
    let b = marked_few k e.credits in
    omega (arith, a, b)

abbrev BlockAsks : Program → FunKind → Block → Type 0
BlockAsks p kind b = (s : Scope) (c d : ℕ) (t : Tree) → DerivesBlock (world p kind) s c d t b → AsksFewBlock p b

abbrev ClausesAsk : Program → FunKind → Clauses → Type 0
ClausesAsk p kind cs = (s : Scope) (c d : ℕ) (x : Option ℕ) (have : Item → ℕ) (ts : Trees) → DerivesClauses (world p kind) s c d x have ts cs → AskFew p cs

all_ask : (p : Program) (kind : FunKind) (s : Scope) (c d : ℕ) (q : Pattern) (body : Block) (cs : Clauses) (x : Option ℕ) (have : Item → ℕ) (ts : Trees) → BlockAsks p kind body → ClausesAsk p kind cs → EachClause (world p kind) s c d q body cs x have ts → AsksFewBlock p body × AskFew p cs
all_ask p kind s c d q body cs x have NoTrees fb fc h = absurd h
all_ask p kind s c d q body cs x have (MoreTrees t ts) fb fc h = (fb _ _ _ t h.0.3, fc s _ _ x have ts h.1)

mutual
  expression_asks : (p : Program) (kind : FunKind) (e : Expression) (s : Scope) (c d : ℕ) (t : Tree) → KeepsLimits p → is_ruled kind ≡ true → Derives (world p kind) s c d t e → AsksFew p e
  expression_asks p kind (Give a) s c d t l r h = tt
  expression_asks p kind (Tuple q as') s c d t l r h = tt
  expression_asks p kind (Operation o q x y) s c d t l r h = tt
  expression_asks p kind (Call g n q as') s c d t l r h = callee_asks p kind s d g as' t (slice_get p.instances g) l r refl h
  expression_asks p kind (Match m u q a x body cs) s c d t l r h =
      let w = world p kind in
      let z = match_node w s d (takes w m u) a (EachClause w s c d x body cs) t h in
      all_ask p kind s c d x body cs z.4 (owned z.1 z.2) z.3 (λ s c d t h. block_asks p kind body s c d t l r h) (λ s c d x have ts h. clauses_ask p kind cs s c d x have ts l r h) z.6
  expression_asks p kind (Nested b) s c d t l r h = block_asks p kind b s c d t l r h

  pub block_asks : (p : Program) (kind : FunKind) (b : Block) (s : Scope) (c d : ℕ) (t : Tree) → KeepsLimits p → is_ruled kind ≡ true → DerivesBlock (world p kind) s c d t b → AsksFewBlock p b
  block_asks p kind (Last e) s c d t l r h = expression_asks p kind e s c d t l r h
  block_asks p kind (Let bs e rest) s c d t l r (xs, cs, u, v, under, some, numbered, own1, below, own2, split, bound, more) =
      (expression_asks p kind e _ _ _ u l r bound, block_asks p kind rest _ _ _ v l r more)

  clauses_ask : (p : Program) (kind : FunKind) (cs : Clauses) (s : Scope) (c d : ℕ) (x : Option ℕ) (have : Item → ℕ) (ts : Trees) → KeepsLimits p → is_ruled kind ≡ true → DerivesClauses (world p kind) s c d x have ts cs → AskFew p cs
  clauses_ask p kind NoClauses s c d x have ts l r h = tt
  clauses_ask p kind (MoreClauses q body cs) s c d x have NoTrees l r h = absurd h
  clauses_ask p kind (MoreClauses q body cs) s c d x have (MoreTrees t ts) l r h = (block_asks p kind body _ _ _ t l r h.0.3, clauses_ask p kind cs s _ _ x have ts l r h.1)
