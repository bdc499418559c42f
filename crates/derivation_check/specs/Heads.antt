-- It serves the proof of what `check` does: the node of a match.
use Rattle.std.specs.Prelude.{◌≡◌, ◌+◌, ℕ, Bool, true, false, List, length, Option, Some, None}
use Rattle.fip_trees.specs.Tree.{Argument, Variable, Literal, Constructor, Pattern, Block, Clauses}
use Rattle.fip_rules.specs.Shapes.{binders}
use Rattle.fip_rules.specs.World.{World, is_fip}
use Rattle.ownership_calculus.specs.Terms.{Item, given}
use Rattle.derivation_trees.specs.declared.derivation.RuleName.TheVariants as R
use Rattle.derivation_trees.specs.declared.derivation.Credit as D
use Rattle.derivation_trees.specs.Trees.{Tree, Branch, Trees}
use Rattle.derivation_check.specs.Owned.{Under}
use Rattle.derivation_check.specs.Scopes.{Known, Scope, meant, binding, within_block}
use Rattle.derivation_check.specs.Calculus.{Lends, FirstOf, IsClause, is_taken, DerivesBlock, DerivesClauses}

-- MATCH!, where x is the variable that is used up
abbrev pub TakenNode : World → ℕ → Option Known → Tree → ℕ → List ℕ → List D.Credit → Trees → Type 0
TakenNode w d None t x xs cs ts = ⊥
TakenNode w d (Some v) t x xs cs ts =
    (w.scalar v.ty ≡ false) × (v.number ≡ x) × Under (is_fip w.kind) d t (Branch R.TakingMatch xs cs ts)
    × (given x xs ≡ 1)

abbrev pub IsTaking : World → Scope → ℕ → Argument → Tree → ℕ → List ℕ → List D.Credit → Trees → Type 0
IsTaking w s d (Variable x n p) t k xs cs ts = TakenNode w d (meant s.variables x) t k xs cs ts
IsTaking w s d (Literal i p) t k xs cs ts = ⊥
IsTaking w s d (Constructor u g c n p as') t k xs cs ts = ⊥

abbrev pub IsLending : World → Scope → ℕ → Argument → Tree → List ℕ → List D.Credit → Trees → Type 0
IsLending w s d a t xs cs ts = Lends w s a × Under (is_fip w.kind) d t (Branch R.Match xs cs ts)

-- all clauses of a match: the first one and the others
abbrev pub AllClauses : World → Scope → ℕ → ℕ → Pattern → Block → Clauses → Option ℕ → (Item → ℕ) → Trees → Type 0
AllClauses w s c d q body cs x have ts =
    FirstOf ts (λ t us. IsClause w c d x have t q
    (DerivesBlock w (binding d (is_taken x) (binders q) s) (c + length (binders q)) (d + length (binders q)) t body)
    × DerivesClauses w s (c + length (binders q) + within_block body) (d + length (binders q) + within_block body)
    x have us cs)
