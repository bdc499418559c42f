-- What the walks' proofs use everywhere.
use Rattle.std.proofs.Common.{◌≡◌, ℕ, Bool, false, List, [], ◌∷◌, ◌++◌, refl, sym, ap, ◌∙◌, map, append_assoc}
use Rattle.std.specs.declared.vec.Vec.{Vec}
use Rattle.std.specs.declared.alloc.Global.{Global}
use Rattle.fip_trees.specs.declared.least.Violation.{Violation}
use Rattle.fip_trees.proofs.Leasts.{after-append}
use Rattle.call_groups.specs.CallGraph.{rows}
use Rattle.call_groups.specs.declared.search.Call as C
use Rattle.call_groups.specs.declared.search.Partition.{Partition}
use Rattle.fip_trees.specs.Tree.{Expression, Give, Tuple, Operation, Call, Match, Nested, Block, Last, Let}
use Rattle.fip_trees.specs.Tree.{Clauses, NoClauses, MoreClauses}
use Rattle.tail_groups.specs.Notes.{site_notes, notes, expression_notes, block_notes, clauses_notes}
use Rattle.tail_groups.specs.Sites.{Site, site, called, sites, block_sites, clauses_sites}

pub called-append : (xs ys : List Site) → map called (xs ++ ys) ≡ map called xs ++ map called ys
called-append [] ys = refl
called-append (x ∷ xs) ys = ap (λ q. called x ∷ q) (called-append xs ys)

notes-append : (p : Partition) (i : ℕ) (xs ys : List Site) → notes p i (xs ++ ys) ≡ notes p i xs ++ notes p i ys
notes-append p i [] ys = refl
notes-append p i (x ∷ xs) ys = ap (λ q. site_notes p i x ++ q) (notes-append p i xs ys) ∙ sym (append_assoc (site_notes p i x) (notes p i xs) (notes p i ys))

right-nil : (xs : List Violation) → xs ++ [] ≡ xs
right-nil [] = refl
right-nil (x ∷ xs) = ap (λ q. x ∷ q) (right-nil xs)

two : (p : Partition) (i : ℕ) (us vs : List Violation) (xs ys : List Site) → us ≡ notes p i xs → vs ≡ notes p i ys → us ++ vs ≡ notes p i (xs ++ ys)
two p i us vs xs ys h g = ap (λ q. q ++ vs) h ∙ ap (λ q. notes p i xs ++ q) g ∙ sym (notes-append p i xs ys)

-- along the tree or along its calls, the same is noted
mutual
  pub expression_same : (p : Partition) (i : ℕ) (t : Bool) (e : Expression) → expression_notes p i t e ≡ notes p i (sites t e)
  expression_same p i t (Give a) = refl
  expression_same p i t (Tuple q as') = refl
  expression_same p i t (Operation o q l r) = refl
  expression_same p i t (Call g n q as') = sym (right-nil (site_notes p i (site g n q t)))
  expression_same p i t (Match k u q a r body cs) = two p i (block_notes p i t body) (clauses_notes p i t cs) (block_sites t body) (clauses_sites t cs) (block_same p i t body) (clauses_same p i t cs)
  expression_same p i t (Nested b) = block_same p i t b

  pub block_same : (p : Partition) (i : ℕ) (t : Bool) (b : Block) → block_notes p i t b ≡ notes p i (block_sites t b)
  block_same p i t (Last e) = expression_same p i t e
  block_same p i t (Let bs e rest) = two p i (expression_notes p i false e) (block_notes p i t rest) (sites false e) (block_sites t rest) (expression_same p i false e) (block_same p i t rest)

  pub clauses_same : (p : Partition) (i : ℕ) (t : Bool) (cs : Clauses) → clauses_notes p i t cs ≡ notes p i (clauses_sites t cs)
  clauses_same p i t NoClauses = refl
  clauses_same p i t (MoreClauses q body rest) = two p i (block_notes p i t body) (clauses_notes p i t rest) (block_sites t body) (clauses_sites t rest) (block_same p i t body) (clauses_same p i t rest)

pub rows-push : (vs : List (Vec C.Call Global)) (v : Vec C.Call Global) → rows (vs ++ v ∷ []) ≡ rows vs ++ v.items ∷ []
rows-push [] v = refl
rows-push (x ∷ vs) v = ap (λ q. x.items ∷ q) (rows-push vs v)

pub ruleset noting = (after-append)

pub ruleset calling = (called-append, rows-push)
