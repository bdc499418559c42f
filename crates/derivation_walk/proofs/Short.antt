-- Where there is too little room for a part, there is too little for the whole.
use Rattle.std.proofs.Common.{◌≡◌, ℕ, ◌<◌, ◌+◌, refl, sym, ap, ◌∙◌, subst, List, [], ◌∷◌, Result, Err, false, ◌||◌, if◌then◌else◌, arith}
use Rattle.fip_base.specs.declared.plain.Param.{Param}
use Rattle.fip_trees.specs.Sizes.{no_sizes}
use Rattle.fip_trees.specs.Tree as T
use Rattle.fip_trees.specs.TreeView.{BoundPart, block_of}
use Rattle.credit_check.specs.Tallies.{made_from}
use Rattle.derivation_trees.specs.declared.derivation.RuleName.{RuleName}
use Rattle.derivation_trees.specs.declared.derivation.RuleName.TheVariants as R
use Rattle.derivation_trees.specs.Trees.{Tree, Trees, MoreTrees, flat, flat_all}
use Rattle.derivation_trees.specs.Building.{Built, opened, closed}
use Rattle.derivation_walk.specs.declared.error.LineError.{LineError}
use Rattle.derivation_walk.specs.declared.error.LineError.TheVariants.{TooLong}
use Rattle.derivation_walk.specs.Growing.{grown, grown_all, closed_times, Awaits}
use Rattle.derivation_walk.specs.Walked.{Guided, Owned, Asked, asked, those, used, sorted, owning, credits, value, fields, passed, rule_of, node, let_node, following, rest_owned, size, walked, walked_parts}
use Rattle.derivation_walk.specs.Costs.{cost_of, cost, cost_all}
use Rattle.derivation_walk.proofs.WalkSteps.{value_grown, let_opened}
use Rattle.derivation_walk.proofs.Costs.{cost_append, tree_kept, trees_kept, closed_cost, awaited_cost, awaited_one_cost}

one_error : {A : Type 0} (r : Result A LineError) (y z : LineError) → r ≡ Err y → r ≡ Err z → y ≡ z
one_error r y z a b = cc

-- the error y that was passed on is e
pub too_long : {A : Type 0} (r : Result A LineError) (y e : LineError) → r ≡ Err y → y ≡ e → r ≡ Err TooLong → e ≡ TooLong
too_long r y e a b k = sym b ∙ one_error r y TooLong a k

-- nodes that are closed
pub closed_kept : (n r s : ℕ) (b c : Built) → s ≡ r → c ≡ closed_times n b → s + cost_of c.nodes ≡ r + cost_of b.nodes
closed_kept n r s b c e f =
    let a : cost_of c.nodes ≡ cost_of b.nodes = ap (λ (x : Built). cost_of x.nodes) f ∙ closed_cost n b in
    omega (arith, e, a)

-- ---- a part of a node

pub first_short : (t : Tree) (ts : Trees) (n : ℕ) → n < cost t → n < cost_all (MoreTrees t ts)
first_short t ts n h = let a = cost_append (flat t) (flat_all ts) in omega (arith, h, a)

-- The room was n before the node a was opened, and then m; b waits for parts.
pub parts_short : (n m k : ℕ) (a b : Built) (f : Trees → Tree) (ts : Trees) → Awaits k a b f → m + cost_of b.nodes ≡ n + cost_of a.nodes → m < cost_all ts → n < cost (f ts)
parts_short n m k a b f ts h e l = let x = awaited_cost k a b f ts h in omega (arith, x, e, l)

pub value_short : (g : Guided) (n m : ℕ) (b0 b1 : Built) (a : T.Argument) (r : RuleName) (ys cs : List ℕ) → ys ≡ sorted (owning g [] a) → cs ≡ made_from no_sizes a → r ≡ rule_of g a → b1 ≡ opened b0 r ys (credits cs) → m + cost_of b1.nodes ≡ n + cost_of b0.nodes → m < cost_all (fields g a) → n < cost (value g a)
value_short g n m b0 b1 a r ys cs hy hc hr e k l =
    let x = value_grown g b0 b1 (grown_all b1 (fields g a)) (closed (grown_all b1 (fields g a))) a r ys cs hy hc hr e refl refl in
    let y = trees_kept b1 (grown_all b1 (fields g a)) (fields g a) refl in
    let z = closed_cost 1 (grown_all b1 (fields g a)) in
    let w = tree_kept b0 (closed (grown_all b1 (fields g a))) (value g a) x in
    omega (arith, y, z, w, k, l)

pub passed_short : (g : Guided) (p : Param) (ps : List Param) (a : T.Argument) (as' : T.Arguments) (n : ℕ) → g.world.scalar p.ty || p.lent ≡ false → n < cost (value g a) → n < cost_all (passed g (p ∷ ps) (T.MoreArguments a as'))
passed_short g p ps a as' n e h =
    subst (λ b. n < cost_all (if b then passed g ps as' else MoreTrees (value g a) (passed g ps as'))) (sym e) (first_short (value g a) (passed g ps as') n h)

-- ---- in loops

-- Trees are put into b as others were put into a.
pub later_short : (n m : ℕ) (a b : Built) (us ws : Trees) → grown_all b us ≡ grown_all a ws → m + cost_of b.nodes ≡ n + cost_of a.nodes → m < cost_all us → n < cost_all ws
later_short n m a b us ws e k l =
    let x = trees_kept b (grown_all b us) us refl in
    let y = trees_kept a (grown_all b us) ws e in
    omega (arith, x, y, k, l)

-- The rest of a block is put into b, as all of it is into a.
pub rest_short : (n m i : ℕ) (a b : Built) (u w : Tree) → closed_times i (grown b u) ≡ grown a w → m + cost_of b.nodes ≡ n + cost_of a.nodes → m < cost u → n < cost w
rest_short n m i a b u w e k l =
    let x = tree_kept b (grown b u) u refl in
    let c = closed_cost i (grown b u) in
    let y = tree_kept a (closed_times i (grown b u)) w e in
    omega (arith, x, c, y, k, l)

pub binding_short : (g : Guided) (i : ℕ) (o : Owned) (a e : Asked) (d : BoundPart) (bs : List BoundPart) (last : T.Expression) (m : ℕ) → e ≡ asked g i → ((t : Tree) → m < cost (let_node g i o a e d.bound t)) → m < cost (walked_parts g i o a (block_of (d ∷ bs) last))
binding_short g i o a e d bs last m he h =
    let rest = walked_parts g (i + size d.bound) (rest_owned g a (asked g i) o d.binders) (following a (asked g i)) (block_of bs last) in
    subst (λ z. m < cost (let_node g i o a z d.bound rest)) he (h rest)

-- what a let binds
pub bound_short : (g : Guided) (n m k i : ℕ) (b0 b1 : Built) (o : Owned) (a b : Asked) (e : T.Expression) (xs ys : List ℕ) (t : Tree) → xs ≡ those g a o.variables → ys ≡ used g b xs → Awaits k b0 b1 (node R.Let o xs a.need) → m + cost_of b1.nodes ≡ n + cost_of b0.nodes → m < cost (walked g i record { variables = ys; credits = b.need } e) → n < cost (let_node g i o a b e t)
bound_short g n m k i b0 b1 o a b e xs ys t hx hy h p l =
    let w = walked g i (record { variables = ys; credits = b.need }) e in
    let c = tree_kept b1 (grown b1 w) w refl in
    let x = awaited_one_cost k b0 (grown b1 w) (let_node g i o a b e) t (let_opened g k i b0 b1 (grown b1 w) o a b e xs ys hx hy h refl) in
    omega (arith, c, x, p, l)

-- ---- the clauses of a match

pub clause_short : (n m k : ℕ) (a b : Built) (f : Trees → Tree) (t : Tree) (ts : Trees) (w : Tree) → Awaits k a b f → f (MoreTrees t ts) ≡ w → m + cost_of b.nodes ≡ n + cost_of a.nodes → m < cost t → n < cost w
clause_short n m k a b f t ts w h e p l =
    subst (λ z. n < cost z) e (parts_short n m k a b f (MoreTrees t ts) h p (first_short t ts m l))

-- the room was l after the first
pub clauses_short : (n m l k : ℕ) (a b c : Built) (f : Trees → Tree) (t : Tree) (ts : Trees) (w : Tree) → Awaits k a b f → f (MoreTrees t ts) ≡ w → m + cost_of b.nodes ≡ n + cost_of a.nodes → c ≡ grown b t → l + cost_of c.nodes ≡ m + cost_of b.nodes → l < cost_all ts → n < cost w
clauses_short n m l k a b c f t ts w h e p g q r =
    let x = tree_kept b c t g in
    let s = cost_append (flat t) (flat_all ts) in
    subst (λ z. n < cost z) e (parts_short n m k a b f (MoreTrees t ts) h p (omega (arith, x, s, q, r)))
