-- What nodes cost: what is opened costs its node, what is closed nothing, and a tree what its nodes cost together.
use Rattle.std.proofs.Common.{◌≡◌, ℕ, zero, suc, ◌<◌, ◌≤◌, ◌+◌, ◌-◌, ◌&&◌, ◌==◌, refl, ap, ◌∙◌, List, [], ◌∷◌, ◌++◌, length, Option, Some, None, Bool, true, false, arith}
use Rattle.derivation_trees.specs.declared.derivation.RuleName.{RuleName}
use Rattle.derivation_trees.specs.declared.derivation.RuleName.TheVariants as R
use Rattle.derivation_trees.specs.declared.derivation.Credit.{Credit}
use Rattle.derivation_trees.specs.Trees.{Tree, Branch, Trees, NoTrees, MoreTrees, Head, flat, flat_all}
use Rattle.derivation_trees.specs.Building.{Built, alter, alter_at, innermost, with_part, with_span, opened, closed, closed_at}
use Rattle.derivation_walk.specs.Growing.{grown, grown_all, closed_times, Awaits, AwaitsOne}
use Rattle.derivation_walk.specs.Walked.{Owned, credits, same_from, weakened, node}
use Rattle.derivation_walk.specs.Costs.{cost_of, cost, cost_all}

-- ---- nodes

pub cost_append : (xs ys : List Head) → cost_of (xs ++ ys) ≡ cost_of xs + cost_of ys
cost_append [] ys = omega arith
cost_append (x ∷ xs) ys = let h = cost_append xs ys in omega (arith, h)

alter_cost : (f : Head → Head) → ((h : Head) → length (f h).variables ≡ length h.variables) → (i : ℕ) (hs : List Head) → cost_of (alter f i hs) ≡ cost_of hs
alter_cost f k i [] = refl
alter_cost f k zero (h ∷ hs) = let e = k h in omega (arith, e)
alter_cost f k (suc i) (h ∷ hs) = let e = alter_cost f k i hs in omega (arith, e)

part_cost : (o : Option ℕ) (hs : List Head) → cost_of (alter_at with_part o hs) ≡ cost_of hs
part_cost None hs = refl
part_cost (Some i) hs = alter_cost with_part (λ h. refl) i hs

pub opened_cost : (b : Built) (r : RuleName) (vs : List ℕ) (cs : List Credit) → cost_of (opened b r vs cs).nodes ≡ cost_of b.nodes + (length vs + 1)
opened_cost b r vs cs =
    let a = cost_append (alter_at with_part (innermost b.open_at) b.nodes) (record { rule = r; variables = vs; credits = cs; parts = 0; span = 1 } ∷ []) in
    let p = part_cost (innermost b.open_at) b.nodes in
    omega (arith, a, p)

grown_cost : (b : Built) (t : Tree) → cost_of (grown b t).nodes ≡ cost_of b.nodes + cost t
grown_cost b t =
    let a = cost_append (alter_at with_part (innermost b.open_at) b.nodes) (flat t) in
    let p = part_cost (innermost b.open_at) b.nodes in
    omega (arith, a, p)

grown_all_cost : (b : Built) (ts : Trees) → cost_of (grown_all b ts).nodes ≡ cost_of b.nodes + cost_all ts
grown_all_cost b NoTrees = omega arith
grown_all_cost b (MoreTrees t ts) =
    let a = grown_all_cost (grown b t) ts in
    let g = grown_cost b t in
    let s = cost_append (flat t) (flat_all ts) in
    omega (arith, a, g, s)

closed_at_cost : (o : Option ℕ) (b : Built) → cost_of (closed_at o b).nodes ≡ cost_of b.nodes
closed_at_cost None b = refl
closed_at_cost (Some i) b = alter_cost (with_span (length b.nodes - i)) (λ h. refl) i b.nodes

pub closed_cost : (n : ℕ) (b : Built) → cost_of (closed_times n b).nodes ≡ cost_of b.nodes
closed_cost zero b = refl
closed_cost (suc n) b = closed_cost n (closed b) ∙ closed_at_cost (innermost b.open_at) b

-- ---- trees

pub tree_kept : (b c : Built) (t : Tree) → c ≡ grown b t → cost_of c.nodes ≡ cost_of b.nodes + cost t
tree_kept b c t e = ap (λ (x : Built). cost_of x.nodes) e ∙ grown_cost b t

pub trees_kept : (b c : Built) (ts : Trees) → c ≡ grown_all b ts → cost_of c.nodes ≡ cost_of b.nodes + cost_all ts
trees_kept b c ts e = ap (λ (x : Built). cost_of x.nodes) e ∙ grown_all_cost b ts

-- b waits for parts of a tree that is in a
pub awaited_cost : (n : ℕ) (a b : Built) (f : Trees → Tree) (ts : Trees) → Awaits n a b f → cost_of b.nodes + cost_all ts ≡ cost_of a.nodes + cost (f ts)
awaited_cost n a b f ts h =
    let x = grown_all_cost b ts in
    let y = closed_cost n (grown_all b ts) in
    let z : cost_of (closed_times n (grown_all b ts)).nodes ≡ cost_of (grown a (f ts)).nodes = ap (λ (q : Built). cost_of q.nodes) (h.done ts) in
    let w = grown_cost a (f ts) in
    omega (arith, x, y, z, w)

pub awaited_one_cost : (n : ℕ) (a b : Built) (f : Tree → Tree) (t : Tree) → AwaitsOne n a b f → cost_of b.nodes + cost t ≡ cost_of a.nodes + cost (f t)
awaited_one_cost n a b f t h =
    let x = grown_cost b t in
    let y = closed_cost n (grown b t) in
    let z : cost_of (closed_times n (grown b t)).nodes ≡ cost_of (grown a (f t)).nodes = ap (λ (q : Built). cost_of q.nodes) (h.done t) in
    let w = grown_cost a (f t) in
    omega (arith, x, y, z, w)

-- ---- where there is too little room

branch_costs : (r : RuleName) (xs : List ℕ) (cs : List Credit) (ts : Trees) → length xs + 1 ≤ cost (Branch r xs cs ts)
branch_costs r xs cs ts = omega arith

weakened_costs : (b : Bool) (o : Owned) (t : Tree) → cost t ≤ cost (weakened b o t)
weakened_costs true o t = omega arith
weakened_costs false o t = let a = cost_append (flat t) [] in omega (arith, a)

-- for the node itself, and for the one that weakens above it
pub node_short : (r : RuleName) (o : Owned) (xs need : List ℕ) (ts : Trees) (n : ℕ) → n < length xs + 1 → n < cost (node r o xs need ts)
node_short r o xs need ts n h =
    let t = Branch r xs (credits need) ts in
    let a = branch_costs r xs (credits need) ts in
    let b = weakened_costs ((length xs == length o.variables) && same_from o.credits need 1 16) o t in
    omega (arith, h, a, b)

two_cost : (r : RuleName) (o : Owned) (xs need : List ℕ) (ts : Trees) → (length xs == length o.variables) && same_from o.credits need 1 16 ≡ false → length o.variables + 1 + (length xs + 1) ≤ cost (node r o xs need ts)
two_cost r o xs need ts e =
    let t = Branch r xs (credits need) ts in
    let a = branch_costs r xs (credits need) ts in
    let s = cost_append (flat t) [] in
    let z : cost (node r o xs need ts) ≡ cost (weakened false o t) = ap (λ b. cost (weakened b o t)) e in
    omega (arith, a, s, z)

pub weaken_short : (r : RuleName) (o : Owned) (xs need : List ℕ) (ts : Trees) (n : ℕ) → (length xs == length o.variables) && same_from o.credits need 1 16 ≡ false → n < length o.variables + 1 → n < cost (node r o xs need ts)
weaken_short r o xs need ts n e h = let a = two_cost r o xs need ts e in omega (arith, a, h)

-- the node after the one that weakens: the room is n, then m
pub below_short : (r : RuleName) (o : Owned) (xs need : List ℕ) (ts : Trees) (n m : ℕ) (b c : Built) (cs : List Credit) → (length xs == length o.variables) && same_from o.credits need 1 16 ≡ false → c ≡ opened b R.Weaken o.variables cs → m + cost_of c.nodes ≡ n + cost_of b.nodes → m < length xs + 1 → n < cost (node r o xs need ts)
below_short r o xs need ts n m b c cs e g k h =
    let a = two_cost r o xs need ts e in
    let p : cost_of c.nodes ≡ cost_of b.nodes + (length o.variables + 1) = ap (λ (q : Built). cost_of q.nodes) g ∙ opened_cost b R.Weaken o.variables cs in
    omega (arith, a, p, k, h)

-- Among the parts: from b with room n to c with room m nothing was lost, and c waits for these parts.
pub inside_short : (n m : ℕ) (a b : Built) (C F : ℕ) → m + cost_of b.nodes ≡ n + cost_of a.nodes → cost_of b.nodes + C ≡ cost_of a.nodes + F → m < C → n < F
inside_short n m a b C F k e h = omega (arith, k, e, h)
