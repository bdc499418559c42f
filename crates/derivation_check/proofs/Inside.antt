-- Scopes inside of expressions.
use Rattle.std.proofs.Common.{◌≡◌, ℕ, zero, suc, ◌<◌, ◌≤◌, ◌+◌, ◌-◌, refl, sym, ap, ◌∙◌, subst, List, [], ◌∷◌, ◌++◌, length, get_or, take, drop, map, Option, Some, None, Bool, true, false, Bor, arith}
use Rattle.fip_trees.specs.declared.program.Binder.{Binder}
use Rattle.fip_trees.specs.declared.program.Binding as N
use Rattle.fip_trees.specs.fip_language.declared.Place.{Place}
use Rattle.fip_trees.specs.declared.program.Argument.TheVariants as AV
use Rattle.fip_trees.specs.declared.program.Argument.TheOpen as AO
use Rattle.fip_trees.specs.declared.program.Argument.TheFolds.{fold-roll-Argument}
use Rattle.fip_trees.specs.declared.program.Pattern as P
use Rattle.fip_trees.specs.TreeView.{BoundPart}
use Rattle.fip_trees.specs.TreeView as V
use Rattle.fip_rules.specs.Shapes.{binders}
use Rattle.derivation_check.specs.declared.scope.Scope as D
use Rattle.derivation_check.specs.declared.scope.Scope.TheVariants as SV
use Rattle.fip_trees.specs.Tree as T
use Rattle.fip_trees.proofs.TreeViews.{binding_is}
use Rattle.fip_rules.specs.World.{World}
use Rattle.ownership_calculus.specs.Terms.{Item, Own, Credit, given}
use Rattle.derivation_trees.specs.declared.derivation.Credit as C
use Rattle.derivation_trees.specs.Trees.{Tree, Trees}
use Rattle.derivation_check.specs.Owned.{amount, owned, root}
use Rattle.derivation_check.specs.Patterns.{nodes}
use Rattle.derivation_check.specs.Calculus.{numbers, bound, GoesOn, Matches, Scrutinised}
use Rattle.derivation_check.specs.Heads.{IsTaking, IsLending, TakenNode}
use Rattle.derivation_check.specs.Places.{IsRising}
use Rattle.derivation_check.specs.Scopes.{Known, Scope, meant, binding, lending, AreNumbered}
use Rattle.derivation_check.specs.ScopeView.{frames, scope_of, bindings, Fits, AreBindings}
use Rattle.derivation_check.proofs.Frames.{frames_clause, frames_bindings, frames_bound}

pub fits_in_clause : (s : Bor D.Scope) (q : Bor P.Pattern) (taken : Bool) (c d : ℕ) → AreNumbered c d (binders (V.pattern q.now)) → c ≤ d → Fits (frames s.now) → Fits (frames (SV.Clause s q taken c d))
fits_in_clause s q taken c d n o f = subst Fits (sym (frames_clause s q taken c d)) (n, o, f)

pub scope_in_clause : (s : Bor D.Scope) (q : Bor P.Pattern) (taken : Bool) (c d : ℕ) → scope_of (frames (SV.Clause s q taken c d)) ≡ binding d taken (binders (V.pattern q.now)) (scope_of (frames s.now))
scope_in_clause s q taken c d = ap scope_of (frames_clause s q taken c d)

pub fits_in_bindings : (s : Bor D.Scope) (bs : Bor (List N.Binding)) (c d : ℕ) → AreBindings c d (map V.binding bs.now) → c ≤ d → Fits (frames s.now) → Fits (frames (SV.Bindings s bs c d))
fits_in_bindings s bs c d n o f = subst Fits (sym (frames_bindings s bs c d)) (n, o, f)

pub scope_in_bindings : (s : Bor D.Scope) (bs : Bor (List N.Binding)) (c d : ℕ) → scope_of (frames (SV.Bindings s bs c d)) ≡ bindings d (map V.binding bs.now) (scope_of (frames s.now))
scope_in_bindings s bs c d = ap scope_of (frames_bindings s bs c d)

pub fits_in_bound : (s : Bor D.Scope) (xs ys : Bor (List ℕ)) → IsRising xs.now → IsRising ys.now → Fits (frames s.now) → Fits (frames (SV.Bound s xs ys))
fits_in_bound s xs ys n o f = subst Fits (sym (frames_bound s xs ys)) (n, o, f)

pub scope_in_bound : (s : Bor D.Scope) (xs ys : Bor (List ℕ)) → scope_of (frames (SV.Bound s xs ys)) ≡ lending xs.now ys.now (scope_of (frames s.now))
scope_in_bound s xs ys = ap scope_of (frames_bound s xs ys)

pub own_binders_are : (b : N.Binding) → (V.binding b).binders ≡ (N.out-Binding b).binders.items
own_binders_are b = ap (λ (v : BoundPart). v.binders) (binding_is b)

pub own_bound_is : (b : N.Binding) → (V.binding b).bound ≡ V.expression (N.out-Binding b).bound
own_bound_is b = ap (λ (v : BoundPart). v.bound) (binding_is b)

-- ---- what the parts of a let and of a match have

pub split_bound : (w : World) (d : ℕ) (bs : List Binder) (xs : List ℕ) (cs : List C.Credit) (p q : Tree) (used left : List ℕ) (one other : List C.Credit) → ((x : ℕ) → root p (Own x) ≡ given x used) → ((x : ℕ) → root q (Own x) ≡ given x left) → ((k : ℕ) → root p (Credit k) ≡ amount k one) → ((k : ℕ) → root q (Credit k) ≡ amount k other) → ((x : ℕ) → given x xs + given x (numbers w d bs) ≡ given x used + given x left) → ((k : ℕ) → amount k cs ≡ amount k one + amount k other) → (i : Item) → owned xs cs i + bound w d bs i ≡ root p i + root q i
split_bound w d bs xs cs p q used left one other a b e f g h (Own x) = let u = a x in let v = b x in let k = g x in omega arith
split_bound w d bs xs cs p q used left one other a b e f g h (Credit k) = let u = e k in let v = f k in let j = h k in omega arith

pub within_bound : (xs : List ℕ) (cs : List C.Credit) (p : Tree) (used : List ℕ) (one other : List C.Credit) → ((x : ℕ) → root p (Own x) ≡ given x used) → ((k : ℕ) → root p (Credit k) ≡ amount k one) → ((x : ℕ) → given x used ≤ given x xs) → ((k : ℕ) → amount k cs ≡ amount k one + amount k other) → (i : Item) → root p i ≤ owned xs cs i
within_bound xs cs p used one other a e g h (Own x) = let u = a x in let k = g x in omega arith
within_bound xs cs p used one other a e g h (Credit k) = let u = e k in let j = h k in omega arith

pub goes_none : (w : World) (d : ℕ) (xs : List ℕ) (cs : List C.Credit) (q : T.Pattern) (t : Tree) (left : List ℕ) (one : List C.Credit) → ((x : ℕ) → root t (Own x) ≡ given x left) → ((k : ℕ) → root t (Credit k) ≡ amount k one) → ((x : ℕ) → given x xs ≡ 0 + given x left) → ((k : ℕ) → amount k one ≡ amount k cs) → GoesOn w d None (owned xs cs) q t
goes_none w d xs cs q t left one a e g h (Own x) = let u = a x in let k = g x in omega arith
goes_none w d xs cs q t left one a e g h (Credit k) = let u = e k in let j = h k in omega arith

pub goes_some : (w : World) (d v : ℕ) (xs : List ℕ) (cs : List C.Credit) (q : T.Pattern) (t : Tree) (left : List ℕ) (one : List C.Credit) → ((x : ℕ) → root t (Own x) ≡ given x left) → ((k : ℕ) → root t (Credit k) ≡ amount k one) → ((x : ℕ) → given x left + given x (v ∷ []) ≡ given x xs + given x (numbers w d (binders q))) → ((k : ℕ) → amount k one ≡ amount k cs + nodes k q) → GoesOn w d (Some v) (owned xs cs) q t
goes_some w d v xs cs q t left one a e g h (Own x) = let u = a x in let k = g x in omega arith
goes_some w d v xs cs q t left one a e g h (Credit k) = let u = e k in let j = h k in omega arith

-- the other way round

pub bound_split : (w : World) (d : ℕ) (bs : List Binder) (xs : List ℕ) (cs : List C.Credit) (p q : Tree) (used left : List ℕ) (one other : List C.Credit) → ((x : ℕ) → root p (Own x) ≡ given x used) → ((x : ℕ) → root q (Own x) ≡ given x left) → ((k : ℕ) → root p (Credit k) ≡ amount k one) → ((k : ℕ) → root q (Credit k) ≡ amount k other) → ((i : Item) → owned xs cs i + bound w d bs i ≡ root p i + root q i) → ((x : ℕ) → given x xs + given x (numbers w d bs) ≡ given x used + given x left) × ((k : ℕ) → amount k cs ≡ amount k one + amount k other)
bound_split w d bs xs cs p q used left one other a b e f g = (λ x. (let u = a x in let v = b x in let k = g (Own x) in omega arith), λ k. (let u = e k in let v = f k in let j = g (Credit k) in omega arith))

pub none_goes : (w : World) (d : ℕ) (xs : List ℕ) (cs : List C.Credit) (q : T.Pattern) (t : Tree) (left : List ℕ) (one : List C.Credit) → ((x : ℕ) → root t (Own x) ≡ given x left) → ((k : ℕ) → root t (Credit k) ≡ amount k one) → GoesOn w d None (owned xs cs) q t → ((x : ℕ) → given x xs ≡ 0 + given x left) × ((k : ℕ) → amount k one ≡ amount k cs)
none_goes w d xs cs q t left one a e g = (λ x. (let u = a x in let k = g (Own x) in omega arith), λ k. (let u = e k in let j = g (Credit k) in omega arith))

pub some_goes : (w : World) (d v : ℕ) (xs : List ℕ) (cs : List C.Credit) (q : T.Pattern) (t : Tree) (left : List ℕ) (one : List C.Credit) → ((x : ℕ) → root t (Own x) ≡ given x left) → ((k : ℕ) → root t (Credit k) ≡ amount k one) → GoesOn w d (Some v) (owned xs cs) q t → ((x : ℕ) → given x left + given x (v ∷ []) ≡ given x xs + given x (numbers w d (binders q))) × ((k : ℕ) → amount k one ≡ amount k cs + nodes k q)
some_goes w d v xs cs q t left one a e g = (λ x. (let u = a x in let k = g (Own x) in omega arith), λ k. (let u = e k in let j = g (Credit k) in omega arith))

pub argument_variable : (x : Option ℕ) (n : T.Name) (q : Place) → V.argument (AV.Variable x n q) ≡ T.Variable x n q
argument_variable x n q = ap V.argument (sym (AV.rolls-Variable x n q)) ∙ fold-roll-Argument T.Argument V.argument_step (AO.Variable x n q)

pub matches_taking : (w : World) (s : Scope) (d : ℕ) (a : T.Argument) (P : Option ℕ → (Item → ℕ) → Trees → Type 0) (t : Tree) → Matches w s d true a P t → (k : ℕ) × (xs : List ℕ) × (cs : List C.Credit) × (ts : Trees) × IsTaking w s d a t k xs cs ts × P (Some k) (owned xs cs) ts
matches_taking w s d (T.Variable x n p) P t h = by (meant s.variables x) h
  where
    by : (o : Option Known) → Scrutinised w d o P t → (k : ℕ) × (xs : List ℕ) × (cs : List C.Credit) × (ts : Trees) × TakenNode w d o t k xs cs ts × P (Some k) (owned xs cs) ts
    by None h = absurd h
    by (Some v) h = (v.number, h.1.0, h.1.1, h.1.2, (h.0, refl, h.1.3, h.1.4), h.1.5)
matches_taking w s d (T.Literal i p) P t h = absurd h
matches_taking w s d (T.Constructor u e c n p as') P t h = absurd h

pub matches_lending : (w : World) (s : Scope) (d : ℕ) (a : T.Argument) (P : Option ℕ → (Item → ℕ) → Trees → Type 0) (t : Tree) → Matches w s d false a P t → (xs : List ℕ) × (cs : List C.Credit) × (ts : Trees) × IsLending w s d a t xs cs ts × P None (owned xs cs) ts
matches_lending w s d a P t h = (h.1.0, h.1.1, h.1.2, (h.0, h.1.3), h.1.4)

pub taking_matches : (w : World) (s : Scope) (d : ℕ) (a : T.Argument) (P : Option ℕ → (Item → ℕ) → Trees → Type 0) (t : Tree) (k : ℕ) (xs : List ℕ) (cs : List C.Credit) (ts : Trees) → IsTaking w s d a t k xs cs ts → P (Some k) (owned xs cs) ts → Matches w s d true a P t
taking_matches w s d (T.Variable x n p) P t k xs cs ts h g = by (meant s.variables x) h g
  where
    by : (o : Option Known) → TakenNode w d o t k xs cs ts → P (Some k) (owned xs cs) ts → Scrutinised w d o P t
    by None h g = absurd h
    by (Some v) h g = (h.0, (xs, cs, ts, h.2, subst (λ j. given j xs ≡ 1) (sym h.1) h.3, subst (λ j. P (Some j) (owned xs cs) ts) (sym h.1) g))
taking_matches w s d (T.Literal i p) P t k xs cs ts h g = absurd h
taking_matches w s d (T.Constructor u e c n p as') P t k xs cs ts h g = absurd h

pub lending_matches : (w : World) (s : Scope) (d : ℕ) (a : T.Argument) (P : Option ℕ → (Item → ℕ) → Trees → Type 0) (t : Tree) (xs : List ℕ) (cs : List C.Credit) (ts : Trees) → IsLending w s d a t xs cs ts → P None (owned xs cs) ts → Matches w s d false a P t
lending_matches w s d a P t xs cs ts h g = (h.0, (xs, cs, ts, h.1, g))

pub ruleset in_clauses = (fits_in_clause, scope_in_clause)

pub ruleset in_block = (fits_in_bindings, scope_in_bindings)

pub ruleset in_let = (fits_in_bound, scope_in_bound)
