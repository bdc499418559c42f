-- Blocks and clauses, one part after another.
use Rattle.std.proofs.Common.{◌≡◌, ℕ, zero, suc, ◌<◌, ◌≤◌, ◌+◌, ◌-◌, refl, sym, ap, ◌∙◌, subst, List, [], ◌∷◌, ◌++◌, length, get_or, take, drop, map, Option, Some, None, Bool, true, false, Box, Vec, Global, arith}
use Rattle.std.specs.Prelude.{slice_get, IsSomeAnd, IfSome, IfNone}
use Rattle.fip_trees.specs.fip_language.declared.Place.{Place}
use Rattle.fip_base.specs.declared.core_form.MatchKind.{MatchKind}
use Rattle.fip_trees.specs.declared.program.Binder.{Binder}
use Rattle.fip_trees.specs.declared.program.Binding as N
use Rattle.fip_trees.specs.declared.program.Clause as L
use Rattle.fip_trees.specs.declared.program.Argument as A
use Rattle.fip_trees.specs.declared.program.Expression as E
use Rattle.fip_trees.specs.declared.program.Expression.TheVariants as EV
use Rattle.fip_trees.proofs.TreeViews.{expression_match}
use Rattle.fip_trees.specs.Tree as T
use Rattle.fip_trees.specs.TreeView.{BoundPart, Case, block_of}
use Rattle.fip_trees.specs.TreeView as V
use Rattle.fip_rules.specs.World.{World, is_fip}
use Rattle.fip_rules.specs.Shapes.{binders, takes}
use Rattle.ownership_calculus.specs.Terms.{Item}
use Rattle.derivation_trees.specs.declared.derivation.Credit as C
use Rattle.derivation_trees.specs.declared.derivation.Node.{Node}
use Rattle.derivation_trees.specs.Trees.{Tree, Missing, Branch, Trees, NoTrees, MoreTrees}
use Rattle.derivation_trees.specs.declared.derivation.RuleName.TheVariants as R
use Rattle.derivation_check.specs.Owned.{owned, root, Rising, IsOwned, Under}
use Rattle.derivation_check.specs.Places.{at, parts, node_with, following}
use Rattle.derivation_check.specs.Scopes.{Scope, binding, lending, AreNumbered, within, within_block, within_clauses}
use Rattle.derivation_check.specs.ScopeView.{bindings, AreBindings}
use Rattle.derivation_check.specs.Calculus.{bound, own_variables, is_taken, IsClause, GoesOn, Matches, Derives, DerivesBlock, DerivesClauses}
use Rattle.derivation_check.specs.Heads.{IsTaking, IsLending, AllClauses}
use Rattle.derivation_check.proofs.Inside.{split_bound, within_bound, taking_matches, lending_matches, matches_taking, matches_lending}
use Rattle.derivation_check.proofs.Weakened.{variables_same, credits_same, parts_same}
use Rattle.derivation_check.proofs.Numbers.{drop_item, drop_end, rising_more}
use Rattle.derivation_check.proofs.Rows.{row_first, row_none}
use Rattle.fip_base.proofs.fip_language.Facts.{map_append as map_more, take_past}
use Rattle.derivation_check.proofs.Weakened.{more_first as trees_first}

-- ---- one binding more

take_more : {A : Type 0} (xs : List A) (i : ℕ) (x z : A) → i < length xs → x ≡ get_or xs i z → take (i + 1) xs ≡ take i xs ++ x ∷ []
take_more {A} xs i x z l e = let s : suc i ≡ i + 1 = omega arith in sym (ap (λ k. take k xs) s) ∙ of xs i l e
  where
    of : (xs : List A) (i : ℕ) → i < length xs → x ≡ get_or xs i z → take (suc i) xs ≡ take i xs ++ x ∷ []
    of [] i l e = absurd (omega arith)
    of (y ∷ ys) zero l e = ap (λ (v : A). v ∷ []) (sym e)
    of (y ∷ ys) (suc i) l e = ap (λ (zs : List A). y ∷ zs) (of ys i (omega arith) e)

-- how many binders are in some bindings
abbrev pub total : List BoundPart → ℕ
total [] = 0
total (b ∷ bs) = within b.bound + length b.binders + total bs

bindings_more : (d n : ℕ) (bs : List BoundPart) (b : BoundPart) (s : Scope) → n ≡ total bs → bindings d (bs ++ b ∷ []) s ≡ binding (d + n) true b.binders (bindings d bs s)
bindings_more d n [] b s e = let f : d ≡ d + n = omega arith in ap (λ k. binding k true b.binders s) f
bindings_more d n (a ∷ bs) b s e =
    let f : d + within a.bound + length a.binders + total bs ≡ d + n = omega arith in
    bindings_more (d + within a.bound + length a.binders) (total bs) bs b (binding d true a.binders s) refl ∙ ap (λ k. binding k true b.binders (bindings (d + within a.bound + length a.binders) bs (binding d true a.binders s))) f

are_more : (c d n : ℕ) (bs : List BoundPart) (b : BoundPart) → AreBindings c d bs → n ≡ total bs → 0 < length b.binders → AreNumbered (c + n + within b.bound) (d + n) b.binders → d + n + within b.bound + length b.binders ≤ 4294967296 → AreBindings c d (bs ++ b ∷ [])
are_more c d n [] b h e l a r =
    let f : c + n ≡ c = omega arith in
    let g : d + n ≡ d = omega arith in
    (l, subst (λ k. AreNumbered (k + within b.bound) d b.binders) f (subst (λ k. AreNumbered (c + n + within b.bound) k b.binders) g a), omega arith, _)
are_more c d n (x ∷ bs) b h e l a r =
    let m = within x.bound + length x.binders in
    let f : c + n ≡ c + within x.bound + length x.binders + total bs = omega arith in
    let g : d + n ≡ d + within x.bound + length x.binders + total bs = omega arith in
    (h.0, h.1, h.2, are_more (c + within x.bound + length x.binders) (d + within x.bound + length x.binders) (total bs) bs b h.3 refl l (subst (λ k. AreNumbered (k + within b.bound) (d + within x.bound + length x.binders + total bs) b.binders) f (subst (λ k. AreNumbered (c + n + within b.bound) k b.binders) g a)) (omega arith))

total_more : (bs : List BoundPart) (b : BoundPart) → total (bs ++ b ∷ []) ≡ total bs + (within b.bound + length b.binders)
total_more [] b = omega arith
total_more (a ∷ bs) b = let h = total_more bs b in omega arith

within_from : (bs : List BoundPart) (e : T.Expression) → within_block (block_of bs e) ≡ total bs + within e
within_from [] e = omega arith
within_from (b ∷ bs) e = let h = within_from bs e in omega arith

-- where a walk through the bindings of a block is
pub record BlockAt (w : World) (s : Scope) (c d : ℕ) (ns : List Node) (first : ℕ) (bs : List N.Binding) (last : T.Expression) (count place i : ℕ) : Type 0 where
  pub room : d + count ≤ 4294967296
  pub counted : count ≡ total (map V.binding (take i bs))
  pub numbered : AreBindings c d (map V.binding (take i bs))
  pub owned : IsOwned (d + count) (at ns place)
  pub up : DerivesBlock w (bindings d (map V.binding (take i bs)) s) (c + count) (d + count) (at ns place) (block_of (map V.binding (drop i bs)) last) → DerivesBlock w s c d (at ns first) (block_of (map V.binding bs) last)
  pub down : DerivesBlock w s c d (at ns first) (block_of (map V.binding bs) last) → DerivesBlock w (bindings d (map V.binding (take i bs)) s) (c + count) (d + count) (at ns place) (block_of (map V.binding (drop i bs)) last)

take_zero : {A : Type 0} (xs : List A) → take 0 xs ≡ []
take_zero [] = refl
take_zero (x ∷ xs) = refl

drop_zero : {A : Type 0} (xs : List A) → drop 0 xs ≡ xs
drop_zero [] = refl
drop_zero (x ∷ xs) = refl

pub block_start : (w : World) (s : Scope) (c d : ℕ) (ns : List Node) (first : ℕ) (bs : List N.Binding) (last : T.Expression) → d ≤ 4294967296 → IsOwned d (at ns first) → BlockAt w s c d ns first bs last 0 first 0
block_start w s c d ns first bs last r o =
    let a : c + 0 ≡ c = omega arith in
    let b : d + 0 ≡ d = omega arith in
    record {
      room = omega arith;
      counted = sym (ap (λ xs. total (map V.binding xs)) (take_zero bs));
      numbered = subst (λ xs. AreBindings c d (map V.binding xs)) (sym (take_zero bs)) _;
      owned = subst (λ k. IsOwned k (at ns first)) (sym b) o;
      up = λ h. subst (λ xs. DerivesBlock w s c d (at ns first) (block_of (map V.binding xs) last)) (drop_zero bs) (subst (λ xs. DerivesBlock w (bindings d (map V.binding xs) s) c d (at ns first) (block_of (map V.binding (drop 0 bs)) last)) (take_zero bs) (subst (λ k. DerivesBlock w (bindings d (map V.binding (take 0 bs)) s) k d (at ns first) (block_of (map V.binding (drop 0 bs)) last)) a (subst (λ k. DerivesBlock w (bindings d (map V.binding (take 0 bs)) s) (c + 0) k (at ns first) (block_of (map V.binding (drop 0 bs)) last)) b h)));
      down = λ h. subst (λ k. DerivesBlock w (bindings d (map V.binding (take 0 bs)) s) (c + 0) k (at ns first) (block_of (map V.binding (drop 0 bs)) last)) (sym b) (subst (λ k. DerivesBlock w (bindings d (map V.binding (take 0 bs)) s) k d (at ns first) (block_of (map V.binding (drop 0 bs)) last)) (sym a) (subst (λ xs. DerivesBlock w (bindings d (map V.binding xs) s) c d (at ns first) (block_of (map V.binding (drop 0 bs)) last)) (sym (take_zero bs)) (subst (λ xs. DerivesBlock w s c d (at ns first) (block_of (map V.binding xs) last)) (sym (drop_zero bs)) h)));
    }

-- the binding at a place, with the rest of the block
pub block_here : (w : World) (s t : Scope) (c d : ℕ) (ns : List Node) (first : ℕ) (bs : List N.Binding) (last : T.Expression) (count place i : ℕ) (b : N.Binding) → BlockAt w s c d ns first bs last count place i → i < length bs → b ≡ get_or bs i b → t ≡ bindings d (map V.binding (take i bs)) s → DerivesBlock w s c d (at ns first) (block_of (map V.binding bs) last) → DerivesBlock w t (c + count) (d + count) (at ns place) (T.Let (V.binding b).binders (V.binding b).bound (block_of (map V.binding (drop (i + 1) bs)) last))
block_here w s t c d ns first bs last count place i b h l e q g = subst (λ u. DerivesBlock w u (c + count) (d + count) (at ns place) (T.Let (V.binding b).binders (V.binding b).bound (block_of (map V.binding (drop (i + 1) bs)) last))) (sym q) (subst (λ xs. DerivesBlock w (bindings d (map V.binding (take i bs)) s) (c + count) (d + count) (at ns place) (block_of (map V.binding xs) last)) (drop_item bs i b b l e) (h.down g))

pub block_step : (w : World) (s t : Scope) (c d : ℕ) (ns : List Node) (first : ℕ) (bs : List N.Binding) (last : T.Expression) (count place i more next : ℕ) (b : N.Binding) → BlockAt w s c d ns first bs last count place i → i < length bs → b ≡ get_or bs i b → t ≡ bindings d (map V.binding (take i bs)) s → more ≡ within (V.binding b).bound + length (V.binding b).binders → d + count + more ≤ 4294967296 → 0 < length (V.binding b).binders → AreNumbered (c + count + within (V.binding b).bound) (d + count) (V.binding b).binders → IsOwned (d + count + more) (at ns next) → ((rest : T.Block) → DerivesBlock w (binding (d + count) true (V.binding b).binders t) (c + count + more) (d + count + more) (at ns next) rest → DerivesBlock w t (c + count) (d + count) (at ns place) (T.Let (V.binding b).binders (V.binding b).bound rest)) → ((rest : T.Block) → DerivesBlock w t (c + count) (d + count) (at ns place) (T.Let (V.binding b).binders (V.binding b).bound rest) → DerivesBlock w (binding (d + count) true (V.binding b).binders t) (c + count + more) (d + count + more) (at ns next) rest) → BlockAt w s c d ns first bs last (count + more) next (i + 1)
block_step w s t c d ns first bs last count place i more next b h l e q m r z a o f j =
    let x : d + count + more ≡ d + (count + more) = omega arith in
    let y : c + count + more ≡ c + (count + more) = omega arith in
    let k : map V.binding (take (i + 1) bs) ≡ map V.binding (take i bs) ++ V.binding b ∷ [] = ap (map V.binding) (take_more bs i b b l e) ∙ map_more V.binding (take i bs) (b ∷ []) in
    record {
      room = omega arith;
      counted = let g = total_more (map V.binding (take i bs)) (V.binding b) in let u = ap total k in let v = h.counted in omega arith;
      numbered = subst (AreBindings c d) (sym k) (are_more c d count (map V.binding (take i bs)) (V.binding b) h.numbered h.counted z a (omega arith));
      owned = subst (λ n. IsOwned n (at ns next)) x o;
      up = λ g. h.up (subst (λ xs. DerivesBlock w (bindings d (map V.binding (take i bs)) s) (c + count) (d + count) (at ns place) (block_of (map V.binding xs) last)) (sym (drop_item bs i b b l e)) (subst (λ u. DerivesBlock w u (c + count) (d + count) (at ns place) (T.Let (V.binding b).binders (V.binding b).bound (block_of (map V.binding (drop (i + 1) bs)) last))) q (f (block_of (map V.binding (drop (i + 1) bs)) last) (subst (λ u. DerivesBlock w (binding (d + count) true (V.binding b).binders u) (c + count + more) (d + count + more) (at ns next) (block_of (map V.binding (drop (i + 1) bs)) last)) (sym q) (subst (λ u. DerivesBlock w u (c + count + more) (d + count + more) (at ns next) (block_of (map V.binding (drop (i + 1) bs)) last)) (ap (λ xs. bindings d xs s) k ∙ bindings_more d count (map V.binding (take i bs)) (V.binding b) s h.counted) (subst (λ n. DerivesBlock w (bindings d (map V.binding (take (i + 1) bs)) s) n (d + count + more) (at ns next) (block_of (map V.binding (drop (i + 1) bs)) last)) (sym y) (subst (λ n. DerivesBlock w (bindings d (map V.binding (take (i + 1) bs)) s) (c + (count + more)) n (at ns next) (block_of (map V.binding (drop (i + 1) bs)) last)) (sym x) g)))))));
      down = λ g. subst (λ n. DerivesBlock w (bindings d (map V.binding (take (i + 1) bs)) s) (c + (count + more)) n (at ns next) (block_of (map V.binding (drop (i + 1) bs)) last)) x (subst (λ n. DerivesBlock w (bindings d (map V.binding (take (i + 1) bs)) s) n (d + count + more) (at ns next) (block_of (map V.binding (drop (i + 1) bs)) last)) y (subst (λ u. DerivesBlock w u (c + count + more) (d + count + more) (at ns next) (block_of (map V.binding (drop (i + 1) bs)) last)) (sym (ap (λ xs. bindings d xs s) k ∙ bindings_more d count (map V.binding (take i bs)) (V.binding b) s h.counted)) (subst (λ u. DerivesBlock w (binding (d + count) true (V.binding b).binders u) (c + count + more) (d + count + more) (at ns next) (block_of (map V.binding (drop (i + 1) bs)) last)) q (j (block_of (map V.binding (drop (i + 1) bs)) last) (block_here w s t c d ns first bs last count place i b h l e q g)))));
    }

pub block_end : (w : World) (s t : Scope) (c d : ℕ) (ns : List Node) (first : ℕ) (bs : List N.Binding) (last : T.Expression) (count place i more : ℕ) (k : T.Block) → BlockAt w s c d ns first bs last count place i → length bs ≤ i → t ≡ bindings d (map V.binding bs) s → k ≡ block_of (map V.binding bs) last → more ≡ within last → DerivesBlock w t (c + count) (d + count) (at ns place) (T.Last last) → (count + more ≡ within_block k) × DerivesBlock w s c d (at ns first) k
block_end w s t c d ns first bs last count place i more k h l q e m g = (
  let a = ap (λ xs. total (map V.binding xs)) (take_past bs i l) in let b = within_from (map V.binding bs) last in let v = h.counted in let u = ap within_block e in omega arith,
  subst (DerivesBlock w s c d (at ns first)) (sym e) (h.up (subst (λ xs. DerivesBlock w (bindings d (map V.binding xs) s) (c + count) (d + count) (at ns place) (block_of (map V.binding (drop i bs)) last)) (sym (take_past bs i l)) (subst (λ xs. DerivesBlock w (bindings d (map V.binding bs) s) (c + count) (d + count) (at ns place) (block_of (map V.binding xs) last)) (sym (drop_end bs i l)) (subst (λ u. DerivesBlock w u (c + count) (d + count) (at ns place) (T.Last last)) q g)))),
)

-- the expression after the bindings
pub block_over : (w : World) (s t : Scope) (c d : ℕ) (ns : List Node) (first : ℕ) (bs : List N.Binding) (last : T.Expression) (count place i : ℕ) (k : T.Block) → BlockAt w s c d ns first bs last count place i → length bs ≤ i → t ≡ bindings d (map V.binding bs) s → k ≡ block_of (map V.binding bs) last → DerivesBlock w s c d (at ns first) k → Derives w t (c + count) (d + count) (at ns place) last
block_over w s t c d ns first bs last count place i k h l q e g =
    subst (λ u. Derives w u (c + count) (d + count) (at ns place) last) (sym q) (subst (λ xs. DerivesBlock w (bindings d (map V.binding bs) s) (c + count) (d + count) (at ns place) (block_of (map V.binding xs) last)) (drop_end bs i l) (subst (λ xs. DerivesBlock w (bindings d (map V.binding xs) s) (c + count) (d + count) (at ns place) (block_of (map V.binding (drop i bs)) last)) (take_past bs i l) (h.down (subst (DerivesBlock w s c d (at ns first)) e g))))

pub all_numbered : (w : World) (s : Scope) (c d : ℕ) (ns : List Node) (first : ℕ) (bs : List N.Binding) (last : T.Expression) (count place i : ℕ) → BlockAt w s c d ns first bs last count place i → length bs ≤ i → AreBindings c d (map V.binding bs)
all_numbered w s c d ns first bs last count place i h l = subst (λ xs. AreBindings c d (map V.binding xs)) (take_past bs i l) h.numbered

-- ---- clauses

pub record ClausesAt (w : World) (s : Scope) (c d : ℕ) (x : Option ℕ) (have : Item → ℕ) (ns : List Node) (first all : ℕ) (cs : List L.Clause) (count place left i : ℕ) : Type 0 where
  pub room : d + count ≤ 4294967296
  pub counted : count + within_clauses (V.clauses (drop i cs)) ≡ within_clauses (V.clauses cs)
  pub up : DerivesClauses w s (c + count) (d + count) x have (parts ns place left) (V.clauses (drop i cs)) → DerivesClauses w s c d x have (parts ns first all) (V.clauses cs)
  pub down : DerivesClauses w s c d x have (parts ns first all) (V.clauses cs) → DerivesClauses w s (c + count) (d + count) x have (parts ns place left) (V.clauses (drop i cs))

pub clauses_start : (w : World) (s : Scope) (c d : ℕ) (x : Option ℕ) (have : Item → ℕ) (ns : List Node) (first all : ℕ) (cs : List L.Clause) → d ≤ 4294967296 → ClausesAt w s c d x have ns first all cs 0 first all 0
clauses_start w s c d x have ns first all cs r =
    let a : c + 0 ≡ c = omega arith in
    let b : d + 0 ≡ d = omega arith in
    record {
      room = omega arith;
      counted = let e = ap (λ xs. within_clauses (V.clauses xs)) (drop_zero cs) in omega arith;
      up = λ h. subst (λ xs. DerivesClauses w s c d x have (parts ns first all) (V.clauses xs)) (drop_zero cs) (subst (λ k. DerivesClauses w s k d x have (parts ns first all) (V.clauses (drop 0 cs))) a (subst (λ k. DerivesClauses w s (c + 0) k x have (parts ns first all) (V.clauses (drop 0 cs))) b h));
      down = λ h. subst (λ k. DerivesClauses w s (c + 0) k x have (parts ns first all) (V.clauses (drop 0 cs))) (sym b) (subst (λ k. DerivesClauses w s k d x have (parts ns first all) (V.clauses (drop 0 cs))) (sym a) (subst (λ xs. DerivesClauses w s c d x have (parts ns first all) (V.clauses xs)) (sym (drop_zero cs)) h));
    }

-- the clause at a place, and those after it
pub clauses_here : (w : World) (s : Scope) (c d : ℕ) (x : Option ℕ) (have : Item → ℕ) (ns : List Node) (first all : ℕ) (cs : List L.Clause) (count place left i next : ℕ) (k : L.Clause) → ClausesAt w s c d x have ns first all cs count place left i → i < length cs → k ≡ get_or cs i k → 0 < left → parts ns next (left - 1) ≡ parts ns (following ns place) (left - 1) → DerivesClauses w s c d x have (parts ns first all) (V.clauses cs) → IsClause w (c + count) (d + count) x have (at ns place) (V.clause k).pattern (DerivesBlock w (binding (d + count) (is_taken x) (binders (V.clause k).pattern) s) (c + count + length (binders (V.clause k).pattern)) (d + count + length (binders (V.clause k).pattern)) (at ns place) (V.clause k).body) × DerivesClauses w s (c + count + length (binders (V.clause k).pattern) + within_block (V.clause k).body) (d + count + length (binders (V.clause k).pattern) + within_block (V.clause k).body) x have (parts ns next (left - 1)) (V.clauses (drop (i + 1) cs))
clauses_here w s c d x have ns first all cs count place left i next k h l e z p g = subst (λ xs. DerivesClauses w s (c + count) (d + count) x have (MoreTrees (at ns place) (parts ns next (left - 1))) (V.clauses xs)) (drop_item cs i k k l e) (subst (λ ts. DerivesClauses w s (c + count) (d + count) x have ts (V.clauses (drop i cs))) (row_first ns place next left z p) (h.down g))

pub clauses_short : (w : World) (s : Scope) (c d : ℕ) (x : Option ℕ) (have : Item → ℕ) (ns : List Node) (first all : ℕ) (cs : List L.Clause) (count place left i : ℕ) (k : L.Clause) → ClausesAt w s c d x have ns first all cs count place left i → i < length cs → k ≡ get_or cs i k → left ≡ 0 → DerivesClauses w s c d x have (parts ns first all) (V.clauses cs) → ⊥
clauses_short w s c d x have ns first all cs count place left i k h l e z g = subst (λ xs. DerivesClauses w s (c + count) (d + count) x have NoTrees (V.clauses xs)) (drop_item cs i k k l e) (subst (λ ts. DerivesClauses w s (c + count) (d + count) x have ts (V.clauses (drop i cs))) (row_none ns place left (omega arith)) (h.down g))

pub clauses_long : (w : World) (s : Scope) (c d : ℕ) (x : Option ℕ) (have : Item → ℕ) (ns : List Node) (first all : ℕ) (cs : List L.Clause) (count place left i : ℕ) → ClausesAt w s c d x have ns first all cs count place left i → length cs ≤ i → 0 < left → DerivesClauses w s c d x have (parts ns first all) (V.clauses cs) → ⊥
clauses_long w s c d x have ns first all cs count place left i h l z g = subst (λ ts. DerivesClauses w s (c + count) (d + count) x have ts T.NoClauses) (row_first ns place (following ns place) left z refl) (subst (λ xs. DerivesClauses w s (c + count) (d + count) x have (parts ns place left) (V.clauses xs)) (drop_end cs i l) (h.down g))

pub clauses_step : (w : World) (s : Scope) (c d : ℕ) (x : Option ℕ) (have : Item → ℕ) (ns : List Node) (first all : ℕ) (cs : List L.Clause) (count place left i more next : ℕ) (k : L.Clause) → ClausesAt w s c d x have ns first all cs count place left i → i < length cs → k ≡ get_or cs i k → 0 < left → parts ns next (left - 1) ≡ parts ns (following ns place) (left - 1) → more ≡ length (binders (V.clause k).pattern) + within_block (V.clause k).body → d + count + more ≤ 4294967296 → IsClause w (c + count) (d + count) x have (at ns place) (V.clause k).pattern (DerivesBlock w (binding (d + count) (is_taken x) (binders (V.clause k).pattern) s) (c + count + length (binders (V.clause k).pattern)) (d + count + length (binders (V.clause k).pattern)) (at ns place) (V.clause k).body) → ClausesAt w s c d x have ns first all cs (count + more) next (left - 1) (i + 1)
clauses_step w s c d x have ns first all cs count place left i more next k h l e z p m r g =
    let v : c + (count + more) ≡ c + count + length (binders (V.clause k).pattern) + within_block (V.clause k).body = omega arith in
    let u : d + (count + more) ≡ d + count + length (binders (V.clause k).pattern) + within_block (V.clause k).body = omega arith in
    record {
      room = omega arith;
      counted = let f = ap (λ xs. within_clauses (V.clauses xs)) (drop_item cs i k k l e) in let j = h.counted in omega arith;
      up = λ f. h.up (subst (λ ts. DerivesClauses w s (c + count) (d + count) x have ts (V.clauses (drop i cs))) (sym (row_first ns place next left z p)) (subst (λ xs. DerivesClauses w s (c + count) (d + count) x have (MoreTrees (at ns place) (parts ns next (left - 1))) (V.clauses xs)) (sym (drop_item cs i k k l e)) (g, subst (λ n. DerivesClauses w s n (d + count + length (binders (V.clause k).pattern) + within_block (V.clause k).body) x have (parts ns next (left - 1)) (V.clauses (drop (i + 1) cs))) v (subst (λ n. DerivesClauses w s (c + (count + more)) n x have (parts ns next (left - 1)) (V.clauses (drop (i + 1) cs))) u f))));
      down = λ f. subst (λ n. DerivesClauses w s (c + (count + more)) n x have (parts ns next (left - 1)) (V.clauses (drop (i + 1) cs))) (sym u) (subst (λ n. DerivesClauses w s n (d + count + length (binders (V.clause k).pattern) + within_block (V.clause k).body) x have (parts ns next (left - 1)) (V.clauses (drop (i + 1) cs))) (sym v) (clauses_here w s c d x have ns first all cs count place left i next k h l e z p f).1);
    }

pub clauses_end : (w : World) (s : Scope) (c d : ℕ) (x : Option ℕ) (have : Item → ℕ) (ns : List Node) (first all : ℕ) (cs : List L.Clause) (count place left i : ℕ) → ClausesAt w s c d x have ns first all cs count place left i → length cs ≤ i → left ≤ 0 → (count ≡ within_clauses (V.clauses cs)) × DerivesClauses w s c d x have (parts ns first all) (V.clauses cs)
clauses_end w s c d x have ns first all cs count place left i h l z = (
  let f = ap (λ xs. within_clauses (V.clauses xs)) (drop_end cs i l) in let j = h.counted in omega arith,
  h.up (subst (λ xs. DerivesClauses w s (c + count) (d + count) x have (parts ns place left) (V.clauses xs)) (sym (drop_end cs i l)) (subst (λ ts. DerivesClauses w s (c + count) (d + count) x have ts T.NoClauses) (sym (row_none ns place left z)) _)),
)

pub match_clauses : (w : World) (s : Scope) (c d : ℕ) (x : Option ℕ) (have : Item → ℕ) (ns : List Node) (i j n one : ℕ) (k : L.Clause) (cs : T.Clauses) → 0 < n → parts ns j (n - 1) ≡ parts ns (following ns i) (n - 1) → one ≡ length (binders (V.clause k).pattern) + within_block (V.clause k).body → IsClause w c d x have (at ns i) (V.clause k).pattern (DerivesBlock w (binding d (is_taken x) (binders (V.clause k).pattern) s) (c + length (binders (V.clause k).pattern)) (d + length (binders (V.clause k).pattern)) (at ns i) (V.clause k).body) → DerivesClauses w s (c + one) (d + one) x have (parts ns j (n - 1)) cs → AllClauses w s c d (V.clause k).pattern (V.clause k).body cs x have (parts ns i n)
match_clauses w s c d x have ns i j n one k cs l p m g h =
    let v : c + one ≡ c + length (binders (V.clause k).pattern) + within_block (V.clause k).body = omega arith in
    let u : d + one ≡ d + length (binders (V.clause k).pattern) + within_block (V.clause k).body = omega arith in
    subst (AllClauses w s c d (V.clause k).pattern (V.clause k).body cs x have) (sym (row_first ns i j n l p)) (g, subst (λ m. DerivesClauses w s m (d + length (binders (V.clause k).pattern) + within_block (V.clause k).body) x have (parts ns j (n - 1)) cs) v (subst (λ m. DerivesClauses w s (c + one) m x have (parts ns j (n - 1)) cs) u h))

-- the first clause and those after it, of a match
pub clauses_match : (w : World) (s : Scope) (c d : ℕ) (x : Option ℕ) (have : Item → ℕ) (ns : List Node) (i j n one : ℕ) (k : L.Clause) (cs : T.Clauses) → 0 < n → parts ns j (n - 1) ≡ parts ns (following ns i) (n - 1) → one ≡ length (binders (V.clause k).pattern) + within_block (V.clause k).body → AllClauses w s c d (V.clause k).pattern (V.clause k).body cs x have (parts ns i n) → DerivesClauses w s (c + one) (d + one) x have (parts ns j (n - 1)) cs
clauses_match w s c d x have ns i j n one k cs l p m g =
    let v : c + one ≡ c + length (binders (V.clause k).pattern) + within_block (V.clause k).body = omega arith in
    let u : d + one ≡ d + length (binders (V.clause k).pattern) + within_block (V.clause k).body = omega arith in
    subst (λ m. DerivesClauses w s (c + one) m x have (parts ns j (n - 1)) cs) (sym u) (subst (λ m. DerivesClauses w s m (d + length (binders (V.clause k).pattern) + within_block (V.clause k).body) x have (parts ns j (n - 1)) cs) (sym v) (subst (AllClauses w s c d (V.clause k).pattern (V.clause k).body cs x have) (row_first ns i j n l p) g).1)

pub clause_match : (w : World) (s : Scope) (c d : ℕ) (x : Option ℕ) (have : Item → ℕ) (ns : List Node) (i n : ℕ) (k : L.Clause) (cs : T.Clauses) → 0 < n → AllClauses w s c d (V.clause k).pattern (V.clause k).body cs x have (parts ns i n) → IsClause w c d x have (at ns i) (V.clause k).pattern (DerivesBlock w (binding d (is_taken x) (binders (V.clause k).pattern) s) (c + length (binders (V.clause k).pattern)) (d + length (binders (V.clause k).pattern)) (at ns i) (V.clause k).body)
clause_match w s c d x have ns i n k cs l g = (subst (AllClauses w s c d (V.clause k).pattern (V.clause k).body cs x have) (row_first ns i (following ns i) n l refl) g).0

pub none_match : (w : World) (s : Scope) (c d : ℕ) (x : Option ℕ) (have : Item → ℕ) (ns : List Node) (i n : ℕ) (q : T.Pattern) (body : T.Block) (cs : T.Clauses) → n ≡ 0 → AllClauses w s c d q body cs x have (parts ns i n) → ⊥
none_match w s c d x have ns i n q body cs e g = subst (AllClauses w s c d q body cs x have) (row_none ns i n (omega arith)) g

-- a clause, whose body is derived within its binders
pub clause_made : (w : World) (s t : Scope) (c d count : ℕ) (x : Option ℕ) (have : Item → ℕ) (u : Tree) (taken : Bool) (k : Case) (q : T.Pattern) (body : T.Block) → k ≡ record { pattern = q; body = body } → count ≡ length (binders q) → AreNumbered c d (binders q) → IsOwned (d + count) u → GoesOn w d x have q u → taken ≡ is_taken x → t ≡ binding d taken (binders q) s → DerivesBlock w t (c + count) (d + count) u body → IsClause w c d x have u k.pattern (DerivesBlock w (binding d (is_taken x) (binders k.pattern) s) (c + length (binders k.pattern)) (d + length (binders k.pattern)) u k.body)
clause_made w s t c d count x have u taken k q body e n a o g i r h =
    subst (λ (m : Case). IsClause w c d x have u m.pattern (DerivesBlock w (binding d (is_taken x) (binders m.pattern) s) (c + length (binders m.pattern)) (d + length (binders m.pattern)) u m.body)) (sym e)
    (a, subst (λ m. IsOwned (d + m) u) n o, g, subst (λ m. DerivesBlock w (binding d m (binders q) s) (c + length (binders q)) (d + length (binders q)) u body) i (subst (λ v. DerivesBlock w v (c + length (binders q)) (d + length (binders q)) u body) r (subst (λ m. DerivesBlock w t (c + m) (d + m) u body) n h)))

pub clause_count : (count more : ℕ) (k : Case) (q : T.Pattern) (body : T.Block) → k ≡ record { pattern = q; body = body } → count ≡ length (binders q) → more ≡ within_block body → count + more ≡ length (binders k.pattern) + within_block k.body
clause_count count more k q body e a b = let f = ap (λ (m : Case). length (binders m.pattern) + within_block m.body) e in omega arith

-- ---- matches

some_node : (w : World) (s : Scope) (c d : ℕ) (t : Tree) (a : T.Argument) (q : T.Pattern) (body : T.Block) (cs : T.Clauses) (o : Option ℕ) (xs : List ℕ) (es : List C.Credit) (ts : Trees) → IsSomeAnd o (λ k. IsTaking w s d a t k xs es ts) → AllClauses w s c d q body cs o (owned xs es) ts → Matches w s d true a (AllClauses w s c d q body cs) t
some_node w s c d t a q body cs None xs es ts h g = absurd h
some_node w s c d t a q body cs (Some k) xs es ts h g = taking_matches w s d a (AllClauses w s c d q body cs) t k xs es ts h g

pub match_taking : (w : World) (s : Scope) (c d : ℕ) (t : Tree) (e : E.Expression) (m : MatchKind) (u : ℕ) (p : Place) (a : A.Argument) (b : Box L.Clause Global) (v : Vec L.Clause Global) (k : L.Clause) (cs : List L.Clause) (o : Option ℕ) (xs : List ℕ) (es : List C.Credit) (ts : Trees) → e ≡ EV.Match m u p a b v → takes w (V.is_destructive m) u ≡ true → k ≡ b.value → cs ≡ v.items → IsSomeAnd o (λ n. IsTaking w s d (V.argument a) t n xs es ts) → AllClauses w s c d (V.clause k).pattern (V.clause k).body (V.clauses cs) o (owned xs es) ts → Derives w s c d t (V.expression e)
match_taking w s c d t e m u p a b v k cs o xs es ts i n f g h l =
    let l1 = subst (λ (z : L.Clause). AllClauses w s c d (V.clause z).pattern (V.clause z).body (V.clauses cs) o (owned xs es) ts) f l in
    let l2 = subst (λ zs. AllClauses w s c d (V.clause b.value).pattern (V.clause b.value).body (V.clauses zs) o (owned xs es) ts) g l1 in
    subst (Derives w s c d t) (sym (ap V.expression i ∙ expression_match m u p a b v))
    (subst (λ r. Matches w s d r (V.argument a) (AllClauses w s c d (V.clause b.value).pattern (V.clause b.value).body (V.clauses v.items)) t) (sym n)
    (some_node w s c d t (V.argument a) (V.clause b.value).pattern (V.clause b.value).body (V.clauses v.items) o xs es ts h l2))

pub match_lending : (w : World) (s : Scope) (c d : ℕ) (t : Tree) (e : E.Expression) (m : MatchKind) (u : ℕ) (p : Place) (a : A.Argument) (b : Box L.Clause Global) (v : Vec L.Clause Global) (k : L.Clause) (cs : List L.Clause) (o : Option ℕ) (xs : List ℕ) (es : List C.Credit) (ts : Trees) → e ≡ EV.Match m u p a b v → takes w (V.is_destructive m) u ≡ false → k ≡ b.value → cs ≡ v.items → o ≡ None → IsLending w s d (V.argument a) t xs es ts → AllClauses w s c d (V.clause k).pattern (V.clause k).body (V.clauses cs) o (owned xs es) ts → Derives w s c d t (V.expression e)
match_lending w s c d t e m u p a b v k cs o xs es ts i n f g z h l =
    let l1 = subst (λ (z : L.Clause). AllClauses w s c d (V.clause z).pattern (V.clause z).body (V.clauses cs) o (owned xs es) ts) f l in
    let l2 = subst (λ zs. AllClauses w s c d (V.clause b.value).pattern (V.clause b.value).body (V.clauses zs) o (owned xs es) ts) g l1 in
    let l3 = subst (λ y. AllClauses w s c d (V.clause b.value).pattern (V.clause b.value).body (V.clauses v.items) y (owned xs es) ts) z l2 in
    subst (Derives w s c d t) (sym (ap V.expression i ∙ expression_match m u p a b v))
    (subst (λ r. Matches w s d r (V.argument a) (AllClauses w s c d (V.clause b.value).pattern (V.clause b.value).body (V.clauses v.items)) t) (sym n)
    (lending_matches w s d (V.argument a) (AllClauses w s c d (V.clause b.value).pattern (V.clause b.value).body (V.clauses v.items)) t xs es ts h l3))

pub match_count : (e : E.Expression) (m : MatchKind) (u : ℕ) (p : Place) (a : A.Argument) (b : Box L.Clause Global) (v : Vec L.Clause Global) (k : L.Clause) (cs : List L.Clause) (n : ℕ) → e ≡ EV.Match m u p a b v → k ≡ b.value → cs ≡ v.items → n ≡ length (binders (V.clause k).pattern) + within_block (V.clause k).body + within_clauses (V.clauses cs) → n ≡ within (V.expression e)
match_count e m u p a b v k cs n i f g h =
    h ∙ ap (λ (z : L.Clause). length (binders (V.clause z).pattern) + within_block (V.clause z).body + within_clauses (V.clauses cs)) f
    ∙ ap (λ zs. length (binders (V.clause b.value).pattern) + within_block (V.clause b.value).body + within_clauses (V.clauses zs)) g
    ∙ sym (ap within (ap V.expression i ∙ expression_match m u p a b v))

pub match_whole : (w : World) (s : Scope) (c d : ℕ) (t : Tree) (e : E.Expression) (m : MatchKind) (u : ℕ) (p : Place) (a : A.Argument) (b : Box L.Clause Global) (v : Vec L.Clause Global) (k : L.Clause) (cs : List L.Clause) (o : Option ℕ) (xs : List ℕ) (es : List C.Credit) (ns : List Node) (i j n one : ℕ) (r : Bool) → e ≡ EV.Match m u p a b v → r ≡ takes w (V.is_destructive m) u → (r ≡ true → IsSomeAnd o (λ x. IsTaking w s d (V.argument a) t x xs es (parts ns i n))) → (r ≡ false → (o ≡ None) × IsLending w s d (V.argument a) t xs es (parts ns i n)) → k ≡ b.value → cs ≡ v.items → 0 < n → parts ns j (n - 1) ≡ parts ns (following ns i) (n - 1) → one ≡ length (binders (V.clause k).pattern) + within_block (V.clause k).body → IsClause w c d o (owned xs es) (at ns i) (V.clause k).pattern (DerivesBlock w (binding d (is_taken o) (binders (V.clause k).pattern) s) (c + length (binders (V.clause k).pattern)) (d + length (binders (V.clause k).pattern)) (at ns i) (V.clause k).body) → DerivesClauses w s (c + one) (d + one) o (owned xs es) (parts ns j (n - 1)) (V.clauses cs) → Derives w s c d t (V.expression e)
match_whole w s c d t e m u p a b v k cs o xs es ns i j n one r f g h l x y z q one' g1 g2 =
    by r g h l
  where
    by : (r : Bool) → r ≡ takes w (V.is_destructive m) u → (r ≡ true → IsSomeAnd o (λ x. IsTaking w s d (V.argument a) t x xs es (parts ns i n))) → (r ≡ false → (o ≡ None) × IsLending w s d (V.argument a) t xs es (parts ns i n)) → Derives w s c d t (V.expression e)
    by true g h l = match_taking w s c d t e m u p a b v k cs o xs es (parts ns i n) f (sym g) x y (h refl) (match_clauses w s c d o (owned xs es) ns i j n one k (V.clauses cs) z q one' g1 g2)
    by false g h l = match_lending w s c d t e m u p a b v k cs o xs es (parts ns i n) f (sym g) x y (l refl).0 (l refl).1 (match_clauses w s c d o (owned xs es) ns i j n one k (V.clauses cs) z q one' g1 g2)

-- ---- a match the other way round

match_matches : (w : World) (s : Scope) (c d : ℕ) (t : Tree) (e : E.Expression) (m : MatchKind) (u : ℕ) (p : Place) (a : A.Argument) (b : Box L.Clause Global) (v : Vec L.Clause Global) (r : Bool) → e ≡ EV.Match m u p a b v → r ≡ takes w (V.is_destructive m) u → Derives w s c d t (V.expression e) → Matches w s d r (V.argument a) (AllClauses w s c d (V.clause b.value).pattern (V.clause b.value).body (V.clauses v.items)) t
match_matches w s c d t e m u p a b v r i n h = subst (λ r. Matches w s d r (V.argument a) (AllClauses w s c d (V.clause b.value).pattern (V.clause b.value).body (V.clauses v.items)) t) (sym n) (subst (Derives w s c d t) (ap V.expression i ∙ expression_match m u p a b v) h)

pub match_none : (w : World) (s : Scope) (c d : ℕ) (t : Tree) (e : E.Expression) (m : MatchKind) (u : ℕ) (p : Place) (a : A.Argument) (b : Box L.Clause Global) (v : Vec L.Clause Global) (r : Bool) → e ≡ EV.Match m u p a b v → r ≡ takes w (V.is_destructive m) u → (r ≡ true → (k : ℕ) (xs : List ℕ) (es : List C.Credit) (ts : Trees) → IsTaking w s d (V.argument a) t k xs es ts → ⊥) → (r ≡ false → (xs : List ℕ) (es : List C.Credit) (ts : Trees) → IsLending w s d (V.argument a) t xs es ts → ⊥) → Derives w s c d t (V.expression e) → ⊥
match_none w s c d t e m u p a b v r i n f g h = by r f g (match_matches w s c d t e m u p a b v r i n h)
  where
    by : (r : Bool) → (r ≡ true → (k : ℕ) (xs : List ℕ) (es : List C.Credit) (ts : Trees) → IsTaking w s d (V.argument a) t k xs es ts → ⊥) → (r ≡ false → (xs : List ℕ) (es : List C.Credit) (ts : Trees) → IsLending w s d (V.argument a) t xs es ts → ⊥) → Matches w s d r (V.argument a) (AllClauses w s c d (V.clause b.value).pattern (V.clause b.value).body (V.clauses v.items)) t → ⊥
    by true f g h = let l = matches_taking w s d (V.argument a) (AllClauses w s c d (V.clause b.value).pattern (V.clause b.value).body (V.clauses v.items)) t h in f refl l.0 l.1 l.2 l.3 l.4
    by false f g h = let l = matches_lending w s d (V.argument a) (AllClauses w s c d (V.clause b.value).pattern (V.clause b.value).body (V.clauses v.items)) t h in g refl l.0 l.1 l.2 l.3

-- what the clauses of a match have to be, by its node
pub match_all : (w : World) (s : Scope) (c d : ℕ) (t : Tree) (e : E.Expression) (m : MatchKind) (u : ℕ) (p : Place) (a : A.Argument) (b : Box L.Clause Global) (v : Vec L.Clause Global) (k : L.Clause) (cs : List L.Clause) (o : Option ℕ) (ns : List Node) (i : ℕ) (n : Node) (r : Bool) → e ≡ EV.Match m u p a b v → r ≡ takes w (V.is_destructive m) u → (r ≡ true → (x : ℕ) (xs : List ℕ) (es : List C.Credit) (ts : Trees) → IsTaking w s d (V.argument a) t x xs es ts → (o ≡ Some x) × (node_with ns i n ≡ Branch R.TakingMatch xs es ts)) → (r ≡ false → (xs : List ℕ) (es : List C.Credit) (ts : Trees) → IsLending w s d (V.argument a) t xs es ts → node_with ns i n ≡ Branch R.Match xs es ts) → (r ≡ false → o ≡ None) → k ≡ b.value → cs ≡ v.items → Derives w s c d t (V.expression e) → AllClauses w s c d (V.clause k).pattern (V.clause k).body (V.clauses cs) o (owned n.variables.items n.credits.items) (parts ns i n.parts)
match_all w s c d t e m u p a b v k cs o ns i n r z y f g q k1 k2 h =
    subst (λ (z : L.Clause). AllClauses w s c d (V.clause z).pattern (V.clause z).body (V.clauses cs) o (owned n.variables.items n.credits.items) (parts ns i n.parts)) (sym k1)
    (subst (λ zs. AllClauses w s c d (V.clause b.value).pattern (V.clause b.value).body (V.clauses zs) o (owned n.variables.items n.credits.items) (parts ns i n.parts)) (sym k2) (by r f g q (match_matches w s c d t e m u p a b v r z y h)))
  where
    moved : (o' : Option ℕ) (xs : List ℕ) (es : List C.Credit) (ts : Trees) → o ≡ o' → n.variables.items ≡ xs → n.credits.items ≡ es → parts ns i n.parts ≡ ts → AllClauses w s c d (V.clause b.value).pattern (V.clause b.value).body (V.clauses v.items) o' (owned xs es) ts → AllClauses w s c d (V.clause b.value).pattern (V.clause b.value).body (V.clauses v.items) o (owned n.variables.items n.credits.items) (parts ns i n.parts)
    moved o' xs es ts a1 a2 a3 a4 l =
        subst (λ y. AllClauses w s c d (V.clause b.value).pattern (V.clause b.value).body (V.clauses v.items) y (owned n.variables.items n.credits.items) (parts ns i n.parts)) (sym a1)
        (subst (λ ys. AllClauses w s c d (V.clause b.value).pattern (V.clause b.value).body (V.clauses v.items) o' (owned ys n.credits.items) (parts ns i n.parts)) (sym a2)
        (subst (λ ys. AllClauses w s c d (V.clause b.value).pattern (V.clause b.value).body (V.clauses v.items) o' (owned xs ys) (parts ns i n.parts)) (sym a3)
        (subst (λ us. AllClauses w s c d (V.clause b.value).pattern (V.clause b.value).body (V.clauses v.items) o' (owned xs es) us) (sym a4) l)))

    by : (r : Bool) → (r ≡ true → (x : ℕ) (xs : List ℕ) (es : List C.Credit) (ts : Trees) → IsTaking w s d (V.argument a) t x xs es ts → (o ≡ Some x) × (node_with ns i n ≡ Branch R.TakingMatch xs es ts)) → (r ≡ false → (xs : List ℕ) (es : List C.Credit) (ts : Trees) → IsLending w s d (V.argument a) t xs es ts → node_with ns i n ≡ Branch R.Match xs es ts) → (r ≡ false → o ≡ None) → Matches w s d r (V.argument a) (AllClauses w s c d (V.clause b.value).pattern (V.clause b.value).body (V.clauses v.items)) t → AllClauses w s c d (V.clause b.value).pattern (V.clause b.value).body (V.clauses v.items) o (owned n.variables.items n.credits.items) (parts ns i n.parts)
    by true f g q h =
        let l = matches_taking w s d (V.argument a) (AllClauses w s c d (V.clause b.value).pattern (V.clause b.value).body (V.clauses v.items)) t h in
        let j = f refl l.0 l.1 l.2 l.3 l.4 in
        moved (Some l.0) l.1 l.2 l.3 j.0 (variables_same j.1) (credits_same j.1) (parts_same j.1) l.5
    by false f g q h =
        let l = matches_lending w s d (V.argument a) (AllClauses w s c d (V.clause b.value).pattern (V.clause b.value).body (V.clauses v.items)) t h in
        let j = g refl l.0 l.1 l.2 l.3 in
        moved None l.0 l.1 l.2 (q refl) (variables_same j) (credits_same j) (parts_same j) l.4

-- ---- lets

pub owned_up : (d e : ℕ) (t : Tree) → d ≤ e → IsOwned d t → IsOwned e t
owned_up d e Missing l h = absurd h
owned_up d e (Branch r xs cs ts) l h = (rising_more 0 d e xs l h.0, h.1)

pub let_made : (w : World) (s t : Scope) (c d : ℕ) (u : Tree) (ns : List Node) (n : Node) (j r : ℕ) (b : N.Binding) (bs : List Binder) (e : T.Expression) (used : List ℕ) (rest : T.Block) (count : ℕ) → n.rule ≡ R.Let → Under (is_fip w.kind) d u (node_with ns j n) → n.parts ≡ 2 → (V.binding b).binders ≡ bs → (V.binding b).bound ≡ e → 0 < length bs → AreNumbered (c + count) d bs → IsOwned d (at ns j) → ((i : Item) → root (at ns j) i ≤ owned n.variables.items n.credits.items i) → at ns r ≡ at ns (following ns j) → IsOwned (d + length bs) (at ns r) → ((i : Item) → owned n.variables.items n.credits.items i + bound w d bs i ≡ root (at ns j) i + root (at ns r) i) → t ≡ lending n.variables.items used s → own_variables (at ns j) ≡ used → count ≡ within e → Derives w t c (d + length bs) (at ns j) e → DerivesBlock w (binding d true (V.binding b).binders s) (c + (count + length bs)) (d + (count + length bs)) (at ns r) rest → DerivesBlock w s c d u (T.Let (V.binding b).binders (V.binding b).bound rest)
let_made w s t c d u ns n j r b bs e used rest count rule under two is1 is2 some numbered own within1 at2 own2 split sc used1 cnt body more =
    subst (λ xs. DerivesBlock w s c d u (T.Let xs (V.binding b).bound rest)) (sym is1) (subst (λ f. DerivesBlock w s c d u (T.Let bs f rest)) (sym is2) (
      n.variables.items,
      n.credits.items,
      at ns j,
      at ns (following ns j),
      subst (λ k. Under (is_fip w.kind) d u (Branch R.Let n.variables.items n.credits.items (parts ns j k))) two (subst (λ q. Under (is_fip w.kind) d u (Branch q n.variables.items n.credits.items (parts ns j n.parts))) rule under),
      some,
      subst (λ k. AreNumbered (c + k) d bs) cnt numbered,
      own,
      within1,
      subst (IsOwned (d + length bs)) at2 own2,
      subst (λ v. (i : Item) → owned n.variables.items n.credits.items i + bound w d bs i ≡ root (at ns j) i + root v i) at2 split,
      subst (λ ys. Derives w (lending n.variables.items ys s) c (d + length bs) (at ns j) e) (sym used1) (subst (λ v. Derives w v c (d + length bs) (at ns j) e) sc body),
      subst (λ v. DerivesBlock w (binding d true bs s) (c + within e + length bs) (d + within e + length bs) v rest) at2 (subst (λ xs. DerivesBlock w (binding d true xs s) (c + within e + length bs) (d + within e + length bs) (at ns r) rest) is1 (subst (λ k. DerivesBlock w (binding d true (V.binding b).binders s) k (d + within e + length bs) (at ns r) rest) (let f : c + (count + length bs) ≡ c + within e + length bs = omega arith in f) (subst (λ k. DerivesBlock w (binding d true (V.binding b).binders s) (c + (count + length bs)) k (at ns r) rest) (let f : d + (count + length bs) ≡ d + within e + length bs = omega arith in f) more))),
    ))

-- what the parts of a let are, by its node
pub record LetParts (w : World) (s : Scope) (c d : ℕ) (ns : List Node) (n : Node) (j : ℕ) (bs : List Binder) (e : T.Expression) (rest : T.Block) : Type 0 where
  pub two : n.parts ≡ 2
  pub some : 0 < length bs
  pub numbered : AreNumbered (c + within e) d bs
  pub bound_owned : IsOwned d (at ns j)
  pub rest_owned : IsOwned (d + length bs) (at ns (following ns j))
  pub split : (i : Item) → owned n.variables.items n.credits.items i + bound w d bs i ≡ root (at ns j) i + root (at ns (following ns j)) i
  pub body : Derives w (lending n.variables.items (own_variables (at ns j)) s) c (d + length bs) (at ns j) e
  pub more : DerivesBlock w (binding d true bs s) (c + within e + length bs) (d + within e + length bs) (at ns (following ns j)) rest

trees_rest : {t u : Tree} {ts us : Trees} → MoreTrees t ts ≡ MoreTrees u us → ts ≡ us
trees_rest e = cc

two_parts : (ns : List Node) (j m : ℕ) (p q : Tree) → parts ns j m ≡ MoreTrees p (MoreTrees q NoTrees) → (m ≡ 2) × (p ≡ at ns j) × (q ≡ at ns (following ns j))
two_parts ns j zero p q e = absurd (cc)
two_parts ns j (suc zero) p q e = absurd (let f : NoTrees ≡ MoreTrees q NoTrees = trees_rest e in cc)
two_parts ns j (suc (suc zero)) p q e = (refl, sym (trees_first e), sym (trees_first (trees_rest e)))
two_parts ns j (suc (suc (suc m))) p q e = absurd (let f = trees_rest (trees_rest e) in cc)

pub let_under : (w : World) (s : Scope) (c d : ℕ) (u : Tree) (bs : List Binder) (e : T.Expression) (rest : T.Block) → DerivesBlock w s c d u (T.Let bs e rest) → (xs : List ℕ) × (cs : List C.Credit) × (ts : Trees) × Under (is_fip w.kind) d u (Branch R.Let xs cs ts)
let_under w s c d u bs e rest h = (h.0, h.1, MoreTrees h.2 (MoreTrees h.3 NoTrees), h.4)

pub let_parts : (w : World) (s : Scope) (c d : ℕ) (u : Tree) (ns : List Node) (n : Node) (j : ℕ) (bs : List Binder) (e : T.Expression) (rest : T.Block) → ((xs : List ℕ) (cs : List C.Credit) (ts : Trees) → Under (is_fip w.kind) d u (Branch R.Let xs cs ts) → node_with ns j n ≡ Branch R.Let xs cs ts) → DerivesBlock w s c d u (T.Let bs e rest) → LetParts w s c d ns n j bs e rest
let_parts w s c d u ns n j bs e rest only (xs, cs, p, q, under, some, numbered, own, inside, own2, split, body, more) =
    let f = only xs cs (MoreTrees p (MoreTrees q NoTrees)) under in
    let g = two_parts ns j n.parts p q (parts_same f) in
    let a = variables_same f in
    let b = credits_same f in
    record {
      two = g.0;
      some = some;
      numbered = numbered;
      bound_owned = subst (IsOwned d) g.1 own;
      rest_owned = subst (IsOwned (d + length bs)) g.2 own2;
      split = subst (λ ys. (i : Item) → owned ys n.credits.items i + bound w d bs i ≡ root (at ns j) i + root (at ns (following ns j)) i) (sym a) (subst (λ es. (i : Item) → owned xs es i + bound w d bs i ≡ root (at ns j) i + root (at ns (following ns j)) i) (sym b) (subst (λ v. (i : Item) → owned xs cs i + bound w d bs i ≡ root v i + root (at ns (following ns j)) i) g.1 (subst (λ v. (i : Item) → owned xs cs i + bound w d bs i ≡ root p i + root v i) g.2 split)));
      body = subst (λ ys. Derives w (lending ys (own_variables (at ns j)) s) c (d + length bs) (at ns j) e) (sym a) (subst (λ v. Derives w (lending xs (own_variables v) s) c (d + length bs) v e) g.1 body);
      more = subst (λ v. DerivesBlock w (binding d true bs s) (c + within e + length bs) (d + within e + length bs) v rest) g.2 more;
    }

pub numbered_room : (c d : ℕ) (bs : List Binder) → AreNumbered c d bs → 0 < length bs → d + length bs ≤ 4294967296
numbered_room c d [] h l = absurd (omega arith)
numbered_room c d (b ∷ []) h l = let a = h.1 in omega arith
numbered_room c d (b ∷ e ∷ bs) h l = let g = numbered_room (c + 1) (d + 1) (e ∷ bs) h.2 (omega arith) in omega arith

-- after a let
pub let_more : (w : World) (s : Scope) (c d : ℕ) (ns : List Node) (n : Node) (j r count : ℕ) (bs : List Binder) (e : T.Expression) (rest : T.Block) → LetParts w s c d ns n j bs e rest → at ns r ≡ at ns (following ns j) → count ≡ within e → DerivesBlock w (binding d true bs s) (c + (count + length bs)) (d + (count + length bs)) (at ns r) rest
let_more w s c d ns n j r count bs e rest h a m =
    let x : c + within e + length bs ≡ c + (count + length bs) = omega arith in
    let y : d + within e + length bs ≡ d + (count + length bs) = omega arith in
    subst (λ v. DerivesBlock w (binding d true bs s) (c + (count + length bs)) (d + (count + length bs)) v rest) (sym a) (subst (λ k. DerivesBlock w (binding d true bs s) (c + (count + length bs)) k (at ns (following ns j)) rest) y (subst (λ k. DerivesBlock w (binding d true bs s) k (d + within e + length bs) (at ns (following ns j)) rest) x h.more))

pub let_body : (w : World) (s t : Scope) (c d : ℕ) (ns : List Node) (n : Node) (j : ℕ) (bs : List Binder) (e f : T.Expression) (used : List ℕ) (rest : T.Block) → LetParts w s c d ns n j bs e rest → t ≡ lending n.variables.items used s → own_variables (at ns j) ≡ used → e ≡ f → Derives w t c (d + length bs) (at ns j) f
let_body w s t c d ns n j bs e f used rest h q u i = subst (Derives w t c (d + length bs) (at ns j)) i (subst (λ v. Derives w v c (d + length bs) (at ns j) e) (sym q) (subst (λ ys. Derives w (lending n.variables.items ys s) c (d + length bs) (at ns j) e) u h.body))

-- a clause by its pattern and its body
pub clause_back : (w : World) (s : Scope) (c d : ℕ) (x : Option ℕ) (have : Item → ℕ) (u : Tree) (k : Case) (q : T.Pattern) (body : T.Block) → k ≡ record { pattern = q; body = body } → IsClause w c d x have u k.pattern (DerivesBlock w (binding d (is_taken x) (binders k.pattern) s) (c + length (binders k.pattern)) (d + length (binders k.pattern)) u k.body) → IsClause w c d x have u q (DerivesBlock w (binding d (is_taken x) (binders q) s) (c + length (binders q)) (d + length (binders q)) u body)
clause_back w s c d x have u k q body e h = subst (λ (m : Case). IsClause w c d x have u m.pattern (DerivesBlock w (binding d (is_taken x) (binders m.pattern) s) (c + length (binders m.pattern)) (d + length (binders m.pattern)) u m.body)) e h

pub clause_inner : (w : World) (s t : Scope) (c d count : ℕ) (x : Option ℕ) (u : Tree) (taken : Bool) (q : T.Pattern) (body : T.Block) → count ≡ length (binders q) → taken ≡ is_taken x → t ≡ binding d taken (binders q) s → DerivesBlock w (binding d (is_taken x) (binders q) s) (c + length (binders q)) (d + length (binders q)) u body → DerivesBlock w t (c + count) (d + count) u body
clause_inner w s t c d count x u taken q body n i r h = subst (λ m. DerivesBlock w t (c + m) (d + m) u body) (sym n) (subst (λ v. DerivesBlock w v (c + length (binders q)) (d + length (binders q)) u body) (sym r) (subst (λ m. DerivesBlock w (binding d m (binders q) s) (c + length (binders q)) (d + length (binders q)) u body) (sym i) h))

pub inside_more : (o : Option ℕ) (d e : ℕ) → d ≤ e → IfSome o (λ k. k < d) → IfSome o (λ k. k < e)
inside_more None d e l h = _
inside_more (Some k) d e l h = omega arith

pub if_none : {A : Type 0} (o : Option A) (P Q : Type 0) → (P → Q) → IfNone o P → IfNone o Q
if_none None P Q f h = f h
if_none (Some x) P Q f h = _

pub ruleset letting = (split_bound, within_bound, owned_up)
