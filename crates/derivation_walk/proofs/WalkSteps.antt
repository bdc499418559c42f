-- The arms of the walk, over plain variables.
use Rattle.std.proofs.Common.{◌≡◌, ℕ, suc, ◌<◌, ◌≤◌, ◌+◌, ◌-◌, refl, sym, ap, ap₂, ◌∙◌, List, [], ◌∷◌, ◌++◌, drop, length, map, append_assoc, Vec, Global, Bool, true, false, nat_lt, Option, if◌then◌else◌, arith}
use Rattle.std.specs.Prelude.{filter, ◌==◌, ◌&&◌}
use Rattle.std.specs.declared.boxed.Box.{Box}
use Rattle.std.proofs.lemmas.Grind.{common_steps}
use Rattle.std.proofs.lemmas.Bool.{lt-ltb, le-ltb}
use Rattle.fip_language.specs.declared.Place.{Place}
use Rattle.fip_base.specs.declared.core_form.MatchKind.{MatchKind}
use Rattle.fip_trees.specs.Sizes.{number, no_sizes}
use Rattle.fip_base.specs.declared.plain.Param.{Param}
use Rattle.credit_check.specs.Tallies.{made_from}
use Rattle.fip_trees.specs.Tree as T
use Rattle.fip_trees.specs.TreeView.{BoundPart, Case, argument, arguments, is_destructive, expression, expression_step, binding, binding_step, block, block_of, block_step, clause, clause_step, clauses}
use Rattle.fip_trees.specs.declared.program.Argument.{Argument}
use Rattle.fip_trees.specs.declared.program.Argument.TheVariants as AV
use Rattle.fip_trees.specs.declared.program.Expression.{Expression}
use Rattle.fip_trees.specs.declared.program.Expression.TheVariants as EV
use Rattle.fip_trees.specs.declared.program.Expression.TheOpen as E
use Rattle.fip_trees.specs.declared.program.Expression.TheFolds.{fold-roll-Expression}
use Rattle.fip_trees.specs.declared.program.Block.{Block, out-Block}
use Rattle.fip_trees.specs.declared.program.Binding.{Binding, out-Binding}
use Rattle.fip_trees.specs.declared.program.Clause.{Clause}
use Rattle.fip_trees.proofs.TreeViews.{argument_constructor, expression_match, block_is, binding_is}
use Rattle.fip_rules.specs.Shapes.{takes}
use Rattle.derivation_trees.specs.declared.derivation.RuleName.{RuleName}
use Rattle.derivation_trees.specs.declared.derivation.RuleName.TheVariants as R
use Rattle.derivation_trees.specs.declared.derivation.Credit as D
use Rattle.derivation_trees.specs.Building.{Built, opened, closed}
use Rattle.derivation_trees.specs.Trees.{Tree, Branch, Trees, NoTrees, MoreTrees}
use Rattle.derivation_walk.specs.Growing.{grown, grown_all, closed_times, Awaits, AwaitsOne}
use Rattle.derivation_walk.specs.Walked.{Guided, Owned, Asked, asked, those, following, rest_owned, node, credits_from, credits, same_from, match_rule, binder_of, walked, walked_block, walked_parts, walked_clause, walked_clauses, let_node, size, size_parts, used, rule_of, constructor_rule, owning, sorted, value, fields, passed, begun}
use Rattle.derivation_walk.proofs.Growing.{node_done, awaited, waits_more}
pub use Rattle.credit_check.proofs.Steps.{bound_is}
pub use Rattle.fip_rules.proofs.Views.{none_left}

-- ---- credits

pub credit_some : (cs ds g : List D.Credit) (xs : List ℕ) (k n : ℕ) → k < 17 → n ≡ number xs k → 0 < n → ds ≡ cs ++ record { size = k; count = n } ∷ [] → cs ++ credits_from xs k (17 - k) ≡ g → ds ++ credits_from xs (k + 1) (17 - (k + 1)) ≡ g
credit_some cs ds g xs k n l e p h inv =
    let m = 17 - (k + 1) in
    let s : 17 - k ≡ suc m = omega arith in
    let j : k + 1 ≡ suc k = omega arith in
    let C : D.Credit = record { size = k; count = number xs k } in
    let t : nat_lt 0 (number xs k) ≡ true = lt-ltb 0 (number xs k) (omega (arith, e, p)) in
    ap (λ z. z ++ credits_from xs (k + 1) m) (h ∙ ap (λ i. cs ++ record { size = k; count = i } ∷ []) e)
    ∙ ap (λ i. (cs ++ C ∷ []) ++ credits_from xs i m) j
    ∙ append_assoc cs (C ∷ []) (credits_from xs (suc k) m)
    ∙ ap (λ b. cs ++ (if b then C ∷ credits_from xs (suc k) m else credits_from xs (suc k) m)) (sym t)
    ∙ ap (λ i. cs ++ credits_from xs k i) (sym s) ∙ inv

pub credit_none : (cs g : List D.Credit) (xs : List ℕ) (k n : ℕ) → k < 17 → n ≡ number xs k → n ≤ 0 → cs ++ credits_from xs k (17 - k) ≡ g → cs ++ credits_from xs (k + 1) (17 - (k + 1)) ≡ g
credit_none cs g xs k n l e p inv =
    let m = 17 - (k + 1) in
    let s : 17 - k ≡ suc m = omega arith in
    let j : k + 1 ≡ suc k = omega arith in
    let C : D.Credit = record { size = k; count = number xs k } in
    let t : nat_lt 0 (number xs k) ≡ false = le-ltb 0 (number xs k) (omega (arith, e, p)) in
    ap (λ i. cs ++ credits_from xs i m) j
    ∙ ap (λ b. cs ++ (if b then C ∷ credits_from xs (suc k) m else credits_from xs (suc k) m)) (sym t)
    ∙ ap (λ i. cs ++ credits_from xs k i) (sym s) ∙ inv

pub same_more : (g : Bool) (xs ys : List ℕ) (k a b : ℕ) → k < 17 → a ≡ number xs k → b ≡ number ys k → a == b ≡ true → same_from xs ys k (17 - k) ≡ g → same_from xs ys (k + 1) (17 - (k + 1)) ≡ g
same_more g xs ys k a b l e f h inv =
    let m = 17 - (k + 1) in
    let s : 17 - k ≡ suc m = omega arith in
    let j : k + 1 ≡ suc k = omega arith in
    let t : number xs k == number ys k ≡ true = ap₂ (λ x y. x == y) (sym e) (sym f) ∙ h in
    ap (λ i. same_from xs ys i m) j
    ∙ ap (λ z. z && same_from xs ys (suc k) m) (sym t)
    ∙ ap (same_from xs ys k) (sym s) ∙ inv

pub same_stops : (g : Bool) (xs ys : List ℕ) (k a b : ℕ) → k < 17 → a ≡ number xs k → b ≡ number ys k → a == b ≡ false → same_from xs ys k (17 - k) ≡ g → false ≡ g
same_stops g xs ys k a b l e f h inv =
    let m = 17 - (k + 1) in
    let s : 17 - k ≡ suc m = omega arith in
    let t : number xs k == number ys k ≡ false = ap₂ (λ x y. x == y) (sym e) (sym f) ∙ h in
    ap (λ z. z && same_from xs ys (suc k) m) (sym t)
    ∙ ap (same_from xs ys k) (sym s) ∙ inv

-- ---- variables

-- one more variable was looked at, which passes a test or doesn't
pub filter_some : (f : ℕ → Bool) (found more rest g : List ℕ) (x : ℕ) → f x ≡ true → more ≡ found ++ x ∷ [] → found ++ filter f (x ∷ rest) ≡ g → more ++ filter f rest ≡ g
filter_some f found more rest g x t e inv =
    ap (λ z. z ++ filter f rest) e ∙ append_assoc found (x ∷ []) (filter f rest)
    ∙ ap (λ b. found ++ (if b then x ∷ filter f rest else filter f rest)) (sym t) ∙ inv

pub filter_none : (f : ℕ → Bool) (found rest g : List ℕ) (x : ℕ) → f x ≡ false → found ++ filter f (x ∷ rest) ≡ g → found ++ filter f rest ≡ g
filter_none f found rest g x t inv = ap (λ b. found ++ (if b then x ∷ filter f rest else filter f rest)) (sym t) ∙ inv

-- ---- blocks

pub block_first : (d : Block) (xs : List Binding) → xs ≡ (out-Block d).bindings.items → block d ≡ block_of (map binding xs) (expression (out-Block d).last)
block_first d xs e = block_is d ∙ sym (ap (λ q. block_of (map binding q) (expression (out-Block d).last)) e)

pub block_begun : (g : Guided) (b : Built) (i : ℕ) (o : Owned) (a : Asked) (d : T.Block) (e : T.Block) → a ≡ asked g i → d ≡ e → closed_times 0 (grown b (walked_parts g (i + 1) o a e)) ≡ grown b (walked_block g i o d)
block_begun g b i o a d e h k = ap₂ (λ z y. grown b (walked_parts g (i + 1) o z y)) h (sym k)

-- one binding more
pub block_more : (g : Guided) (m n k : ℕ) (b c w : Built) (i j : ℕ) (o o1 : Owned) (a a1 e : Asked) (d : BoundPart) (bs : List BoundPart) (last : T.Expression) → AwaitsOne n b c (let_node g i o a e d.bound) → e ≡ asked g i → o1 ≡ rest_owned g a e o d.binders → a1 ≡ following a e → j ≡ i + size d.bound → k ≡ m + n → closed_times m (grown b (walked_parts g i o a (block_of (d ∷ bs) last))) ≡ w → closed_times k (grown c (walked_parts g j o1 a1 (block_of bs last))) ≡ w
block_more g m n k b c w i j o o1 a a1 e d bs last h he ho ha hj hk inv =
    let R : ℕ → Owned → Asked → Tree = λ x y z. walked_parts g x y z (block_of bs last) in
    ap (λ x. closed_times k (grown c (R x o1 a1))) hj
    ∙ ap (λ y. closed_times k (grown c (R (i + size d.bound) y a1))) ho
    ∙ ap (λ z. closed_times k (grown c (R (i + size d.bound) (rest_owned g a e o d.binders) z))) ha
    ∙ waits_more m n k b c w (let_node g i o a e d.bound) (R (i + size d.bound) (rest_owned g a e o d.binders) (following a e)) h hk
    (ap (λ z. closed_times m (grown b (let_node g i o a z d.bound (R (i + size d.bound) (rest_owned g a z o d.binders) (following a z))))) he ∙ inv)

pub block_done : (g : Guided) (m : ℕ) (b c d w : Built) (i : ℕ) (o : Owned) (a : Asked) (later : List BoundPart) (last : T.Expression) → later ≡ [] → c ≡ grown b (walked g i o last) → d ≡ closed_times m c → closed_times m (grown b (walked_parts g i o a (block_of later last))) ≡ w → d ≡ w
block_done g m b c d w i o a later last none e f inv =
    f ∙ ap (closed_times m) e ∙ sym (ap (λ ys. closed_times m (grown b (walked_parts g i o a (block_of ys last)))) none) ∙ inv

-- ---- matches

pub clause_more : (g : Guided) (b c w : Built) (i j : ℕ) (taken : Bool) (x : Option ℕ) (o : Owned) (d : Case) (cs : T.Clauses) → c ≡ grown b (walked_clause g i taken x o d) → j ≡ i + (size_parts d.body + 1) → grown_all b (walked_clauses g i taken x o (T.MoreClauses d.pattern d.body cs)) ≡ w → grown_all c (walked_clauses g j taken x o cs) ≡ w
clause_more g b c w i j taken x o d cs e h inv =
    ap₂ (λ z k. grown_all z (walked_clauses g k taken x o cs)) e h ∙ inv

pub match_is : (g : Guided) (i j k : ℕ) (e : Expression) (kind : MatchKind) (u : ℕ) (p : Place) (a : Argument) (c : Box Clause Global) (cs : Vec Clause Global) (taken : Bool) (x : Option ℕ) (o : Owned) (xs has : List ℕ) (q : Asked) → e ≡ EV.Match kind u p a c cs → taken ≡ takes g.world (is_destructive kind) u → x ≡ binder_of (argument a) → q ≡ asked g i → xs ≡ those g q o.variables → has ≡ xs → j ≡ i + 1 → k ≡ j + (size_parts (clause c.value).body + 1) → node (match_rule taken) o has q.need (MoreTrees (walked_clause g j taken x record { variables = xs; credits = q.need } (clause c.value)) (walked_clauses g k taken x record { variables = xs; credits = q.need } (clauses cs.items))) ≡ walked g i o (expression e)
match_is g i j k e kind u p a c cs taken x o xs has q h t hb hq hx hh hj hk =
    let S : List ℕ → Asked → Owned = λ ys z. record { variables = ys; credits = z.need } in
    let P : ℕ → ℕ → Bool → Option ℕ → List ℕ → Asked → Trees = λ m y f v ys z.
    MoreTrees (walked_clause g m f v (S ys z) (clause c.value)) (walked_clauses g y f v (S ys z) (clauses cs.items)) in
    let N : ℕ → ℕ → Bool → Option ℕ → List ℕ → List ℕ → Asked → Tree = λ m y f v zs ys z. node (match_rule f) o zs z.need (P m y f v ys z) in
    let B = size_parts (clause c.value).body + 1 in
    let K = takes g.world (is_destructive kind) u in
    let X = binder_of (argument a) in
    ap (λ zs. N j k taken x zs xs q) hh
    ∙ ap (λ y. N j y taken x xs xs q) hk
    ∙ ap (λ m. N m (m + B) taken x xs xs q) hj
    ∙ ap (λ f. N (i + 1) (i + 1 + B) f x xs xs q) t
    ∙ ap (λ v. N (i + 1) (i + 1 + B) K v xs xs q) hb
    ∙ ap (λ ys. N (i + 1) (i + 1 + B) K X ys ys q) hx
    ∙ ap (λ z. N (i + 1) (i + 1 + B) K X (those g z o.variables) (those g z o.variables) z) hq
    ∙ sym (ap (λ z. walked g i o z) (ap expression h ∙ expression_match kind u p a c cs))

pub match_grown : (g : Guided) (n : ℕ) (b0 b1 b2 b3 b4 : Built) (i j k : ℕ) (e : Expression) (kind : MatchKind) (u : ℕ) (p : Place) (a : Argument) (c : Box Clause Global) (cs : Vec Clause Global) (taken : Bool) (x : Option ℕ) (o : Owned) (xs has : List ℕ) (q : Asked) → e ≡ EV.Match kind u p a c cs → taken ≡ takes g.world (is_destructive kind) u → x ≡ binder_of (argument a) → q ≡ asked g i → xs ≡ those g q o.variables → has ≡ xs → j ≡ i + 1 → Awaits n b0 b1 (node (match_rule taken) o has q.need) → b2 ≡ grown b1 (walked_clause g j taken x record { variables = xs; credits = q.need } (clause c.value)) → k ≡ j + (size_parts (clause c.value).body + 1) → b3 ≡ grown_all b2 (walked_clauses g k taken x record { variables = xs; credits = q.need } (clauses cs.items)) → b4 ≡ closed_times n b3 → b4 ≡ grown b0 (walked g i o (expression e))
match_grown g n b0 b1 b2 b3 b4 i j k e kind u p a c cs taken x o xs has q h t hb hq hx hh hj aw e2 hk e3 e4 =
    let S : Owned = record { variables = xs; credits = q.need } in
    awaited n b0 b1 b3 b4 (node (match_rule taken) o has q.need) (MoreTrees (walked_clause g j taken x S (clause c.value)) (walked_clauses g k taken x S (clauses cs.items))) aw (e3 ∙ ap (λ z. grown_all z (walked_clauses g k taken x S (clauses cs.items))) e2) e4
    ∙ ap (grown b0) (match_is g i j k e kind u p a c cs taken x o xs has q h t hb hq hx hh hj hk)

-- ---- arguments

pub passed_done : (g : Guided) (b w : Built) (ps : List Param) (as' : T.Arguments) → as' ≡ T.NoArguments → grown_all b (passed g ps as') ≡ w → b ≡ w
passed_done g b w ps as' e inv = ap (grown_all b) (sym (none ps) ∙ sym (ap (passed g ps) e)) ∙ inv
  where
    none : (qs : List Param) → passed g qs T.NoArguments ≡ NoTrees
    none [] = refl
    none (q ∷ qs) = refl

pub no_arguments : (xs : List Argument) (i : ℕ) → length xs ≤ i → arguments (drop i xs) ≡ T.NoArguments
no_arguments xs i h = let e : drop i xs ≡ [] = grind (arith, common_steps) in ap (λ q. arguments q) e

-- the rule of a constructor with fields
pub some_rule : (g : Guided) (a : Argument) (u d c : ℕ) (n : T.Name) (p : Place) (xs : Vec Argument Global) → a ≡ AV.Constructor u d c n p xs → false ≡ (length xs.items == 0) → R.Reuse ≡ rule_of g (argument a)
some_rule g a u d c n p xs h e = some xs.items e ∙ sym (ap (rule_of g) (ap argument h ∙ argument_constructor u d c n p xs))
  where
    some : (ys : List Argument) → false ≡ (length ys == 0) → R.Reuse ≡ constructor_rule (arguments ys)
    some [] f = absurd (cc)
    some (y ∷ ys) f = refl

-- an argument's node, which is opened, gets the fields and is closed
pub value_grown : (g : Guided) (b0 b1 b2 b3 : Built) (a : T.Argument) (r : RuleName) (ys cs : List ℕ) → ys ≡ sorted (owning g [] a) → cs ≡ made_from no_sizes a → r ≡ rule_of g a → b1 ≡ opened b0 r ys (credits cs) → b2 ≡ grown_all b1 (fields g a) → b3 ≡ closed b2 → b3 ≡ grown b0 (value g a)
value_grown g b0 b1 b2 b3 a r ys cs hy hc hr e1 e2 e3 =
    e3 ∙ ap closed (e2 ∙ ap (λ z. grown_all z (fields g a)) e1) ∙ node_done b0 r ys (credits cs) (fields g a)
    ∙ ap (λ z. grown b0 (Branch z ys (credits cs) (fields g a))) hr
    ∙ ap (λ z. grown b0 (Branch (rule_of g a) z (credits cs) (fields g a))) hy
    ∙ ap (λ z. grown b0 (Branch (rule_of g a) (sorted (owning g [] a)) (credits z) (fields g a))) hc
    ∙ ap (grown b0) (is a)
  where
    is : (d : T.Argument) → Branch (rule_of g d) (sorted (owning g [] d)) (credits (made_from no_sizes d)) (fields g d) ≡ value g d
    is (T.Variable x n p) = refl
    is (T.Literal i p) = refl
    is (T.Constructor u d c n p as') = refl

-- a node of the next expression begins
pub begun_by : (g : Guided) (n i : ℕ) (b0 b1 b2 : Built) (r : RuleName) (o : Owned) (q : Asked) (xs : List ℕ) → b1 ≡ b0 → q ≡ asked g i → xs ≡ those g q o.variables → Awaits n b1 b2 (node r o xs q.need) → Awaits n b0 b2 (begun g i r o)
begun_by g n i b0 b1 b2 r o q xs e hq hx h = record {
  done = λ ts.
      h.done ts ∙ ap (λ z. grown z (node r o xs q.need ts)) e
      ∙ ap (λ z. grown b0 (node r o z q.need ts)) hx ∙ ap (λ z. grown b0 (node r o (those g z o.variables) z.need ts)) hq;
}

pub given_grown : (g : Guided) (n i : ℕ) (b0 b1 b2 b3 : Built) (r : RuleName) (o : Owned) (a : T.Argument) → r ≡ rule_of g a → Awaits n b0 b1 (begun g i r o) → b2 ≡ grown_all b1 (fields g a) → b3 ≡ closed_times n b2 → b3 ≡ grown b0 (begun g i (rule_of g a) o (fields g a))
given_grown g n i b0 b1 b2 b3 r o a hr h e f =
    awaited n b0 b1 b2 b3 (begun g i r o) (fields g a) h e f ∙ ap (λ z. grown b0 (begun g i z o (fields g a))) hr

-- a let's node, and what it binds
pub let_opened : (g : Guided) (n i : ℕ) (b0 b1 b2 : Built) (o : Owned) (a b : Asked) (e : T.Expression) (xs ys : List ℕ) → xs ≡ those g a o.variables → ys ≡ used g b xs → Awaits n b0 b1 (node R.Let o xs a.need) → b2 ≡ grown b1 (walked g i record { variables = ys; credits = b.need } e) → AwaitsOne n b0 b2 (let_node g i o a b e)
let_opened g n i b0 b1 b2 o a b e xs ys hx hy h k = record {
  done = λ t.
      let P : List ℕ → Trees = λ zs. MoreTrees (walked g i (record { variables = zs; credits = b.need }) e) (MoreTrees t NoTrees) in
      ap (λ z. closed_times n (grown z t)) k ∙ h.done (P ys)
      ∙ ap (λ zs. grown b0 (node R.Let o xs a.need (P zs))) hy
      ∙ ap (λ zs. grown b0 (node R.Let o zs a.need (P (used g b zs)))) hx;
}

pub expression_tuple : (p : Place) (v : Vec Argument Global) → expression (EV.Tuple p v) ≡ T.Tuple p (arguments v.items)
expression_tuple p v = ap expression (sym (EV.rolls-Tuple p v)) ∙ fold-roll-Expression T.Expression BoundPart T.Block Case expression_step binding_step block_step clause_step (E.Tuple p v)
