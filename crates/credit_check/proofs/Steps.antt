-- The arms of the walk, over plain variables.
use Rattle.std.proofs.Common.{◌≡◌, ℕ, zero, suc, ◌<◌, ◌≤◌, ◌+◌, ◌-◌, refl, sym, ap, ◌∙◌, append_assoc, List, [], ◌∷◌, ◌++◌, length, set, get_or, drop, map, Option, Bool, Vec, Global, arith}
use Rattle.std.specs.Prelude.{nat_lt}
use Rattle.std.specs.declared.boxed.Box.{Box}
use Rattle.fip_trees.specs.fip_language.declared.Place.{Place}
use Rattle.fip_trees.specs.fip_language.declared.rule.Rule.{Rule}
use Rattle.fip_base.specs.declared.core_form.MatchKind.{MatchKind}
use Rattle.fip_trees.specs.declared.least.Violation.{Violation}
use Rattle.fip_trees.specs.declared.needs.Need.{Need}
use Rattle.fip_trees.specs.Least.{after, violation}
use Rattle.fip_trees.specs.NeedsView.{needs_row}
use Rattle.fip_trees.specs.Sizes.{number, no_sizes, one_more, plus, minus, greatest}
use Rattle.fip_trees.specs.Tree as T
use Rattle.fip_trees.specs.Tree.{Name, count, count_patterns, pattern_place}
use Rattle.fip_trees.specs.TreeView.{BoundPart, Case, argument, arguments, pattern, patterns, is_destructive, expression, binding, block, block_of, clause, clauses}
use Rattle.fip_trees.specs.declared.program.Argument.{Argument}
use Rattle.fip_trees.specs.declared.program.Argument.TheVariants as AV
use Rattle.fip_trees.specs.declared.program.Pattern.{Pattern}
use Rattle.fip_trees.specs.declared.program.Pattern.TheVariants as PV
use Rattle.fip_trees.specs.declared.program.Expression.{Expression}
use Rattle.fip_trees.specs.declared.program.Expression.TheVariants as EV
use Rattle.fip_trees.specs.declared.program.Block.{Block, out-Block}
use Rattle.fip_trees.specs.declared.program.Binding.{Binding, out-Binding}
use Rattle.fip_trees.specs.declared.program.Clause.{Clause, out-Clause}
use Rattle.fip_trees.proofs.Leasts.{after-append}
use Rattle.fip_trees.proofs.TreeViews.{argument_constructor, pattern_constructor, count_view, count_patterns_view, expression_match, clause_is, binding_is, block_is}
use Rattle.credit_check.specs.Needs.{takes}
use Rattle.credit_check.specs.Tallies.{made_from, made_all_from, nodes_from, nodes_all_from, given_sizes, sizes, block_sizes, clauses_sizes, clause_sizes, above_need, needs, parts_needs, clauses_needs, block_needs, when, below_from, unused_notes, differ_notes, notes, block_notes, clauses_notes, clause_notes, instance_needs, all_needs, instance_notes, all_notes}
use Rattle.fip_base.proofs.fip_language.Facts.{drop_end, drop_suc}
pub use Rattle.fip_base.proofs.fip_language.Facts.{drop_item}

pub made_step : (xs xs1 xs2 : List ℕ) (a : Argument) (u d c : ℕ) (n : Name) (q : Place) (v : Vec Argument Global) (as' : List Argument) (k : ℕ) → a ≡ AV.Constructor u d c n q v → k ≡ length as' → as' ≡ v.items → xs1 ≡ one_more k xs → xs2 ≡ made_all_from xs1 (arguments as') → xs2 ≡ made_from xs (argument a)
made_step xs xs1 xs2 a u d c n q v as' k e l s f g =
    g ∙ ap (λ ys. made_all_from ys (arguments as')) f ∙ ap (λ j. made_all_from (one_more j xs) (arguments as')) (l ∙ sym (count_view as'))
    ∙ ap (λ bs. made_all_from (one_more (count (arguments bs)) xs) (arguments bs)) s
    ∙ ap (made_from xs) (sym (argument_constructor u d c n q v)) ∙ ap (λ b. made_from xs (argument b)) (sym e)

pub nodes_step : (xs xs1 xs2 : List ℕ) (a : Pattern) (u d c : ℕ) (n : Name) (q : Place) (v : Vec Pattern Global) (ps : List Pattern) (k : ℕ) → a ≡ PV.Constructor u d c n q v → k ≡ length ps → ps ≡ v.items → xs1 ≡ one_more k xs → xs2 ≡ nodes_all_from xs1 (patterns ps) → xs2 ≡ nodes_from xs (pattern a)
nodes_step xs xs1 xs2 a u d c n q v ps k e l s f g =
    g ∙ ap (λ ys. nodes_all_from ys (patterns ps)) f ∙ ap (λ j. nodes_all_from (one_more j xs) (patterns ps)) (l ∙ sym (count_patterns_view ps))
    ∙ ap (λ bs. nodes_all_from (one_more (count_patterns (patterns bs)) xs) (patterns bs)) s
    ∙ ap (nodes_from xs) (sym (pattern_constructor u d c n q v)) ∙ ap (λ b. nodes_from xs (pattern b)) (sym e)

-- one size more
pub below_step : (o o1 g : Option Violation) (r : Rule) (q : Place) (i : ℕ) (xs ys : List ℕ) (k a b : ℕ) → k < 17 → a ≡ number xs k → b ≡ number ys k → o1 ≡ after o (when (nat_lt a b) (violation r q i k [])) → after o (below_from r q i xs ys k (17 - k)) ≡ g → after o1 (below_from r q i xs ys (k + 1) (17 - (k + 1))) ≡ g
below_step o o1 g r q i xs ys k a b l ea eb h inv =
    let n = 17 - (k + 1) in
    let v = violation r q i k [] in
    let e : 17 - k ≡ suc n = omega arith in
    let s : k + 1 ≡ suc k = omega arith in
    let rest = below_from r q i xs ys (k + 1) n in
    ap (λ z. after z rest) h ∙ sym (after-append o (when (nat_lt a b) v) rest)
    ∙ ap (λ m. after o (when (nat_lt m b) v ++ rest)) ea ∙ ap (λ m. after o (when (nat_lt (number xs k) m) v ++ rest)) eb
    ∙ ap (λ m. after o (when (nat_lt (number xs k) (number ys k)) v ++ below_from r q i xs ys m n)) s
    ∙ ap (λ m. after o (below_from r q i xs ys k m)) (sym e) ∙ inv

-- ---- what is kept

set_seam : (xs ys : List Need) (x y : Need) → set (xs ++ x ∷ ys) (length xs) y ≡ xs ++ y ∷ ys
set_seam [] ys x y = refl
set_seam (z ∷ xs) ys x y = ap (λ (q : List Need). z ∷ q) (set_seam xs ys x y)

more_long : (xs ys : List Need) (x : Need) → length (xs ++ x ∷ ys) ≡ length xs + suc (length ys)
more_long [] ys x = omega arith
more_long (z ∷ xs) ys x = let h = more_long xs ys x in omega arith

span_of : (n0 rest : List Need) (x : Need) → length (n0 ++ x ∷ rest) - length n0 ≡ suc (length rest)
span_of n0 rest x = let h = more_long n0 rest x in omega arith

abbrev row : List ℕ → ℕ → Need
row s n = record { sizes = s; span = n }

-- a number is given to an expression, and then to those in it
pub closed : (n0 n1 n2 n3 rest : List Need) (at : ℕ) (s t : List ℕ) → n1 ≡ n0 ++ above_need t [] → n2 ≡ n1 ++ rest → at ≡ length n0 → n3 ≡ set n2 at (row s (length n2 - at)) → n3 ≡ n0 ++ above_need s rest
closed n0 n1 n2 n3 rest at s t e f l g =
    let h : n2 ≡ n0 ++ row t 1 ∷ rest = f ∙ ap (λ q. q ++ rest) e ∙ append_assoc n0 (row t 1 ∷ []) rest in
    g ∙ ap (λ q. set q at (row s (length q - at))) h ∙ ap (λ k. set (n0 ++ row t 1 ∷ rest) k (row s (length (n0 ++ row t 1 ∷ rest) - k))) l
    ∙ ap (λ k. set (n0 ++ row t 1 ∷ rest) (length n0) (row s k)) (span_of n0 rest (row t 1)) ∙ set_seam n0 rest (row t 1) (row s (suc (length rest)))

-- ---- matches

module _ (p : T.Program) (i : ℕ) (fip : Bool) (e : Expression) (k : MatchKind) (u : ℕ) (q : Place) (a : Argument) (d : Box Clause Global) (cs : Vec Clause Global) (is : e ≡ EV.Match k u q a d cs) (taken : Bool) (takes_is : taken ≡ takes p (is_destructive k) u) (first : List ℕ) (first_is : first ≡ clause_sizes p taken (clause d.value).pattern (clause d.value).body) where
  view_is : expression e ≡ T.Match (is_destructive k) u q (argument a) (clause d.value).pattern (clause d.value).body (clauses cs.items)
  view_is = ap expression is ∙ expression_match k u q a d cs

  pub match_sizes : (s : List ℕ) → s ≡ clauses_sizes p taken first (clauses cs.items) → s ≡ sizes p (expression e)
  match_sizes s h =
      h ∙ ap (λ m. clauses_sizes p taken m (clauses cs.items)) first_is
      ∙ ap (λ b. clauses_sizes p b (clause_sizes p b (clause d.value).pattern (clause d.value).body) (clauses cs.items)) takes_is
      ∙ ap (sizes p) (sym view_is)

  pub match_kept : (n0 n1 n2 n3 n4 : List Need) (at : ℕ) (s : List ℕ) → s ≡ clauses_sizes p taken first (clauses cs.items) → n1 ≡ n0 ++ above_need no_sizes [] → at ≡ length n0 → n2 ≡ n1 ++ block_needs p (clause d.value).body → n3 ≡ n2 ++ clauses_needs p (clauses cs.items) → n4 ≡ set n3 at (row s (length n3 - at)) → n4 ≡ n0 ++ needs p (expression e)
  match_kept n0 n1 n2 n3 n4 at s h e1 l e2 e3 e4 =
      let B = block_needs p (clause d.value).body in
      let C = clauses_needs p (clauses cs.items) in
      closed n0 n1 n3 n4 (B ++ C) at s no_sizes e1 (e3 ∙ ap (λ z. z ++ C) e2 ∙ append_assoc n1 B C) l e4
      ∙ ap (λ z. n0 ++ above_need z (B ++ C)) (match_sizes s h ∙ ap (sizes p) view_is) ∙ ap (λ z. n0 ++ needs p z) (sym view_is)

  pub match_noted : (l0 l1 l2 : Option Violation) → l1 ≡ after l0 (clause_notes p i fip taken (clause d.value).pattern (clause d.value).body) → l2 ≡ after l1 (clauses_notes p i fip taken q first (clauses cs.items)) → l2 ≡ after l0 (notes p i fip (expression e))
  match_noted l0 l1 l2 h g =
      let A : Bool → List Violation = λ b. clause_notes p i fip b (clause d.value).pattern (clause d.value).body in
      let R : Bool → List ℕ → List Violation = λ b m. clauses_notes p i fip b q m (clauses cs.items) in
      g ∙ ap (λ z. after z (R taken first)) h ∙ sym (after-append l0 (A taken) (R taken first))
      ∙ ap (λ m. after l0 (A taken ++ R taken m)) first_is
      ∙ ap (λ b. after l0 (A b ++ R b (clause_sizes p b (clause d.value).pattern (clause d.value).body))) takes_is
      ∙ ap (λ z. after l0 (notes p i fip z)) (sym view_is)

-- ---- clauses

abbrev pattern_of : Clause → T.Pattern
pattern_of d = pattern (out-Clause d).pattern

abbrev body_of : Clause → T.Block
body_of d = block (out-Clause d).body

pub one_sizes : (p : T.Program) (taken : Bool) (d : Clause) (s0 g s : List ℕ) → s0 ≡ block_sizes p no_sizes (body_of d) → g ≡ given_sizes taken (pattern_of d) → s ≡ minus s0 g → s ≡ clause_sizes p taken (clause d).pattern (clause d).body
one_sizes p taken d s0 g s h k e =
    e ∙ ap (λ z. minus z g) h ∙ ap (minus (block_sizes p no_sizes (body_of d))) k
    ∙ ap (λ (z : Case). clause_sizes p taken z.pattern z.body) (sym (clause_is d))

pub one_kept : (p : T.Program) (d : Clause) (n0 n1 : List Need) → n1 ≡ n0 ++ block_needs p (body_of d) → n1 ≡ n0 ++ block_needs p (clause d).body
one_kept p d n0 n1 h = h ∙ ap (λ (z : Case). n0 ++ block_needs p z.body) (sym (clause_is d))

pub one_noted : (p : T.Program) (i : ℕ) (fip taken : Bool) (d : Clause) (q : Place) (l0 l1 l2 : Option Violation) (s g : List ℕ) → s ≡ block_sizes p no_sizes (body_of d) → g ≡ given_sizes taken (pattern_of d) → q ≡ pattern_place (pattern_of d) → l1 ≡ after l0 (block_notes p i fip (body_of d)) → l2 ≡ after l1 (unused_notes i fip q s g) → l2 ≡ after l0 (clause_notes p i fip taken (clause d).pattern (clause d).body)
one_noted p i fip taken d q l0 l1 l2 s g hs hg hq e f =
    let N = block_notes p i fip (body_of d) in
    f ∙ ap (λ z. after z (unused_notes i fip q s g)) e ∙ sym (after-append l0 N (unused_notes i fip q s g))
    ∙ ap (λ z. after l0 (N ++ unused_notes i fip z s g)) hq ∙ ap (λ z. after l0 (N ++ unused_notes i fip (pattern_place (pattern_of d)) z g)) hs
    ∙ ap (λ z. after l0 (N ++ unused_notes i fip (pattern_place (pattern_of d)) (block_sizes p no_sizes (body_of d)) z)) hg
    ∙ ap (λ (z : Case). after l0 (clause_notes p i fip taken z.pattern z.body)) (sym (clause_is d))

-- ---- the other clauses, one after another

pub more_sizes : (p : T.Program) (taken : Bool) (most s m1 g : List ℕ) (c : Case) (cs : T.Clauses) → s ≡ clause_sizes p taken c.pattern c.body → m1 ≡ greatest most s → clauses_sizes p taken most (T.MoreClauses c.pattern c.body cs) ≡ g → clauses_sizes p taken m1 cs ≡ g
more_sizes p taken most s m1 g c cs h e inv = ap (λ z. clauses_sizes p taken z cs) (e ∙ ap (greatest most) h) ∙ inv

pub more_kept : (p : T.Program) (n0 n1 g : List Need) (c : Case) (cs : T.Clauses) → n1 ≡ n0 ++ block_needs p c.body → n0 ++ clauses_needs p (T.MoreClauses c.pattern c.body cs) ≡ g → n1 ++ clauses_needs p cs ≡ g
more_kept p n0 n1 g c cs e inv = ap (λ z. z ++ clauses_needs p cs) e ∙ append_assoc n0 (block_needs p c.body) (clauses_needs p cs) ∙ inv

pub more_noted : (p : T.Program) (i : ℕ) (fip taken : Bool) (q : Place) (first s : List ℕ) (l0 l1 l2 g : Option Violation) (c : Case) (cs : T.Clauses) → s ≡ clause_sizes p taken c.pattern c.body → l1 ≡ after l0 (clause_notes p i fip taken c.pattern c.body) → l2 ≡ after l1 (differ_notes i fip q first s) → after l0 (clauses_notes p i fip taken q first (T.MoreClauses c.pattern c.body cs)) ≡ g → after l2 (clauses_notes p i fip taken q first cs) ≡ g
more_noted p i fip taken q first s l0 l1 l2 g c cs h e f inv =
    let A = clause_notes p i fip taken c.pattern c.body in
    let D : List ℕ → List Violation = λ z. differ_notes i fip q first z in
    let R = clauses_notes p i fip taken q first cs in
    let m = clause_sizes p taken c.pattern c.body in
    ap (λ z. after z R) (f ∙ ap (λ z. after z (D s)) e ∙ sym (after-append l0 A (D s)) ∙ ap (λ z. after l0 (A ++ D z)) h)
    ∙ sym (after-append l0 (A ++ D m) R) ∙ inv

-- ---- bindings, one after another

pub bound_sizes : (p : T.Program) (xs s x1 g : List ℕ) (b : BoundPart) (bs : List BoundPart) (last : T.Expression) → s ≡ sizes p b.bound → x1 ≡ plus xs s → block_sizes p xs (block_of (b ∷ bs) last) ≡ g → block_sizes p x1 (block_of bs last) ≡ g
bound_sizes p xs s x1 g b bs last h e inv = ap (λ z. block_sizes p z (block_of bs last)) (e ∙ ap (plus xs) h) ∙ inv

pub bound_kept : (p : T.Program) (n0 n1 g : List Need) (b : BoundPart) (bs : List BoundPart) (last : T.Expression) → n1 ≡ n0 ++ needs p b.bound → n0 ++ parts_needs p (block_of (b ∷ bs) last) ≡ g → n1 ++ parts_needs p (block_of bs last) ≡ g
bound_kept p n0 n1 g b bs last e inv = ap (λ z. z ++ parts_needs p (block_of bs last)) e ∙ append_assoc n0 (needs p b.bound) (parts_needs p (block_of bs last)) ∙ inv

pub bound_noted : (p : T.Program) (i : ℕ) (fip : Bool) (l0 l1 g : Option Violation) (b : BoundPart) (bs : List BoundPart) (last : T.Expression) → l1 ≡ after l0 (notes p i fip b.bound) → after l0 (block_notes p i fip (block_of (b ∷ bs) last)) ≡ g → after l1 (block_notes p i fip (block_of bs last)) ≡ g
bound_noted p i fip l0 l1 g b bs last e inv = ap (λ z. after z (block_notes p i fip (block_of bs last))) e ∙ sym (after-append l0 (notes p i fip b.bound) (block_notes p i fip (block_of bs last))) ∙ inv

-- ---- lists from a place on

-- ---- the end of a block

pub bound_is : (d : Binding) → expression (out-Binding d).bound ≡ (binding d).bound
bound_is d = ap (λ (z : BoundPart). z.bound) (sym (binding_is d))

whole_is : (d : Block) (items : List Binding) → items ≡ (out-Block d).bindings.items → block_of (map binding items) (expression (out-Block d).last) ≡ block d
whole_is d items v = ap (λ xs. block_of (map binding xs) (expression (out-Block d).last)) v ∙ sym (block_is d)

last_is : (d : Block) (items : List Binding) (i : ℕ) → length items ≤ i → T.Last (expression (out-Block d).last) ≡ block_of (map binding (drop i items)) (expression (out-Block d).last)
last_is d items i l = ap (λ xs. block_of (map binding xs) (expression (out-Block d).last)) (sym (drop_end items i l))

pub end_sizes : (p : T.Program) (d : Block) (items : List Binding) (i : ℕ) (xs s x1 : List ℕ) → length items ≤ i → items ≡ (out-Block d).bindings.items → s ≡ sizes p (expression (out-Block d).last) → x1 ≡ plus xs s → block_sizes p xs (block_of (map binding (drop i items)) (expression (out-Block d).last)) ≡ block_sizes p no_sizes (block_of (map binding items) (expression (out-Block d).last)) → x1 ≡ block_sizes p no_sizes (block d)
end_sizes p d items i xs s x1 l v h e inv = e ∙ ap (plus xs) h ∙ ap (block_sizes p xs) (last_is d items i l) ∙ inv ∙ ap (block_sizes p no_sizes) (whole_is d items v)

pub end_kept : (p : T.Program) (d : Block) (items : List Binding) (i : ℕ) (n0 n1 n2 : List Need) → length items ≤ i → items ≡ (out-Block d).bindings.items → n2 ≡ n1 ++ needs p (expression (out-Block d).last) → n1 ++ parts_needs p (block_of (map binding (drop i items)) (expression (out-Block d).last)) ≡ n0 ++ parts_needs p (block_of (map binding items) (expression (out-Block d).last)) → n2 ≡ n0 ++ parts_needs p (block d)
end_kept p d items i n0 n1 n2 l v e inv = e ∙ ap (λ z. n1 ++ parts_needs p z) (last_is d items i l) ∙ inv ∙ ap (λ z. n0 ++ parts_needs p z) (whole_is d items v)

pub end_noted : (p : T.Program) (j : ℕ) (fip : Bool) (d : Block) (items : List Binding) (i : ℕ) (l0 l1 l2 : Option Violation) → length items ≤ i → items ≡ (out-Block d).bindings.items → l2 ≡ after l1 (notes p j fip (expression (out-Block d).last)) → after l1 (block_notes p j fip (block_of (map binding (drop i items)) (expression (out-Block d).last))) ≡ after l0 (block_notes p j fip (block_of (map binding items) (expression (out-Block d).last))) → l2 ≡ after l0 (block_notes p j fip (block d))
end_noted p j fip d items i l0 l1 l2 l v e inv = e ∙ ap (λ z. after l1 (block_notes p j fip z)) (last_is d items i l) ∙ inv ∙ ap (λ z. after l0 (block_notes p j fip z)) (whole_is d items v)

-- ---- instances, one after another

rows_append : (vs : List (Vec Need Global)) (v : Vec Need Global) → map needs_row (vs ++ v ∷ []) ≡ map needs_row vs ++ v.items ∷ []
rows_append [] v = refl
rows_append (w ∷ vs) v = ap (λ (q : List (List Need)). w.items ∷ q) (rows_append vs v)

pub next_needs : (p : T.Program) (vs ws : List (Vec Need Global)) (v : Vec Need Global) (d : T.Instance) (ds : List T.Instance) (g : List (List Need)) → ws ≡ vs ++ v ∷ [] → v.items ≡ instance_needs p d.kind d → map needs_row vs ++ all_needs p (d ∷ ds) ≡ g → map needs_row ws ++ all_needs p ds ≡ g
next_needs p vs ws v d ds g e h inv =
    ap (λ z. map needs_row z ++ all_needs p ds) e ∙ ap (λ z. z ++ all_needs p ds) (rows_append vs v) ∙ append_assoc (map needs_row vs) (v.items ∷ []) (all_needs p ds)
    ∙ ap (λ z. map needs_row vs ++ z ∷ all_needs p ds) h ∙ inv

pub next_noted : (p : T.Program) (n : ℕ) (l0 l1 g : Option Violation) (d : T.Instance) (ds : List T.Instance) → l1 ≡ after l0 (instance_notes p n d.kind d) → after l0 (all_notes p n (d ∷ ds)) ≡ g → after l1 (all_notes p (n + 1) ds) ≡ g
next_noted p n l0 l1 g d ds h inv =
    let A = instance_notes p n d.kind d in
    let s : n + 1 ≡ suc n = omega arith in
    ap (λ z. after z (all_notes p (n + 1) ds)) h ∙ ap (λ k. after (after l0 A) (all_notes p k ds)) s ∙ sym (after-append l0 A (all_notes p (suc n) ds)) ∙ inv
