-- A value that matches a pattern has the cells of what the pattern's variables stand for, and one for each of its nodes.
use Rattle.std.proofs.Common.{◌≡◌, ℕ, zero, suc, ◌+◌, true, List, [], ◌∷◌, ◌++◌, map, Some, if◌then◌else◌, ◌==◌, refl, sym, ap, ◌∙◌, subst, arith}
use Rattle.std.proofs.lemmas.Bool.{eqb-true}
use Rattle.std.proofs.lemmas.Bool.Decides.{nat_tests}
use Rattle.std.specs.Prelude.{nat_eq}
use Rattle.tail_groups.specs.fip_language.Values.{Value, Int, Node, Values, End, More, count_of, one_of_size, cells, cells_of_all}
use Rattle.tail_groups.specs.fip_language.Table.{Table, HasType, HaveTypes}
use Rattle.tail_groups.specs.fip_language.Matching.{Binding, same_int}
use Rattle.tail_groups.specs.fip_language.Meaning.{Environment, bind, bind_matched}
use Rattle.tail_groups.specs.fip_trees.declared.program.Binder.{Binder}
use Rattle.tail_groups.specs.fip_trees.Tree.{Pattern, BinderPattern, LiteralPattern, ConstructorPattern, Patterns, NoPatterns, MorePatterns, count_patterns}
use Rattle.type_safety.specs.type_check.Scope.{Scope}
use Rattle.type_safety.specs.type_check.Binders.{entry}
use Rattle.type_safety.specs.type_check.World.{World, fields_of}
use Rattle.type_safety.specs.type_check.Typing.{IsPattern, ArePatterns, bound_by, bound_by_all}
use Rattle.ownership_agreement.specs.fip_rules.Shapes.{binders, binders_all}
use Rattle.type_safety.specs.instance_semantics.Matching.{matching, matching_all}
use Rattle.type_safety.specs.instance_semantics.Meaning.{bind_binders}
use Rattle.type_safety.proofs.Scopes.{children_have, halves, when_same, is_same, bound_fields, bind_matched-append}
use Rattle.ownership_agreement.specs.ownership_calculus.Terms.{one, given, paid, Credit}
use Rattle.ownership_agreement.specs.Bodies.{node, nodes, nodes_all}
use Rattle.in_place_safety.proofs.Binding.{slots, slot_entries}
use Rattle.ownership_agreement.proofs.Amounts.{given_append}

-- ---- lists of values

abbrev pub joined : Values → Values → Values
joined End ws = ws
joined (More v vs) ws = More v (joined vs ws)

joined_cells : (k : ℕ) (vs ws : Values) → cells_of_all k (joined vs ws) ≡ cells_of_all k vs + cells_of_all k ws
joined_cells k End ws = omega arith
joined_cells k (More v vs) ws = let h = joined_cells k vs ws in omega arith

joined_typed : (tb : Table) (as' bs : List Binder) (vs ws : Values) → HaveTypes tb (slots as') vs → HaveTypes tb (slots bs) ws → HaveTypes tb (slots (as' ++ bs)) (joined vs ws)
joined_typed tb [] bs End ws h g = g
joined_typed tb [] bs (More v vs) ws h g = absurd h
joined_typed tb (a ∷ as') bs End ws h g = absurd h
joined_typed tb (a ∷ as') bs (More v vs) ws h g = (h.0, joined_typed tb as' bs vs ws h.1 g)

joined_bound : (tb : Table) (as' bs : List Binder) (vs ws : Values) (env : Environment) → HaveTypes tb (slots as') vs → bind_binders env (as' ++ bs) (joined vs ws) ≡ bind_binders (bind_binders env as' vs) bs ws
joined_bound tb [] bs End ws env h = refl
joined_bound tb [] bs (More v vs) ws env h = absurd h
joined_bound tb (a ∷ as') bs End ws env h = absurd h
joined_bound tb (a ∷ as') bs (More v vs) ws env h = joined_bound tb as' bs vs ws (bind env a.number v) h.1

-- ---- numbers of nodes

turned : (m n : ℕ) → (if nat_eq m n then 1 else 0) ≡ one n m
turned m n = grind (arith, nat_tests)

-- a node with n children is a cell of its size, and uses up a credit
pub size_paid : (k n : ℕ) → one_of_size k n ≡ paid n (Credit k)
size_paid k zero = refl
size_paid k (suc n) = turned k (suc n)

node_given : (k n : ℕ) → given k (node n) ≡ one_of_size k n
node_given k zero = refl
node_given k (suc n) = let h = turned k (suc n) in omega arith

-- ---- what a match binds

pub record Matched (tb : Table) (q : Pattern) (v : Value) (bs : List Binding) : Type 0 where
  pub values : Values
  pub bound : (env : Environment) → bind_matched env bs ≡ bind_binders env (binders q) values
  pub typed : HaveTypes tb (slots (binders q)) values
  pub counted : (k : ℕ) → cells k v ≡ cells_of_all k values + given k (nodes q)

record AllMatched (tb : Table) (ps : Patterns) (vs : Values) (bs : List Binding) : Type 0 where
  values : Values
  bound : (env : Environment) → bind_matched env bs ≡ bind_binders env (binders_all ps) values
  typed : HaveTypes tb (slots (binders_all ps)) values
  counted : (k : ℕ) → cells_of_all k vs ≡ cells_of_all k values + given k (nodes_all ps)
  length : count_of vs ≡ count_patterns ps

module _ (w : World) where
  mutual
    pub matched : (t : ℕ) (q : Pattern) (v : Value) (bs : List Binding) → IsPattern true w t q → HasType w.types t v → matching q v ≡ Some bs → Matched w.types q v bs
    matched t (BinderPattern b) v bs i h e =
        let same : record { binder = b.number; value = v } ∷ [] ≡ bs = cc in
        record {
          values = More v End;
          bound = λ env. ap (bind_matched env) (sym same);
          typed = (subst (λ n. HasType w.types n v) (sym i) h, tt);
          counted = λ k. omega arith;
        }
    matched t (LiteralPattern j p) (Int i) bs is h e =
        let none : [] ≡ bs = let x = when_same (same_int j i) (Some []) bs e in cc in
        record { values = End; bound = λ env. ap (bind_matched env) (sym none); typed = tt; counted = λ k. refl }
    matched t (LiteralPattern j p) (Node c vs) bs is h e = cc
    matched t (ConstructorPattern u d k n p ps) (Int i) bs is h e = cc
    matched t (ConstructorPattern u d k n p ps) (Node c vs) bs is h e =
        let one : k ≡ c = eqb-true k c (is_same (k == c) (matching_all ps vs) bs e) in
        let typed = subst (λ m. HaveTypes w.types (fields_of w t m) vs) (sym one) (children_have w t c vs h) in
        let r = all_matched (fields_of w t k) ps vs bs is.2 typed (when_same (k == c) (matching_all ps vs) bs e) in
        record {
          values = r.values;
          bound = r.bound;
          typed = r.typed;
          counted = λ m.
              let a = r.counted m in
              let f = ap (one_of_size m) r.length in
              let b = node_given m (count_patterns ps) in
              let g = given_append m (node (count_patterns ps)) (nodes_all ps) in omega arith;
        }

    all_matched : (ts : List ℕ) (ps : Patterns) (vs : Values) (bs : List Binding) → ArePatterns true w ts ps → HaveTypes w.types ts vs → matching_all ps vs ≡ Some bs → AllMatched w.types ps vs bs
    all_matched ts NoPatterns End bs is h e =
        let none : [] ≡ bs = cc in
        record { values = End; bound = λ env. ap (bind_matched env) (sym none); typed = tt; counted = λ k. refl; length = refl }
    all_matched ts NoPatterns (More v vs) bs is h e = cc
    all_matched ts (MorePatterns q ps) End bs is h e = cc
    all_matched [] (MorePatterns q ps) (More v vs) bs is h e = absurd is
    all_matched (t ∷ ts) (MorePatterns q ps) (More v vs) bs is h e =
        let x = halves (matching q v) (matching_all ps vs) bs e in
        let a = matched t q v x.first is.0 h.0 x.is_first in
        let b = all_matched ts ps vs x.second is.1 h.1 x.is_second in
        record {
          values = joined a.values b.values;
          bound = λ env.
              ap (bind_matched env) (sym x.are) ∙ bind_matched-append env x.first x.second ∙ b.bound (bind_matched env x.first)
              ∙ ap (λ r. bind_binders r (binders_all ps) b.values) (a.bound env)
              ∙ sym (joined_bound w.types (binders q) (binders_all ps) a.values b.values env a.typed);
          typed = joined_typed w.types (binders q) (binders_all ps) a.values b.values a.typed b.typed;
          counted = λ k.
              let f = a.counted k in
              let g = b.counted k in
              let i = joined_cells k a.values b.values in
              let j = given_append k (nodes q) (nodes_all ps) in omega arith;
          length = ap suc b.length;
        }

  entries_append : (as' bs : List Binder) → slot_entries (as' ++ bs) ≡ slot_entries as' ++ slot_entries bs
  entries_append [] bs = refl
  entries_append (a ∷ as') bs = ap (λ es. entry (Some a.ty) a ∷ es) (entries_append as' bs)

  mutual
    pub bound_entries : (t : ℕ) (q : Pattern) → IsPattern true w t q → bound_by w (Some t) q ≡ slot_entries (binders q)
    bound_entries t (BinderPattern b) is = ap (λ u. entry (Some u) b ∷ []) (sym is)
    bound_entries t (LiteralPattern i p) is = refl
    bound_entries t (ConstructorPattern u d c n p ps) is = sym (bound_fields w t d c ps is.1) ∙ all_entries (fields_of w t c) ps is.2

    all_entries : (ts : List ℕ) (ps : Patterns) → ArePatterns true w ts ps → bound_by_all w (map Some ts) ps ≡ slot_entries (binders_all ps)
    all_entries ts NoPatterns is = refl
    all_entries [] (MorePatterns q ps) is = absurd is
    all_entries (t ∷ ts) (MorePatterns q ps) is =
        ap (λ (es : Scope). es ++ bound_by_all w (map Some ts) ps) (bound_entries t q is.0) ∙ ap (λ (es : Scope). slot_entries (binders q) ++ es) (all_entries ts ps is.1)
        ∙ sym (entries_append (binders q) (binders_all ps))
