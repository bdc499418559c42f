-- The code of `rev` is lowered: a list is Nil or a Cons, and each is led to its clause.
use Rattle.std.proofs.Common.{◌≡◌, ◌⊎◌, inl, inr, ℕ, zero, suc, List, [], ◌∷◌, Option, Some, refl, sym, ap, ◌∙◌, subst, arith, slice_get}
use Rattle.tree_semantics.specs.fip_language.Example.{here}
use Rattle.std.specs.Prelude.{codes, option_and_then, if◌then◌else◌}
use Rattle.tree_semantics.specs.fip_language.Values.{Value, Int, Node, Values, End, More}
use Rattle.tree_semantics.specs.fip_language.Table.{Shape, HasType, HaveTypes}
use Rattle.tree_semantics.specs.fip_language.Every.{Among}
use Rattle.tree_semantics.specs.fip_language.Matching.{Binding}
use Rattle.tree_semantics.specs.fip_language.Meaning.{nothing_bound, bind_matched}
use Rattle.credit_check.specs.fip_trees.Tree.{Block, Last, Call, MoreArguments, NoArguments, NoClauses, MoreClauses}
use Rattle.instance_semantics.specs.Matching.{matching}
use Rattle.instance_semantics.specs.Example.{rev, lists, nil_pattern, cons_pattern, var, cons}
use Rattle.tree_semantics.specs.Contents.{Contents, put, put_all, children}
use Rattle.tree_semantics.specs.Steps.{is_node}
use Rattle.tree_semantics.proofs.Puts.{put_same, put_other}
use Rattle.lowering_relation.specs.declared.held.Held.TheVariants as H
use Rattle.lowering_relation.specs.Known.{Known, register_of}
use Rattle.lowering_relation.specs.Tidy.{Fixed, Unknown}
use Rattle.lowering_relation.specs.Choosing.{place, after, Arrives, ArrivesIf, Chooses, Opens}
use Rattle.lowering_relation.specs.LoweredBodies.{GiveUp, handed}
use Rattle.lowering_relation.specs.Values.{IsVariable, with_put}
use Rattle.lowering_relation.specs.LoweredFunctions.{IsFunction}
use Rattle.lowering_relation.specs.LoweredExample.{lists_setting, instrs, at_start, at_nil, at_cons}
use Rattle.match_knowledge.proofs.fip_base.fip_language.Facts.{same_some}
use Rattle.lowering_relation.proofs.LaidReversing.{variable_at}

no_children : (vs : Values) → HaveTypes lists.types [] vs → vs ≡ End
no_children End h = refl
no_children (More v vs) h = absurd h

two_children : (vs : Values) → HaveTypes lists.types (0 ∷ 2 ∷ []) vs → (i : Value) × (w : Value) × (vs ≡ More i (More w End))
two_children End h = absurd h
two_children (More i End) h = absurd h.1
two_children (More i (More w End)) h = (i, w, refl)
two_children (More i (More w (More u us))) h = absurd h.1.1

abbrev IsCons : Value → Type 0
IsCons v = (i : Value) × (w : Value) × (v ≡ Node 1 (More i (More w End)))

list_is : (v : Value) → HasType lists.types 2 v → (v ≡ Node 0 End) ⊎ IsCons v
list_is (Int i) h = absurd h
list_is (Node zero vs) h = inl (ap (Node 0) (no_children vs (subst (λ (s : Shape). HaveTypes lists.types s.fields vs) (sym (same_some _ h.0 h.1)) h.2)))
list_is (Node (suc zero) vs) h =
    let two = two_children vs (subst (λ (s : Shape). HaveTypes lists.types s.fields vs) (sym (same_some _ h.0 h.1)) h.2) in
    inr (two.0, two.1, ap (Node 1) two.2)
list_is (Node (suc (suc c)) vs) h = let e = h.1 in absurd (cc)

nothing_is : (r t c : ℕ) → slice_get (H.Nothing ∷ H.Nothing ∷ H.Nothing ∷ []) r ≡ Some (H.Bare t c) → ⊥
nothing_is zero t c e = absurd (cc)
nothing_is (suc zero) t c e = absurd (cc)
nothing_is (suc (suc zero)) t c e = absurd (cc)
nothing_is (suc (suc (suc r))) t c e = absurd (cc)

bare_is : (r t c : ℕ) → slice_get at_nil.known.held r ≡ Some (H.Bare t c) → (r ≡ 0) × (c ≡ 0)
bare_is zero t c e = (refl, cc)
bare_is (suc zero) t c e = absurd (cc)
bare_is (suc (suc zero)) t c e = absurd (cc)
bare_is (suc (suc (suc zero))) t c e = absurd (cc)
bare_is (suc (suc (suc (suc r)))) t c e = absurd (nothing_is r t c e)

no_bare : (r t c : ℕ) → slice_get at_cons.known.held r ≡ Some (H.Bare t c) → ⊥
no_bare zero t c e = absurd (cc)
no_bare (suc zero) t c e = absurd (cc)
no_bare (suc (suc zero)) t c e = absurd (cc)
no_bare (suc (suc (suc zero))) t c e = absurd (cc)
no_bare (suc (suc (suc (suc r)))) t c e = nothing_is r t c e

arrives_nil : (cs : Contents) → cs 0 ≡ Node 0 End → Arrives instrs (place 0 cs) at_start [] at_nil
arrives_nil cs e = record {
  contents = cs;
  reaches = record { steps = 1; is = ap (λ v. Some (place (if is_node 0 v then 1 else 3) cs)) e };
  kept = λ r f. refl;
  names = λ x r h. inr h;
  bound = λ x r v h g. absurd (cc);
  bares = λ r t c h. let two = bare_is r t c h in inr (ap cs two.0 ∙ e ∙ ap (λ d. Node d End) (sym two.1));
}

abbrev bound_two : Value → Value → List Binding
bound_two i w = record { binder = 2; value = i } ∷ record { binder = 3; value = w } ∷ []

abbrev after_cons : Contents → Value → Value → Contents
after_cons cs i w = put_all cs (2 ∷ 3 ∷ []) (More i (More w End))

cons_names : (i w : Value) (x r : ℕ) → register_of at_cons.known.names (Some x) ≡ Some r → Among x (2 ∷ 3 ∷ []) ⊎ (register_of at_start.names (Some x) ≡ Some r)
cons_names i w zero r h = absurd (cc)
cons_names i w (suc zero) r h = inr h
cons_names i w (suc (suc zero)) r h = inl (inl refl)
cons_names i w (suc (suc (suc zero))) r h = inl (inr (inl refl))
cons_names i w (suc (suc (suc (suc x)))) r h = absurd (cc)

cons_bound : (cs : Contents) (i w : Value) (x r : ℕ) (v : Value) → register_of at_cons.known.names (Some x) ≡ Some r → bind_matched nothing_bound (bound_two i w) x ≡ Some v → after_cons cs i w r ≡ v
cons_bound cs i w zero r v h g = absurd (cc)
cons_bound cs i w (suc zero) r v h g = absurd (cc)
cons_bound cs i w (suc (suc zero)) r v h g =
    ap (after_cons cs i w) (sym (same_some 2 r h)) ∙ put_other (put cs 2 i) 3 w 2 (λ e. absurd (omega (arith, e))) ∙ put_same cs 2 i 2 refl ∙ same_some i v g
cons_bound cs i w (suc (suc (suc zero))) r v h g =
    ap (after_cons cs i w) (sym (same_some 3 r h)) ∙ put_same (put cs 2 i) 3 w 3 refl ∙ same_some w v g
cons_bound cs i w (suc (suc (suc (suc x)))) r v h g = absurd (cc)

arrives_cons : (cs : Contents) (i w : Value) → cs 0 ≡ Node 1 (More i (More w End)) → Arrives instrs (place 0 cs) at_start (bound_two i w) at_cons
arrives_cons cs i w e = record {
  contents = after_cons cs i w;
  reaches = record {
    steps = 2;
    is = ap (option_and_then (λ q. after instrs 1 q)) (ap (λ v. Some (place (if is_node 0 v then 1 else 3) cs)) e)
        ∙ ap (λ v. Some (place 4 (put_all cs (2 ∷ 3 ∷ []) (children v)))) e;
  };
  kept = λ r f. let lt = f.used in put_other (put cs 2 i) 3 w r (λ x. absurd (omega (arith, lt, x))) ∙ put_other cs 2 i r (λ x. absurd (omega (arith, lt, x)));
  names = cons_names i w;
  bound = cons_bound cs i w;
  bares = λ r t c h. absurd (no_bare r t c h);
}

-- only the parameters' registers are used before
no_other : (d : ℕ) → Unknown at_start d → (0 ≡ d → ⊥) → ⊥
no_other zero u ne = ne refl
no_other (suc zero) u ne = u.unnamed 1 1 refl refl
no_other (suc (suc d)) u ne = let lt = u.fixed.used in absurd (omega (arith, lt))

opens_nil : Opens at_start 0 at_nil.known
opens_nil = record {
  tidy = λ f t. record {
    named = λ x r h. record { used = let lt = (t.named x r h).used in omega (arith, lt); kept = tt };
    bare = λ r u c h. record { used = let e = (bare_is r u c h).0 in omega (arith, e); kept = tt };
    once = tt;
    below = tt;
  };
  unknown = λ d u ne. absurd (no_other d u ne);
}

cons_fixed : (x r : ℕ) → register_of at_cons.known.names (Some x) ≡ Some r → Fixed at_cons.known r
cons_fixed zero r h = absurd (cc)
cons_fixed (suc zero) r h = subst (Fixed at_cons.known) (same_some 1 r h) (record { used = omega arith; kept = (λ e. absurd (omega (arith, e)), tt) })
cons_fixed (suc (suc zero)) r h = subst (Fixed at_cons.known) (same_some 2 r h) (record { used = omega arith; kept = (λ e. absurd (omega (arith, e)), tt) })
cons_fixed (suc (suc (suc zero))) r h = subst (Fixed at_cons.known) (same_some 3 r h) (record { used = omega arith; kept = (λ e. absurd (omega (arith, e)), tt) })
cons_fixed (suc (suc (suc (suc x)))) r h = absurd (cc)

opens_cons : Opens at_start 0 at_cons.known
opens_cons = record {
  tidy = λ f t. record {
    named = cons_fixed;
    bare = λ r u c h. absurd (no_bare r u c h);
    once = (tt, tt);
    below = (omega arith, tt);
  };
  unknown = λ d u ne. absurd (no_other d u ne);
}

nothing_given_up : (at : ℕ) → GiveUp instrs 0 at
nothing_given_up at p le lt = absurd (omega (arith, le, lt))

one_given_up : GiveUp instrs 1 1
one_given_up zero le lt = absurd (omega (arith, le))
one_given_up (suc zero) le lt = tt
one_given_up (suc (suc p)) le lt = absurd (omega (arith, lt))

chosen : (body : Block) (cs : Contents) → HasType lists_setting.types 2 (cs 0) → ArrivesIf instrs (place 0 cs) at_start (matching nil_pattern (cs 0)) at_nil (Chooses instrs (place 0 cs) at_start (cs 0) (MoreClauses (cons_pattern 2 3) body NoClauses) (at_cons ∷ []))
chosen body cs h = by_value (list_is (cs 0) h)
  where
    by_value : (cs 0 ≡ Node 0 End) ⊎ IsCons (cs 0) → ArrivesIf instrs (place 0 cs) at_start (matching nil_pattern (cs 0)) at_nil (Chooses instrs (place 0 cs) at_start (cs 0) (MoreClauses (cons_pattern 2 3) body NoClauses) (at_cons ∷ []))
    by_value (inl e) = subst (λ v. ArrivesIf instrs (place 0 cs) at_start (matching nil_pattern v) at_nil (Chooses instrs (place 0 cs) at_start v (MoreClauses (cons_pattern 2 3) body NoClauses) (at_cons ∷ []))) (sym e) (arrives_nil cs e)
    by_value (inr c) = subst (λ v. ArrivesIf instrs (place 0 cs) at_start (matching nil_pattern v) at_nil (Chooses instrs (place 0 cs) at_start v (MoreClauses (cons_pattern 2 3) body NoClauses) (at_cons ∷ []))) (sym c.2) (arrives_cons cs c.0 c.1 c.2)

abbrev with_cons : Known
with_cons = with_put at_cons.known [] 2 1 0 (2 ∷ 1 ∷ [])

abbrev rest : Block
rest = Last (Call 0 (codes "rev") here (MoreArguments (var 3 (codes "t")) (MoreArguments (cons (var 2 (codes "x")) (var 1 (codes "acc"))) NoArguments)))

pub rev_is_lowered : IsFunction lists_setting 7 instrs rev
rev_is_lowered = record {
  end = 6;
  after = at_start;
  body = (
    0,
    0,
    at_start,
    0,
    at_nil,
    at_cons ∷ [],
    variable_at 0 at_start (Some 0) 0 refl,
    nothing_given_up 0,
    record { chooses = chosen rest },
    (
      3,
      at_nil.known,
      opens_nil,
      (1, 1, at_nil.known, variable_at 1 at_nil.known (Some 1) 1 refl, record { given_up = 1; give_up = one_given_up; written = refl; one = refl }),
      tt,
    ),
    (
      (
        6,
        at_cons.known,
        opens_cons,
        (
          3 ∷ 0 ∷ [],
          5,
          with_cons,
          (
            4,
            at_cons.known,
            variable_at 4 at_cons.known (Some 3) 3 refl,
            (
              5,
              with_cons,
              (
                2 ∷ 1 ∷ [],
                4,
                at_cons.known,
                (4, at_cons.known, variable_at 4 at_cons.known (Some 2) 2 refl, (4, at_cons.known, variable_at 4 at_cons.known (Some 1) 1 refl, (refl, refl))),
                record { credits = []; taken = record { before = []; following = []; was = refl; left = refl }; written = refl; one = refl; known = refl },
              ),
              (refl, refl),
            ),
          ),
          record {
            function = 0;
            instance = rev;
            credits = [];
            m = record with_cons { held = handed with_cons.held rev.params (3 ∷ 0 ∷ []) };
            numbered = refl;
            there = refl;
            taken = refl;
            ends = record { given_up = 0; give_up = nothing_given_up 5; written = refl; one = refl };
          },
        ),
        tt,
      ),
      tt,
    ),
  );
}
