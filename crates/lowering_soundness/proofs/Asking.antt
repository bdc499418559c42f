-- What an expression may use up it asks for, and it asks for no fewer credits than it needs.
use Rattle.std.proofs.Common.{◌≡◌, ◌⊎◌, inl, inr, ℕ, zero, suc, ◌+◌, ◌-◌, ◌<◌, ◌≤◌, Bool, true, false, ◌&&◌, ◌||◌, not, List, [], ◌∷◌, ◌++◌, length, map, slice_get, Option, Some, None, refl, sym, ap, ◌∙◌, subst, true≢false, arith, if◌then◌else◌, ◌==◌}
use Rattle.std.specs.Prelude.{max}
use Rattle.std.proofs.lemmas.Bool.Decides.{nat_tests}
use Rattle.separation.specs.fip_base.declared.plain.Param.{Param}
use Rattle.lowering_relation.specs.fip_trees.declared.program.Binder.{Binder}
use Rattle.lowering_relation.specs.fip_trees.Sizes as Z
use Rattle.lowering_relation.specs.fip_trees.Sizes.{greater}
use Rattle.lowering_relation.specs.fip_trees.Tree.{Argument, Variable, Literal, Constructor, Arguments, NoArguments, MoreArguments, count}
use Rattle.lowering_relation.specs.fip_trees.Tree.{Pattern, Clauses, NoClauses, MoreClauses, Instance}
use Rattle.lowering_relation.specs.fip_trees.Tree.{Expression, Give, Tuple, Operation, Call, Match, Nested, Block, Last, Let}
use Rattle.derivation_making.specs.fip_rules.Marks.{Mark}
use Rattle.derivation_making.specs.fip_rules.World as R
use Rattle.derivation_making.specs.fip_rules.World.{lends, lends_to, lends_parameter}
use Rattle.derivation_making.specs.fip_rules.Shapes.{Names, following, shape, binders, takes}
use Rattle.derivation_making.specs.type_check.Binders.{all_annotated, entries}
use Rattle.derivation_making.specs.type_check.Scope.{Scope, of_binder}
use Rattle.derivation_making.specs.type_check.World as W
use Rattle.derivation_making.specs.type_check.Typing.{HasType, HaveTypes, Types, TypesBlock, TypesClauses, Bind, IsPattern, bound_by}
use Rattle.lowering_relation.specs.credit_check.Needs.{made, made_all, asked, given}
use Rattle.derivation_making.specs.ownership_calculus.Terms.{Own, Credit, has, size, paid}
use Rattle.derivation_making.specs.ownership_calculus.Terms as C
use Rattle.derivation_making.specs.ownership_calculus.Clean.{used_up, all_used_up, lent_used_up, passed_used_up, outside, asks, asks_lent, asks_taken}
use Rattle.derivation_making.specs.ownership_agreement.Bodies.{Scalars, variable, value, values, lent_value, credits_of, passed, variables, entering, inside, past_clause, matched, nodes, term, term_block, clauses}
use Rattle.derivation_making.proofs.ownership_agreement.Basics.{not_owned}
use Rattle.derivation_making.proofs.ownership_agreement.Amounts.{max_greater, header_given, gives, gives_given, asks_of, asks_last, asks_more}
use Rattle.derivation_making.proofs.Linking.{next_inside}
use Rattle.derivation_making.proofs.Reading.{next_after, next_past}
use Rattle.separation.specs.cell_code.Plain.{PlainCode}
use Rattle.separation.specs.code_rules.Types.{is_type, is_scalar_type}
use Rattle.separation.proofs.separation_kinds.Basics.{refused, or_not, equal, itself}
use Rattle.lowering_relation.specs.Values.{Setting, is_scalar}
use Rattle.lowering_relation.specs.Uses.{uses, uses_all, is_taken, takes_of, uses_passed, used_in, used_in_block, used_in_clauses, gives_credits, need, need_block, need_clauses}
use Rattle.lowering_soundness.specs.Laid.{Shares}
use Rattle.lowering_soundness.specs.Placed.{Placed, InOrder, Numbered, NumberedBlock, NumberedClauses, AreTypes, Callees}
use Rattle.lowering_soundness.proofs.Arguments.{with_field}
use Rattle.lowering_soundness.proofs.Scoping.{some_placed}
use Rattle.lowering_soundness.proofs.Lets.{scope_later, entries_same, bind_slots}
use Rattle.lowering_soundness.proofs.Typed.{argument_type, expression_types}
use Rattle.lowering_soundness.proofs.Openings.{slots}
use Rattle.lowering_soundness.proofs.Clauses.{entries_slots, pattern_fields, slots_hold, bound_is}
use Rattle.tail_groups.proofs.fip_language.Facts.{and_both as both_true, not_true as not_false, or_cases as either, positive_unequal as no_zero}

max_left : (m n a : ℕ) → a ≤ m → a ≤ max m n
max_left m n a h = grind (arith, nat_tests)

max_right : (m n a : ℕ) → a ≤ n → a ≤ max m n
max_right m n a h = grind (arith, nat_tests)

max_both : (m n a b : ℕ) → a ≤ m → b ≤ n → greater a b ≤ max m n
max_both m n a b h i = let z = max_greater a b in let y : max a b ≤ max m n = grind (arith, nat_tests) in omega (arith, y, z)

-- ---- credits

if_one : (b : Bool) → (if b then 1 else 0) ≡ Z.one_if b
if_one true = refl
if_one false = refl

paid_at : (n k : ℕ) → 0 < k → paid n (Credit k) ≡ Z.one_if (n == k)
paid_at zero k h = let e = no_zero k h in rw (e) refl
paid_at (suc n) k h = if_one (suc n == k)

size_values : (sc : Scalars) (ms : List Mark) (as' : Arguments) → size (values sc ms as') ≡ count as'
size_values sc ms NoArguments = refl
size_values sc ms (MoreArguments a as') = ap suc (size_values sc ms as')

sum_le : (a b m n : ℕ) → a ≤ m → b ≤ n → a + b ≤ m + n
sum_le a b m n h i = omega (arith, h, i)

mutual
  value_needs : (k : ℕ) → 0 < k → (sc : Scalars) (ms : List Mark) (a : Argument) → made k a ≤ used_up (value sc ms a) (Credit k)
  value_needs k h sc ms (Variable x n p) = omega arith
  value_needs k h sc ms (Literal i p) = omega arith
  value_needs k h sc ms (Constructor t d c n p as') =
      let e = ap (λ m. paid m (Credit k)) (size_values sc ms as') ∙ paid_at (count as') k h in
      let z = values_need k h sc ms as' in
      sum_le (Z.one_if (count as' == k)) (made_all k as') (paid (size (values sc ms as')) (Credit k)) (all_used_up (values sc ms as') (Credit k)) (omega (arith, e)) z

  values_need : (k : ℕ) → 0 < k → (sc : Scalars) (ms : List Mark) (as' : Arguments) → made_all k as' ≤ all_used_up (values sc ms as') (Credit k)
  values_need k h sc ms NoArguments = omega arith
  values_need k h sc ms (MoreArguments a as') = sum_le (made k a) (made_all k as') (used_up (value sc ms a) (Credit k)) (all_used_up (values sc ms as') (Credit k)) (value_needs k h sc ms a) (values_need k h sc ms as')

asked_given : (k : ℕ) (o : Option Instance) → C.given k (credits_of o) ≡ asked k o
asked_given k None = refl
asked_given k (Some d) = header_given k d.credits

matched_asks : (k : ℕ) (w : R.World) (sc : Scalars) (ms : List Mark) (b : Bool) (a : Argument) (cs : C.Clauses) → asks_of b k cs ≤ asks (Credit k) (matched w sc ms b a cs)
matched_asks k w sc ms true a cs = omega arith
matched_asks k w sc ms false a cs = omega arith

module _ (c : PlainCode) (st : Setting) (wd : W.World) (w : R.World) (shares : Shares c st wd) (callees : Callees c st wd w) where
  -- ---- scopes

  clause_placed : (z : Scope) (sc : Scalars) (n : Names) (taken : Bool) (q : Pattern) (t : ℕ) → Placed c z sc n → InOrder n.next (binders q) → IsPattern true wd t q → is_type c.types t ≡ true → Placed c (z ++ bound_by wd (Some t) q) (entering w n.next sc (binders q)) (inside w taken n (binders q))
  clause_placed z sc n taken q t placed order pattern typed =
      subst (λ es. Placed c (z ++ es) (entering w n.next sc (binders q)) (inside w taken n (binders q))) (entries_slots (binders q) ∙ sym (bound_is c st wd w shares callees q t pattern))
      (some_placed c w callees.scalars taken z sc n (binders q) (slots (binders q)) placed order (slots_hold c st wd w shares callees q t typed pattern))

  clause_scope : (z : Scope) (n : Names) (q : Pattern) (t x : ℕ) → InOrder n.next (binders q) → IsPattern true wd t q → x < n.next → of_binder (z ++ bound_by wd (Some t) q) (Some x) ≡ of_binder z (Some x)
  clause_scope z n q t x order pattern low =
      ap (λ es. of_binder (z ++ es) (Some x)) (bound_is c st wd w shares callees q t pattern ∙ sym (entries_slots (binders q)))
      ∙ scope_later z n.next (binders q) (slots (binders q)) x order low

  pub later : (n : Names) (e : Expression) → n.next ≤ (following n (shape w n e)).next
  later n e = let z = next_after w n e in omega (arith, z)

  after_placed : (s : Scope) (sc : Scalars) (n : Names) (e : Expression) → Placed c s sc n → Placed c s sc (following n (shape w n e))
  after_placed s sc n e p = record {
    seen = p.seen;
    scalar = p.scalar;
    before = λ x t h. (let z = p.before x t h in let more = later n e in omega (arith, z, more));
    typed = p.typed;
  }

  past_placed : (s : Scope) (sc : Scalars) (n : Names) (taken : Bool) (q : Pattern) (body : Block) → Placed c s sc n → Placed c s sc (past_clause w taken n q body)
  past_placed s sc n taken q body p = record {
    seen = p.seen;
    scalar = p.scalar;
    before = λ x t h. (let z = p.before x t h in let past = next_past w taken n q body in omega (arith, z, past));
    typed = p.typed;
  }

  let_placed : (z : Scope) (sc : Scalars) (n : Names) (e : Expression) (bs : List Binder) (us : List ℕ) → Placed c z sc n → InOrder (following n (shape w n e)).next bs → Bind true bs us → AreTypes c us → Placed c (z ++ entries bs (map Some us)) (entering w (following n (shape w n e)).next sc bs) (inside w true (following n (shape w n e)) bs)
  let_placed z sc n e bs us placed order bind types =
      subst (λ es. Placed c (z ++ es) (entering w (following n (shape w n e)).next sc bs) (inside w true (following n (shape w n e)) bs)) (sym (entries_same bs us bind))
      (some_placed c w callees.scalars true z sc (following n (shape w n e)) bs us (after_placed z sc n e placed) order (bind_slots c bs us bind types))

  pub let_scope : (z : Scope) (n : Names) (e : Expression) (bs : List Binder) (us : List ℕ) (x : ℕ) → InOrder (following n (shape w n e)).next bs → Bind true bs us → x < (following n (shape w n e)).next → of_binder (z ++ entries bs (map Some us)) (Some x) ≡ of_binder z (Some x)
  let_scope z n e bs us x order bind low =
      ap (λ es. of_binder (z ++ es) (Some x)) (entries_same bs us bind)
      ∙ scope_later z (following n (shape w n e)).next bs us x order low

  -- ---- variables

  -- a variable in scope, which is asked for so often where its type isn't scalar
  pub record Asked (z : Scope) (x m : ℕ) : Type 0 where
    pub type : ℕ
    pub there : of_binder z (Some x) ≡ Some (Some type)
    pub often : is_scalar_type c.types type ≡ false → 1 ≤ m

  more_asked : (z : Scope) (x m n : ℕ) → m ≤ n → Asked z x m → Asked z x n
  more_asked z x m n le a = record { type = a.type; there = a.there; often = λ e. (let y = a.often e in omega (arith, y, le)) }

  same_asked : (z s : Scope) (x m : ℕ) → of_binder z (Some x) ≡ of_binder s (Some x) → Asked z x m → Asked s x m
  same_asked z s x m e a = record { type = a.type; there = sym e ∙ a.there; often = a.often }

  named_once : (x : ℕ) → used_up (C.Named x) (Own x) ≡ 1
  named_once x = ap (λ b. if b then 1 else 0) (itself x)

  mutual
    value_asks : (z : Scope) (sc : Scalars) (n : Names) → Placed c z sc n → (b : Bool) (a : Argument) (t x : ℕ) → HasType true wd z b a t → uses x a ≡ true → Asked z x (used_up (value sc n.marks a) (Own x))
    value_asks z sc n placed b (Variable None m p) t x typed used = absurd (true≢false (sym used))
    value_asks z sc n placed b (Variable (Some y) m p) t x typed used =
        let same : y ≡ x = equal y x used in
        subst (λ x. Asked z x (used_up (value sc n.marks (Variable (Some y) m p)) (Own x))) same (record {
          type = t;
          there = typed;
          often = λ e. (
              let once = ap (λ o. used_up (variable sc o) (Own y)) (placed.seen y t typed) ∙ (ap (λ v. used_up v (Own y)) (refused (sc y) C.Scalar (C.Named y) (placed.scalar y t typed ∙ e)) ∙ named_once y) in
              omega (arith, once));
        })
    value_asks z sc n placed b (Literal i p) t x typed used = absurd (true≢false (sym used))
    value_asks z sc n placed b (Constructor u d k m p as') t x typed used =
        more_asked z x (all_used_up (values sc n.marks as') (Own x)) (used_up (value sc n.marks (Constructor u d k m p as')) (Own x)) (omega arith)
        (values_ask z sc n placed true as' (W.fields_of wd t k) x typed.2 used)

    values_ask : (z : Scope) (sc : Scalars) (n : Names) → Placed c z sc n → (b : Bool) (as' : Arguments) (ts : List ℕ) (x : ℕ) → HaveTypes true wd z b as' ts → uses_all x as' ≡ true → Asked z x (all_used_up (values sc n.marks as') (Own x))
    values_ask z sc n placed b NoArguments ts x typed used = absurd (true≢false (sym used))
    values_ask z sc n placed b (MoreArguments a as') [] x typed used = absurd typed
    values_ask z sc n placed b (MoreArguments a as') (t ∷ ts) x typed used = elim (either (uses x a) (uses_all x as') used) as (λ v. Asked z x (all_used_up (values sc n.marks (MoreArguments a as')) (Own x))) [
      | inl e ↦ more_asked z x (used_up (value sc n.marks a) (Own x)) (all_used_up (values sc n.marks (MoreArguments a as')) (Own x)) (omega arith) (value_asks z sc n placed b a t x typed.0 e)
      | inr e ↦ more_asked z x (all_used_up (values sc n.marks as') (Own x)) (all_used_up (values sc n.marks (MoreArguments a as')) (Own x)) (omega arith) (values_ask z sc n placed b as' ts x typed.1 e)
    ]

  -- a constructor with a field isn't scalar
  pub no_field : (z : Scope) (t m : ℕ) (x : Argument) (bs : Arguments) → HaveTypes true wd z true (MoreArguments x bs) (W.fields_of wd t m) → is_scalar_type c.types t ≡ true → ⊥
  no_field z t m x bs fs scalar = by (W.fields_of wd t m) refl fs
    where
      by : (ts : List ℕ) → W.fields_of wd t m ≡ ts → HaveTypes true wd z true (MoreArguments x bs) ts → ⊥
      by [] is fs = fs
      by (v ∷ vs) is fs = true≢false (sym scalar ∙ with_field c.types t m (length vs) (ap length (sym (pattern_fields c st wd w shares callees t m) ∙ is)))

  scalar_uses : (z : Scope) (a : Argument) (t x : ℕ) → HasType true wd z false a t → is_scalar_type c.types t ≡ true → uses x a ≡ true → of_binder z (Some x) ≡ Some (Some t)
  scalar_uses z (Variable None m p) t x typed scalar used = absurd (true≢false (sym used))
  scalar_uses z (Variable (Some y) m p) t x typed scalar used = ap (λ x. of_binder z (Some x)) (sym (equal y x used)) ∙ typed
  scalar_uses z (Literal i p) t x typed scalar used = absurd (true≢false (sym used))
  scalar_uses z (Constructor u d m n p NoArguments) t x typed scalar used = absurd (true≢false (sym used))
  scalar_uses z (Constructor u d m n p (MoreArguments a as')) t x typed scalar used = absurd (no_field z t m a as' typed.2 scalar)

  -- what isn't borrowed is taken
  not_lent : (o : Option Instance) (j : ℕ) → takes_of o j ≡ true → lends_to w o j ≡ false
  not_lent None j e = refl
  not_lent (Some d) j e = by (slice_get d.params j) e
    where
      by : (o : Option Param) → is_taken o ≡ true → lends_parameter w o ≡ false
      by None e = refl
      by (Some p) e = ap (λ b. b && not (w.scalar p.ty)) (not_false p.lent e)

  passed_asks : (z : Scope) (sc : Scalars) (n : Names) → Placed c z sc n → (g j : ℕ) (as' : Arguments) (ts : List ℕ) (x : ℕ) → HaveTypes true wd z true as' ts → uses_passed (slice_get st.instances g) x j as' ≡ true → Asked z x (passed_used_up (passed w sc n.marks g j as') (Own x))
  passed_asks z sc n placed g j NoArguments ts x typed used = absurd (true≢false (sym used))
  passed_asks z sc n placed g j (MoreArguments a as') [] x typed used = absurd typed
  passed_asks z sc n placed g j (MoreArguments a as') (t ∷ ts) x typed used = elim (either (takes_of (slice_get st.instances g) j && uses x a) (uses_passed (slice_get st.instances g) x (suc j) as') used) as (λ v. Asked z x (passed_used_up (passed w sc n.marks g j (MoreArguments a as')) (Own x))) [
    | inl e ↦ first (both_true (takes_of (slice_get st.instances g) j) (uses x a) e)
    | inr e ↦ rest (lends w g j) (passed_asks z sc n placed g (suc j) as' ts x typed.1 e)
  ]
    where
      rest : (b : Bool) → Asked z x (passed_used_up (passed w sc n.marks g (suc j) as') (Own x)) → Asked z x (passed_used_up (if b then C.PassLent (lent_value w sc n.marks a) (passed w sc n.marks g (suc j) as') else C.PassOwned (value sc n.marks a) (passed w sc n.marks g (suc j) as')) (Own x))
      rest true y = more_asked z x (passed_used_up (passed w sc n.marks g (suc j) as') (Own x)) (lent_used_up (lent_value w sc n.marks a) (Own x) + passed_used_up (passed w sc n.marks g (suc j) as') (Own x)) (omega arith) y
      rest false y = more_asked z x (passed_used_up (passed w sc n.marks g (suc j) as') (Own x)) (used_up (value sc n.marks a) (Own x) + passed_used_up (passed w sc n.marks g (suc j) as') (Own x)) (omega arith) y

      first : (takes_of (slice_get st.instances g) j ≡ true) × (uses x a ≡ true) → Asked z x (passed_used_up (passed w sc n.marks g j (MoreArguments a as')) (Own x))
      first e =
          let lent : lends w g j ≡ false = ap (λ ds. lends_to w (slice_get ds g) j) callees.same ∙ not_lent (slice_get st.instances g) j e.0 in
          subst (λ b. Asked z x (passed_used_up (if b then C.PassLent (lent_value w sc n.marks a) (passed w sc n.marks g (suc j) as') else C.PassOwned (value sc n.marks a) (passed w sc n.marks g (suc j) as')) (Own x))) (sym lent)
          (more_asked z x (used_up (value sc n.marks a) (Own x)) (used_up (value sc n.marks a) (Own x) + passed_used_up (passed w sc n.marks g (suc j) as') (Own x)) (omega arith) (value_asks z sc n placed true a t x typed.0 e.1))

  -- ---- expressions

  abbrev asks_own : Bool → ℕ → C.Clauses → ℕ
  asks_own true x cs = asks_taken (Own x) cs
  asks_own false x cs = asks_lent (Own x) cs

  own_last : (b : Bool) (x : ℕ) (ys ks : List ℕ) (e : C.Term) → has ys x ≡ false → asks_own b x (C.LastClause ys ks e) ≡ asks (Own x) e
  own_last true x ys ks e none = refused (has ys x) 0 (asks (Own x) e) none
  own_last false x ys ks e none = refused (has ys x) 0 (asks (Own x) e) none

  own_first : (b : Bool) (x : ℕ) (ys ks : List ℕ) (e : C.Term) (cs : C.Clauses) → has ys x ≡ false → asks (Own x) e ≤ asks_own b x (C.MoreClauses ys ks e cs)
  own_first true x ys ks e cs none = let z = refused (has ys x) 0 (asks (Own x) e) none in max_left (outside ys ks (Own x) (asks (Own x) e)) (asks_taken (Own x) cs) (asks (Own x) e) (omega (arith, z))
  own_first false x ys ks e cs none = let z = refused (has ys x) 0 (asks (Own x) e) none in max_left (outside ys [] (Own x) (asks (Own x) e)) (asks_lent (Own x) cs) (asks (Own x) e) (omega (arith, z))

  own_rest : (b : Bool) (x : ℕ) (ys ks : List ℕ) (e : C.Term) (cs : C.Clauses) → asks_own b x cs ≤ asks_own b x (C.MoreClauses ys ks e cs)
  own_rest true x ys ks e cs = max_right (outside ys ks (Own x) (asks (Own x) e)) (asks_taken (Own x) cs) (asks_taken (Own x) cs) (omega arith)
  own_rest false x ys ks e cs = max_right (outside ys [] (Own x) (asks (Own x) e)) (asks_lent (Own x) cs) (asks_lent (Own x) cs) (omega arith)

  -- the first of some clauses
  own_here : (b : Bool) (x : ℕ) (sc : Scalars) (n : Names) (ys ks : List ℕ) (e : C.Term) (cs : Clauses) → has ys x ≡ false → asks (Own x) e ≤ asks_own b x (clauses w sc b n ys ks e cs)
  own_here b x sc n ys ks e NoClauses none = let z = own_last b x ys ks e none in omega (arith, z)
  own_here b x sc n ys ks e (MoreClauses q body cs) none = own_first b x ys ks e (clauses w sc b (past_clause w b n q body) (variables w n.next (binders q)) (nodes q) (term_block w (entering w n.next sc (binders q)) (inside w b n (binders q)) body) cs) none

  own_matched : (b : Bool) (x : ℕ) (sc : Scalars) (ms : List Mark) (a : Argument) (cs : C.Clauses) → asks_own b x cs ≤ asks (Own x) (matched w sc ms b a cs)
  own_matched true x sc ms a cs = omega arith
  own_matched false x sc ms a cs = omega arith

  mutual
    pub used_asks : (z : Scope) (sc : Scalars) (n : Names) (N : ℕ) → Placed c z sc n → (b : Bool) (e : Expression) (ts : List ℕ) (x : ℕ) → x < n.next → Types true wd z b e ts → Numbered w N n e → used_in st.instances x e ≡ true → Asked z x (asks (Own x) (term w sc n e))
    used_asks z sc n N placed b (Give a) ts x low typed num used = more_asked z x (used_up (value sc n.marks a) (Own x)) (asks (Own x) (term w sc n (Give a))) (omega arith) (value_asks z sc n placed b a typed.0 x typed.2 used)
    used_asks z sc n N placed b (Tuple p as') ts x low typed num used = values_ask z sc n placed b as' ts x typed.1 used
    used_asks z sc n N placed b (Operation o p l r) ts x low typed num used = absurd (true≢false (sym used))
    used_asks z sc n N placed b (Call g m p as') ts x low typed num used = passed_asks z sc n placed g 0 as' (W.head wd g).parameters x typed.1 used
    used_asks z sc n N placed b (Match k u p a q body cs) ts x low typed num used =
        elim (either (k && uses x a) (used_in_block st.instances x body || used_in_clauses st.instances x cs) used) as (λ v. Asked z x (asks (Own x) (term w sc n (Match k u p a q body cs)))) [
          | inl e ↦ scrutinee (both_true k (uses x a) e)
          | inr e ↦ more_asked z x (asks_own (takes w k u) x inner) (asks (Own x) (term w sc n (Match k u p a q body cs))) (own_matched (takes w k u) x sc n.marks a inner)
              (elim (either (used_in_block st.instances x body) (used_in_clauses st.instances x cs) e) as (λ v. Asked z x (asks_own (takes w k u) x inner)) [
                | inl d ↦ more_asked z x (asks (Own x) first) (asks_own (takes w k u) x inner) (own_here (takes w k u) x sc (past_clause w (takes w k u) n q body) (variables w n.next (binders q)) (nodes q) first cs (not_owned w n.next x (binders q) low)) (same_asked (z ++ bound_by wd (Some typed.0) q) z x (asks (Own x) first) (clause_scope z n q typed.0 x num.0 typed.3 low) (block_asks (z ++ bound_by wd (Some typed.0) q) (entering w n.next sc (binders q)) (inside w (takes w k u) n (binders q)) N (clause_placed z sc n (takes w k u) q typed.0 placed num.0 typed.3 utyped) b body ts x (let next = next_inside w (takes w k u) n (binders q) in omega (arith, low, next)) typed.4 num.2 d))
                | inr d ↦ clauses_ask z sc (past_clause w (takes w k u) n q body) N (past_placed z sc n (takes w k u) q body placed) (takes w k u) cs typed.0 ts x (let y = next_past w (takes w k u) n q body in omega (arith, low, y)) (argument_type c st wd w shares callees z false a typed.0 placed.typed typed.2) typed.5 num.3 d (variables w n.next (binders q)) (nodes q) first
              ])
        ]
      where
        first : C.Term
        first = term_block w (entering w n.next sc (binders q)) (inside w (takes w k u) n (binders q)) body

        inner : C.Clauses
        inner = clauses w sc (takes w k u) (past_clause w (takes w k u) n q body) (variables w n.next (binders q)) (nodes q) (term_block w (entering w n.next sc (binders q)) (inside w (takes w k u) n (binders q)) body) cs

        utyped : is_type c.types typed.0 ≡ true
        utyped = argument_type c st wd w shares callees z false a typed.0 placed.typed typed.2

        scrutinee : (k ≡ true) × (uses x a ≡ true) → Asked z x (asks (Own x) (term w sc n (Match k u p a q body cs)))
        scrutinee e = elim (or_not (is_scalar_type c.types typed.0)) as (λ v. Asked z x (asks (Own x) (term w sc n (Match k u p a q body cs)))) [
          | inl scalar ↦ record { type = typed.0; there = scalar_uses z a typed.0 x typed.2 scalar e.1; often = λ y. absurd (true≢false (sym scalar ∙ y)) }
          | inr tree ↦
              (let taken : takes w k u ≡ true = ap (λ b. b && not (w.scalar u)) e.0 ∙ ap not (ap w.scalar typed.1 ∙ (callees.scalars typed.0 utyped ∙ tree)) in
              more_asked z x (used_up (value sc n.marks a) (Own x)) (asks (Own x) (matched w sc n.marks (takes w k u) a inner))
              (subst (λ b. used_up (value sc n.marks a) (Own x) ≤ asks (Own x) (matched w sc n.marks b a inner)) (sym taken) (omega arith)) (value_asks z sc n placed false a typed.0 x typed.2 e.1))
        ]
    used_asks z sc n N placed b (Nested d) ts x low typed num used = block_asks z sc n N placed b d ts x low typed num used

    pub block_asks : (z : Scope) (sc : Scalars) (n : Names) (N : ℕ) → Placed c z sc n → (b : Bool) (d : Block) (ts : List ℕ) (x : ℕ) → x < n.next → TypesBlock true wd z b d ts → NumberedBlock w N n d → used_in_block st.instances x d ≡ true → Asked z x (asks (Own x) (term_block w sc n d))
    block_asks z sc n N placed b (Last e) ts x low typed num used = used_asks z sc n N placed b e ts x low typed num used
    block_asks z sc n N placed b (Let bs e rest) ts x low typed num used = elim (either (used_in st.instances x e) (used_in_block st.instances x rest) used) as (λ v. Asked z x (asks (Own x) (term_block w sc n (Let bs e rest)))) [
      | inl y ↦ more_asked z x (asks (Own x) (term w sc n e)) (asks (Own x) (term_block w sc n (Let bs e rest))) (omega arith) (used_asks z sc n N placed (all_annotated bs) e typed.0 x low typed.1 num.2 y)
      | inr y ↦
          (let n1 = following n (shape w n e) in
          let more = later n e in
          let types = expression_types c st wd w shares callees z (all_annotated bs) e typed.0 placed.typed typed.1 in
          let inner = term_block w (entering w n1.next sc bs) (inside w true n1 bs) rest in
          let next = next_inside w true n1 bs in
          let none = refused (has (variables w n1.next bs) x) 0 (asks (Own x) inner) (not_owned w n1.next x bs (omega (arith, low, more))) in
          more_asked z x (asks (Own x) inner) (asks (Own x) (term_block w sc n (Let bs e rest))) (omega (arith, none))
          (same_asked (z ++ entries bs (map Some typed.0)) z x (asks (Own x) inner) (let_scope z n e bs typed.0 x num.0 typed.2 (omega (arith, low, more)))
          (block_asks (z ++ entries bs (map Some typed.0)) (entering w n1.next sc bs) (inside w true n1 bs) N (let_placed z sc n e bs typed.0 placed num.0 typed.2 types) b rest ts x (omega (arith, low, more, next)) typed.3 num.3 y)))
    ]

    clauses_ask : (z : Scope) (sc : Scalars) (n : Names) (N : ℕ) → Placed c z sc n → (taken : Bool) (cs : Clauses) (t : ℕ) (ts : List ℕ) (x : ℕ) → x < n.next → is_type c.types t ≡ true → TypesClauses true wd z t cs ts → NumberedClauses w N taken n cs → used_in_clauses st.instances x cs ≡ true → (ys ks : List ℕ) (e : C.Term) → Asked z x (asks_own taken x (clauses w sc taken n ys ks e cs))
    clauses_ask z sc n N placed taken NoClauses t ts x low utyped typed num used ys ks e = absurd (true≢false (sym used))
    clauses_ask z sc n N placed taken (MoreClauses q body cs) t ts x low utyped typed num used ys ks e =
        let first = term_block w (entering w n.next sc (binders q)) (inside w taken n (binders q)) body in
        let rest = clauses w sc taken (past_clause w taken n q body) (variables w n.next (binders q)) (nodes q) first cs in
        more_asked z x (asks_own taken x rest) (asks_own taken x (C.MoreClauses ys ks e rest)) (own_rest taken x ys ks e rest)
        (elim (either (used_in_block st.instances x body) (used_in_clauses st.instances x cs) used) as (λ v. Asked z x (asks_own taken x rest)) [
          | inl d ↦ more_asked z x (asks (Own x) first) (asks_own taken x rest) (own_here taken x sc (past_clause w taken n q body) (variables w n.next (binders q)) (nodes q) first cs (not_owned w n.next x (binders q) low)) (same_asked (z ++ bound_by wd (Some t) q) z x (asks (Own x) first) (clause_scope z n q t x num.0 typed.0 low) (block_asks (z ++ bound_by wd (Some t) q) (entering w n.next sc (binders q)) (inside w taken n (binders q)) N (clause_placed z sc n taken q t placed num.0 typed.0 utyped) true body ts x (let next = next_inside w taken n (binders q) in omega (arith, low, next)) typed.1 num.2 d))
          | inr d ↦ clauses_ask z sc (past_clause w taken n q body) N (past_placed z sc n taken q body placed) taken cs t ts x (let y = next_past w taken n q body in omega (arith, low, y)) utyped typed.2 num.3 d (variables w n.next (binders q)) (nodes q) first
        ])

  -- ---- credits

  lent_needs : (k : ℕ) → 0 < k → (z : Scope) (sc : Scalars) (ms : List Mark) (b : Bool) (a : Argument) (t : ℕ) → HasType true wd z b a t → made k a ≤ lent_used_up (lent_value w sc ms a) (Credit k)
  lent_needs k h z sc ms b (Variable x n p) t typed = omega arith
  lent_needs k h z sc ms b (Literal i p) t typed = omega arith
  lent_needs k h z sc ms b (Constructor u d m n p as') t typed = by (w.scalar u) refl as' typed.2
    where
      by : (sc0 : Bool) → w.scalar u ≡ sc0 → (bs : Arguments) → HaveTypes true wd z true bs (W.fields_of wd t m) → Z.one_if (count bs == k) + made_all k bs ≤ lent_used_up (if sc0 then C.Scalar else C.Built (values sc ms bs)) (Credit k)
      by false e bs fs =
          let one = ap (λ m. paid m (Credit k)) (size_values sc ms bs) ∙ paid_at (count bs) k h in
          sum_le (Z.one_if (count bs == k)) (made_all k bs) (paid (size (values sc ms bs)) (Credit k)) (all_used_up (values sc ms bs) (Credit k)) (omega (arith, one)) (values_need k h sc ms bs)
      by true e NoArguments fs = let none = ap Z.one_if (no_zero k h) in omega (arith, none)
      by true e (MoreArguments x bs) fs = absurd (no_field z t m x bs fs (sym (callees.scalars t (shares.made b d t typed.1)) ∙ (ap w.scalar (sym typed.0) ∙ e)))

  passed_needs : (k : ℕ) → 0 < k → (z : Scope) (sc : Scalars) (ms : List Mark) (g j : ℕ) (as' : Arguments) (ts : List ℕ) → HaveTypes true wd z true as' ts → made_all k as' + asked k (slice_get st.instances g) ≤ passed_used_up (passed w sc ms g j as') (Credit k)
  passed_needs k h z sc ms g j NoArguments ts typed =
      let same = ap (λ ds. C.given k (credits_of (slice_get ds g))) callees.same ∙ asked_given k (slice_get st.instances g) in
      omega (arith, same)
  passed_needs k h z sc ms g j (MoreArguments a as') [] typed = absurd typed
  passed_needs k h z sc ms g j (MoreArguments a as') (t ∷ ts) typed = by (lends w g j) (passed_needs k h z sc ms g (suc j) as' ts typed.1)
    where
      by : (b : Bool) → made_all k as' + asked k (slice_get st.instances g) ≤ passed_used_up (passed w sc ms g (suc j) as') (Credit k) → (made k a + made_all k as') + asked k (slice_get st.instances g) ≤ passed_used_up (if b then C.PassLent (lent_value w sc ms a) (passed w sc ms g (suc j) as') else C.PassOwned (value sc ms a) (passed w sc ms g (suc j) as')) (Credit k)
      by true rest = let l = lent_needs k h z sc ms true a t typed.0 in omega (arith, l, rest)
      by false rest = let l = value_needs k h sc ms a in omega (arith, l, rest)

  less_given : (m n x y : ℕ) → m ≤ n → x ≡ y → m - x ≤ n - y
  less_given m n x y le e = omega (arith, le, e)

  mutual
    pub needs_asks : (k : ℕ) → 0 < k → (z : Scope) (sc : Scalars) (n : Names) (N : ℕ) → Placed c z sc n → (b : Bool) (e : Expression) (ts : List ℕ) → Types true wd z b e ts → Numbered w N n e → need st k e ≤ asks (Credit k) (term w sc n e)
    needs_asks k h z sc n N placed b (Give a) ts typed num = let l = value_needs k h sc n.marks a in omega (arith, l)
    needs_asks k h z sc n N placed b (Tuple p as') ts typed num = values_need k h sc n.marks as'
    needs_asks k h z sc n N placed b (Operation o p l r) ts typed num = let x = value_needs k h sc n.marks l in let y = value_needs k h sc n.marks r in omega (arith, x, y)
    needs_asks k h z sc n N placed b (Call g m p as') ts typed num = passed_needs k h z sc n.marks g 0 as' (W.head wd g).parameters typed.1
    needs_asks k h z sc n N placed b (Match d u p a q body cs) ts typed num =
        let utyped = argument_type c st wd w shares callees z false a typed.0 placed.typed typed.2 in
        let same : gives_credits st d u ≡ takes w d u = ap (λ t. d && not (is_scalar st t)) typed.1 ∙ (ap (λ b. d && not b) (shares.scalars typed.0 utyped ∙ sym (callees.scalars typed.0 utyped)) ∙ ap (λ t. d && not (w.scalar t)) (sym typed.1)) in
        let taken = takes w d u in
        let first = term_block w (entering w n.next sc (binders q)) (inside w taken n (binders q)) body in
        let inner = clauses w sc taken (past_clause w taken n q body) (variables w n.next (binders q)) (nodes q) first cs in
        let one = block_needs k h (z ++ bound_by wd (Some typed.0) q) (entering w n.next sc (binders q)) (inside w taken n (binders q)) N (clause_placed z sc n taken q typed.0 placed num.0 typed.3 utyped) b body ts typed.4 num.2 in
        let all = clauses_need k h z sc (past_clause w taken n q body) N (past_placed z sc n taken q body placed) taken cs typed.0 ts utyped typed.5 num.3 (variables w n.next (binders q)) (nodes q) first (need_block st k body - given k taken q) (less_given (need_block st k body) (asks (Credit k) first) (given k taken q) (C.given k (gives taken (nodes q))) one (sym (gives_given k taken q h))) in
        let last = matched_asks k w sc n.marks taken a inner in
        let what : need st k (Match d u p a q body cs) ≡ greater (need_block st k body - given k taken q) (need_clauses st k taken cs) = ap (λ t. greater (need_block st k body - given k t q) (need_clauses st k t cs)) same in
        omega (arith, all, last, what)
    needs_asks k h z sc n N placed b (Nested d) ts typed num = block_needs k h z sc n N placed b d ts typed num

    block_needs : (k : ℕ) → 0 < k → (z : Scope) (sc : Scalars) (n : Names) (N : ℕ) → Placed c z sc n → (b : Bool) (d : Block) (ts : List ℕ) → TypesBlock true wd z b d ts → NumberedBlock w N n d → need_block st k d ≤ asks (Credit k) (term_block w sc n d)
    block_needs k h z sc n N placed b (Last e) ts typed num = needs_asks k h z sc n N placed b e ts typed num
    block_needs k h z sc n N placed b (Let bs e rest) ts typed num =
        let n1 = following n (shape w n e) in
        let types = expression_types c st wd w shares callees z (all_annotated bs) e typed.0 placed.typed typed.1 in
        let first = needs_asks k h z sc n N placed (all_annotated bs) e typed.0 typed.1 num.2 in
        let last = block_needs k h (z ++ entries bs (map Some typed.0)) (entering w n1.next sc bs) (inside w true n1 bs) N (let_placed z sc n e bs typed.0 placed num.0 typed.2 types) b rest ts typed.3 num.3 in
        omega (arith, first, last)

    clauses_need : (k : ℕ) → 0 < k → (z : Scope) (sc : Scalars) (n : Names) (N : ℕ) → Placed c z sc n → (taken : Bool) (cs : Clauses) (t : ℕ) (ts : List ℕ) → is_type c.types t ≡ true → TypesClauses true wd z t cs ts → NumberedClauses w N taken n cs → (ys ks : List ℕ) (e : C.Term) (m : ℕ) → m ≤ asks (Credit k) e - C.given k (gives taken ks) → greater m (need_clauses st k taken cs) ≤ asks_of taken k (clauses w sc taken n ys ks e cs)
    clauses_need k h z sc n N placed taken NoClauses t ts utyped typed num ys ks e m le =
        let last = asks_last taken k ys ks e in
        let zero : greater m 0 ≤ max m 0 = max_both m 0 m 0 (omega arith) (omega arith) in
        let y : max m 0 ≡ m = grind (arith, nat_tests) in
        omega (arith, le, last, zero, y)
    clauses_need k h z sc n N placed taken (MoreClauses q body cs) t ts utyped typed num ys ks e m le =
        let first = term_block w (entering w n.next sc (binders q)) (inside w taken n (binders q)) body in
        let rest = clauses w sc taken (past_clause w taken n q body) (variables w n.next (binders q)) (nodes q) first cs in
        let one = block_needs k h (z ++ bound_by wd (Some t) q) (entering w n.next sc (binders q)) (inside w taken n (binders q)) N (clause_placed z sc n taken q t placed num.0 typed.0 utyped) true body ts typed.1 num.2 in
        let all = clauses_need k h z sc (past_clause w taken n q body) N (past_placed z sc n taken q body placed) taken cs t ts utyped typed.2 num.3 (variables w n.next (binders q)) (nodes q) first (need_block st k body - given k taken q) (less_given (need_block st k body) (asks (Credit k) first) (given k taken q) (C.given k (gives taken (nodes q))) one (sym (gives_given k taken q h))) in
        let last = asks_more taken k ys ks e rest in
        let both = max_both (asks (Credit k) e - C.given k (gives taken ks)) (asks_of taken k rest) m (greater (need_block st k body - given k taken q) (need_clauses st k taken cs)) le all in
        omega (arith, both, last)
