-- The function of an instance keeps the rules at each of its instructions.
use Rattle.std.proofs.Common.{◌≡◌, ℕ, zero, suc, ◌+◌, ◌≤◌, Bool, true, false, List, [], ◌∷◌, ◌++◌, length, replicate, Some, None, refl, sym, ap, ◌∙◌, subst, subst₂, arith, append_assoc, append-nil, if◌then◌else◌, ◌==◌}
use Rattle.std.proofs.lemmas.List.{length-replicate}
use Rattle.separation.specs.fip_base.declared.plain.Param.{Param}
use Rattle.lowering_relation.specs.fip_trees.declared.program.Binder.{Binder}
use Rattle.lowering_relation.specs.fip_trees.Tree.{Instance}
use Rattle.derivation_making.specs.fip_rules.World as R
use Rattle.derivation_making.specs.fip_rules.Shapes.{Names, within, parameters, no_names}
use Rattle.derivation_making.specs.type_check.Binders.{entry}
use Rattle.derivation_making.specs.type_check.Scope.{Scope, of_binder}
use Rattle.derivation_making.specs.type_check.World as W
use Rattle.derivation_making.specs.type_check.Typing.{Typed, TypesBlock, Parameters, parameter_entries, parameter_scope}
use Rattle.derivation_making.specs.ownership_calculus.Terms.{Item, Own, has, charge}
use Rattle.derivation_making.specs.ownership_calculus.Rules as O
use Rattle.derivation_making.specs.ownership_calculus.ByCases.{Derives}
use Rattle.derivation_making.specs.ownership_calculus.Functions.{Derived, starting}
use Rattle.derivation_making.proofs.ownership_calculus.Faithful.{by_cases}
use Rattle.derivation_making.specs.ownership_agreement.Bodies.{Scalars, borrowed_parameters, owned_parameters, entering_parameters, no_variables, body_term, term_block}
use Rattle.separation.specs.cell_code.Plain.{PlainFunction, PlainCode}
use Rattle.separation.specs.code_rules.Types.{is_type, is_scalar_type}
use Rattle.lowering_relation.specs.Known.{Known}
use Rattle.lowering_relation.specs.Values.{Setting}
use Rattle.lowering_relation.specs.LoweredFunctions.{nothing_known, with_params, with_credits, known_at_start}
use Rattle.lowering_relation.specs.declared.held.Held.TheVariants as H
use Rattle.lowering_relation.specs.Describing.{held_at}
use Rattle.lowering_soundness.specs.Giving.{is_credit_of}
use Rattle.lowering_soundness.specs.Parts.{IsKept, LastPart}
use Rattle.lowering_soundness.specs.Ties.{one_if, owners, own, Ties}
use Rattle.lowering_relation.specs.Labels.{reported}
use Rattle.lowering_soundness.specs.Laid.{Shares}
use Rattle.lowering_soundness.specs.Placed.{Placed, NoneFrom, InOrder, NumberedBlock, ParamsTyped, Callees}
use Rattle.lowering_relation.specs.LaidFunctions.{FunctionLaid}
use Rattle.lowering_soundness.specs.Functions.{IsNumbered}
use Rattle.lowering_soundness.proofs.Arguments.{ties_worth}
use Rattle.lowering_soundness.proofs.Scoping.{entries_of, one_in, one_placed}
use Rattle.lowering_soundness.proofs.Starting.{takens, types_of, params_all, credits_all, starts, borrowings}
use Rattle.lowering_soundness.proofs.Entry.{entry_covered}
use Rattle.lowering_soundness.proofs.Numbering.{Below, start_below}
use Rattle.lowering_soundness.proofs.Bodies.{block_ends}
use Rattle.lowering_soundness.proofs.Whole.{kept_whole}

-- the parameters' scope
scope_same : (fip : Bool) (wt : Rattle.separation.specs.fip_language.Table.Table) (st : Setting) (B : ℕ → Bool) (K : ℕ → Item → ℕ) (u : (z y : ℕ) → K z (Own y) ≡ 0) (sc : (t : ℕ) → is_type wt t ≡ true → Rattle.lowering_relation.specs.Values.is_scalar st t ≡ is_scalar_type wt t) (ps : List Param) (bs : List Binder) → length bs ≡ length ps → parameter_entries ps bs ≡ entries_of bs (types_of fip wt st B K u sc ps)
scope_same fip wt st B K u sc [] [] many = refl
scope_same fip wt st B K u sc [] (b ∷ bs) many = absurd (omega (arith, many))
scope_same fip wt st B K u sc (p ∷ ps) [] many = absurd (omega (arith, many))
scope_same fip wt st B K u sc (p ∷ ps) (b ∷ bs) many = ap (λ es. entry (Some p.ty) b ∷ es) (scope_same fip wt st B K u sc ps bs (omega (arith, many)))

next_params : (w : R.World) (n : Names) (ps : List Param) (bs : List Binder) → length bs ≡ length ps → (within n (parameters w ps bs)).next ≡ n.next + length ps
next_params w n [] [] many = omega arith
next_params w n [] (b ∷ bs) many = absurd (omega (arith, many))
next_params w n (p ∷ ps) [] many = absurd (omega (arith, many))
next_params w n (p ∷ ps) (b ∷ bs) many = let z = next_params w (one_in n b) ps bs (omega (arith, many)) in omega (arith, z)

module _ (c : PlainCode) (w : R.World) (scalars : (t : ℕ) → is_type c.types t ≡ true → w.scalar t ≡ is_scalar_type c.types t) where
  params_placed : (s : Scope) (sc : Scalars) (n : Names) (ps : List Param) (bs : List Binder) → length bs ≡ length ps → Placed c s sc n → InOrder n.next bs → Parameters true ps bs → ParamsTyped c ps → Placed c (s ++ parameter_entries ps bs) (entering_parameters w n.next sc ps bs) (within n (parameters w ps bs))
  params_placed s sc n [] [] many p order slots typed = subst (λ s. Placed c s sc n) (sym (append-nil s)) p
  params_placed s sc n [] (b ∷ bs) many p order slots typed = absurd (omega (arith, many))
  params_placed s sc n (q ∷ ps) [] many p order slots typed = absurd (omega (arith, many))
  params_placed s sc n (q ∷ ps) (b ∷ bs) many p order slots typed =
      let first : Placed c (s ++ entry (Some q.ty) b ∷ []) (λ y. if n.next == y then w.scalar q.ty else sc y) (one_in n b) =
      subst (λ t. Placed c (s ++ entry (Some q.ty) b ∷ []) (λ y. if n.next == y then w.scalar t else sc y) (one_in n b)) slots.0
      (one_placed c w scalars s sc n b q.ty p order.0 slots.0 typed.0) in
      subst (λ s. Placed c s (entering_parameters w n.next sc (q ∷ ps) (b ∷ bs)) (within n (parameters w (q ∷ ps) (b ∷ bs)))) (append_assoc s (entry (Some q.ty) b ∷ []) (parameter_entries ps bs))
      (params_placed (s ++ entry (Some q.ty) b ∷ []) (λ y. if n.next == y then w.scalar q.ty else sc y) (one_in n b) ps bs (omega (arith, many)) first order.1 slots.1 typed.1)

nothing_placed : (c : PlainCode) → Placed c [] no_variables no_names
nothing_placed c = record {
  seen = λ x t h. absurd (none x t h);
  scalar = λ x t h. absurd (none x t h);
  before = λ x t h. absurd (none x t h);
  typed = λ x t h. absurd (none x t h);
}
  where
    none : (x t : ℕ) → of_binder [] (Some x) ≡ Some (Some t) → ⊥
    none x t h = absurd (cc)

held_nothing : (n r : ℕ) → held_at (replicate n H.Nothing) r ≡ H.Nothing
held_nothing zero r = refl
held_nothing (suc n) zero = refl
held_nothing (suc n) (suc r) = held_nothing n r

no_register : (n x r : ℕ) → Rattle.lowering_relation.specs.Known.register_of (replicate n None) (Some x) ≡ Some r → ⊥
no_register zero x r h = absurd (cc)
no_register (suc n) zero r h = absurd (cc)
no_register (suc n) (suc x) r h = no_register n x r h

no_owners : (n : ℕ) (T : ℕ → ℕ) (r : ℕ) → owners (replicate n None) T r ≡ 0
no_owners zero T r = refl
no_owners (suc n) T r = let z = no_owners n (λ x. T (suc x)) r in omega (arith, z)

-- where nothing is known yet nothing is owned
nothing_tied : (fip : Bool) (wt : Rattle.separation.specs.fip_language.Table.Table) (B : ℕ → Bool) (K : ℕ → Item → ℕ) (n v : ℕ) → Ties fip wt [] B K (λ i. 0) (λ q. 0) (nothing_known n v)
nothing_tied fip wt B K n v = record {
  variables = λ x r t h o. absurd (no_register v x r h);
  trees = λ r. subst₂ (Rattle.derivation_making.specs.ownership_calculus.Rules.Fits fip) (sym (ap (λ h. one_if (Rattle.lowering_relation.specs.Describing.is_tree h)) (held_nothing n r))) (let z = no_owners v (own (λ i. 0)) r in let e : 0 ≡ owners (replicate v None) (own (λ i. 0)) r + 0 = omega (arith, z) in e) (Rattle.derivation_making.proofs.ownership_calculus.Fit.fits_same fip 0);
  lent = λ x r t h o b. absurd (no_register v x r h);
  rooted = λ r t q e. absurd (lent t q (sym (held_nothing n r) ∙ e));
  bares = λ r t d e. absurd (bare t d (sym (held_nothing n r) ∙ e));
  sizes = λ m. Rattle.derivation_making.proofs.ownership_calculus.Fit.fits_same fip 0;
  credits = λ m r. sym (ap (λ h. one_if (is_credit_of m h)) (held_nothing n r));
  fresh = λ r low. held_nothing n r;
  named = λ x r h. absurd (no_register v x r h);
}
  where
    lent : (t q : ℕ) → H.Nothing ≡ H.Lent t (Some q) → ⊥
    lent t q e = absurd (cc)

    bare : (t d : ℕ) → H.Nothing ≡ H.Bare t d → ⊥
    bare t d e = absurd (cc)

module _ (c : PlainCode) (f : PlainFunction) (st : Setting) (wd : W.World) (w : R.World) (fip : Bool) (shares : Shares c st wd) (callees : Callees c st wd w) where
  -- what is known at the start goes with the parameters in scope
  pub function_begins : (A : Type 0) (d : Instance) → FunctionLaid c st fip f d → IsNumbered w d → Typed true wd d → ParamsTyped c d.params → Derived fip (borrowed_parameters w 0 d.params d.binders) (owned_parameters w 0 d.params d.binders) d.credits (body_term w d) → ((s : Scope) (sc : Scalars) (n : Names) (B : ℕ → Bool) (K : ℕ → Item → ℕ) → Placed c s sc n → (P : Item → ℕ) → TypesBlock true wd s true d.body d.results → Derives fip B P (term_block w sc n d.body) → NumberedBlock w d.variables n d.body → Below (known_at_start st f.registers d) n.next → ((z y : ℕ) → K z (Own y) ≤ 0) → NoneFrom n.next (λ i. P i + 0) → Ties fip c.types s B K (λ i. P i + 0) (λ q. 0) (known_at_start st f.registers d) → length (known_at_start st f.registers d).names ≡ d.variables → length (known_at_start st f.registers d).held ≡ f.registers → A) → A
  function_begins A d laid num typed params derived so =
      so (parameter_scope d) sc n B K placed O1 typed.3 (by_cases fip B O1 (term_block w sc n d.body) derived) num.body below unkept none ties names width
    where
      own_list : List ℕ
      own_list = owned_parameters w 0 d.params d.binders

      B : ℕ → Bool
      B = O.setting own_list false (has (borrowed_parameters w 0 d.params d.binders))

      K : ℕ → Item → ℕ
      K z i = 0

      O1 : Item → ℕ
      O1 = starting own_list d.credits

      sc : Scalars
      sc = entering_parameters w 0 no_variables d.params d.binders

      n : Names
      n = within no_names (parameters w d.params d.binders)

      start : Known
      start = known_at_start st f.registers d

      placed : Placed c (parameter_scope d) (entering_parameters w 0 no_variables d.params d.binders) (within no_names (parameters w d.params d.binders))
      placed = params_placed c w callees.scalars [] no_variables no_names d.params d.binders num.as_many (nothing_placed c) num.order typed.2 params

      unkept : (z y : ℕ) → K z (Own y) ≤ 0
      unkept z y = omega arith

      zero_kept : (z y : ℕ) → K z (Own y) ≡ 0
      zero_kept z y = refl

      first : Rattle.lowering_soundness.proofs.Starting.Entered fip c.types st B K zero_kept shares.scalars [] (λ i. 0) 0 (length (nothing_known f.registers d.variables).held) (nothing_known f.registers d.variables) d.params d.binders
      first =
          let a : length (replicate f.registers H.Nothing) ≡ f.registers = length-replicate f.registers H.Nothing in
          let b : length (nothing_known f.registers d.variables).names ≡ d.variables = length-replicate d.variables None in
          let room = laid.room in
          let many = num.many in
          params_all fip c.types st B K zero_kept shares.scalars [] (λ i. 0) 0 (nothing_known f.registers d.variables) d.params d.binders num.as_many num.order (λ e same. typed_for e same d.params params) (nothing_tied fip c.types B K f.registers d.variables) refl
          (omega (arith, a, room)) (omega (arith, b, many)) (λ x u h. absurd (empty x u h)) (λ y low. refl) (borrowings c w callees.scalars 0 d.params d.binders num.as_many params)
        where
          empty : (x u : ℕ) → of_binder [] (Some x) ≡ Some (Some u) → ⊥
          empty x u h = absurd (cc)

          typed_for : (e : PlainCode) → e.types ≡ c.types → (ps : List Param) → ParamsTyped c ps → ParamsTyped e ps
          typed_for e same [] h = tt
          typed_for e same (p ∷ ps) h = (ap (λ tb. is_type tb p.ty) same ∙ h.0, typed_for e same ps h.1)

      second : Rattle.lowering_soundness.proofs.Starting.Credited fip c.types st B K zero_kept shares.scalars ([] ++ entries_of d.binders (types_of fip c.types st B K zero_kept shares.scalars d.params)) (λ i. 0 + takens c.types 0 d.params i) (with_params st (nothing_known f.registers d.variables) d.params d.binders) d.credits (with_credits (with_params st (nothing_known f.registers d.variables) d.params d.binders) d.credits)
      second =
          let a : length (replicate f.registers H.Nothing) ≡ f.registers = length-replicate f.registers H.Nothing in
          let room = laid.room in
          let wide = first.width in
          let next = first.next in
          credits_all fip c.types st B K zero_kept shares.scalars ([] ++ entries_of d.binders (types_of fip c.types st B K zero_kept shares.scalars d.params)) (λ i. 0 + takens c.types 0 d.params i) (with_params st (nothing_known f.registers d.variables) d.params d.binders) d.credits first.ties (omega (arith, a, room, wide, next))

      owns : (i : Item) → (0 + takens c.types 0 d.params i) + charge d.credits i ≡ O1 i + 0
      owns i = let z = starts c w callees.scalars d.params d.binders d.credits i num.as_many params in omega (arith, z)

      ties : Ties fip c.types (parameter_scope d) B K (λ i. O1 i + 0) (λ q. 0) start
      ties =
          subst (λ s. Ties fip c.types s B K (λ i. O1 i + 0) (λ q. 0) start) (sym (scope_same fip c.types st B K zero_kept shares.scalars d.params d.binders num.as_many))
          (ties_worth fip c.types (entries_of d.binders (types_of fip c.types st B K zero_kept shares.scalars d.params)) B K (λ i. (0 + takens c.types 0 d.params i) + charge d.credits i) (λ i. O1 i + 0) (λ q. 0) start owns second.ties)

      none : NoneFrom n.next (λ i. O1 i + 0)
      none y low =
          let next : n.next ≡ 0 + length d.params = next_params w no_names d.params d.binders num.as_many in
          let z = first.none y (omega (arith, low, next)) in
          let e = owns (Own y) in
          omega (arith, z, e)

      below : Below start n.next
      below =
          let next : n.next ≡ 0 + length d.params = next_params w no_names d.params d.binders num.as_many in
          let many = num.as_many in
          start_below st f.registers d n.next num.order (omega (arith, next, many))

      names : length start.names ≡ d.variables
      names = second.names ∙ (first.names ∙ length-replicate d.variables None)

      width : length start.held ≡ f.registers
      width = second.width ∙ (first.width ∙ length-replicate f.registers H.Nothing)

  pub function_part : (d : Instance) → FunctionLaid c st fip f d → IsNumbered w d → Typed true wd d → ParamsTyped c d.params → Derived fip (borrowed_parameters w 0 d.params d.binders) (owned_parameters w 0 d.params d.binders) d.credits (body_term w d) → LastPart c f 0 (reported c (known_at_start st f.registers d)) (length f.instrs)
  function_part d laid num typed params derived =
      function_begins (LastPart c f 0 (reported c (known_at_start st f.registers d)) (length f.instrs)) d laid num typed params derived
      (λ s sc n B K placed P typed derives numbered below unkept none ties names width.
      block_ends c f st wd w fip shares callees d.variables s sc n B K placed P 0 (known_at_start st f.registers d) d.body (length f.instrs) laid.after true d.results laid.body typed derives numbered below unkept none ties laid.results names width)

  -- each of its instructions keeps the rules
  pub function_kept : (d : Instance) → FunctionLaid c st fip f d → IsNumbered w d → Typed true wd d → ParamsTyped c d.params → Derived fip (borrowed_parameters w 0 d.params d.binders) (owned_parameters w 0 d.params d.binders) d.credits (body_term w d) → (i : ℕ) → IsKept c f i
  function_kept d laid num typed params derived i =
      kept_whole c f (reported c (known_at_start st f.registers d)) (function_part d laid num typed params derived)
      (entry_covered c st f d shares.scalars params num.as_many laid.params laid.credits laid.room) i
