-- A call whose results are the function's: what is left is given up, and its arguments and credits are as required.
use Rattle.std.proofs.Common.{◌≡◌, ◌⊎◌, inl, inr, ℕ, suc, ◌<◌, ◌≤◌, Bool, true, false, ◌&&◌, ◌||◌, not, List, [], ◌∷◌, ◌++◌, length, drop, Some, None, refl, sym, ap, ap₂, ◌∙◌, subst, subst₂, true≢false, arith, slice_get, if◌then◌else◌, ◌==◌}
use Rattle.separation.specs.fip_language.Table.{Table}
use Rattle.separation.specs.fip_language.Every.{Among}
use Rattle.separation.specs.fip_base.declared.plain.Param.{Param}
use Rattle.lowering_relation.specs.fip_trees.Tree.{Instance}
use Rattle.derivation_making.specs.type_check.Scope.{Scope}
use Rattle.derivation_making.specs.type_check.World as W
use Rattle.derivation_making.specs.ownership_calculus.Terms.{Item, Own}
use Rattle.derivation_making.specs.ownership_calculus.Rules.{Fits}
use Rattle.separation.specs.cell_code.declared.code.Instr.TheVariants as I
use Rattle.separation.specs.cell_code.declared.kind.Kind.{Kind}
use Rattle.separation.specs.cell_code.Plain.{PlainFunction, PlainCode}
use Rattle.separation.specs.code_rules.Types.{is_scalar_type}
use Rattle.separation.specs.code_rules.Asked.{same_types}
use Rattle.separation.proofs.separation_kinds.Basics.{pick, chosen, refused, or_not, both, itself}
use Rattle.lowering_relation.specs.declared.held.Held.{Held}
use Rattle.lowering_relation.specs.declared.held.Held.TheVariants as H
use Rattle.lowering_relation.specs.Known.{Known}
use Rattle.lowering_relation.specs.Values.{Setting}
use Rattle.lowering_relation.specs.LoweredBodies.{Return}
use Rattle.lowering_relation.specs.LoweredBodies as Bodies
use Rattle.lowering_relation.specs.Describing.{Holding, held_at, kinds_of, setting, is_tree}
use Rattle.lowering_soundness.specs.Covering.{using, using_all}
use Rattle.lowering_soundness.specs.Giving.{is_credit_of, can_pass_one, passing, can_pass, passing_all, can_hand, handing_all, can_lend_one, can_lend, after_call, NothingLeft}
use Rattle.lowering_soundness.specs.Parts.{Onward, LastPart}
use Rattle.lowering_soundness.specs.Ties.{one_if, owners, own, is_read_of, HoldsValue, LiesIn}
use Rattle.lowering_relation.specs.Labels.{reported, Quiet}
use Rattle.lowering_soundness.specs.Laid.{Shares, IsFunctionOf}
use Rattle.lowering_relation.specs.GivenUp.{spending}
use Rattle.lowering_relation.specs.Handed.{CallLaid, TailLaid}
use Rattle.lowering_soundness.specs.Passed.{Choose, borrows, IsReadIn, HoldPassed}
use Rattle.lowering_soundness.proofs.Giving.{and_to}
use Rattle.lowering_soundness.proofs.SoundStraight.{tail_row}
use Rattle.lowering_soundness.proofs.Parts.{last_row, part_and_last}
use Rattle.lowering_soundness.proofs.Owners.{owners_none}
use Rattle.lowering_soundness.proofs.Arguments.{quiet_front, quiet_back}
use Rattle.lowering_soundness.proofs.Cells.{credit_is}
use Rattle.lowering_soundness.proofs.GivingUp.{NoTrees, following, after_was, using_all_either}
use Rattle.lowering_soundness.proofs.Leaving.{Safe, Leaves, gives}
use Rattle.lowering_soundness.proofs.Returning.{Agree, agree_using, no_tree_using_all, used_no_tree, no_tree_of, value_no_bare, value_no_lent, value_not_credit, nothing_left, no_credit_left}
use Rattle.lowering_soundness.proofs.Passing.{PassedOn}
use Rattle.lowering_soundness.proofs.Calling.{passing_more, drop_front, CanCallBy, can_call_by, after_by, owned_of, passing_using, Called, called}

-- ---- registers that hold the same

agree_setting : (keep : ℕ → Type 0) (g h : Holding) (r : ℕ) → Agree keep g h → Agree keep (setting g r H.Nothing) (setting h r H.Nothing)
agree_setting keep g h r a q k = ap (λ x. if q == r then H.Nothing else x) (a q k)

agree_passing : (keep : ℕ → Type 0) (p : Param) (g h : Holding) (r : ℕ) → keep r → Agree keep g h → Agree keep (passing g p r) (passing h p r)
agree_passing keep p g h r kept a = by p.lent
  where
    by : (b : Bool) → Agree keep (if b then g else using g r) (if b then h else using h r)
    by true = a
    by false = agree_using keep g h r kept a

pass_agree : (keep : ℕ → Type 0) (w : Table) (ps : List Param) (rs : List ℕ) (g h : Holding) → ((r : ℕ) → Among r rs → keep r) → Agree keep g h → can_pass w g ps rs ≡ true → can_pass w h ps rs ≡ true
pass_agree keep w [] rs g h within a e = refl
pass_agree keep w (p ∷ ps) [] g h within a e = absurd (true≢false (sym e))
pass_agree keep w (p ∷ ps) (r ∷ rs) g h within a e =
    let kept = within r (inl refl) in
    let b = both (can_pass_one w (g r) p) (can_pass w (passing g p r) ps rs) e in
    and_to (can_pass_one w (h r) p) (can_pass w (passing h p r) ps rs) (ap (λ x. can_pass_one w x p) (a r kept) ∙ b.0)
    (pass_agree keep w ps rs (passing g p r) (passing h p r) (λ q m. within q (inr m)) (agree_passing keep p g h r kept a) b.1)

passing_agree : (keep : ℕ → Type 0) (ps : List Param) (rs : List ℕ) (g h : Holding) → ((r : ℕ) → Among r rs → keep r) → Agree keep g h → Agree keep (passing_all g ps rs) (passing_all h ps rs)
passing_agree keep [] rs g h within a = a
passing_agree keep (p ∷ ps) [] g h within a = a
passing_agree keep (p ∷ ps) (r ∷ rs) g h within a = passing_agree keep ps rs (passing g p r) (passing h p r) (λ q m. within q (inr m)) (agree_passing keep p g h r (within r (inl refl)) a)

hand_agree : (keep : ℕ → Type 0) (ns cs : List ℕ) (g h : Holding) → ((r : ℕ) → Among r cs → keep r) → Agree keep g h → can_hand g ns cs ≡ true → can_hand h ns cs ≡ true
hand_agree keep [] cs g h within a e = refl
hand_agree keep (n ∷ ns) [] g h within a e = absurd (true≢false (sym e))
hand_agree keep (n ∷ ns) (r ∷ cs) g h within a e =
    let b = both (is_credit_of n (g r)) (can_hand (setting g r H.Nothing) ns cs) e in
    and_to (is_credit_of n (h r)) (can_hand (setting h r H.Nothing) ns cs) (ap (is_credit_of n) (a r (within r (inl refl))) ∙ b.0)
    (hand_agree keep ns cs (setting g r H.Nothing) (setting h r H.Nothing) (λ q m. within q (inr m)) (agree_setting keep g h r a) b.1)

handing_agree : (keep : ℕ → Type 0) (ns cs : List ℕ) (g h : Holding) → Agree keep g h → Agree keep (handing_all g ns cs) (handing_all h ns cs)
handing_agree keep [] cs g h a = a
handing_agree keep (n ∷ ns) [] g h a = a
handing_agree keep (n ∷ ns) (r ∷ cs) g h a = handing_agree keep ns cs (setting g r H.Nothing) (setting h r H.Nothing) (agree_setting keep g h r a)

lend_agree : (keep : ℕ → Type 0) (w : Table) (tail : Bool) (ps : List Param) (rs : List ℕ) (g h : Holding) → ((r : ℕ) → Among r rs → keep r) → Agree keep g h → can_lend w tail g ps rs ≡ true → can_lend w tail h ps rs ≡ true
lend_agree keep w tail [] rs g h within a e = refl
lend_agree keep w tail (p ∷ ps) [] g h within a e = refl
lend_agree keep w tail (p ∷ ps) (r ∷ rs) g h within a e =
    let b = both (is_scalar_type w p.ty || (not p.lent || can_lend_one tail p.ty (g r))) (can_lend w tail g ps rs) e in
    and_to (is_scalar_type w p.ty || (not p.lent || can_lend_one tail p.ty (h r))) (can_lend w tail h ps rs)
    (ap (λ x. is_scalar_type w p.ty || (not p.lent || can_lend_one tail p.ty x)) (a r (within r (inl refl))) ∙ b.0)
    (lend_agree keep w tail ps rs g h (λ q m. within q (inr m)) a b.1)

-- ---- arguments and credits

among_split : (r : ℕ) (rs cs : List ℕ) → Among r (rs ++ cs) → Among r rs ⊎ Among r cs
among_split r [] cs m = inr m
among_split r (q ∷ rs) cs (inl e) = inl (inl e)
among_split r (q ∷ rs) cs (inr m) = elim (among_split r rs cs m) as (λ v. Among r (q ∷ rs) ⊎ Among r cs) [
  | inl x ↦ inl (inr x)
  | inr x ↦ inr x
]

among_front : (r : ℕ) (rs cs : List ℕ) → Among r rs → Among r (rs ++ cs)
among_front r [] cs m = absurd m
among_front r (q ∷ rs) cs (inl e) = inl e
among_front r (q ∷ rs) cs (inr m) = inr (among_front r rs cs m)

among_back : (r : ℕ) (rs cs : List ℕ) → Among r cs → Among r (rs ++ cs)
among_back r [] cs m = m
among_back r (q ∷ rs) cs m = inr (among_back r rs cs m)

handing_spending : (ns cs : List ℕ) (g : Holding) → length cs ≡ length ns → handing_all g ns cs ≡ spending g cs
handing_spending [] [] g many = refl
handing_spending [] (r ∷ cs) g many = absurd (omega (arith, many))
handing_spending (n ∷ ns) [] g many = absurd (omega (arith, many))
handing_spending (n ∷ ns) (r ∷ cs) g many = handing_spending ns cs (setting g r H.Nothing) (omega (arith, many))

spending_nothing : (cs : List ℕ) (g : Holding) (r : ℕ) → g r ≡ H.Nothing → spending g cs r ≡ H.Nothing
spending_nothing [] g r e = e
spending_nothing (q ∷ cs) g r e = spending_nothing cs (setting g q H.Nothing) r (pick (λ x. x ≡ H.Nothing) (r == q) H.Nothing (g r) (λ y. refl) (λ y. e))

spending_gone : (cs : List ℕ) (g : Holding) (r : ℕ) → Among r cs → spending g cs r ≡ H.Nothing
spending_gone [] g r m = absurd m
spending_gone (q ∷ cs) g r (inl e) = spending_nothing cs (setting g q H.Nothing) r (chosen (r == q) H.Nothing (g r) (ap (λ x. r == x) (sym e) ∙ itself r))
spending_gone (q ∷ cs) g r (inr m) = spending_gone cs (setting g q H.Nothing) r m

spending_no_tree : (cs : List ℕ) (g : Holding) (r : ℕ) → is_tree (g r) ≡ false → is_tree (spending g cs r) ≡ false
spending_no_tree [] g r e = e
spending_no_tree (q ∷ cs) g r e = spending_no_tree cs (setting g q H.Nothing) r (pick (λ x. is_tree x ≡ false) (r == q) H.Nothing (g r) (λ y. refl) (λ y. e))

-- a register that is handed over as a credit is one
hand_credit : (ns cs : List ℕ) (g : Holding) (r : ℕ) → can_hand g ns cs ≡ true → length cs ≡ length ns → Among r cs → (n : ℕ) × (g r ≡ H.Credit n)
hand_credit [] [] g r e many m = absurd m
hand_credit [] (q ∷ cs) g r e many m = absurd (omega (arith, many))
hand_credit (n ∷ ns) [] g r e many m = absurd m
hand_credit (n ∷ ns) (q ∷ cs) g r e many (inl same) = (n, ap g same ∙ credit_is n (g q) (both (is_credit_of n (g q)) (can_hand (setting g q H.Nothing) ns cs) e).0)
hand_credit (n ∷ ns) (q ∷ cs) g r e many (inr m) =
    let rest = hand_credit ns cs (setting g q H.Nothing) r (both (is_credit_of n (g q)) (can_hand (setting g q H.Nothing) ns cs) e).1 (omega (arith, many)) m in
    (rest.0, other rest.0 rest.1)
  where
    other : (k : ℕ) → setting g q H.Nothing r ≡ H.Credit k → g r ≡ H.Credit k
    other k z = elim (or_not (r == q)) as (λ v. g r ≡ H.Credit k) [
      | inl y ↦ absurd (none (sym (chosen (r == q) H.Nothing (g r) y) ∙ z))
      | inr y ↦ sym (refused (r == q) H.Nothing (g r) y) ∙ z
    ]
      where
        none : H.Nothing ≡ H.Credit k → ⊥
        none u = absurd (cc)

-- what is read where nothing is owned is borrowed from below
read_below : (n : ℕ → ℕ) (r t : ℕ) (h : Held) → ((q : ℕ) → n q ≡ 0) → is_read_of t h ≡ true → LiesIn n r h → (u : ℕ) × (h ≡ H.Lent u None)
read_below n r t H.Nothing none x y = absurd (true≢false (sym x))
read_below n r t (H.Scalar u) none x y = absurd (true≢false (sym x))
read_below n r t (H.Owned u b) none x y = absurd (let z = none r in let e : ⊥ = omega (arith, z, y) in e)
read_below n r t (H.Lent u None) none x y = (u, refl)
read_below n r t (H.Lent u (Some q)) none x y = absurd (let z = none q in let e : ⊥ = omega (arith, z, y) in e)
read_below n r t (H.Credit k) none x y = absurd (true≢false (sym x))
read_below n r t (H.Bare u c) none x y = absurd (true≢false (sym x))

-- one of the registers of arguments
argument_among : (w : Table) (n : ℕ → ℕ) (g : Holding) (ps : List Param) (rs : List ℕ) (r : ℕ) → HoldPassed w n g ps rs → Among r rs → ((t : ℕ) × HoldsValue w t (g r)) ⊎ ((p : Param) × IsReadIn n g p r)
argument_among w n g [] [] r h m = absurd m
argument_among w n g [] (q ∷ rs) r h m = absurd h
argument_among w n g (p ∷ ps) [] r h m = absurd m
argument_among w n g (p ∷ ps) (q ∷ rs) r h (inl e) = by (borrows w p) h.0
  where
    by : (b : Bool) → Choose b (IsReadIn n g p q) (HoldsValue w p.ty (g q)) → ((t : ℕ) × HoldsValue w t (g r)) ⊎ ((p : Param) × IsReadIn n g p r)
    by true x = inr (p, subst (IsReadIn n g p) (sym e) x)
    by false x = inl (p.ty, subst (λ q. HoldsValue w p.ty (g q)) (sym e) x)
argument_among w n g (p ∷ ps) (q ∷ rs) r h (inr m) = argument_among w n g ps rs r h.1 m

-- a tree among them is used up
tree_among : (w : Table) (n : ℕ → ℕ) (g : Holding) (ps : List Param) (rs : List ℕ) (r : ℕ) → ((q : ℕ) → n q ≡ 0) → HoldPassed w n g ps rs → Among r rs → is_tree (g r) ≡ true → Among r (owned_of ps rs)
tree_among w n g [] [] r none h m tree = absurd m
tree_among w n g [] (q ∷ rs) r none h m tree = absurd h
tree_among w n g (p ∷ ps) [] r none h m tree = absurd m
tree_among w n g (p ∷ ps) (q ∷ rs) r none h (inr m) tree = later p.lent (tree_among w n g ps rs r none h.1 m tree)
  where
    later : (b : Bool) → Among r (owned_of ps rs) → Among r (if b then owned_of ps rs else q ∷ owned_of ps rs)
    later true x = x
    later false x = inr x
tree_among w n g (p ∷ ps) (q ∷ rs) r none h (inl e) tree = by (is_scalar_type w p.ty) p.lent refl refl
  where
    here : is_tree (g q) ≡ true
    here = subst (λ x. is_tree (g x) ≡ true) e tree

    by : (x y : Bool) → is_scalar_type w p.ty ≡ x → p.lent ≡ y → Among r (if p.lent then owned_of ps rs else q ∷ owned_of ps rs)
    by x false d b = subst (λ (rs : List ℕ). Among r rs) (sym (refused p.lent (owned_of ps rs) (q ∷ owned_of ps rs) b)) (inl e)
    by true true d b =
        let v : HoldsValue w p.ty (g q) = subst (λ b. Choose b (IsReadIn n g p q) (HoldsValue w p.ty (g q))) (ap₂ (λ a b. a && not b) b d) h.0 in
        absurd (true≢false (sym here ∙ ap is_tree (v.scalar d)))
    by false true d b =
        let v : IsReadIn n g p q = subst (λ b. Choose b (IsReadIn n g p q) (HoldsValue w p.ty (g q))) (ap₂ (λ a b. a && not b) b d) h.0 in
        absurd (true≢false (sym here ∙ ap is_tree (read_below n q p.ty (g q) none v.read v.lies).1))

module _ (c : PlainCode) (f : PlainFunction) (st : Setting) (wd : W.World) (fip : Bool) (s : Scope) (B : ℕ → Bool) (K : ℕ → Item → ℕ) (shares : Shares c st wd) where
  -- registers of arguments and credits are kept
  call_safe : (m : Known) (d : Instance) (rs cs : List ℕ) (l : Known) → Called c f fip s B K true (λ i. 0) (λ q. 0) m d rs cs l → following (owned_of d.params rs) cs (held_at m.held) ≡ held_at l.held → (r : ℕ) → Among r (rs ++ cs) → Safe (held_at m.held r) (held_at l.held r)
  call_safe m d rs cs l cl known r m2 = elim (among_split r rs cs m2) as (λ v. Safe (held_at m.held r) (held_at l.held r)) [
    | inl a ↦ elim (argument_among c.types n g d.params rs r cl.hold a) as (λ v. Safe (held_at m.held r) (held_at l.held r)) [
      | inl v ↦ of_value a v.0 v.1
      | inr v ↦ of_read v.0 v.1
    ]
    | inr a ↦ of_credit a
  ]
    where
      g : Holding
      g = held_at m.held

      us : List ℕ
      us = owned_of d.params rs

      n : ℕ → ℕ
      n q = owners m.names (own (λ i. 0)) q

      none : (q : ℕ) → owners m.names (own (λ i. 0)) q ≡ 0
      none q = owners_none m.names (own (λ i. 0)) q (λ x. refl)

      at_r : following (owned_of d.params rs) cs (held_at m.held) r ≡ held_at l.held r
      at_r = ap (λ x. x r) known

      no_credit : (k : ℕ) → H.Nothing ≡ H.Credit k → ⊥
      no_credit k z = absurd (cc)

      some : (k : ℕ) → held_at l.held r ≡ H.Credit k → following (owned_of d.params rs) cs (held_at m.held) r ≡ H.Nothing → ⊥
      some k e z = no_credit k (sym z ∙ (at_r ∙ e))

      was_credit : (k : ℕ) → held_at l.held r ≡ H.Credit k → held_at m.held r ≡ H.Credit k
      was_credit k e = sym (after_was (owned_of d.params rs) cs (held_at m.held) r (some k e)) ∙ (at_r ∙ e)

      of_value : Among r rs → (t : ℕ) → HoldsValue c.types t (held_at m.held r) → Safe (held_at m.held r) (held_at l.held r)
      of_value a t v = record {
        bare = λ u e z. value_no_bare c.types t u e (held_at m.held r) v z;
        lent = λ u q z. value_no_lent c.types t u q (held_at m.held r) v z;
        tree = ap is_tree (sym at_r) ∙ spending_no_tree cs (using_all (held_at m.held) (owned_of d.params rs)) r (elim (or_not (is_tree (held_at m.held r))) as (λ x. is_tree (using_all (held_at m.held) (owned_of d.params rs) r) ≡ false) [
          | inl y ↦ used_no_tree (owned_of d.params rs) (held_at m.held) r (tree_among c.types (λ q. owners m.names (own (λ i. 0)) q) (held_at m.held) d.params rs r none cl.hold a y)
          | inr y ↦ no_tree_using_all (owned_of d.params rs) (held_at m.held) r y
        ]);
        credit = λ k e. value_not_credit c.types t k (held_at m.held r) v (was_credit k e);
      }

      of_read : (p : Param) → IsReadIn (λ q. owners m.names (own (λ i. 0)) q) (held_at m.held) p r → Safe (held_at m.held r) (held_at l.held r)
      of_read p v =
          let below = read_below (λ q. owners m.names (own (λ i. 0)) q) r p.ty (held_at m.held r) none v.read v.lies in
          let kept = cl.stays.lent r below.0 below.1 in
          record {
            bare = λ u e z. no_bare below.0 u e (sym below.1 ∙ z);
            lent = λ u q z. no_lent below.0 u q (sym below.1 ∙ z);
            tree = ap is_tree kept;
            credit = λ k e. other below.0 k (sym kept ∙ e);
          }
        where
          no_bare : (t u e : ℕ) → H.Lent t None ≡ H.Bare u e → ⊥
          no_bare t u e z = absurd (cc)

          no_lent : (t u q : ℕ) → H.Lent t None ≡ H.Lent u (Some q) → ⊥
          no_lent t u q z = absurd (cc)

          other : (t k : ℕ) → H.Lent t None ≡ H.Credit k → ⊥
          other t k z = absurd (cc)

      of_credit : Among r cs → Safe (held_at m.held r) (held_at l.held r)
      of_credit a =
          let hand = hand_credit d.credits cs (passing_all (held_at m.held) d.params rs) r cl.hands cl.many_credits a in
          let used : using_all (held_at m.held) (owned_of d.params rs) r ≡ H.Credit hand.0 = ap (λ x. x r) (sym (passing_using d.params rs (held_at m.held))) ∙ hand.1 in
          let was : held_at m.held r ≡ H.Credit hand.0 = from_used hand.0 used in
          let gone : held_at l.held r ≡ H.Nothing = sym at_r ∙ spending_gone cs (using_all (held_at m.held) (owned_of d.params rs)) r a in
          record {
            bare = λ u e z. no_bare hand.0 u e (sym was ∙ z);
            lent = λ u q z. no_lent hand.0 u q (sym was ∙ z);
            tree = ap is_tree gone;
            credit = λ k e. no_credit k (sym gone ∙ e);
          }
        where
          no_bare : (k u e : ℕ) → H.Credit k ≡ H.Bare u e → ⊥
          no_bare k u e z = absurd (cc)

          no_lent : (k u q : ℕ) → H.Credit k ≡ H.Lent u (Some q) → ⊥
          no_lent k u q z = absurd (cc)

          from_used : (k : ℕ) → using_all (held_at m.held) (owned_of d.params rs) r ≡ H.Credit k → held_at m.held r ≡ H.Credit k
          from_used k z = elim (using_all_either (owned_of d.params rs) (held_at m.held) r) as (λ v. held_at m.held r ≡ H.Credit k) [
            | inl same ↦ sym same ∙ z
            | inr nothing ↦ absurd (no_credit k (sym nothing ∙ z))
          ]

  -- the types are the same
  types_same : (xs : List ℕ) → same_types xs xs ≡ true
  types_same [] = refl
  types_same (x ∷ xs) = and_to (x == x) (same_types xs xs) (itself x) (types_same xs)

  pub tail_part : (at : ℕ) (k : Known) (d : Instance) (rs : List ℕ) (mid : ℕ) (m : Known) (g : ℕ) (end : ℕ) (l : Known) → PassedOn c f fip s B K d.credits (λ i. 0) (λ q. 0) at k d.params rs mid m → (h : CallLaid st fip f mid m g rs Return end l) → h.instance ≡ d → f.results ≡ d.results → ((z y : ℕ) → K z (Own y) ≤ 0) → Quiet f at end (reported c k) → LastPart c f at (reported c k) end
  tail_part at k d rs mid m g end l p h is types kept quiet =
      let fn = h.function in
      let cs = h.credits in
      let as' = rs ++ cs in
      let t : TailLaid fip f mid h.m fn as' end = h.ends in
      let of : IsFunctionOf c fn d = shares.functions g fn d h.numbered (subst (λ (d : Instance). slice_get st.instances g ≡ Some d) is h.there) in
      let cl : Called c f fip s B K true (λ i. 0) (λ q. 0) m d rs cs h.m = called c f fip s B K true (λ i. 0) (λ q. 0) m d rs cs h.m (λ e x. refl) p.ties p.hold kept (subst (λ (d : Instance). Bodies.AreTaken (record m { held = Bodies.handed m.held d.params rs }) d.credits cs h.m) is h.taken) in
      let us = owned_of d.params rs in
      let w = held_at m.held in
      let known : following us cs w ≡ held_at h.m.held = ap (λ x. spending x cs) (sym (passing_using d.params rs w)) ∙ (sym (handing_spending d.credits cs (passing_all w d.params rs) cl.many_credits) ∙ cl.short) in
      let leaves : Leaves c.types us cs (λ r. Among r as') w h.m = record {
        known = known;
        trees = subst (λ x. NoTrees x cs) (passing_using d.params rs w) cl.none;
        rooted = p.ties.rooted;
        bares = p.ties.bares;
        counts = cl.ties.credits;
        safe = call_safe m d rs cs h.m cl known;
      } in
      let stops : t.stop < end = (let z = t.one in omega (arith, z)) in
      let quiet2 = quiet_back f at mid end (reported c k) (reported c m) p.grows quiet p.still in
      let gave = gives c f us cs (λ r. Among r as') fip t.steps w mid h.m t.stop t.left leaves t.gives (quiet_front f mid t.stop end (reported c m) (omega (arith, stops)) quiet2) in
      let following_short : (x : Holding) → handing_all (passing_all x d.params as') d.credits (drop (length d.params) as') ≡ handing_all (passing_all x d.params rs) d.credits cs = λ x. ap₂ (λ x y. handing_all x d.credits y) (passing_more d.params rs cs x cl.many) (drop_front rs cs (length d.params) cl.many) in
      let can : CanCallBy c.types true gave.held d.params d.credits as' = record {
        many = cl.can.many;
        passes = pass_agree (λ r. Among r as') c.types d.params as' w gave.held (λ r x. x) gave.agree cl.can.passes;
        hands = hand_agree (λ r. Among r as') d.credits (drop (length d.params) as') (passing_all w d.params as') (passing_all gave.held d.params as') (λ r x. among_back r rs cs (subst (λ (ys : List ℕ). Among r ys) (drop_front rs cs (length d.params) cl.many) x)) (passing_agree (λ r. Among r as') d.params as' w gave.held (λ r x. x) gave.agree) cl.can.hands;
        lends = lend_agree (λ r. Among r as') c.types true d.params as' (handing_all (passing_all w d.params as') d.credits (drop (length d.params) as')) (handing_all (passing_all gave.held d.params as') d.credits (drop (length d.params) as')) (λ r x. x)
            (handing_agree (λ r. Among r as') d.credits (drop (length d.params) as') (passing_all w d.params as') (passing_all gave.held d.params as') (passing_agree (λ r. Among r as') d.params as' w gave.held (λ r x. x) gave.agree)) cl.can.lends;
      } in
      let left : after_call c gave.held fn as' ≡ held_at t.left.held =
      after_by c gave.held fn d as' of ∙ (following_short gave.held ∙ (handing_spending d.credits cs (passing_all gave.held d.params rs) cl.many_credits ∙ (ap (λ x. spending x cs) (passing_using d.params rs gave.held) ∙ gave.leaves.known))) in
      let nothing : NothingLeft (after_call c gave.held fn as') = subst NothingLeft (sym left) (nothing_left c f fip s B K (held_at h.m.held) (held_at t.left.held) t.done gave.fewer
      (λ r x b. true≢false (sym x ∙ no_tree_of (is_tree (held_at h.m.held r)) (subst₂ (λ b n. Fits b (one_if (is_tree (held_at h.m.held r))) n) b (let z = owners_none h.m.names (own (λ i. 0)) r (λ x. refl) in omega (arith, z)) (cl.ties.trees r))))
      (λ r n x b. no_credit_left c f fip s B K h.m cl.ties.credits cl.ties.sizes r n x b)) in
      let row = tail_row c f gave.held fn as' (ap₂ same_types of.results types ∙ types_same d.results) (can_call_by c true gave.held fn d as' of can) nothing in
      subst (λ e. LastPart c f at (reported c k) e) (sym t.one)
      (part_and_last c f at mid (suc t.stop) (reported c k) (reported c m) p.part
      (part_and_last c f mid t.stop (suc t.stop) (reported c m) (kinds_of c.types gave.held) gave.part
      (last_row c f t.stop (kinds_of c.types gave.held) (I.Tail fn as') t.written refl (λ ks j z o. nowhere fn as' t.stop ks j z o) row
      ((quiet_back f mid t.stop end (reported c m) (kinds_of c.types gave.held) gave.grows quiet2 gave.still).first stops))))
    where
      nowhere : (fn : ℕ) (as' : List ℕ) (stop : ℕ) (ks : List Kind) (j : ℕ) (l : List Kind) → Onward c ks stop (I.Tail fn as') j l → ⊥
      nowhere fn as' stop ks j l (inl o) = o.1
      nowhere fn as' stop ks j l (inr o) = o
