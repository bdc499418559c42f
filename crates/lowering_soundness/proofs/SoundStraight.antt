-- The instructions of straight code, one after another: each is as required, and what is reported of the kinds after it
-- is so.
use Rattle.std.proofs.Common.{◌≡◌, ℕ, zero, suc, ◌<◌, Bool, true, false, not, List, [], ◌∷◌, length, Option, Some, None, refl, sym, ap, ◌∙◌, subst, true≢false, if◌then◌else◌, ◌==◌}
use Rattle.std.specs.Prelude.{ℤ, is_some}
use Rattle.std.proofs.lemmas.Option.{same_Some}
use Rattle.separation.specs.fip_language.declared.Operator.{Operator}
use Rattle.separation.specs.cell_code.declared.code.Instr.TheVariants as I
use Rattle.separation.specs.cell_code.declared.kind.From.{From}
use Rattle.separation.specs.cell_code.declared.kind.Kind.{Kind}
use Rattle.separation.specs.cell_code.declared.kind.Kind.TheVariants.{Gone, Scalar, Owned, Lent, Credit}
use Rattle.separation.specs.cell_code.Plain.{PlainFunction, PlainCode, results}
use Rattle.separation.specs.code_rules.Types.{fields, is_scalar_type}
use Rattle.separation.specs.code_rules.Kinds as S
use Rattle.separation.specs.code_rules.Kinds.{at, are_free}
use Rattle.separation.specs.code_rules.Ranges.{are_below}
use Rattle.separation.specs.code_rules.Changes.{become, moved_by, forget}
use Rattle.separation.specs.code_rules.Handing.{give_all, arguments}
use Rattle.separation.specs.code_rules.Taking.{Chain, IsReached, part, is_heir, fate, ends}
use Rattle.separation.specs.code_rules.Asked.{known_fields, can_take, same_types, tail_left, are_places, can_receive}
use Rattle.separation.specs.code_rules.Leaves as L
use Rattle.separation.specs.code_rules.Endings.{nothing_owned}
use Rattle.separation.proofs.separation_kinds.Basics.{pick, chosen, equal_is, becomes, length_become, at_past}
use Rattle.lowering_relation.specs.declared.held.Held.{Held}
use Rattle.lowering_relation.specs.declared.held.Held.TheVariants as H
use Rattle.lowering_relation.specs.Known.{without}
use Rattle.lowering_relation.specs.Describing.{Holding, kind_of, kinds_of, setting, is_tree, is_spare}
use Rattle.lowering_soundness.specs.Covering.{Covers, Covered, using, using_all}
use Rattle.lowering_soundness.specs.Giving as G
use Rattle.lowering_soundness.specs.Giving.{can_give, receiving_all, atom_held, is_value, after_call, CanCall, NothingLeft, LendsNothing}
use Rattle.lowering_soundness.specs.Rows.{IsRow, IsLastRow}
use Rattle.lowering_soundness.proofs.Covering.{held_goes, covers_spare, covered_same, reported_within, written_covered, used_covered, using_none}
use Rattle.lowering_soundness.proofs.Giving.{scalar_kind, credit_kind, give_all_covered, arguments_covered, places_covered, received_covered, and_to}

module _ (c : PlainCode) (f : PlainFunction) where
  abbrev reported : Holding → ℕ → Kind
  reported g = kinds_of c.types g

  pub const_row : (g : Holding) (d : ℕ) (v : ℤ) → is_spare (g d) ≡ true → d < f.registers → IsRow c f (reported g) (I.Const d v) (reported (setting g d (H.Scalar 0)))
  const_row g d v spare there = record {
    sources = λ ks cov. refl;
    destinations = λ ks cov. covers_spare c.types (g d) (at ks d) spare (cov.each d);
    leaves = λ ks left cov e. subst (Covered f.registers (reported (setting g d (H.Scalar 0)))) (sym e) (written_covered c.types f.registers g ks d (H.Scalar 0) (Scalar 0) cov there refl);
  }

  atom_by : (t k : ℕ) (b : Bool) → Covers (kind_of c.types (if b then H.Scalar t else H.Owned t (Some k))) (if b then Scalar t else Owned t (k ∷ []))
  atom_by t k true = refl
  atom_by t k false = refl

  pub atom_row : (g : Holding) (d t k : ℕ) → length (fields c.types t k) ≡ 0 → is_spare (g d) ≡ true → d < f.registers → IsRow c f (reported g) (I.Atom d t k) (reported (setting g d (atom_held c.types t k)))
  atom_row g d t k bare spare there = record {
    sources = λ ks cov. equal_is (length (fields c.types t k)) 0 bare;
    destinations = λ ks cov. covers_spare c.types (g d) (at ks d) spare (cov.each d);
    leaves = λ ks left cov e. subst (Covered f.registers (reported (setting g d (atom_held c.types t k)))) (sym e)
        (written_covered c.types f.registers g ks d (atom_held c.types t k) (L.atom_kind c.types t k) cov there (atom_by t k (is_scalar_type c.types t)));
  }

  pub arith_row : (g : Holding) (d : ℕ) (op : Operator) (x y line col : ℕ) → G.is_scalar_of 0 (g x) ≡ true → G.is_scalar_of 0 (g y) ≡ true → is_spare (g d) ≡ true → d < f.registers → IsRow c f (reported g) (I.Arith d op x y line col) (reported (setting g d (H.Scalar (L.result_type op))))
  arith_row g d op x y line col left right spare there = record {
    sources = λ ks cov. and_to (S.is_scalar_of 0 (at ks x)) (S.is_scalar_of 0 (at ks y)) (scalar_kind c.types 0 (g x) (at ks x) left (cov.each x)) (scalar_kind c.types 0 (g y) (at ks y) right (cov.each y));
    destinations = λ ks cov. covers_spare c.types (g d) (at ks d) spare (cov.each d);
    leaves = λ ks after cov e. subst (Covered f.registers (reported (setting g d (H.Scalar (L.result_type op))))) (sym e) (written_covered c.types f.registers g ks d (H.Scalar (L.result_type op)) (Scalar (L.result_type op)) cov there refl);
  }

  -- ---- a word that goes from register s to d

  value_there : (h : Held) (k : Kind) → is_value h ≡ true → Covers (kind_of c.types h) k → not (S.is_gone k) ≡ true
  value_there H.Nothing k v e = absurd (true≢false (sym v))
  value_there (H.Scalar t) k v e = ap (λ k. not (S.is_gone k)) e
  value_there (H.Owned t b) k v e = ap (λ k. not (S.is_gone k)) e
  value_there (H.Lent t root) k v e = ap (λ k. not (S.is_gone k)) e
  value_there (H.Credit n) k v e = absurd (true≢false (sym v))
  value_there (H.Bare t b) k v e = absurd (true≢false (sym v))

  unused : (g : Holding) (ks : List Kind) (s : ℕ) (h : Held) → Covered f.registers (reported g) ks → g s ≡ h → is_tree h ≡ false → Covered f.registers (reported (using g s)) ks
  unused g ks s h cov e none = covered_same f.registers (reported g) (reported (using g s)) ks cov (λ q. ap (kind_of c.types) (sym (using_none g s (ap is_tree e ∙ none) q)))

  moved_covered : (g : Holding) (ks : List Kind) (s : ℕ) (h : Held) (k : Kind) → Covered f.registers (reported g) ks → g s ≡ h → is_value h ≡ true → Covers (kind_of c.types h) k → Covered f.registers (reported (using g s)) (moved_by ks s k)
  moved_covered g ks s H.Nothing k cov e v l = absurd (true≢false (sym v))
  moved_covered g ks s (H.Scalar t) k cov e v l = subst (λ k. Covered f.registers (reported (using g s)) (moved_by ks s k)) (sym l) (unused g ks s (H.Scalar t) cov e refl)
  moved_covered g ks s (H.Owned t b) k cov e v l = subst (λ k. Covered f.registers (reported (using g s)) (moved_by ks s k)) (sym l) (used_covered c.types f.registers g ks s cov (ap is_tree e))
  moved_covered g ks s (H.Lent t root) k cov e v l = subst (λ k. Covered f.registers (reported (using g s)) (moved_by ks s k)) (sym l) (unused g ks s (H.Lent t root) cov e refl)
  moved_covered g ks s (H.Credit n) k cov e v l = absurd (true≢false (sym v))
  moved_covered g ks s (H.Bare t b) k cov e v l = absurd (true≢false (sym v))

  pub move_row : (g : Holding) (d s : ℕ) → is_value (g s) ≡ true → (d == s) ≡ false → is_spare (g d) ≡ true → d < f.registers → IsRow c f (reported g) (I.Move d s) (reported (setting (using g s) d (g s)))
  move_row g d s value other spare there = record {
    sources = λ ks cov. value_there (g s) (at ks s) value (cov.each s);
    destinations = λ ks cov. and_to (S.is_free (at ks d)) (not (d == s)) (covers_spare c.types (g d) (at ks d) spare (cov.each d)) (ap not other);
    leaves = λ ks left cov e. subst (Covered f.registers (reported (setting (using g s) d (g s)))) (sym e)
        (written_covered c.types f.registers (using g s) (moved_by ks s (at ks s)) d (g s) (at ks s) (moved_covered g ks s (g s) (at ks s) cov refl value (cov.each s)) there (cov.each s));
  }

  -- ---- a cell gets its fields, a tree is dropped, a credit is freed

  some_is : {A : Type 0} (o : Option A) (x : A) → o ≡ Some x → is_some o ≡ true
  some_is o x e = ap is_some e

  credit_there : (g : Holding) (ks : List Kind) (k r : ℕ) → Covered f.registers (reported g) ks → S.is_credit_of k (at ks r) ≡ true → r < f.registers
  credit_there g ks k r cov e = reported_within c.types f.registers g ks r cov (λ gone. true≢false (sym e ∙ ap (S.is_credit_of k) gone))

  pub put_row : (g : Holding) (d t k : ℕ) (rs : List ℕ) → G.is_credit_of (length rs) (g d) ≡ true → can_give g rs (fields c.types t k) ≡ true → IsRow c f (reported g) (I.Put d t k rs) (reported (setting (using_all g rs) d (H.Owned t (Some k))))
  put_row g d t k rs credit gives = record {
    sources = λ ks cov. (let given = give_all_covered c.types f.registers rs (fields c.types t k) g ks cov gives in some_is (give_all ks rs (fields c.types t k)) given.0 given.1);
    destinations = λ ks cov. credit_kind c.types (length rs) (g d) (at ks d) credit (cov.each d);
    leaves = λ ks left cov e. (
        let given = give_all_covered c.types f.registers rs (fields c.types t k) g ks cov gives in
        let there = credit_there g ks (length rs) d cov (credit_kind c.types (length rs) (g d) (at ks d) credit (cov.each d)) in
        let same : given.0 ≡ e.0 = same_Some given.0 e.0 (sym given.1 ∙ e.1) in
        subst (Covered f.registers (reported (setting (using_all g rs) d (H.Owned t (Some k))))) (sym e.2)
        (written_covered c.types f.registers (using_all g rs) e.0 d (H.Owned t (Some k)) (Owned t (k ∷ [])) (subst (Covered f.registers (reported (using_all g rs))) same given.2) there refl));
  }

  tree_kind : (h : Held) (k : Kind) → is_tree h ≡ true → Covers (kind_of c.types h) k → S.is_owned k ≡ true
  tree_kind H.Nothing k v e = absurd (true≢false (sym v))
  tree_kind (H.Scalar t) k v e = absurd (true≢false (sym v))
  tree_kind (H.Owned t b) k v e = ap S.is_owned e
  tree_kind (H.Lent t root) k v e = absurd (true≢false (sym v))
  tree_kind (H.Credit n) k v e = absurd (true≢false (sym v))
  tree_kind (H.Bare t b) k v e = absurd (true≢false (sym v))

  pub drop_row : (g : Holding) (r : ℕ) → is_tree (g r) ≡ true → IsRow c f (reported g) (I.Drop r) (reported (using g r))
  drop_row g r tree = record {
    sources = λ ks cov. tree_kind (g r) (at ks r) tree (cov.each r);
    destinations = λ ks cov. refl;
    leaves = λ ks left cov e. subst (Covered f.registers (reported (using g r))) (sym e) (used_covered c.types f.registers g ks r cov tree);
  }

  some_credit : (k : Kind) (n : ℕ) → S.is_credit_of n k ≡ true → S.is_credit k ≡ true
  some_credit Gone n e = absurd (true≢false (sym e))
  some_credit (Scalar t) n e = absurd (true≢false (sym e))
  some_credit (Owned t s) n e = absurd (true≢false (sym e))
  some_credit (Lent t s root from) n e = absurd (true≢false (sym e))
  some_credit (Credit k) n e = refl

  pub free_row : (g : Holding) (r n : ℕ) → G.is_credit_of n (g r) ≡ true → IsRow c f (reported g) (I.Free r) (reported (setting g r H.Nothing))
  free_row g r n credit = record {
    sources = λ ks cov. some_credit (at ks r) n (credit_kind c.types n (g r) (at ks r) credit (cov.each r));
    destinations = λ ks cov. refl;
    leaves = λ ks left cov e. subst (Covered f.registers (reported (setting g r H.Nothing))) (sym e)
        (written_covered c.types f.registers g ks r H.Nothing Gone cov (credit_there g ks n r cov (credit_kind c.types n (g r) (at ks r) credit (cov.each r))) refl);
  }

  -- ---- calls and ends

  pub call_row : (g : Holding) (h : ℕ) (rs ds : List ℕ) → CanCall c false g h rs → length ds ≡ length (results c h) → G.can_receive (after_call c g h rs) ds ≡ true → are_below f.registers ds ≡ true → IsRow c f (reported g) (I.Call h rs ds) (reported (receiving_all c.types (after_call c g h rs) ds (results c h)))
  call_row g h rs ds can many places within = record {
    sources = λ ks cov. (let a = arguments_covered c f.registers false g ks h rs cov can in some_is (arguments c false ks h rs) a.0 a.1);
    destinations = λ ks cov. (
        let a = arguments_covered c f.registers false g ks h rs cov can in
        ap (λ o. can_receive o (length (results c h)) ds) a.1
        ∙ and_to (length ds == length (results c h)) (are_places a.0 ds) (equal_is (length ds) (length (results c h)) many) (places_covered c.types f.registers (after_call c g h rs) a.0 ds a.2 places));
    leaves = λ ks left cov e. (
        let a = arguments_covered c f.registers false g ks h rs cov can in
        let same : a.0 ≡ e.0 = same_Some a.0 e.0 (sym a.1 ∙ e.1) in
        subst (Covered f.registers (reported (receiving_all c.types (after_call c g h rs) ds (results c h)))) (sym e.2)
        (received_covered c.types f.registers ds (results c h) (after_call c g h rs) e.0 (subst (Covered f.registers (reported (after_call c g h rs))) same a.2) within));
  }

  free_all : (ks : List Kind) → ((r : ℕ) → S.is_free (at ks r) ≡ true) → are_free ks ≡ true
  free_all [] h = refl
  free_all (k ∷ ks) h = and_to (S.is_free k) (are_free ks) (h 0) (free_all ks (λ r. h (suc r)))

  pub nothing_covered : (g : Holding) (ks : List Kind) → Covered f.registers (reported g) ks → NothingLeft g → are_free ks ≡ true
  nothing_covered g ks cov none = free_all ks (λ r. covers_spare c.types (g r) (at ks r) (none r) (cov.each r))

  pub tail_row : (g : Holding) (h : ℕ) (rs : List ℕ) → same_types (results c h) f.results ≡ true → CanCall c true g h rs → NothingLeft (after_call c g h rs) → IsLastRow c f (reported g) (I.Tail h rs)
  tail_row g h rs types can none = record {
    sources = λ ks cov. (let t = left ks cov in some_is (tail_left c f ks h rs) t.0 t.1);
    destinations = λ ks cov. refl;
    spends = λ ks cov. (let t = left ks cov in ap nothing_owned t.1 ∙ nothing_covered (after_call c g h rs) t.0 t.2 none);
  }
    where
      left : (ks : List Kind) → Covered f.registers (reported g) ks → (rest : List Kind) × (tail_left c f ks h rs ≡ Some rest) × Covered f.registers (reported (after_call c g h rs)) rest
      left ks cov = (let a = arguments_covered c f.registers true g ks h rs cov can in (a.0, chosen (same_types (results c h) f.results) (arguments c true ks h rs) None types ∙ a.1, a.2))

  pub ret_row : (g : Holding) (rs : List ℕ) → can_give g rs f.results ≡ true → NothingLeft (using_all g rs) → IsLastRow c f (reported g) (I.Ret rs)
  ret_row g rs gives none = record {
    sources = λ ks cov. (let a = give_all_covered c.types f.registers rs f.results g ks cov gives in some_is (give_all ks rs f.results) a.0 a.1);
    destinations = λ ks cov. refl;
    spends = λ ks cov. (let a = give_all_covered c.types f.registers rs f.results g ks cov gives in ap nothing_owned a.1 ∙ nothing_covered (using_all g rs) a.0 a.2 none);
  }

  -- ---- a constructor without fields that was matched is used up

  no_chain : (ks : List Kind) (heir : ℕ → Bool) (n : ℕ) (o : Option From) (d : ℕ) → ((q : ℕ) → heir q ≡ false) → Chain ks heir n o d → ⊥
  no_chain ks heir zero None d none x = x
  no_chain ks heir (suc n) None d none x = x
  no_chain ks heir zero (Some from) d none x = true≢false (sym x.0 ∙ none from.register)
  no_chain ks heir (suc n) (Some from) d none x = no_chain ks heir n (S.from_of (at ks from.register)) d none x.1

  unreached : (ks : List Kind) (heir : ℕ → Bool) (q : ℕ) (o : Option ℕ) → ((q : ℕ) → heir q ≡ false) → IsReached ks heir q o → o ≡ None
  unreached ks heir q None none x = refl
  unreached ks heir q (Some d) none x = absurd (no_chain ks heir x.0 (S.from_of (at ks q)) d none x.1)

  fate_covers : (p : ℕ → Bool) (r : ℕ) (h : Held) (k : Kind) (b : Bool) → S.is_lent_of r k ≡ b → Covers (kind_of c.types h) k → Covers (kind_of c.types (without r h)) (forget p (if b then Gone else k))
  fate_covers p r h k true l e = held_goes c.types p r h k true l e
  fate_covers p r h k false l e = held_goes c.types p r h k false l e

  -- what a register has after it
  after_bare : List Kind → (ℕ → Bool) → ℕ → ℕ → Kind
  after_bare ks p r q = if q == r then Gone else forget p (if S.is_lent_of r (at ks q) then Gone else at ks q)

  bare_at : (p : ℕ → Bool) (r : ℕ) (b : Bool) (h : Held) (k : Kind) → without r h ≡ h → Covers (kind_of c.types h) k → Covers (kind_of c.types (if b then H.Nothing else h)) (if b then Gone else forget p (if S.is_lent_of r k then Gone else k))
  bare_at p r true h k same e = refl
  bare_at p r false h k same e = subst (λ i. Covers (kind_of c.types i) (forget p (if S.is_lent_of r k then Gone else k))) same (fate_covers p r h k (S.is_lent_of r k) refl e)

  bare_past : (ks : List Kind) (p : ℕ → Bool) (r q : ℕ) → at ks q ≡ Gone → after_bare ks p r q ≡ Gone
  unfolding after_bare
  bare_past ks p r q e = pick (λ k. k ≡ Gone) (q == r) Gone (forget p (if S.is_lent_of r (at ks q) then Gone else at ks q)) (λ y. refl) (λ n. ap (λ k. forget p (if S.is_lent_of r k then Gone else k)) e)

  bare_covered : (g : Holding) (ks : List Kind) (p : ℕ → Bool) (r : ℕ) → Covered f.registers (reported g) ks → LendsNothing g r → Covered f.registers (reported (setting g r H.Nothing)) (become ks (after_bare ks p r))
  unfolding after_bare
  bare_covered g ks p r cov lends = record {
    wide = length_become ks (after_bare ks p r) ∙ cov.wide;
    each = λ q. subst (Covers (reported (setting g r H.Nothing) q)) (sym (becomes ks (after_bare ks p r) (λ q past. bare_past ks p r q (at_past ks q past)) q)) (bare_at p r (q == r) (g q) (at ks q) (lends q) (cov.each q));
  }

  reached_none : (ks : List Kind) (p : ℕ → Bool) (r : ℕ) (o : Option ℕ) (q : ℕ) → o ≡ None → (if q == r then Gone else forget p (fate o r (at ks q))) ≡ after_bare ks p r q
  unfolding after_bare
  reached_none ks p r o q e = ap (λ o. if q == r then Gone else forget p (fate o r (at ks q))) e

  pub bare_row : (g : Holding) (r t k : ℕ) → g r ≡ H.Bare t k → length (fields c.types t k) ≡ 0 → LendsNothing g r → IsRow c f (reported g) (I.Take r []) (reported (setting g r H.Nothing))
  bare_row g r t k held bare lends = record {
    sources = λ ks cov. (let e : at ks r ≡ Owned t (k ∷ []) = subst (λ h. Covers (kind_of c.types h) (at ks r)) held (cov.each r) in ap (can_take c.types 0) e ∙ equal_is (length (fields c.types t k)) 0 bare);
    destinations = λ ks cov. refl;
    leaves = λ ks left cov e. (
        let ts = known_fields c.types (at ks r) in
        let p = ends c.types ks r (part [] ts) 0 e.0 in
        let none : (q : ℕ) → e.0 q ≡ None = λ q. unreached ks (is_heir c.types ks r (part [] ts)) q (e.0 q) (λ q. refl) (e.1 q) in
        let new : (λ q. if q == r then Gone else forget p (fate (e.0 q) r (at ks q))) ≡ after_bare ks p r = λ i q. reached_none ks p r (e.0 q) q (none q) i in
        subst (Covered f.registers (reported (setting g r H.Nothing))) (sym (e.2 ∙ ap (become ks) new)) (bare_covered g ks p r cov lends));
  }
