-- Arguments and credits are handed over to a call.
use Rattle.std.proofs.Common.{◌≡◌, inl, inr, ℕ, suc, ◌+◌, ◌≤◌, Bool, true, false, ◌&&◌, not, List, [], ◌∷◌, length, refl, sym, ap, ap₂, ◌∙◌, subst, subst₂, arith, slice_set, if◌then◌else◌, ◌==◌}
use Rattle.separation.specs.fip_language.Table.{Table}
use Rattle.separation.specs.fip_base.declared.plain.Param.{Param}
use Rattle.derivation_making.specs.type_check.Scope.{Scope}
use Rattle.derivation_making.specs.ownership_calculus.Terms.{Item, Own, Credit, charge, given}
use Rattle.derivation_making.specs.ownership_calculus.Rules.{Fits}
use Rattle.separation.specs.code_rules.Types.{is_scalar_type}
use Rattle.separation.proofs.separation_kinds.Basics.{pick, chosen, refused, or_not, both, itself}
use Rattle.lowering_relation.specs.declared.held.Held.{Held}
use Rattle.lowering_relation.specs.declared.held.Held.TheVariants as H
use Rattle.lowering_relation.specs.declared.held.Credit as D
use Rattle.lowering_relation.specs.Known.{Known, used, IsTaken}
use Rattle.lowering_relation.specs.LoweredBodies.{handed, AreTaken}
use Rattle.lowering_relation.specs.Describing.{Holding, held_at, setting, is_tree}
use Rattle.lowering_soundness.specs.Covering.{using}
use Rattle.lowering_soundness.specs.Giving.{is_scalar_of, is_owned_of, is_credit_of, can_pass_one, passing, can_pass, passing_all, can_hand, handing_all}
use Rattle.lowering_soundness.specs.Ties.{one_if, owners, sized, own, is_read_of, HoldsValue, owe, Balanced, Stays, LiesIn, Ties}
use Rattle.lowering_soundness.specs.Passed.{Choose, borrows, owe_passed, owed_passed, IsReadIn, HoldPassed}
use Rattle.lowering_soundness.proofs.Giving.{and_to}
use Rattle.lowering_soundness.proofs.Covering.{using_none}
use Rattle.lowering_soundness.proofs.Balance.{use_balanced, use_stays, stays_same, stays_on, stays_fewer, balanced_same}
use Rattle.lowering_soundness.proofs.Owners.{sized_taken}
use Rattle.lowering_soundness.proofs.Tying.{read_same, ties_on}
use Rattle.lowering_soundness.proofs.Helds.{held_within, held_set_fn, length_set, held_used_fn, length_used}
use Rattle.lowering_soundness.proofs.Writing.{is_idle, setting_other, setting_here, setting_stays}
use Rattle.lowering_soundness.proofs.Arguments.{owe_one, value_stays, ties_worth}
use Rattle.lowering_soundness.proofs.Cells.{taken_credit, counted_left, fits_cancel}
use Rattle.lowering_soundness.proofs.Leaving.{cleared_rooted, cleared_bares}
use Rattle.lowering_soundness.proofs.GivingUp.{NoTrees}

-- ---- arguments that are handed over

choose_each : (A D E G : Type 0) (b : Bool) → (A → E) → (D → G) → Choose b A D → Choose b E G
choose_each A D E G true f g x = f x
choose_each A D E G false f g x = g x

owe_less : (w : Table) (p : Param) (r q : ℕ) → borrows w p ≡ false → owe_passed w p r q ≡ owe w p.ty r q
owe_less w p r q b = refused (borrows w p) 0 (owe w p.ty r q) b

-- what registers of arguments hold stays
pub passed_stay : (w : Table) (g h : Holding) (n kept : ℕ → ℕ) (ps : List Param) (rs : List ℕ) → Stays g h n → ((q : ℕ) → kept q ≤ n q) → ((q : ℕ) → owed_passed w ps rs q ≤ n q) → HoldPassed w kept g ps rs → HoldPassed w kept h ps rs
passed_stay w g h n kept [] [] stays le more v = tt
passed_stay w g h n kept [] (r ∷ rs) stays le more v = absurd v
passed_stay w g h n kept (p ∷ ps) [] stays le more v = absurd v
passed_stay w g h n kept (p ∷ ps) (r ∷ rs) stays le more v =
    (first (borrows w p) refl v.0, passed_stay w g h n kept ps rs stays le (λ q. let z = more q in omega (arith, z)) v.1)
  where
    first : (b : Bool) → borrows w p ≡ b → Choose b (IsReadIn kept g p r) (HoldsValue w p.ty (g r)) → Choose b (IsReadIn kept h p r) (HoldsValue w p.ty (h r))
    first true e x = (let same = read_same p.ty n kept g h r stays le x.read x.lies in record { read = ap (is_read_of p.ty) same ∙ x.read; lies = subst (LiesIn kept r) (sym same) x.lies })
    first false e x = value_stays w p.ty g h r n stays (λ z. let a = owe_one w p.ty r z in let b = owe_less w p r r e in let m = more r in omega (arith, a, b, m)) x

pub record GivenPassed (fip : Bool) (w : Table) (g : Holding) (ps : List Param) (rs : List ℕ) (n : ℕ → ℕ) : Type 0 where
  pub can : can_pass w g ps rs ≡ true
  pub balanced : Balanced fip (passing_all g ps rs) n
  pub stays : Stays g (passing_all g ps rs) n

pass_further : (fip : Bool) (w : Table) (g h : Holding) (p : Param) (ps : List Param) (r : ℕ) (rs : List ℕ) (n : ℕ → ℕ) → can_pass_one w (g r) p ≡ true → passing g p r ≡ h → Stays g h n → GivenPassed fip w h ps rs n → GivenPassed fip w g (p ∷ ps) (r ∷ rs) n
pass_further fip w g h p ps r rs n first e stays rest =
    let rest2 = subst (λ k. GivenPassed fip w k ps rs n) (sym e) rest in
    let stays2 = subst (λ k. Stays g k n) (sym e) stays in
    record {
      can = and_to (can_pass_one w (g r) p) (can_pass w (passing g p r) ps rs) first rest2.can;
      balanced = rest2.balanced;
      stays = stays_on g (passing g p r) (passing_all (passing g p r) ps rs) n stays2 rest2.stays;
    }

-- the first argument, by what is so of the others
pass_first : (fip : Bool) (w : Table) (p : Param) (ps : List Param) (r : ℕ) (rs : List ℕ) (g : Holding) (n kept : ℕ → ℕ) → ((k : Holding) → Balanced fip k (λ q. owed_passed w ps rs q + n q) → HoldPassed w kept k ps rs → GivenPassed fip w k ps rs n) → ((q : ℕ) → kept q ≤ n q) → Balanced fip g (λ q. (owe_passed w p r q + owed_passed w ps rs q) + n q) → Choose (borrows w p) (IsReadIn kept g p r) (HoldsValue w p.ty (g r)) → HoldPassed w kept g ps rs → GivenPassed fip w g (p ∷ ps) (r ∷ rs) n
pass_first fip w p ps r rs g n kept rest le b first others = by (is_scalar_type w p.ty) p.lent refl refl
  where
    same_balance : ((q : ℕ) → owe_passed w p r q ≡ 0) → Balanced fip g (λ q. owed_passed w ps rs q + n q)
    same_balance z = balanced_same fip g (λ q. (owe_passed w p r q + owed_passed w ps rs q) + n q) (λ q. owed_passed w ps rs q + n q) (λ q. let y = z q in omega (arith, y)) b

    borrows_is : (x y : Bool) → is_scalar_type w p.ty ≡ x → p.lent ≡ y → borrows w p ≡ (y && not x)
    borrows_is x y e d = ap₂ (λ a b. a && not b) d e

    no_owe : borrows w p ≡ true → (q : ℕ) → owe_passed w p r q ≡ 0
    no_owe e q = chosen (borrows w p) 0 (owe w p.ty r q) e

    scalar_owe : is_scalar_type w p.ty ≡ true → (q : ℕ) → owe_passed w p r q ≡ 0
    scalar_owe e q = pick (λ x. x ≡ 0) (borrows w p) 0 (owe w p.ty r q) (λ y. refl) (λ y. chosen (is_scalar_type w p.ty) 0 (one_if (r == q)) e)

    value : borrows w p ≡ false → HoldsValue w p.ty (g r)
    value e = subst (λ b. Choose b (IsReadIn kept g p r) (HoldsValue w p.ty (g r))) e first

    scalar_held : (y : Bool) → is_scalar_type w p.ty ≡ true → p.lent ≡ y → g r ≡ H.Scalar p.ty
    scalar_held y e d = (value (borrows_is true y e d ∙ and_no y)).scalar e
      where
        and_no : (y : Bool) → (y && false) ≡ false
        and_no true = refl
        and_no false = refl

    passes_scalar : (y : Bool) → is_scalar_type w p.ty ≡ true → p.lent ≡ y → passing g p r ≡ g
    passes_scalar true e d = ap (λ b. if b then g else using g r) d
    passes_scalar false e d = ap (λ b. if b then g else using g r) d ∙ (λ i q. using_none g r (ap is_tree (scalar_held false e d)) q i)

    by : (x y : Bool) → is_scalar_type w p.ty ≡ x → p.lent ≡ y → GivenPassed fip w g (p ∷ ps) (r ∷ rs) n
    by true y e d =
        pass_further fip w g g p ps r rs n
        (chosen (is_scalar_type w p.ty) (is_scalar_of p.ty (g r)) (if p.lent then true else is_owned_of p.ty (g r)) e ∙ (ap (is_scalar_of p.ty) (scalar_held y e d) ∙ itself p.ty))
        (passes_scalar y e d) (stays_same g n) (rest g (same_balance (scalar_owe e)) others)
    by false true e d =
        pass_further fip w g g p ps r rs n
        (refused (is_scalar_type w p.ty) (is_scalar_of p.ty (g r)) (if p.lent then true else is_owned_of p.ty (g r)) e ∙ chosen p.lent true (is_owned_of p.ty (g r)) d)
        (ap (λ b. if b then g else using g r) d) (stays_same g n) (rest g (same_balance (no_owe (borrows_is false true e d))) others)
    by false false e d =
        let v = value (borrows_is false false e d) in
        let b2 : Balanced fip g (λ q. one_if (r == q) + (owed_passed w ps rs q + n q)) = balanced_same fip g (λ q. (owe_passed w p r q + owed_passed w ps rs q) + n q) (λ q. one_if (r == q) + (owed_passed w ps rs q + n q))
        (λ q. let y = owe_less w p r q (borrows_is false false e d) in let z = refused (is_scalar_type w p.ty) 0 (one_if (r == q)) e in omega (arith, y, z)) b in
        let stays = use_stays fip g r (λ q. owed_passed w ps rs q + n q) b2 in
        pass_further fip w g (using g r) p ps r rs n
        (refused (is_scalar_type w p.ty) (is_scalar_of p.ty (g r)) (if p.lent then true else is_owned_of p.ty (g r)) e ∙ (refused p.lent true (is_owned_of p.ty (g r)) d ∙ v.owned e))
        (ap (λ b. if b then g else using g r) d)
        (stays_fewer g (using g r) (λ q. owed_passed w ps rs q + n q) n (λ q. omega arith) stays)
        (rest (using g r) (use_balanced fip g r (λ q. owed_passed w ps rs q + n q) b2)
        (passed_stay w g (using g r) (λ q. owed_passed w ps rs q + n q) kept ps rs stays (λ q. let z = le q in omega (arith, z)) (λ q. omega arith) others))

pub pass_given : (fip : Bool) (w : Table) (ps : List Param) (rs : List ℕ) (g : Holding) (n kept : ℕ → ℕ) → ((q : ℕ) → kept q ≤ n q) → Balanced fip g (λ q. owed_passed w ps rs q + n q) → HoldPassed w kept g ps rs → GivenPassed fip w g ps rs n
pass_given fip w [] [] g n kept le b h = record { can = refl; balanced = balanced_same fip g (λ q. 0 + n q) n (λ q. omega arith) b; stays = stays_same g n }
pass_given fip w [] (r ∷ rs) g n kept le b h = absurd h
pass_given fip w (p ∷ ps) [] g n kept le b h = absurd h
pass_given fip w (p ∷ ps) (r ∷ rs) g n kept le b h = pass_first fip w p ps r rs g n kept (λ k b2 h2. pass_given fip w ps rs k n kept le b2 h2) le b h.0 h.1

-- as a list
pub held_handed : (ps : List Param) (rs : List ℕ) (hs : List Held) → held_at (handed hs ps rs) ≡ passing_all (held_at hs) ps rs
held_handed [] rs hs = refl
held_handed (p ∷ ps) [] hs = refl
held_handed (p ∷ ps) (r ∷ rs) hs = held_handed ps rs (if p.lent then hs else used hs r) ∙ ap (λ g. passing_all g ps rs) (one p.lent)
  where
    one : (b : Bool) → held_at (if b then hs else used hs r) ≡ (if b then held_at hs else using (held_at hs) r)
    one true = refl
    one false = held_used_fn hs r

pub length_handed : (ps : List Param) (rs : List ℕ) (hs : List Held) → length (handed hs ps rs) ≡ length hs
length_handed [] rs hs = refl
length_handed (p ∷ ps) [] hs = refl
length_handed (p ∷ ps) (r ∷ rs) hs = length_handed ps rs (if p.lent then hs else used hs r) ∙ one p.lent
  where
    one : (b : Bool) → length (if b then hs else used hs r) ≡ length hs
    one true = refl
    one false = length_used hs r

-- ---- credits that are handed over

charge_first : (n m : ℕ) (ns : List ℕ) → charge (n ∷ ns) (Credit m) ≡ one_if (n == m) + charge ns (Credit m)
charge_first n m ns = ap (λ x. x + given m ns) (by (n == m))
  where
    by : (b : Bool) → (if b then 1 else 0) ≡ one_if b
    by true = refl
    by false = refl

no_tree_cleared : (g : Holding) (r q : ℕ) → is_tree (g r) ≡ false → is_tree (setting g r H.Nothing q) ≡ is_tree (g q)
no_tree_cleared g r q none = elim (or_not (q == r)) as (λ v. is_tree (setting g r H.Nothing q) ≡ is_tree (g q)) [
  | inl e ↦ ap is_tree (chosen (q == r) H.Nothing (g q) e) ∙ sym (ap (λ x. is_tree (g x)) (Rattle.separation.proofs.separation_kinds.Basics.equal q r e) ∙ none)
  | inr e ↦ ap is_tree (refused (q == r) H.Nothing (g q) e)
]

-- l is k but for a credit that was taken
taken_ties : (fip : Bool) (w : Table) (s : Scope) (B : ℕ → Bool) (K : ℕ → Item → ℕ) (T X : Item → ℕ) (e : ℕ → ℕ) (k : Known) (n r : ℕ) (rest : List D.Credit) → Ties fip w s B K T e k → IsTaken k.credits n r rest → ((x : ℕ) → T (Own x) ≡ X (Own x)) → ((m : ℕ) → T (Credit m) ≡ one_if (n == m) + X (Credit m)) → ((z x : ℕ) → K z (Own x) ≤ X (Own x)) → Ties fip w s B K X e (record k { held = slice_set k.held r H.Nothing; credits = rest })
taken_ties fip w s B K T X e k n r rest ties taken same less kept =
    ties_on fip w s B K T X e e e k l ties (λ x. let z = same x in omega (arith, z)) kept refl (omega arith)
    (subst (λ x. Stays g x (λ q. owners k.names (own X) q + e q)) (sym held) (setting_stays g r H.Nothing (λ q. owners k.names (own X) q + e q) (ap is_idle was)))
    (subst (λ x. Balanced fip x (λ q. owners k.names (own X) q + e q)) (sym held) balanced)
    (subst Rattle.lowering_soundness.specs.Ties.Rooted (sym held) (cleared_rooted g r ties.rooted (ap is_tree was)))
    (subst (Rattle.lowering_soundness.specs.Ties.BareRight w) (sym held) (cleared_bares w g r ties.bares))
    (λ m. fits_cancel fip (one_if (n == m)) (sized m rest) (X (Credit m)) (subst₂ (Fits fip) (sized_taken k.credits n r rest m taken) (less m) (ties.sizes m)))
    (counted_left k.credits n r rest g (held_at l.held) taken ties.credits
    (λ m. ap (λ x. is_credit_of m (x r)) held ∙ ap (is_credit_of m) (setting_here g r H.Nothing))
    (λ m q ne. ap (λ x. is_credit_of m (x q)) held ∙ ap (is_credit_of m) (setting_other g r H.Nothing q ne)))
    (λ q past. ap (λ x. x q) held ∙ pick (λ h. h ≡ H.Nothing) (q == r) H.Nothing (g q) (λ y. refl) (λ y. ties.fresh q past))
  where
    g : Holding
    g = held_at k.held

    l : Known
    l = record k { held = slice_set k.held r H.Nothing; credits = rest }

    was : held_at k.held r ≡ H.Credit n
    was = taken_credit k.credits n r rest (held_at k.held) taken ties.credits

    other : H.Credit n ≡ H.Nothing → ⊥
    other z = absurd (cc)

    held : held_at (slice_set k.held r H.Nothing) ≡ setting (held_at k.held) r H.Nothing
    held = held_set_fn k.held r H.Nothing (held_within k.held r (λ z. other (sym was ∙ z)))

    balanced : Balanced fip (setting (held_at k.held) r H.Nothing) (λ q. owners k.names (own X) q + e q)
    balanced q =
        subst₂ (λ b m. Fits fip (one_if b) (m + e q)) (sym (no_tree_cleared (held_at k.held) r q (ap is_tree was))) (Rattle.lowering_soundness.proofs.Owners.owners_same k.names (own T) (own X) q same) (ties.trees q)

-- all credits of a callee were taken
pub record TookAll (fip : Bool) (w : Table) (s : Scope) (B : ℕ → Bool) (K : ℕ → Item → ℕ) (X : Item → ℕ) (e : ℕ → ℕ) (k : Known) (ns cs : List ℕ) (l : Known) : Type 0 where
  pub ties : Ties fip w s B K X e l
  pub can : can_hand (held_at k.held) ns cs ≡ true
  pub held : held_at l.held ≡ handing_all (held_at k.held) ns cs
  pub names : l.names ≡ k.names
  pub next : l.next ≡ k.next
  pub width : length l.held ≡ length k.held
  pub many : length cs ≡ length ns
  pub none : NoTrees (held_at k.held) cs
  pub empty : (r : ℕ) → held_at k.held r ≡ H.Nothing → held_at l.held r ≡ H.Nothing
  pub stays : (n : ℕ → ℕ) → Stays (held_at k.held) (held_at l.held) n

no_trees_cleared : (cs : List ℕ) (g : Holding) (r : ℕ) → is_tree (g r) ≡ false → NoTrees (setting g r H.Nothing) cs → NoTrees g cs
no_trees_cleared [] g r none h = tt
no_trees_cleared (q ∷ cs) g r none h = (sym (no_tree_cleared g r q none) ∙ h.0, no_trees_cleared cs g r none h.1)

pub take_all : (fip : Bool) (w : Table) (s : Scope) (B : ℕ → Bool) (K : ℕ → Item → ℕ) (X : Item → ℕ) (e : ℕ → ℕ) (k : Known) (ns cs : List ℕ) (l : Known) → AreTaken k ns cs l → Ties fip w s B K (λ i. charge ns i + X i) e k → ((z x : ℕ) → K z (Own x) ≤ X (Own x)) → TookAll fip w s B K X e k ns cs l
take_all fip w s B K X e k [] [] l h ties kept =
    subst (λ l. TookAll fip w s B K X e k [] [] l) (sym h) (record {
      ties = ties_worth fip w s B K (λ i. charge [] i + X i) X e k nothing ties;
      can = refl;
      held = refl;
      names = refl;
      next = refl;
      width = refl;
      many = refl;
      none = tt;
      empty = λ r y. y;
      stays = λ n. stays_same (held_at k.held) n;
    })
  where
    nothing : (i : Item) → charge [] i + X i ≡ X i
    nothing (Own x) = omega arith
    nothing (Credit m) = omega arith
take_all fip w s B K X e k [] (r ∷ cs) l h ties kept = absurd h
take_all fip w s B K X e k (n ∷ ns) [] l h ties kept = absurd h
take_all fip w s B K X e k (n ∷ ns) (r ∷ cs) l h ties kept =
    let g = held_at k.held in
    let mid : Known = record k { held = slice_set k.held r H.Nothing; credits = h.0 } in
    let was : g r ≡ H.Credit n = taken_credit k.credits n r h.0 g h.1 ties.credits in
    let none = ap is_tree was in
    let held : held_at mid.held ≡ setting g r H.Nothing = held_set_fn k.held r H.Nothing (held_within k.held r (λ z. other n (sym was ∙ z))) in
    let rest = take_all fip w s B K X e mid ns cs l h.2 (taken_ties fip w s B K (λ i. charge (n ∷ ns) i + X i) (λ i. charge ns i + X i) e k n r h.0 ties h.1 (λ x. refl) (λ m. let z = charge_first n m ns in omega (arith, z)) (λ u x. let z = kept u x in omega (arith, z))) kept in
    record {
      ties = rest.ties;
      can = and_to (is_credit_of n (g r)) (can_hand (setting g r H.Nothing) ns cs) (ap (is_credit_of n) was ∙ itself n) (subst (λ x. can_hand x ns cs ≡ true) held rest.can);
      held = rest.held ∙ ap (λ x. handing_all x ns cs) held;
      names = rest.names;
      next = rest.next;
      width = rest.width ∙ length_set k.held r H.Nothing;
      many = ap suc rest.many;
      none = (none, no_trees_cleared cs g r none (subst (λ x. NoTrees x cs) held rest.none));
      empty = λ q y. rest.empty q (ap (λ x. x q) held ∙ pick (λ x. x ≡ H.Nothing) (q == r) H.Nothing (g q) (λ z. refl) (λ z. y));
      stays = λ m. stays_on g (held_at mid.held) (held_at l.held) m (subst (λ x. Stays g x m) (sym held) (setting_stays g r H.Nothing m (ap is_idle was))) (rest.stays m);
    }
  where
    other : (n : ℕ) → H.Credit n ≡ H.Nothing → ⊥
    other n z = absurd (cc)
