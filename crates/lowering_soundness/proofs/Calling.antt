-- A call: its arguments and its credits are as required, and its results come into registers that wait for them.
use Rattle.std.proofs.Common.{◌≡◌, ℕ, zero, suc, ◌+◌, ◌≤◌, Bool, true, false, ◌&&◌, ◌||◌, not, List, [], ◌∷◌, ◌++◌, length, drop, Some, None, refl, sym, ap, ap₂, ◌∙◌, subst, subst₂, true≢false, arith, if◌then◌else◌, ◌==◌}
use Rattle.separation.specs.fip_language.Table.{Table}
use Rattle.separation.specs.fip_base.declared.plain.Param.{Param}
use Rattle.lowering_relation.specs.fip_trees.Tree.{Instance}
use Rattle.derivation_making.specs.type_check.Scope.{Scope}
use Rattle.derivation_making.specs.ownership_calculus.Terms.{Item, Own, charge}
use Rattle.separation.specs.cell_code.Plain.{PlainFunction, PlainCode}
use Rattle.separation.specs.code_rules.Types.{is_scalar_type}
use Rattle.lowering_relation.specs.declared.held.Held.{Held}
use Rattle.lowering_relation.specs.declared.held.Held.TheVariants as H
use Rattle.lowering_relation.specs.Known.{Known}
use Rattle.lowering_relation.specs.LoweredBodies.{handed, AreTaken}
use Rattle.lowering_relation.specs.Describing.{Holding, held_at}
use Rattle.lowering_soundness.specs.Covering.{using, using_all}
use Rattle.lowering_soundness.specs.Giving.{is_credit_of, passing_all, can_pass, can_hand, handing_all, can_lend_one, can_lend, after_call, CanCall}
use Rattle.lowering_soundness.specs.Ties.{one_if, owners, own, is_read_of, HoldsValue, Balanced, Rooted, BareRight, Stays, LiesIn, Ties}
use Rattle.lowering_soundness.specs.Laid.{IsFunctionOf}
use Rattle.lowering_soundness.specs.Passed.{Choose, borrows, owed_passed, IsBorrowed, PassHolds, IsReadIn, HoldPassed}
use Rattle.lowering_soundness.proofs.Giving.{and_to}
use Rattle.lowering_soundness.proofs.Balance.{stays_on, stays_fewer, balanced_same}
use Rattle.lowering_soundness.proofs.Owners.{owners_same, owners_less, owners_none}
use Rattle.lowering_soundness.proofs.Tying.{read_same, ties_on}
use Rattle.lowering_soundness.proofs.Writing.{rooted_using_all, bares_using_all, credit_using_all, nothing_using_all}
use Rattle.lowering_soundness.proofs.GivingUp.{NoTrees}
use Rattle.lowering_soundness.proofs.Spending.{pass_given, held_handed, length_handed, take_all}
pub use Rattle.tail_groups.proofs.fip_language.Facts.{length_join as length_both}

-- ---- one list of arguments and credits

pub can_pass_more : (w : Table) (ps : List Param) (rs cs : List ℕ) (g : Holding) → length rs ≡ length ps → can_pass w g ps (rs ++ cs) ≡ can_pass w g ps rs
can_pass_more w [] rs cs g many = refl
can_pass_more w (p ∷ ps) [] cs g many = absurd (omega (arith, many))
can_pass_more w (p ∷ ps) (r ∷ rs) cs g many = ap (λ b. Rattle.lowering_soundness.specs.Giving.can_pass_one w (g r) p && b) (can_pass_more w ps rs cs (Rattle.lowering_soundness.specs.Giving.passing g p r) (omega (arith, many)))

pub passing_more : (ps : List Param) (rs cs : List ℕ) (g : Holding) → length rs ≡ length ps → passing_all g ps (rs ++ cs) ≡ passing_all g ps rs
passing_more [] rs cs g many = refl
passing_more (p ∷ ps) [] cs g many = absurd (omega (arith, many))
passing_more (p ∷ ps) (r ∷ rs) cs g many = passing_more ps rs cs (Rattle.lowering_soundness.specs.Giving.passing g p r) (omega (arith, many))

pub can_lend_more : (w : Table) (tail : Bool) (ps : List Param) (rs cs : List ℕ) (g : Holding) → length rs ≡ length ps → can_lend w tail g ps (rs ++ cs) ≡ can_lend w tail g ps rs
can_lend_more w tail [] rs cs g many = refl
can_lend_more w tail (p ∷ ps) [] cs g many = absurd (omega (arith, many))
can_lend_more w tail (p ∷ ps) (r ∷ rs) cs g many = ap (λ b. (is_scalar_type w p.ty || (not p.lent || can_lend_one tail p.ty (g r))) && b) (can_lend_more w tail ps rs cs g (omega (arith, many)))

pub drop_front : (rs cs : List ℕ) (n : ℕ) → length rs ≡ n → drop n (rs ++ cs) ≡ cs
drop_front [] cs zero many = refl
drop_front [] cs (suc n) many = absurd (omega (arith, many))
drop_front (r ∷ rs) cs zero many = absurd (omega (arith, many))
drop_front (r ∷ rs) cs (suc n) many = drop_front rs cs n (omega (arith, many))

-- what is required of a call, by its parameters and its credits
pub record CanCallBy (w : Table) (tail : Bool) (g : Holding) (ps : List Param) (ks : List ℕ) (as' : List ℕ) : Type 0 where
  pub many : length as' ≡ length ps + length ks
  pub passes : can_pass w g ps as' ≡ true
  pub hands : can_hand (passing_all g ps as') ks (drop (length ps) as') ≡ true
  pub lends : can_lend w tail (handing_all (passing_all g ps as') ks (drop (length ps) as')) ps as' ≡ true

pub can_call_by : (c : PlainCode) (tail : Bool) (g : Holding) (f : ℕ) (d : Instance) (as' : List ℕ) → IsFunctionOf c f d → CanCallBy c.types tail g d.params d.credits as' → CanCall c tail g f as'
can_call_by c tail g f d as' is can = record {
  many = subst₂ (λ ps ks. length as' ≡ length ps + length ks) (sym is.params) (sym is.credits) can.many;
  passes = subst (λ ps. can_pass c.types g ps as' ≡ true) (sym is.params) can.passes;
  hands = subst₂ (λ ps ks. can_hand (passing_all g ps as') ks (drop (length ps) as') ≡ true) (sym is.params) (sym is.credits) can.hands;
  lends = subst₂ (λ ps ks. can_lend c.types tail (handing_all (passing_all g ps as') ks (drop (length ps) as')) ps as' ≡ true) (sym is.params) (sym is.credits) can.lends;
}

pub after_by : (c : PlainCode) (g : Holding) (f : ℕ) (d : Instance) (as' : List ℕ) → IsFunctionOf c f d → after_call c g f as' ≡ handing_all (passing_all g d.params as') d.credits (drop (length d.params) as')
after_by c g f d as' is = ap₂ (λ ps ks. handing_all (passing_all g ps as') ks (drop (length ps) as')) is.params is.credits

-- ---- what may be borrowed

lies_more : (n m : ℕ → ℕ) (r : ℕ) (h : Held) → ((q : ℕ) → n q ≤ m q) → LiesIn n r h → LiesIn m r h
lies_more n m r H.Nothing le x = tt
lies_more n m r (H.Scalar t) le x = tt
lies_more n m r (H.Owned t b) le x = let z = le r in omega (arith, z, x)
lies_more n m r (H.Lent t None) le x = tt
lies_more n m r (H.Lent t (Some q)) le x = let z = le q in omega (arith, z, x)
lies_more n m r (H.Credit k) le x = tt
lies_more n m r (H.Bare t c) le x = tt

lend_by : (tail : Bool) (n : ℕ → ℕ) (r t : ℕ) (h : Held) → (tail ≡ true → (q : ℕ) → n q ≡ 0) → is_read_of t h ≡ true → LiesIn n r h → can_lend_one tail t h ≡ true
lend_by tail n r t H.Nothing none x y = absurd (true≢false (sym x))
lend_by tail n r t (H.Scalar u) none x y = absurd (true≢false (sym x))
lend_by false n r t (H.Owned u b) none x y = and_to (u == t) true x refl
lend_by true n r t (H.Owned u b) none x y = absurd (let z = none refl r in let e : ⊥ = omega (arith, z, y) in e)
lend_by false n r t (H.Lent u root) none x y = and_to (u == t) true x refl
lend_by true n r t (H.Lent u None) none x y = and_to (u == t) true x refl
lend_by true n r t (H.Lent u (Some q)) none x y = absurd (let z = none refl q in let e : ⊥ = omega (arith, z, y) in e)
lend_by tail n r t (H.Credit k) none x y = absurd (true≢false (sym x))
lend_by tail n r t (H.Bare u c) none x y = absurd (true≢false (sym x))

-- what is read of arguments in borrowed positions
abbrev pub HoldRead : Table → (ℕ → ℕ) → Holding → List Param → List ℕ → Type 0
HoldRead w n g [] rs = Unit {0}
HoldRead w n g (p ∷ ps) [] = Unit {0}
HoldRead w n g (p ∷ ps) (r ∷ rs) = (borrows w p ≡ true → IsReadIn n g p r) × HoldRead w n g ps rs

pub hold_read : (w : Table) (n : ℕ → ℕ) (g : Holding) (ps : List Param) (rs : List ℕ) → HoldPassed w n g ps rs → HoldRead w n g ps rs
hold_read w n g [] rs h = tt
hold_read w n g (p ∷ ps) [] h = tt
hold_read w n g (p ∷ ps) (r ∷ rs) h = (λ e. subst (λ b. Choose b (IsReadIn n g p r) (HoldsValue w p.ty (g r))) e h.0, hold_read w n g ps rs h.1)

pub read_stays : (w : Table) (n m : ℕ → ℕ) (g h : Holding) (ps : List Param) (rs : List ℕ) → Stays g h m → ((q : ℕ) → n q ≤ m q) → HoldRead w n g ps rs → HoldRead w n h ps rs
read_stays w n m g h [] rs stays le v = tt
read_stays w n m g h (p ∷ ps) [] stays le v = tt
read_stays w n m g h (p ∷ ps) (r ∷ rs) stays le v = (
  λ e. (let x = v.0 e in let same = read_same p.ty m n g h r stays le x.read x.lies in record { read = ap (is_read_of p.ty) same ∙ x.read; lies = subst (LiesIn n r) (sym same) x.lies }),
  read_stays w n m g h ps rs stays le v.1,
)

pub can_lend_held : (w : Table) (tail : Bool) (n : ℕ → ℕ) (g : Holding) (ps : List Param) (rs : List ℕ) → (tail ≡ true → (q : ℕ) → n q ≡ 0) → HoldRead w n g ps rs → can_lend w tail g ps rs ≡ true
can_lend_held w tail n g [] rs none h = refl
can_lend_held w tail n g (p ∷ ps) [] none h = refl
can_lend_held w tail n g (p ∷ ps) (r ∷ rs) none h =
    and_to (is_scalar_type w p.ty || (not p.lent || can_lend_one tail p.ty (g r))) (can_lend w tail g ps rs) (first (is_scalar_type w p.ty) p.lent refl refl) (can_lend_held w tail n g ps rs none h.1)
  where
    first : (x y : Bool) → is_scalar_type w p.ty ≡ x → p.lent ≡ y → (is_scalar_type w p.ty || (not p.lent || can_lend_one tail p.ty (g r))) ≡ true
    first true y e d = ap (λ b. b || (not p.lent || can_lend_one tail p.ty (g r))) e
    first false false e d = ap₂ (λ a b. a || (not b || can_lend_one tail p.ty (g r))) e d
    first false true e d =
        let read : IsReadIn n g p r = h.0 (ap₂ (λ a b. a && not b) d e) in
        ap₂ (λ a b. a || (not b || can_lend_one tail p.ty (g r))) e d ∙ lend_by tail n r p.ty (g r) none read.read read.lies

-- ---- registers that are handed over for owned parameters

abbrev pub owned_of : List Param → List ℕ → List ℕ
owned_of [] rs = []
owned_of (p ∷ ps) [] = []
owned_of (p ∷ ps) (r ∷ rs) = if p.lent then owned_of ps rs else r ∷ owned_of ps rs

pub passing_using : (ps : List Param) (rs : List ℕ) (g : Holding) → passing_all g ps rs ≡ using_all g (owned_of ps rs)
passing_using [] rs g = refl
passing_using (p ∷ ps) [] g = refl
passing_using (p ∷ ps) (r ∷ rs) g = passing_using ps rs (if p.lent then g else using g r) ∙ by p.lent
  where
    by : (b : Bool) → using_all (if b then g else using g r) (owned_of ps rs) ≡ using_all g (if b then owned_of ps rs else r ∷ owned_of ps rs)
    by true = refl
    by false = refl

-- registers of borrowed variables
pub hold_passed : (fip : Bool) (w : Table) (s : Scope) (B : ℕ → Bool) (K : ℕ → Item → ℕ) (T X : Item → ℕ) (e : ℕ → ℕ) (k : Known) (ps : List Param) (rs : List ℕ) → Ties fip w s B K T e k → ((z y : ℕ) → K z (Own y) ≤ X (Own y)) → PassHolds w s B k ps rs → HoldPassed w (owners k.names (own X)) (held_at k.held) ps rs
hold_passed fip w s B K T X e k [] [] ties kept h = tt
hold_passed fip w s B K T X e k [] (r ∷ rs) ties kept h = absurd h
hold_passed fip w s B K T X e k (p ∷ ps) [] ties kept h = absurd h
hold_passed fip w s B K T X e k (p ∷ ps) (r ∷ rs) ties kept h = (first (borrows w p) refl h.0, hold_passed fip w s B K T X e k ps rs ties kept h.1)
  where
    unscalar : (l n : Bool) → (l && not n) ≡ true → n ≡ false
    unscalar true true e = absurd (true≢false (sym e))
    unscalar true false e = refl
    unscalar false n e = absurd (true≢false (sym e))

    first : (b : Bool) → borrows w p ≡ b → Choose b (IsBorrowed s B k p r) (HoldsValue w p.ty (held_at k.held r)) → Choose b (IsReadIn (owners k.names (own X)) (held_at k.held) p r) (HoldsValue w p.ty (held_at k.held r))
    first true e x = record {
      read = (ties.variables x.variable r p.ty x.named x.typed).read (unscalar p.lent (is_scalar_type w p.ty) e) x.borrowed;
      lies = lies_more (owners k.names (own (K x.variable))) (owners k.names (own X)) r (held_at k.held r) (λ q. owners_less k.names (own X) (own (K x.variable)) q (kept x.variable)) (ties.lent x.variable r p.ty x.named x.typed x.borrowed);
    }
    first false e x = x

pub pass_many : (w : Table) (s : Scope) (B : ℕ → Bool) (k : Known) (ps : List Param) (rs : List ℕ) → PassHolds w s B k ps rs → length rs ≡ length ps
pass_many w s B k [] [] h = refl
pass_many w s B k [] (r ∷ rs) h = absurd h
pass_many w s B k (p ∷ ps) [] h = absurd h
pass_many w s B k (p ∷ ps) (r ∷ rs) h = ap suc (pass_many w s B k ps rs h.1)

module _ (c : PlainCode) (f : PlainFunction) (fip : Bool) (s : Scope) (B : ℕ → Bool) (K : ℕ → Item → ℕ) where
  -- the arguments and credits of a call are as required; l is known after them
  pub record Called (tail : Bool) (X : Item → ℕ) (e : ℕ → ℕ) (k : Known) (d : Instance) (rs cs : List ℕ) (l : Known) : Type 0 where
    pub can : CanCallBy c.types tail (held_at k.held) d.params d.credits (rs ++ cs)
    pub following : handing_all (passing_all (held_at k.held) d.params (rs ++ cs)) d.credits (drop (length d.params) (rs ++ cs)) ≡ held_at l.held
    pub short : handing_all (passing_all (held_at k.held) d.params rs) d.credits cs ≡ held_at l.held
    pub many : length rs ≡ length d.params
    pub many_credits : length cs ≡ length d.credits
    pub hands : can_hand (passing_all (held_at k.held) d.params rs) d.credits cs ≡ true
    pub none : NoTrees (passing_all (held_at k.held) d.params rs) cs
    pub ties : Ties fip c.types s B K X e l
    pub next : l.next ≡ k.next
    pub width : length l.held ≡ length k.held
    pub empty : (r : ℕ) → held_at k.held r ≡ H.Nothing → held_at l.held r ≡ H.Nothing
    pub hold : HoldPassed c.types (owners k.names (own X)) (held_at k.held) d.params rs
    pub stays : Stays (held_at k.held) (held_at l.held) (λ q. owners k.names (own X) q + e q)

  pub called : (tail : Bool) (X : Item → ℕ) (e : ℕ → ℕ) (k : Known) (d : Instance) (rs cs : List ℕ) (l : Known) → (tail ≡ true → (x : ℕ) → X (Own x) ≡ 0) → Ties fip c.types s B K (λ i. charge d.credits i + X i) (λ q. owed_passed c.types d.params rs q + e q) k → PassHolds c.types s B k d.params rs → ((z y : ℕ) → K z (Own y) ≤ X (Own y)) → AreTaken (record k { held = handed k.held d.params rs }) d.credits cs l → Called tail X e k d rs cs l
  called tail X e k d rs cs l none ties hold kept taken =
      let g = held_at k.held in
      let ps = d.params in
      let ks = d.credits in
      let w = c.types in
      let n : ℕ → ℕ = λ q. owners k.names (own X) q + e q in
      let some : ℕ → ℕ = λ q. owners k.names (own X) q in
      let same : (q : ℕ) → owners k.names (own (λ i. charge ks i + X i)) q ≡ owners k.names (own X) q = λ q. owners_same k.names (own (λ i. charge ks i + X i)) (own X) q (λ y. omega arith) in
      let hp = hold_passed fip w s B K (λ i. charge ks i + X i) X (λ q. owed_passed w ps rs q + e q) k ps rs ties kept hold in
      let gp = pass_given fip w ps rs g n some (λ q. omega arith) (balanced_same fip g (λ q. owners k.names (own (λ i. charge ks i + X i)) q + (owed_passed w ps rs q + e q)) (λ q. owed_passed w ps rs q + n q) (λ q. let z = same q in omega (arith, z)) ties.trees) hp in
      let mid : Known = record k { held = handed k.held ps rs } in
      let held1 : held_at (handed k.held ps rs) ≡ passing_all g ps rs = held_handed ps rs k.held in
      let us = owned_of ps rs in
      let pu : passing_all g ps rs ≡ using_all g us = passing_using ps rs g in
      let ties1 : Ties fip w s B K (λ i. charge ks i + X i) e mid =
      ties_on fip w s B K (λ i. charge ks i + X i) (λ i. charge ks i + X i) (λ q. owed_passed w ps rs q + e q) e e k mid ties (λ y. omega arith) (λ u y. let z = kept u y in omega (arith, z)) refl (omega arith)
      (subst (λ x. Stays g x (λ q. owners k.names (own (λ i. charge ks i + X i)) q + e q)) (sym held1) (stays_fewer g (passing_all g ps rs) n (λ q. owners k.names (own (λ i. charge ks i + X i)) q + e q) (λ q. let z = same q in omega (arith, z)) gp.stays))
      (subst (λ x. Balanced fip x (λ q. owners k.names (own (λ i. charge ks i + X i)) q + e q)) (sym held1) (balanced_same fip (passing_all g ps rs) n (λ q. owners k.names (own (λ i. charge ks i + X i)) q + e q) (λ q. let z = same q in omega (arith, z)) gp.balanced))
      (subst Rooted (sym (held1 ∙ pu)) (rooted_using_all g us ties.rooted))
      (subst (BareRight w) (sym (held1 ∙ pu)) (bares_using_all w g us ties.bares))
      ties.sizes
      (λ m r. ties.credits m r ∙ ap one_if (sym (ap (λ x. is_credit_of m (x r)) (held1 ∙ pu) ∙ credit_using_all g us r m)))
      (λ r past. ap (λ x. x r) (held1 ∙ pu) ∙ nothing_using_all g us r (ties.fresh r past)) in
      let tk = take_all fip w s B K X e mid ks cs l taken ties1 kept in
      let many = pass_many w s B k ps rs hold in
      let pm = passing_more ps rs cs g many in
      let dm = drop_front rs cs (length ps) many in
      let hands : can_hand (passing_all g ps rs) ks cs ≡ true = subst (λ x. can_hand x ks cs ≡ true) held1 tk.can in
      let short : handing_all (passing_all g ps rs) ks cs ≡ held_at l.held = ap (λ x. handing_all x ks cs) (sym held1) ∙ sym tk.held in
      let following : handing_all (passing_all g ps (rs ++ cs)) ks (drop (length ps) (rs ++ cs)) ≡ held_at l.held = ap₂ (λ x y. handing_all x ks y) pm dm ∙ short in
      let stays : Stays g (held_at l.held) n = stays_on g (passing_all g ps rs) (held_at l.held) n gp.stays (subst (λ x. Stays x (held_at l.held) n) held1 (tk.stays n)) in
      record {
        can = record {
          many = (let a = length_both rs cs in let b = tk.many in omega (arith, a, b, many));
          passes = can_pass_more w ps rs cs g many ∙ gp.can;
          hands = ap₂ (λ x y. can_hand x ks y) pm dm ∙ hands;
          lends = ap (λ x. can_lend w tail x ps (rs ++ cs)) following ∙ (can_lend_more w tail ps rs cs (held_at l.held) many ∙ can_lend_held w tail some (held_at l.held) ps rs (λ z q. owners_none k.names (own X) q (none z)) (read_stays w some n g (held_at l.held) ps rs stays (λ q. omega arith) (hold_read w some g ps rs hp)));
        };
        following = following;
        short = short;
        many = many;
        many_credits = tk.many;
        hands = hands;
        none = subst (λ x. NoTrees x cs) held1 tk.none;
        ties = tk.ties;
        next = tk.next;
        width = tk.width ∙ length_handed ps rs k.held;
        empty = λ r y. tk.empty r (ap (λ x. x r) (held1 ∙ pu) ∙ nothing_using_all g us r y);
        hold = hp;
        stays = stays;
      }
