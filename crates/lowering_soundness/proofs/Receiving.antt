-- The results of a call come into registers that wait for them.
use Rattle.std.proofs.Common.{◌≡◌, inl, inr, ℕ, ◌+◌, ◌<◌, ◌≤◌, Bool, true, false, ◌&&◌, not, List, [], ◌∷◌, length, None, refl, sym, ap, ◌∙◌, subst, true≢false, arith, nat_lt, slice_set, if◌then◌else◌, ◌==◌}
use Rattle.separation.specs.fip_language.Table.{Table}
use Rattle.separation.specs.fip_language.Every.{Among}
use Rattle.derivation_making.specs.type_check.Scope.{Scope}
use Rattle.derivation_making.specs.ownership_calculus.Terms.{Item, Own}
use Rattle.separation.specs.cell_code.Plain.{PlainCode, PlainFunction}
use Rattle.separation.specs.code_rules.Types.{is_type, is_scalar_type}
use Rattle.separation.specs.code_rules.Kinds.{has}
use Rattle.separation.specs.code_rules.Ranges.{are_below}
use Rattle.separation.specs.code_rules.Headers.{are_types}
use Rattle.separation.proofs.separation_kinds.Basics.{chosen, refused, or_not, both, one_of, equal, below_is, itself}
use Rattle.lowering_relation.specs.declared.held.Held.{Held}
use Rattle.lowering_relation.specs.declared.held.Held.TheVariants as H
use Rattle.lowering_relation.specs.Known.{Known}
use Rattle.lowering_relation.specs.Values.{Setting, is_scalar}
use Rattle.lowering_relation.specs.LoweredBodies.{given_if, given}
use Rattle.lowering_relation.specs.LoweredBodies as Bodies
use Rattle.lowering_relation.specs.Describing.{Holding, held_at, setting, is_spare}
use Rattle.lowering_soundness.specs.Giving.{is_owned_of, is_credit_of, can_receive, received, receiving_all}
use Rattle.lowering_soundness.specs.Ties.{one_if, owners, own, HoldsValue, AllHold, owe, owed, Stays, Ties}
use Rattle.lowering_soundness.specs.Delivered.{Waiting}
use Rattle.lowering_soundness.proofs.Giving.{and_to}
use Rattle.lowering_soundness.proofs.Balance.{stays_same, stays_on, stays_fewer}
use Rattle.lowering_soundness.proofs.Helds.{held_set_fn, length_set}
use Rattle.lowering_soundness.proofs.Writing.{is_idle, setting_other, setting_here, setting_stays, set_ties}
use Rattle.lowering_soundness.proofs.Arguments.{ties_owe, owe_one, value_stays}
use Rattle.lowering_soundness.proofs.Values.{credit_after}

given_by : (b : Bool) (t : ℕ) → given_if b t ≡ (if b then H.Scalar t else H.Owned t None)
given_by true t = refl
given_by false t = refl

pub received_value : (w : Table) (t : ℕ) → HoldsValue w t (received w t)
received_value w t = record {
  scalar = λ e. chosen (is_scalar_type w t) (H.Scalar t) (H.Owned t None) e;
  owned = λ e. ap (is_owned_of t) (refused (is_scalar_type w t) (H.Scalar t) (H.Owned t None) e) ∙ itself t;
}

pub given_same : (w : Table) (st : Setting) (t : ℕ) → is_scalar st t ≡ is_scalar_type w t → given st t ≡ received w t
given_same w st t e = given_by (is_scalar st t) t ∙ ap (λ b. if b then H.Scalar t else H.Owned t None) e

-- a number that isn't in a list
pub has_not : (x : ℕ) (xs : List ℕ) → (Among x xs → ⊥) → has xs x ≡ false
has_not x xs ne = elim (or_not (has xs x)) as (λ v. has xs x ≡ false) [
  | inl e ↦ absurd (ne (found xs e))
  | inr e ↦ e
]
  where
    found : (ys : List ℕ) → has ys x ≡ true → Among x ys
    found [] e = true≢false (sym e)
    found (y ∷ ys) e = elim (one_of (y == x) (has ys x) e) as (λ v. Among x (y ∷ ys)) [
      | inl a ↦ inl (sym (equal y x a))
      | inr a ↦ inr (found ys a)
    ]

pub waiting_places : (g : Holding) (ds : List ℕ) (k : Known) → g ≡ held_at k.held → Waiting k ds → can_receive g ds ≡ true
waiting_places g [] k e w = refl
waiting_places g (d ∷ ds) k e w =
    and_to (is_spare (g d)) (not (has ds d) && can_receive g ds) (ap is_spare (ap (λ x. x d) e ∙ w.0))
    (and_to (not (has ds d)) (can_receive g ds) (ap not (has_not d ds w.2)) (waiting_places g ds k e w.3))

pub waiting_below : (n : ℕ) (k : Known) (ds : List ℕ) → k.next ≤ n → Waiting k ds → are_below n ds ≡ true
waiting_below n k [] le w = refl
waiting_below n k (d ∷ ds) le w = and_to (nat_lt d n) (are_below n ds) (below_is d n (let z = w.1 in omega (arith, z, le))) (waiting_below n k ds le w.3)

module _ (fip : Bool) (w : Table) (s : Scope) (B : ℕ → Bool) (K : ℕ → Item → ℕ) where
  -- one result more came
  pub record GotOne (X : Item → ℕ) (e : ℕ → ℕ) (k : Known) (d t : ℕ) (l : Known) : Type 0 where
    pub ties : Ties fip w s B K X (λ q. owe w t d q + e q) l
    pub held : held_at l.held ≡ setting (held_at k.held) d (received w t)

  pub record GotAll (X : Item → ℕ) (e : ℕ → ℕ) (k : Known) (ds ts : List ℕ) (l : Known) : Type 0 where
    pub ties : Ties fip w s B K X (λ q. owed w ds ts q + e q) l
    pub hold : AllHold w (held_at l.held) ds ts
    pub held : held_at l.held ≡ receiving_all w (held_at k.held) ds ts
    pub width : length l.held ≡ length k.held
    pub empty : (r : ℕ) → held_at k.held r ≡ H.Nothing → (Among r ds → ⊥) → held_at l.held r ≡ H.Nothing
    pub stays : Stays (held_at k.held) (held_at l.held) (λ q. owners k.names (own X) q + e q)

  waiting_set : (k : Known) (d : ℕ) (h : Held) (ds : List ℕ) → d < length k.held → (Among d ds → ⊥) → Waiting k ds → Waiting (record k { held = slice_set k.held d h }) ds
  waiting_set k d h [] within ne wait = tt
  waiting_set k d h (q ∷ ds) within ne wait =
      (ap (λ x. x q) (held_set_fn k.held d h within) ∙ (setting_other (held_at k.held) d h q (λ z. ne (inl (sym z))) ∙ wait.0), wait.1, wait.2, waiting_set k d h ds within (λ m. ne (inr m)) wait.3)

  pub got_all : (c : PlainCode) (f : PlainFunction) (st : Setting) (X : Item → ℕ) (e : ℕ → ℕ) (k : Known) (ds ts : List ℕ) → c.types ≡ w → ((t : ℕ) → is_type w t ≡ true → is_scalar st t ≡ is_scalar_type w t) → are_types w ts ≡ true → length ds ≡ length ts → Ties fip w s B K X e k → ((z y : ℕ) → K z (Own y) ≤ X (Own y)) → Waiting k ds → k.next ≤ length k.held → GotAll X e k ds ts (record k { held = Bodies.received st k.held ts ds })
  got_all c f st X e k [] [] same scalars types many ties kept wait room = record {
    ties = ties_owe fip w s B K X e (λ q. 0 + e q) k (λ q. omega arith) ties;
    hold = tt;
    held = refl;
    width = refl;
    empty = λ r y ne. y;
    stays = stays_same (held_at k.held) (λ q. owners k.names (own X) q + e q);
  }
  got_all c f st X e k [] (t ∷ ts) same scalars types many ties kept wait room = absurd (omega (arith, many))
  got_all c f st X e k (d ∷ ds) [] same scalars types many ties kept wait room = absurd (omega (arith, many))
  got_all c f st X e k (d ∷ ds) (t ∷ ts) same scalars types many ties kept wait room =
      let g = held_at k.held in
      let h = given st t in
      let new = received w t in
      let b = both (is_type w t) (are_types w ts) types in
      let within : d < length k.held = (let z = wait.1 in omega (arith, z, room)) in
      let mid : Known = record k { held = slice_set k.held d h } in
      let held : held_at mid.held ≡ setting g d new = held_set_fn k.held d h within ∙ ap (setting g d) (given_same w st t (scalars t b.0)) in
      let v = received_value w t in
      let first : Ties fip w s B K X (λ q. owe w t d q + e q) mid = set_ties fip w s B K X X e k mid d t new ties (λ y. refl) kept (ap is_idle wait.0) v held refl (omega arith) ties.sizes
      (λ n r. ties.credits n r ∙ ap one_if (sym (ap (λ y. is_credit_of n (y r)) held ∙ credit_by n r)))
      (λ r past. ap (λ y. y r) held ∙ (setting_other g d new r (λ z. absurd (let low = wait.1 in let y : ⊥ = omega (arith, z, past, low) in y)) ∙ ties.fresh r past)) in
      let rest = got_all c f st X (λ q. owe w t d q + e q) mid ds ts same scalars b.1 (omega (arith, many)) first kept (waiting_set k d h ds within wait.2 wait.3) (let z = length_set k.held d h in omega (arith, z, room)) in
      record {
        ties = ties_owe fip w s B K X (λ q. owed w ds ts q + (owe w t d q + e q)) (λ q. (owe w t d q + owed w ds ts q) + e q) (record k { held = Bodies.received st k.held (t ∷ ts) (d ∷ ds) }) (λ q. omega arith) rest.ties;
        hold = (value_stays w t (held_at mid.held) (held_at (Bodies.received st mid.held ts ds)) d (λ q. owners k.names (own X) q + (owe w t d q + e q)) rest.stays (λ z. let one = owe_one w t d z in omega (arith, one)) (subst (HoldsValue w t) (sym (ap (λ y. y d) held ∙ setting_here g d new)) v), rest.hold);
        held = rest.held ∙ ap (λ x. receiving_all w x ds ts) held;
        width = rest.width ∙ length_set k.held d h;
        empty = λ r y ne. rest.empty r (ap (λ x. x r) held ∙ (setting_other g d new r (λ z. ne (inl z)) ∙ y)) (λ m. ne (inr m));
        stays = stays_on g (held_at mid.held) (held_at (Bodies.received st mid.held ts ds)) (λ q. owners k.names (own X) q + e q)
            (subst (λ x. Stays g x (λ q. owners k.names (own X) q + e q)) (sym held) (setting_stays g d new (λ q. owners k.names (own X) q + e q) (ap is_idle wait.0)))
            (stays_fewer (held_at mid.held) (held_at (Bodies.received st mid.held ts ds)) (λ q. owners k.names (own X) q + (owe w t d q + e q)) (λ q. owners k.names (own X) q + e q) (λ q. omega arith) rest.stays);
      }
    where
      credit_by : (n r : ℕ) → is_credit_of n (setting (held_at k.held) d (received w t) r) ≡ is_credit_of n (held_at k.held r)
      credit_by n r = subst (λ w2. is_credit_of n (setting (held_at k.held) d (received w2 t) r) ≡ is_credit_of n (held_at k.held r)) same (credit_after c f fip s B K n d r t (held_at k.held) (received c.types t) (ap (is_credit_of n) wait.0) (received_value c.types t))
