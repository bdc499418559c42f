-- Registers that are given or handed over are as required, and after that what is reported of the kinds stays so.
use Rattle.std.proofs.Common.{◌≡◌, inl, inr, ℕ, ◌+◌, ◌<◌, Bool, true, false, ◌&&◌, ◌||◌, not, List, [], ◌∷◌, length, Some, None, refl, sym, ap, ◌∙◌, true≢false, if◌then◌else◌, ◌==◌, drop, nat_lt}
use Rattle.std.specs.Prelude.{option_and_then}
use Rattle.separation.specs.fip_language.Table.{Table}
use Rattle.separation.specs.fip_base.declared.plain.Param.{Param}
use Rattle.separation.specs.cell_code.declared.kind.Kind.{Kind}
use Rattle.separation.specs.cell_code.declared.kind.Kind.TheVariants.{Gone, Scalar, Owned}
use Rattle.separation.specs.cell_code.Plain.{PlainCode}
use Rattle.separation.specs.code_rules.Codes.{params, credits}
use Rattle.separation.specs.code_rules.Types.{all, is_scalar_type, field_kind}
use Rattle.separation.specs.code_rules.Kinds as S
use Rattle.separation.specs.code_rules.Kinds.{at, has}
use Rattle.separation.specs.code_rules.Ranges.{are_below}
use Rattle.separation.specs.code_rules.Changes.{written, used_up}
use Rattle.separation.specs.code_rules.Handing.{give, give_all, pass, pass_all, hand, hand_all, is_lendable, lends, lend_all, kept_if, arguments}
use Rattle.separation.specs.code_rules.Asked.{are_places}
use Rattle.separation.specs.code_rules.Leaves as L
use Rattle.separation.proofs.separation_kinds.Basics.{chosen, refused, both, one_of, equal_is, below}
use Rattle.lowering_relation.specs.declared.held.Held.{Held}
use Rattle.lowering_relation.specs.declared.held.Held.TheVariants as H
use Rattle.lowering_relation.specs.Describing.{Holding, kind_of, kinds_of, setting, is_tree}
use Rattle.lowering_soundness.specs.Covering.{Covers, Covered, using, using_all}
use Rattle.lowering_soundness.specs.Giving.{is_scalar_of, is_owned_of, is_credit_of, can_give, can_pass_one, passing, can_pass, passing_all, can_hand, handing_all, can_lend_one, can_lend, can_receive, received, receiving_all, after_call, CanCall}
use Rattle.lowering_soundness.proofs.Covering.{covers_spare, covered_same, reported_within, written_covered, used_covered, using_none}
pub use Rattle.tail_groups.proofs.fip_language.Facts.{both_true as and_to}

pub scalar_kind : (w : Table) (t : ℕ) (h : Held) (k : Kind) → is_scalar_of t h ≡ true → Covers (kind_of w h) k → S.is_scalar_of t k ≡ true
scalar_kind w t H.Nothing k s e = absurd (true≢false (sym s))
scalar_kind w t (H.Scalar u) k s e = ap (S.is_scalar_of t) e ∙ s
scalar_kind w t (H.Owned u b) k s e = absurd (true≢false (sym s))
scalar_kind w t (H.Lent u root) k s e = absurd (true≢false (sym s))
scalar_kind w t (H.Credit n) k s e = absurd (true≢false (sym s))
scalar_kind w t (H.Bare u c) k s e = absurd (true≢false (sym s))

pub owned_kind : (w : Table) (t : ℕ) (h : Held) (k : Kind) → is_owned_of t h ≡ true → Covers (kind_of w h) k → S.is_owned_of t k ≡ true
owned_kind w t H.Nothing k s e = absurd (true≢false (sym s))
owned_kind w t (H.Scalar u) k s e = absurd (true≢false (sym s))
owned_kind w t (H.Owned u b) k s e = ap (S.is_owned_of t) e ∙ s
owned_kind w t (H.Lent u root) k s e = absurd (true≢false (sym s))
owned_kind w t (H.Credit n) k s e = absurd (true≢false (sym s))
owned_kind w t (H.Bare u c) k s e = absurd (true≢false (sym s))

owned_not_scalar : (w : Table) (t : ℕ) (h : Held) (k : Kind) → is_owned_of t h ≡ true → Covers (kind_of w h) k → S.is_scalar_of t k ≡ false
owned_not_scalar w t H.Nothing k s e = absurd (true≢false (sym s))
owned_not_scalar w t (H.Scalar u) k s e = absurd (true≢false (sym s))
owned_not_scalar w t (H.Owned u b) k s e = ap (S.is_scalar_of t) e
owned_not_scalar w t (H.Lent u root) k s e = absurd (true≢false (sym s))
owned_not_scalar w t (H.Credit n) k s e = absurd (true≢false (sym s))
owned_not_scalar w t (H.Bare u c) k s e = absurd (true≢false (sym s))

pub credit_kind : (w : Table) (t : ℕ) (h : Held) (k : Kind) → is_credit_of t h ≡ true → Covers (kind_of w h) k → S.is_credit_of t k ≡ true
credit_kind w t H.Nothing k s e = absurd (true≢false (sym s))
credit_kind w t (H.Scalar u) k s e = absurd (true≢false (sym s))
credit_kind w t (H.Owned u b) k s e = absurd (true≢false (sym s))
credit_kind w t (H.Lent u root) k s e = absurd (true≢false (sym s))
credit_kind w t (H.Credit n) k s e = ap (S.is_credit_of t) e ∙ s
credit_kind w t (H.Bare u c) k s e = absurd (true≢false (sym s))

pub lendable_kind : (w : Table) (tail : Bool) (t : ℕ) (h : Held) (k : Kind) → can_lend_one tail t h ≡ true → Covers (kind_of w h) k → is_lendable tail t k ≡ true
lendable_kind w tail t H.Nothing k s e = absurd (true≢false (sym s))
lendable_kind w tail t (H.Scalar u) k s e = absurd (true≢false (sym s))
lendable_kind w tail t (H.Owned u b) k s e = ap (is_lendable tail t) e ∙ s
lendable_kind w tail t (H.Lent u root) k s e = ap (is_lendable tail t) e ∙ s
lendable_kind w tail t (H.Credit n) k s e = absurd (true≢false (sym s))
lendable_kind w tail t (H.Bare u c) k s e = ap (is_lendable tail t) e ∙ s

pub scalar_tree : (t : ℕ) (h : Held) → is_scalar_of t h ≡ true → is_tree h ≡ false
scalar_tree t H.Nothing s = refl
scalar_tree t (H.Scalar u) s = refl
scalar_tree t (H.Owned u b) s = absurd (true≢false (sym s))
scalar_tree t (H.Lent u root) s = refl
scalar_tree t (H.Credit n) s = refl
scalar_tree t (H.Bare u c) s = refl

pub owned_tree : (t : ℕ) (h : Held) → is_owned_of t h ≡ true → is_tree h ≡ true
owned_tree t H.Nothing s = absurd (true≢false (sym s))
owned_tree t (H.Scalar u) s = absurd (true≢false (sym s))
owned_tree t (H.Owned u b) s = refl
owned_tree t (H.Lent u root) s = absurd (true≢false (sym s))
owned_tree t (H.Credit n) s = absurd (true≢false (sym s))
owned_tree t (H.Bare u c) s = absurd (true≢false (sym s))

-- a register in which nothing is used up
unused : (w : Table) (n : ℕ) (g : Holding) (ks : List Kind) (r : ℕ) → Covered n (kinds_of w g) ks → is_tree (g r) ≡ false → Covered n (kinds_of w (using g r)) ks
unused w n g ks r c none = covered_same n (kinds_of w g) (kinds_of w (using g r)) ks c (λ q. ap (kind_of w) (sym (using_none g r none q)))

-- ---- fields and results

pub give_covered : (w : Table) (n : ℕ) (g : Holding) (ks : List Kind) (r t : ℕ) → Covered n (kinds_of w g) ks → (is_scalar_of t (g r) || is_owned_of t (g r)) ≡ true → (left : List Kind) × (give ks r t ≡ Some left) × Covered n (kinds_of w (using g r)) left
give_covered w n g ks r t c e = elim (one_of (is_scalar_of t (g r)) (is_owned_of t (g r)) e) as (λ v. (left : List Kind) × (give ks r t ≡ Some left) × Covered n (kinds_of w (using g r)) left) [
  | inl s ↦ (ks, chosen (S.is_scalar_of t (at ks r)) (Some ks) (if S.is_owned_of t (at ks r) then Some (used_up ks r) else None) (scalar_kind w t (g r) (at ks r) s (c.each r)), unused w n g ks r c (scalar_tree t (g r) s))
  | inr s ↦ (used_up ks r, refused (S.is_scalar_of t (at ks r)) (Some ks) (if S.is_owned_of t (at ks r) then Some (used_up ks r) else None) (owned_not_scalar w t (g r) (at ks r) s (c.each r)) ∙ chosen (S.is_owned_of t (at ks r)) (Some (used_up ks r)) None (owned_kind w t (g r) (at ks r) s (c.each r)), used_covered w n g ks r c (owned_tree t (g r) s))
]

pub give_all_covered : (w : Table) (n : ℕ) (rs ts : List ℕ) (g : Holding) (ks : List Kind) → Covered n (kinds_of w g) ks → can_give g rs ts ≡ true → (left : List Kind) × (give_all ks rs ts ≡ Some left) × Covered n (kinds_of w (using_all g rs)) left
give_all_covered w n [] [] g ks c e = (ks, refl, c)
give_all_covered w n [] (t ∷ ts) g ks c e = absurd (true≢false (sym e))
give_all_covered w n (r ∷ rs) [] g ks c e = absurd (true≢false (sym e))
give_all_covered w n (r ∷ rs) (t ∷ ts) g ks c e =
    let b = both (is_scalar_of t (g r) || is_owned_of t (g r)) (can_give (using g r) rs ts) e in
    let one = give_covered w n g ks r t c b.0 in
    let rest = give_all_covered w n rs ts (using g r) one.0 one.2 b.1 in
    (rest.0, ap (option_and_then (λ left. give_all left rs ts)) one.1 ∙ rest.1, rest.2)

-- ---- arguments

pass_by : (w : Table) (n : ℕ) (g : Holding) (ks : List Kind) (r t : ℕ) (sc lent : Bool) → Covered n (kinds_of w g) ks → (if sc then is_scalar_of t (g r) else (if lent then true else is_owned_of t (g r))) ≡ true → (left : List Kind) × ((if sc then (if S.is_scalar_of t (at ks r) then Some ks else None) else (if lent then Some ks else (if S.is_owned_of t (at ks r) then Some (used_up ks r) else None))) ≡ Some left) × Covered n (kinds_of w (if lent then g else using g r)) left
pass_by w n g ks r t true true c e = (ks, chosen (S.is_scalar_of t (at ks r)) (Some ks) None (scalar_kind w t (g r) (at ks r) e (c.each r)), c)
pass_by w n g ks r t true false c e = (ks, chosen (S.is_scalar_of t (at ks r)) (Some ks) None (scalar_kind w t (g r) (at ks r) e (c.each r)), unused w n g ks r c (scalar_tree t (g r) e))
pass_by w n g ks r t false true c e = (ks, refl, c)
pass_by w n g ks r t false false c e = (used_up ks r, chosen (S.is_owned_of t (at ks r)) (Some (used_up ks r)) None (owned_kind w t (g r) (at ks r) e (c.each r)), used_covered w n g ks r c (owned_tree t (g r) e))

pub pass_covered : (w : Table) (n : ℕ) (g : Holding) (ks : List Kind) (p : Param) (r : ℕ) → Covered n (kinds_of w g) ks → can_pass_one w (g r) p ≡ true → (left : List Kind) × (pass w ks p r ≡ Some left) × Covered n (kinds_of w (passing g p r)) left
pass_covered w n g ks p r c e = pass_by w n g ks r p.ty (is_scalar_type w p.ty) p.lent c e

pub pass_all_covered : (w : Table) (n : ℕ) (ps : List Param) (rs : List ℕ) (g : Holding) (ks : List Kind) → Covered n (kinds_of w g) ks → can_pass w g ps rs ≡ true → (left : List Kind) × (pass_all w ks ps rs ≡ Some left) × Covered n (kinds_of w (passing_all g ps rs)) left
pass_all_covered w n [] rs g ks c e = (ks, refl, c)
pass_all_covered w n (p ∷ ps) [] g ks c e = absurd (true≢false (sym e))
pass_all_covered w n (p ∷ ps) (r ∷ rs) g ks c e =
    let b = both (can_pass_one w (g r) p) (can_pass w (passing g p r) ps rs) e in
    let one = pass_covered w n g ks p r c b.0 in
    let rest = pass_all_covered w n ps rs (passing g p r) one.0 one.2 b.1 in
    (rest.0, ap (option_and_then (λ left. pass_all w left ps rs)) one.1 ∙ rest.1, rest.2)

credit_within : (w : Table) (n k : ℕ) (g : Holding) (ks : List Kind) (r : ℕ) → Covered n (kinds_of w g) ks → S.is_credit_of k (at ks r) ≡ true → r < n
credit_within w n k g ks r c e = reported_within w n g ks r c (λ gone. true≢false (sym e ∙ ap (S.is_credit_of k) gone))

pub hand_covered : (w : Table) (n k : ℕ) (g : Holding) (ks : List Kind) (r : ℕ) → Covered n (kinds_of w g) ks → is_credit_of k (g r) ≡ true → (left : List Kind) × (hand ks k r ≡ Some left) × Covered n (kinds_of w (setting g r H.Nothing)) left
hand_covered w n k g ks r c e =
    let credit = credit_kind w k (g r) (at ks r) e (c.each r) in
    (written ks r Gone, chosen (S.is_credit_of k (at ks r)) (Some (written ks r Gone)) None credit, written_covered w n g ks r H.Nothing Gone c (credit_within w n k g ks r c credit) refl)

pub hand_all_covered : (w : Table) (n : ℕ) (sizes rs : List ℕ) (g : Holding) (ks : List Kind) → Covered n (kinds_of w g) ks → can_hand g sizes rs ≡ true → (left : List Kind) × (hand_all ks sizes rs ≡ Some left) × Covered n (kinds_of w (handing_all g sizes rs)) left
hand_all_covered w n [] rs g ks c e = (ks, refl, c)
hand_all_covered w n (k ∷ sizes) [] g ks c e = absurd (true≢false (sym e))
hand_all_covered w n (k ∷ sizes) (r ∷ rs) g ks c e =
    let b = both (is_credit_of k (g r)) (can_hand (setting g r H.Nothing) sizes rs) e in
    let one = hand_covered w n k g ks r c b.0 in
    let rest = hand_all_covered w n sizes rs (setting g r H.Nothing) one.0 one.2 b.1 in
    (rest.0, ap (option_and_then (λ left. hand_all left sizes rs)) one.1 ∙ rest.1, rest.2)

or_to : (a b x y : Bool) → (x ≡ true → y ≡ true) → (a || (b || x)) ≡ true → (a || (b || y)) ≡ true
or_to true b x y f e = refl
or_to false true x y f e = refl
or_to false false x y f e = f e

pub lend_covered : (w : Table) (n : ℕ) (tail : Bool) (g : Holding) (ks : List Kind) (ps : List Param) (rs : List ℕ) → Covered n (kinds_of w g) ks → can_lend w tail g ps rs ≡ true → lend_all w tail ks ps rs ≡ true
lend_covered w n tail g ks [] rs c e = refl
lend_covered w n tail g ks (p ∷ ps) [] c e = refl
lend_covered w n tail g ks (p ∷ ps) (r ∷ rs) c e =
    let b = both (is_scalar_type w p.ty || (not p.lent || can_lend_one tail p.ty (g r))) (can_lend w tail g ps rs) e in
    and_to (lends w tail ks p r) (lend_all w tail ks ps rs)
    (or_to (is_scalar_type w p.ty) (not p.lent) (can_lend_one tail p.ty (g r)) (is_lendable tail p.ty (at ks r)) (λ l. lendable_kind w tail p.ty (g r) (at ks r) l (c.each r)) b.0)
    (lend_covered w n tail g ks ps rs c b.1)

pub arguments_covered : (c : PlainCode) (n : ℕ) (tail : Bool) (g : Holding) (ks : List Kind) (f : ℕ) (rs : List ℕ) → Covered n (kinds_of c.types g) ks → CanCall c tail g f rs → (left : List Kind) × (arguments c tail ks f rs ≡ Some left) × Covered n (kinds_of c.types (after_call c g f rs)) left
arguments_covered c n tail g ks f rs cov can =
    let passed = pass_all_covered c.types n (params c f) rs g ks cov can.passes in
    let handed = hand_all_covered c.types n (credits c f) (drop (length (params c f)) rs) (passing_all g (params c f) rs) passed.0 passed.2 can.hands in
    let lent = lend_covered c.types n tail (after_call c g f rs) handed.0 (params c f) rs handed.2 can.lends in (
      handed.0,
      chosen (length rs == length (params c f) + length (credits c f)) _ None (equal_is (length rs) (length (params c f) + length (credits c f)) can.many)
          ∙ (ap (λ o. option_and_then (λ left. kept_if (lend_all c.types tail left (params c f) rs) left) (option_and_then (λ left. hand_all left (credits c f) (drop (length (params c f)) rs)) o)) passed.1
          ∙ (ap (option_and_then (λ left. kept_if (lend_all c.types tail left (params c f) rs) left)) handed.1
          ∙ ap (λ b. kept_if b handed.0) lent)),
      handed.2,
    )

-- ---- results that come

received_by : (w : Table) (t : ℕ) (b : Bool) → Covers (kind_of w (if b then H.Scalar t else H.Owned t None)) (if b then Scalar t else Owned t (all w t))
received_by w t true = refl
received_by w t false = refl

pub received_kind : (w : Table) (t : ℕ) → Covers (kind_of w (received w t)) (field_kind w t)
received_kind w t = received_by w t (is_scalar_type w t)

pub places_covered : (w : Table) (n : ℕ) (g : Holding) (ks : List Kind) (ds : List ℕ) → Covered n (kinds_of w g) ks → can_receive g ds ≡ true → are_places ks ds ≡ true
places_covered w n g ks [] c e = refl
places_covered w n g ks (d ∷ ds) c e =
    let a = both _ (not (has ds d) && can_receive g ds) e in
    let b = both (not (has ds d)) (can_receive g ds) a.1 in
    and_to (S.is_free (at ks d)) (not (has ds d) && are_places ks ds) (covers_spare w (g d) (at ks d) a.0 (c.each d))
    (and_to (not (has ds d)) (are_places ks ds) b.0 (places_covered w n g ks ds c b.1))

pub received_covered : (w : Table) (n : ℕ) (ds ts : List ℕ) (g : Holding) (ks : List Kind) → Covered n (kinds_of w g) ks → are_below n ds ≡ true → Covered n (kinds_of w (receiving_all w g ds ts)) (L.received w ks ds ts)
received_covered w n [] ts g ks c e = c
received_covered w n (d ∷ ds) [] g ks c e = c
received_covered w n (d ∷ ds) (t ∷ ts) g ks c e =
    let b = both (nat_lt d n) (are_below n ds) e in
    received_covered w n ds ts (setting g d (received w t)) (written ks d (field_kind w t))
    (written_covered w n g ks d (received w t) (field_kind w t) c (below d n b.0) (received_kind w t)) b.1
