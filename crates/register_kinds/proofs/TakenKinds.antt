-- What taking a cell apart makes of all kinds, as registers are looked at in turn.
use Rattle.std.proofs.Common.{◌≡◌, ℕ, zero, suc, ◌+◌, ◌<◌, ◌≤◌, ◌⊎◌, inl, inr, List, [], ◌∷◌, length, drop, map, set, get_or, refl, sym, ap, ◌∙◌, subst, arith}
use Rattle.std.specs.Prelude.{Bool, true, false, ◌&&◌, not, is_some, ◌==◌, if◌then◌else◌, Option, Some, None}
use Rattle.std.proofs.lemmas.Bool.{lt-ltb, le-ltb, eq-eqb, ne_eqb}
use Rattle.std.proofs.lemmas.Bool.Decides.{eqb_tells}
use Rattle.kind_domain.specs.fip_language.Table.{Table}
use Rattle.kind_domain.specs.cell_code.declared.kind.From.{From}
use Rattle.kind_domain.specs.cell_code.declared.kind.Kind.{Kind}
use Rattle.kind_domain.specs.cell_code.declared.kind.Kind.TheVariants.{Gone, Scalar, Owned, Lent, Credit}
use Rattle.kind_domain.specs.code_rules.Kinds.{at, has, from_of, is_lent_of}
use Rattle.kind_domain.specs.code_rules.Types.{field_kind, is_scalar_type}
use Rattle.kind_domain.specs.code_rules.Changes.{forget}
use Rattle.kind_domain.specs.code_rules.Taking.{Part, part, part_from, is_heir, is_heir_by, fate, with_root, ends, part_kind, part_or, credit}
use Rattle.kind_domain.specs.code_rules.Taking.{Reaches, IsReached, IsTaken, inherited, is_field}
use Rattle.kind_domain.specs.Leading.{is_lent, kept_at, names}
use Rattle.register_kinds.specs.Takes.{seen_by, seen_at, is_used, forgotten, fated, filled_by, filled_at, emptied, in_turn, Alike}
use Rattle.register_kinds.specs.Takes.{GathersParts, IsPassed, stands_for}
use Rattle.kind_domain.specs.Owners.{root_by, rooted}
use Rattle.kind_domain.proofs.Naming.{rooted_apart, rooted_from, rooted_none, swapped_twice}
use Rattle.kind_domain.proofs.Places.{at_map, at_set_same, at_set_other, map_long, set_long, set_same}
use Rattle.register_kinds.proofs.Changed.{is_become, forget_by, forget_twice, forget_same, lent_forget, not_true}
use Rattle.register_kinds.proofs.Keeps.{either, from_leads, unlisted_from, unlisted_lent}
use Rattle.kind_domain.proofs.LentLists.{none_kept}
use Rattle.register_kinds.proofs.Reaching.{reaches_listed}
use Rattle.kind_domain.proofs.fip_language.Facts.{and_false_last as and_none, drop_past as past_end, or_cases, or_false_false as used_or, or_first as used_by, true_or_false}

-- registers in turn

pub in_turn_long : (g : ℕ → Kind → Kind) (ks : List Kind) (qs : List ℕ) → length (in_turn g ks qs) ≡ length ks
in_turn_long g ks [] = refl
in_turn_long g ks (q ∷ qs) = in_turn_long g (set ks q (g q (at ks q))) qs ∙ set_long ks q (g q (at ks q))

set_turn : (g : ℕ → Kind → Kind) (ks : List Kind) (x q : ℕ) →
    (at (set ks x (g x (at ks x))) q ≡ at ks q) ⊎ (at (set ks x (g x (at ks x))) q ≡ g q (at ks q))
set_turn g [] x q = inl refl
set_turn g (k ∷ ks) zero zero = inr refl
set_turn g (k ∷ ks) zero (suc q) = inl refl
set_turn g (k ∷ ks) (suc x) zero = inl refl
set_turn g (k ∷ ks) (suc x) (suc q) = set_turn (λ n. g (suc n)) ks x q

set_met : (g : ℕ → Kind → Kind) (ks : List Kind) (x : ℕ) → x < length ks →
    at (set ks x (g x (at ks x))) x ≡ g x (at ks x)
set_met g ks x h = at_set_same ks x (g x (at ks x)) h

-- Where a change is the same twice and changes no other, all registers have changed.
once_more : (g : ℕ → Kind → Kind) (q : ℕ) (k l : Kind) → ((q : ℕ) (k : Kind) → g q (g q k) ≡ g q k) →
    (l ≡ k) ⊎ (l ≡ g q k) → g q l ≡ g q k
once_more g q k l i (inl e) = ap (g q) e
once_more g q k l i (inr e) = ap (g q) e ∙ i q k

met_here : (g : ℕ → Kind → Kind) (ks : List Kind) (x q : ℕ) → q < length ks →
    (((x == q) ≡ true) × (x ≡ q)) ⊎ (((x == q) ≡ false) × (x ≡ q → ⊥)) → (x == q) ≡ true →
    at (set ks x (g x (at ks x))) q ≡ g q (at ks q)
met_here g ks x q l (inl e) y =
    ap (λ z. at (set ks x (g x (at ks x))) z) (sym e.1)
    ∙ set_met g ks x (let z = e.1 in omega arith) ∙ ap (λ z. g z (at ks z)) e.1
met_here g ks x q l (inr e) y = absurd (let z = e.0 in cc)

-- what is still to be met, or has its new kind
turned_on : (g : ℕ → Kind → Kind) → ((q : ℕ) (k : Kind) → g q (g q k) ≡ g q k) → (qs : List ℕ) (ks : List Kind)
    (x q : ℕ) → q < length ks → g q (at (set ks x (g x (at ks x))) q) ≡ g q (at ks q) →
    (has (x ∷ qs) q ≡ true) ⊎ (g q (at ks q) ≡ at ks q) →
    (at (set ks x (g x (at ks x))) q ≡ at ks q) ⊎ (at (set ks x (g x (at ks x))) q ≡ g q (at ks q)) →
    (has qs q ≡ true) ⊎ (g q (at (set ks x (g x (at ks x))) q) ≡ at (set ks x (g x (at ks x))) q)
turned_on g i qs ks x q l m h (inr e) = inr (m ∙ sym e)
turned_on g i qs ks x q l m (inr h) (inl e) = inr (m ∙ h ∙ sym e)
turned_on g i qs ks x q l m (inl h) (inl e) =
    elim (or_cases (x == q) (has qs q) h) [
      | inl y ↦ inr (m ∙ sym (met_here g ks x q l (eqb_tells x q) y))
      | inr y ↦ inl y
    ]

pub turned : (g : ℕ → Kind → Kind) → ((q : ℕ) (k : Kind) → g q (g q k) ≡ g q k) → (qs : List ℕ) (ks : List Kind)
    (q : ℕ) → q < length ks → (has qs q ≡ true) ⊎ (g q (at ks q) ≡ at ks q) →
    at (in_turn g ks qs) q ≡ g q (at ks q)
turned g i [] ks q l (inl h) = absurd (cc)
turned g i [] ks q l (inr h) = sym h
turned g i (x ∷ qs) ks q l h =
    let s = set_long ks x (g x (at ks x)) in
    let m = once_more g q (at ks q) (at (set ks x (g x (at ks x))) q) i (set_turn g ks x q) in
    turned g i qs (set ks x (g x (at ks x))) q (omega arith) (turned_on g i qs ks x q l m h (set_turn g ks x q)) ∙ m

-- the parts

part_some : (a b : Part) → Some a ≡ Some b → a ≡ b
part_some a b e = cc

first_named : (d : ℕ) (ds : List ℕ) (q x : ℕ) → d ≡ q → x ≡ 0 → get_or (d ∷ ds) x 0 ≡ q
first_named d ds q zero e h = e
first_named d ds q (suc x) e h = absurd (omega arith)

later_named : (d : ℕ) (ds : List ℕ) (q x i n : ℕ) → suc i ≤ n → n ≡ i + x →
    ((x : ℕ) → n ≡ suc i + x → get_or ds x 0 ≡ q) → get_or (d ∷ ds) x 0 ≡ q
later_named d ds q zero i n h e f = absurd (omega arith)
later_named d ds q (suc x) i n h e f = f x (omega arith)

part_step : (i d t : ℕ) (ds ts : List ℕ) (q : ℕ) (p : Part) →
    (((d == q) ≡ true) × (d ≡ q)) ⊎ (((d == q) ≡ false) × (d ≡ q → ⊥)) →
    (if d == q then Some (record { field = i; ty = t }) else part_from (suc i) ds ts q) ≡ Some p →
    (part_from (suc i) ds ts q ≡ Some p →
    (suc i ≤ p.field) × (p.field < suc i + length ds) × ((x : ℕ) → p.field ≡ suc i + x → get_or ds x 0 ≡ q)) →
    (i ≤ p.field) × (p.field < i + suc (length ds)) × ((x : ℕ) → p.field ≡ i + x → get_or (d ∷ ds) x 0 ≡ q)
part_step i d t ds ts q p (inl g) e h =
    let f = (rw g.0 at e) in
    let z = ap (λ (x : Part). x.field) (part_some (record { field = i; ty = t }) p f) in
    ((omega arith), (omega arith), (λ x y. first_named d ds q x g.1 (omega arith)))
part_step i d t ds ts q p (inr g) e h =
    let f = (rw g.0 at e) in
    let k = h f in
    let a = k.0 in
    let b = k.1 in
    ((omega arith), (omega arith), (λ x y. later_named d ds q x i p.field a y k.2))

part_there : (i : ℕ) (ds ts : List ℕ) (q : ℕ) (p : Part) → part_from i ds ts q ≡ Some p →
    (i ≤ p.field) × (p.field < i + length ds) × ((d : ℕ) → p.field ≡ i + d → get_or ds d 0 ≡ q)
part_there i [] ts q p e = absurd (cc)
part_there i (d ∷ ds) [] q p e = absurd (cc)
part_there i (d ∷ ds) (t ∷ ts) q p e = part_step i d t ds ts q p (eqb_tells d q) e (part_there (suc i) ds ts q p)

pub part_within : (ds ts : List ℕ) (q : ℕ) (p : Part) → part ds ts q ≡ Some p → p.field < length ds
part_within ds ts q p e = let h = part_there 0 ds ts q p e in let g = h.1 in omega arith

pub part_names : (ds ts : List ℕ) (q : ℕ) (p : Part) → part ds ts q ≡ Some p → get_or ds p.field 0 ≡ q
part_names ds ts q p e = (part_there 0 ds ts q p e).2 p.field (omega arith)

-- what forgetting leaves

if_same : (b : Bool) (k l : Kind) → l ≡ k → (if b then k else l) ≡ k
if_same true k l e = refl
if_same false k l e = e

lent_forgets : (p : ℕ → Bool) (k : Kind) → is_lent (forget p k) ≡ is_lent k
lent_forgets p Gone = refl
lent_forgets p (Scalar t) = refl
lent_forgets p (Owned t s) = refl
lent_forgets p (Lent t s root from) = refl
lent_forgets p (Credit n) = refl

if_lent : (b : Bool) (p : ℕ → Bool) (k : Kind) → is_lent (if b then k else forget p k) ≡ is_lent k
if_lent true p k = refl
if_lent false p k = lent_forgets p k

pub lent_forgotten : (r : ℕ) (parts : ℕ → Option Part) (ended : ℕ → Bool) (q : ℕ) (k : Kind) →
    is_lent (forgotten r parts ended q k) ≡ is_lent k
lent_forgotten r parts ended q k = if_lent (is_used r parts q) ended k

if_root : (b : Bool) (p : ℕ → Bool) (r : ℕ) (k : Kind) → is_lent_of r (if b then k else forget p k) ≡ is_lent_of r k
if_root true p r k = refl
if_root false p r k = lent_forget p r k

root_forgotten : (r : ℕ) (parts : ℕ → Option Part) (ended : ℕ → Bool) (q : ℕ) (k : Kind) →
    is_lent_of r (forgotten r parts ended q k) ≡ is_lent_of r k
root_forgotten r parts ended q k = if_root (is_used r parts q) ended r k

-- twice is once

if_twice : (b : Bool) (f : Kind → Kind) (k : Kind) → f (f k) ≡ f k →
    (if b then (if b then k else f k) else f (if b then k else f k)) ≡ (if b then k else f k)
if_twice true f k e = refl
if_twice false f k e = e

pub forgotten_twice : (r : ℕ) (parts : ℕ → Option Part) (ended : ℕ → Bool) (q : ℕ) (k : Kind) →
    forgotten r parts ended q (forgotten r parts ended q k) ≡ forgotten r parts ended q k
forgotten_twice r parts ended q k = if_twice (is_used r parts q) (forget ended) k (forget_twice ended k)

lost : (r : ℕ) (k : Kind) (b : Bool) → is_lent_of r k ≡ b →
    fate None r (if b then Gone else k) ≡ (if b then Gone else k)
lost r k true e = refl
lost r k false e = rw e refl

seen_gone : (f : ℕ → ℕ) (os : List (Option ℕ)) (q r : ℕ) (k : Kind) (b : Bool) → is_lent_of r k ≡ b →
    seen_by os q k ≡ None →
    fate (root_by f (seen_by os q (if b then Gone else k))) r (if b then Gone else k) ≡ (if b then Gone else k)
seen_gone f os q r k true e h = refl
seen_gone f os q r k false e h = ap (λ o. fate (root_by f o) r k) h ∙ lost r k false e

fate_by : (f : ℕ → ℕ) (os : List (Option ℕ)) (q r : ℕ) (k : Kind) (o : Option ℕ) → seen_by os q k ≡ o →
    fate (root_by f (seen_by os q (fate (root_by f o) r k))) r (fate (root_by f o) r k) ≡ fate (root_by f o) r k
fate_by f os q r k None e = seen_gone f os q r k (is_lent_of r k) refl e
fate_by f os q r Gone (Some d) e = refl
fate_by f os q r (Scalar t) (Some d) e = refl
fate_by f os q r (Owned t s) (Some d) e = refl
fate_by f os q r (Lent t s root from) (Some d) e = ap (λ o. fate (root_by f o) r (Lent t s (Some (f d)) from)) e
fate_by f os q r (Credit n) (Some d) e = refl

pub fated_twice : (f : ℕ → ℕ) (r : ℕ) (parts : ℕ → Option Part) (os : List (Option ℕ)) (q : ℕ) (k : Kind) →
    fated f r parts os q (fated f r parts os q k) ≡ fated f r parts os q k
fated_twice f r parts os q k =
    if_twice (is_used r parts q) (λ x. fate (root_by f (seen_by os q x)) r x) k
    (fate_by f os q r k (seen_by os q k) refl)

-- forgetting and fate don't meet

with_forget : (d : ℕ) (p : ℕ → Bool) (k : Kind) → with_root d (forget p k) ≡ forget p (with_root d k)
with_forget d p Gone = refl
with_forget d p (Scalar t) = refl
with_forget d p (Owned t s) = refl
with_forget d p (Lent t s root from) = refl
with_forget d p (Credit n) = refl

gone_forget : (p : ℕ → Bool) (k : Kind) (a b : Bool) → a ≡ b →
    (if a then Gone else forget p k) ≡ forget p (if b then Gone else k)
gone_forget p k true true e = refl
gone_forget p k true false e = absurd (cc)
gone_forget p k false true e = absurd (cc)
gone_forget p k false false e = refl

fate_forget : (o : Option ℕ) (r : ℕ) (p : ℕ → Bool) (k : Kind) → fate o r (forget p k) ≡ forget p (fate o r k)
fate_forget None r p k = gone_forget p k (is_lent_of r (forget p k)) (is_lent_of r k) (lent_forget p r k)
fate_forget (Some d) r p k = with_forget d p k

seen_forget : (os : List (Option ℕ)) (q : ℕ) (p : ℕ → Bool) (k : Kind) → seen_by os q (forget p k) ≡ seen_by os q k
seen_forget os q p k = ap (λ b. if b then kept_at os q else None) (lent_forgets p k)

pub both : (f : ℕ → ℕ) (os : List (Option ℕ)) (q r : ℕ) (p : ℕ → Bool) (k : Kind) →
    fate (root_by f (seen_by os q (forget p k))) r (forget p k) ≡ forget p (fate (root_by f (seen_by os q k)) r k)
both f os q r p k =
    ap (λ o. fate (root_by f o) r (forget p k)) (seen_forget os q p k)
    ∙ fate_forget (root_by f (seen_by os q k)) r p k

-- while registers forget

pub alike_here : (r : ℕ) (parts : ℕ → Option Part) (ks : List Kind) → Alike r parts ks ks
alike_here r parts ks = record { used = λ q e. refl; lent = λ q. refl; root = λ q. refl }

kept_used : (b : Bool) (p : ℕ → Bool) (k : Kind) → b ≡ true → (if b then k else forget p k) ≡ k
kept_used true p k e = refl
kept_used false p k e = absurd (cc)

pub alike_step : (r : ℕ) (parts : ℕ → Option Part) (ended : ℕ → Bool) (ks start : List Kind) (x : ℕ) →
    Alike r parts ks start → Alike r parts (set ks x (forgotten r parts ended x (at ks x))) start
alike_step r parts ended ks start x a = record {
  used = either (λ q k. is_used r parts q ≡ true → k ≡ at start q) ks x (forgotten r parts ended x (at ks x)) a.used
      (λ e. kept_used (is_used r parts x) ended (at ks x) e ∙ a.used x e);
  lent = either (λ q k. is_lent k ≡ is_lent (at start q)) ks x (forgotten r parts ended x (at ks x)) a.lent
      (lent_forgotten r parts ended x (at ks x) ∙ a.lent x);
  root = either (λ q k. is_lent_of r k ≡ is_lent_of r (at start q)) ks x (forgotten r parts ended x (at ks x)) a.root
      (root_forgotten r parts ended x (at ks x) ∙ a.root x);
}

pub used_some : (r : ℕ) (parts : ℕ → Option Part) (q : ℕ) (p : Part) → parts q ≡ Some p → is_used r parts q ≡ true
used_some r parts q p e = used_by (is_some (parts q)) (q == r) (ap is_some e)

heir_alike : (w : Table) (r : ℕ) (parts : ℕ → Option Part) (ks start : List Kind) (q : ℕ) (o : Option Part) →
    parts q ≡ o → is_some o ≡ true → Alike r parts ks start →
    is_heir w ks r parts q ≡ is_heir w start r parts q
heir_alike w r parts ks start q None e h a = absurd (cc)
heir_alike w r parts ks start q (Some p) e h a =
    ap (λ k. is_heir_by w r k (parts q)) (a.used q (used_some r parts q p e))

seen_alike : (r : ℕ) (parts : ℕ → Option Part) (ks start : List Kind) (os : List (Option ℕ)) (q : ℕ) →
    Alike r parts ks start → seen_at ks os q ≡ seen_at start os q
seen_alike r parts ks start os q a = ap (λ b. if b then kept_at os q else None) (a.lent q)

ends_by : (w : Table) (r : ℕ) (parts : ℕ → Option Part) (ks start : List Kind) (os : List (Option ℕ)) (size q : ℕ)
    (b c : Bool) → is_some (parts q) ≡ b → Alike r parts ks start →
    (if b then not (is_heir w ks r parts q) else
    (if c then size == 0 else is_lent_of r (at ks q) && not (is_some (seen_at ks os q))))
    ≡ (if b then not (is_heir w start r parts q) else
    (if c then size == 0 else is_lent_of r (at start q) && not (is_some (seen_at start os q))))
ends_by w r parts ks start os size q true c e a = ap not (heir_alike w r parts ks start q (parts q) refl e a)
ends_by w r parts ks start os size q false true e a = refl
ends_by w r parts ks start os size q false false e a =
    ap (λ b. b && not (is_some (seen_at ks os q))) (a.root q)
    ∙ ap (λ o. is_lent_of r (at start q) && not (is_some o)) (seen_alike r parts ks start os q a)

ends_alike : (w : Table) (r : ℕ) (parts : ℕ → Option Part) (ks start : List Kind) (os : List (Option ℕ)) (size q : ℕ) →
    Alike r parts ks start →
    ends w ks r parts size (seen_at ks os) q ≡ ends w start r parts size (seen_at start os) q
ends_alike w r parts ks start os size q a =
    ends_by w r parts ks start os size q (is_some (parts q)) (q == r) refl a

forgotten_same : (r : ℕ) (parts : ℕ → Option Part) (e f : ℕ → Bool) (q : ℕ) (k : Kind) → ((q : ℕ) → e q ≡ f q) →
    forgotten r parts e q k ≡ forgotten r parts f q k
forgotten_same r parts e f q k h = ap (λ z. if is_used r parts q then k else z) (forget_same e f h k)

-- one register more forgets what ends, as that was at the start
pub ended_step : (w : Table) (r : ℕ) (parts : ℕ → Option Part) (size : ℕ) (os : List (Option ℕ)) (x : ℕ)
    (ks start new : List Kind) (qs : List ℕ) → Alike r parts ks start →
    new ≡ set ks x (forgotten r parts (ends w ks r parts size (seen_at ks os)) x (at ks x)) →
    in_turn (forgotten r parts (ends w start r parts size (seen_at start os))) new qs
    ≡ in_turn (forgotten r parts (ends w start r parts size (seen_at start os))) ks (x ∷ qs)
ended_step w r parts size os x ks start new qs a e =
    ap (λ z. in_turn (forgotten r parts (ends w start r parts size (seen_at start os))) z qs)
    (e ∙ ap (set ks x) (forgotten_same r parts (ends w ks r parts size (seen_at ks os))
    (ends w start r parts size (seen_at start os)) x (at ks x)
    (λ q. ends_alike w r parts ks start os size q a)))

pub turns_done : (g : ℕ → Kind → Kind) (ks : List Kind) (qs : List ℕ) (i : ℕ) → length qs ≤ i →
    ks ≡ in_turn g ks (drop i qs)
turns_done g ks qs i h = sym (ap (in_turn g ks) (past_end qs i h))

-- a register that isn't used and has no from that ends

pub kept_own : (g : ℕ → Kind → Kind) (ks : List Kind) (q : ℕ) → g q (at ks q) ≡ at ks q → ks ≡ set ks q (g q (at ks q))
kept_own g ks q e = sym (ap (set ks q) e ∙ set_same ks q)

pub used_forgotten : (r : ℕ) (parts : ℕ → Option Part) (ended : ℕ → Bool) (q : ℕ) (k : Kind) →
    is_used r parts q ≡ true → forgotten r parts ended q k ≡ k
used_forgotten r parts ended q k e = kept_used (is_used r parts q) ended k e

pub unused_forgotten : (r : ℕ) (parts : ℕ → Option Part) (ended : ℕ → Bool) (q : ℕ) (k : Kind) →
    forget ended k ≡ k → forgotten r parts ended q k ≡ k
unused_forgotten r parts ended q k e = if_same (is_used r parts q) k (forget ended k) e

kept_fated : (b : Bool) (k l : Kind) → b ≡ true → (if b then k else l) ≡ k
kept_fated true k l e = refl
kept_fated false k l e = absurd (cc)

pub used_fated : (f : ℕ → ℕ) (r : ℕ) (parts : ℕ → Option Part) (os : List (Option ℕ)) (q : ℕ) (k : Kind) →
    is_used r parts q ≡ true → fated f r parts os q k ≡ k
used_fated f r parts os q k e = kept_fated (is_used r parts q) k (fate (root_by f (seen_by os q k)) r k) e

-- the fates of registers that aren't used

if_not : (b : Bool) (k l : Kind) → b ≡ false → l ≡ (if b then k else l)
if_not true k l e = absurd (cc)
if_not false k l e = refl

pub fated_some : (f : ℕ → ℕ) (r : ℕ) (parts : ℕ → Option Part) (os : List (Option ℕ)) (q d : ℕ) (k : Kind) →
    is_used r parts q ≡ false → seen_by os q k ≡ Some d → with_root (f d) k ≡ fated f r parts os q k
fated_some f r parts os q d k u e =
    ap (λ o. fate (root_by f o) r k) (sym e) ∙ if_not (is_used r parts q) k (fate (root_by f (seen_by os q k)) r k) u

lost_gone : (r : ℕ) (k : Kind) (b : Bool) → is_lent_of r k ≡ b → b ≡ true → Gone ≡ (if b then Gone else k)
lost_gone r k true e h = refl
lost_gone r k false e h = absurd (cc)

lost_kept : (r : ℕ) (k : Kind) (b : Bool) → b ≡ false → (if b then Gone else k) ≡ k
lost_kept r k true e = absurd (cc)
lost_kept r k false e = refl

pub fated_gone : (f : ℕ → ℕ) (r : ℕ) (parts : ℕ → Option Part) (os : List (Option ℕ)) (q : ℕ) (k : Kind) →
    is_used r parts q ≡ false → seen_by os q k ≡ None → is_lent_of r k ≡ true → Gone ≡ fated f r parts os q k
fated_gone f r parts os q k u e h =
    lost_gone r k (is_lent_of r k) refl h ∙ ap (λ o. fate (root_by f o) r k) (sym e)
    ∙ if_not (is_used r parts q) k (fate (root_by f (seen_by os q k)) r k) u

pub fated_kept : (f : ℕ → ℕ) (r : ℕ) (parts : ℕ → Option Part) (os : List (Option ℕ)) (q : ℕ) (k : Kind) →
    seen_by os q k ≡ None → is_lent_of r k ≡ false → fated f r parts os q k ≡ k
fated_kept f r parts os q k e h =
    if_same (is_used r parts q) k (fate (root_by f (seen_by os q k)) r k)
    (ap (λ o. fate (root_by f o) r k) e ∙ lost_kept r k (is_lent_of r k) h)

-- filling

filled_far : (w : Table) (r n : ℕ) (k : Kind) (o : Option Part) → ((p : Part) → o ≡ Some p → p.field ≡ n → ⊥) →
    k ≡ filled_at w r n k o
filled_far w r n k None h = refl
filled_far w r n k (Some p) h =
    elim (eqb_tells p.field n) [ inl g ↦ absurd (h p refl g.1) | inr g ↦ rw g.0 refl ]

pub fill_other : (w : Table) (r n : ℕ) (k : Kind) (ds ts : List ℕ) (d q : ℕ) → d ≡ get_or ds n 0 →
    ((p : Part) → part ds ts d ≡ Some p → p.field ≡ n → ⊥) → k ≡ filled_at w r n k (part ds ts q)
fill_other w r n k ds ts d q e h =
    filled_far w r n k (part ds ts q)
    (λ p g i. h p (ap (part ds ts) (e ∙ ap (λ z. get_or ds z 0) (sym i) ∙ part_names ds ts q p g) ∙ g) i)

filled_here : (w : Table) (r n : ℕ) (k : Kind) (p : Part) → p.field ≡ n → part_kind w r k p ≡ filled_at w r n k (Some p)
filled_here w r n k p e = rw (eq-eqb p.field n e) refl

fill_placed : (w : Table) (r n : ℕ) (ks : List Kind) (ds ts : List ℕ) (d : ℕ) (p : Part) → d ≡ get_or ds n 0 →
    part ds ts d ≡ Some p → p.field ≡ n → (q : ℕ) → q < length ks →
    (((d == q) ≡ true) × (d ≡ q)) ⊎ (((d == q) ≡ false) × (d ≡ q → ⊥)) →
    at (set ks d (part_kind w r (at ks d) p)) q ≡ filled_at w r n (at ks q) (part ds ts q)
fill_placed w r n ks ds ts d p e g f q l (inl h) =
    ap (λ z. at (set ks d (part_kind w r (at ks d) p)) z) (sym h.1)
    ∙ at_set_same ks d (part_kind w r (at ks d) p) (let z = h.1 in omega arith)
    ∙ filled_here w r n (at ks d) p f
    ∙ ap (filled_at w r n (at ks d)) (sym g)
    ∙ ap (λ z. filled_at w r n (at ks z) (part ds ts z)) h.1
fill_placed w r n ks ds ts d p e g f q l (inr h) =
    at_set_other ks d q (part_kind w r (at ks d) p) h.1
    ∙ filled_far w r n (at ks q) (part ds ts q)
    (λ y i j. h.1 (e ∙ ap (λ z. get_or ds z 0) (sym j) ∙ part_names ds ts q y i))

pub fill_put : (w : Table) (r n : ℕ) (ks new : List Kind) (ds ts : List ℕ) (d : ℕ) (p : Part) → d ≡ get_or ds n 0 →
    part ds ts d ≡ Some p → p.field ≡ n → new ≡ set ks d (part_kind w r (at ks d) p) → (q : ℕ) → q < length ks →
    at new q ≡ filled_at w r n (at ks q) (part ds ts q)
fill_put w r n ks new ds ts d p e g f s q l =
    ap (λ z. at z q) s ∙ fill_placed w r n ks ds ts d p e g f q l (eqb_tells d q)

pub filled_start : (w : Table) (r : ℕ) (k : Kind) (o : Option Part) → k ≡ filled_by w r 0 k o
filled_start w r k None = refl
filled_start w r k (Some p) = rw (le-ltb p.field 0 (omega arith)) refl

next_at_most : (x n : ℕ) → ((x < n) ⊎ (x ≡ n)) ⊎ (suc n ≤ x)
next_at_most x n = grind arith

pub filled_next : (w : Table) (r n : ℕ) (k : Kind) (o : Option Part) →
    filled_at w r n (filled_by w r n k o) o ≡ filled_by w r (n + 1) k o
filled_next w r n k None = refl
filled_next w r n k (Some p) =
    elim (next_at_most p.field n) [
      | inl h ↦ elim h [
        | inl g ↦ rw (ne_eqb p.field n (λ e. omega arith), lt-ltb p.field n g, lt-ltb p.field (n + 1) (omega arith)) refl
        | inr g ↦ rw (eq-eqb p.field n g, le-ltb p.field n (omega arith), lt-ltb p.field (n + 1) (omega arith)) refl
      ]
      | inr g ↦ rw (
        ne_eqb p.field n (λ e. omega arith),
        le-ltb p.field n (omega arith),
        le-ltb p.field (n + 1) (omega arith),
      ) refl
    ]

-- all together

two_used : (f : ℕ → ℕ) (r : ℕ) (parts : ℕ → Option Part) (os : List (Option ℕ)) (ended : ℕ → Bool) (q : ℕ) (k : Kind) →
    is_used r parts q ≡ true → fated f r parts os q (forgotten r parts ended q k) ≡ k
two_used f r parts os ended q k u =
    used_fated f r parts os q (forgotten r parts ended q k) u ∙ used_forgotten r parts ended q k u

two_unused : (f : ℕ → ℕ) (r : ℕ) (parts : ℕ → Option Part) (os : List (Option ℕ)) (ended : ℕ → Bool) (q : ℕ) (k : Kind) →
    is_used r parts q ≡ false →
    fated f r parts os q (forgotten r parts ended q k) ≡ forget ended (fate (root_by f (seen_by os q k)) r k)
two_unused f r parts os ended q k u =
    ap (fated f r parts os q) (sym (if_not (is_used r parts q) k (forget ended k) u))
    ∙ sym (if_not (is_used r parts q) (forget ended k)
    (fate (root_by f (seen_by os q (forget ended k))) r (forget ended k)) u)
    ∙ both f os q r ended k

rooted_forget : (f : ℕ → ℕ) (p : ℕ → Bool) (k : Kind) → rooted f (forget p k) ≡ forget p (rooted f k)
rooted_forget f p Gone = refl
rooted_forget f p (Scalar t) = refl
rooted_forget f p (Owned t s) = refl
rooted_forget f p (Lent t s root from) = refl
rooted_forget f p (Credit n) = refl

rooted_root : (f : ℕ → ℕ) (d : ℕ) (k : Kind) → f (f d) ≡ d → rooted f (with_root (f d) k) ≡ with_root d k
rooted_root f d Gone e = refl
rooted_root f d (Scalar t) e = refl
rooted_root f d (Owned t s) e = refl
rooted_root f d (Lent t s root from) e = ap (λ x. Lent t s (Some x) from) e
rooted_root f d (Credit n) e = refl

rooted_lost : (f : ℕ → ℕ) (k : Kind) (b : Bool) → (b ≡ false → rooted f k ≡ k) →
    rooted f (if b then Gone else k) ≡ (if b then Gone else k)
rooted_lost f k true h = refl
rooted_lost f k false h = h refl

rooted_fate : (f : ℕ → ℕ) (o : Option ℕ) (r : ℕ) (k : Kind) → ((d : ℕ) → f (f d) ≡ d) →
    (is_lent_of r k ≡ false → rooted f k ≡ k) → rooted f (fate (root_by f o) r k) ≡ fate o r k
rooted_fate f None r k t h = rooted_lost f k (is_lent_of r k) h
rooted_fate f (Some d) r k t h = rooted_root f d k (t d)

-- A register that is lent of another has it as root.
pub root_kept : (d : ℕ) (k : Kind) → is_lent_of d k ≡ true → with_root d k ≡ k
root_kept d Gone e = refl
root_kept d (Scalar t) e = refl
root_kept d (Owned t s) e = refl
root_kept d (Lent t s None from) e = absurd (cc)
root_kept d (Lent t s (Some r) from) e =
    elim (eqb_tells r d) [
      | inl g ↦ ap (λ x. Lent t s (Some x) from) (sym g.1)
      | inr g ↦ absurd (let i = g.0 in cc)
    ]
root_kept d (Credit n) e = refl

rooted_inherited : (f : ℕ → ℕ) (k : Kind) → inherited (rooted f k) ≡ inherited k
rooted_inherited f Gone = refl
rooted_inherited f (Scalar t) = refl
rooted_inherited f (Owned t s) = refl
rooted_inherited f (Lent t s root from) = refl
rooted_inherited f (Credit n) = refl

-- A part doesn't depend on the root that its register had.
pub rooted_part : (f : ℕ → ℕ) (w : Table) (r : ℕ) (k : Kind) (p : Part) → part_kind w r (rooted f k) p ≡ part_kind w r k p
rooted_part f w r k p =
    ap (λ o. if is_scalar_type w p.ty then Scalar p.ty else
    (if is_field r p.field o then inherited (rooted f k) else field_kind w p.ty)) (rooted_from f k)
    ∙ ap (λ x. if is_scalar_type w p.ty then Scalar p.ty else
    (if is_field r p.field (from_of k) then x else field_kind w p.ty)) (rooted_inherited f k)

filled_full : (w : Table) (r size : ℕ) (k l : Kind) (p : Part) → p.field < size →
    part_kind w r l p ≡ part_kind w r k p → filled_by w r size l (Some p) ≡ part_kind w r k p
filled_full w r size k l p h e = rw (lt-ltb p.field size h) e

-- a register that doesn't own the cell
other_case : (w : Table) (r size : ℕ) (parts : ℕ → Option Part) (q : ℕ) (k l x : Kind) (o : Option Part) →
    parts q ≡ o → ((p : Part) → o ≡ Some p → p.field < size) → (q == r) ≡ false →
    ((p : Part) → o ≡ Some p → part_kind w r x p ≡ part_kind w r k p) → (is_used r parts q ≡ false → x ≡ l) →
    filled_by w r size x o ≡ part_or w r k o (if q == r then credit size else l)
other_case w r size parts q k l x None e h g u n = n (used_or (is_some (parts q)) (q == r) (ap is_some e) g) ∙ rw g refl
other_case w r size parts q k l x (Some p) e h g u n =
    filled_full w r size k x p (h p refl) (u p refl)

emptied_other : (ks : List Kind) (r size q : ℕ) (o : Option Part) → (q ≡ r → ⊥) → at (emptied ks r o size) q ≡ at ks q
emptied_other ks r size q None h = at_set_other ks r q (credit size) (λ e. h (sym e))
emptied_other ks r size q (Some p) h = refl

-- the register that owned the cell
own_case : (w : Table) (r size : ℕ) (k x : Kind) (ks : List Kind) (o : Option Part) →
    ((p : Part) → o ≡ Some p → p.field < size) → r < length ks →
    ((p : Part) → o ≡ Some p → part_kind w r x p ≡ part_kind w r k p) → at ks r ≡ filled_by w r size x o →
    at (emptied ks r o size) r ≡ part_or w r k o (credit size)
own_case w r size k x ks None h l e f = at_set_same ks r (credit size) l
own_case w r size k x ks (Some p) h l e f = f ∙ filled_full w r size k x p (h p refl) (e p refl)

emptied_long : (ks : List Kind) (r size : ℕ) (o : Option Part) → length (emptied ks r o size) ≡ length ks
emptied_long ks r size None = set_long ks r (credit size)
emptied_long ks r size (Some p) = refl

new_own : (w : Table) (r : ℕ) (ds ts : List ℕ) (ks second third : List Kind) (q : ℕ) → q < length third →
    ((p : Part) → part ds ts q ≡ Some p → part_kind w r (at second q) p ≡ part_kind w r (at ks q) p) →
    at third q ≡ filled_by w r (length ds) (at second q) (part ds ts q) → q ≡ r →
    at (emptied third r (part ds ts r) (length ds)) q ≡ part_or w r (at ks q) (part ds ts q) (credit (length ds))
new_own w r ds ts ks second third q l u f e =
    subst (λ z. at (emptied third r (part ds ts r) (length ds)) z
    ≡ part_or w r (at ks z) (part ds ts z) (credit (length ds))) (sym e)
    (own_case w r (length ds) (at ks r) (at second r) third (part ds ts r)
    (λ p i. part_within ds ts r p i) (subst (λ z. z < length third) e l)
    (subst (λ z. (p : Part) → part ds ts z ≡ Some p → part_kind w r (at second z) p ≡ part_kind w r (at ks z) p) e u)
    (subst (λ z. at third z ≡ filled_by w r (length ds) (at second z) (part ds ts z)) e f))

new_at : (w : Table) (r : ℕ) (ds ts : List ℕ) (ks second third : List Kind) (x : Kind) (q : ℕ) → q < length third →
    ((p : Part) → part ds ts q ≡ Some p → part_kind w r (at second q) p ≡ part_kind w r (at ks q) p) →
    (is_used r (part ds ts) q ≡ false → at second q ≡ x) →
    at third q ≡ filled_by w r (length ds) (at second q) (part ds ts q) →
    (((q == r) ≡ true) × (q ≡ r)) ⊎ (((q == r) ≡ false) × (q ≡ r → ⊥)) →
    at (emptied third r (part ds ts r) (length ds)) q
    ≡ part_or w r (at ks q) (part ds ts q) (if q == r then credit (length ds) else x)
new_at w r ds ts ks second third x q l u n f (inr g) =
    emptied_other third r (length ds) q (part ds ts r) g.1 ∙ f
    ∙ other_case w r (length ds) (part ds ts) q (at ks q) x (at second q) (part ds ts q) refl
    (λ p e. part_within ds ts q p e) g.0 u n
new_at w r ds ts ks second third x q l u n f (inl g) = rw g.0 (new_own w r ds ts ks second third q l u f g.1)

-- What has been passed on, filled and emptied is taken.
pub taken_is : (w : Table) (r : ℕ) (ds ts : List ℕ) (ks second third new : List Kind)
    (passed : IsPassed w ks r ds ts second) →
    ((q : ℕ) → q < length second → at third q ≡ filled_by w r (length ds) (at second q) (part ds ts q)) →
    length third ≡ length second → new ≡ emptied third r (part ds ts r) (length ds) → IsTaken w ks r ds ts new
taken_is w r ds ts ks second third new passed fill long e =
    let two = passed.long in (
      passed.reached,
      passed.reaches,
      is_become ks new (λ q. part_or w r (at ks q) (part ds ts q) (if q == r then credit (length ds) else
          forget (ends w ks r (part ds ts) (length ds) passed.reached) (fate (passed.reached q) r (at ks q))))
          (ap length e ∙ emptied_long third r (length ds) (part ds ts r) ∙ long ∙ passed.long)
          (λ q l. ap (λ z. at z q) e
          ∙ new_at w r ds ts ks second third
          (forget (ends w ks r (part ds ts) (length ds) passed.reached) (fate (passed.reached q) r (at ks q))) q (omega arith)
          (passed.used q l) (passed.unused q l) (fill q (omega arith)) (eqb_tells q r)),
    )

pub part_has : (i : ℕ) (ds ts : List ℕ) (q : ℕ) (p : Part) → part_from i ds ts q ≡ Some p → has ds q ≡ true
part_has i [] ts q p e = absurd (cc)
part_has i (d ∷ ds) [] q p e = absurd (cc)
part_has i (d ∷ ds) (t ∷ ts) q p e =
    elim (eqb_tells d q) [
      | inl g ↦ rw g.0 refl
      | inr g ↦ (let f = (rw g.0 at e) in rw g.0 (part_has (suc i) ds ts q p f))
    ]

no_part : (ds ts : List ℕ) (q : ℕ) (o : Option Part) → part ds ts q ≡ o → has ds q ≡ false → is_some o ≡ false
no_part ds ts q None e h = refl
no_part ds ts q (Some p) e h = absurd (let g = part_has 0 ds ts q p e in cc)

-- All that reach an heir are listed.
pub heirs_listed : (w : Table) (ks : List Kind) (r : ℕ) (ds ts qs : List ℕ) →
    GathersParts ks r (is_heir w ks r (part ds ts)) ds qs → (q d : ℕ) →
    Reaches ks (is_heir w ks r (part ds ts)) q d → has qs q ≡ true
heirs_listed w ks r ds ts qs g q d x =
    g.inside q (reaches_listed ks (is_heir w ks r (part ds ts)) g.inner g.heirs g.gathers.further q d x)

-- What a register that isn't listed came from doesn't end.
not_ended : (w : Table) (ks : List Kind) (r : ℕ) (ds ts qs : List ℕ) (os : List (Option ℕ)) (q : ℕ) (f : From) →
    GathersParts ks r (is_heir w ks r (part ds ts)) ds qs → has qs q ≡ false → from_of (at ks q) ≡ Some f →
    ends w ks r (part ds ts) (length ds) (seen_at ks os) f.register ≡ false
not_ended w ks r ds ts qs os q f g e h =
    let i = not_true (has g.inner q) (has qs q) (g.inside q) e in
    let a = unlisted_from ks r g.inner q f g.gathers i h in
    let b = no_part ds ts f.register (part ds ts f.register) refl
    (not_true (has ds f.register) (has qs q) (λ j. g.parts f.register q j (from_leads (at ks q) f h)) e) in
    let c = unlisted_lent ks r g.inner f.register g.gathers a.listed in
    let d = a.own in
    rw (b, d) (ap (λ z. z && not (is_some (seen_at ks os f.register))) c)

unlisted_forgotten : (w : Table) (ks : List Kind) (r : ℕ) (ds ts qs : List ℕ) (os : List (Option ℕ)) (q : ℕ) →
    GathersParts ks r (is_heir w ks r (part ds ts)) ds qs → has qs q ≡ false →
    forgotten r (part ds ts) (ends w ks r (part ds ts) (length ds) (seen_at ks os)) q (at ks q) ≡ at ks q
unlisted_forgotten w ks r ds ts qs os q g e =
    unused_forgotten r (part ds ts) (ends w ks r (part ds ts) (length ds) (seen_at ks os)) q (at ks q)
    (forget_by (ends w ks r (part ds ts) (length ds) (seen_at ks os)) (at ks q) (from_of (at ks q)) refl
    (λ f h. not_ended w ks r ds ts qs os q f g e h))

unlisted_fated : (f : ℕ → ℕ) (w : Table) (ks : List Kind) (r : ℕ) (ds ts qs : List ℕ) (os : List (Option ℕ)) (q : ℕ) →
    GathersParts ks r (is_heir w ks r (part ds ts)) ds qs →
    IsReached ks (is_heir w ks r (part ds ts)) q (seen_at ks os q) → has qs q ≡ false →
    fated f r (part ds ts) os q (at ks q) ≡ at ks q
unlisted_fated f w ks r ds ts qs os q g i e =
    fated_kept f r (part ds ts) os q (at ks q)
    (none_kept (seen_at ks os q) (λ d h. let l = heirs_listed w ks r ds ts qs g q d
    (subst (IsReached ks (is_heir w ks r (part ds ts)) q) h i) in cc))
    (unlisted_lent ks r g.inner q g.gathers (not_true (has g.inner q) (has qs q) (g.inside q) e))

-- what all registers have, once they forgot and had their fates
passed_at : (f : ℕ → ℕ) (w : Table) (r : ℕ) (ds ts : List ℕ) (os : List (Option ℕ)) (ks first second : List Kind)
    (qs : List ℕ) →
    GathersParts ks r (is_heir w ks r (part ds ts)) ds qs →
    ((q : ℕ) → IsReached ks (is_heir w ks r (part ds ts)) q (seen_at ks os q)) →
    first ≡ in_turn (forgotten r (part ds ts) (ends w ks r (part ds ts) (length ds) (seen_at ks os))) ks qs →
    second ≡ in_turn (fated f r (part ds ts) os) first qs → (q : ℕ) → q < length ks →
    at second q ≡ fated f r (part ds ts) os q
    (forgotten r (part ds ts) (ends w ks r (part ds ts) (length ds) (seen_at ks os)) q (at ks q))
passed_at f w r ds ts os ks first second qs g i a b q l =
    let one = ap length a
    ∙ in_turn_long (forgotten r (part ds ts) (ends w ks r (part ds ts) (length ds) (seen_at ks os))) ks qs in
    let here : at first q
    ≡ forgotten r (part ds ts) (ends w ks r (part ds ts) (length ds) (seen_at ks os)) q (at ks q)
    = (ap (λ z. at z q) a
    ∙ turned (forgotten r (part ds ts) (ends w ks r (part ds ts) (length ds) (seen_at ks os)))
    (forgotten_twice r (part ds ts) (ends w ks r (part ds ts) (length ds) (seen_at ks os))) qs ks q l
    (elim (true_or_false (has qs q)) [
      | inl h ↦ inl h
      | inr h ↦ inr (unlisted_forgotten w ks r ds ts qs os q g h)
    ])) in
    ap (λ z. at z q) b ∙ turned (fated f r (part ds ts) os) (fated_twice f r (part ds ts) os) qs first q (omega arith)
    (elim (true_or_false (has qs q)) [
      | inl h ↦ inl h
      | inr h ↦ inr (subst (λ k. fated f r (part ds ts) os q k ≡ k)
          (sym (here ∙ unlisted_forgotten w ks r ds ts qs os q g h))
          (unlisted_fated f w ks r ds ts qs os q g (i q) h))
    ]) ∙ ap (fated f r (part ds ts) os q) here

pub used_case : (f : ℕ → ℕ) (w : Table) (r : ℕ) (ds ts : List ℕ) (os : List (Option ℕ)) (ended : ℕ → Bool) (q : ℕ) (k : Kind)
    (p : Part) → part ds ts q ≡ Some p →
    part_kind w r (rooted f (fated f r (part ds ts) os q (forgotten r (part ds ts) ended q k))) p ≡ part_kind w r k p
used_case f w r ds ts os ended q k p e =
    ap (λ z. part_kind w r (rooted f z) p) (two_used f r (part ds ts) os ended q k (used_some r (part ds ts) q p e))
    ∙ rooted_part f w r k p

pub unused_case : (f : ℕ → ℕ) (r : ℕ) (parts : ℕ → Option Part) (os : List (Option ℕ)) (ended : ℕ → Bool) (q : ℕ) (k : Kind) →
    ((d : ℕ) → f (f d) ≡ d) → (is_lent_of r k ≡ false → rooted f k ≡ k) → is_used r parts q ≡ false →
    rooted f (fated f r parts os q (forgotten r parts ended q k)) ≡ forget ended (fate (seen_by os q k) r k)
unused_case f r parts os ended q k t h u =
    ap (rooted f) (two_unused f r parts os ended q k u)
    ∙ rooted_forget f ended (fate (root_by f (seen_by os q k)) r k)
    ∙ ap (forget ended) (rooted_fate f (seen_by os q k) r k t h)

-- where a function of numbers that is its own inverse changes the roots in the end
pub passed_is : (f : ℕ → ℕ) (w : Table) (r : ℕ) (ds ts : List ℕ) (os : List (Option ℕ))
    (ks first second last : List Kind) (qs : List ℕ) →
    GathersParts ks r (is_heir w ks r (part ds ts)) ds qs →
    ((q : ℕ) → IsReached ks (is_heir w ks r (part ds ts)) q (seen_at ks os q)) →
    ((d : ℕ) → f (f d) ≡ d) → ((q : ℕ) → is_lent_of r (at ks q) ≡ false → rooted f (at ks q) ≡ at ks q) →
    first ≡ in_turn (forgotten r (part ds ts) (ends w ks r (part ds ts) (length ds) (seen_at ks os))) ks qs →
    second ≡ in_turn (fated f r (part ds ts) os) first qs → last ≡ map (rooted f) second →
    IsPassed w ks r ds ts last
passed_is f w r ds ts os ks first second last qs g reaches t apart a b e = record {
  reached = seen_at ks os;
  reaches = reaches;
  long = ap length e ∙ map_long (rooted f) second ∙ ap length b ∙ in_turn_long (fated f r (part ds ts) os) first qs
      ∙ ap length a
      ∙ in_turn_long (forgotten r (part ds ts) (ends w ks r (part ds ts) (length ds) (seen_at ks os))) ks qs;
  used = λ q l p u. ap (λ z. part_kind w r z p) (ap (λ z. at z q) e ∙ at_map (rooted f) refl second q
      ∙ ap (rooted f) (passed_at f w r ds ts os ks first second qs g reaches a b q l))
      ∙ used_case f w r ds ts os (ends w ks r (part ds ts) (length ds) (seen_at ks os)) q (at ks q) p u;
  unused = λ q l u. ap (λ z. at z q) e ∙ at_map (rooted f) refl second q
      ∙ ap (rooted f) (passed_at f w r ds ts os ks first second qs g reaches a b q l)
      ∙ unused_case f r (part ds ts) os (ends w ks r (part ds ts) (length ds) (seen_at ks os)) q (at ks q) t (apart q) u;
}

-- the number that stands for another until names change

pub stands_twice : (keeper : Option ℕ) (r d : ℕ) → stands_for keeper r (stands_for keeper r d) ≡ d
stands_twice None r d = refl
stands_twice (Some h) r d = swapped_twice r h d

pub stands_apart : (keeper : Option ℕ) (r : ℕ) (k : Kind) → ((h : ℕ) → keeper ≡ Some h → is_lent_of h k ≡ false) →
    is_lent_of r k ≡ false → rooted (stands_for keeper r) k ≡ k
stands_apart None r k h e = rooted_none (λ d. d) (λ d. refl) k
stands_apart (Some x) r k h e = rooted_apart r x k e (h x refl)

-- a register whose word didn't come from the one that owns the cell

unnamed_field : (r i : ℕ) (o : Option From) → names r o ≡ false → is_field r i o ≡ false
unnamed_field r i None e = refl
unnamed_field r i (Some f) e = rw e refl

pub no_heir_by : (w : Table) (r : ℕ) (k : Kind) (o : Option Part) → names r (from_of k) ≡ false →
    is_heir_by w r k o ≡ false
no_heir_by w r k None e = refl
no_heir_by w r k (Some p) e =
    and_none (not (is_scalar_type w p.ty)) (is_field r p.field (from_of k)) (unnamed_field r p.field (from_of k) e)

pub part_field : (o : Option Part) (a b : Part) → o ≡ Some a → o ≡ Some b → a.field ≡ b.field
part_field o a b e f = ap (λ (p : Part). p.field) (part_some a b (sym e ∙ f))
