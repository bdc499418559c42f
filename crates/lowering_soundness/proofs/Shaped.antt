-- The kinds that labels report have types that are there, sets that rise and aren't empty, and credits of the sizes of
-- cells; and a map is formed where this is so and its roots and froms are right.
use Rattle.std.proofs.Common.{◌≡◌, inl, inr, ℕ, zero, suc, ◌+◌, ◌<◌, ◌≤◌, Bool, true, false, ◌&&◌, not, List, [], ◌∷◌, length, Option, Some, None, refl, sym, ap, ◌∙◌, subst, arith, if◌then◌else◌, ◌==◌, nat_lt}
use Rattle.separation.specs.fip_language.Table.{Table}
use Rattle.separation.specs.cell_code.declared.kind.From.{From}
use Rattle.separation.specs.cell_code.declared.kind.Kind.{Kind}
use Rattle.separation.specs.cell_code.declared.kind.Kind.TheVariants as K
use Rattle.separation.specs.cell_code.Plain.{LabelMap, PlainFunction, PlainCode}
use Rattle.separation.specs.code_rules.Codes.{label_at}
use Rattle.separation.specs.code_rules.Headers.{is_size, are_rising, is_set, is_good_root, is_good_from, is_good_kind, are_good_kinds}
use Rattle.separation.specs.code_rules.Types.{is_type, is_scalar_type, numbers, count, all}
use Rattle.separation.specs.code_rules.Kinds.{at as kind_at, has, same_root, root_of}
use Rattle.separation.specs.code_rules.Asked.{known_fields}
use Rattle.separation.proofs.separation_kinds.Basics.{both, pick, or_not, equal, unequal, unequal_is, below_is, length_numbers}
use Rattle.lowering_relation.specs.match_knowledge.Known as M
use Rattle.lowering_relation.specs.match_knowledge.Known.{Open, Is}
use Rattle.lowering_relation.specs.Spots.{register, below}
use Rattle.lowering_relation.specs.Entering as E
use Rattle.lowering_relation.specs.declared.held.Held.{Held}
use Rattle.lowering_relation.specs.declared.held.Held.TheVariants as H
use Rattle.lowering_relation.specs.Known.{Known}
use Rattle.lowering_relation.specs.Describing.{Holding, held_at, set_of, kind_of}
use Rattle.lowering_relation.specs.Labels.{reported}
use Rattle.lowering_relation.specs.Standing.{is_open, are_open, AreOpen}
use Rattle.lowering_relation.specs.Sights.{kept, not_in, is_tag, left, seen_kind, Sight}
use Rattle.lowering_relation.specs.Tests.{Choice}
use Rattle.lowering_soundness.proofs.Choosing.{Right}
use Rattle.lowering_soundness.proofs.Formed.{IsFormed, Formed, at_formed}
use Rattle.lowering_soundness.proofs.Giving.{and_to}
use Rattle.lowering_soundness.proofs.Heirs.{has_among, not_among}
use Rattle.lowering_soundness.proofs.Linked.{RootIs, FromIs, LinkIs, Linked, Seat, sight_seat}
use Rattle.tail_groups.proofs.fip_language.Facts.{not_below, positive_not_zero as some_there}

abbrev pub IsShaped : Table → Kind → Type 0
IsShaped w K.Gone = Unit {0}
IsShaped w (K.Scalar t) = is_type w t ≡ true
IsShaped w (K.Owned t s) = is_set w t s ≡ true
IsShaped w (K.Lent t s root from) = is_set w t s ≡ true
IsShaped w (K.Credit n) = is_size n ≡ true

-- ---- sets

kept_rising : (p : ℕ → Bool) (n low i m : ℕ) → low ≤ i → i + m ≤ n → are_rising n low (kept p (numbers i m)) ≡ true
kept_rising p n low i zero le room = refl
kept_rising p n low i (suc m) le room =
    pick (λ xs. are_rising n low xs ≡ true) (p i) (i ∷ kept p (numbers (suc i) m)) (kept p (numbers (suc i) m))
    (λ e. and_to (not (nat_lt i low)) (nat_lt i n && are_rising n (suc i) (kept p (numbers (suc i) m))) (not_below i low le)
    (and_to (nat_lt i n) (are_rising n (suc i) (kept p (numbers (suc i) m))) (below_is i n (omega (arith, room))) (kept_rising p n (suc i) (suc i) m (omega arith) (omega (arith, room)))))
    (λ e. kept_rising p n low (suc i) m (omega (arith, le)) (omega (arith, room)))

numbers_rising : (n low i m : ℕ) → low ≤ i → i + m ≤ n → are_rising n low (numbers i m) ≡ true
numbers_rising n low i zero le room = refl
numbers_rising n low i (suc m) le room =
    and_to (not (nat_lt i low)) (nat_lt i n && are_rising n (suc i) (numbers (suc i) m)) (not_below i low le)
    (and_to (nat_lt i n) (are_rising n (suc i) (numbers (suc i) m)) (below_is i n (omega (arith, room))) (numbers_rising n (suc i) (suc i) m (omega arith) (omega (arith, room))))

all_set : (w : Table) (t : ℕ) → 0 < count w t → is_set w t (all w t) ≡ true
all_set w t some =
    and_to (not (length (all w t) == 0)) (are_rising (count w t) 0 (all w t)) (some_there (length (all w t)) (let e = length_numbers 0 (count w t) in omega (arith, e, some)))
    (numbers_rising (count w t) 0 0 (count w t) (omega arith) (omega arith))

one_set : (w : Table) (t d : ℕ) → d < count w t → is_set w t (d ∷ []) ≡ true
one_set w t d low =
    and_to (not (nat_lt d 0)) (nat_lt d (count w t) && true) (not_below d 0 (omega arith)) (and_to (nat_lt d (count w t)) true (below_is d (count w t) low) refl)

left_rising : (w : Table) (t : ℕ) (κ : M.Known) → are_rising (count w t) 0 (left w t κ) ≡ true
left_rising w t (Open out) = kept_rising (not_in out) (count w t) 0 0 (count w t) (omega arith) (omega arith)
left_rising w t (Is h ks) = kept_rising (is_tag h) (count w t) 0 0 (count w t) (omega arith) (omega arith)

left_set : (w : Table) (t : ℕ) (κ : M.Known) → not (length (left w t κ) == 0) ≡ true → is_set w t (left w t κ) ≡ true
left_set w t κ some = and_to (not (length (left w t κ) == 0)) (are_rising (count w t) 0 (left w t κ)) some (left_rising w t κ)

-- ---- what is known of registers

owned_shaped : (w : Table) (t : ℕ) (b : Option ℕ) → IsFormed w (H.Owned t b) → is_set w t (set_of w t b) ≡ true
owned_shaped w t None f = all_set w t f
owned_shaped w t (Some d) f = one_set w t d f

kind_shaped : (w : Table) (h : Held) → IsFormed w h → IsShaped w (kind_of w h)
kind_shaped w H.Nothing f = tt
kind_shaped w (H.Scalar t) f = f
kind_shaped w (H.Owned t b) f = owned_shaped w t b f
kind_shaped w (H.Lent t root) f = all_set w t f
kind_shaped w (H.Credit n) f = f
kind_shaped w (H.Bare t d) f = one_set w t d f

pub reported_shaped : (c : PlainCode) (k : Known) → Formed c.types k.held → (r : ℕ) → IsShaped c.types (reported c k r)
reported_shaped c k f r = kind_shaped c.types (held_at k.held r) (at_formed c.types k.held r f)

-- ---- what is reported while a clause is chosen

seen_shaped : (w : Table) (t : ℕ) (h : Held) (κ : M.Known) → IsFormed w h → is_open (seen_kind w t h κ) ≡ true → IsShaped w (seen_kind w t h κ)
seen_shaped w t H.Nothing κ f open' = tt
seen_shaped w t (H.Scalar u) κ f open' = f
seen_shaped w t (H.Owned u b) κ f open' = left_set w t κ open'
seen_shaped w t (H.Lent u root) κ f open' = left_set w t κ open'
seen_shaped w t (H.Credit n) κ f open' = f
seen_shaped w t (H.Bare u d) κ f open' = one_set w u d f

scalar_there : (w : Table) (t : ℕ) → is_scalar_type w t ≡ true → is_type w t ≡ true
scalar_there w t e = (both (is_type w t) (Rattle.separation.specs.fip_language.Table.is_scalar w t) e).0

part_shaped : (w : Table) (root : Option ℕ) (t : ℕ) (κ : M.Known) (r i : ℕ) → is_open (Rattle.lowering_relation.specs.Sights.part_kind w root t κ r i) ≡ true → IsShaped w (Rattle.lowering_relation.specs.Sights.part_kind w root t κ r i)
part_shaped w root t κ r i = by (is_scalar_type w t) refl
  where
    own : Kind
    own = K.Lent t (left w t κ) root (Some (record { register = r; field = i }))

    by : (b : Bool) → is_scalar_type w t ≡ b → is_open (if b then K.Scalar t else own) ≡ true → IsShaped w (if b then K.Scalar t else own)
    by true e open' = scalar_there w t e
    by false e open' = left_set w t κ open'

seat_shaped : (w : Table) (m : ℕ → Kind) (root : Option ℕ) (read : List ℕ) (z : ℕ) → Seat w m root read z → is_open (m z) ≡ true → IsShaped w (m z)
seat_shaped w m root read z (inl e) open' = subst (IsShaped w) (sym e) tt
seat_shaped w m root read z (inr h) open' = subst (IsShaped w) (sym h.is) (part_shaped w root h.type h.known h.cell h.place (sym (ap is_open h.is) ∙ open'))

pub sight_shaped : (c : PlainCode) (f : PlainFunction) (g : Holding) (ch : Choice) (right : Right c f g ch) (κ : M.Known) (read : List ℕ) (m : ℕ → Kind) → Sight c.types g ch.type ch.root κ read m → ((r : ℕ) → IsFormed c.types (g r)) → ((r : ℕ) → is_open (m r) ≡ true) → (j : ℕ) → IsShaped c.types (m j)
sight_shaped c f g ch right κ read m sight formed opens j = elim (or_not (j == register ch.root)) as (λ v. IsShaped c.types (m j)) [
  | inl e ↦ subst (λ z. IsShaped c.types (m z)) (sym (equal j (register ch.root) e))
      (subst (IsShaped c.types) (sym sight.root) (seen_shaped c.types ch.type (g (register ch.root)) κ (formed (register ch.root)) (sym (ap is_open sight.root) ∙ opens (register ch.root))))
  | inr e ↦ elim (or_not (has (below ch.root) j)) as (λ v. IsShaped c.types (m j)) [
    | inl a ↦ seat_shaped c.types m (E.root_of (register ch.root) (g (register ch.root))) read j (sight_seat c f g ch right κ read m sight j (has_among (below ch.root) j a)) (opens j)
    | inr a ↦ subst (IsShaped c.types) (sym (sight.others j (unequal j (register ch.root) e) (not_among (below ch.root) j a))) (kind_shaped c.types (g j) (formed j))
  ]
]

-- ---- maps

-- a map of n registers whose kinds are formed
pub record IsRight (w : Table) (n : ℕ) (map : List Kind) : Type 0 where
  pub wide : length map ≡ n
  pub linked : Linked w (kind_at map)
  pub shaped : (r : ℕ) → IsShaped w (kind_at map r)

good_root : (ms : List Kind) (root : Option ℕ) → RootIs (kind_at ms) root → is_good_root ms root ≡ true
good_root ms None h = refl
good_root ms (Some q) h = h

good_from : (w : Table) (ms : List Kind) (j : ℕ) (root : Option ℕ) (from : Option From) → FromIs w (kind_at ms) j root from → is_good_from w ms j root from ≡ true
good_from w ms j root None h = refl
good_from w ms j root (Some g) h =
    and_to (not (g.register == j)) (same_root (root_of g.register (kind_at ms g.register)) root && nat_lt g.field (length (known_fields w (kind_at ms g.register)))) (ap not h.0)
    (and_to (same_root (root_of g.register (kind_at ms g.register)) root) (nat_lt g.field (length (known_fields w (kind_at ms g.register)))) h.1 h.2)

good_kind : (w : Table) (ms : List Kind) (j : ℕ) (k : Kind) → IsShaped w k → LinkIs w (kind_at ms) j k → is_good_kind w ms j k ≡ true
good_kind w ms j K.Gone s l = refl
good_kind w ms j (K.Scalar t) s l = s
good_kind w ms j (K.Owned t cs) s l = s
good_kind w ms j (K.Lent t cs root from) s l =
    and_to (is_set w t cs) (is_good_root ms root && is_good_from w ms j root from) s
    (and_to (is_good_root ms root) (is_good_from w ms j root from) (good_root ms root l.0) (good_from w ms j root from l.1))
good_kind w ms j (K.Credit n) s l = s

good_kinds : (w : Table) (n : ℕ) (ms : List Kind) → IsRight w n ms → (j : ℕ) (ks : List Kind) → ((i : ℕ) → kind_at ks i ≡ kind_at ms (j + i)) → are_good_kinds w ms j ks ≡ true
good_kinds w n ms right j [] same = refl
good_kinds w n ms right j (k ∷ ks) same =
    let zero' : j + 0 ≡ j = omega arith in
    let here : k ≡ kind_at ms j = same 0 ∙ ap (kind_at ms) zero' in
    and_to (is_good_kind w ms j k) (are_good_kinds w ms (suc j) ks)
    (good_kind w ms j k (subst (IsShaped w) (sym here) (right.shaped j)) (subst (LinkIs w (kind_at ms) j) (sym here) (right.linked.each j)))
    (good_kinds w n ms right (suc j) ks (λ i. same (suc i) ∙ (let e : j + suc i ≡ suc j + i = omega arith in ap (kind_at ms) e)))

pub right_good : (w : Table) (n : ℕ) (map : List Kind) → IsRight w n map → are_good_kinds w map 0 map ≡ true
right_good w n map right = good_kinds w n map right 0 map (λ i. (let e : i ≡ 0 + i = omega arith in ap (kind_at map) e))

-- ---- no map reports of a tree that it has no constructor

open_kinds : (ks : List Kind) (r : ℕ) → are_open ks ≡ true → is_open (kind_at ks r) ≡ true
open_kinds [] r h = refl
open_kinds (k ∷ ks) zero h = (both (is_open k) (are_open ks) h).0
open_kinds (k ∷ ks) (suc r) h = open_kinds ks r (both (is_open k) (are_open ks) h).1

pub label_open : (ms : List LabelMap) (p : ℕ) (map : List Kind) → AreOpen ms → label_at ms p ≡ Some map → (r : ℕ) → is_open (kind_at map r) ≡ true
label_open [] p map h there r = absurd (Rattle.std.proofs.lemmas.Option.none-some map there)
label_open (m ∷ ms) p map h there r = by (m.at == p) there (λ e. label_open ms p map h.1 e r)
  where
    by : (b : Bool) → (if b then Some m.kinds else label_at ms p) ≡ Some map → (label_at ms p ≡ Some map → is_open (kind_at map r) ≡ true) → is_open (kind_at map r) ≡ true
    by true e rest = subst (λ map. is_open (kind_at map r) ≡ true) (Rattle.std.proofs.lemmas.Option.same_Some m.kinds map e) (open_kinds m.kinds r h.0)
    by false e rest = rest e
