-- What is kept where a function is entered, and where a label map is taken over.
use Rattle.std.proofs.Common.{◌≡◌, ℕ, zero, suc, ◌+◌, ◌-◌, ◌<◌, ◌≤◌, inl, inr, List, [], ◌∷◌, ◌++◌, length, map, set, take, drop, get_or, refl, sym, ap, ◌∙◌, subst, arith}
use Rattle.std.specs.Prelude.{Bool, true, false, not, ◌&&◌, ◌||◌, ◌==◌, nat_lt, if◌then◌else◌, Option, Some, None, slice_get}
use Rattle.std.proofs.lemmas.Bool.{lt-ltb}
use Rattle.kind_domain.specs.fip_language.Table.{Table}
use Rattle.kind_domain.specs.fip_base.declared.plain.Param.{Param}
use Rattle.kind_domain.specs.cell_code.declared.kind.Kind.{Kind}
use Rattle.kind_domain.specs.cell_code.declared.kind.Kind.TheVariants.{Gone, Scalar, Owned, Lent, Credit}
use Rattle.kind_domain.specs.cell_code.Plain.{LabelMap, PlainFunction}
use Rattle.kind_domain.specs.code_rules.Types.{all, count, is_scalar_type}
use Rattle.kind_domain.specs.code_rules.Kinds.{at, set_of, from_of, is_gone, is_lent_of}
use Rattle.kind_domain.specs.code_rules.Entry.{entry, gones, param_kind}
use Rattle.kind_domain.specs.code_rules.Headers.{is_formed, are_good_maps, are_good_kinds, is_good_kind, is_set, are_rising}
use Rattle.kind_domain.specs.code_rules.Headers.{are_params, are_sizes, are_types}
use Rattle.kind_domain.specs.code_rules.Limits.{most_registers, most_results, most_credits}
use Rattle.kind_domain.specs.Leading.{Lents, Links, leads, names}
use Rattle.kind_domain.specs.Busy.{AreAsked}
use Rattle.register_kinds.specs.Kept.{IsKept, KindsRise}
use Rattle.kind_domain.specs.declared.asked.Asked.{Asked}
use Rattle.kind_domain.specs.declared.label_sets.Origin.{Origin}
use Rattle.kind_domain.specs.LabelSets.{LabelSets, origin_at}
use Rattle.kind_domain.specs.Busy.{busy_in}
use Rattle.kind_domain.specs.Rising.{Rise, RiseFrom}
use Rattle.register_kinds.specs.State.{of_types}
use Rattle.kind_domain.specs.declared.known.Known.{Known}
use Rattle.kind_domain.specs.declared.known.Known.TheVariants as N
use Rattle.kind_domain.specs.Views.{kind_of, kinds_of}
use Rattle.register_kinds.specs.Climbs.{IsWhole, tree_of}
use Rattle.register_kinds.proofs.Climbing.{lent_in}
use Rattle.register_kinds.proofs.Keeps.{unled}
use Rattle.kind_domain.proofs.Subsets.{numbers_rise}
use Rattle.kind_domain.proofs.fip_language.Facts.{both_left as and_left, both_right as and_right, less_or_not as below_or, same_number}
use Rattle.kind_domain.proofs.AskedMaps.{some_map as some_is}
use Rattle.kind_domain.proofs.Places.{set_same}

-- lists that grow or are replaced

pub gones_step : (ks : List Known) (n i : ℕ) → i < n →
    kinds_of (ks ++ N.Gone ∷ []) ++ gones (n - (i + 1)) ≡ kinds_of ks ++ gones (n - i)
gones_step [] n i h = let e : suc (n - (i + 1)) ≡ n - i = (omega arith) in ap gones e
gones_step (k ∷ ks) n i h = ap (λ r. kind_of k ∷ r) (gones_step ks n i h)

gone_is : (k : Kind) → is_gone k ≡ true → k ≡ Gone
gone_is Gone h = refl
gone_is (Scalar t) h = absurd (cc)
gone_is (Owned t s) h = absurd (cc)
gone_is (Lent t s root from) h = absurd (cc)
gone_is (Credit k) h = absurd (cc)

pub set_gone : (ks : List Kind) (r : ℕ) (k : Kind) → is_gone k ≡ true → is_gone (at ks r) ≡ true → ks ≡ set ks r k
set_gone ks r k h g = sym (set_same ks r) ∙ ap (λ k. set ks r k) (gone_is (at ks r) g ∙ sym (gone_is k h))

pub set_next : (ms ks : List Kind) (i : ℕ) (k d : Kind) → i < length ms → length ms ≡ length ks →
    k ≡ get_or ms i d → set (take i ms ++ drop i ks) i k ≡ take (i + 1) ms ++ drop (i + 1) ks
set_next [] ks i k d h l e = absurd (omega arith)
set_next (m ∷ ms) [] i k d h l e = absurd (omega arith)
set_next (m ∷ ms) (x ∷ ks) zero k d h l e = ap (λ z. z ∷ ks) e
set_next (m ∷ ms) (x ∷ ks) (suc i) k d h l e =
    let n : suc (i + 1) ≡ suc i + 1 = (omega arith) in
    ap (λ r. m ∷ r) (set_next ms ks i k d (omega arith) (omega arith) e)
    ∙ ap (λ z. take z (m ∷ ms) ++ drop z (x ∷ ks)) n

-- the form of a function

not_below : (r n : ℕ) → not (nat_lt r n) ≡ true → n ≤ r
not_below r n e =
    elim (below_or r n) [
      | inl h ↦ absurd (let g = ap not (lt-ltb r n h) in cc)
      | inr h ↦ h
    ]

rising_rises : (n low : ℕ) (s : List ℕ) → are_rising n low s ≡ true → RiseFrom low s
rising_rises n low [] e = tt
rising_rises n low (x ∷ s) e = (
  not_below x low (and_left (not (nat_lt x low)) (nat_lt x n && are_rising n (suc x) s) e),
  rising_rises n (suc x) s (and_right (nat_lt x n) (are_rising n (suc x) s)
      (and_right (not (nat_lt x low)) (nat_lt x n && are_rising n (suc x) s) e)),
)

set_rises : (w : Table) (t : ℕ) (s : List ℕ) → is_set w t s ≡ true → Rise s
set_rises w t s e = rising_rises (count w t) 0 s (and_right (not (length s == 0)) (are_rising (count w t) 0 s) e)

good_rises : (w : Table) (ms : List Kind) (j : ℕ) (k : Kind) → is_good_kind w ms j k ≡ true → Rise (set_of k)
good_rises w ms j Gone e = tt
good_rises w ms j (Scalar t) e = tt
good_rises w ms j (Owned t s) e = set_rises w t s e
good_rises w ms j (Lent t s root from) e = set_rises w t s (and_left (is_set w t s) _ e)
good_rises w ms j (Credit n) e = tt

kinds_rise : (w : Table) (ms : List Kind) (j : ℕ) (ks : List Kind) → are_good_kinds w ms j ks ≡ true → KindsRise ks
kinds_rise w ms j [] e q = tt
kinds_rise w ms j (k ∷ ks) e zero =
    good_rises w ms j k (and_left (is_good_kind w ms j k) (are_good_kinds w ms (suc j) ks) e)
kinds_rise w ms j (k ∷ ks) e (suc q) =
    kinds_rise w ms (suc j) ks (and_right (is_good_kind w ms j k) (are_good_kinds w ms (suc j) ks) e) q

-- of a map that has its form among others
record IsGoodMap (w : Table) (n : ℕ) (m : LabelMap) : Type 0 where
  pub long : length m.kinds ≡ n
  pub rise : KindsRise m.kinds

good_map : (w : Table) (f : PlainFunction) (low : ℕ) (ms : List LabelMap) → are_good_maps w f low ms ≡ true →
    (l : ℕ) (m : LabelMap) → slice_get ms l ≡ Some m → IsGoodMap w f.registers m
good_map w f low [] e l m g = absurd (cc)
good_map w f low (x ∷ ms) e zero m g =
    let a = and_right (nat_lt low x.at) _ e in
    let b = and_right (nat_lt x.at (length f.instrs)) _ a in
    let long = same_number (length x.kinds) f.registers (and_left (length x.kinds == f.registers) _ b) in
    let d = and_right (length x.kinds == f.registers) _ b in
    let rise = kinds_rise w x.kinds 0 x.kinds (and_left (are_good_kinds w x.kinds 0 x.kinds) _ d) in
    subst (IsGoodMap w f.registers) (some_is x m g) (record { long = long; rise = rise })
good_map w f low (x ∷ ms) e (suc l) m g =
    let a = and_right (nat_lt low x.at) _ e in
    let b = and_right (nat_lt x.at (length f.instrs)) _ a in
    let d = and_right (length x.kinds == f.registers) _ b in
    good_map w f x.at ms (and_right (are_good_kinds w x.kinds 0 x.kinds) (are_good_maps w f x.at ms) d) l m g

formed_room : (w : Table) (f : PlainFunction) → is_formed (of_types w) f ≡ true →
    length f.params + length f.credits ≤ f.registers
formed_room w f e =
    not_below f.registers (length f.params + length f.credits)
    (and_left (not (nat_lt f.registers (length f.params + length f.credits))) _
    (and_right (not (length f.instrs == 0)) _ e))

last_of : (a b d e f g h i j k : Bool) → (a && (b && (d && (e && (f && (g && (h && (i && (j && k))))))))) ≡ true →
    k ≡ true
last_of a b d e f g h i j k x =
    and_right j k (and_right i (j && k) (and_right h (i && (j && k)) (and_right g (h && (i && (j && k)))
    (and_right f (g && (h && (i && (j && k)))) (and_right e (f && (g && (h && (i && (j && k)))))
    (and_right d (e && (f && (g && (h && (i && (j && k))))))
    (and_right b (d && (e && (f && (g && (h && (i && (j && k)))))))
    (and_right a (b && (d && (e && (f && (g && (h && (i && (j && k)))))))) x))))))))

formed_maps : (w : Table) (f : PlainFunction) → is_formed (of_types w) f ≡ true →
    are_good_maps w f 0 f.labels ≡ true
formed_maps w f e =
    last_of (not (length f.instrs == 0)) (not (nat_lt f.registers (length f.params + length f.credits)))
    (nat_lt f.registers (suc most_registers)) (not (length f.results == 0))
    (nat_lt (length f.results) (suc most_results)) (nat_lt (length f.credits) (suc most_credits))
    (are_params w f.params) (are_sizes f.credits) (are_types w f.results) (are_good_maps w f 0 f.labels) e

-- the kinds at the entry

record IsFresh (k : Kind) : Type 0 where
  pub rise : Rise (set_of k)
  pub from : from_of k ≡ None
  pub root : (o : ℕ) → is_lent_of o k ≡ false

fresh_if : (w : Table) (p : Param) (a b : Bool) →
    IsFresh (if a then Scalar p.ty else (if b then Lent p.ty (all w p.ty) None None else Owned p.ty (all w p.ty)))
fresh_if w p true b = record { rise = tt; from = refl; root = λ o. refl }
fresh_if w p false true = record { rise = numbers_rise 0 (count w p.ty); from = refl; root = λ o. refl }
fresh_if w p false false = record { rise = numbers_rise 0 (count w p.ty); from = refl; root = λ o. refl }

fresh_params : (w : Table) (ps : List Param) (q : ℕ) → IsFresh (at (map (param_kind w) ps) q)
fresh_params w [] q = record { rise = tt; from = refl; root = λ o. refl }
fresh_params w (p ∷ ps) zero = fresh_if w p (is_scalar_type w p.ty) p.lent
fresh_params w (p ∷ ps) (suc q) = fresh_params w ps q

fresh_gone : IsFresh Gone
fresh_gone = record { rise = tt; from = refl; root = λ o. refl }

fresh_credits : (ns : List ℕ) (q : ℕ) → IsFresh (at (map Credit ns) q)
fresh_credits [] q = fresh_gone
fresh_credits (n ∷ ns) zero = record { rise = tt; from = refl; root = λ o. refl }
fresh_credits (n ∷ ns) (suc q) = fresh_credits ns q

fresh_gones : (n q : ℕ) → IsFresh (at (gones n) q)
fresh_gones zero q = fresh_gone
fresh_gones (suc n) zero = fresh_gone
fresh_gones (suc n) (suc q) = fresh_gones n q

either_part : (P : Kind → Type 0) (xs ys : List Kind) → ((q : ℕ) → P (at xs q)) → ((q : ℕ) → P (at ys q)) → (q : ℕ) →
    P (at (xs ++ ys) q)
either_part P [] ys h g q = g q
either_part P (x ∷ xs) ys h g zero = h zero
either_part P (x ∷ xs) ys h g (suc q) = either_part P xs ys (λ p. h (suc p)) g q

append_long : (xs ys : List Kind) → length (xs ++ ys) ≡ length xs + length ys
append_long [] ys = omega arith
append_long (x ∷ xs) ys = let h = append_long xs ys in omega arith

append_more : (xs ys zs : List Kind) → (xs ++ ys) ++ zs ≡ xs ++ (ys ++ zs)
append_more [] ys zs = refl
append_more (x ∷ xs) ys zs = ap (λ r. x ∷ r) (append_more xs ys zs)

params_long : (w : Table) (ps : List Param) → length (map (param_kind w) ps) ≡ length ps
params_long w [] = refl
params_long w (p ∷ ps) = ap suc (params_long w ps)

credits_long : (ns : List ℕ) → length (map Credit ns) ≡ length ns
credits_long [] = refl
credits_long (n ∷ ns) = ap suc (credits_long ns)

gones_long : (n : ℕ) → length (gones n) ≡ n
gones_long zero = refl
gones_long (suc n) = ap suc (gones_long n)

-- what follows the parameters
abbrev after_params : PlainFunction → List Kind
after_params f = map Credit f.credits ++ gones (f.registers - (length f.params + length f.credits))

fresh_after : (f : PlainFunction) (q : ℕ) → IsFresh (at (after_params f) q)
fresh_after f q =
    either_part IsFresh (map Credit f.credits) (gones (f.registers - (length f.params + length f.credits)))
    (fresh_credits f.credits) (fresh_gones (f.registers - (length f.params + length f.credits))) q

entry_is : (w : Table) (f : PlainFunction) → entry (of_types w) f ≡ map (param_kind w) f.params ++ after_params f
entry_is w f =
    append_more (map (param_kind w) f.params) (map Credit f.credits)
    (gones (f.registers - (length f.params + length f.credits)))

after_long : (f : PlainFunction) → length f.params + length f.credits ≤ f.registers →
    length f.params + length (after_params f) ≡ f.registers
after_long f h =
    let a = append_long (map Credit f.credits) (gones (f.registers - (length f.params + length f.credits))) in
    let b = credits_long f.credits in
    let d = gones_long (f.registers - (length f.params + length f.credits)) in
    omega arith

entry_long : (w : Table) (f : PlainFunction) (ks : List Kind) → is_formed (of_types w) f ≡ true →
    ks ≡ map (param_kind w) f.params ++ after_params f → length ks ≡ f.registers
entry_long w f ks e h =
    let a = ap length h in
    let b = append_long (map (param_kind w) f.params) (after_params f) in
    let d = params_long w f.params in
    let g = after_long f (formed_room w f e) in
    omega arith

entry_fresh : (w : Table) (f : PlainFunction) (ks : List Kind) →
    ks ≡ map (param_kind w) f.params ++ after_params f → (q : ℕ) → IsFresh (at ks q)
entry_fresh w f ks h q =
    subst (λ z. IsFresh (at z q)) (sym h)
    (either_part IsFresh (map (param_kind w) f.params) (after_params f) (fresh_params w f.params)
    (fresh_after f) q)

fresh_leads : (r : ℕ) (k : Kind) → IsFresh k → leads r k ≡ false
fresh_leads r k h = ap (λ o. names r o || is_lent_of r k) h.from ∙ h.root r

-- as many kinds as registers
pub entered_long : (w : Table) (f : PlainFunction) (ks : List Kind) → is_formed (of_types w) f ≡ true →
    ks ≡ entry (of_types w) f → length ks ≡ f.registers
entered_long w f ks e i = entry_long w f ks e (i ∙ entry_is w f)

-- What is fresh has neither root nor from, so all trees are whole.
whole_fresh : (ks : List Kind) (r : ℕ) → ((q : ℕ) → IsFresh (at ks q)) → IsWhole ks r
whole_fresh ks r h = record {
  held = λ q l. absurd (let y = (h q).root r in let z = lent_in r (at ks q) in cc);
  closed = λ q e. absurd (let z = ap (tree_of ks) (h q).from in cc);
}

pub entered : (w : Table) (f : PlainFunction) (ks : List Kind) (lents : Lents) (below trees loose : Links)
    (held : Option (List Bool)) (since : List (Option (List ℕ))) (busy : ℕ) (asked : List Asked) (sets : LabelSets) →
    is_formed (of_types w) f ≡ true →
    ks ≡ entry (of_types w) f → f.registers < 65536 → lents.room ≡ f.registers →
    ((l : ℕ) (xs : List ℕ) → slice_get since l ≡ Some (Some xs) → ⊥) → busy ≡ busy_in ks → AreAsked f.labels asked →
    sets.maps ≡ f.labels → ((q : ℕ) (o : Origin) → origin_at sets.origins q ≡ Some o → ⊥) →
    IsKept ks f.labels lents below trees loose held since busy asked sets
entered w f ks lents below trees loose held since busy asked sets e i small room none count asks maps unknown =
    let h = i ∙ entry_is w f in
    let long = entry_long w f ks e h in
    let fresh = entry_fresh w f ks h in
    let good = good_map w f 0 f.labels (formed_maps w f e) in
    record {
      rise = λ q. (fresh q).rise;
      are_maps = record {
        long = λ l m g. (good l m g).long ∙ sym long;
        rise = λ l m g. (good l m g).rise;
      };
      few = (omega arith);
      room = room ∙ sym long;
      sources = λ r q g. absurd (let y = (unled r (at ks q) (fresh_leads r (at ks q) (fresh q))).0 in cc);
      lends = λ r q g. absurd (let y = (fresh q).root r in cc);
      loosened = λ r q g i. absurd (let y = (fresh q).root r in cc);
      holds = λ torn e r g. whole_fresh ks r fresh;
      sees = λ l m xs a b. absurd (none l xs b);
      counted = count;
      asks = asks;
      set_maps = maps;
      origins = λ q o x. absurd (unknown q o x);
    }
