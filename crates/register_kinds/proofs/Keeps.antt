-- What is kept beside the kinds goes on to hold as one register changes.
use Rattle.std.proofs.Common.{◌≡◌, ℕ, zero, suc, ◌+◌, ◌<◌, ◌⊎◌, List, [], ◌∷◌, length, map, set, refl, sym, ap, ◌∙◌, subst, inl, inr}
use Rattle.std.specs.Prelude.{Bool, true, false, Option, Some, None, slice_get, ◌==◌}
use Rattle.std.proofs.lemmas.Bool.{eq-eqb}
use Rattle.std.proofs.lemmas.Bool.Decides.{eqb_tells}
use Rattle.kind_domain.specs.cell_code.declared.kind.From.{From}
use Rattle.kind_domain.specs.cell_code.declared.kind.Kind.{Kind}
use Rattle.kind_domain.specs.cell_code.Plain.{LabelMap}
use Rattle.kind_domain.specs.code_rules.Kinds.{at, has, set_of, from_of, is_free, is_lent_of}
use Rattle.kind_domain.specs.code_rules.Fitting.{fits}
use Rattle.kind_domain.specs.Leading.{Lents, Links, Linked, Gathers, leads, names}
use Rattle.register_kinds.specs.Kept.{IsKept, AreSeen, AreMaps}
use Rattle.kind_domain.specs.declared.asked.Asked.{Asked}
use Rattle.kind_domain.specs.Busy.{busy_in, held}
use Rattle.kind_domain.specs.declared.label_sets.Origin.{Origin}
use Rattle.kind_domain.specs.LabelSets.{LabelSets, set_at}
use Rattle.register_kinds.specs.Climbs.{AreKnown}
use Rattle.kind_domain.specs.Rising.{Rise}
use Rattle.kind_domain.specs.Sights.{HasBefore}
use Rattle.kind_domain.specs.Owners.{rooted, swapped}
use Rattle.kind_domain.proofs.Naming.{free_all, lent_swapped, rooted_from, rooted_set}
use Rattle.kind_domain.proofs.Places.{at_map, at_set_other, map_long, set_long}
use Rattle.register_kinds.proofs.Changed.{not_true}
use Rattle.kind_domain.proofs.SetsCompared.{origins_one}
use Rattle.kind_domain.proofs.fip_language.Facts.{or_false_both as or_neither, or_first, or_last as or_second}
pub use Rattle.kind_domain.proofs.fip_language.Facts.{or_cases}

-- a change of register d, seen at each place
pub either : (P : ℕ → Kind → Type 0) (ks : List Kind) (d : ℕ) (k : Kind) → ((q : ℕ) → P q (at ks q)) → P d k →
    (q : ℕ) → P q (at (set ks d k) q)
either P [] d k h g q = h q
either P (x ∷ ks) zero k h g zero = g
either P (x ∷ ks) zero k h g (suc q) = h (suc q)
either P (x ∷ ks) (suc d) k h g zero = h zero
either P (x ∷ ks) (suc d) k h g (suc q) = either (λ p. P (suc p)) ks d k (λ p. h (suc p)) g q

sees_one : (ks : List Kind) (maps : List LabelMap) (since after : List (Option (List ℕ))) (d : ℕ) (k : Kind) →
    AreSeen ks maps since → ((l : ℕ) (xs : List ℕ) → slice_get after l ≡ Some (Some xs) → HasBefore since l xs d) →
    AreSeen (set ks d k) maps after
sees_one ks maps since after d k h g l m xs a b q e =
    let before = g l xs b in
    ap (fits (at m.kinds q)) (at_set_other ks d q k (λ i. let n = ap (has xs) i in let y = before.new in cc))
    ∙ h l m before.before a before.is q (not_true (has before.before q) (has xs q) (before.more q) e)

pub keeps_one : (ks : List Kind) (maps : List LabelMap) (lents : Lents) (below below2 trees trees2 loose loose2 : Links)
    (held : Option (List Bool)) (since after : List (Option (List ℕ))) (busy busy2 : ℕ) (asked : List Asked) (sets sets2 : LabelSets) (d : ℕ)
    (k : Kind) (o : Option Origin) →
    IsKept ks maps lents below trees loose held since busy asked sets → Rise (set_of k) → busy2 ≡ busy_in (set ks d k) →
    ((r q : ℕ) → Linked below r q → Linked below2 r q) → ((r : ℕ) → names r (from_of k) ≡ true → Linked below2 r d) →
    ((r q : ℕ) → Linked trees r q → Linked trees2 r q) → ((r : ℕ) → is_lent_of r k ≡ true → Linked trees2 r d) →
    ((r q : ℕ) → Linked loose r q → Linked loose2 r q) →
    ((r : ℕ) → is_lent_of r k ≡ true → from_of k ≡ None → Linked loose2 r d) →
    ((l : ℕ) (xs : List ℕ) → slice_get after l ≡ Some (Some xs) → HasBefore since l xs d) → d < length ks →
    sets2.maps ≡ sets.maps → sets2.origins ≡ set sets.origins d o →
    ((p : Origin) → o ≡ Some p → set_of k ≡ set_at maps p) →
    IsKept (set ks d k) maps lents below2 trees2 loose2 None after busy2 asked sets2
keeps_one ks maps lents below below2 trees trees2 loose loose2 held since after busy busy2 asked sets sets2 d k o h r count keeps own stays root loosens free log l m e g =
    record {
      rise = either (λ q x. Rise (set_of x)) ks d k h.rise r;
      are_maps = subst (λ n. AreMaps n maps) (sym (set_long ks d k)) h.are_maps;
      few = subst (λ n. n < 65536) (sym (set_long ks d k)) h.few;
      room = h.room ∙ sym (set_long ks d k);
      sources = λ x. either (λ q z. names x (from_of z) ≡ true → Linked below2 x q) ks d k
          (λ q e. keeps x q (h.sources x q e)) (own x);
      lends = λ x. either (λ q z. is_lent_of x z ≡ true → Linked trees2 x q) ks d k
          (λ q e. stays x q (h.lends x q e)) (root x);
      loosened = λ x. either (λ q z. is_lent_of x z ≡ true → from_of z ≡ None → Linked loose2 x q) ks d k
          (λ q e f. loosens x q (h.loosened x q e f)) (free x);
      holds = λ torn f. absurd (cc);
      sees = sees_one ks maps since after d k h.sees log;
      counted = count;
      asks = h.asks;
      set_maps = m ∙ h.set_maps;
      origins = origins_one ks sets sets2 d k o l h.origins m e
          (λ p f. g p f ∙ ap (λ ms. set_at ms p) (sym h.set_maps));
    }

pub keeps_listed : (ks : List Kind) (maps : List LabelMap) (lents more : Lents) (below trees loose : Links)
    (held : Option (List Bool)) (since : List (Option (List ℕ))) (busy : ℕ) (asked : List Asked) (sets : LabelSets) →
    IsKept ks maps lents below trees loose held since busy asked sets → more.room ≡ lents.room →
    IsKept ks maps more below trees loose held since busy asked sets
keeps_listed ks maps lents more below trees loose held since busy asked sets h e = record {
  rise = h.rise;
  are_maps = h.are_maps;
  few = h.few;
  room = e ∙ h.room;
  sources = h.sources;
  lends = h.lends;
  loosened = h.loosened;
  holds = h.holds;
  sees = h.sees;
  counted = h.counted;
  asks = h.asks;
  set_maps = h.set_maps;
  origins = h.origins;
}

-- a register that leads to another

pub lent_leads : (r : ℕ) (k : Kind) → is_lent_of r k ≡ true → leads r k ≡ true
lent_leads r k e = or_second (names r (from_of k)) (is_lent_of r k) e

pub from_leads : (k : Kind) (f : From) → from_of k ≡ Some f → leads f.register k ≡ true
from_leads k f e =
    or_first (names f.register (from_of k)) (is_lent_of f.register k)
    (ap (names f.register) e ∙ eq-eqb f.register f.register refl)

pub unled : (r : ℕ) (k : Kind) → leads r k ≡ false → (names r (from_of k) ≡ false) × (is_lent_of r k ≡ false)
unled r k e = or_neither (names r (from_of k)) (is_lent_of r k) e

-- Where nothing leads to a register, its lists may go.
pub keeps_cleared : (ks : List Kind) (maps : List LabelMap) (lents : Lents) (below below2 trees trees2 loose loose2 : Links) (held : Option (List Bool))
    (since : List (Option (List ℕ))) (busy : ℕ) (asked : List Asked) (sets : LabelSets) (d : ℕ) →
    IsKept ks maps lents below trees loose held since busy asked sets → ((q : ℕ) → leads d (at ks q) ≡ false) →
    ((r q : ℕ) → (d ≡ r → ⊥) → Linked below r q → Linked below2 r q) →
    ((r q : ℕ) → (d ≡ r → ⊥) → Linked trees r q → Linked trees2 r q) →
    ((r q : ℕ) → (d ≡ r → ⊥) → Linked loose r q → Linked loose2 r q) →
    IsKept ks maps lents below2 trees2 loose2 held since busy asked sets
keeps_cleared ks maps lents below below2 trees trees2 loose loose2 held since busy asked sets d h n m o l = record {
  rise = h.rise;
  are_maps = h.are_maps;
  few = h.few;
  room = h.room;
  sources = λ r q e. m r q (λ i. let a = (unled d (at ks q) (n q)).0 in let b = ap (λ x. names x (from_of (at ks q))) i in cc)
      (h.sources r q e);
  lends = λ r q e. o r q (λ i. let a = (unled d (at ks q) (n q)).1 in let b = ap (λ x. is_lent_of x (at ks q)) i in cc)
      (h.lends r q e);
  loosened = λ r q e f. l r q (λ i. let a = (unled d (at ks q) (n q)).1 in let b = ap (λ x. is_lent_of x (at ks q)) i in cc)
      (h.loosened r q e f);
  holds = h.holds;
  sees = h.sees;
  counted = h.counted;
  asks = h.asks;
  set_maps = h.set_maps;
  origins = h.origins;
}

pub leads_to_source : (r : ℕ) (k : Kind) (source owner : Option ℕ) →
    (names r (from_of k) ≡ true → source ≡ Some r) → (is_lent_of r k ≡ true → owner ≡ Some r) → leads r k ≡ true →
    (source ≡ Some r) ⊎ (owner ≡ Some r)
leads_to_source r k source owner f g e =
    elim (or_cases (names r (from_of k)) (is_lent_of r k) e) [ inl h ↦ inl (f h) | inr h ↦ inr (g h) ]

-- What a register that isn't listed came from isn't listed either.
pub record IsApart (r p : ℕ) (qs : List ℕ) : Type 0 where
  pub own : (p == r) ≡ false
  pub listed : has qs p ≡ false

pub unlisted_from : (ks : List Kind) (r : ℕ) (qs : List ℕ) (q : ℕ) (f : From) → Gathers ks r qs →
    has qs q ≡ false → from_of (at ks q) ≡ Some f → IsApart r f.register qs
unlisted_from ks r qs q f g e h =
    let l = from_leads (at ks q) f h in
    record {
      own = elim (eqb_tells f.register r) [
        | inl i ↦ absurd (let j = g.own q (ap (λ x. leads x (at ks q)) (sym i.1) ∙ l) in cc)
        | inr i ↦ i.0
      ];
      listed = not_true (has qs f.register) (has qs q) (λ i. g.further f.register q i l) e;
    }

pub unlisted_lent : (ks : List Kind) (r : ℕ) (qs : List ℕ) (p : ℕ) → Gathers ks r qs → has qs p ≡ false →
    is_lent_of r (at ks p) ≡ false
unlisted_lent ks r qs p g e =
    not_true (is_lent_of r (at ks p)) (has qs p) (λ i. g.own p (lent_leads r (at ks p) i)) e

busy_rooted : (f : ℕ → ℕ) (ks : List Kind) → busy_in ks ≡ busy_in (map (rooted f) ks)
busy_rooted f [] = refl
busy_rooted f (k ∷ ks) =
    ap (λ b. held b + busy_in ks) (sym (free_all f k)) ∙ ap (λ n. held (is_free (rooted f k)) + n) (busy_rooted f ks)

-- Two registers change names: what was lent of one is lent of the other.
pub keeps_swapped : (ks : List Kind) (maps : List LabelMap) (lents : Lents) (below trees trees2 loose loose2 : Links)
    (held : Option (List Bool)) (since after : List (Option (List ℕ))) (busy : ℕ) (asked : List Asked) (sets : LabelSets) (a b : ℕ) →
    IsKept ks maps lents below trees loose held since busy asked sets →
    ((r q : ℕ) → Linked trees (swapped a b r) q → Linked trees2 r q) →
    ((r q : ℕ) → Linked loose (swapped a b r) q → Linked loose2 r q) →
    ((l : ℕ) (xs : List ℕ) → slice_get after l ≡ Some (Some xs) → ⊥) →
    IsKept (map (rooted (swapped a b)) ks) maps lents below trees2 loose2 None after busy asked sets
keeps_swapped ks maps lents below trees trees2 loose loose2 held since after busy asked sets a b h move part none =
    let f = swapped a b in
    record {
      rise = λ q. subst Rise (sym (ap set_of (at_map (rooted f) refl ks q) ∙ rooted_set f (at ks q))) (h.rise q);
      are_maps = subst (λ n. AreMaps n maps) (sym (map_long (rooted f) ks)) h.are_maps;
      few = subst (λ n. n < 65536) (sym (map_long (rooted f) ks)) h.few;
      room = h.room ∙ sym (map_long (rooted f) ks);
      sources = λ r q e. h.sources r q
          (ap (names r) (sym (ap from_of (at_map (rooted f) refl ks q) ∙ rooted_from f (at ks q))) ∙ e);
      lends = λ r q e. move r q (h.lends (swapped a b r) q
          (lent_swapped a b r (at ks q) (ap (is_lent_of r) (sym (at_map (rooted f) refl ks q)) ∙ e)));
      loosened = λ r q e g. part r q (h.loosened (swapped a b r) q
          (lent_swapped a b r (at ks q) (ap (is_lent_of r) (sym (at_map (rooted f) refl ks q)) ∙ e))
          (sym (ap from_of (at_map (rooted f) refl ks q) ∙ rooted_from f (at ks q)) ∙ g));
      holds = λ torn g. absurd (cc);
      sees = λ l m xs i j. absurd (none l xs j);
      counted = h.counted ∙ busy_rooted f ks;
      asks = h.asks;
      set_maps = h.set_maps;
      origins = λ q o e. ap set_of (at_map (rooted f) refl ks q) ∙ rooted_set f (at ks q) ∙ h.origins q o e;
    }

-- What is known of which trees are torn may change.
pub keeps_held : (ks : List Kind) (maps : List LabelMap) (lents : Lents) (below trees loose : Links) (held now : Option (List Bool))
    (since : List (Option (List ℕ))) (busy : ℕ) (asked : List Asked) (sets : LabelSets) →
    IsKept ks maps lents below trees loose held since busy asked sets → AreKnown ks now →
    IsKept ks maps lents below trees loose now since busy asked sets
keeps_held ks maps lents below trees loose held now since busy asked sets h e = record {
  rise = h.rise;
  are_maps = h.are_maps;
  few = h.few;
  room = h.room;
  sources = h.sources;
  lends = h.lends;
  loosened = h.loosened;
  holds = e;
  sees = h.sees;
  counted = h.counted;
  asks = h.asks;
  set_maps = h.set_maps;
  origins = h.origins;
}
