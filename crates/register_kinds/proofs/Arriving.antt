-- Whether kinds fit a label map: register by register, and by those that have changed.
use Rattle.kind_domain.proofs.AskedMaps.{some_map}
use Rattle.std.proofs.Common.{◌≡◌, ℕ, zero, suc, ◌+◌, ◌<◌, ◌⊎◌, inl, inr, List, [], ◌∷◌, length, map, drop, get_or, refl, sym, ap, ◌∙◌, subst, arith}
use Rattle.std.specs.Prelude.{Bool, true, false, ◌&&◌, ◌==◌, if◌then◌else◌, Option, Some, None, slice_get}
use Rattle.std.proofs.lemmas.Bool.Decides.{eqb_tells}
use Rattle.kind_domain.specs.cell_code.declared.kind.Kind.{Kind}
use Rattle.kind_domain.specs.cell_code.declared.kind.Kind.TheVariants.{Gone, Scalar, Owned, Lent, Credit}
use Rattle.kind_domain.specs.code_rules.Kinds.{at, has, is_free, set_of}
use Rattle.kind_domain.specs.code_rules.Changes.{narrow, without, tested}
use Rattle.kind_domain.specs.code_rules.Fitting.{fits, fit_all}
use Rattle.register_kinds.specs.declared.fits.Tested.{Tested}
use Rattle.register_kinds.specs.Arrivals.{lessened, lacked_at, arrive, fits_at, each_fits, tested_fits}
use Rattle.kind_domain.specs.cell_code.Plain.{LabelMap}
use Rattle.kind_domain.specs.Sights.{HasBut}
use Rattle.kind_domain.specs.Leading.{Lents, Links}
use Rattle.register_kinds.specs.Kept.{IsKept, KindsRise}
use Rattle.kind_domain.specs.LabelSets.{LabelSets}
use Rattle.kind_domain.specs.declared.asked.Asked.{Asked}
use Rattle.kind_domain.specs.Rising.{Rise}
use Rattle.register_kinds.proofs.Changed.{is_become, not_true}
use Rattle.register_kinds.proofs.Less.{free}
use Rattle.kind_domain.proofs.fip_language.Facts.{and_both as and_parts, both_true as and_all, same_both_ways as same_if, true_or_false}
pub use Rattle.kind_domain.proofs.fip_language.Facts.{and_true_back as with_yes}

none_lessened : (k : Kind) → lessened None k ≡ k
none_lessened Gone = refl
none_lessened (Scalar t) = refl
none_lessened (Owned t s) = refl
none_lessened (Lent t s root from) = refl
none_lessened (Credit n) = refl

-- what arrives

arrive_at : (t : Option Tested) (i : ℕ) (ks : List Kind) (q : ℕ) →
    at (arrive t i ks) q ≡ lessened (lacked_at t (i + q)) (at ks q)
arrive_at t i [] q = refl
arrive_at t i (k ∷ ks) zero =
    let e : i ≡ i + 0 = (omega arith) in ap (λ n. lessened (lacked_at t n) k) e
arrive_at t i (k ∷ ks) (suc q) =
    let e : suc i + q ≡ i + suc q = (omega arith) in
    arrive_at t (suc i) ks q ∙ ap (λ n. lessened (lacked_at t n) (at ks q)) e

arrive_here : (t : Option Tested) (ks : List Kind) (q : ℕ) →
    at (arrive t 0 ks) q ≡ lessened (lacked_at t q) (at ks q)
arrive_here t ks q =
    let e : 0 + q ≡ q = (omega arith) in
    arrive_at t 0 ks q ∙ ap (λ n. lessened (lacked_at t n) (at ks q)) e

pub arrive_long : (t : Option Tested) (i : ℕ) (ks : List Kind) → length (arrive t i ks) ≡ length ks
arrive_long t i [] = refl
arrive_long t i (k ∷ ks) = ap suc (arrive_long t (suc i) ks)

pub arrive_none : (i : ℕ) (ks : List Kind) → arrive None i ks ≡ ks
arrive_none i [] = refl
arrive_none i (k ∷ ks) = let a = none_lessened k in let b = arrive_none (suc i) ks in cc

tested_one : (ks : List Kind) (x : Tested) (q : ℕ) →
    (((q == x.register) ≡ true) × (q ≡ x.register)) ⊎ (((q == x.register) ≡ false) × (q ≡ x.register → ⊥)) →
    lessened (lacked_at (Some x) q) (at ks q)
    ≡ (if q == x.register then narrow (without x.constructor (set_of (at ks x.register))) (at ks q) else at ks q)
tested_one ks x q (inl g) =
    rw g.0 (ap (λ z. narrow (without x.constructor (set_of (at ks z))) (at ks q)) g.1)
tested_one ks x q (inr g) = rw g.0 (none_lessened (at ks q))

pub arrive_tested : (ks : List Kind) (x : Tested) →
    arrive (Some x) 0 ks ≡ tested ks x.register (without x.constructor (set_of (at ks x.register)))
arrive_tested ks x =
    is_become ks (arrive (Some x) 0 ks)
    (λ q. if q == x.register then narrow (without x.constructor (set_of (at ks x.register))) (at ks q) else at ks q)
    (arrive_long (Some x) 0 ks)
    (λ q h. arrive_here (Some x) ks q ∙ tested_one ks x q (eqb_tells q x.register))

-- all fit where each does

all_each : (ms ks : List Kind) → fit_all ms ks ≡ true → (q : ℕ) → fits (at ms q) (at ks q) ≡ true
all_each [] [] e q = refl
all_each [] (k ∷ ks) e q = absurd (cc)
all_each (m ∷ ms) [] e q = absurd (cc)
all_each (m ∷ ms) (k ∷ ks) e zero = (and_parts (fits m k) (fit_all ms ks) e).0
all_each (m ∷ ms) (k ∷ ks) e (suc q) = all_each ms ks (and_parts (fits m k) (fit_all ms ks) e).1 q

each_all : (ms ks : List Kind) → length ms ≡ length ks → ((q : ℕ) → fits (at ms q) (at ks q) ≡ true) →
    fit_all ms ks ≡ true
each_all [] [] l h = refl
each_all [] (k ∷ ks) l h = absurd (omega arith)
each_all (m ∷ ms) [] l h = absurd (omega arith)
each_all (m ∷ ms) (k ∷ ks) l h =
    and_all (fits m k) (fit_all ms ks) (h 0) (each_all ms ks (omega arith) (λ q. h (suc q)))

-- A label map that fits is fitted by each register.
pub fit_each : (t : Option Tested) (ms ks : List Kind) → fit_all ms (arrive t 0 ks) ≡ true → (q : ℕ) →
    fits_at t ms ks q ≡ true
fit_each t ms ks e q = sym (ap (fits (at ms q)) (arrive_here t ks q)) ∙ all_each ms (arrive t 0 ks) e q

-- Where register q wasn't tested, it fits as it is.
pub fit_untested : (ms ks : List Kind) (x : Tested) (q : ℕ) → (x.register ≡ q → ⊥) →
    fits_at (Some x) ms ks q ≡ true → fits (at ms q) (at ks q) ≡ true
fit_untested ms ks x q h e =
    elim (eqb_tells q x.register) [
      | inl g ↦ absurd (h (sym g.1))
      | inr g ↦ (let f = (rw g.0 at e) in ap (fits (at ms q)) (sym (none_lessened (at ks q))) ∙ f)
    ]

listed_fit : (t : Option Tested) (ms ks : List Kind) (qs : List ℕ) → each_fits t ms ks qs ≡ true → (q : ℕ) →
    has qs q ≡ true → fits_at t ms ks q ≡ true
listed_fit t ms ks [] e q h = absurd (cc)
listed_fit t ms ks (x ∷ qs) e q h =
    let p = and_parts (fits_at t ms ks x) (each_fits t ms ks qs) e in
    elim (eqb_tells x q) [
      | inl g ↦ ap (fits_at t ms ks) (sym g.1) ∙ p.0
      | inr g ↦ (let f = (rw g.0 at h) in listed_fit t ms ks qs p.1 q f)
    ]

fit_listed : (t : Option Tested) (ms ks : List Kind) (qs : List ℕ) → ((q : ℕ) → fits_at t ms ks q ≡ true) →
    each_fits t ms ks qs ≡ true
fit_listed t ms ks [] h = refl
fit_listed t ms ks (x ∷ qs) h = and_all (fits_at t ms ks x) (each_fits t ms ks qs) (h x) (fit_listed t ms ks qs h)

fit_tested : (t : Option Tested) (ms ks : List Kind) → ((q : ℕ) → fits_at t ms ks q ≡ true) →
    tested_fits t ms ks ≡ true
fit_tested None ms ks h = refl
fit_tested (Some x) ms ks h = h x.register

-- a register that hasn't changed, and was tested or not
unchanged : (t : Option Tested) (ms ks : List Kind) (q : ℕ) → fits (at ms q) (at ks q) ≡ true →
    tested_fits t ms ks ≡ true → fits_at t ms ks q ≡ true
unchanged None ms ks q h e = ap (fits (at ms q)) (none_lessened (at ks q)) ∙ h
unchanged (Some x) ms ks q h e =
    elim (eqb_tells q x.register) [
      | inl g ↦ ap (fits_at (Some x) ms ks) g.1 ∙ e
      | inr g ↦ rw g.0 (ap (fits (at ms q)) (none_lessened (at ks q)) ∙ h)
    ]

-- What was seen to fit goes on to fit where those do that have changed since.
pub seen_fits : (t : Option Tested) (ms ks : List Kind) (qs : List ℕ) → length ms ≡ length ks →
    ((q : ℕ) → has qs q ≡ false → fits (at ms q) (at ks q) ≡ true) →
    (each_fits t ms ks qs && tested_fits t ms ks) ≡ fit_all ms (arrive t 0 ks)
seen_fits t ms ks qs l h =
    same_if (each_fits t ms ks qs && tested_fits t ms ks) (fit_all ms (arrive t 0 ks))
    (λ e. let p = and_parts (each_fits t ms ks qs) (tested_fits t ms ks) e in
    each_all ms (arrive t 0 ks) (l ∙ sym (arrive_long t 0 ks))
    (λ q. ap (fits (at ms q)) (arrive_here t ks q) ∙ elim (true_or_false (has qs q)) [
      | inl g ↦ listed_fit t ms ks qs p.0 q g
      | inr g ↦ unchanged t ms ks q (h q g) p.1
    ]))
    (λ e. and_all (each_fits t ms ks qs) (tested_fits t ms ks) (fit_listed t ms ks qs (fit_each t ms ks e))
    (fit_tested t ms ks (fit_each t ms ks e)))

-- what is seen through a label map's slice

pub map_is : (o : Option LabelMap) (a b : LabelMap) → o ≡ Some a → o ≡ Some b → a ≡ b
map_is o a b e f = some_map a b (sym e ∙ f)

pub seen_case : (t : Option Tested) (ms kinds ks known known2 : List Kind) (qs : List ℕ) (a b : Bool) → kinds ≡ ms →
    known ≡ ks → known2 ≡ ks → length ms ≡ length ks → ((q : ℕ) → has qs q ≡ false → fits (at ms q) (at ks q) ≡ true) →
    a ≡ each_fits t kinds known qs → b ≡ tested_fits t kinds known2 → (a && b) ≡ fit_all ms (arrive t 0 ks)
seen_case t ms kinds ks known known2 qs a b e f f2 l h i j =
    ap (λ x. x && b) (i ∙ ap (λ z. each_fits t z known qs) e ∙ ap (λ z. each_fits t ms z qs) f)
    ∙ ap (λ x. each_fits t ms ks qs && x) (j ∙ ap (λ z. tested_fits t z known2) e ∙ ap (λ z. tested_fits t ms z) f2)
    ∙ seen_fits t ms ks qs l h

pub with_no : (a : Bool) → false ≡ (a && false)
with_no true = refl
with_no false = refl

-- a label map that was seen to fit

pub keeps_seen : (ks : List Kind) (maps : List LabelMap) (lents : Lents) (below trees loose : Links)
    (held : Option (List Bool)) (since after : List (Option (List ℕ))) (busy : ℕ) (asked : List Asked) (sets : LabelSets) (label : ℕ) →
    IsKept ks maps lents below trees loose held since busy asked sets →
    ((m : LabelMap) → slice_get maps label ≡ Some m → fit_all m.kinds ks ≡ true) →
    ((l : ℕ) (xs : List ℕ) → slice_get after l ≡ Some (Some xs) → (label ≡ l → ⊥) →
    slice_get since l ≡ Some (Some xs)) →
    IsKept ks maps lents below trees loose held after busy asked sets
keeps_seen ks maps lents below trees loose held since after busy asked sets label h fit other = record {
  rise = h.rise;
  are_maps = h.are_maps;
  few = h.few;
  room = h.room;
  sources = h.sources;
  lends = h.lends;
  loosened = h.loosened;
  holds = h.holds;
  counted = h.counted;
  asks = h.asks;
  set_maps = h.set_maps;
  origins = h.origins;
  sees = λ l m xs a b q e. elim (eqb_tells label l) [
    | inl g ↦ all_each m.kinds ks (fit m (ap (slice_get maps) g.1 ∙ a)) q
    | inr g ↦ h.sees l m xs a (other l xs b g.1) q e
  ];
}

pub keeps_seen_but : (ks : List Kind) (maps : List LabelMap) (lents : Lents) (below trees loose : Links)
    (held : Option (List Bool)) (since after : List (Option (List ℕ))) (busy : ℕ) (asked : List Asked) (sets : LabelSets) (label : ℕ) (x : Tested) →
    IsKept ks maps lents below trees loose held since busy asked sets →
    ((m : LabelMap) → slice_get maps label ≡ Some m → fit_all m.kinds (arrive (Some x) 0 ks) ≡ true) →
    ((l : ℕ) (xs : List ℕ) → slice_get after l ≡ Some (Some xs) → HasBut since label x.register l xs) →
    IsKept ks maps lents below trees loose held after busy asked sets
keeps_seen_but ks maps lents below trees loose held since after busy asked sets label x h fit other = record {
  rise = h.rise;
  are_maps = h.are_maps;
  few = h.few;
  room = h.room;
  sources = h.sources;
  lends = h.lends;
  loosened = h.loosened;
  holds = h.holds;
  counted = h.counted;
  asks = h.asks;
  set_maps = h.set_maps;
  origins = h.origins;
  sees = λ l m xs a b q e.
      let o = other l xs b in
      elim (eqb_tells label l) [
        | inl g ↦ fit_untested m.kinds ks x q (λ i. let n = ap (has xs) i in let y = o.new in cc)
            (fit_each (Some x) m.kinds ks (fit m (ap (slice_get maps) g.1 ∙ a)) q)
        | inr g ↦ (let before = o.other g.1 in h.sees l m before.before a before.is q
            (not_true (has before.before q) (has xs q) (before.more q) e))
      ];
}

-- sets of what stands in a list

first_is : (x k : Kind) (xs ks : List Kind) → x ∷ xs ≡ k ∷ ks → x ≡ k
first_is x k xs ks e = cc

pub rise_drop : (ks : List Kind) (i : ℕ) (k : Kind) (rest : List Kind) → KindsRise ks → drop i ks ≡ k ∷ rest →
    Rise (set_of k)
rise_drop [] zero k rest r e = absurd (cc)
rise_drop [] (suc i) k rest r e = absurd (cc)
rise_drop (x ∷ ks) zero k rest r e = subst (λ z. Rise (set_of z)) (first_is x k ks rest e) (r 0)
rise_drop (x ∷ ks) (suc i) k rest r e = rise_drop ks i k rest (λ q. r (suc q)) e

pub at_get : (ms : List Kind) (i : ℕ) (d : Kind) → i < length ms → at ms i ≡ get_or ms i d
at_get [] i d h = absurd (omega arith)
at_get (m ∷ ms) zero d h = refl
at_get (m ∷ ms) (suc i) d h = at_get ms i d (omega arith)

pub rise_kind : (ms : List Kind) (i : ℕ) (k d : Kind) → KindsRise ms → i < length ms → k ≡ get_or ms i d →
    Rise (set_of k)
rise_kind ms i k d r h e = subst (λ z. Rise (set_of z)) (at_get ms i d h ∙ sym e) (r i)

-- one register of those that fit a label map

pub fits_from : (t : Option Tested) (ms ks : List Kind) (q : ℕ) (m k : Kind) (l : Option ℕ) (b : Bool) →
    b ≡ fits m (lessened l k) → l ≡ lacked_at t q → at ms q ≡ m → at ks q ≡ k → b ≡ fits_at t ms ks q
fits_from t ms ks q m k l b h e f g =
    h ∙ ap (λ x. fits m (lessened x k)) e ∙ ap (λ x. fits x (lessened (lacked_at t q) k)) (sym f)
    ∙ ap (λ x. fits (at ms q) (lessened (lacked_at t q) x)) (sym g)

pub free_from : (t : Option Tested) (ms ks : List Kind) (q : ℕ) (k : Kind) (b : Bool) → b ≡ is_free k →
    k ≡ at ks q → at ms q ≡ Gone → b ≡ fits_at t ms ks q
free_from t ms ks q k b h e f =
    h ∙ ap is_free e ∙ sym (free (lacked_at t q) (at ks q))
    ∙ ap (λ m. fits m (lessened (lacked_at t q) (at ks q))) (sym f)
