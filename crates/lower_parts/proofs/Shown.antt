-- What a label reports that just got its place, and what it takes.
use Rattle.std.proofs.Common.{◌≡◌, ◌⊎◌, inl, inr, refl, sym, ap, ◌∙◌, subst, arith, true≢false, ℕ, ◌<◌, ◌≤◌, Bool, true, false, List, [], ◌∷◌, Option, Some, None}
use Rattle.std.specs.Prelude.{◌==◌, ◌&&◌, ◌||◌, is_some}
use Rattle.std.proofs.lemmas.Bool.{cases_eq, eqb-true}
use Rattle.fip_language.specs.Table.{Table}
use Rattle.cell_code.specs.declared.kind.Kind.{Kind}
use Rattle.cell_code.specs.declared.kind.Kind.TheVariants as K
use Rattle.cell_code.specs.Plain.{LabelMap, PlainFunction, PlainCode}
use Rattle.lower_frame.specs.code_rules.Codes.{label_at}
use Rattle.lower_frame.specs.code_rules.Fitting.{fits, is_subset}
use Rattle.lower_frame.specs.code_rules.Kinds.{at, has}
use Rattle.lower_frame.specs.code_rules.Types.{all, count}
use Rattle.lower_frame.specs.lowering_relation.declared.held.Held.{Held}
use Rattle.lower_frame.specs.lowering_relation.declared.held.Held.TheVariants as H
use Rattle.lower_frame.specs.lowering_relation.Known.{Known}
use Rattle.lower_frame.specs.lowering_relation.Written.{Written, size}
use Rattle.lower_frame.specs.lowering_relation.Describing.{held_at, kind_of, kinds_of}
use Rattle.lower_frame.specs.lowering_relation.Labels.{reported, Takes, Catches, Reports}
use Rattle.lower_frame.specs.lowering_relation.Matches.{widened, BuiltRight}
use Rattle.lower_frame.specs.Credits.{Accounted}
use Rattle.lower_frame.specs.Frames.{kinds_reported}
use Rattle.lower_frame.specs.Labels.{Rising, telling}
use Rattle.lower_frame.specs.Registers.{registers}
use Rattle.lower_frame.proofs.Labels.{rising_reported}
use Rattle.lower_parts.specs.Laying.{Underway}
use Rattle.lower_parts.specs.Writing.{Named}
use Rattle.lower_parts.specs.Bodies.{LabelTakes}
use Rattle.lower_parts.proofs.Lessening.{IsWide}
use Rattle.lower_parts.proofs.Sighting.{fits_self, numbers_has, reported_kind, reported_long}
use Rattle.lower_parts.proofs.Sided.{refused, reported_here}
use Rattle.fip_language.proofs.Facts.{both_left, both_right, none_some, same_some}
pub use Rattle.lower_parts.proofs.Going.{reports_takes}

-- no label stands at the start of a function

none_up : (high low : ℕ) (ms : List LabelMap) (p : ℕ) → Rising high low ms → p ≤ low → label_at ms p ≡ None
none_up high low [] p r le = refl
none_up high low (m ∷ ms) p r le = refused m.at p m.kinds (label_at ms p) (λ e. absurd (omega (arith, e, le, r.0))) ∙ none_up high m.at ms p r.2 (omega (arith, le, r.0))

pub none_first : (high : ℕ) (ms : List LabelMap) → Rising high 0 ms → label_at ms 0 ≡ None
none_first high ms r = none_up high 0 ms 0 r (omega arith)

-- what is reported here is what is known, where this doesn't say which constructors were built

reports_reported : (tb : Table) (k : Known) → IsWide k → Reports (registers k) (kinds_reported tb k.held) (kinds_of tb (held_at k.held))
reports_reported tb k wide = record { wide = reported_long tb k.held; each = λ r. reported_kind tb k.held r ∙ ap (kind_of tb) (wide r) }

pub shown_reported : (tb : Table) (k : Known) (v w : Written) → IsWide k → w.maps ≡ telling (size v) (kinds_reported tb k.held) v.maps → size w ≡ size v → Rising (size v) 0 v.maps → (map : List Kind) → label_at w.maps (size w) ≡ Some map → Reports (registers k) map (kinds_of tb (held_at k.held))
shown_reported tb k v w wide reported long rising map e = by (cases_eq (size v) 0)
  where
    here : label_at (telling (size v) (kinds_reported tb k.held) v.maps) (size v) ≡ Some map
    here = sym (ap (λ ms. label_at ms (size v)) reported) ∙ ap (λ n. label_at w.maps n) (sym long) ∙ e

    by : (size v ≡ 0) ⊎ (size v ≡ 0 → ⊥) → Reports (registers k) map (kinds_of tb (held_at k.held))
    by (inl z) = absurd (none_some map (sym (none_first (size v) (telling (size v) (kinds_reported tb k.held) v.maps) (rising_reported (size v) (kinds_reported tb k.held) v.maps rising)) ∙ ap (λ n. label_at (telling (size v) (kinds_reported tb k.held) v.maps) n) (sym z) ∙ here))
    by (inr z) = subst (λ ks. Reports (registers k) ks (kinds_of tb (held_at k.held)))
        (same_some (kinds_reported tb k.held) map (sym (reported_here (size v) (kinds_reported tb k.held) v.maps (omega (arith, z)) rising) ∙ here)) (reports_reported tb k wide)

-- the map of a label that was put after what was written
pub there_reported : (tb : Table) (k : Known) (v w : Written) → w.maps ≡ telling (size v) (kinds_reported tb k.held) v.maps → size w ≡ size v → Rising (size v) 0 v.maps → 0 < size v → label_at w.maps (size w) ≡ Some (kinds_reported tb k.held)
there_reported tb k v w reported long rising later = ap (λ n. label_at w.maps n) long ∙ ap (λ ms. label_at ms (size v)) reported ∙ reported_here (size v) (kinds_reported tb k.held) v.maps later rising

pub under_reported : (tb : Table) (k : Known) (v w : Written) → IsWide k → Accounted k → Named k → k.next ≤ registers k → w.maps ≡ telling (size v) (kinds_reported tb k.held) v.maps → size w ≡ size v → Rising (size v) 0 v.maps → Underway tb k w
under_reported tb k v w wide accounts named room reported long rising = record {
  accounts = accounts;
  named = named;
  room = room;
  rising = subst (λ n. Rising n 0 w.maps) (sym long) (subst (Rising (size v) 0) (sym reported) (rising_reported (size v) (kinds_reported tb k.held) v.maps rising));
  shown = shown_reported tb k v w wide reported long rising;
}

-- a map that takes a tree whose constructor isn't known takes the one that was built

has_next : (c x : ℕ) (h rest : Bool) (ys : List ℕ) → (c == x) ≡ h → (h || rest) ≡ true → has ys c ≡ true → (rest ≡ true → has ys x ≡ true) → has ys x ≡ true
has_next c x true rest ys e h here later = subst (λ z. has ys z ≡ true) (eqb-true c x e) here
has_next c x false rest ys e h here later = later h

has_on : (xs ys : List ℕ) (x : ℕ) → is_subset xs ys ≡ true → has xs x ≡ true → has ys x ≡ true
has_on [] ys x s h = absurd (true≢false (sym h))
has_on (c ∷ cs) ys x s h = has_next c x (c == x) (has cs x) ys refl h (both_left (has ys c) (is_subset cs ys) s) (λ e. has_on cs ys x (both_right (has ys c) (is_subset cs ys) s) e)

one_of : (t u : ℕ) (d : ℕ) (xs ys : List ℕ) → has xs d ≡ true → ((u == t) && is_subset xs ys) ≡ true → ((u == t) && is_subset (d ∷ []) ys) ≡ true
one_of t u d xs ys h e = by (u == t) e
  where
    by : (b : Bool) → (b && is_subset xs ys) ≡ true → (b && is_subset (d ∷ []) ys) ≡ true
    by true f = ap (λ x. x && true) (has_on xs ys d f h)
    by false f = f

built_fits : (w : Table) (t d : ℕ) (m : Kind) → d < count w t → fits m (K.Owned t (all w t)) ≡ true → fits m (K.Owned t (d ∷ [])) ≡ true
built_fits w t d K.Gone lt e = e
built_fits w t d (K.Scalar u) lt e = e
built_fits w t d (K.Owned u ys) lt e = one_of u t d (all w t) ys (numbers_has 0 (count w t) d (omega arith) (omega (arith, lt))) e
built_fits w t d (K.Lent u ys root from) lt e = e
built_fits w t d (K.Credit n) lt e = e

pub fits_narrow : (w : Table) (m : Kind) (h : Held) → BuiltRight w h → fits m (kind_of w (widened h)) ≡ true → fits m (kind_of w h) ≡ true
fits_narrow w m H.Nothing b e = e
fits_narrow w m (H.Scalar t) b e = e
fits_narrow w m (H.Owned t None) b e = e
fits_narrow w m (H.Owned t (Some d)) b e = built_fits w t d m (b.there t d refl) e
fits_narrow w m (H.Lent t root) b e = e
fits_narrow w m (H.Credit n) b e = e
fits_narrow w m (H.Bare t c) b e = e

pub takes_same : (n : ℕ) (map : List Kind) (m l : ℕ → Kind) → ((r : ℕ) → m r ≡ l r) → Takes n map m → Takes n map l
takes_same n map m l e t = record { wide = t.wide; each = λ r. ap (fits (at map r)) (sym (e r)) ∙ t.each r }

-- a label that takes what is known without which constructors were built takes what was built
pub takes_narrow : (n : ℕ) (w : Table) (map : List Kind) (g h : ℕ → Held) → ((r : ℕ) → BuiltRight w (h r)) → ((r : ℕ) → widened (g r) ≡ widened (h r)) → ((r : ℕ) → widened (g r) ≡ g r) → Takes n map (kinds_of w g) → Takes n map (kinds_of w h)
takes_narrow n w map g h built alike wide t = record {
  wide = t.wide;
  each = λ r. fits_narrow w (at map r) (h r) (built r) (ap (λ x. fits (at map r) (kind_of w x)) (sym (alike r) ∙ wide r) ∙ t.each r);
}

pub some_there : (o : Option (List Kind)) → is_some o ≡ true → (map : List Kind) × (o ≡ Some map)
some_there None e = absurd (true≢false (sym e))
some_there (Some map) e = (map, refl)

-- a label that is there and takes what is reported
pub catches_by : (c : PlainCode) (f : PlainFunction) (p : ℕ) (k : Known) → is_some (label_at f.labels p) ≡ true → LabelTakes c f p k → Catches f p (reported c k)
catches_by c f p k there takes = let x = some_there (label_at f.labels p) there in record { map = x.0; there = x.1; takes = takes x.0 x.1 }
