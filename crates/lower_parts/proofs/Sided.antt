-- The tests that choose the next clause, laid out one side after another.
use Rattle.std.proofs.Common.{◌≡◌, ◌⊎◌, inl, inr, refl, sym, ap, ◌∙◌, subst, arith, ℕ, zero, suc, ◌<◌, ◌≤◌, Bool, true, false, List, [], ◌∷◌, ◌++◌, Option, Some, None, slice_get}
use Rattle.std.specs.Prelude.{◌==◌, if◌then◌else◌, is_some, option_map}
use Rattle.std.proofs.lemmas.Bool.{eq-eqb, eqb-true}
use Rattle.std.proofs.lemmas.Option.{slice_get-map}
use Rattle.fip_language.specs.Every.{Every}
use Rattle.fip_language.specs.Table.{Table}
use Rattle.fip_language.proofs.Plain.{every_append, every_so, every_split}
use Rattle.fip_language.proofs.Search.{le_or_less}
use Rattle.cell_code.specs.declared.code.Instr.TheVariants as I
use Rattle.cell_code.specs.declared.kind.Kind.{Kind}
use Rattle.cell_code.specs.Plain.{LabelMap, PlainFunction, PlainCode}
use Rattle.lower_frame.specs.code_rules.Codes.{label_at}
use Rattle.lower_frame.specs.code_rules.Kinds.{at}
use Rattle.match_knowledge.specs.declared.verdicts.Verdict.TheVariants as D
use Rattle.match_knowledge.specs.Patterns as M
use Rattle.match_knowledge.specs.Known.{Known, compare}
use Rattle.match_knowledge.specs.View.{rows}
use Rattle.lower_frame.specs.lowering_relation.Written.{Written, size, Extends, HasFrom, added}
use Rattle.lower_frame.specs.lowering_relation.Rows.{row_of}
use Rattle.lower_frame.specs.lowering_relation.Landing.{Scene, Side, IsScene, RuledOut}
use Rattle.lower_frame.proofs.lowering_relation.Placing.{same_extends, extends_on, added_extends, one_longer, front, back, stands}
use Rattle.lower_frame.specs.lowering_relation.declared.held.Held.{Held}
use Rattle.lower_frame.specs.lowering_relation.declared.held.Held.TheVariants as H
use Rattle.lower_frame.specs.lowering_relation.Values.{Setting}
use Rattle.lower_frame.specs.lowering_relation.Describing.{Holding, held_at}
use Rattle.lower_frame.specs.lowering_relation.Labels.{Reports, Quiet}
use Rattle.lower_frame.specs.lowering_relation.Matches.{wide_at, widened}
use Rattle.lower_frame.specs.lowering_relation.Tests.{BeginsBody, ChunkLaid, SideLaid, SidesLaid}
use Rattle.lower_frame.proofs.lowering_relation.Growing.{at_once}
use Rattle.lower_frame.specs.Labels.{Rising, telling, untold}
use Rattle.lower_frame.proofs.Labels.{rising_higher, rising_reported}
use Rattle.lower_frame.specs.Positions.{spot_of}
use Rattle.lower_parts.specs.declared.choice.Choice.{Choice}
use Rattle.lower_parts.specs.Laying.{HasPart}
use Rattle.lower_parts.specs.Overlays.{failed_reported}
use Rattle.lower_parts.specs.Scenes.{patterns_of, scene, HasRows, first_side, HasLabel, Labelled, Ready, NotFirst, FollowsIn, Follows}
use Rattle.lower_parts.specs.Testing.{Alike, choice_at, CaughtAt, CaughtBy, Caught, Tried, SeenSide, Misses, AreMissed, ReportsSide}
use Rattle.lower_parts.specs.Chosen.{RuledSide, LaterSide, Sighted, Premises, LaidSides, LaidFirst, ChoosesLaidIn, ChoosesLaid}
use Rattle.lower_parts.proofs.Trying.{all_caught_less}
use Rattle.lower_parts.proofs.Sighting.{sighted}
use Rattle.lower_parts.proofs.Choosing.{turned}
use Rattle.fip_language.proofs.Facts.{less_or_same, same_some, true_or_false as or_not}
use Rattle.lower_parts.proofs.Choosing.{unlabelled}
use Rattle.lower_parts.proofs.Parted.{none_past}

-- what is reported at a place

pub refused : (m p : ℕ) (k : List Kind) (o : Option (List Kind)) → (m ≡ p → ⊥) → (if m == p then Some k else o) ≡ o
refused m p k o ne = elim (or_not (m == p)) as (λ b. (if m == p then Some k else o) ≡ o) [
  | inl e ↦ absurd (ne (eqb-true m p e))
  | inr e ↦ ap (λ b. if b then Some k else o) e
]

last_above : (n low : ℕ) (ms : List LabelMap) (ks : List Kind) → Rising n low (ms ++ record { at = n; kinds = ks } ∷ []) → low < n
last_above n low [] ks r = r.0
last_above n low (m ∷ ms) ks r = let h = last_above n m.at ms ks r.2 in omega (arith, h, r.0)

reported_last : (n low : ℕ) (ms : List LabelMap) (ks : List Kind) → Rising n low (ms ++ record { at = n; kinds = ks } ∷ []) → label_at (ms ++ record { at = n; kinds = ks } ∷ []) n ≡ Some ks
reported_last n low [] ks r = ap (λ b. if b then Some ks else None) (eq-eqb n n refl)
reported_last n low (m ∷ ms) ks r = let h = last_above n m.at ms ks r.2 in
    refused m.at n m.kinds (label_at (ms ++ record { at = n; kinds = ks } ∷ []) n) (λ e. absurd (omega (arith, h, e))) ∙ reported_last n m.at ms ks r.2

pub reported_here : (n : ℕ) (ks : List Kind) (ms : List LabelMap) → 0 < n → Rising n 0 ms → label_at (telling n ks ms) n ≡ Some ks
reported_here zero ks ms lt r = absurd (omega (arith, lt))
reported_here (suc n) ks ms lt r = reported_last (suc n) 0 (untold (suc n) ms) ks (rising_reported (suc n) ks ms r)

-- what registers hold

pub widened_again : (h : Held) → widened (widened h) ≡ widened h
widened_again H.Nothing = refl
widened_again (H.Scalar t) = refl
widened_again (H.Owned t b) = refl
widened_again (H.Lent t root) = refl
widened_again (H.Credit n) = refl
widened_again (H.Bare t c) = refl

pub never_built : (h : Held) (t d : ℕ) → widened h ≡ H.Owned t (Some d) → ⊥
never_built H.Nothing t d e = absurd (cc)
never_built (H.Scalar u) t d e = absurd (cc)
never_built (H.Owned u b) t d e = absurd (cc)
never_built (H.Lent u root) t d e = absurd (cc)
never_built (H.Credit n) t d e = absurd (cc)
never_built (H.Bare u c) t d e = absurd (cc)

pub wide_alike : (w : Table) (hs : List Held) → Alike w hs (wide_at (held_at hs))
wide_alike w hs = record { held = λ r. widened_again (held_at hs r); built = λ r. record { there = λ t d e. absurd (never_built (held_at hs r) t d e) } }

-- parts of a function

module _ (to : ℕ → ℕ) (f : PlainFunction) where
  pub front_part : (v w z : Written) → Extends w z → HasPart (size v) z to f → HasPart (size v) w to f
  front_part v w z e h = record {
    code = front (size v) w z to f.instrs e h.code;
    reported = λ p low high. h.reported p low (let g = e.grows in omega (arith, g, high)) ∙ e.reported p high;
    labels = λ label p at. h.labels label p (e.placed label p at);
  }

  pub back_part : (v w z : Written) → Extends v w → HasPart (size v) z to f → HasPart (size w) z to f
  back_part v w z e h = record {
    code = back (size v) (size w) z to f.instrs e.grows h.code;
    reported = λ p low high. h.reported p (let g = e.grows in omega (arith, g, low)) high;
    labels = h.labels;
  }

sides_more : (c : PlainCode) (f : PlainFunction) (g : Holding) (ch : Rattle.lower_frame.specs.lowering_relation.Tests.Choice) (m n a b e : ℕ) → SidesLaid c f g ch m a b → SidesLaid c f g ch n b e → (k : ℕ) × SidesLaid c f g ch k a e
sides_more c f g ch zero n a b e x y = (n, subst (λ z. SidesLaid c f g ch n z e) x y)
sides_more c f g ch (suc m) n a b e x y = let r = sides_more c f g ch m n x.0 b e x.2 y in (suc r.0, (x.0, x.1, r.1))

-- one side, from v up to z; clause i is chosen where w was written
module _ (st : Setting) (hs : List Held) (s : Scene) (v w z : Written) (d : Side) (new : List Side) (i : ℕ) (c : PlainCode) (to : ℕ → ℕ) (f : PlainFunction) where
  abbrev kinds : List Kind
  kinds = failed_reported st hs s.type s.root d.known d.read

  -- how the code goes on to the body of the clause
  abbrev Goes : ℕ → Type 0
  Goes place = ((slice_get f.instrs (size w) ≡ Some (I.Jump place)) × (size w < place) × (size z ≡ suc (size w))) ⊎ ((place ≡ size w) × (size z ≡ size w))

  chunk_laid : (g : Holding) (m : ℕ → Kind) (label : ℕ) → Tried c f g (choice_at to s) (size v) d.known d.read i (size w) → slice_get s.entries i ≡ Some label → Goes (to label) → Quiet f (size v) (size z) m → ChunkLaid c f g (choice_at to s) (size v) d.known d.read m (size z)
  chunk_laid g m label tried there goes quiet = record {
    steps = tried.0;
    clause = i;
    end = size w;
    place = to label;
    tests = tried.1;
    entry = slice_get-map to s.entries i ∙ ap (option_map to) there;
    goes = goes;
    quiet = quiet;
  }

  module _ (reported : z.maps ≡ telling (size v) kinds v.maps) (rising : Rising (size v) 0 v.maps) (later : 0 < size v) (has : HasPart (size v) z to f) (sighted : Sighted c f hs s d.known d.read kinds) where
    reported_at : size v < size z → label_at f.labels (size v) ≡ Some kinds
    reported_at lt = has.reported (size v) (omega arith) lt ∙ ap (λ ms. label_at ms (size v)) reported ∙ reported_here (size v) kinds v.maps later rising

    side_quiet : Quiet f (size v) (size z) (at kinds)
    side_quiet = record {
      first = λ lt map e. subst (λ ks. Reports f.registers ks (at kinds)) (same_some kinds map (sym (reported_at lt) ∙ e)) (record { wide = sighted.wide; each = λ r. refl });
      others = λ p low high. has.reported p (omega (arith, low)) high ∙ ap (λ ms. label_at ms p) reported ∙ none_past (size v) 0 (telling (size v) kinds v.maps) p (rising_reported (size v) kinds v.maps rising) low;
    }

    side_laid : (label : ℕ) → Tried c f (wide_at (held_at hs)) (choice_at to s) (size v) d.known d.read i (size w) → slice_get s.entries i ≡ Some label → Goes (to label) → SideLaid c f (wide_at (held_at hs)) (choice_at to s) (size v) (size z)
    side_laid label tried there goes = record {
      later = later;
      known = d.known;
      read = d.read;
      reported = at kinds;
      sight = sighted.sight;
      chunk = chunk_laid (wide_at (held_at hs)) (at kinds) label tried there goes side_quiet;
    }

    -- its label takes what is reported there, or the body of clause i begins there
    side_caught : (label entry : ℕ) → to label ≡ size v → ((g : Holding) → Alike c.types hs g → Tried c f g (choice_at to s) (size v) d.known d.read i (size w)) → slice_get s.entries i ≡ Some entry → Goes (to entry) → size v ≤ size w → (size z ≤ size v → is_some (label_at f.labels (size v)) ≡ true) → CaughtAt c f hs (choice_at to s) (size v) d.known d.read (to label)
    side_caught label entry place tried there goes grows empty = subst (CaughtAt c f hs (choice_at to s) (size v) d.known d.read) (sym place) (by (le_or_less (size z) (size v)))
      where
        begins : (g : Holding) → Tried c f g (choice_at to s) (size v) d.known d.read i (size w) → size z ≤ size v → Goes (to entry) → BeginsBody c f (choice_at to s) (size v) d.known d.read
        begins g t le (inl h) = absurd (let e = h.2 in let x : ⊥ = omega (arith, grows, le, e) in x)
        begins g t le (inr h) =
            let e = h.1 in
            let same : size w ≡ size v = omega (arith, grows, le, e) in
            record {
              steps = t.0;
              clause = i;
              chosen = at_once f c g (choice_at to s) t.0 (size v) d.known d.read i (size w) same t.1;
              entry = slice_get-map to s.entries i ∙ ap (option_map to) there ∙ ap Some (h.0 ∙ same);
            }

        by : (size z ≤ size v) ⊎ (size v < size z) → CaughtAt c f hs (choice_at to s) (size v) d.known d.read (size v)
        by (inl le) = record { following = omega arith; label = empty le; takes = λ g alike. inr (begins g (tried g alike) le goes) }
        by (inr lt) = record {
          following = omega arith;
          label = ap is_some (reported_at lt);
          takes = λ g alike. inl (λ m sight. record { map = kinds; there = reported_at lt; takes = record { wide = sighted.wide; each = sighted.takes g alike m sight } });
        }

-- turns

ruled_all : (s : Scene) (n : ℕ) (k : Known) (new : List Side) → ((p : M.Pattern) → compare p k ≡ D.Misses → Every (Misses p) new) → RuledOut s k n → Every (RuledSide s n) new
ruled_all s n k [] f r = tt
ruled_all s n k (d ∷ new) f r = ((λ j p lt e. (f (row_of p) (r j p lt e)).0), ruled_all s n k new (λ p m. (f p m).1) r)

later_all : (n : ℕ) (ds : List Side) → Every (λ (d : Side). 0 < n) ds → Every (LaterSide n) ds
later_all n [] h = tt
later_all n (d ∷ ds) h = ((λ l. h.0), later_all n ds h.1)

later_more : (m n : ℕ) (ds : List Side) → m ≤ n → Every (LaterSide m) ds → Every (LaterSide n) ds
later_more m n ds le h = every_so (LaterSide m) (LaterSide n) (λ d x l. let y = x l in omega (arith, le, y)) ds h

module _ (tb : Table) (low : ℕ) (c : Choice) (has : HasRows c) where
  ruled_next : (i : ℕ) (ds : List Side) → AreMissed (rows c.rows.items) i ds → Every (RuledSide (scene tb low c) i) ds → Every (RuledSide (scene tb low c) (suc i)) ds
  ruled_next i [] m r = tt
  ruled_next i (d ∷ ds) m r = (one, ruled_next i ds (record { each = λ p e. (m.each p e).1 }) r.1)
    where
      one : RuledSide (scene tb low c) (suc i) d
      one j p lt e = elim (less_or_same i j lt) [
        | inl less ↦ r.0 j p less e
        | inr same ↦ (m.each (row_of p) (ap (λ ps. slice_get ps i) has.same ∙ slice_get-map row_of (patterns_of c) i ∙ ap (option_map row_of) (subst (λ n. slice_get (patterns_of c) n ≡ Some p) same e))).0
      ]

module _ (st : Setting) (hs : List Held) (ch : Choice) where
  abbrev pub reported_of : Side → List Kind
  reported_of d = failed_reported st hs ch.ty (spot_of ch.root) d.known d.read

  module _ (low start : ℕ) (is : IsScene (scene st.types low ch)) (has : HasRows ch) where
    abbrev s : Scene
    s = scene st.types low ch

    -- how the code goes on after the tests of a side
    record Went (v w z : Written) (d : Side) (new : List Side) (j : ℕ) (c : PlainCode) (to : ℕ → ℕ) (f : PlainFunction) : Type 0 where
      label : ℕ
      there : slice_get s.entries j ≡ Some label
      goes : Goes st hs s v w z d new j c to f (to label)
      empty : 0 < size v → size z ≤ size v → is_some (label_at f.labels (size v)) ≡ true

    turn_laid : (last : Bool) (i j : ℕ) (v w z : Written) (ds ds0 : List Side) (d : Side) (es : List Side) → ds0 ≡ ds ++ d ∷ [] → Ready start v ds0 → (g : FollowsIn s (reported_of d) v d ds w es j) → Extends w z → z.maps ≡ w.maps →
        ((c : PlainCode) (to : ℕ → ℕ) (f : PlainFunction) → Premises st hs s i v ds0 z es last c to f → Went v w z d g.new j c to f) → (last ≡ true → Every (RuledSide s i) es → Every (RuledSide s (suc i)) es) → ChoosesLaidIn st hs s i v ds0 z es last
    turn_laid last i j v w z ds ds0 d es e ready g longer same went written = record {
      labelled = (turned st.types ch low start is has (reported_of d) v w ds d es j (subst (Ready start v) e ready) g).0;
      extends = extends_on v w z g.extends longer;
      seen = λ h. let two = every_split (SeenSide s) ds (d ∷ []) (subst (Every (SeenSide s)) e h) in
          subst (Every (SeenSide s)) (sym g.following) (every_append (SeenSide s) ds g.new two.0 (g.laid.seen two.1.0));
      ruled = λ h. let two = every_split (RuledSide s i) ds (d ∷ []) (subst (Every (RuledSide s i)) e h) in
          subst (Every (RuledSide s i)) (sym g.following) (every_append (RuledSide s i) ds g.new two.0 (ruled_all s i d.known g.new g.laid.missed two.1.0));
      written = written;
      later = λ h. let two = every_split (LaterSide (size v)) ds (d ∷ []) (subst (Every (LaterSide (size v))) e h) in
          subst (Every (LaterSide (size z))) (sym g.following) (every_append (LaterSide (size z)) ds g.new (later_more (size v) (size z) ds all two.0)
          (later_all (size z) g.new (every_so (λ (x : Side). 0 < size w) (λ (x : Side). 0 < size z) (λ x y. let b = longer.grows in omega (arith, b, y)) g.new g.laid.later)));
      rising = λ r. subst (Rising (size z) 0) (sym same) (rises d.label g.laid.reports r);
      sides = λ labelled c to f p. by_label c to f p (went c to f p) (every_split Labelled ds (d ∷ []) (subst (Every Labelled) e labelled)).1.0 d.label refl;
      first = λ first c to f m p alike shown. at_first c to f m p (went c to f p) alike shown (unlabelled ds d (sym e ∙ first)).1;
    }
      where
        all : size v ≤ size z
        all = let a = g.extends.grows in let b = longer.grows in omega (arith, a, b)

        rises : (o : Option ℕ) → ReportsSide v o (reported_of d) w → Rising (size v) 0 v.maps → Rising (size z) 0 w.maps
        rises None t r = subst (Rising (size z) 0) (sym t) (rising_higher (size v) (size z) 0 v.maps all r)
        rises (Some l) t r = subst (Rising (size z) 0) (sym t.1) (rising_higher (size v) (size z) 0 (telling (size v) (reported_of d) v.maps) all (rising_reported (size v) (reported_of d) v.maps r))

        tried : (c : PlainCode) (to : ℕ → ℕ) (f : PlainFunction) → Premises st hs s i v ds0 z es last c to f → (h : Holding) → Alike c.types hs h → Tried c f h (choice_at to s) (size v) d.known d.read j (size w)
        tried c to f p h alike = g.laid.by c to f hs h alike p.types (front (size v) w z to f.instrs longer p.part.code)
            (all_caught_less c f hs (choice_at to s) to (size w) (size z) longer.grows g.new (every_split (Caught c f hs (choice_at to s) to (size z)) ds g.new (subst (Every (Caught c f hs (choice_at to s) to (size z))) g.following p.caught)).1)

        by_label : (c : PlainCode) (to : ℕ → ℕ) (f : PlainFunction) → Premises st hs s i v ds0 z es last c to f → Went v w z d g.new j c to f → Labelled d → (o : Option ℕ) → d.label ≡ o → LaidSides hs s v ds0 z c to f
        by_label c to f p on labelled None x = absurd (subst HasLabel x labelled)
        by_label c to f p on labelled (Some l) x =
            let reports = subst (λ o. ReportsSide v o (reported_of d) w) x g.laid.reports in
            let reported : z.maps ≡ telling (size v) (reported_of d) v.maps = same ∙ reports.1 in
            let seen = (every_split (SeenSide s) ds (d ∷ []) (subst (Every (SeenSide s)) e p.seen)).1.0 in
            let later = (every_split (LaterSide (size v)) ds (d ∷ []) (subst (Every (LaterSide (size v))) e p.later)).1.0 labelled in
            let sighted = sighted c f st hs s p.types p.scalars is p.long p.inside p.fresh d.known d.read seen in
            let caught = (every_split (Caught c f hs (choice_at to s) to (size z)) ds g.new (subst (Every (Caught c f hs (choice_at to s) to (size z))) g.following p.caught)).0 in
            let one = side_caught st hs s v w z d g.new j c to f reported p.rising later p.part sighted l on.label (p.part.code.at l (size v) (longer.placed l (size v) reports.0)) (tried c to f p) on.there on.goes g.extends.grows (on.empty later) in (
              1,
              (size z, side_laid st hs s v w z d g.new j c to f reported p.rising later p.part sighted on.label (tried c to f p (wide_at (held_at hs)) (wide_alike c.types hs)) on.there on.goes, refl),
              subst (Every (Caught c f hs (choice_at to s) to (size v))) (sym e) (every_append (Caught c f hs (choice_at to s) to (size v)) ds (d ∷ [])
                  (all_caught_less c f hs (choice_at to s) to (size v) (size z) all ds caught) (subst (CaughtBy c f hs (choice_at to s) to (size v) d.known d.read) (sym x) one, tt)),
            )

        at_first : (c : PlainCode) (to : ℕ → ℕ) (f : PlainFunction) (m : ℕ → Kind) → Premises st hs s i v ds0 z es last c to f → Went v w z d g.new j c to f → Alike c.types hs (held_at hs) →
            ((map : List Kind) → label_at v.maps (size v) ≡ Some map → Reports f.registers map m) → d ≡ first_side → LaidFirst hs s v z c to f m
        at_first c to f m p on alike shown x =
            let reports = subst (λ o. ReportsSide v o (reported_of d) w) (ap (λ (y : Side). y.label) x) g.laid.reports in
            let reported : z.maps ≡ v.maps = same ∙ reports in (
              size z,
              0,
              subst (λ (y : Side). ChunkLaid c f (held_at hs) (choice_at to s) (size v) y.known y.read m (size z)) x
                  (chunk_laid st hs s v w z d g.new j c to f (held_at hs) m on.label (tried c to f p (held_at hs) alike) on.there on.goes (record {
                    first = λ lt map q. shown map (sym (p.part.reported (size v) (omega arith) lt ∙ ap (λ ms. label_at ms (size v)) reported) ∙ q);
                    others = λ q above below. p.part.reported q (omega (arith, above)) below ∙ ap (λ ms. label_at ms q) reported ∙ none_past (size v) 0 v.maps q p.rising above;
                  })),
              refl,
            )

  -- all that choose the clause are there
  pub none_laid : (i : ℕ) (v : Written) (ds : List Side) → NotFirst ds → AreMissed (rows ch.rows.items) i ds → ChoosesLaid st hs ch i v ds v ds true
  none_laid i v ds n missed = record {
    by = λ low start is has ready. record {
      labelled = elim ready [ inl a ↦ a | inr b ↦ absurd (n.not b.0) ];
      extends = same_extends v;
      seen = λ h. h;
      ruled = λ h. h;
      written = λ e h. ruled_next st.types low ch has i ds missed h;
      later = λ h. h;
      rising = λ r. r;
      sides = λ labelled c to f p. (0, refl, p.caught);
      first = λ e c to f m p alike shown. absurd (n.not e);
    };
  }

  pub here_laid : (i : ℕ) (v w : Written) (ds ds0 : List Side) (d : Side) (es : List Side) → ds0 ≡ ds ++ d ∷ [] → Follows st.types (reported_of d) ch v d ds w es i → AreMissed (rows ch.rows.items) i es → ChoosesLaid st hs ch i v ds0 w es true
  here_laid i v w ds ds0 d es e follows missed = record {
    by = λ low start is has ready. let g = follows.by low is has in
        turn_laid low start is has true i i v w w ds ds0 d es e ready g (same_extends w) refl
        (λ c to f p. let x = p.enters refl in record {
          label = x.label;
          there = x.there;
          goes = inr (x.place, refl);
          empty = λ later le. let same : size w ≡ size v = (let b = g.extends.grows in omega (arith, b, le)) in
              subst (λ n. is_some (label_at f.labels n) ≡ true) same (x.reported (omega (arith, later, same)));
        })
        (λ t h. ruled_next st.types low ch has i es missed h);
  }

  pub on_laid : (i j label : ℕ) (v w z : Written) (ds ds0 : List Side) (d : Side) (es : List Side) → ds0 ≡ ds ++ d ∷ [] → Follows st.types (reported_of d) ch v d ds w es j → slice_get ch.entries.items j ≡ Some label → z ≡ added w (I.Jump label) → ChoosesLaid st hs ch i v ds0 z es false
  on_laid i j label v w z ds ds0 d es e follows there jumped = record {
    by = λ low start is has ready. let g = follows.by low is has in
        turn_laid low start is has false i j v w z ds ds0 d es e ready g (subst (Extends w) (sym jumped) (added_extends w (I.Jump label))) (ap (λ (y : Written). y.maps) jumped)
        (λ c to f p.
        let ruled = (every_split (RuledSide (scene st.types low ch) i) ds (d ∷ []) (subst (Every (RuledSide (scene st.types low ch) i)) e p.ruled)).1.0 in
        let ahead = p.onward j label (g.laid.onward i ruled) there in
        record {
          label = label;
          there = there;
          goes = inl (stands w (I.Jump label) (size v) to f.instrs g.extends.grows (subst (λ y. HasFrom (size v) y to f.instrs) jumped p.part.code), omega (arith, ahead, one), one);
          empty = λ later le. absurd (let b = g.extends.grows in omega (arith, b, le, one));
        })
        (λ t h. absurd (cc));
  }
    where
      one : size z ≡ suc (size w)
      one = ap size jumped ∙ one_longer w (I.Jump label)

  -- turns up to the last
  pub record TurnsLaid (i : ℕ) (v0 : Written) (ds0 : List Side) (v : Written) (ds : List Side) : Type 0 where
    pub by : (w : Written) (es : List Side) → ChoosesLaid st hs ch i v ds w es true → ChoosesLaid st hs ch i v0 ds0 w es true

  pub laid_start : (i : ℕ) (v : Written) (ds : List Side) → TurnsLaid i v ds v ds
  laid_start i v ds = record { by = λ w es a. a }

  then_laid : (i : ℕ) (v w z : Written) (ds es fs : List Side) → ChoosesLaid st hs ch i v ds w es false → ChoosesLaid st hs ch i w es z fs true → ChoosesLaid st hs ch i v ds z fs true
  then_laid i v w z ds es fs x y = record {
    by = λ low start is has ready.
        let a = x.by low start is has ready in
        let b = y.by low start is has (inl a.labelled) in
        record {
          labelled = b.labelled;
          extends = extends_on v w z a.extends b.extends;
          seen = λ h. b.seen (a.seen h);
          ruled = λ h. b.ruled (a.ruled h);
          written = b.written;
          later = λ h. b.later (a.later h);
          rising = λ r. b.rising (a.rising r);
          sides = λ labelled c to f p.
              let rb = b.sides a.labelled c to f (second low a b c to f p) in
              let ra = a.sides labelled c to f (before low a b c to f p rb.2) in
              let k = sides_more c f (wide_at (held_at hs)) (choice_at to (scene st.types low ch)) ra.0 rb.0 (size v) (size w) (size z) ra.1 rb.1 in
              (k.0, k.1, ra.2);
          first = λ e c to f m p alike shown.
              let rb = b.sides a.labelled c to f (second low a b c to f p) in
              let ra = a.first e c to f m (before low a b c to f p rb.2) alike shown in
              let k = sides_more c f (wide_at (held_at hs)) (choice_at to (scene st.types low ch)) ra.1 rb.0 ra.0 (size w) (size z) ra.3 rb.1 in
              (ra.0, k.0, ra.2, k.1);
        };
  }
    where
      second : (low : ℕ) → ChoosesLaidIn st hs (scene st.types low ch) i v ds w es false → ChoosesLaidIn st hs (scene st.types low ch) i w es z fs true → (c : PlainCode) (to : ℕ → ℕ) (f : PlainFunction) → Premises st hs (scene st.types low ch) i v ds z fs true c to f → Premises st hs (scene st.types low ch) i w es z fs true c to f
      second low a b c to f p = record {
        types = p.types;
        part = back_part to f v w z a.extends p.part;
        rising = a.rising p.rising;
        seen = a.seen p.seen;
        ruled = a.ruled p.ruled;
        later = a.later p.later;
        scalars = p.scalars;
        long = p.long;
        inside = p.inside;
        fresh = p.fresh;
        caught = p.caught;
        onward = p.onward;
        enters = p.enters;
      }

      before : (low : ℕ) → ChoosesLaidIn st hs (scene st.types low ch) i v ds w es false → ChoosesLaidIn st hs (scene st.types low ch) i w es z fs true → (c : PlainCode) (to : ℕ → ℕ) (f : PlainFunction) → Premises st hs (scene st.types low ch) i v ds z fs true c to f → Every (Caught c f hs (choice_at to (scene st.types low ch)) to (size w)) es → Premises st hs (scene st.types low ch) i v ds w es false c to f
      before low a b c to f p caught = record {
        types = p.types;
        part = front_part to f v w z b.extends p.part;
        rising = p.rising;
        seen = p.seen;
        ruled = p.ruled;
        later = p.later;
        scalars = p.scalars;
        long = p.long;
        inside = p.inside;
        fresh = p.fresh;
        caught = caught;
        onward = λ j label le there. let n = p.onward j label le there in let g = b.extends.grows in omega (arith, n, g);
        enters = λ e. absurd (cc);
      }

  pub laid_next : (i : ℕ) (v0 v w : Written) (ds0 ds es : List Side) (b : Bool) → b ≡ false → TurnsLaid i v0 ds0 v ds → ChoosesLaid st hs ch i v ds w es b → TurnsLaid i v0 ds0 w es
  laid_next i v0 v w ds0 ds es b e t a = record { by = λ z fs h. t.by z fs (then_laid i v w z ds es fs (subst (ChoosesLaid st hs ch i v ds w es) e a) h) }

  pub laid_end : (i : ℕ) (v0 v w : Written) (ds0 ds es : List Side) (b : Bool) → b ≡ true → TurnsLaid i v0 ds0 v ds → ChoosesLaid st hs ch i v ds w es b → ChoosesLaid st hs ch i v0 ds0 w es true
  laid_end i v0 v w ds0 ds es b e t a = t.by w es (subst (ChoosesLaid st hs ch i v ds w es) e a)
