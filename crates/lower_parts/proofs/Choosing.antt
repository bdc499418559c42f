-- The tests of a match, one side after another: what is written leads to the right clauses where the sides do that are
-- still to be written.
use Rattle.std.proofs.Common.{◌≡◌, ◌⊎◌, inl, inr, refl, sym, ap, ◌∙◌, subst, ⊎_elim, arith, ℕ, zero, suc, ◌<◌, ◌≤◌, Bool, true, false, List, [], ◌∷◌, ◌++◌, length, map, Option, Some, None, slice_get, get_or}
use Rattle.std.specs.Prelude.{option_map}
use Rattle.std.specs.Borrow.{Bor}
use Rattle.std.proofs.lemmas.Option.{slice_get-map}
use Rattle.fip_language.specs.Every.{Every}
use Rattle.fip_language.specs.Table.{Table}
use Rattle.fip_language.proofs.Plain.{every_append, every_split}
use Rattle.fip_trees.specs.declared.program.Pattern.{Pattern as Tree}
use Rattle.fip_trees.specs.Tree.{Pattern}
use Rattle.cell_code.specs.declared.code.Instr.{Instr}
use Rattle.cell_code.specs.declared.kind.Kind.{Kind}
use Rattle.cell_code.specs.declared.code.Instr.TheVariants as I
use Rattle.match_knowledge.specs.declared.rows.Row.{Row}
use Rattle.match_knowledge.specs.declared.verdicts.Verdict.{Verdict}
use Rattle.match_knowledge.specs.declared.verdicts.Verdict.TheVariants as D
use Rattle.match_knowledge.specs.Patterns as M
use Rattle.match_knowledge.specs.Known.{Known, compare, is_asks, is_fits, is_last, row_tests, side}
use Rattle.match_knowledge.specs.View.{row, rows}
use Rattle.match_knowledge.proofs.Fewer.{rows_fewer}
use Rattle.match_knowledge.proofs.Steps.{row_at, row_within}
use Rattle.lower_frame.specs.lowering_relation.Choosing.{place}
use Rattle.lower_frame.specs.lowering_relation.Written.{Written, size, Extends, HasFrom, added}
use Rattle.lower_frame.specs.lowering_relation.Spots as S
use Rattle.lower_frame.specs.lowering_relation.Rows.{row_of}
use Rattle.lower_frame.specs.lowering_relation.Opening.{naming}
use Rattle.lower_frame.specs.lowering_relation.Reading.{Reading, reading}
use Rattle.lower_frame.specs.lowering_relation.Landing.{Scene, Side, IsScene, Good, SideGood, AllGood, LeadsTo, RuledOut, place_of_side, test_of, entry}
use Rattle.lower_frame.proofs.lowering_relation.Placing.{same_extends, extends_on, added_extends, one_longer, front, back, stands}
use Rattle.lower_frame.proofs.lowering_relation.Running.{goes_one}
use Rattle.lower_frame.proofs.lowering_relation.Readings.{reading_extends}
use Rattle.lower_frame.proofs.lowering_relation.Openings.{taking_extends, naming_extends}
use Rattle.lower_frame.proofs.lowering_relation.Goods.{good_last, good_tested, good_taken, good_named}
use Rattle.lower_frame.specs.code_rules.Codes.{label_at}
use Rattle.lower_parts.specs.declared.choice.Choice.{Choice}
use Rattle.lower_parts.specs.declared.choice.Side.{Side as Kept}
use Rattle.lower_parts.specs.declared.choice.First.TheVariants as F
use Rattle.lower_frame.specs.Labels.{labels}
use Rattle.lower_parts.specs.Growth.{IsRoom, left, Spends, sides_cost, sides_left, way_cost, way_left}
use Rattle.lower_parts.proofs.Paying.{live_split, left_last, left_branch, reading_pays, naming_pays, pays_last, pays_test, pays_taken, pays_named, pays_side, spends_on, spends_none, spends_less, spends_one}
use Rattle.lower_frame.specs.Positions.{spot_of}
use Rattle.lower_parts.specs.Testing.{ReportsSide}
use Rattle.lower_parts.proofs.Trying.{last_laid, test_laid, chosen_laid, steps_laid_on, follows_laid}
use Rattle.lower_parts.specs.Scenes.{pattern_at, patterns_of, scene, HasRows, side_of, sides_of, first_side, HasLabel, Labelled, Ready, NotFirst, reading_of, IsFirstOf, SettlesBy, Settles, Tests, Then, Advances, Asks, PlacesSide, FollowsIn, Follows, ChoosesIf}
use Rattle.fip_language.proofs.Facts.{less_or_same, same_some}

-- clauses that are added

map_more : {A B : Type 0} (f : A → B) (xs : List A) (x : A) → map f (xs ++ x ∷ []) ≡ map f xs ++ f x ∷ []
map_more f [] x = refl
map_more f (y ∷ xs) x = ap (λ z. f y ∷ z) (map_more f xs x)

pub patterns_added : (ps qs : List (Bor Tree)) (p : Bor Tree) → qs ≡ ps ++ p ∷ [] → map pattern_at qs ≡ map pattern_at ps ++ pattern_at p ∷ []
patterns_added ps qs p e = ap (map pattern_at) e ∙ map_more pattern_at ps p

pub rows_added : (rs ss : List Row) (r : Row) (ps qs : List Pattern) (q : Pattern) → ss ≡ rs ++ r ∷ [] → qs ≡ ps ++ q ∷ [] → row r ≡ row_of q → rows rs ≡ map row_of ps → rows ss ≡ map row_of qs
rows_added rs ss r ps qs q e f g h =
    ap rows e ∙ map_more row rs r ∙ ap (λ x. x ++ row r ∷ []) h ∙ ap (λ x. map row_of ps ++ x ∷ []) g ∙ sym (map_more row_of ps q) ∙ ap (map row_of) (sym f)

pub ruleset adding = (patterns_added, rows_added)

-- the first clause that isn't ruled out

abbrev pub MissedUpTo : List M.Pattern → Known → ℕ → Type 0
MissedUpTo ps k i = (j : ℕ) (p : M.Pattern) → j < i → slice_get ps j ≡ Some p → compare p k ≡ D.Misses

missed_by : (v : Verdict) → is_fits v ≡ false → is_asks v ≡ false → v ≡ D.Misses
missed_by D.Fits e f = absurd (cc)
missed_by D.Misses e f = refl
missed_by D.Asks e f = absurd (cc)

fits_by : (v : Verdict) → is_fits v ≡ true → v ≡ D.Fits
fits_by D.Fits e = refl
fits_by D.Misses e = absurd (cc)
fits_by D.Asks e = absurd (cc)

asks_by : (v : Verdict) → is_asks v ≡ true → v ≡ D.Asks
asks_by D.Fits e = absurd (cc)
asks_by D.Misses e = absurd (cc)
asks_by D.Asks e = refl

pub missed_next : (rs : List Row) (k : Known) (i n : ℕ) (r : Row) (v : Verdict) → n ≡ suc i → i < length rs → r ≡ get_or rs i r → v ≡ compare (row r) k → is_fits v ≡ false → is_asks v ≡ false → MissedUpTo (rows rs) k i → MissedUpTo (rows rs) k n
missed_next rs k i n r v e lt f g x y m j p less at = ⊎_elim (λ a. m j p a at) (λ b. here b) (less_or_same i j (subst (λ z. j < z) e less))
  where
    is : slice_get (rows rs) i ≡ Some (row r)
    is = row_at rs i r lt ∙ ap (λ z. Some (row z)) (sym f)

    here : j ≡ i → compare p k ≡ D.Misses
    here b = ap (λ z. compare z k) (same_some p (row r) (sym at ∙ ap (slice_get (rows rs)) b ∙ is)) ∙ sym g ∙ missed_by v x y

pub first_chosen : (rs : List Row) (k : Known) (i : ℕ) (r : Row) (v : Verdict) → i < length rs → r ≡ get_or rs i r → v ≡ compare (row r) k → is_fits v ≡ true → MissedUpTo (rows rs) k i → IsFirstOf (rows rs) k (F.Chosen i)
first_chosen rs k i r v lt f g x m = ((row r, row_at rs i r lt ∙ ap (λ z. Some (row z)) (sym f), sym g ∙ fits_by v x), m)

pub first_asks : (rs : List Row) (k : Known) (i : ℕ) (b : Bor Row) (v : Verdict) → i < length rs → b.now ≡ get_or rs i b.now → v ≡ compare (row b.now) k → is_asks v ≡ true → MissedUpTo (rows rs) k i → IsFirstOf (rows rs) k (F.Asks b)
first_asks rs k i b v lt f g x m = (i, row_at rs i b.now lt ∙ ap (λ z. Some (row z)) (sym f), sym g ∙ asks_by v x, m)

pub chosen_there : (rs : List Row) (k : Known) (i : ℕ) → IsFirstOf (rows rs) k (F.Chosen i) → i < length rs
chosen_there rs k i f = row_within rs i f.0.0 f.0.1

pub chosen_at : (rs : List Row) (k : Known) (i j : ℕ) → Some i ≡ Some j → IsFirstOf (rows rs) k (F.Chosen i) → j < length rs
chosen_at rs k i j e f = subst (λ z. z < length rs) (same_some i j e) (chosen_there rs k i f)

-- where it asks, fewer tests are left behind its first one
pub asks_fewer : (rs : List Row) (k l : Known) (b : Bor Row) → IsFirstOf (rows rs) k (F.Asks b) → l ≡ side true (row b.now) k → row_tests (rows rs) l < row_tests (rows rs) k
asks_fewer rs k l b f e = subst (λ z. row_tests (rows rs) z < row_tests (rows rs) k) (sym e) (rows_fewer true (row b.now) f.0 (rows rs) k f.1 f.2)

-- the pattern that a row stands for
named_row : (qs : List Pattern) (i : ℕ) (p : M.Pattern) → slice_get (map row_of qs) i ≡ Some p → (q : Pattern) × (slice_get qs i ≡ Some q) × (p ≡ row_of q)
named_row [] i p e = absurd (cc)
named_row (q ∷ qs) zero p e = (q, refl, sym (same_some (row_of q) p e))
named_row (q ∷ qs) (suc i) p e = named_row qs i p e

pub row_pattern : (c : Choice) (i : ℕ) (p : M.Pattern) → HasRows c → slice_get (rows c.rows.items) i ≡ Some p → (q : Pattern) × (slice_get (patterns_of c) i ≡ Some q) × (p ≡ row_of q)
row_pattern c i p h e = named_row (patterns_of c) i p (ap (λ z. slice_get z i) (sym h.same) ∙ e)

ruled_out : (tb : Table) (low : ℕ) (c : Choice) (k : Known) (i : ℕ) → HasRows c → MissedUpTo (rows c.rows.items) k i → RuledOut (scene tb low c) k i
ruled_out tb low c k i h m j p lt e = m j (row_of p) lt (ap (λ z. slice_get z j) h.same ∙ slice_get-map row_of (patterns_of c) j ∙ ap (option_map row_of) e)

-- lists of sides

pub sides_pushed : (ds es : List Kept) (d : Kept) → es ≡ ds ++ d ∷ [] → sides_of es ≡ sides_of ds ++ side_of d ∷ []
sides_pushed ds es d e = ap sides_of e ∙ map_more side_of ds d

-- sides with labels

module _ (s : Scene) (to : ℕ → ℕ) (code : List Instr) where
  placed_same : (a b : ℕ) (o : Option ℕ) → HasLabel o → place_of_side to a o ≡ place_of_side to b o
  placed_same a b None h = absurd h
  placed_same a b (Some l) h = refl

  pub good_start : (a b : ℕ) (ds : List Side) → Every Labelled ds → AllGood s to code a ds → AllGood s to code b ds
  good_start a b [] l g = tt
  good_start a b (d ∷ ds) l g = (subst (λ p. Good s to code p d.known d.read) (placed_same a b d.label l.0) g.0, good_start a b ds l.1 g.1)

-- no side is left over by a side that is taken
pub unlabelled : (ds : List Side) (d : Side) → ds ++ d ∷ [] ≡ first_side ∷ [] → (ds ≡ []) × (d ≡ first_side)
unlabelled [] d e = (refl, cc)
unlabelled (x ∷ []) d e = absurd (cc)
unlabelled (x ∷ y ∷ ds) d e = absurd (cc)

-- tests

-- a label more, before the last instruction
label_before : (v w : Written) (i : Instr) → Extends v w → w.instrs ≡ v.instrs → w.maps ≡ v.maps → Extends (added v i) (added w i)
label_before v w i e f g = record {
  grows = let p = ap (λ x. length (x ++ i ∷ [])) f in omega (arith, p);
  same = λ p j h. ap (λ x. slice_get (x ++ i ∷ []) p) f ∙ h;
  placed = λ l p h. e.placed l p h;
  reported = λ p h. ap (λ x. label_at x p) g;
}

pub tested : (p : M.Pattern) (k : Known) (root : S.Spot) (x y : Reading) (w z : Written) (read : List ℕ) (a : Rattle.lower_frame.specs.lowering_relation.Reading.Asked) (l : ℕ) (d : Side) → Rattle.lower_frame.specs.lowering_relation.Reading.asked p k root ≡ Some a → y ≡ reading p k root x → Extends y.written w → w.instrs ≡ y.written.instrs → w.maps ≡ y.written.maps → z ≡ added w (test_of a.register a.head l) → read ≡ y.read → d.known ≡ side false p k → d.read ≡ y.read → d.label ≡ Some l → labels w ≡ suc (labels y.written) → Tests p k root x z read d
tested p k root x y w z read a l d as' e f g gm h r dk dr dl ll = record {
  found = a;
  target = l;
  asks = as';
  known = dk;
  seen = dr ∙ ap (λ (u : Reading). u.read) e;
  label = dl;
  read_on = r ∙ ap (λ (u : Reading). u.read) e;
  extends = subst (λ u. Extends (added u.written i) z) e (subst (Extends (added y.written i)) (sym h) (label_before y.written w i f g gm));
  as_long = ap size h ∙ ap (λ u. length (u ++ i ∷ [])) (g ∙ ap (λ (u : Reading). u.written.instrs) e);
  one_label = ap labels h ∙ ll ∙ ap (λ (u : Reading). suc (labels u.written)) e;
  maps = ap (λ (u : Written). u.maps) h ∙ gm ∙ ap (λ (u : Reading). u.written.maps) e;
}
  where
    i : Instr
    i = test_of a.register a.head l

pub ruleset testing = (tested)

pub tests_longer : (p : M.Pattern) (k : Known) (root : S.Spot) (x : Reading) (w : Written) (read : List ℕ) (d : Side) → Tests p k root x w read d → size x.written ≤ size w
tests_longer p k root x w read d t =
    (extends_on x.written (added y.written test) w (extends_on x.written y.written (added y.written test) (reading_extends p k root x) (added_extends y.written test)) t.extends).grows
  where
    y : Reading
    y = reading p k root x

    test : Instr
    test = test_of t.found.register t.found.head t.target

pub settles_longer : (c : Choice) (i : ℕ) (x y : Reading) → Settles c i x y → size x.written ≤ size y.written
settles_longer c i x y t = by c.takes t.by
  where
    by : (b : Bool) → SettlesBy b t.pattern (spot_of c.root) x y → size x.written ≤ size y.written
    by true e = subst (λ z. size x.written ≤ size z) (sym e) (taking_extends t.pattern (spot_of c.root) x.written).grows
    by false e = subst (λ (z : Reading). size x.written ≤ size z.written) (sym e) (naming_extends t.pattern (spot_of c.root) x).grows

pub places_long : (v u : Written) (o : Option ℕ) (kinds : List Kind) → PlacesSide v o kinds u → size u ≡ size v
places_long v u None kinds x = ap size x
places_long v u (Some n) kinds x = x.1

-- steps

every_none : (ds : List Side) → ds ++ [] ≡ ds
every_none [] = refl
every_none (d ∷ ds) = ap (λ x. d ∷ x) (every_none ds)

pub asks_last : (tb : Table) (c : Choice) (p : M.Pattern) (v : Written) (k l : Known) (read : List ℕ) (ds : List Side) → is_last tb p k ≡ true → l ≡ side true p k → Asks tb c p v k read ds v l read ds
asks_last tb c p v k l read ds last e = record {
  by = λ low i q is there same asks. record {
    new = [];
    following = sym (every_none ds);
    labelled = tt;
    extends = same_extends v;
    by = λ to code h good none.
        good_last (scene tb low c) is to code (size v) k read i q there (ap (λ z. compare z k) (sym same) ∙ asks) (ap (λ z. is_last tb z k) (sym same) ∙ last)
        (subst (λ z. Good (scene tb low c) to code (size v) z read) (e ∙ ap (λ z. side true z k) same) good);
    laid = last_laid (scene tb low c) is p k l read v i q last e there same asks;
  };
  few = λ i at live asks n room. pays_last n tb (rows c.rows.items) k l read ds v (subst (λ z. left tb (rows c.rows.items) z ≤ left tb (rows c.rows.items) k) (sym e) (left_last tb c.rows.items k i p at asks live last));
}

pub asks_test : (tb : Table) (c : Choice) (p : M.Pattern) (v w : Written) (k l : Known) (read read_on : List ℕ) (ds es : List Side) (d : Side) → is_last tb p k ≡ false → Tests p k (spot_of c.root) (reading_of v read) w read_on d → es ≡ ds ++ d ∷ [] → l ≡ side true p k → Asks tb c p v k read ds w l read_on es
asks_test tb c p v w k l read read_on ds es d unsettled t e f = record {
  by = λ low i q is there same asks. record {
    new = d ∷ [];
    following = e;
    labelled = (subst HasLabel (sym t.label) tt, tt);
    extends = extends_on v (added y.written test) w (extends_on v y.written (added y.written test) (reading_extends p k (spot_of c.root) x) (added_extends y.written test)) t.extends;
    by = λ to code h good others. by_row low i q is there same asks to code h good others;
    laid = test_laid (scene tb low c) is p k l read read_on v w i q d unsettled t f there same asks;
  };
  few = λ i at live asks n room.
      subst (λ z. Spends (way_cost n tb (rows c.rows.items) None k read ds) (way_left n tb (rows c.rows.items) None k ds) v (way_cost n tb (rows c.rows.items) None z read_on es) (way_left n tb (rows c.rows.items) None z es) w) (sym f)
      (pays_test n tb (rows c.rows.items) k (side true p k) (side false p k) read read_on ds es d x y v w (left_branch tb c.rows.items k i p at asks live unsettled) e t.known (reading_pays n p k (spot_of c.root) x room.within) refl refl (sym t.read_on)
      (t.as_long ∙ one_longer y.written test) t.one_label);
}
  where
    x : Reading
    x = reading_of v read

    y : Reading
    y = reading p k (spot_of c.root) x

    test : Instr
    test = test_of t.found.register t.found.head t.target

    by_row : (low i : ℕ) (q : Pattern) (is : IsScene (scene tb low c)) → slice_get (patterns_of c) i ≡ Some q → p ≡ row_of q → compare p k ≡ D.Asks → (to : ℕ → ℕ) (code : List Instr) → HasFrom (size v) w to code → Good (scene tb low c) to code (size w) l read_on → AllGood (scene tb low c) to code 0 (d ∷ []) → Good (scene tb low c) to code (size v) k read
    by_row low i q is there same asks to code h good others =
        good_tested (scene tb low c) is (size v) to code k x i q t.found t.target there
        (ap (λ z. compare z k) (sym same) ∙ asks)
        (subst (λ z. Rattle.lower_frame.specs.lowering_relation.Reading.asked z k (spot_of c.root) ≡ Some t.found) same t.asks)
        (omega arith)
        (subst (λ z. HasFrom (size v) (added (reading z k (spot_of c.root) x).written test) to code) same (front (size v) (added y.written test) w to code t.extends h))
        (subst (λ z. Good (scene tb low c) to code (size (added (reading z k (spot_of c.root) x).written test)) (side true z k) (reading z k (spot_of c.root) x).read) same
        (subst (λ z. Good (scene tb low c) to code z (side true p k) y.read) t.as_long
        (subst (λ z. Good (scene tb low c) to code (size w) z y.read) f
        (subst (λ z. Good (scene tb low c) to code (size w) l z) t.read_on good))))
        (subst (λ z. Good (scene tb low c) to code (to t.target) (side false z k) (reading z k (spot_of c.root) x).read) same
        (subst (λ z. Good (scene tb low c) to code z (side false p k) y.read) (ap (place_of_side to 0) t.label)
        (subst (λ z. Good (scene tb low c) to code (place_of_side to 0 d.label) z y.read) t.known
        (subst (λ z. Good (scene tb low c) to code (place_of_side to 0 d.label) d.known z) t.seen others.0))))

pub advances_asks : (tb : Table) (c : Choice) (v w : Written) (k l : Known) (read read_on : List ℕ) (ds es : List Side) (b : Bor Row) → IsFirstOf (rows c.rows.items) k (F.Asks b) → Asks tb c (row b.now) v k read ds w l read_on es → Advances tb c v k read ds w l read_on es None
advances_asks tb c v w k l read read_on ds es b f a = record {
  by = λ low is has. let q = row_pattern c f.0 (row b.now) has f.1 in a.by low f.0 q.0 is q.1 q.2 f.2;
  few = a.few f.0 f.1 (live_split (rows c.rows.items) k f.0 0 (row b.now) f.1 f.2 f.3) f.2;
}

pub advances_chosen : (tb : Table) (c : Choice) (v w : Written) (k : Known) (read read_on : List ℕ) (ds : List Side) (i : ℕ) → IsFirstOf (rows c.rows.items) k (F.Chosen i) → Settles c i (reading_of v read) (reading_of w read_on) → Advances tb c v k read ds w k read_on ds (Some i)
advances_chosen tb c v w k read read_on ds i f t = record {
  by = λ low is has. record {
    new = [];
    following = sym (every_none ds);
    labelled = tt;
    extends = settled_extends c.takes t.by;
    by = λ to code h leads none. by_takes low is has to code h leads c.takes refl t.by;
    laid = chosen_laid (scene tb low c) is k read read_on v w i q t.there (fit has) t.by;
  };
  few = λ n room. paid n room c.takes t.by;
}
  where
    q : Pattern
    q = t.pattern

    root : S.Spot
    root = spot_of c.root

    x : Reading
    x = reading_of v read

    paid : (n : ℕ) → IsRoom n root → (b : Bool) → SettlesBy b q root x (reading_of w read_on) → Spends (way_cost n tb (rows c.rows.items) None k read ds) (way_left n tb (rows c.rows.items) None k ds) v (way_cost n tb (rows c.rows.items) (Some i) k read_on ds) (way_left n tb (rows c.rows.items) (Some i) k ds) w
    paid n room true e = pays_taken n tb (rows c.rows.items) k read read_on ds i q root v w room e
    paid n room false e = pays_named n tb (rows c.rows.items) k read read_on ds i x (naming q root x) v w (naming_pays n q root x room.within) refl refl (ap (λ (u : Reading). u.written) (sym e))

    settled_extends : (b : Bool) → SettlesBy b q root x (reading_of w read_on) → Extends v w
    settled_extends true e = subst (Extends v) (sym e) (taking_extends q root v)
    settled_extends false e = subst (Extends v) (sym (ap (λ (u : Reading). u.written) e)) (naming_extends q root x)

    fit : HasRows c → compare (row_of q) k ≡ D.Fits
    fit has = let p = row_pattern c i f.0.0 has f.0.1 in
        ap (λ z. compare z k) (ap row_of (same_some q p.0 (sym t.there ∙ p.1)) ∙ sym p.2) ∙ f.0.2

    by_takes : (low : ℕ) (is : IsScene (scene tb low c)) → HasRows c → (to : ℕ → ℕ) (code : List Instr) → HasFrom (size v) w to code → LeadsTo (scene tb low c) to code (size w) i → (b : Bool) → c.takes ≡ b → SettlesBy b q root x (reading_of w read_on) → Good (scene tb low c) to code (size v) k read
    by_takes low is has to code h leads true e s =
        good_taken (scene tb low c) is (size v) to code k read v i q e t.there (ruled_out tb low c k i has f.1) (fit has) (omega arith)
        (subst (λ z. HasFrom (size v) z to code) s h) (subst (λ z. LeadsTo (scene tb low c) to code (size z) i) s leads)
    by_takes low is has to code h leads false e s =
        good_named (scene tb low c) is (size v) to code k x i q e t.there (ruled_out tb low c k i has f.1) (fit has) (omega arith)
        (subst (λ z. HasFrom (size v) z to code) (ap (λ (u : Reading). u.written) s) h) (subst (λ z. LeadsTo (scene tb low c) to code (size z) i) (ap (λ (u : Reading). u.written) s) leads)

-- steps up to a clause: those that follow are said of the whole
pub record Goes (tb : Table) (c : Choice) (v0 : Written) (k0 : Known) (read0 : List ℕ) (ds0 : List Side) (v : Written) (k : Known) (read : List ℕ) (ds : List Side) : Type 0 where
  pub by : (w : Written) (l : Known) (read_on : List ℕ) (es : List Side) (o : Option ℕ) → Advances tb c v k read ds w l read_on es o → Advances tb c v0 k0 read0 ds0 w l read_on es o

pub goes_start : (tb : Table) (c : Choice) (v : Written) (k : Known) (read : List ℕ) (ds : List Side) → Goes tb c v k read ds v k read ds
goes_start tb c v k read ds = record { by = λ w l r es o a. a }

append_again : (xs ys zs : List Side) → (xs ++ ys) ++ zs ≡ xs ++ (ys ++ zs)
append_again [] ys zs = refl
append_again (x ∷ xs) ys zs = ap (λ z. x ∷ z) (append_again xs ys zs)

advances_on : (tb : Table) (c : Choice) (v w z : Written) (k l m : Known) (ra rb rc : List ℕ) (ds es fs : List Side) (o : Option ℕ) → Advances tb c v k ra ds w l rb es None → Advances tb c w l rb es z m rc fs o → Advances tb c v k ra ds z m rc fs o
advances_on tb c v w z k l m ra rb rc ds es fs o a b = record {
  by = λ low is has. let p = a.by low is has in let q = b.by low is has in record {
    new = p.new ++ q.new;
    following = q.following ∙ ap (λ x. x ++ q.new) p.following ∙ append_again ds p.new q.new;
    labelled = every_append Labelled p.new q.new p.labelled q.labelled;
    extends = extends_on v w z p.extends q.extends;
    by = λ to code h next good.
        let two = every_split (SideGood (scene tb low c) to code 0) p.new q.new good in
        p.by to code (front (size v) w z to code q.extends h) (q.by to code (back (size v) (size w) z to code p.extends.grows h) next two.1) two.0;
    laid = steps_laid_on (scene tb low c) is v w z k l m ra rb rc p.new q.new o p.extends q.extends p.laid q.laid;
  };
  few = λ n room. spends_on _ _ _ _ _ _ v w z (a.few n room) (b.few n room);
}

pub goes_next : (tb : Table) (c : Choice) (v0 : Written) (k0 : Known) (read0 : List ℕ) (ds0 : List Side) (v : Written) (k : Known) (read : List ℕ) (ds : List Side) (w : Written) (l : Known) (read_on : List ℕ) (es : List Side) (o : Option ℕ) → o ≡ None → Goes tb c v0 k0 read0 ds0 v k read ds → Advances tb c v k read ds w l read_on es o → Goes tb c v0 k0 read0 ds0 w l read_on es
goes_next tb c v0 k0 read0 ds0 v k read ds w l read_on es o e g a = record {
  by = λ z m rc fs q b. g.by z m rc fs q (advances_on tb c v w z k l m read read_on rc ds es fs q (subst (Advances tb c v k read ds w l read_on es) e a) b);
}

-- from the place of a side on
pub follows_to : (tb : Table) (kinds : List Kind) (c : Choice) (v u w : Written) (d : Side) (k l : Known) (ra rb : List ℕ) (ds es : List Side) (i : ℕ) (o : Option ℕ) → PlacesSide v d.label kinds u → o ≡ Some i → k ≡ d.known → ra ≡ d.read → Advances tb c u k ra ds w l rb es o → Follows tb kinds c v d ds w es i
follows_to tb kinds c v u w d k l ra rb ds es i o p e f g a = record {
  by = λ low is has. let q = a.by low is has in record {
    new = q.new;
    following = q.following;
    labelled = q.labelled;
    extends = extends_on v u w (side_extends d.label p) q.extends;
    by = λ to code h leads good.
        at_label low to code d.label p (front (size v) u w to code q.extends h)
        (subst (λ z. Good (scene tb low c) to code (size u) d.known z) g (subst (λ z. Good (scene tb low c) to code (size u) z ra) f
        (q.by to code (back (size v) (size u) w to code (side_extends d.label p).grows h) (subst (Then (scene tb low c) to code w l rb) (sym e) leads) good)));
    laid = follows_laid (scene tb low c) is v u w d k l ra rb q.new i o (side_long d.label p) (side_extends d.label p) e f g q.laid kinds (side_reports q.extends q.laid.maps d.label p);
  };
  few = λ n room. pays_side n tb (rows c.rows.items) d k ra ds es (way_cost n tb (rows c.rows.items) o l rb es) (way_left n tb (rows c.rows.items) o l es) v u w f (side_long d.label p) (side_labels d.label p)
      (ap (λ z. way_cost n tb (rows c.rows.items) z l rb es) e) (ap (λ z. way_left n tb (rows c.rows.items) z l es) e) (a.few n room);
}
  where
    side_extends : (o' : Option ℕ) → PlacesSide v o' kinds u → Extends v u
    side_extends None x = subst (Extends v) (sym x) (same_extends v)
    side_extends (Some n) x = x.0

    side_long : (o' : Option ℕ) → PlacesSide v o' kinds u → size u ≡ size v
    side_long None x = ap size x
    side_long (Some n) x = x.1

    side_labels : (o' : Option ℕ) → PlacesSide v o' kinds u → labels u ≡ labels v
    side_labels None x = ap labels x
    side_labels (Some n) x = x.3

    side_reports : Extends u w → w.maps ≡ u.maps → (o' : Option ℕ) → PlacesSide v o' kinds u → ReportsSide v o' kinds w
    side_reports more same None x = same ∙ ap (λ (y : Written). y.maps) x
    side_reports more same (Some n) x = (more.placed n (size v) x.2, same ∙ x.4)

    at_label : (low : ℕ) (to : ℕ → ℕ) (code : List Instr) (o' : Option ℕ) → PlacesSide v o' kinds u → HasFrom (size v) u to code → Good (scene tb low c) to code (size u) d.known d.read → Good (scene tb low c) to code (place_of_side to (size v) o') d.known d.read
    at_label low to code None x h good = subst (λ z. Good (scene tb low c) to code (size z) d.known d.read) x good
    at_label low to code (Some n) x h good = subst (λ z. Good (scene tb low c) to code z d.known d.read) (x.1 ∙ sym (h.at n (size v) x.2)) good

-- turns

leads_jump : (s : Scene) (v : Written) (to : ℕ → ℕ) (code : List Instr) (n i : ℕ) → n ≤ size v → HasFrom n (added v (I.Jump (entry s i))) to code → LeadsTo s to code (size v) i
leads_jump s v to code n i le h ds = goes_one code (place (size v) ds) (place (to (entry s i)) ds) (I.Jump (to (entry s i))) (stands v (I.Jump (entry s i)) n to code le h) refl

module _ (tb : Table) (c : Choice) where
  pub chooses_none : (i : ℕ) (v : Written) (ds : List Side) → NotFirst ds → ChoosesIf tb c i v ds v ds true
  chooses_none i v ds n = record {
    by = λ low start is has ready. record {
      labelled = ⊎_elim (λ a. a) (λ b. absurd (n.not b.0)) ready;
      extends = same_extends v;
      by = λ to code h here good. good;
    };
    few = λ n room. spends_none _ _ _ _ v (omega arith) (omega arith);
  }

  module _ (low start : ℕ) (is : IsScene (scene tb low c)) (has : HasRows c) where
    abbrev s : Scene
    s = scene tb low c

    taken_labelled : (v : Written) (ds : List Side) (d : Side) → Ready start v (ds ++ d ∷ []) → Every Labelled ds × ((start ≡ size v) ⊎ HasLabel d.label)
    taken_labelled v ds d (inl a) = let two = every_split Labelled ds (d ∷ []) a in (two.0, inr two.1.0)
    taken_labelled v ds d (inr b) = let two = unlabelled ds d b.0 in (subst (Every Labelled) (sym two.0) tt, inl b.1)

    pub turned : (kinds : List Kind) (v w : Written) (ds : List Side) (d : Side) (es : List Side) (i : ℕ) → Ready start v (ds ++ d ∷ []) → FollowsIn s kinds v d ds w es i → Every Labelled es × ((to : ℕ → ℕ) (code : List Instr) → HasFrom (size v) w to code → LeadsTo s to code (size w) i → AllGood s to code start es → AllGood s to code start (ds ++ d ∷ []))
    turned kinds v w ds d es i ready f = (labelled, λ to code h leads good. whole to code h leads (subst (AllGood s to code start) f.following good))
      where
        before : Every Labelled ds × ((start ≡ size v) ⊎ HasLabel d.label)
        before = taken_labelled v ds d ready

        labelled : Every Labelled es
        labelled = subst (Every Labelled) (sym f.following) (every_append Labelled ds f.new before.0 f.labelled)

        same_place : (to : ℕ → ℕ) (o : Option ℕ) → (start ≡ size v) ⊎ HasLabel o → place_of_side to (size v) o ≡ place_of_side to start o
        same_place to None (inl e) = sym e
        same_place to None (inr n) = absurd n
        same_place to (Some l) x = refl

        whole : (to : ℕ → ℕ) (code : List Instr) → HasFrom (size v) w to code → LeadsTo s to code (size w) i → AllGood s to code start (ds ++ f.new) → AllGood s to code start (ds ++ d ∷ [])
        whole to code h leads good =
            let two = every_split (SideGood s to code start) ds f.new good in
            let g = f.by to code h leads (good_start s to code start 0 f.new f.labelled two.1) in
            every_append (SideGood s to code start) ds (d ∷ []) two.0 (subst (λ p. Good s to code p d.known d.read) (same_place to d.label before.1) g, tt)

  pub chooses_here : (kinds : List Kind) (i : ℕ) (v w : Written) (ds ds0 : List Side) (d : Side) (es : List Side) → ds0 ≡ ds ++ d ∷ [] → Follows tb kinds c v d ds w es i → ChoosesIf tb c i v ds0 w es true
  chooses_here kinds i v w ds ds0 d es e f = record {
    by = λ low start is has ready.
        let g = f.by low is has in
        let t = turned low start is has kinds v w ds d es i (subst (Ready start v) e ready) g in
        record {
          labelled = t.0;
          extends = g.extends;
          by = λ to code h here good. subst (AllGood (scene tb low c) to code start) (sym e) (t.1 to code h here good);
        };
    few = λ n room. subst (λ z. Spends (sides_cost n tb (rows c.rows.items) z) (sides_left n tb (rows c.rows.items) z) v (sides_cost n tb (rows c.rows.items) es) (sides_left n tb (rows c.rows.items) es) w) (sym e) (spends_less _ _ _ _ v w (f.few n room));
  }

  pub chooses_on : (kinds : List Kind) (i j label : ℕ) (v w z : Written) (ds ds0 : List Side) (d : Side) (es : List Side) → ds0 ≡ ds ++ d ∷ [] → Follows tb kinds c v d ds w es j → label ≡ get_or c.entries.items j 0 → z ≡ added w (I.Jump label) → ChoosesIf tb c i v ds0 z es false
  chooses_on kinds i j label v w z ds ds0 d es e f k m = record {
    by = λ low start is has ready.
        let g = f.by low is has in
        let t = turned low start is has kinds v w ds d es j (subst (Ready start v) e ready) g in
        record {
          labelled = t.0;
          extends = extends_on v w z g.extends (subst (Extends w) (sym jumped) (added_extends w jump));
          by = λ to code h here good.
              let h' : HasFrom (size v) (added w jump) to code = subst (λ x. HasFrom (size v) x to code) jumped h in
              subst (AllGood (scene tb low c) to code start) (sym e)
              (t.1 to code (front (size v) w (added w jump) to code (added_extends w jump) h') (leads_jump (scene tb low c) w to code (size v) j g.extends.grows h') good);
        };
    few = λ n room. subst (λ q. Spends (sides_cost n tb (rows c.rows.items) q) (sides_left n tb (rows c.rows.items) q) v (sides_cost n tb (rows c.rows.items) es) (sides_left n tb (rows c.rows.items) es) z) (sym e)
        (spends_one _ _ _ _ v w z (ap size jumped ∙ one_longer w jump) (ap labels jumped) (f.few n room));
  }
    where
      jump : Instr
      jump = I.Jump (get_or c.entries.items j 0)

      jumped : z ≡ added w jump
      jumped = m ∙ ap (λ x. added w (I.Jump x)) k

  -- turns up to the last
  pub record Turns (i : ℕ) (v0 : Written) (ds0 : List Side) (v : Written) (ds : List Side) : Type 0 where
    pub by : (w : Written) (es : List Side) → ChoosesIf tb c i v ds w es true → ChoosesIf tb c i v0 ds0 w es true

  pub turns_start : (i : ℕ) (v : Written) (ds : List Side) → Turns i v ds v ds
  turns_start i v ds = record { by = λ w es a. a }

  chooses_then : (i : ℕ) (v w z : Written) (ds es fs : List Side) → ChoosesIf tb c i v ds w es false → ChoosesIf tb c i w es z fs true → ChoosesIf tb c i v ds z fs true
  chooses_then i v w z ds es fs a b = record {
    by = λ low start is has ready.
        let p = a.by low start is has ready in
        let q = b.by low start is has (inl p.labelled) in
        record {
          labelled = q.labelled;
          extends = extends_on v w z p.extends q.extends;
          by = λ to code h here good.
              p.by to code (front (size v) w z to code q.extends h) tt (q.by to code (back (size v) (size w) z to code p.extends.grows h) here good);
        };
    few = λ n room. spends_on _ _ _ _ _ _ v w z (a.few n room) (b.few n room);
  }

  pub turns_next : (i : ℕ) (v0 v w : Written) (ds0 ds es : List Side) (b : Bool) → b ≡ false → Turns i v0 ds0 v ds → ChoosesIf tb c i v ds w es b → Turns i v0 ds0 w es
  turns_next i v0 v w ds0 ds es b e t a = record {
    by = λ z fs h. t.by z fs (chooses_then i v w z ds es fs (subst (ChoosesIf tb c i v ds w es) e a) h);
  }

  pub turns_end : (i : ℕ) (v0 v w : Written) (ds0 ds es : List Side) (b : Bool) → b ≡ true → Turns i v0 ds0 v ds → ChoosesIf tb c i v ds w es b → ChoosesIf tb c i v0 ds0 w es true
  turns_end i v0 v w ds0 ds es b e t a = t.by w es (subst (ChoosesIf tb c i v ds w es) e a)

pub ruleset turning = (chooses_none, chooses_here, chooses_on)
