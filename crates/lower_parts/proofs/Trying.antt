-- How the tests of a match are laid out: what is read and taken apart, and one step after another.
use Rattle.std.proofs.Common.{◌≡◌, ◌⊎◌, inl, inr, refl, sym, ap, ◌∙◌, subst, arith, ℕ, suc, ◌<◌, ◌≤◌, Bool, true, false, List, [], ◌∷◌, ◌++◌, Option, Some, None, slice_get}
use Rattle.std.specs.Prelude.{if◌then◌else◌}
use Rattle.fip_language.specs.Every.{Every}
use Rattle.fip_language.proofs.Plain.{every_append, every_so, every_split}
use Rattle.fip_language.proofs.Search.{le_or_less}
use Rattle.fip_trees.specs.Tree.{Pattern, BinderPattern, LiteralPattern, ConstructorPattern, Patterns, NoPatterns, MorePatterns}
use Rattle.cell_code.specs.declared.code.Instr.{Instr}
use Rattle.cell_code.specs.declared.code.Instr.TheVariants as I
use Rattle.cell_code.specs.declared.kind.Kind.{Kind}
use Rattle.cell_code.specs.Plain.{PlainFunction, PlainCode}
use Rattle.match_knowledge.specs.declared.heads.Head.{Head}
use Rattle.match_knowledge.specs.declared.heads.Head.TheVariants.{Number, Tag}
use Rattle.match_knowledge.specs.declared.verdicts.Verdict.{Verdict}
use Rattle.match_knowledge.specs.declared.verdicts.Verdict.TheVariants as D
use Rattle.match_knowledge.specs.Patterns as M
use Rattle.match_knowledge.specs.Patterns.{IsPattern}
use Rattle.match_knowledge.specs.Known.{Known, Open, Is, Knowns, NoKnowns, MoreKnowns, compare, is_asks, is_last, side}
use Rattle.lower_frame.specs.lowering_relation.Written.{Written, size, settled, Extends, HasFrom, added}
use Rattle.lower_frame.specs.lowering_relation.Rows.{row_of}
use Rattle.lower_frame.specs.lowering_relation.Landing.{Scene, Side, IsScene, test_of}
use Rattle.lower_frame.specs.lowering_relation.Spots.{Spot, At, Spots, NoSpots, MoreSpots, register}
use Rattle.lower_frame.specs.lowering_relation.Reading.{Reading, read_if, read_one, contains, reading, reading_first}
use Rattle.lower_frame.specs.lowering_relation.Opening.{as_many, take_if, taking, taking_all, names_any, naming, naming_all}
use Rattle.lower_frame.proofs.lowering_relation.Placing.{same_extends, extends_on, added_extends, one_longer, front, back, stands}
use Rattle.lower_frame.proofs.lowering_relation.Readings.{read_one_extends, reading_extends}
use Rattle.lower_frame.proofs.lowering_relation.Openings.{taking_extends, naming_extends}
use Rattle.lower_frame.specs.lowering_relation.Describing.{Holding}
use Rattle.lower_frame.specs.lowering_relation.declared.held.Held.{Held}
use Rattle.lower_parts.specs.Testing.{Alike, choice_at, CaughtAt, CaughtBy, Caught, Tried, TriedOn, StepsLaid, FollowsLaid, ReportsSide, SeenAt, SeenSide, Misses}
use Rattle.lower_parts.proofs.Seeing.{last_seen, side_seen}
use Rattle.lower_parts.proofs.Missing.{side_misses}
use Rattle.lower_parts.specs.Scenes.{reading_of, SettlesBy, Tests}
use Rattle.lower_frame.specs.lowering_relation.Tests.{Choice, TestLaid, TestsLaid, SettledLaid, ReadOne, ReadsLaid, ReadsFirst, TakeLaid, TakesLaid, TakeAll, NamesLaid, NameAll}
use Rattle.fip_language.proofs.Facts.{same_some}
use Rattle.lower_frame.proofs.lowering_relation.Openings.{take_if_extends as if_extends}

-- a part is read once

one_if : (b : Bool) (x : Reading) (r i d : ℕ) (n : ℕ) (to : ℕ → ℕ) (f : PlainFunction) → contains d x.read ≡ b → n ≤ size x.written → HasFrom n (read_if b x r i d).written to f.instrs → ReadOne f (size x.written) r i d x.read (size (read_if b x r i d).written) (read_if b x r i d).read
one_if true x r i d n to f e le h = inl (e, refl, refl)
one_if false x r i d n to f e le h = inr (e, stands x.written (I.Peek d r i) n to f.instrs le h, one_longer x.written (I.Peek d r i), refl)

one_laid : (x : Reading) (r i d : ℕ) (n : ℕ) (to : ℕ → ℕ) (f : PlainFunction) → n ≤ size x.written → HasFrom n (read_one x r i d).written to f.instrs → ReadOne f (size x.written) r i d x.read (size (read_one x r i d).written) (read_one x r i d).read
one_laid x r i d n to f le h = one_if (contains d x.read) x r i d n to f refl le h

maps_if : (b : Bool) (x : Reading) (r i d : ℕ) → (read_if b x r i d).written.maps ≡ x.written.maps
maps_if true x r i d = refl
maps_if false x r i d = refl

either_maps : (b : Bool) (x y z : Reading) → y.written.maps ≡ x.written.maps → z.written.maps ≡ x.written.maps → (if b then y else z).written.maps ≡ x.written.maps
either_maps true x y z a c = a
either_maps false x y z a c = c

mutual
  pub reading_maps : (p : M.Pattern) (k : Known) (s : Spot) (x : Reading) → (reading p k s x).written.maps ≡ x.written.maps
  reading_maps M.Any k s x = refl
  reading_maps (M.Test t h ps) (Open out) s x = refl
  reading_maps (M.Test t h ps) (Is g ks) (At r fs) x = first_maps ps ks fs r 0 x

  first_maps : (ps : M.Patterns) (ks : Knowns) (ss : Spots) (r i : ℕ) (x : Reading) → (reading_first ps ks ss r i x).written.maps ≡ x.written.maps
  first_maps M.NoPatterns ks ss r i x = refl
  first_maps (M.MorePatterns p ps) NoKnowns ss r i x = refl
  first_maps (M.MorePatterns p ps) (MoreKnowns k ks) NoSpots r i x = refl
  first_maps (M.MorePatterns p ps) (MoreKnowns k ks) (MoreSpots s ss) r i x =
      either_maps (is_asks (compare p k)) x (reading p k s (read_one x r i (register s))) (reading_first ps ks ss r (suc i) x)
      (reading_maps p k s (read_one x r i (register s)) ∙ maps_if (contains (register s) x.read) x r i (register s))
      (first_maps ps ks ss r (suc i) x)

-- the position that is asked for, and those above it

module _ (n : ℕ) (to : ℕ → ℕ) (f : PlainFunction) where
  asks_or : (b : Bool) (p : M.Pattern) (ps : M.Patterns) (k : Known) (ks : Knowns) (s : Spot) (ss : Spots) (r i : ℕ) (x y z : Reading) → is_asks (compare p k) ≡ b → HasFrom n (if b then y else z).written to f.instrs →
      (HasFrom n y.written to f.instrs → (mid : ℕ) × (one : List ℕ) × ReadOne f (size x.written) r i (register s) x.read mid one × ReadsLaid f mid p k s one (size y.written) y.read) →
      (HasFrom n z.written to f.instrs → ReadsFirst f (size x.written) ps ks ss r (suc i) x.read (size z.written) z.read) →
      ReadsFirst f (size x.written) (M.MorePatterns p ps) (MoreKnowns k ks) (MoreSpots s ss) r i x.read (size (if b then y else z).written) (if b then y else z).read
  asks_or true p ps k ks s ss r i x y z e h one rest = let o = one h in inl (e, o.0, o.1, o.2, o.3)
  asks_or false p ps k ks s ss r i x y z e h one rest = inr (e, rest h)

  mutual
    pub reads_laid : (p : M.Pattern) (k : Known) (s : Spot) (x : Reading) → n ≤ size x.written → HasFrom n (reading p k s x).written to f.instrs → ReadsLaid f (size x.written) p k s x.read (size (reading p k s x).written) (reading p k s x).read
    reads_laid M.Any k s x le h = (refl, refl)
    reads_laid (M.Test t hd ps) (Open out) s x le h = (refl, refl)
    reads_laid (M.Test t hd ps) (Is g ks) (At r fs) x le h = first_laid ps ks fs r 0 x le h

    first_laid : (ps : M.Patterns) (ks : Knowns) (ss : Spots) (r i : ℕ) (x : Reading) → n ≤ size x.written → HasFrom n (reading_first ps ks ss r i x).written to f.instrs → ReadsFirst f (size x.written) ps ks ss r i x.read (size (reading_first ps ks ss r i x).written) (reading_first ps ks ss r i x).read
    first_laid M.NoPatterns ks ss r i x le h = (refl, refl)
    first_laid (M.MorePatterns p ps) NoKnowns ss r i x le h = (refl, refl)
    first_laid (M.MorePatterns p ps) (MoreKnowns k ks) NoSpots r i x le h = (refl, refl)
    first_laid (M.MorePatterns p ps) (MoreKnowns k ks) (MoreSpots s ss) r i x le h =
        let y = read_one x r i (register s) in
        let grows = (read_one_extends x r i (register s)).grows in
        asks_or (is_asks (compare p k)) p ps k ks s ss r i x (reading p k s y) (reading_first ps ks ss r (suc i) x) refl h
        (λ one. (size y.written, y.read, one_laid x r i (register s) n to f le (front n y.written (reading p k s y).written to f.instrs (reading_extends p k s y) one), reads_laid p k s y (omega (arith, le, grows)) one))
        (λ rest. first_laid ps ks ss r (suc i) x le rest)

-- cells that are taken apart

all_extends : (ps : Patterns) (ss : Spots) (w : Written) → Extends w (taking_all ps ss w)
all_extends NoPatterns ss w = same_extends w
all_extends (MorePatterns p ps) NoSpots w = same_extends w
all_extends (MorePatterns p ps) (MoreSpots s ss) w = extends_on w (taking p s w) (taking_all ps ss (taking p s w)) (taking_extends p s w) (all_extends ps ss (taking p s w))

if_maps : (r : ℕ) (ps : Patterns) (ss : Spots) (w : Written) → (take_if r ps ss w).maps ≡ w.maps
if_maps r NoPatterns ss w = refl
if_maps r (MorePatterns p ps) ss w = refl

mutual
  pub taking_maps : (q : Pattern) (s : Spot) (w : Written) → (taking q s w).maps ≡ w.maps
  taking_maps (BinderPattern b) s w = refl
  taking_maps (LiteralPattern i p) s w = refl
  taking_maps (ConstructorPattern t d c n p ps) (At r fs) w = taking_all_maps ps fs (take_if r ps fs w) ∙ if_maps r ps fs w

  taking_all_maps : (ps : Patterns) (ss : Spots) (w : Written) → (taking_all ps ss w).maps ≡ w.maps
  taking_all_maps NoPatterns ss w = refl
  taking_all_maps (MorePatterns p ps) NoSpots w = refl
  taking_all_maps (MorePatterns p ps) (MoreSpots s ss) w = taking_all_maps ps ss (taking p s w) ∙ taking_maps p s w

module _ (n : ℕ) (to : ℕ → ℕ) (f : PlainFunction) where
  take_laid : (r : ℕ) (ps : Patterns) (ss : Spots) (w : Written) → n ≤ size w → HasFrom n (take_if r ps ss w) to f.instrs → TakeLaid f (size w) r ps ss (size (take_if r ps ss w))
  take_laid r NoPatterns ss w le h = refl
  take_laid r (MorePatterns p ps) ss w le h = (stands w (I.Take r (as_many (MorePatterns p ps) ss)) n to f.instrs le h, one_longer w (I.Take r (as_many (MorePatterns p ps) ss)))

  mutual
    pub takes_laid : (q : Pattern) (s : Spot) (w : Written) → n ≤ size w → HasFrom n (taking q s w) to f.instrs → TakesLaid f (size w) q s (size (taking q s w))
    takes_laid (BinderPattern b) s w le h = refl
    takes_laid (LiteralPattern i p) s w le h = refl
    takes_laid (ConstructorPattern t d c m p ps) (At r fs) w le h =
        let u = take_if r ps fs w in
        let grows = (if_extends r ps fs w).grows in
        (size u, take_laid r ps fs w le (front n u (taking_all ps fs u) to f.instrs (all_extends ps fs u) h), takes_all_laid ps fs u (omega (arith, le, grows)) h)

    takes_all_laid : (ps : Patterns) (ss : Spots) (w : Written) → n ≤ size w → HasFrom n (taking_all ps ss w) to f.instrs → TakeAll f (size w) ps ss (size (taking_all ps ss w))
    takes_all_laid NoPatterns ss w le h = refl
    takes_all_laid (MorePatterns p ps) NoSpots w le h = refl
    takes_all_laid (MorePatterns p ps) (MoreSpots s ss) w le h =
        let u = taking p s w in
        let grows = (taking_extends p s w).grows in
        (size u, takes_laid p s w le (front n u (taking_all ps ss u) to f.instrs (all_extends ps ss u) h), takes_all_laid ps ss u (omega (arith, le, grows)) h)

-- what a pattern names is read

part_extends : (p : Pattern) (s : Spot) (r i : ℕ) (x : Reading) (b : Bool) → Extends x.written (if b then naming p s (read_one x r i (register s)) else x).written
part_extends p s r i x true = let y = read_one x r i (register s) in extends_on x.written y.written (naming p s y).written (read_one_extends x r i (register s)) (naming_extends p s y)
part_extends p s r i x false = same_extends x.written

names_extends : (ps : Patterns) (ss : Spots) (r i : ℕ) (x : Reading) → Extends x.written (naming_all ps ss r i x).written
names_extends NoPatterns ss r i x = same_extends x.written
names_extends (MorePatterns p ps) NoSpots r i x = same_extends x.written
names_extends (MorePatterns p ps) (MoreSpots s ss) r i x =
    let z = if names_any p then naming p s (read_one x r i (register s)) else x in
    extends_on x.written z.written (naming_all ps ss r (suc i) z).written (part_extends p s r i x (names_any p)) (names_extends ps ss r (suc i) z)

mutual
  pub naming_maps : (q : Pattern) (s : Spot) (x : Reading) → (naming q s x).written.maps ≡ x.written.maps
  naming_maps (BinderPattern b) s x = refl
  naming_maps (LiteralPattern i p) s x = refl
  naming_maps (ConstructorPattern t d c n p ps) (At r fs) x = naming_all_maps ps fs r 0 x

  naming_all_maps : (ps : Patterns) (ss : Spots) (r i : ℕ) (x : Reading) → (naming_all ps ss r i x).written.maps ≡ x.written.maps
  naming_all_maps NoPatterns ss r i x = refl
  naming_all_maps (MorePatterns p ps) NoSpots r i x = refl
  naming_all_maps (MorePatterns p ps) (MoreSpots s ss) r i x =
      let y = read_one x r i (register s) in
      naming_all_maps ps ss r (suc i) (if names_any p then naming p s y else x)
      ∙ either_maps (names_any p) x (naming p s y) x (naming_maps p s y ∙ maps_if (contains (register s) x.read) x r i (register s)) refl

module _ (n : ℕ) (to : ℕ → ℕ) (f : PlainFunction) where
  abbrev Part : Pattern → Spot → ℕ → ℕ → Reading → Reading → Type 0
  Part p s r i x z =
      ((names_any p ≡ true) × (mid : ℕ) × (one : List ℕ) × ReadOne f (size x.written) r i (register s) x.read mid one × NamesLaid f mid p s one (size z.written) z.read)
      ⊎ ((names_any p ≡ false) × (size z.written ≡ size x.written) × (z.read ≡ x.read))

  part_or : (b : Bool) (p : Pattern) (s : Spot) (r i : ℕ) (x y : Reading) → names_any p ≡ b → HasFrom n (if b then y else x).written to f.instrs →
      (HasFrom n y.written to f.instrs → (mid : ℕ) × (one : List ℕ) × ReadOne f (size x.written) r i (register s) x.read mid one × NamesLaid f mid p s one (size y.written) y.read) →
      Part p s r i x (if b then y else x)
  part_or true p s r i x y e h one = let o = one h in inl (e, o.0, o.1, o.2, o.3)
  part_or false p s r i x y e h one = inr (e, refl, refl)

  mutual
    pub names_laid : (q : Pattern) (s : Spot) (x : Reading) → n ≤ size x.written → HasFrom n (naming q s x).written to f.instrs → NamesLaid f (size x.written) q s x.read (size (naming q s x).written) (naming q s x).read
    names_laid (BinderPattern b) s x le h = (refl, refl)
    names_laid (LiteralPattern i p) s x le h = (refl, refl)
    names_laid (ConstructorPattern t d c m p ps) (At r fs) x le h = names_all_laid ps fs r 0 x le h

    names_all_laid : (ps : Patterns) (ss : Spots) (r i : ℕ) (x : Reading) → n ≤ size x.written → HasFrom n (naming_all ps ss r i x).written to f.instrs → NameAll f (size x.written) ps ss r i x.read (size (naming_all ps ss r i x).written) (naming_all ps ss r i x).read
    names_all_laid NoPatterns ss r i x le h = (refl, refl)
    names_all_laid (MorePatterns p ps) NoSpots r i x le h = (refl, refl)
    names_all_laid (MorePatterns p ps) (MoreSpots s ss) r i x le h =
        let y = read_one x r i (register s) in
        let z = if names_any p then naming p s y else x in
        let grows = (read_one_extends x r i (register s)).grows in
        let longer = (part_extends p s r i x (names_any p)).grows in (
          size z.written,
          z.read,
          part_or (names_any p) p s r i x (naming p s y) refl (front n z.written (naming_all ps ss r (suc i) z).written to f.instrs (names_extends ps ss r (suc i) z) h)
              (λ one. (size y.written, y.read, one_laid x r i (register s) n to f le (front n y.written (naming p s y).written to f.instrs (naming_extends p s y) one), names_laid p s y (omega (arith, le, grows)) one)),
          names_all_laid ps ss r (suc i) z (omega (arith, le, longer)) h,
        )

-- one step after another

settled_test : (r : ℕ) (h : Head) (label : ℕ) (to : ℕ → ℕ) → settled to (test_of r h label) ≡ test_of r h (to label)
settled_test r (Tag c) label to = refl
settled_test r (Number i) label to = refl

module _ (c : PlainCode) (f : PlainFunction) (hs : List Held) (ch : Choice) (to : ℕ → ℕ) (m n : ℕ) (le : m ≤ n) where
  caught_less : (k : Known) (read : List ℕ) (o : Option ℕ) → CaughtBy c f hs ch to n k read o → CaughtBy c f hs ch to m k read o
  caught_less k read None a = a
  caught_less k read (Some l) a = record { following = let b = a.following in omega (arith, le, b); label = a.label; takes = a.takes }

  pub all_caught_less : (ds : List Side) → Every (Caught c f hs ch to n) ds → Every (Caught c f hs ch to m) ds
  all_caught_less [] a = tt
  all_caught_less (d ∷ ds) a = (caught_less d.known d.read d.label a.0, all_caught_less ds a.1)

module _ (s : Scene) (is : IsScene s) where
  typed_row : (p : M.Pattern) (i : ℕ) (q : Pattern) → slice_get s.patterns i ≡ Some q → p ≡ row_of q → IsPattern s.table s.type p
  typed_row p i q there same = subst (IsPattern s.table s.type) (sym same) (is.typed i q there)

  no_clause : (i : ℕ) → None ≡ Some i → ⊥
  no_clause i e = absurd (cc)

  pub last_laid : (p : M.Pattern) (k l : Known) (read : List ℕ) (v : Written) (i : ℕ) (q : Pattern) → is_last s.table p k ≡ true → l ≡ side true p k → slice_get s.patterns i ≡ Some q → p ≡ row_of q → compare p k ≡ D.Asks → StepsLaid s v k read v l read [] None
  last_laid p k l read v i q last e there same asks = record {
    maps = refl;
    by = λ c to f hs g ok types h caught j end on. (
      suc on.0,
      (
        p,
        record { number = i; pattern = q; there = there; same = same; asks = asks },
        inl (ap (λ z. is_last z p k) types ∙ last, subst (λ z. TestsLaid c f g (choice_at to s) on.0 (size v) z read j end) e on.1),
      ),
    );
    seen = λ h. (λ none. subst (λ z. SeenAt s z read) (sym e) (last_seen s.table s.type p k s.root read (typed_row p i q there same) asks last h), tt);
    missed = λ r m. (subst (λ z. compare r z ≡ D.Misses) (sym e) (side_misses true r p k asks m), tt);
    chosen = λ j none. absurd (no_clause j none);
    later = tt;
  }

  pub test_laid : (p : M.Pattern) (k l : Known) (read read_on : List ℕ) (v w : Written) (i : ℕ) (q : Pattern) (d : Side) → is_last s.table p k ≡ false → Tests p k s.root (reading_of v read) w read_on d → l ≡ side true p k → slice_get s.patterns i ≡ Some q → p ≡ row_of q → compare p k ≡ D.Asks → StepsLaid s v k read w l read_on (d ∷ []) None
  test_laid p k l read read_on v w i q d unsettled t e there same asks = record {
    maps = t.maps ∙ reading_maps p k s.root x;
    by = λ c to f hs g ok types h caught j end on. (
      suc on.0,
      (
        p,
        record { number = i; pattern = q; there = there; same = same; asks = asks },
        inr (size w, y.read, one c to f hs g ok h caught.0, subst (λ z. TestsLaid c f g (choice_at to s) on.0 (size w) (side true p k) z j end) t.read_on (subst (λ z. TestsLaid c f g (choice_at to s) on.0 (size w) z read_on j end) e on.1)),
      ),
    );
    seen = λ h.
        let both = λ (b : Bool). side_seen b s.table s.type p k s.root x (typed_row p i q there same) asks is.differ h in (
          λ none. subst (λ z. SeenAt s z read_on) (sym e) (subst (λ z. SeenAt s (side true p k) z) (sym t.read_on) (both true)),
          (subst (λ z. SeenAt s z d.read) (sym t.known) (subst (λ z. SeenAt s (side false p k) z) (sym t.seen) (both false)), tt),
        );
    missed = λ r m. (subst (λ z. compare r z ≡ D.Misses) (sym e) (side_misses true r p k asks m), (subst (λ z. compare r z ≡ D.Misses) (sym t.known) (side_misses false r p k asks m), tt));
    chosen = λ j none. absurd (no_clause j none);
    later = (omega (arith, longer), tt);
  }
    where
      x : Reading
      x = reading_of v read

      y : Reading
      y = reading p k s.root x

      test : Instr
      test = test_of t.found.register t.found.head t.target

      longer : size w ≡ suc (size y.written)
      longer = t.as_long ∙ one_longer y.written test

      grows : size v ≤ size y.written
      grows = (reading_extends p k s.root x).grows

      one : (c : PlainCode) (to : ℕ → ℕ) (f : PlainFunction) (hs : List Held) (g : Holding) → Alike c.types hs g → HasFrom (size v) w to f.instrs → Caught c f hs (choice_at to s) to (size w) d → TestLaid c f g (choice_at to s) (size v) p k read (size w) y.read
      one c to f hs g ok h caught = record {
        mid = size y.written;
        found = t.found;
        target = to t.target;
        reads = reads_laid (size v) to f p k s.root x (omega arith) (front (size v) y.written (added y.written test) to f.instrs (added_extends y.written test) has);
        asks = t.asks;
        written = stands y.written test (size v) to f.instrs grows has ∙ ap Some (settled_test t.found.register t.found.head t.target to);
        ahead = let b = label.following in omega (arith, longer, b);
        label = label.label;
        one = longer;
        fails = label.takes g ok;
      }
        where
          has : HasFrom (size v) (added y.written test) to f.instrs
          has = front (size v) (added y.written test) w to f.instrs t.extends h

          label : CaughtAt c f hs (choice_at to s) (size w) (side false p k) y.read (to t.target)
          label = subst (λ z. CaughtAt c f hs (choice_at to s) (size w) (side false p k) z (to t.target)) t.seen
              (subst (λ z. CaughtAt c f hs (choice_at to s) (size w) z d.read (to t.target)) t.known
              (subst (λ o. CaughtBy c f hs (choice_at to s) to (size w) d.known d.read o) t.label caught))

  pub chosen_laid : (k : Known) (read read_on : List ℕ) (v w : Written) (i : ℕ) (q : Pattern) → slice_get s.patterns i ≡ Some q → compare (row_of q) k ≡ D.Fits → SettlesBy s.takes q s.root (reading_of v read) (reading_of w read_on) → StepsLaid s v k read w k read_on [] (Some i)
  chosen_laid k read read_on v w i q there fits t = record {
    maps = maps s.takes t;
    by = λ c to f hs g ok types h caught j end on. (
      0,
      record {
        pattern = q;
        there = subst (λ z. slice_get s.patterns z ≡ Some q) on.0 there;
        fits = fits;
        settled = subst (λ z. SettledLaid s.takes f (size v) q s.root read z) (sym on.1) (settled_by to f h s.takes t);
      },
    );
    seen = λ h. (λ none. absurd (no_clause i (sym none)), tt);
    missed = λ r m. (m, tt);
    chosen = λ j e. (q, subst (λ z. slice_get s.patterns z ≡ Some q) (same_some i j e) there, fits);
    later = tt;
  }
    where
      x : Reading
      x = reading_of v read

      maps : (b : Bool) → SettlesBy b q s.root x (reading_of w read_on) → w.maps ≡ v.maps
      maps true e = ap (λ (u : Written). u.maps) e ∙ taking_maps q s.root v
      maps false e = ap (λ (u : Reading). u.written.maps) e ∙ naming_maps q s.root x

      settled_by : (to : ℕ → ℕ) (f : PlainFunction) → HasFrom (size v) w to f.instrs → (b : Bool) → SettlesBy b q s.root x (reading_of w read_on) → SettledLaid b f (size v) q s.root read (size w)
      settled_by to f h true e = subst (λ z. TakesLaid f (size v) q s.root (size z)) (sym e) (takes_laid (size v) to f q s.root v (omega arith) (subst (λ z. HasFrom (size v) z to f.instrs) e h))
      settled_by to f h false e =
          let same : w ≡ (naming q s.root x).written = ap (λ (u : Reading). u.written) e in
          ((naming q s.root x).read, subst (λ z. NamesLaid f (size v) q s.root read (size z) (naming q s.root x).read) (sym same) (names_laid (size v) to f q s.root x (omega arith) (subst (λ z. HasFrom (size v) z to f.instrs) same h)))

  pub steps_laid_on : (v w z : Written) (k l m : Known) (ra rb rc : List ℕ) (ds es : List Side) (o : Option ℕ) → Extends v w → Extends w z → StepsLaid s v k ra w l rb ds None → StepsLaid s w l rb z m rc es o → StepsLaid s v k ra z m rc (ds ++ es) o
  steps_laid_on v w z k l m ra rb rc ds es o x y a b = record {
    maps = b.maps ∙ a.maps;
    by = λ c to f hs g ok types h caught i end on.
        let two = every_split (Caught c f hs (choice_at to s) to (size z)) ds es caught in
        a.by c to f hs g ok types (front (size v) w z to f.instrs y h) (all_caught_less c f hs (choice_at to s) to (size w) (size z) y.grows ds two.0) i end
        (b.by c to f hs g ok types (back (size v) (size w) z to f.instrs x.grows h) two.1 i end on);
    seen = λ h. let p = a.seen h in let q = b.seen (p.0 refl) in (q.0, every_append (SeenSide s) ds es p.1 q.1);
    missed = λ r h. let p = a.missed r h in let q = b.missed r p.0 in (q.0, every_append (Misses r) ds es p.1 q.1);
    chosen = b.chosen;
    later = every_append (λ d. 0 < size z) ds es (every_so (λ d. 0 < size w) (λ d. 0 < size z) (λ d h. let g = y.grows in omega (arith, g, h)) ds a.later) b.later;
  }

  pub follows_laid : (v u w : Written) (d : Side) (k l : Known) (ra rb : List ℕ) (new : List Side) (i : ℕ) (o : Option ℕ) → size u ≡ size v → Extends v u → o ≡ Some i → k ≡ d.known → ra ≡ d.read → StepsLaid s u k ra w l rb new o → (kinds : List Kind) → ReportsSide v d.label kinds w → FollowsLaid s kinds v d w new i
  follows_laid v u w d k l ra rb new i o long x e f' g' a kinds reports = record {
    by = λ c to f hs g ok types h caught.
        subst (λ z. Tried c f g (choice_at to s) (size v) d.known z i (size w)) g'
        (subst (λ z. Tried c f g (choice_at to s) (size v) z ra i (size w)) f'
        (subst (λ z. Tried c f g (choice_at to s) z k ra i (size w)) long
        (a.by c to f hs g ok types (back (size v) (size u) w to f.instrs x.grows h) caught i (size w) (subst (λ z. TriedOn c f g (choice_at to s) (size w) l rb z i (size w)) (sym e) (refl, refl)))));
    reports = reports;
    later = a.later;
    seen = λ h. (a.seen (subst (λ z. SeenAt s z ra) (sym f') (subst (λ z. SeenAt s d.known z) (sym g') h))).1;
    missed = λ p h. (a.missed p (ap (compare p) f' ∙ h)).1;
    onward = λ n ruled. elim (le_or_less n i) [
      | inl le ↦ le
      | inr less ↦ let q = a.chosen i e in absurd (not_both (compare (row_of q.0) l) (a.missed (row_of q.0) (ap (compare (row_of q.0)) f' ∙ ruled i q.0 less q.1)).0 q.2)
    ];
  }
    where
      not_both : (v : Verdict) → v ≡ D.Misses → v ≡ D.Fits → ⊥
      not_both v m f = absurd (cc)
