-- Matches: from what the parts of the lowering of a match have laid out, the whole. Each clause's tests and body are
-- laid out where those of the clauses after it are, since a test that fails leads there.
use Rattle.std.proofs.Common.{◌≡◌, ◌⊎◌, inl, inr, refl, sym, ap, ◌∙◌, subst, arith, ℕ, zero, suc, ◌<◌, ◌≤◌, Bool, true, List, [], ◌∷◌, length, map, drop, Option, Some, None, slice_get}
use Rattle.std.specs.Prelude.{is_some, option_map}
use Rattle.std.proofs.lemmas.Bool.{cases_eq}
use Rattle.std.proofs.lemmas.Option.{slice_get-map}
use Rattle.fip_language.specs.Every.{Every, Among}
use Rattle.fip_language.specs.Table.{Table}
use Rattle.fip_language.proofs.Plain.{every_so}
use Rattle.fip_trees.specs.Tree.{Pattern, Expression, Block, Clauses, NoClauses, MoreClauses}
use Rattle.cell_code.specs.declared.code.Instr.TheVariants as I
use Rattle.cell_code.specs.declared.kind.Kind.{Kind}
use Rattle.cell_code.specs.declared.code.CodeKind.TheVariants.{Fbip}
use Rattle.cell_code.specs.Plain.{LabelMap, PlainFunction, PlainCode}
use Rattle.lower_frame.specs.code_rules.Codes.{label_at}
use Rattle.match_knowledge.specs.Known.{Open}
use Rattle.lower_frame.specs.lowering_relation.declared.held.Held.{Held}
use Rattle.lower_frame.specs.lowering_relation.declared.held.Held.TheVariants as H
use Rattle.lower_frame.specs.lowering_relation.Known.{Known}
use Rattle.lower_frame.specs.lowering_relation.Values.{Setting}
use Rattle.lower_frame.specs.lowering_relation.LoweredBodies.{Target, Return, Into}
use Rattle.lower_frame.specs.lowering_relation.Written.{Written, size, settled, Extends, HasFrom, IsAt, place_of}
use Rattle.lower_frame.specs.lowering_relation.Spots as S
use Rattle.lower_frame.specs.lowering_relation.Landing.{Scene, Side}
use Rattle.lower_frame.specs.lowering_relation.Entering.{entering_root}
use Rattle.lower_frame.specs.lowering_relation.Rows.{patterns_in}
use Rattle.lower_frame.proofs.lowering_relation.Placing.{same_extends, extends_on, added_extends, one_longer, front, back, stands, has_all}
use Rattle.lower_frame.specs.lowering_relation.Describing.{held_at, kinds_of}
use Rattle.lower_frame.specs.lowering_relation.Labels.{reported, Takes, Reports}
use Rattle.lower_frame.specs.lowering_relation.Standing.{AreRising}
use Rattle.lower_frame.specs.lowering_relation.Tests.{Choice, ChunkLaid, SidesLaid}
use Rattle.lower_frame.specs.lowering_relation.Matches.{BuiltRight, widened, wide_at, entered, EntryLaid}
use Rattle.lower_frame.specs.lowering_relation.Joins.{GoesOn, ClauseEnds, Met}
use Rattle.lower_frame.specs.lowering_relation.LaidBodies.{BlockLaid, ClausesLaid, ClausesMeet}
use Rattle.lower_frame.specs.Credits.{Accounted}
use Rattle.lower_frame.specs.Labels.{Rising}
use Rattle.lower_frame.specs.Positions.{reaching, spot_of}
use Rattle.lower_frame.specs.Registers.{registers}
use Rattle.lower_frame.proofs.Labels.{rising_higher}
use Rattle.lower_parts.specs.declared.match_state.Matching.{Matching}
use Rattle.lower_parts.specs.declared.match_state.Progress.{Progress}
use Rattle.lower_parts.specs.Laying.{HasPart, Underway}
use Rattle.lower_parts.specs.Scenes.{scene, patterns_of, sides_of, first_side, Labelled, Ready}
use Rattle.lower_parts.specs.Testing.{Alike, choice_at, Caught, SeenSide}
use Rattle.lower_parts.specs.Chosen.{RuledSide, LaterSide, Enters, Premises, LaidSides, LaidFirst, ChoosesLaidIn}
use Rattle.lower_parts.specs.Bodies.{RightAt, BuiltWell, WaitsAt, LabelTakes, BuiltAfter, LaidIn, LaysIn, LaysBlock}
use Rattle.lower_parts.specs.Leaving.{CanLeave, ClauseLeavesLaid, LeftAfter}
use Rattle.lower_parts.specs.Matches.{StartsLaid, JoinsLaid, GoesLaid, ClauseLays, ClausesLay}
use Rattle.lower_parts.proofs.Arriving.{EntersWell, enters_well}
use Rattle.lower_parts.proofs.Entries.{chunk_end, first_straight, straight_to, straight_held, plain_right, entry_later, entry_start}
use Rattle.lower_parts.proofs.Matching.{same_rows}
use Rattle.lower_parts.proofs.Parted.{quiet_part}
use Rattle.lower_parts.proofs.Overlaying.{missing}
use Rattle.lower_parts.proofs.Sided.{widened_again, front_part, back_part}
use Rattle.lower_parts.proofs.Trying.{all_caught_less}
use Rattle.lower_parts.proofs.Lessening.{Less, IsWide, less_same, less_on, less_left, less_met, wide_held, wide_wide, built_later}
use Rattle.lower_parts.proofs.Shown.{under_reported, reports_takes, takes_narrow}
use Rattle.lower_parts.proofs.Begun.{Facts, Idle}
use Rattle.fip_language.proofs.Facts.{none_some, same_some}

-- patterns from a clause on

all_gone : (ps : List Pattern) (i : ℕ) → [] ≡ drop i ps → length ps ≤ i
all_gone [] i e = omega arith
all_gone (p ∷ ps) zero e = absurd (cc)
all_gone (p ∷ ps) (suc i) e = omega (arith, all_gone ps i e)

next_one : (ps : List Pattern) (i : ℕ) (q : Pattern) (qs : List Pattern) → q ∷ qs ≡ drop i ps → (slice_get ps i ≡ Some q) × (qs ≡ drop (suc i) ps) × (i < length ps)
next_one [] zero q qs e = absurd (cc)
next_one [] (suc i) q qs e = absurd (cc)
next_one (p ∷ ps) zero q qs e = (ap Some (cc), cc, omega arith)
next_one (p ∷ ps) (suc i) q qs e = let x = next_one ps i q qs e in (x.0, x.1, omega (arith, x.2))

pub rising_less : (n low : ℕ) (ms : List LabelMap) → AreRising n low ms → Rising n low ms
rising_less n low [] h = tt
rising_less n low (m ∷ ms) h = (h.0, (let x = h.1 in omega (arith, x)), rising_less n m.at ms h.2)

-- where other clauses follow
abbrev pub EndsAt : Clauses → ℕ → ℕ → Type 0
EndsAt NoClauses at end = end ≡ at
EndsAt (MoreClauses q b cs) at end = at ≤ end

module _ (s : Setting) (fip : Bool) (g : Matching) (low n : ℕ) (facts : Facts s g low n) where
  abbrev pub sc : Scene
  sc = scene s.types low g.choice

  abbrev pub spot : S.Spot
  spot = spot_of g.choice.root

  abbrev pub hs : List Held
  hs = g.entry.held

  -- where clause i is to be written, after v
  pub record Before (i : ℕ) (k : Known) (v : Written) (ds : List Side) : Type 0 where
    pub room : k.next ≤ n
    pub rising : Rising (size v) 0 v.maps
    pub seen : Every (SeenSide sc) ds
    pub ruled : Every (RuledSide sc i) ds
    pub later : Every (LaterSide (size v)) ds

  abbrev pub IdleAt : Target → Type 0
  IdleAt Return = Unit {0}
  IdleAt (Into ds) = (0 < length ds) × ((d : ℕ) → Among d ds → Idle g low d)

  -- clause i, its tests and its body
  pub record ClauseOut (q : Pattern) (b : Block) (target : Target) (i : ℕ) (k : Known) (v : Written) (ds : List Side) (known : Known) (begun : Written) (last : Known) (ended : Written) (es : List Side) : Type 0 where
    pub there : slice_get (patterns_of g.choice) i ≡ Some q
    pub starts : StartsLaid s g q i k v ds known begun es
    pub tests : ChoosesLaidIn s hs sc i v ds starts.chosen es true
    pub enters : EntersWell s g.entry (S.register spot) low known known.next
    pub body : LaysIn s known begun target last ended (λ c f. BlockLaid c s fip f (size begun) known b target (size ended) last)

  waits_at : (target : Target) (known : Known) → EntersWell s g.entry (S.register spot) low known known.next → IdleAt target → WaitsAt target known
  waits_at Return known e idle = tt
  waits_at (Into ds) known e idle = (idle.0, λ d i. let x = idle.1 d i in e.waits d x.waits x.below x.apart)

  pub clause_out : (q : Pattern) (b : Block) (target : Target) (i : ℕ) (k : Known) (v : Written) (ds : List Side) (known : Known) (begun : Written) (last : Known) (ended : Written) (es : List Side) (start : ℕ) → slice_get (patterns_of g.choice) i ≡ Some q → (starts : StartsLaid s g q i k v ds known begun es) → LaysBlock s fip known begun b target last ended → Ready start v ds → Before i k v ds → IdleAt target → ClauseOut q b target i k v ds known begun last ended es
  clause_out q b target i k v ds known begun last ended es start there starts body ready before idle = record {
    there = there;
    starts = starts;
    tests = tests;
    enters = enters;
    body = body.by under (waits_at target known enters idle);
  }
    where
      tests : ChoosesLaidIn s hs sc i v ds starts.chosen es true
      tests = starts.chooses.by low start facts.is facts.has ready

      more : g.entry.next ≤ known.next
      more = let e = starts.next in omega (arith, e)

      most : known.next ≤ n
      most = let e = starts.next in let x = before.room in let y = facts.room in omega (arith, e, x, y)

      enters : EntersWell s g.entry (S.register spot) low known known.next
      enters = subst (λ x. EntersWell s g.entry (S.register spot) low x known.next) (sym starts.known)
          (enters_well s g.choice.takes q spot g.entry known.next low g.choice.ty facts.scalars facts.accounts facts.named facts.solid facts.is.used facts.fresh facts.is.differ
          (facts.is.typed i q there) more (let m = facts.many in omega (arith, most, m)))

      wide_known : IsWide known
      wide_known = wide_wide (entering_root s g.choice.takes q spot (reaching g.entry known.next)) known starts.known

      under : Underway s.types known begun
      under = under_reported s.types known starts.chosen begun wide_known enters.accounts enters.named (let x = enters.many in let m = facts.many in omega (arith, most, x, m)) starts.maps starts.as_long (tests.rising before.rising)

  -- the next one
  pub before_next : (q : Pattern) (b : Block) (target : Target) (i : ℕ) (k : Known) (v : Written) (ds : List Side) (known : Known) (begun : Written) (last : Known) (ended : Written) (es : List Side) → ClauseOut q b target i k v ds known begun last ended es → Before i k v ds → (o : ℕ) (l : Known) (u : Written) → o ≡ suc i → l.next ≤ n → size ended ≤ size u → Rising (size u) 0 u.maps → Before o l u es
  before_next q b target i k v ds known begun last ended es out before o l u e room longer rising = record {
    room = room;
    rising = rising;
    seen = out.tests.seen before.seen;
    ruled = subst (λ z. Every (RuledSide sc z) es) (sym e) (out.tests.written refl (out.tests.ruled before.ruled));
    later = every_so (LaterSide (size out.starts.chosen)) (LaterSide (size u)) (λ d x y. let z = x y in omega (arith, z, above)) es (out.tests.later before.later);
  }
    where
      above : size out.starts.chosen ≤ size u
      above = let a = out.starts.as_long in let b' = out.body.longer in omega (arith, a, b', longer)

  room_last : (q : Pattern) (b : Block) (target : Target) (i : ℕ) (k : Known) (v : Written) (ds : List Side) (known : Known) (begun : Written) (last : Known) (ended : Written) (es : List Side) → ClauseOut q b target i k v ds known begun last ended es → last.next ≤ n
  room_last q b target i k v ds known begun last ended es out = let a = out.body.room in let m = out.enters.many in let e = facts.many in omega (arith, a, m, e)

  -- in a function

  module _ (c : PlainCode) (to : ℕ → ℕ) (f : PlainFunction) (types : c.types ≡ s.types) (many : f.registers ≡ n) where
    abbrev pub ch : Choice
    ch = choice_at to sc

    -- the bodies of clauses from i on begin at p or after
    abbrev pub From : ℕ → ℕ → Type 0
    From i p = (j label : ℕ) → i ≤ j → slice_get g.choice.entries.items j ≡ Some label → p ≤ to label

    abbrev pub AllCaught : ℕ → List Side → Type 0
    AllCaught p ds = Every (Caught c f hs ch to p) ds

    -- a clause after another
    pub record LaterLaid (q : Pattern) (b : Block) (target : Target) (i : ℕ) (v : Written) (ds : List Side) (known : Known) (begun : Written) (last : Known) (ended : Written) : Type 0 where
      pub more : ℕ
      pub sides : SidesLaid c f (wide_at (held_at hs)) ch more (size v) (size begun)
      pub entry : EntryLaid c s f ch g.entry i q (size begun) known.next
      pub body : BlockLaid c s fip f (size begun) (entered s ch q g.entry known.next) b target (size ended) last
      pub built : BuiltAfter s.types target (size ended) last
      pub caught : AllCaught (size v) ds
      pub from : From i (size v)

    -- the first one
    pub record FirstLaid (q : Pattern) (b : Block) (target : Target) (v : Written) (known : Known) (begun : Written) (last : Known) (ended : Written) : Type 0 where
      pub mid : ℕ
      pub more : ℕ
      pub first : ChunkLaid c f (held_at hs) ch (size v) (Open []) [] (reported c g.entry) mid
      pub sides : SidesLaid c f (wide_at (held_at hs)) ch more mid (size begun)
      pub entry : EntryLaid c s f ch g.entry 0 q (size begun) known.next
      pub body : BlockLaid c s fip f (size begun) (entered s ch q g.entry known.next) b target (size ended) last
      pub built : BuiltAfter s.types target (size ended) last
      pub takes : LabelTakes c f (size v) g.entry

    -- the clauses from number i on, whose values are the function's
    pub record ReturnLaid (cs : Clauses) (i : ℕ) (v w : Written) (ds : List Side) : Type 0 where
      pub clauses : ClausesLaid c s fip f ch g.entry i cs (size v) (size w)
      pub caught : AllCaught (size v) ds
      pub from : From i (size v)

    -- those of match e, whose values go to registers
    pub record IntoLaid (e : Expression) (rs : List ℕ) (cs : Clauses) (i : ℕ) (v w : Written) (ds : List Side) (j met : Known) : Type 0 where
      pub clauses : ClausesMeet c s fip f ch g.entry e i cs rs (size w) j (size v) met
      pub caught : AllCaught (size v) ds
      pub from : From i (size v)

    -- there is none
    none_from : (i p : ℕ) → [] ≡ drop i (patterns_of g.choice) → From i p
    none_from i p left j label le e = absurd (none_some label (sym (missing g.choice.entries.items j (let x = all_gone (patterns_of g.choice) i left in let y = facts.entries in omega (arith, x, y, le))) ∙ e))

    none_caught : (i p : ℕ) (ds : List Side) → [] ≡ drop i (patterns_of g.choice) → (length g.choice.rows.items ≤ i → ds ≡ []) → AllCaught p ds
    none_caught i p ds left all = subst (AllCaught p) (sym (all (let x = all_gone (patterns_of g.choice) i left in let y = same_rows g.choice facts.has in omega (arith, x, y)))) tt

    module _ (q : Pattern) (b : Block) (target : Target) (i : ℕ) (k : Known) (v : Written) (ds : List Side) (known : Known) (begun : Written) (last : Known) (ended : Written) (es : List Side) (out : ClauseOut q b target i k v ds known begun last ended es) (before : Before i k v ds) (z : Written) (after : Extends ended z) (has : HasPart (size v) z to f) where
      abbrev chosen : Written
      chosen = out.starts.chosen

      to_begun : Extends v begun
      to_begun = extends_on v chosen begun out.tests.extends out.starts.extends

      to_ended : Extends v ended
      to_ended = extends_on v begun ended to_begun out.body.extends

      begun_on : Extends begun z
      begun_on = extends_on begun ended z out.body.extends after

      part_chosen : HasPart (size v) chosen to f
      part_chosen = front_part to f v chosen z (extends_on chosen begun z out.starts.extends begun_on) has

      part_body : HasPart (size begun) ended to f
      part_body = back_part to f v begun ended to_begun (front_part to f v ended z after has)

      label_at_begun : IsAt z out.starts.label (size begun)
      label_at_begun = begun_on.placed out.starts.label (size begun) (subst (IsAt begun out.starts.label) (sym out.starts.as_long) out.starts.placed)

      placed : to out.starts.label ≡ size begun
      placed = has.code.at out.starts.label (size begun) label_at_begun

      labelled : 0 < size begun → is_some (label_at f.labels (size begun)) ≡ true
      labelled lt = has.labels out.starts.label (size begun) label_at_begun lt

      enters_at : Enters f to sc i (size chosen)
      enters_at = record {
        label = out.starts.label;
        there = out.starts.entry;
        place = placed ∙ out.starts.as_long;
        reported = λ lt. subst (λ x. is_some (label_at f.labels x) ≡ true) out.starts.as_long (labelled (let e = out.starts.as_long in omega (arith, lt, e)));
      }

      onward : From (suc i) (size ended) → From i (size chosen)
      onward h j label le e = by (cases_eq i j)
        where
          by : (i ≡ j) ⊎ (i ≡ j → ⊥) → size chosen ≤ to label
          by (inl same) =
              let x : out.starts.label ≡ label = same_some out.starts.label label (sym out.starts.entry ∙ ap (slice_get g.choice.entries.items) same ∙ e) in
              let y : to label ≡ size begun = sym (ap to x) ∙ placed in
              let w = out.starts.as_long in
              omega (arith, y, w)
          by (inr ne) = let x = h j label (omega (arith, le, ne)) e in let y = out.body.longer in let w = out.starts.as_long in omega (arith, x, y, w)

      premises : AllCaught (size chosen) es → From (suc i) (size ended) → Premises s hs sc i v ds chosen es true c to f
      premises caught from = record {
        types = types;
        part = part_chosen;
        rising = before.rising;
        seen = before.seen;
        ruled = before.ruled;
        later = before.later;
        scalars = facts.scalars.parts;
        long = facts.many ∙ sym many;
        inside = let x = facts.solid.0 in let y = facts.room in let m = facts.many in omega (arith, x, y, m);
        fresh = λ y a. let x = facts.fresh y a in let lt = x.1 in let r = facts.room in let m = facts.many in (omega (arith, lt, r, m), x.2);
        caught = caught;
        onward = onward from;
        enters = λ e. enters_at;
      }

      caught_after : AllCaught (size ended) es → AllCaught (size chosen) es
      caught_after h = all_caught_less c f hs ch to (size chosen) (size ended) (let x = out.starts.as_long in let y = out.body.longer in omega (arith, x, y)) es h

      body_in : BuiltWell s.types (size begun) known → LaidIn s known begun target last ended (BlockLaid c s fip f (size begun) known b target (size ended) last) c f
      body_in built = out.body.laid c to f types (many ∙ sym facts.many ∙ sym out.enters.many) part_body built

      body_at : BlockLaid c s fip f (size begun) known b target (size ended) last → BlockLaid c s fip f (size begun) (entered s ch q g.entry known.next) b target (size ended) last
      body_at h = subst (λ x. BlockLaid c s fip f (size begun) x b target (size ended) last) out.starts.known h

      from_here : From (suc i) (size ended) → From i (size v)
      from_here h j label le e = let x = onward h j label le e in let y = out.tests.extends.grows in omega (arith, x, y)

      pub later_laid : Every Labelled ds → 0 < size v → (at : ℕ) → BuiltWell s.types at g.entry → AllCaught (size ended) es → From (suc i) (size ended) → LaterLaid q b target i v ds known begun last ended
      later_laid all lt at built caught from = record {
        more = sides.0;
        sides = subst (SidesLaid c f (wide_at (held_at hs)) ch sides.0 (size v)) (sym out.starts.as_long) sides.1;
        entry = entry_later s g q i k v ds known begun es out.starts c to f low placed begun_later (labelled begun_later) body.first;
        body = body_at body.laid;
        built = body.built;
        caught = sides.2;
        from = from_here from;
      }
        where
          begun_later : 0 < size begun
          begun_later = let x = to_begun.grows in omega (arith, lt, x)

          sides : LaidSides hs sc v ds chosen c to f
          sides = out.tests.sides all c to f (premises (caught_after caught) from)

          body : LaidIn s known begun target last ended (BlockLaid c s fip f (size begun) known b target (size ended) last) c f
          body = body_in (out.enters.right (size begun) begun_later (built_later s.types at (size begun) g.entry begun_later built))

      pub first_laid : ds ≡ first_side ∷ [] → i ≡ 0 → ((map : List Kind) → label_at v.maps (size v) ≡ Some map → Reports n map (kinds_of s.types (held_at hs))) → BuiltWell s.types (size v) g.entry → AllCaught (size ended) es → From (suc i) (size ended) → FirstLaid q b target v known begun last ended
      first_laid at_start zeroth shown built caught from = record {
        mid = first.0;
        more = first.1;
        first = first.2;
        sides = subst (SidesLaid c f (wide_at (held_at hs)) ch first.1 first.0) (sym out.starts.as_long) first.3;
        entry = subst (λ j. EntryLaid c s f ch g.entry j q (size begun) known.next) zeroth entry;
        body = body_at body.laid;
        built = body.built;
        takes = takes;
      }
        where
          reports : (map : List Kind) → label_at v.maps (size v) ≡ Some map → Reports f.registers map (reported c g.entry)
          reports map e = subst (λ x. Reports x map (reported c g.entry)) (sym many) (subst (λ x. Reports n map (kinds_of x (held_at hs))) (sym types) (shown map e))

          alike : Alike c.types hs (held_at hs)
          alike = record { held = λ r. refl; built = λ r. subst (λ x. BuiltRight x (held_at hs r)) (sym types) (built r).built }

          first : LaidFirst hs sc v chosen c to f (reported c g.entry)
          first = out.tests.first at_start c to f (reported c g.entry) (premises (caught_after caught) from) alike reports

          -- no other body begins where its own does
          only : (j label : ℕ) → slice_get g.choice.entries.items j ≡ Some label → to label ≡ size begun → j ≡ i
          only j label e here = by (cases_eq j i)
            where
              by : (j ≡ i) ⊎ (j ≡ i → ⊥) → j ≡ i
              by (inl x) = x
              by (inr ne) = absurd (let x = from j label (omega (arith, ne, zeroth)) e in let y = out.body.longer in let w : ⊥ = omega (arith, x, y, here) in w)

          plain : size begun ≡ size v → (r : ℕ) → held_at (entering_root s g.choice.takes q spot (reaching g.entry known.next)).held r ≡ held_at hs r
          plain e = straight_held s g q i c to f low facts.scalars types facts.takes facts.is out.there (held_at hs) (size v)
              (first_straight c to f s.types low g v chosen (reported c g.entry) (sym out.starts.as_long ∙ e) first) (λ j label x y. only j label x (y ∙ sym e)) known.next

          known_plain : size begun ≡ size v → (r : ℕ) → held_at known.held r ≡ widened (held_at hs r)
          known_plain e r = ap (λ (x : Known). held_at x.held r) out.starts.known ∙ wide_held (entering_root s g.choice.takes q spot (reaching g.entry known.next)).held r ∙ ap widened (plain e r)

          built_known : BuiltWell s.types (size begun) known
          built_known = by (cases_eq (size begun) 0)
            where
              by : (size begun ≡ 0) ⊎ (size begun ≡ 0 → ⊥) → BuiltWell s.types (size begun) known
              by (inr ne) = let lt : 0 < size begun = omega (arith, ne) in out.enters.right (size begun) lt (built_later s.types (size v) (size begun) g.entry lt built)
              by (inl e) =
                  let at_zero : size v ≡ 0 = (let x = to_begun.grows in omega (arith, x, e)) in
                  subst (λ x. BuiltWell s.types x known) (sym e) (subst (BuiltWell s.types 0) (sym out.starts.known)
                  (plain_right s.types g.entry (entering_root s g.choice.takes q spot (reaching g.entry known.next)) (plain (e ∙ sym at_zero)) (subst (λ x. BuiltWell s.types x g.entry) at_zero built)))

          body : LaidIn s known begun target last ended (BlockLaid c s fip f (size begun) known b target (size ended) last) c f
          body = body_in built_known

          entry : EntryLaid c s f ch g.entry i q (size begun) known.next
          entry = by (cases_eq (size begun) 0)
            where
              by : (size begun ≡ 0) ⊎ (size begun ≡ 0 → ⊥) → EntryLaid c s f ch g.entry i q (size begun) known.next
              by (inr ne) = let lt : 0 < size begun = omega (arith, ne) in entry_later s g q i k v ds known begun es out.starts c to f low placed lt (labelled lt) body.first
              by (inl e) =
                  let at_zero : size v ≡ 0 = (let x = to_begun.grows in omega (arith, x, e)) in
                  entry_start s g q i k v ds known begun es out.starts c to f low placed e (subst (λ x. BuiltWell s.types x g.entry) at_zero built) (plain (e ∙ sym at_zero))

          -- a label where the tests begin takes what is known there
          takes : LabelTakes c f (size v) g.entry
          takes map e = by (cases_eq (size begun) (size v))
            where
              straight : first.0 ≡ size v → size begun ≡ size v
              straight x =
                  let h = straight_to c f (held_at hs) (wide_at (held_at hs)) ch (size v) (reported c g.entry) first.0 0 first.2 (sym x) in
                  goes h.clause h.entry
                where
                  goes : (j : ℕ) → slice_get ch.entries j ≡ Some (size v) → size begun ≡ size v
                  goes j y = at_label (slice_get g.choice.entries.items j) refl (sym (slice_get-map to g.choice.entries.items j) ∙ y)
                    where
                      at_label : (o : Option ℕ) → slice_get g.choice.entries.items j ≡ o → option_map to o ≡ Some (size v) → size begun ≡ size v
                      at_label None a b' = absurd (none_some (size v) b')
                      at_label (Some label) a b' =
                          let here : to label ≡ size v = same_some (to label) (size v) b' in
                          let le = onward from j label (omega (arith, zeroth)) a in
                          let up = to_begun.grows in
                          let w = out.starts.as_long in
                          omega (arith, here, le, up, w)

              by : (size begun ≡ size v) ⊎ (size begun ≡ size v → ⊥) → Takes f.registers map (reported c g.entry)
              by (inl same) = takes_narrow f.registers c.types map (held_at known.held) (held_at hs) (λ r. alike.built r)
                  (λ r. ap widened (known_plain same r) ∙ widened_again (held_at hs r)) (λ r. ap widened (known_plain same r) ∙ widened_again (held_at hs r) ∙ sym (known_plain same r))
                  (body.first map (ap (label_at f.labels) same ∙ e))
              by (inr ne) = reports_takes f.registers map (reported c g.entry) (first.2.quiet.first (by_mid (cases_eq first.0 (size v))) map e)
                where
                  by_mid : (first.0 ≡ size v) ⊎ (first.0 ≡ size v → ⊥) → size v < first.0
                  by_mid (inl x) = absurd (ne (straight x))
                  by_mid (inr x) = let y = chunk_end c f (held_at hs) ch (size v) (Open []) [] (reported c g.entry) first.0 first.2 in omega (arith, x, y)

  -- a clause as its parts have laid it out
  pub lays_out : (q : Pattern) (b : Block) (target : Target) (p : Progress) (k : Known) (v : Written) (r : Progress) (m : Known) (u : Written) (h : ClauseLays s fip g (record { pattern = q; body = b }) target p k v r m u) (start : ℕ) → slice_get (patterns_of g.choice) p.clause ≡ Some q → Ready start v (sides_of p.sides.items) → Before p.clause k v (sides_of p.sides.items) → IdleAt target → ClauseOut q b target p.clause k v (sides_of p.sides.items) h.known h.begun h.last h.ended (sides_of r.sides.items)
  lays_out q b target p k v r m u h start there ready before idle = clause_out q b target p.clause k v (sides_of p.sides.items) h.known h.begun h.last h.ended (sides_of r.sides.items) start there h.starts h.body ready before idle

  -- clauses whose values are the function's

  pub record ReturnOut (cs : Clauses) (p : Progress) (v : Written) (o : Progress) (l : Known) (w : Written) : Type 0 where
    pub extends : Extends v w
    pub joined : o.joined ≡ p.joined
    pub room : l.next ≤ n
    pub rising : AreRising (size v) 0 v.maps → AreRising (size w) 0 w.maps
    pub laid : (c : PlainCode) (to : ℕ → ℕ) (f : PlainFunction) (types : c.types ≡ s.types) (many : f.registers ≡ n) (z : Written) → Extends w z → HasPart (size v) z to f → (at : ℕ) → BuiltWell s.types at g.entry → 0 < size v → ReturnLaid c to f types many cs p.clause v w (sides_of p.sides.items)

  return_none : (p : Progress) (k : Known) (v : Written) → [] ≡ drop p.clause (patterns_of g.choice) → (length g.choice.rows.items ≤ p.clause → sides_of p.sides.items ≡ []) → Before p.clause k v (sides_of p.sides.items) → ReturnOut NoClauses p v p k v
  return_none p k v left all before = record {
    extends = same_extends v;
    joined = refl;
    room = before.room;
    rising = λ h. h;
    laid = λ c to f types many z later has at built lt. record {
      clauses = refl;
      caught = none_caught c to f types many p.clause (size v) (sides_of p.sides.items) left all;
      from = none_from c to f types many p.clause (size v) left;
    };
  }

  return_more : (q : Pattern) (b : Block) (cs : Clauses) (p : Progress) (k : Known) (v : Written) (r : Progress) (m : Known) (ended : Written) (o : Progress) (l : Known) (w : Written) (known : Known) (begun : Written) (last : Known) → ClauseOut q b Return p.clause k v (sides_of p.sides.items) known begun last ended (sides_of r.sides.items) → Before p.clause k v (sides_of p.sides.items) → Every Labelled (sides_of p.sides.items) → r.clause ≡ suc p.clause → r.joined ≡ p.joined → ReturnOut cs r ended o l w → ReturnOut (MoreClauses q b cs) p v o l w
  return_more q b cs p k v r m ended o l w known begun last out before labelled next joined rest = record {
    extends = extends_on v ended w to_ended rest.extends;
    joined = rest.joined ∙ joined;
    room = rest.room;
    rising = λ h. rest.rising out.body.onward;
    laid = λ c to f types many z later has at built lt.
        let following = rest.laid c to f types many z later (back_part to f v ended z to_ended has) at built (let x = to_ended.grows in omega (arith, lt, x)) in
        let here = later_laid c to f types many q b Return p.clause k v (sides_of p.sides.items) known begun last ended (sides_of r.sides.items) out before z (extends_on ended w z rest.extends later) has labelled lt at built following.caught
        (subst (λ i. From c to f types many i (size ended)) next following.from) in
        record {
          clauses = (here.more, size begun, known.next, size ended, last, here.sides, here.entry, here.body, subst (λ i. ClausesLaid c s fip f (ch c to f types many) g.entry i cs (size ended) (size w)) next following.clauses);
          caught = here.caught;
          from = here.from;
        };
  }
    where
      to_ended : Extends v ended
      to_ended = extends_on v begun ended (extends_on v out.starts.chosen begun out.tests.extends out.starts.extends) out.body.extends

  pub return_out : (cs : Clauses) (p : Progress) (k : Known) (v : Written) (o : Progress) (l : Known) (w : Written) → ClausesLay s fip g cs Return p k v o l w → patterns_in cs ≡ drop p.clause (patterns_of g.choice) → Every Labelled (sides_of p.sides.items) → (length g.choice.rows.items ≤ p.clause → sides_of p.sides.items ≡ []) → Before p.clause k v (sides_of p.sides.items) → ReturnOut cs p v o l w
  return_out NoClauses p k v o l w h left labelled all before =
      subst (λ x. ReturnOut NoClauses p v x l w) (sym h.0) (subst (λ x. ReturnOut NoClauses p v p x w) (sym h.1) (subst (ReturnOut NoClauses p v p k) (sym h.2) (return_none p k v left all before)))
  return_out (MoreClauses q b cs) p k v o l w (r, m, u, c, rest) left labelled all before =
      return_more q b cs p k v r m c.ended o l w c.known c.begun c.last out before labelled c.next c.ends.1
      (return_out cs r m c.ended o l w (subst (λ x. ClausesLay s fip g cs Return r m x o l w) c.ends.0 rest) (two.1 ∙ ap (λ i. drop i (patterns_of g.choice)) (sym c.next)) out.tests.labelled
      (λ le. c.starts.all (let e = c.next in omega (arith, le, e)))
      (before_next q b Return p.clause k v (sides_of p.sides.items) c.known c.begun c.last c.ended (sides_of r.sides.items) out before r.clause m c.ended c.next
      (let x = c.room in let y = room_last q b Return p.clause k v (sides_of p.sides.items) c.known c.begun c.last c.ended (sides_of r.sides.items) out in omega (arith, x, y)) (omega arith) (rising_less (size c.ended) 0 c.ended.maps out.body.onward)))
    where
      two : (slice_get (patterns_of g.choice) p.clause ≡ Some q) × (patterns_in cs ≡ drop (suc p.clause) (patterns_of g.choice)) × (p.clause < length (patterns_of g.choice))
      two = next_one (patterns_of g.choice) p.clause q (patterns_in cs) left

      out : ClauseOut q b Return p.clause k v (sides_of p.sides.items) c.known c.begun c.last c.ended (sides_of r.sides.items)
      out = lays_out q b Return p k v r m u c (size v) two.0 (inl labelled) before tt

  -- the end of a clause whose values go to registers

  goes_extends : (i : ℕ) (v w : Written) → GoesLaid g i v w → Extends v w
  goes_extends i v w (inl e) = subst (Extends v) (sym e.1) (added_extends v (I.Jump g.end))
  goes_extends i v w (inr e) = subst (Extends v) (sym e.1) (same_extends v)

  goes_maps : (i : ℕ) (v w : Written) → GoesLaid g i v w → w.maps ≡ v.maps
  goes_maps i v w (inl e) = ap (λ (y : Written). y.maps) e.1
  goes_maps i v w (inr e) = ap (λ (y : Written). y.maps) e.1

  goes_on : (f : PlainFunction) (to : ℕ → ℕ) (m : ℕ) (cs : Clauses) (i : ℕ) (v w : Written) (end : ℕ) → patterns_in cs ≡ drop i (patterns_of g.choice) → GoesLaid g i v w → m ≤ size v → HasFrom m w to f.instrs → to g.end ≡ end → EndsAt cs (size w) end → GoesOn f cs (size v) end (size w)
  goes_on f to m NoClauses i v w end left (inl e) le h at ends =
      absurd (let x = all_gone (patterns_of g.choice) i left in let y = e.0 in let r = same_rows g.choice facts.has in let z : ⊥ = omega (arith, x, y, r) in z)
  goes_on f to m NoClauses i v w end left (inr e) le h at ends = let x : size w ≡ size v = ap size e.1 in (ends ∙ x, x)
  goes_on f to m (MoreClauses q b cs) i v w end left (inl e) le h at ends =
      let x : size w ≡ suc (size v) = ap size e.1 ∙ one_longer v (I.Jump g.end) in
      (stands v (I.Jump g.end) m to f.instrs le (subst (λ y. HasFrom m y to f.instrs) e.1 h) ∙ ap (λ y. Some (I.Jump y)) at, omega (arith, x, ends), x)
  goes_on f to m (MoreClauses q b cs) i v w end left (inr e) le h at ends =
      absurd (let x = (next_one (patterns_of g.choice) i q (patterns_in cs) left).2 in let y = e.0 in let r = same_rows g.choice facts.has in let z : ⊥ = omega (arith, x, y, r) in z)

  -- what it leaves of match e
  pub record EndOut (rs : List ℕ) (e : Expression) (last : Known) (ended : Written) (known : Known) (left : Written) : Type 0 where
    pub extends : Extends ended left
    pub maps : left.maps ≡ ended.maps
    pub less : Less last known
    pub next : known.next ≡ last.next
    pub wide : IsWide known
    pub by : (c : PlainCode) (to : ℕ → ℕ) (f : PlainFunction) → HasFrom (size ended) left to f.instrs → LeftAfter c s fip f g.entry e rs (size ended) last (size left) known

  pub end_out : (rs : List ℕ) (e : Expression) (last : Known) (ended : Written) (known : Known) (left : Written) → ClauseLeavesLaid s fip last ended g.entry g.used.items g.need rs known left → Extends ended left → registers known ≡ registers last → Accounted last → CanLeave s fip g.entry e g.used.items g.need → EndOut rs e last ended known left
  end_out rs e last ended known left leaves extends many accounts can = record {
    extends = extends;
    maps = leaves.maps;
    less = less_left s fip some_code some_function last ended g.entry g.used.items g.need rs known left e (size ended) (size left) many leaves some_after;
    next = leaves.next;
    wide = wide_wide some_after.left known some_after.known;
    by = leaves.by accounts e can;
  }
    where
      -- in any function
      some_code : PlainCode
      some_code = record { types = s.types; functions = [] }

      some_function : PlainFunction
      some_function = record {
        kind = Fbip;
        name = [];
        params = [];
        credits = [];
        results = [];
        registers = n;
        instrs = map (settled (place_of left.places)) left.instrs;
        labels = [];
      }

      some_after : LeftAfter some_code s fip some_function g.entry e rs (size ended) last (size left) known
      some_after = leaves.by accounts e can some_code (place_of left.places) some_function
          (back 0 (size ended) left (place_of left.places) (map (settled (place_of left.places)) left.instrs) (omega arith) (has_all left (map (settled (place_of left.places)) left.instrs) refl))

  right_left : (tb : Table) (at : ℕ) (h x : Held) → (x ≡ h) ⊎ (x ≡ H.Nothing) → RightAt tb at h → BuiltRight tb x
  right_left tb at h x (inl e) r = subst (BuiltRight tb) (sym e) r.built
  right_left tb at h x (inr e) r = subst (BuiltRight tb) (sym e) (record { there = λ t d y. absurd (cc) })

  pub clause_ends : (rs : List ℕ) (e : Expression) (last : Known) (ended : Written) (known : Known) (left : Written) → EndOut rs e last ended known left → (cs : Clauses) (i : ℕ) (u : Written) (end : ℕ) → patterns_in cs ≡ drop i (patterns_of g.choice) → GoesLaid g i left u → Underway s.types last ended → (c : PlainCode) (to : ℕ → ℕ) (f : PlainFunction) → c.types ≡ s.types → f.registers ≡ registers last → HasPart (size ended) u to f → to g.end ≡ end → EndsAt cs (size u) end → BuiltWell s.types (size ended) last → ClauseEnds c s fip f g.entry e rs cs (size ended) last end (size u) known
  clause_ends rs e last ended known left out cs i u end follow goes under c to f types many has at ends built = record {
    mid = following.mid;
    bare = following.bare;
    bares = following.bares;
    stop = size left;
    left = following.left;
    over = following.over;
    built = λ r. subst (λ x. BuiltRight x (held_at following.left.held r)) (sym types) (right_left s.types (size ended) (held_at last.held r) (held_at following.left.held r) (following.held r) (built r));
    known = following.known;
    goes = goes_on f to (size ended) cs i left u end follow goes out.extends.grows has.code at ends;
    quiet = quiet_part s.types last ended u (goes_maps i left u goes ∙ out.maps) under c to f types many has;
  }
    where
      following : LeftAfter c s fip f g.entry e rs (size ended) last (size left) known
      following = out.by c to f (front (size ended) left u to f.instrs (goes_extends i left u goes) has.code)

  -- clauses whose values go to registers; j is known where those before meet

  pub record IntoOut (e : Expression) (rs : List ℕ) (cs : Clauses) (p : Progress) (v : Written) (j : Known) (o : Progress) (l : Known) (w : Written) : Type 0 where
    pub extends : Extends v w
    pub room : l.next ≤ n
    pub rising : Rising (size w) 0 w.maps
    pub met : Known
    pub is : o.joined ≡ Some met
    pub less : Less j met
    pub next : met.next ≡ j.next
    pub laid : (c : PlainCode) (to : ℕ → ℕ) (f : PlainFunction) (types : c.types ≡ s.types) (many : f.registers ≡ n) (z : Written) → Extends w z → HasPart (size v) z to f → to g.end ≡ size w → (at : ℕ) → BuiltWell s.types at g.entry → 0 < size v → IntoLaid c to f types many e rs cs p.clause v w (sides_of p.sides.items) j met
    pub ends : EndsAt cs (size v) (size w)

  into_none : (e : Expression) (rs : List ℕ) (p : Progress) (k : Known) (v : Written) (j : Known) → p.joined ≡ Some j → [] ≡ drop p.clause (patterns_of g.choice) → (length g.choice.rows.items ≤ p.clause → sides_of p.sides.items ≡ []) → Before p.clause k v (sides_of p.sides.items) → IntoOut e rs NoClauses p v j p k v
  into_none e rs p k v j is left all before = record {
    extends = same_extends v;
    room = before.room;
    rising = before.rising;
    met = j;
    is = is;
    less = less_same j;
    next = refl;
    laid = λ c to f types many z later has end at built lt. record {
      clauses = (refl, refl);
      caught = none_caught c to f types many p.clause (size v) (sides_of p.sides.items) left all;
      from = none_from c to f types many p.clause (size v) left;
    };
    ends = refl;
  }

  -- what one clause whose values go to registers has written
  pub record OneInto (e : Expression) (rs : List ℕ) (q : Pattern) (b : Block) (p : Progress) (k : Known) (v : Written) (known : Known) (begun : Written) (last : Known) (ended : Written) (r : Progress) (m : Known) (u : Written) : Type 0 where
    pub out : ClauseOut q b (Into rs) p.clause k v (sides_of p.sides.items) known begun last ended (sides_of r.sides.items)
    pub next : r.clause ≡ suc p.clause
    pub left : Written
    pub gone : Known
    pub end : EndOut rs e last ended gone left
    pub goes : GoesLaid g r.clause left u
    pub joins : JoinsLaid p.joined gone r.joined
    pub room : m.next ≤ n

  pub one_into : (e : Expression) (rs : List ℕ) → CanLeave s fip g.entry e g.used.items g.need → (q : Pattern) (b : Block) (p : Progress) (k : Known) (v : Written) (r : Progress) (m : Known) (u : Written) (h : ClauseLays s fip g (record { pattern = q; body = b }) (Into rs) p k v r m u) (start : ℕ) → slice_get (patterns_of g.choice) p.clause ≡ Some q → Ready start v (sides_of p.sides.items) → Before p.clause k v (sides_of p.sides.items) → IdleAt (Into rs) → OneInto e rs q b p k v h.known h.begun h.last h.ended r m u
  one_into e rs can q b p k v r m u h start there ready before idle = record {
    out = out;
    next = h.next;
    left = h.ends.left;
    gone = h.ends.known;
    end = end_out rs e h.last h.ended h.ends.known h.ends.left h.ends.leaves h.ends.extends h.ends.many out.body.onward.0.accounts can;
    goes = h.ends.goes;
    joins = h.ends.joins;
    room = let x = h.room in let y = room_last q b (Into rs) p.clause k v (sides_of p.sides.items) h.known h.begun h.last h.ended (sides_of r.sides.items) out in omega (arith, x, y);
  }
    where
      out : ClauseOut q b (Into rs) p.clause k v (sides_of p.sides.items) h.known h.begun h.last h.ended (sides_of r.sides.items)
      out = lays_out q b (Into rs) p k v r m u h start there ready before idle

  module _ (e : Expression) (rs : List ℕ) (q : Pattern) (b : Block) (p : Progress) (k : Known) (v : Written) (known : Known) (begun : Written) (last : Known) (ended : Written) (r : Progress) (m : Known) (u : Written) (one : OneInto e rs q b p k v known begun last ended r m u) (before : Before p.clause k v (sides_of p.sides.items)) where
    pub to_end : Extends ended u
    to_end = extends_on ended one.left u one.end.extends (goes_extends r.clause one.left u one.goes)

    pub over_all : Extends v u
    over_all = extends_on v ended u (extends_on v begun ended (extends_on v one.out.starts.chosen begun one.out.tests.extends one.out.starts.extends) one.out.body.extends) to_end

    end_maps : u.maps ≡ ended.maps
    end_maps = goes_maps r.clause one.left u one.goes ∙ one.end.maps

    pub next_before : Before r.clause m u (sides_of r.sides.items)
    next_before = before_next q b (Into rs) p.clause k v (sides_of p.sides.items) known begun last ended (sides_of r.sides.items) one.out before r.clause m u one.next one.room to_end.grows
        (subst (Rising (size u) 0) (sym end_maps) (rising_higher (size ended) (size u) 0 ended.maps to_end.grows one.out.body.onward.0.rising))

    pub next_all : length g.choice.rows.items ≤ r.clause → sides_of r.sides.items ≡ []
    next_all le = one.out.starts.all (let x = one.next in omega (arith, le, x))

    -- in a function
    pub ends_laid : (cs : Clauses) (end : ℕ) → patterns_in cs ≡ drop r.clause (patterns_of g.choice) → (c : PlainCode) (to : ℕ → ℕ) (f : PlainFunction) → c.types ≡ s.types → f.registers ≡ n → (z : Written) → Extends u z → HasPart (size v) z to f → to g.end ≡ end → EndsAt cs (size u) end → BuiltWell s.types (size ended) last → ClauseEnds c s fip f g.entry e rs cs (size ended) last end (size u) one.gone
    ends_laid cs end follow c to f types many z later has at ends built =
        clause_ends rs e last ended one.gone one.left one.end cs r.clause u end follow one.goes one.out.body.onward.0 c to f types (many ∙ sym facts.many ∙ sym one.out.enters.many ∙ sym one.out.body.stay)
        (back_part to f v ended u to_ended (front_part to f v u z later has)) at ends built
      where
        to_ended : Extends v ended
        to_ended = extends_on v begun ended (extends_on v one.out.starts.chosen begun one.out.tests.extends one.out.starts.extends) one.out.body.extends

  -- what is known at the ends of the clauses before and of this one
  joined_some : (j known : Known) (o jl : Option Known) → o ≡ Some j → JoinsLaid o known jl → (m : Known) × (jl ≡ Some m) × Met j known m × (Accounted j → Accounted m)
  joined_some j known None jl e h = absurd (cc)
  joined_some j known (Some x) jl e h = (h.0, h.1, subst (λ y. Met y known h.0) (same_some x j e) h.2, λ a. h.3 (subst Accounted (sym (same_some x j e)) a))

  into_more : (e : Expression) (rs : List ℕ) (q : Pattern) (b : Block) (cs : Clauses) (p : Progress) (k : Known) (v : Written) (known : Known) (begun : Written) (last : Known) (ended : Written) (r : Progress) (m : Known) (u : Written) (j both : Known) (o : Progress) (l : Known) (w : Written) (one : OneInto e rs q b p k v known begun last ended r m u) → Before p.clause k v (sides_of p.sides.items) → Every Labelled (sides_of p.sides.items) → patterns_in cs ≡ drop r.clause (patterns_of g.choice) → Met j one.gone both → (Accounted j → Accounted both) → IntoOut e rs cs r u both o l w → IntoOut e rs (MoreClauses q b cs) p v j o l w
  into_more e rs q b cs p k v known begun last ended r m u j both o l w one before labelled follow meets accounts rest = record {
    extends = extends_on v u w all rest.extends;
    room = rest.room;
    rising = rest.rising;
    met = rest.met;
    is = rest.is;
    less = less_on j both rest.met (less_met j one.gone both meets accounts) rest.less;
    next = rest.next ∙ meets.next;
    laid = λ c to f types many z later has end at built lt.
        let following = rest.laid c to f types many z later (back_part to f v u z all has) end at built (let x = all.grows in omega (arith, lt, x)) in
        let here = later_laid c to f types many q b (Into rs) p.clause k v (sides_of p.sides.items) known begun last ended (sides_of r.sides.items) one.out before z
        (extends_on ended u z stop (extends_on u w z rest.extends later)) has labelled lt at built
        (all_caught_less c f hs (ch c to f types many) to (size ended) (size u) stop.grows (sides_of r.sides.items) following.caught)
        (λ x label le y. let y' = subst (λ i. From c to f types many i (size u)) one.next following.from x label le y in let up = stop.grows in omega (arith, y', up)) in
        record {
          clauses = (
            here.more,
            size begun,
            known.next,
            size ended,
            last,
            size u,
            one.gone,
            both,
            here.sides,
            here.entry,
            here.body,
            ends_laid e rs q b p k v known begun last ended r m u one before cs (size w) follow c to f types many z (extends_on u w z rest.extends later) has end rest.ends here.built,
            meets,
            subst (λ i. ClausesMeet c s fip f (ch c to f types many) g.entry e i cs rs (size w) both (size u) rest.met) one.next following.clauses,
          );
          caught = here.caught;
          from = here.from;
        };
    ends = let x = all.grows in let y = rest.extends.grows in omega (arith, x, y);
  }
    where
      all : Extends v u
      all = over_all e rs q b p k v known begun last ended r m u one before

      stop : Extends ended u
      stop = to_end e rs q b p k v known begun last ended r m u one before

  pub into_out : (e : Expression) (rs : List ℕ) → CanLeave s fip g.entry e g.used.items g.need → IdleAt (Into rs) → (cs : Clauses) (p : Progress) (k : Known) (v : Written) (j : Known) (o : Progress) (l : Known) (w : Written) → ClausesLay s fip g cs (Into rs) p k v o l w → p.joined ≡ Some j → patterns_in cs ≡ drop p.clause (patterns_of g.choice) → Every Labelled (sides_of p.sides.items) → (length g.choice.rows.items ≤ p.clause → sides_of p.sides.items ≡ []) → Before p.clause k v (sides_of p.sides.items) → IntoOut e rs cs p v j o l w
  into_out e rs can idle NoClauses p k v j o l w h is left labelled all before =
      subst (λ x. IntoOut e rs NoClauses p v j x l w) (sym h.0) (subst (λ x. IntoOut e rs NoClauses p v j p x w) (sym h.1) (subst (IntoOut e rs NoClauses p v j p k) (sym h.2) (into_none e rs p k v j is left all before)))
  into_out e rs can idle (MoreClauses q b cs) p k v j o l w (r, m, u, c, rest) is left labelled all before =
      into_more e rs q b cs p k v c.known c.begun c.last c.ended r m u j joined.0 o l w one before labelled follow joined.2 joined.3
      (into_out e rs can idle cs r m u joined.0 o l w rest joined.1 follow one.out.tests.labelled (next_all e rs q b p k v c.known c.begun c.last c.ended r m u one before) (next_before e rs q b p k v c.known c.begun c.last c.ended r m u one before))
    where
      two : (slice_get (patterns_of g.choice) p.clause ≡ Some q) × (patterns_in cs ≡ drop (suc p.clause) (patterns_of g.choice)) × (p.clause < length (patterns_of g.choice))
      two = next_one (patterns_of g.choice) p.clause q (patterns_in cs) left

      one : OneInto e rs q b p k v c.known c.begun c.last c.ended r m u
      one = one_into e rs can q b p k v r m u c (size v) two.0 (inl labelled) before idle

      follow : patterns_in cs ≡ drop r.clause (patterns_of g.choice)
      follow = two.1 ∙ ap (λ i. drop i (patterns_of g.choice)) (sym c.next)

      joined : (m' : Known) × (r.joined ≡ Some m') × Met j one.gone m' × (Accounted j → Accounted m')
      joined = joined_some j one.gone p.joined r.joined is one.joins
