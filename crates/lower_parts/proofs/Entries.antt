-- How the entry of a clause's body is laid out: a label there takes what is known, or nothing was written before it, and
-- then the registers hold what they held where the match began.
use Rattle.std.proofs.Common.{◌≡◌, ◌⊎◌, inl, inr, refl, sym, ap, ◌∙◌, subst, arith, true≢false, ℕ, zero, suc, ◌<◌, ◌≤◌, Bool, true, false, List, [], ◌∷◌, Option, Some, None, slice_get, get_or}
use Rattle.std.specs.Prelude.{option_map, is_some, ◌==◌, ◌&&◌, ◌||◌, if◌then◌else◌}
use Rattle.std.proofs.lemmas.Bool.{eqb-true}
use Rattle.std.proofs.lemmas.Option.{slice_get-map}
use Rattle.fip_language.specs.Table.{Table}
use Rattle.fip_trees.specs.Tree.{Pattern, BinderPattern, LiteralPattern, ConstructorPattern, Patterns, NoPatterns, MorePatterns}
use Rattle.cell_code.specs.declared.kind.Kind.{Kind}
use Rattle.cell_code.specs.Plain.{PlainFunction, PlainCode}
use Rattle.lower_frame.specs.code_rules.Codes.{label_at}
use Rattle.lower_frame.specs.code_rules.Types.{count, fields}
use Rattle.match_knowledge.specs.declared.heads.Head.{Head}
use Rattle.match_knowledge.specs.declared.heads.Head.TheVariants.{Number, Tag}
use Rattle.match_knowledge.specs.declared.verdicts.Verdict.TheVariants.{Fits}
use Rattle.match_knowledge.specs.ValueHeads.{IsHead}
use Rattle.match_knowledge.specs.Patterns as M
use Rattle.match_knowledge.specs.Patterns.{IsPattern, ArePatterns}
use Rattle.match_knowledge.specs.Known as W
use Rattle.match_knowledge.specs.Known.{Open, compare, is_in, all_out, is_last, side}
use Rattle.lower_frame.specs.lowering_relation.declared.held.Held.TheVariants as H
use Rattle.lower_frame.specs.lowering_relation.Known.{Known, holding, naming}
use Rattle.lower_frame.specs.lowering_relation.Values.{Setting, is_scalar}
use Rattle.lower_frame.specs.lowering_relation.Spots.{Spot, At, Spots, NoSpots, MoreSpots}
use Rattle.lower_frame.specs.lowering_relation.Rows.{row_of}
use Rattle.lower_frame.specs.lowering_relation.Landing.{Side, IsScene}
use Rattle.lower_frame.specs.lowering_relation.Opening.{names_any, any_named, Roomy, AllRoomy}
use Rattle.lower_frame.specs.lowering_relation.Entering.{unnaming, variable_held, entering, entering_all, root_of, entering_root}
use Rattle.lower_frame.specs.lowering_relation.Written.{Written, size, Extends, IsAt}
use Rattle.lower_frame.specs.lowering_relation.Describing.{Holding, held_at, kind_of}
use Rattle.lower_frame.specs.lowering_relation.Labels.{Catches, reported}
use Rattle.lower_frame.specs.lowering_relation.Matches.{widened, wide, wide_at, EntryLaid}
use Rattle.lower_frame.specs.lowering_relation.Tests.{Choice, NamesLaid, NameAll, TakesLaid, ChosenLaid, ChosenAtOnce, TestsLaid, ChunkLaid, SideLaid, SidesLaid}
use Rattle.lower_frame.proofs.lowering_relation.Growing.{names_end, name_all_end, take_all_end, tests_end, at_once}
use Rattle.lower_frame.specs.Positions.{spot_of, reaching}
use Rattle.lower_parts.specs.declared.match_state.Matching.{Matching}
use Rattle.lower_parts.specs.Laying.{HasPart}
use Rattle.lower_parts.specs.Scenes.{patterns_of, scene}
use Rattle.lower_parts.specs.Testing.{choice_at}
use Rattle.lower_parts.specs.Chosen.{LaidFirst}
use Rattle.lower_parts.specs.Bodies.{ScalarsRight, RightAt, BuiltWell, LabelTakes}
use Rattle.lower_parts.specs.Matches.{StartsLaid}
use Rattle.lower_parts.proofs.Lessening.{plain_wide, wide_held}
use Rattle.lower_parts.proofs.Shown.{catches_by}
use Rattle.fip_language.proofs.Facts.{or_false_both as both_false, or_false_false as none_named, same_some}

-- ---- a pattern that names nothing

-- where nothing is read, nothing is named
all_unnamed : (f : PlainFunction) (at : ℕ) (ps : Patterns) (ss : Spots) (r i end : ℕ) (more : List ℕ) → AllRoomy ps ss → end ≡ at → NameAll f at ps ss r i [] end more → any_named ps ≡ false
all_unnamed f at NoPatterns ss r i end more room e h = refl
all_unnamed f at (MorePatterns p ps) NoSpots r i end more room e h = absurd room
all_unnamed f at (MorePatterns p ps) (MoreSpots s ss) r i end more room e (last, seen, inl (named, mid, one, inl read, deep), rest) = absurd (true≢false (sym read.0))
all_unnamed f at (MorePatterns p ps) (MoreSpots s ss) r i end more room e (last, seen, inl (named, mid, one, inr read, deep), rest) =
    let a = names_end f mid p s one last seen deep in
    let b = name_all_end f last ps ss r (suc i) seen end more rest in
    let n = read.2 in
    absurd (let z : ⊥ = omega (arith, a, b, n, e) in z)
all_unnamed f at (MorePatterns p ps) (MoreSpots s ss) r i end more room e (last, seen, inr (unnamed, here, none), rest) =
    none_named (names_any p) (any_named ps) unnamed
    (all_unnamed f last ps ss r (suc i) end more room.1 (e ∙ sym here) (subst (λ xs. NameAll f last ps ss r (suc i) xs end more) none rest))

module _ (s : Setting) (root : Option ℕ) where
  mutual
    part_plain : (q : Pattern) (p : Spot) (k : Known) → names_any q ≡ false → (entering s false root q p k).held ≡ k.held
    part_plain (BinderPattern b) (At r fs) k e = ap (λ y. (if y then holding (naming k b.number r) r (variable_held s false root b.ty) else unnaming k b.number).held) e
    part_plain (LiteralPattern i pl) (At r fs) k e = refl
    part_plain (ConstructorPattern t d c n pl ps) (At r fs) k e = all_plain ps fs k e

    all_plain : (ps : Patterns) (ss : Spots) (k : Known) → any_named ps ≡ false → (entering_all s false root ps ss k).held ≡ k.held
    all_plain NoPatterns ss k e = refl
    all_plain (MorePatterns p ps) NoSpots k e = refl
    all_plain (MorePatterns p ps) (MoreSpots q ss) k e =
        let two = both_false (names_any p) (any_named ps) e in
        all_plain ps ss (entering s false root p q k) two.1 ∙ part_plain p q k two.0

-- ---- a constructor that a value is seen to have without a test

-- all of the first n constructors are one of these: there is one at most
one_out : (n : ℕ) (h : Head) → all_out n (h ∷ []) ≡ true → n ≤ 1
one_out zero h e = omega arith
one_out (suc zero) h e = omega arith
one_out (suc (suc n)) (Number i) e = absurd (true≢false (sym e))
one_out (suc (suc n)) (Tag c) e =
    let first = is_here c (suc n) (all_out (suc n) (Tag c ∷ [])) e in
    let second = is_here c n (all_out n (Tag c ∷ [])) first.1 in
    let a = first.0 in
    let b = second.0 in
    absurd (let z : ⊥ = omega (arith, a, b) in z)
  where
    by : (b : Bool) (c m : ℕ) (rest : Bool) → (c == m) ≡ b → ((if b then true else false) && rest) ≡ true → (c ≡ m) × (rest ≡ true)
    by true c m rest e f = (eqb-true c m e, f)
    by false c m rest e f = absurd (true≢false (sym f))

    is_here : (c m : ℕ) (rest : Bool) → (is_in (Tag m) (Tag c ∷ []) && rest) ≡ true → (c ≡ m) × (rest ≡ true)
    is_here c m rest e = by (c == m) c m rest refl e

last_one : (tb : Table) (t : ℕ) (p : M.Pattern) → IsPattern tb t p → is_last tb p (Open []) ≡ true → count tb t ≤ 1
last_one tb t M.Any typed e = absurd (true≢false (sym e))
last_one tb t (M.Test u h ps) typed e = subst (λ x. count tb x ≤ 1) typed.0 (by u e)
  where
    by : (u : ℕ) → W.none_left tb u (h ∷ []) ≡ true → count tb u ≤ 1
    by zero e = absurd (true≢false (sym e))
    by (suc u) e = one_out (count tb (suc u)) h e

-- where no instruction chooses a constructor without fields, its type is scalar
module _ (c : PlainCode) (f : PlainFunction) (ch : Choice) where
  -- the clause that is chosen in the end
  at_last : (n at : ℕ) (k : W.Known) (read : List ℕ) (i : ℕ) → ChosenAtOnce c f ch n at k read i → (l : W.Known) × ChosenLaid f ch at l read i at
  at_last zero at k read i h = (k, h)
  at_last (suc n) at k read i h = at_last n at (side true h.0 k) read i h.3

  one_tag : (n at i : ℕ) (t d x : ℕ) (a : Rattle.fip_trees.specs.Tree.Name) (pl : Rattle.fip_language.specs.declared.Place.Place) (ps : Patterns) → ((j : ℕ) (p : Pattern) → slice_get ch.patterns j ≡ Some p → IsPattern c.types ch.type (row_of p)) → slice_get ch.patterns i ≡ Some (ConstructorPattern t d x a pl ps) → ChosenAtOnce c f ch n at (Open []) [] i → count c.types ch.type ≤ 1
  one_tag zero at i t d x a pl ps typed there h =
      absurd (asks_not (ap (λ q. compare (row_of q) (Open [])) (same_some (ConstructorPattern t d x a pl ps) h.pattern (sym there ∙ h.there)) ∙ h.fits))
    where
      asks_not : Rattle.match_knowledge.specs.declared.verdicts.Verdict.TheVariants.Asks ≡ Fits → ⊥
      asks_not e = absurd (cc)
  one_tag (suc n) at i t d x a pl ps typed there (p, asking, last, rest) =
      last_one c.types ch.type p (subst (IsPattern c.types ch.type) (sym asking.same) (typed asking.number asking.pattern asking.there)) last

lone_scalar : (s : Setting) (t u d x : ℕ) (a : Rattle.fip_trees.specs.Tree.Name) (pl : Rattle.fip_language.specs.declared.Place.Place) → ScalarsRight s → IsPattern s.types t (row_of (ConstructorPattern u d x a pl NoPatterns)) → count s.types t ≤ 1 → is_scalar s t ≡ true
lone_scalar s t u d x a pl scalars (same, fs, head, typed) few = by t fs head typed few
  where
    by : (t : ℕ) (fs : List ℕ) → IsHead s.types t (Tag x) fs → ArePatterns s.types fs M.NoPatterns → count s.types t ≤ 1 → is_scalar s t ≡ true
    by zero fs head typed few = absurd head
    by (suc t) (y ∷ fs) head typed few = absurd typed
    by (suc t) [] head typed few =
        let lt : x < count s.types (suc t) = Rattle.std.proofs.lemmas.Option.slice_get_within (Rattle.fip_language.specs.Table.shapes s.types t) x head.0 head.1 in
        let one : count s.types (suc t) ≡ 1 = omega (arith, lt, few) in
        let first : x ≡ 0 = omega (arith, lt, few) in
        let bare : fields s.types (suc t) x ≡ [] = ap Rattle.lower_frame.specs.code_rules.Types.fields_of head.1 ∙ head.2 in
        scalars.atoms (suc t) one (subst (λ z. fields s.types (suc t) z ≡ []) first bare)

-- ---- an entry that is reached without an instruction

-- registers hold what they held
settled_plain : (c : PlainCode) (s : Setting) (f : PlainFunction) (ch : Choice) (steps at i n : ℕ) (q : Pattern) (p : Spot) (m : Known) → ScalarsRight s → c.types ≡ s.types → (ch.takes ≡ true → is_scalar s ch.type ≡ false) → ((j : ℕ) (x : Pattern) → slice_get ch.patterns j ≡ Some x → IsPattern c.types ch.type (row_of x)) → Roomy q p → ch.root ≡ p → slice_get ch.patterns i ≡ Some q → ChosenAtOnce c f ch steps at (Open []) [] i → (takes : Bool) → ch.takes ≡ takes → (entering_root s takes q p (reaching m n)).held ≡ m.held
settled_plain c s f ch steps at i n (BinderPattern b) (At r fs) m scalars same apart typed room root there h takes e = refl
settled_plain c s f ch steps at i n (LiteralPattern j pl) (At r fs) m scalars same apart typed room root there h takes e = refl
settled_plain c s f ch steps at i n (ConstructorPattern t d x a pl ps) (At r fs) m scalars same apart typed room root there h false e =
    all_plain s (root_of r (get_or m.held r H.Nothing)) ps fs (reaching m n) (all_unnamed f at ps fs r 0 at names.0 room refl names.1)
  where
    q : Pattern
    q = ConstructorPattern t d x a pl ps

    names : (more : List ℕ) × NamesLaid f at q (At r fs) [] at more
    names =
        let last = at_last c f ch steps at (Open []) [] i h in
        let is : last.1.pattern ≡ q = same_some last.1.pattern q (sym last.1.there ∙ there) in
        subst (λ y. (more : List ℕ) × NamesLaid f at q y [] at more) root
        (subst (λ y. (more : List ℕ) × NamesLaid f at y ch.root [] at more) is
        (subst (λ b. Rattle.lower_frame.specs.lowering_relation.Tests.SettledLaid b f at last.1.pattern ch.root [] at) e last.1.settled))
settled_plain c s f ch steps at i n (ConstructorPattern t d x a pl ps) (At r fs) m scalars same apart typed room root there h true e = absurd (by ps takes there)
  where
    takes : TakesLaid f at (ConstructorPattern t d x a pl ps) (At r fs) at
    takes =
        let last = at_last c f ch steps at (Open []) [] i h in
        let is : last.1.pattern ≡ ConstructorPattern t d x a pl ps = same_some last.1.pattern (ConstructorPattern t d x a pl ps) (sym last.1.there ∙ there) in
        subst (λ y. TakesLaid f at (ConstructorPattern t d x a pl ps) y at) root
        (subst (λ y. TakesLaid f at y ch.root at) is
        (subst (λ b. Rattle.lower_frame.specs.lowering_relation.Tests.SettledLaid b f at last.1.pattern ch.root [] at) e last.1.settled))

    by : (ps : Patterns) → TakesLaid f at (ConstructorPattern t d x a pl ps) (At r fs) at → slice_get ch.patterns i ≡ Some (ConstructorPattern t d x a pl ps) → ⊥
    by NoPatterns taken at_i =
        let few : count s.types ch.type ≤ 1 = subst (λ tb. count tb ch.type ≤ 1) same (one_tag c f ch steps at i t d x a pl NoPatterns typed at_i h) in
        true≢false (sym (lone_scalar s ch.type t d x a pl scalars (subst (λ tb. IsPattern tb ch.type (row_of (ConstructorPattern t d x a pl NoPatterns))) same (typed i (ConstructorPattern t d x a pl NoPatterns) at_i)) few) ∙ apart e)
    by (MorePatterns p ps) taken at_i =
        let later = take_all_end f taken.0 (MorePatterns p ps) fs at taken.2 in
        let one = taken.1.1 in
        absurd (let z : ⊥ = omega (arith, later, one) in z)

pub entered_plain : (c : PlainCode) (s : Setting) (f : PlainFunction) (hold : Holding) (ch : Choice) (q : Pattern) (m : Known) (n steps at i : ℕ) → ScalarsRight s → c.types ≡ s.types → (ch.takes ≡ true → is_scalar s ch.type ≡ false) → ((j : ℕ) (x : Pattern) → slice_get ch.patterns j ≡ Some x → IsPattern s.types ch.type (row_of x)) → Roomy q ch.root → slice_get ch.patterns i ≡ Some q → TestsLaid c f hold ch steps at (Open []) [] i at → (r : ℕ) → held_at (entering_root s ch.takes q ch.root (reaching m n)).held r ≡ held_at m.held r
entered_plain c s f hold ch q m n steps at i scalars same apart typed room there tests r =
    ap (λ hs. held_at hs r) (settled_plain c s f ch steps at i n q ch.root m scalars same apart
    (λ j x e. subst (λ tb. IsPattern tb ch.type (row_of x)) (sym same) (typed j x e)) room refl there
    (at_once f c hold ch steps at (Open []) [] i at refl tests) ch.takes refl)

-- ---- the tests that lead straight to a body

pub chunk_end : (c : PlainCode) (f : PlainFunction) (g : Holding) (ch : Choice) (at : ℕ) (k : W.Known) (read : List ℕ) (m : ℕ → Kind) (next : ℕ) → ChunkLaid c f g ch at k read m next → at ≤ next
chunk_end c f g ch at k read m next h = by h.goes
  where
    by : ((slice_get f.instrs h.end ≡ Some (Rattle.cell_code.specs.declared.code.Instr.TheVariants.Jump h.place)) × (h.end < h.place) × (next ≡ suc h.end)) ⊎ ((h.place ≡ h.end) × (next ≡ h.end)) → at ≤ next
    by (inl x) = let a = tests_end f c g ch h.steps at k read h.clause h.end h.tests in let e = x.2 in omega (arith, a, e)
    by (inr x) = let a = tests_end f c g ch h.steps at k read h.clause h.end h.tests in let e = x.1 in omega (arith, a, e)

sides_end : (c : PlainCode) (f : PlainFunction) (g : Holding) (ch : Choice) (n at end : ℕ) → SidesLaid c f g ch n at end → at ≤ end
sides_end c f g ch zero at end h = omega (arith, h)
sides_end c f g ch (suc n) at end h =
    let side : SideLaid c f g ch at h.0 = h.1 in
    let a = chunk_end c f g ch at side.known side.read side.reported h.0 side.chunk in
    let b = sides_end c f g ch n h.0 end h.2 in
    omega (arith, a, b)

-- a clause whose tests are written without an instruction, with its label here
pub record StraightTo (c : PlainCode) (f : PlainFunction) (g : Holding) (ch : Choice) (at : ℕ) : Type 0 where
  pub steps : ℕ
  pub clause : ℕ
  pub tests : TestsLaid c f g ch steps at (Open []) [] clause at
  pub entry : slice_get ch.entries clause ≡ Some at

pub straight_to : (c : PlainCode) (f : PlainFunction) (g h : Holding) (ch : Choice) (at : ℕ) (m : ℕ → Kind) (mid n : ℕ) → ChunkLaid c f g ch at (Open []) [] m mid → SidesLaid c f h ch n mid at → StraightTo c f g ch at
straight_to c f g h ch at m mid n chunk sides = by chunk.goes
  where
    later : mid ≤ at
    later = sides_end c f h ch n mid at sides

    low : at ≤ chunk.end
    low = tests_end f c g ch chunk.steps at (Open []) [] chunk.clause chunk.end chunk.tests

    by : ((slice_get f.instrs chunk.end ≡ Some (Rattle.cell_code.specs.declared.code.Instr.TheVariants.Jump chunk.place)) × (chunk.end < chunk.place) × (mid ≡ suc chunk.end)) ⊎ ((chunk.place ≡ chunk.end) × (mid ≡ chunk.end)) → StraightTo c f g ch at
    by (inl x) = let e = x.2 in absurd (let z : ⊥ = omega (arith, e, later, low) in z)
    by (inr x) =
        let e = x.1 in
        let here : chunk.end ≡ at = omega (arith, e, later, low) in
        record {
          steps = chunk.steps;
          clause = chunk.clause;
          tests = subst (TestsLaid c f g ch chunk.steps at (Open []) [] chunk.clause) here chunk.tests;
          entry = chunk.entry ∙ ap Some (x.0 ∙ here);
        }

-- ---- what is reported there

-- Where registers hold what they held, the same is reported, whichever constructors were built.
pub plain_reported : (c : PlainCode) (k l : Known) → ((r : ℕ) → held_at l.held r ≡ held_at k.held r) → (r : ℕ) → reported c (wide l) r ≡ reported c (wide k) r
plain_reported c k l plain r =
    ap (kind_of c.types) (wide_held l.held r) ∙ (ap (λ h. kind_of c.types (widened h)) (plain r) ∙ ap (kind_of c.types) (sym (wide_held k.held r)))

-- at the start of a function nothing was built
pub plain_right : (tb : Table) (k l : Known) → ((r : ℕ) → held_at l.held r ≡ held_at k.held r) → BuiltWell tb 0 k → BuiltWell tb 0 (wide l)
plain_right tb k l plain built r = subst (RightAt tb 0) (sym same) (built r)
  where
    same : held_at (wide l).held r ≡ held_at k.held r
    same = wide_held l.held r ∙ (ap widened (plain r) ∙ plain_wide (held_at k.held r) ((built r).later refl).0)

-- the first tests, laid out without an instruction
pub first_straight : (c : PlainCode) (to : ℕ → ℕ) (f : PlainFunction) (tb : Table) (low : ℕ) (g : Matching) (v w : Written) (m : ℕ → Kind) → size w ≡ size v → LaidFirst g.entry.held (scene tb low g.choice) v w c to f m → StraightTo c f (held_at g.entry.held) (choice_at to (scene tb low g.choice)) (size v)
first_straight c to f tb low g v w m long (mid, n, chunk, sides) =
    straight_to c f (held_at g.entry.held) (wide_at (held_at g.entry.held)) (choice_at to (scene tb low g.choice)) (size v) m mid n chunk
    (subst (SidesLaid c f (wide_at (held_at g.entry.held)) (choice_at to (scene tb low g.choice)) n mid) long sides)

-- Tests that lead straight to clause i, since no other has its label there: its entry is reached without an
-- instruction, and registers hold there what they held where the match began.
module _ (s : Setting) (g : Matching) (q : Pattern) (i : ℕ) (c : PlainCode) (to : ℕ → ℕ) (f : PlainFunction) (low : ℕ) (scalars : ScalarsRight s) (same : c.types ≡ s.types) (apart : g.choice.takes ≡ true → is_scalar s g.choice.ty ≡ false) (is : IsScene (scene s.types low g.choice)) (there : slice_get (patterns_of g.choice) i ≡ Some q) where
  pub straight_held : (hold : Holding) (at : ℕ) → StraightTo c f hold (choice_at to (scene s.types low g.choice)) at → ((j label : ℕ) → slice_get g.choice.entries.items j ≡ Some label → to label ≡ at → j ≡ i) → (n r : ℕ) → held_at (entering_root s g.choice.takes q (spot_of g.choice.root) (reaching g.entry n)).held r ≡ held_at g.entry.held r
  straight_held hold at h only n r =
      entered_plain c s f hold (choice_at to (scene s.types low g.choice)) q g.entry n h.steps at i scalars same apart is.typed (is.roomy i q there) there
      (subst (λ j. TestsLaid c f hold (choice_at to (scene s.types low g.choice)) h.steps at (Open []) [] j at) clause h.tests) r
    where
      by : (o : Option ℕ) → slice_get g.choice.entries.items h.clause ≡ o → option_map to o ≡ Some at → h.clause ≡ i
      by None e x = absurd (cc)
      by (Some label) e x = only h.clause label e (same_some (to label) at x)

      clause : h.clause ≡ i
      clause = by (slice_get g.choice.entries.items h.clause) refl (sym (slice_get-map to g.choice.entries.items h.clause) ∙ h.entry)

-- ---- entries

module _ (s : Setting) (g : Matching) (q : Pattern) (i : ℕ) (k : Known) (v : Written) (ds : List Side) (l : Known) (w : Written) (es : List Side) (starts : StartsLaid s g q i k v ds l w es) (c : PlainCode) (to : ℕ → ℕ) (f : PlainFunction) where
  -- where its label stands
  pub entry_placed : (n : ℕ) (u : Written) → Extends w u → HasPart n u to f → to starts.label ≡ size w
  entry_placed n u on part = part.code.at starts.label (size w) (on.placed starts.label (size w) (subst (IsAt w starts.label) (sym starts.as_long) starts.placed))

  pub entry_labelled : (n : ℕ) (u : Written) → Extends w u → HasPart n u to f → 0 < size w → is_some (label_at f.labels (size w)) ≡ true
  entry_labelled n u on part lt = part.labels starts.label (size w) (on.placed starts.label (size w) (subst (IsAt w starts.label) (sym starts.as_long) starts.placed)) lt

  module _ (low : ℕ) (placed : to starts.label ≡ size w) where
    entry_place : slice_get (choice_at to (scene s.types low g.choice)).entries i ≡ Some (size w)
    entry_place = slice_get-map to g.choice.entries.items i ∙ (ap (option_map to) starts.entry ∙ ap Some placed)

    entry_more : g.entry.next ≤ l.next
    entry_more = let e = starts.next in omega (arith, e)

    -- after an instruction
    pub entry_later : 0 < size w → is_some (label_at f.labels (size w)) ≡ true → LabelTakes c f (size w) l → EntryLaid c s f (choice_at to (scene s.types low g.choice)) g.entry i q (size w) l.next
    entry_later lt label takes = record {
      place = entry_place;
      more = entry_more;
      enters = inl (lt, subst (λ x. Catches f (size w) (reported c x)) starts.known (catches_by c f (size w) l label takes));
    }

    -- at the start of a function
    pub entry_start : size w ≡ 0 → BuiltWell s.types 0 g.entry → ((r : ℕ) → held_at (entering_root s g.choice.takes q (spot_of g.choice.root) (reaching g.entry l.next)).held r ≡ held_at g.entry.held r) → EntryLaid c s f (choice_at to (scene s.types low g.choice)) g.entry i q (size w) l.next
    entry_start z built plain = record {
      place = entry_place;
      more = entry_more;
      enters = inr (
        z,
        λ r.
            ap (kind_of c.types) (sym (plain_wide (held_at g.entry.held r) ((built r).later refl).0))
            ∙ (ap (kind_of c.types) (sym (wide_held g.entry.held r)) ∙ sym (plain_reported c g.entry (entering_root s g.choice.takes q (spot_of g.choice.root) (reaching g.entry l.next)) plain r)),
      );
    }
