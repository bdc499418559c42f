-- A run of what takes cells apart, or reads what a pattern names: registers hold what the clause knows of them.
use Rattle.std.proofs.Common.{◌≡◌, ◌⊎◌, inl, inr, refl, ◌∙◌, subst, ⊎_elim, arith, ℕ, suc, ◌≤◌, Bool, true, false, List, ◌∷◌}
use Rattle.std.specs.Prelude.{if◌then◌else◌, ◌||◌}
use Rattle.tree_semantics.specs.fip_language.Values.{Value, Values, End, More}
use Rattle.tree_semantics.specs.fip_language.Every.{Among}
use Rattle.credit_check.specs.fip_trees.Tree.{Pattern, BinderPattern, LiteralPattern, ConstructorPattern, Patterns, NoPatterns, MorePatterns}
use Rattle.code_rules.specs.cell_code.declared.code.Instr.{Instr}
use Rattle.code_rules.specs.cell_code.declared.code.Instr.TheVariants as I
use Rattle.tree_semantics.specs.Contents.{Contents, put, put_all}
use Rattle.tree_semantics.proofs.Puts.{put_same, put_other}
use Rattle.match_knowledge.specs.declared.heads.Head.TheVariants.{Tag}
use Rattle.match_knowledge.specs.ValueHeads.{head, children, same_head}
use Rattle.match_knowledge.specs.Patterns.{fits, fit_all}
use Rattle.match_knowledge.proofs.Facts.{and_both}
use Rattle.lowering_relation.specs.Choosing.{place, Reaches}
use Rattle.lowering_relation.specs.Written.{Written, size, Extends, HasFrom}
use Rattle.lowering_relation.specs.Spots.{Spot, At, Spots, NoSpots, MoreSpots, register, below, all_in, Differ, AllDiffer}
use Rattle.lowering_relation.specs.Rows.{row_of, rows_of}
use Rattle.lowering_relation.specs.Reading.{Reading, read_one, Holds, AllHold}
use Rattle.lowering_relation.specs.Opening.{as_many, take_if, taking, taking_all, names_any, any_named, naming, naming_all, Opened, AllOpened, Roomy, AllRoomy}
use Rattle.lowering_relation.proofs.Placing.{same_extends, extends_on, added_extends, front}
use Rattle.lowering_relation.proofs.MatchLists.{in_head, in_tail, in_part}
use Rattle.lowering_relation.proofs.Running.{reaches_same, reaches_on, take_goes, ReadsOne, read_one_goes}
use Rattle.lowering_relation.proofs.Readings.{Reads, From, from_start, from_next, from_here, holds_on, all_hold_on, below_holds, read_one_extends}
use Rattle.lowering_relation.proofs.Readings.{reading_if as naming_if}

-- what registers hold stays

mutual
  pub opened_on : (takes : Bool) (q : Pattern) (s : Spot) (v : Value) (cs ds : Contents) → ((z : ℕ) → (z ≡ register s) ⊎ Among z (below s) → ds z ≡ cs z) → Opened takes q s v cs → Opened takes q s v ds
  opened_on takes (BinderPattern b) s v cs ds f h = λ e. f (register s) (inl refl) ∙ h e
  opened_on takes (LiteralPattern i p) s v cs ds f h = tt
  opened_on takes (ConstructorPattern t d c n p ps) (At r fs) v cs ds f h =
      (λ e. f r (inl refl) ∙ h.0 e, all_opened_on takes ps fs (children v) cs ds (λ z m. f z (inr m)) h.1)

  pub all_opened_on : (takes : Bool) (ps : Patterns) (ss : Spots) (vs : Values) (cs ds : Contents) → ((z : ℕ) → Among z (all_in ss) → ds z ≡ cs z) → AllOpened takes ps ss vs cs → AllOpened takes ps ss vs ds
  all_opened_on takes NoPatterns ss vs cs ds f h = tt
  all_opened_on takes (MorePatterns p ps) NoSpots vs cs ds f h = absurd h
  all_opened_on takes (MorePatterns p ps) (MoreSpots s ss) End cs ds f h = absurd h
  all_opened_on takes (MorePatterns p ps) (MoreSpots s ss) (More v vs) cs ds f h = (
    opened_on takes p s v cs ds (λ z m. ⊎_elim (λ e. f z (inl e)) (λ b. f z (in_head z s ss b)) m) h.0,
    all_opened_on takes ps ss vs cs ds (λ z m. f z (in_tail z s ss m)) h.1,
  )

-- cells that are taken apart

pub take_if_extends : (r : ℕ) (ps : Patterns) (ss : Spots) (w : Written) → Extends w (take_if r ps ss w)
take_if_extends r NoPatterns ss w = same_extends w
take_if_extends r (MorePatterns p ps) ss w = added_extends w (I.Take r (as_many (MorePatterns p ps) ss))

mutual
  pub taking_extends : (q : Pattern) (s : Spot) (w : Written) → Extends w (taking q s w)
  taking_extends (BinderPattern b) s w = same_extends w
  taking_extends (LiteralPattern i p) s w = same_extends w
  taking_extends (ConstructorPattern t d c n p ps) (At r fs) w =
      extends_on w (take_if r ps fs w) (taking_all ps fs (take_if r ps fs w)) (take_if_extends r ps fs w) (taking_all_extends ps fs (take_if r ps fs w))

  taking_all_extends : (ps : Patterns) (ss : Spots) (w : Written) → Extends w (taking_all ps ss w)
  taking_all_extends NoPatterns ss w = same_extends w
  taking_all_extends (MorePatterns p ps) NoSpots w = same_extends w
  taking_all_extends (MorePatterns p ps) (MoreSpots s ss) w =
      extends_on w (taking p s w) (taking_all ps ss (taking p s w)) (taking_extends p s w) (taking_all_extends ps ss (taking p s w))

-- the registers of positions hold values, as far as there are patterns
abbrev AllAt : Patterns → Spots → Values → Contents → Type 0
AllAt NoPatterns ss vs cs = Unit {0}
AllAt (MorePatterns p ps) NoSpots vs cs = Unit {0}
AllAt (MorePatterns p ps) (MoreSpots s ss) End cs = Unit {0}
AllAt (MorePatterns p ps) (MoreSpots s ss) (More v vs) cs = (cs (register s) ≡ v) × AllAt ps ss vs cs

all_at_on : (ps : Patterns) (ss : Spots) (vs : Values) (cs ds : Contents) → ((z : ℕ) → Among z (all_in ss) → ds z ≡ cs z) → AllAt ps ss vs cs → AllAt ps ss vs ds
all_at_on NoPatterns ss vs cs ds f h = tt
all_at_on (MorePatterns p ps) NoSpots vs cs ds f h = tt
all_at_on (MorePatterns p ps) (MoreSpots s ss) End cs ds f h = tt
all_at_on (MorePatterns p ps) (MoreSpots s ss) (More v vs) cs ds f h = (f (register s) (inl refl) ∙ h.0, all_at_on ps ss vs cs ds (λ z m. f z (in_tail z s ss m)) h.1)

put_all_outside : (ps : Patterns) (ss : Spots) (vs : Values) (cs : Contents) (z : ℕ) → (Among z (all_in ss) → ⊥) → put_all cs (as_many ps ss) vs z ≡ cs z
put_all_outside NoPatterns ss vs cs z n = refl
put_all_outside (MorePatterns p ps) NoSpots vs cs z n = refl
put_all_outside (MorePatterns p ps) (MoreSpots s ss) End cs z n = refl
put_all_outside (MorePatterns p ps) (MoreSpots s ss) (More v vs) cs z n =
    put_all_outside ps ss vs (put cs (register s) v) z (λ m. n (in_tail z s ss m)) ∙ put_other cs (register s) v z (λ e. n (inl e))

put_all_at : (ps : Patterns) (ss : Spots) (vs : Values) (cs : Contents) → AllDiffer ss → AllAt ps ss vs (put_all cs (as_many ps ss) vs)
put_all_at NoPatterns ss vs cs d = tt
put_all_at (MorePatterns p ps) NoSpots vs cs d = tt
put_all_at (MorePatterns p ps) (MoreSpots s ss) End cs d = tt
put_all_at (MorePatterns p ps) (MoreSpots s ss) (More v vs) cs d = (
  put_all_outside ps ss vs (put cs (register s) v) (register s) d.1 ∙ put_same cs (register s) v (register s) refl,
  put_all_at ps ss vs (put cs (register s) v) d.4,
)

pub record Taken (q : Pattern) (s : Spot) (v : Value) (w z : Written) (code : List Instr) (cs : Contents) : Type 0 where
  pub contents : Contents
  pub reaches : Reaches code (place (size w) cs) (place (size z) contents)
  pub opened : Opened true q s v contents
  pub outside : (x : ℕ) → (Among x (below s) → ⊥) → contents x ≡ cs x

record AllTaken (ps : Patterns) (ss : Spots) (vs : Values) (w z : Written) (code : List Instr) (cs : Contents) : Type 0 where
  pub contents : Contents
  pub reaches : Reaches code (place (size w) cs) (place (size z) contents)
  pub opened : AllOpened true ps ss vs contents
  pub outside : (x : ℕ) → (Among x (all_in ss) → ⊥) → contents x ≡ cs x

record TakenIf (ps : Patterns) (ss : Spots) (vs : Values) (w z : Written) (code : List Instr) (cs : Contents) : Type 0 where
  pub contents : Contents
  pub reaches : Reaches code (place (size w) cs) (place (size z) contents)
  pub there : AllAt ps ss vs contents
  pub outside : (x : ℕ) → (Among x (all_in ss) → ⊥) → contents x ≡ cs x

module _ (n : ℕ) (to : ℕ → ℕ) (code : List Instr) where
  take_if_runs : (r : ℕ) (ps : Patterns) (ss : Spots) (w : Written) (cs : Contents) (v : Value) → cs r ≡ v → AllDiffer ss → n ≤ size w → HasFrom n (take_if r ps ss w) to code → TakenIf ps ss (children v) w (take_if r ps ss w) code cs
  take_if_runs r NoPatterns ss w cs v e d le h = record { contents = cs; reaches = reaches_same code (place (size w) cs); there = tt; outside = λ x m. refl }
  take_if_runs r (MorePatterns p ps) ss w cs v e d le h = record {
    contents = put_all cs (as_many (MorePatterns p ps) ss) (children v);
    reaches = take_goes n w to code cs r (as_many (MorePatterns p ps) ss) v le h e;
    there = put_all_at (MorePatterns p ps) ss (children v) cs d;
    outside = λ x m. put_all_outside (MorePatterns p ps) ss (children v) cs x m;
  }

  taken_both : (p : Pattern) (ps : Patterns) (s : Spot) (ss : Spots) (v : Value) (vs : Values) (w u z : Written) (cs : Contents) (one : Taken p s v w u code cs) → AllTaken ps ss vs u z code one.contents → AllDiffer (MoreSpots s ss) → AllTaken (MorePatterns p ps) (MoreSpots s ss) (More v vs) w z code cs
  taken_both p ps s ss v vs w u z cs one rest d = record {
    contents = rest.contents;
    reaches = reaches_on code (place (size w) cs) (place (size u) one.contents) (place (size z) rest.contents) one.reaches rest.reaches;
    opened = (opened_on true p s v one.contents rest.contents (λ x m. rest.outside x (not_later x m)) one.opened, rest.opened);
    outside = λ x m. rest.outside x (λ l. m (in_tail x s ss l)) ∙ one.outside x (λ b. m (in_head x s ss b));
  }
    where
      not_later : (x : ℕ) → (x ≡ register s) ⊎ Among x (below s) → Among x (all_in ss) → ⊥
      not_later x (inl e) m = d.1 (subst (λ y. Among y (all_in ss)) e m)
      not_later x (inr b) m = d.2 x b m

  mutual
    pub taking_runs : (q : Pattern) (s : Spot) (w : Written) (cs : Contents) (v : Value) → fits (row_of q) v ≡ true → cs (register s) ≡ v → Roomy q s → Differ s → (Among (register s) (below s) → ⊥) → n ≤ size w → HasFrom n (taking q s w) to code → Taken q s v w (taking q s w) code cs
    taking_runs (BinderPattern b) s w cs v f c room d ap' le has = record { contents = cs; reaches = reaches_same code (place (size w) cs); opened = λ e. c; outside = λ x m. refl }
    taking_runs (LiteralPattern i p) s w cs v f c room d ap' le has = record { contents = cs; reaches = reaches_same code (place (size w) cs); opened = tt; outside = λ x m. refl }
    taking_runs (ConstructorPattern t d' k m p ps) (At r fs) w cs v f c room d ap' le has =
        let w1 = take_if r ps fs w in
        let both = and_both (same_head (Tag k) (head v)) (fit_all (rows_of ps) (children v)) f in
        let cell = take_if_runs r ps fs w cs v c d le (front n w1 (taking_all ps fs w1) to code (taking_all_extends ps fs w1) has) in
        let grows = (take_if_extends r ps fs w).grows in
        let rest = taking_all_runs ps fs w1 cell.contents (children v) both.1 cell.there room d (omega (arith, le, grows)) has in
        record {
          contents = rest.contents;
          reaches = reaches_on code (place (size w) cs) (place (size w1) cell.contents) (place (size (taking_all ps fs w1)) rest.contents) cell.reaches rest.reaches;
          opened = (λ e. rest.outside r ap' ∙ cell.outside r ap' ∙ c, rest.opened);
          outside = λ x b. rest.outside x b ∙ cell.outside x b;
        }

    taking_all_runs : (ps : Patterns) (ss : Spots) (w : Written) (cs : Contents) (vs : Values) → fit_all (rows_of ps) vs ≡ true → AllAt ps ss vs cs → AllRoomy ps ss → AllDiffer ss → n ≤ size w → HasFrom n (taking_all ps ss w) to code → AllTaken ps ss vs w (taking_all ps ss w) code cs
    taking_all_runs NoPatterns ss w cs vs f at room d le has = record { contents = cs; reaches = reaches_same code (place (size w) cs); opened = tt; outside = λ x m. refl }
    taking_all_runs (MorePatterns p ps) NoSpots w cs vs f at room d le has = absurd room
    taking_all_runs (MorePatterns p ps) (MoreSpots s ss) w cs End f at room d le has = absurd (cc)
    taking_all_runs (MorePatterns p ps) (MoreSpots s ss) w cs (More v vs) f at room d le has =
        let w1 = taking p s w in
        let both = and_both (fits (row_of p) v) (fit_all (rows_of ps) vs) f in
        let one = taking_runs p s w cs v both.0 at.0 room.0 d.3 d.0 le (front n w1 (taking_all ps ss w1) to code (taking_all_extends ps ss w1) has) in
        let grows = (taking_extends p s w).grows in
        taken_both p ps s ss v vs w w1 (taking_all ps ss w1) cs one
        (taking_all_runs ps ss w1 one.contents vs both.1 (all_at_on ps ss vs cs one.contents (λ x m. one.outside x (λ b. d.2 x b m)) at.1) room.1 d.4 (omega (arith, le, grows)) has) d

-- what a pattern names

mutual
  unnamed : (q : Pattern) (s : Spot) (v : Value) (cs : Contents) → names_any q ≡ false → fits (row_of q) v ≡ true → Roomy q s → Opened false q s v cs
  unnamed (BinderPattern b) s v cs e f room = λ g. absurd (cc)
  unnamed (LiteralPattern i p) s v cs e f room = tt
  unnamed (ConstructorPattern t d k m p ps) (At r fs) v cs e f room =
      (λ g. absurd (cc), all_unnamed ps fs (children v) cs e (and_both (same_head (Tag k) (head v)) (fit_all (rows_of ps) (children v)) f).1 room)

  all_unnamed : (ps : Patterns) (ss : Spots) (vs : Values) (cs : Contents) → any_named ps ≡ false → fit_all (rows_of ps) vs ≡ true → AllRoomy ps ss → AllOpened false ps ss vs cs
  all_unnamed NoPatterns ss vs cs e f room = tt
  all_unnamed (MorePatterns p ps) NoSpots vs cs e f room = absurd room
  all_unnamed (MorePatterns p ps) (MoreSpots s ss) End cs e f room = absurd (cc)
  all_unnamed (MorePatterns p ps) (MoreSpots s ss) (More v vs) cs e f room =
      let both = and_both (fits (row_of p) v) (fit_all (rows_of ps) vs) f in
      let neither = or_false (names_any p) (any_named ps) e in
      (unnamed p s v cs neither.0 both.0 room.0, all_unnamed ps ss vs cs neither.1 both.1 room.1)
    where
      or_false : (a b : Bool) → (a || b) ≡ false → (a ≡ false) × (b ≡ false)
      or_false true b x = absurd (cc)
      or_false false b x = (refl, x)

pub record Names (q : Pattern) (s : Spot) (v : Value) (x y : Reading) (code : List Instr) (cs : Contents) : Type 0 where
  pub reads : Reads x y code cs (below s)
  pub holds : Holds s v reads.contents y.read
  pub opened : Opened false q s v reads.contents

record NamesAll (ps : Patterns) (ss : Spots) (vs : Values) (x y : Reading) (code : List Instr) (cs : Contents) : Type 0 where
  pub reads : Reads x y code cs (all_in ss)
  pub holds : AllHold ss vs reads.contents y.read
  pub opened : AllOpened false ps ss vs reads.contents

-- a part, with its own position
record NamesPart (q : Pattern) (s : Spot) (v : Value) (x y : Reading) (code : List Instr) (cs : Contents) : Type 0 where
  pub reads : Reads x y code cs (register s ∷ below s)
  pub there : Among (register s) y.read → reads.contents (register s) ≡ v
  pub holds : Holds s v reads.contents y.read
  pub opened : Opened false q s v reads.contents

mutual
  pub naming_extends : (q : Pattern) (s : Spot) (x : Reading) → Extends x.written (naming q s x).written
  naming_extends (BinderPattern b) s x = same_extends x.written
  naming_extends (LiteralPattern i p) s x = same_extends x.written
  naming_extends (ConstructorPattern t d c n p ps) (At r fs) x = naming_all_extends ps fs r 0 x

  naming_all_extends : (ps : Patterns) (ss : Spots) (r i : ℕ) (x : Reading) → Extends x.written (naming_all ps ss r i x).written
  naming_all_extends NoPatterns ss r i x = same_extends x.written
  naming_all_extends (MorePatterns p ps) NoSpots r i x = same_extends x.written
  naming_all_extends (MorePatterns p ps) (MoreSpots s ss) r i x =
      let y = read_one x r i (register s) in
      let z = if names_any p then naming p s y else x in
      extends_on x.written z.written (naming_all ps ss r (suc i) z).written
      (naming_if (names_any p) x (naming p s y) x (extends_on x.written y.written (naming p s y).written (read_one_extends x r i (register s)) (naming_extends p s y)) (same_extends x.written))
      (naming_all_extends ps ss r (suc i) z)

-- a part that is read, and what it names below
part_read : (q : Pattern) (s : Spot) (v : Value) (x y z : Reading) (code : List Instr) (cs : Contents) (one : ReadsOne x y code cs (register s) v) → Names q s v y z code one.contents → (Among (register s) (below s) → ⊥) → NamesPart q s v x z code cs
part_read q s v x y z code cs one m apart = record {
  reads = record {
    contents = m.reads.contents;
    reaches = reaches_on code (place (size x.written) cs) (place (size y.written) one.contents) (place (size z.written) m.reads.contents) one.reaches m.reads.reaches;
    outside = λ u n. m.reads.outside u (λ b. n (inr b)) ∙ one.outside u (λ e. n (inl e));
    more = λ u a. m.reads.more u (one.more u a);
    new = λ u a. ⊎_elim (λ was. ⊎_elim (λ old. inl old) (λ e. inr (inl e)) (one.new u was)) (λ b. inr (inr b)) (m.reads.new u a);
  };
  there = λ a. m.reads.outside (register s) apart ∙ one.there;
  holds = m.holds;
  opened = m.opened;
}

-- a part, and then the others
names_both : (p : Pattern) (ps : Patterns) (s : Spot) (ss : Spots) (v : Value) (vs : Values) (x y z : Reading) (code : List Instr) (cs : Contents) (one : NamesPart p s v x y code cs) → NamesAll ps ss vs y z code one.reads.contents → AllDiffer (MoreSpots s ss) → NamesAll (MorePatterns p ps) (MoreSpots s ss) (More v vs) x z code cs
names_both p ps s ss v vs x y z code cs one rest d = record {
  reads = record {
    contents = rest.reads.contents;
    reaches = reaches_on code (place (size x.written) cs) (place (size y.written) one.reads.contents) (place (size z.written) rest.reads.contents) one.reads.reaches rest.reads.reaches;
    outside = λ u m. rest.reads.outside u (λ l. m (in_tail u s ss l)) ∙ one.reads.outside u (λ h. m (in_part u s ss h));
    more = λ u m. rest.reads.more u (one.reads.more u m);
    new = λ u m. ⊎_elim (λ was. ⊎_elim (λ old. inl old) (λ h. inr (in_part u s ss h)) (one.reads.new u was)) (λ l. inr (in_tail u s ss l)) (rest.reads.new u m);
  };
  holds = (
    λ m. rest.reads.outside (register s) d.1 ∙ one.there (⊎_elim (λ old. old) (λ l. absurd (d.1 l)) (rest.reads.new (register s) m)),
    holds_on s v one.reads.contents rest.reads.contents y.read z.read
        (λ u b m. (⊎_elim (λ old. old) (λ l. absurd (d.2 u b l)) (rest.reads.new u m), rest.reads.outside u (λ l. d.2 u b l))) one.holds,
    rest.holds,
  );
  opened = (opened_on false p s v one.reads.contents rest.reads.contents (λ u m. rest.reads.outside u (not_later u m)) one.opened, rest.opened);
}
  where
    not_later : (u : ℕ) → (u ≡ register s) ⊎ Among u (below s) → Among u (all_in ss) → ⊥
    not_later u (inl e) m = d.1 (subst (λ y'. Among y' (all_in ss)) e m)
    not_later u (inr b) m = d.2 u b m

later_hold : (s : Spot) (ss : Spots) (v : Value) (vs : Values) (p : Pattern) (x y : Reading) (code : List Instr) (cs : Contents) (one : NamesPart p s v x y code cs) → AllDiffer (MoreSpots s ss) → AllHold ss vs cs x.read → AllHold ss vs one.reads.contents y.read
later_hold s ss v vs p x y code cs one d h = all_hold_on ss vs cs one.reads.contents x.read y.read by_place h
  where
    not_part : (u : ℕ) → Among u (all_in ss) → Among u (register s ∷ below s) → ⊥
    not_part u m (inl e) = d.1 (subst (λ y'. Among y' (all_in ss)) e m)
    not_part u m (inr b) = d.2 u b m

    by_place : (u : ℕ) → Among u (all_in ss) → Among u y.read → Among u x.read × (one.reads.contents u ≡ cs u)
    by_place u m a = (⊎_elim (λ old. old) (λ l. absurd (not_part u m l)) (one.reads.new u a), one.reads.outside u (not_part u m))

module _ (n : ℕ) (to : ℕ → ℕ) (code : List Instr) where
  part_runs : (b : Bool) (p : Pattern) (s : Spot) (v : Value) (x y : Reading) (cs : Contents) → names_any p ≡ b → fits (row_of p) v ≡ true → Roomy p s → (Among (register s) x.read → cs (register s) ≡ v) → Holds s v cs x.read → HasFrom n (if b then y else x).written to code → (HasFrom n y.written to code → NamesPart p s v x y code cs) → NamesPart p s v x (if b then y else x) code cs
  part_runs true p s v x y cs e f room c h has go = go has
  part_runs false p s v x y cs e f room c h has go = record {
    reads = record { contents = cs; reaches = reaches_same code (place (size x.written) cs); outside = λ u m. refl; more = λ u m. m; new = λ u m. inl m };
    there = c;
    holds = h;
    opened = unnamed p s v cs e f room;
  }

  mutual
    pub naming_runs : (q : Pattern) (s : Spot) (x : Reading) (cs : Contents) (v : Value) → fits (row_of q) v ≡ true → cs (register s) ≡ v → Holds s v cs x.read → Roomy q s → Differ s → (Among (register s) (below s) → ⊥) → n ≤ size x.written → HasFrom n (naming q s x).written to code → Names q s v x (naming q s x) code cs
    naming_runs (BinderPattern b) s x cs v f c h room d ap' le has = record {
      reads = record { contents = cs; reaches = reaches_same code (place (size x.written) cs); outside = λ u m. refl; more = λ u m. m; new = λ u m. inl m };
      holds = h;
      opened = λ e. c;
    }
    naming_runs (LiteralPattern i p) s x cs v f c h room d ap' le has = record {
      reads = record { contents = cs; reaches = reaches_same code (place (size x.written) cs); outside = λ u m. refl; more = λ u m. m; new = λ u m. inl m };
      holds = h;
      opened = tt;
    }
    naming_runs (ConstructorPattern t d' k m p ps) (At r fs) x cs v f c h room d ap' le has =
        let both = and_both (same_head (Tag k) (head v)) (fit_all (rows_of ps) (children v)) f in
        let all = naming_all_runs ps fs r 0 x cs v (children v) both.1 c (from_start (children v)) h room d ap' le has in
        record { reads = all.reads; holds = all.holds; opened = (λ e. absurd (cc), all.opened) }

    naming_all_runs : (ps : Patterns) (ss : Spots) (r i : ℕ) (x : Reading) (cs : Contents) (v : Value) (vs : Values) → fit_all (rows_of ps) vs ≡ true → cs r ≡ v → From (children v) i vs → AllHold ss vs cs x.read → AllRoomy ps ss → AllDiffer ss → (Among r (all_in ss) → ⊥) → n ≤ size x.written → HasFrom n (naming_all ps ss r i x).written to code → NamesAll ps ss vs x (naming_all ps ss r i x) code cs
    naming_all_runs NoPatterns ss r i x cs v vs f c from h room d ap' le has = record {
      reads = record { contents = cs; reaches = reaches_same code (place (size x.written) cs); outside = λ u m. refl; more = λ u m. m; new = λ u m. inl m };
      holds = h;
      opened = tt;
    }
    naming_all_runs (MorePatterns p ps) NoSpots r i x cs v vs f c from h room d ap' le has = absurd room
    naming_all_runs (MorePatterns p ps) (MoreSpots s ss) r i x cs v End f c from h room d ap' le has = absurd (cc)
    naming_all_runs (MorePatterns p ps) (MoreSpots s ss) r i x cs v (More u us) f c from h room d ap' le has =
        let y = naming p s (read_one x r i (register s)) in
        let z = if names_any p then y else x in
        let both = and_both (fits (row_of p) u) (fit_all (rows_of ps) us) f in
        let x1 = read_one x r i (register s) in
        let g1 = (read_one_extends x r i (register s)).grows in
        let gz = (naming_if (names_any p) x y x (extends_on x.written x1.written y.written (read_one_extends x r i (register s)) (naming_extends p s x1)) (same_extends x.written)).grows in
        let part = part_runs (names_any p) p s u x y cs refl both.0 room.0 h.0 h.1 (front n z.written (naming_all ps ss r (suc i) z).written to code (naming_all_extends ps ss r (suc i) z) has)
        (λ has1.
        let one = read_one_goes x n to code cs r i (register s) v u le (front n x1.written y.written to code (naming_extends p s x1) has1) c (from_here (children v) i u us from) h.0 in
        part_read p s u x x1 y code cs one (naming_runs p s x1 one.contents u both.0 one.there (below_holds s x x1 code cs u one d.0 h.1) room.0 d.3 d.0 (omega (arith, le, g1)) has1) d.0) in
        names_both p ps s ss u us x z (naming_all ps ss r (suc i) z) code cs part
        (naming_all_runs ps ss r (suc i) z part.reads.contents v us both.1 (part.reads.outside r (λ m. ap' (in_part r s ss m)) ∙ c) (from_next (children v) i u us from) (later_hold s ss u us p x z code cs part d h.2) room.1 d.4 (λ m. ap' (in_tail r s ss m)) (omega (arith, le, gz)) has) d
