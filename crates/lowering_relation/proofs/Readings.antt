-- A run of the reads of a match: the position that is asked for is read, and what was read stays.
use Rattle.std.proofs.Common.{◌≡◌, ◌⊎◌, inl, inr, refl, ◌∙◌, subst, ⊎_elim, arith, ℕ, suc, ◌+◌, ◌≤◌, Bool, true, false, List, Option, Some, None}
use Rattle.std.specs.Prelude.{if◌then◌else◌}
use Rattle.tree_semantics.specs.fip_language.Values.{Value, Values, End, More}
use Rattle.tree_semantics.specs.fip_language.Every.{Among}
use Rattle.code_rules.specs.cell_code.declared.code.Instr.{Instr}
use Rattle.tree_semantics.specs.Contents.{Contents, value_at}
use Rattle.match_knowledge.specs.ValueHeads.{head, children, same_head}
use Rattle.match_knowledge.specs.Patterns.{Pattern, Any, Test, Patterns, NoPatterns, MorePatterns}
use Rattle.match_knowledge.specs.Known.{Known, Open, Is, Knowns, NoKnowns, MoreKnowns, compare, is_asks, has_asked, have_asked}
use Rattle.lowering_relation.specs.Choosing.{place, Reaches}
use Rattle.lowering_relation.specs.Written.{Written, size, Extends, HasFrom}
use Rattle.lowering_relation.specs.Spots.{Spot, At, Spots, NoSpots, MoreSpots, register, below, all_in, Differ, AllDiffer}
use Rattle.lowering_relation.specs.Reading.{Reading, read_if, read_one, contains, reading, reading_first, Asked, asked, asked_first, Holds, AllHold, Shaped, AllShaped}
use Rattle.lowering_relation.proofs.Placing.{same_extends, extends_on, added_extends, front}
use Rattle.lowering_relation.proofs.MatchLists.{in_head, in_tail}
use Rattle.lowering_relation.proofs.Running.{reaches_same, reaches_on, ReadsOne, read_one_goes}

-- what was read stays

mutual
  pub holds_on : (s : Spot) (v : Value) (cs ds : Contents) (xs ys : List ℕ) → ((q : ℕ) → Among q (below s) → Among q ys → Among q xs × (ds q ≡ cs q)) → Holds s v cs xs → Holds s v ds ys
  holds_on (At r fs) v cs ds xs ys f h = all_hold_on fs (children v) cs ds xs ys f h

  pub all_hold_on : (ss : Spots) (vs : Values) (cs ds : Contents) (xs ys : List ℕ) → ((q : ℕ) → Among q (all_in ss) → Among q ys → Among q xs × (ds q ≡ cs q)) → AllHold ss vs cs xs → AllHold ss vs ds ys
  all_hold_on NoSpots vs cs ds xs ys f h = tt
  all_hold_on (MoreSpots s ss) End cs ds xs ys f h = tt
  all_hold_on (MoreSpots s ss) (More v vs) cs ds xs ys f h = (
    λ m. let two = f (register s) (inl refl) m in two.1 ∙ h.0 two.0,
    holds_on s v cs ds xs ys (λ q a m. f q (in_head q s ss a) m) h.1,
    all_hold_on ss vs cs ds xs ys (λ q a m. f q (in_tail q s ss a) m) h.2,
  )

read_if_extends : (b : Bool) (x : Reading) (r i d : ℕ) → Extends x.written (read_if b x r i d).written
read_if_extends true x r i d = same_extends x.written
read_if_extends false x r i d = added_extends x.written _

pub read_one_extends : (x : Reading) (r i d : ℕ) → Extends x.written (read_one x r i d).written
read_one_extends x r i d = read_if_extends (contains d x.read) x r i d

extends_if : (b : Bool) (v w z : Written) → Extends v w → Extends v z → Extends v (if b then w else z)
extends_if true v w z a c = a
extends_if false v w z a c = c

pub reading_if : (b : Bool) (x y z : Reading) → Extends x.written y.written → Extends x.written z.written → Extends x.written (if b then y else z).written
reading_if true x y z a c = a
reading_if false x y z a c = c

mutual
  pub reading_extends : (p : Pattern) (k : Known) (s : Spot) (x : Reading) → Extends x.written (reading p k s x).written
  reading_extends Any k s x = same_extends x.written
  reading_extends (Test t h ps) (Open out) s x = same_extends x.written
  reading_extends (Test t h ps) (Is g ks) (At r fs) x = first_extends ps ks fs r 0 x

  first_extends : (ps : Patterns) (ks : Knowns) (ss : Spots) (r i : ℕ) (x : Reading) → Extends x.written (reading_first ps ks ss r i x).written
  first_extends NoPatterns ks ss r i x = same_extends x.written
  first_extends (MorePatterns p ps) NoKnowns ss r i x = same_extends x.written
  first_extends (MorePatterns p ps) (MoreKnowns k ks) NoSpots r i x = same_extends x.written
  first_extends (MorePatterns p ps) (MoreKnowns k ks) (MoreSpots s ss) r i x =
      reading_if (is_asks (compare p k)) x (reading p k s (read_one x r i (register s))) (reading_first ps ks ss r (suc i) x)
      (extends_on x.written (read_one x r i (register s)).written (reading p k s (read_one x r i (register s))).written (read_one_extends x r i (register s)) (reading_extends p k s (read_one x r i (register s))))
      (first_extends ps ks ss r (suc i) x)

-- what the code reaches, and what registers hold there
pub record Reads (x y : Reading) (code : List Instr) (cs : Contents) (within : List ℕ) : Type 0 where
  pub contents : Contents
  pub reaches : Reaches code (place (size x.written) cs) (place (size y.written) contents)
  pub outside : (q : ℕ) → (Among q within → ⊥) → contents q ≡ cs q
  pub more : (q : ℕ) → Among q x.read → Among q y.read
  pub new : (q : ℕ) → Among q y.read → Among q x.read ⊎ Among q within

-- the value at the position that is asked for
pub record Finds (a : Asked) (b : Bool) (cs : Contents) : Type 0 where
  pub value : Value
  pub there : cs a.register ≡ value
  pub tests : b ≡ same_head a.head (head value)

no_asked : {a : Asked} → None ≡ Some a → ⊥
no_asked e = absurd (cc)

the_asked : (a b : Asked) → Some a ≡ Some b → a ≡ b
the_asked a b e = cc

-- values of fields, from one on
abbrev pub From : Values → ℕ → Values → Type 0
From all i vs = (j : ℕ) (u : Value) → value_at vs j ≡ Some u → value_at all (i + j) ≡ Some u

pub from_start : (all : Values) → From all 0 all
from_start all j u e = subst (λ n. value_at all n ≡ Some u) (zero_on j) e
  where
    zero_on : (n : ℕ) → n ≡ 0 + n
    zero_on n = omega arith

pub from_next : (all : Values) (i : ℕ) (v : Value) (vs : Values) → From all i (More v vs) → From all (suc i) vs
from_next all i v vs f j u e = subst (λ n. value_at all n ≡ Some u) (omega arith) (f (suc j) u e)

pub from_here : (all : Values) (i : ℕ) (v : Value) (vs : Values) → From all i (More v vs) → value_at all i ≡ Some v
from_here all i v vs f = subst (λ n. value_at all n ≡ Some v) (omega arith) (f 0 v refl)

pub record ReadTo (s : Spot) (v : Value) (x y : Reading) (code : List Instr) (cs : Contents) (a : Asked) (b : Bool) : Type 0 where
  pub reads : Reads x y code cs (below s)
  pub holds : Holds s v reads.contents y.read
  pub finds : Finds a b reads.contents

pub record ReadFirst (ss : Spots) (vs : Values) (x y : Reading) (code : List Instr) (cs : Contents) (a : Asked) (b : Bool) : Type 0 where
  pub reads : Reads x y code cs (all_in ss)
  pub holds : AllHold ss vs reads.contents y.read
  pub finds : Finds a b reads.contents

-- a part is read, and then what is asked for below it
pub below_holds : (s : Spot) (x y : Reading) (code : List Instr) (cs : Contents) (u : Value) (one : ReadsOne x y code cs (register s) u) → (Among (register s) (below s) → ⊥) → Holds s u cs x.read → Holds s u one.contents y.read
below_holds s x y code cs u one apart h = holds_on s u cs one.contents x.read y.read by_place h
  where
    other : (q : ℕ) → Among q (below s) → q ≡ register s → ⊥
    other q a e = apart (subst (λ z. Among z (below s)) e a)

    by_place : (q : ℕ) → Among q (below s) → Among q y.read → Among q x.read × (one.contents q ≡ cs q)
    by_place q a m = (⊎_elim (λ was. was) (λ e. absurd (other q a e)) (one.new q m), one.outside q (other q a))

first_here : (s : Spot) (ss : Spots) (x x1 y : Reading) (code : List Instr) (cs : Contents) (u : Value) (us : Values) (a : Asked) (t : Bool) (one : ReadsOne x x1 code cs (register s) u) → ReadTo s u x1 y code one.contents a t → AllHold ss us cs x.read → AllDiffer (MoreSpots s ss) → ReadFirst (MoreSpots s ss) (More u us) x y code cs a t
first_here s ss x x1 y code cs u us a t one r h d = record {
  reads = record {
    contents = r.reads.contents;
    reaches = reaches_on code (place (size x.written) cs) (place (size x1.written) one.contents) (place (size y.written) r.reads.contents) one.reaches r.reads.reaches;
    outside = λ q n. r.reads.outside q (λ m. n (in_head q s ss m)) ∙ one.outside q (λ e. n (inl e));
    more = λ q m. r.reads.more q (one.more q m);
    new = λ q m. ⊎_elim (λ was. ⊎_elim (λ old. inl old) (λ e. inr (inl e)) (one.new q was)) (λ b. inr (in_head q s ss b)) (r.reads.new q m);
  };
  holds = (
    λ m. r.reads.outside (register s) d.0 ∙ one.there,
    r.holds,
    all_hold_on ss us cs r.reads.contents x.read y.read later h,
  );
  finds = r.finds;
}
  where
    not_here : (q : ℕ) → Among q (all_in ss) → q ≡ register s → ⊥
    not_here q m e = d.1 (subst (λ z. Among z (all_in ss)) e m)

    later : (q : ℕ) → Among q (all_in ss) → Among q y.read → Among q x.read × (r.reads.contents q ≡ cs q)
    later q m n = (
      ⊎_elim (λ was. ⊎_elim (λ old. old) (λ e. absurd (not_here q m e)) (one.new q was)) (λ b. absurd (d.2 q b m)) (r.reads.new q n),
      r.reads.outside q (λ b. d.2 q b m) ∙ one.outside q (not_here q m),
    )

first_skip : (s : Spot) (ss : Spots) (x y : Reading) (code : List Instr) (cs : Contents) (u : Value) (us : Values) (a : Asked) (t : Bool) → ReadFirst ss us x y code cs a t → AllHold (MoreSpots s ss) (More u us) cs x.read → AllDiffer (MoreSpots s ss) → ReadFirst (MoreSpots s ss) (More u us) x y code cs a t
first_skip s ss x y code cs u us a t r h d = record {
  reads = record {
    contents = r.reads.contents;
    reaches = r.reads.reaches;
    outside = λ q n. r.reads.outside q (λ m. n (in_tail q s ss m));
    more = r.reads.more;
    new = λ q m. ⊎_elim (λ old. inl old) (λ b. inr (in_tail q s ss b)) (r.reads.new q m);
  };
  holds = (
    λ m. r.reads.outside (register s) d.1 ∙ h.0 (⊎_elim (λ old. old) (λ b. absurd (d.1 b)) (r.reads.new (register s) m)),
    holds_on s u cs r.reads.contents x.read y.read
        (λ q b m. (⊎_elim (λ old. old) (λ c. absurd (d.2 q b c)) (r.reads.new q m), r.reads.outside q (λ c. d.2 q b c))) h.1,
    r.holds,
  );
  finds = r.finds;
}

module _ (n : ℕ) (to : ℕ → ℕ) (code : List Instr) where
  pick : (b : Bool) (oa ob : Option Asked) (x ya yb : Reading) (ta tb : Bool) (ss : Spots) (vs : Values) (cs : Contents) (a : Asked) → (if b then oa else ob) ≡ Some a → HasFrom n (if b then ya else yb).written to code → (oa ≡ Some a → HasFrom n ya.written to code → ReadFirst ss vs x ya code cs a ta) → (ob ≡ Some a → HasFrom n yb.written to code → ReadFirst ss vs x yb code cs a tb) → ReadFirst ss vs x (if b then ya else yb) code cs a (if b then ta else tb)
  pick true oa ob x ya yb ta tb ss vs cs a e h f g = f e h
  pick false oa ob x ya yb ta tb ss vs cs a e h f g = g e h

  here_runs : (s : Spot) (ss : Spots) (x y : Reading) (r i : ℕ) (cs : Contents) (v u : Value) (us : Values) (a : Asked) (t : Bool) → Extends (read_one x r i (register s)).written y.written → HasFrom n y.written to code → n ≤ size x.written → cs r ≡ v → From (children v) i (More u us) → AllHold (MoreSpots s ss) (More u us) cs x.read → AllDiffer (MoreSpots s ss) → ((one : ReadsOne x (read_one x r i (register s)) code cs (register s) u) → ReadTo s u (read_one x r i (register s)) y code one.contents a t) → ReadFirst (MoreSpots s ss) (More u us) x y code cs a t
  here_runs s ss x y r i cs v u us a t ext h le e f held d go =
      let one = read_one_goes x n to code cs r i (register s) v u le (front n (read_one x r i (register s)).written y.written to code ext h) e (from_here (children v) i u us f) held.0 in
      first_here s ss x (read_one x r i (register s)) y code cs u us a t one (go one) held.2 d

  grown : (x : Reading) (r i d : ℕ) → n ≤ size x.written → n ≤ size (read_one x r i d).written
  grown x r i d le = let g = (read_one_extends x r i d).grows in omega (arith, le, g)

  mutual
    pub reading_runs : (p : Pattern) (k : Known) (s : Spot) (x : Reading) (cs : Contents) (v : Value) (a : Asked) → asked p k s ≡ Some a → Shaped k v → cs (register s) ≡ v → Holds s v cs x.read → Differ s → (Among (register s) (below s) → ⊥) → n ≤ size x.written → HasFrom n (reading p k s x).written to code → ReadTo s v x (reading p k s x) code cs a (has_asked p k v)
    reading_runs Any k s x cs v a e sh c h d ap' le has = absurd (no_asked e)
    reading_runs (Test t g ps) (Open out) s x cs v a e sh c h d ap' le has =
        subst (λ z. ReadTo s v x x code cs z (same_head g (head v))) (the_asked (record { register = register s; head = g }) a e) (record {
          reads = record { contents = cs; reaches = reaches_same code (place (size x.written) cs); outside = λ q m. refl; more = λ q m. m; new = λ q m. inl m };
          holds = h;
          finds = record { value = v; there = c; tests = refl };
        })
    reading_runs (Test t g ps) (Is f ks) (At r fs) x cs v a e sh c h d ap' le has =
        let one = first_runs ps ks fs r 0 x cs v (children v) a e sh c (from_start (children v)) h d ap' le has in
        record { reads = one.reads; holds = one.holds; finds = one.finds }

    first_runs : (ps : Patterns) (ks : Knowns) (ss : Spots) (r i : ℕ) (x : Reading) (cs : Contents) (v : Value) (vs : Values) (a : Asked) → asked_first ps ks ss ≡ Some a → AllShaped ks vs → cs r ≡ v → From (children v) i vs → AllHold ss vs cs x.read → AllDiffer ss → (Among r (all_in ss) → ⊥) → n ≤ size x.written → HasFrom n (reading_first ps ks ss r i x).written to code → ReadFirst ss vs x (reading_first ps ks ss r i x) code cs a (have_asked ps ks vs)
    first_runs NoPatterns ks ss r i x cs v vs a e sh c f h d ap' le has = absurd (no_asked e)
    first_runs (MorePatterns p ps) NoKnowns ss r i x cs v vs a e sh c f h d ap' le has = absurd (no_asked e)
    first_runs (MorePatterns p ps) (MoreKnowns k ks) NoSpots r i x cs v vs a e sh c f h d ap' le has = absurd (no_asked e)
    first_runs (MorePatterns p ps) (MoreKnowns k ks) (MoreSpots s ss) r i x cs v End a e sh c f h d ap' le has = absurd sh
    first_runs (MorePatterns p ps) (MoreKnowns k ks) (MoreSpots s ss) r i x cs v (More u us) a e sh c f h d ap' le has =
        pick (is_asks (compare p k)) (asked p k s) (asked_first ps ks ss) x (reading p k s (read_one x r i (register s))) (reading_first ps ks ss r (suc i) x) (has_asked p k u) (have_asked ps ks us) (MoreSpots s ss) (More u us) cs a e has
        (λ e1 has1. here_runs s ss x (reading p k s (read_one x r i (register s))) r i cs v u us a (has_asked p k u) (reading_extends p k s (read_one x r i (register s))) has1 le c f h d
        (λ one. reading_runs p k s (read_one x r i (register s)) one.contents u a e1 sh.0 one.there (below_holds s x (read_one x r i (register s)) code cs u one d.0 h.1) d.3 d.0 (grown x r i (register s) le) has1))
        (λ e2 has2. first_skip s ss x (reading_first ps ks ss r (suc i) x) code cs u us a (have_asked ps ks us)
        (first_runs ps ks ss r (suc i) x cs v us a e2 sh.1 c (from_next (children v) i u us f) h.2 d.4 (λ m. ap' (in_tail r s ss m)) le has2) h d)
