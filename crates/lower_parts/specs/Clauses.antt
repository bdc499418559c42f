-- It serves the proofs on lowered code: what the parts of the lowering of a match have written. v is what was written
-- before it and w after it, with ds and es the sides of its tests that were still to be written, and j and jl what was
-- known at the ends of the clauses so far.
use Rattle.std.specs.Prelude.{◌≡◌, ◌⊎◌, ◌<◌, ◌≤◌, ◌+◌, ℕ, suc, Bool, true, List, [], ◌∷◌, ◌++◌, Option, Some, None}
use Rattle.std.specs.Prelude.{length, slice_get, get_or}
use Rattle.fip_language.specs.Every.{Among}
use Rattle.fip_language.specs.declared.Place.{Place}
use Rattle.fip_trees.specs.Tree.{Pattern, Argument, Match, Clauses, NoClauses, MoreClauses}
use Rattle.fip_trees.specs.TreeView.{Case}
use Rattle.cell_code.specs.declared.code.Instr.TheVariants as I
use Rattle.lower_frame.specs.lowering_relation.Known.{Known}
use Rattle.lower_frame.specs.lowering_relation.Values.{Setting}
use Rattle.lower_frame.specs.lowering_relation.Choosing.{Meets, MeetsFirst}
use Rattle.lower_frame.specs.lowering_relation.LoweredBodies as B
use Rattle.lower_frame.specs.lowering_relation.Written.{Written, size, Extends, IsAt, GivesUp, added}
use Rattle.lower_frame.specs.lowering_relation.Spots as S
use Rattle.lower_frame.specs.lowering_relation.Growing.{Grows}
use Rattle.lower_frame.specs.lowering_relation.Opening.{Roomy}
use Rattle.lower_frame.specs.lowering_relation.Landing.{Side}
use Rattle.lower_frame.specs.lowering_relation.Entering.{entering_root}
use Rattle.lower_frame.specs.lowering_relation.Losing.{Loses, Resumes}
use Rattle.lower_frame.specs.lowering_relation.WellMatched.{WellMatched, WellMatchedBlock, WellMatchedClauses}
use Rattle.lower_frame.specs.lowering_relation.Rows.{patterns_in}
use Rattle.lower_parts.specs.declared.choice.Choice.{Choice}
use Rattle.lower_parts.specs.declared.match_state.Matching.{Matching}
use Rattle.lower_parts.specs.declared.match_state.Progress.{Progress}
use Rattle.code_size.specs.Places.{argument_places}
use Rattle.lower_frame.specs.Registers.{HasRoom, registers}
use Rattle.lower_parts.specs.Growth.{Adds, Sheds}
use Rattle.lower_frame.specs.Labels.{labels}
use Rattle.lower_frame.specs.Positions.{spot_of}
use Rattle.lower_parts.specs.Scenes.{patterns_of, HasRows, sides_of, ChoosesIf}
use Rattle.lower_parts.specs.Writing.{Computes, Writes, WritesBlock}

-- positions below the root have the registers from one on up to another
pub record Spotted (low next : ℕ) (root : S.Spot) : Type 0 where
  pub grows : low ≤ next
  pub fresh : (z : ℕ) → Among z (S.below root) → (low ≤ z) × (z < next)
  pub differ : S.Differ root

pub record AddsPattern (c d : Choice) (q : Pattern) (from to : ℕ) : Type 0 where
  pub grows : Grows (spot_of c.root) (spot_of d.root) from to
  pub roomy : Roomy q (spot_of d.root)
  pub type : d.ty ≡ c.ty
  pub patterns : patterns_of d ≡ patterns_of c ++ q ∷ []
  pub rows : HasRows c → HasRows d

-- each part of each pattern has a position
pub record HasPositions (c : Choice) (register t low next : ℕ) : Type 0 where
  pub root : S.register (spot_of c.root) ≡ register
  pub type : c.ty ≡ t
  pub rows : HasRows c
  pub spotted : Spotted low next (spot_of c.root)
  pub roomy : (i : ℕ) (q : Pattern) → slice_get (patterns_of c) i ≡ Some q → Roomy q (spot_of c.root)

-- a match of a was begun: its value is in a register, and l is known then
pub record Begins (s : Setting) (k : Known) (v : Written) (a : Argument) (t : ℕ) (q : Pattern) (cs : Clauses)
    (g : Matching) (w : Written) : Type 0 where
  pub register : ℕ
  pub known : Known
  pub computed : Written
  pub given_up : Written
  pub computes : Computes s k v a register known computed
  pub gives_up : GivesUp computed given_up
  pub extends : Extends given_up w
  pub as_long : size w ≡ size given_up
  pub used : register < known.next
  pub positions : HasPositions g.choice register t known.next g.entry.next
  pub patterns : patterns_of g.choice ≡ q ∷ patterns_in cs
  pub resumes : Resumes known g.entry
  pub as_many : registers g.entry ≡ registers k
  pub room : HasRoom known g.entry
  pub few : Adds (argument_places a + registers k) (2 + length (patterns_of g.choice)) v w

-- the same, which tactics don't look into
abbrev pub IsBegun : Setting → Known → Written → Argument → ℕ → Pattern → Clauses → Matching → Written → Type 0
IsBegun s k v a t q cs g w = Unit {0} → Begins s k v a t q cs g w

-- the tests that choose clause i are written, and its body begins where l is known
pub record StartsIn (s : Setting) (g : Matching) (q : Pattern) (i : ℕ) (v : Written) (ds : List Side) (l : Known)
    (w : Written) (es : List Side) : Type 0 where
  pub chosen : Written
  pub opened : Known
  pub chooses : ChoosesIf s.types g.choice i v ds chosen es true
  pub all : length g.choice.rows.items ≤ suc i → es ≡ []
  pub extends : Extends chosen w
  pub as_long : size w ≡ size chosen
  pub placed : IsAt w (get_or g.choice.entries.items i 0) (size w)
  pub resumes : Resumes g.entry opened
  pub opens : Loses (entering_root s g.choice.takes q (spot_of g.choice.root) opened) l
  pub as_many : registers l ≡ registers g.entry
  pub same_labels : labels w ≡ labels chosen

-- clause n is the next
abbrev pub GoesToEnd : Matching → ℕ → Written → Written → Type 0
GoesToEnd g n v w = (w ≡ added v (I.Jump g.end)) ⊎ ((length g.choice.rows.items ≤ n) × (w ≡ v))

-- where clauses meet no more is known than at the end of each
abbrev pub JoinsBefore : Option Known → Known → Known → Type 0
JoinsBefore None k m = MeetsFirst k m
JoinsBefore (Some j) k m = Meets j m × MeetsFirst j m

-- as many registers as at the end of the first
abbrev pub AsMany : Option Known → Known → Known → Type 0
AsMany None k m = registers m ≡ registers k
AsMany (Some j) k m = registers m ≡ registers j

pub record JoinsKnown (k : Known) (j jl : Option Known) : Type 0 where
  pub joined : Known
  pub is : jl ≡ Some joined
  pub meets : Meets k joined
  pub before : JoinsBefore j k joined
  pub as_many : AsMany j k joined

-- a clause whose body ended where k was known
pub record EndsInto (g : Matching) (n : ℕ) (k : Known) (v : Written) (j : Option Known) (w : Written)
    (jl : Option Known) : Type 0 where
  pub left : Written
  pub known : Known
  pub gives_up : GivesUp v left
  pub loses : Loses k known
  pub goes : GoesToEnd g n left w
  pub joins : JoinsKnown known j jl
  pub sheds : Sheds k v known left

abbrev pub EndsIn :
    Matching → B.Target → ℕ → Known → Written → Option Known → Written → Option Known → Type 0
EndsIn g B.Return n k v j w jl = (w ≡ v) × (jl ≡ j)
EndsIn g (B.Into ds) n k v j w jl = EndsInto g n k v j w jl

-- the place where clauses meet
pub record MeetsAt (label : ℕ) (m : Known) (v : Written) (l : Known) (w : Written) : Type 0 where
  pub extends : Extends v w
  pub as_long : size w ≡ size v
  pub placed : IsAt w label (size v)
  pub resumes : Resumes m l
  pub as_many : registers l ≡ registers m
  pub same_labels : labels w ≡ labels v

abbrev pub EndsMatch : Matching → Option Known → Written → Known → Written → Type 0
EndsMatch g None v l w = w ≡ v
EndsMatch g (Some m) v l w = MeetsAt g.end m v l w

-- a whole clause
pub record ClauseIn (s : Setting) (g : Matching) (c : Case) (target : B.Target) (p : Progress) (v : Written)
    (o : Progress) (w : Written) : Type 0 where
  pub begun : Written
  pub ended : Written
  pub known : Known
  pub last : Known
  pub starts : StartsIn s g c.pattern p.clause v (sides_of p.sides.items) known begun (sides_of o.sides.items)
  pub body : WritesBlock s known begun c.body target last ended
  pub ends : EndsIn g target o.clause last ended p.joined w o.joined
  pub next : o.clause ≡ suc p.clause

-- where its patterns are typed
pub record WritesClause (s : Setting) (g : Matching) (c : Case) (target : B.Target) (p : Progress) (v : Written)
    (o : Progress) (w : Written) : Type 0 where
  pub by : WellMatchedBlock s.types c.body → ClauseIn s g c target p v o w

-- clauses, one after another
abbrev pub ClausesIn :
    Setting → Matching → Clauses → B.Target → Progress → Written → Progress → Written → Type 0
ClausesIn s g NoClauses target p v o w = (o ≡ p) × (w ≡ v)
ClausesIn s g (MoreClauses q b cs) target p v o w =
    (r : Progress) × (u : Written) × ClauseIn s g (record { pattern = q; body = b }) target p v r u
    × ClausesIn s g cs target r u o w

pub record WritesClauses (s : Setting) (g : Matching) (cs : Clauses) (target : B.Target) (p : Progress) (v : Written)
    (o : Progress) (w : Written) : Type 0 where
  pub by : (t : ℕ) → WellMatchedClauses s.types t cs → ClausesIn s g cs target p v o w

-- a match, whatever its kind and place
pub record WritesMatch (s : Setting) (k : Known) (v : Written) (a : Argument) (t : ℕ) (c : Case) (cs : Clauses)
    (target : B.Target) (l : Known) (w : Written) : Type 0 where
  pub by : (d : Bool) (p : Place) → WellMatched s.types (Match d t p a c.pattern c.body cs) →
      Writes s k v (Match d t p a c.pattern c.body cs) target l w
