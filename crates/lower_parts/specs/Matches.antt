-- It serves the proof that lowered code is laid out as asked: what the parts of the lowering of a match have laid out.
-- Names are as in Clauses: v was written before and w after, with ds and es the sides of its tests that were still to
-- be written, and j and jl what was known at the ends of the clauses so far; k was known before, and l is known after.
use Rattle.std.specs.Prelude.{◌≡◌, ◌⊎◌, ◌≤◌, ◌<◌, ℕ, suc, max, Bool, true, ◌&&◌, not, List, [], ◌∷◌, Option, Some}
use Rattle.std.specs.Prelude.{None, length, slice_get}
use Rattle.fip_trees.specs.declared.needs.Need.{Need}
use Rattle.fip_trees.specs.Tree.{Pattern, Argument, Clauses, NoClauses, MoreClauses}
use Rattle.fip_trees.specs.TreeView.{Case}
use Rattle.cell_code.specs.declared.code.Instr.TheVariants as I
use Rattle.lower_frame.specs.lowering_relation.Known.{Known}
use Rattle.lower_frame.specs.lowering_relation.Values.{Setting, is_scalar}
use Rattle.lower_frame.specs.lowering_relation.LoweredBodies.{Target, Return, Into}
use Rattle.lower_frame.specs.lowering_relation.Choosing.{FewerCredits}
use Rattle.lower_frame.specs.lowering_relation.Written.{Written, size, Extends, IsAt, added}
use Rattle.lower_frame.specs.lowering_relation.Landing.{Side}
use Rattle.lower_frame.specs.lowering_relation.Entering.{entering_root}
use Rattle.lower_frame.specs.lowering_relation.Rows.{patterns_in}
use Rattle.lower_frame.specs.lowering_relation.Joins.{Met}
use Rattle.lower_frame.specs.lowering_relation.Matches.{wide}
use Rattle.lower_frame.specs.Credits.{Accounted}
use Rattle.lower_frame.specs.Frames.{kinds_reported}
use Rattle.lower_frame.specs.Labels.{telling}
use Rattle.lower_frame.specs.Positions.{reaching, spot_of}
use Rattle.lower_frame.specs.Registers.{registers, HasRoom}
use Rattle.lower_parts.specs.declared.match_state.Matching.{Matching}
use Rattle.lower_parts.specs.declared.match_state.Progress.{Progress}
use Rattle.lower_parts.specs.Scenes.{patterns_of, sides_of}
use Rattle.lower_parts.specs.Writing.{Computes}
use Rattle.lower_parts.specs.Laying.{ForgetsLaid}
use Rattle.lower_parts.specs.Chosen.{ChoosesLaid}
use Rattle.lower_parts.specs.Clauses.{HasPositions}
use Rattle.lower_parts.specs.Marks.{MarkedFor}
use Rattle.lower_parts.specs.Leaving.{EndsMatchedLaid, ClauseLeavesLaid}
use Rattle.lower_parts.specs.Bodies.{LaysBlock}

-- A match of a by clause c and others was begun, which is destructive or not. The needs ns were to come.
pub record BeginsLaid (s : Setting) (fip : Bool) (ns : List Need) (k : Known) (v : Written) (d : Bool) (a : Argument)
    (t : ℕ) (c : Case) (cs : Clauses) (target : Target) (g : Matching) (w : Written) : Type 0 where
  pub register : ℕ
  pub computed : Known
  pub valued : Written
  pub computes : Computes s k v a register computed valued
  pub used : register < computed.next
  pub before : Known
  pub given_up : Written
  pub bares : EndsMatchedLaid target computed valued before given_up
  pub given_extends : Extends valued given_up
  pub given_many : registers before ≡ registers computed
  pub forgot : Known
  pub reported : Written
  pub forgets : ForgetsLaid s.types register before given_up forgot reported
  pub reported_extends : Extends given_up reported
  pub reported_long : size reported ≡ size given_up
  pub entry : g.entry ≡ reaching forgot g.entry.next
  pub maps : w.maps ≡ reported.maps
  pub extends : Extends reported w
  pub as_long : size w ≡ size reported
  pub positions : HasPositions g.choice register t forgot.next g.entry.next
  pub patterns : patterns_of g.choice ≡ c.pattern ∷ patterns_in cs
  pub entries : length g.choice.entries.items ≡ length (patterns_of g.choice)
  pub takes : g.choice.takes ≡ (d && not (is_scalar s t))
  pub room : HasRoom forgot g.entry
  pub marked : MarkedFor fip target s forgot d a c cs g.used.items
  pub need : (x : Need) → slice_get ns 0 ≡ Some x → g.need ≡ x.sizes

-- The tests that choose clause i are written, and its body begins.
pub record StartsLaid (s : Setting) (g : Matching) (q : Pattern) (i : ℕ) (k : Known) (v : Written) (ds : List Side)
    (l : Known) (w : Written) (es : List Side) : Type 0 where
  pub chosen : Written
  pub chooses : ChoosesLaid s g.entry.held g.choice i v ds chosen es true
  pub all : length g.choice.rows.items ≤ suc i → es ≡ []
  pub next : l.next ≡ max k.next g.entry.next
  pub known : l ≡ wide (entering_root s g.choice.takes q (spot_of g.choice.root) (reaching g.entry l.next))
  pub label : ℕ
  pub entry : slice_get g.choice.entries.items i ≡ Some label
  pub extends : Extends chosen w
  pub as_long : size w ≡ size chosen
  pub placed : IsAt w label (size chosen)
  pub maps : w.maps ≡ telling (size chosen) (kinds_reported s.types l.held) chosen.maps

-- what is known at the ends of the clauses before and of one more
abbrev pub JoinsLaid : Option Known → Known → Option Known → Type 0
JoinsLaid None k jl = jl ≡ Some k
JoinsLaid (Some j) k jl = (m : Known) × (jl ≡ Some m) × Met j k m × (Accounted j → Accounted m)
    × FewerCredits j.credits m.credits

-- clause n is the next: where there is one, the code goes to the place where they meet
abbrev pub GoesLaid : Matching → ℕ → Written → Written → Type 0
GoesLaid g n v w =
    ((n < length g.choice.rows.items) × (w ≡ added v (I.Jump g.end)))
    ⊎ ((length g.choice.rows.items ≤ n) × (w ≡ v))

-- the body of a clause ended where k was known, and clause n is the next
pub record EndsIntoLaid (s : Setting) (fip : Bool) (g : Matching) (ds : List ℕ) (n : ℕ) (k : Known) (v : Written)
    (j : Option Known) (w : Written) (jl : Option Known) : Type 0 where
  pub left : Written
  pub known : Known
  pub leaves : ClauseLeavesLaid s fip k v g.entry g.used.items g.need ds known left
  pub extends : Extends v left
  pub many : registers known ≡ registers k
  pub goes : GoesLaid g n left w
  pub joins : JoinsLaid j known jl

abbrev pub EndsInLaid :
    Setting → Bool → Matching → Target → ℕ → Known → Written → Option Known → Written → Option Known → Type 0
EndsInLaid s fip g Return n k v j w jl = (w ≡ v) × (jl ≡ j)
EndsInLaid s fip g (Into ds) n k v j w jl = EndsIntoLaid s fip g ds n k v j w jl

-- the place where clauses meet
pub record MeetsLaid (s : Setting) (g : Matching) (m k : Known) (v : Written) (l : Known) (w : Written) : Type 0 where
  pub next : l.next ≡ max k.next m.next
  pub known : l ≡ wide (reaching m l.next)
  pub extends : Extends v w
  pub as_long : size w ≡ size v
  pub placed : IsAt w g.end (size v)
  pub maps : w.maps ≡ telling (size v) (kinds_reported s.types l.held) v.maps

abbrev pub EndsMatchLaid : Setting → Matching → Option Known → Known → Written → Known → Written → Type 0
EndsMatchLaid s g None k v l w = (l ≡ k) × (w ≡ v)
EndsMatchLaid s g (Some m) k v l w = MeetsLaid s g m k v l w

-- a whole clause
pub record ClauseLays (s : Setting) (fip : Bool) (g : Matching) (c : Case) (target : Target) (p : Progress) (k : Known)
    (v : Written) (o : Progress) (l : Known) (w : Written) : Type 0 where
  pub begun : Written
  pub ended : Written
  pub known : Known
  pub last : Known
  pub starts : StartsLaid s g c.pattern p.clause k v (sides_of p.sides.items) known begun (sides_of o.sides.items)
  pub body : LaysBlock s fip known begun c.body target last ended
  pub ends : EndsInLaid s fip g target o.clause last ended p.joined w o.joined
  pub next : o.clause ≡ suc p.clause
  pub room : l.next ≡ last.next

-- clauses, one after another
abbrev pub ClausesLay : Setting → Bool → Matching → Clauses → Target → Progress → Known → Written → Progress → Known →
    Written → Type 0
ClausesLay s fip g NoClauses target p k v o l w = (o ≡ p) × (l ≡ k) × (w ≡ v)
ClausesLay s fip g (MoreClauses q b cs) target p k v o l w =
    (r : Progress) × (m : Known) × (u : Written)
    × ClauseLays s fip g (record { pattern = q; body = b }) target p k v r m u × ClausesLay s fip g cs target r m u o l w
