-- It serves the proof that lowered code is laid out as asked: what the parts of the lowering of a function have laid
-- out in each function that has what they have written, from v, where k was known, to w, where l is known.
use Rattle.std.specs.Prelude.{◌≡◌, ◌⊎◌, ◌≤◌, ◌<◌, ℕ, suc, Bool, true, false, is_some, List, Some, get_or}
use Rattle.fip_language.specs.declared.limits.TheConstants.{MOST_FIELDS}
use Rattle.fip_language.specs.declared.Operator.{Operator}
use Rattle.fip_language.specs.declared.Place.{Place}
use Rattle.fip_language.specs.Table.{Table}
use Rattle.fip_trees.specs.Tree.{Argument, Arguments}
use Rattle.cell_code.specs.declared.kind.Kind.{Kind}
use Rattle.cell_code.specs.Plain.{PlainFunction, PlainCode}
use Rattle.lower_frame.specs.code_rules.Codes.{label_at}
use Rattle.lower_frame.specs.lowering_relation.declared.held.Held.{Held}
use Rattle.lower_frame.specs.lowering_relation.declared.held.Held.TheVariants as H
use Rattle.lower_frame.specs.lowering_relation.Known.{Known, using}
use Rattle.lower_frame.specs.lowering_relation.Values.{Setting}
use Rattle.lower_frame.specs.lowering_relation.LoweredBodies.{Target, Return, Into, received}
use Rattle.lower_frame.specs.lowering_relation.Written.{Written, size, Extends, HasFrom, IsAt}
use Rattle.lower_frame.specs.lowering_relation.Credits.{LastGone}
use Rattle.lower_frame.specs.lowering_relation.Describing.{held_at, kinds_of}
use Rattle.lower_frame.specs.lowering_relation.Labels.{Reports}
use Rattle.lower_frame.specs.lowering_relation.Matches.{wide}
use Rattle.lower_frame.specs.lowering_relation.GivenUp.{GivesUp, AllGivenUp}
use Rattle.lower_frame.specs.lowering_relation.Handed.{GivenLaid, OperationLaid, CallLaid, EndsCallLaid}
use Rattle.lower_frame.specs.lowering_relation.LaidBodies.{GiveLaid, OperatorLaid, CalledLaid}
use Rattle.lower_frame.specs.Credits.{Accounted, AllSolid, FewerTrees, NoBares, sized}
use Rattle.lower_frame.specs.Frames.{kinds_reported}
use Rattle.lower_frame.specs.Labels.{Rising, telling}
use Rattle.lower_frame.specs.Registers.{registers, HasRoom}
use Rattle.lower_parts.specs.Writing.{HandsOn, Named}

-- What is left is given up, and nothing is reported; in fip only constructors that were matched are.
pub record GivesUpLaid (fip : Bool) (k : Known) (v : Written) (l : Known) (w : Written) : Type 0 where
  pub extends : Extends v w
  pub maps : w.maps ≡ v.maps
  pub next : l.next ≡ k.next
  pub accounts : Accounted k → Accounted l
  pub trees : FewerTrees k.held l.held
  pub by : (to : ℕ → ℕ) (f : PlainFunction) → HasFrom (size v) w to f.instrs →
      (n : ℕ) × GivesUp fip f n (size v) k (size w) l

-- no credit is left
pub record SpendsAll (k l : Known) : Type 0 where
  pub by : Accounted k → (n : ℕ) → 1 ≤ n → n ≤ MOST_FIELDS → sized n l.credits ≡ 0

-- of a size so many at most are left, and of each as many at most as there were
pub record SpendsPast (n kept : ℕ) (k l : Known) : Type 0 where
  pub past : Accounted k → sized n l.credits ≤ kept
  pub others : (m : ℕ) → sized m l.credits ≤ sized m k.credits

-- all that has to be given up is
pub record AllGone (fip : Bool) (k l : Known) : Type 0 where
  pub by : Accounted k → NoBares k.next k.held → AllGivenUp fip (held_at l.held)

-- where the function ends, all credits are accounted for
abbrev pub AccountedAt : Target → Known → Type 0
AccountedAt Return k = Accounted k
AccountedAt (Into ds) k = Unit {0}

-- of results that go to these registers
abbrev pub IntoAt : Target → (List ℕ → Type 0) → Type 0
IntoAt Return P = Unit {0}
IntoAt (Into ds) P = P ds

-- results came into registers, and something was written
pub record ResultsIn (k : Known) (v : Written) (ds : List ℕ) (l : Known) (w : Written) : Type 0 where
  pub names : l.names ≡ k.names
  pub grows : k.next ≤ l.next
  pub room : HasRoom k l
  pub accounts : Accounted k → AllSolid k ds → Accounted l × LastGone k.credits l.credits
  pub longer : size v < size w

-- results in registers are handed on
pub record GivesLaid (fip : Bool) (k : Known) (v : Written) (rs : List ℕ) (target : Target) (l : Known)
    (w : Written) : Type 0 where
  pub maps : w.maps ≡ v.maps
  pub room : HasRoom k l
  pub by : AccountedAt target k → (to : ℕ → ℕ) (f : PlainFunction) → HasFrom (size v) w to f.instrs →
      GivenLaid fip f (size v) k rs target (size w) l
  pub into : IntoAt target (λ ds. HandsOn k v rs ds l w)

-- an operator of two registers
pub record OperatesLaid (fip : Bool) (k : Known) (v : Written) (o : Operator) (p : Place) (x y : ℕ) (target : Target)
    (l : Known) (w : Written) : Type 0 where
  pub maps : w.maps ≡ v.maps
  pub room : HasRoom k l
  pub by : AccountedAt target k → (to : ℕ → ℕ) (f : PlainFunction) → HasFrom (size v) w to f.instrs →
      (operation : OperationLaid fip f (size v) k o p x y target (size w) l) × HasRoom k operation.holds
  pub into : IntoAt target (λ ds. ResultsIn k v ds l w)

pub record EndsLaid (s : Setting) (fip : Bool) (k : Known) (v : Written) (g : ℕ) (rs results : List ℕ)
    (target : Target) (l : Known) (w : Written) : Type 0 where
  pub maps : w.maps ≡ v.maps
  pub room : HasRoom k l
  pub by : AccountedAt target k → (to : ℕ → ℕ) (f : PlainFunction) → HasFrom (size v) w to f.instrs →
      EndsCallLaid s fip f (size v) k g rs results target (size w) l
  pub into : IntoAt target (λ ds. (l ≡ using k (received s k.held results ds)) × (size w ≡ suc (size v)))

-- a call of instance g with arguments in registers
pub record CallsLaid (s : Setting) (fip : Bool) (k : Known) (v : Written) (g : ℕ) (rs : List ℕ) (target : Target)
    (l : Known) (w : Written) : Type 0 where
  pub maps : w.maps ≡ v.maps
  pub room : HasRoom k l
  pub by : Accounted k → (to : ℕ → ℕ) (f : PlainFunction) → HasFrom (size v) w to f.instrs →
      CallLaid s fip f (size v) k g rs target (size w) l
  pub into : IntoAt target (λ ds. ResultsIn k v ds l w)

abbrev pub is_built : Held → Bool
is_built H.Nothing = false
is_built (H.Scalar t) = false
is_built (H.Owned t b) = is_some b
is_built (H.Lent t root) = false
is_built (H.Credit n) = false
is_built (H.Bare t c) = false

-- a label has its place here
pub record HasLabelAt (w : Written) (p : ℕ) : Type 0 where
  pub label : ℕ
  pub placed : IsAt w label p

-- where the tree in a register was just built, this is forgotten, and what is known then is reported here, at a label
abbrev pub ForgetsLaid : Table → ℕ → Known → Written → Known → Written → Type 0
ForgetsLaid tb r k v l w =
    ((l ≡ k) × (w.maps ≡ v.maps) × (is_built (get_or k.held r H.Nothing) ≡ false))
    ⊎ ((l ≡ wide k) × (w.maps ≡ telling (size v) (kinds_reported tb l.held) v.maps) × HasLabelAt w (size v))

-- A function has what is written from n on, where labels are at these places, with what is reported there. Where a label has
-- its place, but for the first instruction, something is reported.
pub record HasPart (n : ℕ) (w : Written) (to : ℕ → ℕ) (f : PlainFunction) : Type 0 where
  pub code : HasFrom n w to f.instrs
  pub reported : (p : ℕ) → n ≤ p → p < size w → label_at f.labels p ≡ label_at w.maps p
  pub labels : (label p : ℕ) → IsAt w label p → 0 < p → is_some (label_at f.labels p) ≡ true

-- this is so in each function of n registers, of a code with these types, that has what is written in w after v
abbrev pub InFunction : Table → ℕ → Written → Written → (PlainCode → PlainFunction → Type 0) → Type 0
InFunction tb n v w P = (c : PlainCode) (to : ℕ → ℕ) (f : PlainFunction) → c.types ≡ tb → f.registers ≡ n →
    HasPart (size v) w to f → P c f

-- Where lowering goes on: what was reported stands up to here, and what is reported here is what is known.
pub record Underway (tb : Table) (k : Known) (v : Written) : Type 0 where
  pub accounts : Accounted k
  pub named : Named k
  pub room : k.next ≤ registers k
  pub rising : Rising (size v) 0 v.maps
  pub shown : (map : List Kind) → label_at v.maps (size v) ≡ Some map →
      Reports (registers k) map (kinds_of tb (held_at k.held))

-- values that go to the target
pub record GivesValuesLaid (s : Setting) (fip : Bool) (k : Known) (v : Written) (as' : Arguments) (target : Target)
    (l : Known) (w : Written) : Type 0 where
  pub maps : w.maps ≡ v.maps
  pub room : HasRoom k l
  pub by : Underway s.types k v → InFunction s.types (registers k) v w
      (λ c f. GiveLaid c s fip f (size v) k as' target (size w) l)
  pub into : IntoAt target (λ ds. Underway s.types k v → AllSolid k ds → Underway s.types l w)

-- a call of instance g with these arguments
pub record AppliesLaid (s : Setting) (fip : Bool) (k : Known) (v : Written) (g : ℕ) (as' : Arguments)
    (target : Target) (l : Known) (w : Written) : Type 0 where
  pub maps : w.maps ≡ v.maps
  pub room : HasRoom k l
  pub by : Underway s.types k v → InFunction s.types (registers k) v w
      (λ c f. CalledLaid c s fip f (size v) k g as' target (size w) l)
  pub into : IntoAt target (λ ds. Underway s.types k v → AllSolid k ds → Underway s.types l w)

-- an operator of two arguments
pub record AppliedLaid (s : Setting) (fip : Bool) (k : Known) (v : Written) (o : Operator) (p : Place)
    (a b : Argument) (target : Target) (l : Known) (w : Written) : Type 0 where
  pub maps : w.maps ≡ v.maps
  pub room : HasRoom k l
  pub by : Underway s.types k v → InFunction s.types (registers k) v w
      (λ c f. OperatorLaid c s fip f (size v) k o p a b target (size w) l)
  pub into : IntoAt target (λ ds. Underway s.types k v → AllSolid k ds → Underway s.types l w)
