-- It serves the proofs on lowered code: what each part of the lowering of a function has written, in the words of
-- lowered code, and how much: v is what was written before it and k what was known, w and l those after it.
use Rattle.std.specs.Prelude.{◌≡◌, ◌≤◌, ◌<◌, ◌+◌, ℕ, suc, false, List, [], ◌∷◌, ◌++◌, Option, Some, None, length}
use Rattle.std.specs.Prelude.{slice_get, slice_set, if◌then◌else◌}
use Rattle.fip_language.specs.declared.Operator.{Operator}
use Rattle.fip_language.specs.declared.Place.{Place}
use Rattle.fip_language.specs.Table.{Table}
use Rattle.fip_trees.specs.declared.program.Binder.{Binder}
use Rattle.fip_trees.specs.Tree.{Name, Argument, Arguments, Expression, Call, Block, Let}
use Rattle.fip_trees.specs.TreeView.{instances}
use Rattle.fip_base.specs.declared.plain.Param.{Param}
use Rattle.lower_frame.specs.lowering_relation.declared.held.Held.{Held}
use Rattle.lower_frame.specs.lowering_relation.Known.{Known, naming, register_of, used}
use Rattle.lower_frame.specs.lowering_relation.Values.{Setting, BuiltAt, ArgumentAt, ArgumentsAt}
use Rattle.lower_frame.specs.lowering_relation.LoweredBodies as B
use Rattle.lower_frame.specs.lowering_relation.LoweredFunctions.{with_param}
use Rattle.code_size.specs.Bounds.{most_for}
use Rattle.code_size.specs.Places.{argument_places, arguments_places, expression_places, block_places}
use Rattle.lower_frame.specs.lowering_relation.Credits.{LastGone}
use Rattle.lower_frame.specs.lowering_relation.Describing.{held_at, kind_of}
use Rattle.lower_frame.specs.lowering_relation.Moves.{MoveLaid, MovesLaid}
use Rattle.lower_frame.specs.Credits.{Accounted, AllSolid, is_credit}
use Rattle.lower_frame.specs.Frames.{Takes}
use Rattle.lower_frame.specs.Registers.{registers, HasRoom}
use Rattle.lower_parts.specs.Growth.{Adds, Stay}
use Rattle.lower_frame.specs.lowering_relation.Written.{Written, size, Extends, InCode}
use Rattle.lower_parts.specs.declared.context.Context.{Context}
use Rattle.lower_parts.specs.declared.context.Target.{Target}
use Rattle.lower_parts.specs.declared.context.Target.TheVariants as T

abbrev pub setting : Context → Setting
setting c = record {
  scalar = c.scalars;
  functions = c.functions.items;
  instances = instances c.program.now.instances.items;
  types = c.program.now.types;
}

abbrev pub target_of : Target → B.Target
target_of T.Return = B.Return
target_of (T.Into ds) = B.Into ds.now

-- a parameter gets the next register, where it has a binder
abbrev pub param_at : Setting → Known → Param → Option Binder → Known
param_at s k p None = k
param_at s k p (Some b) = with_param s k p b

-- credits that are accounted for stay so, and the last of each size are used first
abbrev pub Kept : Known → Known → Type 0
Kept k l = Accounted k → Accounted l × LastGone k.credits l.credits

-- the registers of variables are used already, and are no credits'
abbrev pub Named : Known → Type 0
Named k = (x r : ℕ) → register_of k.names (Some x) ≡ Some r → AllSolid k (r ∷ [])

-- the same kinds are reported
abbrev pub Still : Known → Known → Type 0
Still k l = (tb : Table) (r : ℕ) → kind_of tb (held_at l.held r) ≡ kind_of tb (held_at k.held r)

-- each register that gets the word of another, and this one, is used already and no credit's
abbrev pub Movable : Known → List ℕ → List ℕ → Type 0
Movable k [] ds = Unit {0}
Movable k (r ∷ rs) [] = Unit {0}
Movable k (r ∷ rs) (d ∷ ds) =
    (r < k.next) × (is_credit (slice_get k.held r) ≡ false) × (d < k.next) × (is_credit (slice_get k.held d) ≡ false)
    × Movable k rs ds

-- Words of registers went to others: nothing else is known anew, and where nothing was written all is as it was.
pub record HandsOn (k : Known) (v : Written) (rs ds : List ℕ) (l : Known) (w : Written) : Type 0 where
  pub names : l.names ≡ k.names
  pub next : l.next ≡ k.next
  pub credits : l.credits ≡ k.credits
  pub accounts : Accounted k → Movable k rs ds → Accounted l
  pub still : size w ≡ size v → l ≡ k

-- after v was written and k was known, an argument was computed into r: now w is written and l is known
pub record Computes (s : Setting) (k : Known) (v : Written) (a : Argument) (r : ℕ) (l : Known) (w : Written) :
    Type 0 where
  pub extends : Extends v w
  pub code : InCode v w (λ code. ArgumentAt s code (size v) k a r (size w) l)
  pub maps : w.maps ≡ v.maps
  pub as_many : registers l ≡ registers k
  pub room : HasRoom k l
  pub kept : Kept k l
  pub names : l.names ≡ k.names
  pub grows : k.next ≤ l.next
  pub still : size w ≡ size v → Still k l
  pub solid : Accounted k → Named k → AllSolid l (r ∷ [])
  pub few : Adds (argument_places a) 0 v w

pub record ComputesAll (s : Setting) (k : Known) (v : Written) (as' : Arguments) (rs : List ℕ) (l : Known)
    (w : Written) : Type 0 where
  pub extends : Extends v w
  pub code : InCode v w (λ code. ArgumentsAt s code (size v) k as' rs (size w) l)
  pub maps : w.maps ≡ v.maps
  pub as_many : registers l ≡ registers k
  pub room : HasRoom k l
  pub kept : Kept k l
  pub names : l.names ≡ k.names
  pub grows : k.next ≤ l.next
  pub still : size w ≡ size v → Still k l
  pub solid : Accounted k → Named k → AllSolid l rs
  pub few : Adds (arguments_places as') 0 v w
  pub a_register_each : length rs ≤ arguments_places as'

-- a constructor of fields in registers
pub record Builds (s : Setting) (k : Known) (v : Written) (t c : ℕ) (rs : List ℕ) (r : ℕ) (l : Known)
    (w : Written) : Type 0 where
  pub extends : Extends v w
  pub code : InCode v w (λ code. BuiltAt s code (size v) k t c rs r (size w) l)
  pub maps : w.maps ≡ v.maps
  pub as_many : registers l ≡ registers k
  pub room : HasRoom k l
  pub kept : Kept k l
  pub names : l.names ≡ k.names
  pub grows : k.next ≤ l.next
  pub still : size w ≡ size v → Still k l
  pub solid : Accounted k → AllSolid l (r ∷ [])
  pub few : Adds 1 0 v w

-- after the arguments so far, the others follow
pub record Follow (s : Setting) (k0 : Known) (v0 : Written) (as0 : Arguments) (k : Known) (v : Written)
    (as' : Arguments) (before : List ℕ) : Type 0 where
  pub by : (rs : List ℕ) (l : Known) (w : Written) → ComputesAll s k v as' rs l w →
      ComputesAll s k0 v0 as0 (before ++ rs) l w

-- results in registers are handed on
pub record Gives (k : Known) (v : Written) (rs : List ℕ) (target : B.Target) (l : Known) (w : Written) :
    Type 0 where
  pub extends : Extends v w
  pub code : InCode v w (λ code. B.GivenAt code (size v) k rs target (size w) l)
  pub stay : Stay target k l
  pub few : Adds (suc (registers k) + length rs) 0 v w

pub record Moves (k : Known) (v : Written) (rs ds : List ℕ) (l : Known) (w : Written) : Type 0 where
  pub extends : Extends v w
  pub code : InCode v w (λ code. MovesLaid code (size v) k rs ds (size w) l)
  pub maps : w.maps ≡ v.maps
  pub hands : HandsOn k v rs ds l w
  pub as_many : registers l ≡ registers k
  pub few : Adds (length rs) 0 v w

pub record MovesOne (k : Known) (v : Written) (r d : ℕ) (l : Known) (w : Written) : Type 0 where
  pub extends : Extends v w
  pub code : InCode v w (λ code. MoveLaid code (size v) k r d (size w) l)
  pub maps : w.maps ≡ v.maps
  pub hands : HandsOn k v (r ∷ []) (d ∷ []) l w
  pub as_many : registers l ≡ registers k
  pub few : Adds 1 0 v w

-- a register's word goes to a destination, where there is one
abbrev pub MovesTo : Known → Written → ℕ → Option ℕ → Known → Written → Type 0
MovesTo k v r None l w = (l ≡ k) × (w ≡ v)
MovesTo k v r (Some d) l w = MovesOne k v r d l w

-- after the moves so far, the others follow
pub record FollowMoves (k0 : Known) (v0 : Written) (rs0 ds0 : List ℕ) (k : Known) (v : Written)
    (rs ds : List ℕ) : Type 0 where
  pub by : (l : Known) (w : Written) → Moves k v rs ds l w → Moves k0 v0 rs0 ds0 l w

pub record Writes (s : Setting) (k : Known) (v : Written) (e : Expression) (target : B.Target) (l : Known)
    (w : Written) : Type 0 where
  pub extends : Extends v w
  pub code : InCode v w (λ code. B.ExpressionAt s code (size v) k e target (size w) l)
  pub stay : Stay target k l
  pub few : Adds (most_for (registers k) (expression_places s.types e)) (expression_places s.types e) v w

pub record WritesBlock (s : Setting) (k : Known) (v : Written) (b : Block) (target : B.Target) (l : Known)
    (w : Written) : Type 0 where
  pub extends : Extends v w
  pub code : InCode v w (λ code. B.BlockAt s code (size v) k b target (size w) l)
  pub stay : Stay target k l
  pub few : Adds (most_for (registers k) (block_places s.types b)) (block_places s.types b) v w

-- after the bindings so far, the rest of a block follows
pub record FollowBlock (s : Setting) (k0 : Known) (v0 : Written) (b0 : Block) (k : Known) (v : Written)
    (b : Block) (target : B.Target) : Type 0 where
  pub by : (l : Known) (w : Written) → WritesBlock s k v b target l w → WritesBlock s k0 v0 b0 target l w

-- an operator of two registers
pub record Operates (k : Known) (v : Written) (o : Operator) (p : Place) (x y : ℕ) (target : B.Target) (l : Known)
    (w : Written) : Type 0 where
  pub extends : Extends v w
  pub code : InCode v w (λ code. B.IsOperation code (size v) k o p x y target (size w) l)
  pub stay : Stay target k l
  pub few : Adds (registers k + 3) 0 v w

-- what a register holds after it was handed over for a parameter, where there is a register
abbrev pub handed_at : List Held → Param → Option ℕ → List Held
handed_at hs p None = hs
handed_at hs p (Some r) = if p.lent then hs else used hs r

-- what registers hold after a result of type t came to a destination, where there is one
abbrev pub received_at : Setting → List Held → ℕ → Option ℕ → List Held
received_at s hs t None = hs
received_at s hs t (Some d) = slice_set hs d (B.given s t)

-- a variable has a register, where there is one
abbrev pub named_at : Known → Binder → Option ℕ → Known
named_at k b None = k
named_at k b (Some r) = naming k b.number r

-- a credit of size n is taken, and its register put after others
pub record TakesOne (k : Known) (n : ℕ) (before rs : List ℕ) (l : Known) : Type 0 where
  pub credit : ℕ
  pub following : rs ≡ before ++ credit ∷ []
  pub taken : Takes k n credit l

-- credits of these sizes are taken, and their registers put after others
pub record TakesAll (k : Known) (ns before rs : List ℕ) (l : Known) : Type 0 where
  pub credits : List ℕ
  pub following : rs ≡ before ++ credits
  pub taken : B.AreTaken k ns credits l
  pub kept : Kept k l
  pub names : l.names ≡ k.names
  pub next : l.next ≡ k.next

-- after those so far, the others follow
pub record FollowCredits (k0 : Known) (ns0 before0 : List ℕ) (k : Known) (ns before : List ℕ) : Type 0 where
  pub by : (rs : List ℕ) (l : Known) → TakesAll k ns before rs l → TakesAll k0 ns0 before0 rs l

pub record EndsCall (s : Setting) (k : Known) (v : Written) (f : ℕ) (rs results : List ℕ) (target : B.Target)
    (l : Known) (w : Written) : Type 0 where
  pub extends : Extends v w
  pub code : InCode v w (λ code. B.EndsCall s code (size v) k f rs results target (size w) l)
  pub stay : Stay target k l
  pub few : Adds (suc (registers k)) 0 v w

-- a call of instance g with arguments in registers
pub record CallsAt (s : Setting) (k : Known) (v : Written) (g : ℕ) (rs : List ℕ) (target : B.Target) (l : Known)
    (w : Written) : Type 0 where
  pub extends : Extends v w
  pub code : InCode v w (λ code. B.IsCall s code (size v) k g rs target (size w) l)
  pub stay : Stay target k l
  pub few : Adds (suc (registers k)) 0 v w

-- arguments whose values are handed on
pub record GivesValues (s : Setting) (k : Known) (v : Written) (as' : Arguments) (target : B.Target) (l : Known)
    (w : Written) : Type 0 where
  pub extends : Extends v w
  pub code : InCode v w (λ code.
      (rs : List ℕ) × (mid : ℕ) × (m : Known) × ArgumentsAt s code (size v) k as' rs mid m
      × B.GivenAt code mid m rs target (size w) l)
  pub stay : Stay target k l
  pub few : Adds (suc (registers k) + (arguments_places as' + arguments_places as')) 0 v w

-- a call of instance g with these arguments, whatever its name and place
pub record AppliesTo (s : Setting) (k : Known) (v : Written) (g : ℕ) (as' : Arguments) (target : B.Target) (l : Known)
    (w : Written) : Type 0 where
  pub by : (n : Name) (p : Place) → Writes s k v (Call g n p as') target l w

-- a let without its body: whatever follows, it is that of the whole
pub record Binds (s : Setting) (k : Known) (v : Written) (bs : List Binder) (e : Expression) (l : Known)
    (w : Written) : Type 0 where
  pub by : (rest : Block) (target : B.Target) (m : Known) (z : Written) → WritesBlock s l w rest target m z →
      WritesBlock s k v (Let bs e rest) target m z

-- the function has the registers that are used already
abbrev pub IsInRoom : Known → Type 0
IsInRoom k = k.next ≤ registers k
