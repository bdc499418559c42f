-- It serves the proof that lowered code is laid out as asked: which registers are marked before a match that a let
-- binds. Those are marked whose variables the clauses may use up.
-- In  let y = match! xs { Nil -> a; Cons(x, t) -> b };  with xs, a and b in registers 0, 1 and 2, all three are.
use Rattle.std.specs.Prelude.{◌≡◌, ◌<◌, ℕ, suc, Bool, true, false, List, Option, Some, None, length, slice_get}
use Rattle.std.specs.Prelude.{slice_set}
use Rattle.fip_language.specs.declared.Place.{Place}
use Rattle.fip_trees.specs.Tree.{Argument, Variable, Literal, Constructor, Arguments, NoArguments, MoreArguments}
use Rattle.fip_trees.specs.Tree.{Expression, Give, Tuple, Operation, Call, Match, Nested, Block, Last, Let}
use Rattle.fip_trees.specs.Tree.{Clauses, NoClauses, MoreClauses, Instance}
use Rattle.fip_trees.specs.TreeView.{Case}
use Rattle.lower_frame.specs.lowering_relation.Known.{Known, register_of}
use Rattle.lower_frame.specs.lowering_relation.Values.{Setting}
use Rattle.lower_frame.specs.lowering_relation.LoweredBodies.{Target, Return, Into}
use Rattle.lower_frame.specs.lowering_relation.Uses.{takes_of, used_in}

abbrev pub is_set : Option Bool → Bool
is_set None = false
is_set (Some b) = b

abbrev pub is_marked : List Bool → ℕ → Bool
is_marked ms r = is_set (slice_get ms r)

-- a register is marked, where there is one
abbrev pub with_mark : List Bool → Option ℕ → List Bool
with_mark ms None = ms
with_mark ms (Some r) = slice_set ms r true

module _ (names : List (Option ℕ)) where
  -- those of the variables of an argument
  abbrev mutual
    pub marking : Argument → List Bool → List Bool
    marking (Variable x n p) ms = with_mark ms (register_of names x)
    marking (Literal i p) ms = ms
    marking (Constructor t d c n p as') ms = marking_all as' ms

    pub marking_all : Arguments → List Bool → List Bool
    marking_all NoArguments ms = ms
    marking_all (MoreArguments a as') ms = marking_all as' (marking a ms)

  abbrev pub marking_if : Bool → Argument → List Bool → List Bool
  marking_if false a ms = ms
  marking_if true a ms = marking a ms

  -- of arguments that an instance takes, from place j on
  abbrev pub marking_passed : Option Instance → ℕ → Arguments → List Bool → List Bool
  marking_passed o j NoArguments ms = ms
  marking_passed o j (MoreArguments a as') ms = marking_passed o (suc j) as' (marking_if (takes_of o j) a ms)

-- of what an expression may use up
module _ (names : List (Option ℕ)) (ds : List Instance) where
  abbrev mutual
    pub marking_in : Expression → List Bool → List Bool
    marking_in (Give a) ms = marking names a ms
    marking_in (Tuple p as') ms = marking_all names as' ms
    marking_in (Operation o p a b) ms = ms
    marking_in (Call g n p as') ms = marking_passed names (slice_get ds g) 0 as' ms
    marking_in (Match d t p a q b cs) ms = marking_clauses cs (marking_block b (marking_if names d a ms))
    marking_in (Nested b) ms = marking_block b ms

    pub marking_block : Block → List Bool → List Bool
    marking_block (Last e) ms = marking_in e ms
    marking_block (Let bs e rest) ms = marking_block rest (marking_in e ms)

    pub marking_clauses : Clauses → List Bool → List Bool
    marking_clauses NoClauses ms = ms
    marking_clauses (MoreClauses q b cs) ms = marking_clauses cs (marking_block b ms)

-- of the registers that have a mark, those are marked of which e may use a variable up
pub record AreMarked (s : Setting) (k : Known) (e : Expression) (ms : List Bool) : Type 0 where
  pub set : (x r : ℕ) → register_of k.names (Some x) ≡ Some r → used_in s.instances x e ≡ true → r < length ms →
      is_marked ms r ≡ true
  pub only : (r : ℕ) → is_marked ms r ≡ true →
      (x : ℕ) × (register_of k.names (Some x) ≡ Some r) × (used_in s.instances x e ≡ true)

-- those of a match of scrutinee a by these clauses, whatever its type and place
pub record MatchMarked (s : Setting) (k : Known) (d : Bool) (a : Argument) (c : Case) (cs : Clauses) (ms : List Bool) :
    Type 0 where
  pub many : length ms ≡ k.next
  pub marked : (t : ℕ) (p : Place) → AreMarked s k (Match d t p a c.pattern c.body cs) ms

-- in fbip
abbrev pub MarkedIf : Bool → Setting → Known → Bool → Argument → Case → Clauses → List Bool → Type 0
MarkedIf true s k d a c cs ms = Unit {0}
MarkedIf false s k d a c cs ms = MatchMarked s k d a c cs ms

-- where its values go to registers
abbrev pub MarkedFor : Bool → Target → Setting → Known → Bool → Argument → Case → Clauses → List Bool → Type 0
MarkedFor fip Return s k d a c cs ms = Unit {0}
MarkedFor fip (Into ds) s k d a c cs ms = MarkedIf fip s k d a c cs ms
