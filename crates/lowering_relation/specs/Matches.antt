-- It serves the proof that lowered code is sound: how a match begins, and what is known at the entries of its clauses.
-- Its scrutinee is a variable. A tree that was just built has one constructor; tests ask for others too, so a label
-- that takes all of them is before. Each position below the scrutinee has a register of its own that wasn't used
-- before. A label is at the entry of each clause's body, but at the start of a function, and takes what is reported
-- there.
use Rattle.std.specs.Prelude.{◌≡◌, ◌⊎◌, ℕ, ◌<◌, ◌≤◌, Bool, ◌&&◌, not, List, [], ◌∷◌, Option, Some, None, map, slice_get}
use Rattle.tree_semantics.specs.fip_language.Table.{Table}
use Rattle.tree_semantics.specs.fip_language.Every.{Among}
use Rattle.credit_check.specs.fip_trees.Tree.{Argument, Variable, Literal, Constructor, Pattern, Clauses, NoClauses, MoreClauses}
use Rattle.code_rules.specs.cell_code.Plain.{PlainFunction, PlainCode}
use Rattle.code_rules.specs.Types.{count}
use Rattle.lowering_relation.specs.declared.held.Held.{Held}
use Rattle.lowering_relation.specs.declared.held.Held.TheVariants as H
use Rattle.lowering_relation.specs.Known.{Known, register_of}
use Rattle.lowering_relation.specs.Values.{Setting, is_scalar}
use Rattle.match_knowledge.specs.Patterns.{IsPattern}
use Rattle.match_knowledge.specs.Known.{Open}
use Rattle.lowering_relation.specs.Spots.{register, below, Differ}
use Rattle.lowering_relation.specs.Rows.{row_of}
use Rattle.lowering_relation.specs.Opening.{Roomy}
use Rattle.lowering_relation.specs.Entering.{entering_root}
use Rattle.lowering_relation.specs.Describing.{Holding, held_at}
use Rattle.lowering_relation.specs.Labels.{Catches, reported}
use Rattle.lowering_relation.specs.Tests.{Choice, ChunkLaid, SidesLaid}

-- which constructor was built isn't known
abbrev pub widened : Held → Held
widened H.Nothing = H.Nothing
widened (H.Scalar t) = H.Scalar t
widened (H.Owned t b) = H.Owned t None
widened (H.Lent t root) = H.Lent t root
widened (H.Credit n) = H.Credit n
widened (H.Bare t c) = H.Bare t c

abbrev pub wide : Known → Known
wide k = record k { held = map widened k.held }

abbrev pub wide_at : Holding → Holding
wide_at g r = widened (g r)

-- the variable that a scrutinee is
abbrev pub variable_of : Argument → Option (Option ℕ)
variable_of (Variable x n p) = Some x
variable_of (Literal i p) = None
variable_of (Constructor t d n m p as') = None

abbrev pub clause_patterns : Clauses → List Pattern
clause_patterns NoClauses = []
clause_patterns (MoreClauses q b cs) = q ∷ clause_patterns cs

-- where the scrutinee in register r was just built, this is forgotten
abbrev pub Forgets : PlainCode → PlainFunction → ℕ → Known → ℕ → Known → Type 0
Forgets c f at k r l =
    ((l ≡ k) × ((t d : ℕ) → held_at k.held r ≡ H.Owned t (Some d) → ⊥)) ⊎ ((l ≡ wide k) × Catches f at (reported c l))

-- constructors that were built are of their types
pub record BuiltRight (w : Table) (h : Held) : Type 0 where
  pub there : (t d : ℕ) → h ≡ H.Owned t (Some d) → d < count w t

-- A match of variable x, of type t, begins: l is known where its tests begin. Constructors that were built, and those
-- of its patterns, are of their types.
pub record MatchBegins (c : PlainCode) (f : PlainFunction) (at : ℕ) (k : Known) (x : Option ℕ) (t : ℕ) (ch : Choice)
    (l : Known) : Type 0 where
  pub named : register_of k.names x ≡ Some (register ch.root)
  pub type : ch.type ≡ t
  pub known : Known
  pub forgets : Forgets c f at k (register ch.root) known
  pub built : (r : ℕ) → BuiltRight c.types (held_at k.held r)
  pub next : ℕ
  pub is : l ≡ record known { next = next }
  pub more : known.next ≤ next
  pub few : next ≤ f.registers
  pub fresh : (z : ℕ) → Among z (below ch.root) → (known.next ≤ z) × (z < next)
  pub differ : Differ ch.root
  pub roomy : (i : ℕ) (q : Pattern) → slice_get ch.patterns i ≡ Some q → Roomy q ch.root
  pub typed : (i : ℕ) (q : Pattern) → slice_get ch.patterns i ≡ Some q → IsPattern c.types ch.type (row_of q)

-- what is known at the entry of a clause, where registers up to n are used
abbrev pub entered : Setting → Choice → Pattern → Known → ℕ → Known
entered st ch q k n = wide (entering_root st ch.takes q ch.root (record k { next = n }))

-- the entry of clause i
pub record EntryLaid (c : PlainCode) (st : Setting) (f : PlainFunction) (ch : Choice) (k : Known) (i : ℕ) (q : Pattern)
    (at n : ℕ) : Type 0 where
  pub place : slice_get ch.entries i ≡ Some at
  pub more : k.next ≤ n
  pub enters : ((0 < at) × Catches f at (reported c (entered st ch q k n)))
      ⊎ ((at ≡ 0) × ((r : ℕ) → reported c k r ≡ reported c (entered st ch q k n) r))

-- The match of a scrutinee of type t, by clauses with these patterns: the tests that choose its first clause are from
-- `at` to `end`, where the body of that clause begins.
pub record MatchLaid (c : PlainCode) (st : Setting) (f : PlainFunction) (at : ℕ) (k : Known) (destructive : Bool)
    (t : ℕ) (a : Argument) (q : Pattern) (cs : Clauses) (ch : Choice) (l : Known) (end : ℕ) : Type 0 where
  pub variable : Option ℕ
  pub is_variable : variable_of a ≡ Some variable
  pub begins : MatchBegins c f at k variable t ch l
  pub takes : ch.takes ≡ (destructive && not (is_scalar st t))
  pub patterns : ch.patterns ≡ q ∷ clause_patterns cs
  pub mid : ℕ
  pub more : ℕ
  pub first : ChunkLaid c f (held_at l.held) ch at (Open []) [] (reported c l) mid
  pub sides : SidesLaid c f (wide_at (held_at l.held)) ch more mid end
