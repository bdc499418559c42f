-- What breaks the rules on credits, and what a refusal says.
use Rattle.std.specs.Prelude.{◌≡◌, ◌<◌, ◌⊎◌, ℕ, suc, Bool, List, [], ◌∷◌}
use Rattle.fip_trees.specs.fip_language.declared.FunKind.{FunKind}
use Rattle.fip_trees.specs.fip_language.declared.FunKind.TheVariants.{Fip, Fbip, Fun}
use Rattle.fip_trees.specs.fip_language.declared.Place.{Place}
use Rattle.fip_trees.specs.fip_language.declared.limits.TheConstants.{MOST_FIELDS}
use Rattle.fip_trees.specs.fip_language.declared.rule.Rule.{Rule}
use Rattle.fip_trees.specs.fip_language.declared.rule.Rule.TheVariants.{E56, E57, E58, E62}
use Rattle.fip_base.specs.declared.refusal.PhaseError.{PhaseError}
use Rattle.fip_base.specs.declared.refusal.PhaseError.TheVariants.{Refused, NoMemory}
use Rattle.fip_trees.specs.declared.least.Violation.{Violation}
use Rattle.fip_trees.specs.Least.{IsLeastOf, refusal, violation}
use Rattle.fip_trees.specs.Tree.{Expression, Give, Tuple, Operation, Call, Match, Nested, Block, Last, Let}
use Rattle.fip_trees.specs.Tree.{Pattern, Clauses, NoClauses, MoreClauses, Instance, Program, pattern_place}
use Rattle.credit_check.specs.Needs.{marked, takes, given, need_block, need_clause}

-- Of some size, from 1 to 16, f is less than g: v says so by this rule, at this place of the instance of number i.
abbrev pub Less : Rule → Place → ℕ → (ℕ → ℕ) → (ℕ → ℕ) → Violation → Type 0
Less r q i f g v = (k : ℕ) × (0 < k) × (k < suc MOST_FIELDS) × (f k < g k) × (v ≡ violation r q i k [])

-- E57: a clause needs less than its pattern gives
abbrev pub Unused : Program → ℕ → Bool → Pattern → Block → Violation → Type 0
Unused p i taken q body v =
    Less E57 (pattern_place q) i (λ k. need_block p k body) (λ k. given k taken q) v

-- E58: one of the clauses needs more or less than the first, of which f reports, less what their patterns give. Where any
-- two clauses differ, one differs from the first.
abbrev pub Differ : Program → Place → ℕ → Bool → (ℕ → ℕ) → Clauses → Violation → Type 0
Differ p q i taken f NoClauses v = ⊥
Differ p q i taken f (MoreClauses r body cs) v =
    (Less E58 q i f (λ k. need_clause p k taken r body) v ⊎ Less E58 q i (λ k. need_clause p k taken r body) f v)
    ⊎ Differ p q i taken f cs v

-- what breaks E57 and E58 in the body of a fip instance
abbrev mutual
  pub Breaks : Program → ℕ → Expression → Violation → Type 0
  Breaks p i (Give a) v = ⊥
  Breaks p i (Tuple q as') v = ⊥
  Breaks p i (Operation o q l r) v = ⊥
  Breaks p i (Call g n q as') v = ⊥
  Breaks p i (Match d t q a r body cs) v =
      (BreaksBlock p i body v ⊎ Unused p i (takes p d t) r body v)
      ⊎ (BreaksClauses p i (takes p d t) cs v
      ⊎ Differ p q i (takes p d t) (λ k. need_clause p k (takes p d t) r body) cs v)
  Breaks p i (Nested b) v = BreaksBlock p i b v

  pub BreaksBlock : Program → ℕ → Block → Violation → Type 0
  BreaksBlock p i (Last e) v = Breaks p i e v
  BreaksBlock p i (Let bs e rest) v = Breaks p i e v ⊎ BreaksBlock p i rest v

  pub BreaksClauses : Program → ℕ → Bool → Clauses → Violation → Type 0
  BreaksClauses p i taken NoClauses v = ⊥
  BreaksClauses p i taken (MoreClauses q body cs) v =
      (BreaksBlock p i body v ⊎ Unused p i taken q body v) ⊎ BreaksClauses p i taken cs v

-- E56: the body needs more than the header marks
abbrev pub Exceeds : Program → ℕ → Instance → Violation → Type 0
Exceeds p i d v = Less E56 d.place i (λ k. marked k d.credits) (λ k. need_block p k d.body) v

-- E62: it needs less
abbrev pub FallsShort : Program → ℕ → Instance → Violation → Type 0
FallsShort p i d v = Less E62 d.place i (λ k. need_block p k d.body) (λ k. marked k d.credits) v

abbrev pub BreaksInstance : Program → ℕ → FunKind → Instance → Violation → Type 0
BreaksInstance p i Fip d v = BreaksBlock p i d.body v ⊎ (Exceeds p i d v ⊎ FallsShort p i d v)
BreaksInstance p i Fbip d v = Exceeds p i d v
BreaksInstance p i Fun d v = ⊥

-- in some instances, numbered from i on
abbrev pub BreaksOne : Program → ℕ → List Instance → Violation → Type 0
BreaksOne p i [] v = ⊥
BreaksOne p i (d ∷ ds) v = BreaksInstance p i d.kind d v ⊎ BreaksOne p (suc i) ds v

-- the violations of a program
abbrev pub Violates : Program → Violation → Type 0
Violates p v = BreaksOne p 0 p.instances v

-- a refusal names the least violation
abbrev pub Says : Program → PhaseError → Type 0
Says p (Refused r) = (v : Violation) × IsLeastOf (Violates p) v × (r ≡ refusal v)
Says p NoMemory = Unit {0}
