-- What a command requires of a source, and what keeps it from that: first the rules of the language, then the entry.
--
-- `exec list.fip3 dup` of a source that breaks E40 at 3:5 is refused by E40; where no rule is broken, by E70 where no
-- root is named dup, and else by E71, since dup is plain and has no code.
use Rattle.std.specs.Prelude.{◌≡◌, ◌⊎◌, ℕ, List, Option, Some, None}
use Rattle.fip_language.specs.declared.FunKind.TheVariants.{Fun}
use Rattle.fip_language.specs.declared.rule.Rule.{Rule}
use Rattle.fip_language.specs.declared.rule.Rule.TheVariants.{E70, E71}
use Rattle.fip_base.specs.declared.refusal.Refusal.{Refusal}
use Rattle.fip_trees.specs.Tree.{Instance, Program}
use Rattle.command_outcome.specs.declared.failure.Failure.{Failure}
use Rattle.command_outcome.specs.declared.failure.Failure.TheVariants as F
use Rattle.program_front.specs.source_report.Report.{IsAccepted, Reports}
use Rattle.command_source.specs.Places.{placed}
use Rattle.command_source.specs.Roots.{root_named}

pub data Wanted : Type 0 where
  -- that it breaks no rule
  Lawful : Wanted
  -- also a root of this name, of any kind, which is evaluated
  Root : (name : List ℕ) → Wanted
  -- also a root of this name that isn't plain, whose code is run
  Compiled : (name : List ℕ) → Wanted

-- ---- what keeps a source from it

-- a rule on the entry, which it names
abbrev pub of_entry : Rule → List ℕ → Refusal
of_entry rule name = record { rule = rule; place = None; size = 0; detail = name }

abbrev pub MissesRoot : Option Instance → List ℕ → Refusal → Type 0
MissesRoot None name r = r ≡ of_entry E70 name
MissesRoot (Some d) name r = ⊥

abbrev pub MissesCode : Option Instance → List ℕ → Refusal → Type 0
MissesCode None name r = r ≡ of_entry E70 name
MissesCode (Some d) name r = (d.kind ≡ Fun) × (r ≡ of_entry E71 name)

-- why an accepted program hasn't what is required
abbrev pub Misses : Wanted → Program → Refusal → Type 0
Misses Lawful p r = ⊥
Misses (Root name) p r = MissesRoot (root_named name p.instances) name r
Misses (Compiled name) p r = MissesCode (root_named name p.instances) name r

-- The source's report as it is reported: with the line and the column of its offset.
abbrev pub IsReport : List ℕ → Refusal → Type 0
IsReport source r = (q : Refusal) × Reports source q × (r ≡ placed source q)

-- The source is refused: this is its report; or it has none, and misses what is required.
abbrev pub Refuses : List ℕ → Wanted → Refusal → Type 0
Refuses source w r = IsReport source r ⊎ ((p : Program) × IsAccepted source p × Misses w p r)

-- ---- a source that has it

abbrev pub IsRoot : Option Instance → Type 0
IsRoot None = ⊥
IsRoot (Some d) = Unit {0}

abbrev pub IsCompiled : Option Instance → Type 0
IsCompiled None = ⊥
IsCompiled (Some d) = d.kind ≡ Fun → ⊥

abbrev pub Has : Wanted → Program → Type 0
Has Lawful p = Unit {0}
Has (Root name) p = IsRoot (root_named name p.instances)
Has (Compiled name) p = IsCompiled (root_named name p.instances)

-- The source breaks no rule, and has what is required.
pub record IsReady (source : List ℕ) (w : Wanted) : Type 0 where
  pub program : Program
  pub accepted : IsAccepted source program
  pub has : Has w program

-- ---- what is said in its place

-- A refusal of which this is said, or that memory ran out.
abbrev pub IsRefusedBy : (Refusal → Type 0) → Failure → Type 0
IsRefusedBy Says (F.Refused r) = Says r
IsRefusedBy Says F.NoMemory = Unit {0}
IsRefusedBy Says failure = ⊥

-- What is said in place of what is required, or that memory ran out.
abbrev pub KeepsFrom : List ℕ → Wanted → Failure → Type 0
KeepsFrom source w failure = IsRefusedBy (Refuses source w) failure
