-- Only what this crate keeps while a cell is taken apart: for each register that is lent the heir that it was seen to
-- reach; and what is made of each register in turn.
use Rattle.std.specs.Prelude.{◌≡◌, ℕ, suc, Bool, true, false, ◌||◌, is_some, List, [], ◌∷◌, Option, Some, None}
use Rattle.std.specs.Prelude.{◌<◌, length, set, if◌then◌else◌, ◌==◌, nat_lt}
use Rattle.kind_domain.specs.fip_language.Table.{Table}
use Rattle.kind_domain.specs.cell_code.declared.kind.From.{From}
use Rattle.kind_domain.specs.cell_code.declared.kind.Kind.{Kind}
use Rattle.kind_domain.specs.code_rules.Kinds.{at, has, from_of, is_lent_of}
use Rattle.kind_domain.specs.code_rules.Changes.{forget}
use Rattle.kind_domain.specs.code_rules.Taking.{Part, Reaches, IsReached, part, is_heir, ends, fate, part_kind, credit}
use Rattle.register_kinds.specs.declared.take.Piece.{Piece}
use Rattle.kind_domain.specs.Leading.{Gathers, is_lent, kept_at, leads}
use Rattle.kind_domain.specs.Owners.{root_by, swapped}

-- the part that a piece stands for
abbrev pub as_part : Option Piece → Option Part
as_part None = None
as_part (Some p) = Some (record { field = p.field; ty = p.ty })

-- the heir that a register of this kind was seen to reach; none but a lent one reaches any
abbrev pub seen_by : List (Option ℕ) → ℕ → Kind → Option ℕ
seen_by os q k = if is_lent k then kept_at os q else None

abbrev pub seen_at : List Kind → List (Option ℕ) → ℕ → Option ℕ
seen_at ks os q = seen_by os q (at ks q)

-- the heir that is the register of a from, or that this was seen to reach
abbrev pub next_by : List Kind → (ℕ → Bool) → List (Option ℕ) → Option From → Option ℕ
next_by ks heir os None = None
next_by ks heir os (Some f) = if heir f.register then Some f.register else seen_at ks os f.register

abbrev pub next_at : List Kind → (ℕ → Bool) → List (Option ℕ) → ℕ → Option ℕ
next_at ks heir os q = next_by ks heir os (from_of (at ks q))

-- Each heir that is kept is reached.
abbrev pub AreReached : List Kind → (ℕ → Bool) → List (Option ℕ) → Type 0
AreReached ks heir os = (q d : ℕ) → seen_at ks os q ≡ Some d → Reaches ks heir q d

-- A list has each register that leads to one of the ds, and all registers of another, which has each that leads to
-- register r, to an heir, or to one in it.
pub record GathersParts (ks : List Kind) (r : ℕ) (heir : ℕ → Bool) (ds qs : List ℕ) : Type 0 where
  pub inner : List ℕ
  pub gathers : Gathers ks r inner
  pub heirs : (p q : ℕ) → heir p ≡ true → leads p (at ks q) ≡ true → has inner q ≡ true
  pub parts : (p q : ℕ) → has ds p ≡ true → leads p (at ks q) ≡ true → has qs q ≡ true
  pub inside : (q : ℕ) → has inner q ≡ true → has qs q ≡ true

-- None of these registers that reaches no heir yet has one next.
abbrev pub AreSettled : List Kind → (ℕ → Bool) → List (Option ℕ) → List ℕ → Type 0
AreSettled ks heir os qs =
    (q : ℕ) → has qs q ≡ true → kept_at os q ≡ None → next_at ks heir os q ≡ None

abbrev pub nones : List (Option ℕ) → ℕ
nones [] = 0
nones (None ∷ os) = suc (nones os)
nones (Some d ∷ os) = nones os

-- Register q gets a part, or owned the cell.
abbrev pub is_used : ℕ → (ℕ → Option Part) → ℕ → Bool
is_used r parts q = is_some (parts q) || (q == r)

-- a register of kind k that isn't used, once it forgets a from that names one of some registers
abbrev pub forgotten : ℕ → (ℕ → Option Part) → (ℕ → Bool) → ℕ → Kind → Kind
forgotten r parts ended q k = if is_used r parts q then k else forget ended k

-- the root that stands for an heir d until register r and the one that keeps its name, where there is one, change names
abbrev pub stands_for : Option ℕ → ℕ → ℕ → ℕ
stands_for None r d = d
stands_for (Some keeper) r d = swapped r keeper d

-- a register of kind k that isn't used, once it has what stands for the heir that it reaches as root
abbrev pub fated : (ℕ → ℕ) → ℕ → (ℕ → Option Part) → List (Option ℕ) → ℕ → Kind → Kind
fated f r parts os q k = if is_used r parts q then k else fate (root_by f (seen_by os q k)) r k

-- a register of kind k that gets one of the first n parts
abbrev pub filled_by : Table → ℕ → ℕ → Kind → Option Part → Kind
filled_by w r n k None = k
filled_by w r n k (Some p) = if nat_lt p.field n then part_kind w r k p else k

-- Registers that aren't used have what was read through heirs, or are gone; those that get a part get it as before.
pub record IsPassed (w : Table) (ks : List Kind) (r : ℕ) (ds ts : List ℕ) (second : List Kind) : Type 0 where
  pub reached : ℕ → Option ℕ
  pub reaches : (q : ℕ) → IsReached ks (is_heir w ks r (part ds ts)) q (reached q)
  pub long : length second ≡ length ks
  pub used : (q : ℕ) → q < length ks → (p : Part) → part ds ts q ≡ Some p →
      part_kind w r (at second q) p ≡ part_kind w r (at ks q) p
  pub unused : (q : ℕ) → q < length ks → is_used r (part ds ts) q ≡ false →
      at second q ≡ forget (ends w ks r (part ds ts) (length ds) reached) (fate (reached q) r (at ks q))

-- one register after another
abbrev pub in_turn : (ℕ → Kind → Kind) → List Kind → List ℕ → List Kind
in_turn g ks [] = ks
in_turn g ks (q ∷ qs) = in_turn g (set ks q (g q (at ks q))) qs

-- a register of kind k that gets part n
abbrev pub filled_at : Table → ℕ → ℕ → Kind → Option Part → Kind
filled_at w r n k None = k
filled_at w r n k (Some p) = if p.field == n then part_kind w r k p else k

-- The register that owned the cell keeps it as a credit of a size, unless it gets a part.
abbrev pub emptied : List Kind → ℕ → Option Part → ℕ → List Kind
emptied ks r None size = set ks r (credit size)
emptied ks r (Some p) size = ks

-- Kinds that differ at the most in what registers forgot that aren't used.
pub record Alike (r : ℕ) (parts : ℕ → Option Part) (ks start : List Kind) : Type 0 where
  pub used : (q : ℕ) → is_used r parts q ≡ true → at ks q ≡ at start q
  pub lent : (q : ℕ) → is_lent (at ks q) ≡ is_lent (at start q)
  pub root : (q : ℕ) → is_lent_of r (at ks q) ≡ is_lent_of r (at start q)
