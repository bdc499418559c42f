-- It serves the proof that lowered code is sound: what the labels of a function report, and which are in a straight
-- part of its code.
use Rattle.std.specs.Prelude.{◌≡◌, ℕ, ◌<◌, true, List, Some, None, length}
use Rattle.code_rules.specs.cell_code.declared.kind.Kind.{Kind}
use Rattle.code_rules.specs.cell_code.Plain.{PlainFunction, PlainCode}
use Rattle.code_rules.specs.Codes.{label_at}
use Rattle.code_rules.specs.Kinds.{at}
use Rattle.code_rules.specs.Fitting.{fits}
use Rattle.lowering_relation.specs.Known.{Known}
use Rattle.lowering_relation.specs.Describing.{held_at, kinds_of}

-- the narrowest kinds where this is known
abbrev pub reported : PlainCode → Known → ℕ → Kind
reported c k = kinds_of c.types (held_at k.held)

-- a map takes what is reported
pub record Takes (n : ℕ) (map : List Kind) (m : ℕ → Kind) : Type 0 where
  pub wide : length map ≡ n
  pub each : (r : ℕ) → fits (at map r) (m r) ≡ true

-- a label is at p and takes these kinds
pub record Catches (f : PlainFunction) (p : ℕ) (m : ℕ → Kind) : Type 0 where
  pub map : List Kind
  pub there : label_at f.labels p ≡ Some map
  pub takes : Takes f.registers map m

-- a map reports just these kinds
pub record Reports (n : ℕ) (map : List Kind) (m : ℕ → Kind) : Type 0 where
  pub wide : length map ≡ n
  pub each : (r : ℕ) → at map r ≡ m r

-- a label at p reports just these kinds
abbrev pub Shows : PlainFunction → ℕ → (ℕ → Kind) → Type 0
Shows f p m = (map : List Kind) → label_at f.labels p ≡ Some map → Reports f.registers map m

-- From a up to b no label is after a, and one at a reports just these kinds.
pub record Quiet (f : PlainFunction) (a b : ℕ) (m : ℕ → Kind) : Type 0 where
  pub first : a < b → Shows f a m
  pub others : (p : ℕ) → a < p → p < b → label_at f.labels p ≡ None
