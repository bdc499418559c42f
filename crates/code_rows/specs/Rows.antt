-- For the rows, and for what is proved of verify over them: what a row requires of an instruction, rule by rule, and
-- what it goes on with.
use Rattle.std.specs.Prelude.{◌≡◌, ◌⊎◌, ℕ, Bool, true, false, ◌&&◌, List, [], ◌∷◌, Option, Some, None}
use Rattle.cell_code.specs.declared.code.Instr.{Instr}
use Rattle.cell_code.specs.declared.code.Instr.TheVariants as I
use Rattle.cell_code.specs.declared.kind.Kind.{Kind}
use Rattle.code_rules.specs.declared.rule.SoundRule.{SoundRule}
use Rattle.code_rules.specs.declared.rule.SoundRule.TheVariants.{S2, S3, S5, S6}
use Rattle.cell_code.specs.Plain.{LabelMap, PlainFunction, PlainCode}
use Rattle.code_rules.specs.Codes.{label_at}
use Rattle.code_rules.specs.Kinds.{at, set_of}
use Rattle.code_rules.specs.Changes.{tested, without}
use Rattle.code_rules.specs.Fitting.{fit_all}
use Rattle.code_rules.specs.Asked.{sources, destinations}
use Rattle.code_rules.specs.Leaves.{Leaves}
use Rattle.code_rules.specs.Endings.{is_end, spends_all}

-- a target, and the kinds that reach it
pub record Arrival : Type 0 where
  pub target : ℕ
  pub kinds : List Kind

abbrev pub jumps : List Kind → Instr → Option Arrival
jumps ks (I.Const d v) = None
jumps ks (I.Atom d t k) = None
jumps ks (I.Move d s) = None
jumps ks (I.Arith d op a b line col) = None
jumps ks (I.Test r k target) = Some (record { target = target; kinds = tested ks r (without k (set_of (at ks r))) })
jumps ks (I.TestInt r v target) = Some (record { target = target; kinds = ks })
jumps ks (I.Peek d r i) = None
jumps ks (I.Take r ds) = None
jumps ks (I.Put d t k ss) = None
jumps ks (I.Drop r) = None
jumps ks (I.Free r) = None
jumps ks (I.Call g rs ds) = None
jumps ks (I.Tail g rs) = None
jumps ks (I.Ret rs) = None
jumps ks (I.Jump target) = Some (record { target = target; kinds = ks })

-- They fit the label map of their target, where it has one.
abbrev pub fit_map : Option (List Kind) → List Kind → Bool
fit_map None ks = true
fit_map (Some m) ks = fit_all m ks

abbrev pub fit_at : List LabelMap → ℕ → List Kind → Bool
fit_at maps i ks = fit_map (label_at maps i) ks

-- S5 at a target, where the row is as required
abbrev pub arrives : List LabelMap → Option Arrival → Bool → Bool
arrives maps None asked = true
arrives maps (Some a) false = true
arrives maps (Some a) true = fit_at maps a.target a.kinds

abbrev pub is_asked : PlainCode → PlainFunction → List Kind → Instr → Bool
is_asked c f ks x = sources c f ks x && destinations c ks x

-- S2, S3, S5 at a target, and S6 of an instruction that keeps S1
abbrev pub row_kept : PlainCode → PlainFunction → List Kind → Instr → List (Bool × SoundRule)
row_kept c f ks x =
    (sources c f ks x, S2) ∷ (destinations c ks x, S3) ∷ (arrives f.labels (jumps ks x) (is_asked c f ks x), S5)
    ∷ (spends_all c f ks x, S6) ∷ []

-- The instruction goes on to the next one, with these kinds, or doesn't.
abbrev pub GoesOn : PlainCode → PlainFunction → List Kind → Instr → Bool → List Kind → Type 0
GoesOn c f ks x true left = (is_asked c f ks x ≡ true) × Leaves c ks x left
GoesOn c f ks x false left = (is_asked c f ks x ≡ false) ⊎ (is_end x ≡ true)
