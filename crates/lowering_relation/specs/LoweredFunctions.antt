-- It serves the proofs on lowered code: which instructions are those of an instance, and which code is that of a
-- program.
-- The parameters are in the first registers, and the header's credits in the next ones.
use Rattle.std.specs.Prelude.{◌≡◌, ℕ, suc, ◌&&◌, not, ◌==◌, List, [], ◌∷◌, ◌++◌, Option, Some, None, map}
use Rattle.std.specs.Prelude.{replicate, slice_get, slice_set, if◌then◌else◌}
use Rattle.tree_semantics.specs.fip_language.Table as T
use Rattle.credit_check.specs.fip_base.declared.plain.Param.{Param}
use Rattle.credit_check.specs.fip_trees.declared.program.Binder.{Binder}
use Rattle.credit_check.specs.fip_trees.Tree.{Instance, Program}
use Rattle.code_rules.specs.cell_code.declared.code.Instr.{Instr}
use Rattle.lowering_relation.specs.declared.held.Held.{Held}
use Rattle.lowering_relation.specs.declared.held.Held.TheVariants as H
use Rattle.lowering_relation.specs.Known.{Known, joined, named}
use Rattle.lowering_relation.specs.Values.{Setting, is_scalar}
use Rattle.lowering_relation.specs.LoweredBodies.{Return, given, function_of, BlockAt}

abbrev pub param_held : Setting → Param → Held
param_held s p = if p.lent && not (is_scalar s p.ty) then H.Lent p.ty None else given s p.ty

-- a parameter is in the next register
abbrev pub with_param : Setting → Known → Param → Binder → Known
with_param s k p b = record {
  held = slice_set k.held k.next (param_held s p);
  credits = k.credits;
  names = named k.names b.number k.next;
  next = suc k.next;
}

abbrev pub with_params : Setting → Known → List Param → List Binder → Known
with_params s k [] bs = k
with_params s k (p ∷ ps) [] = k
with_params s k (p ∷ ps) (b ∷ bs) = with_params s (with_param s k p b) ps bs

-- no variable has this register
abbrev pub unless_in : ℕ → Option ℕ → Option ℕ
unless_in r None = None
unless_in r (Some q) = if q == r then None else Some q

-- a credit of size n is in register r
abbrev pub with_credit : Known → ℕ → ℕ → Known
with_credit k n r = record {
  held = slice_set k.held r (H.Credit n);
  credits = k.credits ++ (record { size = n; register = r } ∷ []);
  names = map (unless_in r) k.names;
  next = k.next;
}

-- one is in the next register
abbrev pub with_next_credit : Known → ℕ → Known
with_next_credit k n = with_credit (record k { next = suc k.next }) n k.next

abbrev pub with_credits : Known → List ℕ → Known
with_credits k [] = k
with_credits k (n ∷ ns) = with_credits (with_next_credit k n) ns

abbrev pub nothing_known : ℕ → ℕ → Known
nothing_known registers variables = record {
  held = replicate registers H.Nothing;
  credits = [];
  names = replicate variables None;
  next = 0;
}

-- what is known at the start of the function of an instance, which has n registers
abbrev pub known_at_start : Setting → ℕ → Instance → Known
known_at_start s n d = with_credits (with_params s (nothing_known n d.variables) d.params d.binders) d.credits

-- what the functions of a program share is so
pub record IsSettingOf (program : Program) (s : Setting) : Type 0 where
  pub scalar : (t : ℕ) → is_scalar s t ≡ T.is_scalar program.types t
  pub functions : (g : ℕ) → joined (slice_get s.functions g) ≡ function_of program.instances g
  pub instances : s.instances ≡ program.instances
  pub types : s.types ≡ program.types

-- the instructions of the function of an instance, which has n registers
pub record IsFunction (s : Setting) (n : ℕ) (code : List Instr) (d : Instance) : Type 0 where
  pub end : ℕ
  pub after : Known
  pub body : BlockAt s code 0 (known_at_start s n d) d.body Return end after

-- A list of instructions for each function, in the order of their numbers: they are those of the program's instances.
pub record AreLowered (program : Program) (functions : List (List Instr)) : Type 0 where
  pub setting : Setting
  pub so : IsSettingOf program setting
  pub of : (g f : ℕ) (d : Instance) → function_of program.instances g ≡ Some f →
      slice_get program.instances g ≡ Some d →
      (n : ℕ) × (code : List Instr) × (slice_get functions f ≡ Some code) × IsFunction setting n code d
