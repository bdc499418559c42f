-- The code of `rev` is laid out as its program requires, and what acceptance gives beside typing and derivations holds.
use Rattle.std.proofs.Common.{◌≡◌, ℕ, zero, suc, Some, slice_get, refl, subst, arith}
use Rattle.std.proofs.lemmas.Option.{none-some, same_Some}
use Rattle.separation.specs.fip_language.Table as T
use Rattle.lowering_relation.specs.instance_semantics.Example.{lists, rev}
use Rattle.separation.specs.cell_code.Plain.{PlainFunction, function_at}
use Rattle.lowering_relation.specs.LoweredExample.{lists_setting}
use Rattle.lowering_relation.specs.Known.{joined}
use Rattle.lowering_relation.specs.LoweredBodies.{function_of}
use Rattle.lowering_relation.specs.Values.{is_scalar}
use Rattle.lowering_relation.specs.LoweredFunctions.{IsSettingOf}
use Rattle.lowering_soundness.specs.Accepted.{IsWithinLimits}
use Rattle.lowering_soundness.specs.Built.{BuildsBlock}
use Rattle.lowering_relation.specs.Standing.{MapsStand}
use Rattle.lowering_relation.specs.LaidExample.{lists_code, reversing}
use Rattle.lowering_relation.specs.LaidFunctions.{IsLaid, AreLaid}
use Rattle.lowering_relation.proofs.LaidReversing.{rev_is_laid}

scalar_same : (t : ℕ) → is_scalar lists_setting t ≡ T.is_scalar lists.types t
scalar_same zero = refl
scalar_same (suc zero) = refl
scalar_same (suc (suc zero)) = refl
scalar_same (suc (suc (suc t))) = refl

function_same : (g : ℕ) → joined (slice_get lists_setting.functions g) ≡ function_of lists.instances g
function_same zero = refl
function_same (suc zero) = refl
function_same (suc (suc zero)) = refl
function_same (suc (suc (suc g))) = refl

setting : IsSettingOf lists lists_setting
setting = record { scalar = scalar_same; functions = function_same; instances = refl; types = refl }

each : (n : ℕ) (f : PlainFunction) → function_at lists_code n ≡ Some f → IsLaid lists_code lists_setting lists n f
each zero f h = subst (IsLaid lists_code lists_setting lists 0) (same_Some reversing f h) (record { number = 0; instance = rev; there = refl; function = refl; kind = refl; laid = rev_is_laid })
each (suc n) f h = absurd (none-some f h)

pub lists_are_laid : AreLaid lists_code lists_setting lists
lists_are_laid = record { setting = setting; each = each }

rev_stands : MapsStand reversing
rev_stands = record { rising = (omega arith, omega arith, (omega arith, omega arith, (omega arith, omega arith, tt))); opens = (refl, (refl, (refl, tt))) }

pub rev_within : IsWithinLimits lists_code reversing rev
rev_within = record { registers = omega arith; results = omega arith; few_results = omega arith; few_credits = omega arith; sizes = refl; maps = rev_stands }

pub rev_builds : BuildsBlock lists.types rev.body
rev_builds = (tt, ((tt, ((refl, (tt, (tt, tt))), tt)), tt))
