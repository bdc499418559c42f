-- The functions of an accepted source's code hold of the stack what is reported of its instances.
-- Idea: they call each other just as the instances do, and their frames have as many words.
use Rattle.std.proofs.Common.{◌≡◌, ℕ, zero, suc, Bool, not, List, [], ◌∷◌, map, length, Option, Some, None, slice_get, refl, sym, ap, ◌∙◌, subst, arith}
use Rattle.std.proofs.lemmas.Option.{none-some, same_Some}
use Rattle.lowering_soundness.specs.fip_trees.declared.groups.Member.{Member}
use Rattle.lowering_soundness.specs.fip_trees.Tree.{Instance, Program}
use Rattle.lowering_soundness.specs.call_groups.CallGraph as G
use Rattle.lowering_soundness.specs.call_groups.CallGraph.{In, call}
use Rattle.lowering_soundness.specs.call_groups.declared.search.Call as C
use Rattle.lowering_soundness.specs.tail_groups.Members.{AreMembers}
use Rattle.lowering_soundness.specs.tail_groups.Registers as T
use Rattle.lowering_soundness.specs.tail_groups.Sites.{Site, called, instance_sites, instance_calls, call_rows}
use Rattle.lowering_soundness.specs.code_rules.Breaks.{IsSound}
use Rattle.lowering_soundness.specs.code_rules.Calls.{Calls}
use Rattle.lowering_soundness.specs.cell_code.Plain.{PlainFunction, PlainCode, function_at}
use Rattle.lowering_soundness.specs.code_rules.StackNumbers.{HasStack}
use Rattle.lowering_soundness.specs.lowering_relation.LoweredBodies.{function_of, has_function, one_more}
use Rattle.lowering_soundness.specs.lowering_relation.Values.{Setting}
use Rattle.lowering_soundness.specs.lowering_relation.LaidFunctions.{AreLaid}
use Rattle.lowering_soundness.proofs.Grouped.{calls_same, function_once, row_of}
use Rattle.lowering_soundness.specs.Alike.{Alike}
use Rattle.lowering_soundness.proofs.Numbers.{has_its_stack}
use Rattle.lowering_soundness.proofs.Reached.{calls_there}
use Rattle.derivation_correctness.specs.cell_lower.LaidProgram.{IsAsked, IsLaidOut}
use Rattle.derivation_correctness.specs.cell_lower.Limits.{registers, registers_of}
use Rattle.derivation_correctness.specs.cell_lower.Shape.{Header}
use Rattle.lowering_soundness.specs.credit_check.Tallies.{all_needs}
use Rattle.derivation_correctness.specs.source_report.Report.{IsAccepted}
use Rattle.derivation_correctness.proofs.source_report.FipCalls as F
use Rattle.compiler_correctness.specs.Headed.{IsHeaded}
use Rattle.compiler_correctness.proofs.SoundnessFunctions.{function_there}
use Rattle.compiler_correctness.proofs.SoundnessWhole.{is_asked, laid_is_sound}
use Rattle.compiler_correctness.proofs.Joined.{instance_at}

-- the call of a site of a row
site_of : (ss : List Site) (i : ℕ) (k : C.Call) → slice_get (map called ss) i ≡ Some k → (s : Site) × In s ss × (called s ≡ k)
site_of [] i k e = absurd (none-some k e)
site_of (s ∷ ss) zero k e = (s, (0, refl), same_Some (called s) k e)
site_of (s ∷ ss) (suc i) k e = let r = site_of ss i k e in (r.0, (suc (r.1).0, (r.1).1), r.2)

-- each instance has a member
missing : (ds : List Instance) (ms : List Member) (i : ℕ) (d : Instance) → length ms ≡ length ds → slice_get ds i ≡ Some d → slice_get ms i ≡ None → ⊥
missing [] ms i d l e n = none-some d e
missing (x ∷ ds) [] i d l e n = omega (arith, l)
missing (x ∷ ds) (m ∷ ms) zero d l e n = none-some m (sym n)
missing (x ∷ ds) (m ∷ ms) (suc i) d l e n = missing ds ms i d (omega (arith, l)) e n

module _ (source : List ℕ) (p : Program) (h : IsAccepted source p) (c : PlainCode) (st : Setting) (headed : IsHeaded p c) (all : AreLaid c st p) (sound : IsSound c) where
  numbered : (i n : ℕ) (f : PlainFunction) (is : function_at c n ≡ Some f) → function_of p.instances (all.each n f is).number ≡ Some n
  numbered i n f is = let l = all.each n f is in sym (all.setting.functions l.number) ∙ l.function

  counted : (g : ℕ) (d : Instance) → slice_get p.instances g ≡ Some d → registers headed.members g ≡ T.registers d
  counted g d there = by (slice_get headed.members g) refl
    where
      by : (o : Option Member) → slice_get headed.members g ≡ o → registers headed.members g ≡ T.registers d
      by None e = absurd (missing p.instances headed.members g d headed.found.size there e)
      by (Some m) e = ap registers_of e ∙ headed.found.counted g d m there e

  -- a call of the program is one of the code
  to_functions : (i j a : ℕ) (waits : Bool) → function_of p.instances i ≡ Some a → G.Calls (call_rows p.instances) i j waits → (b : ℕ) × (function_of p.instances j ≡ Some b) × Calls c a b waits
  to_functions i j a waits e k =
      let d = instance_at p.instances i a e in
      let at = function_there p c headed i a d.0 e d.1 in
      let l = all.each a at.0 at.1 in
      let place : l.number ≡ i = function_once p.instances l.number i a (sym (all.setting.functions l.number) ∙ l.function) e in
      let own : d.0 ≡ l.instance = same_Some d.0 l.instance (sym d.1 ∙ ap (slice_get p.instances) (sym place) ∙ l.there) in
      let there : In (call j waits) (instance_calls l.instance) = subst (λ (x : Instance). In (call j waits) (instance_calls x)) own (subst (In (call j waits)) (row_of p.instances i d.0 d.1) k) in
      let s = site_of (instance_sites l.instance) there.0 (call j waits) there.1 in
      let callee : (s.0).callee ≡ j = ap (λ (k : C.Call). k.callee) s.2 in
      let waiting : not (s.0).is_tail ≡ waits = ap (λ (k : C.Call). k.waits) s.2 in
      let z = calls_there c st p all sound a at.0 at.1 l s.0 s.1 in
      (z.0, ap (function_of p.instances) (sym callee) ∙ sym (all.setting.functions (s.0).callee) ∙ z.1, subst (Calls c a z.0) waiting z.2)

  alike : Alike c p.instances
  alike = record {
    of_function = λ n f is. ((all.each n f is).number, numbered 0 n f is);
    has_function = λ i n d e there. (
        let at = function_there p c headed i n d e there in
        (at.0, at.1, ap (λ (h : Header). h.signature.kind) at.2, ap (λ (h : Header). h.registers) at.2 ∙ counted i d there));
    to_instances = λ i a b waits e k. (
        let z = calls_same c st p all i a b waits (all.setting.functions i ∙ e) k in
        (z.0, sym (all.setting.functions z.0) ∙ z.1, z.2));
    to_functions = to_functions;
  }

pub laid_out_has_stacks : (source : List ℕ) (p : Program) → IsAccepted source p → (c : PlainCode) → IsHeaded p c → (IsAsked p (all_needs p p.instances) → IsLaidOut p c) → (ms : List Member) → AreMembers p.instances ms → (i n : ℕ) (m : Member) → function_of p.instances i ≡ Some n → slice_get ms i ≡ Some m → HasStack c n m.stack
laid_out_has_stacks source p h c headed laid ms found i n m e there =
    let l = laid (is_asked source p h) in
    let sound = laid_is_sound source p h c l.setting headed l.laid l.stand in
    has_its_stack c p.instances ms (alike source p h c l.setting headed l.laid sound) found (F.fip_calls source p h.tailed.credited.owned) i n m e there
