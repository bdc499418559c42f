-- The functions of a program's instances are small.
use Rattle.std.proofs.Common.{◌≡◌, sym, ap, ◌∙◌, subst, arith, refl, ℕ, zero, suc, ◌+◌, ◌*◌, ◌≤◌, Bool, List, [], ◌∷◌, ◌++◌, length, map, Some, slice_get, true}
use Rattle.fip_trees.specs.declared.groups.Member.{Member}
use Rattle.fip_trees.specs.Tree.{Instance, Program}
use Rattle.cell_code.specs.declared.code.Function.{Function}
use Rattle.cell_code.specs.declared.code.Instr.{Instr}
use Rattle.cell_code.specs.declared.kind.Label.{Label}
use Rattle.lower_parts.specs.lowering_relation.Known.{Known}
use Rattle.lower_parts.specs.lowering_relation.Values.{Setting}
use Rattle.lower_parts.specs.lowering_relation.LoweredBodies.{Return}
use Rattle.lower_parts.specs.lowering_relation.LoweredFunctions.{IsSettingOf, known_at_start}
use Rattle.lower_parts.specs.lowering_relation.Written.{Written, size, settled, place_of}
use Rattle.lower_parts.specs.lowering_relation.WellMatched.{WellMatchedBlock, IsWellMatched}
use Rattle.lower_parts.specs.code_size.Bounds.{most_for}
use Rattle.lower_parts.specs.code_size.Places.{block_places}
use Rattle.cell_lower.specs.Limits.{registers}
use Rattle.lower_parts.specs.lower_frame.Labels.{labels}
use Rattle.lower_parts.specs.Growth.{Adds}
use Rattle.lower_parts.specs.Writing.{WritesBlock}
use Rattle.cell_lower.specs.Sizes.{IsSmall, AreSmall}
use Rattle.cell_lower.specs.Small.{IsSmallOf, HaveSmall, AddsSmall, small_at}
use Rattle.lower_parts.proofs.Shedding.{start_length}
use Rattle.cell_lower.proofs.Programs.{at_place}
use Rattle.cell_lower.proofs.Instances.{each_added}

-- one function

pub settled_length : (to : ℕ → ℕ) (is : List Instr) → length (map (settled to) is) ≡ length is
settled_length to [] = refl
settled_length to (i ∷ is) = ap suc (settled_length to is)

pub small_of : (s s' : Setting) (n : ℕ) (d : Instance) (k l : Known) (v w : Written) (code : List Instr) (ls : List Label) (f : Function) → s' ≡ s → k ≡ known_at_start s n d → v ≡ record { instrs = []; places = []; maps = [] } → (WellMatchedBlock s'.types d.body → WritesBlock s' k v d.body Return l w) → code ≡ map (settled (place_of w.places)) w.instrs → length ls ≤ labels w → f.instrs.items ≡ code → f.labels.items ≡ ls → IsSmallOf s n d f
small_of s s' n d k l v w code ls f same e start h c few is js = record {
  by = λ well.
      let written : WritesBlock s k v d.body Return l w = subst (λ (x : Setting). WellMatchedBlock x.types d.body → WritesBlock x k v d.body Return l w) same h well in
      let bound : Adds (most_for n (block_places s.types d.body)) (block_places s.types d.body) v w = subst (λ x. Adds (most_for x (block_places s.types d.body)) (block_places s.types d.body) v w) (ap Rattle.lower_parts.specs.lower_frame.Registers.registers e ∙ start_length s n d) written.few in
      let none : size v ≡ 0 = ap size start in
      let unlabelled : labels v ≡ 0 = ap labels start in
      let long : length f.instrs.items ≡ size w = ap length is ∙ ap length c ∙ settled_length (place_of w.places) w.instrs in
      let marks : length f.labels.items ≡ length ls = ap length js in
      record {
        few_instructions = let x = bound.more_instructions in fits n (block_places s.types d.body) (length f.instrs.items) (size w) (size v) long none x;
        few_labels = let x = bound.more_labels in fit_labels (block_places s.types d.body) (length f.labels.items) (length ls) (labels w) (labels v) marks few unlabelled x;
      };
}
  where
    fits : (n b i w v : ℕ) → i ≡ w → v ≡ 0 → w ≤ v + most_for n b → i ≤ most_for n (suc b)
    fits n b i w v e f g = omega (arith, e, f, g)

    fit_labels : (b i m w v : ℕ) → i ≡ m → m ≤ w → v ≡ 0 → w ≤ v + b → i ≤ 8 * suc b
    fit_labels b i m w v e f g h = omega (arith, e, f, g, h)

-- what an instance that isn't plain adds
pub small_added : (s : Setting) (ms : List Member) (i : ℕ) (b : Bool) (d : Instance) (fs gs : List Function) (f : Function) (r : ℕ) → b ≡ true → registers ms i ≡ r → gs ≡ fs ++ f ∷ [] → IsSmallOf s r d f → AddsSmall s ms i b d fs gs
small_added s ms i b d fs gs f r e n g h = each_added (small_at s ms) i b d fs gs f e g (subst (λ z. IsSmallOf s z d f) (sym n) h)

-- the whole

pub are_small : (p : Program) (s : Setting) (ms : List Member) (fs : List Function) → IsSettingOf p s → HaveSmall s ms p.instances 0 0 fs → IsWellMatched p → AreSmall p ms fs
are_small p s ms fs so h well g n d f at e there =
    subst (λ tb. IsSmall tb (registers ms g) d f) so.types (subst (λ z. IsSmall s.types (registers ms z) d f) (none_more g)
    ((h.by g n d f e at (ap (slice_get fs) (none_more n) ∙ there)).by (subst (λ tb. WellMatchedBlock tb d.body) (sym so.types) (at_place (λ (x : Instance). WellMatchedBlock p.types x.body) p.instances g d well at))))
  where
    none_more : (a : ℕ) → 0 + a ≡ a
    none_more a = omega arith
