-- The label maps of an instance's function are formed.
use Rattle.std.proofs.Common.{◌≡◌, ℕ, ◌<◌, Bool, true, ◌&&◌, List, [], ◌∷◌, length, Some, refl, ◌∙◌, arith, nat_lt, ◌==◌}
use Rattle.separation.specs.cell_code.declared.kind.Kind.{Kind}
use Rattle.separation.specs.fip_language.Table.{Table}
use Rattle.derivation_making.specs.fip_rules.World as R
use Rattle.lowering_relation.specs.fip_trees.Tree.{Instance}
use Rattle.derivation_making.specs.ownership_agreement.Bodies.{body_term, borrowed_parameters, owned_parameters}
use Rattle.derivation_making.specs.ownership_calculus.Functions.{Derived}
use Rattle.derivation_making.specs.type_check.Typing.{Typed}
use Rattle.derivation_making.specs.type_check.World as W
use Rattle.separation.specs.cell_code.Plain.{LabelMap, PlainFunction, PlainCode}
use Rattle.separation.specs.code_rules.Codes.{label_at}
use Rattle.separation.specs.code_rules.Headers.{are_sizes, are_good_kinds, are_good_maps}
use Rattle.separation.specs.code_rules.Tables.{AreSoundTables}
use Rattle.separation.proofs.separation_kinds.Basics.{chosen, refused, equal_is, itself, unequal_is, below_is}
use Rattle.lowering_relation.specs.LoweredFunctions.{known_at_start}
use Rattle.lowering_relation.specs.Values.{Setting}
use Rattle.lowering_relation.specs.LaidFunctions.{FunctionLaid}
use Rattle.lowering_soundness.specs.Built.{BuildsBlock}
use Rattle.lowering_soundness.specs.Functions.{IsNumbered}
use Rattle.lowering_soundness.specs.Laid.{Shares}
use Rattle.lowering_soundness.specs.Placed.{ParamsTyped, Callees}
use Rattle.lowering_relation.specs.Standing.{AreRising, MapsStand}
use Rattle.lowering_soundness.proofs.Formed.{start_formed}
use Rattle.lowering_soundness.proofs.Functions.{function_begins}
use Rattle.lowering_soundness.proofs.Giving.{and_to}
use Rattle.lowering_soundness.proofs.Mapping.{block_ends_right}
use Rattle.lowering_soundness.proofs.Labelled.{Labelled}
use Rattle.lowering_soundness.proofs.Shaped.{IsRight, right_good}

label_here : (m : LabelMap) (ms : List LabelMap) → label_at (m ∷ ms) m.at ≡ Some m.kinds
label_here m ms = chosen (m.at == m.at) (Some m.kinds) (label_at ms m.at) (itself m.at)

label_later : (m : LabelMap) (ms : List LabelMap) (p : ℕ) → m.at < p → label_at (m ∷ ms) p ≡ label_at ms p
label_later m ms p low = refused (m.at == p) (Some m.kinds) (label_at ms p) (unequal_is m.at p (λ e. (let z : ⊥ = omega (arith, low, e) in z)))

-- maps that are after one another, each of which is formed
maps_good : (w : Table) (f : PlainFunction) → Labelled f (IsRight w f.registers) 0 (length f.instrs) → (low : ℕ) (ms : List LabelMap) → AreRising (length f.instrs) low ms → ((p : ℕ) (map : List Kind) → low < p → label_at ms p ≡ Some map → label_at f.labels p ≡ Some map) → are_good_maps w f low ms ≡ true
maps_good w f all low [] rising there = refl
maps_good w f all low (m ∷ ms) rising there =
    let before = rising.0 in
    let right = all m.at m.kinds (omega arith) rising.1 (there m.at m.kinds before (label_here m ms)) in
    and_to (nat_lt low m.at) (nat_lt m.at (length f.instrs) && ((length m.kinds == f.registers) && (are_good_kinds w m.kinds 0 m.kinds && are_good_maps w f m.at ms))) (below_is low m.at before)
    (and_to (nat_lt m.at (length f.instrs)) ((length m.kinds == f.registers) && (are_good_kinds w m.kinds 0 m.kinds && are_good_maps w f m.at ms)) (below_is m.at (length f.instrs) rising.1)
    (and_to (length m.kinds == f.registers) (are_good_kinds w m.kinds 0 m.kinds && are_good_maps w f m.at ms) (equal_is (length m.kinds) f.registers right.wide)
    (and_to (are_good_kinds w m.kinds 0 m.kinds) (are_good_maps w f m.at ms) (right_good w f.registers m.kinds right)
    (maps_good w f all m.at ms rising.2 (λ p map low' e. there p map (omega (arith, before, low')) (label_later m ms p low' ∙ e))))))

module _ (c : PlainCode) (f : PlainFunction) (st : Setting) (wd : W.World) (w : R.World) (fip : Bool) (shares : Shares c st wd) (callees : Callees c st wd w) (tables : AreSoundTables c) where
  pub maps_formed : (d : Instance) → FunctionLaid c st fip f d → IsNumbered w d → Typed true wd d → ParamsTyped c d.params → Derived fip (borrowed_parameters w 0 d.params d.binders) (owned_parameters w 0 d.params d.binders) d.credits (body_term w d) → BuildsBlock c.types d.body → are_sizes d.credits ≡ true → MapsStand f → are_good_maps c.types f 0 f.labels ≡ true
  maps_formed d laid num typed params derived builds sizes stand = maps_good c.types f all 0 f.labels stand.rising (λ p map low e. e)
    where
      all : Labelled f (IsRight c.types f.registers) 0 (length f.instrs)
      all =
          function_begins c f st wd w fip shares callees (Labelled f (IsRight c.types f.registers) 0 (length f.instrs)) d laid num typed params derived
          (λ s sc n B K placed P typed derives numbered below unkept none ties names width.
          block_ends_right c f st wd w fip shares callees d.variables tables stand.opens s sc n B K placed P 0 (known_at_start st f.registers d) d.body (length f.instrs) laid.after true d.results laid.body typed derives numbered below unkept none ties names width
          (start_formed c st wd w shares callees tables f.registers d params sizes) builds)
