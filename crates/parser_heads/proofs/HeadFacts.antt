-- The heads of declarations, with one element more, against those of the machine.
use Rattle.std.proofs.Common.{◌≡◌, ℕ, List, [], ◌∷◌, ◌++◌, map, ap, ◌∙◌}
use Rattle.fip_language.specs.declared.Place.{Place}
use Rattle.fip_language.specs.declared.FunKind.{FunKind}
use Rattle.fip_language.specs.declared.CreditMark.{CreditMark}
use Rattle.fip_language.specs.Core as C
use Rattle.fip_base.specs.CoreView.{written, static, type_name, data_constructor}
use Rattle.fip_base.specs.SurfaceView.{parameter}
use Rattle.fip_base.specs.declared.core_form.Static.{Static}
use Rattle.fip_base.specs.declared.surface.Parameter.{Parameter}
use Rattle.fip_base.specs.declared.core_form.TypeName.{TypeName}
use Rattle.fip_base.specs.declared.core_form.DataConstructor.{DataConstructor}
use Rattle.fip_grammar.specs.Machine as M
use Rattle.parser_state.specs.declared.state.DataHead.{DataHead}
use Rattle.parser_state.specs.declared.state.FunctionHead.{FunctionHead}
use Rattle.parser_state.specs.StateView as view
use Rattle.parser_state.proofs.StateFacts.{map_pushed}

abbrev data_of : List ℕ → Place → List TypeName → List DataConstructor → C.Data
data_of n p ps cs = record { name = n; place = p; parameters = map type_name ps; constructors = map data_constructor cs }

abbrev function_of : FunKind → List CreditMark → List ℕ → Place → List Static → List Parameter → M.FunctionHead
function_of k cs n p ss ps = record { kind = k; credits = cs; name = n; place = p; statics = map static ss; parameters = map parameter ps }

pub one_constructor : (d : DataHead) (v : List DataConstructor) (k : DataConstructor) (fs : List C.Written) → v ≡ d.constructors.items ++ k ∷ [] → map written k.fields.items ≡ fs → data_of d.name d.place d.parameters.items v ≡ M.with_constructor (view.data_head d) (record { name = k.name; place = k.place; fields = fs })
one_constructor d v k fs e f =
    ap (λ x. record { name = d.name; place = d.place; parameters = map type_name d.parameters.items; constructors = x }) (map_pushed data_constructor v d.constructors.items k e)
    ∙ ap (λ x. M.with_constructor (view.data_head d) (record { name = k.name; place = k.place; fields = x })) f

pub one_static : (h : FunctionHead) (v : List Static) (s : Static) → v ≡ h.statics.items ++ s ∷ [] → function_of h.kind h.credits.items h.name h.place v h.parameters.items ≡ M.with_static (view.function_head h) (static s)
one_static h v s e = ap (λ x. record { kind = h.kind; credits = h.credits.items; name = h.name; place = h.place; statics = x; parameters = map parameter h.parameters.items }) (map_pushed static v h.statics.items s e)
