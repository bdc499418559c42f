use Rattle.std.proofs.Common.{◌∙◌, List, map, ap}
use Rattle.fip_base.specs.fip_language.declared.Place.{Place}
use Rattle.fip_base.specs.fip_language.declared.FunKind.{FunKind}
use Rattle.fip_base.specs.fip_language.declared.CreditMark.{CreditMark}
use Rattle.fip_base.specs.fip_language.Core as C
use Rattle.fip_base.specs.fip_language.CoreForm as form
use Rattle.fip_base.specs.CoreView as core
use Rattle.fip_base.specs.SurfaceView as surface
use Rattle.fip_core.proofs.WalkFacts.{body_stands}
use Rattle.fip_core.proofs.core_of.core_function.Goals as goal

abbrev function_of : FunKind → List CreditMark → C.Name → Place → List C.Static → List C.Parameter → C.Result → C.Block → C.Function
function_of k cs x p ss ps r b = record { kind = k; credits = cs; name = x; place = p; statics = ss; parameters = ps; result = r; body = b }

pub returns : goal.returns
returns c =
    let f = c.args.f in
    let cs = f.credits.items in
    let ss = map core.static f.statics.items in
    let r = core.result_type f.result in
    let b = core.block c.in_ok-body.body in
    let qs = form.parameters 0 (map surface.parameter f.parameters.items) in
    record {
      same =
          ap (λ x. function_of f.kind cs f.name f.place ss x r b) c.in_ok-parameters.ensures.given
          ∙ ap (λ x. function_of f.kind cs f.name f.place ss qs r x)
          (body_stands c.parameters.new.self.scope c.new.result c.parameters.new.self.next f.parameters.items (surface.block f.body) b
          c.new.ensures.empty c.in_ok-parameters.ensures.scope c.in_ok-parameters.ensures.next c.in_ok-body.ensures.given);
    }
