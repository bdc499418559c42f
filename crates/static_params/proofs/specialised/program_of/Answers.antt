use Rattle.std.proofs.Common.{◌∙◌, ap}
use Rattle.static_params.specs.FlatProgram.{Numbers, flat_program}
use Rattle.reached_instances.specs.SourceView as S
use Rattle.reached_instances.proofs.Fitting.{right_kept}
use Rattle.static_params.proofs.PlaceNumbers.{numbers_kept, numbers_more}
use Rattle.static_params.proofs.specialised.program_of.Goals as goal

pub returns : goal.returns
returns c = λ r a.
    let s = c.args.source.now in
    let n = c.args.numbers.now in
    let old = c.args.shared in
    let new = c.table_of.new.shared in
    let g = c.in_ok-types.ensures.grows a in
    let made = c.in_ok-program.ensures in
    let types = made.types ∙ c.in_ok-types.ensures.table a in
    let declaring = made.declaring ∙ c.in_ok-declaring.ensures in
    let instances =
    made.instances
    ∙ c.in_ok-instances.ensures (right_kept s old new g (c.in_ok-types.ensures.fits a) r) (numbers_more n old new g a)
    ∙ ap (λ (m : Numbers). (flat_program (S.source s) m).instances) (numbers_kept n old new g a) in
    λ i. record {
      types = types i;
      declaring = declaring i;
      arities = made.arities i;
      field_counts = made.field_counts i;
      instances = instances i;
    }
