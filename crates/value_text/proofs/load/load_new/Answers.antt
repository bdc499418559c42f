use Rattle.std.proofs.Common.{◌≡◌, length, sym, ap, ◌∙◌, subst}
use Rattle.std.specs.Prelude.{Ok}
use Rattle.cell_store.specs.Made.{Loading}
use Rattle.value_text.specs.Loaded.{types_of}
use Rattle.value_text.specs.Answered.{WholeBuilt}
use Rattle.value_text.proofs.Whole.{loading_is, tried}
use Rattle.value_text.proofs.load.load_new.Goals as goal

pub returns-in-Ok-build_all : goal.returns-in-Ok-build_all
returns-in-Ok-build_all c = λ given first cells released left.
    let tb = c.args.table.now in
    let types = types_of c.args.params.now in
    let credits = c.args.credits.now in
    let bytes = c.args.bytes.now in
    let e = c.new-loader.ensures in
    let now = c.build_all.new.loader in
    let ws = c.in-Ok-build_all.words in
    let same : c.reserve.new.self ≡ first = c.in-Ok.ensures.same ∙ loading_is c.new-loader.result first (e.cells ∙ sym cells) (e.released ∙ sym released) (e.left ∙ sym left) in
    let flags : length first.released ≡ length first.cells = ap length released ∙ sym (ap length cells) in
    let flags' : length (c.reserve.new.self).released ≡ length (c.reserve.new.self).cells = subst (λ (l : Loading). length l.released ≡ length l.cells) (sym same) flags in
    tried tb types credits bytes first now ws flags (subst (λ (l : Loading). WholeBuilt tb types credits bytes l now (Ok ws)) same (c.in-Ok-build_all.ensures given flags'))
