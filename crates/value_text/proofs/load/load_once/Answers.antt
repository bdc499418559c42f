use Rattle.std.proofs.Common.{refl, sym, subst}
use Rattle.std.specs.Prelude.{Err}
use Rattle.value_text.specs.declared.build.Stopped.{Stopped}
use Rattle.value_text.specs.Loaded.{types_of}
use Rattle.value_text.specs.Answered.{IsTried}
use Rattle.value_text.proofs.load.load_once.Goals as goal

pub returns-in-Err-BadValue : goal.returns-in-Err-BadValue
returns-in-Err-BadValue c = λ given. (refl, subst (λ (e : Stopped). IsTried c.args.table.now (types_of c.args.params.now) c.args.credits.now c.args.bytes.now c.args.loader (Err e)) c.in-Err-BadValue.field-0-is (c.in-Err-BadValue.ensures given c.args.loader c.requires.cells c.requires.released (sym c.left-words.ensures.left)))
