use Rattle.value_text.specs.Loaded.{types_of}
use Rattle.value_text.proofs.Public.{answer_loads, answer_order, answer_complete, answer_full, answer_too_small, answer_place, answer_outside}
use Rattle.value_text.proofs.load.load_values.Goals as goal

pub returns-clause-loads : goal.returns-clause-loads
returns-clause-loads c = λ given. answer_loads c.args.table.now (types_of c.args.params.now) c.args.credits.now c.args.bytes.now given c.args.loader c.load_all.result (c.load_all.ensures given)

pub returns-clause-order : goal.returns-clause-order
returns-clause-order c = λ given free. answer_order c.args.table.now (types_of c.args.params.now) c.args.credits.now c.args.bytes.now given c.args.loader free c.load_all.result (c.load_all.ensures given)

pub returns-clause-complete : goal.returns-clause-complete
returns-clause-complete c = λ given. answer_complete c.args.table.now (types_of c.args.params.now) c.args.credits.now c.args.bytes.now given c.args.loader c.load_all.result (c.load_all.ensures given)

pub returns-clause-full : goal.returns-clause-full
returns-clause-full c = λ given. answer_full c.args.table.now (types_of c.args.params.now) c.args.credits.now c.args.bytes.now given c.args.loader c.load_all.result (c.load_all.ensures given)

pub returns-clause-too_small : goal.returns-clause-too_small
returns-clause-too_small c = λ given. answer_too_small c.args.table.now (types_of c.args.params.now) c.args.credits.now c.args.bytes.now given c.args.loader c.load_all.result (c.load_all.ensures given)

pub returns-clause-place : goal.returns-clause-place
returns-clause-place c = λ given. answer_place c.args.table.now (types_of c.args.params.now) c.args.credits.now c.args.bytes.now given c.args.loader c.load_all.result (c.load_all.ensures given)

pub returns-clause-outside : goal.returns-clause-outside
returns-clause-outside c = λ given. answer_outside c.args.table.now (types_of c.args.params.now) c.args.credits.now c.args.bytes.now given c.args.loader c.load_all.result (c.load_all.ensures given)
