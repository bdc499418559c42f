use Rattle.std.proofs.Common.{◌≡◌, [], map, drop}
use Rattle.fip_base.specs.CoreView.{binding, block, block_of, clauses, expression}
use Rattle.fip_base.specs.declared.core_form.Block.{out-Block}
use Rattle.closed_types.specs.MentionsView.{heard, hears_block, hears_clauses}
use Rattle.closed_types.specs.DeclaredView.{declared_with}
use Rattle.closed_types.proofs.mentions.Mentions.+blocks.Given as goal

abbrev pub invariant-add_clauses-loop-clause : goal.invariant-add_clauses-loop-clause
invariant-add_clauses-loop-clause l = hears_clauses (declared_with l.decls []) (heard l.self) (clauses (drop l.clause-index l.clauses)) ≡ hears_clauses (declared_with l.decls []) (heard l.initial.self) (clauses l.clauses)

abbrev pub invariant-add_block-loop-binding : goal.invariant-add_block-loop-binding
invariant-add_block-loop-binding l = hears_block (declared_with l.decls []) (heard l.self) (block_of (map binding (drop l.binding-index l.binding-items)) (expression (out-Block l.block).last)) ≡ hears_block (declared_with l.decls []) (heard l.initial.self) (block l.block)
