use Rattle.std.proofs.Common.{rules, ◌++◌}
use Rattle.match_knowledge.specs.View.{parts}
use Rattle.match_cover.specs.PatternText.{parts_text}
use Rattle.match_cover.proofs.PatternTexts.{part_put, all_put}
use Rattle.match_cover.proofs.missing.+text.Goals as goal

pub put_parts-loop-j-preserved : goal.put_parts-loop-j-preserved
put_parts-loop-j-preserved t c = part_put c.args.types.now c.args.ps.now c.loop-j.j c.index-ps-j.result c.loop-j.text.items c.put_sign.new.text.items c.put_pattern.new.text.items (c.args.text.now.items ++ parts_text c.args.types.now (parts c.args.ps.now)) (search rules) c.index-ps-j.is c.in_ok-put_sign.ensures c.in_ok-put_pattern.ensures c.loop-j.invariant

pub put_parts-returns : goal.put_parts-returns
put_parts-returns t c = all_put c.put_end.result c.args.types.now c.args.ps.now c.loop-j.j c.loop-j.text.items c.put_end.new.text.items (c.args.text.now.items ++ parts_text c.args.types.now (parts c.args.ps.now)) (search rules) (search rules) c.put_end.ensures c.loop-j.invariant
