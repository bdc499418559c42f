use Rattle.std.proofs.Common.{codes}
use Rattle.trace_files.proofs.Reported.{live_put}
use Rattle.trace_files.proofs.replay.put_live.Goals as goal

pub returns : goal.returns
returns c = record {
  line = live_put c.args.text.now.items c.extend_from_slice.new.self.items c.put_number.new.text.items c.extend_from_slice-2.new.self.items c.put_number-2.new.text.items c.extend_from_slice-3.new.self.items c.put_words.new.text.items c.push.new.self.items (codes "cell ") (codes ": tag ") (codes " fields") c.args.fields.now c.from.result c.from-2.result c.args.place c.args.tag c.in_ok-extend_from_slice.ensures.items c.from.ensures c.in_ok-put_number.ensures.number c.in_ok-extend_from_slice-2.ensures.items c.from-2.ensures c.in_ok-put_number-2.ensures.number c.in_ok-extend_from_slice-3.ensures.items c.in_ok-put_words.ensures.words c.in_ok-push.ensures.items;
}
