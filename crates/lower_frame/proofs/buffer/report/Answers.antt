use Rattle.std.proofs.Common.{◌≡◌, ◌-◌, refl, subst, length, map, slice_get}
use Rattle.cell_code.specs.Plain.{plain_label}
use Rattle.lower_frame.specs.Labels.{stands_at}
use Rattle.lower_frame.proofs.Labels.{reported_again}
use Rattle.lower_frame.proofs.buffer.report.Goals as goal

pub returns-then-is_last_at-clause-reported : goal.returns-then-is_last_at-clause-reported
returns-then-is_last_at-clause-reported c = reported_again c.args.labels.now.items c.set_last.new.labels.items (record { at = c.args.at; kinds = c.args.kinds }) c.args.at c.is_last_at.result c.if-at-eq0.false (subst (λ ls. c.is_last_at.result ≡ stands_at c.args.at (slice_get (map plain_label ls) (length (map plain_label ls) - 1))) c.as_slice.ensures.value c.is_last_at.ensures.is) c.if-is_last_at.true c.set_last.ensures.set refl
