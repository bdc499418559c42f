use Rattle.std.proofs.Common.{◌≡◌, ◌≤◌, ◌-◌, length, drop}
use Rattle.fip_language.specs.declared.limits.TheConstants.{MOST_FILE_BYTES}
use Rattle.session_code.specs.Served.{IsServed}
use Rattle.session_lines.specs.session_semantics.Lines.{lines_of}
use Rattle.session_lines.specs.session_semantics.Talk.{Setting}
use Rattle.fip_session.proofs.Talking.{Follows}
use Rattle.fip_session.proofs.commands.session_reply.Given as goal

abbrev pub invariant-loop-at : goal.invariant-loop-at
invariant-loop-at l = (o : Setting) → IsServed o l.verified.code → l.typed.program.types ≡ o.program.types → l.fn.room.words ≡ o.words → l.fn.room.calls ≡ o.calls → l.fn.room.frames ≡ o.frames → length l.input ≤ MOST_FILE_BYTES → Follows o (lines_of l.input) l.out.items l.session (lines_of (drop l.at l.input))

abbrev pub decreases-loop-at : goal.decreases-loop-at
decreases-loop-at l = length l.input - l.at
