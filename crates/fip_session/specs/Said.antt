-- For private contracts alone: how a reply is written, ended by LF.
--
-- A run out of 3 calls is said as `out of calls: 3`, and that no name a is held as `no name a`.
use Rattle.std.specs.Prelude.{ℕ, List, ◌++◌, codes}
use Rattle.std.specs.Fmt.{decimal}
use Rattle.session_lines.specs.command_outcome.Texts.{line_end, trap_text, out_of_calls_text, out_of_frames_text}
use Rattle.fip_machine.specs.declared.machine.Ended.{Ended}
use Rattle.fip_machine.specs.declared.machine.Ended.TheVariants as M
use Rattle.session_lines.specs.session_semantics.Talk.{reported, ok_text, store_text}
use Rattle.fip_session.specs.declared.reply.Reply.{Reply}
use Rattle.fip_session.specs.declared.reply.Reply.TheVariants as R

abbrev pub end_said : Ended → ℕ → ℕ → List ℕ
end_said M.Value calls frames = ok_text
end_said (M.Trap kind line col) calls frames = trap_text kind line col
end_said M.Out calls frames = out_of_calls_text calls
end_said M.Deep calls frames = out_of_frames_text frames

abbrev pub said : Reply → List ℕ
said R.BadLine = codes "bad line\n"
said (R.NoName name) = reported (codes "no name ") name.now
said (R.NoEntry name) = reported (codes "no entry ") name.now
said R.WrongNumber = codes "wrong number\n"
said (R.BadArgument number) = reported (codes "bad argument ") (decimal number)
said (R.BadResult name) = reported (codes "bad result ") name.now
said (R.StoreTooSmall needed left) = store_text needed left
said (R.NoValue ended calls frames) = end_said ended calls frames
said R.Done = ok_text
said (R.Text text) = text.items ++ line_end
