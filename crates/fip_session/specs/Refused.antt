-- For private contracts alone: what is planned of a call, or why it is refused.
use Rattle.std.specs.Prelude.{◌≡◌, ℕ, List, slice_index_or}
use Rattle.fip_language.specs.Core.{Name}
use Rattle.fip_language.specs.Values.{Values}
use Rattle.session_lines.specs.instance_semantics.fip_trees.Tree.{Instance}
use Rattle.session_lines.specs.session_semantics.Lines.{Given as Written}
use Rattle.session_lines.specs.session_semantics.Talk.{Setting, State, Called, CallReplies, used_by, written}
use Rattle.session_lines.specs.session_semantics.Typed.{IsEntry}
use Rattle.session_values.specs.Read.{Adds}
use Rattle.value_text.specs.declared.counts.Counts.{Counts}
use Rattle.fip_session.specs.Planned.{names_used}
use Rattle.fip_session.specs.Said.{said}
use Rattle.session_code.specs.Served.{IsOf}
use Rattle.fip_session.specs.declared.book.Book.{Book}
use Rattle.fip_session.specs.declared.plan.Plan.{Plan}
use Rattle.fip_session.specs.declared.reply.Stop.{Stop}
use Rattle.fip_session.specs.declared.reply.Stop.TheVariants as S

-- The call is one of this instance, and its names and cells are noted.
pub record IsPlanned (o : Setting) (s : State) (b : Book) (results : List Name) (entry : Name) (gs : List Written)
    (p : Plan) : Type 0 where
  pub instance : ℕ
  pub header : Instance
  pub values : Values
  pub of : IsOf o b.verified.now.code p.entry p.function.now instance header
  pub entered : IsEntry o.program entry instance header
  pub called : Called o s results instance header gs values
  pub used : names_used p.arguments.given.items ≡ used_by o.program.types header.params gs
  pub none : Counts
  pub empty : (k : ℕ) → slice_index_or none.numbers k 0 ≡ 0
  pub counts : Adds none p.arguments.fresh (λ k. written k gs values)

-- The reply is that of a call which is refused; nothing changes.
abbrev pub Refuses : Setting → State → List Name → Name → List Written → Stop → Type 0
Refuses o s results entry gs (S.Reply r) = CallReplies o s results entry gs (said r) s
Refuses o s results entry gs S.NoMemory = Unit {0}
