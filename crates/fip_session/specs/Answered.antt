-- For private contracts alone: what a call is answered, and what a session has after it.
use Rattle.std.specs.Prelude.{◌≡◌, ◌⊎◌, ℕ, ◌+◌, ◌-◌, ◌^◌, ◌≤◌, List, ◌∷◌, length, Option, IfSome}
use Rattle.std.specs.BTreeMap.{BTreeMap}
use Rattle.std.specs.declared.alloc.Global.{Global}
use Rattle.std.specs.declared.vec.Vec.{Vec}
use Rattle.cell_store.specs.Made.{Loading, Stored}
use Rattle.fip_language.specs.Core.{Name}
use Rattle.fip_language.specs.Meaning as A
use Rattle.fip_language.specs.Table.{Table}
use Rattle.fip_language.specs.Values.{Values}
use Rattle.session_lines.specs.instance_semantics.fip_trees.Tree.{Instance}
use Rattle.session_lines.specs.session_semantics.Lines.{Given as Written, SpellsLine, Calls}
use Rattle.session_lines.specs.Said.{IsCall}
use Rattle.session_lines.specs.declared.line.CallLine.{CallLine}
use Rattle.fip_language.specs.declared.limits.TheConstants.{MOST_FILE_BYTES}
use Rattle.fip_session.specs.Refused.{IsPlanned}
use Rattle.fip_language.specs.Every.{Every}
use Rattle.fip_language.specs.Store.{count}
use Rattle.session_correctness.specs.Called.{IsGivenUp, IsSwept}
use Rattle.session_correctness.specs.Lodging.{Lodged, AreDistinct, lodged_uses}
use Rattle.session_correctness.specs.tree_refinement.machine_semantics.Cells.{Store as Store', there}
use Rattle.store_trees.specs.Added.{places_of}
use Rattle.store_trees.specs.declared.trees.Trees.{Trees}
use Rattle.value_text.specs.Loaded.{cell_words}
use Rattle.value_text.specs.Standing.{Stands}
use Rattle.session_lines.specs.session_semantics.Talk.{Setting, State, CallReplies, Replies, EndText, answer_of, used_by}
use Rattle.session_lines.specs.session_semantics.Talk.{running, holding, hold_all, ok_text}
use Rattle.fip_session.specs.After.{IsBegun, IsAfter}
use Rattle.fip_session.specs.Opened.{IsSession}
use Rattle.fip_session.specs.Planned.{Finds, names_used}
use Rattle.fip_session.specs.Said.{said}
use Rattle.fip_session.specs.declared.book.Book.{Book}
use Rattle.fip_session.specs.declared.book.Held.{Held}
use Rattle.fip_session.specs.declared.call.Store.{Store}
use Rattle.fip_session.specs.declared.plan.Plan.{Plan}
use Rattle.fip_session.specs.declared.ready.Ready.{Ready}
use Rattle.fip_session.specs.declared.reply.Reply.{Reply}

-- The reply is that of the run: of one that gives values, or of one that gives none.
pub record GivesNone (o : Setting) (s : State) (tb : Table) (i : ℕ) (d : Instance) (gs : List Written) (vs : Values)
    (held : BTreeMap (Vec ℕ Global) Held) (cells : Stored) (r : Reply) : Type 0 where
  pub text : EndText o i (answer_of o i vs) (said r)
  pub following : IsAfter tb held cells (running o s d gs vs)

pub record GivesValues (o : Setting) (s : State) (tb : Table) (names : List Name) (i : ℕ) (d : Instance)
    (gs : List Written) (vs : Values) (held : BTreeMap (Vec ℕ Global) Held) (cells : Stored) (r : Reply) : Type 0 where
  pub values : Values
  pub calls : ℕ
  pub answer : answer_of o i vs ≡ A.Gives values calls
  pub text : said r ≡ ok_text
  pub following : IsAfter tb held cells (holding (running o s d gs vs) (hold_all names d.results values))

abbrev pub IsAnswered : Setting → State → Table → List Name → ℕ → Instance → List Written → Values →
    BTreeMap (Vec ℕ Global) Held → Stored → Reply → Type 0
IsAnswered o s tb names i d gs vs held cells r =
    GivesValues o s tb names i d gs vs held cells r ⊎ GivesNone o s tb i d gs vs held cells r

-- What is asked where all cells of a run without a value are released: these names are held, and so many uses of cells
-- were noted.
pub record CanRelease (b : Book) (ls : List Lodged) (s : Store') (noted : Option Trees) (used : ℕ → ℕ)
    (credits ps : List ℕ) : Type 0 where
  pub finds : Finds b.held ls
  pub distinct : AreDistinct ls
  pub stand : Every (λ l. Stands b.table.now s.cells l.type l.tree) ls
  pub apart : (q : ℕ) → lodged_uses ls q ≤ there s q
  pub are : IfSome noted (λ t. (q : ℕ) → count q (places_of t.list.items) ≡ used q)
  pub words : credits ≡ cell_words ps
  pub few : Every (λ p. p ≤ 2 ^ 32 - 1) ps

-- What was noted and the credits' cells are given up, or all cells but those of what is held.
abbrev pub IsReleased : List Lodged → (ℕ → ℕ) → List ℕ → Store' → Store' → Type 0
IsReleased ls used ps s u = IsGivenUp (λ q. used q + count q ps) s u ⊎ IsSwept (lodged_uses ls) s u

-- What is asked of a call that was planned: its line, and the plan.
pub record CanCall (o : Setting) (s : State) (b : Book) (bytes : List ℕ) (line : CallLine) (name : Name)
    (names : List Name) (gs : List Written) (p : Plan) : Type 0 where
  pub short : length bytes ≤ MOST_FILE_BYTES
  pub spelt : SpellsLine bytes (Calls name names line.entry.now gs)
  pub is : IsCall bytes line name names line.entry.now gs
  pub planned : IsPlanned o s b (name ∷ names) line.entry.now gs p

-- What is asked of a call that runs: its cells are made, and the book is that of the setting.
pub record CanRun (o : Setting) (s : State) (b : Book) (p : Plan) (ls : List Lodged) (names : List Name) (i : ℕ)
    (d : Instance) (gs : List Written) (vs : Values) (old new : Loading) (r : Ready) : Type 0 where
  pub finds : Finds b.held ls
  pub table : b.table.now ≡ b.verified.now.code.types
  pub calls : b.room.calls ≡ o.calls
  pub frames : b.room.frames ≡ o.frames
  pub used : names_used p.arguments.given.items ≡ used_by b.verified.now.code.types p.function.now.params gs
  pub begun : IsBegun o s b.verified.now.code ls names p.entry p.function.now i d gs vs old new r

-- The call is replied so, and the session is in the state after it.
abbrev pub CallAnswered : Setting → State → List Name → Name → List Written → Book → Store → Reply → Type 0
CallAnswered o s names entry gs b t r =
    (s' : State) × CallReplies o s names entry gs (said r) s' × IsSession o (record { book = b; store = t }) s'

-- So is a line.
abbrev pub LineAnswered : Setting → State → List ℕ → Book → Store → Reply → Type 0
LineAnswered o s bytes b t r =
    (s' : State) × Replies o s bytes (said r) s' × IsSession o (record { book = b; store = t }) s'
