-- What a session replies. Names hold values from one line to the next; a call uses up the names that it is given for
-- owned parameters, and its results are held under new names.
--
-- The store is spoken of by sizes alone: of each size so many cells were made, and those that no held value uses serve
-- again. A line that needs more cells than these makes them, where the words suffice.
--
-- With `fip fun rev(xs: ints, acc: ints): ints` and 6 words: `a = rev(Cons(1, Cons(2, Nil)), Nil)` is `ok`, and then
-- `?a` is `Cons(2, Cons(1, Nil))`; after `b = rev(a, Nil)` nothing is held under a, so `?a` is `no name a`.
use Rattle.std.specs.Prelude.{◌≡◌, ◌≢◌, ℕ, zero, suc, ◌+◌, ◌-◌, ◌*◌, ◌<◌, ◌≤◌, max, false, ◌⊎◌}
use Rattle.std.specs.Prelude.{List, [], ◌∷◌, ◌++◌, Option, Some, None, length, slice_get, codes, if◌then◌else◌, ◌==◌}
use Rattle.std.specs.Fmt.{decimal}
use Rattle.command_outcome.specs.fip_language.declared.limits.TheConstants.{MOST_FIELDS}
use Rattle.command_outcome.specs.fip_language.Core.{Name}
use Rattle.command_outcome.specs.fip_language.Declarations.{same_name}
use Rattle.command_outcome.specs.fip_language.Every.{times}
use Rattle.command_outcome.specs.fip_language.Values.{Value, Values, End, More, cells}
use Rattle.command_outcome.specs.fip_language.Table.{Table, is_scalar}
use Rattle.command_outcome.specs.fip_language.PrintedText.{printed}
use Rattle.command_outcome.specs.fip_language.Meaning.{Answer, Gives, Trap, Out, Deep}
use Rattle.command_outcome.specs.fip_base.declared.plain.Param.{Param}
use Rattle.command_outcome.specs.fip_base.declared.plain.Stack.{Stack}
use Rattle.instance_semantics.specs.fip_trees.declared.groups.Member.{Member}
use Rattle.instance_semantics.specs.fip_trees.Tree.{Instance, Program}
use Rattle.instance_semantics.specs.Meaning.{flat_meaning}
use Rattle.command_outcome.specs.Texts.{line_end, trap_text, out_of_calls_text, out_of_frames_text}
use Rattle.session_semantics.specs.Lines.{Given, Held, Fresh, Line, Calls, Shows, GivesUp, SpellsLine}
use Rattle.session_semantics.specs.Typed.{IsValue, IsEntry}

-- the program of a session with what is found of its instances (its groups and stack numbers, `AreMembers`), the words
-- of its store, and the calls and frames of each run
pub record Setting : Type 0 where
  pub program : Program
  pub members : List Member
  pub words : ℕ
  pub calls : ℕ
  pub frames : ℕ

-- a name with the value that it holds, and its type
pub record Holding : Type 0 where
  pub name : Name
  pub type : ℕ
  pub value : Value

-- what is held, and how many cells of each size were made
pub record State : Type 0 where
  pub held : List Holding
  pub made : ℕ → ℕ

abbrev pub at_first : State
at_first = record { held = []; made = λ k. 0 }

abbrev pub held_as : Name → List Holding → Option Holding
held_as name [] = None
held_as name (h ∷ hs) = if same_name name h.name then Some h else held_as name hs

abbrev pub without : Name → List Holding → List Holding
without name [] = []
without name (h ∷ hs) = if same_name name h.name then without name hs else h ∷ without name hs

abbrev pub without_all : List Name → List Holding → List Holding
without_all [] hs = hs
without_all (n ∷ ns) hs = without_all ns (without n hs)

-- ---- what a call is given

-- the name that is given for a parameter whose type isn't scalar
abbrev pub named_by : Table → Param → Given → List Name
named_by tb q (Held name) = if is_scalar tb q.ty then [] else name ∷ []
named_by tb q (Fresh w) = []

-- of these the names that are used up: those given for owned parameters
abbrev pub used_by : Table → List Param → List Given → List Name
used_by tb (q ∷ qs) (g ∷ gs) = (if q.lent then [] else named_by tb q g) ++ used_by tb qs gs
used_by tb qs gs = []

-- The value given for a parameter: a written value of its type, or what a name holds that is of its type, and wasn't
-- given before where the type isn't scalar.
abbrev pub IsTaken : Table → List Holding → List Name → Param → Given → Value → Type 0
IsTaken tb held before q (Fresh w) v = IsValue tb q.ty w v
IsTaken tb held before q (Held name) v = (h : Holding) × (held_as name held ≡ Some h) × (h.type ≡ q.ty)
    × (v ≡ h.value) × (is_scalar tb q.ty ≡ false → times name before ≡ 0)

abbrev pub AreTaken : Table → List Holding → List Name → List Param → List Given → Values → Type 0
AreTaken tb held before [] [] End = Unit {0}
AreTaken tb held before (q ∷ qs) (g ∷ gs) (More v vs) =
    IsTaken tb held before q g v × AreTaken tb held (before ++ named_by tb q g) qs gs vs
AreTaken tb held before qs gs vs = ⊥

-- argument k, from 0, is the first that is no value of its parameter
abbrev pub IsWrong : Table → List Holding → List Name → List Param → List Given → ℕ → Type 0
IsWrong tb held before (q ∷ qs) (g ∷ gs) zero = (v : Value) → IsTaken tb held before q g v → ⊥
IsWrong tb held before (q ∷ qs) (g ∷ gs) (suc k) = (v : Value) × IsTaken tb held before q g v
    × IsWrong tb held (before ++ named_by tb q g) qs gs k
IsWrong tb held before qs gs k = ⊥

-- ---- the names of results

-- a result may be held so: the name occurs once, and holds nothing that this call doesn't use up
pub record IsFree (held : List Holding) (used before : List Name) (name : Name) : Type 0 where
  pub once : times name before ≡ 0
  pub free : (held_as name held ≡ None) ⊎ (0 < times name used)

abbrev pub AreFree : List Holding → List Name → List Name → List Name → Type 0
AreFree held used before [] = Unit {0}
AreFree held used before (n ∷ ns) = IsFree held used before n × AreFree held used (n ∷ before) ns

-- the first name under which a result can't be held
abbrev pub IsTakenName : List Holding → List Name → List Name → List Name → Name → Type 0
IsTakenName held used before [] name = ⊥
IsTakenName held used before (n ∷ ns) name =
    ((IsFree held used before n → ⊥) × (name ≡ n))
    ⊎ (IsFree held used before n × IsTakenName held used (n ∷ before) ns name)

abbrev pub hold_all : List Name → List ℕ → Values → List Holding
hold_all (n ∷ ns) (t ∷ ts) (More v vs) = record { name = n; type = t; value = v } ∷ hold_all ns ts vs
hold_all ns ts vs = []

-- ---- the store

-- the cells of size k of what is held
abbrev pub live : ℕ → List Holding → ℕ
live k [] = 0
live k (h ∷ hs) = cells k h.value + live k hs

-- the cells of size k of the written values
abbrev pub written : ℕ → List Given → Values → ℕ
written k (Fresh w ∷ gs) (More v vs) = cells k v + written k gs vs
written k (Held name ∷ gs) (More v vs) = written k gs vs
written k gs vs = 0

-- the credits of size k of a header
abbrev pub credits_of : ℕ → List ℕ → ℕ
credits_of k [] = 0
credits_of k (c ∷ cs) = (if k == c then 1 else 0) + credits_of k cs

-- a sum over the sizes from 1 to n
abbrev pub over_sizes : ℕ → (ℕ → ℕ) → ℕ
over_sizes zero f = 0
over_sizes (suc n) f = over_sizes n f + f (suc n)

-- the cells of size k that are there once the line's are: those made before, or more where they don't suffice
abbrev pub made_then : State → List Given → Values → List ℕ → ℕ → ℕ
made_then s gs vs credits k = max (s.made k) (live k s.held + (written k gs vs + credits_of k credits))

-- the words of the cells that the line makes
abbrev pub needed : State → List Given → Values → List ℕ → ℕ
needed s gs vs credits = over_sizes MOST_FIELDS (λ k. (made_then s gs vs credits k - s.made k) * suc k)

-- the words that are left
abbrev pub left : Setting → State → ℕ
left o s = o.words - over_sizes MOST_FIELDS (λ k. s.made k * suc k)

-- ---- runs

abbrev pub frames_of : ℕ → Option Stack → ℕ
frames_of frames None = frames
frames_of frames (Some s) = s.frames

abbrev pub frames_by : ℕ → Option Member → ℕ
frames_by frames None = frames
frames_by frames (Some m) = frames_of frames m.stack

-- the free frames of a run: those that a fip function needs, or those that are given
abbrev pub free_frames : Setting → ℕ → ℕ
free_frames o i = frames_by o.frames (slice_get o.members i)

abbrev pub answer_of : Setting → ℕ → Values → Answer
answer_of o i vs = (flat_meaning o.program i vs o.calls (free_frames o i)).answer

-- the text of a run without a value
abbrev pub EndText : Setting → ℕ → Answer → List ℕ → Type 0
EndText o i (Trap kind line col) text = text ≡ trap_text kind line col
EndText o i Out text = text ≡ out_of_calls_text o.calls
EndText o i Deep text = text ≡ out_of_frames_text (free_frames o i)
EndText o i answer text = ⊥

-- ---- replies

abbrev pub ok_text : List ℕ
ok_text = codes "ok\n"

abbrev pub store_text : ℕ → ℕ → List ℕ
store_text n m = codes "store too small: " ++ (decimal n ++ (codes " needed, " ++ (decimal m ++ codes " left\n")))

abbrev pub reported : List ℕ → List ℕ → List ℕ
reported text name = text ++ (name ++ line_end)

-- a call of instance i, whose header is d, with these results and arguments
pub record Called (o : Setting) (s : State) (results : List Name) (i : ℕ) (d : Instance) (gs : List Given)
    (vs : Values) : Type 0 where
  pub count : length results ≡ length d.results
  pub taken : AreTaken o.program.types s.held [] d.params gs vs
  pub free : AreFree s.held (used_by o.program.types d.params gs) [] results

-- and its cells fit into the store
pub record Fits (o : Setting) (s : State) (results : List Name) (i : ℕ) (d : Instance) (gs : List Given)
    (vs : Values) : Type 0 where
  pub called : Called o s results i d gs vs
  pub room : needed s gs vs d.credits ≤ left o s

-- what is held while it runs, and the cells that were made
abbrev pub running : Setting → State → Instance → List Given → Values → State
running o s d gs vs =
    record {
      held = without_all (used_by o.program.types d.params gs) s.held;
      made = made_then s gs vs d.credits;
    }

abbrev pub holding : State → List Holding → State
holding s hs = record { held = s.held ++ hs; made = s.made }

-- Reply and state after a line of a call. The cases exclude each other, each being asked where those above don't hold.
pub data CallReplies (o : Setting) (s : State) (results : List Name) (entry : Name) (gs : List Given) :
    List ℕ → State → Type 0 where
  NoEntry : ((i : ℕ) (d : Instance) → IsEntry o.program entry i d → ⊥) →
      CallReplies o s results entry gs (reported (codes "no entry ") entry) s
  WrongNumber : (i : ℕ) (d : Instance) → IsEntry o.program entry i d →
      ((length gs ≢ length d.params) ⊎ (length results ≢ length d.results)) →
      CallReplies o s results entry gs (codes "wrong number\n") s
  BadArgument : (i : ℕ) (d : Instance) (k : ℕ) → IsEntry o.program entry i d → length gs ≡ length d.params →
      length results ≡ length d.results → IsWrong o.program.types s.held [] d.params gs k →
      CallReplies o s results entry gs (reported (codes "bad argument ") (decimal (suc k))) s
  BadResult : (i : ℕ) (d : Instance) (vs : Values) (name : Name) → IsEntry o.program entry i d →
      length results ≡ length d.results → AreTaken o.program.types s.held [] d.params gs vs →
      IsTakenName s.held (used_by o.program.types d.params gs) [] results name →
      CallReplies o s results entry gs (reported (codes "bad result ") name) s
  TooSmall : (i : ℕ) (d : Instance) (vs : Values) → IsEntry o.program entry i d →
      Called o s results i d gs vs → left o s < needed s gs vs d.credits →
      CallReplies o s results entry gs (store_text (needed s gs vs d.credits) (left o s)) s
  Ended : (i : ℕ) (d : Instance) (vs : Values) (text : List ℕ) → IsEntry o.program entry i d →
      Fits o s results i d gs vs → EndText o i (answer_of o i vs) text →
      CallReplies o s results entry gs text (running o s d gs vs)
  Done : (i : ℕ) (d : Instance) (vs given : Values) (calls : ℕ) → IsEntry o.program entry i d →
      Fits o s results i d gs vs → answer_of o i vs ≡ Gives given calls →
      CallReplies o s results entry gs ok_text (holding (running o s d gs vs) (hold_all results d.results given))

-- reply and state after a line
pub data Replies (o : Setting) (s : State) (bytes : List ℕ) : List ℕ → State → Type 0 where
  BadLine : ((line : Line) → SpellsLine bytes line → ⊥) → Replies o s bytes (codes "bad line\n") s
  NothingShown : (name : Name) → SpellsLine bytes (Shows name) → held_as name s.held ≡ None →
      Replies o s bytes (reported (codes "no name ") name) s
  NothingGivenUp : (name : Name) → SpellsLine bytes (GivesUp name) → held_as name s.held ≡ None →
      Replies o s bytes (reported (codes "no name ") name) s
  Shown : (name : Name) (h : Holding) → SpellsLine bytes (Shows name) → held_as name s.held ≡ Some h →
      Replies o s bytes (printed o.program.types h.type h.value line_end) s
  GivenUp : (name : Name) (h : Holding) → SpellsLine bytes (GivesUp name) → held_as name s.held ≡ Some h →
      Replies o s bytes ok_text (record { held = without name s.held; made = s.made })
  Called' : (result : Name) (results : List Name) (entry : Name) (gs : List Given) (text : List ℕ) (s' : State) →
      SpellsLine bytes (Calls result results entry gs) →
      CallReplies o s (result ∷ results) entry gs text s' → Replies o s bytes text s'

-- the replies to lines, one after another
abbrev pub Talks : Setting → State → List (List ℕ) → List ℕ → Type 0
Talks o s [] text = text ≡ []
Talks o s (line ∷ lines) text = (reply : List ℕ) × (rest : List ℕ) × (s' : State)
    × Replies o s line reply s' × (text ≡ reply ++ rest) × Talks o s' lines rest
