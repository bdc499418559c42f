-- A line's parts in the words of what a session replies.
use Rattle.std.proofs.Common.{◌≡◌, ◌⊎◌, inl, inr, ◌∙◌, ℕ, zero, suc, ◌+◌, ◌-◌, ◌*◌, ◌^◌, ◌<◌, ◌≤◌, List, [], ◌∷◌, ◌++◌, length, map, max, Option, Some, None, option_map, slice_get, refl, sym, ap, subst, arith}
use Rattle.std.specs.Prelude.{slice_index_or}
use Rattle.std.specs.BTreeMap.{BTreeMap}
use Rattle.std.specs.declared.alloc.Global.{Global}
use Rattle.std.specs.declared.vec.Vec.{Vec}
use Rattle.cell_store.specs.Cells as L
use Rattle.cell_store.specs.Made.{Loading, Stored}
use Rattle.fip_base.specs.declared.plain.Param.{Param}
use Rattle.fip_language.specs.Core.{Name}
use Rattle.fip_language.specs.Values.{Values}
use Rattle.fip_language.specs.declared.limits.TheConstants.{MOST_FIELDS, MOST_STORE_WORDS}
use Rattle.fip_machine.specs.machine_cells.Small.{store_of}
use Rattle.session_code.specs.Served.{IsOf, IsServed}
use Rattle.session_correctness.specs.tree_refinement.machine_semantics.Cells.{Store, IsStore}
use Rattle.session_correctness.specs.Called.{IsHeld}
use Rattle.session_correctness.specs.Lodging.{Lodged, holding_of, lodged_as, lodged_uses, but}
use Rattle.session_correctness.specs.Open.{IsOpen, as_found}
use Rattle.session_correctness.proofs.Counting.{needed_is, left_then, left_is}
use Rattle.session_correctness.proofs.Opening.{spare_is}
use Rattle.session_correctness.proofs.Sharing.{distinct_but, taken_out}
use Rattle.session_correctness.proofs.Speaking.{held_lodged, without_lodged}
use Rattle.session_lines.specs.instance_semantics.fip_trees.Tree.{Instance}
use Rattle.session_lines.specs.session_semantics.Lines.{Given as Written, SpellsLine, Calls, GivesUp, Shows, BeginsSmall, word, Symbol, Blank, Open, Close, Comma, Equals, Question, Minus, Underscore, Digit, Small, Capital, Other}
use Rattle.session_lines.specs.session_semantics.Talk as T
use Rattle.session_lines.specs.session_semantics.Talk.{Setting, State, Called, Fits, AreTaken, CallReplies, TooSmall, Ended, Done, Replies, Called', NothingGivenUp, GivenUp, NothingShown, Shown, over_sizes, needed, left, made_then, live, written, credits_of, running, holding, hold_all, held_as, without, store_text, used_by}
use Rattle.session_lines.specs.session_semantics.Typed.{IsEntry}
use Rattle.session_values.specs.Read.{Adds}
use Rattle.value_text.specs.Loaded.{free_in}
use Rattle.value_text.specs.declared.counts.Counts.{Counts}
use Rattle.cell_code.specs.declared.code.Code.{Code}
use Rattle.cell_code.specs.declared.code.Function.{Function}
use Rattle.session_correctness.specs.Counted.{sized}
use Rattle.session_lines.specs.declared.line.CallLine.{CallLine}
use Rattle.session_values.specs.Readable.{IsLine}
use Rattle.value_text.specs.Loaded.{types_of, AreCredits}
use Rattle.fip_session.specs.Answered.{CanCall, CanRun, GivesNone, GivesValues, IsAnswered, CallAnswered, LineAnswered}
use Rattle.fip_session.specs.Booked.{IsBook}
use Rattle.fip_session.specs.Readied.{IsReady, Lie}
use Rattle.fip_session.specs.declared.ready.Ready.{Ready}
use Rattle.fip_session.specs.After.{IsAfter, IsKept}
use Rattle.fip_session.specs.Named.{found}
use Rattle.fip_session.specs.Opened.{IsSession, found_as}
use Rattle.fip_session.specs.Planned.{CanTakeAll, Finds, IsWeighed, held_by}
use Rattle.fip_session.specs.Refused.{IsPlanned}
use Rattle.fip_session.specs.Said.{said}
use Rattle.fip_session.specs.declared.book.Book.{Book}
use Rattle.fip_session.specs.declared.book.Held.{Held}
use Rattle.fip_session.specs.declared.call.Store.{Store as Room}
use Rattle.fip_session.specs.declared.plan.Plan.{Plan}
use Rattle.fip_session.specs.declared.reply.Reply.{Reply}
use Rattle.fip_session.specs.declared.session.Session.{Session}
use Rattle.fip_session.proofs.Deciding.{can_take_all}
use Rattle.fip_session.proofs.Holding.{book_of, finds_of}
use Rattle.fip_session.proofs.Short.{line_short}
use Rattle.fip_session.proofs.Stores.{lie_there}

-- ---- a session in its next state

found_names : (held : BTreeMap (Vec ℕ Global) Held) (ls : List Lodged) → Finds held ls → (name : Name) → found_as held name ≡ option_map as_found (lodged_as name ls)
found_names held ls finds name = ap (option_map (λ (h : Held). (h.ty, h.word))) (finds name) ∙ by (lodged_as name ls)
  where
    by : (o : Option Lodged) → option_map (λ (h : Held). (h.ty, h.word)) (option_map held_by o) ≡ option_map as_found o
    by None = refl
    by (Some l) = refl

pub session_on : (o : Setting) (s s' : State) (b b' : Book) (t t' : Room) → IsSession o (record { book = b; store = t }) s → b' ≡ record b { held = b'.held } → IsAfter o.program.types b'.held t'.cells s' → t'.left + over_sizes MOST_FIELDS (λ k. s'.made k * suc k) ≡ o.words → IsSession o (record { book = b'; store = t' }) s'
session_on o s s' b b' t t' h same following room =
    subst (λ c. IsSession o (record { book = c; store = t' }) s') (sym same) (record {
      served = h.served;
      table = h.table;
      entries = h.entries;
      calls = h.calls;
      frames = h.frames;
      opened = record {
        lodged = following.lodged;
        names = found_names b'.held following.lodged following.finds;
        distinct = following.kept.distinct;
        said = following.kept.said;
        held = following.kept.held;
        small = following.small;
        made = following.kept.made;
        left = room;
      };
    })

-- the store may move, its cells being the same
pub same_store : (o : Setting) (s : State) (b : Book) (t t' : Room) → t'.cells.cells ≡ t.cells.cells → t'.cells.released ≡ t.cells.released → t'.left ≡ t.left → IsSession o (record { book = b; store = t }) s → IsSession o (record { book = b; store = t' }) s
same_store o s b t t' cells released left' h = record {
  served = h.served;
  table = h.table;
  entries = h.entries;
  calls = h.calls;
  frames = h.frames;
  opened =
      subst (λ cs. IsOpen o.program.types o.words (found_as b.held) (record { cells = cs; released = t'.cells.released }) t'.left s) (sym cells)
      (subst (λ rs. IsOpen o.program.types o.words (found_as b.held) (record { cells = t.cells.cells; released = rs }) t'.left s) (sym released)
      (subst (λ n. IsOpen o.program.types o.words (found_as b.held) (record { cells = t.cells.cells; released = t.cells.released }) n s) (sym left') h.opened));
}

-- ---- what a call needs

module _ (o : Setting) (s : State) (b : Book) (t : Room) (h : IsSession o (record { book = b; store = t }) s) where
  pub kept_is : IsKept b.verified.now.code.types h.opened.lodged s (record { cells = t.cells.cells; released = t.cells.released; left = t.cells.left })
  kept_is = record {
    distinct = h.opened.distinct;
    said = h.opened.said;
    held = subst (λ tb. IsHeld tb h.opened.lodged (store_of t.cells.cells t.cells.released)) (sym h.served.types) h.opened.held;
    made = h.opened.made;
  }

  pub left_of : left o s ≡ t.left
  left_of = left_is o.words t.left (over_sizes MOST_FIELDS (λ k. s.made k * suc k)) h.opened.left

  pub needed_of : (gs : List Written) (vs : Values) (credits : List ℕ) → needed s gs vs credits ≡ over_sizes MOST_FIELDS (λ k. (written k gs vs + credits_of k credits - L.count_free k t.cells.cells t.cells.released) * suc k)
  needed_of gs vs credits = needed_is MOST_FIELDS s.made (λ k. live k s.held) (λ k. L.count_free k t.cells.cells t.cells.released) (λ k. written k gs vs + credits_of k credits) (λ k some le. spare_is o.program.types o.words (found_as b.held) (store_of t.cells.cells t.cells.released) t.left s k h.opened some le)

  pub weighed : (bytes : List ℕ) (result : Name) (results : List Name) (entry : Name) (ps : List Param) (gs : List Written) (vs : Values) (none fresh : Counts) → length bytes ≤ 16777216 → SpellsLine bytes (Calls result results entry gs) → AreTaken o.program.types s.held [] ps gs vs → ((k : ℕ) → slice_index_or none.numbers k 0 ≡ 0) → Adds none fresh (λ k. written k gs vs) → IsWeighed fresh (λ k. written k gs vs)
  weighed bytes result results entry ps gs vs none fresh short spelt taken zeros adds k le =
      let few = line_short o.program.types s.held k bytes result results entry ps gs vs spelt taken in
      let z = zeros k in
      let a = adds k le (omega (arith, z, few, short)) in
      (omega (arith, a, z), omega (arith, few, short))

  -- after a call for which there was room
  pub room_then : (gs : List Written) (vs : Values) (credits : List ℕ) (s' : State) → needed s gs vs credits ≤ t.left → ((k : ℕ) → s'.made k ≡ made_then s gs vs credits k) → (t.left - needed s gs vs credits) + over_sizes MOST_FIELDS (λ k. s'.made k * suc k) ≡ o.words
  room_then gs vs credits s' fits made =
      let a = left_then MOST_FIELDS o.words t.left (needed s gs vs credits) s.made (made_then s gs vs credits) (λ k. more (s.made k) (live k s.held + (written k gs vs + credits_of k credits))) refl fits h.opened.left in
      let e = same_sums MOST_FIELDS (λ k. s'.made k * suc k) (λ k. made_then s gs vs credits k * suc k) (λ k. ap (λ n. n * suc k) (made k)) in
      omega (arith, a, e)
    where
      more : (m n : ℕ) → m ≤ max m n
      more m n = grind (arith)

      same_sums : (n : ℕ) (f g : ℕ → ℕ) → ((k : ℕ) → f k ≡ g k) → over_sizes n f ≡ over_sizes n g
      same_sums zero f g e = refl
      same_sums (suc n) f g e = (let r = same_sums n f g e in let x = e (suc n) in omega (arith, r, x))

-- ---- a call that is done

module _ (o : Setting) (s : State) (names : List Name) (entry : Name) (i : ℕ) (d : Instance) (gs : List Written) (vs : Values) (entered : IsEntry o.program entry i d) (fits : Fits o s names i d gs vs) (b b' : Book) (t t' : Room) (h : IsSession o (record { book = b; store = t }) s) (same : b' ≡ record b { held = b'.held }) (room : t'.left ≡ t.left - needed s gs vs d.credits) (enough : needed s gs vs d.credits ≤ t.left) where
  pub call_done : (r : Reply) → IsAnswered o s o.program.types names i d gs vs b'.held t'.cells r → CallAnswered o s names entry gs b' t' r
  call_done r (inl v) = (
    holding (running o s d gs vs) (hold_all names d.results v.values),
    subst (λ x. CallReplies o s names entry gs x (holding (running o s d gs vs) (hold_all names d.results v.values))) (sym v.text) (Done i d vs v.values v.calls entered fits v.answer),
    session_on o s (holding (running o s d gs vs) (hold_all names d.results v.values)) b b' t t' h same v.following (ap (λ n. n + over_sizes MOST_FIELDS (λ k. made_then s gs vs d.credits k * suc k)) room ∙ room_then o s b t h gs vs d.credits (holding (running o s d gs vs) (hold_all names d.results v.values)) enough (λ k. refl)),
  )
  call_done r (inr e) = (
    running o s d gs vs,
    Ended i d vs (said r) entered fits e.text,
    session_on o s (running o s d gs vs) b b' t t' h same e.following (ap (λ n. n + over_sizes MOST_FIELDS (λ k. made_then s gs vs d.credits k * suc k)) room ∙ room_then o s b t h gs vs d.credits (running o s d gs vs) enough (λ k. refl)),
  )

-- ---- words of a line

word_some : (cs : List Symbol) → BeginsSmall cs → 0 < length (word cs)
word_some (Small b ∷ cs) h = omega arith
word_some [] h = absurd h
word_some (Blank ∷ cs) h = absurd h
word_some (Open ∷ cs) h = absurd h
word_some (Close ∷ cs) h = absurd h
word_some (Comma ∷ cs) h = absurd h
word_some (Equals ∷ cs) h = absurd h
word_some (Question ∷ cs) h = absurd h
word_some (Minus ∷ cs) h = absurd h
word_some (Underscore ∷ cs) h = absurd h
word_some (Digit d ∷ cs) h = absurd h
word_some (Capital b ∷ cs) h = absurd h
word_some (Other ∷ cs) h = absurd h

-- the name of what is called isn't empty
pub entry_some : (bytes : List ℕ) (result : Name) (results : List Name) (entry : Name) (gs : List Written) → SpellsLine bytes (Calls result results entry gs) → 0 < length entry
entry_some bytes result results entry gs h = (let n = h.4.3 in subst (λ (w : List ℕ). 0 < length w) (sym n.is) (word_some _ n.small))

-- ---- what a name holds is given up

module _ (o : Setting) (s : State) (b : Book) (t : Room) (h : IsSession o (record { book = b; store = t }) s) (name : Name) where
  finds : Finds b.held h.opened.lodged
  finds = finds_of b.held h.opened.lodged h.opened.names

  pub not_held : found b.held name ≡ None → held_as name s.held ≡ None
  not_held none = ap (held_as name) h.opened.said ∙ held_lodged name h.opened.lodged ∙ by (lodged_as name h.opened.lodged) (sym (finds name) ∙ none)
    where
      by : (m : Option Lodged) → option_map held_by m ≡ None → option_map holding_of m ≡ None
      by None e = refl
      by (Some l) e = absurd (let z = e in cc)

  pub is_held : (l : Lodged) → lodged_as name h.opened.lodged ≡ Some l → held_as name s.held ≡ Some (holding_of l)
  is_held l e = ap (held_as name) h.opened.said ∙ held_lodged name h.opened.lodged ∙ ap (option_map holding_of) e

  pub given_up_said : without name s.held ≡ map holding_of (but name h.opened.lodged)
  given_up_said = ap (without name) h.opened.said ∙ without_lodged (name ∷ []) h.opened.lodged

-- ---- a call that is planned

module _ (o : Setting) (s : State) (b : Book) (t : Room) (h : IsSession o (record { book = b; store = t }) s) (bytes : List ℕ) (line : CallLine) (name : Name) (names : List Name) (gs : List Written) (p : Plan) (can : CanCall o s b bytes line name names gs p) where
  abbrev pub ls : List Lodged
  ls = h.opened.lodged

  abbrev pub i : ℕ
  i = can.planned.instance

  abbrev pub d : Instance
  d = can.planned.header

  abbrev pub vs : Values
  vs = can.planned.values

  abbrev pub f : Function
  f = p.function.now

  abbrev pub code : Code
  code = b.verified.now.code

  pub book : IsBook o b ls
  book = book_of o (record { book = b; store = t }) s h

  types_are : b.table.now ≡ code.types
  types_are = h.table ∙ sym h.served.types

  pub allowed : AreCredits f.credits.items
  allowed = h.served.readable.credits p.entry f can.planned.of.there

  pub takes : IsLine bytes → CanTakeAll b.table.now (types_of f.params) bytes
  takes one = can_take_all o b ls p.entry f bytes book can.planned.of.there one

  pub are_taken : AreTaken b.table.now (map holding_of ls) [] f.params gs vs
  are_taken =
      subst (λ tb. AreTaken tb (map holding_of ls) [] f.params gs vs) (sym h.table)
      (subst (λ hs. AreTaken o.program.types hs [] f.params gs vs) h.opened.said
      (subst (λ ps. AreTaken o.program.types s.held [] ps gs vs) (sym can.planned.of.params) can.planned.called.taken))

  pub is_weighed : IsWeighed p.arguments.fresh (λ k. written k gs vs)
  is_weighed = weighed o s b t h bytes name names line.entry.now d.params gs vs can.planned.none p.arguments.fresh can.short can.spelt can.planned.called.taken can.planned.empty can.planned.counts

  module _ (l : Loading) (cells : l.cells ≡ t.cells.cells) (released : l.released ≡ t.cells.released) where
    pub held_there : IsHeld code.types ls (store_of l.cells l.released)
    held_there = subst (λ cs. IsHeld code.types ls (store_of cs l.released)) (sym cells) (subst (λ rs. IsHeld code.types ls (store_of t.cells.cells rs)) (sym released) (kept_is o s b t h).held)

    pub lies : Lie b.table.now ls l
    lies = subst (λ tb. Lie tb ls l) (sym types_are) (lie_there code.types ls l held_there)

    pub needs : (n : ℕ) → n ≡ over_sizes MOST_FIELDS (λ k. (written k gs vs + credits_of k f.credits.items - free_in l k) * suc k) → n ≡ needed s gs vs d.credits
    needs n e =
        e
        ∙ ap (λ cs. over_sizes MOST_FIELDS (λ k. (written k gs vs + credits_of k cs - L.count_free k l.cells l.released) * suc k)) can.planned.of.credits
        ∙ ap (λ os. over_sizes MOST_FIELDS (λ k. (written k gs vs + credits_of k d.credits - L.count_free k os l.released) * suc k)) cells
        ∙ ap (λ rs. over_sizes MOST_FIELDS (λ k. (written k gs vs + credits_of k d.credits - L.count_free k t.cells.cells rs) * suc k)) released
        ∙ sym (needed_of o s b t h gs vs d.credits)

    pub too_small : (n : ℕ) → n ≡ needed s gs vs d.credits → t.left < n → CallReplies o s (name ∷ names) line.entry.now gs (store_text n t.left) s
    too_small n e more =
        subst (λ m. CallReplies o s (name ∷ names) line.entry.now gs (store_text m t.left) s) (sym e)
        (subst (λ m. CallReplies o s (name ∷ names) line.entry.now gs (store_text (needed s gs vs d.credits) m) s) (left_of o s b t h)
        (TooSmall i d vs can.planned.entered can.planned.called (let z = left_of o s b t h in omega (arith, z, e, more))))

    pub fits_in : needed s gs vs d.credits ≤ t.left → Fits o s (name ∷ names) i d gs vs
    fits_in le = record { called = can.planned.called; room = (let z = left_of o s b t h in omega (arith, z, le)) }

    pub can_run : (new : Loading) (r : Ready) → needed s gs vs d.credits ≤ t.left → IsReady b.table.now ls f.params f.credits.items gs vs l new r → IsStore (store_of new.cells new.released) → length new.cells ≤ MOST_STORE_WORDS → CanRun o s b p ls (name ∷ names) i d gs vs l new r
    can_run new r le ready store small = record {
      finds = book.finds;
      table = types_are;
      calls = h.calls;
      frames = h.frames;
      used = can.planned.used ∙ ap (λ tb. used_by tb d.params gs) (sym h.served.types) ∙ ap (λ ps. used_by code.types ps gs) (sym can.planned.of.params);
      begun = record {
        served = h.served;
        of = can.planned.of;
        fits = fits_in le;
        kept = record {
          distinct = h.opened.distinct;
          said = h.opened.said;
          held = held_there;
          made = λ k some few. h.opened.made k some few ∙ ap (sized k) (sym cells);
        };
        ready = subst (λ tb. IsReady tb ls f.params f.credits.items gs vs l new r) types_are ready;
        store = store;
        small = small;
      };
    }

  pub done : (b' : Book) (t' : Room) (n : ℕ) (r : Reply) → n ≡ needed s gs vs d.credits → n ≤ t.left → b' ≡ record b { held = b'.held } → t'.left ≡ t.left - n → IsAnswered o s code.types (name ∷ names) i d gs vs b'.held t'.cells r → CallAnswered o s (name ∷ names) line.entry.now gs b' t' r
  done b' t' n r e le same room a =
      let fits : needed s gs vs d.credits ≤ t.left = omega (arith, e, le) in
      call_done o s (name ∷ names) line.entry.now i d gs vs can.planned.entered (record { called = can.planned.called; room = (let z = left_of o s b t h in omega (arith, z, fits)) }) b b' t t' h same (room ∙ ap (λ m. t.left - m) e) fits r (subst (λ tb. IsAnswered o s tb (name ∷ names) i d gs vs b'.held t'.cells r) h.served.types a)
