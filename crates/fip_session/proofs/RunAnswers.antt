-- From what the parts of a call's run say to its answer.
use Rattle.std.proofs.Common.{◌≡◌, ◌⊎◌, inl, inr, ◌∙◌, ℕ, ◌+◌, ◌-◌, ◌^◌, ◌≤◌, List, [], ◌∷◌, ◌++◌, length, Option, Some, slice_get, refl, sym, ap, subst, arith}
use Rattle.std.specs.Prelude.{IfSome}
use Rattle.std.specs.BTreeMap.{BTreeMap}
use Rattle.std.specs.declared.alloc.Global.{Global}
use Rattle.std.specs.declared.vec.Vec.{Vec}
use Rattle.cell_code.specs.declared.code.Code.{Code}
use Rattle.cell_code.specs.declared.code.Function.{Function}
use Rattle.cell_store.specs.Made.{Loading, Stored}
use Rattle.fip_language.specs.Core.{Name}
use Rattle.fip_language.specs.Every.{Every}
use Rattle.fip_language.specs.Store.{Placed, Parts, words_of, count}
use Rattle.fip_language.specs.Values.{Values}
use Rattle.fip_machine.specs.machine_cells.Small.{store_of}
use Rattle.fip_machine.specs.declared.machine.Ended.{Ended}
use Rattle.fip_machine.specs.declared.machine.Ended.TheVariants as M
use Rattle.cell_code.specs.Plain.{plain}
use Rattle.session_correctness.specs.tree_refinement.machine_semantics.Cells.{Store, IsStore, there}
use Rattle.session_correctness.specs.tree_refinement.machine_semantics.Runs.{loaded}
use Rattle.session_correctness.specs.tree_refinement.machine_semantics.States.{State as RunState}
use Rattle.session_correctness.specs.tree_refinement.machine_semantics.Steps.{Kinds}
use Rattle.session_correctness.specs.tree_refinement.separation.Codes.{AreKinds}
use Rattle.session_correctness.specs.tree_refinement.separation.Starts.{IsStart}
use Rattle.session_correctness.proofs.tree_refinement.separation.KindsFound.{kinds_found}
use Rattle.session_correctness.specs.Called.{IsGivenUp, IsSwept}
use Rattle.session_correctness.specs.Lodging.{Lodged, AreDistinct, but_all, lodge_all, lodged_uses}
use Rattle.session_correctness.proofs.Sharing.{distinct_but_all}
use Rattle.session_lines.specs.Named.{HasFrames}
use Rattle.session_lines.specs.instance_semantics.fip_trees.Tree.{Instance}
use Rattle.session_lines.specs.session_semantics.Lines.{Given as Written}
use Rattle.session_lines.specs.session_semantics.Talk.{Setting, State, free_frames}
use Rattle.store_trees.specs.Added.{places_of}
use Rattle.store_trees.specs.declared.trees.Trees.{Trees}
use Rattle.value_text.specs.Standing as V
use Rattle.fip_session.specs.Answered.{CanRun, CanRelease, IsReleased, IsAnswered}
use Rattle.fip_session.specs.Came.{Came}
use Rattle.fip_session.specs.Gone.{AreStanding, IsAny, IsLent, fresh_trees, all_uses, named_uses, lent_of}
use Rattle.fip_session.specs.Planned.{Finds, names_used}
use Rattle.fip_session.specs.declared.book.Book.{Book}
use Rattle.fip_session.specs.declared.book.Held.{Held}
use Rattle.fip_session.specs.declared.plan.Plan.{Plan}
use Rattle.fip_session.specs.declared.ready.Ready.{Ready}
use Rattle.fip_session.specs.declared.reply.Reply.TheVariants as Y
use Rattle.fip_session.proofs.Answering as A
use Rattle.fip_session.proofs.After as B
use Rattle.fip_session.proofs.GivingUp.{all_standing}
use Rattle.fip_session.proofs.Starting as S

module _ (o : Setting) (s : State) (b : Book) (p : Plan) (ls : List Lodged) (names : List Name) (i : ℕ) (d : Instance) (gs : List Written) (vs : Values) (old new : Loading) (r : Ready) (can : CanRun o s b p ls names i d gs vs old new r) where
  abbrev pub code : Code
  code = b.verified.now.code

  abbrev pub f : Function
  f = p.function.now

  abbrev pub xs : Parts
  xs = can.begun.ready.trees

  abbrev pub trees : List Placed
  trees = fresh_trees gs xs

  -- before the run
  module _ (cells0 : Stored) (same0 : cells0.cells ≡ new.cells) (released0 : cells0.released ≡ new.released) where
    stored : store_of cells0.cells cells0.released ≡ store_of new.cells new.released
    stored = ap (λ cs. store_of cs cells0.released) same0 ∙ ap (λ rs. store_of new.cells rs) released0

    pub small0 : length cells0.cells ≤ 16777216
    small0 = (let e = ap length same0 in let le = can.begun.small in omega (arith, e, le))

    pub stand0 : Every (λ l. V.Stands b.table.now cells0.cells l.type l.tree) ls
    stand0 = subst (λ tb. Every (λ l. V.Stands tb cells0.cells l.type l.tree) ls) (sym can.table) (subst (λ cs. Every (λ l. V.Stands code.types cs l.type l.tree) ls) (sym same0) can.begun.ready.lie.stand)

    pub standing0 : AreStanding IsAny b.table.now cells0.cells r.values.items trees
    standing0 =
        subst (λ tb. AreStanding IsAny tb cells0.cells r.values.items trees) (sym can.table)
        (subst (λ cs. AreStanding IsAny code.types cs r.values.items trees) (sym same0)
        (subst (λ fs. AreStanding IsAny code.types new.cells fs trees) (sym can.begun.ready.noted)
        (all_standing code.types new.cells f.params gs xs ls can.begun.ready.stand can.begun.ready.given)))

    all_apart : (q : ℕ) → all_uses trees q + named_uses ls (names_used p.arguments.given.items) q ≤ there (store_of cells0.cells cells0.released) q
    all_apart q =
        subst (λ t. all_uses trees q + named_uses ls (names_used p.arguments.given.items) q ≤ there t q) (sym stored)
        (subst (λ ns. all_uses trees q + named_uses ls ns q ≤ there (store_of new.cells new.released) q) (sym can.used)
        (A.fresh_apart o s code ls names p.entry f i d gs vs old new r can.begun q))

    pub apart0 : (q : ℕ) → all_uses trees q ≤ there (store_of cells0.cells cells0.released) q
    apart0 q = (let a = all_apart q in omega (arith, a))

    -- how it came out
    module _ (frames : ℕ) (exact : HasFrames (plain code) p.entry b.room.frames frames) (e : Ended) (given : List ℕ) (cells1 : Stored) (runs : (before waits : Kinds) (kept : List ℕ) (q : RunState) → IsStart (plain code) before waits p.entry kept q → (g : Function) → slice_get code.functions.items p.entry ≡ Some g → length r.words.items ≤ g.registers → loaded (plain code) p.entry (store_of cells0.cells cells0.released) r.words.items frames ≡ Some q → Came (plain code) before q b.room.calls e given (store_of cells1.cells cells1.released)) where
      abbrev before : Kinds
      before = (kinds_found (plain code)).0

      abbrev waits : Kinds
      waits = (kinds_found (plain code)).1

      pub kinds : AreKinds (plain code) before waits
      kinds = (kinds_found (plain code)).2

      pub frames_are : frames ≡ free_frames o i
      frames_are = can.begun.of.runs.has frames (subst (λ m. HasFrames (plain code) p.entry m frames) can.frames exact)

      abbrev u : Store
      u = store_of cells1.cells cells1.released

      pub came : Came (plain code) before (B.state o s code ls names p.entry f i d gs vs old new r can.begun frames) o.calls e given u
      came = subst (λ m. Came (plain code) before (B.state o s code ls names p.entry f i d gs vs old new r can.begun frames) m e given u) can.calls (runs before waits (S.kept code p.entry f can.begun.of.there can.begun.served.sound can.begun.served.literals ls gs vs old new r can.begun.kept.distinct can.begun.kept.held can.begun.store can.begun.ready) (B.state o s code ls names p.entry f i d gs vs old new r can.begun frames) (B.starts o s code ls names p.entry f i d gs vs old new r can.begun before waits kinds frames) f can.begun.of.there (B.fits o s code ls names p.entry f i d gs vs old new r can.begun) (subst (λ t. loaded (plain code) p.entry t r.words.items frames ≡ Some (B.state o s code ls names p.entry f i d gs vs old new r can.begun frames)) (sym stored) (S.loads code p.entry f can.begun.of.there can.begun.served.sound can.begun.served.literals ls gs vs old new r can.begun.kept.distinct can.begun.kept.held can.begun.store can.begun.ready frames)))

      pub small1 : length cells1.cells ≤ 16777216
      small1 = (let l = B.long_u o s code ls names p.entry f i d gs vs old new r can.begun before waits kinds frames frames_are e given u came in let le = can.begun.small in omega (arith, l, le))

      pub store1 : IsStore u
      store1 = B.store_u o s code ls names p.entry f i d gs vs old new r can.begun before waits kinds frames frames_are e given u came

      pub forgotten : (b1 : BTreeMap (Vec ℕ Global) Held) → ((ms : List Lodged) → Finds b.held ms → Finds b1 (but_all (names_used p.arguments.given.items) ms)) → Finds b1 (but_all (A.used o s code ls names p.entry f i d gs vs old new r can.begun) ls)
      forgotten b1 forgets = subst (λ ns. Finds b1 (but_all ns ls)) can.used (forgets ls can.finds)

      -- with a value
      module _ (is : e ≡ M.Value) where
        pub lent1 : AreStanding IsLent b.table.now cells1.cells r.values.items trees
        lent1 =
            subst (λ tb. AreStanding IsLent tb cells1.cells r.values.items trees) (sym can.table)
            (subst (λ fs. AreStanding IsLent code.types cells1.cells fs trees) (sym can.begun.ready.noted)
            (B.lent_stands o s code ls names p.entry f i d gs vs old new r can.begun before waits kinds frames frames_are e given u came))

        pub lent_apart1 : (q : ℕ) → lent_of r.values.items trees q ≤ there u q
        lent_apart1 q = subst (λ fs. lent_of fs trees q ≤ there u q) (sym can.begun.ready.noted) (B.lent_apart o s code ls names p.entry f i d gs vs old new r can.begun before waits kinds frames frames_are e given u came q)

        abbrev results : B.HasResults o s code ls names p.entry f i d gs vs old new r can.begun before waits kinds frames frames_are e given u came
        results = A.results o s code ls names p.entry f i d gs vs old new r can.begun before waits kinds frames frames_are e given u came cells1 is

        -- the results get their names
        pub named : (b1 b2 : BTreeMap (Vec ℕ Global) Held) (types : List ℕ) → types ≡ f.results → ((ms : List Lodged) → Finds b.held ms → Finds b1 (but_all (names_used p.arguments.given.items) ms)) → ((ms : List Lodged) (ys : Parts) → Finds b1 ms → given ≡ words_of ys → length names ≡ length types → length types ≡ length given → AreDistinct (ms ++ lodge_all names types ys) → Finds b2 (ms ++ lodge_all names types ys)) → Finds b2 (but_all (A.used o s code ls names p.entry f i d gs vs old new r can.begun) ls ++ lodge_all names f.results results.trees)
        named b1 b2 types same forgets holds =
            subst (λ ts. Finds b2 (but_all (A.used o s code ls names p.entry f i d gs vs old new r can.begun) ls ++ lodge_all names ts results.trees)) same
            (holds (but_all (A.used o s code ls names p.entry f i d gs vs old new r can.begun) ls) results.trees (forgotten b1 forgets) results.words
            (A.names_many o s code ls names p.entry f i d gs vs old new r can.begun before waits kinds frames frames_are e given u came cells1 is ∙ ap length (sym same))
            (ap length same ∙ A.results_many o s code ls names p.entry f i d gs vs old new r can.begun before waits kinds frames frames_are e given u came cells1 is)
            (subst (λ ts. AreDistinct (but_all (A.used o s code ls names p.entry f i d gs vs old new r can.begun) ls ++ lodge_all names ts results.trees)) (sym same) results.distinct))

        pub value_answered : (b2 : BTreeMap (Vec ℕ Global) Held) (cells2 : Stored) → Finds b2 (but_all (A.used o s code ls names p.entry f i d gs vs old new r can.begun) ls ++ lodge_all names f.results results.trees) → IsGivenUp (lent_of r.values.items trees) u (store_of cells2.cells cells2.released) → IsAnswered o s code.types names i d gs vs b2 cells2 Y.Done
        value_answered b2 cells2 finds up =
            A.answered_value o s code ls names p.entry f i d gs vs old new r can.begun before waits kinds frames frames_are e given u came cells2 is b2 Y.Done refl finds (subst (λ fs. IsGivenUp (lent_of fs trees) u (store_of cells2.cells cells2.released)) can.begun.ready.noted up)

      -- with none
      module _ (not : e ≡ M.Value → ⊥) where
        pub can_release : (b1 : Book) (noted : Option Trees) → b1.table.now ≡ b.table.now → ((ms : List Lodged) → Finds b.held ms → Finds b1.held (but_all (names_used p.arguments.given.items) ms)) → IfSome noted (λ t. (q : ℕ) → count q (places_of t.list.items) ≡ all_uses trees q + named_uses ls (names_used p.arguments.given.items) q) → CanRelease b1 (but_all (A.used o s code ls names p.entry f i d gs vs old new r can.begun) ls) u noted (λ q. all_uses trees q + named_uses ls (names_used p.arguments.given.items) q) r.credits.items can.begun.ready.spares
        can_release b1 noted table forgets are = record {
          finds = forgotten b1.held forgets;
          distinct = distinct_but_all (A.used o s code ls names p.entry f i d gs vs old new r can.begun) ls can.begun.kept.distinct;
          stand = subst (λ tb. Every (λ l. V.Stands tb cells1.cells l.type l.tree) (but_all (A.used o s code ls names p.entry f i d gs vs old new r can.begun) ls)) (sym (table ∙ can.table)) (B.after_lies o s code ls names p.entry f i d gs vs old new r can.begun before waits kinds frames frames_are e given u came);
          apart = B.after_apart o s code ls names p.entry f i d gs vs old new r can.begun before waits kinds frames frames_are e given u came;
          are = are;
          words = can.begun.ready.credits_are;
          few = A.places_within new.cells can.begun.ready.spares f.credits.items can.begun.small can.begun.ready.zero;
        }

        pub end_answered : (b1 : BTreeMap (Vec ℕ Global) Held) (cells2 : Stored) (calls : ℕ) → calls ≡ b.room.calls → ((ms : List Lodged) → Finds b.held ms → Finds b1 (but_all (names_used p.arguments.given.items) ms)) → IsReleased (but_all (A.used o s code ls names p.entry f i d gs vs old new r can.begun) ls) (λ q. all_uses trees q + named_uses ls (names_used p.arguments.given.items) q) can.begun.ready.spares u (store_of cells2.cells cells2.released) → IsAnswered o s code.types names i d gs vs b1 cells2 (Y.NoValue e calls frames)
        end_answered b1 cells2 calls same forgets up =
            A.answered_end o s code ls names p.entry f i d gs vs old new r can.begun before waits kinds frames frames_are e given u came cells2 not b1 calls frames (Y.NoValue e calls frames) refl (same ∙ can.calls) refl (forgotten b1 forgets)
            (subst (λ ns. IsReleased (but_all (A.used o s code ls names p.entry f i d gs vs old new r can.begun) ls) (λ q. all_uses trees q + named_uses ls ns q) can.begun.ready.spares u (store_of cells2.cells cells2.released)) can.used up)
